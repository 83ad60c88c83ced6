-- A text has one reading or one first fault.
use Rattle.std.proofs.Common.{◌≡◌, ◌⊎◌, inl, inr, ℕ, Bool, List, Ok, Err, refl, sym, ap, ◌∙◌, subst}
use Rattle.std.specs.Cmp.{both_ways}
use Rattle.qs_callgraph.specs.Opens.{TellsOpen}
use Rattle.qs_core.specs.Trees.{CoreUnitTree}
use Rattle.qs_sexpr.specs.Reading as lists
use Rattle.qs_sexpr.specs.Results as list_results
use Rattle.qs_sexpr.specs.Trees.{Sexps}
use Rattle.qs_sexpr.specs.declared.fault.SexprFault.{SexprFault}
use Rattle.qs_sexpr.proofs.OneReading as one_list_reading
use Rattle.qs_triples.specs.Derivations.{ProofsTree}
use Rattle.qs_prooftext_meaning.specs.declared.fault.TextFault.{TextFault}
use Rattle.qs_prooftext_meaning.specs.declared.fault.TextFault.TheVariants as faults
use Rattle.qs_prooftext_meaning.specs.Meanings.{Answer}
use Rattle.qs_prooftext_meaning.specs.Proofs.{has_list, file_means}
use Rattle.qs_prooftext_meaning.specs.Reading.{Reading, Fault, no_lists, no_meaning, told}
use Rattle.qs_prooftext_meaning.specs.Laws.{CanTellOpen, HasReading, HasFault}

-- ---- which functions are open

same_open : (u : CoreUnitTree) (has p q : ℕ → Bool) → TellsOpen u has p → TellsOpen u has q → (f : ℕ) → p f ≡ q f
same_open u has p q h k f =
    both_ways (p f) (q f) (λ e. k.all_there f (h.open_ones f e)) (λ e. h.all_there f (k.open_ones f e))

same_means : (u : CoreUnitTree) (text : List ℕ) (file other : Sexps) (p q : ℕ → Bool) → lists.Reading text file → lists.Reading text other → TellsOpen u (has_list u file) p → TellsOpen u (has_list u other) q → file_means u p file ≡ file_means u q other
same_means u text file other p q r s h k =
    let e : file ≡ other = one_list_reading.one_list text file other r s in
    let there : TellsOpen u (has_list u other) p = subst (λ (ss : Sexps). TellsOpen u (has_list u ss) p) e h in
    λ i. file_means u (λ f. same_open u (has_list u other) p q there k f i) (e i)

-- ---- what is in an answer

ok_of : Answer ProofsTree → ProofsTree → ProofsTree
ok_of (Ok proofs) otherwise = proofs
ok_of (Err fault) otherwise = otherwise

err_of : Answer ProofsTree → TextFault
err_of (Ok proofs) = faults.NoMemory
err_of (Err fault) = fault

is_ok : Answer ProofsTree → Type 0
is_ok (Ok proofs) = Unit {0}
is_ok (Err fault) = ⊥

apart : (proofs : ProofsTree) (fault : TextFault) → Ok proofs ≡ Err fault → ⊥
unfolding is_ok
apart proofs fault e = let P : Answer ProofsTree → Type 0 = is_ok in subst P e tt

-- ---- one reading or one fault

pub one_proofs : (u : CoreUnitTree) (text : List ℕ) (proofs others : ProofsTree) → Reading u text proofs → Reading u text others → proofs ≡ others
unfolding ok_of
one_proofs u text proofs others r s =
    ap (λ (a : Answer ProofsTree). ok_of a proofs) (sym r.means ∙ (same_means u text r.file s.file r.is_open s.is_open r.reads s.reads r.tells_open s.tells_open ∙ s.means))

pub not_both : (u : CoreUnitTree) (text : List ℕ) (proofs : ProofsTree) (fault : TextFault) → Reading u text proofs → Fault u text fault → ⊥
not_both u text proofs fault r (no_lists inner f) = one_list_reading.not_both text r.file inner r.reads f
not_both u text proofs fault r (no_meaning file is_open due reads tells means) =
    apart proofs due (sym r.means ∙ (same_means u text r.file file r.is_open is_open r.reads reads r.tells_open tells ∙ means))

pub one_fault : (u : CoreUnitTree) (text : List ℕ) (fault other : TextFault) → Fault u text fault → Fault u text other → fault ≡ other
unfolding err_of
one_fault u text fault other (no_lists inner f) (no_lists again g) =
    ap (λ (x : SexprFault). told x) (one_list_reading.one_fault text inner again f g)
one_fault u text fault other (no_lists inner f) (no_meaning file is_open due reads tells means) =
    absurd (one_list_reading.not_both text file inner reads f)
one_fault u text fault other (no_meaning file is_open due reads tells means) (no_lists inner f) =
    absurd (one_list_reading.not_both text file inner reads f)
one_fault u text fault other (no_meaning file is_open due reads tells means) (no_meaning file2 is_open2 due2 reads2 tells2 means2) =
    ap (λ (a : Answer ProofsTree). err_of a) (sym means ∙ (same_means u text file file2 is_open is_open2 reads reads2 tells tells2 ∙ means2))

by_answer : (u : CoreUnitTree) (text : List ℕ) (file : Sexps) (is_open : ℕ → Bool) → lists.Reading text file → TellsOpen u (has_list u file) is_open → (a : Answer ProofsTree) → file_means u is_open file ≡ a → HasReading u text ⊎ HasFault u text
by_answer u text file is_open r h (Ok proofs) e =
    inl (record { proofs = proofs; reading = record { file = file; reads = r; is_open = is_open; tells_open = h; means = e } })
by_answer u text file is_open r h (Err fault) e =
    inr (record { fault = fault; is = no_meaning file is_open fault r h e })

by_lists : (u : CoreUnitTree) (text : List ℕ) (is_open : ℕ → Bool) → CanTellOpen u text is_open → list_results.HasReading text ⊎ list_results.HasFault text → HasReading u text ⊎ HasFault u text
by_lists u text is_open h (inl r) =
    by_answer u text r.parts is_open r.reading (h r.parts r.reading) (file_means u is_open r.parts) refl
by_lists u text is_open h (inr f) = inr (record { fault = told f.fault; is = no_lists f.fault f.is })

pub one : (u : CoreUnitTree) (text : List ℕ) (is_open : ℕ → Bool) → CanTellOpen u text is_open → HasReading u text ⊎ HasFault u text
one u text is_open h = by_lists u text is_open h (one_list_reading.one text)
