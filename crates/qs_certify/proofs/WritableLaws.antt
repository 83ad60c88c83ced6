-- What is certified without a file can be written.
use Rattle.std.proofs.Common.{◌≡◌, ℕ, ◌+◌, ◌<◌, ◌≤◌, ◌^◌, ◌==◌, ◌&&◌, ◌||◌, Bool, true, false, cond, if◌then◌else◌, List, [], ◌∷◌, ◌++◌, map, filter, length, ⊎_elim, refl, sym, ap, ◌∙◌, subst, arith}
use Rattle.std.specs.Prelude.{bytes_eq, nat_le, not}
use Rattle.std.specs.List.{list_any, list_all}
use Rattle.std.proofs.lemmas.Bool.{and_parts, and_from, or_left, or_right, both_ways, false_from_ne_true, eq-eqb, cases_eq}
use Rattle.std.proofs.lemmas.Bool.Decides.{nat_tests}
use Rattle.std.proofs.lemmas.List.{append_assoc, append-nil, length-map}
use Rattle.qs_assert.specs.declared.define.Define.{Define}
use Rattle.qs_assert.specs.Trees.{AssertionTree, named, assertions_of, assertion_list}
use Rattle.qs_calls.specs.declared.callee.Callee.{Callee}
use Rattle.qs_calls.specs.declared.callee.Callee.TheVariants.{Function, PutChar, GetChar}
use Rattle.qs_core.specs.CallGraph.{called_by, no_call, is_member}
use Rattle.qs_core.specs.Fits.{differ, unit_fits}
use Rattle.qs_core.specs.Trees.{CoreStmtTree, skip, seq, assign, store, copy, fill, call, branch, loop, switch, break, continue, return, CoreStmts, no_stmts, stmt_and, CoreFunctionTree, CoreUnitTree}
use Rattle.qs_core.specs.FunctionNames.{function_name}
use Rattle.qs_core.specs.Nesting.{unit_nesting}
use Rattle.qs_triples.specs.Derivations.{EntryTree, ProofsTree, is_entry_of}
use Rattle.qs_triples.specs.Entries.{has_entry}
use Rattle.qs_triples.specs.Filled.{for_call, for_calls, open_definition, path_pre}
use Rattle.qs_callgraph.specs.CallLists.{flag, numbers}
use Rattle.qs_callgraph.specs.Orders.{CalleesFirst}
use Rattle.qs_callgraph.proofs.MemberLaws.{member_first, first_cases}
use Rattle.qs_callgraph.proofs.UnitCalls.{call_within}
use Rattle.qs_prooftext_meaning.specs.Proofs.{no_proofs, is_among, is_defined, is_open_name, defined_names}
use Rattle.qs_prooftext_meaning.specs.Settings.{Setting, functions_of, in_definition, in_entry, numbered}
use Rattle.qs_prooftext_meaning.specs.Writable.{is_function, definition_stands, definitions_stand, certificate_stands, derivation_stands, derivations_stand, entry_stands, entry_stands_in, IsWritable}
use Rattle.qs_analyse.specs.Additions.{IsFilling}
use Rattle.qs_analyse.specs.Fillable.{body_of, open_entry, path_entry, entries_only, with_entries}
use Rattle.qs_analyse.specs.Written.{pick_certificate, written_call, written, all_written}
use Rattle.qs_analyse.proofs.AddedLaws.{found}
use Rattle.qs_analyse.proofs.NameLaws.{same_self, one_name}
use Rattle.qs_analyse.proofs.SettingLaws.{there_at}
use Rattle.qs_certify.specs.Laws.{nesting_limit, AddedIsWritable}
use Rattle.qs_certify.proofs.AddedForms.{added_low}

-- ---- derivations have a meaning where the name of their function has one

pick_stands : (g : Setting) (callees : List ℕ) (h : ℕ) → certificate_stands g (pick_certificate callees h) ≡ true
pick_stands g [] h = refl
pick_stands g (f ∷ []) h = refl
pick_stands g (f ∷ i ∷ fs) h = refl

module _ (g : Setting) (name : List ℕ) (has : g.has_name name ≡ true) (callees : List ℕ) where
  call_stands : (h : Callee) → derivation_stands g (written_call name callees h) ≡ true
  call_stands (Function h) =
      let picked = and_from (certificate_stands g (pick_certificate callees h.0)) true (pick_stands g callees h.0) refl in
      and_from _ true (and_from (g.has_name name) _ has picked) refl
  call_stands PutChar = refl
  call_stands GetChar = refl

  mutual
    written_stands : (s : CoreStmtTree) → derivation_stands g (written name callees s) ≡ true
    written_stands skip = refl
    written_stands (seq ss) = all_stand ss
    written_stands (assign x e) = refl
    written_stands (store s to e) = refl
    written_stands (copy size alignment to from) = refl
    written_stands (fill contents to) = refl
    written_stands (call x h es) = call_stands h
    written_stands (branch e s t) = and_from (derivation_stands g (written name callees s)) (derivation_stands g (written name callees t)) (written_stands s) (written_stands t)
    written_stands (loop body step) =
        and_from _ (derivation_stands g (written name callees step))
        (and_from _ (derivation_stands g (written name callees body)) (and_from (g.has_name name) true has refl) (written_stands body)) (written_stands step)
    written_stands (switch e labels ss) = all_stand ss
    written_stands break = refl
    written_stands continue = refl
    written_stands (return e) = refl

    all_stand : (ss : CoreStmts) → derivations_stand g (all_written name callees ss) ≡ true
    all_stand no_stmts = refl
    all_stand (stmt_and s ss) = and_from (derivation_stands g (written name callees s)) (derivations_stand g (all_written name callees ss)) (written_stands s) (all_stand ss)

-- ---- functions

numbered_there : {A : Type 0} (i : ℕ) (xs : List A) (f : ℕ) → i ≤ f → f < i + length xs → list_any (λ (row : A × ℕ). row.1 == f) (numbered i xs) ≡ true
numbered_there i [] f from to = absurd (omega (arith, from, to))
numbered_there i (x ∷ xs) f from to =
    ⊎_elim
    (λ (e : i ≡ f). or_left (i == f) (list_any (λ row. row.1 == f) (numbered (i + 1) xs)) (eq-eqb i f e))
    (λ (d : i ≡ f → ⊥). or_right (i == f) (list_any (λ row. row.1 == f) (numbered (i + 1) xs)) (numbered_there (i + 1) xs f (omega (arith, from, d)) (omega (arith, to))))
    (cases_eq i f)

function_there : (u : CoreUnitTree) (f : ℕ) → f < length u.functions → is_function (in_definition u) f ≡ true
function_there u f b =
    numbered_there 0 (map (λ (g : CoreFunctionTree). g.name) u.functions) f (omega arith) (omega (arith, b, length-map u.functions (λ (g : CoreFunctionTree). g.name)))

-- ---- definitions

are_two : (a b : AssertionTree) (rest : List AssertionTree) → nat_le 2 (length (a ∷ b ∷ rest)) ≡ true
are_two a b rest = grind (arith, nat_tests)

module _ (u : CoreUnitTree) where
  abbrev by_name : ℕ → AssertionTree
  by_name g = named (function_name u g)

  need_stands : (g : ℕ) → g < length u.functions → definition_stands (in_definition u) (for_call by_name g) ≡ true
  need_stands g b = and_from (is_function (in_definition u) g) true (function_there u g b) refl

  abbrev AreWithin : List ℕ → Type 0
  AreWithin fs = (f : ℕ) → is_member f fs ≡ true → f < length u.functions

  others_within : (f : ℕ) (fs : List ℕ) → AreWithin (f ∷ fs) → AreWithin fs
  others_within f fs within g m = within g (or_right (f == g) (is_member g fs) m)

  needs_stand : (gs : List ℕ) → AreWithin gs → definitions_stand (in_definition u) (assertions_of (map (for_call by_name) gs)) ≡ true
  needs_stand [] within = refl
  needs_stand (g ∷ gs) within =
      and_from (definition_stands (in_definition u) (for_call by_name g)) (definitions_stand (in_definition u) (assertions_of (map (for_call by_name) gs)))
      (need_stands g (within g (member_first g gs))) (needs_stand gs (others_within g gs within))

  body_stands : (gs : List ℕ) → AreWithin gs → definition_stands (in_definition u) (for_calls by_name gs) ≡ true
  body_stands [] within = refl
  body_stands (g ∷ []) within = need_stands g (within g (member_first g []))
  body_stands (g ∷ h ∷ gs) within = and_from _ (definitions_stand (in_definition u) (assertions_of (map (for_call by_name) (g ∷ h ∷ gs)))) (are_two (for_call by_name g) (for_call by_name h) (assertion_list (assertions_of (map (for_call by_name) gs)))) (needs_stand (g ∷ h ∷ gs) within)

  all_stand_so : (fs : List ℕ) → list_all (λ (d : Define). definition_stands (in_definition u) d.body) (map (open_definition u) fs) ≡ true
  all_stand_so [] = refl
  all_stand_so (f ∷ fs) =
      and_from (definition_stands (in_definition u) (open_definition u f).body) (list_all (λ (d : Define). definition_stands (in_definition u) d.body) (map (open_definition u) fs))
      (body_stands (called_by u f) (λ g m. call_within u f g m)) (all_stand_so fs)

  -- ---- entries

  entry_stands_so : (has_name : List ℕ → Bool) (f : ℕ) → f < length u.functions → has_name (function_name u f) ≡ true → entry_stands u has_name (open_entry u f) ≡ true
  entry_stands_so has_name f b has =
      let x = there_at u.functions f b in
      let named_so = and_from (has_name (function_name u f)) (has_name (function_name u f)) has has in
      ap (entry_stands_in u has_name (open_entry u f)) x.1
      ∙ and_from _ (derivation_stands (in_entry u x.0 has_name) (open_entry u f).body) (and_from _ true named_so refl)
      (all_stand (in_entry u x.0 has_name) (function_name u f) has (called_by u f) (body_of u f))

  entries_stand_so : (has_name : List ℕ → Bool) (fs : List ℕ) → AreWithin fs → ((f : ℕ) → is_member f fs ≡ true → has_name (function_name u f) ≡ true) → list_all (entry_stands u has_name) (map (open_entry u) fs) ≡ true
  entries_stand_so has_name [] within has = refl
  entries_stand_so has_name (f ∷ fs) within has =
      and_from (entry_stands u has_name (open_entry u f)) (list_all (entry_stands u has_name) (map (open_entry u) fs))
      (entry_stands_so has_name f (within f (member_first f fs)) (has f (member_first f fs)))
      (entries_stand_so has_name fs (others_within f fs within) (λ g m. has g (or_right (f == g) (is_member g fs) m)))

  -- ---- names and numbers

  among : (fs : List ℕ) (f : ℕ) → is_member f fs ≡ true → is_among (map (λ (d : Define). d.name) (map (open_definition u) fs)) (function_name u f) ≡ true
  among [] f m = absurd (both_ways false refl m)
  among (g ∷ fs) f m =
      ⊎_elim
      (λ (e : g ≡ f). or_left (bytes_eq (function_name u f) (function_name u g)) (is_among (map (λ (d : Define). d.name) (map (open_definition u) fs)) (function_name u f))
      (ap (λ (h : ℕ). bytes_eq (function_name u f) (function_name u h)) e ∙ same_self (function_name u f)))
      (λ (k : is_member f fs ≡ true). or_right (bytes_eq (function_name u f) (function_name u g)) (is_among (map (λ (d : Define). d.name) (map (open_definition u) fs)) (function_name u f)) (among fs f k))
      (first_cases f g fs m)

  functions_are : (fs : List ℕ) → map (λ (e : EntryTree). e.function) (map (open_entry u) fs) ≡ fs
  functions_are [] = refl
  functions_are (f ∷ fs) = ap (λ (gs : List ℕ). f ∷ gs) (functions_are fs)

  entered : (fs : List ℕ) (f : ℕ) → list_any (is_entry_of f) (map (open_entry u) fs) ≡ is_member f fs
  entered [] f = refl
  entered (g ∷ fs) f = ap (λ (b : Bool). (g == f) || b) (entered fs f)

  never_open : (rows : List (List ℕ × ℕ)) (name : List ℕ) → list_any (λ row. bytes_eq row.0 name && false) rows ≡ false
  never_open [] name = refl
  never_open (row ∷ rows) name = ap (λ (b : Bool). b || list_any (λ r. bytes_eq r.0 name && false) rows) (neither (bytes_eq row.0 name)) ∙ never_open rows name
    where
      neither : (b : Bool) → (b && false) ≡ false
      neither true = refl
      neither false = refl

  none_open : (names : List (List ℕ)) → list_any (is_open_name u (λ f. false)) names ≡ false
  none_open [] = refl
  none_open (name ∷ names) =
      ap (λ (b : Bool). b || list_any (is_open_name u (λ f. false)) names) (never_open (functions_of u) name) ∙ none_open names

-- ---- each function once

module _ (callees : ℕ → List ℕ) (has_spec : ℕ → Bool) where
  not_again : (earlier fs : List ℕ) (f : ℕ) → CalleesFirst callees has_spec earlier fs → is_member f earlier ≡ true → is_member f fs ≡ false
  not_again earlier [] f c m = refl
  not_again earlier (g ∷ fs) f c m =
      false_from_ne_true (is_member f (g ∷ fs)) (λ k. ⊎_elim
      (λ (e : g ≡ f). both_ways (is_member g earlier) c.0 (subst (λ (h : ℕ). is_member h earlier ≡ true) (sym e) m))
      (λ (k : is_member f fs ≡ true). both_ways (is_member f fs) (not_again (g ∷ earlier) fs f c.2 (or_right (g == f) (is_member f earlier) m)) k)
      (first_cases f g fs k))

  others : (f : ℕ) (fs : List ℕ) → is_member f fs ≡ false → list_all (λ g. not (f == g)) fs ≡ true
  others f [] m = refl
  others f (g ∷ fs) m =
      and_from (not (f == g)) (list_all (λ g. not (f == g)) fs)
      (ap not (false_from_ne_true (f == g) (λ e. both_ways (is_member f (g ∷ fs)) m (or_left (g == f) (is_member f fs) (grind (arith, nat_tests, e))))))
      (others f fs (false_from_ne_true (is_member f fs) (λ k. both_ways (is_member f (g ∷ fs)) m (or_right (g == f) (is_member f fs) k))))

  numbers_differ : (earlier fs : List ℕ) → CalleesFirst callees has_spec earlier fs → differ ◌==◌ fs ≡ true
  numbers_differ earlier [] c = refl
  numbers_differ earlier (f ∷ fs) c =
      and_from (list_all (λ g. not (f == g)) fs) (differ ◌==◌ fs)
      (others f fs (not_again (f ∷ earlier) fs f c.2 (member_first f earlier))) (numbers_differ (f ∷ earlier) fs c.2)

module _ (u : CoreUnitTree) (fits : unit_fits u ≡ true) where
  other_names : (f : ℕ) (fs : List ℕ) → f < length u.functions → AreWithin u fs → list_all (λ g. not (f == g)) fs ≡ true
      → list_all (λ n. not (bytes_eq (function_name u f) n)) (map (λ (d : Define). d.name) (map (open_definition u) fs)) ≡ true
  other_names f [] b within apart = refl
  other_names f (g ∷ fs) b within apart =
      let two = and_parts (not (f == g)) (list_all (λ g. not (f == g)) fs) apart in
      and_from (not (bytes_eq (function_name u f) (function_name u g))) (list_all (λ n. not (bytes_eq (function_name u f) n)) (map (λ (d : Define). d.name) (map (open_definition u) fs)))
      (ap not (false_from_ne_true (bytes_eq (function_name u f) (function_name u g)) (λ same.
      let e : f ≡ g = one_name u f g fits b (within g (member_first g fs)) same in
      both_ways (not (f == g)) (ap not (eq-eqb f g e)) two.0)))
      (other_names f fs b (others_within u g fs within) two.1)

  names_differ : (fs : List ℕ) → AreWithin u fs → differ ◌==◌ fs ≡ true → differ bytes_eq (map (λ (d : Define). d.name) (map (open_definition u) fs)) ≡ true
  names_differ [] within apart = refl
  names_differ (f ∷ fs) within apart =
      let two = and_parts (list_all (λ g. not (f == g)) fs) (differ ◌==◌ fs) apart in
      and_from (list_all (λ n. not (bytes_eq (function_name u f) n)) (map (λ (d : Define). d.name) (map (open_definition u) fs))) (differ bytes_eq (map (λ (d : Define). d.name) (map (open_definition u) fs)))
      (other_names f fs (within f (member_first f fs)) (others_within u f fs within) two.0) (names_differ fs (others_within u f fs within) two.1)

  -- ---- what is added for these

  abbrev added : List ℕ → ProofsTree
  added fs = record { defines = map (open_definition u) fs; functions = map (open_entry u) fs }

  writable_so :
      (fs : List ℕ) → length u.functions < 2 ^ 63 → unit_nesting u ≤ nesting_limit → AreWithin u fs → differ ◌==◌ fs ≡ true
      → ((f : ℕ) → f < length u.functions → is_member f fs ≡ true) → IsWritable u (added fs)
  writable_so fs few nest within apart there = record {
    is_open = λ f. false;
    tells_open = record {
      open_ones = λ f h. absurd (both_ways false refl h);
      all_there = λ f o. absurd (both_ways (has_entry (added fs) f) (o.none f (no_call f)) (found (is_entry_of f) (map (open_entry u) fs) ∙ entered u fs f ∙ there f o.known));
    };
    forms = added_low u fits nesting_limit fs few nest within;
    defined_once = names_differ fs within apart;
    entered_once = ap (differ ◌==◌) (functions_are u fs) ∙ apart;
    not_open = none_open u (defined_names (added fs));
    defines_stand = all_stand_so u fs;
    entries_stand = entries_stand_so u (is_defined (record { unit = u; is_open = λ f. false; proofs = added fs })) fs within (λ f m.
        or_right (is_open_name u (λ f. false) (function_name u f)) (is_among (defined_names (added fs)) (function_name u f)) (among u fs f m));
  }

-- ---- without a file every function is open

module _ (u : CoreUnitTree) (is_open : ℕ → Bool) where
  all_open : (entries : List EntryTree) (fs : List ℕ) → ((f : ℕ) → is_member f fs ≡ true → is_open f ≡ true) → with_entries u is_open entries fs ≡ entries ++ map (open_entry u) fs
  all_open entries [] are = sym (append-nil entries)
  all_open entries (f ∷ fs) are =
      ap (λ (b : Bool). with_entries u is_open (entries ++ (if b then open_entry u f else path_entry f (path_pre (entries_only entries) (called_by u f))) ∷ []) fs) (are f (member_first f fs))
      ∙ all_open (entries ++ open_entry u f ∷ []) fs (λ g m. are g (or_right (f == g) (is_member g fs) m))
      ∙ append_assoc entries (open_entry u f ∷ []) (map (open_entry u) fs)

  all_kept : (fs : List ℕ) → ((f : ℕ) → is_member f fs ≡ true → is_open f ≡ true) → filter is_open fs ≡ fs
  all_kept [] are = refl
  all_kept (f ∷ fs) are =
      ap (λ (b : Bool). cond b (f ∷ filter is_open fs) (filter is_open fs)) (are f (member_first f fs))
      ∙ ap (λ (gs : List ℕ). f ∷ gs) (all_kept fs (λ g m. are g (or_right (f == g) (is_member g fs) m)))

pub filling_is_writable :
    (u : CoreUnitTree) (proofs : ProofsTree) → unit_fits u ≡ true → length u.functions < 2 ^ 63 → unit_nesting u ≤ nesting_limit
    → IsFilling u no_proofs proofs → IsWritable u proofs
filling_is_writable u proofs fits few nest h =
    let a = h.additions in
    let fs = numbers a.functions.items in
    let is_open = flag a.is_open.items in
    let order = h.are.order in
    let are : (f : ℕ) → is_member f fs ≡ true → is_open f ≡ true = λ f m. h.are.tells_open.all_there f (record { known = order.known f m; none = λ g l. refl }) in
    let defines : proofs.defines ≡ map (open_definition u) fs =
    h.extends.defines ∙ append-nil (map (open_definition u) (numbers a.opened.items)) ∙ ap (map (open_definition u)) (h.are.opened ∙ all_kept u is_open fs are) in
    let functions : proofs.functions ≡ map (open_entry u) fs = h.extends.functions ∙ all_open u is_open [] fs are in
    subst (IsWritable u) (same_proofs (added u fits fs) proofs (sym defines) (sym functions))
    (writable_so u fits fs few nest order.known (numbers_differ (called_by u) (has_entry no_proofs) [] fs order.in_order) (λ f b. order.all_there f b refl))
  where
    proofs_of : List Define → List EntryTree → ProofsTree
    proofs_of ds es = record { defines = ds; functions = es }

    same_proofs : (p q : ProofsTree) → p.defines ≡ q.defines → p.functions ≡ q.functions → p ≡ q
    same_proofs p q ds es = ap (λ (x : List Define). proofs_of x p.functions) ds ∙ ap (λ (x : List EntryTree). proofs_of q.defines x) es

pub added_is_writable : AddedIsWritable
added_is_writable u given proofs fits few nest c =
    filling_is_writable u proofs fits few nest (subst (λ (p : ProofsTree). IsFilling u p proofs) c.given_is c.all.filling)
