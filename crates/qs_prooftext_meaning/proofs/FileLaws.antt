-- What is written of proofs reads back to them.
use Rattle.std.proofs.Common.{arith, ◌≡◌, ℕ, ◌==◌, ◌||◌, not, Bool, true, false, List, [], ◌∷◌, ◌++◌, map, append_assoc, refl, sym, ap, subst, ◌∙◌, if◌then◌else◌, Option, Some, None, is_some, Ok, Err}
use Rattle.std.specs.Prelude.{bytes_eq, codes}
use Rattle.std.specs.List.{slice_get, list_any, list_all, find}
use Rattle.std.proofs.Math.Path.{fun_ext}
use Rattle.std.proofs.lemmas.List.{append-nil}
use Rattle.std.proofs.lemmas.Slice.Eq.{bytes_eq-Decides}
use Rattle.std.proofs.lemmas.Bool.{or_parts, not-true, and_parts}
use Rattle.std.proofs.lemmas.Option.{same_Some}
use Rattle.std.specs.Cmp.{first_so, second_so}
use Rattle.qs_base.specs.Names.{is_name}
use Rattle.qs_base.specs.Results.{bind}
use Rattle.qs_assert.specs.declared.define.Define.{Define}
use Rattle.qs_assert.specs.Trees.{AssertionTree}
use Rattle.qs_core.proofs.FitLaws.{function_at_fits, unit_parts}
use Rattle.qs_callgraph.specs.Opens.{TellsOpen}
use Rattle.qs_core.specs.Fits.{differ, unit_fits}
use Rattle.qs_core.specs.Trees.{CoreFunctionTree, CoreUnitTree}
use Rattle.qs_core.specs.FunctionNames.{function_name, name_in}
use Rattle.qs_sexpr.specs.Spelling.{ReadsAs}
use Rattle.qs_sexpr.specs.Trees.{Sexp, Sexps}
use Rattle.qs_sexpr.specs.Writing.{Form}
use Rattle.qs_triples.specs.Derivations.{EntryTree, ProofsTree, is_entry_of}
use Rattle.qs_triples.specs.Entries.{has_entry}
use Rattle.qs_prooftext_meaning.specs.declared.fault.TextFault.TheVariants.{Duplicate}
use Rattle.qs_prooftext_meaning.specs.Kinds.{a_definition_body, a_precondition, a_postcondition, an_entry_certificate, a_body}
use Rattle.qs_prooftext_meaning.specs.Meanings.{Answer, means, each_means}
use Rattle.qs_prooftext_meaning.specs.Proofs.{Sofar, entry_means, entry_names, file_means, has_list, is_among, is_defined, is_open_name, named_entry_means, top_means, tops_mean, with_define, with_entry}
use Rattle.qs_prooftext_meaning.specs.Reading.{Reading}
use Rattle.qs_prooftext_meaning.specs.Settings.{functions_of, in_definition, in_entry, look_up, words_of}
use Rattle.qs_prooftext_meaning.specs.Writable.{IsWritable, definition_stands, entry_stands, entry_stands_in, parts_stand}
use Rattle.qs_prooftext_meaning.specs.Writing.{Words, HasOwnWords, assertion_form, certificate_form, derivation_form, define_form, entry_form, file_forms, forms_of, headed, words_in, words_of_entry}
use Rattle.qs_prooftext_meaning.proofs.PlacedForms.{place, parts_in, first_in, others_in, placed, all_placed, all_placed_back}
use Rattle.qs_prooftext_meaning.proofs.WordLaws.{definition_agrees, entry_agrees, looked_up_at, names_at, text_self, texts_differ}
use Rattle.qs_prooftext_meaning.proofs.WrittenMeans.{one_part, four_parts, assertion_back, definition_back}
use Rattle.qs_prooftext_meaning.proofs.WrittenDerivations.{certificate_back, derivation_back}

-- ---- lists in which no two are the same

in_all : {A : Type 0} → (p : A → Bool) (xs : List A) (x : A) (ys : List A) → list_all p (xs ++ x ∷ ys) ≡ true → p x ≡ true
in_all p [] x ys h = (and_parts (p x) (list_all p ys) h).0
in_all p (y ∷ xs) x ys h = in_all p xs x ys (and_parts (p y) (list_all p (xs ++ x ∷ ys)) h).1

text_swap : (xs ys : List ℕ) → bytes_eq xs ys ≡ false → bytes_eq ys xs ≡ false
text_swap xs ys e = texts_differ ys xs (λ same. apart same)
  where
    apart : ys ≡ xs → ⊥
    apart same =
        let t : bytes_eq xs ys ≡ true = (bytes_eq-Decides xs ys).1 (sym same) in
        cc

earlier_differ : (xs : List (List ℕ)) (x : List ℕ) (ys : List (List ℕ)) → differ bytes_eq (xs ++ x ∷ ys) ≡ true → list_any (bytes_eq x) xs ≡ false
earlier_differ [] x ys d = refl
earlier_differ (y ∷ xs) x ys d =
    let two = and_parts (list_all (λ z. not (bytes_eq y z)) (xs ++ x ∷ ys)) (differ bytes_eq (xs ++ x ∷ ys)) d in
    λ i. text_swap y x (not-true (bytes_eq y x) (in_all (λ z. not (bytes_eq y z)) xs x ys two.0)) i || earlier_differ xs x ys two.1 i

no_entry : (done : List EntryTree) (e : EntryTree) (todo : List EntryTree) → differ ◌==◌ (map (λ (x : EntryTree). x.function) (done ++ e ∷ todo)) ≡ true → is_some (find (is_entry_of e.function) done) ≡ false
no_entry [] e todo d = refl
no_entry (x ∷ done) e todo d =
    let two = and_parts (list_all (λ z. not (x.function == z)) (map (λ (y : EntryTree). y.function) (done ++ e ∷ todo))) _ d in
    ap (λ (b : Bool). is_some (if b then Some x else find (is_entry_of e.function) done)) (not-true (x.function == e.function) (in_functions x.function done e todo two.0))
    ∙ no_entry done e todo two.1
  where
    in_functions : (f : ℕ) (xs : List EntryTree) (y : EntryTree) (ys : List EntryTree) → list_all (λ z. not (f == z)) (map (λ (z : EntryTree). z.function) (xs ++ y ∷ ys)) ≡ true → not (f == y.function) ≡ true
    in_functions f [] y ys h = (and_parts (not (f == y.function)) _ h).0
    in_functions f (z ∷ xs) y ys h = in_functions f xs y ys (and_parts (not (f == z.function)) _ h).1

names_append : (xs ys : List Define) → map (λ (d : Define). d.name) (xs ++ ys) ≡ map (λ (d : Define). d.name) xs ++ map (λ (d : Define). d.name) ys
names_append [] ys = refl
names_append (x ∷ xs) ys = ap (λ (ns : List (List ℕ)). x.name ∷ ns) (names_append xs ys)

-- ---- definitions

abbrev names : CoreUnitTree → List (List ℕ)
names u = map (λ g. g.name) u.functions

abbrev sofar : CoreUnitTree → (ℕ → Bool) → List Define → List EntryTree → Sofar
sofar u o ds es = record { unit = u; is_open = o; proofs = record { defines = ds; functions = es } }

abbrev no_words : CoreUnitTree → Words
no_words u = record { functions = function_name u; variables = [] }

define_back : (u : CoreUnitTree) (o : ℕ → Bool) (done : List Define) (d : Define) (at : Sexp) → differ bytes_eq (names u) ≡ true
    → is_defined (sofar u o done []) d.name ≡ false → definition_stands (in_definition u) d.body ≡ true
    → top_means (sofar u o done []) (placed at (define_form u d)) ≡ Ok (record { defines = done ++ d ∷ []; functions = [] })
define_back u o done d at n e h =
    let body_at : Sexp = first_in (others_in (others_in (parts_in at))) in
    let body : Answer AssertionTree = means (in_definition u) a_definition_body (placed body_at (assertion_form (no_words u) d.body)) in
    let p : ProofsTree = record { defines = done; functions = [] } in
    ap (λ (b : Bool). if b then Err (Duplicate (place at)) else bind (bind body (λ v. Ok (v, tt))) (λ (v : AssertionTree × Unit {0}). Ok (with_define p d.name v.0))) e
    ∙ one_part (λ (a : AssertionTree). with_define p d.name a) body d.body (definition_back (in_definition u) (no_words u) (definition_agrees u (no_words u) refl n) body_at d.body h)

defines_back : (u : CoreUnitTree) (o : ℕ → Bool) (all : List Define) → differ bytes_eq (names u) ≡ true → differ bytes_eq (map (λ (d : Define). d.name) all) ≡ true
    → (todo done : List Define) → done ++ todo ≡ all → list_any (is_open_name u o) (map (λ (d : Define). d.name) todo) ≡ false
    → list_all (λ (d : Define). definition_stands (in_definition u) d.body) todo ≡ true
    → (at : Sexps) (others : List Form) (due : Answer ProofsTree) → ((at : Sexps) → tops_mean (sofar u o all []) (all_placed at (forms_of others)) ≡ due)
    → tops_mean (sofar u o done []) (all_placed at (forms_of (map (define_form u) todo ++ others))) ≡ due
defines_back u o all n once [] done e closed stand at others due k =
    ap (λ (ds : List Define). tops_mean (sofar u o ds []) (all_placed at (forms_of others))) (sym (append-nil done) ∙ e) ∙ k at
defines_back u o all n once (d ∷ todo) done e closed stand at others due k =
    let two = or_parts (is_open_name u o d.name) _ closed in
    let stands = and_parts (definition_stands (in_definition u) d.body) _ stand in
    let apart : differ bytes_eq (map (λ (x : Define). x.name) done ++ d.name ∷ map (λ (x : Define). x.name) todo) ≡ true =
    ap (differ bytes_eq) (sym (names_append done (d ∷ todo)) ∙ ap (map (λ (x : Define). x.name)) e) ∙ once in
    let new : is_defined (sofar u o done []) d.name ≡ false = (λ i. two.0 i || earlier_differ (map (λ (x : Define). x.name) done) d.name (map (λ (x : Define). x.name) todo) apart i) in
    ap (λ (a : Answer ProofsTree). bind a (λ p. tops_mean (record (sofar u o done []) { proofs = p }) (all_placed (others_in at) (forms_of (map (define_form u) todo ++ others))))) (define_back u o done d (first_in at) n new stands.0)
    ∙ defines_back u o all n once todo (done ++ d ∷ []) (append_assoc done (d ∷ []) todo ∙ e) two.1 stands.1 (others_in at) others due k

-- ---- entries

found_name : (u : CoreUnitTree) (i : ℕ) (f : CoreFunctionTree) → differ bytes_eq (names u) ≡ true → slice_get u.functions i ≡ Some f → look_up (function_name u i) (functions_of u) ≡ Some i
found_name u i f n s =
    ap (λ (t : List ℕ). look_up t (functions_of u)) (ap name_in s) ∙ looked_up_at i f.name (names u) n (names_at u.functions i f s)

entry_back : (u : CoreUnitTree) (o : ℕ → Bool) (ds : List Define) (done : List EntryTree) (e : EntryTree) (f : CoreFunctionTree) (at : Sexp)
    → differ bytes_eq (names u) ≡ true → slice_get u.functions e.function ≡ Some f → differ bytes_eq (map (λ row. row.0) (words_of f)) ≡ true
    → parts_stand (in_entry u f (is_defined (sofar u o ds done))) e ≡ true → has_entry (record { defines = ds; functions = done }) e.function ≡ false
    → top_means (sofar u o ds done) (placed at (entry_form u e)) ≡ Ok (record { defines = ds; functions = done ++ e ∷ [] })
entry_back u o ds done e f at n s own stand none =
    let w : Words = words_of_entry u e.function in
    let state : Sofar = sofar u o ds done in
    let g = in_entry u f (is_defined state) in
    let agree = entry_agrees u f (is_defined state) w refl (ap words_in s) n own in
    let forms : List Form = headed (codes "pre") (assertion_form w e.spec.pre ∷ []) ∷ headed (codes "post") (assertion_form w e.spec.post ∷ []) ∷ headed (codes "entry") (certificate_form w e.entry ∷ []) ∷ headed (codes "body") (derivation_form w e.body ∷ []) ∷ [] in
    let parts : Sexps = all_placed (others_in (others_in (parts_in at))) (forms_of forms) in
    ap (λ (x : Option ℕ). named_entry_means state (place at) x parts) (found_name u e.function f n s)
    ∙ (ap (λ (x : Option CoreFunctionTree). entry_means state (place at) e.function x parts) s
    ∙ (ap (λ (b : Bool). if b then Err (Duplicate (place at)) else bind (each_means g (a_precondition ∷ a_postcondition ∷ an_entry_certificate ∷ a_body ∷ []) parts) (λ v. Ok (with_entry state.proofs e.function v))) none
    ∙ four_parts
    (λ a b c d. record { defines = ds; functions = done ++ record { function = e.function; spec = record { pre = a; post = b }; entry = c; body = d } ∷ [] })
    _ _ _ _ e.spec.pre e.spec.post e.entry e.body
    (one_part (λ (a : AssertionTree). a) _ e.spec.pre (assertion_back g w agree _ e.spec.pre (first_so _ _ (first_so _ _ (first_so _ _ stand)))))
    (one_part (λ (a : AssertionTree). a) _ e.spec.post (assertion_back g w agree _ e.spec.post (second_so _ _ (first_so _ _ (first_so _ _ stand)))))
    (one_part (λ c. c) _ e.entry (certificate_back g w agree _ e.entry (second_so _ _ (first_so _ _ stand))))
    (one_part (λ d. d) _ e.body (derivation_back g w agree _ e.body (second_so _ _ stand)))))

record Stands (u : CoreUnitTree) (has_name : List ℕ → Bool) (e : EntryTree) : Type 0 where
  function : CoreFunctionTree
  is : slice_get u.functions e.function ≡ Some function
  stands : parts_stand (in_entry u function has_name) e ≡ true

stands_in : (u : CoreUnitTree) (has_name : List ℕ → Bool) (e : EntryTree) (o : Option CoreFunctionTree) → slice_get u.functions e.function ≡ o → entry_stands_in u has_name e o ≡ true → Stands u has_name e
stands_in u has_name e None s h = cc
stands_in u has_name e (Some f) s h = record { function = f; is = s; stands = h }

entry_in : (u : CoreUnitTree) (has_name : List ℕ → Bool) (e : EntryTree) → entry_stands u has_name e ≡ true → Stands u has_name e
entry_in u has_name e h = stands_in u has_name e (slice_get u.functions e.function) refl h

entries_back : (u : CoreUnitTree) (o : ℕ → Bool) (ds : List Define) (all : List EntryTree) → differ bytes_eq (names u) ≡ true → HasOwnWords u
    → differ ◌==◌ (map (λ (e : EntryTree). e.function) all) ≡ true → (todo done : List EntryTree) → done ++ todo ≡ all
    → list_all (entry_stands u (is_defined (sofar u o ds all))) todo ≡ true → (at : Sexps)
    → tops_mean (sofar u o ds done) (all_placed at (forms_of (map (entry_form u) todo))) ≡ Ok (record { defines = ds; functions = all })
entries_back u o ds all n own once [] done e stand at =
    ap (λ (es : List EntryTree). Ok (record { defines = ds; functions = es })) (sym (append-nil done) ∙ e)
entries_back u o ds all n own once (x ∷ todo) done e stand at =
    let two = and_parts (entry_stands u (is_defined (sofar u o ds all)) x) _ stand in
    let i : Stands u (is_defined (sofar u o ds all)) x = entry_in u (is_defined (sofar u o ds all)) x two.0 in
    let apart : differ ◌==◌ (map (λ (y : EntryTree). y.function) (done ++ x ∷ todo)) ≡ true = ap (λ (es : List EntryTree). differ ◌==◌ (map (λ (y : EntryTree). y.function) es)) e ∙ once in
    ap (λ (a : Answer ProofsTree). bind a (λ p. tops_mean (record (sofar u o ds done) { proofs = p }) (all_placed (others_in at) (forms_of (map (entry_form u) todo)))))
    (entry_back u o ds done x i.function (first_in at) n i.is (own x.function i.function i.is) i.stands (no_entry done x todo apart))
    ∙ entries_back u o ds all n own once todo (done ++ x ∷ []) (append_assoc done (x ∷ []) todo ∙ e) two.1 (others_in at)

file_back : (u : CoreUnitTree) (proofs : ProofsTree) → unit_fits u ≡ true → HasOwnWords u → (w : IsWritable u proofs) → (at : Sexps) → file_means u w.is_open (all_placed at (file_forms u proofs)) ≡ Ok proofs
file_back u proofs fits own w at =
    let n = (unit_parts u fits).different in
    defines_back u w.is_open proofs.defines n w.defined_once proofs.defines [] refl w.not_open w.defines_stand at (map (entry_form u) proofs.functions) (Ok proofs)
    (λ there. entries_back u w.is_open proofs.defines proofs.functions n own w.entered_once proofs.functions [] refl w.entries_stand there)

-- ---- open functions

entries_named : (u : CoreUnitTree) (es : List EntryTree) (at : Sexps) → entry_names (all_placed at (forms_of (map (entry_form u) es))) ≡ map (λ (e : EntryTree). function_name u e.function) es
entries_named u [] at = refl
entries_named u (e ∷ es) at = ap (λ (ns : List (List ℕ)). function_name u e.function ∷ ns) (entries_named u es (others_in at))

file_named : (u : CoreUnitTree) (ds : List Define) (es : List EntryTree) (at : Sexps) → entry_names (all_placed at (forms_of (map (define_form u) ds ++ map (entry_form u) es))) ≡ map (λ (e : EntryTree). function_name u e.function) es
file_named u [] es at = entries_named u es at
file_named u (d ∷ ds) es at = file_named u ds es (others_in at)

nameless : is_name [] ≡ false
unfolding is_name
nameless = refl

-- functions of a unit have names of their own
same_function : (u : CoreUnitTree) (i j : ℕ) (f : CoreFunctionTree) → unit_fits u ≡ true → slice_get u.functions i ≡ Some f → (o : Option CoreFunctionTree) → slice_get u.functions j ≡ o → name_in o ≡ f.name → j ≡ i
same_function u i j f fits s None t e =
    let named : is_name f.name ≡ true = (function_at_fits u fits i f s).name in
    let empty : is_name [] ≡ is_name f.name = ap is_name e in
    let nothing : is_name [] ≡ false = nameless in
    cc
same_function u i j f fits s (Some g) t e =
    let n = (unit_parts u fits).different in
    same_Some j i
    (sym (looked_up_at j g.name (names u) n (names_at u.functions j g t))
    ∙ (ap (λ (name : List ℕ). look_up name (functions_of u)) e ∙ looked_up_at i f.name (names u) n (names_at u.functions i f s)))

not_same : (i j : ℕ) → j ≡ i → (i == j) ≡ false → ⊥
not_same i j same e = grind (arith, same, e)

named_alike : (u : CoreUnitTree) (i j : ℕ) (f : CoreFunctionTree) → unit_fits u ≡ true → slice_get u.functions i ≡ Some f → bytes_eq (function_name u j) (function_name u i) ≡ (i == j)
named_alike u i j f fits s = by (i == j) refl
  where
    by : (b : Bool) → (i == j) ≡ b → bytes_eq (function_name u j) (function_name u i) ≡ (i == j)
    by true e =
        let same : i ≡ j = grind (arith, e) in
        (ap (λ (k : ℕ). bytes_eq (function_name u j) (function_name u k)) same ∙ text_self (function_name u j)) ∙ sym e
    by false e =
        texts_differ (function_name u j) (function_name u i) (λ name. not_same i j (same_function u i j f fits s (slice_get u.functions j) refl (name ∙ ap name_in s)) e) ∙ sym e

pub entered_alike : (u : CoreUnitTree) (has_name : List ℕ → Bool) (j : ℕ) → unit_fits u ≡ true → (es : List EntryTree) → list_all (entry_stands u has_name) es ≡ true
    → list_any (bytes_eq (function_name u j)) (map (λ (e : EntryTree). function_name u e.function) es) ≡ is_some (find (is_entry_of j) es)
entered_alike u has_name j fits [] h = refl
entered_alike u has_name j fits (e ∷ es) h =
    let two = and_parts (entry_stands u has_name e) _ h in
    let i : Stands u has_name e = entry_in u has_name e two.0 in
    (λ t. named_alike u e.function j i.function fits i.is t || entered_alike u has_name j fits es two.1 t) ∙ found_alike (e.function == j) e (find (is_entry_of j) es)
  where
    found_alike : (b : Bool) (x : EntryTree) (o : Option EntryTree) → (b || is_some o) ≡ is_some (if b then Some x else o)
    found_alike true x o = refl
    found_alike false x o = refl

tells_alike : (u : CoreUnitTree) (proofs : ProofsTree) → unit_fits u ≡ true → (w : IsWritable u proofs) → (at : Sexps) → TellsOpen u (has_list u (all_placed at (file_forms u proofs))) w.is_open
tells_alike u proofs fits w at =
    let P : (ℕ → Bool) → Type 0 = λ has. TellsOpen u has w.is_open in
    subst P
    (sym (fun_ext (λ (j : ℕ). ap (λ (ns : List (List ℕ)). is_among ns (function_name u j)) (file_named u proofs.defines proofs.functions at) ∙ entered_alike u (is_defined (record { unit = u; is_open = w.is_open; proofs = proofs })) j fits proofs.functions w.entries_stand)))
    w.tells_open

-- ---- readings

placed_reads : (u : CoreUnitTree) (text : List ℕ) (proofs : ProofsTree) → unit_fits u ≡ true → HasOwnWords u → (w : IsWritable u proofs) → (r : ReadsAs text (file_forms u proofs)) → all_placed r.parts (file_forms u proofs) ≡ r.parts → Reading u text proofs
placed_reads u text proofs fits own w r e =
    let P : Sexps → Type 0 = λ file. TellsOpen u (has_list u file) w.is_open in
    record {
      file = r.parts;
      reads = r.reading;
      is_open = w.is_open;
      tells_open = subst P e (tells_alike u proofs fits w r.parts);
      means = ap (file_means u w.is_open) (sym e) ∙ file_back u proofs fits own w r.parts;
    }

pub file_reads : (u : CoreUnitTree) (text : List ℕ) (proofs : ProofsTree) → unit_fits u ≡ true → HasOwnWords u → IsWritable u proofs → ReadsAs text (file_forms u proofs) → Reading u text proofs
file_reads u text proofs fits own w r =
    placed_reads u text proofs fits own w r (ap (all_placed r.parts) (sym r.forms_are) ∙ all_placed_back r.parts)
