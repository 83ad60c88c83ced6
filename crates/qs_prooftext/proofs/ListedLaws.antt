-- The functions for which a file has lists, as they are marked.
use Rattle.std.proofs.Common.{arith, ◌≡◌, ◌≢◌, ℕ, zero, suc, ◌+◌, ◌<◌, ◌==◌, Bool, true, false, if◌then◌else◌, List, [], ◌∷◌, length, map, get_or, set, Option, Some, None, refl, sym, ap, ◌∙◌, subst}
use Rattle.std.specs.Prelude.{bytes_eq, not, option_map, ◌||◌}
use Rattle.std.specs.List.{list_all}
use Rattle.std.proofs.Math.Bool.{or-false, or-true, or_assoc}
use Rattle.std.proofs.lemmas.Bool.{and_parts}
use Rattle.std.proofs.lemmas.List.{get_or-set_same, get_or-set_other, length-set}
use Rattle.std.proofs.lemmas.List.Folds.{list_any-append}
use Rattle.std.proofs.lemmas.Slice.Eq.{bytes_eq-Decides}
use Rattle.qs_callgraph.specs.CallLists.{flag}
use Rattle.qs_callgraph.specs.Opens.{AreOf}
use Rattle.qs_core.specs.Fits.{differ, unit_fits}
use Rattle.qs_base.specs.declared.function.FnId.{FnId}
use Rattle.qs_core.specs.Trees.{CoreFunctionTree, CoreUnitTree}
use Rattle.qs_core.specs.UnitTrees.{unit_tree}
use Rattle.qs_core.specs.FunctionNames.{function_name}
use Rattle.qs_core.specs.declared.unit.CoreUnit.{CoreUnit}
use Rattle.qs_core.specs.declared.units.CoreFunction.{CoreFunction}
use Rattle.qs_core.proofs.FitLaws.{unit_parts}
use Rattle.qs_sexpr.specs.Parts.{Splits}
use Rattle.qs_sexpr.specs.Trees.{Sexp, Sexps, no_parts, part_and}
use Rattle.qs_sexpr.specs.declared.node.Node.{Node}
use Rattle.qs_triples.proofs.FunctionNames.{name_at, all_at, count_names}
use Rattle.qs_prooftext_assertions.specs.Answers.{StandAll, Stands}
use Rattle.qs_prooftext_meaning.specs.Contexts.{function_rows}
use Rattle.qs_prooftext.specs.Listed.{ListsLeft, Marks}
use Rattle.qs_prooftext_meaning.specs.Proofs.{entry_names, entry_names_of, has_list, is_among}
use Rattle.qs_prooftext_meaning.specs.Settings.{functions_of, look_up, numbered}
use Rattle.qs_prooftext_assertions.proofs.PartLaws.{first_stands, others_stand, no_first, no_split}

-- ---- the function with a name

-- whether this is the function that was found
abbrev is_found : Option ℕ → (f : ℕ) → Bool
is_found None f = false
is_found (Some g) f = g == f

found_from : (w : List ℕ) (i : ℕ) (names : List (List ℕ)) (f : ℕ) → f < i → is_found (look_up w (numbered i names)) f ≡ false
found_from w i [] f b = refl
found_from w i (n ∷ names) f b = by (bytes_eq n w) (found_from w (i + 1) names f (omega (arith, b)))
  where
    by : (t : Bool) → is_found (look_up w (numbered (i + 1) names)) f ≡ false → is_found (if t then Some i else look_up w (numbered (i + 1) names)) f ≡ false
    by true e = grind (arith, b)
    by false e = e

-- a name that another one is, isn't this
another : (n m w : List ℕ) → bytes_eq n w ≡ true → not (bytes_eq n m) ≡ true → bytes_eq m w ≡ false
another n m w is apart = by (bytes_eq m w) refl
  where
    by : (t : Bool) → bytes_eq m w ≡ t → t ≡ false
    by false e = refl
    by true e =
        let first : n ≡ w = (bytes_eq-Decides n w).0 is in
        let second : m ≡ w = (bytes_eq-Decides m w).0 e in
        absurd (let same : bytes_eq n m ≡ true = (bytes_eq-Decides n m).1 (first ∙ sym second) in let t : not true ≡ true = ap not (sym same) ∙ apart in cc)

name_found : (w : List ℕ) (i : ℕ) (names : List (List ℕ)) (f : ℕ) → differ bytes_eq names ≡ true → f < length names → bytes_eq (get_or names f []) w ≡ is_found (look_up w (numbered i names)) (i + f)
name_found w i [] f d b = absurd (omega (arith, b))
name_found w i (n ∷ names) zero d b = by (bytes_eq n w)
  where
    by : (t : Bool) → t ≡ is_found (if t then Some i else look_up w (numbered (i + 1) names)) (i + zero)
    by true = grind arith
    by false = sym (found_from w (i + 1) names (i + zero) (omega arith))
name_found w i (n ∷ names) (suc f) d b = by (bytes_eq n w) refl (name_found w (i + 1) names f apart.1 (omega (arith, b)))
  where
    apart : (list_all (λ y. not (bytes_eq n y)) names ≡ true) × (differ bytes_eq names ≡ true)
    apart = and_parts (list_all (λ y. not (bytes_eq n y)) names) (differ bytes_eq names) d

    by : (t : Bool) → bytes_eq n w ≡ t → bytes_eq (get_or names f []) w ≡ is_found (look_up w (numbered (i + 1) names)) (i + 1 + f) → bytes_eq (get_or names f []) w ≡ is_found (if t then Some i else look_up w (numbered (i + 1) names)) (i + suc f)
    by true e more =
        another n (get_or names f []) w e (all_at (λ y. not (bytes_eq n y)) names f apart.0 (omega (arith, b))) ∙ grind arith
    by false e more =
        let at : i + 1 + f ≡ i + suc f = omega arith in
        more ∙ ap (is_found (look_up w (numbered (i + 1) names))) at

zero_before : (f : ℕ) → 0 + f ≡ f
zero_before f = omega arith

named : (u : CoreUnitTree) → unit_fits u ≡ true → (w : List ℕ) (f : ℕ) → f < length u.functions → is_among (w ∷ []) (function_name u f) ≡ is_found (look_up w (functions_of u)) f
named u fits w f b =
    let l = count_names u.functions in
    let names : List (List ℕ) = map (λ (f : CoreFunctionTree). f.name) u.functions in
    let own : bytes_eq (function_name u f) w ≡ is_found (look_up w (numbered 0 names)) f =
    ap (λ (n : List ℕ). bytes_eq n w) (name_at u.functions f b) ∙ name_found w 0 names f (unit_parts u fits).different (omega (arith, b, l)) ∙ ap (is_found (look_up w (numbered 0 names))) (zero_before f) in
    or-false (bytes_eq (function_name u f) w) ∙ own

record NumberFound (n : List ℕ) (i : ℕ) (names : List (List ℕ)) (f : ℕ) : Type 0 where
  k : ℕ
  at : f ≡ i + k
  below : k < length names
  is : get_or names k [] ≡ n

found_number : (n : List ℕ) (i : ℕ) (names : List (List ℕ)) (f : ℕ) → look_up n (numbered i names) ≡ Some f → NumberFound n i names f
found_number n i [] f e = cc
found_number n i (m ∷ names) f e = by (bytes_eq m n) refl e (found_number n (i + 1) names f)
  where
    by : (b : Bool) → bytes_eq m n ≡ b → (if b then Some i else look_up n (numbered (i + 1) names)) ≡ Some f → (look_up n (numbered (i + 1) names) ≡ Some f → NumberFound n (i + 1) names f) → NumberFound n i (m ∷ names) f
    by true is found more =
        let same : i ≡ f = cc in
        record { k = 0; at = omega (arith, same); below = omega arith; is = (bytes_eq-Decides m n).0 is }
    by false is found more =
        let t = more found in
        let e = t.at in
        let b = t.below in
        record { k = suc t.k; at = omega (arith, e); below = omega (arith, b); is = t.is }

pub function_named : (u : CoreUnitTree) (n : List ℕ) (f : ℕ) → look_up n (functions_of u) ≡ Some f → (function_name u f ≡ n) × (f < length u.functions)
function_named u n f e =
    let t = found_number n 0 (map (λ (g : CoreFunctionTree). g.name) u.functions) f e in
    let l = count_names u.functions in
    let at : f ≡ t.k = (let k = t.at in omega (arith, k)) in
    let below : f < length u.functions = (let b = t.below in omega (arith, at, b, l)) in
    (name_at u.functions f below ∙ (ap (λ (i : ℕ). get_or (map (λ (g : CoreFunctionTree). g.name) u.functions) i []) at ∙ t.is), below)

-- ---- what was found

pub found_in : (unit : CoreUnit) (w : List ℕ) (fs : List CoreFunction) (o : Option FnId) (f : FnId) → fs ≡ unit.functions.items → option_map (λ (g : FnId). g.0) o ≡ look_up w (function_rows fs) → o ≡ Some f → look_up w (functions_of (unit_tree unit)) ≡ Some f.0
found_in unit w fs o f e h is =
    sym (h ∙ ap (λ (xs : List CoreFunction). look_up w (function_rows xs)) e) ∙ ap (option_map (λ (g : FnId). g.0)) is

pub not_found_in : (unit : CoreUnit) (w : List ℕ) (fs : List CoreFunction) (o : Option FnId) → fs ≡ unit.functions.items → option_map (λ (g : FnId). g.0) o ≡ look_up w (function_rows fs) → o ≡ None → look_up w (functions_of (unit_tree unit)) ≡ None
not_found_in unit w fs o e h is =
    sym (h ∙ ap (λ (xs : List CoreFunction). look_up w (function_rows xs)) e) ∙ ap (option_map (λ (g : FnId). g.0)) is

-- ---- marks

pub marks_none : (u : CoreUnitTree) → unit_fits u ≡ true → (w : List ℕ) (flags : List Bool) → look_up w (functions_of u) ≡ None → Marks u (w ∷ []) flags flags
marks_none u fits w flags e = record {
  as_many = refl;
  same = λ f b.
      sym (ap (λ (t : Bool). flag flags f || t) (named u fits w f b ∙ ap (λ (o : Option ℕ). is_found o f) e) ∙ or-false (flag flags f));
}

flag_set : (flags : List Bool) (g f : ℕ) → g < length flags → flag (set flags g true) f ≡ (flag flags f || (g == f))
flag_set flags g f b = by (g == f) refl
  where
    by : (t : Bool) → (g == f) ≡ t → flag (set flags g true) f ≡ (flag flags f || t)
    by true e =
        let same : g ≡ f = grind (arith, e) in
        subst (λ (i : ℕ). flag (set flags g true) i ≡ (flag flags i || true)) same (get_or-set_same flags g true false b ∙ sym (or-true (flag flags g)))
    by false e =
        let apart : f ≢ g = λ h. (let other : (g == g) ≡ false = ap (λ (i : ℕ). g == i) (sym h) ∙ e in grind (arith, other)) in
        get_or-set_other flags g f true false apart ∙ sym (or-false (flag flags f))

pub marks_one : (u : CoreUnitTree) → unit_fits u ≡ true → (w : List ℕ) (flags : List Bool) (g : ℕ) → look_up w (functions_of u) ≡ Some g → g < length flags → Marks u (w ∷ []) flags (set flags g true)
marks_one u fits w flags g e b = record {
  as_many = length-set flags g true;
  same = λ f k.
      flag_set flags g f b ∙ ap (λ (t : Bool). flag flags f || t) (sym (named u fits w f k ∙ ap (λ (o : Option ℕ). is_found o f) e));
}

-- ---- all lists

-- ---- the walk

pub lists_go : (u : CoreUnitTree) (text : List ℕ) (rest first others : List Node) (flags new : List Bool) (all : Sexps) → ListsLeft u text rest flags all → Splits rest first others → ((s : Sexp) → Stands text first s → Marks u (entry_names_of s) flags new) → ListsLeft u text others new all
lists_go u text rest first others flags new all l p f = go l.forest l.stand l.same
  where
    go : (ss : Sexps) → StandAll text rest ss → ((f : ℕ) → f < length u.functions → (flag flags f || has_list u ss f) ≡ has_list u all f) → ListsLeft u text others new all
    go no_parts h e = no_split text rest first others h p
    go (part_and s ss) h e =
        let m = f s (first_stands text rest s ss first others h p) in
        record {
          forest = ss;
          stand = others_stand text rest s ss first others h p;
          as_many = m.as_many ∙ l.as_many;
          same = λ g b.
              ap (λ (t : Bool). t || has_list u ss g) (m.same g b)
              ∙ (or_assoc (flag flags g) (is_among (entry_names_of s) (function_name u g)) (has_list u ss g)
              ∙ (ap (λ (t : Bool). flag flags g || t) (sym (list_any-append (bytes_eq (function_name u g)) (entry_names_of s) (entry_names ss)))
              ∙ e g b));
        }

pub lists_end : (u : CoreUnitTree) (text : List ℕ) (rest : List Node) (flags : List Bool) (all : Sexps) → ListsLeft u text rest flags all → rest ≡ [] → AreOf u (has_list u all) flags
lists_end u text rest flags all l none = go l.forest l.stand l.same
  where
    go : (ss : Sexps) → StandAll text rest ss → ((f : ℕ) → f < length u.functions → (flag flags f || has_list u ss f) ≡ has_list u all f) → AreOf u (has_list u all) flags
    go no_parts h e = record { as_many = l.as_many; same = λ f b. sym (or-false (flag flags f)) ∙ e f b }
    go (part_and s ss) h e = no_first text rest s ss h none
