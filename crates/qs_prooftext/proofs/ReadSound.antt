-- What is read is of the unit: entries of its functions, each once, and definitions that can be written.
use Rattle.std.proofs.Common.{arith, ◌≡◌, ℕ, ◌+◌, ◌<◌, ◌==◌, Bool, true, false, ◌&&◌, if◌then◌else◌, List, [], ◌∷◌, ◌++◌, length, map, Option, Some, None, Ok, Err, codes, refl, ap, ◌∙◌, subst}
use Rattle.std.specs.Prelude.{bytes_eq, is_some, nat_lt, not, cond}
use Rattle.std.specs.List.{find, slice_get, list_all, list_any}
use Rattle.std.proofs.lemmas.Bool.{and_from, and_parts, or_right, or_left}
use Rattle.std.proofs.lemmas.List.{map-append}
use Rattle.std.proofs.lemmas.List.Folds.{list_all-append}
use Rattle.qs_base.specs.Results.{bind}
use Rattle.qs_assert.specs.Trees.{AssertionTree}
use Rattle.qs_assert.specs.declared.define.Define.{Define}
use Rattle.qs_core.specs.Fits.{differ}
use Rattle.qs_core.specs.Trees.{CoreFunctionTree, CoreUnitTree}
use Rattle.qs_core.specs.FunctionNames.{function_name}
use Rattle.qs_sexpr.specs.Trees.{Sexp, number, symbol, list, Sexps, no_parts, part_and, count}
use Rattle.qs_triples.specs.Derivations.{EntryTree, ProofsTree, is_entry_of}
use Rattle.qs_triples.specs.Entries.{has_entry}
use Rattle.qs_prooftext_meaning.specs.declared.fault.TextFault.TheVariants.{UnknownForm, Duplicate}
use Rattle.qs_prooftext_meaning.specs.Kinds.{Values, a_body, a_definition_body, a_postcondition, a_precondition, an_entry_certificate}
use Rattle.qs_prooftext_meaning.specs.Meanings.{each_means, means}
use Rattle.qs_prooftext_meaning.specs.Proofs.{Sofar, define_means, entry_means, function_means, is_defined, named_entry_means, no_proofs, top_means, tops_mean, with_define, with_entry}
use Rattle.qs_prooftext_meaning.specs.Reading.{Reading}
use Rattle.qs_prooftext_meaning.specs.Settings.{functions_of, in_definition, in_entry, look_up, numbered}
use Rattle.qs_prooftext_meaning.specs.Writable.{IsOfUnit, definition_stands}
use Rattle.qs_prooftext_meaning.specs.Writing.{Words}
use Rattle.qs_prooftext.proofs.ListedLaws.{function_named}
use Rattle.qs_prooftext.proofs.ReadForms.{bound, reads_good}
use Rattle.qs_prooftext.proofs.RowForms.{Fits}

-- ---- functions

number_there : (n : List ℕ) (i : ℕ) (names : List (List ℕ)) (f : ℕ) → look_up n (numbered i names) ≡ Some f → list_any (λ row. row.1 == f) (numbered i names) ≡ true
number_there n i [] f e = cc
number_there n i (m ∷ names) f e = by (bytes_eq m n) e (number_there n (i + 1) names f)
  where
    by : (b : Bool) → (if b then Some i else look_up n (numbered (i + 1) names)) ≡ Some f → (look_up n (numbered (i + 1) names) ≡ Some f → list_any (λ row. row.1 == f) (numbered (i + 1) names) ≡ true) → list_any (λ row. row.1 == f) ((m, i) ∷ numbered (i + 1) names) ≡ true
    by true found more =
        let same : i ≡ f = cc in
        or_left (i == f) (list_any (λ row. row.1 == f) (numbered (i + 1) names)) (grind (arith, same))
    by false found more = or_right (i == f) (list_any (λ row. row.1 == f) (numbered (i + 1) names)) (more found)

-- ---- definitions

abbrev pub definition_words : CoreUnitTree → Words
definition_words u = record { functions = function_name u; variables = [] }

pub definition_fits : (u : CoreUnitTree) → Fits (in_definition u) (in_definition u) (definition_words u)
definition_fits u = record {
  variables = λ n x e. cc;
  olds = λ n x e. cc;
  returned = λ x e. cc;
  functions = λ n f e. ((function_named u n f e).0, number_there n 0 (map (λ (g : CoreFunctionTree). g.name) u.functions) f e);
  names = λ n e. cc;
}

body_stands : (u : CoreUnitTree) (ss : Sexps) (v : Values (a_definition_body ∷ [])) → each_means (in_definition u) (a_definition_body ∷ []) ss ≡ Ok v → definition_stands (in_definition u) v.0 ≡ true
body_stands u no_parts v e = cc
body_stands u (part_and s ss) v e =
    let t = bound (means (in_definition u) a_definition_body s) (λ a. bind (each_means (in_definition u) [] ss) (λ vs. Ok (a, vs))) v e in
    let same : (t.0, tt) ≡ v = (let f = t.2 in cc) in
    subst (λ (x : Values (a_definition_body ∷ [])). definition_stands (in_definition u) x.0 ≡ true) same
    (reads_good (in_definition u) (in_definition u) (definition_words u) (definition_fits u) a_definition_body s t.0 t.1).stands

-- ---- entries

others_apart : (f : ℕ) (es : List EntryTree) → is_some (find (is_entry_of f) es) ≡ false → list_all (λ x. not (x == f)) (map (λ (e : EntryTree). e.function) es) ≡ true
others_apart f [] h = refl
others_apart f (e ∷ es) h = by (e.function == f) refl h (others_apart f es)
  where
    by : (b : Bool) → (e.function == f) ≡ b → is_some (cond b (Some e) (find (is_entry_of f) es)) ≡ false → (is_some (find (is_entry_of f) es) ≡ false → list_all (λ x. not (x == f)) (map (λ (e : EntryTree). e.function) es) ≡ true) → list_all (λ x. not (x == f)) (map (λ (e : EntryTree). e.function) (e ∷ es)) ≡ true
    by true is k more = cc
    by false is k more =
        and_from (not (e.function == f)) (list_all (λ x. not (x == f)) (map (λ (e : EntryTree). e.function) es)) (ap not is) (more k)

differ_more : (xs : List ℕ) (f : ℕ) → differ ◌==◌ xs ≡ true → list_all (λ x. not (x == f)) xs ≡ true → differ ◌==◌ (xs ++ f ∷ []) ≡ true
differ_more [] f h k = refl
differ_more (x ∷ xs) f h k =
    let own = and_parts (list_all (λ y. not (x == y)) xs) (differ ◌==◌ xs) h in
    let apart = and_parts (not (x == f)) (list_all (λ x. not (x == f)) xs) k in
    and_from (list_all (λ y. not (x == y)) (xs ++ f ∷ [])) (differ ◌==◌ (xs ++ f ∷ []))
    (list_all-append (λ y. not (x == y)) xs (f ∷ []) ∙ and_from (list_all (λ y. not (x == y)) xs) (list_all (λ y. not (x == y)) (f ∷ [])) own.0 (and_from (not (x == f)) true apart.0 refl))
    (differ_more xs f own.1 apart.1)

-- ---- lists at the top

with_body : (u : CoreUnitTree) (p : ProofsTree) (name : List ℕ) (body : AssertionTree) → IsOfUnit u p → definition_stands (in_definition u) body ≡ true → IsOfUnit u (with_define p name body)
with_body u p name body h stands = record {
  known = h.known;
  entered_once = h.entered_once;
  defines_stand =
      list_all-append (λ (d : Define). definition_stands (in_definition u) d.body) p.defines (record { name = name; body = body } ∷ [])
      ∙ and_from (list_all (λ (d : Define). definition_stands (in_definition u) d.body) p.defines) (definition_stands (in_definition u) body && true) h.defines_stand (and_from (definition_stands (in_definition u) body) true stands refl);
}

with_function : (u : CoreUnitTree) (p : ProofsTree) (f : ℕ) (v : Values (a_precondition ∷ a_postcondition ∷ an_entry_certificate ∷ a_body ∷ [])) → IsOfUnit u p → f < length u.functions → has_entry p f ≡ false → IsOfUnit u (with_entry p f v)
with_function u p f v h below new =
    let entry : EntryTree = record { function = f; spec = record { pre = v.0; post = v.1.0 }; entry = v.1.1.0; body = v.1.1.1.0 } in
    record {
      known =
          list_all-append (λ (e : EntryTree). nat_lt e.function (length u.functions)) p.functions (entry ∷ [])
          ∙ and_from (list_all (λ (e : EntryTree). nat_lt e.function (length u.functions)) p.functions) (nat_lt f (length u.functions) && true) h.known (and_from (nat_lt f (length u.functions)) true (grind (arith, below)) refl);
      entered_once =
          ap (differ ◌==◌) (map-append (λ (e : EntryTree). e.function) p.functions (entry ∷ []))
          ∙ differ_more (map (λ (e : EntryTree). e.function) p.functions) f h.entered_once (others_apart f p.functions new);
      defines_stand = h.defines_stand;
    }

define_sound : (s : Sofar) (at : ℕ) (ss : Sexps) (p : ProofsTree) → define_means s at ss ≡ Ok p → IsOfUnit s.unit s.proofs → IsOfUnit s.unit p
define_sound s at no_parts p e h = cc
define_sound s at (part_and (number place n) ss) p e h = cc
define_sound s at (part_and (symbol place name) ss) p e h = by (is_defined s name) e
  where
    by : (b : Bool) → (if b then Err (Duplicate at) else bind (each_means (in_definition s.unit) (a_definition_body ∷ []) ss) (λ v. Ok (with_define s.proofs name v.0))) ≡ Ok p → IsOfUnit s.unit p
    by true e = cc
    by false e =
        let t = bound (each_means (in_definition s.unit) (a_definition_body ∷ []) ss) (λ v. Ok (with_define s.proofs name v.0)) p e in
        let same : with_define s.proofs name t.0.0 ≡ p = (let f = t.2 in cc) in
        subst (λ (q : ProofsTree). IsOfUnit s.unit q) same (with_body s.unit s.proofs name t.0.0 h (body_stands s.unit ss t.0 t.1))
define_sound s at (part_and (list place inner) ss) p e h = cc

entry_sound : (s : Sofar) (at f : ℕ) (o : Option CoreFunctionTree) (ss : Sexps) (p : ProofsTree) → f < length s.unit.functions → entry_means s at f o ss ≡ Ok p → IsOfUnit s.unit s.proofs → IsOfUnit s.unit p
entry_sound s at f None ss p b e h = cc
entry_sound s at f (Some function) ss p b e h = by (has_entry s.proofs f) refl e
  where
    by : (t : Bool) → has_entry s.proofs f ≡ t → (if t then Err (Duplicate at) else bind (each_means (in_entry s.unit function (is_defined s)) (a_precondition ∷ a_postcondition ∷ an_entry_certificate ∷ a_body ∷ []) ss) (λ v. Ok (with_entry s.proofs f v))) ≡ Ok p → IsOfUnit s.unit p
    by true is e = cc
    by false is e =
        let t = bound (each_means (in_entry s.unit function (is_defined s)) (a_precondition ∷ a_postcondition ∷ an_entry_certificate ∷ a_body ∷ []) ss) (λ v. Ok (with_entry s.proofs f v)) p e in
        let same : with_entry s.proofs f t.0 ≡ p = (let f = t.2 in cc) in
        subst (λ (q : ProofsTree). IsOfUnit s.unit q) same (with_function s.unit s.proofs f t.0 h b is)

named_sound : (s : Sofar) (at : ℕ) (name : List ℕ) (o : Option ℕ) (ss : Sexps) (p : ProofsTree) → look_up name (functions_of s.unit) ≡ o → named_entry_means s at o ss ≡ Ok p → IsOfUnit s.unit s.proofs → IsOfUnit s.unit p
named_sound s at name None ss p is e h = cc
named_sound s at name (Some f) ss p is e h =
    entry_sound s at f (slice_get s.unit.functions f) ss p (function_named s.unit name f is).1 e h

function_sound : (s : Sofar) (at : ℕ) (ss : Sexps) (p : ProofsTree) → function_means s at ss ≡ Ok p → IsOfUnit s.unit s.proofs → IsOfUnit s.unit p
function_sound s at no_parts p e h = cc
function_sound s at (part_and (number place n) ss) p e h = cc
function_sound s at (part_and (symbol place name) ss) p e h =
    named_sound s at name (look_up name (functions_of s.unit)) ss p refl e h
function_sound s at (part_and (list place inner) ss) p e h = cc

headed_sound : (s : Sofar) (at : ℕ) (ss : Sexps) (p : ProofsTree) (a b : Bool) → (if a then define_means s at ss else if b then function_means s at ss else Err (UnknownForm at)) ≡ Ok p → IsOfUnit s.unit s.proofs → IsOfUnit s.unit p
headed_sound s at ss p true b e h = define_sound s at ss p e h
headed_sound s at ss p false true e h = function_sound s at ss p e h
headed_sound s at ss p false false e h = cc

top_sound : (s : Sofar) (t : Sexp) (p : ProofsTree) → top_means s t ≡ Ok p → IsOfUnit s.unit s.proofs → IsOfUnit s.unit p
top_sound s (number at n) p e h = cc
top_sound s (symbol at w) p e h = cc
top_sound s (list at no_parts) p e h = cc
top_sound s (list at (part_and (number place n) ss)) p e h = cc
top_sound s (list at (part_and (symbol place w) ss)) p e h =
    headed_sound s at ss p (bytes_eq w (codes "define") && (count ss == 2)) (bytes_eq w (codes "function") && (count ss == 5)) e h
top_sound s (list at (part_and (list place inner) ss)) p e h = cc

tops_sound : (s : Sofar) (ss : Sexps) (p : ProofsTree) → tops_mean s ss ≡ Ok p → IsOfUnit s.unit s.proofs → IsOfUnit s.unit p
tops_sound s no_parts p e h =
    let same : s.proofs ≡ p = cc in
    subst (λ (q : ProofsTree). IsOfUnit s.unit q) same h
tops_sound s (part_and t ss) p e h =
    let a = bound (top_means s t) (λ proofs. tops_mean (record s { proofs = proofs }) ss) p e in
    tops_sound (record s { proofs = a.0 }) ss p a.2 (top_sound s t a.0 a.1 h)

pub read_of_unit : (u : CoreUnitTree) (text : List ℕ) (proofs : ProofsTree) → Reading u text proofs → IsOfUnit u proofs
read_of_unit u text proofs r =
    tops_sound (record { unit = u; is_open = r.is_open; proofs = no_proofs }) r.file proofs r.means (record { known = refl; entered_once = refl; defines_stand = refl })
