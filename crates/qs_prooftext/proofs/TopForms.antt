-- What the lists of a file are: the forms of a definition or of an entry.
use Rattle.std.proofs.Common.{arith, ◌≡◌, ℕ, ◌+◌, ◌==◌, ◌&&◌, Bool, true, false, if◌then◌else◌, List, [], ◌∷◌, ◌++◌, Option, Some, None, Ok, Err, refl, sym, ap, ◌∙◌}
use Rattle.std.specs.Prelude.{bytes_eq, codes}
use Rattle.std.specs.List.{slice_get}
use Rattle.std.proofs.lemmas.Bool.{and_from, and_parts}
use Rattle.std.proofs.lemmas.Slice.Eq.{bytes_eq-Decides}
use Rattle.qs_base.specs.Results.{bind}
use Rattle.qs_assert.specs.declared.define.Define.{Define}
use Rattle.qs_core.specs.Trees.{CoreFunctionTree}
use Rattle.qs_core.specs.FunctionNames.{function_name}
use Rattle.qs_sexpr.specs.Trees.{Sexp, number, symbol, list, Sexps, no_parts, part_and, count}
use Rattle.qs_sexpr.specs.Writing.{Form, symbol_form}
use Rattle.qs_triples.specs.Derivations.{EntryTree, ProofsTree}
use Rattle.qs_triples.specs.Entries.{has_entry}
use Rattle.qs_prooftext_meaning.specs.declared.fault.TextFault.TheVariants.{UnknownForm, Duplicate}
use Rattle.qs_prooftext_meaning.specs.Kinds.{Kind, Values, a_body, a_definition_body, a_postcondition, a_precondition, an_entry_certificate}
use Rattle.qs_prooftext_meaning.specs.Meanings.{each_means}
use Rattle.qs_prooftext_meaning.specs.Proofs.{Sofar, define_means, entry_means, entry_names_of, function_means, is_defined, name_of_parts, named_entry_means, top_means, with_define, with_entry}
use Rattle.qs_prooftext_meaning.specs.Settings.{functions_of, in_definition, in_entry, look_up, words_of}
use Rattle.qs_prooftext_meaning.specs.Writable.{parts_stand}
use Rattle.qs_prooftext_meaning.specs.Writing.{Words, define_form, entry_form, entry_form_by, headed, words_in}
use Rattle.qs_prooftext.proofs.EntryWords.{entry_fits}
use Rattle.qs_prooftext.proofs.ListedLaws.{function_named}
use Rattle.qs_prooftext.proofs.ReadForms.{bound, each_good}
use Rattle.qs_prooftext.proofs.RowForms.{all_erased, erased, forms_each}
use Rattle.qs_prooftext.proofs.ReadSound.{definition_fits, definition_words}

-- the list is a definition of a new name
pub record IsDefine (s : Sofar) (t : Sexp) (q : ProofsTree) : Type 0 where
  pub define : Define
  pub new : is_defined s define.name ≡ false
  pub is : with_define s.proofs define.name define.body ≡ q
  pub form : define_form s.unit define ≡ erased t
  pub names : entry_names_of t ≡ []

abbrev pub with_entry_more : ProofsTree → EntryTree → ProofsTree
with_entry_more p e = record p { functions = p.functions ++ e ∷ [] }

-- the list is the entry of a function without one; it stands where names that are defined so far are known
pub record IsEntry (s : Sofar) (t : Sexp) (q : ProofsTree) : Type 0 where
  pub entry : EntryTree
  pub function : CoreFunctionTree
  pub here : slice_get s.unit.functions entry.function ≡ Some function
  pub is : with_entry_more s.proofs entry ≡ q
  pub stands :
      (known : List ℕ → Bool) → ((n : List ℕ) → is_defined s n ≡ true → known n ≡ true)
      → parts_stand (in_entry s.unit function known) entry ≡ true
  pub form : entry_form s.unit entry ≡ erased t
  pub names : entry_names_of t ≡ function_name s.unit entry.function ∷ []

pub data TopIs (s : Sofar) (t : Sexp) (q : ProofsTree) : Type 0 where
  a_define : IsDefine s t q → TopIs s t q
  an_entry : IsEntry s t q → TopIs s t q

one_less : (n m : ℕ) → ((n + 1) == (m + 1)) ≡ true → m ≡ n
one_less n m h = grind (arith, h)

word_is : (w word : List ℕ) → bytes_eq w word ≡ true → w ≡ word
word_is w word h = (bytes_eq-Decides w word).0 h

abbrev headed_at : (at place : ℕ) → (w : List ℕ) → Sexps → Sexp
headed_at at place w parts = list at (part_and (symbol place w) parts)

-- ---- definitions

define_names : (at place : ℕ) (w : List ℕ) (parts : Sexps) → w ≡ codes "define" → entry_names_of (headed_at at place w parts) ≡ []
define_names at place w parts e = ap (λ (word : List ℕ). if bytes_eq word (codes "function") then name_of_parts parts else []) e

define_is : (s : Sofar) (at place : ℕ) (w : List ℕ) (ss : Sexps) (p : ProofsTree) → bytes_eq w (codes "define") ≡ true → (count ss == 2) ≡ true → define_means s at ss ≡ Ok p → IsDefine s (headed_at at place w ss) p
define_is s at place w no_parts p h c e = cc
define_is s at place w (part_and (number l n) ss) p h c e = cc
define_is s at place w (part_and (list l inner) ss) p h c e = cc
define_is s at place w (part_and (symbol l name) ss) p h c e = by (is_defined s name) refl e
  where
    word : w ≡ codes "define"
    word = word_is w (codes "define") h

    by : (b : Bool) → is_defined s name ≡ b → (if b then Err (Duplicate at) else bind (each_means (in_definition s.unit) (a_definition_body ∷ []) ss) (λ v. Ok (with_define s.proofs name v.0))) ≡ Ok p
        → IsDefine s (headed_at at place w (part_and (symbol l name) ss)) p
    by true new f = cc
    by false new f =
        let t = bound (each_means (in_definition s.unit) (a_definition_body ∷ []) ss) (λ v. Ok (with_define s.proofs name v.0)) p f in
        let g = each_good (in_definition s.unit) (in_definition s.unit) (definition_words s.unit) (definition_fits s.unit) (a_definition_body ∷ []) ss t.0 (one_less (count ss) 1 c) t.1 in
        record {
          define = record { name = name; body = t.0.0 };
          new = new;
          is = (let same : with_define s.proofs name t.0.0 ≡ p = (let f = t.2 in cc) in same);
          form =
              ap (λ (fs : List Form). headed (codes "define") (symbol_form name ∷ fs)) g.forms
              ∙ ap (λ (x : List ℕ). headed x (symbol_form name ∷ all_erased ss)) (sym word);
          names = define_names at place w (part_and (symbol l name) ss) word;
        }

-- ---- entries

abbrev entry_kinds : List Kind
entry_kinds = a_precondition ∷ a_postcondition ∷ an_entry_certificate ∷ a_body ∷ []

abbrev entry_from : (f : ℕ) → Values entry_kinds → EntryTree
entry_from f v = record { function = f; spec = record { pre = v.0; post = v.1.0 }; entry = v.1.1.0; body = v.1.1.1.0 }

entry_names_are : (at place l : ℕ) (w name : List ℕ) (ss : Sexps) → w ≡ codes "function" → entry_names_of (headed_at at place w (part_and (symbol l name) ss)) ≡ name ∷ []
entry_names_are at place l w name ss e =
    ap (λ (word : List ℕ). if bytes_eq word (codes "function") then name_of_parts (part_and (symbol l name) ss) else []) e

module _ (s : Sofar) (at place l : ℕ) (w name : List ℕ) (ss : Sexps) (p : ProofsTree) (word : w ≡ codes "function") (four : 4 ≡ count ss) where
  abbrev whole : Sexp
  whole = headed_at at place w (part_and (symbol l name) ss)

  values_are :
      (f : ℕ) (function : CoreFunctionTree) (v : Values entry_kinds) → slice_get s.unit.functions f ≡ Some function → function_name s.unit f ≡ name
      → each_means (in_entry s.unit function (is_defined s)) entry_kinds ss ≡ Ok v → with_entry s.proofs f v ≡ p → IsEntry s whole p
  values_are f function v here named means is =
      let words : Words = record { functions = function_name s.unit; variables = words_of function } in
      let e : EntryTree = entry_from f v in
      let read = each_good (in_entry s.unit function (is_defined s)) (in_entry s.unit function (is_defined s)) words
      (entry_fits s.unit function (is_defined s) (is_defined s) (λ n h. h)) entry_kinds ss v four means in
      record {
        entry = e;
        function = function;
        here = here;
        is = is;
        stands = λ known grows.
            let g = each_good (in_entry s.unit function (is_defined s)) (in_entry s.unit function known) words (entry_fits s.unit function (is_defined s) known grows) entry_kinds ss v four means in
            and_from _ _ (and_from _ _ (and_from _ _ g.stand.0 g.stand.1.0) g.stand.1.1.0) g.stand.1.1.1.0;
        form =
            ap (λ (o : Option CoreFunctionTree). entry_form_by (function_name s.unit f) (record { functions = function_name s.unit; variables = words_in o }) e) here
            ∙ ap (λ (n : List ℕ). headed (codes "function") (symbol_form n ∷ forms_each words entry_kinds v)) named
            ∙ ap (λ (fs : List Form). headed (codes "function") (symbol_form name ∷ fs)) read.forms
            ∙ ap (λ (x : List ℕ). headed x (symbol_form name ∷ all_erased ss)) (sym word);
        names = entry_names_are at place l w name ss word ∙ ap (λ (n : List ℕ). n ∷ []) (sym named);
      }

  known_is : (f : ℕ) (o : Option CoreFunctionTree) → slice_get s.unit.functions f ≡ o → function_name s.unit f ≡ name → entry_means s at f o ss ≡ Ok p → IsEntry s whole p
  known_is f None here named e = cc
  known_is f (Some function) here named e = by (has_entry s.proofs f) e
    where
      by : (b : Bool) → (if b then Err (Duplicate at) else bind (each_means (in_entry s.unit function (is_defined s)) entry_kinds ss) (λ v. Ok (with_entry s.proofs f v))) ≡ Ok p → IsEntry s whole p
      by true f = cc
      by false q =
          let t = bound (each_means (in_entry s.unit function (is_defined s)) entry_kinds ss) (λ v. Ok (with_entry s.proofs f v)) p q in
          values_are f function t.0 here named t.1 (let same : with_entry s.proofs f t.0 ≡ p = (let f = t.2 in cc) in same)

  named_is : (o : Option ℕ) → look_up name (functions_of s.unit) ≡ o → named_entry_means s at o ss ≡ Ok p → IsEntry s whole p
  named_is None found e = cc
  named_is (Some f) found e = known_is f (slice_get s.unit.functions f) refl (function_named s.unit name f found).0 e

function_is : (s : Sofar) (at place : ℕ) (w : List ℕ) (ss : Sexps) (p : ProofsTree) → bytes_eq w (codes "function") ≡ true → (count ss == 5) ≡ true → function_means s at ss ≡ Ok p → IsEntry s (headed_at at place w ss) p
function_is s at place w no_parts p h c e = cc
function_is s at place w (part_and (number l n) ss) p h c e = cc
function_is s at place w (part_and (list l inner) ss) p h c e = cc
function_is s at place w (part_and (symbol l name) ss) p h c e =
    named_is s at place l w name ss p (word_is w (codes "function") h) (one_less (count ss) 4 c) (look_up name (functions_of s.unit)) refl e

-- ---- lists at the top

headed_is :
    (s : Sofar) (at place : ℕ) (w : List ℕ) (ss : Sexps) (p : ProofsTree) (a b : Bool)
    → (bytes_eq w (codes "define") && (count ss == 2)) ≡ a → (bytes_eq w (codes "function") && (count ss == 5)) ≡ b
    → (if a then define_means s at ss else if b then function_means s at ss else Err (UnknownForm at)) ≡ Ok p → TopIs s (headed_at at place w ss) p
headed_is s at place w ss p true b i j e =
    let two = and_parts (bytes_eq w (codes "define")) (count ss == 2) i in a_define (define_is s at place w ss p two.0 two.1 e)
headed_is s at place w ss p false true i j e =
    let two = and_parts (bytes_eq w (codes "function")) (count ss == 5) j in an_entry (function_is s at place w ss p two.0 two.1 e)
headed_is s at place w ss p false false i j e = cc

pub top_is : (s : Sofar) (t : Sexp) (p : ProofsTree) → top_means s t ≡ Ok p → TopIs s t p
top_is s (number at n) p e = cc
top_is s (symbol at w) p e = cc
top_is s (list at no_parts) p e = cc
top_is s (list at (part_and (number place n) ss)) p e = cc
top_is s (list at (part_and (symbol place w) ss)) p e =
    headed_is s at place w ss p (bytes_eq w (codes "define") && (count ss == 2)) (bytes_eq w (codes "function") && (count ss == 5)) refl refl e
top_is s (list at (part_and (list place inner) ss)) p e = cc
