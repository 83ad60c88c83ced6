-- What the lists of a file are, as the readers go over them.
use Rattle.std.proofs.Common.{arith, ◌≡◌, ℕ, ◌+◌, ◌==◌, ℤ, Bool, true, false, ◌&&◌, if◌then◌else◌, List, [], ◌∷◌, ◌++◌, map, Option, Some, None, Result, Ok, Err, codes, inl, inr, refl, sym, ap, ◌∙◌, subst}
use Rattle.std.specs.Prelude.{bytes_eq, option_map, ◌⊎◌, ◌||◌}
use Rattle.std.specs.Borrow.{Bor}
use Rattle.std.proofs.lemmas.List.{append-nil}
use Rattle.std.proofs.lemmas.Option.{slice_get-get_or, slice_get-map}
use Rattle.std.specs.List.{ItemBy, slice_get}
use Rattle.qs_base.specs.Results.{bind}
use Rattle.qs_assert.specs.Trees.{AssertionTree}
use Rattle.qs_assert.specs.declared.define.Define.{Define}
use Rattle.qs_assert.specs.declared.variable.Var.{Var}
use Rattle.qs_assert.specs.declared.variable.VarKind.TheVariants as kinds
use Rattle.qs_core.specs.Trees.{CoreFunctionTree}
use Rattle.qs_core.specs.TreeOf.{function_tree}
use Rattle.qs_core.specs.UnitTrees.{unit_tree}
use Rattle.qs_core.specs.declared.unit.CoreUnit.{CoreUnit}
use Rattle.qs_core.specs.declared.units.CoreFunction.{CoreFunction}
use Rattle.qs_entail.specs.Certificates.{CertTree}
use Rattle.qs_sexpr.specs.Parts.{Splits}
use Rattle.qs_sexpr.specs.Trees.{Sexp, number, symbol, list, Sexps, no_parts, part_and, count, sexp_nodes}
use Rattle.qs_sexpr.specs.declared.node.Node.{Node}
use Rattle.qs_triples.specs.Derivations.{DerivationTree, ProofsTree}
use Rattle.qs_triples.specs.Entries.{has_entry}
use Rattle.qs_triples.specs.TreeOf.{entry_tree}
use Rattle.qs_triples.specs.Valuations.{number_if}
use Rattle.qs_prooftext_meaning.specs.declared.fault.TextFault.{TextFault}
use Rattle.qs_prooftext_meaning.specs.declared.fault.TextFault.TheVariants.{NoMemory, UnknownForm, Duplicate}
use Rattle.qs_prooftext_meaning.specs.declared.context.Word.{Word}
use Rattle.qs_prooftext.specs.declared.tops.File.{File}
use Rattle.qs_prooftext.specs.declared.tops.ProofsSoFar.{ProofsSoFar}
use Rattle.qs_prooftext_assertions.specs.Answers.{Gives, HasNoHead, IsHeaded, IsList, StandAll, Stands}
use Rattle.qs_prooftext_meaning.specs.Contexts.{function_rows, is_open_word, word_view}
use Rattle.qs_prooftext_meaning.specs.Definitions.{names_one_of}
use Rattle.qs_prooftext_assertions.specs.Firsts.{first_means, tail}
use Rattle.qs_prooftext_meaning.specs.Kinds.{Kind, Of, Row, Values, one, a_body, a_certificate, a_definition_body, a_derivation, a_postcondition, a_precondition, an_assertion, an_entry_certificate}
use Rattle.qs_prooftext_meaning.specs.Heads.{rows}
use Rattle.qs_prooftext_meaning.specs.Meanings.{Answer, all_mean, each_means, headed_means, list_means, means, number_means, symbol_means}
use Rattle.qs_prooftext_meaning.specs.Proofs.{Sofar, define_means, entry_means, function_means, headed_top_means, is_defined, named_entry_means, top_means, tops_mean, with_define, with_entry}
use Rattle.qs_prooftext_meaning.specs.Settings.{Setting, functions_of, in_definition, in_entry, look_up, typed, words_of}
use Rattle.qs_prooftext.specs.Tops.{EntryParts, GivesPart, TopsLeft, definition, entry_at, entry_of_parts, entry_parts_mean, first_only, found_entry, function, known_entry, named_define, named_entry, only_part, part_means, proofs_so_far, single, sofar_of}
use Rattle.qs_prooftext_assertions.specs.Walking.{HasParts}
use Rattle.qs_prooftext_assertions.proofs.AssertionLaws.{has_parts}
use Rattle.qs_prooftext_assertions.proofs.FirstLaws.{first_tree}
use Rattle.qs_prooftext_assertions.proofs.PartLaws.{first_stands, others_stand, no_first, no_split}
use Rattle.qs_prooftext_assertions.proofs.RangeLaws.{one_bound}

-- ---- answers

same_answer : {A : Type 0} (x : Answer A) → bind x (λ v. Ok v) ≡ x
same_answer (Err f) = refl
same_answer (Ok v) = refl

pub gives_same : {A T : Type 0} (view : T → A) (r : Result T TextFault) (a b : Answer A) → a ≡ b → Gives view a r → Gives view b r
gives_same {A = A} view r a b e h = let P : Answer A → Type 0 = λ x. Gives view x r in subst P e h

-- ---- the only part of a list

not_one : (n : ℕ) → (n + 1 + 1 == 1) ≡ false
not_one n = grind arith

single_is : (g : Setting) (k a : Kind) (made : Of a → Of k) (at : ℕ) (parts : Sexps) → list_means at (Some (one a made)) (count parts) (λ ks. each_means g ks parts) (λ b. all_mean g b parts) ≡ bind (bind (single at parts) (λ s. means g a s)) (λ v. Ok (made v))
single_is g k a made at no_parts = refl
single_is g k a made at (part_and s no_parts) = one_bound (means g a s) made
single_is g k a made at (part_and s (part_and t ss)) =
    ap (λ (b : Bool). if b then bind (each_means g (a ∷ []) (part_and s (part_and t ss))) (λ v. Ok (made v.0)) else Err (UnknownForm at)) (not_one (count ss))

headed_is : (g : Setting) (k a : Kind) (made : Of a → Of k) (at : ℕ) (parts : Sexps) (b : Bool) → list_means at (if b then Some (one a made) else None) (count parts) (λ ks. each_means g ks parts) (λ c. all_mean g c parts) ≡ bind (bind (if b then single at parts else Err (UnknownForm at)) (λ s. means g a s)) (λ v. Ok (made v))
headed_is g k a made at parts true = single_is g k a made at parts
headed_is g k a made at parts false = refl

-- a kind of list with one head and one part
record HasOnePart (g : Setting) (k a : Kind) (made : Of a → Of k) (head : List ℕ) : Type 0 where
  numbers : (at : ℕ) (n : ℤ) → number_means k at n ≡ Err (UnknownForm at)
  symbols : (at : ℕ) (w : List ℕ) → symbol_means g k at w ≡ Err (UnknownForm at)
  lists : (at : ℕ) (parts : Sexps) → means g k (list at parts) ≡ headed_means g k at parts
  heads : (at : ℕ) → rows g k at ≡ (head, one a made) ∷ []

part_is : (g : Setting) (k a : Kind) (made : Of a → Of k) (head : List ℕ) → HasOnePart g k a made head → (s : Sexp) → means g k s ≡ bind (bind (only_part head s) (λ s. means g a s)) (λ v. Ok (made v))
part_is g k a made head h (number at n) = h.numbers at n
part_is g k a made head h (symbol at w) = h.symbols at w
part_is g k a made head h (list at no_parts) = h.lists at no_parts
part_is g k a made head h (list at (part_and (number place n) parts)) = h.lists at (part_and (number place n) parts)
part_is g k a made head h (list at (part_and (symbol place w) parts)) =
    h.lists at (part_and (symbol place w) parts)
    ∙ (ap (λ (rs : List (List ℕ × Row k)). list_means at (look_up w rs) (count parts) (λ ks. each_means g ks parts) (λ b. all_mean g b parts)) (h.heads at)
    ∙ headed_is g k a made at parts (bytes_eq head w))
part_is g k a made head h (list at (part_and (list place inner) parts)) = h.lists at (part_and (list place inner) parts)

first_is : (g : Setting) (k a : Kind) (made : Of a → Of k) (head : List ℕ) → HasOnePart g k a made head → (ss : Sexps) → first_means g k ss ≡ bind (part_means g a head ss) (λ v. Ok (made v))
first_is g k a made head h no_parts = refl
first_is g k a made head h (part_and s ss) = part_is g k a made head h s

pre_is : (g : Setting) (ss : Sexps) → first_means g a_precondition ss ≡ part_means g an_assertion (codes "pre") ss
pre_is g ss =
    first_is g a_precondition an_assertion (λ v. v) (codes "pre") (record { numbers = λ at n. refl; symbols = λ at w. refl; lists = λ at parts. refl; heads = λ at. refl }) ss ∙ same_answer (part_means g an_assertion (codes "pre") ss)

post_is : (g : Setting) (ss : Sexps) → first_means g a_postcondition ss ≡ part_means g an_assertion (codes "post") ss
post_is g ss =
    first_is g a_postcondition an_assertion (λ v. v) (codes "post") (record { numbers = λ at n. refl; symbols = λ at w. refl; lists = λ at parts. refl; heads = λ at. refl }) ss ∙ same_answer (part_means g an_assertion (codes "post") ss)

entry_is : (g : Setting) (ss : Sexps) → first_means g an_entry_certificate ss ≡ part_means g a_certificate (codes "entry") ss
entry_is g ss =
    first_is g an_entry_certificate a_certificate (λ v. v) (codes "entry") (record { numbers = λ at n. refl; symbols = λ at w. refl; lists = λ at parts. refl; heads = λ at. refl }) ss ∙ same_answer (part_means g a_certificate (codes "entry") ss)

body_is : (g : Setting) (ss : Sexps) → first_means g a_body ss ≡ part_means g a_derivation (codes "body") ss
body_is g ss =
    first_is g a_body a_derivation (λ v. v) (codes "body") (record { numbers = λ at n. refl; symbols = λ at w. refl; lists = λ at parts. refl; heads = λ at. refl }) ss ∙ same_answer (part_means g a_derivation (codes "body") ss)

-- ---- parts one after another

abbrev with_part : (k : Kind) (ks : List Kind) → Answer (Of k) → Answer (Values ks) → Answer (Values (k ∷ ks))
with_part k ks x y = bind x (λ v. bind y (λ vs. Ok (v, vs)))

each_next : (g : Setting) (k : Kind) (ks : List Kind) (ss : Sexps) → each_means g (k ∷ ks) ss ≡ with_part k ks (first_means g k ss) (each_means g ks (tail ss))
each_next g k ks no_parts = refl
each_next g k ks (part_and s ss) = refl

each_step : (g : Setting) (k : Kind) (ks : List Kind) (ss : Sexps) (x : Answer (Of k)) (y : Answer (Values ks)) → first_means g k ss ≡ x → each_means g ks (tail ss) ≡ y → each_means g (k ∷ ks) ss ≡ with_part k ks x y
each_step g k ks ss x y e f = each_next g k ks ss ∙ (λ i. with_part k ks (e i) (f i))

together : (x y : Answer AssertionTree) (z : Answer CertTree) (w : Answer DerivationTree) → with_part a_precondition (a_postcondition ∷ an_entry_certificate ∷ a_body ∷ []) x (with_part a_postcondition (an_entry_certificate ∷ a_body ∷ []) y (with_part an_entry_certificate (a_body ∷ []) z (with_part a_body [] w (Ok tt)))) ≡ entry_of_parts x y z w
together (Err f) y z w = refl
together (Ok a) (Err f) z w = refl
together (Ok a) (Ok b) (Err f) w = refl
together (Ok a) (Ok b) (Ok c) (Err f) = refl
together (Ok a) (Ok b) (Ok c) (Ok d) = refl

pub entry_parts : (g : Setting) (ss : Sexps) → each_means g (a_precondition ∷ a_postcondition ∷ an_entry_certificate ∷ a_body ∷ []) ss ≡ entry_parts_mean g ss
entry_parts g ss =
    each_step g a_precondition (a_postcondition ∷ an_entry_certificate ∷ a_body ∷ []) ss _ _ (pre_is g ss)
    (each_step g a_postcondition (an_entry_certificate ∷ a_body ∷ []) (tail ss) _ _ (post_is g (tail ss))
    (each_step g an_entry_certificate (a_body ∷ []) (tail (tail ss)) _ _ (entry_is g (tail (tail ss)))
    (each_step g a_body [] (tail (tail (tail ss))) _ _ (body_is g (tail (tail (tail ss)))) refl)))
    ∙ together (part_means g an_assertion (codes "pre") ss) (part_means g an_assertion (codes "post") (tail ss)) (part_means g a_certificate (codes "entry") (tail (tail ss))) (part_means g a_derivation (codes "body") (tail (tail (tail ss))))

pub body_stops : (x y : Answer AssertionTree) (z : Answer CertTree) (w : Answer DerivationTree) (pre post : AssertionTree) (entry : CertTree) (fault : TextFault) → x ≡ Ok pre → y ≡ Ok post → z ≡ Ok entry → (w ≡ Err fault) ⊎ (fault ≡ NoMemory) → (entry_of_parts x y z w ≡ Err fault) ⊎ (fault ≡ NoMemory)
body_stops x y z w pre post entry fault e f h (inl stop) = inl (λ i. entry_of_parts (e i) (f i) (h i) (stop i))
body_stops x y z w pre post entry fault e f h (inr none) = inr none

abbrev pub setting_with : List CoreFunction → (is_open : List Bool) → List Define → List Word → Option Var → Setting
setting_with fs is_open ds ws r = record {
  functions = function_rows fs;
  variables = map word_view ws;
  result = r;
  has_name = λ name. is_open_word is_open (function_rows fs) name || names_one_of ds name;
}

-- what the reader of an entry knows
pub new_setting : (file : File) (proofs : ProofsSoFar) (f : CoreFunctionTree) (fs : List CoreFunction) (ws : List Word) (r : Option Var) → fs ≡ file.unit.now.functions.items → map word_view ws ≡ words_of f → r ≡ typed kinds.Returned (number_if f.result_type) → setting_with fs file.is_open.now proofs.definitions.defines.items ws r ≡ in_entry (unit_tree file.unit.now) f (is_defined (sofar_of file proofs))
new_setting file proofs f fs ws r e k h = λ i. record {
  functions = function_rows (e i);
  variables = k i;
  result = h i;
  has_name = λ name. is_open_word file.is_open.now (function_rows (e i)) name || names_one_of proofs.definitions.defines.items name;
}

-- ---- definitions

-- the names that the reader knows are those that are defined so far
pub names_known : (file : File) (proofs : ProofsSoFar) (fs : List CoreFunction) (word : List ℕ) (b : Bool) → fs ≡ file.unit.now.functions.items → b ≡ (is_open_word file.is_open.now (function_rows fs) word || names_one_of proofs.definitions.defines.items word) → is_defined (sofar_of file proofs) word ≡ b
names_known file proofs fs word b e is =
    sym (is ∙ (λ i. is_open_word file.is_open.now (function_rows (e i)) word || names_one_of proofs.definitions.defines.items word))

pub define_twice : (s : Sofar) (at : ℕ) (name : List ℕ) (ss : Sexps) → is_defined s name ≡ true → named_define s at name ss ≡ Err (Duplicate at)
define_twice s at name ss e =
    ap (λ (b : Bool). if b then Err (Duplicate at) else bind (first_means (in_definition s.unit) a_definition_body ss) (λ body. Ok (with_define s.proofs name body))) e

define_once : (s : Sofar) (at : ℕ) (name : List ℕ) (g : Setting) (ss : Sexps) → is_defined s name ≡ false → g ≡ in_definition s.unit → named_define s at name ss ≡ bind (first_means g a_definition_body ss) (λ body. Ok (with_define s.proofs name body))
define_once s at name g ss e h =
    ap (λ (b : Bool). if b then Err (Duplicate at) else bind (first_means (in_definition s.unit) a_definition_body ss) (λ body. Ok (with_define s.proofs name body))) e
    ∙ ap (λ (k : Setting). bind (first_means k a_definition_body ss) (λ body. Ok (with_define s.proofs name body))) (sym h)

pub define_stops : (s : Sofar) (at : ℕ) (name : List ℕ) (g : Setting) (ss : Sexps) (fault : TextFault) → is_defined s name ≡ false → g ≡ in_definition s.unit → (first_means g a_definition_body ss ≡ Err fault) ⊎ (fault ≡ NoMemory) → (named_define s at name ss ≡ Err fault) ⊎ (fault ≡ NoMemory)
define_stops s at name g ss fault e h (inl stop) =
    inl (define_once s at name g ss e h ∙ ap (λ (a : Answer AssertionTree). bind a (λ body. Ok (with_define s.proofs name body))) stop)
define_stops s at name g ss fault e h (inr none) = inr none

pub define_done : (file : File) (proofs now : ProofsSoFar) (at : ℕ) (name word : List ℕ) (g : Setting) (ss : Sexps) (body : AssertionTree) → is_defined (sofar_of file proofs) word ≡ false → g ≡ in_definition (unit_tree file.unit.now) → first_means g a_definition_body ss ≡ Ok body → name ≡ word → now.definitions.defines.items ≡ proofs.definitions.defines.items ++ record { name = name; body = body } ∷ [] → now.functions ≡ proofs.functions → named_define (sofar_of file proofs) at word ss ≡ Ok (proofs_so_far now)
define_done file proofs now at name word g ss body e h means same added kept =
    define_once (sofar_of file proofs) at word g ss e h
    ∙ (ap (λ (a : Answer AssertionTree). bind a (λ body. Ok (with_define (proofs_so_far proofs) word body))) means
    ∙ (λ i. Ok (record {
      defines = (ap (λ (n : List ℕ). proofs.definitions.defines.items ++ record { name = n; body = body } ∷ []) (sym same) ∙ sym added) i;
      functions = map entry_tree (sym kept i).items;
    })))

-- ---- the function of an entry

got : {X : Type 0} (xs : List X) (k : ℕ) (r : Option (Bor X)) (x : Bor X) → ItemBy (λ (y : Bor X). y.now) xs k k r → r ≡ Some x → slice_get xs k ≡ Some x.now
got xs k None x h e = cc
got {X = X} xs k (Some y) x h e =
    let same : y ≡ x = cc in
    slice_get-get_or xs k y.now h.3.0 ∙ (ap (λ (z : X). Some z) (sym h.1) ∙ ap (λ (z : Bor X). Some z.now) same)

pub function_at : (unit : CoreUnit) (fs : List CoreFunction) (f : ℕ) (r : Option (Bor CoreFunction)) (x : Bor CoreFunction) → fs ≡ unit.functions.items → ItemBy (λ (y : Bor CoreFunction). y.now) fs f f r → r ≡ Some x → slice_get (unit_tree unit).functions f ≡ Some (function_tree x.now)
function_at unit fs f r x e h is =
    slice_get-map function_tree unit.functions.items f
    ∙ ap (option_map function_tree) (ap (λ (xs : List CoreFunction). slice_get xs f) (sym e) ∙ got fs f r x h is)

pub entry_found : (file : File) (proofs : ProofsSoFar) (at : ℕ) (w : List ℕ) (ss : Sexps) (f : ℕ) (function : CoreFunctionTree) → look_up w (functions_of (unit_tree file.unit.now)) ≡ Some f → slice_get (unit_tree file.unit.now).functions f ≡ Some function → named_entry (sofar_of file proofs) at w ss ≡ known_entry (sofar_of file proofs) at f function ss
entry_found file proofs at w ss f function e h =
    ap (λ (o : Option ℕ). found_entry (sofar_of file proofs) at o ss) e
    ∙ ap (λ (o : Option CoreFunctionTree). entry_at (sofar_of file proofs) at f o ss) h

-- ---- lists at the top

define_body : (g : Setting) (made : Of a_definition_body → ProofsTree) (ss : Sexps) → bind (each_means g (a_definition_body ∷ []) ss) (λ v. Ok (made v.0)) ≡ bind (first_means g a_definition_body ss) (λ v. Ok (made v))
define_body g made no_parts = refl
define_body g made (part_and s ss) = one_bound (means g a_definition_body s) made

define_is : (s : Sofar) (at : ℕ) (ss : Sexps) → count ss ≡ 2 → define_means s at ss ≡ definition s at ss
define_is s at no_parts e = absurd (omega (arith, e))
define_is s at (part_and (number place n) parts) e = refl
define_is s at (part_and (symbol place name) parts) e =
    ap (λ (a : Answer ProofsTree). if is_defined s name then Err (Duplicate at) else a) (define_body (in_definition s.unit) (with_define s.proofs name) parts)
define_is s at (part_and (list place inner) parts) e = refl

entry_at_is : (s : Sofar) (at f : ℕ) (o : Option CoreFunctionTree) (ss : Sexps) → entry_means s at f o ss ≡ entry_at s at f o ss
entry_at_is s at f None ss = refl
entry_at_is s at f (Some function) ss =
    ap (λ (a : Answer EntryParts). if has_entry s.proofs f then Err (Duplicate at) else bind a (λ v. Ok (with_entry s.proofs f v))) (entry_parts (in_entry s.unit function (is_defined s)) ss)

found_is : (s : Sofar) (at : ℕ) (o : Option ℕ) (ss : Sexps) → named_entry_means s at o ss ≡ found_entry s at o ss
found_is s at None ss = refl
found_is s at (Some f) ss = entry_at_is s at f (slice_get s.unit.functions f) ss

function_is : (s : Sofar) (at : ℕ) (ss : Sexps) → count ss ≡ 5 → function_means s at ss ≡ function s at ss
function_is s at no_parts e = absurd (omega (arith, e))
function_is s at (part_and (number place n) parts) e = refl
function_is s at (part_and (symbol place name) parts) e = found_is s at (look_up name (functions_of s.unit)) parts
function_is s at (part_and (list place inner) parts) e = refl

pub define_top : (s : Sofar) (at place : ℕ) (w : List ℕ) (n : ℕ) (ss : Sexps) → w ≡ codes "define" → HasParts n ss → n ≡ 3 → headed_top_means s at (symbol place w) ss ≡ definition s at ss
define_top s at place w n ss e c three =
    let two : count ss ≡ 2 = omega (arith, c, three) in
    let test : (count ss == 2) ≡ true = grind (arith, two) in
    ap (λ (v : List ℕ). headed_top_means s at (symbol place v) ss) e
    ∙ (ap (λ (b : Bool). if b then define_means s at ss else Err (UnknownForm at)) test ∙ define_is s at ss two)

pub define_unfit : (s : Sofar) (at place : ℕ) (w : List ℕ) (n : ℕ) (ss : Sexps) → w ≡ codes "define" → HasParts n ss → (n ≡ 3 → ⊥) → headed_top_means s at (symbol place w) ss ≡ Err (UnknownForm at)
define_unfit s at place w n ss e c other =
    let test : (count ss == 2) ≡ false = grind (arith, c, other) in
    ap (λ (v : List ℕ). headed_top_means s at (symbol place v) ss) e
    ∙ ap (λ (b : Bool). if b then define_means s at ss else Err (UnknownForm at)) test

pub function_top : (s : Sofar) (at place : ℕ) (w : List ℕ) (n : ℕ) (ss : Sexps) → w ≡ codes "function" → HasParts n ss → n ≡ 6 → headed_top_means s at (symbol place w) ss ≡ function s at ss
function_top s at place w n ss e c six =
    let five : count ss ≡ 5 = omega (arith, c, six) in
    let test : (count ss == 5) ≡ true = grind (arith, five) in
    ap (λ (v : List ℕ). headed_top_means s at (symbol place v) ss) e
    ∙ (ap (λ (b : Bool). if b then function_means s at ss else Err (UnknownForm at)) test ∙ function_is s at ss five)

pub function_unfit : (s : Sofar) (at place : ℕ) (w : List ℕ) (n : ℕ) (ss : Sexps) → w ≡ codes "function" → HasParts n ss → (n ≡ 6 → ⊥) → headed_top_means s at (symbol place w) ss ≡ Err (UnknownForm at)
function_unfit s at place w n ss e c other =
    let test : (count ss == 5) ≡ false = grind (arith, c, other) in
    ap (λ (v : List ℕ). headed_top_means s at (symbol place v) ss) e
    ∙ ap (λ (b : Bool). if b then function_means s at ss else Err (UnknownForm at)) test

pub unknown_top : (s : Sofar) (at place : ℕ) (w : List ℕ) (ss : Sexps) → bytes_eq w (codes "define") ≡ false → bytes_eq w (codes "function") ≡ false → headed_top_means s at (symbol place w) ss ≡ Err (UnknownForm at)
unknown_top s at place w ss e f =
    (λ i. if (e i && (count ss == 2)) then define_means s at ss else if (f i && (count ss == 5)) then function_means s at ss else Err (UnknownForm at))

-- ---- the parts that are met

only_headed : (head text : List ℕ) (s : Sexp) (at n : ℕ) (nodes : List Node) (w : List ℕ) (others : List Node) → (p : IsList text s at n nodes) (h : IsHeaded text p.parts w others) → only_part head s ≡ (if bytes_eq head w then single at h.parts else Err (UnknownForm at))
only_headed head text s at n nodes w others p h =
    ap (only_part head) (p.same ∙ ap (λ (ss : Sexps). list at ss) h.same)

one_stands : (text : List ℕ) (others : List Node) (at : ℕ) (ss : Sexps) → StandAll text others ss → count ss ≡ 1 → (s : Sexp) × (single at ss ≡ Ok s) × Stands text others s
one_stands text others at no_parts h e = absurd (omega (arith, e))
one_stands text others at (part_and s no_parts) h e =
    (s, refl, record { nodes_are = h.nodes_are ∙ append-nil (sexp_nodes s); lies = h.lie.0 })
one_stands text others at (part_and s (part_and t ss)) h e = absurd (omega (arith, e))

pub only_found : (head text : List ℕ) (s : Sexp) (at n : ℕ) (nodes : List Node) (w : List ℕ) (others : List Node) → (p : IsList text s at n nodes) (h : IsHeaded text p.parts w others) → bytes_eq head w ≡ true → n ≡ 2 → (q : Sexp) × (only_part head s ≡ Ok q) × Stands text others q
only_found head text s at n nodes w others p h is two =
    let whole : count p.parts ≡ count h.parts + 1 = ap count h.same in
    let c = p.counts in
    let t = one_stands text others at h.parts h.stand (omega (arith, whole, c, two)) in
    (t.0, only_headed head text s at n nodes w others p h ∙ (ap (λ (b : Bool). if b then single at h.parts else Err (UnknownForm at)) is ∙ t.1), t.2)

pub first_only_gives : (text head : List ℕ) (nodes first others : List Node) (ss : Sexps) (r : Result (Bor (List Node)) TextFault) → StandAll text nodes ss → Splits nodes first others → ((s : Sexp) → Stands text first s → GivesPart text (only_part head s) r) → GivesPart text (first_only head ss) r
first_only_gives text head nodes first others no_parts r h p f = no_split text nodes first others h p
first_only_gives text head nodes first others (part_and s ss) r h p f = f s (first_stands text nodes s ss first others h p)

-- ---- the lists of a file

no_head_top : (s : Sofar) (at : ℕ) (ss : Sexps) → HasNoHead ss → top_means s (list at ss) ≡ Err (UnknownForm at)
no_head_top s at no_parts h = refl
no_head_top s at (part_and (number place n) parts) h = refl
no_head_top s at (part_and (symbol place w) parts) h = absurd h
no_head_top s at (part_and (list place inner) parts) h = refl

pub top_headless : (s : Sofar) (text : List ℕ) (t : Sexp) (at n : ℕ) (nodes : List Node) → (p : IsList text t at n nodes) → HasNoHead p.parts → top_means s t ≡ Err (UnknownForm at)
top_headless s text t at n nodes p h = ap (top_means s) p.same ∙ no_head_top s at p.parts h

pub top_headed : {T : Type 0} (s : Sofar) (view : T → ProofsTree) (r : Result T TextFault) (text : List ℕ) (t : Sexp) (at n : ℕ) (nodes : List Node) (w : List ℕ) (others : List Node) → (p : IsList text t at n nodes) (h : IsHeaded text p.parts w others) → Gives view (headed_top_means s at (symbol h.place w) h.parts) r → Gives view (top_means s t) r
top_headed s view r text t at n nodes w others p h gives =
    let P : Answer ProofsTree → Type 0 = λ a. Gives view a r in
    subst P (sym (ap (top_means s) (p.same ∙ ap (λ (ss : Sexps). list at ss) h.same))) gives

pub tops_go : (s : Sofar) (text : List ℕ) (rest first others : List Node) (proofs : ProofsTree) (due : Answer ProofsTree) → TopsLeft s text rest due → Splits rest first others → ((t : Sexp) → Stands text first t → top_means s t ≡ Ok proofs) → TopsLeft (record s { proofs = proofs }) text others due
tops_go s text rest first others proofs due l p f = go l.forest l.stand l.same
  where
    go : (ss : Sexps) → StandAll text rest ss → tops_mean s ss ≡ due → TopsLeft (record s { proofs = proofs }) text others due
    go no_parts h e = no_split text rest first others h p
    go (part_and t ss) h e =
        record {
          forest = ss;
          stand = others_stand text rest t ss first others h p;
          same = sym (ap (λ (a : Answer ProofsTree). bind a (λ proofs. tops_mean (record s { proofs = proofs }) ss)) (f t (first_stands text rest t ss first others h p))) ∙ e;
        }

pub tops_stop : (s : Sofar) (text : List ℕ) (rest first others : List Node) (fault : TextFault) (due : Answer ProofsTree) → TopsLeft s text rest due → Splits rest first others → ((t : Sexp) → Stands text first t → (top_means s t ≡ Err fault) ⊎ (fault ≡ NoMemory)) → (due ≡ Err fault) ⊎ (fault ≡ NoMemory)
tops_stop s text rest first others fault due l p f = go l.forest l.stand l.same
  where
    by : (t : Sexp) (ss : Sexps) → tops_mean s (part_and t ss) ≡ due → (top_means s t ≡ Err fault) ⊎ (fault ≡ NoMemory) → (due ≡ Err fault) ⊎ (fault ≡ NoMemory)
    by t ss e (inl h) =
        inl (sym e ∙ ap (λ (a : Answer ProofsTree). bind a (λ proofs. tops_mean (record s { proofs = proofs }) ss)) h)
    by t ss e (inr h) = inr h

    go : (ss : Sexps) → StandAll text rest ss → tops_mean s ss ≡ due → (due ≡ Err fault) ⊎ (fault ≡ NoMemory)
    go no_parts h e = no_split text rest first others h p
    go (part_and t ss) h e = by t ss e (f t (first_stands text rest t ss first others h p))

pub tops_first : (s : Sofar) (text : List ℕ) (rest first others : List Node) (due : Answer ProofsTree) → TopsLeft s text rest due → Splits rest first others → (t : Sexp) × Stands text first t
tops_first s text rest first others due l p = first_tree text rest first others l.forest l.stand p

pub tops_end : (s : Sofar) (text : List ℕ) (rest : List Node) (due : Answer ProofsTree) → TopsLeft s text rest due → rest ≡ [] → due ≡ Ok s.proofs
tops_end s text rest due l e = go l.forest l.stand l.same
  where
    go : (ss : Sexps) → StandAll text rest ss → tops_mean s ss ≡ due → due ≡ Ok s.proofs
    go no_parts h f = sym f
    go (part_and t ss) h f = no_first text rest t ss h e

pub ruleset headed_tops = (define_top, define_unfit, function_top, function_unfit, unknown_top)

pub ruleset top_lists = (top_headless, top_headed, has_parts)
