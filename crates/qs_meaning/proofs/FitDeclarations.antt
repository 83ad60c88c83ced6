-- Declared types are small, and have sizes.
use Rattle.std.proofs.Common.{◌≡◌, ◌≤◌, ℕ, zero, suc, ◌+◌, ◌==◌, ◌^◌, nat_lt, Bool, true, false, not, ◌&&◌, ◌||◌, List, [], ◌∷◌, ◌++◌, length, Option, Some, None, is_some, refl, sym, ap, subst, arith, if◌then◌else◌, le-leb}
use Rattle.std.proofs.lemmas.Bool.{and_from}
use Rattle.std.proofs.lemmas.Option.{same_Some}
use Rattle.qs_syntax.specs.declared.types.Base.{Base}
use Rattle.qs_syntax.specs.Trees.{ExprTree, LengthsTree, DeclaratorTree, InitialiserTree, no_initialisers, initialiser_and, VariableTree}
use Rattle.qs_syntax.specs.Trees as trees
use Rattle.qs_types.specs.declared.extent.Extent.{Extent}
use Rattle.qs_types.specs.Types.{TypeTree, unsigned, array, same_type, Structs}
use Rattle.qs_types.specs.Layout.{and_then, array_extent, extent_within, layout_of, size_of, sized_by, is_sized}
use Rattle.qs_types.specs.Rules.{keeps, breaks_one}
use Rattle.qs_types.specs.declared.rules.Rule.TheVariants as rules
use Rattle.qs_types.specs.Contexts.{Context, base_type, starred}
use Rattle.qs_types.specs.Expressions.{type_or_void, type_of}
use Rattle.qs_types.specs.Constants.{constant_of, length_within, length_of}
use Rattle.qs_types.specs.Declarations.{all_typed, lengths_of, arrays, whole_lengths, element_tests, object_type, size_tests, undeclared, declared, initialisers_count, text_of, length_by, variable_declared, object_over, declared_over, plain_tests, plain_declared, has_brackets, type_name_declared}
use Rattle.qs_meaning.specs.FitLaws.{is_filled}
use Rattle.qs_meaning.proofs.Options.{never, nothing, went, Known, known}
use Rattle.qs_meaning.proofs.FaultlessExpressions.{first_unbroken, second_unbroken}
use Rattle.qs_meaning.proofs.TypedExpressions.{unless}
use Rattle.qs_meaning.proofs.FitTypes.{is_small, sized_is, SmallNames}
use Rattle.qs_meaning.proofs.FitSmall.{SmallOption, base_small, stars_small}

-- ---- lengths (6.7.6.2p1)

abbrev pub AllPositive : List ℕ → Type 0
AllPositive [] = Unit {0}
AllPositive (n ∷ ns) = (1 ≤ n) × AllPositive ns

length_positive : (c : Context) (e : ExprTree) (n : ℕ) → length_of c e ≡ Some n → 1 ≤ n
length_positive c e n h =
    let t = went (type_of c e) (λ t. and_then (constant_of c e) (length_within t)) n h in
    let m = went (constant_of c e) (length_within t.value) n t.gave in
    within t.value m.value m.gave
  where
    not_zero : (m : ℕ) → (m == 0) ≡ false → 1 ≤ m
    not_zero zero f = never (sym f)
    not_zero (suc m) f = omega arith

    within : (t : TypeTree) (m : ℕ) → length_within t m ≡ Some n → 1 ≤ n
    within t m h = go (m == 0) (not (same_type t unsigned) && not (nat_lt m (2 ^ 31))) refl h
      where
        go : (b large : Bool) → (m == 0) ≡ b → (if b || large then None else Some m) ≡ Some n → 1 ≤ n
        go true large f h = nothing n h
        go false true f h = nothing n h
        go false false f h = subst (λ z. 1 ≤ z) (same_Some m n h) (not_zero m f)

pub lengths_positive : (c : Context) (es : List ExprTree) (ns : List ℕ) → lengths_of c es ≡ Some ns → AllPositive ns
lengths_positive c [] ns h = subst AllPositive (same_Some [] ns h) tt
lengths_positive c (e ∷ es) ns h =
    let n = went (length_of c e) (λ n. and_then (lengths_of c es) (λ ns. Some (n ∷ ns))) ns h in
    let rest = went (lengths_of c es) (λ ns. Some (n.value ∷ ns)) ns n.gave in
    subst AllPositive (same_Some _ ns rest.gave) (length_positive c e n.value n.had, lengths_positive c es rest.value rest.had)

abbrev pub IfPositive : Option ℕ → Type 0
IfPositive first = (n : ℕ) → first ≡ Some n → 1 ≤ n

whole_positive : (l : LengthsTree) (first : Option ℕ) (given : Option (List ℕ)) (ns : List ℕ) → IfPositive first → ((ms : List ℕ) → given ≡ Some ms → AllPositive ms)
    → whole_lengths l first given ≡ Some ns → AllPositive ns
whole_positive l first None ns h k e = nothing ns e
whole_positive l first (Some ms) ns h k e = go l.is_open e
  where
    go : (b : Bool) → (if b then and_then first (λ n. Some (n ∷ ms)) else Some ms) ≡ Some ns → AllPositive ns
    go true e = let w = went first (λ n. Some (n ∷ ms)) ns e in subst AllPositive (same_Some _ ns w.gave) (h w.value w.had, k ms refl)
    go false e = subst AllPositive (same_Some ms ns e) (k ms refl)

-- ---- arrays

element_sized : (structs : Structs) (t : TypeTree) (n : ℕ) → is_sized structs (array t n) ≡ true → is_sized structs t ≡ true
element_sized structs t n e = go (sized_by (layout_of structs) t) e
  where
    go : (o : Option Extent) → is_some (and_then o (λ (x : Extent). extent_within (array_extent x n))) ≡ true → is_some o ≡ true
    go None e = never e
    go (Some x) e = refl

arrays_small : (structs : Structs) (t : TypeTree) (ns : List ℕ) → is_small structs t ≡ true → AllPositive ns → is_sized structs (arrays t ns) ≡ true
    → is_small structs (arrays t ns) ≡ true
arrays_small structs t [] h k e = h
arrays_small structs t (n ∷ ns) h k e =
    and_from _ _ (and_from _ _ (le-leb 1 n k.0) e) (arrays_small structs t ns h k.1 (element_sized structs (arrays t ns) n e))

-- ---- declared types

pub record SizedType (structs : Structs) (t : TypeTree) : Type 0 where
  pub small : is_small structs t ≡ true
  pub size : ℕ
  pub is : size_of structs t ≡ Some size

sized_kept : (broken sized : Bool) → broken ≡ false → ((not broken && not sized) || false) ≡ false → sized ≡ true
sized_kept true sized e h = never (sym e)
sized_kept false true e h = refl
sized_kept false false e h = never (sym h)

has_size : (structs : Structs) (t : TypeTree) → is_small structs t ≡ true → is_sized structs t ≡ true → SizedType structs t
has_size structs t small sized =
    let k : Known (sized_by (layout_of structs) t) = known _ sized in
    record { small = small; size = k.value.size; is = ap (λ o. and_then o (λ (e : Extent). Some e.size)) (sized_is (layout_of structs) t k.value k.is) }

pub object_small : (c : Context) (base : Option TypeTree) (stars : ℕ) (ns : Option (List ℕ)) (t : TypeTree) → SmallOption c.structs base
    → ((ms : List ℕ) → ns ≡ Some ms → AllPositive ms) → (object_over c base stars ns).type ≡ Some t → SizedType c.structs t
object_small c base stars ns t small h e =
    let before = element_tests c base stars ++ keeps rules.ArrayLength (is_some ns) in
    let u = unless (before ++ size_tests c before (object_type base stars ns)) (object_type base stars ns) t e in
    let sized = sized_kept (breaks_one before) (is_sized c.structs (object_type base stars ns)) (first_unbroken before (size_tests c before (object_type base stars ns)) u.unbroken)
    (second_unbroken before (size_tests c before (object_type base stars ns)) u.unbroken) in
    subst (SizedType c.structs) u.type (has_size c.structs (object_type base stars ns) (all_small ns h sized) sized)
  where
    all_small : (ns : Option (List ℕ)) → ((ms : List ℕ) → ns ≡ Some ms → AllPositive ms) → is_sized c.structs (object_type base stars ns) ≡ true
        → is_small c.structs (object_type base stars ns) ≡ true
    all_small None h e = refl
    all_small (Some ms) h e = arrays_small c.structs (type_or_void (starred base stars)) ms (stars_small c.structs base stars small) (h ms refl) e

over_small : (c : Context) (base : Option TypeTree) (d : DeclaratorTree) (first : Option ℕ) (t : TypeTree) → SmallOption c.structs base → IfPositive first
    → (declared_over c base d first).type ≡ Some t → SizedType c.structs t
over_small c base d first t small h e = go (all_typed c d.lengths.given) e
  where
    lengths : Option (List ℕ)
    lengths = whole_lengths d.lengths first (lengths_of c d.lengths.given)

    go : (b : Bool) → (if b then object_over c base d.stars lengths else undeclared).type ≡ Some t → SizedType c.structs t
    go true e = object_small c base d.stars lengths t small
        (λ ms p. whole_positive d.lengths first (lengths_of c d.lengths.given) ms h (lengths_positive c d.lengths.given) p) e
    go false e = nothing t e

pub declared_small : (c : Context) → SmallNames c.structs c.type_names → (base : Base) (d : DeclaratorTree) (first : Option ℕ) (t : TypeTree) → IfPositive first
    → (declared c base d first).type ≡ Some t → SizedType c.structs t
declared_small c named base d first t h e = over_small c (base_type c base) d first t (base_small c.structs c.type_names named base) h e

pub plain_small : (structs : Structs) (base : Option TypeTree) (stars : ℕ) (t : TypeTree) → SmallOption structs base → (plain_declared base stars).type ≡ Some t
    → is_small structs t ≡ true
plain_small structs base stars t small e =
    let u = unless (plain_tests base) (type_or_void (starred base stars)) t e in
    subst (λ z. is_small structs z ≡ true) u.type (stars_small structs base stars small)

-- the type that a type name gets is small
pub type_name_small : (c : Context) (base : Option TypeTree) (d : DeclaratorTree) (t : TypeTree) → SmallOption c.structs base → (type_name_declared c base d).type ≡ Some t
    → is_small c.structs t ≡ true
type_name_small c base d t small e = go (has_brackets d.lengths) e
  where
    go : (b : Bool) → (if b then declared_over c base d None else plain_declared base d.stars).type ≡ Some t → is_small c.structs t ≡ true
    go true e = (over_small c base d None t small (λ n p. nothing n p) e).small
    go false e = plain_small c.structs base d.stars t small e

-- ---- variables

text_positive : (n : ℕ) → 1 ≤ n + 1
text_positive n = omega arith

first_positive : (i : Option InitialiserTree) → is_filled i ≡ true → IfPositive (length_by i)
first_positive None h n e = nothing n e
first_positive (Some (trees.value x)) h n e =
    let w = went (text_of x) (λ bytes. Some (length bytes + 1)) n e in
    subst (λ z. 1 ≤ z) (same_Some _ n w.gave) (text_positive (length w.value))
first_positive (Some (trees.list node no_initialisers)) h n e = never h
first_positive (Some (trees.list node (initialiser_and i is))) h n e = subst (λ z. 1 ≤ z) (same_Some _ n e) (positive (initialisers_count is))
  where
    positive : (n : ℕ) → 1 ≤ suc n
    positive n = omega arith

pub variable_small : (c : Context) → SmallNames c.structs c.type_names → (base : Base) (v : VariableTree) (t : TypeTree) → is_filled v.initialiser ≡ true → (variable_declared c base v).type ≡ Some t
    → SizedType c.structs t
variable_small c named base v t h e = declared_small c named base v.declarator (length_by v.initialiser) t (first_positive v.initialiser h) e
