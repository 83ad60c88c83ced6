-- Assertions at valuations: the numbers of variables are in range, and what a change of one variable does.
use Rattle.std.proofs.Common.{◌≡◌, ℕ, ◌%◌, Bool, true, false, if◌then◌else◌, List, Option, Some, None, refl, sym, ap, ◌∙◌, arith}
use Rattle.std.specs.Prelude.{ℤ, pos, negsuc, ◌-ℤ◌, ◌≤ℤ◌, ◌&&◌, not, is_none, nat_lt}
use Rattle.std.proofs.lemmas.Int.{ints}
use Rattle.std.proofs.lemmas.Bool.Decides.{nat_tests}
use Rattle.std.proofs.lemmas.Bool.{eqb-true, not-false}
use Rattle.qs_base.specs.Words.{signed}
use Rattle.qs_memory.specs.Values.{Value, integer, address}
use Rattle.qs_events.specs.Weights.{Costs}
use Rattle.qs_assert.specs.declared.define.Define.{Define}
use Rattle.qs_assert.specs.declared.variable.NumberType.{NumberType}
use Rattle.qs_assert.specs.declared.variable.NumberType.TheVariants.{Int, Unsigned, Char}
use Rattle.qs_assert.specs.declared.variable.VarKind.{VarKind}
use Rattle.qs_assert.specs.declared.variable.VarKind.TheVariants as kinds
use Rattle.qs_assert.specs.declared.variable.Var.{Var}
use Rattle.qs_assert.specs.Images.{assertion_image}
use Rattle.qs_assert.specs.Simultaneous.{terms_for, first_without, or_itself}
use Rattle.qs_assert.specs.Substitution.{same_kind, same_number_type, same_variable, in_assertion}
use Rattle.qs_assert.specs.Trees.{TermTree, AssertionTree}
use Rattle.qs_assert.specs.Values.{State, term_value, value}
use Rattle.qs_assert.specs.Variables.{variables}
use Rattle.qs_assert.proofs.Agreement.{value_agrees, value_after}
use Rattle.qs_assert.proofs.SamenessLaws.{number_type_self, variable_equal}
use Rattle.qs_assert.proofs.VariableLaws.{of_its_variables}
use Rattle.qs_entail.specs.Facts.{least, greatest_of_type}
use Rattle.qs_entail.specs.Meaning.{InRange}
use Rattle.qs_core.specs.Trees.{CoreFunctionTree}
use Rattle.qs_triples.specs.Valuations.{number_of, number_or_zero, own_type, is_number_type, is_own, Valuation, value_of, number_at}
use Rattle.qs_triples.specs.Mentions.{may_mention, first_other, first_of}
use Rattle.qs_triples.specs.Rules.{replaced}
use Rattle.qs_triples.proofs.Answers.{Gives, ok_same, unless_ok, none_found, some_there}
use Rattle.qs_triples.proofs.Names.{seen}

-- ---- ranges

signed_range : (n : ℕ) → (negsuc 2147483647 ≤ℤ signed (n % 4294967296)) × (signed (n % 4294967296) ≤ℤ pos 2147483647)
signed_range n = by (nat_lt (n % 4294967296) 2147483648) refl
  where
    by : (b : Bool) → nat_lt (n % 4294967296) 2147483648 ≡ b → (negsuc 2147483647 ≤ℤ (if b then pos (n % 4294967296) else pos (n % 4294967296) -ℤ pos 4294967296)) × ((if b then pos (n % 4294967296) else pos (n % 4294967296) -ℤ pos 4294967296) ≤ℤ pos 2147483647)
    by true e = (omega (arith, ints), grind (arith, ints, nat_tests, e))
    by false e = (grind (arith, ints, nat_tests, e), omega (arith, ints))

abbrev InType : ℤ → NumberType → Type 0
InType z n = (least n ≤ℤ z) × (z ≤ℤ greatest_of_type n)

zero_in : (n : NumberType) → InType (pos 0) n
zero_in Int = (omega (arith, ints), omega (arith, ints))
zero_in Unsigned = (omega (arith, ints), omega (arith, ints))
zero_in Char = (omega (arith, ints), omega (arith, ints))

number_in : (o : Option Value) (n : NumberType) → InType (number_or_zero o n) n
number_in None n = zero_in n
number_in (Some (address p)) n = zero_in n
number_in (Some (integer k)) Int = signed_range k
number_in (Some (integer k)) Unsigned = (omega (arith, ints), omega (arith, ints))
number_in (Some (integer k)) Char = (omega (arith, ints), omega (arith, ints))

number_at_in : (f : CoreFunctionTree) (v : Valuation) (x : Var) → InType (number_at f v x) x.number
number_at_in f v x = by (is_own f x)
  where
    by : (b : Bool) → InType (if b then number_or_zero (value_of x.kind v) x.number else pos 0) x.number
    by true = number_in (value_of x.kind v) x.number
    by false = zero_in x.number

pub in_range : (cost : Costs) (ds : List Define) (f : CoreFunctionTree) (v : Valuation) → InRange (seen cost ds (number_at f v))
in_range cost ds f v = record { from_least = λ x. (number_at_in f v x).0; to_greatest = λ x. (number_at_in f v x).1 }

-- ---- kinds and types

pub kind_equal : (k j : VarKind) → same_kind k j ≡ true → k ≡ j
kind_equal (kinds.Plain x) (kinds.Plain y) h = ap kinds.Plain (eqb-true x y h)
kind_equal (kinds.Temporary x) (kinds.Temporary y) h = ap kinds.Temporary (eqb-true x y h)
kind_equal (kinds.Old x) (kinds.Old y) h = ap kinds.Old (eqb-true x y h)
kind_equal kinds.Returned kinds.Returned h = refl
kind_equal _ _ h = cc

type_turned : (m n : NumberType) → same_number_type m n ≡ same_number_type n m
type_turned Int Int = refl
type_turned Int Unsigned = refl
type_turned Int Char = refl
type_turned Unsigned Int = refl
type_turned Unsigned Unsigned = refl
type_turned Unsigned Char = refl
type_turned Char Int = refl
type_turned Char Unsigned = refl
type_turned Char Char = refl

-- ---- numbers at a valuation

abbrev choice : Bool → Option Value → NumberType → ℤ
choice b o n = if b then number_or_zero o n else pos 0

-- the same value, the same number
pub number_same : (f : CoreFunctionTree) (v w : Valuation) (x : Var) → value_of x.kind v ≡ value_of x.kind w → number_at f v x ≡ number_at f w x
number_same f v w x e = ap (λ (o : Option Value). choice (is_own f x) o x.number) e

-- the number of a variable under its own type
pub own_number : (f : CoreFunctionTree) (v : Valuation) (k : VarKind) (n : NumberType) (z : Value) → own_type f k ≡ Some n → value_of k v ≡ Some z → number_at f v (record { kind = k; number = n }) ≡ number_of z n
own_number f v k n z own is =
    ap (λ (o : Option NumberType). choice (is_number_type o n) (value_of k v) n) own
    ∙ ap (λ b. choice b (value_of k v) n) (number_type_self n)
    ∙ ap (λ (o : Option Value). number_or_zero o n) is

foreign_number : (f : CoreFunctionTree) (v : Valuation) (x : Var) → is_own f x ≡ false → number_at f v x ≡ pos 0
foreign_number f v x h = ap (λ b. choice b (value_of x.kind v) x.number) h

-- ---- a change of one variable

-- all but the variable of this kind are the same
abbrev pub OthersStay : VarKind → Valuation → Valuation → Type 0
OthersStay k v w = (j : VarKind) → same_kind j k ≡ false → value_of j v ≡ value_of j w

module _ (f : CoreFunctionTree) (k : VarKind) (v w : Valuation) (stay : OthersStay k v w) where
  changed : (n : NumberType) (z : Value) → own_type f k ≡ Some n → value_of k w ≡ Some z → (y : Var) → (if same_variable y (record { kind = k; number = n }) then number_of z n else number_at f v y) ≡ number_at f w y
  changed n z own is y = by (same_variable y (record { kind = k; number = n })) refl
    where
      foreign : same_kind y.kind k ≡ true → same_variable y (record { kind = k; number = n }) ≡ false → is_own f y ≡ false
      foreign same differs =
          let types : same_number_type y.number n ≡ false = ap (λ b. b && same_number_type y.number n) (sym same) ∙ differs in
          ap (λ (j : VarKind). is_number_type (own_type f j) y.number) (kind_equal y.kind k same)
          ∙ ap (λ (o : Option NumberType). is_number_type o y.number) own
          ∙ type_turned n y.number ∙ types

      elsewhere : (b : Bool) → same_kind y.kind k ≡ b → same_variable y (record { kind = k; number = n }) ≡ false → number_at f v y ≡ number_at f w y
      elsewhere true same differs = let no = foreign same differs in foreign_number f v y no ∙ sym (foreign_number f w y no)
      elsewhere false other differs = number_same f v w y (stay y.kind other)

      by : (b : Bool) → same_variable y (record { kind = k; number = n }) ≡ b → (if b then number_of z n else number_at f v y) ≡ number_at f w y
      by true same = sym (own_number f w k n z own is) ∙ ap (number_at f w) (sym (variable_equal y (record { kind = k; number = n }) same))
      by false differs = elsewhere (same_kind y.kind k) refl differs

  -- what isn't mentioned makes no difference
  pub unmentioned : (cost : Costs) (ds : List Define) (a : AssertionTree) → first_of k a ≡ None → value a (seen cost ds (number_at f v)) ≡ value a (seen cost ds (number_at f w))
  unmentioned cost ds a none =
      of_its_variables a (seen cost ds (number_at f v)) (number_at f v) (number_at f w)
      (λ x h. number_same f v w x (stay x.kind (none_found (λ x. same_kind x.kind k) (variables a) x none h)))

  -- with a term in its place
  pub set_to :
      (cost : Costs) (ds : List Define) (n : NumberType) (z : Value) (t : TermTree) (a : AssertionTree)
      → own_type f k ≡ Some n → value_of k w ≡ Some z → term_value t (seen cost ds (number_at f v)) ≡ number_of z n
      → value (in_assertion (record { kind = k; number = n }) t a) (seen cost ds (number_at f v)) ≡ value a (seen cost ds (number_at f w))
  set_to cost ds n z t a own is e =
      let x : Var = record { kind = k; number = n } in
      value_after x t a (in_assertion x t a) refl (seen cost ds (number_at f v))
      ∙ of_its_variables a (seen cost ds (number_at f v)) (λ y. if same_variable y x then term_value t (seen cost ds (number_at f v)) else number_at f v y) (number_at f w)
      (λ y h. ap (λ c. if same_variable y x then c else number_at f v y) e ∙ changed n z own is y)

  pub replaced_value :
      (cost : Costs) (ds : List Define) (n : NumberType) (z : Value) (o : Option TermTree) (a p : AssertionTree)
      → Gives (replaced (record { kind = k; number = n }) o a) p → value_of k w ≡ Some z
      → ((t : TermTree) → o ≡ Some t → (own_type f k ≡ Some n) × (term_value t (seen cost ds (number_at f v)) ≡ number_of z n))
      → value p (seen cost ds (number_at f v)) ≡ value a (seen cost ds (number_at f w))
  replaced_value cost ds n z (Some t) a p h is e =
      let k = e t refl in
      sym (ap (λ (a : AssertionTree). value a (seen cost ds (number_at f v))) (ok_same _ p h)) ∙ set_to cost ds n z t a k.0 is k.1
  replaced_value cost ds n z None a p h is e =
      let g = unless_ok (first_of k a) _ p h in
      sym (ap (λ (a : AssertionTree). value a (seen cost ds (number_at f v))) (ok_same a p g.1)) ∙ unmentioned cost ds a g.0

-- ---- images

-- what images mean: the numbers of variables elsewhere
abbrev pub Means : (Var → Option TermTree) → State → (Var → ℤ) → Type 0
Means images s numbers = (x : Var) (t : TermTree) → images x ≡ Some t → term_value t s ≡ numbers x

pub image_value :
    (images : Var → Option TermTree) (a : AssertionTree) (cost : Costs) (ds : List Define) (g h : Var → ℤ)
    → first_without images a ≡ None → Means images (seen cost ds g) h
    → value (assertion_image (terms_for images) a) (seen cost ds g) ≡ value a (seen cost ds h)
image_value images a cost ds g h none means =
    value_agrees (terms_for images) a (seen cost ds g)
    ∙ of_its_variables a (seen cost ds g) (λ x. term_value (terms_for images x) (seen cost ds g)) h (λ x mention.
    let t = some_there (images x) (none_found (λ x. is_none (images x)) (variables a) x none mention) in
    ap (λ (o : Option TermTree). term_value (or_itself o x) (seen cost ds g)) t.1 ∙ means x t.0 t.1)

-- an assertion that mentions only some variables
pub mentioned_alone :
    (f : CoreFunctionTree) (allowed : VarKind → Bool) (a : AssertionTree) (cost : Costs) (ds : List Define) (v w : Valuation)
    → first_other f allowed a ≡ None → ((k : VarKind) → allowed k ≡ true → value_of k v ≡ value_of k w)
    → value a (seen cost ds (number_at f v)) ≡ value a (seen cost ds (number_at f w))
mentioned_alone f allowed a cost ds v w none same =
    of_its_variables a (seen cost ds (number_at f v)) (number_at f v) (number_at f w) (λ x mention.
    let may : may_mention f allowed x ≡ true = not-false (may_mention f allowed x) (none_found (λ x. not (may_mention f allowed x)) (variables a) x none mention) in
    number_same f v w x (same x.kind (first_of_two (allowed x.kind) (is_own f x) may)))
  where
    first_of_two : (a b : Bool) → (a && b) ≡ true → a ≡ true
    first_of_two true b h = refl
    first_of_two false b h = cc
