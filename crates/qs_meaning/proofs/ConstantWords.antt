-- The values of constant expressions are words where their constants are.
use Rattle.std.proofs.Common.{◌≡◌, ℕ, ◌^◌, ◌<◌, ◌≤◌, ◌==◌, nat_lt, nat_le, Bool, true, false, ◌&&◌, ◌||◌, List, Option, Some, None, refl, subst, arith, if◌then◌else◌}
use Rattle.std.proofs.lemmas.Bool.Decides.{nat_tests}
use Rattle.std.specs.Cmp.{first_so, second_so}
use Rattle.qs_base.proofs.WordLaws.{add-below, sub-below, and-below, or-below, xor-below, sll-below, srl-below, sra-below, mul-below, div-below, rem-below, divu-below, remu-below}
use Rattle.qs_base.specs.Words as words
use Rattle.qs_syntax_vocabulary.specs.declared.operators.UnaryOperator.{UnaryOperator}
use Rattle.qs_syntax_vocabulary.specs.declared.operators.UnaryOperator.TheVariants as unaries
use Rattle.qs_syntax_vocabulary.specs.declared.operators.BinaryOperator.{BinaryOperator}
use Rattle.qs_syntax_vocabulary.specs.declared.operators.BinaryOperator.TheVariants as binaries
use Rattle.qs_syntax.specs.Trees.{ExprTree, expr, ShapeTree}
use Rattle.qs_syntax.specs.Trees as trees
use Rattle.qs_memory.specs.Values.{integer, has_type}
use Rattle.qs_memory.specs.declared.scalar.Scalar.TheVariants as scalars
use Rattle.qs_types.specs.declared.extent.Extent.{Extent}
use Rattle.qs_types.specs.Types.{TypeTree, int, unsigned, char, void, pointer, array, struct, is_integer, Structs}
use Rattle.qs_types.specs.Layout.{and_then, size_limit, Layouts, StructLayout, layout_of, array_extent, struct_extent, extent_within, sized_by, size_within}
use Rattle.qs_types.specs.References.{TextBlock}
use Rattle.qs_types.specs.Contexts.{Context, named_type}
use Rattle.qs_types.specs.Expressions.{type_of}
use Rattle.qs_types.specs.Constants.{is_built, is_unsigned, converted, truth, is_true, divides, quotient, rest, combined, decides, unary_value, value_of, shape_value, constant_of}
use Rattle.qs_meaning.proofs.FitLeaves.{is_sure, shape_sure}

-- a value that there is is a word
abbrev IsWord : Option ℕ → Type 0
IsWord None = Unit {0}
IsWord (Some n) = n < 2 ^ 32

word_then : (o : Option ℕ) (f : ℕ → Option ℕ) → IsWord o → ((n : ℕ) → n < 2 ^ 32 → IsWord (f n)) → IsWord (and_then o f)
word_then None f h k = tt
word_then (Some n) f h k = k n h

type_then : (o : Option TypeTree) (f : TypeTree → Option ℕ) → ((t : TypeTree) → IsWord (f t)) → IsWord (and_then o f)
type_then None f k = tt
type_then (Some t) f k = k t

either_word : (b : Bool) (o p : Option ℕ) → IsWord o → IsWord p → IsWord (if b then o else p)
either_word true o p h k = h
either_word false o p h k = k

chosen_below : (b : Bool) (m n : ℕ) → m < 2 ^ 32 → n < 2 ^ 32 → (if b then m else n) < 2 ^ 32
chosen_below true m n h k = h
chosen_below false m n h k = k

truth_below : (b : Bool) → truth b < 2 ^ 32
truth_below true = omega arith
truth_below false = omega arith

converted_below : (t : TypeTree) (n : ℕ) → n < 2 ^ 32 → converted t n < 2 ^ 32
converted_below int n h = h
converted_below unsigned n h = h
converted_below char n h = omega arith
converted_below void n h = h
converted_below (pointer t) n h = h
converted_below (array t k) n h = h
converted_below (struct k) n h = h

-- ---- operators

unary_word : (operator : UnaryOperator) (n : ℕ) → n < 2 ^ 32 → IsWord (unary_value operator n)
unary_word unaries.Address n h = tt
unary_word unaries.Indirect n h = tt
unary_word unaries.Plus n h = h
unary_word unaries.Minus n h = sub-below 0 n
unary_word unaries.Complement n h = xor-below n words.all_ones h (omega arith)
unary_word unaries.Not n h = truth_below (n == 0)

quotient_below : (u : Bool) (m n : ℕ) → m < 2 ^ 32 → quotient u m n < 2 ^ 32
quotient_below u m n h = chosen_below u _ _ (divu-below m n h) (div-below m n)

rest_below : (u : Bool) (m n : ℕ) → m < 2 ^ 32 → rest u m n < 2 ^ 32
rest_below u m n h = chosen_below u _ _ (remu-below m n h) (rem-below m n h)

combined_word : (operator : BinaryOperator) (p q : Bool) (m n : ℕ) → m < 2 ^ 32 → n < 2 ^ 32 → IsWord (combined operator p q m n)
combined_word binaries.Multiply p q m n h k = mul-below m n
combined_word binaries.Divide p q m n h k = either_word (divides (p || q) m n) _ _ (quotient_below (p || q) m n h) tt
combined_word binaries.Remainder p q m n h k = either_word (divides (p || q) m n) _ _ (rest_below (p || q) m n h) tt
combined_word binaries.Add p q m n h k = add-below m n
combined_word binaries.Subtract p q m n h k = sub-below m n
combined_word binaries.ShiftLeft p q m n h k = either_word (nat_lt n 32) _ _ (sll-below m n) tt
combined_word binaries.ShiftRight p q m n h k = either_word (nat_lt n 32) _ _ (chosen_below p _ _ (srl-below m n h) (sra-below m n)) tt
combined_word binaries.Less p q m n h k = truth_below _
combined_word binaries.LessEqual p q m n h k = truth_below _
combined_word binaries.Greater p q m n h k = truth_below _
combined_word binaries.GreaterEqual p q m n h k = truth_below _
combined_word binaries.Equal p q m n h k = truth_below _
combined_word binaries.NotEqual p q m n h k = truth_below _
combined_word binaries.BitAnd p q m n h k = and-below m n h
combined_word binaries.BitXor p q m n h k = xor-below m n h k
combined_word binaries.BitOr p q m n h k = or-below m n h k
combined_word binaries.And p q m n h k = truth_below _
combined_word binaries.Or p q m n h k = truth_below _

-- ---- sizes

abbrev IsSmall : Option Extent → Type 0
IsSmall None = Unit {0}
IsSmall (Some e) = e.size ≤ size_limit

within_small : (e : Extent) → IsSmall (extent_within e)
within_small e = go (nat_le e.size size_limit) refl
  where
    go : (b : Bool) → nat_le e.size size_limit ≡ b → IsSmall (if b then Some e else None)
    go true h = grind (arith, nat_tests)
    go false h = tt

sized_small : (layouts : Layouts) (t : TypeTree) → IsSmall (sized_by layouts t)
sized_small layouts int = omega arith
sized_small layouts unsigned = omega arith
sized_small layouts char = omega arith
sized_small layouts void = tt
sized_small layouts (pointer t) = omega arith
sized_small layouts (array t n) = go (sized_by layouts t)
  where
    go : (o : Option Extent) → IsSmall (and_then o (λ element. extent_within (array_extent element n)))
    go None = tt
    go (Some element) = within_small (array_extent element n)
sized_small layouts (struct k) = go (layouts k)
  where
    go : (o : Option StructLayout) → IsSmall (and_then o (λ l. extent_within (struct_extent l)))
    go None = tt
    go (Some l) = within_small (struct_extent l)

size_word : (structs : Structs) (t : TypeTree) → IsWord (size_within structs t)
size_word structs t = go (sized_by (layout_of structs) t) (sized_small (layout_of structs) t)
  where
    go : (o : Option Extent) → IsSmall o → IsWord (and_then o (λ e. Some e.size))
    go None h = tt
    go (Some e) h = omega arith

-- ---- values

module _ (called : List ℕ → Bool) (there : TextBlock → Bool) where
  mutual
    value_word : (c : Context) (e : ExprTree) → is_sure called there e ≡ true → IsWord (value_of c e)
    value_word c (expr node shape) h = shape_word c node.id shape h

    shape_word : (c : Context) (id : ℕ) (shape : ShapeTree) → shape_sure called there id shape ≡ true → IsWord (shape_value c shape)
    shape_word c id (trees.constant n u) h = grind (arith, nat_tests)
    shape_word c id (trees.text bytes) h = tt
    shape_word c id (trees.name x) h = tt
    shape_word c id (trees.unary operator a) h = word_then (value_of c a) (unary_value operator) (value_word c a h) (unary_word operator)
    shape_word c id (trees.step operator a) h = tt
    shape_word c id (trees.cast name a) h =
        type_then (named_type c name) _ (λ t. word_then (value_of c a) (λ n. Some (converted t n)) (value_word c a h) (converted_below t))
    shape_word c id (trees.sizeof_type name) h = type_then (named_type c name) (size_within c.structs) (size_word c.structs)
    shape_word c id (trees.sizeof_expr a) h = tt
    shape_word c id (trees.binary operator a b) h =
        word_then (value_of c a) _ (value_word c a (first_so _ _ h)) (λ m k. either_word (decides operator m) _ _ (truth_below (is_true m))
        (word_then (value_of c b) (combined operator (is_unsigned c.type_names a) (is_unsigned c.type_names b) m) (value_word c b (second_so (is_sure called there a) _ h))
        (λ n j. combined_word operator (is_unsigned c.type_names a) (is_unsigned c.type_names b) m n k j)))
    shape_word c id (trees.assign operator a b) h = tt
    shape_word c id (trees.conditional d a b) h =
        let parts = second_so (is_sure called there d) _ h in
        word_then (value_of c d) _ (value_word c d (first_so _ _ h)) (λ n k. either_word (is_true n) _ _ (value_word c a (first_so _ _ parts))
        (value_word c b (second_so (is_sure called there a) _ parts)))
    shape_word c id (trees.comma a b) h = tt
    shape_word c id (trees.subscript a b) h = tt
    shape_word c id (trees.member access a x) h = tt
    shape_word c id (trees.call f es) h = tt

  pub constant_word : (c : Context) (e : ExprTree) (n : ℕ) → is_sure called there e ≡ true → constant_of c e ≡ Some n → has_type scalars.Int (integer n) ≡ true
  constant_word c e n h p =
      let word : n < 2 ^ 32 = subst IsWord p (type_then (type_of c e) _ (λ t. either_word (is_integer t && is_built c.type_names e) _ _ (value_word c e h) tt)) in
      grind (arith, nat_tests)
