-- The values of integer constant expressions (C11 6.6), as words.
use Rattle.std.specs.Prelude.{ℕ, ◌-◌, ◌%◌, ◌^◌, ◌==◌, nat_lt, Bool, true, false, not, ◌&&◌, ◌||◌, Option, Some, None, if◌then◌else◌, int_lt}
use Rattle.qs_base.specs.Words as words
use Rattle.qs_syntax_vocabulary.specs.declared.operators.UnaryOperator.{UnaryOperator}
use Rattle.qs_syntax_vocabulary.specs.declared.operators.UnaryOperator.TheVariants as unaries
use Rattle.qs_syntax_vocabulary.specs.declared.operators.BinaryOperator.{BinaryOperator}
use Rattle.qs_syntax_vocabulary.specs.declared.operators.BinaryOperator.TheVariants as binaries
use Rattle.qs_syntax.specs.declared.types.Base.{Base}
use Rattle.qs_syntax.specs.declared.types.TypeName.{TypeName}
use Rattle.qs_syntax.specs.Trees.{ExprTree, expr, ShapeTree}
use Rattle.qs_syntax.specs.Trees as trees
use Rattle.qs_types.specs.Types.{TypeTree, int, unsigned, char, void, pointer, array, struct, same_type, is_integer}
use Rattle.qs_types.specs.Layout.{and_then, size_within}
use Rattle.qs_types.specs.Contexts.{TypeNames, Context, base_in, named_type, is_type_in}
use Rattle.qs_types.specs.Expressions.{type_of}

-- ---- names of integer types

abbrev pub is_integer_base : TypeNames → Base → Bool
is_integer_base names base = is_type_in is_integer (base_in names base)

abbrev pub is_integer_name : TypeNames → TypeName → Bool
is_integer_name names n = n.stars == 0 && is_integer_base names n.base

-- ---- what they are built of: literals, `sizeof` of a type name, casts to integer types, and operators other than assignment, step, comma, `&`, `*` and calls

abbrev mutual
  pub is_built : TypeNames → ExprTree → Bool
  is_built names (expr node shape) = is_built_shape names shape

  pub is_built_shape : TypeNames → ShapeTree → Bool
  is_built_shape names (trees.constant n u) = true
  is_built_shape names (trees.text bytes) = false
  is_built_shape names (trees.name x) = false
  is_built_shape names (trees.unary unaries.Address a) = false
  is_built_shape names (trees.unary unaries.Indirect a) = false
  is_built_shape names (trees.unary unaries.Plus a) = is_built names a
  is_built_shape names (trees.unary unaries.Minus a) = is_built names a
  is_built_shape names (trees.unary unaries.Complement a) = is_built names a
  is_built_shape names (trees.unary unaries.Not a) = is_built names a
  is_built_shape names (trees.step operator a) = false
  is_built_shape names (trees.cast n a) = is_integer_name names n && is_built names a
  is_built_shape names (trees.sizeof_type n) = true
  is_built_shape names (trees.sizeof_expr a) = false
  is_built_shape names (trees.binary operator a b) = is_built names a && is_built names b
  is_built_shape names (trees.assign operator a b) = false
  is_built_shape names (trees.conditional d a b) = is_built names d && (is_built names a && is_built names b)
  is_built_shape names (trees.comma a b) = false
  is_built_shape names (trees.subscript a b) = false
  is_built_shape names (trees.member access a x) = false
  is_built_shape names (trees.call f es) = false

-- ---- whether their type is unsigned

abbrev pub is_unsigned_base : TypeNames → Base → Bool
is_unsigned_base names base = is_type_in (λ t. same_type t unsigned) (base_in names base)

-- 6.3.1.8, 6.5.7p3, 6.5.8p6, 6.5.9p3, 6.5.13p3, 6.5.14p3: by the operands of an operator
abbrev pub is_unsigned_by : BinaryOperator → (p q : Bool) → Bool
is_unsigned_by binaries.Multiply p q = p || q
is_unsigned_by binaries.Divide p q = p || q
is_unsigned_by binaries.Remainder p q = p || q
is_unsigned_by binaries.Add p q = p || q
is_unsigned_by binaries.Subtract p q = p || q
is_unsigned_by binaries.ShiftLeft p q = p
is_unsigned_by binaries.ShiftRight p q = p
is_unsigned_by binaries.Less p q = false
is_unsigned_by binaries.LessEqual p q = false
is_unsigned_by binaries.Greater p q = false
is_unsigned_by binaries.GreaterEqual p q = false
is_unsigned_by binaries.Equal p q = false
is_unsigned_by binaries.NotEqual p q = false
is_unsigned_by binaries.BitAnd p q = p || q
is_unsigned_by binaries.BitXor p q = p || q
is_unsigned_by binaries.BitOr p q = p || q
is_unsigned_by binaries.And p q = false
is_unsigned_by binaries.Or p q = false

-- of what is built so, the type is `unsigned` exactly here
abbrev mutual
  pub is_unsigned : TypeNames → ExprTree → Bool
  is_unsigned names (expr node shape) = is_unsigned_shape names shape

  pub is_unsigned_shape : TypeNames → ShapeTree → Bool
  is_unsigned_shape names (trees.constant n u) = u
  is_unsigned_shape names (trees.text bytes) = false
  is_unsigned_shape names (trees.name x) = false
  is_unsigned_shape names (trees.unary unaries.Address a) = false
  is_unsigned_shape names (trees.unary unaries.Indirect a) = false
  is_unsigned_shape names (trees.unary unaries.Plus a) = is_unsigned names a
  is_unsigned_shape names (trees.unary unaries.Minus a) = is_unsigned names a
  is_unsigned_shape names (trees.unary unaries.Complement a) = is_unsigned names a
  is_unsigned_shape names (trees.unary unaries.Not a) = false
  is_unsigned_shape names (trees.step operator a) = false
  is_unsigned_shape names (trees.cast n a) = is_unsigned_base names n.base
  is_unsigned_shape names (trees.sizeof_type n) = true
  is_unsigned_shape names (trees.sizeof_expr a) = true
  is_unsigned_shape names (trees.binary operator a b) = is_unsigned_by operator (is_unsigned names a) (is_unsigned names b)
  is_unsigned_shape names (trees.assign operator a b) = false
  is_unsigned_shape names (trees.conditional d a b) = is_unsigned names a || is_unsigned names b
  is_unsigned_shape names (trees.comma a b) = false
  is_unsigned_shape names (trees.subscript a b) = false
  is_unsigned_shape names (trees.member access a x) = false
  is_unsigned_shape names (trees.call f es) = false

-- ---- conversion to an integer type (6.3.1.3)

abbrev pub converted : TypeTree → ℕ → ℕ
converted char n = n % 2 ^ 8
converted int n = n
converted unsigned n = n
converted void n = n
converted (pointer t) n = n
converted (array t k) n = n
converted (struct k) n = n

abbrev pub truth : Bool → ℕ
truth b = if b then 1 else 0

abbrev pub is_true : ℕ → Bool
is_true n = not (n == 0)

-- ---- operators on values of one type, which is unsigned or isn't

abbrev pub less : (unsigned : Bool) → ℕ → ℕ → Bool
less u a b = if u then nat_lt a b else int_lt (words.signed a) (words.signed b)

-- 6.5.5p5, p6: no value for a division by 0 and for the quotient that is no int
abbrev pub divides : (unsigned : Bool) → ℕ → ℕ → Bool
divides u a b = not (b == 0) && (u || not ((a == 2 ^ 31) && (b == 2 ^ 32 - 1)))

abbrev pub quotient : (unsigned : Bool) → ℕ → ℕ → ℕ
quotient u a b = if u then words.divu a b else words.div a b

abbrev pub rest : (unsigned : Bool) → ℕ → ℕ → ℕ
rest u a b = if u then words.remu a b else words.rem a b

-- 6.5.7p3: no value where the count isn't below 32
abbrev pub shifted : ℕ → (count : ℕ) → ℕ → Option ℕ
shifted a count result = if nat_lt count 32 then Some result else None

-- 6.5.5 to 6.5.14, on two values; p and q say whether their types are unsigned
abbrev pub combined : BinaryOperator → (p q : Bool) → ℕ → ℕ → Option ℕ
combined binaries.Multiply p q a b = Some (words.mul a b)
combined binaries.Divide p q a b = if divides (p || q) a b then Some (quotient (p || q) a b) else None
combined binaries.Remainder p q a b = if divides (p || q) a b then Some (rest (p || q) a b) else None
combined binaries.Add p q a b = Some (words.add a b)
combined binaries.Subtract p q a b = Some (words.sub a b)
combined binaries.ShiftLeft p q a b = shifted a b (words.sll a b)
combined binaries.ShiftRight p q a b = shifted a b (if p then words.srl a b else words.sra a b)
combined binaries.Less p q a b = Some (truth (less (p || q) a b))
combined binaries.LessEqual p q a b = Some (truth (not (less (p || q) b a)))
combined binaries.Greater p q a b = Some (truth (less (p || q) b a))
combined binaries.GreaterEqual p q a b = Some (truth (not (less (p || q) a b)))
combined binaries.Equal p q a b = Some (truth (a == b))
combined binaries.NotEqual p q a b = Some (truth (not (a == b)))
combined binaries.BitAnd p q a b = Some (words.and a b)
combined binaries.BitXor p q a b = Some (words.xor a b)
combined binaries.BitOr p q a b = Some (words.or a b)
combined binaries.And p q a b = Some (truth (is_true a && is_true b))
combined binaries.Or p q a b = Some (truth (is_true a || is_true b))

-- 6.5.13p4, 6.5.14p4: the right operand isn't evaluated where the left one decides
abbrev pub decides : BinaryOperator → ℕ → Bool
decides binaries.And a = not (is_true a)
decides binaries.Or a = is_true a
decides _ a = false

abbrev pub unary_value : UnaryOperator → ℕ → Option ℕ
unary_value unaries.Address a = None
unary_value unaries.Indirect a = None
unary_value unaries.Plus a = Some a
unary_value unaries.Minus a = Some (words.sub 0 a)
unary_value unaries.Complement a = Some (words.xor a words.all_ones)
unary_value unaries.Not a = Some (truth (a == 0))

-- ---- the value, where it is defined; a part that isn't evaluated needs none

abbrev mutual
  pub value_of : Context → ExprTree → Option ℕ
  value_of c (expr node shape) = shape_value c shape

  pub shape_value : Context → ShapeTree → Option ℕ
  shape_value c (trees.constant n u) = Some n
  shape_value c (trees.text bytes) = None
  shape_value c (trees.name x) = None
  shape_value c (trees.unary operator a) = and_then (value_of c a) (unary_value operator)
  shape_value c (trees.step operator a) = None
  shape_value c (trees.cast n a) = and_then (named_type c n) (λ t. and_then (value_of c a) (λ x. Some (converted t x)))
  shape_value c (trees.sizeof_type n) = and_then (named_type c n) (size_within c.structs)
  shape_value c (trees.sizeof_expr a) = None
  shape_value c (trees.binary operator a b) =
      and_then (value_of c a) (λ x. if decides operator x then Some (truth (is_true x)) else
      and_then (value_of c b) (combined operator (is_unsigned c.type_names a) (is_unsigned c.type_names b) x))
  shape_value c (trees.assign operator a b) = None
  shape_value c (trees.conditional d a b) = and_then (value_of c d) (λ x. if is_true x then value_of c a else value_of c b)
  shape_value c (trees.comma a b) = None
  shape_value c (trees.subscript a b) = None
  shape_value c (trees.member access a x) = None
  shape_value c (trees.call f es) = None

-- the value of a constant expression of an integer type
abbrev pub constant_of : Context → ExprTree → Option ℕ
constant_of c e = and_then (type_of c e) (λ t. if is_integer t && is_built c.type_names e then value_of c e else None)

-- 6.7.6.2p1: a length is at least 1; an int from 2 ^ 31 on is below 0
abbrev pub length_within : TypeTree → ℕ → Option ℕ
length_within t n = if (n == 0) || (not (same_type t unsigned) && not (nat_lt n (2 ^ 31))) then None else Some n

abbrev pub length_of : Context → ExprTree → Option ℕ
length_of c e = and_then (type_of c e) (λ t. and_then (constant_of c e) (length_within t))
