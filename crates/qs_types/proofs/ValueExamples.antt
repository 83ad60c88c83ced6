-- Values of constant expressions and types of expressions, where `int x` is known.
use Rattle.std.proofs.Common.{◌≡◌, true, false, [], ◌∷◌, Some, None, refl}
use Rattle.qs_syntax_vocabulary.specs.declared.operators.UnaryOperator.TheVariants as unaries
use Rattle.qs_syntax_vocabulary.specs.declared.operators.BinaryOperator.TheVariants as binaries
use Rattle.qs_syntax.specs.declared.types.Base.TheVariants as bases
use Rattle.qs_syntax.specs.Trees as trees
use Rattle.qs_types.specs.Types.{int, unsigned, char, pointer, array}
use Rattle.qs_types.specs.Contexts.{Context, file_variable, start_context, with_name}
use Rattle.qs_types.specs.Expressions.{type_of}
use Rattle.qs_types.specs.Constants.{constant_of, length_of}
use Rattle.qs_types.proofs.RuleTrees.{e, number, x}

abbrev context : Context
context = with_name start_context (120 ∷ []) (file_variable 0 (Some int))

-- (0-7)/2
quotient : constant_of context (e (trees.binary binaries.Divide (e (trees.unary unaries.Minus (e (trees.constant 7 false)))) (e (trees.constant 2 false)))) ≡ Some 4294967293
quotient = refl

-- (-7)%2
remainder : constant_of context (e (trees.binary binaries.Remainder (e (trees.unary unaries.Minus (e (trees.constant 7 false)))) (e (trees.constant 2 false)))) ≡ Some 4294967295
remainder = refl

-- 1/0
by_zero : constant_of context (e (trees.binary binaries.Divide (e (trees.constant 1 false)) (e (trees.constant 0 false)))) ≡ None
by_zero = refl

-- (-2147483647-1)/-1
no_quotient : constant_of context (e (trees.binary binaries.Divide (e (trees.binary binaries.Subtract (e (trees.unary unaries.Minus (e (trees.constant 2147483647 false)))) (e (trees.constant 1 false)))) (e (trees.unary unaries.Minus (e (trees.constant 1 false)))))) ≡ None
no_quotient = refl

-- 0&&1/0
not_evaluated : constant_of context (e (trees.binary binaries.And (e (trees.constant 0 false)) (e (trees.binary binaries.Divide (e (trees.constant 1 false)) (e (trees.constant 0 false)))))) ≡ Some 0
not_evaluated = refl

-- 1&&1/0
evaluated : constant_of context (e (trees.binary binaries.And (e (trees.constant 1 false)) (e (trees.binary binaries.Divide (e (trees.constant 1 false)) (e (trees.constant 0 false)))))) ≡ None
evaluated = refl

-- 1?2:1/0
chosen : constant_of context (e (trees.conditional (e (trees.constant 1 false)) (e (trees.constant 2 false)) (e (trees.binary binaries.Divide (e (trees.constant 1 false)) (e (trees.constant 0 false)))))) ≡ Some 2
chosen = refl

-- 1?2:x
no_constant : constant_of context (e (trees.conditional (e (trees.constant 1 false)) (e (trees.constant 2 false)) (x))) ≡ None
no_constant = refl

-- (char)300
narrowed : constant_of context (e (trees.cast (record { base = bases.Char; stars = 0 }) (e (trees.constant 300 false)))) ≡ Some 44
narrowed = refl

-- 1<<31
shifted : constant_of context (e (trees.binary binaries.ShiftLeft (e (trees.constant 1 false)) (e (trees.constant 31 false)))) ≡ Some 2147483648
shifted = refl

-- 1<<32
shifted_far : constant_of context (e (trees.binary binaries.ShiftLeft (e (trees.constant 1 false)) (e (trees.constant 32 false)))) ≡ None
shifted_far = refl

-- -8>>1
shifted_down : constant_of context (e (trees.binary binaries.ShiftRight (e (trees.unary unaries.Minus (e (trees.constant 8 false)))) (e (trees.constant 1 false)))) ≡ Some 4294967292
shifted_down = refl

-- -1<0
less_signed : constant_of context (e (trees.binary binaries.Less (e (trees.unary unaries.Minus (e (trees.constant 1 false)))) (e (trees.constant 0 false)))) ≡ Some 1
less_signed = refl

-- -1<0u
less_unsigned : constant_of context (e (trees.binary binaries.Less (e (trees.unary unaries.Minus (e (trees.constant 1 false)))) (e (trees.constant 0 true)))) ≡ Some 0
less_unsigned = refl

-- sizeof(int)
size : constant_of context (e (trees.sizeof_type (record { base = bases.Int; stars = 0 }))) ≡ Some 4
size = refl

-- &x
addressed : constant_of context (e (trees.unary unaries.Address (x))) ≡ None
addressed = refl

-- "xx"
text_type : type_of context (e (trees.text (120 ∷ 120 ∷ []))) ≡ Some (array char 3)
text_type = refl

-- (char)1+(char)1
promoted_type : type_of context (e (trees.binary binaries.Add (e (trees.cast (record { base = bases.Char; stars = 0 }) (e (trees.constant 1 false)))) (e (trees.cast (record { base = bases.Char; stars = 0 }) (e (trees.constant 1 false)))))) ≡ Some (int)
promoted_type = refl

-- 1+1u
unsigned_type : type_of context (e (trees.binary binaries.Add (e (trees.constant 1 false)) (e (trees.constant 1 true)))) ≡ Some (unsigned)
unsigned_type = refl

-- 1<<1u
shift_type : type_of context (e (trees.binary binaries.ShiftLeft (e (trees.constant 1 false)) (e (trees.constant 1 true)))) ≡ Some (int)
shift_type = refl

-- 1u<1u
comparison_type : type_of context (e (trees.binary binaries.Less (e (trees.constant 1 true)) (e (trees.constant 1 true)))) ≡ Some (int)
comparison_type = refl

-- sizeof x
size_type : type_of context (e (trees.sizeof_expr x)) ≡ Some (unsigned)
size_type = refl

-- &x
address_type : type_of context (e (trees.unary unaries.Address (x))) ≡ Some (pointer int)
address_type = refl

-- *"xx"
text_decays : type_of context (e (trees.unary unaries.Indirect (e (trees.text (120 ∷ 120 ∷ []))))) ≡ Some (char)
text_decays = refl

-- 1["xx"]
subscript_type : type_of context (e (trees.subscript (number 1) (e (trees.text (120 ∷ 120 ∷ []))))) ≡ Some (char)
subscript_type = refl

-- 1?0:&x
null_branch : type_of context (e (trees.conditional (e (trees.constant 1 false)) (e (trees.constant 0 false)) (e (trees.unary unaries.Address (x))))) ≡ Some (pointer int)
null_branch = refl

-- a length of -1, and one of 4294967295u
no_length : length_of context (e (trees.unary unaries.Minus (e (trees.constant 1 false)))) ≡ None
no_length = refl

longest : length_of context (e (trees.constant 4294967295 true)) ≡ Some 4294967295
longest = refl
