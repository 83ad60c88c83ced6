-- The trees of small units fit: each operator at operands of each two types, and each place where a value is converted. A unit that breaks a
-- rule is left out; how many are left is told beside.
use Rattle.std.proofs.Common.{◌≡◌, ℕ, suc, Bool, true, ◌&&◌, List, [], ◌∷◌, ◌++◌, flat_map, Option, Some, None, refl}
use Rattle.qs_syntax.specs.declared.types.Base.{Base}
use Rattle.qs_syntax.specs.declared.types.Base.TheVariants as bases
use Rattle.qs_syntax_vocabulary.specs.declared.operators.UnaryOperator.TheVariants as unaries
use Rattle.qs_syntax_vocabulary.specs.declared.operators.StepOperator.TheVariants as steps
use Rattle.qs_syntax_vocabulary.specs.declared.operators.BinaryOperator.{BinaryOperator}
use Rattle.qs_syntax_vocabulary.specs.declared.operators.BinaryOperator.TheVariants as binaries
use Rattle.qs_syntax_vocabulary.specs.declared.operators.AssignmentOperator.{AssignmentOperator}
use Rattle.qs_syntax_vocabulary.specs.declared.operators.AssignmentOperator.TheVariants as assigns
use Rattle.qs_syntax.specs.Trees.{ExprTree, StmtTree, UnitTree}
use Rattle.qs_syntax.specs.Trees as trees
use Rattle.qs_syntax.specs.Numbering.{numbered_unit}
use Rattle.qs_types.specs.Limits.{IsWithinLimits}
use Rattle.qs_types.specs.WellTyped.{WellTyped}
use Rattle.qs_meaning.specs.Typed.{TypedProgram}
use Rattle.qs_meaning.specs.Fits.{program_fits}
use Rattle.qs_meaning.specs.FitLaws.{IsAsRead}
use Rattle.qs_meaning.proofs.Samples.{e, number, natural, named, a, b, at, op, update, address, cast, call, one, many, global, local, s_base, struct_s, eval, return, block, when, parameter, defined, main_, valued, listed, numbers}
use Rattle.qs_meaning.proofs.Outcomes.{typed_program}

-- ---- how many units break no rule, and whether the trees of these fit

pub record Tried : Type 0 where
  pub units : ℕ
  pub all_fit : Bool

abbrev tried_after : Option TypedProgram → Tried → Tried
tried_after None t = t
tried_after (Some u) t = record { units = suc t.units; all_fit = program_fits u && t.all_fit }

abbrev tried : List UnitTree → Tried
tried [] = record { units = 0; all_fit = true }
tried (unit ∷ units) = tried_after (typed_program unit) (tried units)

abbrev fit : ℕ → Tried
fit n = record { units = n; all_fit = true }

-- ---- types of operands

pub record Name : Type 0 where
  pub base : Base
  pub stars : ℕ

-- int, unsigned, char, int *, char *, struct s *
abbrev types : List Name
types =
    record { base = bases.Int; stars = 0 } ∷ record { base = bases.Unsigned; stars = 0 } ∷ record { base = bases.Char; stars = 0 }
    ∷ record { base = bases.Int; stars = 1 } ∷ record { base = bases.Char; stars = 1 } ∷ record { base = s_base; stars = 1 } ∷ []

abbrev with_two : (Name → Name → List UnitTree) → List UnitTree
with_two f = flat_map (λ t. flat_map (λ u. f t u) types) types

-- T a;U b; and a statement, in which both are plain, and in which a is placed
abbrev in_main : Name → Name → StmtTree → List UnitTree
in_main t u s =
    (struct_s ∷ main_ (local t.base t.stars 97 one None ∷ local u.base u.stars 98 one None ∷ s ∷ []) ∷ [])
    ∷ (struct_s ∷ main_ (local t.base t.stars 97 one None ∷ local u.base u.stars 98 one None ∷ eval (address a) ∷ s ∷ []) ∷ []) ∷ []

-- if(..){}: the value is used
abbrev used : ExprTree → StmtTree
used x = when x (block [])

abbrev with_one : (Name → List UnitTree) → List UnitTree
with_one f = flat_map f types

-- ---- operators between two operands (6.5.5 to 6.5.14)

abbrev at_two : BinaryOperator → Tried
at_two o = tried (with_two (λ t u. in_main t u (used (op o a b))))

-- the same of each two integers
products : at_two binaries.Multiply ≡ fit 18
products = refl

quotients : at_two binaries.Divide ≡ fit 18
quotients = refl

remainders : at_two binaries.Remainder ≡ fit 18
remainders = refl

left_shifts : at_two binaries.ShiftLeft ≡ fit 18
left_shifts = refl

right_shifts : at_two binaries.ShiftRight ≡ fit 18
right_shifts = refl

bits_and : at_two binaries.BitAnd ≡ fit 18
bits_and = refl

bits_xor : at_two binaries.BitXor ≡ fit 18
bits_xor = refl

bits_or : at_two binaries.BitOr ≡ fit 18
bits_or = refl

-- a pointer and an integer too, in either order
sums : at_two binaries.Add ≡ fit 54
sums = refl

-- a pointer and an integer, and two pointers of one type
differences : at_two binaries.Subtract ≡ fit 42
differences = refl

less : at_two binaries.Less ≡ fit 24
less = refl

greater : at_two binaries.Greater ≡ fit 24
greater = refl

less_or_equal : at_two binaries.LessEqual ≡ fit 24
less_or_equal = refl

greater_or_equal : at_two binaries.GreaterEqual ≡ fit 24
greater_or_equal = refl

equal : at_two binaries.Equal ≡ fit 24
equal = refl

not_equal : at_two binaries.NotEqual ≡ fit 24
not_equal = refl

both_hold : at_two binaries.And ≡ fit 72
both_hold = refl

one_holds : at_two binaries.Or ≡ fit 72
one_holds = refl

-- beside a null constant, int on the right and unsigned on the left

abbrev beside_zero : BinaryOperator → Tried
beside_zero o = tried (with_one (λ t. in_main t t (used (op o a (number 0))) ++ in_main t t (used (op o (natural 0) a))))

equal_to_zero : beside_zero binaries.Equal ≡ fit 24
equal_to_zero = refl

not_equal_to_zero : beside_zero binaries.NotEqual ≡ fit 24
not_equal_to_zero = refl

less_than_zero : beside_zero binaries.Less ≡ fit 12
less_than_zero = refl

-- a[b]
subscripts : tried (with_two (λ t u. in_main t u (used (e (trees.subscript a b))))) ≡ fit 24
subscripts = refl

-- ---- assignments (6.5.16), with their value and without

abbrev assigned : AssignmentOperator → Tried
assigned o = tried (with_two (λ t u. in_main t u (used (update o a b)) ++ in_main t u (eval (update o a b))))

set : assigned assigns.Plain ≡ fit 48
set = refl

multiplied : assigned assigns.Multiply ≡ fit 36
multiplied = refl

divided : assigned assigns.Divide ≡ fit 36
divided = refl

left_over : assigned assigns.Remainder ≡ fit 36
left_over = refl

added : assigned assigns.Add ≡ fit 72
added = refl

subtracted : assigned assigns.Subtract ≡ fit 72
subtracted = refl

shifted_left : assigned assigns.ShiftLeft ≡ fit 36
shifted_left = refl

shifted_right : assigned assigns.ShiftRight ≡ fit 36
shifted_right = refl

masked : assigned assigns.BitAnd ≡ fit 36
masked = refl

flipped : assigned assigns.BitXor ≡ fit 36
flipped = refl

joined : assigned assigns.BitOr ≡ fit 36
joined = refl

set_to_zero : tried (with_one (λ t. in_main t t (used (update assigns.Plain a (number 0))))) ≡ fit 12
set_to_zero = refl

-- ---- one operand (6.5.2.4, 6.5.3, 6.5.4), with the value and without

abbrev at_one : (ExprTree → ExprTree) → Tried
at_one f = tried (with_one (λ t. in_main t t (used (f a)) ++ in_main t t (eval (f a))))

increments_after : at_one (λ x. e (trees.step steps.IncrementAfter x)) ≡ fit 24
increments_after = refl

decrements_after : at_one (λ x. e (trees.step steps.DecrementAfter x)) ≡ fit 24
decrements_after = refl

increments_before : at_one (λ x. e (trees.step steps.IncrementBefore x)) ≡ fit 24
increments_before = refl

decrements_before : at_one (λ x. e (trees.step steps.DecrementBefore x)) ≡ fit 24
decrements_before = refl

pluses : at_one (λ x. e (trees.unary unaries.Plus x)) ≡ fit 12
pluses = refl

minuses : at_one (λ x. e (trees.unary unaries.Minus x)) ≡ fit 12
minuses = refl

complements : at_one (λ x. e (trees.unary unaries.Complement x)) ≡ fit 12
complements = refl

negations : at_one (λ x. e (trees.unary unaries.Not x)) ≡ fit 24
negations = refl

addresses : at_one (λ x. e (trees.unary unaries.Address x)) ≡ fit 24
addresses = refl

indirections : at_one (λ x. e (trees.unary unaries.Indirect x)) ≡ fit 8
indirections = refl

-- (U)a
casts : tried (with_two (λ t u. in_main t u (used (cast u.base u.stars a)))) ≡ fit 36
casts = refl

casts_of_zero : tried (with_one (λ t. in_main t t (used (cast t.base t.stars (number 0))))) ≡ fit 12
casts_of_zero = refl

-- ---- other places where values are converted (6.5.2.2p7, 6.5.15p5, 6.7.9p11, 6.8.6.4p3)

-- 1?a:b and 1?a:0
conditionals : tried (with_two (λ t u. in_main t u (used (e (trees.conditional (number 1) a b))))) ≡ fit 24
conditionals = refl

conditionals_with_zero : tried (with_one (λ t. in_main t t (used (e (trees.conditional (number 1) a (number 0)))))) ≡ fit 12
conditionals_with_zero = refl

-- T f(U b){return b;}, and with &b;
returns :
    tried (with_two (λ t u.
    (struct_s ∷ defined t.base t.stars (102 ∷ []) (parameter u.base u.stars 98 ∷ []) (return b ∷ []) ∷ main_ [] ∷ [])
    ∷ (struct_s ∷ defined t.base t.stars (102 ∷ []) (parameter u.base u.stars 98 ∷ []) (eval (address b) ∷ return b ∷ []) ∷ main_ [] ∷ []) ∷ []))
    ≡ fit 24
returns = refl

-- T f(U b){return 0;} int main(void){T a;f(a);if(f(a)){}}
arguments :
    tried (with_two (λ t u.
    (struct_s ∷ defined t.base t.stars (102 ∷ []) (parameter u.base u.stars 98 ∷ []) (return (number 0) ∷ [])
    ∷ main_ (local t.base t.stars 97 one None ∷ eval (call 102 (a ∷ [])) ∷ used (call 102 (a ∷ [])) ∷ []) ∷ []) ∷ []))
    ≡ fit 12
arguments = refl

-- U b;T a=b;
initialisers :
    tried (with_two (λ t u. (struct_s ∷ main_ (local u.base u.stars 98 one None ∷ local t.base t.stars 97 one (Some (valued b)) ∷ []) ∷ []) ∷ []))
    ≡ fit 12
initialisers = refl

-- ---- a unit of which the laws on typed units speak

-- struct s {char m; int n;}; int g=5; char t[2]={1,2}; int f(int a){return a;} int main(void){int b[2]={1,2};struct s *p;if(f(b[0])){} return g;}
abbrev unit : UnitTree
unit = numbered_unit (
    struct_s
    ∷ global bases.Int 0 103 one (Some (valued (number 5)))
    ∷ global bases.Char 0 116 (many 2) (Some (listed (numbers (1 ∷ 2 ∷ []))))
    ∷ defined bases.Int 0 (102 ∷ []) (parameter bases.Int 0 97 ∷ []) (return a ∷ [])
    ∷ main_ (
    local bases.Int 0 98 (many 2) (Some (listed (numbers (1 ∷ 2 ∷ []))))
    ∷ local s_base 1 112 one None
    ∷ used (call 102 (at b (number 0) ∷ []))
    ∷ return (named 103)
    ∷ []
    )
    ∷ []
    )

is_as_read : IsAsRead unit
is_as_read = record { numbers = refl; literals = refl; lists = refl }

is_well_typed : WellTyped unit
is_well_typed = record { keeps_rules = refl; main_has_body = refl; calls_have_bodies = refl }

is_within_limits : IsWithinLimits unit
is_within_limits = record { nodes = refl; functions = refl; parameters = refl; globals = refl; locals = refl }
