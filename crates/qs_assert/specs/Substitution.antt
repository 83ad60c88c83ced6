-- Variables are replaced by terms.
use Rattle.std.specs.Prelude.{◌≡◌, ◌==◌, ◌&&◌, ℤ, Bool, true, false, if◌then◌else◌}
use denote.Enum.Bare.{sameb}
use Rattle.qs_assert.specs.contracts.variable.NumberType.{the_type}
use Rattle.qs_assert.specs.declared.variable.VarKind.{VarKind}
use Rattle.qs_assert.specs.declared.variable.VarKind.TheVariants.{Plain, Temporary, Old, Returned}
use Rattle.qs_assert.specs.declared.variable.NumberType.{NumberType}
use Rattle.qs_assert.specs.declared.variable.Var.{Var}
use Rattle.qs_assert.specs.Images.{Images, assertion_image}
use Rattle.qs_assert.specs.Trees.{TermTree, variable, AssertionTree}
use Rattle.qs_assert.specs.Values.{State, term_value, value}

-- the same kind of variable
abbrev pub same_kind : VarKind → VarKind → Bool
same_kind (Plain i) (Plain j) = i == j
same_kind (Temporary i) (Temporary j) = i == j
same_kind (Old i) (Old j) = i == j
same_kind Returned Returned = true
same_kind _ _ = false

-- the same integer type
abbrev pub same_number_type : NumberType → NumberType → Bool
same_number_type = sameb the_type

-- the same variable, at the same type
abbrev pub same_variable : Var → Var → Bool
same_variable x y = same_kind x.kind y.kind && same_number_type x.number y.number

-- each variable but x stays, and `u` stands for x
abbrev pub one_image : Var → TermTree → Images
one_image x u y = if same_variable y x then u else variable y

-- `u` stands in the place of `x`
abbrev pub in_assertion : Var → TermTree → AssertionTree → AssertionTree
in_assertion x u a = assertion_image (one_image x u) a

-- the state in which x has the value z
abbrev pub with_value : Var → ℤ → State → State
with_value x z s = record s { at = λ y. if same_variable y x then z else s.at y }

-- in each state b has the value that a has where x has the value of t
abbrev pub HasValueWith : Var → TermTree → AssertionTree → AssertionTree → Type 0
HasValueWith x t a b = (s : State) → value b s ≡ value a (with_value x (term_value t s) s)

-- the value of a is the same whatever the number of x
abbrev pub IsIndependentOf : AssertionTree → Var → Type 0
IsIndependentOf a x = (s : State) (z : ℤ) → value a (with_value x z s) ≡ value a s
