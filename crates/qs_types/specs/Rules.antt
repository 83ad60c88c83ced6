-- The numbers of the typing rules, tests on nodes, and what they find.
use Rattle.std.specs.Prelude.{ℕ, zero, suc, ◌==◌, Bool, true, false, not, ◌||◌, List, [], ◌∷◌, Option, Some, None, if◌then◌else◌}
use Rattle.std.specs.List.{slice_get}
use Rattle.qs_types.specs.declared.rules.Rule.{Rule}
use Rattle.qs_types.specs.declared.rules.Rule.TheVariants as rules
use Rattle.qs_types.specs.Types.{TypeTree}

-- ---- the rules

-- the number of each, which the tool prints
abbrev pub rule_number : Rule → ℕ
rule_number rules.DeclaredTwice = 1
rule_number rules.UnknownVariable = 2
rule_number rules.UnknownFunction = 3
rule_number rules.ArgumentCount = 4
rule_number rules.ArgumentType = 5
rule_number rules.UnknownTag = 6
rule_number rules.IncompleteType = 7
rule_number rules.MemberTwice = 8
rule_number rules.ArrayLength = 9
rule_number rules.LargeType = 10
rule_number rules.SignatureType = 11
rule_number rules.MainType = 12
rule_number rules.ArithmeticOperand = 13
rule_number rules.IndirectOperand = 14
rule_number rules.AddressOperand = 15
rule_number rules.StepOperand = 16
rule_number rules.IntegerOperands = 17
rule_number rules.SumOperands = 18
rule_number rules.OrderOperands = 19
rule_number rules.EqualityOperands = 20
rule_number rules.TruthOperand = 21
rule_number rules.BranchTypes = 22
rule_number rules.AssignedType = 23
rule_number rules.CompoundOperands = 24
rule_number rules.UnknownMember = 25
rule_number rules.CastType = 26
rule_number rules.ReturnedType = 27
rule_number rules.MisplacedJump = 28
rule_number rules.MisplacedValue = 29
rule_number rules.InitialiserType = 30
rule_number rules.RenamedType = 31
rule_number rules.SwitchType = 32
rule_number rules.LabelTwice = 33

-- all of them, in order
abbrev pub all_rules : List Rule
all_rules =
    rules.DeclaredTwice
    ∷ rules.UnknownVariable
    ∷ rules.UnknownFunction
    ∷ rules.ArgumentCount
    ∷ rules.ArgumentType
    ∷ rules.UnknownTag
    ∷ rules.IncompleteType
    ∷ rules.MemberTwice
    ∷ rules.ArrayLength
    ∷ rules.LargeType
    ∷ rules.SignatureType
    ∷ rules.MainType
    ∷ rules.ArithmeticOperand
    ∷ rules.IndirectOperand
    ∷ rules.AddressOperand
    ∷ rules.StepOperand
    ∷ rules.IntegerOperands
    ∷ rules.SumOperands
    ∷ rules.OrderOperands
    ∷ rules.EqualityOperands
    ∷ rules.TruthOperand
    ∷ rules.BranchTypes
    ∷ rules.AssignedType
    ∷ rules.CompoundOperands
    ∷ rules.UnknownMember
    ∷ rules.CastType
    ∷ rules.ReturnedType
    ∷ rules.MisplacedJump
    ∷ rules.MisplacedValue
    ∷ rules.InitialiserType
    ∷ rules.RenamedType
    ∷ rules.SwitchType
    ∷ rules.LabelTwice
    ∷ []

abbrev pub same_rule : Rule → Rule → Bool
same_rule r s = rule_number r == rule_number s

-- the numbers are those of the places in the list, from 1
abbrev pub rule_at : ℕ → Option Rule
rule_at zero = None
rule_at (suc n) = slice_get all_rules n

-- ---- tests

-- whether a node breaks a rule
pub record Test : Type 0 where
  pub rule : Rule
  pub breaks : Bool

abbrev pub test : Rule → Bool → List Test
test rule breaks = record { rule = rule; breaks = breaks } ∷ []

abbrev pub keeps : Rule → Bool → List Test
keeps rule holds = test rule (not holds)

abbrev pub breaks_one : List Test → Bool
breaks_one [] = false
breaks_one (t ∷ ts) = t.breaks || breaks_one ts

-- an expression that breaks a rule has no type
abbrev pub type_unless : List Test → TypeTree → Option TypeTree
type_unless ts t = if breaks_one ts then None else Some t

-- a node, by its number, and a rule that it breaks
pub record Fault : Type 0 where
  pub node : ℕ
  pub rule : Rule

abbrev pub faults_of : (node : ℕ) → List Test → List Fault
faults_of node [] = []
faults_of node (t ∷ ts) = if t.breaks then record { node = node; rule = t.rule } ∷ faults_of node ts else faults_of node ts

abbrev pub is_any : List Fault → Bool
is_any [] = false
is_any (f ∷ fs) = true
