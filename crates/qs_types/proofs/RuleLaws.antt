-- The numbers of the rules: from 1 in the order of the table, and different ones for different rules.
use Rattle.std.proofs.Common.{◌≡◌, [], ◌∷◌, Some, map, refl, sym, ap, ◌∙◌}
use Rattle.std.proofs.lemmas.Option.{same_Some}
use Rattle.qs_types.specs.declared.rules.Rule.{Rule}
use Rattle.qs_types.specs.declared.rules.Rule.TheVariants as rules
use Rattle.qs_types.specs.Rules.{rule_number, all_rules, rule_at}

numbers_in_order : map rule_number all_rules ≡ 1 ∷ 2 ∷ 3 ∷ 4 ∷ 5 ∷ 6 ∷ 7 ∷ 8 ∷ 9 ∷ 10 ∷ 11 ∷ 12 ∷ 13 ∷ 14 ∷ 15 ∷ 16 ∷ 17 ∷ 18 ∷ 19 ∷ 20 ∷ 21 ∷ 22 ∷ 23 ∷ 24 ∷ 25 ∷ 26 ∷ 27 ∷ 28 ∷ 29 ∷ 30 ∷ 31 ∷ 32 ∷ 33 ∷ []
numbers_in_order = refl

-- the rule that has the number
rule_of_number : (r : Rule) → rule_at (rule_number r) ≡ Some r
rule_of_number rules.DeclaredTwice = refl
rule_of_number rules.UnknownVariable = refl
rule_of_number rules.UnknownFunction = refl
rule_of_number rules.ArgumentCount = refl
rule_of_number rules.ArgumentType = refl
rule_of_number rules.UnknownTag = refl
rule_of_number rules.IncompleteType = refl
rule_of_number rules.MemberTwice = refl
rule_of_number rules.ArrayLength = refl
rule_of_number rules.LargeType = refl
rule_of_number rules.SignatureType = refl
rule_of_number rules.MainType = refl
rule_of_number rules.ArithmeticOperand = refl
rule_of_number rules.IndirectOperand = refl
rule_of_number rules.AddressOperand = refl
rule_of_number rules.StepOperand = refl
rule_of_number rules.IntegerOperands = refl
rule_of_number rules.SumOperands = refl
rule_of_number rules.OrderOperands = refl
rule_of_number rules.EqualityOperands = refl
rule_of_number rules.TruthOperand = refl
rule_of_number rules.BranchTypes = refl
rule_of_number rules.AssignedType = refl
rule_of_number rules.CompoundOperands = refl
rule_of_number rules.UnknownMember = refl
rule_of_number rules.CastType = refl
rule_of_number rules.ReturnedType = refl
rule_of_number rules.MisplacedJump = refl
rule_of_number rules.MisplacedValue = refl
rule_of_number rules.InitialiserType = refl
rule_of_number rules.RenamedType = refl
rule_of_number rules.SwitchType = refl
rule_of_number rules.LabelTwice = refl

pub numbers_differ : (r s : Rule) → rule_number r ≡ rule_number s → r ≡ s
numbers_differ r s e = same_Some r s (sym (rule_of_number r) ∙ ap rule_at e ∙ rule_of_number s)
