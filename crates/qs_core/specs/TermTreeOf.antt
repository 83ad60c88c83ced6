-- The terms and conditions that the program's values stand for.
use Rattle.std.specs.Prelude.{◌≡◌, Option, Result, IfOk, option_map}
use Rattle.qs_core.specs.TermTrees.{CoreTermTree, number, variable, temporary, combined, quotient, wrapped}
use Rattle.qs_core.specs.TermTrees.{CoreConditionTree, compared, not, and, or}
use Rattle.qs_core.specs.Terms.{remainder_of}
use Rattle.qs_core.specs.declared.term.CoreTerm.{CoreTerm, CoreTerm-F, fold-CoreTerm}
use Rattle.qs_core.specs.declared.term.TermPair.{TermPair, TermPair-F, fold-TermPair}
use Rattle.qs_core.specs.declared.term.CoreCondition.{CoreCondition, CoreCondition-F, fold-CoreCondition}
use Rattle.qs_core.specs.declared.term.ConditionPair.{ConditionPair, ConditionPair-F, fold-ConditionPair}

-- two terms
pub record TermPairTree : Type 0 where
  pub left : CoreTermTree
  pub right : CoreTermTree

abbrev pub term_step : CoreTerm-F CoreTermTree TermPairTree → CoreTermTree
term_step (CoreTerm-F.Number n) = number n
term_step (CoreTerm-F.Variable s x) = variable s x
term_step (CoreTerm-F.Temporary s k) = temporary s k
term_step (CoreTerm-F.Combined op p) = combined op p.value.left p.value.right
term_step (CoreTerm-F.Divide t k) = quotient t.value k
term_step (CoreTerm-F.Remainder t k) = remainder_of t.value k
term_step (CoreTerm-F.Wrapped s t) = wrapped s t.value

abbrev pub pair_step : TermPair-F CoreTermTree TermPairTree → TermPairTree
pair_step p = record { left = p.left; right = p.right }

abbrev pub core_term : CoreTerm → CoreTermTree
core_term = fold-CoreTerm CoreTermTree TermPairTree term_step pair_step

abbrev pub core_pair : TermPair → TermPairTree
core_pair = fold-TermPair CoreTermTree TermPairTree term_step pair_step

abbrev pub option_term : Option CoreTerm → Option CoreTermTree
option_term = option_map core_term

-- two conditions
pub record ConditionPairTree : Type 0 where
  pub left : CoreConditionTree
  pub right : CoreConditionTree

abbrev pub condition_step : CoreCondition-F CoreConditionTree ConditionPairTree → CoreConditionTree
condition_step (CoreCondition-F.Compared op p) = compared op (core_pair p).left (core_pair p).right
condition_step (CoreCondition-F.Not c) = not c.value
condition_step (CoreCondition-F.And p) = and p.value.left p.value.right
condition_step (CoreCondition-F.Or p) = or p.value.left p.value.right

abbrev pub conditions_step : ConditionPair-F CoreConditionTree ConditionPairTree → ConditionPairTree
conditions_step p = record { left = p.left; right = p.right }

abbrev pub core_condition : CoreCondition → CoreConditionTree
core_condition = fold-CoreCondition CoreConditionTree ConditionPairTree condition_step conditions_step

abbrev pub core_conditions : ConditionPair → ConditionPairTree
core_conditions = fold-ConditionPair CoreConditionTree ConditionPairTree condition_step conditions_step

abbrev pub option_condition : Option CoreCondition → Option CoreConditionTree
option_condition = option_map core_condition

-- ---- answers

-- the term that is due, where one is
abbrev pub GivesTerm : {E : Type 0} → Option CoreTermTree → Result (Option CoreTerm) E → Type 0
GivesTerm due result = IfOk result (λ t. option_term t ≡ due)

-- the condition that is due, where one is
abbrev pub GivesCondition : {E : Type 0} → Option CoreConditionTree → Result (Option CoreCondition) E → Type 0
GivesCondition due result = IfOk result (λ c. option_condition c ≡ due)
