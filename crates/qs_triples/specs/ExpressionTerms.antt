-- The terms and conditions of core expressions, as those of assertions.
use Rattle.std.specs.Prelude.{Option, option_map}
use Rattle.qs_memory.specs.declared.scalar.Scalar.{Scalar}
use Rattle.qs_memory.specs.declared.operation.Signedness.{Signedness}
use Rattle.qs_memory.specs.declared.operation.Signedness.TheVariants.{Signed, Unsigned}
use Rattle.qs_assert.specs.declared.variable.VarKind.{VarKind}
use Rattle.qs_assert.specs.declared.variable.VarKind.TheVariants as kinds
use Rattle.qs_assert.specs.declared.variable.Var.{Var}
use Rattle.qs_assert.specs.Trees.{TermTree, TermTrees, no_terms, term_and, CondTree, CondTrees, no_conds, cond_and}
use Rattle.qs_core.specs.Trees.{CoreExprTree}
use Rattle.qs_core.specs.TermTrees.{CoreTermTree, number, variable, temporary, combined, quotient, wrapped}
use Rattle.qs_core.specs.TermTrees.{CoreConditionTree, compared, not, and, or}
use Rattle.qs_core.specs.Terms.{term_of, condition_of}
use Rattle.qs_core.specs.declared.term.TermOperation.{TermOperation}
use Rattle.qs_core.specs.declared.term.TermOperation.TheVariants.{Add, Subtract, Multiply}
use Rattle.qs_core.specs.declared.term.TermComparison.{TermComparison}
use Rattle.qs_core.specs.declared.term.TermComparison.TheVariants.{Less, LessOrEqual, Equal, NotEqual}
use Rattle.qs_triples.specs.Valuations.{number_type}

abbrev pub var : VarKind → Scalar → Var
var kind s = record { kind = kind; number = number_type s }

abbrev pub two_terms : TermTree → TermTree → TermTrees
two_terms t u = term_and t (term_and u no_terms)

abbrev pub two_conditions : CondTree → CondTree → CondTrees
two_conditions c d = cond_and c (cond_and d no_conds)

abbrev pub operation_term : TermOperation → TermTree → TermTree → TermTree
operation_term Add t u = TermTree.add (two_terms t u)
operation_term Subtract t u = TermTree.sub t u
operation_term Multiply t u = TermTree.mul (two_terms t u)

abbrev pub wrapped_term : Signedness → TermTree → TermTree
wrapped_term Signed t = TermTree.wraps t
wrapped_term Unsigned t = TermTree.wrapu t

abbrev pub term_tree : CoreTermTree → TermTree
term_tree (number k) = TermTree.number k
term_tree (variable s x) = TermTree.variable (var (kinds.Plain x) s)
term_tree (temporary s k) = TermTree.variable (var (kinds.Temporary k) s)
term_tree (combined op t u) = operation_term op (term_tree t) (term_tree u)
term_tree (quotient t k) = TermTree.div (term_tree t) k
term_tree (wrapped s t) = wrapped_term s (term_tree t)

abbrev pub comparison_condition : TermComparison → TermTree → TermTree → CondTree
comparison_condition Less t u = CondTree.lt t u
comparison_condition LessOrEqual t u = CondTree.le t u
comparison_condition Equal t u = CondTree.eq t u
comparison_condition NotEqual t u = CondTree.ne t u

abbrev pub condition_tree : CoreConditionTree → CondTree
condition_tree (compared op t u) = comparison_condition op (term_tree t) (term_tree u)
condition_tree (not c) = CondTree.not (condition_tree c)
condition_tree (and c d) = CondTree.and (two_conditions (condition_tree c) (condition_tree d))
condition_tree (or c d) = CondTree.or (two_conditions (condition_tree c) (condition_tree d))

-- not every expression has one
abbrev pub expression_term : CoreExprTree → Option TermTree
expression_term e = option_map term_tree (term_of e)

abbrev pub expression_condition : CoreExprTree → Option CondTree
expression_condition e = option_map condition_tree (condition_of e)
