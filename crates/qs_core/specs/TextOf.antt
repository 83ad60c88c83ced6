-- What terms, conditions, statements and functions in code are as text.
use Rattle.std.specs.Prelude.{ℕ, ◌+◌, List, ◌++◌, length, codes, flat_map, map, Option}
use Rattle.qs_memory.specs.declared.operation.Signedness.{Signedness}
use Rattle.qs_calls.specs.declared.callee.Callee.{Callee}
use Rattle.qs_core.specs.declared.labels.CoreLabel.{CoreLabel}
use Rattle.qs_core.specs.declared.numbers.Target.{Target}
use Rattle.qs_core.specs.declared.expressions.CoreExpr.{CoreExpr}
use Rattle.qs_core.specs.declared.statements.CoreStmt.{CoreStmt}
use Rattle.qs_core.specs.declared.term.TermOperation.{TermOperation}
use Rattle.qs_core.specs.declared.term.TermComparison.{TermComparison}
use Rattle.qs_core.specs.declared.term.CoreTerm.{CoreTerm}
use Rattle.qs_core.specs.declared.term.TermPair.{TermPair}
use Rattle.qs_core.specs.declared.term.CoreCondition.{CoreCondition}
use Rattle.qs_core.specs.declared.term.ConditionPair.{ConditionPair}
use Rattle.qs_core.specs.declared.units.CoreFunction.{CoreFunction}
use Rattle.qs_core.specs.declared.units.CoreParameter.{CoreParameter}
use Rattle.qs_core.specs.Trees.{stmts_of}
use Rattle.qs_core.specs.TermTrees as trees
use Rattle.qs_core.specs.Terms.{remainder_of}
use Rattle.qs_core.specs.TreeOf.{core_expr, core_exprs, option_expr, core_stmt, core_stmts, parameter_tree, function_tree, function_trees}
use Rattle.qs_core.specs.TermTreeOf.{core_term, core_pair, core_condition, core_conditions, option_term, option_condition}
use Rattle.qs_core.specs.TermTexts.{applied, applied_to_both, term_text, condition_text, expr_text, test_text}
use Rattle.qs_core.specs.TermTexts as tree_texts
use Rattle.qs_core.specs.Outline.{part_path, line, seq_form, argument_text, returned_text, assign_form, call_form, if_form, switch_form, return_form, outline_stmt, outline_parts, parameter_text, outline_function}

-- ---- terms

abbrev pub term : CoreFunction → CoreTerm → List ℕ
term f t = term_text (function_tree f) (core_term t)

-- `t u`
abbrev pub pair : CoreFunction → TermPair → List ℕ
pair f p = term_text (function_tree f) (core_pair p).left ++ codes " " ++ term_text (function_tree f) (core_pair p).right

abbrev pub combined : CoreFunction → TermOperation → TermPair → List ℕ
combined f op p = term_text (function_tree f) (trees.combined op (core_pair p).left (core_pair p).right)

abbrev pub quotient : CoreFunction → CoreTerm → (divisor : ℕ) → List ℕ
quotient f t k = term_text (function_tree f) (trees.quotient (core_term t) k)

abbrev pub remainder : CoreFunction → CoreTerm → (divisor : ℕ) → List ℕ
remainder f t k = term_text (function_tree f) (remainder_of (core_term t) k)

abbrev pub wrapped : CoreFunction → Signedness → CoreTerm → List ℕ
wrapped f s t = term_text (function_tree f) (trees.wrapped s (core_term t))

-- ---- conditions

abbrev pub condition : CoreFunction → CoreCondition → List ℕ
condition f c = condition_text (function_tree f) (core_condition c)

abbrev pub compared : CoreFunction → TermComparison → TermPair → List ℕ
compared f op p = condition_text (function_tree f) (trees.compared op (core_pair p).left (core_pair p).right)

abbrev pub negation : CoreFunction → CoreCondition → List ℕ
negation f c = applied (codes "not") (condition_text (function_tree f) (core_condition c))

-- `(head c d)`
abbrev pub both : CoreFunction → (head : List ℕ) → ConditionPair → List ℕ
both f head p = applied_to_both head (condition_text (function_tree f) (core_conditions p).left) (condition_text (function_tree f) (core_conditions p).right)

-- its length, where the head has so many bytes
abbrev pub both_length : CoreFunction → (head : ℕ) → ConditionPair → ℕ
both_length f head p =
    4 + head + length (condition_text (function_tree f) (core_conditions p).left) + length (condition_text (function_tree f) (core_conditions p).right)

-- ---- what stands in an outline

-- `?` where there is none
abbrev pub term_or_mark : CoreFunction → Option CoreTerm → List ℕ
term_or_mark f t = tree_texts.term_or_mark (function_tree f) (option_term t)

abbrev pub condition_or_mark : CoreFunction → Option CoreCondition → List ℕ
condition_or_mark f c = tree_texts.condition_or_mark (function_tree f) (option_condition c)

abbrev pub expression : CoreFunction → CoreExpr → List ℕ
expression f e = expr_text (function_tree f) (core_expr e)

abbrev pub test : CoreFunction → CoreExpr → List ℕ
test f e = test_text (function_tree f) (core_expr e)

abbrev pub argument : CoreFunction → CoreExpr → List ℕ
argument f e = argument_text (function_tree f) (core_expr e)

abbrev pub arguments : CoreFunction → List CoreExpr → List ℕ
arguments f es = flat_map (argument_text (function_tree f)) (core_exprs es)

abbrev pub returned : CoreFunction → Option CoreExpr → List ℕ
returned f e = returned_text (function_tree f) (option_expr e)

-- ---- the lines of statements, and those of a statement with its parts

abbrev pub assign_line : CoreFunction → (path : List ℕ) → Target → CoreExpr → List ℕ
assign_line f path x e = line path (assign_form (function_tree f) x (core_expr e))

abbrev pub call_line : List CoreFunction → CoreFunction → (path : List ℕ) → Option ℕ → Callee → List CoreExpr → List ℕ
call_line functions f path x g es = line path (call_form (function_trees functions) (function_tree f) x g (core_exprs es))

abbrev pub if_line : CoreFunction → (path : List ℕ) → CoreExpr → List ℕ
if_line f path e = line path (if_form (function_tree f) (core_expr e))

abbrev pub switch_line : CoreFunction → (path : List ℕ) → CoreExpr → List CoreLabel → List ℕ
switch_line f path e labels = line path (switch_form (function_tree f) (core_expr e) labels)

abbrev pub return_line : CoreFunction → (path : List ℕ) → Option CoreExpr → List ℕ
return_line f path e = line path (return_form (function_tree f) (option_expr e))

abbrev pub seq_line : (path : List ℕ) → List CoreStmt → List ℕ
seq_line path ss = line path (seq_form (stmts_of (core_stmts ss)))

abbrev pub statement : List CoreFunction → CoreFunction → (path : List ℕ) → CoreStmt → List ℕ
statement functions f path s = outline_stmt (function_trees functions) (function_tree f) path (core_stmt s)

-- the part with this number of the statement that stands there
abbrev pub part : List CoreFunction → CoreFunction → (path : List ℕ) → (number : ℕ) → CoreStmt → List ℕ
part functions f path n s = outline_stmt (function_trees functions) (function_tree f) (part_path path n) (core_stmt s)

abbrev pub parts : List CoreFunction → CoreFunction → (path : List ℕ) → List CoreStmt → List ℕ
parts functions f path ss = outline_parts (function_trees functions) (function_tree f) path 0 (stmts_of (core_stmts ss))

-- ---- functions

abbrev pub all_parameters : List CoreParameter → List ℕ
all_parameters ps = flat_map parameter_text (map parameter_tree ps)

abbrev pub function : List CoreFunction → CoreFunction → List ℕ
function functions f = outline_function (function_trees functions) (function_tree f)

abbrev pub all_functions : List CoreFunction → List ℕ
all_functions functions = flat_map (outline_function (function_trees functions)) (function_trees functions)
