-- What is known behind statements, and the tests of statements by the types of their expressions.
use Rattle.std.specs.Prelude.{Bool, true, ◌&&◌, List, [], Option, Some, None, is_some, if◌then◌else◌}
use Rattle.qs_syntax.specs.declared.nodes.Node.{Node}
use Rattle.qs_syntax.specs.Trees.{ExprTree, Stmts, no_stmts, stmt_and}
use Rattle.qs_types.specs.declared.rules.Rule.TheVariants as rules
use Rattle.qs_types.specs.Types.{TypeTree, is_void}
use Rattle.qs_types.specs.Rules.{Test, keeps}
use Rattle.qs_types.specs.Contexts.{Context}
use Rattle.qs_types.specs.ExpressionFaults.{used, discarded}
use Rattle.qs_types.specs.StatementRules.{after_statement, condition_tests, option_condition_tests, option_typed, returns}
use Rattle.qs_typing_findings.specs.UnitWalk.{WalkTree, node_judged, option_walked}

abbrev pub after_statements : Context → Stmts → Context
after_statements c no_stmts = c
after_statements c (stmt_and s ss) = after_statements (after_statement c s) ss

-- the test of a `return` of an expression of this type
abbrev pub return_tests_by : (result : Option TypeTree) → Option ExprTree → (t : Option TypeTree) → List Test
return_tests_by None e t = []
return_tests_by (Some result) None t = keeps rules.ReturnedType (is_void result)
return_tests_by (Some result) (Some e) t = returns result e t

-- whether an expression of this type has a type, where it is there
abbrev pub typed_by : Option ExprTree → (t : Option TypeTree) → Bool
typed_by None t = true
typed_by (Some e) t = is_some t

-- the test of a `for` whose step has the type u and whose condition the type t
abbrev pub head_tests_by : (start_typed : Bool) → (step : Option ExprTree) → (u t : Option TypeTree) → List Test
head_tests_by start_typed step u t = if start_typed && typed_by step u then condition_tests t else []

-- the condition and the step of a `for`
abbrev pub head_walked : Context → Node → (start_typed : Bool) → Option ExprTree → Option ExprTree → WalkTree → WalkTree
head_walked c node start_typed e u w =
    node_judged node (if start_typed && option_typed c u then option_condition_tests c e else []) (option_walked c discarded u (option_walked c used e w))
