-- The head of a `for`.
use Rattle.std.proofs.Common.{◌≡◌, Bool, ◌&&◌, List, [], Option, Some, None, refl, ap, ◌∙◌, if◌then◌else◌}
use Rattle.qs_syntax.specs.declared.nodes.Node.{Node}
use Rattle.qs_syntax.specs.Trees.{ExprTree}
use Rattle.qs_types.specs.Types.{TypeTree}
use Rattle.qs_types.specs.Rules.{Test}
use Rattle.qs_types.specs.Contexts.{Context}
use Rattle.qs_types.specs.Expressions.{type_of}
use Rattle.qs_types.specs.ExpressionFaults.{used, discarded}
use Rattle.qs_types.specs.Layout.{and_then}
use Rattle.qs_types.specs.StatementRules.{condition_tests, option_condition_tests, option_typed}
use Rattle.qs_typing_findings.specs.Statements.{head_tests_by, head_walked, typed_by}
use Rattle.qs_typing_findings.specs.UnitWalk.{WalkTree, node_judged, option_walked}

same_typed : (c : Context) (u : Option ExprTree) → typed_by u (and_then u (type_of c)) ≡ option_typed c u
same_typed c None = refl
same_typed c (Some e) = refl

same_tests : (c : Context) (e : Option ExprTree) → condition_tests (and_then e (type_of c)) ≡ option_condition_tests c e
same_tests c None = refl
same_tests c (Some e) = refl

pub head_is : (c : Context) (node : Node) (start_typed : Bool) (e u : Option ExprTree) (before first second after : WalkTree) (t v : Option TypeTree) (ts : List Test)
    → t ≡ and_then e (type_of c) → first ≡ option_walked c used e before → v ≡ and_then u (type_of c) → second ≡ option_walked c discarded u first
    → ts ≡ head_tests_by start_typed u v t → after ≡ node_judged node ts second → after ≡ head_walked c node start_typed e u before
head_is c node start_typed e u before first second after t v ts typed walks steps goes tests judges =
    let own : ts ≡ (if start_typed && option_typed c u then option_condition_tests c e else []) =
    tests ∙ (λ i. head_tests_by start_typed u (steps i) (typed i)) ∙ (λ i. if start_typed && same_typed c u i then same_tests c e i else []) in
    judges ∙ (λ i. node_judged node (own i) ((goes ∙ ap (option_walked c discarded u) walks) i))
