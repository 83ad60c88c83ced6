-- How walks in code go over expressions that are no parts of others, and what they note, as the definitions say.
use Rattle.std.specs.Prelude.{◌≡◌, ℕ, Bool, List, Option, None, map, option_map}
use Rattle.qs_syntax.specs.declared.expressions.Expr.{Expr}
use Rattle.qs_syntax.specs.declared.nodes.Node.{Node}
use Rattle.qs_syntax.specs.TreeOf.{expr_tree}
use Rattle.qs_types.specs.declared.types.CType.{CType}
use Rattle.qs_typing_findings.specs.declared.context.Context.{Context}
use Rattle.qs_typing_findings.specs.declared.found.Fault.{Fault}
use Rattle.qs_typing_findings.specs.declared.judged.Test.{Test}
use Rattle.qs_typing_findings.specs.declared.noted.Local.{Local}
use Rattle.qs_typing_findings.specs.declared.positions.Position.{Position}
use Rattle.qs_typing_findings.specs.declared.walk.Walk.{Walk}
use Rattle.qs_typing_findings.specs.ContextOf.{context_tree}
use Rattle.qs_typing_findings.specs.FoundOf.{fault_tree}
use Rattle.qs_typing_findings.specs.JudgedOf.{test_tree}
use Rattle.qs_typing_findings.specs.NotedOf.{local_tree}
use Rattle.qs_typing_findings.specs.PartsOf.{option_type}
use Rattle.qs_typing_findings.specs.PositionOf.{position_tree}
use Rattle.qs_typing_findings.specs.UnitWalk.{expr_walked, node_judged, object_opened, object_typed, site_walked, variable_walk_noted, with_body_begun}
use Rattle.qs_typing_findings.specs.Variables.{with_least_before}
use Rattle.qs_typing_findings.specs.WalkOf.{walk_tree}

abbrev pub WalksSite : Context → Position → (fills_array : Bool) → Expr → (before after : Walk) → Type 0
WalksSite c p fills_array e before after =
    walk_tree after ≡ site_walked (context_tree c) (position_tree p) fills_array (expr_tree e) (walk_tree before)

abbrev pub WalksExpression : Context → Position → Expr → (before after : Walk) → Type 0
WalksExpression c p e before after = walk_tree after ≡ expr_walked (context_tree c) (position_tree p) (expr_tree e) (walk_tree before)

abbrev pub NotesDeclared : (at_file_scope : Bool) → Context → (node : ℕ) → Option CType → (before after : Walk) → Type 0
NotesDeclared at_file_scope c node t before after =
    walk_tree after ≡ variable_walk_noted at_file_scope (context_tree c) node (option_type t) (walk_tree before)

abbrev pub WalkBeginsBody : List Local → (before after : Walk) → Type 0
WalkBeginsBody parameters before after = walk_tree after ≡ with_body_begun (map local_tree parameters) (walk_tree before)

-- the node of a variable or parameter is opened, and gets its type behind its lengths
abbrev pub OpensObject : (before after : Walk) → Type 0
OpensObject before after = walk_tree after ≡ object_opened None (walk_tree before)

abbrev pub GivesType : (at : ℕ) → Option CType → (before after : Walk) → Type 0
GivesType at t before after = walk_tree after ≡ object_typed at (option_type t) (walk_tree before)

abbrev pub JudgesNode : Node → List Test → (before after : Walk) → Type 0
JudgesNode node tests before after = walk_tree after ≡ node_judged node (map test_tree tests) (walk_tree before)

-- the least fault of before is added
abbrev pub JoinsLeast : Option Fault → (before after : Walk) → Type 0
JoinsLeast least before after = walk_tree after ≡ with_least_before (option_map fault_tree least) (walk_tree before)
