-- Something of each node of a unit stands at the number of the node.
use Rattle.std.specs.Prelude.{◌≡◌, ℕ, List, Option, Some, length}
use Rattle.std.specs.List.{slice_get}
use Rattle.qs_syntax.specs.declared.nodes.Node.{Node}
use Rattle.qs_syntax.specs.Nodes.{unit_count}
use Rattle.qs_syntax.specs.Trees.{ExprTree, UnitTree}
use Rattle.qs_types.specs.Types.{TypeTree}
use Rattle.qs_types.specs.Contexts.{Context}
use Rattle.qs_typing_findings.specs.UnitNodes.{with_nodes}

-- a list has as much as the unit has nodes, and what there is of a node stands at its number
pub record IsByNumber {A : Type 0} (at : Node → Option TypeTree → A) (of : Context → ExprTree → A) (unit : UnitTree) (xs : List A) : Type 0 where
  pub many : length xs ≡ unit_count unit
  pub each : (i : ℕ) (node : Node) (x : A) → slice_get (with_nodes at of unit) i ≡ Some (node, x) → (node.id ≡ i) × (slice_get xs i ≡ Some x)
