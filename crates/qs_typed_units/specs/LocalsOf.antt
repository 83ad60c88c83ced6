-- The locals of functions in code, with their types and places.
use Rattle.std.specs.Prelude.{◌≡◌, ℕ, List, Option, map, Result, OnOk}
use Rattle.indexmap.specs.IndexSet.{IndexSet}
use Rattle.qs_syntax.specs.TreeOf.{parameter_tree}
use Rattle.qs_syntax.specs.declared.declarations.Parameter.{Parameter}
use Rattle.qs_types.specs.Placed.{Local}
use Rattle.qs_types.specs.Types.{TypeTree}
use Rattle.qs_types.specs.declared.types.CType.{CType}
use Rattle.qs_meaning.specs.Names as names
use Rattle.qs_typed_nodes.specs.KnownFunctions.{locals_at, parameters_nodes, places_at}
use Rattle.qs_typed_nodes.specs.PlacesOf.{locals_tree}
use Rattle.qs_typed_forms.specs.Results.{Makes}
use Rattle.qs_typed_nodes.specs.TypesOf.{types_tree}
use Rattle.qs_typed_nodes.specs.declared.places.Locals.{Locals}

-- with the types that stand at their numbers
abbrev pub locals_in : {S : Type 0} → List (Option CType) → (nodes : IndexSet ℕ S) → List Local
locals_in types nodes = locals_at (types_tree types) nodes.keys

abbrev pub parameters_in : List (Option CType) → List Parameter → List Local
parameters_in types ps = locals_at (types_tree types) (parameters_nodes (map parameter_tree ps))

-- these nodes have their places beside the others, where some are operands of `&`
abbrev pub Puts :
    {S T E : Type 0} → (List (Option TypeTree) → (addressed nodes : List ℕ) → names.Locals → names.Locals) → List (Option CType)
    → (addressed : IndexSet ℕ S) → (nodes : List ℕ) → (old new : Locals) → Result T E → Type 0
Puts definition types addressed nodes old new result =
    OnOk result (locals_tree new ≡ definition (types_tree types) addressed.keys nodes (locals_tree old))

-- the places of parameters and locals
abbrev pub Places : {S E : Type 0} → List (Option CType) → (addressed : IndexSet ℕ S) → (parameters locals : List ℕ) → Result Locals E → Type 0
Places types addressed parameters locals result = Makes locals_tree (places_at (types_tree types) addressed.keys parameters locals) result
