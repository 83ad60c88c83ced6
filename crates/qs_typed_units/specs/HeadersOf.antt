-- The headers of functions in code.
use Rattle.std.specs.Prelude.{◌≡◌, ℕ, List, [], Option, Some, ◌∷◌, map, Result, Vec, OnOk}
use Rattle.std.specs.declared.alloc.Global.{Global}
use Rattle.indexmap.specs.IndexMap.{IndexMap}
use Rattle.qs_memory.specs.declared.scalar.Scalar.{Scalar}
use Rattle.qs_syntax.specs.TreeOf.{decl_tree, function_tree}
use Rattle.qs_syntax.specs.Trees.{UnitTree}
use Rattle.qs_syntax.specs.declared.units.Decl.{Decl}
use Rattle.qs_syntax.specs.declared.units.Function.{Function}
use Rattle.qs_types.specs.declared.types.CType.{CType}
use Rattle.qs_typed_nodes.specs.Known.{Header}
use Rattle.qs_typed_nodes.specs.KnownOf.{table_headers}
use Rattle.qs_typed_units.specs.KnownUnits.{headers_behind, with_header}
use Rattle.qs_typed_nodes.specs.TypesOf.{types_tree}

-- the header of a function, at whose node none stands yet, is the last
abbrev pub AddsHeader : {S T E : Type 0} → List (Option CType) → Function → (old new : IndexMap ℕ (Vec Scalar Global) S) → Result T E → Type 0
AddsHeader types f old new result = OnOk result (with_header (types_tree types) (function_tree f) (table_headers old) ≡ Some (table_headers new))

-- the header of a declaration, if it is that of a function, stands behind the others
abbrev pub AddsHeaders : {S T E : Type 0} → List (Option CType) → Decl → (old new : IndexMap ℕ (Vec Scalar Global) S) → Result T E → Type 0
AddsHeaders types d old new result =
    OnOk result ((ds : UnitTree) → headers_behind (types_tree types) (table_headers old) (decl_tree d ∷ ds) ≡ headers_behind (types_tree types) (table_headers new) ds)

-- of the functions that are declared, in order
abbrev pub headers_in : List (Option CType) → List Decl → Option (List Header)
headers_in types ds = headers_behind (types_tree types) [] (map decl_tree ds)
