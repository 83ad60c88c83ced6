-- The pure structs that structs in code stand for.
use Rattle.std.specs.Prelude.{ℕ, Bool, List, map, option_map, is_some}
use Rattle.std.specs.List.{slice_get}
use Rattle.qs_types.specs.Types.{MemberTree, StructTree, Structs}
use Rattle.qs_types.specs.Layout.{and_then, Layouts, StructLayout as LayoutTree}
use Rattle.qs_types.specs.TypeOf.{type_tree}
use Rattle.qs_types.specs.declared.types.CType.{CType}
use Rattle.qs_types.specs.declared.structs.StructLayout.{StructLayout}
use Rattle.qs_types.specs.declared.structs.StructType.{StructType}

abbrev pub member_tree : List ℕ × CType → MemberTree
member_tree m = record { name = m.0; type = type_tree m.1 }

abbrev pub struct_tree : StructType → StructTree
struct_tree s = option_map (λ ms. map member_tree ms.entries) s.members

abbrev pub structs_tree : List StructType → Structs
structs_tree = map struct_tree

abbrev pub layout_tree : StructLayout → LayoutTree
layout_tree l = record { offsets = l.offsets.items; size = l.size; alignment = l.alignment }

abbrev pub kept_layouts : List StructType → Layouts
kept_layouts structs k = and_then (slice_get structs k) (λ s. option_map layout_tree s.layout)

abbrev pub has_members : StructType → Bool
has_members s = is_some s.members

abbrev pub has_layout : StructType → Bool
has_layout s = is_some s.layout
