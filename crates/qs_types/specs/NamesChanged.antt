-- How names of types in code change.
use Rattle.std.specs.Prelude.{◌≡◌, ℕ, List, Option, option_map}
use Rattle.qs_types.specs.Contexts as contexts
use Rattle.qs_types.specs.TypeNamesOf.{names_tree}
use Rattle.qs_types.specs.TypeOf.{type_tree}
use Rattle.qs_types.specs.declared.types.CType.{CType}
use Rattle.qs_types.specs.declared.type_names.TypeNames.{TypeNames}

-- a tag behind the others, and the number of its struct
abbrev pub AddsTag : List ℕ → (place : ℕ) → (before after : TypeNames) → Type 0
AddsTag tag place before after = names_tree after ≡ contexts.add_tag (names_tree before) tag place

-- a type name behind the others
abbrev pub AddsType : List ℕ → Option CType → (before after : TypeNames) → Type 0
AddsType x t before after = names_tree after ≡ contexts.add_type (names_tree before) x (option_map type_tree t)
