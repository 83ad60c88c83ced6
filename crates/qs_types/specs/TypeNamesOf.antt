-- The pure names of types that names of types in code stand for.
use Rattle.std.specs.Prelude.{ℕ, List, Option, map, option_map}
use Rattle.std.specs.Borrow.{Bor}
use Rattle.qs_types.specs.Contexts as contexts
use Rattle.qs_types.specs.Types.{TypeTree}
use Rattle.qs_types.specs.TypeOf.{type_tree}
use Rattle.qs_types.specs.declared.types.CType.{CType}
use Rattle.qs_types.specs.declared.type_names.TypeNames.{TypeNames}

abbrev pub tag_tree : List ℕ × ℕ → contexts.Tag
tag_tree t = record { name = t.0; place = t.1 }

abbrev pub named_tree : List ℕ × Option CType → contexts.NamedType
named_tree n = record { name = n.0; type = option_map type_tree n.1 }

-- what is declared under a type name
abbrev pub type_at : Option (Bor (Option CType)) → Option (Option TypeTree)
type_at = option_map (λ t. option_map type_tree t.now)

abbrev pub names_tree : TypeNames → contexts.TypeNames
names_tree names = record { tags = map tag_tree names.tags.entries; types = map named_tree names.types.entries }
