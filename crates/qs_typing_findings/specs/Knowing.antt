-- What contexts in code come to know, as the definitions say.
use Rattle.std.specs.Prelude.{◌≡◌, ℕ, Bool, List, Option, is_some, map}
use Rattle.std.specs.Map.{values_of}
use Rattle.qs_syntax.specs.declared.types.Base.{Base}
use Rattle.qs_types.specs.declared.types.CType.{CType}
use Rattle.qs_types.specs.Contexts.{base_type, starred_type, with_case, with_name}
use Rattle.qs_types.specs.Layout.{layout_of, sized_layout, with_members}
use Rattle.qs_types.specs.StructsOf.{member_tree}
use Rattle.qs_types.specs.TypeOf.{type_tree}
use Rattle.qs_types.specs.UnitRules.{with_option_tag, with_type_name}
use Rattle.qs_typing_findings.specs.declared.context.Context.{Context}
use Rattle.qs_typing_findings.specs.declared.entity.Entity.{Entity}
use Rattle.qs_typing_findings.specs.ContextOf.{context_tree, with_result, with_structs}
use Rattle.qs_typing_findings.specs.EntityOf.{entity_tree}
use Rattle.qs_typing_findings.specs.PartsOf.{option_type}

abbrev pub KnowsName : List ℕ → Entity → (before after : Context) → Type 0
KnowsName name entity before after = context_tree after ≡ with_name (context_tree before) name (entity_tree entity)

abbrev pub SetsResult : Option CType → (before after : Context) → Type 0
SetsResult to before after = context_tree after ≡ with_result (context_tree before) (option_type to)

-- whether a struct with these members, and each of them, has a size within the limit
abbrev pub IsSized : Context → List (List ℕ × CType) → Bool → Type 0
IsSized c members done = done ≡ is_some (sized_layout (layout_of (context_tree c).structs) (map type_tree (values_of members)))

-- the struct number k has these members, and a layout where it is sized
abbrev pub GivesMembers : (k : ℕ) → List (List ℕ × CType) → (done : Bool) → (before after : Context) → Type 0
GivesMembers k members done before after =
    context_tree after ≡ with_structs (context_tree before) (with_members done (context_tree before).structs k (map member_tree members))

-- a struct with this tag, or without one, is declared
abbrev pub KnowsStruct : Option (List ℕ) → (before after : Context) → Type 0
KnowsStruct tag before after = context_tree after ≡ with_option_tag (context_tree before) tag

abbrev pub KnowsTypeName : List ℕ → Option CType → (before after : Context) → Type 0
KnowsTypeName x t before after = context_tree after ≡ with_type_name (context_tree before) x (option_type t)

-- what is known behind a `case` of this value
abbrev pub KnowsCase : (value : Option ℕ) → (before after : Context) → Type 0
KnowsCase value before after = context_tree after ≡ with_case (context_tree before) value

abbrev pub IsBase : Context → Base → Option CType → Type 0
IsBase c base t = option_type t ≡ base_type (context_tree c) base

abbrev pub IsStarred : Context → Base → (stars : ℕ) → Option CType → Type 0
IsStarred c base stars t = option_type t ≡ starred_type (context_tree c) base stars
