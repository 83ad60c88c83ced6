-- How structs in code are laid out and get their members, as the definitions say.
use Rattle.std.specs.Prelude.{◌≡◌, ℕ, Bool, List, Option, is_some, map, option_map}
use Rattle.std.specs.Map.{values_of}
use Rattle.qs_types.specs.declared.env.Env.{Env}
use Rattle.qs_types.specs.declared.structs.StructLayout.{StructLayout}
use Rattle.qs_types.specs.declared.types.CType.{CType}
use Rattle.qs_types.specs.EnvOf.{env_tree}
use Rattle.qs_types.specs.Layout.{layout_of, layout_within, sized_layout, with_members}
use Rattle.qs_types.specs.StructsOf.{layout_tree, member_tree}
use Rattle.qs_types.specs.TypeOf.{type_tree}

abbrev pub Members : Type 0
Members = List (List ℕ × CType)

-- the layout of a struct with these members, where each of them and the whole have a size within the limit
abbrev pub IsLaidOut : Env → Members → Option StructLayout → Type 0
IsLaidOut env members layout =
    option_map layout_tree layout ≡ sized_layout (layout_of (env_tree env)) (map type_tree (values_of members))

-- the same, where the members have these offsets
abbrev pub IsWhole : (offsets : List ℕ) → (size alignment : ℕ) → Option StructLayout → Type 0
IsWhole offsets size alignment layout =
    option_map layout_tree layout ≡ layout_within (record { offsets = offsets; size = size; alignment = alignment })

-- whether there is such a layout
abbrev pub IsSized : Env → Members → Bool → Type 0
IsSized env members done = done ≡ is_some (sized_layout (layout_of (env_tree env)) (map type_tree (values_of members)))

-- the struct number k gets these members, and a layout where there is one
abbrev pub GivesMembers : (k : ℕ) → Members → (done : Bool) → (before after : Env) → Type 0
GivesMembers k members done before after = env_tree after ≡ with_members done (env_tree before) k (map member_tree members)
