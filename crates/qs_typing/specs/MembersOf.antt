-- The members before a place of a struct in code, as the definitions see them.
use Rattle.std.specs.Prelude.{◌≡◌, ℕ, true, List, [], ◌∷◌, ◌++◌, Option, map, option_map, if◌then◌else◌}
use Rattle.qs_types.specs.Types.{TypeTree, Structs}
use Rattle.qs_types.specs.Layout.{layout_of, sized_by}
use Rattle.qs_types.specs.StructsOf.{member_tree}
use Rattle.qs_types.specs.EnvOf.{env_tree}
use Rattle.qs_types.specs.TypeOf.{type_tree}
use Rattle.qs_types.specs.UnitRules.{Before, has_room, option_extent, with_member, with_name_once, is_member, end_behind}
use Rattle.qs_types.specs.declared.env.Env.{Env}
use Rattle.qs_types.specs.declared.types.CType.{CType}
use Rattle.qs_typing.specs.declared.members_before.MembersBefore.{MembersBefore}

abbrev pub before_tree : MembersBefore → Before
before_tree b = record { names = b.names.keys; members = map member_tree b.members.entries; end = b.end }

abbrev pub with_name_only : Before → List ℕ → Before
with_name_only before x = record before { names = with_name_once before.names x }

-- where the name is among those of the members before
abbrev pub with_member_only : Structs → Before → List ℕ → TypeTree → Before
with_member_only structs before x t = record before {
  members = if is_member x before.members then before.members else before.members ++ record { name = x; type = t } ∷ [];
  end = if is_member x before.members then before.end else end_behind before.end (sized_by (layout_of structs) t);
}

-- ---- how members are added

-- a member of this type has room behind the others
abbrev pub HasRoomFor : Env → Option CType → MembersBefore → Type 0
HasRoomFor structs t before = has_room before.end (option_extent (env_tree structs) (option_map type_tree t)) ≡ true

abbrev pub AddsName : List ℕ → (before after : MembersBefore) → Type 0
AddsName x before after = before_tree after ≡ with_name_only (before_tree before) x

abbrev pub AddsMember : Env → List ℕ → Option CType → (before after : MembersBefore) → Type 0
AddsMember structs x t before after =
    before_tree after ≡ with_member (env_tree structs) (before_tree before) x (option_map type_tree t)

-- one with a type, whose name is added already
abbrev pub AddsTyped : Env → List ℕ → CType → (before after : MembersBefore) → Type 0
AddsTyped structs x t before after = before_tree after ≡ with_member_only (env_tree structs) (before_tree before) x (type_tree t)
