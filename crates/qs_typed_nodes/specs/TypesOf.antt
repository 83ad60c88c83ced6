-- The pure types, members and blanks that those in code stand for.
use Rattle.std.specs.Prelude.{ℕ, List, Option, map, option_map, Vec}
use Rattle.std.specs.Borrow.{Bor}
use Rattle.std.specs.declared.alloc.Global.{Global}
use Rattle.indexmap.specs.IndexMap.{IndexMap}
use Rattle.qs_memory.specs.BlankOf.{blank_tree, joined_of}
use Rattle.qs_memory.specs.Memory.{BlankTree}
use Rattle.qs_memory.specs.declared.blank.Blank.{Blank}
use Rattle.qs_types.specs.EnvOf.{env_tree}
use Rattle.qs_types.specs.StructsOf.{member_tree}
use Rattle.qs_types.specs.TypeOf.{type_tree}
use Rattle.qs_types.specs.Types.{MemberTree, TypeTree}
use Rattle.qs_types.specs.declared.env.Env.{Env}
use Rattle.qs_types.specs.declared.structs.StructLayout.{StructLayout}
use Rattle.qs_types.specs.declared.types.CType.{CType}
use Rattle.qs_meaning.specs.Blanks.{Blanks, blanks_within, members_blank}

abbrev pub types_tree : List (Option CType) → List (Option TypeTree)
types_tree types = map (option_map type_tree) types

-- of a type that is lent
abbrev pub lent_type : Bor CType → TypeTree
lent_type t = type_tree t.now

abbrev pub members_tree : {S : Type 0} → IndexMap (List ℕ) CType S → List MemberTree
members_tree members = map member_tree members.entries

-- ---- what structs hold where nothing else is given

-- of structs that nest at most so deep
abbrev pub blanks_in : (depth : ℕ) → Env → Blanks
blanks_in depth env = blanks_within depth (env_tree env)

-- of a struct with these members and this layout
abbrev pub blank_in : {S : Type 0} → (depth : ℕ) → Env → IndexMap (List ℕ) CType S → StructLayout → Option BlankTree
blank_in depth env members layout =
    members_blank (env_tree env) (blanks_in depth env) 0 layout.size (members_tree members) layout.offsets.items

-- parts one behind the other
abbrev pub joined_tree : Vec Blank Global → BlankTree
joined_tree parts = joined_of (map blank_tree parts.items)
