-- Sizes, alignments and the offsets of members (C11 6.2.8, 6.5.3.4, 6.7.2.1).
use Rattle.std.specs.Prelude.{ℕ, zero, suc, ◌+◌, ◌-◌, ◌*◌, ◌/◌, max, nat_le, Bool, List, [], ◌∷◌, Option, Some, None, is_some, map, slice_set, if◌then◌else◌}
use Rattle.std.specs.List.{slice_get}
use Rattle.std.specs.Option.{option_and_then}
use Rattle.qs_types.specs.declared.extent.Extent.{Extent}
use Rattle.qs_types.specs.Types.{TypeTree, int, unsigned, char, void, pointer, array, struct, MemberTree, StructTree, Structs}

-- std's `option_and_then`, with the value first, as it reads
abbrev pub and_then : {A B : Type 0} → Option A → (A → Option B) → Option B
and_then o go = option_and_then go o

-- where the members of a struct lie, in their order, and the struct's own size and alignment
pub record StructLayout : Type 0 where
  pub offsets : List ℕ
  pub size : ℕ
  pub alignment : ℕ

-- ---- types, where the layouts of structs are known

-- the layout of the struct with this number, where it has one
abbrev pub Layouts : Type 0
Layouts = ℕ → Option StructLayout

-- a scalar is aligned as its size
abbrev pub scalar_extent : ℕ → Extent
scalar_extent size = record { size = size; alignment = size }

-- 6.5.3.4p4 and 6.2.8: an array takes the room of all its elements, and is aligned as they are
abbrev pub array_extent : Extent → ℕ → Extent
array_extent element length = record { size = element.size * length; alignment = element.alignment }

abbrev pub struct_extent : StructLayout → Extent
struct_extent layout = record { size = layout.size; alignment = layout.alignment }

-- 6.2.5p19, p22: None for an incomplete type
abbrev pub extent_by : Layouts → TypeTree → Option Extent
extent_by layouts int = Some (scalar_extent 4)
extent_by layouts unsigned = Some (scalar_extent 4)
extent_by layouts char = Some (scalar_extent 1)
extent_by layouts void = None
extent_by layouts (pointer t) = Some (scalar_extent 4)
extent_by layouts (array t n) = and_then (extent_by layouts t) (λ element. Some (array_extent element n))
extent_by layouts (struct k) = and_then (layouts k) (λ l. Some (struct_extent l))

abbrev pub extents_by : Layouts → List TypeTree → Option (List Extent)
extents_by layouts [] = Some []
extents_by layouts (t ∷ ts) = and_then (extent_by layouts t) (λ e. and_then (extents_by layouts ts) (λ es. Some (e ∷ es)))

-- ---- structs (6.7.2.1)

-- the least multiple of the alignment that isn't below n
abbrev pub rounded_up : (n alignment : ℕ) → ℕ
rounded_up n alignment = (n + (alignment - 1)) / alignment * alignment

-- 6.7.2.1p15: members lie in order, each at the least aligned offset behind the one before it
abbrev pub offsets_from : (start : ℕ) → List Extent → List ℕ
offsets_from start [] = []
offsets_from start (m ∷ ms) = rounded_up start m.alignment ∷ offsets_from (rounded_up start m.alignment + m.size) ms

-- where the last member ends
abbrev pub end_from : (start : ℕ) → List Extent → ℕ
end_from start [] = start
end_from start (m ∷ ms) = end_from (rounded_up start m.alignment + m.size) ms

-- 6.2.8: a struct is aligned as the strictest of its members
abbrev pub strictest : List Extent → ℕ
strictest [] = 1
strictest (m ∷ ms) = max m.alignment (strictest ms)

-- 6.7.2.1p17: padding at the end makes the size a multiple of the alignment
abbrev pub struct_layout : List Extent → StructLayout
struct_layout ms = record {
  offsets = offsets_from 0 ms;
  size = rounded_up (end_from 0 ms) (strictest ms);
  alignment = strictest ms;
}

-- ---- the structs of a unit

abbrev pub member_types : List MemberTree → List TypeTree
member_types = map (λ m. m.type)

abbrev pub struct_of : Structs → ℕ → StructTree
struct_of structs k = and_then (slice_get structs k) (λ s. s)

abbrev pub members_layout : Layouts → List MemberTree → Option StructLayout
members_layout layouts ms = and_then (extents_by layouts (member_types ms)) (λ es. Some (struct_layout es))

-- the layouts of structs that have structs in them at most this deep
abbrev pub layouts_within : (depth : ℕ) → Structs → Layouts
layouts_within zero structs k = None
layouts_within (suc depth) structs k = and_then (struct_of structs k) (members_layout (layouts_within depth structs))

-- how many structs have members
abbrev pub defined_structs : Structs → ℕ
defined_structs [] = 0
defined_structs (None ∷ structs) = defined_structs structs
defined_structs (Some members ∷ structs) = suc (defined_structs structs)

-- structs are in one another at most as deep as there are structs with members
abbrev pub layout_of : Structs → Layouts
layout_of structs = layouts_within (defined_structs structs) structs

abbrev pub extent_of : Structs → TypeTree → Option Extent
extent_of structs = extent_by (layout_of structs)

-- 6.5.3.4p2
abbrev pub size_of : Structs → TypeTree → Option ℕ
size_of structs t = and_then (extent_of structs t) (λ e. Some e.size)

-- 6.5.3.4p3
abbrev pub alignment_of : Structs → TypeTree → Option ℕ
alignment_of structs t = and_then (extent_of structs t) (λ e. Some e.alignment)

-- the offset of the member with this number in the struct with this number
abbrev pub offset_of : Structs → (k member : ℕ) → Option ℕ
offset_of structs k member = and_then (layout_of structs k) (λ l. slice_get l.offsets member)

-- 6.2.5p1
abbrev pub is_complete : Structs → TypeTree → Bool
is_complete structs t = is_some (extent_of structs t)

-- ---- the limit of sizes

abbrev pub size_limit : ℕ
size_limit = 16777216

abbrev pub extent_within : Extent → Option Extent
extent_within e = if nat_le e.size size_limit then Some e else None

abbrev pub layout_within : StructLayout → Option StructLayout
layout_within l = if nat_le l.size size_limit then Some l else None

-- the extent of a type that is complete where neither it nor an element of it is larger than the limit
abbrev pub sized_by : Layouts → TypeTree → Option Extent
sized_by layouts int = Some (scalar_extent 4)
sized_by layouts unsigned = Some (scalar_extent 4)
sized_by layouts char = Some (scalar_extent 1)
sized_by layouts void = None
sized_by layouts (pointer t) = Some (scalar_extent 4)
sized_by layouts (array t n) = and_then (sized_by layouts t) (λ element. extent_within (array_extent element n))
sized_by layouts (struct k) = and_then (layouts k) (λ l. extent_within (struct_extent l))

-- the size of a type that is within the limit
abbrev pub size_within : Structs → TypeTree → Option ℕ
size_within structs t = and_then (sized_by (layout_of structs) t) (λ e. Some e.size)

abbrev pub all_sized_by : Layouts → List TypeTree → Option (List Extent)
all_sized_by layouts [] = Some []
all_sized_by layouts (t ∷ ts) = and_then (sized_by layouts t) (λ e. and_then (all_sized_by layouts ts) (λ es. Some (e ∷ es)))

-- the layout of a struct with members of these types, where each of them and the whole are within the limit
abbrev pub sized_layout : Layouts → List TypeTree → Option StructLayout
sized_layout layouts ts = and_then (all_sized_by layouts ts) (λ es. layout_within (struct_layout es))

abbrev pub is_sized : Structs → TypeTree → Bool
is_sized structs t = is_some (sized_by (layout_of structs) t)

-- the structs where the one with this number gets these members, if it may
abbrev pub with_members : Bool → Structs → ℕ → List MemberTree → Structs
with_members may structs k members = if may then slice_set structs k (Some members) else structs
