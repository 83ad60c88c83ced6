-- What is promised of layouts, apart from how they are computed (C11 6.2.8, 6.7.2.1).
use Rattle.std.specs.Prelude.{◌≡◌, ◌≤◌, ◌<◌, ℕ, ◌+◌, ◌%◌, ◌⊎◌, List, Some, length}
use Rattle.std.specs.List.{slice_get}
use Rattle.qs_types.specs.declared.extent.Extent.{Extent}
use Rattle.qs_types.specs.Types.{TypeTree, MemberTree, Structs}
use Rattle.qs_types.specs.Layout.{StructLayout, layout_of, extent_of, extents_by, struct_of, member_types, rounded_up, size_limit}

-- the least multiple of the alignment that isn't below n
pub record IsLeastMultiple (alignment n r : ℕ) : Type 0 where
  pub multiple : r % alignment ≡ 0
  pub above : n ≤ r
  pub least : (m : ℕ) → m % alignment ≡ 0 → n ≤ m → r ≤ m

abbrev pub Rounds : Type 0
Rounds = (n alignment : ℕ) → 1 ≤ alignment → IsLeastMultiple alignment n (rounded_up n alignment)

-- the alignments that there are
abbrev pub IsAlignment : ℕ → Type 0
IsAlignment a = (a ≡ 1) ⊎ (a ≡ 4)

-- within the limits of sizes and alignments
pub record IsSmall (e : Extent) : Type 0 where
  pub positive : 1 ≤ e.alignment
  pub strictest : e.alignment ≤ 4
  pub size : e.size ≤ size_limit

-- the member number i takes this, and lies at this offset
pub record Lies (es : List Extent) (l : StructLayout) (i : ℕ) (e : Extent) (offset : ℕ) : Type 0 where
  pub takes : slice_get es i ≡ Some e
  pub stands : slice_get l.offsets i ≡ Some offset

-- how a struct with such members is laid out
pub record IsLaidOut (es : List Extent) (l : StructLayout) : Type 0 where
  -- each member has an offset, the first the offset 0
  pub every : length l.offsets ≡ length es
  pub first : (e : Extent) (at : ℕ) → Lies es l 0 e at → at ≡ 0
  -- it is a multiple of the member's alignment, and the least behind the member before it
  pub aligned : (i : ℕ) (e : Extent) (at : ℕ) → Lies es l i e at → at % e.alignment ≡ 0
  pub least : (i : ℕ) (e f : Extent) (at next n : ℕ) → Lies es l i e at → Lies es l (i + 1) f next → n % f.alignment ≡ 0 → at + e.size ≤ n → next ≤ n
  -- members lie in order and don't overlap
  pub apart : (i j : ℕ) (e f : Extent) (at behind : ℕ) → i < j → Lies es l i e at → Lies es l j f behind → at + e.size ≤ behind
  -- they lie in the struct
  pub within : (i : ℕ) (e : Extent) (at : ℕ) → Lies es l i e at → at + e.size ≤ l.size
  -- the struct is aligned as strictly as each member
  pub alignment : IsAlignment l.alignment
  pub strict : (i : ℕ) (e : Extent) → slice_get es i ≡ Some e → l.alignment % e.alignment ≡ 0
  -- its size is a multiple of its alignment, and the least that holds the members
  pub multiple : l.size % l.alignment ≡ 0
  pub tight : (n : ℕ) → n % l.alignment ≡ 0 → ((i : ℕ) (e : Extent) (at : ℕ) → Lies es l i e at → at + e.size ≤ n) → l.size ≤ n

-- a struct with such members is laid out as their types ask
pub record IsLaidOutFor (structs : Structs) (members : List MemberTree) (l : StructLayout) : Type 0 where
  pub extents : List Extent
  pub of_members : extents_by (layout_of structs) (member_types members) ≡ Some extents
  pub laid_out : IsLaidOut extents l

abbrev pub StructsLaidOut : Type 0
StructsLaidOut =
    (structs : Structs) (k : ℕ) (members : List MemberTree) (l : StructLayout) → struct_of structs k ≡ Some members → layout_of structs k ≡ Some l
    → IsLaidOutFor structs members l

-- each type's size is a multiple of its alignment: the elements of an array are aligned as the array is
pub record IsAligned (e : Extent) : Type 0 where
  pub alignment : IsAlignment e.alignment
  pub multiple : e.size % e.alignment ≡ 0

abbrev pub SizesAligned : Type 0
SizesAligned = (structs : Structs) (t : TypeTree) (e : Extent) → extent_of structs t ≡ Some e → IsAligned e
