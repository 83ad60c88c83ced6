-- The structs of a place are among those of the unit, where its members stay and there are no fewer with members.
use Rattle.std.proofs.Common.{ℕ, zero, suc, ◌+◌, ◌-◌, ◌≤◌, List, [], ◌∷◌, Some, arith}
use Rattle.qs_memory.specs.Memory.{zeros, repeated, joined}
use Rattle.qs_types.specs.declared.extent.Extent.{Extent}
use Rattle.qs_types.specs.Types.{TypeTree, int, unsigned, char, void, pointer, array, struct, MemberTree, Structs}
use Rattle.qs_types.specs.Layout.{Layouts, extent_by, extents_by, extent_of, size_of, array_extent, struct_extent, struct_layout, struct_of, member_types, members_layout, layouts_within, layout_of, defined_structs, sized_by, extent_within, size_within}
use Rattle.qs_meaning.specs.Blanks.{Blanks, blank_by, members_blank, struct_blank, blanks_within}
use Rattle.qs_typed_nodes.specs.Agrees.{Keeps, Grown}
use Rattle.qs_typed_nodes.proofs.KeptAgreement.{nothing, kept, then_kept, is_kept}

-- structs that have members keep them, and there are no fewer of them
pub record IsLater (old new : Structs) : Type 0 where
  pub members : (k : ℕ) → Keeps (struct_of old k) (struct_of new k)
  pub many : defined_structs old ≤ defined_structs new

-- ---- layouts

extent_kept : (l m : Layouts) → ((k : ℕ) → Keeps (l k) (m k)) → (t : TypeTree) → Keeps (extent_by l t) (extent_by m t)
extent_kept l m h int = λ x e. e
extent_kept l m h unsigned = λ x e. e
extent_kept l m h char = λ x e. e
extent_kept l m h void = λ x e. e
extent_kept l m h (pointer t) = λ x e. e
extent_kept l m h (array t n) =
    then_kept (extent_by l t) (extent_by m t) (λ e. Some (array_extent e n)) (λ e. Some (array_extent e n)) (extent_kept l m h t) (λ e. is_kept (Some (array_extent e n)))
extent_kept l m h (struct k) = then_kept (l k) (m k) (λ x. Some (struct_extent x)) (λ x. Some (struct_extent x)) (h k) (λ x. is_kept (Some (struct_extent x)))

extents_kept : (l m : Layouts) → ((k : ℕ) → Keeps (l k) (m k)) → (ts : List TypeTree) → Keeps (extents_by l ts) (extents_by m ts)
extents_kept l m h [] = λ x e. e
extents_kept l m h (t ∷ ts) =
    then_kept (extent_by l t) (extent_by m t) _ _ (extent_kept l m h t)
    (λ e. then_kept (extents_by l ts) (extents_by m ts) (λ es. Some (e ∷ es)) (λ es. Some (e ∷ es)) (extents_kept l m h ts) (λ es. is_kept (Some (e ∷ es))))

layouts_kept : (old new : Structs) → ((k : ℕ) → Keeps (struct_of old k) (struct_of new k)) → (d e : ℕ) → d ≤ e → (k : ℕ) → Keeps (layouts_within d old k) (layouts_within e new k)
layouts_kept old new h zero e le k = λ x p. nothing x p
layouts_kept old new h (suc d) zero le k = absurd (omega arith)
layouts_kept old new h (suc d) (suc e) le k =
    let less : d ≤ e = omega arith in
    then_kept (struct_of old k) (struct_of new k) (members_layout (layouts_within d old)) (members_layout (layouts_within e new)) (h k)
    (λ ms. then_kept (extents_by (layouts_within d old) (member_types ms)) (extents_by (layouts_within e new) (member_types ms)) (λ es. Some (struct_layout es)) (λ es. Some (struct_layout es))
    (extents_kept (layouts_within d old) (layouts_within e new) (layouts_kept old new h d e less) (member_types ms)) (λ es. is_kept (Some (struct_layout es))))

pub layout_kept : (old new : Structs) → IsLater old new → (k : ℕ) → Keeps (layout_of old k) (layout_of new k)
layout_kept old new h k = layouts_kept old new h.members (defined_structs old) (defined_structs new) h.many k

size_kept : (old new : Structs) → IsLater old new → (t : TypeTree) → Keeps (size_of old t) (size_of new t)
size_kept old new h t =
    then_kept (extent_of old t) (extent_of new t) (λ (e : Extent). Some e.size) (λ (e : Extent). Some e.size) (extent_kept (layout_of old) (layout_of new) (layout_kept old new h) t)
    (λ e. is_kept (Some e.size))

sized_kept : (l m : Layouts) → ((k : ℕ) → Keeps (l k) (m k)) → (t : TypeTree) → Keeps (sized_by l t) (sized_by m t)
sized_kept l m h int = λ x e. e
sized_kept l m h unsigned = λ x e. e
sized_kept l m h char = λ x e. e
sized_kept l m h void = λ x e. e
sized_kept l m h (pointer t) = λ x e. e
sized_kept l m h (array t n) =
    then_kept (sized_by l t) (sized_by m t) (λ e. extent_within (array_extent e n)) (λ e. extent_within (array_extent e n)) (sized_kept l m h t) (λ e. is_kept (extent_within (array_extent e n)))
sized_kept l m h (struct k) = then_kept (l k) (m k) (λ x. extent_within (struct_extent x)) (λ x. extent_within (struct_extent x)) (h k) (λ x. is_kept (extent_within (struct_extent x)))

pub size_within_kept : (old new : Structs) → ((k : ℕ) → Keeps (layout_of old k) (layout_of new k)) → (t : TypeTree) → Keeps (size_within old t) (size_within new t)
size_within_kept old new h t =
    then_kept (sized_by (layout_of old) t) (sized_by (layout_of new) t) (λ (e : Extent). Some e.size) (λ (e : Extent). Some e.size)
    (sized_kept (layout_of old) (layout_of new) h t) (λ e. is_kept (Some e.size))

-- ---- blanks

blank_kept : (l m : Blanks) → ((k : ℕ) → Keeps (l k) (m k)) → (t : TypeTree) → Keeps (blank_by l t) (blank_by m t)
blank_kept l m h int = λ x e. e
blank_kept l m h unsigned = λ x e. e
blank_kept l m h char = λ x e. e
blank_kept l m h void = λ x e. e
blank_kept l m h (pointer t) = λ x e. e
blank_kept l m h (array t n) = kept (blank_by l t) (blank_by m t) (λ b. Some (repeated n b)) (λ b. Some (repeated n b)) (blank_kept l m h t) (λ b. is_kept (Some (repeated n b)))
blank_kept l m h (struct k) = h k

members_kept : (old new : Structs) → IsLater old new → (l m : Blanks) → ((k : ℕ) → Keeps (l k) (m k)) → (at size : ℕ) (ms : List MemberTree) (offsets : List ℕ)
    → Keeps (members_blank old l at size ms offsets) (members_blank new m at size ms offsets)
members_kept old new h l m g at size [] offsets = λ x e. e
members_kept old new h l m g at size (a ∷ ms) [] = λ x e. e
members_kept old new h l m g at size (a ∷ ms) (offset ∷ offsets) =
    kept (blank_by l a.type) (blank_by m a.type) _ _ (blank_kept l m g a.type)
    (λ b. kept (size_of old a.type) (size_of new a.type) _ _ (size_kept old new h a.type)
    (λ n. kept (members_blank old l (offset + n) size ms offsets) (members_blank new m (offset + n) size ms offsets) (λ rest. Some (joined (zeros (offset - at)) (joined b rest)))
    (λ rest. Some (joined (zeros (offset - at)) (joined b rest))) (members_kept old new h l m g (offset + n) size ms offsets)
    (λ rest. is_kept (Some (joined (zeros (offset - at)) (joined b rest))))))

blanks_kept : (old new : Structs) → IsLater old new → (d e : ℕ) → d ≤ e → (k : ℕ) → Keeps (blanks_within d old k) (blanks_within e new k)
blanks_kept old new h zero e le k = λ x p. nothing x p
blanks_kept old new h (suc d) zero le k = absurd (omega arith)
blanks_kept old new h (suc d) (suc e) le k =
    let less : d ≤ e = omega arith in
    kept (struct_of old k) (struct_of new k) _ _ (h.members k)
    (λ ms. kept (layout_of old k) (layout_of new k) (struct_blank old (blanks_within d old) ms) (struct_blank new (blanks_within e new) ms) (layout_kept old new h k)
    (λ l. members_kept old new h (blanks_within d old) (blanks_within e new) (blanks_kept old new h d e less) 0 l.size ms l.offsets))

-- what is laid out stays so
pub grown : (old new : Structs) → IsLater old new → Grown old new
grown old new h = record {
  extents = extent_kept (layout_of old) (layout_of new) (layout_kept old new h);
  members = h.members;
  layouts = layout_kept old new h;
  blanks = blank_kept (blanks_within (defined_structs old) old) (blanks_within (defined_structs new) new) (blanks_kept old new h (defined_structs old) (defined_structs new) h.many);
}
