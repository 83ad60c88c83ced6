-- The extents of types are aligned, and layouts stay where structs are added or given members.
use Rattle.std.proofs.Common.{◌≡◌, ◌≤◌, inl, inr, ℕ, zero, suc, ◌*◌, ◌%◌, nat_le, List, [], ◌∷◌, Option, Some, None, IfSome, refl, sym, ap, ◌∙◌, subst, arith}
use Rattle.std.proofs.lemmas.Nat.{mul-mod}
use Rattle.std.proofs.lemmas.Option.{same_Some}
use Rattle.qs_types.specs.declared.extent.Extent.{Extent}
use Rattle.qs_types.specs.Types.{TypeTree, int, unsigned, char, void, pointer, array, struct, MemberTree, Structs}
use Rattle.qs_types.specs.Layout.{and_then, Layouts, StructLayout, extent_by, extents_by, scalar_extent, array_extent, struct_extent, extent_within, struct_layout, members_layout, member_types, struct_of, layouts_within, layout_of, extent_of, size_of, alignment_of, sized_by, defined_structs, size_limit}
use Rattle.qs_types.specs.LayoutLaws.{IsAlignment, IsAligned, IsLaidOut, IsSmall, SizesAligned, StructsLaidOut}
use Rattle.qs_types.proofs.Options.{nothing, went, goes, passed}
use Rattle.qs_types.proofs.Layouts.{Aligned, lays_out}

abbrev pub AlignedLayouts : Layouts → Type 0
AlignedLayouts layouts = (k : ℕ) (l : StructLayout) → layouts k ≡ Some l → IsAligned (struct_extent l)

four : IsAligned (scalar_extent 4)
four = record { alignment = inr refl; multiple = refl }

one : IsAligned (scalar_extent 1)
one = record { alignment = inl refl; multiple = refl }

times : (size n a : ℕ) → size % a ≡ 0 → (size * n) % a ≡ 0
times size n a e = mul-mod size n a ∙ (ap (λ x. (x * (n % a)) % a) e ∙ zero_times (n % a) a)
  where
    zero_times : (m a : ℕ) → (0 * m) % a ≡ 0
    zero_times m a = ap (λ x. x % a) (none m) ∙ low a
      where
        none : (m : ℕ) → 0 * m ≡ 0
        none m = omega arith

        low : (a : ℕ) → 0 % a ≡ 0
        low a = grind arith

extent_aligned : (layouts : Layouts) → AlignedLayouts layouts → (t : TypeTree) (e : Extent) → extent_by layouts t ≡ Some e → IsAligned e
extent_aligned layouts h int e p = subst IsAligned (same_Some (scalar_extent 4) e p) four
extent_aligned layouts h unsigned e p = subst IsAligned (same_Some (scalar_extent 4) e p) four
extent_aligned layouts h char e p = subst IsAligned (same_Some (scalar_extent 1) e p) one
extent_aligned layouts h void e p = nothing e p
extent_aligned layouts h (pointer t) e p = subst IsAligned (same_Some (scalar_extent 4) e p) four
extent_aligned layouts h (array t n) e p =
    let w = went (extent_by layouts t) (λ element. Some (array_extent element n)) e p in
    let k = extent_aligned layouts h t w.value w.had in
    subst IsAligned (same_Some (array_extent w.value n) e w.gave) (record { alignment = k.alignment; multiple = times w.value.size n w.value.alignment k.multiple })
extent_aligned layouts h (struct k) e p =
    let w = went (layouts k) (λ l. Some (struct_extent l)) e p in
    subst IsAligned (same_Some (struct_extent w.value) e w.gave) (h k w.value w.had)

none_aligned : Aligned []
none_aligned i e p = nothing e p

one_more : (e : Extent) (es : List Extent) → IsAlignment e.alignment → Aligned es → Aligned (e ∷ es)
one_more e es h hs zero f p = subst (λ (z : Extent). IsAlignment z.alignment) (same_Some e f p) h
one_more e es h hs (suc i) f p = hs i f p

pub extents_aligned : (layouts : Layouts) → AlignedLayouts layouts → (ts : List TypeTree) (es : List Extent) → extents_by layouts ts ≡ Some es → Aligned es
extents_aligned layouts h [] es p = subst Aligned (same_Some [] es p) none_aligned
extents_aligned layouts h (t ∷ ts) es p =
    let w = went (extent_by layouts t) (λ e. and_then (extents_by layouts ts) (λ es. Some (e ∷ es))) es p in
    let r = went (extents_by layouts ts) (λ es. Some (w.value ∷ es)) es w.gave in
    subst Aligned (same_Some (w.value ∷ r.value) es r.gave)
    (one_more w.value r.value (extent_aligned layouts h t w.value w.had).alignment (extents_aligned layouts h ts r.value r.had))

layout_aligned : (es : List Extent) → Aligned es → IsAligned (struct_extent (struct_layout es))
layout_aligned es h = let l = lays_out es h in record { alignment = l.alignment; multiple = l.multiple }

pub layouts_aligned : (depth : ℕ) (structs : Structs) → AlignedLayouts (layouts_within depth structs)
layouts_aligned zero structs k l p = nothing l p
layouts_aligned (suc depth) structs k l p =
    let m = went (struct_of structs k) (members_layout (layouts_within depth structs)) l p in
    let w = went (extents_by (layouts_within depth structs) (member_types m.value)) (λ es. Some (struct_layout es)) l m.gave in
    subst (λ l. IsAligned (struct_extent l)) (same_Some (struct_layout w.value) l w.gave)
    (layout_aligned w.value (extents_aligned (layouts_within depth structs) (layouts_aligned depth structs) (member_types m.value) w.value w.had))

pub sizes_aligned : SizesAligned
sizes_aligned structs t e p = extent_aligned (layout_of structs) (layouts_aligned (defined_structs structs) structs) t e p

-- ---- layouts stay where more is known

abbrev Keeps : (less more : Layouts) → Type 0
Keeps less more = (k : ℕ) (l : StructLayout) → less k ≡ Some l → more k ≡ Some l

extent_kept : (less more : Layouts) → Keeps less more → (t : TypeTree) (e : Extent) → extent_by less t ≡ Some e → extent_by more t ≡ Some e
extent_kept less more h int e p = p
extent_kept less more h unsigned e p = p
extent_kept less more h char e p = p
extent_kept less more h void e p = p
extent_kept less more h (pointer t) e p = p
extent_kept less more h (array t n) e p =
    let w = went (extent_by less t) (λ element. Some (array_extent element n)) e p in
    goes (extent_by more t) w.value (λ element. Some (array_extent element n)) (Some e) (extent_kept less more h t w.value w.had) w.gave
extent_kept less more h (struct k) e p =
    let w = went (less k) (λ l. Some (struct_extent l)) e p in
    goes (more k) w.value (λ l. Some (struct_extent l)) (Some e) (h k w.value w.had) w.gave

extents_kept : (less more : Layouts) → Keeps less more → (ts : List TypeTree) (es : List Extent) → extents_by less ts ≡ Some es → extents_by more ts ≡ Some es
extents_kept less more h [] es p = p
extents_kept less more h (t ∷ ts) es p =
    let w = went (extent_by less t) (λ e. and_then (extents_by less ts) (λ es. Some (e ∷ es))) es p in
    let r = went (extents_by less ts) (λ es. Some (w.value ∷ es)) es w.gave in
    goes (extent_by more t) w.value (λ e. and_then (extents_by more ts) (λ es. Some (e ∷ es))) (Some es) (extent_kept less more h t w.value w.had)
    (goes (extents_by more ts) r.value (λ es. Some (w.value ∷ es)) (Some es) (extents_kept less more h ts r.value r.had) r.gave)

pub layout_kept : (less more : Layouts) → Keeps less more → (ms : List MemberTree) (l : StructLayout) → members_layout less ms ≡ Some l → members_layout more ms ≡ Some l
layout_kept less more h ms l p =
    let w = went (extents_by less (member_types ms)) (λ es. Some (struct_layout es)) l p in
    goes (extents_by more (member_types ms)) w.value (λ es. Some (struct_layout es)) (Some l) (extents_kept less more h (member_types ms) w.value w.had) w.gave

-- the second have the members of the first
abbrev pub Extends : (structs more : Structs) → Type 0
Extends structs more = (k : ℕ) (ms : List MemberTree) → struct_of structs k ≡ Some ms → struct_of more k ≡ Some ms

pub layouts_kept : (depth deeper : ℕ) → depth ≤ deeper → (structs more : Structs) → Extends structs more → Keeps (layouts_within depth structs) (layouts_within deeper more)
layouts_kept zero deeper le structs more h k l p = nothing l p
layouts_kept (suc depth) zero le structs more h k l p = absurd (omega arith)
layouts_kept (suc depth) (suc deeper) le structs more h k l p =
    let m = went (struct_of structs k) (members_layout (layouts_within depth structs)) l p in
    goes (struct_of more k) m.value (members_layout (layouts_within deeper more)) (Some l) (h k m.value m.had)
    (layout_kept (layouts_within depth structs) (layouts_within deeper more) (layouts_kept depth deeper (omega arith) structs more h) m.value l m.gave)

-- ---- each struct is laid out as the types of its members ask

members_of_layout : (depth : ℕ) (structs : Structs) (k : ℕ) (ms : List MemberTree) (l : StructLayout) → struct_of structs k ≡ Some ms → layouts_within depth structs k ≡ Some l → members_layout (layouts_within depth structs) ms ≡ Some l
members_of_layout zero structs k ms l m p = nothing l p
members_of_layout (suc depth) structs k ms l m p =
    let w = went (struct_of structs k) (members_layout (layouts_within depth structs)) l p in
    layout_kept (layouts_within depth structs) (layouts_within (suc depth) structs) (layouts_kept depth (suc depth) (omega arith) structs structs (λ k ms e. e)) ms l
    (ap (members_layout (layouts_within depth structs)) (same_Some ms w.value (sym m ∙ w.had)) ∙ w.gave)

pub structs_laid_out : StructsLaidOut
structs_laid_out structs k ms l m p =
    let w = went (extents_by (layout_of structs) (member_types ms)) (λ es. Some (struct_layout es)) l (members_of_layout (defined_structs structs) structs k ms l m p) in
    let aligned = extents_aligned (layout_of structs) (layouts_aligned (defined_structs structs) structs) (member_types ms) w.value w.had in
    record {
      extents = w.value;
      of_members = w.had;
      laid_out = subst (λ l. IsLaidOut w.value l) (same_Some (struct_layout w.value) l w.gave) (lays_out w.value aligned);
    }

-- ---- within the limit

pub sized_is : (layouts : Layouts) (t : TypeTree) (e : Extent) → sized_by layouts t ≡ Some e → extent_by layouts t ≡ Some e
sized_is layouts int e p = p
sized_is layouts unsigned e p = p
sized_is layouts char e p = p
sized_is layouts void e p = p
sized_is layouts (pointer t) e p = p
sized_is layouts (array t n) e p =
    let w = went (sized_by layouts t) (λ element. extent_within (array_extent element n)) e p in
    let k = passed (nat_le (array_extent w.value n).size size_limit) (array_extent w.value n) e w.gave in
    goes (extent_by layouts t) w.value (λ element. Some (array_extent element n)) (Some e) (sized_is layouts t w.value w.had) (ap Some k.is)
sized_is layouts (struct k) e p =
    let w = went (layouts k) (λ l. extent_within (struct_extent l)) e p in
    let q = passed (nat_le (struct_extent w.value).size size_limit) (struct_extent w.value) e w.gave in
    goes (layouts k) w.value (λ l. Some (struct_extent l)) (Some e) w.had (ap Some q.is)

size_within : (e f : Extent) → extent_within e ≡ Some f → f.size ≤ size_limit
size_within e f p =
    let k = passed (nat_le e.size size_limit) e f p in
    let t = k.test in
    subst (λ (z : Extent). z.size ≤ size_limit) k.is (grind arith)

sized_small : (layouts : Layouts) (t : TypeTree) (e : Extent) → sized_by layouts t ≡ Some e → e.size ≤ size_limit
sized_small layouts int e p = let s = ap (λ (e : Extent). e.size) (same_Some (scalar_extent 4) e p) in omega arith
sized_small layouts unsigned e p = let s = ap (λ (e : Extent). e.size) (same_Some (scalar_extent 4) e p) in omega arith
sized_small layouts char e p = let s = ap (λ (e : Extent). e.size) (same_Some (scalar_extent 1) e p) in omega arith
sized_small layouts void e p = nothing e p
sized_small layouts (pointer t) e p = let s = ap (λ (e : Extent). e.size) (same_Some (scalar_extent 4) e p) in omega arith
sized_small layouts (array t n) e p =
    let w = went (sized_by layouts t) (λ element. extent_within (array_extent element n)) e p in
    size_within (array_extent w.value n) e w.gave
sized_small layouts (struct k) e p =
    let w = went (layouts k) (λ l. extent_within (struct_extent l)) e p in
    size_within (struct_extent w.value) e w.gave

small : (structs : Structs) (t : TypeTree) (e : Extent) → sized_by (layout_of structs) t ≡ Some e → IsSmall e
small structs t e p = go (sizes_aligned structs t e (sized_is (layout_of structs) t e p)).alignment (sized_small (layout_of structs) t e p)
  where
    go : IsAlignment e.alignment → e.size ≤ size_limit → IsSmall e
    go (inl a) s = record { positive = omega arith; strictest = omega arith; size = s }
    go (inr a) s = record { positive = omega arith; strictest = omega arith; size = s }

pub small_if : (structs : Structs) (t : TypeTree) (o : Option Extent) → o ≡ sized_by (layout_of structs) t → IfSome o IsSmall
small_if structs t None p = tt
small_if structs t (Some e) p = small structs t e (sym p)

pub small_struct : (structs : Structs) (k : ℕ) (l : StructLayout) (o : Option Extent) → layout_of structs k ≡ Some l → o ≡ extent_within (struct_extent l) → IfSome o IsSmall
small_struct structs k l o p e = small_if structs (struct k) o (e ∙ sym (ap (λ x. and_then x (λ l. extent_within (struct_extent l))) p))

pub unit_layouts_aligned : (structs : Structs) → AlignedLayouts (layout_of structs)
unit_layouts_aligned structs = layouts_aligned (defined_structs structs) structs

pub sized_size : (structs : Structs) (t : TypeTree) (e : Extent) (o : Option Extent) → o ≡ sized_by (layout_of structs) t → o ≡ Some e → size_of structs t ≡ Some e.size
sized_size structs t e o p q = goes (extent_of structs t) e (λ (e : Extent). Some e.size) (Some e.size) (sized_is (layout_of structs) t e (sym p ∙ q)) refl

pub sized_alignment : (structs : Structs) (t : TypeTree) (e : Extent) (o : Option Extent) → o ≡ sized_by (layout_of structs) t → o ≡ Some e → alignment_of structs t ≡ Some e.alignment
sized_alignment structs t e o p q = goes (extent_of structs t) e (λ (e : Extent). Some e.alignment) (Some e.alignment) (sized_is (layout_of structs) t e (sym p ∙ q)) refl
