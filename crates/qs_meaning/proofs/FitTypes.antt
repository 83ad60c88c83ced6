-- Sizes, alignments and offsets of types whose arrays have elements and are within the limit of sizes.
use Rattle.std.proofs.Common.{◌≡◌, ◌≤◌, ℕ, zero, suc, ◌+◌, ◌-◌, ◌*◌, nat_le, max, Bool, true, false, ◌&&◌, List, [], ◌∷◌, Some, None, refl, sym, ap, ◌∙◌, subst, arith, if◌then◌else◌, leb-true, le-leb}
use Rattle.std.specs.List.{slice_get, list_all}
use Rattle.std.proofs.lemmas.Bool.Decides.{nat_tests}
use Rattle.std.proofs.lemmas.Nat.{mod_below, div-add-mod'}
use Rattle.std.proofs.Math.Nat.{mul-le-mul_left, mul-le-mul_right}
use Rattle.std.proofs.lemmas.Bool.{and_from}
use Rattle.std.specs.Cmp.{first_so, second_so}
use Rattle.std.proofs.lemmas.Option.{same_Some}
use Rattle.qs_base.specs.Bytes.{same_bytes}
use Rattle.qs_types.specs.declared.extent.Extent.{Extent}
use Rattle.qs_types.specs.Types.{TypeTree, int, unsigned, char, void, pointer, array, struct, MemberTree, Structs, referenced}
use Rattle.qs_types.specs.Layout.{and_then, StructLayout, Layouts, array_extent, struct_extent, extent_by, extents_by, rounded_up, offsets_from, end_from, strictest, struct_layout, member_types, struct_of, members_layout, layouts_within, defined_structs, layout_of, extent_of, size_of, offset_of, size_limit, extent_within, sized_by, is_sized}
use Rattle.qs_types.specs.Conversions.{decayed}
use Rattle.qs_types.specs.Expressions.{member_in, member_type}
use Rattle.qs_memory.specs.Sizes.{largest_size}
use Rattle.qs_memory.proofs.Options.{followed}
use Rattle.qs_meaning.specs.Expressions.{member_number, member_offset}
use Rattle.qs_meaning.proofs.Options.{nothing, went, Known, known}
use Rattle.qs_meaning.proofs.FitConversions.{Elements}
use Rattle.qs_types.specs.Contexts.{TypeNames, type_in}

-- ---- alignments

abbrev pub PositiveLayouts : Layouts → Type 0
PositiveLayouts layouts = (k : ℕ) (l : StructLayout) → layouts k ≡ Some l → 1 ≤ l.alignment

abbrev pub AllPositive : List Extent → Type 0
AllPositive [] = Unit {0}
AllPositive (e ∷ es) = (1 ≤ e.alignment) × AllPositive es

one_four : 1 ≤ 4
one_four = omega arith

one_one : 1 ≤ 1
one_one = omega arith

extent_positive : (layouts : Layouts) → PositiveLayouts layouts → (t : TypeTree) (e : Extent) → extent_by layouts t ≡ Some e → 1 ≤ e.alignment
extent_positive layouts h int e p = subst (λ (z : Extent). 1 ≤ z.alignment) (same_Some _ e p) one_four
extent_positive layouts h unsigned e p = subst (λ (z : Extent). 1 ≤ z.alignment) (same_Some _ e p) one_four
extent_positive layouts h char e p = subst (λ (z : Extent). 1 ≤ z.alignment) (same_Some _ e p) one_one
extent_positive layouts h void e p = nothing e p
extent_positive layouts h (pointer t) e p = subst (λ (z : Extent). 1 ≤ z.alignment) (same_Some _ e p) one_four
extent_positive layouts h (array t n) e p =
    let w = went (extent_by layouts t) (λ element. Some (array_extent element n)) e p in
    subst (λ (z : Extent). 1 ≤ z.alignment) (same_Some _ e w.gave) (extent_positive layouts h t w.value w.had)
extent_positive layouts h (struct k) e p =
    let w = went (layouts k) (λ l. Some (struct_extent l)) e p in
    subst (λ (z : Extent). 1 ≤ z.alignment) (same_Some _ e w.gave) (h k w.value w.had)

pub extents_positive : (layouts : Layouts) → PositiveLayouts layouts → (ts : List TypeTree) (es : List Extent) → extents_by layouts ts ≡ Some es → AllPositive es
extents_positive layouts h [] es p = subst AllPositive (same_Some [] es p) tt
extents_positive layouts h (t ∷ ts) es p =
    let w = went (extent_by layouts t) (λ e. and_then (extents_by layouts ts) (λ es. Some (e ∷ es))) es p in
    let r = went (extents_by layouts ts) (λ es. Some (w.value ∷ es)) es w.gave in
    subst AllPositive (same_Some _ es r.gave) (extent_positive layouts h t w.value w.had, extents_positive layouts h ts r.value r.had)

greater : (a b : ℕ) → 1 ≤ b → 1 ≤ max a b
greater a b h = grind arith

strict : (es : List Extent) → 1 ≤ strictest es
strict [] = one_one
strict (e ∷ es) = greater e.alignment (strictest es) (strict es)

-- how the struct with this number is laid out
pub record LaidAs (structs : Structs) (bound k : ℕ) (l : StructLayout) : Type 0 where
  pub members : List MemberTree
  pub of : struct_of structs k ≡ Some members
  pub depth : ℕ
  pub below : depth ≤ bound
  pub extents : List Extent
  pub are : extents_by (layouts_within depth structs) (member_types members) ≡ Some extents
  pub is : struct_layout extents ≡ l

pub laid_as : (structs : Structs) (depth k : ℕ) (l : StructLayout) → layouts_within depth structs k ≡ Some l → LaidAs structs depth k l
laid_as structs zero k l p = nothing l p
laid_as structs (suc depth) k l p =
    let m = went (struct_of structs k) (members_layout (layouts_within depth structs)) l p in
    let w = went (extents_by (layouts_within depth structs) (member_types m.value)) (λ es. Some (struct_layout es)) l m.gave in
    record { members = m.value; of = m.had; depth = depth; below = omega arith; extents = w.value; are = w.had; is = same_Some _ l w.gave }

pub layouts_positive : (depth : ℕ) (structs : Structs) → PositiveLayouts (layouts_within depth structs)
layouts_positive depth structs k l p = let a = laid_as structs depth k l p in subst (λ (z : StructLayout). 1 ≤ z.alignment) a.is (strict a.extents)

pub alignment_positive : (structs : Structs) (t : TypeTree) (e : Extent) → extent_of structs t ≡ Some e → 1 ≤ e.alignment
alignment_positive structs t e p = extent_positive (layout_of structs) (layouts_positive (defined_structs structs) structs) t e p

-- ---- offsets

pub rounded_above : (n a : ℕ) → 1 ≤ a → n ≤ rounded_up n a
rounded_above n a pos =
    let e = div-add-mod' (n + (a - 1)) a in
    let b = mod_below (n + (a - 1)) a pos in
    omega arith

pub ends_behind : (es : List Extent) (start : ℕ) → AllPositive es → start ≤ end_from start es
ends_behind [] start h = omega arith
ends_behind (e ∷ es) start h =
    let r = rounded_above start e.alignment h.0 in
    let f = ends_behind es (rounded_up start e.alignment + e.size) h.1 in
    omega arith

offset_in : (es : List Extent) (start i o : ℕ) → AllPositive es → slice_get (offsets_from start es) i ≡ Some o → o ≤ end_from start es
offset_in [] start i o h p = nothing o p
offset_in (e ∷ es) start zero o h p =
    let s : rounded_up start e.alignment ≡ o = same_Some _ o p in
    let f = ends_behind es (rounded_up start e.alignment + e.size) h.1 in
    omega arith
offset_in (e ∷ es) start (suc i) o h p = offset_in es (rounded_up start e.alignment + e.size) i o h.1 p

offset_within : (structs : Structs) (k i o : ℕ) (l : StructLayout) → layout_of structs k ≡ Some l → slice_get l.offsets i ≡ Some o → o ≤ l.size
offset_within structs k i o l p q =
    let a = laid_as structs (defined_structs structs) k l p in
    go a (subst (λ (z : StructLayout). slice_get z.offsets i ≡ Some o) (sym a.is) q)
  where
    go : (a : LaidAs structs (defined_structs structs) k l) → slice_get (offsets_from 0 a.extents) i ≡ Some o → o ≤ l.size
    go a q =
        let f = offset_in a.extents 0 i o (extents_positive (layouts_within a.depth structs) (layouts_positive a.depth structs) (member_types a.members) a.extents a.are) q in
        let r = rounded_above (end_from 0 a.extents) (strictest a.extents) (strict a.extents) in
        subst (λ (z : StructLayout). o ≤ z.size) a.is (omega arith)

-- ---- sizes

-- arrays in the type have elements, and are within the limit of sizes
abbrev pub is_small : Structs → TypeTree → Bool
is_small structs int = true
is_small structs unsigned = true
is_small structs char = true
is_small structs void = true
is_small structs (pointer t) = is_small structs t
is_small structs (array t n) = (nat_le 1 n && is_sized structs (array t n)) && is_small structs t
is_small structs (struct k) = true

-- a size that an object has
pub record IsRoom (n : ℕ) : Type 0 where
  pub least : 1 ≤ n
  pub most : n ≤ 16777216

pub record SmallTable (structs : Structs) : Type 0 where
  pub members : (k : ℕ) (ms : List MemberTree) → struct_of structs k ≡ Some ms → list_all (λ (m : MemberTree). is_small structs m.type) ms ≡ true
  pub sizes : (k : ℕ) (l : StructLayout) → layout_of structs k ≡ Some l → IsRoom l.size

-- the types that type names stand for are small
pub record SmallNames (structs : Structs) (names : TypeNames) : Type 0 where
  pub each : (x : List ℕ) (t : TypeTree) → type_in x names ≡ Some t → is_small structs t ≡ true

pub record Within (e f : Extent) : Type 0 where
  pub is : e ≡ f
  pub most : f.size ≤ 16777216

pub within : (e f : Extent) → extent_within e ≡ Some f → Within e f
within e f p = go (nat_le e.size size_limit) refl p
  where
    at_most : (n : ℕ) → nat_le n size_limit ≡ true → n ≤ 16777216
    at_most n h = grind (arith, nat_tests)

    go : (b : Bool) → nat_le e.size size_limit ≡ b → (if b then Some e else None) ≡ Some f → Within e f
    go true h q = let i = same_Some e f q in record { is = i; most = subst (λ (z : Extent). z.size ≤ 16777216) i (at_most e.size h) }
    go false h q = nothing f q

pub sized_is : (layouts : Layouts) (t : TypeTree) (e : Extent) → sized_by layouts t ≡ Some e → extent_by layouts t ≡ Some e
sized_is layouts int e p = p
sized_is layouts unsigned e p = p
sized_is layouts char e p = p
sized_is layouts void e p = p
sized_is layouts (pointer t) e p = p
sized_is layouts (array t n) e p =
    let w = went (sized_by layouts t) (λ element. extent_within (array_extent element n)) e p in
    ap (λ o. and_then o (λ element. Some (array_extent element n))) (sized_is layouts t w.value w.had) ∙ ap Some (within _ e w.gave).is
sized_is layouts (struct k) e p =
    let w = went (layouts k) (λ l. extent_within (struct_extent l)) e p in
    ap (λ o. and_then o (λ l. Some (struct_extent l))) w.had ∙ ap Some (within _ e w.gave).is

sized_most : (layouts : Layouts) (t : TypeTree) (n : ℕ) (e : Extent) → sized_by layouts (array t n) ≡ Some e → e.size ≤ 16777216
sized_most layouts t n e p =
    let w = went (sized_by layouts t) (λ element. extent_within (array_extent element n)) e p in
    (within _ e w.gave).most

four_room : IsRoom 4
four_room = record { least = omega arith; most = omega arith }

one_room : IsRoom 1
one_room = record { least = omega arith; most = omega arith }

product : (a n : ℕ) → 1 ≤ a → 1 ≤ n → 1 ≤ a * n
product a n h k = let m : a * 1 ≤ a * n = mul-le-mul_left a k in omega arith

pub room : (structs : Structs) → SmallTable structs → (t : TypeTree) → is_small structs t ≡ true → (e : Extent) → extent_of structs t ≡ Some e → IsRoom e.size
room structs table int s e p = subst (λ (z : Extent). IsRoom z.size) (same_Some _ e p) four_room
room structs table unsigned s e p = subst (λ (z : Extent). IsRoom z.size) (same_Some _ e p) four_room
room structs table char s e p = subst (λ (z : Extent). IsRoom z.size) (same_Some _ e p) one_room
room structs table void s e p = nothing e p
room structs table (pointer t) s e p = subst (λ (z : Extent). IsRoom z.size) (same_Some _ e p) four_room
room structs table (array t n) s e p =
    let w = went (extent_of structs t) (λ element. Some (array_extent element n)) e p in
    let element = room structs table t (second_so (nat_le 1 n && is_sized structs (array t n)) _ s) w.value w.had in
    let k : Known (sized_by (layout_of structs) (array t n)) = known _ (second_so (nat_le 1 n) _ (first_so _ _ s)) in
    let whole = same_Some _ _ (sym (sized_is (layout_of structs) (array t n) k.value k.is) ∙ p) in
    record {
      least = subst (λ (z : Extent). 1 ≤ z.size) (same_Some _ e w.gave) (product w.value.size n element.least (leb-true 1 n (first_so _ _ (first_so _ _ s))));
      most = subst (λ (z : Extent). z.size ≤ 16777216) whole (sized_most (layout_of structs) t n k.value k.is);
    }
room structs table (struct k) s e p =
    let w = went (layout_of structs k) (λ l. Some (struct_extent l)) e p in
    subst (λ (z : Extent). IsRoom z.size) (same_Some _ e w.gave) (table.sizes k w.value w.had)

-- an array has no more elements than bytes
pub array_length : (structs : Structs) → SmallTable structs → (t : TypeTree) (n : ℕ) → is_small structs (array t n) ≡ true → n ≤ 16777216
array_length structs table t n s =
    let k : Known (sized_by (layout_of structs) (array t n)) = known _ (second_so (nat_le 1 n) _ (first_so _ _ s)) in
    let most = sized_most (layout_of structs) t n k.value k.is in
    let w = went (extent_of structs t) (λ element. Some (array_extent element n)) k.value (sized_is (layout_of structs) (array t n) k.value k.is) in
    let element = (room structs table t (second_so (nat_le 1 n && is_sized structs (array t n)) _ s) w.value w.had).least in
    let whole : w.value.size * n ≡ k.value.size = ap (λ (z : Extent). z.size) (same_Some _ k.value w.gave) in
    at_most w.value.size n element (subst (λ z. z ≤ 16777216) (sym whole) most)
  where
    at_most : (a n : ℕ) → 1 ≤ a → a * n ≤ 16777216 → n ≤ 16777216
    at_most a n h k = let m : 1 * n ≤ a * n = mul-le-mul_right n h in omega arith

pub size_room : (structs : Structs) → SmallTable structs → (t : TypeTree) → is_small structs t ≡ true → (n : ℕ) → size_of structs t ≡ Some n → IsRoom n
size_room structs table t s n p =
    let w = went (extent_of structs t) (λ (e : Extent). Some e.size) n p in
    subst IsRoom (same_Some _ n w.gave) (room structs table t s w.value w.had)

pub small_referenced : (structs : Structs) (t : TypeTree) → is_small structs t ≡ true → is_small structs (referenced t) ≡ true
small_referenced structs int s = s
small_referenced structs unsigned s = s
small_referenced structs char s = s
small_referenced structs void s = s
small_referenced structs (pointer t) s = s
small_referenced structs (array t n) s = second_so (nat_le 1 n && is_sized structs (array t n)) _ s
small_referenced structs (struct k) s = s

pub small_decayed : (structs : Structs) (t : TypeTree) → is_small structs t ≡ true → is_small structs (decayed t) ≡ true
small_decayed structs int s = s
small_decayed structs unsigned s = s
small_decayed structs char s = s
small_decayed structs void s = s
small_decayed structs (pointer t) s = s
small_decayed structs (array t n) s = second_so (nat_le 1 n && is_sized structs (array t n)) _ s
small_decayed structs (struct k) s = s

-- what a pointer of a small type leads to is of a size among which pointers move
pub elements : (structs : Structs) → SmallTable structs → (t : TypeTree) → is_small structs t ≡ true → Elements structs t
elements structs table t s n p =
    let r = size_room structs table (referenced t) (small_referenced structs t s) n p in
    and_from _ _ (le-leb 1 n r.least) (le-leb n largest_size r.most)

-- ---- members

member_is_small : (structs : Structs) (x : List ℕ) (ms : List MemberTree) (u : TypeTree) → list_all (λ (m : MemberTree). is_small structs m.type) ms ≡ true
    → member_in x ms ≡ Some u → is_small structs u ≡ true
member_is_small structs x [] u all e = nothing u e
member_is_small structs x (m ∷ ms) u all e = go (λ f. member_is_small structs x ms u (second_so (is_small structs m.type) _ all) f) (same_bytes m.name x) e
  where
    go : (member_in x ms ≡ Some u → is_small structs u ≡ true) → (b : Bool) → (if b then Some m.type else member_in x ms) ≡ Some u → is_small structs u ≡ true
    go later true e = subst (λ z. is_small structs z ≡ true) (same_Some _ _ e) (first_so _ _ all)
    go later false e = later e

pub member_small : (structs : Structs) → SmallTable structs → (t u : TypeTree) (x : List ℕ) → member_type structs t x ≡ Some u → is_small structs u ≡ true
member_small structs table (struct k) u x e =
    let w = went (struct_of structs k) (member_in x) u e in
    member_is_small structs x w.value u (table.members k w.value w.had) w.gave
member_small structs table int u x e = nothing u e
member_small structs table unsigned u x e = nothing u e
member_small structs table char u x e = nothing u e
member_small structs table void u x e = nothing u e
member_small structs table (pointer t) u x e = nothing u e
member_small structs table (array t n) u x e = nothing u e

pub offset_small : (structs : Structs) → SmallTable structs → (k i o : ℕ) → offset_of structs k i ≡ Some o → nat_le o largest_size ≡ true
offset_small structs table k i o p =
    let w = went (layout_of structs k) (λ (l : StructLayout). slice_get l.offsets i) o p in
    let a = offset_within structs k i o w.value w.had w.gave in
    let b = (table.sizes k w.value w.had).most in
    le-leb o largest_size (omega arith)

pub member_offset_small : (structs : Structs) → SmallTable structs → (t : TypeTree) (x : List ℕ) (o : ℕ) → member_offset structs t x ≡ Some o → nat_le o largest_size ≡ true
member_offset_small structs table (struct k) x o p =
    let m = followed (struct_of structs k) _ o p in
    let i = followed (member_number 0 x m.value) _ o m.then in
    offset_small structs table k i.value o i.then
member_offset_small structs table int x o p = nothing o p
member_offset_small structs table unsigned x o p = nothing o p
member_offset_small structs table char x o p = nothing o p
member_offset_small structs table void x o p = nothing o p
member_offset_small structs table (pointer t) x o p = nothing o p
member_offset_small structs table (array t n) x o p = nothing o p
