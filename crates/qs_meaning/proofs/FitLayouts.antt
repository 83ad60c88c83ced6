-- The parts of an object lie in it, and its blank has its size.
use Rattle.std.proofs.Common.{◌≡◌, ◌≤◌, ℕ, zero, suc, ◌+◌, ◌-◌, ◌*◌, nat_lt, max, Bool, true, false, List, [], ◌∷◌, ◌++◌, length, Some, None, refl, sym, ap, ◌∙◌, subst, arith, if◌then◌else◌}
use Rattle.std.specs.List.{slice_get, list_all}
use Rattle.std.proofs.lemmas.Bool.Decides.{nat_tests}
use Rattle.std.proofs.lemmas.List.{length-append}
use Rattle.std.proofs.Math.Nat.{mul-le-mul_left, mul-suc}
use Rattle.std.specs.Cmp.{first_so, second_so}
use Rattle.std.proofs.lemmas.Option.{same_Some}
use Rattle.qs_memory.specs.Memory.{Cell, byte, BlankTree, times, blank_cells}
use Rattle.qs_memory.proofs.Options.{followed}
use Rattle.qs_types.specs.declared.extent.Extent.{Extent}
use Rattle.qs_types.specs.Types.{TypeTree, int, unsigned, char, void, pointer, array, struct, MemberTree, Structs}
use Rattle.qs_types.specs.Layout.{and_then, StructLayout, Layouts, array_extent, struct_extent, extent_by, extents_by, rounded_up, offsets_from, end_from, strictest, struct_layout, member_types, struct_of, layouts_within, defined_structs, layout_of, extent_of, size_of}
use Rattle.qs_types.specs.InitialiserRules.{member_at, part_type}
use Rattle.qs_meaning.specs.Blanks.{Blanks, blank_by, members_blank, struct_blank, blanks_within, blank_of}
use Rattle.qs_meaning.specs.Initialisers.{part_offset}
use Rattle.qs_meaning.proofs.Options.{went}
use Rattle.qs_meaning.proofs.Options as options
use Rattle.qs_meaning.proofs.StructTables.{extents_grow, layouts_grow}
use Rattle.qs_meaning.proofs.FitTypes.{AllPositive, laid_as, layouts_positive, extents_positive, rounded_above, ends_behind, is_small, SmallTable}

-- ---- structs by the extents of their members

pub record Laid (structs : Structs) (k : ℕ) (l : StructLayout) : Type 0 where
  pub members : List MemberTree
  pub of : struct_of structs k ≡ Some members
  pub extents : List Extent
  pub are : extents_by (layout_of structs) (member_types members) ≡ Some extents
  pub positive : AllPositive extents
  pub is : struct_layout extents ≡ l
  pub end : end_from 0 extents ≤ l.size

pub laid : (structs : Structs) (k : ℕ) (l : StructLayout) → layout_of structs k ≡ Some l → Laid structs k l
laid structs k l p =
    let a = laid_as structs (defined_structs structs) k l p in
    let positive = extents_positive (layouts_within a.depth structs) (layouts_positive a.depth structs) (member_types a.members) a.extents a.are in
    record {
      members = a.members;
      of = a.of;
      extents = a.extents;
      are = extents_grow (layouts_within a.depth structs) (layout_of structs)
          (layouts_grow structs structs (record { keeps = λ k ms e. e; count = at_most (defined_structs structs) }) a.depth (defined_structs structs) a.below)
          (member_types a.members) a.extents a.are;
      positive = positive;
      is = a.is;
      end = subst (λ (z : StructLayout). end_from 0 a.extents ≤ z.size) a.is (rounded_above (end_from 0 a.extents) (strictest a.extents) (positive_strict a.extents positive));
    }
  where
    at_most : (n : ℕ) → n ≤ n
    at_most n = omega arith

    greater : (a b : ℕ) → 1 ≤ b → 1 ≤ max a b
    greater a b h = grind arith

    positive_strict : (es : List Extent) → AllPositive es → 1 ≤ strictest es
    positive_strict [] h = omega arith
    positive_strict (e ∷ es) h = greater e.alignment (strictest es) (positive_strict es h.1)

-- the extent of the member with this number
pub record At (layouts : Layouts) (es : List Extent) (i : ℕ) (t : TypeTree) : Type 0 where
  pub extent : Extent
  pub stands : slice_get es i ≡ Some extent
  pub is : extent_by layouts t ≡ Some extent

pub extent_at : (layouts : Layouts) (ms : List MemberTree) (es : List Extent) → extents_by layouts (member_types ms) ≡ Some es → (i : ℕ) (m : MemberTree) → slice_get ms i ≡ Some m
    → At layouts es i m.type
extent_at layouts [] es p i m e = options.nothing m e
extent_at layouts (x ∷ ms) es p zero m e =
    let w = went (extent_by layouts x.type) (λ e. and_then (extents_by layouts (member_types ms)) (λ es. Some (e ∷ es))) es p in
    let v = went (extents_by layouts (member_types ms)) (λ es. Some (w.value ∷ es)) es w.gave in
    record {
      extent = w.value;
      stands = subst (λ z. slice_get z 0 ≡ Some w.value) (same_Some _ es v.gave) refl;
      is = subst (λ (z : MemberTree). extent_by layouts z.type ≡ Some w.value) (same_Some _ m e) w.had;
    }
extent_at layouts (x ∷ ms) es p (suc i) m e =
    let w = went (extent_by layouts x.type) (λ e. and_then (extents_by layouts (member_types ms)) (λ es. Some (e ∷ es))) es p in
    let v = went (extents_by layouts (member_types ms)) (λ es. Some (w.value ∷ es)) es w.gave in
    let r = extent_at layouts ms v.value v.had i m e in
    record { extent = r.extent; stands = subst (λ z. slice_get z (suc i) ≡ Some r.extent) (same_Some _ es v.gave) r.stands; is = r.is }

end_in : (es : List Extent) (start i o : ℕ) (e : Extent) → AllPositive es → slice_get (offsets_from start es) i ≡ Some o → slice_get es i ≡ Some e → o + e.size ≤ end_from start es
end_in [] start i o e h p q = options.nothing o p
end_in (x ∷ es) start zero o e h p q =
    let s : rounded_up start x.alignment ≡ o = same_Some _ o p in
    let f = ends_behind es (rounded_up start x.alignment + x.size) h.1 in
    let n : x.size ≡ e.size = ap (λ (z : Extent). z.size) (same_Some _ e q) in
    omega arith
end_in (x ∷ es) start (suc i) o e h p q = end_in es (rounded_up start x.alignment + x.size) i o e h.1 p q

-- ---- parts of an object (6.7.9p17)

pub record PartFits (structs : Structs) (u : TypeTree) (at whole : ℕ) : Type 0 where
  pub size : ℕ
  pub is : size_of structs u ≡ Some size
  pub within : at + size ≤ whole
  pub small : is_small structs u ≡ true

small_at : (structs : Structs) (ms : List MemberTree) (i : ℕ) (m : MemberTree) → list_all (λ (m : MemberTree). is_small structs m.type) ms ≡ true → slice_get ms i ≡ Some m
    → is_small structs m.type ≡ true
small_at structs [] i m all e = options.nothing m e
small_at structs (x ∷ ms) zero m all e = subst (λ (z : MemberTree). is_small structs z.type ≡ true) (same_Some _ m e) (first_so _ _ all)
small_at structs (x ∷ ms) (suc i) m all e = small_at structs ms i m (second_so (is_small structs x.type) _ all) e

pub part_fits : (structs : Structs) → SmallTable structs → (t u : TypeTree) (i at n : ℕ) → is_small structs t ≡ true → size_of structs t ≡ Some n
    → part_type structs t i ≡ Some u → part_offset structs t i ≡ Some at → PartFits structs u at n
part_fits structs table (array t m) u i at n s p q r =
    let size = followed (size_of structs t) _ at r in
    let w = went (extent_of structs (array t m)) (λ (e : Extent). Some e.size) n p in
    let x = went (extent_of structs t) (λ element. Some (array_extent element m)) w.value w.had in
    let element : x.value.size ≡ size.value = same_Some _ _ (sym (ap (λ o. and_then o (λ (e : Extent). Some e.size)) x.had) ∙ size.first) in
    let whole : size.value * m ≡ n = ap (λ z. z * m) (sym element) ∙ (ap (λ (e : Extent). e.size) (same_Some _ w.value x.gave) ∙ same_Some _ n w.gave) in
    let there = chosen (nat_lt i m) refl q in
    record {
      size = size.value;
      is = subst (λ z. size_of structs z ≡ Some size.value) there.1 size.first;
      within =
          let a : size.value * i ≡ at = same_Some _ at size.then in
          let b : size.value * suc i ≤ size.value * m = mul-le-mul_left size.value (below i m there.0) in
          let c : size.value * suc i ≡ size.value * i + size.value = mul-suc size.value i in
          omega arith;
      small = subst (λ z. is_small structs z ≡ true) there.1 (second_so _ _ s);
    }
  where
    below : (i m : ℕ) → nat_lt i m ≡ true → suc i ≤ m
    below i m h = grind (arith, nat_tests)

    chosen : (b : Bool) → nat_lt i m ≡ b → (if b then Some t else None) ≡ Some u → (nat_lt i m ≡ true) × (t ≡ u)
    chosen true h e = (h, same_Some _ u e)
    chosen false h e = options.nothing u e
part_fits structs table (struct k) u i at n s p q r =
    let w = went (extent_of structs (struct k)) (λ (e : Extent). Some e.size) n p in
    let x = went (layout_of structs k) (λ l. Some (struct_extent l)) w.value w.had in
    let y = went (layout_of structs k) (λ (l : StructLayout). slice_get l.offsets i) at r in
    let l = laid structs k x.value x.had in
    let m = went (slice_get l.members i) (λ (m : MemberTree). Some m.type) u (sym (ap (λ o. member_at o i) l.of) ∙ q) in
    let e = extent_at (layout_of structs) l.members l.extents l.are i m.value m.had in
    let offsets : slice_get x.value.offsets i ≡ Some at = ap (λ (z : StructLayout). slice_get z.offsets i) (same_Some _ _ (sym x.had ∙ y.had)) ∙ y.gave in
    let size : x.value.size ≡ n = ap (λ (z : Extent). z.size) (same_Some _ w.value x.gave) ∙ same_Some _ n w.gave in
    record {
      size = e.extent.size;
      is = subst (λ z. size_of structs z ≡ Some e.extent.size) (same_Some _ u m.gave) (ap (λ o. and_then o (λ (e : Extent). Some e.size)) e.is);
      within =
          let a = end_in l.extents 0 i at e.extent l.positive (subst (λ (z : StructLayout). slice_get z.offsets i ≡ Some at) (sym l.is) offsets) e.stands in
          let b = l.end in
          omega arith;
      small = subst (λ z. is_small structs z ≡ true) (same_Some _ u m.gave) (small_at structs l.members i m.value (table.members k l.members l.of) m.had);
    }
part_fits structs table int u i at n s p q r = options.nothing u q
part_fits structs table unsigned u i at n s p q r = options.nothing u q
part_fits structs table char u i at n s p q r = options.nothing u q
part_fits structs table void u i at n s p q r = options.nothing u q
part_fits structs table (pointer t) u i at n s p q r = options.nothing u q

-- ---- blanks

pub times_length : (n : ℕ) (cells : List Cell) → length (times n cells) ≡ length cells * n
times_length zero cells = omega arith
times_length (suc n) cells =
    let a = length-append cells (times n cells) in
    let b = times_length n cells in
    let c : length cells * suc n ≡ length cells * n + length cells = mul-suc (length cells) n in
    omega arith

zeros_length : (n : ℕ) → length (times n (byte 0 ∷ [])) ≡ n
zeros_length n = times_length n (byte 0 ∷ []) ∙ one n
  where
    one : (n : ℕ) → 1 * n ≡ n
    one n = omega arith

module _ (structs : Structs) where
  abbrev LengthsBy : Blanks → Type 0
  LengthsBy blanks = (k : ℕ) (b : BlankTree) (l : StructLayout) → blanks k ≡ Some b → layout_of structs k ≡ Some l → length (blank_cells b) ≡ l.size

  pub blank_length : (blanks : Blanks) → LengthsBy blanks → (t : TypeTree) (b : BlankTree) (e : Extent) → blank_by blanks t ≡ Some b → extent_of structs t ≡ Some e
      → length (blank_cells b) ≡ e.size
  blank_length blanks h int b e p q = subst (λ z. length (blank_cells z) ≡ e.size) (same_Some _ b p) (ap (λ (z : Extent). z.size) (same_Some _ e q))
  blank_length blanks h unsigned b e p q = subst (λ z. length (blank_cells z) ≡ e.size) (same_Some _ b p) (ap (λ (z : Extent). z.size) (same_Some _ e q))
  blank_length blanks h char b e p q = subst (λ z. length (blank_cells z) ≡ e.size) (same_Some _ b p) (ap (λ (z : Extent). z.size) (same_Some _ e q))
  blank_length blanks h void b e p q = options.nothing b p
  blank_length blanks h (pointer t) b e p q = subst (λ z. length (blank_cells z) ≡ e.size) (same_Some _ b p) (ap (λ (z : Extent). z.size) (same_Some _ e q))
  blank_length blanks h (array t n) b e p q =
      let w = went (extent_of structs t) (λ element. Some (array_extent element n)) e q in
      let c = followed (blank_by blanks t) _ b p in
      subst (λ z. length (blank_cells z) ≡ e.size) (same_Some _ b c.then)
      (times_length n (blank_cells c.value) ∙ ap (λ z. z * n) (blank_length blanks h t c.value w.value c.first w.had) ∙ ap (λ (z : Extent). z.size) (same_Some _ e w.gave))
  blank_length blanks h (struct k) b e p q =
      let w = went (layout_of structs k) (λ l. Some (struct_extent l)) e q in
      h k b w.value p w.had ∙ ap (λ (z : Extent). z.size) (same_Some _ e w.gave)

  members_length : (blanks : Blanks) → LengthsBy blanks → (ms : List MemberTree) (es : List Extent) (at size : ℕ) (b : BlankTree) → AllPositive es
      → extents_by (layout_of structs) (member_types ms) ≡ Some es → end_from at es ≤ size → members_blank structs blanks at size ms (offsets_from at es) ≡ Some b
      → at + length (blank_cells b) ≡ size
  members_length blanks h [] es at size b pos p le q =
      let end : end_from at [] ≤ size = subst (λ z. end_from at z ≤ size) (sym (same_Some _ es p)) le in
      subst (λ z. at + length (blank_cells z) ≡ size) (same_Some _ b q) (last at size end)
    where
      last : (at size : ℕ) → at ≤ size → at + length (times (size - at) (byte 0 ∷ []) ++ []) ≡ size
      last at size le =
          let a = length-append (times (size - at) (byte 0 ∷ [])) [] in
          let b = zeros_length (size - at) in
          omega arith
  members_length blanks h (m ∷ ms) [] at size b pos p le q = options.nothing b q
  members_length blanks h (m ∷ ms) (e ∷ es) at size b pos p le q =
      let w = went (extent_of structs m.type) (λ x. and_then (extents_by (layout_of structs) (member_types ms)) (λ es. Some (x ∷ es))) (e ∷ es) p in
      let v = went (extents_by (layout_of structs) (member_types ms)) (λ es. Some (w.value ∷ es)) (e ∷ es) w.gave in
      let offset = rounded_up at e.alignment in
      let x = followed (blank_by blanks m.type) _ b q in
      let n = followed (size_of structs m.type) _ b x.then in
      let rest = followed (members_blank structs blanks (offset + n.value) size ms (offsets_from (offset + e.size) es)) _ b n.then in
      let head = heads w.value e v.value es (same_Some _ _ v.gave) in
      let size_is : e.size ≡ n.value = same_Some _ _ (sym (ap (λ o. and_then o (λ (e : Extent). Some e.size)) (w.had ∙ ap Some head.0)) ∙ n.first) in
      let first = blank_length blanks h m.type x.value e x.first (w.had ∙ ap Some head.0) in
      let later = members_length blanks h ms es (offset + e.size) size rest.value pos.1 (v.had ∙ ap Some head.1) le
      (subst (λ z. members_blank structs blanks (offset + z) size ms (offsets_from (offset + e.size) es) ≡ Some rest.value) (sym size_is) rest.first) in
      subst (λ z. at + length (blank_cells z) ≡ size) (same_Some _ b rest.then)
      (together at offset e.size (blank_cells x.value) (blank_cells rest.value) (rounded_above at e.alignment pos.0) first later)
    where
      heads : (x y : Extent) (xs ys : List Extent) → (x ∷ xs) ≡ (y ∷ ys) → (x ≡ y) × (xs ≡ ys)
      heads x y xs ys e = (cc, cc)

      together : (at offset n : ℕ) (first rest : List Cell) → at ≤ offset → length first ≡ n → offset + n + length rest ≡ size
          → at + length (times (offset - at) (byte 0 ∷ []) ++ (first ++ rest)) ≡ size
      together at offset n first rest le f r =
          let a = length-append (times (offset - at) (byte 0 ∷ [])) (first ++ rest) in
          let b = length-append first rest in
          let c = zeros_length (offset - at) in
          omega arith

  pub blanks_length : (depth : ℕ) → LengthsBy (blanks_within depth structs)
  blanks_length zero k b l p q = options.nothing b p
  blanks_length (suc depth) k b l p q =
      let ms = followed (struct_of structs k) _ b p in
      let x = followed (layout_of structs k) _ b ms.then in
      let y = laid structs k l q in
      let is = same_Some _ l (sym x.first ∙ q) in
      let of = same_Some _ _ (sym y.of ∙ ms.first) in
      zero_plus (members_length (blanks_within depth structs) (blanks_length depth) y.members y.extents 0 l.size b y.positive y.are y.end
      (subst (λ (z : StructLayout). members_blank structs (blanks_within depth structs) 0 l.size y.members z.offsets ≡ Some b) (sym y.is)
      (subst (λ z. members_blank structs (blanks_within depth structs) 0 l.size z l.offsets ≡ Some b) (sym of)
      (subst (λ (z : StructLayout). struct_blank structs (blanks_within depth structs) ms.value z ≡ Some b) is x.then))))
    where
      zero_plus : {m n : ℕ} → 0 + m ≡ n → m ≡ n
      zero_plus h = omega arith

  -- the blank of a type has the type's size
  pub blank_size : (t : TypeTree) (b : BlankTree) (n : ℕ) → blank_of structs t ≡ Some b → size_of structs t ≡ Some n → length (blank_cells b) ≡ n
  blank_size t b n p q =
      let w = went (extent_of structs t) (λ (e : Extent). Some e.size) n q in
      blank_length (blanks_within (defined_structs structs) structs) (blanks_length (defined_structs structs)) t b w.value p w.had ∙ same_Some _ n w.gave
