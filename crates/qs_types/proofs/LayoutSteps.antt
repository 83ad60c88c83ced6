-- A layout is made member by member, and no further where the limit is passed.
use Rattle.std.proofs.Common.{◌≡◌, ◌≤◌, ◌<◌, ℕ, zero, suc, ◌+◌, max, nat_le, drop, length, map, Bool, true, false, List, [], ◌∷◌, ◌++◌, Option, Some, None, refl, sym, ap, ◌∙◌, subst, arith, if◌then◌else◌, add-one}
use Rattle.std.specs.List.{slice_get}
use Rattle.std.proofs.lemmas.List.{append_assoc, append-nil}
use Rattle.std.proofs.lemmas.Option.{same_Some}
use Rattle.qs_types.specs.declared.extent.Extent.{Extent}
use Rattle.qs_types.specs.Types.{TypeTree}
use Rattle.qs_types.specs.Layout.{and_then, Layouts, StructLayout, rounded_up, offsets_from, end_from, strictest, struct_layout, size_limit, layout_within, sized_by, all_sized_by, sized_layout, extents_by}
use Rattle.qs_types.proofs.Options.{nothing, went, goes, passed}
use Rattle.qs_types.proofs.Rounding.{rounds}
use Rattle.qs_types.proofs.Layouts.{ends_after}
use Rattle.qs_types.proofs.Extents.{AlignedLayouts, extents_aligned, sized_is}

abbrev pub layout_at : List ℕ → (end alignment : ℕ) → Option StructLayout
layout_at offsets end alignment = layout_within (record { offsets = offsets; size = rounded_up end alignment; alignment = alignment })

-- what the members that are left make of the offsets so far, the end of the last of them, and the strictest alignment so far
abbrev pub laid_out : Layouts → List TypeTree → List ℕ → (end alignment : ℕ) → Option StructLayout
laid_out layouts [] offsets end alignment = layout_at offsets end alignment
laid_out layouts (t ∷ ts) offsets end alignment =
    and_then (sized_by layouts t) (λ e.
    if nat_le (rounded_up end e.alignment + e.size) size_limit
    then laid_out layouts ts (offsets ++ rounded_up end e.alignment ∷ []) (rounded_up end e.alignment + e.size) (max alignment e.alignment)
    else None)

-- the same behind a member of this extent
abbrev pub laid_behind : Layouts → List TypeTree → List ℕ → (end alignment : ℕ) → Extent → Option StructLayout
laid_behind layouts ts offsets end alignment e =
    if nat_le (rounded_up end e.alignment + e.size) size_limit
    then laid_out layouts ts (offsets ++ rounded_up end e.alignment ∷ []) (rounded_up end e.alignment + e.size) (max alignment e.alignment)
    else None

-- the same in one
abbrev laid_together : List ℕ → (end alignment : ℕ) → List Extent → Option StructLayout
laid_together offsets end alignment es = layout_at (offsets ++ offsets_from end es) (end_from end es) (max alignment (strictest es))

pub all_sized_are : (layouts : Layouts) (ts : List TypeTree) (es : List Extent) → all_sized_by layouts ts ≡ Some es → extents_by layouts ts ≡ Some es
all_sized_are layouts [] es p = p
all_sized_are layouts (t ∷ ts) es p =
    let w = went (sized_by layouts t) (λ e. and_then (all_sized_by layouts ts) (λ es. Some (e ∷ es))) es p in
    let r = went (all_sized_by layouts ts) (λ es. Some (w.value ∷ es)) es w.gave in
    goes _ w.value (λ e. and_then (extents_by layouts ts) (λ es. Some (e ∷ es))) (Some es) (sized_is layouts t w.value w.had)
    (goes _ r.value (λ es. Some (w.value ∷ es)) (Some es) (all_sized_are layouts ts r.value r.had) r.gave)

-- past the limit it stays so
too_large : (offsets : List ℕ) (end alignment : ℕ) → 1 ≤ alignment → size_limit < end → layout_at offsets end alignment ≡ None
too_large offsets end alignment pos over = go (nat_le (rounded_up end alignment) size_limit) refl
  where
    l : StructLayout
    l = record { offsets = offsets; size = rounded_up end alignment; alignment = alignment }

    go : (b : Bool) → nat_le (rounded_up end alignment) size_limit ≡ b → (if b then Some l else None) ≡ None
    go false e = refl
    go true e = absurd (no e)
      where
        no : nat_le (rounded_up end alignment) size_limit ≡ true → ⊥
        no e = let r = rounds end alignment pos in let above = r.above in grind arith

max_assoc : (a b c : ℕ) → max (max a b) c ≡ max a (max b c)
max_assoc a b c = grind arith

-- one member more
one_more : (offsets : List ℕ) (end alignment at : ℕ) (e : Extent) (es : List Extent) → rounded_up end e.alignment ≡ at → laid_together (offsets ++ at ∷ []) (at + e.size) (max alignment e.alignment) es ≡ laid_together offsets end alignment (e ∷ es)
one_more offsets end alignment at e es p =
    ap (λ os. layout_at os (end_from (at + e.size) es) (max (max alignment e.alignment) (strictest es))) (append_assoc offsets (at ∷ []) (offsets_from (at + e.size) es))
    ∙ (ap (λ a. layout_at (offsets ++ at ∷ offsets_from (at + e.size) es) (end_from (at + e.size) es) a) (max_assoc alignment e.alignment (strictest es))
    ∙ ap (λ x. layout_at (offsets ++ x ∷ offsets_from (x + e.size) es) (end_from (x + e.size) es) (max alignment (max e.alignment (strictest es)))) (sym p))

abbrev WholeLists : Layouts → List TypeTree → Type 0
WholeLists layouts ts = (offsets : List ℕ) (end alignment : ℕ) → 1 ≤ alignment → laid_out layouts ts offsets end alignment ≡ and_then (all_sized_by layouts ts) (laid_together offsets end alignment)

behind : (layouts : Layouts) → AlignedLayouts layouts → (ts : List TypeTree) → WholeLists layouts ts → (offsets : List ℕ) (end alignment : ℕ) → 1 ≤ alignment → (e : Extent) → laid_behind layouts ts offsets end alignment e ≡ and_then (and_then (all_sized_by layouts ts) (λ es. Some (e ∷ es))) (laid_together offsets end alignment)
behind layouts h ts rest offsets end alignment pos e = go (nat_le (rounded_up end e.alignment + e.size) size_limit) refl
  where
    pos_max : (a b : ℕ) → 1 ≤ a → 1 ≤ max a b
    pos_max a b p = grind arith

    goes_on : (o : Option (List Extent)) → and_then o (laid_together (offsets ++ rounded_up end e.alignment ∷ []) (rounded_up end e.alignment + e.size) (max alignment e.alignment)) ≡ and_then (and_then o (λ es. Some (e ∷ es))) (laid_together offsets end alignment)
    goes_on None = refl
    goes_on (Some es) = one_more offsets end alignment (rounded_up end e.alignment) e es refl

    stops : nat_le (rounded_up end e.alignment + e.size) size_limit ≡ false → (o : Option (List Extent)) → all_sized_by layouts ts ≡ o → None ≡ and_then (and_then o (λ es. Some (e ∷ es))) (laid_together offsets end alignment)
    stops p None q = refl
    stops p (Some es) q =
        let a = ends_after es (rounded_up end e.alignment + e.size) (extents_aligned layouts h ts es (all_sized_are layouts ts es q)) in
        let over : size_limit < rounded_up end e.alignment + e.size = grind arith in
        sym (too_large (offsets ++ offsets_from end (e ∷ es)) (end_from end (e ∷ es)) (max alignment (strictest (e ∷ es))) (pos_max alignment (strictest (e ∷ es)) pos) (omega arith))

    go : (b : Bool) → nat_le (rounded_up end e.alignment + e.size) size_limit ≡ b → (if b then laid_out layouts ts (offsets ++ rounded_up end e.alignment ∷ []) (rounded_up end e.alignment + e.size) (max alignment e.alignment) else None) ≡ and_then (and_then (all_sized_by layouts ts) (λ es. Some (e ∷ es))) (laid_together offsets end alignment)
    go true p =
        rest (offsets ++ rounded_up end e.alignment ∷ []) (rounded_up end e.alignment + e.size) (max alignment e.alignment) (pos_max alignment e.alignment pos)
        ∙ goes_on (all_sized_by layouts ts)
    go false p = stops p (all_sized_by layouts ts) refl

together : (layouts : Layouts) → AlignedLayouts layouts → (ts : List TypeTree) → WholeLists layouts ts
together layouts h [] offsets end alignment pos =
    ap (λ os. layout_at os end alignment) (sym (append-nil offsets)) ∙ ap (layout_at (offsets ++ []) end) (one_is_least alignment pos)
  where
    one_is_least : (a : ℕ) → 1 ≤ a → a ≡ max a 1
    one_is_least a p = grind arith
together layouts h (t ∷ ts) offsets end alignment pos = go (together layouts h ts) (sized_by layouts t)
  where
    go : WholeLists layouts ts → (o : Option Extent) → and_then o (λ e. laid_behind layouts ts offsets end alignment e) ≡ and_then (and_then o (λ e. and_then (all_sized_by layouts ts) (λ es. Some (e ∷ es)))) (laid_together offsets end alignment)
    go rest None = refl
    go rest (Some e) = behind layouts h ts rest offsets end alignment pos e

at_least_one : (es : List Extent) → 1 ≤ strictest es
at_least_one [] = omega arith
at_least_one (e ∷ es) = let k = at_least_one es in up e.alignment (strictest es) k
  where
    up : (a b : ℕ) → 1 ≤ b → 1 ≤ max a b
    up a b p = grind arith

pub laid_whole : (layouts : Layouts) → AlignedLayouts layouts → (ts : List TypeTree) → laid_out layouts ts [] 0 1 ≡ sized_layout layouts ts
laid_whole layouts h ts = together layouts h ts [] 0 1 (omega arith) ∙ go (all_sized_by layouts ts)
  where
    least : (a : ℕ) → 1 ≤ a → max 1 a ≡ a
    least a p = grind arith

    go : (o : Option (List Extent)) → and_then o (laid_together [] 0 1) ≡ and_then o (λ es. layout_within (struct_layout es))
    go None = refl
    go (Some es) = ap (layout_at (offsets_from 0 es) (end_from 0 es)) (least (strictest es) (at_least_one es))

-- ---- one step

pub step_none : (layouts : Layouts) (t : TypeTree) (ts : List TypeTree) (offsets : List ℕ) (end alignment : ℕ) → sized_by layouts t ≡ None → laid_out layouts (t ∷ ts) offsets end alignment ≡ None
step_none layouts t ts offsets end alignment p = ap (λ o. and_then o (λ e. laid_behind layouts ts offsets end alignment e)) p

pub step_over : (layouts : Layouts) (t : TypeTree) (ts : List TypeTree) (offsets : List ℕ) (end alignment : ℕ) (e : Extent) → sized_by layouts t ≡ Some e → size_limit < rounded_up end e.alignment + e.size → laid_out layouts (t ∷ ts) offsets end alignment ≡ None
step_over layouts t ts offsets end alignment e p over =
    ap (λ o. and_then o (λ e. laid_behind layouts ts offsets end alignment e)) p
    ∙ ap (λ b. if b then laid_out layouts ts (offsets ++ rounded_up end e.alignment ∷ []) (rounded_up end e.alignment + e.size) (max alignment e.alignment) else None) no
  where
    no : nat_le (rounded_up end e.alignment + e.size) size_limit ≡ false
    no = grind arith

pub step_on : (layouts : Layouts) (t : TypeTree) (ts : List TypeTree) (offsets : List ℕ) (end alignment : ℕ) (e : Extent) → sized_by layouts t ≡ Some e → rounded_up end e.alignment + e.size ≤ size_limit → laid_out layouts (t ∷ ts) offsets end alignment ≡ laid_out layouts ts (offsets ++ rounded_up end e.alignment ∷ []) (rounded_up end e.alignment + e.size) (max alignment e.alignment)
step_on layouts t ts offsets end alignment e p within =
    ap (λ o. and_then o (λ e. laid_behind layouts ts offsets end alignment e)) p
    ∙ ap (λ b. if b then laid_out layouts ts (offsets ++ rounded_up end e.alignment ∷ []) (rounded_up end e.alignment + e.size) (max alignment e.alignment) else None) yes
  where
    yes : nat_le (rounded_up end e.alignment + e.size) size_limit ≡ true
    yes = grind arith

pub sized_is_layout : (layouts : Layouts) (ts : List TypeTree) (l : StructLayout) → sized_layout layouts ts ≡ Some l → and_then (extents_by layouts ts) (λ es. Some (struct_layout es)) ≡ Some l
sized_is_layout layouts ts l p =
    let w = went (all_sized_by layouts ts) (λ es. layout_within (struct_layout es)) l p in
    let k = passed (nat_le (struct_layout w.value).size size_limit) (struct_layout w.value) l w.gave in
    goes (extents_by layouts ts) w.value (λ es. Some (struct_layout es)) (Some l) (all_sized_are layouts ts w.value w.had) (ap Some k.is)

-- ---- at a place of the list

drop_at : {X : Type 0} (xs : List X) (i : ℕ) (x : X) → slice_get xs i ≡ Some x → drop i xs ≡ x ∷ drop (suc i) xs
drop_at [] i x p = nothing x p
drop_at (y ∷ ys) zero x p = ap (λ z. z ∷ ys) (same_Some y x p)
drop_at (y ∷ ys) (suc i) x p = drop_at ys i x p

abbrev pub From : Layouts → List TypeTree → ℕ → List ℕ → (end alignment : ℕ) → Type 0
From layouts ts i offsets end alignment = laid_out layouts (drop i ts) offsets end alignment ≡ laid_out layouts ts [] 0 1

pub ends_none : (layouts : Layouts) (ts : List TypeTree) (i : ℕ) (t : TypeTree) (offsets : List ℕ) (end alignment : ℕ) → slice_get ts i ≡ Some t → From layouts ts i offsets end alignment → AlignedLayouts layouts → sized_by layouts t ≡ None → None ≡ sized_layout layouts ts
ends_none layouts ts i t offsets end alignment at so h p =
    sym (step_none layouts t (drop (suc i) ts) offsets end alignment p)
    ∙ (ap (λ l. laid_out layouts l offsets end alignment) (sym (drop_at ts i t at)) ∙ (so ∙ laid_whole layouts h ts))

pub ends_over : (layouts : Layouts) (ts : List TypeTree) (i : ℕ) (t : TypeTree) (offsets : List ℕ) (end alignment : ℕ) (e : Extent) → slice_get ts i ≡ Some t → From layouts ts i offsets end alignment → AlignedLayouts layouts → sized_by layouts t ≡ Some e → size_limit < rounded_up end e.alignment + e.size → None ≡ sized_layout layouts ts
ends_over layouts ts i t offsets end alignment e at so h p over =
    sym (step_over layouts t (drop (suc i) ts) offsets end alignment e p over)
    ∙ (ap (λ l. laid_out layouts l offsets end alignment) (sym (drop_at ts i t at)) ∙ (so ∙ laid_whole layouts h ts))

pub goes_on : (layouts : Layouts) (ts : List TypeTree) (i : ℕ) (t : TypeTree) (offsets : List ℕ) (end alignment : ℕ) (e : Extent) → slice_get ts i ≡ Some t → From layouts ts i offsets end alignment → sized_by layouts t ≡ Some e → rounded_up end e.alignment + e.size ≤ size_limit → From layouts ts (i + 1) (offsets ++ rounded_up end e.alignment ∷ []) (rounded_up end e.alignment + e.size) (max alignment e.alignment)
goes_on layouts ts i t offsets end alignment e at so p within =
    ap (λ k. laid_out layouts (drop k ts) (offsets ++ rounded_up end e.alignment ∷ []) (rounded_up end e.alignment + e.size) (max alignment e.alignment)) (sym (sym (add-one i)))
    ∙ (sym (step_on layouts t (drop (suc i) ts) offsets end alignment e p within)
    ∙ (ap (λ l. laid_out layouts l offsets end alignment) (sym (drop_at ts i t at)) ∙ so))

pub ends_whole : (layouts : Layouts) (ts : List TypeTree) (i : ℕ) (offsets : List ℕ) (end alignment : ℕ) → drop i ts ≡ [] → From layouts ts i offsets end alignment → AlignedLayouts layouts → layout_at offsets end alignment ≡ sized_layout layouts ts
ends_whole layouts ts i offsets end alignment none so h =
    ap (λ l. laid_out layouts l offsets end alignment) (sym none) ∙ (so ∙ laid_whole layouts h ts)

-- the same with the numbers of the code
pub goes_on_as : (layouts : Layouts) (ts : List TypeTree) (i : ℕ) (t : TypeTree) (offsets : List ℕ) (end alignment : ℕ) (e : Extent) → slice_get ts i ≡ Some t → From layouts ts i offsets end alignment → sized_by layouts t ≡ Some e → (offset : ℕ) (now : List ℕ) (stricter : ℕ) → offset ≡ rounded_up end e.alignment → now ≡ offsets ++ offset ∷ [] → stricter ≡ max alignment e.alignment → offset + e.size ≤ size_limit → From layouts ts (i + 1) now (offset + e.size) stricter
goes_on_as layouts ts i t offsets end alignment e at so p offset now stricter up put strict within =
    subst (λ a. From layouts ts (i + 1) now (offset + e.size) a) (sym strict)
    (subst (λ os. From layouts ts (i + 1) os (offset + e.size) (max alignment e.alignment)) (sym put)
    (subst (λ o. From layouts ts (i + 1) (offsets ++ o ∷ []) (o + e.size) (max alignment e.alignment)) (sym up)
    (goes_on layouts ts i t offsets end alignment e at so p (subst (λ o. o + e.size ≤ size_limit) up within))))

pub ends_over_as : (layouts : Layouts) (ts : List TypeTree) (i : ℕ) (t : TypeTree) (offsets : List ℕ) (end alignment : ℕ) (e : Extent) → slice_get ts i ≡ Some t → From layouts ts i offsets end alignment → AlignedLayouts layouts → sized_by layouts t ≡ Some e → (offset : ℕ) → offset ≡ rounded_up end e.alignment → size_limit < offset + e.size → None ≡ sized_layout layouts ts
ends_over_as layouts ts i t offsets end alignment e at so h p offset up over =
    ends_over layouts ts i t offsets end alignment e at so h p (subst (λ o. size_limit < o + e.size) up over)

pub ends_whole_as : (layouts : Layouts) (ts : List TypeTree) (i : ℕ) (offsets : List ℕ) (end alignment : ℕ) → drop i ts ≡ [] → From layouts ts i offsets end alignment → AlignedLayouts layouts → (size : ℕ) → size ≡ rounded_up end alignment → layout_within (record { offsets = offsets; size = size; alignment = alignment }) ≡ sized_layout layouts ts
ends_whole_as layouts ts i offsets end alignment none so h size up =
    ap (λ n. layout_within (record { offsets = offsets; size = n; alignment = alignment })) up ∙ ends_whole layouts ts i offsets end alignment none so h

pub max_positive : (a b m : ℕ) → m ≡ max a b → 1 ≤ a → 1 ≤ m
max_positive a b m e p = grind arith

pub max_small : (a b m : ℕ) → m ≡ max a b → a ≤ 4 → b ≤ 4 → m ≤ 4
max_small a b m e p q = grind arith

pub past : {X Y Z : Type 0} (f : X → Y) (g : Y → Z) (xs : List X) (i : ℕ) → length xs ≤ i → drop i (map g (map f xs)) ≡ []
past f g [] zero le = refl
past f g [] (suc i) le = refl
past f g (x ∷ xs) zero le = absurd (omega arith)
past f g (x ∷ xs) (suc i) le = past f g xs i (omega arith)
