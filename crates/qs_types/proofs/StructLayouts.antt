-- Layouts stay where a struct is declared, and where one is given its members.
use Rattle.std.proofs.Common.{◌≡◌, ◌<◌, ◌⊎◌, inl, inr, ℕ, zero, suc, Bool, true, false, List, [], ◌∷◌, ◌++◌, Option, Some, None, is_some, map, option_map, slice_set, refl, sym, ap, ◌∙◌, subst, arith, Bor, if◌then◌else◌}
use Rattle.std.specs.Prelude.{option_copied}
use Rattle.std.specs.List.{ItemBy}
use Rattle.std.proofs.lemmas.Option.{slice_get_past, slice_get-get_or, same_Some}
use Rattle.std.specs.List.{slice_get}
use Rattle.std.proofs.lemmas.List.{map-append, map-set}
use Rattle.std.specs.Map.{values_of}
use Rattle.std.proofs.Math.Path.{fun_ext}
use Rattle.qs_types.specs.Types.{MemberTree, Structs}
use Rattle.qs_types.specs.Layout.{and_then, Layouts, StructLayout as LayoutTree, struct_of, member_types, members_layout, extents_by, struct_layout, sized_layout, layouts_within, layout_of, defined_structs}
use Rattle.qs_types.specs.StructsOf.{member_tree, struct_tree, structs_tree, layout_tree, kept_layouts, has_members, has_layout}
use Rattle.qs_types.specs.TypeOf.{type_tree}
use Rattle.qs_types.specs.declared.types.CType.{CType}
use Rattle.qs_types.specs.declared.structs.StructType.{StructType}
use Rattle.qs_types.proofs.Options.{nothing}
use Rattle.qs_types.proofs.LayoutSteps.{sized_is_layout}
use Rattle.qs_types.proofs.Extents.{Extends, layout_kept, layouts_kept}

-- ---- lists

set_there : {X : Type 0} (xs : List X) (k : ℕ) (y z : X) → slice_get xs k ≡ Some z → slice_get (slice_set xs k y) k ≡ Some y
set_there [] k y z p = nothing z p
set_there (x ∷ xs) zero y z p = refl
set_there (x ∷ xs) (suc k) y z p = set_there xs k y z p

set_elsewhere : {X : Type 0} (xs : List X) (k j : ℕ) (y : X) → (k ≡ j → ⊥) → slice_get (slice_set xs k y) j ≡ slice_get xs j
set_elsewhere [] k j y other = refl
set_elsewhere (x ∷ xs) zero zero y other = absurd (other refl)
set_elsewhere (x ∷ xs) zero (suc j) y other = refl
set_elsewhere (x ∷ xs) (suc k) zero y other = refl
set_elsewhere (x ∷ xs) (suc k) (suc j) y other = set_elsewhere xs k j y (λ e. other (ap suc e))

-- ---- one struct more gets members

one_more : (structs : Structs) (k : ℕ) (ms : List MemberTree) → slice_get structs k ≡ Some None → defined_structs (slice_set structs k (Some ms)) ≡ suc (defined_structs structs)
one_more [] k ms p = nothing None p
one_more (None ∷ structs) zero ms p = refl
one_more (Some old ∷ structs) zero ms p = nothing old (sym (same_Some (Some old) None p))
one_more (None ∷ structs) (suc k) ms p = one_more structs k ms p
one_more (Some old ∷ structs) (suc k) ms p = ap suc (one_more structs k ms p)

module _ (structs : Structs) (k : ℕ) (ms : List MemberTree) (fresh : slice_get structs k ≡ Some None) where
  abbrev more : Structs
  more = slice_set structs k (Some ms)

  member_there : struct_of more k ≡ Some ms
  member_there = ap (λ o. and_then o (λ s. s)) (set_there structs k (Some ms) None fresh)

  others_stay : (j : ℕ) → (k ≡ j → ⊥) → struct_of more j ≡ struct_of structs j
  others_stay j other = ap (λ o. and_then o (λ s. s)) (set_elsewhere structs k j (Some ms) other)

  none_before : struct_of structs k ≡ None
  none_before = ap (λ o. and_then o (λ s. s)) fresh

  either : (j : ℕ) → (k ≡ j) ⊎ (k ≡ j → ⊥)
  either j = go three
    where
      three : (k ≡ j) ⊎ ((k < j) ⊎ (j < k))
      three = grind arith

      go : (k ≡ j) ⊎ ((k < j) ⊎ (j < k)) → (k ≡ j) ⊎ (k ≡ j → ⊥)
      go (inl e) = inl e
      go (inr (inl l)) = inr (λ e. omega arith)
      go (inr (inr l)) = inr (λ e. omega arith)

  extends : Extends structs more
  extends j old p = go (either j)
    where
      go : (k ≡ j) ⊎ (k ≡ j → ⊥) → struct_of more j ≡ Some old
      go (inl e) = nothing old (sym none_before ∙ (ap (struct_of structs) e ∙ p))
      go (inr other) = others_stay j other ∙ p

  pub layout_there : (l : LayoutTree) → members_layout (layout_of structs) ms ≡ Some l → layout_of more k ≡ Some l
  layout_there l p =
      ap (λ d. layouts_within d more k) (one_more structs k ms fresh)
      ∙ (ap (λ o. and_then o (members_layout (layouts_within (defined_structs structs) more))) member_there
      ∙ layout_kept (layout_of structs) (layouts_within (defined_structs structs) more) (layouts_kept (defined_structs structs) (defined_structs structs) (omega arith) structs more extends) ms l p)

  no_layout : (d : ℕ) (any : Structs) (j : ℕ) → struct_of any j ≡ None → layouts_within d any j ≡ None
  no_layout zero any j p = refl
  no_layout (suc d) any j p = ap (λ o. and_then o (members_layout (layouts_within d any))) p

  pub layout_elsewhere : (j : ℕ) → (k ≡ j → ⊥) → ((old : List MemberTree) → struct_of structs j ≡ Some old → (l : LayoutTree) × (layout_of structs j ≡ Some l)) → layout_of more j ≡ layout_of structs j
  layout_elsewhere j other full = go (struct_of structs j) refl
    where
      go : (o : Option (List MemberTree)) → struct_of structs j ≡ o → layout_of more j ≡ layout_of structs j
      go None p = no_layout (defined_structs more) more j (others_stay j other ∙ p) ∙ sym (no_layout (defined_structs structs) structs j p)
      go (Some old) p =
          let f = full old p in
          let deeper : defined_structs more ≡ suc (defined_structs structs) = one_more structs k ms fresh in
          layouts_kept (defined_structs structs) (defined_structs more) (omega arith) structs more extends j f.0 f.1 ∙ sym f.1

-- ---- the structs in code

heads : {X : Type 0} (x y : X) (xs ys : List X) → x ∷ xs ≡ y ∷ ys → x ≡ y
heads x y xs ys e = cc

tails : {X : Type 0} (x y : X) (xs ys : List X) → x ∷ xs ≡ y ∷ ys → xs ≡ ys
tails x y xs ys e = cc

full : {A B C : Type 0} (f : A → C) (m : Option A) (l : Option B) (old : C) → is_some l ≡ is_some m → option_map f m ≡ Some old → (x : B) × (l ≡ Some x)
full f None l old has p = nothing old p
full f (Some a) None old has p = absurd (wrong has)
  where
    wrong : false ≡ true → ⊥
    wrong e = cc
full f (Some a) (Some x) old has p = (x, refl)

-- a struct that has members has a layout
kept_full : (items : List StructType) → map has_layout items ≡ map has_members items → (j : ℕ) (old : List MemberTree) → struct_of (structs_tree items) j ≡ Some old → (l : LayoutTree) × (kept_layouts items j ≡ Some l)
kept_full [] whole j old p = nothing old p
kept_full (s ∷ items) whole zero old p =
    let f = full (λ ms. map member_tree ms.entries) s.members s.layout old (heads (has_layout s) (has_members s) (map has_layout items) (map has_members items) whole) p in
    (layout_tree f.0, ap (option_map layout_tree) f.1)
kept_full (s ∷ items) whole (suc j) old p =
    kept_full items (tails (has_layout s) (has_members s) (map has_layout items) (map has_members items) whole) j old p

-- ---- what the structs of a unit keep

abbrev KeepsLayouts : List StructType → Type 0
KeepsLayouts items = (j : ℕ) → kept_layouts items j ≡ layout_of (structs_tree items) j

pub defined_whole : (items : List StructType) (k : ℕ) (s : StructType) → map has_layout items ≡ map has_members items → has_layout s ≡ has_members s → map has_layout (slice_set items k s) ≡ map has_members (slice_set items k s)
defined_whole items k s whole has =
    map-set has_layout items k s
    ∙ (ap (λ bs. slice_set bs k (has_layout s)) whole
    ∙ (ap (λ b. slice_set (map has_members items) k b) has ∙ sym (map-set has_members items k s)))

pub defined_keeps : (items : List StructType) (k : ℕ) (s : StructType) (ms : List MemberTree) (l : LayoutTree) → KeepsLayouts items → map has_layout items ≡ map has_members items → slice_get (structs_tree items) k ≡ Some None → struct_tree s ≡ Some ms → option_map layout_tree s.layout ≡ Some l → members_layout (layout_of (structs_tree items)) ms ≡ Some l → KeepsLayouts (slice_set items k s)
defined_keeps items k s ms l kept whole fresh has lays sized j =
    go (either (structs_tree items) k ms fresh j)
    ∙ ap (λ structs. layout_of structs j) (sym (map-set struct_tree items k s ∙ ap (slice_set (structs_tree items) k) has))
  where
    there : {X Y : Type 0} (f : X → Y) (xs : List X) (k : ℕ) (y : Y) → slice_get (map f xs) k ≡ Some y → (x : X) × (slice_get xs k ≡ Some x)
    there f [] k y p = nothing y p
    there f (x ∷ xs) zero y p = (x, refl)
    there f (x ∷ xs) (suc k) y p = there f xs k y p

    go : (k ≡ j) ⊎ (k ≡ j → ⊥) → kept_layouts (slice_set items k s) j ≡ layout_of (slice_set (structs_tree items) k (Some ms)) j
    go (inl e) =
        let old = there struct_tree items k None fresh in
        ap (kept_layouts (slice_set items k s)) (sym e)
        ∙ (ap (λ o. and_then o (λ s. option_map layout_tree s.layout)) (set_there items k s old.0 old.1)
        ∙ (lays
        ∙ (sym (layout_there (structs_tree items) k ms fresh l sized) ∙ ap (layout_of (slice_set (structs_tree items) k (Some ms))) e)))
    go (inr other) =
        ap (λ o. and_then o (λ s. option_map layout_tree s.layout)) (set_elsewhere items k j s other)
        ∙ (kept j
        ∙ sym (layout_elsewhere (structs_tree items) k ms fresh j other (λ old p. let f = kept_full items whole j old p in (f.0, sym (kept j) ∙ f.1))))

-- ---- a struct that is declared

struct_behind : (structs : Structs) (j : ℕ) → struct_of (structs ++ None ∷ []) j ≡ struct_of structs j
struct_behind [] zero = refl
struct_behind [] (suc j) = refl
struct_behind (s ∷ structs) zero = refl
struct_behind (s ∷ structs) (suc j) = struct_behind structs j

none_more : (structs : Structs) → defined_structs (structs ++ None ∷ []) ≡ defined_structs structs
none_more [] = refl
none_more (None ∷ structs) = none_more structs
none_more (Some ms ∷ structs) = ap suc (none_more structs)

same_layouts : (d : ℕ) (structs : Structs) → layouts_within d (structs ++ None ∷ []) ≡ layouts_within d structs
same_layouts zero structs = refl
same_layouts (suc d) structs =
    fun_ext (λ j. ap (λ o. and_then o (members_layout (layouts_within d (structs ++ None ∷ [])))) (struct_behind structs j)
    ∙ ap (λ (layouts : Layouts). and_then (struct_of structs j) (members_layout layouts)) (same_layouts d structs))

kept_behind : (items : List StructType) (s : StructType) → option_map layout_tree s.layout ≡ None → (j : ℕ) → kept_layouts (items ++ s ∷ []) j ≡ kept_layouts items j
kept_behind [] s none zero = none
kept_behind [] s none (suc j) = refl
kept_behind (x ∷ items) s none zero = refl
kept_behind (x ∷ items) s none (suc j) = kept_behind items s none j

pub declared_keeps : (items : List StructType) (s : StructType) → KeepsLayouts items → struct_tree s ≡ None → option_map layout_tree s.layout ≡ None → KeepsLayouts (items ++ s ∷ [])
declared_keeps items s kept is none j =
    kept_behind items s none j
    ∙ (kept j
    ∙ (ap (λ d. layouts_within d (structs_tree items) j) (sym (none_more (structs_tree items)))
    ∙ (ap (λ (layouts : Layouts). layouts j) (sym (same_layouts (defined_structs (structs_tree items ++ None ∷ [])) (structs_tree items)))
    ∙ ap (λ structs. layout_of structs j) (sym (map-append struct_tree items (s ∷ []) ∙ ap (λ t. structs_tree items ++ t ∷ []) is)))))

-- ---- one struct behind the others, where there is room for it

pub pushed_keeps : (b : Bool) (items now : List StructType) (s : StructType) → now ≡ (if b then items ++ s ∷ [] else items) → KeepsLayouts items → struct_tree s ≡ None → option_map layout_tree s.layout ≡ None → KeepsLayouts now
pushed_keeps true items now s e kept is none = subst KeepsLayouts (sym e) (declared_keeps items s kept is none)
pushed_keeps false items now s e kept is none = subst KeepsLayouts (sym e) kept

pub pushed_whole : (b : Bool) (items now : List StructType) (s : StructType) → now ≡ (if b then items ++ s ∷ [] else items) → map has_layout items ≡ map has_members items → has_layout s ≡ has_members s → map has_layout now ≡ map has_members now
pushed_whole true items now s e whole has =
    ap (map has_layout) e
    ∙ (map-append has_layout items (s ∷ [])
    ∙ (ap (λ bs. bs ++ has_layout s ∷ []) whole
    ∙ (ap (λ b. map has_members items ++ b ∷ []) has
    ∙ (sym (map-append has_members items (s ∷ [])) ∙ ap (map has_members) (sym e)))))
pushed_whole false items now s e whole has = ap (map has_layout) e ∙ (whole ∙ ap (map has_members) (sym e))

-- what `get` answers
pub item : {X : Type 0} (xs : List X) (k : ℕ) (r : Option (Bor X)) → ItemBy (λ (x : Bor X). x.now) xs k k r → option_copied r ≡ slice_get xs k
item xs k None h = sym (slice_get_past xs k h.3)
item xs k (Some x) h = sym (slice_get-get_or xs k x.now h.3.0 ∙ ap Some (sym h.1))

-- ---- one struct given its members

types_of_members : (es : List (List ℕ × CType)) → member_types (map member_tree es) ≡ map type_tree (values_of es)
types_of_members [] = refl
types_of_members (x ∷ es) = ap (λ ts. type_tree x.1 ∷ ts) (types_of_members es)

-- a layout that is within the limit is that of the members
pub members_sized : (layouts : Layouts) (es : List (List ℕ × CType)) (l : LayoutTree) → sized_layout layouts (map type_tree (values_of es)) ≡ Some l → members_layout layouts (map member_tree es) ≡ Some l
members_sized layouts es l p =
    ap (λ ts. and_then (extents_by layouts ts) (λ xs. Some (struct_layout xs))) (types_of_members es)
    ∙ sized_is_layout layouts (map type_tree (values_of es)) l p

pub defined_tree : (items : List StructType) (k : ℕ) (s : StructType) (ms : List MemberTree) → struct_tree s ≡ Some ms → structs_tree (slice_set items k s) ≡ slice_set (structs_tree items) k (Some ms)
defined_tree items k s ms has = map-set struct_tree items k s ∙ ap (slice_set (structs_tree items) k) has
