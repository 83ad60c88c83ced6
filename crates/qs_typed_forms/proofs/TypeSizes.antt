-- Sizes of types.
use Rattle.std.proofs.Common.{◌≡◌, Bool, true, false, Option, Some, None, nat_le, refl, sym, ap, ◌∙◌, if◌then◌else◌}
use Rattle.std.proofs.lemmas.Option.{same_Some}
use Rattle.qs_types.specs.declared.extent.Extent.{Extent}
use Rattle.qs_types.specs.Types.{TypeTree, int, unsigned, char, void, pointer, array, struct, Structs}
use Rattle.qs_types.specs.Layout.{and_then, Layouts, StructLayout, extent_by, extent_of, sized_by, layout_of, extent_within, array_extent, struct_extent, size_limit}

nothing : {A B : Type 0} (x : A) → None ≡ Some x → B
nothing x e = absurd (no x e)
  where
    no : {A : Type 0} (x : A) → None ≡ Some x → ⊥
    no x e = cc

within_is : (x e : Extent) → extent_within x ≡ Some e → x ≡ e
within_is x e = go (nat_le x.size size_limit)
  where
    go : (b : Bool) → (if b then Some x else None) ≡ Some e → x ≡ e
    go true p = same_Some x e p
    go false p = nothing e p

-- a size within the limit is the size
sized_is : (layouts : Layouts) (t : TypeTree) (e : Extent) → sized_by layouts t ≡ Some e → extent_by layouts t ≡ Some e
sized_is layouts int e p = p
sized_is layouts unsigned e p = p
sized_is layouts char e p = p
sized_is layouts void e p = p
sized_is layouts (pointer t) e p = p
sized_is layouts (array t n) e p = go (sized_by layouts t) (sized_is layouts t) p
  where
    go : (o : Option Extent) → ((x : Extent) → o ≡ Some x → extent_by layouts t ≡ Some x) → and_then o (λ x. extent_within (array_extent x n)) ≡ Some e
        → and_then (extent_by layouts t) (λ x. Some (array_extent x n)) ≡ Some e
    go None h q = nothing e q
    go (Some x) h q = ap (λ o. and_then o (λ x. Some (array_extent x n))) (h x refl) ∙ ap Some (within_is (array_extent x n) e q)
sized_is layouts (struct k) e p = go (layouts k) p
  where
    go : (o : Option StructLayout) → and_then o (λ l. extent_within (struct_extent l)) ≡ Some e → and_then o (λ l. Some (struct_extent l)) ≡ Some e
    go None q = nothing e q
    go (Some l) q = ap Some (within_is (struct_extent l) e q)

pub extent_is : (structs : Structs) (t : TypeTree) (e : Extent) (o : Option Extent) → o ≡ sized_by (layout_of structs) t → o ≡ Some e → extent_of structs t ≡ Some e
extent_is structs t e o p q = sized_is (layout_of structs) t e (sym p ∙ q)
