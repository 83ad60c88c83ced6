-- The size that is counted of a declared type is its size.
use Rattle.std.proofs.Common.{◌≡◌, ◌≤◌, ℕ, nat_le, Bool, true, false, Option, Some, None, sym, ap, ◌∙◌, arith, if◌then◌else◌}
use Rattle.std.proofs.lemmas.Bool.Decides.{nat_tests}
use Rattle.std.specs.Cmp.{first_so, second_so}
use Rattle.std.proofs.lemmas.Option.{same_Some}
use Rattle.qs_types.specs.declared.extent.Extent.{Extent}
use Rattle.qs_types.specs.Types.{TypeTree, int, unsigned, char, void, pointer, array, struct, Structs}
use Rattle.qs_types.specs.Layout.{and_then, StructLayout, struct_extent, layout_of, extent_of, size_of, size_limit, extent_within, sized_by}
use Rattle.qs_types.specs.Limits.{extent_size, type_size}
use Rattle.qs_meaning.proofs.Options.{nothing, Known, known}
use Rattle.qs_meaning.proofs.FitTypes.{is_small, SmallTable, sized_is, size_room}

size_in : (structs : Structs) (t : TypeTree) (e : Extent) (n : ℕ) → extent_of structs t ≡ Some e → size_of structs t ≡ Some n → e.size ≡ n
size_in structs t e n h q = same_Some e.size n (sym (ap (λ o. and_then o (λ (e : Extent). Some e.size)) h) ∙ q)

struct_size :
    (o : Option StructLayout) (n : ℕ) → and_then (and_then o (λ l. Some (struct_extent l))) (λ (e : Extent). Some e.size) ≡ Some n → n ≤ 16777216
    → extent_size (and_then o (λ l. extent_within (struct_extent l))) ≡ n
struct_size None n q most = nothing n q
struct_size (Some l) n q most = by (nat_le (struct_extent l).size size_limit) (within (struct_extent l).size n (same_Some (struct_extent l).size n q) most)
  where
    within : (size n : ℕ) → size ≡ n → n ≤ 16777216 → nat_le size size_limit ≡ true
    within size n e most = grind (arith, nat_tests)

    by : (b : Bool) → b ≡ true → extent_size (if b then Some (struct_extent l) else None) ≡ n
    by true e = same_Some (struct_extent l).size n q
    by false e = absurd (not_so e)
      where
        not_so : false ≡ true → ⊥
        not_so e = cc

-- where it is complete, and its table has no type that is too large
pub declared_size : (structs : Structs) → SmallTable structs → (t : TypeTree) → is_small structs t ≡ true → (n : ℕ) → size_of structs t ≡ Some n
    → type_size structs (Some t) ≡ n
declared_size structs table int s n q = same_Some _ n q
declared_size structs table unsigned s n q = same_Some _ n q
declared_size structs table char s n q = same_Some _ n q
declared_size structs table void s n q = nothing n q
declared_size structs table (pointer t) s n q = same_Some _ n q
declared_size structs table (array t m) s n q =
    let k : Known (sized_by (layout_of structs) (array t m)) = known _ (second_so (nat_le 1 m) _ (first_so _ _ s)) in
    ap extent_size k.is ∙ size_in structs (array t m) k.value n (sized_is (layout_of structs) (array t m) k.value k.is) q
declared_size structs table (struct k) s n q = struct_size (layout_of structs k) n q (size_room structs table (struct k) s n q).most
