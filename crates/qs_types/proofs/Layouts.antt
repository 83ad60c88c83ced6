-- Members lie in order, aligned, apart, within the struct, each as near to the front as it may.
use Rattle.std.proofs.Common.{◌≡◌, ◌≤◌, ◌<◌, ℕ, zero, suc, ◌+◌, ◌%◌, inl, inr, List, [], ◌∷◌, Some, max, refl, sym, ap, ◌∙◌, subst, arith, length}
use Rattle.std.specs.List.{slice_get}
use Rattle.std.proofs.Math.Nat.{le-max_left, le-max_right}
use Rattle.std.proofs.lemmas.Option.{same_Some}
use Rattle.qs_types.specs.declared.extent.Extent.{Extent}
use Rattle.qs_types.specs.Layout.{rounded_up, offsets_from, end_from, strictest, struct_layout}
use Rattle.qs_types.specs.LayoutLaws.{IsAlignment, IsLaidOut, Lies}
use Rattle.qs_types.proofs.Options.{nothing}
use Rattle.qs_types.proofs.Rounding.{rounds}

abbrev pub Aligned : List Extent → Type 0
Aligned es = (i : ℕ) (e : Extent) → slice_get es i ≡ Some e → IsAlignment e.alignment

positive : {a : ℕ} → IsAlignment a → 1 ≤ a
positive (inl e) = omega arith
positive (inr e) = omega arith

rest : (e : Extent) (es : List Extent) → Aligned (e ∷ es) → Aligned es
rest e es h i g p = h (suc i) g p

-- what is known of a member among those that are laid out from a place on
record Placed (es : List Extent) (start : ℕ) (e : Extent) (at : ℕ) : Type 0 where
  after : start ≤ at
  aligned : at % e.alignment ≡ 0
  ends : at + e.size ≤ end_from start es

pub ends_after : (es : List Extent) (start : ℕ) → Aligned es → start ≤ end_from start es
ends_after [] start h = omega arith
ends_after (e ∷ es) start h =
    let r = rounds start e.alignment (positive (h zero e refl)) in
    let k = ends_after es (rounded_up start e.alignment + e.size) (rest e es h) in
    let above = r.above in
    omega arith

-- what is laid out first is what stands first
first_placed : (e : Extent) (es : List Extent) (start : ℕ) → Aligned (e ∷ es) → (at : ℕ) → rounded_up start e.alignment ≡ at → Placed (e ∷ es) start e at
first_placed e es start h at p =
    let r = rounds start e.alignment (positive (h zero e refl)) in
    let above = r.above in
    let k = ends_after es (rounded_up start e.alignment + e.size) (rest e es h) in
    record { after = omega arith; aligned = ap (λ o. o % e.alignment) (sym p) ∙ r.multiple; ends = omega arith }

placed : (es : List Extent) (start i : ℕ) (e : Extent) (at : ℕ) → Aligned es → slice_get es i ≡ Some e → slice_get (offsets_from start es) i ≡ Some at → Placed es start e at
placed [] start i e at h p q = nothing e p
placed (x ∷ es) start zero e at h p q =
    subst (λ y. Placed (x ∷ es) start y at) (same_Some x e p) (first_placed x es start h at (same_Some _ at q))
placed (x ∷ es) start (suc i) e at h p q =
    let k = placed es (rounded_up start x.alignment + x.size) i e at (rest x es h) p q in
    let r = rounds start x.alignment (positive (h zero x refl)) in
    let above = r.above in
    let after = k.after in
    record { after = omega arith; aligned = k.aligned; ends = k.ends }

apart : (es : List Extent) (start i j : ℕ) (e f : Extent) (at behind : ℕ) → i < j → Aligned es → slice_get es i ≡ Some e → slice_get (offsets_from start es) i ≡ Some at → slice_get es j ≡ Some f → slice_get (offsets_from start es) j ≡ Some behind → at + e.size ≤ behind
apart [] start i j e f at behind lt h p q r s = nothing e p
apart (x ∷ es) start i zero e f at behind lt h p q r s = absurd (omega arith)
apart (x ∷ es) start zero (suc j) e f at behind lt h p q r s =
    let k = placed es (rounded_up start x.alignment + x.size) j f behind (rest x es h) r s in
    let after = k.after in
    let o = same_Some _ at q in
    let z = ap (λ (n : Extent). n.size) (same_Some x e p) in
    omega arith
apart (x ∷ es) start (suc i) (suc j) e f at behind lt h p q r s =
    apart es (rounded_up start x.alignment + x.size) i j e f at behind (omega arith) (rest x es h) p q r s

-- the second of two members lies at the least place behind the first
second_least : (x : Extent) (es : List Extent) (start : ℕ) (f : Extent) (next n : ℕ) → Aligned es → slice_get es 0 ≡ Some f → slice_get (offsets_from (rounded_up start x.alignment + x.size) es) 0 ≡ Some next → n % f.alignment ≡ 0 → rounded_up start x.alignment + x.size ≤ n → next ≤ n
second_least x [] start f next n h p q d le = nothing f p
second_least x (y ∷ es) start f next n h p q d le =
    let a : y.alignment ≡ f.alignment = ap (λ (n : Extent). n.alignment) (same_Some y f p) in
    let r = rounds (rounded_up start x.alignment + x.size) y.alignment (positive (h zero y refl)) in
    let least = r.least n (ap (λ k. n % k) a ∙ d) le in
    let o = same_Some _ next q in
    omega arith

least : (es : List Extent) (start i : ℕ) (e f : Extent) (at next n : ℕ) → Aligned es → slice_get es i ≡ Some e → slice_get (offsets_from start es) i ≡ Some at → slice_get es (suc i) ≡ Some f → slice_get (offsets_from start es) (suc i) ≡ Some next → n % f.alignment ≡ 0 → at + e.size ≤ n → next ≤ n
least [] start i e f at next n h p q r s d le = nothing e p
least (x ∷ es) start zero e f at next n h p q r s d le =
    let o = same_Some _ at q in
    let z = ap (λ (n : Extent). n.size) (same_Some x e p) in
    second_least x es start f next n (rest x es h) r s d (omega arith)
least (x ∷ es) start (suc i) e f at next n h p q r s d le =
    least es (rounded_up start x.alignment + x.size) i e f at next n (rest x es h) p q r s d le

-- the strictest alignment is 1 or 4, and a multiple of each
max_alignment : (a b : ℕ) → IsAlignment a → IsAlignment b → IsAlignment (max a b)
max_alignment a b (inl e) (inl g) = inl (ap (λ x. max x b) e ∙ ap (max 1) g)
max_alignment a b (inl e) (inr g) = inr (ap (λ x. max x b) e ∙ ap (max 1) g)
max_alignment a b (inr e) (inl g) = inr (ap (λ x. max x b) e ∙ ap (max 4) g)
max_alignment a b (inr e) (inr g) = inr (ap (λ x. max x b) e ∙ ap (max 4) g)

pub strictest_alignment : (es : List Extent) → Aligned es → IsAlignment (strictest es)
strictest_alignment [] h = inl refl
strictest_alignment (e ∷ es) h = max_alignment e.alignment (strictest es) (h zero e refl) (strictest_alignment es (rest e es h))

at_most_strictest : (es : List Extent) (i : ℕ) (e : Extent) → slice_get es i ≡ Some e → e.alignment ≤ strictest es
at_most_strictest [] i e p = nothing e p
at_most_strictest (x ∷ es) zero e p = let a = ap (λ (n : Extent). n.alignment) (same_Some x e p) in let b = le-max_left x.alignment (strictest es) in omega arith
at_most_strictest (x ∷ es) (suc i) e p = let a = at_most_strictest es i e p in let b = le-max_right x.alignment (strictest es) in omega arith

strict : (a b : ℕ) → IsAlignment a → IsAlignment b → a ≤ b → b % a ≡ 0
strict a b (inl e) g le = ap (λ x. b % x) e ∙ omega arith
strict a b (inr e) (inl g) le = absurd (omega arith)
strict a b (inr e) (inr g) le = ap (λ x. b % x) e ∙ ap (λ x. x % 4) g

every : (es : List Extent) (start : ℕ) → length (offsets_from start es) ≡ length es
every [] start = refl
every (e ∷ es) start = ap suc (every es (rounded_up start e.alignment + e.size))

first : (es : List Extent) (e : Extent) (at : ℕ) → Aligned es → slice_get es 0 ≡ Some e → slice_get (offsets_from 0 es) 0 ≡ Some at → at ≡ 0
first [] e at h p q = nothing e p
first (x ∷ es) e at h p q = sym (same_Some _ at q) ∙ up x.alignment (h zero x refl)
  where
    up : (a : ℕ) → IsAlignment a → rounded_up 0 a ≡ 0
    up a (inl e) = ap (rounded_up 0) e
    up a (inr e) = ap (rounded_up 0) e

-- where each member ends before n, so do they all
holds : (es : List Extent) (start n : ℕ) → start ≤ n → ((i : ℕ) (e : Extent) (at : ℕ) → slice_get es i ≡ Some e → slice_get (offsets_from start es) i ≡ Some at → at + e.size ≤ n) → end_from start es ≤ n
holds [] start n le h = le
holds (e ∷ es) start n le h =
    holds es (rounded_up start e.alignment + e.size) n (h zero e (rounded_up start e.alignment) refl refl) (λ i f at p q. h (suc i) f at p q)

pub lays_out : (es : List Extent) → Aligned es → IsLaidOut es (struct_layout es)
lays_out es h =
    let r = rounds (end_from 0 es) (strictest es) (positive (strictest_alignment es h)) in
    let above = r.above in
    record {
      every = every es 0;
      first = λ e at a. first es e at h a.takes a.stands;
      aligned = λ i e at a. (placed es 0 i e at h a.takes a.stands).aligned;
      least = λ i e f at next n a b d le. behind i e f at next n a b d le;
      apart = λ i j e f at behind lt a b. apart es 0 i j e f at behind lt h a.takes a.stands b.takes b.stands;
      within = λ i e at a. let k = placed es 0 i e at h a.takes a.stands in let ends = k.ends in omega arith;
      alignment = strictest_alignment es h;
      strict = λ i e p. strict e.alignment (strictest es) (h i e p) (strictest_alignment es h) (at_most_strictest es i e p);
      multiple = r.multiple;
      tight = λ n d all. r.least n d (holds es 0 n (omega arith) (λ i e at p q. all i e at (record { takes = p; stands = q })));
    }
  where
    next_is : (i : ℕ) → i + 1 ≡ suc i
    next_is i = omega arith

    behind : (i : ℕ) (e f : Extent) (at next n : ℕ) → Lies es (struct_layout es) i e at → Lies es (struct_layout es) (i + 1) f next → n % f.alignment ≡ 0 → at + e.size ≤ n → next ≤ n
    behind i e f at next n a b d le =
        least es 0 i e f at next n h a.takes a.stands
        (ap (slice_get es) (sym (next_is i)) ∙ b.takes) (ap (slice_get (offsets_from 0 es)) (sym (next_is i)) ∙ b.stands) d le
