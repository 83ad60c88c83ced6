-- When operations on pointers are defined.
use Rattle.std.proofs.Common.{◌≡◌, ◌⊎◌, ◌↔◌, inl, inr, ⊎_elim, ℕ, ◌<◌, ◌≤◌, ◌==◌, ◌&&◌, nat_lt, nat_le, Bool, true, false, if◌then◌else◌}
use Rattle.std.proofs.Common.{Option, Some, IsSome, ℤ, pos, negsuc, ◌+ℤ◌, refl, sym, ap, ap₂, ◌∙◌, subst, arith}
use Rattle.std.proofs.lemmas.Bool.{cases_eq}
use Rattle.std.proofs.lemmas.Bool.Decides.{nat_tests}
use Rattle.std.proofs.lemmas.Option.{same_Some}
use Rattle.qs_memory.specs.Partial.{◌>>=◌, only_if}
use Rattle.qs_memory.specs.Values.{Pointer, null, into}
use Rattle.qs_memory.specs.Memory.{Memory, block_at, Target, target}
use Rattle.qs_memory.specs.Soundness.{IsLive}
use Rattle.qs_memory.specs.Pointers.{within, moved, in_one_block, same_target, equal}
use Rattle.qs_memory.specs.Accesses.{IsMoved, AreInOneBlock, AreComparable}
use Rattle.qs_memory.specs.Laws.{PointersAreDefined}
use Rattle.qs_memory.proofs.Options.{followed, only_if_some, only_if_value, answer_of, some_is}
use Rattle.qs_memory.proofs.BlockLaws.{target_is}

target_live : (m : Memory) (b o : ℕ) → IsLive m b → target m (into b o) ≡ Some (record { block = b; offset = o })
target_live m b o live = ap (λ l. only_if l (Some (record { block = b; offset = o }))) live

abbrev block_in : Pointer → ℕ
block_in null = 0
block_in (into b o) = b

abbrev offset_in : Pointer → ℕ
offset_in null = 0
offset_in (into b o) = o

-- ---- moves

record Within (size : ℕ) (z : ℤ) (offset : ℕ) : Type 0 where
  pub is : z ≡ pos offset
  pub inside : offset ≤ size

within_is : (size : ℕ) (z : ℤ) (offset : ℕ) → within size z ≡ Some offset → Within size z offset
within_is size (pos n) offset h =
    let c = only_if_value (nat_le n size) n offset h in
    let low : n ≤ size = grind (arith, nat_tests, c.0) in
    record { is = ap pos c.1; inside = subst (λ (k : ℕ). k ≤ size) c.1 low }
within_is size (negsuc n) offset h = cc

pub move_needs : (m : Memory) (p q : Pointer) (bytes : ℤ) → moved m p bytes ≡ Some q → IsMoved m p bytes q
move_needs m p q bytes h =
    let a = followed (target m p) _ q h in
    let t : Target = a.value in
    let is = target_is m p t a.first in
    let b = followed (within (block_at m t.block).size (pos t.offset +ℤ bytes)) _ q a.then in
    let w = within_is (block_at m t.block).size (pos t.offset +ℤ bytes) b.value b.first in
    record {
      block = t.block;
      old = t.offset;
      new = b.value;
      begins = is.is;
      gives = sym (same_Some _ q b.then);
      live = is.live;
      inside = w.inside;
      distance = w.is;
    }

pub move_allowed : (m : Memory) (p q : Pointer) (bytes : ℤ) → IsMoved m p bytes q → moved m p bytes ≡ Some q
move_allowed m p q bytes h =
    let low = h.inside in
    let test : nat_le h.new (block_at m h.block).size ≡ true = grind (arith, nat_tests, low) in
    ap (λ (r : Pointer). moved m r bytes) h.begins
    ∙ ap (λ o. o >>= λ (t : Target). within (block_at m t.block).size (pos t.offset +ℤ bytes) >>= λ offset. Some (into t.block offset)) (target_live m h.block h.old h.live)
    ∙ ap (λ z. within (block_at m h.block).size z >>= λ offset. Some (into h.block offset)) h.distance
    ∙ ap (λ b. only_if b (Some h.new) >>= λ offset. Some (into h.block offset)) test
    ∙ ap Some (sym h.gives)

-- ---- order

pub order_needs : (m : Memory) (p q : Pointer) (test : ℕ → ℕ → Bool) → IsSome (in_one_block m p q (λ i j. Some (test i j))) → AreInOneBlock m p q
order_needs m p q test h =
    let w = answer_of (in_one_block m p q (λ i j. Some (test i j))) h in
    let a = followed (target m p) _ w.value w.is in
    let b = followed (target m q) _ w.value a.then in
    let c = only_if_some (a.value.block == b.value.block) _ w.value b.then in
    let first = target_is m p a.value a.first in
    let second = target_is m q b.value b.first in
    let one : b.value.block ≡ a.value.block = grind (arith, nat_tests, c.0) in
    record {
      block = a.value.block;
      left = a.value.offset;
      right = b.value.offset;
      first = first.is;
      second = second.is ∙ ap (λ k. into k b.value.offset) one;
      live = first.live;
    }

pub order_allowed : (m : Memory) (p q : Pointer) (test : ℕ → ℕ → Bool) → AreInOneBlock m p q → IsSome (in_one_block m p q (λ i j. Some (test i j)))
order_allowed m p q test h =
    let same : (h.block == h.block) ≡ true = grind (arith, nat_tests) in
    some_is (in_one_block m p q (λ i j. Some (test i j))) (test h.left h.right)
    (ap₂ (λ x y. in_one_block m x y (λ i j. Some (test i j))) h.first h.second
    ∙ ap₂ (λ x y. x >>= λ (t : Target). y >>= λ (u : Target). only_if (t.block == u.block) (Some (test t.offset u.offset)))
    (target_live m h.block h.left h.live) (target_live m h.block h.right h.live)
    ∙ ap (λ b. only_if b (Some (test h.left h.right))) same)

-- ---- equality

-- two targets of live blocks
abbrev pair : Memory → (b i c j : ℕ) → Option Bool
pair m b i c j = same_target m (record { block = b; offset = i }) (record { block = c; offset = j })

both_live : (m : Memory) (b i c j : ℕ) → IsLive m b → IsLive m c → equal m (into b i) (into c j) ≡ pair m b i c j
both_live m b i c j first second =
    ap₂ (λ x y. x >>= λ (t : Target). y >>= λ (u : Target). same_target m t u) (target_live m b i first) (target_live m c j second)

record IsPair (m : Memory) (b i c j : ℕ) (answer : Bool) : Type 0 where
  pub first : IsLive m b
  pub second : IsLive m c
  pub gives : pair m b i c j ≡ Some answer

pair_of : (m : Memory) (b i c j : ℕ) (answer : Bool) → equal m (into b i) (into c j) ≡ Some answer → IsPair m b i c j answer
pair_of m b i c j answer h =
    let a = followed (target m (into b i)) _ answer h in
    let d = followed (target m (into c j)) _ answer a.then in
    let first = (only_if_value (block_at m b).is_live _ a.value a.first).0 in
    let second = (only_if_value (block_at m c).is_live _ d.value d.first).0 in
    record { first = first; second = second; gives = sym (both_live m b i c j first second) ∙ h }

pair_same : (m : Memory) (b i c j : ℕ) → b ≡ c → pair m b i c j ≡ Some (i == j)
pair_same m b i c j e =
    let test : (b == c) ≡ true = grind (arith, nat_tests, e) in
    ap (λ x. if x then Some (i == j) else only_if (nat_lt i (block_at m b).size && nat_lt j (block_at m c).size) (Some false)) test

pair_other :
    (m : Memory) (b i c j : ℕ) → (b ≡ c → ⊥) → pair m b i c j ≡ only_if (nat_lt i (block_at m b).size && nat_lt j (block_at m c).size) (Some false)
pair_other m b i c j e =
    let test : (b == c) ≡ false = grind (arith, nat_tests, e) in
    ap (λ x. if x then Some (i == j) else only_if (nat_lt i (block_at m b).size && nat_lt j (block_at m c).size) (Some false)) test

pub equal_needs : (m : Memory) (p q : Pointer) → IsSome (equal m p q) → AreComparable m p q
equal_needs m null null h = tt
equal_needs m null (into c j) h =
    let w = answer_of (equal m null (into c j)) h in
    let a = followed (target m (into c j)) _ w.value w.is in
    (only_if_value (block_at m c).is_live _ a.value a.first).0
equal_needs m (into b i) null h =
    let w = answer_of (equal m (into b i) null) h in
    let a = followed (target m (into b i)) _ w.value w.is in
    (only_if_value (block_at m b).is_live _ a.value a.first).0
equal_needs m (into b i) (into c j) h =
    let w = answer_of (equal m (into b i) (into c j)) h in
    let is = pair_of m b i c j w.value w.is in
    (is.first, (is.second, ⊎_elim (λ same. inl same) (λ other. inr (inside w.value (sym (pair_other m b i c j other) ∙ is.gives))) (cases_eq b c)))
  where
    inside :
        (answer : Bool) → only_if (nat_lt i (block_at m b).size && nat_lt j (block_at m c).size) (Some false) ≡ Some answer
        → (i < (block_at m b).size) × (j < (block_at m c).size)
    inside answer e =
        let t = (only_if_value (nat_lt i (block_at m b).size && nat_lt j (block_at m c).size) false answer e).0 in
        let x : i < (block_at m b).size = grind (arith, nat_tests, t) in
        let y : j < (block_at m c).size = grind (arith, nat_tests, t) in
        (x, y)

pub equal_allowed : (m : Memory) (p q : Pointer) → AreComparable m p q → IsSome (equal m p q)
equal_allowed m null null h = refl
equal_allowed m null (into c j) h = some_is (equal m null (into c j)) false (ap (λ o. o >>= λ t. Some false) (target_live m c j h))
equal_allowed m (into b i) null h = some_is (equal m (into b i) null) false (ap (λ o. o >>= λ t. Some false) (target_live m b i h))
equal_allowed m (into b i) (into c j) h =
    ⊎_elim
    (λ (same : b ≡ c). some_is (equal m (into b i) (into c j)) (i == j) (both_live m b i c j h.0 h.1.0 ∙ pair_same m b i c j same))
    (λ other. some_is (equal m (into b i) (into c j)) false (both_live m b i c j h.0 h.1.0 ∙ pair_other m b i c j other ∙ inside other h.1.1))
    (cases_eq b c)
  where
    inside :
        (b ≡ c → ⊥) → (b ≡ c) ⊎ ((i < (block_at m b).size) × (j < (block_at m c).size))
        → only_if (nat_lt i (block_at m b).size && nat_lt j (block_at m c).size) (Some false) ≡ Some false
    inside other (inl same) = absurd (other same)
    inside other (inr both) =
        let x = both.0 in
        let y = both.1 in
        let test : (nat_lt i (block_at m b).size && nat_lt j (block_at m c).size) ≡ true = grind (arith, nat_tests, x, y) in
        ap (λ t. only_if t (Some false)) test

null_differs : (b o : ℕ) → null ≡ into b o → ⊥
null_differs b o e = let no_way : false ≡ true = ap is_into e in cc
  where
    is_into : Pointer → Bool
    is_into null = false
    is_into (into x y) = true

never : (o : Option Target) (answer : Bool) → (o >>= λ t. Some false) ≡ Some answer → answer ≡ true → ⊥
never o answer h e =
    let a = followed o (λ t. Some false) answer h in
    let no_way : false ≡ true = same_Some false answer a.then ∙ e in
    cc

pub equal_same : (m : Memory) (p q : Pointer) (answer : Bool) → equal m p q ≡ Some answer → (answer ≡ true) ↔ (p ≡ q)
equal_same m null null answer h = (λ e. refl, λ e. sym (same_Some true answer h))
equal_same m null (into c j) answer h = (λ e. absurd (never (target m (into c j)) answer h e), λ e. absurd (null_differs c j e))
equal_same m (into b i) null answer h = (λ e. absurd (never (target m (into b i)) answer h e), λ e. absurd (null_differs b i (sym e)))
equal_same m (into b i) (into c j) answer h =
    let is = pair_of m b i c j answer h in
    ⊎_elim (λ same. in_one same is.gives) (λ other. in_two other is.gives) (cases_eq b c)
  where
    in_one : b ≡ c → pair m b i c j ≡ Some answer → (answer ≡ true) ↔ (into b i ≡ into c j)
    in_one same gives =
        let test : (i == j) ≡ answer = same_Some (i == j) answer (sym (pair_same m b i c j same) ∙ gives) in (
          λ e.
              let there : (i == j) ≡ true = test ∙ e in
              let offsets : i ≡ j = grind (arith, nat_tests, there) in
              ap₂ (λ x y. into x y) same offsets,
          λ e.
              let offsets : i ≡ j = ap offset_in e in
              let there : (i == j) ≡ true = grind (arith, nat_tests, offsets) in
              sym test ∙ there,
        )

    in_two : (b ≡ c → ⊥) → pair m b i c j ≡ Some answer → (answer ≡ true) ↔ (into b i ≡ into c j)
    in_two other gives =
        let is = (only_if_value (nat_lt i (block_at m b).size && nat_lt j (block_at m c).size) false answer (sym (pair_other m b i c j other) ∙ gives)).1 in
        (λ e. let no_way : false ≡ true = is ∙ e in cc, λ e. absurd (other (ap block_in e)))

pub pointers_are_defined : PointersAreDefined
pointers_are_defined = record {
  moved = λ m p q bytes. (move_needs m p q bytes, move_allowed m p q bytes);
  ordered = λ m p q test. (order_needs m p q test, order_allowed m p q test);
  compared = λ m p q. (equal_needs m p q, equal_allowed m p q);
  same = equal_same;
}
