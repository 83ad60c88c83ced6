-- Pointers to members and elements, one behind another.
use Rattle.std.proofs.Common.{◌≡◌, ℕ, ◌+◌, Bool, true, false, Option, Some, None, refl, sym, ap, ◌∙◌, arith}
use Rattle.std.specs.Prelude.{nat_le}
use Rattle.std.proofs.Math.IntN.{pos-+ℤ-pos}
use Rattle.std.proofs.lemmas.Bool.Decides.{nat_tests}
use Rattle.qs_memory.specs.Partial.{◌>>=◌, only_if}
use Rattle.qs_memory.specs.Values.{Pointer, null, into, Value, integer, address, as_pointer}
use Rattle.qs_memory.specs.Memory.{Memory, block_at, Target, target}
use Rattle.qs_memory.specs.Pointers.{within, member_of}
use Rattle.qs_memory.specs.Operations.{apply_binary}
use Rattle.qs_memory.specs.declared.operation.Signedness.{Signedness}
use Rattle.qs_memory.specs.declared.operation.Direction.TheVariants.{Up}
use Rattle.qs_memory.specs.declared.operation.BinaryOperation.TheVariants as binaries
use Rattle.qs_tac.specs.Values.{member_at}
use Rattle.qs_lower_expressions.specs.Expressions.{further}
use Rattle.qs_lower_expressions.proofs.OperandLaws.{PointerOrNone}

pub bind_some : {A : Type 0} (o : Option A) → (o >>= λ a. Some a) ≡ o
bind_some None = refl
bind_some (Some a) = refl

pub bind_bind : {A B C : Type 0} (o : Option A) (f : A → Option B) (g : B → Option C) → ((o >>= f) >>= g) ≡ (o >>= λ a. f a >>= g)
bind_bind None f g = refl
bind_bind (Some a) f g = refl

pub bind_same : {A B : Type 0} (o : Option A) (f g : A → Option B) → ((a : A) → f a ≡ g a) → (o >>= f) ≡ (o >>= g)
bind_same None f g h = refl
bind_same (Some a) f g h = h a

pub pointer_value : (o : Option Value) → PointerOrNone o → o ≡ ((o >>= as_pointer) >>= λ q. Some (address q))
pointer_value None h = refl
pointer_value (Some (integer n)) h = absurd h
pointer_value (Some (address p)) h = refl

-- ---- members

abbrev member_place : Memory → (offset : ℕ) → Target → Option Pointer
member_place m n t = only_if (nat_le (t.offset + n) (block_at m t.block).size) (Some (into t.block (t.offset + n)))

only_if_bind : {A B : Type 0} (b : Bool) (x : A) (f : A → Option B) → (only_if b (Some x) >>= f) ≡ only_if b (f x)
only_if_bind true x f = refl
only_if_bind false x f = refl

member_is : (m : Memory) (q : Pointer) (n : ℕ) → member_of m q n ≡ (target m q >>= member_place m n)
member_is m q n =
    bind_same (target m q) _ _
    (λ t.
    ap (λ i. within (block_at m t.block).size i >>= λ offset. Some (into t.block offset)) (pos-+ℤ-pos t.offset n)
    ∙ only_if_bind (nat_le (t.offset + n) (block_at m t.block).size) (t.offset + n) (λ offset. Some (into t.block offset)))

module _ (m : Memory) (b o i j : ℕ) where
  abbrev size : ℕ
  size = (block_at m b).size

  member_again : (live : Bool) → (block_at m b).is_live ≡ live → (only_if live (Some (record { block = b; offset = o })) >>= member_place m (i + j))
      ≡ ((only_if live (Some (record { block = b; offset = o })) >>= member_place m i) >>= λ r. member_of m r j)
  member_again false is = refl
  member_again true is = first (nat_le (o + i) size) refl
    where
      there : member_of m (into b (o + i)) j ≡ member_place m j (record { block = b; offset = o + i })
      there = member_is m (into b (o + i)) j ∙ ap (λ l. only_if l (Some (record { block = b; offset = o + i })) >>= member_place m j) is

      first :
          (x : Bool) → nat_le (o + i) size ≡ x
          → member_place m (i + j) (record { block = b; offset = o }) ≡ (only_if x (Some (into b (o + i))) >>= λ r. member_of m r j)
      first true h = let same : o + (i + j) ≡ o + i + j = omega arith in
          ap (λ k. only_if (nat_le k size) (Some (into b k))) same ∙ sym there
      first false h = let far : nat_le (o + (i + j)) size ≡ false = grind (arith, nat_tests, h) in
          ap (λ y. only_if y (Some (into b (o + (i + j))))) far

pub member_sum : (m : Memory) (q : Pointer) (i j : ℕ) → member_of m q (i + j) ≡ (member_of m q i >>= λ r. member_of m r j)
member_sum m null i j = refl
member_sum m (into b o) i j =
    member_is m (into b o) (i + j)
    ∙ member_again m b o i j (block_at m b).is_live refl
    ∙ ap (λ p. p >>= λ r. member_of m r j) (sym (member_is m (into b o) i))

pub further_member : (m : Memory) (q : Pointer) (o : Option ℕ) (n : ℕ) → member_at m (Some (further o n)) q ≡ (member_at m o q >>= λ r. member_of m r n)
further_member m q None n = let same : 0 + n ≡ n = omega arith in ap (member_of m q) same
further_member m q (Some k) n = member_sum m q k n

-- ---- elements

-- the element that a number counts, as a pointer
pub element_same :
    (m : Memory) (s : Signedness) (element : ℕ) (v w : Option Value)
    → ((v >>= λ x. w >>= λ y. apply_binary (binaries.Move Up s element) m x y) >>= as_pointer)
    ≡ ((v >>= as_pointer) >>= λ r. w >>= λ y. apply_binary (binaries.Move Up s element) m (address r) y >>= λ z. as_pointer z >>= λ q. Some q)
element_same m s element None w = refl
element_same m s element (Some (integer n)) None = refl
element_same m s element (Some (integer n)) (Some y) = refl
element_same m s element (Some (address p)) None = refl
element_same m s element (Some (address p)) (Some y) =
    sym (bind_same (apply_binary (binaries.Move Up s element) m (address p) y) _ _ (λ z. bind_some (as_pointer z)))
