-- When each step of memory is defined.
use Rattle.std.proofs.Common.{◌≡◌, ◌⊎◌, ◌↔◌, inl, inr, ⊎_elim, ℕ, zero, suc, ◌+◌, ◌*◌, ◌<◌, ◌≤◌, ◌==◌, ◌&&◌, not, nat_lt, Bool, true, false}
use Rattle.std.proofs.Common.{List, ◌∷◌, length, Option, Some, IsSome, refl, sym, ap, ap₂, ◌∙◌, subst, arith}
use Rattle.std.proofs.lemmas.Bool.{cases_eq, cases_lt}
use Rattle.std.proofs.lemmas.Bool.Decides.{nat_tests}
use Rattle.qs_memory.specs.Partial.{◌>>=◌, only_if}
use Rattle.qs_memory.specs.Values.{Pointer, null, into, same_pointer, Value, integer, address, width, has_type}
use Rattle.qs_memory.specs.Memory.{Cell, unset, byte, part, Memory, block_at, Target, range, cells_from, cells_at, with_cells, write_cells, bytes_of, parts_of}
use Rattle.qs_memory.specs.Memory.{cells_of, number_of, are_parts, pointer_of, value_of, load, store, overlap, copy, BlankTree, blank_cells, fill}
use Rattle.qs_memory.specs.Accesses.{MayRead, IsWritable, MayWrite, AreApart, IsByte, AreBytes, AreParts, HasValue, HoldsValue}
use Rattle.qs_memory.specs.Laws.{StepsAreDefined}
use Rattle.qs_memory.specs.declared.scalar.Scalar.{Scalar}
use Rattle.qs_memory.specs.declared.scalar.Scalar.TheVariants as scalars
use Rattle.qs_memory.proofs.Options.{followed, only_if_value, answer_of, some_is, some_then, then_some}
use Rattle.qs_memory.proofs.CellLaws.{pointer_back}
use Rattle.qs_memory.proofs.BlockLaws.{range_is, range_access, access_range}
use Rattle.qs_memory.proofs.StoreLaws.{Wrote, stored, store_gives}
use Rattle.qs_memory.proofs.StepLaws.{copied, filled}

-- ---- cells that are bytes

first_byte : (c : Cell) (cells : List Cell) → IsSome (number_of (c ∷ cells)) → IsByte c × IsSome (number_of cells)
first_byte unset cells h = cc
first_byte (byte b) cells h = (tt, then_some (number_of cells) (λ n. b + 256 * n) h)
first_byte (part p k) cells h = cc

byte_before : (c : Cell) (cells : List Cell) → IsByte c → IsSome (number_of cells) → IsSome (number_of (c ∷ cells))
byte_before unset cells is h = absurd is
byte_before (byte b) cells is h = some_then (number_of cells) (λ n. b + 256 * n) h
byte_before (part p k) cells is h = absurd is

are_bytes : (size : ℕ) (cells : ℕ → Cell) (offset : ℕ) → IsSome (number_of (cells_from cells offset size)) → (i : ℕ) → i < size → IsByte (cells (offset + i))
are_bytes zero cells offset h i lt = absurd (omega arith)
are_bytes (suc size) cells offset h zero lt =
    let same : offset ≡ offset + 0 = omega arith in
    subst (λ (at : ℕ). IsByte (cells at)) same (first_byte (cells offset) (cells_from cells (offset + 1) size) h).0
are_bytes (suc size) cells offset h (suc i) lt =
    let same : offset + 1 + i ≡ offset + suc i = omega arith in
    subst (λ (at : ℕ). IsByte (cells at)) same
    (are_bytes size cells (offset + 1) (first_byte (cells offset) (cells_from cells (offset + 1) size) h).1 i (omega arith))

have_number :
    (size : ℕ) (cells : ℕ → Cell) (offset : ℕ) → ((i : ℕ) → i < size → IsByte (cells (offset + i)))
    → IsSome (number_of (cells_from cells offset size))
have_number zero cells offset h = refl
have_number (suc size) cells offset h =
    let same : offset + 0 ≡ offset = omega arith in
    byte_before (cells offset) (cells_from cells (offset + 1) size) (subst (λ (at : ℕ). IsByte (cells at)) same (h 0 (omega arith)))
    (have_number size cells (offset + 1)
    (λ i lt.
    let moved : offset + (i + 1) ≡ offset + 1 + i = omega arith in
    subst (λ (at : ℕ). IsByte (cells at)) moved (h (i + 1) (omega arith))))

bytes_defined :
    (size : ℕ) (cells : ℕ → Cell) (offset : ℕ)
    → IsSome (number_of (cells_from cells offset size) >>= λ n. Some (integer n)) ↔ AreBytes cells offset size
bytes_defined size cells offset = (
  λ h. record { bytes = are_bytes size cells offset (then_some (number_of (cells_from cells offset size)) integer h) },
  λ a. some_then (number_of (cells_from cells offset size)) integer (have_number size cells offset a.bytes),
)

-- ---- cells that are the parts of a pointer

all_three : (a b c : Bool) → (a && b && c) ≡ true → (a ≡ true) × ((b ≡ true) × (c ≡ true))
all_three true true c h = (refl, (refl, h))
all_three true false c h = cc
all_three false true c h = cc
all_three false false c h = cc

same_pointer_is : (p q : Pointer) → same_pointer p q ≡ true → p ≡ q
same_pointer_is null null h = refl
same_pointer_is null (into c j) h = cc
same_pointer_is (into b i) null h = cc
same_pointer_is (into b i) (into c j) h =
    let blocks : b ≡ c = grind (arith, nat_tests, h) in
    let offsets : i ≡ j = grind (arith, nat_tests, h) in
    ap₂ (λ x y. into x y) blocks offsets

first_part :
    (p : Pointer) (first : ℕ) (c : Cell) (cells : List Cell) → are_parts p first (c ∷ cells) ≡ true
    → (c ≡ part p first) × (are_parts p (first + 1) cells ≡ true)
first_part p first unset cells h = cc
first_part p first (byte b) cells h = cc
first_part p first (part q k) cells h =
    let a = all_three (same_pointer q p) (k == first) (are_parts p (first + 1) cells) h in
    let pointers = same_pointer_is q p a.0 in
    let numbers : k ≡ first = grind (arith, nat_tests, a.1.0) in
    (ap₂ (λ x y. part x y) pointers numbers, a.1.1)

each_part :
    (p : Pointer) (first size : ℕ) (cells : ℕ → Cell) (offset : ℕ) → are_parts p first (cells_from cells offset size) ≡ true
    → (i : ℕ) → i < size → cells (offset + i) ≡ part p (first + i)
each_part p first zero cells offset h i lt = absurd (omega arith)
each_part p first (suc size) cells offset h zero lt =
    let a : offset + 0 ≡ offset = omega arith in
    let b : first ≡ first + 0 = omega arith in
    ap cells a ∙ (first_part p first (cells offset) (cells_from cells (offset + 1) size) h).0 ∙ ap (part p) b
each_part p first (suc size) cells offset h (suc i) lt =
    let a : offset + suc i ≡ offset + 1 + i = omega arith in
    let b : first + 1 + i ≡ first + suc i = omega arith in
    ap cells a
    ∙ each_part p (first + 1) size cells (offset + 1) (first_part p first (cells offset) (cells_from cells (offset + 1) size) h).1 i (omega arith)
    ∙ ap (part p) b

are_parts_of :
    (p : Pointer) (first size : ℕ) (cells : ℕ → Cell) (offset : ℕ) → ((i : ℕ) → i < size → cells (offset + i) ≡ part p (first + i))
    → cells_from cells offset size ≡ parts_of p first size
are_parts_of p first zero cells offset h = refl
are_parts_of p first (suc size) cells offset h =
    let a : offset ≡ offset + 0 = omega arith in
    let b : first + 0 ≡ first = omega arith in
    ap₂ (λ c cs. c ∷ cs) (ap cells a ∙ h 0 (omega arith) ∙ ap (part p) b)
    (are_parts_of p (first + 1) size cells (offset + 1)
    (λ i lt.
    let c : offset + 1 + i ≡ offset + (i + 1) = omega arith in
    let d : first + (i + 1) ≡ first + 1 + i = omega arith in
    ap cells c ∙ h (i + 1) (omega arith) ∙ ap (part p) d))

parts_of_pointer : (c : Cell) (cells : List Cell) (p : Pointer) → pointer_of (c ∷ cells) ≡ Some p → are_parts p 0 (c ∷ cells) ≡ true
parts_of_pointer unset cells p h = cc
parts_of_pointer (byte b) cells p h = cc
parts_of_pointer (part q k) cells p h =
    let a = only_if_value (are_parts q 0 (part q k ∷ cells)) q p h in
    subst (λ (r : Pointer). are_parts r 0 (part q k ∷ cells) ≡ true) a.1 a.0

parts_defined : (cells : ℕ → Cell) (offset : ℕ) → IsSome (pointer_of (cells_from cells offset 4) >>= λ p. Some (address p)) ↔ AreParts cells offset
parts_defined cells offset = (
  λ h.
      let a = answer_of (pointer_of (cells_from cells offset 4)) (then_some (pointer_of (cells_from cells offset 4)) address h) in
      record {
        pointer = a.value;
        parts = λ i lt.
            let same : 0 + i ≡ i = omega arith in
            each_part a.value 0 4 cells offset (parts_of_pointer (cells offset) (cells_from cells (offset + 1) 3) a.value a.is) i lt
            ∙ ap (part a.value) same;
      },
  λ a.
      some_then (pointer_of (cells_from cells offset 4)) address
      (some_is (pointer_of (cells_from cells offset 4)) a.pointer (ap pointer_of (from_zero a.pointer a.parts) ∙ pointer_back a.pointer)),
)
  where
    from_zero : (p : Pointer) → ((i : ℕ) → i < 4 → cells (offset + i) ≡ part p i) → cells_from cells offset 4 ≡ parts_of p 0 4
    from_zero p h = are_parts_of p 0 4 cells offset (λ i lt. let same : i ≡ 0 + i = omega arith in h i lt ∙ ap (part p) same)

pub value_defined : (s : Scalar) (cells : ℕ → Cell) (offset : ℕ) → IsSome (value_of s (cells_from cells offset (width s))) ↔ HasValue s cells offset
value_defined scalars.Char cells offset = bytes_defined 1 cells offset
value_defined scalars.Int cells offset = bytes_defined 4 cells offset
value_defined scalars.Unsigned cells offset = bytes_defined 4 cells offset
value_defined scalars.Pointer cells offset = parts_defined cells offset

-- ---- loads

holds_value :
    (s : Scalar) (m : Memory) (p : Pointer) (t : Target) → p ≡ into t.block t.offset → HasValue s (block_at m t.block).cells t.offset
    → HoldsValue s m p
holds_value s m p t is h = subst (λ (q : Pointer). HoldsValue s m q) (sym is) h

pub load_needs : (s : Scalar) (m : Memory) (p : Pointer) → IsSome (load s m p) → MayRead m p (width s) (width s) × HoldsValue s m p
load_needs s m p h =
    let v = answer_of (load s m p) h in
    let a = followed (range m p (width s) (width s)) _ v.value v.is in
    let at = range_is m p (width s) (width s) a.value a.first in (
      range_access m p (width s) (width s) a.value at,
      holds_value s m p a.value at.is
          ((value_defined s (block_at m a.value.block).cells a.value.offset).0 (some_is (value_of s (cells_at m a.value (width s))) v.value a.then)),
    )

pub load_allowed : (s : Scalar) (m : Memory) (p : Pointer) → MayRead m p (width s) (width s) → HoldsValue s m p → IsSome (load s m p)
load_allowed s m null may holds = absurd may
load_allowed s m (into b o) may holds =
    subst (λ (r : Option Target). IsSome (r >>= λ t. value_of s (cells_at m t (width s)))) (sym (access_range m b o (width s) (width s) may))
    ((value_defined s (block_at m b).cells o).1 holds)

-- ---- writes

writable_at : (m : Memory) (p : Pointer) (t : Target) → p ≡ into t.block t.offset → (block_at m t.block).is_writable ≡ true → IsWritable m p
writable_at m p t is h = subst (λ (q : Pointer). IsWritable m q) (sym is) h

wrote_may :
    (m : Memory) (p : Pointer) (size alignment : ℕ) (new : List Cell) (after : Memory) → Wrote m p size alignment new after
    → MayWrite m p size alignment
wrote_may m p size alignment new after w = (range_access m p size alignment w.at w.is, writable_at m p w.at w.is.is w.writable)

typed : (s : Scalar) (v : Value) (cells : List Cell) → cells_of s v ≡ Some cells → has_type s v ≡ true
typed s (integer n) cells h = (only_if_value (has_type s (integer n)) _ cells h).0
typed s (address p) cells h = (only_if_value (has_type s (address p)) _ cells h).0

record TypedCells (s : Scalar) (v : Value) : Type 0 where
  pub cells : List Cell
  pub is : cells_of s v ≡ Some cells

typed_cells : (s : Scalar) (v : Value) → has_type s v ≡ true → TypedCells s v
typed_cells s (integer n) h = record { cells = bytes_of (width s) n; is = ap (λ b. only_if b (Some (bytes_of (width s) n))) h }
typed_cells s (address p) h = record { cells = parts_of p 0 (width s); is = ap (λ b. only_if b (Some (parts_of p 0 (width s)))) h }

pub store_needs : (s : Scalar) (m : Memory) (p : Pointer) (v : Value) → IsSome (store s m p v) → MayWrite m p (width s) (width s) × (has_type s v ≡ true)
store_needs s m p v h =
    let a = answer_of (store s m p v) h in
    let st = stored s m p v a.value a.is in
    (wrote_may m p (width s) (width s) st.new a.value st.wrote, typed s v st.new st.cells)

pub store_allowed : (s : Scalar) (m : Memory) (p : Pointer) (v : Value) → MayWrite m p (width s) (width s) → has_type s v ≡ true → IsSome (store s m p v)
store_allowed s m null v may is = absurd may.0
store_allowed s m (into b o) v may is =
    let c = typed_cells s v is in
    some_is (store s m (into b o) v) _
    (store_gives s m (into b o) v (record { block = b; offset = o }) c.cells (access_range m b o (width s) (width s) may.0) c.is may.1)

pub fill_needs : (blank : BlankTree) (m : Memory) (p : Pointer) → IsSome (fill blank m p) → MayWrite m p (length (blank_cells blank)) 1
fill_needs blank m p h =
    let a = answer_of (fill blank m p) h in
    wrote_may m p (length (blank_cells blank)) 1 (blank_cells blank) a.value (filled blank m p a.value a.is)

-- a write of cells where it may be made
write_allowed : (m : Memory) (t : Target) (new : List Cell) → (block_at m t.block).is_writable ≡ true → IsSome (write_cells m t new)
write_allowed m t new h = some_is (write_cells m t new) (with_cells m t new) (ap (λ b. only_if b (Some (with_cells m t new))) h)

pub fill_allowed : (blank : BlankTree) (m : Memory) (p : Pointer) → MayWrite m p (length (blank_cells blank)) 1 → IsSome (fill blank m p)
fill_allowed blank m null may = absurd may.0
fill_allowed blank m (into b o) may =
    subst (λ (r : Option Target). IsSome (r >>= λ t. write_cells m t (blank_cells blank))) (sym (access_range m b o (length (blank_cells blank)) 1 may.0))
    (write_allowed m (record { block = b; offset = o }) (blank_cells blank) may.1)

-- ---- copies

pub no_overlap :
    (t u : Target) (size : ℕ) → overlap t u size ≡ false
    → (into t.block t.offset ≡ into u.block u.offset) ⊎ AreApart (into t.block t.offset) size (into u.block u.offset) size
no_overlap t u size h =
    ⊎_elim
    (λ (one : t.block ≡ u.block).
    ⊎_elim (λ (same : t.offset ≡ u.offset). inl (ap₂ (λ b o. into b o) one same))
    (λ differ.
    ⊎_elim (λ (low : t.offset < u.offset + size).
    ⊎_elim (λ (high : u.offset < t.offset + size). absurd (all_hold one differ low high)) (λ (before : t.offset + size ≤ u.offset). inr (inr (inl before)))
    (cases_lt u.offset (t.offset + size)))
    (λ (behind : u.offset + size ≤ t.offset). inr (inr (inr behind)))
    (cases_lt t.offset (u.offset + size)))
    (cases_eq t.offset u.offset))
    (λ differ. inr (inl differ))
    (cases_eq t.block u.block)
  where
    all_hold : t.block ≡ u.block → (t.offset ≡ u.offset → ⊥) → t.offset < u.offset + size → u.offset < t.offset + size → ⊥
    all_hold one differ low high =
        let a : (t.block == u.block) ≡ true = grind (arith, nat_tests, one) in
        let b : (t.offset == u.offset) ≡ false = grind (arith, nat_tests, differ) in
        let c : nat_lt t.offset (u.offset + size) ≡ true = grind (arith, nat_tests, low) in
        let d : nat_lt u.offset (t.offset + size) ≡ true = grind (arith, nat_tests, high) in
        let both : overlap t u size ≡ true =
        ap₂ (λ x y. x && not y && nat_lt t.offset (u.offset + size) && nat_lt u.offset (t.offset + size)) a b ∙ ap₂ (λ x y. x && y) c d in
        let no_way : false ≡ true = sym h ∙ both in
        cc

pub fit_together :
    (b i c j size : ℕ) → (into b i ≡ into c j) ⊎ AreApart (into b i) size (into c j) size
    → overlap (record { block = b; offset = i }) (record { block = c; offset = j }) size ≡ false
fit_together b i c j size (inl same) =
    let offsets : i ≡ j = ap offset_in same in
    grind (arith, nat_tests, offsets)
  where
    offset_in : Pointer → ℕ
    offset_in null = 0
    offset_in (into x o) = o
fit_together b i c j size (inr (inl differ)) = grind (arith, nat_tests, differ)
fit_together b i c j size (inr (inr (inl before))) = grind (arith, nat_tests, before)
fit_together b i c j size (inr (inr (inr behind))) = grind (arith, nat_tests, behind)

pub copy_needs :
    (size alignment : ℕ) (m : Memory) (to from : Pointer) → IsSome (copy size alignment m to from)
    → MayWrite m to size alignment × (MayRead m from size alignment × ((to ≡ from) ⊎ AreApart to size from size))
copy_needs size alignment m to from h =
    let a = answer_of (copy size alignment m to from) h in
    let c = copied size alignment m to from a.value a.is in
    let t : Target = c.wrote.at in
    let u : Target = c.source in (
      wrote_may m to size alignment (cells_at m u size) a.value c.wrote,
      (
        range_access m from size alignment u c.is,
        subst (λ (q : Pointer). (q ≡ from) ⊎ AreApart q size from size) (sym c.wrote.is.is)
            (subst (λ (q : Pointer). (into t.block t.offset ≡ q) ⊎ AreApart (into t.block t.offset) size q size) (sym c.is.is) (no_overlap t u size c.apart)),
      ),
    )

pub copy_allowed :
    (size alignment : ℕ) (m : Memory) (to from : Pointer) → MayWrite m to size alignment → MayRead m from size alignment
    → (to ≡ from) ⊎ AreApart to size from size → IsSome (copy size alignment m to from)
copy_allowed size alignment m null from may reads fit = absurd may.0
copy_allowed size alignment m (into b i) null may reads fit = absurd reads
copy_allowed size alignment m (into b i) (into c j) may reads fit =
    let t : Target = record { block = b; offset = i } in
    let u : Target = record { block = c; offset = j } in
    some_is (copy size alignment m (into b i) (into c j)) (with_cells m t (cells_at m u size))
    (ap₂ (λ x y. x >>= λ k. y >>= λ l. only_if (not (overlap k l size)) (write_cells m k (cells_at m l size)))
    (access_range m b i size alignment may.0) (access_range m c j size alignment reads)
    ∙ ap₂ (λ x w. only_if (not x) (only_if w (Some (with_cells m t (cells_at m u size))))) (fit_together b i c j size fit) may.1)

pub steps_are_defined : StepsAreDefined
steps_are_defined = record {
  load = λ s m p. (load_needs s m p, λ h. load_allowed s m p h.0 h.1);
  store = λ s m p v. (store_needs s m p v, λ h. store_allowed s m p v h.0 h.1);
  copy = λ size alignment m to from. (copy_needs size alignment m to from, λ h. copy_allowed size alignment m to from h.0 h.1.0 h.1.1);
  fill = λ blank m p. (fill_needs blank m p, fill_allowed blank m p);
}
