-- Lists of cells over the cells of a block, and the cells of a value.
use Rattle.std.proofs.Common.{◌≡◌, ◌⊎◌, inl, inr, ⊎_elim, ℕ, zero, suc, ◌+◌, ◌*◌, ◌/◌, ◌%◌, ◌^◌, ◌<◌, ◌≤◌, ◌==◌, ◌&&◌, nat_lt, Bool, true, false}
use Rattle.std.proofs.Common.{if◌then◌else◌, List, [], ◌∷◌, length, slice_index_or, Option, Some, refl, sym, ap, ap₂, ◌∙◌, arith}
use Rattle.std.proofs.lemmas.Bool.{cases_lt}
use Rattle.std.proofs.lemmas.Bool.Decides.{nat_tests}
use Rattle.std.proofs.lemmas.Option.{same_Some}
use Rattle.qs_memory.specs.Partial.{◌>>=◌, only_if}
use Rattle.qs_memory.specs.Values.{Pointer, null, into, same_pointer, Value, integer, address, width}
use Rattle.qs_memory.specs.Memory.{Cell, unset, cells_from, overlaid, bytes_of, parts_of, cells_of, number_of, are_parts, pointer_of, value_of}
use Rattle.qs_memory.specs.declared.scalar.Scalar.{Scalar}
use Rattle.qs_memory.specs.declared.scalar.Scalar.TheVariants as scalars
use Rattle.qs_memory.proofs.Options.{only_if_value}

-- ---- cells that are laid over others

choice_same : (at offset : ℕ) (a b : Cell) → (at == offset) ≡ true → (if at == offset then a else b) ≡ a
choice_same at offset a b h = ap (λ t. if t then a else b) h

choice_other : (at offset : ℕ) (a b : Cell) → (at == offset) ≡ false → (if at == offset then a else b) ≡ b
choice_other at offset a b h = ap (λ t. if t then a else b) h

pub overlaid-apart : (new : List Cell) (offset : ℕ) (old : ℕ → Cell) (at : ℕ) → (at < offset) ⊎ (offset + length new ≤ at) → overlaid new offset old at ≡ old at
overlaid-apart [] offset old at h = refl
overlaid-apart (cell ∷ new) offset old at (inl h) =
    choice_other at offset cell (overlaid new (offset + 1) old at) (grind (arith, nat_tests)) ∙ overlaid-apart new (offset + 1) old at (inl (omega arith))
overlaid-apart (cell ∷ new) offset old at (inr h) =
    choice_other at offset cell (overlaid new (offset + 1) old at) (grind (arith, nat_tests)) ∙ overlaid-apart new (offset + 1) old at (inr (omega arith))

-- where new cells lie, the old ones don't matter
pub overlaid-within :
    (new : List Cell) (offset : ℕ) (old other : ℕ → Cell) (at : ℕ) → offset ≤ at → at < offset + length new
    → overlaid new offset old at ≡ overlaid new offset other at
overlaid-within [] offset old other at h k = absurd (omega arith)
overlaid-within (cell ∷ new) offset old other at h k =
    ⊎_elim
    (λ (before : at < offset + 1).
    let here : (at == offset) ≡ true = grind (arith, nat_tests) in
    choice_same at offset cell (overlaid new (offset + 1) old at) here ∙ sym (choice_same at offset cell (overlaid new (offset + 1) other at) here))
    (λ (after : offset + 1 ≤ at).
    let there : (at == offset) ≡ false = grind (arith, nat_tests) in
    choice_other at offset cell (overlaid new (offset + 1) old at) there
    ∙ overlaid-within new (offset + 1) old other at (omega arith) (omega arith)
    ∙ sym (choice_other at offset cell (overlaid new (offset + 1) other at) there))
    (cases_lt at (offset + 1))

-- the new cells one by one
pub overlaid-inside :
    (new : List Cell) (offset : ℕ) (old : ℕ → Cell) (i : ℕ) → i < length new → overlaid new offset old (offset + i) ≡ slice_index_or new i unset
overlaid-inside [] offset old i h = absurd (omega arith)
overlaid-inside (cell ∷ new) offset old zero h = choice_same (offset + 0) offset cell (overlaid new (offset + 1) old (offset + 0)) (grind (arith, nat_tests))
overlaid-inside (cell ∷ new) offset old (suc i) h =
    let moved : offset + suc i ≡ offset + 1 + i = omega arith in
    choice_other (offset + suc i) offset cell (overlaid new (offset + 1) old (offset + suc i)) (grind (arith, nat_tests))
    ∙ ap (overlaid new (offset + 1) old) moved
    ∙ overlaid-inside new (offset + 1) old i (omega arith)

-- what holds of each cell of a list
abbrev pub Each : (Cell → Type 0) → List Cell → Type 0
Each P [] = Unit {0}
Each P (cell ∷ cells) = P cell × Each P cells

pub each_overlaid : (P : Cell → Type 0) (new : List Cell) (offset : ℕ) (old : ℕ → Cell) (at : ℕ) → Each P new → P (old at) → P (overlaid new offset old at)
each_overlaid P [] offset old at h k = k
each_overlaid P (cell ∷ new) offset old at h k = choose (at == offset) (h.0) (each_overlaid P new (offset + 1) old at h.1 k)
  where
    choose : (b : Bool) → {x y : Cell} → P x → P y → P (if b then x else y)
    choose true a b = a
    choose false a b = b

pub each_from :
    (P : Cell → Type 0) (cells : ℕ → Cell) (offset size : ℕ) → ((at : ℕ) → offset ≤ at → at < offset + size → P (cells at))
    → Each P (cells_from cells offset size)
each_from P cells offset zero h = tt
each_from P cells offset (suc size) h = (h offset (omega arith) (omega arith), each_from P cells (offset + 1) size (λ at a b. h at (omega arith) (omega arith)))

-- cells that are read look at none outside
pub cells_from-like :
    (size : ℕ) (cells other : ℕ → Cell) (offset : ℕ) → ((at : ℕ) → offset ≤ at → at < offset + size → cells at ≡ other at)
    → cells_from cells offset size ≡ cells_from other offset size
cells_from-like zero cells other offset h = refl
cells_from-like (suc size) cells other offset h =
    ap₂ (λ c cs. c ∷ cs) (h offset (omega arith) (omega arith)) (cells_from-like size cells other (offset + 1) (λ at a b. h at (omega arith) (omega arith)))

pub length-cells_from : (cells : ℕ → Cell) (offset size : ℕ) → length (cells_from cells offset size) ≡ size
length-cells_from cells offset zero = refl
length-cells_from cells offset (suc size) = ap suc (length-cells_from cells (offset + 1) size)

-- the cells that are read, one by one
pub cells_from-each : (cells : ℕ → Cell) (offset size i : ℕ) → i < size → slice_index_or (cells_from cells offset size) i unset ≡ cells (offset + i)
cells_from-each cells offset zero i h = absurd (omega arith)
cells_from-each cells offset (suc size) zero h = let same : offset ≡ offset + 0 = omega arith in ap cells same
cells_from-each cells offset (suc size) (suc i) h =
    let moved : offset + 1 + i ≡ offset + suc i = omega arith in
    cells_from-each cells (offset + 1) size i (omega arith) ∙ ap cells moved

-- cells that are alike at two offsets
pub cells_from-moved :
    (size : ℕ) (cells other : ℕ → Cell) (offset to : ℕ) → ((i : ℕ) → i < size → cells (offset + i) ≡ other (to + i))
    → cells_from cells offset size ≡ cells_from other to size
cells_from-moved zero cells other offset to h = refl
cells_from-moved (suc size) cells other offset to h =
    let a : offset ≡ offset + 0 = omega arith in
    let b : to + 0 ≡ to = omega arith in
    ap₂ (λ c cs. c ∷ cs) (ap cells a ∙ h 0 (omega arith) ∙ ap other b)
    (cells_from-moved size cells other (offset + 1) (to + 1)
    (λ i lt.
    let c : offset + 1 + i ≡ offset + (i + 1) = omega arith in
    let d : to + (i + 1) ≡ to + 1 + i = omega arith in
    ap cells c ∙ h (i + 1) (omega arith) ∙ ap other d))

-- what was laid down is read
pub cells_from-overlaid : (new : List Cell) (offset : ℕ) (old : ℕ → Cell) → cells_from (overlaid new offset old) offset (length new) ≡ new
cells_from-overlaid [] offset old = refl
cells_from-overlaid (cell ∷ new) offset old =
    ap₂ (λ c cs. c ∷ cs)
    (choice_same offset offset cell (overlaid new (offset + 1) old offset) (grind (arith, nat_tests)))
    (cells_from-like (length new) _ (overlaid new (offset + 1) old) (offset + 1) (λ at a b. choice_other at offset cell _ (grind (arith, nat_tests)))
    ∙ cells_from-overlaid new (offset + 1) old)

-- and what lies elsewhere is as it was
pub cells_from-apart :
    (size : ℕ) (new : List Cell) (old : ℕ → Cell) (offset at : ℕ) → (at + size ≤ offset) ⊎ (offset + length new ≤ at)
    → cells_from (overlaid new offset old) at size ≡ cells_from old at size
cells_from-apart size new old offset at (inl h) = cells_from-like size _ old at (λ j a b. overlaid-apart new offset old j (inl (omega arith)))
cells_from-apart size new old offset at (inr h) = cells_from-like size _ old at (λ j a b. overlaid-apart new offset old j (inr (omega arith)))

-- where old cells are alike, so are these with others laid over them
pub overlaid-like :
    (new : List Cell) (offset : ℕ) (old other : ℕ → Cell) (at : ℕ) → old at ≡ other at → overlaid new offset old at ≡ overlaid new offset other at
overlaid-like [] offset old other at h = h
overlaid-like (cell ∷ new) offset old other at h = ap (λ c. if at == offset then cell else c) (overlaid-like new (offset + 1) old other at h)

-- cells that are laid down apart may be laid down in either order
pub overlaid-commute :
    (a b : List Cell) (i j : ℕ) (old : ℕ → Cell) (at : ℕ) → (i + length a ≤ j) ⊎ (j + length b ≤ i) → overlaid b j (overlaid a i old) at ≡ overlaid a i (overlaid b j old) at
overlaid-commute a b i j old at apart =
    ⊎_elim (λ (before : at < j). out (inl before)) (λ (from : j ≤ at).
    ⊎_elim (λ (inside : at < j + length b). in_b from inside) (λ (past : j + length b ≤ at). out (inr past)) (cases_lt at (j + length b)))
    (cases_lt at j)
  where
    out : (at < j) ⊎ (j + length b ≤ at) → overlaid b j (overlaid a i old) at ≡ overlaid a i (overlaid b j old) at
    out h = overlaid-apart b j (overlaid a i old) at h ∙ sym (overlaid-like a i (overlaid b j old) old at (overlaid-apart b j old at h))

    in_b : j ≤ at → at < j + length b → overlaid b j (overlaid a i old) at ≡ overlaid a i (overlaid b j old) at
    in_b from inside =
        overlaid-within b j (overlaid a i old) old at from inside
        ∙ sym (overlaid-apart a i (overlaid b j old) at (⊎_elim (λ h. inr (omega arith)) (λ h. inl (omega arith)) apart))

-- ---- the cells of a value

pub same_pointer-refl : (p : Pointer) → same_pointer p p ≡ true
same_pointer-refl null = refl
same_pointer-refl (into b i) = grind (arith, nat_tests)

pub length-bytes_of : (size n : ℕ) → length (bytes_of size n) ≡ size
length-bytes_of zero n = refl
length-bytes_of (suc size) n = ap suc (length-bytes_of size (n / 256))

bytes_back : (size n : ℕ) → n < 256 ^ size → number_of (bytes_of size n) ≡ Some n
bytes_back zero n h = ap Some (omega arith)
bytes_back (suc size) n h =
    ap (λ o. o >>= λ r. Some (n % 256 + 256 * r)) (bytes_back size (n / 256) (omega arith)) ∙ ap Some (omega arith)

parts_back : (p : Pointer) (first size : ℕ) → are_parts p first (parts_of p first size) ≡ true
parts_back p first zero = refl
parts_back p first (suc size) =
    let number : (first == first) ≡ true = grind (arith, nat_tests) in
    ap₂ (λ a b. a && b && are_parts p (first + 1) (parts_of p (first + 1) size)) (same_pointer-refl p) number ∙ parts_back p (first + 1) size

pub pointer_back : (p : Pointer) → pointer_of (parts_of p 0 4) ≡ Some p
pointer_back p = ap (λ b. only_if b (Some p)) (parts_back p 0 4)

-- what a value's cells are
pub record CellsOf (s : Scalar) (v : Value) (cells : List Cell) : Type 0 where
  pub long : length cells ≡ width s
  pub back : value_of s cells ≡ Some v

of_number :
    (s : Scalar) (n : ℕ) (cells : List Cell) → (bytes_of (width s) n ≡ cells) → n < 256 ^ width s
    → ((o : Option ℕ) → (number_of cells ≡ o) → value_of s cells ≡ (o >>= λ k. Some (integer k))) → CellsOf s (integer n) cells
of_number s n cells is small value =
    record {
      long = ap length (sym is) ∙ length-bytes_of (width s) n;
      back = value (Some n) (ap number_of (sym is) ∙ bytes_back (width s) n small);
    }

pub cells_are : (s : Scalar) (v : Value) (cells : List Cell) → cells_of s v ≡ Some cells → CellsOf s v cells
cells_are scalars.Char (integer n) cells h =
    let c = only_if_value (nat_lt n 256) _ cells h in
    of_number scalars.Char n cells c.1 (grind (arith, nat_tests, c.0)) (λ o e. ap (λ q. q >>= λ k. Some (integer k)) e)
cells_are scalars.Int (integer n) cells h =
    let c = only_if_value (nat_lt n (2 ^ 32)) _ cells h in
    of_number scalars.Int n cells c.1 (grind (arith, nat_tests, c.0)) (λ o e. ap (λ q. q >>= λ k. Some (integer k)) e)
cells_are scalars.Unsigned (integer n) cells h =
    let c = only_if_value (nat_lt n (2 ^ 32)) _ cells h in
    of_number scalars.Unsigned n cells c.1 (grind (arith, nat_tests, c.0)) (λ o e. ap (λ q. q >>= λ k. Some (integer k)) e)
cells_are scalars.Pointer (integer n) cells h = cc
cells_are scalars.Char (address p) cells h = cc
cells_are scalars.Int (address p) cells h = cc
cells_are scalars.Unsigned (address p) cells h = cc
cells_are scalars.Pointer (address p) cells h =
    let is = same_Some _ _ h in
    record {
      long = ap length (sym is);
      back = ap (λ c. pointer_of c >>= λ q. Some (address q)) (sym is) ∙ ap (λ o. o >>= λ q. Some (address q)) (pointer_back p);
    }
