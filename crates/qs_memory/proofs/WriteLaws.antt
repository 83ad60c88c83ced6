-- What a write leaves, cell by cell, and the loads that follow it.
use Rattle.std.proofs.Common.{◌≡◌, ℕ, ◌+◌, ◌%◌, ◌<◌, ◌≤◌, ◌==◌, ◌&&◌, nat_le, true, List, length, Some, refl, sym, ap, ◌∙◌, subst, arith}
use Rattle.std.proofs.lemmas.Bool.Decides.{nat_tests}
use Rattle.std.proofs.lemmas.Option.{same_Some}
use Rattle.qs_memory.specs.Partial.{only_if}
use Rattle.qs_memory.specs.Values.{Pointer, into, width}
use Rattle.qs_memory.specs.Memory.{Cell, Block, Memory, block_at, Target, cells_from, cells_at, with_cells, value_of, blank_cells, load, copy}
use Rattle.qs_memory.specs.Soundness.{IsLive}
use Rattle.qs_memory.specs.Accesses.{IsAccess, AreWritten, Writes, cells_behind}
use Rattle.qs_memory.specs.Laws.{WritesAreExact, LoadsAfterWrites}
use Rattle.qs_memory.specs.declared.scalar.Scalar.{Scalar}
use Rattle.qs_memory.proofs.CellLaws.{overlaid-apart, overlaid-inside, length-cells_from, cells_from-each, cells_from-moved}
use Rattle.qs_memory.proofs.BlockLaws.{written, not_written, size_kept, liveness_kept, writability_kept, length-with_cells, range_access}
use Rattle.qs_memory.proofs.StoreLaws.{Wrote, stored, load-into, wrote_elsewhere}
use Rattle.qs_memory.proofs.StepLaws.{copied, filled}

pub written_cells : (m : Memory) (t : Target) (new : List Cell) → IsLive m t.block → AreWritten m t.block t.offset new (with_cells m t new)
written_cells m t new live = record {
  inside = λ i h. ap (λ (k : Block). k.cells (t.offset + i)) (written m t new live) ∙ overlaid-inside new t.offset (block_at m t.block).cells i h;
  outside = λ at h. ap (λ (k : Block). k.cells at) (written m t new live) ∙ overlaid-apart new t.offset (block_at m t.block).cells at h;
  size = size_kept m t new live t.block;
  is_live = liveness_kept m t new live t.block;
  is_writable = writability_kept m t new live t.block;
  others = λ other differs. not_written m t new other differs;
  count = length-with_cells m t new;
}

pub wrote_cells :
    (m : Memory) (p : Pointer) (size alignment : ℕ) (new : List Cell) (after : Memory) → Wrote m p size alignment new after → Writes m p new after
wrote_cells m p size alignment new after w =
    subst (λ (q : Pointer). Writes m q new after) (sym w.is.is)
    (subst (λ (a : Memory). AreWritten m w.at.block w.at.offset new a) w.gives (written_cells m w.at new w.is.live))

pub writes_are_exact : WritesAreExact
writes_are_exact = record {
  store = λ s m after p v new h cells.
      let st = stored s m p v after h in
      subst (λ (l : List Cell). Writes m p l after) (same_Some st.new new (sym st.cells ∙ cells)) (wrote_cells m p (width s) (width s) st.new after st.wrote);
  copy = λ size alignment m after to from h.
      let c = copied size alignment m to from after h in
      subst (λ (l : List Cell). Writes m to l after) (sym (ap (λ (q : Pointer). cells_behind m q size) c.is.is))
      (wrote_cells m to size alignment (cells_at m c.source size) after c.wrote);
  fill = λ blank m after p h. wrote_cells m p (length (blank_cells blank)) 1 (blank_cells blank) after (filled blank m p after h);
}

-- ---- loads after writes

-- a load where an access may be made
pub load_gives :
    (s : Scalar) (m : Memory) (b o : ℕ) → IsLive m b → o + width s ≤ (block_at m b).size → o % width s ≡ 0
    → load s m (into b o) ≡ value_of s (cells_from (block_at m b).cells o (width s))
load_gives s m b o live fits aligned =
    let test : (nat_le (o + width s) (block_at m b).size && o % width s == 0) ≡ true = grind (arith, nat_tests, fits, aligned) in
    load-into s m b o
    ∙ ap (λ l. only_if l (only_if (nat_le (o + width s) (block_at m b).size && o % width s == 0) (value_of s (cells_from (block_at m b).cells o (width s))))) live
    ∙ ap (λ t. only_if t (value_of s (cells_from (block_at m b).cells o (width s)))) test

-- a cell of the target is that of the source
cell_copied :
    (size : ℕ) (m after : Memory) (b i c j n : ℕ) → AreWritten m b i (cells_from (block_at m c).cells j size) after → n < size
    → (block_at after b).cells (i + n) ≡ (block_at m c).cells (j + n)
cell_copied size m after b i c j n w h =
    let long = length-cells_from (block_at m c).cells j size in
    w.inside n (subst (λ (k : ℕ). n < k) (sym long) h) ∙ cells_from-each (block_at m c).cells j size n h

pub load_copied :
    (s : Scalar) (size alignment : ℕ) (m after : Memory) (b i c j k : ℕ) → copy size alignment m (into b i) (into c j) ≡ Some after
    → k + width s ≤ size → (i + k) % width s ≡ 0 → (j + k) % width s ≡ 0 → load s after (into b (i + k)) ≡ load s m (into c (j + k))
load_copied s size alignment m after b i c j k h room at_i at_j =
    let cp = copied size alignment m (into b i) (into c j) after h in
    let to : IsAccess m b i size alignment = range_access m (into b i) size alignment cp.wrote.at cp.wrote.is in
    let source : IsAccess m c j size alignment = range_access m (into c j) size alignment cp.source cp.is in
    let w : AreWritten m b i (cells_from (block_at m c).cells j size) after = writes_are_exact.copy size alignment m after (into b i) (into c j) h in
    let ends = to.inside in
    let starts = source.inside in
    let long = w.size in
    load_gives s after b (i + k) (w.is_live ∙ to.live) (omega arith) at_i
    ∙ ap (value_of s)
    (cells_from-moved (width s) (block_at after b).cells (block_at m c).cells (i + k) (j + k)
    (λ n lt.
    let x : i + k + n ≡ i + (k + n) = omega arith in
    let y : j + (k + n) ≡ j + k + n = omega arith in
    ap (block_at after b).cells x ∙ cell_copied size m after b i c j (k + n) w (omega arith) ∙ ap (block_at m c).cells y))
    ∙ sym (load_gives s m c (j + k) source.live (omega arith) at_j)

pub loads_after_writes : LoadsAfterWrites
loads_after_writes = record {
  copied = load_copied;
  apart_from_copy = λ s size alignment m after to from q apart h.
      let c = copied size alignment m to from after h in
      wrote_elsewhere s m after to q size alignment (cells_at m c.source size)
      (length-cells_from (block_at m c.source.block).cells c.source.offset size) apart c.wrote;
  apart_from_fill = λ s blank m after p q apart h.
      wrote_elsewhere s m after p q (length (blank_cells blank)) 1 (blank_cells blank) refl apart (filled blank m p after h);
}
