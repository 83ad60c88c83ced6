-- Where the blocks of a unit's data end in core.
use Rattle.std.proofs.Common.{◌≡◌, ◌≤◌, ◌<◌, ℕ, suc, ◌+◌, ◌%◌, List, [], ◌∷◌, map, All, length, refl, ap, ◌∙◌, arith}
use Rattle.qs_memory.specs.Memory.{Cell}
use Rattle.qs_types.specs.Layout.{rounded_up}
use Rattle.qs_types.specs.Limits.{word_size, Block, block_end, blocks_end}
use Rattle.qs_types.proofs.Rounding.{rounds, rounds_near}
use Rattle.qs_meaning.specs.Typed.{StaticBlock}
use Rattle.qs_meaning.specs.Whole.{AreWhole}
use Rattle.qs_elaborate_bodies.specs.Data.{data_core}
use Rattle.qs_elaborate_laws.proofs.Data.{cells_kept}
use Rattle.qs_elaborate_limits.specs.Measures.{data_end, data_size}

abbrev pub in_words : ℕ → ℕ
in_words n = rounded_up n word_size

-- a whole number of words in front of bytes
words_first : (n m : ℕ) → in_words (in_words n + m) ≡ in_words n + in_words m
words_first n m =
    let a = rounds n 4 (omega arith) in
    let b = rounds m 4 (omega arith) in
    let c = rounds (in_words n + m) 4 (omega arith) in
    let i = a.multiple in
    let j = b.multiple in
    let k = c.multiple in
    let low = b.above in
    let high = rounds_near m 4 (omega arith) in
    let above = c.above in
    let near = rounds_near (in_words n + m) 4 (omega arith) in
    between (in_words n) (in_words m) (in_words (in_words n + m)) m i j k low high above near
  where
    between : (a b c m : ℕ) → a % 4 ≡ 0 → b % 4 ≡ 0 → c % 4 ≡ 0 → m ≤ b → b < m + 4 → a + m ≤ c → c < a + m + 4 → c ≡ a + b
    between a b c m i j k low high above near = omega arith

abbrev sizes_of : List Block → List ℕ
sizes_of bs = map (λ (b : Block). b.size) bs

-- blocks behind this end
ends_behind : (end : ℕ) (b : Block) (bs : List Block) → blocks_end end (b ∷ bs) ≡ in_words end + data_end (sizes_of (b ∷ bs))
ends_behind end b [] = refl
ends_behind end b (c ∷ bs) =
    let rest = ends_behind (block_end end b) c bs in
    let words = words_first end b.size in
    omega arith

pub ends_are : (bs : List Block) → blocks_end 0 bs ≡ data_end (sizes_of bs)
ends_are [] = refl
ends_are (b ∷ bs) = let e = ends_behind 0 b bs in omega arith

pub sizes_kept : (blocks : List StaticBlock) → All (λ (b : StaticBlock). AreWhole b.cells) blocks → map data_size (map data_core blocks) ≡ map (λ (b : StaticBlock). length b.cells) blocks
sizes_kept [] h = refl
sizes_kept (b ∷ blocks) h =
    ap (λ n. n ∷ map data_size (map data_core blocks)) (ap (λ (cells : List Cell). length cells) (cells_kept b.cells (h 0 b (omega arith))))
    ∙ ap (λ ns. length b.cells ∷ ns) (sizes_kept blocks (λ k d lt. h (suc k) d (omega arith)))
