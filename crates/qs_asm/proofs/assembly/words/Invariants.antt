use Rattle.std.proofs.Common.{◌≡◌, ◌++◌, ℕ, ◌<◌, ◌^◌, map, drop, Some}
use Rattle.std.specs.Prelude.{All}
use Rattle.qs_isa.specs.Table.{decode_of}
use Rattle.qs_asm.proofs.assembly.words.Given as goal

abbrev pub invariant-loop-i : goal.invariant-loop-i
invariant-loop-i l =
    (map decode_of l.all.items ++ map Some (drop l.i-index l.code) ≡ map Some l.code) × All (λ (word : ℕ). word < 2 ^ 32) l.all.items
