use Rattle.std.proofs.Common.{◌≡◌, ◌≤◌, ◌+◌}
use Rattle.qs_base.specs.Positions.{column_at, line_at}
use Rattle.qs_base.proofs.places.position.Given as goal

abbrev pub invariant-loop-byte : goal.invariant-loop-byte
invariant-loop-byte l =
    (l.pos.line ≡ line_at l.byte-items l.byte-index)
    × (l.pos.column ≡ column_at l.byte-items l.byte-index)
    × (l.pos.line ≤ 1 + l.byte-index)
    × (l.pos.column ≤ 1 + l.byte-index)
