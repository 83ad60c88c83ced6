use Rattle.qs_print.specs.Printed.{printed_stars}
use Rattle.qs_print.specs.Words.{Writes}
use Rattle.qs_print.proofs.types.put_stars.Given as goal

-- the stars so far are written
abbrev pub invariant-loop-star : goal.invariant-loop-star
invariant-loop-star l = Writes l.fn.out.items (printed_stars l._star) l.out.items
