use Rattle.std.proofs.Common.{Some, ap, ◌∙◌}
use Rattle.qs_emit_selection.specs.Pieces.{shift_of}
use Rattle.qs_emit_selection.proofs.PieceLaws.{all_shifts, shift_found, shift_goes_on}
use Rattle.qs_emit_selection.proofs.pieces.shift_of.Goals as goal

pub loop-exponent-init : goal.loop-exponent-init
loop-exponent-init c = all_shifts c.args.number

pub returns-then-exponent-number : goal.returns-then-exponent-number
returns-then-exponent-number c =
    ap Some c.new.ensures
    ∙ shift_found c.loop-exponent.exponent c.args.number (shift_of c.args.number) c.loop-exponent-test.true c.if-exponent-number.true
    c.loop-exponent.invariant

pub loop-exponent-preserved : goal.loop-exponent-preserved
loop-exponent-preserved c =
    shift_goes_on c.loop-exponent.exponent c.args.number (shift_of c.args.number) c.loop-exponent-test.true c.if-exponent-number.false
    c.loop-exponent.invariant
