use Rattle.std.proofs.Common.{◌∙◌, sym}
use Rattle.qs_poly.proofs.Steps.{atom_passed}
use Rattle.qs_poly.proofs.monomial.place_of_atom.Goals as goal

pub loop-i-preserved : goal.loop-i-preserved
loop-i-preserved c = c.loop-i.invariant ∙ atom_passed c.args.atom.now c.args.atoms.now c.loop-i.i c.index-atoms-i.result c.loop-i-test.true (sym c.in-Greater.ensures) c.index-atoms-i.is
