-- The pure positions that those in code stand for.
use Rattle.qs_types.specs.ExpressionFaults as faults
use Rattle.qs_typing_findings.specs.declared.positions.Position.{Position}
use Rattle.qs_typing_findings.specs.declared.positions.Position.TheVariants as positions

abbrev pub position_tree : Position → faults.Position
position_tree positions.Used = faults.used
position_tree positions.Discarded = faults.discarded
position_tree positions.Whole = faults.whole
