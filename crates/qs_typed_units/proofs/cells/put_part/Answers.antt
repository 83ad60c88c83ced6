use Rattle.std.proofs.Common.{rules}
use Rattle.qs_typed_units.specs.CellsOf.{begun_cells, contents_tree, target_tree}
use Rattle.qs_typed_units.proofs.DataOrder.{part_more}
use Rattle.qs_typed_units.proofs.cells.put_part.Goals as goal

pub returns-then-k-lt3 : goal.returns-then-k-lt3
returns-then-k-lt3 c = part_more (contents_tree c.args.contents.now) (begun_cells c.args.begun.now) (target_tree c.args.target) c.args.k (search rules)
