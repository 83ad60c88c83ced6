use Rattle.std.proofs.Common.{◌++◌, ◌∙◌, ap}
use Rattle.qs_memory.specs.BlankOf.{blank_tree}
use Rattle.qs_memory.specs.Memory.{blank_cells}
use Rattle.qs_typed_units.specs.CellsOf.{contents_tree}
use Rattle.qs_typed_units.proofs.DataOrder.{once_more}
use Rattle.qs_typed_units.proofs.contents.+blank.Goals as goal

pub put_blank-loop-preserved : goal.put_blank-loop-preserved
put_blank-loop-preserved t c =
    once_more (contents_tree c.put_blank.new.contents) (contents_tree c.loop.contents) (contents_tree c.run.new.self) (blank_cells (blank_tree c.in-Repeated.part.value)) c.loop.counter
    (c.in_ok-put_blank-in-Repeated.ensures ∙ ap (λ b. contents_tree c.loop.contents ++ blank_cells (blank_tree b)) c.deref-in-loop.ensures) c.loop.invariant
