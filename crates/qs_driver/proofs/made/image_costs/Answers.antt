use Rattle.std.proofs.Common.{ap}
use Rattle.qs_image.specs.Image.{Image}
use Rattle.qs_driver.proofs.made.image_costs.Goals as goal

pub returns : goal.returns
returns c = rw (← ap (λ (i : Image). i.functions) c.image.view_is) (rw c.deref.ensures.value at c.costs_of.ensures)
