use Rattle.qs_driver.proofs.rooms.Tool.{lacks}
use Rattle.qs_driver.proofs.tool.lacks_memory.Goals as goal

pub returns : goal.returns
returns g c = lacks _ _ _ _ _ c.refuse.ensures
