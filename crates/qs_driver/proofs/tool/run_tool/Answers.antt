use Rattle.std.proofs.Common.{Some, None}
use Rattle.qs_cli.specs.Reading.{command_of}
use Rattle.qs_driver.specs.PlainWords.{meaning_in}
use Rattle.qs_driver.specs.Tool.{task_of}
use Rattle.qs_driver.proofs.PlainWordsLaws.{keeps}
use Rattle.qs_driver.proofs.rooms.Tool.{promised, lacks_promised}
use Rattle.qs_driver.proofs.tool.run_tool.Goals as goal

pub perform-requires : goal.perform-requires
perform-requires g c = record { words = _; means = c.in-Ok.ensures }

pub returns-in-Ok-clause-promises : goal.returns-in-Ok-clause-promises
returns-in-Ok-clause-promises g c = rw c.in-Ok.ensures (promised (Some (command_of c.in-Ok.command)) _ _ _ c.perform.ensures)

pub returns-in-Ok-clause-keeps : goal.returns-in-Ok-clause-keeps
returns-in-Ok-clause-keeps g c = rw c.in-Ok.ensures (keeps (Some (command_of c.in-Ok.command)) _ _ _ (promised (Some (command_of c.in-Ok.command)) _ _ _ c.perform.ensures))

pub returns-in-Err-Usage-clause-promises : goal.returns-in-Err-Usage-clause-promises
returns-in-Err-Usage-clause-promises g c = rw (rw c.in-Err-Usage.field-0-is at c.in-Err-Usage.ensures) (promised None _ _ _ c.usage.ensures)

pub returns-in-Err-Usage-clause-keeps : goal.returns-in-Err-Usage-clause-keeps
returns-in-Err-Usage-clause-keeps g c = rw (rw c.in-Err-Usage.field-0-is at c.in-Err-Usage.ensures) (keeps None _ _ _ (promised None _ _ _ c.usage.ensures))

pub returns-in-Err-NoMemory-clause-promises : goal.returns-in-Err-NoMemory-clause-promises
returns-in-Err-NoMemory-clause-promises g c = lacks_promised _ _ _ _ c.lacks_memory.ensures

pub returns-in-Err-NoMemory-clause-keeps : goal.returns-in-Err-NoMemory-clause-keeps
returns-in-Err-NoMemory-clause-keeps g c = keeps (meaning_in c.args.words.now) _ _ _ (lacks_promised (task_of (meaning_in c.args.words.now)) _ _ _ c.lacks_memory.ensures)
