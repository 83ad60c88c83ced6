use Rattle.std.proofs.Common.{rules}
use Rattle.qs_driver_steps.proofs.ReadingLaws.{was_read, was_long, was_missed, was_unreadable}
use Rattle.qs_driver_session.specs.Statuses.{tool, file_number}
use Rattle.qs_driver_session.proofs.files.read_file.Goals as goal

pub returns-then-len-limit-clause-takes : goal.returns-then-len-limit-clause-takes
returns-then-len-limit-clause-takes g c = was_long tool (file_number c.args.kind) c.args.kind c.args.limit c.args.name.now _ _ c.in-Ok.content.items c.in-Ok.ensures.reads c.in-Ok.ensures.stops (search rules)

pub returns-else-len-limit-clause-takes : goal.returns-else-len-limit-clause-takes
returns-else-len-limit-clause-takes g c = was_read tool (file_number c.args.kind) c.args.kind c.args.limit c.args.name.now _ _ c.in-Ok.content.items c.in-Ok.ensures.reads c.in-Ok.ensures.stops (search rules)

pub returns-in-Err-Missing-clause-takes : goal.returns-in-Err-Missing-clause-takes
returns-in-Err-Missing-clause-takes g c =
    let h = rw c.in-Err-Missing.field-0-is at c.in-Err-Missing.ensures.reads in
    was_missed tool (file_number c.args.kind) c.args.kind c.args.limit c.args.name.now _ _ h.0 h.1 h.2 c.in-Err-Missing.ensures.stops

pub returns-in-Err-Failed-clause-takes : goal.returns-in-Err-Failed-clause-takes
returns-in-Err-Failed-clause-takes g c =
    let h = rw c.in-Err-Failed.field-0-is at c.in-Err-Failed.ensures.reads in
    was_unreadable tool (file_number c.args.kind) c.args.kind c.args.limit c.args.name.now _ _ h.0 h.1 c.in-Err-Failed.ensures.stops
