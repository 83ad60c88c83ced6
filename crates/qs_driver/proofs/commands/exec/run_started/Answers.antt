use Rattle.qs_machine.specs.Run.{start}
use Rattle.qs_machine.proofs.Runs.{shows_machine}
use Rattle.qs_machine.specs.Arguments.{words_of}
use Rattle.qs_driver_session.proofs.StartingLaws.{may_run}
use Rattle.qs_driver.specs.commands.Exec.{words_in}
use Rattle.qs_driver.proofs.rooms.Exec.{bound_cut, run_answers}
use Rattle.qs_driver.proofs.commands.exec.run_started.Goals as goal

pub run-end-requires : goal.run-end-requires
run-end-requires g c = may_run _ _ c.requires

pub returns-in-Ok : goal.returns-in-Ok
returns-in-Ok g c = λ s s' h.
    let e = words_in c.args.order.now in
    let ready = c.args.start.ready in
    let runs = rw c.deref.ensures.value at c.run-end.ensures.runs in
    let shown = shows_machine c.run-end.new.self h.image c.args.start.stack (words_of e.args) ready.input.items e.steps (g.O.Sink.view c.args.streams.0.now) (g.O.Sink.view c.run-end.new.out) c.run-end.result (runs h.image c.args.start.stack (start h.image (words_of e.args) ready.input.items) h.stands) in
    run_answers h _ _ _ _ _ c.run-end.result c.finish.result (rw c.from.ensures at c.in-Ok.ensures) shown (rw c.run_order.ensures at c.finish.ensures)

pub returns-in-Err : goal.returns-in-Err
returns-in-Err g c = λ s s' h. let cut = rw c.from.ensures at c.in-Err.ensures in bound_cut h _ _ _ cut.0 cut.1
