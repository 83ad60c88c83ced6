use Rattle.std.proofs.Common.{◌≡◌}
use Rattle.qs_machine.specs.Run.{start}
use Rattle.qs_machine.specs.Standing.{taken_of}
use Rattle.qs_machine.proofs.Runs.{shows_machine}
use Rattle.qs_machine.specs.Arguments.{words_of}
use Rattle.qs_driver_steps.specs.Runs.{Halted}
use Rattle.qs_driver_session.specs.Starting.{words_in}
use Rattle.qs_driver_session.specs.commands.Run.{prepared, IsReady}
use Rattle.qs_driver_session.proofs.StartingLaws.{may_run}
use Rattle.qs_driver_session.proofs.rooms.Run.{run_answers, fault_put}
use Rattle.qs_driver_session.proofs.commands.run.run_ready.Goals as goal

pub run-end-requires : goal.run-end-requires
run-end-requires g c =
    let e : taken_of c.in-Ok.ready.machine ≡ 0 = rw c.in-Ok.is at c.requires in
    may_run _ _ e

pub returns-in-Ok : goal.returns-in-Ok
returns-in-Ok g c = λ s s' prepared.
    let r = words_in c.args.order.now in
    let h : IsReady r s s' c.in-Ok.ready = rw c.in-Ok.is at prepared in
    let runs = rw c.deref.ensures.value at c.run-end.ensures.runs in
    let shown = shows_machine c.run-end.new.self h.image r.stack (words_of r.args) c.in-Ok.ready.input.items r.steps (g.O.Sink.view c.args.streams.0.now) (g.O.Sink.view c.run-end.new.out) c.run-end.result (runs h.image r.stack (start h.image (words_of r.args) c.in-Ok.ready.input.items) h.stands) in
    run_answers r s s' _ _ _ _ c.in-Ok.ready c.finish.result h c.run-end.result shown c.finish.ensures

pub returns-in-Err : goal.returns-in-Err
returns-in-Err g c = λ s s' work.
    let r = words_in c.args.order.now in
    let h : Halted (prepared r) s s' c.in-Err.status = rw c.in-Err.is at work in
    fault_put r s s' _ _ _ c.in-Err.status _ h (rw c.names_of.ensures at c.refuse.ensures)
