use Rattle.qs_driver.specs.commands.Exec.{words_in, CannotExec}
use Rattle.qs_driver.proofs.rooms.Exec.{fault_put}
use Rattle.qs_driver.proofs.commands.exec.run_or_refuse.Goals as goal

pub run_started-requires : goal.run_started-requires
run_started-requires g c = rw c.in-Ok.is at c.requires

pub returns-in-Ok : goal.returns-in-Ok
returns-in-Ok g c = rw c.in-Ok.is c.run_started.ensures

pub returns-in-Err : goal.returns-in-Err
returns-in-Err g c = λ s s' started.
    let e = words_in c.args.order.now in
    let h : CannotExec e s s' c.in-Err.status = rw c.in-Err.is at started in
    fault_put e s s' _ _ _ c.in-Err.status _ h (rw c.names_of.ensures at c.refuse.ensures)
