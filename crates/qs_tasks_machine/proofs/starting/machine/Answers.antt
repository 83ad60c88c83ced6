use Rattle.std.proofs.Common.{ℕ, take, replicate}
use Rattle.qs_tasks_machine.proofs.StartLaws.{stands_ready, zeros_of}
use Rattle.qs_tasks_machine.proofs.starting.machine.Goals as goal

pub returns-in-Ok : goal.returns-in-Ok
returns-in-Ok c =
    let n = c.parameters-count.result in
    stands_ready c.args.image.now c.args.stack (take n (replicate {A = ℕ} 8 0)) c.in-Ok.machine c.set_pc.new.self (λ i. zeros_of n 8 i) c.in-Ok.ensures.start c.set_pc.ensures
