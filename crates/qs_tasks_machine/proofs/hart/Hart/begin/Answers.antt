use Rattle.std.proofs.Common.{◌≡◌, ◌+◌, ◌≤◌, ◌∷◌, arith}
use Rattle.std.proofs.lemmas.List.{get_or_read}
use Rattle.qs_tasks_run.specs.Contexts.{context_bytes}
use Rattle.qs_tasks_machine.specs.Harts.{stack_pointer_in}
use Rattle.qs_tasks_machine.proofs.HartLaws.{begins}
use Rattle.qs_tasks_machine.proofs.hart.Hart.begin.Goals as goal

pub returns-clause-acts : goal.returns-clause-acts
returns-clause-acts c = λ y puts r.
    let h = c.args.self.now in
    let u = c.unwrap.ensures in
    let runs : c.insert.new.self.items ≡ c.args.task ∷ h.running.items = rw u at c.insert.ensures.items in
    let each = r.tasks.each in
    let known = c.requires.known in
    let entry = get_or_read h.entries.items c.args.task c.index.result.now (omega (arith, each, known)) c.index.ensures 0 in
    let low = c.if-register-self.false in
    let pointer = c.register.ensures in
    let le : h.base + context_bytes ≤ stack_pointer_in h.machine = omega (arith, low, pointer) in
    begins y h r (record h { machine = c.enter.new.machine; running = c.insert.new.self }) c.args.task c.index.result.now puts c.requires.known entry c.enter.ensures runs le
