use Rattle.std.proofs.Common.{◌≡◌, ◌-◌, length, replicate, refl, rules}
use Rattle.qs_tasks_machine.specs.declared.hart.Hart.{Hart}
use Rattle.qs_tasks_machine.proofs.StartLaws.{started_runs, started_scene}
use Rattle.qs_tasks_machine.proofs.hart.Hart.new.Goals as goal

pub returns-clause-tasks : goal.returns-clause-tasks
returns-clause-tasks c =
    let k : Hart = record { machine = c.in_ok-machine.field-0; base = 2147483648 - c.args.stack; tasks = c.args.tasks; entries = c.in_ok-entries.field-0; running = c.in_ok-with_capacity.field-0; waiting = c.in_ok-with_capacity-2.field-0; coming = c.args.arrivals; time = 0; taken = c.in_ok-vec.field-0; returned = c.in_ok-vec-2.field-0 } in
    let taken : c.in_ok-vec.field-0.items ≡ replicate (length c.args.tasks.now) 0 = search rules in
    let returned : c.in_ok-vec-2.field-0.items ≡ replicate (length c.args.tasks.now) 0 = search rules in
    started_runs c.args.image.now c.args.stack k c.in_ok-machine.ensures c.in_ok-entries.ensures taken returned c.in_ok-with_capacity.ensures.items c.in_ok-with_capacity-2.ensures.items c.requires.known refl

pub returns-clause-start : goal.returns-clause-start
returns-clause-start c =
    let k : Hart = record { machine = c.in_ok-machine.field-0; base = 2147483648 - c.args.stack; tasks = c.args.tasks; entries = c.in_ok-entries.field-0; running = c.in_ok-with_capacity.field-0; waiting = c.in_ok-with_capacity-2.field-0; coming = c.args.arrivals; time = 0; taken = c.in_ok-vec.field-0; returned = c.in_ok-vec-2.field-0 } in
    let taken : c.in_ok-vec.field-0.items ≡ replicate (length c.args.tasks.now) 0 = search rules in
    let returned : c.in_ok-vec-2.field-0.items ≡ replicate (length c.args.tasks.now) 0 = search rules in
    started_scene c.args.image.now c.args.stack k c.in_ok-machine.ensures c.in_ok-entries.ensures taken returned c.in_ok-with_capacity.ensures.items c.in_ok-with_capacity-2.ensures.items c.requires.known refl
