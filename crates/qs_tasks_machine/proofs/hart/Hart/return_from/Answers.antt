use Rattle.std.proofs.Common.{◌≡◌, ℕ, ◌+◌, ◌%◌, [], refl, sym, ap, ◌∙◌, drop, subst, eq-eqb, arith}
use Rattle.std.specs.Vec.{with_item}
use Rattle.std.proofs.lemmas.List.{get_or_read}
use Rattle.qs_machine.specs.Parts.{memory_in, Changes}
use Rattle.qs_tasks_run.specs.Contexts.{word_at}
use Rattle.qs_tasks_run.specs.TasksRun.{return_from}
use Rattle.qs_tasks_machine.specs.Harts.{Follows, scene_of, stack_pointer_in, taking_back}
use Rattle.qs_tasks_machine.proofs.HartLaws.{first_running, returned_runs, back_runs, returns_back}
use Rattle.qs_tasks_machine.proofs.hart.Hart.return_from.Goals as goal

pub start_waiting-requires-clause-tasks : goal.start_waiting-requires-clause-tasks
start_waiting-requires-clause-tasks c =
    let h = c.args.self.now in
    let y = c.requires.tasks.system in
    let r = c.requires.tasks.is in
    let task = c.index-task.result.now in
    let first = get_or_read h.running.items 0 task c.requires.some c.index-task.ensures 0 in
    let within = first_running y h task r c.requires.some first in
    let each = r.counts.each_returned in
    let old = get_or_read h.returned.items task c.index_mut.result.now (omega (arith, each, within)) c.index_mut.ensures.value 0 in
    let k = record h { running = c.remove.new.self; returned = with_item h.returned task (c.index_mut.result.now + 1) } in
    let n = record h { machine = c.take_back.new.machine } in
    let runs = c.remove.ensures.items in
    let t = sym c.if-is_off_stack.false ∙ c.is_off_stack.ensures y (returned_runs y h r k task c.index_mut.result.now [] within old refl runs) in
    let back = subst (λ (from : ℕ). Changes h.machine c.take_back.new.machine (taking_back from)) c.register-sp.ensures c.take_back.ensures in
    record { system = y; is = back_runs y h r k task c.index_mut.result.now [] within old refl runs n back t }

pub returns-clause-acts : goal.returns-clause-acts
returns-clause-acts c = λ y puts r.
    let h = c.args.self.now in
    let task = c.index-task.result.now in
    let first = get_or_read h.running.items 0 task c.requires.some c.index-task.ensures 0 in
    let within = first_running y h task r c.requires.some first in
    let each = r.counts.each_returned in
    let old = get_or_read h.returned.items task c.index_mut.result.now (omega (arith, each, within)) c.index_mut.ensures.value 0 in
    let k = record h { running = c.remove.new.self; returned = with_item h.returned task (c.index_mut.result.now + 1) } in
    let n = record h { machine = c.take_back.new.machine } in
    let runs = c.remove.ensures.items in
    let t = sym c.if-is_off_stack.false ∙ c.is_off_stack.ensures y (returned_runs y h r k task c.index_mut.result.now puts within old refl runs) in
    let back = subst (λ (from : ℕ). Changes h.machine c.take_back.new.machine (taking_back from)) c.register-sp.ensures c.take_back.ensures in
    let same : word_at (memory_in h.machine) (stack_pointer_in h.machine) % 4 ≡ 0 =
    ap (λ (n : ℕ). n % 4) (sym (c.word_at.ensures ∙ ap (word_at (memory_in h.machine)) c.register-sp.ensures)) ∙ c.if-word_at-ne0.false in
    let aligned = eq-eqb (word_at (memory_in h.machine) (stack_pointer_in h.machine) % 4) 0 same in
    subst (λ (x : ℕ). Follows y puts (return_from y x (drop 1 h.running.items) (scene_of y h puts)) c.start_waiting.new.self c.start_waiting.result) first
    (returns_back y h r k task c.index_mut.result.now puts within old refl runs n back t c.start_waiting.new.self c.start_waiting.result aligned
    (c.start_waiting.ensures.acts y puts (back_runs y h r k task c.index_mut.result.now puts within old refl runs n back t)))
