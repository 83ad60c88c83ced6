use Rattle.std.proofs.Common.{ℕ, ◌<◌, Some, sym, ap, ◌∙◌}
use Rattle.std.specs.List.{remove}
use Rattle.std.proofs.lemmas.List.{get_or_read}
use Rattle.std.proofs.lemmas.List.Elements.{All-same}
use Rattle.qs_tasks_run.specs.TasksRun.{Choice}
use Rattle.qs_tasks_machine.specs.Harts.{count_of}
use Rattle.qs_tasks_machine.proofs.HartLaws.{removed_known, starts_now, waiting_runs}
use Rattle.qs_tasks_machine.proofs.hart.Hart.start_waiting.Goals as goal

pub returns-clause-acts : goal.returns-clause-acts
returns-clause-acts c = λ y puts r.
    let h = c.args.self.now in
    let w = h.waiting.items in
    let task = c.index-task.result.now in
    let place = c.in-Some.place in
    let chosen = c.in-Some.ensures y r in
    let first = get_or_read w place task chosen.0 c.index-task.ensures 0 in
    let e = chosen.1 ∙ ap (λ (t : ℕ). let o : Choice = record { task = t; others = remove w place } in Some o) (sym first) in
    let t = sym c.if-not-comes_first.false ∙ c.comes_first.ensures y r in
    let k = record h { waiting = c.remove.new.self } in
    let all = All-same (λ (t : ℕ). t < count_of h) c.remove.new.self.items (remove w place) c.remove.ensures.items (removed_known (count_of h) w place r.known.wait) in
    starts_now y h r puts (record { task = task; others = remove w place }) k c.begin.new.self c.begin.result e t c.remove.ensures.items (c.begin.ensures.acts y puts (waiting_runs y h r k all))
