use Rattle.std.proofs.Common.{◌≡◌, ℕ, ◌<◌, ◌==◌, List, [], Option, Some, None, Ok, length, sym, ap, ◌∙◌, subst, slice_index, arith}
use Rattle.std.proofs.lemmas.List.{get_or_read, nil_from_length}
use Rattle.qs_ports.specs.SinkView.{PutsAll}
use Rattle.qs_ports.proofs.Sinks.{appends_nothing}
use Rattle.qs_tasks_run.specs.declared.tasks.Task.{Task as DeclaredTask}
use Rattle.qs_tasks_run.specs.TasksRun.{instruct, run}
use Rattle.qs_tasks_machine.specs.declared.report.TasksEnd.{TasksEnd}
use Rattle.qs_tasks_machine.specs.Harts.{scene_of}
use Rattle.qs_tasks_machine.specs.Reports.{EndsAs, IsInstructed}
use Rattle.qs_tasks_machine.proofs.HartLaws.{first_running, none_left, some_left}
use Rattle.qs_tasks_machine.proofs.RunLaws.{ran_none, same_time, ends_trapped, ends_done, ends_stopped, ends_cut_by, ran_more, name_of, puts_whole, text_is, last_trapped, last_done, last_going}
use Rattle.qs_tasks_machine.proofs.hart.Hart.run.Goals as goal
use Rattle.qs_tasks_machine.proofs.hart.Hart.run.Goals.{in-None, in-Some+else-is_err}

pub steps-init : goal.steps-init
steps-init g c = record {
  tasks = c.requires.tasks;
  room = c.requires.room;
  time = c.requires.fresh.time;
  ran = λ y r. ran_none y c.args.self.now (g.K.Sink.view c.args.out.now) r c.requires.fresh;
}

pub returns-in-Err : goal.returns-in-Err
returns-in-Err g c = λ y r.
    let ran = c.steps.invariant.ran y r in
    let u = g.K.Sink.view c.args.out.now in
    let v = g.K.Sink.view c.steps.out in
    subst (λ (e : TasksEnd). EndsAs y (run y c.args.steps (scene_of y c.args.self.now [])) u v e c.settle.new.self.returned.items) (sym c.trapped.ensures)
    (ends_trapped y c.args.self.now c.steps.self c.steps.counter u v ran c.args.steps c.steps-test.true c.settle.new.self c.in-Err.trap (c.in-Err.ensures.acts y ran.puts ran.tasks))

pub returns-then-is_empty : goal.returns-then-is_empty
returns-then-is_empty g c = λ y r.
    let ran = c.steps.invariant.ran y r in
    let k = c.settle.new.self in
    let same = k.running.ok.0 in
    let none = none_left k.running.len (sym c.is_empty.ensures ∙ c.if-is_empty.true) in
    let nil = nil_from_length k.running.items (omega (arith, same, none)) in
    ends_done y c.args.self.now c.steps.self c.steps.counter (g.K.Sink.view c.args.out.now) (g.K.Sink.view c.steps.out) ran c.args.steps c.steps-test.true k (c.in_default.ensures.acts y ran.puts ran.tasks) nil

pub instruct-requires-clause-time : goal.instruct-requires-clause-time
instruct-requires-clause-time g c =
    let y = c.requires.tasks.system in
    let ran = c.steps.invariant.ran y c.requires.tasks.is in
    let same = same_time y c.args.self.now c.steps.self c.steps.counter (g.K.Sink.view c.args.out.now) (g.K.Sink.view c.steps.out) ran c.settle.new.self (c.in_default.ensures.acts y ran.puts ran.tasks) in
    let time = c.steps.invariant.time in
    let lt = c.steps-test.true in
    omega (arith, same, time, lt)

pub instruct-requires-clause-tasks : goal.instruct-requires-clause-tasks
instruct-requires-clause-tasks g c =
    let y = c.requires.tasks.system in
    let ran = c.steps.invariant.ran y c.requires.tasks.is in
    let f = c.in_default.ensures.acts y ran.puts ran.tasks in
    record { system = y; is = f.tasks }

pub returns-in-Err-instruct : goal.returns-in-Err-instruct
returns-in-Err-instruct g c = λ y r.
    let ran = c.steps.invariant.ran y r in
    let u = g.K.Sink.view c.args.out.now in
    let v = g.K.Sink.view c.steps.out in
    let k = c.settle.new.self in
    let f = c.in_default.ensures.acts y ran.puts ran.tasks in
    let same = k.running.ok.0 in
    let any = some_left k.running.len (sym c.is_empty.ensures ∙ c.if-is_empty.false) in
    let some : 0 < length k.running.items = omega (arith, same, any) in
    subst (λ (e : TasksEnd). EndsAs y (run y c.args.steps (scene_of y c.args.self.now [])) u v e c.instruct.new.self.returned.items) (sym c.trapped-in-Err-instruct.ensures)
    (ends_stopped y c.args.self.now c.steps.self c.steps.counter u v ran c.args.steps c.steps-test.true k f some c.instruct.new.self c.in-Err-instruct.trap (c.in-Err-instruct.ensures.instructs y ran.puts f.tasks))

pub bounds-tasks-task : goal.bounds-tasks-task
bounds-tasks-task g c =
    let y = c.requires.tasks.system in
    let ran = c.steps.invariant.ran y c.requires.tasks.is in
    let f = c.in_default.ensures.acts y ran.puts ran.tasks in
    let k = c.settle.new.self in
    let same = k.running.ok.0 in
    let any = some_left k.running.len (sym c.is_empty.ensures ∙ c.if-is_empty.false) in
    let some : 0 < length k.running.items = omega (arith, same, any) in
    first_running y k c.index-task.result.now f.tasks some (get_or_read k.running.items 0 c.index-task.result.now some c.index-task.ensures 0)

pub returns-then-is_err : goal.returns-then-is_err
returns-then-is_err g c = λ y r.
    let ran = c.steps.invariant.ran y r in
    let u = g.K.Sink.view c.args.out.now in
    let v = g.K.Sink.view c.steps.out in
    let w = g.K.Sink.view c.put_line.new.out in
    let k = c.settle.new.self in
    let n = c.instruct.new.self in
    let f = c.in_default.ensures.acts y ran.puts ran.tasks in
    let same = k.running.ok.0 in
    let any = some_left k.running.len (sym c.is_empty.ensures ∙ c.if-is_empty.false) in
    let some : 0 < length k.running.items = omega (arith, same, any) in
    let first = get_or_read k.running.items 0 c.index-task.result.now some c.index-task.ensures 0 in
    let within = first_running y k c.index-task.result.now f.tasks some first in
    let i = subst (λ (o : Option ℕ). IsInstructed y ran.puts (slice_index k.running.items 0) k n (instruct y (slice_index k.running.items 0) (scene_of y k ran.puts)) (Ok o)) c.in-Some.is (c.in-Ok.ensures.instructs y ran.puts f.tasks) in
    let name = c.bytes.ensures ∙ ap (λ (t : DeclaredTask). t.name) (sym c.index-tasks-task.is) ∙ name_of y k f.tasks c.index-task.result.now c.index-tasks-task.result within c.index-tasks-task.is in
    let text = text_is y c.index-task.result.now (slice_index k.running.items 0) c.in-Some.byte c.bytes.result.now name first in
    ends_cut_by y c.args.self.now c.steps.self c.steps.counter u v ran c.args.steps c.steps-test.true k f some n c.in-Some.byte w c.put_line.result (sym c.is_err.ensures.value ∙ c.if-is_err.true) i
    (subst (λ (l : List ℕ). PutsAll v w l c.put_line.result) text c.put_line.ensures)

pub steps-preserved : goal.steps-preserved
steps-preserved g c =
    let u = g.K.Sink.view c.args.out.now in
    let v = g.K.Sink.view c.steps.out in
    let k = c.settle.new.self in
    let n = c.instruct.new.self in
    let same = k.running.ok.0 in
    let any = some_left k.running.len (sym c.is_empty.ensures ∙ c.if-is_empty.false) in
    let some : 0 < length k.running.items = omega (arith, same, any) in
    let y0 = c.requires.tasks.system in
    let ran0 = c.steps.invariant.ran y0 c.requires.tasks.is in
    let f0 = c.in_default.ensures.acts y0 ran0.puts ran0.tasks in
    let still = same_time y0 c.args.self.now c.steps.self c.steps.counter u v ran0 k f0 in
    let time = c.steps.invariant.time in
    let later = c.instruct.ensures.time in
    let i0 = c.in-Ok.ensures.instructs y0 ran0.puts f0.tasks in
    record {
      tasks = record { system = y0; is = i0.0 };
      room = c.instruct.ensures.room;
      time = omega (arith, still, time, later);
      ran = λ y r.
          let ran = c.steps.invariant.ran y r in
          let f = c.in_default.ensures.acts y ran.puts ran.tasks in
          let i = c.in-Ok.ensures.instructs y ran.puts f.tasks in
          elim c.match-put.branch [
            | in-None w ↦
                rw w.out-is
                (ran_more y c.args.self.now c.steps.self c.steps.counter u v ran c.args.steps c.steps-test.true k f some n None v
                (subst (λ (o : Option ℕ). IsInstructed y ran.puts (slice_index k.running.items 0) k n (instruct y (slice_index k.running.items 0) (scene_of y k ran.puts)) (Ok o)) w.in-None.is i) (appends_nothing v))
            | in-Some+else-is_err w ↦
                let first = get_or_read k.running.items 0 c.index-task.result.now some c.index-task.ensures 0 in
                let within = first_running y k c.index-task.result.now f.tasks some first in
                let name = w.bytes.ensures ∙ ap (λ (t : DeclaredTask). t.name) (sym w.index-tasks-task.is) ∙ name_of y k f.tasks c.index-task.result.now w.index-tasks-task.result within w.index-tasks-task.is in
                let text = text_is y c.index-task.result.now (slice_index k.running.items 0) w.in-Some.byte w.bytes.result.now name first in
                rw w.out-is
                (ran_more y c.args.self.now c.steps.self c.steps.counter u v ran c.args.steps c.steps-test.true k f some n (Some w.in-Some.byte) (g.K.Sink.view w.put_line.new.out)
                (subst (λ (o : Option ℕ). IsInstructed y ran.puts (slice_index k.running.items 0) k n (instruct y (slice_index k.running.items 0) (scene_of y k ran.puts)) (Ok o)) w.in-Some.is i)
                (puts_whole y _ v (g.K.Sink.view w.put_line.new.out) _ w.put_line.result text (sym w.is_err.ensures.value ∙ w.if-is_err.false) w.put_line.ensures))
          ];
    }

pub returns-in-Err-settle : goal.returns-in-Err-settle
returns-in-Err-settle g c = λ y r.
    let ran = c.steps.invariant.ran y r in
    let u = g.K.Sink.view c.args.out.now in
    let v = g.K.Sink.view c.steps.out in
    let all : c.steps.counter ≡ c.args.steps = omega arith in
    subst (λ (e : TasksEnd). EndsAs y (run y c.args.steps (scene_of y c.args.self.now [])) u v e c.settle-2.new.self.returned.items) (sym c.trapped-in-Err-settle.ensures)
    (rw (← all) (last_trapped y c.args.self.now c.steps.self c.steps.counter u v ran c.settle-2.new.self c.in-Err-settle.trap (c.in-Err-settle.ensures.acts y ran.puts ran.tasks)))

pub returns-then-is_empty-2 : goal.returns-then-is_empty-2
returns-then-is_empty-2 g c = λ y r.
    let ran = c.steps.invariant.ran y r in
    let k = c.settle-2.new.self in
    let same = k.running.ok.0 in
    let none = none_left k.running.len (sym c.is_empty-2.ensures ∙ c.if-is_empty-2.true) in
    let nil = nil_from_length k.running.items (omega (arith, same, none)) in
    let all : c.steps.counter ≡ c.args.steps = omega arith in
    rw (← all) (last_done y c.args.self.now c.steps.self c.steps.counter (g.K.Sink.view c.args.out.now) (g.K.Sink.view c.steps.out) ran k (c.in_default-settle.ensures.acts y ran.puts ran.tasks) nil)

pub returns-else-is_empty-2 : goal.returns-else-is_empty-2
returns-else-is_empty-2 g c = λ y r.
    let ran = c.steps.invariant.ran y r in
    let k = c.settle-2.new.self in
    let some = ap (λ (n : ℕ). n == 0) (sym k.running.ok.0) ∙ sym c.is_empty-2.ensures ∙ c.if-is_empty-2.false in
    let all : c.steps.counter ≡ c.args.steps = omega arith in
    rw (← all) (last_going y c.args.self.now c.steps.self c.steps.counter (g.K.Sink.view c.args.out.now) (g.K.Sink.view c.steps.out) ran k (c.in_default-settle.ensures.acts y ran.puts ran.tasks) some)
