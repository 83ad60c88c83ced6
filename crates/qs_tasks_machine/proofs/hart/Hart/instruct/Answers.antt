use Rattle.std.proofs.Common.{◌≡◌, ℕ, ◌+◌, ◌++◌, [], ◌∷◌, Some, None, refl, sym, ap, ◌∙◌, subst, slice_set, arith}
use Rattle.std.specs.Vec.{with_item}
use Rattle.std.proofs.lemmas.List.{get_or_read}
use Rattle.qs_machine.specs.declared.answers.Cause.TheVariants.{UnknownCall}
use Rattle.qs_machine.specs.Standing.{state_of}
use Rattle.qs_machine.specs.Parts.{pc_of}
use Rattle.qs_tasks_run.specs.declared.tasks.Task.{Task as DeclaredTask}
use Rattle.qs_tasks_run.specs.TasksRun.{going, trapped, bytes_by, instruct}
use Rattle.qs_tasks_machine.specs.Harts.{RunsTasks, progress_in, scene_of}
use Rattle.qs_tasks_machine.specs.Reports.{put_of}
use Rattle.qs_tasks_machine.proofs.HartLaws.{first_running}
use Rattle.qs_tasks_machine.proofs.RunLaws.{input_of, stands, exits, traps, stepped_runs, goes}
use Rattle.qs_tasks_machine.proofs.hart.Hart.instruct.Goals as goal

pub returns-in-Going-clause-instructs : goal.returns-in-Going-clause-instructs
returns-in-Going-clause-instructs c = λ y puts r.
    let h = c.args.self.now in
    let task = c.index-task.result.now in
    let m = c.set_taken.new.self in
    let n = c.step-result.new.self in
    let input = c.deref.result.now in
    let first = get_or_read h.running.items 0 task c.requires.some c.index-task.ensures 0 in
    let within = first_running y h task r c.requires.some first in
    let each = r.counts.each_taken in
    let count = get_or_read h.taken.items task c.index.result.now (omega (arith, each, within)) c.index.ensures 0 in
    let input_is = c.deref.ensures.value ∙ ap (λ (t : DeclaredTask). t.input.items) (sym c.index-tasks-task.is) ∙ input_of y h r task c.index-tasks-task.result within c.index-tasks-task.is in
    let g = c.in-Going.ensures.steps y.image y.size (state_of m input (bytes_by task puts)) (stands y h r puts task c.index.result.now input m n count c.set_taken.ensures input_is) in
    let k = record h { machine = n; taken = with_item h.taken task c.taken.result; time = h.time + 1 } in
    let counted = ap (λ (w : ℕ). slice_set h.taken.items task w) c.taken.ensures in
    subst (λ (t : ℕ). RunsTasks k y × (instruct y t (scene_of y h puts) ≡ going (scene_of y k (puts ++ put_of t None)))) first (
      stepped_runs y h r puts task c.index.result.now input m n count c.set_taken.ensures input_is [] g k refl within counted c.step-result.ensures.within refl,
      goes y h r puts task c.index.result.now input m n count c.set_taken.ensures input_is [] g k refl within counted c.step-result.ensures.within refl,
    )

pub returns-in-Put-clause-instructs : goal.returns-in-Put-clause-instructs
returns-in-Put-clause-instructs c = λ y puts r.
    let h = c.args.self.now in
    let task = c.index-task.result.now in
    let m = c.set_taken.new.self in
    let n = c.step-result.new.self in
    let input = c.deref.result.now in
    let first = get_or_read h.running.items 0 task c.requires.some c.index-task.ensures 0 in
    let within = first_running y h task r c.requires.some first in
    let each = r.counts.each_taken in
    let count = get_or_read h.taken.items task c.index.result.now (omega (arith, each, within)) c.index.ensures 0 in
    let input_is = c.deref.ensures.value ∙ ap (λ (t : DeclaredTask). t.input.items) (sym c.index-tasks-task.is) ∙ input_of y h r task c.index-tasks-task.result within c.index-tasks-task.is in
    let g = c.in-Put.ensures.steps y.image y.size (state_of m input (bytes_by task puts)) (stands y h r puts task c.index.result.now input m n count c.set_taken.ensures input_is) in
    let k = record h { machine = n; taken = with_item h.taken task c.taken.result; time = h.time + 1 } in
    let counted = ap (λ (w : ℕ). slice_set h.taken.items task w) c.taken.ensures in
    subst (λ (t : ℕ). RunsTasks k y × (instruct y t (scene_of y h puts) ≡ going (scene_of y k (puts ++ put_of t (Some c.in-Put.byte))))) first (
      stepped_runs y h r puts task c.index.result.now input m n count c.set_taken.ensures input_is (c.in-Put.byte ∷ []) g k refl within counted c.step-result.ensures.within refl,
      goes y h r puts task c.index.result.now input m n count c.set_taken.ensures input_is (c.in-Put.byte ∷ []) g k refl within counted c.step-result.ensures.within refl,
    )

pub returns-in-Exited-clause-instructs : goal.returns-in-Exited-clause-instructs
returns-in-Exited-clause-instructs c = λ y puts r.
    let h = c.args.self.now in
    let task = c.index-task.result.now in
    let m = c.set_taken.new.self in
    let n = c.step-result.new.self in
    let input = c.deref.result.now in
    let first = get_or_read h.running.items 0 task c.requires.some c.index-task.ensures 0 in
    let within = first_running y h task r c.requires.some first in
    let each = r.counts.each_taken in
    let count = get_or_read h.taken.items task c.index.result.now (omega (arith, each, within)) c.index.ensures 0 in
    let input_is = c.deref.ensures.value ∙ ap (λ (t : DeclaredTask). t.input.items) (sym c.index-tasks-task.is) ∙ input_of y h r task c.index-tasks-task.result within c.index-tasks-task.is in
    let g = c.in-Exited.ensures.steps y.image y.size (state_of m input (bytes_by task puts)) (stands y h r puts task c.index.result.now input m n count c.set_taken.ensures input_is) in
    subst (λ (t : ℕ). (instruct y t (scene_of y h puts) ≡ trapped task UnknownCall c.pc.result (progress_in y h puts)) × (h.returned.items ≡ h.returned.items)) first
    (exits y h r puts task c.index.result.now input m n count c.set_taken.ensures input_is c.in-Exited.field-0 c.pc.result g.0 (c.pc.ensures ∙ ap pc_of g.1), refl)

pub returns-in-Trapped-clause-instructs : goal.returns-in-Trapped-clause-instructs
returns-in-Trapped-clause-instructs c = λ y puts r.
    let h = c.args.self.now in
    let task = c.index-task.result.now in
    let m = c.set_taken.new.self in
    let n = c.step-result.new.self in
    let input = c.deref.result.now in
    let first = get_or_read h.running.items 0 task c.requires.some c.index-task.ensures 0 in
    let within = first_running y h task r c.requires.some first in
    let each = r.counts.each_taken in
    let count = get_or_read h.taken.items task c.index.result.now (omega (arith, each, within)) c.index.ensures 0 in
    let input_is = c.deref.ensures.value ∙ ap (λ (t : DeclaredTask). t.input.items) (sym c.index-tasks-task.is) ∙ input_of y h r task c.index-tasks-task.result within c.index-tasks-task.is in
    let g = c.in-Trapped.ensures.steps y.image y.size (state_of m input (bytes_by task puts)) (stands y h r puts task c.index.result.now input m n count c.set_taken.ensures input_is) in
    subst (λ (t : ℕ). (instruct y t (scene_of y h puts) ≡ trapped task c.in-Trapped.cause c.in-Trapped.pc (progress_in y h puts)) × (h.returned.items ≡ h.returned.items)) first
    (traps y h r puts task c.index.result.now input m n count c.set_taken.ensures input_is c.in-Trapped.cause c.in-Trapped.pc g.0 g.1, refl)
