use Rattle.std.proofs.Common.{List, map, is_some, sym, ap, ◌∙◌}
use Rattle.std.proofs.lemmas.List.{map_push}
use Rattle.qs_syntax.specs.UnitTrees.{unit_tree}
use Rattle.qs_tasks_run.specs.declared.tasks.Task.{Task as DeclaredTask}
use Rattle.qs_tasks_run.specs.Tasks.{Task, task_of}
use Rattle.qs_tasks_list.specs.LinesOf.{said_tree}
use Rattle.qs_tasks_list.specs.Listing.{listed, number_among, task_function}
use Rattle.qs_tasks_list.proofs.ListLaws.{no_function_there, is_twice, is_new}
use Rattle.qs_tasks_list.proofs.listing.Said.add_task.Goals as goal

pub returns-in-None : goal.returns-in-None
returns-in-None c =
    let none = rw c.in-None.is at c.in_ok-task_function.ensures in
    no_function_there (said_tree c.args.self.now) c.args.at c.args.name c.args.priority c.args.input.items (task_function (unit_tree c.args.unit.now) c.args.name) (number_among 0 c.args.name (map task_of c.args.self.now.tasks.items))
    (ap (task_function (unit_tree c.args.unit.now)) (sym c.bytes.ensures) ∙ sym none)

pub returns-then-is_some : goal.returns-then-is_some
returns-then-is_some c =
    let some = rw c.in-Some.is at c.in_ok-task_function.ensures in
    let known = sym (c.in_ok-number_among.ensures ∙ ap (λ (l : List DeclaredTask). number_among 0 c.args.name (map task_of l)) c.deref.ensures.value) in
    is_twice (said_tree c.args.self.now) c.args.at c.args.name c.args.priority c.args.input.items (task_function (unit_tree c.args.unit.now) c.args.name) (number_among 0 c.args.name (map task_of c.args.self.now.tasks.items)) c.in-Some.function.0
    (ap (task_function (unit_tree c.args.unit.now)) (sym c.bytes.ensures) ∙ sym some) (ap is_some known ∙ sym c.is_some.ensures ∙ c.if-is_some.true)

pub returns : goal.returns
returns c =
    let some = rw c.in-Some.is at c.in_ok-task_function.ensures in
    let known = sym (c.in_ok-number_among.ensures ∙ ap (λ (l : List DeclaredTask). number_among 0 c.args.name (map task_of l)) c.deref.ensures.value) in
    is_new (said_tree c.args.self.now) c.args.at c.args.name c.args.priority c.args.input.items (task_function (unit_tree c.args.unit.now) c.args.name) (number_among 0 c.args.name (map task_of c.args.self.now.tasks.items)) c.in-Some.function.0
    (ap (task_function (unit_tree c.args.unit.now)) (sym c.bytes.ensures) ∙ sym some) (ap is_some known ∙ sym c.is_some.ensures ∙ c.if-is_some.false)
    ∙ ap (λ (l : List Task). listed (record (said_tree c.args.self.now) { tasks = l })) (sym (ap (map task_of) c.in_ok-push.ensures.items ∙ map_push task_of c.args.self.now.tasks.items _))
