use Rattle.std.proofs.Common.{Bool, [], Ok, sym, subst}
use Rattle.std.proofs.lemmas.Result.{err_from_is_err_and}
use Rattle.qs_tasks_run.specs.TasksRun.{settle}
use Rattle.qs_tasks_machine.specs.declared.hart.Hart.{Hart}
use Rattle.qs_tasks_machine.specs.Harts.{Follows, IsTurn, scene_of}
use Rattle.qs_tasks_machine.proofs.HartLaws.{settles_more, settles_none, settles_trapped}
use Rattle.qs_tasks_machine.proofs.hart.Hart.settle.Goals as goal

pub returns-in_err-act-clause-acts : goal.returns-in_err-act-clause-acts
returns-in_err-act-clause-acts c =
    let p = err_from_is_err_and c.from_residual.result c.from_residual.ensures.1 in
    let s = c.settle.invariant.settles in
    rw (p.1, p.2)
    (λ y puts r. settles_trapped c.args.self.now c.settle.self c.act.new.self y puts c.in_err-act.field-0.0 s r (let q = s y puts r in c.in_err-act.ensures.turns y puts q.0))

pub settle-preserved : goal.settle-preserved
settle-preserved c =
    let s = c.settle.invariant.settles in
    let y = c.settle.invariant.tasks.system in
    let now = subst (λ (b : Bool). IsTurn y [] c.settle.self c.act.new.self (Ok b)) c.if-branch.true (c.in_ok-act.ensures.turns y [] c.settle.invariant.tasks.is) in
    record {
      tasks = record { system = y; is = now.2.tasks };
      room = c.act.ensures.room;
      settles = settles_more c.args.self.now c.settle.self c.act.new.self s
          (λ x puts r. subst (λ (b : Bool). IsTurn x puts c.settle.self c.act.new.self (Ok b)) c.if-branch.true (c.in_ok-act.ensures.turns x puts r));
    }

pub returns-clause-acts : goal.returns-clause-acts
returns-clause-acts c = λ y puts r.
    let s = c.settle.invariant.settles in
    let p = s y puts r in
    let q = subst (λ (b : Bool). IsTurn y puts c.settle.self c.act.new.self (Ok b)) c.if-branch.false (c.in_ok-act.ensures.turns y puts p.0) in
    subst (λ (k : Hart). Follows y puts (settle y (scene_of y c.args.self.now puts)) k (Ok tt)) (sym q.1) (settles_none c.args.self.now c.settle.self y puts s r q.0)
