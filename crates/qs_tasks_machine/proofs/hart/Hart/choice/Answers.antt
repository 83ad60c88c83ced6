use Rattle.std.proofs.Common.{◌≡◌, ◌+◌, ◌-◌, sym, subst, arith}
use Rattle.std.proofs.lemmas.List.{get_or_read}
use Rattle.qs_tasks_machine.proofs.HartLaws.{IsBest, is_better, is_worse, new_best, same_best}
use Rattle.qs_tasks_machine.proofs.hart.Hart.choice.Goals as goal

pub choose-preserved-then-priority : goal.choose-preserved-then-priority
choose-preserved-then-priority c =
    let h = c.args.self.now in
    let w = c.args.self.now.waiting.items in
    let i = c.choose.i - 1 in
    let one : c.choose.i - 1 + 1 ≡ c.choose.i = omega arith in
    let first = get_or_read w (c.choose.i - 1) c.index.result.now (omega arith) c.index.ensures 0 in
    let second = get_or_read w c.choose.best c.index-in-choose.result.now (omega arith) c.index-in-choose.ensures 0 in
    record {
      within = omega arith;
      behind = omega arith;
      best = λ y r.
          new_best y w (c.choose.i - 1) c.choose.best (omega arith) (omega arith)
          (subst (λ n. IsBest y w n c.choose.best) (sym one) (c.choose.invariant.best y r))
          (is_better y h r (c.choose.i - 1) c.choose.best c.index.result.now c.index-in-choose.result.now c.priority.result c.priority-in-choose.result first second c.priority.ensures c.priority-in-choose.ensures c.if-priority.true);
    }

pub choose-preserved : goal.choose-preserved
choose-preserved c =
    let h = c.args.self.now in
    let w = c.args.self.now.waiting.items in
    let one : c.choose.i - 1 + 1 ≡ c.choose.i = omega arith in
    let first = get_or_read w (c.choose.i - 1) c.index.result.now (omega arith) c.index.ensures 0 in
    let second = get_or_read w c.choose.best c.index-in-choose.result.now (omega arith) c.index-in-choose.ensures 0 in
    record {
      within = omega arith;
      behind = omega arith;
      best = λ y r.
          same_best y w (c.choose.i - 1) c.choose.best (omega arith) (omega arith)
          (subst (λ n. IsBest y w n c.choose.best) (sym one) (c.choose.invariant.best y r))
          (is_worse y h r (c.choose.i - 1) c.choose.best c.index.result.now c.index-in-choose.result.now c.priority.result c.priority-in-choose.result first second c.priority.ensures c.priority-in-choose.ensures c.if-priority.false);
    }
