use Rattle.std.proofs.Common.{[], Ok, Err, get_or, sym, ◌∙◌, length}
use Rattle.std.proofs.lemmas.List.{get_or_default}
use Rattle.std.proofs.lemmas.Result.{err_from_is_err_and}
use Rattle.qs_tasks_run.specs.declared.tasks.Arrival.{Arrival as DeclaredArrival}
use Rattle.qs_tasks_machine.proofs.HartLaws.{coming_runs, some_left, turn_arrives, turn_fewer, turn_returns}
use Rattle.qs_tasks_machine.proofs.hart.Hart.act.Goals as goal

pub returns-in_err-return_from-clause-turns : goal.returns-in_err-return_from-clause-turns
returns-in_err-return_from-clause-turns c =
    let p = err_from_is_err_and c.from_residual.result c.from_residual.ensures.1 in
    rw (p.1, p.2)
    (λ y puts r. turn_returns y c.args.self.now r puts c.return_from.new.self (Err c.in_err-return_from.field-0.0) (sym c.if-has_returned.true ∙ c.has_returned.ensures) (c.in_err-return_from.ensures.acts y puts r))

pub returns-then-has_returned-clause-turns : goal.returns-then-has_returned-clause-turns
returns-then-has_returned-clause-turns c = λ y puts r.
    turn_returns y c.args.self.now r puts c.return_from.new.self (Ok tt) (sym c.if-has_returned.true ∙ c.has_returned.ensures) (c.in_ok-return_from.ensures.acts y puts r)

pub returns-then-has_returned-clause-fewer : goal.returns-then-has_returned-clause-fewer
returns-then-has_returned-clause-fewer c =
    let y = c.requires.tasks.system in
    let r = c.requires.tasks.is in
    turn_fewer y c.args.self.now r [] c.return_from.new.self
    (turn_returns y c.args.self.now r [] c.return_from.new.self (Ok tt) (sym c.if-has_returned.true ∙ c.has_returned.ensures) (c.in_ok-return_from.ensures.acts y [] r))

pub arrive-requires-clause-tasks : goal.arrive-requires-clause-tasks
arrive-requires-clause-tasks c =
    let h = c.args.self.now in
    let y = c.requires.tasks.system in
    record { system = y; is = coming_runs y h c.requires.tasks.is (record h { coming = c.behind_first-self.result }) c.behind_first-self.ensures }

pub returns-in_err-arrive-clause-turns : goal.returns-in_err-arrive-clause-turns
returns-in_err-arrive-clause-turns c =
    let p = err_from_is_err_and c.from_residual-in_err-arrive.result c.from_residual-in_err-arrive.ensures.1 in
    let h = c.args.self.now in
    let none : DeclaredArrival = record { at = 0; task = 0 } in
    let a = get_or h.coming.now 0 none in
    let lt = some_left (length h.coming.now) (sym c.is_empty.ensures ∙ c.if-is_empty.false) in
    let k = record h { coming = c.behind_first-self.result } in
    rw (p.1, p.2)
    (λ y puts r.
    turn_arrives y h r puts a k c.arrive.new.self (Err c.in_err-arrive.field-0.0) (sym c.if-has_returned.false ∙ c.has_returned.ensures) lt (get_or_default h.coming.now 0 none a lt) (sym c.is_due.ensures ∙ c.if-not-is_due.false) c.behind_first-self.ensures
    (c.in_err-arrive.ensures.acts y puts (coming_runs y h r k c.behind_first-self.ensures)))

pub returns-clause-turns : goal.returns-clause-turns
returns-clause-turns c = λ y puts r.
    let h = c.args.self.now in
    let none : DeclaredArrival = record { at = 0; task = 0 } in
    let a = get_or h.coming.now 0 none in
    let lt = some_left (length h.coming.now) (sym c.is_empty.ensures ∙ c.if-is_empty.false) in
    let k = record h { coming = c.behind_first-self.result } in
    turn_arrives y h r puts a k c.arrive.new.self (Ok tt) (sym c.if-has_returned.false ∙ c.has_returned.ensures) lt (get_or_default h.coming.now 0 none a lt) (sym c.is_due.ensures ∙ c.if-not-is_due.false) c.behind_first-self.ensures
    (c.in_ok-arrive.ensures.acts y puts (coming_runs y h r k c.behind_first-self.ensures))

pub returns-clause-fewer : goal.returns-clause-fewer
returns-clause-fewer c =
    let h = c.args.self.now in
    let y = c.requires.tasks.system in
    let r = c.requires.tasks.is in
    let none : DeclaredArrival = record { at = 0; task = 0 } in
    let a = get_or h.coming.now 0 none in
    let lt = some_left (length h.coming.now) (sym c.is_empty.ensures ∙ c.if-is_empty.false) in
    let k = record h { coming = c.behind_first-self.result } in
    turn_fewer y h r [] c.arrive.new.self
    (turn_arrives y h r [] a k c.arrive.new.self (Ok tt) (sym c.if-has_returned.false ∙ c.has_returned.ensures) lt (get_or_default h.coming.now 0 none a lt) (sym c.is_due.ensures ∙ c.if-not-is_due.false) c.behind_first-self.ensures
    (c.in_ok-arrive.ensures.acts y [] (coming_runs y h r k c.behind_first-self.ensures)))
