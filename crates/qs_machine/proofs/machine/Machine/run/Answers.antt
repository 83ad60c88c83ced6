use Rattle.std.proofs.Common.{◌≡◌, ◌<◌, [], ◌∷◌, arith, rules, sym, ◌∙◌}
use Rattle.qs_ports.proofs.Sinks.{appends_nothing}
use Rattle.qs_machine.proofs.Runs.{exits, traps, stays, goes_further, put_failed, put_whole}
use Rattle.qs_machine.proofs.machine.Machine.run.Goals as goal
use Rattle.qs_machine.proofs.machine.Machine.run.Goals.{in-Going, in-Put+else-is_err}

pub returns-then-is_err-clause-runs : goal.returns-then-is_err-clause-runs
returns-then-is_err-clause-runs g c = λ image size s stands.
    let h = c.loop.invariant.gone image size s stands in
    let step = c.in-Put.ensures.steps image size h.next h.reached.stands in
    let lt : c.loop.counter < c.args.steps = omega arith in
    put_failed c.loop.self c.advance.new.self image size c.args.input.now s c.loop.counter c.args.steps (g.K.Sink.view c.args.out.now) (g.K.Sink.view c.loop.out) (g.K.Sink.view c.put_all.new.sink) c.in-Put.byte c.put_all.result h lt step
    (sym c.is_err.ensures.value ∙ c.if-is_err.true) c.put_all.ensures

pub returns-in-Exited-clause-runs : goal.returns-in-Exited-clause-runs
returns-in-Exited-clause-runs g c = λ image size s stands.
    let h = c.loop.invariant.gone image size s stands in
    let step = c.in-Exited.ensures.steps image size h.next h.reached.stands in
    let lt : c.loop.counter < c.args.steps = omega arith in
    exits c.loop.self c.advance.new.self image size c.args.input.now s c.loop.counter c.args.steps (g.K.Sink.view c.args.out.now) (g.K.Sink.view c.loop.out) c.in-Exited.status h lt step.0 step.1

pub returns-in-Trapped-clause-runs : goal.returns-in-Trapped-clause-runs
returns-in-Trapped-clause-runs g c = λ image size s stands.
    let h = c.loop.invariant.gone image size s stands in
    let step = c.in-Trapped.ensures.steps image size h.next h.reached.stands in
    let lt : c.loop.counter < c.args.steps = omega arith in
    traps c.loop.self c.advance.new.self image size c.args.input.now s c.loop.counter c.args.steps (g.K.Sink.view c.args.out.now) (g.K.Sink.view c.loop.out) c.in-Trapped.cause c.in-Trapped.pc h lt step.0 step.1 step.2

pub loop-preserved : goal.loop-preserved
loop-preserved g c = record {
  within = search rules;
  more = search rules;
  gone = λ image size s stands.
      let h = c.loop.invariant.gone image size s stands in
      elim c.match-advance.branch [
        | in-Going w ↦
            rw w.out-is
            (goes_further c.loop.self c.advance.new.self image size c.args.input.now s c.loop.counter (g.K.Sink.view c.args.out.now) (g.K.Sink.view c.loop.out) (g.K.Sink.view c.loop.out) [] h
            (w.in-Going.ensures.steps image size h.next h.reached.stands) (appends_nothing (g.K.Sink.view c.loop.out)))
        | in-Put+else-is_err w ↦
            rw w.out-is
            (goes_further c.loop.self c.advance.new.self image size c.args.input.now s c.loop.counter (g.K.Sink.view c.args.out.now) (g.K.Sink.view c.loop.out) (g.K.Sink.view w.put_all.new.sink) (w.in-Put.byte ∷ []) h
            (w.in-Put.ensures.steps image size h.next h.reached.stands)
            (put_whole (g.K.Sink.view c.loop.out) (g.K.Sink.view w.put_all.new.sink) (w.in-Put.byte ∷ []) w.put_all.result (sym w.is_err.ensures.value ∙ w.if-is_err.false) w.put_all.ensures))
      ];
}

pub returns-clause-runs : goal.returns-clause-runs
returns-clause-runs g c = λ image size s stands.
    let h = c.loop.invariant.gone image size s stands in
    let all : c.loop.counter ≡ c.args.steps = omega arith in
    rw (← all) (stays c.loop.self image size c.args.input.now s c.loop.counter (g.K.Sink.view c.args.out.now) (g.K.Sink.view c.loop.out) h)
