use Rattle.std.proofs.Common.{◌≡◌, [], ℕ, length, Ok, ap, refl, rules}
use Rattle.qs_machine.specs.Arguments.{words_of}
use Rattle.qs_machine.specs.Run.{start}
use Rattle.qs_machine.specs.declared.answers.RunEnd.TheVariants as end
use Rattle.qs_machine.proofs.Runs.{shows_machine}
use Rattle.qs_cli.specs.Numbers.{default_steps}
use Rattle.qs_driver_session.specs.KeptOutput.{kept_view}
use Rattle.qs_driver.specs.commands.Sample.{outcome}
use Rattle.qs_driver.specs.declared.commands.sample.SampleEnd.{SampleEnd}
use Rattle.qs_driver.proofs.rooms.Sample.{comes_to}
use Rattle.qs_driver.proofs.commands.sample.run_counted.Goals as goal

pub returns-in-Exited : goal.returns-in-Exited
returns-in-Exited c = λ text h.
    let stack = c.args.started.stack in
    let ended = end.Exited c.in-Exited.status in
    let of : ℕ → SampleEnd = λ n. record { functions = c.args.started.functions; stack = stack; output = n; status = c.in-Exited.status } in
    let shown = shows_machine c.run.new.self h.image stack (words_of []) [] default_steps (kept_view c.new-output.result) (kept_view c.run.new.out) ended (c.in-Exited.ensures.runs h.image stack (start h.image (words_of []) []) h.stands) in
    comes_to c.args.started (outcome h.image stack) c.new-output.result c.run.new.out ended _ c.new-output.ensures shown
    (ap (λ (n : ℕ). Ok (of n)) (let many : c.len.result ≡ length c.run.new.out.bytes.items = search rules in many))

pub returns-in-Trapped : goal.returns-in-Trapped
returns-in-Trapped c = λ text h.
    let stack = c.args.started.stack in
    let ended = end.Trapped c.in-Trapped.cause c.in-Trapped.pc in
    let shown = shows_machine c.run.new.self h.image stack (words_of []) [] default_steps (kept_view c.new-output.result) (kept_view c.run.new.out) ended (c.in-Trapped.ensures.runs h.image stack (start h.image (words_of []) []) h.stands) in
    comes_to c.args.started (outcome h.image stack) c.new-output.result c.run.new.out ended _ c.new-output.ensures shown refl

pub returns-in-StepLimit : goal.returns-in-StepLimit
returns-in-StepLimit c = λ text h.
    let stack = c.args.started.stack in
    let shown = shows_machine c.run.new.self h.image stack (words_of []) [] default_steps (kept_view c.new-output.result) (kept_view c.run.new.out) end.StepLimit (c.in-StepLimit.ensures.runs h.image stack (start h.image (words_of []) []) h.stands) in
    comes_to c.args.started (outcome h.image stack) c.new-output.result c.run.new.out end.StepLimit _ c.new-output.ensures shown refl
