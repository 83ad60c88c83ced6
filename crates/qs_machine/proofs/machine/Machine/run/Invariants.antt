use Rattle.std.proofs.Common.{ℕ, ◌≤◌, length}
use Rattle.qs_image.specs.Image.{Image}
use Rattle.qs_machine.specs.State.{State}
use Rattle.qs_machine.specs.Standing.{taken_of, Stands}
use Rattle.qs_machine.proofs.Runs.{HasGone}
use Rattle.qs_machine.proofs.machine.Machine.run.Given as goal

abbrev pub invariant-loop : goal.invariant-loop
invariant-loop g l = record {
  within : taken_of l.self ≤ length l.input;
  more : taken_of l.fn.self ≤ taken_of l.self;
  gone : (image : Image) (size : ℕ) (s : State) → Stands l.fn.self image size l.input s → HasGone l.self image size l.input s l.counter (g.K.Sink.view l.fn.out) (g.K.Sink.view l.out);
}
