use Rattle.std.proofs.Common.{◌≡◌, ◌∙◌, ℕ, ◌^◌, ◌%◌, true, refl, ap, arith}
use Rattle.std.proofs.lemmas.Bool.{or_right}
use Rattle.qs_machine.specs.Hart.{memory_of}
use Rattle.qs_machine.specs.Standing.{state_of}
use Rattle.qs_machine.specs.State.{with_value}
use Rattle.qs_machine.proofs.machine.Machine.set_stack_byte.Goals as goal

pub returns : goal.returns
returns c =
    let m = c.args.self.now in
    let done : c.store.result ≡ true = c.store.ensures.done ∙ or_right _ _ c.requires in
    let low : c.from.result % 2 ^ 8 ≡ c.args.value = rw c.from.ensures (omega (arith, c.ranges.value.fits)) in
    let after : memory_of c.store.new.self ≡ with_value (memory_of m.memory) c.args.at c.args.value =
    c.store.ensures.stored done ∙ ap (λ (v : ℕ). with_value (memory_of m.memory) c.args.at v) low in
    record {
      state = λ input output. ap (λ (memory : ℕ → ℕ). record (state_of m input output) { memory = memory }) after;
      loaded = λ image size l. record {
        instructions = l.instructions;
        code = c.store.ensures.code ∙ l.code;
        bytes = c.store.ensures.data_end ∙ l.bytes;
        stack = c.store.ensures.stack_start ∙ l.stack;
      };
      taken = refl;
      ended = refl;
    }
