use Rattle.std.proofs.Common.{◌+◌, ◌-◌, length}
use Rattle.qs_machine.proofs.Starts.{registers}
use Rattle.qs_machine.proofs.registers.start_words.Goals as goal

pub returns : goal.returns
returns c =
    let two = c.number.ensures.value in
    let ten = c.number-first.ensures.value in
    rw (two, ten) (registers c.args.args.now c.copy_from_slice.new.self (10 + length c.args.args.now - 10) c.copy_from_slice.ensures.after c.requires)
