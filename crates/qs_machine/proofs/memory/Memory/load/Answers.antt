use Rattle.std.proofs.Common.{◌≡◌, Some}
use Rattle.qs_machine.specs.Step.{load_width}
use Rattle.qs_machine.specs.Hart.{bytes_read}
use Rattle.qs_machine.proofs.Memories.{word-read, loads_in_page}
use Rattle.qs_machine.proofs.memory.Memory.load.Goals as goal

pub readable-requires-clause-in_page : goal.readable-requires-clause-in_page
readable-requires-clause-in_page c = rw c.load_width.ensures (loads_in_page c.args.kind c.args.address c.requires)

pub returns : goal.returns
returns c =
    let read : Some c.in_ok-bytes.bytes.now ≡ bytes_read c.args.self.now c.args.address (load_width c.args.kind) = rw (← c.load_width.ensures) c.in_ok-bytes.ensures in
    word-read c.args.self.now c.args.kind c.args.address c.word_of.result c.in_ok-bytes.bytes.now c.word_of.ensures read
