use Rattle.std.proofs.Common.{◌+◌, ◌≤◌, length, arith}
use Rattle.qs_machine.proofs.Puts.{half_is_put, word_is_put}
use Rattle.qs_machine.proofs.regions.put.Goals as goal

pub returns-in-Sh : goal.returns-in-Sh
returns-in-Sh c =
    let fits : c.args.at + 2 ≤ length c.args.bytes.now = simp c.in-Sh.is at c.requires in
    rw c.in-Sh.is (half_is_put c.args.bytes.now c.write_u16.new.buf c.args.at _ c.args.value c.write_u16.ensures fits (omega arith))

pub returns-in-Sw : goal.returns-in-Sw
returns-in-Sw c =
    let fits : c.args.at + 4 ≤ length c.args.bytes.now = simp c.in-Sw.is at c.requires in
    rw c.in-Sw.is (word_is_put c.args.bytes.now c.write_u32.new.buf c.args.at _ c.args.value c.write_u32.ensures fits (omega arith))
