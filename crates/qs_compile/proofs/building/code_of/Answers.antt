use Rattle.std.proofs.Common.{arith}
use Rattle.qs_asm.proofs.CountingLaws.{assembly_length}
use Rattle.qs_compile.proofs.CodeLaws.{too_long}
use Rattle.qs_compile.proofs.building.code_of.Goals as goal

pub returns-in-Err-BadLabel-clause-fault : goal.returns-in-Err-BadLabel-clause-fault
returns-in-Err-BadLabel-clause-fault c = too_long c.args.items.now c.requires (c.in-Err-BadLabel.ensures.fault c.in-Err-BadLabel.field-0-is)

pub returns-else-len-lt-REACHED_WORDS-clause-fault : goal.returns-else-len-lt-REACHED_WORDS-clause-fault
returns-else-len-lt-REACHED_WORDS-clause-fault c =
    let long = assembly_length c.args.items.now c.in-Ok.words.items c.in-Ok.ensures.ok in
    let many = c.if-len-lt-REACHED_WORDS.false in
    omega (arith, long, many)
