use Rattle.std.proofs.Common.{arith, ◌/◌, length, sym}
use Rattle.qs_image.proofs.Parts.{length-words}
use Rattle.qs_image.proofs.sections.Sections.code_count.Goals as goal

pub overflow_cast-result : goal.overflow_cast-result
overflow_cast-result c =
    let count = length-words (length c.args.self.now.code.now / 4) c.args.self.now.code.now in
    omega arith

pub returns : goal.returns
returns c = sym (length-words (length c.args.self.now.code.now / 4) c.args.self.now.code.now)
