use Rattle.std.proofs.Common.{arith}
use Rattle.qs_image.proofs.Words.{word_number-most}
use Rattle.qs_image.proofs.word.header_word.Goals as goal

pub word-requires : goal.word-requires
word-requires c =
    let most = word_number-most c.args.name in
    omega arith
