use Rattle.std.proofs.Common.{arith, ◌/◌, length, ◌∙◌, sym}
use Rattle.qs_image.proofs.Parts.{length-words, get-words}
use Rattle.qs_image.proofs.view.ImageView.code.Goals as goal

pub word-requires : goal.word-requires
word-requires c =
    let count = length-words (length c.self.inside.sections.code.now / 4) c.self.inside.sections.code.now in
    let below = rw (← c.self.view_is) at c.requires in
    omega arith

pub returns : goal.returns
returns c =
    let count = length-words (length c.self.inside.sections.code.now / 4) c.self.inside.sections.code.now in
    let below = rw (← c.self.view_is) at c.requires in
    rw (← c.self.view_is) (c.word.ensures ∙ sym (get-words (length c.self.inside.sections.code.now / 4) c.args.i c.self.inside.sections.code.now (omega arith)))
