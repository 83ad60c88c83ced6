use Rattle.qs_image.proofs.WritingLaws.{names_fit}
use Rattle.qs_image.proofs.writing.write.Goals as goal

pub put_records-requires : goal.put_records-requires
put_records-requires c = rw c.deref.ensures.value (names_fit c.image.inside.functions.items c.image.invariant.names_length.1)
