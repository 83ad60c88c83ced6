use Rattle.std.proofs.Common.{◌≡◌, ◌<◌, length, get_or, rules}
use Rattle.qs_parser.specs.Places.{NotesToken}
use Rattle.qs_parser.proofs.PlaceLaws.{one_more_noted}
use Rattle.qs_parser.proofs.marks.places_of.Goals as goal

pub loop-place-preserved : goal.loop-place-preserved
loop-place-preserved c =
    let there : c.loop-place.place < length c.args.tokens.now = search rules in
    let is : get_or c.args.tokens.now c.loop-place.place c.index-tokens-place.result ≡ c.index-tokens-place.result = search rules in
    let more : NotesToken c.index-tokens-place.result c.loop-place.place c.loop-place.places c.note_token.new.places = search rules in
    record { known = one_more_noted c.loop-place.place c.args.tokens.now c.index-tokens-place.result c.loop-place.places c.note_token.new.places there is c.loop-place.invariant.known more }
