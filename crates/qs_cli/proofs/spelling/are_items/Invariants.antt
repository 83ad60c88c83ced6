use Rattle.std.proofs.Common.{◌≡◌, None, map, string_bytes, is_some, drop}
use Rattle.qs_cli.specs.Words.{items_from}
use Rattle.qs_cli.specs.Reading.{waiting_of}
use Rattle.qs_cli.proofs.spelling.are_items.Given as goal

abbrev pub invariant-loop-word : goal.invariant-loop-word
invariant-loop-word l = is_some (items_from (map string_bytes (drop l.word-index l.words)) (waiting_of l.waiting)) ≡ is_some (items_from (map string_bytes l.words) None)
