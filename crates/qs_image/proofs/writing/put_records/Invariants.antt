use Rattle.std.proofs.Common.{◌≡◌, ◌++◌, drop}
use Rattle.qs_image.specs.Image.{words_bytes, record_words}
use Rattle.qs_image.proofs.writing.put_records.Given as goal

-- what is written and the records ahead are the whole
abbrev pub invariant-loop-f : goal.invariant-loop-f
invariant-loop-f l = l.bytes.items ++ words_bytes (record_words (drop l.f-index l.functions)) ≡ l.fn.bytes.items ++ words_bytes (record_words l.functions)
