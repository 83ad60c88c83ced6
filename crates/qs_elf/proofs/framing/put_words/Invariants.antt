use Rattle.std.proofs.Common.{◌≡◌, ◌++◌, drop}
use Rattle.qs_image.specs.Image.{words_bytes}
use Rattle.qs_elf.proofs.framing.put_words.Given as goal

-- what is written and the words ahead are the whole
abbrev pub invariant-loop-word : goal.invariant-loop-word
invariant-loop-word l = l.bytes.items ++ words_bytes (drop l.word-index l.words) ≡ l.fn.bytes.items ++ words_bytes l.words
