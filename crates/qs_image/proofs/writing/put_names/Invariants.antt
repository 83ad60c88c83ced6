use Rattle.std.proofs.Common.{◌≡◌, ◌++◌, drop}
use Rattle.qs_image.specs.Image.{joined_names}
use Rattle.qs_image.proofs.writing.put_names.Given as goal

-- what is written and the names ahead are the whole
abbrev pub invariant-loop-f : goal.invariant-loop-f
invariant-loop-f l = l.bytes.items ++ joined_names (drop l.f-index l.functions) ≡ l.fn.bytes.items ++ joined_names l.functions
