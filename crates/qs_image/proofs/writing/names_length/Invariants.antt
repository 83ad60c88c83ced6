use Rattle.std.proofs.Common.{◌≡◌, ◌+◌, length, drop}
use Rattle.qs_image.specs.Image.{joined_names}
use Rattle.qs_image.proofs.writing.names_length.Given as goal

-- the length so far and the lengths ahead are the whole
abbrev pub invariant-loop-f : goal.invariant-loop-f
invariant-loop-f l = l.length + length (joined_names (drop l.f-index l.functions)) ≡ length (joined_names l.functions)
