use Rattle.std.proofs.Common.{◌≡◌, ◌++◌, flat_map, drop}
use Rattle.qs_print.specs.Spelling.{octal}
use Rattle.qs_print.proofs.literals.put_octals.Given as goal

-- what is written and the bytes ahead are the whole
abbrev pub invariant-loop-byte : goal.invariant-loop-byte
invariant-loop-byte l = l.out.items ++ flat_map octal (drop l.byte-index l.bytes) ≡ l.fn.out.items ++ flat_map octal l.bytes
