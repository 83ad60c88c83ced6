use Rattle.std.proofs.Common.{◌≡◌, drop}
use Rattle.qs_triples.specs.Replacements.{first_missing}
use Rattle.qs_triples.proofs.replacements.first_missing.Given as goal

-- nothing is missing so far
abbrev pub invariant-loop-x : goal.invariant-loop-x
invariant-loop-x l = first_missing l.r l.but_result l.xs ≡ first_missing l.r l.but_result (drop l.x-index l.xs)
