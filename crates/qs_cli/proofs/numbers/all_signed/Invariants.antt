use Rattle.std.proofs.Common.{◌≡◌, ◌++◌, map, option_map, drop}
use Rattle.qs_cli.specs.Numbers.{all_signed_of}
use Rattle.qs_cli.proofs.numbers.all_signed.Given as goal

-- the numbers so far, and those of the parts that are left
abbrev pub invariant-loop-part : goal.invariant-loop-part
invariant-loop-part l = option_map (λ more. l.numbers.items ++ more) (all_signed_of (map (λ t. t.now) (drop l.part-index l.parts))) ≡ all_signed_of (map (λ t. t.now) l.parts)
