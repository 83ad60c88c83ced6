use Rattle.std.proofs.Common.{◌≡◌, ◌++◌, drop, map}
use Rattle.qs_types.specs.TypeOf.{type_tree}
use Rattle.qs_typing.proofs.functions.copied_types.Given as goal

abbrev pub invariant-loop-t : goal.invariant-loop-t
invariant-loop-t l = map type_tree l.ts ≡ map type_tree l.us.items ++ map type_tree (drop l.t-index l.ts)
