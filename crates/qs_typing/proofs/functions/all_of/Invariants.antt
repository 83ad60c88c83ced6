use Rattle.std.proofs.Common.{◌≡◌, Some, drop, map, option_map}
use Rattle.qs_types.specs.TypeOf.{type_tree}
use Rattle.qs_types.specs.UnitRules.{all_of}
use Rattle.qs_typing_findings.specs.PartsOf.{joined}
use Rattle.qs_typing.proofs.functions.all_of.Given as goal

abbrev pub invariant-loop-t : goal.invariant-loop-t
invariant-loop-t l =
    all_of (map (option_map type_tree) l.types)
    ≡ joined (Some (map type_tree l.all.items)) (all_of (map (option_map type_tree) (drop l.t-index l.types)))
