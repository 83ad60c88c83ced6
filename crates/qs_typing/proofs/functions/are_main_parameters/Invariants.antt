use Rattle.std.proofs.Common.{◌≡◌, drop, map, option_map}
use Rattle.std.specs.List.{list_all}
use Rattle.qs_types.specs.TypeOf.{type_tree}
use Rattle.qs_types.specs.UnitRules.{is_main_parameter}
use Rattle.qs_typing.proofs.functions.are_main_parameters.Given as goal

abbrev pub invariant-loop-t : goal.invariant-loop-t
invariant-loop-t l =
    list_all is_main_parameter (map (option_map type_tree) l.types)
    ≡ list_all is_main_parameter (map (option_map type_tree) (drop l.t-index l.types))
