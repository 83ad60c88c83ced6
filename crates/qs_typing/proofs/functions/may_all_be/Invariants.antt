use Rattle.std.proofs.Common.{◌≡◌, ◌-◌, ◌≤◌, drop, length, map, option_map}
use Rattle.qs_types.specs.TypeOf.{type_tree}
use Rattle.qs_types.specs.UnitRules.{may_all_be}
use Rattle.qs_typing.proofs.functions.may_all_be.Given as goal

abbrev pub invariant-loop-i : goal.invariant-loop-i
invariant-loop-i l = record {
  left : l.i ≤ length l.ts;
  others : l.i ≤ length l.us;
  may :
      may_all_be (map type_tree l.ts) (map (option_map type_tree) l.us)
      ≡ may_all_be (map type_tree (drop l.i l.ts)) (map (option_map type_tree) (drop l.i l.us));
}

abbrev pub decreases-loop-i : goal.decreases-loop-i
decreases-loop-i l = length l.initial.ts - l.i
