use Rattle.std.proofs.Common.{◌≤◌, map}
use Rattle.indexmap.specs.IndexMap.{values}
use Rattle.qs_types.specs.Layout.{layout_of}
use Rattle.qs_types.specs.TypeOf.{type_tree}
use Rattle.qs_types.specs.EnvOf.{env_tree}
use Rattle.qs_types.proofs.LayoutSteps.{From}
use Rattle.qs_types.proofs.layout.members_layout.Given as goal

-- what is left makes of what is there so far the whole layout
abbrev pub invariant-loop-i : goal.invariant-loop-i
invariant-loop-i l = record {
  laid : From (layout_of (env_tree l.types)) (map type_tree (values l.members)) l.i l.offsets.items l.end l.alignment;
  within : l.end ≤ 16777216;
  positive : 1 ≤ l.alignment;
  strictest : l.alignment ≤ 4;
}
