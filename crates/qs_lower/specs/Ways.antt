-- What the ways and exits of the program stand for.
use Rattle.std.specs.Prelude.{Option, Some, None}
use Rattle.qs_lower_expressions.specs.Exits as exits
use Rattle.qs_lower.specs.Statements as spec
use Rattle.qs_lower_expressions.specs.Plans.{exit_tree}
use Rattle.qs_lower.specs.declared.ways.Way.{Way}
use Rattle.qs_lower.specs.declared.ways.Way.TheVariants.{Next, Break, Continue}
use Rattle.qs_lower.specs.declared.ways.Falls.{Falls}
use Rattle.qs_lower.specs.declared.ways.Exits.{Exits}

abbrev pub way_tree : Way → spec.Way
way_tree Next = spec.to_next
way_tree Break = spec.to_break
way_tree Continue = spec.to_continue

abbrev pub option_way : Option Way → Option spec.Way
option_way None = None
option_way (Some w) = Some (way_tree w)

abbrev pub falls_tree : Falls → spec.Falls
falls_tree y = record { next = y.next; on_break = y.on_break; on_continue = y.on_continue }

abbrev pub exits_tree : Exits → spec.Exits
exits_tree x = record { next = exit_tree x.next; on_break = exit_tree x.on_break; on_continue = exit_tree x.on_continue }

-- of instructions behind which only what is next can come
abbrev pub only : exits.Exit → spec.Exits
only next = record { next = next; on_break = next; on_continue = next }
