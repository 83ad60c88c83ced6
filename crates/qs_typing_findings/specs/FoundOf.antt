-- The pure findings that those in code stand for.
use Rattle.std.specs.Prelude.{map, option_map}
use Rattle.qs_types.specs.Rules as rules
use Rattle.qs_types.specs.TypeOf.{type_tree}
use Rattle.qs_typing_findings.specs.declared.found.Fault.{Fault}
use Rattle.qs_typing_findings.specs.declared.found.Found.{Found}
use Rattle.qs_typing_findings.specs.Findings.{FoundTree}

abbrev pub fault_tree : Fault → rules.Fault
fault_tree f = record { node = f.node; rule = f.rule }

abbrev pub found_tree : Found → FoundTree
found_tree f = record {
  types = map (option_map type_tree) f.types.items;
  referents = f.referents.items;
  addressed = f.addressed.items;
  least = option_map fault_tree f.least;
}
