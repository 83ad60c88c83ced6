use Rattle.std.proofs.Common.{[], map, option_map, take}
use Rattle.std.specs.Prelude.{nat_eq}
use Rattle.indexmap.specs.IndexMap.{get}
use Rattle.qs_base.specs.Bytes.{same_bytes}
use Rattle.qs_elaborate.specs.NamesOf.{variable_name_of}
use Rattle.qs_elaborate.specs.DeclaredOf.{declared_of}
use Rattle.qs_elaborate.specs.Naming.{newest_first, Known}
use Rattle.qs_elaborate.proofs.naming.names_by_node.Given as goal

-- those so far are known
abbrev pub invariant-loop-d : goal.invariant-loop-d
invariant-loop-d l =
    Known (λ x. option_map variable_name_of (get nat_eq l.names x)) (get same_bytes l.counts) (newest_first [] (take l.d-index (map declared_of l.declared)))
