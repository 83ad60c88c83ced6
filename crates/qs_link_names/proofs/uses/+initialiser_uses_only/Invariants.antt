use Rattle.std.proofs.Common.{◌≡◌, drop}
use Rattle.std.specs.List.{list_all}
use Rattle.qs_syntax_vocabulary.specs.Marks.{is_in}
use Rattle.qs_syntax.specs.TreeOf.{initialisers_tree}
use Rattle.qs_link_names.specs.Uses.{initialisers_uses}
use Rattle.qs_link_names.proofs.uses.+initialiser_uses_only.Given as goal

abbrev pub invariant-items_use_only-loop-item : goal.invariant-items_use_only-loop-item
invariant-items_use_only-loop-item l = record {
  rest : list_all (is_in l.names.keys) (initialisers_uses (initialisers_tree l.items)) ≡ list_all (is_in l.names.keys) (initialisers_uses (initialisers_tree (drop l.item-index l.items)));
}
