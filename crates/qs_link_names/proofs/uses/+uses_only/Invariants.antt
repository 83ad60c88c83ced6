use Rattle.std.proofs.Common.{◌≡◌, drop}
use Rattle.std.specs.List.{list_all}
use Rattle.qs_syntax_vocabulary.specs.Marks.{is_in}
use Rattle.qs_syntax.specs.TreeOf.{exprs_tree}
use Rattle.qs_link_names.specs.Uses.{all_uses}
use Rattle.qs_link_names.proofs.uses.+uses_only.Given as goal

abbrev pub invariant-all_use_only-loop-e : goal.invariant-all_use_only-loop-e
invariant-all_use_only-loop-e l = record {
  rest : list_all (is_in l.names.keys) (all_uses (exprs_tree l.es)) ≡ list_all (is_in l.names.keys) (all_uses (exprs_tree (drop l.e-index l.es)));
}
