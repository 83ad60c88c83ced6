use Rattle.std.proofs.Common.{◌≡◌, ◌++◌, map, drop}
use Rattle.qs_syntax.specs.TreeOf.{parameter_tree}
use Rattle.qs_link_names.specs.InternalOf.{internal_of}
use Rattle.qs_link_names.specs.LinkedDeclarations.{behind_parameters, linked_parameters}
use Rattle.qs_link_names.proofs.declarations.linked_parameters.Given as goal

abbrev pub invariant-loop-parameter : goal.invariant-loop-parameter
invariant-loop-parameter l = record {
  tree : map parameter_tree l.to.items ++ linked_parameters (internal_of l.own) (map parameter_tree (drop l.parameter-index l.from)) ≡ linked_parameters (internal_of l.initial.own) (map parameter_tree l.from);
  behind : behind_parameters (internal_of l.own) (map parameter_tree (drop l.parameter-index l.from)) ≡ behind_parameters (internal_of l.initial.own) (map parameter_tree l.from);
}
