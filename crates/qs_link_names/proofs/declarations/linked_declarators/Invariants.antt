use Rattle.std.proofs.Common.{◌≡◌, ◌++◌, map, drop}
use Rattle.qs_syntax.specs.TreeOf.{declarator_tree}
use Rattle.qs_link_names.specs.InternalOf.{internal_of}
use Rattle.qs_link_names.specs.LinkedDeclarations.{linked_declarators}
use Rattle.qs_link_names.proofs.declarations.linked_declarators.Given as goal

abbrev pub invariant-loop-declarator : goal.invariant-loop-declarator
invariant-loop-declarator l = record {
  tree : map declarator_tree l.to.items ++ linked_declarators (internal_of l.own) (map declarator_tree (drop l.declarator-index l.from)) ≡ linked_declarators (internal_of l.own) (map declarator_tree l.from);
}
