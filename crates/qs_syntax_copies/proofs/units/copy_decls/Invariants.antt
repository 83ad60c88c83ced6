use Rattle.std.proofs.Common.{◌≡◌, ◌++◌, map, drop}
use Rattle.qs_syntax.specs.TreeOf.{decl_tree}
use Rattle.qs_syntax_copies.proofs.units.copy_decls.Given as goal

abbrev pub invariant-loop-declaration : goal.invariant-loop-declaration
invariant-loop-declaration l = record {
  tree : map decl_tree l.to.items ++ map decl_tree (drop l.declaration-index l.from) ≡ map decl_tree l.from;
}
