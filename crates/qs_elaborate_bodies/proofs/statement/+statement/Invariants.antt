use Rattle.std.proofs.Common.{◌≡◌, ◌++◌, map, drop, length}
use Rattle.qs_core.specs.TreeOf.{core_stmt}
use Rattle.qs_typed_trees.specs.TreeOf.{statements_tree}
use Rattle.qs_elaborate_bodies.specs.Statements.{labels_core, statements_core, parts_core}
use Rattle.qs_elaborate_bodies.proofs.statement.+statement.Given as goal

-- those so far are pushed, and the rest gives the whole
abbrev pub invariant-statements-loop-s : goal.invariant-statements-loop-s
invariant-statements-loop-s l = record {
  statements :
      map core_stmt l.out.items ++ (statements_core (statements_tree (drop l.s-index l.ss)) l.ts.items).statements
      ≡ map core_stmt l.initial.out.items ++ (statements_core (statements_tree l.ss) l.initial.ts.items).statements;
  temporaries : (statements_core (statements_tree (drop l.s-index l.ss)) l.ts.items).temporaries ≡ (statements_core (statements_tree l.ss) l.initial.ts.items).temporaries;
}

abbrev pub invariant-items-loop-s : goal.invariant-items-loop-s
invariant-items-loop-s l = record {
  labels :
      l.labels.items ++ labels_core (length l.out.items) (statements_tree (drop l.s-index l.ss))
      ≡ l.initial.labels.items ++ labels_core (length l.initial.out.items) (statements_tree l.ss);
  statements :
      map core_stmt l.out.items ++ (parts_core (statements_tree (drop l.s-index l.ss)) l.ts.items).statements
      ≡ map core_stmt l.initial.out.items ++ (parts_core (statements_tree l.ss) l.initial.ts.items).statements;
  temporaries : (parts_core (statements_tree (drop l.s-index l.ss)) l.ts.items).temporaries ≡ (parts_core (statements_tree l.ss) l.initial.ts.items).temporaries;
}
