use Rattle.std.proofs.Common.{◌≡◌, ◌++◌, map, drop}
use Rattle.qs_core.specs.TreeOf.{core_expr, core_stmt}
use Rattle.qs_typed_trees.specs.TreeOf.{arguments_tree, effects_tree}
use Rattle.qs_elaborate_bodies.specs.Expressions.{arguments_core, effect_core}
use Rattle.qs_elaborate_bodies.proofs.expression.+expression.Given as goal

-- those so far are pushed, and the rest gives the whole
abbrev pub invariant-arguments-loop-i : goal.invariant-arguments-loop-i
invariant-arguments-loop-i l = record {
  statements :
      map core_stmt l.out.items ++ (arguments_core (arguments_tree (drop l.i l.given)) l.ts.items).statements
      ≡ map core_stmt l.initial.out.items ++ (arguments_core (arguments_tree l.given) l.initial.ts.items).statements;
  values :
      map core_expr l.values.items ++ (arguments_core (arguments_tree (drop l.i l.given)) l.ts.items).values
      ≡ (arguments_core (arguments_tree l.given) l.initial.ts.items).values;
  temporaries : (arguments_core (arguments_tree (drop l.i l.given)) l.ts.items).temporaries ≡ (arguments_core (arguments_tree l.given) l.initial.ts.items).temporaries;
}

abbrev pub invariant-effects-loop-a : goal.invariant-effects-loop-a
invariant-effects-loop-a l = record {
  statements :
      map core_stmt l.out.items ++ (effect_core (effects_tree (drop l.a-index l.all)) l.ts.items).statements
      ≡ map core_stmt l.initial.out.items ++ (effect_core (effects_tree l.all) l.initial.ts.items).statements;
  temporaries : (effect_core (effects_tree (drop l.a-index l.all)) l.ts.items).temporaries ≡ (effect_core (effects_tree l.all) l.initial.ts.items).temporaries;
}
