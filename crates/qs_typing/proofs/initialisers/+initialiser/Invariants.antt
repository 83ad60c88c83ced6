use Rattle.std.proofs.Common.{◌≡◌, ◌-◌, ◌&&◌, drop, length, option_map}
use Rattle.qs_syntax.specs.TreeOf.{initialisers_tree}
use Rattle.qs_types.specs.InitialiserRules.{elements_fit, elements_typed}
use Rattle.qs_types.specs.TypeOf.{type_tree}
use Rattle.qs_typing_findings.specs.ContextOf.{context_tree}
use Rattle.qs_typing_findings.specs.UnitWalk.{elements_walked}
use Rattle.qs_typing_findings.specs.WalkOf.{walk_tree}
use Rattle.qs_typing.proofs.initialisers.+initialiser.Given as goal

abbrev pub invariant-walk_elements-loop-i : goal.invariant-walk_elements-loop-i
invariant-walk_elements-loop-i l = record {
  typed :
      elements_typed (context_tree l.c) (initialisers_tree l.items)
      ≡ (l.all.is_typed && elements_typed (context_tree l.c) (initialisers_tree (drop l.i l.items)));
  fits :
      elements_fit l.at_file_scope (context_tree l.c) (option_map (λ t. type_tree t.now) l.t) 0 (initialisers_tree l.items)
      ≡ (l.all.fits && elements_fit l.at_file_scope (context_tree l.c) (option_map (λ t. type_tree t.now) l.t) l.i (initialisers_tree (drop l.i l.items)));
  walked :
      elements_walked l.at_file_scope (context_tree l.c) (option_map (λ t. type_tree t.now) l.t) 0 (initialisers_tree l.items) (walk_tree l.initial.walk)
      ≡ elements_walked l.at_file_scope (context_tree l.c) (option_map (λ t. type_tree t.now) l.t) l.i (initialisers_tree (drop l.i l.items)) (walk_tree l.walk);
}

abbrev pub decreases-walk_elements-loop-i : goal.decreases-walk_elements-loop-i
decreases-walk_elements-loop-i l = length l.initial.items - l.i
