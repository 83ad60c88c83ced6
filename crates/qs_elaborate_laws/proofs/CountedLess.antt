-- Where statements and lists count nothing, no more is counted.
use Rattle.std.proofs.Common.{◌≤◌, ℕ, ◌+◌, Bool, true, false, arith, if◌then◌else◌}
use Rattle.qs_meaning.specs.Typed.{Expr, constant, value, pointer_to, member, called, stepped_after, unary, cast, binary, logical_and, logical_or, conditional, assigned, sequence, Lvalue, variable, object, Arguments, no_arguments, argument_and, Assignment, set, update, Effect, nothing, discard, assign, perform, copy, fill, in_order}
use Rattle.qs_elaborate_laws.specs.Counts.{indirection, is_fixed, is_amount, nodes, lvalue_nodes, arguments_nodes, assignment_nodes, discarded_nodes, target_nodes, effect_nodes}

unless_less : (b : Bool) (n m : ℕ) → n ≤ m → (if b then 0 else n) ≤ (if b then 0 else m)
unless_less true n m h = omega arith
unless_less false n m h = h

place_less : (b : Bool) (n m i : ℕ) → n ≤ m → (if b then 0 else n + i) ≤ (if b then 0 else m + i)
place_less true n m i h = omega arith
place_less false n m i h = omega arith

fill_less : (b : Bool) (n m i : ℕ) → n ≤ m → 0 + (if b then 0 else n + i) ≤ 1 + (if b then 0 else m + i)
fill_less true n m i h = omega arith
fill_less false n m i h = omega arith

mutual
  pub nodes_less : (a : Expr) → nodes a 0 ≤ nodes a 1
  nodes_less (constant s n) = omega arith
  nodes_less (value s l) = lvalue_less l
  nodes_less (pointer_to o) = omega arith
  nodes_less (member offset a) = let h = nodes_less a in omega arith
  nodes_less (called s f es) = let h = arguments_less es in omega arith
  nodes_less (stepped_after s l operation left back) = let h = lvalue_less l in omega arith
  nodes_less (unary operation c a) = let h = nodes_less a in omega arith
  nodes_less (cast c a) = let h = nodes_less a in omega arith
  nodes_less (binary operation order left right a b) = let h = nodes_less a in let k = nodes_less b in omega arith
  nodes_less (logical_and a b) = let h = nodes_less a in let k = nodes_less b in omega arith
  nodes_less (logical_or a b) = let h = nodes_less a in let k = nodes_less b in omega arith
  nodes_less (conditional s a second third b c) = let h = nodes_less a in let k = nodes_less b in let l = nodes_less c in omega arith
  nodes_less (assigned a) = let h = assignment_less a in omega arith
  nodes_less (sequence a b) = let h = effect_less a in let k = nodes_less b in omega arith

  lvalue_less : (l : Lvalue) → lvalue_nodes l 0 ≤ lvalue_nodes l 1
  lvalue_less (variable x) = omega arith
  lvalue_less (object a) = let h = nodes_less a in omega arith

  arguments_less : (es : Arguments) → arguments_nodes es 0 ≤ arguments_nodes es 1
  arguments_less no_arguments = omega arith
  arguments_less (argument_and c a es) = let h = nodes_less a in let k = arguments_less es in omega arith

  assignment_less : (a : Assignment) → assignment_nodes a 0 ≤ assignment_nodes a 1
  assignment_less (set s l c a) = let h = lvalue_less l in let k = nodes_less a in omega arith
  assignment_less (update s l operation left right back a) =
      let h = lvalue_less l in let k = unless_less (is_amount a) (nodes a 0) (nodes a 1) (nodes_less a) in omega arith

  target_less : (l : Lvalue) → target_nodes l 0 ≤ target_nodes l 1
  target_less (variable x) = omega arith
  target_less (object a) = place_less (is_fixed a) (nodes a 0) (nodes a 1) (indirection a) (nodes_less a)

  discarded_less : (a : Assignment) → discarded_nodes a 0 ≤ discarded_nodes a 1
  discarded_less (set s l c a) = let h = target_less l in let k = nodes_less a in omega arith
  discarded_less (update s l operation left right back a) =
      let h = lvalue_less l in let k = unless_less (is_amount a) (nodes a 0) (nodes a 1) (nodes_less a) in omega arith

  pub effect_less : (a : Effect) → effect_nodes a 0 ≤ effect_nodes a 1
  effect_less nothing = omega arith
  effect_less (discard a) = nodes_less a
  effect_less (assign a) = discarded_less a
  effect_less (perform f es) = let h = arguments_less es in omega arith
  effect_less (copy size alignment a b) =
      let h = place_less (is_fixed a) (nodes a 0) (nodes a 1) (indirection a) (nodes_less a) in let k = nodes_less b in omega arith
  effect_less (fill blank a) = fill_less _ (nodes a 0) (nodes a 1) (indirection a) (nodes_less a)
  effect_less (in_order a b) = let h = effect_less a in let k = effect_less b in omega arith
