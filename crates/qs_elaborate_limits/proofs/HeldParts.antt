-- What the parts of expressions give in core holds few values: an expression of height n at most 1 + n, and no expression among its
-- statements more.
use Rattle.std.proofs.Common.{◌≡◌, ◌≤◌, ℕ, ◌+◌, max, Bool, true, false, List, [], ◌∷◌, ◌++◌, Some, None, arith, if◌then◌else◌}
use Rattle.qs_memory.specs.declared.scalar.Scalar.{Scalar}
use Rattle.qs_memory.specs.declared.operation.BinaryOperation.{BinaryOperation}
use Rattle.qs_calls.specs.declared.callee.Callee.{Callee}
use Rattle.qs_core.specs.Trees.{CoreExprTree, CoreStmtTree}
use Rattle.qs_core.specs.Trees as core
use Rattle.qs_core.specs.Sizes.{held}
use Rattle.qs_meaning.specs.Typed.{Conversion, unchanged, Order}
use Rattle.qs_elaborate_bodies.specs.Literals.{is_literal, converted_core}
use Rattle.qs_elaborate_bodies.specs.Parts.{Temporaries, next_number, keep, Valued, Listed, in_temporary, saved, saved_if, joined, before, Location, plain, pointed, Located, with_saved_address, address_saved_if, value_at, value_read, written}
use Rattle.qs_elaborate_bodies.specs.Expressions.{operation_core, updated_core, step_amount, ValuedAll, argument_before, call_valued, call_listed, branch_with, truth_core, truth_literal, and_branching, or_branching, choice_branching, choice_joined, Written, set_core, update_core, write_discarded, write_at, write_valued, step_valued, copied}
use Rattle.qs_elaborate_laws.proofs.SizeFacts.{own_small, converted_below, operation_held, updated_held}
use Rattle.qs_elaborate_laws.proofs.SizeParts.{place_held, read_held}
use Rattle.qs_elaborate_limits.proofs.MostHeld.{most_held, most_in, list_most, most-append, most_one}

pub record Few (v : Valued) (n : ℕ) : Type 0 where
  pub statements_few : list_most v.statements ≤ 1 + n
  pub value_few : held v.value ≤ 1 + n

abbrev pub ListFew : Listed → ℕ → Type 0
ListFew a n = list_most a.statements ≤ 1 + n

pub either_few : (z : Bool) (g j : Valued) (n : ℕ) → Few g n → Few j n → Few (if z then g else j) n
either_few true g j n h k = h
either_few false g j n h k = k

-- ---- operands, saved or not

temporary_few : (v : Valued) (n : ℕ) → Few v n → Few (in_temporary v) n
temporary_few v n h = record {
  statements_few = omega (arith, most-append v.statements (keep (next_number v.temporaries) v.value ∷ []), h.statements_few, h.value_few);
  value_few = omega arith;
}

pub saved_few : (v : Valued) (n : ℕ) → Few v n → Few (saved v) n
saved_few v n h = either_few (is_literal v.value) v (in_temporary v) n h (temporary_few v n h)

pub saved_if_few : (z : Bool) (v : Valued) (n : ℕ) → Few v n → Few (saved_if z v) n
saved_if_few true v n h = saved_few v n h
saved_if_few false v n h = h

-- a value that holds no more than 1, or than another
pub valued_few : (f : CoreExprTree → CoreExprTree) (v : Valued) (n : ℕ) → held (f v.value) ≤ max 1 (held v.value) → Few v n → Few (record v { value = f v.value }) n
valued_few f v n e h = record { statements_few = h.statements_few; value_few = omega (arith, e, h.value_few) }

-- ---- operators

pub operation_few :
    (op : BinaryOperation) (order : Order) (left right : Conversion) (a b : Valued) (n m : ℕ)
    → Few a n → Few b m → Few (joined (operation_core op order left right) a b) (1 + max n m)
operation_few op order left right a b n m h k = record {
  statements_few = omega (arith, most-append a.statements b.statements, h.statements_few, k.statements_few);
  value_few = omega (arith, operation_held op order left right a.value b.value, own_small a.value, own_small b.value, h.value_few, k.value_few);
}

pub logical_few :
    (f : CoreExprTree → CoreExprTree → CoreExprTree) (a b : Valued) (n m : ℕ) → held (f a.value b.value) ≤ max 1 (max (held a.value) (held b.value))
    → Few a n → Few b m → Few (joined f a b) (1 + max n m)
logical_few f a b n m e h k = record {
  statements_few = omega (arith, most-append a.statements b.statements, h.statements_few, k.statements_few);
  value_few = omega (arith, e, h.value_few, k.value_few);
}

-- a branch that gives a temporary a value
branch_most : (ss : List CoreStmtTree) (k : ℕ) (e : CoreExprTree) → most_in (branch_with ss k e) ≡ max (list_most ss) (held e)
branch_most ss k e = let p = most_one (ss ++ keep k e ∷ []) in let q = most-append ss (keep k e ∷ []) in omega arith

pub and_few : (a b : Valued) (n m : ℕ) → Few a n → Few b m → Few (and_branching a b) (1 + max n m)
and_few a b n m h k =
    let t = next_number b.temporaries in
    let p = branch_most b.statements t (truth_core b.value) in
    let q = branch_most [] t (truth_literal 0) in
    let r = most-append a.statements (core.branch a.value (branch_with b.statements t (truth_core b.value)) (branch_with [] t (truth_literal 0)) ∷ []) in
    record {
      statements_few = omega (arith, p, q, r, h.statements_few, h.value_few, k.statements_few, k.value_few);
      value_few = omega arith;
    }

pub or_few : (a b : Valued) (n m : ℕ) → Few a n → Few b m → Few (or_branching a b) (1 + max n m)
or_few a b n m h k =
    let t = next_number a.temporaries in
    let p = branch_most b.statements t (truth_core b.value) in
    let q = branch_most [] t (truth_literal 1) in
    let r = most-append a.statements (core.branch a.value (branch_with [] t (truth_literal 1)) (branch_with b.statements t (truth_core b.value)) ∷ []) in
    record {
      statements_few = omega (arith, p, q, r, h.statements_few, h.value_few, k.statements_few, k.value_few);
      value_few = omega arith;
    }

pub choice_few :
    (s : Scalar) (second third : Conversion) (c a b : Valued) (l n m : ℕ)
    → Few c l → Few a n → Few b m → Few (choice_branching s second third c a b) (1 + max l (max n m))
choice_few s second third c a b l n m h i k =
    let t = next_number a.temporaries in
    let x = converted_below second a.value in
    let y = converted_below third b.value in
    let p = branch_most a.statements t (converted_core second a.value) in
    let q = branch_most b.statements t (converted_core third b.value) in
    let r = most-append c.statements (core.branch c.value (branch_with a.statements t (converted_core second a.value)) (branch_with b.statements t (converted_core third b.value)) ∷ []) in
    record {
      statements_few = omega (arith, p, q, r, x.held_less, y.held_less, h.statements_few, h.value_few, i.statements_few, i.value_few, k.statements_few, k.value_few);
      value_few = omega arith;
    }

pub choice_joined_few :
    (second third : Conversion) (c a b : Valued) (l n m : ℕ)
    → Few c l → Few a n → Few b m → Few (choice_joined second third c a b) (1 + max l (max n m))
choice_joined_few second third c a b l n m h i k =
    let x = converted_below second a.value in
    let y = converted_below third b.value in
    let p = most-append c.statements (a.statements ++ b.statements) in
    let q = most-append a.statements b.statements in
    record {
      statements_few = omega (arith, p, q, h.statements_few, i.statements_few, k.statements_few);
      value_few = omega (arith, x.held_less, y.held_less, h.value_few, i.value_few, k.value_few);
    }

pub before_few : (a : Listed) (b : Valued) (n m : ℕ) → ListFew a n → Few b m → Few (before a b) (max n m)
before_few a b n m h k = record {
  statements_few = omega (arith, most-append a.statements b.statements, h, k.statements_few);
  value_few = omega (arith, k.value_few);
}

-- ---- calls

pub record AllFew (v : ValuedAll) (n : ℕ) : Type 0 where
  pub statements_few : list_most v.statements ≤ 1 + n
  pub values_few : most_held v.values ≤ 1 + n

pub argument_few : (c : Conversion) (a : Valued) (rest : ValuedAll) (n m : ℕ) → Few a n → AllFew rest m → AllFew (argument_before c a rest) (max n m)
argument_few c a rest n m h k =
    let x = converted_below c a.value in
    record {
      statements_few = omega (arith, most-append a.statements rest.statements, h.statements_few, k.statements_few);
      values_few = omega (arith, x.held_less, h.value_few, k.values_few);
    }

pub call_few : (s : Scalar) (f : Callee) (given : ValuedAll) (n : ℕ) → AllFew given n → Few (call_valued s f given) n
call_few s f given n h = record {
  statements_few = omega (arith, most-append given.statements (core.call (Some (next_number given.temporaries)) f given.values ∷ []), h.statements_few, h.values_few);
  value_few = omega arith;
}

pub call_listed_few : (f : Callee) (given : ValuedAll) (n : ℕ) → AllFew given n → ListFew (call_listed f given) n
call_listed_few f given n h = omega (arith, most-append given.statements (core.call None f given.values ∷ []), h.statements_few, h.values_few)

-- ---- places

pub record PlaceFew (l : Located) (n : ℕ) : Type 0 where
  pub statements_few : list_most l.statements ≤ 1 + n
  pub place_few : place_held l.location ≤ 1 + n

pub read_few : (s : Scalar) (l : Located) (n : ℕ) → PlaceFew l n → Few (value_read s l) n
read_few s l n h = record { statements_few = h.statements_few; value_few = omega (arith, h.place_few, read_held s l.location) }

saved_place_few :
    (ss : List CoreStmtTree) (x : Location) (ts : Temporaries) (n : ℕ)
    → list_most ss ≤ 1 + n → place_held x ≤ 1 + n → PlaceFew (with_saved_address ss x ts) n
saved_place_few ss (plain x) ts n h k = record { statements_few = h; place_few = k }
saved_place_few ss (pointed a) ts n h k =
    let s = saved_few (record { statements = ss; value = a; temporaries = ts }) n (record { statements_few = h; value_few = k }) in
    record { statements_few = s.statements_few; place_few = s.value_few }

pub place_saved_few : (z : Bool) (l : Located) (n : ℕ) → PlaceFew l n → PlaceFew (address_saved_if z l) n
place_saved_few true l n h = saved_place_few l.statements l.location l.temporaries n h.statements_few h.place_few
place_saved_few false l n h = h

-- ---- what is written

pub record WrittenFew (w : Written) (n : ℕ) : Type 0 where
  pub statements_few : list_most w.statements ≤ 1 + n
  pub place_few : place_held w.location ≤ 1 + n
  pub value_few : held w.value ≤ 1 + n

pub set_few : (s : Scalar) (c : Conversion) (l : Located) (a : Valued) (n m : ℕ) → PlaceFew l n → Few a m → WrittenFew (set_core s c l a) (max n m)
set_few s c l a n m h k =
    let x = converted_below c a.value in
    record {
      statements_few = omega (arith, most-append l.statements a.statements, h.statements_few, k.statements_few);
      place_few = omega (arith, h.place_few);
      value_few = omega (arith, x.held_less, k.value_few);
    }

pub update_few :
    (s : Scalar) (op : BinaryOperation) (left right back : Conversion) (x : Location) (old new : Valued) (n m : ℕ)
    → place_held x ≤ 1 + n → Few old n → Few new m → WrittenFew (update_core s op left right back x old new) (1 + max n m)
update_few s op left right back x old new n m p h k = record {
  statements_few = omega (arith, most-append old.statements new.statements, h.statements_few, k.statements_few);
  place_few = omega arith;
  value_few = omega (arith, updated_held op left right back old.value new.value, own_small old.value, h.value_few, k.value_few);
}

written_most : (s : Scalar) (x : Location) (b : CoreExprTree) → most_in (written s x b) ≤ max (place_held x) (held b)
written_most s (plain x) b = omega arith
written_most s (pointed a) b = omega arith

pub discarded_few : (w : Written) (n : ℕ) → WrittenFew w n → ListFew (write_discarded w) n
discarded_few w n h =
    omega (arith, most-append w.statements (written w.scalar w.location w.value ∷ []), written_most w.scalar w.location w.value, h.statements_few, h.place_few, h.value_few)

write_few :
    (s : Scalar) (x : Location) (ss : List CoreStmtTree) (a : CoreExprTree) (ts : Temporaries) (n : ℕ)
    → list_most ss ≤ 1 + n → place_held x ≤ 1 + n → held a ≤ 1 + n → Few (write_at s x ss a ts) n
write_few s (plain x) ss a ts n h i k = record {
  statements_few = omega (arith, most-append ss (written s (plain x) a ∷ []));
  value_few = omega arith;
}
write_few s (pointed p) ss a ts n h i k = record {
  statements_few = omega (arith, most-append ss (keep (next_number ts) a ∷ written s (pointed p) (core.temporary s (next_number ts)) ∷ []));
  value_few = omega arith;
}

pub write_valued_few : (w : Written) (n : ℕ) → WrittenFew w n → Few (write_valued w) n
write_valued_few w n h = write_few w.scalar w.location w.statements w.value w.temporaries n h.statements_few h.place_few h.value_few

-- the value before a step is in a temporary
pub step_few : (s : Scalar) (op : BinaryOperation) (left back : Conversion) (l : Located) (n : ℕ) → PlaceFew l n → Few (step_valued s op left back l) n
step_few s op left back l n h =
    let k = next_number l.temporaries in
    let new = updated_core op left unchanged back (core.temporary s k) (step_amount op) in
    let u = updated_held op left unchanged back (core.temporary s k) (step_amount op) in
    let p = written_most s l.location new in
    let q = most-append l.statements (keep k (value_at s l.location) ∷ written s l.location new ∷ []) in
    record {
      statements_few = omega (arith, u, p, q, read_held s l.location, h.statements_few, h.place_few);
      value_few = omega arith;
    }

-- ---- copies

pub copied_few : (size alignment : ℕ) (a b : Valued) (n m : ℕ) → Few a n → Few b m → ListFew (copied size alignment a b) (max n m)
copied_few size alignment a b n m h k =
    let p = most-append (a.statements ++ b.statements) (core.copy size alignment a.value b.value ∷ []) in
    let q = most-append a.statements b.statements in
    omega (arith, p, q, h.statements_few, h.value_few, k.statements_few, k.value_few)
