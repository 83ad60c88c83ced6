-- What the parts of expressions give needs few values: within a limit, with so many to spare.
use Rattle.std.proofs.Common.{◌≡◌, ◌≤◌, ℕ, ◌+◌, max, Bool, true, false, List, [], ◌∷◌, ◌++◌, Some, None, length, refl, arith, if◌then◌else◌}
use Rattle.qs_memory.specs.declared.scalar.Scalar.{Scalar}
use Rattle.qs_memory.specs.declared.scalar.Scalar.TheVariants as scalars
use Rattle.qs_memory.specs.declared.operation.BinaryOperation.{BinaryOperation}
use Rattle.qs_calls.specs.declared.callee.Callee.{Callee}
use Rattle.qs_core.specs.Trees.{CoreExprTree, CoreStmtTree}
use Rattle.qs_core.specs.Trees as core
use Rattle.qs_core.specs.Expressions.{type_of}
use Rattle.qs_core.specs.Sizes.{is_operand, own, parts_held, held, address_own, all_held, held_in}
use Rattle.qs_meaning.specs.Typed.{Conversion, unchanged, Order}
use Rattle.qs_elaborate_bodies.specs.Literals.{is_literal, converted_core}
use Rattle.qs_elaborate_bodies.specs.Parts.{Temporaries, next_number, with_temporary, keep, Valued, Listed, in_temporary, saved, saved_if, joined, Location, plain, pointed, Located, with_saved_address, address_saved_if, value_at, value_read, written}
use Rattle.qs_elaborate_bodies.specs.Expressions.{operation_core, updated_core, step_amount, ValuedAll, argument_before, call_valued, call_listed, branch_with, truth_core, truth_literal, and_branching, or_branching, choice_branching, choice_joined, Written, set_core, update_core, write_discarded, write_at, write_valued, step_valued, copied}
use Rattle.qs_elaborate_laws.proofs.SizeFacts.{operand_held, own_small, own_address, address_small, address_few, parts_small, literal_operand, converted_below, operation_held, updated_held, list_held, held-append, held_one, one_more}

pub record Within (spare : ℕ) (v : Valued) (limit : ℕ) : Type 0 where
  pub statements_fit : length v.temporaries + list_held v.statements + spare ≤ limit
  pub value_fits : length v.temporaries + held v.value + spare ≤ limit

pub widened : (d : ℕ) (v : Valued) (l m : ℕ) → Within d v l → l ≤ m → Within d v m
widened d v l m h e = record { statements_fit = omega (arith, h.statements_fit); value_fits = omega (arith, h.value_fits) }

pub with_less_to_spare : (d : ℕ) (v : Valued) (l : ℕ) → Within (d + 1) v l → Within d v l
with_less_to_spare d v l h = record { statements_fit = omega (arith, h.statements_fit); value_fits = omega (arith, h.value_fits) }

pub either_within : (d : ℕ) (z : Bool) (g j : Valued) (m : ℕ) → Within d g m → Within d j m → Within d (if z then g else j) m
either_within d true g j m h k = h
either_within d false g j m h k = k

-- ---- operands, saved or not

pub record Kept (spare : ℕ) (v : Valued) (limit : ℕ) : Type 0 where
  pub statements_fit : length v.temporaries + list_held v.statements + spare ≤ limit
  pub value_fits : length v.temporaries + held v.value + spare ≤ limit
  pub own_fits : length v.temporaries + address_own v.value + spare ≤ limit

as_it_is : (d : ℕ) (v : Valued) (l : ℕ) → Within (d + 1) v l → Kept d v l
as_it_is d v l h = record {
  statements_fit = omega (arith, h.statements_fit);
  value_fits = omega (arith, h.value_fits);
  own_fits = omega (arith, h.value_fits, address_small v.value);
}

temporary_kept : (d : ℕ) (v : Valued) (l : ℕ) → Within (d + 1) v l → Kept d (in_temporary v) l
temporary_kept d v l h =
    let n = one_more v.temporaries (type_of v.value) in
    record {
      statements_fit = omega (arith, n, held-append v.statements (keep (next_number v.temporaries) v.value ∷ []), parts_small v.value, h.statements_fit, h.value_fits);
      value_fits = omega (arith, n, h.statements_fit);
      own_fits = omega (arith, n, h.statements_fit);
    }

literal_or : (d : ℕ) (z : Bool) (v : Valued) (l : ℕ) → Within (d + 1) v l → Kept d (if z then v else in_temporary v) l
literal_or d true v l h = as_it_is d v l h
literal_or d false v l h = temporary_kept d v l h

pub saved_kept : (d : ℕ) (v : Valued) (l : ℕ) → Within (d + 1) v l → Kept d (saved v) l
saved_kept d v l h = literal_or d (is_literal v.value) v l h

pub saved_if_kept : (d : ℕ) (z : Bool) (v : Valued) (l : ℕ) → Within (d + 1) v l → Kept d (saved_if z v) l
saved_if_kept d true v l h = saved_kept d v l h
saved_if_kept d false v l h = as_it_is d v l h

-- ---- operators

pub operation_within :
    (op : BinaryOperation) (order : Order) (left right : Conversion) (a b : Valued) (l n : ℕ)
    → Kept 0 a l → Within 1 b (length a.temporaries + n) → Within 2 (joined (operation_core op order left right) a b) (l + n + 2)
operation_within op order left right a b l n h k = record {
  statements_fit = omega (arith, held-append a.statements b.statements, h.statements_fit, k.statements_fit);
  value_fits =
      omega (arith, operation_held op order left right a.value b.value, h.statements_fit, h.value_fits, h.own_fits, own_address a.value, k.statements_fit, k.value_fits, own_small b.value);
}

pub logical_within :
    (f : CoreExprTree → CoreExprTree → CoreExprTree) (a b : Valued) (l n : ℕ) → held (f a.value b.value) ≤ max 1 (max (held a.value) (held b.value))
    → Within 1 a l → Within 1 b (length a.temporaries + n) → Within 1 (joined f a b) (l + n + 2)
logical_within f a b l n e h k = record {
  statements_fit = omega (arith, held-append a.statements b.statements, h.statements_fit, k.statements_fit);
  value_fits = omega (arith, e, h.value_fits, k.statements_fit, k.value_fits);
}

-- a branch that gives a temporary a value
branch_held : (ss : List CoreStmtTree) (k : ℕ) (e : CoreExprTree) → held_in (branch_with ss k e) ≡ max (list_held ss) (parts_held e)
branch_held ss k e = let p = held_one (ss ++ keep k e ∷ []) in let q = held-append ss (keep k e ∷ []) in omega arith

pub and_within : (a b : Valued) (l n : ℕ) → Within 1 a l → Within 1 b (length a.temporaries + n) → Within 1 (and_branching a b) (l + n + 2)
and_within a b l n h k =
    let t = one_more b.temporaries scalars.Int in
    let p = branch_held b.statements (next_number b.temporaries) (truth_core b.value) in
    let q = held-append a.statements (core.branch a.value (branch_with b.statements (next_number b.temporaries) (truth_core b.value)) (branch_with [] (next_number b.temporaries) (truth_literal 0)) ∷ []) in
    record {
      statements_fit = omega (arith, t, p, q, h.statements_fit, h.value_fits, k.statements_fit, k.value_fits);
      value_fits = omega (arith, t, h.statements_fit, k.statements_fit);
    }

pub or_within :
    (a b : Valued) (l n : ℕ) → Within 1 a l → Within 1 b (length (with_temporary a.temporaries scalars.Int) + n) → Within 1 (or_branching a b) (l + n + 2)
or_within a b l n h k =
    let t = one_more a.temporaries scalars.Int in
    let p = branch_held b.statements (next_number a.temporaries) (truth_core b.value) in
    let q = held-append a.statements (core.branch a.value (branch_with [] (next_number a.temporaries) (truth_literal 1)) (branch_with b.statements (next_number a.temporaries) (truth_core b.value)) ∷ []) in
    record {
      statements_fit = omega (arith, t, p, q, h.statements_fit, h.value_fits, k.statements_fit, k.value_fits);
      value_fits = omega (arith, t, h.statements_fit, k.statements_fit);
    }

pub choice_within :
    (s : Scalar) (second third : Conversion) (c a b : Valued) (l m n : ℕ) → Within 1 c l → Within 1 a (length c.temporaries + m)
    → Within 1 b (length (with_temporary a.temporaries s) + n) → Within 1 (choice_branching s second third c a b) (l + m + n + 2)
choice_within s second third c a b l m n h i k =
    let t = one_more a.temporaries s in
    let x = converted_below second a.value in
    let y = converted_below third b.value in
    let p = branch_held a.statements (next_number a.temporaries) (converted_core second a.value) in
    let q = branch_held b.statements (next_number a.temporaries) (converted_core third b.value) in
    let r = held-append c.statements (core.branch c.value (branch_with a.statements (next_number a.temporaries) (converted_core second a.value)) (branch_with b.statements (next_number a.temporaries) (converted_core third b.value)) ∷ []) in
    record {
      statements_fit = omega (arith, t, p, q, r, x.parts_less, y.parts_less, h.statements_fit, h.value_fits, i.statements_fit, i.value_fits, k.statements_fit, k.value_fits);
      value_fits = omega (arith, t, h.statements_fit, i.statements_fit, k.statements_fit);
    }

pub choice_joined_within :
    (second third : Conversion) (c a b : Valued) (l m n : ℕ) → Within 1 c l → Within 1 a (length c.temporaries + m)
    → Within 1 b (length a.temporaries + n) → Within 1 (choice_joined second third c a b) (l + m + n + 2)
choice_joined_within second third c a b l m n h i k =
    let x = converted_below second a.value in
    let y = converted_below third b.value in
    let p = held-append c.statements (a.statements ++ b.statements) in
    let q = held-append a.statements b.statements in
    record {
      statements_fit = omega (arith, p, q, h.statements_fit, i.statements_fit, k.statements_fit);
      value_fits = omega (arith, x.held_less, y.held_less, h.statements_fit, h.value_fits, i.statements_fit, i.value_fits, k.statements_fit, k.value_fits);
    }

-- ---- calls

pub record AllWithin (v : ValuedAll) (limit : ℕ) : Type 0 where
  pub statements_fit : length v.temporaries + list_held v.statements ≤ limit
  pub values_fit : length v.temporaries + all_held v.values ≤ limit

pub argument_within :
    (c : Conversion) (a : Valued) (rest : ValuedAll) (l n : ℕ) → Kept 0 a l → AllWithin rest (length a.temporaries + n) → AllWithin (argument_before c a rest) (l + n)
argument_within c a rest l n h k =
    let x = converted_below c a.value in
    record {
      statements_fit = omega (arith, held-append a.statements rest.statements, h.statements_fit, k.statements_fit);
      values_fit = omega (arith, x.held_less, x.own_less, own_address a.value, h.statements_fit, h.value_fits, h.own_fits, k.statements_fit, k.values_fit);
    }

pub call_within : (s : Scalar) (f : Callee) (given : ValuedAll) (l : ℕ) → AllWithin given l → Within 1 (call_valued s f given) (l + 2)
call_within s f given l h =
    let t = one_more given.temporaries s in
    let p = held-append given.statements (core.call (Some (next_number given.temporaries)) f given.values ∷ []) in
    record {
      statements_fit = omega (arith, t, p, h.statements_fit, h.values_fit);
      value_fits = omega (arith, t, h.statements_fit);
    }

-- ---- lists

abbrev pub ListWithin : Listed → (limit : ℕ) → Type 0
ListWithin a limit = length a.temporaries + list_held a.statements ≤ limit

pub call_listed_within : (f : Callee) (given : ValuedAll) (l : ℕ) → AllWithin given l → ListWithin (call_listed f given) l
call_listed_within f given l h = omega (arith, held-append given.statements (core.call None f given.values ∷ []), h.statements_fit, h.values_fit)

-- ---- places

abbrev pub place_held : Location → ℕ
place_held (plain x) = 0
place_held (pointed a) = held a

abbrev pub place_own : Location → ℕ
place_own (plain x) = 0
place_own (pointed a) = address_own a

pub record LocatedWithin (spare : ℕ) (l : Located) (limit : ℕ) : Type 0 where
  pub statements_fit : length l.temporaries + list_held l.statements + spare ≤ limit
  pub place_fits : length l.temporaries + place_held l.location + spare ≤ limit

pub read_held : (s : Scalar) (x : Location) → held (value_at s x) ≤ max 1 (place_held x)
read_held s (plain x) = omega arith
read_held s (pointed a) = omega arith

pub read_within : (s : Scalar) (l : Located) (m : ℕ) → LocatedWithin 2 l m → Within 1 (value_read s l) m
read_within s l m h = record {
  statements_fit = omega (arith, h.statements_fit);
  value_fits = omega (arith, h.statements_fit, h.place_fits, read_held s l.location);
}

pub record PlaceKept (spare : ℕ) (l : Located) (limit : ℕ) : Type 0 where
  pub statements_fit : length l.temporaries + list_held l.statements + spare ≤ limit
  pub place_fits : length l.temporaries + place_held l.location + spare ≤ limit
  pub own_fits : length l.temporaries + place_own l.location + spare ≤ limit

own_place : (x : Location) → place_own x ≤ 2
own_place (plain x) = omega arith
own_place (pointed a) = address_few a

place_small : (x : Location) → place_own x ≤ place_held x
place_small (plain x) = omega arith
place_small (pointed a) = address_small a

place_as_is : (d : ℕ) (l : Located) (m : ℕ) → LocatedWithin (d + 1) l m → PlaceKept d l m
place_as_is d l m h = record {
  statements_fit = omega (arith, h.statements_fit);
  place_fits = omega (arith, h.place_fits);
  own_fits = omega (arith, h.place_fits, place_small l.location);
}

saved_place_kept :
    (d : ℕ) (ss : List CoreStmtTree) (x : Location) (ts : Temporaries) (m : ℕ)
    → length ts + list_held ss + (d + 1) ≤ m → length ts + place_held x + (d + 1) ≤ m → PlaceKept d (with_saved_address ss x ts) m
saved_place_kept d ss (plain x) ts m h k = record { statements_fit = omega arith; place_fits = omega arith; own_fits = omega arith }
saved_place_kept d ss (pointed a) ts m h k =
    let s = saved_kept d (record { statements = ss; value = a; temporaries = ts }) m (record { statements_fit = h; value_fits = k }) in
    record { statements_fit = s.statements_fit; place_fits = s.value_fits; own_fits = s.own_fits }

pub place_kept : (d : ℕ) (z : Bool) (l : Located) (m : ℕ) → LocatedWithin (d + 1) l m → PlaceKept d (address_saved_if z l) m
place_kept d true l m h = saved_place_kept d l.statements l.location l.temporaries m h.statements_fit h.place_fits
place_kept d false l m h = place_as_is d l m h

-- ---- what is written

pub record WrittenWithin (w : Written) (limit : ℕ) : Type 0 where
  pub statements_fit : length w.temporaries + list_held w.statements + 2 ≤ limit
  pub value_fits : length w.temporaries + held w.value + 2 ≤ limit
  pub place_fits : length w.temporaries + place_held w.location + 2 ≤ limit
  pub own_fits : length w.temporaries + place_own w.location + 2 ≤ limit
  pub both_fit : length w.temporaries + place_own w.location + held w.value ≤ limit

pub set_within :
    (s : Scalar) (c : Conversion) (l : Located) (a : Valued) (m n : ℕ)
    → PlaceKept 1 l m → Within 1 a (length l.temporaries + n) → WrittenWithin (set_core s c l a) (m + n + 2)
set_within s c l a m n h k =
    let x = converted_below c a.value in
    record {
      statements_fit = omega (arith, held-append l.statements a.statements, h.statements_fit, k.statements_fit);
      value_fits = omega (arith, x.held_less, h.statements_fit, k.value_fits);
      place_fits = omega (arith, h.place_fits, k.statements_fit);
      own_fits = omega (arith, h.own_fits, k.statements_fit);
      both_fit = omega (arith, x.held_less, h.own_fits, k.value_fits);
    }

-- an operand behind which nothing acts, and the place itself
quiet_update :
    (s : Scalar) (op : BinaryOperation) (left right back : Conversion) (l : Located) (a : Valued) (m n : ℕ)
    → LocatedWithin 2 l m → Within 0 a (length l.temporaries + n) → WrittenWithin (update_core s op left right back l.location (value_read s l) a) (m + n + 2)
quiet_update s op left right back l a m n h k =
    let u = updated_held op left right back (value_at s l.location) a.value in
    let r = read_held s l.location in
    let o = own_small (value_at s l.location) in
    let p = own_place l.location in
    record {
      statements_fit = omega (arith, held-append l.statements a.statements, h.statements_fit, k.statements_fit);
      value_fits = omega (arith, u, r, o, h.statements_fit, h.place_fits, k.statements_fit, k.value_fits);
      place_fits = omega (arith, h.place_fits, k.statements_fit);
      own_fits = omega (arith, place_small l.location, h.place_fits, k.statements_fit);
      both_fit = omega (arith, u, r, o, p, h.statements_fit, h.place_fits, k.statements_fit, k.value_fits);
    }

-- one behind which something acts: the place is saved, and what stands there
acting_update :
    (s : Scalar) (op : BinaryOperation) (left right back : Conversion) (x : Location) (old a : Valued) (m n : ℕ)
    → place_held x ≡ 0 → place_own x ≡ 0 → held old.value ≡ 0 → own old.value ≡ 0 → length old.temporaries + list_held old.statements ≤ m
    → Within 1 a (length old.temporaries + n) → WrittenWithin (update_core s op left right back x old a) (m + n + 2)
acting_update s op left right back x old a m n ph po oh oo h k =
    let u = updated_held op left right back old.value a.value in
    record {
      statements_fit = omega (arith, held-append old.statements a.statements, k.statements_fit);
      value_fits = omega (arith, u, k.statements_fit, k.value_fits);
      place_fits = omega (arith, k.statements_fit);
      own_fits = omega (arith, k.statements_fit);
      both_fit = omega (arith, u, k.statements_fit, k.value_fits);
    }

-- ---- saved places, and what stands there

abbrev pub IsReady : Location → Type 0
IsReady (plain x) = Unit {0}
IsReady (pointed a) = is_operand a ≡ true

ready_held : (x : Location) → IsReady x → place_held x ≡ 0
ready_held (plain x) h = refl
ready_held (pointed a) h = operand_held a h

ready_own : (x : Location) → IsReady x → place_own x ≡ 0
ready_own (plain x) h = refl
ready_own (pointed a) h = let e = operand_held a h in omega (arith, address_small a)

literal_or_temporary : (z : Bool) (v : Valued) → (z ≡ true → is_operand v.value ≡ true) → is_operand (if z then v else in_temporary v).value ≡ true
literal_or_temporary true v h = h refl
literal_or_temporary false v h = refl

saved_ready : (ss : List CoreStmtTree) (x : Location) (ts : Temporaries) → IsReady (with_saved_address ss x ts).location
saved_ready ss (plain x) ts = tt
saved_ready ss (pointed a) ts = literal_or_temporary (is_literal a) (record { statements = ss; value = a; temporaries = ts }) (literal_operand a)

-- what stands in a place that is saved is in a temporary then
record OldKept (v : Valued) (limit : ℕ) : Type 0 where
  pub statements_fit : length v.temporaries + list_held v.statements ≤ limit
  pub held_none : held v.value ≡ 0
  pub own_none : own v.value ≡ 0

old_kept :
    (s : Scalar) (ss : List CoreStmtTree) (x : Location) (ts : Temporaries) (m : ℕ) → IsReady x → length ts + list_held ss + 1 ≤ m
    → OldKept (saved (value_read s (record { statements = ss; location = x; temporaries = ts }))) m
old_kept s ss (plain x) ts m r h = record {
  statements_fit = omega (arith, one_more ts s, held-append ss (keep (next_number ts) (core.variable s x) ∷ []));
  held_none = refl;
  own_none = refl;
}
old_kept s ss (pointed a) ts m o h = record {
  statements_fit = omega (arith, one_more ts s, held-append ss (keep (next_number ts) (core.load s a) ∷ []), operand_held a o);
  held_none = refl;
  own_none = refl;
}

pub update_within :
    (z : Bool) (s : Scalar) (op : BinaryOperation) (left right back : Conversion) (l : Located) (e : Temporaries → Valued) (m n o : ℕ)
    → LocatedWithin 2 l m → ((ts : Temporaries) → Within 1 (e ts) (length ts + n)) → ((ts : Temporaries) → Within 0 (e ts) (length ts + o)) → (z ≡ true → n ≤ o)
    → let at = address_saved_if z l in
    let old = saved_if z (value_read s at) in
    WrittenWithin (update_core s op left right back at.location old (e old.temporaries)) (m + o + 2)
update_within false s op left right back l e m n o h k q i = quiet_update s op left right back l (e l.temporaries) m o h (q l.temporaries)
update_within true s op left right back l e m n o h k q i =
    let at = with_saved_address l.statements l.location l.temporaries in
    let p = saved_place_kept 1 l.statements l.location l.temporaries m h.statements_fit h.place_fits in
    let r = saved_ready l.statements l.location l.temporaries in
    let old = saved (value_read s at) in
    let w = old_kept s at.statements at.location at.temporaries m r p.statements_fit in
    acting_update s op left right back at.location old (e old.temporaries) m o (ready_held _ r) (ready_own _ r) w.held_none w.own_none w.statements_fit
    (widened 1 (e old.temporaries) (length old.temporaries + n) (length old.temporaries + o) (k old.temporaries) (let b = i refl in omega arith))

-- ---- writes

write_held : (s : Scalar) (x : Location) (b : CoreExprTree) → held_in (written s x b) ≤ max (held b) (max (place_held x) (place_own x + held b))
write_held s (plain x) b = let p = parts_small b in omega arith
write_held s (pointed a) b = omega arith

write_at_within :
    (s : Scalar) (x : Location) (ss : List CoreStmtTree) (b : CoreExprTree) (ts : Temporaries) (m : ℕ)
    → length ts + list_held ss + 2 ≤ m → length ts + held b + 2 ≤ m → length ts + place_held x + 2 ≤ m → length ts + place_own x + 2 ≤ m
    → Within 1 (write_at s x ss b ts) m
write_at_within s (plain x) ss b ts m h i j k = record {
  statements_fit = omega (arith, held-append ss (written s (plain x) b ∷ []), parts_small b);
  value_fits = omega arith;
}
write_at_within s (pointed a) ss b ts m h i j k =
    let t = one_more ts s in
    let n = next_number ts in
    record {
      statements_fit = omega (arith, t, held-append ss (keep n b ∷ written s (pointed a) (core.temporary s n) ∷ []), parts_small b);
      value_fits = omega (arith, t);
    }

pub write_valued_within : (w : Written) (m : ℕ) → WrittenWithin w m → Within 1 (write_valued w) m
write_valued_within w m h = write_at_within w.scalar w.location w.statements w.value w.temporaries m h.statements_fit h.value_fits h.place_fits h.own_fits

pub write_discarded_within : (w : Written) (m : ℕ) → WrittenWithin w m → ListWithin (write_discarded w) m
write_discarded_within w m h =
    omega (arith, held-append w.statements (written w.scalar w.location w.value ∷ []), write_held w.scalar w.location w.value, h.statements_fit, h.value_fits, h.place_fits, h.both_fit)

step_by :
    (s : Scalar) (op : BinaryOperation) (left back : Conversion) (ss : List CoreStmtTree) (x : Location) (ts : Temporaries) (m : ℕ)
    → length ts + list_held ss + 2 ≤ m → length ts + place_held x + 2 ≤ m
    → Within 1 (step_valued s op left back (record { statements = ss; location = x; temporaries = ts })) (m + 2)
step_by s op left back ss x ts m h i =
    let n = next_number ts in
    let b = updated_core op left unchanged back (core.temporary s n) (step_amount op) in
    let p = held-append ss (keep n (value_at s x) ∷ written s x b ∷ []) in
    let u = updated_held op left unchanged back (core.temporary s n) (step_amount op) in
    record {
      statements_fit = omega (arith, one_more ts s, p, u, write_held s x b, read_held s x, parts_small (value_at s x), place_small x);
      value_fits = omega (arith, one_more ts s);
    }

pub step_within :
    (s : Scalar) (op : BinaryOperation) (left back : Conversion) (l : Located) (m : ℕ) → LocatedWithin 2 l m → Within 1 (step_valued s op left back l) (m + 2)
step_within s op left back l m h = step_by s op left back l.statements l.location l.temporaries m h.statements_fit h.place_fits

-- ---- a place that may count nothing: that of a declaration

pub record Aimed (v : Valued) (limit : ℕ) : Type 0 where
  pub statements_fit : length v.temporaries + list_held v.statements ≤ limit + 1
  pub value_fits : length v.temporaries + held v.value ≤ limit + 1
  pub own_fits : length v.temporaries + address_own v.value ≤ limit + 1

pub kept_aimed : (v : Valued) (m : ℕ) → Kept 0 v m → Aimed v m
kept_aimed v m h = record { statements_fit = omega (arith, h.statements_fit); value_fits = omega (arith, h.value_fits); own_fits = omega (arith, h.own_fits) }

pub copied_within :
    (size alignment : ℕ) (a b : Valued) (m n : ℕ) → Aimed a m → Within 1 b (length a.temporaries + n) → ListWithin (copied size alignment a b) (m + n)
copied_within size alignment a b m n h k =
    let p = held-append (a.statements ++ b.statements) (core.copy size alignment a.value b.value ∷ []) in
    let q = held-append a.statements b.statements in
    omega (arith, p, q, h.statements_fit, h.value_fits, h.own_fits, k.statements_fit, k.value_fits)

pub record AimedAt (l : Located) (limit : ℕ) : Type 0 where
  pub statements_fit : length l.temporaries + list_held l.statements ≤ limit + 1
  pub place_fits : length l.temporaries + place_held l.location ≤ limit + 1
  pub own_fits : length l.temporaries + place_own l.location ≤ limit + 1

pub kept_aimed_at : (l : Located) (m : ℕ) → PlaceKept 1 l m → AimedAt l m
kept_aimed_at l m h = record { statements_fit = omega (arith, h.statements_fit); place_fits = omega (arith, h.place_fits); own_fits = omega (arith, h.own_fits) }

pub discarded_set_within :
    (s : Scalar) (c : Conversion) (l : Located) (a : Valued) (m n : ℕ) → AimedAt l m → Within 1 a (length l.temporaries + n) → ListWithin (write_discarded (set_core s c l a)) (m + n)
discarded_set_within s c l a m n h k =
    let x = converted_below c a.value in
    let b = converted_core c a.value in
    let p = held-append (l.statements ++ a.statements) (written s l.location b ∷ []) in
    let q = held-append l.statements a.statements in
    omega (arith, p, q, x.held_less, write_held s l.location b, h.statements_fit, h.place_fits, h.own_fits, k.statements_fit, k.value_fits)
