-- What the parts of expressions give needs few words: 24 for each node, with so many to spare.
use Rattle.std.proofs.Common.{◌≡◌, ◌≤◌, ℕ, ◌+◌, ◌*◌, Bool, true, false, List, [], ◌∷◌, ◌++◌, Some, None, length, refl, arith, if◌then◌else◌}
use Rattle.qs_memory.specs.declared.scalar.Scalar.{Scalar}
use Rattle.qs_memory.specs.declared.operation.BinaryOperation.{BinaryOperation}
use Rattle.qs_calls.specs.declared.callee.Callee.{Callee}
use Rattle.qs_core.specs.Trees.{CoreExprTree, CoreStmtTree}
use Rattle.qs_core.specs.Trees as core
use Rattle.qs_core.specs.Sizes.{taken_words, all_taken_words, address_words, stmt_words}
use Rattle.qs_meaning.specs.Typed.{Conversion, unchanged, Order}
use Rattle.qs_elaborate_bodies.specs.Literals.{is_literal, converted_core}
use Rattle.qs_elaborate_bodies.specs.Parts.{Temporaries, next_number, keep, Valued, Listed, in_temporary, saved, saved_if, joined, before, Location, plain, pointed, Located, with_saved_address, address_saved_if, value_at, value_read, written}
use Rattle.qs_elaborate_bodies.specs.Expressions.{operation_core, updated_core, step_amount, ValuedAll, argument_before, call_valued, call_listed, branch_with, truth_core, truth_literal, and_branching, or_branching, choice_branching, choice_joined, Written, set_core, update_core, write_discarded, write_at, write_valued, step_valued, copied}
use Rattle.qs_elaborate_laws.proofs.WordFacts.{computed, tested_words, read_small, address_small, tested_small, assigned_small, converted_taken, operation_computed, operation_address, updated_taken, list_words, words-append, words_one}

-- an expression of so many nodes; its value computed once, and twice
pub record Few (v : Valued) (n : ℕ) : Type 0 where
  pub once : list_words v.statements + computed v.value + 13 ≤ 24 * n
  pub twice : list_words v.statements + 2 * computed v.value + 8 ≤ 24 * n

-- its value is an operand as it stands
pub operand_few : (v : Valued) (n : ℕ) → computed v.value ≡ 0 → list_words v.statements + 13 ≤ 24 * n → Few v n
operand_few v n e h = record { once = omega arith; twice = omega arith }

-- one that is an address, with an operand of `*` counted
pub record Reached (v : Valued) (n : ℕ) : Type 0 where
  pub saved_once : list_words v.statements + computed v.value + 16 ≤ 24 * n
  pub once : list_words v.statements + address_words v.value + 19 ≤ 24 * n
  pub twice : list_words v.statements + 2 * address_words v.value + 12 ≤ 24 * n

pub either_few : (z : Bool) (g j : Valued) (n : ℕ) → Few g n → Few j n → Few (if z then g else j) n
either_few true g j n h k = h
either_few false g j n h k = k

pub below_star : (v : Valued) (n : ℕ) → Few v n → Reached v (n + 1)
below_star v n h =
    let a = address_small v.value in record { saved_once = omega (arith, h.once); once = omega (arith, h.once); twice = omega (arith, h.twice) }

-- ---- operands, saved or not

pub record Kept (v : Valued) (n : ℕ) : Type 0 where
  pub once : list_words v.statements + computed v.value + 7 ≤ 24 * n
  pub twice : list_words v.statements + 2 * computed v.value + 7 ≤ 24 * n

as_it_is : (v : Valued) (n : ℕ) → Few v n → Kept v n
as_it_is v n h = record { once = omega (arith, h.once); twice = omega (arith, h.twice) }

pub temporary_words : (v : Valued) → list_words (in_temporary v).statements ≤ list_words v.statements + computed v.value + 6
temporary_words v = omega (arith, words-append v.statements (keep (next_number v.temporaries) v.value ∷ []), assigned_small v.value, read_small v.value)

temporary_kept : (v : Valued) (n : ℕ) → Few v n → Kept (in_temporary v) n
temporary_kept v n h = let w = temporary_words v in record { once = omega (arith, h.once); twice = omega (arith, h.once) }

literal_or : (z : Bool) (v : Valued) (n : ℕ) → Few v n → Kept (if z then v else in_temporary v) n
literal_or true v n h = as_it_is v n h
literal_or false v n h = temporary_kept v n h

pub saved_kept : (v : Valued) (n : ℕ) → Few v n → Kept (saved v) n
saved_kept v n h = literal_or (is_literal v.value) v n h

pub saved_if_kept : (z : Bool) (v : Valued) (n : ℕ) → Few v n → Kept (saved_if z v) n
saved_if_kept true v n h = saved_kept v n h
saved_if_kept false v n h = as_it_is v n h

-- ---- operators

pub operation_few :
    (op : BinaryOperation) (order : Order) (left right : Conversion) (a b : Valued) (m n : ℕ)
    → Kept a m → Few b n → Few (joined (operation_core op order left right) a b) (1 + m + n)
operation_few op order left right a b m n h k =
    let w = words-append a.statements b.statements in
    let o = operation_computed op order left right a.value b.value in
    record { once = omega (arith, w, o, h.once, k.once); twice = omega (arith, w, o, h.twice, k.twice) }

pub operation_reached :
    (op : BinaryOperation) (order : Order) (left right : Conversion) (a b : Valued) (m n : ℕ)
    → Kept a m → Few b n → Reached (joined (operation_core op order left right) a b) (1 + m + n)
operation_reached op order left right a b m n h k =
    let w = words-append a.statements b.statements in
    let o = operation_computed op order left right a.value b.value in
    let p = operation_address op order left right a.value b.value in
    record { saved_once = omega (arith, w, o, h.once, k.once); once = omega (arith, w, p, h.once, k.once); twice = omega (arith, w, p, h.twice, k.twice) }

pub logical_few :
    (f : CoreExprTree → CoreExprTree → CoreExprTree) (a b : Valued) (m n : ℕ)
    → computed (f a.value b.value) ≡ tested_words a.value + tested_words b.value + 5 → Few a m → Few b n → Few (joined f a b) (1 + m + n)
logical_few f a b m n e h k =
    let w = words-append a.statements b.statements in
    let p = tested_small a.value in
    let q = tested_small b.value in
    record { once = omega (arith, w, p, q, h.once, k.once); twice = omega (arith, w, p, q, h.twice, k.twice) }

branch_words : (ss : List CoreStmtTree) (k : ℕ) (e : CoreExprTree) → stmt_words (branch_with ss k e) ≤ list_words ss + taken_words e + 3
branch_words ss k e = omega (arith, words_one (ss ++ keep k e ∷ []), words-append ss (keep k e ∷ []), assigned_small e)

-- the list of a first operand, and an If
branching : (c : Valued) (p q : CoreStmtTree) → list_words (c.statements ++ core.branch c.value p q ∷ []) ≤ list_words c.statements + computed c.value + 7 + stmt_words p + stmt_words q
branching c p q = omega (arith, words-append c.statements (core.branch c.value p q ∷ []), tested_small c.value)

pub and_few : (a b : Valued) (m n : ℕ) → Few a m → Few b n → Few (and_branching a b) (1 + m + n)
and_few a b m n h k =
    let t = next_number b.temporaries in
    let p = branch_with b.statements t (truth_core b.value) in
    let q = branch_with [] t (truth_literal 0) in
    operand_few (and_branching a b) (1 + m + n) refl
    (omega (arith, branching a p q, branch_words b.statements t (truth_core b.value), branch_words [] t (truth_literal 0), read_small b.value, h.once, k.once))

pub or_few : (a b : Valued) (m n : ℕ) → Few a m → Few b n → Few (or_branching a b) (1 + m + n)
or_few a b m n h k =
    let t = next_number a.temporaries in
    let p = branch_with [] t (truth_literal 1) in
    let q = branch_with b.statements t (truth_core b.value) in
    operand_few (or_branching a b) (1 + m + n) refl
    (omega (arith, branching a p q, branch_words b.statements t (truth_core b.value), branch_words [] t (truth_literal 1), read_small b.value, h.once, k.once))

pub choice_few :
    (s : Scalar) (second third : Conversion) (c a b : Valued) (l m n : ℕ) → Few c l → Few a m → Few b n → Few (choice_branching s second third c a b) (1 + l + m + n)
choice_few s second third c a b l m n g h k =
    let t = next_number a.temporaries in
    let x = converted_core second a.value in
    let y = converted_core third b.value in
    operand_few (choice_branching s second third c a b) (1 + l + m + n) refl
    (omega (arith, branching c (branch_with a.statements t x) (branch_with b.statements t y), branch_words a.statements t x, branch_words b.statements t y, converted_taken second a.value, converted_taken third b.value, g.once, h.once, k.once))

pub choice_joined_few :
    (second third : Conversion) (c a b : Valued) (l m n : ℕ) → Few c l → Few a m → Few b n → Few (choice_joined second third c a b) (1 + l + m + n)
choice_joined_few second third c a b l m n g h k =
    let w = words-append c.statements (a.statements ++ b.statements) in
    let v = words-append a.statements b.statements in
    let x = converted_taken second a.value in
    let y = converted_taken third b.value in
    let t = tested_small c.value in
    record { once = omega (arith, w, v, x, y, t, g.once, h.once, k.once); twice = omega (arith, w, v, x, y, t, g.twice, h.twice, k.twice) }

-- ---- calls

-- with a word to spare for each, where it goes on the stack
abbrev pub AllFew : ValuedAll → (n : ℕ) → Type 0
AllFew v n = list_words v.statements + all_taken_words v.values + length v.values ≤ 24 * n

pub argument_few : (c : Conversion) (a : Valued) (rest : ValuedAll) (m n : ℕ) → Kept a m → AllFew rest n → AllFew (argument_before c a rest) (m + n)
argument_few c a rest m n h k =
    omega (arith, words-append a.statements rest.statements, converted_taken c a.value, h.once, k)

pub call_few : (s : Scalar) (f : Callee) (given : ValuedAll) (n : ℕ) → AllFew given n → Few (call_valued s f given) (1 + n)
call_few s f given n h =
    operand_few (call_valued s f given) (1 + n) refl (omega (arith, words-append given.statements (core.call (Some (next_number given.temporaries)) f given.values ∷ []), h))

-- ---- lists

abbrev pub ListFew : Listed → (n : ℕ) → Type 0
ListFew a n = list_words a.statements ≤ 24 * n

pub call_listed_few : (f : Callee) (given : ValuedAll) (n : ℕ) → AllFew given n → ListFew (call_listed f given) (1 + n)
call_listed_few f given n h = omega (arith, words-append given.statements (core.call None f given.values ∷ []), h)

pub behind_few : (a : Listed) (b : Valued) (m n : ℕ) → ListFew a m → Few b n → Few (before a b) (m + n)
behind_few a b m n h k =
    let w = words-append a.statements b.statements in record { once = omega (arith, w, h, k.once); twice = omega (arith, w, h, k.twice) }

-- ---- places

abbrev pub place_words : Location → ℕ
place_words (plain x) = 0
place_words (pointed a) = address_words a

abbrev pub place_saved : Location → ℕ
place_saved (plain x) = 0
place_saved (pointed a) = computed a

pub record LocatedFew (l : Located) (n : ℕ) : Type 0 where
  pub saved_once : list_words l.statements + place_saved l.location + 16 ≤ 24 * n
  pub once : list_words l.statements + place_words l.location + 19 ≤ 24 * n
  pub twice : list_words l.statements + 2 * place_words l.location + 12 ≤ 24 * n

read_computed : (s : Scalar) (x : Location) → computed (value_at s x) ≤ place_words x + 2
read_computed s (plain x) = omega arith
read_computed s (pointed a) = omega arith

pub read_few : (s : Scalar) (l : Located) (n : ℕ) → LocatedFew l n → Few (value_read s l) n
read_few s l n h = let r = read_computed s l.location in record { once = omega (arith, r, h.once); twice = omega (arith, r, h.twice) }

abbrev pub PlaceKept : (l : Located) → (n : ℕ) → Type 0
PlaceKept l n = list_words l.statements + place_words l.location + 4 ≤ 24 * n

literal_place : (z : Bool) (v : Valued) (m : ℕ) → list_words v.statements + computed v.value + 16 ≤ m → list_words v.statements + address_words v.value + 4 ≤ m → list_words (if z then v else in_temporary v).statements + address_words (if z then v else in_temporary v).value + 4 ≤ m
literal_place true v m h k = k
literal_place false v m h k = let w = temporary_words v in omega arith

saved_place : (ss : List CoreStmtTree) (x : Location) (ts : Temporaries) (n : ℕ) → list_words ss + place_saved x + 16 ≤ 24 * n → list_words ss + place_words x + 19 ≤ 24 * n → PlaceKept (with_saved_address ss x ts) n
saved_place ss (plain x) ts n h k = omega arith
saved_place ss (pointed a) ts n h k = literal_place (is_literal a) (record { statements = ss; value = a; temporaries = ts }) (24 * n) h (omega arith)

pub place_kept : (z : Bool) (l : Located) (n : ℕ) → LocatedFew l n → PlaceKept (address_saved_if z l) n
place_kept true l n h = saved_place l.statements l.location l.temporaries n h.saved_once h.once
place_kept false l n h = omega (arith, h.once)

-- ---- what is written: where its value is used, and where it is discarded

pub record WrittenFew (w : Written) (n : ℕ) : Type 0 where
  pub used : list_words w.statements + taken_words w.value + place_words w.location + 20 ≤ 24 * n
  pub thrown : list_words w.statements + taken_words w.value + place_words w.location + 3 ≤ 24 * n

pub set_few : (s : Scalar) (c : Conversion) (l : Located) (a : Valued) (m n : ℕ) → PlaceKept l m → Few a n → WrittenFew (set_core s c l a) (1 + m + n)
set_few s c l a m n h k =
    let w = words-append l.statements a.statements in
    let x = converted_taken c a.value in
    record { used = omega (arith, w, x, h, k.once); thrown = omega (arith, w, x, h, k.once) }

-- an operand of `op=` behind which nothing is saved
abbrev pub OperandFew : (c : Conversion) → (v : Valued) → (n : ℕ) → Type 0
OperandFew c v n = list_words v.statements + taken_words (converted_core c v.value) ≤ 24 * n + 2

quiet_by :
    (s : Scalar) (op : BinaryOperation) (left right back : Conversion) (ss : List CoreStmtTree) (x : Location) (ts : Temporaries) (a : Valued) (m n : ℕ)
    → list_words ss + 2 * place_words x + 12 ≤ 24 * m → 1 ≤ m → OperandFew right a n
    → WrittenFew (update_core s op left right back x (value_read s (record { statements = ss; location = x; temporaries = ts })) a) (1 + m + n)
quiet_by s op left right back ss (plain x) ts a m n h i k =
    let w = words-append ss a.statements in
    let u = updated_taken op left right back (core.variable s x) a.value in
    record { used = omega (arith, w, u, k); thrown = omega (arith, w, u, k) }
quiet_by s op left right back ss (pointed p) ts a m n h i k =
    let w = words-append ss a.statements in
    let u = updated_taken op left right back (core.load s p) a.value in
    record { used = omega (arith, w, u, k); thrown = omega (arith, w, u, k) }

-- one behind which something acts: the place is saved, and what stands there
acting_few :
    (s : Scalar) (op : BinaryOperation) (left right back : Conversion) (x : Location) (old a : Valued) (m n : ℕ)
    → place_words x ≤ 3 → computed old.value ≡ 0 → list_words old.statements + 3 ≤ 24 * m → Few a n → WrittenFew (update_core s op left right back x old a) (1 + m + n)
acting_few s op left right back x old a m n p o h k =
    let w = words-append old.statements a.statements in
    let u = updated_taken op left right back old.value a.value in
    let r = converted_taken right a.value in
    record { used = omega (arith, w, u, r, k.once); thrown = omega (arith, w, u, r, k.once) }

-- a place that is saved is in a temporary, or a literal
literal_ready : (z : Bool) (v : Valued) → (z ≡ true → address_words v.value ≤ 3) → address_words (if z then v else in_temporary v).value ≤ 3
literal_ready true v h = h refl
literal_ready false v h = omega arith

literal_address : (e : CoreExprTree) → is_literal e ≡ true → address_words e ≤ 3
literal_address (core.literal s n) h = omega arith
literal_address core.null_pointer h = omega arith
literal_address _ h = absurd (cc)

ready_place : (ss : List CoreStmtTree) (x : Location) (ts : Temporaries) → place_words (with_saved_address ss x ts).location ≤ 3
ready_place ss (plain x) ts = omega arith
ready_place ss (pointed a) ts = literal_ready (is_literal a) (record { statements = ss; value = a; temporaries = ts }) (literal_address a)

literal_listed : (z : Bool) (v : Valued) (m : ℕ) → list_words v.statements + computed v.value + 16 ≤ m → list_words (if z then v else in_temporary v).statements + 10 ≤ m
literal_listed true v m h = omega arith
literal_listed false v m h = let w = temporary_words v in omega arith

saved_listed : (ss : List CoreStmtTree) (x : Location) (ts : Temporaries) (m : ℕ) → list_words ss + place_saved x + 16 ≤ m → list_words (with_saved_address ss x ts).statements + 10 ≤ m
saved_listed ss (plain x) ts m h = omega arith
saved_listed ss (pointed a) ts m h = literal_listed (is_literal a) (record { statements = ss; value = a; temporaries = ts }) m h

-- what stands there is in a temporary then
old_computed : (s : Scalar) (ss : List CoreStmtTree) (x : Location) (ts : Temporaries) → computed (saved (value_read s (record { statements = ss; location = x; temporaries = ts }))).value ≡ 0
old_computed s ss (plain x) ts = refl
old_computed s ss (pointed a) ts = refl

old_listed :
    (s : Scalar) (ss : List CoreStmtTree) (x : Location) (ts : Temporaries) → place_words x ≤ 3
    → list_words (saved (value_read s (record { statements = ss; location = x; temporaries = ts }))).statements ≤ list_words ss + 7
old_listed s ss (plain x) ts h = omega (arith, words-append ss (keep (next_number ts) (core.variable s x) ∷ []))
old_listed s ss (pointed a) ts h = omega (arith, words-append ss (keep (next_number ts) (core.load s a) ∷ []))

some_place : (l : Located) (n : ℕ) → LocatedFew l n → 1 ≤ n
some_place l n h = omega (arith, h.once)

pub update_few :
    (z : Bool) (s : Scalar) (op : BinaryOperation) (left right back : Conversion) (l : Located) (e : Temporaries → Valued) (m n o : ℕ)
    → LocatedFew l m → ((ts : Temporaries) → Few (e ts) n) → ((ts : Temporaries) → OperandFew right (e ts) o) → (z ≡ true → n ≤ o)
    → let at = address_saved_if z l in
    let old = saved_if z (value_read s at) in
    WrittenFew (update_core s op left right back at.location old (e old.temporaries)) (1 + m + o)
update_few false s op left right back l e m n o h k q i =
    quiet_by s op left right back l.statements l.location l.temporaries (e l.temporaries) m o h.twice (some_place l m h) (q l.temporaries)
update_few true s op left right back l e m n o h k q i =
    let at = with_saved_address l.statements l.location l.temporaries in
    let p = saved_listed l.statements l.location l.temporaries (24 * m) h.saved_once in
    let r = ready_place l.statements l.location l.temporaries in
    let old = saved (value_read s at) in
    let w = old_listed s at.statements at.location at.temporaries r in
    let b = i refl in
    let g = k old.temporaries in
    acting_few s op left right back at.location old (e old.temporaries) m o r (old_computed s at.statements at.location at.temporaries) (omega arith)
    (record { once = omega (arith, g.once); twice = omega (arith, g.twice) })

-- ---- writes

write_by :
    (s : Scalar) (x : Location) (ss : List CoreStmtTree) (b : CoreExprTree) (ts : Temporaries) (n : ℕ)
    → list_words ss + taken_words b + place_words x + 20 ≤ 24 * n → Few (write_at s x ss b ts) n
write_by s (plain x) ss b ts n h = operand_few (write_at s (plain x) ss b ts) n refl (omega (arith, words-append ss (written s (plain x) b ∷ []), assigned_small b))
write_by s (pointed a) ss b ts n h =
    operand_few (write_at s (pointed a) ss b ts) n refl (omega (arith, words-append ss (keep (next_number ts) b ∷ written s (pointed a) (core.temporary s (next_number ts)) ∷ []), assigned_small b))

pub write_valued_few : (w : Written) (n : ℕ) → WrittenFew w n → Few (write_valued w) n
write_valued_few w n h = write_by w.scalar w.location w.statements w.value w.temporaries n h.used

written_words : (s : Scalar) (x : Location) (b : CoreExprTree) → stmt_words (written s x b) ≤ taken_words b + place_words x + 3
written_words s (plain x) b = omega (arith, assigned_small b)
written_words s (pointed a) b = omega arith

pub write_discarded_few : (w : Written) (n : ℕ) → list_words w.statements + taken_words w.value + place_words w.location + 3 ≤ 24 * n → ListFew (write_discarded w) n
write_discarded_few w n h = omega (arith, words-append w.statements (written w.scalar w.location w.value ∷ []), written_words w.scalar w.location w.value)

step_by :
    (s : Scalar) (op : BinaryOperation) (left back : Conversion) (ss : List CoreStmtTree) (x : Location) (ts : Temporaries) (n : ℕ)
    → list_words ss + 2 * place_words x + 12 ≤ 24 * n → Few (step_valued s op left back (record { statements = ss; location = x; temporaries = ts })) (1 + n)
step_by s op left back ss (plain x) ts n h =
    let k = next_number ts in
    let b = updated_core op left unchanged back (core.temporary s k) (step_amount op) in
    operand_few (step_valued s op left back (record { statements = ss; location = plain x; temporaries = ts })) (1 + n) refl
    (omega (arith, words-append ss (keep k (core.variable s x) ∷ written s (plain x) b ∷ []), assigned_small b, updated_taken op left unchanged back (core.temporary s k) (step_amount op)))
step_by s op left back ss (pointed a) ts n h =
    let k = next_number ts in
    let b = updated_core op left unchanged back (core.temporary s k) (step_amount op) in
    operand_few (step_valued s op left back (record { statements = ss; location = pointed a; temporaries = ts })) (1 + n) refl
    (omega (arith, words-append ss (keep k (core.load s a) ∷ written s (pointed a) b ∷ []), updated_taken op left unchanged back (core.temporary s k) (step_amount op)))

pub step_few : (s : Scalar) (op : BinaryOperation) (left back : Conversion) (l : Located) (n : ℕ) → LocatedFew l n → Few (step_valued s op left back l) (1 + n)
step_few s op left back l n h = step_by s op left back l.statements l.location l.temporaries n h.twice

-- ---- a place that may count nothing: that of a declaration

-- what a write takes beside its value and one word
abbrev pub aimed_words : Location → ℕ
aimed_words (plain x) = 2
aimed_words (pointed a) = address_words a

written_aimed : (s : Scalar) (x : Location) (b : CoreExprTree) → stmt_words (written s x b) ≤ taken_words b + aimed_words x + 1
written_aimed s (plain x) b = omega (arith, assigned_small b)
written_aimed s (pointed a) b = omega arith

aimed_small : (x : Location) → aimed_words x ≤ place_words x + 2
aimed_small (plain x) = omega arith
aimed_small (pointed a) = omega arith

abbrev pub AimedAt : (l : Located) → (n : ℕ) → Type 0
AimedAt l n = list_words l.statements + aimed_words l.location ≤ 24 * n + 9

pub kept_aimed_at : (l : Located) (n : ℕ) → PlaceKept l n → AimedAt l n
kept_aimed_at l n h = omega (arith, aimed_small l.location)

pub discarded_set_few : (s : Scalar) (c : Conversion) (l : Located) (a : Valued) (m n : ℕ) → AimedAt l m → Few a n → ListFew (write_discarded (set_core s c l a)) (m + n)
discarded_set_few s c l a m n h k =
    let b = converted_core c a.value in
    let w = words-append l.statements a.statements in
    let v = words-append (l.statements ++ a.statements) (written s l.location b ∷ []) in
    omega (arith, w, v, written_aimed s l.location b, converted_taken c a.value, h, k.once)

abbrev pub Aimed : (v : Valued) → (n : ℕ) → Type 0
Aimed v n = list_words v.statements + address_words v.value ≤ 24 * n + 9

pub copied_few : (size alignment : ℕ) (a b : Valued) (m n : ℕ) → Aimed a m → Reached b n → ListFew (copied size alignment a b) (m + n)
copied_few size alignment a b m n h k =
    omega (arith, words-append (a.statements ++ b.statements) (core.copy size alignment a.value b.value ∷ []), words-append a.statements b.statements, h, k.once)
