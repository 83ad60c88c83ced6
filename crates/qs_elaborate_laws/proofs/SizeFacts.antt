-- What operands, conversions and lists of statements count among the values of a function.
use Rattle.std.proofs.Common.{◌≡◌, ◌≤◌, ℕ, ◌+◌, max, Bool, true, false, List, [], ◌∷◌, ◌++◌, Option, Some, None, length, refl, arith, length-append, if◌then◌else◌}
use Rattle.qs_memory.specs.declared.scalar.Scalar.{Scalar}
use Rattle.qs_memory.specs.declared.operation.BinaryOperation.{BinaryOperation}
use Rattle.qs_memory.specs.Partial.{◌>>=◌}
use Rattle.qs_memory.specs.Values.{Value, integer, address, convert}
use Rattle.qs_core.specs.Trees.{CoreExprTree, literal, null_pointer, variable, temporary, address_of, load, member, unary, binary, conversion, logical_and, logical_or, conditional, CoreStmtTree, stmts_of}
use Rattle.qs_core.specs.Sizes.{is_operand, own, parts_held, held, address_own, held_in, held_in_all}
use Rattle.qs_meaning.specs.Typed.{Conversion, unchanged, converted, Order, as_written, exchanged}
use Rattle.qs_elaborate_bodies.specs.Literals.{literal_value, is_literal, literal_of, folded, converted_core}
use Rattle.qs_elaborate_bodies.specs.Parts.{one_statement}
use Rattle.qs_elaborate_bodies.specs.Expressions.{operation_core, updated_core}

-- ---- operands

held_none : (z : Bool) (n : ℕ) → z ≡ true → (if z then 0 else n) ≡ 0
held_none true n h = refl
held_none false n h = cc

pub operand_parts : (e : CoreExprTree) → is_operand e ≡ true → parts_held e ≡ 0
operand_parts (literal s n) h = refl
operand_parts null_pointer h = refl
operand_parts (variable s x) h = refl
operand_parts (temporary s k) h = refl
operand_parts (address_of b) h = refl
operand_parts (load s a) h = cc
operand_parts (member offset a) h = cc
operand_parts (unary op a) h = cc
operand_parts (binary op a b) h = cc
operand_parts (conversion s a) h = held_none (is_operand a) _ h
operand_parts (logical_and a b) h = cc
operand_parts (logical_or a b) h = cc
operand_parts (conditional c a b) h = cc

pub operand_held : (e : CoreExprTree) → is_operand e ≡ true → held e ≡ 0
operand_held e h = held_none (is_operand e) _ h

pub operand_own : (e : CoreExprTree) → is_operand e ≡ true → own e ≡ 0
operand_own e h = held_none (is_operand e) 1 h

one_at_most : (z : Bool) → (if z then 0 else 1) ≤ 1
one_at_most true = omega arith
one_at_most false = omega arith

pub own_small : (e : CoreExprTree) → own e ≤ 1
own_small e = one_at_most (is_operand e)

own_below : (z : Bool) (n : ℕ) → (if z then 0 else 1) ≤ (if z then 0 else max 1 n)
own_below true n = omega arith
own_below false n = omega arith

pub own_held : (e : CoreExprTree) → own e ≤ held e
own_held e = own_below (is_operand e) (parts_held e)

-- an address holds two values of its own at most, and no more than it holds while it is made
pub address_small : (e : CoreExprTree) → address_own e ≤ held e
address_small e = omega arith

pub address_few : (e : CoreExprTree) → address_own e ≤ 2
address_few e = omega arith

pub own_address : (e : CoreExprTree) → own e ≤ address_own e
own_address e = omega (arith, own_small e, own_held e)

parts_below : (z : Bool) (n : ℕ) → (z ≡ true → n ≡ 0) → n ≤ (if z then 0 else max 1 n)
parts_below true n h = let e = h refl in omega arith
parts_below false n h = omega arith

pub parts_small : (e : CoreExprTree) → parts_held e ≤ held e
parts_small e = parts_below (is_operand e) (parts_held e) (operand_parts e)

held_above : (z : Bool) (n : ℕ) → (if z then 0 else max 1 n) ≤ max 1 n
held_above true n = omega arith
held_above false n = omega arith

-- what is no operand holds its own value
pub held_by_parts : (e : CoreExprTree) → held e ≤ max 1 (parts_held e)
held_by_parts e = held_above (is_operand e) (parts_held e)

pub literal_operand : (e : CoreExprTree) → is_literal e ≡ true → is_operand e ≡ true
literal_operand (literal s n) h = refl
literal_operand null_pointer h = refl
literal_operand (variable s x) h = refl
literal_operand (temporary s k) h = refl
literal_operand (address_of b) h = refl
literal_operand (load s a) h = cc
literal_operand (member offset a) h = cc
literal_operand (unary op a) h = cc
literal_operand (binary op a b) h = cc
literal_operand (conversion s a) h = cc
literal_operand (logical_and a b) h = cc
literal_operand (logical_or a b) h = cc
literal_operand (conditional c a b) h = cc

-- ---- conversions

pub literal_is_operand : (s : Scalar) (x : Value) → is_operand (literal_of s x) ≡ true
literal_is_operand s (integer n) = refl
literal_is_operand s (address p) = refl

-- a converted value counts no more
pub record Below (a b : CoreExprTree) : Type 0 where
  pub held_less : held a ≤ held b
  pub own_less : own a ≤ own b
  pub parts_less : parts_held a ≤ held b

max_held : (z : Bool) (n : ℕ) → (if z then 0 else max 1 (if z then 0 else max 1 n)) ≤ (if z then 0 else max 1 n)
max_held true n = omega arith
max_held false n = omega arith

itself_below : (a : CoreExprTree) → Below a a
itself_below a = record { held_less = omega arith; own_less = omega arith; parts_less = parts_small a }

conversion_below : (s : Scalar) (a : CoreExprTree) → Below (conversion s a) a
conversion_below s a = record { held_less = max_held (is_operand a) (parts_held a); own_less = omega arith; parts_less = omega arith }

operand_below : (a b : CoreExprTree) → is_operand a ≡ true → Below a b
operand_below a b h = record {
  held_less = let e = operand_held a h in omega arith;
  own_less = let e = operand_own a h in omega arith;
  parts_less = let e = operand_parts a h in omega arith;
}

folded_below : (to : Scalar) (a : CoreExprTree) (x : Option Value) → Below (folded to a x) a
folded_below to a None = conversion_below to a
folded_below to a (Some x) = operand_below (literal_of to x) a (literal_is_operand to x)

pub converted_below : (c : Conversion) (a : CoreExprTree) → Below (converted_core c a) a
converted_below unchanged a = itself_below a
converted_below (converted from to) a = folded_below to a (literal_value a >>= convert to)

-- ---- operations, whatever the order of the operands

-- the most that two operands hold, one behind the other
abbrev pub both_held : (a b : CoreExprTree) → ℕ
both_held a b = max (held a) (own a + held b)

pub operation_held :
    (op : BinaryOperation) (order : Order) (left right : Conversion) (a b : CoreExprTree)
    → held (operation_core op order left right a b) ≤ max 1 (max (both_held a b) (both_held b a))
operation_held op as_written left right a b =
    let p = converted_below left a in let q = converted_below right b in omega (arith, p.held_less, p.own_less, q.held_less)
operation_held op exchanged left right a b =
    let p = converted_below left a in let q = converted_below right b in omega (arith, p.held_less, q.own_less, q.held_less)

pub updated_held :
    (op : BinaryOperation) (left right back : Conversion) (a b : CoreExprTree) → held (updated_core op left right back a b) ≤ max 1 (both_held a b)
updated_held op left right back a b =
    let p = converted_below left a in
    let q = converted_below right b in
    let r = converted_below back (operation_core op as_written left right a b) in
    omega (arith, p.held_less, p.own_less, q.held_less, r.held_less)

-- ---- lists of statements

abbrev pub list_held : List CoreStmtTree → ℕ
list_held ss = held_in_all (stmts_of ss)

pub held-append : (a b : List CoreStmtTree) → list_held (a ++ b) ≡ max (list_held a) (list_held b)
held-append [] b = omega arith
held-append (s ∷ a) b = let e = held-append a b in omega arith

pub held_one : (ss : List CoreStmtTree) → held_in (one_statement ss) ≡ list_held ss
held_one [] = refl
held_one (s ∷ []) = omega arith
held_one (s ∷ r ∷ rest) = refl

pub one_more : (ts : List Scalar) (s : Scalar) → length (ts ++ s ∷ []) ≡ length ts + 1
one_more ts s = length-append ts (s ∷ [])
