-- What operands, conversions, operations and lists of statements count among the words of a function.
use Rattle.std.proofs.Common.{◌≡◌, ◌≤◌, ℕ, ◌+◌, Bool, true, false, List, [], ◌∷◌, ◌++◌, Option, Some, None, refl, arith, if◌then◌else◌}
use Rattle.qs_memory.specs.declared.scalar.Scalar.{Scalar}
use Rattle.qs_memory.specs.declared.operation.BinaryOperation.{BinaryOperation}
use Rattle.qs_memory.specs.declared.operation.BinaryOperation.TheVariants as binaries
use Rattle.qs_memory.specs.Partial.{◌>>=◌}
use Rattle.qs_memory.specs.Values.{Value, integer, address, convert}
use Rattle.qs_core.specs.Trees.{CoreExprTree, literal, null_pointer, variable, temporary, address_of, load, member, unary, binary, conversion, logical_and, logical_or, conditional, CoreStmtTree, stmts_of}
use Rattle.qs_core.specs.Sizes.{is_operand, is_block, read_words, operation_words, as_operand, as_address, as_condition, as_assigned, converted_words, base_words, use_of, taken_words, address_words, assigned_words, stmt_words, stmts_words}
use Rattle.qs_meaning.specs.Typed.{Conversion, unchanged, converted, Order, as_written, exchanged}
use Rattle.qs_elaborate_bodies.specs.Literals.{literal_value, literal_of, folded, converted_core}
use Rattle.qs_elaborate_bodies.specs.Parts.{one_statement}
use Rattle.qs_elaborate_bodies.specs.Expressions.{operation_core, updated_core}

-- the words that compute an operand
abbrev pub computed : CoreExprTree → ℕ
computed e = use_of e as_operand

abbrev pub tested_words : CoreExprTree → ℕ
tested_words e = use_of e as_condition

pub read_small : (e : CoreExprTree) → read_words e ≤ 3
read_small (literal s n) = omega arith
read_small null_pointer = omega arith
read_small (variable s x) = omega arith
read_small (temporary s k) = omega arith
read_small (address_of b) = omega arith
read_small (load s a) = omega arith
read_small (member offset a) = omega arith
read_small (unary op a) = omega arith
read_small (binary op a b) = omega arith
read_small (conversion s a) = read_small a
read_small (logical_and a b) = omega arith
read_small (logical_or a b) = omega arith
read_small (conditional c a b) = omega arith

-- an operand is read in at most three words, and any other value in one
by_operand : (e : CoreExprTree) (z : Bool) → is_operand e ≡ z → read_words e ≤ (if z then 3 else 1)
by_operand (literal s n) true h = omega arith
by_operand (literal s n) false h = cc
by_operand null_pointer true h = omega arith
by_operand null_pointer false h = cc
by_operand (variable s x) true h = omega arith
by_operand (variable s x) false h = cc
by_operand (temporary s k) true h = omega arith
by_operand (temporary s k) false h = cc
by_operand (address_of b) true h = omega arith
by_operand (address_of b) false h = cc
by_operand (load s a) true h = omega arith
by_operand (load s a) false h = omega arith
by_operand (member offset a) true h = omega arith
by_operand (member offset a) false h = omega arith
by_operand (unary op a) true h = omega arith
by_operand (unary op a) false h = omega arith
by_operand (binary op a b) true h = omega arith
by_operand (binary op a b) false h = omega arith
by_operand (conversion s a) z h = by_operand a z h
by_operand (logical_and a b) true h = omega arith
by_operand (logical_and a b) false h = omega arith
by_operand (logical_or a b) true h = omega arith
by_operand (logical_or a b) false h = omega arith
by_operand (conditional c a b) true h = omega arith
by_operand (conditional c a b) false h = omega arith

-- ---- as an address, and as a condition

-- a conversion, by its operand
converted_address : (z : Bool) (c r : ℕ) → r ≤ (if z then 3 else 1) → converted_words z c r as_address ≤ converted_words z c r as_operand + 3
converted_address true c r h = omega arith
converted_address false c r h = omega arith

pub address_small : (e : CoreExprTree) → address_words e ≤ computed e + 3
address_small (literal s n) = omega arith
address_small null_pointer = omega arith
address_small (variable s x) = omega arith
address_small (temporary s k) = omega arith
address_small (address_of b) = omega arith
address_small (load s a) = omega arith
address_small (member offset a) = omega arith
address_small (unary op a) = omega arith
address_small (binary op a b) = omega arith
address_small (conversion s a) = converted_address (is_operand a) (computed a) (read_words a) (by_operand a (is_operand a) refl)
address_small (logical_and a b) = omega arith
address_small (logical_or a b) = omega arith
address_small (conditional c a b) = omega arith

converted_tested : (z : Bool) (c r : ℕ) → r ≤ (if z then 3 else 1) → converted_words z c r as_condition ≤ converted_words z c r as_operand + 5
converted_tested true c r h = omega arith
converted_tested false c r h = omega arith

pub tested_small : (e : CoreExprTree) → tested_words e ≤ computed e + 5
tested_small (literal s n) = omega arith
tested_small null_pointer = omega arith
tested_small (variable s x) = omega arith
tested_small (temporary s k) = omega arith
tested_small (address_of b) = omega arith
tested_small (load s a) = omega arith
tested_small (member offset a) = omega arith
tested_small (unary op a) = omega arith
tested_small (binary op a b) = omega arith
tested_small (conversion s a) = converted_tested (is_operand a) (computed a) (read_words a) (by_operand a (is_operand a) refl)
tested_small (logical_and a b) = omega arith
tested_small (logical_or a b) = omega arith
tested_small (conditional c a b) = omega arith

converted_assigned : (z : Bool) (c r : ℕ) → converted_words z c r as_assigned ≤ converted_words z c r as_operand + r + 3
converted_assigned true c r = omega arith
converted_assigned false c r = omega arith

-- an assigned value takes no more than one that is computed, read and put in its place
pub assigned_small : (e : CoreExprTree) → assigned_words e ≤ computed e + read_words e + 3
assigned_small (literal s n) = omega arith
assigned_small null_pointer = omega arith
assigned_small (variable s x) = omega arith
assigned_small (temporary s k) = omega arith
assigned_small (address_of b) = omega arith
assigned_small (load s a) = omega arith
assigned_small (member offset a) = omega arith
assigned_small (unary op a) = omega arith
assigned_small (binary op a b) = omega arith
assigned_small (conversion s a) = converted_assigned (is_operand a) (computed a) (read_words a)
assigned_small (logical_and a b) = omega arith
assigned_small (logical_or a b) = omega arith
assigned_small (conditional c a b) = omega arith

-- the address of a member takes its base
base_within : (z : Bool) (n : ℕ) → 1 ≤ n → base_words z n ≤ n + 2
base_within true n h = omega arith
base_within false n h = omega arith

some_read : (e : CoreExprTree) → 1 ≤ read_words e
some_read (literal s n) = omega arith
some_read null_pointer = omega arith
some_read (variable s x) = omega arith
some_read (temporary s k) = omega arith
some_read (address_of b) = omega arith
some_read (load s a) = omega arith
some_read (member offset a) = omega arith
some_read (unary op a) = omega arith
some_read (binary op a b) = omega arith
some_read (conversion s a) = some_read a
some_read (logical_and a b) = omega arith
some_read (logical_or a b) = omega arith
some_read (conditional c a b) = omega arith

pub member_computed : (offset : ℕ) (a : CoreExprTree) → computed (member offset a) ≤ computed a + 7
member_computed offset a =
    omega (arith, base_within (is_block a) (computed a + read_words a) (omega (arith, some_read a)), read_small a)

pub member_reached : (offset : ℕ) (a : CoreExprTree) → address_words (member offset a) ≤ computed a + 5
member_reached offset a =
    omega (arith, base_within (is_block a) (computed a + read_words a) (omega (arith, some_read a)), read_small a)

-- ---- conversions

literal_computed : (s : Scalar) (x : Value) → computed (literal_of s x) ≡ 0
literal_computed s (integer n) = refl
literal_computed s (address p) = refl

literal_read : (s : Scalar) (x : Value) → read_words (literal_of s x) ≡ 2
literal_read s (integer n) = refl
literal_read s (address p) = refl

-- a converted value takes no more than three words beside what computes it, read as it is or converted
pub conversion_taken : (to : Scalar) (a : CoreExprTree) → taken_words (conversion to a) ≤ computed a + 3
conversion_taken to a = by (is_operand a) (by_operand a (is_operand a) refl)
  where
    by : (z : Bool) → read_words a ≤ (if z then 3 else 1) → converted_words z (computed a) (read_words a) as_operand + read_words a ≤ computed a + 3
    by true h = omega arith
    by false h = omega arith

folded_taken : (to : Scalar) (a : CoreExprTree) (x : Option Value) → taken_words (folded to a x) ≤ computed a + 3
folded_taken to a None = conversion_taken to a
folded_taken to a (Some x) = omega (arith, literal_computed to x, literal_read to x)

pub converted_taken : (c : Conversion) (a : CoreExprTree) → taken_words (converted_core c a) ≤ computed a + 3
converted_taken unchanged a = omega (arith, read_small a)
converted_taken (converted from to) a = folded_taken to a (literal_value a >>= convert to)

-- a constant is read in two words, converted or not
pub constant_taken : (c : Conversion) (s : Scalar) (n : ℕ) → taken_words (converted_core c (literal s n)) ≤ 2
constant_taken unchanged s n = omega arith
constant_taken (converted from to) s n = by (convert to (integer n))
  where
    by : (x : Option Value) → taken_words (folded to (literal s n) x) ≤ 2
    by None = omega arith
    by (Some v) = omega (arith, literal_computed to v, literal_read to v)

-- a cast
folded_computed : (to : Scalar) (a : CoreExprTree) (x : Option Value) → computed (folded to a x) ≤ computed a + 2
folded_computed to a None = by (is_operand a) (by_operand a (is_operand a) refl)
  where
    by : (z : Bool) → read_words a ≤ (if z then 3 else 1) → converted_words z (computed a) (read_words a) as_operand ≤ computed a + 2
    by true h = omega arith
    by false h = omega arith
folded_computed to a (Some x) = omega (arith, literal_computed to x)

pub converted_computed : (c : Conversion) (a : CoreExprTree) → computed (converted_core c a) ≤ computed a + 2
converted_computed unchanged a = omega arith
converted_computed (converted from to) a = folded_computed to a (literal_value a >>= convert to)

-- ---- operations

five_at_most : (op : BinaryOperation) → operation_words op ≤ 5
five_at_most (binaries.Arithmetic op s) = omega arith
five_at_most (binaries.Compare op s) = omega arith
five_at_most (binaries.Move direction s element) = omega arith
five_at_most (binaries.Difference element) = omega arith
five_at_most (binaries.ComparePointers op) = omega arith

pub operation_computed :
    (op : BinaryOperation) (order : Order) (left right : Conversion) (a b : CoreExprTree)
    → computed (operation_core op order left right a b) ≤ computed a + computed b + 12
operation_computed op as_written left right a b = omega (arith, five_at_most op, converted_taken left a, converted_taken right b)
operation_computed op exchanged left right a b = omega (arith, five_at_most op, converted_taken left a, converted_taken right b)

pub operation_address :
    (op : BinaryOperation) (order : Order) (left right : Conversion) (a b : CoreExprTree)
    → address_words (operation_core op order left right a b) ≤ computed a + computed b + 13
operation_address op as_written left right a b = omega (arith, five_at_most op, converted_taken left a, converted_taken right b)
operation_address op exchanged left right a b = omega (arith, five_at_most op, converted_taken left a, converted_taken right b)

-- what `op=` writes, computed and read
pub updated_taken :
    (op : BinaryOperation) (left right back : Conversion) (a b : CoreExprTree)
    → taken_words (updated_core op left right back a b) ≤ computed a + 3 + taken_words (converted_core right b) + 9
updated_taken op left right back a b =
    let o = operation_core op as_written left right a b in
    omega (arith, five_at_most op, converted_taken left a, converted_taken back o)

-- ---- lists of statements

abbrev pub list_words : List CoreStmtTree → ℕ
list_words ss = stmts_words (stmts_of ss)

pub words-append : (a b : List CoreStmtTree) → list_words (a ++ b) ≡ list_words a + list_words b
words-append [] b = omega arith
words-append (s ∷ a) b = let e = words-append a b in omega arith

pub words_one : (ss : List CoreStmtTree) → stmt_words (one_statement ss) ≡ list_words ss
words_one [] = refl
words_one (s ∷ []) = omega arith
words_one (s ∷ r ∷ rest) = refl
