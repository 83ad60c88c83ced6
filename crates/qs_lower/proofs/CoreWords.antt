-- How the counts of words of core stand to one another.
use Rattle.std.proofs.Common.{◌≡◌, ℕ, ◌+◌, ◌≤◌, Bool, true, false, refl, arith}
use Rattle.qs_core.specs.Trees as core
use Rattle.qs_core.specs.Trees.{CoreExprTree}
use Rattle.qs_core.specs.Sizes.{is_operand, read_words, as_operand, as_address, as_condition, as_assigned, is_block, converted_words, base_words, use_of, taken_words, address_words, assigned_words}

-- the words that test an expression
abbrev pub tested_words : CoreExprTree → ℕ
tested_words e = use_of e as_condition

pub some_read : (e : CoreExprTree) → 1 ≤ read_words e
some_read (core.literal s n) = omega arith
some_read core.null_pointer = omega arith
some_read (core.variable s x) = omega arith
some_read (core.temporary s k) = omega arith
some_read (core.address_of b) = omega arith
some_read (core.load s a) = omega arith
some_read (core.member offset a) = omega arith
some_read (core.unary op a) = omega arith
some_read (core.binary op a b) = omega arith
some_read (core.conversion s a) = some_read a
some_read (core.logical_and a b) = omega arith
some_read (core.logical_or a b) = omega arith
some_read (core.conditional c a b) = omega arith

pub few_read : (e : CoreExprTree) → read_words e ≤ 3
few_read (core.literal s n) = omega arith
few_read core.null_pointer = omega arith
few_read (core.variable s x) = omega arith
few_read (core.temporary s k) = omega arith
few_read (core.address_of b) = omega arith
few_read (core.load s a) = omega arith
few_read (core.member offset a) = omega arith
few_read (core.unary op a) = omega arith
few_read (core.binary op a b) = omega arith
few_read (core.conversion s a) = few_read a
few_read (core.logical_and a b) = omega arith
few_read (core.logical_or a b) = omega arith
few_read (core.conditional c a b) = omega arith

-- what is no operand is read from where it is held
pub held_read : (e : CoreExprTree) → is_operand e ≡ false → read_words e ≡ 1
held_read (core.literal s n) h = cc
held_read core.null_pointer h = cc
held_read (core.variable s x) h = cc
held_read (core.temporary s k) h = cc
held_read (core.address_of b) h = cc
held_read (core.load s a) h = refl
held_read (core.member offset a) h = refl
held_read (core.unary op a) h = refl
held_read (core.binary op a b) h = refl
held_read (core.conversion s a) h = held_read a h
held_read (core.logical_and a b) h = refl
held_read (core.logical_or a b) h = refl
held_read (core.conditional c a b) h = refl

some_base : (z : Bool) (n : ℕ) → 2 ≤ base_words z n
some_base true n = omega arith
some_base false n = omega arith

some_converted : (z : Bool) (c r : ℕ) → 2 ≤ c + r → 2 ≤ converted_words z c r as_operand + r
some_converted true c r h = omega arith
some_converted false c r h = omega arith

pub some_taken : (e : CoreExprTree) → 2 ≤ taken_words e
some_taken (core.literal s n) = omega arith
some_taken core.null_pointer = omega arith
some_taken (core.variable s x) = omega arith
some_taken (core.temporary s k) = omega arith
some_taken (core.address_of b) = omega arith
some_taken (core.load s a) = omega arith
some_taken (core.member offset a) = omega (arith, some_base (is_block a) (taken_words a))
some_taken (core.unary op a) = omega arith
some_taken (core.binary op a b) = omega arith
some_taken (core.conversion s a) = some_converted (is_operand a) (use_of a as_operand) (read_words a) (some_taken a)
some_taken (core.logical_and a b) = omega arith
some_taken (core.logical_or a b) = omega arith
some_taken (core.conditional c a b) = omega arith

converted_address : (z : Bool) (c r : ℕ) → 1 ≤ r → converted_words z c r as_address ≤ converted_words z c r as_operand + r
converted_address true c r h = omega arith
converted_address false c r h = omega arith

pub address_taken : (e : CoreExprTree) → address_words e ≤ taken_words e
address_taken (core.literal s n) = omega arith
address_taken core.null_pointer = omega arith
address_taken (core.variable s x) = omega arith
address_taken (core.temporary s k) = omega arith
address_taken (core.address_of b) = omega arith
address_taken (core.load s a) = omega arith
address_taken (core.member offset a) = omega arith
address_taken (core.unary op a) = omega arith
address_taken (core.binary op a b) = omega arith
address_taken (core.conversion s a) = converted_address (is_operand a) (use_of a as_operand) (read_words a) (some_read a)
address_taken (core.logical_and a b) = omega arith
address_taken (core.logical_or a b) = omega arith
address_taken (core.conditional c a b) = omega arith

converted_tested : (z : Bool) (c r : ℕ) → 1 ≤ r → converted_words z c r as_condition ≤ converted_words z c r as_operand + r + 2
converted_tested true c r h = omega arith
converted_tested false c r h = omega arith

pub tested_taken : (e : CoreExprTree) → tested_words e ≤ taken_words e + 2
tested_taken (core.literal s n) = omega arith
tested_taken core.null_pointer = omega arith
tested_taken (core.variable s x) = omega arith
tested_taken (core.temporary s k) = omega arith
tested_taken (core.address_of b) = omega arith
tested_taken (core.load s a) = omega arith
tested_taken (core.member offset a) = omega arith
tested_taken (core.unary op a) = omega arith
tested_taken (core.binary op a b) = omega arith
tested_taken (core.conversion s a) = converted_tested (is_operand a) (use_of a as_operand) (read_words a) (some_read a)
tested_taken (core.logical_and a b) = omega arith
tested_taken (core.logical_or a b) = omega arith
tested_taken (core.conditional c a b) = omega arith

tested_converted : (z : Bool) (c r : ℕ) → r ≤ 3 → converted_words z c r as_operand + r ≤ converted_words z c r as_condition + 6
tested_converted true c r h = omega arith
tested_converted false c r h = omega arith

pub taken_tested : (e : CoreExprTree) → taken_words e ≤ tested_words e + 6
taken_tested (core.literal s n) = omega arith
taken_tested core.null_pointer = omega arith
taken_tested (core.variable s x) = omega arith
taken_tested (core.temporary s k) = omega arith
taken_tested (core.address_of b) = omega arith
taken_tested (core.load s a) = omega arith
taken_tested (core.member offset a) = omega arith
taken_tested (core.unary op a) = omega arith
taken_tested (core.binary op a b) = omega arith
taken_tested (core.conversion s a) = tested_converted (is_operand a) (use_of a as_operand) (read_words a) (few_read a)
taken_tested (core.logical_and a b) = omega arith
taken_tested (core.logical_or a b) = omega arith
taken_tested (core.conditional c a b) = omega arith

some_tested_converted : (z : Bool) (c r : ℕ) → 2 ≤ c + r → 4 ≤ converted_words z c r as_condition
some_tested_converted true c r h = omega arith
some_tested_converted false c r h = omega arith

pub some_tested : (e : CoreExprTree) → 4 ≤ tested_words e
some_tested (core.literal s n) = omega arith
some_tested core.null_pointer = omega arith
some_tested (core.variable s x) = omega arith
some_tested (core.temporary s k) = omega arith
some_tested (core.address_of b) = omega arith
some_tested (core.load s a) = omega arith
some_tested (core.member offset a) = omega (arith, some_base (is_block a) (taken_words a))
some_tested (core.unary op a) = omega arith
some_tested (core.binary op a b) = omega arith
some_tested (core.conversion s a) = some_tested_converted (is_operand a) (use_of a as_operand) (read_words a) (some_taken a)
some_tested (core.logical_and a b) = omega (arith, some_tested a)
some_tested (core.logical_or a b) = omega (arith, some_tested a)
some_tested (core.conditional c a b) = omega arith

converted_assigned : (z : Bool) (c r : ℕ) → converted_words z c r as_assigned ≤ converted_words z c r as_operand + r + 3
converted_assigned true c r = omega arith
converted_assigned false c r = omega arith

pub assigned_taken : (e : CoreExprTree) → assigned_words e ≤ taken_words e + 3
assigned_taken (core.literal s n) = omega arith
assigned_taken core.null_pointer = omega arith
assigned_taken (core.variable s x) = omega arith
assigned_taken (core.temporary s k) = omega arith
assigned_taken (core.address_of b) = omega arith
assigned_taken (core.load s a) = omega arith
assigned_taken (core.member offset a) = omega arith
assigned_taken (core.unary op a) = omega arith
assigned_taken (core.binary op a b) = omega arith
assigned_taken (core.conversion s a) = converted_assigned (is_operand a) (use_of a as_operand) (read_words a)
assigned_taken (core.logical_and a b) = omega arith
assigned_taken (core.logical_or a b) = omega arith
assigned_taken (core.conditional c a b) = omega arith
