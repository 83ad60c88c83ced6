-- How the values of the nodes of a list come one from the other, the list being read from its end: each
-- node takes the values of its parts from the front of a stack. A value is None or Wide where a part is wide.
use Rattle.std.specs.Prelude.{◌≡◌, ℕ, ℤ, pos, ◌+ℤ◌, ◌-ℤ◌, ◌*ℤ◌, Bool, true, false, if◌then◌else◌, ◌&&◌, ◌||◌, int_le, int_lt, List, [], ◌∷◌, Option, Some, None, MatchOption, Result, IfOk, reverse, take, drop}
use Rattle.qs_base.specs.declared.memory.NoMemory.{NoMemory}
use Rattle.std.specs.Prelude.{not as flip}
use Rattle.std.specs.Ordering.{int_eq}
use Rattle.qs_assert.specs.declared.variable.Var.{Var}
use Rattle.qs_assert.specs.declared.node.TermNode.{TermNode}
use Rattle.qs_assert.specs.declared.node.TermNode.TheVariants.{Number, Variable, Add, Sub, Mul, Div, WrapUnsigned, WrapSigned, Bits}
use Rattle.qs_assert.specs.declared.node.CondNode.{CondNode}
use Rattle.qs_assert.specs.declared.node.CondNode.TheVariants.{Le, Lt, Eq, Ne, Not, And, Or}
use Rattle.qs_assert.specs.declared.node.AssertionNode.{AssertionNode}
use Rattle.qs_assert.specs.declared.node.AssertionNode.TheVariants.{Natural, Infinity, Cost, Num, Total, Greatest, Product, Guard, If, Named}
use Rattle.qs_assert.specs.declared.node.Node.{Node}
use Rattle.qs_assert.specs.declared.node.Node.TheVariants.{Term, Condition, Assertion}
use Rattle.qs_assert.specs.declared.define.Amount.{Amount}
use Rattle.qs_assert.specs.declared.define.Amount.TheVariants.{Finite, Infinite, Wide}
use Rattle.qs_assert.specs.Reading.{others}
use Rattle.qs_assert.specs.Values.{Extended, finite, infinite, plus, greater, times, quotient, wrapped_unsigned, wrapped_signed, bit_length, natural_part}
use Rattle.qs_assert.specs.Bounds.{is_wide, is_wide_value, amount_of}

abbrev pub first_or : {A : Type 0} → A → List A → A
first_or otherwise [] = otherwise
first_or otherwise (x ∷ xs) = x

-- ---- stacks that are kept with their front last

-- read from its front, the stack becomes what f makes of it, if memory suffices
abbrev pub Changes : {A : Type 0} → (List A → List A) → (old new : List A) → Result (Unit {0}) NoMemory → Type 0
Changes f old new result = IfOk result (λ _. reverse new ≡ f (reverse old))

-- the front is taken off, unless there is none
abbrev pub TakesFront : {A : Type 0} → (old new : List A) → Option A → Type 0
TakesFront old new result = MatchOption result (reverse old ≡ []) (λ item. reverse old ≡ item ∷ reverse new)

-- Numbers

-- the number, or None where it is wide
abbrev pub known : ℤ → Option ℤ
known z = if is_wide z then None else Some z

abbrev pub on_known : (ℤ → ℤ) → Option ℤ → Option ℤ
on_known f None = None
on_known f (Some z) = known (f z)

abbrev pub on_both : (ℤ → ℤ → ℤ) → Option ℤ → Option ℤ → Option ℤ
on_both f None b = None
on_both f (Some x) None = None
on_both f (Some x) (Some y) = known (f x y)

abbrev pub is_none : {A : Type 0} → Option A → Bool
is_none None = true
is_none (Some x) = false

abbrev pub some_none : {A : Type 0} → List (Option A) → Bool
some_none [] = false
some_none (x ∷ xs) = is_none x || some_none xs

abbrev pub joins : {A B : Type 0} → (A → B → B) → Option A → B → B
joins f None y = y
joins f (Some x) y = f x y

-- the values that are there, joined
abbrev pub joined : {A B : Type 0} → (A → B → B) → B → List (Option A) → B
joined f z [] = z
joined f z (x ∷ xs) = joins f x (joined f z xs)

abbrev pub sum_known : List (Option ℤ) → Option ℤ
sum_known xs = if some_none xs then None else known (joined ◌+ℤ◌ (pos 0) xs)

abbrev pub product_known : List (Option ℤ) → Option ℤ
product_known xs = if some_none xs then None else known (joined ◌*ℤ◌ (pos 1) xs)

-- where `whole` is a number, or none for one that is wide, the answer is so for what f makes of the number
abbrev pub AppliesToNumber : (ℤ → ℤ) → Option ℤ → Option ℤ → Type 0
AppliesToNumber f whole result = (y : ℤ) → whole ≡ known y → result ≡ known (f y)

abbrev pub none_or_first : List (Option ℤ) → Option ℤ
none_or_first = first_or (Some (pos 0))

-- the first n numbers are joined to their sum, or to their product
abbrev pub sum_step : ℕ → List (Option ℤ) → List (Option ℤ)
sum_step n xs = sum_known (take n xs) ∷ drop n xs

abbrev pub product_step : ℕ → List (Option ℤ) → List (Option ℤ)
product_step n xs = product_known (take n xs) ∷ drop n xs

-- the first number less the second
abbrev pub difference_step : List (Option ℤ) → List (Option ℤ)
difference_step xs = on_both ◌-ℤ◌ (none_or_first xs) (none_or_first (others xs)) ∷ others (others xs)

abbrev pub step_term : (Var → ℤ) → TermNode → List (Option ℤ) → List (Option ℤ)
step_term at (Number k) xs = known k ∷ xs
step_term at (Variable x) xs = known (at x) ∷ xs
step_term at (Add n) xs = sum_step n xs
step_term at Sub xs = difference_step xs
step_term at (Mul n) xs = product_step n xs
step_term at (Div k) xs = on_known (λ z. quotient z k) (none_or_first xs) ∷ others xs
step_term at WrapUnsigned xs = on_known wrapped_unsigned (none_or_first xs) ∷ others xs
step_term at WrapSigned xs = on_known wrapped_signed (none_or_first xs) ∷ others xs
step_term at Bits xs = on_known (λ z. pos (bit_length z)) (none_or_first xs) ∷ others xs

-- Conditions

pub record Stacks : Type 0 where
  pub numbers : List (Option ℤ)
  pub tests : List (Option Bool)
  pub amounts : List Amount

abbrev pub compared : (ℤ → ℤ → Bool) → Option ℤ → Option ℤ → Option Bool
compared r None b = None
compared r (Some x) None = None
compared r (Some x) (Some y) = Some (r x y)

abbrev pub negated : Option Bool → Option Bool
negated None = None
negated (Some b) = Some (flip b)

abbrev pub all_known : List (Option Bool) → Option Bool
all_known xs = if some_none xs then None else Some (joined (λ a b. a && b) true xs)

abbrev pub some_known : List (Option Bool) → Option Bool
some_known xs = if some_none xs then None else Some (joined (λ a b. a || b) false xs)

abbrev pub first_test : List (Option Bool) → Option Bool
first_test = first_or (Some true)

abbrev pub step_comparison : (ℤ → ℤ → Bool) → Stacks → Stacks
step_comparison r s = record {
  numbers = others (others s.numbers);
  tests = compared r (none_or_first s.numbers) (none_or_first (others s.numbers)) ∷ s.tests;
  amounts = s.amounts;
}

abbrev pub step_cond : CondNode → Stacks → Stacks
step_cond Le s = step_comparison int_le s
step_cond Lt s = step_comparison int_lt s
step_cond Eq s = step_comparison int_eq s
step_cond Ne s = step_comparison (λ x y. flip (int_eq x y)) s
step_cond Not s = record s { tests = negated (first_test s.tests) ∷ others s.tests }
step_cond (And n) s = record s { tests = all_known (take n s.tests) ∷ drop n s.tests }
step_cond (Or n) s = record s { tests = some_known (take n s.tests) ∷ drop n s.tests }

-- Amounts

-- the value, or Wide where it is wide
abbrev pub amount_known : Extended → Amount
amount_known v = if is_wide_value v then Wide else amount_of v

abbrev pub is_wide_amount : Amount → Bool
is_wide_amount (Finite n) = false
is_wide_amount Infinite = false
is_wide_amount Wide = true

abbrev pub some_amount_wide : List Amount → Bool
some_amount_wide [] = false
some_amount_wide (x ∷ xs) = is_wide_amount x || some_amount_wide xs

abbrev pub joins_amount : (Extended → Extended → Extended) → Amount → Extended → Extended
joins_amount f (Finite n) y = f (finite n) y
joins_amount f Infinite y = f infinite y
joins_amount f Wide y = y

abbrev pub joined_amounts : (Extended → Extended → Extended) → Extended → List Amount → Extended
joined_amounts f z [] = z
joined_amounts f z (x ∷ xs) = joins_amount f x (joined_amounts f z xs)

abbrev pub joined_known : (Extended → Extended → Extended) → Extended → List Amount → Amount
joined_known f z xs = if some_amount_wide xs then Wide else amount_known (joined_amounts f z xs)

-- where `whole` is the amount of a value, the answer is the amount of what f makes of the value
abbrev pub AppliesToAmount : (Extended → Extended) → Amount → Amount → Type 0
AppliesToAmount f whole result = (y : Extended) → whole ≡ amount_known y → result ≡ amount_known (f y)

abbrev pub first_amount : List Amount → Amount
first_amount = first_or (Finite 0)

abbrev pub natural_amount : Option ℤ → Amount
natural_amount None = Wide
natural_amount (Some z) = amount_known (finite (natural_part z))

abbrev pub chosen : Option Bool → Amount → Amount → Amount
chosen None a b = Wide
chosen (Some c) a b = if c then a else b

-- what the nodes without parts mean
pub record Meaning : Type 0 where
  pub at : Var → ℤ
  pub costs : ℕ → ℕ
  pub names : List ℕ → Amount

abbrev pub num_step : Stacks → Stacks
num_step s = record s { numbers = others s.numbers; amounts = natural_amount (none_or_first s.numbers) ∷ s.amounts }

-- the first n amounts are joined to one
abbrev pub joined_step : (Extended → Extended → Extended) → Extended → ℕ → Stacks → Stacks
joined_step f z n s = record s { amounts = joined_known f z (take n s.amounts) ∷ drop n s.amounts }

abbrev pub guard_step : Stacks → Stacks
guard_step s = record s {
  tests = others s.tests;
  amounts = chosen (first_test s.tests) (first_amount s.amounts) Infinite ∷ others s.amounts;
}

abbrev pub choose_step : Stacks → Stacks
choose_step s = record s {
  tests = others s.tests;
  amounts = chosen (first_test s.tests) (first_amount s.amounts) (first_amount (others s.amounts)) ∷ others (others s.amounts);
}

abbrev pub step_assertion : Meaning → AssertionNode → Stacks → Stacks
step_assertion m (Natural n) s = record s { amounts = amount_known (finite n) ∷ s.amounts }
step_assertion m Infinity s = record s { amounts = Infinite ∷ s.amounts }
step_assertion m (Cost f) s = record s { amounts = amount_known (finite (m.costs f.0)) ∷ s.amounts }
step_assertion m Num s = num_step s
step_assertion m (Total n) s = joined_step plus (finite 0) n s
step_assertion m (Greatest n) s = joined_step greater (finite 0) n s
step_assertion m (Product n) s = joined_step times (finite 1) n s
step_assertion m Guard s = guard_step s
step_assertion m If s = choose_step s
step_assertion m (Named n) s = record s { amounts = m.names n ∷ s.amounts }

abbrev pub step_node : Meaning → Node → Stacks → Stacks
step_node m (Term node) s = record s { numbers = step_term m.at node s.numbers }
step_node m (Condition node) s = step_cond node s
step_node m (Assertion node) s = step_assertion m node s

abbrev pub steps : Meaning → List Node → Stacks
steps m [] = record { numbers = []; tests = []; amounts = [] }
steps m (node ∷ nodes) = step_node m node (steps m nodes)
