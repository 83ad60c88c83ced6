-- How the polynomials of the nodes of a list come one from the other, the list being read from its end: each
-- node takes the attempts of its parts from the front of a stack.
use Rattle.std.specs.Prelude.{◌≡◌, ℕ, zero, suc, ℤ, pos, List, [], ◌∷◌, map, reverse, drop, Result, Ok, Err, IfOk, OnOk}
use Rattle.qs_base.specs.declared.memory.NoMemory.{NoMemory}
use Rattle.qs_assert.specs.declared.node.TermNode.{TermNode}
use Rattle.qs_assert.specs.declared.node.TermNode.TheVariants.{Number, Variable, Add, Sub, Mul, Div, WrapUnsigned, WrapSigned, Bits}
use Rattle.qs_assert.specs.declared.node.CondNode.{CondNode}
use Rattle.qs_assert.specs.declared.node.CondNode.TheVariants.{Le, Lt, Eq, Ne, Not, And, Or}
use Rattle.qs_assert.specs.declared.node.AssertionNode.{AssertionNode}
use Rattle.qs_assert.specs.declared.node.AssertionNode.TheVariants.{Natural, Infinity, Cost, Num, Total, Greatest, Product, Guard, If, Named}
use Rattle.qs_assert.specs.declared.node.Node.{Node}
use Rattle.qs_assert.specs.declared.node.Node.TheVariants.{Term, Condition, Assertion}
use Rattle.qs_assert.specs.Reading.{others}
use Rattle.qs_assert.specs.Stacks.{first_or}
use Rattle.qs_poly.specs.Polynomials.{AtomTree, Polynomial, variable, cost, num, div, wrapu, wraps, bits}
use Rattle.qs_poly.specs.Operations.{sum, product, lessened, number, single}
use Rattle.qs_entail.specs.declared.building.Building.{Building}
use Rattle.qs_entail.specs.declared.stack.Built.{Built}
use Rattle.qs_entail.specs.declared.stack.Built.TheVariants.{Made, Broken, Past}
use Rattle.qs_entail.specs.declared.stack.Head.{Head}
use Rattle.qs_entail.specs.declared.stack.Head.TheVariants as heads
use Rattle.qs_entail.specs.declared.operation.Operation.{Operation}
use Rattle.qs_entail.specs.declared.operation.Operation.TheVariants as operations
use Rattle.qs_base.specs.Results.{bind}
use Rattle.qs_entail.specs.Building.{Stop, breaks, passes, limited}
use Rattle.qs_entail.specs.declared.stop.Stop as code
use Rattle.qs_entail.specs.Answers.{fault_of, Follows}

-- ---- what the code has

abbrev pub attempt_of : Built → Result Polynomial Stop
attempt_of (Made p) = Ok p
attempt_of Broken = Err breaks
attempt_of (Past limit) = Err (passes (fault_of limit))

-- the attempts of a stack, the front being the end
abbrev pub seen : List Built → List (Result Polynomial Stop)
seen items = map attempt_of (reverse items)

-- what is built is this attempt, if memory suffices
abbrev pub Builds : Result Polynomial Stop → Result Built NoMemory → Type 0
Builds attempt result = IfOk result (λ built. attempt_of built ≡ attempt)

-- what a step gives is kept
abbrev pub KeepsGiven : Result Polynomial code.Stop → Result Built NoMemory → Type 0
KeepsGiven given result = (attempt : Result Polynomial Stop) → Follows given attempt → Builds attempt result

-- the stack becomes what f makes of it, if memory suffices
abbrev pub Changes : (List (Result Polynomial Stop) → List (Result Polynomial Stop)) → (old new : List Built) → Result (Unit {0}) NoMemory → Type 0
Changes f old new result = OnOk result (seen new ≡ f (seen old))

abbrev pub operated : Operation → Polynomial → Polynomial → Polynomial
operated operations.Sum p q = sum p q
operated operations.Difference p q = lessened p 1 q 0
operated operations.Product p q = product p q

abbrev pub atom_on : Head → Polynomial → AtomTree
atom_on heads.Num p = num p
atom_on (heads.Div k) p = div p k
atom_on heads.Wrapu p = wrapu p
atom_on heads.Wraps p = wraps p
atom_on heads.Bits p = bits p

-- ---- terms

-- the first attempt; a list of the nodes of a tree never lacks one
abbrev pub first : List (Result Polynomial Stop) → Result Polynomial Stop
first = first_or (Err breaks)

abbrev pub on_one : Head → Result Polynomial Stop → Result Polynomial Stop
on_one head a = bind a (λ p. Ok (single (atom_on head p)))

abbrev pub on_both : Operation → Result Polynomial Stop → Result Polynomial Stop → Result Polynomial Stop
on_both operation a b = bind a (λ p. bind b (λ q. limited (operated operation p q)))

-- the first n attempts joined to one, from left to right
abbrev pub joined : Operation → ℕ → List (Result Polynomial Stop) → Result Polynomial Stop → Result Polynomial Stop
joined operation zero xs so_far = so_far
joined operation (suc n) xs so_far = joined operation n (others xs) (on_both operation so_far (first xs))

-- joined to a number
abbrev pub joined_from : ℤ → Operation → ℕ → List (Result Polynomial Stop) → Result Polynomial Stop
joined_from start operation n xs = joined operation n xs (limited (number start))

abbrev pub sum_first : ℕ → List (Result Polynomial Stop) → Result Polynomial Stop
sum_first n xs = joined_from (pos 0) operations.Sum n xs

abbrev pub product_first : ℕ → List (Result Polynomial Stop) → Result Polynomial Stop
product_first n xs = joined_from (pos 1) operations.Product n xs

abbrev pub sum_step : ℕ → List (Result Polynomial Stop) → List (Result Polynomial Stop)
sum_step n xs = sum_first n xs ∷ drop n xs

abbrev pub product_step : ℕ → List (Result Polynomial Stop) → List (Result Polynomial Stop)
product_step n xs = product_first n xs ∷ drop n xs

abbrev pub head_step : Head → List (Result Polynomial Stop) → List (Result Polynomial Stop)
head_step head xs = on_one head (first xs) ∷ others xs

abbrev pub step_term : TermNode → List (Result Polynomial Stop) → List (Result Polynomial Stop)
step_term (Number k) xs = limited (number k) ∷ xs
step_term (Variable x) xs = Ok (single (variable x)) ∷ xs
step_term (Add n) xs = sum_step n xs
step_term Sub xs = on_both operations.Difference (first xs) (first (others xs)) ∷ others (others xs)
step_term (Mul n) xs = product_step n xs
step_term (Div k) xs = head_step (heads.Div k) xs
step_term WrapUnsigned xs = head_step heads.Wrapu xs
step_term WrapSigned xs = head_step heads.Wraps xs
step_term Bits xs = head_step heads.Bits xs

abbrev pub term_steps : List TermNode → List (Result Polynomial Stop) → List (Result Polynomial Stop)
term_steps [] xs = xs
term_steps (node ∷ nodes) xs = step_term node (term_steps nodes xs)

-- ---- assertions

pub record Stacks : Type 0 where
  pub terms : List (Result Polynomial Stop)
  pub assertions : List (Result Polynomial Stop)

abbrev pub no_attempts : Stacks
no_attempts = record { terms = []; assertions = [] }

-- the stacks of a building
abbrev pub both_seen : Building → Stacks
both_seen b = record { terms = seen b.terms.items; assertions = seen b.assertions.items }

-- the building takes this step, if memory suffices
abbrev pub Steps : (Stacks → Stacks) → (old new : Building) → Result (Unit {0}) NoMemory → Type 0
Steps f old new result = OnOk result (both_seen new ≡ f (both_seen old))

-- a condition has no polynomial, but takes those of its terms
abbrev pub step_cond : CondNode → Stacks → Stacks
step_cond Le s = record s { terms = others (others s.terms) }
step_cond Lt s = record s { terms = others (others s.terms) }
step_cond Eq s = record s { terms = others (others s.terms) }
step_cond Ne s = record s { terms = others (others s.terms) }
step_cond Not s = s
step_cond (And n) s = s
step_cond (Or n) s = s

-- there is none in place of the first n
abbrev pub none_first : ℕ → Stacks → Stacks
none_first n s = record s { assertions = Err breaks ∷ drop n s.assertions }

abbrev pub step_assertion : AssertionNode → Stacks → Stacks
step_assertion (Natural n) s = record s { assertions = limited (number (pos n)) ∷ s.assertions }
step_assertion Infinity s = none_first 0 s
step_assertion (Cost f) s = record s { assertions = Ok (single (cost f.0)) ∷ s.assertions }
step_assertion Num s = record { terms = others s.terms; assertions = on_one heads.Num (first s.terms) ∷ s.assertions }
step_assertion (Total n) s = record s { assertions = sum_step n s.assertions }
step_assertion (Greatest n) s = none_first n s
step_assertion (Product n) s = record s { assertions = product_step n s.assertions }
step_assertion Guard s = none_first 1 s
step_assertion If s = none_first 2 s
step_assertion (Named n) s = none_first 0 s

abbrev pub step_node : Node → Stacks → Stacks
step_node (Term node) s = record s { terms = step_term node s.terms }
step_node (Condition node) s = step_cond node s
step_node (Assertion node) s = step_assertion node s

abbrev pub node_steps : List Node → Stacks → Stacks
node_steps [] s = s
node_steps (node ∷ nodes) s = step_node node (node_steps nodes s)
