-- What the steps over the nodes of a list give: the values of its trees.
use Rattle.std.proofs.Common.{◌≡◌, ℕ, ℤ, pos, refl, ap, ◌∙◌, Bool, true, false, List, [], ◌∷◌, map, take, Option, Some, None}
use Rattle.std.specs.Prelude.{if◌then◌else◌, ◌+ℤ◌, ◌-ℤ◌, ◌*ℤ◌, ◌&&◌, ◌||◌, int_le, int_lt}
use Rattle.std.specs.Prelude.{not as flip}
use Rattle.std.specs.Ordering.{int_eq}
use Rattle.std.proofs.lemmas.List.{take-map, drop-map}
use Rattle.qs_assert.specs.declared.node.TermNode.{TermNode}
use Rattle.qs_assert.specs.declared.node.TermNode.TheVariants.{Number, Variable, Add, Sub, Mul, Div, WrapUnsigned, WrapSigned, Bits}
use Rattle.qs_assert.specs.declared.node.CondNode.{CondNode}
use Rattle.qs_assert.specs.declared.node.CondNode.TheVariants.{Le, Lt, Eq, Ne, Not, And, Or}
use Rattle.qs_assert.specs.declared.node.AssertionNode.{AssertionNode}
use Rattle.qs_assert.specs.declared.node.AssertionNode.TheVariants.{Natural, Infinity, Cost, Num, Total, Greatest, Product, Guard, If, Named}
use Rattle.qs_assert.specs.declared.node.Node.{Node}
use Rattle.qs_assert.specs.declared.node.Node.TheVariants.{Term, Condition, Assertion}
use Rattle.qs_assert.specs.declared.define.Amount.{Amount}
use Rattle.qs_assert.specs.declared.define.Amount.TheVariants.{Infinite, Wide}
use Rattle.qs_assert.specs.Trees.{TermTree, add, mul, CondTree, and, or, AssertionTree, total, greatest, product, guard, choose, named, terms_of, conds_of, assertions_of}
use Rattle.qs_assert.specs.Listing.{assertion_nodes}
use Rattle.qs_assert.specs.Reading.{first_term, first_cond, first_assertion, others, plant_term, plant_cond, plant_assertion, plant_node, plant_nodes, Forest, no_trees, assertion_read}
use Rattle.qs_assert.specs.Values.{State, term_value, sum_of_terms, product_of_terms, quotient, wrapped_unsigned, wrapped_signed, bit_length, holds, all_hold, some_holds, Extended, finite, infinite, value, sum_of, greatest_of, product_of, plus, greater, times, natural_part}
use Rattle.qs_assert.specs.Bounds.{is_wide, is_wide_value, wide_term, wide_terms, wide_cond, wide_conds, wide, some_wide, Setting, amount_of, amount_in}
use Rattle.qs_assert.specs.Stacks.{known, on_known, on_both, is_none, some_none, joins, joined, sum_known, product_known, none_or_first, step_term, Stacks, compared, negated, all_known, some_known, first_test, step_cond, amount_known, is_wide_amount, some_amount_wide, joins_amount, joined_amounts, joined_known, first_amount, natural_amount, chosen, Meaning, step_assertion, step_node, steps}

-- Terms

abbrev pub term_known : State → TermTree → Option ℤ
term_known s t = if wide_term t s then None else Some (term_value t s)

one_known : (f : ℤ → ℤ) (a : Bool) (x : ℤ) → on_known f (if a then None else Some x) ≡ (if a || is_wide (f x) then None else Some (f x))
one_known f true x = refl
one_known f false x = refl

two_known : (f : ℤ → ℤ → ℤ) (a b : Bool) (x y : ℤ) → on_both f (if a then None else Some x) (if b then None else Some y) ≡ (if (a || b) || is_wide (f x y) then None else Some (f x y))
two_known f true b x y = refl
two_known f false true x y = refl
two_known f false false x y = refl

is_none_if : {A : Type 0} (a : Bool) (x : A) → is_none (if a then None else Some x) ≡ a
is_none_if true x = refl
is_none_if false x = refl

or_first : (a b : Bool) → a || b ≡ false → a ≡ false
or_first true b h = h
or_first false b h = refl

or_second : (a b : Bool) → a || b ≡ false → b ≡ false
or_second true b h = absurd (cc)
or_second false b h = h

joins_if : {A B : Type 0} (f : A → B → B) (a : Bool) (x : A) (y : B) → a ≡ false → joins f (if a then None else Some x) y ≡ f x y
joins_if f true x y h = absurd (cc)
joins_if f false x y h = refl

terms_none : (s : State) (ts : List TermTree) → some_none (map (term_known s) ts) ≡ wide_terms (terms_of ts) s
terms_none s [] = refl
terms_none s (t ∷ ts) = λ i. is_none_if (wide_term t s) (term_value t s) i || terms_none s ts i

sums : (s : State) (ts : List TermTree) → wide_terms (terms_of ts) s ≡ false → joined ◌+ℤ◌ (pos 0) (map (term_known s) ts) ≡ sum_of_terms (terms_of ts) s
sums s [] h = refl
sums s (t ∷ ts) h =
    joins_if ◌+ℤ◌ (wide_term t s) (term_value t s) _ (or_first _ _ h) ∙ ap (λ z. term_value t s +ℤ z) (sums s ts (or_second (wide_term t s) _ h))

products : (s : State) (ts : List TermTree) → wide_terms (terms_of ts) s ≡ false → joined ◌*ℤ◌ (pos 1) (map (term_known s) ts) ≡ product_of_terms (terms_of ts) s
products s [] h = refl
products s (t ∷ ts) h =
    joins_if ◌*ℤ◌ (wide_term t s) (term_value t s) _ (or_first _ _ h) ∙ ap (λ z. term_value t s *ℤ z) (products s ts (or_second (wide_term t s) _ h))

known_or : (b : Bool) (u v : ℤ) → (b ≡ false → u ≡ v) → (if b then None else known u) ≡ (if b || is_wide v then None else Some v)
known_or true u v h = refl
known_or false u v h = ap known (h refl)

sum_is : (s : State) (ts : List TermTree) → sum_known (map (term_known s) ts) ≡ term_known s (add (terms_of ts))
sum_is s ts =
    ap (λ (b : Bool). if b then None else known (joined ◌+ℤ◌ (pos 0) (map (term_known s) ts))) (terms_none s ts) ∙ known_or (wide_terms (terms_of ts) s) _ _ (sums s ts)

product_is : (s : State) (ts : List TermTree) → product_known (map (term_known s) ts) ≡ term_known s (mul (terms_of ts))
product_is s ts =
    ap (λ (b : Bool). if b then None else known (joined ◌*ℤ◌ (pos 1) (map (term_known s) ts))) (terms_none s ts) ∙ known_or (wide_terms (terms_of ts) s) _ _ (products s ts)

first_number : (s : State) (ts : List TermTree) → none_or_first (map (term_known s) ts) ≡ term_known s (first_term ts)
first_number s [] = refl
first_number s (t ∷ ts) = refl

others-map : {A B : Type 0} (f : A → B) (xs : List A) → others (map f xs) ≡ map f (others xs)
others-map f [] = refl
others-map f (x ∷ xs) = refl

others_twice : {A B : Type 0} (f : A → B) (xs : List A) → others (others (map f xs)) ≡ map f (others (others xs))
others_twice f xs = ap others (others-map f xs) ∙ others-map f (others xs)

second_number : (s : State) (ts : List TermTree) → none_or_first (others (map (term_known s) ts)) ≡ term_known s (first_term (others ts))
second_number s ts = ap none_or_first (others-map (term_known s) ts) ∙ first_number s (others ts)

one_step : (s : State) (f : ℤ → ℤ) (ts : List TermTree) → on_known f (none_or_first (map (term_known s) ts)) ≡ (if wide_term (first_term ts) s || is_wide (f (term_value (first_term ts) s)) then None else Some (f (term_value (first_term ts) s)))
one_step s f ts = ap (on_known f) (first_number s ts) ∙ one_known f (wide_term (first_term ts) s) (term_value (first_term ts) s)

pub term_step : (s : State) (node : TermNode) (ts : List TermTree) → step_term s.at node (map (term_known s) ts) ≡ map (term_known s) (plant_term node ts)
term_step s (Number k) ts = refl
term_step s (Variable x) ts = refl
term_step s (Add n) ts =
    λ i. (ap sum_known (take-map (term_known s) n ts) ∙ sum_is s (take n ts)) i ∷ drop-map (term_known s) n ts i
term_step s Sub ts =
    λ i. ((λ j. on_both ◌-ℤ◌ (first_number s ts j) (second_number s ts j)) ∙ two_known ◌-ℤ◌ (wide_term (first_term ts) s) (wide_term (first_term (others ts)) s) (term_value (first_term ts) s) (term_value (first_term (others ts)) s)) i ∷ others_twice (term_known s) ts i
term_step s (Mul n) ts =
    λ i. (ap product_known (take-map (term_known s) n ts) ∙ product_is s (take n ts)) i ∷ drop-map (term_known s) n ts i
term_step s (Div k) ts = λ i. one_step s (λ z. quotient z k) ts i ∷ others-map (term_known s) ts i
term_step s WrapUnsigned ts = λ i. one_step s wrapped_unsigned ts i ∷ others-map (term_known s) ts i
term_step s WrapSigned ts = λ i. one_step s wrapped_signed ts i ∷ others-map (term_known s) ts i
term_step s Bits ts = λ i. one_step s (λ z. pos (bit_length z)) ts i ∷ others-map (term_known s) ts i

-- Conditions

abbrev pub cond_known : State → CondTree → Option Bool
cond_known s c = if wide_cond c s then None else Some (holds c s)

two_compared : (r : ℤ → ℤ → Bool) (a b : Bool) (x y : ℤ) → compared r (if a then None else Some x) (if b then None else Some y) ≡ (if a || b then None else Some (r x y))
two_compared r true b x y = refl
two_compared r false true x y = refl
two_compared r false false x y = refl

comparison : (s : State) (r : ℤ → ℤ → Bool) (ts : List TermTree) → compared r (none_or_first (map (term_known s) ts)) (none_or_first (others (map (term_known s) ts))) ≡ (if wide_term (first_term ts) s || wide_term (first_term (others ts)) s then None else Some (r (term_value (first_term ts) s) (term_value (first_term (others ts)) s)))
comparison s r ts =
    (λ j. compared r (first_number s ts j) (second_number s ts j)) ∙ two_compared r (wide_term (first_term ts) s) (wide_term (first_term (others ts)) s) (term_value (first_term ts) s) (term_value (first_term (others ts)) s)

negated_if : (a x : Bool) → negated (if a then None else Some x) ≡ (if a then None else Some (flip x))
negated_if true x = refl
negated_if false x = refl

first_truth : (s : State) (cs : List CondTree) → first_test (map (cond_known s) cs) ≡ cond_known s (first_cond cs)
first_truth s [] = refl
first_truth s (c ∷ cs) = refl

conds_none : (s : State) (cs : List CondTree) → some_none (map (cond_known s) cs) ≡ wide_conds (conds_of cs) s
conds_none s [] = refl
conds_none s (c ∷ cs) = λ i. is_none_if (wide_cond c s) (holds c s) i || conds_none s cs i

alls : (s : State) (cs : List CondTree) → wide_conds (conds_of cs) s ≡ false → joined (λ a b. a && b) true (map (cond_known s) cs) ≡ all_hold (conds_of cs) s
alls s [] h = refl
alls s (c ∷ cs) h =
    joins_if (λ a b. a && b) (wide_cond c s) (holds c s) _ (or_first _ _ h) ∙ ap (λ b. holds c s && b) (alls s cs (or_second (wide_cond c s) _ h))

somes : (s : State) (cs : List CondTree) → wide_conds (conds_of cs) s ≡ false → joined (λ a b. a || b) false (map (cond_known s) cs) ≡ some_holds (conds_of cs) s
somes s [] h = refl
somes s (c ∷ cs) h =
    joins_if (λ a b. a || b) (wide_cond c s) (holds c s) _ (or_first _ _ h) ∙ ap (λ b. holds c s || b) (somes s cs (or_second (wide_cond c s) _ h))

some_if : (b u v : Bool) → (b ≡ false → u ≡ v) → (if b then None else Some u) ≡ (if b then None else Some v)
some_if true u v h = refl
some_if false u v h = ap (λ (x : Bool). Some x) (h refl)

all_is : (s : State) (cs : List CondTree) → all_known (map (cond_known s) cs) ≡ cond_known s (and (conds_of cs))
all_is s cs =
    ap (λ (b : Bool). if b then None else Some (joined (λ a c. a && c) true (map (cond_known s) cs))) (conds_none s cs) ∙ some_if (wide_conds (conds_of cs) s) _ _ (alls s cs)

some_is : (s : State) (cs : List CondTree) → some_known (map (cond_known s) cs) ≡ cond_known s (or (conds_of cs))
some_is s cs =
    ap (λ (b : Bool). if b then None else Some (joined (λ a c. a || c) false (map (cond_known s) cs))) (conds_none s cs) ∙ some_if (wide_conds (conds_of cs) s) _ _ (somes s cs)

-- Assertions

-- the values of trees
abbrev pub valued : Setting → Forest → Stacks
valued g f = record {
  numbers = map (term_known g.state) f.terms;
  tests = map (cond_known g.state) f.conds;
  amounts = map (λ a. amount_in a g) f.assertions;
}

cond_step : (g : Setting) (node : CondNode) (f : Forest) → step_cond node (valued g f) ≡ valued g (plant_cond node f)
cond_step g Le f =
    λ i. record { numbers = others_twice (term_known g.state) f.terms i; tests = comparison g.state int_le f.terms i ∷ map (cond_known g.state) f.conds; amounts = map (λ a. amount_in a g) f.assertions }
cond_step g Lt f =
    λ i. record { numbers = others_twice (term_known g.state) f.terms i; tests = comparison g.state int_lt f.terms i ∷ map (cond_known g.state) f.conds; amounts = map (λ a. amount_in a g) f.assertions }
cond_step g Eq f =
    λ i. record { numbers = others_twice (term_known g.state) f.terms i; tests = comparison g.state int_eq f.terms i ∷ map (cond_known g.state) f.conds; amounts = map (λ a. amount_in a g) f.assertions }
cond_step g Ne f =
    λ i. record { numbers = others_twice (term_known g.state) f.terms i; tests = comparison g.state (λ x y. flip (int_eq x y)) f.terms i ∷ map (cond_known g.state) f.conds; amounts = map (λ a. amount_in a g) f.assertions }
cond_step g Not f =
    λ i. record { numbers = map (term_known g.state) f.terms; tests = (ap negated (first_truth g.state f.conds) ∙ negated_if (wide_cond (first_cond f.conds) g.state) (holds (first_cond f.conds) g.state)) i ∷ others-map (cond_known g.state) f.conds i; amounts = map (λ a. amount_in a g) f.assertions }
cond_step g (And n) f =
    λ i. record { numbers = map (term_known g.state) f.terms; tests = (ap all_known (take-map (cond_known g.state) n f.conds) ∙ all_is g.state (take n f.conds)) i ∷ drop-map (cond_known g.state) n f.conds i; amounts = map (λ a. amount_in a g) f.assertions }
cond_step g (Or n) f =
    λ i. record { numbers = map (term_known g.state) f.terms; tests = (ap some_known (take-map (cond_known g.state) n f.conds) ∙ some_is g.state (take n f.conds)) i ∷ drop-map (cond_known g.state) n f.conds i; amounts = map (λ a. amount_in a g) f.assertions }

amount_if : (w : Bool) (v : Extended) → is_wide_amount (if w then Wide else amount_of v) ≡ w
amount_if true v = refl
amount_if false (finite n) = refl
amount_if false infinite = refl

joins_amount_if : (f : Extended → Extended → Extended) (w : Bool) (v y : Extended) → w ≡ false → joins_amount f (if w then Wide else amount_of v) y ≡ f v y
joins_amount_if f true v y h = absurd (cc)
joins_amount_if f false (finite n) y h = refl
joins_amount_if f false infinite y h = refl

parts_wide : (g : Setting) (parts : List AssertionTree) → some_amount_wide (map (λ a. amount_in a g) parts) ≡ some_wide (assertions_of parts) g.state g.wides
parts_wide g [] = refl
parts_wide g (a ∷ parts) = λ i. amount_if (wide a g.state g.wides) (value a g.state) i || parts_wide g parts i

folds_sum : (g : Setting) (parts : List AssertionTree) → some_wide (assertions_of parts) g.state g.wides ≡ false → joined_amounts plus (finite 0) (map (λ a. amount_in a g) parts) ≡ sum_of (assertions_of parts) g.state
folds_sum g [] h = refl
folds_sum g (a ∷ parts) h =
    joins_amount_if plus (wide a g.state g.wides) (value a g.state) _ (or_first _ _ h) ∙ ap (plus (value a g.state)) (folds_sum g parts (or_second (wide a g.state g.wides) _ h))

folds_greatest : (g : Setting) (parts : List AssertionTree) → some_wide (assertions_of parts) g.state g.wides ≡ false → joined_amounts greater (finite 0) (map (λ a. amount_in a g) parts) ≡ greatest_of (assertions_of parts) g.state
folds_greatest g [] h = refl
folds_greatest g (a ∷ parts) h =
    joins_amount_if greater (wide a g.state g.wides) (value a g.state) _ (or_first _ _ h) ∙ ap (greater (value a g.state)) (folds_greatest g parts (or_second (wide a g.state g.wides) _ h))

folds_product : (g : Setting) (parts : List AssertionTree) → some_wide (assertions_of parts) g.state g.wides ≡ false → joined_amounts times (finite 1) (map (λ a. amount_in a g) parts) ≡ product_of (assertions_of parts) g.state
folds_product g [] h = refl
folds_product g (a ∷ parts) h =
    joins_amount_if times (wide a g.state g.wides) (value a g.state) _ (or_first _ _ h) ∙ ap (times (value a g.state)) (folds_product g parts (or_second (wide a g.state g.wides) _ h))

amount_or : (b : Bool) (u v : Extended) → (b ≡ false → u ≡ v) → (if b then Wide else amount_known u) ≡ (if b || is_wide_value v then Wide else amount_of v)
amount_or true u v h = refl
amount_or false u v h = ap amount_known (h refl)

pub total_is : (g : Setting) (parts : List AssertionTree) → joined_known plus (finite 0) (map (λ a. amount_in a g) parts) ≡ amount_in (total (assertions_of parts)) g
total_is g parts =
    ap (λ (b : Bool). if b then Wide else amount_known (joined_amounts plus (finite 0) (map (λ a. amount_in a g) parts))) (parts_wide g parts) ∙ amount_or (some_wide (assertions_of parts) g.state g.wides) _ _ (folds_sum g parts)

greatest_is : (g : Setting) (parts : List AssertionTree) → joined_known greater (finite 0) (map (λ a. amount_in a g) parts) ≡ amount_in (greatest (assertions_of parts)) g
greatest_is g parts =
    ap (λ (b : Bool). if b then Wide else amount_known (joined_amounts greater (finite 0) (map (λ a. amount_in a g) parts))) (parts_wide g parts) ∙ amount_or (some_wide (assertions_of parts) g.state g.wides) _ _ (folds_greatest g parts)

whole_product_is : (g : Setting) (parts : List AssertionTree) → joined_known times (finite 1) (map (λ a. amount_in a g) parts) ≡ amount_in (product (assertions_of parts)) g
whole_product_is g parts =
    ap (λ (b : Bool). if b then Wide else amount_known (joined_amounts times (finite 1) (map (λ a. amount_in a g) parts))) (parts_wide g parts) ∙ amount_or (some_wide (assertions_of parts) g.state g.wides) _ _ (folds_product g parts)

first_part : (g : Setting) (parts : List AssertionTree) → first_amount (map (λ a. amount_in a g) parts) ≡ amount_in (first_assertion parts) g
first_part g [] = refl
first_part g (a ∷ parts) = refl

second_part : (g : Setting) (parts : List AssertionTree) → first_amount (others (map (λ a. amount_in a g) parts)) ≡ amount_in (first_assertion (others parts)) g
second_part g parts = ap first_amount (others-map (λ a. amount_in a g) parts) ∙ first_part g (others parts)

natural_if : (a : Bool) (z : ℤ) → natural_amount (if a then None else Some z) ≡ (if a || is_wide_value (finite (natural_part z)) then Wide else amount_of (finite (natural_part z)))
natural_if true z = refl
natural_if false z = refl

guard_if : (a h w : Bool) (v : Extended) → chosen (if a then None else Some h) (if w then Wide else amount_of v) Infinite ≡ (if a || (h && w) then Wide else amount_of (if h then v else infinite))
guard_if true h w v = refl
guard_if false true w v = refl
guard_if false false w v = refl

choose_if : (a h w x : Bool) (v u : Extended) → chosen (if a then None else Some h) (if w then Wide else amount_of v) (if x then Wide else amount_of u) ≡ (if a || (if h then w else x) then Wide else amount_of (if h then v else u))
choose_if true h w x v u = refl
choose_if false true w x v u = refl
choose_if false false w x v u = refl

guard_is : (g : Setting) (f : Forest) → chosen (first_test (map (cond_known g.state) f.conds)) (first_amount (map (λ a. amount_in a g) f.assertions)) Infinite ≡ amount_in (guard (first_cond f.conds) (first_assertion f.assertions)) g
guard_is g f =
    (λ i. chosen (first_truth g.state f.conds i) (first_part g f.assertions i) Infinite) ∙ guard_if (wide_cond (first_cond f.conds) g.state) (holds (first_cond f.conds) g.state) (wide (first_assertion f.assertions) g.state g.wides) (value (first_assertion f.assertions) g.state)

choose_is : (g : Setting) (f : Forest) → chosen (first_test (map (cond_known g.state) f.conds)) (first_amount (map (λ a. amount_in a g) f.assertions)) (first_amount (others (map (λ a. amount_in a g) f.assertions))) ≡ amount_in (choose (first_cond f.conds) (first_assertion f.assertions) (first_assertion (others f.assertions))) g
choose_is g f =
    (λ i. chosen (first_truth g.state f.conds i) (first_part g f.assertions i) (second_part g f.assertions i)) ∙ choose_if (wide_cond (first_cond f.conds) g.state) (holds (first_cond f.conds) g.state) (wide (first_assertion f.assertions) g.state g.wides) (wide (first_assertion (others f.assertions)) g.state g.wides) (value (first_assertion f.assertions) g.state) (value (first_assertion (others f.assertions)) g.state)

-- the names mean what the setting says
abbrev pub Named_by : Setting → (List ℕ → Amount) → Type 0
Named_by g names = (n : List ℕ) → names n ≡ amount_in (named n) g

abbrev pub meaning_in : Setting → (List ℕ → Amount) → Meaning
meaning_in g names = record { at = g.state.at; costs = g.state.costs; names = names }

assertion_step : (g : Setting) (names : List ℕ → Amount) → Named_by g names → (node : AssertionNode) (f : Forest) → step_assertion (meaning_in g names) node (valued g f) ≡ valued g (plant_assertion node f)
assertion_step g names e (Natural n) f = refl
assertion_step g names e Infinity f = refl
assertion_step g names e (Cost k) f = refl
assertion_step g names e Num f =
    λ i. record { numbers = others-map (term_known g.state) f.terms i; tests = map (cond_known g.state) f.conds; amounts = (ap natural_amount (first_number g.state f.terms) ∙ natural_if (wide_term (first_term f.terms) g.state) (term_value (first_term f.terms) g.state)) i ∷ map (λ a. amount_in a g) f.assertions }
assertion_step g names e (Total n) f =
    λ i. record { numbers = map (term_known g.state) f.terms; tests = map (cond_known g.state) f.conds; amounts = (ap (joined_known plus (finite 0)) (take-map (λ a. amount_in a g) n f.assertions) ∙ total_is g (take n f.assertions)) i ∷ drop-map (λ a. amount_in a g) n f.assertions i }
assertion_step g names e (Greatest n) f =
    λ i. record { numbers = map (term_known g.state) f.terms; tests = map (cond_known g.state) f.conds; amounts = (ap (joined_known greater (finite 0)) (take-map (λ a. amount_in a g) n f.assertions) ∙ greatest_is g (take n f.assertions)) i ∷ drop-map (λ a. amount_in a g) n f.assertions i }
assertion_step g names e (Product n) f =
    λ i. record { numbers = map (term_known g.state) f.terms; tests = map (cond_known g.state) f.conds; amounts = (ap (joined_known times (finite 1)) (take-map (λ a. amount_in a g) n f.assertions) ∙ whole_product_is g (take n f.assertions)) i ∷ drop-map (λ a. amount_in a g) n f.assertions i }
assertion_step g names e Guard f =
    λ i. record { numbers = map (term_known g.state) f.terms; tests = others-map (cond_known g.state) f.conds i; amounts = guard_is g f i ∷ others-map (λ a. amount_in a g) f.assertions i }
assertion_step g names e If f =
    λ i. record { numbers = map (term_known g.state) f.terms; tests = others-map (cond_known g.state) f.conds i; amounts = choose_is g f i ∷ others_twice (λ a. amount_in a g) f.assertions i }
assertion_step g names e (Named n) f =
    λ i. record { numbers = map (term_known g.state) f.terms; tests = map (cond_known g.state) f.conds; amounts = e n i ∷ map (λ a. amount_in a g) f.assertions }

node_step : (g : Setting) (names : List ℕ → Amount) → Named_by g names → (node : Node) (f : Forest) → step_node (meaning_in g names) node (valued g f) ≡ valued g (plant_node node f)
node_step g names e (Term node) f =
    λ i. record { numbers = term_step g.state node f.terms i; tests = map (cond_known g.state) f.conds; amounts = map (λ a. amount_in a g) f.assertions }
node_step g names e (Condition node) f = cond_step g node f
node_step g names e (Assertion node) f = assertion_step g names e node f

pub steps_are : (g : Setting) (names : List ℕ → Amount) → Named_by g names → (nodes : List Node) → steps (meaning_in g names) nodes ≡ valued g (plant_nodes nodes no_trees)
steps_are g names e [] = refl
steps_are g names e (node ∷ nodes) =
    ap (step_node (meaning_in g names) node) (steps_are g names e nodes) ∙ node_step g names e node (plant_nodes nodes no_trees)

-- the amount that the steps over the nodes of an assertion give
pub evaluated : (g : Setting) (names : List ℕ → Amount) → Named_by g names → (a : AssertionTree) → first_amount (steps (meaning_in g names) (assertion_nodes a)).amounts ≡ amount_in a g
evaluated g names e a =
    ap (λ (s : Stacks). first_amount s.amounts) (steps_are g names e (assertion_nodes a) ∙ ap (valued g) (assertion_read a no_trees))
