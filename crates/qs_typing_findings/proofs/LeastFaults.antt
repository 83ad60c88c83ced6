-- The least fault is the same in whatever order faults are found.
use Rattle.std.proofs.Common.{◌≡◌, ℕ, Bool, true, false, ◌&&◌, ◌||◌, ◌==◌, nat_lt, if◌then◌else◌, List, [], ◌∷◌, ◌++◌, Option, Some, None, refl, sym, ap, ◌∙◌, arith}
use Rattle.std.proofs.lemmas.Bool.Decides.{nat_tests}
use Rattle.qs_types.specs.declared.rules.Rule.{Rule}
use Rattle.qs_types.specs.Rules.{rule_number, Fault}
use Rattle.qs_types.proofs.RuleLaws.{numbers_differ}
use Rattle.qs_typing_findings.specs.Findings.{is_before, lesser, least_with}

-- ---- pairs of numbers

pub transitive : (a b c x y z : ℕ) → (nat_lt a b || ((a == b) && nat_lt x y)) ≡ true → (nat_lt b c || ((b == c) && nat_lt y z)) ≡ true → (nat_lt a c || ((a == c) && nat_lt x z)) ≡ true
transitive a b c x y z h i = grind (arith, nat_tests)

pub irreflexive : (a x : ℕ) → (nat_lt a a || ((a == a) && nat_lt x x)) ≡ false
irreflexive a x = grind (arith, nat_tests)

pub one_way : (a b x y : ℕ) → (nat_lt a b || ((a == b) && nat_lt x y)) ≡ true → (nat_lt b a || ((b == a) && nat_lt y x)) ≡ false
one_way a b x y h = grind (arith, nat_tests)

same_first : (a b x y : ℕ) → (nat_lt a b || ((a == b) && nat_lt x y)) ≡ false → (nat_lt b a || ((b == a) && nat_lt y x)) ≡ false → a ≡ b
same_first a b x y h i = grind (arith, nat_tests)

same_second : (a b x y : ℕ) → (nat_lt a b || ((a == b) && nat_lt x y)) ≡ false → (nat_lt b a || ((b == a) && nat_lt y x)) ≡ false → x ≡ y
same_second a b x y h i = grind (arith, nat_tests)

-- ---- faults

before_then : (f g h : Fault) → is_before f g ≡ true → is_before g h ≡ true → is_before f h ≡ true
before_then f g h = transitive f.node g.node h.node (rule_number f.rule) (rule_number g.rule) (rule_number h.rule)

not_after : (f g : Fault) → is_before f g ≡ true → is_before g f ≡ false
not_after f g = one_way f.node g.node (rule_number f.rule) (rule_number g.rule)

fault_by : (n m : ℕ) (r s : Rule) → n ≡ m → r ≡ s → (let f : Fault = record { node = n; rule = r } in f) ≡ record { node = m; rule = s }
fault_by n m r s e q = λ j. record { node = e j; rule = q j }

-- faults of which neither is before the other are the same
pub neither_before : (f g : Fault) → is_before f g ≡ false → is_before g f ≡ false → f ≡ g
neither_before f g h i =
    fault_by f.node g.node f.rule g.rule
    (same_first f.node g.node (rule_number f.rule) (rule_number g.rule) h i)
    (numbers_differ f.rule g.rule (same_second f.node g.node (rule_number f.rule) (rule_number g.rule) h i))

-- ---- the lesser of two, and of three

abbrev pub min_of : Fault → Fault → Fault
min_of g f = if is_before f g then f else g

min_by : (x y : Fault) (a b : Bool) → is_before y x ≡ a → is_before x y ≡ b → (if a then y else x) ≡ (if b then x else y)
min_by x y true true p q = absurd (clash (sym q ∙ not_after y x p))
  where
    clash : true ≡ false → ⊥
    clash e = cc
min_by x y true false p q = refl
min_by x y false true p q = refl
min_by x y false false p q = neither_before x y q p

min_swaps : (x y : Fault) → min_of x y ≡ min_of y x
min_swaps x y = min_by x y (is_before y x) (is_before x y) refl refl

three_by : (g x y : Fault) (a b : Bool) → is_before x g ≡ a → is_before y g ≡ b → min_of (if a then x else g) y ≡ min_of (if b then y else g) x
three_by g x y true true p q = min_swaps x y
three_by g x y true false p q = by (is_before y x) refl ∙ sym (ap (λ t. if t then x else g) p)
  where
    by : (t : Bool) → is_before y x ≡ t → (if t then y else x) ≡ x
    by true r = absurd (let e : true ≡ false = sym (before_then y x g r p) ∙ q in cc)
    by false r = refl
three_by g x y false true p q = ap (λ t. if t then y else g) q ∙ sym (by (is_before x y) refl)
  where
    by : (t : Bool) → is_before x y ≡ t → (if t then x else y) ≡ y
    by true r = absurd (let e : true ≡ false = sym (before_then x y g r q) ∙ p in cc)
    by false r = refl
three_by g x y false false p q = ap (λ t. if t then y else g) q ∙ sym (ap (λ t. if t then x else g) p)

lesser_swaps : (g : Option Fault) (x y : Fault) → lesser (Some (lesser g x)) y ≡ lesser (Some (lesser g y)) x
lesser_swaps None x y = min_swaps x y
lesser_swaps (Some g) x y = three_by g x y (is_before x g) (is_before y g) refl refl

-- ---- the least of some

least_with_one : (g : Option Fault) (x : Fault) (ys : List Fault) → least_with (Some (lesser g x)) ys ≡ Some (lesser (least_with g ys) x)
least_with_one g x [] = refl
least_with_one g x (y ∷ ys) = ap (λ f. least_with (Some f) ys) (lesser_swaps g x y) ∙ least_with_one (Some (lesser g y)) x ys

pub least_swaps : (g : Option Fault) (xs ys : List Fault) → least_with (least_with g xs) ys ≡ least_with (least_with g ys) xs
least_swaps g [] ys = refl
least_swaps g (x ∷ xs) ys = least_swaps (Some (lesser g x)) xs ys ∙ ap (λ o. least_with o xs) (least_with_one g x ys)

pub least_with-append : (g : Option Fault) (xs ys : List Fault) → least_with g (xs ++ ys) ≡ least_with (least_with g xs) ys
least_with-append g [] ys = refl
least_with-append g (x ∷ xs) ys = least_with-append (Some (lesser g x)) xs ys
