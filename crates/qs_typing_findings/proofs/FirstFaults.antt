-- The least fault is the first: it is one of them, and none is before it.
use Rattle.std.proofs.Common.{◌≡◌, ℕ, ◌⊎◌, inl, inr, Bool, true, false, ◌&&◌, ◌||◌, ◌==◌, nat_lt, if◌then◌else◌, List, [], ◌∷◌, Some, None, refl, sym, ap, ◌∙◌, subst, arith}
use Rattle.std.specs.Cmp.{first_so, second_so}
use Rattle.std.proofs.lemmas.Bool.Decides.{nat_tests, Decides-eqb}
use Rattle.std.proofs.lemmas.Bool.{or_cases}
use Rattle.qs_types.specs.declared.rules.Rule.{Rule}
use Rattle.qs_types.specs.Rules.{rule_number, same_rule, Fault}
use Rattle.qs_types.specs.UnitRules.{is_among}
use Rattle.qs_types.proofs.RuleLaws.{numbers_differ}
use Rattle.qs_typing_findings.specs.Findings.{is_before, lesser, least_with, IsFirst}
use Rattle.qs_typing_findings.proofs.LeastFaults.{irreflexive, one_way}

not_before_numbers : (a b c x y z : ℕ) → (nat_lt a b || ((a == b) && nat_lt x y)) ≡ false → (nat_lt b c || ((b == c) && nat_lt y z)) ≡ false → (nat_lt a c || ((a == c) && nat_lt x z)) ≡ false
not_before_numbers a b c x y z h i = grind (arith, nat_tests)

not_before : (f g h : Fault) → is_before f g ≡ false → is_before g h ≡ false → is_before f h ≡ false
not_before f g h = not_before_numbers f.node g.node h.node (rule_number f.rule) (rule_number g.rule) (rule_number h.rule)

not_before_self : (f : Fault) → is_before f f ≡ false
not_before_self f = irreflexive f.node (rule_number f.rule)

-- ---- one of two

abbrev fault_at : ℕ → Rule → Fault
fault_at n r = record { node = n; rule = r }

-- the test whether a fault is this one
is_this : (g : Fault) (n : ℕ) (r : Rule) → ((g.node == n) && same_rule g.rule r) ≡ true → g ≡ fault_at n r
is_this g n r h =
    let p : g.node ≡ n = (Decides-eqb g.node n).0 (first_so (g.node == n) (same_rule g.rule r) h) in
    let q : g.rule ≡ r = numbers_differ g.rule r ((Decides-eqb (rule_number g.rule) (rule_number r)).0 (second_so (g.node == n) (same_rule g.rule r) h)) in
    λ j. record { node = p j; rule = q j }

this_is : (g : Fault) → ((g.node == g.node) && same_rule g.rule g.rule) ≡ true
this_is g = ap (λ b. b && same_rule g.rule g.rule) ((Decides-eqb g.node g.node).1 refl) ∙ (Decides-eqb (rule_number g.rule) (rule_number g.rule)).1 refl

at_head : (f g : Fault) (fs : List Fault) → f ≡ g → is_among f.node f.rule (g ∷ fs) ≡ true
at_head f g fs e = subst (λ h. is_among f.node f.rule (h ∷ fs) ≡ true) e (ap (λ b. b || is_among f.node f.rule fs) (this_is f))

behind : (g : Fault) (n : ℕ) (r : Rule) (fs : List Fault) → is_among n r fs ≡ true → is_among n r (g ∷ fs) ≡ true
behind g n r fs h = by ((g.node == n) && same_rule g.rule r)
  where
    by : (b : Bool) → (b || is_among n r fs) ≡ true
    by true = refl
    by false = h

-- ---- the lesser of two is one of them, and neither is before it

pub record LesserOf (g x m : Fault) : Type 0 where
  pub one : (m ≡ g) ⊎ (m ≡ x)
  pub not_g : is_before g m ≡ false
  pub not_x : is_before x m ≡ false

lesser_by : (g x : Fault) (b : Bool) → is_before x g ≡ b → LesserOf g x (if b then x else g)
lesser_by g x true e = record { one = inr refl; not_g = one_way x.node g.node (rule_number x.rule) (rule_number g.rule) e; not_x = not_before_self x }
lesser_by g x false e = record { one = inl refl; not_g = not_before_self g; not_x = e }

lesser_of : (g x : Fault) → LesserOf g x (lesser (Some g) x)
lesser_of g x = lesser_by g x (is_before x g) refl

-- ---- the least of some

pub record LeastOf (g : Fault) (fs : List Fault) (f : Fault) : Type 0 where
  pub one : (f ≡ g) ⊎ (is_among f.node f.rule fs ≡ true)
  pub not_g : is_before g f ≡ false
  pub not_others : (n : ℕ) (r : Rule) → is_among n r fs ≡ true → is_before (fault_at n r) f ≡ false

one_of : (g x m f : Fault) (fs : List Fault) → (m ≡ g) ⊎ (m ≡ x) → (f ≡ m) ⊎ (is_among f.node f.rule fs ≡ true) → (f ≡ g) ⊎ (is_among f.node f.rule (x ∷ fs) ≡ true)
one_of g x m f fs (inl a) (inl b) = inl (b ∙ a)
one_of g x m f fs (inr a) (inl b) = inr (at_head f x fs (b ∙ a))
one_of g x m f fs a (inr b) = inr (behind x f.node f.rule fs b)

none_of : (g x m f : Fault) (fs : List Fault) → LesserOf g x m → is_before m f ≡ false → ((n : ℕ) (r : Rule) → is_among n r fs ≡ true → is_before (fault_at n r) f ≡ false)
    → (n : ℕ) (r : Rule) → ((((x.node == n) && same_rule x.rule r) ≡ true) ⊎ (is_among n r fs ≡ true)) → is_before (fault_at n r) f ≡ false
none_of g x m f fs l first others n r (inl here) = subst (λ h. is_before h f ≡ false) (is_this x n r here) (not_before x m f l.not_x first)
none_of g x m f fs l first others n r (inr there) = others n r there

least_of : (g f : Fault) (fs : List Fault) → least_with (Some g) fs ≡ Some f → LeastOf g fs f
least_of g f [] e =
    let q : g ≡ f = cc in
    record { one = inl (sym q); not_g = subst (λ h. is_before g h ≡ false) q (not_before_self g); not_others = λ n r h. absurd (cc) }
least_of g f (x ∷ fs) e =
    let l : LesserOf g x (lesser (Some g) x) = lesser_of g x in
    let r : LeastOf (lesser (Some g) x) fs f = least_of (lesser (Some g) x) f fs e in
    record {
      one = one_of g x (lesser (Some g) x) f fs l.one r.one;
      not_g = not_before g (lesser (Some g) x) f l.not_g r.not_g;
      not_others = λ n k h. none_of g x (lesser (Some g) x) f fs l r.not_g r.not_others n k (or_cases ((x.node == n) && same_rule x.rule k) (is_among n k fs) h);
    }

some_left : (g : Fault) (fs : List Fault) → least_with (Some g) fs ≡ None → ⊥
some_left g [] e = cc
some_left g (x ∷ fs) e = some_left (lesser (Some g) x) fs e

-- no fault is found exactly where there is none
pub none_found : (fs : List Fault) → least_with None fs ≡ None → fs ≡ []
none_found [] e = refl
none_found (x ∷ fs) e = absurd (some_left x fs e)

-- the fault that is found is the first
pub first_found : (fs : List Fault) (f : Fault) → least_with None fs ≡ Some f → IsFirst fs f
first_found [] f e = absurd (cc)
first_found (x ∷ fs) f e =
    let r : LeastOf x fs f = least_of x f fs e in
    record {
      found = elim r.one [ inl q ↦ at_head f x fs q | inr i ↦ behind x f.node f.rule fs i ];
      least = λ n k h. by n k (or_cases ((x.node == n) && same_rule x.rule k) (is_among n k fs) h) r;
    }
  where
    by : (n : ℕ) (k : Rule) → ((((x.node == n) && same_rule x.rule k) ≡ true) ⊎ (is_among n k fs ≡ true)) → LeastOf x fs f → is_before (fault_at n k) f ≡ false
    by n k (inl here) r = subst (λ h. is_before h f ≡ false) (is_this x n k here) r.not_g
    by n k (inr there) r = r.not_others n k there
