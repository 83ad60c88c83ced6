-- A certificate without a fault shows what it says.
use Rattle.std.proofs.Common.{◌≡◌, ℕ, zero, suc, ◌≤◌, refl, sym, ap, ◌∙◌, subst, arith, true, false}
use Rattle.std.specs.Prelude.{ℤ, pos, negsuc, ◌≤ℤ◌, Bool, if◌then◌else◌, ◌&&◌, List, [], Option, Some, None, Result, Ok, Err}
use Rattle.std.specs.Prelude.{not as flip}
use Rattle.std.proofs.lemmas.Int.{ints}
use Rattle.std.proofs.lemmas.List.Elements.{All-nil, All-cons}
use Rattle.std.specs.Option.{option_or}
use Rattle.std.proofs.lemmas.Bool.{and_parts, eqb-true}
use Rattle.qs_assert.specs.declared.define.Define.{Define}
use Rattle.qs_entail.specs.declared.fault.Rule.{Rule}
use Rattle.qs_entail.specs.declared.fault.Rule.TheVariants as rules
use Rattle.qs_assert.specs.Trees.{not, AssertionTree, natural, infinity, total, greatest, guard, AssertionTrees, no_assertions, assertion_and}
use Rattle.qs_assert.specs.Values.{State, Extended, finite, infinite, holds, or_infinite, value, sum_of, greatest_of, greater}
use Rattle.qs_assert.proofs.SamenessLaws.{assertion_same}
use Rattle.qs_poly.specs.Operations.{number}
use Rattle.qs_poly.specs.Terms.{polynomial_eq}
use Rattle.qs_poly.specs.Values.{polynomial_value}
use Rattle.qs_poly.proofs.ValueLaws.{number_value}
use Rattle.qs_entail.specs.Certificates.{Item, CertTree, same, via, pick, all, parts, assume, drop, split, contradict, arithmetic, by_definition, fact, CertTrees, no_certs, cert_and}
use Rattle.qs_base.specs.Results.{bind}
use Rattle.qs_entail.specs.Building.{Stop, difference, combination, is_plain, assertion_polynomial}
use Rattle.qs_entail.specs.Pushing.{Known, at_first, with_polynomials, push, push_list}
use Rattle.qs_entail.specs.Facts.{added}
use Rattle.qs_entail.specs.Faults.{CertFault, step, node, part, done, member, member_at, members_of, summands_of, Guarded, guarded_of, count, count_certs, branch, unfolded, definition, contradiction, arithmetic_holds}
use Rattle.qs_entail.specs.Verdicts.{are_counted, has_count, stands, outline_list, rule_of, outlined, outlined_first, rest, faults_all, faults_parts, fault}
use Rattle.qs_entail.specs.Meaning.{AtLeast, InRange, defined_by, IsSound}
use Rattle.qs_entail.proofs.BuildingLaws.{bind_ok, require_ok, difference_value}
use Rattle.qs_entail.proofs.Assertions.{IsNotNegative, combination_not_negative, assertion_polynomial_value}
use Rattle.qs_entail.proofs.PushingLaws.{Holds, made, more_polynomials, push_holds, push_list_holds}
use Rattle.qs_entail.proofs.Amounts.{at_least_itself, at_least_through, first_at_most, second_at_most, both_at_most, sums_at_least, zero_at_most}
use Rattle.qs_entail.proofs.ReplacementLaws.{branch_value, unfolded_value}
use Rattle.qs_entail.proofs.FactLaws.{same_value, fact_holds}
use Rattle.qs_entail.proofs.OneVerdict.{list_outlined}
use Rattle.qs_entail.proofs.Definitions.{names_given, still_in_range}

-- ---- verdicts without a fault

node_none : {A : Type 0} (rule : Rule) (r : Result A Stop) (f : A → Option CertFault) → node rule r f ≡ None → (a : A) × ((r ≡ Ok a) × (f a ≡ None))
node_none rule (Ok a) f h = (a, (refl, h))
node_none rule (Err failure) f h = cc

first_none : (v u : Option CertFault) → option_or v u ≡ None → (v ≡ None) × (u ≡ None)
first_none None u h = (refl, h)
first_none (Some f) u h = cc

begun_none : (b : Bool) (v : Option CertFault) (f : CertFault) → (if b then v else Some f) ≡ None → (b ≡ true) × (v ≡ None)
begun_none true v f h = (refl, h)
begun_none false v f h = cc

-- a part without a fault
part_none : (i : ℕ) (b : Bool) (v : Option CertFault) (f : CertFault) → part i (if b then v else Some f) ≡ None → (b ≡ true) × (v ≡ None)
part_none i true None f h = (refl, refl)
part_none i true (Some g) f h = cc
part_none i false v f h = cc

-- ---- the shapes of assertions

is_greatest : (a : AssertionTree) (members : AssertionTrees) → members_of a ≡ Ok members → a ≡ greatest members
is_greatest (greatest ms) members h = ap greatest (made ms members h)
is_greatest _ members h = cc

is_total : (a : AssertionTree) (summands : AssertionTrees) → summands_of a ≡ Ok summands → a ≡ total summands
is_total (total ss) summands h = ap total (made ss summands h)
is_total _ summands h = cc

is_guard : (a : AssertionTree) (g : Guarded) → guarded_of a ≡ Ok g → a ≡ guard g.condition g.body
is_guard (guard c a) g h = ap (λ (x : Guarded). guard x.condition x.body) (made (record { condition = c; body = a }) g h)
is_guard _ g h = cc

member_at_most : (members : AssertionTrees) (i : ℕ) (a : AssertionTree) (s : State) → member members i ≡ Ok a → AtLeast (greatest_of members s) (value a s)
member_at_most no_assertions i a s h = cc
member_at_most (assertion_and b others) zero a s h =
    subst (λ c. AtLeast (greater (value b s) (greatest_of others s)) (value c s)) (made b a h) (first_at_most (value b s) (greatest_of others s))
member_at_most (assertion_and b others) (suc i) a s h =
    at_least_through (greater (value b s) (greatest_of others s)) (greatest_of others s) (value a s) (second_at_most (value b s) (greatest_of others s)) (member_at_most others i a s h)

picked_at_most : (members : AssertionTrees) (i : ℤ) (a : AssertionTree) (s : State) → member_at members i ≡ Ok a → AtLeast (greatest_of members s) (value a s)
picked_at_most members (pos i) a s h = member_at_most members i a s h
picked_at_most members (negsuc i) a s h = cc

guarded : (b : Bool) (a v : Extended) → (b ≡ true → AtLeast a v) → AtLeast (if b then a else infinite) v
guarded true a v h = h refl
guarded false a v h = tt

unguarded : (b : Bool) (v a : Extended) → (b ≡ false → AtLeast (finite 0) infinite) → AtLeast v a → AtLeast v (if b then a else infinite)
unguarded true v a h k = k
unguarded false v a h k = absurd (h refl)

by_cases : (b : Bool) (P : Type 0) → (b ≡ true → P) → (b ≡ false → P) → P
by_cases true P h k = h refl
by_cases false P h k = k refl

moved : {a a' b b' : Extended} → a' ≡ a → b' ≡ b → AtLeast a' b' → AtLeast a b
moved {a = a} {b' = b'} p q h = subst (λ x. AtLeast a x) q (subst (λ x. AtLeast x b') p h)

-- ---- rules on polynomials

contradicts : (w : List Item) (k : Known) (s : State) → contradiction w k ≡ done → Holds k s → ⊥
contradicts w k s e h =
    let z = bind_ok (combination w k.polynomials) _ tt e in
    let q = require_ok (polynomial_eq z.0 (number (negsuc 0))) _ tt z.1.1 in
    let n = combination_not_negative w k.polynomials z.0 s h.polynomials z.1.0 in
    let f = same_value z.0 (number (negsuc 0)) s q.0 in
    let l = number_value (negsuc 0) s in
    omega (arith, ints, n, f, l)

by_arithmetic : (w : List Item) (k : Known) (p q : AssertionTree) (s : State) → is_plain p ≡ true → is_plain q ≡ true → arithmetic_holds w k p q ≡ done → Holds k s → AtLeast (value p s) (value q s)
by_arithmetic w k p q s l r e h =
    let a = bind_ok (assertion_polynomial p) _ tt e in
    let b = bind_ok (assertion_polynomial q) _ tt a.1.1 in
    let c = bind_ok (combination w k.polynomials) _ tt b.1.1 in
    let d = bind_ok (difference a.0 b.0) _ tt c.1.1 in
    let f = require_ok (polynomial_eq c.0 d.0) _ tt d.1.1 in
    let u = assertion_polynomial_value p a.0 s l a.1.0 in
    let v = assertion_polynomial_value q b.0 s r b.1.0 in
    let n = combination_not_negative w k.polynomials c.0 s h.polynomials c.1.0 in
    let g = same_value c.0 d.0 s f.0 in
    let x = difference_value a.0 b.0 d.0 s d.1.0 in
    let un = u.value_is in
    let vn = v.value_is in
    let le : v.n ≤ u.n = omega (arith, ints, n, g, x, un, vn) in
    subst (λ x. AtLeast x (value q s)) (sym u.is) (subst (λ x. AtLeast (finite u.n) x) (sym v.is) le)

-- ---- all rules

-- names have the values of their bodies
abbrev Fits : List Define → State → Type 0
Fits ds s = (n : List ℕ) (body : AssertionTree) → definition ds n ≡ Ok body → or_infinite (s.names n) ≡ value body s

-- as many as are wanted
counted : (n : ℕ) (r : Result AssertionTrees Stop) (ms : AssertionTrees) → r ≡ Ok ms → has_count n (bind r (λ parts. Ok (count parts))) ≡ true → n ≡ count ms
counted n r ms e h = eqb-true n (count ms) (sym (ap (λ (x : Result AssertionTrees Stop). has_count n (bind x (λ parts. Ok (count parts)))) e) ∙ h)

mutual
  sound : (c : CertTree) (ds : List Define) (k : Known) (p q : AssertionTree) → stands c ds (outlined k) p q ≡ true → rest c ds k p q ≡ None → (s : State) → InRange s → Fits ds s → Holds k s → AtLeast (value p s) (value q s)
  sound same ds k p q st e s r f h =
      subst (λ x. AtLeast (value p s) (value x s)) (assertion_same p q st) (at_least_itself (value p s))
  sound (via m c d) ds k p q st e s r f h =
      let a = first_none (part 0 (fault c ds k p m)) (part 1 (fault d ds k m q)) e in
      let u = part_none 0 (stands c ds (outlined k) p m) (rest c ds k p m) (step [] (rule_of c)) a.0 in
      let v = part_none 1 (stands d ds (outlined k) m q) (rest d ds k m q) (step [] (rule_of d)) a.1 in
      at_least_through (value p s) (value m s) (value q s) (sound c ds k p m u.0 u.1 s r f h) (sound d ds k m q v.0 v.1 s r f h)
  sound (pick i c) ds k p q st e s r f h =
      let a = node_none rules.Pick (bind (members_of p) (λ members. member_at members i)) (λ a. part 0 (fault c ds k a q)) e in
      let b = bind_ok (members_of p) (λ members. member_at members i) a.0 a.1.0 in
      let u = part_none 0 (stands c ds (outlined k) a.0 q) (rest c ds k a.0 q) (step [] (rule_of c)) a.1.1 in
      subst (λ x. AtLeast (value x s) (value q s)) (sym (is_greatest p b.0 b.1.0))
      (at_least_through (greatest_of b.0 s) (value a.0 s) (value q s) (picked_at_most b.0 i a.0 s b.1.1) (sound c ds k a.0 q u.0 u.1 s r f h))
  sound (all cs) ds k p q st e s r f h =
      let a = node_none rules.All (members_of q) (λ members. faults_all cs 0 ds k p members) e in
      let n = counted (count_certs cs) (members_of q) a.0 a.1.0 st in
      subst (λ x. AtLeast (value p s) (value x s)) (sym (is_greatest q a.0 a.1.0)) (sound_all cs 0 ds k p a.0 n a.1.1 s r f h)
  sound (parts cs) ds k p q st e s r f h =
      let a = node_none rules.Parts (summands_of p) (λ left. node rules.Parts (summands_of q) (λ right. faults_parts cs 0 ds k left right)) e in
      let b = node_none rules.Parts (summands_of q) (λ right. faults_parts cs 0 ds k a.0 right) a.1.1 in
      let t = and_parts (has_count (count_certs cs) (bind (summands_of p) (λ summands. Ok (count summands)))) (has_count (count_certs cs) (bind (summands_of q) (λ summands. Ok (count summands)))) st in
      let m = counted (count_certs cs) (summands_of p) a.0 a.1.0 t.0 in
      let n = counted (count_certs cs) (summands_of q) b.0 b.1.0 t.1 in
      subst (λ x. AtLeast (value x s) (value q s)) (sym (is_total p a.0 a.1.0))
      (subst (λ x. AtLeast (sum_of a.0 s) (value x s)) (sym (is_total q b.0 b.1.0)) (sound_parts cs 0 ds k a.0 b.0 m n b.1.1 s r f h))
  sound (assume c) ds k p q st e s r f h =
      let a = node_none rules.Assume (guarded_of p) (λ g. node rules.Assume (push g.condition k) (λ k'. part 0 (fault c ds k' g.body q))) e in
      let g = a.0 in
      let b = node_none rules.Assume (push g.condition k) (λ k'. part 0 (fault c ds k' g.body q)) a.1.1 in
      let u = part_none 0 (stands c ds (outlined b.0) g.body q) (rest c ds b.0 g.body q) (step [] (rule_of c)) b.1.1 in
      subst (λ x. AtLeast (value x s) (value q s)) (sym (is_guard p g a.1.0))
      (guarded (holds g.condition s) (value g.body s) (value q s) (λ t. sound c ds b.0 g.body q u.0 u.1 s r f (push_holds g.condition k b.0 s b.1.0 t h)))
  sound (drop c d) ds k p q st e s r f h =
      let a = node_none rules.DropGuard (guarded_of q) (λ g. node rules.DropGuard (push (not g.condition) k) (λ k'. option_or (part 0 (fault c ds k' (natural 0) infinity)) (part 1 (fault d ds k p g.body)))) e in
      let g = a.0 in
      let b = node_none rules.DropGuard (push (not g.condition) k) (λ k'. option_or (part 0 (fault c ds k' (natural 0) infinity)) (part 1 (fault d ds k p g.body))) a.1.1 in
      let v = first_none (part 0 (fault c ds b.0 (natural 0) infinity)) (part 1 (fault d ds k p g.body)) b.1.1 in
      let x = part_none 0 (stands c ds (outlined b.0) (natural 0) infinity) (rest c ds b.0 (natural 0) infinity) (step [] (rule_of c)) v.0 in
      let y = part_none 1 (stands d ds (outlined k) p g.body) (rest d ds k p g.body) (step [] (rule_of d)) v.1 in
      subst (λ x. AtLeast (value p s) (value x s)) (sym (is_guard q g a.1.0))
      (unguarded (holds g.condition s) (value p s) (value g.body s)
      (λ t. sound c ds b.0 (natural 0) infinity x.0 x.1 s r f (push_holds (not g.condition) k b.0 s b.1.0 (ap flip t) h))
      (sound d ds k p g.body y.0 y.1 s r f h))
  sound (split b c d) ds k p q st e s r f h =
      let x = node_none rules.Split (push b k) (λ k'. node rules.Split (push (not b) k) (λ k''. option_or (part 0 (fault c ds k' (branch b true p) (branch b true q))) (part 1 (fault d ds k'' (branch b false p) (branch b false q))))) e in
      let y = node_none rules.Split (push (not b) k) (λ k''. option_or (part 0 (fault c ds x.0 (branch b true p) (branch b true q))) (part 1 (fault d ds k'' (branch b false p) (branch b false q)))) x.1.1 in
      let v = first_none (part 0 (fault c ds x.0 (branch b true p) (branch b true q))) (part 1 (fault d ds y.0 (branch b false p) (branch b false q))) y.1.1 in
      let m = part_none 0 (stands c ds (outlined x.0) (branch b true p) (branch b true q)) (rest c ds x.0 (branch b true p) (branch b true q)) (step [] (rule_of c)) v.0 in
      let n = part_none 1 (stands d ds (outlined y.0) (branch b false p) (branch b false q)) (rest d ds y.0 (branch b false p) (branch b false q)) (step [] (rule_of d)) v.1 in
      by_cases (holds b s) (AtLeast (value p s) (value q s))
      (λ t. moved (branch_value b true p s t) (branch_value b true q s t) (sound c ds x.0 (branch b true p) (branch b true q) m.0 m.1 s r f (push_holds b k x.0 s x.1.0 t h)))
      (λ t. moved (branch_value b false p s t) (branch_value b false q s t) (sound d ds y.0 (branch b false p) (branch b false q) n.0 n.1 s r f (push_holds (not b) k y.0 s y.1.0 (ap flip t) h)))
  sound (contradict w) ds k p q st e s r f h =
      let a = node_none rules.Contradict (contradiction w k) (λ _. None) e in
      absurd (contradicts w k s a.1.0 h)
  sound (arithmetic w) ds k p q st e s r f h =
      let a = node_none rules.Arithmetic (arithmetic_holds w k p q) (λ _. None) e in
      let t = and_parts (is_plain p && is_plain q) (are_counted w (outlined k).count) st in
      let l = and_parts (is_plain p) (is_plain q) t.0 in
      by_arithmetic w k p q s l.0 l.1 a.1.0 h
  sound (by_definition n c) ds k p q st e s r f h =
      let a = node_none rules.ByDefinition (definition ds n) (λ body. part 0 (fault c ds k (unfolded n body p) (unfolded n body q))) e in
      let b = f n a.0 a.1.0 in
      let u = part_none 0 (stands c ds (outlined k) (unfolded n a.0 p) (unfolded n a.0 q)) (rest c ds k (unfolded n a.0 p) (unfolded n a.0 q)) (step [] (rule_of c)) a.1.1 in
      moved (unfolded_value n a.0 p s b) (unfolded_value n a.0 q s b) (sound c ds k (unfolded n a.0 p) (unfolded n a.0 q) u.0 u.1 s r f h)
  sound (fact g c) ds k p q st e s r f h =
      let a = node_none rules.Fact (added g k) (λ ps. part 0 (fault c ds (with_polynomials ps k) p q)) e in
      let u = part_none 0 (stands c ds (outlined (with_polynomials a.0 k)) p q) (rest c ds (with_polynomials a.0 k) p q) (step [] (rule_of c)) a.1.1 in
      sound c ds (with_polynomials a.0 k) p q u.0 u.1 s r f (more_polynomials a.0 k s h (fact_holds g k a.0 s a.1.0 st r h))

  sound_all : (cs : CertTrees) (i : ℕ) (ds : List Define) (k : Known) (p : AssertionTree) (members : AssertionTrees) → count_certs cs ≡ count members → faults_all cs i ds k p members ≡ None → (s : State) → InRange s → Fits ds s → Holds k s → AtLeast (value p s) (greatest_of members s)
  sound_all no_certs i ds k p no_assertions n e s r f h = zero_at_most (value p s)
  sound_all no_certs i ds k p (assertion_and q others) n e s r f h = absurd (omega arith)
  sound_all (cert_and c cs) i ds k p no_assertions n e s r f h = absurd (omega arith)
  sound_all (cert_and c cs) i ds k p (assertion_and q others) n e s r f h =
      let a = first_none (part i (fault c ds k p q)) (faults_all cs (suc i) ds k p others) e in
      let u = part_none i (stands c ds (outlined k) p q) (rest c ds k p q) (step [] (rule_of c)) a.0 in
      both_at_most (value p s) (value q s) (greatest_of others s) (sound c ds k p q u.0 u.1 s r f h) (sound_all cs (suc i) ds k p others (omega arith) a.1 s r f h)

  sound_parts : (cs : CertTrees) (i : ℕ) (ds : List Define) (k : Known) (left right : AssertionTrees) → count_certs cs ≡ count left → count_certs cs ≡ count right → faults_parts cs i ds k left right ≡ None → (s : State) → InRange s → Fits ds s → Holds k s → AtLeast (sum_of left s) (sum_of right s)
  sound_parts no_certs i ds k no_assertions no_assertions m n e s r f h = at_least_itself (finite 0)
  sound_parts no_certs i ds k (assertion_and p ps) right m n e s r f h = absurd (omega arith)
  sound_parts no_certs i ds k no_assertions (assertion_and q qs) m n e s r f h = absurd (omega arith)
  sound_parts (cert_and c cs) i ds k no_assertions right m n e s r f h = absurd (omega arith)
  sound_parts (cert_and c cs) i ds k (assertion_and p ps) no_assertions m n e s r f h = absurd (omega arith)
  sound_parts (cert_and c cs) i ds k (assertion_and p ps) (assertion_and q qs) m n e s r f h =
      let a = first_none (part i (fault c ds k p q)) (faults_parts cs (suc i) ds k ps qs) e in
      let u = part_none i (stands c ds (outlined k) p q) (rest c ds k p q) (step [] (rule_of c)) a.0 in
      sums_at_least (value p s) (sum_of ps s) (value q s) (sum_of qs s) (sound c ds k p q u.0 u.1 s r f h) (sound_parts cs (suc i) ds k ps qs (omega arith) (omega arith) a.1 s r f h)

pub certificates_are_sound : IsSound
certificates_are_sound hypotheses ds p q c o e s r h =
    let e' = begun_none (stands c ds (outline_list hypotheses outlined_first) p q) (node (rule_of c) (push_list hypotheses at_first) (λ k. rest c ds k p q)) (step [] (rule_of c)) e in
    let b = node_none (rule_of c) (push_list hypotheses at_first) (λ k. rest c ds k p q) e'.1 in
    let st = sym (ap (λ o. stands c ds o p q) (list_outlined hypotheses at_first b.0 b.1.0)) ∙ e'.0 in
    let t = defined_by ds s in
    let l = number_value (pos 1) t in
    let one : pos 0 ≤ℤ polynomial_value (number (pos 1)) t = omega (arith, ints, l) in
    sound c ds b.0 p q st b.1.1 t (still_in_range ds s r) (names_given ds s o)
    (push_list_holds hypotheses at_first b.0 t b.1.0 h
    (record { conditions = All-nil (λ c. holds c t ≡ true); polynomials = All-cons (IsNotNegative t) (number (pos 1)) [] one (All-nil (IsNotNegative t)) }))
