-- A node of a certificate has no fault where its own conditions hold and its parts have none; one law for each rule.
use Rattle.std.proofs.Common.{◌≡◌, ℕ, suc, ap, ◌∙◌, Bool, true, false, List, [], ◌∷◌, Result, Ok, None, Some}
use Rattle.std.specs.Prelude.{pos, ◌==◌, ◌&&◌, if◌then◌else◌}
use Rattle.std.proofs.lemmas.Bool.{eq-eqb}
use Rattle.qs_assert.specs.declared.define.Define.{Define}
use Rattle.std.specs.Option.{option_or}
use Rattle.qs_assert.proofs.SamenessLaws.{assertion_self, cond_self}
use Rattle.qs_assert.specs.Trees.{CondTree, not, AssertionTree, natural, infinity, guard, choose, greatest, total, AssertionTrees, no_assertions, assertion_and}
use Rattle.qs_base.specs.Results.{bind}
use Rattle.qs_poly.specs.Polynomials.{Polynomial}
use Rattle.qs_poly.specs.Operations.{sum}
use Rattle.qs_entail.specs.declared.fault.Rule.TheVariants as rules
use Rattle.qs_entail.specs.Building.{Stop, limited, item_polynomial, item_polynomials, sum_all}
use Rattle.qs_entail.specs.Certificates.{Item, FactTree, CertTree, same, via, pick, all, parts, assume, drop, split, contradict, arithmetic, by_definition, fact, CertTrees, no_certs, cert_and}
use Rattle.qs_entail.specs.Facts.{added}
use Rattle.qs_entail.specs.Faults.{step, node, part, branch, count, count_certs, member, definition, unfolded, arithmetic_holds, contradiction}
use Rattle.qs_entail.specs.Pushing.{Known, with_polynomials, at_first, push}
use Rattle.qs_entail.specs.Verdicts.{is_given, outlined, fact_stands, stands, fault, rest, faults_all, faults_parts, verdict}

-- a step behind one that gives a
pub bound : {A B : Type 0} (r : Result A Stop) (a : A) (next : A → Result B Stop) (z : Result B Stop) → r ≡ Ok a → next a ≡ z → bind r next ≡ z
bound r a next z h e = ap (λ x. bind x next) h ∙ e

pub fault_fact :
    (f : FactTree) (c : CertTree) (ds : List Define) (k : Known) (p q : AssertionTree) (ps : List Polynomial) → fact_stands f (outlined k) ≡ true → added f k ≡ Ok ps
    → fault c ds (with_polynomials ps k) p q ≡ None → fault (fact f c) ds k p q ≡ None
fault_fact f c ds k p q ps s a h =
    ap (λ (b : Bool). if b then rest (fact f c) ds k p q else Some (step [] rules.Fact)) s
    ∙ ap (λ (r : Result (List Polynomial) Stop). node rules.Fact r (λ ps. part 0 (fault c ds (with_polynomials ps k) p q))) a
    ∙ ap (part 0) h

pub fault_arithmetic :
    (w : List Item) (ds : List Define) (k : Known) (p q : AssertionTree) → stands (arithmetic w) ds (outlined k) p q ≡ true → arithmetic_holds w k p q ≡ Ok tt
    → fault (arithmetic w) ds k p q ≡ None
fault_arithmetic w ds k p q s a =
    ap (λ (b : Bool). if b then rest (arithmetic w) ds k p q else Some (step [] rules.Arithmetic)) s
    ∙ ap (λ (r : Result (Unit {0}) Stop). node rules.Arithmetic r (λ _. None)) a

pub fault_assume :
    (c : CertTree) (ds : List Define) (k k' : Known) (b : CondTree) (a q : AssertionTree) → push b k ≡ Ok k' → fault c ds k' a q ≡ None
    → fault (assume c) ds k (guard b a) q ≡ None
fault_assume c ds k k' b a q s h =
    ap (λ (r : Result Known Stop). node rules.Assume r (λ k'. part 0 (fault c ds k' a q))) s ∙ ap (part 0) h

pub fault_same : (ds : List Define) (k : Known) (a : AssertionTree) → fault same ds k a a ≡ None
fault_same ds k a = ap (λ (b : Bool). if b then None else Some (step [] rules.Same)) (assertion_self a)

pub fault_drop :
    (c d : CertTree) (ds : List Define) (k k' : Known) (b : CondTree) (p a : AssertionTree) → push (not b) k ≡ Ok k' → fault c ds k' (natural 0) infinity ≡ None → fault d ds k p a ≡ None
    → fault (drop c d) ds k p (guard b a) ≡ None
fault_drop c d ds k k' b p a s h e =
    ap (λ (r : Result Known Stop). node rules.DropGuard r (λ k'. option_or (part 0 (fault c ds k' (natural 0) infinity)) (part 1 (fault d ds k p a)))) s
    ∙ ap (λ x. option_or (part 0 x) (part 1 (fault d ds k p a))) h
    ∙ ap (part 1) e

pub fault_split :
    (b : CondTree) (c d : CertTree) (ds : List Define) (k k' k'' : Known) (p q : AssertionTree) → push b k ≡ Ok k' → push (not b) k ≡ Ok k''
    → fault c ds k' (branch b true p) (branch b true q) ≡ None → fault d ds k'' (branch b false p) (branch b false q) ≡ None → fault (split b c d) ds k p q ≡ None
fault_split b c d ds k k' k'' p q s t h e =
    ap (λ (r : Result Known Stop). node rules.Split r (λ k'. node rules.Split (push (not b) k) (λ k''.
    option_or (part 0 (fault c ds k' (branch b true p) (branch b true q))) (part 1 (fault d ds k'' (branch b false p) (branch b false q)))))) s
    ∙ ap (λ (r : Result Known Stop). node rules.Split r (λ k''.
    option_or (part 0 (fault c ds k' (branch b true p) (branch b true q))) (part 1 (fault d ds k'' (branch b false p) (branch b false q))))) t
    ∙ ap (λ x. option_or (part 0 x) (part 1 (fault d ds k'' (branch b false p) (branch b false q)))) h
    ∙ ap (part 1) e

-- the branches of a conditional, where no other stands
pub fault_choice :
    (b : CondTree) (c d : CertTree) (ds : List Define) (k k' k'' : Known) (p x y : AssertionTree) → ((first : Bool) → branch b first p ≡ p) → branch b true x ≡ x → branch b false y ≡ y
    → push b k ≡ Ok k' → push (not b) k ≡ Ok k'' → fault c ds k' p x ≡ None → fault d ds k'' p y ≡ None → fault (split b c d) ds k p (choose b x y) ≡ None
fault_choice b c d ds k k' k'' p x y p_plain x_plain y_plain s t h e =
    fault_split b c d ds k k' k'' p (choose b x y) s t
    (ap (λ (z : Bool). fault c ds k' (branch b true p) (if z then branch b true x else choose b (branch b true x) (branch b true y))) (cond_self b)
    ∙ ap (λ (a : AssertionTree). fault c ds k' a (branch b true x)) (p_plain true) ∙ ap (λ (a : AssertionTree). fault c ds k' p a) x_plain ∙ h)
    (ap (λ (z : Bool). fault d ds k'' (branch b false p) (if z then branch b false y else choose b (branch b false x) (branch b false y))) (cond_self b)
    ∙ ap (λ (a : AssertionTree). fault d ds k'' a (branch b false y)) (p_plain false) ∙ ap (λ (a : AssertionTree). fault d ds k'' p a) y_plain ∙ e)

pub fault_contradict :
    (w : List Item) (ds : List Define) (k : Known) (p q : AssertionTree) → stands (contradict w) ds (outlined k) p q ≡ true → contradiction w k ≡ Ok tt
    → fault (contradict w) ds k p q ≡ None
fault_contradict w ds k p q s a =
    ap (λ (b : Bool). if b then rest (contradict w) ds k p q else Some (step [] rules.Contradict)) s
    ∙ ap (λ (r : Result (Unit {0}) Stop). node rules.Contradict r (λ _. None)) a

pub fault_via :
    (r : AssertionTree) (c d : CertTree) (ds : List Define) (k : Known) (p q : AssertionTree) → fault c ds k p r ≡ None → fault d ds k r q ≡ None
    → fault (via r c d) ds k p q ≡ None
fault_via r c d ds k p q h e = ap (λ x. option_or (part 0 x) (part 1 (fault d ds k r q))) h ∙ ap (part 1) e

pub fault_pick :
    (c : CertTree) (ds : List Define) (k : Known) (members : AssertionTrees) (i : ℕ) (a q : AssertionTree) → member members i ≡ Ok a → fault c ds k a q ≡ None
    → fault (pick (pos i) c) ds k (greatest members) q ≡ None
fault_pick c ds k members i a q is h =
    ap (λ (r : Result AssertionTree Stop). if is_given r then node rules.Pick r (λ a. part 0 (fault c ds k a q)) else Some (step [] rules.Pick)) is
    ∙ ap (part 0) h

pub fault_unfold :
    (ds : List Define) (k : Known) (n : List ℕ) (body p q : AssertionTree) (c : CertTree) → definition ds n ≡ Ok body
    → fault c ds k (unfolded n body p) (unfolded n body q) ≡ None → fault (by_definition n c) ds k p q ≡ None
fault_unfold ds k n body p q c is h =
    ap (λ (r : Result AssertionTree Stop). if is_given r then node rules.ByDefinition r (λ body. part 0 (fault c ds k (unfolded n body p) (unfolded n body q))) else Some (step [] rules.ByDefinition)) is
    ∙ ap (part 0) h

-- the maximum of two, and the sum of two
pub fault_both :
    (c d : CertTree) (ds : List Define) (k : Known) (p a b : AssertionTree) → fault c ds k p a ≡ None → fault d ds k p b ≡ None
    → fault (all (cert_and c (cert_and d no_certs))) ds k p (greatest (assertion_and a (assertion_and b no_assertions))) ≡ None
fault_both c d ds k p a b h e =
    ap (λ x. option_or (part 0 x) (option_or (part 1 (fault d ds k p b)) None)) h ∙ ap (λ x. option_or (part 1 x) None) e

pub fault_sum :
    (c d : CertTree) (ds : List Define) (k : Known) (p q a b : AssertionTree) → fault c ds k p a ≡ None → fault d ds k q b ≡ None
    → fault (parts (cert_and c (cert_and d no_certs))) ds k (total (assertion_and p (assertion_and q no_assertions))) (total (assertion_and a (assertion_and b no_assertions))) ≡ None
fault_sum c d ds k p q a b h e =
    ap (λ x. option_or (part 0 x) (option_or (part 1 (fault d ds k q b)) None)) h ∙ ap (λ x. option_or (part 1 x) None) e

pub fault_all :
    (cs : CertTrees) (ds : List Define) (k : Known) (p : AssertionTree) (members : AssertionTrees) → count_certs cs ≡ count members → faults_all cs 0 ds k p members ≡ None
    → fault (all cs) ds k p (greatest members) ≡ None
fault_all cs ds k p members n h =
    ap (λ (b : Bool). if b then faults_all cs 0 ds k p members else Some (step [] rules.All)) (eq-eqb (count_certs cs) (count members) n) ∙ h

pub fault_parts :
    (cs : CertTrees) (ds : List Define) (k : Known) (ps qs : AssertionTrees) → count_certs cs ≡ count ps → count_certs cs ≡ count qs → faults_parts cs 0 ds k ps qs ≡ None
    → fault (parts cs) ds k (total ps) (total qs) ≡ None
fault_parts cs ds k ps qs m n h =
    ap (λ (b : Bool). if b && (count_certs cs == count qs) then faults_parts cs 0 ds k ps qs else Some (step [] rules.Parts)) (eq-eqb (count_certs cs) (count ps) m)
    ∙ ap (λ (b : Bool). if b then faults_parts cs 0 ds k ps qs else Some (step [] rules.Parts)) (eq-eqb (count_certs cs) (count qs) n) ∙ h

-- one more member, and one more summand; i is its number
pub one_more_member :
    (i : ℕ) (c : CertTree) (cs : CertTrees) (ds : List Define) (k : Known) (p a : AssertionTree) (members : AssertionTrees) → fault c ds k p a ≡ None
    → faults_all cs (suc i) ds k p members ≡ None → faults_all (cert_and c cs) i ds k p (assertion_and a members) ≡ None
one_more_member i c cs ds k p a members h e = ap (λ x. option_or (part i x) (faults_all cs (suc i) ds k p members)) h ∙ e

pub one_more_summand :
    (i : ℕ) (c : CertTree) (cs : CertTrees) (ds : List Define) (k : Known) (p q : AssertionTree) (ps qs : AssertionTrees) → fault c ds k p q ≡ None
    → faults_parts cs (suc i) ds k ps qs ≡ None → faults_parts (cert_and c cs) i ds k (assertion_and p ps) (assertion_and q qs) ≡ None
one_more_summand i c cs ds k p q ps qs h e = ap (λ x. option_or (part i x) (faults_parts cs (suc i) ds k ps qs)) h ∙ e

-- a root under no hypotheses is a node at which 1 is known to be at least 0
pub verdict_is : (ds : List Define) (p q : AssertionTree) (c : CertTree) → fault c ds at_first p q ≡ None → verdict [] ds p q c ≡ None
verdict_is ds p q c h = h

pub verdict_same : (ds : List Define) (a : AssertionTree) → verdict [] ds a a same ≡ None
verdict_same ds a = fault_same ds at_first a

-- ---- combinations

pub one_item :
    (i : Item) (items : List Item) (l : List Polynomial) (p : Polynomial) (ps : List Polynomial) → item_polynomial i l ≡ Ok p → item_polynomials items l ≡ Ok ps
    → item_polynomials (i ∷ items) l ≡ Ok (p ∷ ps)
one_item i items l p ps h e =
    ap (λ (r : Result Polynomial Stop). bind r (λ p. bind (item_polynomials items l) (λ ps. Ok (p ∷ ps)))) h ∙ ap (λ (r : Result (List Polynomial) Stop). bind r (λ ps. Ok (p ∷ ps))) e

pub one_sum :
    (p q : Polynomial) (qs : List Polynomial) (z : Result Polynomial Stop) → limited (sum p q) ≡ Ok (sum p q) → sum_all (sum p q) qs ≡ z → sum_all p (q ∷ qs) ≡ z
one_sum p q qs z h e = ap (λ (r : Result Polynomial Stop). bind r (λ r. sum_all r qs)) h ∙ e
