-- What is written around an assertion derives it before each statement, where certificates show what is needed behind it.
use Rattle.std.proofs.Common.{◌≡◌, ◌<◌, ℕ, zero, suc, refl, sym, ap, ◌∙◌, subst, arith, Bool, true, false, List, [], ◌∷◌, ◌++◌, length, Ok, Err}
use Rattle.std.specs.Prelude.{pos, ◌||◌, ◌&&◌, not, if◌then◌else◌, replicate, is_some, nat_lt, Option, Some, None, Result}
use Rattle.std.specs.List.{slice_get, list_all}
use Rattle.std.proofs.lemmas.Bool.{eq-eqb, and_parts}
use Rattle.std.proofs.lemmas.Bool.Decides.{nat_tests}
use Rattle.std.proofs.Math.Path.{fun_ext}
use Rattle.qs_base.specs.Results.{bind, require}
use Rattle.qs_memory.specs.declared.scalar.Scalar.{Scalar}
use Rattle.qs_calls.specs.declared.callee.Callee.{Callee}
use Rattle.qs_calls.specs.declared.callee.Callee.TheVariants.{Function, PutChar, GetChar}
use Rattle.qs_assert.specs.declared.define.Define.{Define}
use Rattle.qs_assert.specs.Sameness.{same_assertion, same_cond}
use Rattle.qs_assert.specs.Simultaneous.{first_without}
use Rattle.qs_assert.specs.Trees.{TermTree, CondTree, number, eq, not as no, AssertionTree, cost, total, greatest, choose, AssertionTrees, no_assertions, assertion_and}
use Rattle.qs_assert.proofs.SamenessLaws.{assertion_self, cond_self}
use Rattle.qs_core.specs.declared.labels.CoreLabel.{CoreLabel}
use Rattle.qs_core.specs.declared.labels.CoreLabel.TheVariants.{Case, Default}
use Rattle.qs_core.specs.declared.numbers.Target.{Target}
use Rattle.qs_core.specs.Expressions.{type_of}
use Rattle.qs_core.specs.Statements.{default_part}
use Rattle.qs_core.specs.Terms.{literal_value}
use Rattle.qs_core.specs.Trees as core
use Rattle.qs_core.specs.Trees.{CoreExprTree, CoreStmtTree, CoreStmts, no_stmts, stmt_and, CoreFunctionTree}
use Rattle.qs_poly.specs.Operations.{number as number_polynomial}
use Rattle.qs_poly.specs.Polynomials.{Polynomial}
use Rattle.qs_entail.specs.Building.{Stop, difference, term_polynomial}
use Rattle.qs_entail.specs.Certificates.{CertTree, same, all, split, no_certs}
use Rattle.qs_entail.specs.Faults.{branch, count, count_certs}
use Rattle.qs_entail.specs.Pushing.{Known, with_condition, with_polynomials, at_first, push, push_eq}
use Rattle.qs_entail.specs.Verdicts.{is_given, fault, faults_all, verdict}
use Rattle.qs_recur.proofs.StepLaws.{fault_same, fault_all, fault_both, fault_split, one_more_member, verdict_is}
use Rattle.qs_triples.specs.declared.resource.Resource.{Resource}
use Rattle.qs_triples.specs.declared.resource.Resource.TheVariants.{Stack}
use Rattle.qs_recur.specs.Around.{Way, itself, shown, certificate_of, Ways, to_itself, before, body_ways, step_ways, switch_ways, is_case, label_passes, is_among, by_cases, each_case, has_case, cases_certificate, by_way, by_switch, by_parts, call_certificate, written_call, written, all_written}
use Rattle.qs_triples.specs.Derivations.{DerivationTree, leaf, sequence, loop, switch, balanced_call, consequence, DerivationTrees, no_derivations, count_derivations, SpecTree}
use Rattle.qs_triples.specs.Entries.{is_return, ends_in_return}
use Rattle.qs_triples.specs.ExpressionTerms.{var, expression_term, expression_condition}
use Rattle.qs_triples.specs.Mentions.{in_body, first_other, first_of_destination, pre_images}
use Rattle.qs_triples.specs.Rules.{Answer, Scope, Posts, CallSite, shape, unless, unless_of, where_given_back, by_verdict, certified, target_kind, replaced, returned_rule, by_condition, either, part, step_posts, body_posts, switch_posts, with_next, two, around, at_call, is_balanced, of_spec, known_callee, balanced_rule, is_consequence, count_stmts, pre, sequence_pre, parts_pre, before_part, before_chosen, all_need, by_values, at_cases, by_term, by_labels, switched}

-- ---- what is shown

-- the certificates on conditions alone: 1 is all that is known to be at least 0
abbrev pub only : List CondTree → Known
only cs = record { conditions = cs; polynomials = number_polynomial (pos 1) ∷ [] }

-- no conditional stands in it
abbrev pub IsWithoutChoice : AssertionTree → Type 0
IsWithoutChoice a = (b : CondTree) (first : Bool) → branch b first a ≡ a

-- r is at least q by this way
abbrev pub Reaches : List Define → AssertionTree → Way → AssertionTree → Type 0
Reaches ds r itself q = q ≡ r
Reaches ds r (shown c) q =
    ((cs : List CondTree) → fault (c (length cs)) ds (only cs) r q ≡ None) × (same_assertion r q ≡ false) × IsWithoutChoice q

-- no allowed assignment and no call changes it
pub record IsClean (may : Target → Bool) (a : AssertionTree) : Type 0 where
  pub assigned : (x : Target) (e : CoreExprTree) → may x ≡ true → replaced (var (target_kind x) (type_of e)) (expression_term e) a ≡ Ok a
  pub received : (x : Option ℕ) → first_of_destination x a ≡ None

-- it is enough behind, but for what comes next
pub record Leaves (r : AssertionTree) (ds : List Define) (w : Ways) (q : Posts) : Type 0 where
  pub on_break : Reaches ds r w.on_break q.on_break
  pub on_continue : Reaches ds r w.on_continue q.on_continue
  pub on_return : Reaches ds r w.on_return q.on_return
  pub kept : (e : Option CoreExprTree) → returned_rule e q.on_return ≡ Ok q.on_return

pub record Enough (may : Target → Bool) (r : AssertionTree) (ds : List Define) (w : Ways) (q : Posts) : Type 0 where
  pub leaves : Leaves r ds w q
  pub next : Reaches ds r w.next q.next
  pub clean : IsClean may q.next

-- the callee is known and balanced, and the call is paid
pub record IsPaid (r : AssertionTree) (pay : CertTree) (c : Scope) (g : ℕ) (es : List CoreExprTree) : Type 0 where
  pub function : CoreFunctionTree
  pub spec : SpecTree
  pub stands : slice_get c.functions g ≡ Some function
  pub has_spec : c.specs g ≡ Some spec
  pub balanced : is_balanced spec ≡ true
  pub has_terms : first_without (pre_images function es) spec.pre ≡ None
  pub paid : verdict [] c.defines r (total (two (cost g) (at_call (pre_images function es) spec.pre))) pay ≡ None

-- ---- conditions that pass no limit

-- that something can be pushed doesn't depend on what is known
pushes_both : (k l : Known) (c : CondTree) (x y : Result Polynomial Stop) → is_given (bind x (λ d. bind y (λ e. Ok (with_polynomials (d ∷ e ∷ []) (with_condition c k))))) ≡ true → is_given (bind x (λ d. bind y (λ e. Ok (with_polynomials (d ∷ e ∷ []) (with_condition c l))))) ≡ true
pushes_both k l c (Ok d) (Ok e) h = refl
pushes_both k l c (Ok d) (Err s) h = cc
pushes_both k l c (Err s) y h = cc

pushes :
    (k l : Known) (c : CondTree) (a b : Result Polynomial Stop)
    → is_given (bind a (λ p. bind b (λ q. bind (difference q p) (λ d. bind (difference p q) (λ e. Ok (with_polynomials (d ∷ e ∷ []) (with_condition c k))))))) ≡ true
    → is_given (bind a (λ p. bind b (λ q. bind (difference q p) (λ d. bind (difference p q) (λ e. Ok (with_polynomials (d ∷ e ∷ []) (with_condition c l))))))) ≡ true
pushes k l c (Ok p) (Ok q) h = pushes_both k l c (difference q p) (difference p q) h
pushes k l c (Ok p) (Err s) h = cc
pushes k l c (Err s) b h = cc

found : {A : Type 0} (r : Result A Stop) → is_given r ≡ true → (a : A) × (r ≡ Ok a)
found (Ok a) i = (a, refl)
found (Err s) i = cc

-- an equation that can be pushed somewhere can be pushed everywhere
pushed_anywhere : (t u : TermTree) (k : Known) → is_given (push (eq t u) at_first) ≡ true → (k' : Known) × (push (eq t u) k ≡ Ok k')
pushed_anywhere t u k i =
    found (push_eq t u k) (pushes at_first k (eq t u) (term_polynomial t) (term_polynomial u) i)

-- ---- the cases of a switch

abbrev pub part_of : CoreLabel → ℕ
part_of (Case n part) = part
part_of (Default part) = part

abbrev pub LabelsPass : Scalar → Option TermTree → List CoreLabel → Type 0
LabelsPass s None labels = Unit {0}
LabelsPass s (Some t) labels = list_all (label_passes s t) labels ≡ true

-- What a way asks of a switch: each label stands before a part. Without `default` its cases pass no limit.
abbrev pub SwitchFits : Way → CoreExprTree → List CoreLabel → (count : ℕ) → Type 0
SwitchFits itself e labels count = Unit {0}
SwitchFits (shown c) e labels count =
    (list_all (λ l. nat_lt (part_of l) count) labels ≡ true) × (is_some (default_part labels) ≡ false → LabelsPass (type_of e) (expression_term e) labels)

longer : (cs : List CondTree) (c : CondTree) → length (cs ++ c ∷ []) ≡ suc (length cs)
longer [] c = refl
longer (b ∷ cs) c = ap suc (longer cs c)

module _ (d r : AssertionTree) (s : Scalar) (t : TermTree) where
  -- what is needed at the cases that aren't among these
  abbrev left_over : List CoreLabel → List CondTree → AssertionTree
  left_over [] seen = d
  left_over (Case n part ∷ labels) seen = if is_among (is_case s t n) seen then left_over labels seen else choose (is_case s t n) r (left_over labels seen)
  left_over (Default part ∷ labels) seen = left_over labels seen

  none_seen : (labels : List CoreLabel) → by_values d (λ k. r) s t labels ≡ left_over labels []
  none_seen [] = refl
  none_seen (Case n part ∷ labels) = ap (λ (a : AssertionTree). choose (is_case s t n) r a) (none_seen labels)
  none_seen (Default part ∷ labels) = none_seen labels

  module _ (d_plain : IsWithoutChoice d) (r_plain : IsWithoutChoice r) where
    one_more_seen : (labels : List CoreLabel) (b : CondTree) (seen : List CondTree) → branch b false (left_over labels seen) ≡ left_over labels (b ∷ seen)
    one_more_seen [] b seen = d_plain b false
    one_more_seen (Case n part ∷ labels) b seen =
        inside (is_among (is_case s t n) seen)
        ∙ by (is_among (is_case s t n) seen) (same_cond b (is_case s t n)) (branch b false (left_over labels seen)) (left_over labels (b ∷ seen)) (branch b false r) (one_more_seen labels b seen) (r_plain b false)
      where
        inside :
            (among : Bool)
            → branch b false (if among then left_over labels seen else choose (is_case s t n) r (left_over labels seen))
            ≡ (if among then branch b false (left_over labels seen) else (if same_cond b (is_case s t n) then branch b false (left_over labels seen) else choose (is_case s t n) (branch b false r) (branch b false (left_over labels seen))))
        inside true = refl
        inside false = refl

        by :
            (among is : Bool) (x y z : AssertionTree) → x ≡ y → z ≡ r
            → (if among then x else (if is then x else choose (is_case s t n) z x)) ≡ (if is || among then y else choose (is_case s t n) r y)
        by true true x y z h i = h
        by true false x y z h i = h
        by false true x y z h i = h
        by false false x y z h i = ap (λ (a : AssertionTree). choose (is_case s t n) a x) i ∙ ap (λ (a : AssertionTree). choose (is_case s t n) r a) h
    one_more_seen (Default part ∷ labels) b seen = one_more_seen labels b seen

    module _ (ds : List Define) (c : ℕ → CertTree) (shows : (cs : List CondTree) → fault (c (length cs)) ds (only cs) r d ≡ None) where
      case_holds :
          (b : CondTree) (x : CertTree) (cs : List CondTree) (rest : AssertionTree) (k : Known) → push b (only cs) ≡ Ok k → push (no b) (only cs) ≡ Ok (only (cs ++ no b ∷ []))
          → fault x ds (only (cs ++ no b ∷ [])) r (branch b false rest) ≡ None → fault (split b same x) ds (only cs) r (choose b r rest) ≡ None
      case_holds b x cs rest k pushed not_pushed h =
          let k2 = only (cs ++ no b ∷ []) in
          fault_split b same x ds (only cs) k k2 r (choose b r rest) pushed not_pushed
          (ap (λ (z : Bool). fault same ds k (branch b true r) (if z then branch b true r else choose b (branch b true r) (branch b true rest))) (cond_self b) ∙ fault_same ds k (branch b true r))
          (ap (λ (z : Bool). fault x ds k2 (branch b false r) (if z then branch b false rest else choose b (branch b false r) (branch b false rest))) (cond_self b)
          ∙ ap (λ (a : AssertionTree). fault x ds k2 a (branch b false rest)) (r_plain b false) ∙ h)

      cases_hold :
          (labels : List CoreLabel) (seen cs : List CondTree) → length cs ≡ length seen → list_all (label_passes s t) labels ≡ true
          → fault (by_cases s t labels seen (shown c)) ds (only cs) r (left_over labels seen) ≡ None
      cases_hold [] seen cs n passes = subst (λ (m : ℕ). fault (c m) ds (only cs) r d ≡ None) n (shows cs)
      cases_hold (Case v part ∷ labels) seen cs n passes =
          let b = is_case s t v in
          let p = and_parts (label_passes s t (Case v part)) (list_all (label_passes s t) labels) passes in
          by (is_among b seen) (cases_hold labels seen cs n p.1)
          (ap (λ (a : AssertionTree). fault (by_cases s t labels (b ∷ seen) (shown c)) ds (only (cs ++ no b ∷ [])) r a) (one_more_seen labels b seen)
          ∙ cases_hold labels (b ∷ seen) (cs ++ no b ∷ []) (longer cs (no b) ∙ ap suc n) p.1)
          (pushed_anywhere t (number (literal_value s v)) (only cs) p.0)
        where
          by :
              (among : Bool) → fault (by_cases s t labels seen (shown c)) ds (only cs) r (left_over labels seen) ≡ None
              → fault (by_cases s t labels (is_case s t v ∷ seen) (shown c)) ds (only (cs ++ no (is_case s t v) ∷ [])) r (branch (is_case s t v) false (left_over labels seen)) ≡ None
              → (k : Known) × (push (is_case s t v) (only cs) ≡ Ok k)
              → fault (if among then by_cases s t labels seen (shown c) else split (is_case s t v) same (by_cases s t labels (is_case s t v ∷ seen) (shown c))) ds (only cs) r
              (if among then left_over labels seen else choose (is_case s t v) r (left_over labels seen)) ≡ None
          by true h i k = h
          by false h i k = case_holds (is_case s t v) (by_cases s t labels (is_case s t v ∷ seen) (shown c)) cs (left_over labels seen) k.0 k.1 refl i
      cases_hold (Default part ∷ labels) seen cs n passes = cases_hold labels seen cs n passes

      each_holds : (labels : List CoreLabel) (i : ℕ) → faults_all (each_case labels (shown c)) i ds at_first r (at_cases d (λ k. r) labels) ≡ None
      each_holds [] i = one_more_member i (c 0) no_certs ds at_first r d no_assertions (shows []) refl
      each_holds (Case v part ∷ labels) i = one_more_member i same (each_case labels (shown c)) ds at_first r r (at_cases d (λ k. r) labels) (fault_same ds at_first r) (each_holds labels (suc i))
      each_holds (Default part ∷ labels) i = each_holds labels i

      each_counts : (labels : List CoreLabel) → count_certs (each_case labels (shown c)) ≡ count (at_cases d (λ k. r) labels)
      each_counts [] = refl
      each_counts (Case v part ∷ labels) = ap suc (each_counts labels)
      each_counts (Default part ∷ labels) = each_counts labels

      all_cases_hold : (labels : List CoreLabel) → fault (all (each_case labels (shown c))) ds at_first r (greatest (at_cases d (λ k. r) labels)) ≡ None
      all_cases_hold labels = fault_all (each_case labels (shown c)) ds at_first r (at_cases d (λ k. r) labels) (each_counts labels) (each_holds labels 0)

-- ---- sequences

pub counts : (r : AssertionTree) (pay : ℕ → List CoreExprTree → CertTree) (ss : CoreStmts) (w : Ways) → count_derivations (all_written r pay ss w) ≡ count_stmts ss
counts r pay no_stmts w = refl
counts r pay (stmt_and s ss) w = ap suc (counts r pay ss w)

pub sequence_of :
    (ds : DerivationTrees) (ss : CoreStmts) (c : Scope) (q : Posts) (p : AssertionTree) → count_derivations ds ≡ count_stmts ss → sequence_pre ds 0 c ss q ≡ Ok p → pre (sequence ds) c (core.seq ss) q ≡ Ok p
sequence_of ds ss c q p n h = ap (λ (b : Bool). require b (shape []) (sequence_pre ds 0 c ss q)) (eq-eqb (count_derivations ds) (count_stmts ss) n) ∙ h

-- ---- what a switch needs, where all its parts need the assertion

before_is : (next r : AssertionTree) (n k : ℕ) → nat_lt k n ≡ true → before_part next (replicate n r) k ≡ r
before_is next r n k h = within n k (grind (arith, nat_tests, h))
  where
    within : (n k : ℕ) → k < n → before_part next (replicate n r) k ≡ r
    within zero k l = absurd (omega (arith, l))
    within (suc n) zero l = refl
    within (suc n) (suc k) l = within n k (omega (arith, l))

module _ (r : AssertionTree) (n : ℕ) where
  abbrev AreBelow : List CoreLabel → Type 0
  AreBelow labels = list_all (λ l. nat_lt (part_of l) n) labels ≡ true

  all_need_is : (d next : AssertionTree) (labels : List CoreLabel) → AreBelow labels → all_need d (before_part next (replicate n r)) labels ≡ all_need d (λ k. r) labels
  all_need_is d next [] h = refl
  all_need_is d next (Case v k ∷ labels) h =
      let p = and_parts (nat_lt k n) (list_all (λ l. nat_lt (part_of l) n) labels) h in
      ap (λ (a : AssertionTree). same_assertion a d && all_need d (before_part next (replicate n r)) labels) (before_is next r n k p.0)
      ∙ ap (λ (b : Bool). same_assertion r d && b) (all_need_is d next labels p.1)
  all_need_is d next (Default k ∷ labels) h = all_need_is d next labels (and_parts (nat_lt k n) (list_all (λ l. nat_lt (part_of l) n) labels) h).1

  by_values_is : (d next : AssertionTree) (s : Scalar) (t : TermTree) (labels : List CoreLabel) → AreBelow labels → by_values d (before_part next (replicate n r)) s t labels ≡ by_values d (λ k. r) s t labels
  by_values_is d next s t [] h = refl
  by_values_is d next s t (Case v k ∷ labels) h =
      let p = and_parts (nat_lt k n) (list_all (λ l. nat_lt (part_of l) n) labels) h in
      ap (λ (a : AssertionTree). choose (is_case s t v) a (by_values d (before_part next (replicate n r)) s t labels)) (before_is next r n k p.0)
      ∙ ap (λ (a : AssertionTree). choose (is_case s t v) r a) (by_values_is d next s t labels p.1)
  by_values_is d next s t (Default k ∷ labels) h = by_values_is d next s t labels (and_parts (nat_lt k n) (list_all (λ l. nat_lt (part_of l) n) labels) h).1

  at_cases_is : (d next : AssertionTree) (labels : List CoreLabel) → AreBelow labels → at_cases d (before_part next (replicate n r)) labels ≡ at_cases d (λ k. r) labels
  at_cases_is d next [] h = refl
  at_cases_is d next (Case v k ∷ labels) h =
      let p = and_parts (nat_lt k n) (list_all (λ l. nat_lt (part_of l) n) labels) h in
      ap (λ (a : AssertionTree). assertion_and a (at_cases d (before_part next (replicate n r)) labels)) (before_is next r n k p.0)
      ∙ ap (λ (a : AssertionTrees). assertion_and r a) (at_cases_is d next labels p.1)
  at_cases_is d next (Default k ∷ labels) h = at_cases_is d next labels (and_parts (nat_lt k n) (list_all (λ l. nat_lt (part_of l) n) labels) h).1

  by_term_is :
      (d next : AssertionTree) (s : Scalar) (t : Option TermTree) (labels : List CoreLabel) → AreBelow labels → by_term d (before_part next (replicate n r)) s t labels ≡ by_term d (λ k. r) s t labels
  by_term_is d next s None labels h = ap greatest (at_cases_is d next labels h)
  by_term_is d next s (Some t) labels h = by_values_is d next s t labels h

  default_is : (next : AssertionTree) (labels : List CoreLabel) → AreBelow labels → is_some (default_part labels) ≡ true → before_chosen next (before_part next (replicate n r)) (default_part labels) ≡ r
  default_is next [] h i = cc
  default_is next (Case v k ∷ labels) h i = default_is next labels (and_parts (nat_lt k n) (list_all (λ l. nat_lt (part_of l) n) labels) h).1 i
  default_is next (Default k ∷ labels) h i = before_is next r n k (and_parts (nat_lt k n) (list_all (λ l. nat_lt (part_of l) n) labels) h).0

  all_need_it : (labels : List CoreLabel) → all_need r (λ k. r) labels ≡ true
  all_need_it [] = refl
  all_need_it (Case v k ∷ labels) = rw (assertion_self r) (all_need_it labels)
  all_need_it (Default k ∷ labels) = all_need_it labels

  -- with `default`, the switch needs it too
  with_default : (next : AssertionTree) (e : CoreExprTree) (labels : List CoreLabel) → AreBelow labels → is_some (default_part labels) ≡ true → switched next (before_part next (replicate n r)) e labels ≡ r
  with_default next e labels h i =
      let before = before_part next (replicate n r) in
      ap (λ (d : AssertionTree). by_labels d before (type_of e) (expression_term e) labels) (default_is next labels h i)
      ∙ ap (λ (b : Bool). if b then r else by_term r before (type_of e) (expression_term e) labels) (all_need_is r next labels h ∙ all_need_it labels)

  -- and so where what comes next needs it
  need_before : (k : ℕ) → before_part r (replicate n r) k ≡ r
  need_before k = of n k
    where
      of : (n k : ℕ) → before_part r (replicate n r) k ≡ r
      of zero k = refl
      of (suc n) zero = refl
      of (suc n) (suc k) = of n k

  chosen_same : (part : Option ℕ) → before_chosen r (λ k. r) part ≡ r
  chosen_same None = refl
  chosen_same (Some k) = refl

  with_itself : (e : CoreExprTree) (labels : List CoreLabel) → switched r (before_part r (replicate n r)) e labels ≡ r
  with_itself e labels =
      ap (λ (before : ℕ → AssertionTree). switched r before e labels) (fun_ext need_before)
      ∙ ap (λ (d : AssertionTree). by_labels d (λ k. r) (type_of e) (expression_term e) labels) (chosen_same (default_part labels))
      ∙ ap (λ (b : Bool). if b then r else by_term r (λ k. r) (type_of e) (expression_term e) labels) (all_need_it labels)

  -- else the cases decide, where there are any
  no_case_needs : (next : AssertionTree) (labels : List CoreLabel) → has_case labels ≡ false → all_need next (λ k. r) labels ≡ true
  no_case_needs next [] h = refl
  no_case_needs next (Case v k ∷ labels) h = cc
  no_case_needs next (Default k ∷ labels) h = no_case_needs next labels h

  one_case_needs : (next : AssertionTree) (labels : List CoreLabel) → same_assertion r next ≡ false → has_case labels ≡ true → all_need next (λ k. r) labels ≡ false
  one_case_needs next [] d h = cc
  one_case_needs next (Case v k ∷ labels) d h = ap (λ (b : Bool). b && all_need next (λ k. r) labels) d
  one_case_needs next (Default k ∷ labels) d h = one_case_needs next labels d h

  no_default : (next : AssertionTree) (before : ℕ → AssertionTree) (part : Option ℕ) → is_some part ≡ false → before_chosen next before part ≡ next
  no_default next before None h = refl
  no_default next before (Some k) h = cc

  -- what the cases need
  abbrev cases_need : (has : Bool) → (next : AssertionTree) → Scalar → Option TermTree → List CoreLabel → AssertionTree
  cases_need has next s t labels = if has then by_term next (λ k. r) s t labels else next

  without_default :
      (next : AssertionTree) (e : CoreExprTree) (labels : List CoreLabel) → same_assertion r next ≡ false → AreBelow labels → is_some (default_part labels) ≡ false
      → switched next (before_part next (replicate n r)) e labels ≡ cases_need (has_case labels) next (type_of e) (expression_term e) labels
  without_default next e labels d h i =
      let before = before_part next (replicate n r) in
      ap (λ (d : AssertionTree). by_labels d before (type_of e) (expression_term e) labels) (no_default next before (default_part labels) i)
      ∙ ap (λ (b : Bool). if b then next else by_term next before (type_of e) (expression_term e) labels) (all_need_is next next labels h)
      ∙ ap (λ (a : AssertionTree). if all_need next (λ k. r) labels then next else a) (by_term_is next next (type_of e) (expression_term e) labels h)
      ∙ by (has_case labels) (no_case_needs next labels) (one_case_needs next labels d)
    where
      by :
          (has : Bool) → (has ≡ false → all_need next (λ k. r) labels ≡ true) → (has ≡ true → all_need next (λ k. r) labels ≡ false)
          → (if all_need next (λ k. r) labels then next else by_term next (λ k. r) (type_of e) (expression_term e) labels) ≡ cases_need has next (type_of e) (expression_term e) labels
      by true x y = ap (λ (b : Bool). if b then next else by_term next (λ k. r) (type_of e) (expression_term e) labels) (y refl)
      by false x y = ap (λ (b : Bool). if b then next else by_term next (λ k. r) (type_of e) (expression_term e) labels) (x refl)

  -- and the certificate shows it
  needed_cases_hold :
      (ds : List Define) (c : ℕ → CertTree) (next : AssertionTree) (s : Scalar) (t : Option TermTree) (labels : List CoreLabel) → IsWithoutChoice r → Reaches ds r (shown c) next → LabelsPass s t labels
      → fault (cases_certificate s t labels (shown c)) ds at_first r (cases_need (has_case labels) next s t labels) ≡ None
  needed_cases_hold ds c next s None labels plain v passes = by (has_case labels)
    where
      by : (has : Bool) → fault (if has then all (each_case labels (shown c)) else c 0) ds at_first r (if has then greatest (at_cases next (λ k. r) labels) else next) ≡ None
      by true = all_cases_hold next r s (number (pos 0)) v.2 plain ds c v.0 labels
      by false = v.0 []
  needed_cases_hold ds c next s (Some t) labels plain v passes =
      by (has_case labels) (none_seen next r s t labels ∙ refl) (no_case labels)
    where
      held : fault (by_cases s t labels [] (shown c)) ds at_first r (left_over next r s t labels []) ≡ None
      held = cases_hold next r s t v.2 plain ds c v.0 labels [] [] refl passes

      no_case : (labels : List CoreLabel) → has_case labels ≡ false → by_values next (λ k. r) s t labels ≡ next
      no_case [] h = refl
      no_case (Case n part ∷ labels) h = cc
      no_case (Default part ∷ labels) h = no_case labels h

      by :
          (has : Bool) → by_values next (λ k. r) s t labels ≡ left_over next r s t labels [] → (has ≡ false → by_values next (λ k. r) s t labels ≡ next)
          → fault (by_cases s t labels [] (shown c)) ds at_first r (if has then by_values next (λ k. r) s t labels else next) ≡ None
      by true e f = ap (λ (a : AssertionTree). fault (by_cases s t labels [] (shown c)) ds at_first r a) e ∙ held
      by false e f = ap (λ (a : AssertionTree). fault (by_cases s t labels [] (shown c)) ds at_first r a) (sym (f refl) ∙ e) ∙ held

-- ---- statements

module _ (r : AssertionTree) (pay : ℕ → List CoreExprTree → CertTree) (c : Scope) (may : Target → Bool) where
  abbrev pub CallFits : Callee → List CoreExprTree → Type 0
  CallFits (Function g) es = IsPaid r (pay g.0 es) c g.0 es
  CallFits PutChar es = Unit {0}
  CallFits GetChar es = Unit {0}

  abbrev mutual
    pub Fits : CoreStmtTree → Ways → Type 0
    Fits core.skip w = Unit {0}
    Fits (core.seq ss) w = AllFit ss w
    Fits (core.assign x e) w = may x ≡ true
    Fits (core.store s to e) w = Unit {0}
    Fits (core.copy size alignment to from) w = Unit {0}
    Fits (core.fill contents to) w = Unit {0}
    Fits (core.call x g es) w = CallFits g es
    Fits (core.branch e s t) w = Fits s w × Fits t w
    Fits (core.loop body step) w = Fits body (body_ways w) × Fits step (step_ways w)
    Fits (core.switch e labels ss) w = SwitchFits w.next e labels (count_stmts ss) × AllFit ss (switch_ways w)
    Fits core.break w = Unit {0}
    Fits core.continue w = Unit {0}
    Fits (core.return e) w = Unit {0}

    pub AllFit : CoreStmts → Ways → Type 0
    AllFit no_stmts w = Unit {0}
    AllFit (stmt_and s ss) w = Fits s (before ss w) × AllFit ss w

  module _ (on_stack : c.resource ≡ Stack) (r_fits : first_other c.function (in_body c.function) r ≡ None) (r_clean : IsClean may r) (r_plain : IsWithoutChoice r) where
    pub drawn :
        (d : DerivationTree) (w : CertTree) (s : CoreStmtTree) (q : Posts) (p : AssertionTree) → is_consequence d ≡ false → pre d c s q ≡ Ok p → verdict [] c.defines r p w ≡ None
        → pre (consequence r w d) c s q ≡ Ok r
    drawn d w s q p n h v =
        ap (λ (b : Bool). require (not b) (shape []) (unless (first_other c.function (in_body c.function) r) (bind (pre d c s q) (λ p. certified c.defines w r p r)))) n
        ∙ ap (λ o. unless o (bind (pre d c s q) (λ p. certified c.defines w r p r))) r_fits
        ∙ ap (λ (a : Answer). bind a (λ p. certified c.defines w r p r)) h
        ∙ ap (λ v. by_verdict v r) v

    pub by_way_ok :
        (d : DerivationTree) (w : Way) (s : CoreStmtTree) (q : Posts) (p : AssertionTree) → is_consequence d ≡ false → pre d c s q ≡ Ok p → Reaches c.defines r w p → pre (by_way r w d) c s q ≡ Ok r
    by_way_ok d itself s q p n h v = h ∙ ap (λ (a : AssertionTree). Ok a) v
    by_way_ok d (shown w) s q p n h v = drawn d (w 0) s q p n h (verdict_is c.defines r p (w 0) (v.0 []))

    reached : (w : Way) (q : AssertionTree) → Reaches c.defines r w q → fault (certificate_of w 0) c.defines at_first r q ≡ None
    reached itself q v = ap (λ (a : AssertionTree). fault same c.defines at_first r a) v ∙ fault_same c.defines at_first r
    reached (shown w) q v = v.0 []

    pub same_again : (w : Ways) (q : Posts) → Leaves r c.defines w q → Enough may r c.defines (to_itself w) (with_next q r)
    same_again w q l = record {
      leaves = record { on_break = l.on_break; on_continue = l.on_continue; on_return = l.on_return; kept = l.kept };
      next = refl;
      clean = r_clean;
    }

    in_body_again : (w : Ways) (q : Posts) → Enough may r c.defines w q → Enough may r c.defines (body_ways w) (body_posts r q)
    in_body_again w q l = record {
      leaves = record { on_break = l.next; on_continue = refl; on_return = l.leaves.on_return; kept = l.leaves.kept };
      next = refl;
      clean = r_clean;
    }

    in_step_again : (w : Ways) (q : Posts) → Enough may r c.defines w q → Enough may r c.defines (step_ways w) (step_posts r q)
    in_step_again w q l = record {
      leaves = record { on_break = l.next; on_continue = l.leaves.on_continue; on_return = l.leaves.on_return; kept = l.leaves.kept };
      next = refl;
      clean = r_clean;
    }

    in_switch_again : (w : Ways) (q : Posts) → Enough may r c.defines w q → Enough may r c.defines (switch_ways w) (switch_posts q)
    in_switch_again w q l = record {
      leaves = record { on_break = l.next; on_continue = l.leaves.on_continue; on_return = l.leaves.on_return; kept = l.leaves.kept };
      next = l.next;
      clean = l.clean;
    }

    balanced_is :
        (x : Option ℕ) (g : ℕ) (es : List CoreExprTree) (q : Posts) (w : CertTree) (i : IsPaid r w c g es) → first_of_destination x q.next ≡ None
        → known_callee c (record { destination = x; function = g; arguments = es }) (balanced_rule q (record { destination = x; function = g; arguments = es }))
        ≡ Ok (around g q.next (at_call (pre_images i.function es) i.spec.pre))
    balanced_is x g es q w i n =
        let site : CallSite = record { destination = x; function = g; arguments = es } in
        let a = around g q.next (at_call (pre_images i.function es) i.spec.pre) in
        ap (λ o. of_spec g o (c.specs g) (balanced_rule q site)) i.stands
        ∙ ap (λ o. of_spec g (Some i.function) o (balanced_rule q site)) i.has_spec
        ∙ ap (λ (b : Bool). require b (shape []) (unless (first_of_destination x q.next) (unless_of (Some g) (first_without (pre_images i.function es) i.spec.pre) (Ok a)))) i.balanced
        ∙ ap (λ o. unless o (unless_of (Some g) (first_without (pre_images i.function es) i.spec.pre) (Ok a))) n
        ∙ ap (λ o. unless_of (Some g) o (Ok a)) i.has_terms

    call_ok : (x : Option ℕ) (g : Callee) (es : List CoreExprTree) (w : Ways) (q : Posts) → Enough may r c.defines w q → CallFits g es → pre (written_call r pay g es w.next) c (core.call x g es) q ≡ Ok r
    call_ok x (Function g) es w q l i =
        let a = at_call (pre_images i.function es) i.spec.pre in
        drawn balanced_call (call_certificate (certificate_of w.next 0) (pay g.0 es)) (core.call x (Function g) es) q (around g.0 q.next a) refl
        (ap (λ (resource : Resource). where_given_back resource (known_callee c (record { destination = x; function = g.0; arguments = es }) (balanced_rule q (record { destination = x; function = g.0; arguments = es })))) on_stack
        ∙ balanced_is x g.0 es q (pay g.0 es) i (l.clean.received x))
        (verdict_is c.defines r (around g.0 q.next a) (call_certificate (certificate_of w.next 0) (pay g.0 es))
        (fault_both (certificate_of w.next 0) (pay g.0 es) c.defines at_first r q.next (total (two (cost g.0) a)) (reached w.next q.next l.next) i.paid))
    call_ok x PutChar es w q l i = by_way_ok leaf w.next (core.call x PutChar es) q q.next refl (ap (λ o. unless o (Ok q.next)) (l.clean.received x)) l.next
    call_ok x GetChar es w q l i = by_way_ok leaf w.next (core.call x GetChar es) q q.next refl (ap (λ o. unless o (Ok q.next)) (l.clean.received x)) l.next

    -- what statements need, one after another
    abbrev pub needed : CoreStmts → Posts → AssertionTree
    needed no_stmts q = q.next
    needed (stmt_and s ss) q = r

    pub before_others : (ss : CoreStmts) (w : Ways) (q : Posts) → Enough may r c.defines w q → Enough may r c.defines (before ss w) (with_next q (needed ss q))
    before_others no_stmts w q l = l
    before_others (stmt_and s ss) w q l = same_again w q l.leaves

    first_before : (ss : CoreStmts) (q : Posts) → before_part q.next (replicate (count_stmts ss) r) 0 ≡ needed ss q
    first_before no_stmts q = refl
    first_before (stmt_and s ss) q = refl

    seq_ok :
        (ss : CoreStmts) (w : Ways) (q : Posts) → Enough may r c.defines w q → sequence_pre (all_written r pay ss w) 0 c ss q ≡ Ok (needed ss q)
        → pre (by_parts r ss w (sequence (all_written r pay ss w))) c (core.seq ss) q ≡ Ok r
    seq_ok no_stmts w q l h = by_way_ok (sequence no_derivations) w.next (core.seq no_stmts) q q.next refl refl l.next
    seq_ok (stmt_and s ss) w q l h = sequence_of (all_written r pay (stmt_and s ss) w) (stmt_and s ss) c q r (counts r pay (stmt_and s ss) w) h

    -- from what its parts need
    switch_ok :
        (e : CoreExprTree) (labels : List CoreLabel) (ss : CoreStmts) (next : Way) (ds : DerivationTrees) (q : Posts) → Reaches c.defines r next q.next → SwitchFits next e labels (count_stmts ss)
        → pre (switch ds) c (core.switch e labels ss) q ≡ Ok (switched q.next (before_part q.next (replicate (count_stmts ss) r)) e labels)
        → pre (by_switch r next e labels (switch ds)) c (core.switch e labels ss) q ≡ Ok r
    switch_ok e labels ss itself ds q v fit h =
        h ∙ ap (λ (a : AssertionTree). Ok (switched a (before_part a (replicate (count_stmts ss) r)) e labels)) v ∙ ap (λ (a : AssertionTree). Ok a) (with_itself r (count_stmts ss) e labels)
    switch_ok e labels ss (shown w) ds q v fit h = by (is_some (default_part labels)) (λ i. i) (λ i. i)
      where
        by :
            (has : Bool) → (has ≡ true → is_some (default_part labels) ≡ true) → (has ≡ false → is_some (default_part labels) ≡ false)
            → pre (if has then switch ds else consequence r (cases_certificate (type_of e) (expression_term e) labels (shown w)) (switch ds)) c (core.switch e labels ss) q ≡ Ok r
        by true i j = h ∙ ap (λ (a : AssertionTree). Ok a) (with_default r (count_stmts ss) q.next e labels fit.0 (i refl))
        by false i j =
            let cert = cases_certificate (type_of e) (expression_term e) labels (shown w) in
            let need = cases_need r (count_stmts ss) (has_case labels) q.next (type_of e) (expression_term e) labels in
            drawn (switch ds) cert (core.switch e labels ss) q need refl
            (h ∙ ap (λ (a : AssertionTree). Ok a) (without_default r (count_stmts ss) q.next e labels v.1 fit.0 (j refl)))
            (verdict_is c.defines r need cert (needed_cases_hold r (count_stmts ss) c.defines w q.next (type_of e) (expression_term e) labels r_plain v (fit.1 (j refl))))

    mutual
      pub stmt_ok : (s : CoreStmtTree) (w : Ways) (q : Posts) → Enough may r c.defines w q → Fits s w → pre (written r pay s w) c s q ≡ Ok r
      stmt_ok core.skip w q l i = by_way_ok leaf w.next core.skip q q.next refl refl l.next
      stmt_ok (core.seq ss) w q l i = seq_ok ss w q l (stmts_ok ss 0 w q l i)
      stmt_ok (core.assign x e) w q l i = by_way_ok leaf w.next (core.assign x e) q q.next refl (l.clean.assigned x e i) l.next
      stmt_ok (core.store s to e) w q l i = by_way_ok leaf w.next (core.store s to e) q q.next refl refl l.next
      stmt_ok (core.copy size alignment to from) w q l i = by_way_ok leaf w.next (core.copy size alignment to from) q q.next refl refl l.next
      stmt_ok (core.fill contents to) w q l i = by_way_ok leaf w.next (core.fill contents to) q q.next refl refl l.next
      stmt_ok (core.call x g es) w q l i = call_ok x g es w q l i
      stmt_ok (core.branch e s t) w q l i =
          ap (λ (a : Answer). bind (part 0 a) (λ a. bind (part 1 (pre (written r pay t w) c t q)) (λ b. Ok (either (expression_condition e) a b)))) (stmt_ok s w q l i.0)
          ∙ ap (λ (a : Answer). bind (part 1 a) (λ b. Ok (either (expression_condition e) r b))) (stmt_ok t w q l i.1)
          ∙ ap (λ (b : Bool). Ok (if b then r else by_condition (expression_condition e) r r)) (assertion_self r)
      stmt_ok (core.loop body step) w q l i =
          let d = written r pay body (body_ways w) in
          let e = written r pay step (step_ways w) in
          ap (λ o. unless o (bind (part 1 (pre e c step (step_posts r q))) (λ j. bind (part 0 (pre d c body (body_posts j q))) (λ p. certified c.defines same r p r)))) r_fits
          ∙ ap (λ (a : Answer). bind (part 1 a) (λ j. bind (part 0 (pre d c body (body_posts j q))) (λ p. certified c.defines same r p r))) (stmt_ok step (step_ways w) (step_posts r q) (in_step_again w q l) i.1)
          ∙ ap (λ (a : Answer). bind (part 0 a) (λ p. certified c.defines same r p r)) (stmt_ok body (body_ways w) (body_posts r q) (in_body_again w q l) i.0)
          ∙ ap (λ v. by_verdict v r) (fault_same c.defines at_first r)
      stmt_ok (core.switch e labels ss) w q l i =
          let ds = all_written r pay ss (switch_ways w) in
          switch_ok e labels ss w.next ds q l.next i.0
          (ap (λ (b : Bool). require b (shape []) (parts_pre ds 0 c ss (switch_posts q) (λ before. Ok (switched q.next (before_part q.next before) e labels)))) (eq-eqb (count_derivations ds) (count_stmts ss) (counts r pay ss (switch_ways w)))
          ∙ parts_ok ss 0 (switch_ways w) (switch_posts q) (λ before. Ok (switched q.next (before_part q.next before) e labels)) (in_switch_again w q l) i.1)
      stmt_ok core.break w q l i = by_way_ok leaf w.on_break core.break q q.on_break refl refl l.leaves.on_break
      stmt_ok core.continue w q l i = by_way_ok leaf w.on_continue core.continue q q.on_continue refl refl l.leaves.on_continue
      stmt_ok (core.return e) w q l i = by_way_ok leaf w.on_return (core.return e) q q.on_return refl (l.leaves.kept e) l.leaves.on_return

      pub stmts_ok : (ss : CoreStmts) (n : ℕ) (w : Ways) (q : Posts) → Enough may r c.defines w q → AllFit ss w → sequence_pre (all_written r pay ss w) n c ss q ≡ Ok (needed ss q)
      stmts_ok no_stmts n w q l i = refl
      stmts_ok (stmt_and s ss) n w q l i =
          ap (λ (a : Answer). bind a (λ m. part n (pre (written r pay s (before ss w)) c s (with_next q m)))) (stmts_ok ss (suc n) w q l i.1)
          ∙ ap (part n) (stmt_ok s (before ss w) (with_next q (needed ss q)) (before_others ss w q l) i.0)

      parts_ok :
          (ss : CoreStmts) (n : ℕ) (w : Ways) (q : Posts) (rule : List AssertionTree → Answer) → Enough may r c.defines w q → AllFit ss w
          → parts_pre (all_written r pay ss w) n c ss q rule ≡ rule (replicate (count_stmts ss) r)
      parts_ok no_stmts n w q rule l i = refl
      parts_ok (stmt_and s ss) n w q rule l i =
          let d = written r pay s (before ss w) in
          let m = count_stmts ss in
          parts_ok ss (suc n) w q (λ before. bind (part n (pre d c s (with_next q (before_part q.next before 0)))) (λ p. rule (p ∷ before))) l i.1
          ∙ ap (λ (a : AssertionTree). bind (part n (pre d c s (with_next q a))) (λ p. rule (p ∷ replicate m r))) (first_before ss q)
          ∙ ap (λ (a : Answer). bind (part n a) (λ p. rule (p ∷ replicate m r))) (stmt_ok s (before ss w) (with_next q (needed ss q)) (before_others ss w q l) i.0)

    -- ---- statements that end in a return: what comes next is of no matter

    pub return_ok : (s : CoreStmtTree) (w : Ways) (q : Posts) → is_return s ≡ true → Leaves r c.defines w q → pre (written r pay s w) c s q ≡ Ok r
    return_ok core.skip w q h l = cc
    return_ok (core.seq ss) w q h l = cc
    return_ok (core.assign x e) w q h l = cc
    return_ok (core.store s to e) w q h l = cc
    return_ok (core.copy size alignment to from) w q h l = cc
    return_ok (core.fill contents to) w q h l = cc
    return_ok (core.call x g es) w q h l = cc
    return_ok (core.branch e s t) w q h l = cc
    return_ok (core.loop body step) w q h l = cc
    return_ok (core.switch e labels ss) w q h l = cc
    return_ok core.break w q h l = cc
    return_ok core.continue w q h l = cc
    return_ok (core.return e) w q h l = by_way_ok leaf w.on_return (core.return e) q q.on_return refl (l.kept e) l.on_return

    pub returning_ok :
        (ss : CoreStmts) (n : ℕ) (w : Ways) (q : Posts) → ends_in_return ss ≡ true → Leaves r c.defines w q → AllFit ss w → sequence_pre (all_written r pay ss w) n c ss q ≡ Ok r
    returning_ok no_stmts n w q h l i = cc
    returning_ok (stmt_and s no_stmts) n w q h l i = ap (part n) (return_ok s w q h l)
    returning_ok (stmt_and s (stmt_and t ss)) n w q h l i =
        ap (λ (a : Answer). bind a (λ m. part n (pre (written r pay s (to_itself w)) c s (with_next q m)))) (returning_ok (stmt_and t ss) (suc n) w q h l i.1)
        ∙ ap (part n) (stmt_ok s (to_itself w) (with_next q r) (same_again w q l) i.0)

    pub returning_seq_ok :
        (s : CoreStmtTree) (ss : CoreStmts) (w : Ways) (q : Posts) → ends_in_return (stmt_and s ss) ≡ true → Leaves r c.defines w q → AllFit (stmt_and s ss) w
        → pre (written r pay (core.seq (stmt_and s ss)) w) c (core.seq (stmt_and s ss)) q ≡ Ok r
    returning_seq_ok s ss w q h l i =
        sequence_of (all_written r pay (stmt_and s ss) w) (stmt_and s ss) c q r (counts r pay (stmt_and s ss) w) (returning_ok (stmt_and s ss) 0 w q h l i)
