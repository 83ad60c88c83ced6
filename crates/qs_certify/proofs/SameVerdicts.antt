-- What is told of certificates and derivations goes by what each name is defined as, and not by the order of definitions.
use Rattle.std.proofs.Common.{◌≡◌, ℕ, suc, ◌==◌, not, true, false, if◌then◌else◌, List, [], ◌∷◌, Option, Some, option_map, refl, ap, ◌∙◌}
use Rattle.std.specs.Prelude.{Result, Ok}
use Rattle.std.specs.List.{slice_get}
use Rattle.std.specs.Option.{option_or}
use Rattle.std.proofs.Math.Path.{fun_ext}
use Rattle.qs_base.specs.Results.{bind, require}
use Rattle.qs_assert.specs.declared.define.Define.{Define}
use Rattle.qs_assert.specs.Simultaneous.{first_without}
use Rattle.qs_assert.specs.Trees.{CondTree, AssertionTree, natural, infinity, AssertionTrees, no_assertions, assertion_and}
use Rattle.qs_assert.specs.Trees as trees
use Rattle.qs_entail.specs.declared.fault.Rule.{Rule}
use Rattle.qs_entail.specs.declared.fault.Rule.TheVariants as rules
use Rattle.qs_entail.specs.Building.{Stop}
use Rattle.qs_entail.specs.Certificates.{CertTree, same, via, pick, all, parts, assume, drop, split, contradict, arithmetic, by_definition, fact, CertTrees, no_certs, cert_and}
use Rattle.qs_entail.specs.Facts.{added}
use Rattle.qs_entail.specs.Faults as certificates
use Rattle.qs_entail.specs.Faults.{CertFault, step, node, members_of, member_at, summands_of, guarded_of, definition, branch, unfolded}
use Rattle.qs_entail.specs.Pushing.{Known, with_polynomials, at_first, push, push_list}
use Rattle.qs_entail.specs.Verdicts.{Outline, outlined, outlined_first, outline_list, is_given, stands, rule_of, begun, rest, faults_all, faults_parts, verdict}
use Rattle.qs_core.specs.Trees.{CoreStmtTree, CoreStmts, no_stmts, stmt_and, CoreFunctionTree}
use Rattle.qs_triples.specs.Derivations.{DerivationTree, leaf, sequence, conditional, loop, switch, call, balanced_call, consequence, DerivationTrees, no_derivations, derivation_and, count_derivations, SpecTree}
use Rattle.qs_triples.specs.ExpressionTerms.{expression_condition}
use Rattle.qs_triples.specs.Mentions.{in_body, first_other, first_of_destination, pre_images, post_images, first_without_argument, plain_variable}
use Rattle.qs_triples.specs.Rules as derivations
use Rattle.qs_triples.specs.declared.resource.Resource.TheVariants.{Stack}
use Rattle.qs_triples.specs.Rules.{Answer, shape, part, unless, unless_of, by_verdict, certified, Posts, Scope, with_next, either, step_posts, body_posts, with_frame, at_call, of_sequence, of_branch, of_loop, of_switch, switch_posts, before_part, switched, CallSite, of_call, of_spec, is_consequence, count_stmts, call_rule, pre, sequence_pre, parts_pre}

module _ (ds es : List Define) (alike : (n : List ℕ) → definition ds n ≡ definition es n) where
  -- ---- certificates

  stands_same : (c : CertTree) (o : Outline) (p q : AssertionTree) → stands c ds o p q ≡ stands c es o p q
  stands_same same o p q = refl
  stands_same (via r c d) o p q = refl
  stands_same (pick i c) o p q = refl
  stands_same (all cs) o p q = refl
  stands_same (parts cs) o p q = refl
  stands_same (assume c) o p q = refl
  stands_same (drop c d) o p q = refl
  stands_same (split b c d) o p q = refl
  stands_same (contradict w) o p q = refl
  stands_same (arithmetic w) o p q = refl
  stands_same (by_definition n c) o p q = ap is_given (alike n)
  stands_same (fact f c) o p q = refl

  begun_same : (c : CertTree) (o : Outline) (p q : AssertionTree) (r t : Option CertFault) → r ≡ t → begun c ds o p q r ≡ begun c es o p q t
  begun_same c o p q r t e = λ i. if stands_same c o p q i then e i else Some (step [] (rule_of c))

  node_same : {A : Type 0} (rule : Rule) (x : Result A Stop) (f g : A → Option CertFault) → ((a : A) → f a ≡ g a) → node rule x f ≡ node rule x g
  node_same rule x f g h = ap (node rule x) (fun_ext h)

  mutual
    rest_same : (c : CertTree) (k : Known) (p q : AssertionTree) → rest c ds k p q ≡ rest c es k p q
    rest_same same k p q = refl
    rest_same (via r c d) k p q =
        λ i. option_or (certificates.part 0 (begun_same c (outlined k) p r _ _ (rest_same c k p r) i)) (certificates.part 1 (begun_same d (outlined k) r q _ _ (rest_same d k r q) i))
    rest_same (pick i c) k p q =
        node_same rules.Pick (bind (members_of p) (λ members. member_at members i)) _ _ (λ a. ap (certificates.part 0) (begun_same c (outlined k) a q _ _ (rest_same c k a q)))
    rest_same (all cs) k p q = node_same rules.All (members_of q) _ _ (λ members. all_same cs 0 k p members)
    rest_same (parts cs) k p q =
        node_same rules.Parts (summands_of p) _ _ (λ left. node_same rules.Parts (summands_of q) _ _ (λ right. parts_same cs 0 k left right))
    rest_same (assume c) k p q =
        node_same rules.Assume (guarded_of p) _ _ (λ g. node_same rules.Assume (push g.condition k) _ _ (λ k'. ap (certificates.part 0) (begun_same c (outlined k') g.body q _ _ (rest_same c k' g.body q))))
    rest_same (drop c d) k p q =
        node_same rules.DropGuard (guarded_of q) _ _ (λ g. node_same rules.DropGuard (push (trees.not g.condition) k) _ _ (λ k'.
        λ i. option_or (certificates.part 0 (begun_same c (outlined k') (natural 0) infinity _ _ (rest_same c k' (natural 0) infinity) i)) (certificates.part 1 (begun_same d (outlined k) p g.body _ _ (rest_same d k p g.body) i))))
    rest_same (split b c d) k p q =
        node_same rules.Split (push b k) _ _ (λ k'. node_same rules.Split (push (trees.not b) k) _ _ (λ k''.
        λ i. option_or (certificates.part 0 (begun_same c (outlined k') (branch b true p) (branch b true q) _ _ (rest_same c k' (branch b true p) (branch b true q)) i)) (certificates.part 1 (begun_same d (outlined k'') (branch b false p) (branch b false q) _ _ (rest_same d k'' (branch b false p) (branch b false q)) i))))
    rest_same (contradict w) k p q = refl
    rest_same (arithmetic w) k p q = refl
    rest_same (by_definition n c) k p q =
        node_same rules.ByDefinition (definition ds n) _ _ (λ body. ap (certificates.part 0) (begun_same c (outlined k) (unfolded n body p) (unfolded n body q) _ _ (rest_same c k (unfolded n body p) (unfolded n body q))))
        ∙ ap (λ (x : Result AssertionTree Stop). node rules.ByDefinition x (λ body. certificates.part 0 (begun c es (outlined k) (unfolded n body p) (unfolded n body q) (rest c es k (unfolded n body p) (unfolded n body q))))) (alike n)
    rest_same (fact f c) k p q =
        node_same rules.Fact (added f k) _ _ (λ ps. ap (certificates.part 0) (begun_same c (outlined (with_polynomials ps k)) p q _ _ (rest_same c (with_polynomials ps k) p q)))

    all_same : (cs : CertTrees) (i : ℕ) (k : Known) (p : AssertionTree) (members : AssertionTrees) → faults_all cs i ds k p members ≡ faults_all cs i es k p members
    all_same no_certs i k p members = refl
    all_same (cert_and c cs) i k p no_assertions = refl
    all_same (cert_and c cs) i k p (assertion_and q others) =
        λ j. option_or (certificates.part i (begun_same c (outlined k) p q _ _ (rest_same c k p q) j)) (all_same cs (suc i) k p others j)

    parts_same : (cs : CertTrees) (i : ℕ) (k : Known) (left right : AssertionTrees) → faults_parts cs i ds k left right ≡ faults_parts cs i es k left right
    parts_same no_certs i k left right = refl
    parts_same (cert_and c cs) i k no_assertions right = refl
    parts_same (cert_and c cs) i k (assertion_and p ps) no_assertions = refl
    parts_same (cert_and c cs) i k (assertion_and p ps) (assertion_and q qs) =
        λ j. option_or (certificates.part i (begun_same c (outlined k) p q _ _ (rest_same c k p q) j)) (parts_same cs (suc i) k ps qs j)

  pub verdict_same : (hypotheses : List CondTree) (p q : AssertionTree) (c : CertTree) → verdict hypotheses ds p q c ≡ verdict hypotheses es p q c
  verdict_same hypotheses p q c =
      begun_same c (outline_list hypotheses outlined_first) p q _ _ (node_same (rule_of c) (push_list hypotheses at_first) _ _ (λ k. rest_same c k p q))

  certified_same : (w : CertTree) (p q r : AssertionTree) → certified ds w p q r ≡ certified es w p q r
  certified_same w p q r = ap (λ (v : Option CertFault). by_verdict v r) (verdict_same [] p q w)

  -- ---- derivations

  abbrev given_as : AssertionTree → Answer
  given_as a = Ok a

  module _ (f : CoreFunctionTree) (fs : List CoreFunctionTree) (specs : (function : ℕ) → Option SpecTree) where
    abbrev before : Scope
    before = record { resource = Stack; function = f; functions = fs; specs = specs; defines = ds }

    abbrev after : Scope
    after = record { resource = Stack; function = f; functions = fs; specs = specs; defines = es }

    call_same : (a : AssertionTree) (w : CertTree) (q : Posts) (site : CallSite) (g : derivations.Known) → call_rule before a w q site g ≡ call_rule after a w q site g
    call_same a w q site g =
        let first = pre_images g.function site.arguments in
        let behind = post_images g.function site.destination site.arguments in
        ap (λ (x : Answer).
        unless (first_other f (in_body f) a)
        (unless (first_of_destination site.destination a)
        (unless_of (Some site.function) (first_without first g.spec.pre)
        (unless_of (Some site.function) (option_map plain_variable (first_without_argument behind g.spec.post))
        (unless_of (Some site.function) (first_without behind g.spec.post) x)))))
        (certified_same w (with_frame site.function (at_call behind g.spec.post) a) q.next (with_frame site.function (at_call first g.spec.pre) a))

    mutual
      pub pre_same : (d : DerivationTree) (s : CoreStmtTree) (q : Posts) → pre d before s q ≡ pre d after s q
      pre_same leaf s q = refl
      pre_same (sequence inner) s q =
          ap (of_sequence s) (fun_ext (λ (ss : CoreStmts). ap (λ (x : Answer). require (count_derivations inner == count_stmts ss) (shape []) x) (sequence_same inner 0 ss q)))
      pre_same (conditional d e) s q =
          ap (of_branch s) (fun_ext (λ condition. fun_ext (λ t. fun_ext (λ v. λ i.
          bind (part 0 (pre_same d t q i)) (λ a. bind (part 1 (pre_same e v q i)) (λ b. given_as (either (expression_condition condition) a b)))))))
      pre_same (loop inv w d e) s q =
          ap (of_loop s) (fun_ext (λ body. fun_ext (λ step. λ i.
          unless (first_other f (in_body f) inv)
          (bind (part 1 (pre_same e step (step_posts inv q) i)) (λ j. bind (part 0 (pre_same d body (body_posts j q) i)) (λ p. certified_same w inv p inv i))))))
      pre_same (switch inner) s q =
          ap (of_switch s) (fun_ext (λ e. fun_ext (λ labels. fun_ext (λ (ss : CoreStmts). ap (λ (x : Answer). require (count_derivations inner == count_stmts ss) (shape []) x)
          (switch_same inner 0 ss (switch_posts q) (λ needs. given_as (switched q.next (before_part q.next needs) e labels)))))))
      pre_same (call a w) s q =
          ap (of_call s) (fun_ext (λ (site : CallSite). ap (of_spec site.function (slice_get fs site.function) (specs site.function)) (fun_ext (λ g. call_same a w q site g))))
      pre_same balanced_call s q = refl
      pre_same (consequence r w d) s q =
          λ i. require (not (is_consequence d)) (shape []) (unless (first_other f (in_body f) r) (bind (pre_same d s q i) (λ p. certified_same w r p r i)))

      sequence_same : (inner : DerivationTrees) (i : ℕ) (ss : CoreStmts) (q : Posts) → sequence_pre inner i before ss q ≡ sequence_pre inner i after ss q
      sequence_same no_derivations i no_stmts q = refl
      sequence_same no_derivations i (stmt_and s ss) q = refl
      sequence_same (derivation_and d inner) i no_stmts q = refl
      sequence_same (derivation_and d inner) i (stmt_and s ss) q =
          λ j. bind (sequence_same inner (suc i) ss q j) (λ n. part i (pre_same d s (with_next q n) j))

      switch_same :
          (inner : DerivationTrees) (i : ℕ) (ss : CoreStmts) (q : Posts) (rule : List AssertionTree → Answer)
          → parts_pre inner i before ss q rule ≡ parts_pre inner i after ss q rule
      switch_same no_derivations i no_stmts q rule = refl
      switch_same no_derivations i (stmt_and s ss) q rule = refl
      switch_same (derivation_and d inner) i no_stmts q rule = refl
      switch_same (derivation_and d inner) i (stmt_and s ss) q rule =
          switch_same inner (suc i) ss q (λ needs. bind (part i (pre d before s (with_next q (before_part q.next needs 0)))) (λ p. rule (p ∷ needs)))
          ∙ ap (parts_pre inner (suc i) after ss q)
          (fun_ext (λ (needs : List AssertionTree). λ j. bind (part i (pre_same d s (with_next q (before_part q.next needs 0)) j)) (λ p. rule (p ∷ needs))))
