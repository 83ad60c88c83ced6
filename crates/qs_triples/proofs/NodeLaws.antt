-- What is found at a node decides what the node answers, whatever its parts.
use Rattle.std.proofs.Common.{◌≡◌, ℕ, suc, List, [], ◌∷◌, length, refl, sym, ap, ◌∙◌, subst}
use Rattle.std.specs.Prelude.{◌==◌, Bool, Box, Vec, Result, Ok, Err}
use Rattle.std.specs.declared.alloc.Global.{Global}
use Rattle.std.proofs.lemmas.Bool.{eq-eqb, ne_eqb}
use Rattle.qs_base.specs.Results.{bind, require}
use Rattle.qs_assert.specs.declared.tree.Assertion.{Assertion}
use Rattle.qs_assert.specs.Trees.{AssertionTree}
use Rattle.qs_entail.specs.declared.certificate.Certificate.{Certificate}
use Rattle.qs_entail.specs.View.{cert_tree}
use Rattle.qs_entail.specs.Certificates.{CertTree}
use Rattle.qs_core.specs.declared.labels.CoreLabel.{CoreLabel}
use Rattle.qs_core.specs.declared.statements.CoreStmt.{CoreStmt}
use Rattle.qs_core.specs.TreeOf.{core_expr, core_stmt, core_stmts}
use Rattle.qs_core.specs.Trees.{CoreExprTree, CoreStmtTree, CoreStmts, stmts_of}
use Rattle.qs_triples.specs.Derivations.{DerivationTree, sequence, loop, switch, DerivationTrees, count_derivations}
use Rattle.qs_triples.specs.Forms.{IsSequenceOf, IsSwitchOf}
use Rattle.qs_triples.specs.Nodes.{as_many, HasParts, HasNoParts, of_cases, HasCases, HasNoCases, HasTurns, HasNoTurns}
use Rattle.qs_triples.specs.Rules.{Answer, Posts, Scope, shape, part, certified, count_stmts, step_posts, body_posts, switch_posts, before_part, switched, pre, sequence_pre, parts_pre}
use Rattle.qs_triples.specs.Told.{FailsAs, Follows}
use Rattle.qs_triples.specs.TreeOf.{derivation_step, derivation_tree, derivation_trees}
use Rattle.qs_triples.specs.declared.derivation.Derivation.{Derivation, Derivation-F, fold-roll-Derivation}
use Rattle.qs_triples.specs.declared.derivation.Derivation.TheViews.{Sequence, Loop, Switch}
use Rattle.qs_triples.specs.declared.derivation.Derivation.TheVariants.{rolls-Sequence, rolls-Loop, rolls-Switch}
use Rattle.qs_triples.specs.declared.failure.Failure.{Failure}
use Rattle.qs_triples.specs.declared.forms.Cases.{Cases}
use Rattle.qs_triples.specs.declared.forms.Turns.{Turns}
use Rattle.qs_triples.proofs.Answers.{fails_by, follows_by, bind_fails}

-- ---- sequences

counted_stmts : (ss : List CoreStmt) → count_stmts (stmts_of (core_stmts ss)) ≡ length ss
counted_stmts [] = refl
counted_stmts (s ∷ ss) = ap suc (counted_stmts ss)

counted_derivations : (ds : List Derivation) → count_derivations (derivation_trees ds) ≡ length ds
counted_derivations [] = refl
counted_derivations (d ∷ ds) = ap suc (counted_derivations ds)

pub has_parts : (ss : List CoreStmt) (s : CoreStmtTree) (count : ℕ) → IsSequenceOf ss s → length ss ≡ count → HasParts ss s count
has_parts ss s count h e = (
  e,
  λ rule. h (λ ts. require (count == count_stmts ts) (shape []) (rule ts))
      ∙ ap (λ (b : Bool). require b (shape []) (rule (stmts_of (core_stmts ss)))) (eq-eqb count (count_stmts (stmts_of (core_stmts ss))) (sym (counted_stmts ss ∙ e))),
)

pub other_count : (failure : Failure) (ss : List CoreStmt) (s : CoreStmtTree) (count : ℕ) → IsSequenceOf ss s → (length ss ≡ count → ⊥) → FailsAs failure (Err (shape [])) → HasNoParts failure s count
other_count failure ss s count h differs k =
    λ rule. fails_by failure _ _
    (h (λ ts. require (count == count_stmts ts) (shape []) (rule ts))
    ∙ ap (λ (b : Bool). require b (shape []) (rule (stmts_of (core_stmts ss)))) (ne_eqb count (count_stmts (stmts_of (core_stmts ss))) (λ e. differs (sym (e ∙ counted_stmts ss))))) k

pub no_parts : (failure : Failure) (ds : List Derivation) (c : Scope) (s : CoreStmtTree) (q : Posts) → HasNoParts failure s (length ds) → FailsAs failure (pre (sequence (derivation_trees ds)) c s q)
no_parts failure ds c s q h =
    subst (λ (n : ℕ). FailsAs failure (as_many s n (λ ss. sequence_pre (derivation_trees ds) 0 c ss q))) (sym (counted_derivations ds)) (h (λ ss. sequence_pre (derivation_trees ds) 0 c ss q))

pub sequence_follows : (result : Result AssertionTree Failure) (ds : List Derivation) (ss : List CoreStmt) (c : Scope) (s : CoreStmtTree) (q : Posts) → HasParts ss s (length ds) → Follows result (sequence_pre (derivation_trees ds) 0 c (stmts_of (core_stmts ss)) q) → Follows result (pre (sequence (derivation_trees ds)) c s q)
sequence_follows result ds ss c s q h k =
    follows_by result _ _
    (ap (λ (n : ℕ). as_many s n (λ ts. sequence_pre (derivation_trees ds) 0 c ts q)) (counted_derivations ds) ∙ h.1 (λ ts. sequence_pre (derivation_trees ds) 0 c ts q)) k

-- ---- switches

pub has_cases : (x : Cases) (s : CoreStmtTree) (count : ℕ) → IsSwitchOf x s → length x.parts.now ≡ count → HasCases x s count
has_cases x s count h e = (
  e,
  λ rule. h (λ f labels ts. require (count == count_stmts ts) (shape []) (rule f labels ts))
      ∙ ap (λ (b : Bool). require b (shape []) (rule (core_expr x.operand.now) x.labels.now (stmts_of (core_stmts x.parts.now))))
      (eq-eqb count (count_stmts (stmts_of (core_stmts x.parts.now))) (sym (counted_stmts x.parts.now ∙ e))),
)

pub other_cases : (failure : Failure) (x : Cases) (s : CoreStmtTree) (count : ℕ) → IsSwitchOf x s → (length x.parts.now ≡ count → ⊥) → FailsAs failure (Err (shape [])) → HasNoCases failure s count
other_cases failure x s count h differs k =
    λ rule. fails_by failure _ _
    (h (λ f labels ts. require (count == count_stmts ts) (shape []) (rule f labels ts))
    ∙ ap (λ (b : Bool). require b (shape []) (rule (core_expr x.operand.now) x.labels.now (stmts_of (core_stmts x.parts.now))))
    (ne_eqb count (count_stmts (stmts_of (core_stmts x.parts.now))) (λ e. differs (sym (e ∙ counted_stmts x.parts.now))))) k

-- from what the parts need
abbrev of_parts : DerivationTrees → Scope → Posts → CoreExprTree → List CoreLabel → CoreStmts → Answer
of_parts ds c q e labels ss = parts_pre ds 0 c ss (switch_posts q) (λ before. Ok (switched q.next (before_part q.next before) e labels))

pub no_cases : (failure : Failure) (ds : List Derivation) (c : Scope) (s : CoreStmtTree) (q : Posts) → HasNoCases failure s (length ds) → FailsAs failure (pre (switch (derivation_trees ds)) c s q)
no_cases failure ds c s q h =
    subst (λ (n : ℕ). FailsAs failure (of_cases s n (of_parts (derivation_trees ds) c q))) (sym (counted_derivations ds)) (h (of_parts (derivation_trees ds) c q))

-- what the node answers, by its parts
cases_are : (x : Cases) (ds : List Derivation) (c : Scope) (s : CoreStmtTree) (q : Posts) → HasCases x s (length ds) → pre (switch (derivation_trees ds)) c s q ≡ of_parts (derivation_trees ds) c q (core_expr x.operand.now) x.labels.now (stmts_of (core_stmts x.parts.now))
cases_are x ds c s q h =
    ap (λ (n : ℕ). of_cases s n (of_parts (derivation_trees ds) c q)) (counted_derivations ds) ∙ h.1 (of_parts (derivation_trees ds) c q)

pub parts_fail :
    (failure : Failure) (x : Cases) (ds : List Derivation) (c : Scope) (s : CoreStmtTree) (q : Posts) → HasCases x s (length ds)
    → ((rule : List AssertionTree → Answer) → FailsAs failure (parts_pre (derivation_trees ds) 0 c (stmts_of (core_stmts x.parts.now)) (switch_posts q) rule))
    → FailsAs failure (pre (switch (derivation_trees ds)) c s q)
parts_fail failure x ds c s q h k = fails_by failure _ _ (cases_are x ds c s q h) (k _)

pub switch_is :
    (x : Cases) (ds : List Derivation) (c : Scope) (s : CoreStmtTree) (q : Posts) (before : List AssertionTree) → HasCases x s (length ds)
    → ((rule : List AssertionTree → Answer) → parts_pre (derivation_trees ds) 0 c (stmts_of (core_stmts x.parts.now)) (switch_posts q) rule ≡ rule before)
    → pre (switch (derivation_trees ds)) c s q ≡ Ok (switched q.next (before_part q.next before) (core_expr x.operand.now) x.labels.now)
switch_is x ds c s q before h k = cases_are x ds c s q h ∙ k _

-- ---- loops with an invariant

abbrev of_turns : AssertionTree → CertTree → (d e : DerivationTree) → Scope → Posts → CoreStmtTree → CoreStmtTree → Answer
of_turns i w d e c q body step =
    bind (part 1 (pre e c step (step_posts i q))) (λ j. bind (part 0 (pre d c body (body_posts j q))) (λ p. certified c.defines w i p i))

pub no_turns : (failure : Failure) (i : AssertionTree) (w : CertTree) (d e : DerivationTree) (c : Scope) (s : CoreStmtTree) (q : Posts) → HasNoTurns failure c i s → FailsAs failure (pre (loop i w d e) c s q)
no_turns failure i w d e c s q h = h (of_turns i w d e c q)

pub step_fails : (failure : Failure) (t : Turns) (i : AssertionTree) (w : CertTree) (d e : DerivationTree) (c : Scope) (s : CoreStmtTree) (q : Posts) → HasTurns t c i s → FailsAs failure (part 1 (pre e c (core_stmt t.step.now) (step_posts i q))) → FailsAs failure (pre (loop i w d e) c s q)
step_fails failure t i w d e c s q h k =
    fails_by failure _ _ (h (of_turns i w d e c q))
    (bind_fails failure (part 1 (pre e c (core_stmt t.step.now) (step_posts i q))) (λ j. bind (part 0 (pre d c (core_stmt t.body.now) (body_posts j q))) (λ p. certified c.defines w i p i)) k)

pub body_fails : (failure : Failure) (t : Turns) (i : AssertionTree) (w : CertTree) (d e : DerivationTree) (c : Scope) (s : CoreStmtTree) (q : Posts) (j : AssertionTree) → HasTurns t c i s → part 1 (pre e c (core_stmt t.step.now) (step_posts i q)) ≡ Ok j → FailsAs failure (part 0 (pre d c (core_stmt t.body.now) (body_posts j q))) → FailsAs failure (pre (loop i w d e) c s q)
body_fails failure t i w d e c s q j h g k =
    fails_by failure _ _ (h (of_turns i w d e c q) ∙ ap (λ (x : Answer). bind x (λ j. bind (part 0 (pre d c (core_stmt t.body.now) (body_posts j q))) (λ p. certified c.defines w i p i))) g)
    (bind_fails failure (part 0 (pre d c (core_stmt t.body.now) (body_posts j q))) (λ p. certified c.defines w i p i) k)

pub turns_follow : (result : Result AssertionTree Failure) (t : Turns) (i : AssertionTree) (w : CertTree) (d e : DerivationTree) (c : Scope) (s : CoreStmtTree) (q : Posts) (j p : AssertionTree) → HasTurns t c i s → part 1 (pre e c (core_stmt t.step.now) (step_posts i q)) ≡ Ok j → part 0 (pre d c (core_stmt t.body.now) (body_posts j q)) ≡ Ok p → Follows result (certified c.defines w i p i) → Follows result (pre (loop i w d e) c s q)
turns_follow result t i w d e c s q j p h g l k =
    follows_by result _ _
    (h (of_turns i w d e c q)
    ∙ (ap (λ (x : Answer). bind x (λ j. bind (part 0 (pre d c (core_stmt t.body.now) (body_posts j q))) (λ p. certified c.defines w i p i))) g
    ∙ ap (λ (x : Answer). bind x (λ p. certified c.defines w i p i)) l)) k

-- ---- the trees of derivations

pub sequence_of : (ds : Vec Derivation Global) → derivation_tree (Sequence ds) ≡ sequence (derivation_trees ds.items)
sequence_of ds = ap derivation_tree (sym (rolls-Sequence ds)) ∙ fold-roll-Derivation DerivationTree derivation_step (Derivation-F.Sequence ds)

pub loop_of : (i : Assertion) (w : Certificate) (d e : Box Derivation Global) → derivation_tree (Loop i w d e) ≡ loop i (cert_tree w) (derivation_tree d.value) (derivation_tree e.value)
loop_of i w d e = ap derivation_tree (sym (rolls-Loop i w d e)) ∙ fold-roll-Derivation DerivationTree derivation_step (Derivation-F.Loop i w d e)

pub switch_of : (ds : Vec Derivation Global) → derivation_tree (Switch ds) ≡ switch (derivation_trees ds.items)
switch_of ds = ap derivation_tree (sym (rolls-Switch ds)) ∙ fold-roll-Derivation DerivationTree derivation_step (Derivation-F.Switch ds)
