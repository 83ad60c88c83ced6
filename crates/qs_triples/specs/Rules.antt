-- The rules of derivations, one for each form of node. A rule gives the assertion that is enough before a statement,
-- where the posts are enough behind it; or the first fault in the order of search. What is bounded decides in two of them
-- alone: at a call, which gives back its cost on the stack and not where calls are counted.
use Rattle.std.specs.Prelude.{ℕ, suc, ◌==◌, ◌&&◌, not, Bool, true, false, if◌then◌else◌, List, [], ◌∷◌, slice_index_or, Option, Some, None, option_map, Result, Ok, Err}
use Rattle.qs_base.specs.Results.{bind, require}
use Rattle.qs_memory.specs.declared.scalar.Scalar.{Scalar}
use Rattle.qs_calls.specs.declared.callee.Callee.{Callee}
use Rattle.qs_calls.specs.declared.callee.Callee.TheVariants.{Function, PutChar, GetChar}
use Rattle.qs_assert.specs.declared.define.Define.{Define}
use Rattle.qs_assert.specs.declared.variable.VarKind.{VarKind}
use Rattle.qs_assert.specs.declared.variable.VarKind.TheVariants as kinds
use Rattle.qs_assert.specs.declared.variable.Var.{Var}
use Rattle.qs_assert.specs.Sameness.{same_assertion}
use Rattle.qs_assert.specs.Substitution.{in_assertion}
use Rattle.qs_assert.specs.Images.{assertion_image}
use Rattle.qs_assert.specs.Simultaneous.{terms_for, first_without}
use Rattle.qs_assert.specs.Trees.{TermTree, number, CondTree, eq, AssertionTree, cost, total, greatest, choose, AssertionTrees, no_assertions, assertion_and}
use Rattle.qs_entail.specs.Certificates.{CertTree}
use Rattle.qs_entail.specs.Faults as certificates
use Rattle.qs_entail.specs.Verdicts.{verdict}
use Rattle.qs_core.specs.declared.labels.CoreLabel.{CoreLabel}
use Rattle.qs_core.specs.declared.labels.CoreLabel.TheVariants.{Case, Default}
use Rattle.qs_core.specs.declared.numbers.Target.{Target}
use Rattle.qs_core.specs.declared.numbers.Target.TheVariants as targets
use Rattle.qs_core.specs.Trees as core
use Rattle.qs_core.specs.Trees.{CoreExprTree, CoreStmtTree, CoreStmts, no_stmts, stmt_and, CoreFunctionTree}
use Rattle.qs_core.specs.Expressions.{type_of}
use Rattle.qs_core.specs.Statements.{default_part}
use Rattle.qs_core.specs.Terms.{literal_value}
use Rattle.std.specs.List.{slice_get}
use Rattle.qs_triples.specs.Derivations.{DerivationTree, leaf, sequence, conditional, loop, switch, call, balanced_call, consequence, DerivationTrees, no_derivations, derivation_and, count_derivations, SpecTree}
use Rattle.qs_triples.specs.ExpressionTerms.{var, expression_term, expression_condition}
use Rattle.qs_triples.specs.declared.resource.Resource.{Resource}
use Rattle.qs_triples.specs.declared.resource.Resource.TheVariants.{Stack, Calls}
use Rattle.qs_triples.specs.Mentions.{in_body, first_other, first_of, first_of_destination, pre_images, post_images, first_without_argument, plain_variable, as_old}

-- ---- faults

-- where an assertion stands; a path has the numbers of the parts of statements, from that of the body on
pub data Place : Type 0 where
  in_precondition : Place
  in_postcondition : Place
  at_node : (path : List ℕ) → Place

pub data DerivFault : Type 0 where
  -- a node that isn't one for its statement
  shape : (path : List ℕ) → DerivFault
  -- a variable that may not be mentioned there; or one of the function that is called there, that is needed and has no
  -- term
  mentions : Place → (callee : Option ℕ) → Var → DerivFault
  -- a certificate that doesn't show what it is to show
  certificate : (path : List ℕ) → certificates.CertFault → DerivFault
  -- a call of a function without a specification
  no_spec : (path : List ℕ) → (callee : ℕ) → DerivFault
  -- the certificate that the precondition is enough
  entry : certificates.CertFault → DerivFault
  -- a definition with a name that isn't defined earlier
  bad_order : (definition : ℕ) → DerivFault

abbrev pub Answer : Type 0
Answer = Result AssertionTree DerivFault

-- ---- places

abbrev pub here : Place
here = at_node []

abbrev pub place_below : ℕ → Place → Place
place_below i in_precondition = in_precondition
place_below i in_postcondition = in_postcondition
place_below i (at_node path) = at_node (i ∷ path)

abbrev pub fault_below : ℕ → DerivFault → DerivFault
fault_below i (shape path) = shape (i ∷ path)
fault_below i (mentions place g x) = mentions (place_below i place) g x
fault_below i (certificate path fault) = certificate (i ∷ path) fault
fault_below i (no_spec path g) = no_spec (i ∷ path) g
fault_below i (entry fault) = entry fault
fault_below i (bad_order d) = bad_order d

-- the answer of part i of a statement
abbrev pub part : ℕ → Answer → Answer
part i (Ok a) = Ok a
part i (Err fault) = Err (fault_below i fault)

-- ---- conditions of rules

-- no such variable is found, of that function or of this one
abbrev pub unless_of : (callee : Option ℕ) → Option Var → Answer → Answer
unless_of g None next = next
unless_of g (Some x) next = Err (mentions here g x)

abbrev pub unless : Option Var → Answer → Answer
unless found next = unless_of None found next

abbrev pub by_verdict : Option certificates.CertFault → AssertionTree → Answer
by_verdict None r = Ok r
by_verdict (Some fault) r = Err (certificate [] fault)

-- r, where a certificate shows that p is at least q
abbrev pub certified :
    List Define → CertTree → (p q : AssertionTree) → (r : AssertionTree) → Answer
certified defines c p q r = by_verdict (verdict [] defines p q c) r

-- ---- what holds in a body

-- what is enough behind a statement: in each way in which it can be left
pub record Posts : Type 0 where
  pub next : AssertionTree
  pub on_break : AssertionTree
  pub on_continue : AssertionTree
  pub on_return : AssertionTree

-- the same all through a body: what is bounded, its function, all functions, their specifications, the definitions
pub record Scope : Type 0 where
  pub resource : Resource
  pub function : CoreFunctionTree
  pub functions : List CoreFunctionTree
  pub specs : (function : ℕ) → Option SpecTree
  pub defines : List Define

abbrev pub with_next : Posts → AssertionTree → Posts
with_next q n = record q { next = n }

-- ---- leaf: simple statements, and calls of the functions that the environment gives

abbrev pub target_kind : Target → VarKind
target_kind (targets.Variable x) = kinds.Plain x
target_kind (targets.Temporary k) = kinds.Temporary k

-- the assertion with the term in the place of the variable, which it must not mention where there is no term
abbrev pub replaced : Var → Option TermTree → AssertionTree → Answer
replaced x (Some t) a = Ok (in_assertion x t a)
replaced x None a = unless (first_of x.kind a) (Ok a)

abbrev pub returned_rule : Option CoreExprTree → (post : AssertionTree) → Answer
returned_rule None post = unless (first_of kinds.Returned post) (Ok post)
returned_rule (Some e) post = replaced (var kinds.Returned (type_of e)) (expression_term e) post

abbrev pub given_rule : (destination : Option ℕ) → Callee → (next : AssertionTree) → Answer
given_rule x PutChar next = unless (first_of_destination x next) (Ok next)
given_rule x GetChar next = unless (first_of_destination x next) (Ok next)
given_rule x (Function g) next = Err (shape [])

abbrev pub leaf_rule : CoreStmtTree → Posts → Answer
leaf_rule core.skip q = Ok q.next
leaf_rule (core.assign x e) q = replaced (var (target_kind x) (type_of e)) (expression_term e) q.next
leaf_rule (core.store s to e) q = Ok q.next
leaf_rule (core.copy size alignment to from) q = Ok q.next
leaf_rule (core.fill contents to) q = Ok q.next
leaf_rule (core.call x g es) q = given_rule x g q.next
leaf_rule core.break q = Ok q.on_break
leaf_rule core.continue q = Ok q.on_continue
leaf_rule (core.return e) q = returned_rule e q.on_return
leaf_rule (core.seq ss) q = Err (shape [])
leaf_rule (core.branch e s t) q = Err (shape [])
leaf_rule (core.loop body step) q = Err (shape [])
leaf_rule (core.switch e labels ss) q = Err (shape [])

-- ---- conditional

abbrev pub two : AssertionTree → AssertionTree → AssertionTrees
two a b = assertion_and a (assertion_and b no_assertions)

-- without a condition both must be paid for
abbrev pub by_condition : Option CondTree → (first second : AssertionTree) → AssertionTree
by_condition (Some c) a b = choose c a b
by_condition None a b = greatest (two a b)

-- where both are the same tree, that one
abbrev pub either : Option CondTree → (first second : AssertionTree) → AssertionTree
either c a b = if same_assertion a b then a else by_condition c a b

-- ---- loop

-- behind the step the invariant holds again, and a break leaves the loop
abbrev pub step_posts : (invariant : AssertionTree) → Posts → Posts
step_posts i q =
    record { next = i; on_break = q.next; on_continue = q.on_continue; on_return = q.on_return }

-- behind the body, and after a continue, comes the step
abbrev pub body_posts : (before_step : AssertionTree) → Posts → Posts
body_posts j q = record { next = j; on_break = q.next; on_continue = j; on_return = q.on_return }

-- ---- switch

-- a break leaves the switch; a continue and a return leave it to where they would go from there
abbrev pub switch_posts : Posts → Posts
switch_posts q = record q { on_break = q.next }

-- what must be free before the part with this number; behind the last one it is what comes behind the switch
abbrev pub before_part : (next : AssertionTree) → (before : List AssertionTree) → (part : ℕ) → AssertionTree
before_part next before part = slice_index_or before part next

-- the same where there may be no such part
abbrev pub before_chosen : (next : AssertionTree) → (before : ℕ → AssertionTree) → Option ℕ → AssertionTree
before_chosen next before None = next
before_chosen next before (Some part) = before part

-- whether d must be free at each case
abbrev pub all_need : (d : AssertionTree) → (before : ℕ → AssertionTree) → List CoreLabel → Bool
all_need d before [] = true
all_need d before (Case n part ∷ labels) = same_assertion (before part) d && all_need d before labels
all_need d before (Default part ∷ labels) = all_need d before labels

-- the first case whose value the operand's term has decides, or else d is needed
abbrev pub by_values : (d : AssertionTree) → (before : ℕ → AssertionTree) → Scalar → TermTree → List CoreLabel → AssertionTree
by_values d before s t [] = d
by_values d before s t (Case n part ∷ labels) =
    choose (eq t (number (literal_value s n))) (before part) (by_values d before s t labels)
by_values d before s t (Default part ∷ labels) = by_values d before s t labels

-- what must be free at each case, and d behind them
abbrev pub at_cases : (d : AssertionTree) → (before : ℕ → AssertionTree) → List CoreLabel → AssertionTrees
at_cases d before [] = assertion_and d no_assertions
at_cases d before (Case n part ∷ labels) = assertion_and (before part) (at_cases d before labels)
at_cases d before (Default part ∷ labels) = at_cases d before labels

-- without a term all must be paid for
abbrev pub by_term : (d : AssertionTree) → (before : ℕ → AssertionTree) → Scalar → Option TermTree → List CoreLabel → AssertionTree
by_term d before s (Some t) labels = by_values d before s t labels
by_term d before s None labels = greatest (at_cases d before labels)

-- where all are the same tree, that one; the operand has this type and this term, and d must be free at `default`
abbrev pub by_labels : (d : AssertionTree) → (before : ℕ → AssertionTree) → Scalar → Option TermTree → List CoreLabel → AssertionTree
by_labels d before s t labels = if all_need d before labels then d else by_term d before s t labels

abbrev pub switched : (next : AssertionTree) → (before : ℕ → AssertionTree) → CoreExprTree → List CoreLabel → AssertionTree
switched next before e labels =
    by_labels (before_chosen next before (default_part labels)) before (type_of e) (expression_term e) labels

-- ---- calls

abbrev pub three : (a b c : AssertionTree) → AssertionTrees
three a b c = assertion_and a (two b c)

-- the cost of the function, what it needs, and a frame that it doesn't touch
abbrev pub with_frame : (function : ℕ) → AssertionTree → (frame : AssertionTree) → AssertionTree
with_frame g p frame = total (three (cost g) p frame)

-- what is there behind the call: its cost, where that is given back, what it leaves, and the frame
abbrev pub with_frame_behind : Resource → (function : ℕ) → AssertionTree → (frame : AssertionTree) → AssertionTree
with_frame_behind Stack g q frame = with_frame g q frame
with_frame_behind Calls g q frame = total (two q frame)

-- no call gives back what it takes where calls are counted
abbrev pub where_given_back : Resource → Answer → Answer
where_given_back Stack answer = answer
where_given_back Calls answer = Err (shape [])

-- what comes after the call, or what it needs, whichever is more
abbrev pub around : (function : ℕ) → (next pre : AssertionTree) → AssertionTree
around g next pre = greatest (two next (total (two (cost g) pre)))

-- an assertion of the callee at the call
abbrev pub at_call : (Var → Option TermTree) → AssertionTree → AssertionTree
at_call images a = assertion_image (terms_for images) a

-- the postcondition is the precondition of the values at the entry
abbrev pub is_balanced : SpecTree → Bool
is_balanced spec = same_assertion spec.post (assertion_image as_old spec.pre)

-- ---- the forms of statements

abbrev pub of_sequence : CoreStmtTree → (CoreStmts → Answer) → Answer
of_sequence (core.seq ss) rule = rule ss
of_sequence core.skip rule = Err (shape [])
of_sequence (core.assign x e) rule = Err (shape [])
of_sequence (core.store s to e) rule = Err (shape [])
of_sequence (core.copy size alignment to from) rule = Err (shape [])
of_sequence (core.fill contents to) rule = Err (shape [])
of_sequence (core.call x g es) rule = Err (shape [])
of_sequence (core.branch e s t) rule = Err (shape [])
of_sequence (core.loop body step) rule = Err (shape [])
of_sequence (core.switch e labels ss) rule = Err (shape [])
of_sequence core.break rule = Err (shape [])
of_sequence core.continue rule = Err (shape [])
of_sequence (core.return e) rule = Err (shape [])

abbrev pub of_branch : CoreStmtTree → (CoreExprTree → CoreStmtTree → CoreStmtTree → Answer) → Answer
of_branch (core.branch e s t) rule = rule e s t
of_branch core.skip rule = Err (shape [])
of_branch (core.seq ss) rule = Err (shape [])
of_branch (core.assign x e) rule = Err (shape [])
of_branch (core.store s to e) rule = Err (shape [])
of_branch (core.copy size alignment to from) rule = Err (shape [])
of_branch (core.fill contents to) rule = Err (shape [])
of_branch (core.call x g es) rule = Err (shape [])
of_branch (core.loop body step) rule = Err (shape [])
of_branch (core.switch e labels ss) rule = Err (shape [])
of_branch core.break rule = Err (shape [])
of_branch core.continue rule = Err (shape [])
of_branch (core.return e) rule = Err (shape [])

abbrev pub of_loop : CoreStmtTree → (CoreStmtTree → CoreStmtTree → Answer) → Answer
of_loop (core.loop body step) rule = rule body step
of_loop core.skip rule = Err (shape [])
of_loop (core.seq ss) rule = Err (shape [])
of_loop (core.assign x e) rule = Err (shape [])
of_loop (core.store s to e) rule = Err (shape [])
of_loop (core.copy size alignment to from) rule = Err (shape [])
of_loop (core.fill contents to) rule = Err (shape [])
of_loop (core.call x g es) rule = Err (shape [])
of_loop (core.branch e s t) rule = Err (shape [])
of_loop (core.switch e labels ss) rule = Err (shape [])
of_loop core.break rule = Err (shape [])
of_loop core.continue rule = Err (shape [])
of_loop (core.return e) rule = Err (shape [])

abbrev pub of_switch : CoreStmtTree → (CoreExprTree → List CoreLabel → CoreStmts → Answer) → Answer
of_switch (core.switch e labels ss) rule = rule e labels ss
of_switch core.skip rule = Err (shape [])
of_switch (core.seq ss) rule = Err (shape [])
of_switch (core.assign x e) rule = Err (shape [])
of_switch (core.store s to e) rule = Err (shape [])
of_switch (core.copy size alignment to from) rule = Err (shape [])
of_switch (core.fill contents to) rule = Err (shape [])
of_switch (core.call x g es) rule = Err (shape [])
of_switch (core.branch e s t) rule = Err (shape [])
of_switch (core.loop body step) rule = Err (shape [])
of_switch core.break rule = Err (shape [])
of_switch core.continue rule = Err (shape [])
of_switch (core.return e) rule = Err (shape [])

-- a call of a function with a body
pub record CallSite : Type 0 where
  pub destination : Option ℕ
  pub function : ℕ
  pub arguments : List CoreExprTree

abbrev pub of_callee : Option ℕ → Callee → List CoreExprTree → (CallSite → Answer) → Answer
of_callee x (Function g) es rule = rule (record { destination = x; function = g.0; arguments = es })
of_callee x PutChar es rule = Err (shape [])
of_callee x GetChar es rule = Err (shape [])

abbrev pub of_call : CoreStmtTree → (CallSite → Answer) → Answer
of_call (core.call x g es) rule = of_callee x g es rule
of_call core.skip rule = Err (shape [])
of_call (core.seq ss) rule = Err (shape [])
of_call (core.assign x e) rule = Err (shape [])
of_call (core.store s to e) rule = Err (shape [])
of_call (core.copy size alignment to from) rule = Err (shape [])
of_call (core.fill contents to) rule = Err (shape [])
of_call (core.branch e s t) rule = Err (shape [])
of_call (core.loop body step) rule = Err (shape [])
of_call (core.switch e labels ss) rule = Err (shape [])
of_call core.break rule = Err (shape [])
of_call core.continue rule = Err (shape [])
of_call (core.return e) rule = Err (shape [])

-- the callee and its specification
pub record Known : Type 0 where
  pub function : CoreFunctionTree
  pub spec : SpecTree

abbrev pub of_spec : (function : ℕ) → Option CoreFunctionTree → Option SpecTree → (Known → Answer) → Answer
of_spec g None spec rule = Err (no_spec [] g)
of_spec g (Some f) None rule = Err (no_spec [] g)
of_spec g (Some f) (Some spec) rule = rule (record { function = f; spec = spec })

abbrev pub known_callee : Scope → CallSite → (Known → Answer) → Answer
known_callee c site rule =
    of_spec site.function (slice_get c.functions site.function) (c.specs site.function) rule

-- a call with a frame
abbrev pub call_rule : Scope → (frame : AssertionTree) → CertTree → Posts → CallSite → Known → Answer
call_rule c a w q site g =
    let before = pre_images g.function site.arguments in
    let behind = post_images g.function site.destination site.arguments in
    unless (first_other c.function (in_body c.function) a)
    (unless (first_of_destination site.destination a)
    (unless_of (Some site.function) (first_without before g.spec.pre)
    (unless_of (Some site.function) (option_map plain_variable (first_without_argument behind g.spec.post))
    (unless_of (Some site.function) (first_without behind g.spec.post)
    (certified c.defines w
    (with_frame_behind c.resource site.function (at_call behind g.spec.post) a) q.next
    (with_frame site.function (at_call before g.spec.pre) a))))))

-- a call of a function that gives back what it takes
abbrev pub balanced_rule : Posts → CallSite → Known → Answer
balanced_rule q site g =
    let before = pre_images g.function site.arguments in
    require (is_balanced g.spec) (shape [])
    (unless (first_of_destination site.destination q.next)
    (unless_of (Some site.function) (first_without before g.spec.pre)
    (Ok (around site.function q.next (at_call before g.spec.pre)))))

abbrev pub is_consequence : DerivationTree → Bool
is_consequence leaf = false
is_consequence (sequence ds) = false
is_consequence (conditional d e) = false
is_consequence (loop i w d e) = false
is_consequence (switch ds) = false
is_consequence (call a w) = false
is_consequence balanced_call = false
is_consequence (consequence r w d) = true

abbrev pub count_stmts : CoreStmts → ℕ
count_stmts no_stmts = 0
count_stmts (stmt_and s ss) = suc (count_stmts ss)

-- ---- the rules

-- The conditions that speak of the statement, the specification and the variables come first, then the parts, then the
-- certificate.
abbrev mutual
  pub pre : DerivationTree → Scope → CoreStmtTree → Posts → Answer
  pre leaf c s q = leaf_rule s q
  pre (sequence ds) c s q = of_sequence s (λ ss.
      require (count_derivations ds == count_stmts ss) (shape [])
      (sequence_pre ds 0 c ss q))
  pre (conditional d e) c s q = of_branch s (λ condition s t.
      bind (part 0 (pre d c s q)) (λ a.
      bind (part 1 (pre e c t q)) (λ b.
      Ok (either (expression_condition condition) a b))))
  pre (loop i w d e) c s q = of_loop s (λ body step.
      unless (first_other c.function (in_body c.function) i)
      (bind (part 1 (pre e c step (step_posts i q))) (λ j.
      bind (part 0 (pre d c body (body_posts j q))) (λ p.
      certified c.defines w i p i))))
  pre (switch ds) c s q = of_switch s (λ e labels ss.
      require (count_derivations ds == count_stmts ss) (shape [])
      (parts_pre ds 0 c ss (switch_posts q) (λ before.
      Ok (switched q.next (before_part q.next before) e labels))))
  pre (call a w) c s q = of_call s (λ site. known_callee c site (call_rule c a w q site))
  pre balanced_call c s q =
      where_given_back c.resource (of_call s (λ site. known_callee c site (balanced_rule q site)))
  pre (consequence r w d) c s q =
      require (not (is_consequence d)) (shape [])
      (unless (first_other c.function (in_body c.function) r)
      (bind (pre d c s q) (λ p.
      certified c.defines w r p r)))

  -- from the last part to the first; i is the number of the first
  pub sequence_pre : DerivationTrees → (i : ℕ) → Scope → CoreStmts → Posts → Answer
  sequence_pre no_derivations i c no_stmts q = Ok q.next
  sequence_pre no_derivations i c (stmt_and s ss) q = Err (shape [])
  sequence_pre (derivation_and d ds) i c no_stmts q = Err (shape [])
  sequence_pre (derivation_and d ds) i c (stmt_and s ss) q =
      bind (sequence_pre ds (suc i) c ss q) (λ n. part i (pre d c s (with_next q n)))

  -- the rule, where it gets what must be free before each part, which is found from the last to the first; behind each
  -- part comes the next one
  pub parts_pre : DerivationTrees → (i : ℕ) → Scope → CoreStmts → Posts → (rule : List AssertionTree → Answer) → Answer
  parts_pre no_derivations i c no_stmts q rule = rule []
  parts_pre no_derivations i c (stmt_and s ss) q rule = Err (shape [])
  parts_pre (derivation_and d ds) i c no_stmts q rule = Err (shape [])
  parts_pre (derivation_and d ds) i c (stmt_and s ss) q rule =
      parts_pre ds (suc i) c ss q (λ before.
      bind (part i (pre d c s (with_next q (before_part q.next before 0)))) (λ p. rule (p ∷ before)))
