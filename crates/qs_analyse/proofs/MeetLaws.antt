-- In what is filled each call meets a specification.
use Rattle.std.proofs.Common.{◌≡◌, ℕ, suc, ◌<◌, ◌||◌, Bool, true, false, cond, List, [], ◌∷◌, ◌++◌, filter, length, ⊎_elim, refl, sym, ap, ◌∙◌, subst}
use Rattle.std.specs.Prelude.{◌≢◌, ◌==◌, not, is_some, option_map, Option, Some, None, Ok, Err}
use Rattle.std.specs.List.{slice_get, list_any}
use Rattle.std.specs.Option.{option_or}
use Rattle.std.proofs.lemmas.Bool.{both_ways, cases_Bool}
use Rattle.qs_base.specs.Results.{bind, require, fault_or}
use Rattle.qs_calls.specs.declared.callee.Callee.TheVariants.{Function, PutChar, GetChar}
use Rattle.qs_assert.specs.Images.{assertion_image}
use Rattle.qs_assert.specs.Order.{order_fault, IsInOrder}
use Rattle.qs_assert.specs.Simultaneous.{first_without}
use Rattle.qs_assert.specs.Trees.{AssertionTree, TermTree}
use Rattle.qs_assert.specs.declared.define.Define.{Define}
use Rattle.qs_assert.specs.declared.variable.Var.{Var}
use Rattle.qs_entail.specs.Certificates.{CertTree}
use Rattle.qs_entail.specs.Faults as certificates
use Rattle.qs_entail.specs.Verdicts.{verdict}
use Rattle.qs_core.specs.CallGraph.{callees, all_callees, callees_of, HasCall, is_member}
use Rattle.qs_core.specs.Fits.{unit_fits}
use Rattle.qs_core.specs.declared.labels.CoreLabel.{CoreLabel}
use Rattle.qs_core.specs.Trees as core
use Rattle.qs_core.specs.Trees.{CoreExprTree, CoreStmtTree, CoreStmts, no_stmts, stmt_and, CoreFunctionTree, CoreUnitTree}
use Rattle.qs_triples.specs.Derivations.{DerivationTree, leaf, sequence, conditional, loop, switch, call, balanced_call, consequence, DerivationTrees, no_derivations, derivation_and, count_derivations, SpecTree, EntryTree, ProofsTree, is_entry_of, entry_of}
use Rattle.qs_triples.specs.Entries.{order_told, mentions_fault, entry_told, scope_for, function_posts, result_at_end, fault_in_for, fault_of_known_for, fault_of_entry_for, function_fault_for, fault_in, fault_of_known, fault_of_entry, function_fault, has_entry}
use Rattle.qs_triples.specs.ExpressionTerms.{expression_condition}
use Rattle.qs_triples.specs.Filled.{Filled}
use Rattle.qs_triples.specs.Mentions.{in_body, in_pre, in_post, first_other, first_of_destination, first_without_argument, plain_variable, pre_images, post_images, as_plain}
use Rattle.qs_triples.specs.declared.resource.Resource.{Resource}
use Rattle.qs_triples.specs.declared.resource.Resource.TheVariants.{Stack, Calls}
use Rattle.qs_triples.specs.Rules.{Place, DerivFault, shape, mentions, certificate, no_spec, entry, bad_order, Answer, fault_below, part, unless, unless_of, where_given_back, by_verdict, certified, Posts, Scope, with_next, replaced, returned_rule, leaf_rule, step_posts, body_posts, either, with_frame, with_frame_behind, around, at_call, is_balanced, is_consequence, count_stmts, in_precondition, in_postcondition, CallSite, Known, of_sequence, of_branch, of_loop, of_switch, switch_posts, before_part, switched, of_call, of_spec, known_callee, call_rule, balanced_rule, pre, sequence_pre, parts_pre}
use Rattle.qs_triples.proofs.FunctionLaws.{entry_is_of}
use Rattle.qs_callgraph.proofs.MemberLaws.{member_first, member_kept, member_behind}
use Rattle.qs_callgraph.proofs.UnitCalls.{calls_within}
use Rattle.qs_analyse.specs.Laws.{CallsMeetSpecs}
use Rattle.qs_analyse.proofs.AddedLaws.{found}
use Rattle.qs_analyse.proofs.SettingLaws.{there_at}

-- ---- faults of an entry whose calls meet specifications, where the definitions are in order

abbrev pub is_met : DerivFault → Bool
is_met (shape path) = true
is_met (mentions place g x) = true
is_met (certificate path fault) = true
is_met (no_spec path g) = false
is_met (entry fault) = true
is_met (bad_order d) = false

-- a fault that is answered is such a one
record Meets (answer : Answer) : Type 0 where
  all : (fault : DerivFault) → answer ≡ Err fault → is_met fault ≡ true

meets_ok : (a : AssertionTree) → Meets (Ok a)
meets_ok a = record { all = λ fault e. cc }

meets_err : (d : DerivFault) → is_met d ≡ true → Meets (Err d)
meets_err d h = record { all = λ fault e. let same : d ≡ fault = cc in ap is_met (sym same) ∙ h }

meets_shape : Meets (Err (shape []))
meets_shape = meets_err (shape []) refl

meets_unless_of : (g : Option ℕ) (found : Option Var) (next : Answer) → Meets next → Meets (unless_of g found next)
meets_unless_of g None next h = h
meets_unless_of g (Some x) next h = meets_err _ refl

meets_unless : (found : Option Var) (next : Answer) → Meets next → Meets (unless found next)
meets_unless found next h = meets_unless_of None found next h

meets_given_back : (resource : Resource) (answer : Answer) → Meets answer → Meets (where_given_back resource answer)
meets_given_back Stack answer h = h
meets_given_back Calls answer h = meets_shape

meets_verdict : (found : Option certificates.CertFault) (r : AssertionTree) → Meets (by_verdict found r)
meets_verdict None r = meets_ok r
meets_verdict (Some fault) r = meets_err (certificate [] fault) refl

meets_certified : (ds : List Define) (w : CertTree) (p q r : AssertionTree) → Meets (certified ds w p q r)
meets_certified ds w p q r = meets_verdict (verdict [] ds p q w) r

met_below : (i : ℕ) (d : DerivFault) → is_met d ≡ true → is_met (fault_below i d) ≡ true
met_below i (shape path) h = refl
met_below i (mentions place g x) h = refl
met_below i (certificate path fault) h = refl
met_below i (no_spec path g) h = h
met_below i (entry fault) h = refl
met_below i (bad_order d) h = h

meets_part : (i : ℕ) (answer : Answer) → Meets answer → Meets (part i answer)
meets_part i (Ok a) h = meets_ok a
meets_part i (Err d) h = meets_err (fault_below i d) (met_below i d (h.all d refl))

meets_bind : (answer : Answer) (next : AssertionTree → Answer) → Meets answer → ((a : AssertionTree) → Meets (next a)) → Meets (bind answer next)
meets_bind (Ok a) next h k = k a
meets_bind (Err d) next h k = meets_err d (h.all d refl)

meets_require : (b : Bool) (next : Answer) → Meets next → Meets (require b (shape []) next)
meets_require true next h = h
meets_require false next h = meets_shape

-- ---- leaves

meets_replaced : (x : Var) (t : Option TermTree) (a : AssertionTree) → Meets (replaced x t a)
meets_replaced x (Some t) a = meets_ok _
meets_replaced x None a = meets_unless _ (Ok a) (meets_ok a)

meets_returned : (e : Option CoreExprTree) (post : AssertionTree) → Meets (returned_rule e post)
meets_returned None post = meets_unless _ (Ok post) (meets_ok post)
meets_returned (Some e) post = meets_replaced _ _ post

meets_leaf : (s : CoreStmtTree) (q : Posts) → Meets (leaf_rule s q)
meets_leaf core.skip q = meets_ok q.next
meets_leaf (core.seq ss) q = meets_shape
meets_leaf (core.assign x e) q = meets_replaced _ _ q.next
meets_leaf (core.store s to e) q = meets_ok q.next
meets_leaf (core.copy size alignment to from) q = meets_ok q.next
meets_leaf (core.fill contents to) q = meets_ok q.next
meets_leaf (core.call x (Function g) es) q = meets_shape
meets_leaf (core.call x PutChar es) q = meets_unless _ (Ok q.next) (meets_ok q.next)
meets_leaf (core.call x GetChar es) q = meets_unless _ (Ok q.next) (meets_ok q.next)
meets_leaf (core.branch e s t) q = meets_shape
meets_leaf (core.loop body step) q = meets_shape
meets_leaf (core.switch e labels ss) q = meets_shape
meets_leaf core.break q = meets_ok q.on_break
meets_leaf core.continue q = meets_ok q.on_continue
meets_leaf (core.return e) q = meets_returned e q.on_return

-- ---- calls

-- there are a function and its specification
record HasSpec (c : Scope) (g : ℕ) : Type 0 where
  function : CoreFunctionTree
  there : slice_get c.functions g ≡ Some function
  spec : SpecTree
  has : c.specs g ≡ Some spec

abbrev Knows : Scope → List ℕ → Type 0
Knows c gs = (g : ℕ) → is_member g gs ≡ true → HasSpec c g

meets_known : (c : Scope) (site : CallSite) (rule : Known → Answer) → HasSpec c site.function → ((g : Known) → Meets (rule g)) → Meets (known_callee c site rule)
meets_known c site rule k h =
    let is : known_callee c site rule ≡ rule (record { function = k.function; spec = k.spec }) =
    ap (λ (o : Option CoreFunctionTree). of_spec site.function o (c.specs site.function) rule) k.there
    ∙ ap (λ (o : Option SpecTree). of_spec site.function (Some k.function) o rule) k.has in
    subst Meets (sym is) (h (record { function = k.function; spec = k.spec }))

meets_call : (c : Scope) (a : AssertionTree) (w : CertTree) (q : Posts) (site : CallSite) (g : Known) → Meets (call_rule c a w q site g)
meets_call c a w q site g =
    let callee : Option ℕ = Some site.function in
    let before = pre_images g.function site.arguments in
    let behind = post_images g.function site.destination site.arguments in
    let last = certified c.defines w (with_frame_behind c.resource site.function (at_call behind g.spec.post) a) q.next (with_frame site.function (at_call before g.spec.pre) a) in
    let fifth = unless_of callee (first_without behind g.spec.post) last in
    let fourth = unless_of callee (option_map plain_variable (first_without_argument behind g.spec.post)) fifth in
    let third = unless_of callee (first_without before g.spec.pre) fourth in
    let second = unless (first_of_destination site.destination a) third in
    meets_unless (first_other c.function (in_body c.function) a) second
    (meets_unless (first_of_destination site.destination a) third
    (meets_unless_of callee (first_without before g.spec.pre) fourth
    (meets_unless_of callee (option_map plain_variable (first_without_argument behind g.spec.post)) fifth
    (meets_unless_of callee (first_without behind g.spec.post) last
    (meets_certified c.defines w (with_frame_behind c.resource site.function (at_call behind g.spec.post) a) q.next (with_frame site.function (at_call before g.spec.pre) a))))))

meets_balanced : (q : Posts) (site : CallSite) (g : Known) → Meets (balanced_rule q site g)
meets_balanced q site g =
    let before = pre_images g.function site.arguments in
    let last = Ok (around site.function q.next (at_call before g.spec.pre)) in
    let second = unless_of (Some site.function) (first_without before g.spec.pre) last in
    meets_require (is_balanced g.spec) (unless (first_of_destination site.destination q.next) second)
    (meets_unless (first_of_destination site.destination q.next) second
    (meets_unless_of (Some site.function) (first_without before g.spec.pre) last (meets_ok (around site.function q.next (at_call before g.spec.pre)))))

-- ---- the forms of statements

meets_sequence : (c : Scope) (s : CoreStmtTree) (rule : CoreStmts → Answer) → Knows c (callees s) → ((ss : CoreStmts) → Knows c (all_callees ss) → Meets (rule ss)) → Meets (of_sequence s rule)
meets_sequence c (core.seq ss) rule k h = h ss k
meets_sequence c core.skip rule k h = meets_shape
meets_sequence c (core.assign x e) rule k h = meets_shape
meets_sequence c (core.store s to e) rule k h = meets_shape
meets_sequence c (core.copy size alignment to from) rule k h = meets_shape
meets_sequence c (core.fill contents to) rule k h = meets_shape
meets_sequence c (core.call x g es) rule k h = meets_shape
meets_sequence c (core.branch e s t) rule k h = meets_shape
meets_sequence c (core.loop body step) rule k h = meets_shape
meets_sequence c (core.switch e labels ss) rule k h = meets_shape
meets_sequence c core.break rule k h = meets_shape
meets_sequence c core.continue rule k h = meets_shape
meets_sequence c (core.return e) rule k h = meets_shape

in_front : (c : Scope) (fs gs : List ℕ) → Knows c (fs ++ gs) → Knows c fs
in_front c fs gs k g m = k g (member_kept g fs gs m)

in_back : (c : Scope) (fs gs : List ℕ) → Knows c (fs ++ gs) → Knows c gs
in_back c fs gs k g m = k g (member_behind g fs gs m)

meets_branch :
    (c : Scope) (s : CoreStmtTree) (rule : CoreExprTree → CoreStmtTree → CoreStmtTree → Answer) → Knows c (callees s)
    → ((e : CoreExprTree) (a b : CoreStmtTree) → Knows c (callees a) → Knows c (callees b) → Meets (rule e a b)) → Meets (of_branch s rule)
meets_branch c (core.branch e a b) rule k h = h e a b (in_front c (callees a) (callees b) k) (in_back c (callees a) (callees b) k)
meets_branch c core.skip rule k h = meets_shape
meets_branch c (core.seq ss) rule k h = meets_shape
meets_branch c (core.assign x e) rule k h = meets_shape
meets_branch c (core.store s to e) rule k h = meets_shape
meets_branch c (core.copy size alignment to from) rule k h = meets_shape
meets_branch c (core.fill contents to) rule k h = meets_shape
meets_branch c (core.call x g es) rule k h = meets_shape
meets_branch c (core.loop body step) rule k h = meets_shape
meets_branch c (core.switch e labels ss) rule k h = meets_shape
meets_branch c core.break rule k h = meets_shape
meets_branch c core.continue rule k h = meets_shape
meets_branch c (core.return e) rule k h = meets_shape

meets_loop :
    (c : Scope) (s : CoreStmtTree) (rule : CoreStmtTree → CoreStmtTree → Answer) → Knows c (callees s)
    → ((a b : CoreStmtTree) → Knows c (callees a) → Knows c (callees b) → Meets (rule a b)) → Meets (of_loop s rule)
meets_loop c (core.loop a b) rule k h = h a b (in_front c (callees a) (callees b) k) (in_back c (callees a) (callees b) k)
meets_loop c (core.switch e labels ss) rule k h = meets_shape
meets_loop c core.skip rule k h = meets_shape
meets_loop c (core.seq ss) rule k h = meets_shape
meets_loop c (core.assign x e) rule k h = meets_shape
meets_loop c (core.store s to e) rule k h = meets_shape
meets_loop c (core.copy size alignment to from) rule k h = meets_shape
meets_loop c (core.fill contents to) rule k h = meets_shape
meets_loop c (core.call x g es) rule k h = meets_shape
meets_loop c (core.branch e s t) rule k h = meets_shape
meets_loop c core.break rule k h = meets_shape
meets_loop c core.continue rule k h = meets_shape
meets_loop c (core.return e) rule k h = meets_shape

meets_switch :
    (c : Scope) (s : CoreStmtTree) (rule : CoreExprTree → List CoreLabel → CoreStmts → Answer) → Knows c (callees s)
    → ((e : CoreExprTree) (labels : List CoreLabel) (ss : CoreStmts) → Knows c (all_callees ss) → Meets (rule e labels ss)) → Meets (of_switch s rule)
meets_switch c (core.switch e labels ss) rule k h = h e labels ss k
meets_switch c core.skip rule k h = meets_shape
meets_switch c (core.seq ss) rule k h = meets_shape
meets_switch c (core.assign x e) rule k h = meets_shape
meets_switch c (core.store s to e) rule k h = meets_shape
meets_switch c (core.copy size alignment to from) rule k h = meets_shape
meets_switch c (core.fill contents to) rule k h = meets_shape
meets_switch c (core.call x g es) rule k h = meets_shape
meets_switch c (core.branch e s t) rule k h = meets_shape
meets_switch c (core.loop body step) rule k h = meets_shape
meets_switch c core.break rule k h = meets_shape
meets_switch c core.continue rule k h = meets_shape
meets_switch c (core.return e) rule k h = meets_shape

meets_site : (c : Scope) (s : CoreStmtTree) (rule : CallSite → Answer) → Knows c (callees s) → ((site : CallSite) → HasSpec c site.function → Meets (rule site)) → Meets (of_call s rule)
meets_site c (core.call x (Function g) es) rule k h = h _ (k g.0 (member_first g.0 []))
meets_site c (core.call x PutChar es) rule k h = meets_shape
meets_site c (core.call x GetChar es) rule k h = meets_shape
meets_site c core.skip rule k h = meets_shape
meets_site c (core.seq ss) rule k h = meets_shape
meets_site c (core.assign x e) rule k h = meets_shape
meets_site c (core.store s to e) rule k h = meets_shape
meets_site c (core.copy size alignment to from) rule k h = meets_shape
meets_site c (core.fill contents to) rule k h = meets_shape
meets_site c (core.branch e s t) rule k h = meets_shape
meets_site c (core.loop body step) rule k h = meets_shape
meets_site c (core.switch e labels ss) rule k h = meets_shape
meets_site c core.break rule k h = meets_shape
meets_site c core.continue rule k h = meets_shape
meets_site c (core.return e) rule k h = meets_shape

-- ---- derivations

meets_both :
    (first second : Answer) (made : AssertionTree → AssertionTree → AssertionTree) → Meets first → Meets second
    → Meets (bind first (λ x. bind second (λ y. Ok (made x y))))
meets_both first second made h k =
    meets_bind first (λ x. bind second (λ y. Ok (made x y))) h (λ x. meets_bind second (λ y. Ok (made x y)) k (λ y. meets_ok (made x y)))

-- what is needed before a switch, by what is needed before its parts
abbrev needed_by_switch : Posts → CoreExprTree → List CoreLabel → List AssertionTree → Answer
needed_by_switch q e labels before = Ok (switched q.next (before_part q.next before) e labels)

mutual
  meets_pre : (d : DerivationTree) (c : Scope) (s : CoreStmtTree) (q : Posts) → Knows c (callees s) → Meets (pre d c s q)
  meets_pre leaf c s q k = meets_leaf s q
  meets_pre (sequence ds) c s q k =
      meets_sequence c s (λ ss. require (count_derivations ds == count_stmts ss) (shape []) (sequence_pre ds 0 c ss q)) k
      (λ ss m. meets_require (count_derivations ds == count_stmts ss) (sequence_pre ds 0 c ss q) (meets_all ds 0 c ss q m))
  meets_pre (conditional d e) c s q k =
      meets_branch c s
      (λ condition a b. bind (part 0 (pre d c a q)) (λ x. bind (part 1 (pre e c b q)) (λ y. Ok (either (expression_condition condition) x y)))) k
      (λ condition a b l r. meets_both (part 0 (pre d c a q)) (part 1 (pre e c b q)) (λ x y. either (expression_condition condition) x y)
      (meets_part 0 (pre d c a q) (meets_pre d c a q l)) (meets_part 1 (pre e c b q) (meets_pre e c b q r)))
  meets_pre (loop i w d e) c s q k =
      meets_loop c s
      (λ a b. unless (first_other c.function (in_body c.function) i)
      (bind (part 1 (pre e c b (step_posts i q))) (λ j. bind (part 0 (pre d c a (body_posts j q))) (λ p. certified c.defines w i p i)))) k
      (λ a b l r. meets_unless (first_other c.function (in_body c.function) i)
      (bind (part 1 (pre e c b (step_posts i q))) (λ j. bind (part 0 (pre d c a (body_posts j q))) (λ p. certified c.defines w i p i)))
      (meets_bind (part 1 (pre e c b (step_posts i q))) (λ j. bind (part 0 (pre d c a (body_posts j q))) (λ p. certified c.defines w i p i))
      (meets_part 1 (pre e c b (step_posts i q)) (meets_pre e c b (step_posts i q) r))
      (λ j. meets_bind (part 0 (pre d c a (body_posts j q))) (λ p. certified c.defines w i p i)
      (meets_part 0 (pre d c a (body_posts j q)) (meets_pre d c a (body_posts j q) l)) (λ p. meets_certified c.defines w i p i))))
  meets_pre (switch ds) c s q k =
      meets_switch c s (λ e labels ss. require (count_derivations ds == count_stmts ss) (shape []) (parts_pre ds 0 c ss (switch_posts q) (needed_by_switch q e labels))) k
      (λ e labels ss m. meets_require (count_derivations ds == count_stmts ss) (parts_pre ds 0 c ss (switch_posts q) (needed_by_switch q e labels))
      (meets_parts ds 0 c ss (switch_posts q) (needed_by_switch q e labels) m (λ before. meets_ok (switched q.next (before_part q.next before) e labels))))
  meets_pre (call a w) c s q k =
      meets_site c s (λ site. known_callee c site (call_rule c a w q site)) k (λ site has. meets_known c site (call_rule c a w q site) has (meets_call c a w q site))
  meets_pre balanced_call c s q k =
      meets_given_back c.resource _
      (meets_site c s (λ site. known_callee c site (balanced_rule q site)) k (λ site has. meets_known c site (balanced_rule q site) has (meets_balanced q site)))
  meets_pre (consequence r w d) c s q k =
      meets_require (not (is_consequence d)) (unless (first_other c.function (in_body c.function) r) (bind (pre d c s q) (λ p. certified c.defines w r p r)))
      (meets_unless (first_other c.function (in_body c.function) r) (bind (pre d c s q) (λ p. certified c.defines w r p r))
      (meets_bind (pre d c s q) (λ p. certified c.defines w r p r) (meets_pre d c s q k) (λ p. meets_certified c.defines w r p r)))

  meets_all : (ds : DerivationTrees) (i : ℕ) (c : Scope) (ss : CoreStmts) (q : Posts) → Knows c (all_callees ss) → Meets (sequence_pre ds i c ss q)
  meets_all no_derivations i c no_stmts q k = meets_ok q.next
  meets_all no_derivations i c (stmt_and s ss) q k = meets_shape
  meets_all (derivation_and d ds) i c no_stmts q k = meets_shape
  meets_all (derivation_and d ds) i c (stmt_and s ss) q k =
      meets_bind (sequence_pre ds (suc i) c ss q) (λ n. part i (pre d c s (with_next q n))) (meets_all ds (suc i) c ss q (in_back c (callees s) (all_callees ss) k))
      (λ n. meets_part i (pre d c s (with_next q n)) (meets_pre d c s (with_next q n) (in_front c (callees s) (all_callees ss) k)))

  meets_parts :
      (ds : DerivationTrees) (i : ℕ) (c : Scope) (ss : CoreStmts) (q : Posts) (rule : List AssertionTree → Answer) → Knows c (all_callees ss)
      → ((before : List AssertionTree) → Meets (rule before)) → Meets (parts_pre ds i c ss q rule)
  meets_parts no_derivations i c no_stmts q rule k h = h []
  meets_parts no_derivations i c (stmt_and s ss) q rule k h = meets_shape
  meets_parts (derivation_and d ds) i c no_stmts q rule k h = meets_shape
  meets_parts (derivation_and d ds) i c (stmt_and s ss) q rule k h =
      meets_parts ds (suc i) c ss q (λ before. bind (part i (pre d c s (with_next q (before_part q.next before 0)))) (λ p. rule (p ∷ before))) (in_back c (callees s) (all_callees ss) k)
      (λ before. meets_bind (part i (pre d c s (with_next q (before_part q.next before 0)))) (λ p. rule (p ∷ before))
      (meets_part i (pre d c s (with_next q (before_part q.next before 0))) (meets_pre d c s (with_next q (before_part q.next before 0)) (in_front c (callees s) (all_callees ss) k)))
      (λ p. h (p ∷ before)))

-- ---- entries

record MeetsFault (found : Option DerivFault) : Type 0 where
  all : (fault : DerivFault) → found ≡ Some fault → is_met fault ≡ true

met_none : MeetsFault None
met_none = record { all = λ fault e. cc }

met_some : (d : DerivFault) → is_met d ≡ true → MeetsFault (Some d)
met_some d h = record { all = λ fault e. let same : d ≡ fault = cc in ap is_met (sym same) ∙ h }

met_or : (a b : Option DerivFault) → MeetsFault a → MeetsFault b → MeetsFault (option_or a b)
met_or (Some d) b h k = h
met_or None b h k = k

met_five :
    (a b c d e : Option DerivFault) → MeetsFault a → MeetsFault b → MeetsFault c → MeetsFault d → MeetsFault e
    → MeetsFault (option_or a (option_or b (option_or c (option_or d e))))
met_five a b c d e h i j k l =
    met_or a (option_or b (option_or c (option_or d e))) h (met_or b (option_or c (option_or d e)) i (met_or c (option_or d e) j (met_or d e k l)))

met_mention : (place : Place) (x : Option Var) → MeetsFault (mentions_fault place x)
met_mention place None = met_none
met_mention place (Some x) = met_some (mentions place None x) refl

met_entry : (found : Option certificates.CertFault) → MeetsFault (entry_told found)
met_entry None = met_none
met_entry (Some fault) = met_some (entry fault) refl

met_body : (answer : Answer) (others : AssertionTree → Option DerivFault) → Meets answer → ((p : AssertionTree) → MeetsFault (others p)) → MeetsFault (fault_or (λ fault. fault) answer others)
met_body (Ok a) others h k = k a
met_body (Err d) others h k = met_some d (h.all d refl)

met_order : (o : Option ℕ) → o ≡ None → MeetsFault (order_told o)
met_order None h = met_none
met_order (Some d) h = cc

-- ---- an entry whose calls are of functions with entries

has_spec : (o : Option EntryTree) → is_some o ≡ true → (spec : SpecTree) × (option_map (λ (e : EntryTree). e.spec) o ≡ Some spec)
has_spec None h = cc
has_spec (Some e) h = (e.spec, refl)

module _ (resource : Resource) (u : CoreUnitTree) (fits : unit_fits u ≡ true) (proofs : ProofsTree) (order : IsInOrder proofs.defines) (f : ℕ) (called : (g : ℕ) → HasCall u f g → has_entry proofs g ≡ true) where
  knows : (function : CoreFunctionTree) → slice_get u.functions f ≡ Some function → Knows (scope_for resource u proofs function) (all_callees function.body)
  knows function is g m =
      let calls : HasCall u f g = ap (λ (o : Option CoreFunctionTree). is_member g (callees_of o)) is ∙ m in
      let callee = there_at u.functions g (calls_within u f g fits calls) in
      let spec = has_spec (entry_of proofs g) (called g calls) in
      record { function = callee.0; there = callee.1; spec = spec.0; has = spec.1 }

  met_in : (function : CoreFunctionTree) (e : EntryTree) → slice_get u.functions f ≡ Some function → MeetsFault (fault_in_for resource u proofs function e)
  met_in function e is =
      let scope : Scope = scope_for resource u proofs function in
      let others : AssertionTree → Option DerivFault = λ p. entry_told (verdict [] proofs.defines e.spec.pre (assertion_image as_plain p) e.entry) in
      met_five (order_told (order_fault proofs.defines)) (mentions_fault in_precondition (first_other function (in_pre function) e.spec.pre))
      (mentions_fault in_postcondition (first_other function (in_post function) e.spec.post)) (mentions_fault in_postcondition (result_at_end function e.spec.post))
      (fault_or (λ fault. fault) (pre e.body scope (core.seq function.body) (function_posts e.spec.post)) others)
      (met_order (order_fault proofs.defines) order)
      (met_mention in_precondition (first_other function (in_pre function) e.spec.pre))
      (met_mention in_postcondition (first_other function (in_post function) e.spec.post))
      (met_mention in_postcondition (result_at_end function e.spec.post))
      (met_body (pre e.body scope (core.seq function.body) (function_posts e.spec.post)) others
      (meets_pre e.body scope (core.seq function.body) (function_posts e.spec.post) (knows function is))
      (λ p. met_entry (verdict [] proofs.defines e.spec.pre (assertion_image as_plain p) e.entry)))

  met_known : (e : EntryTree) (o : Option CoreFunctionTree) → slice_get u.functions f ≡ o → MeetsFault (fault_of_known_for resource u proofs o e)
  met_known e (Some function) is = met_in function e is
  met_known e None is = met_some (shape []) refl

  met_found : (o : Option EntryTree) → entry_of proofs f ≡ o → MeetsFault (fault_of_entry_for resource u proofs o)
  met_found (Some e) is = met_known e (slice_get u.functions e.function) (ap (slice_get u.functions) (sym (entry_is_of proofs f e is)))
  met_found None is = met_some (shape []) refl

  -- the faults of its entry, where the definitions are in order
  pub met_fault_for : (fault : DerivFault) → function_fault_for resource u proofs f ≡ Some fault → is_met fault ≡ true
  met_fault_for fault h = (met_found (entry_of proofs f) refl).all fault h

-- ---- what is filled

-- what stands in a part of the entries stands in them
pub still_there : (p q : EntryTree → Bool) (es : List EntryTree) → list_any p (filter q es) ≡ true → list_any p es ≡ true
still_there p q [] h = h
still_there p q (e ∷ es) h = by (q e) (p e) refl h (still_there p q es)
  where
    by :
        (b c : Bool) → p e ≡ c → list_any p (cond b (e ∷ filter q es) (filter q es)) ≡ true
        → (list_any p (filter q es) ≡ true → list_any p es ≡ true) → (c || list_any p es) ≡ true
    by b true is h more = refl
    by true false is h more = more (ap (λ (c : Bool). c || list_any p (filter q es)) (sym is) ∙ h)
    by false false is h more = more h

one_passes : (p : EntryTree → Bool) (es : List EntryTree) → length (filter p es) ≡ 1 → list_any p es ≡ true
one_passes p [] h = cc
one_passes p (e ∷ es) h = by (p e) h (one_passes p es)
  where
    by : (b : Bool) → length (cond b (e ∷ filter p es) (filter p es)) ≡ 1 → (length (filter p es) ≡ 1 → list_any p es ≡ true) → (b || list_any p es) ≡ true
    by true h more = refl
    by false h more = more h

pub given_stays : (u : CoreUnitTree) (given proofs : ProofsTree) → Filled u given proofs → (f : ℕ) → has_entry given f ≡ true → has_entry proofs f ≡ true
given_stays u given proofs filled f has =
    found (is_entry_of f) proofs.functions
    ∙ still_there (is_entry_of f) (λ (e : EntryTree). has_entry given e.function) proofs.functions
    (ap (list_any (is_entry_of f)) filled.kept ∙ sym (found (is_entry_of f) given.functions) ∙ has)

module _ (u : CoreUnitTree) (fits : unit_fits u ≡ true) (given proofs : ProofsTree) (filled : Filled u given proofs) where
  pub has_all : (f : ℕ) → f < length u.functions → has_entry proofs f ≡ true
  has_all f b =
      ⊎_elim (λ (has : has_entry given f ≡ true). given_stays u given proofs filled f has)
      (λ (free : has_entry given f ≡ false). found (is_entry_of f) proofs.functions ∙ one_passes (is_entry_of f) proofs.functions (filled.one f b free))
      (cases_Bool (has_entry given f))

  -- the faults of entries, where the definitions are in order
  pub met_fault : IsInOrder proofs.defines → (f : ℕ) (fault : DerivFault) → function_fault u proofs f ≡ Some fault → is_met fault ≡ true
  met_fault order f fault h = met_fault_for Stack u fits proofs order f (λ g calls. has_all g (calls_within u f g fits calls)) fault h

-- ---- where the definitions aren't in order, that is the fault

module _ (u : CoreUnitTree) (proofs : ProofsTree) (d : ℕ) (first : order_fault proofs.defines ≡ Some d) where
  out_of_order : (function : CoreFunctionTree) (e : EntryTree) → fault_in u proofs function e ≡ Some (bad_order d)
  out_of_order function e = first_found (order_fault proofs.defines) first _
    where
      first_found : (o : Option ℕ) → o ≡ Some d → (others : Option DerivFault) → option_or (order_told o) others ≡ Some (bad_order d)
      first_found (Some c) h others = let same : c ≡ d = cc in ap (λ (n : ℕ). Some (bad_order n)) same
      first_found None h others = cc

  never_there : (g : ℕ) (path : List ℕ) (o : Option CoreFunctionTree) (e : EntryTree) → fault_of_known u proofs o e ≡ Some (no_spec path g) → ⊥
  never_there g path (Some function) e h = let two : Some (bad_order d) ≡ Some (no_spec path g) = sym (out_of_order function e) ∙ h in cc
  never_there g path None e h = cc

  never_of : (g : ℕ) (path : List ℕ) (o : Option EntryTree) → fault_of_entry u proofs o ≡ Some (no_spec path g) → ⊥
  never_of g path (Some e) h = never_there g path (slice_get u.functions e.function) e h
  never_of g path None h = cc

pub calls_meet_specs : CallsMeetSpecs
calls_meet_specs u given proofs f g path fits filled = by (order_fault proofs.defines) refl
  where
    by : (o : Option ℕ) → order_fault proofs.defines ≡ o → function_fault u proofs f ≢ Some (no_spec path g)
    by None order h = both_ways false refl (met_fault u fits given proofs filled order f (no_spec path g) h)
    by (Some d) first h = never_of u proofs d first g path (entry_of proofs f) h
