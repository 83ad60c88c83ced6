-- What is written for an open function derives its entry.
use Rattle.std.proofs.Common.{◌≡◌, ℕ, zero, suc, ◌≤◌, ◌==◌, Bool, true, false, List, [], ◌∷◌, ◌++◌, length, map, ⊎_elim, refl, ap, ◌∙◌, subst, arith}
use Rattle.std.specs.Prelude.{pos, replicate, if◌then◌else◌, Option, Some, None, Result, Ok}
use Rattle.std.specs.List.{slice_get}
use Rattle.std.specs.Option.{option_or}
use Rattle.std.proofs.lemmas.Bool.{both_ways, or_left, or_right, eq-eqb, ne_eqb, cases_eq}
use Rattle.std.proofs.Math.Path.{fun_ext}
use Rattle.std.proofs.lemmas.List.Folds.{list_any-append}
use Rattle.qs_base.specs.Results.{bind, require, fault_or}
use Rattle.qs_base.specs.declared.function.FnId.{FnId}
use Rattle.qs_calls.specs.declared.callee.Callee.{Callee}
use Rattle.qs_calls.specs.declared.callee.Callee.TheVariants.{Function, PutChar, GetChar}
use Rattle.qs_assert.specs.declared.define.Define.{Define}
use Rattle.qs_assert.specs.declared.variable.Var.{Var}
use Rattle.qs_assert.specs.declared.variable.VarKind.TheVariants as kinds
use Rattle.qs_assert.specs.Order.{IsInOrder}
use Rattle.qs_assert.specs.Trees.{TermTree, AssertionTree, cost, total, greatest, AssertionTrees, no_assertions, assertion_and, assertions_of}
use Rattle.qs_assert.proofs.SamenessLaws.{assertion_self}
use Rattle.qs_core.specs.CallGraph.{callee, callees, all_callees, called_by, is_member}
use Rattle.qs_core.specs.declared.labels.CoreLabel.{CoreLabel}
use Rattle.qs_core.specs.declared.labels.CoreLabel.TheVariants.{Case, Default}
use Rattle.qs_core.specs.Statements.{default_part}
use Rattle.qs_core.specs.Trees as core
use Rattle.qs_core.specs.Trees.{CoreExprTree, CoreStmtTree, CoreStmts, no_stmts, stmt_and, stmts_of, CoreFunctionTree, CoreUnitTree}
use Rattle.qs_entail.specs.declared.fault.Rule.TheVariants as rules
use Rattle.qs_entail.specs.Building.{Stop}
use Rattle.qs_entail.specs.Certificates.{CertTree, same, pick, all, by_definition, cert_and, no_certs}
use Rattle.qs_entail.specs.Faults as certificates
use Rattle.qs_entail.specs.Faults.{definition, member, unfolded, node, step}
use Rattle.qs_entail.specs.Pushing.{Known, at_first}
use Rattle.qs_entail.specs.Verdicts.{is_given, fault, verdict}
use Rattle.qs_triples.specs.Derivations.{leaf, sequence, derivation_and, ProofsTree, SpecTree, spec_of, count_derivations}
use Rattle.qs_triples.specs.Entries.{function_posts, scope_of, order_told, mentions_fault, entry_told, result_at_end, ends_in_return, fault_of_known, entry_fault, IsDerived}
use Rattle.qs_triples.specs.ExpressionTerms.{var, expression_term, expression_condition}
use Rattle.qs_triples.specs.Mentions.{first_of, as_plain}
use Rattle.qs_assert.specs.Images.{assertion_image}
use Rattle.qs_core.specs.Expressions.{type_of}
use Rattle.qs_core.specs.FunctionNames.{function_name}
use Rattle.qs_triples.specs.Filled.{for_call, for_calls}
use Rattle.qs_triples.specs.TreeOf.{derivations_of}
use Rattle.qs_triples.specs.Rules.{Answer, Scope, Posts, CallSite, DerivFault, body_posts, with_next, target_kind, replaced, by_condition, either, part, certified, by_verdict, known_callee, of_spec, balanced_rule, count_stmts, pre, sequence_pre, parts_pre, before_part, before_chosen, all_need, by_term, by_labels, switched, shape, in_postcondition}
use Rattle.qs_callgraph.proofs.MemberLaws.{first_cases, member_first}
use Rattle.qs_analyse.specs.Fillable.{body_in, open_entry}
use Rattle.qs_analyse.specs.Written.{each_written, place_of, pick_certificate, call_certificate, written_call, written, all_written}
use Rattle.qs_analyse.proofs.NameLaws.{same_self}
use Rattle.qs_analyse.proofs.OpenNames.{by_name}

-- ---- certificates

fault_same : (ds : List Define) (k : Known) (a : AssertionTree) → fault same ds k a a ≡ None
fault_same ds k a = ap (λ (b : Bool). if b then None else Some (step [] rules.Same)) (assertion_self a)

fault_pick :
    (ds : List Define) (k : Known) (members : AssertionTrees) (i : ℕ) (a q : AssertionTree) → member members i ≡ Ok a
    → fault same ds k a q ≡ None → fault (pick (pos i) same) ds k (greatest members) q ≡ None
fault_pick ds k members i a q is h =
    ap (λ (r : Result AssertionTree Stop). if is_given r then node rules.Pick r (λ a. certificates.part 0 (fault same ds k a q)) else Some (step [] rules.Pick)) is
    ∙ ap (certificates.part 0) h

fault_unfold :
    (ds : List Define) (k : Known) (n : List ℕ) (body p q : AssertionTree) (c : CertTree) → definition ds n ≡ Ok body
    → fault c ds k (unfolded n body p) (unfolded n body q) ≡ None → fault (by_definition n c) ds k p q ≡ None
fault_unfold ds k n body p q c is h =
    ap (λ (r : Result AssertionTree Stop). if is_given r then node rules.ByDefinition r (λ body. certificates.part 0 (fault c ds k (unfolded n body p) (unfolded n body q))) else Some (step [] rules.ByDefinition)) is
    ∙ ap (certificates.part 0) h

verdict_same : (ds : List Define) (a : AssertionTree) → verdict [] ds a a same ≡ None
verdict_same ds a = ap (λ (b : Bool). if b then None else Some (step [] rules.Same)) (assertion_self a)

verdict_both :
    (ds : List Define) (p a b : AssertionTree) (c d : CertTree) → fault c ds at_first p a ≡ None → fault d ds at_first p b ≡ None
    → verdict [] ds p (greatest (assertion_and a (assertion_and b no_assertions))) (all (cert_and c (cert_and d no_certs))) ≡ None
verdict_both ds p a b c d h k =
    ap (λ x. option_or (certificates.part 0 x) (option_or (certificates.part 1 (fault d ds at_first p b)) None)) h
    ∙ ap (λ x. option_or (certificates.part 1 x) None) k

module _ (needs : ℕ → AssertionTree) where
  member_place : (gs : List ℕ) (g : ℕ) → is_member g gs ≡ true → member (assertions_of (map (for_call needs) gs)) (place_of gs g) ≡ Ok (for_call needs g)
  member_place [] g m = absurd (both_ways false refl m)
  member_place (h ∷ gs) g m =
      ⊎_elim
      (λ (e : h ≡ g).
      ap (λ (b : Bool). member (assertions_of (map (for_call needs) (h ∷ gs))) (if b then 0 else suc (place_of gs g))) (eq-eqb h g e)
      ∙ ap (λ (x : ℕ). Ok (for_call needs x)) e)
      (λ (d : h ≡ g → ⊥).
      ap (λ (b : Bool). member (assertions_of (map (for_call needs) (h ∷ gs))) (if b then 0 else suc (place_of gs g))) (ne_eqb h g d)
      ∙ member_place gs g (⊎_elim (λ (e : h ≡ g). absurd (d e)) (λ (n : is_member g gs ≡ true). n) (first_cases g h gs m)))
      (cases_eq h g)

  -- what the greatest of the calls needs is enough for each
  pick_fault : (ds : List Define) (k : Known) (gs : List ℕ) (g : ℕ) → is_member g gs ≡ true → fault (pick_certificate gs g) ds k (for_calls needs gs) (for_call needs g) ≡ None
  pick_fault ds k [] g m = absurd (both_ways false refl m)
  pick_fault ds k (h ∷ []) g m =
      ⊎_elim
      (λ (e : h ≡ g). subst (λ (x : ℕ). fault same ds k (for_call needs h) (for_call needs x) ≡ None) e (fault_same ds k (for_call needs h)))
      (λ (n : is_member g [] ≡ true). absurd (both_ways false refl n)) (first_cases g h [] m)
  pick_fault ds k (h ∷ i ∷ gs) g m =
      fault_pick ds k (assertions_of (map (for_call needs) (h ∷ i ∷ gs))) (place_of (h ∷ i ∷ gs) g) (for_call needs g) (for_call needs g)
      (member_place (h ∷ i ∷ gs) g m) (fault_same ds k (for_call needs g))

-- the certificate where there are several
pub pick_many : (gs : List ℕ) (g : ℕ) → 2 ≤ length gs → pick_certificate gs g ≡ pick (pos (place_of gs g)) same
pick_many [] g l = absurd (omega (arith, l))
pick_many (h ∷ []) g l = absurd (omega (arith, l))
pick_many (h ∷ i ∷ gs) g l = refl

pub each_is : (name callees : List ℕ) (ss : List CoreStmtTree) → derivations_of (each_written name callees ss) ≡ all_written name callees (stmts_of ss)
each_is name callees [] = refl
each_is name callees (s ∷ ss) = ap (derivation_and (written name callees s)) (each_is name callees ss)

-- ---- statements

-- all that a body's rules ask of the function and of those that it calls
pub record Setting (u : CoreUnitTree) (proofs : ProofsTree) (f : ℕ) : Type 0 where
  pub defined : definition proofs.defines (function_name u f) ≡ Ok (for_calls (by_name u) (called_by u f))
  pub named_apart : (g : ℕ) → is_member g (called_by u f) ≡ true → unfolded (function_name u f) (for_calls (by_name u) (called_by u f)) (by_name u g) ≡ by_name u g
  pub known : (g : ℕ) → is_member g (called_by u f) ≡ true → (h : CoreFunctionTree) × (slice_get u.functions g ≡ Some h)
  pub specs : (g : ℕ) → is_member g (called_by u f) ≡ true → spec_of proofs g ≡ Some (record { pre = by_name u g; post = by_name u g })

module _ (u : CoreUnitTree) (proofs : ProofsTree) (f : ℕ) (function : CoreFunctionTree) (is : Setting u proofs f) where
  abbrev need : AssertionTree
  need = by_name u f

  abbrev scope : Scope
  scope = scope_of u proofs function

  abbrev posts : Posts
  posts = function_posts need

  abbrev gs : List ℕ
  gs = called_by u f

  abbrev name : List ℕ
  name = function_name u f

  first_called : (hs is : List ℕ) → ((g : ℕ) → is_member g (hs ++ is) ≡ true → is_member g gs ≡ true) → (g : ℕ) → is_member g hs ≡ true → is_member g gs ≡ true
  first_called hs is h g m = h g (list_any-append (λ (x : ℕ). x == g) hs is ∙ or_left (is_member g hs) (is_member g is) m)

  second_called : (hs is : List ℕ) → ((g : ℕ) → is_member g (hs ++ is) ≡ true → is_member g gs ≡ true) → (g : ℕ) → is_member g is ≡ true → is_member g gs ≡ true
  second_called hs is h g m = h g (list_any-append (λ (x : ℕ). x == g) hs is ∙ or_right (is_member g hs) (is_member g is) m)

  replaced_is : (x : Var) (t : Option TermTree) → replaced x t need ≡ Ok need
  replaced_is x None = refl
  replaced_is x (Some t) = refl

  abbrev around_call : ℕ → AssertionTree
  around_call g = greatest (assertion_and need (assertion_and (for_call (by_name u) g) no_assertions))

  abbrev both : ℕ → SpecTree
  both g = record { pre = by_name u g; post = by_name u g }

  abbrev site : Option ℕ → ℕ → List CoreExprTree → CallSite
  site x g es = record { destination = x; function = g; arguments = es }

  balanced_is : (x : Option ℕ) (g : ℕ) (es : List CoreExprTree) (h : CoreFunctionTree) → balanced_rule posts (site x g es) (record { function = h; spec = both g }) ≡ Ok (around_call g)
  balanced_is None g es h = ap (λ (b : Bool). require b (shape []) (Ok (around_call g))) (assertion_self (by_name u g))
  balanced_is (Some k) g es h = ap (λ (b : Bool). require b (shape []) (Ok (around_call g))) (assertion_self (by_name u g))

  callee_is : (x : Option ℕ) (g : ℕ) (es : List CoreExprTree) → is_member g gs ≡ true → known_callee scope (site x g es) (balanced_rule posts (site x g es)) ≡ Ok (around_call g)
  callee_is x g es m =
      let h = is.known g m in
      ap (λ o. of_spec g o (spec_of proofs g) (balanced_rule posts (site x g es))) h.1
      ∙ ap (λ o. of_spec g (Some h.0) o (balanced_rule posts (site x g es))) (is.specs g m)
      ∙ balanced_is x g es h.0

  call_shown : (g : ℕ) → is_member g gs ≡ true → verdict [] proofs.defines need (around_call g) (call_certificate name gs g) ≡ None
  call_shown g m =
      let body = for_calls (by_name u) gs in
      let here : unfolded name body need ≡ body = ap (λ (b : Bool). if b then body else need) (same_self name) in
      let there : unfolded name body (for_call (by_name u) g) ≡ for_call (by_name u) g =
      ap (λ (a : AssertionTree). total (assertion_and (cost g) (assertion_and a no_assertions))) (is.named_apart g m) in
      verdict_both proofs.defines need need (for_call (by_name u) g) same (by_definition name (pick_certificate gs g)) (fault_same proofs.defines at_first need)
      (fault_unfold proofs.defines at_first name body need (for_call (by_name u) g) (pick_certificate gs g) is.defined
      (ap (λ (a : AssertionTree). fault (pick_certificate gs g) proofs.defines at_first a (unfolded name body (for_call (by_name u) g))) here
      ∙ ap (fault (pick_certificate gs g) proofs.defines at_first body) there
      ∙ pick_fault (by_name u) proofs.defines at_first gs g m))

  call_ok : (x : Option ℕ) (g : FnId) (es : List CoreExprTree) → is_member g.0 gs ≡ true → pre (written_call name gs (Function g)) scope (core.call x (Function g) es) posts ≡ Ok need
  call_ok x g es m =
      ap (λ (r : Answer). bind r (λ p. certified proofs.defines (call_certificate name gs g.0) need p need)) (callee_is x g.0 es m)
      ∙ ap (λ v. by_verdict v need) (call_shown g.0 m)

  called_ok : (x : Option ℕ) (g : Callee) (es : List CoreExprTree) → ((k : ℕ) → is_member k (callee g) ≡ true → is_member k gs ≡ true) → pre (written_call name gs g) scope (core.call x g es) posts ≡ Ok need
  called_ok None PutChar es h = refl
  called_ok (Some k) PutChar es h = refl
  called_ok None GetChar es h = refl
  called_ok (Some k) GetChar es h = refl
  called_ok x (Function g) es h = call_ok x g es (h g.0 (member_first g.0 []))

  counts : (ss : CoreStmts) → count_derivations (all_written name gs ss) ≡ count_stmts ss
  counts no_stmts = refl
  counts (stmt_and s ss) = ap suc (counts ss)

  returned_ok : (e : Option CoreExprTree) → pre leaf scope (core.return e) posts ≡ Ok need
  returned_ok None = refl
  returned_ok (Some e) = replaced_is (var kinds.Returned (type_of e)) (expression_term e)

  -- ---- a switch whose parts all need the name needs it too

  abbrev needed_by_switch : CoreExprTree → List CoreLabel → List AssertionTree → Answer
  needed_by_switch e labels before = Ok (switched need (before_part need before) e labels)

  need_before : (n k : ℕ) → before_part need (replicate n need) k ≡ need
  need_before zero k = refl
  need_before (suc n) zero = refl
  need_before (suc n) (suc k) = need_before n k

  chosen_same : (part : Option ℕ) → before_chosen need (λ k. need) part ≡ need
  chosen_same None = refl
  chosen_same (Some k) = refl

  all_same : (labels : List CoreLabel) → all_need need (λ k. need) labels ≡ true
  all_same [] = refl
  all_same (Case n k ∷ labels) = rw (assertion_self need) (all_same labels)
  all_same (Default k ∷ labels) = all_same labels

  switched_same : (n : ℕ) (e : CoreExprTree) (labels : List CoreLabel) → switched need (before_part need (replicate n need)) e labels ≡ need
  switched_same n e labels =
      ap (λ (before : ℕ → AssertionTree). switched need before e labels) (fun_ext (need_before n))
      ∙ ap (λ (d : AssertionTree). by_labels d (λ k. need) (type_of e) (expression_term e) labels) (chosen_same (default_part labels))
      ∙ ap (λ (b : Bool). if b then need else by_term need (λ k. need) (type_of e) (expression_term e) labels) (all_same labels)

  mutual
    stmt_ok : (s : CoreStmtTree) → ((g : ℕ) → is_member g (callees s) ≡ true → is_member g gs ≡ true) → pre (written name gs s) scope s posts ≡ Ok need
    stmt_ok core.skip h = refl
    stmt_ok (core.seq ss) h =
        ap (λ (b : Bool). require b (shape []) (sequence_pre (all_written name gs ss) 0 scope ss posts)) (eq-eqb (count_derivations (all_written name gs ss)) (count_stmts ss) (counts ss)) ∙ stmts_ok 0 ss h
    stmt_ok (core.assign x e) h = replaced_is (var (target_kind x) (type_of e)) (expression_term e)
    stmt_ok (core.store s to e) h = refl
    stmt_ok (core.copy size alignment to from) h = refl
    stmt_ok (core.fill contents to) h = refl
    stmt_ok (core.call x g es) h = called_ok x g es h
    stmt_ok (core.branch e s t) h =
        ap (λ (r : Answer). bind (part 0 r) (λ a. bind (part 1 (pre (written name gs t) scope t posts)) (λ b. Ok (either (expression_condition e) a b)))) (stmt_ok s (first_called (callees s) (callees t) h))
        ∙ ap (λ (r : Answer). bind (part 1 r) (λ b. Ok (either (expression_condition e) need b))) (stmt_ok t (second_called (callees s) (callees t) h))
        ∙ ap (λ (b : Bool). Ok (if b then need else by_condition (expression_condition e) need need)) (assertion_self need)
    stmt_ok (core.loop body last) h =
        ap (λ (r : Answer). bind (part 1 r) (λ j. bind (part 0 (pre (written name gs body) scope body (body_posts j posts))) (λ p. certified proofs.defines same need p need)))
        (stmt_ok last (second_called (callees body) (callees last) h))
        ∙ ap (λ (r : Answer). bind (part 0 r) (λ p. certified proofs.defines same need p need)) (stmt_ok body (first_called (callees body) (callees last) h))
        ∙ ap (λ v. by_verdict v need) (verdict_same proofs.defines need)
    stmt_ok (core.switch e labels ss) h =
        ap (λ (b : Bool). require b (shape []) (parts_pre (all_written name gs ss) 0 scope ss posts (needed_by_switch e labels))) (eq-eqb (count_derivations (all_written name gs ss)) (count_stmts ss) (counts ss))
        ∙ parts_ok 0 ss (needed_by_switch e labels) h ∙ ap Ok (switched_same (count_stmts ss) e labels)
    stmt_ok core.break h = refl
    stmt_ok core.continue h = refl
    stmt_ok (core.return e) h = returned_ok e

    stmts_ok : (i : ℕ) (ss : CoreStmts) → ((g : ℕ) → is_member g (all_callees ss) ≡ true → is_member g gs ≡ true) → sequence_pre (all_written name gs ss) i scope ss posts ≡ Ok need
    stmts_ok i no_stmts h = refl
    stmts_ok i (stmt_and s ss) h =
        ap (λ (r : Answer). bind r (λ n. part i (pre (written name gs s) scope s (with_next posts n)))) (stmts_ok (suc i) ss (second_called (callees s) (all_callees ss) h))
        ∙ ap (part i) (stmt_ok s (first_called (callees s) (all_callees ss) h))

    parts_ok :
        (i : ℕ) (ss : CoreStmts) (rule : List AssertionTree → Answer) → ((g : ℕ) → is_member g (all_callees ss) ≡ true → is_member g gs ≡ true)
        → parts_pre (all_written name gs ss) i scope ss posts rule ≡ rule (replicate (count_stmts ss) need)
    parts_ok i no_stmts rule h = refl
    parts_ok i (stmt_and s ss) rule h =
        let n = count_stmts ss in
        parts_ok (suc i) ss (λ before. bind (part i (pre (written name gs s) scope s (with_next posts (before_part need before 0)))) (λ p. rule (p ∷ before))) (second_called (callees s) (all_callees ss) h)
        ∙ ap (λ (a : AssertionTree). bind (part i (pre (written name gs s) scope s (with_next posts a))) (λ p. rule (p ∷ replicate n need))) (need_before n 0)
        ∙ ap (λ (r : Answer). bind (part i r) (λ p. rule (p ∷ replicate n need))) (stmt_ok s (first_called (callees s) (all_callees ss) h))

  end_none : (b : Bool) → (elim b as (λ b. Option Var) [ true ↦ None | false ↦ first_of kinds.Returned need ]) ≡ None
  end_none true = refl
  end_none false = refl

  abbrev walk : Answer → Option DerivFault
  walk r = fault_or (λ fault. fault) r (λ p. entry_told (verdict [] proofs.defines need (assertion_image as_plain p) same))

  pub derived :
      slice_get u.functions f ≡ Some function → IsInOrder proofs.defines
      → ((g : ℕ) → is_member g (all_callees function.body) ≡ true → is_member g gs ≡ true) → IsDerived u proofs (open_entry u f)
  derived here order called =
      ap (λ (body : CoreStmts). entry_fault u proofs (record { function = f; spec = both f; entry = same; body = sequence (all_written name gs body) })) (ap body_in here)
      ∙ ap (λ o. fault_of_known u proofs o (record { function = f; spec = both f; entry = same; body = sequence (all_written name gs function.body) })) here
      ∙ ap (λ o. option_or (order_told o) (option_or (mentions_fault in_postcondition (result_at_end function need)) (walk (pre (sequence (all_written name gs function.body)) scope (core.seq function.body) posts)))) order
      ∙ ap (λ o. option_or (mentions_fault in_postcondition o) (walk (pre (sequence (all_written name gs function.body)) scope (core.seq function.body) posts))) (end_none (ends_in_return function.body))
      ∙ ap walk (stmt_ok (core.seq function.body) called)
      ∙ ap entry_told (verdict_same proofs.defines need)
