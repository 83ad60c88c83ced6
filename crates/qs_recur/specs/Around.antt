-- A derivation around an assertion that no statement changes: it is enough before each statement. Certificates show
-- that it is at least what is needed in each way in which a statement is left, and what each call needs.
use Rattle.std.specs.Prelude.{ℕ, Bool, true, false, if◌then◌else◌, List, [], ◌∷◌, length, is_some, Option, Some, None}
use Rattle.std.specs.List.{list_any}
use Rattle.qs_memory.specs.declared.scalar.Scalar.{Scalar}
use Rattle.qs_calls.specs.declared.callee.Callee.{Callee}
use Rattle.qs_calls.specs.declared.callee.Callee.TheVariants.{Function, PutChar, GetChar}
use Rattle.qs_assert.specs.Sameness.{same_cond}
use Rattle.qs_assert.specs.Trees.{TermTree, CondTree, number, eq, AssertionTree}
use Rattle.qs_core.specs.declared.labels.CoreLabel.{CoreLabel}
use Rattle.qs_core.specs.declared.labels.CoreLabel.TheVariants.{Case, Default}
use Rattle.qs_core.specs.Expressions.{type_of}
use Rattle.qs_core.specs.Statements.{default_part}
use Rattle.qs_core.specs.Terms.{literal_value}
use Rattle.qs_core.specs.Trees as core
use Rattle.qs_core.specs.Trees.{CoreExprTree, CoreStmtTree, CoreStmts, no_stmts, stmt_and}
use Rattle.qs_entail.specs.Certificates.{CertTree, same, all, split, CertTrees, no_certs, cert_and}
use Rattle.qs_entail.specs.Pushing.{at_first, push}
use Rattle.qs_entail.specs.Verdicts.{is_given}
use Rattle.qs_triples.specs.Derivations.{DerivationTree, leaf, sequence, conditional, loop, switch, balanced_call, consequence, DerivationTrees, no_derivations, derivation_and}
use Rattle.qs_triples.specs.ExpressionTerms.{expression_term}

-- ---- ways behind a statement

-- what is needed there is the assertion itself, or less; the certificate that shows it may count on so many conditions
pub data Way : Type 0 where
  itself : Way
  shown : ((conditions : ℕ) → CertTree) → Way

abbrev pub certificate_of : Way → (conditions : ℕ) → CertTree
certificate_of itself n = same
certificate_of (shown c) n = c n

pub record Ways : Type 0 where
  pub next : Way
  pub on_break : Way
  pub on_continue : Way
  pub on_return : Way

-- what comes next needs the assertion itself
abbrev pub to_itself : Ways → Ways
to_itself w = record w { next = itself }

-- the same of what stands before other statements
abbrev pub before : CoreStmts → Ways → Ways
before no_stmts w = w
before (stmt_and s ss) w = to_itself w

-- behind the body of a loop comes its step, behind the step the body; a break leaves the loop
abbrev pub body_ways : Ways → Ways
body_ways w = record { next = itself; on_break = w.next; on_continue = itself; on_return = w.on_return }

abbrev pub step_ways : Ways → Ways
step_ways w = record { next = itself; on_break = w.next; on_continue = w.on_continue; on_return = w.on_return }

-- a break leaves the switch
abbrev pub switch_ways : Ways → Ways
switch_ways w = record w { on_break = w.next }

-- ---- the cases of a switch

-- the operand, of this type and with this term, has the value of the case
abbrev pub is_case : Scalar → TermTree → (value : ℕ) → CondTree
is_case s t n = eq t (number (literal_value s n))

-- the condition of a case passes no limit of polynomials
abbrev pub label_passes : Scalar → TermTree → CoreLabel → Bool
label_passes s t (Case n part) = is_given (push (is_case s t n) at_first)
label_passes s t (Default part) = true

abbrev pub is_among : CondTree → List CondTree → Bool
is_among c seen = list_any (λ d. same_cond d c) seen

-- Where no case is met, what comes next is needed: a distinction for each value, but for those that were met before.
abbrev pub by_cases : Scalar → TermTree → List CoreLabel → (seen : List CondTree) → Way → CertTree
by_cases s t [] seen next = certificate_of next (length seen)
by_cases s t (Case n part ∷ labels) seen next =
    if is_among (is_case s t n) seen then by_cases s t labels seen next
    else split (is_case s t n) same (by_cases s t labels (is_case s t n ∷ seen) next)
by_cases s t (Default part ∷ labels) seen next = by_cases s t labels seen next

-- without a term: for each case, and for what comes next
abbrev pub each_case : List CoreLabel → Way → CertTrees
each_case [] next = cert_and (certificate_of next 0) no_certs
each_case (Case n part ∷ labels) next = cert_and same (each_case labels next)
each_case (Default part ∷ labels) next = each_case labels next

abbrev pub has_case : List CoreLabel → Bool
has_case [] = false
has_case (Case n part ∷ labels) = true
has_case (Default part ∷ labels) = has_case labels

abbrev pub cases_certificate : Scalar → Option TermTree → List CoreLabel → Way → CertTree
cases_certificate s (Some t) labels next = by_cases s t labels [] next
cases_certificate s None labels next = if has_case labels then all (each_case labels next) else certificate_of next 0

-- ---- what is written

-- the node, and why the assertion is enough before it
abbrev pub by_way : AssertionTree → Way → DerivationTree → DerivationTree
by_way r itself d = d
by_way r (shown c) d = consequence r (c 0) d

abbrev pub by_switch : AssertionTree → Way → CoreExprTree → List CoreLabel → DerivationTree → DerivationTree
by_switch r itself e labels d = d
by_switch r (shown c) e labels d =
    if is_some (default_part labels) then d
    else consequence r (cases_certificate (type_of e) (expression_term e) labels (shown c)) d

-- that there is enough for what comes next, and for the call
abbrev pub call_certificate : (next pay : CertTree) → CertTree
call_certificate c d = all (cert_and c (cert_and d no_certs))

-- where nothing stands in a sequence, what comes next is needed
abbrev pub by_parts : AssertionTree → CoreStmts → Ways → DerivationTree → DerivationTree
by_parts r no_stmts w d = by_way r w.next d
by_parts r (stmt_and s ss) w d = d

module _ (r : AssertionTree) (pay : ℕ → List CoreExprTree → CertTree) where
  abbrev pub written_call : Callee → List CoreExprTree → Way → DerivationTree
  written_call (Function g) es next = consequence r (call_certificate (certificate_of next 0) (pay g.0 es)) balanced_call
  written_call PutChar es next = by_way r next leaf
  written_call GetChar es next = by_way r next leaf

  abbrev mutual
    pub written : CoreStmtTree → Ways → DerivationTree
    written core.skip w = by_way r w.next leaf
    written (core.seq ss) w = by_parts r ss w (sequence (all_written ss w))
    written (core.assign x e) w = by_way r w.next leaf
    written (core.store s to e) w = by_way r w.next leaf
    written (core.copy size alignment to from) w = by_way r w.next leaf
    written (core.fill contents to) w = by_way r w.next leaf
    written (core.call x g es) w = written_call g es w.next
    written (core.branch e s t) w = conditional (written s w) (written t w)
    written (core.loop body step) w = loop r same (written body (body_ways w)) (written step (step_ways w))
    written (core.switch e labels ss) w = by_switch r w.next e labels (switch (all_written ss (switch_ways w)))
    written core.break w = by_way r w.on_break leaf
    written core.continue w = by_way r w.on_continue leaf
    written (core.return e) w = by_way r w.on_return leaf

    pub all_written : CoreStmts → Ways → DerivationTrees
    all_written no_stmts w = no_derivations
    all_written (stmt_and s ss) w = derivation_and (written s (before ss w)) (all_written ss w)
