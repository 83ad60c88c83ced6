-- What is looked at in a body: its calls with their arguments, what it assigns, and its switches.
use Rattle.std.specs.Prelude.{ℕ, suc, ◌==◌, ◌&&◌, ◌||◌, nat_le, Bool, true, false, List, [], ◌∷◌, ◌++◌, is_some, Option, Some, None}
use Rattle.std.specs.List.{list_all}
use Rattle.qs_memory.specs.declared.scalar.Scalar.{Scalar}
use Rattle.qs_calls.specs.declared.callee.Callee.{Callee}
use Rattle.qs_calls.specs.declared.callee.Callee.TheVariants.{Function, PutChar, GetChar}
use Rattle.qs_assert.specs.Trees.{TermTree}
use Rattle.qs_core.specs.declared.labels.CoreLabel.{CoreLabel}
use Rattle.qs_core.specs.declared.labels.CoreLabel.TheVariants.{Case, Default}
use Rattle.qs_core.specs.declared.numbers.Target.{Target}
use Rattle.qs_core.specs.declared.numbers.Target.TheVariants as targets
use Rattle.qs_core.specs.CallGraph.{callees, all_callees, is_member}
use Rattle.qs_core.specs.Expressions.{type_of}
use Rattle.qs_core.specs.Statements.{default_part}
use Rattle.qs_core.specs.Trees as core
use Rattle.qs_core.specs.Trees.{CoreExprTree, CoreStmtTree, CoreStmts, no_stmts, stmt_and}
use Rattle.qs_recur.specs.Around.{label_passes}
use Rattle.qs_triples.specs.ExpressionTerms.{expression_term}

-- ---- calls

-- a call of a function with a body
pub record CallTree : Type 0 where
  pub function : ℕ
  pub arguments : List CoreExprTree

abbrev pub call_of : Callee → List CoreExprTree → List CallTree
call_of (Function g) es = record { function = g.0; arguments = es } ∷ []
call_of PutChar es = []
call_of GetChar es = []

abbrev mutual
  -- in the order of the text
  pub calls_made : CoreStmtTree → List CallTree
  calls_made core.skip = []
  calls_made (core.seq ss) = all_calls_made ss
  calls_made (core.assign x e) = []
  calls_made (core.store s to e) = []
  calls_made (core.copy size alignment to from) = []
  calls_made (core.fill contents to) = []
  calls_made (core.call x g es) = call_of g es
  calls_made (core.branch e s t) = calls_made s ++ calls_made t
  calls_made (core.loop body step) = calls_made body ++ calls_made step
  calls_made (core.switch e labels ss) = all_calls_made ss
  calls_made core.break = []
  calls_made core.continue = []
  calls_made (core.return e) = []

  pub all_calls_made : CoreStmts → List CallTree
  all_calls_made no_stmts = []
  all_calls_made (stmt_and s ss) = calls_made s ++ all_calls_made ss

abbrev pub has_call : (f : ℕ) → CoreStmtTree → Bool
has_call f s = is_member f (callees s)

abbrev pub have_call : (f : ℕ) → CoreStmts → Bool
have_call f ss = is_member f (all_callees ss)

-- ---- assignments

abbrev pub is_variable : ℕ → Target → Bool
is_variable x (targets.Variable y) = y == x
is_variable x (targets.Temporary k) = false

abbrev mutual
  -- whether the variable is assigned (C11 6.5.16); a call's result goes to a temporary
  pub assigns : (variable : ℕ) → CoreStmtTree → Bool
  assigns x core.skip = false
  assigns x (core.seq ss) = one_assigns x ss
  assigns x (core.assign y e) = is_variable x y
  assigns x (core.store s to e) = false
  assigns x (core.copy size alignment to from) = false
  assigns x (core.fill contents to) = false
  assigns x (core.call k g es) = false
  assigns x (core.branch e s t) = assigns x s || assigns x t
  assigns x (core.loop body step) = assigns x body || assigns x step
  assigns x (core.switch e labels ss) = one_assigns x ss
  assigns x core.break = false
  assigns x core.continue = false
  assigns x (core.return e) = false

  pub one_assigns : (variable : ℕ) → CoreStmts → Bool
  one_assigns x no_stmts = false
  one_assigns x (stmt_and s ss) = assigns x s || one_assigns x ss

-- ---- switches

-- A switch without `default` may meet no label. Behind it a certificate has a case distinction for each case, one in
-- another, so there may be so many.
abbrev pub most_cases : ℕ
most_cases = 250

abbrev pub count_cases : List CoreLabel → ℕ
count_cases [] = 0
count_cases (Case n part ∷ labels) = suc (count_cases labels)
count_cases (Default part ∷ labels) = count_cases labels

abbrev pub has_default : List CoreLabel → Bool
has_default labels = is_some (default_part labels)

abbrev pub labels_fit : List CoreLabel → Bool
labels_fit labels = has_default labels || nat_le (count_cases labels) most_cases

abbrev mutual
  pub switches_fit : CoreStmtTree → Bool
  switches_fit core.skip = true
  switches_fit (core.seq ss) = all_switches_fit ss
  switches_fit (core.assign x e) = true
  switches_fit (core.store s to e) = true
  switches_fit (core.copy size alignment to from) = true
  switches_fit (core.fill contents to) = true
  switches_fit (core.call x g es) = true
  switches_fit (core.branch e s t) = switches_fit s && switches_fit t
  switches_fit (core.loop body step) = switches_fit body && switches_fit step
  switches_fit (core.switch e labels ss) = labels_fit labels && all_switches_fit ss
  switches_fit core.break = true
  switches_fit core.continue = true
  switches_fit (core.return e) = true

  pub all_switches_fit : CoreStmts → Bool
  all_switches_fit no_stmts = true
  all_switches_fit (stmt_and s ss) = switches_fit s && all_switches_fit ss

-- Where something else is needed behind it than before it, such a switch at the end is to pass no limit of polynomials.
abbrev pub labels_pass : Scalar → Option TermTree → List CoreLabel → Bool
labels_pass s None labels = true
labels_pass s (Some t) labels = list_all (label_passes s t) labels

abbrev pub cases_pass : CoreExprTree → List CoreLabel → Bool
cases_pass e labels = has_default labels || labels_pass (type_of e) (expression_term e) labels

abbrev mutual
  pub end_passes : CoreStmtTree → Bool
  end_passes core.skip = true
  end_passes (core.seq ss) = last_end_passes ss
  end_passes (core.assign x e) = true
  end_passes (core.store s to e) = true
  end_passes (core.copy size alignment to from) = true
  end_passes (core.fill contents to) = true
  end_passes (core.call x g es) = true
  end_passes (core.branch e s t) = end_passes s && end_passes t
  end_passes (core.loop body step) = true
  end_passes (core.switch e labels ss) = cases_pass e labels && last_end_passes ss
  end_passes core.break = true
  end_passes core.continue = true
  end_passes (core.return e) = true

  pub last_end_passes : CoreStmts → Bool
  last_end_passes no_stmts = true
  last_end_passes (stmt_and s no_stmts) = end_passes s
  last_end_passes (stmt_and s (stmt_and t ss)) = last_end_passes (stmt_and t ss)
