-- How deep the statements of core nest.
use Rattle.std.specs.Prelude.{◌≡◌, ℕ, ◌+◌, max, List, [], ◌∷◌, ◌++◌}
use Rattle.qs_core.specs.Trees.{CoreStmtTree, skip, seq, assign, store, copy, fill, call, branch, loop, switch, break, continue, return, CoreStmts, no_stmts, stmt_and, stmts_of, CoreFunctionTree, CoreUnitTree}

-- a sequence, a conditional, a loop and a switch are one deeper than the deepest of their parts
abbrev mutual
  pub nesting : CoreStmtTree → ℕ
  nesting skip = 0
  nesting (seq ss) = 1 + nesting_in_all ss
  nesting (assign x e) = 0
  nesting (store s to e) = 0
  nesting (copy size alignment to from) = 0
  nesting (fill contents to) = 0
  nesting (call x g es) = 0
  nesting (branch e s t) = 1 + max (nesting s) (nesting t)
  nesting (loop body step) = 1 + max (nesting body) (nesting step)
  nesting (switch e labels ss) = 1 + nesting_in_all ss
  nesting break = 0
  nesting continue = 0
  nesting (return e) = 0

  pub nesting_in_all : CoreStmts → ℕ
  nesting_in_all no_stmts = 0
  nesting_in_all (stmt_and s ss) = max (nesting s) (nesting_in_all ss)

abbrev pub functions_nesting : List CoreFunctionTree → ℕ
functions_nesting [] = 0
functions_nesting (f ∷ fs) = max (nesting_in_all f.body) (functions_nesting fs)

-- how deep the statements of a function of the unit nest at most
abbrev pub unit_nesting : CoreUnitTree → ℕ
unit_nesting u = functions_nesting u.functions

-- ---- what is promised

-- how deep the statements of a list nest
abbrev pub list_nesting : List CoreStmtTree → ℕ
list_nesting ss = nesting_in_all (stmts_of ss)

abbrev pub JoinedNest : Type 0
JoinedNest = (ss rest : List CoreStmtTree) → list_nesting (ss ++ rest) ≡ max (list_nesting ss) (list_nesting rest)
