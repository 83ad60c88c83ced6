-- Which functions call which.
use Rattle.std.specs.Prelude.{◌≡◌, ℕ, zero, suc, ◌<◌, ◌==◌, Bool, true, false, List, [], ◌∷◌, ◌++◌, length, filter, Option, Some, None}
use Rattle.std.specs.List.{slice_get, list_any}
use Rattle.qs_calls.specs.declared.callee.Callee.{Callee}
use Rattle.qs_calls.specs.declared.callee.Callee.TheVariants.{Function, PutChar, GetChar}
use Rattle.qs_core.specs.Trees.{CoreStmtTree, skip, seq, assign, store, copy, fill, call, branch, loop, switch, break, continue, return, CoreStmts, no_stmts, stmt_and, CoreFunctionTree, CoreUnitTree}

-- the functions with a body that a statement calls, in the order of the text
abbrev pub callee : Callee → List ℕ
callee (Function f) = f.0 ∷ []
callee PutChar = []
callee GetChar = []

abbrev mutual
  pub callees : CoreStmtTree → List ℕ
  callees skip = []
  callees (seq ss) = all_callees ss
  callees (assign x e) = []
  callees (store s a b) = []
  callees (copy size alignment a b) = []
  callees (fill blank a) = []
  callees (call x f arguments) = callee f
  callees (branch e a b) = callees a ++ callees b
  callees (loop body step) = callees body ++ callees step
  callees (switch e labels ss) = all_callees ss
  callees break = []
  callees continue = []
  callees (return e) = []

  pub all_callees : CoreStmts → List ℕ
  all_callees no_stmts = []
  all_callees (stmt_and s ss) = callees s ++ all_callees ss

abbrev pub callees_of : Option CoreFunctionTree → List ℕ
callees_of None = []
callees_of (Some f) = all_callees f.body

abbrev pub is_member : ℕ → List ℕ → Bool
is_member f fs = list_any (λ g. g == f) fs

-- whether f calls g
abbrev pub calls : CoreUnitTree → (f g : ℕ) → Bool
calls u f g = is_member g (callees_of (slice_get u.functions f))

abbrev pub HasCall : CoreUnitTree → (f g : ℕ) → Type 0
HasCall u f g = calls u f g ≡ true

-- the numbers below this one, in order
abbrev pub below : ℕ → List ℕ
below zero = []
below (suc n) = below n ++ n ∷ []

-- the functions with a body that f calls, each once, in order of definition
abbrev pub called_by : CoreUnitTree → (f : ℕ) → List ℕ
called_by u f = filter (calls u f) (below (length u.functions))

-- calls lead from one function to the other, or the two are the same
pub data Leads (u : CoreUnitTree) : (f g : ℕ) → Type 0 where
  no_call : (f : ℕ) → Leads u f f
  first_call : (f g h : ℕ) → HasCall u f g → Leads u g h → Leads u f h

-- Where some functions have a specification, the others are open or not: a function is open where
-- neither it nor any function to which calls lead from it has one.
pub record IsOpen (u : CoreUnitTree) (has_spec : ℕ → Bool) (f : ℕ) : Type 0 where
  pub known : f < length u.functions
  pub none : (g : ℕ) → Leads u f g → has_spec g ≡ false

-- each function of a list calls the next, and the last one this one
abbrev pub IsChain : CoreUnitTree → List ℕ → (last : ℕ) → Type 0
IsChain u [] last = Unit {0}
IsChain u (f ∷ []) last = HasCall u f last
IsChain u (f ∷ g ∷ fs) last = HasCall u f g × IsChain u (g ∷ fs) last

-- each function of a list that isn't empty calls the next, and the last the first
abbrev pub IsCircle : CoreUnitTree → List ℕ → Type 0
IsCircle u [] = ⊥
IsCircle u (f ∷ fs) = IsChain u (f ∷ fs) f

-- a cycle of functions without a specification
pub record IsCycle (u : CoreUnitTree) (has_spec : ℕ → Bool) (fs : List ℕ) : Type 0 where
  pub circle : IsCircle u fs
  pub none : list_any has_spec fs ≡ false

-- there is no cycle at all
abbrev pub IsWithoutRecursion : CoreUnitTree → Type 0
IsWithoutRecursion u = (fs : List ℕ) → IsCircle u fs → ⊥
