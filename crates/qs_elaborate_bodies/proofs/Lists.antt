-- Lists of statements, one after another; temporaries, and environments that keep them.
use Rattle.std.proofs.Common.{◌≡◌, ℕ, ◌+◌, ◌<◌, ◌≤◌, ◌==◌, true, false, List, [], ◌∷◌, ◌++◌, Some, refl, ap, ◌∙◌, arith, if◌then◌else◌}
use Rattle.std.proofs.Math.Path.{fun_ext}
use Rattle.std.proofs.lemmas.Bool.Decides.{nat_tests}
use Rattle.std.proofs.lemmas.List.{length-append}
use Rattle.qs_memory.specs.Values.{Value}
use Rattle.qs_memory.specs.declared.scalar.Scalar.{Scalar}
use Rattle.qs_calls.specs.World.{World, Environment, with_value}
use Rattle.qs_core.specs.Trees.{CoreStmtTree, stmts_of}
use Rattle.qs_core.specs.Expressions.{Locals}
use Rattle.qs_core.specs.Statements.{Continuation, Continuations, Context, runs, runs_all}
use Rattle.qs_elaborate_bodies.specs.Parts.{Temporaries, next_number, with_temporary, one_statement}

-- ---- statements

abbrev pub run_list : List CoreStmtTree → Context → Continuations → Continuation
run_list [] c k l w = k.next l w
run_list (s ∷ ss) c k l w = runs s c (record k { next = run_list ss c k }) l w

pub continuation_ext : (f g : Continuation) → ((l : Locals) (w : World) → f l w ≡ g l w) → f ≡ g
continuation_ext f g h = fun_ext (λ l. fun_ext (λ w. h l w))

abbrev pub then_next : Continuations → Continuation → Continuations
then_next k next = record k { next = next }

pub run-append : (a b : List CoreStmtTree) (c : Context) (k : Continuations) (l : Locals) (w : World) → run_list (a ++ b) c k l w ≡ run_list a c (then_next k (run_list b c k)) l w
run-append [] b c k l w = refl
run-append (s ∷ a) b c k l w = ap (λ (next : Continuation). runs s c (then_next k next) l w) (continuation_ext _ _ (run-append a b c k))

pub runs_of : (ss : List CoreStmtTree) (c : Context) (k : Continuations) (l : Locals) (w : World) → runs_all (stmts_of ss) c k l w ≡ run_list ss c k l w
runs_of [] c k l w = refl
runs_of (s ∷ ss) c k l w = ap (λ (next : Continuation). runs s c (then_next k next) l w) (continuation_ext _ _ (runs_of ss c k))

pub run_one : (ss : List CoreStmtTree) (c : Context) (k : Continuations) (l : Locals) (w : World) → runs (one_statement ss) c k l w ≡ run_list ss c k l w
run_one [] c k l w = refl
run_one (s ∷ []) c k l w = refl
run_one (s ∷ r ∷ ss) c k l w = runs_of (s ∷ r ∷ ss) c k l w

-- ---- environments

pub with-same : (t : Environment) (x : ℕ) (v : Value) → with_value t x v x ≡ Some v
with-same t x v = let e : (x == x) ≡ true = grind (arith, nat_tests) in ap (λ b. if b then Some v else t x) e

pub with-other : (t : Environment) (x y : ℕ) (v : Value) → y < x → with_value t x v y ≡ t y
with-other t x y v h = let e : (y == x) ≡ false = grind (arith, nat_tests) in ap (λ b. if b then Some v else t y) e

-- the temporaries below n are as they were
abbrev pub Kept : ℕ → Environment → Environment → Type 0
Kept n t s = (y : ℕ) → y < n → s y ≡ t y

pub kept_same : (n : ℕ) (t : Environment) → Kept n t t
kept_same n t y l = refl

pub kept_with : (n : ℕ) (t s : Environment) (x : ℕ) (v : Value) → n ≤ x → Kept n t s → Kept n t (with_value s x v)
kept_with n t s x v le k y l = with-other s x y v (omega arith) ∙ k y l

pub kept_then : (n m : ℕ) (t s r : Environment) → n ≤ m → Kept n t s → Kept m s r → Kept n t r
kept_then n m t s r le k l y h = l y (omega arith) ∙ k y h

-- ---- temporaries

pub next_is : (ts : Temporaries) (s : Scalar) → next_number (with_temporary ts s) ≡ next_number ts + 1
next_is ts s = length-append ts (s ∷ [])
