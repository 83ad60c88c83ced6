-- What a statement does, by what follows it: next, after a break, after a continue, and after a
-- return. Each run of a loop makes at most a number of turns; what calls do is given.
use Rattle.std.specs.Prelude.{ℕ, zero, suc, ◌==◌, if◌then◌else◌, List, [], ◌∷◌, Option, Some, None}
use Rattle.std.specs.Option.{option_or}
use Rattle.qs_memory.specs.Values.{Pointer, Value, as_integer, as_pointer}
use Rattle.qs_memory.specs.Memory as memory
use Rattle.qs_memory.specs.Pointers.{truth}
use Rattle.qs_events.specs.Runs.{short, given}
use Rattle.qs_calls.specs.World.{World, with_memory, RootRun, Return, with_value}
use Rattle.qs_calls.specs.Calls.{CallsOf, invoke, used}
use Rattle.qs_core.specs.declared.labels.CoreLabel.{CoreLabel}
use Rattle.qs_core.specs.declared.labels.CoreLabel.TheVariants.{Case, Default}
use Rattle.qs_core.specs.declared.numbers.Target.{Target}
use Rattle.qs_core.specs.declared.numbers.Target.TheVariants as targets
use Rattle.qs_core.specs.Trees.{CoreExprTree, CoreStmtTree, skip, seq, assign, store, copy, fill, call, branch, loop, switch, break, continue, return, CoreStmts, no_stmts, stmt_and}
use Rattle.qs_core.specs.Expressions.{Locals, value, values}

abbrev pub Continuation : Type 0
Continuation = Locals → World → RootRun

pub record Continuations : Type 0 where
  pub next : Continuation
  pub on_break : Continuation
  pub on_continue : Continuation
  pub on_return : Return

-- the same all through a body: how many turns each run of a loop may make, and what calls do
pub record Context : Type 0 where
  pub turns : ℕ
  pub calls : CallsOf

abbrev pub assigned : Target → Locals → Value → Locals
assigned (targets.Variable x) l v = record l { variables = with_value l.variables x v }
assigned (targets.Temporary k) l v = record l { temporaries = with_value l.temporaries k v }

-- 6.5.2.2: where a call's result goes
abbrev pub take_result : Option ℕ → Continuation → Locals → Return
take_result None next l result w = next l w
take_result (Some k) next l result w =
    used result (λ v. next (assigned (targets.Temporary k) l v) w)

-- goes on with the pointer that an expression's value is
abbrev pub given_pointer : CoreExprTree → Locals → World → (Pointer → RootRun) → RootRun
given_pointer e l w next = given (value e l w.memory) (λ v. given (as_pointer v) next)

-- a loop that makes at most so many turns
abbrev pub repeated : ℕ → (Continuation → Continuation) → Continuation
repeated zero turn l w = short
repeated (suc n) turn l w = turn (repeated n turn) l w

-- what follows the step of a loop, and its body
abbrev pub after_step : Continuations → Continuation → Continuations
after_step k again =
    record { next = again; on_break = k.next; on_continue = again; on_return = k.on_return }

abbrev pub after_body : Continuations → Continuation → Continuations
after_body k step =
    record { next = step; on_break = k.next; on_continue = step; on_return = k.on_return }

-- the part before which the first case of the value stands, and the first `default`
abbrev pub case_part : List CoreLabel → (value : ℕ) → Option ℕ
case_part [] n = None
case_part (Case m part ∷ labels) n = if m == n then Some part else case_part labels n
case_part (Default part ∷ labels) n = case_part labels n

abbrev pub default_part : List CoreLabel → Option ℕ
default_part [] = None
default_part (Case n part ∷ labels) = default_part labels
default_part (Default part ∷ labels) = Some part

-- 6.8.4.2p5: the part at which a switch goes on, if it meets a label
abbrev pub chosen_part : List CoreLabel → (value : ℕ) → Option ℕ
chosen_part labels n = option_or (case_part labels n) (default_part labels)

abbrev pub at_part : Option ℕ → (parts : ℕ → Continuation) → (behind : Continuation) → Continuation
at_part None parts behind = behind
at_part (Some part) parts behind = parts part

-- 6.8.6.3: a break among the parts of a switch ends the switch; a continue leaves it
abbrev pub in_switch : Continuations → Continuations
in_switch k = record k { on_break = k.next }

abbrev mutual
  pub runs : CoreStmtTree → Context → Continuations → Continuation
  runs skip c k l w = k.next l w
  runs (seq ss) c k l w = runs_all ss c k l w
  runs (assign x e) c k l w = given (value e l w.memory) (λ v. k.next (assigned x l v) w)
  runs (store s a b) c k l w =
      given_pointer a l w (λ p. given (value b l w.memory)
      (λ v. given (memory.store s w.memory p v) (λ m. k.next l (with_memory w m))))
  runs (copy size alignment a b) c k l w =
      given_pointer a l w (λ p. given_pointer b l w
      (λ q. given (memory.copy size alignment w.memory p q) (λ m. k.next l (with_memory w m))))
  runs (fill blank a) c k l w =
      given_pointer a l w (λ p. given (memory.fill blank w.memory p)
      (λ m. k.next l (with_memory w m)))
  runs (call x f arguments) c k l w =
      given (values arguments l w.memory) (λ vs. invoke f c.calls vs (take_result x k.next l) w)
  runs (branch e a b) c k l w =
      given (value e l w.memory) (λ v. given (truth w.memory v)
      (λ yes. if yes then runs a c k l w else runs b c k l w))
  runs (loop body step) c k l w =
      repeated c.turns (λ again. runs body c (after_body k (runs step c (after_step k again)))) l w
  runs (switch e labels ss) c k l w =
      given (value e l w.memory) (λ v. given (as_integer v)
      (λ n. at_part (chosen_part labels n) (λ part. runs_from ss part c (in_switch k)) k.next l w))
  runs break c k l w = k.on_break l w
  runs continue c k l w = k.on_continue l w
  runs (return None) c k l w = k.on_return None w
  runs (return (Some e)) c k l w = given (value e l w.memory) (λ v. k.on_return (Some v) w)

  pub runs_all : CoreStmts → Context → Continuations → Continuation
  runs_all no_stmts c k l w = k.next l w
  runs_all (stmt_and s ss) c k l w = runs s c (record k { next = runs_all ss c k }) l w

  -- the statements from the one with this number on; behind the last one there is nothing left
  pub runs_from : CoreStmts → (part : ℕ) → Context → Continuations → Continuation
  runs_from no_stmts part c k l w = k.next l w
  runs_from (stmt_and s ss) zero c k l w = runs s c (record k { next = runs_all ss c k }) l w
  runs_from (stmt_and s ss) (suc part) c k l w = runs_from ss part c k l w
