-- Properties of runs that all events but those of calls keep: what follows keeps them through statements.
use Rattle.std.proofs.Common.{ℕ, zero, suc, ◌+◌, Bool, true, false, if◌then◌else◌, List, [], ◌∷◌, Option, Some, None}
use Rattle.qs_memory.specs.Values.{Pointer, Value, integer, address, as_integer, as_pointer}
use Rattle.qs_memory.specs.Memory as memory
use Rattle.qs_memory.specs.Values.{into}
use Rattle.qs_memory.specs.Pointers.{truth}
use Rattle.qs_events.specs.Events.{Takes, TakesEnd, Puts}
use Rattle.qs_events.specs.Runs.{emit, undefined, short, given}
use Rattle.qs_calls.specs.World.{World, with_memory, RootRun, Return, Environment}
use Rattle.qs_calls.specs.Calls.{CallsOf, take_byte, get_char, put_char, invoke, Entered, pass}
use Rattle.qs_calls.specs.declared.callee.Callee.{Callee}
use Rattle.qs_calls.specs.declared.callee.Callee.TheVariants.{Function, PutChar, GetChar}
use Rattle.qs_calls.specs.declared.parameter.Parameter.{Parameter}
use Rattle.qs_calls.specs.declared.parameter.Parameter.TheVariants.{Plain, Placed}
use Rattle.qs_core.specs.declared.numbers.Target.TheVariants as targets
use Rattle.qs_core.specs.Trees.{CoreExprTree, CoreStmtTree, skip, seq, assign, copy, fill, call, branch, loop, switch, break, continue, return, CoreStmts, no_stmts, stmt_and}
use Rattle.qs_core.specs.Trees as core
use Rattle.qs_core.specs.Expressions.{Locals, value, values}
use Rattle.qs_core.specs.Statements.{Continuation, Continuations, Context, assigned, take_result, given_pointer, repeated, after_step, chosen_part, at_part, runs, runs_all, runs_from}

module _ (P : RootRun → Type 0) where
  -- runs without events have it, and events that are no calls keep it
  pub record IsKept : Type 0 where
    pub undefined : P undefined
    pub short : P short
    pub takes : (byte : ℕ) (o : RootRun) → P o → P (emit (Takes byte) o)
    pub takes_end : (o : RootRun) → P o → P (emit TakesEnd o)
    pub puts : (byte : ℕ) (o : RootRun) → P o → P (emit (Puts byte) o)

  abbrev pub ReturnHas : Return → Type 0
  ReturnHas k = (result : Option Value) (w : World) → P (k result w)

  -- a call has it, where what follows has it
  abbrev pub CallsKeep : CallsOf → Type 0
  CallsKeep calls = (f : ℕ) (arguments : List Value) (k : Return) → ReturnHas k → (w : World) → P (calls f arguments k w)

  abbrev pub Has : Continuation → Type 0
  Has k = (l : Locals) (w : World) → P (k l w)

  pub record AllHave (k : Continuations) : Type 0 where
    pub next : Has k.next
    pub on_break : Has k.on_break
    pub on_continue : Has k.on_continue
    pub on_return : ReturnHas k.on_return

  module _ (kept : IsKept) where
    pub given_keeps : {A : Type 0} (o : Option A) (f : A → RootRun) → ((a : A) → P (f a)) → P (given o f)
    given_keeps None f h = kept.undefined
    given_keeps (Some a) f h = h a

    either_keeps : (b : Bool) (o p : RootRun) → P o → P p → P (if b then o else p)
    either_keeps true o p h k = h
    either_keeps false o p h k = k

    -- ---- the given functions

    take_keeps : (input : List ℕ) (k : Return) (w : World) → ReturnHas k → P (take_byte input k w)
    take_keeps [] k w h = kept.takes_end _ (h _ _)
    take_keeps (b ∷ input) k w h = kept.takes b _ (h _ _)

    get_keeps : (vs : List Value) (k : Return) (w : World) → ReturnHas k → P (get_char vs k w)
    get_keeps [] k w h = take_keeps w.input k w h
    get_keeps (v ∷ others) k w h = kept.undefined

    put_keeps : (vs : List Value) (k : Return) (w : World) → ReturnHas k → P (put_char vs k w)
    put_keeps [] k w h = kept.undefined
    put_keeps (address p ∷ others) k w h = kept.undefined
    put_keeps (integer n ∷ v ∷ others) k w h = kept.undefined
    put_keeps (integer n ∷ []) k w h = kept.puts _ _ (h _ _)

    pub pass_keeps : (ps : List Parameter) (vs : List Value) (first : ℕ) (e : Environment) (w : World) (k : Entered) → ((e : Environment) (w : World) → P (k e w)) → P (pass ps vs first e w k)
    pass_keeps [] [] first e w k h = h e w
    pass_keeps [] (v ∷ vs) first e w k h = kept.undefined
    pass_keeps (p ∷ ps) [] first e w k h = kept.undefined
    pass_keeps (Plain x ∷ ps) (v ∷ vs) first e w k h = pass_keeps ps vs first _ w k h
    pass_keeps (Placed i s ∷ ps) (v ∷ vs) first e w k h = given_keeps (memory.store s w.memory (into (first + i) 0) v) _ (λ m. pass_keeps ps vs first e (with_memory w m) k h)

    -- ---- statements

    module _ (turns : ℕ) (calls : CallsOf) (keep : CallsKeep calls) where
      abbrev context : Context
      context = record { turns = turns; calls = calls }

      result_keeps : (x : Option ℕ) (k : Continuation) → Has k → (l : Locals) → ReturnHas (take_result x k l)
      result_keeps None k h l result w = h l w
      result_keeps (Some x) k h l result w = given_keeps result _ (λ v. h (assigned (targets.Temporary x) l v) w)

      invoke_keeps : (g : Callee) (vs : List Value) (k : Return) → ReturnHas k → (w : World) → P (invoke g calls vs k w)
      invoke_keeps (Function g) vs k h w = keep g.0 vs k h w
      invoke_keeps PutChar vs k h w = put_keeps vs k w h
      invoke_keeps GetChar vs k h w = get_keeps vs k w h

      pointer_keeps : (e : CoreExprTree) (l : Locals) (w : World) (f : Pointer → RootRun) → ((p : Pointer) → P (f p)) → P (given_pointer e l w f)
      pointer_keeps e l w f h = given_keeps (value e l w.memory) _ (λ v. given_keeps (as_pointer v) f h)

      turns_keep : (n : ℕ) (turn : Continuation → Continuation) → ((again : Continuation) → Has again → Has (turn again)) → Has (repeated n turn)
      turns_keep zero turn h l w = kept.short
      turns_keep (suc n) turn h l w = h (repeated n turn) (turns_keep n turn h) l w

      part_keeps : (part : Option ℕ) (f : ℕ → Continuation) → ((n : ℕ) → Has (f n)) → (k : Continuation) → Has k → Has (at_part part f k)
      part_keeps None f h k e = e
      part_keeps (Some part) f h k e = h part

      mutual
        stmt_keeps : (s : CoreStmtTree) (k : Continuations) → AllHave k → Has (runs s context k)
        stmt_keeps skip k h l w = h.next l w
        stmt_keeps (seq ss) k h l w = stmts_keep ss k h l w
        stmt_keeps (assign x e) k h l w = given_keeps (value e l w.memory) _ (λ v. h.next (assigned x l v) w)
        stmt_keeps (core.store s a b) k h l w =
            pointer_keeps a l w _ (λ p. given_keeps (value b l w.memory) _ (λ v. given_keeps (memory.store s w.memory p v) _ (λ m. h.next l (with_memory w m))))
        stmt_keeps (copy size alignment a b) k h l w =
            pointer_keeps a l w _ (λ p. pointer_keeps b l w _ (λ q. given_keeps (memory.copy size alignment w.memory p q) _ (λ m. h.next l (with_memory w m))))
        stmt_keeps (fill blank a) k h l w = pointer_keeps a l w _ (λ p. given_keeps (memory.fill blank w.memory p) _ (λ m. h.next l (with_memory w m)))
        stmt_keeps (call x g es) k h l w = given_keeps (values es l w.memory) _ (λ vs. invoke_keeps g vs _ (result_keeps x k.next h.next l) w)
        stmt_keeps (branch e s t) k h l w =
            given_keeps (value e l w.memory) _ (λ v. given_keeps (truth w.memory v) _ (λ yes. either_keeps yes _ _ (stmt_keeps s k h l w) (stmt_keeps t k h l w)))
        stmt_keeps (loop body step) k h l w = turns_keep turns _ (λ again fits.
            let st = stmt_keeps step (after_step k again) (record { next = fits; on_break = h.next; on_continue = fits; on_return = h.on_return }) in
            stmt_keeps body _ (record { next = st; on_break = h.next; on_continue = st; on_return = h.on_return })) l w
        stmt_keeps (switch e labels ss) k h l w =
            given_keeps (value e l w.memory) _ (λ v. given_keeps (as_integer v) _ (λ n.
            part_keeps (chosen_part labels n) _ (λ part. parts_keep ss part _ (record { next = h.next; on_break = h.next; on_continue = h.on_continue; on_return = h.on_return })) _ h.next l w))
        stmt_keeps break k h l w = h.on_break l w
        stmt_keeps continue k h l w = h.on_continue l w
        stmt_keeps (return None) k h l w = h.on_return None w
        stmt_keeps (return (Some e)) k h l w = given_keeps (value e l w.memory) _ (λ v. h.on_return (Some v) w)

        pub stmts_keep : (ss : CoreStmts) (k : Continuations) → AllHave k → Has (runs_all ss context k)
        stmts_keep no_stmts k h l w = h.next l w
        stmts_keep (stmt_and s ss) k h l w =
            stmt_keeps s _ (record { next = stmts_keep ss k h; on_break = h.on_break; on_continue = h.on_continue; on_return = h.on_return }) l w

        parts_keep : (ss : CoreStmts) (part : ℕ) (k : Continuations) → AllHave k → Has (runs_from ss part context k)
        parts_keep no_stmts part k h l w = h.next l w
        parts_keep (stmt_and s ss) zero k h l w =
            stmt_keeps s _ (record { next = stmts_keep ss k h; on_break = h.on_break; on_continue = h.on_continue; on_return = h.on_return }) l w
        parts_keep (stmt_and s ss) (suc part) k h l w = parts_keep ss part k h l w
