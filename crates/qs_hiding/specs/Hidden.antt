-- A run leaves alone what it doesn't touch: from a memory in which all else is dead it is the run from the whole memory.
use Rattle.std.specs.Prelude.{◌≡◌, ℕ, ◌+◌, ◌≤◌, ◌&&◌, Bool, true, false, List, [], ◌∷◌, length, Option, Some, None}
use Rattle.std.specs.List.{slice_get, list_all}
use Rattle.qs_memory.specs.Values.{Pointer, null, into, Value, integer, address}
use Rattle.qs_memory.specs.Memory.{Cell, unset, byte, part, Block, Memory, block_at, released}
use Rattle.qs_memory.specs.Soundness.{IsLive}
use Rattle.qs_events.specs.Runs.{emit, ended, undefined, short}
use Rattle.qs_calls.specs.World.{World, with_memory, RootRun}
use Rattle.qs_calls.specs.declared.callee.Callee.{Callee}
use Rattle.qs_calls.specs.declared.callee.Callee.TheVariants.{Function, PutChar, GetChar}
use Rattle.qs_meaning.specs.Typed as typed
use Rattle.qs_meaning.specs.Typed.{Object, local, static, Expr, constant, value, pointer_to, member, called, stepped_after, unary, cast, binary, logical_and, logical_or, conditional, assigned, sequence, Lvalue, variable, object, Arguments, no_arguments, argument_and, Assignment, set, update, Effect, nothing, discard, assign, perform, copy, fill, in_order, Stmt, evaluate, block, branch, switch, case_label, default_label, while_loop, do_loop, for_loop, break, continue, return, return_nothing, Stmts, no_stmts, stmt_and, TypedProgram}
use Rattle.qs_meaning.specs.Runs.{run_of}

-- the blocks that a run may touch, and the functions that it may call
pub record Reach : Type 0 where
  pub keeps : (block : ℕ) → Bool
  pub may_call : (function : ℕ) → Bool

-- ---- hidden memory: blocks that aren't kept are dead

abbrev pub seen : Bool → Block → Block
seen true b = b
seen false b = released b

module _ (r : Reach) where
  -- the blocks from this number on
  abbrev pub hidden_from : (number : ℕ) → Memory → Memory
  hidden_from number [] = []
  hidden_from number (b ∷ m) = seen (r.keeps number) b ∷ hidden_from (number + 1) m

  abbrev pub hidden : Memory → Memory
  hidden m = hidden_from 0 m

  abbrev pub hidden_world : World → World
  hidden_world w = with_memory w (hidden w.memory)

  -- what it leaves with hidden memory
  abbrev pub hidden_run : RootRun → RootRun
  hidden_run (emit event run) = emit event (hidden_run run)
  hidden_run (ended left) = ended (record left { memory = hidden left.memory })
  hidden_run undefined = undefined
  hidden_run short = short

  -- ---- no pointer leads to what is hidden

  abbrev pub pointer_stays : Pointer → Bool
  pointer_stays null = true
  pointer_stays (into b offset) = r.keeps b

  abbrev pub value_stays : Value → Bool
  value_stays (integer n) = true
  value_stays (address p) = pointer_stays p

  abbrev pub cell_stays : Cell → Bool
  cell_stays unset = true
  cell_stays (byte b) = true
  cell_stays (part p k) = pointer_stays p

  abbrev pub option_stays : Option Value → Bool
  option_stays None = true
  option_stays (Some v) = value_stays v

  -- what live blocks hold that are kept
  pub record IsClosed (m : Memory) : Type 0 where
    pub cells :
        (b offset : ℕ) → r.keeps b ≡ true → IsLive m b → cell_stays ((block_at m b).cells offset) ≡ true

  -- ---- what functions name and call

  -- the blocks of a call are kept
  abbrev pub object_stays : Object → Bool
  object_stays (local k) = true
  object_stays (static k) = r.keeps k

  abbrev pub callee_stays : Callee → Bool
  callee_stays (Function f) = r.may_call f.0
  callee_stays PutChar = true
  callee_stays GetChar = true

  abbrev mutual
    pub expression_stays : Expr → Bool
    expression_stays (constant s n) = true
    expression_stays (value s l) = lvalue_stays l
    expression_stays (pointer_to o) = object_stays o
    expression_stays (member offset a) = expression_stays a
    expression_stays (called s f es) = callee_stays f && arguments_stay es
    expression_stays (stepped_after s l operation left back) = lvalue_stays l
    expression_stays (unary operation c a) = expression_stays a
    expression_stays (cast c a) = expression_stays a
    expression_stays (binary operation order left right a b) = expression_stays a && expression_stays b
    expression_stays (logical_and a b) = expression_stays a && expression_stays b
    expression_stays (logical_or a b) = expression_stays a && expression_stays b
    expression_stays (conditional s a second third b c) = expression_stays a && (expression_stays b && expression_stays c)
    expression_stays (assigned a) = assignment_stays a
    expression_stays (sequence a b) = effect_stays a && expression_stays b

    pub lvalue_stays : Lvalue → Bool
    lvalue_stays (variable x) = true
    lvalue_stays (object a) = expression_stays a

    pub arguments_stay : Arguments → Bool
    arguments_stay no_arguments = true
    arguments_stay (argument_and c a es) = expression_stays a && arguments_stay es

    pub assignment_stays : Assignment → Bool
    assignment_stays (set s l c a) = lvalue_stays l && expression_stays a
    assignment_stays (update s l operation left right back a) = lvalue_stays l && expression_stays a

    pub effect_stays : Effect → Bool
    effect_stays nothing = true
    effect_stays (discard a) = expression_stays a
    effect_stays (assign a) = assignment_stays a
    effect_stays (perform f es) = callee_stays f && arguments_stay es
    effect_stays (copy size alignment a b) = expression_stays a && expression_stays b
    effect_stays (fill blank a) = expression_stays a
    effect_stays (in_order a b) = effect_stays a && effect_stays b

  abbrev pub condition_stays : Option Expr → Bool
  condition_stays None = true
  condition_stays (Some e) = expression_stays e

  abbrev mutual
    pub statement_stays : Stmt → Bool
    statement_stays (evaluate a) = effect_stays a
    statement_stays (block ss) = statements_stay ss
    statement_stays (branch e a b) = expression_stays e && (statement_stays a && statement_stays b)
    statement_stays (switch c e ss) = expression_stays e && statements_stay ss
    statement_stays (case_label n) = true
    statement_stays default_label = true
    statement_stays (while_loop e a) = expression_stays e && statement_stays a
    statement_stays (do_loop a e) = statement_stays a && expression_stays e
    statement_stays (for_loop start e step a) = effect_stays start && (condition_stays e && (effect_stays step && statement_stays a))
    statement_stays break = true
    statement_stays continue = true
    statement_stays (return c e) = expression_stays e
    statement_stays return_nothing = true

    pub statements_stay : Stmts → Bool
    statements_stay no_stmts = true
    statements_stay (stmt_and s ss) = statement_stays s && statements_stay ss

  -- functions that may be called stay in the reach, and so do all blocks but the first ones, which are the unit's
  pub record IsReach (functions : List typed.Function) (count : ℕ) : Type 0 where
    pub blocks : (b : ℕ) → count ≤ b → r.keeps b ≡ true
    pub bodies :
        (f : ℕ) (g : typed.Function) → r.may_call f ≡ true → slice_get functions f ≡ Some g → statements_stay g.body ≡ true

  -- ---- what is promised

  -- a memory behind this one: pointers stay in the reach still, and what isn't kept is as it was
  pub record IsBehind (start m : Memory) : Type 0 where
    pub closed : IsClosed m
    pub longer : length start ≤ length m
    pub others : (b : ℕ) → r.keeps b ≡ false → block_at m b ≡ block_at start b

  abbrev pub LeavesAlone : (start : Memory) → RootRun → Type 0
  LeavesAlone start (emit event run) = LeavesAlone start run
  LeavesAlone start (ended left) = IsBehind start left.memory × (option_stays left.result ≡ true)
  LeavesAlone start undefined = Unit {0}
  LeavesAlone start short = Unit {0}

  -- a run, and the one in which the rest is hidden
  pub record IsHidden (start : Memory) (whole part : RootRun) : Type 0 where
    pub same : part ≡ hidden_run whole
    pub alone : LeavesAlone start whole

-- a run from where it may start is the same where the rest is hidden, and leaves the rest as it was
abbrev pub HidingKeepsRuns : Type 0
HidingKeepsRuns =
    (r : Reach) (u : TypedProgram) (root : ℕ) (xs : List Value) (w : World) (n : ℕ) → IsReach r u.functions (length u.blocks)
    → r.may_call root ≡ true → list_all (value_stays r) xs ≡ true → IsClosed r w.memory → length u.blocks ≤ length w.memory
    → IsHidden r w.memory (run_of u root xs w n) (run_of u root xs (hidden_world r w) n)
