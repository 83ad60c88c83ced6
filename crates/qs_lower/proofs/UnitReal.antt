-- The linear code of the body of a function makes the run that it means.
use Rattle.std.proofs.Common.{◌≡◌, ℕ, zero, suc, ◌+◌, ◌-◌, ◌≤◌, Bool, true, false, List, [], ◌∷◌, ◌++◌, length, Option, Some, None, refl, sym, ap, ◌∙◌, subst, arith}
use Rattle.std.specs.List.{slice_get}
use Rattle.qs_memory.specs.Values.{Value}
use Rattle.qs_calls.specs.World.{World, Return, no_values}
use Rattle.qs_core.specs.Trees as core
use Rattle.qs_core.specs.Trees.{CoreExprTree, CoreStmtTree, CoreStmts, no_stmts, stmt_and, CoreFunctionTree}
use Rattle.qs_core.specs.declared.numbers.Target.{Target}
use Rattle.qs_core.specs.Expressions.{Locals, value}
use Rattle.qs_core.specs.Statements.{Continuation, Continuations, Context, runs, runs_all, runs_from}
use Rattle.qs_core.specs.Outline.{count_of}
use Rattle.qs_core.specs.Units.{nowhere, after_function}
use Rattle.qs_core.proofs.RelationLaws as laws
use Rattle.qs_tac.specs.Trees.{InstructionTree, return}
use Rattle.qs_tac.specs.Holders.{temporaries}
use Rattle.qs_tac.specs.Steps.{ends, step, steps}
use Rattle.qs_lower_expressions.specs.Exits.{falls, goes}
use Rattle.qs_lower_expressions.specs.Expressions.{lowered}
use Rattle.qs_lower.specs.Statements.{Exits, StmtCode, next_falls, to_next, to_break, to_continue, joined_before, but_last, last_of, stmt_code, stmts_code, parts_code}
use Rattle.qs_lower.specs.Statements as lower
use Rattle.qs_lower.specs.Units.{free_from, body_code, end_code, function_code}
use Rattle.qs_lower.proofs.StmtSizeLaws.{StmtSized, row, stmt_sized, stmts_sized}
use Rattle.qs_lower_expressions.proofs.RealisationLaws.{Model, moves, real_comes, comes_alike, comes_less, Stack, HasAt, real_fault, CallsReal, moment, IsCode, free}
use Rattle.qs_lower_expressions.proofs.ValueReal as value_real
use Rattle.qs_lower_expressions.proofs.ExprReal as expr
use Rattle.qs_lower.proofs.PlainReal as plain
use Rattle.qs_lower.proofs.FlowReal as flow
use Rattle.qs_lower.proofs.StmtReal as stmt
use Rattle.qs_lower.proofs.SwitchReal as switches
use Rattle.qs_lower.proofs.SwitchReal.{LabelsThere}
use Rattle.qs_lower.proofs.CallReal as calls

module _ (u : Model) (f : CoreFunctionTree) (code : List InstructionTree) (function : ℕ) (stack : Stack) (is_code : IsCode u f code function stack) (c : Context) (first depth : ℕ) (calls_real : CallsReal u depth c.calls) where
  -- ---- statements

  abbrev IsThere : CoreExprTree → Type 0
  IsThere s = expr.IsThere u f code function stack is_code s

  abbrev IsTarget : Target → Type 0
  IsTarget x = plain.IsTarget u f code function stack is_code c first depth calls_real x

  -- its variables and temporaries are there
  abbrev mutual
    pub StmtThere : CoreStmtTree → Type 0
    StmtThere core.skip = Unit {0}
    StmtThere (core.seq ss) = StmtsThere ss
    StmtThere (core.assign x e) = IsTarget x × IsThere e
    StmtThere (core.store s a b) = IsThere a × IsThere b
    StmtThere (core.copy size alignment a b) = IsThere a × IsThere b
    StmtThere (core.fill blank a) = IsThere a
    StmtThere (core.call x g es) = calls.IsTaken u f code function stack is_code c first depth calls_real x × calls.AreThere u f code function stack is_code c first depth calls_real es
    StmtThere (core.branch e a b) = IsThere e × StmtThere a × StmtThere b
    StmtThere (core.loop body step) = StmtThere body × StmtThere step
    StmtThere (core.switch e labels ss) = IsThere e × LabelsThere (count_of ss) labels × StmtsThere ss
    StmtThere core.break = Unit {0}
    StmtThere core.continue = Unit {0}
    StmtThere (core.return None) = Unit {0}
    StmtThere (core.return (Some e)) = IsThere e

    pub StmtsThere : CoreStmts → Type 0
    StmtsThere no_stmts = Unit {0}
    StmtsThere (stmt_and s ss) = StmtThere s × StmtsThere ss

  abbrev Meaning : Type 0
  Meaning = Continuations → Continuation

  abbrev Good : Meaning → StmtCode → Type 0
  Good m s = stmt.Good u f code function stack is_code c first depth calls_real m s

  abbrev SameBut : Bool → Bool → Continuations → Continuations → Type 0
  SameBut e b k j = stmt.SameBut u f code function stack is_code c first depth calls_real e b k j

  abbrev v : ℕ
  v = length f.variables

  abbrev t : ℕ
  t = free u f code function stack

  turns_equal : (n : ℕ) → laws.TurnsRelated stmt.Equal n n
  turns_equal zero g h same l w = refl
  turns_equal (suc n) g h same l w = same _ _ (turns_equal n g h same) l w

  module _ (calls_alike : (g : ℕ) (arguments : List Value) (k j : Return) → ((result : Option Value) (w : World) → k result w ≡ j result w) → (w : World) → c.calls g arguments k w ≡ c.calls g arguments j w) where
    -- a statement goes on alike where what follows does
    related : (s : CoreStmtTree) (k j : Continuations) → laws.AllRelated stmt.Equal k j → (l : Locals) (w : World) → runs s c k l w ≡ runs s c j l w
    related s k j h l w = laws.stmt_related stmt.Equal stmt.equal_keeps c.turns c.turns (turns_equal c.turns) c.calls c.calls calls_alike s k j h l w

    -- one that makes no break
    plain_ignores :
        (s : CoreStmtTree) → ((k : Continuations) (b : Continuation) (l : Locals) (w : World) → runs s c k l w ≡ runs s c (record k { on_break = b }) l w)
        → (k j : Continuations) → SameBut false false k j → (l : Locals) (w : World) → runs s c k l w ≡ runs s c j l w
    plain_ignores s unused k j same l w =
        unused k j.on_break l w
        ∙ related s (record k { on_break = j.on_break }) j
        (record { next = same.next refl; on_break = λ x y. refl; on_continue = same.on_continue; on_return = same.on_return }) l w

    return_good : (o : Option CoreExprTree) (s : StmtCode) → s.way ≡ None → s.ends ≡ true → s.breaks ≡ false → s.tested ≡ None → StmtSized s
        → plain.IsReal u f code function stack is_code c first depth calls_real (core.return o) s.part
        → ((k j : Continuations) → SameBut true false k j → (l : Locals) (w : World) → runs (core.return o) c k l w ≡ runs (core.return o) c j l w)
        → Good (runs (core.return o) c) s
    return_good o s none ends breaks untested sized real same = record {
      sized = sized;
      part = real;
      way = λ way is. no_way s.way none way is;
      way_ends = λ way is. no_way s.way none way is;
      ignores = λ k j h. same k j (subst (λ (e : Bool). SameBut e false k j) ends (subst (λ (b : Bool). SameBut s.ends b k j) breaks h));
      tested = subst (λ (d : Option lower.Tested). stmt.TestedIs u f code function stack is_code c first depth calls_real d (runs (core.return o) c)) (sym untested) tt;
    }
      where
        no_way : {X : Type 0} (o : Option lower.Way) → o ≡ None → (way : lower.Way) → o ≡ Some way → X
        no_way o e way h = absurd (cc)

    mutual
      stmt_good : (s : CoreStmtTree) → StmtThere s → Good (runs s c) (stmt_code v t s)
      stmt_good core.skip h = stmt.way_good u f code function stack is_code c first depth calls_real to_next
      stmt_good (core.seq ss) h = stmts_good ss h
      stmt_good (core.assign x e) h =
          stmt.straight_good u f code function stack is_code c first depth calls_real (runs (core.assign x e) c) _ _ _ (stmt_sized v t (core.assign x e))
          (plain.assign_real u f code function stack is_code c first depth calls_real x e (lowered v e) h.0 (expr.correct u f code function stack is_code e h.1))
          (plain_ignores (core.assign x e) (λ k b l w. refl))
      stmt_good (core.store s a b) h =
          stmt.straight_good u f code function stack is_code c first depth calls_real (runs (core.store s a b) c) _ _ _ (stmt_sized v t (core.store s a b))
          (plain.store_real u f code function stack is_code c first depth calls_real s a b (lowered v a) (lowered v b)
          (expr.correct u f code function stack is_code a h.0) (expr.correct u f code function stack is_code b h.1))
          (plain_ignores (core.store s a b) (λ k b l w. refl))
      stmt_good (core.copy size alignment a b) h =
          stmt.straight_good u f code function stack is_code c first depth calls_real (runs (core.copy size alignment a b) c) _ _ _ (stmt_sized v t (core.copy size alignment a b))
          (plain.copy_real u f code function stack is_code c first depth calls_real size alignment a b (lowered v a) (lowered v b)
          (expr.correct u f code function stack is_code a h.0) (expr.correct u f code function stack is_code b h.1))
          (plain_ignores (core.copy size alignment a b) (λ k b l w. refl))
      stmt_good (core.fill blank a) h =
          stmt.straight_good u f code function stack is_code c first depth calls_real (runs (core.fill blank a) c) _ _ _ (stmt_sized v t (core.fill blank a))
          (plain.fill_real u f code function stack is_code c first depth calls_real blank a (lowered v a) (expr.correct u f code function stack is_code a h))
          (plain_ignores (core.fill blank a) (λ k b l w. refl))
      stmt_good (core.call x g es) h =
          stmt.straight_good u f code function stack is_code c first depth calls_real (runs (core.call x g es) c) _ _ _ (stmt_sized v t (core.call x g es))
          (calls.call_real u f code function stack is_code c first depth calls_real x g es h.0 h.1)
          (plain_ignores (core.call x g es) (λ k b l w. refl))
      stmt_good (core.branch e a b) h =
          stmt.branch_good u f code function stack is_code c first depth calls_real e (lowered v e) (runs a c) (runs b c) (stmt_code v t a) (stmt_code v t b)
          (expr.correct u f code function stack is_code e h.0) (stmt_good a h.1) (stmt_good b h.2) (lowered v e).known refl
      stmt_good (core.loop body step) h =
          stmt.loop_good u f code function stack is_code c first depth calls_real (runs body c) (runs step c) (stmt_code v t body) (stmt_code v t step) (stmt_good body h.0) (stmt_good step h.1)
      stmt_good (core.switch e labels ss) h = record {
        sized = stmt_sized v t (core.switch e labels ss);
        part =
            switches.switch_real u f code function stack is_code c first depth calls_real e (lowered v e) labels (λ part. runs_from ss part c) (count_of ss)
            (but_last (parts_code v t ss)) (last_of (parts_code v t ss)) (expr.correct u f code function stack is_code e h.0) h.1 (parts_real ss h.2);
        way = λ way is. absurd (cc);
        way_ends = λ way is. absurd (cc);
        ignores = plain_ignores (core.switch e labels ss) (λ k b l w. refl);
        tested = tt;
      }
      stmt_good core.break h = stmt.way_good u f code function stack is_code c first depth calls_real to_break
      stmt_good core.continue h = stmt.way_good u f code function stack is_code c first depth calls_real to_continue
      stmt_good (core.return None) h =
          return_good None (stmt_code v t (core.return None)) refl refl refl refl (stmt_sized v t (core.return None))
          (plain.plain_return_real u f code function stack is_code c first depth calls_real) (λ k j same l w. same.on_return None w)
      stmt_good (core.return (Some e)) h =
          return_good (Some e) (stmt_code v t (core.return (Some e))) refl refl refl refl (stmt_sized v t (core.return (Some e)))
          (plain.return_real u f code function stack is_code c first depth calls_real e (lowered v e) (expr.correct u f code function stack is_code e h))
          (λ k j same l w. stmt.given_alike (value e l w.memory) _ _ (λ x. same.on_return (Some x) w))

      stmts_good : (ss : CoreStmts) → StmtsThere ss → Good (runs_all ss c) (stmts_code v t ss)
      stmts_good no_stmts h = stmt.way_good u f code function stack is_code c first depth calls_real to_next
      stmts_good (stmt_and s no_stmts) h = stmt_good s h.0
      stmts_good (stmt_and s (stmt_and r ss)) h =
          stmt.both_good u f code function stack is_code c first depth calls_real (runs s c) (runs_all (stmt_and r ss) c) (stmt_code v t s) (stmts_code v t (stmt_and r ss))
          (stmt_good s h.0) (stmts_good (stmt_and r ss) h.1)

      -- the parts of a switch, from the first one on, and from each
      row_real : (ss : CoreStmts) → StmtsThere ss → plain.PartReal u f code function stack is_code c first depth calls_real (runs_all ss c) (row v t ss).part
      row_real no_stmts h = flow.going_real u f code function stack is_code c first depth calls_real to_next
      row_real (stmt_and s no_stmts) h = (stmt_good s h.0).part
      row_real (stmt_and s (stmt_and r ss)) h =
          flow.joined_real u f code function stack is_code c first depth calls_real (runs s c) (runs_all (stmt_and r ss) c) (stmt_code v t s).part (row v t (stmt_and r ss)).part
          (stmt_good s h.0).part (row_real (stmt_and r ss) h.1) (stmt_sized v t s).part

      parts_real :
          (ss : CoreStmts) → StmtsThere ss
          → switches.PartsReal u f code function stack is_code c first depth calls_real (λ part. runs_from ss part c) (count_of ss) (but_last (parts_code v t ss)) (last_of (parts_code v t ss))
      parts_real no_stmts h =
          switches.no_parts_real u f code function stack is_code c first depth calls_real (λ part. runs_from no_stmts part c) (last_of [])
      parts_real (stmt_and s no_stmts) h =
          switches.one_part_real u f code function stack is_code c first depth calls_real (λ part. runs_from (stmt_and s no_stmts) part c) (0 + 1) (runs s c) (stmt_code v t s) (omega arith)
          (stmt_good s h.0).part (λ k l w. refl)
      parts_real (stmt_and s (stmt_and r ss)) h =
          switches.more_parts_real u f code function stack is_code c first depth calls_real
          (λ part. runs_from (stmt_and s (stmt_and r ss)) part c) (λ part. runs_from (stmt_and r ss) part c) (count_of (stmt_and r ss) + 1) (count_of (stmt_and r ss))
          (runs s c) (runs_all (stmt_and r ss) c) (stmt_code v t s) (but_last (parts_code v t (stmt_and r ss))) (last_of (parts_code v t (stmt_and r ss))) (omega arith)
          (stmt_good s h.0).part (stmt_sized v t s).part (row_real (stmt_and r ss) h.1) (parts_real (stmt_and r ss) h.1)
          (λ k l w. refl) (λ part k l w. refl)

  -- ---- behind the body of a function

  nowhere_ready : (d at : ℕ) → slice_get code at ≡ None → plain.IsReady u f code function stack is_code c first depth calls_real nowhere d at
  nowhere_ready d at none l e w here agree =
      real_fault u d (moment u f code function stack at l.first_block e) w stack
      (value_real.no_jump u f code function stack is_code at l.first_block e None none (refl, λ g. refl))
      (λ j. value_real.at_place u f code function stack is_code j at l.first_block e w None none (refl, λ g. refl))

  -- a return without a value, where the body can end
  end_ready :
      (d at : ℕ) (k : Return) → slice_get code at ≡ Some (return None) → plain.Returns u f code function stack is_code c first depth calls_real d k
      → plain.IsReady u f code function stack is_code c first depth calls_real (λ l w. k None w) d at
  end_ready d at k has returns l e w here agree =
      real_comes u d (moment u f code function stack at l.first_block e) w stack
      (λ j. ends temporaries (steps temporaries (moves u) j) (moment u f code function stack at l.first_block e) stack None w) _
      (value_real.no_jump u f code function stack is_code at l.first_block e (Some (return None)) has (refl, λ g. refl))
      (λ j. value_real.at_instruction u f code function stack is_code j at l.first_block e w (return None) has (refl, λ g. refl))
      (comes_alike u.tally (d - 1) (λ j. ends temporaries (steps temporaries (moves u) j) (moment u f code function stack 0 first no_values) stack None w) _ _
      (λ j. plain.ends_here u f code function stack is_code c first depth calls_real j at l e None w here)
      (comes_less u.tally (d - 1) d _ _ (omega arith) (returns None w)))

-- ---- a list of instructions in the code

at_seam : (pre : List InstructionTree) (i : InstructionTree) (rest : List InstructionTree) → slice_get (pre ++ i ∷ rest) (length pre) ≡ Some i
at_seam [] i rest = refl
at_seam (j ∷ pre) i rest = at_seam pre i rest

append_one : (pre : List InstructionTree) (i : InstructionTree) (rest : List InstructionTree) → (pre ++ i ∷ []) ++ rest ≡ pre ++ i ∷ rest
append_one [] i rest = refl
append_one (j ∷ pre) i rest = ap (λ l. j ∷ l) (append_one pre i rest)

length_one : (pre : List InstructionTree) (i : InstructionTree) → length (pre ++ i ∷ []) ≡ length pre + 1
length_one [] i = refl
length_one (j ∷ pre) i = let h = length_one pre i in omega (arith, h)

stands_in : (xs ys pre : List InstructionTree) → HasAt (pre ++ (xs ++ ys)) (length pre) xs
stands_in [] ys pre = tt
stands_in (i ∷ xs) ys pre = (
  at_seam pre i (xs ++ ys),
  subst (λ (n : ℕ). HasAt (pre ++ i ∷ (xs ++ ys)) n xs) (length_one pre i)
      (subst (λ (l : List InstructionTree). HasAt l (length (pre ++ i ∷ [])) xs) (append_one pre i (xs ++ ys)) (stands_in xs ys (pre ++ i ∷ []))),
)

behind_all : (xs ys : List InstructionTree) (n k : ℕ) → length xs ≡ n → slice_get (xs ++ ys) (n + k) ≡ slice_get ys k
behind_all [] ys n k h = let same : n + k ≡ k = omega (arith, h) in ap (slice_get ys) same
behind_all (i ∷ xs) ys zero k h = absurd (omega (arith, h))
behind_all (i ∷ xs) ys (suc n) k h = let less : length xs ≡ n = omega (arith, h) in let same : suc n + k ≡ suc (n + k) = omega arith in ap (slice_get (i ∷ (xs ++ ys))) same ∙ behind_all xs ys n k less

-- ---- a function

abbrev exits_of : (end : ℕ) → Exits
exits_of end = record { next = falls end; on_break = goes (end + 1); on_continue = goes (end + 1) }

module _ (u : Model) (f : CoreFunctionTree) (function : ℕ) (stack : Stack) (is_code : IsCode u f (function_code f) function stack) (c : Context) (first depth : ℕ) (calls_real : CallsReal u depth c.calls) where
  abbrev end_of : ℕ
  end_of = (body_code f).part.size next_falls

  abbrev body_lines : List InstructionTree
  body_lines = (body_code f).part.code (exits_of end_of) 0

  body_length : length body_lines ≡ end_of
  body_length = (stmts_sized (length f.variables) (free_from f) f.body).part (exits_of end_of) 0

  past : (e : Bool) → slice_get (body_lines ++ end_code e) (end_of + 1) ≡ None
  past true = behind_all body_lines [] end_of 1 body_length
  past false = behind_all body_lines (return None ∷ []) end_of 1 body_length

  abbrev Ready : Continuation → (d at : ℕ) → Type 0
  Ready k d at = plain.IsReady u f (function_code f) function stack is_code c first depth calls_real k d at

  at_zero : (k : Continuation) (d : ℕ) → Ready k d end_of → Ready k d (0 + end_of)
  at_zero k d h = let same : end_of ≡ 0 + end_of = omega arith in subst (λ (n : ℕ). Ready k d n) same h

  pub body_real :
      (calls_alike : (g : ℕ) (arguments : List Value) (k j : Return) → ((result : Option Value) (w : World) → k result w ≡ j result w) → (w : World) → c.calls g arguments k w ≡ c.calls g arguments j w)
      → StmtsThere u f (function_code f) function stack is_code c first depth calls_real f.body
      → (d : ℕ) → plain.IsBounded u f (function_code f) function stack is_code c first depth calls_real d → (k : Return)
      → plain.Returns u f (function_code f) function stack is_code c first depth calls_real d k → Ready (runs_all f.body c (after_function k)) d 0
  body_real calls_alike there d le k returns = by_end (body_code f).ends refl
    where
      plus_zero : (n : ℕ) → n ≡ n + 0
      plus_zero n = omega arith

      clash : (b : Bool) → b ≡ true → b ≡ false → ⊥
      clash b h k = cc

      good : stmt.Good u f (function_code f) function stack is_code c first depth calls_real (runs_all f.body c) (body_code f)
      good = stmts_good u f (function_code f) function stack is_code c first depth calls_real calls_alike f.body there

      lines : HasAt (function_code f) 0 body_lines
      lines = stands_in body_lines (end_code (body_code f).ends) []

      nothing : (i : ℕ) → Ready nowhere i (end_of + 1)
      nothing i = nowhere_ready u f (function_code f) function stack is_code c first depth calls_real i (end_of + 1) (past (body_code f).ends)

      by_end : (e : Bool) → (body_code f).ends ≡ e → Ready (runs_all f.body c (after_function k)) d 0
      by_end false ends =
          let has : slice_get (function_code f) end_of ≡ Some (return None) =
          ap (λ b. slice_get (body_lines ++ end_code b) end_of) ends
          ∙ ap (slice_get (body_lines ++ return None ∷ [])) (plus_zero end_of) ∙ behind_all body_lines (return None ∷ []) end_of 0 body_length in
          let ended : (i : ℕ) → i ≤ d → Ready (λ l w. k None w) i end_of =
          λ i less. end_ready u f (function_code f) function stack is_code c first depth calls_real i end_of k has
          (λ result w. comes_less u.tally i d _ _ less (returns result w)) in
          plain.stands u f (function_code f) function stack is_code c first depth calls_real _ (body_code f).part good.part d 0 (exits_of end_of) (after_function k) le lines
          (record { next = (at_zero _ d (ended d (omega arith)), ended (d - 1) (omega arith)); on_break = nothing (d - 1); on_continue = nothing (d - 1); on_return = returns })
      by_end true ends =
          let has : slice_get (function_code f) end_of ≡ None =
          ap (λ b. slice_get (body_lines ++ end_code b) end_of) ends
          ∙ ap (slice_get (body_lines ++ [])) (plus_zero end_of) ∙ behind_all body_lines [] end_of 0 body_length in
          let other : Continuations = record (after_function k) { next = nowhere } in
          let same = good.ignores other (after_function k)
          (record {
            next = λ no. absurd (clash (body_code f).ends ends no);
            on_break = λ so l w. refl;
            on_continue = λ l w. refl;
            on_return = λ result w. refl;
          }) in
          flow.ready_alike u f (function_code f) function stack is_code c first depth calls_real (runs_all f.body c other) (runs_all f.body c (after_function k)) d 0 same
          (plain.stands u f (function_code f) function stack is_code c first depth calls_real _ (body_code f).part good.part d 0 (exits_of end_of) other le lines
          (record {
            next = (
              at_zero nowhere d (nowhere_ready u f (function_code f) function stack is_code c first depth calls_real d end_of has),
              nowhere_ready u f (function_code f) function stack is_code c first depth calls_real (d - 1) end_of has,
            );
            on_break = nothing (d - 1);
            on_continue = nothing (d - 1);
            on_return = returns;
          }))
