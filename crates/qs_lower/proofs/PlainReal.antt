-- The code of assignments, stores, copies, fills, calls and returns makes the runs that these mean.
use Rattle.std.proofs.Common.{◌≡◌, ℕ, zero, suc, ◌+◌, ◌-◌, ◌<◌, Bool, true, false, if◌then◌else◌, List, [], ◌∷◌, ◌++◌, length, Option, Some, None, refl, sym, ap, ◌∙◌, subst, arith}
use Rattle.std.specs.Prelude.{◌==◌}
use Rattle.std.proofs.lemmas.Bool.Decides.{nat_tests}
use Rattle.std.specs.List.{slice_get}
use Rattle.qs_memory.specs.Partial.{◌>>=◌}
use Rattle.qs_memory.specs.Values.{Pointer, Value, as_pointer}
use Rattle.qs_memory.specs.Memory.{Memory, BlankTree}
use Rattle.qs_memory.specs.Memory as memory
use Rattle.qs_memory.specs.declared.scalar.Scalar.{Scalar}
use Rattle.qs_events.specs.Runs.{undefined, given}
use Rattle.qs_calls.specs.World.{World, with_memory, RootRun, Return, Environment, no_values}
use Rattle.qs_core.specs.Trees as core
use Rattle.qs_core.specs.Trees.{CoreExprTree, CoreStmtTree, CoreFunctionTree}
use Rattle.qs_core.specs.declared.numbers.Target.{Target}
use Rattle.qs_core.specs.declared.numbers.Target.TheVariants as targets
use Rattle.qs_core.specs.Expressions.{Locals, value}
use Rattle.qs_core.specs.Statements.{Continuation, Continuations, Context, assigned, given_pointer, runs}
use Rattle.qs_tac.specs.Trees.{InstructionTree, store, copy, fill, return}
use Rattle.qs_tac.specs.Holders.{temporaries}
use Rattle.qs_tac.specs.Values.{operand, pointer}
use Rattle.qs_tac.specs.Steps.{Next, leaves_memory, ends, step, steps}
use Rattle.qs_lower_expressions.specs.Exits.{Exit, falls, goes, is_fall, exit_size, exit_code}
use Rattle.qs_lower_expressions.specs.Expressions.{ExprCode, size_of, code_of, operand_of, own, address_at}
use Rattle.qs_lower.specs.Statements.{Exits, falls_of, Part, straight, target_of, of_assign, of_store, of_copy, of_fill, of_return, of_plain_return}
use Rattle.qs_lower_expressions.proofs.SizeLaws.{both, one_more, code_length}
use Rattle.qs_lower_expressions.proofs.ThreadLaws.{IsPlain}
use Rattle.qs_lower_expressions.proofs.JumpLaws.{Leads}
use Rattle.qs_lower_expressions.proofs.RealisationLaws.{Model, Comes, BoundedBy, moves, real_comes, comes_alike, comes_less, Act, Stack, HasAt, has_left, has_right, KeptBut, kept_all, kept_then, Real, real_less, real_fault, real_given, CallsReal, moment, IsCode, Agree, free, Goes}
use Rattle.qs_lower_expressions.proofs.ValueReal as value_real
use Rattle.qs_lower_expressions.proofs.ExprReal as expr

pub given_none : {A : Type 0} (o : Option A) (g : A → RootRun) → o ≡ None → given o g ≡ undefined
given_none o g h = ap (λ p. given p g) h

pub given_some : {A : Type 0} (o : Option A) (a : A) (g : A → RootRun) → o ≡ Some a → given o g ≡ g a
given_some o a g h = ap (λ p. given p g) h

-- one after the other is the same as both in one
pub given_bind : {A B : Type 0} (o : Option A) (h : A → Option B) (g : B → RootRun) → given o (λ a. given (h a) g) ≡ given (o >>= h) g
given_bind None h g = refl
given_bind (Some a) h g = refl

given_none_both : {A B : Type 0} (o : Option A) (p : Option B) (g : A → B → RootRun) → p ≡ None → given o (λ a. given p (g a)) ≡ undefined
given_none_both None p g h = refl
given_none_both (Some a) p g h = given_none p (g a) h

given_pair :
    {A B C : Type 0} (o : Option A) (i : Option B) (g : A → B → Option C) (k : C → RootRun)
    → given o (λ a. given i (λ b. given (g a b) k)) ≡ given (o >>= λ a. i >>= λ b. g a b) k
given_pair None i g k = refl
given_pair (Some a) None g k = refl
given_pair (Some a) (Some b) g k = refl

module _ (u : Model) (f : CoreFunctionTree) (code : List InstructionTree) (function : ℕ) (stack : Stack) (is_code : IsCode u f code function stack) (c : Context) (first depth : ℕ) (calls_real : CallsReal u depth c.calls) where
  abbrev Correct : CoreExprTree → ExprCode → Type 0
  Correct s e = expr.Correct u f code function stack is_code s e

  abbrev at_moment : (at first : ℕ) → Environment → Act
  at_moment at first e = moment u f code function stack at first e

  abbrev pub Makes : (d at first : ℕ) → Environment → World → RootRun → Type 0
  Makes d at first e w r = Real u d (at_moment at first e) w stack r

  abbrev Agrees : Locals → Environment → Type 0
  Agrees l e = Agree u f code function stack l e

  abbrev first_free : ℕ
  first_free = free u f code function stack

  -- an index from which the code goes on as k says, in an activation whose first block has the number `first`
  abbrev pub IsReady : Continuation → (d at : ℕ) → Type 0
  IsReady k d at = (l : Locals) (e : Environment) (w : World) → l.first_block ≡ first → Agrees l e → Makes d at l.first_block e w (k l w)

  -- the function ends
  abbrev pub Returns : (d : ℕ) → Return → Type 0
  Returns d k =
      (result : Option Value) (w : World)
      → Comes u d (λ j. ends temporaries (steps temporaries (moves u) j) (at_moment 0 first no_values) stack result w) (k result w)

  abbrev pub GoesOn : Continuation → (d : ℕ) → Exit → (end : ℕ) → Type 0
  GoesOn k d x end = Goes u f code function stack (IsReady k) d x end

  pub record AreReady (d : ℕ) (x : Exits) (end : ℕ) (k : Continuations) : Type 0 where
    pub next : GoesOn k.next d x.next end
    pub on_break : GoesOn k.on_break d x.on_break end
    pub on_continue : GoesOn k.on_continue d x.on_continue end
    pub on_return : Returns d k.on_return

  -- loops make no more turns than there are steps, and calls nest no deeper
  abbrev pub IsBounded : ℕ → Type 0
  IsBounded d = BoundedBy u.tally d c.turns depth

  -- what a statement, or several, do
  abbrev pub Meaning : Type 0
  Meaning = Continuations → Continuation

  -- Jumps alone lead from the index where the code stands to its entry, and from there it goes on as is meant.
  pub record PartReal (m : Meaning) (p : Part) : Type 0 where
    pub jumps : (at : ℕ) (x : Exits) → HasAt code at (p.code x at) → (n : ℕ) × Leads code n at (p.entry at)
    pub entered :
        (d at : ℕ) (x : Exits) (k : Continuations) → IsBounded d → HasAt code at (p.code x at)
        → AreReady d x (at + p.size (falls_of x)) k → IsReady (m k) d (p.entry at)

  -- what is ready behind jumps is ready before them
  pub ready_behind : (k : Continuation) (d n i j : ℕ) → Leads code n i j → IsReady k d j → IsReady k d i
  ready_behind k d zero i j same h l e w here agree = subst (λ (at : ℕ). Makes d at l.first_block e w (k l w)) (sym same) (h l e w here agree)
  ready_behind k d (suc n) i j leads h l e w here agree =
      value_real.jump_real u f code function stack is_code d i leads.0 l.first_block e w (k l w) leads.1
      (real_less u (d - 1) d _ w stack (k l w) (omega arith) (ready_behind k d n leads.0 j leads.2 h l e w here agree))

  pub stands :
      (m : Meaning) (p : Part) → PartReal m p → (d at : ℕ) (x : Exits) (k : Continuations) → IsBounded d → HasAt code at (p.code x at)
      → AreReady d x (at + p.size (falls_of x)) k → IsReady (m k) d at
  stands m p h d at x k le has ready =
      let jumps = h.jumps at x has in
      ready_behind (m k) d jumps.0 at (p.entry at) jumps.1 (h.entered d at x k le has ready)

  abbrev pub IsReal : CoreStmtTree → Part → Type 0
  IsReal s p = PartReal (runs s c) p

  -- ---- instructions that change the memory

  memory_real :
      (i : InstructionTree) (d at first : ℕ) (e : Environment) (w : World) (r : RootRun) (o : Option Memory)
      → slice_get code at ≡ Some i → IsPlain (Some i)
      → ((next : Next Environment) → step temporaries (moves u) (Some i) next (at_moment at first e) w stack ≡ leaves_memory next o (at_moment at first e) w stack)
      → (o ≡ None → r ≡ undefined) → ((m : Memory) → o ≡ Some m → Makes d (at + 1) first e (with_memory w m) r) → Makes d at first e w r
  memory_real i d at first e w r o has plain law none some =
      real_given u d (at_moment at first e) w stack r o (λ m. at_moment (at + 1) first e) (λ m. with_memory w m)
      (value_real.no_jump u f code function stack is_code at first e (Some i) has plain)
      (λ j. value_real.at_instruction u f code function stack is_code j at first e w i has plain ∙ law (steps temporaries (moves u) j))
      none
      (λ m h. real_less u (d - 1) d _ (with_memory w m) stack r (omega arith) (some m h))

  -- ---- exits

  -- an exit behind code
  pub exit_ready :
      (k : Continuation) (d at : ℕ) (x : Exit) → HasAt code at (exit_code x)
      → GoesOn k d x (at + exit_size (is_fall x)) → IsReady k d at
  exit_ready k d at (falls p) has goes_on l e w here agree =
      value_real.moved u f code function stack is_code d (at + 0) at l.first_block e w (k l w) (omega arith) (goes_on.0 l e w here agree)
  exit_ready k d at (goes p) has goes_on l e w here agree =
      value_real.jump_real u f code function stack is_code d at p l.first_block e w (k l w) has.0 (goes_on l e w here agree)

  pub goes_at : (k : Continuation) (d i j : ℕ) (x : Exit) → i ≡ j → GoesOn k d x i → GoesOn k d x j
  goes_at k d i j x same h = subst (λ (n : ℕ). GoesOn k d x n) same h

  -- a statement without jumps of its own
  pub straight_real :
      (s : CoreStmtTree) (size used : ℕ) (lines : (at : ℕ) → List InstructionTree) → ((at : ℕ) → length (lines at) ≡ size)
      → ((d at : ℕ) (k : Continuations) → IsBounded d → HasAt code at (lines at) → IsReady k.next d (at + size) → IsReady (runs s c k) d at)
      → IsReal s (straight size used lines).part
  straight_real s size used lines long real = record { jumps = λ at x has. (0, refl); entered = there }
    where
      there :
          (d at : ℕ) (x : Exits) (k : Continuations) → IsBounded d → HasAt code at (lines at ++ exit_code x.next)
          → AreReady d x (at + (size + exit_size (falls_of x).next)) k → IsReady (runs s c k) d at
      there d at x k le has ready =
          real d at k le (has_left code at (lines at) _ has)
          (exit_ready k.next d (at + size) x.next (has_right code at size (lines at) _ (long at) has)
          (goes_at k.next d _ _ x.next (omega arith) ready.next))

  -- ---- assignments

  abbrev pub IsTarget : Target → Type 0
  IsTarget (targets.Variable x) = x < length f.variables
  IsTarget (targets.Temporary k) = k < length f.temporaries

  pub agree_assigned :
      (x : Target) (l : Locals) (e after : Environment) (v : Value) → IsTarget x → Agrees l e
      → KeptBut (target_of (length f.variables) x) first_free e after → after (target_of (length f.variables) x) ≡ Some v
      → Agrees (assigned x l v) after
  agree_assigned (targets.Variable x) l e after v lt agree but holds = record {
    variables = λ y below. by_same y below (y == x) refl;
    temporaries = λ k below. but (length f.variables + k) (omega (arith, below)) (other k) ∙ agree.temporaries k below;
  }
    where
      other : (k : ℕ) → length f.variables + k ≡ x → ⊥
      other k same = absurd (omega (arith, lt, same))

      differ : (y : ℕ) → y ≡ x → (y == x) ≡ false → ⊥
      differ y same h = absurd (grind (arith, nat_tests, same, h))

      by_same : (y : ℕ) → y < length f.variables → (b : Bool) → (y == x) ≡ b → after y ≡ (if b then Some v else l.variables y)
      by_same y below true h = let same : y ≡ x = grind (arith, nat_tests, h) in ap after same ∙ holds
      by_same y below false h = but y (omega (arith, below)) (λ same. differ y same h) ∙ agree.variables y below
  agree_assigned (targets.Temporary x) l e after v lt agree but holds = record {
    variables = λ y below. but y (omega (arith, below)) (other y below) ∙ agree.variables y below;
    temporaries = λ k below. by_same k below (k == x) refl;
  }
    where
      other : (y : ℕ) → y < length f.variables → y ≡ length f.variables + x → ⊥
      other y below same = absurd (omega (arith, below, same))

      differ : (k : ℕ) → length f.variables + k ≡ length f.variables + x → (k == x) ≡ false → ⊥
      differ k same h = absurd (grind (arith, nat_tests, same, h))

      by_same : (k : ℕ) → k < length f.temporaries → (b : Bool) → (k == x) ≡ b → after (length f.variables + k) ≡ (if b then Some v else l.temporaries k)
      by_same k below true h = let same : k ≡ x = grind (arith, nat_tests, h) in ap (λ i. after (length f.variables + i)) same ∙ holds
      by_same k below false h = but (length f.variables + k) (omega (arith, below)) (λ same. differ k same h) ∙ agree.temporaries k below

  pub assigned_first : (x : Target) (l : Locals) (v : Value) → (assigned x l v).first_block ≡ l.first_block
  assigned_first (targets.Variable x) l v = refl
  assigned_first (targets.Temporary k) l v = refl

  -- a result that is as it should be, one step on
  pub goes_as : (d at first : ℕ) (e : Environment) (w : World) (r s : RootRun) → r ≡ s → Makes d at first e w s → Makes d at first e w r
  goes_as d at first e w r s same h = subst (λ (o : RootRun). Makes d at first e w o) (sym same) h

  pub assign_real : (x : Target) (s : CoreExprTree) (e : ExprCode) → IsTarget x → Correct s e → IsReal (core.assign x s) (of_assign (target_of (length f.variables) x) first_free e).part
  assign_real x s e target h =
      straight_real (core.assign x s) e.size e.used (e.into (target_of (length f.variables) x) first_free) (h.sized.into _ _)
      (λ d at k le has ready l env w here agree.
      h.into d (target_of (length f.variables) x) first_free at l env w _ (omega arith) agree has
      (λ none. given_none (value s l w.memory) _ none)
      (λ v after is but holds.
      goes_as d (at + e.size) l.first_block after w _ (k.next (assigned x l v) w) (given_some (value s l w.memory) v (λ v. k.next (assigned x l v) w) is)
      (subst (λ (n : ℕ). Makes d (at + e.size) n after w (k.next (assigned x l v) w)) (assigned_first x l v)
      (ready (assigned x l v) after w (assigned_first x l v ∙ here) (agree_assigned x l env after v target agree but holds)))))

  -- ---- memory

  pub store_real :
      (s : Scalar) (a b : CoreExprTree) (p e : ExprCode) → Correct a p → Correct b e → IsReal (core.store s a b) (of_store first_free s p e).part
  store_real s a b p e ha hb =
      straight_real (core.store s a b) (p.base_size + size_of e + 1) 0 _ long
      (λ d at k le has ready l env w here agree.
      ha.base d first_free at l env w _ (omega arith) agree (has_left code at (p.base_code first_free at) _ has)
      (λ none. given_bind (value a l w.memory) as_pointer _ ∙ given_none (value a l w.memory >>= as_pointer) _ none)
      (λ after kept first.
      value_real.as_operand u f code function stack is_code b e hb d (first_free + p.base_own) (at + p.base_size) l after w _ (omega arith)
      (value_real.agree_kept u f code function stack is_code first_free l env after (omega arith) agree kept)
      (has_left code (at + p.base_size) (code_of e (first_free + p.base_own) (at + p.base_size)) _ (behind at has))
      (λ none. given_bind (value a l w.memory) as_pointer _ ∙ given_none_both (value a l w.memory >>= as_pointer) (value b l w.memory) _ none)
      (λ last kept_last second.
      memory_real (store s (address_at p first_free) (operand_of e (first_free + p.base_own))) d (at + p.base_size + size_of e) l.first_block last w _
      ((value a l w.memory >>= as_pointer) >>= λ q. value b l w.memory >>= λ v. memory.store s w.memory q v)
      (has_right code (at + p.base_size) (size_of e) (code_of e (first_free + p.base_own) (at + p.base_size)) _ (code_length e hb.sized.into _ _) (behind at has)).0
      (refl, λ g. refl)
      (λ next. ap (λ o. leaves_memory next o (at_moment (at + p.base_size + size_of e) l.first_block last) w stack)
      (ap (λ q. q >>= λ to. operand temporaries (operand_of e (first_free + p.base_own)) (at_moment (at + p.base_size + size_of e) l.first_block last) >>= λ v. memory.store s w.memory to v)
      (first (at + p.base_size + size_of e) last kept_last)
      ∙ ap (λ o. (value a l w.memory >>= as_pointer) >>= λ q. o >>= λ v. memory.store s w.memory q v)
      (second (at + p.base_size + size_of e) last (kept_all (first_free + p.base_own + own e) last))))
      (λ none. as_one l w k ∙ given_none _ _ none)
      (λ m is.
      goes_as d (at + p.base_size + size_of e + 1) l.first_block last (with_memory w m) _ _
      (as_one l w k ∙ given_some _ m (λ m. k.next l (with_memory w m)) is)
      (value_real.moved u f code function stack is_code d (at + (p.base_size + size_of e + 1)) (at + p.base_size + size_of e + 1) l.first_block last (with_memory w m) (k.next l (with_memory w m)) (omega arith)
      (ready l last (with_memory w m) here
      (value_real.agree_kept u f code function stack is_code first_free l env last (omega arith) agree
      (kept_then first_free (first_free + p.base_own) env after last (omega arith) kept kept_last))))))))
    where
      three : (m n : ℕ) → m + (n + 1) ≡ m + n + 1
      three m n = omega arith

      long : (at : ℕ) → length (p.base_code first_free at ++ (code_of e (first_free + p.base_own) (at + p.base_size) ++ store s (address_at p first_free) (operand_of e (first_free + p.base_own)) ∷ [])) ≡ p.base_size + size_of e + 1
      long at = both _ _ _ (size_of e + 1) (ha.sized.base first_free at) (one_more _ _ _ (code_length e hb.sized.into _ _)) ∙ three p.base_size (size_of e)

      behind : (at : ℕ) → HasAt code at (p.base_code first_free at ++ (code_of e (first_free + p.base_own) (at + p.base_size) ++ store s (address_at p first_free) (operand_of e (first_free + p.base_own)) ∷ []))
          → HasAt code (at + p.base_size) (code_of e (first_free + p.base_own) (at + p.base_size) ++ store s (address_at p first_free) (operand_of e (first_free + p.base_own)) ∷ [])
      behind at has = has_right code at p.base_size (p.base_code first_free at) _ (ha.sized.base first_free at) has

      as_one :
          (l : Locals) (w : World) (k : Continuations)
          → given_pointer a l w (λ q. given (value b l w.memory) (λ v. given (memory.store s w.memory q v) (λ m. k.next l (with_memory w m))))
          ≡ given ((value a l w.memory >>= as_pointer) >>= λ q. value b l w.memory >>= λ v. memory.store s w.memory q v) (λ m. k.next l (with_memory w m))
      as_one l w k =
          given_bind (value a l w.memory) as_pointer _
          ∙ given_pair (value a l w.memory >>= as_pointer) (value b l w.memory) (λ q v. memory.store s w.memory q v) (λ m. k.next l (with_memory w m))

  pub fill_real : (blank : BlankTree) (a : CoreExprTree) (p : ExprCode) → Correct a p → IsReal (core.fill blank a) (of_fill first_free blank p).part
  fill_real blank a p ha =
      straight_real (core.fill blank a) (p.base_size + 1) 0 _ (λ at. one_more _ _ _ (ha.sized.base first_free at))
      (λ d at k le has ready l env w here agree.
      ha.base d first_free at l env w _ (omega arith) agree (has_left code at (p.base_code first_free at) _ has)
      (λ none. given_bind (value a l w.memory) as_pointer _ ∙ given_none (value a l w.memory >>= as_pointer) _ none)
      (λ after kept first.
      memory_real (fill blank (address_at p first_free)) d (at + p.base_size) l.first_block after w _
      ((value a l w.memory >>= as_pointer) >>= λ q. memory.fill blank w.memory q)
      (has_right code at p.base_size (p.base_code first_free at) _ (ha.sized.base first_free at) has).0
      (refl, λ g. refl)
      (λ next. ap (λ o. leaves_memory next (o >>= λ q. memory.fill blank w.memory q) (at_moment (at + p.base_size) l.first_block after) w stack)
      (first (at + p.base_size) after (kept_all (first_free + p.base_own) after)))
      (λ none. given_bind (value a l w.memory) as_pointer _ ∙ given_bind (value a l w.memory >>= as_pointer) _ _ ∙ given_none _ _ none)
      (λ m is.
      goes_as d (at + p.base_size + 1) l.first_block after (with_memory w m) _ _
      (given_bind (value a l w.memory) as_pointer _ ∙ given_bind (value a l w.memory >>= as_pointer) _ _
      ∙ given_some _ m (λ m. k.next l (with_memory w m)) is)
      (value_real.moved u f code function stack is_code d (at + (p.base_size + 1)) (at + p.base_size + 1) l.first_block after (with_memory w m) (k.next l (with_memory w m)) (omega arith)
      (ready l after (with_memory w m) here (value_real.agree_kept u f code function stack is_code first_free l env after (omega arith) agree kept))))))

  pub copy_real :
      (size alignment : ℕ) (a b : CoreExprTree) (p q : ExprCode) → Correct a p → Correct b q
      → IsReal (core.copy size alignment a b) (of_copy first_free size alignment p q).part
  copy_real size alignment a b p q ha hb =
      straight_real (core.copy size alignment a b) (p.base_size + q.base_size + 1) 0 _ long
      (λ d at k le has ready l env w here agree.
      ha.base d first_free at l env w _ (omega arith) agree (has_left code at (p.base_code first_free at) _ has)
      (λ none. given_bind (value a l w.memory) as_pointer _ ∙ given_none (value a l w.memory >>= as_pointer) _ none)
      (λ after kept first.
      hb.base d (first_free + p.base_own) (at + p.base_size) l after w _ (omega arith)
      (value_real.agree_kept u f code function stack is_code first_free l env after (omega arith) agree kept)
      (has_left code (at + p.base_size) (q.base_code (first_free + p.base_own) (at + p.base_size)) _ (behind at has))
      (λ none. as_one l w k ∙ given_none _ _ (none_second (value a l w.memory >>= as_pointer) _ _ none))
      (λ last kept_last second.
      memory_real (copy size alignment (address_at p first_free) (address_at q (first_free + p.base_own))) d (at + p.base_size + q.base_size) l.first_block last w _
      (both_pointers l w)
      (has_right code (at + p.base_size) q.base_size (q.base_code (first_free + p.base_own) (at + p.base_size)) _ (hb.sized.base _ _) (behind at has)).0
      (refl, λ g. refl)
      (λ next. ap (λ o. leaves_memory next o (at_moment (at + p.base_size + q.base_size) l.first_block last) w stack)
      (ap (λ x. x >>= λ to. pointer temporaries (address_at q (first_free + p.base_own)) (at_moment (at + p.base_size + q.base_size) l.first_block last) w.memory >>= λ from. memory.copy size alignment w.memory to from)
      (first (at + p.base_size + q.base_size) last kept_last)
      ∙ ap (λ x. (value a l w.memory >>= as_pointer) >>= λ to. x >>= λ from. memory.copy size alignment w.memory to from)
      (second (at + p.base_size + q.base_size) last (kept_all (first_free + p.base_own + q.base_own) last))))
      (λ none. as_one l w k ∙ given_none _ _ none)
      (λ m is.
      goes_as d (at + p.base_size + q.base_size + 1) l.first_block last (with_memory w m) _ _
      (as_one l w k ∙ given_some _ m (λ m. k.next l (with_memory w m)) is)
      (value_real.moved u f code function stack is_code d (at + (p.base_size + q.base_size + 1)) (at + p.base_size + q.base_size + 1) l.first_block last (with_memory w m) (k.next l (with_memory w m)) (omega arith)
      (ready l last (with_memory w m) here
      (value_real.agree_kept u f code function stack is_code first_free l env last (omega arith) agree
      (kept_then first_free (first_free + p.base_own) env after last (omega arith) kept kept_last))))))))
    where
      three : (m n : ℕ) → m + (n + 1) ≡ m + n + 1
      three m n = omega arith

      long : (at : ℕ) → length (p.base_code first_free at ++ (q.base_code (first_free + p.base_own) (at + p.base_size) ++ copy size alignment (address_at p first_free) (address_at q (first_free + p.base_own)) ∷ [])) ≡ p.base_size + q.base_size + 1
      long at = both _ _ _ (q.base_size + 1) (ha.sized.base first_free at) (one_more _ _ _ (hb.sized.base _ _)) ∙ three p.base_size q.base_size

      behind : (at : ℕ) → HasAt code at (p.base_code first_free at ++ (q.base_code (first_free + p.base_own) (at + p.base_size) ++ copy size alignment (address_at p first_free) (address_at q (first_free + p.base_own)) ∷ []))
          → HasAt code (at + p.base_size) (q.base_code (first_free + p.base_own) (at + p.base_size) ++ copy size alignment (address_at p first_free) (address_at q (first_free + p.base_own)) ∷ [])
      behind at has = has_right code at p.base_size (p.base_code first_free at) _ (ha.sized.base first_free at) has

      both_pointers : Locals → World → Option Memory
      both_pointers l w = (value a l w.memory >>= as_pointer) >>= λ to. (value b l w.memory >>= as_pointer) >>= λ from. memory.copy size alignment w.memory to from

      none_second : {A B C : Type 0} (o : Option A) (i : Option B) (g : A → B → Option C) → i ≡ None → (o >>= λ a. i >>= λ b. g a b) ≡ None
      none_second None i g h = refl
      none_second (Some a) i g h = ap (λ p. p >>= λ b. g a b) h

      inside : (o : Option Pointer) (w : World) (l : Locals) (k : Continuations)
          → given o (λ to. given_pointer b l w (λ from. given (memory.copy size alignment w.memory to from) (λ m. k.next l (with_memory w m))))
          ≡ given o (λ to. given (value b l w.memory >>= as_pointer) (λ from. given (memory.copy size alignment w.memory to from) (λ m. k.next l (with_memory w m))))
      inside None w l k = refl
      inside (Some to) w l k = given_bind (value b l w.memory) as_pointer _

      as_one :
          (l : Locals) (w : World) (k : Continuations)
          → given_pointer a l w (λ to. given_pointer b l w (λ from. given (memory.copy size alignment w.memory to from) (λ m. k.next l (with_memory w m))))
          ≡ given ((value a l w.memory >>= as_pointer) >>= λ to. (value b l w.memory >>= as_pointer) >>= λ from. memory.copy size alignment w.memory to from) (λ m. k.next l (with_memory w m))
      as_one l w k =
          given_bind (value a l w.memory) as_pointer _
          ∙ inside (value a l w.memory >>= as_pointer) w l k
          ∙ given_pair (value a l w.memory >>= as_pointer) (value b l w.memory >>= as_pointer) (λ to from. memory.copy size alignment w.memory to from) (λ m. k.next l (with_memory w m))

  -- ---- returns

  pub ends_here :
      (j at : ℕ) (l : Locals) (e : Environment) (result : Option Value) (w : World) → l.first_block ≡ first
      → ends temporaries (steps temporaries (moves u) j) (at_moment at l.first_block e) stack result w
      ≡ ends temporaries (steps temporaries (moves u) j) (at_moment 0 first no_values) stack result w
  ends_here j at l e result w here = ap (λ (n : ℕ). ends temporaries (steps temporaries (moves u) j) (at_moment at n e) stack result w) here

  pub plain_return_real : IsReal (core.return None) of_plain_return.part
  plain_return_real = record { jumps = λ at x has. (0, refl); entered = there }
    where
      there :
          (d at : ℕ) (x : Exits) (k : Continuations) → IsBounded d → HasAt code at (return None ∷ [])
          → AreReady d x (at + 1) k → IsReady (runs (core.return None) c k) d at
      there d at x k le has ready l env w here agree =
          real_comes u d (at_moment at l.first_block env) w stack (λ j. ends temporaries (steps temporaries (moves u) j) (at_moment at l.first_block env) stack None w) _
          (value_real.no_jump u f code function stack is_code at l.first_block env (Some (return None)) has.0 (refl, λ g. refl))
          (λ j. value_real.at_instruction u f code function stack is_code j at l.first_block env w (return None) has.0 (refl, λ g. refl))
          (comes_alike u.tally (d - 1) (λ j. ends temporaries (steps temporaries (moves u) j) (at_moment 0 first no_values) stack None w) _ _ (λ j. ends_here j at l env None w here)
          (comes_less u.tally (d - 1) d _ _ (omega arith) (ready.on_return None w)))

  pub return_real : (s : CoreExprTree) (e : ExprCode) → Correct s e → IsReal (core.return (Some s)) (of_return first_free e).part
  return_real s e h = record { jumps = λ at x has. (0, refl); entered = there }
    where
      ended :
          (d at : ℕ) (l : Locals) (after : Environment) (w : World) (k : Continuations) (o : Option Value) → l.first_block ≡ first → Returns d k.on_return
          → slice_get code at ≡ Some (return (Some (operand_of e first_free)))
          → operand temporaries (operand_of e first_free) (at_moment at l.first_block after) ≡ o
          → Makes d at l.first_block after w (given o (λ v. k.on_return (Some v) w))
      ended d at l after w k None here returns has is =
          real_fault u d (at_moment at l.first_block after) w stack
          (value_real.no_jump u f code function stack is_code at l.first_block after (Some (return (Some (operand_of e first_free)))) has (refl, λ g. refl))
          (λ j. value_real.at_instruction u f code function stack is_code j at l.first_block after w (return (Some (operand_of e first_free))) has (refl, λ g. refl)
          ∙ ap (λ o. given o (λ v. ends temporaries (steps temporaries (moves u) j) (at_moment at l.first_block after) stack (Some v) w)) is)
      ended d at l after w k (Some v) here returns has is =
          real_comes u d (at_moment at l.first_block after) w stack (λ j. ends temporaries (steps temporaries (moves u) j) (at_moment at l.first_block after) stack (Some v) w) _
          (value_real.no_jump u f code function stack is_code at l.first_block after (Some (return (Some (operand_of e first_free)))) has (refl, λ g. refl))
          (λ j. value_real.at_instruction u f code function stack is_code j at l.first_block after w (return (Some (operand_of e first_free))) has (refl, λ g. refl)
          ∙ ap (λ o. given o (λ v. ends temporaries (steps temporaries (moves u) j) (at_moment at l.first_block after) stack (Some v) w)) is)
          (comes_alike u.tally (d - 1) (λ j. ends temporaries (steps temporaries (moves u) j) (at_moment 0 first no_values) stack (Some v) w) _ _ (λ j. ends_here j at l after (Some v) w here)
          (comes_less u.tally (d - 1) d _ _ (omega arith) (returns (Some v) w)))

      there :
          (d at : ℕ) (x : Exits) (k : Continuations) → IsBounded d → HasAt code at (code_of e first_free at ++ return (Some (operand_of e first_free)) ∷ [])
          → AreReady d x (at + (size_of e + 1)) k → IsReady (runs (core.return (Some s)) c k) d at
      there d at x k le has ready l env w here agree =
          value_real.as_operand u f code function stack is_code s e h d first_free at l env w _ (omega arith) agree (has_left code at (code_of e first_free at) _ has)
          (λ none. given_none (value s l w.memory) _ none)
          (λ after kept same.
          ended d (at + size_of e) l after w k (value s l w.memory) here ready.on_return
          (has_right code at (size_of e) (code_of e first_free at) _ (code_length e h.sized.into _ _) has).0
          (same (at + size_of e) after (kept_all (first_free + own e) after)))
