-- The code of sequences, branches and loops makes the runs that these mean.
use Rattle.std.proofs.Common.{◌≡◌, ℕ, suc, ◌+◌, ◌-◌, ◌≤◌, Bool, true, false, if◌then◌else◌, List, ◌++◌, Option, Some, None, refl, sym, ap, ◌∙◌, subst, arith}
use Rattle.qs_memory.specs.Partial.{◌>>=◌}
use Rattle.qs_memory.specs.Pointers.{truth}
use Rattle.qs_events.specs.Runs.{given}
use Rattle.qs_calls.specs.World.{World, RootRun, Environment}
use Rattle.qs_core.specs.Trees.{CoreExprTree, CoreFunctionTree}
use Rattle.qs_core.specs.Expressions.{Locals, value}
use Rattle.qs_core.specs.Statements.{Continuation, Continuations, Context, repeated, after_step, after_body}
use Rattle.qs_tac.specs.Trees.{InstructionTree}
use Rattle.qs_lower_expressions.specs.Exits.{Exit, falls, goes, is_fall, settled, exit_size, exit_code}
use Rattle.qs_lower_expressions.specs.Expressions.{ExprCode}
use Rattle.qs_lower.specs.Statements.{Exits, falls_of, elsewhere, before, none_falls, next_falls, Way, to_next, to_break, to_continue, exit_to, falls_to, Part, Tested, going, joined, redirected, branch_part, body_falls, body_exits, front_exits, step_exits, test_last, last_falls, last_exits, body_first, body_alone}
use Rattle.qs_lower.proofs.StmtSizeLaws.{PartSized, TestedSized}
use Rattle.qs_lower_expressions.proofs.JumpLaws.{Leads}
use Rattle.qs_lower_expressions.proofs.RealisationLaws.{Model, real_turns, comes_less, bounded_less as tally_bounded, Stack, HasAt, has_left, has_right, Kept, Real, real_less, CallsReal, moment, IsCode, Agree, free, Goes, by_answer}
use Rattle.qs_lower_expressions.proofs.ValueReal as value_real
use Rattle.qs_lower_expressions.proofs.ExprReal as expr
use Rattle.qs_lower.proofs.PlainReal as plain

module _ (u : Model) (f : CoreFunctionTree) (code : List InstructionTree) (function : ℕ) (stack : Stack) (is_code : IsCode u f code function stack) (c : Context) (first depth : ℕ) (calls_real : CallsReal u depth c.calls) where
  abbrev pub Makes : (d at first : ℕ) → Environment → World → RootRun → Type 0
  Makes d at n e w r = Real u d (moment u f code function stack at n e) w stack r

  abbrev pub Agrees : Locals → Environment → Type 0
  Agrees l e = Agree u f code function stack l e

  abbrev pub IsReady : Continuation → (d at : ℕ) → Type 0
  IsReady k d at = plain.IsReady u f code function stack is_code c first depth calls_real k d at

  abbrev pub GoesOn : Continuation → (d : ℕ) → Exit → (end : ℕ) → Type 0
  GoesOn k d x end = plain.GoesOn u f code function stack is_code c first depth calls_real k d x end

  abbrev pub AreReady : (d : ℕ) → Exits → (end : ℕ) → Continuations → Type 0
  AreReady d x end k = plain.AreReady u f code function stack is_code c first depth calls_real d x end k

  abbrev pub IsBounded : ℕ → Type 0
  IsBounded d = plain.IsBounded u f code function stack is_code c first depth calls_real d

  abbrev pub Meaning : Type 0
  Meaning = Continuations → Continuation

  abbrev pub PartReal : Meaning → Part → Type 0
  PartReal m p = plain.PartReal u f code function stack is_code c first depth calls_real m p

  abbrev pub Correct : CoreExprTree → ExprCode → Type 0
  Correct s e = expr.Correct u f code function stack is_code s e

  abbrev pub first_free : ℕ
  first_free = free u f code function stack

  -- a part that stands at this index
  stands :
      (m : Meaning) (p : Part) → PartReal m p → (d at : ℕ) (x : Exits) (k : Continuations) → IsBounded d → HasAt code at (p.code x at)
      → AreReady d x (at + p.size (falls_of x)) k → IsReady (m k) d at
  stands m p h d at x k le has ready = plain.stands u f code function stack is_code c first depth calls_real m p h d at x k le has ready

  ready_behind : (k : Continuation) (d n i j : ℕ) → Leads code n i j → IsReady k d j → IsReady k d i
  ready_behind k d n i j leads h = plain.ready_behind u f code function stack is_code c first depth calls_real k d n i j leads h

  -- ---- fewer steps

  ready_less : (k : Continuation) (i d at : ℕ) → i ≤ d → IsReady k d at → IsReady k i at
  ready_less k i d at le h l e w here agree = real_less u i d _ w stack (k l w) le (h l e w here agree)

  goes_less : (k : Continuation) (i d : ℕ) (x : Exit) (end : ℕ) → i ≤ d → GoesOn k d x end → GoesOn k i x end
  goes_less k i d (falls p) end le h = (ready_less k i d end le h.0, ready_less k (i - 1) (d - 1) p (omega (arith, le)) h.1)
  goes_less k i d (goes p) end le h = ready_less k (i - 1) (d - 1) p (omega (arith, le)) h

  pub all_less : (i d : ℕ) (x : Exits) (end : ℕ) (k : Continuations) → i ≤ d → AreReady d x end k → AreReady i x end k
  all_less i d x end k le h = record {
    next = goes_less k.next i d x.next end le h.next;
    on_break = goes_less k.on_break i d x.on_break end le h.on_break;
    on_continue = goes_less k.on_continue i d x.on_continue end le h.on_continue;
    on_return = λ result w. comes_less u.tally i d _ _ le (h.on_return result w);
  }

  pub bounded_less : (i d : ℕ) → i ≤ d → IsBounded d → IsBounded i
  bounded_less i d le h = tally_bounded u.tally i d c.turns depth le h

  -- ---- exits

  pub settled_goes : (k : Continuation) (d : ℕ) (x : Exit) (end other : ℕ) → GoesOn k d x end → GoesOn k d (settled x) other
  settled_goes k d (falls p) end other h = h.1
  settled_goes k d (goes p) end other h = h

  goes_at : (k : Continuation) (d : ℕ) (x : Exit) (i j : ℕ) → i ≡ j → GoesOn k d x i → GoesOn k d x j
  goes_at k d x i j same h = subst (λ (n : ℕ). GoesOn k d x n) same h

  -- what goes on alike
  abbrev pub Alike : Continuation → Continuation → Type 0
  Alike k j = (l : Locals) (w : World) → k l w ≡ j l w

  pub ready_alike : (k j : Continuation) (d at : ℕ) → Alike k j → IsReady k d at → IsReady j d at
  ready_alike k j d at same h l e w here agree = subst (λ (r : RootRun). Makes d at l.first_block e w r) (same l w) (h l e w here agree)

  goes_alike : (k j : Continuation) (d : ℕ) (x : Exit) (end : ℕ) → Alike k j → GoesOn k d x end → GoesOn j d x end
  goes_alike k j d (falls p) end same h = (ready_alike k j d end same h.0, ready_alike k j (d - 1) p same h.1)
  goes_alike k j d (goes p) end same h = ready_alike k j (d - 1) p same h

  -- ---- ways

  abbrev pub goes_to : Way → Continuations → Continuation
  goes_to to_next k = k.next
  goes_to to_break k = k.on_break
  goes_to to_continue k = k.on_continue

  exit_of : (way : Way) (d : ℕ) (x : Exits) (end : ℕ) (k : Continuations) → AreReady d x end k → GoesOn (goes_to way k) d (exit_to way x) end
  exit_of to_next d x end k h = h.next
  exit_of to_break d x end k h = h.on_break
  exit_of to_continue d x end k h = h.on_continue

  pub going_real : (way : Way) → PartReal (goes_to way) (going way)
  going_real way = record { jumps = λ at x has. (0, refl); entered = there }
    where
      size_is : (way : Way) (x : Exits) → falls_to way (falls_of x) ≡ is_fall (exit_to way x)
      size_is to_next x = refl
      size_is to_break x = refl
      size_is to_continue x = refl

      there :
          (d at : ℕ) (x : Exits) (k : Continuations) → IsBounded d → HasAt code at (exit_code (exit_to way x))
          → AreReady d x (at + exit_size (falls_to way (falls_of x))) k → IsReady (goes_to way k) d at
      there d at x k le has ready =
          plain.exit_ready u f code function stack is_code c first depth calls_real (goes_to way k) d at (exit_to way x) has
          (goes_at (goes_to way k) d (exit_to way x) _ _ (ap (λ b. at + exit_size b) (size_is way x)) (exit_of way d x _ k ready))

  -- ---- one part behind another

  abbrev pub with_next : Continuations → Continuation → Continuations
  with_next k n = record k { next = n }

  abbrev pub then_ : Meaning → Meaning → Meaning
  then_ m n k = m (with_next k (n k))

  joined_ready :
      (m n : Meaning) (a b : Part) → PartReal n b → PartSized a → (d at : ℕ) (x : Exits) (k : Continuations) → IsBounded d
      → HasAt code at ((joined a b).code x at) → AreReady d x (at + (joined a b).size (falls_of x)) k
      → AreReady d (before (b.entry (at + a.size next_falls)) x) (at + a.size next_falls) (with_next k (n k))
  joined_ready m n a b h size d at x k le has ready =
      let second : ℕ = at + a.size next_falls in
      let there : HasAt code second (b.code x second) = has_right code at (a.size next_falls) (a.code (before (b.entry second) x) at) _ (size _ at) has in
      let same : at + (a.size next_falls + b.size (falls_of x)) ≡ second + b.size (falls_of x) = omega arith in
      let moved : AreReady d x (second + b.size (falls_of x)) k = subst (λ (i : ℕ). AreReady d x i k) same ready in
      record {
        next = (
          stands n b h d second x k le there moved,
          h.entered (d - 1) second x k (bounded_less (d - 1) d (omega arith) le) there (all_less (d - 1) d x _ k (omega arith) moved),
        );
        on_break = settled_goes k.on_break d x.on_break _ second ready.on_break;
        on_continue = settled_goes k.on_continue d x.on_continue _ second ready.on_continue;
        on_return = ready.on_return;
      }

  pub joined_real : (m n : Meaning) (a b : Part) → PartReal m a → PartReal n b → PartSized a → PartReal (then_ m n) (joined a b)
  joined_real m n a b g h size = record {
    jumps = λ at x has. g.jumps at (before (b.entry (at + a.size next_falls)) x) (has_left code at _ _ has);
    entered = λ d at x k le has ready.
        g.entered d at (before (b.entry (at + a.size next_falls)) x) (with_next k (n k)) le (has_left code at _ _ has)
        (joined_ready m n a b h size d at x k le has ready);
  }

  pub redirected_real : (m n : Meaning) (a : Part) (way : Way) → PartReal m a → ((k : Continuations) → Alike (goes_to way k) (n k)) → PartReal (then_ m n) (redirected a way)
  redirected_real m n a to_next g same = record {
    jumps = λ at x has. g.jumps at x has;
    entered = λ d at x k le has ready.
        g.entered d at x (with_next k (n k)) le has (record { next = goes_alike _ (n k) d x.next _ (same k) ready.next; on_break = ready.on_break; on_continue = ready.on_continue; on_return = ready.on_return });
  }
  redirected_real m n a to_break g same = record {
    jumps = λ at x has. g.jumps at (record x { next = x.on_break }) has;
    entered = λ d at x k le has ready.
        g.entered d at (record x { next = x.on_break }) (with_next k (n k)) le has (record { next = goes_alike _ (n k) d x.on_break _ (same k) ready.on_break; on_break = ready.on_break; on_continue = ready.on_continue; on_return = ready.on_return });
  }
  redirected_real m n a to_continue g same = record {
    jumps = λ at x has. g.jumps at (record x { next = x.on_continue }) has;
    entered = λ d at x k le has ready.
        g.entered d at (record x { next = x.on_continue }) (with_next k (n k)) le has (record { next = goes_alike _ (n k) d x.on_continue _ (same k) ready.on_continue; on_break = ready.on_break; on_continue = ready.on_continue; on_return = ready.on_return });
  }

  -- a part that means the same
  pub part_alike : (m n : Meaning) (p : Part) → ((k : Continuations) → Alike (m k) (n k)) → PartReal m p → PartReal n p
  part_alike m n p same g = record {
    jumps = g.jumps;
    entered = λ d at x k le has ready. ready_alike (m k) (n k) d (p.entry at) (same k) (g.entered d at x k le has ready);
  }

  -- ---- branches

  abbrev pub chosen : CoreExprTree → Meaning → Meaning → Meaning
  chosen s m n k l w = given (value s l w.memory) (λ v. given (truth w.memory v) (λ said. if said then m k l w else n k l w))

  -- a test of which each exit goes on
  test_real :
      (s : CoreExprTree) (e : ExprCode) (m n : Continuation) (d at : ℕ) (met unmet : Exit) → Correct s e → HasAt code at (e.test met unmet first_free at)
      → GoesOn m d met (at + e.test_size (is_fall met) (is_fall unmet)) → GoesOn n d unmet (at + e.test_size (is_fall met) (is_fall unmet))
      → (k : Continuations) → IsReady (chosen s (λ k. m) (λ k. n) k) d at
  test_real s e m n d at met unmet h has met_goes unmet_goes k l env w here agree =
      h.test d first_free at met unmet l env w _ (omega arith) agree has
      (λ none. as_one ∙ plain.given_none (value s l w.memory >>= truth w.memory) _ none)
      (λ b after is kept.
      answered b met unmet after kept (agree_kept after kept) is met_goes unmet_goes)
    where
      as_one : given (value s l w.memory) (λ v. given (truth w.memory v) (λ said. if said then m l w else n l w)) ≡ given (value s l w.memory >>= truth w.memory) (λ said. if said then m l w else n l w)
      as_one = plain.given_bind (value s l w.memory) (truth w.memory) _

      agree_kept : (after : Environment) → Kept first_free env after → Agrees l after
      agree_kept after kept = value_real.agree_kept u f code function stack is_code first_free l env after (omega arith) agree kept

      result : (b : Bool) → (value s l w.memory >>= truth w.memory) ≡ Some b
          → (if b then m l w else n l w) ≡ given (value s l w.memory) (λ v. given (truth w.memory v) (λ said. if said then m l w else n l w))
      result b is = sym (as_one ∙ plain.given_some (value s l w.memory >>= truth w.memory) b (λ said. if said then m l w else n l w) is)

      made : (k : Continuation) (i p : ℕ) (after : Environment) → Agrees l after → k l w ≡ given (value s l w.memory) (λ v. given (truth w.memory v) (λ said. if said then m l w else n l w))
          → IsReady k i p → Makes i p l.first_block after w (given (value s l w.memory) (λ v. given (truth w.memory v) (λ said. if said then m l w else n l w)))
      made k i p after agrees same ready = subst (λ (r : RootRun). Makes i p l.first_block after w r) same (ready l after w here agrees)

      ended : (k : Continuation) (x : Exit) (end : ℕ) (after : Environment) → Agrees l after → k l w ≡ given (value s l w.memory) (λ v. given (truth w.memory v) (λ said. if said then m l w else n l w))
          → GoesOn k d x end
          → Goes u f code function stack (λ i p. Makes i p l.first_block after w (given (value s l w.memory) (λ v. given (truth w.memory v) (λ said. if said then m l w else n l w)))) d x end
      ended k (falls p) end after agrees same h = (made k d end after agrees same h.0, made k (d - 1) p after agrees same h.1)
      ended k (goes p) end after agrees same h = made k (d - 1) p after agrees same h

      answered :
          (b : Bool) (met unmet : Exit) (after : Environment) → Kept first_free env after → Agrees l after → (value s l w.memory >>= truth w.memory) ≡ Some b
          → GoesOn m d met (at + e.test_size (is_fall met) (is_fall unmet)) → GoesOn n d unmet (at + e.test_size (is_fall met) (is_fall unmet))
          → Goes u f code function stack (λ i p. Makes i p l.first_block after w (given (value s l w.memory) (λ v. given (truth w.memory v) (λ said. if said then m l w else n l w)))) d
          (by_answer u f code function stack b met unmet) (at + e.test_size (is_fall met) (is_fall unmet))
      answered true met unmet after kept agrees is met_goes unmet_goes = ended m met _ after agrees (result true is) met_goes
      answered false met unmet after kept agrees is met_goes unmet_goes = ended n unmet _ after agrees (result false is) unmet_goes

  -- an exit of a part that means only that
  way_goes :
      (n : Meaning) (way : Way) (d : ℕ) (x : Exits) (end : ℕ) (k : Continuations) → ((k : Continuations) → Alike (goes_to way k) (n k)) → AreReady d x end k
      → GoesOn (n k) d (exit_to way x) end
  way_goes n way d x end k same ready = goes_alike (goes_to way k) (n k) d (exit_to way x) end (same k) (exit_of way d x end k ready)

  -- a part that stands at this index, for an exit that falls into it
  falls_into :
      (m : Meaning) (p : Part) (d at : ℕ) (x : Exits) (k : Continuations) → PartReal m p → IsBounded d → HasAt code at (p.code x at)
      → AreReady d x (at + p.size (falls_of x)) k → GoesOn (m k) d (falls (p.entry at)) at
  falls_into m p d at x k h le has ready = (
    stands m p h d at x k le has ready,
    h.entered (d - 1) at x k (bounded_less (d - 1) d (omega arith) le) has (all_less (d - 1) d x _ k (omega arith) ready),
  )

  jumps_into :
      (m : Meaning) (p : Part) (d at other : ℕ) (x : Exits) (k : Continuations) → PartReal m p → IsBounded d → HasAt code at (p.code x at)
      → AreReady d x (at + p.size (falls_of x)) k → GoesOn (m k) d (goes (p.entry at)) other
  jumps_into m p d at other x k h le has ready =
      h.entered (d - 1) at x k (bounded_less (d - 1) d (omega arith) le) has (all_less (d - 1) d x _ k (omega arith) ready)

  pub ready_at : (d : ℕ) (x : Exits) (i j : ℕ) (k : Continuations) → i ≡ j → AreReady d x i k → AreReady d x j k
  ready_at d x i j k same h = subst (λ (n : ℕ). AreReady d x n k) same h

  elsewhere_ready : (d : ℕ) (x : Exits) (end other : ℕ) (k : Continuations) → AreReady d x end k → AreReady d (elsewhere x) other k
  elsewhere_ready d x end other k h = record {
    next = settled_goes k.next d x.next end other h.next;
    on_break = settled_goes k.on_break d x.on_break end other h.on_break;
    on_continue = settled_goes k.on_continue d x.on_continue end other h.on_continue;
    on_return = h.on_return;
  }

  -- the way of a part that only goes somewhere, where it is one
  abbrev pub WayIs : Option Way → Meaning → Type 0
  WayIs None m = Unit {0}
  WayIs (Some way) m = (k : Continuations) → Alike (goes_to way k) (m k)

  both_exits :
      (way : Way) (v : Way) (x : Exits) (e : ExprCode) → e.test_size (falls_to way (falls_of x)) (falls_to v (falls_of x)) ≡ e.test_size (is_fall (exit_to way x)) (is_fall (exit_to v x))
  both_exits to_next to_next x e = refl
  both_exits to_next to_break x e = refl
  both_exits to_next to_continue x e = refl
  both_exits to_break to_next x e = refl
  both_exits to_break to_break x e = refl
  both_exits to_break to_continue x e = refl
  both_exits to_continue to_next x e = refl
  both_exits to_continue to_break x e = refl
  both_exits to_continue to_continue x e = refl

  pub branch_real :
      (s : CoreExprTree) (e : ExprCode) (m n : Meaning) (v q : Option Way) (a b : Part) → Correct s e → PartReal m a → PartReal n b → PartSized a → WayIs v m → WayIs q n
      → PartReal (chosen s m n) (branch_part first_free e v q a b)
  branch_real s e m n (Some v) (Some q) a b h ha hb size is_v is_q = record { jumps = λ at x has. (0, refl); entered = there }
    where
      there :
          (d at : ℕ) (x : Exits) (k : Continuations) → IsBounded d → HasAt code at (e.test (exit_to v x) (exit_to q x) first_free at)
          → AreReady d x (at + e.test_size (falls_to v (falls_of x)) (falls_to q (falls_of x))) k → IsReady (chosen s m n k) d at
      there d at x k le has ready =
          let end : ℕ = at + e.test_size (is_fall (exit_to v x)) (is_fall (exit_to q x)) in
          let r = ready_at d x (at + e.test_size (falls_to v (falls_of x)) (falls_to q (falls_of x))) end k (ap (λ i. at + i) (both_exits v q x e)) ready in
          test_real s e (m k) (n k) d at (exit_to v x) (exit_to q x) h has (way_goes m v d x end k is_v r) (way_goes n q d x end k is_q r) k
  branch_real s e m n None (Some q) a b h ha hb size is_v is_q = record { jumps = λ at x has. (0, refl); entered = there }
    where
      there :
          (d at : ℕ) (x : Exits) (k : Continuations) → IsBounded d
          → HasAt code at (e.test (falls (a.entry (at + e.test_size true false))) (settled (exit_to q x)) first_free at ++ a.code x (at + e.test_size true false))
          → AreReady d x (at + (e.test_size true false + a.size (falls_of x))) k → IsReady (chosen s m n k) d at
      there d at x k le has ready =
          let n1 : ℕ = e.test_size true false in
          let moved = ready_at d x (at + (n1 + a.size (falls_of x))) (at + n1 + a.size (falls_of x)) k (omega arith) ready in
          test_real s e (m k) (n k) d at (falls (a.entry (at + n1))) (settled (exit_to q x)) h (has_left code at (e.test (falls (a.entry (at + n1))) (settled (exit_to q x)) first_free at) (a.code x (at + n1)) has)
          (falls_into m a d (at + n1) x k ha le (has_right code at n1 (e.test (falls (a.entry (at + n1))) (settled (exit_to q x)) first_free at) (a.code x (at + n1)) (h.sized.test (falls (a.entry (at + n1))) (settled (exit_to q x)) first_free at) has) moved)
          (settled_goes (n k) d (exit_to q x) (at + (n1 + a.size (falls_of x))) (at + n1) (way_goes n q d x (at + (n1 + a.size (falls_of x))) k is_q ready)) k
  branch_real s e m n (Some v) None a b h ha hb size is_v is_q = record { jumps = λ at x has. (0, refl); entered = there }
    where
      there :
          (d at : ℕ) (x : Exits) (k : Continuations) → IsBounded d
          → HasAt code at (e.test (settled (exit_to v x)) (falls (b.entry (at + e.test_size false true))) first_free at ++ b.code x (at + e.test_size false true))
          → AreReady d x (at + (e.test_size false true + b.size (falls_of x))) k → IsReady (chosen s m n k) d at
      there d at x k le has ready =
          let n1 : ℕ = e.test_size false true in
          let moved = ready_at d x (at + (n1 + b.size (falls_of x))) (at + n1 + b.size (falls_of x)) k (omega arith) ready in
          test_real s e (m k) (n k) d at (settled (exit_to v x)) (falls (b.entry (at + n1))) h (has_left code at (e.test (settled (exit_to v x)) (falls (b.entry (at + n1))) first_free at) (b.code x (at + n1)) has)
          (settled_goes (m k) d (exit_to v x) (at + (n1 + b.size (falls_of x))) (at + n1) (way_goes m v d x (at + (n1 + b.size (falls_of x))) k is_v ready))
          (falls_into n b d (at + n1) x k hb le (has_right code at n1 (e.test (settled (exit_to v x)) (falls (b.entry (at + n1))) first_free at) (b.code x (at + n1)) (h.sized.test (settled (exit_to v x)) (falls (b.entry (at + n1))) first_free at) has) moved) k
  branch_real s e m n None None a b h ha hb size is_v is_q = record { jumps = λ at x has. (0, refl); entered = there }
    where
      there :
          (d at : ℕ) (x : Exits) (k : Continuations) → IsBounded d
          → HasAt code at (e.test (falls (a.entry (at + e.test_size true false))) (goes (b.entry (at + e.test_size true false + a.size none_falls))) first_free at
          ++ (a.code (elsewhere x) (at + e.test_size true false) ++ b.code x (at + e.test_size true false + a.size none_falls)))
          → AreReady d x (at + (e.test_size true false + a.size none_falls + b.size (falls_of x))) k → IsReady (chosen s m n k) d at
      there d at x k le has ready =
          let n1 : ℕ = e.test_size true false in
          let n2 : ℕ = a.size none_falls in
          let test : List InstructionTree = e.test (falls (a.entry (at + n1))) (goes (b.entry (at + n1 + n2))) first_free at in
          let rest : List InstructionTree = a.code (elsewhere x) (at + n1) ++ b.code x (at + n1 + n2) in
          let behind = has_right code at n1 test rest (h.sized.test (falls (a.entry (at + n1))) (goes (b.entry (at + n1 + n2))) first_free at) has in
          let second = has_right code (at + n1) n2 (a.code (elsewhere x) (at + n1)) (b.code x (at + n1 + n2)) (size (elsewhere x) (at + n1)) behind in
          let moved = ready_at d x (at + (n1 + n2 + b.size (falls_of x))) (at + n1 + n2 + b.size (falls_of x)) k (omega arith) ready in
          test_real s e (m k) (n k) d at (falls (a.entry (at + n1))) (goes (b.entry (at + n1 + n2))) h (has_left code at test rest has)
          (falls_into m a d (at + n1) (elsewhere x) k ha le (has_left code (at + n1) (a.code (elsewhere x) (at + n1)) (b.code x (at + n1 + n2)) behind) (elsewhere_ready d x (at + (n1 + n2 + b.size (falls_of x))) (at + n1 + n2) k ready))
          (jumps_into n b d (at + n1 + n2) (at + n1) x k hb le second moved) k

  -- ---- loops

  abbrev pub looped : Meaning → Meaning → Meaning
  looped m n k l w = repeated c.turns (λ again. m (after_body k (n (after_step k again)))) l w

  -- so many turns
  abbrev pub turns_of : Meaning → Meaning → Continuations → ℕ → Continuation
  turns_of m n k i = repeated i (λ again. m (after_body k (n (after_step k again))))

  -- a state in which the code comes to an index
  record State : Type 0 where
    locals : Locals
    held : Environment
    world : World
    here : locals.first_block ≡ first
    agree : Agrees locals held

  -- all its turns, where one turn more makes its run once the code makes the others
  loop_ready :
      (m n : Meaning) (k : Continuations) (d at : ℕ) → IsBounded d
      → ((i j : ℕ) → j ≤ d → IsReady (turns_of m n k i) (j - 1) at → IsReady (turns_of m n k (suc i)) j at) → IsReady (turns_of m n k c.turns) d at
  loop_ready m n k d at bound turn l e w here agree =
      real_turns u.unit function at stack State (λ x. x.locals.first_block) (λ x. x.held) (λ x. x.world)
      (λ i x. turns_of m n k i x.locals x.world) (λ x. refl) u.tally u.suits c.turns depth d bound
      (λ i j less again x.
      turn i j less (λ l e w here agree. again (record { locals = l; held = e; world = w; here = here; agree = agree })) x.locals x.held x.world x.here x.agree)
      (record { locals = l; held = e; world = w; here = here; agree = agree })

  -- a turn of a body behind which is no step, before turns that its head makes
  alone_turn :
      (m n : Meaning) (body : Part) → PartReal m body → ((k : Continuations) → Alike k.next (n k)) → (at : ℕ) (x : Exits) (k : Continuations)
      → HasAt code at (body.code (last_exits (body.entry at) x.next) at)
      → (i d : ℕ) → IsBounded d → IsReady (turns_of m n k i) (d - 1) (body.entry at) → AreReady d x (at + body.size (last_falls (is_fall x.next))) k
      → IsReady (turns_of m n k (suc i)) d (body.entry at)
  alone_turn m n body h idle at x k has i d bound again ready =
      let next : IsReady (n (after_step k (turns_of m n k i))) (d - 1) (body.entry at) =
      ready_alike (turns_of m n k i) (n (after_step k (turns_of m n k i))) (d - 1) (body.entry at) (idle (after_step k (turns_of m n k i))) again in
      let inner : AreReady d (last_exits (body.entry at) x.next) (at + body.size (last_falls (is_fall x.next))) (after_body k (n (after_step k (turns_of m n k i)))) =
      record { next = next; on_break = ready.next; on_continue = next; on_return = ready.on_return } in
      h.entered d at _ _ bound has inner

  pub alone_real : (m n : Meaning) (body : Part) → PartReal m body → ((k : Continuations) → Alike k.next (n k)) → PartReal (looped m n) (body_alone body)
  alone_real m n body h idle = record {
    jumps = λ at x has. h.jumps at (last_exits (body.entry at) x.next) has;
    entered = λ d at x k le has ready.
        loop_ready m n k d (body.entry at) le
        (λ i j less again. alone_turn m n body h idle at x k has i j (bounded_less j d less le) again (all_less j d x _ k less ready));
  }

  -- a turn of a body, and behind it the step
  first_turn :
      (m n : Meaning) (body step : Part) → PartReal m body → PartReal n step → PartSized body → (at : ℕ) (x : Exits) (k : Continuations)
      → HasAt code at ((body_first body step).code x at)
      → (i d : ℕ) → IsBounded d → IsReady (turns_of m n k i) (d - 1) (body.entry at) → AreReady d x (at + (body_first body step).size (falls_of x)) k
      → IsReady (turns_of m n k (suc i)) d (body.entry at)
  first_turn m n body step h g size at x k has i d bound again ready =
      let second : ℕ = at + body.size body_falls in
      let there = has_right code at (body.size body_falls) (body.code (body_exits (step.entry second) x.next) at) _ (size _ at) has in
      let same : at + (body.size body_falls + step.size (last_falls (is_fall x.next))) ≡ second + step.size (last_falls (is_fall x.next)) = omega arith in
      let turn : Continuations = after_step k (turns_of m n k i) in
      let behind_step : AreReady d (last_exits (body.entry at) x.next) (second + step.size (last_falls (is_fall x.next))) turn =
      record { next = again; on_break = goes_at k.next d x.next _ _ same ready.next; on_continue = again; on_return = ready.on_return } in
      let into = falls_into n step d second (last_exits (body.entry at) x.next) turn g bound there behind_step in
      let inner : AreReady d (body_exits (step.entry second) x.next) second (after_body k (n turn)) =
      record { next = into; on_break = settled_goes k.next d x.next _ second ready.next; on_continue = into; on_return = ready.on_return } in
      h.entered d at _ _ bound (has_left code at _ _ has) inner

  pub first_real : (m n : Meaning) (body step : Part) → PartReal m body → PartReal n step → PartSized body → PartReal (looped m n) (body_first body step)
  first_real m n body step h g size = record {
    jumps = λ at x has. h.jumps at (body_exits (step.entry (at + body.size body_falls)) x.next) (has_left code at _ _ has);
    entered = λ d at x k le has ready.
        loop_ready m n k d (body.entry at) le
        (λ i j less again. first_turn m n body step h g size at x k has i j (bounded_less j d less le) again (all_less j d x _ k less ready));
  }

  -- a body that ends in a test: the rest, the step, what stands before the test, and the test
  module _ (s : CoreExprTree) (front rest n : Meaning) (t : Tested) (step : Part) (hf : PartReal front t.front) (ht : Correct s t.test) (hr : PartReal rest t.rest) (hs : PartReal n step) (sized : TestedSized t) (step_sized : PartSized step) where
    abbrev body_meaning : Meaning
    body_meaning k = front (with_next k (chosen s rest (λ j. j.on_break) k))

    abbrev head_at : (at : ℕ) → ℕ
    head_at at = t.front.entry (at + 1 + t.rest.size body_falls + step.size next_falls)

    last_turn :
        (at : ℕ) (x : Exits) (k : Continuations) → HasAt code at ((test_last first_free t step).code x at)
        → (i d : ℕ) → IsBounded d → IsReady (turns_of body_meaning n k i) (d - 1) (head_at at) → AreReady d x (at + (test_last first_free t step).size (falls_of x)) k
        → IsReady (turns_of body_meaning n k (suc i)) d (head_at at)
    last_turn at x k has i d bound once ready =
        let one : ℕ = at + 1 in
        let two : ℕ = one + t.rest.size body_falls in
        let three : ℕ = two + step.size next_falls in
        let last : ℕ = three + t.front.size next_falls in
        let head : ℕ = t.front.entry three in
        let again : ℕ = step.entry two in
        let rest_code : List InstructionTree = t.rest.code (body_exits again x.next) one in
        let step_code : List InstructionTree = step.code (step_exits (falls head) x.next) two in
        let front_code : List InstructionTree = t.front.code (front_exits (falls last) again x.next) three in
        let test_code : List InstructionTree = t.test.test (goes (t.rest.entry one)) x.next first_free last in
        let has_rest = has.1 in
        let has_step = has_right code one (t.rest.size body_falls) rest_code (step_code ++ (front_code ++ test_code)) (sized.rest _ one) has_rest in
        let has_front = has_right code two (step.size next_falls) step_code (front_code ++ test_code) (step_sized _ two) has_step in
        let has_test = has_right code three (t.front.size next_falls) front_code test_code (sized.front _ three) has_front in
        let end : ℕ = last + t.test.test_size false (is_fall x.next) in
        let same : at + (1 + t.rest.size body_falls + step.size next_falls + t.front.size next_falls + t.test.test_size false (is_fall x.next)) ≡ end = omega arith in
        let behind : AreReady d x end k = ready_at d x _ end k same ready in
        let fewer = bounded_less (d - 1) d (omega arith) bound in
        let jumps = hf.jumps three (front_exits (falls last) again x.next) (has_left code three front_code test_code has_front) in
        let turn : Continuations = after_step k (turns_of body_meaning n k i) in
        let body : Continuations = after_body k (n turn) in
        let after_rest : (y : ℕ) → y ≤ d - 1 → AreReady y (step_exits (falls head) x.next) three turn =
        λ y less. record {
          next = (
            ready_less (turns_of body_meaning n k i) y (d - 1) three less (ready_behind (turns_of body_meaning n k i) (d - 1) jumps.0 three head jumps.1 once),
            ready_less (turns_of body_meaning n k i) (y - 1) (d - 1) head (omega (arith, less)) once,
          );
          on_break = settled_goes k.next y x.next end three (goes_less k.next y d x.next end (omega (arith, less)) behind.next);
          on_continue = ready_less (turns_of body_meaning n k i) (y - 1) (d - 1) head (omega (arith, less)) once;
          on_return = (all_less y d x end k (omega (arith, less)) behind).on_return;
        } in
        let into_step : (y : ℕ) → y ≤ d - 1 → GoesOn (n turn) y (falls again) two =
        λ y less. falls_into n step y two (step_exits (falls head) x.next) turn hs (bounded_less y d (omega (arith, less)) bound)
        (has_left code two step_code (front_code ++ test_code) has_step) (after_rest y less) in
        let rest_ready : AreReady (d - 1) (body_exits again x.next) two body =
        record {
          next = into_step (d - 1) (omega arith);
          on_break = settled_goes k.next (d - 1) x.next end two (goes_less k.next (d - 1) d x.next end (omega arith) behind.next);
          on_continue = into_step (d - 1) (omega arith);
          on_return = (all_less (d - 1) d x end k (omega arith) behind).on_return;
        } in
        let repeats : IsReady (rest body) (d - 1) (t.rest.entry one) =
        hr.entered (d - 1) one (body_exits again x.next) body fewer (has_left code one rest_code (step_code ++ (front_code ++ test_code)) has_rest) rest_ready in
        let tests : (y : ℕ) → y ≤ d → IsReady (chosen s rest (λ j. j.on_break) body) y last =
        λ y less. test_real s t.test (rest body) k.next y last (goes (t.rest.entry one)) x.next ht has_test
        (ready_less (rest body) (y - 1) (d - 1) (t.rest.entry one) (omega (arith, less)) repeats)
        (goes_less k.next y d x.next end less behind.next) body in
        let front_ready : AreReady d (front_exits (falls last) again x.next) last (with_next body (chosen s rest (λ j. j.on_break) body)) =
        record {
          next = (tests d (omega arith), tests (d - 1) (omega arith));
          on_break = settled_goes k.next d x.next end last behind.next;
          on_continue = hs.entered (d - 1) two (step_exits (falls head) x.next) turn fewer (has_left code two step_code (front_code ++ test_code) has_step) (after_rest (d - 1) (omega arith));
          on_return = behind.on_return;
        } in
        hf.entered d three _ _ bound (has_left code three front_code test_code has_front) front_ready

    pub last_real : PartReal (looped body_meaning n) (test_last first_free t step)
    last_real = record {
      jumps = λ at x has. (1, (head_at at, has.0, refl));
      entered = λ d at x k le has ready.
          loop_ready body_meaning n k d (head_at at) le
          (λ i j less again. last_turn at x k has i j (bounded_less j d less le) again (all_less j d x _ k less ready));
    }
