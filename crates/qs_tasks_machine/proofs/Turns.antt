-- What comes before an instruction, turn by turn; and what a run keeps.
use Rattle.std.proofs.Common.{◌≡◌, ℕ, zero, suc, ◌+◌, ◌-◌, ◌≤◌, ◌<◌, Bool, true, false, List, [], ◌∷◌, ◌++◌, Option, Some, None, refl, sym, ap, ◌∙◌, subst, arith, add-zero, append_assoc}
use Rattle.std.specs.Prelude.{if◌then◌else◌, nat_le, ◌==◌, ◌%◌}
use Rattle.std.proofs.lemmas.List.{append-nil}
use Rattle.qs_machine.specs.declared.answers.Cause.TheVariants.{Overflow, JumpMisaligned}
use Rattle.qs_machine.specs.Step.{StepResult, Next, Exits, Traps, step}
use Rattle.qs_tasks_run.specs.Tasks.{Arrival}
use Rattle.qs_tasks_run.specs.Contexts.{Context, stack_pointer_of, taken_back}
use Rattle.qs_tasks_run.specs.TasksRun.{System, Put, Scene, Outcome, going, trapped, and_then, begun, is_full, begin, comes_first, wait, arrive, Choice, choice, start_waiting, with_return, left_by, is_off_stack, return_from, puts_by, new_output, seen_by, behind, stepped, instruct, instructed_by, instructed, arrival_due, due_by, due, or_here, settled, most_due, settle, run}
use Rattle.qs_tasks_run.proofs.Settling.{due_less, size_is, nothing_due}

-- of all bytes that were put, those that were put before
pub record AreGrown (before all : List Put) : Type 0 where
  pub more : List Put
  pub is : all ≡ before ++ more

grown_not : (puts all : List Put) → all ≡ puts → AreGrown puts all
grown_not puts all e = record { more = []; is = e ∙ sym (append-nil puts) }

grown_more : (a b c : List Put) → AreGrown a b → AreGrown b c → AreGrown a c
grown_more a b c f g = record { more = f.more ++ g.more; is = g.is ∙ ap (λ (l : List Put). l ++ g.more) f.is ∙ append_assoc a f.more g.more }

-- nothing waits where nothing runs
abbrev pub Rests : Scene → Type 0
Rests s = s.running ≡ [] → s.waiting ≡ []

-- no byte was put, no instruction taken
abbrev pub KeepsOn : (puts : List Put) (time : ℕ) → Outcome → Type 0
KeepsOn puts time (going s) = (s.progress.written ≡ puts) × (s.time ≡ time) × Rests s
KeepsOn puts time (trapped task cause pc p) = p.written ≡ puts

abbrev pub GrowsTo : (puts : List Put) → Outcome → Type 0
GrowsTo puts (going s) = AreGrown puts s.progress.written × Rests s
GrowsTo puts (trapped task cause pc p) = AreGrown puts p.written

module _ (y : System) where
  -- ---- fuel

  pub less : (s t : Scene) → due y s ≡ Some (going t) → most_due t < most_due s
  less s t e = due_less y s.running s.coming s refl refl (size_is y s.running s.coming s refl refl) (going t) e

  same_turn : (n : ℕ) (s : Scene) (o : Option Outcome) → due y s ≡ o → most_due s ≤ suc n → ((t : Scene) → most_due t ≤ n → settled y (suc n) t ≡ settled y n t) → or_here o s (settled y (suc n)) ≡ or_here o s (settled y n)
  same_turn n s None e le more = refl
  same_turn n s (Some (trapped task cause pc p)) e le more = refl
  same_turn n s (Some (going t)) e le more = let lt = less s t e in more t (omega (arith, lt, le))

  one_more : (n : ℕ) (s : Scene) → most_due s ≤ n → settled y (suc n) s ≡ settled y n s
  one_more zero s le = ap (λ (o : Option Outcome). or_here o s (settled y zero)) (nothing_due y s.running s.coming s refl refl le)
  one_more (suc n) s le = same_turn n s (due y s) refl le (one_more n)

  many_more : (k n : ℕ) (s : Scene) → most_due s ≤ n → settled y (n + k) s ≡ settled y n s
  many_more zero n s le = ap (λ (m : ℕ). settled y m s) (add-zero n)
  many_more (suc k) n s le =
      let e : n + suc k ≡ suc (n + k) = omega arith in
      ap (λ (m : ℕ). settled y m s) e ∙ one_more (n + k) s (omega (arith, le)) ∙ many_more k n s le

  enough : (n : ℕ) (s : Scene) → most_due s ≤ n → settled y n s ≡ settle y s
  enough n s le =
      let e : n ≡ most_due s + (n - most_due s) = omega (arith, le) in
      ap (λ (m : ℕ). settled y m s) e ∙ many_more (n - most_due s) (most_due s) s (omega arith)

  one_turn : (s : Scene) → settle y s ≡ or_here (due y s) s (settled y (most_due s))
  one_turn s = sym (enough (suc (most_due s)) s (omega arith))

  pub settle_none : (s : Scene) → due y s ≡ None → settle y s ≡ going s
  settle_none s e = one_turn s ∙ ap (λ (o : Option Outcome). or_here o s (settled y (most_due s))) e

  pub settle_turn : (s : Scene) (o : Outcome) → due y s ≡ Some o → settle y s ≡ and_then o (settle y)
  settle_turn s (trapped task cause pc p) e = one_turn s ∙ ap (λ (o : Option Outcome). or_here o s (settled y (most_due s))) e
  settle_turn s (going t) e =
      let lt = less s t e in
      one_turn s ∙ ap (λ (o : Option Outcome). or_here o s (settled y (most_due s))) e ∙ enough (most_due s) t (omega (arith, lt))

  -- ---- what a turn keeps

  begin_keeps : (task time : ℕ) (puts : List Put) (s : Scene) (b : Bool) → s.progress.written ≡ puts → s.time ≡ time → KeepsOn puts time (if b then trapped task Overflow s.context.pc s.progress else going (begun y task s))
  begin_keeps task time puts s true w t = w
  begin_keeps task time puts s false w t = (w, t, λ r. cc)

  runs_then : (running : List ℕ) (task : ℕ) → comes_first y task running ≡ false → running ≡ [] → ⊥
  runs_then [] task e r = cc
  runs_then (other ∷ running) task e r = cc

  arrive_keeps : (task time : ℕ) (puts : List Put) (s : Scene) → s.progress.written ≡ puts → s.time ≡ time → KeepsOn puts time (arrive y task s)
  arrive_keeps task time puts s w t = by (comes_first y task s.running) refl
    where
      by : (b : Bool) → comes_first y task s.running ≡ b → KeepsOn puts time (if b then begin y task s else going (wait task s))
      by true e = begin_keeps task time puts s (is_full y s) w t
      by false e = (w, t, λ r. absurd (runs_then s.running task e r))

  none_waits : (waiting : List ℕ) → choice y waiting ≡ None → waiting ≡ []
  none_waits [] e = refl
  none_waits (task ∷ waiting) e = cc

  start_keeps : (time : ℕ) (puts : List Put) (s : Scene) (o : Option Choice) → choice y s.waiting ≡ o → s.progress.written ≡ puts → s.time ≡ time → KeepsOn puts time (start_waiting y o s)
  start_keeps time puts s None e w t = (w, t, λ r. none_waits s.waiting e)
  start_keeps time puts s (Some c) e w t = by (comes_first y c.task s.running) refl
    where
      by : (b : Bool) → comes_first y c.task s.running ≡ b → KeepsOn puts time (if b then begin y c.task (record s { waiting = c.others }) else going s)
      by true f = begin_keeps c.task time puts (record s { waiting = c.others }) (is_full y (record s { waiting = c.others })) w t
      by false f = (w, t, λ r. absurd (runs_then s.running c.task f r))

  give_back_keeps : (task : ℕ) (running : List ℕ) (c : Context) (s : Scene) (off placed : Bool) → KeepsOn s.progress.written s.time (if off then trapped task Overflow 0 (with_return task s.progress) else if placed then start_waiting y (choice y s.waiting) (left_by task running c s) else trapped task JumpMisaligned 0 (with_return task s.progress))
  give_back_keeps task running c s true placed = refl
  give_back_keeps task running c s false true = start_keeps s.time s.progress.written (left_by task running c s) (choice y s.waiting) refl refl refl
  give_back_keeps task running c s false false = refl

  return_keeps : (task : ℕ) (running : List ℕ) (s : Scene) → KeepsOn s.progress.written s.time (return_from y task running s)
  return_keeps task running s =
      let c = taken_back s.progress.memory (stack_pointer_of s.context) in
      give_back_keeps task running c s (is_off_stack y s c) (c.pc % 4 == 0)

  come_keeps : (a : Arrival) (coming : List Arrival) (s : Scene) (x : Outcome) → Some (arrive y a.task (record s { coming = coming })) ≡ Some x → KeepsOn s.progress.written s.time x
  come_keeps a coming s x e = let same : arrive y a.task (record s { coming = coming }) ≡ x = cc in subst (KeepsOn s.progress.written s.time) same (arrive_keeps a.task s.time s.progress.written (record s { coming = coming }) refl refl)

  arrival_keeps : (coming : List Arrival) (s : Scene) (x : Outcome) → arrival_due y coming s ≡ Some x → KeepsOn s.progress.written s.time x
  arrival_keeps [] s x e = cc
  arrival_keeps (a ∷ coming) s x e = by (nat_le a.at s.time) e
    where
      by : (b : Bool) → (if b then Some (arrive y a.task (record s { coming = coming })) else None) ≡ Some x → KeepsOn s.progress.written s.time x
      by true z = come_keeps a coming s x z
      by false z = cc

  due_keeps : (running : List ℕ) (coming : List Arrival) (s : Scene) (x : Outcome) → due_by y running coming s ≡ Some x → KeepsOn s.progress.written s.time x
  due_keeps [] [] s x e = cc
  due_keeps [] (a ∷ coming) s x e = come_keeps a coming s x e
  due_keeps (task ∷ running) coming s x e = by (s.context.pc == 0) e
    where
      by : (b : Bool) → (if b then Some (return_from y task running s) else arrival_due y coming s) ≡ Some x → KeepsOn s.progress.written s.time x
      by true z = let same : return_from y task running s ≡ x = cc in subst (KeepsOn s.progress.written s.time) same (return_keeps task running s)
      by false z = arrival_keeps coming s x z

  keeps_along : (puts more : List Put) (time later : ℕ) (o : Outcome) → more ≡ puts → later ≡ time → KeepsOn more later o → KeepsOn puts time o
  keeps_along puts more time later (going s) e f k = (k.0 ∙ e, k.1 ∙ f, k.2)
  keeps_along puts more time later (trapped task cause pc p) e f k = k ∙ e

  turns_keep : (turns : ℕ) (s : Scene) (o : Option Outcome) → ((x : Outcome) → o ≡ Some x → KeepsOn s.progress.written s.time x) → ((t : Scene) → Rests t → KeepsOn t.progress.written t.time (settled y turns t)) → Rests s → KeepsOn s.progress.written s.time (or_here o s (settled y turns))
  turns_keep turns s None now more r = (refl, refl, r)
  turns_keep turns s (Some (trapped task cause pc p)) now more r = now (trapped task cause pc p) refl
  turns_keep turns s (Some (going t)) now more r =
      let k = now (going t) refl in
      keeps_along s.progress.written t.progress.written s.time t.time (settled y turns t) k.0 k.1 (more t k.2)

  settled_keeps : (turns : ℕ) (s : Scene) → Rests s → KeepsOn s.progress.written s.time (settled y turns s)
  settled_keeps zero s r = (refl, refl, r)
  settled_keeps (suc turns) s r = turns_keep turns s (due y s) (λ x e. due_keeps s.running s.coming s x e) (settled_keeps turns) r

  pub settle_keeps : (s : Scene) → Rests s → KeepsOn s.progress.written s.time (settle y s)
  settle_keeps s r = settled_keeps (most_due s) s r

  -- ---- what a run keeps

  keeps_grow : (puts : List Put) (time : ℕ) (o : Outcome) → KeepsOn puts time o → GrowsTo puts o
  keeps_grow puts time (going s) k = (grown_not puts s.progress.written k.0, k.2)
  keeps_grow puts time (trapped task cause pc p) k = grown_not puts p.written k

  then_grow : (puts : List Put) (o : Outcome) (next : Scene → Outcome) → GrowsTo puts o → ((t : Scene) → Rests t → GrowsTo t.progress.written (next t)) → GrowsTo puts (and_then o next)
  then_grow puts (going s) next g more = by (next s) (more s g.1)
    where
      by : (o : Outcome) → GrowsTo s.progress.written o → GrowsTo puts o
      by (going t) h = (grown_more puts s.progress.written t.progress.written g.0 h.0, h.1)
      by (trapped task cause pc p) h = grown_more puts s.progress.written p.written g.0 h
  then_grow puts (trapped task cause pc p) next g more = g

  stepped_grows : (task : ℕ) (s : Scene) (r : StepResult) → Rests s → GrowsTo s.progress.written (stepped task s r)
  stepped_grows task s (Next next) r = (record { more = puts_by task (new_output (seen_by task s.context s.progress) next); is = refl }, r)
  stepped_grows task s (Exits status) r = grown_not s.progress.written s.progress.written refl
  stepped_grows task s (Traps cause) r = grown_not s.progress.written s.progress.written refl

  instructed_grows : (running : List ℕ) (s : Scene) → Rests s → GrowsTo s.progress.written (instructed_by y running s)
  instructed_grows [] s r = (grown_not s.progress.written s.progress.written refl, r)
  instructed_grows (task ∷ running) s r = stepped_grows task s (step y.image y.size (seen_by task s.context s.progress)) r

  pub run_grows : (n : ℕ) (s : Scene) → Rests s → GrowsTo s.progress.written (run y n s)
  run_grows zero s r = keeps_grow s.progress.written s.time (settle y s) (settle_keeps s r)
  run_grows (suc n) s r =
      then_grow s.progress.written (and_then (settle y s) (instructed y)) (run y n)
      (then_grow s.progress.written (settle y s) (instructed y) (keeps_grow s.progress.written s.time (settle y s) (settle_keeps s r)) (λ t q. instructed_grows t.running t q))
      (run_grows n)

  rests_stepped : (task : ℕ) (s t : Scene) (r : StepResult) → stepped task s r ≡ going t → Rests s → Rests t
  rests_stepped task s t (Next next) e r = let same : behind task next s ≡ t = cc in subst Rests same r
  rests_stepped task s t (Exits status) e r = cc
  rests_stepped task s t (Traps cause) e r = cc

  pub instruct_rests : (task : ℕ) (s t : Scene) → instruct y task s ≡ going t → Rests s → Rests t
  instruct_rests task s t e r = rests_stepped task s t (step y.image y.size (seen_by task s.context s.progress)) e r

  -- ---- the end

  none_comes : (coming : List Arrival) (s : Scene) → due_by y [] coming s ≡ None → coming ≡ []
  none_comes [] s e = refl
  none_comes (a ∷ coming) s e = cc

  pub all_came : (s : Scene) → due y s ≡ None → s.running ≡ [] → s.coming ≡ []
  all_came s e r = none_comes s.coming s (ap (λ (l : List ℕ). due_by y l s.coming s) (sym r) ∙ e)

  pub nothing_more : (n : ℕ) (s : Scene) → due y s ≡ None → s.running ≡ [] → run y n s ≡ going s
  nothing_more zero s e r = settle_none s e
  nothing_more (suc n) s e r =
      ap (λ (o : Outcome). and_then (and_then o (instructed y)) (run y n)) (settle_none s e)
      ∙ ap (λ (l : List ℕ). and_then (instructed_by y l s) (run y n)) r
      ∙ nothing_more n s e r
