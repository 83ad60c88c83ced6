-- What comes before an instruction comes to its end: then nothing is due.
use Rattle.std.proofs.Common.{◌≡◌, ℕ, zero, suc, ◌+◌, ◌*◌, ◌≤◌, ◌<◌, Bool, true, false, List, [], ◌∷◌, length, Option, Some, None, refl, sym, ap, subst, arith, length-append}
use Rattle.std.specs.Prelude.{nat_lt, nat_le, ◌==◌, ◌%◌, if◌then◌else◌}
use Rattle.qs_machine.specs.declared.answers.Cause.TheVariants.{Overflow, JumpMisaligned}
use Rattle.qs_tasks_run.specs.Tasks.{Arrival}
use Rattle.qs_tasks_run.specs.Contexts.{Context, stack_pointer_of, taken_back}
use Rattle.qs_tasks_run.specs.TasksRun.{System, priority_of, Scene, Outcome, going, trapped, begun, is_full, begin, comes_first, wait, arrive, Choice, chosen_among, choice, start_waiting, with_return, left_by, is_off_stack, return_from, arrival_due, due_by, due, or_here, settled, most_due, settle}

module _ (y : System) where
  -- less is due
  abbrev pub IsLess : (bound : ℕ) → Outcome → Type 0
  IsLess bound (going s) = most_due s < bound
  IsLess bound (trapped task cause pc p) = Unit {0}

  begin_less : (task bound : ℕ) (s : Scene) (b : Bool) → most_due s + 1 < bound → IsLess bound (if b then trapped task Overflow s.context.pc s.progress else going (begun y task s))
  begin_less task bound s true lt = tt
  begin_less task bound s false lt = omega (arith, lt)

  arrive_less : (task bound : ℕ) (s : Scene) (b : Bool) → most_due s + 2 < bound → IsLess bound (if b then begin y task s else going (wait task s))
  arrive_less task bound s true lt = begin_less task bound s (is_full y s) (omega (arith, lt))
  arrive_less task bound s false lt = let len = length-append s.waiting (task ∷ []) in omega (arith, lt, len)

  chosen_length : (task : ℕ) (waiting : List ℕ) (c : Choice) (b : Bool) → length c.others + 1 ≡ length waiting → length (if b then (let q : Choice = record { task = c.task; others = task ∷ c.others } in q) else (let q : Choice = record { task = task; others = waiting } in q)).others ≡ length waiting
  chosen_length task waiting c true e = omega (arith, e)
  chosen_length task waiting c false e = refl

  choice_length : (waiting : List ℕ) (c : Choice) → choice y waiting ≡ Some c → length c.others + 1 ≡ length waiting
  choice_length [] c e = cc
  choice_length (task ∷ waiting) c e = by (choice y waiting) (λ r z. choice_length waiting r z) e
    where
      by : (x : Option Choice) → ((r : Choice) → x ≡ Some r → length r.others + 1 ≡ length waiting) → Some (chosen_among y task waiting x) ≡ Some c → length c.others + 1 ≡ suc (length waiting)
      by None more z = let same : chosen_among y task waiting None ≡ c = cc in subst (λ (q : Choice). length q.others + 1 ≡ suc (length waiting)) same (omega arith)
      by (Some r) more z =
          let same : chosen_among y task waiting (Some r) ≡ c = cc in
          let len = chosen_length task waiting r (nat_lt (priority_of y task) (priority_of y r.task)) (more r refl) in
          subst (λ (q : Choice). length q.others + 1 ≡ suc (length waiting)) same (omega (arith, len))

  start_less : (o : Option Choice) (bound : ℕ) (s : Scene) → choice y s.waiting ≡ o → most_due s < bound → IsLess bound (start_waiting y o s)
  start_less None bound s e lt = lt
  start_less (Some c) bound s e lt = by (comes_first y c.task s.running)
    where
      by : (b : Bool) → IsLess bound (if b then begin y c.task (record s { waiting = c.others }) else going s)
      by true = let len = choice_length s.waiting c e in begin_less c.task bound (record s { waiting = c.others }) (is_full y (record s { waiting = c.others })) (omega (arith, lt, len))
      by false = lt

  give_back_less : (task : ℕ) (running : List ℕ) (c : Context) (s : Scene) (bound : ℕ) (off placed : Bool) → most_due (left_by task running c s) < bound → IsLess bound (if off then trapped task Overflow 0 (with_return task s.progress) else if placed then start_waiting y (choice y s.waiting) (left_by task running c s) else trapped task JumpMisaligned 0 (with_return task s.progress))
  give_back_less task running c s bound true placed lt = tt
  give_back_less task running c s bound false true lt = start_less (choice y s.waiting) bound (left_by task running c s) refl lt
  give_back_less task running c s bound false false lt = tt

  return_less : (task : ℕ) (running : List ℕ) (s : Scene) (bound : ℕ) → 3 * length s.coming + 2 * length s.waiting + length running < bound → IsLess bound (return_from y task running s)
  return_less task running s bound lt =
      let c = taken_back s.progress.memory (stack_pointer_of s.context) in
      give_back_less task running c s bound (is_off_stack y s c) (c.pc % 4 == 0) lt

  abbrev IsSize : Scene → (running : List ℕ) (coming : List Arrival) → Type 0
  IsSize s running coming = most_due s ≡ 3 * length coming + 2 * length s.waiting + length running

  come_less : (a : Arrival) (coming : List Arrival) (running : List ℕ) (s : Scene) → s.running ≡ running → IsSize s running (a ∷ coming) → IsLess (most_due s) (arrive y a.task (record s { coming = coming }))
  come_less a coming running s r size = let len = ap length r in arrive_less a.task (most_due s) (record s { coming = coming }) (comes_first y a.task s.running) (omega (arith, size, len))

  arrival_less : (coming : List Arrival) (running : List ℕ) (s : Scene) → s.running ≡ running → IsSize s running coming → (x : Outcome) → arrival_due y coming s ≡ Some x → IsLess (most_due s) x
  arrival_less [] running s r size x e = cc
  arrival_less (a ∷ coming) running s r size x e = by (nat_le a.at s.time) e
    where
      by : (b : Bool) → (if b then Some (arrive y a.task (record s { coming = coming })) else None) ≡ Some x → IsLess (most_due s) x
      by true z = let same : arrive y a.task (record s { coming = coming }) ≡ x = cc in subst (IsLess (most_due s)) same (come_less a coming running s r size)
      by false z = cc

  pub due_less : (running : List ℕ) (coming : List Arrival) (s : Scene) → s.running ≡ running → s.coming ≡ coming → IsSize s running coming → (x : Outcome) → due_by y running coming s ≡ Some x → IsLess (most_due s) x
  due_less [] [] s r k size x e = cc
  due_less [] (a ∷ coming) s r k size x e = let same : arrive y a.task (record s { coming = coming }) ≡ x = cc in subst (IsLess (most_due s)) same (come_less a coming [] s r size)
  due_less (task ∷ running) coming s r k size x e = by (s.context.pc == 0) e
    where
      by : (b : Bool) → (if b then Some (return_from y task running s) else arrival_due y coming s) ≡ Some x → IsLess (most_due s) x
      by true z = let same : return_from y task running s ≡ x = cc in let len = ap length r in let more = ap length k in subst (IsLess (most_due s)) same (return_less task running s (most_due s) (omega (arith, len, more, size)))
      by false z = arrival_less coming (task ∷ running) s r size x z

  pub size_is : (running : List ℕ) (coming : List Arrival) (s : Scene) → s.running ≡ running → s.coming ≡ coming → IsSize s running coming
  size_is running coming s r k = let len = ap length r in let more = ap length k in omega (arith, len, more)

  -- nothing is due where a run has settled
  abbrev pub IsSettled : Outcome → Type 0
  IsSettled o = (v : Scene) → o ≡ going v → due y v ≡ None

  settles_on : (turns : ℕ) → ((s : Scene) → most_due s ≤ turns → IsSettled (settled y turns s)) → (s : Scene) → most_due s ≤ suc turns → (o : Option Outcome) → due y s ≡ o → IsSettled (or_here o s (settled y turns))
  settles_on turns more s le None e v q = let same : s ≡ v = cc in subst (λ (x : Scene). due y x ≡ None) same e
  settles_on turns more s le (Some (trapped task cause pc p)) e v q = cc
  settles_on turns more s le (Some (going t)) e v q = let lt : most_due t < most_due s = due_less s.running s.coming s refl refl (size_is s.running s.coming s refl refl) (going t) e in more t (omega (arith, lt, le)) v q

  pub nothing_due : (running : List ℕ) (coming : List Arrival) (s : Scene) → s.running ≡ running → s.coming ≡ coming → most_due s ≤ 0 → due y s ≡ None
  nothing_due [] [] s r c le =
      let none : due_by y [] [] s ≡ None = refl in
      subst (λ (l : List ℕ). due_by y l s.coming s ≡ None) (sym r) (subst (λ (l : List Arrival). due_by y [] l s ≡ None) (sym c) none)
  nothing_due (task ∷ running) coming s r c le = let len = ap length r in absurd (omega (arith, le, len))
  nothing_due [] (a ∷ coming) s r c le = let len = ap length c in absurd (omega (arith, le, len))

  here_settled : (s : Scene) → most_due s ≤ 0 → IsSettled (going s)
  here_settled s le v e = let same : s ≡ v = cc in subst (λ (x : Scene). due y x ≡ None) same (nothing_due s.running s.coming s refl refl le)

  -- what is settled within as many turns as there can be leaves nothing due
  pub settles : (turns : ℕ) (s : Scene) → most_due s ≤ turns → IsSettled (settled y turns s)
  settles zero s le = here_settled s le
  settles (suc turns) s le = settles_on turns (settles turns) s le (due y s) refl

  pub settle_settles : (s : Scene) → IsSettled (settle y s)
  settle_settles s = settles (most_due s) s (omega arith)
