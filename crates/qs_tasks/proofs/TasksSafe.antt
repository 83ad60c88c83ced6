-- Tasks on one stack: no trap, and of each task no other output than that of its activations alone.
use Rattle.std.proofs.Common.{◌≡◌, ⊎_elim, ℕ, zero, suc, ◌+◌, ◌^◌, ◌≤◌, ◌<◌, Bool, true, false, List, [], ◌∷◌, length, All, Option, Some, None, refl, sym, ap, ◌∙◌, subst, arith}
use Rattle.std.specs.Prelude.{nat_le, ◌==◌, ◌&&◌, if◌then◌else◌}
use Rattle.std.proofs.lemmas.Bool.{and_parts, cases_eq}
use Rattle.std.proofs.lemmas.Bool.Decides.{nat_tests}
use Rattle.std.proofs.lemmas.List.Elements.{All-head, All-tail}
use Rattle.qs_isa.specs.Registers.{sp}
use Rattle.qs_machine.specs.State.{stack_top}
use Rattle.qs_machine.specs.Laws.{IsProper}
use Rattle.qs_tasks_run.specs.Tasks.{Arrival}
use Rattle.qs_tasks_run.specs.TasksRun.{no_task, task_at, priority_of, bytes_by, Scene, Outcome, going, and_then, arrive, return_from, arrival_due, due_by, due, or_here, settled, most_due, settle, instructed_by, instructed, run, start_context, start_progress, start, is_over}
use Rattle.qs_tasks_run.specs.StackSize.{levels_below}
use Rattle.qs_tasks_run.proofs.Settling.{settle_settles}
use Rattle.qs_tasks.specs.Alone.{Program, none_yet}
use Rattle.qs_tasks.specs.Safe.{one_of, arrivals_of, bound_of, GaveSoFar, IsSafe, TasksAreSafe}
use Rattle.qs_tasks.proofs.Setting.{IsWork, HasRoom}
use Rattle.qs_tasks.proofs.Resting.{rests_first}
use Rattle.qs_tasks.proofs.SceneLaws.{count, used, IsFineScene, GoesFine, fine_here, value_elsewhere, IsFine, fine_gave}
use Rattle.qs_tasks.proofs.Beginnings.{arrives_fine}
use Rattle.qs_tasks.proofs.Returning.{returns_fine}
use Rattle.qs_tasks.proofs.Instructing.{instructs_fine}
use Rattle.qs_tasks.proofs.LevelLaws.{level_fits, levels_grow, levels_fit, same_priority, same_count}

module _ (p : Program) (bound times below : ℕ → ℕ) (works : IsWork p bound times) (fits : HasRoom p bound times below) where
  -- the first of those to come, which comes now
  comes_now : (a : Arrival) (coming : List Arrival) (s : Scene) → s.coming ≡ a ∷ coming → IsFineScene p bound times below s → GoesFine p bound times below (arrive p.system a.task (record s { coming = coming }))
  comes_now a coming s e f = arrives_fine p bound times below works fits a.task (record s { coming = coming }) f.fine (λ other.
      let c = f.counted other in
      let q : arrivals_of s.coming other ≡ one_of a.task other + arrivals_of coming other = ap (λ (l : List Arrival). arrivals_of l other) e in
      omega (arith, c, q))

  arrival_fine : (coming : List Arrival) (s : Scene) → s.coming ≡ coming → IsFineScene p bound times below s → (x : Outcome) → arrival_due p.system coming s ≡ Some x → GoesFine p bound times below x
  arrival_fine [] s c f x e = cc
  arrival_fine (a ∷ coming) s c f x e = by (nat_le a.at s.time) e
    where
      by : (b : Bool) → (if b then Some (arrive p.system a.task (record s { coming = coming })) else None) ≡ Some x → GoesFine p bound times below x
      by true z = let same : arrive p.system a.task (record s { coming = coming }) ≡ x = cc in subst (GoesFine p bound times below) same (comes_now a coming s c f)
      by false z = cc

  due_fine : (running : List ℕ) (coming : List Arrival) (s : Scene) → s.running ≡ running → s.coming ≡ coming → IsFineScene p bound times below s → (x : Outcome) → due_by p.system running coming s ≡ Some x → GoesFine p bound times below x
  due_fine [] [] s r c f x e = cc
  due_fine [] (a ∷ coming) s r c f x e = let same : arrive p.system a.task (record s { coming = coming }) ≡ x = cc in subst (GoesFine p bound times below) same (comes_now a coming s c f)
  due_fine (task ∷ running) coming s r c f x e = by (s.context.pc == 0) refl e
    where
      there : IsFine p bound times below (task ∷ running) s.context s.progress
      there = subst (λ (l : List ℕ). IsFine p bound times below l s.context s.progress) r f.fine

      counted : (other : ℕ) → s.progress.returned other + ((one_of task other + count other running) + (count other s.waiting + arrivals_of s.coming other)) ≡ times other
      counted other = subst (λ (l : List ℕ). s.progress.returned other + (count other l + (count other s.waiting + arrivals_of s.coming other)) ≡ times other) r (f.counted other)

      by : (b : Bool) → (s.context.pc == 0) ≡ b → (if b then Some (return_from p.system task running s) else arrival_due p.system coming s) ≡ Some x → GoesFine p bound times below x
      by true t z =
          let same : return_from p.system task running s ≡ x = cc in
          let pc : s.context.pc ≡ 0 = grind (arith, nat_tests, t) in
          subst (GoesFine p bound times below) same (returns_fine p bound times below works fits task running s there counted pc)
      by false t z = arrival_fine coming s c f x z

  then_fine : (o : Outcome) (next : Scene → Outcome) → GoesFine p bound times below o → ((s : Scene) → o ≡ going s → IsFineScene p bound times below s → GoesFine p bound times below (next s)) → GoesFine p bound times below (and_then o next)
  then_fine o next (v, e, q) more = subst (λ (x : Outcome). GoesFine p bound times below (and_then x next)) (sym e) (more v e q)

  abbrev SettlesFine : (turns : ℕ) → Type 0
  SettlesFine turns = (s : Scene) → IsFineScene p bound times below s → GoesFine p bound times below (settled p.system turns s)

  settles : (turns : ℕ) → SettlesFine turns → (s : Scene) → IsFineScene p bound times below s → (o : Option Outcome) → due p.system s ≡ o → GoesFine p bound times below (or_here o s (settled p.system turns))
  settles turns more s f None e = fine_here p bound times below s f
  settles turns more s f (Some x) e = then_fine x (settled p.system turns) (due_fine s.running s.coming s refl refl f x e) (λ v q g. more v g)

  pub settled_fine : (turns : ℕ) → SettlesFine turns
  settled_fine zero s f = fine_here p bound times below s f
  settled_fine (suc turns) s f = settles turns (settled_fine turns) s f (due p.system s) refl

  -- an activation that runs has not returned where nothing is due
  not_back : (task : ℕ) (running : List ℕ) (s : Scene) → s.running ≡ task ∷ running → due p.system s ≡ None → s.context.pc ≡ 0 → ⊥
  not_back task running s r none pc =
      let t : (s.context.pc == 0) ≡ true = grind (arith, nat_tests, pc) in
      let is : due p.system s ≡ Some (return_from p.system task running s) = ap (λ (l : List ℕ). due_by p.system l s.coming s) r ∙ ap (λ (b : Bool). if b then Some (return_from p.system task running s) else arrival_due p.system s.coming s) t in
      let z = sym is ∙ none in
      cc

  instructed_fine : (running : List ℕ) (s : Scene) → s.running ≡ running → IsFineScene p bound times below s → due p.system s ≡ None → GoesFine p bound times below (instructed_by p.system running s)
  instructed_fine [] s r f none = fine_here p bound times below s f
  instructed_fine (task ∷ running) s r f none = instructs_fine p bound times below works fits task running s (subst (λ (l : List ℕ). IsFine p bound times below l s.context s.progress) r f.fine) f.counted (not_back task running s r none) r

  settle_fine : (s : Scene) → IsFineScene p bound times below s → GoesFine p bound times below (settle p.system s)
  settle_fine s f = settled_fine (most_due s) s f

  pub run_fine : (instructions : ℕ) (s : Scene) → IsFineScene p bound times below s → GoesFine p bound times below (run p.system instructions s)
  run_fine zero s f = settle_fine s f
  run_fine (suc instructions) s f =
      then_fine (and_then (settle p.system s) (instructed p.system)) (run p.system instructions)
      (then_fine (settle p.system s) (instructed p.system) (settle_fine s f) (λ v e q. instructed_fine v.running v refl q (settle_settles p.system s v e)))
      (λ v e q. run_fine instructions v q)

  -- ---- the start

  start_words : (r : ℕ) (b : Bool) → (if b then stack_top else 0) < 2 ^ 32
  start_words r true = omega arith
  start_words r false = omega arith

  start_proper : IsProper start_context.pc start_context.registers
  start_proper = record {
    aligned = refl;
    small = omega arith;
    words = λ r. start_words r (r == sp);
    x0_is_0 = refl;
    no_more = λ r le. value_elsewhere (λ (r : ℕ). 0) sp stack_top r (λ e. omega (arith, e, le));
  }

  start_stands : IsFine p bound times below [] start_context (start_progress p.system)
  start_stands = record {
    bytes = works.tasks.emitted.begins.bytes;
    inputs = λ task known. works.tasks.inputs task no_task known;
    stack = record { proper = start_proper; pc = refl; x2 = refl };
    rest = λ task known out. record { world = record { memory = p.memory_of task; input = (task_at p.system.tasks task).input }; rests = rests_first p task works.tasks works.most known; input = refl; alone = none_yet };
  }

  -- ---- a run that is over

  none_counted : (task : ℕ) (others : List ℕ) → length others ≡ 0 → count task others ≡ 0
  none_counted task [] e = refl
  none_counted task (other ∷ others) e = absurd (omega (arith, e))

  none_arrive : (task : ℕ) (arrivals : List Arrival) → length arrivals ≡ 0 → arrivals_of arrivals task ≡ 0
  none_arrive task [] e = refl
  none_arrive task (a ∷ arrivals) e = absurd (omega (arith, e))

  -- each arrival is one that has returned
  returned_all : (s : Scene) → is_over s ≡ true → (task : ℕ) → used task s ≡ times task → s.progress.returned task ≡ times task
  returned_all s over task counted =
      let q = and_parts (length s.running == 0) (length s.waiting == 0 && length s.coming == 0) over in
      let r = and_parts (length s.waiting == 0) (length s.coming == 0) q.1 in
      let a = q.0 in
      let b = r.0 in
      let c = r.1 in
      let none = none_counted task s.running (grind (arith, nat_tests, a)) in
      let nothing = none_counted task s.waiting (grind (arith, nat_tests, b)) in
      let no_more = none_arrive task s.coming (grind (arith, nat_tests, c)) in
      omega (arith, counted, none, nothing, no_more)

  pub safe : (arrivals : List Arrival) (instructions : ℕ) → ((task : ℕ) → arrivals_of arrivals task ≡ times task) → IsSafe p arrivals instructions
  safe arrivals instructions same =
      let r = run_fine instructions (start p.system arrivals) (record { fine = start_stands; counted = λ task. let c = same task in omega (arith, c) }) in
      let s = r.0 in
      record {
        scene = s;
        goes = r.1;
        gave = λ task known.
            let c = r.2.counted task in
            subst (λ (n : ℕ). GaveSoFar p task n (s.progress.returned task) (bytes_by task s.progress.written)) (sym (same task)) (fine_gave p bound times below works fits s.running s.context s.progress r.2.fine task known (omega (arith, c)));
        all = λ over task. returned_all s over task (r.2.counted task) ∙ sym (same task);
      }

-- ---- what is asked of tasks

pub arrives_known : (arrivals : List Arrival) (n task : ℕ) → All (λ (a : Arrival). a.task < n) arrivals → 0 < arrivals_of arrivals task → task < n
arrives_known [] n task all lt = absurd (omega (arith, lt))
arrives_known (a ∷ arrivals) n task all lt = ⊎_elim same (different (λ some. arrives_known arrivals n task (All-tail (λ (b : Arrival). b.task < n) a arrivals all) some)) (cases_eq a.task task)
  where
    same : a.task ≡ task → task < n
    same e = let first = All-head (λ (b : Arrival). b.task < n) a arrivals all in omega (arith, e, first)

    different : (0 < arrivals_of arrivals task → task < n) → (a.task ≡ task → ⊥) → task < n
    different later ne =
        let t : (a.task == task) ≡ false = grind (arith, nat_tests, ne) in
        let none : one_of a.task task ≡ 0 = rw t refl in
        later (omega (arith, lt, none))

pub tasks_are_safe : TasksAreSafe
tasks_are_safe p claims arrivals instructions are may =
    safe p (bound_of claims) (arrivals_of arrivals) (levels_below claims) works fits arrivals instructions (λ task. refl)
  where
    known : (task : ℕ) → 0 < arrivals_of arrivals task → task < length p.system.tasks
    known task lt = arrives_known arrivals (length p.system.tasks) task may.arrive lt

    works : IsWork p (bound_of claims) (arrivals_of arrivals)
    works = record { tasks = are; known = known; alone = may.defined; most = may.most }

    fits : HasRoom p (bound_of claims) (arrivals_of arrivals) (levels_below claims)
    fits = record {
      level = λ task lt.
          let n = same_count claims p.system.tasks may.priorities in
          let k = known task lt in
          let same = same_priority claims p.system.tasks may.priorities task in
          let room = level_fits claims task (omega (arith, n, k)) in
          subst (λ (q : ℕ). levels_below claims q + (bound_of claims task + 128) ≤ levels_below claims (q + 1)) same room;
      grows = levels_grow claims;
      fits = λ task lt.
          let low = may.low_priorities task no_task (known task lt) in
          let all = levels_fit claims (priority_of p.system task + 1) (omega (arith, low)) in
          let enough = may.enough in
          let most = may.most in
          omega (arith, all, enough, most);
    }
