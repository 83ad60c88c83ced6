-- What comes before an instruction, on the hart in code as by the definition.
use Rattle.std.proofs.Common.{◌≡◌, ◌⊎◌, inl, inr, ℕ, suc, ◌+◌, ◌-◌, ◌%◌, ◌≤◌, ◌<◌, Bool, true, false, List, [], ◌∷◌, ◌++◌, length, map, take, drop, get_or, set, All, Option, Some, None, Result, Ok, Err, refl, sym, ap, ◌∙◌, subst, arith}
use Rattle.std.specs.Prelude.{if◌then◌else◌, nat_lt, nat_le, ◌&&◌, ◌||◌, ◌==◌, not, slice_index, slice_set, vec_capacity}
use Rattle.std.specs.List.{remove}
use Rattle.std.proofs.Math.Path.{fun_ext}
use Rattle.std.proofs.lemmas.Bool.{and_parts, cases_eq, eqb-true}
use Rattle.std.proofs.lemmas.Bool.Decides.{nat_tests}
use Rattle.std.proofs.lemmas.List.{length-map, get_or-set_same, get_or-set_other, length-set, drop_more, drop_all}
use Rattle.std.proofs.lemmas.List.Elements.{All-same, All-cons, All-push, All-append, All-take, All-drop, All-get_or}
use Rattle.qs_isa.specs.Registers.{ra, sp}
use Rattle.qs_machine.specs.declared.answers.Cause.TheVariants.{Overflow, JumpMisaligned}
use Rattle.qs_machine.specs.State.{stack_base, stack_top}
use Rattle.qs_machine.specs.Parts.{pc_of, registers_in, memory_in, Changes}
use Rattle.qs_tasks_run.specs.declared.tasks.Arrival.{Arrival as DeclaredArrival}
use Rattle.qs_tasks_run.specs.Tasks.{Task, Arrival, task_of, arrival_of}
use Rattle.qs_tasks_run.specs.Contexts.{Context, context_bytes, stored, taken_back}
use Rattle.qs_tasks_run.specs.TasksRun.{System, task_at, priority_of, Put, Progress, Scene, Outcome, going, trapped, and_then, entered, begun, begin, comes_first, wait, arrive, Choice, chosen_among, choice, start_waiting, one_more, with_return, left_by, is_off_stack, return_from, due_by, due, settle}
use Rattle.qs_tasks_machine.specs.declared.hart.Hart.{Hart}
use Rattle.qs_tasks_machine.specs.declared.hart.Trap.{Trap}
use Rattle.qs_tasks_machine.specs.Harts.{context_in, stack_pointer_in, HasStackFrom, entering, taking_back, count_of, progress_in, scene_of, RunsTasks, ahead, HasRoom, IsOutcome, Follows, HasActed, left, has_returned, is_due}
use Rattle.qs_tasks_machine.proofs.Changes.{registers_then, memory_then, context_then}
use Rattle.qs_tasks_machine.proofs.Turns.{less, settle_none, settle_turn}

-- ---- room

pub room_for : (h k : Hart) (more less : ℕ) → HasRoom h more → count_of k ≡ count_of h → ahead k + less ≤ ahead h + more → vec_capacity h.running ≤ vec_capacity k.running → vec_capacity h.waiting ≤ vec_capacity k.waiting → ((task : ℕ) → task < count_of h → slice_index k.returned.items task + (ahead k + less) ≤ slice_index h.returned.items task + (ahead h + more)) → HasRoom k less
room_for h k more less room count fewer run wait each = record {
  running = let a = room.running in omega (arith, a, fewer, run);
  waiting = let a = room.waiting in omega (arith, a, fewer, wait);
  returned = λ task lt. let within : task < count_of h = omega (arith, lt, count) in let a = room.returned task within in let b = each task within in omega (arith, a, b);
}

-- ---- the scene, by its parts

abbrev scene : Context → (memory : ℕ → ℕ) → (inputs : ℕ → List ℕ) → List Put → (returned : ℕ → ℕ) → (running waiting : List ℕ) → List Arrival → (time : ℕ) → Scene
scene context memory inputs puts returned running waiting coming time = record {
  context = context;
  progress = record { memory = memory; inputs = inputs; written = puts; returned = returned };
  running = running;
  waiting = waiting;
  coming = coming;
  time = time;
}

pub follows_as : (y : System) (puts : List Put) (o p : Outcome) (k : Hart) (result : Result Unit Trap) → o ≡ p → Follows y puts p k result → Follows y puts o k result
follows_as y puts o p k result e f = record { tasks = f.tasks; outcome = subst (λ (x : Outcome). IsOutcome y puts x k result) (sym e) f.outcome }

not_2 : (r : ℕ) → 32 ≤ r → (r == sp) ≡ false
not_2 r le = grind (arith, nat_tests, le)

not_1 : (r : ℕ) → 32 ≤ r → (r == ra) ≡ false
not_1 r le = grind (arith, nat_tests, le)

is_low : (a b c : ℕ) → a < b + context_bytes → b ≡ c → nat_lt a (c + context_bytes) ≡ true
is_low a b c lt e = grind (arith, nat_tests, lt, e)

is_high : (a b c : ℕ) → b + context_bytes ≤ a → b ≡ c → nat_lt a (c + context_bytes) ≡ false
is_high a b c le e = grind (arith, nat_tests, le, e)

module _ (y : System) (h : Hart) (r : RunsTasks h y) where
  pub count_is : length y.tasks ≡ count_of h
  count_is = ap length (sym r.tasks.tasks_are) ∙ length-map h.tasks.now task_of

  -- the stack has room for a context below x2
  pub room_below : h.base + context_bytes ≤ stack_pointer_in h.machine → HasStackFrom h.machine (stack_pointer_in h.machine - context_bytes) context_bytes
  room_below le =
      let base = r.machine.base_is in
      let high = r.machine.high in
      record { image = y.image; size = y.size; loaded = r.machine.loaded; low = omega (arith, le, base); high = omega (arith, le, high) }

  -- a context stands at x2
  pub room_above : stack_pointer_in h.machine + context_bytes ≤ stack_top → HasStackFrom h.machine (stack_pointer_in h.machine) context_bytes
  room_above le =
      let base = r.machine.base_is in
      let low = r.machine.low in
      record { image = y.image; size = y.size; loaded = r.machine.loaded; low = omega (arith, low, base); high = le }

  -- ---- an activation begins

  pub begin_full : (task pc : ℕ) (puts : List Put) → pc ≡ pc_of h.machine → stack_pointer_in h.machine < h.base + context_bytes → begin y task (scene_of y h puts) ≡ trapped task Overflow pc (progress_in y h puts)
  begin_full task pc puts e lt =
      let t = is_low (stack_pointer_in h.machine) h.base (stack_base y.size) lt r.machine.base_is in
      rw t (ap (λ (x : ℕ). trapped task Overflow x (progress_in y h puts)) (sym e))

  module _ (k : Hart) (task entry : ℕ) (puts : List Put) (within : task < count_of h) (entry_is : entry ≡ slice_index h.entries.items task) (c : Changes h.machine k.machine (entering entry)) (runs : k.running.items ≡ task ∷ h.running.items) (le : h.base + context_bytes ≤ stack_pointer_in h.machine) where
    abbrev begun_hart : Hart
    begun_hart = record h { machine = k.machine; running = k.running }

    begun_pointer : stack_pointer_in k.machine ≡ stack_pointer_in h.machine - context_bytes
    begun_pointer = ap (λ (f : ℕ → ℕ). f sp) (registers_then h.machine k.machine (entering entry) c)

    begun_no_more : (n : ℕ) → 32 ≤ n → registers_in k.machine n ≡ 0
    begun_no_more n many =
        let a = not_2 n many in
        let b = not_1 n many in
        ap (λ (f : ℕ → ℕ). f n) (registers_then h.machine k.machine (entering entry) c) ∙ rw (a, b) (r.machine.no_more n many)

    begun_runs : RunsTasks begun_hart y
    begun_runs = record {
      machine = record {
        loaded = c.loaded y.image y.size r.machine.loaded;
        going = c.ended ∙ r.machine.going;
        base_is = r.machine.base_is;
        low = let p = begun_pointer in omega (arith, p, le);
        high = let p = begun_pointer in let high = r.machine.high in omega (arith, p, high);
        no_more = begun_no_more;
      };
      tasks = r.tasks;
      counts = r.counts;
      known = record {
        run = All-same (λ (t : ℕ). t < count_of h) k.running.items (task ∷ h.running.items) runs (All-cons (λ (t : ℕ). t < count_of h) task h.running.items within r.known.run);
        wait = r.known.wait;
        come = r.known.come;
      };
    }

    abbrev begin_scene : Context → (ℕ → ℕ) → List ℕ → Scene
    begin_scene context memory running =
        scene context memory (progress_in y h puts).inputs puts (progress_in y h puts).returned running h.waiting.items (map arrival_of h.coming.now) h.time

    entered_is : entered y task (context_in h.machine) ≡ context_in k.machine
    entered_is =
        ap (λ (x : ℕ). let d : Context = record { pc = x; registers = (entered y task (context_in h.machine)).registers } in d) (sym (entry_is ∙ r.tasks.entry task within))
        ∙ sym (context_then h.machine k.machine (entering entry) c)

    begun_scene : begun y task (scene_of y h puts) ≡ scene_of y begun_hart puts
    begun_scene =
        let memory = stored (context_in h.machine) (stack_pointer_in h.machine - context_bytes) (memory_in h.machine) in
        ap (λ (x : Context). begin_scene x memory (task ∷ h.running.items)) entered_is
        ∙ ap (λ (m : ℕ → ℕ). begin_scene (context_in k.machine) m (task ∷ h.running.items)) (sym (memory_then h.machine k.machine (entering entry) c))
        ∙ ap (λ (l : List ℕ). begin_scene (context_in k.machine) (memory_in k.machine) l) (sym runs)

    pub begins : Follows y puts (begin y task (scene_of y h puts)) begun_hart (Ok tt)
    begins =
        let t = is_high (stack_pointer_in h.machine) h.base (stack_base y.size) le r.machine.base_is in
        record { tasks = begun_runs; outcome = rw t (ap (λ (s : Scene). going s) begun_scene) }

  -- ---- arrivals

  nobody_runs : (running : List ℕ) (task : ℕ) → (length running == 0) ≡ true → true ≡ comes_first y task running
  nobody_runs [] task e = refl
  nobody_runs (other ∷ running) task e = let z = eqb-true (suc (length running)) 0 e in absurd (omega (arith, z))

  someone_runs : (running : List ℕ) (task : ℕ) → 0 < length running → nat_lt (priority_of y (slice_index running 0)) (priority_of y task) ≡ comes_first y task running
  someone_runs [] task lt = absurd (omega (arith, lt))
  someone_runs (other ∷ running) task lt = refl

  pub comes_nil : (task : ℕ) → (length h.running.items == 0) ≡ true → true ≡ comes_first y task h.running.items
  comes_nil task e = nobody_runs h.running.items task e

  pub comes_cons : (task other p q : ℕ) → 0 < length h.running.items → other ≡ slice_index h.running.items 0 → p ≡ (task_at (map task_of h.tasks.now) other).priority → q ≡ (task_at (map task_of h.tasks.now) task).priority → nat_lt p q ≡ comes_first y task h.running.items
  comes_cons task other p q lt first a b =
      let c : p ≡ priority_of y other = a ∙ ap (λ (l : List Task). (task_at l other).priority) r.tasks.tasks_are in
      let d : q ≡ priority_of y task = b ∙ ap (λ (l : List Task). (task_at l task).priority) r.tasks.tasks_are in
      ap (λ (x : ℕ). nat_lt x q) c
      ∙ ap (λ (x : ℕ). nat_lt (priority_of y other) x) d
      ∙ ap (λ (x : ℕ). nat_lt (priority_of y x) (priority_of y task)) first
      ∙ someone_runs h.running.items task lt

  pub arrives : (task : ℕ) (puts : List Put) (k : Hart) (result : Result Unit Trap) → true ≡ comes_first y task h.running.items → Follows y puts (begin y task (scene_of y h puts)) k result → Follows y puts (arrive y task (scene_of y h puts)) k result
  arrives task puts k result t f = follows_as y puts (arrive y task (scene_of y h puts)) (begin y task (scene_of y h puts)) k result (rw (sym t) refl) f

  pub waiting_runs : (k : Hart) → All (λ (t : ℕ). t < count_of h) k.waiting.items → RunsTasks (record h { waiting = k.waiting }) y
  waiting_runs k all = record { machine = r.machine; tasks = r.tasks; counts = r.counts; known = record { run = r.known.run; wait = all; come = r.known.come } }

  pub waits : (task : ℕ) (puts : List Put) (k : Hart) → task < count_of h → false ≡ comes_first y task h.running.items → k.waiting.items ≡ h.waiting.items ++ task ∷ [] → Follows y puts (arrive y task (scene_of y h puts)) (record h { waiting = k.waiting }) (Ok tt)
  waits task puts k within t e = record {
    tasks = waiting_runs k (All-same (λ (t : ℕ). t < count_of h) k.waiting.items (h.waiting.items ++ task ∷ []) e (All-push (λ (t : ℕ). t < count_of h) h.waiting.items task r.known.wait within));
    outcome = rw (sym t) (ap (λ (l : List ℕ). going (scene (context_in h.machine) (memory_in h.machine) (progress_in y h puts).inputs puts (progress_in y h puts).returned h.running.items l (map arrival_of h.coming.now) h.time)) (sym e));
  }

  module _ (i best a b p q : ℕ) (first : a ≡ slice_index h.waiting.items i) (second : b ≡ slice_index h.waiting.items best) (first_is : p ≡ (task_at (map task_of h.tasks.now) a).priority) (second_is : q ≡ (task_at (map task_of h.tasks.now) b).priority) where
    priority_first : p ≡ priority_of y (slice_index h.waiting.items i)
    priority_first = first_is ∙ ap (λ (l : List Task). (task_at l a).priority) r.tasks.tasks_are ∙ ap (λ (n : ℕ). priority_of y n) first

    priority_second : q ≡ priority_of y (slice_index h.waiting.items best)
    priority_second = second_is ∙ ap (λ (l : List Task). (task_at l b).priority) r.tasks.tasks_are ∙ ap (λ (n : ℕ). priority_of y n) second

    pub is_better : q ≤ p → nat_le (priority_of y (slice_index h.waiting.items best)) (priority_of y (slice_index h.waiting.items i)) ≡ true
    is_better le = let t : nat_le q p ≡ true = grind (arith, nat_tests, le) in sym (ap (λ (n : ℕ). nat_le n p) priority_second ∙ ap (λ (n : ℕ). nat_le (priority_of y (slice_index h.waiting.items best)) n) priority_first) ∙ t

    pub is_worse : p < q → nat_le (priority_of y (slice_index h.waiting.items best)) (priority_of y (slice_index h.waiting.items i)) ≡ false
    is_worse lt = let t : nat_le q p ≡ false = grind (arith, nat_tests, lt) in sym (ap (λ (n : ℕ). nat_le n p) priority_second ∙ ap (λ (n : ℕ). nat_le (priority_of y (slice_index h.waiting.items best)) n) priority_first) ∙ t

  -- ---- starts of those that waited

  pub starts_none : (puts : List Put) → choice y h.waiting.items ≡ None → Follows y puts (start_waiting y (choice y h.waiting.items) (scene_of y h puts)) h (Ok tt)
  starts_none puts e = record { tasks = r; outcome = rw e refl }

  pub starts_later : (puts : List Put) (c : Choice) → choice y h.waiting.items ≡ Some c → false ≡ comes_first y c.task h.running.items → Follows y puts (start_waiting y (choice y h.waiting.items) (scene_of y h puts)) h (Ok tt)
  starts_later puts c e t = record { tasks = r; outcome = rw e (rw (sym t) refl) }

  pub starts_now : (puts : List Put) (c : Choice) (k n : Hart) (result : Result Unit Trap) → choice y h.waiting.items ≡ Some c → true ≡ comes_first y c.task h.running.items → k.waiting.items ≡ c.others → Follows y puts (begin y c.task (scene_of y (record h { waiting = k.waiting }) puts)) n result → Follows y puts (start_waiting y (choice y h.waiting.items) (scene_of y h puts)) n result
  starts_now puts c k n result e t others f =
      let same : start_waiting y (choice y h.waiting.items) (scene_of y h puts) ≡ begin y c.task (record (scene_of y h puts) { waiting = c.others }) = rw e (rw (sym t) refl) in
      let here : begin y c.task (record (scene_of y h puts) { waiting = c.others }) ≡ begin y c.task (scene_of y (record h { waiting = k.waiting }) puts) = ap (λ (l : List ℕ). begin y c.task (record (scene_of y h puts) { waiting = l })) (sym others) in
      follows_as y puts (start_waiting y (choice y h.waiting.items) (scene_of y h puts)) (begin y c.task (scene_of y (record h { waiting = k.waiting }) puts)) n result (same ∙ here) f

  -- ---- returns

  module _ (k : Hart) (task old : ℕ) (puts : List Put) (within : task < count_of h) (old_is : old ≡ slice_index h.returned.items task) (counted : k.returned.items ≡ slice_set h.returned.items task (old + 1)) (runs : k.running.items ≡ drop 1 h.running.items) where
    abbrev returned_hart : Hart
    returned_hart = record h { running = k.running; returned = k.returned }

    returned_count : (t : ℕ) → one_more (progress_in y h puts).returned task t ≡ slice_index k.returned.items t
    returned_count t = by (cases_eq t task)
      where
        by : (t ≡ task) ⊎ (t ≡ task → ⊥) → (if t == task then slice_index h.returned.items task + 1 else slice_index h.returned.items t) ≡ slice_index k.returned.items t
        by (inl e) =
            let a : (t == task) ≡ true = grind (arith, nat_tests, e) in
            let lt : task < length h.returned.items = let c = r.counts.each_returned in omega (arith, c, within) in
            let here : get_or (set h.returned.items task (old + 1)) task 0 ≡ old + 1 = get_or-set_same h.returned.items task (old + 1) 0 lt in
            rw a (ap (λ (n : ℕ). n + 1) (sym old_is) ∙ sym here ∙ ap (λ (l : List ℕ). get_or l task 0) (sym counted) ∙ ap (λ (n : ℕ). get_or k.returned.items n 0) (sym e))
        by (inr ne) =
            let a : (t == task) ≡ false = grind (arith, nat_tests, ne) in
            let there : get_or (set h.returned.items task (old + 1)) t 0 ≡ get_or h.returned.items t 0 = get_or-set_other h.returned.items task t (old + 1) 0 ne in
            rw a (sym there ∙ ap (λ (l : List ℕ). get_or l t 0) (sym counted))

    pub returned_runs : RunsTasks returned_hart y
    returned_runs = record {
      machine = r.machine;
      tasks = r.tasks;
      counts = record {
        each_taken = r.counts.each_taken;
        each_returned = ap length counted ∙ length-set h.returned.items task (old + 1) ∙ r.counts.each_returned;
        within = r.counts.within;
      };
      known = record {
        run = All-same (λ (t : ℕ). t < count_of h) k.running.items (drop 1 h.running.items) runs (All-drop (λ (t : ℕ). t < count_of h) 1 h.running.items r.known.run);
        wait = r.known.wait;
        come = r.known.come;
      };
    }

    returned_progress : with_return task (progress_in y h puts) ≡ progress_in y returned_hart puts
    returned_progress = ap (λ (f : ℕ → ℕ). let p : Progress = record (progress_in y h puts) { returned = f } in p) (fun_ext returned_count)

    abbrev place : Context
    place = taken_back (memory_in h.machine) (stack_pointer_in h.machine)

    pub returns_off : true ≡ is_off_stack y (scene_of y h []) place → return_from y task (drop 1 h.running.items) (scene_of y h puts) ≡ trapped task Overflow 0 (progress_in y returned_hart puts)
    returns_off t = rw (sym t) (ap (λ (p : Progress). trapped task Overflow 0 p) returned_progress)

    pub returns_misaligned : false ≡ is_off_stack y (scene_of y h []) place → (place.pc % 4 == 0) ≡ false → return_from y task (drop 1 h.running.items) (scene_of y h puts) ≡ trapped task JumpMisaligned 0 (progress_in y returned_hart puts)
    returns_misaligned t m = rw (sym t) (rw m (ap (λ (p : Progress). trapped task JumpMisaligned 0 p) returned_progress))

    module _ (n : Hart) (c : Changes h.machine n.machine (taking_back (stack_pointer_in h.machine))) (t : false ≡ is_off_stack y (scene_of y h []) place) where
      abbrev back_hart : Hart
      back_hart = record h { machine = n.machine; running = k.running; returned = k.returned }

      back_pointer : stack_pointer_in n.machine ≡ place.registers sp
      back_pointer = ap (λ (f : ℕ → ℕ). f sp) (registers_then h.machine n.machine (taking_back (stack_pointer_in h.machine)) c)

      back_low : (base top old new : ℕ) → false ≡ (nat_lt top (old + context_bytes) || (nat_lt new base || nat_lt top new)) → base ≤ new
      back_low base top old new e = grind (arith, nat_tests, e)

      back_high : (base top old new : ℕ) → false ≡ (nat_lt top (old + context_bytes) || (nat_lt new base || nat_lt top new)) → new ≤ top
      back_high base top old new e = grind (arith, nat_tests, e)

      no_test : (m : ℕ) → 32 ≤ m → (nat_le 1 m && nat_lt m 32) ≡ false
      no_test m le = grind (arith, nat_tests, le)

      back_no_more : (m : ℕ) → 32 ≤ m → registers_in n.machine m ≡ 0
      back_no_more m le =
          let e = no_test m le in
          ap (λ (f : ℕ → ℕ). f m) (registers_then h.machine n.machine (taking_back (stack_pointer_in h.machine)) c) ∙ rw e refl

      pub back_runs : RunsTasks back_hart y
      back_runs = record {
        machine = record {
          loaded = c.loaded y.image y.size r.machine.loaded;
          going = c.ended ∙ r.machine.going;
          base_is = r.machine.base_is;
          low = let p = back_pointer in let b = r.machine.base_is in let l = back_low (stack_base y.size) stack_top (stack_pointer_in h.machine) (place.registers sp) t in omega (arith, p, b, l);
          high = let p = back_pointer in let l = back_high (stack_base y.size) stack_top (stack_pointer_in h.machine) (place.registers sp) t in omega (arith, p, l);
          no_more = back_no_more;
        };
        tasks = r.tasks;
        counts = returned_runs.counts;
        known = returned_runs.known;
      }

      abbrev back_scene : Context → (ℕ → ℕ) → Progress → List ℕ → Scene
      back_scene context memory progress running =
          scene context memory progress.inputs puts progress.returned running h.waiting.items (map arrival_of h.coming.now) h.time

      left_is : left_by task (drop 1 h.running.items) place (scene_of y h puts) ≡ scene_of y back_hart puts
      left_is =
          ap (λ (p : Progress). back_scene place (memory_in h.machine) p (drop 1 h.running.items)) returned_progress
          ∙ ap (λ (x : Context). back_scene x (memory_in h.machine) (progress_in y returned_hart puts) (drop 1 h.running.items)) (sym (context_then h.machine n.machine (taking_back (stack_pointer_in h.machine)) c))
          ∙ ap (λ (m : ℕ → ℕ). back_scene (context_in n.machine) m (progress_in y returned_hart puts) (drop 1 h.running.items)) (sym (memory_then h.machine n.machine (taking_back (stack_pointer_in h.machine)) c))
          ∙ ap (λ (l : List ℕ). back_scene (context_in n.machine) (memory_in n.machine) (progress_in y returned_hart puts) l) (sym runs)

      pub returns_back : (last : Hart) (result : Result Unit Trap) → (place.pc % 4 == 0) ≡ true → Follows y puts (start_waiting y (choice y h.waiting.items) (scene_of y back_hart puts)) last result → Follows y puts (return_from y task (drop 1 h.running.items) (scene_of y h puts)) last result
      returns_back last result m f =
          let same : return_from y task (drop 1 h.running.items) (scene_of y h puts) ≡ start_waiting y (choice y h.waiting.items) (left_by task (drop 1 h.running.items) place (scene_of y h puts)) = rw (sym t) (rw m refl) in
          follows_as y puts (return_from y task (drop 1 h.running.items) (scene_of y h puts)) (start_waiting y (choice y h.waiting.items) (scene_of y back_hart puts)) last result
          (same ∙ ap (start_waiting y (choice y h.waiting.items)) left_is) f

  -- ---- what is due

  not_0 : (n : ℕ) → (suc n == 0) ≡ false
  not_0 n = grind (arith, nat_tests)

  last_true : (n : ℕ) (b : Bool) → (not (suc n == 0) && b) ≡ true → b ≡ true
  last_true n b t = let p = and_parts (not (suc n == 0)) b t in p.1

  last_false : (n : ℕ) (b : Bool) → (not (suc n == 0) && b) ≡ false → b ≡ false
  last_false n b t = let z = not_0 n in rw z at t

  returned_first : (running : List ℕ) (coming : List Arrival) (s : Scene) → (not (length running == 0) && s.context.pc == 0) ≡ true → due_by y running coming s ≡ Some (return_from y (slice_index running 0) (drop 1 running) s)
  returned_first [] coming s t = cc
  returned_first (task ∷ running) coming s t = let u = last_true (length running) (s.context.pc == 0) t in rw u refl

  none_due : (running : List ℕ) (s : Scene) → (not (length running == 0) && s.context.pc == 0) ≡ false → due_by y running [] s ≡ None
  none_due [] s t = refl
  none_due (task ∷ running) s t = let u = last_false (length running) (s.context.pc == 0) t in rw u refl

  later_due : (running : List ℕ) (a : Arrival) (coming : List Arrival) (s : Scene) → (not (length running == 0) && s.context.pc == 0) ≡ false → (length running == 0 || nat_le a.at s.time) ≡ false → due_by y running (a ∷ coming) s ≡ None
  later_due [] a coming s t l = cc
  later_due (task ∷ running) a coming s t l =
      let u = last_false (length running) (s.context.pc == 0) t in
      let z = not_0 (length running) in
      let v : nat_le a.at s.time ≡ false = rw z at l in
      rw (u, v) refl

  now_due : (running : List ℕ) (a : Arrival) (coming : List Arrival) (s : Scene) → (not (length running == 0) && s.context.pc == 0) ≡ false → (length running == 0 || nat_le a.at s.time) ≡ true → due_by y running (a ∷ coming) s ≡ Some (arrive y a.task (record s { coming = coming }))
  now_due [] a coming s t l = refl
  now_due (task ∷ running) a coming s t l =
      let u = last_false (length running) (s.context.pc == 0) t in
      let z = not_0 (length running) in
      let v : nat_le a.at s.time ≡ true = rw z at l in
      rw (u, v) refl

  pub turn_returns : (puts : List Put) (k : Hart) (result : Result Unit Trap) → true ≡ has_returned h → Follows y puts (return_from y (slice_index h.running.items 0) (drop 1 h.running.items) (scene_of y h puts)) k result → HasActed y puts (scene_of y h puts) k result
  turn_returns puts k result t f = (
    return_from y (slice_index h.running.items 0) (drop 1 h.running.items) (scene_of y h puts),
    returned_first h.running.items (map arrival_of h.coming.now) (scene_of y h puts) (sym t),
    f,
  )

  none_come : (l : List DeclaredArrival) → (length l == 0) ≡ true → l ≡ []
  none_come [] e = refl
  none_come (a ∷ l) e = let z = eqb-true (suc (length l)) 0 e in absurd (omega (arith, z))

  pub turn_none : (puts : List Put) → false ≡ has_returned h → (length h.coming.now == 0) ≡ true → due y (scene_of y h puts) ≡ None
  turn_none puts t e =
      ap (λ (l : List DeclaredArrival). due_by y h.running.items (map arrival_of l) (scene_of y h puts)) (none_come h.coming.now e)
      ∙ none_due h.running.items (scene_of y h puts) (sym t)

  first_comes : (a : DeclaredArrival) → 0 < length h.coming.now → a ≡ get_or h.coming.now 0 a → h.coming.now ≡ a ∷ drop 1 h.coming.now
  first_comes a lt is = drop_more h.coming.now 0 a lt ∙ ap (λ (b : DeclaredArrival). b ∷ drop 1 h.coming.now) (sym is)

  pub turn_later : (puts : List Put) (a : DeclaredArrival) → false ≡ has_returned h → 0 < length h.coming.now → a ≡ get_or h.coming.now 0 a → is_due h a.at ≡ false → due y (scene_of y h puts) ≡ None
  turn_later puts a t lt is u =
      ap (λ (l : List DeclaredArrival). due_by y h.running.items (map arrival_of l) (scene_of y h puts)) (first_comes a lt is)
      ∙ later_due h.running.items (arrival_of a) (map arrival_of (drop 1 h.coming.now)) (scene_of y h puts) (sym t) u

  pub first_known : (a : DeclaredArrival) → 0 < length h.coming.now → a ≡ get_or h.coming.now 0 a → a.task < count_of h
  first_known a lt is = subst (λ (b : DeclaredArrival). b.task < count_of h) (sym is) (All-get_or (λ (b : DeclaredArrival). b.task < count_of h) h.coming.now 0 a lt r.known.come)

  pub coming_runs : (k : Hart) → k.coming.now ≡ drop 1 h.coming.now → RunsTasks (record h { coming = k.coming }) y
  coming_runs k f = record {
    machine = r.machine;
    tasks = r.tasks;
    counts = r.counts;
    known = record {
      run = r.known.run;
      wait = r.known.wait;
      come = All-same (λ (b : DeclaredArrival). b.task < count_of h) k.coming.now (drop 1 h.coming.now) f (All-drop (λ (b : DeclaredArrival). b.task < count_of h) 1 h.coming.now r.known.come);
    };
  }

  pub turn_arrives : (puts : List Put) (a : DeclaredArrival) (k n : Hart) (result : Result Unit Trap) → false ≡ has_returned h → 0 < length h.coming.now → a ≡ get_or h.coming.now 0 a → is_due h a.at ≡ true → k.coming.now ≡ drop 1 h.coming.now → Follows y puts (arrive y a.task (scene_of y (record h { coming = k.coming }) puts)) n result → HasActed y puts (scene_of y h puts) n result
  turn_arrives puts a k n result t lt is u f fo = (
    arrive y a.task (scene_of y (record h { coming = k.coming }) puts),
    ap (λ (l : List DeclaredArrival). due_by y h.running.items (map arrival_of l) (scene_of y h puts)) (first_comes a lt is)
        ∙ now_due h.running.items (arrival_of a) (map arrival_of (drop 1 h.coming.now)) (scene_of y h puts) (sym t) u
        ∙ ap (λ (l : List DeclaredArrival). Some (arrive y a.task (record (scene_of y h puts) { coming = map arrival_of l }))) (sym f),
    fo,
  )

  -- fewer are left behind a turn
  pub turn_fewer : (puts : List Put) (k : Hart) → HasActed y puts (scene_of y h puts) k (Ok tt) → left k < left h
  turn_fewer puts k (o, e, f) =
      let lt = less y (scene_of y h puts) (scene_of y k puts) (e ∙ ap (λ (x : Outcome). Some x) f.outcome) in
      let a = length-map h.coming.now arrival_of in
      let b = length-map k.coming.now arrival_of in
      omega (arith, lt, a, b)

-- ---- lists

pub some_left : (n : ℕ) → (n == 0) ≡ false → 0 < n
some_left n e = grind (arith, nat_tests, e)

pub none_left : (n : ℕ) → (n == 0) ≡ true → n ≡ 0
none_left n e = eqb-true n 0 e

pub removed_known : (count : ℕ) (tasks : List ℕ) (place : ℕ) → All (λ (t : ℕ). t < count) tasks → All (λ (t : ℕ). t < count) (remove tasks place)
removed_known count tasks place all =
    All-append (λ (t : ℕ). t < count) (take place tasks) (drop (suc place) tasks) (All-take (λ (t : ℕ). t < count) place tasks all) (All-drop (λ (t : ℕ). t < count) (suc place) tasks all)

pub first_running : (y : System) (h : Hart) (task : ℕ) → RunsTasks h y → 0 < length h.running.items → task ≡ slice_index h.running.items 0 → task < count_of h
first_running y h task r some e = subst (λ (t : ℕ). t < count_of h) (sym e) (All-get_or (λ (t : ℕ). t < count_of h) h.running.items 0 0 some r.known.run)

-- ---- choices

last_choice : (y : System) (waiting : List ℕ) (place : ℕ) → place + 1 ≡ length waiting → choice y (drop place waiting) ≡ Some (record { task = slice_index waiting place; others = remove (drop place waiting) (place - place) })
last_choice y waiting place e =
    let lt : place < length waiting = omega (arith, e) in
    let one : drop place waiting ≡ slice_index waiting place ∷ [] = drop_more waiting place 0 lt ∙ ap (λ (l : List ℕ). slice_index waiting place ∷ l) (drop_all (place + 1) waiting (omega (arith, e))) in
    let none : place - place ≡ 0 = omega arith in
    rw (one, none) refl

pub first_choice : (y : System) (waiting : List ℕ) (best : ℕ) → 0 < length waiting → best ≡ length waiting - 1 → choice y (drop best waiting) ≡ Some (record { task = slice_index waiting best; others = remove (drop best waiting) (best - best) })
first_choice y waiting best some e = last_choice y waiting best (omega (arith, some, e))

better : (y : System) (task best place : ℕ) (waiting : List ℕ) → nat_le (priority_of y best) (priority_of y task) ≡ true → chosen_among y task waiting (Some (record { task = best; others = remove waiting place })) ≡ record { task = task; others = waiting }
better y task best place waiting t =
    let u : nat_lt (priority_of y task) (priority_of y best) ≡ false = grind (arith, nat_tests, t) in
    rw u refl

worse : (y : System) (task best place : ℕ) (waiting : List ℕ) → nat_le (priority_of y best) (priority_of y task) ≡ false → chosen_among y task waiting (Some (record { task = best; others = remove waiting place })) ≡ record { task = best; others = task ∷ remove waiting place }
worse y task best place waiting t =
    let u : nat_lt (priority_of y task) (priority_of y best) ≡ true = grind (arith, nat_tests, t) in
    rw u refl

-- the choice among those from a place on, where the best of them stands at another
abbrev pub IsBest : System → (waiting : List ℕ) (from best : ℕ) → Type 0
IsBest y waiting from best = choice y (drop from waiting) ≡ Some (record { task = slice_index waiting best; others = remove (drop from waiting) (best - from) })

module _ (y : System) (waiting : List ℕ) (i best : ℕ) (lt : i + 1 < length waiting) (le : i + 1 ≤ best) (h : IsBest y waiting (i + 1) best) where
  here : drop i waiting ≡ slice_index waiting i ∷ drop (i + 1) waiting
  here = drop_more waiting i 0 (omega (arith, lt))

  among : choice y (drop i waiting) ≡ Some (chosen_among y (slice_index waiting i) (drop (i + 1) waiting) (Some (record { task = slice_index waiting best; others = remove (drop (i + 1) waiting) (best - (i + 1)) })))
  among = ap (choice y) here ∙ ap (λ (o : Option Choice). Some (chosen_among y (slice_index waiting i) (drop (i + 1) waiting) o)) h

  pub new_best : nat_le (priority_of y (slice_index waiting best)) (priority_of y (slice_index waiting i)) ≡ true → IsBest y waiting i i
  new_best t =
      let none : i - i ≡ 0 = omega arith in
      among
      ∙ ap (λ (c : Choice). Some c) (better y (slice_index waiting i) (slice_index waiting best) (best - (i + 1)) (drop (i + 1) waiting) t)
      ∙ ap (λ (l : List ℕ). let c : Option Choice = Some (record { task = slice_index waiting i; others = l }) in c) (sym (rw (here, none) refl))

  pub same_best : nat_le (priority_of y (slice_index waiting best)) (priority_of y (slice_index waiting i)) ≡ false → IsBest y waiting i best
  same_best t =
      let next : best - i ≡ suc (best - (i + 1)) = omega (arith, le) in
      among
      ∙ ap (λ (c : Choice). Some c) (worse y (slice_index waiting i) (slice_index waiting best) (best - (i + 1)) (drop (i + 1) waiting) t)
      ∙ ap (λ (l : List ℕ). let c : Option Choice = Some (record { task = slice_index waiting best; others = l }) in c) (sym (rw (here, next) refl))

-- ---- settling

abbrev pub SettlesAs : Hart → Hart → Type 0
SettlesAs h k = (y : System) (puts : List Put) → RunsTasks h y → RunsTasks k y × (settle y (scene_of y h puts) ≡ settle y (scene_of y k puts))

pub settles_same : (h : Hart) → SettlesAs h h
settles_same h y puts r = (r, refl)

pub settles_more : (h k n : Hart) → SettlesAs h k → ((y : System) (puts : List Put) → RunsTasks k y → HasActed y puts (scene_of y k puts) n (Ok tt)) → SettlesAs h n
settles_more h k n s a y puts r =
    let p = s y puts r in
    let q = a y puts p.0 in
    (q.2.tasks, p.1 ∙ settle_turn y (scene_of y k puts) q.0 q.1 ∙ ap (λ (x : Outcome). and_then x (settle y)) q.2.outcome)

pub settles_none : (h k : Hart) (y : System) (puts : List Put) → SettlesAs h k → RunsTasks h y → due y (scene_of y k puts) ≡ None → Follows y puts (settle y (scene_of y h puts)) k (Ok tt)
settles_none h k y puts s r d =
    let p = s y puts r in
    record { tasks = p.0; outcome = p.1 ∙ settle_none y (scene_of y k puts) d }

pub settles_trapped : (h k n : Hart) (y : System) (puts : List Put) (trap : Trap) → SettlesAs h k → RunsTasks h y → HasActed y puts (scene_of y k puts) n (Err trap) → Follows y puts (settle y (scene_of y h puts)) n (Err trap)
settles_trapped h k n y puts trap s r q =
    let p = s y puts r in
    record { tasks = q.2.tasks; outcome = p.1 ∙ settle_turn y (scene_of y k puts) q.0 q.1 ∙ ap (λ (x : Outcome). and_then x (settle y)) q.2.outcome }
