-- A run on the hart in code, instruction by instruction, as by the definition.
use Rattle.std.proofs.Common.{◌≡◌, ◌⊎◌, inl, inr, ℕ, suc, ◌+◌, ◌-◌, ◌≤◌, ◌<◌, true, false, List, [], ◌∷◌, ◌++◌, length, map, drop, get_or, Option, Some, None, Result, Ok, Err, is_err, refl, sym, ap, ◌∙◌, subst, arith, append_assoc}
use Rattle.std.specs.Prelude.{if◌then◌else◌, ◌==◌, slice_index, slice_set}
use Rattle.std.proofs.Math.Path.{fun_ext}
use Rattle.std.proofs.lemmas.Bool.{cases_eq}
use Rattle.std.proofs.lemmas.Bool.Decides.{nat_tests}
use Rattle.std.proofs.lemmas.List.{append-nil, get_or-map, get_or-set_same, get_or-set_other, length-set}
use Rattle.hex.specs.Hex.{encode_lower, encode_with}
use Rattle.qs_base.specs.Characters.{new_line, space}
use Rattle.qs_ports.specs.declared.sink.SinkFault.{SinkFault}
use Rattle.qs_ports.specs.SinkView.{SinkView, Appends, IsCut, PutsAll}
use Rattle.qs_ports.proofs.Sinks.{appends_nothing, appends_more, cut_later, cut_sooner}
use Rattle.qs_isa.specs.Registers.{sp}
use Rattle.qs_machine.specs.declared.answers.Cause.{Cause}
use Rattle.qs_machine.specs.declared.answers.Cause.TheVariants.{UnknownCall}
use Rattle.qs_machine.specs.declared.machine.Machine.{Machine}
use Rattle.qs_machine.specs.State.{State}
use Rattle.qs_machine.specs.Step.{Next, Exits, Traps, step}
use Rattle.qs_machine.specs.Standing.{taken_of, state_of, Stands, GoesOn}
use Rattle.qs_machine.specs.Parts.{pc_of, registers_in, memory_in, HasTaken}
use Rattle.qs_tasks_run.specs.declared.tasks.Task.{Task as DeclaredTask}
use Rattle.qs_tasks_run.specs.Tasks.{Task, task_of, arrival_of}
use Rattle.qs_tasks_run.specs.TasksRun.{System, task_at, no_task, Put, Scene, Outcome, going, trapped, and_then, bytes_by, puts_by, with_input, seen_by, stepped, instruct, instructed_by, instructed, due, settle, run, is_over, progress_of, line_of, lines_of}
use Rattle.qs_tasks_run.proofs.Settling.{settle_settles}
use Rattle.qs_tasks_machine.specs.declared.hart.Hart.{Hart}
use Rattle.qs_tasks_machine.specs.declared.hart.Trap.{Trap}
use Rattle.qs_tasks_machine.specs.Harts.{context_in, count_of, progress_in, scene_of, RunsTasks, Follows, IsFresh}
use Rattle.qs_tasks_machine.specs.Reports.{put_of, IsInstructed, AreReturned, Goes, HasTrapped, IsCutOff}
use Rattle.qs_tasks_machine.proofs.StackPointers.{AreHeld, steps_hold}
use Rattle.qs_tasks_machine.proofs.Turns.{AreGrown, Rests, KeepsOn, GrowsTo, settle_keeps, run_grows, instruct_rests, all_came, nothing_more}
use Rattle.qs_tasks_machine.proofs.HartLaws.{count_is}

-- ---- the task that runs

module _ (y : System) (h : Hart) (r : RunsTasks h y) (task : ℕ) (t : DeclaredTask) (within : task < count_of h) (is : t ≡ get_or h.tasks.now task t) where
  task_is : task_of t ≡ task_at y.tasks task
  task_is = ap task_of is ∙ sym (get_or-map task_of h.tasks.now task t no_task within) ∙ ap (λ (l : List Task). task_at l task) r.tasks.tasks_are

  pub input_of : t.input.items ≡ (task_at y.tasks task).input
  input_of = ap (λ (x : Task). x.input) task_is

  pub name_of : t.name ≡ (task_at y.tasks task).name
  name_of = ap (λ (x : Task). x.name) task_is

-- ---- an instruction

drop_front : (front rest : List ℕ) → drop (length front) (front ++ rest) ≡ rest
drop_front [] rest = refl
drop_front (x ∷ front) rest = drop_front front rest

module _ (y : System) (h : Hart) (r : RunsTasks h y) (puts : List Put) (task count : ℕ) (input : List ℕ) (m n : Machine) (count_taken : count ≡ slice_index h.taken.items task) (taking : HasTaken h.machine m count) (input_is : input ≡ (task_at y.tasks task).input) where
  abbrev output : List ℕ
  output = bytes_by task puts

  abbrev here : State
  here = state_of m input output

  seen : seen_by task (context_in h.machine) (progress_in y h puts) ≡ here
  seen =
      let left : drop (slice_index h.taken.items task) (task_at y.tasks task).input ≡ drop count input = ap (λ (l : List ℕ). drop (slice_index h.taken.items task) l) (sym input_is) ∙ ap (λ (c : ℕ). drop c input) (sym count_taken) in
      ap (λ (l : List ℕ). let s : State = record { pc = pc_of h.machine; registers = registers_in h.machine; memory = memory_in h.machine; input = l; output = output } in s) left
      ∙ sym (taking.state input output)

  pub stands : Stands m y.image y.size input here
  stands = record { loaded = taking.loaded y.image y.size r.machine.loaded; at = refl; going = taking.ended ∙ r.machine.going }

  as_step : instruct y task (scene_of y h puts) ≡ stepped task (scene_of y h puts) (step y.image y.size here)
  as_step = ap (λ (s : State). stepped task (scene_of y h puts) (step y.image y.size s)) seen

  same_pc : pc_of m ≡ pc_of h.machine
  same_pc = ap (λ (s : State). s.pc) (taking.state input output)

  pub exits : (status pc : ℕ) → step y.image y.size here ≡ Exits status → pc ≡ pc_of m → instruct y task (scene_of y h puts) ≡ trapped task UnknownCall pc (progress_in y h puts)
  exits status pc e at = as_step ∙ ap (stepped task (scene_of y h puts)) e ∙ ap (λ (x : ℕ). trapped task UnknownCall x (progress_in y h puts)) (sym (at ∙ same_pc))

  pub traps : (cause : Cause) (pc : ℕ) → step y.image y.size here ≡ Traps cause → pc ≡ pc_of m → instruct y task (scene_of y h puts) ≡ trapped task cause pc (progress_in y h puts)
  traps cause pc e at = as_step ∙ ap (stepped task (scene_of y h puts)) e ∙ ap (λ (x : ℕ). trapped task cause x (progress_in y h puts)) (sym (at ∙ same_pc))

  module _ (bytes : List ℕ) (g : GoesOn n y.image y.size input here bytes) (k : Hart) (machine_is : k.machine ≡ n) (within : task < count_of h) (counted : k.taken.items ≡ slice_set h.taken.items task (taken_of n)) (few : taken_of n ≤ length input) (later : k.time ≡ h.time + 1) where
    abbrev stepped_hart : Hart
    stepped_hart = record h { machine = n; taken = k.taken; time = k.time }

    abbrev next : State
    next = state_of n input (output ++ bytes)

    next_is : g.next ≡ next
    next_is = g.stands.at ∙ ap (state_of n input) g.puts

    held : AreHeld y.size (registers_in n)
    held =
        let same : registers_in m ≡ registers_in h.machine = ap (λ (s : State). s.registers) (taking.state input output) in
        let base = r.machine.base_is in
        let low = r.machine.low in
        let at : registers_in m sp ≡ registers_in h.machine sp = ap (λ (f : ℕ → ℕ). f sp) same in
        let high = r.machine.high in
        let before : AreHeld y.size (registers_in m) = record {
          low = omega (arith, base, low, at);
          high = omega (arith, high, at);
          no_more = λ q le. ap (λ (f : ℕ → ℕ). f q) same ∙ r.machine.no_more q le;
        } in
        subst (λ (s : State). AreHeld y.size s.registers) next_is (steps_hold y.image y.size here before g.next g.step_is)

    taken_at : (t : ℕ) → (t ≡ task → slice_index k.taken.items t ≡ taken_of n) × ((t ≡ task → ⊥) → slice_index k.taken.items t ≡ slice_index h.taken.items t)
    taken_at t = (
      λ e.
          let lt : task < length h.taken.items = let c = r.counts.each_taken in omega (arith, c, within) in
          ap (λ (x : ℕ). get_or k.taken.items x 0) e ∙ ap (λ (l : List ℕ). get_or l task 0) counted ∙ get_or-set_same h.taken.items task (taken_of n) 0 lt,
      λ ne. ap (λ (l : List ℕ). get_or l t 0) counted ∙ get_or-set_other h.taken.items task t (taken_of n) 0 ne,
    )

    within_all : (t : ℕ) → t < count_of h → slice_index k.taken.items t ≤ length (task_at y.tasks t).input
    within_all t lt = by (cases_eq t task)
      where
        by : (t ≡ task) ⊎ (t ≡ task → ⊥) → slice_index k.taken.items t ≤ length (task_at y.tasks t).input
        by (inl e) =
            let a = (taken_at t).0 e in
            let b = ap length input_is in
            let c : length (task_at y.tasks t).input ≡ length (task_at y.tasks task).input = ap (λ (x : ℕ). length (task_at y.tasks x).input) e in
            omega (arith, a, b, c, few)
        by (inr ne) = let a = (taken_at t).1 ne in let b = r.counts.within t lt in omega (arith, a, b)

    pub stepped_runs : RunsTasks stepped_hart y
    stepped_runs = record {
      machine = record {
        loaded = g.stands.loaded;
        going = g.stands.going;
        base_is = r.machine.base_is;
        low = let l = held.low in let b = r.machine.base_is in omega (arith, l, b);
        high = held.high;
        no_more = held.no_more;
      };
      tasks = r.tasks;
      counts = record {
        each_taken = ap length counted ∙ length-set h.taken.items task (taken_of n) ∙ r.counts.each_taken;
        each_returned = r.counts.each_returned;
        within = within_all;
      };
      known = r.known;
    }

    left_at : (t : ℕ) → with_input (progress_in y h puts).inputs task (drop (taken_of n) input) t ≡ drop (slice_index k.taken.items t) (task_at y.tasks t).input
    left_at t = by (cases_eq t task)
      where
        by : (t ≡ task) ⊎ (t ≡ task → ⊥) → (if t == task then drop (taken_of n) input else drop (slice_index h.taken.items t) (task_at y.tasks t).input) ≡ drop (slice_index k.taken.items t) (task_at y.tasks t).input
        by (inl e) =
            let a : (t == task) ≡ true = grind (arith, nat_tests, e) in
            let b = (taken_at t).0 e in
            rw a (ap (λ (l : List ℕ). drop (taken_of n) l) (input_is ∙ ap (λ (x : ℕ). (task_at y.tasks x).input) (sym e)) ∙ ap (λ (c : ℕ). drop c (task_at y.tasks t).input) (sym b))
        by (inr ne) =
            let a : (t == task) ≡ false = grind (arith, nat_tests, ne) in
            let b = (taken_at t).1 ne in
            rw a (ap (λ (c : ℕ). drop c (task_at y.tasks t).input) (sym b))

    abbrev behind_with : (ℕ → List ℕ) → List ℕ → (time : ℕ) → Scene
    behind_with inputs more time = record {
      context = context_in n;
      progress = record { memory = memory_in n; inputs = inputs; written = puts ++ puts_by task more; returned = (progress_in y h puts).returned };
      running = h.running.items;
      waiting = h.waiting.items;
      coming = map arrival_of h.coming.now;
      time = time;
    }

    pub goes : instruct y task (scene_of y h puts) ≡ going (scene_of y stepped_hart (puts ++ puts_by task bytes))
    goes =
        as_step
        ∙ ap (stepped task (scene_of y h puts)) (g.step_is ∙ ap (λ (s : State). Next s) next_is)
        ∙ ap (λ (f : ℕ → List ℕ). going (behind_with f (drop (length output) (output ++ bytes)) (h.time + 1))) (fun_ext left_at)
        ∙ ap (λ (l : List ℕ). going (behind_with (λ t. drop (slice_index k.taken.items t) (task_at y.tasks t).input) l (h.time + 1))) (drop_front output bytes)
        ∙ ap (λ (x : ℕ). going (behind_with (λ t. drop (slice_index k.taken.items t) (task_at y.tasks t).input) bytes x)) (sym later)

-- ---- lines

lines_append : (y : System) (a b : List Put) → lines_of y (a ++ b) ≡ lines_of y a ++ lines_of y b
lines_append y [] b = refl
lines_append y (put ∷ a) b = ap (λ (l : List ℕ). line_of y put ++ l) (lines_append y a b) ∙ sym (append_assoc (line_of y put) (lines_of y a) (lines_of y b))

-- ---- the run

-- so many instructions were taken, and what they put was appended to the sink
pub record Ran (y : System) (first h : Hart) (taken : ℕ) (v w : SinkView) : Type 0 where
  pub puts : List Put
  pub tasks : RunsTasks h y
  pub rests : Rests (scene_of y h puts)
  pub ahead : (more : ℕ) → run y (taken + more) (scene_of y first []) ≡ run y more (scene_of y h puts)
  pub appended : Appends v w (lines_of y puts)

pub ran_none : (y : System) (h : Hart) (v : SinkView) → RunsTasks h y → IsFresh h → Ran y h h 0 v v
ran_none y h v r fresh = record {
  puts = [];
  tasks = r;
  rests = λ e. fresh.waiting;
  ahead = λ more. let e : 0 + more ≡ more = omega arith in ap (λ (n : ℕ). run y n (scene_of y h [])) e;
  appended = appends_nothing v;
}

not_over : (s : Scene) → (length s.running == 0) ≡ false → is_over s ≡ false
not_over s e = rw e refl

all_over : (s : Scene) → s.running ≡ [] → s.waiting ≡ [] → s.coming ≡ [] → is_over s ≡ true
all_over s a b c = rw (a, b, c) refl

first_runs : (y : System) (running : List ℕ) (s : Scene) → 0 < length running → instructed_by y running s ≡ instruct y (slice_index running 0) s
first_runs y [] s lt = absurd (omega (arith, lt))
first_runs y (task ∷ running) s lt = refl

all_grown : (puts : List Put) (o : Outcome) → GrowsTo puts o → AreGrown puts (progress_of o).written
all_grown puts (going s) g = g.0
all_grown puts (trapped task cause pc p) g = g

module _ (y : System) (first h : Hart) (taken : ℕ) (u v : SinkView) (ran : Ran y first h taken u v) where
  abbrev start_scene : Scene
  start_scene = scene_of y first []

  abbrev now : Scene
  now = scene_of y h ran.puts

  returned_in : (k : Hart) → RunsTasks k y → AreReturned (progress_in y k ran.puts) (length y.tasks) k.returned.items
  returned_in k r = record { each = r.counts.each_returned ∙ sym (count_is y k r); is = λ t lt. refl }

  settled_keeps : (k : Hart) → Follows y ran.puts (settle y now) k (Ok tt) → KeepsOn ran.puts h.time (going (scene_of y k ran.puts))
  settled_keeps k f = subst (KeepsOn ran.puts h.time) f.outcome (settle_keeps y now ran.rests)

  pub same_time : (k : Hart) → Follows y ran.puts (settle y now) k (Ok tt) → k.time ≡ h.time
  same_time k f = (settled_keeps k f).1

  none_due : (k : Hart) → Follows y ran.puts (settle y now) k (Ok tt) → due y (scene_of y k ran.puts) ≡ None
  none_due k f = settle_settles y now (scene_of y k ran.puts) f.outcome

  over_now : (k : Hart) → Follows y ran.puts (settle y now) k (Ok tt) → k.running.items ≡ [] → is_over (scene_of y k ran.puts) ≡ true
  over_now k f e = all_over (scene_of y k ran.puts) e ((settled_keeps k f).2 e) (all_came y (scene_of y k ran.puts) (none_due k f) e)

  module _ (steps : ℕ) (lt : taken < steps) where
    abbrev rest : ℕ
    rest = steps - taken - 1

    from_here : run y steps start_scene ≡ run y (suc rest) now
    from_here =
        let e : steps ≡ taken + suc rest = omega (arith, lt) in
        ap (λ (n : ℕ). run y n start_scene) e ∙ ran.ahead (suc rest)

    pub ends_trapped : (k : Hart) (trap : Trap) → Follows y ran.puts (settle y now) k (Err trap) → HasTrapped y (run y steps start_scene) trap.task trap.cause trap.pc u v k.returned.items
    ends_trapped k trap f = record {
      progress = progress_in y k ran.puts;
      is = from_here ∙ ap (λ (o : Outcome). and_then (and_then o (instructed y)) (run y rest)) f.outcome;
      wrote = record { appended = ran.appended; counts = returned_in k f.tasks };
    }

    module _ (k : Hart) (f : Follows y ran.puts (settle y now) k (Ok tt)) where
      abbrev settled : Scene
      settled = scene_of y k ran.puts

      then_instructed : run y steps start_scene ≡ and_then (instructed y settled) (run y rest)
      then_instructed = from_here ∙ ap (λ (o : Outcome). and_then (and_then o (instructed y)) (run y rest)) f.outcome

      pub ends_done : k.running.items ≡ [] → Goes true y (run y steps start_scene) u v k.returned.items
      ends_done e = record {
        scene = settled;
        is = then_instructed ∙ ap (λ (l : List ℕ). and_then (instructed_by y l settled) (run y rest)) e ∙ nothing_more y rest settled (none_due k f) e;
        over_is = over_now k f e;
        wrote = record { appended = ran.appended; counts = returned_in k f.tasks };
      }

      module _ (some : 0 < length k.running.items) where
        abbrev task : ℕ
        task = slice_index k.running.items 0

        then_task : run y steps start_scene ≡ and_then (instruct y task settled) (run y rest)
        then_task = then_instructed ∙ ap (λ (o : Outcome). and_then o (run y rest)) (first_runs y k.running.items settled some)

        pub ends_stopped : (n : Hart) (trap : Trap) → IsInstructed y ran.puts task k n (instruct y task settled) (Err trap) → HasTrapped y (run y steps start_scene) trap.task trap.cause trap.pc u v n.returned.items
        ends_stopped n trap i = record {
          progress = progress_in y k ran.puts;
          is = then_task ∙ ap (λ (o : Outcome). and_then o (run y rest)) i.0;
          wrote = record {
            appended = ran.appended;
            counts = subst (λ (l : List ℕ). AreReturned (progress_in y k ran.puts) (length y.tasks) l) (sym i.1) (returned_in k f.tasks);
          };
        }

        pub ends_cut : (n : Hart) (byte : ℕ) (w : SinkView) (fault : SinkFault) → IsInstructed y ran.puts task k n (instruct y task settled) (Ok (Some byte)) → PutsAll v w (line_of y (record { task = task; byte = byte })) (Err fault) → IsCutOff y (run y steps start_scene) u w
        ends_cut n byte w fault i p =
            let put : Put = record { task = task; byte = byte } in
            let later = scene_of y n (ran.puts ++ put ∷ []) in
            let o : run y steps start_scene ≡ run y rest later = then_task ∙ ap (λ (x : Outcome). and_then x (run y rest)) i.1 in
            let rests = instruct_rests y task settled later i.1 (settled_keeps k f).2 in
            let grown = all_grown (ran.puts ++ put ∷ []) (run y rest later) (run_grows y rest later rests) in
            let text : lines_of y ((ran.puts ++ put ∷ []) ++ grown.more) ≡ lines_of y ran.puts ++ (line_of y put ++ lines_of y grown.more) =
            ap (lines_of y) (append_assoc ran.puts (put ∷ []) grown.more) ∙ lines_append y ran.puts (put ∷ grown.more) in
            let all : lines_of y (progress_of (run y steps start_scene)).written ≡ lines_of y ran.puts ++ (line_of y put ++ lines_of y grown.more) =
            ap (λ (x : Outcome). lines_of y (progress_of x).written) o ∙ ap (lines_of y) grown.is ∙ text in (
              length (lines_of y ran.puts) + p.0,
              subst (λ (l : List ℕ). IsCut u w l (length (lines_of y ran.puts) + p.0)) (sym all) (cut_later ran.appended (cut_sooner (lines_of y grown.more) p.1)),
            )

        pub ends_cut_by : (n : Hart) (byte : ℕ) (w : SinkView) (result : Result Unit SinkFault) → is_err result ≡ true → IsInstructed y ran.puts task k n (instruct y task settled) (Ok (Some byte)) → PutsAll v w (line_of y (record { task = task; byte = byte })) result → IsCutOff y (run y steps start_scene) u w
        ends_cut_by n byte w (Ok t) e i p = absurd cc
        ends_cut_by n byte w (Err fault) e i p = ends_cut n byte w fault i p

        pub ran_more : (n : Hart) (byte : Option ℕ) (w : SinkView) → IsInstructed y ran.puts task k n (instruct y task settled) (Ok byte) → Appends v w (lines_of y (put_of task byte)) → Ran y first n (taken + 1) u w
        ran_more n byte w i a = record {
          puts = ran.puts ++ put_of task byte;
          tasks = i.0;
          rests = instruct_rests y task settled (scene_of y n (ran.puts ++ put_of task byte)) i.1 (settled_keeps k f).2;
          ahead = λ more.
              let e : taken + 1 + more ≡ taken + suc more = omega arith in
              ap (λ (m : ℕ). run y m start_scene) e
              ∙ ran.ahead (suc more)
              ∙ ap (λ (o : Outcome). and_then (and_then o (instructed y)) (run y more)) f.outcome
              ∙ ap (λ (o : Outcome). and_then o (run y more)) (first_runs y k.running.items settled some)
              ∙ ap (λ (o : Outcome). and_then o (run y more)) i.1;
          appended = subst (λ (l : List ℕ). Appends u w l) (sym (lines_append y ran.puts (put_of task byte))) (appends_more ran.appended a);
        }

  -- ---- at the last instruction

  at_end : run y taken start_scene ≡ settle y now
  at_end = let e : taken ≡ taken + 0 = omega arith in ap (λ (n : ℕ). run y n start_scene) e ∙ ran.ahead 0

  pub last_trapped : (k : Hart) (trap : Trap) → Follows y ran.puts (settle y now) k (Err trap) → HasTrapped y (run y taken start_scene) trap.task trap.cause trap.pc u v k.returned.items
  last_trapped k trap f = record {
    progress = progress_in y k ran.puts;
    is = at_end ∙ f.outcome;
    wrote = record { appended = ran.appended; counts = returned_in k f.tasks };
  }

  pub last_done : (k : Hart) → Follows y ran.puts (settle y now) k (Ok tt) → k.running.items ≡ [] → Goes true y (run y taken start_scene) u v k.returned.items
  last_done k f e = record {
    scene = scene_of y k ran.puts;
    is = at_end ∙ f.outcome;
    over_is = over_now k f e;
    wrote = record { appended = ran.appended; counts = returned_in k f.tasks };
  }

  pub last_going : (k : Hart) → Follows y ran.puts (settle y now) k (Ok tt) → (length k.running.items == 0) ≡ false → Goes false y (run y taken start_scene) u v k.returned.items
  last_going k f e = record {
    scene = scene_of y k ran.puts;
    is = at_end ∙ f.outcome;
    over_is = not_over (scene_of y k ran.puts) e;
    wrote = record { appended = ran.appended; counts = returned_in k f.tasks };
  }

-- a line that was put whole
pub puts_whole : (y : System) (put : Put) (v w : SinkView) (text : List ℕ) (result : Result Unit SinkFault) → text ≡ line_of y put → is_err result ≡ false → PutsAll v w text result → Appends v w (lines_of y (put ∷ []))
puts_whole y put v w text (Ok t) e is p = subst (λ (l : List ℕ). Appends v w l) (e ∙ sym (append-nil (line_of y put))) p
puts_whole y put v w text (Err fault) e is p = absurd cc

-- the line of a byte of a task, from the name of the task
pub text_is : (y : System) (first own byte : ℕ) (name : List ℕ) → name ≡ (task_at y.tasks first).name → first ≡ own → name ++ space ∷ (encode_lower (byte ∷ []) ++ new_line ∷ []) ≡ line_of y (record { task = own; byte = byte })
text_is y first own byte name e is = ap (λ (l : List ℕ). l ++ space ∷ (encode_lower (byte ∷ []) ++ new_line ∷ [])) (e ∙ ap (λ (t : ℕ). (task_at y.tasks t).name) is)

-- the line of a byte, from its two digits
pub line_text : (byte : ℕ) (digits : List ℕ) → digits ≡ encode_lower (byte ∷ []) → space ∷ slice_index digits 0 ∷ slice_index digits 1 ∷ new_line ∷ [] ≡ space ∷ (encode_lower (byte ∷ []) ++ new_line ∷ [])
unfolding encode_with
line_text byte digits e = rw e refl
