-- Activations one above the other on one stack, each interrupted by the next: what stands, and that it stays.
use Rattle.std.proofs.Common.{◌≡◌, ◌⊎◌, inl, inr, ⊎_elim, ℕ, ◌+◌, ◌%◌, ◌^◌, ◌≤◌, ◌<◌, true, false, List, [], ◌∷◌, ◌++◌, length, All, refl, sym, ap, ◌∙◌, subst, arith}
use Rattle.std.specs.Prelude.{◌==◌}
use Rattle.std.proofs.lemmas.List.{append-nil}
use Rattle.std.proofs.lemmas.Bool.{cases_eq}
use Rattle.std.proofs.lemmas.Bool.Decides.{nat_tests}
use Rattle.qs_events.specs.Events.{output_of}
use Rattle.qs_events.specs.Runs.{events_of}
use Rattle.qs_calls.specs.World.{World}
use Rattle.qs_machine.specs.State.{stack_base, stack_top, with_value}
use Rattle.qs_machine.specs.Laws.{IsProper}
use Rattle.qs_emit.specs.Lies.{AreBytes}
use Rattle.qs_tasks_run.specs.Contexts.{Context, stack_pointer_of, context_bytes, taken_back}
use Rattle.qs_tasks_run.specs.TasksRun.{priority_of, Progress, Scene, Outcome, going, comes_first, bytes_by, seen_by}
use Rattle.qs_tasks.specs.Alone.{Program, activation, Alone}
use Rattle.qs_tasks.specs.Safe.{GaveSoFar, one_of, arrivals_of}
use Rattle.qs_tasks.proofs.Setting.{has_byte, IsWork, HasRoom}
use Rattle.qs_tasks.proofs.Resting.{Rests, rests_on}
use Rattle.qs_tasks.proofs.Activations.{IsAmid, stands, amid_stirred}
use Rattle.qs_tasks.proofs.ContextLaws.{same_context}

-- ---- a value at one place

pub value_there : (f : ℕ → ℕ) (place v : ℕ) → with_value f place v place ≡ v
value_there f place v = let e : (place == place) ≡ true = grind (arith, nat_tests) in rw e refl

pub value_elsewhere : (f : ℕ → ℕ) (place v n : ℕ) → (n ≡ place → ⊥) → with_value f place v n ≡ f n
value_elsewhere f place v n ne = let e : (n == place) ≡ false = grind (arith, nat_tests, ne) in rw e refl

abbrev pub IsIn : ℕ → List ℕ → Type 0
IsIn task [] = ⊥
IsIn task (other ∷ others) = (task ≡ other) ⊎ IsIn task others

pub decide_in : (task : ℕ) (others : List ℕ) → IsIn task others ⊎ (IsIn task others → ⊥)
decide_in task [] = inr (λ e. e)
decide_in task (other ∷ others) = ⊎_elim (λ e. inl (inl e)) (λ ne. ⊎_elim (λ there. inl (inr there)) (λ out. inr (λ e. ⊎_elim ne out e)) (decide_in task others)) (cases_eq task other)

-- ---- how often

abbrev pub count : (task : ℕ) → List ℕ → ℕ
count task [] = 0
count task (other ∷ others) = one_of other task + count task others

pub one_itself : (task : ℕ) → one_of task task ≡ 1
one_itself task = let e : (task == task) ≡ true = grind (arith, nat_tests) in rw e refl

pub count_append : (task : ℕ) (others : List ℕ) (last : ℕ) → count task (others ++ last ∷ []) ≡ count task others + one_of last task
count_append task [] last = omega arith
count_append task (other ∷ others) last = let e = count_append task others last in omega (arith, e)

-- how many activations of a task have returned, run, wait or are to come
abbrev pub used : (task : ℕ) → Scene → ℕ
used task s = s.progress.returned task + (count task s.running + (count task s.waiting + arrivals_of s.coming task))

module _ (p : Program) (bound times below : ℕ → ℕ) where
  -- ---- what stands

  pub record IsIdle (c : Context) : Type 0 where
    pub proper : IsProper c.pc c.registers
    pub pc : c.pc ≡ 0
    pub x2 : stack_pointer_of c ≡ stack_top

  -- an activation of this task runs below this ceiling, and above it stands the context that it interrupted
  pub record IsLevel (task : ℕ) (running : List ℕ) (ceiling : ℕ) (c : Context) (g : Progress) : Type 0 where
    pub there : task < length p.system.tasks
    pub amid : IsAmid p bound times task (g.returned task) ceiling (seen_by task c g)
    pub level : stack_top ≤ ceiling + context_bytes + below (priority_of p.system task)
    pub above : ceiling + context_bytes ≤ stack_top
    pub x2 : stack_pointer_of (taken_back g.memory ceiling) ≡ ceiling + context_bytes
    pub first : comes_first p.system task running ≡ true

  abbrev pub IsStack : List ℕ → Context → Progress → Type 0
  IsStack [] c g = IsIdle c
  IsStack (task ∷ running) c g = (ceiling : ℕ) × IsLevel task running ceiling c g × IsStack running (taken_back g.memory ceiling) g

  -- nobody runs this task
  pub record IsAtRest (task : ℕ) (g : Progress) : Type 0 where
    pub world : World
    pub rests : Rests p task world.memory g.memory
    pub input : g.inputs task ≡ world.input
    pub alone : Alone p task (g.returned task) (bytes_by task g.written) world

  pub record IsFine (running : List ℕ) (c : Context) (g : Progress) : Type 0 where
    pub bytes : AreBytes g.memory
    pub inputs : (task : ℕ) → task < length p.system.tasks → All (λ byte. byte < 2 ^ 8) (g.inputs task)
    pub stack : IsStack running c g
    pub rest : (task : ℕ) → task < length p.system.tasks → (IsIn task running → ⊥) → IsAtRest task g

  -- and each arrival is counted once
  pub record IsFineScene (s : Scene) : Type 0 where
    pub fine : IsFine s.running s.context s.progress
    pub counted : (task : ℕ) → used task s ≡ times task

  -- it goes on, and all stands as before
  abbrev pub GoesFine : Outcome → Type 0
  GoesFine o = (s : Scene) × (o ≡ going s) × IsFineScene s

  pub fine_here : (s : Scene) → IsFineScene s → GoesFine (going s)
  fine_here s f = (s, refl, f)

  -- ---- the stack

  pub record HasDepth (running : List ℕ) (c : Context) : Type 0 where
    pub proper : IsProper c.pc c.registers
    pub aligned : stack_pointer_of c % 16 ≡ 0
    pub low : stack_base p.system.size ≤ stack_pointer_of c
    pub high : stack_pointer_of c ≤ stack_top
    -- what comes first finds the room of its level
    pub deep : (task : ℕ) → comes_first p.system task running ≡ true → stack_top ≤ stack_pointer_of c + below (priority_of p.system task)

  -- of two tasks the one that runs above has the greater priority
  pub not_running : (running : List ℕ) (c : Context) (g : Progress) → IsStack running c g → (task : ℕ) → comes_first p.system task running ≡ true → IsIn task running → ⊥
  not_running [] c g s task first there = there
  not_running (other ∷ running) c g (ceiling, l, under) task first there =
      ⊎_elim same (not_running running (taken_back g.memory ceiling) g under task above) there
    where
      greater : priority_of p.system other < priority_of p.system task
      greater = grind (arith, nat_tests, first)

      same : task ≡ other → ⊥
      same e = let q = ap (priority_of p.system) e in let lt = greater in omega (arith, q, lt)

      first_on : (rest : List ℕ) → comes_first p.system other rest ≡ true → comes_first p.system task rest ≡ true
      first_on [] e = refl
      first_on (next ∷ rest) e = let lt = greater in grind (arith, nat_tests, e, lt)

      above : comes_first p.system task running ≡ true
      above = first_on running l.first

  -- ---- what others leave alone

  pub record SparesTask (task : ℕ) (g later : Progress) : Type 0 where
    pub kept : (at : ℕ) → has_byte p task at ≡ true → later.memory at ≡ g.memory at
    pub inputs : later.inputs task ≡ g.inputs task
    pub written : bytes_by task later.written ≡ bytes_by task g.written
    pub returned : later.returned task ≡ g.returned task

  pub record Spares (running : List ℕ) (sp : ℕ) (g later : Progress) : Type 0 where
    pub stack : (at : ℕ) → sp ≤ at → later.memory at ≡ g.memory at
    pub bytes : AreBytes later.memory
    pub each : (task : ℕ) → task < length p.system.tasks → IsIn task running → SparesTask task g later

  module _ (works : IsWork p bound times) (fits : HasRoom p bound times below) where
    pub depth : (running : List ℕ) (c : Context) (g : Progress) → IsStack running c g → HasDepth running c
    depth [] c g s =
        let x2 = s.x2 in
        let small = works.most in
        record {
          proper = s.proper;
          aligned = omega (arith, x2);
          low = omega (arith, x2, small);
          high = omega (arith, x2);
          deep = λ task first. omega (arith, x2);
        }
    depth (task ∷ running) c g (ceiling, l, under) =
        let t = stands p bound times works task (g.returned task) ceiling (seen_by task c g) l.amid in
        let deep = t.deep in
        let room = t.has_room in
        let le = t.below in
        let above = l.above in
        let level = l.level in
        let counted = l.amid.entered.counted in
        let more = fits.level task (omega (arith, counted)) in
        record {
          proper = t.state.proper;
          aligned = t.aligned;
          low = omega (arith, deep, room);
          high = omega (arith, le, above);
          deep = λ next first.
              let lt : priority_of p.system task < priority_of p.system next = grind (arith, nat_tests, first) in
              let grows = fits.grows (priority_of p.system task + 1) (priority_of p.system next) (omega (arith, lt)) in
              omega (arith, deep, level, more, grows);
        }

    pub at_rest_spared : (task : ℕ) (g later : Progress) → IsAtRest task g → SparesTask task g later → IsAtRest task later
    at_rest_spared task g later r s = record {
      world = r.world;
      rests = rests_on p task r.world.memory g.memory later.memory r.rests s.kept;
      input = s.inputs ∙ r.input;
      alone = subst (λ (o : List ℕ). Alone p task (later.returned task) o r.world) (sym s.written) (subst (λ (n : ℕ). Alone p task n (bytes_by task g.written) r.world) (sym s.returned) r.alone);
    }

    amid_spared : (task ceiling : ℕ) (c : Context) (g later : Progress) → IsAmid p bound times task (g.returned task) ceiling (seen_by task c g) → SparesTask task g later → ((at : ℕ) → stack_pointer_of c ≤ at → later.memory at ≡ g.memory at) → AreBytes later.memory → IsAmid p bound times task (later.returned task) ceiling (seen_by task c later)
    amid_spared task ceiling c g later a s above bytes =
        let stirred = amid_stirred p bound times works task (g.returned task) ceiling (seen_by task c g) later.memory a (record { same = λ at own. ⊎_elim (above at) (s.kept at) own }) bytes in
        let with_output = subst (λ (o : List ℕ). IsAmid p bound times task (g.returned task) ceiling (record { pc = c.pc; registers = c.registers; memory = later.memory; input = g.inputs task; output = o })) (sym s.written) stirred in
        let with_input = subst (λ (i : List ℕ). IsAmid p bound times task (g.returned task) ceiling (record { pc = c.pc; registers = c.registers; memory = later.memory; input = i; output = bytes_by task later.written })) (sym s.inputs) with_output in
        subst (λ (n : ℕ). IsAmid p bound times task n ceiling (seen_by task c later)) (sym s.returned) with_input

    pub stack_spared : (running : List ℕ) (c : Context) (g later : Progress) → IsStack running c g → Spares running (stack_pointer_of c) g later → IsStack running c later
    stack_spared [] c g later s spares = s
    stack_spared (task ∷ running) c g later (ceiling, l, under) spares =
        let t = stands p bound times works task (g.returned task) ceiling (seen_by task c g) l.amid in
        let le = t.below in
        let x2 = l.x2 in
        let same : taken_back later.memory ceiling ≡ taken_back g.memory ceiling = same_context g.memory later.memory ceiling (λ at lo hi. spares.stack at (omega (arith, lo, le))) in (
          ceiling,
          record {
            there = l.there;
            amid = amid_spared task ceiling c g later l.amid (spares.each task l.there (inl refl)) spares.stack spares.bytes;
            level = l.level;
            above = l.above;
            x2 = ap stack_pointer_of same ∙ l.x2;
            first = l.first;
          },
          subst (λ (c : Context). IsStack running c later) (sym same) (stack_spared running (taken_back g.memory ceiling) g later under (record {
            stack = λ at lo. spares.stack at (omega (arith, lo, le, x2));
            bytes = spares.bytes;
            each = λ other known there. spares.each other known (inr there);
          })),
        )

    pub gave_in : (running : List ℕ) (c : Context) (g : Progress) (task : ℕ) → IsStack running c g → IsIn task running → GaveSoFar p task (times task) (g.returned task) (bytes_by task g.written)
    gave_in [] c g task s there = absurd there
    gave_in (other ∷ running) c g task (ceiling, l, under) there =
        ⊎_elim
        (λ e. subst (λ (t : ℕ). GaveSoFar p t (times t) (g.returned t) (bytes_by t g.written)) (sym e) (stands p bound times works other (g.returned other) ceiling (seen_by other c g) l.amid).gave)
        (λ further. gave_in running (taken_back g.memory ceiling) g task under further)
        there

    gave_at_rest : (task : ℕ) (g : Progress) → g.returned task ≤ times task → IsAtRest task g → GaveSoFar p task (times task) (g.returned task) (bytes_by task g.written)
    gave_at_rest task g few r = record {
      few = few;
      whole = bytes_by task g.written;
      world = r.world;
      alone = r.alone;
      part = [];
      is = sym (append-nil (bytes_by task g.written));
      next = inl refl;
      n = 0;
      rest = output_of (events_of (activation p task r.world 0));
      begins = refl;
    }

    pub fine_gave : (running : List ℕ) (c : Context) (g : Progress) → IsFine running c g → (task : ℕ) → task < length p.system.tasks → g.returned task ≤ times task → GaveSoFar p task (times task) (g.returned task) (bytes_by task g.written)
    fine_gave running c g f task known few = ⊎_elim (λ there. gave_in running c g task f.stack there) (λ out. gave_at_rest task g few (f.rest task known out)) (decide_in task running)
