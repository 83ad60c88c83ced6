-- Tasks of a source on one stack are safe.
use Rattle.std.proofs.Common.{◌≡◌, ◌∙◌, ℕ, ◌+◌, ◌<◌, Bool, true, false, List, length, refl, sym, ap, arith}
use Rattle.qs_memory.specs.Memory.{Block, Memory, block_at}
use Rattle.qs_memory.specs.Soundness.{IsLive}
use Rattle.qs_memory.proofs.BlockLaws.{live_known}
use Rattle.qs_meaning.specs.Units.{block_of}
use Rattle.std.proofs.lemmas.List.{length-map}
use Rattle.qs_hiding.specs.Hidden.{Reach, seen, hidden}
use Rattle.qs_hiding.proofs.HiddenMemory.{block_hidden, kept_block, length-hidden}
use Rattle.qs_core.specs.Units as core
use Rattle.qs_tasks_run.specs.Tasks.{Arrival}
use Rattle.qs_tasks_run.specs.TasksRun.{no_task}
use Rattle.qs_tasks_run.specs.StackSize.{Claim}
use Rattle.qs_tasks.specs.Alone.{Program}
use Rattle.qs_tasks.specs.Isolated.{IsPartOf}
use Rattle.qs_tasks.specs.Isolated as memories
use Rattle.qs_tasks.specs.Safe.{AreTasks, arrivals_of, bound_of}
use Rattle.qs_tasks.specs.Safe as tasks
use Rattle.qs_tasks.proofs.TasksSafe.{arrives_known, tasks_are_safe}
use Rattle.qs_tasks_source.specs.Safe.{Source, task_of, IsBuilt, AreIsolated, AreClaims, MayRun, SourceTasksAreSafe}
use Rattle.qs_tasks_source.proofs.SourceLaws.{RunsAsSource, runs_as_source, no_parameters, function_there}
use Rattle.qs_tasks_source.proofs.Following.{program_of, is_defined, is_bounded, gave_alone}

-- ---- hidden memory

-- what lives in it is kept
live_kept : (r : Reach) (m : Memory) (b : ℕ) → IsLive (hidden r m) b → r.keeps b ≡ true
live_kept r m b live = by (r.keeps b) refl
  where
    by : (t : Bool) → r.keeps b ≡ t → r.keeps b ≡ true
    by true e = e
    by false e =
        let here : 0 + b ≡ b = omega arith in
        let dead : (block_at (hidden r m) b).is_live ≡ false =
        ap (λ (c : Block). c.is_live)
        (block_hidden r 0 m b ∙ ap (λ (k : ℕ). seen (r.keeps k) (block_at m b)) here ∙ ap (λ (k : Bool). seen k (block_at m b)) e)
        in
        let differ : true ≡ false = sym live ∙ dead in
        absurd (let never : ⊥ = cc in never)

is_part : (r : Reach) (m : Memory) → IsPartOf m (hidden r m)
is_part r m = record { count = length-hidden r m; blocks = λ block live. kept_block r m block (live_kept r m block live) }

module _ (s : Source) (claims : List Claim) (arrivals : List Arrival) (size : ℕ) (built : IsBuilt s) (isolated : AreIsolated s) (are : AreClaims s claims) (may : MayRun s claims arrivals size) where
  abbrev p : Program
  p = program_of s size

  abbrev runs : RunsAsSource s
  runs = runs_as_source s built

  apart : (task other : ℕ) → task < length s.tasks → other < length s.tasks → (task ≡ other → ⊥) → memories.AreIsolated (p.memory_of task) (p.memory_of other)
  apart task other here there differ = record {
    isolated = λ block live lives.
        let m : Memory = core.initial_memory s.core in
        let few = live_known (hidden (s.reach_of task) m) block live in
        let one = length-hidden (s.reach_of task) m in
        let same = ap length runs.memory in
        let many = length-map s.program.blocks block_of in
        let kept = live_kept (s.reach_of task) m block live in
        let fixed = isolated.apart task other here there differ block (omega (arith, few, one, same, many)) kept (live_kept (s.reach_of other) m block lives) in
        ap (λ (b : Block). b.is_writable) (kept_block (s.reach_of task) m block kept ∙ ap (λ (m : Memory). block_at m block) runs.memory) ∙ fixed;
  }

  are_tasks : AreTasks p
  are_tasks = record {
    emitted = built.emitted;
    well_formed = built.well_formed;
    known = λ task here. let b = are.bounded task here in function_there s.core (task_of s task).function b.body b.is;
    without_parameters = λ task here. let b = are.bounded task here in no_parameters s.core (task_of s task).function b.body b.is b.without_parameters;
    inputs = may.inputs;
    parts = λ task here. is_part (s.reach_of task) (core.initial_memory s.core);
    isolated = apart;
  }

  known : (task : ℕ) → 0 < arrivals_of arrivals task → task < length s.tasks
  known task some = arrives_known arrivals (length s.tasks) task may.arrive some

  may_run : tasks.MayRun p claims arrivals
  may_run = record {
    arrive = may.arrive;
    defined = λ task. record {
      defined = λ number n before w lt so_far e.
          let here = known task (omega (arith, lt)) in
          is_defined s size runs task (isolated.stay task here) (may.inputs task no_task here) are.given are.proofs are.covers (bound_of claims task) (are.bounded task here)
          (arrivals_of arrivals task) number n before w (may.defined task here) lt so_far e;
      weighs = λ number n before w lt so_far.
          let here = known task (omega (arith, lt)) in
          is_bounded s size runs task (isolated.stay task here) (may.inputs task no_task here) are.given are.proofs are.covers (bound_of claims task) (are.bounded task here)
          number n before w so_far;
    };
    priorities = are.priorities;
    low_priorities = are.low_priorities;
    most = may.most;
    enough = may.enough;
  }

pub source_tasks_are_safe : SourceTasksAreSafe
source_tasks_are_safe s claims arrivals size instructions built isolated are may =
    let safe = tasks_are_safe (program_of s size) claims arrivals instructions (are_tasks s claims arrivals size built isolated are may) (may_run s claims arrivals size built isolated are may) in
    record {
      scene = safe.scene;
      goes = safe.goes;
      gave = λ task here.
          gave_alone s size (runs_as_source s built) task (isolated.stay task here) (may.inputs task no_task here) are.given are.proofs are.covers (bound_of claims task) (are.bounded task here)
          (arrivals_of arrivals task) (safe.scene.progress.returned task) _ (safe.gave task here);
      all = safe.all;
    }
