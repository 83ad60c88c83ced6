-- The hart before the first arrival stands at the start of the definition.
use Rattle.std.proofs.Common.{◌≡◌, ℕ, zero, suc, ◌-◌, ◌≤◌, ◌<◌, Bool, true, false, List, [], length, map, take, drop, replicate, get_or, refl, sym, ap, ◌∙◌, arith}
use Rattle.std.specs.Prelude.{if◌then◌else◌, ◌&&◌, ◌==◌, nat_le, slice_index, vec_capacity}
use Rattle.std.proofs.Math.Path.{fun_ext}
use Rattle.std.proofs.lemmas.Bool.Decides.{nat_tests}
use Rattle.std.proofs.lemmas.List.{length-replicate}
use Rattle.std.proofs.lemmas.List.Elements.{All-nil, All-same}
use Rattle.qs_isa.specs.Registers.{sp, a0, a7}
use Rattle.qs_image.specs.Image.{Image}
use Rattle.qs_machine.specs.declared.machine.Machine.{Machine}
use Rattle.qs_machine.specs.State.{State, stack_top}
use Rattle.qs_machine.specs.Run.{start_registers, start_memory}
use Rattle.qs_machine.specs.Running.{StandsAtStart}
use Rattle.qs_machine.specs.Parts.{registers_in, Changes}
use Rattle.qs_tasks_run.specs.Tasks.{arrival_of}
use Rattle.qs_tasks_run.specs.Contexts.{Context}
use Rattle.qs_tasks_run.specs.TasksRun.{System, task_at, Scene, start, start_context}
use Rattle.qs_tasks_machine.specs.declared.hart.Hart.{Hart}
use Rattle.qs_tasks_machine.specs.Harts.{count_of, progress_in, scene_of, RunsTasks, HasRoom}
use Rattle.qs_tasks_machine.specs.Reports.{AreArrivals, AreEntries, StandsReady, system_of}
use Rattle.qs_tasks_machine.proofs.Changes.{memory_then, context_then}

pub zeros_in : (n i : ℕ) → slice_index (replicate n 0) i ≡ 0
zeros_in zero i = refl
zeros_in (suc n) zero = refl
zeros_in (suc n) (suc i) = zeros_in n i

pub zeros_of : (n m i : ℕ) → slice_index (take n (replicate m 0)) i ≡ 0
zeros_of zero m i = refl
zeros_of (suc n) zero i = refl
zeros_of (suc n) (suc m) zero = refl
zeros_of (suc n) (suc m) (suc i) = zeros_of n m i

registers_0 : (args : List ℕ) → ((i : ℕ) → slice_index args i ≡ 0) → start_registers args ≡ start_context.registers
registers_0 args none = fun_ext (λ n. by n (n == sp) (nat_le a0 n && nat_le n a7))
  where
    by : (n : ℕ) (b c : Bool) → (if b then stack_top else if c then slice_index args (n - a0) else 0) ≡ (if b then stack_top else 0)
    by n true c = refl
    by n false true = none (n - a0)
    by n false false = refl

pub stands_ready : (image : Image) (stack : ℕ) (args : List ℕ) (m n : Machine) → ((i : ℕ) → slice_index args i ≡ 0) → StandsAtStart m image stack args → Changes m n (λ s. record s { pc = 0 }) → StandsReady image stack n
stands_ready image stack args m n none h c =
    let s = h [] in
    let registers : registers_in m ≡ start_context.registers = ap (λ (x : State). x.registers) (sym s.at) ∙ registers_0 args none in
    record {
      loaded = c.loaded image stack s.loaded;
      going = c.ended ∙ s.going;
      context = context_then m n (λ x. record x { pc = 0 }) c ∙ ap (λ (f : ℕ → ℕ). let d : Context = record { pc = 0; registers = f } in d) registers;
      memory = memory_then m n (λ x. record x { pc = 0 }) c ∙ ap (λ (x : State). x.memory) (sym s.at);
    }

module _ (image : Image) (stack : ℕ) (k : Hart) (ready : StandsReady image stack k.machine) (entries : AreEntries image 0 k.tasks.now k.entries.items) (taken : k.taken.items ≡ replicate (count_of k) 0) (returned : k.returned.items ≡ replicate (count_of k) 0) (runs : k.running.items ≡ []) (waits : k.waiting.items ≡ []) (known : AreArrivals k.tasks.now k.coming.now) where
  abbrev y : System
  y = system_of image stack k.tasks.now

  taken_0 : (t : ℕ) → slice_index k.taken.items t ≡ 0
  taken_0 t = ap (λ (l : List ℕ). get_or l t 0) taken ∙ zeros_in (count_of k) t

  returned_0 : (t : ℕ) → slice_index k.returned.items t ≡ 0
  returned_0 t = ap (λ (l : List ℕ). get_or l t 0) returned ∙ zeros_in (count_of k) t

  registers_are : registers_in k.machine ≡ start_context.registers
  registers_are = ap (λ (c : Context). c.registers) ready.context

  none_at : (n : ℕ) → 32 ≤ n → start_context.registers n ≡ 0
  none_at n le = let e : (n == sp) ≡ false = grind (arith, nat_tests, le) in rw e refl

  pub started_runs : k.base ≡ stack_top - stack → RunsTasks k y
  started_runs base =
      let pointer : registers_in k.machine sp ≡ stack_top = ap (λ (f : ℕ → ℕ). f sp) registers_are in
      record {
        machine = record {
          loaded = ready.loaded;
          going = ready.going;
          base_is = base;
          low = omega (arith, base, pointer);
          high = omega (arith, pointer);
          no_more = λ n le. ap (λ (f : ℕ → ℕ). f n) registers_are ∙ none_at n le;
        };
        tasks = record { tasks_are = refl; each = entries.each; entry = entries.entry };
        counts = record {
          each_taken = ap length taken ∙ length-replicate (count_of k) 0;
          each_returned = ap length returned ∙ length-replicate (count_of k) 0;
          within = λ t lt. let none = taken_0 t in omega (arith, none);
        };
        known = record {
          run = All-same (λ (t : ℕ). t < count_of k) k.running.items [] runs (All-nil (λ (t : ℕ). t < count_of k));
          wait = All-same (λ (t : ℕ). t < count_of k) k.waiting.items [] waits (All-nil (λ (t : ℕ). t < count_of k));
          come = known;
        };
      }

  abbrev scene : Context → (ℕ → ℕ) → (ℕ → List ℕ) → (ℕ → ℕ) → List ℕ → List ℕ → (time : ℕ) → Scene
  scene context memory inputs returned running waiting time = record {
    context = context;
    progress = record { memory = memory; inputs = inputs; written = []; returned = returned };
    running = running;
    waiting = waiting;
    coming = map arrival_of k.coming.now;
    time = time;
  }

  pub started_scene : k.time ≡ 0 → scene_of y k [] ≡ start y (map arrival_of k.coming.now)
  started_scene none =
      let p = progress_in y k [] in
      let inputs : p.inputs ≡ (λ (t : ℕ). (task_at y.tasks t).input) = fun_ext (λ t. ap (λ (n : ℕ). drop n (task_at y.tasks t).input) (taken_0 t)) in
      let counts : p.returned ≡ (λ (t : ℕ). 0) = fun_ext returned_0 in
      ap (λ (c : Context). scene c p.memory p.inputs p.returned k.running.items k.waiting.items k.time) ready.context
      ∙ ap (λ (m : ℕ → ℕ). scene start_context m p.inputs p.returned k.running.items k.waiting.items k.time) ready.memory
      ∙ ap (λ (f : ℕ → List ℕ). scene start_context (start_memory image) f p.returned k.running.items k.waiting.items k.time) inputs
      ∙ ap (λ (f : ℕ → ℕ). scene start_context (start_memory image) (λ t. (task_at y.tasks t).input) f k.running.items k.waiting.items k.time) counts
      ∙ ap (λ (l : List ℕ). scene start_context (start_memory image) (λ t. (task_at y.tasks t).input) (λ t. 0) l k.waiting.items k.time) runs
      ∙ ap (λ (l : List ℕ). scene start_context (start_memory image) (λ t. (task_at y.tasks t).input) (λ t. 0) [] l k.time) waits
      ∙ ap (λ (n : ℕ). scene start_context (start_memory image) (λ t. (task_at y.tasks t).input) (λ t. 0) [] [] n) none

  pub started_room : length k.coming.now ≤ vec_capacity k.running → length k.coming.now ≤ vec_capacity k.waiting → HasRoom k 0
  started_room a b =
      let r = ap length runs in
      let w = ap length waits in
      let small = k.running.small in
      record {
        running = omega (arith, a, r, w);
        waiting = omega (arith, b, r, w);
        returned = λ t lt. let none = returned_0 t in omega (arith, none, a, r, w, small);
      }
