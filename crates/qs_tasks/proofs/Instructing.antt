-- An instruction is taken: it leaves alone what isn't the running task's own.
use Rattle.std.proofs.Common.{◌≡◌, inl, inr, ⊎_elim, ℕ, ◌≤◌, ◌<◌, ◌^◌, true, false, List, ◌∷◌, length, All, refl, sym, ap, ◌∙◌, subst, arith}
use Rattle.std.specs.Prelude.{◌==◌}
use Rattle.std.proofs.lemmas.Bool.{cases_Bool, cases_eq}
use Rattle.std.proofs.lemmas.Bool.Decides.{nat_tests}
use Rattle.qs_machine.specs.State.{State, stack_base}
use Rattle.qs_machine.specs.Step.{Next}
use Rattle.qs_machine.specs.Laws.{IsKept}
use Rattle.qs_machine.proofs.StepLaws.{steps_keep_states}
use Rattle.qs_emit.specs.Lies.{AreBytes}
use Rattle.qs_tasks_run.specs.Contexts.{Context, stack_pointer_of, taken_back}
use Rattle.qs_tasks_run.specs.TasksRun.{Progress, Scene, stepped, bytes_by, with_input, new_output, seen_by, behind, instruct}
use Rattle.qs_tasks.specs.Alone.{Program}
use Rattle.qs_tasks.proofs.LeftBytes.{leaves}
use Rattle.qs_tasks.proofs.Setting.{changes_byte, room, IsWork, HasRoom, kept_below, changed_below, isolated, short}
use Rattle.qs_tasks.proofs.Among.{nobody, CanStep}
use Rattle.qs_tasks.proofs.Activations.{IsAmid, Stands, stands, can_step, goes_one}
use Rattle.qs_tasks.proofs.ContextLaws.{same_context}
use Rattle.qs_tasks.proofs.PutLaws.{own_grown, other_same}
use Rattle.qs_tasks.proofs.SceneLaws.{used, GoesFine, IsIn, IsLevel, IsStack, IsFine, not_running, SparesTask, depth, at_rest_spared, stack_spared}

input_there : (inputs : ℕ → List ℕ) (task : ℕ) (input : List ℕ) → with_input inputs task input task ≡ input
input_there inputs task input = let e : (task == task) ≡ true = grind (arith, nat_tests) in rw e refl

input_elsewhere : (inputs : ℕ → List ℕ) (task : ℕ) (input : List ℕ) (other : ℕ) → (other ≡ task → ⊥) → with_input inputs task input other ≡ inputs other
input_elsewhere inputs task input other ne = let e : (other == task) ≡ false = grind (arith, nat_tests, ne) in rw e refl

module _ (p : Program) (bound times below : ℕ → ℕ) (works : IsWork p bound times) (fits : HasRoom p bound times below) where
  module _ (task : ℕ) (running : List ℕ) (s : Scene) (f : IsFine p bound times below (task ∷ running) s.context s.progress) (counted : (other : ℕ) → used other s ≡ times other) (pc : s.context.pc ≡ 0 → ⊥) where
    abbrev c : Context
    c = s.context

    abbrev g : Progress
    g = s.progress

    abbrev ceiling : ℕ
    ceiling = f.stack.0

    abbrev l : IsLevel p bound times below task running ceiling c g
    l = f.stack.1

    abbrev under : IsStack p bound times below running (taken_back g.memory ceiling) g
    under = f.stack.2

    abbrev now : State
    now = seen_by task c g

    abbrev t : Stands p bound times task (g.returned task) ceiling now
    t = stands p bound times works task (g.returned task) ceiling now l.amid

    abbrev one : CanStep p task ceiling now
    one = can_step p bound times works task (g.returned task) ceiling now l.amid pc

    abbrev later : Progress
    later = (behind task one.next s).progress

    keeps_state : IsKept now one.next
    keeps_state = steps_keep_states p.system.image p.system.size now one.next (short p works.tasks) t.state one.steps

    -- data that this task may not change, and the stack from its ceiling on
    leaves_data : (at : ℕ) → at < stack_base p.system.size → changes_byte p task at ≡ false → later.memory at ≡ g.memory at
    leaves_data at lt free =
        let d = depth p bound times below works fits (task ∷ running) c g f.stack in
        let low = d.low in
        leaves p.system.image p.system.size (room p task ceiling nobody) now at (record { off_stack = inl (omega (arith, lt, low)); off_data = free }) one.instruction one.next one.is one.keeps one.steps

    leaves_stack : (at : ℕ) → ceiling ≤ at → later.memory at ≡ g.memory at
    leaves_stack at le = leaves p.system.image p.system.size (room p task ceiling nobody) now at (record { off_stack = inr le; off_data = ⊎_elim (λ e. absurd (above_data e)) (λ e. e) (cases_Bool (changes_byte p task at)) }) one.instruction one.next one.is one.keeps one.steps
      where
        above_data : changes_byte p task at ≡ true → ⊥
        above_data e = let lt = changed_below p works.tasks works.most task at l.there e in let room = t.has_room in omega (arith, lt, room, le)

    spares_other : (other : ℕ) → other < length p.system.tasks → (other ≡ task → ⊥) → SparesTask p bound times below other g later
    spares_other other known ne = record {
      kept = λ at kept. leaves_data at (kept_below p works.tasks works.most other at known kept) (isolated p works.tasks other task known l.there ne at kept);
      inputs = input_elsewhere g.inputs task one.next.input other ne;
      written = other_same task other g.written (new_output now one.next) ne;
      returned = refl;
    }

    bytes_later : AreBytes later.memory
    bytes_later = keeps_state.state.bytes

    inputs_later : (other : ℕ) → other < length p.system.tasks → All (λ byte. byte < 2 ^ 8) (later.inputs other)
    inputs_later other known = ⊎_elim same different (cases_eq other task)
      where
        same : other ≡ task → All (λ byte. byte < 2 ^ 8) (later.inputs other)
        same e = subst (λ (n : ℕ). All (λ byte. byte < 2 ^ 8) (later.inputs n)) (sym e) (subst (λ (i : List ℕ). All (λ byte. byte < 2 ^ 8) i) (sym (input_there g.inputs task one.next.input)) keeps_state.state.input)

        different : (other ≡ task → ⊥) → All (λ byte. byte < 2 ^ 8) (later.inputs other)
        different ne = subst (λ (i : List ℕ). All (λ byte. byte < 2 ^ 8) i) (sym (input_elsewhere g.inputs task one.next.input other ne)) (f.inputs other known)

    out_of_running : IsIn task running → ⊥
    out_of_running = not_running p bound times below running (taken_back g.memory ceiling) g under task l.first

    written_later : bytes_by task later.written ≡ one.next.output
    written_later = own_grown task g.written one.next.output keeps_state.puts.0 keeps_state.puts.1

    amid_later : IsAmid p bound times task (g.returned task) ceiling (seen_by task (behind task one.next s).context later)
    amid_later =
        let a = goes_one p bound times works task (g.returned task) ceiling now l.amid one in
        let n = one.next in
        let with_in = subst (λ (i : List ℕ). IsAmid p bound times task (g.returned task) ceiling (record { pc = n.pc; registers = n.registers; memory = n.memory; input = i; output = n.output })) (sym (input_there g.inputs task n.input)) a in
        subst (λ (o : List ℕ). IsAmid p bound times task (g.returned task) ceiling (record { pc = n.pc; registers = n.registers; memory = n.memory; input = later.inputs task; output = o })) (sym written_later) with_in

    behind_fine : IsFine p bound times below (task ∷ running) (behind task one.next s).context later
    behind_fine =
        let same : taken_back later.memory ceiling ≡ taken_back g.memory ceiling = same_context g.memory later.memory ceiling (λ at lo hi. leaves_stack at lo) in
        let x2 = l.x2 in
        record {
          bytes = bytes_later;
          inputs = inputs_later;
          stack = (
            ceiling,
            record {
              there = l.there;
              amid = amid_later;
              level = l.level;
              above = l.above;
              x2 = ap stack_pointer_of same ∙ l.x2;
              first = l.first;
            },
            subst (λ (x : Context). IsStack p bound times below running x later) (sym same) (stack_spared p bound times below works fits running (taken_back g.memory ceiling) g later under (record {
              stack = λ at lo. leaves_stack at (omega (arith, lo, x2));
              bytes = bytes_later;
              each = λ other known there. spares_other other known (λ e. out_of_running (subst (λ (t : ℕ). IsIn t running) e there));
            })),
          );
          rest = λ other known out. at_rest_spared p bound times below works fits other g later (f.rest other known out) (spares_other other known (λ e. out (inl e)));
        }

    pub instructs_fine : s.running ≡ task ∷ running → GoesFine p bound times below (instruct p.system task s)
    instructs_fine e =
        let goes : instruct p.system task s ≡ stepped task s (Next one.next) = ap (stepped task s) one.steps in
        (behind task one.next s, goes, record { fine = subst (λ (r : List ℕ). IsFine p bound times below r (behind task one.next s).context later) (sym e) behind_fine; counted = counted })
