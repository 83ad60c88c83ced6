-- The machine that is watched is the machine, where nobody changes anything.
use Rattle.std.proofs.Common.{◌≡◌, ℕ, zero, suc, ◌+◌, ◌≤◌, Bool, true, false, Option, Some, None, refl, sym, ap, ◌∙◌, subst, arith}
use Rattle.std.specs.Prelude.{min, nat_lt, ◌&&◌, not, if◌then◌else◌}
use Rattle.std.proofs.Math.Path.{fun_ext}
use Rattle.qs_memory.specs.Partial.{◌>>=◌}
use Rattle.qs_isa.specs.declared.instruction.Instr.{Instr}
use Rattle.qs_isa.specs.Table.{decode_of}
use Rattle.qs_image.specs.Image.{Image}
use Rattle.qs_machine.specs.State.{State, stack_pointer}
use Rattle.qs_machine.specs.Step.{StepResult, Next, Exits, Traps, act, act_on, fetch, step_on, step}
use Rattle.qs_machine.specs.Run.{outcome_after, run, least_after, least_from}
use Rattle.qs_emit.specs.Machine.{Room, Watched, Sight, goes, exits, traps, breaks, only, keeps_to, is_set, stirred_byte, stirred, then_goes, watch_on, watch, after, watched, IsQuiet, Refines}
use Rattle.qs_emit.specs.Laws.{Leads, WatchingSteps, WatchingLeads}

pub least_is_least : (image : Image) (size steps : ℕ) (s : State) → least_from image size steps s ≤ stack_pointer s
least_is_least image size zero s = omega arith
least_is_least image size (suc steps) s = first (step image size s)
  where
    first : (r : StepResult) → least_after r (least_from image size steps) (stack_pointer s) ≤ stack_pointer s
    first (Next t) = omega arith
    first (Exits status) = omega arith
    first (Traps cause) = omega arith

same_either : {A : Type 0} → (b : Bool) (x : A) → (if b then x else x) ≡ x
same_either true x = refl
same_either false x = refl

module _ (image : Image) (r : Room) (quiet : IsQuiet r) where
  stirs_nothing : (time sp : ℕ) (memory : ℕ → ℕ) → stirred_byte r time sp memory ≡ memory
  unfolding stirred_byte
  stirs_nothing time sp memory = fun_ext (λ address.
      ap (λ (others : ℕ → (ℕ → ℕ) → ℕ → ℕ). if nat_lt address sp && not (r.is_kept address) then others time memory address else memory address) quiet
      ∙ same_either (nat_lt address sp && not (r.is_kept address)) (memory address))

  stirred_same : (time : ℕ) (s : State) → stirred r time s ≡ s
  stirred_same time s = ap (λ (m : ℕ → ℕ). record s { memory = m }) (stirs_nothing time (stack_pointer s) s.memory)

  abbrev AreRefined : (steps : ℕ) → Type 0
  AreRefined steps = (w : Watched) → w.low ≤ stack_pointer w.now → Refines (watched image r steps w) (run image r.size steps w.now) (min w.low (least_from image r.size steps w.now))

  next_refines : (steps : ℕ) (w : Watched) (s : State) → AreRefined steps → w.low ≤ stack_pointer w.now → (set : Bool)
      → Refines (after (only set (goes (record { now = stirred r w.time s; low = min w.low (stack_pointer s); time = w.time + 1 }))) (watched image r steps)) (run image r.size steps s) (min w.low (min (stack_pointer w.now) (least_from image r.size steps s)))
  next_refines steps w s more low false = tt
  next_refines steps w s more low true =
      let least : least_from image r.size steps s ≤ stack_pointer s = least_is_least image r.size steps s in
      let e : min (min w.low (stack_pointer s)) (least_from image r.size steps s) ≡ min w.low (min (stack_pointer w.now) (least_from image r.size steps s)) = omega (arith, least, low) in
      let here : Refines (watched image r steps (record { now = s; low = min w.low (stack_pointer s); time = w.time + 1 })) (run image r.size steps s) (min (min w.low (stack_pointer s)) (least_from image r.size steps s)) = more (record { now = s; low = min w.low (stack_pointer s); time = w.time + 1 }) (omega arith) in
      subst (λ (t : State). Refines (watched image r steps (record { now = t; low = min w.low (stack_pointer s); time = w.time + 1 })) (run image r.size steps s) (min w.low (min (stack_pointer w.now) (least_from image r.size steps s)))) (sym (stirred_same w.time s))
      (subst (λ (l : ℕ). Refines (watched image r steps (record { now = s; low = min w.low (stack_pointer s); time = w.time + 1 })) (run image r.size steps s) l) e here)

  result_refines : (steps : ℕ) (w : Watched) (keeps : Bool) (result : StepResult) → AreRefined steps → w.low ≤ stack_pointer w.now
      → Refines (after (only keeps (then_goes r w result)) (watched image r steps)) (outcome_after w.now result (run image r.size steps)) (min w.low (least_after result (least_from image r.size steps) (stack_pointer w.now)))
  result_refines steps w false result more low = tt
  result_refines steps w true (Next s) more low = next_refines steps w s more low (is_set r s)
  result_refines steps w true (Exits status) more low = (refl, omega (arith, low))
  result_refines steps w true (Traps cause) more low = refl

  decoded_refines : (steps : ℕ) (w : Watched) (o : Option Instr) → AreRefined steps → w.low ≤ stack_pointer w.now
      → Refines (after (watch_on image r w o) (watched image r steps)) (outcome_after w.now (act_on image r.size w.now o) (run image r.size steps)) (min w.low (least_after (act_on image r.size w.now o) (least_from image r.size steps) (stack_pointer w.now)))
  decoded_refines steps w None more low = tt
  decoded_refines steps w (Some i) more low = result_refines steps w (keeps_to r w.now i) (act image r.size w.now i) more low

  fetched_refines : (steps : ℕ) (w : Watched) (o : Option ℕ) → AreRefined steps → w.low ≤ stack_pointer w.now
      → Refines (after (watch_on image r w (o >>= decode_of)) (watched image r steps)) (outcome_after w.now (step_on image r.size w.now o) (run image r.size steps)) (min w.low (least_after (step_on image r.size w.now o) (least_from image r.size steps) (stack_pointer w.now)))
  fetched_refines steps w None more low = tt
  fetched_refines steps w (Some word) more low = decoded_refines steps w (decode_of word) more low

  pub watching_refines : (steps : ℕ) (w : Watched) → w.low ≤ stack_pointer w.now → Refines (watched image r steps w) (run image r.size steps w.now) (min w.low (least_from image r.size steps w.now))
  watching_refines zero w low = (refl, omega (arith, low))
  watching_refines (suc steps) w low = fetched_refines steps w (fetch image w.now.pc) (watching_refines steps) low

-- ---- steps

-- what a step gives is what is watched, but for what others make of it
record IsNext (r : Room) (w to : Watched) (result : StepResult) : Type 0 where
  next : State
  is : result ≡ Next next
  set : is_set r next ≡ true
  stirs : to.now ≡ stirred r w.time next
  low : to.low ≡ min w.low (stack_pointer next)
  time : to.time ≡ w.time + 1

-- and it is what an instruction gives that keeps to the rules
record IsActed (r : Room) (w to : Watched) (o : Option Instr) (result : StepResult) : Type 0 where
  instruction : Instr
  is : o ≡ Some instruction
  keeps : keeps_to r w.now instruction ≡ true
  gives : IsNext r w to result

module _ (image : Image) (r : Room) (w to : Watched) where
  set_next : (s : State) (set : Bool) → is_set r s ≡ set → only set (goes (record { now = stirred r w.time s; low = min w.low (stack_pointer s); time = w.time + 1 })) ≡ goes to → IsNext r w to (Next s)
  set_next s true set e =
      let same : to ≡ record { now = stirred r w.time s; low = min w.low (stack_pointer s); time = w.time + 1 } = cc in
      record {
        next = s;
        is = refl;
        set = set;
        stirs = ap (λ (x : Watched). x.now) same;
        low = ap (λ (x : Watched). x.low) same;
        time = ap (λ (x : Watched). x.time) same;
      }
  set_next s false set e = cc

  result_next : (result : StepResult) → then_goes r w result ≡ goes to → IsNext r w to result
  result_next (Next s) e = set_next s (is_set r s) refl e
  result_next (Exits status) e = cc
  result_next (Traps cause) e = cc

  kept_next : (i : Instr) (keeps : Bool) → keeps_to r w.now i ≡ keeps → (result : StepResult) → only keeps (then_goes r w result) ≡ goes to → IsActed r w to (Some i) result
  kept_next i true keeps result e = record { instruction = i; is = refl; keeps = keeps; gives = result_next result e }
  kept_next i false keeps result e = cc

  decoded_next : (o : Option Instr) → watch_on image r w o ≡ goes to → IsActed r w to o (act_on image r.size w.now o)
  decoded_next None e = cc
  decoded_next (Some i) e = kept_next i (keeps_to r w.now i) refl (act image r.size w.now i) e

  fetched_next : (o : Option ℕ) → watch_on image r w (o >>= decode_of) ≡ goes to → IsActed r w to (o >>= decode_of) (step_on image r.size w.now o)
  fetched_next None e = cc
  fetched_next (Some word) e = decoded_next (decode_of word) e

pub watching_steps : WatchingSteps
watching_steps image r w to e =
    let n = fetched_next image r w to (fetch image w.now.pc) e in
    let gives = n.gives in
    record {
      next = gives.next;
      instruction = n.instruction;
      is = n.is;
      keeps = n.keeps;
      steps = gives.is;
      set = gives.set;
      stirs = gives.stirs;
      low = gives.low;
      time = gives.time;
    }

pub watching_leads : WatchingLeads
watching_leads image r zero w to quiet e = cc
watching_leads image r (suc steps) w to quiet e = by (watch image r w) refl e (λ m rest. watching_leads image r steps m to quiet rest)
  where
    by : (x : Sight) → watch image r w ≡ x → after x (watched image r steps) ≡ goes to → ((m : Watched) → watched image r steps m ≡ goes to → Leads image r.size steps m.now to.now) → Leads image r.size (suc steps) w.now to.now
    by (goes m) is rest more =
        let n = watching_steps image r w m is in
        let same : m.now ≡ n.next = n.stirs ∙ stirred_same image r quiet w.time n.next in
        (n.next, (n.steps, subst (λ (s : State). Leads image r.size steps s to.now) same (more m rest)))
    by (exits output status low) is rest more = cc
    by (traps cause pc output) is rest more = cc
    by breaks is rest more = cc
