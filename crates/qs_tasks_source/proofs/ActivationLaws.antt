-- Activations one after the other: within a greater bound they are the same or go on, and more of them begin as fewer.
use Rattle.std.proofs.Common.{◌≡◌, ℕ, zero, suc, ◌+◌, ◌-◌, ◌≤◌, List, [], ◌∷◌, ◌++◌, refl, sym, ap, ◌∙◌, subst, arith, append_assoc}
use Rattle.std.proofs.lemmas.List.{append-nil}
use Rattle.std.specs.Prelude.{None}
use Rattle.qs_memory.specs.Values.{Value}
use Rattle.qs_memory.specs.Memory.{Memory}
use Rattle.qs_events.specs.Events.{Event, Calls, Returns, Takes, TakesEnd, Puts, output_of}
use Rattle.qs_events.specs.Runs.{Left, emit, ended, undefined, short, events_of, ending_of, has_ended, is_undefined, followed_by, Within}
use Rattle.qs_events.specs.Weights.{IsFront}
use Rattle.qs_events.proofs.RunLaws.{within_same, within_over, runs_follow}
use Rattle.qs_calls.specs.World.{World, RootRun, leaves}
use Rattle.qs_meaning.specs.Typed.{TypedProgram}
use Rattle.qs_meaning.specs.Runs.{run_of}
use Rattle.qs_tasks.specs.Alone.{left_world}
use Rattle.qs_tasks_source.specs.Activations.{activations}
use Rattle.qs_tasks_source.proofs.HiddenEnds.{not_short}

abbrev End : Type 0
End = Left Value Memory

undefined_follows : (o : RootRun) (next : End → RootRun) → ending_of o ≡ is_undefined → ending_of (followed_by o next) ≡ is_undefined
undefined_follows (emit e o) next h = undefined_follows o next h
undefined_follows (ended left) next h = absurd (let never : ⊥ = cc in never)
undefined_follows undefined next h = refl
undefined_follows short next h = absurd (let never : ⊥ = cc in never)

events_follow : (o : RootRun) (next : End → RootRun) → IsFront (events_of o) (events_of (followed_by o next))
events_follow (emit e o) next = let f = events_follow o next in record { back = f.back; whole = ap (λ (t : List Event). e ∷ t) f.whole }
events_follow (ended left) next = record { back = events_of (next left); whole = refl }
events_follow undefined next = record { back = []; whole = refl }
events_follow short next = record { back = []; whole = refl }

outputs_join : (a b : List Event) → output_of (a ++ b) ≡ output_of a ++ output_of b
outputs_join [] b = refl
outputs_join (Calls f ∷ a) b = outputs_join a b
outputs_join (Returns f ∷ a) b = outputs_join a b
outputs_join (Takes x ∷ a) b = outputs_join a b
outputs_join (TakesEnd ∷ a) b = outputs_join a b
outputs_join (Puts x ∷ a) b = ap (λ (bytes : List ℕ). x ∷ bytes) (outputs_join a b)

-- the runs of this function go on within a greater bound
abbrev pub Grows : TypedProgram → (function : ℕ) → Type 0
Grows u function = (w : World) (m n : ℕ) → m ≤ n → Within (run_of u function [] w m) (run_of u function [] w n)

module _ (u : TypedProgram) (function : ℕ) (grows : Grows u function) (w : World) where
  abbrev Runs : (n count : ℕ) → RootRun
  Runs n count = activations u function w n count

  abbrev pub next_run : (n : ℕ) → End → RootRun
  next_run n left = run_of u function [] (left_world left) n

  -- ---- within a greater bound

  grow : (m n count : ℕ) → m ≤ n → Within (Runs m count) (Runs n count)
  grow m n zero h = within_same (leaves None w)
  grow m n (suc count) h =
      (runs_follow End End End).grow (Runs m count) (Runs n count) (next_run m) (next_run n) (grow m n count h)
      (λ (left : End). grows (left_world left) m n h)

  pub ended_stays : (m n count : ℕ) (left : End) → m ≤ n → ending_of (Runs m count) ≡ has_ended left → Runs n count ≡ Runs m count
  ended_stays m n count left h e = within_over (Runs m count) (Runs n count) (grow m n count h) (not_short (Runs m count) left e)

  -- ---- one more

  pub one_more_ends : (n count : ℕ) (left : End) → ending_of (Runs n count) ≡ has_ended left → ending_of (Runs n (suc count)) ≡ ending_of (next_run n left)
  one_more_ends n count left e = (runs_follow End End End).ending (Runs n count) (next_run n) left e

  pub one_more_puts : (n count : ℕ) (left : End) → ending_of (Runs n count) ≡ has_ended left
      → output_of (events_of (Runs n (suc count))) ≡ output_of (events_of (Runs n count)) ++ output_of (events_of (next_run n left))
  one_more_puts n count left e =
      ap output_of ((runs_follow End End End).events (Runs n count) (next_run n) left e)
      ∙ outputs_join (events_of (Runs n count)) (events_of (next_run n left))

  -- ---- more of them

  undefined_for : (n count k : ℕ) → ending_of (Runs n count) ≡ is_undefined → ending_of (Runs n (count + k)) ≡ is_undefined
  undefined_for n count zero h =
      let e : count ≡ count + 0 = omega arith in subst (λ (c : ℕ). ending_of (Runs n c) ≡ is_undefined) e h
  undefined_for n count (suc k) h =
      let e : suc (count + k) ≡ count + suc k = omega arith in
      subst (λ (c : ℕ). ending_of (Runs n c) ≡ is_undefined) e (undefined_follows (Runs n (count + k)) (next_run n) (undefined_for n count k h))

  front_for : (n count k : ℕ) → IsFront (events_of (Runs n count)) (events_of (Runs n (count + k)))
  front_for n count zero =
      let e : count ≡ count + 0 = omega arith in
      record { back = []; whole = append-nil (events_of (Runs n count)) ∙ ap (λ (c : ℕ). events_of (Runs n c)) e }
  front_for n count (suc k) =
      let e : suc (count + k) ≡ count + suc k = omega arith in
      let f = front_for n count k in
      let g = events_follow (Runs n (count + k)) (next_run n) in
      record {
        back = f.back ++ g.back;
        whole =
            sym (append_assoc (events_of (Runs n count)) f.back g.back)
            ∙ ap (λ (t : List Event). t ++ g.back) f.whole
            ∙ g.whole
            ∙ ap (λ (c : ℕ). events_of (Runs n c)) e;
      }

  pub undefined_stays : (n count later : ℕ) → count ≤ later → ending_of (Runs n count) ≡ is_undefined → ending_of (Runs n later) ≡ is_undefined
  undefined_stays n count later h e =
      let is : count + (later - count) ≡ later = omega (arith, h) in
      subst (λ (c : ℕ). ending_of (Runs n c) ≡ is_undefined) is (undefined_for n count (later - count) e)

  pub output_goes_on : (n count later : ℕ) → count ≤ later → (rest : List ℕ) × (output_of (events_of (Runs n later)) ≡ output_of (events_of (Runs n count)) ++ rest)
  output_goes_on n count later h =
      let is : count + (later - count) ≡ later = omega (arith, h) in
      let f = front_for n count (later - count) in (
        output_of f.back,
        sym (ap output_of (f.whole ∙ ap (λ (c : ℕ). events_of (Runs n c)) is))
            ∙ outputs_join (events_of (Runs n count)) f.back,
      )
