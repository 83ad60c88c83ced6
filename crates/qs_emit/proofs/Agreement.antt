-- Where the machine comes as far as each run of a source, they agree.
use Rattle.std.proofs.Common.{◌≡◌, ◌⊎◌, inl, inr, ℕ, zero, suc, ◌-◌, ◌≤◌, List, [], refl, sym, ap, ◌∙◌, subst, arith, min}
use Rattle.std.proofs.lemmas.List.{append-nil}
use Rattle.std.proofs.lemmas.Bool.{cases_lt}
use Rattle.qs_events.specs.Events.{Event, output_of}
use Rattle.qs_events.specs.BoundedRun.{BoundedRun, Ended, Undefined, Short, trace_of}
use Rattle.qs_events.specs.Runs.{Run, Ending, has_ended, is_undefined, is_short, events_of, ending_of, bounded, seen}
use Rattle.qs_events.specs.Weights.{Costs, weight}
use Rattle.qs_events.proofs.RunLaws.{bounded_is_seen}
use Rattle.qs_image.specs.Image.{Image}
use Rattle.qs_machine.specs.declared.answers.Cause.{Cause}
use Rattle.qs_machine.specs.State.{State, stack_top, stack_pointer}
use Rattle.qs_machine.specs.Step.{StepResult, Next, Exits, Traps, step}
use Rattle.qs_machine.specs.Run.{Outcome, Exited, Trapped, Going, output_so_far, outcome_after, run, least_after, least_from}
use Rattle.qs_machine.proofs.Growth.{IsFront, grows-run}
use Rattle.qs_emit.specs.Agree.{Begins, IsUndefinedWithin, HasEndedWith, Agree, Accounts}

-- ---- the machine after more steps

-- what has stopped stays so, and the output of what goes on grows
abbrev Later : Outcome → Outcome → Type 0
Later (Exited output status) o = o ≡ Exited output status
Later (Trapped cause pc output) o = o ≡ Trapped cause pc output
Later (Going output) o = IsFront output (output_so_far o)

later : (image : Image) (size a b : ℕ) (s : State) → a ≤ b → Later (run image size a s) (run image size b s)
later image size zero b s le = grows-run image size b s
later image size (suc a) zero s le = absurd (omega (arith, le))
later image size (suc a) (suc b) s le = by (step image size s) (λ t. later image size a b t (omega (arith, le)))
  where
    by : (r : StepResult) → ((t : State) → Later (run image size a t) (run image size b t)) → Later (outcome_after s r (run image size a)) (outcome_after s r (run image size b))
    by (Next t) more = more t
    by (Exits status) more = refl
    by (Traps cause) more = refl

abbrev HasStopped : Outcome → Type 0
HasStopped (Exited output status) = Unit {0}
HasStopped (Trapped cause pc output) = Unit {0}
HasStopped (Going output) = ⊥

least_later : (image : Image) (size a b : ℕ) (s : State) → a ≤ b → HasStopped (run image size a s) → least_from image size b s ≡ least_from image size a s
least_later image size zero b s le stopped = absurd stopped
least_later image size (suc a) zero s le stopped = absurd (omega (arith, le))
least_later image size (suc a) (suc b) s le stopped = by (step image size s) stopped (λ t k. least_later image size a b t (omega (arith, le)) k)
  where
    by : (r : StepResult) → HasStopped (outcome_after s r (run image size a)) → ((t : State) → HasStopped (run image size a t) → least_from image size b t ≡ least_from image size a t) → least_after r (least_from image size b) (stack_pointer s) ≡ least_after r (least_from image size a) (stack_pointer s)
    by (Next t) k more = ap (λ (n : ℕ). min (stack_pointer s) n) (more t k)
    by (Exits status) k more = refl
    by (Traps cause) k more = refl

-- ---- as far as the source

module _ (image : Image) (size : ℕ) (s : State) (costs : Costs) {End : Type 0} (status_of : End → ℕ) where
  pub record Ends (trace : List Event) (status : ℕ) : Type 0 where
    pub steps : ℕ
    pub is : run image size steps s ≡ Exited (output_of trace) status
    pub least : least_from image size steps s ≡ stack_top - weight costs trace

  pub record ComesFar (trace : List Event) : Type 0 where
    pub steps : ℕ
    pub is : run image size steps s ≡ Going (output_of trace)

  pub record GoesFar (n : ℕ) (trace : List Event) : Type 0 where
    pub steps : ℕ
    pub enough : n ≤ steps
    pub is : run image size steps s ≡ Going (output_of trace)
    pub least : least_from image size steps s ≡ stack_top - weight costs trace

  abbrev pub Reaches : (n : ℕ) → List Event → Ending End → Type 0
  Reaches n trace (has_ended end) = Ends trace (status_of end)
  Reaches n trace is_undefined = ComesFar trace
  Reaches n trace is_short = GoesFar n trace

  module _ (source : ℕ → Run End) (reaches : (n : ℕ) → Reaches n (events_of (source n)) (ending_of (source n))) where
    abbrev now : ℕ → Outcome
    now m = run image size m s

    abbrev bound : ℕ → BoundedRun
    bound n = bounded status_of (source n)

    is_seen : (n : ℕ) → bound n ≡ seen status_of (events_of (source n)) (ending_of (source n))
    is_seen n = bounded_is_seen End status_of (source n)

    later_as : (a b : ℕ) (o p : Outcome) → a ≤ b → now a ≡ o → now b ≡ p → Later o p
    later_as a b o p le e f = subst (λ (x : Outcome). Later x p) e (subst (λ (x : Outcome). Later (now a) x) f (later image size a b s le))

    not_later : (a b : ℕ) (o p : Outcome) → HasStopped o → now a ≡ o → now b ≡ p → (o ≡ p → ⊥) → b ≤ a
    not_later a b o p stopped e f apart = elim (cases_lt a b) [ inl lt ↦ absurd (apart (same o stopped (later_as a b o p (omega (arith, lt)) e f))) | inr le ↦ le ]
      where
        same : (x : Outcome) → HasStopped x → Later x p → x ≡ p
        same (Exited output status) k l = sym l
        same (Trapped cause pc output) k l = sym l
        same (Going output) k l = absurd k

    -- two ends are the same
    one_end : (a b : ℕ) (o p : Outcome) → HasStopped o → HasStopped p → now a ≡ o → now b ≡ p → o ≡ p
    one_end a b o p k j e f = elim (cases_lt a b) [ inl lt ↦ forth o k (later_as a b o p (omega (arith, lt)) e f) | inr le ↦ sym (back p j (later_as b a p o le f e)) ]
      where
        forth : (x : Outcome) → HasStopped x → Later x p → x ≡ p
        forth (Exited output status) k l = sym l
        forth (Trapped cause pc output) k l = sym l
        forth (Going output) k l = absurd k

        back : (x : Outcome) → HasStopped x → Later x o → x ≡ o
        back (Exited output status) k l = sym l
        back (Trapped cause pc output) k l = sym l
        back (Going output) k l = absurd k

    front_begins : (a b : List ℕ) → IsFront a b → Begins b a
    front_begins a b f = (f.rest, f.parts)

    -- ---- the five parts

    ends : (n : ℕ) (trace : List Event) (status : ℕ) → bound n ≡ Ended trace status → (m : ℕ) × (now m ≡ Exited (output_of trace) status)
    ends n trace status e = by (events_of (source n)) (ending_of (source n)) (sym (is_seen n) ∙ e) (reaches n)
      where
        by : (t : List Event) (x : Ending End) → seen status_of t x ≡ Ended trace status → Reaches n t x → (m : ℕ) × (now m ≡ Exited (output_of trace) status)
        by t (has_ended end) e r = let a : t ≡ trace = cc in let b : status_of end ≡ status = cc in (r.steps, r.is ∙ ap (λ (x : List Event). Exited (output_of x) (status_of end)) a ∙ ap (λ (x : ℕ). Exited (output_of trace) x) b)
        by t is_undefined e r = absurd (cc)
        by t is_short e r = absurd (cc)

    exits_only : (m : ℕ) (output : List ℕ) (status : ℕ) → now m ≡ Exited output status → HasEndedWith (bound m) output status ⊎ IsUndefinedWithin (bound m) output
    exits_only m output status e = by (events_of (source m)) (ending_of (source m)) (is_seen m) (reaches m)
      where
        by : (t : List Event) (x : Ending End) → bound m ≡ seen status_of t x → Reaches m t x → HasEndedWith (bound m) output status ⊎ IsUndefinedWithin (bound m) output
        by t (has_ended end) b r =
            let one = one_end m r.steps (Exited output status) (Exited (output_of t) (status_of end)) tt tt e r.is in
            let o : output ≡ output_of t = cc in
            let x : status ≡ status_of end = cc in
            inl (record { trace = t; ended = b ∙ ap (λ (k : ℕ). Ended t k) (sym x); same_output = sym o })
        by t is_undefined b r =
            let le = not_later m r.steps (Exited output status) (Going (output_of t)) tt e r.is (λ q. cc) in
            inr (record { trace = t; undefined = b; within = front_begins (output_of t) output (later_as r.steps m (Going (output_of t)) (Exited output status) le r.is e) })
        by t is_short b r =
            let le = not_later m r.steps (Exited output status) (Going (output_of t)) tt e r.is (λ q. cc) in
            let more = r.enough in
            let same : r.steps ≡ m = omega (arith, le, more) in
            let both : Exited output status ≡ Going (output_of t) = sym e ∙ ap now (sym same) ∙ r.is in
            absurd (cc)

    traps_only : (m : ℕ) (cause : Cause) (pc : ℕ) (output : List ℕ) → now m ≡ Trapped cause pc output → IsUndefinedWithin (bound m) output
    traps_only m cause pc output e = by (events_of (source m)) (ending_of (source m)) (is_seen m) (reaches m)
      where
        by : (t : List Event) (x : Ending End) → bound m ≡ seen status_of t x → Reaches m t x → IsUndefinedWithin (bound m) output
        by t (has_ended end) b r =
            let one = one_end m r.steps (Trapped cause pc output) (Exited (output_of t) (status_of end)) tt tt e r.is in
            absurd (cc)
        by t is_undefined b r =
            let le = not_later m r.steps (Trapped cause pc output) (Going (output_of t)) tt e r.is (λ q. cc) in
            record { trace = t; undefined = b; within = front_begins (output_of t) output (later_as r.steps m (Going (output_of t)) (Trapped cause pc output) le r.is e) }
        by t is_short b r =
            let le = not_later m r.steps (Trapped cause pc output) (Going (output_of t)) tt e r.is (λ q. cc) in
            let more = r.enough in
            let same : r.steps ≡ m = omega (arith, le, more) in
            let both : Trapped cause pc output ≡ Going (output_of t) = sym e ∙ ap now (sym same) ∙ r.is in
            absurd (cc)

    far : (t trace : List Event) (m : ℕ) → t ≡ trace → now m ≡ Going (output_of t) → Begins (output_so_far (now m)) (output_of trace)
    far t trace m a is = ([], ap output_so_far is ∙ ap output_of a ∙ sym (append-nil (output_of trace)))

    goes_on : (n : ℕ) (trace : List Event) → (bound n ≡ Short trace) ⊎ (bound n ≡ Undefined trace) → (m : ℕ) × Begins (output_so_far (now m)) (output_of trace)
    goes_on n trace (inl e) = by (events_of (source n)) (ending_of (source n)) (sym (is_seen n) ∙ e) (reaches n)
      where
        by : (t : List Event) (x : Ending End) → seen status_of t x ≡ Short trace → Reaches n t x → (m : ℕ) × Begins (output_so_far (now m)) (output_of trace)
        by t (has_ended end) e r = absurd (cc)
        by t is_undefined e r = absurd (cc)
        by t is_short e r = let a : t ≡ trace = cc in (r.steps, far t trace r.steps a r.is)
    goes_on n trace (inr e) = by (events_of (source n)) (ending_of (source n)) (sym (is_seen n) ∙ e) (reaches n)
      where
        by : (t : List Event) (x : Ending End) → seen status_of t x ≡ Undefined trace → Reaches n t x → (m : ℕ) × Begins (output_so_far (now m)) (output_of trace)
        by t (has_ended end) e r = absurd (cc)
        by t is_undefined e r = let a : t ≡ trace = cc in (r.steps, far t trace r.steps a r.is)
        by t is_short e r = absurd (cc)

    goes_on_only : (m : ℕ) (output : List ℕ) → now m ≡ Going output → Begins (output_of (trace_of (bound m))) output ⊎ IsUndefinedWithin (bound m) output
    goes_on_only m output e = by (events_of (source m)) (ending_of (source m)) (is_seen m) (reaches m)
      where
        traced : (t : List Event) (b : BoundedRun) → bound m ≡ b → trace_of b ≡ t → IsFront output (output_of t) → Begins (output_of (trace_of (bound m))) output
        traced t b is same f = (f.rest, ap (λ (x : BoundedRun). output_of (trace_of x)) is ∙ ap output_of same ∙ f.parts)

        by : (t : List Event) (x : Ending End) → bound m ≡ seen status_of t x → Reaches m t x → Begins (output_of (trace_of (bound m))) output ⊎ IsUndefinedWithin (bound m) output
        by t (has_ended end) b r =
            let le = not_later r.steps m (Exited (output_of t) (status_of end)) (Going output) tt r.is e (λ q. cc) in
            inl (traced t (Ended t (status_of end)) b refl (later_as m r.steps (Going output) (Exited (output_of t) (status_of end)) le e r.is))
        by t is_undefined b r = elim (cases_lt m r.steps) [
          | inl lt ↦ inl (traced t (Undefined t) b refl (later_as m r.steps (Going output) (Going (output_of t)) (omega (arith, lt)) e r.is))
          | inr le ↦ inr (record { trace = t; undefined = b; within = front_begins (output_of t) output (later_as r.steps m (Going (output_of t)) (Going output) le r.is e) })
        ]
        by t is_short b r = inl (traced t (Short t) b refl (later_as m r.steps (Going output) (Going (output_of t)) r.enough e r.is))

    pub agrees : Agree bound now
    agrees = record { ends = ends; exits_only = exits_only; traps_only = traps_only; goes_on = goes_on; goes_on_only = goes_on_only }

    -- ---- the least x2

    stopped_at : (m : ℕ) (o : Outcome) → now m ≡ o → HasStopped o → HasStopped (now m)
    stopped_at m o e k = subst HasStopped (sym e) k

    least_ends : (n : ℕ) (trace : List Event) (status : ℕ) → bound n ≡ Ended trace status → (m : ℕ) (output : List ℕ) (exit : ℕ) → now m ≡ Exited output exit → least_from image size m s ≡ stack_top - weight costs trace
    least_ends n trace status e m output exit f = by (events_of (source n)) (ending_of (source n)) (sym (is_seen n) ∙ e) (reaches n)
      where
        by : (t : List Event) (x : Ending End) → seen status_of t x ≡ Ended trace status → Reaches n t x → least_from image size m s ≡ stack_top - weight costs trace
        by t (has_ended end) q r =
            let a : t ≡ trace = cc in
            let there = stopped_at r.steps (Exited (output_of t) (status_of end)) r.is tt in
            let here = stopped_at m (Exited output exit) f tt in
            let same : least_from image size m s ≡ least_from image size r.steps s = elim (cases_lt m r.steps) [ inl lt ↦ sym (least_later image size m r.steps s (omega (arith, lt)) here) | inr le ↦ least_later image size r.steps m s le there ] in
            same ∙ r.least ∙ ap (λ (x : List Event). stack_top - weight costs x) a
        by t is_undefined q r = absurd (cc)
        by t is_short q r = absurd (cc)

    least_goes_on : (n : ℕ) (trace : List Event) → bound n ≡ Short trace → (m : ℕ) × (least_from image size m s ≡ stack_top - weight costs trace)
    least_goes_on n trace e = by (events_of (source n)) (ending_of (source n)) (sym (is_seen n) ∙ e) (reaches n)
      where
        by : (t : List Event) (x : Ending End) → seen status_of t x ≡ Short trace → Reaches n t x → (m : ℕ) × (least_from image size m s ≡ stack_top - weight costs trace)
        by t (has_ended end) q r = absurd (cc)
        by t is_undefined q r = absurd (cc)
        by t is_short q r = let a : t ≡ trace = cc in (r.steps, r.least ∙ ap (λ (x : List Event). stack_top - weight costs x) a)

    pub accounts : Accounts costs bound now (λ m. least_from image size m s)
    accounts = record { ends = least_ends; goes_on = least_goes_on }
