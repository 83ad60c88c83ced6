-- `run` is a good command, and what its code shows.
use Rattle.std.proofs.Common.{◌≡◌, ℕ, List, refl, sym, subst, inl, inr, arith}
use Rattle.qs_image.specs.Image.{Image}
use Rattle.qs_machine.specs.Arguments.{words_of}
use Rattle.qs_machine.specs.Run.{Outcome, Exited, Trapped as HasTrapped, Going, machine, output_so_far}
use Rattle.qs_machine.specs.Running.{Shows}
use Rattle.qs_machine.specs.declared.answers.RunEnd.{RunEnd}
use Rattle.qs_machine.specs.declared.answers.RunEnd.TheVariants as end
use Rattle.qs_machine.specs.declared.machine.Machine.{Machine}
use Rattle.qs_ports.specs.SinkView.{SinkView}
use Rattle.qs_ports.specs.StoreView.{StoreView}
use Rattle.qs_report.specs.Lines.{end_line}
use Rattle.std.specs.Prelude.{None, false, Result, Ok, Err}
use Rattle.qs_driver_steps.specs.Devices.{streams, views_of}
use Rattle.qs_driver_steps.specs.Promises.{Answers}
use Rattle.qs_driver_steps.specs.Runs.{Halts, Passes, Halted, Passed, finished, Runs}
use Rattle.qs_driver_steps.specs.Steps.{End, end_status}
use Rattle.qs_driver_steps.proofs.Laws.{IsSingle, IsWithin, IsGood}
use Rattle.qs_driver_steps.proofs.ReadingLaws.{reading_sound, reading_one}
use Rattle.qs_driver_steps.proofs.StoreLaws.{untouched}
use Rattle.qs_driver_steps.proofs.ThenLaws.{within_lower, then_single, then_within, then_lawful, then_from, then_halted, then_passed, is_refused, is_ended}
use Rattle.qs_driver_session.specs.Limits.{image_limit}
use Rattle.qs_driver_session.specs.Shared.{reading_file, imaging, fitting_stack, input_of}
use Rattle.qs_driver_session.specs.Due.{Due, refusal, IsWritten, EndsWith}
use Rattle.qs_driver_session.specs.Faults.{status_line}
use Rattle.qs_driver_session.specs.Names.{file_name}
use Rattle.qs_driver_session.specs.Starting.{RunWords, names_of, CannotLoad, WasLoaded, Finishes}
use Rattle.qs_driver_session.specs.Starting as starting
use Rattle.qs_driver_session.specs.Statuses.{tool, number_of}
use Rattle.qs_driver_session.specs.commands.Run.{after_output, IsFresh, Prepared, with_input, of_image, of_content, prepared, due_at, outcome_of, run_end, run, order_of, IsReady, Prepares}
use Rattle.qs_driver_session.specs.declared.starting.Ready.{Ready}
use Rattle.qs_driver_session.specs.declared.status.FileKind.TheVariants as kinds
use Rattle.qs_driver_session.specs.declared.status.Status.{Status}
use Rattle.qs_driver_session.specs.declared.status.Status.TheVariants.{Done, Trapped, StepLimit}
use Rattle.qs_driver_session.proofs.PieceLaws.{log_last, then_log, out_fails}
use Rattle.qs_driver_session.proofs.SharedSteps.{imaging_sound, imaging_one, is_imaged, is_broken, no_image_memory, fitting_sound, fitting_one, fitted, fits_lacking, stack_sound, stack_one, small_stack, large_stack, input_single, input_within}

-- ---- it is good

module _ (r : RunWords) where
  image_single : (image : Image) → IsSingle (of_image r image)
  image_single image = (
    fitting_sound image r.args,
    fitting_one image r.args,
    (λ u. (
      stack_sound r.stack,
      stack_one r.stack,
      (λ v. then_single (with_input image) (input_of r.input) (input_single r.input) (λ input. tt)),
    )),
  )

  prepared_single : IsSingle (prepared r)
  prepared_single = (
    reading_sound tool 13 kinds.Image image_limit r.image refl refl,
    reading_one tool 13 kinds.Image image_limit r.image,
    (λ content. (imaging_sound content, imaging_one content, image_single)),
  )

  prepared_within : IsWithin (prepared r) 1 20
  prepared_within = (
    omega arith,
    omega arith,
    (λ content. (
      omega arith,
      omega arith,
      (λ image. (
        omega arith,
        omega arith,
        (λ u. (
          omega arith,
          omega arith,
          (λ v. then_within (with_input image) (input_of r.input) 18 20 20 (omega arith) (within_lower (input_of r.input) 18 19 20 (omega arith) (input_within r.input)) (λ input. omega arith)),
        )),
      )),
    )),
  )

  end_number : (o : Outcome) → number_of (due_at r o).status ≡ 21
  end_number (Exited output status) = refl
  end_number (HasTrapped cause pc output) = refl
  end_number (Going output) = refl

  pub run_good : IsGood (run r)
  run_good = record {
    lawful = then_lawful end_status (run_end r) (prepared r) prepared_single (λ p. tt);
    ordered = then_from end_status (run_end r) (prepared r) 1 20 (omega arith) prepared_within (λ p. (end_number (outcome_of r p), omega arith));
  }

-- ---- what the code shows

module _ (r : RunWords) (v : StoreView) where
  -- the bytes aren't loaded
  content_stops : (bytes : List ℕ) (status : Status) → CannotLoad bytes r status → Halted (of_content r bytes) v v status
  content_stops bytes status (starting.bad_image fault f e) = inl (subst (λ (x : Status). Halts (imaging bytes) v v x) (sym e) (is_broken bytes v fault f))
  content_stops bytes status (starting.no_words image i lacks) = inr (v, image, is_imaged bytes v image i, inl (fits_lacking image r.args v status lacks))
  content_stops bytes status (starting.too_large image i are large e) =
      inr (v, image, is_imaged bytes v image i, inr (v, tt, fitted image r.args v are, inl (subst (λ (x : Status). Halts (fitting_stack r.stack) v v x) (sym e) (large_stack r.stack v large))))
  content_stops bytes status (starting.lacks_memory e) = inl (subst (λ (x : Status). Halts (imaging bytes) v v x) (sym e) (no_image_memory bytes v))

module _ (r : RunWords) (v w : StoreView) where
  pub unread_image : (status : Status) → Halts (reading_file kinds.Image image_limit r.image) v w status → Halted (prepared r) v w status
  unread_image status h = inl h

  pub not_loaded : (bytes : List ℕ) (status : Status) → Passes (reading_file kinds.Image image_limit r.image) v w bytes → CannotLoad bytes r status → Halted (prepared r) v w status
  not_loaded bytes status p c = inr (w, bytes, p, content_stops r w bytes status c)

module _ (r : RunWords) (v u w : StoreView) (bytes : List ℕ) (p : Passes (reading_file kinds.Image image_limit r.image) v u bytes) (machine : Machine) (l : WasLoaded bytes r machine) where
  pub input_stops : (status : Status) → Halted (input_of r.input) u w status → Halted (prepared r) v w status
  input_stops status h = inr (
    u,
    bytes,
    p,
    inr (
      u,
      l.image,
      is_imaged bytes u l.image l.is_image,
      inr (u, tt, fitted l.image r.args u l.can_run.arguments, inr (u, tt, small_stack r.stack u l.can_run.small, then_halted (with_input l.image) (input_of r.input) u w status h)),
    ),
  )

  pub all_pass : (input : List ℕ) → Passed (input_of r.input) u w input → Passed (prepared r) v w (record { image = l.image; input = input })
  all_pass input h = (
    u,
    bytes,
    p,
    (
      u,
      l.image,
      is_imaged bytes u l.image l.is_image,
      (u, tt, fitted l.image r.args u l.can_run.arguments, (u, tt, small_stack r.stack u l.can_run.small, then_passed (with_input l.image) (input_of r.input) u w w input (record { image = l.image; input = input }) h (refl, refl))),
    ),
  )

-- a machine is ready, where its input was read
pub is_ready : (r : RunWords) (v u w : StoreView) (bytes : List ℕ) (ready : Ready) → Passes (reading_file kinds.Image image_limit r.image) v u bytes → WasLoaded bytes r ready.machine → Passed (input_of r.input) u w ready.input.items → IsReady r v w ready
is_ready r v u w bytes ready p l h = record {
  image = l.image;
  passed = all_pass r v u w bytes p ready.machine l ready.input.items h;
  none_taken = l.none_taken;
  stands = l.stands ready.input.items;
}

-- ---- the run

pub fresh : (r : RunWords) (v w : StoreView) (work : Result Ready Status) → Prepares r v w work → IsFresh work
fresh r v w (Ok ready) h = h.none_taken
fresh r v w (Err status) h = tt

-- what is due at an outcome: its output on `out` first, then a line
record IsDueWith (r : RunWords) (outcome : Outcome) : Type 0 where
  status : Status
  line : List ℕ
  is : due_at r outcome ≡ after_output (output_so_far outcome) status line

due_with : (r : RunWords) (outcome : Outcome) → IsDueWith r outcome
due_with r (Exited output status) = record { status = Done; line = end_line status; is = refl }
due_with r (HasTrapped cause pc output) = record { status = Trapped cause pc; line = status_line (names_of r) (Trapped cause pc); is = refl }
due_with r (Going output) = record { status = StepLimit r.steps; line = status_line (names_of r) (StepLimit r.steps); is = refl }

module _ (r : RunWords) (s s' : StoreView) (o o' l l' : SinkView) (ready : Ready) (result : Status) (h : IsReady r s s' ready) where
  runs : Runs (run r) (file_name (names_of r)) s s' (due_at r (machine h.image r.stack (words_of r.args) ready.input.items r.steps))
  runs =
      let p : Prepared = record { image = h.image; input = ready.input.items } in
      let e : End tool = record { output = None; due = due_at r (outcome_of r p); late = false } in
      is_ended (run r) (file_name (names_of r)) s s' s' e (due_at r (outcome_of r p)) (then_passed (run_end r) (prepared r) s s' s' p e h.passed (refl, refl)) (finished (untouched s') refl)

  -- the output was put, and the line, as far as the streams took it
  answered : (status : Status) (line : List ℕ) → due_at r (machine h.image r.stack (words_of r.args) ready.input.items r.steps) ≡ after_output (output_so_far (machine h.image r.stack (words_of r.args) ready.input.items r.steps)) status line → IsWritten (after_output (output_so_far (machine h.image r.stack (words_of r.args) ready.input.items r.steps)) status line) (streams o l) (streams o' l') result → Answers (order_of r) (views_of s o l) (views_of s' o' l') result
  answered status line is written = record {
    due = due_at r (machine h.image r.stack (words_of r.args) ready.input.items r.steps);
    runs = runs;
    written = subst (λ (d : Due). IsWritten d (streams o l) (streams o' l') result) (sym is) written;
  }

  pub run_answers : (e : RunEnd) → Shows (machine h.image r.stack (words_of r.args) ready.input.items r.steps) o o' e → Finishes r e l l' result → Answers (order_of r) (views_of s o l) (views_of s' o' l') result
  run_answers (end.Exited status) (e, a) f =
      let P : Outcome → Type 0 = λ x. due_at r x ≡ after_output (output_so_far x) Done (end_line status) in
      answered Done (end_line status) (subst P (sym e) refl) (then_log Done _ (end_line status) o o' l l' result a f)
  run_answers (end.Trapped cause pc) (e, a) f =
      let P : Outcome → Type 0 = λ x. due_at r x ≡ after_output (output_so_far x) (Trapped cause pc) (status_line (names_of r) (Trapped cause pc)) in
      answered (Trapped cause pc) _ (subst P (sym e) refl) (then_log (Trapped cause pc) _ _ o o' l l' result a f)
  run_answers end.StepLimit (e, a) f =
      let P : Outcome → Type 0 = λ x. due_at r x ≡ after_output (output_so_far x) (StepLimit r.steps) (status_line (names_of r) (StepLimit r.steps)) in
      answered (StepLimit r.steps) _ (subst P (sym e) refl) (then_log (StepLimit r.steps) _ _ o o' l l' result a f)
  run_answers end.SinkFailed (k, c) (e, u) =
      let d = due_with r (machine h.image r.stack (words_of r.args) ready.input.items r.steps) in
      answered d.status d.line d.is (rw (e, u) (out_fails d.status _ d.line o o' l k c))

-- ---- the refusal

pub fault_put : (r : RunWords) (s s' : StoreView) (o v w : SinkView) (status result : Status) → Halted (prepared r) s s' status → EndsWith (status_line (names_of r) status) status v w result → Answers (order_of r) (views_of s o v) (views_of s' o w) result
fault_put r s s' o v w status result h e = record {
  due = refusal (names_of r) status;
  runs = is_refused (run r) (file_name (names_of r)) s s' status (then_halted (run_end r) (prepared r) s s' status h);
  written = log_last status (status_line (names_of r) status) o v w result e;
}
