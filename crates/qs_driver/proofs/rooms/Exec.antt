-- How `exec` comes to a machine and its input, and what it came to.
use Rattle.std.proofs.Common.{◌≡◌, ℕ, List, [], ◌∷◌, Option, Some, None, Result, Ok, Err, refl, sym, ap, subst, inl, inr, arith}
use Rattle.std.specs.Prelude.{Vec}
use Rattle.std.specs.declared.alloc.Global.{Global}
use Rattle.qs_assert.specs.declared.define.Amount.{Amount}
use Rattle.qs_meaning.specs.Typed.{TypedProgram}
use Rattle.qs_ports.specs.StoreView.{StoreView}
use Rattle.qs_ports.specs.SinkView.{SinkView, Appends, IsCut}
use Rattle.qs_image.specs.Image.{Image}
use Rattle.qs_machine.specs.Arguments.{AreArguments, words_of}
use Rattle.qs_machine.specs.Run.{Outcome, Exited, Trapped as HasTrapped, Going, machine, output_so_far}
use Rattle.qs_machine.specs.Running.{Shows}
use Rattle.qs_machine.specs.declared.answers.RunEnd.{RunEnd}
use Rattle.qs_machine.specs.declared.answers.RunEnd.TheVariants as end
use Rattle.qs_emit.specs.Agree.{Agree}
use Rattle.qs_compile.specs.Agree.{IsInput}
use Rattle.qs_report.specs.Lines.{bound_line, end_line}
use Rattle.qs_report.specs.declared.fault_texts.Shown.TheVariants as shown
use Rattle.qs_driver_session.specs.Faults.{status_line}
use Rattle.qs_driver_steps.specs.Devices.{streams, views_of}
use Rattle.qs_driver_steps.specs.Pieces.{Piece, on_out, on_log}
use Rattle.qs_driver_session.specs.Due.{Due, refusal, EndsWith, IsWritten}
use Rattle.qs_driver_steps.specs.Files.{IsUntouched}
use Rattle.qs_driver_session.specs.Task.{Answers}
use Rattle.qs_driver_session.specs.Starting.{ReadInput, IsStackOf, LoadsImage, ReadsNamed, Finishes}
use Rattle.qs_driver_session.specs.declared.starting.Ready.{Ready}
use Rattle.qs_driver_session.specs.declared.status.Status.{Status}
use Rattle.qs_driver_session.specs.declared.status.Status.TheVariants.{Done, Trapped, StepLimit, SinkFailed, NoMemory}
use Rattle.qs_driver_session.proofs.LaterLaws.{both_untouched, unread_later, was_read_before}
use Rattle.qs_driver_session.proofs.StartingLaws.{no_load, stands_at}
use Rattle.qs_driver_session.proofs.PieceLaws.{due_of, put_goes_on, put_fails, log_last, then_log, out_fails}
use Rattle.qs_driver.specs.Bounds.{bytes_by, seen_runs}
use Rattle.qs_driver.specs.Made.{MakeWords, HasMade, IsMade, CannotMake}
use Rattle.qs_driver.specs.commands.Exec.{ExecWords, names_of, to_make, as_run, exec, after_run, refused_after, HasStack, IsDueAt, IsDueToExec, IsSourcesEnd, CannotExec, HasStarted, Starts, IsFresh}
use Rattle.qs_driver.specs.commands.Exec as meant
use Rattle.qs_driver.specs.declared.commands.exec.Started.{Started}
use Rattle.qs_driver.specs.declared.made.Made.{Made}
use Rattle.qs_driver.proofs.BoundsLaws.{bytes_are, image_takes}

-- ---- how it comes to a machine and its input

-- the image that was made takes the arguments
images_arguments : {m : MakeWords} {v : StoreView} {image : Image} {bound : Amount} (made : IsMade m v image bound) → AreArguments image m.args
images_arguments {m} {v} {image} made =
    (image_takes m.inputs v made.source image made.makes.reads made.makes.image_of.compiled m.args).1 made.arguments

has_stack : (e : ExecWords) {v w : StoreView} {made : Made} {stack : ℕ} → HasMade (to_make e) v w made → IsStackOf made.bound (Ok stack) → HasStack e v made.image stack
has_stack e {v = v} {made = made} h (is, small) = record { is_made = subst (λ (bound : Amount). IsMade (to_make e) v made.image bound) is h.is_made; small = small }

pub not_made : (e : ExecWords) (v w : StoreView) (status : Status) → CannotMake (to_make e) v w status → Starts e v w (Err status)
not_made e v w status c = meant.not_made c

pub no_stack : (e : ExecWords) (v w : StoreView) (made : Made) (status : Status) → HasMade (to_make e) v w made → IsStackOf made.bound (Err status) → Starts e v w (Err status)
no_stack e v w made status h (is, none) = meant.no_stack made.bound h.untouched (record { image = made.image; is_made = h.is_made; none = none }) is

pub not_loaded : (e : ExecWords) (v w : StoreView) (made : Made) (stack : ℕ) (status : Status) → HasMade (to_make e) v w made → IsStackOf made.bound (Ok stack) → LoadsImage made.image (as_run e stack) (Err status) → Starts e v w (Err status)
not_loaded e v w made stack status h is (inl x) = let same : status ≡ NoMemory = cc in meant.no_memory h.untouched same
not_loaded e v w made stack status h (is, small) (inr l) = meant.no_memory h.untouched (no_load (as_run e stack) l.bytes made.image status (images_arguments h.is_made) small l.is_image l.loads)

input_refused : (e : ExecWords) (u v w : StoreView) (image : Image) (stack : ℕ) (input : Option (List ℕ)) (status : Status) → e.input ≡ input → IsUntouched u v → HasStack e u image stack → ReadsNamed v w input (Err status) → Starts e u w (Err status)
input_refused e u v w image stack None status is f h r = absurd r
input_refused e u v w image stack (Some name) status is f h r = meant.unread_input name (record { image = image; stack = stack; has_stack = h; named = is }) (unread_later u v w name _ _ status f r)

pub input_is_refused : (e : ExecWords) (u v w : StoreView) (made : Made) (stack : ℕ) (status : Status) → HasMade (to_make e) u v made → IsStackOf made.bound (Ok stack) → ReadsNamed v w e.input (Err status) → Starts e u w (Err status)
input_is_refused e u v w made stack status h is r = input_refused e u v w made.image stack e.input status refl h.untouched (has_stack e h is) r

-- the input was read behind what left the files alone
record WasReadLater (u w : StoreView) (name : Option (List ℕ)) (input : List ℕ) : Type 0 where
  read : ReadInput u name input
  untouched : IsUntouched u w

read_later : (u v w : StoreView) (name : Option (List ℕ)) (input : Vec ℕ Global) → IsUntouched u v → ReadsNamed v w name (Ok input) → WasReadLater u w name input.items
read_later u v w None input f (empty, g) = record { read = empty; untouched = both_untouched f g }
read_later u v w (Some name) input f r = record { read = was_read_before f r.read_as; untouched = both_untouched f r.untouched }

pub has_started : (e : ExecWords) (u v w : StoreView) (made : Made) (stack : ℕ) (ready : Ready) → HasMade (to_make e) u v made → IsStackOf made.bound (Ok stack) → LoadsImage made.image (as_run e stack) (Ok ready.machine) → ReadsNamed v w e.input (Ok ready.input) → IsInput ready.input.items → Starts e u w (Ok (record { stack = stack; ready = ready }))
has_started e u v w made stack ready h is (inl never) r bytes = absurd (let none : ⊥ = cc in none)
has_started e u v w made stack ready h is (inr l) r bytes =
    let later = read_later u v w e.input ready.input h.untouched r in
    record {
      image = made.image;
      has_stack = has_stack e h is;
      input_read = later.read;
      bytes = bytes;
      untouched = later.untouched;
      none_taken = l.loads.none_taken;
      stands = stands_at (as_run e stack) l.bytes made.image ready.machine ready.input.items l.is_image l.loads;
    }

pub fresh : (e : ExecWords) (v w : StoreView) (started : Result Started Status) → Starts e v w started → IsFresh started
fresh e v w (Ok started) h = h.none_taken
fresh e v w (Err status) h = tt

-- ---- the line of the bound, before all others

-- it was put, and then the rest
then_rest : (status : Status) (text : List ℕ) (rest : List Piece) (o o' l m l' : SinkView) (result : Status) → Appends l m text → IsWritten (due_of status rest) (streams o m) (streams o' l') result → IsWritten (due_of status (on_log text ∷ rest)) (streams o l) (streams o' l') result
then_rest status text rest o o' l m l' result a h = put_goes_on status (on_log text) rest (streams o l) (streams o m) (streams o' l') result (record { happened = a; other = refl }) h

-- ---- the run

-- what is due at an outcome, with the bound and its output first
record IsDueWith (e : ExecWords) (stack : ℕ) (outcome : Outcome) : Type 0 where
  status : Status
  line : List ℕ
  is_due : IsDueAt e stack outcome (after_run stack (output_so_far outcome) status line)

due_at : (e : ExecWords) (stack : ℕ) (outcome : Outcome) → IsDueWith e stack outcome
due_at e stack (Exited output status) = record { status = Done; line = end_line status; is_due = refl }
due_at e stack (HasTrapped cause pc output) = record { status = Trapped cause pc; line = status_line (names_of e) (Trapped cause pc); is_due = refl }
due_at e stack (Going output) = record { status = StepLimit e.steps; line = status_line (names_of e) (StepLimit e.steps); is_due = refl }

-- what the machine's outcome says of the source, by agreement at the given steps
pub sources_end : (program : TypedProgram) (e : ExecWords) (input : List ℕ) (m : ℕ → Outcome) (outcome : Outcome) → Agree (seen_runs program e.args input) m → m e.steps ≡ outcome → IsSourcesEnd program e input outcome
sources_end program e input m (Exited output status) agree is = agree.exits_only e.steps output status is
sources_end program e input m (HasTrapped cause pc output) agree is = agree.traps_only e.steps cause pc output is
sources_end program e input m (Going output) agree is = agree.goes_on_only e.steps output is

module _ {e : ExecWords} {s s' : StoreView} {started : Started} (h : HasStarted e s s' started) where
  abbrev outcomes : ℕ → Outcome
  outcomes = machine h.image started.stack (words_of e.args) started.ready.input.items

  -- the stack is exactly the bound
  agree : Agree (seen_runs h.has_stack.is_made.makes.image_of.compiled.program e.args started.ready.input.items) outcomes
  agree =
      let made = h.has_stack.is_made in
      let same : bytes_by made.source h.image e.args ≡ Some started.stack = bytes_are made.source h.image e.args started.stack (sym made.is_bound) in
      made.makes.image_of.agrees.agree e.args started.ready.input.items started.stack started.stack (images_arguments made) h.bytes same (omega arith) h.has_stack.small

  has_run : {due : Due} → IsDueAt e started.stack (outcomes e.steps) due → IsDueToExec e s s' due
  has_run d = meant.ran (record {
    image = h.image;
    input = started.ready.input.items;
    stack = started.stack;
    has_stack = h.has_stack;
    input_read = h.input_read;
    untouched = h.untouched;
    sources_end = sources_end h.has_stack.is_made.makes.image_of.compiled.program e started.ready.input.items outcomes (outcomes e.steps) agree refl;
    is_due = d;
  })

  -- the bound was put, and then the machine was run
  pub run_answers : (o o' l m l' : SinkView) (ended : RunEnd) (result : Status) → Appends l m (bound_line (shown.Number started.stack)) → Shows (outcomes e.steps) o o' ended → Finishes (as_run e started.stack) ended m l' result → Answers (exec e) (views_of s o l) (views_of s' o' l') result
  run_answers o o' l m l' (end.Exited status) result b (is, a) f =
      let outcome = outcomes e.steps in
      let due : Due = after_run started.stack (output_so_far outcome) Done (end_line status) in
      let P : Outcome → Type 0 = λ x. IsDueAt e started.stack x due in
      record { due = due; is_due = has_run (subst P (sym is) refl); written = then_rest Done (bound_line (shown.Number started.stack)) (on_out (output_so_far outcome) ∷ on_log (end_line status) ∷ []) o o' l m l' result b (then_log Done (output_so_far outcome) (end_line status) o o' m l' result a f) }
  run_answers o o' l m l' (end.Trapped cause pc) result b (is, a) f =
      let outcome = outcomes e.steps in
      let due : Due = refused_after started.stack (output_so_far outcome) e (Trapped cause pc) in
      let P : Outcome → Type 0 = λ x. IsDueAt e started.stack x due in
      record { due = due; is_due = has_run (subst P (sym is) refl); written = then_rest (Trapped cause pc) (bound_line (shown.Number started.stack)) (on_out (output_so_far outcome) ∷ on_log (status_line (names_of e) (Trapped cause pc)) ∷ []) o o' l m l' result b (then_log (Trapped cause pc) (output_so_far outcome) (status_line (names_of e) (Trapped cause pc)) o o' m l' result a f) }
  run_answers o o' l m l' end.StepLimit result b (is, a) f =
      let outcome = outcomes e.steps in
      let due : Due = refused_after started.stack (output_so_far outcome) e (StepLimit e.steps) in
      let P : Outcome → Type 0 = λ x. IsDueAt e started.stack x due in
      record { due = due; is_due = has_run (subst P (sym is) refl); written = then_rest (StepLimit e.steps) (bound_line (shown.Number started.stack)) (on_out (output_so_far outcome) ∷ on_log (status_line (names_of e) (StepLimit e.steps)) ∷ []) o o' l m l' result b (then_log (StepLimit e.steps) (output_so_far outcome) (status_line (names_of e) (StepLimit e.steps)) o o' m l' result a f) }
  run_answers o o' l m l' end.SinkFailed result b (k, c) (is, u) =
      let outcome = outcomes e.steps in
      let d = due_at e started.stack outcome in
      record {
        due = after_run started.stack (output_so_far outcome) d.status d.line;
        is_due = has_run d.is_due;
        written = rw (is, u) (then_rest d.status (bound_line (shown.Number started.stack)) (on_out (output_so_far outcome) ∷ on_log d.line ∷ []) o o' l m m SinkFailed b (out_fails d.status (output_so_far outcome) d.line o o' m k c));
      }

  -- `log` failed within the line of the bound, and nothing more was put
  pub bound_cut : (o l l' : SinkView) (k : ℕ) → IsCut l l' (bound_line (shown.Number started.stack)) k → Answers (exec e) (views_of s o l) (views_of s' o l') SinkFailed
  bound_cut o l l' k c =
      let outcome = outcomes e.steps in
      let d = due_at e started.stack outcome in
      let text = bound_line (shown.Number started.stack) in
      record {
        due = after_run started.stack (output_so_far outcome) d.status d.line;
        is_due = has_run d.is_due;
        written = put_fails d.status (on_log text) (on_out (output_so_far outcome) ∷ on_log d.line ∷ []) (streams o l) (streams o l') (record { happened = (k, c); other = refl });
      }

-- ---- the refusal

pub fault_put : (e : ExecWords) (s s' : StoreView) (o v w : SinkView) (status result : Status) → CannotExec e s s' status → EndsWith (status_line (names_of e) status) status v w result → Answers (exec e) (views_of s o v) (views_of s' o w) result
fault_put e s s' o v w status result c h = record { due = refusal (names_of e) status; is_due = meant.refused status c refl; written = log_last _ _ o v w result h }
