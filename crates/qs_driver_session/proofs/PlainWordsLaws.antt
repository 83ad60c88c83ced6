-- What calls of `run`, and calls whose words mean no command, keep in plain words.
use Rattle.std.proofs.Common.{◌≡◌, ◌⊎◌, ◌∙◌, ℕ, List, Option, Some, None, sym, ap, subst, inl, inr}
use Rattle.qs_machine.specs.State.{stack_limit}
use Rattle.qs_ports.specs.StoreView.{StoreView}
use Rattle.qs_driver_steps.specs.Devices.{DevicesView, streams_of}
use Rattle.qs_driver_steps.specs.Files.{IsUntouched}
use Rattle.qs_driver_steps.specs.Promises.{Answers, LacksMemory}
use Rattle.qs_driver_steps.specs.Reading.{refusing}
use Rattle.qs_driver_steps.specs.Runs.{Halts, refused, failed, no_memory, Passes, Passed, IsMade, Runs}
use Rattle.qs_driver_steps.specs.Statuses.{Names}
use Rattle.qs_driver_steps.specs.Steps.{Step, End, IsOf, end_status}
use Rattle.qs_driver_steps.proofs.SharedLaws.{passed_untouched}
use Rattle.qs_driver_steps.proofs.StoreLaws.{both_untouched}
use Rattle.qs_driver_steps.proofs.ThenLaws.{passed_both}
use Rattle.qs_driver_session.specs.Due.{Due}
use Rattle.qs_driver_session.specs.Limits.{image_limit, input_limit}
use Rattle.qs_driver_session.specs.PlainWords.{IsDone, ReadImage, HasRun, RunInPlainWords, UsageInPlainWords}
use Rattle.qs_driver_session.specs.Shared.{reading_file, imaging, fitting, fitting_stack, input_of}
use Rattle.qs_driver_session.specs.Starting.{RunWords, CanRun, ReadInput}
use Rattle.qs_driver_session.specs.Statuses.{tool}
use Rattle.qs_driver_session.specs.commands.Run.{Prepared, with_input, prepared, run_end, run, order_of}
use Rattle.qs_driver_session.specs.commands.Usage.{usage, none}
use Rattle.qs_driver_session.specs.declared.status.FileKind.TheVariants as kinds
use Rattle.qs_driver_session.specs.declared.status.Status.{Status}
use Rattle.qs_driver_session.specs.declared.status.Status.TheVariants.{Words}
use Rattle.qs_driver_session.specs.declared.status.WordsFault.TheVariants.{Usage}
use Rattle.qs_driver_session.proofs.EndLaws.{HasCome, has_come}
use Rattle.qs_driver_session.proofs.FileStatusLaws.{not_more}
use Rattle.qs_driver_session.proofs.FilesLaws.{was_read_as}
use Rattle.qs_driver_session.proofs.LaterLaws.{was_read_before}
use Rattle.qs_driver_session.proofs.RunStatusLaws.{comes_status, good_status, own_status}
use Rattle.qs_driver_session.proofs.rooms.Run.{run_good}

-- ---- `run`

-- the input that passed was read, behind steps that left the files alone
input_read : (v u w : StoreView) (input : Option (List ℕ)) (bytes : List ℕ) → IsUntouched v u → Passed (input_of input) u w bytes → ReadInput v input bytes
input_read v u w None bytes before (e, is) = is
input_read v u w (Some name) bytes before (a, read, p, (e, is)) =
    subst (λ (x : List ℕ). ReadInput v (Some name) x) (sym is) (was_read_before before (was_read_as u name input_limit read p.finds))

-- the image and the input that passed were read, and can be run with the words
record CameTo (r : RunWords) (v : StoreView) (p : Prepared) : Type 0 where
  image_read : ReadImage v r p.image
  can_run : CanRun r p.image
  has_input : ReadInput v r.input p.input

passes_untouched : (s : Step tool) (v w : StoreView) (y : s.Found) → Passes s v w y → IsUntouched v w
passes_untouched s v w y p = record { only_reads = p.looks.only_reads; counts = p.counts }

came_to : (r : RunWords) (v u : StoreView) (p : Prepared) → Passed (prepared r) v u p → CameTo r v p
came_to r v u p (a, bytes, read, (b, image, is_image, (c, x, fits, (d, y, small, rest)))) =
    let both = passed_both (with_input image) (input_of r.input) d u p rest in
    let to_image : IsUntouched v b = both_untouched (passes_untouched (reading_file kinds.Image image_limit r.image) v a bytes read) (passes_untouched (imaging bytes) a b image is_image) in
    let to_stack : IsUntouched b d = both_untouched (passes_untouched (fitting image r.args) b c x fits) (passes_untouched (fitting_stack r.stack) c d y small) in
    let came : CameTo r v (record { image = image; input = both.1 }) = record {
      image_read = record { content = bytes; read_as = was_read_as v r.image image_limit bytes read.finds; has = is_image.finds.so };
      can_run = record { arguments = fits.finds.so; small = not_more stack_limit r.stack small.finds.so };
      has_input = input_read v d both.0 r.input both.1 (both_untouched to_image to_stack) both.2;
    } in
    subst (λ (q : Prepared). CameTo r v q) (sym both.3.1) came

-- the end of the command is that of a run
has_run : (r : RunWords) (v u w : StoreView) (e : End tool) → Passed (run r) v u e → IsMade e.output u w → HasRun r v w e.due
has_run r v u w e passed made =
    let both = passed_both (run_end r) (prepared r) v u e passed in
    let p : Prepared = both.1 in
    let came : CameTo r v p = came_to r v both.0 p both.2 in
    record {
      image = p.image;
      input = p.input;
      image_read = came.image_read;
      can_run = came.can_run;
      input_read = came.has_input;
      untouched = both_untouched (passed_untouched (run r) v u e passed) (subst (λ (x : End tool). IsMade x.output u w) both.3.1 made);
      is_due = ap (λ (x : End tool). x.due) both.3.1;
    }

ran : (r : RunWords) (v w : DevicesView) (status : Status) → HasCome (order_of r) v w status → IsDone (HasRun r v.store w.store) (streams_of v) (streams_of w) status
ran r v w status h = record {
  due = h.ended.end.due;
  so = has_run r v.store h.ended.passed_at w.store h.ended.end h.ended.passed h.ended.made;
  status_is = h.status_is;
  put = h.put;
}

pub run_in_plain_words : RunInPlainWords
run_in_plain_words r v w status p = record {
  ran = λ is. ran r v w status (has_come (order_of r) (run_good r) v w status is p.answers);
  accepts = λ n g. (comes_status r v.store.files status (p.comes n g.told) ∙ good_status r v.store g);
  own = λ n. own_status r status (p.own n);
  exactly = λ n told. comes_status r v.store.files status (p.comes n told);
}

-- ---- words that mean no command

abbrev refusing_them : Step tool
refusing_them = refusing 1 (Unit {0}) (Words Usage)

halts_untouched : (v w : StoreView) (status : Status) → Halts refusing_them v w status → IsUntouched v w
halts_untouched v w status (refused f looks counts seen e) = record { only_reads = looks.only_reads; counts = counts }
halts_untouched v w status (failed file is looks x e) = absurd cc
halts_untouched v w status (no_memory looks counts e) = record { only_reads = looks.only_reads; counts = counts }

runs_untouched : (names : Names tool) (v w : StoreView) (due : Due) → Runs usage names v w due → IsUntouched v w
runs_untouched names v w due (inl (status, inl h, is)) = halts_untouched v w status h
runs_untouched names v w due (inl (status, inr (u, y, p, h), is)) = absurd h
runs_untouched names v w due (inr (e, u, (t, y, p, rest), f)) = absurd (p.finds.so tt)

untouched : (v w : DevicesView) (status : Status) → Answers none v w status ⊎ LacksMemory tool v w status → IsUntouched v.store w.store
untouched v w status (inl a) = runs_untouched none.names v.store w.store a.due a.runs
untouched v w status (inr l) = l.untouched

is_refused : (status : Status) → IsOf end_status usage status → status ≡ Words Usage
is_refused status (inl (f, c, e)) = e
is_refused status (inr (y, c, e)) = absurd (c.1 tt)

pub usage_in_plain_words : UsageInPlainWords
usage_in_plain_words v w status p = record {
  untouched = untouched v w status p.answers;
  refuses = λ n. is_refused status (p.own n);
}
