-- How `sample` comes to a machine, and what it came to.
use Rattle.std.proofs.Common.{◌≡◌, ◌⊎◌, ◌∙◌, ℕ, ◌++◌, List, [], length, Option, Some, None, Result, Ok, Err, refl, sym, ap, subst, inl, inr, arith}
use Rattle.qs_syntax.specs.Trees.{DeclTree, UnitTree}
use Rattle.qs_syntax.specs.Units.{IsRead}
use Rattle.qs_typing_findings.specs.TypedOf.{typed_tree}
use Rattle.qs_core.specs.Trees.{CoreUnitTree}
use Rattle.qs_triples.specs.Derivations.{ProofsTree}
use Rattle.qs_triples.specs.TreeOf.{proofs_tree}
use Rattle.qs_ports.specs.StoreView.{StoreView}
use Rattle.qs_ports.specs.SinkView.{SinkView, Appends}
use Rattle.qs_image.specs.Image.{Image}
use Rattle.qs_machine.specs.Arguments.{words_of}
use Rattle.qs_machine.specs.Run.{Outcome, Exited, Trapped as HasTrapped, Going, machine, output_so_far}
use Rattle.qs_machine.specs.Running.{Shows}
use Rattle.qs_machine.specs.declared.answers.RunEnd.{RunEnd}
use Rattle.qs_machine.specs.declared.answers.RunEnd.TheVariants as end
use Rattle.qs_emit.specs.Agree.{Agree}
use Rattle.qs_certify.specs.Bound.{main_bound}
use Rattle.qs_compile.specs.Compiled.{IsCompiled, IsImageOfSource}
use Rattle.qs_cli.specs.Numbers.{default_steps}
use Rattle.qs_driver_steps.specs.Devices.{streams, views_of}
use Rattle.qs_driver_session.specs.Due.{Due, EndsWith, IsWritten}
use Rattle.qs_driver_session.specs.Faults.{status_line}
use Rattle.qs_driver_session.specs.KeptOutput.{kept_view}
use Rattle.qs_driver_session.specs.SampleSource.{sample_text}
use Rattle.qs_driver_session.specs.Source.{IsTypedAs}
use Rattle.qs_driver_session.specs.Task.{Answers}
use Rattle.qs_driver_session.specs.Starting.{IsStackOf, LoadsImage}
use Rattle.qs_driver_session.specs.declared.kept_output.KeptOutput.{KeptOutput}
use Rattle.qs_driver_session.specs.declared.status.Status.{Status}
use Rattle.qs_driver_session.specs.declared.status.Status.TheVariants.{Done, Trapped, StepLimit, NoMemory}
use Rattle.qs_driver_session.proofs.StartingLaws.{stands_at}
use Rattle.qs_driver_session.proofs.rooms.Follows.{untouched}
use Rattle.qs_driver_session.proofs.PieceLaws.{log_last, out_last}
use Rattle.qs_driver.specs.Bounds.{IsImageOf, bound_by, bytes_by, costs_in, seen_runs}
use Rattle.qs_driver.specs.Certified.{IsCertifiedUnit}
use Rattle.qs_driver.specs.Made.{IsMadeOf}
use Rattle.qs_driver.specs.commands.Exec.{as_run, IsSourcesEnd}
use Rattle.qs_driver.specs.commands.Sample.{SampleWords, names_of, as_exec, counted, outcome, sample, sample_lines, due_of, HasStarted, HasWritten, IsDueAt, IsDueToSample, ComesTo, RunsCounted, Samples, WritesText}
use Rattle.qs_driver.specs.commands.Sample as meant
use Rattle.qs_driver.specs.declared.certified.CertifiedUnit.{CertifiedUnit}
use Rattle.qs_driver.specs.declared.commands.sample.SampleStart.{SampleStart}
use Rattle.qs_driver.specs.declared.commands.sample.SampleEnd.{SampleEnd}
use Rattle.qs_driver.specs.declared.made.Made.{Made}
use Rattle.qs_driver.proofs.BoundsLaws.{bytes_are, compiled_is_image, is_compiled}
use Rattle.qs_driver.proofs.CertifiedLaws.{HoldsCertified, holds_certified}
use Rattle.qs_driver.proofs.rooms.Exec.{sources_end}

-- ---- a text comes to a machine

-- the image that was made of what the code holds is one of the text
pub image_of : {text : List ℕ} {c : CertifiedUnit} {image : Image} (h : HoldsCertified text None c) → IsImageOfSource (typed_tree c.typed) image → IsImageOf h.source image
image_of {text} {c} {image} h compiled =
    compiled_is_image text None h.source h.is image
    (subst (λ (unit : UnitTree). IsCompiled unit image) h.holds.unit (is_compiled (typed_tree c.typed) image compiled))

-- the bound that the code has computed is that of what it holds
pub bound_of_held : {text : List ℕ} {c : CertifiedUnit} {made : Made} (h : HoldsCertified text None c) → IsMadeOf c [] made → made.bound ≡ bound_by h.source (costs_in made.image.functions) []
bound_of_held {c = c} {made = made} h m =
    m.bound_is
    ∙ ap (λ (u : CoreUnitTree). main_bound u (proofs_tree c.certified.proofs) (costs_in made.image.functions) []) h.holds.core
    ∙ ap (λ (p : ProofsTree). main_bound h.source.core p (costs_in made.image.functions) []) h.holds.proofs

pub has_started : {text : List ℕ} {unit : List DeclTree} {c : CertifiedUnit} {made : Made} (started : SampleStart) → IsTypedAs text unit → IsRead unit → IsCertifiedUnit unit None c → IsMadeOf c [] made → IsStackOf made.bound (Ok started.stack) → LoadsImage made.image (as_run as_exec started.stack) (Ok started.machine) → started.functions ≡ length made.image.functions → HasStarted text started
has_started started typed_as read k m is (inl never) functions_are = absurd (let none : ⊥ = cc in none)
has_started {c = c} {made = made} started typed_as read k m (is, small) (inr l) functions_are =
    let h = holds_certified None c typed_as read k in
    record {
      source = h.source;
      image = made.image;
      has_stack = record {
        certified = h.is;
        image_of = image_of h m.compiled;
        arguments = m.arguments;
        bound = sym (bound_of_held h m) ∙ is;
        small = small;
      };
      functions_are = functions_are;
      none_taken = l.loads.none_taken;
      stands = stands_at (as_run as_exec started.stack) l.bytes made.image started.machine [] l.is_image l.loads;
    }

-- ---- the run

-- what the code answers at the end of a run that put this output
abbrev pub EndsAs : SampleStart → (output : List ℕ) → RunEnd → Result SampleEnd Status → Type 0
EndsAs started output (end.Exited status) answer =
    answer ≡ Ok (record { functions = started.functions; stack = started.stack; output = length output; status = status })
EndsAs started output (end.Trapped cause pc) answer = answer ≡ Err (Trapped cause pc)
EndsAs started output end.StepLimit answer = answer ≡ Err (StepLimit default_steps)
EndsAs started output end.SinkFailed answer = answer ≡ Err NoMemory

-- what was kept is the output of the machine
kept_all : (o : Outcome) (before after : KeptOutput) → before.bytes.items ≡ [] → Appends (kept_view before) (kept_view after) (output_so_far o) → after.bytes.items ≡ output_so_far o
kept_all o before after empty a = a.written refl ∙ ap (λ (xs : List ℕ). xs ++ output_so_far o) empty

pub comes_to : (started : SampleStart) (o : Outcome) (before after : KeptOutput) (ended : RunEnd) (answer : Result SampleEnd Status) → before.bytes.items ≡ [] → Shows o (kept_view before) (kept_view after) ended → EndsAs started after.bytes.items ended answer → (answer ≡ Err NoMemory) ⊎ ComesTo started o answer
comes_to started o before after (end.Exited status) answer empty (is, a) e =
    let kept = kept_all o before after empty a in
    let P : Outcome → Type 0 = λ x. ComesTo started x answer in
    let Q : Result SampleEnd Status → Type 0 = λ x. ComesTo started (Exited (output_so_far o) status) x in
    inr (subst P (sym is) (subst Q (sym e) (record { functions_are = refl; stack_is = refl; output_is = ap (λ (xs : List ℕ). length xs) kept; status_is = refl })))
comes_to started o before after (end.Trapped cause pc) answer empty (is, a) e =
    let P : Outcome → Type 0 = λ x. ComesTo started x answer in
    let Q : Result SampleEnd Status → Type 0 = λ x. ComesTo started (HasTrapped cause pc (output_so_far o)) x in
    inr (subst P (sym is) (subst Q (sym e) refl))
comes_to started o before after end.StepLimit answer empty (is, a) e =
    let P : Outcome → Type 0 = λ x. ComesTo started x answer in
    let Q : Result SampleEnd Status → Type 0 = λ x. ComesTo started (Going (output_so_far o)) x in
    inr (subst P (sym is) (subst Q (sym e) refl))
comes_to started o before after end.SinkFailed answer empty shown e = inl e

-- ---- what it came to

module _ {text : List ℕ} {started : SampleStart} (h : HasStarted text started) where
  abbrev outcomes : ℕ → Outcome
  outcomes = machine h.image started.stack (words_of []) []

  -- the stack is exactly the bound
  agree : Agree (seen_runs h.has_stack.image_of.compiled.program [] []) outcomes
  agree =
      let same : bytes_by h.source h.image [] ≡ Some started.stack = bytes_are h.source h.image [] started.stack h.has_stack.bound in
      h.has_stack.image_of.agrees.agree [] [] started.stack started.stack h.has_stack.arguments (λ k d none. omega (arith, none)) same (omega arith) h.has_stack.small

  pub ends : IsSourcesEnd h.has_stack.image_of.compiled.program as_exec [] (outcome h.image started.stack)
  ends = sources_end h.has_stack.image_of.compiled.program as_exec [] outcomes (outcome h.image started.stack) agree refl

-- ---- the source in the out file

pub nothing_written : (v : StoreView) (text : List ℕ) → WritesText None text v v (Ok tt)
nothing_written v text = untouched v

-- ---- what the work comes to

pub no_text : (w : SampleWords) (v : StoreView) → Samples w v v (Err NoMemory)
no_text w v = meant.refused NoMemory (meant.no_memory (inl (untouched v)) refl) refl

not_written : (w : SampleWords) (out : Option (List ℕ)) (v u : StoreView) (status : Status) → w.out ≡ out → WritesText out (sample_text w.count) v u (Err status) → Samples w v u (Err status)
not_written w None v u status is h = absurd h
not_written w (Some name) v u status is (e, failed, part) =
    meant.refused status (meant.unwritable (record { name = name; named = is; part = part; failed = failed }) e) refl

pub source_not_written : (w : SampleWords) (v u : StoreView) (status : Status) → WritesText w.out (sample_text w.count) v u (Err status) → Samples w v u (Err status)
source_not_written w v u status h = not_written w w.out v u status refl h

pub out_of_memory : (w : SampleWords) (v u : StoreView) (status : Status) → status ≡ NoMemory → HasWritten w.out (sample_text w.count) v u → Samples w v u (Err status)
out_of_memory w v u status is h = meant.refused status (meant.no_memory (inr h) is) refl

module _ (w : SampleWords) (v u : StoreView) (written : HasWritten w.out (sample_text w.count) v u) (started : SampleStart) (h : HasStarted (sample_text w.count) started) where
  has_run : (due : Due) → IsDueAt w h.image started.stack (outcome h.image started.stack) due → IsDueToSample w v u due
  has_run due is = meant.ran (record {
    source = h.source;
    image = h.image;
    stack = started.stack;
    has_stack = h.has_stack;
    written = written;
    sources_end = ends h;
    is_due = is;
  })

  -- the code's counts are those of the image and the outcome
  is_due_at : (o : Outcome) (answer : Result SampleEnd Status) → ComesTo started o answer → IsDueAt w h.image started.stack o (due_of w answer)
  is_due_at (Exited output status) (Ok x) e =
      ap (λ (n : ℕ). counted n x.stack x.output x.status) (e.functions_are ∙ h.functions_are)
      ∙ ap (λ (n : ℕ). counted (length h.image.functions) n x.output x.status) e.stack_is
      ∙ ap (λ (n : ℕ). counted (length h.image.functions) started.stack n x.status) e.output_is
      ∙ ap (λ (n : ℕ). counted (length h.image.functions) started.stack (length output) n) e.status_is
  is_due_at (Exited output status) (Err other) e = absurd e
  is_due_at (HasTrapped cause pc output) (Ok x) e = absurd e
  is_due_at (HasTrapped cause pc output) (Err other) e = ap (λ (s : Status). due_of w (Err s)) e
  is_due_at (Going output) (Ok x) e = absurd e
  is_due_at (Going output) (Err other) e = ap (λ (s : Status). due_of w (Err s)) e

  was_run : (answer : Result SampleEnd Status) → (answer ≡ Err NoMemory) ⊎ ComesTo started (outcome h.image started.stack) answer → Samples w v u answer
  was_run answer (inl e) = let P : Result SampleEnd Status → Type 0 = λ x. Samples w v u x in subst P (sym e) (out_of_memory w v u NoMemory refl written)
  was_run answer (inr c) = has_run (due_of w answer) (is_due_at (outcome h.image started.stack) answer c)

pub has_sampled : (w : SampleWords) (v u : StoreView) (started : SampleStart) (answer : Result SampleEnd Status) → HasWritten w.out (sample_text w.count) v u → HasStarted (sample_text w.count) started → ((text : List ℕ) → RunsCounted text started answer) → Samples w v u answer
has_sampled w v u started answer written h runs = was_run w v u written started h answer (runs (sample_text w.count) h)

-- ---- what is put after that

pub lines_put : (w : SampleWords) (x : SampleEnd) (l v u : SinkView) (result : Status) → EndsWith (sample_lines x.functions x.stack x.output x.status) Done v u result → IsWritten (due_of w (Ok x)) (streams v l) (streams u l) result
lines_put w x l v u result h = out_last Done (sample_lines x.functions x.stack x.output x.status) l v u result h

pub fault_put : (w : SampleWords) (status : Status) (o v u : SinkView) (result : Status) → EndsWith (status_line (names_of w) status) status v u result → IsWritten (due_of w (Err status)) (streams o v) (streams o u) result
fault_put w status o v u result h = log_last status (status_line (names_of w) status) o v u result h

pub sample_answers : (w : SampleWords) (s s' : StoreView) (o o' l l' : SinkView) (work : Result SampleEnd Status) (result : Status) → Samples w s s' work → IsWritten (due_of w work) (streams o l) (streams o' l') result → Answers (sample w) (views_of s o l) (views_of s' o' l') result
sample_answers w s s' o o' l l' work result d h = record { due = due_of w work; is_due = d; written = h }
