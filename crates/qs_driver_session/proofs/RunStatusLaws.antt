-- The status to which the steps of `run` come is the one that the words and the files tell, and no other command's.
use Rattle.std.proofs.Common.{◌≡◌, ◌∙◌, ℕ, ◌<◌, List, [], length, true, false, ltb, eqb, Option, Some, None, refl, sym, ap, subst, inl, inr}
use Rattle.std.proofs.lemmas.Bool.{le-ltb, lt-ltb, eq-eqb, ne_eqb}
use Rattle.qs_image.specs.Image.{Image, IsImage}
use Rattle.qs_image.proofs.Images.{reads}
use Rattle.qs_machine.specs.Arguments.{first_misfit, words_of}
use Rattle.qs_machine.specs.Run.{Outcome, Exited, Trapped as HasTrapped, Going, machine}
use Rattle.qs_machine.specs.State.{stack_limit}
use Rattle.qs_ports.specs.StoreView.{StoreView, Files}
use Rattle.qs_driver_steps.specs.Files.{HoldsContent}
use Rattle.qs_driver_steps.specs.Reading.{absent, long}
use Rattle.qs_driver_steps.specs.Steps.{then, Comes, IsOf, end_status}
use Rattle.qs_driver_session.specs.Limits.{image_limit, input_limit}
use Rattle.qs_driver_session.specs.PlainWords.{IsGood, outcome}
use Rattle.qs_driver_session.specs.Shared.{count_differs, misfit, input_of}
use Rattle.qs_driver_session.specs.Starting.{RunWords, CanRun, HasInput, status_at}
use Rattle.qs_driver_session.specs.commands.Run.{with_input, due_at, run_end, run}
use Rattle.qs_driver_session.specs.commands.RunStatus.{at_outcome, at_start, at_arguments, at_image, at_test, at_bytes, run_status, IsOfRun}
use Rattle.qs_driver_session.specs.commands.RunStatus as own
use Rattle.qs_driver_session.specs.declared.status.FileKind.TheVariants as kinds
use Rattle.qs_driver_session.specs.declared.status.Status.{Status}
use Rattle.qs_driver_session.specs.declared.status.Status.TheVariants.{Words, StackTooLarge}
use Rattle.qs_driver_session.specs.declared.status.WordsFault.TheVariants.{ArgCount}
use Rattle.qs_driver_session.proofs.FileStatusLaws.{not_more, chosen, tells_bytes, tells_fault}

pub due_status : (r : RunWords) (o : Outcome) → (due_at r o).status ≡ status_at r.steps o
due_status r (Exited output status) = refl
due_status r (HasTrapped cause pc output) = refl
due_status r (Going output) = refl

-- ---- the tests, one after the other

module _ (files : Files) (r : RunWords) where
  reads_bytes : (bytes : List ℕ) → HoldsContent (files r.image) image_limit bytes → run_status files r ≡ at_bytes files r bytes
  reads_bytes bytes h = tells_bytes kinds.Image image_limit (at_bytes files r) (files r.image) bytes h

  module _ (bytes : List ℕ) (there : HoldsContent (files r.image) image_limit bytes) (image : Image) (is : IsImage bytes image) where
    reads_image : run_status files r ≡ at_image files r image
    reads_image =
        let p = reads bytes image is in
        reads_bytes bytes there ∙ ap (at_test files r bytes) p.0 ∙ ap (at_image files r) p.1

    reads_arguments : length r.args ≡ image.parameters → run_status files r ≡ at_arguments files r image (first_misfit image 0 r.args)
    reads_arguments e = reads_image ∙ chosen (eqb (length r.args) image.parameters) true (at_arguments files r image (first_misfit image 0 r.args)) (Words (ArgCount image.parameters (length r.args))) (eq-eqb (length r.args) image.parameters e)

    differs : (length r.args ≡ image.parameters → ⊥) → run_status files r ≡ Words (ArgCount image.parameters (length r.args))
    differs ne = reads_image ∙ chosen (eqb (length r.args) image.parameters) false (at_arguments files r image (first_misfit image 0 r.args)) (Words (ArgCount image.parameters (length r.args))) (ne_eqb (length r.args) image.parameters ne)

    too_large : length r.args ≡ image.parameters → first_misfit image 0 r.args ≡ None → stack_limit < r.stack → run_status files r ≡ StackTooLarge r.stack
    too_large count fit large = reads_arguments count ∙ ap (at_arguments files r image) fit ∙ chosen (ltb stack_limit r.stack) true (StackTooLarge r.stack) (at_start files r image r.input) (lt-ltb stack_limit r.stack large)

    starts : CanRun r image → run_status files r ≡ at_start files r image r.input
    starts can =
        reads_arguments can.arguments.count ∙ ap (at_arguments files r image) can.arguments.fit
        ∙ chosen (ltb stack_limit r.stack) false (StackTooLarge r.stack) (at_start files r image r.input) (le-ltb stack_limit r.stack can.small)

takes_input : (v : StoreView) (r : RunWords) (image : Image) (name : Option (List ℕ)) (input : List ℕ) → HasInput v name input → at_start v.files r image name ≡ at_outcome r image input
takes_input v r image None input e = ap (at_outcome r image) (sym e)
takes_input v r image (Some name) input h = tells_bytes kinds.Input input_limit (at_outcome r image) (v.files name) input h

pub good_status : (r : RunWords) (v : StoreView) (g : IsGood r v) → run_status v.files r ≡ status_at r.steps (outcome g)
good_status r v g = starts v.files r g.image_there.content g.image_there.holds g.image g.image_there.has g.can_run ∙ takes_input v r g.image r.input g.input g.input_there

-- ---- the status

module _ (r : RunWords) (files : Files) (status : Status) where
  comes_input : (image : Image) (input : Option (List ℕ)) → Comes end_status (then (then (input_of input) (with_input image)) (run_end r)) files status → status ≡ at_start files r image input
  comes_input image None e = e ∙ due_status r (machine image r.stack (words_of r.args) [] r.steps)
  comes_input image (Some name) (inl (f, c, e)) = e ∙ sym (tells_fault kinds.Input input_limit (at_outcome r image) (files name) f c)
  comes_input image (Some name) (inr (input, h, e)) = e ∙ due_status r (machine image r.stack (words_of r.args) input r.steps) ∙ sym (tells_bytes kinds.Input input_limit (at_outcome r image) (files name) input h)

  pub comes_status : Comes end_status (run r) files status → status ≡ run_status files r
  comes_status (inl (f, c, e)) = e ∙ sym (tells_fault kinds.Image image_limit (at_bytes files r) (files r.image) f c)
  comes_status (inr (bytes, h, inl (fault, c, e))) = e ∙ sym (reads_bytes files r bytes h ∙ ap (at_test files r bytes) c)
  comes_status (inr (bytes, h, inr (image, i, inl (count_differs, c, e)))) = e ∙ sym (differs files r bytes h image i c)
  comes_status (inr (bytes, h, inr (image, i, inl (misfit k, c, e)))) = e ∙ sym (reads_arguments files r bytes h image i c.0 ∙ ap (at_arguments files r image) c.1)
  comes_status (inr (bytes, h, inr (image, i, inr (u, are, inl (x, large, e))))) = e ∙ sym (too_large files r bytes h image i are.count are.fit large)
  comes_status (inr (bytes, h, inr (image, i, inr (u, are, inr (x, small, rest))))) =
      comes_input image r.input rest ∙ sym (starts files r bytes h image i (record { arguments = are; small = not_more stack_limit r.stack small }))

-- ---- no refusal of another command

own_outcome : (steps : ℕ) (o : Outcome) → IsOfRun (status_at steps o)
own_outcome steps (Exited output status) = own.done
own_outcome steps (HasTrapped cause pc output) = own.trapped cause pc
own_outcome steps (Going output) = own.step_limit steps

module _ (r : RunWords) (status : Status) where
  at_end : (o : Outcome) → status ≡ (due_at r o).status → IsOfRun status
  at_end o e = subst IsOfRun (sym (e ∙ due_status r o)) (own_outcome r.steps o)

  own_input : (image : Image) (input : Option (List ℕ)) → IsOf end_status (then (then (input_of input) (with_input image)) (run_end r)) status → IsOfRun status
  own_input image None e = at_end (machine image r.stack (words_of r.args) [] r.steps) e
  own_input image (Some name) (inl (absent, c, e)) = subst IsOfRun (sym e) own.missing_input
  own_input image (Some name) (inl (long, c, e)) = subst IsOfRun (sym e) own.long_input
  own_input image (Some name) (inr (input, h, e)) = at_end (machine image r.stack (words_of r.args) input r.steps) e

  pub own_status : IsOf end_status (run r) status → IsOfRun status
  own_status (inl (absent, c, e)) = subst IsOfRun (sym e) own.missing_image
  own_status (inl (long, c, e)) = subst IsOfRun (sym e) own.long_image
  own_status (inr (bytes, h, inl (fault, c, e))) = subst IsOfRun (sym e) (own.broken_image fault)
  own_status (inr (bytes, h, inr (image, i, inl (count_differs, c, e)))) = subst IsOfRun (sym e) (own.wrong_count image.parameters (length r.args))
  own_status (inr (bytes, h, inr (image, i, inl (misfit k, c, e)))) = subst IsOfRun (sym e) (own.wrong_argument k)
  own_status (inr (bytes, h, inr (image, i, inr (u, are, inl (x, large, e))))) = subst IsOfRun (sym e) (own.large_stack r.stack)
  own_status (inr (bytes, h, inr (image, i, inr (u, are, inr (x, small, rest))))) = own_input image r.input rest
