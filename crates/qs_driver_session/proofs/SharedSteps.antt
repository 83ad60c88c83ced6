-- The steps that commands share are sound, and what their code shows.
use Rattle.std.proofs.Common.{◌≡◌, ◌∙◌, ℕ, ◌≤◌, ◌<◌, ℤ, List, [], Option, Some, None, Result, Ok, Err, refl, sym, ap, subst, inl, arith}
use Rattle.std.proofs.lemmas.Option.{same_Some}
use Rattle.std.specs.Prelude.{Vec}
use Rattle.std.specs.declared.alloc.Global.{Global}
use Rattle.qs_image.specs.Image.{Image, IsImage}
use Rattle.qs_image.specs.Faults.{first_fault}
use Rattle.qs_image.specs.declared.fault.ImageFault.{ImageFault}
use Rattle.qs_image.proofs.Images.{one_image, no_image}
use Rattle.qs_machine.specs.Arguments.{AreArguments, first_misfit}
use Rattle.qs_machine.specs.State.{stack_limit}
use Rattle.qs_ports.specs.StoreView.{StoreView}
use Rattle.qs_driver_steps.specs.Reading.{items_of, IsOneOf}
use Rattle.qs_driver_steps.specs.Runs.{Halts, Passes, Takes, TakesAll}
use Rattle.qs_driver_steps.proofs.Laws.{IsSound, FindsOne, IsSingle, IsWithin, decides, refuses, refuses_one}
use Rattle.qs_driver_steps.proofs.ReadingLaws.{reading_sound, reading_one, decided, not_decided, undecided}
use Rattle.qs_driver_session.specs.Arguments.{LacksWords}
use Rattle.qs_driver_session.specs.Arguments as arguments
use Rattle.qs_driver_session.specs.Limits.{input_limit}
use Rattle.qs_driver_session.specs.Shared.{naming, reading_file, imaging, ArgumentFault, count_differs, misfit, HasArgumentFault, argument_status, fitting, fitting_stack, input_of}
use Rattle.qs_driver_session.specs.Statuses.{tool, seen_as, number_of, exactly}
use Rattle.qs_driver_session.specs.declared.status.FileKind.TheVariants as kinds
use Rattle.qs_driver_session.specs.declared.status.Status.{Status}
use Rattle.qs_driver_session.specs.declared.status.Status.TheVariants.{Words, Image as NotAnImage, StackTooLarge, NoMemory}
use Rattle.qs_driver_session.specs.declared.status.WordsFault.TheVariants.{SameName, ArgRange}

-- ---- the name of the file that is written

module _ (out : List ℕ) (inputs : List (List ℕ)) where
  pub naming_sound : IsSound (naming out inputs)
  naming_sound = refuses tool 2 (IsOneOf out inputs) (Words SameName) refl

  pub naming_one : FindsOne (naming out inputs)
  naming_one = refuses_one tool 2 (IsOneOf out inputs) (Words SameName)

  pub own_name : (v : StoreView) → (IsOneOf out inputs → ⊥) → Passes (naming out inputs) v v tt
  own_name v differ = decided 2 (λ (u : Unit {0}). IsOneOf out inputs → ⊥) (λ (u : Unit {0}). IsOneOf out inputs) (λ u. Words SameName) v tt differ

  pub same_name : (v : StoreView) → IsOneOf out inputs → Halts (naming out inputs) v v (Words SameName)
  same_name v is = not_decided 2 (λ (u : Unit {0}). IsOneOf out inputs → ⊥) (λ (u : Unit {0}). IsOneOf out inputs) (λ u. Words SameName) v tt is

-- ---- an image

module _ (content : List ℕ) where
  abbrev IsBroken : ImageFault → Type 0
  IsBroken fault = first_fault content ≡ Some fault

  one_fault : (f g : ImageFault) → IsBroken f → IsBroken g → exactly (NotAnImage f) ≡ exactly (NotAnImage g)
  one_fault f g c d = ap (λ (x : ImageFault). exactly (NotAnImage x)) (same_Some f g (sym c ∙ d))

  pub imaging_sound : IsSound (imaging content)
  imaging_sound = decides tool 14 (λ (image : Image). IsImage content image) IsBroken NotAnImage one_fault (λ f image c h. no_image content f image c h) (λ f. refl)

  pub imaging_one : FindsOne (imaging content)
  imaging_one files y z h k = one_image content y z h k

  pub is_imaged : (v : StoreView) (image : Image) → IsImage content image → Passes (imaging content) v v image
  is_imaged v image h = decided 14 (λ (image : Image). IsImage content image) IsBroken NotAnImage v image h

  pub is_broken : (v : StoreView) (fault : ImageFault) → IsBroken fault → Halts (imaging content) v v (NotAnImage fault)
  is_broken v fault c = not_decided 14 (λ (image : Image). IsImage content image) IsBroken NotAnImage v fault c

  -- no memory was found for it, or for what is made of it
  pub no_image_memory : (v : StoreView) → Halts (imaging content) v v NoMemory
  no_image_memory v = undecided 14 (λ (image : Image). IsImage content image) IsBroken NotAnImage v

-- ---- arguments

misfit_or_not : (image : Image) (args : List ℤ) (i : ℕ) → first_misfit image 0 args ≡ Some i → first_misfit image 0 args ≡ None → ⊥
misfit_or_not image args i e f = cc

one_argument : (image : Image) (args : List ℤ) (f g : ArgumentFault) → HasArgumentFault image args f → HasArgumentFault image args g → seen_as (argument_status image args f) ≡ seen_as (argument_status image args g)
one_argument image args count_differs count_differs c d = refl
one_argument image args count_differs (misfit i) c d = absurd (c d.0)
one_argument image args (misfit i) count_differs c d = absurd (d c.0)
one_argument image args (misfit i) (misfit j) c d = ap (λ (k : ℕ). exactly (Words (ArgRange k))) (same_Some i j (sym c.1 ∙ d.1))

no_argument : (image : Image) (args : List ℤ) (f : ArgumentFault) → HasArgumentFault image args f → AreArguments image args → ⊥
no_argument image args count_differs c h = c h.count
no_argument image args (misfit i) c h = misfit_or_not image args i c.1 h.fit

argument_number : (image : Image) (args : List ℤ) (f : ArgumentFault) → number_of (argument_status image args f) ≡ 15
argument_number image args count_differs = refl
argument_number image args (misfit i) = refl

module _ (image : Image) (args : List ℤ) where
  abbrev Fits : Unit {0} → Type 0
  Fits u = AreArguments image args

  pub fitting_sound : IsSound (fitting image args)
  fitting_sound = decides tool 15 Fits (HasArgumentFault image args) (argument_status image args) (one_argument image args) (λ f u c h. no_argument image args f c h) (argument_number image args)

  pub fitting_one : FindsOne (fitting image args)
  fitting_one files y z h k = refl

  pub fitted : (v : StoreView) → AreArguments image args → Passes (fitting image args) v v tt
  fitted v h = decided 15 Fits (HasArgumentFault image args) (argument_status image args) v tt h

  unfitted : (v : StoreView) (f : ArgumentFault) → HasArgumentFault image args f → Halts (fitting image args) v v (argument_status image args f)
  unfitted v f c = not_decided 15 Fits (HasArgumentFault image args) (argument_status image args) v f c

  pub fits_lacking : (v : StoreView) (status : Status) → LacksWords image args status → Halts (fitting image args) v v status
  fits_lacking v status (arguments.count_differs ne e) = subst (λ (x : Status). Halts (fitting image args) v v x) (sym e) (unfitted v count_differs ne)
  fits_lacking v status (arguments.misfit i count first e) = subst (λ (x : Status). Halts (fitting image args) v v x) (sym e) (unfitted v (misfit i) (count, first))
  fits_lacking v status (arguments.no_memory e) =
      let halts : Halts (fitting image args) v v NoMemory = undecided 15 Fits (HasArgumentFault image args) (argument_status image args) v in
      subst (λ (x : Status). Halts (fitting image args) v v x) (sym e) halts

-- ---- the stack

not_above : (a b : ℕ) → a ≤ b → b < a → ⊥
not_above a b h k = omega arith

module _ (stack : ℕ) where
  pub stack_sound : IsSound (fitting_stack stack)
  stack_sound = refuses tool 17 (stack_limit < stack) (StackTooLarge stack) refl

  pub stack_one : FindsOne (fitting_stack stack)
  stack_one = refuses_one tool 17 (stack_limit < stack) (StackTooLarge stack)

  pub small_stack : (v : StoreView) → stack ≤ stack_limit → Passes (fitting_stack stack) v v tt
  small_stack v h = decided 17 (λ (u : Unit {0}). stack_limit < stack → ⊥) (λ (u : Unit {0}). stack_limit < stack) (λ u. StackTooLarge stack) v tt (λ lt. not_above stack stack_limit h lt)

  pub large_stack : (v : StoreView) → stack_limit < stack → Halts (fitting_stack stack) v v (StackTooLarge stack)
  large_stack v h = not_decided 17 (λ (u : Unit {0}). stack_limit < stack → ⊥) (λ (u : Unit {0}). stack_limit < stack) (λ u. StackTooLarge stack) v tt h

-- ---- the input

pub input_single : (input : Option (List ℕ)) → IsSingle (input_of input)
input_single None = tt
input_single (Some name) = (reading_sound tool 19 kinds.Input input_limit name refl refl, reading_one tool 19 kinds.Input input_limit name, (λ y. tt))

pub input_within : (input : Option (List ℕ)) → IsWithin (input_of input) 19 20
input_within None = omega arith
input_within (Some name) = (omega arith, omega arith, (λ y. omega arith))

pub no_input_takes : (v : StoreView) (bytes : Vec ℕ Global) → bytes.items ≡ [] → TakesAll (input_of None) items_of v v (Ok bytes)
no_input_takes v bytes e = (refl, e)

pub input_takes : (v w : StoreView) (name : List ℕ) (result : Result (Vec ℕ Global) Status) → Takes (reading_file kinds.Input input_limit name) items_of v w result → TakesAll (input_of (Some name)) items_of v w result
input_takes v w name (Ok bytes) h = (w, bytes.items, h, (refl, refl))
input_takes v w name (Err status) h = inl h
