-- A step keeps each relation of runs that events keep, also of the runs of two units whose functions have the same
-- parameters and blocks. That runs grow with their steps is an instance.
use Rattle.std.proofs.Common.{◌≡◌, ℕ, zero, suc, ◌≤◌, List, [], ◌∷◌, Option, Some, None, refl, subst, arith}
use Rattle.std.specs.List.{slice_get}
use Rattle.std.specs.Option.{option_map}
use Rattle.std.proofs.lemmas.Option.{same_Some}
use Rattle.qs_memory.specs.Values.{Value}
use Rattle.qs_memory.specs.Memory.{Memory, release}
use Rattle.qs_events.specs.Events.{Returns}
use Rattle.qs_events.specs.Runs.{given, Within}
use Rattle.qs_calls.specs.World.{World, with_memory, RootRun, leaves}
use Rattle.qs_calls.specs.Calls.{Frame, activate}
use Rattle.qs_calls.specs.Relations.{Relation, Keeps, ReturnsRelated, CallsRelated}
use Rattle.qs_calls.proofs.RelationLaws.{given_related, invoke_related, activate_related, within_keeps}
use Rattle.qs_tac.specs.Trees.{InstructionTree, move, unary, binary, convert, address_of, load, store}
use Rattle.qs_tac.specs.Trees.{copy, fill, call, jump, branch, return, TacFunctionTree, TacUnitTree}
use Rattle.qs_tac.specs.Holders.{Holder}
use Rattle.qs_tac.specs.Values.{Activation, operand, operands, holds}
use Rattle.qs_tac.specs.Steps.{Waiting, Next, gives, leaves_memory, take_result, resume, begins, frame_of, enters, ends, waits, step, instruction_at, steps}
use Rattle.qs_tac.specs.Units.{run}
use Rattle.qs_tac.specs.Laws.{LinearCodeGrows}

-- their functions have the same parameters and blocks
abbrev pub FramesSame : TacUnitTree → TacUnitTree → Type 0
FramesSame u v = (f : ℕ) → option_map frame_of (slice_get u.functions f) ≡ option_map frame_of (slice_get v.functions f)

framed_related :
    (R : Relation) → Keeps R → (o p : Option TacFunctionTree) → option_map frame_of o ≡ option_map frame_of p
    → (f g : Frame → RootRun) → ((frame : Frame) → R (f frame) (g frame))
    → R (given o (λ t. f (frame_of t))) (given p (λ t. g (frame_of t)))
framed_related R keeps None None e f g h = keeps.undefined
framed_related R keeps None (Some p) e f g h = absurd (cc)
framed_related R keeps (Some o) None e f g h = absurd (cc)
framed_related R keeps (Some o) (Some p) e f g h =
    subst (λ (frame : Frame). R (f (frame_of o)) (g frame)) (same_Some (frame_of o) (frame_of p) e) (h (frame_of o))

module _ (R : Relation) (keeps : Keeps R) (same : (result : Option Value) (w : World) → R (leaves result w) (leaves result w)) {S : Type 0} (h : Holder S) (u v : TacUnitTree) (frames : FramesSame u v) where
  abbrev pub NextsRelated : Next S → Next S → Type 0
  NextsRelated k j = (a : Activation S) (w : World) (stack : List (Waiting S)) → R (k a w stack) (j a w stack)

  gives_related : (k j : Next S) → NextsRelated k j → (x : ℕ) (o : Option Value) → NextsRelated (gives h k x o) (gives h j x o)
  gives_related k j r x o a w stack = given_related R keeps o _ _ (λ v. r _ w stack)

  memory_related : (k j : Next S) → NextsRelated k j → (o : Option Memory) → NextsRelated (leaves_memory k o) (leaves_memory j o)
  memory_related k j r o a w stack = given_related R keeps o _ _ (λ m. r _ _ stack)

  result_related :
      (k j : Next S) → NextsRelated k j → (x : Option ℕ) (a : Activation S) (stack : List (Waiting S))
      → ReturnsRelated R (take_result h k x a stack) (take_result h j x a stack)
  result_related k j r None a stack result w = r a w stack
  result_related k j r (Some x) a stack result w = given_related R keeps result _ _ (λ v. r _ w stack)

  resume_related : (k j : Next S) → NextsRelated k j → (stack : List (Waiting S)) → ReturnsRelated R (resume h k stack) (resume h j stack)
  resume_related k j r [] result w = same result w
  resume_related k j r (c ∷ stack) result w = result_related k j r c.taken_by c.activation stack result w

  -- whom the function returns to stands on the stack, so what else would follow makes no difference
  pub enters_related : (k j : Next S) → NextsRelated k j → (stack : List (Waiting S)) → CallsRelated R (enters h u k stack) (enters h v j stack)
  enters_related k j r stack f arguments c d cd w =
      framed_related R keeps (slice_get u.functions f) (slice_get v.functions f) (frames f)
      (λ frame. activate f frame (begins h k stack f) arguments c w)
      (λ frame. activate f frame (begins h j stack f) arguments d w)
      (λ frame. activate_related R keeps f frame (begins h k stack f) (begins h j stack f)
      (λ first kk jj s e x. r _ x stack) arguments c d cd w)

  ends_related : (k j : Next S) → NextsRelated k j → (a : Activation S) (stack : List (Waiting S)) → ReturnsRelated R (ends h k a stack) (ends h j a stack)
  ends_related k j r a stack result w =
      keeps.emit (Returns a.function) _ _ (resume_related k j r stack result (with_memory w (release a.first_block w.memory)))

  pub step_related : (k j : Next S) → NextsRelated k j → (i : Option InstructionTree) → NextsRelated (step h u i k) (step h v i j)
  step_related k j r None a w stack = keeps.undefined
  step_related k j r (Some (move x o)) a w stack = gives_related k j r x _ a w stack
  step_related k j r (Some (unary op x o)) a w stack = gives_related k j r x _ a w stack
  step_related k j r (Some (binary op x o p)) a w stack = gives_related k j r x _ a w stack
  step_related k j r (Some (convert s x o)) a w stack = gives_related k j r x _ a w stack
  step_related k j r (Some (address_of x p)) a w stack = gives_related k j r x _ a w stack
  step_related k j r (Some (load s x p)) a w stack = gives_related k j r x _ a w stack
  step_related k j r (Some (store s p o)) a w stack = memory_related k j r _ a w stack
  step_related k j r (Some (copy size alignment p q)) a w stack = memory_related k j r _ a w stack
  step_related k j r (Some (fill blank p)) a w stack = memory_related k j r _ a w stack
  step_related k j r (Some (call x f arguments)) a w stack =
      given_related R keeps (operands h arguments a) _ _
      (λ vs. invoke_related R keeps f _ _ (enters_related k j r (record { activation = waits h a; taken_by = x } ∷ stack)) vs _ _
      (result_related k j r x (waits h a) stack) w)
  step_related k j r (Some (jump to)) a w stack = r _ w stack
  step_related k j r (Some (branch c to)) a w stack = given_related R keeps (holds h c a w.memory) _ _ (λ yes. r _ w stack)
  step_related k j r (Some (return None)) a w stack = ends_related k j r a stack None w
  step_related k j r (Some (return (Some o))) a w stack =
      given_related R keeps (operand h o a) _ _ (λ v. ends_related k j r a stack (Some v) w)

-- ---- runs grow

pub leaves_within : (result : Option Value) (w : World) → Within (leaves result w) (leaves result w)
leaves_within result w = refl

module _ {S : Type 0} (h : Holder S) (u : TacUnitTree) where
  pub steps_grow : (m n : ℕ) → m ≤ n → (a : Activation S) (w : World) (stack : List (Waiting S)) → Within (steps h u m a w stack) (steps h u n a w stack)
  steps_grow zero n le a w stack = tt
  steps_grow (suc m) zero le a w stack = absurd (omega arith)
  steps_grow (suc m) (suc n) le a w stack =
      step_related Within within_keeps leaves_within h u u (λ f. refl) (steps h u m) (steps h u n)
      (steps_grow m n (omega arith)) (instruction_at u a) a w stack

  run_grows : (root : ℕ) (arguments : List Value) (w : World) (m n : ℕ) → m ≤ n → Within (run h u root arguments w m) (run h u root arguments w n)
  run_grows root arguments w zero n le = tt
  run_grows root arguments w (suc m) zero le = absurd (omega arith)
  run_grows root arguments w (suc m) (suc n) le =
      enters_related Within within_keeps leaves_within h u u (λ f. refl) (steps h u m) (steps h u n)
      (steps_grow m n (omega arith)) [] root arguments leaves leaves leaves_within w

pub linear_code_grows : (S : Type 0) → LinearCodeGrows S
linear_code_grows S h u root arguments w m n le = run_grows h u root arguments w m n le
