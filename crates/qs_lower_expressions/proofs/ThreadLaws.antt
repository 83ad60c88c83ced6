-- A unit whose jumps are threaded: the instruction that comes next in it, and behind so many jumps.
use Rattle.std.proofs.Common.{◌≡◌, ℕ, zero, suc, ◌⊎◌, inl, inr, List, [], length, Option, Some, None, unwrap_or, refl, sym, ap, ◌∙◌}
use Rattle.std.specs.List.{slice_get}
use Rattle.std.specs.Option.{option_map}
use Rattle.std.proofs.lemmas.Option.{slice_get-map}
use Rattle.qs_memory.specs.Partial.{◌>>=◌}
use Rattle.qs_calls.specs.World.{World}
use Rattle.qs_tac.specs.Trees.{InstructionTree, move, unary, binary, convert, address_of, load, store}
use Rattle.qs_tac.specs.Trees.{copy, fill, call, jump, branch, return, TacFunctionTree, TacUnitTree}
use Rattle.qs_tac.specs.declared.operands.Condition.{Condition}
use Rattle.qs_tac.specs.Holders.{Holder}
use Rattle.qs_tac.specs.Values.{Activation}
use Rattle.qs_tac.specs.Steps.{Waiting, going_to, frame_of, step, instruction_at, steps}
use Rattle.qs_tac.proofs.RelationLaws.{FramesSame}
use Rattle.qs_lower_expressions.specs.Threads.{leads_to, follow, retargeted, threaded, threaded_function, threaded_unit}

-- ---- within a list of instructions

abbrev pub target : List InstructionTree → ℕ → ℕ
target code = follow code (length code)

pub stays : (code : List InstructionTree) (n i : ℕ) → leads_to (slice_get code i) ≡ None → follow code n i ≡ i
stays code zero i h = refl
stays code (suc n) i h = ap (λ o. follow code n (unwrap_or o i)) h ∙ stays code n i h

pub goes_on : (code : List InstructionTree) (n i to : ℕ) → leads_to (slice_get code i) ≡ Some to → follow code (suc n) i ≡ follow code n to
goes_on code n i to h = ap (λ o. follow code n (unwrap_or o i)) h

-- ---- within a unit

abbrev pub code_in : Option TacFunctionTree → List InstructionTree
code_in None = []
code_in (Some f) = f.code

abbrev pub code_of : TacUnitTree → (function : ℕ) → List InstructionTree
code_of u f = code_in (slice_get u.functions f)

found_in : (o : Option TacFunctionTree) (i : ℕ) → (o >>= λ f. slice_get f.code i) ≡ slice_get (code_in o) i
found_in None i = refl
found_in (Some f) i = refl

threaded_in : (o : Option TacFunctionTree) → code_in (option_map threaded_function o) ≡ threaded (code_in o)
threaded_in None = refl
threaded_in (Some f) = refl

frame_kept : (o : Option TacFunctionTree) → option_map frame_of o ≡ option_map frame_of (option_map threaded_function o)
frame_kept None = refl
frame_kept (Some f) = refl

pub frames_kept : (u : TacUnitTree) → FramesSame u (threaded_unit u)
frames_kept u f = frame_kept (slice_get u.functions f) ∙ ap (option_map frame_of) (sym (slice_get-map threaded_function u.functions f))

-- ---- kinds of instructions

-- it neither jumps nor branches
abbrev pub IsPlain : Option InstructionTree → Type 0
IsPlain o = (leads_to o ≡ None) × ((f : ℕ → ℕ) → option_map (retargeted f) o ≡ o)

abbrev pub Kind : Option InstructionTree → Type 0
Kind o = IsPlain o ⊎ ((to : ℕ) × (o ≡ Some (jump to))) ⊎ ((c : Condition) × (to : ℕ) × (o ≡ Some (branch c to)))

pub kind_of : (o : Option InstructionTree) → Kind o
kind_of None = inl (refl, λ f. refl)
kind_of (Some (move x o)) = inl (refl, λ f. refl)
kind_of (Some (unary op x o)) = inl (refl, λ f. refl)
kind_of (Some (binary op x o p)) = inl (refl, λ f. refl)
kind_of (Some (convert s x o)) = inl (refl, λ f. refl)
kind_of (Some (address_of x p)) = inl (refl, λ f. refl)
kind_of (Some (load s x p)) = inl (refl, λ f. refl)
kind_of (Some (store s p o)) = inl (refl, λ f. refl)
kind_of (Some (copy size alignment p q)) = inl (refl, λ f. refl)
kind_of (Some (fill blank p)) = inl (refl, λ f. refl)
kind_of (Some (call x f arguments)) = inl (refl, λ f. refl)
kind_of (Some (return o)) = inl (refl, λ f. refl)
kind_of (Some (jump to)) = inr (inl (to, refl))
kind_of (Some (branch c to)) = inr (inr (c, to, refl))

module _ {S : Type 0} (h : Holder S) (u : TacUnitTree) where
  abbrev pub v : TacUnitTree
  v = threaded_unit u

  -- the instruction that comes next, as it is and threaded
  pub here : (a : Activation S) (o : Option InstructionTree) → slice_get (code_of u a.function) a.at ≡ o → instruction_at u a ≡ o
  here a o is = found_in (slice_get u.functions a.function) a.at ∙ is

  pub there :
      (a : Activation S) (o : Option InstructionTree) → slice_get (code_of u a.function) a.at ≡ o
      → instruction_at v a ≡ option_map (retargeted (target (code_of u a.function))) o
  there a o is =
      found_in (slice_get v.functions a.function) a.at
      ∙ ap (λ p. slice_get (code_in p) a.at) (slice_get-map threaded_function u.functions a.function)
      ∙ ap (λ code. slice_get code a.at) (threaded_in (slice_get u.functions a.function))
      ∙ slice_get-map (retargeted (target (code_of u a.function))) (code_of u a.function) a.at
      ∙ ap (option_map (retargeted (target (code_of u a.function)))) is

  -- behind so many jumps at most
  abbrev pub ahead : ℕ → Activation S → Activation S
  ahead n a = going_to (follow (code_of u a.function) n a.at) a

  pub at_step :
      (t : TacUnitTree) (m : ℕ) (a : Activation S) (w : World) (stack : List (Waiting S)) (o : Option InstructionTree)
      → instruction_at t a ≡ o → steps h t (suc m) a w stack ≡ step h t o (steps h t m) a w stack
  at_step t m a w stack o is = ap (λ p. step h t p (steps h t m) a w stack) is
