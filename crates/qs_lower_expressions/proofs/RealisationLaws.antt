-- What the code of a part has to do: from its first instruction it makes the run that the part means, whatever
-- follows. These are the claims of the induction over trees.
use Rattle.std.proofs.Common.{◌≡◌, ℕ, zero, suc, ◌+◌, ◌-◌, ◌*◌, ◌<◌, ◌≤◌, ◌⊎◌, inl, inr, Bool, true, false, if◌then◌else◌, List, [], ◌∷◌, ◌++◌, length, Option, Some, None, refl, sym, ap, ◌∙◌, subst, arith, suc-mul}
use Rattle.std.specs.List.{slice_get}
use Rattle.std.proofs.Math.Nat.{mul-le-mul_right}
use Rattle.std.proofs.lemmas.Bool.{cases_lt}
use Rattle.qs_memory.specs.Partial.{◌>>=◌}
use Rattle.qs_memory.specs.Values.{Value, as_pointer}
use Rattle.qs_memory.specs.Memory.{Memory}
use Rattle.qs_memory.specs.Pointers.{truth}
use Rattle.qs_events.specs.Events.{Event}
use Rattle.qs_events.specs.Runs.{emit, undefined, short, given, Within}
use Rattle.qs_events.proofs.RunLaws.{within_same}
use Rattle.qs_calls.specs.World.{World, RootRun, Return, Environment}
use Rattle.qs_calls.specs.Calls.{CallsOf}
use Rattle.qs_core.specs.Trees.{CoreExprTree, CoreFunctionTree}
use Rattle.qs_core.specs.Expressions.{Locals, value}
use Rattle.qs_tac.specs.Trees.{InstructionTree, jump, branch, TacUnitTree}
use Rattle.qs_tac.specs.Holders.{temporaries}
use Rattle.qs_tac.specs.Values.{Activation, operand, pointer, holds}
use Rattle.qs_tac.specs.Steps.{Waiting, Next, going_to, enters, resume, instruction_at, steps}
use Rattle.qs_tac.specs.declared.operands.Operand.{Operand}
use Rattle.qs_tac.specs.declared.operands.Condition.{Condition}
use Rattle.qs_lower_expressions.specs.Threads.{leads_to, threaded_unit}
use Rattle.qs_lower_expressions.proofs.ThreadLaws.{target, code_of as tac_code_of, IsPlain, here, there, at_step}
use Rattle.qs_lower_expressions.proofs.JumpLaws.{Settles, settles_same, IsWeight, Makes, makes_jump, makes_step, makes_far}
use Rattle.qs_lower_expressions.specs.Exits.{Exit, falls, goes, is_fall}
use Rattle.qs_lower_expressions.specs.Expressions.{ExprCode, size_of, code_of, operand_of, own, address_at}

abbrev pub Act : Type 0
Act = Activation Environment

abbrev pub Stack : Type 0
Stack = List (Waiting Environment)

-- the instructions stand in the code from this index on
abbrev pub HasAt : (code : List InstructionTree) → (at : ℕ) → List InstructionTree → Type 0
HasAt code at [] = Unit {0}
HasAt code at (i ∷ is) = (slice_get code at ≡ Some i) × HasAt code (at + 1) is

pub has_left : (code : List InstructionTree) (at : ℕ) (xs ys : List InstructionTree) → HasAt code at (xs ++ ys) → HasAt code at xs
has_left code at [] ys h = tt
has_left code at (i ∷ xs) ys h = (h.0, has_left code (at + 1) xs ys h.1)

pub has_right :
    (code : List InstructionTree) (at n : ℕ) (xs ys : List InstructionTree) → length xs ≡ n → HasAt code at (xs ++ ys)
    → HasAt code (at + n) ys
has_right code at n [] ys e h = let same : at ≡ at + n = omega (arith, e) in subst (λ (k : ℕ). HasAt code k ys) same h
has_right code at n (i ∷ xs) ys e h =
    let less : length xs ≡ n - 1 = omega (arith, e) in
    let same : at + 1 + (n - 1) ≡ at + n = omega (arith, e) in
    subst (λ (k : ℕ). HasAt code k ys) same (has_right code (at + 1) (n - 1) xs ys less h.1)

-- temporaries below t are as they were
abbrev pub Kept : (t : ℕ) → (before after : Environment) → Type 0
Kept t before after = (x : ℕ) → x < t → after x ≡ before x

-- and all but one
abbrev pub KeptBut : (x t : ℕ) → (before after : Environment) → Type 0
KeptBut x t before after = (y : ℕ) → y < t → (y ≡ x → ⊥) → after y ≡ before y

pub kept_all : (t : ℕ) (e : Environment) → Kept t e e
kept_all t e x h = refl

pub kept_then : (t s : ℕ) (a b c : Environment) → t ≤ s → Kept t a b → Kept s b c → Kept t a c
kept_then t s a b c le h k x lt = k x (omega (arith, le, lt)) ∙ h x lt

pub kept_below : (t s : ℕ) (a b : Environment) → t ≤ s → Kept s a b → Kept t a b
kept_below t s a b le h x lt = h x (omega (arith, le, lt))

-- ---- two ways to tell that code makes a run

-- It makes the run itself, in a number of steps that are counted; or, its jumps threaded, no more than the run, in
-- steps and jumps that are weighed.
pub data Tally : Type 0 where
  counted : Tally
  weighed : (weight : ℕ) → Tally

-- the weight of a step is more than that of the jumps between steps
abbrev pub Suits : TacUnitTree → Tally → Type 0
Suits t counted = Unit {0}
Suits t (weighed weight) = IsWeight t weight

pub record Model : Type 0 where
  pub unit : TacUnitTree
  pub tally : Tally
  pub suits : Suits unit tally

-- the unit whose steps are told
abbrev pub moved_by : TacUnitTree → Tally → TacUnitTree
moved_by t counted = t
moved_by t (weighed weight) = threaded_unit t

-- from here the code makes the run, in d steps or more
pub record Counted (t : TacUnitTree) (d : ℕ) (a : Act) (w : World) (stack : Stack) (o : RootRun) : Type 0 where
  pub taken : ℕ
  pub enough : d ≤ taken
  pub gives : steps temporaries t taken a w stack ≡ o

abbrev pub RealBy : TacUnitTree → Tally → (d : ℕ) → Act → World → Stack → RootRun → Type 0
RealBy t counted d a w stack o = Counted t d a w stack o
RealBy t (weighed weight) d a w stack o = Makes temporaries t weight d a w stack o

-- what a number of steps behind another step make; the jumps that come first weigh less than a step
abbrev pub ComesBy : Tally → (d : ℕ) → (ℕ → RootRun) → RootRun → Type 0
ComesBy counted d f o = (j : ℕ) × (d ≤ j) × (f j ≡ o)
ComesBy (weighed weight) d f o = (i : ℕ) → i * weight + weight ≤ d + 1 → Within (f i) o

-- loops make no more turns than there are steps, and calls nest no deeper
abbrev pub BoundedBy : Tally → (d turns depth : ℕ) → Type 0
BoundedBy counted d turns depth = (d ≤ turns) × (d ≤ depth)
BoundedBy (weighed weight) d turns depth = (i : ℕ) → i * weight ≤ d → (i ≤ turns) × (i ≤ depth)

pub bounded_less : (q : Tally) (i d turns depth : ℕ) → i ≤ d → BoundedBy q d turns depth → BoundedBy q i turns depth
bounded_less counted i d turns depth le h = (omega (arith, le, h.0), omega (arith, le, h.1))
bounded_less (weighed weight) i d turns depth le h = λ j few. h j (omega (arith, le, few))

pub comes_less : (q : Tally) (c d : ℕ) (f : ℕ → RootRun) (o : RootRun) → c ≤ d → ComesBy q d f o → ComesBy q c f o
comes_less counted c d f o le r = (r.0, omega (arith, le, r.1), r.2)
comes_less (weighed weight) c d f o le r = λ i few. r i (omega (arith, le, few))

-- whatever the number is
pub comes_same : (q : Tally) (d : ℕ) (f : ℕ → RootRun) (o : RootRun) → ((j : ℕ) → f j ≡ o) → ComesBy q d f o
comes_same counted d f o is = (d, omega arith, is d)
comes_same (weighed weight) d f o is = λ i few. subst (λ (r : RootRun). Within r o) (sym (is i)) (within_same o)

pub comes_alike : (q : Tally) (d : ℕ) (f g : ℕ → RootRun) (o : RootRun) → ((j : ℕ) → g j ≡ f j) → ComesBy q d f o → ComesBy q d g o
comes_alike counted d f g o is r = (r.0, r.1, is r.0 ∙ r.2)
comes_alike (weighed weight) d f g o is r = λ i few. subst (λ (p : RootRun). Within p o) (sym (is i)) (r i few)

pub comes_emit : (q : Tally) (d : ℕ) (event : Event) (f : ℕ → RootRun) (o : RootRun) → ComesBy q d f o → ComesBy q d (λ j. emit event (f j)) (emit event o)
comes_emit counted d event f o r = (r.0, r.1, ap (emit event) r.2)
comes_emit (weighed weight) d event f o r = λ i few. (o, refl, r i few)

-- no jump stands there
abbrev pub NoJump : TacUnitTree → Act → Type 0
NoJump t a = leads_to (slice_get (tac_code_of t a.function) a.at) ≡ None

real_less_by : (t : TacUnitTree) (q : Tally) (c d : ℕ) (a : Act) (w : World) (stack : Stack) (o : RootRun) → c ≤ d → RealBy t q d a w stack o → RealBy t q c a w stack o
real_less_by t counted c d a w stack o le r = record { taken = r.taken; enough = omega (arith, le, r.enough); gives = r.gives }
real_less_by t (weighed weight) c d a w stack o le r = λ jumps n s few. r jumps n s (omega (arith, le, few))

-- a step, and what the steps behind it make
real_comes_by :
    (t : TacUnitTree) (q : Tally) (d : ℕ) (a : Act) (w : World) (stack : Stack) (f : ℕ → RootRun) (o : RootRun) → NoJump t a
    → ((j : ℕ) → steps temporaries (moved_by t q) (suc j) a w stack ≡ f j) → ComesBy q (d - 1) f o → RealBy t q d a w stack o
real_comes_by t counted d a w stack f o plain is r = record { taken = suc r.0; enough = let h = r.1 in omega (arith, h); gives = is r.0 ∙ r.2 }
real_comes_by t (weighed weight) d a w stack f o plain is r = makes_step temporaries t weight d a w stack o f plain is (λ n few. r n (omega (arith, few)))

-- what the code makes from here
pub comes_real_by :
    (t : TacUnitTree) (q : Tally) → Suits t q → (d : ℕ) (a : Act) (w : World) (stack : Stack) (o : RootRun) → RealBy t q d a w stack o
    → ComesBy q d (λ j. steps temporaries (moved_by t q) j a w stack) o
comes_real_by t counted suits d a w stack o r = (r.taken, r.enough, r.gives)
comes_real_by t (weighed weight) suits d a w stack o r = λ i few. makes_far temporaries t weight suits d a w stack o r i few 0

real_jump_by :
    (t : TacUnitTree) (q : Tally) (d : ℕ) (a : Act) (w : World) (stack : Stack) (o : RootRun) (to : ℕ) → slice_get (tac_code_of t a.function) a.at ≡ Some (jump to)
    → RealBy t q (d - 1) (going_to to a) w stack o → RealBy t q d a w stack o
real_jump_by t counted d a w stack o to is r = record {
  taken = suc r.taken;
  enough = let h = r.enough in omega (arith, h);
  gives = at_step temporaries t t r.taken a w stack (Some (jump to)) (here temporaries t a (Some (jump to)) is) ∙ r.gives;
}
real_jump_by t (weighed weight) d a w stack o to is r = makes_jump temporaries t weight d a w stack o to is r

-- a branch whose answer is known
real_branch_by :
    (t : TacUnitTree) (q : Tally) → Suits t q → (c : Condition) (d : ℕ) (a : Act) (w : World) (stack : Stack) (o : RootRun) (to : ℕ) (says : Bool)
    → slice_get (tac_code_of t a.function) a.at ≡ Some (branch c to) → holds temporaries c a w.memory ≡ Some says
    → RealBy t q (d - 1) (going_to (if says then to else (a.at + 1)) a) w stack o → RealBy t q d a w stack o
real_branch_by t counted suits c d a w stack o to says is said r = record {
  taken = suc r.taken;
  enough = let h = r.enough in omega (arith, h);
  gives =
      at_step temporaries t t r.taken a w stack (Some (branch c to)) (here temporaries t a (Some (branch c to)) is)
      ∙ ap (λ p. given p (λ b. steps temporaries t r.taken (going_to (if b then to else (a.at + 1)) a) w stack)) said
      ∙ r.gives;
}
real_branch_by t (weighed weight) suits c d a w stack o to true is said r =
    makes_step temporaries t weight d a w stack o (λ j. steps temporaries (threaded_unit t) j (going_to (target (tac_code_of t a.function) to) a) w stack) (ap leads_to is)
    (λ j. at_step temporaries t (threaded_unit t) j a w stack (Some (branch c (target (tac_code_of t a.function) to))) (there temporaries t a (Some (branch c to)) is)
    ∙ ap (λ p. given p (λ b. steps temporaries (threaded_unit t) j (going_to (if b then target (tac_code_of t a.function) to else (a.at + 1)) a) w stack)) said)
    (λ n few. makes_far temporaries t weight suits (d - 1) (going_to to a) w stack o r n (omega (arith, few)) (length (tac_code_of t a.function)))
real_branch_by t (weighed weight) suits c d a w stack o to false is said r =
    makes_step temporaries t weight d a w stack o (λ j. steps temporaries (threaded_unit t) j (going_to (a.at + 1) a) w stack) (ap leads_to is)
    (λ j. at_step temporaries t (threaded_unit t) j a w stack (Some (branch c (target (tac_code_of t a.function) to))) (there temporaries t a (Some (branch c to)) is)
    ∙ ap (λ p. given p (λ b. steps temporaries (threaded_unit t) j (going_to (if b then target (tac_code_of t a.function) to else (a.at + 1)) a) w stack)) said)
    (λ n few. makes_far temporaries t weight suits (d - 1) (going_to (a.at + 1) a) w stack o r n (omega (arith, few)) 0)

real_unheld_by :
    (t : TacUnitTree) (q : Tally) (c : Condition) (d : ℕ) (a : Act) (w : World) (stack : Stack) (to : ℕ)
    → slice_get (tac_code_of t a.function) a.at ≡ Some (branch c to) → holds temporaries c a w.memory ≡ None → RealBy t q d a w stack undefined
real_unheld_by t counted c d a w stack to is said =
    real_comes_by t counted d a w stack (λ j. undefined) undefined (ap leads_to is)
    (λ j. at_step temporaries t t j a w stack (Some (branch c to)) (here temporaries t a (Some (branch c to)) is)
    ∙ ap (λ p. given p (λ b. steps temporaries t j (going_to (if b then to else (a.at + 1)) a) w stack)) said)
    (comes_same counted (d - 1) (λ j. undefined) undefined (λ j. refl))
real_unheld_by t (weighed weight) c d a w stack to is said =
    real_comes_by t (weighed weight) d a w stack (λ j. undefined) undefined (ap leads_to is)
    (λ j. at_step temporaries t (threaded_unit t) j a w stack (Some (branch c (target (tac_code_of t a.function) to))) (there temporaries t a (Some (branch c to)) is)
    ∙ ap (λ p. given p (λ b. steps temporaries (threaded_unit t) j (going_to (if b then target (tac_code_of t a.function) to else (a.at + 1)) a) w stack)) said)
    (comes_same (weighed weight) (d - 1) (λ j. undefined) undefined (λ j. refl))

instruction_by : (t : TacUnitTree) (q : Tally) (a : Act) (o : Option InstructionTree) → slice_get (tac_code_of t a.function) a.at ≡ o → IsPlain o → instruction_at (moved_by t q) a ≡ o
instruction_by t counted a o is plain = here temporaries t a o is
instruction_by t (weighed weight) a o is plain = there temporaries t a o is ∙ plain.1 (target (tac_code_of t a.function))

-- ---- the turns of a loop

-- The states in which the code comes to the index where a loop begins, and the runs that so many turns make from
-- them. Where one turn more makes its run once the code makes the others with less, the code makes as many turns as
-- there can be steps.
module _ (t : TacUnitTree) (function at : ℕ) (stack : Stack) (State : Type 0) (first : State → ℕ) (held : State → Environment) (world : State → World) (o : (turns : ℕ) → State → RootRun) (no_turn : (x : State) → o 0 x ≡ short) where
  abbrev pub AtHead : Tally → (d turns : ℕ) → Type 0
  AtHead q d i = (x : State) → RealBy t q d (record { function = function; at = at; first_block = first x; held = held x }) (world x) stack (o i x)

  -- a turn more
  abbrev pub TurnReal : Tally → (top : ℕ) → Type 0
  TurnReal q top = (i d : ℕ) → d ≤ top → AtHead q (d - 1) i → AtHead q d (suc i)

  counted_turns : (top : ℕ) → TurnReal counted top → (i d : ℕ) → d ≤ top → d ≤ i → AtHead counted d i
  counted_turns top turn zero d less le x = record { taken = 0; enough = le; gives = sym (no_turn x) }
  counted_turns top turn (suc i) d less le x = turn i d less (counted_turns top turn i (d - 1) (omega (arith, less)) (omega (arith, le))) x

  -- so many steps from here are at most these turns
  abbrev FewSteps : (weight d turns : ℕ) → Type 0
  FewSteps weight d i = (jumps n : ℕ) → Settles (tac_code_of t function) jumps at → n * weight + jumps ≤ d → n ≤ i

  fewer_steps :
      (weight : ℕ) → 0 < weight → (i jumps n : ℕ) → suc n ≤ suc i → Settles (tac_code_of t function) jumps at
      → FewSteps weight (suc n * weight + jumps - 1) i
  fewer_steps weight positive i jumps n le s others m r few = by_order (cases_lt n m)
    where
      same : others ≡ jumps
      same = settles_same (tac_code_of t function) others jumps at r s

      by_order : (n < m) ⊎ (m ≤ n) → m ≤ i
      by_order (inr less) = omega (arith, less, le)
      by_order (inl more) =
          let heavy : suc n * weight ≤ m * weight = mul-le-mul_right weight more in
          let step = suc-mul n weight in
          absurd (omega (arith, heavy, step, few, same, positive))

  weighed_turns :
      (weight : ℕ) → 0 < weight → (top : ℕ) → TurnReal (weighed weight) top → (i d : ℕ) → d ≤ top → FewSteps weight d i → AtHead (weighed weight) d i
  weighed_turns weight positive top turn i d less few x jumps zero s le = λ k. tt
  weighed_turns weight positive top turn zero d less few x jumps (suc n) s le = let none = few jumps (suc n) s le in absurd (omega (arith, none))
  weighed_turns weight positive top turn (suc i) d less few x jumps (suc n) s le =
      turn i (suc n * weight + jumps) (omega (arith, less, le))
      (weighed_turns weight positive top turn i (suc n * weight + jumps - 1) (omega (arith, less, le)) (fewer_steps weight positive i jumps n (few jumps (suc n) s le) s))
      x jumps (suc n) s (omega arith)

  pub real_turns : (q : Tally) → Suits t q → (turns depth top : ℕ) → BoundedBy q top turns depth → TurnReal q top → AtHead q top turns
  real_turns counted suits turns depth top bound turn = counted_turns top turn turns top (omega arith) bound.0
  real_turns (weighed weight) suits turns depth top bound turn =
      weighed_turns weight suits.positive top turn turns top (omega arith) (λ jumps n s le. (bound n (omega (arith, le))).0)

-- ---- calls

-- the step that enters a function, and so many behind it
abbrev pub entering_in : TacUnitTree → ℕ → Stack → CallsOf
entering_in t zero stack f arguments k w = short
entering_in t (suc j) stack f arguments k w = enters temporaries t (steps temporaries t j) stack f arguments k w

-- a call of a function makes the run that c says
pub record CallsMade (t : TacUnitTree) (depth : ℕ) (c : CallsOf) : Type 0 where
  pub counts :
      (d f : ℕ) (arguments : List Value) (k : Return) (w : World) (stack : Stack) → d ≤ depth
      → ((result : Option Value) (v : World) → ComesBy counted (d - 1) (λ j. resume temporaries (steps temporaries t j) stack result v) (k result v))
      → (j : ℕ) × (d ≤ j) × (entering_in t j stack f arguments k w ≡ c f arguments k w)
  pub weighs :
      (n f : ℕ) (arguments : List Value) (k : Return) (w : World) (stack : Stack) → n ≤ depth
      → ((result : Option Value) (v : World) (i : ℕ) → i < n → Within (resume temporaries (steps temporaries (threaded_unit t) i) stack result v) (k result v))
      → Within (entering_in (threaded_unit t) n stack f arguments k w) (c f arguments k w)

-- what a function returns to stands on the stack alone
enters_any :
    (t : TacUnitTree) (next : Next Environment) (rest : Stack) (g : ℕ) (vs : List Value) (k j : Return) (w : World)
    → enters temporaries t next rest g vs k w ≡ enters temporaries t next rest g vs j w
enters_any t next rest g vs k j w = refl

pub real_call :
    (t : TacUnitTree) (q : Tally) (turns depth : ℕ) (c : CallsOf) → CallsMade t depth c → (d : ℕ) → BoundedBy q d turns depth
    → (a : Act) (w : World) (stack rest : Stack) (f : ℕ) (vs : List Value) (k j : Return) → NoJump t a
    → ((i : ℕ) → steps temporaries (moved_by t q) (suc i) a w stack ≡ enters temporaries (moved_by t q) (steps temporaries (moved_by t q) i) rest f vs j w)
    → ((result : Option Value) (v : World) → ComesBy q (d - 1) (λ i. resume temporaries (steps temporaries (moved_by t q) i) rest result v) (k result v))
    → RealBy t q d a w stack (c f vs k w)
real_call t counted turns depth c made d le a w stack rest f vs k j plain is takes =
    let r = made.counts d f vs k w rest le.1 takes in by_steps r.0 r.1 r.2
  where
    by_steps : (i : ℕ) → d ≤ i → entering_in t i rest f vs k w ≡ c f vs k w → Counted t d a w stack (c f vs k w)
    by_steps zero h same = record { taken = 0; enough = h; gives = same }
    by_steps (suc i) h same = record { taken = suc i; enough = h; gives = is i ∙ enters_any t (steps temporaries t i) rest f vs j k w ∙ same }
real_call t (weighed weight) turns depth c made d le a w stack rest f vs k j plain is takes =
    makes_step temporaries t weight d a w stack (c f vs k w) (λ i. enters temporaries (threaded_unit t) (steps temporaries (threaded_unit t) i) rest f vs j w) plain is
    (λ n few.
    subst (λ (r : RootRun). Within r (c f vs k w)) (enters_any (threaded_unit t) (steps temporaries (threaded_unit t) n) rest f vs k j w)
    (made.weighs (suc n) f vs k w rest (nest n few) (λ result v i less. takes result v i (room n i few less))))
  where
    nest : (n : ℕ) → n * weight + weight ≤ d → suc n ≤ depth
    nest n few = let more = suc-mul n weight in (le (suc n) (omega (arith, few, more))).1

    room : (n i : ℕ) → n * weight + weight ≤ d → i < suc n → i * weight + weight ≤ d - 1 + 1
    room n i few less = let light : i * weight ≤ n * weight = mul-le-mul_right weight (omega (arith, less)) in omega (arith, few, light)

module _ (u : Model) where
  abbrev pub moves : TacUnitTree
  moves = moved_by u.unit u.tally

  abbrev pub Real : (d : ℕ) → Act → World → Stack → RootRun → Type 0
  Real d a w stack o = RealBy u.unit u.tally d a w stack o

  abbrev pub Comes : (d : ℕ) → (ℕ → RootRun) → RootRun → Type 0
  Comes d f o = ComesBy u.tally d f o

  pub real_less : (c d : ℕ) (a : Act) (w : World) (stack : Stack) (o : RootRun) → c ≤ d → Real d a w stack o → Real c a w stack o
  real_less c d a w stack o le r = real_less_by u.unit u.tally c d a w stack o le r

  pub real_comes :
      (d : ℕ) (a : Act) (w : World) (stack : Stack) (f : ℕ → RootRun) (o : RootRun) → NoJump u.unit a
      → ((j : ℕ) → steps temporaries moves (suc j) a w stack ≡ f j) → Comes (d - 1) f o → Real d a w stack o
  real_comes d a w stack f o plain is r = real_comes_by u.unit u.tally d a w stack f o plain is r

  pub comes_real : (d : ℕ) (a : Act) (w : World) (stack : Stack) (o : RootRun) → Real d a w stack o → Comes d (λ j. steps temporaries moves j a w stack) o
  comes_real d a w stack o r = comes_real_by u.unit u.tally u.suits d a w stack o r

  pub real_jump :
      (d : ℕ) (a : Act) (w : World) (stack : Stack) (o : RootRun) (to : ℕ) → slice_get (tac_code_of u.unit a.function) a.at ≡ Some (jump to)
      → Real (d - 1) (going_to to a) w stack o → Real d a w stack o
  real_jump d a w stack o to is r = real_jump_by u.unit u.tally d a w stack o to is r

  -- or the run is undefined
  pub real_fault :
      (d : ℕ) (a : Act) (w : World) (stack : Stack) → NoJump u.unit a → ((j : ℕ) → steps temporaries moves (suc j) a w stack ≡ undefined)
      → Real d a w stack undefined
  real_fault d a w stack plain faults =
      real_comes d a w stack (λ j. undefined) undefined plain faults (comes_same u.tally (d - 1) (λ j. undefined) undefined (λ j. refl))

  -- what the next step may do
  pub real_given :
      {A : Type 0} (d : ℕ) (a : Act) (w : World) (stack : Stack) (r : RootRun) (o : Option A) (b : A → Act) (v : A → World)
      → NoJump u.unit a
      → ((j : ℕ) → steps temporaries moves (suc j) a w stack ≡ given o (λ x. steps temporaries moves j (b x) (v x) stack))
      → (o ≡ None → r ≡ undefined) → ((x : A) → o ≡ Some x → Real (d - 1) (b x) (v x) stack r) → Real d a w stack r
  real_given d a w stack r None b v plain leads none some =
      subst (λ (s : RootRun). Real d a w stack s) (sym (none refl)) (real_fault d a w stack plain leads)
  real_given d a w stack r (Some x) b v plain leads none some =
      real_comes d a w stack (λ j. steps temporaries moves j (b x) (v x) stack) r plain leads (comes_real (d - 1) (b x) (v x) stack r (some x refl))

  pub real_branch :
      (c : Condition) (d : ℕ) (a : Act) (w : World) (stack : Stack) (r : RootRun) (to : ℕ) (o : Option Bool)
      → slice_get (tac_code_of u.unit a.function) a.at ≡ Some (branch c to) → holds temporaries c a w.memory ≡ o → (o ≡ None → r ≡ undefined)
      → ((says : Bool) → o ≡ Some says → Real (d - 1) (going_to (if says then to else (a.at + 1)) a) w stack r) → Real d a w stack r
  real_branch c d a w stack r to None is said none some =
      subst (λ (s : RootRun). Real d a w stack s) (sym (none refl)) (real_unheld_by u.unit u.tally c d a w stack to is said)
  real_branch c d a w stack r to (Some says) is said none some = real_branch_by u.unit u.tally u.suits c d a w stack r to says is said (some says refl)

  -- the instruction that stands there is the next of both
  pub instruction_is : (a : Act) (o : Option InstructionTree) → slice_get (tac_code_of u.unit a.function) a.at ≡ o → IsPlain o → instruction_at moves a ≡ o
  instruction_is a o is plain = instruction_by u.unit u.tally a o is plain

  abbrev pub CallsReal : (depth : ℕ) → CallsOf → Type 0
  CallsReal depth c = CallsMade u.unit depth c

  module _ (f : CoreFunctionTree) (code : List InstructionTree) (function : ℕ) (stack : Stack) where
    -- a moment of the function at this index
    abbrev pub moment : (at first : ℕ) → Environment → Act
    moment at first e = record { function = function; at = at; first_block = first; held = e }

    -- the code is that of the function
    abbrev pub IsCode : Type 0
    IsCode = (at : ℕ) → slice_get (tac_code_of u.unit function) at ≡ slice_get code at

    -- the variables are the first temporaries of linear code, and core's temporaries follow
    pub record Agree (l : Locals) (e : Environment) : Type 0 where
      pub variables : (x : ℕ) → x < length f.variables → e x ≡ l.variables x
      pub temporaries : (k : ℕ) → k < length f.temporaries → e (length f.variables + k) ≡ l.temporaries k

    abbrev pub free : ℕ
    free = length f.variables + length f.temporaries

    -- ---- expressions

    -- the value, into a temporary
    abbrev pub IntoReal : CoreExprTree → ExprCode → Type 0
    IntoReal s c =
        (d x t at : ℕ) (l : Locals) (e : Environment) (w : World) (r : RootRun) → free ≤ t → Agree l e
        → HasAt code at (c.into x t at) → (value s l w.memory ≡ None → r ≡ undefined)
        → ((v : Value) (after : Environment) → value s l w.memory ≡ Some v → KeptBut x t e after → after x ≡ Some v
        → Real d (moment (at + c.size) l.first_block after) w stack r)
        → Real d (moment at l.first_block e) w stack r

    -- the operand that it is, where it is one
    abbrev pub SimpleReal : CoreExprTree → ExprCode → Type 0
    SimpleReal s c =
        (o : Operand) → c.simple ≡ Some o → (at : ℕ) (l : Locals) (e : Environment) (m : Memory) → Agree l e
        → operand temporaries o (moment at l.first_block e) ≡ value s l m

    -- the operand, with its code
    abbrev pub OperandReal : CoreExprTree → ExprCode → Type 0
    OperandReal s c =
        (d t at : ℕ) (l : Locals) (e : Environment) (w : World) (r : RootRun) → free ≤ t → Agree l e
        → HasAt code at (code_of c t at) → (value s l w.memory ≡ None → r ≡ undefined)
        → ((after : Environment) → Kept t e after
        → ((i : ℕ) (later : Environment) → Kept (t + own c) after later
        → operand temporaries (operand_of c t) (moment i l.first_block later) ≡ value s l w.memory)
        → Real d (moment (at + size_of c) l.first_block after) w stack r)
        → Real d (moment at l.first_block e) w stack r

    -- the pointer that it is, as an address
    abbrev pub BaseReal : CoreExprTree → ExprCode → Type 0
    BaseReal s c =
        (d t at : ℕ) (l : Locals) (e : Environment) (w : World) (r : RootRun) → free ≤ t → Agree l e
        → HasAt code at (c.base_code t at) → ((value s l w.memory >>= as_pointer) ≡ None → r ≡ undefined)
        → ((after : Environment) → Kept t e after
        → ((i : ℕ) (later : Environment) → Kept (t + c.base_own) after later
        → pointer temporaries (address_at c t) (moment i l.first_block later) w.memory ≡ (value s l w.memory >>= as_pointer))
        → Real d (moment (at + c.base_size) l.first_block after) w stack r)
        → Real d (moment at l.first_block e) w stack r

    -- Where an exit goes, and where the code that falls ends, it goes on. A jump is a step more.
    abbrev pub Goes : (Next : (d at : ℕ) → Type 0) → (d : ℕ) → Exit → (end : ℕ) → Type 0
    Goes Next d (falls p) end = Next d end × Next (d - 1) p
    Goes Next d (goes p) end = Next (d - 1) p

    abbrev pub by_answer : Bool → (met unmet : Exit) → Exit
    by_answer true met unmet = met
    by_answer false met unmet = unmet

    -- the test: each exit goes on with its answer
    abbrev pub TestReal : CoreExprTree → ExprCode → Type 0
    TestReal s c =
        (d t at : ℕ) (met unmet : Exit) (l : Locals) (e : Environment) (w : World) (r : RootRun) → free ≤ t → Agree l e
        → HasAt code at (c.test met unmet t at) → ((value s l w.memory >>= truth w.memory) ≡ None → r ≡ undefined)
        → ((b : Bool) (after : Environment) → (value s l w.memory >>= truth w.memory) ≡ Some b → Kept t e after
        → Goes (λ d p. Real d (moment p l.first_block after) w stack r) d (by_answer b met unmet) (at + c.test_size (is_fall met) (is_fall unmet)))
        → Real d (moment at l.first_block e) w stack r

    -- the answer, where it is known
    abbrev pub KnownReal : CoreExprTree → ExprCode → Type 0
    KnownReal s c =
        (b : Bool) → c.known ≡ Some b → (at : ℕ) (l : Locals) (e : Environment) (m : Memory) → Agree l e
        → (value s l m >>= truth m) ≡ Some b
