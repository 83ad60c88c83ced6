-- The code of switches makes the runs that these mean.
use Rattle.std.proofs.Common.{◌≡◌, ℕ, zero, suc, ◌+◌, ◌-◌, ◌<◌, ◌≤◌, Bool, true, false, if◌then◌else◌, List, [], ◌∷◌, Option, Some, None, refl, ap, ◌∙◌, subst, arith}
use Rattle.std.specs.Prelude.{◌==◌}
use Rattle.std.specs.Option.{option_or}
use Rattle.std.proofs.lemmas.Option.{same_Some}
use Rattle.qs_memory.specs.Partial.{◌>>=◌}
use Rattle.qs_memory.specs.Values.{as_integer}
use Rattle.qs_events.specs.Runs.{given}
use Rattle.qs_calls.specs.World.{World, RootRun, Environment}
use Rattle.qs_core.specs.Trees.{CoreExprTree, CoreFunctionTree}
use Rattle.qs_core.specs.Expressions.{Locals, value}
use Rattle.qs_core.specs.Statements as core
use Rattle.qs_core.specs.Statements.{Continuation, Continuations, Context, case_part, default_part, chosen_part, at_part}
use Rattle.qs_core.specs.declared.labels.CoreLabel.{CoreLabel}
use Rattle.qs_core.specs.declared.labels.CoreLabel.TheVariants.{Case, Default}
use Rattle.qs_tac.specs.Trees.{InstructionTree}
use Rattle.qs_lower_expressions.specs.Exits.{place_of}
use Rattle.qs_lower_expressions.specs.Expressions.{ExprCode}
use Rattle.qs_lower.specs.Choices.{place_in, other_place, choice_size, choice_code}
use Rattle.qs_lower.specs.Statements.{Exits, falls_of, before, next_falls, Part, StmtCode, joined, joined_before, entries, in_switch, switch_part}
use Rattle.qs_lower.proofs.StmtSizeLaws.{PartSized}
use Rattle.qs_lower_expressions.proofs.RealisationLaws.{Model, Stack, HasAt, has_left, has_right, CallsReal, IsCode, Agree, free}
use Rattle.qs_lower_expressions.proofs.ExprReal as expr
use Rattle.qs_lower.proofs.ChoiceLaws.{choice_length}
use Rattle.qs_lower.proofs.ChoiceReal as choice
use Rattle.qs_lower.proofs.PlainReal as plain
use Rattle.qs_lower.proofs.FlowReal as flow

-- ---- each label stands before one of so many parts

abbrev pub LabelsThere : (parts : ℕ) → List CoreLabel → Type 0
LabelsThere parts [] = Unit {0}
LabelsThere parts (Case n part ∷ labels) = (part < parts) × LabelsThere parts labels
LabelsThere parts (Default part ∷ labels) = (part < parts) × LabelsThere parts labels

case_there : (labels : List CoreLabel) (parts n part : ℕ) → LabelsThere parts labels → case_part labels n ≡ Some part → part < parts
case_there [] parts n part there h = absurd (cc)
case_there (Default p ∷ labels) parts n part there h = case_there labels parts n part there.1 h
case_there (Case m p ∷ labels) parts n part there h = by_same (m == n) (λ k. case_there labels parts n part there.1 k) h
  where
    by_same : (b : Bool) → (case_part labels n ≡ Some part → part < parts) → (if b then Some p else case_part labels n) ≡ Some part → part < parts
    by_same true others h = subst (λ (i : ℕ). i < parts) (same_Some p part h) there.0
    by_same false others h = others h

pub default_there : (labels : List CoreLabel) (parts part : ℕ) → LabelsThere parts labels → default_part labels ≡ Some part → part < parts
default_there [] parts part there h = absurd (cc)
default_there (Case m p ∷ labels) parts part there h = default_there labels parts part there.1 h
default_there (Default p ∷ labels) parts part there h = subst (λ (i : ℕ). i < parts) (same_Some p part h) there.0

module _ (u : Model) (f : CoreFunctionTree) (code : List InstructionTree) (function : ℕ) (stack : Stack) (is_code : IsCode u f code function stack) (c : Context) (first depth : ℕ) (calls_real : CallsReal u depth c.calls) where
  abbrev Makes : (d at first : ℕ) → Environment → World → RootRun → Type 0
  Makes d at n e w r = plain.Makes u f code function stack is_code c first depth calls_real d at n e w r

  abbrev Agrees : Locals → Environment → Type 0
  Agrees l e = Agree u f code function stack l e

  abbrev IsReady : Continuation → (d at : ℕ) → Type 0
  IsReady k d at = plain.IsReady u f code function stack is_code c first depth calls_real k d at

  abbrev AreReady : (d : ℕ) → Exits → (end : ℕ) → Continuations → Type 0
  AreReady d x end k = plain.AreReady u f code function stack is_code c first depth calls_real d x end k

  abbrev IsBounded : ℕ → Type 0
  IsBounded d = plain.IsBounded u f code function stack is_code c first depth calls_real d

  abbrev Meaning : Type 0
  Meaning = Continuations → Continuation

  abbrev PartReal : Meaning → Part → Type 0
  PartReal m p = plain.PartReal u f code function stack is_code c first depth calls_real m p

  abbrev Alike : Continuation → Continuation → Type 0
  Alike k j = (l : Locals) (w : World) → k l w ≡ j l w

  abbrev then_ : Meaning → Meaning → Meaning
  then_ m n k = m (record k { next = n k })

  abbrev first_free : ℕ
  first_free = free u f code function stack

  -- ---- the parts

  -- from the place of each part the code goes on as is meant from that part on
  pub record PartsReal (from : (part : ℕ) → Meaning) (parts : ℕ) (ss : List StmtCode) (last : StmtCode) : Type 0 where
    pub each :
        (part d at : ℕ) (x : Exits) (k : Continuations) → part < parts → IsBounded d → HasAt code at ((joined_before ss last).part.code x at)
        → AreReady d x (at + (joined_before ss last).part.size (falls_of x)) k → IsReady (from part k) d (place_in (entries ss last at) part)

  pub no_parts_real : (from : (part : ℕ) → Meaning) (last : StmtCode) → PartsReal from 0 [] last
  no_parts_real from last = record { each = λ part d at x k less le has ready. absurd (omega (arith, less)) }

  pub one_part_real : (from : (part : ℕ) → Meaning) (parts : ℕ) (m : Meaning) (last : StmtCode) → parts ≤ 1 → PartReal m last.part → ((k : Continuations) → Alike (m k) (from 0 k)) → PartsReal from parts [] last
  one_part_real from parts m last few h same = record { each = each }
    where
      each :
          (part d at : ℕ) (x : Exits) (k : Continuations) → part < parts → IsBounded d → HasAt code at (last.part.code x at)
          → AreReady d x (at + last.part.size (falls_of x)) k → IsReady (from part k) d (place_in (last.part.entry at ∷ []) part)
      each zero d at x k less le has ready =
          flow.ready_alike u f code function stack is_code c first depth calls_real (m k) (from 0 k) d (last.part.entry at) (same k) (h.entered d at x k le has ready)
      each (suc part) d at x k less le has ready = absurd (omega (arith, less, few))

  -- one, and behind it the others
  module _ (from others : (part : ℕ) → Meaning) (parts rest : ℕ) (m n : Meaning) (a : StmtCode) (ss : List StmtCode) (last : StmtCode) (few : parts ≤ rest + 1) (g : PartReal m a.part) (size : PartSized a.part) (h : PartReal n (joined_before ss last).part) (r : PartsReal others rest ss last) (same : (k : Continuations) → Alike (then_ m n k) (from 0 k)) (sames : (part : ℕ) (k : Continuations) → Alike (others part k) (from (suc part) k)) where
    abbrev b : Part
    b = (joined_before ss last).part

    each_real :
        (part d at : ℕ) (x : Exits) (k : Continuations) → part < parts → IsBounded d → HasAt code at ((joined a.part b).code x at)
        → AreReady d x (at + (joined a.part b).size (falls_of x)) k → IsReady (from part k) d (place_in (entries (a ∷ ss) last at) part)
    each_real zero d at x k less le has ready =
        flow.ready_alike u f code function stack is_code c first depth calls_real (then_ m n k) (from 0 k) d (a.part.entry at) (same k)
        ((flow.joined_real u f code function stack is_code c first depth calls_real m n a.part b g h size).entered d at x k le has ready)
    each_real (suc part) d at x k less le has ready =
        let second : ℕ = at + a.part.size next_falls in
        let there : at + (a.part.size next_falls + b.size (falls_of x)) ≡ second + b.size (falls_of x) = omega arith in
        flow.ready_alike u f code function stack is_code c first depth calls_real (others part k) (from (suc part) k) d (place_in (entries ss last second) part) (sames part k)
        (r.each part d second x k (omega (arith, less, few)) le
        (has_right code at (a.part.size next_falls) (a.part.code (before (b.entry second) x) at) (b.code x second) (size (before (b.entry second) x) at) has)
        (flow.ready_at u f code function stack is_code c first depth calls_real d x _ _ k there ready))

    pub more_parts_real : PartsReal from parts (a ∷ ss) last
    more_parts_real = record { each = λ part d at x k less le has ready. each_real part d at x k less le has ready }

  -- ---- the whole

  abbrev pub switched : CoreExprTree → List CoreLabel → (from : (part : ℕ) → Meaning) → Meaning
  switched s labels from k l w =
      given (value s l w.memory) (λ v. given (as_integer v) (λ n. at_part (chosen_part labels n) (λ part. from part (core.in_switch k)) k.next l w))

  module _ (s : CoreExprTree) (g : ExprCode) (labels : List CoreLabel) (from : (part : ℕ) → Meaning) (parts : ℕ) (ss : List StmtCode) (last : StmtCode) (h : expr.Correct u f code function stack is_code s g) (there : LabelsThere parts labels) (r : PartsReal from parts ss last) where
    -- what is met where the operand is this integer
    at_value : (k : Continuations) (l : Locals) (w : World) (n : ℕ) (o : Option ℕ) → (value s l w.memory >>= as_integer) ≡ Some n → chosen_part labels n ≡ o
        → switched s labels from k l w ≡ at_part o (λ part. from part (core.in_switch k)) k.next l w
    at_value k l w n o is met =
        plain.given_bind (value s l w.memory) as_integer _
        ∙ plain.given_some (value s l w.memory >>= as_integer) n (λ n. at_part (chosen_part labels n) (λ part. from part (core.in_switch k)) k.next l w) is
        ∙ ap (λ (p : Option ℕ). at_part p (λ part. from part (core.in_switch k)) k.next l w) met

    module _ (d at : ℕ) (x : Exits) (k : Continuations) (le : IsBounded d) (has : HasAt code at ((switch_part first_free g labels ss last).code x at)) (ready : AreReady d x (at + (switch_part first_free g labels ss last).size (falls_of x)) k) where
      abbrev begin : ℕ
      begin = at + choice_size g labels

      abbrev places : List ℕ
      places = entries ss last begin

      abbrev other : ℕ
      other = other_place (default_part labels) places (place_of x.next)

      abbrev size : ℕ
      size = (joined_before ss last).part.size (falls_of (in_switch x))

      parts_ready : AreReady (d - 1) (in_switch x) (begin + size) (core.in_switch k)
      parts_ready =
          let same : at + (choice_size g labels + size) ≡ begin + size = omega arith in
          let moved = flow.ready_at u f code function stack is_code c first depth calls_real d x _ _ k same ready in
          let fewer = flow.all_less u f code function stack is_code c first depth calls_real (d - 1) d x (begin + size) k (omega arith) moved in
          record { next = fewer.next; on_break = fewer.next; on_continue = fewer.on_continue; on_return = fewer.on_return }

      part_ready : (part : ℕ) → part < parts → IsReady (from part (core.in_switch k)) (d - 1) (place_in places part)
      part_ready part less =
          r.each part (d - 1) begin (in_switch x) (core.in_switch k) less (flow.bounded_less u f code function stack is_code c first depth calls_real (d - 1) d (omega arith) le)
          (has_right code at (choice_size g labels) (choice_code first_free g labels places other at) ((joined_before ss last).part.code (in_switch x) begin)
          (choice_length first_free g labels places other at h.sized) has)
          parts_ready

      next_ready : IsReady k.next (d - 1) (place_of x.next)
      next_ready = flow.settled_goes u f code function stack is_code c first depth calls_real k.next d x.next _ 0 ready.next

      other_ready :
          (o : Option ℕ) → default_part labels ≡ o → (l : Locals) (e : Environment) (w : World) → l.first_block ≡ first → Agrees l e
          → Makes (d - 1) (other_place o places (place_of x.next)) l.first_block e w (at_part o (λ part. from part (core.in_switch k)) k.next l w)
      other_ready None is l e w here agree = next_ready l e w here agree
      other_ready (Some part) is l e w here agree = part_ready part (default_there labels parts part there is) l e w here agree

      switch_ready : IsReady (switched s labels from k) d at
      switch_ready l e w here agree =
          choice.choice_real u f code function stack is_code s g labels places other h d at l w _
          (has_left code at (choice_code first_free g labels places other at) ((joined_before ss last).part.code (in_switch x) begin) has)
          (λ none. plain.given_bind (value s l w.memory) as_integer _ ∙ plain.given_none (value s l w.memory >>= as_integer) _ none)
          (λ part n after is agrees met.
          plain.goes_as u f code function stack is_code c first depth calls_real (d - 1) (place_in places part) l.first_block after w _ (from part (core.in_switch k) l w)
          (at_value k l w n (Some part) is (ap (λ (o : Option ℕ). option_or o (default_part labels)) met))
          (part_ready part (case_there labels parts n part there met) l after w here agrees))
          (λ n after is agrees met.
          plain.goes_as u f code function stack is_code c first depth calls_real (d - 1) other l.first_block after w _ (at_part (default_part labels) (λ part. from part (core.in_switch k)) k.next l w)
          (at_value k l w n (default_part labels) is (ap (λ (o : Option ℕ). option_or o (default_part labels)) met))
          (other_ready (default_part labels) refl l after w here agrees))
          e agree

    pub switch_real : PartReal (switched s labels from) (switch_part first_free g labels ss last)
    switch_real = record { jumps = λ at x has. (0, refl); entered = λ d at x k le has ready. switch_ready d at x k le has ready }
