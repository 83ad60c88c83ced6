-- The code that chooses the part of a switch goes on at the place of the first case of the operand's value, or where it
-- goes on that has the value of no case.
use Rattle.std.proofs.Common.{◌≡◌, ℕ, ◌+◌, ◌-◌, ◌≤◌, Bool, true, false, if◌then◌else◌, List, [], ◌∷◌, ◌++◌, Option, Some, None, refl, ap, ◌∙◌, subst, arith}
use Rattle.std.specs.Prelude.{◌==◌}
use Rattle.std.specs.List.{slice_get}
use Rattle.std.proofs.lemmas.Bool.Decides.{nat_tests}
use Rattle.std.proofs.lemmas.Option.{same_Some}
use Rattle.qs_memory.specs.Partial.{◌>>=◌}
use Rattle.qs_memory.specs.Values.{Value, integer, address, as_integer}
use Rattle.qs_memory.specs.Integers.{compares}
use Rattle.qs_memory.specs.Operations.{on_integers}
use Rattle.qs_memory.specs.declared.operation.Signedness.TheVariants.{Signed}
use Rattle.qs_memory.specs.declared.operation.Comparison.TheVariants.{Equal}
use Rattle.qs_events.specs.Runs.{undefined}
use Rattle.qs_calls.specs.World.{World, RootRun, Environment}
use Rattle.qs_core.specs.Trees.{CoreExprTree, CoreFunctionTree}
use Rattle.qs_core.specs.Expressions.{Locals, value}
use Rattle.qs_core.specs.Statements.{case_part}
use Rattle.qs_core.specs.declared.labels.CoreLabel.{CoreLabel}
use Rattle.qs_core.specs.declared.labels.CoreLabel.TheVariants.{Case, Default}
use Rattle.qs_tac.specs.Trees.{InstructionTree, jump}
use Rattle.qs_tac.specs.Holders.{temporaries}
use Rattle.qs_tac.specs.Values.{operand}
use Rattle.qs_tac.specs.declared.operands.Operand.{Operand}
use Rattle.qs_tac.specs.declared.operands.Operand.TheVariants.{Constant}
use Rattle.qs_tac.specs.declared.operands.Condition.TheVariants.{Compare}
use Rattle.qs_lower_expressions.specs.Expressions.{ExprCode, size_of, code_of, operand_of, own}
use Rattle.qs_lower.specs.Choices.{place_in, if_equal, case_code, case_count, is_asked, asked_code, choice_code}
use Rattle.qs_lower_expressions.proofs.SizeLaws.{code_length}
use Rattle.qs_lower_expressions.proofs.RealisationLaws.{Model, Stack, HasAt, has_left, has_right, kept_all, Real, real_less, moment, IsCode, Agree, free}
use Rattle.qs_lower_expressions.proofs.ValueReal as value_real
use Rattle.qs_lower_expressions.proofs.ValueReal.{none_bind}
use Rattle.qs_lower_expressions.proofs.ExprReal as expr
use Rattle.qs_lower.proofs.ChoiceLaws.{case_length}

-- ---- the value of the operand beside the number of a case

compared : (v : Option Value) (n : ℕ) → (v >>= λ x. on_integers (λ a b. Some (compares Equal Signed a b)) x (integer n)) ≡ ((v >>= as_integer) >>= λ a. Some (a == n))
compared None n = refl
compared (Some (integer m)) n = refl
compared (Some (address p)) n = refl

turned : (m n : ℕ) → (m == n) ≡ (n == m)
turned m n = grind (arith, nat_tests)

-- whether the first label is a case of the value
met : (m part n : ℕ) (labels : List CoreLabel) (b : Bool) → (n == m) ≡ b → case_part (Case m part ∷ labels) n ≡ (if b then Some part else case_part labels n)
met m part n labels b h = ap (λ (c : Bool). if c then Some part else case_part labels n) (turned m n ∙ h)

module _ (u : Model) (f : CoreFunctionTree) (code : List InstructionTree) (function : ℕ) (stack : Stack) (is_code : IsCode u f code function stack) where
  abbrev Makes : (d at first : ℕ) → Environment → World → RootRun → Type 0
  Makes d at n e w r = Real u d (moment u f code function stack at n e) w stack r

  abbrev Agrees : Locals → Environment → Type 0
  Agrees l e = Agree u f code function stack l e

  abbrev first_free : ℕ
  first_free = free u f code function stack

  -- what the operand is, wherever it is read
  abbrev IsRead : Operand → (first : ℕ) → Environment → Option Value → Type 0
  IsRead o n e v = (i : ℕ) → operand temporaries o (moment u f code function stack i n e) ≡ v

  fewer : (i d at first : ℕ) (e : Environment) (w : World) (r : RootRun) → i ≤ d → Makes d at first e w r → Makes i at first e w r
  fewer i d at first e w r le h = real_less u i d _ w stack r le h

  equal_real :
      (o : Operand) (n to d at first : ℕ) (e : Environment) (w : World) (r : RootRun) (v : Option Value) (k : Option ℕ)
      → slice_get code at ≡ Some (if_equal o n to) → IsRead o first e v → (v >>= as_integer) ≡ k → (k ≡ None → r ≡ undefined)
      → ((i : ℕ) → k ≡ Some i → Makes (d - 1) (if i == n then to else (at + 1)) first e w r) → Makes d at first e w r
  equal_real o n to d at first e w r v k has read is none some =
      value_real.branch_real u f code function stack is_code (Compare Equal Signed o (Constant n)) d at to first e w r (k >>= λ i. Some (i == n)) has
      (ap (λ (x : Option Value). x >>= λ y. on_integers (λ a b. Some (compares Equal Signed a b)) y (integer n)) (read at)
      ∙ compared v n ∙ ap (λ (x : Option ℕ). x >>= λ i. Some (i == n)) is)
      (unanswered k none) (answered k some)
    where
      unanswered : (k : Option ℕ) → (k ≡ None → r ≡ undefined) → (k >>= λ i. Some (i == n)) ≡ None → r ≡ undefined
      unanswered None h same = h refl
      unanswered (Some i) h same = absurd (cc)

      answered :
          (k : Option ℕ) → ((i : ℕ) → k ≡ Some i → Makes (d - 1) (if i == n then to else (at + 1)) first e w r)
          → (b : Bool) → (k >>= λ i. Some (i == n)) ≡ Some b → Makes (d - 1) (if b then to else (at + 1)) first e w r
      answered None h b same = absurd (cc)
      answered (Some i) h b same = subst (λ (c : Bool). Makes (d - 1) (if c then to else (at + 1)) first e w r) (same_Some (i == n) b same) (h i refl)

  -- the cases, where the operand is this integer
  cases_real :
      (o : Operand) (labels : List CoreLabel) (places : List ℕ) (n c d at first : ℕ) (e : Environment) (w : World) (r : RootRun) (v : Option Value)
      → HasAt code at (case_code o labels places) → IsRead o first e v → (v >>= as_integer) ≡ Some n → d ≤ c + 1
      → ((part : ℕ) → case_part labels n ≡ Some part → Makes c (place_in places part) first e w r)
      → ((i : ℕ) → i ≤ d → case_part labels n ≡ None → Makes i (at + case_count labels) first e w r) → Makes d at first e w r
  cases_real o [] places n c d at first e w r v has read is le hit miss =
      value_real.moved u f code function stack is_code d (at + 0) at first e w r (omega arith) (miss d (omega arith) refl)
  cases_real o (Default part ∷ labels) places n c d at first e w r v has read is le hit miss =
      cases_real o labels places n c d at first e w r v has read is le hit
      (λ i less none. value_real.moved u f code function stack is_code i (at + (0 + case_count labels)) (at + case_count labels) first e w r (omega arith) (miss i less none))
  cases_real o (Case m part ∷ labels) places n c d at first e w r v has read is le hit miss =
      equal_real o m (place_in places part) d at first e w r v (Some n) has.0 read is (λ none. absurd (cc))
      (λ i same. subst (λ (j : ℕ). Makes (d - 1) (if j == m then place_in places part else (at + 1)) first e w r) (same_Some n i same)
      (by_same (n == m)
      (λ h. cases_real o labels places n c (d - 1) (at + 1) first e w r v has.1 read is (omega (arith, le))
      (λ p there. hit p (met m part n labels false h ∙ there))
      (λ i less none.
      value_real.moved u f code function stack is_code i (at + (1 + case_count labels)) (at + 1 + case_count labels) first e w r (omega arith)
      (miss i (omega (arith, less)) (met m part n labels false h ∙ none)))) refl))
    where
      by_same : (b : Bool) → ((n == m) ≡ false → Makes (d - 1) (at + 1) first e w r) → (n == m) ≡ b → Makes (d - 1) (if b then place_in places part else (at + 1)) first e w r
      by_same true others h = fewer (d - 1) c (place_in places part) first e w r (omega (arith, le)) (hit part (met m part n labels true h))
      by_same false others h = others h

  -- and behind them
  asked_real :
      (b : Bool) (o : Operand) (n other d i at first : ℕ) (e : Environment) (w : World) (r : RootRun) (v : Option Value)
      → HasAt code at (asked_code b o other ++ jump other ∷ []) → IsRead o first e v → (v >>= as_integer) ≡ Some n → i ≤ d
      → Makes (d - 1) other first e w r → Makes i at first e w r
  asked_real false o n other d i at first e w r v has read is le h =
      value_real.jump_real u f code function stack is_code i at other first e w r has.0 (fewer (i - 1) (d - 1) other first e w r (omega (arith, le)) h)
  asked_real true o n other d i at first e w r v has read is le h =
      equal_real o 0 other i at first e w r v (Some n) has.0 read is (λ none. absurd (cc)) (λ j same. either (j == 0))
    where
      either : (b : Bool) → Makes (i - 1) (if b then other else (at + 1)) first e w r
      either true = fewer (i - 1) (d - 1) other first e w r (omega (arith, le)) h
      either false =
          value_real.jump_real u f code function stack is_code (i - 1) (at + 1) other first e w r has.1.0
          (fewer (i - 1 - 1) (d - 1) other first e w r (omega (arith, le)) h)

  -- the first comparison, where the operand is no integer
  no_integer_real :
      (o : Operand) (labels : List CoreLabel) (places : List ℕ) (other d at first : ℕ) (e : Environment) (w : World) (r : RootRun) (v : Option Value) (rest : List InstructionTree)
      → HasAt code at (case_code o labels places ++ (asked_code (is_asked labels) o other ++ rest)) → IsRead o first e v → (v >>= as_integer) ≡ None
      → r ≡ undefined → Makes d at first e w r
  no_integer_real o [] places other d at first e w r v rest has read is none =
      equal_real o 0 other d at first e w r v None has.0 read is (λ same. none) (λ i same. absurd (cc))
  no_integer_real o (Case m part ∷ labels) places other d at first e w r v rest has read is none =
      equal_real o m (place_in places part) d at first e w r v None has.0 read is (λ same. none) (λ i same. absurd (cc))
  no_integer_real o (Default part ∷ labels) places other d at first e w r v rest has read is none =
      let same : 0 + case_count labels ≡ case_count labels = omega arith in
      no_integer_real o labels places other d at first e w r v rest
      (subst (λ (k : ℕ). HasAt code at (case_code o labels places ++ (asked_code (k == 0) o other ++ rest))) same has) read is none

  -- the operand, and then the place
  module _ (s : CoreExprTree) (g : ExprCode) (labels : List CoreLabel) (places : List ℕ) (other : ℕ) (h : expr.Correct u f code function stack is_code s g) where
    abbrev o : Operand
    o = operand_of g first_free

    abbrev behind : List InstructionTree
    behind = asked_code (is_asked labels) o other ++ jump other ∷ []

    module _ (d at : ℕ) (l : Locals) (w : World) (r : RootRun) (has : HasAt code at (choice_code first_free g labels places other at)) (none : (value s l w.memory >>= as_integer) ≡ None → r ≡ undefined) where
      -- where this is so, the code makes the run from there
      abbrev Chosen : (to : ℕ) → (ℕ → Type 0) → Type 0
      Chosen to is_met = (n : ℕ) (after : Environment) → (value s l w.memory >>= as_integer) ≡ Some n → Agrees l after → is_met n → Makes (d - 1) to l.first_block after w r

      module _ (hit : (part : ℕ) → Chosen (place_in places part) (λ n. case_part labels n ≡ Some part)) (miss : Chosen other (λ n. case_part labels n ≡ None)) where
        rest : HasAt code (at + size_of g) (case_code o labels places ++ behind)
        rest = has_right code at (size_of g) (code_of g first_free at) (case_code o labels places ++ behind) (code_length g h.sized.into first_free at) has

        chosen :
            (k : Option ℕ) → (value s l w.memory >>= as_integer) ≡ k → (after : Environment) → Agrees l after → IsRead o l.first_block after (value s l w.memory)
            → Makes d (at + size_of g) l.first_block after w r
        chosen None is after agrees read =
            no_integer_real o labels places other d (at + size_of g) l.first_block after w r (value s l w.memory) (jump other ∷ []) rest read is (none is)
        chosen (Some n) is after agrees read =
            cases_real o labels places n (d - 1) d (at + size_of g) l.first_block after w r (value s l w.memory)
            (has_left code (at + size_of g) (case_code o labels places) behind rest) read is (omega arith)
            (λ part there. hit part n after is agrees there)
            (λ i less nowhere.
            asked_real (is_asked labels) o n other d i (at + size_of g + case_count labels) l.first_block after w r (value s l w.memory)
            (has_right code (at + size_of g) (case_count labels) (case_code o labels places) behind (case_length o labels places) rest)
            read is less (miss n after is agrees nowhere))

        pub choice_real : (e : Environment) → Agrees l e → Makes d at l.first_block e w r
        choice_real e agree =
            value_real.as_operand u f code function stack is_code s g h d first_free at l e w r (omega arith) agree
            (has_left code at (code_of g first_free at) (case_code o labels places ++ behind) has)
            (λ no. none (none_bind (value s l w.memory) as_integer no))
            (λ after kept same.
            chosen (value s l w.memory >>= as_integer) refl after (value_real.agree_kept u f code function stack is_code first_free l e after (omega arith) agree kept)
            (λ i. same i after (kept_all (first_free + own g) after)))
