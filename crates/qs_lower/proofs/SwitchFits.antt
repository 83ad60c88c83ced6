-- The code of switches fits.
use Rattle.std.proofs.Common.{◌≡◌, ℕ, zero, suc, ◌+◌, ◌<◌, ◌≤◌, Bool, true, false, List, [], ◌∷◌, ◌++◌, length, Option, Some, None, refl, subst, arith, lt-ltb}
use Rattle.std.specs.Prelude.{◌||◌, not, nat_lt}
use Rattle.std.specs.List.{list_all}
use Rattle.std.proofs.lemmas.Bool.{and_parts, and_from}
use Rattle.qs_memory.specs.Values.{integer, has_type}
use Rattle.qs_memory.specs.declared.scalar.Scalar.{Scalar}
use Rattle.qs_core.specs.Fits.{label_fits}
use Rattle.qs_core.specs.Statements.{default_part}
use Rattle.qs_core.specs.declared.labels.CoreLabel.{CoreLabel}
use Rattle.qs_core.specs.declared.labels.CoreLabel.TheVariants.{Case, Default}
use Rattle.qs_tac.specs.Trees.{InstructionTree, jump, TacFunctionTree, TacUnitTree}
use Rattle.qs_tac.specs.Fits.{is_word, operand_fits}
use Rattle.qs_tac.specs.declared.operands.Operand.{Operand}
use Rattle.qs_lower_expressions.specs.Exits.{place_of}
use Rattle.qs_lower_expressions.specs.Expressions.{ExprCode, size_of, code_of, operand_of, used_by}
use Rattle.qs_lower.specs.Choices.{place_in, if_equal, case_code, is_asked, asked_code, other_place, choice_size, choice_code}
use Rattle.qs_lower.specs.Statements.{Exits, falls_of, next_falls, StmtCode, joined, joined_before, entries, in_switch, switch_part, of_switch}
use Rattle.qs_lower_expressions.proofs.ExprFits.{Fit, fit_cons, fit_one, fit_both, Lands, place_in as exit_place, ExprFits, code_of_fits, operand_of_fits}
use Rattle.qs_lower.proofs.OperandFits.{literal_word}
use Rattle.qs_lower.proofs.PartFits.{taken, AllFollow, AllReach, Reaches, PartFits, Fits, all_follow, reaches, joined_fits, more_next, second_room, second_follows}
use Rattle.qs_lower.proofs.SwitchReal.{LabelsThere, default_there}

-- the numbers of cases are words
abbrev pub WordCases : List CoreLabel → Type 0
WordCases [] = Unit {0}
WordCases (Case n part ∷ labels) = (is_word n ≡ true) × WordCases labels
WordCases (Default part ∷ labels) = WordCases labels

pub word_cases : (s : Scalar) (parts : ℕ) (labels : List CoreLabel) → list_all (label_fits s parts) labels ≡ true → WordCases labels
word_cases s parts [] h = tt
word_cases s parts (Case n part ∷ labels) h =
    let two = and_parts (label_fits s parts (Case n part)) (list_all (label_fits s parts) labels) h in
    (literal_word s n (and_parts (has_type s (integer n)) (nat_lt part parts) two.0).0, word_cases s parts labels two.1)
word_cases s parts (Default part ∷ labels) h = word_cases s parts labels (and_parts (nat_lt part parts) (list_all (label_fits s parts) labels) h).1

module _ (u : TacUnitTree) (f : TacFunctionTree) where
  -- ---- the choice

  -- the places of so many parts are in the code
  abbrev pub ArePlaces : (parts : ℕ) → List ℕ → Type 0
  ArePlaces parts places = (part : ℕ) → part < parts → place_in places part < length f.code

  equal_fits : (o : Operand) (n to : ℕ) (code : List InstructionTree) → operand_fits u f o ≡ true → is_word n ≡ true → to < length f.code → Fit u f code → Fit u f (if_equal o n to ∷ code)
  equal_fits o n to code h k there rest = fit_cons u f (if_equal o n to) code (and_from _ _ (and_from _ _ h k) (lt-ltb _ _ there)) rest

  cases_fit :
      (o : Operand) (parts : ℕ) (labels : List CoreLabel) (places : List ℕ) → operand_fits u f o ≡ true → WordCases labels → LabelsThere parts labels → ArePlaces parts places
      → Fit u f (case_code o labels places)
  cases_fit o parts [] places h words there are = refl
  cases_fit o parts (Case n part ∷ labels) places h words there are =
      equal_fits o n (place_in places part) (case_code o labels places) h words.0 (are part there.0) (cases_fit o parts labels places h words.1 there.1 are)
  cases_fit o parts (Default part ∷ labels) places h words there are = cases_fit o parts labels places h words there.1 are

  asked_fits : (b : Bool) (o : Operand) (to : ℕ) → operand_fits u f o ≡ true → to < length f.code → Fit u f (asked_code b o to)
  asked_fits true o to h there = equal_fits o 0 to [] h refl there refl
  asked_fits false o to h there = refl

  choice_fits :
      (t : ℕ) (e : ExprCode) (parts : ℕ) (labels : List CoreLabel) (places : List ℕ) (other at : ℕ) → ExprFits u f e → t + used_by e ≤ f.temporaries → at + size_of e < length f.code
      → WordCases labels → LabelsThere parts labels → ArePlaces parts places → other < length f.code → Fit u f (choice_code t e labels places other at)
  choice_fits t e parts labels places other at g used room words there are inside =
      let o : Operand = operand_of e t in
      let h = operand_of_fits u f e g t used in
      fit_both u f (code_of e t at) (case_code o labels places ++ (asked_code (is_asked labels) o other ++ jump other ∷ [])) (code_of_fits u f e g t at used room)
      (fit_both u f (case_code o labels places) (asked_code (is_asked labels) o other ++ jump other ∷ []) (cases_fit o parts labels places h words there are)
      (fit_both u f (asked_code (is_asked labels) o other) (jump other ∷ []) (asked_fits (is_asked labels) o other h inside) (fit_one u f (jump other) (lt-ltb _ _ inside))))

  -- ---- the parts

  abbrev whole : List StmtCode → StmtCode → StmtCode
  whole ss last = joined_before ss last

  pub record RowFits (q : Bool) (parts : ℕ) (ss : List StmtCode) (last : StmtCode) : Type 0 where
    pub part : PartFits u f (taken (whole ss last).ends (whole ss last).breaks q) (whole ss last).part
    pub places :
        (x : Exits) (at : ℕ) → at + (whole ss last).part.size (falls_of x) ≤ length f.code
        → AllFollow u f (taken (whole ss last).ends (whole ss last).breaks q) x (at + (whole ss last).part.size (falls_of x)) → ArePlaces parts (entries ss last at)

  pub one_row_fits : (q : Bool) (parts : ℕ) (last : StmtCode) → parts ≤ 1 → PartFits u f (taken last.ends last.breaks q) last.part → RowFits q parts [] last
  one_row_fits q parts last few h = record { part = h; places = λ x at room k part less. there x at room k part less }
    where
      there :
          (x : Exits) (at : ℕ) → at + last.part.size (falls_of x) ≤ length f.code → AllFollow u f (taken last.ends last.breaks q) x (at + last.part.size (falls_of x))
          → ArePlaces parts (last.part.entry at ∷ [])
      there x at room k zero less = h.enters x at room k
      there x at room k (suc part) less = absurd (omega (arith, less, few))

  -- one, and behind it the others
  module _ (q : Bool) (parts rest : ℕ) (a : StmtCode) (ss : List StmtCode) (last : StmtCode) (few : parts ≤ rest + 1) (h : PartFits u f (taken a.ends a.breaks q) a.part) (k : RowFits q rest ss last) where
    abbrev others : StmtCode
    others = whole ss last

    first_fits : PartFits u f (taken false a.breaks q) a.part
    first_fits = more_next u f a.ends a.breaks q a.part h

    both_fit : PartFits u f (taken others.ends (a.breaks || others.breaks) q) (joined a.part others.part)
    both_fit = joined_fits u f others.ends a.breaks others.breaks q a.part others.part first_fits k.part

    row_there :
        (x : Exits) (at : ℕ) → at + (a.part.size next_falls + others.part.size (falls_of x)) ≤ length f.code
        → AllFollow u f (taken others.ends (a.breaks || others.breaks) q) x (at + (a.part.size next_falls + others.part.size (falls_of x))) → ArePlaces parts (entries (a ∷ ss) last at)
    row_there x at room g zero less = both_fit.enters x at room g
    row_there x at room g (suc part) less =
        k.places x (at + a.part.size next_falls) (second_room u f others.ends a.breaks others.breaks q a.part others.part first_fits k.part x at room)
        (second_follows u f others.ends a.breaks others.breaks q a.part others.part first_fits k.part x at g) part (omega (arith, less, few))

    pub more_row_fits : RowFits q parts (a ∷ ss) last
    more_row_fits = record { part = both_fit; places = λ x at room g part less. row_there x at room g part less }

  -- ---- the whole

  module _ (t : ℕ) (q : Bool) (e : ExprCode) (labels : List CoreLabel) (parts : ℕ) (ss : List StmtCode) (last : StmtCode) (g : ExprFits u f e) (words : WordCases labels) (there : LabelsThere parts labels) where
    abbrev row : StmtCode
    row = whole ss last

    abbrev begin : ℕ → ℕ
    begin at = at + choice_size e labels

    abbrev parts_end : Exits → ℕ → ℕ
    parts_end x at = begin at + row.part.size (falls_of (in_switch x))

    abbrev end : Exits → ℕ → ℕ
    end x at = at + (choice_size e labels + row.part.size (falls_of (in_switch x)))

    same_end : (x : Exits) (at : ℕ) → end x at ≡ parts_end x at
    same_end x at = omega arith

    parts_room : (x : Exits) (at : ℕ) → end x at ≤ length f.code → parts_end x at ≤ length f.code
    parts_room x at room = omega (arith, room)

    choice_room : (x : Exits) (at : ℕ) → end x at ≤ length f.code → at + size_of e < length f.code
    choice_room x at room = omega (arith, room)

    switch_starts : (x : Exits) (at : ℕ) → end x at ≤ length f.code → at < length f.code
    switch_starts x at room = omega (arith, room)

    parts_reach : (x : Exits) (at : ℕ) → AllReach u f (taken false false q) x (end x at) → AllReach u f (taken row.ends row.breaks q) (in_switch x) (parts_end x at)
    parts_reach x at k =
        let lands = subst (λ (n : ℕ). Lands u f x.next n) (same_end x at) k.next in
        record {
          next = reaches u f (not row.ends) x.next (parts_end x at) lands;
          on_break = reaches u f row.breaks x.next (parts_end x at) lands;
          on_continue = subst (λ (n : ℕ). Reaches u f q x.on_continue n) (same_end x at) k.on_continue;
        }

    other_in : (o : Option ℕ) → default_part labels ≡ o → (places : List ℕ) → ArePlaces parts places → (x : Exits) (at : ℕ) → Lands u f x.next (end x at)
        → other_place o places (place_of x.next) < length f.code
    other_in None is places are x at lands = exit_place u f x.next (end x at) lands
    other_in (Some part) is places are x at lands = are part (default_there labels parts part there is)

    part_fits : t + used_by e ≤ f.temporaries → RowFits q parts ss last → PartFits u f (taken false false q) (switch_part t e labels ss last)
    part_fits used r = record {
      starts = λ x at room k. switch_starts x at room;
      enters = λ x at room k. switch_starts x at room;
      fits = λ x at room k.
          let reach = parts_reach x at k in
          let are = r.places (in_switch x) (begin at) (parts_room x at room) (all_follow u f (taken row.ends row.breaks q) (in_switch x) (parts_end x at) reach) in
          let places : List ℕ = entries ss last (begin at) in
          let other : ℕ = other_place (default_part labels) places (place_of x.next) in
          fit_both u f (choice_code t e labels places other at) (row.part.code (in_switch x) (begin at))
          (choice_fits t e parts labels places other at g used (choice_room x at room) words there are (other_in (default_part labels) refl places are x at k.next))
          (r.part.fits (in_switch x) (begin at) (parts_room x at room) reach);
    }

    pub switch_fits : (t + row.used ≤ f.temporaries → RowFits q parts ss last) → Fits u f t q (of_switch t e labels ss last)
    switch_fits h = record {
      way = tt;
      fits = λ used. record { part = part_fits (omega (arith, used)) (h (omega (arith, used))); tested = tt };
    }
