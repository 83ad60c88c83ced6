-- What plans of members and elements stand for.
use Rattle.std.proofs.Common.{◌≡◌, ℕ, Bool, true, false, if◌then◌else◌, Option, Some, None, refl, sym, ap, ◌∙◌}
use Rattle.qs_memory.specs.Partial.{only_if}
use Rattle.qs_memory.specs.declared.operation.Signedness.{Signedness}
use Rattle.qs_tac.specs.Fits.{is_word}
use Rattle.qs_lower_expressions.specs.Expressions.{IndexCode, ExprCode, based, further, behind_parts, unindexed, indexed_by, by_address, of_member, of_element}
use Rattle.qs_lower_expressions.specs.Plans.{word_of, offset_of, index_offset, started, with_offset, index_with, with_index_offset}

if_word : (b : Bool) (n : ℕ) (x y : ExprCode) → only_if b (Some n) ≡ None → (if b then x else y) ≡ y
if_word true n x y h = cc
if_word false n x y h = refl

if_no_word : (b : Bool) (m n : ℕ) (f : ℕ → ExprCode) (y : ExprCode) → only_if b (Some m) ≡ Some n → (if b then f m else y) ≡ f n
if_no_word true m n f y h = let same : m ≡ n = cc in ap f same
if_no_word false m n f y h = cc

-- no element
module _ (p : ExprCode) (bytes : ℕ) (none : index_offset p ≡ None) where
  no_index : p.index ≡ None
  no_index = of_option p.index none
    where
      of_option : (o : Option IndexCode) → offset_of o ≡ None → o ≡ None
      of_option None h = refl
      of_option (Some i) h = cc

  pub offset_near : (n : ℕ) → word_of p.offset bytes ≡ Some n → by_address (with_offset n (started false p)) ≡ of_member bytes p
  offset_near n h =
      ap by_address
      (sym (ap (λ o. behind_parts o p bytes) no_index
      ∙ if_no_word (is_word (further p.offset bytes)) (further p.offset bytes) n (λ k. with_offset k p) (with_offset bytes (based p)) h))

  pub offset_far : word_of p.offset bytes ≡ None → by_address (with_offset bytes (started true p)) ≡ of_member bytes p
  offset_far h =
      ap by_address
      (sym (ap (λ o. behind_parts o p bytes) no_index
      ∙ if_word (is_word (further p.offset bytes)) (further p.offset bytes) (with_offset (further p.offset bytes) p) (with_offset bytes (based p)) h))

-- the element's offset
module _ (p : ExprCode) (bytes : ℕ) (offset : Option ℕ) (some : index_offset p ≡ Some offset) where
  abbrev Found : Type 0
  Found = (i : IndexCode) × (p.index ≡ Some i) × (i.offset ≡ offset)

  found : Found
  found = of_option p.index refl some
    where
      of_option : (o : Option IndexCode) → p.index ≡ o → offset_of o ≡ Some offset → Found
      of_option None is h = cc
      of_option (Some i) is h = (i, is, cc)

  pub index_near : (n : ℕ) → word_of offset bytes ≡ Some n → by_address (with_index_offset n p) ≡ of_member bytes p
  index_near n h =
      let i = found.0 in
      ap by_address
      (ap (λ o. record p { index = index_with n o }) found.1
      ∙ sym (ap (λ o. behind_parts o p bytes) found.1
      ∙ if_no_word (is_word (further i.offset bytes)) (further i.offset bytes) n (λ k. record p { index = Some (record i { offset = Some k }) }) (with_offset bytes (based p))
      (ap (λ o. word_of o bytes) found.2 ∙ h)))

  pub index_far : word_of offset bytes ≡ None → by_address (with_offset bytes (started true p)) ≡ of_member bytes p
  index_far h =
      let i = found.0 in
      ap by_address
      (sym (ap (λ o. behind_parts o p bytes) found.1
      ∙ if_word (is_word (further i.offset bytes)) (further i.offset bytes) (record p { index = Some (record i { offset = Some (further i.offset bytes) }) }) (with_offset bytes (based p))
      (ap (λ o. word_of o bytes) found.2 ∙ h)))

  pub element_again : (s : Signedness) (element : ℕ) (b : ExprCode) → by_address (indexed_by s element (started true p) b) ≡ of_element s element p b
  element_again s element b = ap (λ o. by_address (indexed_by s element (unindexed o p) b)) (sym found.1)

pub element_first : (s : Signedness) (element : ℕ) (p b : ExprCode) → index_offset p ≡ None → by_address (indexed_by s element (started false p) b) ≡ of_element s element p b
element_first s element p b none = ap (λ o. by_address (indexed_by s element (unindexed o p) b)) (sym (no_index p 0 none))

pub ruleset element_cases = (element_first, element_again)
