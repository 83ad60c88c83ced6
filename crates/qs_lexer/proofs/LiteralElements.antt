-- The elements of a literal, one behind the other.
use Rattle.std.proofs.Common.{◌≡◌, ℕ, ◌+◌, ◌-◌, ◌<◌, ◌≤◌, zero, suc, Bool, true, false, cond, ◌||◌, List, [], ◌∷◌, ◌++◌, Result, Ok, Err, length, drop, refl, ap, sym, ◌∙◌, arith, ◌==◌}
use Rattle.std.specs.List.{list_any}
use Rattle.std.proofs.lemmas.List.{drop-drop, length-drop, drop_all}
use Rattle.std.proofs.Math.Bool.{or_assoc}
use Rattle.qs_lexer.specs.Literals.{byte_values, character_of_elements, character_with, element_length, elements_behind, escape_length, first_element, is_bad, is_wide}
use Rattle.qs_lexer.specs.declared.literals.Element.{Element}
use Rattle.qs_lexer.specs.declared.literals.Element.TheVariants as item
use Rattle.qs_lexer.specs.declared.fault.FaultKind.{FaultKind}
use Rattle.qs_lexer.specs.declared.fault.FaultKind.TheVariants as faults
use Rattle.qs_syntax_vocabulary.specs.declared.tokens.TokenKind.{TokenKind}
use Rattle.qs_syntax_vocabulary.specs.declared.tokens.TokenKind.TheVariants as kinds

pub element_some : (bytes : List ℕ) → 1 ≤ element_length bytes
element_some [] = omega arith
element_some (b ∷ bs) = by (b == 92) (escape_length bs)
  where
    by : (x : Bool) (n : ℕ) → 1 ≤ cond x (1 + n) 1
    by true n = omega arith
    by false n = omega arith

behind_drop : (taken : ℕ) (bytes : List ℕ) → elements_behind taken bytes ≡ elements_behind 0 (drop taken bytes)
behind_drop zero bytes = refl
behind_drop (suc taken) [] = refl
behind_drop (suc taken) (b ∷ bs) = behind_drop taken bs

drop_less : (n b : ℕ) (bs : List ℕ) → 1 ≤ n → drop (n - 1) bs ≡ drop n (b ∷ bs)
drop_less zero b bs h = absurd (omega arith)
drop_less (suc n) b bs h = let e : suc n - 1 ≡ n = omega arith in rw e refl

pub first_and_others : (bytes : List ℕ) → 0 < length bytes → elements_behind 0 bytes ≡ first_element bytes ∷ elements_behind 0 (drop (element_length bytes) bytes)
first_and_others [] h = absurd (omega arith)
first_and_others (b ∷ bs) h =
    ap (λ es. first_element (b ∷ bs) ∷ es)
    (behind_drop (element_length (b ∷ bs) - 1) bs ∙ ap (elements_behind 0) (drop_less (element_length (b ∷ bs)) b bs (element_some (b ∷ bs))))

-- ---- one element or several

pub one_element : (body : List ℕ) → 0 < length body → length body ≤ element_length body → character_of_elements (elements_behind 0 body) ≡ character_with (first_element body)
one_element body h l = ap character_of_elements (first_and_others body h ∙ ap (λ bs. first_element body ∷ elements_behind 0 bs) (drop_all (element_length body) body l))

pub several_elements : (body : List ℕ) → element_length body < length body → character_of_elements (elements_behind 0 body) ≡ Err faults.BadLiteral
several_elements body l =
    let left : length (drop (element_length body) body) ≡ length body - element_length body = length-drop (element_length body) body in
    ap character_of_elements (first_and_others body (omega arith) ∙ ap (λ es. first_element body ∷ es) (first_and_others (drop (element_length body) body) (omega arith)))

-- ---- from one element on to the next

next_elements : (body rest : List ℕ) (at n : ℕ) → at < length body → rest ≡ drop at body → n ≡ element_length rest → elements_behind 0 (drop at body) ≡ first_element rest ∷ elements_behind 0 (drop (at + n) body)
next_elements body rest at n h r e =
    let left : length (drop at body) ≡ length body - at = length-drop at body in
    let some : 0 < length rest = rw r (omega arith) in
    ap (elements_behind 0) (sym r) ∙ first_and_others rest some
    ∙ ap (λ bs. first_element rest ∷ elements_behind 0 bs) (ap (λ k. drop k rest) (sym e) ∙ ap (drop n) r ∙ drop-drop n at body)

-- what a text is whose elements up to here are not bad, and `wide` if one is wide
abbrev pub text_after : Bool → List Element → Result TokenKind FaultKind
text_after wide list =
    cond (list_any is_bad list) (Err faults.BadLiteral) (cond (wide || list_any is_wide list) (Err faults.WideLiteral) (Ok kinds.Text))

good_first : (wide : Bool) (first : Element) (others : List Element) → is_bad first ≡ false → text_after wide (first ∷ others) ≡ text_after (wide || is_wide first) others
good_first wide first others h = rw (h, sym (or_assoc wide (is_wide first) (list_any is_wide others))) refl

pub text_goes_on : (body rest : List ℕ) (at n : ℕ) (first : Element) (wide still : Bool) → at < length body → rest ≡ drop at body → n ≡ element_length rest → first ≡ first_element rest → is_bad first ≡ false → still ≡ (wide || is_wide first)
    → text_after wide (elements_behind 0 (drop at body)) ≡ text_after still (elements_behind 0 (drop (at + n) body))
text_goes_on body rest at n first wide still h r e f b s =
    ap (text_after wide) (next_elements body rest at n h r e ∙ ap (λ x. x ∷ elements_behind 0 (drop (at + n) body)) (sym f))
    ∙ good_first wide first (elements_behind 0 (drop (at + n) body)) b
    ∙ ap (λ x. text_after x (elements_behind 0 (drop (at + n) body))) (sym s)

-- ---- their bytes

values_first : (first : Element) (others : List Element) → byte_values (first ∷ others) ≡ byte_values (first ∷ []) ++ byte_values others
values_first (item.Byte value) others = refl
values_first item.Wide others = refl
values_first item.Bad others = refl

pub values_go_on : (body rest : List ℕ) (at n : ℕ) → at < length body → rest ≡ drop at body → n ≡ element_length rest
    → byte_values (elements_behind 0 (drop at body)) ≡ byte_values (first_element rest ∷ []) ++ byte_values (elements_behind 0 (drop (at + n) body))
values_go_on body rest at n h r e = ap byte_values (next_elements body rest at n h r e) ∙ values_first (first_element rest) (elements_behind 0 (drop (at + n) body))
