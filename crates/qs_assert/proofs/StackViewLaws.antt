-- A stack whose items are seen as others.
use Rattle.std.proofs.Common.{◌≡◌, List, [], ◌∷◌, ◌++◌, map, reverse, refl, sym, ap, ◌∙◌}
use Rattle.std.proofs.lemmas.List.{map-append, reverse-append}
use Rattle.qs_assert.specs.Reading.{others}
use Rattle.qs_assert.specs.Stacks.{first_or}

pub mapped_first : {A B : Type 0} (see : A → B) (otherwise : A) (xs : List A) → first_or (see otherwise) (map see xs) ≡ see (first_or otherwise xs)
mapped_first see otherwise [] = refl
mapped_first see otherwise (x ∷ xs) = refl

pub mapped_others : {A B : Type 0} (see : A → B) (xs : List A) → others (map see xs) ≡ map see (others xs)
mapped_others see [] = refl
mapped_others see (x ∷ xs) = refl

pub mapped_reverse : {A B : Type 0} (see : A → B) (xs : List A) → reverse (map see xs) ≡ map see (reverse xs)
mapped_reverse see [] = refl
mapped_reverse {B = B} see (x ∷ xs) =
    reverse-append (see x ∷ []) (map see xs) ∙ (ap (λ (ys : List B). ys ++ see x ∷ []) (mapped_reverse see xs) ∙ (sym (map-append see (reverse xs) (x ∷ [])) ∙ ap (map see) (sym (reverse-append (x ∷ []) xs))))
