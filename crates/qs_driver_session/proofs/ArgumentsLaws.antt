-- Arguments that are tested one after the other.
use Rattle.std.proofs.Common.{◌≡◌, ℕ, ◌+◌, ◌<◌, ℤ, List, [], ◌∷◌, ◌++◌, length, take, drop, get_or, true, false, Some, if◌then◌else◌, sym, ◌∙◌, ap, add-one}
use Rattle.std.proofs.lemmas.List.{drop_more, map-append}
use Rattle.std.proofs.Math.Seq.{take-suc}
use Rattle.qs_base.specs.Words.{wrap}
use Rattle.qs_image.specs.Image.{Image}
use Rattle.qs_machine.specs.Arguments.{fits_parameter, first_misfit, words_of}

-- the first i arguments fit, and these are their words
pub record Passed (image : Image) (args : List ℤ) (i : ℕ) (words : List ℕ) : Type 0 where
  pub words_are : words ≡ words_of (take i args)
  pub rest : first_misfit image 0 args ≡ first_misfit image i (drop i args)

next_misfit : (image : Image) (args : List ℤ) (i : ℕ) (z d : ℤ) → z ≡ get_or args i d → i < length args → first_misfit image i (drop i args) ≡ (if fits_parameter image i z then first_misfit image (i + 1) (drop (i + 1) args) else Some i)
next_misfit image args i z d e h = ap (first_misfit image i) (drop_more args i d h) ∙ ap (λ x. if fits_parameter image i x then first_misfit image (i + 1) (drop (i + 1) args) else Some i) (sym e)

next_words : (args : List ℤ) (i : ℕ) (z d : ℤ) → z ≡ get_or args i d → i < length args → words_of (take (i + 1) args) ≡ words_of (take i args) ++ wrap z ∷ []
next_words args i z d e h =
    ap (λ n. words_of (take n args)) (add-one i) ∙ ap words_of (take-suc args i d h)
    ∙ map-append wrap (take i args) (get_or args i d ∷ [])
    ∙ ap (λ y. words_of (take i args) ++ wrap y ∷ []) (sym e)

pub passed_more : (image : Image) (args : List ℤ) (i : ℕ) (words : List ℕ) (z d : ℤ) → z ≡ get_or args i d → i < length args → fits_parameter image i z ≡ true → Passed image args i words → Passed image args (i + 1) (words ++ wrap z ∷ [])
passed_more image args i words z d e h fits p = record {
  words_are = ap (λ w. w ++ wrap z ∷ []) p.words_are ∙ sym (next_words args i z d e h);
  rest = p.rest ∙ next_misfit image args i z d e h ∙ ap (λ b. if b then first_misfit image (i + 1) (drop (i + 1) args) else Some i) fits;
}

pub misfit_at : (image : Image) (args : List ℤ) (i : ℕ) (words : List ℕ) (z d : ℤ) → z ≡ get_or args i d → i < length args → fits_parameter image i z ≡ false → Passed image args i words → first_misfit image 0 args ≡ Some i
misfit_at image args i words z d e h misfit p =
    p.rest ∙ next_misfit image args i z d e h ∙ ap (λ b. if b then first_misfit image (i + 1) (drop (i + 1) args) else Some i) misfit
