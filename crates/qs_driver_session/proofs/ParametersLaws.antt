-- What is said of arguments depends on main's parameters alone.
use Rattle.std.proofs.Common.{◌≡◌, ℕ, ◌+◌, ℤ, List, [], ◌∷◌, Some, if◌then◌else◌, refl, sym, ◌∙◌, ap}
use Rattle.std.specs.Prelude.{Result, Ok, Err, Vec}
use Rattle.std.specs.declared.alloc.Global.{Global}
use Rattle.qs_image.specs.Image.{Image}
use Rattle.qs_machine.specs.Arguments.{fits_parameter, first_misfit}
use Rattle.qs_driver_session.specs.Arguments.{image_with, LacksWords, FindsWords}
use Rattle.qs_driver_session.specs.Arguments as meant
use Rattle.qs_driver_session.specs.declared.arguments.Parameters.{Parameters}
use Rattle.qs_driver_session.specs.declared.status.Status.{Status}

-- the image has these parameters
pub record HasParameters (image : Image) (p : Parameters) : Type 0 where
  pub count : image.parameters ≡ p.count
  pub unsigned_set : image.unsigned_set ≡ p.unsigned_set

same_fits : (image : Image) (p : Parameters) (i : ℕ) (z : ℤ) → HasParameters image p → fits_parameter (image_with p) i z ≡ fits_parameter image i z
same_fits image p i z h = let e = h.unsigned_set in cc

same_misfit : (image : Image) (p : Parameters) (i : ℕ) (zs : List ℤ) → HasParameters image p → first_misfit (image_with p) i zs ≡ first_misfit image i zs
same_misfit image p i [] h = refl
same_misfit image p i (z ∷ zs) h =
    ap (λ b. if b then first_misfit (image_with p) (i + 1) zs else Some i) (same_fits image p i z h)
    ∙ ap (λ rest. if fits_parameter image i z then rest else Some i) (same_misfit image p (i + 1) zs h)

lacks_words : (image : Image) (p : Parameters) (args : List ℤ) (status : Status) → HasParameters image p → LacksWords (image_with p) args status → LacksWords image args status
lacks_words image p args status h (meant.count_differs d e) =
    let same = h.count in
    meant.count_differs (λ x. d (x ∙ same)) (rw same e)
lacks_words image p args status h (meant.misfit i n f e) =
    meant.misfit i (n ∙ sym h.count) (sym (same_misfit image p 0 args h) ∙ f) e
lacks_words image p args status h (meant.no_memory e) = meant.no_memory e

pub finds_words : (image : Image) (p : Parameters) (args : List ℤ) (answer : Result (Vec ℕ Global) Status) → HasParameters image p → FindsWords (image_with p) args answer → FindsWords image args answer
finds_words image p args (Ok words) h found = record {
  arguments = record {
    count = found.arguments.count ∙ sym h.count;
    fit = sym (same_misfit image p 0 args h) ∙ found.arguments.fit;
  };
  words_are = found.words_are;
}
finds_words image p args (Err status) h found = lacks_words image p args status h found
