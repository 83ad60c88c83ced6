-- A list of numbers, part by part.
use Rattle.std.proofs.Common.{◌≡◌, ◌∙◌, ℕ, ◌+◌, ◌<◌, ℤ, refl, sym, ap, List, [], ◌∷◌, ◌++◌, Option, Some, None, map, drop, get_or, length, drop-cons, add-one, append_assoc, option_map}
use Rattle.qs_cli.specs.Words.{Text}
use Rattle.qs_cli.specs.Numbers.{signed_of, all_signed_of, onto}

pub all_signed_step : {X : Type 0} (f : X → Text) (xs : List X) (i : ℕ) (d : X) (z : ℤ) (before after : List ℤ) (all : Option (List ℤ)) → i < length xs
    → signed_of (f (get_or xs i d)) ≡ Some z → after ≡ before ++ z ∷ []
    → option_map (λ more. before ++ more) (all_signed_of (map f (drop i xs))) ≡ all
    → option_map (λ more. after ++ more) (all_signed_of (map f (drop (i + 1) xs))) ≡ all
all_signed_step f xs i d z before after all lt is more inv =
    let parts : drop i xs ≡ get_or xs i d ∷ drop (i + 1) xs = drop-cons xs i d lt ∙ ap (λ n. get_or xs i d ∷ drop n xs) (sym (add-one i)) in
    ap (λ ys. option_map (λ rest. ys ++ rest) (all_signed_of (map f (drop (i + 1) xs)))) more
    ∙ moved (all_signed_of (map f (drop (i + 1) xs)))
    ∙ sym (ap (λ ys. option_map (λ rest. before ++ rest) (all_signed_of (map f ys))) parts
    ∙ ap (λ o. option_map (λ rest. before ++ rest) (onto o (all_signed_of (map f (drop (i + 1) xs))))) is)
    ∙ inv
  where
    moved : (o : Option (List ℤ)) → option_map (λ rest. (before ++ z ∷ []) ++ rest) o ≡ option_map (λ rest. before ++ rest) (onto (Some z) o)
    moved None = refl
    moved (Some rest) = ap (λ (zs : List ℤ). Some zs) (append_assoc before (z ∷ []) rest)
