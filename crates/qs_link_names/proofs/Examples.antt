-- Names of a program.
use Rattle.std.proofs.Common.{◌≡◌, [], ◌∷◌, ◌++◌, codes, refl, ap, ◌∙◌, arith}
use Rattle.std.proofs.lemmas.Fmt.{decimal_digit, decimal_step}
use Rattle.qs_link_names.specs.Linkage.{internal, internal_name, linked_name, hiding}

-- `twice` has internal linkage in the second file
own_name : linked_name (internal 2 (codes "twice" ∷ [])) (codes "twice") ≡ codes "twice__2"
own_name = ap (λ ds. codes "twice" ++ (codes "__" ++ ds)) (decimal_digit 2 (omega arith))

-- `add` has not
other_name : linked_name (internal 2 (codes "twice" ∷ [])) (codes "add") ≡ codes "add"
other_name = refl

-- a local `twice` hides it
hidden_name : linked_name (hiding (internal 2 (codes "twice" ∷ [])) (codes "twice")) (codes "twice") ≡ codes "twice"
hidden_name = refl

last_file : internal_name 64 (codes "x") ≡ codes "x__64"
last_file = ap (λ ds. codes "x" ++ (codes "__" ++ ds)) (decimal_step 64 (omega arith) (omega arith) ∙ ap (λ ds. ds ++ 52 ∷ []) (decimal_digit 6 (omega arith)))
