-- A punctuator and its spelling.
use Rattle.std.proofs.Common.{◌≡◌, ℕ, Bool, true, false, List, Option, Some, None, refl, ap, bytes_eq, Decides}
use Rattle.std.specs.List.{list_all}
use Rattle.std.proofs.lemmas.Slice.Eq.{bytes_eq-Decides}
use Rattle.qs_base.proofs.Variants.{every, finds, find_passes, variants_exact}
use Rattle.qs_syntax_vocabulary.specs.Punctuators.{punctuator_of, punctuator_spelling, punctuators, same_punctuator}
use Rattle.qs_syntax_vocabulary.specs.contracts.punctuator.Punctuator.{the_type}
use Rattle.qs_syntax_vocabulary.specs.declared.punctuator.Punctuator.{Punctuator}

-- what holds of each punctuator of the list holds of every punctuator
pub each_punctuator : (test : Punctuator → Bool) → list_all test punctuators ≡ true → (punctuator : Punctuator) → test punctuator ≡ true
each_punctuator test h punctuator = every the_type tt punctuators refl test h punctuator

pub same_punctuator_exact : (a b : Punctuator) → Decides (same_punctuator a b) (a ≡ b)
same_punctuator_exact a b = variants_exact the_type tt a b

-- a punctuator is what its spelling is
pub punctuator_of-spelling : (punctuator : Punctuator) → punctuator_of (punctuator_spelling punctuator) ≡ Some punctuator
unfolding punctuator_of
punctuator_of-spelling punctuator = finds the_type tt punctuators refl (λ k x. bytes_eq (punctuator_spelling x) (punctuator_spelling k)) refl punctuator

-- what bytes are has them as its spelling
pub spelling-punctuator_of : (bytes : List ℕ) (punctuator : Punctuator) → punctuator_of bytes ≡ Some punctuator → punctuator_spelling punctuator ≡ bytes
unfolding punctuator_of
spelling-punctuator_of bytes punctuator e = (bytes_eq-Decides (punctuator_spelling punctuator) bytes).0 (find_passes (λ k. bytes_eq (punctuator_spelling k) bytes) punctuators punctuator e)

-- bytes that differ from every spelling in a test are none
pub no_punctuator : (passes : List ℕ → Bool) → list_all (λ k. passes (punctuator_spelling k)) punctuators ≡ true → (bytes : List ℕ) → passes bytes ≡ false → punctuator_of bytes ≡ None
no_punctuator passes each bytes fails = by (punctuator_of bytes) refl
  where
    by : (o : Option Punctuator) → punctuator_of bytes ≡ o → o ≡ None
    by None e = refl
    by (Some k) e =
        let same : passes (punctuator_spelling k) ≡ passes bytes = ap passes (spelling-punctuator_of bytes k e) in
        let passed : passes (punctuator_spelling k) ≡ true = each_punctuator (λ k. passes (punctuator_spelling k)) each k in
        cc
