-- The heads of certificates.
use Rattle.std.specs.Prelude.{ℕ, Bool, true, ◌==◌, codes, List, [], ◌∷◌}
use Rattle.qs_prooftext.specs.declared.rules.Rule.{Rule}
use Rattle.qs_prooftext.specs.declared.rules.Rule.TheVariants.{Same, Via, Pick, All, Parts, Assume, Drop, Split, Contradict, Arithmetic, ByDefinition}
use Rattle.qs_prooftext.specs.declared.rules.FactWord.{FactWord}
use Rattle.qs_prooftext.specs.declared.rules.FactWord.TheVariants.{Range, Apart, NumIs, NumBounds, WrapUnsignedIs, WrapSignedIs, WrapUnsignedBounds, WrapSignedBounds, QuotientBounds, BitsBound, BitsHalf, BitsRise}

abbrev pub rule_words : List (List ℕ × Rule)
rule_words =
    (codes "same", Same) ∷ (codes "via", Via) ∷ (codes "pick", Pick) ∷ (codes "all", All) ∷ (codes "parts", Parts)
    ∷ (codes "assume", Assume) ∷ (codes "drop", Drop) ∷ (codes "split", Split) ∷ (codes "absurd", Contradict)
    ∷ (codes "arith", Arithmetic) ∷ (codes "unfold", ByDefinition) ∷ []

abbrev pub fact_words : List (List ℕ × FactWord)
fact_words =
    (codes "range", Range) ∷ (codes "apart", Apart) ∷ (codes "num", NumIs) ∷ (codes "pos", NumBounds)
    ∷ (codes "wrapu", WrapUnsignedIs) ∷ (codes "wraps", WrapSignedIs) ∷ (codes "boundu", WrapUnsignedBounds)
    ∷ (codes "bounds", WrapSignedBounds) ∷ (codes "div", QuotientBounds) ∷ (codes "bits", BitsBound)
    ∷ (codes "half", BitsHalf) ∷ (codes "mono", BitsRise) ∷ []

-- how many parts are no certificates
abbrev pub rule_leaves : Rule → ℕ
rule_leaves Same = 0
rule_leaves Via = 1
rule_leaves Pick = 1
rule_leaves All = 0
rule_leaves Parts = 0
rule_leaves Assume = 0
rule_leaves Drop = 0
rule_leaves Split = 1
rule_leaves Contradict = 1
rule_leaves Arithmetic = 1
rule_leaves ByDefinition = 1

abbrev pub rule_takes : Rule → (n : ℕ) → Bool
rule_takes Same n = n == 0
rule_takes Via n = n == 3
rule_takes Pick n = n == 2
rule_takes All n = true
rule_takes Parts n = true
rule_takes Assume n = n == 1
rule_takes Drop n = n == 2
rule_takes Split n = n == 3
rule_takes Contradict n = n == 1
rule_takes Arithmetic n = n == 1
rule_takes ByDefinition n = n == 2

-- a fact is followed by one certificate
abbrev pub fact_leaves : FactWord → ℕ
fact_leaves Range = 1
fact_leaves Apart = 2
fact_leaves NumIs = 2
fact_leaves NumBounds = 1
fact_leaves WrapUnsignedIs = 3
fact_leaves WrapSignedIs = 3
fact_leaves WrapUnsignedBounds = 1
fact_leaves WrapSignedBounds = 1
fact_leaves QuotientBounds = 2
fact_leaves BitsBound = 1
fact_leaves BitsHalf = 2
fact_leaves BitsRise = 3
