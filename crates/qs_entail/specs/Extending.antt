-- What is kept where conditions are pushed.
use Rattle.std.specs.Prelude.{◌≡◌, ℕ, length, take, Bool, true, false, Result, Ok}
use Rattle.qs_base.specs.Results.{bind}
use Rattle.qs_assert.specs.Trees.{CondTree, not}
use Rattle.qs_entail.specs.Building.{Stop}
use Rattle.qs_entail.specs.Certificates.{FactTree}
use Rattle.qs_entail.specs.Facts.{added}
use Rattle.qs_entail.specs.Faults.{done}
use Rattle.qs_entail.specs.Pushing.{Known, with_polynomials, push, push_not}

-- a condition or its negation is pushed
abbrev pub pushed : Bool → CondTree → Known → Result Known Stop
pushed false c k = push c k
pushed true c k = push_not c k

-- whether a condition can be pushed, or its negation
abbrev pub trial : Bool → CondTree → Known → Result (Unit {0}) Stop
trial negated c k = bind (pushed negated c k) (λ _. done)

-- whether a condition can be pushed, and its negation
abbrev pub both_trials : CondTree → Known → Result (Unit {0}) Stop
both_trials c k = bind (push c k) (λ _. bind (push (not c) k) (λ _. done))

-- the polynomials of a fact are added
abbrev pub with_fact : FactTree → Known → Result Known Stop
with_fact f k = bind (added f k) (λ ps. Ok (with_polynomials ps k))

-- the first of what is known, so many conditions and so many polynomials
abbrev pub known_first : ℕ → ℕ → Known → Known
known_first n m k = record { conditions = take n k.conditions; polynomials = take m k.polynomials }

-- what was known stays in front
pub record Extends (old new : Known) : Type 0 where
  pub conditions : take (length old.conditions) new.conditions ≡ old.conditions
  pub polynomials : take (length old.polynomials) new.polynomials ≡ old.polynomials
