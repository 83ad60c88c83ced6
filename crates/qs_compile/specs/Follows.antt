-- Code whose runs follow those of a source, and what a machine that does what the code does therefore does.
use Rattle.std.specs.Prelude.{◌≡◌, ℕ}
use Rattle.qs_events.specs.Runs.{Run, Within, bounded}
use Rattle.qs_events.specs.Weights.{Costs}
use Rattle.qs_machine.specs.Run.{Outcome}
use Rattle.qs_emit.specs.Agree.{Agree, Accounts}

-- each run of the source is one of the code, within some number of steps, and each run of the code is the source's within
-- its own number
pub record Follows {End : Type 0} (source code : ℕ → Run End) : Type 0 where
  pub forth : (n : ℕ) → (m : ℕ) × (code m ≡ source n)
  pub back : (m : ℕ) → Within (code m) (source m)

-- a machine that does what the code does, does what the source does
abbrev pub AgreementGoesThrough : (End : Type 0) → Type 0
AgreementGoesThrough End =
    (status : End → ℕ) (source code : ℕ → Run End) (machine : ℕ → Outcome) → Follows source code
    → Agree (λ m. bounded status (code m)) machine → Agree (λ n. bounded status (source n)) machine

-- and takes as much of the stack
abbrev pub AccountsGoThrough : (End : Type 0) → Type 0
AccountsGoThrough End =
    (status : End → ℕ) (source code : ℕ → Run End) (machine : ℕ → Outcome) (costs : Costs) (least : ℕ → ℕ)
    → Follows source code → Accounts costs (λ m. bounded status (code m)) machine least
    → Accounts costs (λ n. bounded status (source n)) machine least
