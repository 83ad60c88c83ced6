-- A sample's source is a unit that keeps the typing rules and is within the limits.
use Rattle.std.proofs.Common.{ℕ, ◌<◌, ◌≤◌}
use Rattle.qs_driver_session.specs.SampleSource.{sample_text}
use Rattle.qs_driver_session.specs.Source.{IsTypedUnit}
use Rattle.qs_driver_session.proofs.SampleTrees.{IsTail}
use Rattle.qs_driver_session.proofs.SampleUnits.{IsSampleUnit, sample_is_unit}
use Rattle.qs_driver_session.proofs.SampleTyped.{is_well_typed}
use Rattle.qs_driver_session.proofs.SampleLimits.{is_within_limits}

-- the source of the sample of this number is a typed unit whose tree has the form of samples
pub record IsTypedSample (n : ℕ) : Type 0 where
  pub typed : IsTypedUnit (sample_text n)
  pub shape : IsTail 0 n typed.unit.trees

pub sample_is_typed : (n : ℕ) → 1 ≤ n → n < 512 → IsTypedSample n
sample_is_typed n l h =
    let is : IsSampleUnit n = sample_is_unit n h in
    record {
      typed = record {
        unit = is.unit;
        well_typed = is_well_typed n is.unit.trees l h is.shape;
        within_limits = is_within_limits n is.unit.trees h is.shape;
      };
      shape = is.shape;
    }
