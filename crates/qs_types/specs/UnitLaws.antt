-- What is promised of the rules and limits of a unit, apart from how they are computed.
use Rattle.std.specs.Prelude.{ℕ}
use Rattle.qs_syntax.specs.Trees.{UnitTree}
use Rattle.qs_syntax.specs.Units.{IsRead}
use Rattle.qs_types.specs.declared.rules.Rule.{Rule}
use Rattle.qs_types.specs.UnitRules.{KeepsRules, Violates}
use Rattle.qs_types.specs.Limits.{KeepsLimits, IsWithinLimits}

-- no node of a unit violates a rule
abbrev pub HasNoViolation : UnitTree → Type 0
HasNoViolation unit = (node : ℕ) (rule : Rule) → Violates unit node rule → ⊥

-- a unit keeps the rules exactly where no node violates one
pub record KeepsUnviolated (unit : UnitTree) : Type 0 where
  pub none_violated : KeepsRules unit → HasNoViolation unit
  pub all_kept : HasNoViolation unit → KeepsRules unit

abbrev pub RulesAreKept : Type 0
RulesAreKept = (unit : UnitTree) → KeepsUnviolated unit

-- no node of a unit that has a reading is the first past a limit exactly where each count is at most its limit
pub record KeepsCounted (unit : UnitTree) : Type 0 where
  pub counts_within : IsRead unit → IsWithinLimits unit → KeepsLimits unit
  pub none_past : KeepsLimits unit → IsWithinLimits unit

abbrev pub LimitsAreKept : Type 0
LimitsAreKept = (unit : UnitTree) → KeepsCounted unit
