-- Conversions as far as scalar types go.
use Rattle.std.specs.Prelude.{if◌then◌else◌}
use Rattle.qs_memory.specs.Scalars.{same_scalar}
use Rattle.qs_memory.specs.declared.scalar.Scalar.{Scalar}
use Rattle.qs_meaning.specs.Typed as trees

-- 6.3.1.3, 6.3.2.3
abbrev pub between : (from to : Scalar) → trees.Conversion
between from to = if same_scalar from to then trees.unchanged else trees.converted from to
