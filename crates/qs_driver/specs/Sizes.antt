-- The sizes that an image has room for: no source passes one.
use Rattle.std.specs.Prelude.{◌≡◌, ℕ, ◌≤◌, true, List, length, Some}
use Rattle.std.specs.List.{list_all}
use Rattle.qs_syntax.specs.Trees.{UnitTree}
use Rattle.qs_syntax_vocabulary.specs.WellFormed.{is_byte}
use Rattle.qs_core.specs.Trees.{CoreUnitTree}
use Rattle.qs_elaborate_bodies.specs.Units.{core_of}
use Rattle.qs_compile.specs.Limits.{Passes}
use Rattle.qs_compile.specs.declared.fault.BuildFault.{BuildFault}
use Rattle.qs_compile.specs.declared.fault.BuildFault.TheVariants.{NoMemory}
use Rattle.qs_driver_session.specs.Limits.{source_limit}
use Rattle.qs_driver_session.specs.Source.{IsTypedAs}

-- Bytes within the limit of a source that are a unit which is well typed and within the limits: where its core has no
-- image, memory is wanting.
abbrev pub SourcesPassNoSize : Type 0
SourcesPassNoSize =
    (text : List ℕ) (unit : UnitTree) (core : CoreUnitTree) (fault : BuildFault)
    → list_all is_byte text ≡ true
    → length text ≤ source_limit → IsTypedAs text unit → core_of unit ≡ Some core
    → Passes core fault → fault ≡ NoMemory
