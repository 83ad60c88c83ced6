-- What an image of a unit of core is.
use Rattle.std.specs.Prelude.{◌≡◌, ℕ, List, length, map, Some}
use Rattle.std.specs.List.{slice_get}
use Rattle.qs_memory.specs.Scalars.{is_type}
use Rattle.qs_memory.specs.declared.scalar.Scalar.TheVariants as scalars
use Rattle.qs_core.specs.Trees.{CoreUnitTree}
use Rattle.qs_core.specs.Units.{initial_memory}
use Rattle.qs_core.specs.Interfaces.{main_types}
use Rattle.qs_image.specs.Image.{Image}
use Rattle.qs_image.specs.declared.version.Version.TheVariants.{Second}
use Rattle.qs_tac.specs.Laws.{ArePacked}
use Rattle.qs_tac.specs.Places.{PlacesTree}
use Rattle.qs_machine.specs.Arguments.{is_unsigned}
use Rattle.qs_emit_selection.specs.Limits.{UnitFits}
use Rattle.qs_emit.specs.Images.{IsImageOf}
use Rattle.qs_compile.specs.Units.{linear}

-- it is of version 2, its records are the unit's functions in order with their counts of parameters, its parameters main's,
-- and its code, its costs and its data those of the unit's linear code, whose values stand in some places that are packed:
-- they keep what it does, and leave no register empty where a value in a slot could stand
pub record IsBuiltFrom (u : CoreUnitTree) (image : Image) : Type 0 where
  pub places : List PlacesTree
  pub packed : ArePacked (linear u) places
  -- with these places each frame, each list of arguments and the data are within their limits
  pub fits : UnitFits (linear u) places
  pub version : image.version ≡ Second
  pub names : map (λ f. f.name) image.functions ≡ map (λ f. f.name) u.functions
  pub counts : map (λ f. f.parameters) image.functions ≡ map (λ f. Some (length f.parameters)) u.functions
  pub parameters : image.parameters ≡ length (main_types u)
  pub unsigned : (i : ℕ) → is_unsigned image i ≡ is_type (slice_get (main_types u) i) scalars.Unsigned
  pub code : IsImageOf (linear u) places (initial_memory u) image
