-- What is promised of images of units of core.
use Rattle.std.specs.Prelude.{◌≡◌, true}
use Rattle.qs_core.specs.Trees.{CoreUnitTree}
use Rattle.qs_core.specs.Fits.{unit_fits}
use Rattle.qs_image.specs.Image.{Image}
use Rattle.qs_emit.specs.Images.{IsWithinLimits}
use Rattle.qs_compile.specs.Units.{IsWithinSizes, MainReturns}
use Rattle.qs_compile.specs.Built.{IsBuiltFrom}
use Rattle.qs_compile.specs.AgreesWithCore.{DoesAsCore}

abbrev pub ImagesDoAsCore : Type 0
ImagesDoAsCore =
    (u : CoreUnitTree) (image : Image) → unit_fits u ≡ true → IsWithinSizes u image → MainReturns u → IsBuiltFrom u image
    → IsWithinLimits image → DoesAsCore u image
