-- Why a unit has no image, where selection has no code for it.
use Rattle.qs_emit_selection.specs.declared.fault.SelectionFault.{SelectionFault}
use Rattle.qs_emit_selection.specs.declared.fault.SelectionFault.TheVariants as selection
use Rattle.qs_compile.specs.declared.fault.BuildFault.{BuildFault}
use Rattle.qs_compile.specs.declared.fault.BuildFault.TheVariants.{NoMemory, TooManyParameters, FrameTooLarge, DataTooLarge}

-- places that are accepted are in no register that there isn't, so that selection has nothing to say against them
abbrev pub fault_of : SelectionFault → BuildFault
fault_of selection.NoMemory = NoMemory
fault_of selection.TooManyArguments = TooManyParameters
fault_of selection.NoRegister = NoMemory
fault_of selection.FrameTooLarge = FrameTooLarge
fault_of selection.DataTooLarge = DataTooLarge
