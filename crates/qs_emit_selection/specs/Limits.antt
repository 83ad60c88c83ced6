-- What machine code is selected for, and the first reason why it isn't.
use Rattle.std.specs.Prelude.{◌≡◌, ℕ, ◌+◌, ◌&&◌, nat_lt, nat_le, Bool, true, if◌then◌else◌, List, [], ◌∷◌, length, Option, Some, None, slice_get, slice_index_or}
use Rattle.std.specs.List.{list_all}
use Rattle.std.specs.Option.{option_or}
use Rattle.qs_base.specs.Parameters.{most_main_parameters, most_parameters}
use Rattle.qs_tac.specs.Trees.{InstructionTree, move, unary, binary, convert, address_of, load, store}
use Rattle.qs_tac.specs.Trees.{copy, fill, call, jump, branch, return, TacFunctionTree, TacUnitTree}
use Rattle.qs_tac.specs.Places.{PlacesTree, no_places}
use Rattle.qs_tac.specs.declared.places.Place.{Place}
use Rattle.qs_tac.specs.declared.places.Place.TheVariants.{Slot, Register}
use Rattle.qs_frames.specs.Layout.{total, layout, largest_frame}
use Rattle.qs_emit_selection.specs.Data.{data_sizes}
use Rattle.qs_emit_selection.specs.declared.fault.SelectionFault.{SelectionFault}
use Rattle.qs_emit_selection.specs.declared.fault.SelectionFault.TheVariants as faults

-- ---- parameters and arguments: a call passes as many as a function has, at most

abbrev pub most_arguments : ℕ
most_arguments = most_parameters

abbrev pub passes_few : InstructionTree → Bool
passes_few (move x o) = true
passes_few (unary op x o) = true
passes_few (binary op x o p) = true
passes_few (convert s x o) = true
passes_few (address_of x p) = true
passes_few (load s x p) = true
passes_few (store s p o) = true
passes_few (copy size alignment p q) = true
passes_few (fill b p) = true
passes_few (call x f arguments) = nat_le (length arguments) most_arguments
passes_few (jump to) = true
passes_few (branch c to) = true
passes_few (return o) = true

abbrev pub has_few : TacFunctionTree → Bool
has_few f = nat_le (length f.parameters) most_arguments && list_all passes_few f.code

-- main is given its arguments in registers, as a run starts
abbrev pub starts_with_few : Option TacFunctionTree → Bool
starts_with_few None = true
starts_with_few (Some f) = nat_le (length f.parameters) most_main_parameters

abbrev pub main_has_few : TacUnitTree → Bool
main_has_few u = starts_with_few (slice_get u.functions u.main)

-- ---- places: a register is one of 32

abbrev pub place_fits : Place → Bool
place_fits (Slot k) = true
place_fits (Register r) = nat_lt r 32

abbrev pub places_fit : PlacesTree → Bool
places_fit p = list_all place_fits p.at

-- ---- frames and data, in bytes: as many data as an image holds, `most_data_bytes` of qs_image, on which nothing here stands

abbrev pub frame_fits : TacFunctionTree → PlacesTree → Bool
frame_fits f p = nat_le (layout f p).cost largest_frame

abbrev pub largest_data : ℕ
largest_data = 16777216

abbrev pub sizes_fit : (sizes : List ℕ) → Bool
sizes_fit sizes = nat_le (total sizes) largest_data

abbrev pub data_fit : TacUnitTree → Bool
data_fit u = sizes_fit (data_sizes u.data_blocks)

-- ---- the first reason

abbrev pub function_fault : TacFunctionTree → PlacesTree → Option SelectionFault
function_fault f p =
    if has_few f then
    (if places_fit p then (if frame_fits f p then None else Some faults.FrameTooLarge) else Some faults.NoRegister)
    else Some faults.TooManyArguments

abbrev pub FunctionFits : TacFunctionTree → PlacesTree → Type 0
FunctionFits f p = function_fault f p ≡ None

-- of functions, the first of which has this number
abbrev pub functions_fault : List PlacesTree → (f : ℕ) → List TacFunctionTree → Option SelectionFault
functions_fault ps f [] = None
functions_fault ps f (g ∷ functions) =
    option_or (function_fault g (slice_index_or ps f no_places)) (functions_fault ps (f + 1) functions)

abbrev pub first_fault : TacUnitTree → List PlacesTree → Option SelectionFault
first_fault u ps =
    if data_fit u then
    (if main_has_few u then functions_fault ps 0 u.functions else Some faults.TooManyArguments)
    else Some faults.DataTooLarge

-- all functions of the unit fit
abbrev pub FunctionsFit : TacUnitTree → List PlacesTree → Type 0
FunctionsFit u ps = functions_fault ps 0 u.functions ≡ None

-- and its data do too
abbrev pub UnitFits : TacUnitTree → List PlacesTree → Type 0
UnitFits u ps = first_fault u ps ≡ None
