-- The linear code of a unit of core.
use Rattle.std.specs.Prelude.{◌≡◌, ℕ, ◌+◌, Bool, true, false, List, [], ◌∷◌, ◌++◌, length, map, None}
use Rattle.qs_core.specs.Trees.{CoreParameterTree, CoreFunctionTree, DataBlockTree, CoreUnitTree}
use Rattle.qs_calls.specs.declared.parameter.Parameter.{Parameter}
use Rattle.qs_core.specs.Units.{data_block}
use Rattle.qs_core.specs.TreeOf as core
use Rattle.qs_core.specs.declared.units.CoreParameter.{CoreParameter}
use Rattle.qs_core.specs.declared.units.CoreFunction.{CoreFunction}
use Rattle.std.specs.declared.alloc.Global.{Global}
use Rattle.std.specs.declared.vec.Vec.{Vec}
use Rattle.qs_tac.specs.TreeOf.{function_trees}
use Rattle.qs_tac.specs.declared.units.TacFunction.{TacFunction}
use Rattle.qs_tac.specs.Trees.{InstructionTree, return, TacFunctionTree, TacUnitTree}
use Rattle.qs_tac.specs.declared.units.TacData.{TacData}
use Rattle.qs_lower_expressions.specs.Exits.{falls, goes}
use Rattle.qs_lower.specs.Statements.{next_falls, StmtCode, stmts_code}
use Rattle.qs_lower_expressions.specs.Threads.{threaded_function, threaded_unit}

-- the first temporary that is neither a variable nor a temporary of core
abbrev pub free_from : CoreFunctionTree → ℕ
free_from f = length f.variables + length f.temporaries

abbrev pub body_code : CoreFunctionTree → StmtCode
body_code f = stmts_code (length f.variables) (free_from f) f.body

-- 6.9.1p12: a body that ends returns no value
abbrev pub end_code : (ends : Bool) → List InstructionTree
end_code true = []
end_code false = return None ∷ []

-- no break stands outside every loop and switch, and no continue outside every loop
abbrev pub code_of_body : StmtCode → List InstructionTree
code_of_body b =
    let end = b.part.size next_falls in
    b.part.code (record { next = falls end; on_break = goes (end + 1); on_continue = goes (end + 1) }) 0 ++ end_code b.ends

abbrev pub function_code : CoreFunctionTree → List InstructionTree
function_code f = code_of_body (body_code f)

abbrev pub parameter_places : List CoreParameterTree → List Parameter
parameter_places parameters = map (λ p. p.place) parameters

abbrev pub places_of : List CoreParameter → List Parameter
places_of parameters = parameter_places (map core.parameter_tree parameters)

-- before its jumps are threaded
abbrev pub straight_function : CoreFunctionTree → TacFunctionTree
straight_function f = record {
  parameters = parameter_places f.parameters;
  temporaries = free_from f + (body_code f).used;
  blocks = f.blocks;
  code = function_code f;
}

abbrev pub lowered_function : CoreFunctionTree → TacFunctionTree
lowered_function f = threaded_function (straight_function f)

abbrev pub lower_functions : List CoreFunctionTree → List TacFunctionTree
lower_functions functions = map threaded_function (map straight_function functions)

abbrev pub AreLowered : List CoreFunction → Vec TacFunction Global → Type 0
AreLowered functions lowered = function_trees lowered.items ≡ lower_functions (core.function_trees functions)

abbrev pub lower_data : DataBlockTree → TacData
lower_data d = record { size = (data_block d).size; is_writable = d.is_writable }

abbrev pub straight_unit : CoreUnitTree → TacUnitTree
straight_unit u =
    record { functions = map straight_function u.functions; main = u.main; data_blocks = map lower_data u.data_blocks }

abbrev pub lower_unit : CoreUnitTree → TacUnitTree
lower_unit u = threaded_unit (straight_unit u)
