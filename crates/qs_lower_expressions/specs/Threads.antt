-- No jump leads to a jump: each goes where the jumps that it would lead to go in the end.
use Rattle.std.specs.Prelude.{ℕ, zero, suc, List, length, map, Option, Some, None, unwrap_or}
use Rattle.std.specs.List.{slice_get}
use Rattle.qs_tac.specs.Trees.{InstructionTree, move, unary, binary, convert, address_of, load, store}
use Rattle.qs_tac.specs.Trees.{copy, fill, call, jump, branch, return, TacFunctionTree, TacUnitTree}

-- the index to which an instruction jumps in any case
abbrev pub leads_to : Option InstructionTree → Option ℕ
leads_to None = None
leads_to (Some (jump to)) = Some to
leads_to (Some (move x o)) = None
leads_to (Some (unary op x o)) = None
leads_to (Some (binary op x o p)) = None
leads_to (Some (convert s x o)) = None
leads_to (Some (address_of x p)) = None
leads_to (Some (load s x p)) = None
leads_to (Some (store s p o)) = None
leads_to (Some (copy size alignment p q)) = None
leads_to (Some (fill blank p)) = None
leads_to (Some (call x f arguments)) = None
leads_to (Some (branch c to)) = None
leads_to (Some (return o)) = None

-- where a jump that stands at the index leads, and else the index itself
abbrev pub onward_from : List InstructionTree → (index : ℕ) → ℕ
onward_from code i = unwrap_or (leads_to (slice_get code i)) i

-- where so many jumps lead at most; jumps that lead round in a circle end nowhere
abbrev pub follow : List InstructionTree → (jumps : ℕ) → (index : ℕ) → ℕ
follow code zero i = i
follow code (suc n) i = follow code n (onward_from code i)

abbrev pub retargeted : (ℕ → ℕ) → InstructionTree → InstructionTree
retargeted f (move x o) = move x o
retargeted f (unary op x o) = unary op x o
retargeted f (binary op x o p) = binary op x o p
retargeted f (convert s x o) = convert s x o
retargeted f (address_of x p) = address_of x p
retargeted f (load s x p) = load s x p
retargeted f (store s p o) = store s p o
retargeted f (copy size alignment p q) = copy size alignment p q
retargeted f (fill blank p) = fill blank p
retargeted f (call x g arguments) = call x g arguments
retargeted f (jump to) = jump (f to)
retargeted f (branch c to) = branch c (f to)
retargeted f (return o) = return o

abbrev pub threaded : List InstructionTree → List InstructionTree
threaded code = map (retargeted (follow code (length code))) code

abbrev pub threaded_function : TacFunctionTree → TacFunctionTree
threaded_function f = record f { code = threaded f.code }

abbrev pub threaded_unit : TacUnitTree → TacUnitTree
threaded_unit u = record u { functions = map threaded_function u.functions }
