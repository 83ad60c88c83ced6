-- The trees that the program's values stand for.
use Rattle.std.specs.Prelude.{List, map}
use Rattle.qs_memory.specs.BlankOf.{blank_tree}
use Rattle.qs_tac.specs.Trees.{InstructionTree, move, unary, binary, convert, address_of, load, store}
use Rattle.qs_tac.specs.Trees.{copy, fill, call, jump, branch, return, TacFunctionTree}
use Rattle.qs_tac.specs.declared.instruction.Instruction.{Instruction}
use Rattle.qs_tac.specs.declared.instruction.Instruction.TheVariants as instructions
use Rattle.qs_tac.specs.declared.units.TacFunction.{TacFunction}

abbrev pub instruction_tree : Instruction → InstructionTree
instruction_tree (instructions.Move x a) = move x a
instruction_tree (instructions.Unary op x a) = unary op x a
instruction_tree (instructions.Binary op x a b) = binary op x a b
instruction_tree (instructions.Convert s x a) = convert s x a
instruction_tree (instructions.AddressOf x p) = address_of x p
instruction_tree (instructions.Load s x p) = load s x p
instruction_tree (instructions.Store s p a) = store s p a
instruction_tree (instructions.Copy size alignment p q) = copy size alignment p q
instruction_tree (instructions.Fill b p) = fill (blank_tree b) p
instruction_tree (instructions.Call x f arguments) = call x f arguments.items
instruction_tree (instructions.Jump to) = jump to
instruction_tree (instructions.Branch c to) = branch c to
instruction_tree (instructions.Return a) = return a

abbrev pub function_tree : TacFunction → TacFunctionTree
function_tree f = record {
  parameters = f.parameters.items;
  temporaries = f.temporaries;
  blocks = f.blocks.items;
  code = map instruction_tree f.code.items;
}

abbrev pub function_trees : List TacFunction → List TacFunctionTree
function_trees functions = map function_tree functions
