-- What the code of a function depends on, as the program has it.
use Rattle.std.specs.Prelude.{ℕ, Bool, List, Option}
use Rattle.qs_memory.specs.Memory.{BlankTree}
use Rattle.qs_memory.specs.declared.operation.Direction.{Direction}
use Rattle.qs_calls.specs.declared.callee.Callee.{Callee}
use Rattle.qs_calls.specs.declared.parameter.Parameter.{Parameter}
use Rattle.qs_isa.specs.declared.instruction.Instr.{Instr}
use Rattle.qs_asm.specs.declared.item.Item.{Item}
use Rattle.qs_tac.specs.Trees.{InstructionTree, copy, fill, call}
use Rattle.qs_tac.specs.Fits.{instruction_fits}
use Rattle.qs_tac.specs.declared.operands.Operand.{Operand}
use Rattle.qs_tac.specs.declared.operands.Address.{Address}
use Rattle.qs_tac.specs.TreeOf.{function_tree}
use Rattle.qs_tac.specs.UnitTrees.{unit_tree}
use Rattle.qs_tac.specs.Places.{places_tree}
use Rattle.qs_emit_selection.specs.declared.context.FunctionContext.{FunctionContext}
use Rattle.qs_emit_selection.specs.Data.{data_address}
use Rattle.qs_emit_selection.specs.Operands.{Context, Anchor, behind_pointer, based, anchor_of}
use Rattle.qs_emit_selection.specs.Operations.{moved, constant_of}
use Rattle.qs_emit_selection.specs.Emission.{Labels, labels_of, take_from_register, take_from_stack, take_parameter, take_parameters}
use Rattle.qs_emit_selection.specs.Emission.{stack_argument, register_argument}
use Rattle.qs_emit_selection.specs.Emission.{instruction_items, items_at, body_items, function_items}

abbrev pub context_tree : FunctionContext → Context
context_tree c = record {
  function = function_tree c.function.now;
  places = places_tree c.places.now;
  data_at = data_address c.unit.now.data_blocks.items;
}

abbrev pub labels_tree : FunctionContext → Labels
labels_tree c = labels_of (unit_tree c.unit.now) c.number

-- ---- addresses, and a pointer that is moved

abbrev pub reach_behind : FunctionContext → (displacement : ℕ) → Operand → Anchor
reach_behind c displacement o = behind_pointer (context_tree c) displacement o

abbrev pub base_anchor : FunctionContext → (displacement : ℕ) → Operand → Anchor
base_anchor c displacement o = based (context_tree c) displacement o

abbrev pub address_anchor : FunctionContext → Address → Anchor
address_anchor c p = anchor_of (context_tree c) p

abbrev pub moved_code : FunctionContext → Direction → (element rd : ℕ) → (x y : Operand) → List Instr
moved_code c direction element rd x y = moved (context_tree c) direction element rd x y (constant_of y)

-- ---- parameters

abbrev pub from_register : FunctionContext → (register : ℕ) → Parameter → List Instr
from_register c register p = take_from_register (context_tree c) register p

abbrev pub from_stack : FunctionContext → (offset : ℕ) → Parameter → List Instr
from_stack c offset p = take_from_stack (context_tree c) offset p

abbrev pub parameter_code : FunctionContext → (i : ℕ) → Parameter → List Instr
parameter_code c i p = take_parameter (context_tree c) i p

abbrev pub parameters_code : FunctionContext → List Parameter → List Instr
parameters_code c parameters = take_parameters (context_tree c) 0 parameters

-- ---- arguments

abbrev pub on_stack : FunctionContext → (i : ℕ) → Operand → List Instr
on_stack c i o = stack_argument (context_tree c) i o

abbrev pub in_register : FunctionContext → (i : ℕ) → Operand → List Instr
in_register c i o = register_argument (context_tree c) i o

-- ---- instructions

abbrev pub fits_in : FunctionContext → InstructionTree → Bool
fits_in c i = instruction_fits (unit_tree c.unit.now) (context_tree c).function i

abbrev pub items_of : FunctionContext → InstructionTree → List Item
items_of c i = instruction_items (context_tree c) (labels_tree c) i

abbrev pub copy_items : FunctionContext → (size alignment : ℕ) → (to from : Address) → List Item
copy_items c size alignment to from = items_of c (copy size alignment to from)

abbrev pub fill_items : FunctionContext → BlankTree → (to : Address) → List Item
fill_items c blank to = items_of c (fill blank to)

abbrev pub call_items : FunctionContext → Option ℕ → Callee → List Operand → List Item
call_items c x callee arguments = items_of c (call x callee arguments)

-- of an instruction that is the last one or not
abbrev pub placed_items : FunctionContext → (is_last : Bool) → InstructionTree → List Item
placed_items c is_last i = items_at (context_tree c) (labels_tree c) is_last i

-- those of the function, behind its label, and those of its instructions
abbrev pub whole_items : FunctionContext → List Item
whole_items c = function_items (context_tree c) (labels_tree c) c.number

abbrev pub code_items : FunctionContext → List Item
code_items c = body_items (context_tree c) (labels_tree c) 0 (context_tree c).function.code
