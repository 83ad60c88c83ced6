-- What is put behind items.
use Rattle.std.specs.Prelude.{◌≡◌, ℕ, List, ◌++◌}
use Rattle.std.specs.declared.alloc.Global.{Global}
use Rattle.std.specs.declared.vec.Vec.{Vec}
use Rattle.qs_memory.specs.declared.operation.Direction.{Direction}
use Rattle.qs_isa.specs.declared.instruction.Instr.{Instr}
use Rattle.qs_asm.specs.declared.item.Item.{Item}
use Rattle.qs_asm.specs.Items.{plain}
use Rattle.qs_emit_selection.specs.Operations.{move_by_elements}

-- these items
abbrev pub Puts : Vec Item Global → Vec Item Global → List Item → Type 0
Puts before after items = after.items ≡ before.items ++ items

-- these instructions, each as itself
abbrev pub Emits : Vec Item Global → Vec Item Global → List Instr → Type 0
Emits before after code = Puts before after (plain code)

-- the code that moves a pointer by elements, as many as a register counts
abbrev pub EmitsMove : Vec Item Global → Vec Item Global → Direction → (rd pointer count element : ℕ) → Type 0
EmitsMove before after direction rd pointer count element =
    Emits before after (move_by_elements direction rd pointer count element)
