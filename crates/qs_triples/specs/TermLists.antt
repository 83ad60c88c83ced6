-- The nodes of terms that are made of core terms.
use Rattle.std.specs.Prelude.{◌≡◌, ◌++◌, List}
use Rattle.std.specs.declared.alloc.Global.{Global}
use Rattle.std.specs.declared.vec.Vec.{Vec}
use Rattle.qs_memory.specs.declared.operation.Signedness.{Signedness}
use Rattle.qs_memory.specs.declared.operation.Signedness.TheVariants.{Signed, Unsigned}
use Rattle.qs_assert.specs.declared.node.TermNode.{TermNode}
use Rattle.qs_assert.specs.declared.node.TermNode.TheVariants as nodes
use Rattle.qs_core.specs.declared.term.TermOperation.{TermOperation}
use Rattle.qs_core.specs.declared.term.TermOperation.TheVariants.{Add, Subtract, Multiply}

-- the first node of a sum, difference or product of two terms
abbrev pub operation_head : TermOperation → TermNode
operation_head Add = nodes.Add 2
operation_head Subtract = nodes.Sub
operation_head Multiply = nodes.Mul 2

abbrev pub wrapped_head : Signedness → TermNode
wrapped_head Signed = nodes.WrapSigned
wrapped_head Unsigned = nodes.WrapUnsigned

-- these nodes are put behind the others
abbrev pub Puts : {X : Type 0} → List X → (before now : Vec X Global) → Type 0
Puts nodes before now = now.items ≡ before.items ++ nodes
