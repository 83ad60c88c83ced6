-- What an answer says of the text, and what it must be.
use Rattle.std.specs.Prelude.{◌≡◌, ◌⊎◌, ℕ, List, Result, Ok, Err}
use Rattle.std.specs.declared.vec.Vec.{Vec}
use Rattle.std.specs.declared.alloc.Global.{Global}
use Rattle.qs_sexpr.specs.Reading.{Fault, Reading}
use Rattle.qs_sexpr.specs.Scan.{Answer, parts_of}
use Rattle.qs_sexpr.specs.Trees.{Sexps, sexps_nodes}
use Rattle.qs_sexpr.specs.declared.fault.SexprFault.{SexprFault}
use Rattle.qs_sexpr.specs.declared.fault.SexprFault.TheVariants as faults
use Rattle.qs_sexpr.specs.declared.node.Node.{Node}

-- the text reads as lists and atoms with these nodes
pub record IsRead (text : List ℕ) (nodes : List Node) : Type 0 where
  pub parts : Sexps
  pub reading : Reading text parts
  pub nodes_are : nodes ≡ sexps_nodes parts

abbrev pub SaysFault : List ℕ → SexprFault → Type 0
SaysFault text faults.NoMemory = Unit {0}
SaysFault text (faults.BadByte at) = Fault text (faults.BadByte at)
SaysFault text (faults.Unbalanced at) = Fault text (faults.Unbalanced at)
SaysFault text (faults.BadNumber at) = Fault text (faults.BadNumber at)
SaysFault text (faults.TooDeep at) = Fault text (faults.TooDeep at)

-- what an answer says of the text; want of memory says nothing
abbrev pub Says : List ℕ → Result (Vec Node Global) SexprFault → Type 0
Says text (Ok nodes) = IsRead text nodes.items
Says text (Err fault) = SaysFault text fault

-- the answer has the nodes of these parts, if memory was found
abbrev pub GivesNodes : Sexps → Result (Vec Node Global) SexprFault → Type 0
GivesNodes parts (Ok nodes) = nodes.items ≡ sexps_nodes parts
GivesNodes parts (Err fault) = fault ≡ faults.NoMemory

-- the answer is this fault, if memory was found
abbrev pub GivesFault : SexprFault → Result (Vec Node Global) SexprFault → Type 0
GivesFault due (Ok nodes) = ⊥
GivesFault due (Err fault) = (fault ≡ due) ⊎ (fault ≡ faults.NoMemory)

abbrev pub nodes_in : Answer → Result (List Node) SexprFault
nodes_in (Ok parts) = Ok (sexps_nodes (parts_of parts))
nodes_in (Err fault) = Err fault

-- the answer is what is due, if memory was found
abbrev pub Gives : Result (List Node) SexprFault → Result (Vec Node Global) SexprFault → Type 0
Gives due (Ok nodes) = due ≡ Ok nodes.items
Gives due (Err faults.NoMemory) = Unit {0}
Gives due (Err (faults.BadByte at)) = due ≡ Err (faults.BadByte at)
Gives due (Err (faults.Unbalanced at)) = due ≡ Err (faults.Unbalanced at)
Gives due (Err (faults.BadNumber at)) = due ≡ Err (faults.BadNumber at)
Gives due (Err (faults.TooDeep at)) = due ≡ Err (faults.TooDeep at)

pub record HasReading (text : List ℕ) : Type 0 where
  pub parts : Sexps
  pub reading : Reading text parts

pub record HasFault (text : List ℕ) : Type 0 where
  pub fault : SexprFault
  pub is : Fault text fault
