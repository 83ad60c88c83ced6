-- What a reader keeps while lists are open.
use Rattle.std.specs.Prelude.{◌≡◌, Bool, true, false, ℕ, ◌+◌, ◌≤◌, ◌<◌, ◌^◌, List, [], ◌∷◌, ◌++◌, length, drop, reverse, Result, Ok, Err}
use Rattle.qs_sexpr.specs.Trees.{Sexp, list, node, sexp_nodes, sexps_nodes}
use Rattle.qs_sexpr.specs.Scan.{Layer, parts_of, scan}
use Rattle.qs_sexpr.specs.declared.node.Node.{Node}
use Rattle.qs_sexpr.specs.declared.node.Item.{Item}
use Rattle.qs_sexpr.specs.declared.node.Item.TheVariants as items
use Rattle.qs_sexpr.specs.declared.fault.SexprFault.{SexprFault}
use Rattle.qs_sexpr.specs.declared.fault.SexprFault.TheVariants as faults
use Rattle.qs_sexpr.specs.declared.reader.OpenList.{OpenList}
use Rattle.qs_sexpr.specs.declared.reader.Reader.{Reader}

abbrev pub nodes_of : List Sexp → List Node
nodes_of ss = sexps_nodes (parts_of ss)

-- the nodes up to the innermost open list; an open list has no counts yet
abbrev pub front : List Layer → List Node
front [] = []
front (layer ∷ outer) = (front outer ++ nodes_of layer.before) ++ node layer.place (items.List 0 0) ∷ []

abbrev pub opens : List Layer → List OpenList
opens [] = []
opens (layer ∷ outer) = record { node = length (front outer ++ nodes_of layer.before); parts = length layer.before } ∷ opens outer

-- these lists are open, and the innermost has these parts so far
pub record Holds (reader : Reader) (outer : List Layer) (done : List Sexp) : Type 0 where
  pub nodes_are : reader.nodes.items ≡ front outer ++ nodes_of done
  pub lists_are : reverse reader.lists.items ≡ opens outer
  pub parts_are : reader.parts ≡ length done

-- some lists are open, and the numbers are small
pub record IsReader (reader : Reader) : Type 0 where
  pub outer : List Layer
  pub done : List Sexp
  pub holds : Holds reader outer done
  pub small : length reader.nodes.items < 2 ^ 31

-- the scan goes on `n` bytes later as before
pub record Goes (outer : List Layer) (done : List Sexp) (at n : ℕ) (rest : List ℕ) (before now : Reader) : Type 0 where
  pub outer_now : List Layer
  pub done_now : List Sexp
  pub holds : Holds now outer_now done_now
  pub same : scan outer done at 0 rest ≡ scan outer_now done_now (at + n) 0 (drop n rest)
  pub moves : 1 ≤ n
  pub within : n ≤ length rest
  pub few : length now.nodes.items ≤ length before.nodes.items + 1

-- what a step over the first piece gives
abbrev pub Steps : List Layer → List Sexp → ℕ → List ℕ → Reader → Reader → Result ℕ SexprFault → Type 0
Steps outer done at rest before now (Ok n) = Goes outer done at n rest before now
Steps outer done at rest before now (Err faults.NoMemory) = Unit {0}
Steps outer done at rest before now (Err (faults.BadByte k)) = scan outer done at 0 rest ≡ Err (faults.BadByte k)
Steps outer done at rest before now (Err (faults.Unbalanced k)) = scan outer done at 0 rest ≡ Err (faults.Unbalanced k)
Steps outer done at rest before now (Err (faults.BadNumber k)) = scan outer done at 0 rest ≡ Err (faults.BadNumber k)
Steps outer done at rest before now (Err (faults.TooDeep k)) = scan outer done at 0 rest ≡ Err (faults.TooDeep k)

-- what closing the innermost list gives
abbrev pub Closes : List Layer → List Sexp → Reader → Bool → Type 0
Closes [] done now closed = closed ≡ false
Closes (layer ∷ outer) done now closed = (closed ≡ true) × Holds now outer (layer.before ++ list layer.place (parts_of done) ∷ [])

-- ---- what calls on a reader do to whatever it held

abbrev pub IsDepth : Reader → ℕ → Type 0
IsDepth reader depth = (outer : List Layer) → (done : List Sexp) → Holds reader outer done → depth ≡ length outer

-- an atom is put: the innermost list has it as its next part
abbrev pub Puts : Reader → ℕ → Item → Reader → Type 0
Puts before at item now = (outer : List Layer) → (done : List Sexp) → (s : Sexp) → Holds before outer done → sexp_nodes s ≡ node at item ∷ [] → Holds now outer (done ++ s ∷ [])

-- there is at most one node more
abbrev pub AddsAtMostOneNode : Reader → Reader → Type 0
AddsAtMostOneNode before now = length now.nodes.items ≤ length before.nodes.items + 1

-- a list is opened
abbrev pub Begins : Reader → ℕ → Reader → Type 0
Begins before at now = (outer : List Layer) → (done : List Sexp) → Holds before outer done → Holds now (record { place = at; before = done } ∷ outer) []

-- the innermost list is closed
abbrev pub Ends : Reader → Bool → Reader → Type 0
Ends before closed now = (outer : List Layer) → (done : List Sexp) → Holds before outer done → Closes outer done now closed

-- the scan is followed over the first piece of the rest
abbrev pub Follows : Reader → ℕ → List ℕ → Result ℕ SexprFault → Reader → Type 0
Follows before at rest result now = (outer : List Layer) → (done : List Sexp) → Holds before outer done → Steps outer done at rest before now result
