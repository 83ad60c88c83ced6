-- What is to be added, and what comes of it.
use Rattle.std.specs.Prelude.{◌≡◌, ◌++◌, filter, length, map}
use Rattle.qs_core.specs.Trees.{CoreUnitTree}
use Rattle.qs_triples.specs.Derivations.{ProofsTree}
use Rattle.qs_triples.specs.Entries.{has_entry}
use Rattle.qs_triples.specs.Filled.{open_definition}
use Rattle.qs_callgraph.specs.CallLists.{flag, numbers}
use Rattle.qs_callgraph.specs.Opens.{TellsOpen}
use Rattle.qs_callgraph.specs.Orders.{IsDepthFirst, IsOrder}
use Rattle.qs_analyse.specs.Fillable.{with_entries}
use Rattle.qs_analyse.specs.declared.filling.Additions.{Additions}

-- the functions without an entry, in the order of a depth first search, and the open ones among them
pub record AreAdditions (u : CoreUnitTree) (given : ProofsTree) (a : Additions) : Type 0 where
  pub order : IsOrder u (has_entry given) (numbers a.functions.items)
  pub depth_first : IsDepthFirst u (has_entry given) (numbers a.functions.items)
  pub tells_open : TellsOpen u (has_entry given) (flag a.is_open.items)
  pub as_many : length a.is_open.items ≡ length u.functions
  pub opened : numbers a.opened.items ≡ filter (flag a.is_open.items) (numbers a.functions.items)

-- their definitions stand before the others, and their entries behind the others
pub record Extends (u : CoreUnitTree) (a : Additions) (given proofs : ProofsTree) : Type 0 where
  pub defines : proofs.defines ≡ map (open_definition u) (numbers a.opened.items) ++ given.defines
  pub functions :
      proofs.functions ≡ with_entries u (flag a.is_open.items) given.functions (numbers a.functions.items)

-- what is given, and what is added to it
pub record IsFilling (u : CoreUnitTree) (given proofs : ProofsTree) : Type 0 where
  pub additions : Additions
  pub are : AreAdditions u given additions
  pub extends : Extends u additions given proofs
