-- What is extended by what is to be added is filled.
use Rattle.std.proofs.Common.{◌≡◌, ◌∙◌, ◌++◌, ℕ, true, List, filter, map, ap}
use Rattle.qs_core.specs.Fits.{unit_fits}
use Rattle.qs_core.specs.Trees.{CoreUnitTree}
use Rattle.qs_triples.specs.Derivations.{ProofsTree}
use Rattle.qs_triples.specs.Filled.{open_definition, Filled}
use Rattle.qs_callgraph.specs.CallLists.{flag, numbers}
use Rattle.qs_analyse.specs.Additions.{AreAdditions, Extends, IsFilling}
use Rattle.qs_analyse.specs.Fillable.{IsFillable, entries_only}
use Rattle.qs_analyse.specs.Laws.{DerivesOpen}
use Rattle.qs_analyse.specs.declared.filling.Additions.{Additions}
use Rattle.qs_analyse.proofs.AddedLaws.{fills, filled_with, written_one}
use Rattle.qs_analyse.proofs.SettingLaws.{derives}

module _ (u : CoreUnitTree) (fits : unit_fits u ≡ true) (given : ProofsTree) (fillable : IsFillable u given) (a : Additions) (plan : AreAdditions u (entries_only given.functions) a) (proofs : ProofsTree) (e : Extends u a given proofs) where
  defines : proofs.defines ≡ map (open_definition u) (filter (flag a.is_open.items) (numbers a.functions.items)) ++ given.defines
  defines = e.defines ∙ ap (λ (fs : List ℕ). map (open_definition u) fs ++ given.defines) plan.opened

  pub filled_so : Filled u given proofs
  filled_so = fills u fits given fillable (flag a.is_open.items) plan.tells_open (numbers a.functions.items) plan.order proofs defines e.functions

  pub derived_so : DerivesOpen u given proofs
  derived_so =
      derives u fits given proofs (filled_with u fits given fillable (flag a.is_open.items) plan.tells_open (numbers a.functions.items) plan.order proofs defines e.functions)
      (λ f e' m is. written_one u fits given fillable (flag a.is_open.items) plan.tells_open (numbers a.functions.items) plan.order proofs defines e.functions f e' m is)

  pub filling_so : IsFilling u given proofs
  filling_so = record {
    additions = a;
    are = record { order = plan.order; depth_first = plan.depth_first; tells_open = plan.tells_open; as_many = plan.as_many; opened = plan.opened };
    extends = e;
  }
