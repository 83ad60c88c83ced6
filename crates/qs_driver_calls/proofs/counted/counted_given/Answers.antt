use Rattle.qs_core.specs.UnitTrees.{unit_tree}
use Rattle.qs_triples.specs.TreeOf.{proofs_tree}
use Rattle.qs_driver_proofs.proofs.ToldLaws.{known_function}
use Rattle.qs_driver_calls.proofs.CountedLaws.{behind_entries, needed_within, wanting_halts}
use Rattle.qs_driver_calls.proofs.counted.counted_given.Goals as goal

pub entry_wanted-requires : goal.entry_wanted-requires
entry_wanted-requires c =
    known_function c.args.unit.now c.in-Some.f.0
    (needed_within (unit_tree c.args.unit.now) c.args.unit.now.fits (proofs_tree c.args.given) c.in-Some.f.0 c.in-Some.ensures.missing.needed)

pub returns-in-None : goal.returns-in-None
returns-in-None c = λ v. behind_entries (unit_tree c.args.unit.now) (proofs_tree c.args.given) v proofs_tree c.counted_entries.result c.in-None.ensures (c.counted_entries.ensures v)

pub returns-in-Some : goal.returns-in-Some
returns-in-Some c = λ v. wanting_halts (unit_tree c.args.unit.now) (proofs_tree c.args.given) v c.in-Some.f.0 c.entry_wanted.result c.in-Some.ensures c.entry_wanted.ensures
