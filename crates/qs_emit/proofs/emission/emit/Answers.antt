use Rattle.std.proofs.Common.{map}
use Rattle.qs_tac.specs.UnitTrees.{unit_tree}
use Rattle.qs_tac.specs.Places.{places_tree}
use Rattle.qs_emit.proofs.EmissionLaws.{emittable_is_selected, few_words, all_reach, images_are_emitted}
use Rattle.qs_emit.proofs.emission.emit.Goals as goal

pub select-requires : goal.select-requires
select-requires c = emittable_is_selected (unit_tree c.args.unit.now) (map places_tree c.args.places.now) c.requires.emittable c.requires.room

pub returns-clause-words : goal.returns-clause-words
returns-clause-words c = few_words (unit_tree c.args.unit.now) (map places_tree c.args.places.now) c.requires.emittable c.in_ok-items.items c.in_ok-items.ensures

pub returns-clause-reach : goal.returns-clause-reach
returns-clause-reach c = all_reach (unit_tree c.args.unit.now) (map places_tree c.args.places.now) c.requires.emittable c.in_ok-items.items c.in_ok-items.ensures

pub returns-clause-images : goal.returns-clause-images
returns-clause-images c = images_are_emitted (unit_tree c.args.unit.now) (map places_tree c.args.places.now) c.requires.emittable c.requires.room
