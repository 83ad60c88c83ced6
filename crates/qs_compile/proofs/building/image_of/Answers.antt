use Rattle.std.proofs.Common.{length, ap, ◌∙◌, arith}
use Rattle.qs_core.specs.UnitTrees.{unit_tree}
use Rattle.qs_compile.proofs.BuiltLaws.{main_few, image_made, built, within_limits, sizes, keeps_form, does_as_core}
use Rattle.qs_compile.proofs.building.image_of.Goals as goal

pub unsigned_set-requires : goal.unsigned_set-requires
unsigned_set-requires c =
    let few = main_few (unit_tree c.args.unit.now) c.args.unit.now.fits c.args.functions.items c.args.code.items c.args.bytes.items c.requires in
    let same = ap length (c.deref.ensures.value ∙ c.in_ok-types.ensures) in
    omega (arith, few, same)

pub invariant_of-result : goal.invariant_of-result
invariant_of-result c =
    keeps_form (unit_tree c.args.unit.now) _
    (image_made (unit_tree c.args.unit.now) c.args.functions.items c.args.code.items c.args.bytes.items c.deref.result.now c.in_ok-count.field-0 c.unsigned_set.result c.args.unit.now.fits c.requires (c.deref.ensures.value ∙ c.in_ok-types.ensures) (omega arith) c.unsigned_set.ensures.set)

pub returns-clause-built : goal.returns-clause-built
returns-clause-built c =
    built (unit_tree c.args.unit.now) _
    (image_made (unit_tree c.args.unit.now) c.args.functions.items c.args.code.items c.args.bytes.items c.deref.result.now c.in_ok-count.field-0 c.unsigned_set.result c.args.unit.now.fits c.requires (c.deref.ensures.value ∙ c.in_ok-types.ensures) (omega arith) c.unsigned_set.ensures.set)

pub returns-clause-limits : goal.returns-clause-limits
returns-clause-limits c =
    within_limits (unit_tree c.args.unit.now) _
    (image_made (unit_tree c.args.unit.now) c.args.functions.items c.args.code.items c.args.bytes.items c.deref.result.now c.in_ok-count.field-0 c.unsigned_set.result c.args.unit.now.fits c.requires (c.deref.ensures.value ∙ c.in_ok-types.ensures) (omega arith) c.unsigned_set.ensures.set)

pub returns-clause-sizes : goal.returns-clause-sizes
returns-clause-sizes c =
    sizes (unit_tree c.args.unit.now) _
    (image_made (unit_tree c.args.unit.now) c.args.functions.items c.args.code.items c.args.bytes.items c.deref.result.now c.in_ok-count.field-0 c.unsigned_set.result c.args.unit.now.fits c.requires (c.deref.ensures.value ∙ c.in_ok-types.ensures) (omega arith) c.unsigned_set.ensures.set)

pub returns-clause-agrees : goal.returns-clause-agrees
returns-clause-agrees c =
    does_as_core (unit_tree c.args.unit.now) _
    (image_made (unit_tree c.args.unit.now) c.args.functions.items c.args.code.items c.args.bytes.items c.deref.result.now c.in_ok-count.field-0 c.unsigned_set.result c.args.unit.now.fits c.requires (c.deref.ensures.value ∙ c.in_ok-types.ensures) (omega arith) c.unsigned_set.ensures.set)
