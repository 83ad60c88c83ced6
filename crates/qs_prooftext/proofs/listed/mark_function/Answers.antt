use Rattle.std.proofs.Common.{arith}
use Rattle.std.proofs.lemmas.List.{length-map}
use Rattle.qs_core.specs.TreeOf.{function_tree}
use Rattle.qs_core.specs.UnitTrees.{unit_tree}
use Rattle.qs_prooftext.proofs.ListedLaws.{found_in, function_named, marks_none, marks_one, not_found_in}
use Rattle.qs_prooftext.proofs.listed.mark_function.Goals as goal

pub bounds-flags-f : goal.bounds-flags-f
bounds-flags-f c =
    let found = found_in c.args.unit.now c.args.word.now c.deref.result.now c.in_ok-f.field-0 c.in-Some.f c.deref.ensures.value c.in_ok-f.ensures c.in-Some.is in
    let b = (function_named (unit_tree c.args.unit.now) c.args.word.now c.in-Some.f.0 found).1 in
    let l = length-map c.args.unit.now.functions.items function_tree in
    let r = c.requires in
    omega (arith, b, l, r)

pub returns-in-Some : goal.returns-in-Some
returns-in-Some c =
    let found = found_in c.args.unit.now c.args.word.now c.deref.result.now c.in_ok-f.field-0 c.in-Some.f c.deref.ensures.value c.in_ok-f.ensures c.in-Some.is in
    let b = (function_named (unit_tree c.args.unit.now) c.args.word.now c.in-Some.f.0 found).1 in
    let l = length-map c.args.unit.now.functions.items function_tree in
    let r = c.requires in
    marks_one (unit_tree c.args.unit.now) c.args.unit.now.fits c.args.word.now c.args.flags.now c.in-Some.f.0 found (omega (arith, b, l, r))

pub returns-in-None : goal.returns-in-None
returns-in-None c =
    marks_none (unit_tree c.args.unit.now) c.args.unit.now.fits c.args.word.now c.args.flags.now
    (not_found_in c.args.unit.now c.args.word.now c.deref.result.now c.in_ok-f.field-0 c.deref.ensures.value c.in_ok-f.ensures c.in-None.is)
