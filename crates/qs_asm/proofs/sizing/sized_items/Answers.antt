use Rattle.std.proofs.Common.{◌≡◌, ◌+◌, ◌-◌, ◌<◌, false, length, sym, ap, ◌∙◌, subst, arith}
use Rattle.std.proofs.lemmas.List.{with_items_is}
use Rattle.qs_asm.specs.Sizing.{shortest_items, any_out_of_reach, lengthened, turns, sized_items}
use Rattle.qs_asm.specs.Assembly.{places, AreLabels}
use Rattle.qs_asm.proofs.SizingLaws.{turns_of_items, turn_goes_on, last_turn}
use Rattle.qs_asm.proofs.sizing.sized_items.Goals as goal

pub loop-init : goal.loop-init
loop-init c =
    let items = c.args.items.now in
    let all : length items - 0 ≡ length items = omega arith in
    ap (turns (length items - 0)) c.in_ok-sized.ensures ∙ (ap (λ n. turns n (shortest_items items)) all ∙ turns_of_items items)

pub returns-then-not-branch : goal.returns-then-not-branch
returns-then-not-branch c =
    let items = c.args.items.now in
    let old = c.loop.sized in
    let new = c.lengthen.new.items in
    let labels = places c.in_ok-labels.labels in
    let from = c.deref_mut.ensures.value in
    let count = ap length from in
    let same : length new ≡ old.len = omega (arith, count, old.ok.0) in
    let are : AreLabels labels old.items = subst (AreLabels labels) c.deref.ensures.value c.in_ok-labels.ensures in
    let is : new ≡ lengthened labels 0 old.items = c.in_ok-lengthen.ensures.items ∙ ap (lengthened labels 0) from in
    let none : any_out_of_reach labels 0 old.items ≡ false =
    ap (any_out_of_reach labels 0) (sym from) ∙ (sym c.in_ok-lengthen.ensures.any ∙ c.if-not-branch.true) in
    with_items_is old new same ∙ last_turn labels (length items - c.loop.counter) old.items new (sized_items items) are is none c.loop.invariant

pub loop-preserved : goal.loop-preserved
loop-preserved c =
    let items = c.args.items.now in
    let old = c.loop.sized in
    let new = c.lengthen.new.items in
    let labels = places c.in_ok-labels.labels in
    let from = c.deref_mut.ensures.value in
    let count = ap length from in
    let same : length new ≡ old.len = omega (arith, count, old.ok.0) in
    let are : AreLabels labels old.items = subst (AreLabels labels) c.deref.ensures.value c.in_ok-labels.ensures in
    let is : new ≡ lengthened labels 0 old.items = c.in_ok-lengthen.ensures.items ∙ ap (lengthened labels 0) from in
    let more : c.loop.counter < length items = omega arith in
    ap (turns (length items - (c.loop.counter + 1))) (with_items_is old new same)
    ∙ turn_goes_on labels (length items) c.loop.counter old.items new (sized_items items) more are is c.loop.invariant
