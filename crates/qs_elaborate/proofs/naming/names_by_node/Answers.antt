use Rattle.std.proofs.Common.{◌≡◌, ◌+◌, ◌<◌, [], ◌∷◌, length, map, take, ap, sym, ◌∙◌}
use Rattle.std.proofs.lemmas.List.{length-map, get_or-map}
use Rattle.qs_elaborate.specs.DeclaredOf.{declared_of}
use Rattle.qs_elaborate.specs.Naming.{newest_first}
use Rattle.qs_elaborate.proofs.NamesByNode.{newest_more}
use Rattle.qs_elaborate.proofs.naming.names_by_node.Goals as goal

pub loop-d-preserved : goal.loop-d-preserved
loop-d-preserved c =
    let declared = c.args.declared.now in
    let i = c.loop-d.d-index in
    let d = c.d-item.result in
    let xs = map declared_of declared in
    let within : i < length xs = rw (length-map declared declared_of) c.loop-d-test.true in
    let more : newest_first [] (take (i + 1) xs) ≡ declared_of d ∷ newest_first [] (take i xs) =
    newest_more [] xs i (declared_of d) within
    ∙ ap (λ e. e ∷ newest_first [] (take i xs)) (get_or-map declared_of declared i d (declared_of d) c.loop-d-test.true ∙ ap declared_of (sym c.d-item.is)) in
    rw more (c.in_ok-note.ensures (newest_first [] (take i xs)) c.loop-d.invariant)
