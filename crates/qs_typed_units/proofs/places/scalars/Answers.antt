use Rattle.std.proofs.Common.{[], ◌∷◌, Some, map, option_map, refl, sym, ap, ◌∙◌, arith}
use Rattle.qs_memory.specs.Partial.{◌>>=◌}
use Rattle.qs_types.specs.TypeOf.{type_tree}
use Rattle.qs_meaning.specs.Conversions.{scalar_of}
use Rattle.qs_meaning.specs.Units.{scalars_of}
use Rattle.qs_typed_nodes.specs.Known.{at_number}
use Rattle.qs_typed_nodes.specs.KnownFunctions.{local_at, locals_at}
use Rattle.qs_typed_nodes.proofs.Loops.{drop_got, turn, finish, all_elements, scalars_one}
use Rattle.qs_typed_units.proofs.places.scalars.Goals as goal

pub loop-i-preserved : goal.loop-i-preserved
loop-i-preserved c =
    turn ◌∷◌ (λ n. at_number (map (option_map type_tree) c.args.types.now) n >>= λ t. Some (scalar_of t))
    (λ ns. scalars_of (locals_at (map (option_map type_tree) c.args.types.now) ns)) c.args.nodes.now.keys c.loop-i.i c.index.result.now
    c.loop-i.all.items c.push.new.self.items c.scalar_of.result _ c.loop-i.invariant (drop_got c.args.nodes.now.keys c.loop-i.i c.index.result.now c.index.ensures)
    (λ ys. scalars_one (local_at (map (option_map type_tree) c.args.types.now) c.index.result.now) (locals_at (map (option_map type_tree) c.args.types.now) ys))
    (ap (λ o. o >>= λ t. Some (scalar_of t)) (sym c.in-Some.ensures) ∙ ap Some (sym c.scalar_of.ensures)) c.in_ok-push-in-Some.ensures.items

pub returns : goal.returns
returns c =
    let e = c.len-i-end.ensures.len in
    finish ◌∷◌ (λ ns. scalars_of (locals_at (map (option_map type_tree) c.args.types.now) ns)) c.args.nodes.now.keys c.loop-i.i c.loop-i.all.items [] _
    c.loop-i.invariant (omega arith) refl
    ∙ ap Some (all_elements c.loop-i.all.items)
