use Rattle.std.proofs.Common.{[], ◌∷◌, Some, map, option_map, refl, sym, ap, ◌∙◌, arith}
use Rattle.qs_memory.specs.Partial.{◌>>=◌}
use Rattle.qs_types.specs.EnvOf.{env_tree}
use Rattle.qs_types.specs.TypeOf.{type_tree}
use Rattle.qs_types.specs.Layout.{size_of}
use Rattle.qs_meaning.specs.Units.{sizes_of}
use Rattle.qs_typed_nodes.specs.Known.{at_number}
use Rattle.qs_typed_nodes.specs.KnownFunctions.{locals_at}
use Rattle.qs_typed_nodes.proofs.Loops.{drop_got, turn, finish, all_elements}
use Rattle.qs_typed_units.proofs.places.sizes.Goals as goal

pub loop-i-preserved : goal.loop-i-preserved
loop-i-preserved c =
    turn ◌∷◌ (λ n. at_number (map (option_map type_tree) c.args.types.now) n >>= size_of (env_tree c.args.env.now))
    (λ ns. sizes_of (env_tree c.args.env.now) (locals_at (map (option_map type_tree) c.args.types.now) ns)) c.args.nodes.now.keys c.loop-i.i c.index.result.now
    c.loop-i.all.items c.push.new.self.items c.in_ok-size_in-in-Some.field-0 _ c.loop-i.invariant (drop_got c.args.nodes.now.keys c.loop-i.i c.index.result.now c.index.ensures)
    (λ ys. refl)
    (ap (λ o. o >>= size_of (env_tree c.args.env.now)) (sym c.in-Some.ensures) ∙ c.in_ok-size_in-in-Some.ensures) c.in_ok-push-in-Some.ensures.items

pub returns : goal.returns
returns c =
    let e = c.len-i-end.ensures.len in
    finish ◌∷◌ (λ ns. sizes_of (env_tree c.args.env.now) (locals_at (map (option_map type_tree) c.args.types.now) ns)) c.args.nodes.now.keys c.loop-i.i c.loop-i.all.items [] _
    c.loop-i.invariant (omega arith) refl
    ∙ ap Some (all_elements c.loop-i.all.items)
