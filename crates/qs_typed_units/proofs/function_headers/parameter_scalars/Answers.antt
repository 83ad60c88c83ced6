use Rattle.std.proofs.Common.{[], ◌∷◌, Some, map, option_map, refl, sym, ap, ◌∙◌}
use Rattle.qs_memory.specs.Partial.{◌>>=◌}
use Rattle.qs_syntax.specs.TreeOf.{parameter_tree}
use Rattle.qs_types.specs.TypeOf.{type_tree}
use Rattle.qs_meaning.specs.Conversions.{scalar_of}
use Rattle.qs_meaning.specs.Units.{scalars_of}
use Rattle.qs_typed_nodes.specs.Known.{at_number}
use Rattle.qs_typed_nodes.specs.KnownFunctions.{local_at, locals_at, parameters_nodes}
use Rattle.qs_typed_nodes.proofs.Loops.{drop_item, turn, finish, all_elements, scalars_one}
use Rattle.qs_typed_units.proofs.function_headers.parameter_scalars.Goals as goal

pub loop-p-preserved : goal.loop-p-preserved
loop-p-preserved c =
    turn ◌∷◌ (λ p. at_number (map (option_map type_tree) c.args.types.now) (parameter_tree p).node.id >>= λ t. Some (scalar_of t))
    (λ ps. scalars_of (locals_at (map (option_map type_tree) c.args.types.now) (parameters_nodes (map parameter_tree ps)))) c.args.ps.now c.loop-p.p-index c.p-item.result
    c.loop-p.all.items c.push.new.self.items c.scalar_of.result _ c.loop-p.invariant (drop_item c.args.ps.now c.loop-p.p-index c.p-item.result c.loop-p-test.true c.p-item.is)
    (λ ys. scalars_one (local_at (map (option_map type_tree) c.args.types.now) (parameter_tree c.p-item.result).node.id) (locals_at (map (option_map type_tree) c.args.types.now) (parameters_nodes (map parameter_tree ys))))
    (ap (λ o. o >>= λ t. Some (scalar_of t)) (sym c.in-Some.ensures) ∙ ap Some (sym c.scalar_of.ensures)) c.in_ok-push-in-Some.ensures.items

pub returns : goal.returns
returns c =
    finish ◌∷◌ (λ ps. scalars_of (locals_at (map (option_map type_tree) c.args.types.now) (parameters_nodes (map parameter_tree ps)))) c.args.ps.now c.loop-p.p-index c.loop-p.all.items [] _
    c.loop-p.invariant c.loop-p-test.false refl
    ∙ ap Some (all_elements c.loop-p.all.items)
