use Rattle.std.proofs.Common.{Some, map, option_map, sym, ap, ◌∙◌}
use Rattle.qs_syntax.specs.TreeOf.{function_tree, parameter_tree}
use Rattle.qs_types.specs.TypeOf.{type_tree}
use Rattle.qs_meaning.specs.Units.{scalars_of}
use Rattle.qs_typed_nodes.specs.KnownFunctions.{locals_at, parameters_nodes}
use Rattle.qs_typed_nodes.specs.KnownOf.{headers_tree}
use Rattle.qs_typed_units.proofs.HeaderTables.{noted}
use Rattle.qs_typed_units.proofs.function_headers.note_header.Goals as goal

pub returns : goal.returns
returns c =
    noted (map (option_map type_tree) c.args.types.now) (function_tree c.args.f.now) c.args.headers.now.entries c.in_ok-scalars.scalars
    (ap (λ ps. scalars_of (locals_at (map (option_map type_tree) c.args.types.now) (parameters_nodes (map parameter_tree ps)))) (sym c.deref.ensures.value) ∙ c.in_ok-scalars.ensures)
    (c.is_new.ensures c.if-not-is_new.false)
    ∙ ap (λ es. Some (headers_tree es)) (sym c.in_ok-insert.ensures.entries)
