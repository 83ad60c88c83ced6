use Rattle.std.proofs.Common.{map, option_map, ap, ◌∙◌}
use Rattle.qs_types.specs.Expressions.{type_of}
use Rattle.qs_types.specs.TypeOf.{type_tree}
use Rattle.qs_typing_findings.specs.NodeTypes.{declared_type}
use Rattle.qs_typing_findings.proofs.TypedLaws.{by_number}
use Rattle.qs_typing_findings.proofs.typed_unit.TypedUnit.types.Goals as goal

pub returns-clause-by_number : goal.returns-clause-by_number
returns-clause-by_number c = by_number declared_type type_of c.args.self.now.unit (map (option_map type_tree) c.deref.result.now) (ap (map (option_map type_tree)) c.deref.ensures.value ∙ c.args.self.now.are_types)
