use Rattle.std.proofs.Common.{◌∙◌}
use Rattle.qs_types.specs.Referents.{referent_of}
use Rattle.qs_typing_findings.specs.NodeReferents.{no_referent}
use Rattle.qs_typing_findings.proofs.TypedLaws.{by_number}
use Rattle.qs_typing_findings.proofs.typed_unit.TypedUnit.referents.Goals as goal

pub returns-clause-by_number : goal.returns-clause-by_number
returns-clause-by_number c = by_number no_referent referent_of c.args.self.now.unit c.deref.result.now (c.deref.ensures.value ∙ c.args.self.now.are_referents)
