use Rattle.std.proofs.Common.{◌∙◌, ap}
use Rattle.std.specs.List.{list_any}
use Rattle.qs_analyse.specs.Needs.{is_variable_node}
use Rattle.qs_analyse.proofs.NeedLaws.{variables_listed}
use Rattle.qs_analyse.proofs.entries.has_variables.Goals as goal

pub returns : goal.returns
returns c = c.some_variable.ensures ∙ ap (list_any is_variable_node) c.nodes.ensures ∙ variables_listed c.args.a.now
