use Rattle.std.proofs.Common.{refl, option_map}
use Rattle.std.proofs.lemmas.List.{map-set}
use Rattle.qs_types.specs.TypeOf.{type_tree}
use Rattle.qs_typing_findings.proofs.Walks.{found_by}
use Rattle.qs_typing_findings.proofs.found.Found.fill.Goals as goal

pub returns : goal.returns
returns c = found_by _ _ _ _ _ _ _ _ (map-set (option_map type_tree) c.args.self.now.types.items c.args.at c.args.t) refl refl refl
