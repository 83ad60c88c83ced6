use Rattle.std.proofs.Common.{◌≡◌, drop, map}
use Rattle.qs_syntax.specs.TreeOf.{decl_tree}
use Rattle.qs_types.specs.Limits.{first_past_parameters, parameter_limit}
use Rattle.qs_typing.proofs.checking.first_past_parameters.Given as goal

abbrev pub invariant-loop-d : goal.invariant-loop-d
invariant-loop-d l = first_past_parameters parameter_limit (map decl_tree l.ds) ≡ first_past_parameters parameter_limit (map decl_tree (drop l.d-index l.ds))
