use Rattle.std.proofs.Common.{◌≡◌, ◌≤◌, [], drop, length, map}
use Rattle.qs_syntax.specs.TreeOf.{decl_tree}
use Rattle.qs_types.specs.Limits.{function_limit, header_past}
use Rattle.qs_typing.proofs.checking.first_past_functions.Given as goal

abbrev pub invariant-loop-d : goal.invariant-loop-d
invariant-loop-d l = record {
  few : length l.names.keys ≤ 512;
  past : header_past function_limit [] (map decl_tree l.ds) ≡ header_past function_limit l.names.keys (map decl_tree (drop l.d-index l.ds));
}
