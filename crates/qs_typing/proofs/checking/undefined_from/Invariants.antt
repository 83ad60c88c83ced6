use Rattle.std.proofs.Common.{◌≡◌, drop, map}
use Rattle.qs_syntax.specs.TreeOf.{decl_tree}
use Rattle.qs_types.specs.WellTyped.{undefined_from}
use Rattle.qs_typing_findings.specs.ContextOf.{context_tree}
use Rattle.qs_typing_findings.specs.Refusals.{runs_in}
use Rattle.qs_typing.proofs.checking.undefined_from.Given as goal

abbrev pub invariant-loop-d : goal.invariant-loop-d
invariant-loop-d l =
    undefined_from (runs_in (context_tree l.c)) l.calls.keys (map decl_tree l.ds)
    ≡ undefined_from (runs_in (context_tree l.c)) l.calls.keys (map decl_tree (drop l.d-index l.ds))
