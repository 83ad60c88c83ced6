use Rattle.std.proofs.Common.{◌≡◌, ◌++◌, ◌∙◌, [], List, drop, map, sym, ap, arith}
use Rattle.std.proofs.lemmas.List.{append-nil, drop_all}
use Rattle.qs_core.specs.TreeOf.{core_stmts}
use Rattle.qs_core.specs.declared.statements.CoreStmt.{CoreStmt}
use Rattle.qs_triples.specs.TreeOf.{derivation_tree, derivations_of}
use Rattle.qs_callgraph.specs.CallLists.{numbers}
use Rattle.qs_analyse.specs.Written.{each_written}
use Rattle.qs_analyse.proofs.WrittenLaws.{each_is}
use Rattle.qs_analyse.proofs.written.+written.Goals as goal

pub all_written-returns : goal.all_written-returns
all_written-returns t c =
    let name = c.args.f.name.now in
    let callees = numbers c.args.f.callees.now in
    let ds = map derivation_tree c.loop-s.ds.items in
    let nothing : drop c.loop-s.s-index c.args.ss.now ≡ [] = drop_all c.loop-s.s-index c.args.ss.now (omega arith) in
    ap derivations_of
    (sym (append-nil ds) ∙ ap (λ (l : List CoreStmt). ds ++ each_written name callees (core_stmts l)) (sym nothing) ∙ c.loop-s.invariant)
    ∙ each_is name callees (core_stmts c.args.ss.now)
