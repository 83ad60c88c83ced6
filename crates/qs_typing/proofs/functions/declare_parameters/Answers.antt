use Rattle.std.proofs.Common.{◌≡◌, [], drop, map, option_map, sym, ap, ◌∙◌, arith}
use Rattle.std.proofs.lemmas.List.{drop_all}
use Rattle.qs_syntax.specs.TreeOf.{parameter_tree}
use Rattle.qs_types.specs.TypeOf.{type_tree}
use Rattle.qs_types.specs.UnitRules.{with_parameters}
use Rattle.qs_typing_findings.specs.ContextOf.{context_tree}
use Rattle.qs_typing.proofs.Headers.{no_types}
use Rattle.qs_typing.proofs.functions.declare_parameters.Goals as goal

pub returns-else-i-types : goal.returns-else-i-types
returns-else-i-types c =
    let known = context_tree c.loop-i.c in
    let left = map parameter_tree (drop c.loop-i.i c.args.ps.now) in
    let e : drop c.loop-i.i c.args.types.now ≡ [] = drop_all c.loop-i.i c.args.types.now (omega arith) in
    sym (c.loop-i.invariant ∙ ap (λ l. with_parameters known left (map (option_map type_tree) l)) e ∙ no_types known left)
