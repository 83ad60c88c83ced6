use Rattle.std.proofs.Common.{◌≡◌, List, [], ◌∷◌, true, map, drop, arith, refl, ◌∙◌, sym, ap}
use Rattle.std.proofs.lemmas.List.{drop_all}
use Rattle.qs_syntax.specs.Trees.{Exprs, no_exprs, expr_and}
use Rattle.qs_syntax.specs.TreeOf.{exprs_tree}
use Rattle.qs_types.specs.Expressions.{arguments_fit}
use Rattle.qs_types.specs.TypeOf.{type_tree}
use Rattle.qs_types.specs.Types.{TypeTree}
use Rattle.qs_typing_findings.proofs.names.arguments_fit.Goals as goal

no_expressions : (ts us : List TypeTree) → arguments_fit ts no_exprs us ≡ true
no_expressions [] us = refl
no_expressions (t ∷ ts) us = refl

no_arguments : (ts : List TypeTree) (es : Exprs) → arguments_fit ts es [] ≡ true
no_arguments [] es = refl
no_arguments (t ∷ ts) no_exprs = refl
no_arguments (t ∷ ts) (expr_and e es) = refl

pub returns-else-i-us : goal.returns-else-i-us
returns-else-i-us c =
    let e : drop c.loop-i.i c.args.us.now ≡ [] = drop_all c.loop-i.i c.args.us.now (omega arith) in
    sym (c.loop-i.invariant
    ∙ ap (λ l. arguments_fit (map type_tree (drop c.loop-i.i c.args.parameters.now)) (exprs_tree (drop c.loop-i.i c.args.es.now)) (map type_tree l)) e
    ∙ no_arguments (map type_tree (drop c.loop-i.i c.args.parameters.now)) (exprs_tree (drop c.loop-i.i c.args.es.now)))

pub returns-else-i-es : goal.returns-else-i-es
returns-else-i-es c =
    let e : drop c.loop-i.i c.args.es.now ≡ [] = drop_all c.loop-i.i c.args.es.now (omega arith) in
    sym (c.loop-i.invariant
    ∙ ap (λ l. arguments_fit (map type_tree (drop c.loop-i.i c.args.parameters.now)) (exprs_tree l) (map type_tree (drop c.loop-i.i c.args.us.now))) e
    ∙ no_expressions (map type_tree (drop c.loop-i.i c.args.parameters.now)) (map type_tree (drop c.loop-i.i c.args.us.now)))
