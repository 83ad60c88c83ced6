use Rattle.std.proofs.Common.{◌≡◌, ◌++◌, [], append-nil, drop, map, option_map, sym, ap, ◌∙◌, arith}
use Rattle.std.proofs.lemmas.List.{drop_all}
use Rattle.qs_syntax.specs.TreeOf.{parameter_tree}
use Rattle.qs_types.specs.EnvOf.{env_tree}
use Rattle.qs_types.specs.TypeOf.{type_tree}
use Rattle.qs_typing_findings.specs.Noted.{parameters_noted}
use Rattle.qs_typing_findings.specs.NotedOf.{local_tree}
use Rattle.qs_typing.proofs.Headers.{none_noted}
use Rattle.qs_typing.proofs.functions.parameters_noted.Goals as goal
use Rattle.qs_typing.proofs.functions.parameters_noted.Goals.{then-loop-i-test+else-i-types, else-loop-i-test}

pub returns : goal.returns
returns c =
    let structs = env_tree c.args.structs.now in
    let i = c.loop-i.i in
    let noted = map local_tree c.loop-i.locals.items in
    let left = map parameter_tree (drop i c.args.ps.now) in
    let types = map (option_map type_tree) (drop i c.args.types.now) in
    let ends = λ (e : parameters_noted structs left types ≡ []). sym (c.loop-i.invariant ∙ ap (λ l. noted ++ l) e ∙ append-nil noted) in
    elim c.loop-i-test.branch [
      | then-loop-i-test+else-i-types w ↦
          ends (ap (λ l. parameters_noted structs left (map (option_map type_tree) l)) (drop_all i c.args.types.now (omega arith)) ∙ none_noted structs left)
      | else-loop-i-test w ↦
          ends (ap (λ l. parameters_noted structs (map parameter_tree l) types) (drop_all i c.args.ps.now (omega arith)))
    ]
