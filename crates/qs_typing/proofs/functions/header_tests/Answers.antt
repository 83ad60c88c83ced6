use Rattle.std.proofs.Common.{◌≡◌, ◌∷◌, ◌&&◌, IfOk, not, map, option_map, ◌∙◌, subst}
use Rattle.qs_syntax.specs.TreeOf.{function_tree, stmts_tree}
use Rattle.qs_types.specs.TypeOf.{type_tree}
use Rattle.qs_types.specs.UnitRules.{agrees_with}
use Rattle.qs_typing_findings.specs.ContextOf.{context_tree}
use Rattle.qs_typing_findings.specs.JudgedOf.{test_tree}
use Rattle.qs_typing.proofs.Headers.{still_some, tests_are}
use Rattle.qs_typing.proofs.functions.header_tests.Goals as goal

pub returns : goal.returns
returns c =
    let context = context_tree c.args.c.now in
    let types = map (option_map type_tree) c.args.types.now in
    let to = option_map type_tree c.args.to.now in
    let has_body = c.is_some.ensures ∙ still_some (λ b. stmts_tree b.items) c.args.f.now.body in
    let agrees = c.agrees_with-agrees.ensures ∙ (λ i. agrees_with (c.find_here.ensures i) (record { parameters = types; result = to }) (has_body i)) in
    let may = c.may_declare-may_declare.ensures ∙ (λ i. not (c.is_type_name.ensures i) && agrees i) in
    subst (λ l. IfOk c.with_test.result (λ ts. map test_tree ts.items ≡ l))
    ((λ i. c.keeps.ensures i ∷ c.keeps-2.ensures i ∷ c.violates.ensures i ∷ c.violates-2.ensures i ∷ c.main_test.ensures i)
    ∙ tests_are context (function_tree c.args.f.now) types to c.may_declare-may_declare.result c.knows_base-known.result c.is_void_pointer.result c.is_aggregate_result.result
    c.requires.types c.requires.to may c.knows_base-known.ensures c.is_void_pointer.ensures c.is_aggregate_result.ensures)
    c.with_test.ensures
