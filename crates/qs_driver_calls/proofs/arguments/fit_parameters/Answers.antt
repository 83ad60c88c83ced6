use Rattle.std.proofs.Common.{◌≡◌, ◌∙◌, ℕ, rules, refl, sym, ap, pos, get_or, length, SFits, w64, to_z-of_z, arith}
use Rattle.qs_core.specs.Interfaces.{parameter_types}
use Rattle.qs_core.specs.TreeOf.{function_tree}
use Rattle.qs_driver_session.specs.Shared.{count_differs, misfit}
use Rattle.qs_driver_session.specs.declared.status.Status.TheVariants.{Words}
use Rattle.qs_driver_session.specs.declared.status.WordsFault.TheVariants.{ArgCount}
use Rattle.qs_driver_calls.proofs.ArgumentLaws.{parameters_are, type_read, passed_more, misfit_at, all_passed}
use Rattle.qs_driver_calls.proofs.arguments.fit_parameters.Goals as goal

pub overflow_cast-result : goal.overflow_cast-result
overflow_cast-result c =
    let main = c.args.main.now in
    let are = parameters_are main c.len.result c.len-2.result c.min-expected.result (c.len.ensures ∙ main.parameters.ok.0) (c.len-2.ensures ∙ main.variables.ok.0) c.min-expected.ensures in
    omega (arith, are, c.requires)

pub returns-then-args-expected : goal.returns-then-args-expected
returns-then-args-expected c =
    let main = c.args.main.now in
    let are = parameters_are main c.len.result c.len-2.result c.min-expected.result (c.len.ensures ∙ main.parameters.ok.0) (c.len-2.ensures ∙ main.variables.ok.0) c.min-expected.ensures in (
      count_differs,
      record { parameters_are = refl; differ = λ e. c.if-args-expected.true (e ∙ sym are) },
      ap (λ (n : ℕ). Words (ArgCount n (length c.args.args.now))) are,
    )

pub returns-then-not-is_number : goal.returns-then-not-is_number
returns-then-not-is_number c =
    let main = c.args.main.now in
    let are = parameters_are main c.len.result c.len-2.result c.min-expected.result (c.len.ensures ∙ main.parameters.ok.0) (c.len-2.ensures ∙ main.variables.ok.0) c.min-expected.ensures in
    let long : length c.args.args.now ≡ length (parameter_types (function_tree main)) = c.if-args-expected.false ∙ are in
    let z = get_or c.args.args.now c.loop-i.i (pos 0) in
    let fits : SFits w64 z = search rules in (
      misfit c.loop-i.i,
      misfit_at (parameter_types (function_tree main)) c.args.args.now c.loop-i.i c.index.result.now.scalar c.index.result.now.scalar z (pos 0)
          (type_read main c.loop-i.i c.index.result.now (omega (arith, long, c.loop-i-test.true)) c.index.ensures) refl long c.loop-i-test.true
          (sym (rw (to_z-of_z fits) at c.is_number.ensures) ∙ c.if-not-is_number.true) c.loop-i.invariant,
      refl,
    )

pub loop-i-preserved : goal.loop-i-preserved
loop-i-preserved c =
    let main = c.args.main.now in
    let are = parameters_are main c.len.result c.len-2.result c.min-expected.result (c.len.ensures ∙ main.parameters.ok.0) (c.len-2.ensures ∙ main.variables.ok.0) c.min-expected.ensures in
    let long : length c.args.args.now ≡ length (parameter_types (function_tree main)) = c.if-args-expected.false ∙ are in
    let z = get_or c.args.args.now c.loop-i.i (pos 0) in
    let fits : SFits w64 z = search rules in
    passed_more (parameter_types (function_tree main)) c.args.args.now c.loop-i.i c.index.result.now.scalar c.index.result.now.scalar z (pos 0)
    (type_read main c.loop-i.i c.index.result.now (omega (arith, long, c.loop-i-test.true)) c.index.ensures) refl long c.loop-i-test.true
    (sym (rw (to_z-of_z fits) at c.is_number.ensures) ∙ c.if-not-is_number.false) c.loop-i.invariant

pub returns : goal.returns
returns c =
    let main = c.args.main.now in
    let are = parameters_are main c.len.result c.len-2.result c.min-expected.result (c.len.ensures ∙ main.parameters.ok.0) (c.len-2.ensures ∙ main.variables.ok.0) c.min-expected.ensures in
    all_passed (parameter_types (function_tree main)) c.args.args.now c.loop-i.i (c.if-args-expected.false ∙ are) c.loop-i-test.false c.loop-i.invariant
