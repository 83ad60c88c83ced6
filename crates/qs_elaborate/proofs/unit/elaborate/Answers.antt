use Rattle.std.proofs.Common.{map, ap, ◌∙◌}
use Rattle.qs_typing_findings.specs.TypedOf.{typed_tree}
use Rattle.qs_typing_findings.proofs.TypedLaws.{is_read}
use Rattle.qs_elaborate_laws.proofs.FitCore.{units_have_cores}
use Rattle.qs_elaborate.proofs.unit.elaborate.Goals as goal

pub elaborated-requires : goal.elaborated-requires
elaborated-requires c =
    let typed = c.args.typed.now in
    rw c.unit.ensures
    (record {
      has_core = units_have_cores (typed_tree typed) (is_read typed) typed.well_typed typed.within_limits;
      tree = c.in_ok-program.ensures;
      variables = ap (map (λ v. v.items)) c.deref.ensures.value ∙ c.in_ok-variables.ensures;
    })
