use Rattle.std.proofs.Common.{sym, ◌∙◌, subst}
use Rattle.qs_syntax.specs.UnitTrees.{unit_tree}
use Rattle.qs_typing_findings.specs.ContextOf.{context_tree}
use Rattle.qs_typing_findings.specs.Refusals.{IsAccepted}
use Rattle.qs_typing_findings.specs.WalkOf.{walk_tree}
use Rattle.qs_typing.proofs.CheckingLaws.{is_accepted, late_told, memory_told, none_told, told_of_good}
use Rattle.qs_typing.proofs.checking.check.Goals as goal

pub returns-in-Some-2-clause-good : goal.returns-in-Some-2-clause-good
returns-in-Some-2-clause-good c =
    let unit = unit_tree c.args.unit.now in
    told_of_good unit c.in-Some-2.f
    (late_told unit (context_tree c.in_ok-c.c) (walk_tree c.in_ok-c.walk) c.in-Some-2.f
    (sym c.in_default.is ∙ c.in_ok-f.ensures) c.in_ok-c.ensures.context c.in_ok-c.ensures.walked (sym c.in-Some-2.is ∙ c.in_ok-f-2.ensures))

pub returns-in_err-copy-clause-refused : goal.returns-in_err-copy-clause-refused
returns-in_err-copy-clause-refused c = memory_told (unit_tree c.args.unit.now) c.from_residual-in_err-copy.result c.from_residual-in_err-copy.ensures

pub new-requires-clause-accepted : goal.new-requires-clause-accepted
new-requires-clause-accepted c =
    let unit = unit_tree c.args.unit.now in
    subst IsAccepted (sym c.in_ok-copy.ensures)
    (is_accepted unit
    (none_told unit (context_tree c.in_ok-c.c) (walk_tree c.in_ok-c.walk)
    (sym c.in_default.is ∙ c.in_ok-f.ensures) c.in_ok-c.ensures.context c.in_ok-c.ensures.walked (sym c.in_default-2.is ∙ c.in_ok-f-2.ensures)))
