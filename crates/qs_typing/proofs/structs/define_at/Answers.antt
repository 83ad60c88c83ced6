use Rattle.std.proofs.Common.{map, sym, ap, ◌∙◌}
use Rattle.qs_types.specs.StructsOf.{member_tree}
use Rattle.qs_types.specs.UnitRules.{define_at}
use Rattle.qs_typing_findings.specs.ContextOf.{context_tree}
use Rattle.qs_typing.proofs.MemberDefinitions.{defined_by}
use Rattle.qs_typing.proofs.structs.define_at.Goals as goal

pub returns-in_ok-define-in-Some : goal.returns-in_ok-define-in-Some
returns-in_ok-define-in-Some c =
    let known = context_tree c.args.c.now in
    let members = c.args.members.entries in
    let done = c.in_ok-define-in-Some in
    defined_by known (context_tree c.define.new.self) c.in-Some.k members done.field-0 (sym c.has_no_members.ensures ∙ c.if-has_no_members.true) done.ensures.told done.ensures.defined
    ∙ ap (define_at known (map member_tree members)) (sym c.in-Some.is)
