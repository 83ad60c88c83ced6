use Rattle.std.proofs.Common.{rules, ◌≡◌, Some, map, option_map, sym, ap, ◌∙◌}
use Rattle.std.specs.List.{slice_get}
use Rattle.qs_types.specs.Expressions.{member_in}
use Rattle.qs_types.specs.Layout.{and_then, struct_of}
use Rattle.qs_types.specs.StructsOf.{member_tree, struct_tree}
use Rattle.qs_types.specs.TypeOf.{type_tree}
use Rattle.qs_types.proofs.StructLayouts.{item}
use Rattle.qs_typing_findings.proofs.MemberLookups.{seen, entry_member, member_there}
use Rattle.qs_typing_findings.proofs.members.member_of.Goals as goal

pub returns : goal.returns
returns c =
    let at : slice_get c.structs.result.now c.args.k ≡ Some c.in_ok-get.field-0.now =
    sym (item c.structs.result.now c.args.k (Some c.in_ok-get.field-0) c.in_ok-get.ensures.lookup) in
    let known : struct_tree c.in_ok-get.field-0.now ≡ Some (map member_tree c.in_ok-members.members.now.entries) = search rules in
    seen c.get-2.result
    ∙ ap (option_map type_tree) c.get-2.ensures.value
    ∙ entry_member c.args.name.now c.in_ok-members.members.now.entries
    ∙ member_there c.structs.result.now c.args.k c.in_ok-get.field-0.now (map member_tree c.in_ok-members.members.now.entries) c.args.name.now at known
    ∙ ap (λ e. and_then (struct_of e c.args.k) (member_in c.args.name.now)) c.structs.ensures
