use Rattle.std.proofs.Common.{◌∙◌}
use Rattle.qs_typing.proofs.MemberDefinitions.{member_seen}
use Rattle.qs_typing.proofs.members_before.MembersBefore.has_member.Goals as goal

pub returns : goal.returns
returns c = c.is_some.ensures ∙ member_seen c.args.name.now c.get.result c.args.self.now.members.entries c.get.ensures.value
