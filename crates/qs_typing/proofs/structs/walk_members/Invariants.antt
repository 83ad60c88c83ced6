use Rattle.std.proofs.Common.{◌≡◌, drop, map}
use Rattle.qs_syntax.specs.TreeOf.{members_tree}
use Rattle.qs_types.specs.UnitRules.{after_members}
use Rattle.qs_typing_findings.specs.ContextOf.{context_tree}
use Rattle.qs_typing.specs.MembersOf.{before_tree}
use Rattle.qs_typing_findings.specs.UnitWalk.{members_walked}
use Rattle.qs_typing_findings.specs.WalkOf.{walk_tree}
use Rattle.qs_typing.proofs.structs.walk_members.Given as goal

abbrev pub invariant-loop-m : goal.invariant-loop-m
invariant-loop-m l = record {
  before :
      after_members (context_tree l.c) (before_tree l.initial.before) (map members_tree l.ms)
      ≡ after_members (context_tree l.c) (before_tree l.before) (map members_tree (drop l.m-index l.ms));
  walked :
      members_walked (context_tree l.c) (before_tree l.initial.before) (map members_tree l.ms) (walk_tree l.initial.walk)
      ≡ members_walked (context_tree l.c) (before_tree l.before) (map members_tree (drop l.m-index l.ms)) (walk_tree l.walk);
}
