use Rattle.std.proofs.Common.{map, option_map, option_to_list}
use Rattle.qs_syntax.specs.TreeOf.{option_tree}
use Rattle.qs_types.specs.TypeOf.{type_tree}
use Rattle.qs_typing_findings.specs.ContextOf.{context_tree}
use Rattle.qs_typing_findings.specs.JudgedOf.{test_tree}
use Rattle.qs_typing_findings.specs.WalkOf.{walk_tree}
use Rattle.qs_typing.proofs.Heads.{head_is}
use Rattle.qs_typing.proofs.statements.walk_head.Goals as goal

pub returns : goal.returns
returns c =
    head_is (context_tree c.args.c.now) c.args.node c.args.typed (option_tree c.args.condition.now) (option_tree c.args.step.now)
    (walk_tree c.args.walk.now) (walk_tree c.walk_option.new.walk) (walk_tree c.walk_option-2.new.walk) (walk_tree c.judge_option.new.walk)
    (option_map type_tree c.in_ok-t.t) (option_map type_tree c.in_ok-u.u) (map test_tree (option_to_list c.head_test.result))
    c.in_ok-t.ensures.typed c.in_ok-t.ensures.walked c.in_ok-u.ensures.typed c.in_ok-u.ensures.walked c.head_test.ensures c.judge_option.ensures
