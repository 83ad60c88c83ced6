use Rattle.std.proofs.Common.{◌≡◌, ◌+◌, ◌∷◌, drop, map, sym, ap, ◌∙◌, arith}
use Rattle.std.proofs.lemmas.List.{drop_more}
use Rattle.qs_syntax.specs.TreeOf.{declarator_tree}
use Rattle.qs_types.specs.UnitRules.{after_together}
use Rattle.qs_typing_findings.specs.ContextOf.{context_tree}
use Rattle.qs_typing.specs.MembersOf.{before_tree}
use Rattle.qs_typing_findings.specs.UnitWalk.{together_walked}
use Rattle.qs_typing_findings.specs.WalkOf.{walk_tree}
use Rattle.qs_typing.proofs.structs.walk_together.Goals as goal

pub loop-d-preserved : goal.loop-d-preserved
loop-d-preserved c =
    let known = context_tree c.args.c.now in
    let base = c.args.base.now in
    let ds = c.args.ds.now in
    let i = c.loop-d.d-index in
    let d = c.d-item.result in
    let rest : drop i ds ≡ d ∷ drop (i + 1) ds = drop_more ds i d (omega arith) ∙ ap (λ x. x ∷ drop (i + 1) ds) (sym c.d-item.is) in
    let done = c.in_ok-walk_member.ensures in
    record {
      before =
          c.loop-d.invariant.before
          ∙ ap (λ l. after_together known (before_tree c.loop-d.before) base (map declarator_tree l)) rest
          ∙ ap (λ b. after_together known b base (map declarator_tree (drop (i + 1) ds))) (sym done.before);
      walked =
          c.loop-d.invariant.walked
          ∙ ap (λ l. together_walked known (before_tree c.loop-d.before) base (map declarator_tree l) (walk_tree c.loop-d.walk)) rest
          ∙ (λ j. together_walked known (sym done.before j) base (map declarator_tree (drop (i + 1) ds)) (sym done.walked j));
    }
