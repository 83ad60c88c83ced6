use Rattle.std.proofs.Common.{[], ◌∷◌, ◌++◌, map, ap, ◌∙◌, arith}
use Rattle.qs_memory.specs.BlankOf.{blank_tree}
use Rattle.qs_types.specs.EnvOf.{env_tree}
use Rattle.qs_meaning.specs.Blanks.{blanks_within}
use Rattle.qs_typed_nodes.proofs.Loops.{drop_item, pushed}
use Rattle.qs_typed_nodes.proofs.BlankTurns.{blank_turn, blank_finish}
use Rattle.qs_typed_nodes.proofs.blanks.+blank.Goals as goal

pub members_parts-loop-i-preserved : goal.members_parts-loop-i-preserved
members_parts-loop-i-preserved t c =
    let m = c.len-else-room-eq0.ensures.len in
    let n = c.len.ensures in
    blank_turn (env_tree c.args.env.now) (blanks_within c.args.depth (env_tree c.args.env.now)) c.args.members.now.entries c.args.layout.now.offsets.items c.loop-i.i c.loop-i.at c.args.layout.now.size
    c.index-offset.result.now c.in_ok-size.size c.in_ok-end.end c.index-t.result.now (blank_tree c.in_ok-part.part) (map blank_tree c.loop-i.parts.items) (map blank_tree c.push-in-loop-i.new.self.items) _
    c.loop-i.invariant c.index-t.ensures (drop_item c.args.layout.now.offsets.items c.loop-i.i c.index-offset.result.now (omega arith) c.index-offset.ensures)
    c.in_ok-part.ensures c.in_ok-size.ensures c.in_ok-end.ensures
    (pushed blank_tree c.push-in-loop-i.new.self.items c.push.new.self.items c.in_ok-part.part c.in_ok-push-2.ensures.items
    ∙ ap (λ done. done ++ blank_tree c.in_ok-part.part ∷ [])
    (pushed blank_tree c.push.new.self.items c.loop-i.parts.items c.padding.result c.in_ok-push.ensures.items
    ∙ ap (λ b. map blank_tree c.loop-i.parts.items ++ b ∷ []) c.padding.ensures))

pub members_parts-returns : goal.members_parts-returns
members_parts-returns t c =
    let m = c.len-i-end.ensures.len in
    blank_finish (env_tree c.args.env.now) (blanks_within c.args.depth (env_tree c.args.env.now)) c.args.members.now.entries c.args.layout.now.offsets.items c.loop-i.i c.loop-i.at c.args.layout.now.size
    (map blank_tree c.loop-i.parts.items) (map blank_tree c.push-2.new.self.items) _ c.loop-i.invariant (omega arith)
    (pushed blank_tree c.push-2.new.self.items c.loop-i.parts.items c.padding-2.result c.in_ok-push-3.ensures.items
    ∙ ap (λ b. map blank_tree c.loop-i.parts.items ++ b ∷ []) c.padding-2.ensures)
