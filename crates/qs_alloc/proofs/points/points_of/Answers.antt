use Rattle.std.proofs.Common.{sym, ◌∙◌}
use Rattle.qs_alloc.proofs.RegisterLaws.{points_two, points_three}
use Rattle.qs_alloc.proofs.points.points_of.Goals as goal

pub returns-then-not-is_held_at_entry : goal.returns-then-not-is_held_at_entry
returns-then-not-is_held_at_entry c = points_two _ _ _ _ _ _ _ _ c.requires.writers c.new-points.ensures.items c.in_ok-extend_from_slice.ensures.items c.in_ok-extend_from_slice-2.ensures.items (λ e. absurd (cc (c.is_held_at_entry.ensures, e, c.if-not-is_held_at_entry.true)))

pub returns : goal.returns
returns c = points_three _ _ _ _ _ _ _ _ _ c.requires.writers c.new-points.ensures.items c.in_ok-extend_from_slice.ensures.items c.in_ok-extend_from_slice-2.ensures.items c.in_ok-push.ensures.items (sym c.is_held_at_entry.ensures ∙ c.if-not-is_held_at_entry.false)
