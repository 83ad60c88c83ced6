use Rattle.std.proofs.Common.{map, sym, ◌∙◌}
use Rattle.std.specs.List.{slice_get}
use Rattle.qs_tac.specs.TreeOf.{instruction_tree}
use Rattle.qs_tac.specs.Uses.{reads}
use Rattle.qs_alloc.specs.Verification.{is_apart_at_entry}
use Rattle.qs_alloc.proofs.Tests.{all_on, all_off, all_past}
use Rattle.qs_alloc.proofs.sharing.are_read_apart.Goals as goal
use Rattle.qs_alloc.proofs.sharing.are_read_apart.Goals.{in-Some+else-not-is_apart_at_entry, in_default}

pub returns-then-not-is_apart_at_entry : goal.returns-then-not-is_apart_at_entry
returns-then-not-is_apart_at_entry c =
    sym
    (sym c.loop-k.invariant
    ∙ all_off (is_apart_at_entry c.args.parameters.now c.args.at.now (slice_get (map instruction_tree c.args.code.now) 0) c.args.later.now) (reads (instruction_tree c.args.i.now)) c.loop-k.k _ (sym c.read_at.ensures ∙ c.in-Some.is)
    (sym c.is_apart_at_entry.ensures ∙ c.if-not-is_apart_at_entry.true))

pub loop-k-preserved : goal.loop-k-preserved
loop-k-preserved c = elim c.match-read_at.branch [
  | in-Some+else-not-is_apart_at_entry w ↦
      all_on (is_apart_at_entry c.args.parameters.now c.args.at.now (slice_get (map instruction_tree c.args.code.now) 0) c.args.later.now) (reads (instruction_tree c.args.i.now)) c.loop-k.k _ (sym c.read_at.ensures ∙ w.in-Some.is)
      (sym w.is_apart_at_entry.ensures ∙ w.if-not-is_apart_at_entry.false)
      ∙ c.loop-k.invariant
  | in_default w ↦
      all_past (is_apart_at_entry c.args.parameters.now c.args.at.now (slice_get (map instruction_tree c.args.code.now) 0) c.args.later.now) (reads (instruction_tree c.args.i.now)) c.loop-k.k (sym c.read_at.ensures ∙ w.in_default.is) ∙ c.loop-k.invariant
]
