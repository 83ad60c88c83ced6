use Rattle.std.proofs.Common.{sym, ◌∙◌}
use Rattle.qs_tac.specs.TreeOf.{instruction_tree}
use Rattle.qs_tac.specs.Uses.{reads}
use Rattle.qs_alloc.specs.Verification.{is_apart}
use Rattle.qs_alloc.proofs.Tests.{all_on, all_off, all_past}
use Rattle.qs_alloc.proofs.sharing.is_apart_from_reads.Goals as goal
use Rattle.qs_alloc.proofs.sharing.is_apart_from_reads.Goals.{in-Some+else-not-is_apart, in_default}

pub returns-then-not-is_apart : goal.returns-then-not-is_apart
returns-then-not-is_apart c =
    sym
    (sym c.loop-k.invariant
    ∙ all_off (is_apart c.args.at.now c.args.t) (reads (instruction_tree c.args.i.now)) c.loop-k.k _ (sym c.read_at.ensures ∙ c.in-Some.is)
    (sym c.is_apart.ensures ∙ c.if-not-is_apart.true))

pub loop-k-preserved : goal.loop-k-preserved
loop-k-preserved c = elim c.match-read_at.branch [
  | in-Some+else-not-is_apart w ↦
      all_on (is_apart c.args.at.now c.args.t) (reads (instruction_tree c.args.i.now)) c.loop-k.k _ (sym c.read_at.ensures ∙ w.in-Some.is)
      (sym w.is_apart.ensures ∙ w.if-not-is_apart.false)
      ∙ c.loop-k.invariant
  | in_default w ↦
      all_past (is_apart c.args.at.now c.args.t) (reads (instruction_tree c.args.i.now)) c.loop-k.k (sym c.read_at.ensures ∙ w.in_default.is) ∙ c.loop-k.invariant
]
