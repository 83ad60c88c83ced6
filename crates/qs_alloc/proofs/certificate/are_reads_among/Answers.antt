use Rattle.std.proofs.Common.{sym, ◌∙◌}
use Rattle.qs_tac.specs.TreeOf.{instruction_tree}
use Rattle.qs_tac.specs.Uses.{reads}
use Rattle.qs_alloc.specs.Verification.{is_among}
use Rattle.qs_alloc.proofs.Tests.{all_on, all_off, all_past}
use Rattle.qs_alloc.proofs.certificate.are_reads_among.Goals as goal
use Rattle.qs_alloc.proofs.certificate.are_reads_among.Goals.{in-Some+else-not-is_among, in_default}

pub returns-then-not-is_among : goal.returns-then-not-is_among
returns-then-not-is_among c =
    sym
    (sym c.loop-k.invariant
    ∙ all_off (is_among c.args.earlier.now) (reads (instruction_tree c.args.i.now)) c.loop-k.k _ (sym c.read_at.ensures ∙ c.in-Some.is)
    (sym c.is_among.ensures ∙ c.if-not-is_among.true))

pub loop-k-preserved : goal.loop-k-preserved
loop-k-preserved c = elim c.match-read_at.branch [
  | in-Some+else-not-is_among w ↦
      all_on (is_among c.args.earlier.now) (reads (instruction_tree c.args.i.now)) c.loop-k.k _ (sym c.read_at.ensures ∙ w.in-Some.is)
      (sym w.is_among.ensures ∙ w.if-not-is_among.false)
      ∙ c.loop-k.invariant
  | in_default w ↦
      all_past (is_among c.args.earlier.now) (reads (instruction_tree c.args.i.now)) c.loop-k.k (sym c.read_at.ensures ∙ w.in_default.is) ∙ c.loop-k.invariant
]
