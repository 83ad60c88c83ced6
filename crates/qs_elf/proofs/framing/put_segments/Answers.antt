use Rattle.std.proofs.Common.{length}
use Rattle.std.proofs.lemmas.Result.{IfOk-weaker}
use Rattle.qs_elf.proofs.Laws.{same_segments}
use Rattle.qs_elf.proofs.framing.put_segments.Goals as goal

pub returns : goal.returns
returns c =
    IfOk-weaker c.put_segment-3.result _ _
    (λ ok e.
    same_segments _ _ _ _ (length c.args.p.now.head.now) (length c.args.p.now.code.now) (length c.args.p.now.data_bytes.now) _ _ _
    c.code_at.ensures c.data_at.ensures c.note_bytes.ensures c.in_ok-put_segment.ensures c.in_ok-put_segment-2.ensures e)
    c.put_segment-3.ensures
