use Rattle.std.proofs.Common.{ℕ, Option, ap, arith}
use Rattle.std.specs.Prelude.{option_to_list}
use Rattle.qs_alloc.proofs.RowLaws.{noted_as, noted_none, noted_more, take_long}
use Rattle.qs_alloc.proofs.rows.note_reads.Goals as goal

pub loop-k-init : goal.loop-k-init
loop-k-init c = noted_none _ _

pub loop-k-preserved : goal.loop-k-preserved
loop-k-preserved c =
    noted_more _ _ _ _ _ _ c.loop-k.invariant
    (noted_as _ _ _ _ _ (ap (λ (o : Option ℕ). option_to_list o) c.read_at.ensures) c.in_ok-note_some.ensures)

pub returns : goal.returns
returns c =
    noted_as _ _ _ _ _ (take_long _ c.loop-k.k (let few = c.read_limit-k-end.ensures in omega (arith, few))) c.loop-k.invariant
