use Rattle.std.proofs.Common.{ℕ, Option, sym, ap}
use Rattle.std.specs.Prelude.{option_to_list}
use Rattle.qs_alloc.proofs.RowLaws.{noted_as, noted_none, noted_one}
use Rattle.qs_alloc.proofs.rows.note_some.Goals as goal

pub returns-in_ok-note-in-Some : goal.returns-in_ok-note-in-Some
returns-in_ok-note-in-Some c =
    noted_as _ _ _ _ _ (sym (ap (λ (o : Option ℕ). option_to_list o) c.in-Some.is)) (noted_one _ _ _ _ c.in_ok-note-in-Some.ensures)

pub returns-in-None : goal.returns-in-None
returns-in-None c = noted_as _ _ _ _ _ (sym (ap (λ (o : Option ℕ). option_to_list o) c.in-None.is)) (noted_none _ _)
