use Rattle.std.proofs.Common.{ℕ, ◌+◌, if◌then◌else◌, List, [], ◌∷◌, ◌++◌, Option, ◌∙◌, ap}
use Rattle.std.specs.Prelude.{option_to_list}
use Rattle.qs_tac.specs.TreeOf.{instruction_tree}
use Rattle.qs_tac.specs.Liveness.{goes_on}
use Rattle.qs_alloc.proofs.RowLaws.{noted_as, noted_both}
use Rattle.qs_alloc.proofs.rows.note_nexts.Goals as goal

pub returns : goal.returns
returns c =
    noted_as _ _ _ _ _
    (ap (λ (xs : List ℕ). xs ++ option_to_list c.target.result) c.behind.ensures
    ∙ ap (λ (o : Option ℕ). (if goes_on (instruction_tree c.args.i.now) then (c.args.index + 1) ∷ [] else []) ++ option_to_list o) c.target.ensures)
    (noted_both _ _ _ _ _ _ c.in_ok-note_some.ensures c.in_ok-note_some-2.ensures)
