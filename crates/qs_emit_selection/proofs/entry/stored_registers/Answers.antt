use Rattle.std.proofs.Common.{◌≤◌, ◌<◌, ℕ, List, length, sym, subst}
use Rattle.std.specs.Prelude.{All}
use Rattle.qs_tac.specs.TreeOf.{function_tree}
use Rattle.qs_tac.specs.Places.{places_tree}
use Rattle.qs_emit_selection.proofs.EntryLaws.{stored_are_registers, few_are_stored}
use Rattle.qs_emit_selection.proofs.entry.stored_registers.Goals as goal

pub returns-clause-few : goal.returns-clause-few
returns-clause-few c =
    let d = c.args.c.now in
    subst (λ (l : List ℕ). length l ≤ 13) (sym d.keeps) (few_are_stored (function_tree d.function.now) (places_tree d.places.now))

pub returns-clause-registers : goal.returns-clause-registers
returns-clause-registers c =
    let d = c.args.c.now in
    subst (λ (l : List ℕ). All (λ (r : ℕ). r < 32) l) (sym d.keeps) (stored_are_registers (function_tree d.function.now) (places_tree d.places.now))
