-- The bytes of calls and of data in core.
use Rattle.std.proofs.Common.{◌≡◌, ◌≤◌, ℕ, List, [], ◌∷◌, map, refl, sym, ap, ◌∙◌, subst, arith}
use Rattle.qs_types.specs.Limits.{Block, global_limit, local_limit, data_blocks}
use Rattle.qs_types.proofs.LimitLaws.{keeps_limits}
use Rattle.qs_core.specs.Trees.{CoreFunctionTree, CoreUnitTree}
use Rattle.qs_meaning.specs.Typed.{Function}
use Rattle.qs_meaning.proofs.FitReadings.{read_is_as_read}
use Rattle.qs_meaning.proofs.FitBlocks.{all_exact, typed_data_is_good, typed_data_is_whole}
use Rattle.qs_elaborate_bodies.specs.Names.{FunctionNames, names_in}
use Rattle.qs_elaborate_bodies.specs.Units.{functions_core}
use Rattle.qs_elaborate_limits.specs.Measures.{highest, bytes_in_words, data_end, data_size}
use Rattle.qs_elaborate_limits.specs.Laws.{PlacedBytesAreFew, DataBytesAreFew}
use Rattle.qs_elaborate_limits.proofs.PlacedBytes.{placed_of, placed_is_counted}
use Rattle.qs_elaborate_limits.proofs.DataBytes.{ends_are, sizes_kept}
use Rattle.qs_elaborate_limits.proofs.CoreUnits.{made, functions_are, all_below}

-- ---- calls

abbrev core_placed : CoreFunctionTree → ℕ
core_placed f = bytes_in_words f.blocks

same_placed : (names : List FunctionNames) (gs : List Function) → highest core_placed (functions_core names gs) ≡ highest placed_of gs
same_placed names [] = refl
same_placed [] (g ∷ gs) = let e = same_placed [] gs in omega arith
same_placed (f ∷ names) (g ∷ gs) = let e = same_placed names gs in omega arith

pub placed_bytes_are_few : PlacedBytesAreFew
placed_bytes_are_few unit core read well limits q =
    let m = made unit core q in
    let counted = placed_is_counted unit m.typed (read_is_as_read unit read) well m.tree in
    let limit = (keeps_limits unit read limits).locals in
    let kept = same_placed (names_in unit) m.typed.functions in
    all_below core_placed local_limit core.functions
    (subst (λ fs. highest core_placed fs ≤ local_limit) (functions_are unit core m) (omega arith))

-- ---- data

pub data_bytes_are_few : DataBytesAreFew
data_bytes_are_few unit core read well limits q =
    let m = made unit core q in
    let as_read = read_is_as_read unit read in
    let good = typed_data_is_good unit m.typed as_read well limits m.tree in
    let whole = typed_data_is_whole unit m.typed as_read well limits m.tree in
    let sizes = sizes_kept m.typed.blocks whole.whole ∙ all_exact (map (λ (b : Block). b.size) (data_blocks unit)) m.typed.blocks good in
    let end = ap data_end sizes ∙ sym (ends_are (data_blocks unit)) in
    let limit = (keeps_limits unit read limits).globals in
    subst (λ (z : CoreUnitTree). data_end (map data_size z.data_blocks) ≤ global_limit) m.is (omega arith)
