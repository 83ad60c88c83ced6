-- What of a unit fits that fits as a whole.
use Rattle.std.proofs.Common.{◌≡◌, ℕ, zero, suc, ◌^◌, ◌<◌, ◌≤◌, Bool, true, List, [], ◌∷◌, length, map, drop, refl, ap, sym, ◌∙◌, arith}
use Rattle.std.specs.Prelude.{◌&&◌, nat_lt}
use Rattle.std.specs.List.{list_all}
use Rattle.std.proofs.lemmas.Bool.Decides.{nat_tests}
use Rattle.std.proofs.lemmas.Bool.{and_parts}
use Rattle.qs_memory.specs.Memory.{BlankTree}
use Rattle.qs_memory.specs.BlankOf.{blank_tree, joined_of}
use Rattle.qs_memory.specs.Sizes.{blank_size}
use Rattle.qs_memory.specs.declared.blank.Blank.{Blank}
use Rattle.qs_tac.specs.Trees.{fill, TacFunctionTree, TacUnitTree}
use Rattle.qs_tac.specs.Fits.{address_fits, parameter_fits, is_word, instruction_fits, function_fits, data_fits, unit_fits}
use Rattle.qs_tac.specs.declared.operands.Address.{Address}

pub fill_fits :
    (u : TacUnitTree) (f : TacFunctionTree) (b : BlankTree) (p : Address) → instruction_fits u f (fill b p) ≡ true → blank_size b < 2 ^ 32
fill_fits u f b p h =
    let t = and_parts (nat_lt (blank_size b) (2 ^ 32)) (address_fits u f p) h in
    grind (arith, nat_tests, t.0)

pub code_fits : (u : TacUnitTree) (f : TacFunctionTree) → function_fits u f ≡ true → list_all (instruction_fits u f) f.code ≡ true
code_fits u f h = (and_parts (list_all (parameter_fits f) f.parameters && list_all is_word f.blocks) (list_all (instruction_fits u f) f.code) h).1

pub functions_fit : (u : TacUnitTree) → unit_fits u ≡ true → list_all (function_fits u) u.functions ≡ true
functions_fit u h =
    (and_parts (list_all (function_fits u) u.functions) _
    (and_parts (list_all (function_fits u) u.functions && _) (list_all data_fits u.data_blocks) h).0).0

pub first_passes :
    {A : Type 0} (passes : A → Bool) (g : A) (all rest : List A) → all ≡ g ∷ rest
    → list_all passes all ≡ true → (passes g ≡ true) × (list_all passes rest ≡ true)
first_passes passes g all rest a h = and_parts (passes g) (list_all passes rest) (ap (list_all passes) (sym a) ∙ h)

pub nothing_rests : (parts : List Blank) (k : ℕ) → length parts ≤ k → blank_size (joined_of (map blank_tree (drop k parts))) ≡ 0
nothing_rests [] zero h = refl
nothing_rests [] (suc k) h = refl
nothing_rests (b ∷ parts) zero h = absurd (omega (arith, h))
nothing_rests (b ∷ parts) (suc k) h = nothing_rests parts k (omega (arith, h))
