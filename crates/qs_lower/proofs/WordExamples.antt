-- How many words the linear code of small functions takes, beside those of core, where variables are out of reach.
use Rattle.std.proofs.Common.{◌≡◌, ℕ, List, [], ◌∷◌, map, Some, refl}
use Rattle.std.specs.Prelude.{replicate}
use Rattle.qs_memory.specs.Memory.{zeros}
use Rattle.qs_memory.specs.declared.scalar.Scalar.TheVariants as scalars
use Rattle.qs_memory.specs.declared.operation.Signedness.TheVariants.{Signed}
use Rattle.qs_memory.specs.declared.operation.Direction.TheVariants.{Up}
use Rattle.qs_memory.specs.declared.operation.Arithmetic.TheVariants.{Add, Multiply}
use Rattle.qs_memory.specs.declared.operation.Comparison.TheVariants.{Less}
use Rattle.qs_memory.specs.declared.operation.BinaryOperation.TheVariants.{Arithmetic, Compare, Move}
use Rattle.qs_core.specs.declared.labels.CoreLabel.TheVariants.{Case, Default}
use Rattle.qs_core.specs.declared.numbers.BlockId.TheVariants as blocks
use Rattle.qs_core.specs.declared.numbers.Target.TheVariants.{Variable}
use Rattle.qs_core.specs.Trees.{CoreExprTree, literal, variable, address_of, load, binary, conversion, logical_and}
use Rattle.qs_core.specs.Trees.{CoreStmtTree, skip, assign, store, fill, branch, loop, switch, break, return, stmts_of, CoreFunctionTree}
use Rattle.qs_core.specs.Sizes as counts
use Rattle.qs_tac.specs.Sizes as sizes
use Rattle.qs_lower.specs.WordLaws.{lowered_function}

-- 600 variables, of which the first ones have these names, and a block of 8 bytes
abbrev large : List CoreStmtTree → CoreFunctionTree
large body = record {
  name = [];
  parameters = [];
  variables = replicate 600 (record { name = []; ordinal = 1; scalar = scalars.Int });
  temporaries = [];
  blocks = 8 ∷ [];
  result_type = Some scalars.Int;
  body = stmts_of body;
}

abbrev x : CoreExprTree
x = variable scalars.Int 0

abbrev y : CoreExprTree
y = variable scalars.Int 1

abbrev p : CoreExprTree
p = variable scalars.Pointer 2

abbrev int : ℕ → CoreExprTree
int n = literal scalars.Int n

abbrev sum : CoreExprTree → CoreExprTree → CoreExprTree
sum a b = binary (Arithmetic Add Signed) a b

abbrev product : CoreExprTree → CoreExprTree → CoreExprTree
product a b = binary (Arithmetic Multiply Signed) a b

abbrev element : CoreExprTree → CoreExprTree → CoreExprTree
element a b = binary (Move Up Signed 4) a b

abbrev bodies : List (List CoreStmtTree)
bodies =
    -- x = x * y + x * y;
    (assign (Variable 0) (sum (product x y) (product x y)) ∷ [])
    -- x = (char)(x + y);
    ∷ (assign (Variable 0) (conversion scalars.Char (sum x y)) ∷ [])
    -- p[x] = y;
    ∷ (store scalars.Int (element p x) y ∷ [])
    -- if (x && y) x = 1; else x = 2;
    ∷ (branch (logical_and x y) (assign (Variable 0) (int 1)) (assign (Variable 0) (int 2)) ∷ [])
    -- while (x < y) x = x + 1;
    ∷ (loop (branch (binary (Compare Less Signed) x y) (assign (Variable 0) (sum x (int 1))) break) skip ∷ [])
    -- return x && y;
    ∷ (return (Some (logical_and x y)) ∷ [])
    -- char a[7] = {0};
    ∷ (fill (zeros 7) (address_of (blocks.Local 0)) ∷ [])
    -- switch (x) { case 5: x = 1; break; default: x = 2; }
    ∷ (switch x (Case 5 0 ∷ Default 2 ∷ []) (stmts_of (assign (Variable 0) (int 1) ∷ break ∷ assign (Variable 0) (int 2) ∷ [])) ∷ [])
    ∷ []

in_core : map (λ body. counts.words (large body)) bodies ≡ 55 ∷ 45 ∷ 50 ∷ 55 ∷ 60 ∷ 66 ∷ 46 ∷ 62 ∷ []
in_core = refl

lowered : map (λ body. sizes.words (lowered_function (large body))) bodies ≡ 55 ∷ 45 ∷ 47 ∷ 52 ∷ 50 ∷ 49 ∷ 45 ∷ 49 ∷ []
lowered = refl

-- ---- values: the pointer and the count are held while what is stored is made

abbrev stored : CoreFunctionTree
stored = large (store scalars.Int (element (load scalars.Pointer p) (sum x y)) (sum x y) ∷ [])

held_in_core : counts.values stored ≡ 603
held_in_core = refl

held_lowered : sizes.values (lowered_function stored) ≡ 603
held_lowered = refl
