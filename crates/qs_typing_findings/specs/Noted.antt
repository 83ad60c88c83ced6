-- What a walk over a unit notes of it besides types and faults: what is called, and the blocks of memory that it asks for.
use Rattle.std.specs.Prelude.{ℕ, Bool, true, false, List, [], ◌∷◌, ◌++◌, Option, None, map, filter, ◌||◌, if◌then◌else◌}
use Rattle.std.specs.Option.{option_or}
use Rattle.qs_syntax.specs.Trees.{ExprTree, ParameterTree}
use Rattle.qs_types.specs.Types.{TypeTree, Structs}
use Rattle.qs_types.specs.Layout.{rounded_up}
use Rattle.qs_types.specs.Limits.{Block, word_size, type_size, block_past, local_limit}
use Rattle.qs_types.specs.Placed.{is_one_of, is_no_scalar}
use Rattle.qs_types.specs.References.{TextBlock, expr_calls, expr_texts}

-- a local or parameter: its block, and whether it is no scalar
pub record LocalTree : Type 0 where
  pub block : Block
  pub is_object : Bool

-- the names that are called, the texts that are blocks with their bytes, the variables of file scope, the locals of the function so far, and the local
-- at which the placed locals of a function first passed their limit
pub record NotedTree : Type 0 where
  pub calls : List (List ℕ)
  pub texts : List TextBlock
  pub globals : List Block
  pub locals : List LocalTree
  pub local_past : Option ℕ

abbrev pub nothing_noted : NotedTree
nothing_noted = record { calls = []; texts = []; globals = []; locals = []; local_past = None }

-- an expression that is no part of another
abbrev pub site_noted : (fills_array : Bool) → ExprTree → NotedTree → NotedTree
site_noted fills e n = record n {
  calls = n.calls ++ expr_calls e;
  texts = n.texts ++ (if fills then [] else expr_texts e);
}

abbrev pub local_tree : Structs → (node : ℕ) → Option TypeTree → LocalTree
local_tree structs node t = record {
  block = record { node = node; size = rounded_up (type_size structs t) word_size };
  is_object = is_no_scalar t;
}

-- a variable
abbrev pub variable_noted : (at_file_scope : Bool) → Structs → (node : ℕ) → Option TypeTree → NotedTree → NotedTree
variable_noted true structs node t n = record n { globals = n.globals ++ record { node = node; size = type_size structs t } ∷ [] }
variable_noted false structs node t n = record n { locals = n.locals ++ local_tree structs node t ∷ [] }

-- ---- functions

abbrev pub parameters_noted : Structs → List ParameterTree → List (Option TypeTree) → List LocalTree
parameters_noted structs [] ts = []
parameters_noted structs (p ∷ ps) [] = []
parameters_noted structs (p ∷ ps) (t ∷ ts) = local_tree structs p.node.id t ∷ parameters_noted structs ps ts

-- at the begin of a body
abbrev pub body_begun : List LocalTree → NotedTree → NotedTree
body_begun ls n = record n { locals = ls }

abbrev pub is_block : (nodes : List ℕ) → LocalTree → Bool
is_block nodes l = is_one_of l.block.node nodes || l.is_object

abbrev pub local_past_by : (nodes : List ℕ) → List LocalTree → Option ℕ
local_past_by nodes ls = block_past local_limit 0 (map (λ l. l.block) (filter (is_block nodes) ls))

-- at its end, where the names of these declarations are operands of `&`
abbrev pub body_ended : (nodes : List ℕ) → NotedTree → NotedTree
body_ended nodes n = record n { locals = []; local_past = option_or n.local_past (local_past_by nodes n.locals) }
