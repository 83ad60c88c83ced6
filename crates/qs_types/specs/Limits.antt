-- How many a unit may have of what is counted: the six counts with their limits, and the node at which each but the height first passes
-- its limit. The height is that of a reading, which a unit has.
use Rattle.std.specs.Prelude.{◌≡◌, ◌≤◌, ℕ, ◌+◌, max, nat_lt, true, List, [], ◌∷◌, ◌++◌, Option, Some, None, length, map, sum_by, if◌then◌else◌}
use Rattle.std.specs.List.{slice_get}
use Rattle.std.specs.Option.{option_or}
use Rattle.qs_base.specs.Bytes.{same_bytes}
use Rattle.qs_base.specs.Parameters.{most_main_parameters, most_parameters}
use Rattle.qs_syntax.specs.Nodes.{unit_count}
use Rattle.qs_syntax.specs.Units.{IsRead}
use Rattle.qs_syntax.specs.declared.types.Base.{Base}
use Rattle.qs_syntax.specs.Trees.{VariableTree, ParameterTree, FunctionTree, Stmts, structure, forward, typedef, function, variables, UnitTree}
use Rattle.qs_types.specs.Types.{TypeTree, Structs}
use Rattle.qs_types.specs.declared.extent.Extent.{Extent}
use Rattle.qs_types.specs.Layout.{and_then, layout_of, sized_by, rounded_up}
use Rattle.qs_types.specs.GivenFunctions.{main_name}
use Rattle.qs_types.specs.Contexts.{Context, start_context}
use Rattle.qs_types.specs.Declarations.{variable_declared}
use Rattle.qs_types.specs.StatementRules.{after_variable}
use Rattle.qs_types.specs.UnitRules.{is_name_in, with_name_once, after_declaration}
use Rattle.qs_types.specs.Placed.{Local, placed_in}
use Rattle.qs_types.specs.References.{TextBlock, literal_blocks}

-- ---- nodes, which are numbered from 0

abbrev pub node_limit : ℕ
node_limit = 10000

abbrev pub first_past_nodes : (limit : ℕ) → UnitTree → Option ℕ
first_past_nodes limit unit = if nat_lt limit (unit_count unit) then Some limit else None

-- ---- different names in headers, those of putchar and getchar where they are declared

abbrev pub function_limit : ℕ
function_limit = 512

abbrev pub names_from : (names : List (List ℕ)) → UnitTree → List (List ℕ)
names_from names [] = names
names_from names (structure s ∷ ds) = names_from names ds
names_from names (forward f ∷ ds) = names_from names ds
names_from names (typedef t ∷ ds) = names_from names ds
names_from names (function f ∷ ds) = names_from (with_name_once names f.name) ds
names_from names (variables d ∷ ds) = names_from names ds

abbrev pub function_count : UnitTree → ℕ
function_count unit = length (names_from [] unit)

abbrev pub header_past : (limit : ℕ) → (names : List (List ℕ)) → UnitTree → Option ℕ
header_past limit names [] = None
header_past limit names (structure s ∷ ds) = header_past limit names ds
header_past limit names (forward f ∷ ds) = header_past limit names ds
header_past limit names (typedef t ∷ ds) = header_past limit names ds
header_past limit names (function f ∷ ds) =
    if is_name_in f.name names then header_past limit names ds else
    if nat_lt limit (length names + 1) then Some f.node.id else header_past limit (names ++ f.name ∷ []) ds
header_past limit names (variables d ∷ ds) = header_past limit names ds

abbrev pub first_past_functions : (limit : ℕ) → UnitTree → Option ℕ
first_past_functions limit unit = header_past limit [] unit

-- ---- parameters of a header

-- main may have fewer than others
abbrev pub parameter_limit : (name : List ℕ) → ℕ
parameter_limit name = if same_bytes name main_name then most_main_parameters else most_parameters

-- the most of one header
abbrev pub parameter_count : UnitTree → ℕ
parameter_count [] = 0
parameter_count (structure s ∷ ds) = parameter_count ds
parameter_count (forward f ∷ ds) = parameter_count ds
parameter_count (typedef t ∷ ds) = parameter_count ds
parameter_count (function f ∷ ds) = max (length f.parameters) (parameter_count ds)
parameter_count (variables d ∷ ds) = parameter_count ds

-- and the most of one header of main
abbrev pub main_parameter_count : UnitTree → ℕ
main_parameter_count [] = 0
main_parameter_count (structure s ∷ ds) = main_parameter_count ds
main_parameter_count (forward f ∷ ds) = main_parameter_count ds
main_parameter_count (typedef t ∷ ds) = main_parameter_count ds
main_parameter_count (function f ∷ ds) =
    max (if same_bytes f.name main_name then length f.parameters else 0) (main_parameter_count ds)
main_parameter_count (variables d ∷ ds) = main_parameter_count ds

abbrev pub node_of_parameter : Option ParameterTree → Option ℕ
node_of_parameter None = None
node_of_parameter (Some p) = Some p.node.id

abbrev pub parameter_past : (limit : List ℕ → ℕ) → FunctionTree → Option ℕ
parameter_past limit f = node_of_parameter (slice_get f.parameters (limit f.name))

abbrev pub first_past_parameters : (limit : List ℕ → ℕ) → UnitTree → Option ℕ
first_past_parameters limit [] = None
first_past_parameters limit (structure s ∷ ds) = first_past_parameters limit ds
first_past_parameters limit (forward f ∷ ds) = first_past_parameters limit ds
first_past_parameters limit (typedef t ∷ ds) = first_past_parameters limit ds
first_past_parameters limit (function f ∷ ds) = option_or (parameter_past limit f) (first_past_parameters limit ds)
first_past_parameters limit (variables d ∷ ds) = first_past_parameters limit ds

-- ---- blocks of memory: each begins at a multiple of 4

abbrev pub word_size : ℕ
word_size = 4

-- a block, and the node that declares it
pub record Block : Type 0 where
  pub node : ℕ
  pub size : ℕ

-- where a block behind this end itself ends
abbrev pub block_end : (end : ℕ) → Block → ℕ
block_end end b = rounded_up end word_size + b.size

-- where blocks end that lie one behind another, the first behind this end
abbrev pub blocks_end : (end : ℕ) → List Block → ℕ
blocks_end end [] = end
blocks_end end (b ∷ bs) = blocks_end (block_end end b) bs

-- the first block that ends past the limit, where they lie one behind another
abbrev pub block_past : (limit end : ℕ) → List Block → Option ℕ
block_past limit end [] = None
block_past limit end (b ∷ bs) = if nat_lt limit (block_end end b) then Some b.node else block_past limit (block_end end b) bs

abbrev pub extent_size : Option Extent → ℕ
extent_size None = 0
extent_size (Some e) = e.size

-- the size of a declared type
abbrev pub type_size : Structs → Option TypeTree → ℕ
type_size structs t = extent_size (and_then t (sized_by (layout_of structs)))

-- ---- data: the variables of file scope in the order of their declarations, and then the texts that are blocks

abbrev pub global_limit : ℕ
global_limit = 16777216

abbrev pub variables_blocks : Context → Base → List VariableTree → List Block
variables_blocks c base [] = []
variables_blocks c base (v ∷ vs) =
    record { node = v.declarator.node.id; size = type_size c.structs (variable_declared c base v).type }
    ∷ variables_blocks (after_variable true c base v) base vs

abbrev pub variable_blocks_from : Context → UnitTree → List Block
variable_blocks_from c [] = []
variable_blocks_from c (structure s ∷ ds) = variable_blocks_from (after_declaration c (structure s)) ds
variable_blocks_from c (forward f ∷ ds) = variable_blocks_from (after_declaration c (forward f)) ds
variable_blocks_from c (typedef t ∷ ds) = variable_blocks_from (after_declaration c (typedef t)) ds
variable_blocks_from c (function f ∷ ds) = variable_blocks_from (after_declaration c (function f)) ds
variable_blocks_from c (variables d ∷ ds) = variables_blocks c d.base d.variables ++ variable_blocks_from (after_declaration c (variables d)) ds

-- 6.4.5p6: the bytes of a text and a zero
abbrev pub text_block : TextBlock → Block
text_block t = record { node = t.node; size = length t.bytes + 1 }

abbrev pub data_blocks : UnitTree → List Block
data_blocks unit = variable_blocks_from start_context unit ++ map text_block (literal_blocks unit)

abbrev pub data_bytes : UnitTree → ℕ
data_bytes unit = blocks_end 0 (data_blocks unit)

abbrev pub first_past_globals : (limit : ℕ) → UnitTree → Option ℕ
first_past_globals limit unit = block_past limit 0 (data_blocks unit)

-- ---- placed locals and parameters of a function, each in whole words

abbrev pub local_limit : ℕ
local_limit = 1048576

abbrev pub local_block : Structs → Local → Block
local_block structs l = record { node = l.node; size = rounded_up (type_size structs l.type) word_size }

-- the context is that before the header
abbrev pub local_blocks : Context → FunctionTree → Stmts → List Block
local_blocks c f ss = map (local_block c.structs) (placed_in c f ss)

abbrev pub placed_bytes : Context → FunctionTree → Stmts → ℕ
placed_bytes c f ss = sum_by (λ b. b.size) (local_blocks c f ss)

abbrev pub body_bytes : Context → FunctionTree → Option Stmts → ℕ
body_bytes c f None = 0
body_bytes c f (Some ss) = placed_bytes c f ss

abbrev pub placed_from : Context → UnitTree → ℕ
placed_from c [] = 0
placed_from c (structure s ∷ ds) = placed_from (after_declaration c (structure s)) ds
placed_from c (forward f ∷ ds) = placed_from (after_declaration c (forward f)) ds
placed_from c (typedef t ∷ ds) = placed_from (after_declaration c (typedef t)) ds
placed_from c (function f ∷ ds) = max (body_bytes c f f.body) (placed_from (after_declaration c (function f)) ds)
placed_from c (variables d ∷ ds) = placed_from (after_declaration c (variables d)) ds

-- the most of one function
abbrev pub most_placed : UnitTree → ℕ
most_placed unit = placed_from start_context unit

abbrev pub local_past : (limit : ℕ) → Context → FunctionTree → Option Stmts → Option ℕ
local_past limit c f None = None
local_past limit c f (Some ss) = block_past limit 0 (local_blocks c f ss)

abbrev pub local_past_from : (limit : ℕ) → Context → UnitTree → Option ℕ
local_past_from limit c [] = None
local_past_from limit c (structure s ∷ ds) = local_past_from limit (after_declaration c (structure s)) ds
local_past_from limit c (forward f ∷ ds) = local_past_from limit (after_declaration c (forward f)) ds
local_past_from limit c (typedef t ∷ ds) = local_past_from limit (after_declaration c (typedef t)) ds
local_past_from limit c (function f ∷ ds) = option_or (local_past limit c f f.body) (local_past_from limit (after_declaration c (function f)) ds)
local_past_from limit c (variables d ∷ ds) = local_past_from limit (after_declaration c (variables d)) ds

abbrev pub first_past_locals : (limit : ℕ) → UnitTree → Option ℕ
first_past_locals limit unit = local_past_from limit start_context unit

-- ---- units

-- each count is at most its limit; a reading is at most as high as `height_limit`
pub record KeepsLimits (unit : UnitTree) : Type 0 where
  pub nodes : unit_count unit ≤ node_limit
  pub functions : function_count unit ≤ function_limit
  pub parameters : parameter_count unit ≤ most_parameters
  pub main_parameters : main_parameter_count unit ≤ most_main_parameters
  pub globals : data_bytes unit ≤ global_limit
  pub locals : most_placed unit ≤ local_limit
  pub height : IsRead unit

-- no node is the first past a limit
pub record IsWithinLimits (unit : UnitTree) : Type 0 where
  pub nodes : first_past_nodes node_limit unit ≡ None
  pub functions : first_past_functions function_limit unit ≡ None
  pub parameters : first_past_parameters parameter_limit unit ≡ None
  pub globals : first_past_globals global_limit unit ≡ None
  pub locals : first_past_locals local_limit unit ≡ None
