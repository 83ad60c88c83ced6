-- Which functions of a unit call which, which file-scope variables they name, and where the initial pointers of these lead. Functions with a
-- body and variables go by their places in the text.
use Rattle.std.specs.Prelude.{ℕ, nat_eq, nat_lt, List, [], ◌∷◌, ◌++◌, Option, Some, None, length, map, filter, filter_map, flat_map, position, slice_index_or}
use Rattle.qs_syntax.specs.Trees.{structure, forward, function, variables, typedef, FunctionTree, Stmts, DeclTree, UnitTree}
use Rattle.qs_memory.specs.Values.{Pointer, null, into}
use Rattle.qs_memory.specs.Memory.{Cell, unset, byte, part}
use Rattle.qs_types.specs.declared.referent.Referent.{Referent}
use Rattle.qs_types.specs.declared.referent.Referent.TheVariants as referents
use Rattle.qs_types.specs.Contexts.{Context, start_context}
use Rattle.qs_types.specs.Referents.{referent_of}
use Rattle.qs_types.specs.UnitRules.{after_declaration}
use Rattle.qs_typing_findings.specs.NodeReferents.{no_referent}
use Rattle.qs_typing_findings.specs.UnitNodes.{of_declaration}
use Rattle.qs_meaning.specs.Typed as typed
use Rattle.qs_meaning.specs.Typed.{StaticBlock, TypedProgram}
use Rattle.qs_meaning.specs.Units.{file_variables_in}
use Rattle.qs_isolation.specs.Callees.{statements_callees}

-- of each function the functions that it calls and the variables that it names, and of each variable the variables that its initial pointers
-- lead to
pub record Links : Type 0 where
  pub called : List (List ℕ)
  pub named : List (List ℕ)
  pub led : List (List ℕ)

-- the numbers of a list that are below a number, and so are functions, or variables
abbrev pub below : ℕ → List ℕ → List ℕ
below count ns = filter (λ n. nat_lt n count) ns

-- what is linked to a number; nothing to one that there isn't
abbrev pub linked : List (List ℕ) → ℕ → List ℕ
linked links n = slice_index_or links n []

-- ---- calls

abbrev pub function_calls : (functions : ℕ) → typed.Function → List ℕ
function_calls count f = below count (statements_callees f.body)

-- ---- names (6.2.1)

-- the file-scope variable that a name stands for, by the number of its node
abbrev pub file_variable : Option Referent → List ℕ
file_variable None = []
file_variable (Some (referents.Local node)) = []
file_variable (Some (referents.File node)) = node ∷ []
file_variable (Some (referents.Function node)) = []
file_variable (Some referents.PutChar) = []
file_variable (Some referents.GetChar) = []

-- those that stand anywhere in the definition of a function: in its body, in array lengths, in labels, below `sizeof` too. The context is that
-- before its header
abbrev pub variables_named : Context → FunctionTree → List ℕ
variables_named c f = flat_map file_variable (of_declaration no_referent referent_of c (function f))

abbrev pub places_among : (variables nodes : List ℕ) → List ℕ
places_among vs nodes = filter_map (λ node. position (nat_eq node) vs) nodes

abbrev pub body_named : (variables : List ℕ) → Context → FunctionTree → Option Stmts → List (List ℕ)
body_named vs c f None = []
body_named vs c f (Some body) = places_among vs (variables_named c f) ∷ []

abbrev pub declaration_named : (variables : List ℕ) → Context → DeclTree → List (List ℕ)
declaration_named vs c (structure d) = []
declaration_named vs c (forward d) = []
declaration_named vs c (typedef d) = []
declaration_named vs c (function f) = body_named vs c f f.body
declaration_named vs c (variables d) = []

abbrev pub functions_named : (variables : List ℕ) → Context → UnitTree → List (List ℕ)
functions_named vs c [] = []
functions_named vs c (d ∷ ds) = declaration_named vs c d ++ functions_named vs (after_declaration c d) ds

-- ---- initial pointers (6.7.9)

abbrev pub pointer_leads : Pointer → List ℕ
pointer_leads null = []
pointer_leads (into block offset) = block ∷ []

abbrev pub cell_leads : Cell → List ℕ
cell_leads unset = []
cell_leads (byte b) = []
cell_leads (part p k) = pointer_leads p

-- the first blocks are those of the variables; those behind them are texts
abbrev pub block_leads : (variables : ℕ) → StaticBlock → List ℕ
block_leads count b = below count (flat_map cell_leads b.cells)

-- ---- units

-- of a unit with its typed tree
abbrev pub links_of : UnitTree → TypedProgram → Links
links_of unit u = record {
  called = map (function_calls (length u.functions)) u.functions;
  named = functions_named (file_variables_in unit) start_context unit;
  led = map (block_leads (length (file_variables_in unit))) u.blocks;
}
