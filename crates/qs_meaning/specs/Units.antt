-- The typed tree of a unit (C11 6.9), and the memory in which its runs begin.
use Rattle.std.specs.Prelude.{ℕ, not, true, List, [], ◌∷◌, ◌++◌, Option, Some, None, length, map, filter, slice_index_or}
use Rattle.qs_base.specs.Bytes.{same_bytes}
use Rattle.qs_syntax.specs.declared.types.Base.{Base}
use Rattle.qs_syntax.specs.Trees.{VariableTree, ParameterTree, FunctionTree, DeclTree, structure, forward, function, variables, UnitTree, typedef}
use Rattle.qs_syntax.specs.Trees as trees
use Rattle.qs_memory.specs.declared.scalar.Scalar.{Scalar}
use Rattle.qs_memory.specs.Partial.{◌>>=◌}
use Rattle.qs_calls.specs.declared.parameter.Parameter.{Parameter}
use Rattle.qs_calls.specs.declared.parameter.Parameter.TheVariants.{Plain, Placed}
use Rattle.qs_memory.specs.Memory.{unset, Block, Memory}
use Rattle.qs_types.specs.Types.{TypeTree, int, unsigned, char, void, pointer, array, struct, Structs}
use Rattle.qs_types.specs.Layout.{size_of}
use Rattle.qs_types.specs.GivenFunctions.{main_name}
use Rattle.qs_types.specs.Contexts.{Context, start_context, inner_scope}
use Rattle.qs_types.specs.Declarations.{variable_declared}
use Rattle.qs_types.specs.StatementRules.{after_variable}
use Rattle.qs_types.specs.UnitRules.{parameter_types, result_type, body_context, after_declaration}
use Rattle.qs_types.specs.Placed.{Local, addressed_in, parameters_locals, statements_locals, is_placed}
use Rattle.qs_types.specs.References.{TextBlock, literal_blocks}
use Rattle.qs_meaning.specs.Typed.{Expr, pointer_to, Lvalue, variable, object, local, Function, StaticBlock, TypedProgram}
use Rattle.qs_meaning.specs.Conversions.{scalar_of}
use Rattle.qs_meaning.specs.Names.{Locals, Scope, within, local_lvalue}
use Rattle.qs_meaning.specs.InitialValues.{variable_block, text_block}
use Rattle.qs_meaning.specs.Statements.{statements_typed}

-- ---- the locals of a function

abbrev pub nodes_of : List Local → List ℕ
nodes_of ls = map (λ (l : Local). l.node) ls

abbrev pub placed_among : (addressed : List ℕ) → List Local → List Local
placed_among addressed ls = filter (is_placed addressed) ls

abbrev pub plain_among : (addressed : List ℕ) → List Local → List Local
plain_among addressed ls = filter (λ (l : Local). not (is_placed addressed l)) ls

-- the k-th parameter has the k-th variable, placed ones too, and the plain locals have those that follow
abbrev pub variables_among : (addressed : List ℕ) → (parameters locals : List Local) → List Local
variables_among addressed parameters locals = parameters ++ plain_among addressed locals

abbrev pub locals_of : (addressed : List ℕ) → (parameters locals : List Local) → Locals
locals_of addressed parameters locals = record {
  variables = nodes_of (variables_among addressed parameters locals);
  placed = nodes_of (placed_among addressed (parameters ++ locals));
}

abbrev pub parameters_in : Context → FunctionTree → List Local
parameters_in c f = parameters_locals f.parameters (parameter_types (inner_scope c) f.parameters)

-- the locals of a function; the context is that before its header
abbrev pub function_locals : Context → FunctionTree → trees.Stmts → Locals
function_locals c f body = locals_of (addressed_in c f body) (parameters_in c f) (statements_locals (body_context c f) body)

-- the types of variables
abbrev pub scalars_of : List Local → Option (List Scalar)
scalars_of [] = Some []
scalars_of (l ∷ ls) = l.type >>= λ t. scalars_of ls >>= λ rest. Some (scalar_of t ∷ rest)

-- the sizes of placed locals
abbrev pub sizes_of : Structs → List Local → Option (List ℕ)
sizes_of structs [] = Some []
sizes_of structs (l ∷ ls) = l.type >>= size_of structs >>= λ size. sizes_of structs ls >>= λ rest. Some (size ∷ rest)

-- ---- parameters (6.9.1p9, p10): an argument is the parameter's first value

abbrev pub parameter_in_object : Scalar → Expr → Option Parameter
parameter_in_object type (pointer_to (local k)) = Some (Placed k type)
parameter_in_object type _ = None

abbrev pub parameter_by : Scalar → Lvalue → Option Parameter
parameter_by type (variable x) = Some (Plain x)
parameter_by type (object p) = parameter_in_object type p

abbrev pub parameter_typed : Locals → ParameterTree → Option TypeTree → Option Parameter
parameter_typed locals p type = type >>= λ t. parameter_by (scalar_of t) (local_lvalue locals p.node.id)

abbrev pub parameters_typed : Locals → List ParameterTree → List (Option TypeTree) → Option (List Parameter)
parameters_typed locals [] [] = Some []
parameters_typed locals [] (t ∷ ts) = None
parameters_typed locals (p ∷ ps) [] = None
parameters_typed locals (p ∷ ps) (t ∷ ts) = parameter_typed locals p t >>= λ now. parameters_typed locals ps ts >>= λ rest. Some (now ∷ rest)

-- ---- functions (6.9.1); the scope is that before the header

-- 6.9.1p3: void is no type of values
abbrev pub result_scalar : Option TypeTree → Option Scalar
result_scalar None = None
result_scalar (Some int) = Some (scalar_of int)
result_scalar (Some unsigned) = Some (scalar_of unsigned)
result_scalar (Some char) = Some (scalar_of char)
result_scalar (Some void) = None
result_scalar (Some (pointer t)) = Some (scalar_of (pointer t))
result_scalar (Some (array t n)) = Some (scalar_of (array t n))
result_scalar (Some (struct k)) = Some (scalar_of (struct k))

abbrev pub in_body : Scope → FunctionTree → Locals → Scope
in_body s f locals = record s { context = body_context s.context f; locals = locals }

-- the function, where these are its parameters, the locals of its body, and the operands of `&` among them
abbrev pub function_with : Scope → FunctionTree → trees.Stmts → (addressed : List ℕ) → (parameters locals : List Local) → Option Function
function_with s f body addressed ps ls =
    parameters_typed (locals_of addressed ps ls) f.parameters (parameter_types (inner_scope s.context) f.parameters) >>= λ parameters.
    scalars_of (variables_among addressed ps ls) >>= λ scalars.
    sizes_of s.context.structs (placed_among addressed (ps ++ ls)) >>= λ sizes.
    statements_typed (in_body s f (locals_of addressed ps ls)) body >>= λ statements.
    Some (record {
      name = f.name;
      result = result_scalar (result_type s.context f);
      parameters = parameters;
      variables = scalars;
      blocks = sizes;
      body = statements;
      is_main = same_bytes f.name main_name;
    })

abbrev pub function_typed : Scope → FunctionTree → Option trees.Stmts → Option (List Function)
function_typed s f None = Some []
function_typed s f (Some body) =
    function_with s f body (addressed_in s.context f body) (parameters_in s.context f) (statements_locals (body_context s.context f) body)
    >>= λ g. Some (g ∷ [])

-- ---- file scope (6.9.2)

abbrev pub file_variable_typed : Scope → Base → VariableTree → Option StaticBlock
file_variable_typed s base v =
    (variable_declared s.context base v).type >>= λ t. variable_block (within s (after_variable true s.context base v)) t v.initialiser

abbrev pub file_variables_typed : Scope → Base → List VariableTree → Option (List StaticBlock)
file_variables_typed s base [] = Some []
file_variables_typed s base (v ∷ vs) =
    file_variable_typed s base v >>= λ now. file_variables_typed (within s (after_variable true s.context base v)) base vs >>= λ rest.
    Some (now ∷ rest)

abbrev pub no_functions : Option (List StaticBlock) → Option TypedProgram
no_functions blocks = blocks >>= λ bs. Some (record { functions = []; blocks = bs })

abbrev pub no_blocks : Option (List Function) → Option TypedProgram
no_blocks functions = functions >>= λ fs. Some (record { functions = fs; blocks = [] })

abbrev pub declaration_typed : Scope → DeclTree → Option TypedProgram
declaration_typed s (structure d) = Some (record { functions = []; blocks = [] })
declaration_typed s (forward d) = Some (record { functions = []; blocks = [] })
declaration_typed s (typedef d) = Some (record { functions = []; blocks = [] })
declaration_typed s (function f) = no_blocks (function_typed s f f.body)
declaration_typed s (variables d) = no_functions (file_variables_typed s d.base d.variables)

abbrev pub declarations_typed : Scope → UnitTree → Option TypedProgram
declarations_typed s [] = Some (record { functions = []; blocks = [] })
declarations_typed s (d ∷ ds) =
    declaration_typed s d >>= λ (now : TypedProgram). declarations_typed (within s (after_declaration s.context d)) ds >>= λ (rest : TypedProgram).
    Some (record { functions = now.functions ++ rest.functions; blocks = now.blocks ++ rest.blocks })

-- ---- units

-- the file-scope variables, by the numbers of their nodes
abbrev pub file_variables_in : UnitTree → List ℕ
file_variables_in [] = []
file_variables_in (structure d ∷ ds) = file_variables_in ds
file_variables_in (forward d ∷ ds) = file_variables_in ds
file_variables_in (typedef d ∷ ds) = file_variables_in ds
file_variables_in (function f ∷ ds) = file_variables_in ds
file_variables_in (variables d ∷ ds) = map (λ (v : VariableTree). v.declarator.node.id) d.variables ++ file_variables_in ds

abbrev pub name_with_body : List ℕ → Option trees.Stmts → List (List ℕ)
name_with_body x None = []
name_with_body x (Some body) = x ∷ []

-- the names of the functions with a body
abbrev pub functions_in : UnitTree → List (List ℕ)
functions_in [] = []
functions_in (structure d ∷ ds) = functions_in ds
functions_in (forward d ∷ ds) = functions_in ds
functions_in (typedef d ∷ ds) = functions_in ds
functions_in (function f ∷ ds) = name_with_body f.name f.body ++ functions_in ds
functions_in (variables d ∷ ds) = functions_in ds

abbrev pub start_scope : UnitTree → Scope
start_scope unit = record {
  context = start_context;
  locals = record { variables = []; placed = [] };
  statics = record { variables = file_variables_in unit; texts = map (λ (t : TextBlock). t.node) (literal_blocks unit) };
  functions = functions_in unit;
}

-- the typed tree of a unit
abbrev pub typed_of : UnitTree → Option TypedProgram
typed_of unit =
    declarations_typed (start_scope unit) unit >>= λ (u : TypedProgram). Some (record u { blocks = u.blocks ++ map text_block (literal_blocks unit) })

-- ---- the memory in which a run begins: the unit's blocks are its first ones

abbrev pub block_of : StaticBlock → Block
block_of b = record { size = length b.cells; is_live = true; is_writable = b.writable; cells = λ offset. slice_index_or b.cells offset unset }

abbrev pub initial_memory : TypedProgram → Memory
initial_memory u = map block_of u.blocks
