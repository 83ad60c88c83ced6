-- The typed tree of functions, from what is known by the numbers of nodes.
use Rattle.std.specs.Prelude.{ℕ, ◌==◌, Bool, ◌&&◌, List, [], ◌∷◌, ◌++◌, Option, Some, None, map, if◌then◌else◌}
use Rattle.qs_base.specs.Bytes.{same_bytes}
use Rattle.qs_syntax.specs.Trees.{VariableTree, ParameterTree, StartTree, no_start, start_expression, start_declaration, StmtTree, Stmts, no_stmts, stmt_and, Else, no_else, else_by, FunctionTree}
use Rattle.qs_syntax.specs.Trees as trees
use Rattle.qs_memory.specs.Partial.{◌>>=◌}
use Rattle.qs_memory.specs.declared.scalar.Scalar.{Scalar}
use Rattle.qs_memory.specs.declared.scalar.Scalar.TheVariants as scalars
use Rattle.qs_syntax.specs.declared.types.Base.{Base}
use Rattle.qs_syntax.specs.declared.types.TypeName.{TypeName}
use Rattle.qs_types.specs.Contexts.{TypeNames, base_in, is_void_type}
use Rattle.qs_calls.specs.declared.parameter.Parameter.{Parameter}
use Rattle.qs_types.specs.GivenFunctions.{main_name}
use Rattle.qs_types.specs.Placed.{Local}
use Rattle.qs_meaning.specs.Typed.{Function}
use Rattle.qs_meaning.specs.Conversions.{scalar_of}
use Rattle.qs_meaning.specs.Names.{Locals, local_lvalue}
use Rattle.qs_meaning.specs.Units.{nodes_of, placed_among, plain_among, locals_of, scalars_of, sizes_of, parameter_by}
use Rattle.qs_types.specs.Types.{TypeTree}
use Rattle.qs_typed_nodes.specs.Known.{Known, at_number}
use Rattle.qs_typed_nodes.specs.KnownStatements.{statements_known}

-- ---- the nodes of the locals that a body declares, in the order of the text

abbrev pub variables_nodes : List VariableTree → List ℕ
variables_nodes vs = map (λ (v : VariableTree). v.declarator.node.id) vs

abbrev pub start_nodes : StartTree → List ℕ
start_nodes no_start = []
start_nodes (start_expression e) = []
start_nodes (start_declaration d) = variables_nodes d.variables

abbrev mutual
  pub statement_nodes : StmtTree → List ℕ
  statement_nodes (trees.empty node) = []
  statement_nodes (trees.expression node e) = []
  statement_nodes (trees.declaration d) = variables_nodes d.variables
  statement_nodes (trees.block ss) = statements_nodes ss
  statement_nodes (trees.branch node e s r) = statement_nodes s ++ else_nodes r
  statement_nodes (trees.switch node e ss) = statements_nodes ss
  statement_nodes (trees.case_label node e) = []
  statement_nodes (trees.default_label node) = []
  statement_nodes (trees.while_loop node e s) = statement_nodes s
  statement_nodes (trees.do_loop node s e) = statement_nodes s
  statement_nodes (trees.for_loop node start e u s) = start_nodes start ++ statement_nodes s
  statement_nodes (trees.break node) = []
  statement_nodes (trees.continue node) = []
  statement_nodes (trees.return node e) = []

  pub statements_nodes : Stmts → List ℕ
  statements_nodes no_stmts = []
  statements_nodes (stmt_and s ss) = statement_nodes s ++ statements_nodes ss

  pub else_nodes : Else → List ℕ
  else_nodes no_else = []
  else_nodes (else_by s) = statement_nodes s

abbrev pub parameters_nodes : List ParameterTree → List ℕ
parameters_nodes ps = map (λ (p : ParameterTree). p.node.id) ps

-- ---- the locals and parameters with their types

abbrev pub local_at : (types : List (Option TypeTree)) → ℕ → Local
local_at types n = record { node = n; type = at_number types n }

abbrev pub locals_at : (types : List (Option TypeTree)) → List ℕ → List Local
locals_at types nodes = map (local_at types) nodes

-- the places of the locals and parameters of a function, where these are the operands of `&`
abbrev pub places_at : (types : List (Option TypeTree)) → (addressed parameters locals : List ℕ) → Locals
places_at types addressed ps ls = locals_of addressed (locals_at types ps) (locals_at types ls)

-- some parameters more, and some locals more
abbrev pub with_parameters : (types : List (Option TypeTree)) → (addressed nodes : List ℕ) → Locals → Locals
with_parameters types addressed nodes l =
    record { variables = l.variables ++ nodes; placed = l.placed ++ nodes_of (placed_among addressed (locals_at types nodes)) }

abbrev pub with_locals : (types : List (Option TypeTree)) → (addressed nodes : List ℕ) → Locals → Locals
with_locals types addressed nodes l =
    record {
      variables = l.variables ++ nodes_of (plain_among addressed (locals_at types nodes));
      placed = l.placed ++ nodes_of (placed_among addressed (locals_at types nodes));
    }

abbrev pub parameter_known : Known → ParameterTree → Option Parameter
parameter_known k p = at_number k.types p.node.id >>= λ t. parameter_by (scalar_of t) (local_lvalue k.locals p.node.id)

abbrev pub parameters_known : Known → List ParameterTree → Option (List Parameter)
parameters_known k [] = Some []
parameters_known k (p ∷ ps) = parameter_known k p >>= λ now. parameters_known k ps >>= λ rest. Some (now ∷ rest)

-- ---- results of functions (6.8.6.4p3, 6.9.1p3)

-- what is no number is a pointer, as far as values go
abbrev pub type_scalar : Option TypeTree → Scalar
type_scalar None = scalars.Pointer
type_scalar (Some t) = scalar_of t

abbrev pub base_scalar : TypeNames → Base → Scalar
base_scalar names base = type_scalar (base_in names base)

-- the scalar type of what a type by its name is
abbrev pub named_scalar : TypeNames → TypeName → Scalar
named_scalar names name = if name.stars == 0 then base_scalar names name.base else scalars.Pointer

abbrev pub returns_nothing : TypeNames → FunctionTree → Bool
returns_nothing names f = is_void_type (base_in names f.result_type.base) && (f.result_type.stars == 0)

-- ---- functions; the result and the places are those of the function, and the locals stand in these

abbrev pub function_known : Known → FunctionTree → Stmts → Option Function
function_known k f body =
    parameters_known k f.parameters >>= λ parameters. scalars_of (locals_at k.types k.locals.variables) >>= λ scalars.
    sizes_of k.structs (locals_at k.types k.locals.placed) >>= λ sizes. statements_known k body >>= λ statements.
    Some (record {
      name = f.name;
      result = if returns_nothing k.type_names f then None else Some k.result;
      parameters = parameters;
      variables = scalars;
      blocks = sizes;
      body = statements;
      is_main = same_bytes f.name main_name;
    })
