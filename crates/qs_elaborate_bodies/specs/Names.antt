-- What core says of a function beside what its typed tree says: the names of its parameters and variables.
use Rattle.std.specs.Prelude.{ℕ, ◌+◌, ◌==◌, List, [], ◌∷◌, ◌++◌, Option, Some, None, length, map, filter, if◌then◌else◌}
use Rattle.qs_base.specs.Bytes.{same_bytes}
use Rattle.qs_syntax.specs.Trees.{VariableTree, ParameterTree, StartTree, no_start, start_expression, start_declaration, StmtTree, empty, expression, declaration, block, switch, case_label, default_label, branch, while_loop, do_loop, for_loop, break, continue, return, Stmts, no_stmts, stmt_and, Else, no_else, else_by, FunctionTree, DeclTree, structure, forward, function, variables, UnitTree, typedef}
use Rattle.qs_types.specs.Contexts.{Context, start_context}
use Rattle.qs_types.specs.UnitRules.{after_declaration}
use Rattle.qs_meaning.specs.Units.{function_locals}

-- ---- what a function declares, in the order of the text

pub record Declared : Type 0 where
  pub node : ℕ
  pub name : List ℕ

abbrev pub declared_variable : VariableTree → Declared
declared_variable v = record { node = v.declarator.node.id; name = v.declarator.name }

abbrev pub start_declares : StartTree → List Declared
start_declares no_start = []
start_declares (start_expression e) = []
start_declares (start_declaration d) = map declared_variable d.variables

abbrev mutual
  pub statement_declares : StmtTree → List Declared
  statement_declares (empty node) = []
  statement_declares (expression node e) = []
  statement_declares (declaration d) = map declared_variable d.variables
  statement_declares (block ss) = statements_declare ss
  statement_declares (switch node e ss) = statements_declare ss
  statement_declares (case_label node e) = []
  statement_declares (default_label node) = []
  statement_declares (branch node e s r) = statement_declares s ++ else_declares r
  statement_declares (while_loop node e s) = statement_declares s
  statement_declares (do_loop node s e) = statement_declares s
  statement_declares (for_loop node start e u s) = start_declares start ++ statement_declares s
  statement_declares (break node) = []
  statement_declares (continue node) = []
  statement_declares (return node e) = []

  pub statements_declare : Stmts → List Declared
  statements_declare no_stmts = []
  statements_declare (stmt_and s ss) = statement_declares s ++ statements_declare ss

  pub else_declares : Else → List Declared
  else_declares no_else = []
  else_declares (else_by s) = statement_declares s

-- the parameters of a body have names (6.9.1p5)
abbrev pub parameter_name : Option (List ℕ) → List ℕ
parameter_name None = []
parameter_name (Some x) = x

abbrev pub declared_parameter : ParameterTree → Declared
declared_parameter p = record { node = p.node.id; name = parameter_name p.name }

abbrev pub function_declares : FunctionTree → Stmts → List Declared
function_declares f body = map declared_parameter f.parameters ++ statements_declare body

-- ---- the names of variables

-- a variable is the one with this number, from 1, among those that the function declares with its name
pub record VariableName : Type 0 where
  pub name : List ℕ
  pub ordinal : ℕ

abbrev pub count_of : (name : List ℕ) → List Declared → ℕ
count_of x ds = length (filter (λ (d : Declared). same_bytes d.name x) ds)

-- the name of what is declared at this node, behind these
abbrev pub name_at : (node : ℕ) → (earlier later : List Declared) → VariableName
name_at node earlier [] = record { name = []; ordinal = 1 }
name_at node earlier (d ∷ ds) =
    if d.node == node then record { name = d.name; ordinal = count_of d.name earlier + 1 } else name_at node (d ∷ earlier) ds

-- ---- functions

-- the parameters in order, and the variables by their numbers
pub record FunctionNames : Type 0 where
  pub parameters : List (List ℕ)
  pub variables : List VariableName

abbrev pub body_names : Context → FunctionTree → Stmts → FunctionNames
body_names c f body = record {
  parameters = map (λ (p : ParameterTree). parameter_name p.name) f.parameters;
  variables = map (λ node. name_at node [] (function_declares f body)) (function_locals c f body).variables;
}

-- the functions with a body, in order

abbrev pub function_names : Context → FunctionTree → Option Stmts → List FunctionNames
function_names c f None = []
function_names c f (Some body) = body_names c f body ∷ []

abbrev pub declaration_names : Context → DeclTree → List FunctionNames
declaration_names c (structure d) = []
declaration_names c (forward d) = []
declaration_names c (typedef d) = []
declaration_names c (function f) = function_names c f f.body
declaration_names c (variables d) = []

abbrev pub declarations_names : Context → UnitTree → List FunctionNames
declarations_names c [] = []
declarations_names c (d ∷ ds) = declaration_names c d ++ declarations_names (after_declaration c d) ds

abbrev pub names_in : UnitTree → List FunctionNames
names_in unit = declarations_names start_context unit
