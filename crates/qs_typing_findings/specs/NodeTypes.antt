-- The types of the nodes of a unit in the order of the text: that of each expression, the declared one of each variable and parameter, and
-- none of the other nodes.
use Rattle.std.specs.Prelude.{Bool, List, Option, map, option_map}
use Rattle.qs_syntax.specs.declared.nodes.Node.{Node}
use Rattle.qs_syntax.specs.declared.types.Base.{Base}
use Rattle.qs_syntax.specs.Trees.{ExprTree, DeclaratorTree, InitialiserTree, Initialisers, VariableTree, ParameterTree, MembersTree, StartTree, StmtTree, Stmts, Else, DefinedTree, FunctionTree, DeclTree, UnitTree}
use Rattle.qs_types.specs.Types.{TypeTree}
use Rattle.qs_types.specs.TypeOf.{type_tree}
use Rattle.qs_types.specs.declared.types.CType.{CType}
use Rattle.qs_types.specs.Contexts.{Context}
use Rattle.qs_types.specs.Expressions.{type_of}
use Rattle.qs_typing_findings.specs.ByNumber.{IsByNumber}
use Rattle.qs_typing_findings.specs.ExprFindings.{of_nodes}
use Rattle.qs_typing_findings.specs.UnitNodes.{of_option, of_lengths, of_declarator, of_declarators, of_initialiser, of_initialisers, of_option_initialiser, of_variables, of_start, of_statement, of_statements, of_else, of_members, of_defined, of_type_names, of_parameters, of_body, of_declaration, of_declarations, of_unit}

abbrev pub NodeTypes : Type 0
NodeTypes = List (Option TypeTree)

-- a node that is no expression has the type that it declares; that of a variable may be an array, a parameter that is written as an array is
-- a pointer (6.7.6.3p7)
abbrev pub declared_type : Node → Option TypeTree → Option TypeTree
declared_type node declared = declared

abbrev pub expr_types : Context → ExprTree → NodeTypes
expr_types c e = of_nodes (type_of c) e

abbrev pub option_types : Context → Option ExprTree → NodeTypes
option_types = of_option declared_type type_of

abbrev pub lengths_types : Context → List ExprTree → NodeTypes
lengths_types = of_lengths declared_type type_of

abbrev pub declarator_types : Context → (declared : Option TypeTree) → DeclaratorTree → NodeTypes
declarator_types = of_declarator declared_type type_of

abbrev pub declarators_types : Context → List DeclaratorTree → NodeTypes
declarators_types = of_declarators declared_type type_of

abbrev pub initialiser_types : Context → InitialiserTree → NodeTypes
initialiser_types = of_initialiser declared_type type_of

abbrev pub initialisers_types : Context → Initialisers → NodeTypes
initialisers_types = of_initialisers declared_type type_of

abbrev pub option_initialiser_types : Context → Option InitialiserTree → NodeTypes
option_initialiser_types = of_option_initialiser declared_type type_of

abbrev pub variables_types : Bool → Context → Base → List VariableTree → NodeTypes
variables_types = of_variables declared_type type_of

abbrev pub start_types : Context → StartTree → NodeTypes
start_types = of_start declared_type type_of

abbrev pub statement_types : Context → StmtTree → NodeTypes
statement_types = of_statement declared_type type_of

abbrev pub statements_types : Context → Stmts → NodeTypes
statements_types = of_statements declared_type type_of

abbrev pub else_types : Context → Else → NodeTypes
else_types = of_else declared_type type_of

abbrev pub members_types : Context → List MembersTree → NodeTypes
members_types = of_members declared_type type_of

abbrev pub defined_types : Context → DefinedTree → NodeTypes
defined_types = of_defined declared_type type_of

abbrev pub type_names_types : Context → (base : Option TypeTree) → List DeclaratorTree → NodeTypes
type_names_types = of_type_names declared_type type_of

abbrev pub parameters_types : Context → List ParameterTree → NodeTypes
parameters_types = of_parameters declared_type type_of

abbrev pub body_types : Context → FunctionTree → Option Stmts → NodeTypes
body_types = of_body declared_type type_of

abbrev pub declaration_types : Context → DeclTree → NodeTypes
declaration_types = of_declaration declared_type type_of

abbrev pub declarations_types : Context → UnitTree → NodeTypes
declarations_types = of_declarations declared_type type_of

-- the types of the nodes, by their numbers
abbrev pub unit_types : UnitTree → NodeTypes
unit_types = of_unit declared_type type_of

-- these types in code stand at the numbers of the nodes
abbrev pub AreTypesByNumber : UnitTree → List (Option CType) → Type 0
AreTypesByNumber unit types = IsByNumber declared_type type_of unit (map (option_map type_tree) types)
