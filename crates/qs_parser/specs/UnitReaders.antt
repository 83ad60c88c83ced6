-- The grammar's readers of declarations, statements and units, with the room that a context leaves for the parts. What the code's functions are given
-- stands in their order; `initialisers` has the turns, the items and the height besides, as the reader of a list.
use Rattle.std.specs.Prelude.{ℕ, List, [], Option, Bool, false, length}
use Rattle.qs_syntax_vocabulary.specs.declared.terminal.Terminal.{Terminal}
use Rattle.qs_syntax.specs.declared.types.Base.{Base}
use Rattle.qs_syntax.specs.declared.declarations.Declarator.{Declarator}
use Rattle.qs_syntax_vocabulary.specs.Operators.{number_of}
use Rattle.qs_syntax.specs.Trees.{LengthsTree, InitialiserTree, VariableTree, ParameterTree, StmtTree, DeclTree}
use Rattle.qs_syntax.specs.TreeOf.{declarator_tree}
use Rattle.qs_parser_grammar.specs.Parse.{Parse}
use Rattle.qs_parser_grammar.specs.ParseDeclarations as declarations
use Rattle.qs_parser_grammar.specs.ParseStatements as statements
use Rattle.qs_parser_grammar.specs.ParseStatements.{S, statement, switch_block}
use Rattle.qs_parser_expressions.specs.declared.context.Context.{Context}
use Rattle.qs_parser.specs.declared.units.Header.{Header}
use Rattle.qs_parser.specs.UnitView.{parameters_of}

-- a form's reader, handed the reader of statements, also where the form has no statement as a part
abbrev pub with_statements : {X : Type 0} → Context → (ℕ → Parse S → X) → X
with_statements context read = read context.room (statement context.room)

-- the same of a form that may have the braces of a switch as a part
abbrev pub with_blocks : {X : Type 0} → Context → (ℕ → Parse S → Parse (List StmtTree × ℕ) → X) → X
with_blocks context read = read context.room (statement context.room) (switch_block context.room)

-- an item of a switch, and its items from the first on
abbrev pub switch_item : Context → Bool → Parse S
switch_item context labelled ts = with_statements context statements.switch_item labelled ts

abbrev pub switch_items : Context → Parse (List StmtTree × ℕ)
switch_items context ts = with_statements context statements.switch_items (length ts) false [] 0 ts

-- the lengths of a declarator, behind first brackets that may be empty
abbrev pub lengths_of : Context → Bool → Parse (LengthsTree × ℕ)
lengths_of context is_open ts = declarations.lengths_of is_open (declarations.given_lengths context.room (length ts) [] 0 ts)

-- the initialisers of a list
abbrev pub initialisers : Context → ℕ → List InitialiserTree → ℕ → Parse (List InitialiserTree × ℕ)
initialisers context n done h ts = declarations.initialisers (declarations.initialiser context.room) n done h ts

-- behind a declarator
abbrev pub initialised : Context → Declarator → ℕ → Parse (VariableTree × ℕ)
initialised context declarator height ts = declarations.initialised context.room (declarator_tree declarator, height) ts

-- a parameter, behind its name
abbrev pub bracketed : Context → ℕ → Base → ℕ → Option (List ℕ) → Parse (ParameterTree × ℕ)
bracketed context token base stars name ts = declarations.bracketed context.room token base stars name ts

-- what a first token begins
abbrev pub plain_statement : Context → Terminal → Parse S
plain_statement context first ts = with_statements context statements.plain_statement (number_of first) first ts

abbrev pub keyword_statement : Context → Terminal → Parse S
keyword_statement context first ts = with_blocks context statements.keyword_statement (number_of first) first ts

-- behind the parameters of a header
abbrev pub body_of : Context → Header → ℕ → Parse (DeclTree × ℕ)
body_of context header height ts = statements.body_of context.room header.token header.base header.stars header.name (parameters_of header, height) ts
