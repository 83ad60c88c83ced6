-- Small statements, heads and units, read by the parser: each result is computed.
use Rattle.std.proofs.Common.{◌≡◌, ℕ, List, [], ◌∷◌, Result, Ok, Err, Some, None, true, false, refl}
use Rattle.qs_syntax_vocabulary.specs.declared.terminal.Terminal.{Terminal}
use Rattle.qs_syntax_vocabulary.specs.declared.terminal.Terminal.TheVariants.{Name, Keyword, Constant, Punctuator}
use Rattle.qs_base.specs.declared.keyword.Keyword.TheVariants as keywords
use Rattle.qs_syntax_vocabulary.specs.declared.punctuator.Punctuator.TheVariants as punctuators
use Rattle.qs_syntax.specs.declared.types.Base.TheVariants as bases
use Rattle.qs_syntax.specs.Trees.{unnumbered, ExprTree, expr, constant, name, LengthsTree, value, list, no_initialisers, initialiser_and, StmtTree, empty, branch, for_loop, break, start_declaration, no_else, else_by, no_stmts, stmt_and, DeclTree, structure, forward, function, variables, ParameterTree, of_base, of_struct, typedef, sizeof_expr, sizeof_type}
use Rattle.qs_parser_grammar.specs.Parse.{Stop, Unexpected, Deep, type, stars, primary, suffixes, unary_of_all, operations, climb, commas, expression, part, type_name}
use Rattle.qs_parser_grammar.specs.ParseDeclarations.{outer_type, given_lengths, lengths, declarator, initialisers, initialiser, variable, variables as variables_from, declaration, declaration_within, declarators, members, groups, parameter, parameters, head}
use Rattle.qs_parser_grammar.specs.ParseStatements.{S, items, statement, external, externals, unit, type_names, plain, defined}

abbrev a_at : ℕ → Terminal
a_at n = Name n (97 ∷ [])

abbrev b_at : ℕ → Terminal
b_at n = Name n (98 ∷ [])

abbrev a : ℕ → ExprTree
a n = expr (unnumbered n) (name (97 ∷ []))

abbrev b : ℕ → ExprTree
b n = expr (unnumbered n) (name (98 ∷ []))

abbrev no_lengths : LengthsTree
no_lengths = record { is_open = false; given = [] }

abbrev StatementRead : List Terminal → StmtTree → ℕ → Type 0
StatementRead ts s h = ◌≡◌ {A = Result (S × List Terminal) Stop} (statement 5 ts) (Ok ((s, h), []))

abbrev HeadRefused : List Terminal → Stop → Type 0
HeadRefused ts stop = ◌≡◌ {A = Result ((List ParameterTree × ℕ) × List Terminal) Stop} (head 5 ts) (Err stop)

abbrev UnitRead : ℕ → List Terminal → List DeclTree → ℕ → Type 0
UnitRead k ts ds h = ◌≡◌ {A = Result ((List DeclTree × ℕ) × List Terminal) Stop} (unit k ts) (Ok ((ds, h), []))

abbrev UnitRefused : ℕ → List Terminal → Stop → Type 0
UnitRefused k ts stop = ◌≡◌ {A = Result ((List DeclTree × ℕ) × List Terminal) Stop} (unit k ts) (Err stop)

-- if (a) if (b) ; else ;
nearest_if : StatementRead
    (Keyword 0 keywords.If ∷ Punctuator 1 punctuators.OpenParenthesis ∷ a_at 2 ∷ Punctuator 3 punctuators.CloseParenthesis ∷ Keyword 4 keywords.If ∷ Punctuator 5 punctuators.OpenParenthesis ∷ b_at 6 ∷ Punctuator 7 punctuators.CloseParenthesis ∷ Punctuator 8 punctuators.Semicolon ∷ Keyword 9 keywords.Else ∷ Punctuator 10 punctuators.Semicolon ∷ [])
    (branch (unnumbered 0) (a 2) (branch (unnumbered 4) (b 6) (empty (unnumbered 8)) (else_by (empty (unnumbered 10)))) no_else) 3
unfolding statement items part expression primary suffixes unary_of_all operations climb commas
nearest_if = refl

-- for (constant a = 7; ; ) break;
loop_with_variable : StatementRead
    (Keyword 0 keywords.For ∷ Punctuator 1 punctuators.OpenParenthesis ∷ Keyword 2 keywords.Int ∷ a_at 3 ∷ Punctuator 4 punctuators.Assign ∷ Constant 5 7 false ∷ Punctuator 6 punctuators.Semicolon ∷ Punctuator 7 punctuators.Semicolon ∷ Punctuator 8 punctuators.CloseParenthesis ∷ Keyword 9 keywords.Break ∷ Punctuator 10 punctuators.Semicolon ∷ [])
    (for_loop (unnumbered 0) (start_declaration (record { base = bases.Int; variables = record { declarator = record { node = unnumbered 3; stars = 0; name = 97 ∷ []; lengths = no_lengths }; initialiser = Some (value (expr (unnumbered 5) (constant 7 false))) } ∷ [] })) None None (break (unnumbered 9))) 3
unfolding statement items declaration_within declaration type stars variables_from variable declarator lengths given_lengths initialiser part expression primary suffixes unary_of_all operations climb commas
loop_with_variable = refl

-- constant a, void) : the parenthesis behind `void` is unexpected
void_alone : HeadRefused (Keyword 0 keywords.Int ∷ a_at 1 ∷ Punctuator 2 punctuators.Comma ∷ Keyword 3 keywords.Void ∷ Punctuator 4 punctuators.CloseParenthesis ∷ Punctuator 5 punctuators.Semicolon ∷ []) (Unexpected 2)
unfolding head parameters parameter type stars lengths given_lengths
void_alone = refl

-- struct a; struct b { constant a, *b; };
structs : UnitRead 5
    (Keyword 0 keywords.Struct ∷ a_at 1 ∷ Punctuator 2 punctuators.Semicolon ∷ Keyword 3 keywords.Struct ∷ b_at 4 ∷ Punctuator 5 punctuators.OpenBrace ∷ Keyword 6 keywords.Int ∷ a_at 7 ∷ Punctuator 8 punctuators.Comma ∷ Punctuator 9 punctuators.Star ∷ b_at 10 ∷ Punctuator 11 punctuators.Semicolon ∷ Punctuator 12 punctuators.CloseBrace ∷ Punctuator 13 punctuators.Semicolon ∷ [])
    (forward (record { node = unnumbered 0; name = 97 ∷ [] })
    ∷ structure (record { node = unnumbered 3; name = Some (98 ∷ []); members = record { base = bases.Int; declarators = record { node = unnumbered 7; stars = 0; name = 97 ∷ []; lengths = no_lengths } ∷ record { node = unnumbered 10; stars = 1; name = 98 ∷ []; lengths = no_lengths } ∷ [] } ∷ [] })
    ∷ []) 2
unfolding unit externals external plain groups members declarators declarator type stars lengths given_lengths
structs = refl

-- static constant a[] = { 7, };
open_length : UnitRead 5
    (Keyword 0 keywords.Static ∷ Keyword 1 keywords.Int ∷ a_at 2 ∷ Punctuator 3 punctuators.OpenBracket ∷ Punctuator 4 punctuators.CloseBracket ∷ Punctuator 5 punctuators.Assign ∷ Punctuator 6 punctuators.OpenBrace ∷ Constant 7 7 false ∷ Punctuator 8 punctuators.Comma ∷ Punctuator 9 punctuators.CloseBrace ∷ Punctuator 10 punctuators.Semicolon ∷ [])
    (variables (record { base = bases.Int; variables = record { declarator = record { node = unnumbered 2; stars = 0; name = 97 ∷ []; lengths = record { is_open = true; given = [] } }; initialiser = Some (list (unnumbered 6) (initialiser_and (value (expr (unnumbered 7) (constant 7 false))) no_initialisers)) } ∷ [] }) ∷ []) 3
unfolding unit externals external plain outer_type variables_from variable declarator stars lengths given_lengths initialisers initialiser part expression primary suffixes unary_of_all operations climb commas
open_length = refl

-- static void a(constant) { ; }
abbrev a_function : List Terminal
a_function = Keyword 0 keywords.Static ∷ Keyword 1 keywords.Void ∷ a_at 2 ∷ Punctuator 3 punctuators.OpenParenthesis ∷ Keyword 4 keywords.Int ∷ Punctuator 5 punctuators.CloseParenthesis ∷ Punctuator 6 punctuators.OpenBrace ∷ Punctuator 7 punctuators.Semicolon ∷ Punctuator 8 punctuators.CloseBrace ∷ []

definition : UnitRead 1 a_function
    (function (record { node = unnumbered 0; result_type = record { base = bases.Void; stars = 0 }; name = 97 ∷ []; parameters = record { node = unnumbered 4; type_name = record { base = bases.Int; stars = 0 }; name = None; lengths = no_lengths } ∷ []; body = Some (stmt_and (empty (unnumbered 7)) no_stmts) }) ∷ []) 3
unfolding unit externals external plain outer_type head parameters parameter type stars lengths given_lengths items statement
definition = refl

-- the same with 2 levels: the statement in the body is too deep
too_deep : UnitRefused 0 a_function (Deep 2)
unfolding unit externals external plain outer_type head parameters parameter type stars lengths given_lengths items statement
too_deep = refl

-- ---- names of types: T is the name 84

abbrev t_at : ℕ → Terminal
t_at at = Name at (84 ∷ [])

-- typedef int T; T a;
typed_variable : UnitRead 5
    (Keyword 0 keywords.Typedef ∷ Keyword 1 keywords.Int ∷ t_at 2 ∷ Punctuator 3 punctuators.Semicolon ∷ t_at 4 ∷ a_at 5 ∷ Punctuator 6 punctuators.Semicolon ∷ [])
    (typedef (record { defined = of_base bases.Int; names = record { node = unnumbered 2; stars = 0; name = 84 ∷ []; lengths = no_lengths } ∷ [] })
    ∷ variables (record { base = bases.Named (84 ∷ []); variables = record { declarator = record { node = unnumbered 5; stars = 0; name = 97 ∷ []; lengths = no_lengths }; initialiser = None } ∷ [] })
    ∷ []) 1
unfolding unit externals external plain defined type_names outer_type variables_from variable declarator type stars lengths given_lengths
typed_variable = refl

-- typedef int T; int T; : a type's name is no variable's
no_variable : UnitRefused 5
    (Keyword 0 keywords.Typedef ∷ Keyword 1 keywords.Int ∷ t_at 2 ∷ Punctuator 3 punctuators.Semicolon ∷ Keyword 4 keywords.Int ∷ t_at 5 ∷ Punctuator 6 punctuators.Semicolon ∷ []) (Unexpected 2)
unfolding unit externals external plain defined type_names outer_type variables_from variable declarator type stars lengths given_lengths
no_variable = refl

-- typedef int T, a[sizeof(T)]; : T is a type's name from the comma on, and in its own brackets it is none
later_name : UnitRead 5
    (Keyword 0 keywords.Typedef ∷ Keyword 1 keywords.Int ∷ t_at 2 ∷ Punctuator 3 punctuators.Comma ∷ a_at 4 ∷ Punctuator 5 punctuators.OpenBracket ∷ Keyword 6 keywords.Sizeof ∷ Punctuator 7 punctuators.OpenParenthesis ∷ t_at 8 ∷ Punctuator 9 punctuators.CloseParenthesis ∷ Punctuator 10 punctuators.CloseBracket
    ∷ Punctuator 11 punctuators.Semicolon ∷ [])
    (typedef (record {
      defined = of_base bases.Int;
      names = record { node = unnumbered 2; stars = 0; name = 84 ∷ []; lengths = no_lengths }
          ∷ record { node = unnumbered 4; stars = 0; name = 97 ∷ []; lengths = record { is_open = false; given = expr (unnumbered 6) (sizeof_type (record { base = bases.Named (84 ∷ []); stars = 0 })) ∷ [] } } ∷ [];
    }) ∷ []) 2
unfolding unit externals external plain defined type_names declarator type type_name stars lengths given_lengths part expression primary suffixes unary_of_all operations climb commas
later_name = refl

not_in_its_own : UnitRead 5
    (Keyword 0 keywords.Typedef ∷ Keyword 1 keywords.Int ∷ t_at 2 ∷ Punctuator 3 punctuators.OpenBracket ∷ Keyword 4 keywords.Sizeof ∷ Punctuator 5 punctuators.OpenParenthesis ∷ t_at 6 ∷ Punctuator 7 punctuators.CloseParenthesis ∷ Punctuator 8 punctuators.CloseBracket ∷ Punctuator 9 punctuators.Semicolon ∷ [])
    (typedef (record {
      defined = of_base bases.Int;
      names = record { node = unnumbered 2; stars = 0; name = 84 ∷ []; lengths = record { is_open = false; given = expr (unnumbered 4) (sizeof_expr (expr (unnumbered 6) (name (84 ∷ [])))) ∷ [] } } ∷ [];
    }) ∷ []) 4
unfolding unit externals external plain defined type_names declarator type type_name stars lengths given_lengths part expression primary suffixes unary_of_all operations climb commas
not_in_its_own = refl

-- typedef struct { int T; } T; struct T; : tags and members may have the name of a type
tag_and_member : UnitRead 5
    (Keyword 0 keywords.Typedef ∷ Keyword 1 keywords.Struct ∷ Punctuator 2 punctuators.OpenBrace ∷ Keyword 3 keywords.Int ∷ t_at 4 ∷ Punctuator 5 punctuators.Semicolon ∷ Punctuator 6 punctuators.CloseBrace ∷ t_at 7 ∷ Punctuator 8 punctuators.Semicolon ∷ Keyword 9 keywords.Struct ∷ t_at 10 ∷ Punctuator 11 punctuators.Semicolon ∷ [])
    (typedef (record {
      defined = of_struct (record { node = unnumbered 1; name = None; members = record { base = bases.Int; declarators = record { node = unnumbered 4; stars = 0; name = 84 ∷ []; lengths = no_lengths } ∷ [] } ∷ [] });
      names = record { node = unnumbered 7; stars = 0; name = 84 ∷ []; lengths = no_lengths } ∷ [];
    })
    ∷ forward (record { node = unnumbered 9; name = 84 ∷ [] })
    ∷ []) 2
unfolding unit externals external plain defined type_names groups members declarators declarator type stars lengths given_lengths
tag_and_member = refl
