-- Small switches, read by the parser: each result is computed.
use Rattle.std.proofs.Common.{◌≡◌, ℕ, List, [], ◌∷◌, ◌++◌, Result, Ok, Err, None, false, refl}
use Rattle.qs_syntax_vocabulary.specs.declared.terminal.Terminal.{Terminal}
use Rattle.qs_syntax_vocabulary.specs.declared.terminal.Terminal.TheVariants.{Name, Keyword, Constant, Punctuator}
use Rattle.qs_base.specs.declared.keyword.Keyword.TheVariants as keywords
use Rattle.qs_syntax_vocabulary.specs.declared.punctuator.Punctuator.TheVariants as punctuators
use Rattle.qs_syntax.specs.declared.types.Base.TheVariants as bases
use Rattle.qs_syntax.specs.Trees.{unnumbered, expr, constant, name, StmtTree, empty, declaration, switch, case_label, default_label, break, no_stmts, stmt_and}
use Rattle.qs_parser_grammar.specs.Parse.{Stop, Unexpected, Deep, type, stars, primary, suffixes, unary_of_all, operations, climb, commas, expression, part}
use Rattle.qs_parser_grammar.specs.ParseDeclarations.{given_lengths, lengths, declarator, variable, variables, declaration_within, declaration as declaration_of}
use Rattle.qs_parser_grammar.specs.ParseStatements.{S, items, switch_items, statement, switch_block}

-- switch (a) {
abbrev begun : List Terminal
begun = Keyword 0 keywords.Switch ∷ Punctuator 1 punctuators.OpenParenthesis ∷ Name 2 (97 ∷ []) ∷ Punctuator 3 punctuators.CloseParenthesis ∷ Punctuator 4 punctuators.OpenBrace ∷ []

-- where a statement may be so high, one is read of these tokens behind `switch (a) {`, or a fault is told
abbrev Read : ℕ → List Terminal → StmtTree → ℕ → Type 0
Read room ts s h = ◌≡◌ {A = Result (S × List Terminal) Stop} (statement room (begun ++ ts)) (Ok ((s, h), []))

abbrev Refused : ℕ → List Terminal → Stop → Type 0
Refused room ts stop = ◌≡◌ {A = Result (S × List Terminal) Stop} (statement room (begun ++ ts)) (Err stop)

-- case 7 :
abbrev case_7 : List Terminal
case_7 = Keyword 5 keywords.Case ∷ Constant 6 7 false ∷ Punctuator 7 punctuators.Colon ∷ []

-- int b; case 7: default: ; break; }
all_sorts : Read 5
    (Keyword 5 keywords.Int ∷ Name 6 (98 ∷ []) ∷ Punctuator 7 punctuators.Semicolon ∷ Keyword 8 keywords.Case ∷ Constant 9 7 false ∷ Punctuator 10 punctuators.Colon ∷ Keyword 11 keywords.Default ∷ Punctuator 12 punctuators.Colon ∷ Punctuator 13 punctuators.Semicolon
    ∷ Keyword 14 keywords.Break ∷ Punctuator 15 punctuators.Semicolon ∷ Punctuator 16 punctuators.CloseBrace ∷ [])
    (switch (unnumbered 0) (expr (unnumbered 2) (name (97 ∷ [])))
    (stmt_and (declaration (record { base = bases.Int; variables = record { declarator = record { node = unnumbered 6; stars = 0; name = 98 ∷ []; lengths = record { is_open = false; given = [] } }; initialiser = None } ∷ [] }))
    (stmt_and (case_label (unnumbered 8) (expr (unnumbered 9) (constant 7 false)))
    (stmt_and (default_label (unnumbered 11))
    (stmt_and (empty (unnumbered 13))
    (stmt_and (break (unnumbered 14)) no_stmts)))))) 4
unfolding statement switch_block switch_items declaration_within declaration_of type stars variables variable declarator lengths given_lengths part expression primary suffixes unary_of_all operations climb commas
all_sorts = refl

-- }
nothing_in_it : Read 2 (Punctuator 5 punctuators.CloseBrace ∷ []) (switch (unnumbered 0) (expr (unnumbered 2) (name (97 ∷ []))) no_stmts) 2
unfolding statement switch_block switch_items part expression primary suffixes unary_of_all operations climb commas
nothing_in_it = refl

-- case 7: int
no_declaration_behind_a_label : Refused 5 (case_7 ++ Keyword 8 keywords.Int ∷ []) (Unexpected 1)
unfolding statement switch_block switch_items part expression primary suffixes unary_of_all operations climb commas
no_declaration_behind_a_label = refl

-- case 7: }
no_end_behind_a_label : Refused 5 (case_7 ++ Punctuator 8 punctuators.CloseBrace ∷ []) (Unexpected 1)
unfolding statement switch_block switch_items part expression primary suffixes unary_of_all operations climb commas
no_end_behind_a_label = refl

-- { case
no_label_in_a_block : Refused 5 (Punctuator 5 punctuators.OpenBrace ∷ Keyword 6 keywords.Case ∷ []) (Unexpected 1)
unfolding statement items switch_block switch_items part expression primary suffixes unary_of_all operations climb commas
no_label_in_a_block = refl

-- case 7 ,
no_comma_in_a_label : Refused 5 (Keyword 5 keywords.Case ∷ Constant 6 7 false ∷ Punctuator 7 punctuators.Comma ∷ []) (Unexpected 1)
unfolding statement switch_block switch_items part expression primary suffixes unary_of_all operations climb commas
no_comma_in_a_label = refl

-- case 7: ; }
a_case_is_as_high : Refused 3 (case_7 ++ Punctuator 8 punctuators.Semicolon ∷ Punctuator 9 punctuators.CloseBrace ∷ []) (Deep 5)
unfolding statement switch_block switch_items part expression primary suffixes unary_of_all operations climb commas
a_case_is_as_high = refl

-- default: ; }
a_default_is_lower : Read 3 (Keyword 5 keywords.Default ∷ Punctuator 6 punctuators.Colon ∷ Punctuator 7 punctuators.Semicolon ∷ Punctuator 8 punctuators.CloseBrace ∷ [])
    (switch (unnumbered 0) (expr (unnumbered 2) (name (97 ∷ []))) (stmt_and (default_label (unnumbered 5)) (stmt_and (empty (unnumbered 7)) no_stmts))) 3
unfolding statement switch_block switch_items part expression primary suffixes unary_of_all operations climb commas
a_default_is_lower = refl
