-- The parser of declarations as functions on lists of tokens. Where `m` levels are left for parts, what a function gives is at most
-- m + 1 high if it is a node, and else as high as its highest part. The first number of a list bounds its turns.
use Rattle.std.specs.Prelude.{ℕ, zero, suc, ◌+◌, max, List, [], ◌∷◌, ◌++◌, length, ◌==◌, Result, Ok, Some, None, Bool, true, false, ◌&&◌, if◌then◌else◌, Option}
use Rattle.qs_syntax_vocabulary.specs.declared.terminal.Terminal.{Terminal}
use Rattle.qs_syntax_vocabulary.specs.declared.terminal.Terminal.TheVariants.{Name, TypeName, Keyword, Constant, Text, Punctuator}
use Rattle.qs_base.specs.declared.keyword.Keyword.TheVariants as keywords
use Rattle.qs_syntax_vocabulary.specs.declared.punctuator.Punctuator.TheVariants as punctuators
use Rattle.qs_syntax.specs.declared.types.Base.{Base}
use Rattle.qs_syntax.specs.Trees.{unnumbered, ExprTree, LengthsTree, DeclaratorTree, InitialiserTree, value, list, initialisers_of, VariableTree, DeclarationTree, ParameterTree, MembersTree}
use Rattle.qs_syntax.specs.ReadsTypes.{Names, Plain, Any}
use Rattle.qs_syntax.specs.Reads.{Conditional, Assignment, place}
use Rattle.qs_parser_grammar.specs.Heads.{is_keyword, is_punctuator, starts}
use Rattle.qs_parser_grammar.specs.Parse.{Stop, Parse, read_on, unexpected, deep, deeper, expect, expect_name, skip_consts, base, type, stars, begins_one, part}

-- { "const" | "static" }
abbrev pub skip_prefixes : List Terminal → List Terminal
skip_prefixes [] = []
skip_prefixes (t ∷ ts) = if is_keyword keywords.Const t then skip_prefixes ts else if is_keyword keywords.Static t then skip_prefixes ts else t ∷ ts

-- at file scope
unfoldable pub outer_type : Parse Base
outer_type ts = read_on (base (skip_prefixes ts)) (λ b us. Ok (b, skip_consts us))

-- lengths in brackets behind these
unfoldable pub given_lengths : (m : ℕ) → ℕ → List ExprTree → ℕ → Parse (List ExprTree × ℕ)
given_lengths m zero done h ts = Ok ((done, h), ts)
given_lengths m (suc n) done h ts =
    if starts punctuators.OpenBracket ts
    then read_on (expect punctuators.OpenBracket ts) (λ _ us. read_on (part m Conditional us) (λ e vs. read_on (expect punctuators.CloseBracket vs) (λ _ ws. given_lengths m n (done ++ e.0 ∷ []) (max h e.1) ws)))
    else Ok ((done, h), ts)

abbrev pub is_empty_brackets : List Terminal → Bool
is_empty_brackets [] = false
is_empty_brackets (t ∷ ts) = is_punctuator punctuators.OpenBracket t && starts punctuators.CloseBracket ts

abbrev pub lengths_of : Bool → Result ((List ExprTree × ℕ) × List Terminal) Stop → Result ((LengthsTree × ℕ) × List Terminal) Stop
lengths_of is_open r = read_on r (λ es us. Ok ((record { is_open = is_open; given = es.0 }, es.1), us))

-- Behind first brackets that are empty. Where no level is left, no bracket may follow.
abbrev pub behind_open : (m : ℕ) → Parse (List ExprTree × ℕ)
behind_open m ts = if m == 0 && starts punctuators.OpenBracket ts then deep ts else given_lengths m (length ts) [] 0 ts

unfoldable pub lengths : (m : ℕ) → Parse (LengthsTree × ℕ)
lengths m ts =
    if is_empty_brackets ts
    then read_on (expect punctuators.OpenBracket ts) (λ _ us. read_on (expect punctuators.CloseBracket us) (λ _ vs. lengths_of true (behind_open m vs)))
    else lengths_of false (given_lengths m (length ts) [] 0 ts)

-- behind the name of a declarator
abbrev pub behind_name : (m : ℕ) → ℕ → ℕ × List ℕ → Parse (DeclaratorTree × ℕ)
behind_name m n x ts = read_on (lengths m ts) (λ l us. Ok ((record { node = unnumbered x.0; stars = n; name = x.1; lengths = l.0 }, l.1), us))

-- behind the stars of a declarator
abbrev pub named : Names → (m : ℕ) → ℕ → Parse (DeclaratorTree × ℕ)
named names m n ts = read_on (expect_name names ts) (behind_name m n)

unfoldable pub declarator : Names → (m : ℕ) → Parse (DeclaratorTree × ℕ)
declarator names m ts = named names m (stars ts).0 (stars ts).1

-- Initialisers behind these, and the brace at their end, with `one` for each.
module _ (one : Parse (InitialiserTree × ℕ)) where
  -- behind an initialiser: the brace, a comma and the brace, or a comma and the others
  abbrev pub after_initialiser : (List InitialiserTree → ℕ → Parse (List InitialiserTree × ℕ)) → List InitialiserTree → ℕ → Parse (List InitialiserTree × ℕ)
  after_initialiser others is h ts =
      if starts punctuators.CloseBrace ts then read_on (expect punctuators.CloseBrace ts) (λ _ us. Ok ((is, h), us))
      else read_on (expect punctuators.Comma ts) (λ _ us. if starts punctuators.CloseBrace us then read_on (expect punctuators.CloseBrace us) (λ _ vs. Ok ((is, h), vs)) else others is h us)

  unfoldable pub initialisers : ℕ → List InitialiserTree → ℕ → Parse (List InitialiserTree × ℕ)
  initialisers zero done h ts = unexpected ts
  initialisers (suc n) done h ts = read_on (one ts) (λ i us. after_initialiser (initialisers n) (done ++ i.0 ∷ []) (max h i.1) us)

abbrev pub begins_initialiser : List Terminal → Bool
begins_initialiser ts = if starts punctuators.OpenBrace ts then true else begins_one ts

-- what is at most n high
unfoldable pub initialiser : ℕ → Parse (InitialiserTree × ℕ)
initialiser zero ts = if begins_initialiser ts then deep ts else unexpected ts
initialiser (suc m) ts =
    if starts punctuators.OpenBrace ts
    then deeper m (λ us. read_on (expect punctuators.OpenBrace us) (λ _ vs. read_on (initialisers (initialiser m) (length vs) [] 0 vs) (λ is ws. Ok ((list (unnumbered (place ts)) (initialisers_of is.0), is.1 + 1), ws)))) ts
    else read_on (part (suc m) Assignment ts) (λ e us. Ok ((value e.0, e.1), us))

-- behind a declarator
abbrev pub initialised : (m : ℕ) → DeclaratorTree × ℕ → Parse (VariableTree × ℕ)
initialised m d ts =
    if starts punctuators.Assign ts
    then deeper m (λ us. read_on (expect punctuators.Assign us) (λ _ vs. read_on (initialiser m vs) (λ i ws. Ok ((record { declarator = d.0; initialiser = Some i.0 }, max d.1 i.1 + 1), ws)))) ts
    else Ok ((record { declarator = d.0; initialiser = None }, d.1 + 1), ts)

unfoldable pub variable : (m : ℕ) → Parse (VariableTree × ℕ)
variable m ts = read_on (declarator Plain m ts) (initialised m)

-- behind a variable: the semicolon, or a comma and the others
abbrev pub after_variable : (List VariableTree → ℕ → Parse (List VariableTree × ℕ)) → List VariableTree → ℕ → Parse (List VariableTree × ℕ)
after_variable others vs h ts =
    if starts punctuators.Semicolon ts then read_on (expect punctuators.Semicolon ts) (λ _ us. Ok ((vs, h), us))
    else read_on (expect punctuators.Comma ts) (λ _ us. others vs h us)

-- variables behind these, and the semicolon at their end
unfoldable pub variables : (m : ℕ) → ℕ → List VariableTree → ℕ → Parse (List VariableTree × ℕ)
variables m zero done h ts = unexpected ts
variables m (suc n) done h ts = read_on (variable m ts) (λ v us. after_variable (variables m n) (done ++ v.0 ∷ []) (max h v.1) us)

abbrev pub declared : (m : ℕ) → Base → Parse (DeclarationTree × ℕ)
declared m b ts = read_on (variables m (length ts) [] 0 ts) (λ vs us. Ok ((record { base = b; variables = vs.0 }, vs.1), us))

unfoldable pub declaration : (m : ℕ) → Parse (DeclarationTree × ℕ)
declaration m ts = read_on (type ts) (declared m)

-- what is at most n high
unfoldable pub declaration_within : ℕ → Parse (DeclarationTree × ℕ)
declaration_within zero ts = deep ts
declaration_within (suc m) ts = declaration m ts

-- behind a member: the semicolon, or a comma and the others
abbrev pub after_member : (List DeclaratorTree → ℕ → Parse (List DeclaratorTree × ℕ)) → List DeclaratorTree → ℕ → Parse (List DeclaratorTree × ℕ)
after_member others ds h ts =
    if starts punctuators.Semicolon ts then read_on (expect punctuators.Semicolon ts) (λ _ us. Ok ((ds, h), us))
    else read_on (expect punctuators.Comma ts) (λ _ us. others ds h us)

-- members behind these, and the semicolon at their end
unfoldable pub declarators : (m : ℕ) → ℕ → List DeclaratorTree → ℕ → Parse (List DeclaratorTree × ℕ)
declarators m zero done h ts = unexpected ts
declarators m (suc n) done h ts = read_on (declarator Any m ts) (λ d us. after_member (declarators m n) (done ++ d.0 ∷ []) (max h (d.1 + 1)) us)

unfoldable pub members : (m : ℕ) → Parse (MembersTree × ℕ)
members m ts = read_on (type ts) (λ b us. read_on (declarators m (length us) [] 0 us) (λ ds vs. Ok ((record { base = b; declarators = ds.0 }, ds.1), vs)))

-- groups of members behind these, and the brace at their end
unfoldable pub groups : (m : ℕ) → ℕ → List MembersTree → ℕ → Parse (List MembersTree × ℕ)
groups m zero done h ts = unexpected ts
groups m (suc n) done h ts =
    read_on (members m ts) (λ g us.
    if starts punctuators.CloseBrace us then read_on (expect punctuators.CloseBrace us) (λ _ vs. Ok ((done ++ g.0 ∷ [], max h g.1), vs))
    else groups m n (done ++ g.0 ∷ []) (max h g.1) us)

-- behind the name of a parameter that stands at `token`
abbrev pub bracketed : (m : ℕ) → (token : ℕ) → Base → ℕ → Option (List ℕ) → Parse (ParameterTree × ℕ)
bracketed m token b n x ts = read_on (lengths m ts) (λ l us. Ok ((record { node = unnumbered token; type_name = record { base = b; stars = n }; name = x; lengths = l.0 }, l.1 + 1), us))

-- behind the stars of a parameter that begins at `start`
abbrev pub with_name : (m : ℕ) → (start : ℕ) → Base → ℕ → Parse (ParameterTree × ℕ)
with_name m start b n [] = read_on (lengths m []) (λ l us. Ok ((record { node = unnumbered start; type_name = record { base = b; stars = n }; name = None; lengths = l.0 }, l.1 + 1), us))
with_name m start b n (Name at x ∷ ts) = read_on (lengths m ts) (λ l us. Ok ((record { node = unnumbered at; type_name = record { base = b; stars = n }; name = Some x; lengths = l.0 }, l.1 + 1), us))
with_name m start b n (TypeName at x ∷ ts) = read_on (lengths m (TypeName at x ∷ ts)) (λ l us. Ok ((record { node = unnumbered start; type_name = record { base = b; stars = n }; name = None; lengths = l.0 }, l.1 + 1), us))
with_name m start b n (Keyword at k ∷ ts) = read_on (lengths m (Keyword at k ∷ ts)) (λ l us. Ok ((record { node = unnumbered start; type_name = record { base = b; stars = n }; name = None; lengths = l.0 }, l.1 + 1), us))
with_name m start b n (Constant at k unsigned ∷ ts) = read_on (lengths m (Constant at k unsigned ∷ ts)) (λ l us. Ok ((record { node = unnumbered start; type_name = record { base = b; stars = n }; name = None; lengths = l.0 }, l.1 + 1), us))
with_name m start b n (Text at bytes ∷ ts) = read_on (lengths m (Text at bytes ∷ ts)) (λ l us. Ok ((record { node = unnumbered start; type_name = record { base = b; stars = n }; name = None; lengths = l.0 }, l.1 + 1), us))
with_name m start b n (Punctuator at k ∷ ts) = read_on (lengths m (Punctuator at k ∷ ts)) (λ l us. Ok ((record { node = unnumbered start; type_name = record { base = b; stars = n }; name = None; lengths = l.0 }, l.1 + 1), us))

-- Whether the single token `void` stands here: `void` with a comma or parenthesis behind it.
abbrev pub is_void_alone : List Terminal → Bool
is_void_alone [] = false
is_void_alone (t ∷ ts) = is_keyword keywords.Void t && ends_parameter ts
  where
    ends_parameter : List Terminal → Bool
    ends_parameter us = if starts punctuators.Comma us then true else starts punctuators.CloseParenthesis us

abbrev pub without_first : List Terminal → List Terminal
without_first [] = []
without_first (t ∷ ts) = ts

unfoldable pub parameter : (m : ℕ) → Parse (ParameterTree × ℕ)
parameter m ts =
    if is_void_alone ts then unexpected (without_first ts)
    else read_on (type ts) (λ b us. with_name m (place ts) b (stars us).0 (stars us).1)

-- behind a parameter: the parenthesis, or a comma and the others
abbrev pub after_parameter : (List ParameterTree → ℕ → Parse (List ParameterTree × ℕ)) → List ParameterTree → ℕ → Parse (List ParameterTree × ℕ)
after_parameter others ps h ts =
    if starts punctuators.CloseParenthesis ts then read_on (expect punctuators.CloseParenthesis ts) (λ _ us. Ok ((ps, h), us))
    else read_on (expect punctuators.Comma ts) (λ _ us. others ps h us)

-- parameters behind these, and the parenthesis at their end
unfoldable pub parameters : (m : ℕ) → ℕ → List ParameterTree → ℕ → Parse (List ParameterTree × ℕ)
parameters m zero done h ts = unexpected ts
parameters m (suc n) done h ts = read_on (parameter m ts) (λ p us. after_parameter (parameters m n) (done ++ p.0 ∷ []) (max h p.1) us)

-- `void` and the parenthesis behind it
abbrev pub is_void_head : List Terminal → Bool
is_void_head [] = false
is_void_head (t ∷ ts) = is_keyword keywords.Void t && starts punctuators.CloseParenthesis ts

-- behind the parenthesis of a header, with the parenthesis at the end
unfoldable pub head : (m : ℕ) → Parse (List ParameterTree × ℕ)
head m ts =
    if starts punctuators.CloseParenthesis ts then read_on (expect punctuators.CloseParenthesis ts) (λ _ us. Ok (([], 0), us))
    else if is_void_head ts then read_on (expect punctuators.CloseParenthesis (without_first ts)) (λ _ us. Ok (([], 0), us))
    else parameters m (length ts) [] 0 ts
