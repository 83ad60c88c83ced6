-- Further names of types among tokens with marks (C11 6.7.8), and the grammar's readers of units on such tokens: they mark each name that a
-- typedef declares in what follows it.
use Rattle.std.specs.Prelude.{ℕ, zero, suc, ◌+◌, ◌-◌, max, List, [], ◌∷◌, ◌++◌, length, drop, map, bytes_eq, Ok, if◌then◌else◌}
use Rattle.qs_syntax_vocabulary.specs.declared.terminal.Terminal.{Terminal}
use Rattle.qs_syntax_vocabulary.specs.declared.terminal.Terminal.TheVariants.{Name, TypeName, Keyword, Constant, Text, Punctuator}
use Rattle.qs_base.specs.declared.keyword.Keyword.TheVariants as keywords
use Rattle.qs_syntax.specs.ReadsTypes.{Any}
use Rattle.qs_syntax.specs.Trees.{DeclaratorTree, DeclTree, typedef}
use Rattle.qs_parser_grammar.specs.Heads.{is_keyword}
use Rattle.qs_parser_grammar.specs.Parse.{Parse, read_on, unexpected}
use Rattle.qs_parser_grammar.specs.ParseDeclarations.{declarator, after_member}
use Rattle.qs_parser_grammar.specs.ParseStatements.{plain, defined, is_empty}

-- the token, as that of a type where it is this name
abbrev pub also : List ℕ → Terminal → Terminal
also x (Name at y) = if bytes_eq y x then TypeName at y else Name at y
also x (TypeName at y) = TypeName at y
also x (Keyword at k) = Keyword at k
also x (Constant at n unsigned) = Constant at n unsigned
also x (Text at bytes) = Text at bytes
also x (Punctuator at m) = Punctuator at m

abbrev pub marked_also : List ℕ → List Terminal → List Terminal
marked_also x ts = map (also x) ts

-- the last so many
abbrev pub last : ℕ → List Terminal → List Terminal
last n ts = drop (length ts - n) ts

-- ---- the readers

unfoldable pub type_names : (m : ℕ) → ℕ → List DeclaratorTree → ℕ → Parse (List DeclaratorTree × ℕ)
type_names m zero done h ts = unexpected ts
type_names m (suc n) done h ts = read_on (declarator Any m ts) (λ d us. after_member (type_names m n) (done ++ d.0 ∷ []) (max h (d.1 + 1)) (marked_also d.0.name us))

abbrev pub typedef_of : (k : ℕ) → Parse (DeclTree × ℕ)
typedef_of k ts = read_on (defined k ts) (λ t us. read_on (type_names (k + 1) (length us) [] 0 us) (λ ds vs. Ok ((typedef (record { defined = t.0; names = ds.0 }), max t.1 ds.1), vs)))

unfoldable pub external : (k : ℕ) → Parse (DeclTree × ℕ)
external k [] = unexpected []
external k (t ∷ ts) = if is_keyword keywords.Typedef t then typedef_of k ts else plain k (t ∷ ts)

unfoldable pub externals : (k : ℕ) → ℕ → List DeclTree → ℕ → Parse (List DeclTree × ℕ)
externals k zero done h ts = unexpected ts
externals k (suc n) done h ts = read_on (external k ts) (λ d us. if is_empty us then Ok ((done ++ d.0 ∷ [], max h d.1), us) else externals k n (done ++ d.0 ∷ []) (max h d.1) us)
