-- The parser of statements and units as functions on lists of tokens.
use Rattle.std.specs.Prelude.{ℕ, zero, suc, ◌+◌, ◌-◌, max, List, [], ◌∷◌, ◌++◌, length, drop, Ok, Option, Some, None, Bool, true, false, not, nat_le, ◌==◌, ◌&&◌, ◌||◌, if◌then◌else◌}
use Rattle.qs_syntax_vocabulary.specs.declared.terminal.Terminal.{Terminal}
use Rattle.qs_syntax_vocabulary.specs.declared.terminal.Terminal.TheVariants.{Name, TypeName, Keyword, Constant, Text, Punctuator}
use Rattle.qs_base.specs.declared.keyword.Keyword.TheVariants as keywords
use Rattle.qs_syntax_vocabulary.specs.declared.punctuator.Punctuator as punctuator
use Rattle.qs_syntax_vocabulary.specs.declared.punctuator.Punctuator.TheVariants as punctuators
use Rattle.qs_syntax.specs.declared.types.Base.{Base}
use Rattle.qs_syntax.specs.Trees.{unnumbered, ExprTree, ParameterTree, StartTree, no_start, start_expression, start_declaration, StmtTree, empty, expression, block, switch, case_label, default_label, branch, while_loop, do_loop, for_loop, break, continue, return, stmts_of, no_else, else_by, DeclaratorTree, DefinedTree, of_struct, of_base, DeclTree, structure, forward, typedef, function}
use Rattle.qs_syntax.specs.Trees as trees
use Rattle.qs_syntax_vocabulary.specs.Marks.{NameSet, marked}
use Rattle.qs_syntax.specs.ReadsTypes.{Names, Plain, Any}
use Rattle.qs_syntax.specs.ReadsUnits.{names_behind}
use Rattle.qs_syntax.specs.Reads.{Conditional, Expression, place}
use Rattle.qs_parser_grammar.specs.Heads.{is_keyword, is_punctuator, starts, starts_with, begins_type}
use Rattle.qs_parser_grammar.specs.Parse.{Parse, read_on, E, unexpected, deep, expect, expect_name, type, stars, begins_one, part}
use Rattle.qs_parser_grammar.specs.ParseDeclarations.{outer_type, declarator, declaration_within, declared, after_member, groups, head}

-- a statement or declaration, and how high it is
abbrev pub S : Type 0
S = StmtTree × ℕ

-- [ expression ] before this punctuator, which is read too
abbrev pub optional : (m : ℕ) → punctuator.Punctuator → Parse (Option ExprTree × ℕ)
optional m k ts =
    if starts k ts then read_on (expect k ts) (λ _ us. Ok ((None, 0), us))
    else read_on (part m Expression ts) (λ e us. read_on (expect k us) (λ _ vs. Ok ((Some e.0, e.1), vs)))

-- an expression in parentheses
abbrev pub condition : (m : ℕ) → Parse E
condition m ts = read_on (expect punctuators.OpenParenthesis ts) (λ _ us. read_on (part m Expression us) (λ e vs. read_on (expect punctuators.CloseParenthesis vs) (λ _ ws. Ok (e, ws))))

-- what a `for` begins with
abbrev pub start_of : (m : ℕ) → Parse (StartTree × ℕ)
start_of m ts =
    if begins_type ts then read_on (declaration_within m ts) (λ d us. Ok ((start_declaration d.0, d.1), us))
    else if starts punctuators.Semicolon ts then read_on (expect punctuators.Semicolon ts) (λ _ us. Ok ((no_start, 0), us))
    else read_on (part m Expression ts) (λ e us. read_on (expect punctuators.Semicolon us) (λ _ vs. Ok ((start_expression e.0, e.1), vs)))

abbrev pub begins_statement : List Terminal → Bool
begins_statement ts =
    begins_one ts || (starts punctuators.OpenBrace ts || (starts punctuators.Semicolon ts || (starts_with keywords.If ts || (starts_with keywords.While ts || (starts_with keywords.Do ts || (starts_with keywords.For ts || (starts_with keywords.Switch ts || (starts_with keywords.Break ts || (starts_with keywords.Continue ts || starts_with keywords.Return ts)))))))))

-- a label of a switch stands here
abbrev pub begins_label : List Terminal → Bool
begins_label ts = starts_with keywords.Case ts || starts_with keywords.Default ts

-- the brace at the end of a switch stands here, and no label before it
abbrev pub ends_switch : (labelled : Bool) → List Terminal → Bool
ends_switch labelled ts = not labelled && starts punctuators.CloseBrace ts

-- Where `m` levels are left for parts, and `inner` reads a statement of at most so many.
module _ (m : ℕ) (inner : Parse S) where
  abbrev pub item : Parse S
  item ts = if begins_type ts then read_on (declaration_within m ts) (λ d us. Ok ((trees.declaration d.0, d.1), us)) else inner ts

  -- Items behind these, and the brace at their end. The first number bounds the turns.
  unfoldable pub items : ℕ → List StmtTree → ℕ → Parse (List StmtTree × ℕ)
  items zero done h ts = unexpected ts
  items (suc n) done h ts =
      if starts punctuators.CloseBrace ts then read_on (expect punctuators.CloseBrace ts) (λ _ us. Ok ((done, h), us))
      else read_on (item ts) (λ s us. items n (done ++ s.0 ∷ []) (max h s.1) us)

  -- behind the brace
  abbrev pub in_block : Parse S
  in_block ts = read_on (items (length ts) [] 0 ts) (λ ss us. Ok ((block (stmts_of ss.0), ss.1 + 1), us))

  -- behind `case`, whose expression has a level less than the label
  abbrev pub after_case : (at : ℕ) → Parse S
  after_case at ts = read_on (part (m - 1) Conditional ts) (λ e us. read_on (expect punctuators.Colon us) (λ _ vs. Ok ((case_label (unnumbered at) e.0, e.1 + 1), vs)))

  abbrev pub case_of : Parse S
  case_of [] = unexpected []
  case_of (t ∷ ts) = if nat_le 2 m then after_case (place (t ∷ ts)) ts else deep (t ∷ ts)

  abbrev pub after_default : (at : ℕ) → Parse S
  after_default at ts = read_on (expect punctuators.Colon ts) (λ _ us. Ok ((default_label (unnumbered at), 1), us))

  abbrev pub default_of : Parse S
  default_of [] = unexpected []
  default_of (t ∷ ts) = if m == 0 then deep (t ∷ ts) else after_default (place (t ∷ ts)) ts

  -- a label, a declaration where none stands before it, or a statement
  abbrev pub switch_item : (labelled : Bool) → Parse S
  switch_item labelled ts =
      if starts_with keywords.Case ts then case_of ts
      else if starts_with keywords.Default ts then default_of ts
      else if labelled then inner ts else item ts

  -- Items of a switch behind these, and the brace at their end. The first number bounds the turns.
  unfoldable pub switch_items : ℕ → (labelled : Bool) → List StmtTree → ℕ → Parse (List StmtTree × ℕ)
  switch_items zero labelled done h ts = unexpected ts
  switch_items (suc n) labelled done h ts =
      if ends_switch labelled ts then read_on (expect punctuators.CloseBrace ts) (λ _ us. Ok ((done, h), us))
      else read_on (switch_item labelled ts) (λ s us. switch_items n (begins_label ts) (done ++ s.0 ∷ []) (max h s.1) us)

  -- the braces of a switch
  abbrev pub switch_block_at : Parse (List StmtTree × ℕ)
  switch_block_at ts = read_on (expect punctuators.OpenBrace ts) (λ _ us. read_on (switch_items (length us) false [] 0 us) (λ ss vs. Ok ((ss.0, ss.1 + 1), vs)))

  abbrev pub after_then : (at : ℕ) → E → S → Parse S
  after_then at e s ts =
      if starts_with keywords.Else ts then else_behind ts
      else Ok ((branch (unnumbered at) e.0 s.0 no_else, max e.1 s.1 + 1), ts)
    where
      else_behind : Parse S
      else_behind [] = unexpected []
      else_behind (u ∷ us) = read_on (inner us) (λ t vs. Ok ((branch (unnumbered at) e.0 s.0 (else_by t.0), max e.1 (max s.1 t.1) + 1), vs))

  -- `else` and what follows it, if it stands here
  abbrev pub otherwise : Parse (Option StmtTree × ℕ)
  otherwise ts =
      if starts_with keywords.Else ts then else_here ts
      else Ok ((None, 0), ts)
    where
      else_here : Parse (Option StmtTree × ℕ)
      else_here [] = unexpected []
      else_here (u ∷ us) = read_on (inner us) (λ t vs. Ok ((Some t.0, t.1), vs))

  abbrev pub after_if : (at : ℕ) → Parse S
  after_if at ts = read_on (condition m ts) (λ e us. read_on (inner us) (after_then at e))

  abbrev pub after_while : (at : ℕ) → Parse S
  after_while at ts = read_on (condition m ts) (λ e us. read_on (inner us) (λ s vs. Ok ((while_loop (unnumbered at) e.0 s.0, max e.1 s.1 + 1), vs)))

  abbrev pub expect_while : Parse (Unit {0})
  expect_while [] = unexpected []
  expect_while (t ∷ ts) = if is_keyword keywords.While t then Ok (tt, ts) else unexpected (t ∷ ts)

  abbrev pub after_do : (at : ℕ) → Parse S
  after_do at ts = read_on (inner ts) (λ s us. read_on (expect_while us) (λ _ vs. read_on (condition m vs) (λ e ws. read_on (expect punctuators.Semicolon ws) (λ _ xs. Ok ((do_loop (unnumbered at) s.0 e.0, max s.1 e.1 + 1), xs)))))

  abbrev pub after_for : (at : ℕ) → Parse S
  after_for at ts =
      read_on (expect punctuators.OpenParenthesis ts) (λ _ us. read_on (start_of m us) (λ a vs. read_on (optional m punctuators.Semicolon vs) (λ e ws. read_on (optional m punctuators.CloseParenthesis ws) (λ u xs. read_on (inner xs)
      (λ s ys. Ok ((for_loop (unnumbered at) a.0 e.0 u.0 s.0, max a.1 (max e.1 (max u.1 s.1)) + 1), ys))))))

  abbrev pub after_return : (at : ℕ) → Parse S
  after_return at ts = read_on (optional m punctuators.Semicolon ts) (λ e us. Ok ((return (unnumbered at) e.0, e.1 + 1), us))

  -- an expression and the semicolon behind it
  abbrev pub running : Parse S
  running ts = read_on (part m Expression ts) (λ e us. read_on (expect punctuators.Semicolon us) (λ _ vs. Ok ((expression (unnumbered (place ts)) e.0, e.1 + 1), vs)))

  -- a statement that has no statement as a part
  abbrev pub plain_statement : (at : ℕ) → (first : Terminal) → Parse S
  plain_statement at t ts =
      if is_keyword keywords.Break t then read_on (expect punctuators.Semicolon ts) (λ _ us. Ok ((break (unnumbered at), 1), us))
      else if is_keyword keywords.Continue t then read_on (expect punctuators.Semicolon ts) (λ _ us. Ok ((continue (unnumbered at), 1), us))
      else if is_keyword keywords.Return t then after_return at ts
      else running (t ∷ ts)

  -- `braces` reads those of a switch
  module _ (braces : Parse (List StmtTree × ℕ)) where
    abbrev pub after_switch : (at : ℕ) → Parse S
    after_switch at ts = read_on (condition m ts) (λ e us. read_on (braces us) (λ ss vs. Ok ((switch (unnumbered at) e.0 (stmts_of ss.0), max e.1 ss.1 + 1), vs)))

    abbrev pub keyword_statement : (at : ℕ) → (first : Terminal) → Parse S
    keyword_statement at t ts =
        if is_keyword keywords.If t then (if m == 0 then deep (t ∷ ts) else after_if at ts)
        else if is_keyword keywords.While t then (if m == 0 then deep (t ∷ ts) else after_while at ts)
        else if is_keyword keywords.Do t then (if m == 0 then deep (t ∷ ts) else after_do at ts)
        else if is_keyword keywords.For t then (if m == 0 then deep (t ∷ ts) else after_for at ts)
        else if is_keyword keywords.Switch t then (if m == 0 then deep (t ∷ ts) else after_switch at ts)
        else plain_statement at t ts

    abbrev pub statement_at : Parse S
    statement_at [] = unexpected []
    statement_at (t ∷ ts) =
        if is_punctuator punctuators.Semicolon t then Ok ((empty (unnumbered (place (t ∷ ts))), 1), ts)
        else if is_punctuator punctuators.OpenBrace t then in_block ts
        else keyword_statement (place (t ∷ ts)) t ts

-- what is at most n high
unfoldable mutual
  pub statement : ℕ → Parse S
  statement zero ts = if begins_statement ts then deep ts else unexpected ts
  statement (suc m) ts = statement_at m (statement m) (switch_block m) ts

  -- the braces of a switch, with what stands between them
  pub switch_block : ℕ → Parse (List StmtTree × ℕ)
  switch_block zero ts = if starts punctuators.OpenBrace ts then deep ts else unexpected ts
  switch_block (suc m) ts = switch_block_at m (statement m) ts

-- ---- at file scope, where what is given is at most k + 2 high

abbrev pub may_be_types : Names → Bool
may_be_types Plain = false
may_be_types Any = true

-- a name and this punctuator
abbrev pub is_named : Names → punctuator.Punctuator → List Terminal → Bool
is_named names k [] = false
is_named names k (Name at x ∷ ts) = starts k ts
is_named names k (TypeName at x ∷ ts) = may_be_types names && starts k ts
is_named names k (Keyword at l ∷ ts) = false
is_named names k (Constant at n unsigned ∷ ts) = false
is_named names k (Text at bytes ∷ ts) = false
is_named names k (Punctuator at l ∷ ts) = false

-- behind `struct`
abbrev pub struct_of : (k : ℕ) → (at : ℕ) → Parse (DeclTree × ℕ)
struct_of k at ts =
    read_on (expect_name Any ts) (λ x us. read_on (expect punctuators.OpenBrace us) (λ _ vs. read_on (groups k (length vs) [] 0 vs) (λ ms ws. read_on (expect punctuators.Semicolon ws) (λ _ xs.
    Ok ((structure (record { node = unnumbered at; name = Some x.1; members = ms.0 }), ms.1 + 1), xs)))))

abbrev pub forward_of : (at : ℕ) → Parse (DeclTree × ℕ)
forward_of at ts = read_on (expect_name Any ts) (λ x us. read_on (expect punctuators.Semicolon us) (λ _ vs. Ok ((forward (record { node = unnumbered at; name = x.1 }), 1), vs)))

-- behind a header's parameters: the semicolon or the body
abbrev pub body_of : (k : ℕ) → (start : ℕ) → Base → ℕ → List ℕ → List ParameterTree × ℕ → Parse (DeclTree × ℕ)
body_of k start b n x ps ts =
    if starts punctuators.Semicolon ts
    then read_on (expect punctuators.Semicolon ts) (λ _ us. Ok ((function (record { node = unnumbered start; result_type = record { base = b; stars = n }; name = x; parameters = ps.0; body = None }), ps.1 + 1), us))
    else read_on (expect punctuators.OpenBrace ts) (λ _ us. read_on (items k (statement k) (length us) [] 0 us) (λ ss vs.
    Ok ((function (record { node = unnumbered start; result_type = record { base = b; stars = n }; name = x; parameters = ps.0; body = Some (stmts_of ss.0) }), max ps.1 (ss.1 + 1) + 1), vs)))

-- behind the stars of a header
abbrev pub function_of : (k : ℕ) → (start : ℕ) → Base → ℕ → Parse (DeclTree × ℕ)
function_of k start b n ts =
    read_on (expect_name Plain ts) (λ x us. read_on (expect punctuators.OpenParenthesis us) (λ _ vs. read_on (head k vs) (body_of k start b n x.1)))

-- behind a type
abbrev pub typed : (k : ℕ) → (start : ℕ) → Base → Parse (DeclTree × ℕ)
typed k start b ts =
    if is_named Plain punctuators.OpenParenthesis (stars ts).1 then function_of k start b (stars ts).0 (stars ts).1
    else read_on (declared (k + 1) b ts) (λ d us. Ok ((trees.variables d.0, d.1), us))

-- an external that declares no type names
unfoldable pub plain : (k : ℕ) → Parse (DeclTree × ℕ)
plain k [] = unexpected []
plain k (t ∷ ts) =
    if is_keyword keywords.Struct t && is_named Any punctuators.OpenBrace ts then struct_of k (place (t ∷ ts)) ts
    else if is_keyword keywords.Struct t && is_named Any punctuators.Semicolon ts then forward_of (place (t ∷ ts)) ts
    else read_on (outer_type (t ∷ ts)) (typed k (place (t ∷ ts)))

-- behind the tag of a struct that a typedef defines, if it has one
abbrev pub braced : (k : ℕ) → (at : ℕ) → Option (List ℕ) → Parse (DefinedTree × ℕ)
braced k at x ts = read_on (expect punctuators.OpenBrace ts) (λ _ us. read_on (groups k (length us) [] 0 us) (λ ms vs. Ok ((of_struct (record { node = unnumbered at; name = x; members = ms.0 }), ms.1 + 1), vs)))

-- such a struct, behind `struct`
abbrev pub struct_defined : (k : ℕ) → (at : ℕ) → Parse (DefinedTree × ℕ)
struct_defined k at ts = if starts punctuators.OpenBrace ts then braced k at None ts else read_on (expect_name Any ts) (λ x us. braced k at (Some x.1) us)

-- behind `struct`: members follow, with or without a tag before them
abbrev pub has_members : List Terminal → Bool
has_members ts = starts punctuators.OpenBrace ts || is_named Any punctuators.OpenBrace ts

abbrev pub known_type : Parse (DefinedTree × ℕ)
known_type ts = read_on (type ts) (λ b us. Ok ((of_base b, 0), us))

-- what a typedef gives names to
unfoldable pub defined : (k : ℕ) → Parse (DefinedTree × ℕ)
defined k [] = unexpected []
defined k (t ∷ ts) = if is_keyword keywords.Struct t && has_members ts then struct_defined k (place (t ∷ ts)) ts else known_type (t ∷ ts)

-- ---- where a set says which names are types'

-- what is read where the names are marked by the set, and the tokens behind it without marks
abbrev pub in_marks : {A : Type 0} → NameSet → Parse A → Parse A
in_marks set p ts = read_on (p (marked set ts)) (λ x us. Ok (x, drop (length ts - length us) ts))

-- names of types behind these, and the semicolon at their end; each is added to the set before the others
unfoldable pub type_names : (m : ℕ) → NameSet → ℕ → List DeclaratorTree → ℕ → Parse (List DeclaratorTree × ℕ)
type_names m set zero done h ts = unexpected ts
type_names m set (suc n) done h ts = read_on (in_marks set (declarator Any m) ts) (λ d us. after_member (type_names m (d.0.name ∷ set) n) (done ++ d.0 ∷ []) (max h (d.1 + 1)) us)

-- behind `typedef`
abbrev pub typedef_of : (k : ℕ) → NameSet → Parse (DeclTree × ℕ)
typedef_of k set ts =
    read_on (in_marks set (defined k) ts) (λ t us. read_on (type_names (k + 1) set (length us) [] 0 us) (λ ds vs. Ok ((typedef (record { defined = t.0; names = ds.0 }), max t.1 ds.1), vs)))

unfoldable pub external : (k : ℕ) → NameSet → Parse (DeclTree × ℕ)
external k set [] = unexpected []
external k set (t ∷ ts) = if is_keyword keywords.Typedef t then typedef_of k set ts else in_marks set (plain k) (t ∷ ts)

abbrev pub is_empty : List Terminal → Bool
is_empty [] = true
is_empty (u ∷ us) = false

-- Externals behind these, up to the end. The first number bounds the turns.
unfoldable pub externals : (k : ℕ) → NameSet → ℕ → List DeclTree → ℕ → Parse (List DeclTree × ℕ)
externals k set zero done h ts = unexpected ts
externals k set (suc n) done h ts = read_on (external k set ts) (λ d us. if is_empty us then Ok ((done ++ d.0 ∷ [], max h d.1), us) else externals k (names_behind set d.0) n (done ++ d.0 ∷ []) (max h d.1) us)

-- what is at most k + 2 high
unfoldable pub unit : (k : ℕ) → Parse (List DeclTree × ℕ)
unit k ts = externals k [] (length ts) [] 0 ts
