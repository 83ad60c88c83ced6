-- How tokens are read as statements (C11 6.8): one constructor for each production. A block is 1 higher than its highest item; a
-- declaration is no node, and as high as its highest variable. What stands between the braces of a switch is a block's, with the labels
-- among the items.
use Rattle.std.specs.Prelude.{◌≡◌, ℕ, suc, max, Bool, false, true, List, [], ◌∷◌, ◌++◌, Option, Some, None}
use Rattle.qs_syntax_vocabulary.specs.declared.terminal.Terminal.{Terminal}
use Rattle.qs_syntax_vocabulary.specs.declared.terminal.Terminal.TheVariants.{Keyword, Punctuator}
use Rattle.qs_base.specs.declared.keyword.Keyword.TheVariants as keywords
use Rattle.qs_syntax_vocabulary.specs.declared.punctuator.Punctuator.TheVariants as punctuators
use Rattle.qs_syntax.specs.Trees.{unnumbered, ExprTree, DeclarationTree, StartTree, no_start, start_expression, start_declaration, StmtTree, empty, expression, declaration, block, switch, case_label, default_label, branch, while_loop, do_loop, for_loop, break, continue, return, Stmts, no_stmts, stmt_and, Else, no_else, else_by}
use Rattle.qs_syntax.specs.Reads.{Reads, Conditional, Expression, place}
use Rattle.qs_syntax.specs.ReadsDeclarations.{ReadsDeclaration}

-- an `else` that follows would belong to an `if` in it (6.8.4.1)
abbrev mutual
  pub is_open : StmtTree → Bool
  is_open (empty node) = false
  is_open (expression node e) = false
  is_open (declaration d) = false
  is_open (block ss) = false
  is_open (switch node e ss) = false
  is_open (case_label node e) = false
  is_open (default_label node) = false
  is_open (branch node e s rest) = is_open_end rest
  is_open (while_loop node e s) = is_open s
  is_open (do_loop node s e) = false
  is_open (for_loop node start e u s) = is_open s
  is_open (break node) = false
  is_open (continue node) = false
  is_open (return node e) = false

  pub is_open_end : Else → Bool
  is_open_end no_else = true
  is_open_end (else_by s) = is_open s

-- [ expression ]
pub data ReadsOptional : ℕ → List Terminal → Option ExprTree → Type 0 where
  nothing_there : ReadsOptional 0 [] None
  something_there : {h : ℕ} {ts : List Terminal} {e : ExprTree} → Reads Expression h ts e → ReadsOptional h ts (Some e)

-- declaration | [ expression ] ";"
pub data ReadsStart : ℕ → List Terminal → StartTree → Type 0 where
  a_start_declaration : {h : ℕ} {ts : List Terminal} {d : DeclarationTree} → ReadsDeclaration h ts d → ReadsStart h ts (start_declaration d)
  a_start_expression : {h : ℕ} {ts : List Terminal} {e : ExprTree} (s : ℕ) → Reads Expression h ts e → ReadsStart h (ts ++ Punctuator s punctuators.Semicolon ∷ []) (start_expression e)
  no_start_at_all : (s : ℕ) → ReadsStart 0 (Punctuator s punctuators.Semicolon ∷ []) no_start

-- label = "case" conditional ":" | "default" ":"
pub data ReadsLabel : ℕ → List Terminal → StmtTree → Type 0 where
  a_case : {h : ℕ} {ts : List Terminal} {e : ExprTree} (at c : ℕ) → Reads Conditional h ts e → ReadsLabel (suc h) (Keyword at keywords.Case ∷ (ts ++ Punctuator c punctuators.Colon ∷ [])) (case_label (unnumbered at) e)
  a_default : (at c : ℕ) → ReadsLabel 1 (Keyword at keywords.Default ∷ Punctuator c punctuators.Colon ∷ []) (default_label (unnumbered at))

mutual
  -- statement
  pub data ReadsStatement : ℕ → List Terminal → StmtTree → Type 0 where
    -- block = "{" { item } "}"
    a_block : {h : ℕ} {ts : List Terminal} {ss : Stmts} (o c : ℕ) → ReadsItems h ts ss → ReadsStatement (suc h) (Punctuator o punctuators.OpenBrace ∷ (ts ++ Punctuator c punctuators.CloseBrace ∷ [])) (block ss)
    an_empty : (at : ℕ) → ReadsStatement 1 (Punctuator at punctuators.Semicolon ∷ []) (empty (unnumbered at))
    an_expression : {h : ℕ} {ts : List Terminal} {e : ExprTree} (s : ℕ) → Reads Expression h ts e → ReadsStatement (suc h) (ts ++ Punctuator s punctuators.Semicolon ∷ []) (expression (unnumbered (place ts)) e)
    an_if : {h k : ℕ} {xs ys : List Terminal} {e : ExprTree} {s : StmtTree} (at o c : ℕ) → Reads Expression h xs e → ReadsStatement k ys s
        → ReadsStatement (suc (max h k)) (Keyword at keywords.If ∷ Punctuator o punctuators.OpenParenthesis ∷ (xs ++ Punctuator c punctuators.CloseParenthesis ∷ ys)) (branch (unnumbered at) e s no_else)
    -- an `else` belongs to the nearest `if` that may take it
    an_if_with_else : {h k l : ℕ} {xs ys zs : List Terminal} {e : ExprTree} {s t : StmtTree} (at o c n : ℕ) → Reads Expression h xs e → ReadsStatement k ys s → is_open s ≡ false → ReadsStatement l zs t
        → ReadsStatement (suc (max h (max k l))) (Keyword at keywords.If ∷ Punctuator o punctuators.OpenParenthesis ∷ (xs ++ Punctuator c punctuators.CloseParenthesis ∷ (ys ++ Keyword n keywords.Else ∷ zs))) (branch (unnumbered at) e s (else_by t))
    a_while : {h k : ℕ} {xs ys : List Terminal} {e : ExprTree} {s : StmtTree} (at o c : ℕ) → Reads Expression h xs e → ReadsStatement k ys s
        → ReadsStatement (suc (max h k)) (Keyword at keywords.While ∷ Punctuator o punctuators.OpenParenthesis ∷ (xs ++ Punctuator c punctuators.CloseParenthesis ∷ ys)) (while_loop (unnumbered at) e s)
    a_do : {h k : ℕ} {xs ys : List Terminal} {s : StmtTree} {e : ExprTree} (at w o c n : ℕ) → ReadsStatement h xs s → Reads Expression k ys e
        → ReadsStatement (suc (max h k)) (Keyword at keywords.Do ∷ (xs ++ Keyword w keywords.While ∷ Punctuator o punctuators.OpenParenthesis ∷ (ys ++ Punctuator c punctuators.CloseParenthesis ∷ Punctuator n punctuators.Semicolon ∷ []))) (do_loop (unnumbered at) s e)
    a_for : {h i j k : ℕ} {ws xs ys zs : List Terminal} {start : StartTree} {e u : Option ExprTree} {s : StmtTree} (at o n c : ℕ) → ReadsStart h ws start → ReadsOptional i xs e → ReadsOptional j ys u → ReadsStatement k zs s
        → ReadsStatement (suc (max h (max i (max j k)))) (Keyword at keywords.For ∷ Punctuator o punctuators.OpenParenthesis ∷ (ws ++ (xs ++ Punctuator n punctuators.Semicolon ∷ (ys ++ Punctuator c punctuators.CloseParenthesis ∷ zs)))) (for_loop (unnumbered at) start e u s)
    -- "switch" "(" expression ")" "{" { sitem } "}"
    a_switch : {h k : ℕ} {xs ys : List Terminal} {e : ExprTree} {ss : Stmts} (at o c : ℕ) → Reads Expression h xs e → ReadsSwitchBlock k ys ss
        → ReadsStatement (suc (max h k)) (Keyword at keywords.Switch ∷ Punctuator o punctuators.OpenParenthesis ∷ (xs ++ Punctuator c punctuators.CloseParenthesis ∷ ys)) (switch (unnumbered at) e ss)
    a_break : (at s : ℕ) → ReadsStatement 1 (Keyword at keywords.Break ∷ Punctuator s punctuators.Semicolon ∷ []) (break (unnumbered at))
    a_continue : (at s : ℕ) → ReadsStatement 1 (Keyword at keywords.Continue ∷ Punctuator s punctuators.Semicolon ∷ []) (continue (unnumbered at))
    a_return : {h : ℕ} {ts : List Terminal} {e : Option ExprTree} (at s : ℕ) → ReadsOptional h ts e → ReadsStatement (suc h) (Keyword at keywords.Return ∷ (ts ++ Punctuator s punctuators.Semicolon ∷ [])) (return (unnumbered at) e)

  -- item = declaration | statement
  pub data ReadsItem : ℕ → List Terminal → StmtTree → Type 0 where
    a_statement : {h : ℕ} {ts : List Terminal} {s : StmtTree} → ReadsStatement h ts s → ReadsItem h ts s
    a_declared : {h : ℕ} {ts : List Terminal} {d : DeclarationTree} → ReadsDeclaration h ts d → ReadsItem h ts (declaration d)

  -- { item }
  pub data ReadsItems : ℕ → List Terminal → Stmts → Type 0 where
    no_item : ReadsItems 0 [] no_stmts
    an_item : {h k : ℕ} {xs ys : List Terminal} {s : StmtTree} {ss : Stmts} → ReadsItem h xs s → ReadsItems k ys ss → ReadsItems (max h k) (xs ++ ys) (stmt_and s ss)

  -- "{" { sitem } "}"
  pub data ReadsSwitchBlock : ℕ → List Terminal → Stmts → Type 0 where
    in_braces : {h : ℕ} {ts : List Terminal} {ss : Stmts} (o c : ℕ) → ReadsSwitchItems false h ts ss → ReadsSwitchBlock (suc h) (Punctuator o punctuators.OpenBrace ∷ (ts ++ Punctuator c punctuators.CloseBrace ∷ [])) ss

  -- sitem = declaration | { label } statement, in steps of a label, a declaration or a statement. The first of the two says whether a label
  -- stands before it, which wants a statement, the second whether it is a label.
  pub data ReadsSwitchItem : Bool → Bool → ℕ → List Terminal → StmtTree → Type 0 where
    a_label : {labelled : Bool} {h : ℕ} {ts : List Terminal} {s : StmtTree} → ReadsLabel h ts s → ReadsSwitchItem labelled true h ts s
    a_switch_statement : {labelled : Bool} {h : ℕ} {ts : List Terminal} {s : StmtTree} → ReadsStatement h ts s → ReadsSwitchItem labelled false h ts s
    a_switch_declaration : {h : ℕ} {ts : List Terminal} {d : DeclarationTree} → ReadsDeclaration h ts d → ReadsSwitchItem false false h ts (declaration d)

  -- { sitem }
  pub data ReadsSwitchItems : Bool → ℕ → List Terminal → Stmts → Type 0 where
    no_switch_item : ReadsSwitchItems false 0 [] no_stmts
    a_switch_item : {labelled labels : Bool} {h k : ℕ} {xs ys : List Terminal} {s : StmtTree} {ss : Stmts} → ReadsSwitchItem labelled labels h xs s → ReadsSwitchItems labels k ys ss
        → ReadsSwitchItems labelled (max h k) (xs ++ ys) (stmt_and s ss)
