-- How tokens are read as expressions (C11 6.5): one constructor for each production. `Reads form height tokens tree` says that the
-- tokens are an expression of that form, read as that tree, and how high the reading is: 1 without parts, and else 1 more than the
-- highest part, where parentheses count too. The nodes are still without numbers (0), and each stands at its first token.
use Rattle.std.specs.Prelude.{◌≡◌, ℕ, suc, max, Bool, List, [], ◌∷◌, ◌++◌}
use Rattle.qs_syntax_vocabulary.specs.declared.terminal.Terminal.{Terminal}
use Rattle.qs_syntax_vocabulary.specs.declared.terminal.Terminal.TheVariants.{Name, Keyword, Constant, Text, Punctuator}
use Rattle.qs_base.specs.declared.keyword.Keyword.TheVariants as keywords
use Rattle.qs_syntax_vocabulary.specs.declared.punctuator.Punctuator.TheVariants as punctuators
use Rattle.qs_syntax_vocabulary.specs.declared.operators.UnaryOperator.{UnaryOperator}
use Rattle.qs_syntax_vocabulary.specs.declared.operators.BinaryOperator.{BinaryOperator}
use Rattle.qs_syntax_vocabulary.specs.declared.operators.AssignmentOperator.{AssignmentOperator}
use Rattle.qs_syntax_vocabulary.specs.declared.operators.Access.{Access}
use Rattle.qs_syntax_vocabulary.specs.declared.operators.StepOperator.TheVariants as steps
use Rattle.qs_syntax.specs.declared.types.TypeName.{TypeName}
use Rattle.qs_syntax.specs.Trees.{unnumbered, ExprTree, expr, ShapeTree, constant, text, name, unary, step, cast, sizeof_type, sizeof_expr, binary, assign, conditional, comma, subscript, member, call, Exprs, no_exprs, expr_and}
use Rattle.qs_syntax_vocabulary.specs.Operators.{punctuator_of_unary, punctuator_of_binary, precedence, weakest, punctuator_of_assign, punctuator_of_access, number_of}
use Rattle.qs_syntax.specs.ReadsTypes.{Any, ReadsName, ReadsTypeName}

-- what an expression is read as; Level 0 is `cast`, Level 1 to `weakest` are the operators from `* / %` to `||`
pub data Form : Type 0 where
  Postfix : Form
  Unary : Form
  Level : ℕ → Form
  Conditional : Form
  Assignment : Form
  Expression : Form

-- the number of the first token
abbrev pub place : List Terminal → ℕ
place [] = 0
place (t ∷ ts) = number_of t

-- a node at the first of these tokens, without a number
abbrev pub at_first : List Terminal → ShapeTree → ExprTree
at_first ts shape = expr (unnumbered (place ts)) shape

-- { TEXT }, joined
pub data ReadsTexts : List Terminal → List ℕ → Type 0 where
  no_text : ReadsTexts [] []
  a_further_text : {ts : List Terminal} {bytes : List ℕ} (at : ℕ) (first : List ℕ) → ReadsTexts ts bytes → ReadsTexts (Text at first ∷ ts) (first ++ bytes)

mutual
  pub data Reads : Form → ℕ → List Terminal → ExprTree → Type 0 where
    -- primary = NAME | NAME "(" [ assignment { "," assignment } ] ")" | NUMBER | CHARACTER | TEXT { TEXT } | "(" expression ")"
    a_name : (at : ℕ) (x : List ℕ) → Reads Postfix 1 (Name at x ∷ []) (expr (unnumbered at) (name x))
    an_empty_call : (at o c : ℕ) (f : List ℕ) → Reads Postfix 1 (Name at f ∷ Punctuator o punctuators.OpenParenthesis ∷ Punctuator c punctuators.CloseParenthesis ∷ []) (expr (unnumbered at) (call f no_exprs))
    a_call : {h : ℕ} {ts : List Terminal} {es : Exprs} (at o c : ℕ) (f : List ℕ) → ReadsArguments h ts es
        → Reads Postfix (suc h) (Name at f ∷ Punctuator o punctuators.OpenParenthesis ∷ (ts ++ Punctuator c punctuators.CloseParenthesis ∷ [])) (expr (unnumbered at) (call f es))
    a_constant : (at n : ℕ) (unsigned : Bool) → Reads Postfix 1 (Constant at n unsigned ∷ []) (expr (unnumbered at) (constant n unsigned))
    a_text : {ts : List Terminal} {bytes : List ℕ} (at : ℕ) (first : List ℕ) → ReadsTexts ts bytes → Reads Postfix 1 (Text at first ∷ ts) (expr (unnumbered at) (text (first ++ bytes)))
    in_parentheses : {h : ℕ} {ts : List Terminal} {e : ExprTree} (o c : ℕ) → Reads Expression h ts e
        → Reads Postfix (suc h) (Punctuator o punctuators.OpenParenthesis ∷ (ts ++ Punctuator c punctuators.CloseParenthesis ∷ [])) e
    -- postfix = primary { "[" expression "]" | "." ANYNAME | "->" ANYNAME | "++" | "--" }
    an_index : {h k : ℕ} {xs ys : List Terminal} {a b : ExprTree} (o c : ℕ) → Reads Postfix h xs a → Reads Expression k ys b
        → Reads Postfix (suc (max h k)) (xs ++ Punctuator o punctuators.OpenBracket ∷ (ys ++ Punctuator c punctuators.CloseBracket ∷ [])) (at_first xs (subscript a b))
    a_member : {h n : ℕ} {xs : List Terminal} {t : Terminal} {a : ExprTree} {x : List ℕ} (access : Access) (d : ℕ) → Reads Postfix h xs a → ReadsName Any t n x
        → Reads Postfix (suc h) (xs ++ Punctuator d (punctuator_of_access access) ∷ t ∷ []) (at_first xs (member access a x))
    an_increment_after : {h : ℕ} {xs : List Terminal} {a : ExprTree} (s : ℕ) → Reads Postfix h xs a
        → Reads Postfix (suc h) (xs ++ Punctuator s punctuators.Increment ∷ []) (at_first xs (step steps.IncrementAfter a))
    a_decrement_after : {h : ℕ} {xs : List Terminal} {a : ExprTree} (s : ℕ) → Reads Postfix h xs a
        → Reads Postfix (suc h) (xs ++ Punctuator s punctuators.Decrement ∷ []) (at_first xs (step steps.DecrementAfter a))
    -- unary = postfix | ( "++" | "--" ) unary | ( "&" | "*" | "+" | "-" | "~" | "!" ) cast | "sizeof" "(" typename ")" | "sizeof" unary
    a_postfix : {h : ℕ} {ts : List Terminal} {e : ExprTree} → Reads Postfix h ts e → Reads Unary h ts e
    an_increment : {h : ℕ} {ts : List Terminal} {e : ExprTree} (at : ℕ) → Reads Unary h ts e → Reads Unary (suc h) (Punctuator at punctuators.Increment ∷ ts) (expr (unnumbered at) (step steps.IncrementBefore e))
    a_decrement : {h : ℕ} {ts : List Terminal} {e : ExprTree} (at : ℕ) → Reads Unary h ts e → Reads Unary (suc h) (Punctuator at punctuators.Decrement ∷ ts) (expr (unnumbered at) (step steps.DecrementBefore e))
    an_operator : {h : ℕ} {ts : List Terminal} {e : ExprTree} (operator : UnaryOperator) (at : ℕ) → Reads (Level 0) h ts e → Reads Unary (suc h) (Punctuator at (punctuator_of_unary operator) ∷ ts) (expr (unnumbered at) (unary operator e))
    a_size_of_type : {ts : List Terminal} {type : TypeName} (at o c : ℕ) → ReadsTypeName ts type
        → Reads Unary 1 (Keyword at keywords.Sizeof ∷ Punctuator o punctuators.OpenParenthesis ∷ (ts ++ Punctuator c punctuators.CloseParenthesis ∷ [])) (expr (unnumbered at) (sizeof_type type))
    a_size_of_value : {h : ℕ} {ts : List Terminal} {e : ExprTree} (at : ℕ) → Reads Unary h ts e → Reads Unary (suc h) (Keyword at keywords.Sizeof ∷ ts) (expr (unnumbered at) (sizeof_expr e))
    -- cast = "(" typename ")" cast | unary
    a_cast : {h : ℕ} {ts us : List Terminal} {type : TypeName} {e : ExprTree} (at c : ℕ) → ReadsTypeName ts type → Reads (Level 0) h us e
        → Reads (Level 0) (suc h) (Punctuator at punctuators.OpenParenthesis ∷ (ts ++ Punctuator c punctuators.CloseParenthesis ∷ us)) (expr (unnumbered at) (cast type e))
    an_operand : {h : ℕ} {ts : List Terminal} {e : ExprTree} → Reads Unary h ts e → Reads (Level 0) h ts e
    -- ten levels of operators that group to the left
    stronger : {j h : ℕ} {ts : List Terminal} {e : ExprTree} → Reads (Level j) h ts e → Reads (Level (suc j)) h ts e
    an_operation : {j h k : ℕ} {xs ys : List Terminal} {a b : ExprTree} (operator : BinaryOperator) (at : ℕ) → precedence operator ≡ suc j → Reads (Level (suc j)) h xs a → Reads (Level j) k ys b
        → Reads (Level (suc j)) (suc (max h k)) (xs ++ Punctuator at (punctuator_of_binary operator) ∷ ys) (at_first xs (binary operator a b))
    -- conditional = or [ "?" expression ":" conditional ]
    a_plain_level : {h : ℕ} {ts : List Terminal} {e : ExprTree} → Reads (Level weakest) h ts e → Reads Conditional h ts e
    a_choice : {h k l : ℕ} {xs ys zs : List Terminal} {a b c : ExprTree} (q s : ℕ) → Reads (Level weakest) h xs a → Reads Expression k ys b → Reads Conditional l zs c
        → Reads Conditional (suc (max h (max k l))) (xs ++ Punctuator q punctuators.Question ∷ (ys ++ Punctuator s punctuators.Colon ∷ zs)) (at_first xs (conditional a b c))
    -- assignment = conditional | unary asgop assignment
    a_plain_conditional : {h : ℕ} {ts : List Terminal} {e : ExprTree} → Reads Conditional h ts e → Reads Assignment h ts e
    an_assignment : {h k : ℕ} {xs ys : List Terminal} {a b : ExprTree} (operator : AssignmentOperator) (at : ℕ) → Reads Unary h xs a → Reads Assignment k ys b
        → Reads Assignment (suc (max h k)) (xs ++ Punctuator at (punctuator_of_assign operator) ∷ ys) (at_first xs (assign operator a b))
    -- expression = assignment { "," assignment }
    a_plain_assignment : {h : ℕ} {ts : List Terminal} {e : ExprTree} → Reads Assignment h ts e → Reads Expression h ts e
    a_comma : {h k : ℕ} {xs ys : List Terminal} {a b : ExprTree} (at : ℕ) → Reads Expression h xs a → Reads Assignment k ys b
        → Reads Expression (suc (max h k)) (xs ++ Punctuator at punctuators.Comma ∷ ys) (at_first xs (comma a b))

  -- assignment { "," assignment }; the height of the highest
  pub data ReadsArguments : ℕ → List Terminal → Exprs → Type 0 where
    a_last_argument : {h : ℕ} {ts : List Terminal} {e : ExprTree} → Reads Assignment h ts e → ReadsArguments h ts (expr_and e no_exprs)
    an_argument : {h k : ℕ} {xs ys : List Terminal} {e : ExprTree} {es : Exprs} (at : ℕ) → Reads Assignment h xs e → ReadsArguments k ys es
        → ReadsArguments (max h k) (xs ++ Punctuator at punctuators.Comma ∷ ys) (expr_and e es)
