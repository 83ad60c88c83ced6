-- The parser of expressions and types as functions on lists of tokens. An error says how many tokens are left where it stands, its own
-- among them.
use Rattle.std.specs.Prelude.{ℕ, zero, suc, ◌+◌, max, List, [], ◌∷◌, ◌++◌, length, Result, Ok, Err, Option, Some, None, Bool, true, false, nat_le, ◌==◌, ◌&&◌, ◌||◌, if◌then◌else◌, is_some}
use Rattle.qs_syntax_vocabulary.specs.declared.terminal.Terminal.{Terminal}
use Rattle.qs_syntax_vocabulary.specs.declared.terminal.Terminal.TheVariants.{Name, Keyword, Constant, Text, Punctuator}
use Rattle.qs_syntax_vocabulary.specs.declared.terminal.Terminal.TheVariants as terminals
use Rattle.qs_base.specs.Results.{bind}
use Rattle.qs_base.specs.declared.keyword.Keyword.TheVariants as keywords
use Rattle.qs_syntax_vocabulary.specs.declared.punctuator.Punctuator as punctuator
use Rattle.qs_syntax_vocabulary.specs.declared.punctuator.Punctuator.TheVariants as punctuators
use Rattle.qs_syntax.specs.declared.types.Base.{Base}
use Rattle.qs_syntax.specs.declared.types.Base.TheVariants as bases
use Rattle.qs_syntax.specs.declared.types.TypeName.{TypeName}
use Rattle.qs_syntax_vocabulary.specs.declared.operators.UnaryOperator.{UnaryOperator}
use Rattle.qs_syntax_vocabulary.specs.declared.operators.StepOperator.{StepOperator}
use Rattle.qs_syntax_vocabulary.specs.declared.operators.StepOperator.TheVariants as steps
use Rattle.qs_syntax_vocabulary.specs.declared.operators.BinaryOperator.{BinaryOperator}
use Rattle.qs_syntax_vocabulary.specs.declared.operators.AssignmentOperator.{AssignmentOperator}
use Rattle.qs_syntax_vocabulary.specs.declared.operators.Access.{Access}
use Rattle.qs_syntax.specs.Trees.{unnumbered, ExprTree, expr, constant, text, name, unary, step, cast, sizeof_type, sizeof_expr, binary, assign, conditional, comma, subscript, member, call, exprs_of}
use Rattle.qs_syntax_vocabulary.specs.Operators.{precedence, weakest, unary_of, binary_of, assign_of, access_of}
use Rattle.qs_syntax.specs.ReadsTypes.{Names, Plain, Any}
use Rattle.qs_syntax.specs.Reads.{Form, Postfix, Unary, Level, Conditional, Assignment, Expression, place}
use Rattle.qs_parser_grammar.specs.Heads.{is_punctuator, is_keyword, starts, starts_step, operator_at, begins_type}

pub data Stop : Type 0 where
  Unexpected : ℕ → Stop
  Deep : ℕ → Stop

-- how many tokens are left where an answer stops
abbrev pub left_of : Stop → ℕ
left_of (Unexpected left) = left
left_of (Deep left) = left

abbrev pub Parse : Type 0 → Type 0
Parse A = List Terminal → Result (A × List Terminal) Stop

-- what reads on is given the part that was read and the tokens left
abbrev pub read_on : {A B : Type 0} → Result (A × List Terminal) Stop → (A → Parse B) → Result (B × List Terminal) Stop
read_on r f = bind r (λ x. f x.0 x.1)

-- a tree, and how high its reading is
abbrev pub E : Type 0
E = ExprTree × ℕ

abbrev pub unexpected : {A : Type 0} → Parse A
unexpected ts = Err (Unexpected (length ts))

abbrev pub deep : {A : Type 0} → Parse A
deep ts = Err (Deep (length ts))

-- what has a part needs a level for it
abbrev pub deeper : {A : Type 0} → ℕ → Parse A → Parse A
deeper m p ts = if m == 0 then deep ts else p ts

-- what goes on behind a part of height h
abbrev pub above : {A : Type 0} → ℕ → ℕ → Parse A → Parse A
above m h p ts = if nat_le h m then p ts else deep ts

abbrev pub expect : punctuator.Punctuator → Parse (Unit {0})
expect m [] = unexpected []
expect m (t ∷ ts) = if is_punctuator m t then Ok (tt, ts) else unexpected (t ∷ ts)

-- the name of a type, where such a name may stand
abbrev pub type_name_as : Names → ℕ → List ℕ → Parse (ℕ × List ℕ)
type_name_as Plain at x ts = unexpected (terminals.TypeName at x ∷ ts)
type_name_as Any at x ts = Ok ((at, x), ts)

-- the number of a name's token, and its bytes
abbrev pub expect_name : Names → Parse (ℕ × List ℕ)
expect_name names [] = unexpected []
expect_name names (Name at x ∷ ts) = Ok ((at, x), ts)
expect_name names (terminals.TypeName at x ∷ ts) = type_name_as names at x ts
expect_name names (Keyword at k ∷ ts) = unexpected (Keyword at k ∷ ts)
expect_name names (Constant at n unsigned ∷ ts) = unexpected (Constant at n unsigned ∷ ts)
expect_name names (Text at bytes ∷ ts) = unexpected (Text at bytes ∷ ts)
expect_name names (Punctuator at m ∷ ts) = unexpected (Punctuator at m ∷ ts)

-- ---- types

abbrev pub skip_consts : List Terminal → List Terminal
skip_consts [] = []
skip_consts (t ∷ ts) = if is_keyword keywords.Const t then skip_consts ts else t ∷ ts

-- what may follow `unsigned`
abbrev pub after_unsigned : Parse Base
after_unsigned [] = Ok (bases.Unsigned, [])
after_unsigned (t ∷ ts) = if is_keyword keywords.Int t then Ok (bases.Unsigned, ts) else if is_keyword keywords.Char t then Ok (bases.Char, ts) else Ok (bases.Unsigned, t ∷ ts)

-- what may follow `signed`
abbrev pub after_signed : Parse Base
after_signed [] = Ok (bases.Int, [])
after_signed (t ∷ ts) = if is_keyword keywords.Int t then Ok (bases.Int, ts) else Ok (bases.Int, t ∷ ts)

-- behind `struct`
abbrev pub tagged : Parse Base
tagged ts = read_on (expect_name Any ts) (λ x us. Ok (bases.Struct x.1, us))

-- the name of a type
abbrev pub named_type : Parse Base
named_type [] = unexpected []
named_type (Name at x ∷ ts) = unexpected (Name at x ∷ ts)
named_type (terminals.TypeName at x ∷ ts) = Ok (bases.Named x, ts)
named_type (Keyword at k ∷ ts) = unexpected (Keyword at k ∷ ts)
named_type (Constant at n unsigned ∷ ts) = unexpected (Constant at n unsigned ∷ ts)
named_type (Text at bytes ∷ ts) = unexpected (Text at bytes ∷ ts)
named_type (Punctuator at m ∷ ts) = unexpected (Punctuator at m ∷ ts)

abbrev pub base : Parse Base
base [] = unexpected []
base (t ∷ ts) =
    if is_keyword keywords.Void t then Ok (bases.Void, ts)
    else if is_keyword keywords.Int t then Ok (bases.Int, ts)
    else if is_keyword keywords.Char t then Ok (bases.Char, ts)
    else if is_keyword keywords.Unsigned t then after_unsigned ts
    else if is_keyword keywords.Signed t then after_signed ts
    else if is_keyword keywords.Struct t then tagged ts
    else named_type (t ∷ ts)

-- { "const" } base { "const" }
unfoldable pub type : Parse Base
type ts = read_on (base (skip_consts ts)) (λ b us. Ok (b, skip_consts us))

-- behind a star: further stars and `const`
abbrev pub stars_from : ℕ → List Terminal → ℕ × List Terminal
stars_from n [] = (n, [])
stars_from n (t ∷ ts) = if is_punctuator punctuators.Star t then stars_from (n + 1) ts else if is_keyword keywords.Const t then stars_from n ts else (n, t ∷ ts)

-- { "*" { "const" } }
unfoldable pub stars : List Terminal → ℕ × List Terminal
stars ts = if starts punctuators.Star ts then stars_from 0 ts else (0, ts)

unfoldable pub type_name : Parse TypeName
type_name ts = read_on (type ts) (λ b us. Ok (record { base = b; stars = (stars us).0 }, (stars us).1))

-- ---- expressions

-- which tokens begin an expression
abbrev pub begins_one : List Terminal → Bool
begins_one [] = false
begins_one (Name at x ∷ ts) = true
begins_one (terminals.TypeName at x ∷ ts) = false
begins_one (Keyword at k ∷ ts) = is_keyword keywords.Sizeof (Keyword at k)
begins_one (Constant at n unsigned ∷ ts) = true
begins_one (Text at bytes ∷ ts) = true
begins_one (Punctuator at m ∷ ts) = is_some (unary_of m) || (is_punctuator punctuators.OpenParenthesis (Punctuator at m) || starts_step (Punctuator at m ∷ ts))

-- where no level is left for a part: what begins an expression is too deep, and nothing else may stand there
abbrev pub beyond : {A : Type 0} → Parse A
beyond ts = if begins_one ts then deep ts else unexpected ts

-- Behind `sizeof`, where what stands in parentheses would be too deep and no type does: the parenthesis might begin one.
abbrev pub size_at_limit : {A : Type 0} → Parse A
size_at_limit ts = read_on (expect punctuators.OpenParenthesis ts) (λ _ us. beyond us)

-- a parenthesis before a type
abbrev pub begins_cast : List Terminal → Bool
begins_cast [] = false
begins_cast (t ∷ ts) = is_punctuator punctuators.OpenParenthesis t && begins_type ts

-- what goes on with an operand
abbrev pub starts_suffix : List Terminal → Bool
starts_suffix ts = starts punctuators.OpenBracket ts || (is_some (operator_at access_of ts) || starts_step ts)

-- the operator, where it is of level j + 1
abbrev pub operator_of_level : ℕ → Option BinaryOperator → Option BinaryOperator
operator_of_level j None = None
operator_of_level j (Some operator) = if precedence operator == j + 1 then Some operator else None

-- the texts that follow, joined to those before
unfoldable pub texts_from : List ℕ → List Terminal → List ℕ × List Terminal
texts_from done [] = (done, [])
texts_from done (Name at x ∷ ts) = (done, Name at x ∷ ts)
texts_from done (terminals.TypeName at x ∷ ts) = (done, terminals.TypeName at x ∷ ts)
texts_from done (Keyword at k ∷ ts) = (done, Keyword at k ∷ ts)
texts_from done (Constant at n unsigned ∷ ts) = (done, Constant at n unsigned ∷ ts)
texts_from done (Text at bytes ∷ ts) = texts_from (done ++ bytes) ts
texts_from done (Punctuator at m ∷ ts) = (done, Punctuator at m ∷ ts)

-- In the following `m` levels are left for parts, and `part` reads what is at most so high.
module _ (m : ℕ) (part : Form → Parse E) where
  -- behind an argument: the parenthesis at the end, or a comma and the others
  abbrev pub after_argument : (List ExprTree → ℕ → Parse (List ExprTree × ℕ)) → List ExprTree → ℕ → Parse (List ExprTree × ℕ)
  after_argument others es h ts =
      if starts punctuators.CloseParenthesis ts then read_on (expect punctuators.CloseParenthesis ts) (λ _ us. Ok ((es, h), us))
      else read_on (expect punctuators.Comma ts) (λ _ us. others es h us)

  -- Arguments behind these, and the parenthesis at their end. The first number bounds the turns.
  unfoldable pub arguments : ℕ → List ExprTree → ℕ → Parse (List ExprTree × ℕ)
  arguments zero done h ts = unexpected ts
  arguments (suc n) done h ts = read_on (part Assignment ts) (λ e us. after_argument (arguments n) (done ++ e.0 ∷ []) (max h e.1) us)

  abbrev pub call_of : (at : ℕ) → List ℕ → Parse E
  call_of at f ts =
      if starts punctuators.CloseParenthesis ts then read_on (expect punctuators.CloseParenthesis ts) (λ _ us. Ok ((expr (unnumbered at) (call f (exprs_of [])), 1), us))
      else read_on (arguments (length ts) [] 0 ts) (λ es us. Ok ((expr (unnumbered at) (call f (exprs_of es.0)), es.1 + 1), us))

  abbrev pub after_name : (at : ℕ) → List ℕ → Parse E
  after_name at x ts =
      if starts punctuators.OpenParenthesis ts then read_on (expect punctuators.OpenParenthesis ts) (λ _ us. call_of at x us)
      else Ok ((expr (unnumbered at) (name x), 1), ts)

  abbrev pub after_text : (at : ℕ) → List ℕ × List Terminal → Result (E × List Terminal) Stop
  after_text at x = Ok ((expr (unnumbered at) (text x.0), 1), x.1)

  -- behind a parenthesis that begins no cast
  abbrev pub in_parentheses : Parse E
  in_parentheses ts = read_on (part Expression ts) (λ e us. read_on (expect punctuators.CloseParenthesis us) (λ _ vs. Ok ((e.0, e.1 + 1), vs)))

  unfoldable pub primary : Parse E
  primary [] = unexpected []
  primary (Name at x ∷ ts) = after_name at x ts
  primary (terminals.TypeName at x ∷ ts) = unexpected (terminals.TypeName at x ∷ ts)
  primary (Keyword at k ∷ ts) = unexpected (Keyword at k ∷ ts)
  primary (Constant at n unsigned ∷ ts) = Ok ((expr (unnumbered at) (constant n unsigned), 1), ts)
  primary (Text at bytes ∷ ts) = after_text at (texts_from bytes ts)
  primary (Punctuator at k ∷ ts) = if is_punctuator punctuators.OpenParenthesis (Punctuator at k) then (if m == 0 then deep (Punctuator at k ∷ ts) else in_parentheses ts) else unexpected (Punctuator at k ∷ ts)

  -- behind `[`
  abbrev pub index_of : (start : ℕ) → E → Parse E
  index_of start a ts = read_on (part Expression ts) (λ b us. read_on (expect punctuators.CloseBracket us) (λ _ vs. Ok ((expr (unnumbered start) (subscript a.0 b.0), max a.1 b.1 + 1), vs)))

  -- behind `.` or `->`
  abbrev pub member_of : (start : ℕ) → E → Access → Parse E
  member_of start a access ts = read_on (expect_name Any ts) (λ x us. Ok ((expr (unnumbered start) (member access a.0 x.1), a.1 + 1), us))

  abbrev pub access_at : (start : ℕ) → E → Option Access → Parse E
  access_at start a None ts = unexpected ts
  access_at start a (Some access) ts = member_of start a access ts

  abbrev pub begins_suffix : List Terminal → Bool
  begins_suffix ts = starts_suffix ts

  -- what the first token does with an operand, where it begins a suffix
  abbrev pub suffix : (start : ℕ) → E → Parse E
  suffix start a [] = unexpected []
  suffix start a (t ∷ ts) =
      if is_punctuator punctuators.OpenBracket t then index_of start a ts
      else if is_punctuator punctuators.Increment t then Ok ((expr (unnumbered start) (step steps.IncrementAfter a.0), a.1 + 1), ts)
      else if is_punctuator punctuators.Decrement t then Ok ((expr (unnumbered start) (step steps.DecrementAfter a.0), a.1 + 1), ts)
      else access_at start a (operator_at access_of (t ∷ ts)) ts

  -- The suffixes behind an operand that begins at `start`. The first number bounds the turns.
  unfoldable pub suffixes : ℕ → (start : ℕ) → E → Parse E
  suffixes zero start a ts = Ok (a, ts)
  suffixes (suc n) start a ts = if begins_suffix ts then above m a.1 (λ us. read_on (suffix start a us) (suffixes n start)) ts else Ok (a, ts)

  abbrev pub postfix : Parse E
  postfix ts = read_on (primary ts) (λ a us. suffixes (length us) (place ts) a us)

  abbrev pub step_of : (at : ℕ) → StepOperator → Parse E
  step_of at operator ts = read_on (part Unary ts) (λ e us. Ok ((expr (unnumbered at) (step operator e.0), e.1 + 1), us))

  abbrev pub operator_of : (at : ℕ) → UnaryOperator → Parse E
  operator_of at operator ts = read_on (part (Level 0) ts) (λ e us. Ok ((expr (unnumbered at) (unary operator e.0), e.1 + 1), us))

  -- behind `sizeof`
  abbrev pub size_of : (at : ℕ) → Parse E
  size_of at ts =
      if begins_cast ts then read_on (expect punctuators.OpenParenthesis ts) (λ _ us. read_on (type_name us) (λ t vs. read_on (expect punctuators.CloseParenthesis vs) (λ _ ws. Ok ((expr (unnumbered at) (sizeof_type t), 1), ws))))
      else if nat_le m 1 && starts punctuators.OpenParenthesis ts then size_at_limit ts
      else read_on (part Unary ts) (λ e us. Ok ((expr (unnumbered at) (sizeof_expr e.0), e.1 + 1), us))

  abbrev pub unary_operator_at : (at : ℕ) → Option UnaryOperator → punctuator.Punctuator → Parse E
  unary_operator_at at (Some operator) k ts = if m == 0 then deep (Punctuator at k ∷ ts) else operator_of at operator ts
  unary_operator_at at None k ts = postfix (Punctuator at k ∷ ts)

  unfoldable pub unary_of_all : Parse E
  unary_of_all [] = unexpected []
  unary_of_all (Name at x ∷ ts) = postfix (Name at x ∷ ts)
  unary_of_all (terminals.TypeName at x ∷ ts) = postfix (terminals.TypeName at x ∷ ts)
  unary_of_all (Keyword at k ∷ ts) =
      if is_keyword keywords.Sizeof (Keyword at k) then size_of at ts else unexpected (Keyword at k ∷ ts)
  unary_of_all (Constant at n unsigned ∷ ts) = postfix (Constant at n unsigned ∷ ts)
  unary_of_all (Text at bytes ∷ ts) = postfix (Text at bytes ∷ ts)
  unary_of_all (Punctuator at k ∷ ts) =
      if is_punctuator punctuators.Increment (Punctuator at k) then (if m == 0 then deep (Punctuator at k ∷ ts) else step_of at steps.IncrementBefore ts)
      else if is_punctuator punctuators.Decrement (Punctuator at k) then (if m == 0 then deep (Punctuator at k ∷ ts) else step_of at steps.DecrementBefore ts)
      else unary_operator_at at (unary_of k) k ts

  -- behind the parenthesis of a cast
  abbrev pub cast_of : (at : ℕ) → Parse E
  cast_of at ts = read_on (type_name ts) (λ t us. read_on (expect punctuators.CloseParenthesis us) (λ _ vs. read_on (part (Level 0) vs) (λ e ws. Ok ((expr (unnumbered at) (cast t e.0), e.1 + 1), ws))))

  abbrev pub cast_or_unary : Parse E
  cast_or_unary ts = if begins_cast ts then deeper m (λ us. read_on (expect punctuators.OpenParenthesis us) (λ _ vs. cast_of (place ts) vs)) ts else unary_of_all ts

  -- the operator of level j + 1 that stands first
  abbrev pub of_level : ℕ → Option BinaryOperator → Option BinaryOperator
  of_level j operator = operator_of_level j operator

  -- behind an operator, and what follows its right operand
  abbrev pub operation : ℕ → (start : ℕ) → E → BinaryOperator → (E → Parse E) → Parse E
  operation j start a operator others [] = unexpected []
  operation j start a operator others (t ∷ ts) = read_on (part (Level j) ts) (λ b us. others (expr (unnumbered start) (binary operator a.0 b.0), max a.1 b.1 + 1) us)

  abbrev pub operation_at : ℕ → (start : ℕ) → E → Option BinaryOperator → (E → Parse E) → Parse E
  operation_at j start a None others ts = Ok (a, ts)
  operation_at j start a (Some operator) others ts = above m a.1 (operation j start a operator others) ts

  -- The operators of level j + 1, and their right operands. The first number bounds the turns.
  unfoldable pub operations : ℕ → ℕ → (start : ℕ) → E → Parse E
  operations zero j start a ts = Ok (a, ts)
  operations (suc n) j start a ts = operation_at j start a (of_level j (operator_at binary_of ts)) (operations n j start) ts

  -- the operators of the levels up to j, behind an operand
  unfoldable pub climb : ℕ → (start : ℕ) → E → Parse E
  climb zero start a ts = Ok (a, ts)
  climb (suc j) start a ts = read_on (climb j start a ts) (λ b us. operations (length us) j start b us)

  -- behind what may be a condition
  abbrev pub after_or : (start : ℕ) → E → Parse E
  after_or start a ts =
      if starts punctuators.Question ts
      then above m a.1 (λ us. read_on (expect punctuators.Question us) (λ _ vs. read_on (part Expression vs) (λ b ws. read_on (expect punctuators.Colon ws) (λ _ xs. read_on (part Conditional xs) (λ c ys. Ok ((expr (unnumbered start) (conditional a.0 b.0 c.0), max a.1 (max b.1 c.1) + 1), ys)))))) ts
      else Ok (a, ts)

  -- behind an operand that is no left side of an assignment
  abbrev pub after_operand : (start : ℕ) → E → Parse E
  after_operand start a ts = read_on (climb weakest start a ts) (after_or start)

  abbrev pub assignment_of : (start : ℕ) → E → Option AssignmentOperator → Parse E
  assignment_of start a None ts = after_operand start a ts
  assignment_of start a (Some operator) [] = Ok (a, [])
  assignment_of start a (Some operator) (t ∷ ts) = above m a.1 (λ _. read_on (part Assignment ts) (λ b us. Ok ((expr (unnumbered start) (assign operator a.0 b.0), max a.1 b.1 + 1), us))) (t ∷ ts)

  -- behind what may be the left side of an assignment
  abbrev pub after_unary : (start : ℕ) → E → Parse E
  after_unary start a ts = assignment_of start a (operator_at assign_of ts) ts

  abbrev pub assignment : Parse E
  assignment ts = if begins_cast ts then read_on (cast_or_unary ts) (after_operand (place ts)) else read_on (unary_of_all ts) (after_unary (place ts))

  -- The operands behind commas. The first number bounds the turns.
  unfoldable pub commas : ℕ → (start : ℕ) → E → Parse E
  commas zero start a ts = Ok (a, ts)
  commas (suc n) start a ts =
      if starts punctuators.Comma ts
      then above m a.1 (λ us. read_on (expect punctuators.Comma us) (λ _ vs. read_on (part Assignment vs) (λ b ws. commas n start (expr (unnumbered start) (comma a.0 b.0), max a.1 b.1 + 1) ws))) ts
      else Ok (a, ts)

  -- what is at most m + 1 high
  unfoldable pub expression : Form → Parse E
  expression Postfix ts = postfix ts
  expression Unary ts = unary_of_all ts
  expression (Level j) ts = read_on (cast_or_unary ts) (climb j (place ts))
  expression Conditional ts = read_on (cast_or_unary ts) (after_operand (place ts))
  expression Assignment ts = assignment ts
  expression Expression ts = read_on (assignment ts) (λ a us. commas (length us) (place ts) a us)

-- what is at most n high
unfoldable pub part : ℕ → Form → Parse E
part zero form ts = beyond ts
part (suc n) form ts = expression n (part n) form ts
