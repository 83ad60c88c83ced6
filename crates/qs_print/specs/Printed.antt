-- The terminals that a tree is printed as (C11 6.5 to 6.9), with parentheses only where the grammar needs them. Their tokens' numbers are
-- all 0.
use Rattle.std.specs.Prelude.{ℕ, zero, suc, ◌+◌, Bool, true, false, ◌&&◌, List, [], ◌∷◌, ◌++◌, nat_le, ◌==◌, if◌then◌else◌, flat_map, Option, Some, None}
use Rattle.qs_syntax_vocabulary.specs.declared.terminal.Terminal.{Terminal}
use Rattle.qs_syntax_vocabulary.specs.declared.terminal.Terminal.TheVariants.{Name, Keyword, Constant, Text, Punctuator}
use Rattle.qs_base.specs.declared.keyword.Keyword.{Keyword as Word}
use Rattle.qs_base.specs.declared.keyword.Keyword.TheVariants as keywords
use Rattle.qs_syntax_vocabulary.specs.declared.punctuator.Punctuator.TheVariants as punctuators
use Rattle.qs_syntax.specs.declared.types.Base.{Base}
use Rattle.qs_syntax.specs.declared.types.Base.TheVariants as bases
use Rattle.qs_syntax.specs.declared.types.TypeName.{TypeName}
use Rattle.qs_syntax_vocabulary.specs.declared.operators.StepOperator.{StepOperator}
use Rattle.qs_syntax.specs.Trees.{ExprTree, expr, ShapeTree, constant, text, name, unary, step, cast, sizeof_type, sizeof_expr, binary, assign, conditional, comma, subscript, member, call, Exprs, no_exprs, expr_and, LengthsTree, DeclaratorTree, InitialiserTree, value, list, Initialisers, no_initialisers, initialiser_and, VariableTree, DeclarationTree, ParameterTree, MembersTree, StartTree, no_start, start_expression, start_declaration, StmtTree, empty, expression, declaration, block, switch, case_label, default_label, branch, while_loop, do_loop, for_loop, break, continue, return, Stmts, no_stmts, stmt_and, Else, no_else, else_by, StructTree, ForwardTree, FunctionTree, DefinedTree, of_struct, of_base, TypedefTree, DeclTree, structure, forward, function, variables, typedef}
use Rattle.qs_syntax_vocabulary.specs.Operators.{precedence, punctuator_of_access, punctuator_of_assign, punctuator_of_binary, punctuator_of_step, punctuator_of_unary, stands_before}
use Rattle.qs_print.specs.Levels.{assignment_level, cast_level, conditional_level, level, or_level, postfix_level, step_level, unary_level}

-- ---- lists

-- each behind a comma
abbrev pub behind_commas : {A : Type 0} → (A → List Terminal) → List A → List Terminal
behind_commas printed xs = flat_map (λ x. Punctuator 0 punctuators.Comma ∷ printed x) xs

-- commas stand between them
abbrev pub with_commas : {A : Type 0} → (A → List Terminal) → List A → List Terminal
with_commas printed [] = []
with_commas printed (x ∷ xs) = printed x ++ behind_commas printed xs

-- before what isn't the first
abbrev pub comma_unless : Bool → List Terminal
comma_unless true = []
comma_unless false = Punctuator 0 punctuators.Comma ∷ []

-- ---- types (6.7.2, 6.7.6, 6.7.7)

abbrev pub printed_base : Base → List Terminal
printed_base bases.Void = Keyword 0 keywords.Void ∷ []
printed_base bases.Int = Keyword 0 keywords.Int ∷ []
printed_base bases.Unsigned = Keyword 0 keywords.Unsigned ∷ []
printed_base bases.Char = Keyword 0 keywords.Char ∷ []
printed_base (bases.Struct x) = Keyword 0 keywords.Struct ∷ Name 0 x ∷ []
printed_base (bases.Named x) = Name 0 x ∷ []

abbrev pub printed_stars : ℕ → List Terminal
printed_stars zero = []
printed_stars (suc n) = Punctuator 0 punctuators.Star ∷ printed_stars n

abbrev pub printed_type_name : TypeName → List Terminal
printed_type_name type = printed_base type.base ++ printed_stars type.stars

-- ---- expressions (6.5)

abbrev pub in_parentheses : List Terminal → List Terminal
in_parentheses ls = Punctuator 0 punctuators.OpenParenthesis ∷ (ls ++ Punctuator 0 punctuators.CloseParenthesis ∷ [])

abbrev pub parentheses_unless : Bool → List Terminal → List Terminal
parentheses_unless true ls = ls
parentheses_unless false ls = in_parentheses ls

-- these terminals of the expression where nothing may stand that binds more weakly than this level
abbrev pub within : ℕ → ExprTree → List Terminal → List Terminal
within most e ls = parentheses_unless (nat_le (level e) most) ls

abbrev pub with_step : StepOperator → List Terminal → List Terminal
with_step operator ls =
    if stands_before operator then Punctuator 0 (punctuator_of_step operator) ∷ ls else ls ++ Punctuator 0 (punctuator_of_step operator) ∷ []

abbrev mutual
  pub printed_expr : ExprTree → List Terminal
  printed_expr (expr node s) = printed_shape s

  pub printed_shape : ShapeTree → List Terminal
  printed_shape (constant n unsigned) = Constant 0 n unsigned ∷ []
  printed_shape (text bytes) = Text 0 bytes ∷ []
  printed_shape (name x) = Name 0 x ∷ []
  printed_shape (unary operator a) = Punctuator 0 (punctuator_of_unary operator) ∷ within cast_level a (printed_expr a)
  printed_shape (step operator a) = with_step operator (within (step_level operator) a (printed_expr a))
  printed_shape (cast type a) = in_parentheses (printed_type_name type) ++ within cast_level a (printed_expr a)
  printed_shape (sizeof_type type) = Keyword 0 keywords.Sizeof ∷ in_parentheses (printed_type_name type)
  printed_shape (sizeof_expr a) = Keyword 0 keywords.Sizeof ∷ within unary_level a (printed_expr a)
  printed_shape (binary operator a b) =
      within (precedence operator + cast_level) a (printed_expr a) ++ Punctuator 0 (punctuator_of_binary operator) ∷ within (precedence operator + 1) b (printed_expr b)
  printed_shape (assign operator a b) = within unary_level a (printed_expr a) ++ Punctuator 0 (punctuator_of_assign operator) ∷ within assignment_level b (printed_expr b)
  printed_shape (conditional a b c) =
      within or_level a (printed_expr a) ++ Punctuator 0 punctuators.Question ∷ (printed_expr b ++ Punctuator 0 punctuators.Colon ∷ within conditional_level c (printed_expr c))
  printed_shape (comma a b) = printed_expr a ++ Punctuator 0 punctuators.Comma ∷ within assignment_level b (printed_expr b)
  printed_shape (subscript a b) = within postfix_level a (printed_expr a) ++ Punctuator 0 punctuators.OpenBracket ∷ (printed_expr b ++ Punctuator 0 punctuators.CloseBracket ∷ [])
  printed_shape (member access a x) = within postfix_level a (printed_expr a) ++ Punctuator 0 (punctuator_of_access access) ∷ Name 0 x ∷ []
  printed_shape (call f es) = Name 0 f ∷ in_parentheses (printed_arguments es)

  -- commas stand between them
  pub printed_arguments : Exprs → List Terminal
  printed_arguments no_exprs = []
  printed_arguments (expr_and e es) = within assignment_level e (printed_expr e) ++ further_arguments es

  -- each behind a comma
  pub further_arguments : Exprs → List Terminal
  further_arguments no_exprs = []
  further_arguments (expr_and e es) = Punctuator 0 punctuators.Comma ∷ (within assignment_level e (printed_expr e) ++ further_arguments es)

abbrev pub printed_part : ℕ → ExprTree → List Terminal
printed_part most e = within most e (printed_expr e)

-- ---- declarations (6.7)

abbrev pub printed_length : ExprTree → List Terminal
printed_length e = Punctuator 0 punctuators.OpenBracket ∷ (printed_part conditional_level e ++ Punctuator 0 punctuators.CloseBracket ∷ [])

abbrev pub open_brackets : Bool → List Terminal
open_brackets true = Punctuator 0 punctuators.OpenBracket ∷ Punctuator 0 punctuators.CloseBracket ∷ []
open_brackets false = []

abbrev pub printed_lengths : LengthsTree → List Terminal
printed_lengths lengths = open_brackets lengths.is_open ++ flat_map printed_length lengths.given

abbrev pub printed_declarator : DeclaratorTree → List Terminal
printed_declarator d = printed_stars d.stars ++ Name 0 d.name ∷ printed_lengths d.lengths

abbrev mutual
  pub printed_initialiser : InitialiserTree → List Terminal
  printed_initialiser (value e) = printed_part assignment_level e
  printed_initialiser (list node is) = Punctuator 0 punctuators.OpenBrace ∷ (printed_initialisers is ++ Punctuator 0 punctuators.CloseBrace ∷ [])

  -- commas stand between them
  pub printed_initialisers : Initialisers → List Terminal
  printed_initialisers no_initialisers = []
  printed_initialisers (initialiser_and i is) = printed_initialiser i ++ further_initialisers is

  -- each behind a comma
  pub further_initialisers : Initialisers → List Terminal
  further_initialisers no_initialisers = []
  further_initialisers (initialiser_and i is) = Punctuator 0 punctuators.Comma ∷ (printed_initialiser i ++ further_initialisers is)

abbrev pub printed_setting : Option InitialiserTree → List Terminal
printed_setting None = []
printed_setting (Some i) = Punctuator 0 punctuators.Assign ∷ printed_initialiser i

abbrev pub printed_variable : VariableTree → List Terminal
printed_variable v = printed_declarator v.declarator ++ printed_setting v.initialiser

abbrev pub printed_declaration : DeclarationTree → List Terminal
printed_declaration d = printed_base d.base ++ (with_commas printed_variable d.variables ++ Punctuator 0 punctuators.Semicolon ∷ [])

abbrev pub printed_members : MembersTree → List Terminal
printed_members m = printed_base m.base ++ (with_commas printed_declarator m.declarators ++ Punctuator 0 punctuators.Semicolon ∷ [])

-- ---- parameters (6.7.6.3)

abbrev pub is_void : Base → Bool
is_void bases.Void = true
is_void bases.Int = false
is_void bases.Unsigned = false
is_void bases.Char = false
is_void (bases.Struct x) = false
is_void (bases.Named x) = false

abbrev pub is_nameless : Option (List ℕ) → Bool
is_nameless None = true
is_nameless (Some x) = false

abbrev pub is_without_brackets : Bool → List ExprTree → Bool
is_without_brackets true es = false
is_without_brackets false [] = true
is_without_brackets false (e ∷ es) = false

-- its type is `void` and nothing else stands there: the token `void` alone would say that there are no parameters
abbrev pub is_void_alone : ParameterTree → Bool
is_void_alone p = is_void p.type_name.base && (p.type_name.stars == 0 && (is_nameless p.name && is_without_brackets p.lengths.is_open p.lengths.given))

abbrev pub const_if : Bool → List Terminal
const_if true = Keyword 0 keywords.Const ∷ []
const_if false = []

abbrev pub printed_name : Option (List ℕ) → List Terminal
printed_name None = []
printed_name (Some x) = Name 0 x ∷ []

abbrev pub printed_parameter : ParameterTree → List Terminal
printed_parameter p = const_if (is_void_alone p) ++ (printed_base p.type_name.base ++ (printed_stars p.type_name.stars ++ (printed_name p.name ++ printed_lengths p.lengths)))

abbrev pub printed_parameters : List ParameterTree → List Terminal
printed_parameters [] = Keyword 0 keywords.Void ∷ []
printed_parameters (p ∷ ps) = with_commas printed_parameter (p ∷ ps)

-- ---- statements (6.8)

-- a keyword that is a statement of its own
abbrev pub printed_jump : Word → List Terminal
printed_jump keyword = Keyword 0 keyword ∷ Punctuator 0 punctuators.Semicolon ∷ []

-- labels of a switch
abbrev pub printed_case : ExprTree → List Terminal
printed_case e = Keyword 0 keywords.Case ∷ (printed_part conditional_level e ++ Punctuator 0 punctuators.Colon ∷ [])

abbrev pub printed_default : List Terminal
printed_default = Keyword 0 keywords.Default ∷ Punctuator 0 punctuators.Colon ∷ []

abbrev pub printed_optional : Option ExprTree → List Terminal
printed_optional None = []
printed_optional (Some e) = printed_expr e

abbrev pub printed_start : StartTree → List Terminal
printed_start no_start = Punctuator 0 punctuators.Semicolon ∷ []
printed_start (start_expression e) = printed_expr e ++ Punctuator 0 punctuators.Semicolon ∷ []
printed_start (start_declaration d) = printed_declaration d

abbrev mutual
  pub printed_stmt : StmtTree → List Terminal
  printed_stmt (empty node) = Punctuator 0 punctuators.Semicolon ∷ []
  printed_stmt (expression node e) = printed_expr e ++ Punctuator 0 punctuators.Semicolon ∷ []
  printed_stmt (declaration d) = printed_declaration d
  printed_stmt (block ss) = Punctuator 0 punctuators.OpenBrace ∷ (printed_stmts ss ++ Punctuator 0 punctuators.CloseBrace ∷ [])
  printed_stmt (switch node e ss) =
      Keyword 0 keywords.Switch ∷ (in_parentheses (printed_expr e) ++ Punctuator 0 punctuators.OpenBrace ∷ (printed_stmts ss ++ Punctuator 0 punctuators.CloseBrace ∷ []))
  printed_stmt (case_label node e) = printed_case e
  printed_stmt (default_label node) = printed_default
  printed_stmt (branch node e s rest) = Keyword 0 keywords.If ∷ (in_parentheses (printed_expr e) ++ (printed_stmt s ++ printed_else rest))
  printed_stmt (while_loop node e s) = Keyword 0 keywords.While ∷ (in_parentheses (printed_expr e) ++ printed_stmt s)
  printed_stmt (do_loop node s e) =
      Keyword 0 keywords.Do ∷ (printed_stmt s ++ Keyword 0 keywords.While ∷ (in_parentheses (printed_expr e) ++ Punctuator 0 punctuators.Semicolon ∷ []))
  printed_stmt (for_loop node start e u s) =
      Keyword 0 keywords.For
      ∷ (in_parentheses (printed_start start ++ (printed_optional e ++ Punctuator 0 punctuators.Semicolon ∷ printed_optional u)) ++ printed_stmt s)
  printed_stmt (break node) = printed_jump keywords.Break
  printed_stmt (continue node) = printed_jump keywords.Continue
  printed_stmt (return node e) = Keyword 0 keywords.Return ∷ (printed_optional e ++ Punctuator 0 punctuators.Semicolon ∷ [])

  pub printed_stmts : Stmts → List Terminal
  printed_stmts no_stmts = []
  printed_stmts (stmt_and s ss) = printed_stmt s ++ printed_stmts ss

  pub printed_else : Else → List Terminal
  printed_else no_else = []
  printed_else (else_by s) = Keyword 0 keywords.Else ∷ printed_stmt s

-- ---- what stands at file scope (6.9)

-- a struct up to the brace behind its members
abbrev pub printed_braces : StructTree → List Terminal
printed_braces s = Keyword 0 keywords.Struct ∷ (printed_name s.name ++ Punctuator 0 punctuators.OpenBrace ∷ (flat_map printed_members s.members ++ Punctuator 0 punctuators.CloseBrace ∷ []))

abbrev pub printed_struct : StructTree → List Terminal
printed_struct s = printed_braces s ++ Punctuator 0 punctuators.Semicolon ∷ []

abbrev pub printed_forward : ForwardTree → List Terminal
printed_forward f = Keyword 0 keywords.Struct ∷ Name 0 f.name ∷ Punctuator 0 punctuators.Semicolon ∷ []

abbrev pub printed_body : Option Stmts → List Terminal
printed_body None = Punctuator 0 punctuators.Semicolon ∷ []
printed_body (Some ss) = Punctuator 0 punctuators.OpenBrace ∷ (printed_stmts ss ++ Punctuator 0 punctuators.CloseBrace ∷ [])

abbrev pub printed_function : FunctionTree → List Terminal
printed_function f =
    printed_base f.result_type.base ++ (printed_stars f.result_type.stars ++ Name 0 f.name ∷ (in_parentheses (printed_parameters f.parameters) ++ printed_body f.body))

-- what a typedef gives names to
abbrev pub printed_defined : DefinedTree → List Terminal
printed_defined (of_struct s) = printed_braces s
printed_defined (of_base base) = printed_base base

abbrev pub printed_typedef : TypedefTree → List Terminal
printed_typedef t = Keyword 0 keywords.Typedef ∷ (printed_defined t.defined ++ (with_commas printed_declarator t.names ++ Punctuator 0 punctuators.Semicolon ∷ []))

abbrev pub printed_decl : DeclTree → List Terminal
printed_decl (structure s) = printed_struct s
printed_decl (forward f) = printed_forward f
printed_decl (function f) = printed_function f
printed_decl (variables d) = printed_declaration d
printed_decl (typedef t) = printed_typedef t

abbrev pub printed_unit : List DeclTree → List Terminal
printed_unit ds = flat_map printed_decl ds
