-- The trees of the language as plain data, without addresses and capacities (C11 6.5 to 6.9). Each node has its number and the number
-- of the token at which it stands.
use Rattle.std.specs.Prelude.{ℕ, Bool, List, [], ◌∷◌, Option, Some, None}
use Rattle.qs_syntax_vocabulary.specs.declared.operators.UnaryOperator.{UnaryOperator}
use Rattle.qs_syntax_vocabulary.specs.declared.operators.StepOperator.{StepOperator}
use Rattle.qs_syntax_vocabulary.specs.declared.operators.BinaryOperator.{BinaryOperator}
use Rattle.qs_syntax_vocabulary.specs.declared.operators.AssignmentOperator.{AssignmentOperator}
use Rattle.qs_syntax_vocabulary.specs.declared.operators.Access.{Access}
use Rattle.qs_syntax.specs.declared.types.Base.{Base}
use Rattle.qs_syntax.specs.declared.types.TypeName.{TypeName}
use Rattle.qs_syntax.specs.declared.nodes.Node.{Node}

-- a node at this token, without a number
abbrev pub unnumbered : ℕ → Node
unnumbered at = record { id = 0; token = at }

-- ---- expressions (6.5)

mutual
  pub data ExprTree : Type 0 where
    expr : Node → ShapeTree → ExprTree

  pub data ShapeTree : Type 0 where
    -- a value, and whether it is unsigned
    constant : ℕ → Bool → ShapeTree
    text : List ℕ → ShapeTree
    name : List ℕ → ShapeTree
    unary : UnaryOperator → ExprTree → ShapeTree
    step : StepOperator → ExprTree → ShapeTree
    cast : TypeName → ExprTree → ShapeTree
    sizeof_type : TypeName → ShapeTree
    sizeof_expr : ExprTree → ShapeTree
    binary : BinaryOperator → ExprTree → ExprTree → ShapeTree
    assign : AssignmentOperator → ExprTree → ExprTree → ShapeTree
    conditional : ExprTree → ExprTree → ExprTree → ShapeTree
    comma : ExprTree → ExprTree → ShapeTree
    subscript : ExprTree → ExprTree → ShapeTree
    member : Access → ExprTree → List ℕ → ShapeTree
    call : List ℕ → Exprs → ShapeTree

  pub data Exprs : Type 0 where
    no_exprs : Exprs
    expr_and : ExprTree → Exprs → Exprs

abbrev pub exprs_of : List ExprTree → Exprs
exprs_of [] = no_exprs
exprs_of (e ∷ es) = expr_and e (exprs_of es)

-- ---- declarations (6.7)

-- whether the first brackets are empty, and the lengths in the others
pub record LengthsTree : Type 0 where
  pub is_open : Bool
  pub given : List ExprTree

pub record DeclaratorTree : Type 0 where
  pub node : Node
  pub stars : ℕ
  pub name : List ℕ
  pub lengths : LengthsTree

mutual
  pub data InitialiserTree : Type 0 where
    value : ExprTree → InitialiserTree
    list : Node → Initialisers → InitialiserTree

  pub data Initialisers : Type 0 where
    no_initialisers : Initialisers
    initialiser_and : InitialiserTree → Initialisers → Initialisers

abbrev pub initialisers_of : List InitialiserTree → Initialisers
initialisers_of [] = no_initialisers
initialisers_of (i ∷ is) = initialiser_and i (initialisers_of is)

pub record VariableTree : Type 0 where
  pub declarator : DeclaratorTree
  pub initialiser : Option InitialiserTree

pub record DeclarationTree : Type 0 where
  pub base : Base
  pub variables : List VariableTree

pub record ParameterTree : Type 0 where
  pub node : Node
  pub type_name : TypeName
  pub name : Option (List ℕ)
  pub lengths : LengthsTree

pub record MembersTree : Type 0 where
  pub base : Base
  pub declarators : List DeclaratorTree

-- ---- statements (6.8)

pub data StartTree : Type 0 where
  no_start : StartTree
  start_expression : ExprTree → StartTree
  start_declaration : DeclarationTree → StartTree

mutual
  pub data StmtTree : Type 0 where
    empty : Node → StmtTree
    expression : Node → ExprTree → StmtTree
    declaration : DeclarationTree → StmtTree
    block : Stmts → StmtTree
    switch : Node → ExprTree → Stmts → StmtTree
    -- a label of a switch stands in its items before the statement that it marks
    case_label : Node → ExprTree → StmtTree
    default_label : Node → StmtTree
    branch : Node → ExprTree → StmtTree → Else → StmtTree
    while_loop : Node → ExprTree → StmtTree → StmtTree
    do_loop : Node → StmtTree → ExprTree → StmtTree
    for_loop : Node → StartTree → Option ExprTree → Option ExprTree → StmtTree → StmtTree
    break : Node → StmtTree
    continue : Node → StmtTree
    return : Node → Option ExprTree → StmtTree

  pub data Stmts : Type 0 where
    no_stmts : Stmts
    stmt_and : StmtTree → Stmts → Stmts

  pub data Else : Type 0 where
    no_else : Else
    else_by : StmtTree → Else

abbrev pub stmts_of : List StmtTree → Stmts
stmts_of [] = no_stmts
stmts_of (s ∷ ss) = stmt_and s (stmts_of ss)

abbrev pub else_of : Option StmtTree → Else
else_of None = no_else
else_of (Some s) = else_by s

-- ---- what stands at file scope (6.9)

-- only a struct in a typedef may lack its tag
pub record StructTree : Type 0 where
  pub node : Node
  pub name : Option (List ℕ)
  pub members : List MembersTree

pub record ForwardTree : Type 0 where
  pub node : Node
  pub name : List ℕ

-- what a typedef gives names to (6.7.8): a struct that is defined in it, or a type
pub data DefinedTree : Type 0 where
  of_struct : StructTree → DefinedTree
  of_base : Base → DefinedTree

pub record TypedefTree : Type 0 where
  pub defined : DefinedTree
  pub names : List DeclaratorTree

pub record FunctionTree : Type 0 where
  pub node : Node
  pub result_type : TypeName
  pub name : List ℕ
  pub parameters : List ParameterTree
  pub body : Option Stmts

pub data DeclTree : Type 0 where
  structure : StructTree → DeclTree
  forward : ForwardTree → DeclTree
  typedef : TypedefTree → DeclTree
  function : FunctionTree → DeclTree
  variables : DeclarationTree → DeclTree

abbrev pub UnitTree : Type 0
UnitTree = List DeclTree
