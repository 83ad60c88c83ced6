-- When what is known by the numbers of nodes is what the scopes of the definition have.
use Rattle.std.specs.Prelude.{◌≡◌, ℕ, Bool, List, [], ◌∷◌, Option, Some, None, map, if◌then◌else◌}
use Rattle.qs_syntax.specs.Trees.{ExprTree, expr, ShapeTree, Exprs, no_exprs, expr_and, InitialiserTree, Initialisers, no_initialisers, initialiser_and, VariableTree, StartTree, no_start, start_expression, start_declaration, StmtTree, Stmts, no_stmts, stmt_and, Else, no_else, else_by}
use Rattle.qs_syntax.specs.Trees as trees
use Rattle.qs_types.specs.Types.{TypeTree, Structs}
use Rattle.qs_types.specs.Layout.{extent_of, layout_of, struct_of}
use Rattle.qs_types.specs.GivenFunctions.{Signature, putchar_name, putchar_type, getchar_type}
use Rattle.qs_base.specs.Bytes.{same_bytes}
use Rattle.qs_syntax.specs.declared.types.Base.{Base}
use Rattle.qs_types.specs.Declarations.{variable_declared}
use Rattle.qs_types.specs.StatementRules.{after_statement}
use Rattle.qs_types.specs.Contexts.{Context, function, given, entity_of, base_in, base_type}
use Rattle.qs_types.specs.Expressions.{type_of}
use Rattle.qs_types.specs.Referents.{referent_of}
use Rattle.qs_meaning.specs.Conversions.{scalar_of}
use Rattle.qs_meaning.specs.Names.{Scope, within}
use Rattle.qs_meaning.specs.Blanks.{blank_of}
use Rattle.qs_meaning.specs.Statements.{behind_variable, inner, in_switch, loop_body, in_for}
use Rattle.qs_typed_nodes.specs.Known.{Known, at_number, parameters_of}

-- what has this value has it still
abbrev pub Keeps : {A : Type 0} → Option A → Option A → Type 0
Keeps {A = A} o p = (x : A) → o ≡ Some x → p ≡ Some x

-- the structs of a place are among those of the unit: sizes, members and layouts stay
pub record Grown (old new : Structs) : Type 0 where
  pub extents : (t : TypeTree) → Keeps (extent_of old t) (extent_of new t)
  pub members : (k : ℕ) → Keeps (struct_of old k) (struct_of new k)
  pub layouts : (k : ℕ) → Keeps (layout_of old k) (layout_of new k)
  pub blanks : (t : TypeTree) → Keeps (blank_of old t) (blank_of new t)

-- each node of an expression has its type and its referent at its number
abbrev mutual
  pub NodesKnown : Known → Context → ExprTree → Type 0
  NodesKnown k c (expr node shape) =
      (at_number k.types node.id ≡ type_of c (expr node shape)) × ((at_number k.referents node.id ≡ referent_of c (expr node shape)) × PartsKnown k c shape)

  pub PartsKnown : Known → Context → ShapeTree → Type 0
  PartsKnown k c (trees.constant n u) = Unit {0}
  PartsKnown k c (trees.text bytes) = Unit {0}
  PartsKnown k c (trees.name x) = Unit {0}
  PartsKnown k c (trees.unary operator a) = NodesKnown k c a
  PartsKnown k c (trees.step operator a) = NodesKnown k c a
  PartsKnown k c (trees.cast n a) = NodesKnown k c a
  PartsKnown k c (trees.sizeof_type n) = Unit {0}
  PartsKnown k c (trees.sizeof_expr a) = NodesKnown k c a
  PartsKnown k c (trees.binary operator a b) = NodesKnown k c a × NodesKnown k c b
  PartsKnown k c (trees.assign operator a b) = NodesKnown k c a × NodesKnown k c b
  PartsKnown k c (trees.conditional d a b) = NodesKnown k c d × (NodesKnown k c a × NodesKnown k c b)
  PartsKnown k c (trees.comma a b) = NodesKnown k c a × NodesKnown k c b
  PartsKnown k c (trees.subscript a b) = NodesKnown k c a × NodesKnown k c b
  PartsKnown k c (trees.member access a x) = NodesKnown k c a
  PartsKnown k c (trees.call f es) = AllKnown k c es

  pub AllKnown : Known → Context → Exprs → Type 0
  AllKnown k c no_exprs = Unit {0}
  AllKnown k c (expr_and e es) = NodesKnown k c e × AllKnown k c es

-- the rest of what is known
pub record Agrees (k : Known) (s : Scope) : Type 0 where
  pub structs : Grown s.context.structs k.structs
  pub bases : (b : Base) → Keeps (base_type s.context b) (base_in k.type_names b)
  pub headers : (x : List ℕ) (node : ℕ) (f : Signature) (body : Bool) → entity_of s.context x ≡ Some (function node (Some f) body)
      → parameters_of node k.headers ≡ Some (map scalar_of f.parameters)
  pub locals : k.locals ≡ s.locals
  pub statics : k.statics ≡ s.statics
  pub functions : k.functions ≡ s.functions

-- putchar and getchar have the types that they are given with
abbrev pub GivenAreGiven : Scope → Type 0
GivenAreGiven s = (x : List ℕ) (f : Signature) → entity_of s.context x ≡ Some (given f) → f ≡ (if same_bytes x putchar_name then putchar_type else getchar_type)

-- a value that is returned is converted to the type of the result
abbrev pub ResultIs : Known → Context → Type 0
ResultIs k c = (t : TypeTree) → c.result ≡ Some t → k.result ≡ scalar_of t

-- ---- at each place of a body

abbrev pub ExpressionAt : Known → Scope → ExprTree → Type 0
ExpressionAt k s e = Agrees k s × (GivenAreGiven s × NodesKnown k s.context e)

abbrev pub OptionAt : Known → Scope → Option ExprTree → Type 0
OptionAt k s None = Unit {0}
OptionAt k s (Some e) = ExpressionAt k s e

abbrev mutual
  pub InitialiserAt : Known → Scope → InitialiserTree → Type 0
  InitialiserAt k s (trees.value e) = ExpressionAt k s e
  InitialiserAt k s (trees.list node is) = InitialisersAt k s is

  pub InitialisersAt : Known → Scope → Initialisers → Type 0
  InitialisersAt k s no_initialisers = Unit {0}
  InitialisersAt k s (initialiser_and i is) = InitialiserAt k s i × InitialisersAt k s is

-- what initialises a variable, if anything does
abbrev pub InitialAt : Known → Scope → Option InitialiserTree → Type 0
InitialAt k s None = Unit {0}
InitialAt k s (Some i) = Agrees k s × InitialiserAt k s i

-- a variable, whose initialiser stands behind it
abbrev pub VariableAt : Known → Scope → Base → VariableTree → Type 0
VariableAt k s base v =
    (at_number k.types v.declarator.node.id ≡ (variable_declared s.context base v).type) × InitialAt k (behind_variable s base v) v.initialiser

abbrev pub VariablesAt : Known → Scope → Base → List VariableTree → Type 0
VariablesAt k s base [] = Unit {0}
VariablesAt k s base (v ∷ vs) = VariableAt k s base v × VariablesAt k (behind_variable s base v) base vs

abbrev pub StartAt : Known → Scope → StartTree → Type 0
StartAt k s no_start = Unit {0}
StartAt k s (start_expression e) = ExpressionAt k s e
StartAt k s (start_declaration d) = VariablesAt k s d.base d.variables

abbrev mutual
  pub StatementAt : Known → Scope → StmtTree → Type 0
  StatementAt k s (trees.empty node) = Unit {0}
  StatementAt k s (trees.expression node e) = ExpressionAt k s e
  StatementAt k s (trees.declaration d) = VariablesAt k s d.base d.variables
  StatementAt k s (trees.block ss) = StatementsAt k (inner s) ss
  StatementAt k s (trees.branch node e t r) = ExpressionAt k s e × (StatementAt k (inner s) t × ElseAt k s r)
  StatementAt k s (trees.switch node e ts) = ExpressionAt k s e × StatementsAt k (in_switch s e) ts
  StatementAt k s (trees.case_label node e) = Agrees k s
  StatementAt k s (trees.default_label node) = Unit {0}
  StatementAt k s (trees.while_loop node e t) = ExpressionAt k s e × StatementAt k (loop_body s) t
  StatementAt k s (trees.do_loop node t e) = StatementAt k (loop_body s) t × ExpressionAt k s e
  StatementAt k s (trees.for_loop node start e u t) =
      StartAt k (inner s) start × (OptionAt k (in_for s start) e × (OptionAt k (in_for s start) u × StatementAt k (loop_body (in_for s start)) t))
  StatementAt k s (trees.break node) = Unit {0}
  StatementAt k s (trees.continue node) = Unit {0}
  StatementAt k s (trees.return node e) = ResultIs k s.context × OptionAt k s e

  pub StatementsAt : Known → Scope → Stmts → Type 0
  StatementsAt k s no_stmts = Unit {0}
  StatementsAt k s (stmt_and t ts) = StatementAt k s t × StatementsAt k (within s (after_statement s.context t)) ts

  pub ElseAt : Known → Scope → Else → Type 0
  ElseAt k s no_else = Unit {0}
  ElseAt k s (else_by t) = StatementAt k (inner s) t
