-- What is promised of the typed tree of a well typed unit: it fits.
use Rattle.std.specs.Prelude.{◌≡◌, ℕ, ◌^◌, not, ◌&&◌, nat_lt, Bool, true, false, List, [], ◌∷◌, map, Option, Some, None}
use Rattle.std.specs.List.{list_all}
use Rattle.qs_syntax.specs.declared.nodes.Node.{Node}
use Rattle.qs_syntax.specs.Trees.{ExprTree, expr, ShapeTree, Exprs, no_exprs, expr_and, DeclaratorTree, InitialiserTree, value, list, no_initialisers, initialiser_and, VariableTree, MembersTree, StartTree, no_start, start_expression, start_declaration, StmtTree, empty, expression, declaration, block, switch, case_label, default_label, branch, while_loop, do_loop, for_loop, break, continue, return, Stmts, no_stmts, stmt_and, Else, no_else, else_by, DeclTree, structure, forward, function, variables, UnitTree, DefinedTree, of_struct, of_base, typedef}
use Rattle.qs_syntax.specs.Trees as trees
use Rattle.qs_syntax.specs.Nodes.{unit_nodes}
use Rattle.qs_syntax.specs.Units.{IsRead}
use Rattle.qs_syntax_vocabulary.specs.WellFormed.{is_byte}
use Rattle.qs_types.specs.Placed.{is_one_of}
use Rattle.qs_types.specs.Sites.{Site, unit_sites}
use Rattle.qs_types.specs.Limits.{IsWithinLimits}
use Rattle.qs_types.specs.WellTyped.{WellTyped}
use Rattle.qs_meaning.specs.Typed.{TypedProgram}
use Rattle.qs_meaning.specs.Units.{typed_of}
use Rattle.qs_meaning.specs.Fits.{program_fits}

-- ---- the nodes of a unit have different numbers: those of a unit that is read are numbered in order

abbrev pub are_different : List ℕ → Bool
are_different [] = true
are_different (n ∷ ns) = not (is_one_of n ns) && are_different ns

abbrev pub numbers_differ : UnitTree → Bool
numbers_differ unit = are_different (map (λ (n : Node). n.id) (unit_nodes unit))

-- ---- 6.4.4.1, 6.4.5: constants are below 2 ^ 32 and texts consist of bytes, as those among the tokens of a unit that is read

abbrev mutual
  pub literals_fit : ExprTree → Bool
  literals_fit (expr node shape) = shape_literals_fit shape

  pub shape_literals_fit : ShapeTree → Bool
  shape_literals_fit (trees.constant n u) = nat_lt n (2 ^ 32)
  shape_literals_fit (trees.text bytes) = list_all is_byte bytes
  shape_literals_fit (trees.name x) = true
  shape_literals_fit (trees.unary operator a) = literals_fit a
  shape_literals_fit (trees.step operator a) = literals_fit a
  shape_literals_fit (trees.cast name a) = literals_fit a
  shape_literals_fit (trees.sizeof_type name) = true
  shape_literals_fit (trees.sizeof_expr a) = literals_fit a
  shape_literals_fit (trees.binary operator a b) = literals_fit a && literals_fit b
  shape_literals_fit (trees.assign operator a b) = literals_fit a && literals_fit b
  shape_literals_fit (trees.conditional c a b) = literals_fit c && (literals_fit a && literals_fit b)
  shape_literals_fit (trees.comma a b) = literals_fit a && literals_fit b
  shape_literals_fit (trees.subscript a b) = literals_fit a && literals_fit b
  shape_literals_fit (trees.member access a x) = literals_fit a
  shape_literals_fit (trees.call f es) = all_literals_fit es

  pub all_literals_fit : Exprs → Bool
  all_literals_fit no_exprs = true
  all_literals_fit (expr_and e es) = literals_fit e && all_literals_fit es

abbrev pub unit_literals_fit : UnitTree → Bool
unit_literals_fit unit = list_all (λ (s : Site). literals_fit s.expression) (unit_sites unit)

-- ---- 6.7.9p1, 6.7.2.1p1, 6.8.1p1: a list of initialisers has one at least, and a list of members too, and labels stand before statements, as
-- the grammar asks

abbrev pub is_filled : Option InitialiserTree → Bool
is_filled None = true
is_filled (Some (value e)) = true
is_filled (Some (list node no_initialisers)) = false
is_filled (Some (list node (initialiser_and i is))) = true

abbrev pub variables_filled : List VariableTree → Bool
variables_filled vs = list_all (λ (v : VariableTree). is_filled v.initialiser) vs

abbrev pub start_filled : StartTree → Bool
start_filled no_start = true
start_filled (start_expression e) = true
start_filled (start_declaration d) = variables_filled d.variables

abbrev pub is_label : StmtTree → Bool
is_label (case_label node e) = true
is_label (default_label node) = true
is_label _ = false

-- whether the last of some items is a label; before is whether one stands before them
abbrev pub ends_in_label : (before : Bool) → Stmts → Bool
ends_in_label before no_stmts = before
ends_in_label before (stmt_and s ss) = ends_in_label (is_label s) ss

abbrev mutual
  pub statement_filled : StmtTree → Bool
  statement_filled (empty node) = true
  statement_filled (expression node e) = true
  statement_filled (declaration d) = variables_filled d.variables
  statement_filled (block ss) = statements_filled ss
  -- 6.8.1p1: each label has a statement behind it
  statement_filled (switch node e ss) = not (ends_in_label false ss) && statements_filled ss
  statement_filled (case_label node e) = true
  statement_filled (default_label node) = true
  statement_filled (branch node e s r) = statement_filled s && else_filled r
  statement_filled (while_loop node e s) = statement_filled s
  statement_filled (do_loop node s e) = statement_filled s
  statement_filled (for_loop node start e u s) = start_filled start && statement_filled s
  statement_filled (break node) = true
  statement_filled (continue node) = true
  statement_filled (return node e) = true

  pub statements_filled : Stmts → Bool
  statements_filled no_stmts = true
  statements_filled (stmt_and s ss) = statement_filled s && statements_filled ss

  pub else_filled : Else → Bool
  else_filled no_else = true
  else_filled (else_by s) = statement_filled s

abbrev pub body_filled : Option Stmts → Bool
body_filled None = true
body_filled (Some ss) = statements_filled ss

-- the first group of members has one
abbrev pub has_declarators : List DeclaratorTree → Bool
has_declarators [] = false
has_declarators (d ∷ ds) = true

abbrev pub members_filled : List MembersTree → Bool
members_filled [] = false
members_filled (m ∷ ms) = has_declarators m.declarators

abbrev pub defined_filled : DefinedTree → Bool
defined_filled (of_struct s) = members_filled s.members
defined_filled (of_base b) = true

abbrev pub declaration_filled : DeclTree → Bool
declaration_filled (structure s) = members_filled s.members
declaration_filled (forward f) = true
declaration_filled (typedef t) = defined_filled t.defined
declaration_filled (function f) = body_filled f.body
declaration_filled (variables d) = variables_filled d.variables

abbrev pub lists_are_filled : UnitTree → Bool
lists_are_filled unit = list_all declaration_filled unit

-- ---- what is promised

-- what holds of every unit that is read
pub record IsAsRead (unit : UnitTree) : Type 0 where
  pub numbers : numbers_differ unit ≡ true
  pub literals : unit_literals_fit unit ≡ true
  pub lists : lists_are_filled unit ≡ true

abbrev pub TypedUnitsFit : Type 0
TypedUnitsFit =
    (unit : UnitTree) (u : TypedProgram) → IsAsRead unit → WellTyped unit → IsWithinLimits unit → typed_of unit ≡ Some u → program_fits u ≡ true

-- a unit that is read from tokens is such a unit
abbrev pub ReadIsAsRead : Type 0
ReadIsAsRead = (unit : UnitTree) → IsRead unit → IsAsRead unit
