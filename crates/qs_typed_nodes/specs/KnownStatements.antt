-- The typed tree of statements, declarations and initialisers, from what is known by the numbers of nodes.
use Rattle.std.specs.Prelude.{ℕ, List, [], ◌∷◌, Option, Some, None, if◌then◌else◌}
use Rattle.qs_syntax.specs.Trees.{ExprTree, InitialiserTree, VariableTree, StartTree, no_start, start_expression, start_declaration, StmtTree, Else, no_else, else_by}
use Rattle.qs_syntax.specs.Trees as trees
use Rattle.qs_types.specs.Types.{TypeTree, is_array}
use Rattle.qs_types.specs.Conversions.{promoted}
use Rattle.qs_types.specs.Contexts.{context_with}
use Rattle.qs_types.specs.Constants.{value_of}
use Rattle.qs_types.specs.Declarations.{text_of}
use Rattle.qs_memory.specs.Partial.{◌>>=◌}
use Rattle.qs_meaning.specs.Typed.{Conversion, Expr, member, object, Effect, nothing, copy, fill, in_order, Stmt, evaluate, block, branch, switch, case_label, default_label, while_loop, do_loop, for_loop, break, continue, return, return_nothing, Stmts, no_stmts, stmt_and}
use Rattle.qs_meaning.specs.Conversions.{scalar_of}
use Rattle.qs_meaning.specs.Names.{local_lvalue}
use Rattle.qs_meaning.specs.Forms.{lvalue, TypedExpr, address_of, effect_of, effect_in_use, type_in_use, value_in_use}
use Rattle.qs_meaning.specs.Expressions.{plain_form}
use Rattle.qs_meaning.specs.Blanks.{blank_of}
use Rattle.qs_meaning.specs.Initialisers.{Piece, pieces, text_room}
use Rattle.qs_typed_forms.specs.Between.{between}
use Rattle.qs_typed_nodes.specs.Known.{Known, at_number, known}

-- ---- initialisers of locals (6.7.9)

abbrev pub text_set_known : Known → TypeTree → (to : Expr) → ExprTree → Option Effect
text_set_known k t to e = text_of e >>= λ bytes. known k e >>= λ (a : TypedExpr). address_of a.form >>= λ from. Some (copy (text_room t bytes) 1 to from)

abbrev pub assigned_set_known : Known → TypedExpr → ExprTree → Option Effect
assigned_set_known k part e = known k e >>= λ a. plain_form k.structs part a >>= λ form. Some (effect_of part.type form)

abbrev pub piece_set_known : Known → (base : Expr) → Piece → Option Effect
piece_set_known k base p =
    if is_array p.type then text_set_known k p.type (member p.offset base) p.expression
    else assigned_set_known k (record { type = p.type; form = lvalue (object (member p.offset base)) }) p.expression

abbrev pub pieces_set_known : Known → (base : Expr) → List Piece → Option Effect
pieces_set_known k base [] = Some nothing
pieces_set_known k base (p ∷ ps) = piece_set_known k base p >>= λ now. pieces_set_known k base ps >>= λ later. Some (in_order now later)

abbrev pub filled_known : Known → TypeTree → (base : Expr) → InitialiserTree → Option Effect
filled_known k t base i =
    blank_of k.structs t >>= λ cells. pieces k.structs t 0 i >>= λ ps. pieces_set_known k base ps >>= λ sets. Some (in_order (fill cells base) sets)

abbrev pub object_set_known : Known → TypedExpr → InitialiserTree → Option Effect
object_set_known k a i = address_of a.form >>= λ base. filled_known k a.type base i

abbrev pub local_set_known : Known → TypedExpr → InitialiserTree → Option Effect
local_set_known k a (trees.value e) = if is_array a.type then object_set_known k a (trees.value e) else assigned_set_known k a e
local_set_known k a (trees.list node is) = object_set_known k a (trees.list node is)

-- ---- declarations of a block (6.7, 6.8.2)

abbrev pub local_known : Known → (node : ℕ) → TypeTree → TypedExpr
local_known k node t = record { type = t; form = lvalue (local_lvalue k.locals node) }

abbrev pub initialised_known : Known → (node : ℕ) → TypeTree → Option InitialiserTree → Option Effect
initialised_known k node t None = Some nothing
initialised_known k node t (Some i) = local_set_known k (local_known k node t) i

abbrev pub variable_known : Known → VariableTree → Option Effect
variable_known k v = at_number k.types v.declarator.node.id >>= λ t. initialised_known k v.declarator.node.id t v.initialiser

abbrev pub variables_known : Known → List VariableTree → Option Effect
variables_known k [] = Some nothing
variables_known k (v ∷ vs) = variable_known k v >>= λ now. variables_known k vs >>= λ later. Some (in_order now later)

-- ---- expressions in statements

abbrev pub effect_known : Known → ExprTree → Option Effect
effect_known k e = known k e >>= λ a. Some (effect_in_use a)

abbrev pub option_effect_known : Known → Option ExprTree → Option Effect
option_effect_known k None = Some nothing
option_effect_known k (Some e) = effect_known k e

abbrev pub condition_known : Known → ExprTree → Option Expr
condition_known k e = known k e >>= λ a. Some (value_in_use a)

abbrev pub option_condition_known : Known → Option ExprTree → Option (Option Expr)
option_condition_known k None = Some None
option_condition_known k (Some e) = condition_known k e >>= λ c. Some (Some c)

abbrev pub start_known : Known → StartTree → Option Effect
start_known k no_start = Some nothing
start_known k (start_expression e) = effect_known k e
start_known k (start_declaration d) = variables_known k d.variables

-- 6.8.6.4p3
abbrev pub return_known : Known → Option ExprTree → Option Stmt
return_known k None = Some return_nothing
return_known k (Some e) = known k e >>= λ a. Some (return (between (scalar_of (type_in_use a)) k.result) (value_in_use a))

-- ---- switches (6.8.4.2)

-- 6.8.4.2p5: the operand is promoted
abbrev pub promotion : TypeTree → Conversion
promotion t = between (scalar_of t) (scalar_of (promoted t))

-- 6.8.4.2p5: the value of a constant expression, which may speak of all structs and names of types of the unit
abbrev pub case_known : Known → ExprTree → Option Stmt
case_known k e = value_of (context_with k.structs k.type_names) e >>= λ n. Some (case_label n)

-- ---- statements

abbrev mutual
  pub statement_known : Known → StmtTree → Option Stmt
  statement_known k (trees.block ss) = statements_known k ss >>= λ b. Some (block b)
  statement_known k (trees.declaration d) = variables_known k d.variables >>= λ a. Some (evaluate a)
  statement_known k (trees.expression node e) = effect_known k e >>= λ a. Some (evaluate a)
  statement_known k (trees.empty node) = Some (evaluate nothing)
  statement_known k (trees.branch node e t r) =
      condition_known k e >>= λ c. statement_known k t >>= λ a. else_known k r >>= λ b. Some (branch c a b)
  statement_known k (trees.switch node e ts) =
      known k e >>= λ a. statements_known k ts >>= λ b. Some (switch (promotion (type_in_use a)) (value_in_use a) b)
  statement_known k (trees.case_label node e) = case_known k e
  statement_known k (trees.default_label node) = Some default_label
  statement_known k (trees.while_loop node e t) = condition_known k e >>= λ c. statement_known k t >>= λ b. Some (while_loop c b)
  statement_known k (trees.do_loop node t e) = statement_known k t >>= λ b. condition_known k e >>= λ c. Some (do_loop b c)
  statement_known k (trees.for_loop node start e u t) =
      start_known k start >>= λ a. option_condition_known k e >>= λ c. option_effect_known k u >>= λ b. statement_known k t >>= λ d.
      Some (for_loop a c b d)
  statement_known k (trees.break node) = Some break
  statement_known k (trees.continue node) = Some continue
  statement_known k (trees.return node e) = return_known k e

  pub statements_known : Known → trees.Stmts → Option Stmts
  statements_known k trees.no_stmts = Some no_stmts
  statements_known k (trees.stmt_and t ts) = statement_known k t >>= λ a. statements_known k ts >>= λ b. Some (stmt_and a b)

  pub else_known : Known → Else → Option Stmt
  else_known k no_else = Some (evaluate nothing)
  else_known k (else_by t) = statement_known k t
