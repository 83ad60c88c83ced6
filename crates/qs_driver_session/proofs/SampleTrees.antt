-- The trees of a sample's source, whatever the numbers and tokens of their nodes.
use Rattle.std.proofs.Common.{ℕ, suc, false, List, [], ◌∷◌, Some, codes, decimal}
use Rattle.qs_syntax.specs.declared.nodes.Node.{Node}
use Rattle.qs_syntax_vocabulary.specs.declared.operators.BinaryOperator.TheVariants.{Add, Remainder}
use Rattle.qs_syntax.specs.declared.types.Base.TheVariants as bases
use Rattle.qs_syntax.specs.declared.types.TypeName.{TypeName}
use Rattle.qs_syntax.specs.Nodes.{decl_count}
use Rattle.qs_syntax.specs.Numbering.{Relabelling, relabel_all, relabel_decl, relabel_expr}
use Rattle.qs_syntax.specs.Trees.{ExprTree, expr, constant, name, binary, call, no_exprs, expr_and, ParameterTree, Stmts, no_stmts, stmt_and, expression, return, FunctionTree, function, UnitTree}

abbrev pub int_name : TypeName
int_name = record { base = bases.Int; stars = 0 }

-- the name of the function with this number
abbrev pub function_name : ℕ → List ℕ
function_name k = 102 ∷ decimal k

-- ---- the functions

-- `x+1`
abbrev pub next : (a b c : Node) → ExprTree
next a b c = expr a (binary Add (expr b (name (codes "x"))) (expr c (constant 1 false)))

-- what the function behind j others returns: `x+1`, or `fJ(x+1)`
pub data IsValue : (j : ℕ) → ExprTree → Type 0 where
  the_next : (a b c : Node) → IsValue 0 (next a b c)
  a_call : (node a b c : Node) (j : ℕ) → IsValue (suc j) (expr node (call (function_name (suc j)) (expr_and (next a b c) no_exprs)))

abbrev pub parameter : Node → ParameterTree
parameter node = record { node = node; type_name = int_name; name = Some (codes "x"); lengths = record { is_open = false; given = [] } }

abbrev pub returning : Node → ExprTree → Stmts
returning node e = stmt_and (return node (Some e)) no_stmts

-- `int fK(int x){return ..;}`
abbrev pub function_of : (node p r : Node) → (k : ℕ) → ExprTree → FunctionTree
function_of node p r k e = record { node = node; result_type = int_name; name = function_name k; parameters = parameter p ∷ []; body = Some (returning r e) }

-- ---- main

-- the nodes of main's block: the statement, the call of putchar, the sum and its left side, the remainder, the call and its
-- argument, the divisor, the return and its value
pub record MainNodes : Type 0 where
  pub statement : Node
  pub put : Node
  pub sum : Node
  pub zero : Node
  pub rest : Node
  pub called : Node
  pub argument : Node
  pub ten : Node
  pub end : Node
  pub status : Node

-- `fN(0)%10`
abbrev pub last_digit : MainNodes → ℕ → ExprTree
last_digit m n = expr m.rest (binary Remainder (expr m.called (call (function_name n) (expr_and (expr m.argument (constant 0 false)) no_exprs))) (expr m.ten (constant 10 false)))

-- `'0'+fN(0)%10`
abbrev pub digit : MainNodes → ℕ → ExprTree
digit m n = expr m.sum (binary Add (expr m.zero (constant 48 false)) (last_digit m n))

abbrev pub main_body : MainNodes → ℕ → Stmts
main_body m n =
    stmt_and (expression m.statement (expr m.put (call (codes "putchar") (expr_and (digit m n) no_exprs))))
    (returning m.end (expr m.status (constant 0 false)))

abbrev pub main_of : Node → MainNodes → ℕ → FunctionTree
main_of node m n = record { node = node; result_type = int_name; name = codes "main"; parameters = []; body = Some (main_body m n) }

-- ---- the unit

-- the functions behind j others, so many, and then main, which calls the last
pub data IsTail : (j left : ℕ) → UnitTree → Type 0 where
  the_main : (node : Node) (m : MainNodes) (n : ℕ) → IsTail n 0 (function (main_of node m n) ∷ [])
  a_function : (node p r : Node) (j left : ℕ) (e : ExprTree) (ds : UnitTree) → IsValue j e → IsTail (suc j) left ds
      → IsTail j (suc left) (function (function_of node p r (suc j) e) ∷ ds)

-- ---- the numbers of nodes don't matter

value_relabelled : (f : Relabelling) (at : ℕ) {j : ℕ} {e : ExprTree} → IsValue j e → IsValue j (relabel_expr f at e)
value_relabelled f at (the_next a b c) = the_next _ _ _
value_relabelled f at (a_call node a b c j) = a_call _ _ _ _ j

pub tail_relabelled : (f : Relabelling) {j left : ℕ} {ds : UnitTree} → IsTail j left ds → (at : ℕ) → IsTail j left (relabel_all f decl_count (relabel_decl f) at ds)
tail_relabelled f (the_main node m n) at = the_main _ (record { statement = _; put = _; sum = _; zero = _; rest = _; called = _; argument = _; ten = _; end = _; status = _ }) n
tail_relabelled f (a_function node p r j left e ds v t) at = a_function _ _ _ j left _ _ (value_relabelled f _ v) (tail_relabelled f t _)
