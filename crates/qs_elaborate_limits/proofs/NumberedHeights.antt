-- The numbers of nodes make no tree higher, so a unit that is read is as low as its reading.
use Rattle.std.proofs.Common.{◌≡◌, ◌≤◌, ℕ, ◌+◌, List, [], ◌∷◌, Option, Some, None, refl, ap, arith}
use Rattle.std.proofs.Math.Logic.{∥∥₁_elim}
use native.Mathlib.Bridge.{le_prop}
use Rattle.qs_syntax.specs.Trees.{ExprTree, expr, ShapeTree, constant, text, name, unary, step, cast, sizeof_type, sizeof_expr, binary, assign, conditional, comma, subscript, member, call, Exprs, no_exprs, expr_and, InitialiserTree, value, list, Initialisers, no_initialisers, initialiser_and, VariableTree, DeclarationTree, StartTree, no_start, start_expression, start_declaration, StmtTree, empty, expression, declaration, block, switch, case_label, default_label, branch, while_loop, do_loop, for_loop, break, continue, return, Stmts, no_stmts, stmt_and, Else, no_else, else_by, DeclTree, structure, forward, function, variables, UnitTree, typedef}
use Rattle.qs_syntax.specs.Nodes.{all_count, option_count, expr_count, declarator_count, initialiser_count, variable_count, parameter_count, start_count, stmt_count, decl_count}
use Rattle.qs_syntax.specs.Numbering.{Relabelling, relabel_all, relabel_option, relabel_expr, relabel_shape, relabel_exprs, relabel_initialiser, relabel_initialisers, relabel_variable, relabel_declaration, relabel_start, relabel_stmt, relabel_stmts, relabel_else, relabel_decl, relabel_unit, numbered}
use Rattle.qs_syntax.specs.Units.{height_limit, Reading, IsRead}
use Rattle.qs_elaborate_limits.specs.Measures.{highest, option_highest}
use Rattle.qs_elaborate_limits.proofs.SourceHeights.{expr_height, shape_height, exprs_height, initialiser_height, initialisers_height, variable_height, declaration_height, start_height, stmt_height, stmts_height, else_height, decl_height, unit_height}
use Rattle.qs_elaborate_limits.proofs.ReadHeights.{unit_low}

module _ {A : Type 0} (f : Relabelling) (count height : A → ℕ) (relabel : ℕ → A → A) (keeps : (n : ℕ) (x : A) → height (relabel n x) ≡ height x) where
  all_keeps : (n : ℕ) (xs : List A) → highest height (relabel_all f count relabel n xs) ≡ highest height xs
  all_keeps n [] = refl
  all_keeps n (x ∷ xs) = rw (keeps n x, all_keeps (f.onward n (count x)) xs) refl

module _ {A : Type 0} (height : A → ℕ) (relabel : ℕ → A → A) (keeps : (n : ℕ) (x : A) → height (relabel n x) ≡ height x) where
  option_keeps : (n : ℕ) (o : Option A) → option_highest height (relabel_option relabel n o) ≡ option_highest height o
  option_keeps n None = refl
  option_keeps n (Some x) = keeps n x

module _ (f : Relabelling) where
  mutual
    expr_keeps : (n : ℕ) (e : ExprTree) → expr_height (relabel_expr f n e) ≡ expr_height e
    expr_keeps n (expr node s) = ap (λ k. 1 + k) (shape_keeps (f.onward n 1) s)

    shape_keeps : (n : ℕ) (s : ShapeTree) → shape_height (relabel_shape f n s) ≡ shape_height s
    shape_keeps n (constant k unsigned) = refl
    shape_keeps n (text bytes) = refl
    shape_keeps n (name x) = refl
    shape_keeps n (sizeof_type type) = refl
    shape_keeps n (unary operator a) = expr_keeps n a
    shape_keeps n (step operator a) = expr_keeps n a
    shape_keeps n (cast type a) = expr_keeps n a
    shape_keeps n (sizeof_expr a) = expr_keeps n a
    shape_keeps n (member access a x) = expr_keeps n a
    shape_keeps n (binary operator a b) = rw (expr_keeps n a, expr_keeps (f.onward n (expr_count a)) b) refl
    shape_keeps n (assign operator a b) = rw (expr_keeps n a, expr_keeps (f.onward n (expr_count a)) b) refl
    shape_keeps n (comma a b) = rw (expr_keeps n a, expr_keeps (f.onward n (expr_count a)) b) refl
    shape_keeps n (subscript a b) = rw (expr_keeps n a, expr_keeps (f.onward n (expr_count a)) b) refl
    shape_keeps n (conditional a b c) = rw (expr_keeps n a, expr_keeps (f.onward n (expr_count a)) b, expr_keeps (f.onward (f.onward n (expr_count a)) (expr_count b)) c) refl
    shape_keeps n (call x es) = exprs_keeps n es

    exprs_keeps : (n : ℕ) (es : Exprs) → exprs_height (relabel_exprs f n es) ≡ exprs_height es
    exprs_keeps n no_exprs = refl
    exprs_keeps n (expr_and e es) = rw (expr_keeps n e, exprs_keeps (f.onward n (expr_count e)) es) refl

  mutual
    initialiser_keeps : (n : ℕ) (i : InitialiserTree) → initialiser_height (relabel_initialiser f n i) ≡ initialiser_height i
    initialiser_keeps n (value e) = expr_keeps n e
    initialiser_keeps n (list node is) = initialisers_keeps (f.onward n 1) is

    initialisers_keeps : (n : ℕ) (is : Initialisers) → initialisers_height (relabel_initialisers f n is) ≡ initialisers_height is
    initialisers_keeps n no_initialisers = refl
    initialisers_keeps n (initialiser_and i is) = rw (initialiser_keeps n i, initialisers_keeps (f.onward n (initialiser_count i)) is) refl

  variable_keeps : (n : ℕ) (v : VariableTree) → variable_height (relabel_variable f n v) ≡ variable_height v
  variable_keeps n v = option_keeps initialiser_height (relabel_initialiser f) initialiser_keeps (f.onward n (declarator_count v.declarator)) v.initialiser

  declaration_keeps : (n : ℕ) (d : DeclarationTree) → declaration_height (relabel_declaration f n d) ≡ declaration_height d
  declaration_keeps n d = all_keeps f variable_count variable_height (relabel_variable f) variable_keeps n d.variables

  start_keeps : (n : ℕ) (a : StartTree) → start_height (relabel_start f n a) ≡ start_height a
  start_keeps n no_start = refl
  start_keeps n (start_expression e) = expr_keeps n e
  start_keeps n (start_declaration d) = declaration_keeps n d

  maybe_keeps : (n : ℕ) (o : Option ExprTree) → option_highest expr_height (relabel_option (relabel_expr f) n o) ≡ option_highest expr_height o
  maybe_keeps n o = option_keeps expr_height (relabel_expr f) expr_keeps n o

  mutual
    stmt_keeps : (n : ℕ) (s : StmtTree) → stmt_height (relabel_stmt f n s) ≡ stmt_height s
    stmt_keeps n (empty node) = refl
    stmt_keeps n (expression node e) = expr_keeps (f.onward n 1) e
    stmt_keeps n (declaration d) = declaration_keeps n d
    stmt_keeps n (block ss) = stmts_keeps n ss
    stmt_keeps n (switch node e ss) = rw (expr_keeps (f.onward n 1) e, stmts_keeps (f.onward (f.onward n 1) (expr_count e)) ss) refl
    stmt_keeps n (case_label node e) = refl
    stmt_keeps n (default_label node) = refl
    stmt_keeps n (branch node e s r) =
        rw (expr_keeps (f.onward n 1) e, stmt_keeps (f.onward (f.onward n 1) (expr_count e)) s, else_keeps (f.onward (f.onward (f.onward n 1) (expr_count e)) (stmt_count s)) r) refl
    stmt_keeps n (while_loop node e s) = rw (expr_keeps (f.onward n 1) e, stmt_keeps (f.onward (f.onward n 1) (expr_count e)) s) refl
    stmt_keeps n (do_loop node s e) = rw (stmt_keeps (f.onward n 1) s, expr_keeps (f.onward (f.onward n 1) (stmt_count s)) e) refl
    stmt_keeps n (for_loop node a e u s) =
        let k = f.onward (f.onward n 1) (start_count a) in
        let l = f.onward k (option_count expr_count e) in
        rw (start_keeps (f.onward n 1) a, maybe_keeps k e, maybe_keeps l u, stmt_keeps (f.onward l (option_count expr_count u)) s) refl
    stmt_keeps n (break node) = refl
    stmt_keeps n (continue node) = refl
    stmt_keeps n (return node e) = maybe_keeps (f.onward n 1) e

    stmts_keeps : (n : ℕ) (ss : Stmts) → stmts_height (relabel_stmts f n ss) ≡ stmts_height ss
    stmts_keeps n no_stmts = refl
    stmts_keeps n (stmt_and s ss) = rw (stmt_keeps n s, stmts_keeps (f.onward n (stmt_count s)) ss) refl

    else_keeps : (n : ℕ) (r : Else) → else_height (relabel_else f n r) ≡ else_height r
    else_keeps n no_else = refl
    else_keeps n (else_by s) = stmt_keeps n s

  decl_keeps : (n : ℕ) (d : DeclTree) → decl_height (relabel_decl f n d) ≡ decl_height d
  decl_keeps n (structure s) = refl
  decl_keeps n (forward d) = refl
  decl_keeps n (typedef d) = refl
  decl_keeps n (function d) = option_keeps stmts_height (relabel_stmts f) stmts_keeps (f.onward (f.onward n 1) (all_count parameter_count d.parameters)) d.body
  decl_keeps n (variables d) = refl

  unit_keeps : (ds : UnitTree) → unit_height (relabel_unit f ds) ≡ unit_height ds
  unit_keeps ds = all_keeps f decl_count decl_height (relabel_decl f) decl_keeps 0 ds

-- ---- units that are read

reading_low : (ds : UnitTree) → Reading ds → unit_height ds ≤ height_limit
reading_low ds r =
    let same = ap unit_height r.are_numbered in
    let kept = unit_keeps numbered r.unnumbered in
    let low = unit_low r.reads in
    let limit = r.low in
    omega arith

pub read_units_are_low : (ds : UnitTree) → IsRead ds → unit_height ds ≤ height_limit
read_units_are_low ds read = ∥∥₁_elim read le_prop (reading_low ds)
