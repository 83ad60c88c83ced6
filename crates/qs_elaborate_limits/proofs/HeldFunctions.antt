-- The bodies of core hold few values at once.
use Rattle.std.proofs.Common.{◌≡◌, ◌≤◌, ℕ, ◌+◌, max, Bool, true, false, List, [], ◌∷◌, Some, None, refl, arith}
use Rattle.qs_core.specs.Trees.{CoreStmtTree, stmts_of, CoreFunctionTree}
use Rattle.qs_core.specs.Trees as core
use Rattle.qs_meaning.specs.Typed.{Stmt, evaluate, block, switch, case_label, default_label, branch, while_loop, do_loop, for_loop, break, continue, return, return_nothing, Stmts, no_stmts, stmt_and, Function}
use Rattle.qs_meaning.specs.Fits.{is_label}
use Rattle.qs_elaborate_bodies.specs.Literals.{converted_core}
use Rattle.qs_elaborate_bodies.specs.Parts.{Temporaries, Valued, Listed, one_statement}
use Rattle.qs_elaborate_bodies.specs.Expressions.{expression_core, effect_core}
use Rattle.qs_elaborate_bodies.specs.Statements.{tested, guarded, looped, branched, labels_core, part_of, statement_core, statements_core, parts_core}
use Rattle.qs_elaborate_bodies.specs.Names.{FunctionNames}
use Rattle.qs_elaborate_bodies.specs.Units.{end_of_body, body_core, function_core, no_names, functions_core}
use Rattle.qs_elaborate_laws.proofs.SizeFacts.{converted_below}
use Rattle.qs_elaborate_laws.proofs.WordFunctions.{named_length}
use Rattle.qs_elaborate_limits.specs.Measures.{highest}
use Rattle.qs_elaborate_limits.proofs.TypedHeights.{height, statement_height, statements_height}
use Rattle.qs_elaborate_limits.proofs.UnitHeights.{body_height, parameters_of}
use Rattle.qs_elaborate_limits.proofs.MostHeld.{most_in_all, list_most, most-append, most_one, core_parameters}
use Rattle.qs_elaborate_limits.proofs.HeldParts.{Few, ListFew}
use Rattle.qs_elaborate_limits.proofs.HeldExpressions.{expression_few, effect_few}

-- ---- a condition, and what follows it

tested_most : (e : Valued) (p q : CoreStmtTree) → list_most (tested e p q) ≡ max (list_most e.statements) (list_most (core.branch e.value p q ∷ []))
tested_most e p q = most-append e.statements (core.branch e.value p q ∷ [])

branched_few :
    (e : Valued) (a b : Listed) (l n m : ℕ) → Few e l → ListFew a n → ListFew b m → ListFew (branched e a b) (1 + max l (max n m))
branched_few e a b l n m h i k =
    omega (arith, tested_most e (one_statement a.statements) (one_statement b.statements), most_one a.statements, most_one b.statements, h.statements_few, h.value_few, i, k)

guarded_few : (e : Valued) (body : Listed) (l n : ℕ) → Few e l → ListFew body n → list_most (guarded e body) ≤ 1 + max l n
guarded_few e body l n h k =
    omega (arith, tested_most e (one_statement body.statements) core.break, most_one body.statements, h.statements_few, h.value_few, k)

looped_most : (body step : List CoreStmtTree) → list_most (looped body step ∷ []) ≡ max (list_most body) (list_most step)
looped_most body step = omega (arith, most_one body, most_one step)

-- an item of a switch as a part
part_most : (z : Bool) (ss : List CoreStmtTree) → list_most (part_of z ss) ≤ list_most ss
part_most true ss = omega arith
part_most false ss = omega (arith, most_one ss)

-- ---- statements

mutual
  statement_few : (s : Stmt) (ts : Temporaries) → ListFew (statement_core s ts) (statement_height s)
  statement_few (evaluate a) ts = effect_few a ts
  statement_few (block ss) ts = statements_few ss ts
  statement_few (switch c e ss) ts =
      let at = expression_core e ts in
      let parts = parts_core ss at.temporaries in
      let operand = converted_core c at.value in
      let h = expression_few e ts in
      let p = parts_few ss at.temporaries in
      let x = converted_below c at.value in
      omega (arith, h.statements_few, h.value_few, x.held_less, p, most-append at.statements (core.switch operand (labels_core 0 ss) (stmts_of parts.statements) ∷ []))
  statement_few (case_label n) ts = omega arith
  statement_few default_label ts = omega arith
  statement_few (branch e a b) ts =
      let c = expression_core e ts in
      let met = statement_core a c.temporaries in
      branched_few c met (statement_core b met.temporaries) (height e) (statement_height a) (statement_height b) (expression_few e ts)
      (statement_few a c.temporaries) (statement_few b met.temporaries)
  statement_few (while_loop e a) ts =
      let c = expression_core e ts in
      let body = statement_core a c.temporaries in
      let g = guarded_few c body (height e) (statement_height a) (expression_few e ts) (statement_few a c.temporaries) in
      omega (arith, g, looped_most (guarded c body) [])
  statement_few (do_loop a e) ts =
      let body = statement_core a ts in
      let c = expression_core e body.temporaries in
      let h = expression_few e body.temporaries in
      let b = statement_few a ts in
      omega (arith, b, h.statements_few, h.value_few, tested_most c core.skip core.break, looped_most body.statements (tested c core.skip core.break))
  statement_few (for_loop start None step a) ts =
      let first = effect_core start ts in
      let body = statement_core a first.temporaries in
      let last = effect_core step body.temporaries in
      let f = effect_few start ts in
      let b = statement_few a first.temporaries in
      let l = effect_few step body.temporaries in
      omega (arith, f, b, l, most-append first.statements (looped body.statements last.statements ∷ []), looped_most body.statements last.statements)
  statement_few (for_loop start (Some e) step a) ts =
      let first = effect_core start ts in
      let c = expression_core e first.temporaries in
      let body = statement_core a c.temporaries in
      let last = effect_core step body.temporaries in
      let f = effect_few start ts in
      let g = guarded_few c body (height e) (statement_height a) (expression_few e first.temporaries) (statement_few a c.temporaries) in
      let l = effect_few step body.temporaries in
      omega (arith, f, g, l, most-append first.statements (looped (guarded c body) last.statements ∷ []), looped_most (guarded c body) last.statements)
  statement_few break ts = omega arith
  statement_few continue ts = omega arith
  statement_few (return c e) ts =
      let v = expression_core e ts in
      let h = expression_few e ts in
      let x = converted_below c v.value in
      omega (arith, h.statements_few, h.value_few, x.held_less, most-append v.statements (core.return (Some (converted_core c v.value)) ∷ []))
  statement_few return_nothing ts = omega arith

  statements_few : (ss : Stmts) (ts : Temporaries) → ListFew (statements_core ss ts) (statements_height ss)
  statements_few no_stmts ts = omega arith
  statements_few (stmt_and s ss) ts =
      let first = statement_core s ts in
      let f = statement_few s ts in
      let r = statements_few ss first.temporaries in
      omega (arith, f, r, most-append first.statements (statements_core ss first.temporaries).statements)

  parts_few : (ss : Stmts) (ts : Temporaries) → ListFew (parts_core ss ts) (statements_height ss)
  parts_few no_stmts ts = omega arith
  parts_few (stmt_and s ss) ts =
      let item = statement_core s ts in
      let f = statement_few s ts in
      let r = parts_few ss item.temporaries in
      let p = part_most (is_label s) item.statements in
      omega (arith, f, r, p, most-append (part_of (is_label s) item.statements) (parts_core ss item.temporaries).statements)

-- ---- functions

end_most : (z : Bool) → list_most (end_of_body z) ≡ 0
end_most true = refl
end_most false = refl

body_most : (names : FunctionNames) (g : Function) → most_in_all (function_core names g).body ≤ 1 + body_height g
body_most names g =
    let b = statements_few g.body [] in
    omega (arith, b, end_most g.is_main, most-append (body_core g).statements (end_of_body g.is_main))

-- ---- the functions of a unit

-- the most that one expression in a function holds, and how many parameters one has
pub record CoresLow (n k : ℕ) (fs : List CoreFunctionTree) : Type 0 where
  pub bodies : highest (λ f. most_in_all f.body) fs ≤ 1 + n
  pub parameters : highest core_parameters fs ≤ k

pub functions_few : (names : List FunctionNames) (gs : List Function) → CoresLow (highest body_height gs) (highest parameters_of gs) (functions_core names gs)
functions_few names [] = record { bodies = omega arith; parameters = omega arith }
functions_few [] (g ∷ gs) =
    let rest = functions_few [] gs in
    record {
      bodies = omega (arith, rest.bodies, body_most no_names g);
      parameters = omega (arith, rest.parameters, named_length no_names.parameters g.parameters);
    }
functions_few (f ∷ names) (g ∷ gs) =
    let rest = functions_few names gs in
    record {
      bodies = omega (arith, rest.bodies, body_most f g);
      parameters = omega (arith, rest.parameters, named_length f.parameters g.parameters);
    }
