-- The values of statements and of functions.
use Rattle.std.proofs.Common.{◌≡◌, ◌≤◌, ℕ, ◌+◌, ◌*◌, max, Bool, true, false, List, [], ◌∷◌, Some, None, length, refl, arith}
use Rattle.qs_memory.specs.declared.scalar.Scalar.{Scalar}
use Rattle.qs_core.specs.Trees.{CoreStmtTree, stmts_of}
use Rattle.qs_core.specs.Trees as core
use Rattle.qs_meaning.specs.Typed.{Stmt, evaluate, block, switch, case_label, default_label, branch, while_loop, do_loop, for_loop, break, continue, return, return_nothing, Stmts, no_stmts, stmt_and}
use Rattle.qs_meaning.specs.Fits.{is_label}
use Rattle.qs_elaborate_bodies.specs.Literals.{converted_core}
use Rattle.qs_elaborate_bodies.specs.Parts.{Temporaries, Valued, Listed, one_statement}
use Rattle.qs_elaborate_bodies.specs.Expressions.{expression_core, effect_core}
use Rattle.qs_elaborate_bodies.specs.Statements.{tested, guarded, looped, branched, labels_core, part_of, statement_core, statements_core, parts_core}
use Rattle.qs_elaborate_bodies.specs.Names.{VariableName}
use Rattle.qs_elaborate_bodies.specs.Units.{named_variables, end_of_body, body_core}
use Rattle.qs_elaborate_laws.specs.Counts.{statement_nodes, statements_nodes}
use Rattle.qs_elaborate_laws.specs.SizeLaws.{ValuesAreFew}
use Rattle.qs_elaborate_laws.proofs.SizeFacts.{converted_below, list_held, held-append, held_one}
use Rattle.qs_elaborate_laws.proofs.SizeParts.{Within, ListWithin}
use Rattle.qs_elaborate_laws.proofs.SizeValues.{expression_good, effect_within}

-- ---- a condition, and what follows it

tested_held : (e : Valued) (p q : CoreStmtTree) → list_held (tested e p q) ≡ max (list_held e.statements) (list_held (core.branch e.value p q ∷ []))
tested_held e p q = held-append e.statements (core.branch e.value p q ∷ [])

branched_within :
    (e : Valued) (a b : Listed) (l m n : ℕ) → Within 1 e l → ListWithin a (length e.temporaries + m) → ListWithin b (length a.temporaries + n)
    → ListWithin (branched e a b) (l + m + n)
branched_within e a b l m n h i k =
    omega (arith, tested_held e (one_statement a.statements) (one_statement b.statements), held_one a.statements, held_one b.statements, h.statements_fit, h.value_fits, i, k)

guarded_within :
    (e : Valued) (body : Listed) (l m : ℕ) → Within 1 e l → ListWithin body (length e.temporaries + m)
    → length body.temporaries + list_held (guarded e body) ≤ l + m
guarded_within e body l m h k =
    omega (arith, tested_held e (one_statement body.statements) core.break, held_one body.statements, h.statements_fit, h.value_fits, k)

looped_held : (body step : List CoreStmtTree) → list_held (looped body step ∷ []) ≡ max (list_held body) (list_held step)
looped_held body step = omega (arith, held_one body, held_one step)

-- an item of a switch as a part
part_held : (z : Bool) (ss : List CoreStmtTree) → list_held (part_of z ss) ≤ list_held ss
part_held true ss = omega arith
part_held false ss = omega (arith, held_one ss)

-- ---- statements

mutual
  statement_within : (s : Stmt) (k : ℕ) (ts : Temporaries) → ListWithin (statement_core s ts) (length ts + 2 * statement_nodes s k)
  statement_within (evaluate a) k ts = effect_within a k ts
  statement_within (block ss) k ts = statements_within ss k ts
  statement_within (switch c e ss) k ts =
      let at = expression_core e ts in
      let parts = parts_core ss at.temporaries in
      let operand = converted_core c at.value in
      let g = (expression_good e k ts).alone in
      let p = parts_within ss k at.temporaries in
      omega (arith, p, g.statements_fit, g.value_fits, (converted_below c at.value).held_less, held-append at.statements (core.switch operand (labels_core 0 ss) (stmts_of parts.statements) ∷ []))
  statement_within (case_label n) k ts = omega arith
  statement_within default_label k ts = omega arith
  statement_within (branch e a b) k ts =
      let c = expression_core e ts in
      let met = statement_core a c.temporaries in
      let w =
      branched_within c met (statement_core b met.temporaries) _ _ _ (expression_good e k ts).alone (statement_within a k c.temporaries)
      (statement_within b k met.temporaries)
      in
      omega (arith, w)
  statement_within (while_loop e a) k ts =
      let c = expression_core e ts in
      let body = statement_core a c.temporaries in
      let w = guarded_within c body _ _ (expression_good e k ts).alone (statement_within a k c.temporaries) in
      omega (arith, w, looped_held (guarded c body) [])
  statement_within (do_loop a e) k ts =
      let body = statement_core a ts in
      let c = expression_core e body.temporaries in
      let g = (expression_good e k body.temporaries).alone in
      let w = statement_within a k ts in
      omega (arith, w, g.statements_fit, g.value_fits, tested_held c core.skip core.break, looped_held body.statements (tested c core.skip core.break))
  statement_within (for_loop start None step a) k ts =
      let first = effect_core start ts in
      let body = statement_core a first.temporaries in
      let last = effect_core step body.temporaries in
      let f = effect_within start k ts in
      let b = statement_within a k first.temporaries in
      let l = effect_within step k body.temporaries in
      omega (arith, f, b, l, held-append first.statements (looped body.statements last.statements ∷ []), looped_held body.statements last.statements)
  statement_within (for_loop start (Some e) step a) k ts =
      let first = effect_core start ts in
      let c = expression_core e first.temporaries in
      let body = statement_core a c.temporaries in
      let last = effect_core step body.temporaries in
      let f = effect_within start k ts in
      let g = guarded_within c body _ _ (expression_good e k first.temporaries).alone (statement_within a k c.temporaries) in
      let l = effect_within step k body.temporaries in
      omega (arith, f, g, l, held-append first.statements (looped (guarded c body) last.statements ∷ []), looped_held (guarded c body) last.statements)
  statement_within break k ts = omega arith
  statement_within continue k ts = omega arith
  statement_within (return c e) k ts =
      let v = expression_core e ts in
      let g = (expression_good e k ts).alone in
      omega (arith, g.statements_fit, g.value_fits, (converted_below c v.value).held_less, held-append v.statements (core.return (Some (converted_core c v.value)) ∷ []))
  statement_within return_nothing k ts = omega arith

  statements_within : (ss : Stmts) (k : ℕ) (ts : Temporaries) → ListWithin (statements_core ss ts) (length ts + 2 * statements_nodes ss k)
  statements_within no_stmts k ts = omega arith
  statements_within (stmt_and s ss) k ts =
      let first = statement_core s ts in
      let f = statement_within s k ts in
      let r = statements_within ss k first.temporaries in
      omega (arith, f, r, held-append first.statements (statements_core ss first.temporaries).statements)

  parts_within : (ss : Stmts) (k : ℕ) (ts : Temporaries) → ListWithin (parts_core ss ts) (length ts + 2 * statements_nodes ss k)
  parts_within no_stmts k ts = omega arith
  parts_within (stmt_and s ss) k ts =
      let item = statement_core s ts in
      let f = statement_within s k ts in
      let r = parts_within ss k item.temporaries in
      let p = part_held (is_label s) item.statements in
      omega (arith, f, r, p, held-append (part_of (is_label s) item.statements) (parts_core ss item.temporaries).statements)

-- ---- functions

named_length : (names : List VariableName) (ss : List Scalar) → length (named_variables names ss) ≡ length ss
named_length names [] = refl
named_length [] (s ∷ ss) = let e = named_length [] ss in omega arith
named_length (x ∷ names) (s ∷ ss) = let e = named_length names ss in omega arith

end_held : (z : Bool) → list_held (end_of_body z) ≡ 0
end_held true = refl
end_held false = refl

pub values_are_few : ValuesAreFew
values_are_few names g =
    let b = statements_within g.body 0 [] in
    let e = held-append (body_core g).statements (end_of_body g.is_main) in
    omega (arith, b, e, end_held g.is_main, named_length names.variables g.variables)
