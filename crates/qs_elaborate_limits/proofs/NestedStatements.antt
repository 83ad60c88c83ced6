-- How deep the statements of core nest: those of an expression at most two deep for each level of its height, and others four deep.
use Rattle.std.proofs.Common.{◌≡◌, ◌≤◌, ℕ, ◌+◌, ◌*◌, max, ◌||◌, Bool, true, false, List, [], ◌∷◌, ◌++◌, Some, None, if◌then◌else◌, refl, arith}
use Rattle.qs_memory.specs.declared.scalar.Scalar.{Scalar}
use Rattle.qs_memory.specs.declared.scalar.Scalar.TheVariants as scalars
use Rattle.qs_core.specs.Trees.{CoreExprTree, CoreStmtTree, stmts_of}
use Rattle.qs_core.specs.Trees as core
use Rattle.qs_core.specs.Nesting.{nesting, nesting_in_all, functions_nesting, list_nesting}
use Rattle.qs_core.proofs.JoinedLaws.{joined_nest}
use Rattle.qs_meaning.specs.Typed.{Expr, constant, value, pointer_to, member, called, stepped_after, unary, cast, binary, logical_and, logical_or, conditional, assigned, sequence, Lvalue, variable, object, Arguments, no_arguments, argument_and, Assignment, set, update, Effect, nothing, discard, assign, perform, copy, fill, in_order}
use Rattle.qs_meaning.specs.Typed.{Stmt, evaluate, block, switch, case_label, default_label, branch, while_loop, do_loop, for_loop, break, continue, return, return_nothing, Stmts, no_stmts, stmt_and, Function}
use Rattle.qs_meaning.specs.Fits.{is_label}
use Rattle.qs_elaborate_bodies.specs.Literals.{is_literal, converted_core}
use Rattle.qs_elaborate_bodies.specs.Acting.{acts, arguments_act}
use Rattle.qs_elaborate_bodies.specs.Parts.{Temporaries, with_temporary, next_number, keep, Valued, in_temporary, saved, saved_if, Location, plain, pointed, Located, with_saved_address, address_saved_if, value_at, value_read, written, one_statement}
use Rattle.qs_elaborate_bodies.specs.Expressions.{updated_core, step_amount, branch_with, truth_core, truth_literal, write_at, expression_core, lvalue_core, arguments_core, assignment_core, effect_core}
use Rattle.qs_elaborate_bodies.specs.Statements.{tested, guarded, looped, labels_core, part_of, statement_core, statements_core, parts_core}
use Rattle.qs_elaborate_bodies.specs.Names.{FunctionNames}
use Rattle.qs_elaborate_bodies.specs.Units.{end_of_body, body_core, function_core, no_names, functions_core}
use Rattle.qs_meaning.specs.Typed.{unchanged}
use Rattle.qs_elaborate_limits.specs.Measures.{highest}
use Rattle.qs_elaborate_limits.proofs.TypedHeights.{height, lvalue_height, arguments_height, assignment_height, effect_height, statement_height, statements_height}
use Rattle.qs_elaborate_limits.proofs.UnitHeights.{body_height}

-- ---- parts

one_nests : (ss : List CoreStmtTree) → nesting (one_statement ss) ≤ 1 + list_nesting ss
one_nests [] = omega arith
one_nests (s ∷ []) = omega arith
one_nests (s ∷ r ∷ rest) = omega arith

-- a branch that gives a temporary a value
branch_nests : (ss : List CoreStmtTree) (k : ℕ) (e : CoreExprTree) → nesting (branch_with ss k e) ≤ 1 + list_nesting ss
branch_nests ss k e = omega (arith, one_nests (ss ++ keep k e ∷ []), joined_nest ss (keep k e ∷ []))

either_nests : (z : Bool) (a b : Valued) (n : ℕ) → list_nesting a.statements ≤ n → list_nesting b.statements ≤ n → list_nesting (if z then a else b).statements ≤ n
either_nests true a b n h k = h
either_nests false a b n h k = k

saved_nests : (v : Valued) (n : ℕ) → list_nesting v.statements ≤ n → list_nesting (saved v).statements ≤ n
saved_nests v n h =
    either_nests (is_literal v.value) v (in_temporary v) n h (omega (arith, h, joined_nest v.statements (keep (next_number v.temporaries) v.value ∷ [])))

saved_if_nests : (z : Bool) (v : Valued) (n : ℕ) → list_nesting v.statements ≤ n → list_nesting (saved_if z v).statements ≤ n
saved_if_nests true v n h = saved_nests v n h
saved_if_nests false v n h = h

address_nests : (z : Bool) (l : Located) (n : ℕ) → list_nesting l.statements ≤ n → list_nesting (address_saved_if z l).statements ≤ n
address_nests false l n h = h
address_nests true l n h = by l.location
  where
    by : (x : Location) → list_nesting (with_saved_address l.statements x l.temporaries).statements ≤ n
    by (plain x) = h
    by (pointed a) = saved_nests (record { statements = l.statements; value = a; temporaries = l.temporaries }) n h

written_nests : (s : Scalar) (l : Location) (e : CoreExprTree) → nesting (written s l e) ≡ 0
written_nests s (plain x) e = refl
written_nests s (pointed a) e = refl

write_nests : (s : Scalar) (l : Location) (ss : List CoreStmtTree) (e : CoreExprTree) (ts : Temporaries) (n : ℕ) → list_nesting ss ≤ n → list_nesting (write_at s l ss e ts).statements ≤ n
write_nests s (plain x) ss e ts n h = omega (arith, h, joined_nest ss (written s (plain x) e ∷ []))
write_nests s (pointed p) ss e ts n h =
    omega (arith, h, joined_nest ss (keep (next_number ts) e ∷ written s (pointed p) (core.temporary s (next_number ts)) ∷ []))

-- a conditional behind the list of its condition
test_nests : (e : Valued) (p q : CoreStmtTree) → list_nesting (tested e p q) ≡ max (list_nesting e.statements) (1 + max (nesting p) (nesting q))
test_nests e p q = omega (arith, joined_nest e.statements (core.branch e.value p q ∷ []))

-- ---- expressions

mutual
  expression_nests : (a : Expr) (ts : Temporaries) → list_nesting (expression_core a ts).statements ≤ 2 * height a
  expression_nests (constant s n) ts = omega arith
  expression_nests (value s l) ts = lvalue_nests l ts
  expression_nests (pointer_to o) ts = omega arith
  expression_nests (member offset a) ts = expression_nests a ts
  expression_nests (called s f es) ts =
      let given = arguments_core es ts in
      omega (arith, arguments_nest es ts, joined_nest given.statements (core.call (Some (next_number given.temporaries)) f given.values ∷ []))
  expression_nests (stepped_after s l op left back) ts =
      let at = lvalue_core l ts in
      let k = next_number at.temporaries in
      let new = updated_core op left unchanged back (core.temporary s k) (step_amount op) in
      omega (arith, lvalue_nests l ts, written_nests s at.location new, joined_nest at.statements (keep k (value_at s at.location) ∷ written s at.location new ∷ []))
  expression_nests (unary op c a) ts = expression_nests a ts
  expression_nests (cast c a) ts = expression_nests a ts
  expression_nests (binary op order left right a b) ts =
      let first = saved_if (acts b) (expression_core a ts) in
      let second = expression_core b first.temporaries in
      omega (arith, saved_if_nests (acts b) (expression_core a ts) (2 * height a) (expression_nests a ts), expression_nests b first.temporaries, joined_nest first.statements second.statements)
  expression_nests (logical_and a b) ts =
      let first = expression_core a ts in
      let second = expression_core b first.temporaries in
      let k = next_number second.temporaries in
      let h = expression_nests a ts in
      let i = expression_nests b first.temporaries in
      either_nests (acts b) _ _ (2 * (1 + max (height a) (height b)))
      (omega (arith, h, i, branch_nests second.statements k (truth_core second.value), branch_nests [] k (truth_literal 0), test_nests first (branch_with second.statements k (truth_core second.value)) (branch_with [] k (truth_literal 0))))
      (omega (arith, h, i, joined_nest first.statements second.statements))
  expression_nests (logical_or a b) ts =
      let first = expression_core a ts in
      let behind = expression_core b (with_temporary first.temporaries scalars.Int) in
      let second = expression_core b first.temporaries in
      let k = next_number first.temporaries in
      let h = expression_nests a ts in
      either_nests (acts b) _ _ (2 * (1 + max (height a) (height b)))
      (omega (arith, h, expression_nests b (with_temporary first.temporaries scalars.Int), branch_nests behind.statements k (truth_core behind.value), branch_nests [] k (truth_literal 1), test_nests first (branch_with [] k (truth_literal 1)) (branch_with behind.statements k (truth_core behind.value))))
      (omega (arith, h, expression_nests b first.temporaries, joined_nest first.statements second.statements))
  expression_nests (conditional s a second third b c) ts =
      let first = expression_core a ts in
      let met = expression_core b first.temporaries in
      let unmet = expression_core c (with_temporary met.temporaries s) in
      let other = expression_core c met.temporaries in
      let k = next_number met.temporaries in
      let h = expression_nests a ts in
      let i = expression_nests b first.temporaries in
      either_nests (acts b || acts c) _ _ (2 * (1 + max (height a) (max (height b) (height c))))
      (omega (
        arith,
        h,
        i,
        expression_nests c (with_temporary met.temporaries s),
        branch_nests met.statements k (converted_core second met.value),
        branch_nests unmet.statements k (converted_core third unmet.value),
        test_nests first (branch_with met.statements k (converted_core second met.value)) (branch_with unmet.statements k (converted_core third unmet.value)),
      ))
      (omega (arith, h, i, expression_nests c met.temporaries, joined_nest met.statements other.statements, joined_nest first.statements (met.statements ++ other.statements)))
  expression_nests (assigned a) ts =
      let w = assignment_core a ts in write_nests w.scalar w.location w.statements w.value w.temporaries (2 * assignment_height a) (assignment_nests a ts)
  expression_nests (sequence a b) ts =
      let first = effect_core a ts in
      let second = expression_core b first.temporaries in
      omega (arith, effect_nests a ts, expression_nests b first.temporaries, joined_nest first.statements second.statements)

  lvalue_nests : (l : Lvalue) (ts : Temporaries) → list_nesting (lvalue_core l ts).statements ≤ 2 * lvalue_height l
  lvalue_nests (variable x) ts = omega arith
  lvalue_nests (object a) ts = expression_nests a ts

  arguments_nest : (es : Arguments) (ts : Temporaries) → list_nesting (arguments_core es ts).statements ≤ 2 * arguments_height es
  arguments_nest no_arguments ts = omega arith
  arguments_nest (argument_and c a es) ts =
      let first = saved_if (arguments_act es) (expression_core a ts) in
      let rest = arguments_core es first.temporaries in
      omega (arith, saved_if_nests (arguments_act es) (expression_core a ts) (2 * height a) (expression_nests a ts), arguments_nest es first.temporaries, joined_nest first.statements rest.statements)

  assignment_nests : (a : Assignment) (ts : Temporaries) → list_nesting (assignment_core a ts).statements ≤ 2 * assignment_height a
  assignment_nests (set s l c a) ts =
      let at = address_saved_if (acts a) (lvalue_core l ts) in
      let new = expression_core a at.temporaries in
      omega (arith, address_nests (acts a) (lvalue_core l ts) (2 * lvalue_height l) (lvalue_nests l ts), expression_nests a at.temporaries, joined_nest at.statements new.statements)
  assignment_nests (update s l op left right back a) ts =
      let at = address_saved_if (acts a) (lvalue_core l ts) in
      let old = saved_if (acts a) (value_read s at) in
      let new = expression_core a old.temporaries in
      let p = address_nests (acts a) (lvalue_core l ts) (2 * lvalue_height l) (lvalue_nests l ts) in
      omega (arith, saved_if_nests (acts a) (value_read s at) (2 * lvalue_height l) p, expression_nests a old.temporaries, joined_nest old.statements new.statements)

  effect_nests : (a : Effect) (ts : Temporaries) → list_nesting (effect_core a ts).statements ≤ 2 * effect_height a
  effect_nests nothing ts = omega arith
  effect_nests (discard a) ts = saved_nests (expression_core a ts) (2 * height a) (expression_nests a ts)
  effect_nests (assign a) ts =
      let w = assignment_core a ts in
      omega (arith, assignment_nests a ts, written_nests w.scalar w.location w.value, joined_nest w.statements (written w.scalar w.location w.value ∷ []))
  effect_nests (perform f es) ts =
      let given = arguments_core es ts in omega (arith, arguments_nest es ts, joined_nest given.statements (core.call None f given.values ∷ []))
  effect_nests (copy size alignment a b) ts =
      let to = saved_if (acts b) (expression_core a ts) in
      let from = expression_core b to.temporaries in
      omega (
        arith,
        saved_if_nests (acts b) (expression_core a ts) (2 * height a) (expression_nests a ts),
        expression_nests b to.temporaries,
        joined_nest to.statements from.statements,
        joined_nest (to.statements ++ from.statements) (core.copy size alignment to.value from.value ∷ []),
      )
  effect_nests (fill blank a) ts =
      let at = expression_core a ts in omega (arith, expression_nests a ts, joined_nest at.statements (core.fill blank at.value ∷ []))
  effect_nests (in_order a b) ts =
      let first = effect_core a ts in
      let second = effect_core b first.temporaries in
      omega (arith, effect_nests a ts, effect_nests b first.temporaries, joined_nest first.statements second.statements)

-- ---- statements

-- an item of a switch as a part
part_nests : (z : Bool) (ss : List CoreStmtTree) → list_nesting (part_of z ss) ≤ 1 + list_nesting ss
part_nests true ss = omega arith
part_nests false ss = omega (arith, one_nests ss)

-- a loop is a sequence in it, a conditional, and a sequence in that
guarded_nests : (e : Valued) (body step : List CoreStmtTree) → nesting (looped (tested e (one_statement body) core.break) step) ≤ 1 + max (1 + max (list_nesting e.statements) (2 + list_nesting body)) (1 + list_nesting step)
guarded_nests e body step =
    omega (arith, one_nests (tested e (one_statement body) core.break), test_nests e (one_statement body) core.break, one_nests body, one_nests step)

mutual
  statement_nests : (s : Stmt) (ts : Temporaries) → list_nesting (statement_core s ts).statements ≤ 4 * statement_height s
  statement_nests (evaluate a) ts = omega (arith, effect_nests a ts)
  statement_nests (block ss) ts = statements_nest ss ts
  statement_nests (switch c e ss) ts =
      let at = expression_core e ts in
      let parts = parts_core ss at.temporaries in
      omega (
        arith,
        expression_nests e ts,
        parts_nest ss at.temporaries,
        joined_nest at.statements (core.switch (converted_core c at.value) (labels_core 0 ss) (stmts_of parts.statements) ∷ []),
      )
  statement_nests (case_label n) ts = omega arith
  statement_nests default_label ts = omega arith
  statement_nests (branch e a b) ts =
      let c = expression_core e ts in
      let met = statement_core a c.temporaries in
      let unmet = statement_core b met.temporaries in
      omega (
        arith,
        expression_nests e ts,
        statement_nests a c.temporaries,
        statement_nests b met.temporaries,
        one_nests met.statements,
        one_nests unmet.statements,
        test_nests c (one_statement met.statements) (one_statement unmet.statements),
      )
  statement_nests (while_loop e a) ts =
      let c = expression_core e ts in
      let body = statement_core a c.temporaries in
      omega (arith, expression_nests e ts, statement_nests a c.temporaries, guarded_nests c body.statements [])
  statement_nests (do_loop a e) ts =
      let body = statement_core a ts in
      let c = expression_core e body.temporaries in
      omega (arith, statement_nests a ts, expression_nests e body.temporaries, one_nests body.statements, one_nests (tested c core.skip core.break), test_nests c core.skip core.break)
  statement_nests (for_loop start None step a) ts =
      let first = effect_core start ts in
      let body = statement_core a first.temporaries in
      let last = effect_core step body.temporaries in
      omega (
        arith,
        effect_nests start ts,
        statement_nests a first.temporaries,
        effect_nests step body.temporaries,
        one_nests body.statements,
        one_nests last.statements,
        joined_nest first.statements (looped body.statements last.statements ∷ []),
      )
  statement_nests (for_loop start (Some e) step a) ts =
      let first = effect_core start ts in
      let c = expression_core e first.temporaries in
      let body = statement_core a c.temporaries in
      let last = effect_core step body.temporaries in
      omega (
        arith,
        effect_nests start ts,
        expression_nests e first.temporaries,
        statement_nests a c.temporaries,
        effect_nests step body.temporaries,
        guarded_nests c body.statements last.statements,
        joined_nest first.statements (looped (guarded c body) last.statements ∷ []),
      )
  statement_nests break ts = omega arith
  statement_nests continue ts = omega arith
  statement_nests (return c e) ts =
      let v = expression_core e ts in omega (arith, expression_nests e ts, joined_nest v.statements (core.return (Some (converted_core c v.value)) ∷ []))
  statement_nests return_nothing ts = omega arith

  statements_nest : (ss : Stmts) (ts : Temporaries) → list_nesting (statements_core ss ts).statements ≤ 4 * statements_height ss
  statements_nest no_stmts ts = omega arith
  statements_nest (stmt_and s ss) ts =
      let first = statement_core s ts in
      let rest = statements_core ss first.temporaries in
      omega (arith, statement_nests s ts, statements_nest ss first.temporaries, joined_nest first.statements rest.statements)

  -- a part is a sequence, or nests no deeper than its list
  parts_nest : (ss : Stmts) (ts : Temporaries) → list_nesting (parts_core ss ts).statements ≤ 1 + 4 * statements_height ss
  parts_nest no_stmts ts = omega arith
  parts_nest (stmt_and s ss) ts =
      let item = statement_core s ts in
      let rest = parts_core ss item.temporaries in
      omega (
        arith,
        statement_nests s ts,
        parts_nest ss item.temporaries,
        part_nests (is_label s) item.statements,
        joined_nest (part_of (is_label s) item.statements) rest.statements,
      )

-- ---- functions

end_nests : (z : Bool) → list_nesting (end_of_body z) ≡ 0
end_nests true = refl
end_nests false = refl

body_nests : (names : FunctionNames) (g : Function) → nesting_in_all (function_core names g).body ≤ 4 * body_height g
body_nests names g =
    omega (arith, statements_nest g.body [], end_nests g.is_main, joined_nest (body_core g).statements (end_of_body g.is_main))

pub functions_nest : (names : List FunctionNames) (gs : List Function) → functions_nesting (functions_core names gs) ≤ 4 * highest body_height gs
functions_nest names [] = omega arith
functions_nest [] (g ∷ gs) = omega (arith, functions_nest [] gs, body_nests no_names g)
functions_nest (f ∷ names) (g ∷ gs) = omega (arith, functions_nest names gs, body_nests f g)
