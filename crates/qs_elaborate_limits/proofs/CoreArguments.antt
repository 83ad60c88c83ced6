-- No call of core has more arguments than those of its typed tree.
use Rattle.std.proofs.Common.{◌≡◌, ◌≤◌, ℕ, max, ◌||◌, Bool, true, false, List, [], ◌∷◌, ◌++◌, length, Some, None, if◌then◌else◌, refl, arith}
use Rattle.qs_memory.specs.declared.scalar.Scalar.{Scalar}
use Rattle.qs_memory.specs.declared.scalar.Scalar.TheVariants as scalars
use Rattle.qs_core.specs.Trees.{CoreExprTree, CoreStmtTree, stmts_of}
use Rattle.qs_core.specs.Trees as core
use Rattle.qs_core.specs.Sizes.{most_arguments, most_arguments_in}
use Rattle.qs_meaning.specs.Typed.{Expr, constant, value, pointer_to, member, called, stepped_after, unary, cast, binary, logical_and, logical_or, conditional, assigned, sequence, Lvalue, variable, object, Arguments, no_arguments, argument_and, Assignment, set, update, Effect, nothing, discard, assign, perform, copy, fill, in_order}
use Rattle.qs_meaning.specs.Typed.{Stmt, evaluate, block, switch, case_label, default_label, branch, while_loop, do_loop, for_loop, break, continue, return, return_nothing, Stmts, no_stmts, stmt_and, Function}
use Rattle.qs_meaning.specs.Fits.{is_label}
use Rattle.qs_elaborate_bodies.specs.Literals.{is_literal, converted_core}
use Rattle.qs_elaborate_bodies.specs.Acting.{acts, arguments_act}
use Rattle.qs_elaborate_bodies.specs.Parts.{Temporaries, with_temporary, next_number, keep, Valued, in_temporary, saved, saved_if, Location, plain, pointed, Located, with_saved_address, address_saved_if, value_at, value_read, written, one_statement}
use Rattle.qs_elaborate_bodies.specs.Expressions.{updated_core, step_amount, branch_with, truth_core, truth_literal, write_at, expression_core, lvalue_core, arguments_core, assignment_core, effect_core}
use Rattle.qs_elaborate_bodies.specs.Statements.{tested, guarded, looped, labels_core, part_of, statement_core, statements_core, parts_core}
use Rattle.qs_elaborate_bodies.specs.Names.{FunctionNames}
use Rattle.qs_elaborate_bodies.specs.Units.{end_of_body, body_core, function_core}
use Rattle.qs_meaning.specs.Typed.{unchanged}
use Rattle.qs_elaborate_limits.proofs.TypedArguments.{argument_number, expression_arguments, lvalue_arguments, within_arguments, assignment_arguments, effect_arguments, statement_arguments, statements_arguments}

-- ---- lists of statements

abbrev list_arguments : List CoreStmtTree → ℕ
list_arguments ss = most_arguments_in (stmts_of ss)

joined_arguments : (a b : List CoreStmtTree) → list_arguments (a ++ b) ≡ max (list_arguments a) (list_arguments b)
joined_arguments [] b = omega arith
joined_arguments (s ∷ a) b = let e = joined_arguments a b in omega (arith, e)

-- ---- parts

one_few : (ss : List CoreStmtTree) → most_arguments (one_statement ss) ≤ list_arguments ss
one_few [] = omega arith
one_few (s ∷ []) = omega arith
one_few (s ∷ r ∷ rest) = omega arith

-- a branch that gives a temporary a value
branch_few : (ss : List CoreStmtTree) (k : ℕ) (e : CoreExprTree) → most_arguments (branch_with ss k e) ≤ list_arguments ss
branch_few ss k e = omega (arith, one_few (ss ++ keep k e ∷ []), joined_arguments ss (keep k e ∷ []))

either_few : (z : Bool) (a b : Valued) (n : ℕ) → list_arguments a.statements ≤ n → list_arguments b.statements ≤ n → list_arguments (if z then a else b).statements ≤ n
either_few true a b n h k = h
either_few false a b n h k = k

saved_few : (v : Valued) (n : ℕ) → list_arguments v.statements ≤ n → list_arguments (saved v).statements ≤ n
saved_few v n h =
    either_few (is_literal v.value) v (in_temporary v) n h (omega (arith, h, joined_arguments v.statements (keep (next_number v.temporaries) v.value ∷ [])))

saved_if_few : (z : Bool) (v : Valued) (n : ℕ) → list_arguments v.statements ≤ n → list_arguments (saved_if z v).statements ≤ n
saved_if_few true v n h = saved_few v n h
saved_if_few false v n h = h

address_few : (z : Bool) (l : Located) (n : ℕ) → list_arguments l.statements ≤ n → list_arguments (address_saved_if z l).statements ≤ n
address_few false l n h = h
address_few true l n h = by l.location
  where
    by : (x : Location) → list_arguments (with_saved_address l.statements x l.temporaries).statements ≤ n
    by (plain x) = h
    by (pointed a) = saved_few (record { statements = l.statements; value = a; temporaries = l.temporaries }) n h

written_few : (s : Scalar) (l : Location) (e : CoreExprTree) → most_arguments (written s l e) ≡ 0
written_few s (plain x) e = refl
written_few s (pointed a) e = refl

write_few : (s : Scalar) (l : Location) (ss : List CoreStmtTree) (e : CoreExprTree) (ts : Temporaries) (n : ℕ) → list_arguments ss ≤ n → list_arguments (write_at s l ss e ts).statements ≤ n
write_few s (plain x) ss e ts n h = omega (arith, h, joined_arguments ss (written s (plain x) e ∷ []))
write_few s (pointed p) ss e ts n h =
    omega (arith, h, joined_arguments ss (keep (next_number ts) e ∷ written s (pointed p) (core.temporary s (next_number ts)) ∷ []))

-- a conditional behind the list of its condition
test_few : (e : Valued) (p q : CoreStmtTree) → list_arguments (tested e p q) ≡ max (list_arguments e.statements) (max (most_arguments p) (most_arguments q))
test_few e p q = omega (arith, joined_arguments e.statements (core.branch e.value p q ∷ []))

-- ---- expressions

values_number : (es : Arguments) (ts : Temporaries) → length (arguments_core es ts).values ≡ argument_number es
values_number no_arguments ts = refl
values_number (argument_and c a es) ts =
    let first = saved_if (arguments_act es) (expression_core a ts) in
    let n = values_number es first.temporaries in
    omega (arith, n)

mutual
  expression_few : (a : Expr) (ts : Temporaries) → list_arguments (expression_core a ts).statements ≤ expression_arguments a
  expression_few (constant s n) ts = omega arith
  expression_few (value s l) ts = lvalue_few l ts
  expression_few (pointer_to o) ts = omega arith
  expression_few (member offset a) ts = expression_few a ts
  expression_few (called s f es) ts =
      let given = arguments_core es ts in
      omega (arith, arguments_few es ts, values_number es ts, joined_arguments given.statements (core.call (Some (next_number given.temporaries)) f given.values ∷ []))
  expression_few (stepped_after s l op left back) ts =
      let at = lvalue_core l ts in
      let k = next_number at.temporaries in
      let new = updated_core op left unchanged back (core.temporary s k) (step_amount op) in
      omega (arith, lvalue_few l ts, written_few s at.location new, joined_arguments at.statements (keep k (value_at s at.location) ∷ written s at.location new ∷ []))
  expression_few (unary op c a) ts = expression_few a ts
  expression_few (cast c a) ts = expression_few a ts
  expression_few (binary op order left right a b) ts =
      let first = saved_if (acts b) (expression_core a ts) in
      let second = expression_core b first.temporaries in
      omega (arith, saved_if_few (acts b) (expression_core a ts) (expression_arguments a) (expression_few a ts), expression_few b first.temporaries, joined_arguments first.statements second.statements)
  expression_few (logical_and a b) ts =
      let first = expression_core a ts in
      let second = expression_core b first.temporaries in
      let k = next_number second.temporaries in
      let h = expression_few a ts in
      let i = expression_few b first.temporaries in
      either_few (acts b) _ _ (max (expression_arguments a) (expression_arguments b))
      (omega (arith, h, i, branch_few second.statements k (truth_core second.value), branch_few [] k (truth_literal 0), test_few first (branch_with second.statements k (truth_core second.value)) (branch_with [] k (truth_literal 0))))
      (omega (arith, h, i, joined_arguments first.statements second.statements))
  expression_few (logical_or a b) ts =
      let first = expression_core a ts in
      let behind = expression_core b (with_temporary first.temporaries scalars.Int) in
      let second = expression_core b first.temporaries in
      let k = next_number first.temporaries in
      let h = expression_few a ts in
      either_few (acts b) _ _ (max (expression_arguments a) (expression_arguments b))
      (omega (arith, h, expression_few b (with_temporary first.temporaries scalars.Int), branch_few behind.statements k (truth_core behind.value), branch_few [] k (truth_literal 1), test_few first (branch_with [] k (truth_literal 1)) (branch_with behind.statements k (truth_core behind.value))))
      (omega (arith, h, expression_few b first.temporaries, joined_arguments first.statements second.statements))
  expression_few (conditional s a second third b c) ts =
      let first = expression_core a ts in
      let met = expression_core b first.temporaries in
      let unmet = expression_core c (with_temporary met.temporaries s) in
      let other = expression_core c met.temporaries in
      let k = next_number met.temporaries in
      let h = expression_few a ts in
      let i = expression_few b first.temporaries in
      either_few (acts b || acts c) _ _ (max (expression_arguments a) (max (expression_arguments b) (expression_arguments c)))
      (omega (
        arith,
        h,
        i,
        expression_few c (with_temporary met.temporaries s),
        branch_few met.statements k (converted_core second met.value),
        branch_few unmet.statements k (converted_core third unmet.value),
        test_few first (branch_with met.statements k (converted_core second met.value)) (branch_with unmet.statements k (converted_core third unmet.value)),
      ))
      (omega (arith, h, i, expression_few c met.temporaries, joined_arguments met.statements other.statements, joined_arguments first.statements (met.statements ++ other.statements)))
  expression_few (assigned a) ts =
      let w = assignment_core a ts in write_few w.scalar w.location w.statements w.value w.temporaries (assignment_arguments a) (assignment_few a ts)
  expression_few (sequence a b) ts =
      let first = effect_core a ts in
      let second = expression_core b first.temporaries in
      omega (arith, effect_few a ts, expression_few b first.temporaries, joined_arguments first.statements second.statements)

  lvalue_few : (l : Lvalue) (ts : Temporaries) → list_arguments (lvalue_core l ts).statements ≤ lvalue_arguments l
  lvalue_few (variable x) ts = omega arith
  lvalue_few (object a) ts = expression_few a ts

  arguments_few : (es : Arguments) (ts : Temporaries) → list_arguments (arguments_core es ts).statements ≤ within_arguments es
  arguments_few no_arguments ts = omega arith
  arguments_few (argument_and c a es) ts =
      let first = saved_if (arguments_act es) (expression_core a ts) in
      let rest = arguments_core es first.temporaries in
      omega (arith, saved_if_few (arguments_act es) (expression_core a ts) (expression_arguments a) (expression_few a ts), arguments_few es first.temporaries, joined_arguments first.statements rest.statements)

  assignment_few : (a : Assignment) (ts : Temporaries) → list_arguments (assignment_core a ts).statements ≤ assignment_arguments a
  assignment_few (set s l c a) ts =
      let at = address_saved_if (acts a) (lvalue_core l ts) in
      let new = expression_core a at.temporaries in
      omega (arith, address_few (acts a) (lvalue_core l ts) (lvalue_arguments l) (lvalue_few l ts), expression_few a at.temporaries, joined_arguments at.statements new.statements)
  assignment_few (update s l op left right back a) ts =
      let at = address_saved_if (acts a) (lvalue_core l ts) in
      let old = saved_if (acts a) (value_read s at) in
      let new = expression_core a old.temporaries in
      let p = address_few (acts a) (lvalue_core l ts) (lvalue_arguments l) (lvalue_few l ts) in
      omega (arith, saved_if_few (acts a) (value_read s at) (lvalue_arguments l) p, expression_few a old.temporaries, joined_arguments old.statements new.statements)

  effect_few : (a : Effect) (ts : Temporaries) → list_arguments (effect_core a ts).statements ≤ effect_arguments a
  effect_few nothing ts = omega arith
  effect_few (discard a) ts = saved_few (expression_core a ts) (expression_arguments a) (expression_few a ts)
  effect_few (assign a) ts =
      let w = assignment_core a ts in
      omega (arith, assignment_few a ts, written_few w.scalar w.location w.value, joined_arguments w.statements (written w.scalar w.location w.value ∷ []))
  effect_few (perform f es) ts =
      let given = arguments_core es ts in omega (arith, arguments_few es ts, values_number es ts, joined_arguments given.statements (core.call None f given.values ∷ []))
  effect_few (copy size alignment a b) ts =
      let to = saved_if (acts b) (expression_core a ts) in
      let from = expression_core b to.temporaries in
      omega (
        arith,
        saved_if_few (acts b) (expression_core a ts) (expression_arguments a) (expression_few a ts),
        expression_few b to.temporaries,
        joined_arguments to.statements from.statements,
        joined_arguments (to.statements ++ from.statements) (core.copy size alignment to.value from.value ∷ []),
      )
  effect_few (fill blank a) ts =
      let at = expression_core a ts in omega (arith, expression_few a ts, joined_arguments at.statements (core.fill blank at.value ∷ []))
  effect_few (in_order a b) ts =
      let first = effect_core a ts in
      let second = effect_core b first.temporaries in
      omega (arith, effect_few a ts, effect_few b first.temporaries, joined_arguments first.statements second.statements)

-- ---- statements

-- an item of a switch as a part
part_few : (z : Bool) (ss : List CoreStmtTree) → list_arguments (part_of z ss) ≤ list_arguments ss
part_few true ss = omega arith
part_few false ss = omega (arith, one_few ss)

guarded_few : (e : Valued) (body step : List CoreStmtTree) → most_arguments (looped (tested e (one_statement body) core.break) step) ≤ max (max (list_arguments e.statements) (list_arguments body)) (list_arguments step)
guarded_few e body step =
    omega (arith, one_few (tested e (one_statement body) core.break), test_few e (one_statement body) core.break, one_few body, one_few step)

mutual
  statement_few : (s : Stmt) (ts : Temporaries) → list_arguments (statement_core s ts).statements ≤ statement_arguments s
  statement_few (evaluate a) ts = omega (arith, effect_few a ts)
  statement_few (block ss) ts = statements_few ss ts
  statement_few (switch c e ss) ts =
      let at = expression_core e ts in
      let parts = parts_core ss at.temporaries in
      omega (
        arith,
        expression_few e ts,
        parts_few ss at.temporaries,
        joined_arguments at.statements (core.switch (converted_core c at.value) (labels_core 0 ss) (stmts_of parts.statements) ∷ []),
      )
  statement_few (case_label n) ts = omega arith
  statement_few default_label ts = omega arith
  statement_few (branch e a b) ts =
      let c = expression_core e ts in
      let met = statement_core a c.temporaries in
      let unmet = statement_core b met.temporaries in
      omega (
        arith,
        expression_few e ts,
        statement_few a c.temporaries,
        statement_few b met.temporaries,
        one_few met.statements,
        one_few unmet.statements,
        test_few c (one_statement met.statements) (one_statement unmet.statements),
      )
  statement_few (while_loop e a) ts =
      let c = expression_core e ts in
      let body = statement_core a c.temporaries in
      omega (arith, expression_few e ts, statement_few a c.temporaries, guarded_few c body.statements [])
  statement_few (do_loop a e) ts =
      let body = statement_core a ts in
      let c = expression_core e body.temporaries in
      omega (arith, statement_few a ts, expression_few e body.temporaries, one_few body.statements, one_few (tested c core.skip core.break), test_few c core.skip core.break)
  statement_few (for_loop start None step a) ts =
      let first = effect_core start ts in
      let body = statement_core a first.temporaries in
      let last = effect_core step body.temporaries in
      omega (
        arith,
        effect_few start ts,
        statement_few a first.temporaries,
        effect_few step body.temporaries,
        one_few body.statements,
        one_few last.statements,
        joined_arguments first.statements (looped body.statements last.statements ∷ []),
      )
  statement_few (for_loop start (Some e) step a) ts =
      let first = effect_core start ts in
      let c = expression_core e first.temporaries in
      let body = statement_core a c.temporaries in
      let last = effect_core step body.temporaries in
      omega (
        arith,
        effect_few start ts,
        expression_few e first.temporaries,
        statement_few a c.temporaries,
        effect_few step body.temporaries,
        guarded_few c body.statements last.statements,
        joined_arguments first.statements (looped (guarded c body) last.statements ∷ []),
      )
  statement_few break ts = omega arith
  statement_few continue ts = omega arith
  statement_few (return c e) ts =
      let v = expression_core e ts in omega (arith, expression_few e ts, joined_arguments v.statements (core.return (Some (converted_core c v.value)) ∷ []))
  statement_few return_nothing ts = omega arith

  statements_few : (ss : Stmts) (ts : Temporaries) → list_arguments (statements_core ss ts).statements ≤ statements_arguments ss
  statements_few no_stmts ts = omega arith
  statements_few (stmt_and s ss) ts =
      let first = statement_core s ts in
      let rest = statements_core ss first.temporaries in
      omega (arith, statement_few s ts, statements_few ss first.temporaries, joined_arguments first.statements rest.statements)

  parts_few : (ss : Stmts) (ts : Temporaries) → list_arguments (parts_core ss ts).statements ≤ statements_arguments ss
  parts_few no_stmts ts = omega arith
  parts_few (stmt_and s ss) ts =
      let item = statement_core s ts in
      let rest = parts_core ss item.temporaries in
      omega (
        arith,
        statement_few s ts,
        parts_few ss item.temporaries,
        part_few (is_label s) item.statements,
        joined_arguments (part_of (is_label s) item.statements) rest.statements,
      )

-- ---- functions

end_few : (z : Bool) → list_arguments (end_of_body z) ≡ 0
end_few true = refl
end_few false = refl

pub body_few : (names : FunctionNames) (g : Function) → most_arguments_in (function_core names g).body ≤ statements_arguments g.body
body_few names g =
    omega (arith, statements_few g.body [], end_few g.is_main, joined_arguments (body_core g).statements (end_of_body g.is_main))
