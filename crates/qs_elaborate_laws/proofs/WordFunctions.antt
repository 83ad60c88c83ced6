-- The words of statements, of functions and of units.
use Rattle.std.proofs.Common.{◌≡◌, ◌≤◌, ℕ, ◌+◌, ◌*◌, Bool, true, false, List, [], ◌∷◌, Some, None, length, refl, ap, arith, if◌then◌else◌}
use Rattle.std.specs.Prelude.{sum_by}
use Rattle.std.proofs.lemmas.List.Sums.{sum_by-cons}
use Rattle.qs_calls.specs.declared.parameter.Parameter.{Parameter}
use Rattle.qs_core.specs.Trees.{CoreStmtTree, stmts_of, CoreFunctionTree}
use Rattle.qs_core.specs.Trees as core
use Rattle.qs_core.specs.Sizes.{stmt_words, words}
use Rattle.qs_meaning.specs.Typed.{Stmt, evaluate, block, switch, case_label, default_label, branch, while_loop, do_loop, for_loop, break, continue, return, return_nothing, Stmts, no_stmts, stmt_and, Function}
use Rattle.qs_meaning.specs.Runs.{main_from}
use Rattle.qs_elaborate_bodies.specs.Literals.{converted_core}
use Rattle.qs_elaborate_bodies.specs.Parts.{Temporaries, Valued, Listed, one_statement}
use Rattle.qs_elaborate_bodies.specs.Expressions.{expression_core, effect_core}
use Rattle.qs_elaborate_bodies.specs.Statements.{tested, guarded, looped, labels_core, statement_core, statements_core, parts_core}
use Rattle.qs_elaborate_bodies.specs.Names.{FunctionNames}
use Rattle.qs_elaborate_bodies.specs.Units.{named_parameters, end_of_body, body_core, function_core, no_names, functions_core}
use Rattle.qs_elaborate_bodies.proofs.Items.{Item, a_case, a_default, a_part, item_of, part_first, part_labels}
use Rattle.qs_elaborate_laws.specs.Counts.{statement_nodes, statements_nodes, nodes_in}
use Rattle.qs_elaborate_laws.specs.SizeLaws.{WordsAreFew, UnitWordsAreFew}
use Rattle.qs_elaborate_laws.proofs.WordFacts.{computed, tested_small, converted_taken, list_words, words-append, words_one}
use Rattle.qs_elaborate_laws.proofs.WordParts.{ListFew}
use Rattle.qs_elaborate_laws.proofs.WordValues.{expression_good, effect_few}

-- ---- a condition, and what follows it

tested_list : (e : Valued) (a b : List CoreStmtTree) → list_words (tested e (one_statement a) (one_statement b)) ≤ list_words e.statements + computed e.value + 7 + list_words a + list_words b
tested_list e a b = omega (arith, words-append e.statements (core.branch e.value (one_statement a) (one_statement b) ∷ []), tested_small e.value, words_one a, words_one b)

guarded_list : (e : Valued) (body : Listed) → list_words (guarded e body) ≤ list_words e.statements + computed e.value + 8 + list_words body.statements
guarded_list e body = omega (arith, words-append e.statements (core.branch e.value (one_statement body.statements) core.break ∷ []), tested_small e.value, words_one body.statements)

asked_list : (e : Valued) → list_words (tested e core.skip core.break) ≤ list_words e.statements + computed e.value + 8
asked_list e = omega (arith, words-append e.statements (core.branch e.value core.skip core.break ∷ []), tested_small e.value)

looped_list : (body step : List CoreStmtTree) → list_words (looped body step ∷ []) ≡ list_words body + list_words step + 3
looped_list body step = omega (arith, words_one body, words_one step)

-- ---- the items of a switch

item_few : (s : Stmt) (ss : Stmts) (part : ℕ) (ts : Temporaries) → Item s → ListFew (statement_core s ts) (statement_nodes s 1)
    → ((next : ℕ) (us : Temporaries) → list_words (parts_core ss us).statements + 7 * length (labels_core next ss) ≤ 24 * statements_nodes ss 1)
    → list_words (parts_core (stmt_and s ss) ts).statements + 7 * length (labels_core part (stmt_and s ss)) ≤ 24 * statements_nodes (stmt_and s ss) 1
item_few _ ss part ts (a_case n) few rest = let r = rest part ts in omega (arith, r)
item_few _ ss part ts a_default few rest = let r = rest part ts in omega (arith, r)
item_few _ ss part ts (a_part s p) few rest =
    let item = statement_core s ts in
    let r = rest (part + 1) item.temporaries in
    let words : list_words (parts_core (stmt_and s ss) ts).statements ≡ stmt_words (one_statement item.statements) + list_words (parts_core ss item.temporaries).statements = ap list_words (part_first s ss ts p) in
    let labels : length (labels_core part (stmt_and s ss)) ≡ length (labels_core (part + 1) ss) = ap length (part_labels s ss part p) in
    omega (arith, few, r, words, labels, words_one item.statements)

-- ---- statements

mutual
  statement_few : (s : Stmt) (ts : Temporaries) → ListFew (statement_core s ts) (statement_nodes s 1)
  statement_few (evaluate a) ts = effect_few a ts
  statement_few (block ss) ts = statements_few ss ts
  statement_few (switch c e ss) ts =
      let at = expression_core e ts in
      let parts = parts_core ss at.temporaries in
      let operand = converted_core c at.value in
      let g = (expression_good e ts).alone in
      let p = parts_few ss 0 at.temporaries in
      omega (arith, p, g.once, converted_taken c at.value, words-append at.statements (core.switch operand (labels_core 0 ss) (stmts_of parts.statements) ∷ []))
  statement_few (case_label n) ts = omega arith
  statement_few default_label ts = omega arith
  statement_few (branch e a b) ts =
      let c = expression_core e ts in
      let met = statement_core a c.temporaries in
      let unmet = statement_core b met.temporaries in
      let g = (expression_good e ts).alone in
      let x = statement_few a c.temporaries in
      let y = statement_few b met.temporaries in
      omega (arith, tested_list c met.statements unmet.statements, g.once, x, y)
  statement_few (while_loop e a) ts =
      let c = expression_core e ts in
      let body = statement_core a c.temporaries in
      let g = (expression_good e ts).alone in
      let x = statement_few a c.temporaries in
      omega (arith, guarded_list c body, looped_list (guarded c body) [], g.once, x)
  statement_few (do_loop a e) ts =
      let body = statement_core a ts in
      let c = expression_core e body.temporaries in
      let g = (expression_good e body.temporaries).alone in
      let x = statement_few a ts in
      omega (arith, asked_list c, looped_list body.statements (tested c core.skip core.break), g.once, x)
  statement_few (for_loop start None step a) ts =
      let first = effect_core start ts in
      let body = statement_core a first.temporaries in
      let last = effect_core step body.temporaries in
      let f = effect_few start ts in
      let b = statement_few a first.temporaries in
      let l = effect_few step body.temporaries in
      omega (arith, f, b, l, words-append first.statements (looped body.statements last.statements ∷ []), looped_list body.statements last.statements)
  statement_few (for_loop start (Some e) step a) ts =
      let first = effect_core start ts in
      let c = expression_core e first.temporaries in
      let body = statement_core a c.temporaries in
      let last = effect_core step body.temporaries in
      let f = effect_few start ts in
      let g = (expression_good e first.temporaries).alone in
      let b = statement_few a c.temporaries in
      let l = effect_few step body.temporaries in
      omega (arith, f, g.once, b, l, guarded_list c body, words-append first.statements (looped (guarded c body) last.statements ∷ []), looped_list (guarded c body) last.statements)
  statement_few break ts = omega arith
  statement_few continue ts = omega arith
  statement_few (return c e) ts =
      let v = expression_core e ts in
      let g = (expression_good e ts).alone in
      let x = converted_core c v.value in
      omega (arith, g.once, converted_taken c v.value, words-append v.statements (core.return (Some x) ∷ []))
  statement_few return_nothing ts = omega arith

  statements_few : (ss : Stmts) (ts : Temporaries) → ListFew (statements_core ss ts) (statements_nodes ss 1)
  statements_few no_stmts ts = omega arith
  statements_few (stmt_and s ss) ts =
      let first = statement_core s ts in
      let f = statement_few s ts in
      let r = statements_few ss first.temporaries in
      omega (arith, f, r, words-append first.statements (statements_core ss first.temporaries).statements)

  -- seven words for each label among them
  parts_few : (ss : Stmts) (part : ℕ) (ts : Temporaries) → list_words (parts_core ss ts).statements + 7 * length (labels_core part ss) ≤ 24 * statements_nodes ss 1
  parts_few no_stmts part ts = omega arith
  parts_few (stmt_and s ss) part ts = item_few s ss part ts (item_of s) (statement_few s ts) (λ next us. parts_few ss next us)

-- ---- functions

pub named_length : (names : List (List ℕ)) (ps : List Parameter) → length (named_parameters names ps) ≡ length ps
named_length names [] = refl
named_length [] (p ∷ ps) = let e = named_length [] ps in omega arith
named_length (x ∷ names) (p ∷ ps) = let e = named_length names ps in omega arith

end_words : (z : Bool) → list_words (end_of_body z) ≤ (if z then 19 else 0)
end_words true = omega arith
end_words false = omega arith

by_end : (z : Bool) (e w n : ℕ) → e ≤ (if z then 19 else 0) → w ≤ e + n + 33 → w + (if z then 4 else 0) ≤ n + 56
by_end true e w n h k = omega arith
by_end false e w n h k = omega arith

-- the end of main takes nineteen words, and leaves four
function_words : (names : FunctionNames) (g : Function) → words (function_core names g) + (if g.is_main then 4 else 0) ≤ 24 * nodes_in g + 32
function_words names g =
    let b = statements_few g.body [] in
    let a = words-append (body_core g).statements (end_of_body g.is_main) in
    let n = named_length names.parameters g.parameters in
    let all = 24 * (length g.parameters + statements_nodes g.body 1) in
    let h = by_end g.is_main (list_words (end_of_body g.is_main)) (words (function_core names g)) all (end_words g.is_main) (omega (arith, a, b, n)) in
    omega (arith, h)

pub words_are_few : WordsAreFew
words_are_few names g = let h = function_words names g in omega arith

-- ---- units: the call of main takes what main has to spare

functions_words : (names : List FunctionNames) (gs : List Function) → sum_by words (functions_core names gs) ≤ 24 * sum_by nodes_in gs + 32 * length gs
functions_words names [] = omega arith
functions_words [] (g ∷ gs) =
    let h = words_are_few no_names g in
    let k = functions_words [] gs in
    omega (arith, h, k, sum_by-cons words (function_core no_names g) (functions_core [] gs), sum_by-cons nodes_in g gs)
functions_words (f ∷ names) (g ∷ gs) =
    let h = words_are_few f g in
    let k = functions_words names gs in
    omega (arith, h, k, sum_by-cons words (function_core f g) (functions_core names gs), sum_by-cons nodes_in g gs)

-- ---- a unit with a main

abbrev FitsWithMain : (names : List FunctionNames) → (gs : List Function) → Type 0
FitsWithMain names gs = 4 + sum_by words (functions_core names gs) ≤ 24 * sum_by nodes_in gs + 32 * length gs

one_before : (f : FunctionNames) (g : Function) (fs : List CoreFunctionTree) (gs : List Function) (k m : ℕ) → main_from k (g ∷ gs) ≡ Some m
    → sum_by words fs ≤ 24 * sum_by nodes_in gs + 32 * length gs
    → ((j : ℕ) → main_from j gs ≡ Some m → 4 + sum_by words fs ≤ 24 * sum_by nodes_in gs + 32 * length gs)
    → 4 + sum_by words (function_core f g ∷ fs) ≤ 24 * sum_by nodes_in (g ∷ gs) + 32 * length (g ∷ gs)
one_before f g fs gs k m e h i = by_main g.is_main e (function_words f g)
  where
    by_main :
        (z : Bool) → (if z then Some k else main_from (k + 1) gs) ≡ Some m → words (function_core f g) + (if z then 4 else 0) ≤ 24 * nodes_in g + 32
        → 4 + sum_by words (function_core f g ∷ fs) ≤ 24 * sum_by nodes_in (g ∷ gs) + 32 * length (g ∷ gs)
    by_main true e w = omega (arith, w, h, sum_by-cons words (function_core f g) fs, sum_by-cons nodes_in g gs)
    by_main false e w = let r = i (k + 1) e in omega (arith, w, r, sum_by-cons words (function_core f g) fs, sum_by-cons nodes_in g gs)

with_main : (names : List FunctionNames) (gs : List Function) (k m : ℕ) → main_from k gs ≡ Some m → FitsWithMain names gs
with_main names [] k m e = absurd (cc)
with_main [] (g ∷ gs) k m e = one_before no_names g (functions_core [] gs) gs k m e (functions_words [] gs) (λ j d. with_main [] gs j m d)
with_main (f ∷ names) (g ∷ gs) k m e = one_before f g (functions_core names gs) gs k m e (functions_words names gs) (λ j d. with_main names gs j m d)

pub unit_words_are_few : UnitWordsAreFew
unit_words_are_few names u main e = with_main names u.functions 0 main e
