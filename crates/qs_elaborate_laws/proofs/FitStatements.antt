-- What a statement gives in core fits, where the statement does.
use Rattle.std.proofs.Common.{◌≡◌, ℕ, ◌+◌, ◌<◌, nat_lt, Bool, true, false, not, List, [], ◌∷◌, Option, Some, None, length, refl, sym, ap, ◌∙◌, subst, arith}
use Rattle.std.specs.List.{list_all}
use Rattle.std.proofs.lemmas.Bool.{and_parts, and_from}
use Rattle.std.proofs.lemmas.Bool.Decides.{nat_tests}
use Rattle.qs_memory.specs.Values.{integer, has_type}
use Rattle.qs_memory.specs.Scalars.{is_type, is_promoted}
use Rattle.qs_memory.specs.declared.scalar.Scalar.{Scalar}
use Rattle.qs_memory.specs.declared.scalar.Scalar.TheVariants as scalars
use Rattle.qs_calls.specs.Starts.{Interface}
use Rattle.qs_core.specs.declared.labels.CoreLabel.{CoreLabel}
use Rattle.qs_core.specs.Trees.{CoreStmtTree, stmts_of, CoreFunctionTree, CoreUnitTree}
use Rattle.qs_core.specs.Trees as core
use Rattle.qs_core.specs.Expressions as core_expressions
use Rattle.qs_core.specs.Outline.{count_of}
use Rattle.qs_core.specs.Fits as fits
use Rattle.qs_meaning.specs.Typed.{Conversion, Expr, Stmt, evaluate, block, switch, case_label, default_label, branch, while_loop, do_loop, for_loop, break, continue, return, return_nothing, Stmts, no_stmts, stmt_and, Function}
use Rattle.qs_meaning.specs.Fits.{type_of, conversion_fits, is_null, becomes, expr_fits, effect_fits, operand_fits, is_label, ends_in_label, labels_fit, stmt_fits, stmts_fit}
use Rattle.qs_meaning.specs.Fits as source
use Rattle.qs_elaborate_bodies.specs.Literals.{converted_core}
use Rattle.qs_elaborate_bodies.specs.Parts.{Temporaries, Valued, Listed, in_turn, one_statement}
use Rattle.qs_elaborate_bodies.specs.Expressions.{expression_core, effect_core}
use Rattle.qs_elaborate_bodies.specs.Statements.{tested, looped, guarded, return_listed, labels_core, parted, statement_core, statements_core, parts_core}
use Rattle.qs_elaborate_bodies.proofs.Items.{Item, a_case, a_default, a_part, item_of, part_first, part_labels}
use Rattle.qs_elaborate_laws.proofs.FitParts.{same_from, Extends, extends_self, extends_then, list_append, one_fits, holding, expr_kept}
use Rattle.qs_elaborate_laws.proofs.FitOperands.{ValuedFits, converted_valued, becomes_fits, ListedFits}
use Rattle.qs_elaborate_laws.proofs.FitExpressions.{IsAlike, expression_fits, effect_fits_too}

module _ (u : CoreUnitTree) (f : CoreFunctionTree) where
  -- a break, and a continue, only where it may stand
  pub record StatementFits (b c : Bool) (ts : Temporaries) (l : Listed) : Type 0 where
    pub more : Extends ts l.temporaries
    pub statements : (later : Temporaries) → Extends l.temporaries later → fits.stmts_fit u (holding u f later) b c (stmts_of l.statements) ≡ true

  everywhere : (b c : Bool) (ts : Temporaries) (l : Listed) → ListedFits u f ts l → StatementFits b c ts l
  everywhere b c ts l h = record { more = h.more; statements = λ later e. h.statements.fit b c later e }

  turn_statements : (b c : Bool) (ts : Temporaries) (l m : Listed) → StatementFits b c ts l → StatementFits b c l.temporaries m → StatementFits b c ts (in_turn l m)
  turn_statements b c ts l m h k = record {
    more = extends_then h.more k.more;
    statements = λ later e. list_append u (holding u f later) b c l.statements m.statements (h.statements later (extends_then k.more e)) (k.statements later e);
  }

  tested_fits : (ts later : Temporaries) (b c : Bool) (v : Valued) (s : Scalar) (z : Bool) (p q : CoreStmtTree) → ValuedFits u f ts v s z → Extends v.temporaries later → fits.stmt_fits u (holding u f later) b c p ≡ true → fits.stmt_fits u (holding u f later) b c q ≡ true → fits.stmts_fit u (holding u f later) b c (stmts_of (tested v p q)) ≡ true
  tested_fits ts later b c v s z p q h e fit_p fit_q =
      list_append u (holding u f later) b c v.statements (core.branch v.value p q ∷ []) (h.statements.fit b c later e)
      (and_from _ _ (and_from _ _ (and_from _ _ (expr_kept u f v.temporaries later e v.value h.value) fit_p) fit_q) refl)

  one_of : (later : Temporaries) (b c : Bool) (ss : List CoreStmtTree) → fits.stmts_fit u (holding u f later) b c (stmts_of ss) ≡ true → fits.stmt_fits u (holding u f later) b c (one_statement ss) ≡ true
  one_of later b c ss h = one_fits u (holding u f later) b c ss h

  guarded_fits : (ts later : Temporaries) (v : Valued) (s : Scalar) (z : Bool) (body : Listed) → ValuedFits u f ts v s z → StatementFits true true v.temporaries body → Extends body.temporaries later → fits.stmts_fit u (holding u f later) true true (stmts_of (guarded v body)) ≡ true
  guarded_fits ts later v s z body h k e =
      tested_fits ts later true true v s z (one_statement body.statements) core.break h (extends_then k.more e) (one_of later true true body.statements (k.statements later e)) refl

  looped_fits : (later : Temporaries) (b c : Bool) (body step : List CoreStmtTree) → fits.stmts_fit u (holding u f later) true true (stmts_of body) ≡ true → fits.stmts_fit u (holding u f later) true false (stmts_of step) ≡ true → fits.stmts_fit u (holding u f later) b c (stmts_of (looped body step ∷ [])) ≡ true
  looped_fits later b c body step h k = and_from _ _ (and_from _ _ (one_of later true true body h) (one_of later true false step k)) refl

  -- an item of a switch as a part
  part_fits : (b c : Bool) (ts : Temporaries) (z : Bool) (l : Listed) → StatementFits b c ts l → StatementFits b c ts (parted z l)
  part_fits b c ts true l h = record { more = h.more; statements = λ later e. refl }
  part_fits b c ts false l h = record { more = h.more; statements = λ later e. and_from _ _ (one_of later b c l.statements (h.statements later e)) refl }

-- ---- the labels of a switch

not_true : (z : Bool) → not z ≡ true → z ≡ false
not_true true h = sym h
not_true false h = refl

-- behind a label there is a part
some_part : (ss : Stmts) (ts : Temporaries) → ends_in_label true ss ≡ false → 0 < length (parts_core ss ts).statements
some_part no_stmts ts h = cc
some_part (stmt_and s ss) ts h = by s (item_of s) h (λ e. some_part ss ts e)
  where
    by : (s : Stmt) → Item s → ends_in_label true (stmt_and s ss) ≡ false → (ends_in_label true ss ≡ false → 0 < length (parts_core ss ts).statements)
        → 0 < length (parts_core (stmt_and s ss) ts).statements
    by _ (a_case n) h rest = rest h
    by _ a_default h rest = rest h
    by _ (a_part s p) h rest = let first = ap length (part_first s ss ts p) in omega arith

-- int and unsigned have the same values
same_values : (t : Scalar) (n : ℕ) → is_promoted t ≡ true → has_type scalars.Int (integer n) ≡ true → has_type t (integer n) ≡ true
same_values scalars.Char n t h = cc
same_values scalars.Int n t h = h
same_values scalars.Unsigned n t h = h
same_values scalars.Pointer n t h = cc

is_below : (n m : ℕ) → n < m → nat_lt n m ≡ true
is_below n m h = grind (arith, nat_tests, h)

labels_inside : (i : Interface) (g : Function) (b c : Bool) (t : Scalar) → is_promoted t ≡ true → (ss : Stmts) (ts : Temporaries) (part total : ℕ) (before : Bool)
    → stmts_fit i g b c ss ≡ true → ends_in_label before ss ≡ false → part + length (parts_core ss ts).statements ≡ total
    → list_all (fits.label_fits t total) (labels_core part ss) ≡ true
labels_inside i g b c t promoted no_stmts ts part total before h ends count = refl
labels_inside i g b c t promoted (stmt_and s ss) ts part total before h ends count =
    let two = and_parts (stmt_fits i g b c s) _ h in
    by s (item_of s) two.0 ends count (λ us next before e n. labels_inside i g b c t promoted ss us next total before two.1 e n)
  where
    by : (s : Stmt) → Item s → stmt_fits i g b c s ≡ true → ends_in_label before (stmt_and s ss) ≡ false → part + length (parts_core (stmt_and s ss) ts).statements ≡ total
        → ((us : Temporaries) (next : ℕ) (before : Bool) → ends_in_label before ss ≡ false → next + length (parts_core ss us).statements ≡ total → list_all (fits.label_fits t total) (labels_core next ss) ≡ true)
        → list_all (fits.label_fits t total) (labels_core part (stmt_and s ss)) ≡ true
    by _ (a_case n) fit e count rest =
        let some = some_part ss ts e in
        and_from _ _ (and_from _ _ (same_values t n promoted fit) (is_below part total (omega arith))) (rest ts part true e count)
    by _ a_default fit e count rest =
        let some = some_part ss ts e in
        and_from _ _ (is_below part total (omega arith)) (rest ts part true e count)
    by _ (a_part s p) fit e count rest =
        let us = (statement_core s ts).temporaries in
        let first = ap length (part_first s ss ts p) in
        subst (λ (labels : List CoreLabel). list_all (fits.label_fits t total) labels ≡ true) (sym (part_labels s ss part p))
        (rest us (part + 1) false (subst (λ z. ends_in_label z ss ≡ false) p.is e) (omega arith))

part_count : (ss : List CoreStmtTree) → count_of (stmts_of ss) ≡ length ss
part_count [] = refl
part_count (s ∷ ss) = let e = part_count ss in omega arith

module _ (u : CoreUnitTree) (f : CoreFunctionTree) (i : Interface) (g : Function) (alike : IsAlike u f i g) where
  returned : (ts : Temporaries) (c : Conversion) (a : Expr) (o : Option Scalar) → f.result_type ≡ o → source.returned_fits i g c a o ≡ true → (may_break may_continue : Bool) → StatementFits u f may_break may_continue ts (return_listed c (expression_core a ts))
  returned ts c a None is h may_break may_continue = record { more = never; statements = λ later e. cc }
    where
      never : Extends ts (return_listed c (expression_core a ts)).temporaries
      never = record { each = λ k s e. cc }
  returned ts c a (Some s) is h may_break may_continue =
      let two = and_parts (expr_fits i g a) (becomes c a s) h in
      let v = expression_fits u f i g alike a two.0 ts in
      let at = expression_core a ts in
      record {
        more = v.more;
        statements = λ later e.
            let found = becomes_fits u f ts later c at (type_of a) s (is_null a) v e two.1 in
            list_append u (holding u f later) may_break may_continue at.statements _ (v.statements.fit may_break may_continue later e)
            (and_from _ _ (and_from _ _ found.value (ap (λ (o : Option Scalar). is_type o (core_expressions.type_of (converted_core c at.value))) is ∙ same_from (sym found.type))) refl);
      }

  mutual
    pub statement_fits_too : (s : Stmt) (b c : Bool) → stmt_fits i g b c s ≡ true → (ts : Temporaries) → StatementFits u f b c ts (statement_core s ts)
    statement_fits_too (evaluate a) b c h ts = everywhere u f b c ts (effect_core a ts) (effect_fits_too u f i g alike a h ts)
    statement_fits_too (block ss) b c h ts = statements_fit_too ss b c h ts
    statement_fits_too (switch to e ss) b c h ts =
        let two = and_parts (expr_fits i g e) _ h in
        let three = and_parts (operand_fits to e) _ two.1 in
        let four = and_parts (labels_fit ss) _ three.1 in
        let converts = and_parts (conversion_fits to (type_of e) (is_null e)) _ three.0 in
        let at = expression_core e ts in
        let parts = parts_core ss at.temporaries in
        let operand = expression_fits u f i g alike e two.0 ts in
        let inner = parts_fit_too ss true c four.1 at.temporaries in
        record {
          more = extends_then operand.more inner.more;
          statements = λ later k.
              let found = converted_valued u f ts later to at (type_of e) (is_null e) operand (extends_then inner.more k) converts.0 in
              let promoted : is_promoted (core_expressions.type_of (converted_core to at.value)) ≡ true = ap is_promoted found.type ∙ converts.1 in
              let labels = labels_inside i g true c (core_expressions.type_of (converted_core to at.value)) promoted ss at.temporaries 0 (count_of (stmts_of parts.statements)) false four.1
              (not_true (ends_in_label false ss) four.0) (omega (arith, part_count parts.statements)) in
              list_append u (holding u f later) b c at.statements _ (operand.statements.fit b c later (extends_then inner.more k))
              (and_from _ _ (and_from _ _ (and_from _ _ (and_from _ _ found.value promoted) labels) (inner.statements later k)) refl);
        }
    statement_fits_too (case_label n) b c h ts = record { more = extends_self; statements = λ later e. refl }
    statement_fits_too default_label b c h ts = record { more = extends_self; statements = λ later e. refl }
    statement_fits_too (branch e p q) b c h ts =
        let two = and_parts (expr_fits i g e) _ h in
        let three = and_parts (stmt_fits i g b c p) _ two.1 in
        let at = expression_core e ts in
        let met = statement_core p at.temporaries in
        let unmet = statement_core q met.temporaries in
        let condition = expression_fits u f i g alike e two.0 ts in
        let first = statement_fits_too p b c three.0 at.temporaries in
        let second = statement_fits_too q b c three.1 met.temporaries in
        record {
          more = extends_then condition.more (extends_then first.more second.more);
          statements = λ later k.
              tested_fits u f ts later b c at (type_of e) (is_null e) (one_statement met.statements) (one_statement unmet.statements) condition
              (extends_then first.more (extends_then second.more k))
              (one_of u f later b c met.statements (first.statements later (extends_then second.more k)))
              (one_of u f later b c unmet.statements (second.statements later k));
        }
    statement_fits_too (while_loop e p) b c h ts =
        let two = and_parts (expr_fits i g e) _ h in
        let at = expression_core e ts in
        let body = statement_core p at.temporaries in
        let condition = expression_fits u f i g alike e two.0 ts in
        let inner = statement_fits_too p true true two.1 at.temporaries in
        record {
          more = extends_then condition.more inner.more;
          statements = λ later k. looped_fits u f later b c (guarded at body) [] (guarded_fits u f ts later at (type_of e) (is_null e) body condition inner k) refl;
        }
    statement_fits_too (do_loop p e) b c h ts =
        let two = and_parts (stmt_fits i g true true p) _ h in
        let body = statement_core p ts in
        let at = expression_core e body.temporaries in
        let inner = statement_fits_too p true true two.0 ts in
        let condition = expression_fits u f i g alike e two.1 body.temporaries in
        record {
          more = extends_then inner.more condition.more;
          statements = λ later k. looped_fits u f later b c body.statements (tested at core.skip core.break) (inner.statements later (extends_then condition.more k))
              (tested_fits u f body.temporaries later true false at (type_of e) (is_null e) core.skip core.break condition k refl refl);
        }
    statement_fits_too (for_loop start None step p) b c h ts =
        let two = and_parts (effect_fits i g start) _ h in
        let three = and_parts (effect_fits i g step) _ two.1 in
        let first = effect_core start ts in
        let body = statement_core p first.temporaries in
        let last = effect_core step body.temporaries in
        let begin = effect_fits_too u f i g alike start two.0 ts in
        let inner = statement_fits_too p true true three.1 first.temporaries in
        let end = effect_fits_too u f i g alike step three.0 body.temporaries in
        record {
          more = extends_then begin.more (extends_then inner.more end.more);
          statements = λ later k.
              list_append u (holding u f later) b c first.statements _ (begin.statements.fit b c later (extends_then inner.more (extends_then end.more k)))
              (looped_fits u f later b c body.statements last.statements (inner.statements later (extends_then end.more k)) (end.statements.fit true false later k));
        }
    statement_fits_too (for_loop start (Some e) step p) b c h ts =
        let two = and_parts (effect_fits i g start) _ h in
        let test = and_parts (expr_fits i g e) _ two.1 in
        let three = and_parts (effect_fits i g step) _ test.1 in
        let first = effect_core start ts in
        let at = expression_core e first.temporaries in
        let body = statement_core p at.temporaries in
        let last = effect_core step body.temporaries in
        let begin = effect_fits_too u f i g alike start two.0 ts in
        let condition = expression_fits u f i g alike e test.0 first.temporaries in
        let inner = statement_fits_too p true true three.1 at.temporaries in
        let end = effect_fits_too u f i g alike step three.0 body.temporaries in
        record {
          more = extends_then begin.more (extends_then condition.more (extends_then inner.more end.more));
          statements = λ later k.
              list_append u (holding u f later) b c first.statements _
              (begin.statements.fit b c later (extends_then condition.more (extends_then inner.more (extends_then end.more k))))
              (looped_fits u f later b c (guarded at body) last.statements
              (guarded_fits u f first.temporaries later at (type_of e) (is_null e) body condition inner (extends_then end.more k)) (end.statements.fit true false later k));
        }
    statement_fits_too break b c h ts = record { more = extends_self; statements = λ later e. and_from _ _ h refl }
    statement_fits_too continue b c h ts = record { more = extends_self; statements = λ later e. and_from _ _ h refl }
    statement_fits_too (return to a) b c h ts = returned ts to a g.result alike.result h b c
    statement_fits_too return_nothing b c h ts = record { more = extends_self; statements = λ later e. refl }

    pub statements_fit_too : (ss : Stmts) (b c : Bool) → stmts_fit i g b c ss ≡ true → (ts : Temporaries) → StatementFits u f b c ts (statements_core ss ts)
    statements_fit_too no_stmts b c h ts = record { more = extends_self; statements = λ later e. refl }
    statements_fit_too (stmt_and s ss) b c h ts =
        let two = and_parts (stmt_fits i g b c s) _ h in
        turn_statements u f b c ts (statement_core s ts) (statements_core ss (statement_core s ts).temporaries) (statement_fits_too s b c two.0 ts)
        (statements_fit_too ss b c two.1 (statement_core s ts).temporaries)

    parts_fit_too : (ss : Stmts) (b c : Bool) → stmts_fit i g b c ss ≡ true → (ts : Temporaries) → StatementFits u f b c ts (parts_core ss ts)
    parts_fit_too no_stmts b c h ts = record { more = extends_self; statements = λ later e. refl }
    parts_fit_too (stmt_and s ss) b c h ts =
        let two = and_parts (stmt_fits i g b c s) _ h in
        let item = statement_core s ts in
        turn_statements u f b c ts (parted (is_label s) item) (parts_core ss item.temporaries) (part_fits u f b c ts (is_label s) item (statement_fits_too s b c two.0 ts))
        (parts_fit_too ss b c two.1 item.temporaries)
