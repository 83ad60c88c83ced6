-- The printed terminals of statements that were read are read as them again, no higher.
use Rattle.std.proofs.Common.{◌≡◌, ℕ, suc, ◌+◌, Bool, false, List, [], ◌∷◌, ◌++◌, length, Option, Some, None, refl, ap, sym, ◌∙◌, append-nil, append_assoc, arith}
use Rattle.std.specs.Prelude.{max}
use Rattle.qs_syntax_vocabulary.specs.declared.terminal.Terminal.{Terminal}
use Rattle.qs_syntax_vocabulary.specs.declared.terminal.Terminal.TheVariants.{Keyword, Punctuator}
use Rattle.qs_base.specs.declared.keyword.Keyword.TheVariants as keywords
use Rattle.qs_syntax_vocabulary.specs.declared.punctuator.Punctuator.TheVariants as punctuators
use Rattle.qs_syntax.specs.Trees.{unnumbered, ExprTree, StartTree, no_start, start_expression, start_declaration, StmtTree, empty, expression, declaration, block, switch, case_label, default_label, branch, while_loop, do_loop, for_loop, break, continue, return, Stmts, no_stmts, stmt_and, Else, no_else, else_by}
use Rattle.qs_syntax.specs.Reads.{place}
use Rattle.qs_syntax.specs.ReadsDeclarations.{ReadsDeclaration}
use Rattle.qs_syntax.specs.ReadsStatements.{is_open, is_open_end, ReadsOptional, nothing_there, something_there, ReadsStart, a_start_declaration, a_start_expression, no_start_at_all, ReadsStatement, a_block, an_empty, an_expression, an_if, an_if_with_else, a_while, a_do, a_for, a_switch, a_break, a_continue, a_return, ReadsItem, a_statement, a_declared, ReadsItems, no_item, an_item, ReadsLabel, a_case, a_default, ReadsSwitchBlock, in_braces, ReadsSwitchItem, a_label, a_switch_statement, a_switch_declaration, ReadsSwitchItems, no_switch_item, a_switch_item}
use Rattle.qs_syntax.specs.Numbering.{bare, relabel_expr}
use Rattle.qs_print.specs.Printed.{in_parentheses, printed_declaration, printed_expr, printed_part, printed_optional, printed_start, printed_stmt, printed_stmts}
use Rattle.qs_syntax.specs.WithoutTokens.{plain_declaration, plain_else, plain_start, plain_stmt, plain_stmts}
use Rattle.qs_print.proofs.PrintedTerminals.{left, right}
use Rattle.qs_print.proofs.Rereading.{some_plain, fits, Fit, Again, Reread, seen, seen_append, behind, enclosed}
use Rattle.qs_syntax_vocabulary.specs.Marks.{NameSet}
use Rattle.qs_print.proofs.RereadExpressions.{at_part, at_whole, law, part, whole}
use Rattle.qs_print.proofs.RereadDeclarations.{declaration_law}

-- ---- an `else` that follows

mutual
  plain_is_open : (s : StmtTree) → is_open (plain_stmt s) ≡ is_open s
  plain_is_open (empty node) = refl
  plain_is_open (expression node e) = refl
  plain_is_open (declaration d) = refl
  plain_is_open (block ss) = refl
  plain_is_open (switch node e ss) = refl
  plain_is_open (case_label node e) = refl
  plain_is_open (default_label node) = refl
  plain_is_open (branch node e s rest) = plain_is_open_end rest
  plain_is_open (while_loop node e s) = plain_is_open s
  plain_is_open (do_loop node s e) = refl
  plain_is_open (for_loop node start e u s) = plain_is_open s
  plain_is_open (break node) = refl
  plain_is_open (continue node) = refl
  plain_is_open (return node e) = refl

  plain_is_open_end : (r : Else) → is_open_end (plain_else r) ≡ is_open_end r
  plain_is_open_end no_else = refl
  plain_is_open_end (else_by s) = plain_is_open s

still_closed : (s t : StmtTree) → plain_stmt t ≡ plain_stmt s → is_open s ≡ false → is_open t ≡ false
still_closed s t e f = sym (plain_is_open t) ∙ ap is_open e ∙ plain_is_open s ∙ f

module _ (set : NameSet) where
  -- ---- the parts of statements

  abbrev at_optional : (h n : ℕ) (e : Option ExprTree) → Type 0
  at_optional h n e = Again ReadsOptional (some_plain (relabel_expr bare)) h (seen set n (printed_optional e)) e

  optional_law : {h : ℕ} {ts : List Terminal} {e : Option ExprTree} → ReadsOptional h ts e → Fit set ts → Reread set ReadsOptional (some_plain (relabel_expr bare)) h (printed_optional e) e
  optional_law nothing_there f = record { from = λ n. record { height = 0; tree = None; reads = nothing_there; low = omega arith; same = refl } }
  optional_law (something_there {h = h} {e = e} r) f = record {
    from = λ n.
        let p : at_whole set h n e = (whole set h e (law set r tt f)).from n in
        record { height = p.height; tree = Some p.tree; reads = something_there p.reads; low = p.low; same = ap Some p.same };
  }

  abbrev at_start : (h n : ℕ) (a : StartTree) → Type 0
  at_start h n a = Again ReadsStart plain_start h (seen set n (printed_start a)) a

  start_law : {h : ℕ} {ts : List Terminal} {a : StartTree} → ReadsStart h ts a → Fit set ts → Reread set ReadsStart plain_start h (printed_start a) a
  start_law (a_start_declaration {h = h} {d = d} r) f = record {
    from = λ n.
        let p : Again ReadsDeclaration plain_declaration h (seen set n (printed_declaration d)) d = (declaration_law set r f).from n in
        record { height = p.height; tree = start_declaration p.tree; reads = a_start_declaration p.reads; low = p.low; same = ap start_declaration p.same };
  }
  start_law (a_start_expression {h = h} {ts = ts} {e = e} s r) f = record {
    from = λ n.
        let p : at_whole set h n e = (whole set h e (law set r tt (left (fits set) ts _ f))).from n in
        rw (seen_append set n (printed_expr e) (Punctuator 0 punctuators.Semicolon ∷ []))
        (record { height = p.height; tree = start_expression p.tree; reads = a_start_expression (n + length (printed_expr e)) p.reads; low = p.low; same = ap start_expression p.same });
  }
  start_law (no_start_at_all s) f = record { from = λ n. record { height = 0; tree = no_start; reads = no_start_at_all n; low = omega arith; same = refl } }

  abbrev at_stmt : (h n : ℕ) (s : StmtTree) → Type 0
  at_stmt h n s = Again ReadsStatement plain_stmt h (seen set n (printed_stmt s)) s

  abbrev at_items : (h n : ℕ) (ss : Stmts) → Type 0
  at_items h n ss = Again ReadsItems plain_stmts h (seen set n (printed_stmts ss)) ss

  abbrev at_switch_items : (labelled : Bool) (h n : ℕ) (ss : Stmts) → Type 0
  at_switch_items labelled h n ss = Again (ReadsSwitchItems labelled) plain_stmts h (seen set n (printed_stmts ss)) ss

  abbrev at_braces : (h n : ℕ) (ss : Stmts) → Type 0
  at_braces h n ss = Again ReadsSwitchBlock plain_stmts h (seen set n (printed_stmt (block ss))) ss

  label_law : {h : ℕ} {ts : List Terminal} {s : StmtTree} → ReadsLabel h ts s → Fit set ts → Reread set ReadsLabel plain_stmt h (printed_stmt s) s
  label_law (a_case {h = h} {ts = ts} {e = e} at c r) f = record {
    from = λ n.
        let p : at_part set 13 h (n + 1) e = (part set 13 h e (law set r tt (left (fits set) ts _ f))).from (n + 1) in
        rw (seen_append set (n + 1) (printed_part 13 e) (Punctuator 0 punctuators.Colon ∷ []))
        (record { height = suc p.height; tree = case_label (unnumbered n) p.tree; reads = a_case n (n + 1 + length (printed_part 13 e)) p.reads; low = omega arith; same = ap (case_label (unnumbered 0)) p.same });
  }
  label_law (a_default at c) f = record { from = λ n. record { height = 1; tree = default_label (unnumbered n); reads = a_default n (n + 1); low = omega arith; same = refl } }

  -- ---- statements

  mutual
    statement_law : {h : ℕ} {ts : List Terminal} {s : StmtTree} → ReadsStatement h ts s → Fit set ts → Reread set ReadsStatement plain_stmt h (printed_stmt s) s
    statement_law (a_block {h = h} {ts = ts} {ss = ss} o c r) f = record {
      from = λ n.
          let p : at_items h (n + 1) ss = (items_law r (left (fits set) ts _ f)).from (n + 1) in
          rw (seen_append set (n + 1) (printed_stmts ss) (Punctuator 0 punctuators.CloseBrace ∷ []))
          (record { height = suc p.height; tree = block p.tree; reads = a_block n (n + 1 + length (printed_stmts ss)) p.reads; low = omega arith; same = ap block p.same });
    }
    statement_law (an_empty at) f = record { from = λ n. record { height = 1; tree = empty (unnumbered n); reads = an_empty n; low = omega arith; same = refl } }
    statement_law (an_expression {h = h} {ts = ts} {e = e} s r) f = record {
      from = λ n.
          let p : at_whole set h n e = (whole set h e (law set r tt (left (fits set) ts _ f))).from n in
          rw (seen_append set n (printed_expr e) (Punctuator 0 punctuators.Semicolon ∷ []))
          (record { height = suc p.height; tree = expression (unnumbered (place (seen set n (printed_expr e)))) p.tree; reads = an_expression (n + length (printed_expr e)) p.reads; low = omega arith; same = ap (expression (unnumbered 0)) p.same });
    }
    statement_law (an_if {h = h} {k = k} {xs = xs} {e = e} {s = s} at o c r t) f = record {
      from = λ n.
          let m : ℕ = behind (n + 1) (printed_expr e) in
          let p : at_whole set h (n + 1 + 1) e = (whole set h e (law set r tt (left (fits set) xs _ f))).from (n + 1 + 1) in
          let q : at_stmt k m s = (statement_law t (right (fits set) xs _ f)).from m in
          rw (append-nil (printed_stmt s), enclosed set (n + 1) (printed_expr e) (printed_stmt s))
          (record { height = suc (max p.height q.height); tree = branch (unnumbered n) p.tree q.tree no_else; reads = an_if n (n + 1) (n + 1 + 1 + length (printed_expr e)) p.reads q.reads; low = omega arith; same = rw (p.same, q.same) refl });
    }
    statement_law (an_if_with_else {h = h} {k = k} {l = l} {xs = xs} {ys = ys} {e = e} {s = s} {t = u} at o c m r t shut v) f = record {
      from = λ n.
          let i : ℕ = behind (n + 1) (printed_expr e) in
          let j : ℕ = i + length (printed_stmt s) in
          let p : at_whole set h (n + 1 + 1) e = (whole set h e (law set r tt (left (fits set) xs _ f))).from (n + 1 + 1) in
          let q : at_stmt k i s = (statement_law t (left (fits set) ys _ (right (fits set) xs _ f))).from i in
          let w : at_stmt l (j + 1) u = (statement_law v (right (fits set) ys _ (right (fits set) xs _ f))).from (j + 1) in
          rw (enclosed set (n + 1) (printed_expr e) (printed_stmt s ++ Keyword 0 keywords.Else ∷ printed_stmt u), seen_append set i (printed_stmt s) (Keyword 0 keywords.Else ∷ printed_stmt u))
          (record {
            height = suc (max p.height (max q.height w.height));
            tree = branch (unnumbered n) p.tree q.tree (else_by w.tree);
            reads = an_if_with_else n (n + 1) (n + 1 + 1 + length (printed_expr e)) j p.reads q.reads (still_closed s q.tree q.same shut) w.reads;
            low = omega arith;
            same = rw (p.same, q.same, w.same) refl;
          });
    }
    statement_law (a_while {h = h} {k = k} {xs = xs} {e = e} {s = s} at o c r t) f = record {
      from = λ n.
          let m : ℕ = behind (n + 1) (printed_expr e) in
          let p : at_whole set h (n + 1 + 1) e = (whole set h e (law set r tt (left (fits set) xs _ f))).from (n + 1 + 1) in
          let q : at_stmt k m s = (statement_law t (right (fits set) xs _ f)).from m in
          rw (enclosed set (n + 1) (printed_expr e) (printed_stmt s))
          (record { height = suc (max p.height q.height); tree = while_loop (unnumbered n) p.tree q.tree; reads = a_while n (n + 1) (n + 1 + 1 + length (printed_expr e)) p.reads q.reads; low = omega arith; same = rw (p.same, q.same) refl });
    }
    statement_law (a_do {h = h} {k = k} {xs = xs} {ys = ys} {s = s} {e = e} at v o c z r t) f = record {
      from = λ n.
          let m : ℕ = n + 1 + length (printed_stmt s) in
          let p : at_stmt h (n + 1) s = (statement_law r (left (fits set) xs _ f)).from (n + 1) in
          let q : at_whole set k (m + 1 + 1) e = (whole set k e (law set t tt (left (fits set) ys _ (right (fits set) xs _ f)))).from (m + 1 + 1) in
          rw (seen_append set (n + 1) (printed_stmt s) (Keyword 0 keywords.While ∷ (in_parentheses (printed_expr e) ++ Punctuator 0 punctuators.Semicolon ∷ [])), enclosed set (m + 1) (printed_expr e) (Punctuator 0 punctuators.Semicolon ∷ []))
          (record { height = suc (max p.height q.height); tree = do_loop (unnumbered n) p.tree q.tree; reads = a_do n m (m + 1) (m + 1 + 1 + length (printed_expr e)) (behind (m + 1) (printed_expr e)) p.reads q.reads; low = omega arith; same = rw (p.same, q.same) refl });
    }
    statement_law (a_for {h = h} {i = i} {j = j} {k = k} {ws = ws} {xs = xs} {ys = ys} {start = a} {e = e} {u = u} {s = s} at o z c r t v w) f = record {
      from = λ n.
          let head : List Terminal = printed_start a ++ (printed_optional e ++ Punctuator 0 punctuators.Semicolon ∷ printed_optional u) in
          let x : ℕ = n + 1 + 1 + length (printed_start a) in
          let y : ℕ = x + length (printed_optional e) in
          let m : ℕ = behind (n + 1) head in
          let p : at_start h (n + 1 + 1) a = (start_law r (left (fits set) ws _ f)).from (n + 1 + 1) in
          let q : at_optional i x e = (optional_law t (left (fits set) xs _ (right (fits set) ws _ f))).from x in
          let g : at_optional j (y + 1) u = (optional_law v (left (fits set) ys _ (right (fits set) xs _ (right (fits set) ws _ f)))).from (y + 1) in
          let b : at_stmt k m s = (statement_law w (right (fits set) ys _ (right (fits set) xs _ (right (fits set) ws _ f)))).from m in
          rw (
            enclosed set (n + 1) head (printed_stmt s),
            seen_append set (n + 1 + 1) (printed_start a) (printed_optional e ++ Punctuator 0 punctuators.Semicolon ∷ printed_optional u),
            seen_append set x (printed_optional e) (Punctuator 0 punctuators.Semicolon ∷ printed_optional u),
            append_assoc (seen set (n + 1 + 1) (printed_start a)) (seen set x (printed_optional e) ++ Punctuator y punctuators.Semicolon ∷ seen set (y + 1) (printed_optional u)) (Punctuator (n + 1 + 1 + length head) punctuators.CloseParenthesis ∷ seen set m (printed_stmt s)),
            append_assoc (seen set x (printed_optional e)) (Punctuator y punctuators.Semicolon ∷ seen set (y + 1) (printed_optional u)) (Punctuator (n + 1 + 1 + length head) punctuators.CloseParenthesis ∷ seen set m (printed_stmt s)),
          )
          (record {
            height = suc (max p.height (max q.height (max g.height b.height)));
            tree = for_loop (unnumbered n) p.tree q.tree g.tree b.tree;
            reads = a_for n (n + 1) y (n + 1 + 1 + length head) p.reads q.reads g.reads b.reads;
            low = omega arith;
            same = rw (p.same, q.same, g.same, b.same) refl;
          });
    }
    statement_law (a_switch {h = h} {k = k} {xs = xs} {e = e} {ss = ss} at o c r t) f = record {
      from = λ n.
          let m : ℕ = behind (n + 1) (printed_expr e) in
          let p : at_whole set h (n + 1 + 1) e = (whole set h e (law set r tt (left (fits set) xs _ f))).from (n + 1 + 1) in
          let q : at_braces k m ss = (braces_law t (right (fits set) xs _ f)).from m in
          rw (enclosed set (n + 1) (printed_expr e) (printed_stmt (block ss)))
          (record { height = suc (max p.height q.height); tree = switch (unnumbered n) p.tree q.tree; reads = a_switch n (n + 1) (n + 1 + 1 + length (printed_expr e)) p.reads q.reads; low = omega arith; same = rw (p.same, q.same) refl });
    }
    statement_law (a_break at s) f = record { from = λ n. record { height = 1; tree = break (unnumbered n); reads = a_break n (n + 1); low = omega arith; same = refl } }
    statement_law (a_continue at s) f = record { from = λ n. record { height = 1; tree = continue (unnumbered n); reads = a_continue n (n + 1); low = omega arith; same = refl } }
    statement_law (a_return {h = h} {ts = ts} {e = e} at s r) f = record {
      from = λ n.
          let p : at_optional h (n + 1) e = (optional_law r (left (fits set) ts _ f)).from (n + 1) in
          rw (seen_append set (n + 1) (printed_optional e) (Punctuator 0 punctuators.Semicolon ∷ []))
          (record { height = suc p.height; tree = return (unnumbered n) p.tree; reads = a_return n (n + 1 + length (printed_optional e)) p.reads; low = omega arith; same = ap (return (unnumbered 0)) p.same });
    }

    item_law : {h : ℕ} {ts : List Terminal} {s : StmtTree} → ReadsItem h ts s → Fit set ts → Reread set ReadsItem plain_stmt h (printed_stmt s) s
    item_law (a_statement {h = h} {s = s} r) f = record {
      from = λ n.
          let p : at_stmt h n s = (statement_law r f).from n in
          record { height = p.height; tree = p.tree; reads = a_statement p.reads; low = p.low; same = p.same };
    }
    item_law (a_declared {h = h} {d = d} r) f = record {
      from = λ n.
          let p : Again ReadsDeclaration plain_declaration h (seen set n (printed_declaration d)) d = (declaration_law set r f).from n in
          record { height = p.height; tree = declaration p.tree; reads = a_declared p.reads; low = p.low; same = ap declaration p.same };
    }

    pub items_law : {h : ℕ} {ts : List Terminal} {ss : Stmts} → ReadsItems h ts ss → Fit set ts → Reread set ReadsItems plain_stmts h (printed_stmts ss) ss
    items_law no_item f = record { from = λ n. record { height = 0; tree = no_stmts; reads = no_item; low = omega arith; same = refl } }
    items_law (an_item {h = h} {k = k} {xs = xs} {s = s} {ss = ss} r t) f = record {
      from = λ n.
          let m : ℕ = n + length (printed_stmt s) in
          let p : Again ReadsItem plain_stmt h (seen set n (printed_stmt s)) s = (item_law r (left (fits set) xs _ f)).from n in
          let q : at_items k m ss = (items_law t (right (fits set) xs _ f)).from m in
          rw (seen_append set n (printed_stmt s) (printed_stmts ss))
          (record { height = max p.height q.height; tree = stmt_and p.tree q.tree; reads = an_item p.reads q.reads; low = omega arith; same = rw (p.same, q.same) refl });
    }

    braces_law : {h : ℕ} {ts : List Terminal} {ss : Stmts} → ReadsSwitchBlock h ts ss → Fit set ts → Reread set ReadsSwitchBlock plain_stmts h (printed_stmt (block ss)) ss
    braces_law (in_braces {h = h} {ts = ts} {ss = ss} o c r) f = record {
      from = λ n.
          let p : at_switch_items false h (n + 1) ss = (switch_items_law r (left (fits set) ts _ f)).from (n + 1) in
          rw (seen_append set (n + 1) (printed_stmts ss) (Punctuator 0 punctuators.CloseBrace ∷ []))
          (record { height = suc p.height; tree = p.tree; reads = in_braces n (n + 1 + length (printed_stmts ss)) p.reads; low = omega arith; same = p.same });
    }

    switch_item_law : {labelled labels : Bool} {h : ℕ} {ts : List Terminal} {s : StmtTree} → ReadsSwitchItem labelled labels h ts s → Fit set ts → Reread set (ReadsSwitchItem labelled labels) plain_stmt h (printed_stmt s) s
    switch_item_law (a_label {h = h} {s = s} r) f = record {
      from = λ n.
          let p : Again ReadsLabel plain_stmt h (seen set n (printed_stmt s)) s = (label_law r f).from n in
          record { height = p.height; tree = p.tree; reads = a_label p.reads; low = p.low; same = p.same };
    }
    switch_item_law (a_switch_statement {h = h} {s = s} r) f = record {
      from = λ n.
          let p : at_stmt h n s = (statement_law r f).from n in
          record { height = p.height; tree = p.tree; reads = a_switch_statement p.reads; low = p.low; same = p.same };
    }
    switch_item_law (a_switch_declaration {h = h} {d = d} r) f = record {
      from = λ n.
          let p : Again ReadsDeclaration plain_declaration h (seen set n (printed_declaration d)) d = (declaration_law set r f).from n in
          record { height = p.height; tree = declaration p.tree; reads = a_switch_declaration p.reads; low = p.low; same = ap declaration p.same };
    }

    switch_items_law : {labelled : Bool} {h : ℕ} {ts : List Terminal} {ss : Stmts} → ReadsSwitchItems labelled h ts ss → Fit set ts → Reread set (ReadsSwitchItems labelled) plain_stmts h (printed_stmts ss) ss
    switch_items_law no_switch_item f = record { from = λ n. record { height = 0; tree = no_stmts; reads = no_switch_item; low = omega arith; same = refl } }
    switch_items_law (a_switch_item {labelled = labelled} {labels = labels} {h = h} {k = k} {xs = xs} {s = s} {ss = ss} r t) f = record {
      from = λ n.
          let m : ℕ = n + length (printed_stmt s) in
          let p : Again (ReadsSwitchItem labelled labels) plain_stmt h (seen set n (printed_stmt s)) s = (switch_item_law r (left (fits set) xs _ f)).from n in
          let q : at_switch_items labels k m ss = (switch_items_law t (right (fits set) xs _ f)).from m in
          rw (seen_append set n (printed_stmt s) (printed_stmts ss))
          (record { height = max p.height q.height; tree = stmt_and p.tree q.tree; reads = a_switch_item p.reads q.reads; low = omega arith; same = rw (p.same, q.same) refl });
    }
