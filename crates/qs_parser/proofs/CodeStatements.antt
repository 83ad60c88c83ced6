-- Turns of the loops that read statements and units.
use Rattle.std.proofs.Common.{◌≡◌, ℕ, zero, suc, ◌+◌, ◌-◌, ◌<◌, ◌≤◌, cond, Bool, List, [], ◌∷◌, ◌++◌, Result, Ok, Err, Option, refl, ap, ◌∙◌, arith, Some, None, Box, Global, sym}
use Rattle.std.specs.Prelude.{max}
use Rattle.std.proofs.lemmas.List.{map_push}
use Rattle.qs_syntax_vocabulary.specs.declared.terminal.Terminal.{Terminal}
use Rattle.qs_syntax_vocabulary.specs.declared.punctuator.Punctuator.TheVariants as punctuators
use Rattle.qs_syntax.specs.Trees.{unnumbered, ExprTree, StartTree, StmtTree, for_loop, branch, no_else, else_by}
use Rattle.qs_parser_grammar.specs.Heads.{starts}
use Rattle.qs_parser_expressions.specs.View.{Fails}
use Rattle.qs_parser.specs.Turns.{TurnTree, step_and_body, turn_of}
use Rattle.qs_parser_expressions.specs.declared.halt.Halt.{Halt}
use Rattle.qs_parser_expressions.specs.declared.halt.Halt.TheVariants as halts
use Rattle.qs_parser_grammar.specs.Parse.{Parse, Stop, read_on, unexpected, deep, expect}
use Rattle.qs_parser_grammar.specs.ParseStatements.{S, optional, start_of, begins_statement, begins_label, ends_switch, after_for, item, items, switch_item, switch_items, switch_block_at, statement_at, statement, switch_block}
use Rattle.qs_syntax.specs.TreeOf.{expr_tree, stmt_tree, else_tree, stmt_step}
use Rattle.qs_syntax.specs.declared.expressions.Expr.{Expr}
use Rattle.qs_syntax.specs.declared.nodes.Node.{Node}
use Rattle.qs_syntax.specs.declared.statements.Stmt.{Stmt, Stmt-F, If, fold-roll-Stmt}
use Rattle.qs_syntax.specs.declared.statements.Stmt.TheVariants.{rolls-If}

left_turns : (n i : ℕ) → i < n → n - i ≡ suc (n - (i + 1))
left_turns n i h = omega arith

no_turns : (n i : ℕ) → n ≤ i → n - i ≡ 0
no_turns n i h = omega arith

pub statement_none : (n : ℕ) (ts : List Terminal) → n ≡ 0 → statement n ts ≡ cond (begins_statement ts) (deep ts) (unexpected ts)
unfolding statement
statement_none zero ts e = refl
statement_none (suc n) ts e = absurd (omega arith)

pub statement_more : (n : ℕ) (ts : List Terminal) → 0 < n → statement n ts ≡ statement_at (n - 1) (statement (n - 1)) (switch_block (n - 1)) ts
unfolding statement
statement_more zero ts h = absurd (omega arith)
statement_more (suc n) ts h = let e : n ≡ suc n - 1 = omega arith in ap (λ (k : ℕ). statement_at k (statement k) (switch_block k) ts) e

pub items_more : (m : ℕ) (inner : Parse S) (n i : ℕ) (done : List StmtTree) (h : ℕ) (ts : List Terminal) → i < n
    → items m inner (n - i) done h ts
    ≡ cond (starts punctuators.CloseBrace ts) (read_on (expect punctuators.CloseBrace ts) (λ _ us. Ok ((done, h), us))) (read_on (item m inner ts) (λ s us. items m inner (n - (i + 1)) (done ++ s.0 ∷ []) (max h s.1) us))
unfolding items
items_more m inner n i done h ts lt = ap (λ k. items m inner k done h ts) (left_turns n i lt)

pub items_end : (m : ℕ) (inner : Parse S) (n i : ℕ) (done : List StmtTree) (h : ℕ) (ts : List Terminal) → n ≤ i → items m inner (n - i) done h ts ≡ unexpected ts
unfolding items
items_end m inner n i done h ts le = ap (λ k. items m inner k done h ts) (no_turns n i le)

pub switch_block_more : (n : ℕ) (ts : List Terminal) → 0 < n → switch_block n ts ≡ switch_block_at (n - 1) (statement (n - 1)) ts
unfolding switch_block
switch_block_more zero ts h = absurd (omega arith)
switch_block_more (suc n) ts h = let e : n ≡ suc n - 1 = omega arith in ap (λ (k : ℕ). switch_block_at k (statement k) ts) e

pub switch_items_more : (m : ℕ) (inner : Parse S) (n i : ℕ) (labelled : Bool) (done : List StmtTree) (h : ℕ) (ts : List Terminal) → i < n
    → switch_items m inner (n - i) labelled done h ts
    ≡ cond (ends_switch labelled ts) (read_on (expect punctuators.CloseBrace ts) (λ _ us. Ok ((done, h), us))) (read_on (switch_item m inner labelled ts) (λ s us. switch_items m inner (n - (i + 1)) (begins_label ts) (done ++ s.0 ∷ []) (max h s.1) us))
unfolding switch_items
switch_items_more m inner n i labelled done h ts lt = ap (λ k. switch_items m inner k labelled done h ts) (left_turns n i lt)

pub switch_items_end : (m : ℕ) (inner : Parse S) (n i : ℕ) (labelled : Bool) (done : List StmtTree) (h : ℕ) (ts : List Terminal) → n ≤ i → switch_items m inner (n - i) labelled done h ts ≡ unexpected ts
unfolding switch_items
switch_items_end m inner n i labelled done h ts le = ap (λ k. switch_items m inner k labelled done h ts) (no_turns n i le)

-- how a `for` goes on behind its start
turn_is : (m : ℕ) (inner : Parse S) (at : ℕ) (a : StartTree × ℕ) (ts : List Terminal)
    → read_on {B = S} (optional m punctuators.Semicolon ts) (λ e us. read_on (optional m punctuators.CloseParenthesis us) (λ u vs. read_on (inner vs) (λ s ws. Ok ((for_loop (unnumbered at) a.0 e.0 u.0 s.0, max a.1 (max e.1 (max u.1 s.1)) + 1), ws))))
    ≡ read_on {B = S} (turn_of m inner ts) (λ t us. Ok ((for_loop (unnumbered at) a.0 t.0.condition t.0.step t.0.body, max a.1 t.1 + 1), us))
turn_is m inner at a ts = by_condition (optional m punctuators.Semicolon ts)
  where
    by_body : (e u : Option ExprTree × ℕ) (r : Result (S × List Terminal) Stop)
        → read_on {B = S} r (λ s ws. Ok ((for_loop (unnumbered at) a.0 e.0 u.0 s.0, max a.1 (max e.1 (max u.1 s.1)) + 1), ws))
        ≡ read_on {B = S} (read_on {B = TurnTree × ℕ} (read_on {B = (Option ExprTree × StmtTree) × ℕ} r (λ s ws. Ok (((u.0, s.0), max u.1 s.1), ws))) (λ b ws. Ok ((record { condition = e.0; step = b.0.0; body = b.0.1 }, max e.1 b.1), ws))) (λ t ws. Ok ((for_loop (unnumbered at) a.0 t.0.condition t.0.step t.0.body, max a.1 t.1 + 1), ws))
    by_body e u (Ok x) = refl
    by_body e u (Err x) = refl

    by_step : (e : Option ExprTree × ℕ) (r : Result ((Option ExprTree × ℕ) × List Terminal) Stop)
        → read_on {B = S} r (λ u vs. read_on (inner vs) (λ s ws. Ok ((for_loop (unnumbered at) a.0 e.0 u.0 s.0, max a.1 (max e.1 (max u.1 s.1)) + 1), ws)))
        ≡ read_on {B = S} (read_on {B = TurnTree × ℕ} (read_on {B = (Option ExprTree × StmtTree) × ℕ} r (λ u vs. read_on (inner vs) (λ s ws. Ok (((u.0, s.0), max u.1 s.1), ws)))) (λ b ws. Ok ((record { condition = e.0; step = b.0.0; body = b.0.1 }, max e.1 b.1), ws))) (λ t ws. Ok ((for_loop (unnumbered at) a.0 t.0.condition t.0.step t.0.body, max a.1 t.1 + 1), ws))
    by_step e (Ok x) = by_body e x.0 (inner x.1)
    by_step e (Err x) = refl

    by_condition : (r : Result ((Option ExprTree × ℕ) × List Terminal) Stop)
        → read_on {B = S} r (λ e us. read_on (optional m punctuators.CloseParenthesis us) (λ u vs. read_on (inner vs) (λ s ws. Ok ((for_loop (unnumbered at) a.0 e.0 u.0 s.0, max a.1 (max e.1 (max u.1 s.1)) + 1), ws))))
        ≡ read_on {B = S} (read_on {B = TurnTree × ℕ} r (λ e us. read_on (step_and_body m inner us) (λ b ws. Ok ((record { condition = e.0; step = b.0.0; body = b.0.1 }, max e.1 b.1), ws)))) (λ t ws. Ok ((for_loop (unnumbered at) a.0 t.0.condition t.0.step t.0.body, max a.1 t.1 + 1), ws))
    by_condition (Ok x) = by_step x.0 (optional m punctuators.CloseParenthesis x.1)
    by_condition (Err x) = refl

for_goes : (m : ℕ) (inner : Parse S) (at : ℕ) (ts us vs : List Terminal) (a : StartTree × ℕ) → expect punctuators.OpenParenthesis ts ≡ Ok (tt, us) → start_of m us ≡ Ok (a, vs)
    → after_for m inner at ts ≡ read_on {B = S} (turn_of m inner vs) (λ t ws. Ok ((for_loop (unnumbered at) a.0 t.0.condition t.0.step t.0.body, max a.1 t.1 + 1), ws))
for_goes m inner at ts us vs a p q = rw (p, q) (turn_is m inner at a vs)

fails_with : (halt : Halt) (given : Result (S × List Terminal) Stop) (r : Result ((TurnTree × ℕ) × List Terminal) Stop) (f : TurnTree × ℕ → Parse S) → given ≡ read_on r f → Fails halt r → Fails halt given
fails_with halts.NoMemory given r f e h = tt
fails_with (halts.Unexpected left) given r f e h = e ∙ ap (λ (x : Result ((TurnTree × ℕ) × List Terminal) Stop). read_on x f) h
fails_with (halts.TooDeep left) given r f e h = e ∙ ap (λ (x : Result ((TurnTree × ℕ) × List Terminal) Stop). read_on x f) h

pub for_fails : (m : ℕ) (inner : Parse S) (at : ℕ) (ts us vs : List Terminal) (a : StartTree × ℕ) (halt : Halt) → expect punctuators.OpenParenthesis ts ≡ Ok (tt, us) → start_of m us ≡ Ok (a, vs) → Fails halt (turn_of m inner vs) → Fails halt (after_for m inner at ts)
for_fails m inner at ts us vs a halt p q h =
    fails_with halt (after_for m inner at ts) (turn_of m inner vs) (λ t ws. Ok ((for_loop (unnumbered at) a.0 t.0.condition t.0.step t.0.body, max a.1 t.1 + 1), ws)) (for_goes m inner at ts us vs a p q) h

pub for_ends : (m : ℕ) (inner : Parse S) (at : ℕ) (ts us vs ws : List Terminal) (a : StartTree × ℕ) (t : TurnTree × ℕ) (node : StmtTree) (h : ℕ)
    → expect punctuators.OpenParenthesis ts ≡ Ok (tt, us) → start_of m us ≡ Ok (a, vs) → turn_of m inner vs ≡ Ok (t, ws) → node ≡ for_loop (unnumbered at) a.0 t.0.condition t.0.step t.0.body → h ≡ max a.1 t.1 → after_for m inner at ts ≡ Ok ((node, h + 1), ws)
for_ends m inner at ts us vs ws a t node h p q r is high = for_goes m inner at ts us vs a p q ∙ (rw r (rw (is, high) refl))

pub ruleset statement_cases = (statement_none, statement_more)

pub ruleset item_steps = (items_more, items_end, map_push)

pub ruleset switch_steps = (switch_items_more, switch_items_end, map_push)

pub ruleset block_cases = (switch_block_more)

-- ---- the tree of an `if`

tree_alone : (n : Node) (e : Expr) (s : Box Stmt Global) → stmt_tree (If n e s None) ≡ branch n (expr_tree e) (stmt_tree s.value) no_else
tree_alone n e s = ap stmt_tree (sym (rolls-If n e s None)) ∙ fold-roll-Stmt StmtTree stmt_step (Stmt-F.If n e s None)

tree_else : (n : Node) (e : Expr) (s t : Box Stmt Global) → stmt_tree (If n e s (Some t)) ≡ branch n (expr_tree e) (stmt_tree s.value) (else_by (stmt_tree t.value))
tree_else n e s t = ap stmt_tree (sym (rolls-If n e s (Some t))) ∙ fold-roll-Stmt StmtTree stmt_step (Stmt-F.If n e s (Some t))

pub tree_of_if : (n : Node) (e : Expr) (s : Box Stmt Global) (o : Option (Box Stmt Global)) → stmt_tree (If n e s o) ≡ branch n (expr_tree e) (stmt_tree s.value) (else_tree o)
tree_of_if n e s None = tree_alone n e s
tree_of_if n e s (Some t) = tree_else n e s t
