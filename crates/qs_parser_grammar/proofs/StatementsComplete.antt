-- What has a reading as a statement is read so, where no `else` follows that would belong to it.
use Rattle.std.proofs.Common.{◌≡◌, ℕ, zero, suc, ◌+◌, ◌<◌, ◌≤◌, max, List, [], ◌∷◌, ◌++◌, length, Result, Ok, Option, refl, sym, ap, ◌∙◌, append_assoc, add-one, length-append, Bool, true, false, true≢false, arith}
use Rattle.std.specs.Prelude.{◌-◌, ◌==◌, not, ◌&&◌}
use Rattle.std.proofs.lemmas.Bool.{false_from_ne_true, le-leb, ne_eqb}
use Rattle.qs_syntax_vocabulary.specs.declared.terminal.Terminal.{Terminal}
use Rattle.qs_syntax_vocabulary.specs.declared.terminal.Terminal.TheVariants.{Keyword, Punctuator}
use Rattle.qs_base.specs.declared.keyword.Keyword as key
use Rattle.qs_base.specs.declared.keyword.Keyword.TheVariants as keywords
use Rattle.qs_syntax_vocabulary.specs.declared.punctuator.Punctuator as punctuator
use Rattle.qs_syntax_vocabulary.specs.declared.punctuator.Punctuator.TheVariants as punctuators
use Rattle.qs_syntax.specs.Trees.{unnumbered, ExprTree, DeclarationTree, StartTree, StmtTree, expression, declaration, block, switch, while_loop, do_loop, for_loop, return, else_by, Stmts, no_stmts, stmt_and, stmts_of, branch, no_else}
use Rattle.qs_syntax_vocabulary.specs.Operators.{comma_precedence}
use Rattle.qs_syntax.specs.Reads.{Reads, Conditional, Expression, place}
use Rattle.qs_syntax.specs.ReadsDeclarations.{ReadsDeclaration}
use Rattle.qs_syntax.specs.ReadsStatements.{is_open, ReadsOptional, nothing_there, something_there, ReadsStart, a_start_declaration, a_start_expression, no_start_at_all, ReadsStatement, a_block, an_empty, an_expression, an_if, an_if_with_else, a_while, a_do, a_for, a_switch, a_break, a_continue, a_return, ReadsItem, a_statement, a_declared, ReadsItems, no_item, an_item, ReadsLabel, a_case, a_default, ReadsSwitchBlock, in_braces, ReadsSwitchItem, a_label, a_switch_statement, a_switch_declaration, ReadsSwitchItems, no_switch_item, a_switch_item}
use Rattle.qs_parser_grammar.specs.Heads.{starts, starts_with, begins_type}
use Rattle.qs_parser_grammar.specs.Parse.{Stop, Parse, read_on, expect, E, begins_one, part}
use Rattle.qs_parser_grammar.specs.ParseStatements.{S, optional, condition, start_of, begins_label, item, items, switch_item, switch_items, after_then, statement_at, statement, switch_block}
use Rattle.qs_parser_grammar.specs.Stops.{precedence_at}
use Rattle.qs_parser_grammar.proofs.HeadsLaws.{starts_with_is}
use Rattle.qs_parser_grammar.proofs.ExpressionsBegin.{begins, begins_no_type, place_more, high}
use Rattle.qs_parser_grammar.proofs.ExpressionsComplete.{finds}
use Rattle.qs_parser_grammar.proofs.DeclarationsComplete.{Items, nothing_more, one_more, from_zero, has_room, not_begun, not_typed, finds_declaration, declaration_begins}
use Rattle.qs_parser_grammar.proofs.StatementsSound.{NoElse}

-- an expression before a punctuator
found : {h : ℕ} {ts : List Terminal} {e : ExprTree} → Reads Expression h ts e → (m : ℕ) → h ≤ m → (at : ℕ) (k : punctuator.Punctuator) (rest : List Terminal) → comma_precedence < precedence_at (Punctuator at k ∷ rest) → part m Expression (ts ++ Punctuator at k ∷ rest) ≡ Ok ((e, h), Punctuator at k ∷ rest)
found {h} {ts} {e} r m le at k rest stop = finds m Expression h ts e r le (Punctuator at k ∷ rest) stop

-- a keyword that begins no expression does not stand where one begins
not_begun_with : (k : key.Keyword) → ((at : ℕ) (us : List Terminal) → begins_one (Keyword at k ∷ us) ≡ false) → (ts : List Terminal) → begins_one ts ≡ true → starts_with k ts ≡ false
not_begun_with k no_keyword ts e = false_from_ne_true (starts_with k ts) (λ s. let is = starts_with_is k ts s in true≢false (sym e ∙ ap begins_one is.2 ∙ no_keyword is.0 is.1))

-- ---- the parts of statements

finds_condition : {h : ℕ} {xs : List Terminal} {e : ExprTree} → Reads Expression h xs e → (m : ℕ) → h ≤ m → (o c : ℕ) (rest : List Terminal) → condition m (Punctuator o punctuators.OpenParenthesis ∷ (xs ++ Punctuator c punctuators.CloseParenthesis ∷ rest)) ≡ Ok ((e, h), rest)
finds_condition r m le o c rest = rw (found r m le c punctuators.CloseParenthesis rest (omega arith)) refl

finds_optional_semicolon : {h : ℕ} {ts : List Terminal} {e : Option ExprTree} → ReadsOptional h ts e → (m : ℕ) → h ≤ m → (s : ℕ) (rest : List Terminal) → optional m punctuators.Semicolon (ts ++ Punctuator s punctuators.Semicolon ∷ rest) ≡ Ok ((e, h), rest)
finds_optional_semicolon nothing_there m le s rest = refl
finds_optional_semicolon (something_there {ts = ts} r) m le s rest =
    rw (not_begun punctuators.Semicolon (λ at us. refl) (ts ++ Punctuator s punctuators.Semicolon ∷ rest) (begins r (Punctuator s punctuators.Semicolon ∷ rest)), found r m le s punctuators.Semicolon rest (omega arith)) refl

finds_optional_close : {h : ℕ} {ts : List Terminal} {e : Option ExprTree} → ReadsOptional h ts e → (m : ℕ) → h ≤ m → (c : ℕ) (rest : List Terminal) → optional m punctuators.CloseParenthesis (ts ++ Punctuator c punctuators.CloseParenthesis ∷ rest) ≡ Ok ((e, h), rest)
finds_optional_close nothing_there m le c rest = refl
finds_optional_close (something_there {ts = ts} r) m le c rest =
    rw (not_begun punctuators.CloseParenthesis (λ at us. refl) (ts ++ Punctuator c punctuators.CloseParenthesis ∷ rest) (begins r (Punctuator c punctuators.CloseParenthesis ∷ rest)), found r m le c punctuators.CloseParenthesis rest (omega arith)) refl

finds_start : {h : ℕ} {ts : List Terminal} {a : StartTree} → ReadsStart h ts a → (m : ℕ) → h ≤ m → (rest : List Terminal) → start_of m (ts ++ rest) ≡ Ok ((a, h), rest)
finds_start (a_start_declaration r) m le rest = rw (declaration_begins r rest, finds_declaration r m le rest) refl
finds_start (a_start_expression {ts = ts} s r) m le rest =
    rw (append_assoc ts (Punctuator s punctuators.Semicolon ∷ []) rest, begins_no_type r (Punctuator s punctuators.Semicolon ∷ rest), not_begun punctuators.Semicolon (λ at us. refl) (ts ++ Punctuator s punctuators.Semicolon ∷ rest) (begins r (Punctuator s punctuators.Semicolon ∷ rest)), found r m le s punctuators.Semicolon rest (omega arith)) refl
finds_start (no_start_at_all s) m le rest = refl

-- ---- how statements begin

-- a statement begins neither a type, nor with `else`, nor with a label, nor with the brace at the end of a block
record Begins (ts : List Terminal) : Type 0 where
  no_type : begins_type ts ≡ false
  no_else : starts_with keywords.Else ts ≡ false
  no_case : starts_with keywords.Case ts ≡ false
  no_default : starts_with keywords.Default ts ≡ false
  no_end : starts punctuators.CloseBrace ts ≡ false

expression_begins : {h : ℕ} {ts : List Terminal} {e : ExprTree} → Reads Expression h ts e → (us : List Terminal) → Begins (ts ++ us)
expression_begins {h} {ts} r us = record {
  no_type = begins_no_type r us;
  no_else = not_begun_with keywords.Else (λ at us. refl) (ts ++ us) (begins r us);
  no_case = not_begun_with keywords.Case (λ at us. refl) (ts ++ us) (begins r us);
  no_default = not_begun_with keywords.Default (λ at us. refl) (ts ++ us) (begins r us);
  no_end = not_begun punctuators.CloseBrace (λ at us. refl) (ts ++ us) (begins r us);
}

statement_begins : {h : ℕ} {ts : List Terminal} {s : StmtTree} → ReadsStatement h ts s → (us : List Terminal) → Begins (ts ++ us)
statement_begins (a_block o c r) us = record { no_type = refl; no_else = refl; no_case = refl; no_default = refl; no_end = refl }
statement_begins (an_empty at) us = record { no_type = refl; no_else = refl; no_case = refl; no_default = refl; no_end = refl }
statement_begins (an_expression {ts = ts} s r) us = rw (append_assoc ts (Punctuator s punctuators.Semicolon ∷ []) us) (expression_begins r (Punctuator s punctuators.Semicolon ∷ us))
statement_begins (an_if at o c r q) us = record { no_type = refl; no_else = refl; no_case = refl; no_default = refl; no_end = refl }
statement_begins (an_if_with_else at o c n r q f p) us = record { no_type = refl; no_else = refl; no_case = refl; no_default = refl; no_end = refl }
statement_begins (a_while at o c r q) us = record { no_type = refl; no_else = refl; no_case = refl; no_default = refl; no_end = refl }
statement_begins (a_do at w o c n q r) us = record { no_type = refl; no_else = refl; no_case = refl; no_default = refl; no_end = refl }
statement_begins (a_for at o n c a r q p) us = record { no_type = refl; no_else = refl; no_case = refl; no_default = refl; no_end = refl }
statement_begins (a_switch at o c r q) us = record { no_type = refl; no_else = refl; no_case = refl; no_default = refl; no_end = refl }
statement_begins (a_break at s) us = record { no_type = refl; no_else = refl; no_case = refl; no_default = refl; no_end = refl }
statement_begins (a_continue at s) us = record { no_type = refl; no_else = refl; no_case = refl; no_default = refl; no_end = refl }
statement_begins (a_return at s r) us = record { no_type = refl; no_else = refl; no_case = refl; no_default = refl; no_end = refl }

-- a keyword that begins no type does not stand where one begins
not_typed_with : (k : key.Keyword) → ((at : ℕ) (us : List Terminal) → begins_type (Keyword at k ∷ us) ≡ false) → (ts : List Terminal) → begins_type ts ≡ true → starts_with k ts ≡ false
not_typed_with k no_keyword ts e = false_from_ne_true (starts_with k ts) (λ s. let is = starts_with_is k ts s in true≢false (sym e ∙ ap begins_type is.2 ∙ no_keyword is.0 is.1))

no_else_typed : (ts : List Terminal) → begins_type ts ≡ true → NoElse ts
no_else_typed = not_typed_with keywords.Else (λ at us. refl)

no_case_typed : (ts : List Terminal) → begins_type ts ≡ true → starts_with keywords.Case ts ≡ false
no_case_typed = not_typed_with keywords.Case (λ at us. refl)

no_default_typed : (ts : List Terminal) → begins_type ts ≡ true → starts_with keywords.Default ts ≡ false
no_default_typed = not_typed_with keywords.Default (λ at us. refl)

item_no_else : {h : ℕ} {ts : List Terminal} {s : StmtTree} → ReadsItem h ts s → (us : List Terminal) → NoElse (ts ++ us)
item_no_else (a_statement r) us = (statement_begins r us).no_else
item_no_else (a_declared {ts = ts} r) us = no_else_typed (ts ++ us) (declaration_begins r us)

item_no_end : {h : ℕ} {ts : List Terminal} {s : StmtTree} → ReadsItem h ts s → (us : List Terminal) → starts punctuators.CloseBrace (ts ++ us) ≡ false
item_no_end (a_statement r) us = (statement_begins r us).no_end
item_no_end (a_declared {ts = ts} r) us = not_typed punctuators.CloseBrace (ts ++ us) (declaration_begins r us)

-- no `else` follows items before the brace at their end
items_no_else : {h : ℕ} {ts : List Terminal} {ss : Stmts} → ReadsItems h ts ss → (c : ℕ) (us : List Terminal) → NoElse (ts ++ Punctuator c punctuators.CloseBrace ∷ us)
items_no_else no_item c us = refl
items_no_else (an_item {xs = xs} {ys = ys} r s) c us = rw (append_assoc xs ys (Punctuator c punctuators.CloseBrace ∷ us)) (item_no_else r (ys ++ Punctuator c punctuators.CloseBrace ∷ us))

-- what an item of a switch begins with
label_no_else : {h : ℕ} {ts : List Terminal} {s : StmtTree} → ReadsLabel h ts s → (us : List Terminal) → NoElse (ts ++ us)
label_no_else (a_case at c r) us = refl
label_no_else (a_default at c) us = refl

label_no_end : {h : ℕ} {ts : List Terminal} {s : StmtTree} → ReadsLabel h ts s → (us : List Terminal) → starts punctuators.CloseBrace (ts ++ us) ≡ false
label_no_end (a_case at c r) us = refl
label_no_end (a_default at c) us = refl

label_begins : {h : ℕ} {ts : List Terminal} {s : StmtTree} → ReadsLabel h ts s → (us : List Terminal) → begins_label (ts ++ us) ≡ true
label_begins (a_case at c r) us = refl
label_begins (a_default at c) us = refl

switch_item_no_else : {labelled labels : Bool} {h : ℕ} {ts : List Terminal} {s : StmtTree} → ReadsSwitchItem labelled labels h ts s → (us : List Terminal) → NoElse (ts ++ us)
switch_item_no_else (a_label r) us = label_no_else r us
switch_item_no_else (a_switch_statement r) us = (statement_begins r us).no_else
switch_item_no_else (a_switch_declaration {ts = ts} r) us = no_else_typed (ts ++ us) (declaration_begins r us)

switch_item_no_end : {labelled labels : Bool} {h : ℕ} {ts : List Terminal} {s : StmtTree} → ReadsSwitchItem labelled labels h ts s → (us : List Terminal) → starts punctuators.CloseBrace (ts ++ us) ≡ false
switch_item_no_end (a_label r) us = label_no_end r us
switch_item_no_end (a_switch_statement r) us = (statement_begins r us).no_end
switch_item_no_end (a_switch_declaration {ts = ts} r) us = not_typed punctuators.CloseBrace (ts ++ us) (declaration_begins r us)

switch_item_labels : {labelled labels : Bool} {h : ℕ} {ts : List Terminal} {s : StmtTree} → ReadsSwitchItem labelled labels h ts s → (us : List Terminal) → begins_label (ts ++ us) ≡ labels
switch_item_labels (a_label r) us = label_begins r us
switch_item_labels (a_switch_statement r) us = rw ((statement_begins r us).no_case, (statement_begins r us).no_default) refl
switch_item_labels (a_switch_declaration {ts = ts} r) us = rw (no_case_typed (ts ++ us) (declaration_begins r us), no_default_typed (ts ++ us) (declaration_begins r us)) refl

switch_items_no_else : {labelled : Bool} {h : ℕ} {ts : List Terminal} {ss : Stmts} → ReadsSwitchItems labelled h ts ss → (c : ℕ) (us : List Terminal) → NoElse (ts ++ Punctuator c punctuators.CloseBrace ∷ us)
switch_items_no_else no_switch_item c us = refl
switch_items_no_else (a_switch_item {xs = xs} {ys = ys} r s) c us = rw (append_assoc xs ys (Punctuator c punctuators.CloseBrace ∷ us)) (switch_item_no_else r (ys ++ Punctuator c punctuators.CloseBrace ∷ us))

-- a statement takes a token at least, and is a level at least
statement_high : {h : ℕ} {ts : List Terminal} {s : StmtTree} → ReadsStatement h ts s → 0 < h
statement_high (a_block o c r) = omega arith
statement_high (an_empty at) = omega arith
statement_high (an_expression s r) = omega arith
statement_high (an_if at o c r q) = omega arith
statement_high (an_if_with_else at o c n r q f p) = omega arith
statement_high (a_while at o c r q) = omega arith
statement_high (a_do at w o c n q r) = omega arith
statement_high (a_for at o n c a r q p) = omega arith
statement_high (a_switch at o c r q) = omega arith
statement_high (a_break at s) = omega arith
statement_high (a_continue at s) = omega arith
statement_high (a_return at s r) = omega arith

-- where the brace does not stand at the front, something does
some_token : (ts us : List Terminal) (c : ℕ) → starts punctuators.CloseBrace (ts ++ Punctuator c punctuators.CloseBrace ∷ us) ≡ false → 0 < length ts
some_token [] us c e = absurd (true≢false e)
some_token (t ∷ ts) us c e = omega arith

-- ---- statements

abbrev Out : Type 0
Out = Result (S × List Terminal) Stop

-- what reading comes to where m levels are left for parts
abbrev Claim : ℕ → List Terminal → StmtTree → Type 0
Claim h f s = (m : ℕ) → h ≤ suc m → (rest : List Terminal) → (is_open s ≡ true → NoElse rest) → statement_at m (statement m) (switch_block m) (f ++ rest) ≡ Ok ((s, h), rest)

finds_at : (h : ℕ) (f : List Terminal) (s : StmtTree) → 0 < h → Claim h f s → (n : ℕ) → h ≤ n → (rest : List Terminal) → (is_open s ≡ true → NoElse rest) → statement n (f ++ rest) ≡ Ok ((s, h), rest)
unfolding statement
finds_at h f s p c zero le rest stop = absurd (omega arith)
finds_at h f s p c (suc m) le rest stop = c m le rest stop

abbrev ItemClaim : ℕ → List Terminal → StmtTree → Type 0
ItemClaim h f s = (m : ℕ) → h ≤ m → (rest : List Terminal) → (is_open s ≡ true → NoElse rest) → item m (statement m) (f ++ rest) ≡ Ok ((s, h), rest)

-- the items of a block
abbrev items_in : Stmts → List StmtTree
items_in no_stmts = []
items_in (stmt_and s ss) = s ∷ items_in ss

items_back : (ss : Stmts) → stmts_of (items_in ss) ≡ ss
items_back no_stmts = refl
items_back (stmt_and s ss) = ap (stmt_and s) (items_back ss)

abbrev ItemsClaim : ℕ → List Terminal → Stmts → Type 0
ItemsClaim h f ss = (m n : ℕ) → h ≤ m → length f < n → (done : List StmtTree) (j c : ℕ) (rest : List Terminal) → items m (statement m) n done j (f ++ Punctuator c punctuators.CloseBrace ∷ rest) ≡ Items (done ++ items_in ss) (max j h) rest

block_answer : (h : ℕ) (ss : Stmts) (rest : List Terminal) → ◌≡◌ {A = Out} (Ok ((block (stmts_of (items_in ss)), max 0 h + 1), rest)) (Ok ((block ss, suc h), rest))
block_answer h ss rest = rw (items_back ss, from_zero h, add-one h) refl

for_block : (h : ℕ) (ts : List Terminal) (ss : Stmts) (o c : ℕ) → ItemsClaim h ts ss → Claim (suc h) (Punctuator o punctuators.OpenBrace ∷ (ts ++ Punctuator c punctuators.CloseBrace ∷ [])) (block ss)
for_block h ts ss o c r m le rest stop =
    rw (append_assoc ts (Punctuator c punctuators.CloseBrace ∷ []) rest, r m (length (ts ++ Punctuator c punctuators.CloseBrace ∷ rest)) (omega arith) (omega (arith, length-append ts (Punctuator c punctuators.CloseBrace ∷ rest))) [] 0 c rest) (block_answer h ss rest)

-- tokens that begin an expression are read as one
running_at : (m : ℕ) (p : Parse S) (braces : Parse (List StmtTree × ℕ)) (ts : List Terminal) → begins_one ts ≡ true → statement_at m p braces ts ≡ read_on (part m Expression ts) (λ e us. read_on (expect punctuators.Semicolon us) (λ _ vs. Ok ((expression (unnumbered (place ts)) e.0, e.1 + 1), vs)))
running_at m p braces [] e = absurd (true≢false (sym e))
running_at m p braces (t ∷ ts) e =
    rw (
      not_begun punctuators.Semicolon (λ at us. refl) (t ∷ ts) e,
      not_begun punctuators.OpenBrace (λ at us. refl) (t ∷ ts) e,
      not_begun_with keywords.If (λ at us. refl) (t ∷ ts) e,
      not_begun_with keywords.While (λ at us. refl) (t ∷ ts) e,
      not_begun_with keywords.Do (λ at us. refl) (t ∷ ts) e,
      not_begun_with keywords.For (λ at us. refl) (t ∷ ts) e,
      not_begun_with keywords.Switch (λ at us. refl) (t ∷ ts) e,
      not_begun_with keywords.Break (λ at us. refl) (t ∷ ts) e,
      not_begun_with keywords.Continue (λ at us. refl) (t ∷ ts) e,
      not_begun_with keywords.Return (λ at us. refl) (t ∷ ts) e,
    ) refl

for_expression : (h : ℕ) (ts : List Terminal) (e : ExprTree) (s : ℕ) → Reads Expression h ts e → Claim (suc h) (ts ++ Punctuator s punctuators.Semicolon ∷ []) (expression (unnumbered (place ts)) e)
for_expression h ts e s r m le rest stop =
    ap (statement_at m (statement m) (switch_block m)) (append_assoc ts (Punctuator s punctuators.Semicolon ∷ []) rest)
    ∙ running_at m (statement m) (switch_block m) (ts ++ Punctuator s punctuators.Semicolon ∷ rest) (begins r (Punctuator s punctuators.Semicolon ∷ rest))
    ∙ rw (found r m (omega arith) s punctuators.Semicolon rest (omega arith), place_more r (Punctuator s punctuators.Semicolon ∷ rest), add-one h) refl

no_else_then : (m : ℕ) (p : Parse S) (at : ℕ) (e : E) (s : S) (rest : List Terminal) → NoElse rest → after_then m p at e s rest ≡ Ok ((branch (unnumbered at) e.0 s.0 no_else, max e.1 s.1 + 1), rest)
no_else_then m p at e s rest none = rw none refl

for_if : (h k : ℕ) (xs ys : List Terminal) (e : ExprTree) (s : StmtTree) (at o c : ℕ) → Reads Expression h xs e → 0 < k → Claim k ys s
    → Claim (suc (max h k)) (Keyword at keywords.If ∷ Punctuator o punctuators.OpenParenthesis ∷ (xs ++ Punctuator c punctuators.CloseParenthesis ∷ ys)) (branch (unnumbered at) e s no_else)
for_if h k xs ys e s at o c r p q zero le rest stop = let some = high r in absurd (omega arith)
for_if h k xs ys e s at o c r p q (suc m) le rest stop =
    rw (has_room m, append_assoc xs (Punctuator c punctuators.CloseParenthesis ∷ ys) rest, finds_condition r (suc m) (omega arith) o c (ys ++ rest), finds_at k ys s p q (suc m) (omega arith) rest (λ _. stop refl))
    (no_else_then (suc m) (statement (suc m)) at (e, h) (s, k) rest (stop refl) ∙ rw (add-one (max h k)) refl)

closed_takes_none : (s : StmtTree) (ts : List Terminal) → is_open s ≡ false → is_open s ≡ true → NoElse ts
closed_takes_none s ts p q = absurd (true≢false (sym q ∙ p))

for_if_with_else : (h k l : ℕ) (xs ys zs : List Terminal) (e : ExprTree) (s t : StmtTree) (at o c n : ℕ) → Reads Expression h xs e → 0 < k → Claim k ys s → is_open s ≡ false → 0 < l → Claim l zs t
    → Claim (suc (max h (max k l))) (Keyword at keywords.If ∷ Punctuator o punctuators.OpenParenthesis ∷ (xs ++ Punctuator c punctuators.CloseParenthesis ∷ (ys ++ Keyword n keywords.Else ∷ zs))) (branch (unnumbered at) e s (else_by t))
for_if_with_else h k l xs ys zs e s t at o c n r p q closed p2 z zero le rest stop = let some = high r in absurd (omega arith)
for_if_with_else h k l xs ys zs e s t at o c n r p q closed p2 z (suc m) le rest stop =
    rw (
      has_room m,
      append_assoc xs (Punctuator c punctuators.CloseParenthesis ∷ (ys ++ Keyword n keywords.Else ∷ zs)) rest,
      append_assoc ys (Keyword n keywords.Else ∷ zs) rest,
      finds_condition r (suc m) (omega arith) o c (ys ++ Keyword n keywords.Else ∷ (zs ++ rest)),
      finds_at k ys s p q (suc m) (omega arith) (Keyword n keywords.Else ∷ (zs ++ rest)) (closed_takes_none s (Keyword n keywords.Else ∷ (zs ++ rest)) closed),
      finds_at l zs t p2 z (suc m) (omega arith) rest stop,
      add-one (max h (max k l)),
    ) refl

for_while : (h k : ℕ) (xs ys : List Terminal) (e : ExprTree) (s : StmtTree) (at o c : ℕ) → Reads Expression h xs e → 0 < k → Claim k ys s
    → Claim (suc (max h k)) (Keyword at keywords.While ∷ Punctuator o punctuators.OpenParenthesis ∷ (xs ++ Punctuator c punctuators.CloseParenthesis ∷ ys)) (while_loop (unnumbered at) e s)
for_while h k xs ys e s at o c r p q zero le rest stop = let some = high r in absurd (omega arith)
for_while h k xs ys e s at o c r p q (suc m) le rest stop =
    rw (has_room m, append_assoc xs (Punctuator c punctuators.CloseParenthesis ∷ ys) rest, finds_condition r (suc m) (omega arith) o c (ys ++ rest), finds_at k ys s p q (suc m) (omega arith) rest stop, add-one (max h k)) refl

for_do : (h k : ℕ) (xs ys : List Terminal) (s : StmtTree) (e : ExprTree) (at w o c n : ℕ) → 0 < h → Claim h xs s → Reads Expression k ys e
    → Claim (suc (max h k)) (Keyword at keywords.Do ∷ (xs ++ Keyword w keywords.While ∷ Punctuator o punctuators.OpenParenthesis ∷ (ys ++ Punctuator c punctuators.CloseParenthesis ∷ Punctuator n punctuators.Semicolon ∷ []))) (do_loop (unnumbered at) s e)
for_do h k xs ys s e at w o c n p q r zero le rest stop = let some = high r in absurd (omega arith)
for_do h k xs ys s e at w o c n p q r (suc m) le rest stop =
    rw (
      has_room m,
      append_assoc xs (Keyword w keywords.While ∷ Punctuator o punctuators.OpenParenthesis ∷ (ys ++ Punctuator c punctuators.CloseParenthesis ∷ Punctuator n punctuators.Semicolon ∷ [])) rest,
      append_assoc ys (Punctuator c punctuators.CloseParenthesis ∷ Punctuator n punctuators.Semicolon ∷ []) rest,
      finds_at h xs s p q (suc m) (omega arith) (Keyword w keywords.While ∷ Punctuator o punctuators.OpenParenthesis ∷ (ys ++ Punctuator c punctuators.CloseParenthesis ∷ Punctuator n punctuators.Semicolon ∷ rest)) (λ _. refl),
      finds_condition r (suc m) (omega arith) o c (Punctuator n punctuators.Semicolon ∷ rest),
      add-one (max h k),
    ) refl

for_for : (h i j k : ℕ) (ws xs ys zs : List Terminal) (a : StartTree) (e u : Option ExprTree) (s : StmtTree) (at o n c : ℕ) → ReadsStart h ws a → ReadsOptional i xs e → ReadsOptional j ys u → 0 < k → Claim k zs s
    → Claim (suc (max h (max i (max j k)))) (Keyword at keywords.For ∷ Punctuator o punctuators.OpenParenthesis ∷ (ws ++ (xs ++ Punctuator n punctuators.Semicolon ∷ (ys ++ Punctuator c punctuators.CloseParenthesis ∷ zs)))) (for_loop (unnumbered at) a e u s)
for_for h i j k ws xs ys zs a e u s at o n c r1 r2 r3 p q zero le rest stop = absurd (omega arith)
for_for h i j k ws xs ys zs a e u s at o n c r1 r2 r3 p q (suc m) le rest stop =
    rw (
      has_room m,
      append_assoc ws (xs ++ Punctuator n punctuators.Semicolon ∷ (ys ++ Punctuator c punctuators.CloseParenthesis ∷ zs)) rest,
      append_assoc xs (Punctuator n punctuators.Semicolon ∷ (ys ++ Punctuator c punctuators.CloseParenthesis ∷ zs)) rest,
      append_assoc ys (Punctuator c punctuators.CloseParenthesis ∷ zs) rest,
      finds_start r1 (suc m) (omega arith) (xs ++ Punctuator n punctuators.Semicolon ∷ (ys ++ Punctuator c punctuators.CloseParenthesis ∷ (zs ++ rest))),
      finds_optional_semicolon r2 (suc m) (omega arith) n (ys ++ Punctuator c punctuators.CloseParenthesis ∷ (zs ++ rest)),
      finds_optional_close r3 (suc m) (omega arith) c (zs ++ rest),
      finds_at k zs s p q (suc m) (omega arith) rest stop,
      add-one (max h (max i (max j k))),
    ) refl

-- ---- switches

abbrev SwitchItemClaim : Bool → ℕ → List Terminal → StmtTree → Type 0
SwitchItemClaim labelled h f s = (m : ℕ) → h ≤ m → (rest : List Terminal) → (is_open s ≡ true → NoElse rest) → switch_item m (statement m) labelled (f ++ rest) ≡ Ok ((s, h), rest)

abbrev SwitchItemsClaim : Bool → ℕ → List Terminal → Stmts → Type 0
SwitchItemsClaim labelled h f ss =
    (m n : ℕ) → h ≤ m → length f < n → (done : List StmtTree) (j c : ℕ) (rest : List Terminal) → switch_items m (statement m) n labelled done j (f ++ Punctuator c punctuators.CloseBrace ∷ rest) ≡ Items (done ++ items_in ss) (max j h) rest

abbrev BracesClaim : ℕ → List Terminal → Stmts → Type 0
BracesClaim h f ss = (n : ℕ) → h ≤ n → (rest : List Terminal) → ◌≡◌ {A = Result ((List StmtTree × ℕ) × List Terminal) Stop} (switch_block n (f ++ rest)) (Ok ((items_in ss, h), rest))

for_label : (labelled : Bool) {h : ℕ} {ts : List Terminal} {s : StmtTree} → ReadsLabel h ts s → SwitchItemClaim labelled h ts s
for_label labelled (a_case {h = h} {ts = ts} {e = e} at c r) m le rest stop =
    let some = high r in
    rw (le-leb 2 m (omega arith), append_assoc ts (Punctuator c punctuators.Colon ∷ []) rest, finds (m - 1) Conditional h ts e r (omega arith) (Punctuator c punctuators.Colon ∷ rest) (omega arith), add-one h) refl
for_label labelled (a_default at c) m le rest stop = let room : (m == 0) ≡ false = ne_eqb m 0 (λ e. omega arith) in rw room refl

for_switch_statement : (labelled : Bool) (h : ℕ) (ts : List Terminal) (s : StmtTree) → ReadsStatement h ts s → Claim h ts s → SwitchItemClaim labelled h ts s
for_switch_statement true h ts s r c m le rest stop = rw ((statement_begins r rest).no_case, (statement_begins r rest).no_default) (finds_at h ts s (statement_high r) c m le rest stop)
for_switch_statement false h ts s r c m le rest stop = rw ((statement_begins r rest).no_case, (statement_begins r rest).no_default, (statement_begins r rest).no_type) (finds_at h ts s (statement_high r) c m le rest stop)

for_switch_declaration : (h : ℕ) (ts : List Terminal) (d : DeclarationTree) → ReadsDeclaration h ts d → SwitchItemClaim false h ts (declaration d)
for_switch_declaration h ts d r m le rest stop =
    rw (no_case_typed (ts ++ rest) (declaration_begins r rest), no_default_typed (ts ++ rest) (declaration_begins r rest), declaration_begins r rest, finds_declaration r m le rest) refl

for_no_switch_item : SwitchItemsClaim false 0 [] no_stmts
unfolding switch_items
for_no_switch_item m zero le enough done j c rest = absurd (omega arith)
for_no_switch_item m (suc n) le enough done j c rest = nothing_more done j rest

-- no switch ends where its brace does not stand
not_ended : (labelled b : Bool) → b ≡ false → (not labelled && b) ≡ false
not_ended true b e = refl
not_ended false b e = e

for_switch_items : (labelled labels : Bool) (h k : ℕ) (xs ys : List Terminal) (s : StmtTree) (ss : Stmts) → ReadsSwitchItem labelled labels h xs s → ReadsSwitchItems labels k ys ss → SwitchItemClaim labelled h xs s → SwitchItemsClaim labels k ys ss
    → SwitchItemsClaim labelled (max h k) (xs ++ ys) (stmt_and s ss)
unfolding switch_items
for_switch_items labelled labels h k xs ys s ss r q c d m zero le enough done j e rest = absurd (omega arith)
for_switch_items labelled labels h k xs ys s ss r q c d m (suc n) le enough done j e rest =
    let some = some_token xs rest e (switch_item_no_end r (Punctuator e punctuators.CloseBrace ∷ rest)) in
    rw (
      append_assoc xs ys (Punctuator e punctuators.CloseBrace ∷ rest),
      not_ended labelled _ (switch_item_no_end r (ys ++ Punctuator e punctuators.CloseBrace ∷ rest)),
      c m (omega arith) (ys ++ Punctuator e punctuators.CloseBrace ∷ rest) (λ _. switch_items_no_else q e rest),
      switch_item_labels r (ys ++ Punctuator e punctuators.CloseBrace ∷ rest),
    ) (d m n (omega arith) (omega (arith, length-append xs ys)) (done ++ s ∷ []) (max j h) e rest ∙ one_more done (items_in ss) s j h k rest)

for_braces : (h : ℕ) (ts : List Terminal) (ss : Stmts) (o c : ℕ) → SwitchItemsClaim false h ts ss → BracesClaim (suc h) (Punctuator o punctuators.OpenBrace ∷ (ts ++ Punctuator c punctuators.CloseBrace ∷ [])) ss
unfolding switch_block
for_braces h ts ss o c r zero le rest = absurd (omega arith)
for_braces h ts ss o c r (suc m) le rest =
    rw (
      append_assoc ts (Punctuator c punctuators.CloseBrace ∷ []) rest,
      r m (length (ts ++ Punctuator c punctuators.CloseBrace ∷ rest)) (omega arith) (omega (arith, length-append ts (Punctuator c punctuators.CloseBrace ∷ rest))) [] 0 c rest,
      from_zero h,
      add-one h,
    ) refl

for_switch : (h k : ℕ) (xs ys : List Terminal) (e : ExprTree) (ss : Stmts) (at o c : ℕ) → Reads Expression h xs e → BracesClaim k ys ss
    → Claim (suc (max h k)) (Keyword at keywords.Switch ∷ Punctuator o punctuators.OpenParenthesis ∷ (xs ++ Punctuator c punctuators.CloseParenthesis ∷ ys)) (switch (unnumbered at) e ss)
for_switch h k xs ys e ss at o c r q zero le rest stop = let some = high r in absurd (omega arith)
for_switch h k xs ys e ss at o c r q (suc m) le rest stop =
    rw (has_room m, append_assoc xs (Punctuator c punctuators.CloseParenthesis ∷ ys) rest, finds_condition r (suc m) (omega arith) o c (ys ++ rest), q (suc m) (omega arith) rest, items_back ss, add-one (max h k)) refl

for_return : (h : ℕ) (ts : List Terminal) (e : Option ExprTree) (at s : ℕ) → ReadsOptional h ts e → Claim (suc h) (Keyword at keywords.Return ∷ (ts ++ Punctuator s punctuators.Semicolon ∷ [])) (return (unnumbered at) e)
for_return h ts e at s r m le rest stop = rw (append_assoc ts (Punctuator s punctuators.Semicolon ∷ []) rest, finds_optional_semicolon r m (omega arith) s rest, add-one h) refl

for_statement : (h : ℕ) (ts : List Terminal) (s : StmtTree) → ReadsStatement h ts s → Claim h ts s → ItemClaim h ts s
for_statement h ts s r c m le rest stop = rw ((statement_begins r rest).no_type) (finds_at h ts s (statement_high r) c m le rest stop)

for_declared : (h : ℕ) (ts : List Terminal) (d : DeclarationTree) → ReadsDeclaration h ts d → ItemClaim h ts (declaration d)
for_declared h ts d r m le rest stop = rw (declaration_begins r rest, finds_declaration r m le rest) refl

for_no_item : ItemsClaim 0 [] no_stmts
unfolding items
for_no_item m zero le enough done j c rest = absurd (omega arith)
for_no_item m (suc n) le enough done j c rest = nothing_more done j rest

for_items : (h k : ℕ) (xs ys : List Terminal) (s : StmtTree) (ss : Stmts) → ReadsItem h xs s → ReadsItems k ys ss → ItemClaim h xs s → ItemsClaim k ys ss → ItemsClaim (max h k) (xs ++ ys) (stmt_and s ss)
unfolding items
for_items h k xs ys s ss r q c d m zero le enough done j e rest = absurd (omega arith)
for_items h k xs ys s ss r q c d m (suc n) le enough done j e rest =
    let some = some_token xs rest e (item_no_end r (Punctuator e punctuators.CloseBrace ∷ rest)) in
    rw (append_assoc xs ys (Punctuator e punctuators.CloseBrace ∷ rest), item_no_end r (ys ++ Punctuator e punctuators.CloseBrace ∷ rest), c m (omega arith) (ys ++ Punctuator e punctuators.CloseBrace ∷ rest) (λ _. items_no_else q e rest))
    (d m n (omega arith) (omega (arith, length-append xs ys)) (done ++ s ∷ []) (max j h) e rest ∙ one_more done (items_in ss) s j h k rest)

mutual
  claim : {h : ℕ} {ts : List Terminal} {s : StmtTree} → ReadsStatement h ts s → Claim h ts s
  claim (a_block {h = h} {ts = ts} {ss = ss} o c r) = for_block h ts ss o c (claim_items r)
  claim (an_empty at) = λ m le rest stop. refl
  claim (an_expression {h = h} {ts = ts} {e = e} s r) = for_expression h ts e s r
  claim (an_if {h = h} {k = k} {xs = xs} {ys = ys} {e = e} {s = s} at o c r q) = for_if h k xs ys e s at o c r (statement_high q) (claim q)
  claim (an_if_with_else {h = h} {k = k} {l = l} {xs = xs} {ys = ys} {zs = zs} {e = e} {s = s} {t = t} at o c n r q closed z) =
      for_if_with_else h k l xs ys zs e s t at o c n r (statement_high q) (claim q) closed (statement_high z) (claim z)
  claim (a_while {h = h} {k = k} {xs = xs} {ys = ys} {e = e} {s = s} at o c r q) = for_while h k xs ys e s at o c r (statement_high q) (claim q)
  claim (a_do {h = h} {k = k} {xs = xs} {ys = ys} {s = s} {e = e} at w o c n q r) = for_do h k xs ys s e at w o c n (statement_high q) (claim q) r
  claim (a_for {h = h} {i = i} {j = j} {k = k} {ws = ws} {xs = xs} {ys = ys} {zs = zs} {start = a} {e = e} {u = u} {s = s} at o n c r1 r2 r3 q) =
      for_for h i j k ws xs ys zs a e u s at o n c r1 r2 r3 (statement_high q) (claim q)
  claim (a_switch {h = h} {k = k} {xs = xs} {ys = ys} {e = e} {ss = ss} at o c r q) = for_switch h k xs ys e ss at o c r (claim_braces q)
  claim (a_break at s) = λ m le rest stop. refl
  claim (a_continue at s) = λ m le rest stop. refl
  claim (a_return {h = h} {ts = ts} {e = e} at s r) = for_return h ts e at s r

  claim_item : {h : ℕ} {ts : List Terminal} {s : StmtTree} → ReadsItem h ts s → ItemClaim h ts s
  claim_item (a_statement {h = h} {ts = ts} {s = s} r) = for_statement h ts s r (claim r)
  claim_item (a_declared {h = h} {ts = ts} {d = d} r) = for_declared h ts d r

  claim_items : {h : ℕ} {ts : List Terminal} {ss : Stmts} → ReadsItems h ts ss → ItemsClaim h ts ss
  claim_items no_item = for_no_item
  claim_items (an_item {h = h} {k = k} {xs = xs} {ys = ys} {s = s} {ss = ss} r q) = for_items h k xs ys s ss r q (claim_item r) (claim_items q)

  claim_braces : {h : ℕ} {ts : List Terminal} {ss : Stmts} → ReadsSwitchBlock h ts ss → BracesClaim h ts ss
  claim_braces (in_braces {h = h} {ts = ts} {ss = ss} o c r) = for_braces h ts ss o c (claim_switch_items r)

  claim_switch_item : {labelled labels : Bool} {h : ℕ} {ts : List Terminal} {s : StmtTree} → ReadsSwitchItem labelled labels h ts s → SwitchItemClaim labelled h ts s
  claim_switch_item (a_label {labelled = labelled} r) = for_label labelled r
  claim_switch_item (a_switch_statement {labelled = labelled} {h = h} {ts = ts} {s = s} r) = for_switch_statement labelled h ts s r (claim r)
  claim_switch_item (a_switch_declaration {h = h} {ts = ts} {d = d} r) = for_switch_declaration h ts d r

  claim_switch_items : {labelled : Bool} {h : ℕ} {ts : List Terminal} {ss : Stmts} → ReadsSwitchItems labelled h ts ss → SwitchItemsClaim labelled h ts ss
  claim_switch_items no_switch_item = for_no_switch_item
  claim_switch_items (a_switch_item {labelled = labelled} {labels = labels} {h = h} {k = k} {xs = xs} {ys = ys} {s = s} {ss = ss} r q) = for_switch_items labelled labels h k xs ys s ss r q (claim_switch_item r) (claim_switch_items q)

-- all the items of a block, with the brace behind them
pub finds_items : {h : ℕ} {ts : List Terminal} {ss : Stmts} → ReadsItems h ts ss → (m : ℕ) → h ≤ m → (c : ℕ) (rest : List Terminal)
    → (sts : List StmtTree) × (stmts_of sts ≡ ss) × (items m (statement m) (length (ts ++ Punctuator c punctuators.CloseBrace ∷ rest)) [] 0 (ts ++ Punctuator c punctuators.CloseBrace ∷ rest) ≡ Items sts h rest)
finds_items {h} {ts} {ss} r m le c rest =
    (items_in ss, items_back ss, claim_items r m (length (ts ++ Punctuator c punctuators.CloseBrace ∷ rest)) le (omega (arith, length-append ts (Punctuator c punctuators.CloseBrace ∷ rest))) [] 0 c rest ∙ ap (λ (k : ℕ). Items (items_in ss) k rest) (from_zero h))
