-- The tokens before a fault in a statement begin one that is low enough.
use Rattle.std.proofs.Common.{◌≡◌, ℕ, zero, suc, ◌+◌, ◌<◌, ◌≤◌, max, Bool, true, false, true≢false, cond, List, [], ◌∷◌, ◌++◌, length, Ok, Option, Some, None, refl, sym, subst, ◌∙◌, append_assoc, add-one, arith}
use Rattle.std.specs.Prelude.{◌-◌, ◌||◌}
use Rattle.std.proofs.lemmas.Bool.{false_from_ne_true}
use Rattle.qs_syntax_vocabulary.specs.declared.terminal.Terminal.{Terminal}
use Rattle.qs_syntax_vocabulary.specs.declared.terminal.Terminal.TheVariants.{Keyword, Punctuator}
use Rattle.qs_base.specs.declared.keyword.Keyword as key
use Rattle.qs_base.specs.declared.keyword.Keyword.TheVariants as keywords
use Rattle.qs_syntax_vocabulary.specs.declared.punctuator.Punctuator as punctuator
use Rattle.qs_syntax_vocabulary.specs.declared.punctuator.Punctuator.TheVariants as punctuators
use Rattle.qs_syntax_vocabulary.specs.Operators.{number_of}
use Rattle.qs_syntax.specs.Trees as trees
use Rattle.qs_syntax.specs.Trees.{unnumbered, ExprTree, StartTree, StmtTree, Stmts}
use Rattle.qs_syntax.specs.Reads.{Conditional, Expression}
use Rattle.qs_syntax.specs.ReadsStatements.{is_open, nothing_there, something_there, a_start_declaration, a_start_expression, no_start_at_all, ReadsStart, ReadsStatement, a_block, an_empty, an_expression, a_switch, a_break, a_continue, ReadsItem, a_statement, a_declared, ReadsItems, no_item, an_item, a_case, a_default, ReadsSwitchBlock, in_braces, ReadsSwitchItem, a_label, a_switch_statement, a_switch_declaration, ReadsSwitchItems, no_switch_item, a_switch_item}
use Rattle.qs_parser_grammar.specs.Heads.{is_punctuator, is_keyword, starts, starts_with, begins_type}
use Rattle.qs_parser_grammar.specs.Parse.{Parse, read_on, unexpected, E, begins_one}
use Rattle.qs_parser_grammar.specs.ParseDeclarations.{declaration_within}
use Rattle.qs_parser_grammar.specs.ParseStatements.{S, optional, condition, start_of, begins_statement, begins_label, ends_switch, item, items, in_block, after_case, case_of, default_of, switch_item, switch_items, switch_block_at, after_then, after_if, after_while, expect_while, after_do, after_for, after_switch, plain_statement, keyword_statement, statement_at, statement, switch_block}
use Rattle.qs_parser_grammar.proofs.HeadsLaws.{punctuator_is, keyword_is}
use Rattle.qs_parser_grammar.proofs.Sound.{Sound}
use Rattle.qs_parser_grammar.proofs.ExpressionsSound.{sound_part}
use Rattle.qs_parser_grammar.proofs.StatementsSound.{NoElse, Takes, takes_statement, IsOptional, sound_optional, IsCondition, sound_condition, sound_start, IsStatement, as_switch_item, if_read, else_read, while_read, do_read, for_read, return_read, sound_item, sound_switch_item, taken_there, sound_statement}
use Rattle.qs_parser_grammar.proofs.ExpressionsViable.{Has, number, one, one_begun, viable_part}
use Rattle.qs_parser_grammar.proofs.DeclarationsViable.{a_punctuator, viable_declaration_within}
use Rattle.qs_parser_grammar.proofs.Viable.{Claims, OfFronts, behind_token, behind, Both, under, Viable, Viable-ok, Viable-unexpected, Viable-deep, Viable-token, Viable-if, Viable-above, Viable-some, Viable-read_on, Viable-read_on-is, Viable-done, here, Viable-is_punctuator, Viable-keyword, Viable-punctuator, Viable-some, is_plain, plain_both}

-- ---- parts of statements

abbrev IsOption : punctuator.Punctuator → ℕ → List Terminal → Type 0
IsOption k h xs = (e : Option ExprTree) × IsOptional h k (e, h) xs

an_option : (k : punctuator.Punctuator) (at : ℕ) → IsOption k 0 (Punctuator at k ∷ [])
an_option k at = (None, ([], at, refl, nothing_there, omega arith))

some_option : (k : punctuator.Punctuator) (h : ℕ) (xs : List Terminal) → Has Expression h xs → IsOption k h (xs ++ a_punctuator k ∷ [])
some_option k h xs s = (Some s.0, (xs, 0, refl, something_there s.1, omega arith))

higher_option : (m h : ℕ) (k : punctuator.Punctuator) (xs : List Terminal) (e : IsOption k h xs) → h ≤ m → IsOptional m k (e.0, h) xs
higher_option m h k xs (e, (inside, at, is, r, low)) le = (inside, at, is, r, le)

lower_option : (m : ℕ) (k : punctuator.Punctuator) (e : Option ExprTree × ℕ) (xs : List Terminal) → IsOptional m k e xs → IsOption k e.1 xs
lower_option m k e xs (inside, at, is, r, low) = (e.0, (inside, at, is, r, omega arith))

option_fits : (m : ℕ) (k : punctuator.Punctuator) (e : Option ExprTree × ℕ) (xs : List Terminal) → IsOptional m k e xs → e.1 ≤ m
option_fits m k e xs (inside, at, is, r, low) = low

viable_optional : (m : ℕ) (k : punctuator.Punctuator) (Q : Claims) → OfFronts Q → ((h : ℕ) (xs : List Terminal) → IsOption k h xs → Both Q m h xs) → (ts : List Terminal) → Viable Q ts (optional m k ts)
viable_optional m k Q c w ts =
    let low : Q true [] = c.front true [] (a_punctuator k ∷ []) ((w 0 _ (an_option k 0)).1 (omega arith)) refl in
    Viable-if (starts k ts)
    (λ _. Viable-punctuator k ts _ low (λ at us. Viable-ok))
    (λ _. Viable-read_on _ (sound_part m Expression ts) (viable_part m Expression refl Q c begun low ts) (λ e front us r. Viable-punctuator k us _ (here Q front ((begun e.1 front (e.0, r.0)).1 r.1)) (λ at vs. Viable-ok)))
  where
    begun : (h : ℕ) (xs : List Terminal) → Has Expression h xs → Both Q m h xs
    begun h xs s = under c xs (a_punctuator k ∷ []) refl m h (w h _ (some_option k h xs s)) m h (λ le. le)

abbrev IsTest : ℕ → List Terminal → Type 0
IsTest h xs = (e : ExprTree) × IsCondition h (e, h) xs

a_test : (o h : ℕ) (xs : List Terminal) → Has Expression h xs → IsTest h (Punctuator o punctuators.OpenParenthesis ∷ (xs ++ a_punctuator punctuators.CloseParenthesis ∷ []))
a_test o h xs s = (s.0, (xs, o, 0, refl, s.1, omega arith))

-- the shortest
one_test : IsTest 1 (a_punctuator punctuators.OpenParenthesis ∷ (number ++ a_punctuator punctuators.CloseParenthesis ∷ []))
one_test = a_test 0 1 number (one Expression refl)

higher_test : (m h : ℕ) (xs : List Terminal) (t : IsTest h xs) → h ≤ m → IsCondition m (t.0, h) xs
higher_test m h xs (e, (inside, o, k, is, r, low)) le = (inside, o, k, is, r, le)

lower_test : (m : ℕ) (e : E) (xs : List Terminal) → IsCondition m e xs → IsTest e.1 xs
lower_test m e xs (inside, o, k, is, r, low) = (e.0, (inside, o, k, is, r, omega arith))

test_fits : (m : ℕ) (e : E) (xs : List Terminal) → IsCondition m e xs → e.1 ≤ m
test_fits m e xs (inside, o, k, is, r, low) = low

viable_condition : (m : ℕ) (Q : Claims) → OfFronts Q → ((h : ℕ) (xs : List Terminal) → IsTest h xs → Both Q m h xs) → 0 < m → (ts : List Terminal) → Viable Q ts (condition m ts)
viable_condition m Q c w some ts =
    Viable-punctuator punctuators.OpenParenthesis ts _ (c.front true [] _ ((w 1 _ one_test).1 (omega arith)) refl)
    (λ o us. Viable-read_on _ (sound_part m Expression us)
    (viable_part m Expression refl _ (behind_token (Punctuator o punctuators.OpenParenthesis) c) (begun o) (c.front true (Punctuator o punctuators.OpenParenthesis ∷ []) number ((begun o 1 number (one Expression refl)).1 (omega arith)) refl) us)
    (λ e front vs r. Viable-punctuator punctuators.CloseParenthesis vs _ (here (λ b l. Q b (Punctuator o punctuators.OpenParenthesis ∷ l)) front ((begun o e.1 front (e.0, r.0)).1 r.1)) (λ at ws. Viable-ok)))
  where
    begun : (o h : ℕ) (xs : List Terminal) → Has Expression h xs → Both Q m h (Punctuator o punctuators.OpenParenthesis ∷ xs)
    begun o h xs s = under c (Punctuator o punctuators.OpenParenthesis ∷ xs) (a_punctuator punctuators.CloseParenthesis ∷ []) refl m h (w h _ (a_test o h xs s)) m h (λ le. le)

abbrev IsBeginning : ℕ → List Terminal → Type 0
IsBeginning h xs = (a : StartTree) × ReadsStart h xs a

no_beginning : (at : ℕ) → IsBeginning 0 (Punctuator at punctuators.Semicolon ∷ [])
no_beginning at = (_, no_start_at_all at)

viable_start : (m : ℕ) (Q : Claims) → OfFronts Q → ((h : ℕ) (xs : List Terminal) → IsBeginning h xs → Both Q m h xs) → (ts : List Terminal) → Viable Q ts (start_of m ts)
viable_start m Q c w ts =
    Viable-if (begins_type ts) (declared_there ts)
    (λ _. Viable-if (starts punctuators.Semicolon ts)
    (λ _. Viable-punctuator punctuators.Semicolon ts _ low (λ at us. Viable-ok))
    (λ _. Viable-read_on _ (sound_part m Expression ts) (viable_part m Expression refl Q c begun low ts) (λ e front us r. Viable-punctuator punctuators.Semicolon us _ (here Q front ((begun e.1 front (e.0, r.0)).1 r.1)) (λ at vs. Viable-ok))))
  where
    low : Q true []
    low = c.front true [] (a_punctuator punctuators.Semicolon ∷ []) ((w 0 _ (no_beginning 0)).1 (omega arith)) refl

    begun : (h : ℕ) (xs : List Terminal) → Has Expression h xs → Both Q m h xs
    begun h xs s = under c xs (a_punctuator punctuators.Semicolon ∷ []) refl m h (w h _ (_, a_start_expression 0 s.1)) m h (λ le. le)

    declared_there : (ts : List Terminal) → begins_type ts ≡ true → Viable {A = StartTree × ℕ} Q ts (read_on (declaration_within m ts) (λ d us. Ok ((trees.start_declaration d.0, d.1), us)))
    declared_there [] e = absurd cc
    declared_there (t ∷ ts) e = Viable-done _ (viable_declaration_within m Q c (λ h xs s. w h xs (_, a_start_declaration s.1)) low t ts e)

-- ---- statements

abbrev pub IsStmt : ℕ → List Terminal → Type 0
IsStmt h xs = (s : StmtTree) × ReadsStatement h xs s

abbrev IsOneItem : ℕ → List Terminal → Type 0
IsOneItem h xs = (s : StmtTree) × ReadsItem h xs s

abbrev pub AreStmts : ℕ → List Terminal → Type 0
AreStmts h xs = (ss : Stmts) × ReadsItems h xs ss

abbrev IsOneSwitchItem : Bool → Bool → ℕ → List Terminal → Type 0
IsOneSwitchItem labelled labels h xs = (s : StmtTree) × ReadsSwitchItem labelled labels h xs s

abbrev AreSwitchStmts : Bool → ℕ → List Terminal → Type 0
AreSwitchStmts labelled h xs = (ss : Stmts) × ReadsSwitchItems labelled h xs ss

abbrev IsBraces : ℕ → List Terminal → Type 0
IsBraces h xs = (ss : Stmts) × ReadsSwitchBlock h xs ss

-- a label is a level at least
label_high : {labelled labels : Bool} {h : ℕ} {ts : List Terminal} {s : StmtTree} → ReadsSwitchItem labelled labels h ts s → labels ≡ true → 0 < h
label_high (a_label (a_case at c r)) e = omega arith
label_high (a_label (a_default at c)) e = omega arith
label_high (a_switch_statement r) e = absurd (true≢false (sym e))
label_high (a_switch_declaration r) e = absurd (true≢false (sym e))

-- the shortest
no_braces : IsBraces 1 (a_punctuator punctuators.OpenBrace ∷ a_punctuator punctuators.CloseBrace ∷ [])
no_braces = (_, in_braces {ts = []} 0 0 no_switch_item)

-- the shortest
empty_one : IsStmt 1 (a_punctuator punctuators.Semicolon ∷ [])
empty_one = (_, an_empty 0)

if_one : (at g h : ℕ) (cs ys : List Terminal) → IsTest g cs → IsStmt h ys → IsStmt (max g h + 1) (Keyword at keywords.If ∷ (cs ++ ys))
if_one at g h cs ys t s = let m : ℕ = max g h in (_, (if_read m at (t.0, g) (s.0, h) cs ys (higher_test m g cs t (omega arith)) (s.1, omega arith)).0)

else_one : (at n g h k : ℕ) (cs ys zs : List Terminal) → IsTest g cs → (s : IsStmt h ys) → is_open s.0 ≡ false → IsStmt k zs → IsStmt (max g (max h k) + 1) (Keyword at keywords.If ∷ (cs ++ (ys ++ Keyword n keywords.Else ∷ zs)))
else_one at n g h k cs ys zs t s closed u =
    let m : ℕ = max g (max h k) in (_, (else_read m at n (t.0, g) (s.0, h) (u.0, k) cs ys zs (higher_test m g cs t (omega arith)) (s.1, omega arith) closed (u.1, omega arith)).0)

while_one : (at g h : ℕ) (cs ys : List Terminal) → IsTest g cs → IsStmt h ys → IsStmt (max g h + 1) (Keyword at keywords.While ∷ (cs ++ ys))
while_one at g h cs ys t s = let m : ℕ = max g h in (_, (while_read m at (t.0, g) (s.0, h) cs ys (higher_test m g cs t (omega arith)) (s.1, omega arith)).0)

switch_one : (at g h : ℕ) (cs ys : List Terminal) → IsTest g cs → IsBraces h ys → IsStmt (max g h + 1) (Keyword at keywords.Switch ∷ (cs ++ ys))
switch_one at g h cs ys (e, (inside, o, c, is, r, low)) (ss, q) = (trees.switch (unnumbered at) e ss, rw (is, append_assoc inside (Punctuator c punctuators.CloseParenthesis ∷ []) ys, add-one (max g h)) (a_switch at o c r q))

do_one : (at v n h g : ℕ) (xs cs : List Terminal) → IsStmt h xs → IsTest g cs → IsStmt (max h g + 1) (Keyword at keywords.Do ∷ (xs ++ Keyword v keywords.While ∷ (cs ++ Punctuator n punctuators.Semicolon ∷ [])))
do_one at v n h g xs cs s t = let m : ℕ = max h g in (_, (do_read m at v n (s.0, h) (t.0, g) xs cs (s.1, omega arith) (higher_test m g cs t (omega arith))).0)

for_one : (at o h i j k : ℕ) (ws xs ys zs : List Terminal) → IsBeginning h ws → IsOption punctuators.Semicolon i xs → IsOption punctuators.CloseParenthesis j ys → IsStmt k zs
    → IsStmt (max h (max i (max j k)) + 1) (Keyword at keywords.For ∷ Punctuator o punctuators.OpenParenthesis ∷ (ws ++ (xs ++ (ys ++ zs))))
for_one at o h i j k ws xs ys zs a e u s =
    let m : ℕ = max h (max i (max j k)) in
    (_, (for_read m at o (a.0, h) (e.0, i) (u.0, j) (s.0, k) ws xs ys zs (a.1, omega arith) (higher_option m i punctuators.Semicolon xs e (omega arith)) (higher_option m j punctuators.CloseParenthesis ys u (omega arith)) (s.1, omega arith)).0)

return_one : (at h : ℕ) (xs : List Terminal) → IsOption punctuators.Semicolon h xs → IsStmt (h + 1) (Keyword at keywords.Return ∷ xs)
return_one at h xs e = (_, (return_read h at (e.0, h) xs e.1).0)

expression_one : (h : ℕ) (xs : List Terminal) → Has Expression h xs → IsStmt (suc h) (xs ++ a_punctuator punctuators.Semicolon ∷ [])
expression_one h xs s = (_, an_expression 0 s.1)

module _ (m : ℕ) (inner : Parse S) (takes : (ts : List Terminal) → Takes (inner ts)) (sound : (ts : List Terminal) → Sound (IsStatement m) [] ts (inner ts))
    (viable : (Q : Claims) → OfFronts Q → ((h : ℕ) (xs : List Terminal) → IsStmt h xs → Both Q m h xs) → Q true [] → (ts : List Terminal) → Viable Q ts (inner ts)) where
  viable_item : (Q : Claims) → OfFronts Q → ((h : ℕ) (xs : List Terminal) → IsOneItem h xs → Both Q m h xs) → Q true [] → (ts : List Terminal) → Viable Q ts (item m inner ts)
  viable_item Q c w low ts = Viable-if (begins_type ts) (declared_there ts) (λ _. viable Q c (λ h xs s. w h xs (_, a_statement s.1)) low ts)
    where
      declared_there : (ts : List Terminal) → begins_type ts ≡ true → Viable {A = S} Q ts (read_on (declaration_within m ts) (λ d us. Ok ((trees.declaration d.0, d.1), us)))
      declared_there [] e = absurd cc
      declared_there (t ∷ ts) e = Viable-done _ (viable_declaration_within m Q c (λ h xs s. w h xs (_, a_declared s.1)) low t ts e)

  pub viable_items : (n : ℕ) (done : List StmtTree) (h : ℕ) (Q : Claims) → OfFronts Q → ((h : ℕ) (xs : List Terminal) → AreStmts h xs → Both Q m h (xs ++ a_punctuator punctuators.CloseBrace ∷ [])) → (ts : List Terminal) → Viable Q ts (items m inner n done h ts)
  unfolding items
  viable_items zero done h Q c w ts = Viable-unexpected (c.front true [] (a_punctuator punctuators.CloseBrace ∷ []) ((w 0 [] (_, no_item)).1 (omega arith)) refl)
  viable_items (suc n) done h Q c w ts =
      let low : Q true [] = c.front true [] (a_punctuator punctuators.CloseBrace ∷ []) ((w 0 [] (_, no_item)).1 (omega arith)) refl in
      Viable-if (starts punctuators.CloseBrace ts)
      (λ _. Viable-punctuator punctuators.CloseBrace ts _ low (λ at us. Viable-ok))
      (λ _. Viable-read_on _ (sound_item m inner takes sound ts) (viable_item Q c begun low ts)
      (λ s front us r. let fits : s.1 ≤ m = r.1 in
      viable_items n (done ++ s.0 ∷ []) (max h s.1) (λ b l. Q b (front ++ l)) (behind front c)
      (λ k xs i. let both = w (max s.1 k) (front ++ xs) (_, an_item r.0 i.1) in let same = append_assoc front xs (a_punctuator punctuators.CloseBrace ∷ []) in
      (subst (Q false) same both.0, λ le. subst (Q true) same (both.1 (omega arith)))) us))
    where
      begun : (h : ℕ) (xs : List Terminal) → IsOneItem h xs → Both Q m h xs
      begun h xs s = under c xs (a_punctuator punctuators.CloseBrace ∷ []) refl m (max h 0) (subst (λ l. Both Q m (max h 0) l) (append_assoc xs [] (a_punctuator punctuators.CloseBrace ∷ [])) (w (max h 0) (xs ++ []) (_, an_item s.1 no_item))) m h (λ le. omega arith)

  -- ---- items of a switch

  module _ (labelled : Bool) (Q : Claims) (c : OfFronts Q) (w : (labels : Bool) (h : ℕ) (xs : List Terminal) → IsOneSwitchItem labelled labels h xs → Both Q m h xs) (low : Q true []) where
    viable_case : (ts : List Terminal) → starts_with keywords.Case ts ≡ true → Viable Q ts (case_of m inner ts)
    viable_case [] e = absurd cc
    viable_case (t ∷ ts) e =
        let at : ℕ = number_of t in
        Viable-keyword keywords.Case t e (Viable-above m 2 low (c.front false (Keyword at keywords.Case ∷ []) (number ++ a_punctuator punctuators.Colon ∷ []) (w true 2 _ (a_case_of at 1 number (one Conditional refl))).0 refl) (λ two. Viable-token (behind_case at two)))
      where
        a_case_of : (at h : ℕ) (xs : List Terminal) → Has Conditional h xs → IsOneSwitchItem labelled true (suc h) (Keyword at keywords.Case ∷ (xs ++ a_punctuator punctuators.Colon ∷ []))
        a_case_of at h xs s = (_, a_label (a_case at 0 s.1))

        begun : (at : ℕ) → 2 ≤ m → (h : ℕ) (xs : List Terminal) → Has Conditional h xs → Both (λ b l. Q b (Keyword at keywords.Case ∷ l)) (m - 1) h xs
        begun at two h xs s = under (behind_token (Keyword at keywords.Case) c) xs (a_punctuator punctuators.Colon ∷ []) refl m (suc h) (w true (suc h) _ (a_case_of at h xs s)) (m - 1) h (λ le. omega arith)

        behind_case : (at : ℕ) → 2 ≤ m → Viable (λ b l. Q b (Keyword at keywords.Case ∷ l)) ts (after_case m inner at ts)
        behind_case at two =
            Viable-read_on _ (sound_part (m - 1) Conditional ts)
            (viable_part (m - 1) Conditional refl _ (behind_token (Keyword at keywords.Case) c) (begun at two) ((behind_token (Keyword at keywords.Case) c).front true [] number ((begun at two 1 number (one Conditional refl)).1 (omega arith)) refl) ts)
            (λ x front us r. Viable-punctuator punctuators.Colon us _ (here (λ b l. Q b (Keyword at keywords.Case ∷ l)) front ((begun at two x.1 front (x.0, r.0)).1 r.1)) (λ k vs. Viable-ok))

    viable_default : (ts : List Terminal) → starts_with keywords.Default ts ≡ true → Viable Q ts (default_of m inner ts)
    viable_default [] e = absurd cc
    viable_default (t ∷ ts) e =
        let begun : Both Q m 1 (Keyword (number_of t) keywords.Default ∷ a_punctuator punctuators.Colon ∷ []) = w true 1 _ (_, a_label (a_default (number_of t) 0)) in
        let front = c.front false (Keyword (number_of t) keywords.Default ∷ []) (a_punctuator punctuators.Colon ∷ []) begun.0 refl in
        Viable-keyword keywords.Default t e (Viable-some m low front (λ some. Viable-token (Viable-punctuator punctuators.Colon ts _ (c.front true (Keyword (number_of t) keywords.Default ∷ []) (a_punctuator punctuators.Colon ∷ []) (begun.1 some) refl) (λ k us. Viable-ok))))

  viable_no_label : (labelled : Bool) (Q : Claims) → OfFronts Q → ((labels : Bool) (h : ℕ) (xs : List Terminal) → IsOneSwitchItem labelled labels h xs → Both Q m h xs) → Q true [] → (ts : List Terminal) → Viable Q ts (cond labelled (inner ts) (item m inner ts))
  viable_no_label true Q c w low ts = viable Q c (λ h xs s. w false h xs (_, a_switch_statement s.1)) low ts
  viable_no_label false Q c w low ts = viable_item Q c (λ h xs s. w false h xs (_, as_switch_item s.1)) low ts

  viable_switch_item : (labelled : Bool) (Q : Claims) → OfFronts Q → ((labels : Bool) (h : ℕ) (xs : List Terminal) → IsOneSwitchItem labelled labels h xs → Both Q m h xs) → Q true [] → (ts : List Terminal) → Viable Q ts (switch_item m inner labelled ts)
  viable_switch_item labelled Q c w low ts =
      Viable-if (starts_with keywords.Case ts) (viable_case labelled Q c w low ts) (λ _. Viable-if (starts_with keywords.Default ts) (viable_default labelled Q c w low ts) (λ _. viable_no_label labelled Q c w low ts))

  -- what goes on with items: the brace at the end, behind a label a statement before it
  abbrev Going : Bool → Claims → Type 0
  Going labelled Q = (h : ℕ) (xs : List Terminal) → AreSwitchStmts labelled h xs → Both Q m h (xs ++ a_punctuator punctuators.CloseBrace ∷ [])

  switch_due : (labelled : Bool) → (labelled ≡ true → 0 < m) → (Q : Claims) → OfFronts Q → Going labelled Q → Q true []
  switch_due true room Q c w =
      let some : 0 < m = room refl in
      c.front true [] (a_punctuator punctuators.Semicolon ∷ a_punctuator punctuators.CloseBrace ∷ []) ((w 1 (a_punctuator punctuators.Semicolon ∷ []) (_, a_switch_item (a_switch_statement (an_empty 0)) no_switch_item)).1 (omega arith)) refl
  switch_due false room Q c w = c.front true [] (a_punctuator punctuators.CloseBrace ∷ []) ((w 0 [] (_, no_switch_item)).1 (omega arith)) refl

  switch_item_begun : (labelled : Bool) (Q : Claims) → OfFronts Q → Going labelled Q → (labels : Bool) (h : ℕ) (xs : List Terminal) → IsOneSwitchItem labelled labels h xs → Both Q m h xs
  switch_item_begun labelled Q c w true h xs s =
      let some : 0 < h = label_high s.1 refl in
      under c xs (a_punctuator punctuators.Semicolon ∷ a_punctuator punctuators.CloseBrace ∷ []) refl m (max h 1)
      (subst (λ l. Both Q m (max h 1) l) (append_assoc xs (a_punctuator punctuators.Semicolon ∷ []) (a_punctuator punctuators.CloseBrace ∷ [])) (w (max h 1) (xs ++ a_punctuator punctuators.Semicolon ∷ []) (_, a_switch_item s.1 (a_switch_item (a_switch_statement (an_empty 0)) no_switch_item)))) m h
      (λ le. omega arith)
  switch_item_begun labelled Q c w false h xs s =
      under c xs (a_punctuator punctuators.CloseBrace ∷ []) refl m (max h 0) (subst (λ l. Both Q m (max h 0) l) (append_assoc xs [] (a_punctuator punctuators.CloseBrace ∷ [])) (w (max h 0) (xs ++ []) (_, a_switch_item s.1 no_switch_item))) m h (λ le. omega arith)

  viable_switch_items : (n : ℕ) (labelled : Bool) → (labelled ≡ true → 0 < m) → (done : List StmtTree) (h : ℕ) (Q : Claims) → OfFronts Q → Going labelled Q → (ts : List Terminal) → Viable Q ts (switch_items m inner n labelled done h ts)
  unfolding switch_items
  viable_switch_items zero labelled room done h Q c w ts = Viable-unexpected (switch_due labelled room Q c w)
  viable_switch_items (suc n) labelled room done h Q c w ts =
      let low : Q true [] = switch_due labelled room Q c w in
      Viable-if (ends_switch labelled ts)
      (λ _. Viable-punctuator punctuators.CloseBrace ts _ low (λ at us. Viable-ok))
      (λ _. Viable-read_on _ (sound_switch_item m inner takes sound labelled ts) (viable_switch_item labelled Q c (switch_item_begun labelled Q c w) low ts)
      (λ s front us r. let fits : s.1 ≤ m = r.1 in
      viable_switch_items n (begins_label ts) (λ e. let some = label_high r.0 e in omega arith) (done ++ s.0 ∷ []) (max h s.1) (λ b l. Q b (front ++ l)) (behind front c)
      (λ k xs i. let both = w (max s.1 k) (front ++ xs) (_, a_switch_item r.0 i.1) in let same = append_assoc front xs (a_punctuator punctuators.CloseBrace ∷ []) in
      (subst (Q false) same both.0, λ le. subst (Q true) same (both.1 (omega arith)))) us))

  viable_switch_block_at : (Q : Claims) → OfFronts Q → ((h : ℕ) (xs : List Terminal) → IsBraces h xs → Both Q (suc m) h xs) → Q true [] → (ts : List Terminal) → Viable Q ts (switch_block_at m inner ts)
  viable_switch_block_at Q c w low ts =
      Viable-punctuator punctuators.OpenBrace ts _ low
      (λ o us. Viable-done _ (viable_switch_items (length us) false (λ e. absurd (true≢false (sym e))) [] 0 _ (behind_token (Punctuator o punctuators.OpenBrace) c) (λ h xs i. let both = w (suc h) _ (_, in_braces o 0 i.1) in (both.0, λ le. both.1 (omega arith))) us))

  module _ (Q : Claims) (c : OfFronts Q) (w : (h : ℕ) (xs : List Terminal) → IsStmt h xs → Both Q (suc m) h xs) where
    viable_block : (at : ℕ) (ts : List Terminal) → Viable (λ b l. Q b (Punctuator at punctuators.OpenBrace ∷ l)) ts (in_block m inner ts)
    viable_block at ts = Viable-done _ (viable_items (length ts) [] 0 _ (behind_token (Punctuator at punctuators.OpenBrace) c) (λ h xs i. let both = w (suc h) _ (_, a_block at 0 i.1) in (both.0, λ le. both.1 (omega arith))) ts)

    -- ---- where a level is left for parts

    module _ (some : 0 < m) where
      viable_after_then : (at n : ℕ) (e : E) (s : S) (cs ys : List Terminal) → IsTest e.1 cs → e.1 ≤ m → ReadsStatement s.1 ys s.0 → s.1 ≤ m → (ts : List Terminal) → (is_open s.0 ≡ true → NoElse ts)
          → Viable (λ b l. Q b (Keyword at keywords.If ∷ (cs ++ (ys ++ l)))) ts (after_then m inner n e s ts)
      viable_after_then at n e s cs ys t fits r low [] end = Viable-ok
      viable_after_then at n e s cs ys t fits r low (u ∷ ts) end =
          Viable-if (is_keyword keywords.Else u)
          (λ yes. let closed : is_open s.0 ≡ false = false_from_ne_true (is_open s.0) (λ o. true≢false (sym yes ∙ end o)) in
          let inside = behind_token (Keyword (number_of u) keywords.Else) (behind ys (behind cs (behind_token (Keyword at keywords.If) c))) in
          Viable-keyword keywords.Else u yes (Viable-token (Viable-done _ (viable _ inside (begun (number_of u) closed) (inside.front true [] (a_punctuator punctuators.Semicolon ∷ []) ((begun (number_of u) closed 1 _ empty_one).1 (omega arith)) refl) ts))))
          (λ _. Viable-ok)
        where
          begun : (i : ℕ) → is_open s.0 ≡ false → (k : ℕ) (zs : List Terminal) → IsStmt k zs → Both Q m k (Keyword at keywords.If ∷ (cs ++ (ys ++ Keyword i keywords.Else ∷ zs)))
          begun i closed k zs z = let both = w _ _ (else_one at i e.1 s.1 k cs ys zs t (s.0, r) closed z) in (both.0, λ le. both.1 (omega arith))

      if_begun : (at g : ℕ) (cs : List Terminal) → IsTest g cs → Both Q m g (Keyword at keywords.If ∷ cs)
      if_begun at g cs t = under c (Keyword at keywords.If ∷ cs) (a_punctuator punctuators.Semicolon ∷ []) refl (suc m) (max g 1 + 1) (w _ _ (if_one at g 1 cs _ t empty_one)) m g (λ le. omega arith)

      viable_if : (at n : ℕ) (ts : List Terminal) → Viable (λ b l. Q b (Keyword at keywords.If ∷ l)) ts (after_if m inner n ts)
      viable_if at n ts =
          Viable-read_on _ (sound_condition m ts) (viable_condition m _ (behind_token (Keyword at keywords.If) c) (if_begun at) some ts)
          (λ e cs us r. let test : IsTest e.1 cs = lower_test m e cs r in let fits : e.1 ≤ m = test_fits m e cs r in let inside = behind cs (behind_token (Keyword at keywords.If) c) in
          Viable-read_on-is _ (sound us) (viable _ inside (then_begun e cs test fits) (inside.front true [] (a_punctuator punctuators.Semicolon ∷ []) ((then_begun e cs test fits 1 _ empty_one).1 (omega arith)) refl) us)
          (λ s ys vs read split q. viable_after_then at n e s cs ys test fits q.0 q.1 vs (taken_there m inner takes sound us vs s read)))
        where
          then_begun : (e : E) (cs : List Terminal) → IsTest e.1 cs → e.1 ≤ m → (h : ℕ) (ys : List Terminal) → IsStmt h ys → Both Q m h (Keyword at keywords.If ∷ (cs ++ ys))
          then_begun e cs test fits h ys s = let both = w _ _ (if_one at e.1 h cs ys test s) in (both.0, λ le. both.1 (omega arith))

      while_begun : (at g : ℕ) (cs : List Terminal) → IsTest g cs → Both Q m g (Keyword at keywords.While ∷ cs)
      while_begun at g cs t = under c (Keyword at keywords.While ∷ cs) (a_punctuator punctuators.Semicolon ∷ []) refl (suc m) (max g 1 + 1) (w _ _ (while_one at g 1 cs _ t empty_one)) m g (λ le. omega arith)

      viable_while : (at n : ℕ) (ts : List Terminal) → Viable (λ b l. Q b (Keyword at keywords.While ∷ l)) ts (after_while m inner n ts)
      viable_while at n ts =
          Viable-read_on _ (sound_condition m ts) (viable_condition m _ (behind_token (Keyword at keywords.While) c) (while_begun at) some ts)
          (λ e cs us r. let test : IsTest e.1 cs = lower_test m e cs r in let fits : e.1 ≤ m = test_fits m e cs r in let inside = behind cs (behind_token (Keyword at keywords.While) c) in
          Viable-done _ (viable _ inside (body_begun e cs test fits) (inside.front true [] (a_punctuator punctuators.Semicolon ∷ []) ((body_begun e cs test fits 1 _ empty_one).1 (omega arith)) refl) us))
        where
          body_begun : (e : E) (cs : List Terminal) → IsTest e.1 cs → e.1 ≤ m → (h : ℕ) (ys : List Terminal) → IsStmt h ys → Both Q m h (Keyword at keywords.While ∷ (cs ++ ys))
          body_begun e cs test fits h ys s = let both = w _ _ (while_one at e.1 h cs ys test s) in (both.0, λ le. both.1 (omega arith))

      switch_begun : (at g : ℕ) (cs : List Terminal) → IsTest g cs → Both Q m g (Keyword at keywords.Switch ∷ cs)
      switch_begun at g cs t = under c (Keyword at keywords.Switch ∷ cs) (a_punctuator punctuators.OpenBrace ∷ a_punctuator punctuators.CloseBrace ∷ []) refl (suc m) (max g 1 + 1) (w _ _ (switch_one at g 1 cs _ t no_braces)) m g (λ le. omega arith)

      viable_switch : (braces : Parse (List StmtTree × ℕ)) → ((Q : Claims) → OfFronts Q → ((h : ℕ) (xs : List Terminal) → IsBraces h xs → Both Q m h xs) → Q true [] → (ts : List Terminal) → Viable Q ts (braces ts)) → (at n : ℕ) (ts : List Terminal)
          → Viable (λ b l. Q b (Keyword at keywords.Switch ∷ l)) ts (after_switch m inner braces n ts)
      viable_switch braces closed at n ts =
          Viable-read_on _ (sound_condition m ts) (viable_condition m _ (behind_token (Keyword at keywords.Switch) c) (switch_begun at) some ts)
          (λ e cs us r. let test : IsTest e.1 cs = lower_test m e cs r in let fits : e.1 ≤ m = test_fits m e cs r in let inside = behind cs (behind_token (Keyword at keywords.Switch) c) in
          Viable-done _ (closed _ inside (block_begun e cs test fits) (inside.front true [] (a_punctuator punctuators.OpenBrace ∷ a_punctuator punctuators.CloseBrace ∷ []) ((block_begun e cs test fits 1 _ no_braces).1 (omega arith)) refl) us))
        where
          block_begun : (e : E) (cs : List Terminal) → IsTest e.1 cs → e.1 ≤ m → (h : ℕ) (ys : List Terminal) → IsBraces h ys → Both Q m h (Keyword at keywords.Switch ∷ (cs ++ ys))
          block_begun e cs test fits h ys s = let both = w _ _ (switch_one at e.1 h cs ys test s) in (both.0, λ le. both.1 (omega arith))

      module _ (at : ℕ) where
        abbrev Doing : Claims
        Doing b l = Q b (Keyword at keywords.Do ∷ l)

        doing : OfFronts Doing
        doing = behind_token (Keyword at keywords.Do) c

        tested : (v h g : ℕ) (xs cs : List Terminal) → IsStmt h xs → h ≤ m → IsTest g cs → Both Doing m g (xs ++ Keyword v keywords.While ∷ cs)
        tested v h g xs cs s fits t = under (behind xs doing) (Keyword v keywords.While ∷ cs) (a_punctuator punctuators.Semicolon ∷ []) refl (suc m) (max h g + 1) (w _ _ (do_one at v 0 h g xs cs s t)) m g (λ le. omega arith)

        while_due : (h : ℕ) (xs : List Terminal) → IsStmt h xs → Both Doing m h xs
        while_due h xs s = under doing xs _ refl (suc m) (max h 1 + 1) (w _ _ (do_one at 0 0 h 1 xs _ s one_test)) m h (λ le. omega arith)

        viable_expect_while : {A : Type 0} (xs ts : List Terminal) (f : Unit {0} → Parse A) → Doing true xs → ((v : ℕ) (us : List Terminal) → Viable (λ b l. Doing b (xs ++ Keyword v keywords.While ∷ l)) us (f tt us)) → Viable (λ b l. Doing b (xs ++ l)) ts (read_on (expect_while m inner ts) f)
        viable_expect_while xs [] f due go = Viable-unexpected (here Doing xs due)
        viable_expect_while {A} xs (t ∷ ts) f due go = by_case (is_keyword keywords.While t) (λ e. keyword_is keywords.While t e)
          where
            by_case : (b : Bool) → (b ≡ true → t ≡ Keyword (number_of t) keywords.While) → Viable {A = A} (λ b l. Doing b (xs ++ l)) (t ∷ ts) (read_on (cond b (Ok (tt, ts)) (unexpected (t ∷ ts))) f)
            by_case true h = rw (h refl) (Viable-token (go (number_of t) ts))
            by_case false h = Viable-unexpected (here Doing xs due)

        viable_do : (n : ℕ) (ts : List Terminal) → Viable Doing ts (after_do m inner n ts)
        viable_do n ts =
            Viable-read_on _ (sound ts) (viable Doing doing while_due (doing.front true [] (a_punctuator punctuators.Semicolon ∷ []) ((while_due 1 _ empty_one).1 (omega arith)) refl) ts)
            (λ s xs us q. let body : IsStmt s.1 xs = (s.0, q.0) in let fits : s.1 ≤ m = q.1 in
            viable_expect_while xs us _ ((while_due s.1 xs body).1 fits)
            (λ v vs. Viable-read_on _ (sound_condition m vs) (viable_condition m _ (behind_token (Keyword v keywords.While) (behind xs doing)) (λ g cs t. tested v s.1 g xs cs body fits t) some vs)
            (λ e cs ws r. Viable-punctuator punctuators.Semicolon ws _ (here (λ b l. Doing b (xs ++ Keyword v keywords.While ∷ l)) cs ((tested v s.1 e.1 xs cs body fits (lower_test m e cs r)).1 (test_fits m e cs r))) (λ k ys. Viable-ok))))

      module _ (at o : ℕ) where
        abbrev Turning : Claims
        Turning b l = Q b (Keyword at keywords.For ∷ Punctuator o punctuators.OpenParenthesis ∷ l)

        turning : OfFronts Turning
        turning = behind_token (Punctuator o punctuators.OpenParenthesis) (behind_token (Keyword at keywords.For) c)

        stepped : (h i j : ℕ) (ws xs ys : List Terminal) → IsBeginning h ws → h ≤ m → IsOption punctuators.Semicolon i xs → i ≤ m → IsOption punctuators.CloseParenthesis j ys → Both Turning m j (ws ++ (xs ++ ys))
        stepped h i j ws xs ys a l1 e l2 u =
            under (behind xs (behind ws turning)) ys (a_punctuator punctuators.Semicolon ∷ []) refl (suc m) (max h (max i (max j 1)) + 1) (w _ _ (for_one at o h i j 1 ws xs ys _ a e u empty_one)) m j (λ le. omega arith)

        checked : (h i : ℕ) (ws xs : List Terminal) → IsBeginning h ws → h ≤ m → IsOption punctuators.Semicolon i xs → Both Turning m i (ws ++ xs)
        checked h i ws xs a l1 e =
            under (behind ws turning) xs (a_punctuator punctuators.CloseParenthesis ∷ a_punctuator punctuators.Semicolon ∷ []) refl (suc m) (max h (max i (max 0 1)) + 1) (w _ _ (for_one at o h i 0 1 ws xs _ _ a e (an_option punctuators.CloseParenthesis 0) empty_one)) m i (λ le. omega arith)

        started : (h : ℕ) (ws : List Terminal) → IsBeginning h ws → Both Turning m h ws
        started h ws a =
            under turning ws (a_punctuator punctuators.Semicolon ∷ a_punctuator punctuators.CloseParenthesis ∷ a_punctuator punctuators.Semicolon ∷ []) refl (suc m) (max h (max 0 (max 0 1)) + 1)
            (w _ _ (for_one at o h 0 0 1 ws _ _ _ a (an_option punctuators.Semicolon 0) (an_option punctuators.CloseParenthesis 0) empty_one)) m h (λ le. omega arith)

        turned : (h i j : ℕ) (ws xs ys : List Terminal) → IsBeginning h ws → h ≤ m → IsOption punctuators.Semicolon i xs → i ≤ m → IsOption punctuators.CloseParenthesis j ys → j ≤ m
            → (k : ℕ) (zs : List Terminal) → IsStmt k zs → Both Turning m k (ws ++ (xs ++ (ys ++ zs)))
        turned h i j ws xs ys a l1 e l2 u l3 k zs s = let both = w _ _ (for_one at o h i j k ws xs ys zs a e u s) in (both.0, λ le. both.1 (omega arith))

      viable_for : (at n : ℕ) (ts : List Terminal) → Viable (λ b l. Q b (Keyword at keywords.For ∷ l)) ts (after_for m inner n ts)
      viable_for at n ts =
          Viable-punctuator punctuators.OpenParenthesis ts _ (c.front true (Keyword at keywords.For ∷ []) _ ((started at 0 0 _ (no_beginning 0)).1 (omega arith)) refl)
          (λ o us. Viable-read_on _ (sound_start m us) (viable_start m _ (turning at o) (started at o) us)
          (λ a ws vs r. let beginning : IsBeginning a.1 ws = (a.0, r.0) in let l1 : a.1 ≤ m = r.1 in
          Viable-read_on _ (sound_optional m punctuators.Semicolon vs) (viable_optional m punctuators.Semicolon _ (behind ws (turning at o)) (λ i xs e. checked at o a.1 i ws xs beginning l1 e) vs)
          (λ e xs vs' q. let test : IsOption punctuators.Semicolon e.1 xs = lower_option m punctuators.Semicolon e xs q in let l2 : e.1 ≤ m = option_fits m punctuators.Semicolon e xs q in
          Viable-read_on _ (sound_optional m punctuators.CloseParenthesis vs') (viable_optional m punctuators.CloseParenthesis _ (behind xs (behind ws (turning at o))) (λ j ys u. stepped at o a.1 e.1 j ws xs ys beginning l1 test l2 u) vs')
          (λ u ys xs' z. let last : IsOption punctuators.CloseParenthesis u.1 ys = lower_option m punctuators.CloseParenthesis u ys z in let l3 : u.1 ≤ m = option_fits m punctuators.CloseParenthesis u ys z in
          let inside = behind ys (behind xs (behind ws (turning at o))) in let begun = turned at o a.1 e.1 u.1 ws xs ys beginning l1 test l2 last l3 in
          Viable-done _ (viable _ inside begun (inside.front true [] (a_punctuator punctuators.Semicolon ∷ []) ((begun 1 _ empty_one).1 (omega arith)) refl) xs')))))

    -- ---- all

    statement_due : Q true []
    statement_due = c.front true [] (a_punctuator punctuators.Semicolon ∷ []) ((w 1 _ empty_one).1 (omega arith)) refl

    viable_plain : (at : ℕ) (t : Terminal) (ts : List Terminal) → Viable Q (t ∷ ts) (plain_statement m inner at t ts)
    viable_plain at t ts =
        Viable-if (is_keyword keywords.Break t)
        (λ e. Viable-keyword keywords.Break t e (Viable-token (Viable-punctuator punctuators.Semicolon ts _ (c.front true (Keyword (number_of t) keywords.Break ∷ []) (a_punctuator punctuators.Semicolon ∷ []) ((w 1 _ (_, a_break (number_of t) 0)).1 (omega arith)) refl) (λ k us. Viable-ok))))
        (λ _. Viable-if (is_keyword keywords.Continue t)
        (λ e. Viable-keyword keywords.Continue t e (Viable-token (Viable-punctuator punctuators.Semicolon ts _ (c.front true (Keyword (number_of t) keywords.Continue ∷ []) (a_punctuator punctuators.Semicolon ∷ []) ((w 1 _ (_, a_continue (number_of t) 0)).1 (omega arith)) refl) (λ k us. Viable-ok))))
        (λ _. Viable-if (is_keyword keywords.Return t)
        (λ e. Viable-keyword keywords.Return t e (Viable-token (Viable-done _ (viable_optional m punctuators.Semicolon _ (behind_token (Keyword (number_of t) keywords.Return) c)
        (λ h xs s. let both = w (h + 1) _ (return_one (number_of t) h xs s) in (both.0, λ le. both.1 (omega arith))) ts))))
        (λ _. Viable-read_on _ (sound_part m Expression (t ∷ ts)) (viable_part m Expression refl Q c begun statement_due (t ∷ ts)) (λ e front us r. Viable-punctuator punctuators.Semicolon us _ (here Q front ((begun e.1 front (e.0, r.0)).1 r.1)) (λ k vs. Viable-ok)))))
      where
        begun : (h : ℕ) (xs : List Terminal) → Has Expression h xs → Both Q m h xs
        begun h xs s = under c xs (a_punctuator punctuators.Semicolon ∷ []) refl (suc m) (suc h) (w (suc h) _ (expression_one h xs s)) m h (λ le. omega arith)

    module _ (braces : Parse (List StmtTree × ℕ)) (closed : (Q : Claims) → OfFronts Q → ((h : ℕ) (xs : List Terminal) → IsBraces h xs → Both Q m h xs) → Q true [] → (ts : List Terminal) → Viable Q ts (braces ts)) where
      viable_keyword : (at : ℕ) (t : Terminal) (ts : List Terminal) → Viable Q (t ∷ ts) (keyword_statement m inner braces at t ts)
      viable_keyword at t ts =
          Viable-if (is_keyword keywords.If t)
          (λ e. Viable-keyword keywords.If t e (Viable-some m statement_due (c.front false (Keyword (number_of t) keywords.If ∷ []) _ (w _ _ (if_one (number_of t) 1 1 _ _ one_test empty_one)).0 refl) (λ some. Viable-token (viable_if some (number_of t) at ts))))
          (λ _. Viable-if (is_keyword keywords.While t)
          (λ e. Viable-keyword keywords.While t e (Viable-some m statement_due (c.front false (Keyword (number_of t) keywords.While ∷ []) _ (w _ _ (while_one (number_of t) 1 1 _ _ one_test empty_one)).0 refl) (λ some. Viable-token (viable_while some (number_of t) at ts))))
          (λ _. Viable-if (is_keyword keywords.Do t)
          (λ e. Viable-keyword keywords.Do t e (Viable-some m statement_due (c.front false (Keyword (number_of t) keywords.Do ∷ []) _ (w _ _ (do_one (number_of t) 0 0 1 1 _ _ empty_one one_test)).0 refl) (λ some. Viable-token (viable_do some (number_of t) at ts))))
          (λ _. Viable-if (is_keyword keywords.For t)
          (λ e. Viable-keyword keywords.For t e (Viable-some m statement_due
          (c.front false (Keyword (number_of t) keywords.For ∷ []) _ (w _ _ (for_one (number_of t) 0 0 0 0 1 _ _ _ _ (no_beginning 0) (an_option punctuators.Semicolon 0) (an_option punctuators.CloseParenthesis 0) empty_one)).0 refl) (λ some. Viable-token (viable_for some (number_of t) at ts))))
          (λ _. Viable-if (is_keyword keywords.Switch t)
          (λ e. Viable-keyword keywords.Switch t e (Viable-some m statement_due (c.front false (Keyword (number_of t) keywords.Switch ∷ []) _ (w _ _ (switch_one (number_of t) 1 1 _ _ one_test no_braces)).0 refl) (λ some. Viable-token (viable_switch some braces closed (number_of t) at ts))))
          (λ _. viable_plain at t ts)))))

      viable_at : (ts : List Terminal) → Viable Q ts (statement_at m inner braces ts)
      viable_at [] = Viable-unexpected statement_due
      viable_at (t ∷ ts) =
          Viable-if (is_punctuator punctuators.Semicolon t) (λ _. Viable-ok)
          (λ _. Viable-if (is_punctuator punctuators.OpenBrace t) (λ e. Viable-is_punctuator punctuators.OpenBrace t e (Viable-token (viable_block (number_of t) ts))) (λ _. viable_keyword (number_of t) t ts))

-- ---- what begins a statement

abbrev BegunStmt : Terminal → Type 0
BegunStmt t = (xs : List Terminal) × (h : ℕ) × IsStmt h (t ∷ xs) × (is_plain xs ≡ true)

by_keyword : (k : key.Keyword) (t : Terminal) → is_keyword k t ≡ true → (xs : List Terminal) (h : ℕ) → IsStmt h (Keyword (number_of t) k ∷ xs) → is_plain xs ≡ true → BegunStmt t
by_keyword k t e xs h s plain = (xs, h, subst (λ u. IsStmt h (u ∷ xs)) (sym (keyword_is k t e)) s, plain)

by_punctuator : (k : punctuator.Punctuator) (t : Terminal) → is_punctuator k t ≡ true → (xs : List Terminal) (h : ℕ) → IsStmt h (Punctuator (number_of t) k ∷ xs) → is_plain xs ≡ true → BegunStmt t
by_punctuator k t e xs h s plain = (xs, h, subst (λ u. IsStmt h (u ∷ xs)) (sym (punctuator_is k t e)) s, plain)

either : {P : Type 0} (b c : Bool) → (b ≡ true → P) → (c ≡ true → P) → (b || c) ≡ true → P
either true c f g e = f refl
either false c f g e = g e

statement_begun : (t : Terminal) (ts : List Terminal) → begins_statement (t ∷ ts) ≡ true → BegunStmt t
statement_begun t ts e =
    either (begins_one (t ∷ ts)) _ (λ d. let by = one_begun Expression refl t ts d in (by.0 ++ a_punctuator punctuators.Semicolon ∷ [], suc by.1.0, expression_one by.1.0 (t ∷ by.0) (by.1.1, by.1.2), plain_both by.0 (a_punctuator punctuators.Semicolon ∷ []) by.2 refl))
    (either (starts punctuators.OpenBrace (t ∷ ts)) _ (λ d. by_punctuator punctuators.OpenBrace t d _ 1 (_, a_block (number_of t) 0 no_item) refl)
    (either (starts punctuators.Semicolon (t ∷ ts)) _ (λ d. by_punctuator punctuators.Semicolon t d [] 1 (_, an_empty (number_of t)) refl)
    (either (starts_with keywords.If (t ∷ ts)) _ (λ d. by_keyword keywords.If t d _ _ (if_one (number_of t) 1 1 _ _ one_test empty_one) refl)
    (either (starts_with keywords.While (t ∷ ts)) _ (λ d. by_keyword keywords.While t d _ _ (while_one (number_of t) 1 1 _ _ one_test empty_one) refl)
    (either (starts_with keywords.Do (t ∷ ts)) _ (λ d. by_keyword keywords.Do t d _ _ (do_one (number_of t) 0 0 1 1 _ _ empty_one one_test) refl)
    (either (starts_with keywords.For (t ∷ ts)) _ (λ d. by_keyword keywords.For t d _ _ (for_one (number_of t) 0 0 0 0 1 _ _ _ _ (no_beginning 0) (an_option punctuators.Semicolon 0) (an_option punctuators.CloseParenthesis 0) empty_one) refl)
    (either (starts_with keywords.Switch (t ∷ ts)) _ (λ d. by_keyword keywords.Switch t d _ _ (switch_one (number_of t) 1 1 _ _ one_test no_braces) refl)
    (either (starts_with keywords.Break (t ∷ ts)) _ (λ d. by_keyword keywords.Break t d _ 1 (_, a_break (number_of t) 0) refl)
    (either (starts_with keywords.Continue (t ∷ ts)) _ (λ d. by_keyword keywords.Continue t d _ 1 (_, a_continue (number_of t) 0) refl)
    (λ d. by_keyword keywords.Return t d _ _ (return_one (number_of t) 0 _ (an_option punctuators.Semicolon 0)) refl))))))))))
    e

begins_braces : (t : Terminal) (ts : List Terminal) → starts punctuators.OpenBrace (t ∷ ts) ≡ true → IsBraces 1 (t ∷ a_punctuator punctuators.CloseBrace ∷ [])
begins_braces t ts e = subst (λ u. IsBraces 1 (u ∷ a_punctuator punctuators.CloseBrace ∷ [])) (sym (punctuator_is punctuators.OpenBrace t e)) (_, in_braces {ts = []} (number_of t) 0 no_switch_item)

mutual
  unfolding statement switch_block

  pub viable_statement : (n : ℕ) (Q : Claims) → OfFronts Q → ((h : ℕ) (xs : List Terminal) → IsStmt h xs → Both Q n h xs) → Q true [] → (ts : List Terminal) → Viable Q ts (statement n ts)
  viable_statement zero Q c w low [] = Viable-unexpected low
  viable_statement zero Q c w low (t ∷ ts) =
      Viable-if (begins_statement (t ∷ ts)) (λ e. let by = statement_begun t ts e in Viable-deep low (c.front false (t ∷ []) by.0 (w by.1 _ by.2).0 by.3)) (λ _. Viable-unexpected low)
  viable_statement (suc m) Q c w low ts =
      viable_at m (statement m) (λ us. takes_statement m us) (λ us. sound_statement m us) (λ P d v l us. viable_statement m P d v l us) Q c w (switch_block m) (λ P d v l us. viable_switch_block m P d v l us) ts

  viable_switch_block : (n : ℕ) (Q : Claims) → OfFronts Q → ((h : ℕ) (xs : List Terminal) → IsBraces h xs → Both Q n h xs) → Q true [] → (ts : List Terminal) → Viable Q ts (switch_block n ts)
  viable_switch_block zero Q c w low [] = Viable-unexpected low
  viable_switch_block zero Q c w low (t ∷ ts) =
      Viable-if (starts punctuators.OpenBrace (t ∷ ts)) (λ e. Viable-deep low (c.front false (t ∷ []) (a_punctuator punctuators.CloseBrace ∷ []) (w 1 _ (begins_braces t ts e)).0 refl)) (λ _. Viable-unexpected low)
  viable_switch_block (suc m) Q c w low ts = viable_switch_block_at m (statement m) (λ us. takes_statement m us) (λ us. sound_statement m us) (λ P d v l us. viable_statement m P d v l us) Q c w low ts
