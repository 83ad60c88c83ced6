-- What is read as a statement has that reading; an `else` is taken where it can be.
use Rattle.std.proofs.Common.{◌≡◌, ℕ, zero, suc, ◌+◌, ◌-◌, ◌≤◌, max, List, [], ◌∷◌, ◌++◌, length, Result, Ok, Err, Option, refl, sym, ap, ◌∙◌, append_assoc, append-nil, add-one, Bool, true, false, true≢false, cond, arith, ◌==◌}
use Rattle.std.specs.Prelude.{◌||◌}
use Rattle.std.proofs.lemmas.Bool.{false_from_ne_true}
use Rattle.qs_syntax_vocabulary.specs.declared.terminal.Terminal.{Terminal}
use Rattle.qs_syntax_vocabulary.specs.declared.terminal.Terminal.TheVariants.{Keyword, Punctuator}
use Rattle.qs_base.specs.declared.keyword.Keyword as key
use Rattle.qs_base.specs.declared.keyword.Keyword.TheVariants as keywords
use Rattle.qs_syntax_vocabulary.specs.declared.punctuator.Punctuator as punctuator
use Rattle.qs_syntax_vocabulary.specs.declared.punctuator.Punctuator.TheVariants as punctuators
use Rattle.qs_syntax_vocabulary.specs.Operators.{number_of}
use Rattle.qs_syntax.specs.Trees.{unnumbered, ExprTree, StartTree, StmtTree, expression, block, switch, case_label, branch, while_loop, do_loop, for_loop, break, continue, return, stmts_of, no_else, else_by}
use Rattle.qs_syntax.specs.Reads.{Reads, Conditional, Expression, place}
use Rattle.qs_syntax.specs.ReadsStatements.{is_open, ReadsOptional, nothing_there, something_there, ReadsStart, a_start_declaration, a_start_expression, no_start_at_all, ReadsStatement, a_block, an_empty, an_expression, an_if, an_if_with_else, a_while, a_do, a_for, a_switch, a_break, a_continue, a_return, ReadsItem, a_statement, a_declared, ReadsItems, no_item, an_item, a_case, a_default, ReadsSwitchBlock, in_braces, ReadsSwitchItem, a_label, a_switch_statement, a_switch_declaration, ReadsSwitchItems, no_switch_item, a_switch_item}
use Rattle.qs_parser_grammar.specs.Heads.{is_punctuator, is_keyword, starts, starts_with, begins_type}
use Rattle.qs_parser_grammar.specs.Parse.{Stop, Parse, read_on, unexpected, expect, E, part}
use Rattle.qs_parser_grammar.specs.ParseStatements.{S, optional, condition, start_of, begins_statement, begins_label, item, items, case_of, default_of, switch_item, switch_items, switch_block_at, after_then, expect_while, keyword_statement, statement_at, statement, switch_block}
use Rattle.qs_parser_grammar.proofs.HeadsLaws.{keyword_is, punctuator_is}
use Rattle.qs_parser_grammar.proofs.Sound.{Sound, Sound-ok, Sound-err, at_end, Sound-mono}
use Rattle.qs_parser_grammar.proofs.SoundSteps.{Sound-if, Sound-above}
use Rattle.qs_parser_grammar.proofs.ExpressionsSound.{IsRead, sound_part}
use Rattle.qs_parser_grammar.proofs.ExpressionsBegin.{place_more}
use Rattle.qs_parser_grammar.proofs.DeclarationsSteps.{Sound-first, Sound-punctuator-next, Sound-part, Sound-part-is, Sound-last}
use Rattle.qs_parser_grammar.proofs.Viable.{some_room}
use Rattle.qs_parser_grammar.proofs.DeclarationsLists.{Closed, Ends, all_closed}
use Rattle.qs_parser_grammar.proofs.DeclarationsSound.{sound_declaration_within}

-- ---- an `else` is taken where it can be

abbrev pub NoElse : List Terminal → Type 0
NoElse ts = starts_with keywords.Else ts ≡ false

-- what follows a statement that an `else` would belong to is no `else`
abbrev pub Takes : Result (S × List Terminal) Stop → Type 0
Takes (Ok x) = is_open x.0.0 ≡ true → NoElse x.1
Takes (Err s) = Unit {0}

takes_read_on : {A : Type 0} (r : Result (A × List Terminal) Stop) (f : A → Parse S) → ((x : A) (ts : List Terminal) → Takes (f x ts)) → Takes (read_on r f)
takes_read_on (Ok x) f h = h x.0 x.1
takes_read_on (Err s) f h = tt

takes_if : (b : Bool) (r s : Result (S × List Terminal) Stop) → (b ≡ true → Takes r) → (b ≡ false → Takes s) → Takes (cond b r s)
takes_if true r s f g = f refl
takes_if false r s f g = g refl

-- where a statement ends as its last part does
takes_last : (r : Result (S × List Terminal) Stop) (g : S → S) → ((s : S) → is_open (g s).0 ≡ is_open s.0) → Takes r → Takes (read_on r (λ s us. Ok (g s, us)))
takes_last (Ok x) g same h = λ o. h (sym (same x.0) ∙ o)
takes_last (Err s) g same h = tt

-- where nothing in a statement can take an `else`
takes_closed : {A : Type 0} (r : Result (A × List Terminal) Stop) (g : A → S) → ((x : A) → is_open (g x).0 ≡ false) → Takes (read_on r (λ x us. Ok (g x, us)))
takes_closed (Ok x) g closed = λ o. absurd (true≢false (sym o ∙ closed x.0))
takes_closed (Err s) g closed = tt

module _ (m : ℕ) (inner : Parse S) (takes : (ts : List Terminal) → Takes (inner ts)) where
  takes_after_then : (at : ℕ) (e : E) (s : S) (ts : List Terminal) → Takes (after_then m inner at e s ts)
  takes_after_then at e s [] = λ o. refl
  takes_after_then at e s (t ∷ ts) =
      takes_if (is_keyword keywords.Else t) _ _
      (λ _. takes_last (inner ts) (λ t. (branch (unnumbered at) e.0 s.0 (else_by t.0), max e.1 (max s.1 t.1) + 1)) (λ t. refl) (takes ts))
      (λ no o. no)

  takes_keyword : (braces : Parse (List StmtTree × ℕ)) (t : Terminal) (ts : List Terminal) → Takes (keyword_statement m inner braces (place (t ∷ ts)) t ts)
  takes_keyword braces t ts =
      takes_if (is_keyword keywords.If t) _ _
      (λ _. takes_if (m == 0) _ _ (λ _. tt) (λ _. takes_read_on (condition m ts) _ (λ e us. takes_read_on (inner us) _ (λ s vs. takes_after_then (number_of t) e s vs))))
      (λ _. takes_if (is_keyword keywords.While t) _ _
      (λ _. takes_if (m == 0) _ _ (λ _. tt) (λ _. takes_read_on (condition m ts) _ (λ e us. takes_last (inner us) (λ s. (while_loop (unnumbered (number_of t)) e.0 s.0, max e.1 s.1 + 1)) (λ s. refl) (takes us))))
      (λ _. takes_if (is_keyword keywords.Do t) _ _
      (λ _. takes_if (m == 0) _ _ (λ _. tt) (λ _. takes_read_on (inner ts) _ (λ s us. takes_read_on (expect_while m inner us) _ (λ _ vs. takes_read_on (condition m vs) _ (λ e ws. takes_closed (expect punctuators.Semicolon ws) (λ _. (do_loop (unnumbered (number_of t)) s.0 e.0, max s.1 e.1 + 1)) (λ _. refl))))))
      (λ _. takes_if (is_keyword keywords.For t) _ _
      (λ _. takes_if (m == 0) _ _ (λ _. tt) (λ _. takes_read_on (expect punctuators.OpenParenthesis ts) _ (λ _ us. takes_read_on (start_of m us) _ (λ a vs. takes_read_on (optional m punctuators.Semicolon vs) _ (λ e ws. takes_read_on (optional m punctuators.CloseParenthesis ws) _
      (λ u xs. takes_last (inner xs) (λ s. (for_loop (unnumbered (number_of t)) a.0 e.0 u.0 s.0, max a.1 (max e.1 (max u.1 s.1)) + 1)) (λ s. refl) (takes xs)))))))
      (λ _. takes_if (is_keyword keywords.Switch t) _ _
      (λ _. takes_if (m == 0) _ _ (λ _. tt) (λ _. takes_read_on (condition m ts) _ (λ e us. takes_closed (braces us) (λ ss. (switch (unnumbered (number_of t)) e.0 (stmts_of ss.0), max e.1 ss.1 + 1)) (λ ss. refl))))
      (λ _. takes_if (is_keyword keywords.Break t) _ _ (λ _. takes_closed (expect punctuators.Semicolon ts) (λ _. (break (unnumbered (number_of t)), 1)) (λ _. refl))
      (λ _. takes_if (is_keyword keywords.Continue t) _ _ (λ _. takes_closed (expect punctuators.Semicolon ts) (λ _. (continue (unnumbered (number_of t)), 1)) (λ _. refl))
      (λ _. takes_if (is_keyword keywords.Return t) _ _ (λ _. takes_closed (optional m punctuators.Semicolon ts) (λ e. (return (unnumbered (number_of t)) e.0, e.1 + 1)) (λ e. refl))
      (λ _. takes_read_on (part m Expression (t ∷ ts)) _ (λ e us. takes_closed (expect punctuators.Semicolon us) (λ _. (expression (unnumbered (number_of t)) e.0, e.1 + 1)) (λ _. refl))))))))))

  takes_statement_at : (braces : Parse (List StmtTree × ℕ)) (ts : List Terminal) → Takes (statement_at m inner braces ts)
  takes_statement_at braces [] = tt
  takes_statement_at braces (t ∷ ts) =
      takes_if (is_punctuator punctuators.Semicolon t) _ _ (λ _ o. absurd (true≢false (sym o)))
      (λ _. takes_if (is_punctuator punctuators.OpenBrace t) _ _ (λ _. takes_closed (items m inner (length ts) [] 0 ts) (λ ss. (block (stmts_of ss.0), ss.1 + 1)) (λ ss. refl)) (λ _. takes_keyword braces t ts))

pub takes_statement : (n : ℕ) (ts : List Terminal) → Takes (statement n ts)
unfolding statement
takes_statement zero ts = takes_if (begins_statement ts) _ _ (λ _. tt) (λ _. tt)
takes_statement (suc m) ts = takes_statement_at m (statement m) (λ us. takes_statement m us) (switch_block m) ts

-- ---- readings

-- a keyword, and what follows
module _ {A : Type 0} {R : A → List Terminal → Type 0} where
  pub Sound-keyword : (k : key.Keyword) (t : Terminal) (ts : List Terminal) {r : Result (A × List Terminal) Stop} → is_keyword k t ≡ true → Sound (λ x l. R x (Keyword (number_of t) k ∷ l)) [] ts r → Sound R [] (t ∷ ts) r
  Sound-keyword k t ts e s = rw (keyword_is k t e) (Sound-first s)

  Sound-while-next : (m : ℕ) (inner : Parse S) (ts : List Terminal) (f : Unit {0} → Parse A) → ((w : ℕ) (us : List Terminal) → Sound (λ x l. R x (Keyword w keywords.While ∷ l)) [] us (f tt us)) → Sound R [] ts (read_on (expect_while m inner ts) f)
  Sound-while-next m inner [] f go = Sound-err at_end
  Sound-while-next m inner (t ∷ ts) f go = by_case (is_keyword keywords.While t) (λ e. keyword_is keywords.While t e)
    where
      by_case : (b : Bool) → (b ≡ true → t ≡ Keyword (number_of t) keywords.While) → Sound R [] (t ∷ ts) (read_on (cond b (Ok (tt, ts)) (unexpected (t ∷ ts))) f)
      by_case true h = rw (h refl) (Sound-first (go (number_of t) ts))
      by_case false h = Sound-err at_end

-- [ expression ] and the punctuator behind it
abbrev pub IsOptional : ℕ → punctuator.Punctuator → Option ExprTree × ℕ → List Terminal → Type 0
IsOptional m k x l = (inside : List Terminal) × (c : ℕ) × (l ≡ inside ++ Punctuator c k ∷ []) × ReadsOptional x.1 inside x.0 × (x.1 ≤ m)

pub sound_optional : (m : ℕ) (k : punctuator.Punctuator) (ts : List Terminal) → Sound (IsOptional m k) [] ts (optional m k ts)
sound_optional m k ts =
    Sound-if (starts k ts)
    (λ _. Sound-punctuator-next k ts _ (λ c us. Sound-ok ([], c, refl, nothing_there, omega arith)))
    (λ _. Sound-part _ (sound_part m Expression ts) (λ e front us r. Sound-punctuator-next k us _ (λ c vs. Sound-ok (front, c, refl, something_there r.0, r.1))))

-- an expression in parentheses
abbrev pub IsCondition : ℕ → E → List Terminal → Type 0
IsCondition m e l = (inside : List Terminal) × (o : ℕ) × (c : ℕ) × (l ≡ Punctuator o punctuators.OpenParenthesis ∷ (inside ++ Punctuator c punctuators.CloseParenthesis ∷ [])) × Reads Expression e.1 inside e.0 × (e.1 ≤ m)

pub sound_condition : (m : ℕ) (ts : List Terminal) → Sound (IsCondition m) [] ts (condition m ts)
sound_condition m ts = Sound-punctuator-next punctuators.OpenParenthesis ts _ (λ o us. Sound-part _ (sound_part m Expression us) (λ e front vs r. Sound-punctuator-next punctuators.CloseParenthesis vs _ (λ c ws. Sound-ok (front, o, c, refl, r.0, r.1))))

abbrev pub IsStart : ℕ → StartTree × ℕ → List Terminal → Type 0
IsStart m x l = ReadsStart x.1 l x.0 × (x.1 ≤ m)

pub sound_start : (m : ℕ) (ts : List Terminal) → Sound (IsStart m) [] ts (start_of m ts)
sound_start m ts =
    Sound-if (begins_type ts)
    (λ _. Sound-last _ (sound_declaration_within m ts) (λ d l r. (a_start_declaration r.0, r.1)))
    (λ _. Sound-if (starts punctuators.Semicolon ts)
    (λ _. Sound-punctuator-next punctuators.Semicolon ts _ (λ s us. Sound-ok (no_start_at_all s, omega arith)))
    (λ _. Sound-part _ (sound_part m Expression ts) (λ e front us r. Sound-punctuator-next punctuators.Semicolon us _ (λ s vs. Sound-ok (a_start_expression s r.0, r.1)))))

abbrev pub IsStatement : ℕ → S → List Terminal → Type 0
IsStatement n x l = ReadsStatement x.1 l x.0 × (x.1 ≤ n)

abbrev pub AllItems : ℕ → List Terminal → List StmtTree → Type 0
AllItems h l ss = ReadsItems h l (stmts_of ss)

abbrev pub IsItem : ℕ → S → List Terminal → Type 0
IsItem m x l = ReadsItem x.1 l x.0 × (x.1 ≤ m)

abbrev pub AreItems : ℕ → List StmtTree → ℕ → List StmtTree × ℕ → List Terminal → Type 0
AreItems m done h x l = Closed punctuators.CloseBrace AllItems m done h x l

abbrev pub IsSwitchItem : ℕ → Bool → Bool → S → List Terminal → Type 0
IsSwitchItem m labelled labels x l = ReadsSwitchItem labelled labels x.1 l x.0 × (x.1 ≤ m)

abbrev AllSwitchItems : Bool → ℕ → List Terminal → List StmtTree → Type 0
AllSwitchItems labelled h l ss = ReadsSwitchItems labelled h l (stmts_of ss)

abbrev AreSwitchItems : ℕ → Bool → List StmtTree → ℕ → List StmtTree × ℕ → List Terminal → Type 0
AreSwitchItems m labelled done h x l = Closed punctuators.CloseBrace (AllSwitchItems labelled) m done h x l

abbrev pub IsSwitchBlock : ℕ → List StmtTree × ℕ → List Terminal → Type 0
IsSwitchBlock n x l = ReadsSwitchBlock x.1 l (stmts_of x.0) × (x.1 ≤ n)

-- ---- one production each

no_items : (m : ℕ) (done : List StmtTree) (h c : ℕ) → AreItems m done h (done, h) (Punctuator c punctuators.CloseBrace ∷ [])
no_items m done h c = ([], 0, [], c, sym (append-nil done), omega arith, refl, no_item, omega arith)

further_item : (m : ℕ) (done : List StmtTree) (h : ℕ) (s : S) (front : List Terminal) → IsItem m s front → (y : List StmtTree × ℕ) (l : List Terminal) → AreItems m (done ++ s.0 ∷ []) (max h s.1) y l → AreItems m done h y (front ++ l)
further_item m done h s front (r, le) y l (ss, k, inside, c, p, q, e, i, low) = (
  s.0 ∷ ss,
  max s.1 k,
  front ++ inside,
  c,
  p ∙ append_assoc done (s.0 ∷ []) ss,
  omega arith,
  ap (λ l. front ++ l) e ∙ sym (append_assoc front inside (Punctuator c punctuators.CloseBrace ∷ [])),
  an_item r i,
  omega arith,
)

block_read : (m o : ℕ) (x : List StmtTree × ℕ) (l : List Terminal) → AreItems m [] 0 x l → IsStatement (suc m) (block (stmts_of x.0), x.1 + 1) (Punctuator o punctuators.OpenBrace ∷ l)
block_read m o x l r = go (all_closed punctuators.CloseBrace AllItems m x l r)
  where
    go : Ends punctuators.CloseBrace AllItems m x l → IsStatement (suc m) (block (stmts_of x.0), x.1 + 1) (Punctuator o punctuators.OpenBrace ∷ l)
    go (inside, c, e, q, le) = (rw (e, add-one x.1) (a_block o c q), omega arith)

-- what may stand in a block may stand in a switch where no label stands before it
pub as_switch_item : {h : ℕ} {ts : List Terminal} {s : StmtTree} → ReadsItem h ts s → ReadsSwitchItem false false h ts s
as_switch_item (a_statement r) = a_switch_statement r
as_switch_item (a_declared r) = a_switch_declaration r

case_read : (m at c : ℕ) (labelled : Bool) (e : E) (front : List Terminal) → 2 ≤ m → IsRead (m - 1) Conditional e front → IsSwitchItem m labelled true (case_label (unnumbered at) e.0, e.1 + 1) (Keyword at keywords.Case ∷ (front ++ Punctuator c punctuators.Colon ∷ []))
case_read m at c labelled e front two (r, le) = (rw (add-one e.1) (a_label (a_case at c r)), omega arith)

no_switch_items : (m : ℕ) (done : List StmtTree) (h c : ℕ) → AreSwitchItems m false done h (done, h) (Punctuator c punctuators.CloseBrace ∷ [])
no_switch_items m done h c = ([], 0, [], c, sym (append-nil done), omega arith, refl, no_switch_item, omega arith)

further_switch_item : (m : ℕ) (labelled labels : Bool) (done : List StmtTree) (h : ℕ) (s : S) (front : List Terminal) → IsSwitchItem m labelled labels s front → (y : List StmtTree × ℕ) (l : List Terminal) → AreSwitchItems m labels (done ++ s.0 ∷ []) (max h s.1) y l → AreSwitchItems m labelled done h y (front ++ l)
further_switch_item m labelled labels done h s front (r, le) y l (ss, k, inside, c, p, q, e, i, low) = (
  s.0 ∷ ss,
  max s.1 k,
  front ++ inside,
  c,
  p ∙ append_assoc done (s.0 ∷ []) ss,
  omega arith,
  ap (λ l. front ++ l) e ∙ sym (append_assoc front inside (Punctuator c punctuators.CloseBrace ∷ [])),
  a_switch_item r i,
  omega arith,
)

switch_block_read : (m o : ℕ) (x : List StmtTree × ℕ) (l : List Terminal) → AreSwitchItems m false [] 0 x l → IsSwitchBlock (suc m) (x.0, x.1 + 1) (Punctuator o punctuators.OpenBrace ∷ l)
switch_block_read m o x l r = go (all_closed punctuators.CloseBrace (AllSwitchItems false) m x l r)
  where
    go : Ends punctuators.CloseBrace (AllSwitchItems false) m x l → IsSwitchBlock (suc m) (x.0, x.1 + 1) (Punctuator o punctuators.OpenBrace ∷ l)
    go (inside, c, e, q, le) = (rw (e, add-one x.1) (in_braces o c q), omega arith)

pub switch_read : (m at : ℕ) (e : E) (x : List StmtTree × ℕ) (c ys : List Terminal) → IsCondition m e c → IsSwitchBlock m x ys → IsStatement (suc m) (switch (unnumbered at) e.0 (stmts_of x.0), max e.1 x.1 + 1) (Keyword at keywords.Switch ∷ (c ++ ys))
switch_read m at e x c ys (inside, o, p, is, r, le) (q, low) = (rw (is, append_assoc inside (Punctuator p punctuators.CloseParenthesis ∷ []) ys, add-one (max e.1 x.1)) (a_switch at o p r q), omega arith)

pub if_read : (m at : ℕ) (e : E) (s : S) (c ys : List Terminal) → IsCondition m e c → IsStatement m s ys → IsStatement (suc m) (branch (unnumbered at) e.0 s.0 no_else, max e.1 s.1 + 1) (Keyword at keywords.If ∷ (c ++ ys))
if_read m at e s c ys (inside, o, p, is, r, le) (q, low) = (rw (is, append_assoc inside (Punctuator p punctuators.CloseParenthesis ∷ []) ys, add-one (max e.1 s.1)) (an_if at o p r q), omega arith)

pub else_read : (m at n : ℕ) (e : E) (s t : S) (c ys zs : List Terminal) → IsCondition m e c → IsStatement m s ys → is_open s.0 ≡ false → IsStatement m t zs
    → IsStatement (suc m) (branch (unnumbered at) e.0 s.0 (else_by t.0), max e.1 (max s.1 t.1) + 1) (Keyword at keywords.If ∷ (c ++ (ys ++ Keyword n keywords.Else ∷ zs)))
else_read m at n e s t c ys zs (inside, o, p, is, r, le) (q, low) closed (z, least) =
    (rw (is, append_assoc inside (Punctuator p punctuators.CloseParenthesis ∷ []) (ys ++ Keyword n keywords.Else ∷ zs), add-one (max e.1 (max s.1 t.1))) (an_if_with_else at o p n r q closed z), omega arith)

pub while_read : (m at : ℕ) (e : E) (s : S) (c ys : List Terminal) → IsCondition m e c → IsStatement m s ys → IsStatement (suc m) (while_loop (unnumbered at) e.0 s.0, max e.1 s.1 + 1) (Keyword at keywords.While ∷ (c ++ ys))
while_read m at e s c ys (inside, o, p, is, r, le) (q, low) = (rw (is, append_assoc inside (Punctuator p punctuators.CloseParenthesis ∷ []) ys, add-one (max e.1 s.1)) (a_while at o p r q), omega arith)

pub do_read : (m at w n : ℕ) (s : S) (e : E) (xs c : List Terminal) → IsStatement m s xs → IsCondition m e c
    → IsStatement (suc m) (do_loop (unnumbered at) s.0 e.0, max s.1 e.1 + 1) (Keyword at keywords.Do ∷ (xs ++ Keyword w keywords.While ∷ (c ++ Punctuator n punctuators.Semicolon ∷ [])))
do_read m at w n s e xs c (q, low) (inside, o, p, is, r, le) =
    (rw (is, append_assoc inside (Punctuator p punctuators.CloseParenthesis ∷ []) (Punctuator n punctuators.Semicolon ∷ []), add-one (max s.1 e.1)) (a_do at w o p n q r), omega arith)

pub for_read : (m at o : ℕ) (a : StartTree × ℕ) (e u : Option ExprTree × ℕ) (s : S) (ws xs ys zs : List Terminal) → IsStart m a ws → IsOptional m punctuators.Semicolon e xs → IsOptional m punctuators.CloseParenthesis u ys → IsStatement m s zs
    → IsStatement (suc m) (for_loop (unnumbered at) a.0 e.0 u.0 s.0, max a.1 (max e.1 (max u.1 s.1)) + 1) (Keyword at keywords.For ∷ Punctuator o punctuators.OpenParenthesis ∷ (ws ++ (xs ++ (ys ++ zs))))
for_read m at o a e u s ws xs ys zs (start, l1) (first, n, d1, r1, l2) (second, c, d2, r2, l3) (q, l4) = (
  rw (d1, d2, append_assoc second (Punctuator c punctuators.CloseParenthesis ∷ []) zs, append_assoc first (Punctuator n punctuators.Semicolon ∷ []) (second ++ Punctuator c punctuators.CloseParenthesis ∷ zs), add-one (max a.1 (max e.1 (max u.1 s.1))))
      (a_for at o n c start r1 r2 q),
  omega arith,
)

pub return_read : (m at : ℕ) (e : Option ExprTree × ℕ) (xs : List Terminal) → IsOptional m punctuators.Semicolon e xs → IsStatement (suc m) (return (unnumbered at) e.0, e.1 + 1) (Keyword at keywords.Return ∷ xs)
return_read m at e xs (inside, s, d, r, le) = (rw (d, add-one e.1) (a_return at s r), omega arith)

expression_read : (m : ℕ) (ts us : List Terminal) (e : E) (front : List Terminal) → ts ≡ front ++ us → IsRead m Expression e front → (s : ℕ) → IsStatement (suc m) (expression (unnumbered (place ts)) e.0, e.1 + 1) (front ++ Punctuator s punctuators.Semicolon ∷ [])
expression_read m ts us e front split (r, le) s = (rw (split, place_more r us, add-one e.1) (an_expression s r), omega arith)

-- ---- the functions

module _ (m : ℕ) (inner : Parse S) (takes : (ts : List Terminal) → Takes (inner ts)) (sound : (ts : List Terminal) → Sound (IsStatement m) [] ts (inner ts)) where
  pub sound_item : (ts : List Terminal) → Sound (IsItem m) [] ts (item m inner ts)
  sound_item ts = Sound-if (begins_type ts) (λ _. Sound-last _ (sound_declaration_within m ts) (λ d l r. (a_declared r.0, r.1))) (λ _. Sound-mono (λ x l r. (a_statement r.0, r.1)) (sound ts))

  pub sound_items : (n : ℕ) (done : List StmtTree) (h : ℕ) (ts : List Terminal) → Sound (AreItems m done h) [] ts (items m inner n done h ts)
  unfolding items
  sound_items zero done h ts = Sound-err at_end
  sound_items (suc n) done h ts =
      Sound-if (starts punctuators.CloseBrace ts)
      (λ _. Sound-punctuator-next punctuators.CloseBrace ts _ (λ c us. Sound-ok (no_items m done h c)))
      (λ _. Sound-part _ (sound_item ts) (λ s front us r. Sound-mono (further_item m done h s front r) (sound_items n (done ++ s.0 ∷ []) (max h s.1) us)))

  -- a label whose keyword stands first
  sound_case : (labelled : Bool) (ts : List Terminal) → starts_with keywords.Case ts ≡ true → Sound (IsSwitchItem m labelled true) [] ts (case_of m inner ts)
  sound_case labelled [] e = Sound-err at_end
  sound_case labelled (t ∷ ts) e =
      Sound-above m 2 (Sound-err at_end)
      (λ two. Sound-keyword keywords.Case t ts e (Sound-part _ (sound_part (m - 1) Conditional ts) (λ x front us r. Sound-punctuator-next punctuators.Colon us _ (λ c vs. Sound-ok (case_read m (number_of t) c labelled x front two r)))))

  sound_default : (labelled : Bool) (ts : List Terminal) → starts_with keywords.Default ts ≡ true → Sound (IsSwitchItem m labelled true) [] ts (default_of m inner ts)
  sound_default labelled [] e = Sound-err at_end
  sound_default labelled (t ∷ ts) e =
      Sound-if (m == 0) (λ _. Sound-err at_end) (λ some. Sound-keyword keywords.Default t ts e (Sound-punctuator-next punctuators.Colon ts _ (λ c us. Sound-ok (a_label (a_default (number_of t) c), some_room m some))))

  sound_no_label : (labelled : Bool) (ts : List Terminal) → Sound (IsSwitchItem m labelled false) [] ts (cond labelled (inner ts) (item m inner ts))
  sound_no_label true ts = Sound-mono (λ x l r. (a_switch_statement r.0, r.1)) (sound ts)
  sound_no_label false ts = Sound-mono (λ x l r. (as_switch_item r.0, r.1)) (sound_item ts)

  pub sound_switch_item : (labelled : Bool) (ts : List Terminal) → Sound (IsSwitchItem m labelled (begins_label ts)) [] ts (switch_item m inner labelled ts)
  sound_switch_item labelled ts = by_case (starts_with keywords.Case ts) (starts_with keywords.Default ts) refl refl
    where
      by_case : (b c : Bool) → starts_with keywords.Case ts ≡ b → starts_with keywords.Default ts ≡ c → Sound (IsSwitchItem m labelled (b || c)) [] ts (cond b (case_of m inner ts) (cond c (default_of m inner ts) (cond labelled (inner ts) (item m inner ts))))
      by_case true c e d = sound_case labelled ts e
      by_case false true e d = sound_default labelled ts d
      by_case false false e d = sound_no_label labelled ts

  sound_switch_items : (n : ℕ) (labelled : Bool) (done : List StmtTree) (h : ℕ) (ts : List Terminal) → Sound (AreSwitchItems m labelled done h) [] ts (switch_items m inner n labelled done h ts)
  unfolding switch_items
  sound_switch_items zero labelled done h ts = Sound-err at_end
  sound_switch_items (suc n) true done h ts =
      Sound-part _ (sound_switch_item true ts) (λ s front us r. Sound-mono (further_switch_item m true (begins_label ts) done h s front r) (sound_switch_items n (begins_label ts) (done ++ s.0 ∷ []) (max h s.1) us))
  sound_switch_items (suc n) false done h ts =
      Sound-if (starts punctuators.CloseBrace ts)
      (λ _. Sound-punctuator-next punctuators.CloseBrace ts _ (λ c us. Sound-ok (no_switch_items m done h c)))
      (λ _. Sound-part _ (sound_switch_item false ts) (λ s front us r. Sound-mono (further_switch_item m false (begins_label ts) done h s front r) (sound_switch_items n (begins_label ts) (done ++ s.0 ∷ []) (max h s.1) us)))

  sound_switch_block_at : (ts : List Terminal) → Sound (IsSwitchBlock (suc m)) [] ts (switch_block_at m inner ts)
  sound_switch_block_at ts = Sound-punctuator-next punctuators.OpenBrace ts _ (λ o us. Sound-last _ (sound_switch_items (length us) false [] 0 us) (switch_block_read m o))

  pub taken_there : (ts us : List Terminal) (s : S) → inner ts ≡ Ok (s, us) → is_open s.0 ≡ true → NoElse us
  taken_there ts us s e = rw e at (takes ts)

  sound_after_then : (at : ℕ) (e : E) (s : S) (c ys : List Terminal) → IsCondition m e c → IsStatement m s ys → (ts : List Terminal) → (is_open s.0 ≡ true → NoElse ts)
      → Sound (λ x l. IsStatement (suc m) x (Keyword at keywords.If ∷ (c ++ (ys ++ l)))) [] ts (after_then m inner at e s ts)
  sound_after_then at e s c ys r q [] end = Sound-ok (rw (append-nil ys) (if_read m at e s c ys r q))
  sound_after_then at e s c ys r q (t ∷ ts) end =
      Sound-if (is_keyword keywords.Else t)
      (λ yes. Sound-keyword keywords.Else t ts yes (Sound-last _ (sound ts)
      (λ u zs z. else_read m at (number_of t) e s u c ys zs r q (false_from_ne_true (is_open s.0) (λ o. true≢false (sym yes ∙ end o))) z)))
      (λ _. Sound-ok (rw (append-nil ys) (if_read m at e s c ys r q)))

  module _ (braces : Parse (List StmtTree × ℕ)) (sound_braces : (ts : List Terminal) → Sound (IsSwitchBlock m) [] ts (braces ts)) where
    sound_keyword : (t : Terminal) (ts : List Terminal) → Sound (IsStatement (suc m)) [] (t ∷ ts) (keyword_statement m inner braces (place (t ∷ ts)) t ts)
    sound_keyword t ts =
        Sound-if (is_keyword keywords.If t)
        (λ is. Sound-if (m == 0) (λ _. Sound-err at_end) (λ _. Sound-keyword keywords.If t ts is
        (Sound-part _ (sound_condition m ts) (λ e c us r. Sound-part-is _ (sound us) (λ s ys vs read _ q. sound_after_then (number_of t) e s c ys r q vs (taken_there us vs s read))))))
        (λ _. Sound-if (is_keyword keywords.While t)
        (λ is. Sound-if (m == 0) (λ _. Sound-err at_end) (λ _. Sound-keyword keywords.While t ts is
        (Sound-part _ (sound_condition m ts) (λ e c us r. Sound-last _ (sound us) (λ s ys q. while_read m (number_of t) e s c ys r q)))))
        (λ _. Sound-if (is_keyword keywords.Do t)
        (λ is. Sound-if (m == 0) (λ _. Sound-err at_end) (λ _. Sound-keyword keywords.Do t ts is
        (Sound-part _ (sound ts) (λ s xs us q. Sound-while-next m inner us _ (λ w vs. Sound-part _ (sound_condition m vs) (λ e c ws r. Sound-punctuator-next punctuators.Semicolon ws _ (λ n ys. Sound-ok (do_read m (number_of t) w n s e xs c q r))))))))
        (λ _. Sound-if (is_keyword keywords.For t)
        (λ is. Sound-if (m == 0) (λ _. Sound-err at_end) (λ _. Sound-keyword keywords.For t ts is
        (Sound-punctuator-next punctuators.OpenParenthesis ts _ (λ o us. Sound-part _ (sound_start m us) (λ a ws vs r1. Sound-part _ (sound_optional m punctuators.Semicolon vs) (λ e xs ws' r2. Sound-part _ (sound_optional m punctuators.CloseParenthesis ws')
        (λ u ys xs' r3. Sound-last _ (sound xs') (λ s zs q. for_read m (number_of t) o a e u s ws xs ys zs r1 r2 r3 q))))))))
        (λ _. Sound-if (is_keyword keywords.Switch t)
        (λ is. Sound-if (m == 0) (λ _. Sound-err at_end) (λ _. Sound-keyword keywords.Switch t ts is
        (Sound-part _ (sound_condition m ts) (λ e c us r. Sound-last _ (sound_braces us) (λ x ys q. switch_read m (number_of t) e x c ys r q)))))
        (λ _. Sound-if (is_keyword keywords.Break t)
        (λ is. Sound-keyword keywords.Break t ts is (Sound-punctuator-next punctuators.Semicolon ts _ (λ s us. Sound-ok (a_break (number_of t) s, omega arith))))
        (λ _. Sound-if (is_keyword keywords.Continue t)
        (λ is. Sound-keyword keywords.Continue t ts is (Sound-punctuator-next punctuators.Semicolon ts _ (λ s us. Sound-ok (a_continue (number_of t) s, omega arith))))
        (λ _. Sound-if (is_keyword keywords.Return t)
        (λ is. Sound-keyword keywords.Return t ts is (Sound-last _ (sound_optional m punctuators.Semicolon ts) (λ e xs r. return_read m (number_of t) e xs r)))
        (λ _. Sound-part-is _ (sound_part m Expression (t ∷ ts)) (λ e front us _ split r. Sound-punctuator-next punctuators.Semicolon us _ (λ s vs. Sound-ok (expression_read m (t ∷ ts) us e front split r s)))))))))))

    sound_statement_at : (ts : List Terminal) → Sound (IsStatement (suc m)) [] ts (statement_at m inner braces ts)
    sound_statement_at [] = Sound-err at_end
    sound_statement_at (t ∷ ts) =
        Sound-if (is_punctuator punctuators.Semicolon t)
        (λ is. rw (punctuator_is punctuators.Semicolon t is) (Sound-first (Sound-ok (an_empty (number_of t), omega arith))))
        (λ _. Sound-if (is_punctuator punctuators.OpenBrace t)
        (λ is. rw (punctuator_is punctuators.OpenBrace t is) (Sound-first (Sound-last _ (sound_items (length ts) [] 0 ts) (block_read m (number_of t)))))
        (λ _. sound_keyword t ts))

mutual
  unfolding statement switch_block

  pub sound_statement : (n : ℕ) (ts : List Terminal) → Sound (IsStatement n) [] ts (statement n ts)
  sound_statement zero ts = Sound-if (begins_statement ts) (λ _. Sound-err at_end) (λ _. Sound-err at_end)
  sound_statement (suc m) ts = sound_statement_at m (statement m) (λ us. takes_statement m us) (λ us. sound_statement m us) (switch_block m) (λ us. sound_switch_block m us) ts

  pub sound_switch_block : (n : ℕ) (ts : List Terminal) → Sound (IsSwitchBlock n) [] ts (switch_block n ts)
  sound_switch_block zero ts = Sound-if (starts punctuators.OpenBrace ts) (λ _. Sound-err at_end) (λ _. Sound-err at_end)
  sound_switch_block (suc m) ts = sound_switch_block_at m (statement m) (λ us. takes_statement m us) (λ us. sound_statement m us) ts
