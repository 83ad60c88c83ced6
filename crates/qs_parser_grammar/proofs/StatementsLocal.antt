-- What the parser of statements and units answers depends on no token behind the one at which it stops.
use Rattle.std.proofs.Common.{◌≡◌, ℕ, zero, suc, ◌+◌, ◌<◌, ◌≤◌, Bool, true, false, cond, List, [], ◌∷◌, ◌++◌, length, Result, Ok, Err, refl, sym, ap, subst, ◌∙◌, arith, inl, inr, length-append, None, Some, Option}
use Rattle.std.specs.Prelude.{◌⊎◌, ◌-◌, max, nat_le, ◌==◌}
use Rattle.qs_syntax_vocabulary.specs.declared.terminal.Terminal.{Terminal}
use Rattle.qs_syntax_vocabulary.specs.declared.terminal.Terminal.TheVariants.{Name, TypeName, Keyword, Constant, Text, Punctuator}
use Rattle.qs_base.specs.declared.keyword.Keyword.TheVariants as keywords
use Rattle.qs_syntax_vocabulary.specs.declared.punctuator.Punctuator as punctuator
use Rattle.qs_syntax_vocabulary.specs.declared.punctuator.Punctuator.TheVariants as punctuators
use Rattle.qs_syntax.specs.declared.types.Base.{Base}
use Rattle.qs_syntax.specs.declared.types.Base.TheVariants as bases
use Rattle.qs_syntax.specs.Trees.{unnumbered, ParameterTree, DeclarationTree, StmtTree, expression, case_label, default_label, DeclTree, DefinedTree, of_base, DeclaratorTree}
use Rattle.qs_syntax.specs.Trees as trees
use Rattle.qs_syntax_vocabulary.specs.Operators.{number_of}
use Rattle.qs_syntax.specs.Reads.{Conditional, Expression}
use Rattle.qs_syntax.specs.ReadsDeclarations.{ReadsDeclaration, a_declaration}
use Rattle.qs_syntax.specs.ReadsStatements.{ReadsStatement, a_block, an_empty, an_expression, an_if, an_if_with_else, a_while, a_do, a_for, a_switch, a_break, a_continue, a_return, ReadsLabel, a_case, a_default, ReadsSwitchItem, a_label, a_switch_statement, a_switch_declaration}
use Rattle.qs_parser_grammar.specs.Heads.{is_punctuator, is_keyword, starts, starts_with, begins_type}
use Rattle.qs_parser_grammar.specs.Parse.{Stop, Parse, read_on, E, unexpected, deep, expect, skip_consts, tagged, stars, part, expect_name, type}
use Rattle.qs_parser_grammar.specs.ParseDeclarations.{outer_type, declaration_within, declared, declarator, groups, head}
use Rattle.qs_parser_grammar.specs.ParseStatements.{S, optional, condition, start_of, begins_statement, begins_label, ends_switch, item, items, case_of, default_of, switch_item, switch_items, switch_block_at, after_then, after_if, after_while, expect_while, after_do, after_for, running, after_switch, plain_statement, keyword_statement, statement_at, statement, switch_block, is_named, struct_of, forward_of, body_of, function_of, typed, external, is_empty, externals, unit, braced, has_members, in_marks, known_type, struct_defined, type_names, typedef_of, plain, defined}
use Rattle.qs_parser_grammar.proofs.HeadsLaws.{keyword_is, finds_name}
use Rattle.qs_parser_grammar.proofs.NodeCounts.{type_some}
use Rattle.qs_parser_grammar.proofs.DeclarationsSound.{sound_declaration_within}
use Rattle.qs_parser_grammar.proofs.StatementsSound.{takes_statement, sound_statement, sound_switch_item}
use Rattle.qs_parser_grammar.proofs.UnitsSound.{sound_external}
use Rattle.qs_parser_grammar.proofs.UnitsComplete.{external_takes}
use Rattle.qs_parser_grammar.proofs.ExpressionsLocal.{Local-skip, Local-tagged, Local-stars, Local-part, Local-type}
use Rattle.qs_parser_grammar.proofs.DeclarationsLocal.{Local-outer_type, Local-named, named_fewer, Local-declared, declared_left, Local-declaration_within, Local-groups, Local-head, Local-declarator, declarator_nothing}
use Rattle.qs_parser_grammar.proofs.Local.{left, Local, read_on-left, Local-read_on, Local-look, Local-first, Local-weak, Local-cons, Local-cond, Local-ok, Local-here, Local-unexpected, Local-deep, Local-unexpected-all, Local-deep-all, Local-if, Local-starts, Local-punctuator, Local-name, Looks, cond-left, Local-two, Local-far, read_on_same, read_on_nothing, cond_same, Turns, Local-same, Local-turns, sound_takes, Local-after, after_same, leaves_less}
use Rattle.qs_syntax.specs.ReadsTypes.{Any, Plain, ReadsName, a_plain_name, a_name_of_a_type}
use Rattle.qs_syntax.specs.ReadsUnits.{names_behind}
use Rattle.qs_syntax_vocabulary.specs.Marks.{NameSet}
use Rattle.qs_parser_grammar.proofs.MarkLaws.{Local-marks}

module _ (m : ℕ) where
  Local-optional : (k : punctuator.Punctuator) → Local 0 (optional m k)
  Local-optional k = Local-starts k _ _ (Local-punctuator k _ (λ _. Local-ok _)) (Local-read_on _ (λ e. Local-punctuator k _ (λ _. Local-ok _)) (part m Expression) (Local-part m Expression))

  Local-condition : Local 0 (condition m)
  Local-condition = Local-punctuator punctuators.OpenParenthesis _ (λ _. Local-read_on _ (λ e. Local-punctuator punctuators.CloseParenthesis _ (λ _. Local-ok e)) (part m Expression) (Local-part m Expression))

  Local-start : Local 0 (start_of m)
  Local-start =
      Local-if begins_type (λ t ts us. refl) _ _ (Local-read_on _ (λ d. Local-ok _) (declaration_within m) (Local-declaration_within m))
      (Local-starts punctuators.Semicolon _ _ (Local-punctuator punctuators.Semicolon _ (λ _. Local-ok _)) (Local-read_on _ (λ e. Local-punctuator punctuators.Semicolon _ (λ _. Local-ok _)) (part m Expression) (Local-part m Expression)))

declaration_some : {h : ℕ} {ts : List Terminal} {d : DeclarationTree} → ReadsDeclaration h ts d → 0 < length ts
declaration_some (a_declaration {xs = xs} {ys = ys} s t r) = omega (arith, type_some t, length-append xs (ys ++ Punctuator s punctuators.Semicolon ∷ []))

statement_some : {h : ℕ} {ts : List Terminal} {s : StmtTree} → ReadsStatement h ts s → 0 < length ts
statement_some (a_block o c r) = omega arith
statement_some (an_empty at) = omega arith
statement_some (an_expression {ts = ts} s r) = omega (arith, length-append ts (Punctuator s punctuators.Semicolon ∷ []))
statement_some (an_if at o c r s) = omega arith
statement_some (an_if_with_else at o c n r s closed t) = omega arith
statement_some (a_while at o c r s) = omega arith
statement_some (a_do at w o c n s r) = omega arith
statement_some (a_for at o n c a e u s) = omega arith
statement_some (a_switch at o c r s) = omega arith
statement_some (a_break at s) = omega arith
statement_some (a_continue at s) = omega arith
statement_some (a_return at s r) = omega arith

label_some : {h : ℕ} {ts : List Terminal} {s : StmtTree} → ReadsLabel h ts s → 0 < length ts
label_some (a_case at c r) = omega arith
label_some (a_default at c) = omega arith

switch_item_some : {labelled labels : Bool} {h : ℕ} {ts : List Terminal} {s : StmtTree} → ReadsSwitchItem labelled labels h ts s → 0 < length ts
switch_item_some (a_label r) = label_some r
switch_item_some (a_switch_statement r) = statement_some r
switch_item_some (a_switch_declaration r) = declaration_some r

declaration_takes : (n : ℕ) (ts : List Terminal) (x : DeclarationTree × ℕ) (us : List Terminal) → declaration_within n ts ≡ Ok (x, us) → length us < length ts
declaration_takes n ts x us e = sound_takes ts (declaration_within n ts) (sound_declaration_within n ts) (λ x l r. declaration_some r.0) x us e

module _ (m : ℕ) (inner : Parse S) (good : Local 0 inner) (nothing : inner [] ≡ unexpected []) (shorter : (ts : List Terminal) (x : S) (us : List Terminal) → inner ts ≡ Ok (x, us) → length us < length ts) where
  Local-item : Local 0 (item m inner)
  Local-item = Local-if begins_type (λ t ts us. refl) _ _ (Local-read_on _ (λ d. Local-ok _) (declaration_within m) (Local-declaration_within m)) good

  read_on_takes : {A B : Type 0} (g : A → B) (r : Result (A × List Terminal) Stop) (n : ℕ) → ((x : A) (us : List Terminal) → r ≡ Ok (x, us) → length us < n) → (y : B) (us : List Terminal) → read_on r (λ x us. Ok (g x, us)) ≡ Ok (y, us) → length us < n
  read_on_takes {A} {B} g (Ok x) n h y us e = let pair : ◌≡◌ {A = B × List Terminal} (g x.0, x.1) (y, us) = cc in subst (λ (l : List Terminal). length l < n) (ap (λ (p : B × List Terminal). p.1) pair) (h x.0 x.1 refl)
  read_on_takes g (Err s) n h y us e = absurd cc

  item_takes : (ts : List Terminal) (x : S) (us : List Terminal) → item m inner ts ≡ Ok (x, us) → length us < length ts
  item_takes ts x us e = by_case (begins_type ts) e
    where
      by_case : (b : Bool) → cond b (read_on (declaration_within m ts) (λ d us. Ok ((trees.declaration d.0, d.1), us))) (inner ts) ≡ Ok (x, us) → length us < length ts
      by_case true e = read_on_takes (λ d. (trees.declaration d.0, d.1)) (declaration_within m ts) (length ts) (declaration_takes m ts) x us e
      by_case false e = shorter ts x us e

  abbrev items_turn : (List StmtTree × ℕ → Parse (List StmtTree × ℕ)) → List StmtTree × ℕ → Parse (List StmtTree × ℕ)
  items_turn f x ts = cond (starts punctuators.CloseBrace ts) (read_on (expect punctuators.CloseBrace ts) (λ _ us. Ok ((x.0, x.1), us))) (read_on (item m inner ts) (λ s us. f (x.0 ++ s.0 ∷ [], max x.1 s.1) us))

  items_turns : Turns (λ n x. items m inner n x.0 x.1) items_turn
  unfolding items
  items_turns = record {
    turn = λ n x ts. refl;
    none = λ x. read_on_nothing _ nothing;
    takes = λ f g x ts same. cond_same (starts punctuators.CloseBrace ts) refl (read_on_same (item m inner ts) _ _ (λ s us read. same _ us (item_takes ts s us read)));
    last = λ x. Local-unexpected-all;
    further = λ f local x. Local-starts punctuators.CloseBrace _ _ (Local-punctuator punctuators.CloseBrace _ (λ _. Local-ok _)) (Local-read_on _ (λ s. local _) (item m inner) Local-item);
  }

  pub Local-items : Local 0 (λ ts. items m inner (length ts) [] 0 ts)
  Local-items = Local-turns _ _ items_turns ([], 0)

  Local-after_then : (at : ℕ) (e : E) (s : S) → Local 0 (after_then m inner at e s)
  Local-after_then at e s = Local-look (after_then m inner at e s) refl (λ t. Local-cond (is_keyword keywords.Else t) _ _ (Local-weak _ (Local-read_on _ (λ t. Local-ok _) inner good)) (Local-here _ t))

  Local-if_behind : (at : ℕ) → Local 0 (after_if m inner at)
  Local-if_behind at = Local-read_on _ (λ e. Local-read_on _ (λ s. Local-after_then at e s) inner good) (condition m) (Local-condition m)

  Local-while : (at : ℕ) → Local 0 (after_while m inner at)
  Local-while at = Local-read_on _ (λ e. Local-read_on _ (λ s. Local-ok _) inner good) (condition m) (Local-condition m)

  Local-expect_while : Local 0 (expect_while m inner)
  Local-expect_while = Local-look (expect_while m inner) refl (λ t. Local-cond (is_keyword keywords.While t) _ _ (Local-weak _ (Local-ok tt)) Local-unexpected)

  Local-do : (at : ℕ) → Local 0 (after_do m inner at)
  Local-do at = Local-read_on _ (λ s. Local-read_on _ (λ _. Local-read_on _ (λ e. Local-punctuator punctuators.Semicolon _ (λ _. Local-ok _)) (condition m) (Local-condition m)) (expect_while m inner) Local-expect_while) inner good

  Local-for : (at : ℕ) → Local 0 (after_for m inner at)
  Local-for at =
      Local-punctuator punctuators.OpenParenthesis _ (λ _. Local-read_on _ (λ a. Local-read_on _ (λ e. Local-read_on _ (λ u. Local-read_on _ (λ s. Local-ok _) inner good) (optional m punctuators.CloseParenthesis) (Local-optional m punctuators.CloseParenthesis)) (optional m punctuators.Semicolon) (Local-optional m punctuators.Semicolon)) (start_of m) (Local-start m))

  Local-running : (t : Terminal) → Local 1 (λ ts. running m inner (t ∷ ts))
  Local-running t = Local-cons (λ us. read_on (part m Expression us) (λ e vs. read_on (expect punctuators.Semicolon vs) (λ _ ws. Ok ((expression (unnumbered (number_of t)) e.0, e.1 + 1), ws)))) t
      (Local-read_on _ (λ e. Local-punctuator punctuators.Semicolon _ (λ _. Local-ok _)) (part m Expression) (Local-part m Expression))

  Local-plain : (at : ℕ) (t : Terminal) → Local 1 (plain_statement m inner at t)
  Local-plain at t =
      Local-cond (is_keyword keywords.Break t) _ _ (Local-weak _ (Local-punctuator punctuators.Semicolon _ (λ _. Local-ok _)))
      (Local-cond (is_keyword keywords.Continue t) _ _ (Local-weak _ (Local-punctuator punctuators.Semicolon _ (λ _. Local-ok _)))
      (Local-cond (is_keyword keywords.Return t) _ _ (Local-weak _ (Local-read_on _ (λ e. Local-ok _) (optional m punctuators.Semicolon) (Local-optional m punctuators.Semicolon))) (Local-running t)))

  Local-case : Local 0 (case_of m inner)
  Local-case = Local-look (case_of m inner) refl
      (λ t. Local-cond (nat_le 2 m) _ _ (Local-weak _ (Local-read_on _ (λ e. Local-punctuator punctuators.Colon _ (λ _. Local-ok (case_label (unnumbered (number_of t)) e.0, e.1 + 1))) (part (m - 1) Conditional) (Local-part (m - 1) Conditional))) Local-deep)

  Local-default : Local 0 (default_of m inner)
  Local-default = Local-look (default_of m inner) refl (λ t. Local-cond (m == 0) _ _ Local-deep (Local-weak _ (Local-punctuator punctuators.Colon _ (λ _. Local-ok (default_label (unnumbered (number_of t)), 1)))))

  Local-switch_item : (labelled : Bool) → Local 0 (switch_item m inner labelled)
  Local-switch_item labelled = Local-if (starts_with keywords.Case) (λ t ts us. refl) _ _ Local-case
      (Local-if (starts_with keywords.Default) (λ t ts us. refl) _ _ Local-default (Local-cond labelled _ _ good Local-item))

  abbrev SwitchItems : Type 0
  SwitchItems = Bool × List StmtTree × ℕ

  abbrev behind_item : (SwitchItems → Parse (List StmtTree × ℕ)) → SwitchItems → Bool → Parse (List StmtTree × ℕ)
  behind_item f x labels ts = read_on (switch_item m inner x.0 ts) (λ s us. f (labels, x.1 ++ s.0 ∷ [], max x.2 s.1) us)

  abbrev switch_turn : (SwitchItems → Parse (List StmtTree × ℕ)) → SwitchItems → Parse (List StmtTree × ℕ)
  switch_turn f x ts = cond (ends_switch x.0 ts) (read_on (expect punctuators.CloseBrace ts) (λ _ us. Ok ((x.1, x.2), us))) (behind_item f x (begins_label ts) ts)

  no_switch_turn : (f : SwitchItems → Parse (List StmtTree × ℕ)) (labelled : Bool) (done : List StmtTree) (h : ℕ) → switch_turn f (labelled, done, h) [] ≡ unexpected []
  no_switch_turn f true done h = read_on_nothing _ nothing
  no_switch_turn f false done h = read_on_nothing _ nothing

  module _ (switch_item_takes : (labelled : Bool) (ts : List Terminal) (x : S) (us : List Terminal) → switch_item m inner labelled ts ≡ Ok (x, us) → length us < length ts) where
    switch_turns : Turns (λ n (x : SwitchItems). switch_items m inner n x.0 x.1 x.2) switch_turn
    unfolding switch_items
    switch_turns = record {
      turn = λ n x ts. refl;
      none = λ x. no_switch_turn (λ (y : SwitchItems). switch_items m inner zero y.0 y.1 y.2) x.0 x.1 x.2;
      takes = λ f g x ts same. cond_same (ends_switch x.0 ts) refl (read_on_same (switch_item m inner x.0 ts) _ _ (λ s us read. same _ us (switch_item_takes x.0 ts s us read)));
      last = λ x. Local-unexpected-all;
      further = λ f local x. Local-if (ends_switch x.0) (λ t ts us. refl) _ (λ ts. behind_item f x (begins_label ts) ts) (Local-punctuator punctuators.CloseBrace _ (λ _. Local-ok _))
          (Local-first begins_label (λ t ts us. refl) (behind_item f x) (λ labels. Local-read_on _ (λ s. local _) (switch_item m inner x.0) (Local-switch_item x.0)));
    }

    Local-switch_block_at : Local 0 (switch_block_at m inner)
    Local-switch_block_at = Local-punctuator punctuators.OpenBrace _ (λ _. Local-read_on _ (λ ss. Local-ok _) (λ us. switch_items m inner (length us) false [] 0 us) (Local-turns _ _ switch_turns (false, [], 0)))

  module _ (braces : Parse (List StmtTree × ℕ)) (closed : Local 0 braces) where
    Local-switch : (at : ℕ) → Local 0 (after_switch m inner braces at)
    Local-switch at = Local-read_on _ (λ e. Local-read_on _ (λ ss. Local-ok _) braces closed) (condition m) (Local-condition m)

    Local-keyword : (at : ℕ) (t : Terminal) → Local 1 (keyword_statement m inner braces at t)
    Local-keyword at t =
        Local-cond (is_keyword keywords.If t) _ _ (Local-cond (m == 0) _ _ Local-deep (Local-weak _ (Local-if_behind at)))
        (Local-cond (is_keyword keywords.While t) _ _ (Local-cond (m == 0) _ _ Local-deep (Local-weak _ (Local-while at)))
        (Local-cond (is_keyword keywords.Do t) _ _ (Local-cond (m == 0) _ _ Local-deep (Local-weak _ (Local-do at)))
        (Local-cond (is_keyword keywords.For t) _ _ (Local-cond (m == 0) _ _ Local-deep (Local-weak _ (Local-for at)))
        (Local-cond (is_keyword keywords.Switch t) _ _ (Local-cond (m == 0) _ _ Local-deep (Local-weak _ (Local-switch at)))
        (Local-plain at t)))))

    Local-at : Local 0 (statement_at m inner braces)
    Local-at = Local-look (statement_at m inner braces) refl
        (λ t. Local-cond (is_punctuator punctuators.Semicolon t) _ _ (Local-weak _ (Local-ok _))
        (Local-cond (is_punctuator punctuators.OpenBrace t) _ _ (Local-weak _ (Local-read_on _ (λ ss. Local-ok _) (λ ts. items m inner (length ts) [] 0 ts) Local-items)) (Local-keyword (number_of t) t)))

begins_statement_same : (t : Terminal) (ts us : List Terminal) → begins_statement (t ∷ ts) ≡ begins_statement (t ∷ us)
begins_statement_same (Name at x) ts us = refl
begins_statement_same (TypeName at x) ts us = refl
begins_statement_same (Keyword at k) ts us = refl
begins_statement_same (Constant at n unsigned) ts us = refl
begins_statement_same (Text at bytes) ts us = refl
begins_statement_same (Punctuator at k) ts us = refl

statement_nothing : (n : ℕ) → statement n [] ≡ unexpected []
unfolding statement
statement_nothing zero = refl
statement_nothing (suc n) = refl

statement_takes : (n : ℕ) (ts : List Terminal) (x : S) (us : List Terminal) → statement n ts ≡ Ok (x, us) → length us < length ts
statement_takes n ts x us e = sound_takes ts (statement n ts) (sound_statement n ts) (λ x l r. statement_some r.0) x us e

switch_item_takes : (m : ℕ) (labelled : Bool) (ts : List Terminal) (x : S) (us : List Terminal) → switch_item m (statement m) labelled ts ≡ Ok (x, us) → length us < length ts
switch_item_takes m labelled ts x us e =
    sound_takes ts (switch_item m (statement m) labelled ts) (sound_switch_item m (statement m) (λ vs. takes_statement m vs) (λ vs. sound_statement m vs) labelled ts) (λ x l r. switch_item_some r.0) x us e

mutual
  unfolding statement switch_block

  pub Local-statement : (n : ℕ) → Local 0 (statement n)
  Local-statement zero = Local-if begins_statement begins_statement_same deep unexpected Local-deep-all Local-unexpected-all
  Local-statement (suc m) = Local-at m (statement m) (Local-statement m) (statement_nothing m) (statement_takes m) (switch_block m) (Local-switch_block m)

  Local-switch_block : (n : ℕ) → Local 0 (switch_block n)
  Local-switch_block zero = Local-starts punctuators.OpenBrace deep unexpected Local-deep-all Local-unexpected-all
  Local-switch_block (suc m) = Local-switch_block_at m (statement m) (Local-statement m) (statement_nothing m) (statement_takes m) (switch_item_takes m)

-- ---- units

module _ (k : ℕ) where
  abbrev behind_struct : ℕ → ℕ × List ℕ → Parse (DeclTree × ℕ)
  behind_struct at x us =
      read_on (expect punctuators.OpenBrace us) (λ _ vs. read_on (groups k (length vs) [] 0 vs) (λ ms ws. read_on (expect punctuators.Semicolon ws) (λ _ xs. Ok ((trees.structure (record { node = unnumbered at; name = Some x.1; members = ms.0 }), ms.1 + 1), xs))))

  Local-behind_struct : (at : ℕ) (x : ℕ × List ℕ) → Local 0 (behind_struct at x)
  Local-behind_struct at x = Local-punctuator punctuators.OpenBrace _ (λ _. Local-read_on _ (λ ms. Local-punctuator punctuators.Semicolon _ (λ _. Local-ok _)) (λ vs. groups k (length vs) [] 0 vs) (Local-groups k))

  Local-struct : (at : ℕ) → Local 0 (struct_of k at)
  Local-struct at = Local-name Any (behind_struct at) (Local-behind_struct at)

  Local-behind_forward : (at : ℕ) (x : List ℕ) → Local {A = DeclTree × ℕ} 0 (λ us. read_on (expect punctuators.Semicolon us) (λ _ vs. Ok ((trees.forward (record { node = unnumbered at; name = x }), 1), vs)))
  Local-behind_forward at x = Local-punctuator punctuators.Semicolon _ (λ _. Local-ok _)

  Local-forward : (at : ℕ) → Local 0 (forward_of at)
  Local-forward at = Local-name Any _ (λ x. Local-behind_forward at x.1)

  Local-body : (start : ℕ) (b : Base) (n : ℕ) (x : List ℕ) (ps : List ParameterTree × ℕ) → Local 0 (body_of k start b n x ps)
  Local-body start b n x ps =
      Local-starts punctuators.Semicolon _ _ (Local-punctuator punctuators.Semicolon _ (λ _. Local-ok _))
      (Local-punctuator punctuators.OpenBrace _ (λ _. Local-read_on _ (λ ss. Local-ok _) (λ us. items k (statement k) (length us) [] 0 us) (Local-items k (statement k) (Local-statement k) (statement_nothing k) (statement_takes k))))

  abbrev behind_name : (start : ℕ) → Base → ℕ → ℕ × List ℕ → Parse (DeclTree × ℕ)
  behind_name start b n x us = read_on (expect punctuators.OpenParenthesis us) (λ _ vs. read_on (head k vs) (body_of k start b n x.1))

  Local-behind_name : (start : ℕ) (b : Base) (n : ℕ) (x : ℕ × List ℕ) → Local 0 (behind_name start b n x)
  Local-behind_name start b n x = Local-punctuator punctuators.OpenParenthesis _ (λ _. Local-read_on _ (λ ps. Local-body start b n x.1 ps) (head k) (Local-head k))

  Local-function : (start : ℕ) (b : Base) (n : ℕ) → Local 0 (function_of k start b n)
  Local-function start b n = Local-name Plain (behind_name start b n) (Local-behind_name start b n)

  abbrev function_there : (start : ℕ) → Base → Parse (DeclTree × ℕ)
  function_there start b ts = function_of k start b (stars ts).0 (stars ts).1

  abbrev variables_there : Base → Parse (DeclTree × ℕ)
  variables_there b ts = read_on (declared (k + 1) b ts) (λ d us. Ok ((trees.variables d.0, d.1), us))

  Local-function_there : (start : ℕ) (b : Base) → Local 0 (function_there start b)
  Local-function_there start b = Local-read_on (λ n us. function_of k start b n us) (λ n. Local-function start b n) (λ ts. Ok (stars ts)) Local-stars

  Local-variables_there : (b : Base) → Local 0 (variables_there b)
  Local-variables_there b = Local-read_on _ (λ d. Local-ok _) (declared (k + 1) b) (Local-declared (k + 1) b)

  variables_left : (b : Base) (ts : List Terminal) → left (variables_there b ts) ≤ left (declarator Plain (k + 1) ts)
  variables_left b ts = omega (arith, read_on-left _ (λ (d : DeclarationTree × ℕ). Local-ok {A = DeclTree × ℕ} (trees.variables d.0, d.1)) (declared (k + 1) b ts), declared_left (k + 1) b ts)

  -- as many are left as behind the stars, or fewer behind a name
  function_fewer : (start : ℕ) (b : Base) (n at : ℕ) (x : List ℕ) (us : List Terminal) → left (function_of k start b n (Name at x ∷ us)) ≤ length us
  function_fewer start b n at x us = omega (arith, (Local-behind_name start b n (at, x)).shrinks us)

  abbrev Decides : (start : ℕ) → Base → List Terminal → List Terminal → Type 0
  Decides start b ts us =
      (is_named Plain punctuators.OpenParenthesis (stars (ts ++ us)).1 ≡ is_named Plain punctuators.OpenParenthesis (stars ts).1)
      ⊎ ((left (cond (is_named Plain punctuators.OpenParenthesis (stars ts).1) (function_there start b ts) (variables_there b ts)) ≡ 0)
      × (left (cond (is_named Plain punctuators.OpenParenthesis (stars (ts ++ us)).1) (function_there start b (ts ++ us)) (variables_there b (ts ++ us))) ≤ length us))

  stars_same : (ts us : List Terminal) → 0 < length (stars ts).1 → (stars (ts ++ us)).1 ≡ (stars ts).1 ++ us
  stars_same ts us h = let same : ◌≡◌ {A = Result (ℕ × List Terminal) Stop} (Ok (stars (ts ++ us))) (Ok ((stars ts).0, (stars ts).1 ++ us)) = Local-stars.stable ts us h in
      let pair : ◌≡◌ {A = ℕ × List Terminal} (stars (ts ++ us)) ((stars ts).0, (stars ts).1 ++ us) = cc in ap (λ (p : ℕ × List Terminal). p.1) pair

  -- all is stopped at the end
  stopped : (start : ℕ) (b : Base) (ts us : List Terminal) → left (function_there start b ts) ≤ 0 → left (variables_there b ts) ≤ 0 → left (function_there start b (ts ++ us)) ≤ length us → Decides start b ts us
  stopped start b ts us none nothing fewer = inr (
    omega (arith, cond-left (is_named Plain punctuators.OpenParenthesis (stars ts).1) (function_there start b ts) (variables_there b ts) 0 none nothing),
    cond-left (is_named Plain punctuators.OpenParenthesis (stars (ts ++ us)).1) (function_there start b (ts ++ us)) (variables_there b (ts ++ us)) (length us) fewer ((Local-variables_there b).passes ts us (omega (arith, nothing))),
  )

  declarator_left : (ts : List Terminal) → left (declarator Plain (k + 1) ts) ≤ 0 + length (stars ts).1
  unfolding declarator
  declarator_left ts = (Local-named Plain (k + 1) (stars ts).0).shrinks (stars ts).1

  named_left : (ts : List Terminal) (at : ℕ) (x : List ℕ) → (stars ts).1 ≡ Name at x ∷ [] → left (declarator Plain (k + 1) ts) ≤ 0
  unfolding declarator
  named_left ts at x e = rw e (named_fewer (k + 1) (stars ts).0 at x [])

  decides : (start : ℕ) (b : Base) (ts us l : List Terminal) → (stars ts).1 ≡ l → Decides start b ts us
  decides start b ts us [] e =
      let length_none : length (stars ts).1 ≡ 0 = ap length e in
      let behind : length (stars (ts ++ us)).1 ≤ length us = Local-stars.passes ts us length_none in
      stopped start b ts us (omega (arith, (Local-function start b (stars ts).0).shrinks (stars ts).1)) (omega (arith, variables_left b ts, declarator_left ts))
      (omega (arith, (Local-function start b (stars (ts ++ us)).0).shrinks (stars (ts ++ us)).1))
  decides start b ts us (Name at x ∷ []) e =
      stopped start b ts us
      (subst (λ l. left (function_of k start b (stars ts).0 l) ≤ 0) (sym e) (function_fewer start b (stars ts).0 at x []))
      (omega (arith, variables_left b ts, named_left ts at x e))
      (subst (λ l. left (function_of k start b (stars (ts ++ us)).0 l) ≤ length us) (sym (stars_same ts us (omega (arith, ap length e)) ∙ ap (λ l. l ++ us) e)) (function_fewer start b (stars (ts ++ us)).0 at x us))
  decides start b ts us (Name at x ∷ t ∷ l) e = inl (rw (stars_same ts us (omega (arith, ap length e)), e) refl)
  decides start b ts us (TypeName at x ∷ l) e = inl (rw (stars_same ts us (omega (arith, ap length e)), e) refl)
  decides start b ts us (Keyword at x ∷ l) e = inl (rw (stars_same ts us (omega (arith, ap length e)), e) refl)
  decides start b ts us (Constant at n unsigned ∷ l) e = inl (rw (stars_same ts us (omega (arith, ap length e)), e) refl)
  decides start b ts us (Text at bytes ∷ l) e = inl (rw (stars_same ts us (omega (arith, ap length e)), e) refl)
  decides start b ts us (Punctuator at n ∷ l) e = inl (rw (stars_same ts us (omega (arith, ap length e)), e) refl)

  Local-typed : (start : ℕ) (b : Base) → Local 0 (typed k start b)
  Local-typed start b = Local-far (λ ts. is_named Plain punctuators.OpenParenthesis (stars ts).1) (function_there start b) (variables_there b) (Local-function_there start b) (Local-variables_there b) (λ ts us. decides start b ts us (stars ts).1 refl)

  -- ---- externals

  -- what stands behind `struct`
  abbrev Fewer : {A : Type 0} → Parse A → Type 0
  Fewer p = (t : Terminal) (at : ℕ) (x : List ℕ) → ReadsName Any t at x → (us : List Terminal) → left (p (t ∷ us)) ≤ length us

  Looks-named : {A : Type 0} (n : punctuator.Punctuator) (p q : Parse A) → Fewer p → Fewer q → (t : Terminal) → Looks (is_named Any n) p q t
  Looks-named n p q f g (Name at x) = inr (record { same = λ u ts us. refl; passed = f (Name at x) at x (a_plain_name at x); passed_else = g (Name at x) at x (a_plain_name at x) })
  Looks-named n p q f g (TypeName at x) = inr (record { same = λ u ts us. refl; passed = f (TypeName at x) at x (a_name_of_a_type at x); passed_else = g (TypeName at x) at x (a_name_of_a_type at x) })
  Looks-named n p q f g (Keyword at x) = inl (λ ts us. refl)
  Looks-named n p q f g (Constant at x unsigned) = inl (λ ts us. refl)
  Looks-named n p q f g (Text at x) = inl (λ ts us. refl)
  Looks-named n p q f g (Punctuator at x) = inl (λ ts us. refl)

  -- what goes on behind a name stops behind it
  fewer_behind : {A : Type 0} (f : ℕ × List ℕ → Parse A) → ((x : ℕ × List ℕ) → Local 0 (f x)) → Fewer (λ ts. read_on (expect_name Any ts) f)
  fewer_behind f good t at x is us = rw (finds_name is us) (omega (arith, (good (at, x)).shrinks us))

  abbrev other_external : ℕ → Terminal → Parse (DeclTree × ℕ)
  other_external start t ts = read_on (outer_type (t ∷ ts)) (typed k start)

  abbrev struct_type : (at : ℕ) → Parse (DeclTree × ℕ)
  struct_type at ts = read_on (read_on (tagged ts) (λ b us. Ok (b, skip_consts us))) (typed k at)

  Local-struct_type : (at : ℕ) → Local 0 (struct_type at)
  Local-struct_type at = Local-read_on (typed k at) (λ b. Local-typed at b) (λ ts. read_on (tagged ts) (λ b us. Ok (b, skip_consts us))) (Local-read_on _ (λ b. Local-skip b) tagged Local-tagged)

  -- a type behind its name
  Local-behind_tag : (at : ℕ) (x : List ℕ) → Local 0 (λ us. read_on (read_on (Ok (bases.Struct x, us)) (λ b us. Ok (b, skip_consts us))) (typed k at))
  Local-behind_tag at x = Local-read_on (typed k at) (λ b. Local-typed at b) (λ us. read_on (Ok (bases.Struct x, us)) (λ b us. Ok (b, skip_consts us))) (Local-read_on _ (λ b. Local-skip b) (λ us. Ok (bases.Struct x, us)) (Local-ok (bases.Struct x)))

  struct_fewer : (at : ℕ) → Fewer (struct_of k at)
  struct_fewer at = fewer_behind (behind_struct at) (Local-behind_struct at)

  forward_fewer : (at : ℕ) → Fewer (forward_of at)
  forward_fewer at = fewer_behind _ (λ x. Local-behind_forward at x.1)

  type_fewer : (at : ℕ) → Fewer (struct_type at)
  type_fewer at t n x is us = rw (finds_name is us) (omega (arith, (Local-behind_tag at x).shrinks us))

  abbrev forward_or_type : (at : ℕ) → Parse (DeclTree × ℕ)
  forward_or_type at ts = cond (is_named Any punctuators.Semicolon ts) (forward_of at ts) (struct_type at ts)

  Local-forward_or_type : (at : ℕ) → Local 0 (forward_or_type at)
  Local-forward_or_type at = Local-two (is_named Any punctuators.Semicolon) (forward_of at) (struct_type at) (Local-forward at) (Local-struct_type at) (Looks-named punctuators.Semicolon (forward_of at) (struct_type at) (forward_fewer at) (type_fewer at))

  Local-behind_keyword : (at : ℕ) → Local 0 (λ ts. cond (is_named Any punctuators.OpenBrace ts) (struct_of k at ts) (forward_or_type at ts))
  Local-behind_keyword at =
      Local-two (is_named Any punctuators.OpenBrace) (struct_of k at) (forward_or_type at) (Local-struct at) (Local-forward_or_type at)
      (Looks-named punctuators.OpenBrace (struct_of k at) (forward_or_type at) (struct_fewer at) (λ t n x is us. cond-left (is_named Any punctuators.Semicolon (t ∷ us)) (forward_of at (t ∷ us)) (struct_type at (t ∷ us)) (length us) (forward_fewer at t n x is us) (type_fewer at t n x is us)))

  plain_struct : (at : ℕ) → Local 1 (λ ts. plain k (Keyword at keywords.Struct ∷ ts))
  unfolding plain outer_type
  plain_struct at = Local-weak _ (Local-behind_keyword at)

  plain_other : (t : Terminal) → is_keyword keywords.Struct t ≡ false → Local 1 (λ ts. plain k (t ∷ ts))
  unfolding plain
  plain_other t e = Local-same (λ ts. other_external (number_of t) t ts) (λ ts. plain k (t ∷ ts)) (λ ts. rw e refl) (Local-cons (λ us. read_on (outer_type us) (typed k (number_of t))) t (Local-read_on _ (λ b. Local-typed (number_of t) b) outer_type Local-outer_type))

  plain_nothing : plain k [] ≡ unexpected []
  unfolding plain
  plain_nothing = refl

  pub Local-plain_external : Local 0 (plain k)
  Local-plain_external = Local-look (plain k) (ap left plain_nothing) (λ t. by_case t (is_keyword keywords.Struct t) refl)
    where
      by_case : (t : Terminal) (b : Bool) → is_keyword keywords.Struct t ≡ b → Local 1 (λ ts. plain k (t ∷ ts))
      by_case t true e = subst (λ u. Local 1 (λ ts. plain k (u ∷ ts))) (sym (keyword_is keywords.Struct t e)) (plain_struct (number_of t))
      by_case t false e = plain_other t e

  -- ---- what a typedef gives names to

  Local-braced : (at : ℕ) (x : Option (List ℕ)) → Local 0 (braced k at x)
  Local-braced at x = Local-punctuator punctuators.OpenBrace _ (λ _. Local-read_on _ (λ ms. Local-ok _) (λ us. groups k (length us) [] 0 us) (Local-groups k))

  abbrev tag_and_braces : (at : ℕ) → Parse (DefinedTree × ℕ)
  tag_and_braces at ts = read_on (expect_name Any ts) (λ x us. braced k at (Some x.1) us)

  Local-tag_and_braces : (at : ℕ) → Local 0 (tag_and_braces at)
  Local-tag_and_braces at = Local-name Any (λ x us. braced k at (Some x.1) us) (λ x. Local-braced at (Some x.1))

  Local-struct_defined : (at : ℕ) → Local 0 (struct_defined k at)
  Local-struct_defined at = Local-starts punctuators.OpenBrace (braced k at None) (tag_and_braces at) (Local-braced at None) (Local-tag_and_braces at)

  abbrev struct_known : Parse (DefinedTree × ℕ)
  struct_known ts = read_on (read_on (tagged ts) (λ b us. Ok (b, skip_consts us))) (λ b us. Ok ((of_base b, 0), us))

  Local-struct_known : Local 0 struct_known
  Local-struct_known = Local-read_on _ (λ b. Local-ok (of_base b, 0)) (λ ts. read_on (tagged ts) (λ b us. Ok (b, skip_consts us))) (Local-read_on _ (λ b. Local-skip b) tagged Local-tagged)

  -- a struct's name, behind it
  Local-named_known : (x : List ℕ) → Local {A = DefinedTree × ℕ} 0 (λ us. read_on (read_on (Ok (bases.Struct x, us)) (λ b us. Ok (b, skip_consts us))) (λ b us. Ok ((of_base b, 0), us)))
  Local-named_known x = Local-read_on _ (λ b. Local-ok (of_base b, 0)) (λ us. read_on (Ok (bases.Struct x, us)) (λ b us. Ok (b, skip_consts us))) (Local-read_on _ (λ b. Local-skip b) (λ us. Ok (bases.Struct x, us)) (Local-ok (bases.Struct x)))

  known_fewer : Fewer struct_known
  known_fewer t n x is us = rw (finds_name is us) (omega (arith, (Local-named_known x).shrinks us))

  Looks-members : (at : ℕ) (t : Terminal) → Looks has_members (struct_defined k at) struct_known t
  Looks-members at (Name n x) = inr (record { same = λ u ts us. refl; passed = λ us. omega (arith, (Local-braced at (Some x)).shrinks us); passed_else = known_fewer (Name n x) n x (a_plain_name n x) })
  Looks-members at (TypeName n x) = inr (record { same = λ u ts us. refl; passed = λ us. omega (arith, (Local-braced at (Some x)).shrinks us); passed_else = known_fewer (TypeName n x) n x (a_name_of_a_type n x) })
  Looks-members at (Keyword n x) = inl (λ ts us. refl)
  Looks-members at (Constant n x unsigned) = inl (λ ts us. refl)
  Looks-members at (Text n x) = inl (λ ts us. refl)
  Looks-members at (Punctuator n x) = inl (λ ts us. refl)

  defined_struct : (at : ℕ) → Local 1 (λ ts. defined k (Keyword at keywords.Struct ∷ ts))
  unfolding defined type
  defined_struct at = Local-weak _ (Local-two has_members (struct_defined k at) struct_known (Local-struct_defined at) Local-struct_known (Looks-members at))

  defined_other : (t : Terminal) → is_keyword keywords.Struct t ≡ false → Local 1 (λ ts. defined k (t ∷ ts))
  unfolding defined
  defined_other t e = Local-same (λ ts. known_type (t ∷ ts)) (λ ts. defined k (t ∷ ts)) (λ ts. rw e refl) (Local-cons known_type t (Local-read_on _ (λ b. Local-ok (of_base b, 0)) type Local-type))

  defined_nothing : defined k [] ≡ unexpected []
  unfolding defined
  defined_nothing = refl

  Local-defined : Local 0 (defined k)
  Local-defined = Local-look (defined k) (ap left defined_nothing) (λ t. by_case t (is_keyword keywords.Struct t) refl)
    where
      by_case : (t : Terminal) (b : Bool) → is_keyword keywords.Struct t ≡ b → Local 1 (λ ts. defined k (t ∷ ts))
      by_case t true e = subst (λ u. Local 1 (λ ts. defined k (u ∷ ts))) (sym (keyword_is keywords.Struct t e)) (defined_struct (number_of t))
      by_case t false e = defined_other t e

  -- ---- externals

  abbrev TypeNames : Type 0
  TypeNames = NameSet × List DeclaratorTree × ℕ

  abbrev names_turn : (TypeNames → Parse (List DeclaratorTree × ℕ)) → TypeNames → Parse (List DeclaratorTree × ℕ)
  names_turn f x ts =
      read_on (in_marks x.0 (declarator Any (k + 1)) ts) (λ d us. cond (starts punctuators.Semicolon us) (read_on (expect punctuators.Semicolon us) (λ _ vs. Ok ((x.1 ++ d.0 ∷ [], max x.2 (d.1 + 1)), vs)))
      (read_on (expect punctuators.Comma us) (λ _ vs. f (d.0.name ∷ x.0, x.1 ++ d.0 ∷ [], max x.2 (d.1 + 1)) vs)))

  Local-type_name : (set : NameSet) → Local 0 (in_marks set (declarator Any (k + 1)))
  Local-type_name set = Local-marks set (declarator Any (k + 1)) (Local-declarator Any (k + 1))

  names_turns : Turns (λ n (x : TypeNames). type_names (k + 1) x.0 n x.1 x.2) names_turn
  unfolding type_names
  names_turns = record {
    turn = λ n x ts. refl;
    none = λ x. read_on_nothing _ (read_on_nothing _ (declarator_nothing Any (k + 1)));
    takes = λ f g x ts same. read_on_same (in_marks x.0 (declarator Any (k + 1)) ts) _ _
        (λ d us read. after_same punctuators.Semicolon punctuators.Comma (x.1 ++ d.0 ∷ [], max x.2 (d.1 + 1)) (f (d.0.name ∷ x.0, x.1 ++ d.0 ∷ [], max x.2 (d.1 + 1))) (g (d.0.name ∷ x.0, x.1 ++ d.0 ∷ [], max x.2 (d.1 + 1))) us
        (λ vs lt. same _ vs (let less = leaves_less (in_marks x.0 (declarator Any (k + 1))) (Local-type_name x.0) ts d us read in omega arith)));
    last = λ x. Local-unexpected-all;
    further = λ f local x. Local-read_on _ (λ d. Local-after punctuators.Semicolon punctuators.Comma _ _ (local (d.0.name ∷ x.0, x.1 ++ d.0 ∷ [], max x.2 (d.1 + 1)))) (in_marks x.0 (declarator Any (k + 1))) (Local-type_name x.0);
  }

  Local-typedef : (set : NameSet) → Local 0 (typedef_of k set)
  Local-typedef set =
      Local-read_on _ (λ t. Local-read_on _ (λ ds. Local-ok _) (λ us. type_names (k + 1) set (length us) [] 0 us) (Local-turns _ _ names_turns (set, [], 0))) (in_marks set (defined k)) (Local-marks set (defined k) Local-defined)

  external_nothing : (set : NameSet) → external k set [] ≡ unexpected []
  unfolding external
  external_nothing set = refl

  Local-external : (set : NameSet) → Local 0 (external k set)
  unfolding external
  Local-external set = Local-look (external k set) refl
      (λ t. Local-cond (is_keyword keywords.Typedef t) (typedef_of k set) (λ ts. in_marks set (plain k) (t ∷ ts)) (Local-weak _ (Local-typedef set)) (Local-cons _ t (Local-marks set (plain k) Local-plain_external)))

  abbrev Externals : Type 0
  Externals = NameSet × List DeclTree × ℕ

  abbrev externals_turn : (Externals → Parse (List DeclTree × ℕ)) → Externals → Parse (List DeclTree × ℕ)
  externals_turn f x ts = read_on (external k x.0 ts) (λ d us. cond (is_empty us) (Ok ((x.1 ++ d.0 ∷ [], max x.2 d.1), us)) (f (names_behind x.0 d.0, x.1 ++ d.0 ∷ [], max x.2 d.1) us))

  externals_turns : Turns (λ n (x : Externals). externals k x.0 n x.1 x.2) externals_turn
  unfolding externals
  externals_turns = record {
    turn = λ n x ts. refl;
    none = λ x. read_on_nothing _ (external_nothing x.0);
    takes = λ f g x ts same. read_on_same (external k x.0 ts) _ _ (λ d us read. cond_same (is_empty us) refl (same _ us (sound_takes ts (external k x.0 ts) (sound_external k x.0 ts) (λ x l r. external_takes r.0) d us read)));
    last = λ x. Local-unexpected-all;
    further = λ f local x. Local-read_on _ (λ d. Local-if is_empty (λ t ts us. refl) _ _ (Local-ok _) (local _)) (external k x.0) (Local-external x.0);
  }

  pub Local-unit : Local 0 (unit k)
  unfolding unit
  Local-unit = Local-turns _ _ externals_turns ([], [], 0)
