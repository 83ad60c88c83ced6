-- With more room a statement or a unit is answered in the same way, but for what was too deep.
use Rattle.std.proofs.Common.{◌≡◌, ℕ, zero, suc, ◌+◌, ◌≤◌, Bool, true, false, cond, List, [], ◌∷◌, ◌++◌, length, Result, refl, arith, Err, None, Some, Option}
use Rattle.std.specs.Prelude.{◌-◌, max, ◌&&◌}
use Rattle.std.proofs.lemmas.Bool.{or_parts}
use Rattle.qs_syntax_vocabulary.specs.declared.terminal.Terminal.{Terminal}
use Rattle.qs_base.specs.declared.keyword.Keyword.TheVariants as keywords
use Rattle.qs_syntax_vocabulary.specs.declared.punctuator.Punctuator as punctuator
use Rattle.qs_syntax_vocabulary.specs.declared.punctuator.Punctuator.TheVariants as punctuators
use Rattle.qs_syntax.specs.declared.types.Base.{Base}
use Rattle.qs_syntax.specs.Trees.{StmtTree, ParameterTree, DeclTree, DeclaratorTree}
use Rattle.qs_syntax.specs.Reads.{Conditional, Expression, place}
use Rattle.qs_parser_grammar.specs.Heads.{is_punctuator, is_keyword, starts, starts_with, begins_type}
use Rattle.qs_parser_grammar.specs.Parse.{Parse, Stop, Unexpected, E, unexpected, deep, expect, expect_name, stars, begins_one}
use Rattle.qs_parser_grammar.specs.ParseDeclarations.{outer_type, declarator}
use Rattle.qs_parser_grammar.specs.ParseStatements.{S, optional, condition, start_of, begins_statement, begins_label, ends_switch, item, items, case_of, default_of, switch_item, switch_items, switch_block_at, after_then, after_if, after_while, expect_while, after_do, after_for, after_switch, plain_statement, keyword_statement, statement_at, statement, switch_block, is_named, struct_of, body_of, function_of, typed, external, is_empty, externals, unit, braced, has_members, type_names, typedef_of, plain, defined}
use Rattle.qs_parser_grammar.proofs.MoreRoom.{DeepOrSame, DeepOrSame-refl, DeepOrSame-deep, DeepOrSame-read_on, DeepOrSame-then, DeepOrSame-last, DeepOrSame-some, DeepOrSame-above, DeepOrSame-cond, DeepOrSame-unexpected}
use Rattle.qs_parser_grammar.proofs.ExpressionsMoreRoom.{not_begun, more_room_part}
use Rattle.qs_parser_grammar.proofs.DeclarationsMoreRoom.{more_room_declared, more_room_declaration_within, more_room_groups, more_room_head, more_room_declarator}
use Rattle.qs_syntax.specs.ReadsTypes.{Any, Plain}
use Rattle.qs_syntax.specs.ReadsUnits.{names_behind}
use Rattle.qs_syntax_vocabulary.specs.Marks.{NameSet, marked}
use Rattle.qs_parser_grammar.proofs.MarkLaws.{DeepOrSame-marks}

module _ (m n : ℕ) (le : m ≤ n) where
  more_room_optional : (k : punctuator.Punctuator) (ts : List Terminal) → DeepOrSame (optional m k ts) (optional n k ts)
  more_room_optional k ts = DeepOrSame-cond (starts k ts) DeepOrSame-refl (DeepOrSame-last _ (more_room_part m n le Expression ts))

  more_room_condition : (ts : List Terminal) → DeepOrSame (condition m ts) (condition n ts)
  more_room_condition ts = DeepOrSame-then (expect punctuators.OpenParenthesis ts) _ _ (λ _ us. DeepOrSame-last _ (more_room_part m n le Expression us))

  more_room_start : (ts : List Terminal) → DeepOrSame (start_of m ts) (start_of n ts)
  more_room_start ts = DeepOrSame-cond (begins_type ts) (DeepOrSame-last _ (more_room_declaration_within m n le ts)) (DeepOrSame-cond (starts punctuators.Semicolon ts) DeepOrSame-refl (DeepOrSame-last _ (more_room_part m n le Expression ts)))

  module _ (p q : Parse S) (g : (ts : List Terminal) → DeepOrSame (p ts) (q ts)) where
    more_room_item : (ts : List Terminal) → DeepOrSame (item m p ts) (item n q ts)
    more_room_item ts = DeepOrSame-cond (begins_type ts) (DeepOrSame-last _ (more_room_declaration_within m n le ts)) (g ts)

    pub more_room_items : (k : ℕ) (done : List StmtTree) (h : ℕ) (ts : List Terminal) → DeepOrSame (items m p k done h ts) (items n q k done h ts)
    unfolding items
    more_room_items zero done h ts = DeepOrSame-refl
    more_room_items (suc k) done h ts = DeepOrSame-cond (starts punctuators.CloseBrace ts) DeepOrSame-refl (DeepOrSame-read_on _ _ (more_room_item ts) (λ s us. more_room_items k (done ++ s.0 ∷ []) (max h s.1) us))

    more_room_case : (ts : List Terminal) → DeepOrSame (case_of m p ts) (case_of n q ts)
    more_room_case [] = DeepOrSame-refl
    more_room_case (t ∷ ts) = DeepOrSame-above (suc (length ts)) 2 m n le (DeepOrSame-last _ (more_room_part (m - 1) (n - 1) (omega arith) Conditional ts))

    more_room_default : (ts : List Terminal) → DeepOrSame (default_of m p ts) (default_of n q ts)
    more_room_default [] = DeepOrSame-refl
    more_room_default (t ∷ ts) = DeepOrSame-some (suc (length ts)) m n le DeepOrSame-refl

    more_room_switch_item : (labelled : Bool) (ts : List Terminal) → DeepOrSame (switch_item m p labelled ts) (switch_item n q labelled ts)
    more_room_switch_item labelled ts = DeepOrSame-cond (starts_with keywords.Case ts) (more_room_case ts) (DeepOrSame-cond (starts_with keywords.Default ts) (more_room_default ts) (DeepOrSame-cond labelled (g ts) (more_room_item ts)))

    more_room_switch_items : (k : ℕ) (labelled : Bool) (done : List StmtTree) (h : ℕ) (ts : List Terminal) → DeepOrSame (switch_items m p k labelled done h ts) (switch_items n q k labelled done h ts)
    unfolding switch_items
    more_room_switch_items zero labelled done h ts = DeepOrSame-refl
    more_room_switch_items (suc k) labelled done h ts =
        DeepOrSame-cond (ends_switch labelled ts) DeepOrSame-refl (DeepOrSame-read_on _ _ (more_room_switch_item labelled ts) (λ s us. more_room_switch_items k (begins_label ts) (done ++ s.0 ∷ []) (max h s.1) us))

    more_room_switch_block_at : (ts : List Terminal) → DeepOrSame (switch_block_at m p ts) (switch_block_at n q ts)
    more_room_switch_block_at ts = DeepOrSame-then (expect punctuators.OpenBrace ts) _ _ (λ _ us. DeepOrSame-last _ (more_room_switch_items (length us) false [] 0 us))

    more_room_after_then : (at : ℕ) (e : E) (s : S) (ts : List Terminal) → DeepOrSame (after_then m p at e s ts) (after_then n q at e s ts)
    more_room_after_then at e s [] = DeepOrSame-refl
    more_room_after_then at e s (t ∷ ts) = DeepOrSame-cond (is_keyword keywords.Else t) (DeepOrSame-last _ (g ts)) DeepOrSame-refl

    more_room_if : (at : ℕ) (ts : List Terminal) → DeepOrSame (after_if m p at ts) (after_if n q at ts)
    more_room_if at ts = DeepOrSame-read_on _ _ (more_room_condition ts) (λ e us. DeepOrSame-read_on _ _ (g us) (λ s vs. more_room_after_then at e s vs))

    more_room_while : (at : ℕ) (ts : List Terminal) → DeepOrSame (after_while m p at ts) (after_while n q at ts)
    more_room_while at ts = DeepOrSame-read_on _ _ (more_room_condition ts) (λ e us. DeepOrSame-last _ (g us))

    more_room_expect_while : (ts : List Terminal) → DeepOrSame (expect_while m p ts) (expect_while n q ts)
    more_room_expect_while [] = DeepOrSame-refl
    more_room_expect_while (t ∷ ts) = DeepOrSame-refl

    more_room_do : (at : ℕ) (ts : List Terminal) → DeepOrSame (after_do m p at ts) (after_do n q at ts)
    more_room_do at ts = DeepOrSame-read_on _ _ (g ts) (λ s us. DeepOrSame-read_on _ _ (more_room_expect_while us) (λ _ vs. DeepOrSame-last _ (more_room_condition vs)))

    more_room_for : (at : ℕ) (ts : List Terminal) → DeepOrSame (after_for m p at ts) (after_for n q at ts)
    more_room_for at ts =
        DeepOrSame-then (expect punctuators.OpenParenthesis ts) _ _ (λ _ us. DeepOrSame-read_on _ _ (more_room_start us) (λ a vs. DeepOrSame-read_on _ _ (more_room_optional punctuators.Semicolon vs) (λ e ws. DeepOrSame-read_on _ _ (more_room_optional punctuators.CloseParenthesis ws) (λ u xs. DeepOrSame-last _ (g xs)))))

    more_room_plain : (at : ℕ) (t : Terminal) (ts : List Terminal) → DeepOrSame (plain_statement m p at t ts) (plain_statement n q at t ts)
    more_room_plain at t ts =
        DeepOrSame-cond (is_keyword keywords.Break t) DeepOrSame-refl
        (DeepOrSame-cond (is_keyword keywords.Continue t) DeepOrSame-refl
        (DeepOrSame-cond (is_keyword keywords.Return t) (DeepOrSame-last _ (more_room_optional punctuators.Semicolon ts)) (DeepOrSame-last _ (more_room_part m n le Expression (t ∷ ts)))))

    module _ (b c : Parse (List StmtTree × ℕ)) (braces : (ts : List Terminal) → DeepOrSame (b ts) (c ts)) where
      more_room_switch : (at : ℕ) (ts : List Terminal) → DeepOrSame (after_switch m p b at ts) (after_switch n q c at ts)
      more_room_switch at ts = DeepOrSame-read_on _ _ (more_room_condition ts) (λ e us. DeepOrSame-last _ (braces us))

      more_room_keyword : (at : ℕ) (t : Terminal) (ts : List Terminal) → DeepOrSame (keyword_statement m p b at t ts) (keyword_statement n q c at t ts)
      more_room_keyword at t ts =
          DeepOrSame-cond (is_keyword keywords.If t) (DeepOrSame-some (suc (length ts)) m n le (more_room_if at ts))
          (DeepOrSame-cond (is_keyword keywords.While t) (DeepOrSame-some (suc (length ts)) m n le (more_room_while at ts))
          (DeepOrSame-cond (is_keyword keywords.Do t) (DeepOrSame-some (suc (length ts)) m n le (more_room_do at ts))
          (DeepOrSame-cond (is_keyword keywords.For t) (DeepOrSame-some (suc (length ts)) m n le (more_room_for at ts))
          (DeepOrSame-cond (is_keyword keywords.Switch t) (DeepOrSame-some (suc (length ts)) m n le (more_room_switch at ts))
          (more_room_plain at t ts)))))

      more_room_at : (ts : List Terminal) → DeepOrSame (statement_at m p b ts) (statement_at n q c ts)
      more_room_at [] = DeepOrSame-refl
      more_room_at (t ∷ ts) =
          DeepOrSame-cond (is_punctuator punctuators.Semicolon t) DeepOrSame-refl (DeepOrSame-cond (is_punctuator punctuators.OpenBrace t) (DeepOrSame-last _ (more_room_items (length ts) [] 0 ts)) (more_room_keyword (place (t ∷ ts)) t ts))

-- where no level is left: what may begin is too deep, and nothing else is read with more room
deep_or_same : {A : Type 0} (b : Bool) (ts : List Terminal) (r : Result (A × List Terminal) Stop) → (b ≡ false → r ≡ unexpected ts) → DeepOrSame (cond b (deep ts) (unexpected ts)) r
deep_or_same true ts r none = DeepOrSame-deep
deep_or_same false ts r none = rw (none refl) DeepOrSame-refl

-- what begins no statement
no_statement : (n : ℕ) (ts : List Terminal) → begins_statement ts ≡ false → statement n ts ≡ unexpected ts
unfolding statement
no_statement zero ts e = rw e refl
no_statement (suc n) [] e = refl
no_statement (suc n) (t ∷ ts) e =
    let a = or_parts (begins_one (t ∷ ts)) _ e in
    let b = or_parts (starts punctuators.OpenBrace (t ∷ ts)) _ a.1 in
    let c = or_parts (starts punctuators.Semicolon (t ∷ ts)) _ b.1 in
    let d = or_parts (starts_with keywords.If (t ∷ ts)) _ c.1 in
    let f = or_parts (starts_with keywords.While (t ∷ ts)) _ d.1 in
    let g = or_parts (starts_with keywords.Do (t ∷ ts)) _ f.1 in
    let h = or_parts (starts_with keywords.For (t ∷ ts)) _ g.1 in
    let i = or_parts (starts_with keywords.Switch (t ∷ ts)) _ h.1 in
    let j = or_parts (starts_with keywords.Break (t ∷ ts)) _ i.1 in
    let k = or_parts (starts_with keywords.Continue (t ∷ ts)) _ j.1 in
    rw (c.0, b.0, d.0, f.0, g.0, h.0, i.0, j.0, k.0, k.1, not_begun n Expression (t ∷ ts) a.0) refl

no_switch_block : (n : ℕ) (ts : List Terminal) → starts punctuators.OpenBrace ts ≡ false → switch_block n ts ≡ unexpected ts
unfolding switch_block
no_switch_block zero ts e = rw e refl
no_switch_block (suc n) [] e = refl
no_switch_block (suc n) (t ∷ ts) e = rw e refl

mutual
  unfolding statement switch_block

  pub more_room_statement : (m n : ℕ) → m ≤ n → (ts : List Terminal) → DeepOrSame (statement m ts) (statement n ts)
  more_room_statement zero n le ts = deep_or_same (begins_statement ts) ts (statement n ts) (λ e. no_statement n ts e)
  more_room_statement (suc m) zero le ts = absurd (omega arith)
  more_room_statement (suc m) (suc n) le ts =
      more_room_at m n (omega arith) (statement m) (statement n) (λ us. more_room_statement m n (omega arith) us) (switch_block m) (switch_block n) (λ us. more_room_switch_block m n (omega arith) us) ts

  more_room_switch_block : (m n : ℕ) → m ≤ n → (ts : List Terminal) → DeepOrSame (switch_block m ts) (switch_block n ts)
  more_room_switch_block zero n le ts = deep_or_same (starts punctuators.OpenBrace ts) ts (switch_block n ts) (λ e. no_switch_block n ts e)
  more_room_switch_block (suc m) zero le ts = absurd (omega arith)
  more_room_switch_block (suc m) (suc n) le ts = more_room_switch_block_at m n (omega arith) (statement m) (statement n) (λ us. more_room_statement m n (omega arith) us) ts

-- ---- units

module _ (k l : ℕ) (le : k ≤ l) where
  more_room_struct : (at : ℕ) (ts : List Terminal) → DeepOrSame (struct_of k at ts) (struct_of l at ts)
  more_room_struct at ts = DeepOrSame-then (expect_name Any ts) _ _ (λ x us. DeepOrSame-then (expect punctuators.OpenBrace us) _ _ (λ _ vs. DeepOrSame-last _ (more_room_groups k l le (length vs) [] 0 vs)))

  more_room_body : (start : ℕ) (b : Base) (n : ℕ) (x : List ℕ) (ps : List ParameterTree × ℕ) (ts : List Terminal) → DeepOrSame (body_of k start b n x ps ts) (body_of l start b n x ps ts)
  more_room_body start b n x ps ts =
      DeepOrSame-cond (starts punctuators.Semicolon ts) DeepOrSame-refl (DeepOrSame-then (expect punctuators.OpenBrace ts) _ _ (λ _ us. DeepOrSame-last _ (more_room_items k l le (statement k) (statement l) (λ vs. more_room_statement k l le vs) (length us) [] 0 us)))

  more_room_function : (start : ℕ) (b : Base) (n : ℕ) (ts : List Terminal) → DeepOrSame (function_of k start b n ts) (function_of l start b n ts)
  more_room_function start b n ts = DeepOrSame-then (expect_name Plain ts) _ _ (λ x us. DeepOrSame-then (expect punctuators.OpenParenthesis us) _ _ (λ _ vs. DeepOrSame-read_on _ _ (more_room_head k l le vs) (λ ps ws. more_room_body start b n x.1 ps ws)))

  more_room_typed : (start : ℕ) (b : Base) (ts : List Terminal) → DeepOrSame (typed k start b ts) (typed l start b ts)
  more_room_typed start b ts = DeepOrSame-cond (is_named Plain punctuators.OpenParenthesis (stars ts).1) (more_room_function start b (stars ts).0 (stars ts).1) (DeepOrSame-last _ (more_room_declared (k + 1) (l + 1) (omega arith) b ts))

  more_room_plain_external : (ts : List Terminal) → DeepOrSame (plain k ts) (plain l ts)
  unfolding plain
  more_room_plain_external [] = DeepOrSame-refl
  more_room_plain_external (t ∷ ts) =
      DeepOrSame-cond (is_keyword keywords.Struct t && is_named Any punctuators.OpenBrace ts) (more_room_struct (place (t ∷ ts)) ts)
      (DeepOrSame-cond (is_keyword keywords.Struct t && is_named Any punctuators.Semicolon ts) DeepOrSame-refl (DeepOrSame-then (outer_type (t ∷ ts)) _ _ (λ b us. more_room_typed (place (t ∷ ts)) b us)))

  more_room_braced : (at : ℕ) (x : Option (List ℕ)) (ts : List Terminal) → DeepOrSame (braced k at x ts) (braced l at x ts)
  more_room_braced at x ts = DeepOrSame-then (expect punctuators.OpenBrace ts) _ _ (λ _ us. DeepOrSame-last _ (more_room_groups k l le (length us) [] 0 us))

  more_room_defined : (ts : List Terminal) → DeepOrSame (defined k ts) (defined l ts)
  unfolding defined
  more_room_defined [] = DeepOrSame-refl
  more_room_defined (t ∷ ts) =
      DeepOrSame-cond (is_keyword keywords.Struct t && has_members ts)
      (DeepOrSame-cond (starts punctuators.OpenBrace ts) (more_room_braced (place (t ∷ ts)) None ts) (DeepOrSame-then (expect_name Any ts) _ _ (λ x us. more_room_braced (place (t ∷ ts)) (Some x.1) us))) DeepOrSame-refl

  more_room_type_names : (m o : ℕ) → m ≤ o → (set : NameSet) (n : ℕ) (done : List DeclaratorTree) (h : ℕ) (ts : List Terminal) → DeepOrSame (type_names m set n done h ts) (type_names o set n done h ts)
  unfolding type_names
  more_room_type_names m o low set zero done h ts = DeepOrSame-refl
  more_room_type_names m o low set (suc n) done h ts =
      DeepOrSame-read_on _ _ (DeepOrSame-marks set (declarator Any m) (declarator Any o) ts (more_room_declarator m o low Any (marked set ts)))
      (λ d us. DeepOrSame-cond (starts punctuators.Semicolon us) DeepOrSame-refl (DeepOrSame-then (expect punctuators.Comma us) _ _ (λ _ vs. more_room_type_names m o low (d.0.name ∷ set) n (done ++ d.0 ∷ []) (max h (d.1 + 1)) vs)))

  more_room_typedef : (set : NameSet) (ts : List Terminal) → DeepOrSame (typedef_of k set ts) (typedef_of l set ts)
  more_room_typedef set ts =
      DeepOrSame-read_on _ _ (DeepOrSame-marks set (defined k) (defined l) ts (more_room_defined (marked set ts))) (λ t us. DeepOrSame-last _ (more_room_type_names (k + 1) (l + 1) (omega arith) set (length us) [] 0 us))

  more_room_external : (set : NameSet) (ts : List Terminal) → DeepOrSame (external k set ts) (external l set ts)
  unfolding external
  more_room_external set [] = DeepOrSame-refl
  more_room_external set (t ∷ ts) = DeepOrSame-cond (is_keyword keywords.Typedef t) (more_room_typedef set ts) (DeepOrSame-marks set (plain k) (plain l) (t ∷ ts) (more_room_plain_external (marked set (t ∷ ts))))

  more_room_externals : (set : NameSet) (n : ℕ) (done : List DeclTree) (h : ℕ) (ts : List Terminal) → DeepOrSame (externals k set n done h ts) (externals l set n done h ts)
  unfolding externals
  more_room_externals set zero done h ts = DeepOrSame-refl
  more_room_externals set (suc n) done h ts = DeepOrSame-read_on _ _ (more_room_external set ts) (λ d us. DeepOrSame-cond (is_empty us) DeepOrSame-refl (more_room_externals (names_behind set d.0) n (done ++ d.0 ∷ []) (max h d.1) us))

  pub more_room_unit : (ts : List Terminal) → DeepOrSame (unit k ts) (unit l ts)
  unfolding unit
  more_room_unit ts = more_room_externals [] (length ts) [] 0 ts

-- what is unexpected is so with more room too
pub unexpected_in_all : (k l : ℕ) → k ≤ l → (ts : List Terminal) (n : ℕ) → unit k ts ≡ Err (Unexpected n) → unit l ts ≡ Err (Unexpected n)
unexpected_in_all k l le ts n e = DeepOrSame-unexpected (unit k ts) (unit l ts) n (more_room_unit k l le ts) e
