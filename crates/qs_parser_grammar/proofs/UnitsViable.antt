-- The tokens before a fault in a unit begin one that is low enough.
use Rattle.std.proofs.Common.{ℕ, zero, suc, ◌+◌, ◌≤◌, max, true, List, [], ◌∷◌, ◌++◌, length, sym, subst, append_assoc, arith, ◌&&◌, ap, None, Some, Option, Ok, refl, false, ◌≡◌, ◌∙◌}
use Rattle.std.proofs.lemmas.Bool.{and_parts, or_from}
use Rattle.qs_syntax_vocabulary.specs.declared.terminal.Terminal.{Terminal}
use Rattle.qs_syntax_vocabulary.specs.declared.terminal.Terminal.TheVariants.{Name, Keyword, Punctuator}
use Rattle.qs_base.specs.declared.keyword.Keyword.TheVariants as keywords
use Rattle.qs_syntax_vocabulary.specs.declared.punctuator.Punctuator.TheVariants as punctuators
use Rattle.qs_syntax.specs.declared.types.Base.{Base}
use Rattle.qs_syntax_vocabulary.specs.Operators.{number_of}
use Rattle.qs_syntax.specs.Trees.{MembersTree, ParameterTree, DeclTree, DefinedTree, typedef, DeclaratorTree}
use Rattle.qs_syntax.specs.ReadsTypes.{no_prefix, no_const, an_int, ReadsOuterType, an_outer_type, ReadsStars, Any, Plain, ReadsName, a_plain_name, ReadsType, a_struct}
use Rattle.qs_syntax.specs.ReadsDeclarations.{ReadsAllMembers, ReadsHead, no_parameter, an_outer_declaration, ReadsDeclarator}
use Rattle.qs_syntax.specs.ReadsUnits.{names_behind, ReadsExternal, ReadsPlain, a_struct_with_members, a_forward, a_header, a_definition, some_variables, ReadsUnit, a_last_external, an_external, a_plain_external, ReadsDefined, ReadsExternals, ReadsTypeNames, a_known_type, a_last_name, a_name_before, a_struct_with_tag, a_struct_without_tag, a_typedef}
use Rattle.qs_parser_grammar.specs.Heads.{is_keyword, starts}
use Rattle.qs_parser_grammar.specs.Parse.{stars, read_on}
use Rattle.qs_parser_grammar.specs.ParseStatements.{statement, is_named, struct_of, forward_of, body_of, function_of, typed, external, is_empty, externals, unit, braced, has_members, known_type, struct_defined, type_names, typedef_of, plain, defined}
use Rattle.qs_parser_grammar.proofs.TypesSound.{StarsRead, stars_read}
use Rattle.qs_parser_grammar.proofs.DeclarationsLists.{Ends, all_closed}
use Rattle.qs_parser_grammar.proofs.DeclarationsMembers.{sound_groups}
use Rattle.qs_parser_grammar.proofs.DeclarationsParameters.{sound_head}
use Rattle.qs_parser_grammar.proofs.StatementsSound.{takes_statement, sound_statement}
use Rattle.qs_parser_grammar.proofs.UnitsSound.{sound_outer_type, sound_external, sound_defined}
use Rattle.qs_parser_grammar.proofs.DeclarationsViable.{a_punctuator, viable_outer_type, AreVariables, one_variable, viable_declared, AreGroups, a_member_group, viable_groups, IsHead, viable_head, viable_declarator, IsDeclarator, plain_type, a_name}
use Rattle.qs_parser_grammar.proofs.StatementsViable.{AreStmts, viable_items, viable_statement}
use Rattle.qs_parser_grammar.proofs.Viable.{Claims, OfFronts, behind_token, behind, Both, under, Viable, Viable-ok, Viable-unexpected, Viable-after, Viable-token, Viable-if, Viable-read_on, Viable-done, here, Viable-keyword, Viable-punctuator, Viable-name, Viable-plain-name, Viable-punctuator-is, Viable-read_on-is}
use Rattle.qs_syntax_vocabulary.specs.Marks.{NameSet, marked, is_in}
use Rattle.qs_syntax_vocabulary.specs.WellFormed.{is_well_formed}
use Rattle.std.specs.List.{list_all}
use Rattle.qs_parser_grammar.proofs.MarkLaws.{Sound-marks, Viable-marks, Bare, bare_fronts, plain_marked}
use Rattle.qs_parser_grammar.proofs.NameMarks.{formed_parts, name_some, still_none}
use Rattle.qs_parser_grammar.proofs.DeclarationsSound.{sound_declarator}
use Rattle.std.specs.Prelude.{bytes_eq}
use Rattle.qs_parser_grammar.specs.ParseDeclarations.{after_member, declarator}
use Rattle.qs_parser_grammar.proofs.ExpressionsViable.{viable_type}
use Rattle.qs_syntax.specs.Trees as trees

abbrev pub IsOne : ℕ → List Terminal → Type 0
IsOne h xs = (d : DeclTree) × ReadsPlain h xs d

-- `int x;`
a_variable : IsOne 1 (Keyword 0 keywords.Int ∷ Name 0 [] ∷ a_punctuator punctuators.Semicolon ∷ [])
a_variable = (_, some_variables (an_outer_declaration {xs = Keyword 0 keywords.Int ∷ []} {ys = Name 0 [] ∷ []} 0 (an_outer_type {xs = []} {ys = Keyword 0 keywords.Int ∷ []} {zs = []} no_prefix (an_int 0) no_const) one_variable.1))

module _ (k : ℕ) (Q : Claims) (c : OfFronts Q) (w : (h : ℕ) (xs : List Terminal) → IsOne h xs → Both Q (suc (suc k)) h xs) where
  external_due : Q true []
  external_due = c.front true [] _ ((w 1 _ a_variable).1 (omega arith)) refl

  -- ---- structs

  module _ (at n : ℕ) (t : Terminal) (x : List ℕ) (name : ReadsName Any t n x) where
    abbrev Tagged : Claims
    Tagged b l = Q b (Keyword at keywords.Struct ∷ t ∷ l)

    tagged : OfFronts Tagged
    tagged = behind_token t (behind_token (Keyword at keywords.Struct) c)

    closed_groups : (o h : ℕ) (xs : List Terminal) → AreGroups h xs → (e : ℕ) → Both Tagged (suc k) h (Punctuator o punctuators.OpenBrace ∷ (xs ++ Punctuator e punctuators.CloseBrace ∷ []))
    closed_groups o h xs s e =
        under tagged (Punctuator o punctuators.OpenBrace ∷ (xs ++ Punctuator e punctuators.CloseBrace ∷ [])) (a_punctuator punctuators.Semicolon ∷ []) refl (suc (suc k)) (suc h)
        (subst (λ l. Both Tagged (suc (suc k)) (suc h) (Punctuator o punctuators.OpenBrace ∷ l)) (sym (append_assoc xs (Punctuator e punctuators.CloseBrace ∷ []) (a_punctuator punctuators.Semicolon ∷ []))) (w (suc h) _ (_, a_struct_with_members at o e 0 name s.1))) (suc k) h (λ le. omega arith)

    members_due : (o : ℕ) → Tagged true (Punctuator o punctuators.OpenBrace ∷ [])
    members_due o = tagged.front true (Punctuator o punctuators.OpenBrace ∷ []) _ ((closed_groups o 1 _ a_member_group 0).1 (omega arith)) refl

    struct_closed : (o : ℕ) (ms : List MembersTree × ℕ) (l : List Terminal) → Ends punctuators.CloseBrace ReadsAllMembers (suc k) ms l → Tagged true (Punctuator o punctuators.OpenBrace ∷ l)
    struct_closed o ms l (inside, e, is, r, le) = subst (λ l. Tagged true (Punctuator o punctuators.OpenBrace ∷ l)) (sym is) ((closed_groups o ms.1 inside (ms.0, r) e).1 le)

  struct_tag : (at : ℕ) → Q true (Keyword at keywords.Struct ∷ [])
  struct_tag at = c.front true (Keyword at keywords.Struct ∷ []) (Name 0 [] ∷ a_punctuator punctuators.Semicolon ∷ []) ((w 1 _ (_, a_forward at 0 (a_plain_name 0 []))).1 (omega arith)) refl

  struct_named : (at n : ℕ) (t : Terminal) (x : List ℕ) → ReadsName Any t n x → Q true (Keyword at keywords.Struct ∷ t ∷ [])
  struct_named at n t x name = c.front true (Keyword at keywords.Struct ∷ t ∷ []) (a_punctuator punctuators.Semicolon ∷ []) ((w 1 _ (_, a_forward at 0 name)).1 (omega arith)) refl

  viable_struct : (at start : ℕ) (ts : List Terminal) → Viable (λ b l. Q b (Keyword at keywords.Struct ∷ l)) ts (struct_of k start ts)
  viable_struct at start ts =
      Viable-name Any ts _ (struct_tag at)
      (λ t n x name us. Viable-punctuator punctuators.OpenBrace us _ (struct_named at n t x name)
      (λ o vs. Viable-read_on _ (sound_groups k (length vs) [] 0 vs) (viable_groups k (length vs) [] 0 _ (behind_token (Punctuator o punctuators.OpenBrace) (tagged at n t x name)) (λ h xs s. closed_groups at n t x name o h xs s 0) (members_due at n t x name o) vs)
      (λ ms l ws r. Viable-punctuator punctuators.Semicolon ws _ (here (λ b m. Tagged at n t x name b (Punctuator o punctuators.OpenBrace ∷ m)) l (struct_closed at n t x name o ms l (all_closed punctuators.CloseBrace ReadsAllMembers (suc k) ms l r))) (λ s xs. Viable-ok))))

  viable_forward : (at start : ℕ) (ts : List Terminal) → Viable (λ b l. Q b (Keyword at keywords.Struct ∷ l)) ts (forward_of start ts)
  viable_forward at start ts = Viable-name Any ts _ (struct_tag at) (λ t n x name us. Viable-punctuator punctuators.Semicolon us _ (struct_named at n t x name) (λ s vs. Viable-ok))

  -- ---- functions and variables

  module _ (b : Base) (front : List Terminal) (t : ReadsOuterType front b) where
    declared_one : (h : ℕ) (ys : List Terminal) → AreVariables h ys → Both Q (suc (suc k)) h (front ++ (ys ++ a_punctuator punctuators.Semicolon ∷ []))
    declared_one h ys s = w h _ (_, some_variables (an_outer_declaration 0 t s.1))

    module _ (m : ℕ) (ys : List Terminal) (r : ReadsStars ys m) where
      abbrev Starred : Claims
      Starred b l = Q b (front ++ (ys ++ l))

      starred : OfFronts Starred
      starred = behind ys (behind front c)

      headed : (n o e : ℕ) (x : List ℕ) (h : ℕ) (zs : List Terminal) → IsHead h zs → Both Starred (suc k) h (Name n x ∷ Punctuator o punctuators.OpenParenthesis ∷ (zs ++ Punctuator e punctuators.CloseParenthesis ∷ []))
      headed n o e x h zs s =
          under starred (Name n x ∷ Punctuator o punctuators.OpenParenthesis ∷ (zs ++ Punctuator e punctuators.CloseParenthesis ∷ [])) (a_punctuator punctuators.Semicolon ∷ []) refl (suc (suc k)) (suc h)
          (subst (λ l. Both Starred (suc (suc k)) (suc h) (Name n x ∷ Punctuator o punctuators.OpenParenthesis ∷ l)) (sym (append_assoc zs (Punctuator e punctuators.CloseParenthesis ∷ []) (a_punctuator punctuators.Semicolon ∷ []))) (w (suc h) _ (_, a_header n o e 0 x t r s.1)))
          (suc k) h (λ le. omega arith)

      named_begun : (n : ℕ) (x : List ℕ) → Starred true (Name n x ∷ [])
      named_begun n x = starred.front true (Name n x ∷ []) _ ((headed n 0 0 x 0 [] ([], no_parameter)).1 (omega arith)) refl

      abbrev Headed : (n o : ℕ) → List ℕ → List Terminal → Claims
      Headed n o x l b more = Starred b (Name n x ∷ Punctuator o punctuators.OpenParenthesis ∷ (l ++ more))

      body_one : (n o j i : ℕ) (x : List ℕ) (g : ℕ) (zs : List Terminal) → IsHead g zs → g ≤ suc k → (h : ℕ) (ws : List Terminal) → AreStmts h ws
          → Both (Headed n o x (zs ++ Punctuator j punctuators.CloseParenthesis ∷ [])) k h (Punctuator i punctuators.OpenBrace ∷ (ws ++ a_punctuator punctuators.CloseBrace ∷ []))
      body_one n o j i x g zs s fits h ws u =
          let both = subst (λ l. Both Starred (suc (suc k)) (suc (max g (suc h))) (Name n x ∷ Punctuator o punctuators.OpenParenthesis ∷ l)) (sym (append_assoc zs (Punctuator j punctuators.CloseParenthesis ∷ []) (Punctuator i punctuators.OpenBrace ∷ (ws ++ a_punctuator punctuators.CloseBrace ∷ []))))
          (w (suc (max g (suc h))) _ (_, a_definition n o j i 0 x t r s.1 u.1)) in
          (both.0, λ le. both.1 (omega arith))

      viable_body : (start n o j : ℕ) (x : List ℕ) (zs : List Terminal) (ps : List ParameterTree × ℕ) → ReadsHead ps.1 zs ps.0 → ps.1 ≤ suc k → (ts : List Terminal) → Viable (Headed n o x (zs ++ Punctuator j punctuators.CloseParenthesis ∷ [])) ts (body_of k start b m x ps ts)
      viable_body start n o j x zs ps s fits ts =
          let q : Headed n o x (zs ++ Punctuator j punctuators.CloseParenthesis ∷ []) true [] = here (λ b l. Starred b (Name n x ∷ Punctuator o punctuators.OpenParenthesis ∷ l)) (zs ++ Punctuator j punctuators.CloseParenthesis ∷ []) ((headed n o j x ps.1 zs (ps.0, s)).1 fits) in
          Viable-if (starts punctuators.Semicolon ts)
          (λ _. Viable-punctuator punctuators.Semicolon ts _ q (λ e us. Viable-ok))
          (λ _. Viable-punctuator punctuators.OpenBrace ts _ q
          (λ i us. Viable-done _ (viable_items k (statement k) (λ vs. takes_statement k vs) (λ vs. sound_statement k vs) (λ P d v l vs. viable_statement k P d v l vs) (length us) [] 0 _
          (behind_token (Punctuator i punctuators.OpenBrace) (behind (zs ++ Punctuator j punctuators.CloseParenthesis ∷ []) (behind_token (Punctuator o punctuators.OpenParenthesis) (behind_token (Name n x) starred))))
          (body_one n o j i x ps.1 zs (ps.0, s) fits) us)))

      viable_function : (start : ℕ) (ts : List Terminal) → Viable Starred ts (function_of k start b m ts)
      viable_function start ts =
          Viable-plain-name ts _ (starred.front true [] (Name 0 [] ∷ []) (named_begun 0 []) refl)
          (λ n x us. Viable-punctuator punctuators.OpenParenthesis us _ (named_begun n x)
          (λ o vs. Viable-read_on (body_of k start b m x) (sound_head k vs)
          (viable_head k _ (behind_token (Punctuator o punctuators.OpenParenthesis) (behind_token (Name n x) starred)) (headed n o 0 x) vs)
          (λ ps l ws q. behind_head n o x ps l ws q)))
        where
          behind_head : (n o : ℕ) (x : List ℕ) (ps : List ParameterTree × ℕ) (l ws : List Terminal) → Ends punctuators.CloseParenthesis ReadsHead (suc k) ps l → Viable (Headed n o x l) ws (body_of k start b m x ps ws)
          behind_head n o x ps l ws (inside, j, is, s, le) = subst (λ l. Viable (Headed n o x l) ws (body_of k start b m x ps ws)) (sym is) (viable_body start n o j x inside ps s le ws)

    outer_begun : Q true front
    outer_begun = c.front true front _ ((declared_one 1 _ one_variable).1 (omega arith)) refl

    viable_typed : (start : ℕ) (ts : List Terminal) → Viable (λ b l. Q b (front ++ l)) ts (typed k start b ts)
    viable_typed start ts =
        let first : StarsRead ts (stars ts) = stars_read ts in
        Viable-if (is_named Plain punctuators.OpenParenthesis (stars ts).1)
        (λ _. Viable-after ts first.front (stars ts).1 first.split _ (viable_function (stars ts).0 first.front first.is start (stars ts).1))
        (λ _. Viable-done _ (viable_declared (k + 1) b (λ b l. Q b (front ++ l)) (behind front c) (λ h ys s. let both = declared_one h ys s in (both.0, λ le. both.1 (omega arith))) (here Q front outer_begun) ts))

  viable_plain : (ts : List Terminal) → Viable Q ts (plain k ts)
  unfolding plain
  viable_plain [] = Viable-unexpected external_due
  viable_plain (t ∷ ts) =
      Viable-if (is_keyword keywords.Struct t && is_named Any punctuators.OpenBrace ts)
      (λ e. Viable-keyword keywords.Struct t (and_parts _ _ e).0 (Viable-token (viable_struct (number_of t) (number_of t) ts)))
      (λ _. Viable-if (is_keyword keywords.Struct t && is_named Any punctuators.Semicolon ts)
      (λ e. Viable-keyword keywords.Struct t (and_parts _ _ e).0 (Viable-token (viable_forward (number_of t) (number_of t) ts)))
      (λ _. Viable-read_on (typed k (number_of t)) (sound_outer_type (t ∷ ts)) (viable_outer_type Q c (λ xs b r. outer_begun b xs r) (t ∷ ts)) (λ b front us r. viable_typed b front r (number_of t) us)))

-- ---- what a typedef gives names to

abbrev IsDefinedOne : ℕ → List Terminal → Type 0
IsDefinedOne h xs = (d : DefinedTree) × ReadsDefined h xs d

module _ (k : ℕ) (P : Claims) (c : OfFronts P) (closes : (o e h : ℕ) (xs : List Terminal) → AreGroups h xs → Both P (suc k) h (Punctuator o punctuators.OpenBrace ∷ (xs ++ Punctuator e punctuators.CloseBrace ∷ []))) (due : P true []) where
  brace_due : (o : ℕ) → P true (Punctuator o punctuators.OpenBrace ∷ [])
  brace_due o = c.front true (Punctuator o punctuators.OpenBrace ∷ []) (Keyword 0 keywords.Int ∷ Name 0 [] ∷ a_punctuator punctuators.Semicolon ∷ a_punctuator punctuators.CloseBrace ∷ []) ((closes o 0 1 _ a_member_group).1 (omega arith)) refl

  viable_braced : (start : ℕ) (x : Option (List ℕ)) (ts : List Terminal) → Viable P ts (braced k start x ts)
  viable_braced start x ts =
      Viable-punctuator punctuators.OpenBrace ts _ due
      (λ o us. Viable-done _ (viable_groups k (length us) [] 0 _ (behind_token (Punctuator o punctuators.OpenBrace) c) (λ h xs s. closes o 0 h xs s) (brace_due o) us))

module _ (k : ℕ) (Q : Claims) (c : OfFronts Q) (w : (h : ℕ) (xs : List Terminal) → IsDefinedOne h xs → Both Q (suc (suc k)) h xs) where
  known_due : (xs : List Terminal) (b : Base) → ReadsType xs b → Q true xs
  known_due xs b r = (w 0 xs (_, a_known_type r)).1 (omega arith)

  struct_due : (at : ℕ) → Q true (Keyword at keywords.Struct ∷ [])
  struct_due at = c.front true (Keyword at keywords.Struct ∷ []) (Name 0 [] ∷ []) (known_due _ _ (plain_type (a_struct at (a_plain_name 0 [])))) refl

  tag_closes : (at n : ℕ) (t : Terminal) (x : List ℕ) → ReadsName Any t n x → (o e h : ℕ) (xs : List Terminal) → AreGroups h xs → Both Q (suc k) h (Keyword at keywords.Struct ∷ t ∷ Punctuator o punctuators.OpenBrace ∷ (xs ++ Punctuator e punctuators.CloseBrace ∷ []))
  tag_closes at n t x name o e h xs s = let both = w (suc h) _ (_, a_struct_with_tag at o e name s.1) in (both.0, λ le. both.1 (omega arith))

  no_tag_closes : (at o e h : ℕ) (xs : List Terminal) → AreGroups h xs → Both Q (suc k) h (Keyword at keywords.Struct ∷ Punctuator o punctuators.OpenBrace ∷ (xs ++ Punctuator e punctuators.CloseBrace ∷ []))
  no_tag_closes at o e h xs s = let both = w (suc h) _ (_, a_struct_without_tag at o e s.1) in (both.0, λ le. both.1 (omega arith))

  viable_struct_defined : (at start : ℕ) (ts : List Terminal) → Viable (λ b l. Q b (Keyword at keywords.Struct ∷ l)) ts (struct_defined k start ts)
  viable_struct_defined at start ts =
      let behind_struct = behind_token (Keyword at keywords.Struct) c in
      Viable-if (starts punctuators.OpenBrace ts) (λ _. viable_braced k _ behind_struct (no_tag_closes at) (struct_due at) start None ts)
      (λ _. Viable-name Any ts _ (struct_due at)
      (λ t n x name us. viable_braced k _ (behind_token t behind_struct) (tag_closes at n t x name) (known_due _ _ (plain_type (a_struct at name))) start (Some x) us))

  viable_known : (ts : List Terminal) → Viable Q ts (known_type ts)
  viable_known ts = Viable-done _ (viable_type Q c known_due ts)

  viable_defined : (ts : List Terminal) → Viable Q ts (defined k ts)
  unfolding defined
  viable_defined [] = Viable-unexpected (c.front true [] (Keyword 0 keywords.Int ∷ []) (known_due _ _ (plain_type (an_int 0))) refl)
  viable_defined (t ∷ ts) =
      Viable-if (is_keyword keywords.Struct t && has_members ts)
      (λ e. Viable-keyword keywords.Struct t (and_parts _ _ e).0 (Viable-token (viable_struct_defined (number_of t) (number_of t) ts))) (λ _. viable_known (t ∷ ts))

-- ---- names of types

abbrev AreNames : NameSet → ℕ → List Terminal → Type 0
AreNames set h xs = (ds : List DeclaratorTree) × ReadsTypeNames set h xs ds

-- the shortest
one_name : (set : NameSet) → is_in set [] ≡ false → AreNames set 1 (Name 0 [] ∷ [])
one_name set none = (_, a_last_name (subst (λ l. ReadsDeclarator Any 0 l (a_name Any).0) (sym (plain_marked set none (Name 0 [] ∷ []) refl)) (a_name Any).1))

viable_type_names : (m : ℕ) (set : NameSet) → is_in set [] ≡ false → (n : ℕ) (done : List DeclaratorTree) (h : ℕ) (Q : Claims) → OfFronts Q → ((h : ℕ) (xs : List Terminal) → AreNames set h xs → Both Q (suc m) h (xs ++ a_punctuator punctuators.Semicolon ∷ [])) → Q true []
    → (ts : List Terminal) → list_all is_well_formed ts ≡ true → Viable Q ts (type_names m set n done h ts)
unfolding type_names
viable_type_names m set none zero done h Q c w low ts formed = Viable-unexpected low
viable_type_names m set none (suc n) done h Q c w low ts formed =
    Viable-read_on-is _ (Sound-marks set (declarator Any m) ts (sound_declarator Any m (marked set ts)))
    (Viable-marks set (declarator Any m) ts (viable_declarator Any m (Bare set Q) (bare_fronts set none c) named (marked set ts)))
    (λ d front us read split r. behind_name d front us split r.0 r.1 (λ x P e u l vs f g. viable_type_names m (x ∷ set) f n (done ++ d.0 ∷ []) (max h (d.1 + 1)) P e u l vs g))
  where
    declared : (h : ℕ) (xs ts : List Terminal) → IsDeclarator Any h xs → marked set ts ≡ xs → Both Q m h ts
    declared h xs ts s e = under c ts (a_punctuator punctuators.Semicolon ∷ []) refl (suc m) (suc h) (w (suc h) ts (_, a_last_name (subst (λ l. ReadsDeclarator Any h l s.0) (sym e) s.1))) m h (λ le. omega arith)

    named : (h : ℕ) (xs : List Terminal) → IsDeclarator Any h xs → Both (Bare set Q) m h xs
    named h xs s = (λ ts e. (declared h xs ts s e).0, λ le ts e. (declared h xs ts s e).1 le)

    behind_name : (d : DeclaratorTree × ℕ) (front us : List Terminal) → ts ≡ front ++ us → ReadsDeclarator Any d.1 (marked set front) d.0 → d.1 ≤ m
        → ((x : List ℕ) (P : Claims) → OfFronts P → ((h : ℕ) (xs : List Terminal) → AreNames (x ∷ set) h xs → Both P (suc m) h (xs ++ a_punctuator punctuators.Semicolon ∷ [])) → P true [] → (vs : List Terminal) → is_in (x ∷ set) [] ≡ false → list_all is_well_formed vs ≡ true
        → Viable P vs (type_names m (x ∷ set) n (done ++ d.0 ∷ []) (max h (d.1 + 1)) vs))
        → Viable (λ b l. Q b (front ++ l)) us (after_member (type_names m (d.0.name ∷ set) n) (done ++ d.0 ∷ []) (max h (d.1 + 1)) us)
    behind_name d front us split r fits others =
        let q : Q true (front ++ []) = here Q front ((declared d.1 (marked set front) front (d.0, r) refl).1 fits) in
        let all : list_all is_well_formed (front ++ us) ≡ true = ap (list_all is_well_formed) (sym split) ∙ formed in
        let parts = formed_parts front us all in
        let still : is_in (d.0.name ∷ set) [] ≡ false = or_from (bytes_eq [] d.0.name) (is_in set []) (name_some set front r parts.0) none in
        Viable-if (starts punctuators.Semicolon us) (λ _. Viable-punctuator punctuators.Semicolon us _ q (λ at vs. Viable-ok))
        (λ _. Viable-punctuator-is punctuators.Comma us _ q
        (λ at vs is. let comma = behind_token (Punctuator at punctuators.Comma) (behind front c) in
        others d.0.name _ comma (further at) (comma.front true [] (Name 0 [] ∷ a_punctuator punctuators.Semicolon ∷ []) ((further at 1 _ (one_name (d.0.name ∷ set) still)).1 (omega arith)) refl) vs still
        (formed_parts (Punctuator at punctuators.Comma ∷ []) vs (ap (list_all is_well_formed) (sym is) ∙ parts.1)).1))
      where
        further : (at k : ℕ) (xs : List Terminal) → AreNames (d.0.name ∷ set) k xs → Both (λ b l. Q b (front ++ Punctuator at punctuators.Comma ∷ l)) (suc m) k (xs ++ a_punctuator punctuators.Semicolon ∷ [])
        further at k xs s =
            let both = w (max (suc d.1) k) (front ++ Punctuator at punctuators.Comma ∷ xs) (_, a_name_before front at r s.1) in
            let same = append_assoc front (Punctuator at punctuators.Comma ∷ xs) (a_punctuator punctuators.Semicolon ∷ []) in
            (subst (Q false) same both.0, λ le. subst (Q true) same (both.1 (omega arith)))

-- ---- externals with a set

abbrev IsOneExternal : NameSet → ℕ → List Terminal → Type 0
IsOneExternal set h xs = (d : DeclTree) × ReadsExternal set h xs d

-- `int x;`
a_variable_there : (set : NameSet) → is_in set [] ≡ false → IsOneExternal set 1 (Keyword 0 keywords.Int ∷ Name 0 [] ∷ a_punctuator punctuators.Semicolon ∷ [])
a_variable_there set none = (_, a_plain_external (subst (λ l. ReadsPlain 1 l a_variable.0) (sym (plain_marked set none (Keyword 0 keywords.Int ∷ Name 0 [] ∷ a_punctuator punctuators.Semicolon ∷ []) refl)) a_variable.1))

module _ (k : ℕ) (set : NameSet) (none : is_in set [] ≡ false) (Q : Claims) (c : OfFronts Q) (w : (h : ℕ) (xs : List Terminal) → IsOneExternal set h xs → Both Q (suc (suc k)) h xs) where
  plain_here : (h : ℕ) (xs : List Terminal) → IsOne h xs → Both (Bare set Q) (suc (suc k)) h xs
  plain_here h xs s = (λ ts e. (bare ts e).0, λ le ts e. (bare ts e).1 le)
    where
      bare : (ts : List Terminal) → marked set ts ≡ xs → Both Q (suc (suc k)) h ts
      bare ts e = w h ts (_, a_plain_external (subst (λ l. ReadsPlain h l s.0) (sym e) s.1))

  module _ (at : ℕ) where
    abbrev Typed : Claims
    Typed b l = Q b (Keyword at keywords.Typedef ∷ l)

    typed_fronts : OfFronts Typed
    typed_fronts = behind_token (Keyword at keywords.Typedef) c

    defined_here : (h : ℕ) (xs : List Terminal) → IsDefinedOne h xs → Both (Bare set Typed) (suc (suc k)) h xs
    defined_here h xs s = (λ ts e. (bare ts e).0, λ le ts e. (bare ts e).1 le)
      where
        bare : (ts : List Terminal) → marked set ts ≡ xs → Both Typed (suc (suc k)) h ts
        bare ts e =
            let both = w (max h 1) _ (_, a_typedef ts at 0 (subst (λ l. ReadsDefined h l s.0) (sym e) s.1) (one_name set none).1) in
            (typed_fronts.front false ts (Name 0 [] ∷ a_punctuator punctuators.Semicolon ∷ []) both.0 refl, λ le. typed_fronts.front true ts (Name 0 [] ∷ a_punctuator punctuators.Semicolon ∷ []) (both.1 (omega arith)) refl)

    viable_typedef : (ts : List Terminal) → list_all is_well_formed ts ≡ true → Viable Typed ts (typedef_of k set ts)
    viable_typedef ts formed =
        Viable-read_on-is _ (Sound-marks set (defined k) ts (sound_defined k (marked set ts))) (Viable-marks set (defined k) ts (viable_defined k (Bare set Typed) (bare_fronts set none typed_fronts) defined_here (marked set ts)))
        (λ t front us read split r. behind_it t front us split r.0 r.1)
      where
        behind_it : (t : DefinedTree × ℕ) (front us : List Terminal) → ts ≡ front ++ us → ReadsDefined t.1 (marked set front) t.0 → t.1 ≤ suc (suc k)
            → Viable {A = DeclTree × ℕ} (λ b l. Typed b (front ++ l)) us (read_on (type_names (k + 1) set (length us) [] 0 us) (λ ds vs. Ok ((trees.typedef (record { defined = t.0; names = ds.0 }), max t.1 ds.1), vs)))
        behind_it t front us split r fits =
            Viable-done _ (viable_type_names (k + 1) set none (length us) [] 0 (λ b l. Typed b (front ++ l)) (behind front typed_fronts) names
            ((behind front typed_fronts).front true [] (Name 0 [] ∷ a_punctuator punctuators.Semicolon ∷ []) ((names 1 _ (one_name set none)).1 (omega arith)) refl) us
            (formed_parts front us (ap (list_all is_well_formed) (sym split) ∙ formed)).1)
          where
            names : (h : ℕ) (ys : List Terminal) → AreNames set h ys → Both (λ b l. Typed b (front ++ l)) (suc (k + 1)) h (ys ++ a_punctuator punctuators.Semicolon ∷ [])
            names h ys s = let both = w (max t.1 h) _ (_, a_typedef front at 0 r s.1) in (both.0, λ le. both.1 (omega arith))

  viable_external : (ts : List Terminal) → list_all is_well_formed ts ≡ true → Viable Q ts (external k set ts)
  unfolding external
  viable_external [] formed = Viable-unexpected (c.front true [] (Keyword 0 keywords.Int ∷ Name 0 [] ∷ a_punctuator punctuators.Semicolon ∷ []) ((w 1 _ (a_variable_there set none)).1 (omega arith)) refl)
  viable_external (t ∷ ts) formed =
      Viable-if (is_keyword keywords.Typedef t)
      (λ e. Viable-keyword keywords.Typedef t e (Viable-token (viable_typedef (number_of t) ts (formed_parts (t ∷ []) ts formed).1)))
      (λ _. Viable-marks set (plain k) (t ∷ ts) (viable_plain k (Bare set Q) (bare_fronts set none c) plain_here (marked set (t ∷ ts))))

-- ---- units

abbrev AreSome : NameSet → ℕ → List Terminal → Type 0
AreSome set h xs = (ds : List DeclTree) × ReadsExternals set h xs ds

abbrev pub IsSomeUnit : ℕ → List Terminal → Type 0
IsSomeUnit h xs = (ds : List DeclTree) × ReadsUnit h xs ds

viable_externals : (k : ℕ) (set : NameSet) → is_in set [] ≡ false → (n : ℕ) (done : List DeclTree) (h : ℕ) (Q : Claims) → OfFronts Q → ((h : ℕ) (xs : List Terminal) → AreSome set h xs → Both Q (suc (suc k)) h xs) → (ts : List Terminal) → list_all is_well_formed ts ≡ true
    → Viable Q ts (externals k set n done h ts)
unfolding externals
viable_externals k set none zero done h Q c w ts formed =
    Viable-unexpected (c.front true [] (Keyword 0 keywords.Int ∷ Name 0 [] ∷ a_punctuator punctuators.Semicolon ∷ []) ((w 1 _ (_, a_last_external (a_variable_there set none).1)).1 (omega arith)) refl)
viable_externals k set none (suc n) done h Q c w ts formed =
    Viable-read_on-is _ (sound_external k set ts) (viable_external k set none Q c (λ h xs s. w h xs (_, a_last_external s.1)) ts formed)
    (λ d front us read split r. let fits : d.1 ≤ suc (suc k) = r.1 in
    let parts = formed_parts front us (ap (list_all is_well_formed) (sym split) ∙ formed) in
    Viable-if (is_empty us) (λ _. Viable-ok)
    (λ _. viable_externals k (names_behind set d.0) (still_none r.0 parts.0 none) n (done ++ d.0 ∷ []) (max h d.1) (λ b l. Q b (front ++ l)) (behind front c) (λ j xs s. let both = w (max d.1 j) _ (_, an_external r.0 s.1) in (both.0, λ le. both.1 (omega arith))) us parts.1))

pub viable_unit : (k : ℕ) (Q : Claims) → OfFronts Q → ((h : ℕ) (xs : List Terminal) → IsSomeUnit h xs → Both Q (suc (suc k)) h xs) → (ts : List Terminal) → list_all is_well_formed ts ≡ true → Viable Q ts (unit k ts)
unfolding unit
viable_unit k Q c w ts formed = viable_externals k [] refl (length ts) [] 0 Q c w ts formed
