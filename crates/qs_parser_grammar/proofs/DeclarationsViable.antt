-- The tokens before a fault in a declaration begin one that is low enough.
use Rattle.std.proofs.Common.{◌≡◌, inl, inr, ℕ, zero, suc, ◌+◌, ◌<◌, ◌≤◌, max, arith, Bool, true, false, true≢false, cond, List, [], ◌∷◌, ◌++◌, length, Ok, refl, sym, ap, subst, ◌∙◌, append_assoc, append-nil, ◌==◌, ◌&&◌}
use Rattle.std.proofs.lemmas.Bool.{and_parts}
use Rattle.std.specs.Prelude.{◌||◌}
use Rattle.qs_syntax_vocabulary.specs.declared.terminal.Terminal.{Terminal}
use Rattle.qs_syntax_vocabulary.specs.declared.terminal.Terminal.TheVariants.{Name, TypeName, Keyword, Constant, Text, Punctuator}
use Rattle.qs_base.specs.declared.keyword.Keyword as key
use Rattle.qs_base.specs.declared.keyword.Keyword.TheVariants as keywords
use Rattle.qs_syntax_vocabulary.specs.declared.punctuator.Punctuator as punctuator
use Rattle.qs_syntax_vocabulary.specs.declared.punctuator.Punctuator.TheVariants as punctuators
use Rattle.qs_syntax.specs.declared.types.Base.{Base}
use Rattle.qs_syntax_vocabulary.specs.Operators.{number_of}
use Rattle.qs_syntax.specs.Trees.{ExprTree, LengthsTree, DeclaratorTree, InitialiserTree, Initialisers, VariableTree, DeclarationTree, ParameterTree, MembersTree}
use Rattle.qs_syntax.specs.ReadsTypes.{no_const, a_const, ReadsPrefixes, ReadsBase, a_void, an_int, a_char, an_unsigned, a_signed, a_struct, ReadsType, a_type, ReadsOuterType, an_outer_type, ReadsStars, no_star, a_star, Any, Names, Plain, a_plain_name, a_named_type}
use Rattle.qs_syntax.specs.Reads.{Conditional, Assignment, place}
use Rattle.qs_syntax.specs.ReadsDeclarations.{ReadsGiven, no_length, a_length, ReadsLengths, are_given, first_open, ReadsDeclarator, a_declarator, ReadsInitialiser, a_value, a_list, ReadsInitialisers, a_last_initialiser, a_last_with_comma, an_initialiser, ReadsVariable, an_unset_variable, a_set_variable, ReadsVariables, a_last_variable, a_variable, ReadsDeclaration, a_declaration, ReadsDeclarators, a_last_member, a_member, ReadsMembers, a_group, ReadsAllMembers, a_last_group, a_further_group, ReadsParameter, a_named_parameter, an_unnamed_parameter, ReadsParameters, a_last_parameter, a_parameter, ReadsHead, no_parameter, a_void_head, some_parameters}
use Rattle.qs_parser_grammar.specs.Heads.{is_punctuator, is_keyword, starts, begins_type, starts_type_name}
use Rattle.qs_parser_grammar.specs.Parse.{Parse, read_on, unexpected, deep, expect, skip_consts, stars, begins_one}
use Rattle.qs_parser_grammar.specs.ParseDeclarations.{skip_prefixes, outer_type, given_lengths, is_empty_brackets, behind_open, lengths, named, declarator, initialisers, begins_initialiser, initialiser, initialised, variable, variables, declared, declaration, declaration_within, declarators, members, groups, with_name, is_void_alone, without_first, parameter, after_parameter, parameters, is_void_head, head}
use Rattle.qs_parser_grammar.proofs.HeadsLaws.{punctuator_is, keyword_is}
use Rattle.qs_parser_grammar.proofs.Sound.{Sound}
use Rattle.qs_parser_grammar.proofs.TypesSound.{Taken, sound_type, StarsRead, stars_read}
use Rattle.qs_parser_grammar.proofs.ExpressionsSound.{sound_part}
use Rattle.qs_parser_grammar.proofs.UnitsSound.{taken_prefixes}
use Rattle.qs_parser_grammar.proofs.DeclarationsSound.{IsInitialiser, sound_declarator, sound_initialiser, sound_variable}
use Rattle.qs_parser_grammar.proofs.DeclarationsMembers.{sound_members}
use Rattle.qs_parser_grammar.proofs.DeclarationsParameters.{IsVoidOrNot, void_or_not, IsParameter, sound_parameter, void_is_refused, nothing_ends}
use Rattle.qs_parser_grammar.proofs.ExpressionsViable.{viable_base, viable_type, Has, number, one, one_begun, viable_part}
use Rattle.qs_parser_grammar.proofs.ExpressionsBegin.{high}
use Rattle.qs_parser_grammar.proofs.Viable.{Claims, OfFronts, behind_token, behind, Both, under, some_room, Viable, Viable-ok, Viable-unexpected, Viable-deep, Viable-after, Viable-token, Viable-if, Viable-read_on, Viable-read_on-is, Viable-done, here, Viable-is_punctuator, Viable-keyword, Viable-punctuator, Viable-no-punctuator, Viable-name, Viable-some, is_plain, plain_both}
use Rattle.qs_syntax.specs.declared.types.Base.TheVariants as bases

abbrev pub a_punctuator : punctuator.Punctuator → Terminal
a_punctuator k = Punctuator 0 k

-- ---- types

pub viable_outer_type : (Q : Claims) → OfFronts Q → ((xs : List Terminal) (b : Base) → ReadsOuterType xs b → Q true xs) → (ts : List Terminal) → Viable Q ts (outer_type ts)
unfolding outer_type
viable_outer_type Q c w ts =
    let before : Taken ReadsPrefixes ts (skip_prefixes ts) = taken_prefixes ts in
    Viable-after ts before.front (skip_prefixes ts) before.split _
    (Viable-done (λ b us. (b, skip_consts us)) (viable_base (λ b l. Q b (before.front ++ l)) (behind before.front c) (λ xs b r. subst (λ l. Q true (before.front ++ l)) (append-nil xs) (w (before.front ++ (xs ++ [])) b (an_outer_type before.is r no_const))) (skip_prefixes ts)))

-- a token that begins a type
abbrev BegunType : Terminal → Type 0
BegunType t = (xs : List Terminal) × (b : Base) × ReadsType (t ∷ xs) b × (is_plain xs ≡ true)

one_base : (k : key.Keyword) (t : Terminal) → is_keyword k t ≡ true → (xs : List Terminal) (b : Base) → is_plain xs ≡ true → ReadsType (Keyword (number_of t) k ∷ xs) b → BegunType t
one_base k t e xs b plain r = (xs, b, subst (λ u. ReadsType (u ∷ xs) b) (sym (keyword_is k t e)) r, plain)

pub plain_type : {xs : List Terminal} {b : Base} → ReadsBase xs b → ReadsType xs b
plain_type {xs} {b} r = subst (λ l. ReadsType l b) (append-nil xs) (a_type no_const r no_const)

-- the name of a type
name_begun : (t : Terminal) (ts : List Terminal) → starts_type_name (t ∷ ts) ≡ true → BegunType t
name_begun (Name at x) ts e = absurd cc
name_begun (TypeName at x) ts e = ([], bases.Named x, plain_type (a_named_type at x), refl)
name_begun (Keyword at k) ts e = absurd cc
name_begun (Constant at n unsigned) ts e = absurd cc
name_begun (Text at bytes) ts e = absurd cc
name_begun (Punctuator at m) ts e = absurd cc

type_begun : (t : Terminal) (ts : List Terminal) → begins_type (t ∷ ts) ≡ true → BegunType t
type_begun t ts e =
    by_case (starts_type_name (t ∷ ts)) (is_keyword keywords.Const t) (is_keyword keywords.Void t) (is_keyword keywords.Int t) (is_keyword keywords.Char t) (is_keyword keywords.Unsigned t) (is_keyword keywords.Signed t) (is_keyword keywords.Struct t)
    (name_begun t ts)
    (λ d. one_base keywords.Const t d (Keyword 0 keywords.Int ∷ []) _ refl (a_type (a_const (number_of t) no_const) (an_int 0) no_const))
    (λ d. one_base keywords.Void t d [] _ refl (plain_type (a_void (number_of t))))
    (λ d. one_base keywords.Int t d [] _ refl (plain_type (an_int (number_of t))))
    (λ d. one_base keywords.Char t d [] _ refl (plain_type (a_char (number_of t))))
    (λ d. one_base keywords.Unsigned t d [] _ refl (plain_type (an_unsigned (number_of t))))
    (λ d. one_base keywords.Signed t d [] _ refl (plain_type (a_signed (number_of t))))
    (λ d. one_base keywords.Struct t d (Name 0 [] ∷ []) _ refl (plain_type (a_struct (number_of t) (a_plain_name 0 [])))) e
  where
    by_case : (a b c d f g h i : Bool) → (a ≡ true → BegunType t) → (b ≡ true → BegunType t) → (c ≡ true → BegunType t) → (d ≡ true → BegunType t) → (f ≡ true → BegunType t) → (g ≡ true → BegunType t) → (h ≡ true → BegunType t) → (i ≡ true → BegunType t)
        → (a || (b || (c || (d || (f || (g || (h || i))))))) ≡ true → BegunType t
    by_case true b c d f g h i p q r s u v w x e = p refl
    by_case false true c d f g h i p q r s u v w x e = q refl
    by_case false false true d f g h i p q r s u v w x e = r refl
    by_case false false false true f g h i p q r s u v w x e = s refl
    by_case false false false false true g h i p q r s u v w x e = u refl
    by_case false false false false false true h i p q r s u v w x e = v refl
    by_case false false false false false false true i p q r s u v w x e = w refl
    by_case false false false false false false false true p q r s u v w x e = x refl
    by_case false false false false false false false false p q r s u v w x e = absurd cc

-- ---- lengths

abbrev AreGiven : ℕ → List Terminal → Type 0
AreGiven h xs = (es : List ExprTree) × ReadsGiven h xs es

abbrev pub AreLengths : ℕ → List Terminal → Type 0
AreLengths h xs = (l : LengthsTree) × ReadsLengths h xs l

one_length : (o : ℕ) → AreGiven (max 1 0) (Punctuator o punctuators.OpenBracket ∷ (number ++ a_punctuator punctuators.CloseBracket ∷ []))
one_length o = (_, a_length o 0 (one Conditional refl).1 no_length)

length_begun : (m : ℕ) (Q : Claims) → OfFronts Q → ((h : ℕ) (xs : List Terminal) → AreGiven h xs → Both Q m h xs) → (o : ℕ) (h : ℕ) (xs : List Terminal) → Has Conditional h xs → Both Q m h (Punctuator o punctuators.OpenBracket ∷ xs)
length_begun m Q c w o h xs s = under c (Punctuator o punctuators.OpenBracket ∷ xs) (a_punctuator punctuators.CloseBracket ∷ []) refl m (max h 0) (w (max h 0) _ (_, a_length o 0 s.1 no_length)) m h (λ le. omega arith)

viable_given : (m n : ℕ) (done : List ExprTree) (h : ℕ) (Q : Claims) → OfFronts Q → ((h : ℕ) (xs : List Terminal) → AreGiven h xs → Both Q m h xs) → (ts : List Terminal)
    → (starts punctuators.OpenBracket ts ≡ true → (o : ℕ) → Q true (Punctuator o punctuators.OpenBracket ∷ [])) → Viable Q ts (given_lengths m n done h ts)
unfolding given_lengths
viable_given m zero done h Q c w ts bracket = Viable-ok
viable_given m (suc n) done h Q c w ts bracket =
    Viable-if (starts punctuators.OpenBracket ts)
    (λ there. Viable-punctuator punctuators.OpenBracket ts _ ((w 0 [] ([], no_length)).1 (omega arith))
    (λ o us. Viable-read_on _ (sound_part m Conditional us) (viable_part m Conditional refl _ (behind_token (Punctuator o punctuators.OpenBracket) c) (length_begun m Q c w o) (bracket there o) us)
    (λ e front vs r. let fits : e.1 ≤ m = r.1 in let some : 0 < e.1 = high r.0 in
    Viable-punctuator punctuators.CloseBracket vs _ (here (λ b l. Q b (Punctuator o punctuators.OpenBracket ∷ l)) front ((length_begun m Q c w o e.1 front (e.0, r.0)).1 r.1))
    (λ k ws. let further : (g : ℕ) (xs : List Terminal) → AreGiven g xs → Both Q m g (Punctuator o punctuators.OpenBracket ∷ (front ++ Punctuator k punctuators.CloseBracket ∷ xs)) = λ g xs s. (let both = w (max e.1 g) _ (_, a_length o k r.0 s.1) in (both.0, λ le. both.1 (omega arith))) in
    let inside : OfFronts (λ b l. Q b (Punctuator o punctuators.OpenBracket ∷ (front ++ Punctuator k punctuators.CloseBracket ∷ l))) = behind_token (Punctuator k punctuators.CloseBracket) (behind front (behind_token (Punctuator o punctuators.OpenBracket) c)) in
    viable_given m n (done ++ e.0 ∷ []) (max h e.1) (λ b l. Q b (Punctuator o punctuators.OpenBracket ∷ (front ++ Punctuator k punctuators.CloseBracket ∷ l))) inside further ws
    (λ _ a. inside.front true (Punctuator a punctuators.OpenBracket ∷ []) (number ++ a_punctuator punctuators.CloseBracket ∷ []) ((further (max 1 0) _ (one_length a)).1 (omega arith)) refl)))))
    (λ _. Viable-ok)

module _ (m : ℕ) (Q : Claims) (c : OfFronts Q) (w : (h : ℕ) (xs : List Terminal) → AreLengths h xs → Both Q m h xs) where
  opened : (o k : ℕ) (h : ℕ) (xs : List Terminal) → AreGiven h xs → Both Q m h (Punctuator o punctuators.OpenBracket ∷ Punctuator k punctuators.CloseBracket ∷ xs)
  opened o k h xs s = w h _ (_, first_open o k s.1)

  open_bracket : (o : ℕ) → Q true (Punctuator o punctuators.OpenBracket ∷ [])
  open_bracket o = c.front true (Punctuator o punctuators.OpenBracket ∷ []) (a_punctuator punctuators.CloseBracket ∷ []) ((opened o 0 0 [] ([], no_length)).1 (omega arith)) refl

  viable_behind_open : (o k : ℕ) (ts : List Terminal) → Viable (λ b l. Q b (Punctuator o punctuators.OpenBracket ∷ Punctuator k punctuators.CloseBracket ∷ l)) ts (behind_open m ts)
  viable_behind_open o k ts =
      Viable-if (m == 0 && starts punctuators.OpenBracket ts) (λ e. at_bracket ts (and_parts (m == 0) (starts punctuators.OpenBracket ts) e).1)
      (λ e. viable_given m (length ts) [] 0 _ (behind_token (Punctuator k punctuators.CloseBracket) (behind_token (Punctuator o punctuators.OpenBracket) c)) (opened o k) ts
      (λ there a. let some : 0 < m = some_room m (only (m == 0) (starts punctuators.OpenBracket ts) there e) in
      c.front true (Punctuator o punctuators.OpenBracket ∷ Punctuator k punctuators.CloseBracket ∷ Punctuator a punctuators.OpenBracket ∷ []) (number ++ a_punctuator punctuators.CloseBracket ∷ []) ((opened o k (max 1 0) _ (one_length a)).1 (omega arith)) refl))
    where
      only : (b d : Bool) → d ≡ true → (b && d) ≡ false → b ≡ false
      only true true e f = f
      only true false e f = absurd cc
      only false d e f = refl

      at_bracket : (ts : List Terminal) → starts punctuators.OpenBracket ts ≡ true → Viable {A = List ExprTree × ℕ} (λ b l. Q b (Punctuator o punctuators.OpenBracket ∷ Punctuator k punctuators.CloseBracket ∷ l)) ts (deep ts)
      at_bracket [] e = absurd cc
      at_bracket (t ∷ ts) e = Viable-is_punctuator punctuators.OpenBracket t e
          (Viable-deep ((opened o k 0 [] ([], no_length)).1 (omega arith)) (c.front false (Punctuator o punctuators.OpenBracket ∷ Punctuator k punctuators.CloseBracket ∷ Punctuator (number_of t) punctuators.OpenBracket ∷ []) (number ++ a_punctuator punctuators.CloseBracket ∷ [])
          (opened o k (max 1 0) _ (one_length (number_of t))).0 refl))

  pub viable_lengths : (ts : List Terminal) → Viable Q ts (lengths m ts)
  unfolding lengths
  viable_lengths ts =
      Viable-if (is_empty_brackets ts)
      (λ _. Viable-punctuator punctuators.OpenBracket ts _ ((w 0 [] (_, are_given no_length)).1 (omega arith))
      (λ o us. Viable-punctuator punctuators.CloseBracket us _ (open_bracket o) (λ k vs. Viable-done _ (viable_behind_open o k vs))))
      (λ _. Viable-done _ (viable_given m (length ts) [] 0 Q c (λ h xs s. w h xs (_, are_given s.1)) ts (λ _ o. open_bracket o)))

-- ---- declarators

abbrev pub IsDeclarator : Names → ℕ → List Terminal → Type 0
IsDeclarator names h xs = (d : DeclaratorTree) × ReadsDeclarator names h xs d

-- the shortest
pub a_name : (names : Names) → IsDeclarator names 0 (Name 0 [] ∷ [])
a_name names = (_, a_declarator no_star (a_plain_name 0 []) (are_given no_length))

module _ (names : Names) (m : ℕ) (Q : Claims) (c : OfFronts Q) (w : (h : ℕ) (xs : List Terminal) → IsDeclarator names h xs → Both Q m h xs) where
  viable_named : (n : ℕ) (front : List Terminal) → ReadsStars front n → (ts : List Terminal) → Viable (λ b l. Q b (front ++ l)) ts (named names m n ts)
  viable_named n front s ts =
      Viable-name names ts _ ((behind front c).front true [] (Name 0 [] ∷ []) ((w 0 _ (_, a_declarator s (a_plain_name 0 []) (are_given no_length))).1 (omega arith)) refl)
      (λ t at x name us. Viable-done _ (viable_lengths m _ (behind_token t (behind front c)) (λ h xs l. w h _ (_, a_declarator s name l.1)) us))

  pub viable_declarator : (ts : List Terminal) → Viable Q ts (declarator names m ts)
  unfolding declarator
  viable_declarator ts = let first : StarsRead ts (stars ts) = stars_read ts in Viable-after ts first.front (stars ts).1 first.split _ (viable_named (stars ts).0 first.front first.is (stars ts).1)

-- ---- lists with commas between and a punctuator at the end

module _ (closing : punctuator.Punctuator) (n : ℕ) (One All : ℕ → List Terminal → Type 0) (last : (h : ℕ) (xs : List Terminal) → One h xs → All h xs)
    (further : (h k : ℕ) (xs ys : List Terminal) (at : ℕ) → One h xs → All k ys → All (max h k) (xs ++ Punctuator at punctuators.Comma ∷ ys)) (shortest : List Terminal) (least : All 1 shortest) (bare : is_plain shortest ≡ true) (room : 0 < n) where
  abbrev pub Closes : Claims → Type 0
  Closes Q = (h : ℕ) (xs : List Terminal) → All h xs → Both Q n h (xs ++ a_punctuator closing ∷ [])

  pub viable_after : {B : Type 0} (all : B) (others : Parse B) (g : ℕ) (front : List Terminal) → One g front → g ≤ n → (Q : Claims) → OfFronts Q → Closes Q
      → ((P : Claims) → OfFronts P → Closes P → P true [] → (ts : List Terminal) → Viable P ts (others ts))
      → (us : List Terminal) → Viable (λ b l. Q b (front ++ l)) us (cond (starts closing us) (read_on (expect closing us) (λ _ vs. Ok (all, vs))) (read_on (expect punctuators.Comma us) (λ _ vs. others vs)))
  viable_after all others g front r fits Q c w again us =
      let q : Q true (front ++ []) = here Q front (c.front true front (a_punctuator closing ∷ []) ((w g front (last g front r)).1 fits) refl) in
      Viable-if (starts closing us)
      (λ _. Viable-punctuator closing us _ q (λ at vs. Viable-ok))
      (λ _. Viable-punctuator punctuators.Comma us _ q
      (λ at vs. let more : Closes (λ b l. Q b (front ++ Punctuator at punctuators.Comma ∷ l)) = λ k xs s. (let both = w (max g k) (front ++ Punctuator at punctuators.Comma ∷ xs) (further g k front xs at r s) in let same = append_assoc front (Punctuator at punctuators.Comma ∷ xs) (a_punctuator closing ∷ []) in
      (subst (Q false) same both.0, λ le. subst (Q true) same (both.1 (omega arith)))) in
      again (λ b l. Q b (front ++ Punctuator at punctuators.Comma ∷ l)) (behind_token (Punctuator at punctuators.Comma) (behind front c)) more
      ((behind front c).front true (Punctuator at punctuators.Comma ∷ []) (shortest ++ a_punctuator closing ∷ []) ((more 1 shortest least).1 (omega arith)) (plain_both shortest (a_punctuator closing ∷ []) bare refl)) vs))

-- ---- initialisers

abbrev IsInit : ℕ → List Terminal → Type 0
IsInit h xs = (i : InitialiserTree) × ReadsInitialiser h xs i

abbrev AreInits : ℕ → List Terminal → Type 0
AreInits h xs = (is : Initialisers) × ReadsInitialisers h xs is

an_init : IsInit 1 number
an_init = (_, a_value (one Assignment refl).1)

module _ (n : ℕ) (one : Parse (InitialiserTree × ℕ)) (sound : (ts : List Terminal) → Sound (IsInitialiser n) [] ts (one ts))
    (viable : (Q : Claims) → OfFronts Q → ((h : ℕ) (xs : List Terminal) → IsInit h xs → Both Q n h xs) → Q true [] → (ts : List Terminal) → Viable Q ts (one ts)) where
  viable_initialisers : (turns : ℕ) (done : List InitialiserTree) (h : ℕ) (Q : Claims) → OfFronts Q → ((h : ℕ) (xs : List Terminal) → AreInits h xs → Both Q n h (xs ++ a_punctuator punctuators.CloseBrace ∷ [])) → Q true [] → (ts : List Terminal)
      → Viable Q ts (initialisers one turns done h ts)
  unfolding initialisers
  viable_initialisers zero done h Q c w low ts = Viable-unexpected low
  viable_initialisers (suc turns) done h Q c w low ts =
      Viable-read_on _ (sound ts) (viable Q c begun low ts)
      (λ i front us r. let fits : i.1 ≤ n = r.1 in let q : Q true (front ++ []) = here Q front ((begun i.1 front (i.0, r.0)).1 r.1) in
      Viable-if (starts punctuators.CloseBrace us)
      (λ _. Viable-punctuator punctuators.CloseBrace us _ q (λ at vs. Viable-ok))
      (λ _. Viable-punctuator punctuators.Comma us _ q
      (λ at vs. let comma : Q true (front ++ Punctuator at punctuators.Comma ∷ []) = c.front true (front ++ Punctuator at punctuators.Comma ∷ []) (a_punctuator punctuators.CloseBrace ∷ []) ((w i.1 (front ++ Punctuator at punctuators.Comma ∷ []) (_, a_last_with_comma at r.0)).1 r.1) refl in
      Viable-if (starts punctuators.CloseBrace vs)
      (λ _. Viable-punctuator punctuators.CloseBrace vs _ comma (λ k ws. Viable-ok))
      (λ _. viable_initialisers turns (done ++ i.0 ∷ []) (max h i.1) (λ b l. Q b (front ++ Punctuator at punctuators.Comma ∷ l)) (behind_token (Punctuator at punctuators.Comma) (behind front c))
      (λ k xs s. let both = w (max i.1 k) (front ++ Punctuator at punctuators.Comma ∷ xs) (_, an_initialiser at r.0 s.1) in let same = append_assoc front (Punctuator at punctuators.Comma ∷ xs) (a_punctuator punctuators.CloseBrace ∷ []) in
      (subst (Q false) same both.0, λ le. subst (Q true) same (both.1 (omega arith)))) comma vs))))
    where
      begun : (h : ℕ) (xs : List Terminal) → IsInit h xs → Both Q n h xs
      begun h xs s = under c xs (a_punctuator punctuators.CloseBrace ∷ []) refl n h (w h xs (_, a_last_initialiser s.1)) n h (λ le. le)

one_list : (at : ℕ) → IsInit 2 (Punctuator at punctuators.OpenBrace ∷ (number ++ a_punctuator punctuators.CloseBrace ∷ []))
one_list at = (_, a_list at 0 (a_last_initialiser an_init.1))

viable_initialiser : (n : ℕ) (Q : Claims) → OfFronts Q → ((h : ℕ) (xs : List Terminal) → IsInit h xs → Both Q n h xs) → Q true [] → (ts : List Terminal) → Viable Q ts (initialiser n ts)
unfolding initialiser
viable_initialiser zero Q c w low [] = Viable-unexpected low
viable_initialiser zero Q c w low (t ∷ ts) = Viable-if (begins_initialiser (t ∷ ts)) (λ e. Viable-deep low (begun (is_punctuator punctuators.OpenBrace t) (λ d. punctuator_is punctuators.OpenBrace t d) e)) (λ _. Viable-unexpected low)
  where
    begun : (b : Bool) → (b ≡ true → t ≡ Punctuator (number_of t) punctuators.OpenBrace) → cond b true (begins_one (t ∷ ts)) ≡ true → Q false (t ∷ [])
    begun true is e = subst (λ u. Q false (u ∷ [])) (sym (is refl)) (c.front false (Punctuator (number_of t) punctuators.OpenBrace ∷ []) _ (w 2 _ (one_list (number_of t))).0 refl)
    begun false is e = let by = one_begun Assignment refl t ts e in c.front false (t ∷ []) by.0 (w by.1.0 _ (_, a_value by.1.2)).0 by.2
viable_initialiser (suc m) Q c w low [] = Viable-done _ (viable_part (suc m) Assignment refl Q c (λ h xs s. w h xs (_, a_value s.1)) low [])
viable_initialiser (suc m) Q c w low (t ∷ ts) =
    Viable-if (starts punctuators.OpenBrace (t ∷ ts))
    (λ e. Viable-some m low (subst (λ u. Q false (u ∷ [])) (sym (punctuator_is punctuators.OpenBrace t e)) (c.front false (Punctuator (number_of t) punctuators.OpenBrace ∷ []) _ (w 2 _ (one_list (number_of t))).0 refl))
    (λ some. Viable-punctuator punctuators.OpenBrace (t ∷ ts) _ low
    (λ o us. Viable-done _ (viable_initialisers m (initialiser m) (λ vs. sound_initialiser m vs) (λ P d v l vs. viable_initialiser m P d v l vs) (length us) [] 0 _ (behind_token (Punctuator o punctuators.OpenBrace) c)
    (λ h xs s. let both = w (suc h) _ (_, a_list o 0 s.1) in (both.0, λ le. both.1 (omega arith))) (c.front true (Punctuator o punctuators.OpenBrace ∷ []) _ ((w 2 _ (one_list o)).1 (omega arith)) refl) us))))
    (λ _. Viable-done _ (viable_part (suc m) Assignment refl Q c (λ h xs s. w h xs (_, a_value s.1)) low (t ∷ ts)))

-- ---- variables

abbrev pub IsVariable : ℕ → List Terminal → Type 0
IsVariable h xs = (v : VariableTree) × ReadsVariable h xs v

abbrev pub AreVariables : ℕ → List Terminal → Type 0
AreVariables h xs = (vs : List VariableTree) × ReadsVariables h xs vs

only_variable : (h : ℕ) (xs : List Terminal) → IsVariable h xs → AreVariables h xs
only_variable h xs r = (_, a_last_variable r.1)

-- the shortest
pub one_variable : AreVariables 1 (Name 0 [] ∷ [])
one_variable = (_, a_last_variable (an_unset_variable (a_name Plain).1))

module _ (m : ℕ) (Q : Claims) (c : OfFronts Q) (w : (h : ℕ) (xs : List Terminal) → IsVariable h xs → Both Q (suc m) h xs) where
  viable_initialised : (d : DeclaratorTree × ℕ) (front : List Terminal) → ReadsDeclarator Plain d.1 front d.0 → d.1 ≤ m → (ts : List Terminal) → Viable (λ b l. Q b (front ++ l)) ts (initialised m d ts)
  viable_initialised d front r fits [] = Viable-ok
  viable_initialised d front r fits (t ∷ ts) =
      let there : Q true (front ++ []) = here Q front ((w (suc d.1) front (_, an_unset_variable r)).1 (omega arith)) in
      Viable-if (starts punctuators.Assign (t ∷ ts))
      (λ e. Viable-some m there (subst (λ u. Q false (front ++ u ∷ [])) (sym (punctuator_is punctuators.Assign t e)) ((behind front c).front false (Punctuator (number_of t) punctuators.Assign ∷ []) number (node (number_of t) 1 number an_init).0 refl))
      (λ some. Viable-punctuator punctuators.Assign (t ∷ ts) _ there
      (λ at us. let begun : (h : ℕ) (xs : List Terminal) → IsInit h xs → Both Q m h (front ++ Punctuator at punctuators.Assign ∷ xs) = λ h xs s. (let both = node at h xs s in (both.0, λ le. both.1 (omega arith))) in
      Viable-done _ (viable_initialiser m _ (behind_token (Punctuator at punctuators.Assign) (behind front c)) begun ((behind front c).front true (Punctuator at punctuators.Assign ∷ []) number ((begun 1 number an_init).1 (omega arith)) refl) us)))) (λ _. Viable-ok)
    where
      node : (at : ℕ) (h : ℕ) (xs : List Terminal) → IsInit h xs → Both Q (suc m) (suc (max d.1 h)) (front ++ Punctuator at punctuators.Assign ∷ xs)
      node at h xs s = w (suc (max d.1 h)) _ (_, a_set_variable at r s.1)

  viable_variable : (ts : List Terminal) → Viable Q ts (variable m ts)
  unfolding variable
  viable_variable ts =
      Viable-read_on (initialised m) (sound_declarator Plain m ts) (viable_declarator Plain m Q c (λ h xs s. let both = w (suc h) xs (_, an_unset_variable s.1) in (both.0, λ le. both.1 (omega arith))) ts) (λ d front us r. viable_initialised d front r.0 r.1 us)

further_variable : (h k : ℕ) (xs ys : List Terminal) (at : ℕ) → IsVariable h xs → AreVariables k ys → AreVariables (max h k) (xs ++ Punctuator at punctuators.Comma ∷ ys)
further_variable h k xs ys at r s = (_, a_variable at r.1 s.1)

viable_variables : (m n : ℕ) (done : List VariableTree) (h : ℕ) (Q : Claims) → OfFronts Q → ((h : ℕ) (xs : List Terminal) → AreVariables h xs → Both Q (suc m) h (xs ++ a_punctuator punctuators.Semicolon ∷ [])) → Q true [] → (ts : List Terminal) → Viable Q ts (variables m n done h ts)
unfolding variables
viable_variables m zero done h Q c w low ts = Viable-unexpected low
viable_variables m (suc n) done h Q c w low ts =
    Viable-read_on _ (sound_variable m ts) (viable_variable m Q c (λ h xs s. under c xs (a_punctuator punctuators.Semicolon ∷ []) refl (suc m) h (w h xs (only_variable h xs s)) (suc m) h (λ le. le)) ts)
    (λ v front us r. viable_after punctuators.Semicolon (suc m) IsVariable AreVariables only_variable further_variable (Name 0 [] ∷ []) one_variable refl (omega arith) (done ++ v.0 ∷ [], max h v.1) (variables m n (done ++ v.0 ∷ []) (max h v.1)) v.1 front (v.0, r.0) r.1 Q c w
    (λ P d u l vs. viable_variables m n (done ++ v.0 ∷ []) (max h v.1) P d u l vs) us)

-- behind a type
pub viable_declared : (m : ℕ) (b : Base) (Q : Claims) → OfFronts Q → ((h : ℕ) (xs : List Terminal) → AreVariables h xs → Both Q (suc m) h (xs ++ a_punctuator punctuators.Semicolon ∷ [])) → Q true [] → (ts : List Terminal) → Viable Q ts (declared m b ts)
viable_declared m b Q c w low ts = Viable-done _ (viable_variables m (length ts) [] 0 Q c w low ts)

abbrev pub IsDeclaration : ℕ → List Terminal → Type 0
IsDeclaration h xs = (d : DeclarationTree) × ReadsDeclaration h xs d

module _ (n : ℕ) (Q : Claims) (c : OfFronts Q) (w : (h : ℕ) (xs : List Terminal) → IsDeclaration h xs → Both Q n h xs) where
  behind_type : (xs : List Terminal) (b : Base) → ReadsType xs b → (h : ℕ) (ys : List Terminal) → AreVariables h ys → Both Q n h (xs ++ (ys ++ a_punctuator punctuators.Semicolon ∷ []))
  behind_type xs b t h ys s = w h _ (_, a_declaration 0 t s.1)

  -- a type begins a declaration
  any_typed : (xs : List Terminal) (b : Base) → ReadsType xs b → Q false xs
  any_typed xs b t = c.front false xs _ (behind_type xs b t 1 _ one_variable).0 refl

  low_typed : 0 < n → (xs : List Terminal) (b : Base) → ReadsType xs b → Q true xs
  low_typed some xs b t = c.front true xs _ ((behind_type xs b t 1 _ one_variable).1 (omega arith)) refl

pub viable_declaration_within : (n : ℕ) (Q : Claims) → OfFronts Q → ((h : ℕ) (xs : List Terminal) → IsDeclaration h xs → Both Q n h xs) → Q true [] → (t : Terminal) (ts : List Terminal) → begins_type (t ∷ ts) ≡ true
    → Viable Q (t ∷ ts) (declaration_within n (t ∷ ts))
unfolding declaration_within declaration
viable_declaration_within zero Q c w low t ts e = let by = type_begun t ts e in Viable-deep low (c.front false (t ∷ []) by.0 (any_typed 0 Q c w (t ∷ by.0) by.1 by.2) by.3)
viable_declaration_within (suc m) Q c w low t ts e =
    let typed : (xs : List Terminal) (b : Base) → ReadsType xs b → Q true xs = low_typed (suc m) Q c w (omega arith) in
    Viable-read_on (declared m) (sound_type (t ∷ ts)) (viable_type Q c typed (t ∷ ts))
    (λ b front us r. viable_declared m b (λ b l. Q b (front ++ l)) (behind front c) (behind_type (suc m) Q c w front b r) (here Q front (typed front b r)) us)

-- ---- members

-- a declarator as a node
abbrev IsMember : ℕ → List Terminal → Type 0
IsMember h xs = (k : ℕ) × (h ≡ suc k) × IsDeclarator Any k xs

abbrev AreDeclarators : ℕ → List Terminal → Type 0
AreDeclarators h xs = (ds : List DeclaratorTree) × ReadsDeclarators h xs ds

only_member : (h : ℕ) (xs : List Terminal) → IsMember h xs → AreDeclarators h xs
only_member h xs (k, e, (d, r)) = rw e (_, a_last_member r)

further_member : (h k : ℕ) (xs ys : List Terminal) (at : ℕ) → IsMember h xs → AreDeclarators k ys → AreDeclarators (max h k) (xs ++ Punctuator at punctuators.Comma ∷ ys)
further_member h k xs ys at (j, e, (d, r)) s = rw e (_, a_member at r s.1)

-- the shortest
one_member : AreDeclarators 1 (Name 0 [] ∷ [])
one_member = (_, a_last_member (a_name Any).1)

viable_declarators : (m n : ℕ) (done : List DeclaratorTree) (h : ℕ) (Q : Claims) → OfFronts Q → ((h : ℕ) (xs : List Terminal) → AreDeclarators h xs → Both Q (suc m) h (xs ++ a_punctuator punctuators.Semicolon ∷ [])) → Q true [] → (ts : List Terminal)
    → Viable Q ts (declarators m n done h ts)
unfolding declarators
viable_declarators m zero done h Q c w low ts = Viable-unexpected low
viable_declarators m (suc n) done h Q c w low ts =
    Viable-read_on _ (sound_declarator Any m ts) (viable_declarator Any m Q c (λ h xs s. under c xs (a_punctuator punctuators.Semicolon ∷ []) refl (suc m) (suc h) (w (suc h) xs (_, a_last_member s.1)) m h (λ le. omega arith)) ts)
    (λ d front us r. let fits : d.1 ≤ m = r.1 in
    viable_after punctuators.Semicolon (suc m) IsMember AreDeclarators only_member further_member (Name 0 [] ∷ []) one_member refl (omega arith) (done ++ d.0 ∷ [], max h (d.1 + 1)) (declarators m n (done ++ d.0 ∷ []) (max h (d.1 + 1))) (suc d.1) front (d.1, refl, (d.0, r.0)) (omega arith) Q c w
    (λ P e u l vs. viable_declarators m n (done ++ d.0 ∷ []) (max h (d.1 + 1)) P e u l vs) us)

abbrev AreMembers : ℕ → List Terminal → Type 0
AreMembers h xs = (g : MembersTree) × ReadsMembers h xs g

abbrev pub AreGroups : ℕ → List Terminal → Type 0
AreGroups h xs = (gs : List MembersTree) × ReadsAllMembers h xs gs

module _ (m : ℕ) (Q : Claims) (c : OfFronts Q) (w : (h : ℕ) (xs : List Terminal) → AreMembers h xs → Both Q (suc m) h xs) where
  group_begun : (xs : List Terminal) (b : Base) → ReadsType xs b → (h : ℕ) (ys : List Terminal) → AreDeclarators h ys → Both Q (suc m) h (xs ++ (ys ++ a_punctuator punctuators.Semicolon ∷ []))
  group_begun xs b t h ys s = w h _ (_, a_group 0 t s.1)

  group_typed : (xs : List Terminal) (b : Base) → ReadsType xs b → Q true xs
  group_typed xs b t = c.front true xs _ ((group_begun xs b t 1 _ one_member).1 (omega arith)) refl

  viable_members : (ts : List Terminal) → Viable Q ts (members m ts)
  unfolding members
  viable_members ts =
      Viable-read_on _ (sound_type ts) (viable_type Q c group_typed ts)
      (λ b front us t. Viable-done _ (viable_declarators m (length us) [] 0 (λ b l. Q b (front ++ l)) (behind front c) (group_begun front b t) (here Q front (group_typed front b t)) us))

-- the shortest
pub a_member_group : AreGroups 1 (Keyword 0 keywords.Int ∷ Name 0 [] ∷ a_punctuator punctuators.Semicolon ∷ [])
a_member_group = (_, a_last_group (a_group {xs = Keyword 0 keywords.Int ∷ []} {ys = Name 0 [] ∷ []} 0 (plain_type (an_int 0)) one_member.1))

pub viable_groups : (m n : ℕ) (done : List MembersTree) (h : ℕ) (Q : Claims) → OfFronts Q → ((h : ℕ) (xs : List Terminal) → AreGroups h xs → Both Q (suc m) h (xs ++ a_punctuator punctuators.CloseBrace ∷ [])) → Q true [] → (ts : List Terminal)
    → Viable Q ts (groups m n done h ts)
unfolding groups
viable_groups m zero done h Q c w low ts = Viable-unexpected low
viable_groups m (suc n) done h Q c w low ts =
    Viable-read_on _ (sound_members m ts) (viable_members m Q c one_group ts)
    (λ g front us r. let fits : g.1 ≤ suc m = r.1 in let there : Q true (front ++ []) = here Q front ((one_group g.1 front (g.0, r.0)).1 fits) in
    Viable-if (starts punctuators.CloseBrace us)
    (λ _. Viable-punctuator punctuators.CloseBrace us _ there (λ at vs. Viable-ok))
    (λ _. viable_groups m n (done ++ g.0 ∷ []) (max h g.1) (λ b l. Q b (front ++ l)) (behind front c)
    (λ k xs s. let both = w (max g.1 k) (front ++ xs) (_, a_further_group r.0 s.1) in let same = append_assoc front xs (a_punctuator punctuators.CloseBrace ∷ []) in
    (subst (Q false) same both.0, λ le. subst (Q true) same (both.1 (omega arith)))) there us))
  where
    one_group : (h : ℕ) (xs : List Terminal) → AreMembers h xs → Both Q (suc m) h xs
    one_group h xs s = under c xs (a_punctuator punctuators.CloseBrace ∷ []) refl (suc m) h (w h xs (_, a_last_group s.1)) (suc m) h (λ le. le)

-- ---- parameters

abbrev IsOneParameter : ℕ → List Terminal → Type 0
IsOneParameter h xs = (p : ParameterTree) × ReadsParameter h xs p

abbrev AreParameters : ℕ → List Terminal → Type 0
AreParameters h xs = (ps : List ParameterTree) × ReadsParameters h xs ps

only_parameter : (h : ℕ) (xs : List Terminal) → IsOneParameter h xs → AreParameters h xs
only_parameter h xs r = (_, a_last_parameter r.1)

further_parameter : (h k : ℕ) (xs ys : List Terminal) (at : ℕ) → IsOneParameter h xs → AreParameters k ys → AreParameters (max h k) (xs ++ Punctuator at punctuators.Comma ∷ ys)
further_parameter h k xs ys at r s = (_, a_parameter at r.1 s.1)

-- `void *`
void_pointer : (at : ℕ) → IsOneParameter 1 (Keyword at keywords.Void ∷ a_punctuator punctuators.Star ∷ [])
void_pointer at = (_, an_unnamed_parameter {xs = Keyword at keywords.Void ∷ []} {ys = a_punctuator punctuators.Star ∷ []} {zs = []} (plain_type (a_void at)) (a_star 0 no_const no_star) (are_given no_length) (λ n e. absurd cc))

module _ (m : ℕ) (Q : Claims) (c : OfFronts Q) (w : (h : ℕ) (xs : List Terminal) → IsOneParameter h xs → Both Q (suc m) h xs) where
  void_begun : (at : ℕ) → Q true (Keyword at keywords.Void ∷ [])
  void_begun at = c.front true (Keyword at keywords.Void ∷ []) (a_punctuator punctuators.Star ∷ []) ((w 1 _ (void_pointer at)).1 (omega arith)) refl

  any_void : (at : ℕ) → Q false (Keyword at keywords.Void ∷ [])
  any_void at = c.front false (Keyword at keywords.Void ∷ []) (a_punctuator punctuators.Star ∷ []) (w 1 _ (void_pointer at)).0 refl

  module _ (start : ℕ) (b : Base) (n : ℕ) (front ys : List Terminal) (t : ReadsType front b) (s : ReadsStars ys n) where
    abbrev Behind : Claims
    Behind q l = Q q (front ++ (ys ++ l))

    unnamed : (h : ℕ) (xs : List Terminal) → AreLengths h xs → Both Behind m h xs
    unnamed h xs l = by_case (void_or_not (front ++ (ys ++ xs)))
      where
        by_case : IsVoidOrNot (front ++ (ys ++ xs)) → Both Behind m h xs
        by_case (inl v) = (subst (Q false) (sym v.1) (any_void v.0), λ le. subst (Q true) (sym v.1) (void_begun v.0))
        by_case (inr v) = let both = w (suc h) _ (_, an_unnamed_parameter t s l.1 v) in (both.0, λ le. both.1 (omega arith))

    behind_all : OfFronts Behind
    behind_all = behind ys (behind front c)

    named_there : (at : ℕ) (x : List ℕ) (h : ℕ) (xs : List Terminal) → AreLengths h xs → Both Behind m h (Name at x ∷ xs)
    named_there at x h xs l = let both = w (suc h) _ (_, a_named_parameter at x t s l.1) in (both.0, λ le. both.1 (omega arith))

    viable_with_name : (ts : List Terminal) → Viable Behind ts (with_name m start b n ts)
    viable_with_name [] = Viable-done _ (viable_lengths m Behind behind_all unnamed [])
    viable_with_name (Name at x ∷ ts) = Viable-token (Viable-done _ (viable_lengths m (λ q l. Behind q (Name at x ∷ l)) (behind_token (Name at x) behind_all) (named_there at x) ts))
    viable_with_name (TypeName at x ∷ ts) = Viable-done _ (viable_lengths m Behind behind_all unnamed (TypeName at x ∷ ts))
    viable_with_name (Keyword at k ∷ ts) = Viable-done _ (viable_lengths m Behind behind_all unnamed (Keyword at k ∷ ts))
    viable_with_name (Constant at k unsigned ∷ ts) = Viable-done _ (viable_lengths m Behind behind_all unnamed (Constant at k unsigned ∷ ts))
    viable_with_name (Text at bytes ∷ ts) = Viable-done _ (viable_lengths m Behind behind_all unnamed (Text at bytes ∷ ts))
    viable_with_name (Punctuator at k ∷ ts) = Viable-done _ (viable_lengths m Behind behind_all unnamed (Punctuator at k ∷ ts))

  -- a type begins a parameter
  parameter_begun : (xs : List Terminal) (b : Base) → ReadsType xs b → Q true xs
  parameter_begun xs b t = c.front true xs (Name 0 [] ∷ []) ((w 1 _ (_, a_named_parameter {ys = []} 0 [] t no_star (are_given no_length))).1 (omega arith)) refl

  viable_parameter : (ts : List Terminal) → Viable Q ts (parameter m ts)
  unfolding parameter
  viable_parameter ts =
      Viable-if (is_void_alone ts) (void_alone ts)
      (λ _. Viable-read_on _ (sound_type ts) (viable_type Q c parameter_begun ts)
      (λ b front us t. let first : StarsRead us (stars us) = stars_read us in Viable-after us first.front (stars us).1 first.split _ (viable_with_name (place ts) b (stars us).0 front first.front t first.is (stars us).1)))
    where
      void_alone : (ts : List Terminal) → is_void_alone ts ≡ true → Viable {A = ParameterTree × ℕ} Q ts (unexpected (without_first ts))
      void_alone [] e = absurd cc
      void_alone (t ∷ ts) e = Viable-keyword keywords.Void t (and_parts (is_keyword keywords.Void t) _ e).0 (Viable-token (Viable-unexpected (void_begun (number_of t))))

abbrev AllParameters : ℕ → Claims → Type 0
AllParameters m Q = (h : ℕ) (xs : List Terminal) → AreParameters h xs → Both Q (suc m) h (xs ++ a_punctuator punctuators.CloseParenthesis ∷ [])

viable_parameters : (m n : ℕ) (done : List ParameterTree) (h : ℕ) (Q : Claims) → OfFronts Q → AllParameters m Q → Q true [] → (ts : List Terminal) → Viable Q ts (parameters m n done h ts)
unfolding parameters
viable_parameters m zero done h Q c w low ts = Viable-unexpected low
viable_parameters m (suc n) done h Q c w low ts =
    Viable-read_on-is _ (sound_parameter m ts) (viable_parameter m Q c one_there ts) (λ p front us read split r. by_case p (λ P e u l vs. viable_parameters m n (done ++ p.0 ∷ []) (max h p.1) P e u l vs) front us read split r)
  where
    one_there : (h : ℕ) (xs : List Terminal) → IsOneParameter h xs → Both Q (suc m) h xs
    one_there h xs s = under c xs (a_punctuator punctuators.CloseParenthesis ∷ []) refl (suc m) h (w h xs (only_parameter h xs s)) (suc m) h (λ le. le)

    by_case : (p : ParameterTree × ℕ) → ((P : Claims) → OfFronts P → AllParameters m P → P true [] → (vs : List Terminal) → Viable P vs (parameters m n (done ++ p.0 ∷ []) (max h p.1) vs))
        → (front us : List Terminal) → parameter m ts ≡ Ok (p, us) → ts ≡ front ++ us → IsParameter m p front → Viable (λ b l. Q b (front ++ l)) us (after_parameter (parameters m n) (done ++ p.0 ∷ []) (max h p.1) us)
    by_case p others front us read split (inl r) =
        viable_after punctuators.CloseParenthesis (suc m) IsOneParameter AreParameters only_parameter further_parameter _ (only_parameter 1 _ (void_pointer 0)) refl (omega arith) (done ++ p.0 ∷ [], max h p.1) (parameters m n (done ++ p.0 ∷ []) (max h p.1)) p.1 front (p.0, r.0) r.1 Q c w others us
    by_case p others front us read split (inr (at, e)) =
        let void : ts ≡ Keyword at keywords.Void ∷ us = split ∙ ap (λ l. l ++ us) e in
        let ends = nothing_ends at us (sym (ap is_void_alone void) ∙ void_is_refused m ts p us read) in
        let q : Q true (front ++ []) = here Q front (subst (Q true) (sym e) (void_begun m Q c one_there at)) in
        Viable-if (starts punctuators.CloseParenthesis us) (λ d. absurd (true≢false (sym d ∙ ends.1))) (λ _. Viable-no-punctuator punctuators.Comma us _ ends.0 q)

-- ---- the head of a function

abbrev pub IsHead : ℕ → List Terminal → Type 0
IsHead h xs = (ps : List ParameterTree) × ReadsHead h xs ps

pub viable_head : (m : ℕ) (Q : Claims) → OfFronts Q → ((h : ℕ) (xs : List Terminal) → IsHead h xs → Both Q (suc m) h (xs ++ a_punctuator punctuators.CloseParenthesis ∷ [])) → (ts : List Terminal) → Viable Q ts (head m ts)
unfolding head
viable_head m Q c w ts =
    let low : Q true [] = c.front true [] (a_punctuator punctuators.CloseParenthesis ∷ []) ((w 0 [] ([], no_parameter)).1 (omega arith)) refl in
    Viable-if (starts punctuators.CloseParenthesis ts)
    (λ _. Viable-punctuator punctuators.CloseParenthesis ts _ low (λ at us. Viable-ok))
    (λ _. Viable-if (is_void_head ts) (void_head ts) (λ _. viable_parameters m (length ts) [] 0 Q c (λ h xs s. w h xs (_, some_parameters s.1)) low ts))
  where
    void_head : (ts : List Terminal) → is_void_head ts ≡ true → Viable {A = List ParameterTree × ℕ} Q ts (read_on (expect punctuators.CloseParenthesis (without_first ts)) (λ _ us. Ok (([], 0), us)))
    void_head [] e = absurd cc
    void_head (t ∷ ts) e =
        Viable-keyword keywords.Void t (and_parts (is_keyword keywords.Void t) _ e).0
        (Viable-token (Viable-punctuator punctuators.CloseParenthesis ts _ (c.front true (Keyword (number_of t) keywords.Void ∷ []) (a_punctuator punctuators.CloseParenthesis ∷ []) ((w 0 _ ([], a_void_head (number_of t))).1 (omega arith)) refl) (λ at us. Viable-ok)))
