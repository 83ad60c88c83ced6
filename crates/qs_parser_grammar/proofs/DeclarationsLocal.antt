-- What the parser of declarations answers depends on no token behind the one at which it stops.
use Rattle.std.proofs.Common.{◌≡◌, ℕ, zero, suc, ◌+◌, ◌<◌, ◌≤◌, Bool, true, false, cond, List, [], ◌∷◌, ◌++◌, length, Ok, Err, Some, None, refl, sym, ap, ◌∙◌, arith, length-append}
use Rattle.std.specs.Prelude.{max, ◌==◌, ◌&&◌}
use Rattle.qs_syntax_vocabulary.specs.declared.terminal.Terminal.{Terminal}
use Rattle.qs_syntax_vocabulary.specs.declared.terminal.Terminal.TheVariants.{Name, TypeName, Keyword, Constant, Text, Punctuator}
use Rattle.qs_base.specs.declared.keyword.Keyword.TheVariants as keywords
use Rattle.qs_syntax_vocabulary.specs.declared.punctuator.Punctuator as punctuator
use Rattle.qs_syntax_vocabulary.specs.declared.punctuator.Punctuator.TheVariants as punctuators
use Rattle.qs_syntax.specs.declared.types.Base.{Base}
use Rattle.qs_syntax.specs.declared.types.Base.TheVariants as bases
use Rattle.qs_syntax.specs.Trees.{unnumbered, ExprTree, LengthsTree, DeclaratorTree, InitialiserTree, value, list, initialisers_of, VariableTree, DeclarationTree, ParameterTree, MembersTree}
use Rattle.qs_syntax.specs.ReadsDeclarations.{ReadsMembers, a_group}
use Rattle.qs_syntax.specs.Reads.{Conditional, Assignment, place}
use Rattle.qs_parser_grammar.specs.Heads.{is_punctuator, is_keyword, starts}
use Rattle.qs_parser_grammar.specs.Parse.{Unexpected, Parse, read_on, E, unexpected, deep, deeper, expect, skip_consts, base, type, stars, part}
use Rattle.qs_parser_grammar.specs.ParseDeclarations.{skip_prefixes, outer_type, given_lengths, is_empty_brackets, lengths_of, behind_open, lengths, named, declarator, after_initialiser, initialisers, begins_initialiser, initialiser, initialised, variable, variables, declared, declaration, declaration_within, declarators, members, groups, with_name, is_void_alone, without_first, parameter, parameters, is_void_head, head}
use Rattle.qs_parser_grammar.proofs.NodeCounts.{type_some}
use Rattle.qs_parser_grammar.proofs.DeclarationsMembers.{sound_members}
use Rattle.qs_parser_grammar.proofs.ExpressionsLocal.{skip_shrinks, Local-skip, Local-base, Local-type, Local-stars, begins_one_same, part_nothing, Local-part}
use Rattle.qs_parser_grammar.proofs.Local.{left, extend, Local, read_on-left, Local-read_on, Local-look, Local-weak, Local-cons, Local-same, Local-turn, Local-ok, Local-unexpected-all, Local-deep-all, Local-deeper, Local-if, Local-starts, Local-place, Local-punctuator, Local-name, cond-left, Local-two, read_on_same, read_on_nothing, cond_same, expect_takes, leaves_less, Turns, Local-turns, Local-after, after_same, Looks-punctuator, Looks-keyword, sound_takes}
use Rattle.qs_syntax.specs.ReadsTypes.{Any, Names, Plain}

-- ---- types at file scope

prefixes_shrink : (ts : List Terminal) → length (skip_prefixes ts) ≤ length ts
prefixes_shrink [] = omega arith
prefixes_shrink (t ∷ ts) = by_case (is_keyword keywords.Const t) (is_keyword keywords.Static t) (prefixes_shrink ts)
  where
    by_case : (b c : Bool) → length (skip_prefixes ts) ≤ length ts → length (cond b (skip_prefixes ts) (cond c (skip_prefixes ts) (t ∷ ts))) ≤ suc (length ts)
    by_case true c h = omega arith
    by_case false true h = omega arith
    by_case false false h = omega arith

prefixes_more : (ts us : List Terminal) → 0 < length (skip_prefixes ts) → skip_prefixes (ts ++ us) ≡ skip_prefixes ts ++ us
prefixes_more [] us h = absurd (omega arith)
prefixes_more (t ∷ ts) us h = by_case (is_keyword keywords.Const t) (is_keyword keywords.Static t) (λ h. prefixes_more ts us h) h
  where
    by_case : (b c : Bool) → (0 < length (skip_prefixes ts) → skip_prefixes (ts ++ us) ≡ skip_prefixes ts ++ us) → 0 < length (cond b (skip_prefixes ts) (cond c (skip_prefixes ts) (t ∷ ts)))
        → cond b (skip_prefixes (ts ++ us)) (cond c (skip_prefixes (ts ++ us)) (t ∷ (ts ++ us))) ≡ cond b (skip_prefixes ts) (cond c (skip_prefixes ts) (t ∷ ts)) ++ us
    by_case true c further h = further h
    by_case false true further h = further h
    by_case false false further h = refl

prefixes_pass : (ts us : List Terminal) → length (skip_prefixes ts) ≡ 0 → length (skip_prefixes (ts ++ us)) ≤ length us
prefixes_pass [] us h = prefixes_shrink us
prefixes_pass (t ∷ ts) us h = by_case (is_keyword keywords.Const t) (is_keyword keywords.Static t) (λ h. prefixes_pass ts us h) h
  where
    by_case : (b c : Bool) → (length (skip_prefixes ts) ≡ 0 → length (skip_prefixes (ts ++ us)) ≤ length us) → length (cond b (skip_prefixes ts) (cond c (skip_prefixes ts) (t ∷ ts))) ≡ 0
        → length (cond b (skip_prefixes (ts ++ us)) (cond c (skip_prefixes (ts ++ us)) (t ∷ (ts ++ us)))) ≤ length us
    by_case true c further h = further h
    by_case false true further h = further h
    by_case false false further h = absurd (omega arith)

Local-prefixes : Local {A = Unit {0}} 0 (λ ts. Ok (tt, skip_prefixes ts))
Local-prefixes = record { shrinks = λ ts. omega (arith, prefixes_shrink ts); stable = λ ts us h. ap (λ l. Ok (tt, l)) (prefixes_more ts us h); passes = prefixes_pass }

pub Local-outer_type : Local 0 outer_type
unfolding outer_type
Local-outer_type = Local-read_on (λ (u : Unit {0}) ts. read_on (base ts) (λ b us. Ok (b, skip_consts us))) (λ u. Local-read_on _ (λ b. Local-skip b) base Local-base) (λ ts. Ok (tt, skip_prefixes ts)) Local-prefixes

-- ---- lengths

abbrev given_turn : (m : ℕ) → (List ExprTree × ℕ → Parse (List ExprTree × ℕ)) → List ExprTree × ℕ → Parse (List ExprTree × ℕ)
given_turn m f x ts =
    cond (starts punctuators.OpenBracket ts)
    (read_on (expect punctuators.OpenBracket ts) (λ _ us. read_on (part m Conditional us) (λ e vs. read_on (expect punctuators.CloseBracket vs) (λ _ ws. f (x.0 ++ e.0 ∷ [], max x.1 e.1) ws))))
    (Ok ((x.0, x.1), ts))

given_turns : (m : ℕ) → Turns (λ n x. given_lengths m n x.0 x.1) (given_turn m)
unfolding given_lengths
given_turns m = record {
  turn = λ n x ts. refl;
  none = λ x. refl;
  takes = λ f g x ts same. cond_same (starts punctuators.OpenBracket ts)
      (read_on_same (expect punctuators.OpenBracket ts) _ _ (λ u us is. read_on_same (part m Conditional us) _ _ (λ e vs read. read_on_same (expect punctuators.CloseBracket vs) _ _ (λ v ws closed. same _ ws
      (let took = expect_takes punctuators.OpenBracket ts u us is in
      let less = leaves_less (part m Conditional) (Local-part m Conditional) us e vs read in
      let end = expect_takes punctuators.CloseBracket vs v ws closed in
      omega arith))))) refl;
  last = λ x. Local-ok (x.0, x.1);
  further = λ f local x. Local-starts punctuators.OpenBracket _ _
      (Local-punctuator punctuators.OpenBracket _ (λ _. Local-read_on _ (λ e. Local-punctuator punctuators.CloseBracket _ (λ _. local _)) (part m Conditional) (Local-part m Conditional))) (Local-ok (x.0, x.1));
}

Local-given : (m : ℕ) → Local 0 (λ ts. given_lengths m (length ts) [] 0 ts)
Local-given m = Local-turns _ _ (given_turns m) ([], 0)

Local-behind_open : (m : ℕ) → Local 0 (behind_open m)
Local-behind_open m = Local-if (λ ts. m == 0 && starts punctuators.OpenBracket ts) (λ t ts us. refl) deep _ Local-deep-all (Local-given m)

Local-lengths_of : (b : Bool) (p : Parse (List ExprTree × ℕ)) → Local 0 p → Local 0 (λ ts. lengths_of b (p ts))
Local-lengths_of b p g = Local-read_on _ (λ es. Local-ok _) p g

abbrev open_lengths : (m : ℕ) → Parse (LengthsTree × ℕ)
open_lengths m ts = read_on (expect punctuators.OpenBracket ts) (λ _ us. read_on (expect punctuators.CloseBracket us) (λ _ vs. lengths_of true (behind_open m vs)))

abbrev all_lengths : (m : ℕ) → Parse (LengthsTree × ℕ)
all_lengths m ts = lengths_of false (given_lengths m (length ts) [] 0 ts)

Local-closing : (m : ℕ) → Local 0 (λ us. read_on (expect punctuators.CloseBracket us) (λ _ vs. lengths_of true (behind_open m vs)))
Local-closing m = Local-punctuator punctuators.CloseBracket _ (λ _. Local-lengths_of true (behind_open m) (Local-behind_open m))

opens_all : (m at : ℕ) (us : List Terminal) → left (all_lengths m (Punctuator at punctuators.OpenBracket ∷ us)) ≤ length us
unfolding given_lengths
opens_all m at us =
    omega (
      arith,
      read_on-left _ (λ (es : List ExprTree × ℕ). Local-ok {A = LengthsTree × ℕ} (record { is_open = false; given = es.0 }, es.1)) (given_lengths m (suc (length us)) [] 0 (Punctuator at punctuators.OpenBracket ∷ us)),
      read_on-left _ (λ (e : E). Local-punctuator {A = List ExprTree × ℕ} punctuators.CloseBracket _ (λ _. Local-turn _ _ (given_turns m) (length us) (e.0 ∷ [], max 0 e.1))) (part m Conditional us),
      (Local-part m Conditional).shrinks us,
    )

pub Local-lengths : (m : ℕ) → Local 0 (lengths m)
unfolding lengths
Local-lengths m =
    Local-two is_empty_brackets (open_lengths m) (all_lengths m) (Local-punctuator punctuators.OpenBracket _ (λ _. Local-closing m)) (Local-lengths_of false _ (Local-given m))
    (Looks-punctuator punctuators.OpenBracket is_empty_brackets (starts punctuators.CloseBracket) (open_lengths m) (all_lengths m) (λ t ts. refl) (λ u ts us. refl) (λ at us. omega (arith, (Local-closing m).shrinks us)) (opens_all m))

-- ---- declarators

pub Local-named : (names : Names) (m n : ℕ) → Local 0 (named names m n)
Local-named names m n = Local-name names _ (λ x. Local-read_on _ (λ l. Local-ok _) (lengths m) (Local-lengths m))

pub named_fewer : (m n at : ℕ) (x : List ℕ) (us : List Terminal) → left (named Plain m n (Name at x ∷ us)) ≤ length us
named_fewer m n at x us =
    omega (arith, read_on-left _ (λ (l : LengthsTree × ℕ). Local-ok {A = DeclaratorTree × ℕ} (record { node = unnumbered at; stars = n; name = x; lengths = l.0 }, l.1)) (lengths m us), (Local-lengths m).shrinks us)

pub Local-declarator : (names : Names) (m : ℕ) → Local 0 (declarator names m)
unfolding declarator
Local-declarator names m = Local-read_on (λ n us. named names m n us) (λ n. Local-named names m n) (λ ts. Ok (stars ts)) Local-stars

pub declarator_nothing : (names : Names) (m : ℕ) → declarator names m [] ≡ unexpected []
unfolding declarator stars
declarator_nothing names m = refl

-- ---- initialisers

abbrev initialisers_turn : Parse (InitialiserTree × ℕ) → (List InitialiserTree × ℕ → Parse (List InitialiserTree × ℕ)) → List InitialiserTree × ℕ → Parse (List InitialiserTree × ℕ)
initialisers_turn one f x ts = read_on (one ts) (λ i us. after_initialiser one (λ is h. f (is, h)) (x.0 ++ i.0 ∷ []) (max x.1 i.1) us)

initialisers_turns : (one : Parse (InitialiserTree × ℕ)) → Local 0 one → one [] ≡ unexpected [] → Turns (λ n x. initialisers one n x.0 x.1) (initialisers_turn one)
unfolding initialisers
initialisers_turns one good nothing = record {
  turn = λ n x ts. refl;
  none = λ x. read_on_nothing _ nothing;
  takes = λ f g x ts same. read_on_same (one ts) _ _ (λ i us read. cond_same (starts punctuators.CloseBrace us) refl (read_on_same (expect punctuators.Comma us) _ _ (λ u vs is. cond_same (starts punctuators.CloseBrace vs) refl (same _ vs
      (let less = leaves_less one good ts i us read in let took = expect_takes punctuators.Comma us u vs is in omega arith)))));
  last = λ x. Local-unexpected-all;
  further = λ f local x. Local-read_on _ (λ i. Local-starts punctuators.CloseBrace _ _ (Local-punctuator punctuators.CloseBrace _ (λ _. Local-ok _))
      (Local-punctuator punctuators.Comma _ (λ _. Local-starts punctuators.CloseBrace _ _ (Local-punctuator punctuators.CloseBrace _ (λ _. Local-ok _)) (local _)))) one good;
}

begins_initialiser_same : (t : Terminal) (ts us : List Terminal) → begins_initialiser (t ∷ ts) ≡ begins_initialiser (t ∷ us)
begins_initialiser_same t ts us = ap (λ b. cond (is_punctuator punctuators.OpenBrace t) true b) (begins_one_same t ts us)

initialiser_nothing : (n : ℕ) → initialiser n [] ≡ unexpected []
unfolding initialiser
initialiser_nothing zero = refl
initialiser_nothing (suc m) = read_on_nothing _ (part_nothing (suc m) Assignment)

pub Local-initialiser : (n : ℕ) → Local 0 (initialiser n)
unfolding initialiser
Local-initialiser zero = Local-if begins_initialiser begins_initialiser_same deep unexpected Local-deep-all Local-unexpected-all
Local-initialiser (suc m) =
    Local-place (λ at ts. cond (starts punctuators.OpenBrace ts)
    (deeper m (λ us. read_on (expect punctuators.OpenBrace us) (λ _ vs. read_on (initialisers (initialiser m) (length vs) [] 0 vs) (λ is ws. Ok ((list (unnumbered at) (initialisers_of is.0), is.1 + 1), ws)))) ts)
    (read_on (part (suc m) Assignment ts) (λ e us. Ok ((value e.0, e.1), us))))
    (λ at. Local-starts punctuators.OpenBrace _ _
    (Local-deeper m _ (Local-punctuator punctuators.OpenBrace _ (λ _. Local-read_on _ (λ is. Local-ok _) (λ vs. initialisers (initialiser m) (length vs) [] 0 vs) (Local-turns _ _ (initialisers_turns (initialiser m) (Local-initialiser m) (initialiser_nothing m)) ([], 0)))))
    (Local-read_on _ (λ e. Local-ok _) (part (suc m) Assignment) (Local-part (suc m) Assignment)))

-- ---- variables

Local-initialised : (m : ℕ) (d : DeclaratorTree × ℕ) → Local 0 (initialised m d)
Local-initialised m d = Local-starts punctuators.Assign _ _ (Local-deeper m _ (Local-punctuator punctuators.Assign _ (λ _. Local-read_on _ (λ i. Local-ok _) (initialiser m) (Local-initialiser m)))) (Local-ok _)

pub Local-variable : (m : ℕ) → Local 0 (variable m)
unfolding variable
Local-variable m = Local-read_on (initialised m) (λ d. Local-initialised m d) (declarator Plain m) (Local-declarator Plain m)

variable_nothing : (m : ℕ) → variable m [] ≡ unexpected []
unfolding variable
variable_nothing m = read_on_nothing (initialised m) (declarator_nothing Plain m)

-- lists of what `one` reads, with commas between and a punctuator at the end
module _ {X : Type 0} (one : Parse X) (good : Local 0 one) (nothing : one [] ≡ unexpected []) (closing : punctuator.Punctuator) (C : Type 0) (joined : C → X → C) where
  abbrev listed_turn : (C → Parse C) → C → Parse C
  listed_turn f x ts = read_on (one ts) (λ v us. cond (starts closing us) (read_on (expect closing us) (λ _ vs. Ok (joined x v, vs))) (read_on (expect punctuators.Comma us) (λ _ vs. f (joined x v) vs)))

  pub listed_turns : (loop : ℕ → C → Parse C) → ((n : ℕ) (x : C) (ts : List Terminal) → loop (suc n) x ts ≡ listed_turn (loop n) x ts) → ((x : C) (ts : List Terminal) → loop zero x ts ≡ unexpected ts) → Turns loop listed_turn
  listed_turns loop further none = record {
    turn = further;
    none = λ x. read_on_nothing _ nothing ∙ sym (none x []);
    takes = λ f g x ts same. read_on_same (one ts) _ _ (λ v us read. after_same closing punctuators.Comma (joined x v) (f (joined x v)) (g (joined x v)) us
        (λ vs lt. same _ vs (let less = leaves_less one good ts v us read in omega arith)));
    last = λ x. Local-same (λ ts. Err (Unexpected (length ts))) (loop zero x) (λ ts. sym (none x ts)) Local-unexpected-all;
    further = λ f local x. Local-read_on _ (λ v. Local-after closing punctuators.Comma _ _ (local (joined x v))) one good;
  }

abbrev variable_joined : List VariableTree × ℕ → VariableTree × ℕ → List VariableTree × ℕ
variable_joined x v = (x.0 ++ v.0 ∷ [], max x.1 v.1)

variables_turns : (m : ℕ) → Turns (λ n x. variables m n x.0 x.1) (listed_turn (variable m) (Local-variable m) (variable_nothing m) punctuators.Semicolon (List VariableTree × ℕ) variable_joined)
unfolding variables
variables_turns m = listed_turns (variable m) (Local-variable m) (variable_nothing m) punctuators.Semicolon (List VariableTree × ℕ) variable_joined (λ n x. variables m n x.0 x.1) (λ n x ts. refl) (λ x ts. refl)

pub Local-declared : (m : ℕ) (b : Base) → Local 0 (declared m b)
Local-declared m b = Local-read_on _ (λ vs. Local-ok _) (λ ts. variables m (length ts) [] 0 ts) (Local-turns _ _ (variables_turns m) ([], 0))

-- a list of variables begins with a declarator
pub declared_left : (m : ℕ) (b : Base) (ts : List Terminal) → left (declared m b ts) ≤ left (declarator Plain m ts)
unfolding variables variable
declared_left m b [] = omega arith
declared_left m b (t ∷ ts) =
    omega (
      arith,
      read_on-left _ (λ (vs : List VariableTree × ℕ). Local-ok {A = DeclarationTree × ℕ} (record { base = b; variables = vs.0 }, vs.1)) (variables m (suc (length ts)) [] 0 (t ∷ ts)),
      read_on-left _ (λ (v : VariableTree × ℕ). Local-after {B = List VariableTree × ℕ} punctuators.Semicolon punctuators.Comma (v.0 ∷ [], max 0 v.1) _ (Local-turn _ _ (variables_turns m) (length ts) (v.0 ∷ [], max 0 v.1))) (variable m (t ∷ ts)),
      read_on-left (initialised m) (λ d. Local-initialised m d) (declarator Plain m (t ∷ ts)),
    )

pub Local-declaration_within : (n : ℕ) → Local 0 (declaration_within n)
unfolding declaration_within declaration
Local-declaration_within zero = Local-deep-all
Local-declaration_within (suc m) = Local-read_on (declared m) (λ b. Local-declared m b) type Local-type

-- ---- members

abbrev member_joined : List DeclaratorTree × ℕ → DeclaratorTree × ℕ → List DeclaratorTree × ℕ
member_joined x d = (x.0 ++ d.0 ∷ [], max x.1 (d.1 + 1))

declarators_turns : (m : ℕ) → Turns (λ n x. declarators m n x.0 x.1) (listed_turn (declarator Any m) (Local-declarator Any m) (declarator_nothing Any m) punctuators.Semicolon (List DeclaratorTree × ℕ) member_joined)
unfolding declarators
declarators_turns m = listed_turns (declarator Any m) (Local-declarator Any m) (declarator_nothing Any m) punctuators.Semicolon (List DeclaratorTree × ℕ) member_joined (λ n x. declarators m n x.0 x.1) (λ n x ts. refl) (λ x ts. refl)

Local-members : (m : ℕ) → Local 0 (members m)
unfolding members
Local-members m = Local-read_on _ (λ b. Local-read_on _ (λ ds. Local-ok _) (λ us. declarators m (length us) [] 0 us) (Local-turns _ _ (declarators_turns m) ([], 0))) type Local-type

members_nothing : (m : ℕ) → members m [] ≡ unexpected []
unfolding members type
members_nothing m = refl

members_some : {h : ℕ} {ts : List Terminal} {g : MembersTree} → ReadsMembers h ts g → 0 < length ts
members_some (a_group {xs = xs} {ys = ys} s t r) = omega (arith, type_some t, length-append xs (ys ++ Punctuator s punctuators.Semicolon ∷ []))

abbrev groups_turn : (m : ℕ) → (List MembersTree × ℕ → Parse (List MembersTree × ℕ)) → List MembersTree × ℕ → Parse (List MembersTree × ℕ)
groups_turn m f x ts = read_on (members m ts) (λ g us. cond (starts punctuators.CloseBrace us) (read_on (expect punctuators.CloseBrace us) (λ _ vs. Ok ((x.0 ++ g.0 ∷ [], max x.1 g.1), vs))) (f (x.0 ++ g.0 ∷ [], max x.1 g.1) us))

groups_turns : (m : ℕ) → Turns (λ n x. groups m n x.0 x.1) (groups_turn m)
unfolding groups
groups_turns m = record {
  turn = λ n x ts. refl;
  none = λ x. read_on_nothing _ (members_nothing m);
  takes = λ f g x ts same. read_on_same (members m ts) _ _ (λ y us read. cond_same (starts punctuators.CloseBrace us) refl (same _ us (sound_takes ts (members m ts) (sound_members m ts) (λ x l r. members_some r.0) y us read)));
  last = λ x. Local-unexpected-all;
  further = λ f local x. Local-read_on _ (λ g. Local-starts punctuators.CloseBrace _ _ (Local-punctuator punctuators.CloseBrace _ (λ _. Local-ok _)) (local _)) (members m) (Local-members m);
}

pub Local-groups : (m : ℕ) → Local 0 (λ ts. groups m (length ts) [] 0 ts)
Local-groups m = Local-turns _ _ (groups_turns m) ([], 0)

-- ---- parameters

Local-with_name : (m start : ℕ) (b : Base) (n : ℕ) → Local 0 (with_name m start b n)
Local-with_name m start b n = Local-look (with_name m start b n) (no_tokens) each
  where
    lengths_too : (f : LengthsTree × ℕ → ParameterTree × ℕ) → Local 0 (λ ts. read_on (lengths m ts) (λ l us. Ok (f l, us)))
    lengths_too f = Local-read_on _ (λ l. Local-ok (f l)) (lengths m) (Local-lengths m)

    unnamed : LengthsTree × ℕ → ParameterTree × ℕ
    unnamed l = (record { node = unnumbered start; type_name = record { base = b; stars = n }; name = None; lengths = l.0 }, l.1 + 1)

    no_tokens : left (with_name m start b n []) ≡ 0
    no_tokens = omega (arith, (lengths_too unnamed).shrinks [])

    each : (t : Terminal) → Local 1 (λ ts. with_name m start b n (t ∷ ts))
    each (Name at x) = Local-weak _ (lengths_too (λ l. (record { node = unnumbered at; type_name = record { base = b; stars = n }; name = Some x; lengths = l.0 }, l.1 + 1)))
    each (TypeName at x) = Local-cons _ (TypeName at x) (lengths_too unnamed)
    each (Keyword at k) = Local-cons _ (Keyword at k) (lengths_too unnamed)
    each (Constant at k unsigned) = Local-cons _ (Constant at k unsigned) (lengths_too unnamed)
    each (Text at bytes) = Local-cons _ (Text at bytes) (lengths_too unnamed)
    each (Punctuator at k) = Local-cons _ (Punctuator at k) (lengths_too unnamed)

-- without the first token
Local-without_first : {A : Type 0} (p : Parse A) → Local 0 p → Local 0 (λ ts. p (without_first ts))
Local-without_first p g = record { shrinks = shrinks; stable = stable; passes = passes }
  where
    fewer : (ts : List Terminal) → length (without_first ts) ≤ length ts
    fewer [] = omega arith
    fewer (t ∷ ts) = omega arith

    shrinks : (ts : List Terminal) → left (p (without_first ts)) ≤ 0 + length ts
    shrinks ts = omega (arith, g.shrinks (without_first ts), fewer ts)

    stable : (ts us : List Terminal) → 0 < left (p (without_first ts)) → p (without_first (ts ++ us)) ≡ extend us (p (without_first ts))
    stable [] us h = absurd (omega (arith, g.shrinks []))
    stable (t ∷ ts) us h = g.stable ts us h

    passes : (ts us : List Terminal) → left (p (without_first ts)) ≡ 0 → left (p (without_first (ts ++ us))) ≤ length us
    passes [] us h = omega (arith, g.shrinks (without_first us), fewer us)
    passes (t ∷ ts) us h = g.passes ts us h

abbrev any_parameter : (m : ℕ) → Parse (ParameterTree × ℕ)
any_parameter m ts = read_on (type ts) (λ b us. with_name m (place ts) b (stars us).0 (stars us).1)

abbrev parameter_at : (m start : ℕ) → Parse (ParameterTree × ℕ)
parameter_at m start ts = read_on (type ts) (λ b us. with_name m start b (stars us).0 (stars us).1)

Local-behind_type : (m start : ℕ) (b : Base) → Local 0 (λ us. with_name m start b (stars us).0 (stars us).1)
Local-behind_type m start b = Local-read_on (λ n us. with_name m start b n us) (λ n. Local-with_name m start b n) (λ us. Ok (stars us)) Local-stars

Local-any_parameter : (m : ℕ) → Local 0 (any_parameter m)
Local-any_parameter m = Local-place (parameter_at m) (λ start. Local-read_on _ (λ b. Local-behind_type m start b) type Local-type)

-- behind `void`
void_left : (m at : ℕ) (us : List Terminal) → left (any_parameter m (Keyword at keywords.Void ∷ us)) ≤ length us
unfolding type
void_left m at us = omega (arith, (Local-behind_type m at bases.Void).shrinks (skip_consts us), skip_shrinks us)

pub Local-parameter : (m : ℕ) → Local 0 (parameter m)
unfolding parameter
Local-parameter m =
    Local-two is_void_alone (λ ts. unexpected (without_first ts)) (any_parameter m) (Local-without_first unexpected Local-unexpected-all) (Local-any_parameter m)
    (Looks-keyword keywords.Void is_void_alone (λ us. cond (starts punctuators.Comma us) true (starts punctuators.CloseParenthesis us)) (λ ts. unexpected (without_first ts)) (any_parameter m) (λ t ts. refl) (λ u ts us. refl) (λ at us. omega arith) (void_left m))

parameter_nothing : (m : ℕ) → parameter m [] ≡ unexpected []
unfolding parameter type
parameter_nothing m = refl

abbrev parameter_joined : List ParameterTree × ℕ → ParameterTree × ℕ → List ParameterTree × ℕ
parameter_joined x p = (x.0 ++ p.0 ∷ [], max x.1 p.1)

parameters_turns : (m : ℕ) → Turns (λ n x. parameters m n x.0 x.1) (listed_turn (parameter m) (Local-parameter m) (parameter_nothing m) punctuators.CloseParenthesis (List ParameterTree × ℕ) parameter_joined)
unfolding parameters
parameters_turns m = listed_turns (parameter m) (Local-parameter m) (parameter_nothing m) punctuators.CloseParenthesis (List ParameterTree × ℕ) parameter_joined (λ n x. parameters m n x.0 x.1) (λ n x ts. refl) (λ x ts. refl)

abbrev void_end : (m : ℕ) → Parse (List ParameterTree × ℕ)
void_end m ts = read_on (expect punctuators.CloseParenthesis (without_first ts)) (λ _ us. Ok (([], 0), us))

abbrev some_parameters : (m : ℕ) → Parse (List ParameterTree × ℕ)
some_parameters m ts = parameters m (length ts) [] 0 ts

Local-end : Local {A = List ParameterTree × ℕ} 0 (λ us. read_on (expect punctuators.CloseParenthesis us) (λ _ vs. Ok (([], 0), vs)))
Local-end = Local-punctuator punctuators.CloseParenthesis _ (λ _. Local-ok ([], 0))

parameter_left : (m at : ℕ) (us : List Terminal) → left (parameter m (Keyword at keywords.Void ∷ us)) ≤ length us
unfolding parameter
parameter_left m at us = cond-left (is_void_alone (Keyword at keywords.Void ∷ us)) (unexpected us) (any_parameter m (Keyword at keywords.Void ∷ us)) (length us) (omega arith) (void_left m at us)

parameters_left : (m at : ℕ) (us : List Terminal) → left (some_parameters m (Keyword at keywords.Void ∷ us)) ≤ length us
unfolding parameters
parameters_left m at us =
    omega (
      arith,
      read_on-left _ (λ (p : ParameterTree × ℕ). Local-after {B = List ParameterTree × ℕ} punctuators.CloseParenthesis punctuators.Comma (p.0 ∷ [], max 0 p.1) _ (Local-turn _ _ (parameters_turns m) (length us) (p.0 ∷ [], max 0 p.1))) (parameter m (Keyword at keywords.Void ∷ us)),
      parameter_left m at us,
    )

pub Local-head : (m : ℕ) → Local 0 (head m)
unfolding head
Local-head m =
    Local-starts punctuators.CloseParenthesis _ _ Local-end
    (Local-two is_void_head (void_end m) (some_parameters m) (Local-without_first _ Local-end) (Local-turns _ _ (parameters_turns m) ([], 0))
    (Looks-keyword keywords.Void is_void_head (starts punctuators.CloseParenthesis) (void_end m) (some_parameters m) (λ t ts. refl) (λ u ts us. refl) (λ at us. omega (arith, Local-end.shrinks us)) (parameters_left m)))
