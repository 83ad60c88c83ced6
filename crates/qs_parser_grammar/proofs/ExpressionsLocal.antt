-- What the parser of types and expressions answers depends on no token behind the one at which it stops.
use Rattle.std.proofs.Common.{◌≡◌, ℕ, zero, suc, ◌+◌, ◌<◌, ◌≤◌, Bool, true, false, cond, List, [], ◌∷◌, ◌++◌, length, Result, Ok, Option, Some, None, refl, sym, ap, subst, ◌∙◌, arith, inl, inr}
use Rattle.std.specs.Prelude.{max, nat_le, ◌==◌, ◌&&◌}
use Rattle.std.proofs.lemmas.Bool.{leb-false, ne_eqb}
use Rattle.qs_syntax_vocabulary.specs.declared.terminal.Terminal.{Terminal}
use Rattle.qs_syntax_vocabulary.specs.declared.terminal.Terminal.TheVariants.{Name, TypeName, Keyword, Constant, Text, Punctuator}
use Rattle.qs_base.specs.declared.keyword.Keyword.TheVariants as keywords
use Rattle.qs_syntax_vocabulary.specs.declared.punctuator.Punctuator as punctuator
use Rattle.qs_syntax_vocabulary.specs.declared.punctuator.Punctuator.TheVariants as punctuators
use Rattle.qs_syntax.specs.declared.types.Base.TheVariants as bases
use Rattle.qs_syntax_vocabulary.specs.declared.operators.UnaryOperator.{UnaryOperator}
use Rattle.qs_syntax_vocabulary.specs.declared.operators.BinaryOperator.{BinaryOperator}
use Rattle.qs_syntax_vocabulary.specs.declared.operators.AssignmentOperator.{AssignmentOperator}
use Rattle.qs_syntax_vocabulary.specs.declared.operators.Access.{Access}
use Rattle.qs_syntax_vocabulary.specs.declared.operators.StepOperator.{StepOperator}
use Rattle.qs_syntax_vocabulary.specs.declared.operators.StepOperator.TheVariants as steps
use Rattle.qs_syntax.specs.Trees.{unnumbered, ExprTree, expr, text, unary, step, sizeof_type, sizeof_expr, comma}
use Rattle.qs_syntax_vocabulary.specs.Operators.{weakest, unary_of, binary_of, assign_of, access_of, number_of}
use Rattle.qs_syntax.specs.Reads.{Form, Postfix, Unary, Level, Conditional, Assignment, Expression, place}
use Rattle.qs_parser_grammar.specs.Heads.{is_punctuator, is_keyword, starts, operator_at, begins_type}
use Rattle.qs_parser_grammar.specs.Parse as parse
use Rattle.qs_parser_grammar.specs.Parse.{Stop, Parse, read_on, E, unexpected, deep, skip_consts, after_unsigned, after_signed, tagged, base, type, stars_from, stars, type_name, begins_one, begins_cast, beyond, starts_suffix, texts_from, expect, named_type}
use Rattle.qs_parser_grammar.proofs.HeadsLaws.{punctuator_is}
use Rattle.qs_parser_grammar.proofs.Local.{left, Local, read_on-left, Local-read_on, Local-look, Local-weak, Local-cons, Local-cond, Local-ok, Local-here, Local-unexpected, Local-deep, Local-unexpected-all, Local-deep-all, Local-above, Local-if, Local-starts, Local-operator, Local-place, Local-punctuator, Local-name, Looks, cond-left, Local-two, read_on_same, read_on_nothing, cond_same, expect_takes, leaves_less, Turns, Local-turns, Local-same, Local-after, after_same}
use Rattle.qs_syntax.specs.ReadsTypes.{Any}

-- ---- types

pub skip_shrinks : (ts : List Terminal) → length (skip_consts ts) ≤ length ts
skip_shrinks [] = omega arith
skip_shrinks (t ∷ ts) = by_case (is_keyword keywords.Const t) (skip_shrinks ts)
  where
    by_case : (b : Bool) → length (skip_consts ts) ≤ length ts → length (cond b (skip_consts ts) (t ∷ ts)) ≤ suc (length ts)
    by_case true h = omega arith
    by_case false h = omega arith

skip_more : (ts us : List Terminal) → 0 < length (skip_consts ts) → skip_consts (ts ++ us) ≡ skip_consts ts ++ us
skip_more [] us h = absurd (omega arith)
skip_more (t ∷ ts) us h = by_case (is_keyword keywords.Const t) (λ h. skip_more ts us h) h
  where
    by_case : (b : Bool) → (0 < length (skip_consts ts) → skip_consts (ts ++ us) ≡ skip_consts ts ++ us) → 0 < length (cond b (skip_consts ts) (t ∷ ts)) → cond b (skip_consts (ts ++ us)) (t ∷ (ts ++ us)) ≡ cond b (skip_consts ts) (t ∷ ts) ++ us
    by_case true further h = further h
    by_case false further h = refl

skip_passes : (ts us : List Terminal) → length (skip_consts ts) ≡ 0 → length (skip_consts (ts ++ us)) ≤ length us
skip_passes [] us h = skip_shrinks us
skip_passes (t ∷ ts) us h = by_case (is_keyword keywords.Const t) (λ h. skip_passes ts us h) h
  where
    by_case : (b : Bool) → (length (skip_consts ts) ≡ 0 → length (skip_consts (ts ++ us)) ≤ length us) → length (cond b (skip_consts ts) (t ∷ ts)) ≡ 0 → length (cond b (skip_consts (ts ++ us)) (t ∷ (ts ++ us))) ≤ length us
    by_case true further h = further h
    by_case false further h = absurd (omega arith)

pub Local-skip : {A : Type 0} (x : A) → Local 0 (λ ts. Ok (x, skip_consts ts))
Local-skip x = record { shrinks = λ ts. omega (arith, skip_shrinks ts); stable = λ ts us h. ap (λ l. Ok (x, l)) (skip_more ts us h); passes = skip_passes }

-- behind what is skipped
pub Local-skipped : {A : Type 0} (p : Parse A) → Local 0 p → Local 0 (λ ts. p (skip_consts ts))
Local-skipped {A} p g = Local-read_on (λ (u : Unit {0}) ts. p ts) (λ u. g) (λ ts. Ok (tt, skip_consts ts)) (Local-skip tt)

Local-after_unsigned : Local 0 after_unsigned
Local-after_unsigned = Local-look after_unsigned refl
    (λ t. Local-cond (is_keyword keywords.Int t) _ _ (Local-weak _ (Local-ok bases.Unsigned)) (Local-cond (is_keyword keywords.Char t) _ _ (Local-weak _ (Local-ok bases.Char)) (Local-here bases.Unsigned t)))

Local-after_signed : Local 0 after_signed
Local-after_signed = Local-look after_signed refl (λ t. Local-cond (is_keyword keywords.Int t) _ _ (Local-weak _ (Local-ok bases.Int)) (Local-here bases.Int t))

pub Local-tagged : Local 0 tagged
Local-tagged = Local-name Any (λ x us. Ok (bases.Struct x.1, us)) (λ x. Local-ok (bases.Struct x.1))

Local-named_type : (t : Terminal) → Local 1 (λ ts. named_type (t ∷ ts))
Local-named_type (Name at x) = Local-unexpected
Local-named_type (TypeName at x) = Local-weak _ (Local-ok (bases.Named x))
Local-named_type (Keyword at k) = Local-unexpected
Local-named_type (Constant at n unsigned) = Local-unexpected
Local-named_type (Text at bytes) = Local-unexpected
Local-named_type (Punctuator at m) = Local-unexpected

pub Local-base : Local 0 base
Local-base = Local-look base refl
    (λ t. Local-cond (is_keyword keywords.Void t) _ _ (Local-weak _ (Local-ok bases.Void))
    (Local-cond (is_keyword keywords.Int t) _ _ (Local-weak _ (Local-ok bases.Int))
    (Local-cond (is_keyword keywords.Char t) _ _ (Local-weak _ (Local-ok bases.Char))
    (Local-cond (is_keyword keywords.Unsigned t) _ _ (Local-weak _ Local-after_unsigned)
    (Local-cond (is_keyword keywords.Signed t) _ _ (Local-weak _ Local-after_signed)
    (Local-cond (is_keyword keywords.Struct t) _ _ (Local-weak _ Local-tagged) (Local-named_type t)))))))

pub Local-type : Local 0 type
unfolding type
Local-type = Local-skipped (λ ts. read_on (base ts) (λ b us. Ok (b, skip_consts us))) (Local-read_on (λ b us. Ok (b, skip_consts us)) (λ b. Local-skip b) base Local-base)

-- behind a star, with as many before
abbrev next_stars : (b c : Bool) → ℕ × List Terminal → ℕ × List Terminal → ℕ × List Terminal → ℕ × List Terminal
next_stars b c star const other = cond b star (cond c const other)

stars_shrink : (n : ℕ) (ts : List Terminal) → length (stars_from n ts).1 ≤ length ts
stars_shrink n [] = omega arith
stars_shrink n (t ∷ ts) = by_case (is_punctuator punctuators.Star t) (is_keyword keywords.Const t) (stars_shrink (n + 1) ts) (stars_shrink n ts)
  where
    by_case : (b c : Bool) → length (stars_from (n + 1) ts).1 ≤ length ts → length (stars_from n ts).1 ≤ length ts → length (next_stars b c (stars_from (n + 1) ts) (stars_from n ts) (n, t ∷ ts)).1 ≤ suc (length ts)
    by_case true c h k = omega arith
    by_case false true h k = omega arith
    by_case false false h k = omega arith

-- the same, before more tokens
abbrev StarsMore : List Terminal → ℕ × List Terminal → ℕ × List Terminal → Type 0
StarsMore us x y = 0 < length x.1 → y ≡ (x.0, x.1 ++ us)

stars_more : (n : ℕ) (ts us : List Terminal) → StarsMore us (stars_from n ts) (stars_from n (ts ++ us))
stars_more n [] us h = absurd (omega arith)
stars_more n (t ∷ ts) us h = by_case (is_punctuator punctuators.Star t) (is_keyword keywords.Const t) (λ h. stars_more (n + 1) ts us h) (λ h. stars_more n ts us h) h
  where
    by_case : (b c : Bool) → StarsMore us (stars_from (n + 1) ts) (stars_from (n + 1) (ts ++ us)) → StarsMore us (stars_from n ts) (stars_from n (ts ++ us))
        → StarsMore us (next_stars b c (stars_from (n + 1) ts) (stars_from n ts) (n, t ∷ ts)) (next_stars b c (stars_from (n + 1) (ts ++ us)) (stars_from n (ts ++ us)) (n, t ∷ (ts ++ us)))
    by_case true c f g h = f h
    by_case false true f g h = g h
    by_case false false f g h = refl

abbrev StarsPass : List Terminal → ℕ × List Terminal → ℕ × List Terminal → Type 0
StarsPass us x y = length x.1 ≡ 0 → length y.1 ≤ length us

stars_pass : (n : ℕ) (ts us : List Terminal) → StarsPass us (stars_from n ts) (stars_from n (ts ++ us))
stars_pass n [] us h = stars_shrink n us
stars_pass n (t ∷ ts) us h = by_case (is_punctuator punctuators.Star t) (is_keyword keywords.Const t) (λ h. stars_pass (n + 1) ts us h) (λ h. stars_pass n ts us h) h
  where
    by_case : (b c : Bool) → StarsPass us (stars_from (n + 1) ts) (stars_from (n + 1) (ts ++ us)) → StarsPass us (stars_from n ts) (stars_from n (ts ++ us))
        → StarsPass us (next_stars b c (stars_from (n + 1) ts) (stars_from n ts) (n, t ∷ ts)) (next_stars b c (stars_from (n + 1) (ts ++ us)) (stars_from n (ts ++ us)) (n, t ∷ (ts ++ us)))
    by_case true c f g h = f h
    by_case false true f g h = g h
    by_case false false f g h = absurd (omega arith)

Local-stars_from : (n : ℕ) → Local 0 (λ ts. Ok (stars_from n ts))
Local-stars_from n = record { shrinks = λ ts. omega (arith, stars_shrink n ts); stable = λ ts us h. ap (λ x. Ok x) (stars_more n ts us h); passes = stars_pass n }

pub Local-stars : Local 0 (λ ts. Ok (stars ts))
unfolding stars
Local-stars = Local-same (λ ts. cond (starts punctuators.Star ts) (Ok (stars_from 0 ts)) (Ok (0, ts))) (λ ts. Ok (stars ts)) (λ ts. by_case (starts punctuators.Star ts) (stars_from 0 ts) (0, ts)) (Local-starts punctuators.Star _ _ (Local-stars_from 0) (Local-ok 0))
  where
    by_case : (b : Bool) (x y : ℕ × List Terminal) → ◌≡◌ {A = Result (ℕ × List Terminal) Stop} (cond b (Ok x) (Ok y)) (Ok (cond b x y))
    by_case true x y = refl
    by_case false x y = refl

pub Local-type_name : Local 0 type_name
unfolding type_name
Local-type_name = Local-read_on _ (λ b. Local-read_on (λ (n : ℕ) us. Ok (record { base = b; stars = n }, us)) (λ n. Local-ok (record { base = b; stars = n })) (λ us. Ok (stars us)) Local-stars) type Local-type

-- ---- texts

texts_shrink : (done : List ℕ) (ts : List Terminal) → length (texts_from done ts).1 ≤ length ts
unfolding texts_from
texts_shrink done [] = omega arith
texts_shrink done (Text at bytes ∷ ts) = omega (arith, texts_shrink (done ++ bytes) ts)
texts_shrink done (Name at x ∷ ts) = omega arith
texts_shrink done (TypeName at x ∷ ts) = omega arith
texts_shrink done (Keyword at k ∷ ts) = omega arith
texts_shrink done (Constant at n unsigned ∷ ts) = omega arith
texts_shrink done (Punctuator at m ∷ ts) = omega arith

texts_more : (done : List ℕ) (ts us : List Terminal) → 0 < length (texts_from done ts).1 → texts_from done (ts ++ us) ≡ ((texts_from done ts).0, (texts_from done ts).1 ++ us)
unfolding texts_from
texts_more done [] us h = absurd (omega arith)
texts_more done (Text at bytes ∷ ts) us h = texts_more (done ++ bytes) ts us h
texts_more done (Name at x ∷ ts) us h = refl
texts_more done (TypeName at x ∷ ts) us h = refl
texts_more done (Keyword at k ∷ ts) us h = refl
texts_more done (Constant at n unsigned ∷ ts) us h = refl
texts_more done (Punctuator at m ∷ ts) us h = refl

texts_pass : (done : List ℕ) (ts us : List Terminal) → length (texts_from done ts).1 ≡ 0 → length (texts_from done (ts ++ us)).1 ≤ length us
unfolding texts_from
texts_pass done [] us h = texts_shrink done us
texts_pass done (Text at bytes ∷ ts) us h = texts_pass (done ++ bytes) ts us h
texts_pass done (Name at x ∷ ts) us h = absurd (omega arith)
texts_pass done (TypeName at x ∷ ts) us h = absurd (omega arith)
texts_pass done (Keyword at k ∷ ts) us h = absurd (omega arith)
texts_pass done (Constant at n unsigned ∷ ts) us h = absurd (omega arith)
texts_pass done (Punctuator at m ∷ ts) us h = absurd (omega arith)

Local-texts : (done : List ℕ) → Local 0 (λ ts. Ok (texts_from done ts))
Local-texts done = record { shrinks = λ ts. omega (arith, texts_shrink done ts); stable = λ ts us h. ap (λ x. Ok x) (texts_more done ts us h); passes = texts_pass done }

-- ---- at the limit

pub begins_one_same : (t : Terminal) (ts us : List Terminal) → begins_one (t ∷ ts) ≡ begins_one (t ∷ us)
begins_one_same (Name at x) ts us = refl
begins_one_same (TypeName at x) ts us = refl
begins_one_same (Keyword at k) ts us = refl
begins_one_same (Constant at n unsigned) ts us = refl
begins_one_same (Text at bytes) ts us = refl
begins_one_same (Punctuator at m) ts us = refl

pub Local-beyond : {A : Type 0} → Local {A = A} 0 beyond
Local-beyond = Local-if begins_one begins_one_same deep unexpected Local-deep-all Local-unexpected-all

Local-at_limit : {A : Type 0} → Local {A = A} 0 parse.size_at_limit
Local-at_limit = Local-punctuator punctuators.OpenParenthesis _ (λ _. Local-beyond)

-- a parenthesis and what it begins
parenthesis_looks : {A : Type 0} (p q : Parse A) → ((at : ℕ) (us : List Terminal) → left (p (Punctuator at punctuators.OpenParenthesis ∷ us)) ≤ length us) → ((at : ℕ) (us : List Terminal) → left (q (Punctuator at punctuators.OpenParenthesis ∷ us)) ≤ length us) → (t : Terminal) → Looks begins_cast p q t
parenthesis_looks p q f g t = by_case (is_punctuator punctuators.OpenParenthesis t) refl
  where
    by_case : (b : Bool) → is_punctuator punctuators.OpenParenthesis t ≡ b → Looks begins_cast p q t
    by_case true e = inr (record {
      same = λ u ts us. refl;
      passed = λ us. subst (λ u. left (p (u ∷ us)) ≤ length us) (sym (punctuator_is punctuators.OpenParenthesis t e)) (f (number_of t) us);
      passed_else = λ us. subst (λ u. left (q (u ∷ us)) ≤ length us) (sym (punctuator_is punctuators.OpenParenthesis t e)) (g (number_of t) us);
    })
    by_case false e = inl (λ ts us. ap (λ b. b && begins_type ts) e ∙ sym (ap (λ b. b && begins_type us) e))

pub part_nothing : (n : ℕ) (form : Form) → parse.part n form [] ≡ unexpected []
unfolding parse.part parse.expression parse.primary parse.unary_of_all
part_nothing zero form = refl
part_nothing (suc n) Postfix = refl
part_nothing (suc n) Unary = refl
part_nothing (suc n) (Level j) = refl
part_nothing (suc n) Conditional = refl
part_nothing (suc n) Assignment = refl
part_nothing (suc n) Expression = refl

abbrev Some_done : Type 0
Some_done = List ExprTree × ℕ

module _ (m : ℕ) (p : Form → Parse E) (good : (form : Form) → Local 0 (p form)) (nothing : (form : Form) → p form [] ≡ unexpected []) where
  abbrev arguments_turn : (Some_done → Parse Some_done) → Some_done → Parse Some_done
  arguments_turn f x ts = read_on (p Assignment ts) (λ e us. parse.after_argument m p (λ es h. f (es, h)) (x.0 ++ e.0 ∷ []) (max x.1 e.1) us)

  arguments_turns : Turns (λ n x. parse.arguments m p n x.0 x.1) arguments_turn
  unfolding parse.arguments
  arguments_turns = record {
    turn = λ n x ts. refl;
    none = λ x. read_on_nothing _ (nothing Assignment);
    takes = λ f g x ts same. read_on_same (p Assignment ts) _ _ (λ e us is. after_same punctuators.CloseParenthesis punctuators.Comma (x.0 ++ e.0 ∷ [], max x.1 e.1) (f (x.0 ++ e.0 ∷ [], max x.1 e.1)) (g (x.0 ++ e.0 ∷ [], max x.1 e.1)) us
        (λ vs lt. same _ vs (let less = leaves_less (p Assignment) (good Assignment) ts e us is in omega arith)));
    last = λ x. Local-unexpected-all;
    further = λ f local x. Local-read_on _ (λ e. Local-after punctuators.CloseParenthesis punctuators.Comma _ _ (local (x.0 ++ e.0 ∷ [], max x.1 e.1))) (p Assignment) (good Assignment);
  }

  Local-call : (at : ℕ) (f : List ℕ) → Local 0 (parse.call_of m p at f)
  Local-call at f =
      Local-starts punctuators.CloseParenthesis _ _ (Local-punctuator punctuators.CloseParenthesis _ (λ _. Local-ok _))
      (Local-read_on _ (λ es. Local-ok _) (λ ts. parse.arguments m p (length ts) [] 0 ts) (Local-turns _ _ arguments_turns ([], 0)))

  Local-after_name : (at : ℕ) (x : List ℕ) → Local 0 (parse.after_name m p at x)
  Local-after_name at x = Local-starts punctuators.OpenParenthesis _ _ (Local-punctuator punctuators.OpenParenthesis _ (λ _. Local-call at x)) (Local-ok _)

  Local-parentheses : Local 0 (parse.in_parentheses m p)
  Local-parentheses = Local-read_on _ (λ e. Local-punctuator punctuators.CloseParenthesis _ (λ _. Local-ok _)) (p Expression) (good Expression)

  Local-primary : Local 0 (parse.primary m p)
  unfolding parse.primary
  Local-primary = Local-look (parse.primary m p) refl each
    where
      each : (t : Terminal) → Local 1 (λ ts. parse.primary m p (t ∷ ts))
      each (Name at x) = Local-weak _ (Local-after_name at x)
      each (TypeName at x) = Local-unexpected
      each (Keyword at k) = Local-unexpected
      each (Constant at n unsigned) = Local-weak _ (Local-ok _)
      each (Text at bytes) = Local-weak _ (Local-read_on (λ (x : List ℕ) us. Ok ((expr (unnumbered at) (text x), 1), us)) (λ x. Local-ok _) (λ ts. Ok (texts_from bytes ts)) (Local-texts bytes))
      each (Punctuator at k) = Local-cond (is_punctuator punctuators.OpenParenthesis (Punctuator at k)) _ _ (Local-cond (m == 0) _ _ Local-deep (Local-weak _ Local-parentheses)) Local-unexpected

  Local-member : (start : ℕ) (a : E) (access : Access) → Local 0 (parse.member_of m p start a access)
  Local-member start a access = Local-name Any _ (λ x. Local-ok _)

  Local-index : (start : ℕ) (a : E) → Local 0 (parse.index_of m p start a)
  Local-index start a = Local-read_on _ (λ b. Local-punctuator punctuators.CloseBracket _ (λ _. Local-ok _)) (p Expression) (good Expression)

  Local-suffix : (start : ℕ) (a : E) → Local 0 (parse.suffix m p start a)
  Local-suffix start a = Local-look (parse.suffix m p start a) refl
      (λ t. Local-cond (is_punctuator punctuators.OpenBracket t) _ _ (Local-weak _ (Local-index start a))
      (Local-cond (is_punctuator punctuators.Increment t) _ _ (Local-weak _ (Local-ok _))
      (Local-cond (is_punctuator punctuators.Decrement t) _ _ (Local-weak _ (Local-ok _))
      (access t))))
    where
      of_access : (o : Option Access) → Local 0 (parse.access_at m p start a o)
      of_access None = Local-unexpected-all
      of_access (Some access) = Local-member start a access

      access : (t : Terminal) → Local 1 (λ ts. parse.access_at m p start a (operator_at access_of (t ∷ ts)) ts)
      access (Name at x) = Local-weak _ (of_access None)
      access (TypeName at x) = Local-weak _ (of_access None)
      access (Keyword at k) = Local-weak _ (of_access None)
      access (Constant at n unsigned) = Local-weak _ (of_access None)
      access (Text at bytes) = Local-weak _ (of_access None)
      access (Punctuator at k) = Local-weak _ (of_access (access_of k))

  abbrev suffixes_turn : ℕ → (E → Parse E) → E → Parse E
  suffixes_turn start f a ts = cond (parse.begins_suffix m p ts) (parse.above m a.1 (λ us. read_on (parse.suffix m p start a us) f) ts) (Ok (a, ts))

  suffix_takes : (start : ℕ) (a : E) (ts : List Terminal) (x : E) (us : List Terminal) → parse.suffix m p start a ts ≡ Ok (x, us) → length us < length ts
  suffix_takes start a [] x us e = absurd cc
  suffix_takes start a (t ∷ ts) x us e = by_case (is_punctuator punctuators.OpenBracket t) (is_punctuator punctuators.Increment t) (is_punctuator punctuators.Decrement t) (operator_at access_of (t ∷ ts)) e
    where
      from_left : (r : Result (E × List Terminal) Stop) → left r ≤ length ts → r ≡ Ok (x, us) → length us < suc (length ts)
      from_left r le e = let short : length us ≤ length ts = subst (λ r. left r ≤ length ts) e le in omega arith

      by_case : (b c d : Bool) (o : Option Access) → cond b (parse.index_of m p start a ts) (cond c (Ok ((expr (unnumbered start) (step steps.IncrementAfter a.0), a.1 + 1), ts)) (cond d (Ok ((expr (unnumbered start) (step steps.DecrementAfter a.0), a.1 + 1), ts)) (parse.access_at m p start a o ts))) ≡ Ok (x, us) → length us < suc (length ts)
      by_case true c d o e = from_left _ (omega (arith, (Local-index start a).shrinks ts)) e
      by_case false true d o e = from_left _ (omega arith) e
      by_case false false true o e = from_left _ (omega arith) e
      by_case false false false None e = absurd cc
      by_case false false false (Some access) e = from_left _ (omega (arith, (Local-member start a access).shrinks ts)) e

  suffix_same : (t : Terminal) (ts us : List Terminal) → starts_suffix (t ∷ ts) ≡ starts_suffix (t ∷ us)
  suffix_same (Name at x) ts us = refl
  suffix_same (TypeName at x) ts us = refl
  suffix_same (Keyword at k) ts us = refl
  suffix_same (Constant at n unsigned) ts us = refl
  suffix_same (Text at bytes) ts us = refl
  suffix_same (Punctuator at k) ts us = refl

  suffixes_turns : (start : ℕ) → Turns (λ n a. parse.suffixes m p n start a) (suffixes_turn start)
  unfolding parse.suffixes
  suffixes_turns start = record {
    turn = λ n a ts. refl;
    none = λ a. refl;
    takes = λ f g a ts same. cond_same (starts_suffix ts) (cond_same (nat_le a.1 m) (read_on_same (parse.suffix m p start a ts) f g (λ x us is. same x us (suffix_takes start a ts x us is))) refl) refl;
    last = λ a. Local-ok a;
    further = λ f local a. Local-if starts_suffix suffix_same _ _ (Local-above m a.1 _ (Local-read_on f local (parse.suffix m p start a) (Local-suffix start a))) (Local-ok a);
  }

  Local-postfix : Local 0 (parse.postfix m p)
  Local-postfix = Local-place (λ start ts. read_on (parse.primary m p ts) (λ a us. parse.suffixes m p (length us) start a us)) (λ start. Local-read_on _ (λ a. Local-turns _ _ (suffixes_turns start) a) (parse.primary m p) Local-primary)

  -- ---- unary

  opens_postfix : (at : ℕ) (us : List Terminal) → (m == 0) ≡ false → left (parse.postfix m p (Punctuator at punctuators.OpenParenthesis ∷ us)) ≤ length us
  unfolding parse.primary
  opens_postfix at us e = by_case (m == 0) e
    where
      by_case : (b : Bool) → b ≡ false → left (read_on (cond b (deep (Punctuator at punctuators.OpenParenthesis ∷ us)) (parse.in_parentheses m p us)) (λ a vs. parse.suffixes m p (length vs) at a vs)) ≤ length us
      by_case true e = absurd cc
      by_case false e = omega (arith, read_on-left _ (λ a. Local-turns _ _ (suffixes_turns at) a) (parse.in_parentheses m p us), Local-parentheses.shrinks us)

  opens_unary : (at : ℕ) (us : List Terminal) → (m == 0) ≡ false → left (parse.unary_of_all m p (Punctuator at punctuators.OpenParenthesis ∷ us)) ≤ length us
  unfolding parse.unary_of_all
  opens_unary at us e = opens_postfix at us e

  deep_unary : (at : ℕ) (us : List Terminal) → (m == 0) ≡ true → parse.unary_of_all m p (Punctuator at punctuators.OpenParenthesis ∷ us) ≡ deep (Punctuator at punctuators.OpenParenthesis ∷ us)
  unfolding parse.unary_of_all parse.primary
  deep_unary at us e = rw e refl

  module _ (opens : (at : ℕ) (us : List Terminal) → 1 < m → left (p Unary (Punctuator at punctuators.OpenParenthesis ∷ us)) ≤ length us) where
    Local-operand : (f : E → E) (form : Form) → Local 0 (λ ts. read_on (p form ts) (λ e us. Ok (f e, us)))
    Local-operand f form = Local-read_on _ (λ e. Local-ok (f e)) (p form) (good form)

    abbrev typed_size : ℕ → Parse E
    typed_size at ts = read_on (expect punctuators.OpenParenthesis ts) (λ _ us. read_on (type_name us) (λ t vs. read_on (expect punctuators.CloseParenthesis vs) (λ _ ws. Ok ((expr (unnumbered at) (sizeof_type t), 1), ws))))

    abbrev valued_size : ℕ → Parse E
    valued_size at ts = cond (nat_le m 1 && starts punctuators.OpenParenthesis ts) (parse.size_at_limit ts) (read_on (p Unary ts) (λ e us. Ok ((expr (unnumbered at) (sizeof_expr e.0), e.1 + 1), us)))

    Local-in_size : (at : ℕ) → Local {A = E} 0 (λ us. read_on (type_name us) (λ t vs. read_on (expect punctuators.CloseParenthesis vs) (λ _ ws. Ok ((expr (unnumbered at) (sizeof_type t), 1), ws))))
    Local-in_size at = Local-read_on _ (λ t. Local-punctuator punctuators.CloseParenthesis _ (λ _. Local-ok _)) type_name Local-type_name

    Local-valued_size : (at : ℕ) → Local 0 (valued_size at)
    Local-valued_size at = Local-if (λ ts. nat_le m 1 && starts punctuators.OpenParenthesis ts) (λ t ts us. refl) _ _ Local-at_limit (Local-operand (λ e. (expr (unnumbered at) (sizeof_expr e.0), e.1 + 1)) Unary)

    valued_opens : (at o : ℕ) (us : List Terminal) → left (valued_size at (Punctuator o punctuators.OpenParenthesis ∷ us)) ≤ length us
    valued_opens at o us = by_case (nat_le m 1) (λ e. leb-false m 1 e)
      where
        by_case : (b : Bool) → (b ≡ false → 1 < m) → left {A = E} (cond (b && true) (beyond us) (read_on (p Unary (Punctuator o punctuators.OpenParenthesis ∷ us)) (λ e us. Ok ((expr (unnumbered at) (sizeof_expr e.0), e.1 + 1), us)))) ≤ length us
        by_case true h = omega (arith, (Local-beyond {A = E}).shrinks us)
        by_case false h = omega (arith, read_on-left {B = E} _ (λ (e : E). Local-ok (expr (unnumbered at) (sizeof_expr e.0), e.1 + 1)) (p Unary (Punctuator o punctuators.OpenParenthesis ∷ us)), opens o us (h refl))

    Local-size : (at : ℕ) → Local 0 (parse.size_of m p at)
    Local-size at =
        Local-two begins_cast (typed_size at) (valued_size at) (Local-punctuator punctuators.OpenParenthesis _ (λ _. Local-in_size at)) (Local-valued_size at)
        (parenthesis_looks (typed_size at) (valued_size at) (λ o us. omega (arith, (Local-in_size at).shrinks us)) (valued_opens at))

    Local-unary_operator : (at : ℕ) (k : punctuator.Punctuator) (o : Option UnaryOperator) → Local 1 (parse.unary_operator_at m p at o k)
    Local-unary_operator at k None = Local-cons (parse.postfix m p) (Punctuator at k) Local-postfix
    Local-unary_operator at k (Some operator) = Local-cond (m == 0) _ _ Local-deep (Local-weak _ (Local-operand (λ e. (expr (unnumbered at) (unary operator e.0), e.1 + 1)) (Level 0)))

    Local-step : (at : ℕ) (operator : StepOperator) → Local 0 (parse.step_of m p at operator)
    Local-step at operator = Local-operand (λ e. (expr (unnumbered at) (step operator e.0), e.1 + 1)) Unary

    Local-unary : Local 0 (parse.unary_of_all m p)
    unfolding parse.unary_of_all
    Local-unary = Local-look (parse.unary_of_all m p) refl each
      where
        each : (t : Terminal) → Local 1 (λ ts. parse.unary_of_all m p (t ∷ ts))
        each (Name at x) = Local-cons (parse.postfix m p) (Name at x) Local-postfix
        each (TypeName at x) = Local-cons (parse.postfix m p) (TypeName at x) Local-postfix
        each (Keyword at k) = Local-cond (is_keyword keywords.Sizeof (Keyword at k)) _ _ (Local-weak _ (Local-size at)) Local-unexpected
        each (Constant at n unsigned) = Local-cons (parse.postfix m p) (Constant at n unsigned) Local-postfix
        each (Text at bytes) = Local-cons (parse.postfix m p) (Text at bytes) Local-postfix
        each (Punctuator at k) =
            Local-cond (is_punctuator punctuators.Increment (Punctuator at k)) _ _ (Local-cond (m == 0) _ _ Local-deep (Local-weak _ (Local-step at steps.IncrementBefore)))
            (Local-cond (is_punctuator punctuators.Decrement (Punctuator at k)) _ _ (Local-cond (m == 0) _ _ Local-deep (Local-weak _ (Local-step at steps.DecrementBefore)))
            (Local-unary_operator at k (unary_of k)))

    -- ---- casts

    -- where a parenthesis may begin a cast: with no room both ways stop at it, else both pass it
    Local-cast_or : (q r : Parse E) → Local 0 q → Local 0 r
        → ((at : ℕ) (us : List Terminal) → (m == 0) ≡ true → r (Punctuator at punctuators.OpenParenthesis ∷ us) ≡ q (Punctuator at punctuators.OpenParenthesis ∷ us))
        → ((at : ℕ) (us : List Terminal) → (m == 0) ≡ false → left (q (Punctuator at punctuators.OpenParenthesis ∷ us)) ≤ length us)
        → ((at : ℕ) (us : List Terminal) → (m == 0) ≡ false → left (r (Punctuator at punctuators.OpenParenthesis ∷ us)) ≤ length us)
        → Local 0 (λ ts. cond (begins_cast ts) (q ts) (r ts))
    Local-cast_or q r gq gr same f g = by_case (m == 0) refl
      where
        either_way : (at : ℕ) (us : List Terminal) (b : Bool) → r (Punctuator at punctuators.OpenParenthesis ∷ us) ≡ q (Punctuator at punctuators.OpenParenthesis ∷ us) → r (Punctuator at punctuators.OpenParenthesis ∷ us) ≡ cond b (q (Punctuator at punctuators.OpenParenthesis ∷ us)) (r (Punctuator at punctuators.OpenParenthesis ∷ us))
        either_way at us true e = e
        either_way at us false e = refl

        all_same : (e : (m == 0) ≡ true) (ts : List Terminal) → r ts ≡ cond (begins_cast ts) (q ts) (r ts)
        all_same e [] = refl
        all_same e (t ∷ us) = at_first (is_punctuator punctuators.OpenParenthesis t) refl
          where
            at_first : (b : Bool) → is_punctuator punctuators.OpenParenthesis t ≡ b → r (t ∷ us) ≡ cond (is_punctuator punctuators.OpenParenthesis t && begins_type us) (q (t ∷ us)) (r (t ∷ us))
            at_first true d = rw (punctuator_is punctuators.OpenParenthesis t d) (either_way (number_of t) us (begins_type us) (same (number_of t) us e))
            at_first false d = rw d refl

        by_case : (b : Bool) → (m == 0) ≡ b → Local 0 (λ ts. cond (begins_cast ts) (q ts) (r ts))
        by_case true e = Local-same r _ (all_same e) gr
        by_case false e = Local-two begins_cast q r gq gr (parenthesis_looks q r (λ at us. f at us e) (λ at us. g at us e))

    Local-cast : (at : ℕ) → Local 0 (parse.cast_of m p at)
    Local-cast at = Local-read_on _ (λ t. Local-punctuator punctuators.CloseParenthesis _ (λ _. Local-read_on _ (λ e. Local-ok _) (p (Level 0)) (good (Level 0)))) type_name Local-type_name

    abbrev cast_here : Parse E
    cast_here ts = parse.deeper m (λ us. read_on (expect punctuators.OpenParenthesis us) (λ _ vs. parse.cast_of m p (place ts) vs)) ts

    Local-cast_here : Local 0 cast_here
    Local-cast_here = Local-place (λ at ts. parse.deeper m (λ us. read_on (expect punctuators.OpenParenthesis us) (λ _ vs. parse.cast_of m p at vs)) ts) (λ at. Local-cond (m == 0) _ _ Local-deep-all (Local-punctuator punctuators.OpenParenthesis _ (λ _. Local-cast at)))

    opens_cast_here : (at : ℕ) (us : List Terminal) → (m == 0) ≡ false → left (cast_here (Punctuator at punctuators.OpenParenthesis ∷ us)) ≤ length us
    opens_cast_here at us e = by_case (m == 0) e
      where
        by_case : (b : Bool) → b ≡ false → left {A = E} (cond b (deep (Punctuator at punctuators.OpenParenthesis ∷ us)) (parse.cast_of m p at us)) ≤ length us
        by_case true e = absurd cc
        by_case false e = omega (arith, (Local-cast at).shrinks us)

    deep_cast_here : (at : ℕ) (us : List Terminal) → (m == 0) ≡ true → cast_here (Punctuator at punctuators.OpenParenthesis ∷ us) ≡ deep (Punctuator at punctuators.OpenParenthesis ∷ us)
    deep_cast_here at us e = rw e refl

    Local-cast_or_unary : Local 0 (parse.cast_or_unary m p)
    Local-cast_or_unary = Local-cast_or cast_here (parse.unary_of_all m p) Local-cast_here Local-unary (λ at us e. deep_unary at us e ∙ sym (deep_cast_here at us e)) opens_cast_here opens_unary

    opens_cast_or_unary : (at : ℕ) (us : List Terminal) → (m == 0) ≡ false → left (parse.cast_or_unary m p (Punctuator at punctuators.OpenParenthesis ∷ us)) ≤ length us
    opens_cast_or_unary at us e = cond-left (begins_type us) (cast_here (Punctuator at punctuators.OpenParenthesis ∷ us)) (parse.unary_of_all m p (Punctuator at punctuators.OpenParenthesis ∷ us)) (length us) (opens_cast_here at us e) (opens_unary at us e)

    deep_cast_or_unary : (at : ℕ) (us : List Terminal) → (m == 0) ≡ true → parse.cast_or_unary m p (Punctuator at punctuators.OpenParenthesis ∷ us) ≡ deep (Punctuator at punctuators.OpenParenthesis ∷ us)
    deep_cast_or_unary at us e = by_case (begins_type us)
      where
        by_case : (b : Bool) → cond b (cast_here (Punctuator at punctuators.OpenParenthesis ∷ us)) (parse.unary_of_all m p (Punctuator at punctuators.OpenParenthesis ∷ us)) ≡ deep (Punctuator at punctuators.OpenParenthesis ∷ us)
        by_case true = deep_cast_here at us e
        by_case false = deep_unary at us e

    -- ---- operators between operands

    abbrev operations_turn : (j start : ℕ) → (E → Parse E) → E → Parse E
    operations_turn j start f a ts = parse.operation_at m p j start a (parse.of_level m p j (operator_at binary_of ts)) f ts

    operation_same : (j start : ℕ) (a : E) (o : Option BinaryOperator) (f g : E → Parse E) (ts : List Terminal) → ((y : E) (us : List Terminal) → length us < length ts → f y us ≡ g y us) → parse.operation_at m p j start a o f ts ≡ parse.operation_at m p j start a o g ts
    operation_same j start a None f g ts same = refl
    operation_same j start a (Some operator) f g [] same = refl
    operation_same j start a (Some operator) f g (t ∷ ts) same =
        cond_same (nat_le a.1 m) (read_on_same (p (Level j) ts) _ _ (λ b us is. same _ us (let less = leaves_less (p (Level j)) (good (Level j)) ts b us is in omega arith))) refl

    Local-operation : (j start : ℕ) (a : E) (f : E → Parse E) → ((y : E) → Local 0 (f y)) → (o : Option BinaryOperator) → Local 0 (parse.operation_at m p j start a o f)
    Local-operation j start a f local None = Local-ok a
    Local-operation j start a f local (Some operator) = Local-above m a.1 _ (Local-look (parse.operation m p j start a operator f) refl (λ t. Local-weak _ (Local-read_on _ (λ b. local _) (p (Level j)) (good (Level j)))))

    operations_turns : (j start : ℕ) → Turns (λ n a. parse.operations m p n j start a) (operations_turn j start)
    unfolding parse.operations
    operations_turns j start = record {
      turn = λ n a ts. refl;
      none = λ a. refl;
      takes = λ f g a ts same. operation_same j start a (parse.of_level m p j (operator_at binary_of ts)) f g ts same;
      last = λ a. Local-ok a;
      further = λ f local a. Local-operator binary_of (λ o. parse.operation_at m p j start a (parse.of_level m p j o) f) (λ o. Local-operation j start a f local (parse.of_level m p j o));
    }

    Local-climb : (j start : ℕ) (a : E) → Local 0 (parse.climb m p j start a)
    unfolding parse.climb
    Local-climb zero start a = Local-ok a
    Local-climb (suc j) start a = Local-read_on _ (λ b. Local-turns _ _ (operations_turns j start) b) (parse.climb m p j start a) (Local-climb j start a)

    Local-after_or : (start : ℕ) (a : E) → Local 0 (parse.after_or m p start a)
    Local-after_or start a =
        Local-starts punctuators.Question _ _
        (Local-above m a.1 _ (Local-punctuator punctuators.Question _ (λ _. Local-read_on _ (λ b. Local-punctuator punctuators.Colon _ (λ _. Local-read_on _ (λ c. Local-ok _) (p Conditional) (good Conditional))) (p Expression) (good Expression))))
        (Local-ok a)

    Local-after_operand : (start : ℕ) (a : E) → Local 0 (parse.after_operand m p start a)
    Local-after_operand start a = Local-read_on _ (λ b. Local-after_or start b) (parse.climb m p weakest start a) (Local-climb weakest start a)

    Local-assignment_of : (start : ℕ) (a : E) (o : Option AssignmentOperator) → Local 0 (parse.assignment_of m p start a o)
    Local-assignment_of start a None = Local-after_operand start a
    Local-assignment_of start a (Some operator) = Local-look (parse.assignment_of m p start a (Some operator)) refl (λ t. Local-cond (nat_le a.1 m) _ _ (Local-weak _ (Local-read_on _ (λ b. Local-ok _) (p Assignment) (good Assignment))) Local-deep)

    Local-after_unary : (start : ℕ) (a : E) → Local 0 (parse.after_unary m p start a)
    Local-after_unary start a = Local-operator assign_of (parse.assignment_of m p start a) (Local-assignment_of start a)

    abbrev cast_operand : Parse E
    cast_operand ts = read_on (parse.cast_or_unary m p ts) (parse.after_operand m p (place ts))

    abbrev left_side : Parse E
    left_side ts = read_on (parse.unary_of_all m p ts) (parse.after_unary m p (place ts))

    Local-cast_operand : Local 0 cast_operand
    Local-cast_operand = Local-place (λ start ts. read_on (parse.cast_or_unary m p ts) (parse.after_operand m p start)) (λ start. Local-read_on _ (λ a. Local-after_operand start a) (parse.cast_or_unary m p) Local-cast_or_unary)

    Local-left_side : Local 0 left_side
    Local-left_side = Local-place (λ start ts. read_on (parse.unary_of_all m p ts) (parse.after_unary m p start)) (λ start. Local-read_on _ (λ a. Local-after_unary start a) (parse.unary_of_all m p) Local-unary)

    Local-assignment : Local 0 (parse.assignment m p)
    Local-assignment =
        Local-cast_or cast_operand left_side Local-cast_operand Local-left_side
        (λ at us e. ap (λ r. read_on r (parse.after_unary m p at)) (deep_unary at us e) ∙ sym (ap (λ r. read_on r (parse.after_operand m p at)) (deep_cast_or_unary at us e)))
        (λ at us e. omega (arith, read_on-left _ (λ a. Local-after_operand at a) (parse.cast_or_unary m p (Punctuator at punctuators.OpenParenthesis ∷ us)), opens_cast_or_unary at us e))
        (λ at us e. omega (arith, read_on-left _ (λ a. Local-after_unary at a) (parse.unary_of_all m p (Punctuator at punctuators.OpenParenthesis ∷ us)), opens_unary at us e))

    abbrev commas_turn : ℕ → (E → Parse E) → E → Parse E
    commas_turn start f a ts =
        cond (starts punctuators.Comma ts) (parse.above m a.1 (λ us. read_on (expect punctuators.Comma us) (λ _ vs. read_on (p Assignment vs) (λ b ws. f (expr (unnumbered start) (comma a.0 b.0), max a.1 b.1 + 1) ws))) ts) (Ok (a, ts))

    commas_turns : (start : ℕ) → Turns (λ n a. parse.commas m p n start a) (commas_turn start)
    unfolding parse.commas
    commas_turns start = record {
      turn = λ n a ts. refl;
      none = λ a. refl;
      takes = λ f g a ts same. cond_same (starts punctuators.Comma ts) (cond_same (nat_le a.1 m)
          (read_on_same (expect punctuators.Comma ts) _ _ (λ x us is. read_on_same (p Assignment us) _ _ (λ b vs read. same _ vs (let took = expect_takes punctuators.Comma ts x us is in let less = leaves_less (p Assignment) (good Assignment) us b vs read in omega arith)))) refl) refl;
      last = λ a. Local-ok a;
      further = λ f local a. Local-starts punctuators.Comma _ _ (Local-above m a.1 _ (Local-punctuator punctuators.Comma _ (λ _. Local-read_on _ (λ b. local _) (p Assignment) (good Assignment)))) (Local-ok a);
    }

    pub Local-expression : (form : Form) → Local 0 (parse.expression m p form)
    unfolding parse.expression
    Local-expression Postfix = Local-postfix
    Local-expression Unary = Local-unary
    Local-expression (Level j) = Local-place (λ start ts. read_on (parse.cast_or_unary m p ts) (parse.climb m p j start)) (λ start. Local-read_on _ (λ a. Local-climb j start a) (parse.cast_or_unary m p) Local-cast_or_unary)
    Local-expression Conditional = Local-cast_operand
    Local-expression Assignment = Local-assignment
    Local-expression Expression = Local-place (λ start ts. read_on (parse.assignment m p ts) (λ a us. parse.commas m p (length us) start a us)) (λ start. Local-read_on _ (λ a. Local-turns _ _ (commas_turns start) a) (parse.assignment m p) Local-assignment)

record Parts (n : ℕ) : Type 0 where
  local : (form : Form) → Local 0 (parse.part n form)
  opens : (at : ℕ) (us : List Terminal) → 1 < n → left (parse.part n Unary (Punctuator at punctuators.OpenParenthesis ∷ us)) ≤ length us

parts : (n : ℕ) → Parts n
unfolding parse.part parse.expression
parts zero = record { local = λ form. Local-beyond; opens = λ at us lt. absurd (omega arith) }
parts (suc n) =
    let before : Parts n = parts n in
    record {
      local = Local-expression n (parse.part n) before.local (part_nothing n) before.opens;
      opens = λ at us lt. opens_unary n (parse.part n) before.local (part_nothing n) at us (ne_eqb n 0 (λ e. omega arith));
    }

pub Local-part : (n : ℕ) (form : Form) → Local 0 (parse.part n form)
Local-part n form = (parts n).local form
