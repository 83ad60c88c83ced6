-- What is read as an expression has that reading, and is no higher than the room.
use Rattle.std.proofs.Common.{◌≡◌, ℕ, zero, suc, ◌+◌, ◌≤◌, Bool, true, false, cond, List, [], ◌∷◌, ◌++◌, length, Option, Some, None, Result, refl, sym, ap, subst, ◌∙◌, append_assoc, append-nil, arith}
use Rattle.std.specs.Prelude.{max, ◌==◌, ◌&&◌, nat_le}
use Rattle.std.proofs.lemmas.Bool.{eqb-true}
use Rattle.qs_syntax_vocabulary.specs.declared.terminal.Terminal.{Terminal}
use Rattle.qs_syntax_vocabulary.specs.declared.terminal.Terminal.TheVariants.{Name, TypeName, Keyword, Constant, Text, Punctuator}
use Rattle.qs_base.specs.declared.keyword.Keyword.TheVariants as keywords
use Rattle.qs_syntax_vocabulary.specs.declared.punctuator.Punctuator as punctuator
use Rattle.qs_syntax_vocabulary.specs.declared.punctuator.Punctuator.TheVariants as punctuators
use Rattle.qs_syntax_vocabulary.specs.declared.operators.UnaryOperator.{UnaryOperator}
use Rattle.qs_syntax_vocabulary.specs.declared.operators.BinaryOperator.{BinaryOperator}
use Rattle.qs_syntax_vocabulary.specs.declared.operators.AssignmentOperator.{AssignmentOperator}
use Rattle.qs_syntax_vocabulary.specs.declared.operators.Access.{Access}
use Rattle.qs_syntax_vocabulary.specs.declared.operators.StepOperator.TheVariants as steps
use Rattle.qs_syntax.specs.Trees.{unnumbered, ExprTree, expr, ShapeTree, text, step, binary, assign, conditional, comma, subscript, member, Exprs, no_exprs, expr_and, exprs_of}
use Rattle.qs_syntax_vocabulary.specs.Operators.{punctuator_of_unary, punctuator_of_binary, precedence, weakest, punctuator_of_assign, punctuator_of_access, number_of, unary_of, binary_of, assign_of, access_of}
use Rattle.qs_syntax.specs.Reads.{Form, Postfix, Unary, Level, Conditional, Assignment, Expression, place, at_first, ReadsTexts, no_text, a_further_text, Reads, ReadsArguments, a_name, an_empty_call, a_call, a_constant, a_text, in_parentheses, an_index, a_member, an_increment_after, a_decrement_after, a_postfix, an_increment, a_decrement, an_operator, a_size_of_type, a_size_of_value, a_cast, an_operand, stronger, an_operation, a_plain_level, a_choice, a_plain_conditional, an_assignment, a_plain_assignment, a_comma, a_last_argument, an_argument}
use Rattle.qs_parser_grammar.specs.Heads.{is_punctuator, is_keyword, starts, operator_at}
use Rattle.qs_parser_grammar.specs.Parse as parse
use Rattle.qs_parser_grammar.specs.Parse.{Stop, Parse, E, begins_one, begins_cast, texts_from}
use Rattle.qs_parser_grammar.proofs.HeadsLaws.{punctuator_is, keyword_is, unary_is, binary_is, assign_is, access_is, operator_is}
use Rattle.qs_parser_grammar.proofs.Sound.{Sound, Sound-ok, Sound-err, at_end, Sound-token, Sound-mono, Sound-read_on, Sound-then}
use Rattle.qs_parser_grammar.proofs.SoundSteps.{Sound-if, Sound-above, Sound-ends, Sound-from, Sound-punctuator, sound_expect, sound_expect_name}
use Rattle.qs_parser_grammar.proofs.TypesSound.{sound_type_name}
use Rattle.qs_parser_grammar.proofs.ExpressionsBegin.{place_more}
use Rattle.qs_syntax.specs.ReadsTypes.{Any}

abbrev pub IsRead : ℕ → Form → E → List Terminal → Type 0
IsRead n form x ts = Reads form x.1 ts x.0 × (x.1 ≤ n)

-- the same, for what stands at the first of the tokens
abbrev pub Begun : ℕ → Form → ℕ → E → List Terminal → Type 0
Begun n form start x ts = Reads form x.1 ts x.0 × (x.1 ≤ n) × (start ≡ place ts)

cast_read : {form : Form} {h k : ℕ} {ts us : List Terminal} {e f : ExprTree} → h ≡ k → ts ≡ us → e ≡ f → Reads form h ts e → Reads form k us f
cast_read {form} {h} {k} {ts} {us} {e} {f} p q s r = subst (λ n. Reads form n us f) p (subst (λ l. Reads form h l f) q (subst (Reads form h ts) s r))

cast_arguments : {h k : ℕ} {ts us : List Terminal} {es fs : Exprs} → h ≡ k → ts ≡ us → es ≡ fs → ReadsArguments h ts es → ReadsArguments k us fs
cast_arguments {h} {k} {ts} {us} {es} {fs} p q s r = subst (λ n. ReadsArguments n us fs) p (subst (λ l. ReadsArguments h l fs) q (subst (ReadsArguments h ts) s r))

-- ---- texts

record TextsTaken (done : List ℕ) (ts : List Terminal) (x : List ℕ × List Terminal) : Type 0 where
  front : List Terminal
  bytes : List ℕ
  split : ts ≡ front ++ x.1
  are : ReadsTexts front bytes
  joined : x.0 ≡ done ++ bytes

no_texts : (done : List ℕ) (ts : List Terminal) → TextsTaken done ts (done, ts)
no_texts done ts = record { front = []; bytes = []; split = refl; are = no_text; joined = sym (append-nil done) }

texts_taken : (done : List ℕ) (ts : List Terminal) → TextsTaken done ts (texts_from done ts)
unfolding texts_from
texts_taken done [] = no_texts done []
texts_taken done (Name at x ∷ ts) = no_texts done (Name at x ∷ ts)
texts_taken done (TypeName at x ∷ ts) = no_texts done (TypeName at x ∷ ts)
texts_taken done (Keyword at k ∷ ts) = no_texts done (Keyword at k ∷ ts)
texts_taken done (Constant at n unsigned ∷ ts) = no_texts done (Constant at n unsigned ∷ ts)
texts_taken done (Text at first ∷ ts) =
    let t : TextsTaken (done ++ first) ts (texts_from (done ++ first) ts) = texts_taken (done ++ first) ts in
    record { front = Text at first ∷ t.front; bytes = first ++ t.bytes; split = ap (λ l. Text at first ∷ l) t.split; are = a_further_text at first t.are; joined = t.joined ∙ append_assoc done first t.bytes }
texts_taken done (Punctuator at m ∷ ts) = no_texts done (Punctuator at m ∷ ts)

sound_after_text : (n at : ℕ) (first : List ℕ) (ts : List Terminal) (m : ℕ) (part : Form → Parse E) → Sound (IsRead (n + 1) Postfix) (Text at first ∷ []) ts (parse.after_text m part at (texts_from first ts))
sound_after_text n at first ts m part =
    let t : TextsTaken first ts (texts_from first ts) = texts_taken first ts in
    Sound-ends (Text at first ∷ []) ts (texts_from first ts).1 (expr (unnumbered at) (text (texts_from first ts).0), 1) t.front t.split
    (cast_read refl refl (ap (λ l. expr (unnumbered at) (text l)) (sym t.joined)) (a_text at first t.are), omega arith)

-- ---- arguments

-- further arguments behind these
abbrev join : List ExprTree → Exprs → Exprs
join [] es = es
join (d ∷ ds) es = expr_and d (join ds es)

join_end : (ds : List ExprTree) (e : ExprTree) (es : Exprs) → join ds (expr_and e es) ≡ join (ds ++ e ∷ []) es
join_end [] e es = refl
join_end (d ∷ ds) e es = ap (expr_and d) (join_end ds e es)

join_none : (ds : List ExprTree) → join ds no_exprs ≡ exprs_of ds
join_none [] = refl
join_none (d ∷ ds) = ap (expr_and d) (join_none ds)

-- arguments with a comma behind each
pub record Joins (k : ℕ) (xs : List Terminal) (ds : List ExprTree) : Type 0 where
  goes : (h : ℕ) (ys : List Terminal) (es : Exprs) → ReadsArguments h ys es → ReadsArguments (max k h) (xs ++ ys) (join ds es)

joins_none : Joins 0 [] []
joins_none = record { goes = λ h ys es r. cast_arguments (omega arith) refl refl r }

joins_more : (k h c : ℕ) (xs ys : List Terminal) (ds : List ExprTree) (e : ExprTree) → Joins k xs ds → Reads Assignment h ys e → Joins (max k h) ((xs ++ ys) ++ Punctuator c punctuators.Comma ∷ []) (ds ++ e ∷ [])
joins_more k h c xs ys ds e j r = record {
  goes = λ i zs es s. cast_arguments {h = max k (max h i)} {k = max (max k h) i} (omega arith) (simp append_assoc) (join_end ds e es) (j.goes (max h i) (ys ++ Punctuator c punctuators.Comma ∷ zs) (expr_and e es) (an_argument c r s));
}

-- all arguments, and the parenthesis behind them
pub record Closed (m : ℕ) (x : List ExprTree × ℕ) (ts : List Terminal) : Type 0 where
  at : ℕ
  inside : List Terminal
  split : ts ≡ inside ++ Punctuator at punctuators.CloseParenthesis ∷ []
  are : ReadsArguments x.1 inside (exprs_of x.0)
  low : x.1 ≤ m

closed : (m k h c : ℕ) (xs ys : List Terminal) (ds : List ExprTree) (e : ExprTree) → Joins k xs ds → Reads Assignment h ys e → max k h ≤ m → Closed m (ds ++ e ∷ [], max k h) ((xs ++ ys) ++ Punctuator c punctuators.CloseParenthesis ∷ [])
closed m k h c xs ys ds e j r le = record {
  at = c;
  inside = xs ++ ys;
  split = refl;
  are = cast_arguments refl refl (join_end ds e no_exprs ∙ join_none (ds ++ e ∷ [])) (j.goes h ys (expr_and e no_exprs) (a_last_argument r));
  low = le;
}

module _ (m : ℕ) (p : Form → Parse E) (sound : (form : Form) (ts : List Terminal) → Sound (IsRead m form) [] ts (p form ts)) where
  pub sound_arguments : (n : ℕ) (ds : List ExprTree) (k : ℕ) (xs : List Terminal) → Joins k xs ds → k ≤ m → (ts : List Terminal) → Sound (Closed m) xs ts (parse.arguments m p n ds k ts)
  unfolding parse.arguments
  sound_arguments zero ds k xs j le ts = Sound-err at_end
  sound_arguments (suc n) ds k xs j le ts =
      Sound-read_on _ (sound Assignment ts)
      (λ e front us r. let low : max k e.1 ≤ m = omega (arith, r.1) in
      Sound-if (starts punctuators.CloseParenthesis us)
      (λ _. Sound-punctuator punctuators.CloseParenthesis _ (λ c vs. Sound-ok (closed m k e.1 c xs front ds e.0 j r.0 low)))
      (λ _. Sound-punctuator punctuators.Comma _ (λ c vs. sound_arguments n (ds ++ e.0 ∷ []) (max k e.1) ((xs ++ front) ++ Punctuator c punctuators.Comma ∷ []) (joins_more k e.1 c xs front ds e.0 j r.0) low vs)))

  pub sound_call : (at o : ℕ) (f : List ℕ) (ts : List Terminal) → Sound (IsRead (m + 1) Postfix) (Name at f ∷ Punctuator o punctuators.OpenParenthesis ∷ []) ts (parse.call_of m p at f ts)
  sound_call at o f ts =
      Sound-if (starts punctuators.CloseParenthesis ts)
      (λ _. Sound-punctuator punctuators.CloseParenthesis _ (λ c us. Sound-ok (an_empty_call at o c f, omega arith)))
      (λ _. Sound-read_on _ (sound_arguments (length ts) [] 0 [] joins_none (omega arith) ts)
      (λ es front us c. Sound-ok (cast_read (omega arith) (ap (λ l. Name at f ∷ Punctuator o punctuators.OpenParenthesis ∷ l) (sym c.split)) refl (a_call at o c.at f c.are), let low : es.1 ≤ m = c.low in omega arith)))

  sound_name : (at : ℕ) (x : List ℕ) (ts : List Terminal) → Sound (IsRead (m + 1) Postfix) (Name at x ∷ []) ts (parse.after_name m p at x ts)
  sound_name at x ts =
      Sound-if (starts punctuators.OpenParenthesis ts) (λ _. Sound-punctuator punctuators.OpenParenthesis _ (λ o us. sound_call at o x us)) (λ _. Sound-ok (a_name at x, omega arith))

  sound_parentheses : (o : ℕ) (ts : List Terminal) → Sound (IsRead (m + 1) Postfix) (Punctuator o punctuators.OpenParenthesis ∷ []) ts (parse.in_parentheses m p ts)
  sound_parentheses o ts =
      Sound-read_on _ (sound Expression ts)
      (λ e front us r. Sound-punctuator punctuators.CloseParenthesis _ (λ c vs. Sound-ok (cast_read (omega arith) refl refl (in_parentheses o c r.0), let low : e.1 ≤ m = r.1 in omega arith)))

  -- with the punctuator that was looked at before what goes on
  punctuator_first : {A : Type 0} {R : A → List Terminal → Type 0} (k : punctuator.Punctuator) (at : ℕ) (n : punctuator.Punctuator) (ts : List Terminal) (r : Result (A × List Terminal) Stop) → Sound R (Punctuator at k ∷ []) ts r → is_punctuator k (Punctuator at n) ≡ true → Sound R [] (Punctuator at n ∷ ts) r
  punctuator_first {R = R} k at n ts r s e = Sound-token (subst (λ u. Sound R (u ∷ []) ts r) (sym (punctuator_is k (Punctuator at n) e)) s)

  pub sound_primary : (ts : List Terminal) → Sound (IsRead (m + 1) Postfix) [] ts (parse.primary m p ts)
  unfolding parse.primary
  sound_primary [] = Sound-err at_end
  sound_primary (Name at x ∷ ts) = Sound-token (sound_name at x ts)
  sound_primary (TypeName at x ∷ ts) = Sound-err at_end
  sound_primary (Keyword at k ∷ ts) = Sound-err at_end
  sound_primary (Constant at n unsigned ∷ ts) = Sound-token (Sound-ok (a_constant at n unsigned, omega arith))
  sound_primary (Text at bytes ∷ ts) = Sound-token (sound_after_text m at bytes ts m p)
  sound_primary (Punctuator at k ∷ ts) =
      Sound-if (is_punctuator punctuators.OpenParenthesis (Punctuator at k))
      (λ e. Sound-if (m == 0) (λ _. Sound-err at_end) (λ _. punctuator_first punctuators.OpenParenthesis at k ts _ (sound_parentheses at ts) e)) (λ _. Sound-err at_end)

  -- ---- suffixes

  -- a node on the left part with more behind it
  built : {part : Form} (form : Form) (start h k : ℕ) (xs more us : List Terminal) (a : ExprTree) (shape : ShapeTree) → Reads part h xs a → start ≡ place xs
      → (r : Reads form (suc k) (xs ++ more) (at_first xs shape)) → xs ++ more ≡ us → k ≤ m → Begun (m + 1) form start (expr (unnumbered start) shape, k + 1) us
  built form start h k xs more us a shape left s r e le =
      (cast_read (omega arith) e (ap (λ n. expr (unnumbered n) shape) (sym s)) r, omega arith, s ∙ sym (place_more left more) ∙ ap place e)

  sound_index : (start o : ℕ) (a : E) (done : List Terminal) → Begun (m + 1) Postfix start a done → a.1 ≤ m → (ts : List Terminal) → Sound (Begun (m + 1) Postfix start) (done ++ Punctuator o punctuators.OpenBracket ∷ []) ts (parse.index_of m p start a ts)
  sound_index start o a done r le ts =
      Sound-read_on _ (sound Expression ts)
      (λ b front us q. Sound-punctuator punctuators.CloseBracket _ (λ c vs. Sound-ok
      (let low : max a.1 b.1 ≤ m = omega (arith, q.1) in
      built Postfix start a.1 (max a.1 b.1) done (Punctuator o punctuators.OpenBracket ∷ (front ++ Punctuator c punctuators.CloseBracket ∷ [])) _ a.0 (subscript a.0 b.0) r.0 r.2 (an_index o c r.0 q.0) (simp append_assoc) low)))

  sound_member : (start d : ℕ) (a : E) (access : Access) (done : List Terminal) → Begun (m + 1) Postfix start a done → a.1 ≤ m → (ts : List Terminal)
      → Sound (Begun (m + 1) Postfix start) (done ++ Punctuator d (punctuator_of_access access) ∷ []) ts (parse.member_of m p start a access ts)
  sound_member start d a access done r le ts =
      Sound-read_on _ (sound_expect_name Any ts)
      (λ x front us is. Sound-ok (built Postfix start a.1 a.1 done (Punctuator d (punctuator_of_access access) ∷ is.0 ∷ []) _ a.0 (member access a.0 x.1) r.0 r.2 (a_member access d r.0 is.2) (rw is.1 (simp append_assoc)) le))

  sound_access : (start : ℕ) (a : E) (done : List Terminal) → Begun (m + 1) Postfix start a done → a.1 ≤ m → (t : Terminal) (ts : List Terminal) (o : Option Access) → operator_at access_of (t ∷ ts) ≡ o
      → Sound (Begun (m + 1) Postfix start) done (t ∷ ts) (parse.access_at m p start a o ts)
  sound_access start a done r le t ts None e = Sound-err (omega arith)
  sound_access start a done r le t ts (Some access) e =
      let is = operator_is access_of punctuator_of_access access_is (t ∷ ts) access e in
      Sound-token (subst (λ u. Sound (Begun (m + 1) Postfix start) (done ++ u ∷ []) ts (parse.member_of m p start a access ts)) (first_same t (Punctuator is.0 (punctuator_of_access access)) ts is.1 is.2) (sound_member start is.0 a access done r le ts))
    where
      first_same : (t u : Terminal) (ts us : List Terminal) → t ∷ ts ≡ u ∷ us → u ≡ t
      first_same t u ts us e = cc

  pub sound_suffix : (start : ℕ) (a : E) (done : List Terminal) → Begun (m + 1) Postfix start a done → a.1 ≤ m → (ts : List Terminal) → Sound (Begun (m + 1) Postfix start) done ts (parse.suffix m p start a ts)
  sound_suffix start a done r le [] = Sound-err at_end
  sound_suffix start a done r le (t ∷ ts) =
      Sound-if (is_punctuator punctuators.OpenBracket t) (λ e. behind_punctuator punctuators.OpenBracket _ e (sound_index start (number_of t) a done r le ts))
      (λ _. Sound-if (is_punctuator punctuators.Increment t)
      (λ e. behind_punctuator punctuators.Increment _ e (Sound-ok (built Postfix start a.1 a.1 done (Punctuator (number_of t) punctuators.Increment ∷ []) _ a.0 (step steps.IncrementAfter a.0) r.0 r.2 (an_increment_after (number_of t) r.0) refl le)))
      (λ _. Sound-if (is_punctuator punctuators.Decrement t)
      (λ e. behind_punctuator punctuators.Decrement _ e (Sound-ok (built Postfix start a.1 a.1 done (Punctuator (number_of t) punctuators.Decrement ∷ []) _ a.0 (step steps.DecrementAfter a.0) r.0 r.2 (a_decrement_after (number_of t) r.0) refl le)))
      (λ _. sound_access start a done r le t ts (operator_at access_of (t ∷ ts)) refl)))
    where
      behind_punctuator : (k : punctuator.Punctuator) (q : Result (E × List Terminal) Stop) → is_punctuator k t ≡ true → Sound (Begun (m + 1) Postfix start) (done ++ Punctuator (number_of t) k ∷ []) ts q → Sound (Begun (m + 1) Postfix start) done (t ∷ ts) q
      behind_punctuator k q e s = Sound-token (subst (λ u. Sound (Begun (m + 1) Postfix start) (done ++ u ∷ []) ts q) (sym (punctuator_is k t e)) s)

  pub sound_suffixes : (n start : ℕ) (a : E) (done : List Terminal) → Begun (m + 1) Postfix start a done → (ts : List Terminal) → Sound (Begun (m + 1) Postfix start) done ts (parse.suffixes m p n start a ts)
  unfolding parse.suffixes
  sound_suffixes zero start a done r ts = Sound-ok r
  sound_suffixes (suc n) start a done r ts =
      Sound-if (parse.begins_suffix m p ts)
      (λ _. Sound-above m a.1 (Sound-err at_end) (λ le. Sound-then (parse.suffixes m p n start) (sound_suffix start a done r le ts) (λ b done us q. sound_suffixes n start b done q us))) (λ _. Sound-ok r)

  -- what is read first stands where all the tokens begin
  pub starting : (form : Form) (ts front us : List Terminal) (a : E) → ts ≡ front ++ us → IsRead (m + 1) form a front → Begun (m + 1) form (place ts) a front
  starting form ts front us a e r = (r.0, r.1, ap place e ∙ place_more r.0 us)

  pub sound_postfix : (ts : List Terminal) → Sound (IsRead (m + 1) Postfix) [] ts (parse.postfix m p ts)
  sound_postfix ts = Sound-from _ (sound_primary ts) (λ a front us e r. Sound-mono (λ x l q. (q.0, q.1)) (sound_suffixes (length us) (place ts) a front (starting Postfix ts front us a e r) us))

  -- ---- unary operators

  as_unary : (x : E) (l : List Terminal) → IsRead (m + 1) Postfix x l → IsRead (m + 1) Unary x l
  as_unary x l r = (a_postfix r.0, r.1)

  sound_operator : (operator : UnaryOperator) (at : ℕ) (ts : List Terminal) → Sound (IsRead (m + 1) Unary) (Punctuator at (punctuator_of_unary operator) ∷ []) ts (parse.operator_of m p at operator ts)
  sound_operator operator at ts = Sound-read_on _ (sound (Level 0) ts) (λ e front us r. Sound-ok (cast_read (omega arith) refl refl (an_operator operator at r.0), let low : e.1 ≤ m = r.1 in omega arith))

  sound_increment : (at : ℕ) (ts : List Terminal) → Sound (IsRead (m + 1) Unary) (Punctuator at punctuators.Increment ∷ []) ts (parse.step_of m p at steps.IncrementBefore ts)
  sound_increment at ts = Sound-read_on _ (sound Unary ts) (λ e front us r. Sound-ok (cast_read (omega arith) refl refl (an_increment at r.0), let low : e.1 ≤ m = r.1 in omega arith))

  sound_decrement : (at : ℕ) (ts : List Terminal) → Sound (IsRead (m + 1) Unary) (Punctuator at punctuators.Decrement ∷ []) ts (parse.step_of m p at steps.DecrementBefore ts)
  sound_decrement at ts = Sound-read_on _ (sound Unary ts) (λ e front us r. Sound-ok (cast_read (omega arith) refl refl (a_decrement at r.0), let low : e.1 ≤ m = r.1 in omega arith))

  -- nothing is read where no level is left
  Sound-at_limit : {R : E → List Terminal → Type 0} {done : List Terminal} (ts : List Terminal) → Sound R done ts (parse.size_at_limit ts)
  Sound-at_limit ts = Sound-punctuator punctuators.OpenParenthesis _ (λ o us. Sound-if (begins_one us) (λ _. Sound-err at_end) (λ _. Sound-err at_end))

  sound_size : (at : ℕ) (ts : List Terminal) → Sound (IsRead (m + 1) Unary) (Keyword at keywords.Sizeof ∷ []) ts (parse.size_of m p at ts)
  sound_size at ts =
      Sound-if (begins_cast ts)
      (λ _. Sound-punctuator punctuators.OpenParenthesis _ (λ o us. Sound-read_on _ (sound_type_name us)
      (λ t front vs r. Sound-punctuator punctuators.CloseParenthesis _ (λ c ws. Sound-ok (cast_read refl refl refl (a_size_of_type at o c r), omega arith)))))
      (λ _. Sound-if (nat_le m 1 && starts punctuators.OpenParenthesis ts) (λ _. Sound-at_limit ts)
      (λ _. Sound-read_on _ (sound Unary ts) (λ e front us r. Sound-ok (cast_read (omega arith) refl refl (a_size_of_value at r.0), let low : e.1 ≤ m = r.1 in omega arith))))

  sound_operator_at : (at : ℕ) (k : punctuator.Punctuator) (ts : List Terminal) (o : Option UnaryOperator) → unary_of k ≡ o → Sound (IsRead (m + 1) Unary) [] (Punctuator at k ∷ ts) (parse.unary_operator_at m p at o k ts)
  sound_operator_at at k ts None e = Sound-mono as_unary (sound_postfix (Punctuator at k ∷ ts))
  sound_operator_at at k ts (Some operator) e =
      Sound-if (m == 0) (λ _. Sound-err at_end) (λ _. Sound-token (subst (λ n. Sound (IsRead (m + 1) Unary) (Punctuator at n ∷ []) ts (parse.operator_of m p at operator ts)) (sym (unary_is k operator e)) (sound_operator operator at ts)))

  pub sound_unary : (ts : List Terminal) → Sound (IsRead (m + 1) Unary) [] ts (parse.unary_of_all m p ts)
  unfolding parse.unary_of_all
  sound_unary [] = Sound-err at_end
  sound_unary (Name at x ∷ ts) = Sound-mono as_unary (sound_postfix (Name at x ∷ ts))
  sound_unary (TypeName at x ∷ ts) = Sound-mono as_unary (sound_postfix (TypeName at x ∷ ts))
  sound_unary (Keyword at k ∷ ts) =
      Sound-if (is_keyword keywords.Sizeof (Keyword at k))
      (λ e. Sound-token (subst (λ u. Sound (IsRead (m + 1) Unary) (u ∷ []) ts (parse.size_of m p at ts)) (sym (keyword_is keywords.Sizeof (Keyword at k) e)) (sound_size at ts))) (λ _. Sound-err at_end)
  sound_unary (Constant at n unsigned ∷ ts) = Sound-mono as_unary (sound_postfix (Constant at n unsigned ∷ ts))
  sound_unary (Text at bytes ∷ ts) = Sound-mono as_unary (sound_postfix (Text at bytes ∷ ts))
  sound_unary (Punctuator at k ∷ ts) =
      Sound-if (is_punctuator punctuators.Increment (Punctuator at k)) (λ e. Sound-if (m == 0) (λ _. Sound-err at_end) (λ _. punctuator_first punctuators.Increment at k ts _ (sound_increment at ts) e))
      (λ _. Sound-if (is_punctuator punctuators.Decrement (Punctuator at k)) (λ e. Sound-if (m == 0) (λ _. Sound-err at_end) (λ _. punctuator_first punctuators.Decrement at k ts _ (sound_decrement at ts) e))
      (λ _. sound_operator_at at k ts (unary_of k) refl))

  pub sound_cast : (at : ℕ) (ts : List Terminal) → Sound (IsRead (m + 1) (Level 0)) (Punctuator at punctuators.OpenParenthesis ∷ []) ts (parse.cast_of m p at ts)
  sound_cast at ts =
      Sound-read_on _ (sound_type_name ts)
      (λ t front us r. Sound-punctuator punctuators.CloseParenthesis _ (λ c vs. Sound-read_on _ (sound (Level 0) vs)
      (λ e more ws q. Sound-ok (cast_read (omega arith) (ap (λ l. Punctuator at punctuators.OpenParenthesis ∷ l) (sym (append_assoc front (Punctuator c punctuators.CloseParenthesis ∷ []) more))) refl (a_cast at c r q.0), let low : e.1 ≤ m = q.1 in omega arith))))

  pub sound_cast_or_unary : (ts : List Terminal) → Sound (IsRead (m + 1) (Level 0)) [] ts (parse.cast_or_unary m p ts)
  sound_cast_or_unary ts =
      Sound-if (begins_cast ts)
      (λ _. Sound-if (m == 0) (λ _. Sound-err at_end)
      (λ _. Sound-from _ (sound_expect punctuators.OpenParenthesis ts)
      (λ x front us e is. rw is.1 (subst (λ n. Sound (IsRead (m + 1) (Level 0)) (Punctuator is.0 punctuators.OpenParenthesis ∷ []) us (parse.cast_of m p n us)) (sym (ap place (e ∙ ap (λ l. l ++ us) is.1))) (sound_cast is.0 us)))))
      (λ _. Sound-mono (λ x l r. (an_operand r.0, r.1)) (sound_unary ts))

  -- ---- operators between operands

  pub of_level_is : (j : ℕ) (o : Option BinaryOperator) (operator : BinaryOperator) → parse.of_level m p j o ≡ Some operator → (o ≡ Some operator) × (precedence operator ≡ suc j)
  of_level_is j None operator e = absurd cc
  of_level_is j (Some s) operator e = by_case (precedence s == j + 1) refl e
    where
      by_case : (b : Bool) → (precedence s == j + 1) ≡ b → cond b (Some s) None ≡ Some operator → (◌≡◌ {A = Option BinaryOperator} (Some s) (Some operator)) × (precedence operator ≡ suc j)
      by_case true w e = let same : s ≡ operator = cc in (e, let tells : precedence s ≡ j + 1 = eqb-true (precedence s) (j + 1) w in ap precedence (sym same) ∙ tells ∙ omega arith)
      by_case false w e = absurd cc

  sound_operation_at : (j start : ℕ) (a : E) (done : List Terminal) → Begun (m + 1) (Level (suc j)) start a done → (ts : List Terminal) (others : E → Parse E)
      → ((b : E) (done us : List Terminal) → Begun (m + 1) (Level (suc j)) start b done → Sound (Begun (m + 1) (Level (suc j)) start) done us (others b us))
      → (o : Option BinaryOperator) → parse.of_level m p j (operator_at binary_of ts) ≡ o → Sound (Begun (m + 1) (Level (suc j)) start) done ts (parse.operation_at m p j start a o others ts)
  sound_operation_at j start a done r ts others again None e = Sound-ok r
  sound_operation_at j start a done r [] others again (Some operator) e = Sound-above m a.1 (Sound-err at_end) (λ le. Sound-err at_end)
  sound_operation_at j start a done r (t ∷ ts) others again (Some operator) e =
      let level = of_level_is j (operator_at binary_of (t ∷ ts)) operator e in
      let is = operator_is binary_of punctuator_of_binary binary_is (t ∷ ts) operator level.0 in
      Sound-above m a.1 (Sound-err at_end)
      (λ le. Sound-token (Sound-read_on _ (sound (Level j) ts)
      (λ b front us q. again (expr (unnumbered start) (binary operator a.0 b.0), max a.1 b.1 + 1) ((done ++ t ∷ []) ++ front) us
      (let low : max a.1 b.1 ≤ m = omega (arith, q.1) in
      built (Level (suc j)) start a.1 (max a.1 b.1) done (Punctuator is.0 (punctuator_of_binary operator) ∷ front) _ a.0 (binary operator a.0 b.0) r.0 r.2 (an_operation operator is.0 level.1 r.0 q.0)
      (sym (append_assoc done (t ∷ []) front ∙ ap (λ u. done ++ u ∷ front) (token_is t (Punctuator is.0 (punctuator_of_binary operator)) ts is.1 is.2))) low))))
    where
      token_is : (t u : Terminal) (ts us : List Terminal) → t ∷ ts ≡ u ∷ us → t ≡ u
      token_is t u ts us e = cc

  pub sound_operations : (n j start : ℕ) (a : E) (done : List Terminal) → Begun (m + 1) (Level (suc j)) start a done → (ts : List Terminal) → Sound (Begun (m + 1) (Level (suc j)) start) done ts (parse.operations m p n j start a ts)
  unfolding parse.operations
  sound_operations zero j start a done r ts = Sound-ok r
  sound_operations (suc n) j start a done r ts = sound_operation_at j start a done r ts (parse.operations m p n j start) (λ b done us q. sound_operations n j start b done q us) (parse.of_level m p j (operator_at binary_of ts)) refl

  pub sound_climb : (j start : ℕ) (a : E) (done : List Terminal) → Begun (m + 1) (Level 0) start a done → (ts : List Terminal) → Sound (Begun (m + 1) (Level j) start) done ts (parse.climb m p j start a ts)
  unfolding parse.climb
  sound_climb zero start a done r ts = Sound-ok r
  sound_climb (suc j) start a done r ts =
      Sound-then (λ b us. parse.operations m p (length us) j start b us) (sound_climb j start a done r ts) (λ b done us q. sound_operations (length us) j start b done (stronger q.0, q.1, q.2) us)

  -- ---- conditional, assignment, comma

  sound_after_or : (start : ℕ) (a : E) (done : List Terminal) → Begun (m + 1) (Level weakest) start a done → (ts : List Terminal) → Sound (Begun (m + 1) Conditional start) done ts (parse.after_or m p start a ts)
  sound_after_or start a done r ts =
      Sound-if (starts punctuators.Question ts)
      (λ _. Sound-above m a.1 (Sound-err at_end)
      (λ le. Sound-punctuator punctuators.Question _ (λ o us. Sound-read_on _ (sound Expression us)
      (λ b front vs q. Sound-punctuator punctuators.Colon _ (λ c ws. Sound-read_on _ (sound Conditional ws)
      (λ d more xs s. Sound-ok
      (let low : max a.1 (max b.1 d.1) ≤ m = omega (arith, q.1, s.1) in
      built Conditional start a.1 (max a.1 (max b.1 d.1)) done (Punctuator o punctuators.Question ∷ (front ++ Punctuator c punctuators.Colon ∷ more)) _ a.0 (conditional a.0 b.0 d.0) r.0 r.2 (a_choice o c r.0 q.0 s.0) (simp append_assoc) low)))))))
      (λ _. Sound-ok (a_plain_level r.0, r.1, r.2))

  pub sound_after_operand : (start : ℕ) (a : E) (done : List Terminal) → Begun (m + 1) (Level 0) start a done → (ts : List Terminal) → Sound (Begun (m + 1) Conditional start) done ts (parse.after_operand m p start a ts)
  sound_after_operand start a done r ts = Sound-then (parse.after_or m p start) (sound_climb weakest start a done r ts) (λ b done us q. sound_after_or start b done q us)

  plain_conditional : (start : ℕ) (x : E) (l : List Terminal) → Begun (m + 1) Conditional start x l → Begun (m + 1) Assignment start x l
  plain_conditional start x l r = (a_plain_conditional r.0, r.1, r.2)

  sound_assignment_of : (start : ℕ) (a : E) (done : List Terminal) → Begun (m + 1) Unary start a done → (ts : List Terminal) (o : Option AssignmentOperator) → operator_at assign_of ts ≡ o
      → Sound (Begun (m + 1) Assignment start) done ts (parse.assignment_of m p start a o ts)
  sound_assignment_of start a done r ts None e = Sound-mono (plain_conditional start) (sound_after_operand start a done (an_operand r.0, r.1, r.2) ts)
  sound_assignment_of start a done r [] (Some operator) e = absurd cc
  sound_assignment_of start a done r (t ∷ ts) (Some operator) e =
      let is = operator_is assign_of punctuator_of_assign assign_is (t ∷ ts) operator e in
      Sound-above m a.1 (Sound-err at_end)
      (λ le. Sound-token (Sound-read_on _ (sound Assignment ts)
      (λ b front us q. Sound-ok
      (let low : max a.1 b.1 ≤ m = omega (arith, q.1) in
      built Assignment start a.1 (max a.1 b.1) done (Punctuator is.0 (punctuator_of_assign operator) ∷ front) _ a.0 (assign operator a.0 b.0) r.0 r.2 (an_assignment operator is.0 r.0 q.0)
      (sym (append_assoc done (t ∷ []) front ∙ ap (λ u. done ++ u ∷ front) (first_is t (Punctuator is.0 (punctuator_of_assign operator)) ts is.1 is.2))) low))))
    where
      first_is : (t u : Terminal) (ts us : List Terminal) → t ∷ ts ≡ u ∷ us → t ≡ u
      first_is t u ts us e = cc

  pub sound_assignment : (ts : List Terminal) → Sound (IsRead (m + 1) Assignment) [] ts (parse.assignment m p ts)
  sound_assignment ts =
      Sound-if (begins_cast ts)
      (λ _. Sound-from _ (sound_cast_or_unary ts)
      (λ a front us e r. Sound-mono (λ x l q. (a_plain_conditional q.0, q.1)) (sound_after_operand (place ts) a front (starting (Level 0) ts front us a e r) us)))
      (λ _. Sound-from _ (sound_unary ts)
      (λ a front us e r. Sound-mono (λ x l q. (q.0, q.1)) (sound_assignment_of (place ts) a front (starting Unary ts front us a e r) us (operator_at assign_of us) refl)))

  sound_commas : (n start : ℕ) (a : E) (done : List Terminal) → Begun (m + 1) Expression start a done → (ts : List Terminal) → Sound (Begun (m + 1) Expression start) done ts (parse.commas m p n start a ts)
  unfolding parse.commas
  sound_commas zero start a done r ts = Sound-ok r
  sound_commas (suc n) start a done r ts =
      Sound-if (starts punctuators.Comma ts)
      (λ _. Sound-above m a.1 (Sound-err at_end)
      (λ le. Sound-punctuator punctuators.Comma _ (λ c us. Sound-read_on _ (sound Assignment us)
      (λ b front vs q. sound_commas n start (expr (unnumbered start) (comma a.0 b.0), max a.1 b.1 + 1) ((done ++ Punctuator c punctuators.Comma ∷ []) ++ front)
      (let low : max a.1 b.1 ≤ m = omega (arith, q.1) in
      built Expression start a.1 (max a.1 b.1) done (Punctuator c punctuators.Comma ∷ front) _ a.0 (comma a.0 b.0) r.0 r.2 (a_comma c r.0 q.0) (simp append_assoc) low) vs))))
      (λ _. Sound-ok r)

  sound_expression : (form : Form) (ts : List Terminal) → Sound (IsRead (m + 1) form) [] ts (parse.expression m p form ts)
  unfolding parse.expression
  sound_expression Postfix ts = sound_postfix ts
  sound_expression Unary ts = sound_unary ts
  sound_expression (Level j) ts = Sound-from _ (sound_cast_or_unary ts) (λ a front us e r. Sound-mono (λ x l q. (q.0, q.1)) (sound_climb j (place ts) a front (starting (Level 0) ts front us a e r) us))
  sound_expression Conditional ts = Sound-from _ (sound_cast_or_unary ts) (λ a front us e r. Sound-mono (λ x l q. (q.0, q.1)) (sound_after_operand (place ts) a front (starting (Level 0) ts front us a e r) us))
  sound_expression Assignment ts = sound_assignment ts
  sound_expression Expression ts =
      Sound-from _ (sound_assignment ts)
      (λ a front us e r. Sound-mono (λ x l q. (q.0, q.1)) (sound_commas (length us) (place ts) a front (starting Expression ts front us a e (a_plain_assignment r.0, r.1)) us))

pub sound_part : (n : ℕ) (form : Form) (ts : List Terminal) → Sound (IsRead n form) [] ts (parse.part n form ts)
unfolding parse.part
sound_part zero form ts = Sound-if (begins_one ts) (λ _. Sound-err at_end) (λ _. Sound-err at_end)
sound_part (suc n) form ts = Sound-mono (λ x l r. (r.0, let low : x.1 ≤ n + 1 = r.1 in omega arith)) (sound_expression n (parse.part n) (λ form ts. sound_part n form ts) form ts)
