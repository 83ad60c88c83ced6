-- The printed terminals of an expression that was read are read as that expression again, no higher.
use Rattle.std.proofs.Common.{◌≡◌, ℕ, zero, suc, ◌+◌, ◌-◌, ◌≤◌, Bool, true, false, List, [], ◌∷◌, ◌++◌, length, refl, sym, ap, subst, append-nil, arith}
use Rattle.std.specs.Prelude.{max, nat_le}
use Rattle.std.proofs.lemmas.Bool.{leb-true, le-leb}
use Rattle.qs_syntax_vocabulary.specs.declared.terminal.Terminal.{Terminal}
use Rattle.qs_syntax_vocabulary.specs.declared.terminal.Terminal.TheVariants.{Name, Text, Punctuator}
use Rattle.qs_syntax_vocabulary.specs.declared.punctuator.Punctuator.TheVariants as punctuators
use Rattle.qs_syntax_vocabulary.specs.declared.operators.UnaryOperator.{UnaryOperator}
use Rattle.qs_syntax_vocabulary.specs.declared.operators.BinaryOperator.{BinaryOperator}
use Rattle.qs_syntax_vocabulary.specs.declared.operators.AssignmentOperator.{AssignmentOperator}
use Rattle.qs_syntax_vocabulary.specs.declared.operators.Access.{Access}
use Rattle.qs_syntax_vocabulary.specs.declared.operators.StepOperator.TheVariants as steps
use Rattle.qs_syntax.specs.declared.types.TypeName.{TypeName}
use Rattle.qs_syntax_vocabulary.specs.Operators.{punctuator_of_binary, precedence, weakest, punctuator_of_assign, punctuator_of_access}
use Rattle.qs_syntax.specs.Trees.{unnumbered, ExprTree, expr, constant, text, name, unary, step, cast, sizeof_type, sizeof_expr, binary, assign, conditional, comma, subscript, member, call, Exprs, no_exprs, expr_and}
use Rattle.qs_syntax.specs.Reads.{Form, Postfix, Unary, Level, Conditional, Assignment, Expression, at_first, no_text, Reads, a_name, an_empty_call, a_call, a_constant, a_text, in_parentheses, an_index, a_member, an_increment_after, a_decrement_after, a_postfix, an_increment, a_decrement, an_operator, a_size_of_type, a_size_of_value, a_cast, an_operand, stronger, an_operation, a_plain_level, a_choice, a_plain_conditional, an_assignment, a_plain_assignment, a_comma, ReadsArguments, a_last_argument, an_argument}
use Rattle.qs_print.specs.Levels.{level}
use Rattle.qs_print.specs.Printed.{parentheses_unless, printed_expr, printed_part, printed_arguments, further_arguments, printed_type_name}
use Rattle.qs_syntax.specs.WithoutTokens.{plain_expr, plain_exprs}
use Rattle.qs_print.proofs.Rereading.{fits, Fit, not_in, behind_it, any_name, Again, Reread, seen, seen_append, behind, enclosed, type_name_reads}
use Rattle.qs_print.proofs.PrintedTerminals.{left, right}
use Rattle.qs_syntax_vocabulary.specs.Marks.{NameSet, is_in}
use Rattle.qs_syntax.specs.ReadsTypes.{ReadsTypeName}
use Rattle.qs_syntax_vocabulary.proofs.OperatorLaws.{precedence_within}

-- ---- forms by their levels

abbrev pub form_at : ℕ → Form
form_at zero = Postfix
form_at (suc zero) = Unary
form_at (suc (suc zero)) = Level 0
form_at (suc (suc (suc zero))) = Level 1
form_at (suc (suc (suc (suc zero)))) = Level 2
form_at (suc (suc (suc (suc (suc zero))))) = Level 3
form_at (suc (suc (suc (suc (suc (suc zero)))))) = Level 4
form_at (suc (suc (suc (suc (suc (suc (suc zero))))))) = Level 5
form_at (suc (suc (suc (suc (suc (suc (suc (suc zero)))))))) = Level 6
form_at (suc (suc (suc (suc (suc (suc (suc (suc (suc zero))))))))) = Level 7
form_at (suc (suc (suc (suc (suc (suc (suc (suc (suc (suc zero)))))))))) = Level 8
form_at (suc (suc (suc (suc (suc (suc (suc (suc (suc (suc (suc zero))))))))))) = Level 9
form_at (suc (suc (suc (suc (suc (suc (suc (suc (suc (suc (suc (suc zero)))))))))))) = Level weakest
form_at (suc (suc (suc (suc (suc (suc (suc (suc (suc (suc (suc (suc (suc zero))))))))))))) = Conditional
form_at (suc (suc (suc (suc (suc (suc (suc (suc (suc (suc (suc (suc (suc (suc zero)))))))))))))) = Assignment
form_at (suc (suc (suc (suc (suc (suc (suc (suc (suc (suc (suc (suc (suc (suc (suc w))))))))))))))) = Expression

abbrev pub level_of : Form → ℕ
level_of Postfix = 0
level_of Unary = 1
level_of (Level j) = suc (suc j)
level_of Conditional = 13
level_of Assignment = 14
level_of Expression = 15

abbrev pub IsForm : Form → Type 0
IsForm Postfix = Unit {0}
IsForm Unary = Unit {0}
IsForm (Level j) = j ≤ weakest
IsForm Conditional = Unit {0}
IsForm Assignment = Unit {0}
IsForm Expression = Unit {0}

level_form : (j : ℕ) → j ≤ weakest → form_at (suc (suc j)) ≡ Level j
level_form zero le = refl
level_form (suc zero) le = refl
level_form (suc (suc zero)) le = refl
level_form (suc (suc (suc zero))) le = refl
level_form (suc (suc (suc (suc zero)))) le = refl
level_form (suc (suc (suc (suc (suc zero))))) le = refl
level_form (suc (suc (suc (suc (suc (suc zero)))))) le = refl
level_form (suc (suc (suc (suc (suc (suc (suc zero))))))) le = refl
level_form (suc (suc (suc (suc (suc (suc (suc (suc zero)))))))) le = refl
level_form (suc (suc (suc (suc (suc (suc (suc (suc (suc zero))))))))) le = refl
level_form (suc (suc (suc (suc (suc (suc (suc (suc (suc (suc zero)))))))))) le = refl
level_form (suc (suc (suc (suc (suc (suc (suc (suc (suc (suc (suc j))))))))))) le = absurd (omega arith)

up : (w : ℕ) {h : ℕ} {ts : List Terminal} {e : ExprTree} → Reads (form_at w) h ts e → Reads (form_at (suc w)) h ts e
up zero r = a_postfix r
up (suc zero) r = an_operand r
up (suc (suc zero)) r = stronger r
up (suc (suc (suc zero))) r = stronger r
up (suc (suc (suc (suc zero)))) r = stronger r
up (suc (suc (suc (suc (suc zero))))) r = stronger r
up (suc (suc (suc (suc (suc (suc zero)))))) r = stronger r
up (suc (suc (suc (suc (suc (suc (suc zero))))))) r = stronger r
up (suc (suc (suc (suc (suc (suc (suc (suc zero)))))))) r = stronger r
up (suc (suc (suc (suc (suc (suc (suc (suc (suc zero))))))))) r = stronger r
up (suc (suc (suc (suc (suc (suc (suc (suc (suc (suc zero)))))))))) r = stronger r
up (suc (suc (suc (suc (suc (suc (suc (suc (suc (suc (suc zero))))))))))) r = stronger r
up (suc (suc (suc (suc (suc (suc (suc (suc (suc (suc (suc (suc zero)))))))))))) r = a_plain_level r
up (suc (suc (suc (suc (suc (suc (suc (suc (suc (suc (suc (suc (suc zero))))))))))))) r = a_plain_conditional r
up (suc (suc (suc (suc (suc (suc (suc (suc (suc (suc (suc (suc (suc (suc zero)))))))))))))) r = a_plain_assignment r
up (suc (suc (suc (suc (suc (suc (suc (suc (suc (suc (suc (suc (suc (suc (suc w))))))))))))))) r = r

raise : (v w : ℕ) {h : ℕ} {ts : List Terminal} {e : ExprTree} → w ≤ v → Reads (form_at w) h ts e → Reads (form_at v) h ts e
raise v w {h} {ts} {e} le r = subst (λ n. Reads (form_at n) h ts e) (omega arith) (add (v - w) r)
  where
    add : (n : ℕ) → Reads (form_at w) h ts e → Reads (form_at (n + w)) h ts e
    add zero r = subst (λ n. Reads (form_at n) h ts e) (omega arith) r
    add (suc n) r = let q : suc (n + w) ≡ suc n + w = omega arith in subst (λ n. Reads (form_at n) h ts e) q (up (n + w) (add n r))

module _ (set : NameSet) where
  -- ---- the claim

  abbrev Readable : Form → ℕ → List Terminal → ExprTree → Type 0
  Readable form h ls e = Reread set (Reads form) plain_expr h ls e

  -- the height with parentheses, where they are needed
  abbrev wrapped : Bool → ℕ → ℕ
  wrapped true h = h
  wrapped false h = suc h

  wrapped_least : (b : Bool) (h : ℕ) → h ≤ wrapped b h
  wrapped_least true h = omega arith
  wrapped_least false h = omega arith

  wrapped_most : (b : Bool) (h : ℕ) → wrapped b h ≤ suc h
  wrapped_most true h = omega arith
  wrapped_most false h = omega arith

  wrapped_weaker : (t v w h : ℕ) → v ≤ w → wrapped (nat_le t w) h ≤ wrapped (nat_le t v) h
  wrapped_weaker t v w h le = go (nat_le t v) (λ b. le-leb t w (omega (arith, leb-true t v b)))
    where
      go : (b : Bool) → (b ≡ true → nat_le t w ≡ true) → wrapped (nat_le t w) h ≤ wrapped b h
      go true e = rw (e refl) (omega arith)
      go false e = wrapped_most (nat_le t w) h

  -- without parentheses it is read in the form of its level; in this one, with parentheses where they are needed, no higher than h
  pub record Law (most h : ℕ) (e : ExprTree) : Type 0 where
    pub own : ℕ
    pub natural : Readable (form_at (level e)) own (printed_expr e) e
    pub strong : level e ≤ 15
    pub fits : wrapped (nat_le (level e) most) own ≤ h

  raised : (v w h k : ℕ) (ls : List Terminal) (e : ExprTree) → w ≤ v → h ≤ k → Readable (form_at w) h ls e → Readable (form_at v) k ls e
  raised v w h k ls e le low r = record { from = λ n. let a : Again (Reads (form_at w)) plain_expr h (seen set n ls) e = r.from n in record { height = a.height; tree = a.tree; reads = raise v w le a.reads; low = omega arith; same = a.same } }

  -- as an expression
  pub whole : (h : ℕ) (e : ExprTree) → Law 15 h e → Readable Expression h (printed_expr e) e
  whole h e l = raised 15 (level e) l.own h (printed_expr e) e l.strong (omega (arith, wrapped_least (nat_le (level e) 15) l.own, l.fits)) l.natural

  closed : (h : ℕ) (ls : List Terminal) (e : ExprTree) → Readable Expression h ls e → Readable Postfix (suc h) (parentheses_unless false ls) e
  closed h ls e r = record {
    from = λ n.
        let a : Again (Reads Expression) plain_expr h (seen set (n + 1) ls) e = r.from (n + 1) in
        rw (seen_append set (n + 1) ls (Punctuator 0 punctuators.CloseParenthesis ∷ [])) (record { height = suc a.height; tree = a.tree; reads = in_parentheses n (n + 1 + length ls) a.reads; low = omega arith; same = a.same });
  }

  -- in the form of a level
  pub part : (most h : ℕ) (e : ExprTree) → Law most h e → Readable (form_at most) h (printed_part most e) e
  part most h e l = go (nat_le (level e) most) (λ b. leb-true (level e) most b) l.fits
    where
      go : (b : Bool) → (b ≡ true → level e ≤ most) → wrapped b l.own ≤ h → Readable (form_at most) h (parentheses_unless b (printed_expr e)) e
      go true le low = raised most (level e) l.own h (printed_expr e) e (le refl) low l.natural
      go false le low = raised most 0 (suc l.own) h (parentheses_unless false (printed_expr e)) e (omega arith) low (closed l.own (printed_expr e) e (raised 15 (level e) l.own l.own (printed_expr e) e l.strong (omega arith) l.natural))

  exact : (most h : ℕ) (e : ExprTree) → level e ≤ most → most ≤ 15 → Readable (form_at (level e)) h (printed_expr e) e → Law most h e
  exact most h e le top r = record { own = h; natural = r; strong = omega arith; fits = rw (le-leb (level e) most le) (omega arith) }

  weaker : (v w h : ℕ) (e : ExprTree) → v ≤ w → Law v h e → Law w h e
  weaker v w h e le l = record { own = l.own; natural = l.natural; strong = l.strong; fits = omega (arith, l.fits, wrapped_weaker (level e) v w l.own le) }

  abbrev pub at_part : (most h n : ℕ) (e : ExprTree) → Type 0
  at_part most h n e = Again (Reads (form_at most)) plain_expr h (seen set n (printed_part most e)) e

  abbrev pub at_whole : (h n : ℕ) (e : ExprTree) → Type 0
  at_whole h n e = Again (Reads Expression) plain_expr h (seen set n (printed_expr e)) e

  -- ---- productions

  name_law : (at : ℕ) (x : List ℕ) → is_in set x ≡ false → Law 0 1 (expr (unnumbered at) (name x))
  name_law at x out = exact 0 1 (expr (unnumbered at) (name x)) (omega arith) (omega arith) (record { from = λ n. rw out (record { height = 1; tree = expr (unnumbered n) (name x); reads = a_name n x; low = omega arith; same = refl }) })

  constant_law : (at v : ℕ) (u : Bool) → Law 0 1 (expr (unnumbered at) (constant v u))
  constant_law at v u = exact 0 1 (expr (unnumbered at) (constant v u)) (omega arith) (omega arith) (record { from = λ n. record { height = 1; tree = expr (unnumbered n) (constant v u); reads = a_constant n v u; low = omega arith; same = refl } })

  text_law : (at : ℕ) (bytes : List ℕ) → Law 0 1 (expr (unnumbered at) (text bytes))
  text_law at bytes =
      exact 0 1 (expr (unnumbered at) (text bytes)) (omega arith) (omega arith)
      (record { from = λ n. record { height = 1; tree = expr (unnumbered n) (text bytes); reads = subst (λ b. Reads Postfix 1 (Text n bytes ∷ []) (expr (unnumbered n) (text b))) (append-nil bytes) (a_text n bytes no_text); low = omega arith; same = refl } })

  empty_call_law : (at : ℕ) (f : List ℕ) → is_in set f ≡ false → Law 0 1 (expr (unnumbered at) (call f no_exprs))
  empty_call_law at f out =
      exact 0 1 (expr (unnumbered at) (call f no_exprs)) (omega arith) (omega arith) (record { from = λ n. rw out (record { height = 1; tree = expr (unnumbered n) (call f no_exprs); reads = an_empty_call n (n + 1) (n + 1 + 1) f; low = omega arith; same = refl }) })

  call_law : (h at : ℕ) (f : List ℕ) (es : Exprs) → is_in set f ≡ false → Reread set ReadsArguments plain_exprs h (printed_arguments es) es → Law 0 (suc h) (expr (unnumbered at) (call f es))
  call_law h at f es out r =
      exact 0 (suc h) (expr (unnumbered at) (call f es)) (omega arith) (omega arith) (record {
        from = λ n.
            let a : Again ReadsArguments plain_exprs h (seen set (n + 1 + 1) (printed_arguments es)) es = r.from (n + 1 + 1) in
            rw (out, seen_append set (n + 1 + 1) (printed_arguments es) (Punctuator 0 punctuators.CloseParenthesis ∷ []))
            (record { height = suc a.height; tree = expr (unnumbered n) (call f a.tree); reads = a_call n (n + 1) (n + 1 + 1 + length (printed_arguments es)) f a.reads; low = omega arith; same = ap (λ x. expr (unnumbered 0) (call f x)) a.same });
      })

  parentheses_law : (h : ℕ) (e : ExprTree) → Law 15 h e → Law 0 (suc h) e
  parentheses_law h e l =
      record { own = l.own; natural = l.natural; strong = l.strong; fits = omega (arith, l.fits, wrapped_least (nat_le (level e) 15) l.own, wrapped_most (nat_le (level e) 0) l.own) }

  subscript_law : (h k at : ℕ) (a b : ExprTree) → Law 0 h a → Law 15 k b → Law 0 (suc (max h k)) (expr (unnumbered at) (subscript a b))
  subscript_law h k at a b la lb =
      exact 0 (suc (max h k)) (expr (unnumbered at) (subscript a b)) (omega arith) (omega arith) (record {
        from = λ n.
            let m : ℕ = n + length (printed_part 0 a) in
            let p : at_part 0 h n a = (part 0 h a la).from n in
            let q : at_whole k (m + 1) b = (whole k b lb).from (m + 1) in
            rw (seen_append set n (printed_part 0 a) (Punctuator 0 punctuators.OpenBracket ∷ (printed_expr b ++ Punctuator 0 punctuators.CloseBracket ∷ [])), seen_append set (m + 1) (printed_expr b) (Punctuator 0 punctuators.CloseBracket ∷ []))
            (record {
              height = suc (max p.height q.height);
              tree = at_first (seen set n (printed_part 0 a)) (subscript p.tree q.tree);
              reads = an_index m (m + 1 + length (printed_expr b)) p.reads q.reads;
              low = omega arith;
              same = rw (p.same, q.same) refl;
            });
      })

  member_law : (h at : ℕ) (access : Access) (a : ExprTree) (x : List ℕ) → Law 0 h a → Law 0 (suc h) (expr (unnumbered at) (member access a x))
  member_law h at access a x la =
      exact 0 (suc h) (expr (unnumbered at) (member access a x)) (omega arith) (omega arith) (record {
        from = λ n.
            let m : ℕ = n + length (printed_part 0 a) in
            let p : at_part 0 h n a = (part 0 h a la).from n in
            rw (seen_append set n (printed_part 0 a) (Punctuator 0 (punctuator_of_access access) ∷ Name 0 x ∷ []))
            (record { height = suc p.height; tree = at_first (seen set n (printed_part 0 a)) (member access p.tree x); reads = a_member access m p.reads (any_name set (m + 1) x); low = omega arith; same = ap (λ b. expr (unnumbered 0) (member access b x)) p.same });
      })

  increment_after_law : (h at : ℕ) (a : ExprTree) → Law 0 h a → Law 0 (suc h) (expr (unnumbered at) (step steps.IncrementAfter a))
  increment_after_law h at a la =
      exact 0 (suc h) (expr (unnumbered at) (step steps.IncrementAfter a)) (omega arith) (omega arith) (record {
        from = λ n.
            let p : at_part 0 h n a = (part 0 h a la).from n in
            rw (seen_append set n (printed_part 0 a) (Punctuator 0 punctuators.Increment ∷ []))
            (record { height = suc p.height; tree = at_first (seen set n (printed_part 0 a)) (step steps.IncrementAfter p.tree); reads = an_increment_after (n + length (printed_part 0 a)) p.reads; low = omega arith; same = ap (λ b. expr (unnumbered 0) (step steps.IncrementAfter b)) p.same });
      })

  decrement_after_law : (h at : ℕ) (a : ExprTree) → Law 0 h a → Law 0 (suc h) (expr (unnumbered at) (step steps.DecrementAfter a))
  decrement_after_law h at a la =
      exact 0 (suc h) (expr (unnumbered at) (step steps.DecrementAfter a)) (omega arith) (omega arith) (record {
        from = λ n.
            let p : at_part 0 h n a = (part 0 h a la).from n in
            rw (seen_append set n (printed_part 0 a) (Punctuator 0 punctuators.Decrement ∷ []))
            (record { height = suc p.height; tree = at_first (seen set n (printed_part 0 a)) (step steps.DecrementAfter p.tree); reads = a_decrement_after (n + length (printed_part 0 a)) p.reads; low = omega arith; same = ap (λ b. expr (unnumbered 0) (step steps.DecrementAfter b)) p.same });
      })

  increment_law : (h at : ℕ) (a : ExprTree) → Law 1 h a → Law 1 (suc h) (expr (unnumbered at) (step steps.IncrementBefore a))
  increment_law h at a la =
      exact 1 (suc h) (expr (unnumbered at) (step steps.IncrementBefore a)) (omega arith) (omega arith) (record {
        from = λ n.
            let p : at_part 1 h (n + 1) a = (part 1 h a la).from (n + 1) in
            record { height = suc p.height; tree = expr (unnumbered n) (step steps.IncrementBefore p.tree); reads = an_increment n p.reads; low = omega arith; same = ap (λ b. expr (unnumbered 0) (step steps.IncrementBefore b)) p.same };
      })

  decrement_law : (h at : ℕ) (a : ExprTree) → Law 1 h a → Law 1 (suc h) (expr (unnumbered at) (step steps.DecrementBefore a))
  decrement_law h at a la =
      exact 1 (suc h) (expr (unnumbered at) (step steps.DecrementBefore a)) (omega arith) (omega arith) (record {
        from = λ n.
            let p : at_part 1 h (n + 1) a = (part 1 h a la).from (n + 1) in
            record { height = suc p.height; tree = expr (unnumbered n) (step steps.DecrementBefore p.tree); reads = a_decrement n p.reads; low = omega arith; same = ap (λ b. expr (unnumbered 0) (step steps.DecrementBefore b)) p.same };
      })

  operator_law : (h at : ℕ) (operator : UnaryOperator) (a : ExprTree) → Law 2 h a → Law 1 (suc h) (expr (unnumbered at) (unary operator a))
  operator_law h at operator a la =
      exact 1 (suc h) (expr (unnumbered at) (unary operator a)) (omega arith) (omega arith) (record {
        from = λ n.
            let p : at_part 2 h (n + 1) a = (part 2 h a la).from (n + 1) in
            record { height = suc p.height; tree = expr (unnumbered n) (unary operator p.tree); reads = an_operator operator n p.reads; low = omega arith; same = ap (λ b. expr (unnumbered 0) (unary operator b)) p.same };
      })

  size_of_value_law : (h at : ℕ) (a : ExprTree) → Law 1 h a → Law 1 (suc h) (expr (unnumbered at) (sizeof_expr a))
  size_of_value_law h at a la =
      exact 1 (suc h) (expr (unnumbered at) (sizeof_expr a)) (omega arith) (omega arith) (record {
        from = λ n.
            let p : at_part 1 h (n + 1) a = (part 1 h a la).from (n + 1) in
            record { height = suc p.height; tree = expr (unnumbered n) (sizeof_expr p.tree); reads = a_size_of_value n p.reads; low = omega arith; same = ap (λ b. expr (unnumbered 0) (sizeof_expr b)) p.same };
      })

  size_of_type_law : {ts : List Terminal} (at : ℕ) (type : TypeName) → ReadsTypeName ts type → Fit set ts → Law 1 1 (expr (unnumbered at) (sizeof_type type))
  size_of_type_law at type t f =
      exact 1 1 (expr (unnumbered at) (sizeof_type type)) (omega arith) (omega arith) (record {
        from = λ n.
            rw (seen_append set (n + 1 + 1) (printed_type_name type) (Punctuator 0 punctuators.CloseParenthesis ∷ []))
            (record { height = 1; tree = expr (unnumbered n) (sizeof_type type); reads = a_size_of_type n (n + 1) (n + 1 + 1 + length (printed_type_name type)) (type_name_reads set t f (n + 1 + 1)); low = omega arith; same = refl });
      })

  cast_law : {ts : List Terminal} (h at : ℕ) (type : TypeName) (a : ExprTree) → ReadsTypeName ts type → Fit set ts → Law 2 h a → Law 2 (suc h) (expr (unnumbered at) (cast type a))
  cast_law h at type a t f la =
      exact 2 (suc h) (expr (unnumbered at) (cast type a)) (omega arith) (omega arith) (record {
        from = λ n.
            let m : ℕ = behind n (printed_type_name type) in
            let p : at_part 2 h m a = (part 2 h a la).from m in
            rw (enclosed set n (printed_type_name type) (printed_part 2 a))
            (record { height = suc p.height; tree = expr (unnumbered n) (cast type p.tree); reads = a_cast n (n + 1 + length (printed_type_name type)) (type_name_reads set t f (n + 1)) p.reads; low = omega arith; same = ap (λ b. expr (unnumbered 0) (cast type b)) p.same });
      })

  operation_law : (j h k at : ℕ) (operator : BinaryOperator) (a b : ExprTree) → precedence operator ≡ suc j → Law (suc (suc (suc j))) h a → Law (suc (suc j)) k b → Law (suc (suc (suc j))) (suc (max h k)) (expr (unnumbered at) (binary operator a b))
  operation_law j h k at operator a b e la lb =
      let most : precedence operator ≤ weakest = precedence_within operator in
      let left : suc (suc (suc j)) ≡ precedence operator + 2 = omega arith in
      let right : suc (suc j) ≡ precedence operator + 1 = omega arith in
      let top : form_at (precedence operator + 2) ≡ Level (suc j) = subst (λ l. form_at l ≡ Level (suc j)) left (level_form (suc j) (omega arith)) in
      let low : form_at (precedence operator + 1) ≡ Level j = subst (λ l. form_at l ≡ Level j) right (level_form j (omega arith)) in
      let ka : Law (precedence operator + 2) h a = subst (λ l. Law l h a) left la in
      let kb : Law (precedence operator + 1) k b = subst (λ l. Law l k b) right lb in
      exact (suc (suc (suc j))) (suc (max h k)) (expr (unnumbered at) (binary operator a b)) (omega arith) (omega arith) (record {
        from = λ n.
            let m : ℕ = n + length (printed_part (precedence operator + 2) a) in
            let p : at_part (precedence operator + 2) h n a = (part (precedence operator + 2) h a ka).from n in
            let q : at_part (precedence operator + 1) k (m + 1) b = (part (precedence operator + 1) k b kb).from (m + 1) in
            rw (seen_append set n (printed_part (precedence operator + 2) a) (Punctuator 0 (punctuator_of_binary operator) ∷ printed_part (precedence operator + 1) b))
            (record {
              height = suc (max p.height q.height);
              tree = at_first (seen set n (printed_part (precedence operator + 2) a)) (binary operator p.tree q.tree);
              reads = subst (λ f. Reads f (suc (max p.height q.height)) (seen set n (printed_part (precedence operator + 2) a) ++ Punctuator m (punctuator_of_binary operator) ∷ seen set (m + 1) (printed_part (precedence operator + 1) b)) (at_first (seen set n (printed_part (precedence operator + 2) a)) (binary operator p.tree q.tree))) (sym top)
                  (an_operation operator m e (subst (λ f. Reads f p.height (seen set n (printed_part (precedence operator + 2) a)) p.tree) top p.reads) (subst (λ f. Reads f q.height (seen set (m + 1) (printed_part (precedence operator + 1) b)) q.tree) low q.reads));
              low = omega arith;
              same = rw (p.same, q.same) refl;
            });
      })

  assignment_law : (h k at : ℕ) (operator : AssignmentOperator) (a b : ExprTree) → Law 1 h a → Law 14 k b → Law 14 (suc (max h k)) (expr (unnumbered at) (assign operator a b))
  assignment_law h k at operator a b la lb =
      exact 14 (suc (max h k)) (expr (unnumbered at) (assign operator a b)) (omega arith) (omega arith) (record {
        from = λ n.
            let m : ℕ = n + length (printed_part 1 a) in
            let p : at_part 1 h n a = (part 1 h a la).from n in
            let q : at_part 14 k (m + 1) b = (part 14 k b lb).from (m + 1) in
            rw (seen_append set n (printed_part 1 a) (Punctuator 0 (punctuator_of_assign operator) ∷ printed_part 14 b))
            (record { height = suc (max p.height q.height); tree = at_first (seen set n (printed_part 1 a)) (assign operator p.tree q.tree); reads = an_assignment operator m p.reads q.reads; low = omega arith; same = rw (p.same, q.same) refl });
      })

  comma_law : (h k at : ℕ) (a b : ExprTree) → Law 15 h a → Law 14 k b → Law 15 (suc (max h k)) (expr (unnumbered at) (comma a b))
  comma_law h k at a b la lb =
      exact 15 (suc (max h k)) (expr (unnumbered at) (comma a b)) (omega arith) (omega arith) (record {
        from = λ n.
            let m : ℕ = n + length (printed_expr a) in
            let p : at_whole h n a = (whole h a la).from n in
            let q : at_part 14 k (m + 1) b = (part 14 k b lb).from (m + 1) in
            rw (seen_append set n (printed_expr a) (Punctuator 0 punctuators.Comma ∷ printed_part 14 b))
            (record { height = suc (max p.height q.height); tree = at_first (seen set n (printed_expr a)) (comma p.tree q.tree); reads = a_comma m p.reads q.reads; low = omega arith; same = rw (p.same, q.same) refl });
      })

  conditional_law : (h k l at : ℕ) (a b c : ExprTree) → Law 12 h a → Law 15 k b → Law 13 l c → Law 13 (suc (max h (max k l))) (expr (unnumbered at) (conditional a b c))
  conditional_law h k l at a b c la lb lc =
      exact 13 (suc (max h (max k l))) (expr (unnumbered at) (conditional a b c)) (omega arith) (omega arith) (record {
        from = λ n.
            let m : ℕ = n + length (printed_part 12 a) in
            let i : ℕ = m + 1 + length (printed_expr b) in
            let p : at_part 12 h n a = (part 12 h a la).from n in
            let q : at_whole k (m + 1) b = (whole k b lb).from (m + 1) in
            let r : at_part 13 l (i + 1) c = (part 13 l c lc).from (i + 1) in
            rw (seen_append set n (printed_part 12 a) (Punctuator 0 punctuators.Question ∷ (printed_expr b ++ Punctuator 0 punctuators.Colon ∷ printed_part 13 c)), seen_append set (m + 1) (printed_expr b) (Punctuator 0 punctuators.Colon ∷ printed_part 13 c))
            (record {
              height = suc (max p.height (max q.height r.height));
              tree = at_first (seen set n (printed_part 12 a)) (conditional p.tree q.tree r.tree);
              reads = a_choice m i p.reads q.reads r.reads;
              low = omega arith;
              same = rw (p.same, q.same, r.same) refl;
            });
      })

  -- ---- arguments

  last_law : (h : ℕ) (e : ExprTree) → Law 14 h e → Reread set ReadsArguments plain_exprs h (printed_arguments (expr_and e no_exprs)) (expr_and e no_exprs)
  last_law h e l = record {
    from = λ n.
        let p : at_part 14 h n e = (part 14 h e l).from n in
        rw (append-nil (printed_part 14 e)) (record { height = p.height; tree = expr_and p.tree no_exprs; reads = a_last_argument p.reads; low = p.low; same = ap (λ x. expr_and x no_exprs) p.same });
  }

  further_law : (h k : ℕ) (e d : ExprTree) (es : Exprs) → Law 14 h e → Reread set ReadsArguments plain_exprs k (printed_arguments (expr_and d es)) (expr_and d es)
      → Reread set ReadsArguments plain_exprs (max h k) (printed_arguments (expr_and e (expr_and d es))) (expr_and e (expr_and d es))
  further_law h k e d es l r = record {
    from = λ n.
        let m : ℕ = n + length (printed_part 14 e) in
        let p : at_part 14 h n e = (part 14 h e l).from n in
        let q : Again ReadsArguments plain_exprs k (seen set (m + 1) (printed_arguments (expr_and d es))) (expr_and d es) = r.from (m + 1) in
        rw (seen_append set n (printed_part 14 e) (further_arguments (expr_and d es)))
        (record { height = max p.height q.height; tree = expr_and p.tree q.tree; reads = an_argument m p.reads q.reads; low = omega arith; same = rw (p.same, q.same) refl });
  }

  -- ---- all of them

  some : {h : ℕ} {ts : List Terminal} {es : Exprs} → ReadsArguments h ts es → es ≡ no_exprs → ⊥
  some (a_last_argument r) e = cc
  some (an_argument at r s) e = cc

  mutual
    pub law : {form : Form} {h : ℕ} {ts : List Terminal} {e : ExprTree} → Reads form h ts e → IsForm form → Fit set ts → Law (level_of form) h e
    law (a_name at x) ok f = name_law at x (not_in set at x [] f)
    law (an_empty_call at o c x) ok f = empty_call_law at x (not_in set at x (Punctuator o punctuators.OpenParenthesis ∷ Punctuator c punctuators.CloseParenthesis ∷ []) f)
    law (a_call {h = h} {ts = ts} {es = es} at o c x r) ok f =
        let close : List Terminal = Punctuator c punctuators.CloseParenthesis ∷ [] in
        let behind : List Terminal = Punctuator o punctuators.OpenParenthesis ∷ (ts ++ close) in
        call_law h at x es (not_in set at x behind f) (arguments_law r (left (fits set) ts close (behind_it set (Name at x) behind f)))
    law (a_constant at v u) ok f = constant_law at v u
    law (a_text {bytes = bytes} at one r) ok f = text_law at (one ++ bytes)
    law (in_parentheses {h = h} {ts = ts} {e = e} o c r) ok f = parentheses_law h e (law r tt (left (fits set) ts _ f))
    law (an_index {h = h} {k = k} {xs = xs} {ys = ys} {a = a} {b = b} o c r s) ok f =
        subscript_law h k _ a b (law r tt (left (fits set) xs _ f)) (law s tt (left (fits set) ys _ (right (fits set) xs _ f)))
    law (a_member {h = h} {xs = xs} {a = a} {x = x} access d r n) ok f = member_law h _ access a x (law r tt (left (fits set) xs _ f))
    law (an_increment_after {h = h} {xs = xs} {a = a} s r) ok f = increment_after_law h _ a (law r tt (left (fits set) xs _ f))
    law (a_decrement_after {h = h} {xs = xs} {a = a} s r) ok f = decrement_after_law h _ a (law r tt (left (fits set) xs _ f))
    law (a_postfix {h = h} {e = e} r) ok f = weaker 0 1 h e (omega arith) (law r tt f)
    law (an_increment {h = h} {e = e} at r) ok f = increment_law h at e (law r tt f)
    law (a_decrement {h = h} {e = e} at r) ok f = decrement_law h at e (law r tt f)
    law (an_operator {h = h} {e = e} operator at r) ok f = operator_law h at operator e (law r (omega arith) f)
    law (a_size_of_type {ts = ts} {type = type} at o c t) ok f = size_of_type_law at type t (left (fits set) ts _ f)
    law (a_size_of_value {h = h} {e = e} at r) ok f = size_of_value_law h at e (law r tt f)
    law (a_cast {h = h} {ts = ts} {type = type} {e = e} at c t r) ok f = cast_law h at type e t (left (fits set) ts _ f) (law r (omega arith) (right (fits set) ts _ f))
    law (an_operand {h = h} {e = e} r) ok f = weaker 1 2 h e (omega arith) (law r tt f)
    law (stronger {j = j} {h = h} {e = e} r) ok f = weaker (suc (suc j)) (suc (suc (suc j))) h e (omega arith) (law r (omega arith) f)
    law (an_operation {j = j} {h = h} {k = k} {xs = xs} {a = a} {b = b} operator at w r s) ok f = operation_law j h k _ operator a b w (law r ok (left (fits set) xs _ f)) (law s (omega arith) (right (fits set) xs _ f))
    law (a_plain_level {h = h} {e = e} r) ok f = weaker 12 13 h e (omega arith) (law r (omega arith) f)
    law (a_choice {h = h} {k = k} {l = l} {xs = xs} {ys = ys} {a = a} {b = b} {c = c} q s r t u) ok f =
        conditional_law h k l _ a b c (law r (omega arith) (left (fits set) xs _ f)) (law t tt (left (fits set) ys _ (right (fits set) xs _ f))) (law u tt (right (fits set) ys _ (right (fits set) xs _ f)))
    law (a_plain_conditional {h = h} {e = e} r) ok f = weaker 13 14 h e (omega arith) (law r tt f)
    law (an_assignment {h = h} {k = k} {xs = xs} {a = a} {b = b} operator at r s) ok f = assignment_law h k _ operator a b (law r tt (left (fits set) xs _ f)) (law s tt (right (fits set) xs _ f))
    law (a_plain_assignment {h = h} {e = e} r) ok f = weaker 14 15 h e (omega arith) (law r tt f)
    law (a_comma {h = h} {k = k} {xs = xs} {a = a} {b = b} at r s) ok f = comma_law h k _ a b (law r tt (left (fits set) xs _ f)) (law s tt (right (fits set) xs _ f))

    arguments_law : {h : ℕ} {ts : List Terminal} {es : Exprs} → ReadsArguments h ts es → Fit set ts → Reread set ReadsArguments plain_exprs h (printed_arguments es) es
    arguments_law (a_last_argument {h = h} {e = e} r) f = last_law h e (law r tt f)
    arguments_law (an_argument {h = h} {k = k} {e = e} {es = no_exprs} at r s) f = absurd (some s refl)
    arguments_law (an_argument {h = h} {k = k} {xs = xs} {e = e} {es = expr_and d es} at r s) f = further_law h k e d es (law r tt (left (fits set) xs _ f)) (arguments_law s (right (fits set) xs _ f))
