-- With more room an expression is answered in the same way, but for what was too deep.
use Rattle.std.proofs.Common.{◌≡◌, ℕ, zero, suc, ◌<◌, ◌≤◌, Bool, true, false, cond, List, [], ◌∷◌, ◌++◌, length, Option, Some, None, refl, sym, arith, true≢false}
use Rattle.std.specs.Prelude.{max, nat_le, ◌==◌, ◌&&◌, is_some}
use Rattle.std.proofs.lemmas.Bool.{le-leb, leb-true, leb-false, or_parts, and_right, ne_eqb}
use Rattle.qs_syntax_vocabulary.specs.declared.terminal.Terminal.{Terminal}
use Rattle.qs_syntax_vocabulary.specs.declared.terminal.Terminal.TheVariants.{Name, TypeName, Keyword, Constant, Text, Punctuator}
use Rattle.qs_base.specs.declared.keyword.Keyword.TheVariants as keywords
use Rattle.qs_syntax_vocabulary.specs.declared.punctuator.Punctuator as punctuator
use Rattle.qs_syntax_vocabulary.specs.declared.punctuator.Punctuator.TheVariants as punctuators
use Rattle.qs_syntax_vocabulary.specs.declared.operators.UnaryOperator.{UnaryOperator}
use Rattle.qs_syntax_vocabulary.specs.declared.operators.BinaryOperator.{BinaryOperator}
use Rattle.qs_syntax_vocabulary.specs.declared.operators.AssignmentOperator.{AssignmentOperator}
use Rattle.qs_syntax_vocabulary.specs.declared.operators.Access.{Access}
use Rattle.qs_syntax_vocabulary.specs.declared.operators.StepOperator.{StepOperator}
use Rattle.qs_syntax_vocabulary.specs.declared.operators.StepOperator.TheVariants as steps
use Rattle.qs_syntax.specs.Trees.{ExprTree}
use Rattle.qs_syntax_vocabulary.specs.Operators.{weakest, unary_of, binary_of, assign_of, access_of, number_of}
use Rattle.qs_syntax.specs.Reads.{Form, Postfix, Unary, Level, Conditional, Assignment, Expression, place}
use Rattle.qs_parser_grammar.specs.Heads.{is_punctuator, is_keyword, starts, operator_at}
use Rattle.qs_parser_grammar.specs.Parse as parse
use Rattle.qs_parser_grammar.specs.Parse.{Parse, read_on, E, unexpected, deep, begins_one, begins_cast, starts_suffix, expect}
use Rattle.qs_parser_grammar.proofs.HeadsLaws.{punctuator_is}
use Rattle.qs_parser_grammar.proofs.MoreRoom.{DeepOrSame, DeepOrSame-refl, DeepOrSame-deep, DeepOrSame-read_on, DeepOrSame-then, DeepOrSame-last, DeepOrSame-above, DeepOrSame-some, DeepOrSame-cond}

module _ (m n : ℕ) (le : m ≤ n) (p q : Form → Parse E) (g : (form : Form) (ts : List Terminal) → DeepOrSame (p form ts) (q form ts)) where
  more_room_arguments : (k : ℕ) (es : List ExprTree) (h : ℕ) (ts : List Terminal) → DeepOrSame (parse.arguments m p k es h ts) (parse.arguments n q k es h ts)
  unfolding parse.arguments
  more_room_arguments zero es h ts = DeepOrSame-refl
  more_room_arguments (suc k) es h ts = DeepOrSame-read_on _ _ (g Assignment ts) (λ e us. DeepOrSame-cond (starts punctuators.CloseParenthesis us) DeepOrSame-refl (DeepOrSame-then (expect punctuators.Comma us) _ _ (λ _ vs. more_room_arguments k (es ++ e.0 ∷ []) (max h e.1) vs)))

  more_room_call : (at : ℕ) (f : List ℕ) (ts : List Terminal) → DeepOrSame (parse.call_of m p at f ts) (parse.call_of n q at f ts)
  more_room_call at f ts = DeepOrSame-cond (starts punctuators.CloseParenthesis ts) DeepOrSame-refl (DeepOrSame-last _ (more_room_arguments (length ts) [] 0 ts))

  more_room_name : (at : ℕ) (x : List ℕ) (ts : List Terminal) → DeepOrSame (parse.after_name m p at x ts) (parse.after_name n q at x ts)
  more_room_name at x ts = DeepOrSame-cond (starts punctuators.OpenParenthesis ts) (DeepOrSame-then (expect punctuators.OpenParenthesis ts) _ _ (λ _ us. more_room_call at x us)) DeepOrSame-refl

  more_room_primary : (ts : List Terminal) → DeepOrSame (parse.primary m p ts) (parse.primary n q ts)
  unfolding parse.primary
  more_room_primary [] = DeepOrSame-refl
  more_room_primary (Name at x ∷ ts) = more_room_name at x ts
  more_room_primary (TypeName at x ∷ ts) = DeepOrSame-refl
  more_room_primary (Keyword at k ∷ ts) = DeepOrSame-refl
  more_room_primary (Constant at k unsigned ∷ ts) = DeepOrSame-refl
  more_room_primary (Text at bytes ∷ ts) = DeepOrSame-refl
  more_room_primary (Punctuator at k ∷ ts) = DeepOrSame-cond (is_punctuator punctuators.OpenParenthesis (Punctuator at k)) (DeepOrSame-some (suc (length ts)) m n le (DeepOrSame-last _ (g Expression ts))) DeepOrSame-refl

  more_room_access : (start : ℕ) (a : E) (o : Option Access) (ts : List Terminal) → DeepOrSame (parse.access_at m p start a o ts) (parse.access_at n q start a o ts)
  more_room_access start a None ts = DeepOrSame-refl
  more_room_access start a (Some access) ts = DeepOrSame-refl

  more_room_suffix : (start : ℕ) (a : E) (ts : List Terminal) → DeepOrSame (parse.suffix m p start a ts) (parse.suffix n q start a ts)
  more_room_suffix start a [] = DeepOrSame-refl
  more_room_suffix start a (t ∷ ts) =
      DeepOrSame-cond (is_punctuator punctuators.OpenBracket t) (DeepOrSame-last _ (g Expression ts))
      (DeepOrSame-cond (is_punctuator punctuators.Increment t) DeepOrSame-refl
      (DeepOrSame-cond (is_punctuator punctuators.Decrement t) DeepOrSame-refl
      (more_room_access start a (operator_at access_of (t ∷ ts)) ts)))

  more_room_suffixes : (k start : ℕ) (a : E) (ts : List Terminal) → DeepOrSame (parse.suffixes m p k start a ts) (parse.suffixes n q k start a ts)
  unfolding parse.suffixes
  more_room_suffixes zero start a ts = DeepOrSame-refl
  more_room_suffixes (suc k) start a ts = DeepOrSame-cond (starts_suffix ts) (DeepOrSame-above (length ts) a.1 m n le (DeepOrSame-read_on _ _ (more_room_suffix start a ts) (λ b us. more_room_suffixes k start b us))) DeepOrSame-refl

  more_room_postfix : (ts : List Terminal) → DeepOrSame (parse.postfix m p ts) (parse.postfix n q ts)
  more_room_postfix ts = DeepOrSame-read_on _ _ (more_room_primary ts) (λ a us. more_room_suffixes (length us) (place ts) a us)

  -- ---- unary

  module _ (refused : (at : ℕ) (us : List Terminal) → 1 < n → begins_one us ≡ false → q Unary (Punctuator at punctuators.OpenParenthesis ∷ us) ≡ unexpected us) where
    refuses : (at : ℕ) (us : List Terminal) (f : E → Parse E) → 1 < n → (b : Bool) → begins_one us ≡ b → DeepOrSame (cond b (deep us) (unexpected us)) (read_on (q Unary (Punctuator at punctuators.OpenParenthesis ∷ us)) f)
    refuses at us f some true e = DeepOrSame-deep
    refuses at us f some false e = rw (refused at us some e) DeepOrSame-refl

    at_limit : (ts : List Terminal) (f : E → Parse E) → 1 < n → starts punctuators.OpenParenthesis ts ≡ true → DeepOrSame (parse.size_at_limit ts) (read_on (q Unary ts) f)
    at_limit [] f some e = absurd cc
    at_limit (t ∷ ts) f some e = rw (punctuator_is punctuators.OpenParenthesis t e) (refuses (number_of t) ts f some (begins_one ts) refl)

    more_room_valued : (at : ℕ) (ts : List Terminal) (f : E → Parse E) → DeepOrSame (cond (nat_le m 1 && starts punctuators.OpenParenthesis ts) (parse.size_at_limit ts) (read_on (p Unary ts) f)) (cond (nat_le n 1 && starts punctuators.OpenParenthesis ts) (parse.size_at_limit ts) (read_on (q Unary ts) f))
    more_room_valued at ts f = by_case (nat_le m 1) (nat_le n 1) (starts punctuators.OpenParenthesis ts) (λ e. le-leb m 1 (omega (arith, leb-true n 1 e))) (λ e. leb-false n 1 e) refl
      where
        by_case : (b c d : Bool) → (c ≡ true → b ≡ true) → (c ≡ false → 1 < n) → starts punctuators.OpenParenthesis ts ≡ d
            → DeepOrSame (cond (b && d) (parse.size_at_limit ts) (read_on (p Unary ts) f)) (cond (c && d) (parse.size_at_limit ts) (read_on (q Unary ts) f))
        by_case b c false lower more e = rw (and_right b false refl, and_right c false refl) (DeepOrSame-last f (g Unary ts))
        by_case true true true lower more e = DeepOrSame-refl
        by_case true false true lower more e = at_limit ts f (more refl) e
        by_case false true true lower more e = absurd (true≢false (sym (lower refl)))
        by_case false false true lower more e = DeepOrSame-last f (g Unary ts)

    more_room_size : (at : ℕ) (ts : List Terminal) → DeepOrSame (parse.size_of m p at ts) (parse.size_of n q at ts)
    more_room_size at ts = DeepOrSame-cond (begins_cast ts) DeepOrSame-refl (more_room_valued at ts _)

    more_room_operator : (at : ℕ) (o : Option UnaryOperator) (k : punctuator.Punctuator) (ts : List Terminal) → DeepOrSame (parse.unary_operator_at m p at o k ts) (parse.unary_operator_at n q at o k ts)
    more_room_operator at None k ts = more_room_postfix (Punctuator at k ∷ ts)
    more_room_operator at (Some operator) k ts = DeepOrSame-some (suc (length ts)) m n le (DeepOrSame-last _ (g (Level 0) ts))

    more_room_step : (at : ℕ) (operator : StepOperator) (ts : List Terminal) → DeepOrSame (parse.step_of m p at operator ts) (parse.step_of n q at operator ts)
    more_room_step at operator ts = DeepOrSame-last _ (g Unary ts)

    more_room_unary : (ts : List Terminal) → DeepOrSame (parse.unary_of_all m p ts) (parse.unary_of_all n q ts)
    unfolding parse.unary_of_all
    more_room_unary [] = DeepOrSame-refl
    more_room_unary (Name at x ∷ ts) = more_room_postfix (Name at x ∷ ts)
    more_room_unary (TypeName at x ∷ ts) = more_room_postfix (TypeName at x ∷ ts)
    more_room_unary (Keyword at k ∷ ts) = DeepOrSame-cond (is_keyword keywords.Sizeof (Keyword at k)) (more_room_size at ts) DeepOrSame-refl
    more_room_unary (Constant at k unsigned ∷ ts) = more_room_postfix (Constant at k unsigned ∷ ts)
    more_room_unary (Text at bytes ∷ ts) = more_room_postfix (Text at bytes ∷ ts)
    more_room_unary (Punctuator at k ∷ ts) =
        DeepOrSame-cond (is_punctuator punctuators.Increment (Punctuator at k)) (DeepOrSame-some (suc (length ts)) m n le (more_room_step at steps.IncrementBefore ts))
        (DeepOrSame-cond (is_punctuator punctuators.Decrement (Punctuator at k)) (DeepOrSame-some (suc (length ts)) m n le (more_room_step at steps.DecrementBefore ts))
        (more_room_operator at (unary_of k) k ts))

    more_room_cast : (at : ℕ) (ts : List Terminal) → DeepOrSame (parse.cast_of m p at ts) (parse.cast_of n q at ts)
    more_room_cast at ts = DeepOrSame-then (parse.type_name ts) _ _ (λ t us. DeepOrSame-then (expect punctuators.CloseParenthesis us) _ _ (λ _ vs. DeepOrSame-last _ (g (Level 0) vs)))

    more_room_cast_or_unary : (ts : List Terminal) → DeepOrSame (parse.cast_or_unary m p ts) (parse.cast_or_unary n q ts)
    more_room_cast_or_unary ts = DeepOrSame-cond (begins_cast ts) (DeepOrSame-some (length ts) m n le (DeepOrSame-then (expect punctuators.OpenParenthesis ts) _ _ (λ _ us. more_room_cast (place ts) us))) (more_room_unary ts)

    -- ---- operators between operands

    more_room_operation : (j start : ℕ) (a : E) (o : Option BinaryOperator) (f h : E → Parse E) → ((b : E) (us : List Terminal) → DeepOrSame (f b us) (h b us)) → (ts : List Terminal) → DeepOrSame (parse.operation_at m p j start a o f ts) (parse.operation_at n q j start a o h ts)
    more_room_operation j start a None f h others ts = DeepOrSame-refl
    more_room_operation j start a (Some operator) f h others [] = DeepOrSame-above 0 a.1 m n le DeepOrSame-refl
    more_room_operation j start a (Some operator) f h others (t ∷ ts) = DeepOrSame-above (suc (length ts)) a.1 m n le (DeepOrSame-read_on _ _ (g (Level j) ts) (λ b us. others _ us))

    more_room_operations : (k j start : ℕ) (a : E) (ts : List Terminal) → DeepOrSame (parse.operations m p k j start a ts) (parse.operations n q k j start a ts)
    unfolding parse.operations
    more_room_operations zero j start a ts = DeepOrSame-refl
    more_room_operations (suc k) j start a ts = more_room_operation j start a (parse.of_level m p j (operator_at binary_of ts)) _ _ (λ b us. more_room_operations k j start b us) ts

    more_room_climb : (j start : ℕ) (a : E) (ts : List Terminal) → DeepOrSame (parse.climb m p j start a ts) (parse.climb n q j start a ts)
    unfolding parse.climb
    more_room_climb zero start a ts = DeepOrSame-refl
    more_room_climb (suc j) start a ts = DeepOrSame-read_on _ _ (more_room_climb j start a ts) (λ b us. more_room_operations (length us) j start b us)

    more_room_after_or : (start : ℕ) (a : E) (ts : List Terminal) → DeepOrSame (parse.after_or m p start a ts) (parse.after_or n q start a ts)
    more_room_after_or start a ts =
        DeepOrSame-cond (starts punctuators.Question ts)
        (DeepOrSame-above (length ts) a.1 m n le (DeepOrSame-then (expect punctuators.Question ts) _ _ (λ _ us. DeepOrSame-read_on _ _ (g Expression us) (λ b vs. DeepOrSame-then (expect punctuators.Colon vs) _ _ (λ _ ws. DeepOrSame-last _ (g Conditional ws))))))
        DeepOrSame-refl

    more_room_after_operand : (start : ℕ) (a : E) (ts : List Terminal) → DeepOrSame (parse.after_operand m p start a ts) (parse.after_operand n q start a ts)
    more_room_after_operand start a ts = DeepOrSame-read_on _ _ (more_room_climb weakest start a ts) (λ b us. more_room_after_or start b us)

    more_room_assignment_of : (start : ℕ) (a : E) (o : Option AssignmentOperator) (ts : List Terminal) → DeepOrSame (parse.assignment_of m p start a o ts) (parse.assignment_of n q start a o ts)
    more_room_assignment_of start a None ts = more_room_after_operand start a ts
    more_room_assignment_of start a (Some operator) [] = DeepOrSame-refl
    more_room_assignment_of start a (Some operator) (t ∷ ts) = DeepOrSame-above (suc (length ts)) a.1 m n le (DeepOrSame-last _ (g Assignment ts))

    more_room_assignment : (ts : List Terminal) → DeepOrSame (parse.assignment m p ts) (parse.assignment n q ts)
    more_room_assignment ts =
        DeepOrSame-cond (begins_cast ts) (DeepOrSame-read_on _ _ (more_room_cast_or_unary ts) (λ a us. more_room_after_operand (place ts) a us))
        (DeepOrSame-read_on _ _ (more_room_unary ts) (λ a us. more_room_assignment_of (place ts) a (operator_at assign_of us) us))

    more_room_commas : (k start : ℕ) (a : E) (ts : List Terminal) → DeepOrSame (parse.commas m p k start a ts) (parse.commas n q k start a ts)
    unfolding parse.commas
    more_room_commas zero start a ts = DeepOrSame-refl
    more_room_commas (suc k) start a ts =
        DeepOrSame-cond (starts punctuators.Comma ts) (DeepOrSame-above (length ts) a.1 m n le (DeepOrSame-then (expect punctuators.Comma ts) _ _ (λ _ us. DeepOrSame-read_on _ _ (g Assignment us) (λ b vs. more_room_commas k start _ vs)))) DeepOrSame-refl

    pub more_room_expression : (form : Form) (ts : List Terminal) → DeepOrSame (parse.expression m p form ts) (parse.expression n q form ts)
    unfolding parse.expression
    more_room_expression Postfix ts = more_room_postfix ts
    more_room_expression Unary ts = more_room_unary ts
    more_room_expression (Level j) ts = DeepOrSame-read_on _ _ (more_room_cast_or_unary ts) (λ a us. more_room_climb j (place ts) a us)
    more_room_expression Conditional ts = DeepOrSame-read_on _ _ (more_room_cast_or_unary ts) (λ a us. more_room_after_operand (place ts) a us)
    more_room_expression Assignment ts = more_room_assignment ts
    more_room_expression Expression ts = DeepOrSame-read_on _ _ (more_room_assignment ts) (λ a us. more_room_commas (length us) (place ts) a us)

-- ---- what begins no expression

no_operator : (o : Option UnaryOperator) → is_some o ≡ false → o ≡ None
no_operator None e = refl
no_operator (Some operator) e = absurd cc

record NotBegun (at : ℕ) (k : punctuator.Punctuator) : Type 0 where
  no_unary : unary_of k ≡ None
  no_parenthesis : is_punctuator punctuators.OpenParenthesis (Punctuator at k) ≡ false
  no_increment : is_punctuator punctuators.Increment (Punctuator at k) ≡ false
  no_decrement : is_punctuator punctuators.Decrement (Punctuator at k) ≡ false

not_begun_by : (at : ℕ) (k : punctuator.Punctuator) (ts : List Terminal) → begins_one (Punctuator at k ∷ ts) ≡ false → NotBegun at k
not_begun_by at k ts e =
    let first = or_parts (is_some (unary_of k)) _ e in
    let second = or_parts (is_punctuator punctuators.OpenParenthesis (Punctuator at k)) _ first.1 in
    let third = or_parts (is_punctuator punctuators.Increment (Punctuator at k)) _ second.1 in
    record { no_unary = no_operator (unary_of k) first.0; no_parenthesis = second.0; no_increment = third.0; no_decrement = third.1 }

pub not_begun : (n : ℕ) (form : Form) (ts : List Terminal) → begins_one ts ≡ false → parse.part n form ts ≡ unexpected ts
unfolding parse.part parse.expression parse.primary parse.unary_of_all
not_begun zero form ts e = rw e refl
not_begun (suc n) Postfix [] e = refl
not_begun (suc n) Unary [] e = refl
not_begun (suc n) (Level j) [] e = refl
not_begun (suc n) Conditional [] e = refl
not_begun (suc n) Assignment [] e = refl
not_begun (suc n) Expression [] e = refl
not_begun (suc n) form (Name at x ∷ ts) e = absurd cc
not_begun (suc n) form (Constant at x unsigned ∷ ts) e = absurd cc
not_begun (suc n) form (Text at bytes ∷ ts) e = absurd cc
not_begun (suc n) Postfix (TypeName at x ∷ ts) e = refl
not_begun (suc n) Unary (TypeName at x ∷ ts) e = refl
not_begun (suc n) (Level j) (TypeName at x ∷ ts) e = refl
not_begun (suc n) Conditional (TypeName at x ∷ ts) e = refl
not_begun (suc n) Assignment (TypeName at x ∷ ts) e = refl
not_begun (suc n) Expression (TypeName at x ∷ ts) e = refl
not_begun (suc n) Postfix (Keyword at k ∷ ts) e = refl
not_begun (suc n) Unary (Keyword at k ∷ ts) e = rw e refl
not_begun (suc n) (Level j) (Keyword at k ∷ ts) e = rw e refl
not_begun (suc n) Conditional (Keyword at k ∷ ts) e = rw e refl
not_begun (suc n) Assignment (Keyword at k ∷ ts) e = rw e refl
not_begun (suc n) Expression (Keyword at k ∷ ts) e = rw e refl
not_begun (suc n) Postfix (Punctuator at k ∷ ts) e = let none = not_begun_by at k ts e in rw none.no_parenthesis refl
not_begun (suc n) Unary (Punctuator at k ∷ ts) e = let none = not_begun_by at k ts e in rw (none.no_increment, none.no_decrement, none.no_unary, none.no_parenthesis) refl
not_begun (suc n) (Level j) (Punctuator at k ∷ ts) e = let none = not_begun_by at k ts e in rw (none.no_parenthesis, none.no_increment, none.no_decrement, none.no_unary, none.no_parenthesis) refl
not_begun (suc n) Conditional (Punctuator at k ∷ ts) e = let none = not_begun_by at k ts e in rw (none.no_parenthesis, none.no_increment, none.no_decrement, none.no_unary, none.no_parenthesis) refl
not_begun (suc n) Assignment (Punctuator at k ∷ ts) e = let none = not_begun_by at k ts e in rw (none.no_parenthesis, none.no_increment, none.no_decrement, none.no_unary, none.no_parenthesis) refl
not_begun (suc n) Expression (Punctuator at k ∷ ts) e = let none = not_begun_by at k ts e in rw (none.no_parenthesis, none.no_increment, none.no_decrement, none.no_unary, none.no_parenthesis) refl

more_room_none : (n : ℕ) (form : Form) (ts : List Terminal) → DeepOrSame (parse.part zero form ts) (parse.part n form ts)
unfolding parse.part
more_room_none n form ts = by_case (begins_one ts) refl
  where
    by_case : (b : Bool) → begins_one ts ≡ b → DeepOrSame (cond b (deep ts) (unexpected ts)) (parse.part n form ts)
    by_case true e = DeepOrSame-deep
    by_case false e = rw (not_begun n form ts e) DeepOrSame-refl

opens_nothing : (n at : ℕ) (us : List Terminal) → 1 < n → begins_one us ≡ false → parse.part n Unary (Punctuator at punctuators.OpenParenthesis ∷ us) ≡ unexpected us
unfolding parse.part parse.expression parse.primary parse.unary_of_all
opens_nothing zero at us some e = absurd (omega arith)
opens_nothing (suc zero) at us some e = absurd (omega arith)
opens_nothing (suc (suc n)) at us some e = let room : (suc n == 0) ≡ false = ne_eqb (suc n) 0 (λ e. omega arith) in rw (room, not_begun (suc n) Expression us e) refl

pub more_room_part : (m n : ℕ) → m ≤ n → (form : Form) (ts : List Terminal) → DeepOrSame (parse.part m form ts) (parse.part n form ts)
unfolding parse.part
more_room_part zero n le form ts = more_room_none n form ts
more_room_part (suc m) zero le form ts = absurd (omega arith)
more_room_part (suc m) (suc n) le form ts = more_room_expression m n (omega arith) (parse.part m) (parse.part n) (λ form ts. more_room_part m n (omega arith) form ts) (opens_nothing n) form ts
