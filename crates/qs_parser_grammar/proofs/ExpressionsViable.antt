-- The tokens before a fault in a type or an expression begin one that is low enough.
use Rattle.std.proofs.Common.{◌≡◌, ℕ, zero, suc, ◌+◌, ◌<◌, ◌≤◌, Bool, true, false, cond, List, [], ◌∷◌, ◌++◌, length, Err, Ok, Option, Some, None, refl, sym, ap, subst, ◌∙◌, append_assoc, append-nil, add-one, arith, true≢false}
use Rattle.std.specs.Prelude.{max, nat_le, ◌==◌, ◌&&◌, ◌||◌, is_some}
use Rattle.qs_syntax_vocabulary.specs.declared.terminal.Terminal.{Terminal}
use Rattle.qs_syntax_vocabulary.specs.declared.terminal.Terminal.TheVariants.{Name, Keyword, Constant, Text, Punctuator}
use Rattle.qs_syntax_vocabulary.specs.declared.terminal.Terminal.TheVariants as terminals
use Rattle.qs_base.specs.declared.keyword.Keyword.TheVariants as keywords
use Rattle.qs_syntax_vocabulary.specs.declared.punctuator.Punctuator as punctuator
use Rattle.qs_syntax_vocabulary.specs.declared.punctuator.Punctuator.TheVariants as punctuators
use Rattle.qs_syntax.specs.declared.types.Base.{Base}
use Rattle.qs_syntax.specs.declared.types.TypeName.{TypeName}
use Rattle.qs_syntax_vocabulary.specs.declared.operators.UnaryOperator.{UnaryOperator}
use Rattle.qs_syntax_vocabulary.specs.declared.operators.BinaryOperator.{BinaryOperator}
use Rattle.qs_syntax_vocabulary.specs.declared.operators.AssignmentOperator.{AssignmentOperator}
use Rattle.qs_syntax_vocabulary.specs.declared.operators.Access.{Access}
use Rattle.qs_syntax.specs.Trees.{ExprTree, Exprs}
use Rattle.qs_syntax_vocabulary.specs.Operators.{punctuator_of_unary, punctuator_of_binary, precedence, weakest, punctuator_of_assign, punctuator_of_access, number_of, unary_of, binary_of, assign_of, access_of}
use Rattle.qs_syntax.specs.ReadsTypes.{ReadsConsts, no_const, ReadsBase, an_int, a_struct, ReadsType, a_type, no_star, ReadsTypeName, a_type_name, Any, a_plain_name}
use Rattle.qs_syntax.specs.Reads.{Form, Postfix, Unary, Level, Conditional, Assignment, Expression, place, Reads, ReadsArguments, a_name, an_empty_call, a_call, a_constant, a_text, no_text, in_parentheses, an_index, a_member, an_increment_after, a_decrement_after, a_postfix, an_increment, a_decrement, an_operator, a_size_of_type, a_size_of_value, a_cast, an_operand, stronger, an_operation, a_plain_level, a_choice, a_plain_conditional, an_assignment, a_plain_assignment, a_comma, a_last_argument, an_argument}
use Rattle.qs_parser_grammar.specs.Heads.{is_punctuator, is_keyword, starts, operator_at, begins_type}
use Rattle.qs_parser_grammar.specs.Parse as parse
use Rattle.qs_parser_grammar.specs.Parse.{Deep, Parse, read_on, E, skip_consts, after_unsigned, after_signed, tagged, base, type, type_name, begins_one, begins_cast, beyond, starts_suffix, named_type}
use Rattle.qs_parser_grammar.proofs.HeadsLaws.{punctuator_is, keyword_is, unary_is, binary_is, assign_is, access_is, operator_is}
use Rattle.qs_parser_grammar.proofs.Sound.{Sound}
use Rattle.qs_parser_grammar.proofs.TypesSound.{Taken, taken_consts, sound_type_name}
use Rattle.qs_parser_grammar.proofs.ExpressionsSound.{IsRead, Begun, starting, sound_primary, sound_suffix, sound_unary, sound_cast_or_unary, sound_climb, sound_assignment, of_level_is, sound_part}
use Rattle.qs_parser_grammar.proofs.ExpressionsBegin.{high}
use Rattle.qs_parser_grammar.proofs.Viable.{Claims, OfFronts, behind_token, behind, Both, under, Viable, Viable-ok, Viable-unexpected, Viable-deep, Viable-after, Viable-token, Viable-if, Viable-joined, Viable-read_on, Viable-read_on-is, Viable-then, Viable-done, here, Viable-is_punctuator, Viable-keyword, Viable-punctuator, Viable-name, Viable-above, Viable-some, is_plain}

-- ---- types

module _ (Q : Claims) (c : OfFronts Q) (w : (xs : List Terminal) (b : Base) → ReadsBase xs b → Q true xs) where
  viable_tagged : (at : ℕ) (ts : List Terminal) → Viable (λ b l. Q b (Keyword at keywords.Struct ∷ l)) ts (tagged ts)
  viable_tagged at ts = Viable-name Any ts _ (c.front true (Keyword at keywords.Struct ∷ []) (Name 0 [] ∷ []) (w _ _ (a_struct at (a_plain_name 0 []))) refl) (λ t n x name us. Viable-ok)

  viable_unsigned : (t : Terminal) (ts : List Terminal) → Viable Q (t ∷ ts) (after_unsigned ts)
  viable_unsigned t [] = Viable-ok
  viable_unsigned t (u ∷ ts) = Viable-if (is_keyword keywords.Int u) (λ _. Viable-ok) (λ _. Viable-if (is_keyword keywords.Char u) (λ _. Viable-ok) (λ _. Viable-ok))

  viable_signed : (t : Terminal) (ts : List Terminal) → Viable Q (t ∷ ts) (after_signed ts)
  viable_signed t [] = Viable-ok
  viable_signed t (u ∷ ts) = Viable-if (is_keyword keywords.Int u) (λ _. Viable-ok) (λ _. Viable-ok)

  base_begins : Q true []
  base_begins = c.front true [] _ (w _ _ (an_int 0)) refl

  viable_named_type : (t : Terminal) (ts : List Terminal) → Viable Q (t ∷ ts) (named_type (t ∷ ts))
  viable_named_type (Name at x) ts = Viable-unexpected base_begins
  viable_named_type (terminals.TypeName at x) ts = Viable-ok
  viable_named_type (Keyword at k) ts = Viable-unexpected base_begins
  viable_named_type (Constant at n unsigned) ts = Viable-unexpected base_begins
  viable_named_type (Text at bytes) ts = Viable-unexpected base_begins
  viable_named_type (Punctuator at m) ts = Viable-unexpected base_begins

  pub viable_base : (ts : List Terminal) → Viable Q ts (base ts)
  viable_base [] = Viable-unexpected base_begins
  viable_base (t ∷ ts) =
      Viable-if (is_keyword keywords.Void t) (λ _. Viable-ok)
      (λ _. Viable-if (is_keyword keywords.Int t) (λ _. Viable-ok)
      (λ _. Viable-if (is_keyword keywords.Char t) (λ _. Viable-ok)
      (λ _. Viable-if (is_keyword keywords.Unsigned t) (λ _. viable_unsigned t ts)
      (λ _. Viable-if (is_keyword keywords.Signed t) (λ _. viable_signed t ts)
      (λ _. Viable-if (is_keyword keywords.Struct t) (λ e. Viable-keyword keywords.Struct t e (Viable-token (viable_tagged (number_of t) ts))) (λ _. viable_named_type t ts))))))

pub viable_type : (Q : Claims) → OfFronts Q → ((xs : List Terminal) (b : Base) → ReadsType xs b → Q true xs) → (ts : List Terminal) → Viable Q ts (type ts)
unfolding type
viable_type Q c w ts =
    let before : Taken ReadsConsts ts (skip_consts ts) = taken_consts ts in
    Viable-after ts before.front (skip_consts ts) before.split _
    (Viable-done (λ b us. (b, skip_consts us)) (viable_base (λ b l. Q b (before.front ++ l)) (behind before.front c) (λ xs b r. subst (λ l. Q true (before.front ++ l)) (append-nil xs) (w (before.front ++ (xs ++ [])) b (a_type before.is r no_const))) (skip_consts ts)))

pub viable_type_name : (Q : Claims) → OfFronts Q → ((xs : List Terminal) (t : TypeName) → ReadsTypeName xs t → Q true xs) → (ts : List Terminal) → Viable Q ts (type_name ts)
unfolding type_name
viable_type_name Q c w ts = Viable-done (λ b us. (record { base = b; stars = (parse.stars us).0 }, (parse.stars us).1)) (viable_type Q c (λ xs b r. subst (Q true) (append-nil xs) (w (xs ++ []) _ (a_type_name r no_star))) ts)

-- ---- expressions

-- the tokens are read as this form, and this high
abbrev pub Has : Form → ℕ → List Terminal → Type 0
Has form h xs = (e : ExprTree) × Reads form h xs e

-- the tokens are read as this form
abbrev pub IsSome : Form → List Terminal → Type 0
IsSome form xs = (h : ℕ) × (e : ExprTree) × Reads form h xs e

-- what a part is read as
abbrev pub is_part : Form → Bool
is_part Postfix = false
is_part Unary = true
is_part (Level j) = true
is_part Conditional = true
is_part Assignment = true
is_part Expression = true

level_of : (j : ℕ) {xs : List Terminal} → IsSome (Level 0) xs → IsSome (Level j) xs
level_of zero s = s
level_of (suc j) (h, e, r) = let s = level_of j (h, e, r) in (s.0, s.1, stronger s.2)

conditional_of : {xs : List Terminal} → IsSome (Level weakest) xs → IsSome Conditional xs
conditional_of (h, e, r) = (h, e, a_plain_level r)

assignment_of : {xs : List Terminal} → IsSome Conditional xs → IsSome Assignment xs
assignment_of (h, e, r) = (h, e, a_plain_conditional r)

expression_of : {xs : List Terminal} → IsSome Assignment xs → IsSome Expression xs
expression_of (h, e, r) = (h, e, a_plain_assignment r)

unary_some : {xs : List Terminal} → IsSome Postfix xs → IsSome Unary xs
unary_some (h, e, r) = (h, e, a_postfix r)

cast_some : {xs : List Terminal} → IsSome Unary xs → IsSome (Level 0) xs
cast_some (h, e, r) = (h, e, an_operand r)

pub from_postfix : (form : Form) {xs : List Terminal} → IsSome Postfix xs → IsSome form xs
from_postfix Postfix s = s
from_postfix Unary s = unary_some s
from_postfix (Level j) s = level_of j (cast_some (unary_some s))
from_postfix Conditional s = conditional_of (level_of weakest (cast_some (unary_some s)))
from_postfix Assignment s = assignment_of (conditional_of (level_of weakest (cast_some (unary_some s))))
from_postfix Expression s = expression_of (assignment_of (conditional_of (level_of weakest (cast_some (unary_some s)))))

level_has : (j : ℕ) (h : ℕ) (xs : List Terminal) → Has (Level 0) h xs → Has (Level j) h xs
level_has zero h xs r = r
level_has (suc j) h xs r = let s = level_has j h xs r in (s.0, stronger s.1)

conditional_has : (h : ℕ) (xs : List Terminal) → Has (Level 0) h xs → Has Conditional h xs
conditional_has h xs r = let s = level_has weakest h xs r in (s.0, a_plain_level s.1)

assignment_has : (h : ℕ) (xs : List Terminal) → Has (Level 0) h xs → Has Assignment h xs
assignment_has h xs r = let s = conditional_has h xs r in (s.0, a_plain_conditional s.1)

pub from_cast : (form : Form) → is_part form ≡ true → (h : ℕ) (xs : List Terminal) → Has Unary h xs → Has form h xs
from_cast Postfix e h xs r = absurd cc
from_cast Unary e h xs r = r
from_cast (Level j) e h xs r = level_has j h xs (r.0, an_operand r.1)
from_cast Conditional e h xs r = conditional_has h xs (r.0, an_operand r.1)
from_cast Assignment e h xs r = assignment_has h xs (r.0, an_operand r.1)
from_cast Expression e h xs r = let s = assignment_has h xs (r.0, an_operand r.1) in (s.0, a_plain_assignment s.1)

-- the shortest operand
abbrev pub number : List Terminal
number = Constant 0 0 false ∷ []

pub a_number : (form : Form) → IsSome form number
a_number form = from_postfix form (1, _, a_constant 0 0 false)

pub one : (form : Form) → is_part form ≡ true → Has form 1 number
one form part = from_cast form part 1 number (_, a_postfix (a_constant 0 0 false))

abbrev pub HaveAll : ℕ → List Terminal → Type 0
HaveAll h xs = (es : Exprs) × ReadsArguments h xs es

from_unary : (form : Form) → is_part form ≡ true → {xs : List Terminal} → IsSome Unary xs → IsSome form xs
from_unary Postfix e s = absurd cc
from_unary Unary e s = s
from_unary (Level j) e s = level_of j (cast_some s)
from_unary Conditional e s = conditional_of (level_of weakest (cast_some s))
from_unary Assignment e s = assignment_of (conditional_of (level_of weakest (cast_some s)))
from_unary Expression e s = expression_of (assignment_of (conditional_of (level_of weakest (cast_some s))))

-- what goes on with this token
abbrev BegunBy : Form → Terminal → Type 0
BegunBy form t = (xs : List Terminal) × IsSome form (t ∷ xs) × (is_plain xs ≡ true)

begun_same : {form : Form} (t u : Terminal) → t ≡ u → BegunBy form u → BegunBy form t
begun_same {form} t u e b = subst (BegunBy form) (sym e) b

unary_by_punctuator : (at : ℕ) (k : punctuator.Punctuator) (ts : List Terminal) → begins_one (Punctuator at k ∷ ts) ≡ true → BegunBy Unary (Punctuator at k)
unary_by_punctuator at k ts e =
    by_case (unary_of k) (is_punctuator punctuators.OpenParenthesis (Punctuator at k)) (is_punctuator punctuators.Increment (Punctuator at k)) (is_punctuator punctuators.Decrement (Punctuator at k))
    refl (λ d. punctuator_is punctuators.OpenParenthesis (Punctuator at k) d) (λ d. punctuator_is punctuators.Increment (Punctuator at k) d) (λ d. punctuator_is punctuators.Decrement (Punctuator at k) d) e
  where
    by_case : (o : Option UnaryOperator) (b i d : Bool) → unary_of k ≡ o → (b ≡ true → Punctuator at k ≡ Punctuator at punctuators.OpenParenthesis) → (i ≡ true → Punctuator at k ≡ Punctuator at punctuators.Increment)
        → (d ≡ true → Punctuator at k ≡ Punctuator at punctuators.Decrement) → (is_some o || (b || (i || d))) ≡ true → BegunBy Unary (Punctuator at k)
    by_case (Some operator) b i d p q r s e =
        let one = a_number (Level 0) in begun_same (Punctuator at k) _ (ap (λ n. Punctuator at n) (unary_is k operator p)) (number, (suc one.0, _, an_operator operator at one.2), refl)
    by_case None true i d p q r s e = let one = a_number Expression in begun_same (Punctuator at k) _ (q refl) (number ++ Punctuator 0 punctuators.CloseParenthesis ∷ [], unary_some (suc one.0, _, in_parentheses at 0 one.2), refl)
    by_case None false true d p q r s e = let one = a_number Unary in begun_same (Punctuator at k) _ (r refl) (number, (suc one.0, _, an_increment at one.2), refl)
    by_case None false false true p q r s e = let one = a_number Unary in begun_same (Punctuator at k) _ (s refl) (number, (suc one.0, _, a_decrement at one.2), refl)
    by_case None false false false p q r s e = absurd cc

unary_by : (t : Terminal) (ts : List Terminal) → begins_one (t ∷ ts) ≡ true → BegunBy Unary t
unary_by (Name at x) ts e = ([], unary_some (1, _, a_name at x), refl)
unary_by (terminals.TypeName at x) ts e = absurd cc
unary_by (Keyword at k) ts e = let one = a_number Unary in begun_same (Keyword at k) _ (keyword_is keywords.Sizeof (Keyword at k) e) (number, (suc one.0, _, a_size_of_value at one.2), refl)
unary_by (Constant at n unsigned) ts e = ([], unary_some (1, _, a_constant at n unsigned), refl)
unary_by (Text at bytes) ts e = ([], unary_some (1, _, a_text at bytes no_text), refl)
unary_by (Punctuator at k) ts e = unary_by_punctuator at k ts e

-- what begins an expression begins each part
pub one_begun : (form : Form) → is_part form ≡ true → (t : Terminal) (ts : List Terminal) → begins_one (t ∷ ts) ≡ true → BegunBy form t
one_begun form part t ts e = let by = unary_by t ts e in (by.0, from_unary form part by.1, by.2)

-- where no level is left
pub viable_beyond : {A : Type 0} (form : Form) → is_part form ≡ true → (Q : Claims) → OfFronts Q → ((h : ℕ) (xs : List Terminal) → Has form h xs → Q false xs) → Q true [] → (ts : List Terminal) → Viable {A = A} Q ts (beyond ts)
viable_beyond form part Q c w low [] = Viable-unexpected low
viable_beyond form part Q c w low (t ∷ ts) =
    Viable-if (begins_one (t ∷ ts)) (λ e. let by = one_begun form part t ts e in Viable-deep low (c.front false (t ∷ []) by.0 (w by.1.0 (t ∷ by.0) (by.1.1, by.1.2)) by.2)) (λ _. Viable-unexpected low)

-- what is said of one that is h high, where at most n is low enough
abbrev pub Wants : Form → ℕ → Claims → Type 0
Wants form n Q = (h : ℕ) (xs : List Terminal) → Has form h xs → Both Q n h xs

module _ (m : ℕ) (p : Form → Parse E) (sound : (form : Form) (ts : List Terminal) → Sound (IsRead m form) [] ts (p form ts))
    (viable : (form : Form) → is_part form ≡ true → (Q : Claims) → OfFronts Q → Wants form m Q → Q true [] → (ts : List Terminal) → Viable Q ts (p form ts)) where
  viable_arguments : (n : ℕ) (es : List ExprTree) (h : ℕ) (Q : Claims) → OfFronts Q → ((h : ℕ) (xs : List Terminal) → HaveAll h xs → Both Q m h (xs ++ Punctuator 0 punctuators.CloseParenthesis ∷ [])) → Q true [] → (ts : List Terminal)
      → Viable Q ts (parse.arguments m p n es h ts)
  unfolding parse.arguments
  viable_arguments zero es h Q c w low ts = Viable-unexpected low
  viable_arguments (suc n) es h Q c w low ts =
      Viable-read_on _ (sound Assignment ts) (viable Assignment refl Q c begun low ts)
      (λ e front us r. let q : Q true (front ++ []) = here Q front ((begun e.1 front (e.0, r.0)).1 r.1) in
      Viable-if (starts punctuators.CloseParenthesis us)
      (λ _. Viable-punctuator punctuators.CloseParenthesis us _ q (λ at vs. Viable-ok))
      (λ _. Viable-punctuator punctuators.Comma us _ q
      (λ at vs. let further : (k : ℕ) (xs : List Terminal) → HaveAll k xs → Both Q m (max e.1 k) ((front ++ Punctuator at punctuators.Comma ∷ xs) ++ Punctuator 0 punctuators.CloseParenthesis ∷ []) = λ k xs s. w (max e.1 k) (front ++ Punctuator at punctuators.Comma ∷ xs) (_, an_argument at r.0 s.1) in
      let some : 0 < e.1 = high r.0 in
      let fits : e.1 ≤ m = r.1 in
      viable_arguments n (es ++ e.0 ∷ []) (max h e.1) (λ b l. Q b (front ++ Punctuator at punctuators.Comma ∷ l)) (behind_token (Punctuator at punctuators.Comma) (behind front c))
      (λ k xs s. let both = further k xs s in let same = append_assoc front (Punctuator at punctuators.Comma ∷ xs) (Punctuator 0 punctuators.CloseParenthesis ∷ []) in
      (subst (Q false) same both.0, λ le. subst (Q true) same (both.1 (omega arith))))
      ((behind front c).front true (Punctuator at punctuators.Comma ∷ []) _ (subst (Q true) (append_assoc front (Punctuator at punctuators.Comma ∷ number) (Punctuator 0 punctuators.CloseParenthesis ∷ [])) ((further 1 number (_, a_last_argument (one Assignment refl).1)).1 (omega arith))) refl) vs)))
    where
      begun : (h : ℕ) (xs : List Terminal) → Has Assignment h xs → Both Q m h xs
      begun h xs s = under c xs (Punctuator 0 punctuators.CloseParenthesis ∷ []) refl m h (w h xs (_, a_last_argument s.1)) m h (λ le. le)

  module _ (Q : Claims) (c : OfFronts Q) (w : Wants Postfix (m + 1) Q) where
    viable_call : (at o : ℕ) (f : List ℕ) (ts : List Terminal) → Viable (λ b l. Q b (Name at f ∷ Punctuator o punctuators.OpenParenthesis ∷ l)) ts (parse.call_of m p at f ts)
    viable_call at o f ts =
        let opened : Q true (Name at f ∷ Punctuator o punctuators.OpenParenthesis ∷ []) = c.front true (Name at f ∷ Punctuator o punctuators.OpenParenthesis ∷ []) (Punctuator 0 punctuators.CloseParenthesis ∷ []) ((w 1 _ (_, an_empty_call at o 0 f)).1 (omega arith)) refl in
        Viable-if (starts punctuators.CloseParenthesis ts)
        (λ _. Viable-punctuator punctuators.CloseParenthesis ts _ opened (λ _ us. Viable-ok))
        (λ _. Viable-done _ (viable_arguments (length ts) [] 0 _ (behind_token (Punctuator o punctuators.OpenParenthesis) (behind_token (Name at f) c))
        (λ h xs s. let both = w (suc h) _ (_, a_call at o 0 f s.1) in (both.0, λ le. both.1 (omega arith))) opened ts))

    viable_name : (at : ℕ) (x : List ℕ) (ts : List Terminal) → Viable (λ b l. Q b (Name at x ∷ l)) ts (parse.after_name m p at x ts)
    viable_name at x ts =
        Viable-if (starts punctuators.OpenParenthesis ts) (λ _. Viable-punctuator punctuators.OpenParenthesis ts _ ((w 1 _ (_, a_name at x)).1 (omega arith)) (λ o us. viable_call at o x us)) (λ _. Viable-ok)

    nothing_yet : Q true []
    nothing_yet = c.front true [] number ((w 1 number (_, a_constant 0 0 false)).1 (omega arith)) refl

    inner_begun : (o : ℕ) (h : ℕ) (xs : List Terminal) → Has Expression h xs → Both Q m h (Punctuator o punctuators.OpenParenthesis ∷ xs)
    inner_begun o h xs s = under c (Punctuator o punctuators.OpenParenthesis ∷ xs) (Punctuator 0 punctuators.CloseParenthesis ∷ []) refl (m + 1) (suc h) (w (suc h) _ (_, in_parentheses o 0 s.1)) m h (λ le. omega arith)

    viable_parentheses : (o : ℕ) (ts : List Terminal) → 0 < m → Viable (λ b l. Q b (Punctuator o punctuators.OpenParenthesis ∷ l)) ts (parse.in_parentheses m p ts)
    viable_parentheses o ts some =
        Viable-read_on _ (sound Expression ts) (viable Expression refl _ (behind_token (Punctuator o punctuators.OpenParenthesis) c) (inner_begun o) (c.front true (Punctuator o punctuators.OpenParenthesis ∷ []) number ((inner_begun o 1 number (one Expression refl)).1 some) refl) ts)
        (λ e front us r. Viable-punctuator punctuators.CloseParenthesis us _ (here (λ b l. Q b (Punctuator o punctuators.OpenParenthesis ∷ l)) front ((inner_begun o e.1 front (e.0, r.0)).1 r.1)) (λ _ vs. Viable-ok))

    viable_primary : (ts : List Terminal) → Viable Q ts (parse.primary m p ts)
    unfolding parse.primary
    viable_primary [] = Viable-unexpected nothing_yet
    viable_primary (Name at x ∷ ts) = Viable-token (viable_name at x ts)
    viable_primary (terminals.TypeName at x ∷ ts) = Viable-unexpected nothing_yet
    viable_primary (Keyword at k ∷ ts) = Viable-unexpected nothing_yet
    viable_primary (Constant at n unsigned ∷ ts) = Viable-ok
    viable_primary (Text at bytes ∷ ts) = Viable-ok
    viable_primary (Punctuator at k ∷ ts) =
        Viable-if (is_punctuator punctuators.OpenParenthesis (Punctuator at k))
        (λ e. Viable-is_punctuator punctuators.OpenParenthesis (Punctuator at k) e
        (Viable-some m nothing_yet (c.front false (Punctuator at punctuators.OpenParenthesis ∷ []) number (inner_begun at 1 number (one Expression refl)).0 refl) (λ some. Viable-token (viable_parentheses at ts some)))) (λ _. Viable-unexpected nothing_yet)

    -- ---- suffixes

    module _ (done : List Terminal) (g : ℕ) (d : Has Postfix g done) (some : 0 < g) where
      index_begun : (o : ℕ) → g ≤ m → (h : ℕ) (xs : List Terminal) → Has Expression h xs → Both Q m h (done ++ Punctuator o punctuators.OpenBracket ∷ xs)
      index_begun o fits h xs s = under (behind done c) (Punctuator o punctuators.OpenBracket ∷ xs) (Punctuator 0 punctuators.CloseBracket ∷ []) refl (m + 1) (suc (max g h)) (w (suc (max g h)) _ (_, an_index o 0 d.1 s.1)) m h (λ le. omega arith)

      any_index : (o : ℕ) → Q false (done ++ Punctuator o punctuators.OpenBracket ∷ [])
      any_index o = (behind done c).front false (Punctuator o punctuators.OpenBracket ∷ []) (number ++ Punctuator 0 punctuators.CloseBracket ∷ []) (w (suc (max g 1)) _ (_, an_index o 0 d.1 (one Expression refl).1)).0 refl

      viable_index : (start o : ℕ) (a : E) → g ≤ m → (ts : List Terminal) → Viable (λ b l. Q b (done ++ Punctuator o punctuators.OpenBracket ∷ l)) ts (parse.index_of m p start a ts)
      viable_index start o a fits ts =
          Viable-read_on _ (sound Expression ts)
          (viable Expression refl _ (behind_token (Punctuator o punctuators.OpenBracket) (behind done c)) (index_begun o fits) ((behind done c).front true (Punctuator o punctuators.OpenBracket ∷ []) number ((index_begun o fits 1 number (one Expression refl)).1 (omega arith)) refl) ts)
          (λ b front us r. Viable-punctuator punctuators.CloseBracket us _ (here (λ b l. Q b (done ++ Punctuator o punctuators.OpenBracket ∷ l)) front ((index_begun o fits b.1 front (b.0, r.0)).1 r.1)) (λ _ vs. Viable-ok))

      member_begun : (at : ℕ) (access : Access) → Both Q m g (done ++ Punctuator at (punctuator_of_access access) ∷ [])
      member_begun at access = under (behind done c) (Punctuator at (punctuator_of_access access) ∷ []) (Name 0 [] ∷ []) refl (m + 1) (suc g) (w (suc g) _ (_, a_member access at d.1 (a_plain_name 0 []))) m g (λ le. omega arith)

      viable_access : (start : ℕ) (a : E) (t : Terminal) (ts : List Terminal) (o : Option Access) → operator_at access_of (t ∷ ts) ≡ o → is_some o ≡ true → g ≤ m → Viable (λ b l. Q b (done ++ t ∷ l)) ts (parse.access_at m p start a o ts)
      viable_access start a t ts None e there fits = absurd cc
      viable_access start a t ts (Some access) e there fits =
          let is = operator_is access_of punctuator_of_access access_is (t ∷ ts) access e in
          subst (λ u. Viable (λ b l. Q b (done ++ u ∷ l)) ts (parse.member_of m p start a access ts)) (first_same t (Punctuator is.0 (punctuator_of_access access)) ts is.1 is.2)
          (Viable-name Any ts _ ((member_begun is.0 access).1 fits) (λ t n x name us. Viable-ok))
        where
          first_same : (t u : Terminal) (ts us : List Terminal) → t ∷ ts ≡ u ∷ us → u ≡ t
          first_same t u ts us e = cc

      viable_suffix : (start : ℕ) (a : E) (t : Terminal) (ts : List Terminal) → starts_suffix (t ∷ ts) ≡ true → g ≤ m → Viable (λ b l. Q b (done ++ l)) (t ∷ ts) (parse.suffix m p start a (t ∷ ts))
      viable_suffix start a t ts e fits =
          Viable-if (is_punctuator punctuators.OpenBracket t) (λ b. Viable-is_punctuator punctuators.OpenBracket t b (Viable-token (viable_index start (number_of t) a fits ts)))
          (λ no_bracket. Viable-if (is_punctuator punctuators.Increment t) (λ _. Viable-ok)
          (λ no_increment. Viable-if (is_punctuator punctuators.Decrement t) (λ _. Viable-ok)
          (λ no_decrement. Viable-token (viable_access start a t ts (operator_at access_of (t ∷ ts)) refl (must_be _ _ _ _ no_bracket no_increment no_decrement e) fits))))
        where
          must_be : (b o i d : Bool) → b ≡ false → i ≡ false → d ≡ false → (b || (o || (i || d))) ≡ true → o ≡ true
          must_be b true i d p q r e = refl
          must_be b false i d p q r e = absurd (true≢false (sym e ∙ (rw (p, q, r) refl)))

      -- what a suffix begins with
      suffix_begun : (t : Terminal) (ts : List Terminal) → starts_suffix (t ∷ ts) ≡ true → Q false (done ++ t ∷ [])
      suffix_begun t ts e = by_case (is_punctuator punctuators.OpenBracket t) (operator_at access_of (t ∷ ts)) (is_punctuator punctuators.Increment t) (is_punctuator punctuators.Decrement t)
          (λ b. punctuator_is punctuators.OpenBracket t b) refl (λ b. punctuator_is punctuators.Increment t b) (λ b. punctuator_is punctuators.Decrement t b) e
        where
          with : (u : Terminal) → t ≡ u → Q false (done ++ u ∷ []) → Q false (done ++ t ∷ [])
          with u e q = subst (λ u. Q false (done ++ u ∷ [])) (sym e) q

          first_is : (t u : Terminal) (ts us : List Terminal) → t ∷ ts ≡ u ∷ us → t ≡ u
          first_is t u ts us e = cc

          by_case : (b : Bool) (o : Option Access) (i j : Bool) → (b ≡ true → t ≡ Punctuator (number_of t) punctuators.OpenBracket) → operator_at access_of (t ∷ ts) ≡ o
              → (i ≡ true → t ≡ Punctuator (number_of t) punctuators.Increment) → (j ≡ true → t ≡ Punctuator (number_of t) punctuators.Decrement) → (b || (is_some o || (i || j))) ≡ true → Q false (done ++ t ∷ [])
          by_case true o i j p q r s e = with _ (p refl) (any_index (number_of t))
          by_case false (Some access) i j p q r s e = let is = operator_is access_of punctuator_of_access access_is (t ∷ ts) access q in with (Punctuator is.0 (punctuator_of_access access)) (first_is t _ ts is.1 is.2) (member_begun is.0 access).0
          by_case false None true j p q r s e = with _ (r refl) (w (suc g) _ (_, an_increment_after (number_of t) d.1)).0
          by_case false None false true p q r s e = with _ (s refl) (w (suc g) _ (_, a_decrement_after (number_of t) d.1)).0
          by_case false None false false p q r s e = absurd cc

    viable_suffixes : (n start : ℕ) (a : E) (done : List Terminal) → Begun (m + 1) Postfix start a done → (ts : List Terminal) → Viable (λ b l. Q b (done ++ l)) ts (parse.suffixes m p n start a ts)
    unfolding parse.suffixes
    viable_suffixes zero start a done r ts = Viable-ok
    viable_suffixes (suc n) start a done r [] = Viable-ok
    viable_suffixes (suc n) start a done r (t ∷ ts) =
        Viable-if (starts_suffix (t ∷ ts))
        (λ e. Viable-above m a.1 (here Q done ((w a.1 done (a.0, r.0)).1 r.1)) (suffix_begun done a.1 (a.0, r.0) (high r.0) t ts e)
        (λ le. Viable-then Q (parse.suffixes m p n start) (sound_suffix m p sound start a done r le (t ∷ ts)) (viable_suffix done a.1 (a.0, r.0) (high r.0) start a t ts e le) (λ b all us q. viable_suffixes n start b all q us)))
        (λ _. Viable-ok)

    viable_postfix : (ts : List Terminal) → Viable Q ts (parse.postfix m p ts)
    viable_postfix ts = Viable-read_on-is _ (sound_primary m p sound ts) (viable_primary ts) (λ a front us read e r. viable_suffixes (length us) (place ts) a front (starting m p sound Postfix ts front us a e r) us)

  -- ---- unary

  module _ (Q : Claims) (c : OfFronts Q) (w : Wants Unary (m + 1) Q) where
    unary_yet : Q true []
    unary_yet = c.front true [] number ((w 1 number (one Unary refl)).1 (omega arith)) refl

    as_postfix : Wants Postfix (m + 1) Q
    as_postfix h xs s = w h xs (s.0, a_postfix s.1)

    -- a token, and a part behind it
    viable_token_and_part : (t : Terminal) (form : Form) → is_part form ≡ true → ((h : ℕ) (xs : List Terminal) → Has form h xs → Has Unary (suc h) (t ∷ xs)) → (f : E → E) (ts : List Terminal) → Viable Q (t ∷ ts) (cond (m == 0) (Err (Deep (suc (length ts)))) (read_on (p form ts) (λ e us. Ok (f e, us))))
    viable_token_and_part t form part built f ts =
        let begun : (h : ℕ) (xs : List Terminal) → Has form h xs → Both Q m h (t ∷ xs) = λ h xs s. (let both = w (suc h) (t ∷ xs) (built h xs s) in (both.0, λ le. both.1 (omega arith))) in
        Viable-some m unary_yet (c.front false (t ∷ []) number (begun 1 number (one form part)).0 refl)
        (λ some. Viable-token (Viable-done _ (viable form part _ (behind_token t c) begun (c.front true (t ∷ []) number ((begun 1 number (one form part)).1 some) refl) ts)))

    viable_operator_at : (at : ℕ) (k : punctuator.Punctuator) (ts : List Terminal) (o : Option UnaryOperator) → unary_of k ≡ o → Viable Q (Punctuator at k ∷ ts) (parse.unary_operator_at m p at o k ts)
    viable_operator_at at k ts None e = viable_postfix Q c as_postfix (Punctuator at k ∷ ts)
    viable_operator_at at k ts (Some operator) e =
        subst (λ n. Viable Q (Punctuator at n ∷ ts) (cond (m == 0) (Err (Deep (suc (length ts)))) (parse.operator_of m p at operator ts))) (sym (unary_is k operator e))
        (viable_token_and_part (Punctuator at (punctuator_of_unary operator)) (Level 0) refl (λ h xs s. (_, an_operator operator at s.1)) _ ts)

    module _ (at : ℕ) where
      abbrev Sized : Claims
      Sized b l = Q b (Keyword at keywords.Sizeof ∷ l)

      sized : OfFronts Sized
      sized = behind_token (Keyword at keywords.Sizeof) c

      type_begun : (o : ℕ) (xs : List Terminal) (t : TypeName) → ReadsTypeName xs t → Sized true (Punctuator o punctuators.OpenParenthesis ∷ xs)
      type_begun o xs t r = sized.front true (Punctuator o punctuators.OpenParenthesis ∷ xs) (Punctuator 0 punctuators.CloseParenthesis ∷ []) ((w 1 _ (_, a_size_of_type at o 0 r)).1 (omega arith)) refl

      value_begun : (h : ℕ) (xs : List Terminal) → Has Unary h xs → Both Sized m h xs
      value_begun h xs s = let both = w (suc h) _ (_, a_size_of_value at s.1) in (both.0, λ le. both.1 (omega arith))

      operand_begun : (o : ℕ) (h : ℕ) (xs : List Terminal) → Has Expression h xs → Sized false (Punctuator o punctuators.OpenParenthesis ∷ xs)
      operand_begun o h xs s = sized.front false (Punctuator o punctuators.OpenParenthesis ∷ xs) (Punctuator 0 punctuators.CloseParenthesis ∷ []) (value_begun (suc h) _ (_, a_postfix (in_parentheses o 0 s.1))).0 refl

      -- `int`
      size_yet : Sized true []
      size_yet = sized.front true [] _ (type_begun 0 (Keyword 0 keywords.Int ∷ []) _ (a_type_name {xs = Keyword 0 keywords.Int ∷ []} {ys = []} (a_type {xs = []} {ys = Keyword 0 keywords.Int ∷ []} {zs = []} no_const (an_int 0) no_const) no_star)) refl

      size_opened : (o : ℕ) → Sized true (Punctuator o punctuators.OpenParenthesis ∷ [])
      size_opened o = sized.front true (Punctuator o punctuators.OpenParenthesis ∷ []) _ (type_begun o (Keyword 0 keywords.Int ∷ []) _ (a_type_name {xs = Keyword 0 keywords.Int ∷ []} {ys = []} (a_type {xs = []} {ys = Keyword 0 keywords.Int ∷ []} {zs = []} no_const (an_int 0) no_const) no_star)) refl

      viable_size : (ts : List Terminal) → Viable Sized ts (parse.size_of m p at ts)
      viable_size ts =
          Viable-if (begins_cast ts)
          (λ _. Viable-punctuator punctuators.OpenParenthesis ts _ size_yet
          (λ o us. Viable-read_on _ (sound_type_name us) (viable_type_name _ (behind_token (Punctuator o punctuators.OpenParenthesis) sized) (type_begun o) us)
          (λ t front vs r. Viable-punctuator punctuators.CloseParenthesis vs _ (here (λ b l. Sized b (Punctuator o punctuators.OpenParenthesis ∷ l)) front (type_begun o front t r)) (λ _ ws. Viable-ok))))
          (λ _. Viable-if (nat_le m 1 && starts punctuators.OpenParenthesis ts)
          (λ _. Viable-punctuator punctuators.OpenParenthesis ts _ size_yet (λ o us. viable_beyond Expression refl _ (behind_token (Punctuator o punctuators.OpenParenthesis) sized) (operand_begun o) (size_opened o) us))
          (λ _. Viable-done _ (viable Unary refl Sized sized value_begun size_yet ts)))

    viable_unary : (ts : List Terminal) → Viable Q ts (parse.unary_of_all m p ts)
    unfolding parse.unary_of_all
    viable_unary [] = Viable-unexpected unary_yet
    viable_unary (Name at x ∷ ts) = viable_postfix Q c as_postfix (Name at x ∷ ts)
    viable_unary (terminals.TypeName at x ∷ ts) = viable_postfix Q c as_postfix (terminals.TypeName at x ∷ ts)
    viable_unary (Keyword at k ∷ ts) =
        Viable-if (is_keyword keywords.Sizeof (Keyword at k)) (λ e. Viable-keyword keywords.Sizeof (Keyword at k) e (Viable-token (viable_size at ts))) (λ _. Viable-unexpected unary_yet)
    viable_unary (Constant at n unsigned ∷ ts) = viable_postfix Q c as_postfix (Constant at n unsigned ∷ ts)
    viable_unary (Text at bytes ∷ ts) = viable_postfix Q c as_postfix (Text at bytes ∷ ts)
    viable_unary (Punctuator at k ∷ ts) =
        Viable-if (is_punctuator punctuators.Increment (Punctuator at k)) (λ e. Viable-is_punctuator punctuators.Increment (Punctuator at k) e (viable_token_and_part (Punctuator at punctuators.Increment) Unary refl (λ h xs s. (_, an_increment at s.1)) _ ts))
        (λ _. Viable-if (is_punctuator punctuators.Decrement (Punctuator at k)) (λ e. Viable-is_punctuator punctuators.Decrement (Punctuator at k) e (viable_token_and_part (Punctuator at punctuators.Decrement) Unary refl (λ h xs s. (_, a_decrement at s.1)) _ ts))
        (λ _. viable_operator_at at k ts (unary_of k) refl))

  -- ---- casts

  module _ (Q : Claims) (c : OfFronts Q) (w : Wants (Level 0) (m + 1) Q) where
    cast_begun : 0 < m → (o : ℕ) (xs : List Terminal) (t : TypeName) → ReadsTypeName xs t → Q true (Punctuator o punctuators.OpenParenthesis ∷ xs)
    cast_begun some o xs t r = c.front true (Punctuator o punctuators.OpenParenthesis ∷ xs) (Punctuator 0 punctuators.CloseParenthesis ∷ number) ((w 2 _ (_, a_cast o 0 r (one (Level 0) refl).1)).1 (omega arith)) refl

    viable_cast : 0 < m → (o at : ℕ) (ts : List Terminal) → Viable (λ b l. Q b (Punctuator o punctuators.OpenParenthesis ∷ l)) ts (parse.cast_of m p at ts)
    viable_cast some o at ts =
        let opened : OfFronts (λ b l. Q b (Punctuator o punctuators.OpenParenthesis ∷ l)) = behind_token (Punctuator o punctuators.OpenParenthesis) c in
        Viable-read_on _ (sound_type_name ts) (viable_type_name _ opened (cast_begun some o) ts)
        (λ t front us r. Viable-punctuator punctuators.CloseParenthesis us _ (here (λ b l. Q b (Punctuator o punctuators.OpenParenthesis ∷ l)) front (cast_begun some o front t r))
        (λ k vs. let begun : (h : ℕ) (xs : List Terminal) → Has (Level 0) h xs → Both Q m h (Punctuator o punctuators.OpenParenthesis ∷ (front ++ Punctuator k punctuators.CloseParenthesis ∷ xs)) = λ h xs s. (let both = w (suc h) _ (_, a_cast o k r s.1) in (both.0, λ le. both.1 (omega arith))) in
        Viable-done _ (viable (Level 0) refl _ (behind_token (Punctuator k punctuators.CloseParenthesis) (behind front opened)) begun
        ((behind front opened).front true (Punctuator k punctuators.CloseParenthesis ∷ []) number ((begun 1 number (one (Level 0) refl)).1 some) refl) vs)))

    viable_cast_or_unary : (ts : List Terminal) → Viable Q ts (parse.cast_or_unary m p ts)
    viable_cast_or_unary [] = viable_unary Q c (λ h xs s. w h xs (s.0, an_operand s.1)) []
    viable_cast_or_unary (t ∷ ts) =
        let nothing : Q true [] = c.front true [] number ((w 1 number (one (Level 0) refl)).1 (omega arith)) refl in
        Viable-if (begins_cast (t ∷ ts))
        (λ e. Viable-some m nothing (parenthesis_first (is_punctuator punctuators.OpenParenthesis t) (begins_type ts) (λ d. punctuator_is punctuators.OpenParenthesis t d) e)
        (λ some. Viable-punctuator punctuators.OpenParenthesis (t ∷ ts) _ nothing (λ o us. viable_cast some o (number_of t) us)))
        (λ _. viable_unary Q c (λ h xs s. w h xs (s.0, an_operand s.1)) (t ∷ ts))
      where
        parenthesis_first : (b d : Bool) → (b ≡ true → t ≡ Punctuator (number_of t) punctuators.OpenParenthesis) → (b && d) ≡ true → Q false (t ∷ [])
        parenthesis_first true d is e =
            subst (λ u. Q false (u ∷ [])) (sym (is refl)) (c.front false (Punctuator (number_of t) punctuators.OpenParenthesis ∷ []) _ (w 2 _ (_, an_operand (a_postfix (in_parentheses (number_of t) 0 (one Expression refl).1)))).0 refl)
        parenthesis_first false d is e = absurd cc

  -- ---- operators between operands

  -- the height of a node, as the functions reckon it
  plus_one : (form : Form) (k : ℕ) (xs : List Terminal) → Has form (suc k) xs → Has form (k + 1) xs
  plus_one form k xs s = subst (λ n. Has form n xs) (sym (add-one k)) s

  module _ (j start : ℕ) (Q : Claims) (c : OfFronts Q) (w : Wants (Level (suc j)) (m + 1) Q) where
    module _ (done : List Terminal) (g : ℕ) (d : Has (Level (suc j)) g done) (some : 0 < g) (operator : BinaryOperator) (at : ℕ) (level : precedence operator ≡ suc j) where
      operation_begun : (h : ℕ) (xs : List Terminal) → Has (Level j) h xs → Both Q (m + 1) (suc (max g h)) (done ++ Punctuator at (punctuator_of_binary operator) ∷ xs)
      operation_begun h xs s = w (suc (max g h)) _ (_, an_operation operator at level d.1 s.1)

      any_operation : Q false (done ++ Punctuator at (punctuator_of_binary operator) ∷ [])
      any_operation = (behind done c).front false (Punctuator at (punctuator_of_binary operator) ∷ []) number (operation_begun 1 number (one (Level j) refl)).0 refl

      right_begun : g ≤ m → (h : ℕ) (xs : List Terminal) → Has (Level j) h xs → Both Q m h (done ++ Punctuator at (punctuator_of_binary operator) ∷ xs)
      right_begun fits h xs s = let both = operation_begun h xs s in (both.0, λ le. both.1 (omega arith))

      low_operation : g ≤ m → Q true (done ++ Punctuator at (punctuator_of_binary operator) ∷ [])
      low_operation fits = (behind done c).front true (Punctuator at (punctuator_of_binary operator) ∷ []) number ((right_begun fits 1 number (one (Level j) refl)).1 (omega arith)) refl

    viable_operation_at : (a : E) (done : List Terminal) → Has (Level (suc j)) a.1 done → a.1 ≤ m + 1 → (ts : List Terminal) (others : E → Parse E)
        → ((b : E) (all us : List Terminal) → Has (Level (suc j)) b.1 all → b.1 ≤ m + 1 → Viable (λ b l. Q b (all ++ l)) us (others b us))
        → (o : Option BinaryOperator) → parse.of_level m p j (operator_at binary_of ts) ≡ o → Viable (λ b l. Q b (done ++ l)) ts (parse.operation_at m p j start a o others ts)
    viable_operation_at a done d low ts others again None e = Viable-ok
    viable_operation_at a done d low [] others again (Some operator) e = absurd cc
    viable_operation_at a done d low (t ∷ ts) others again (Some operator) e =
        let level = of_level_is m p sound j (operator_at binary_of (t ∷ ts)) operator e in
        let is = operator_is binary_of punctuator_of_binary binary_is (t ∷ ts) operator level.0 in
        let some : 0 < a.1 = high d.1 in
        subst (λ u. Viable (λ b l. Q b (done ++ l)) (u ∷ ts) (cond (nat_le a.1 m) (parse.operation m p j start a operator others (t ∷ ts)) (Err (Deep (suc (length ts)))))) (first_same t (Punctuator is.0 (punctuator_of_binary operator)) ts is.1 is.2)
        (Viable-above m a.1 (here Q done ((w a.1 done d).1 low)) (any_operation done a.1 d some operator is.0 level.1)
        (λ fits. Viable-token (Viable-read_on _ (sound (Level j) ts)
        (viable (Level j) refl _ (behind_token (Punctuator is.0 (punctuator_of_binary operator)) (behind done c)) (right_begun done a.1 d some operator is.0 level.1 fits) (low_operation done a.1 d some operator is.0 level.1 fits) ts)
        (λ b front us r. let right : b.1 ≤ m = r.1 in Viable-joined Q done (Punctuator is.0 (punctuator_of_binary operator) ∷ front)
        (again _ (done ++ Punctuator is.0 (punctuator_of_binary operator) ∷ front) us (plus_one (Level (suc j)) (max a.1 b.1) _ (_, an_operation operator is.0 level.1 d.1 r.0)) (omega arith))))))
      where
        first_same : (t u : Terminal) (ts us : List Terminal) → t ∷ ts ≡ u ∷ us → u ≡ t
        first_same t u ts us e = cc

    viable_operations : (n : ℕ) (a : E) (done : List Terminal) → Has (Level (suc j)) a.1 done → a.1 ≤ m + 1 → (ts : List Terminal) → Viable (λ b l. Q b (done ++ l)) ts (parse.operations m p n j start a ts)
    unfolding parse.operations
    viable_operations zero a done d low ts = Viable-ok
    viable_operations (suc n) a done d low ts = viable_operation_at a done d low ts (parse.operations m p n j start) (λ b all us s le. viable_operations n b all s le us) (parse.of_level m p j (operator_at binary_of ts)) refl

  viable_climb : (j start : ℕ) (a : E) (done : List Terminal) → Begun (m + 1) (Level 0) start a done → (Q : Claims) → OfFronts Q → Wants (Level j) (m + 1) Q → (ts : List Terminal)
      → Viable (λ b l. Q b (done ++ l)) ts (parse.climb m p j start a ts)
  unfolding parse.climb
  viable_climb zero start a done r Q c w ts = Viable-ok
  viable_climb (suc j) start a done r Q c w ts =
      Viable-then Q (λ b us. parse.operations m p (length us) j start b us) (sound_climb m p sound j start a done r ts) (viable_climb j start a done r Q c (λ h xs s. w h xs (s.0, stronger s.1)) ts)
      (λ b all us q. viable_operations j start Q c w (length us) b all (b.0, stronger q.0) q.1 us)

  -- ---- conditional, assignment, comma

  module _ (start : ℕ) (Q : Claims) (c : OfFronts Q) (w : Wants Conditional (m + 1) Q) where
    choice_begun : (done : List Terminal) (g : ℕ) → Has (Level weakest) g done → 0 < g → g ≤ m → (o : ℕ) (h : ℕ) (xs : List Terminal) → Has Expression h xs → Both Q m h (done ++ Punctuator o punctuators.Question ∷ xs)
    choice_begun done g d some fits o h xs s = under (behind done c) (Punctuator o punctuators.Question ∷ xs) (Punctuator 0 punctuators.Colon ∷ number) refl (m + 1) (suc (max g (max h 1))) (w (suc (max g (max h 1))) _ (_, a_choice o 0 d.1 s.1 (one Conditional refl).1)) m h (λ le. omega arith)

    any_choice : (done : List Terminal) (g : ℕ) → Has (Level weakest) g done → (o : ℕ) → Q false (done ++ Punctuator o punctuators.Question ∷ [])
    any_choice done g d o = (behind done c).front false (Punctuator o punctuators.Question ∷ []) (number ++ Punctuator 0 punctuators.Colon ∷ number) (w (suc (max g (max 1 1))) _ (_, a_choice o 0 d.1 (one Expression refl).1 (one Conditional refl).1)).0 refl

    viable_after_or : (a : E) (done : List Terminal) → Has (Level weakest) a.1 done → a.1 ≤ m + 1 → (ts : List Terminal) → Viable (λ b l. Q b (done ++ l)) ts (parse.after_or m p start a ts)
    viable_after_or a done d low [] = Viable-ok
    viable_after_or a done d low (t ∷ ts) =
        let there : Q true (done ++ []) = here Q done ((w a.1 done (d.0, a_plain_level d.1)).1 low) in
        let some : 0 < a.1 = high d.1 in
        Viable-if (starts punctuators.Question (t ∷ ts))
        (λ e. Viable-above m a.1 there (first e)
        (λ fits. Viable-punctuator punctuators.Question (t ∷ ts) _ there
        (λ o us. Viable-read_on _ (sound Expression us)
        (viable Expression refl _ (behind_token (Punctuator o punctuators.Question) (behind done c)) (choice_begun done a.1 d some fits o)
        ((behind done c).front true (Punctuator o punctuators.Question ∷ []) number ((choice_begun done a.1 d some fits o 1 number (one Expression refl)).1 (omega arith)) refl) us)
        (λ b front vs r. let middle : b.1 ≤ m = r.1 in
        Viable-punctuator punctuators.Colon vs _ (here (λ b l. Q b (done ++ Punctuator o punctuators.Question ∷ l)) front ((choice_begun done a.1 d some fits o b.1 front (b.0, r.0)).1 r.1))
        (λ k ws. let begun : (h : ℕ) (xs : List Terminal) → Has Conditional h xs → Both Q m h (done ++ Punctuator o punctuators.Question ∷ (front ++ Punctuator k punctuators.Colon ∷ xs)) = λ h xs s. (let both = w (suc (max a.1 (max b.1 h))) _ (_, a_choice o k d.1 r.0 s.1) in (both.0, λ le. both.1 (omega arith))) in
        Viable-done _ (viable Conditional refl _ (behind_token (Punctuator k punctuators.Colon) (behind front (behind_token (Punctuator o punctuators.Question) (behind done c)))) begun
        ((behind front (behind_token (Punctuator o punctuators.Question) (behind done c))).front true (Punctuator k punctuators.Colon ∷ []) number ((begun 1 number (one Conditional refl)).1 (omega arith)) refl) ws))))))
        (λ _. Viable-ok)
      where
        first : starts punctuators.Question (t ∷ ts) ≡ true → Q false (done ++ t ∷ [])
        first e = subst (λ u. Q false (done ++ u ∷ [])) (sym (punctuator_is punctuators.Question t e)) (any_choice done a.1 d (number_of t))

    viable_after_operand : (a : E) (done : List Terminal) → Begun (m + 1) (Level 0) start a done → (ts : List Terminal) → Viable (λ b l. Q b (done ++ l)) ts (parse.after_operand m p start a ts)
    viable_after_operand a done r ts =
        Viable-then Q (parse.after_or m p start) (sound_climb m p sound weakest start a done r ts) (viable_climb weakest start a done r Q c (λ h xs s. w h xs (s.0, a_plain_level s.1)) ts) (λ b all us q. viable_after_or b all (b.0, q.0) q.1 us)

  module _ (Q : Claims) (c : OfFronts Q) (w : Wants Assignment (m + 1) Q) where
    viable_assignment_of : (start : ℕ) (a : E) (done : List Terminal) → Begun (m + 1) Unary start a done → (ts : List Terminal) (o : Option AssignmentOperator) → operator_at assign_of ts ≡ o
        → Viable (λ b l. Q b (done ++ l)) ts (parse.assignment_of m p start a o ts)
    viable_assignment_of start a done r ts None e = viable_after_operand start Q c (λ h xs s. w h xs (s.0, a_plain_conditional s.1)) a done (an_operand r.0, r.1, r.2) ts
    viable_assignment_of start a done r [] (Some operator) e = absurd cc
    viable_assignment_of start a done r (t ∷ ts) (Some operator) e =
        let is = operator_is assign_of punctuator_of_assign assign_is (t ∷ ts) operator e in
        let some : 0 < a.1 = high r.0 in
        let node : (h : ℕ) (xs : List Terminal) → Has Assignment h xs → Both Q (m + 1) (suc (max a.1 h)) (done ++ Punctuator is.0 (punctuator_of_assign operator) ∷ xs) = λ h xs s. w (suc (max a.1 h)) _ (_, an_assignment operator is.0 r.0 s.1) in
        subst (λ u. Viable (λ b l. Q b (done ++ l)) (u ∷ ts) (parse.assignment_of m p start a (Some operator) (t ∷ ts))) (first_same t (Punctuator is.0 (punctuator_of_assign operator)) ts is.1 is.2)
        (Viable-above m a.1 (here Q done ((w a.1 done (from_cast Assignment refl a.1 done (a.0, r.0))).1 r.1)) ((behind done c).front false (Punctuator is.0 (punctuator_of_assign operator) ∷ []) number (node 1 number (one Assignment refl)).0 refl)
        (λ fits. let begun : (h : ℕ) (xs : List Terminal) → Has Assignment h xs → Both Q m h (done ++ Punctuator is.0 (punctuator_of_assign operator) ∷ xs) = λ h xs s. (let both = node h xs s in (both.0, λ le. both.1 (omega arith))) in
        Viable-token (Viable-done _ (viable Assignment refl _ (behind_token (Punctuator is.0 (punctuator_of_assign operator)) (behind done c)) begun
        ((behind done c).front true (Punctuator is.0 (punctuator_of_assign operator) ∷ []) number ((begun 1 number (one Assignment refl)).1 (omega arith)) refl) ts))))
      where
        first_same : (t u : Terminal) (ts us : List Terminal) → t ∷ ts ≡ u ∷ us → u ≡ t
        first_same t u ts us e = cc

    viable_assignment : (ts : List Terminal) → Viable Q ts (parse.assignment m p ts)
    viable_assignment ts =
        Viable-if (begins_cast ts)
        (λ _. Viable-read_on-is _ (sound_cast_or_unary m p sound ts) (viable_cast_or_unary Q c (λ h xs s. w h xs (assignment_has h xs s)) ts)
        (λ a front us read e r. viable_after_operand (place ts) Q c (λ h xs s. w h xs (s.0, a_plain_conditional s.1)) a front (starting m p sound (Level 0) ts front us a e r) us))
        (λ _. Viable-read_on-is _ (sound_unary m p sound ts) (viable_unary Q c (λ h xs s. w h xs (from_cast Assignment refl h xs s)) ts)
        (λ a front us read e r. viable_assignment_of (place ts) a front (starting m p sound Unary ts front us a e r) us (operator_at assign_of us) refl))

  module _ (start : ℕ) (Q : Claims) (c : OfFronts Q) (w : Wants Expression (m + 1) Q) where
    comma_node : (done : List Terminal) (g : ℕ) → Has Expression g done → (at : ℕ) (h : ℕ) (xs : List Terminal) → Has Assignment h xs → Both Q (m + 1) (suc (max g h)) (done ++ Punctuator at punctuators.Comma ∷ xs)
    comma_node done g d at h xs s = w (suc (max g h)) _ (_, a_comma at d.1 s.1)

    comma_begun : (done : List Terminal) (g : ℕ) → Has Expression g done → g ≤ m → (at : ℕ) (h : ℕ) (xs : List Terminal) → Has Assignment h xs → Both Q m h (done ++ Punctuator at punctuators.Comma ∷ xs)
    comma_begun done g d fits at h xs s = let both = comma_node done g d at h xs s in (both.0, λ le. both.1 (omega arith))

    viable_commas : (n : ℕ) (a : E) (done : List Terminal) → Has Expression a.1 done → a.1 ≤ m + 1 → (ts : List Terminal) → Viable (λ b l. Q b (done ++ l)) ts (parse.commas m p n start a ts)
    unfolding parse.commas
    viable_commas zero a done d low ts = Viable-ok
    viable_commas (suc n) a done d low [] = Viable-ok
    viable_commas (suc n) a done d low (t ∷ ts) =
        let there : Q true (done ++ []) = here Q done ((w a.1 done d).1 low) in
        let some : 0 < a.1 = high d.1 in
        Viable-if (starts punctuators.Comma (t ∷ ts))
        (λ e. Viable-above m a.1 there (first e)
        (λ fits. Viable-punctuator punctuators.Comma (t ∷ ts) _ there
        (λ at us. Viable-read_on _ (sound Assignment us)
        (viable Assignment refl _ (behind_token (Punctuator at punctuators.Comma) (behind done c)) (comma_begun done a.1 d fits at) ((behind done c).front true (Punctuator at punctuators.Comma ∷ []) number ((comma_begun done a.1 d fits at 1 number (one Assignment refl)).1 (omega arith)) refl) us)
        (λ b front vs r. let right : b.1 ≤ m = r.1 in Viable-joined Q done (Punctuator at punctuators.Comma ∷ front)
        (viable_commas n _ (done ++ Punctuator at punctuators.Comma ∷ front) (plus_one Expression (max a.1 b.1) _ (_, a_comma at d.1 r.0)) (omega arith) vs)))))
        (λ _. Viable-ok)
      where
        first : starts punctuators.Comma (t ∷ ts) ≡ true → Q false (done ++ t ∷ [])
        first e = subst (λ u. Q false (done ++ u ∷ [])) (sym (punctuator_is punctuators.Comma t e)) ((behind done c).front false (Punctuator (number_of t) punctuators.Comma ∷ []) number (comma_node done a.1 d (number_of t) 1 number (one Assignment refl)).0 refl)

  viable_expression : (form : Form) (Q : Claims) → OfFronts Q → Wants form (m + 1) Q → (ts : List Terminal) → Viable Q ts (parse.expression m p form ts)
  unfolding parse.expression
  viable_expression Postfix Q c w ts = viable_postfix Q c w ts
  viable_expression Unary Q c w ts = viable_unary Q c w ts
  viable_expression (Level j) Q c w ts =
      Viable-read_on-is _ (sound_cast_or_unary m p sound ts) (viable_cast_or_unary Q c (λ h xs s. w h xs (level_has j h xs s)) ts) (λ a front us read e r. viable_climb j (place ts) a front (starting m p sound (Level 0) ts front us a e r) Q c w us)
  viable_expression Conditional Q c w ts =
      Viable-read_on-is _ (sound_cast_or_unary m p sound ts) (viable_cast_or_unary Q c (λ h xs s. w h xs (conditional_has h xs s)) ts)
      (λ a front us read e r. viable_after_operand (place ts) Q c w a front (starting m p sound (Level 0) ts front us a e r) us)
  viable_expression Assignment Q c w ts = viable_assignment Q c w ts
  viable_expression Expression Q c w ts =
      Viable-read_on-is _ (sound_assignment m p sound ts) (viable_assignment Q c (λ h xs s. w h xs (s.0, a_plain_assignment s.1)) ts)
      (λ a front us read e r. viable_commas (place ts) Q c w (length us) a front (a.0, a_plain_assignment r.0) r.1 us)

pub viable_part : (n : ℕ) (form : Form) → is_part form ≡ true → (Q : Claims) → OfFronts Q → Wants form n Q → Q true [] → (ts : List Terminal) → Viable Q ts (parse.part n form ts)
unfolding parse.part
viable_part zero form part Q c w low ts = viable_beyond form part Q c (λ h xs s. (w h xs s).0) low ts
viable_part (suc n) form part Q c w low ts =
    viable_expression n (parse.part n) (λ form ts. sound_part n form ts) (λ form part Q c w low ts. viable_part n form part Q c w low ts) form Q c (λ h xs s. let both = w h xs s in (both.0, λ le. both.1 (omega arith))) ts
