-- Punctuators, keywords and operators: the tables fit each other, and what a test of the first token says.
use Rattle.std.proofs.Common.{◌≡◌, ℕ, ◌<◌, true, false, List, [], ◌∷◌, Ok, Option, Some, refl, sym, ap, ◌∙◌, arith}
use Rattle.std.proofs.lemmas.Bool.{false_from_ne_true}
use Rattle.qs_syntax_vocabulary.specs.declared.terminal.Terminal.{Terminal}
use Rattle.qs_syntax_vocabulary.specs.declared.terminal.Terminal.TheVariants.{Name, TypeName, Keyword, Constant, Text, Punctuator}
use Rattle.qs_base.specs.declared.keyword.Keyword as key
use Rattle.qs_syntax_vocabulary.specs.declared.punctuator.Punctuator as punctuator
use Rattle.qs_syntax_vocabulary.specs.declared.operators.UnaryOperator.{UnaryOperator}
use Rattle.qs_syntax_vocabulary.specs.declared.operators.BinaryOperator.{BinaryOperator}
use Rattle.qs_syntax_vocabulary.specs.declared.operators.AssignmentOperator.{AssignmentOperator}
use Rattle.qs_syntax_vocabulary.specs.declared.operators.AssignmentOperator.TheVariants as assigns
use Rattle.qs_syntax_vocabulary.specs.declared.operators.Access.{Access}
use Rattle.qs_syntax_vocabulary.specs.declared.operators.Access.TheVariants as accesses
use Rattle.qs_syntax_vocabulary.specs.Operators.{access_of, assign_of, assignment_precedence, binary_of, number_of, precedence, punctuator_of_access, punctuator_of_assign, punctuator_of_binary, punctuator_of_unary, unary_of}
use Rattle.qs_base.proofs.KeywordLaws.{same_keyword_exact}
use Rattle.qs_syntax_vocabulary.proofs.OperatorLaws.{assign_of-punctuator, binary_of-punctuator, punctuator-access_of, punctuator-assign_of, punctuator-binary_of, punctuator-unary_of, unary_of-punctuator}
use Rattle.qs_syntax_vocabulary.proofs.PunctuatorLaws.{same_punctuator_exact}
use Rattle.qs_parser_grammar.specs.Heads.{is_punctuator, is_keyword, starts, starts_with, operator_at}
use Rattle.qs_syntax.specs.ReadsTypes.{Names, ReadsName, a_plain_name, a_name_of_a_type}
use Rattle.qs_parser_grammar.specs.Parse.{expect_name}
use Rattle.qs_parser_grammar.specs.Stops.{precedence_at, precedence_by, punctuator_precedence, terminal_precedence}

-- ---- tests of a token

pub punctuator_is : (m : punctuator.Punctuator) (t : Terminal) → is_punctuator m t ≡ true → t ≡ Punctuator (number_of t) m
punctuator_is m (Name at x) e = absurd cc
punctuator_is m (TypeName at x) e = absurd cc
punctuator_is m (Keyword at k) e = absurd cc
punctuator_is m (Constant at n unsigned) e = absurd cc
punctuator_is m (Text at bytes) e = absurd cc
punctuator_is m (Punctuator at n) e = ap (λ k. Punctuator at k) ((same_punctuator_exact n m).0 e)

pub keyword_is : (k : key.Keyword) (t : Terminal) → is_keyword k t ≡ true → t ≡ Keyword (number_of t) k
keyword_is k (Name at x) e = absurd cc
keyword_is k (Keyword at l) e = ap (λ j. Keyword at j) ((same_keyword_exact l k).0 e)
keyword_is k (TypeName at x) e = absurd cc
keyword_is k (Constant at n unsigned) e = absurd cc
keyword_is k (Text at bytes) e = absurd cc
keyword_is k (Punctuator at m) e = absurd cc

-- the first token is this punctuator
pub starts_is : (m : punctuator.Punctuator) (ts : List Terminal) → starts m ts ≡ true → (at : ℕ) × (us : List Terminal) × (ts ≡ Punctuator at m ∷ us)
starts_is m [] e = absurd cc
starts_is m (t ∷ ts) e = (number_of t, ts, ap (λ u. u ∷ ts) (punctuator_is m t e))

pub starts_with_is : (k : key.Keyword) (ts : List Terminal) → starts_with k ts ≡ true → (at : ℕ) × (us : List Terminal) × (ts ≡ Keyword at k ∷ us)
starts_with_is k [] e = absurd cc
starts_with_is k (t ∷ ts) e = (number_of t, ts, ap (λ u. u ∷ ts) (keyword_is k t e))

-- ---- a punctuator that binds otherwise than the first token is not the first token

pub starts_precedence : (m : punctuator.Punctuator) (ts : List Terminal) → starts m ts ≡ true → precedence_at ts ≡ punctuator_precedence m
starts_precedence m [] e = absurd cc
starts_precedence m (t ∷ ts) e = ap terminal_precedence (punctuator_is m t e)

pub not_starts : (m : punctuator.Punctuator) (ts : List Terminal) → punctuator_precedence m < precedence_at ts → starts m ts ≡ false
not_starts m ts lt = false_from_ne_true (starts m ts) (λ e. let same : precedence_at ts ≡ punctuator_precedence m = starts_precedence m ts e in absurd (omega arith))

-- ---- unary operators

pub unary_punctuator : (s : UnaryOperator) → unary_of (punctuator_of_unary s) ≡ Some s
unary_punctuator = unary_of-punctuator

pub unary_is : (m : punctuator.Punctuator) (s : UnaryOperator) → unary_of m ≡ Some s → m ≡ punctuator_of_unary s
unary_is m s e = sym (punctuator-unary_of m s e)

-- ---- binary operators

pub binary_punctuator : (s : BinaryOperator) → binary_of (punctuator_of_binary s) ≡ Some s
binary_punctuator = binary_of-punctuator

pub binary_is : (m : punctuator.Punctuator) (s : BinaryOperator) → binary_of m ≡ Some s → m ≡ punctuator_of_binary s
binary_is m s e = sym (punctuator-binary_of m s e)

pub binary_precedence : (s : BinaryOperator) → punctuator_precedence (punctuator_of_binary s) ≡ precedence s
binary_precedence s = ap (λ o. precedence_by (punctuator_of_binary s) o (assign_of (punctuator_of_binary s))) (binary_punctuator s)

-- ---- assign operators

pub assign_punctuator : (s : AssignmentOperator) → assign_of (punctuator_of_assign s) ≡ Some s
assign_punctuator = assign_of-punctuator

pub assign_is : (m : punctuator.Punctuator) (s : AssignmentOperator) → assign_of m ≡ Some s → m ≡ punctuator_of_assign s
assign_is m s e = sym (punctuator-assign_of m s e)

pub assign_precedence : (s : AssignmentOperator) → punctuator_precedence (punctuator_of_assign s) ≡ assignment_precedence
assign_precedence assigns.Plain = refl
assign_precedence assigns.Multiply = refl
assign_precedence assigns.Divide = refl
assign_precedence assigns.Remainder = refl
assign_precedence assigns.Add = refl
assign_precedence assigns.Subtract = refl
assign_precedence assigns.ShiftLeft = refl
assign_precedence assigns.ShiftRight = refl
assign_precedence assigns.BitAnd = refl
assign_precedence assigns.BitXor = refl
assign_precedence assigns.BitOr = refl

-- ---- accesses

pub access_is : (m : punctuator.Punctuator) (s : Access) → access_of m ≡ Some s → m ≡ punctuator_of_access s
access_is m s e = sym (punctuator-access_of m s e)

pub access_precedence : (s : Access) → punctuator_precedence (punctuator_of_access s) ≡ 0
access_precedence accesses.Dot = refl
access_precedence accesses.Arrow = refl

-- ---- the operator that stands first

pub operator_is : {A : Type 0} (of : punctuator.Punctuator → Option A) (punctuator_of : A → punctuator.Punctuator) → ((m : punctuator.Punctuator) (s : A) → of m ≡ Some s → m ≡ punctuator_of s)
    → (ts : List Terminal) (s : A) → operator_at of ts ≡ Some s → (at : ℕ) × (us : List Terminal) × (ts ≡ Punctuator at (punctuator_of s) ∷ us)
operator_is of punctuator_of back [] s e = absurd cc
operator_is of punctuator_of back (Name at x ∷ ts) s e = absurd cc
operator_is of punctuator_of back (TypeName at x ∷ ts) s e = absurd cc
operator_is of punctuator_of back (Keyword at k ∷ ts) s e = absurd cc
operator_is of punctuator_of back (Constant at n unsigned ∷ ts) s e = absurd cc
operator_is of punctuator_of back (Text at bytes ∷ ts) s e = absurd cc
operator_is of punctuator_of back (Punctuator at m ∷ ts) s e = (at, ts, ap (λ k. Punctuator at k ∷ ts) (back m s e))

pub binary_at_precedence : (ts : List Terminal) (s : BinaryOperator) → operator_at binary_of ts ≡ Some s → precedence_at ts ≡ precedence s
binary_at_precedence ts s e = let is = operator_is binary_of punctuator_of_binary binary_is ts s e in ap precedence_at is.2 ∙ binary_precedence s

pub assign_at_precedence : (ts : List Terminal) (s : AssignmentOperator) → operator_at assign_of ts ≡ Some s → precedence_at ts ≡ assignment_precedence
assign_at_precedence ts s e = let is = operator_is assign_of punctuator_of_assign assign_is ts s e in ap precedence_at is.2 ∙ assign_precedence s

pub access_at_precedence : (ts : List Terminal) (s : Access) → operator_at access_of ts ≡ Some s → precedence_at ts ≡ 0
access_at_precedence ts s e = let is = operator_is access_of punctuator_of_access access_is ts s e in ap precedence_at is.2 ∙ access_precedence s

-- ---- names

pub name_number : {names : Names} {t : Terminal} {at : ℕ} {x : List ℕ} → ReadsName names t at x → number_of t ≡ at
name_number (a_plain_name at x) = refl
name_number (a_name_of_a_type at x) = refl

-- a name is found where such names may stand
pub finds_name : {names : Names} {t : Terminal} {at : ℕ} {x : List ℕ} → ReadsName names t at x → (rest : List Terminal) → expect_name names (t ∷ rest) ≡ Ok ((at, x), rest)
finds_name (a_plain_name at x) rest = refl
finds_name (a_name_of_a_type at x) rest = refl
