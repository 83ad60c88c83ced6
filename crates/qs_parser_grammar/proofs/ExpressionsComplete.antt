-- What has a reading as an expression is read so where there is room, whatever follows that does not go on with it.
use Rattle.std.proofs.Common.{◌≡◌, ℕ, zero, suc, ◌+◌, ◌<◌, ◌≤◌, Bool, true, false, List, [], ◌∷◌, ◌++◌, length, Option, Some, None, Result, Ok, Err, refl, sym, ap, subst, ◌∙◌, append_assoc, append-nil, arith, length-append}
use Rattle.std.specs.Prelude.{max, ◌==◌, ◌&&◌, ◌||◌, is_some, nat_le}
use Rattle.std.proofs.lemmas.Bool.{eq-eqb, ne_eqb, le-leb, leb-true, or_from, and_left, and_right, or_parts, false_from_ne_true}
use Rattle.qs_syntax_vocabulary.specs.declared.terminal.Terminal.{Terminal}
use Rattle.qs_syntax_vocabulary.specs.declared.terminal.Terminal.TheVariants.{Name, Keyword, Constant, Text, Punctuator}
use Rattle.qs_syntax_vocabulary.specs.declared.terminal.Terminal.TheVariants as terminals
use Rattle.qs_base.specs.declared.keyword.Keyword.TheVariants as keywords
use Rattle.qs_syntax_vocabulary.specs.declared.punctuator.Punctuator.TheVariants as punctuators
use Rattle.qs_syntax_vocabulary.specs.declared.operators.UnaryOperator.{UnaryOperator}
use Rattle.qs_syntax_vocabulary.specs.declared.operators.UnaryOperator.TheVariants as unaries
use Rattle.qs_syntax_vocabulary.specs.declared.operators.BinaryOperator.{BinaryOperator}
use Rattle.qs_syntax_vocabulary.specs.declared.operators.AssignmentOperator.{AssignmentOperator}
use Rattle.qs_syntax_vocabulary.specs.declared.operators.Access.{Access}
use Rattle.qs_syntax_vocabulary.specs.declared.operators.Access.TheVariants as accesses
use Rattle.qs_syntax_vocabulary.specs.declared.operators.StepOperator.TheVariants as steps
use Rattle.qs_syntax.specs.declared.types.TypeName.{TypeName}
use Rattle.qs_syntax.specs.Trees.{unnumbered, ExprTree, expr, ShapeTree, constant, text, name, unary, step, cast, sizeof_type, sizeof_expr, binary, assign, conditional, comma, subscript, member, call, Exprs, no_exprs, expr_and, exprs_of}
use Rattle.qs_syntax_vocabulary.specs.Operators.{punctuator_of_unary, punctuator_of_binary, precedence, weakest, conditional_precedence, assignment_precedence, comma_precedence, punctuator_of_assign, punctuator_of_access, binary_of, assign_of, access_of}
use Rattle.qs_syntax.specs.ReadsTypes.{ReadsTypeName, Any, ReadsName}
use Rattle.qs_syntax.specs.Reads.{Form, Postfix, Unary, Level, Conditional, Assignment, Expression, place, at_first, ReadsTexts, no_text, a_further_text, Reads, ReadsArguments, a_name, an_empty_call, a_call, a_constant, a_text, in_parentheses, an_index, a_member, an_increment_after, a_decrement_after, a_postfix, an_increment, a_decrement, an_operator, a_size_of_type, a_size_of_value, a_cast, an_operand, stronger, an_operation, a_plain_level, a_choice, a_plain_conditional, an_assignment, a_plain_assignment, a_comma, a_last_argument, an_argument}
use Rattle.qs_parser_grammar.specs.Heads.{is_punctuator, starts, begins_type, operator_at}
use Rattle.qs_parser_grammar.specs.Stops.{precedence_at, Stops}
use Rattle.qs_parser_grammar.specs.Parse as parse
use Rattle.qs_parser_grammar.specs.Parse.{Stop, Parse, read_on, E, begins_cast, texts_from, part, expression}
use Rattle.qs_parser_grammar.proofs.HeadsLaws.{punctuator_is, binary_punctuator, binary_precedence, assign_punctuator, assign_precedence, not_starts, binary_at_precedence, assign_at_precedence, access_at_precedence, finds_name}
use Rattle.qs_parser_grammar.proofs.TypesComplete.{finds_type_name, type_name_begins}
use Rattle.qs_parser_grammar.proofs.ExpressionsBegin.{arguments_no_parenthesis, place_more, no_cast, high, opens_high}

abbrev Out : Type 0
Out = Result (E × List Terminal) Stop

abbrev found : ExprTree → ℕ → List Terminal → Out
found t h rest = Ok ((t, h), rest)

-- a loop with turns enough for what is left
record Goes (rest : List Terminal) (P : ℕ → Type 0) : Type 0 where
  turns : ℕ
  enough : length rest ≤ turns
  is : P turns

Goes-map : {rest : List Terminal} {P Q : ℕ → Type 0} → ((n : ℕ) → P n → Q n) → Goes rest P → Goes rest Q
Goes-map f g = record { turns = g.turns; enough = g.enough; is = f g.turns g.is }

-- a text or a parenthesis goes on with some primary expressions
abbrev starts_text : List Terminal → Bool
starts_text [] = false
starts_text (Name at x ∷ ts) = false
starts_text (terminals.TypeName at x ∷ ts) = false
starts_text (Keyword at k ∷ ts) = false
starts_text (Constant at n unsigned ∷ ts) = false
starts_text (Text at bytes ∷ ts) = true
starts_text (Punctuator at m ∷ ts) = false

abbrev goes_on_primary : List Terminal → Bool
goes_on_primary ts = starts punctuators.OpenParenthesis ts || starts_text ts

no_text_stops : (rest : List Terminal) → 0 < precedence_at rest → starts_text rest ≡ false
no_text_stops [] lt = refl
no_text_stops (Name at x ∷ ts) lt = refl
no_text_stops (terminals.TypeName at x ∷ ts) lt = refl
no_text_stops (Keyword at k ∷ ts) lt = refl
no_text_stops (Constant at n unsigned ∷ ts) lt = refl
no_text_stops (Text at bytes ∷ ts) lt = absurd (omega arith)
no_text_stops (Punctuator at m ∷ ts) lt = refl

primary_stops : (rest : List Terminal) → 0 < precedence_at rest → goes_on_primary rest ≡ false
primary_stops rest lt = or_from (starts punctuators.OpenParenthesis rest) (starts_text rest) (not_starts punctuators.OpenParenthesis rest lt) (no_text_stops rest lt)

-- what reading comes to with room for `m` high parts, before tokens that do not go on with the tree
abbrev Claim : Form → ℕ → List Terminal → ExprTree → Type 0
Claim Postfix h f t = (m : ℕ) → h ≤ suc m → (rest : List Terminal) → goes_on_primary rest ≡ false → Goes rest (λ n. parse.postfix m (part m) (f ++ rest) ≡ parse.suffixes m (part m) n (place f) (t, h) rest)
Claim Unary h f t = (m : ℕ) → h ≤ suc m → (rest : List Terminal) → 0 < precedence_at rest → parse.unary_of_all m (part m) (f ++ rest) ≡ found t h rest
Claim (Level zero) h f t = (m : ℕ) → h ≤ suc m → (rest : List Terminal) → 0 < precedence_at rest → expression m (part m) (Level 0) (f ++ rest) ≡ found t h rest
Claim (Level (suc j)) h f t = (m : ℕ) → h ≤ suc m → (rest : List Terminal) → suc j ≤ precedence_at rest → Goes rest (λ n. expression m (part m) (Level (suc j)) (f ++ rest) ≡ parse.operations m (part m) n j (place f) (t, h) rest)
Claim Conditional h f t = (m : ℕ) → h ≤ suc m → (rest : List Terminal) → conditional_precedence < precedence_at rest → expression m (part m) Conditional (f ++ rest) ≡ found t h rest
Claim Assignment h f t = (m : ℕ) → h ≤ suc m → (rest : List Terminal) → assignment_precedence < precedence_at rest → expression m (part m) Assignment (f ++ rest) ≡ found t h rest
Claim Expression h f t = (m : ℕ) → h ≤ suc m → (rest : List Terminal) → assignment_precedence < precedence_at rest → Goes rest (λ n. expression m (part m) Expression (f ++ rest) ≡ parse.commas m (part m) n (place f) (t, h) rest)

read_on_assoc : {A B C : Type 0} (r : Result (A × List Terminal) Stop) (f : A → Parse B) (g : B → Parse C) → read_on r (λ x ts. read_on (f x ts) g) ≡ read_on (read_on r f) g
read_on_assoc (Ok x) f g = refl
read_on_assoc (Err e) f g = refl

some_room : (m : ℕ) → 0 < m → (m == 0) ≡ false
some_room m lt = ne_eqb m 0 (λ e. omega arith)

-- ---- where loops stop

no_access : (rest : List Terminal) → 0 < precedence_at rest → is_some (operator_at access_of rest) ≡ false
no_access rest lt = go (operator_at access_of rest) refl
  where
    go : (o : Option Access) → operator_at access_of rest ≡ o → is_some o ≡ false
    go None e = refl
    go (Some a) e = let same : precedence_at rest ≡ 0 = access_at_precedence rest a e in absurd (omega arith)

suffix_stops : (m : ℕ) (rest : List Terminal) → 0 < precedence_at rest → parse.begins_suffix m (part m) rest ≡ false
suffix_stops m rest lt =
    or_from (starts punctuators.OpenBracket rest) _ (not_starts punctuators.OpenBracket rest lt)
    (or_from _ _ (no_access rest lt) (or_from (starts punctuators.Increment rest) (starts punctuators.Decrement rest) (not_starts punctuators.Increment rest lt) (not_starts punctuators.Decrement rest lt)))

suffixes_stop : (m n start : ℕ) (a : E) (rest : List Terminal) → 0 < precedence_at rest → parse.suffixes m (part m) n start a rest ≡ Ok (a, rest)
unfolding parse.suffixes
suffixes_stop m zero start a rest lt = refl
suffixes_stop m (suc n) start a rest lt = rw (suffix_stops m rest lt) refl

no_operator : (m j : ℕ) (rest : List Terminal) → suc j < precedence_at rest → parse.of_level m (part m) j (operator_at binary_of rest) ≡ None
no_operator m j rest lt = go (operator_at binary_of rest) refl
  where
    go : (o : Option BinaryOperator) → operator_at binary_of rest ≡ o → parse.of_level m (part m) j o ≡ None
    go None e = refl
    go (Some operator) e = let same : precedence_at rest ≡ precedence operator = binary_at_precedence rest operator e in rw (ne_eqb (precedence operator) (j + 1) (λ d. omega arith)) refl

operations_stop : (m n j start : ℕ) (a : E) (rest : List Terminal) → suc j < precedence_at rest → parse.operations m (part m) n j start a rest ≡ Ok (a, rest)
unfolding parse.operations
operations_stop m zero j start a rest lt = refl
operations_stop m (suc n) j start a rest lt = rw (no_operator m j rest lt) refl

climb_stops : (m j start : ℕ) (a : E) (rest : List Terminal) → j < precedence_at rest → parse.climb m (part m) j start a rest ≡ Ok (a, rest)
unfolding parse.climb
climb_stops m zero start a rest lt = refl
climb_stops m (suc j) start a rest lt = rw (climb_stops m j start a rest (omega arith)) (operations_stop m (length rest) j start a rest lt)

commas_stop : (m n start : ℕ) (a : E) (rest : List Terminal) → comma_precedence < precedence_at rest → parse.commas m (part m) n start a rest ≡ Ok (a, rest)
unfolding parse.commas
commas_stop m zero start a rest lt = refl
commas_stop m (suc n) start a rest lt = rw (not_starts punctuators.Comma rest lt) refl

-- ---- from a claim to the part

level_found : (j h : ℕ) (f : List Terminal) (t : ExprTree) → Claim (Level j) h f t → (m : ℕ) → h ≤ suc m → (rest : List Terminal) → j < precedence_at rest → expression m (part m) (Level j) (f ++ rest) ≡ found t h rest
level_found zero h f t c m le rest stop = c m le rest stop
level_found (suc j) h f t c m le rest stop = let g = c m le rest (omega arith) in g.is ∙ operations_stop m g.turns j (place f) (t, h) rest stop

part_finds : (form : Form) (h : ℕ) (f : List Terminal) (t : ExprTree) → Claim form h f t → 0 < h → (n : ℕ) → h ≤ n → (rest : List Terminal) → Stops form rest → part n form (f ++ rest) ≡ found t h rest
unfolding part
part_finds form h f t c lt zero le rest stop = absurd (omega arith)
part_finds Postfix h f t c lt (suc m) le rest stop = unfold expression in (let g = c m le rest (primary_stops rest stop) in g.is ∙ suffixes_stop m g.turns (place f) (t, h) rest stop)
part_finds Unary h f t c lt (suc m) le rest stop = unfold expression in c m le rest stop
part_finds (Level j) h f t c lt (suc m) le rest stop = level_found j h f t c m le rest stop
part_finds Conditional h f t c lt (suc m) le rest stop = c m le rest stop
part_finds Assignment h f t c lt (suc m) le rest stop = c m le rest stop
part_finds Expression h f t c lt (suc m) le rest stop = let g = c m le rest (omega arith) in g.is ∙ commas_stop m g.turns (place f) (t, h) rest stop

-- ---- primary expressions

later : (t : ExprTree) (h k : ℕ) (rest : List Terminal) → h ≡ k → found t h rest ≡ found t k rest
later t h k rest e = ap (λ (n : ℕ). found t n rest) e

from_primary : (h : ℕ) (f : List Terminal) (t : ExprTree) (m : ℕ) (rest : List Terminal) → parse.primary m (part m) (f ++ rest) ≡ found t h rest → place (f ++ rest) ≡ place f
    → Goes rest (λ n. parse.postfix m (part m) (f ++ rest) ≡ parse.suffixes m (part m) n (place f) (t, h) rest)
from_primary h f t m rest e p = record { turns = length rest; enough = omega arith; is = rw (e, p) refl }

for_name : (at : ℕ) (x : List ℕ) → Claim Postfix 1 (Name at x ∷ []) (expr (unnumbered at) (name x))
unfolding parse.primary
for_name at x m le rest stop =
    let parts = or_parts (starts punctuators.OpenParenthesis rest) (starts_text rest) stop in
    from_primary 1 (Name at x ∷ []) (expr (unnumbered at) (name x)) m rest (rw (parts.0) refl) refl

for_empty_call : (at o c : ℕ) (f : List ℕ) → Claim Postfix 1 (Name at f ∷ Punctuator o punctuators.OpenParenthesis ∷ Punctuator c punctuators.CloseParenthesis ∷ []) (expr (unnumbered at) (call f no_exprs))
unfolding parse.primary
for_empty_call at o c f m le rest stop = from_primary 1 (Name at f ∷ Punctuator o punctuators.OpenParenthesis ∷ Punctuator c punctuators.CloseParenthesis ∷ []) (expr (unnumbered at) (call f no_exprs)) m rest refl refl

for_constant : (at n : ℕ) (unsigned : Bool) → Claim Postfix 1 (Constant at n unsigned ∷ []) (expr (unnumbered at) (constant n unsigned))
unfolding parse.primary
for_constant at n unsigned m le rest stop = from_primary 1 (Constant at n unsigned ∷ []) (expr (unnumbered at) (constant n unsigned)) m rest refl refl

texts_stop : (done : List ℕ) (rest : List Terminal) → starts_text rest ≡ false → texts_from done rest ≡ (done, rest)
unfolding texts_from
texts_stop done [] e = refl
texts_stop done (Name at x ∷ ts) e = refl
texts_stop done (terminals.TypeName at x ∷ ts) e = refl
texts_stop done (Keyword at k ∷ ts) e = refl
texts_stop done (Constant at n unsigned ∷ ts) e = refl
texts_stop done (Text at bytes ∷ ts) e = absurd cc
texts_stop done (Punctuator at m ∷ ts) e = refl

finds_texts : {f : List Terminal} {bytes : List ℕ} → ReadsTexts f bytes → (done : List ℕ) (rest : List Terminal) → starts_text rest ≡ false → texts_from done (f ++ rest) ≡ (done ++ bytes, rest)
unfolding texts_from
finds_texts no_text done rest e = texts_stop done rest e ∙ ap (λ (l : List ℕ). (l, rest)) (sym (append-nil done))
finds_texts (a_further_text {bytes = bytes} at first r) done rest e = finds_texts r (done ++ first) rest e ∙ ap (λ (l : List ℕ). (l, rest)) (append_assoc done first bytes)

for_text : {ts : List Terminal} {bytes : List ℕ} (at : ℕ) (first : List ℕ) → ReadsTexts ts bytes → Claim Postfix 1 (Text at first ∷ ts) (expr (unnumbered at) (text (first ++ bytes)))
unfolding parse.primary
for_text {ts} {bytes} at first r m le rest stop =
    let parts = or_parts (starts punctuators.OpenParenthesis rest) (starts_text rest) stop in
    from_primary 1 (Text at first ∷ ts) (expr (unnumbered at) (text (first ++ bytes))) m rest (rw (finds_texts r first rest parts.1) refl) refl

for_parentheses : {h : ℕ} {ts : List Terminal} {e : ExprTree} (o c : ℕ) → Reads Expression h ts e → Claim Expression h ts e → Claim Postfix (suc h) (Punctuator o punctuators.OpenParenthesis ∷ (ts ++ Punctuator c punctuators.CloseParenthesis ∷ [])) e
unfolding parse.primary
for_parentheses {h} {ts} {e} o c r claim m le rest stop =
    let lt : 0 < h = high r in
    let room : (m == 0) ≡ false = some_room m (omega arith) in
    let inner : part m Expression (ts ++ Punctuator c punctuators.CloseParenthesis ∷ rest) ≡ found e h (Punctuator c punctuators.CloseParenthesis ∷ rest) = part_finds Expression h ts e claim lt m (omega arith) (Punctuator c punctuators.CloseParenthesis ∷ rest) (omega arith) in
    from_primary (suc h) (Punctuator o punctuators.OpenParenthesis ∷ (ts ++ Punctuator c punctuators.CloseParenthesis ∷ [])) e m rest
    (rw (room, append_assoc ts (Punctuator c punctuators.CloseParenthesis ∷ []) rest, inner) (later e (h + 1) (suc h) rest (omega arith))) refl

-- ---- arguments

abbrev list_of : Exprs → List ExprTree
list_of no_exprs = []
list_of (expr_and e es) = e ∷ list_of es

exprs_list : (es : Exprs) → exprs_of (list_of es) ≡ es
exprs_list no_exprs = refl
exprs_list (expr_and e es) = ap (expr_and e) (exprs_list es)

abbrev ClaimArguments : ℕ → List Terminal → Exprs → Type 0
ClaimArguments h ts es = (m : ℕ) → h ≤ m → (n : ℕ) (done : List ExprTree) (k c : ℕ) (rest : List Terminal) → length (ts ++ Punctuator c punctuators.CloseParenthesis ∷ rest) ≤ n
    → parse.arguments m (part m) n done k (ts ++ Punctuator c punctuators.CloseParenthesis ∷ rest) ≡ Ok ((done ++ list_of es, max k h), rest)

for_last : {h : ℕ} {ts : List Terminal} {e : ExprTree} → Reads Assignment h ts e → Claim Assignment h ts e → ClaimArguments h ts (expr_and e no_exprs)
unfolding parse.arguments
for_last {h} {ts} {e} r claim m le zero done k c rest enough = absurd (omega (arith, length-append ts (Punctuator c punctuators.CloseParenthesis ∷ rest)))
for_last {h} {ts} {e} r claim m le (suc n) done k c rest enough = rw (part_finds Assignment h ts e claim (high r) m le (Punctuator c punctuators.CloseParenthesis ∷ rest) (omega arith)) refl

for_argument : {h k : ℕ} {xs ys : List Terminal} {e : ExprTree} {es : Exprs} (at : ℕ) → Reads Assignment h xs e → ReadsArguments k ys es → Claim Assignment h xs e → ClaimArguments k ys es → ClaimArguments (max h k) (xs ++ Punctuator at punctuators.Comma ∷ ys) (expr_and e es)
unfolding parse.arguments
for_argument {h} {k} {xs} {ys} {e} {es} at r s claim others m le zero done i c rest enough =
    absurd (omega (arith, length-append (xs ++ Punctuator at punctuators.Comma ∷ ys) (Punctuator c punctuators.CloseParenthesis ∷ rest)))
for_argument {h} {k} {xs} {ys} {e} {es} at r s claim others m le (suc n) done i c rest enough =
    let short : length (ys ++ Punctuator c punctuators.CloseParenthesis ∷ rest) ≤ n =
    omega (arith, length-append (xs ++ Punctuator at punctuators.Comma ∷ ys) (Punctuator c punctuators.CloseParenthesis ∷ rest), length-append xs (Punctuator at punctuators.Comma ∷ ys), length-append ys (Punctuator c punctuators.CloseParenthesis ∷ rest)) in
    rw (append_assoc xs (Punctuator at punctuators.Comma ∷ ys) (Punctuator c punctuators.CloseParenthesis ∷ rest), part_finds Assignment h xs e claim (high r) m (omega arith) (Punctuator at punctuators.Comma ∷ (ys ++ Punctuator c punctuators.CloseParenthesis ∷ rest)) (omega arith))
    (others m (omega arith) n (done ++ e ∷ []) (max i h) c rest short ∙ joined (append_assoc done (e ∷ []) (list_of es)) (omega arith))
  where
    joined : {a b : List ExprTree} {p q : ℕ} {rest : List Terminal} → a ≡ b → p ≡ q → ◌≡◌ {A = Result ((List ExprTree × ℕ) × List Terminal) Stop} (Ok ((a, p), rest)) (Ok ((b, q), rest))
    joined e d = cc

for_call : {h : ℕ} {ts : List Terminal} {es : Exprs} (at o c : ℕ) (f : List ℕ) → ReadsArguments h ts es → ClaimArguments h ts es
    → Claim Postfix (suc h) (Name at f ∷ Punctuator o punctuators.OpenParenthesis ∷ (ts ++ Punctuator c punctuators.CloseParenthesis ∷ [])) (expr (unnumbered at) (call f es))
unfolding parse.primary
for_call {h} {ts} {es} at o c f r claim m le rest stop =
    let no_end : starts punctuators.CloseParenthesis (ts ++ Punctuator c punctuators.CloseParenthesis ∷ rest) ≡ false = arguments_no_parenthesis r (Punctuator c punctuators.CloseParenthesis ∷ rest) in
    let inner : parse.arguments m (part m) (length (ts ++ Punctuator c punctuators.CloseParenthesis ∷ rest)) [] 0 (ts ++ Punctuator c punctuators.CloseParenthesis ∷ rest) ≡ Ok ((list_of es, max 0 h), rest) =
    claim m (omega arith) (length (ts ++ Punctuator c punctuators.CloseParenthesis ∷ rest)) [] 0 c rest (omega arith) in
    from_primary (suc h) (Name at f ∷ Punctuator o punctuators.OpenParenthesis ∷ (ts ++ Punctuator c punctuators.CloseParenthesis ∷ [])) (expr (unnumbered at) (call f es)) m rest
    (rw (append_assoc ts (Punctuator c punctuators.CloseParenthesis ∷ []) rest, no_end, inner, exprs_list es) (later (expr (unnumbered at) (call f es)) (max 0 h + 1) (suc h) rest (omega arith))) refl

-- ---- suffixes

suffix_turn : (m n start : ℕ) (a x : E) (t : Terminal) (ts us : List Terminal) → parse.begins_suffix m (part m) (t ∷ ts) ≡ true → a.1 ≤ m → parse.suffix m (part m) start a (t ∷ ts) ≡ Ok (x, us)
    → length (t ∷ ts) ≤ n → length us ≤ length ts → Goes us (λ k. parse.suffixes m (part m) n start a (t ∷ ts) ≡ parse.suffixes m (part m) k start x us)
unfolding parse.suffixes
suffix_turn m zero start a x t ts us b le e enough short = absurd (omega arith)
suffix_turn m (suc n) start a x t ts us b le e enough short = record { turns = n; enough = omega arith; is = rw (b, le-leb (a.1) m le, e) refl }

-- a further suffix, where its reading is known
for_suffix : (h k : ℕ) (xs more : List Terminal) (a : ExprTree) (shape : ShapeTree) (m : ℕ) (t : Terminal) (ts rest : List Terminal) → Reads Postfix h xs a → Claim Postfix h xs a → h ≤ m → goes_on_primary (t ∷ ts) ≡ false
    → (xs ++ more) ++ rest ≡ xs ++ t ∷ ts → parse.begins_suffix m (part m) (t ∷ ts) ≡ true → parse.suffix m (part m) (place xs) (a, h) (t ∷ ts) ≡ found (at_first xs shape) k rest → length rest ≤ length ts
    → Goes rest (λ n. parse.postfix m (part m) ((xs ++ more) ++ rest) ≡ parse.suffixes m (part m) n (place (xs ++ more)) (at_first xs shape, k) rest)
for_suffix h k xs more a shape m t ts rest r claim le stop spelled b e short =
    let g = claim m (omega arith) (t ∷ ts) stop in
    let turn : Goes rest (λ n. parse.suffixes m (part m) g.turns (place xs) (a, h) (t ∷ ts) ≡ parse.suffixes m (part m) n (place xs) (at_first xs shape, k) rest) =
    suffix_turn m g.turns (place xs) (a, h) (at_first xs shape, k) t ts rest b le e g.enough short in
    Goes-map
    (λ n d. ap (parse.postfix m (part m)) spelled ∙ g.is ∙ d ∙ ap (λ s. parse.suffixes m (part m) n s (at_first xs shape, k) rest) (sym (place_more r more))) turn

for_index : {h k : ℕ} {xs ys : List Terminal} {a b : ExprTree} (o c : ℕ) → Reads Postfix h xs a → Reads Expression k ys b → Claim Postfix h xs a → Claim Expression k ys b
    → Claim Postfix (suc (max h k)) (xs ++ Punctuator o punctuators.OpenBracket ∷ (ys ++ Punctuator c punctuators.CloseBracket ∷ [])) (at_first xs (subscript a b))
for_index {h} {k} {xs} {ys} {a} {b} o c r s claim inner m le rest stop =
    let within : part m Expression (ys ++ Punctuator c punctuators.CloseBracket ∷ rest) ≡ found b k (Punctuator c punctuators.CloseBracket ∷ rest) = part_finds Expression k ys b inner (high s) m (omega arith) (Punctuator c punctuators.CloseBracket ∷ rest) (omega arith) in
    for_suffix h (suc (max h k)) xs (Punctuator o punctuators.OpenBracket ∷ (ys ++ Punctuator c punctuators.CloseBracket ∷ [])) a (subscript a b) m (Punctuator o punctuators.OpenBracket) (ys ++ Punctuator c punctuators.CloseBracket ∷ rest) rest r claim (omega arith) refl
    (simp append_assoc) refl (rw within (later (at_first xs (subscript a b)) (max h k + 1) (suc (max h k)) rest (omega arith))) (omega (arith, length-append ys (Punctuator c punctuators.CloseBracket ∷ rest)))

access_no_primary : (access : Access) (d : ℕ) (ts : List Terminal) → goes_on_primary (Punctuator d (punctuator_of_access access) ∷ ts) ≡ false
access_no_primary accesses.Dot d ts = refl
access_no_primary accesses.Arrow d ts = refl

access_begins : (m : ℕ) (access : Access) (d : ℕ) (ts : List Terminal) → parse.begins_suffix m (part m) (Punctuator d (punctuator_of_access access) ∷ ts) ≡ true
access_begins m accesses.Dot d ts = refl
access_begins m accesses.Arrow d ts = refl

access_suffix : {t : Terminal} {n : ℕ} {x : List ℕ} (m : ℕ) (access : Access) (d : ℕ) → ReadsName Any t n x → (start : ℕ) (a : ExprTree) (h : ℕ) (rest : List Terminal)
    → parse.suffix m (part m) start (a, h) (Punctuator d (punctuator_of_access access) ∷ t ∷ rest) ≡ found (expr (unnumbered start) (member access a x)) (h + 1) rest
access_suffix m accesses.Dot d called start a h rest = rw (finds_name called rest) refl
access_suffix m accesses.Arrow d called start a h rest = rw (finds_name called rest) refl

for_member : {h n : ℕ} {xs : List Terminal} {t : Terminal} {a : ExprTree} {x : List ℕ} (access : Access) (d : ℕ) → Reads Postfix h xs a → ReadsName Any t n x → Claim Postfix h xs a
    → Claim Postfix (suc h) (xs ++ Punctuator d (punctuator_of_access access) ∷ t ∷ []) (at_first xs (member access a x))
for_member {h} {n} {xs} {t} {a} {x} access d r called claim m le rest stop =
    for_suffix h (suc h) xs (Punctuator d (punctuator_of_access access) ∷ t ∷ []) a (member access a x) m (Punctuator d (punctuator_of_access access)) (t ∷ rest) rest r claim (omega arith) (access_no_primary access d (t ∷ rest))
    (simp append_assoc) (access_begins m access d (t ∷ rest)) (access_suffix m access d called (place xs) a h rest ∙ later (at_first xs (member access a x)) (h + 1) (suc h) rest (omega arith)) (omega arith)

for_increment_after : {h : ℕ} {xs : List Terminal} {a : ExprTree} (s : ℕ) → Reads Postfix h xs a → Claim Postfix h xs a → Claim Postfix (suc h) (xs ++ Punctuator s punctuators.Increment ∷ []) (at_first xs (step steps.IncrementAfter a))
for_increment_after {h} {xs} {a} s r claim m le rest stop =
    for_suffix h (suc h) xs (Punctuator s punctuators.Increment ∷ []) a (step steps.IncrementAfter a) m (Punctuator s punctuators.Increment) rest rest r claim (omega arith) refl
    (simp append_assoc) refl (later (at_first xs (step steps.IncrementAfter a)) (h + 1) (suc h) rest (omega arith)) (omega arith)

for_decrement_after : {h : ℕ} {xs : List Terminal} {a : ExprTree} (s : ℕ) → Reads Postfix h xs a → Claim Postfix h xs a → Claim Postfix (suc h) (xs ++ Punctuator s punctuators.Decrement ∷ []) (at_first xs (step steps.DecrementAfter a))
for_decrement_after {h} {xs} {a} s r claim m le rest stop =
    for_suffix h (suc h) xs (Punctuator s punctuators.Decrement ∷ []) a (step steps.DecrementAfter a) m (Punctuator s punctuators.Decrement) rest rest r claim (omega arith) refl
    (simp append_assoc) refl (later (at_first xs (step steps.DecrementAfter a)) (h + 1) (suc h) rest (omega arith)) (omega arith)

-- ---- unary operators

-- how a postfix expression begins
abbrev begins_postfix : List Terminal → Bool
begins_postfix [] = false
begins_postfix (Name at x ∷ ts) = true
begins_postfix (terminals.TypeName at x ∷ ts) = false
begins_postfix (Keyword at k ∷ ts) = false
begins_postfix (Constant at n unsigned ∷ ts) = true
begins_postfix (Text at bytes ∷ ts) = true
begins_postfix (Punctuator at k ∷ ts) = is_punctuator punctuators.OpenParenthesis (Punctuator at k)

abbrev is_postfix : Form → Bool
is_postfix Postfix = true
is_postfix Unary = false
is_postfix (Level j) = false
is_postfix Conditional = false
is_postfix Assignment = false
is_postfix Expression = false

postfix_begins_at : {form : Form} {h : ℕ} {ts : List Terminal} {e : ExprTree} → Reads form h ts e → is_postfix form ≡ true → (us : List Terminal) → begins_postfix (ts ++ us) ≡ true
postfix_begins_at (a_name at x) p us = refl
postfix_begins_at (an_empty_call at o c f) p us = refl
postfix_begins_at (a_call at o c f r) p us = refl
postfix_begins_at (a_constant at n unsigned) p us = refl
postfix_begins_at (a_text at first r) p us = refl
postfix_begins_at (in_parentheses o c r) p us = refl
postfix_begins_at (an_index {ys = ys} o c r s) p us = rw append_assoc (postfix_begins_at r refl (Punctuator o punctuators.OpenBracket ∷ ((ys ++ Punctuator c punctuators.CloseBracket ∷ []) ++ us)))
postfix_begins_at (a_member {t = t} access d r called) p us = rw append_assoc (postfix_begins_at r refl (Punctuator d (punctuator_of_access access) ∷ t ∷ us))
postfix_begins_at (an_increment_after s r) p us = rw append_assoc (postfix_begins_at r refl (Punctuator s punctuators.Increment ∷ us))
postfix_begins_at (a_decrement_after s r) p us = rw append_assoc (postfix_begins_at r refl (Punctuator s punctuators.Decrement ∷ us))
postfix_begins_at (a_postfix r) p us = absurd cc
postfix_begins_at (an_increment at r) p us = absurd cc
postfix_begins_at (a_decrement at r) p us = absurd cc
postfix_begins_at (an_operator operator at r) p us = absurd cc
postfix_begins_at (a_size_of_type at o c r) p us = absurd cc
postfix_begins_at (a_size_of_value at r) p us = absurd cc
postfix_begins_at (a_cast at c t r) p us = absurd cc
postfix_begins_at (an_operand r) p us = absurd cc
postfix_begins_at (stronger r) p us = absurd cc
postfix_begins_at (an_operation operator at w r s) p us = absurd cc
postfix_begins_at (a_plain_level r) p us = absurd cc
postfix_begins_at (a_choice q s a b c) p us = absurd cc
postfix_begins_at (a_plain_conditional r) p us = absurd cc
postfix_begins_at (an_assignment operator at r s) p us = absurd cc
postfix_begins_at (a_plain_assignment r) p us = absurd cc
postfix_begins_at (a_comma at r s) p us = absurd cc

unary_is_postfix : (m : ℕ) (ts : List Terminal) → begins_postfix ts ≡ true → parse.unary_of_all m (part m) ts ≡ parse.postfix m (part m) ts
unfolding parse.unary_of_all
unary_is_postfix m [] e = absurd cc
unary_is_postfix m (Name at x ∷ ts) e = refl
unary_is_postfix m (terminals.TypeName at x ∷ ts) e = absurd cc
unary_is_postfix m (Keyword at k ∷ ts) e = absurd cc
unary_is_postfix m (Constant at n unsigned ∷ ts) e = refl
unary_is_postfix m (Text at bytes ∷ ts) e = refl
unary_is_postfix m (Punctuator at k ∷ ts) e = subst (λ u. parse.unary_of_all m (part m) (u ∷ ts) ≡ parse.postfix m (part m) (u ∷ ts)) (sym (punctuator_is punctuators.OpenParenthesis (Punctuator at k) e)) refl

for_postfix : {h : ℕ} {ts : List Terminal} {e : ExprTree} → Reads Postfix h ts e → Claim Postfix h ts e → Claim Unary h ts e
for_postfix {h} {ts} {e} r claim m le rest stop =
    let g = claim m le rest (primary_stops rest stop) in
    unary_is_postfix m (ts ++ rest) (postfix_begins_at r refl rest) ∙ g.is ∙ suffixes_stop m g.turns (place ts) (e, h) rest stop

for_increment : {h : ℕ} {ts : List Terminal} {e : ExprTree} (at : ℕ) → Reads Unary h ts e → Claim Unary h ts e → Claim Unary (suc h) (Punctuator at punctuators.Increment ∷ ts) (expr (unnumbered at) (step steps.IncrementBefore e))
unfolding parse.unary_of_all
for_increment {h} {ts} {e} at r claim m le rest stop =
    let lt : 0 < h = high r in
    let room : (m == 0) ≡ false = some_room m (omega arith) in
    rw (room, part_finds Unary h ts e claim lt m (omega arith) rest stop) (later (expr (unnumbered at) (step steps.IncrementBefore e)) (h + 1) (suc h) rest (omega arith))

for_decrement : {h : ℕ} {ts : List Terminal} {e : ExprTree} (at : ℕ) → Reads Unary h ts e → Claim Unary h ts e → Claim Unary (suc h) (Punctuator at punctuators.Decrement ∷ ts) (expr (unnumbered at) (step steps.DecrementBefore e))
unfolding parse.unary_of_all
for_decrement {h} {ts} {e} at r claim m le rest stop =
    let lt : 0 < h = high r in
    let room : (m == 0) ≡ false = some_room m (omega arith) in
    rw (room, part_finds Unary h ts e claim lt m (omega arith) rest stop) (later (expr (unnumbered at) (step steps.DecrementBefore e)) (h + 1) (suc h) rest (omega arith))

operator_first : (m : ℕ) (operator : UnaryOperator) (at : ℕ) (ts : List Terminal) → parse.unary_of_all m (part m) (Punctuator at (punctuator_of_unary operator) ∷ ts) ≡ parse.unary_operator_at m (part m) at (Some operator) (punctuator_of_unary operator) ts
unfolding parse.unary_of_all
operator_first m unaries.Address at ts = refl
operator_first m unaries.Indirect at ts = refl
operator_first m unaries.Plus at ts = refl
operator_first m unaries.Minus at ts = refl
operator_first m unaries.Complement at ts = refl
operator_first m unaries.Not at ts = refl

for_operator : {h : ℕ} {ts : List Terminal} {e : ExprTree} (operator : UnaryOperator) (at : ℕ) → Reads (Level 0) h ts e → Claim (Level 0) h ts e → Claim Unary (suc h) (Punctuator at (punctuator_of_unary operator) ∷ ts) (expr (unnumbered at) (unary operator e))
for_operator {h} {ts} {e} operator at r claim m le rest stop =
    let lt : 0 < h = high r in
    let room : (m == 0) ≡ false = some_room m (omega arith) in
    operator_first m operator at (ts ++ rest) ∙ rw (room, part_finds (Level 0) h ts e claim lt m (omega arith) rest stop) (later (expr (unnumbered at) (unary operator e)) (h + 1) (suc h) rest (omega arith))

size_of_first : (m at : ℕ) (ts : List Terminal) → parse.unary_of_all m (part m) (Keyword at keywords.Sizeof ∷ ts) ≡ parse.size_of m (part m) at ts
unfolding parse.unary_of_all
size_of_first m at ts = refl

for_size_of_type : {ts : List Terminal} {t : TypeName} (at o c : ℕ) → ReadsTypeName ts t → Claim Unary 1 (Keyword at keywords.Sizeof ∷ Punctuator o punctuators.OpenParenthesis ∷ (ts ++ Punctuator c punctuators.CloseParenthesis ∷ [])) (expr (unnumbered at) (sizeof_type t))
for_size_of_type {ts} {t} at o c r m le rest stop =
    let before : begins_cast (Punctuator o punctuators.OpenParenthesis ∷ (ts ++ Punctuator c punctuators.CloseParenthesis ∷ rest)) ≡ true = type_name_begins r (Punctuator c punctuators.CloseParenthesis ∷ rest) in
    ap (λ l. parse.unary_of_all m (part m) (Keyword at keywords.Sizeof ∷ Punctuator o punctuators.OpenParenthesis ∷ l)) (append_assoc ts (Punctuator c punctuators.CloseParenthesis ∷ []) rest)
    ∙ size_of_first m at (Punctuator o punctuators.OpenParenthesis ∷ (ts ++ Punctuator c punctuators.CloseParenthesis ∷ rest))
    ∙ size_of_type m at o (ts ++ Punctuator c punctuators.CloseParenthesis ∷ rest) t c rest before (finds_type_name r (Punctuator c punctuators.CloseParenthesis ∷ rest) refl)
  where
    size_of_type : (m at o : ℕ) (ts : List Terminal) (t : TypeName) (c : ℕ) (rest : List Terminal) → begins_cast (Punctuator o punctuators.OpenParenthesis ∷ ts) ≡ true → parse.type_name ts ≡ Ok (t, Punctuator c punctuators.CloseParenthesis ∷ rest)
        → parse.size_of m (part m) at (Punctuator o punctuators.OpenParenthesis ∷ ts) ≡ found (expr (unnumbered at) (sizeof_type t)) 1 rest
    size_of_type m at o ts t c rest before e = rw (before, e) refl

-- a parenthesis that an operand begins with has levels for it
not_at_limit : (m : ℕ) (b : Bool) → (b ≡ true → 2 ≤ m) → (nat_le m 1 && b) ≡ false
not_at_limit m false h = and_right (nat_le m 1) false refl
not_at_limit m true h = and_left (nat_le m 1) true (false_from_ne_true (nat_le m 1) (λ e. omega (arith, leb-true m 1 e, h refl)))

for_size_of_value : {h : ℕ} {ts : List Terminal} {e : ExprTree} (at : ℕ) → Reads Unary h ts e → Claim Unary h ts e → Claim Unary (suc h) (Keyword at keywords.Sizeof ∷ ts) (expr (unnumbered at) (sizeof_expr e))
for_size_of_value {h} {ts} {e} at r claim m le rest stop =
    let lt : 0 < h = high r in
    let plain : begins_cast (ts ++ rest) ≡ false = no_cast r rest in
    let room : (nat_le m 1 && starts punctuators.OpenParenthesis (ts ++ rest)) ≡ false = not_at_limit m (starts punctuators.OpenParenthesis (ts ++ rest)) (λ e. let two : 2 ≤ h = opens_high r rest e in omega arith) in
    size_of_first m at (ts ++ rest)
    ∙ rw (plain, room, part_finds Unary h ts e claim lt m (omega arith) rest stop) (later (expr (unnumbered at) (sizeof_expr e)) (h + 1) (suc h) rest (omega arith))

-- ---- casts

for_cast : {h : ℕ} {ts us : List Terminal} {t : TypeName} {e : ExprTree} (at c : ℕ) → ReadsTypeName ts t → Reads (Level 0) h us e → Claim (Level 0) h us e
    → Claim (Level 0) (suc h) (Punctuator at punctuators.OpenParenthesis ∷ (ts ++ Punctuator c punctuators.CloseParenthesis ∷ us)) (expr (unnumbered at) (cast t e))
unfolding expression parse.climb
for_cast {h} {ts} {us} {t} {e} at c r s claim m le rest stop =
    let lt : 0 < h = high s in
    let room : (m == 0) ≡ false = some_room m (omega arith) in
    let before : begins_type (ts ++ Punctuator c punctuators.CloseParenthesis ∷ (us ++ rest)) ≡ true = type_name_begins r (Punctuator c punctuators.CloseParenthesis ∷ (us ++ rest)) in
    let type : parse.type_name (ts ++ Punctuator c punctuators.CloseParenthesis ∷ (us ++ rest)) ≡ Ok (t, Punctuator c punctuators.CloseParenthesis ∷ (us ++ rest)) = finds_type_name r (Punctuator c punctuators.CloseParenthesis ∷ (us ++ rest)) refl in
    let inner : part m (Level 0) (us ++ rest) ≡ found e h rest = part_finds (Level 0) h us e claim lt m (omega arith) rest stop in
    ap (λ l. expression m (part m) (Level 0) (Punctuator at punctuators.OpenParenthesis ∷ l)) (append_assoc ts (Punctuator c punctuators.CloseParenthesis ∷ us) rest)
    ∙ ap (λ r. read_on r (parse.climb m (part m) 0 at)) (cast_read m at (ts ++ Punctuator c punctuators.CloseParenthesis ∷ (us ++ rest)) t c (us ++ rest) e h rest before room type inner)
    ∙ later (expr (unnumbered at) (cast t e)) (h + 1) (suc h) rest (omega arith)
  where
    cast_read : (m at : ℕ) (ts : List Terminal) (t : TypeName) (c : ℕ) (us : List Terminal) (e : ExprTree) (h : ℕ) (rest : List Terminal) → begins_type ts ≡ true → (m == 0) ≡ false → parse.type_name ts ≡ Ok (t, Punctuator c punctuators.CloseParenthesis ∷ us)
        → part m (Level 0) us ≡ found e h rest → parse.cast_or_unary m (part m) (Punctuator at punctuators.OpenParenthesis ∷ ts) ≡ found (expr (unnumbered at) (cast t e)) (h + 1) rest
    cast_read m at ts t c us e h rest before room type inner = rw (before, room, type, inner) refl

for_operand : {h : ℕ} {ts : List Terminal} {e : ExprTree} → Reads Unary h ts e → Claim Unary h ts e → Claim (Level 0) h ts e
unfolding expression parse.climb
for_operand {h} {ts} {e} r claim m le rest stop = let plain : begins_cast (ts ++ rest) ≡ false = no_cast r rest in rw (plain, claim m le rest stop) refl

-- ---- operators between operands

level_suc : (m j : ℕ) (l : List Terminal) → expression m (part m) (Level (suc j)) l ≡ read_on (expression m (part m) (Level j) l) (λ b us. parse.operations m (part m) (length us) j (place l) b us)
unfolding expression parse.climb
level_suc m j l = read_on_assoc (parse.cast_or_unary m (part m) l) (parse.climb m (part m) j (place l)) (λ b us. parse.operations m (part m) (length us) j (place l) b us)

for_stronger : {j h : ℕ} {ts : List Terminal} {e : ExprTree} → Reads (Level j) h ts e → Claim (Level j) h ts e → Claim (Level (suc j)) h ts e
for_stronger {j} {h} {ts} {e} r claim m le rest stop = record {
  turns = length rest;
  enough = omega arith;
  is = level_suc m j (ts ++ rest) ∙ ap (λ q. read_on q (λ b us. parse.operations m (part m) (length us) j (place (ts ++ rest)) b us)) (level_found j h ts e claim m le rest stop)
      ∙ ap (λ s. parse.operations m (part m) (length rest) j s (e, h) rest) (place_more r rest);
}

operation_turn : (m n j start : ℕ) (a b : ExprTree) (h k : ℕ) (operator : BinaryOperator) (at : ℕ) (ts rest : List Terminal) → precedence operator ≡ suc j → h ≤ m → part m (Level j) ts ≡ found b k rest → length (Punctuator at (punctuator_of_binary operator) ∷ ts) ≤ n → length rest ≤ length ts
    → Goes rest (λ i. parse.operations m (part m) n j start (a, h) (Punctuator at (punctuator_of_binary operator) ∷ ts) ≡ parse.operations m (part m) i j start (expr (unnumbered start) (binary operator a b), max h k + 1) rest)
unfolding parse.operations
operation_turn m zero j start a b h k operator at ts rest w le e enough short = absurd (omega arith)
operation_turn m (suc n) j start a b h k operator at ts rest w le e enough short = record {
  turns = n;
  enough = omega arith;
  is = rw (binary_punctuator operator, eq-eqb (precedence operator) (j + 1) (omega arith), le-leb h m le, e) refl;
}

for_operation : {j h k : ℕ} {xs ys : List Terminal} {a b : ExprTree} (operator : BinaryOperator) (at : ℕ) → precedence operator ≡ suc j → Reads (Level (suc j)) h xs a → Reads (Level j) k ys b → Claim (Level (suc j)) h xs a → Claim (Level j) k ys b
    → Claim (Level (suc j)) (suc (max h k)) (xs ++ Punctuator at (punctuator_of_binary operator) ∷ ys) (at_first xs (binary operator a b))
for_operation {j} {h} {k} {xs} {ys} {a} {b} operator at w r s left right m le rest stop =
    let ahead : precedence_at (Punctuator at (punctuator_of_binary operator) ∷ (ys ++ rest)) ≡ precedence operator = binary_precedence operator in
    let g = left m (omega arith) (Punctuator at (punctuator_of_binary operator) ∷ (ys ++ rest)) (omega arith) in
    let inner : part m (Level j) (ys ++ rest) ≡ found b k rest = part_finds (Level j) k ys b right (high s) m (omega arith) rest (omega arith) in
    let turn : Goes rest (λ i. parse.operations m (part m) g.turns j (place xs) (a, h) (Punctuator at (punctuator_of_binary operator) ∷ (ys ++ rest)) ≡ parse.operations m (part m) i j (place xs) (at_first xs (binary operator a b), max h k + 1) rest) =
    operation_turn m g.turns j (place xs) a b h k operator at (ys ++ rest) rest w (omega arith) inner g.enough (omega (arith, length-append ys rest)) in
    Goes-map
    (λ n d. ap (expression m (part m) (Level (suc j))) (append_assoc xs (Punctuator at (punctuator_of_binary operator) ∷ ys) rest) ∙ g.is ∙ d
    ∙ same_turn (sym (place_more r (Punctuator at (punctuator_of_binary operator) ∷ ys))) (omega arith) n) turn
  where
    same_turn : {s t p q : ℕ} → s ≡ t → p ≡ q → (n : ℕ) → parse.operations m (part m) n j s (at_first xs (binary operator a b), p) rest ≡ parse.operations m (part m) n j t (at_first xs (binary operator a b), q) rest
    same_turn e d n = cc

-- ---- conditional

after_or_reads : (m : ℕ) (l rest : List Terminal) (t : ExprTree) (h : ℕ) → expression m (part m) (Level weakest) l ≡ found t h rest → expression m (part m) Conditional l ≡ parse.after_or m (part m) (place l) (t, h) rest
unfolding expression
after_or_reads m l rest t h e =
    read_on_assoc (parse.cast_or_unary m (part m) l) (parse.climb m (part m) weakest (place l)) (parse.after_or m (part m) (place l)) ∙ ap (λ q. read_on q (parse.after_or m (part m) (place l))) e

for_plain_level : {h : ℕ} {ts : List Terminal} {e : ExprTree} → Reads (Level weakest) h ts e → Claim (Level weakest) h ts e → Claim Conditional h ts e
for_plain_level {h} {ts} {e} r claim m le rest stop =
    after_or_reads m (ts ++ rest) rest e h (level_found weakest h ts e claim m le rest (omega arith)) ∙ rw (not_starts punctuators.Question rest stop) refl

for_choice : {h k l : ℕ} {xs ys zs : List Terminal} {a b c : ExprTree} (q s : ℕ) → Reads (Level weakest) h xs a → Reads Expression k ys b → Reads Conditional l zs c → Claim (Level weakest) h xs a → Claim Expression k ys b → Claim Conditional l zs c
    → Claim Conditional (suc (max h (max k l))) (xs ++ Punctuator q punctuators.Question ∷ (ys ++ Punctuator s punctuators.Colon ∷ zs)) (at_first xs (conditional a b c))
for_choice {h} {k} {l} {xs} {ys} {zs} {a} {b} {c} q s ra rb rc first second third m le rest stop =
    let low : h ≤ m = omega arith in
    let condition : expression m (part m) (Level weakest) (xs ++ Punctuator q punctuators.Question ∷ (ys ++ Punctuator s punctuators.Colon ∷ (zs ++ rest))) ≡ found a h (Punctuator q punctuators.Question ∷ (ys ++ Punctuator s punctuators.Colon ∷ (zs ++ rest))) =
    level_found weakest h xs a first m (omega arith) (Punctuator q punctuators.Question ∷ (ys ++ Punctuator s punctuators.Colon ∷ (zs ++ rest))) (omega arith) in
    let inner : part m Expression (ys ++ Punctuator s punctuators.Colon ∷ (zs ++ rest)) ≡ found b k (Punctuator s punctuators.Colon ∷ (zs ++ rest)) = part_finds Expression k ys b second (high rb) m (omega arith) (Punctuator s punctuators.Colon ∷ (zs ++ rest)) (omega arith) in
    let last : part m Conditional (zs ++ rest) ≡ found c l rest = part_finds Conditional l zs c third (high rc) m (omega arith) rest stop in
    ap (expression m (part m) Conditional) (spelled xs ys zs rest (Punctuator q punctuators.Question) (Punctuator s punctuators.Colon))
    ∙ after_or_reads m (xs ++ Punctuator q punctuators.Question ∷ (ys ++ Punctuator s punctuators.Colon ∷ (zs ++ rest))) (Punctuator q punctuators.Question ∷ (ys ++ Punctuator s punctuators.Colon ∷ (zs ++ rest))) a h condition
    ∙ rw (le-leb h m low, inner, last, place_more ra (Punctuator q punctuators.Question ∷ (ys ++ Punctuator s punctuators.Colon ∷ (zs ++ rest)))) (later (at_first xs (conditional a b c)) (max h (max k l) + 1) (suc (max h (max k l))) rest (omega arith))
  where
    spelled : (xs ys zs rest : List Terminal) (t u : Terminal) → (xs ++ t ∷ (ys ++ u ∷ zs)) ++ rest ≡ xs ++ t ∷ (ys ++ u ∷ (zs ++ rest))
    spelled xs ys zs rest t u = simp append_assoc

-- ---- assignment

no_rest : (a b : E) (us rest : List Terminal) → ◌≡◌ {A = Out} (Ok (a, us)) (Ok (b, rest)) → us ≡ rest
no_rest a b us rest e = let pair : ◌≡◌ {A = E × List Terminal} (a, us) (b, rest) = cc in ap (λ (p : E × List Terminal). p.1) pair

plain_same : (m start : ℕ) (r : Out) (t : ExprTree) (h : ℕ) (rest : List Terminal) → read_on r (parse.after_operand m (part m) start) ≡ found t h rest → assignment_precedence < precedence_at rest → read_on r (parse.after_unary m (part m) start) ≡ found t h rest
plain_same m start (Err e) t h rest eq stop = eq
plain_same m start (Ok x) t h rest eq stop = go (operator_at assign_of x.1) refl
  where
    go : (o : Option AssignmentOperator) → operator_at assign_of x.1 ≡ o → parse.assignment_of m (part m) start x.0 o x.1 ≡ found t h rest
    go None e = eq
    go (Some operator) e =
        let ahead : precedence_at x.1 ≡ assignment_precedence = assign_at_precedence x.1 operator e in
        let stays : parse.after_operand m (part m) start x.0 x.1 ≡ Ok (x.0, x.1) = rw (climb_stops m weakest start x.0 x.1 (omega arith), not_starts punctuators.Question x.1 (omega arith)) refl in
        let same : precedence_at x.1 ≡ precedence_at rest = ap precedence_at (no_rest x.0 (t, h) x.1 rest (sym stays ∙ eq)) in
        absurd (omega arith)

for_plain_conditional : {h : ℕ} {ts : List Terminal} {e : ExprTree} → Reads Conditional h ts e → Claim Conditional h ts e → Claim Assignment h ts e
unfolding expression
for_plain_conditional {h} {ts} {e} r claim m le rest stop = go (begins_cast (ts ++ rest)) refl (claim m le rest (omega arith))
  where
    go : (b : Bool) → begins_cast (ts ++ rest) ≡ b → read_on (parse.cast_or_unary m (part m) (ts ++ rest)) (parse.after_operand m (part m) (place (ts ++ rest))) ≡ found e h rest → parse.assignment m (part m) (ts ++ rest) ≡ found e h rest
    go true c d = rw c (rw c at d)
    go false c d = rw c (plain_same m (place (ts ++ rest)) (parse.unary_of_all m (part m) (ts ++ rest)) e h rest (rw c at d) stop)

for_assignment : {h k : ℕ} {xs ys : List Terminal} {a b : ExprTree} (operator : AssignmentOperator) (at : ℕ) → Reads Unary h xs a → Reads Assignment k ys b → Claim Unary h xs a → Claim Assignment k ys b
    → Claim Assignment (suc (max h k)) (xs ++ Punctuator at (punctuator_of_assign operator) ∷ ys) (at_first xs (assign operator a b))
unfolding expression
for_assignment {h} {k} {xs} {ys} {a} {b} operator at r s left right m le rest stop =
    let low : h ≤ m = omega arith in
    let ahead : precedence_at (Punctuator at (punctuator_of_assign operator) ∷ (ys ++ rest)) ≡ assignment_precedence = assign_precedence operator in
    let target : parse.unary_of_all m (part m) (xs ++ Punctuator at (punctuator_of_assign operator) ∷ (ys ++ rest)) ≡ found a h (Punctuator at (punctuator_of_assign operator) ∷ (ys ++ rest)) = left m (omega arith) (Punctuator at (punctuator_of_assign operator) ∷ (ys ++ rest)) (omega arith) in
    let inner : part m Assignment (ys ++ rest) ≡ found b k rest = part_finds Assignment k ys b right (high s) m (omega arith) rest stop in
    ap (parse.assignment m (part m)) (append_assoc xs (Punctuator at (punctuator_of_assign operator) ∷ ys) rest)
    ∙ rw (no_cast r (Punctuator at (punctuator_of_assign operator) ∷ (ys ++ rest)), target, assign_punctuator operator, le-leb h m low, inner, place_more r (Punctuator at (punctuator_of_assign operator) ∷ (ys ++ rest)))
    (later (at_first xs (assign operator a b)) (max h k + 1) (suc (max h k)) rest (omega arith))

-- ---- comma

for_plain_assignment : {h : ℕ} {ts : List Terminal} {e : ExprTree} → Reads Assignment h ts e → Claim Assignment h ts e → Claim Expression h ts e
unfolding expression
for_plain_assignment {h} {ts} {e} r claim m le rest stop = record {
  turns = length rest;
  enough = omega arith;
  is = ap (λ q. read_on q (λ a us. parse.commas m (part m) (length us) (place (ts ++ rest)) a us)) (claim m le rest stop) ∙ ap (λ s. parse.commas m (part m) (length rest) s (e, h) rest) (place_more r rest);
}

comma_turn : (m n start : ℕ) (a b : ExprTree) (h k : ℕ) (at : ℕ) (ts rest : List Terminal) → h ≤ m → part m Assignment ts ≡ found b k rest → length (Punctuator at punctuators.Comma ∷ ts) ≤ n → length rest ≤ length ts
    → Goes rest (λ i. parse.commas m (part m) n start (a, h) (Punctuator at punctuators.Comma ∷ ts) ≡ parse.commas m (part m) i start (expr (unnumbered start) (comma a b), max h k + 1) rest)
unfolding parse.commas
comma_turn m zero start a b h k at ts rest le e enough short = absurd (omega arith)
comma_turn m (suc n) start a b h k at ts rest le e enough short = record { turns = n; enough = omega arith; is = rw (le-leb h m le, e) refl }

for_comma : {h k : ℕ} {xs ys : List Terminal} {a b : ExprTree} (at : ℕ) → Reads Expression h xs a → Reads Assignment k ys b → Claim Expression h xs a → Claim Assignment k ys b
    → Claim Expression (suc (max h k)) (xs ++ Punctuator at punctuators.Comma ∷ ys) (at_first xs (comma a b))
for_comma {h} {k} {xs} {ys} {a} {b} at r s left right m le rest stop =
    let g = left m (omega arith) (Punctuator at punctuators.Comma ∷ (ys ++ rest)) (omega arith) in
    let inner : part m Assignment (ys ++ rest) ≡ found b k rest = part_finds Assignment k ys b right (high s) m (omega arith) rest stop in
    let turn : Goes rest (λ i. parse.commas m (part m) g.turns (place xs) (a, h) (Punctuator at punctuators.Comma ∷ (ys ++ rest)) ≡ parse.commas m (part m) i (place xs) (at_first xs (comma a b), max h k + 1) rest) =
    comma_turn m g.turns (place xs) a b h k at (ys ++ rest) rest (omega arith) inner g.enough (omega (arith, length-append ys rest)) in
    Goes-map
    (λ n d. ap (expression m (part m) Expression) (append_assoc xs (Punctuator at punctuators.Comma ∷ ys) rest) ∙ g.is ∙ d
    ∙ same_turn (sym (place_more r (Punctuator at punctuators.Comma ∷ ys))) (omega arith) n) turn
  where
    same_turn : {s t p q : ℕ} → s ≡ t → p ≡ q → (n : ℕ) → parse.commas m (part m) n s (at_first xs (comma a b), p) rest ≡ parse.commas m (part m) n t (at_first xs (comma a b), q) rest
    same_turn e d n = cc

-- ---- all productions

mutual
  claim : {form : Form} {h : ℕ} {ts : List Terminal} {e : ExprTree} → Reads form h ts e → Claim form h ts e
  claim (a_name at x) = for_name at x
  claim (an_empty_call at o c f) = for_empty_call at o c f
  claim (a_call at o c f r) = for_call at o c f r (claim_arguments r)
  claim (a_constant at n unsigned) = for_constant at n unsigned
  claim (a_text at first r) = for_text at first r
  claim (in_parentheses o c r) = for_parentheses o c r (claim r)
  claim (an_index o c r s) = for_index o c r s (claim r) (claim s)
  claim (a_member access d r called) = for_member access d r called (claim r)
  claim (an_increment_after s r) = for_increment_after s r (claim r)
  claim (a_decrement_after s r) = for_decrement_after s r (claim r)
  claim (a_postfix r) = for_postfix r (claim r)
  claim (an_increment at r) = for_increment at r (claim r)
  claim (a_decrement at r) = for_decrement at r (claim r)
  claim (an_operator operator at r) = for_operator operator at r (claim r)
  claim (a_size_of_type at o c r) = for_size_of_type at o c r
  claim (a_size_of_value at r) = for_size_of_value at r (claim r)
  claim (a_cast at c t r) = for_cast at c t r (claim r)
  claim (an_operand r) = for_operand r (claim r)
  claim (stronger r) = for_stronger r (claim r)
  claim (an_operation operator at w r s) = for_operation operator at w r s (claim r) (claim s)
  claim (a_plain_level r) = for_plain_level r (claim r)
  claim (a_choice q s a b c) = for_choice q s a b c (claim a) (claim b) (claim c)
  claim (a_plain_conditional r) = for_plain_conditional r (claim r)
  claim (an_assignment operator at r s) = for_assignment operator at r s (claim r) (claim s)
  claim (a_plain_assignment r) = for_plain_assignment r (claim r)
  claim (a_comma at r s) = for_comma at r s (claim r) (claim s)

  claim_arguments : {h : ℕ} {ts : List Terminal} {es : Exprs} → ReadsArguments h ts es → ClaimArguments h ts es
  claim_arguments (a_last_argument r) = for_last r (claim r)
  claim_arguments (an_argument at r s) = for_argument at r s (claim r) (claim_arguments s)

pub finds : (n : ℕ) (form : Form) (h : ℕ) (f : List Terminal) (t : ExprTree) → Reads form h f t → h ≤ n → (rest : List Terminal) → Stops form rest → part n form (f ++ rest) ≡ Ok ((t, h), rest)
finds n form h f t r le rest stop = part_finds form h f t (claim r) (high r) n le rest stop
