-- How an expression begins, and that its reading has a height.
use Rattle.std.proofs.Common.{◌≡◌, ◌∙◌, sym, true≢false, ℕ, ◌<◌, Bool, true, false, List, [], ◌∷◌, ◌++◌, refl, append_assoc, arith}
use Rattle.qs_syntax_vocabulary.specs.declared.terminal.Terminal.{Terminal}
use Rattle.qs_syntax_vocabulary.specs.declared.terminal.Terminal.TheVariants.{Name, TypeName, Keyword, Constant, Text, Punctuator}
use Rattle.qs_syntax_vocabulary.specs.declared.punctuator.Punctuator.TheVariants as punctuators
use Rattle.qs_syntax_vocabulary.specs.declared.operators.UnaryOperator.{UnaryOperator}
use Rattle.qs_syntax_vocabulary.specs.declared.operators.UnaryOperator.TheVariants as unaries
use Rattle.qs_syntax.specs.Trees.{ExprTree, Exprs}
use Rattle.qs_syntax_vocabulary.specs.Operators.{punctuator_of_unary, punctuator_of_binary, punctuator_of_assign, punctuator_of_access}
use Rattle.qs_syntax.specs.Reads.{Form, Postfix, Unary, Level, Conditional, Assignment, Expression, place, Reads, ReadsArguments, a_name, an_empty_call, a_call, a_constant, a_text, in_parentheses, an_index, a_member, an_increment_after, a_decrement_after, a_postfix, an_increment, a_decrement, an_operator, a_size_of_type, a_size_of_value, a_cast, an_operand, stronger, an_operation, a_plain_level, a_choice, a_plain_conditional, an_assignment, a_plain_assignment, a_comma, a_last_argument, an_argument}
use Rattle.qs_parser_grammar.specs.Heads.{starts, begins_type}
use Rattle.qs_parser_grammar.specs.Parse.{begins_one, begins_cast}
use Rattle.qs_parser_grammar.proofs.HeadsLaws.{unary_punctuator}

-- ---- the first token

pub begins : {form : Form} {h : ℕ} {ts : List Terminal} {e : ExprTree} → Reads form h ts e → (us : List Terminal) → begins_one (ts ++ us) ≡ true
begins (a_name at x) us = refl
begins (an_empty_call at o c f) us = refl
begins (a_call at o c f r) us = refl
begins (a_constant at n unsigned) us = refl
begins (a_text at first r) us = refl
begins (in_parentheses o c r) us = refl
begins (an_index {ys = ys} o c r s) us = rw append_assoc (begins r (Punctuator o punctuators.OpenBracket ∷ ((ys ++ Punctuator c punctuators.CloseBracket ∷ []) ++ us)))
begins (a_member {t = t} access d r name) us = rw append_assoc (begins r (Punctuator d (punctuator_of_access access) ∷ t ∷ us))
begins (an_increment_after s r) us = rw append_assoc (begins r (Punctuator s punctuators.Increment ∷ us))
begins (a_decrement_after s r) us = rw append_assoc (begins r (Punctuator s punctuators.Decrement ∷ us))
begins (a_postfix r) us = begins r us
begins (an_increment at r) us = refl
begins (a_decrement at r) us = refl
begins (an_operator operator at r) us = rw unary_punctuator refl
begins (a_size_of_type at o c r) us = refl
begins (a_size_of_value at r) us = refl
begins (a_cast at c t r) us = refl
begins (an_operand r) us = begins r us
begins (stronger r) us = begins r us
begins (an_operation {ys = ys} operator at w r s) us = rw append_assoc (begins r (Punctuator at (punctuator_of_binary operator) ∷ (ys ++ us)))
begins (a_plain_level r) us = begins r us
begins (a_choice {ys = ys} {zs = zs} q s a b c) us = rw append_assoc (begins a (Punctuator q punctuators.Question ∷ ((ys ++ Punctuator s punctuators.Colon ∷ zs) ++ us)))
begins (a_plain_conditional r) us = begins r us
begins (an_assignment {ys = ys} operator at r s) us = rw append_assoc (begins r (Punctuator at (punctuator_of_assign operator) ∷ (ys ++ us)))
begins (a_plain_assignment r) us = begins r us
begins (a_comma {ys = ys} at r s) us = rw append_assoc (begins r (Punctuator at punctuators.Comma ∷ (ys ++ us)))

pub begins_no_type : {form : Form} {h : ℕ} {ts : List Terminal} {e : ExprTree} → Reads form h ts e → (us : List Terminal) → begins_type (ts ++ us) ≡ false
begins_no_type (a_name at x) us = refl
begins_no_type (an_empty_call at o c f) us = refl
begins_no_type (a_call at o c f r) us = refl
begins_no_type (a_constant at n unsigned) us = refl
begins_no_type (a_text at first r) us = refl
begins_no_type (in_parentheses o c r) us = refl
begins_no_type (an_index {ys = ys} o c r s) us = rw append_assoc (begins_no_type r (Punctuator o punctuators.OpenBracket ∷ ((ys ++ Punctuator c punctuators.CloseBracket ∷ []) ++ us)))
begins_no_type (a_member {t = t} access d r name) us = rw append_assoc (begins_no_type r (Punctuator d (punctuator_of_access access) ∷ t ∷ us))
begins_no_type (an_increment_after s r) us = rw append_assoc (begins_no_type r (Punctuator s punctuators.Increment ∷ us))
begins_no_type (a_decrement_after s r) us = rw append_assoc (begins_no_type r (Punctuator s punctuators.Decrement ∷ us))
begins_no_type (a_postfix r) us = begins_no_type r us
begins_no_type (an_increment at r) us = refl
begins_no_type (a_decrement at r) us = refl
begins_no_type (an_operator operator at r) us = refl
begins_no_type (a_size_of_type at o c r) us = refl
begins_no_type (a_size_of_value at r) us = refl
begins_no_type (a_cast at c t r) us = refl
begins_no_type (an_operand r) us = begins_no_type r us
begins_no_type (stronger r) us = begins_no_type r us
begins_no_type (an_operation {ys = ys} operator at w r s) us = rw append_assoc (begins_no_type r (Punctuator at (punctuator_of_binary operator) ∷ (ys ++ us)))
begins_no_type (a_plain_level r) us = begins_no_type r us
begins_no_type (a_choice {ys = ys} {zs = zs} q s a b c) us = rw append_assoc (begins_no_type a (Punctuator q punctuators.Question ∷ ((ys ++ Punctuator s punctuators.Colon ∷ zs) ++ us)))
begins_no_type (a_plain_conditional r) us = begins_no_type r us
begins_no_type (an_assignment {ys = ys} operator at r s) us = rw append_assoc (begins_no_type r (Punctuator at (punctuator_of_assign operator) ∷ (ys ++ us)))
begins_no_type (a_plain_assignment r) us = begins_no_type r us
begins_no_type (a_comma {ys = ys} at r s) us = rw append_assoc (begins_no_type r (Punctuator at punctuators.Comma ∷ (ys ++ us)))

pub arguments_begin : {h : ℕ} {ts : List Terminal} {es : Exprs} → ReadsArguments h ts es → (us : List Terminal) → begins_one (ts ++ us) ≡ true
arguments_begin (a_last_argument r) us = begins r us
arguments_begin (an_argument {ys = ys} at r s) us = rw append_assoc (begins r (Punctuator at punctuators.Comma ∷ (ys ++ us)))

one_no_parenthesis : (ts : List Terminal) → begins_one ts ≡ true → starts punctuators.CloseParenthesis ts ≡ false
one_no_parenthesis [] e = refl
one_no_parenthesis (Name at x ∷ ts) e = refl
one_no_parenthesis (TypeName at x ∷ ts) e = refl
one_no_parenthesis (Keyword at k ∷ ts) e = refl
one_no_parenthesis (Constant at n unsigned ∷ ts) e = refl
one_no_parenthesis (Text at bytes ∷ ts) e = refl
one_no_parenthesis (Punctuator at punctuators.CloseParenthesis ∷ ts) e = absurd cc
one_no_parenthesis (Punctuator at m ∷ ts) e = refl

pub arguments_no_parenthesis : {h : ℕ} {ts : List Terminal} {es : Exprs} → ReadsArguments h ts es → (us : List Terminal) → starts punctuators.CloseParenthesis (ts ++ us) ≡ false
arguments_no_parenthesis {ts = ts} r us = one_no_parenthesis (ts ++ us) (arguments_begin r us)

-- ---- where it stands

place_front : (ts us : List Terminal) → begins_one (ts ++ []) ≡ true → place (ts ++ us) ≡ place ts
place_front [] us e = absurd cc
place_front (t ∷ ts) us e = refl

-- more behind an expression changes nothing of its place
pub place_more : {form : Form} {h : ℕ} {ts : List Terminal} {e : ExprTree} → Reads form h ts e → (us : List Terminal) → place (ts ++ us) ≡ place ts
place_more {ts = ts} r us = place_front ts us (begins r [])

-- ---- operands of unary operators are no casts

abbrev is_unary : Form → Bool
is_unary Postfix = true
is_unary Unary = true
is_unary (Level j) = false
is_unary Conditional = false
is_unary Assignment = false
is_unary Expression = false

operator_no_cast : (operator : UnaryOperator) (at : ℕ) (ts : List Terminal) → begins_cast (Punctuator at (punctuator_of_unary operator) ∷ ts) ≡ false
operator_no_cast unaries.Address at ts = refl
operator_no_cast unaries.Indirect at ts = refl
operator_no_cast unaries.Plus at ts = refl
operator_no_cast unaries.Minus at ts = refl
operator_no_cast unaries.Complement at ts = refl
operator_no_cast unaries.Not at ts = refl

no_cast_at : {form : Form} {h : ℕ} {ts : List Terminal} {e : ExprTree} → Reads form h ts e → is_unary form ≡ true → (us : List Terminal) → begins_cast (ts ++ us) ≡ false
no_cast_at (a_name at x) u us = refl
no_cast_at (an_empty_call at o c f) u us = refl
no_cast_at (a_call at o c f r) u us = refl
no_cast_at (a_constant at n unsigned) u us = refl
no_cast_at (a_text at first r) u us = refl
no_cast_at (in_parentheses o c r) u us = rw append_assoc (begins_no_type r (Punctuator c punctuators.CloseParenthesis ∷ us))
no_cast_at (an_index {ys = ys} o c r s) u us = rw append_assoc (no_cast_at r refl (Punctuator o punctuators.OpenBracket ∷ ((ys ++ Punctuator c punctuators.CloseBracket ∷ []) ++ us)))
no_cast_at (a_member {t = t} access d r name) u us = rw append_assoc (no_cast_at r refl (Punctuator d (punctuator_of_access access) ∷ t ∷ us))
no_cast_at (an_increment_after s r) u us = rw append_assoc (no_cast_at r refl (Punctuator s punctuators.Increment ∷ us))
no_cast_at (a_decrement_after s r) u us = rw append_assoc (no_cast_at r refl (Punctuator s punctuators.Decrement ∷ us))
no_cast_at (a_postfix r) u us = no_cast_at r refl us
no_cast_at (an_increment at r) u us = refl
no_cast_at (a_decrement at r) u us = refl
no_cast_at (an_operator {ts = ts} operator at r) u us = operator_no_cast operator at (ts ++ us)
no_cast_at (a_size_of_type at o c r) u us = refl
no_cast_at (a_size_of_value at r) u us = refl
no_cast_at (a_cast at c t r) u us = absurd cc
no_cast_at (an_operand r) u us = absurd cc
no_cast_at (stronger r) u us = absurd cc
no_cast_at (an_operation operator at w r s) u us = absurd cc
no_cast_at (a_plain_level r) u us = absurd cc
no_cast_at (a_choice q s a b c) u us = absurd cc
no_cast_at (a_plain_conditional r) u us = absurd cc
no_cast_at (an_assignment operator at r s) u us = absurd cc
no_cast_at (a_plain_assignment r) u us = absurd cc
no_cast_at (a_comma at r s) u us = absurd cc

pub no_cast : {h : ℕ} {ts : List Terminal} {e : ExprTree} → Reads Unary h ts e → (us : List Terminal) → begins_cast (ts ++ us) ≡ false
no_cast r us = no_cast_at r refl us

-- ---- heights

pub high : {form : Form} {h : ℕ} {ts : List Terminal} {e : ExprTree} → Reads form h ts e → 0 < h
high (a_name at x) = omega arith
high (an_empty_call at o c f) = omega arith
high (a_call at o c f r) = omega arith
high (a_constant at n unsigned) = omega arith
high (a_text at first r) = omega arith
high (in_parentheses o c r) = omega arith
high (an_index o c r s) = omega arith
high (a_member access d r name) = omega arith
high (an_increment_after s r) = omega arith
high (a_decrement_after s r) = omega arith
high (a_postfix r) = high r
high (an_increment at r) = omega arith
high (a_decrement at r) = omega arith
high (an_operator operator at r) = omega arith
high (a_size_of_type at o c r) = omega arith
high (a_size_of_value at r) = omega arith
high (a_cast at c t r) = omega arith
high (an_operand r) = high r
high (stronger r) = high r
high (an_operation operator at w r s) = omega arith
high (a_plain_level r) = high r
high (a_choice q s a b c) = omega arith
high (a_plain_conditional r) = high r
high (an_assignment operator at r s) = omega arith
high (a_plain_assignment r) = high r
high (a_comma at r s) = omega arith

-- ---- an operand that begins with a parenthesis is two high

operator_no_parenthesis : (operator : UnaryOperator) (at : ℕ) (ts : List Terminal) → starts punctuators.OpenParenthesis (Punctuator at (punctuator_of_unary operator) ∷ ts) ≡ false
operator_no_parenthesis unaries.Address at ts = refl
operator_no_parenthesis unaries.Indirect at ts = refl
operator_no_parenthesis unaries.Plus at ts = refl
operator_no_parenthesis unaries.Minus at ts = refl
operator_no_parenthesis unaries.Complement at ts = refl
operator_no_parenthesis unaries.Not at ts = refl

opens_high_at : {form : Form} {h : ℕ} {ts : List Terminal} {e : ExprTree} → Reads form h ts e → is_unary form ≡ true → (us : List Terminal) → starts punctuators.OpenParenthesis (ts ++ us) ≡ true → 1 < h
opens_high_at (a_name at x) u us e = absurd cc
opens_high_at (an_empty_call at o c f) u us e = absurd cc
opens_high_at (a_call at o c f r) u us e = absurd cc
opens_high_at (a_constant at n unsigned) u us e = absurd cc
opens_high_at (a_text at first r) u us e = absurd cc
opens_high_at (in_parentheses o c r) u us e = let some = high r in omega arith
opens_high_at (an_index {ys = ys} o c r s) u us e = let two = opens_high_at r refl (Punctuator o punctuators.OpenBracket ∷ ((ys ++ Punctuator c punctuators.CloseBracket ∷ []) ++ us)) (rw append_assoc at e) in omega arith
opens_high_at (a_member {t = t} access d r name) u us e = let two = opens_high_at r refl (Punctuator d (punctuator_of_access access) ∷ t ∷ us) (rw append_assoc at e) in omega arith
opens_high_at (an_increment_after s r) u us e = let two = opens_high_at r refl (Punctuator s punctuators.Increment ∷ us) (rw append_assoc at e) in omega arith
opens_high_at (a_decrement_after s r) u us e = let two = opens_high_at r refl (Punctuator s punctuators.Decrement ∷ us) (rw append_assoc at e) in omega arith
opens_high_at (a_postfix r) u us e = opens_high_at r refl us e
opens_high_at (an_increment at r) u us e = absurd cc
opens_high_at (a_decrement at r) u us e = absurd cc
opens_high_at (an_operator {ts = ts} operator at r) u us e = absurd (true≢false (sym e ∙ operator_no_parenthesis operator at (ts ++ us)))
opens_high_at (a_size_of_type at o c r) u us e = absurd cc
opens_high_at (a_size_of_value at r) u us e = absurd cc
opens_high_at (a_cast at c t r) u us e = absurd cc
opens_high_at (an_operand r) u us e = absurd cc
opens_high_at (stronger r) u us e = absurd cc
opens_high_at (an_operation operator at w r s) u us e = absurd cc
opens_high_at (a_plain_level r) u us e = absurd cc
opens_high_at (a_choice q s a b c) u us e = absurd cc
opens_high_at (a_plain_conditional r) u us e = absurd cc
opens_high_at (an_assignment operator at r s) u us e = absurd cc
opens_high_at (a_plain_assignment r) u us e = absurd cc
opens_high_at (a_comma at r s) u us e = absurd cc

pub opens_high : {h : ℕ} {ts : List Terminal} {e : ExprTree} → Reads Unary h ts e → (us : List Terminal) → starts punctuators.OpenParenthesis (ts ++ us) ≡ true → 1 < h
opens_high r us e = opens_high_at r refl us e
