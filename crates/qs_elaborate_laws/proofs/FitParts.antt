-- What it is that statements and a value fit; literals, conversions and operations fit.
use Rattle.std.proofs.Common.{◌≡◌, ℕ, zero, suc, ◌<◌, ◌%◌, ◌^◌, ◌&&◌, ◌||◌, nat_lt, not, Bool, true, false, List, [], ◌∷◌, ◌++◌, Option, Some, None, refl, sym, ap, ◌∙◌, subst, arith}
use Rattle.std.specs.List.{slice_get}
use Rattle.std.proofs.lemmas.Bool.Decides.{nat_tests}
use Rattle.std.proofs.lemmas.Option.{slice_get_within}
use Rattle.std.proofs.lemmas.Bool.{and_parts, and_from, or_from}
use Rattle.qs_memory.specs.Partial.{◌>>=◌}
use Rattle.qs_memory.specs.Values.{Value, integer, address, has_type, pointer_of_integer, convert}
use Rattle.qs_memory.specs.Operations.{binary_type}
use Rattle.qs_memory.specs.Scalars.{same_scalar, same_scalars, is_type, is_integer, is_pointer}
use Rattle.qs_memory.specs.Operands.{binary_takes, conversion_takes}
use Rattle.qs_memory.proofs.ScalarLaws.{scalar_same, same_as, same_self, type_is}
use Rattle.qs_memory.specs.declared.scalar.Scalar.{Scalar}
use Rattle.qs_memory.specs.declared.scalar.Scalar.TheVariants as scalars
use Rattle.qs_memory.specs.declared.operation.BinaryOperation.{BinaryOperation}
use Rattle.qs_core.specs.declared.numbers.BlockId.TheVariants.{Local, Data}
use Rattle.qs_core.specs.Trees.{CoreExprTree, literal, null_pointer, variable, temporary, address_of, load, member, unary, binary, conversion, logical_and, logical_or, conditional, CoreStmtTree, stmts_of, CoreFunctionTree, CoreUnitTree}
use Rattle.qs_core.specs.Expressions.{type_of}
use Rattle.qs_core.specs.Fits.{expr_fits, exprs_fit, mentions, any_mentions, stmt_fits, stmts_fit}
use Rattle.qs_meaning.specs.Typed.{Conversion, unchanged, converted, Order, as_written, exchanged}
use Rattle.qs_meaning.specs.Fits as source
use Rattle.qs_meaning.specs.Fits.{type_after}
use Rattle.qs_elaborate_bodies.specs.Literals.{literal_value, folded, converted_core}
use Rattle.qs_elaborate_bodies.specs.Parts.{Temporaries, next_number, with_temporary, one_statement}
use Rattle.qs_elaborate_bodies.specs.Expressions.{in_their_order}

-- ---- tests

-- ---- types

pub same_from : {s t : Scalar} → s ≡ t → same_scalar s t ≡ true
same_from {s = s} {t = t} e = same_as s t e

pub all_same_from : (ss ts : List Scalar) → ss ≡ ts → same_scalars ss ts ≡ true
all_same_from ss ts e = subst (λ (us : List Scalar). same_scalars ss us ≡ true) e (all_same_self ss)
  where
    all_same_self : (us : List Scalar) → same_scalars us us ≡ true
    all_same_self [] = refl
    all_same_self (u ∷ us) = and_from _ _ (same_self u) (all_same_self us)

pub same_types : {s t : Scalar} → same_scalar s t ≡ true → s ≡ t
same_types {s = s} {t = t} h = scalar_same s t h

pub pointer_type : {s : Scalar} → is_pointer s ≡ true → s ≡ scalars.Pointer
pointer_type h = same_types h

pub points : {s : Scalar} → s ≡ scalars.Pointer → is_pointer s ≡ true
points e = same_from e

-- ---- temporaries

-- a list of temporaries that begins with these
pub record Extends (ts later : Temporaries) : Type 0 where
  pub each : (k : ℕ) (s : Scalar) → slice_get ts k ≡ Some s → slice_get later k ≡ Some s

pub extends_self : {ts : Temporaries} → Extends ts ts
extends_self = record { each = λ k s h. h }

pub extends_then : {ts us vs : Temporaries} → Extends ts us → Extends us vs → Extends ts vs
extends_then e f = record { each = λ k s h. f.each k s (e.each k s h) }

in_front : (ts us : Temporaries) (k : ℕ) (s : Scalar) → slice_get ts k ≡ Some s → slice_get (ts ++ us) k ≡ Some s
in_front [] us k s h = cc
in_front (t ∷ ts) us zero s h = h
in_front (t ∷ ts) us (suc k) s h = in_front ts us k s h

pub extends_with : (ts : Temporaries) (s : Scalar) → Extends ts (with_temporary ts s)
extends_with ts s = record { each = in_front ts (s ∷ []) }

pub found_last : (ts : Temporaries) (s : Scalar) → slice_get (with_temporary ts s) (next_number ts) ≡ Some s
found_last [] s = refl
found_last (t ∷ ts) s = found_last ts s

pub found_later : (ts : Temporaries) (s : Scalar) {later : Temporaries} → Extends (with_temporary ts s) later → slice_get later (next_number ts) ≡ Some s
found_later ts s e = e.each (next_number ts) s (found_last ts s)

-- ---- statements

pub list_append : (u : CoreUnitTree) (g : CoreFunctionTree) (b c : Bool) (xs ys : List CoreStmtTree) → stmts_fit u g b c (stmts_of xs) ≡ true → stmts_fit u g b c (stmts_of ys) ≡ true → stmts_fit u g b c (stmts_of (xs ++ ys)) ≡ true
list_append u g b c [] ys h k = k
list_append u g b c (x ∷ xs) ys h k =
    let two = and_parts (stmt_fits u g b c x) (stmts_fit u g b c (stmts_of xs)) h in and_from _ _ two.0 (list_append u g b c xs ys two.1 k)

pub one_fits : (u : CoreUnitTree) (g : CoreFunctionTree) (b c : Bool) (ss : List CoreStmtTree) → stmts_fit u g b c (stmts_of ss) ≡ true → stmt_fits u g b c (one_statement ss) ≡ true
one_fits u g b c [] h = refl
one_fits u g b c (s ∷ []) h = (and_parts (stmt_fits u g b c s) true h).0
one_fits u g b c (s ∷ r ∷ ss) h = h

module _ (u : CoreUnitTree) (f : CoreFunctionTree) where
  -- the function, where these are its temporaries
  abbrev pub holding : Temporaries → CoreFunctionTree
  holding ts = record f { temporaries = ts }

  abbrev pub list_fits : (may_break may_continue : Bool) → Temporaries → List CoreStmtTree → Bool
  list_fits b c ts ss = stmts_fit u (holding ts) b c (stmts_of ss)

  -- statements that fit wherever they stand, with these temporaries and more
  pub record AllFit (ts : Temporaries) (ss : List CoreStmtTree) : Type 0 where
    pub fit : (b c : Bool) (later : Temporaries) → Extends ts later → list_fits b c later ss ≡ true

  pub none_fit : (ts : Temporaries) → AllFit ts []
  none_fit ts = record { fit = λ b c later e. refl }

  -- one list after another
  pub both_fit : (ts us : Temporaries) (xs ys : List CoreStmtTree) → AllFit ts xs → Extends ts us → AllFit us ys → AllFit us (xs ++ ys)
  both_fit ts us xs ys h e k =
      record { fit = λ b c later g. list_append u (holding later) b c xs ys (h.fit b c later (extends_then e g)) (k.fit b c later g) }

  pub one_more_fits : (ts : Temporaries) (s : CoreStmtTree) → ((b c : Bool) (later : Temporaries) → Extends ts later → stmt_fits u (holding later) b c s ≡ true) → AllFit ts (s ∷ [])
  one_more_fits ts s h = record { fit = λ b c later e. and_from _ _ (h b c later e) refl }

  -- ---- expressions, with more temporaries

  pub kept_type : {ts later : Temporaries} → Extends ts later → (k : ℕ) (s : Scalar) → is_type (slice_get ts k) s ≡ true → is_type (slice_get later k) s ≡ true
  kept_type {ts = ts} e k s h = ap (λ (o : Option Scalar). is_type o s) (e.each k s (type_is (slice_get ts k) s h)) ∙ same_self s

  pub expr_kept : (ts later : Temporaries) → Extends ts later → (a : CoreExprTree) → expr_fits u (holding ts) a ≡ true → expr_fits u (holding later) a ≡ true
  expr_kept ts later e (literal s n) h = h
  expr_kept ts later e null_pointer h = h
  expr_kept ts later e (variable s x) h = h
  expr_kept ts later e (temporary s k) h = kept_type e k s h
  expr_kept ts later e (address_of (Local i)) h = h
  expr_kept ts later e (address_of (Data i)) h = h
  expr_kept ts later e (load s a) h =
      let two = and_parts (expr_fits u (holding ts) a) _ h in and_from _ _ (expr_kept ts later e a two.0) two.1
  expr_kept ts later e (member offset a) h =
      let three = and_parts (expr_fits u (holding ts) a && is_pointer (type_of a)) _ h in
      let two = and_parts (expr_fits u (holding ts) a) _ three.0 in
      and_from _ _ (and_from _ _ (expr_kept ts later e a two.0) two.1) three.1
  expr_kept ts later e (unary op a) h =
      let two = and_parts (expr_fits u (holding ts) a) _ h in and_from _ _ (expr_kept ts later e a two.0) two.1
  expr_kept ts later e (binary op a b) h =
      let takes = and_parts (expr_fits u (holding ts) a && expr_fits u (holding ts) b) _ h in
      let two = and_parts (expr_fits u (holding ts) a) _ takes.0 in
      and_from _ _ (and_from _ _ (expr_kept ts later e a two.0) (expr_kept ts later e b two.1)) takes.1
  expr_kept ts later e (conversion s a) h =
      let two = and_parts (expr_fits u (holding ts) a) _ h in and_from _ _ (expr_kept ts later e a two.0) two.1
  expr_kept ts later e (logical_and a b) h =
      let two = and_parts (expr_fits u (holding ts) a) _ h in and_from _ _ (expr_kept ts later e a two.0) (expr_kept ts later e b two.1)
  expr_kept ts later e (logical_or a b) h =
      let two = and_parts (expr_fits u (holding ts) a) _ h in and_from _ _ (expr_kept ts later e a two.0) (expr_kept ts later e b two.1)
  expr_kept ts later e (conditional c a b) h =
      let alike = and_parts (expr_fits u (holding ts) c && expr_fits u (holding ts) a && expr_fits u (holding ts) b) _ h in
      let third = and_parts (expr_fits u (holding ts) c && expr_fits u (holding ts) a) _ alike.0 in
      let two = and_parts (expr_fits u (holding ts) c) _ third.0 in
      and_from _ _ (and_from _ _ (and_from _ _ (expr_kept ts later e c two.0) (expr_kept ts later e a two.1)) (expr_kept ts later e b third.1)) alike.1

  pub exprs_kept : (ts later : Temporaries) → Extends ts later → (es : List CoreExprTree) → exprs_fit u (holding ts) es ≡ true → exprs_fit u (holding later) es ≡ true
  exprs_kept ts later e [] h = refl
  exprs_kept ts later e (a ∷ es) h =
      let two = and_parts (expr_fits u (holding ts) a) _ h in and_from _ _ (expr_kept ts later e a two.0) (exprs_kept ts later e es two.1)

  -- ---- the next temporary is in nothing that is there already

  pub unmentioned : (ts : Temporaries) (a : CoreExprTree) → expr_fits u (holding ts) a ≡ true → mentions (next_number ts) a ≡ false
  unmentioned ts (literal s n) h = refl
  unmentioned ts null_pointer h = refl
  unmentioned ts (variable s x) h = refl
  unmentioned ts (temporary s j) h =
      let below = slice_get_within ts j s (type_is (slice_get ts j) s h) in grind (arith, nat_tests, below)
  unmentioned ts (address_of b) h = refl
  unmentioned ts (load s a) h = unmentioned ts a (and_parts (expr_fits u (holding ts) a) _ h).0
  unmentioned ts (member offset a) h =
      unmentioned ts a (and_parts (expr_fits u (holding ts) a) _ (and_parts (expr_fits u (holding ts) a && is_pointer (type_of a)) _ h).0).0
  unmentioned ts (unary op a) h = unmentioned ts a (and_parts (expr_fits u (holding ts) a) _ h).0
  unmentioned ts (binary op a b) h =
      let takes = and_parts (expr_fits u (holding ts) a && expr_fits u (holding ts) b) _ h in
      let two = and_parts (expr_fits u (holding ts) a) _ takes.0 in
      or_from _ _ (unmentioned ts a two.0) (unmentioned ts b two.1)
  unmentioned ts (conversion s a) h = unmentioned ts a (and_parts (expr_fits u (holding ts) a) _ h).0
  unmentioned ts (logical_and a b) h =
      let two = and_parts (expr_fits u (holding ts) a) _ h in or_from _ _ (unmentioned ts a two.0) (unmentioned ts b two.1)
  unmentioned ts (logical_or a b) h =
      let two = and_parts (expr_fits u (holding ts) a) _ h in or_from _ _ (unmentioned ts a two.0) (unmentioned ts b two.1)
  unmentioned ts (conditional c a b) h =
      let alike = and_parts (expr_fits u (holding ts) c && expr_fits u (holding ts) a && expr_fits u (holding ts) b) _ h in
      let third = and_parts (expr_fits u (holding ts) c && expr_fits u (holding ts) a) _ alike.0 in
      let two = and_parts (expr_fits u (holding ts) c) _ third.0 in
      or_from _ _ (or_from _ _ (unmentioned ts c two.0) (unmentioned ts a two.1)) (unmentioned ts b third.1)

  pub none_mentioned : (ts : Temporaries) (es : List CoreExprTree) → exprs_fit u (holding ts) es ≡ true → any_mentions (next_number ts) es ≡ false
  none_mentioned ts [] h = refl
  none_mentioned ts (a ∷ es) h =
      let two = and_parts (expr_fits u (holding ts) a) _ h in or_from _ _ (unmentioned ts a two.0) (none_mentioned ts es two.1)

  -- ---- conversions

  literal_small : (ts : Temporaries) (a : CoreExprTree) (n : ℕ) → expr_fits u (holding ts) a ≡ true → literal_value a ≡ Some (integer n) → n < 2 ^ 32
  literal_small ts (literal s m) n h e = subst (λ (k : ℕ). k < 2 ^ 32) (same_number m n e) (number_small s m h)
    where
      same_number : (m n : ℕ) → Some (integer m) ≡ Some (integer n) → m ≡ n
      same_number m n e = cc

      number_small : (s : Scalar) (m : ℕ) → has_type s (integer m) ≡ true → m < 2 ^ 32
      number_small scalars.Char m h = grind (arith, nat_tests, h)
      number_small scalars.Int m h = grind (arith, nat_tests, h)
      number_small scalars.Unsigned m h = grind (arith, nat_tests, h)
      number_small scalars.Pointer m h = cc
  literal_small ts null_pointer n h e = cc
  literal_small ts _ n h e = cc

  literal_pointer : (a : CoreExprTree) (p : _) → literal_value a ≡ Some (address p) → type_of a ≡ scalars.Pointer
  literal_pointer (literal s n) p e = cc
  literal_pointer null_pointer p e = refl
  literal_pointer _ p e = cc

  -- the type after a conversion
  folded_type : (to : Scalar) (a : CoreExprTree) (o : Option Value) → type_of (folded to a (o >>= convert to)) ≡ to
  folded_type to a None = refl
  folded_type scalars.Char a (Some (integer n)) = refl
  folded_type scalars.Int a (Some (integer n)) = refl
  folded_type scalars.Unsigned a (Some (integer n)) = refl
  folded_type scalars.Pointer a (Some (integer zero)) = refl
  folded_type scalars.Pointer a (Some (integer (suc n))) = refl
  folded_type scalars.Char a (Some (address p)) = refl
  folded_type scalars.Int a (Some (address p)) = refl
  folded_type scalars.Unsigned a (Some (address p)) = refl
  folded_type scalars.Pointer a (Some (address p)) = refl

  pub converted_type : (c : Conversion) (a : CoreExprTree) (s : Scalar) → type_of a ≡ s → type_of (converted_core c a) ≡ type_after c s
  converted_type unchanged a s e = e
  converted_type (converted from to) a s e = folded_type to a (literal_value a)

  -- an integer becomes an integer
  no_pointer : (t : Scalar) → is_pointer t ≡ false → is_integer t ≡ true
  no_pointer scalars.Char f = refl
  no_pointer scalars.Int f = refl
  no_pointer scalars.Unsigned f = refl
  no_pointer scalars.Pointer f = sym f

  integer_taken : (to t : Scalar) → is_pointer to ≡ false → is_pointer t ≡ false → conversion_takes to t ≡ true
  integer_taken scalars.Char t e f = no_pointer t f
  integer_taken scalars.Int t e f = no_pointer t f
  integer_taken scalars.Unsigned t e f = no_pointer t f
  integer_taken scalars.Pointer t e f = cc

  pub record Converts (to from : Scalar) (null_constant : Bool) : Type 0 where
    pub integer : is_pointer from ≡ false
    pub target : (is_pointer to ≡ true → null_constant ≡ true)

  converts : (to from : Scalar) (z : Bool) → source.converts from to z ≡ true → Converts to from z
  converts to from z h =
      let two = and_parts (not (is_pointer from)) _ h in
      record {
        integer = no_test (is_pointer from) two.0;
        target = λ e. decided (is_pointer to) z two.1 e;
      }
    where
      no_test : (b : Bool) → not b ≡ true → b ≡ false
      no_test true h = sym h
      no_test false h = refl

      decided : (b z : Bool) → (not b || z) ≡ true → b ≡ true → z ≡ true
      decided true z h e = h
      decided false z h e = cc

  folded_fits : (ts : Temporaries) (to : Scalar) (a : CoreExprTree) (z : Bool) → expr_fits u (holding ts) a ≡ true → Converts to (type_of a) z → (z ≡ true → literal_value a ≡ Some (integer 0)) → (o : Option Value) → literal_value a ≡ o → expr_fits u (holding ts) (folded to a (o >>= convert to)) ≡ true
  folded_fits ts to a z h c zero_is None e = and_from _ _ h (taken (is_pointer to) refl)
    where
      taken : (b : Bool) → is_pointer to ≡ b → conversion_takes to (type_of a) ≡ true
      taken false f = integer_taken to (type_of a) f c.integer
      taken true f = let zero_too = zero_is (c.target f) in cc
  folded_fits ts to a z h c zero_is (Some (address p)) e =
      let pointer_too = points (literal_pointer a p e) in let never = c.integer in cc
  folded_fits ts to a z h c zero_is (Some (integer n)) e = by_type to c
    where
      small : n < 2 ^ 32
      small = literal_small ts a n h e

      by_type : (to : Scalar) → Converts to (type_of a) z → expr_fits u (holding ts) (folded to a (convert to (integer n))) ≡ true
      by_type scalars.Char c = byte_is n
        where
          byte_is : (n : ℕ) → nat_lt (n % 2 ^ 8) (2 ^ 8) ≡ true
          byte_is n = grind (arith, nat_tests)
      by_type scalars.Int c = grind (arith, nat_tests, small)
      by_type scalars.Unsigned c = grind (arith, nat_tests, small)
      by_type scalars.Pointer c =
          subst (λ (k : ℕ). expr_fits u (holding ts) (folded scalars.Pointer a (pointer_of_integer k)) ≡ true) (same_number 0 n (sym (zero_is (c.target refl)) ∙ e)) refl
        where
          same_number : (m n : ℕ) → Some (integer m) ≡ Some (integer n) → m ≡ n
          same_number m n e = cc

  pub converted_fits : (ts : Temporaries) (c : Conversion) (a : CoreExprTree) (s : Scalar) (z : Bool) → expr_fits u (holding ts) a ≡ true → type_of a ≡ s → source.conversion_fits c s z ≡ true → (z ≡ true → literal_value a ≡ Some (integer 0)) → expr_fits u (holding ts) (converted_core c a) ≡ true
  converted_fits ts unchanged a s z h e fit zero_is = h
  converted_fits ts (converted from to) a s z h e fit zero_is =
      let two = and_parts (same_scalar from s) _ fit in
      let from_is : from ≡ type_of a = same_types two.0 ∙ sym e in
      folded_fits ts to a z h (converts to (type_of a) z (subst (λ (t : Scalar). source.converts t to z ≡ true) from_is two.1)) zero_is (literal_value a) refl

  -- ---- operations

  pub ordered_fits : (ts : Temporaries) (op : BinaryOperation) (order : Order) (a b : CoreExprTree) (t w : Scalar) → expr_fits u (holding ts) a ≡ true → expr_fits u (holding ts) b ≡ true → type_of a ≡ t → type_of b ≡ w → source.takes_in_order order op t w ≡ true → expr_fits u (holding ts) (in_their_order op order a b) ≡ true
  ordered_fits ts op as_written a b t w h k e d takes =
      and_from _ _ (and_from _ _ h k) (ap (λ (x : Scalar). binary_takes op x (type_of b)) e ∙ ap (binary_takes op t) d ∙ takes)
  ordered_fits ts op exchanged a b t w h k e d takes =
      and_from _ _ (and_from _ _ k h) (ap (λ (x : Scalar). binary_takes op x (type_of a)) d ∙ ap (binary_takes op w) e ∙ takes)

  pub ordered_type : (op : BinaryOperation) (order : Order) (a b : CoreExprTree) → type_of (in_their_order op order a b) ≡ binary_type op
  ordered_type op as_written a b = refl
  ordered_type op exchanged a b = refl
