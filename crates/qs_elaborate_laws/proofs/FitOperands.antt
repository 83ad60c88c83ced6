-- Operands, places, writes, calls and branches fit, where their parts do.
use Rattle.std.proofs.Common.{◌≡◌, ℕ, ◌&&◌, not, Bool, true, false, List, [], ◌∷◌, ◌++◌, map, Option, Some, None, is_some, refl, sym, ap, ◌∙◌, subst, if◌then◌else◌}
use Rattle.std.specs.List.{slice_get}
use Rattle.std.proofs.lemmas.Bool.{and_parts, and_from}
use Rattle.qs_memory.specs.Values.{Value, integer}
use Rattle.qs_memory.specs.Operations.{binary_type}
use Rattle.qs_memory.specs.Scalars.{same_scalar, is_type}
use Rattle.qs_memory.specs.Operands.{binary_takes}
use Rattle.qs_memory.proofs.ScalarLaws.{scalar_same}
use Rattle.qs_memory.specs.declared.scalar.Scalar.{Scalar}
use Rattle.qs_memory.specs.declared.scalar.Scalar.TheVariants as scalars
use Rattle.qs_memory.specs.declared.operation.BinaryOperation.{BinaryOperation}
use Rattle.qs_calls.specs.Starts.{Signature, signature_of}
use Rattle.qs_calls.specs.declared.callee.Callee.{Callee}
use Rattle.qs_core.specs.Trees.{CoreExprTree, CoreStmtTree, stmts_of, CoreFunctionTree, CoreUnitTree}
use Rattle.qs_core.specs.Trees as core
use Rattle.qs_core.specs.Expressions.{type_of}
use Rattle.qs_core.specs.Interfaces.{variable_type, interface_of}
use Rattle.qs_core.specs.Fits.{expr_fits, exprs_fit, pointer_fits, any_mentions, taken_fits, call_fits, stmt_fits, stmts_fit}
use Rattle.qs_meaning.specs.Typed.{Conversion, Order, as_written}
use Rattle.qs_meaning.specs.Fits as source
use Rattle.qs_meaning.specs.Fits.{type_after}
use Rattle.qs_elaborate_bodies.specs.Literals.{literal_value, is_literal, converted_core}
use Rattle.qs_elaborate_bodies.specs.Parts.{Temporaries, next_number, with_temporary, keep, Valued, Listed, in_temporary, saved, saved_if, joined, Location, plain, pointed, Located, at_address, with_saved_address, address_saved_if, value_at, value_read, written}
use Rattle.qs_elaborate_bodies.specs.Expressions.{operation_core, ValuedAll, argument_before, call_valued, call_listed, branch_with, truth_core, truth_literal, and_branching, or_branching, choice_branching, choice_joined, Written, set_core, write_discarded, write_at, write_valued}
use Rattle.qs_elaborate_laws.proofs.FitParts.{same_from, all_same_from, same_types, points, Extends, extends_self, extends_then, extends_with, found_last, found_later, list_append, one_fits, holding, AllFit, none_fit, both_fit, one_more_fits, expr_kept, exprs_kept, none_mentioned, converted_type, converted_fits, ordered_fits}

module _ (u : CoreUnitTree) (f : CoreFunctionTree) where
  -- ---- one value

  -- it begins with these temporaries, its value is of this type, and is the literal 0 where that is a null constant
  pub record ValuedFits (ts : Temporaries) (v : Valued) (s : Scalar) (null_constant : Bool) : Type 0 where
    pub more : Extends ts v.temporaries
    pub statements : AllFit u f v.temporaries v.statements
    pub value : expr_fits u (holding u f v.temporaries) v.value ≡ true
    pub type : type_of v.value ≡ s
    pub zero : null_constant ≡ true → literal_value v.value ≡ Some (integer 0)

  pub pure_fits : (ts : Temporaries) (a : CoreExprTree) (s : Scalar) (z : Bool) → expr_fits u (holding u f ts) a ≡ true → type_of a ≡ s → (z ≡ true → literal_value a ≡ Some (integer 0)) → ValuedFits ts (record { statements = []; value = a; temporaries = ts }) s z
  pure_fits ts a s z h e zero_is = record { more = extends_self; statements = none_fit u f ts; value = h; type = e; zero = zero_is }

  -- another value behind the same statements
  pub valued_with : (ts : Temporaries) (v : Valued) (s : Scalar) (z : Bool) → ValuedFits ts v s z → (a : CoreExprTree) (t : Scalar) → expr_fits u (holding u f v.temporaries) a ≡ true → type_of a ≡ t → ValuedFits ts (record v { value = a }) t false
  valued_with ts v s z h a t fit e = record { more = h.more; statements = h.statements; value = fit; type = e; zero = λ e. cc }

  saved_literal : (v : Valued) (x : Value) → literal_value v.value ≡ Some x → literal_value (saved v).value ≡ Some x
  saved_literal v x e = subst (λ (o : Option Value). literal_value (if is_some o then v else in_temporary v).value ≡ Some x) (sym e) e

  temporary_fits : (ts : Temporaries) (v : Valued) (s : Scalar) (z : Bool) → ValuedFits ts v s z → (z ≡ true → literal_value (in_temporary v).value ≡ Some (integer 0)) → ValuedFits ts (in_temporary v) s z
  temporary_fits ts v s z h zero_is =
      let on = extends_with v.temporaries (type_of v.value) in
      record {
        more = extends_then h.more on;
        statements = both_fit u f v.temporaries (with_temporary v.temporaries (type_of v.value)) v.statements _ h.statements on
            (one_more_fits u f _ _ (λ b c later e.
            and_from _ _ (expr_kept u f v.temporaries later (extends_then on e) v.value h.value)
            (ap (λ (o : Option Scalar). is_type o (type_of v.value)) (found_later v.temporaries (type_of v.value) e) ∙ same_from refl)));
        value = ap (λ (o : Option Scalar). is_type o (type_of v.value)) (found_last v.temporaries (type_of v.value)) ∙ same_from refl;
        type = h.type;
        zero = zero_is;
      }

  pub saved_fits : (ts : Temporaries) (v : Valued) (s : Scalar) (z : Bool) → ValuedFits ts v s z → ValuedFits ts (saved v) s z
  saved_fits ts v s z h = by_literal (is_literal v.value) (λ e. saved_literal v (integer 0) (h.zero e))
    where
      by_literal : (b : Bool) → (z ≡ true → literal_value (if b then v else in_temporary v).value ≡ Some (integer 0)) → ValuedFits ts (if b then v else in_temporary v) s z
      by_literal true zero_is = h
      by_literal false zero_is = temporary_fits ts v s z h zero_is

  pub operand_fits : (ts : Temporaries) (later_acts : Bool) (v : Valued) (s : Scalar) (z : Bool) → ValuedFits ts v s z → ValuedFits ts (saved_if later_acts v) s z
  operand_fits ts true v s z h = saved_fits ts v s z h
  operand_fits ts false v s z h = h

  pub operand_more : (later_acts : Bool) (v : Valued) → Extends v.temporaries (saved_if later_acts v).temporaries
  operand_more false v = extends_self
  operand_more true v = by_literal (is_literal v.value)
    where
      by_literal : (b : Bool) → Extends v.temporaries (if b then v else in_temporary v).temporaries
      by_literal true = extends_self
      by_literal false = extends_with v.temporaries (type_of v.value)

  -- an expression of this type converted to that one
  pub record ConvertedFits (ts : Temporaries) (c : Conversion) (a : CoreExprTree) (s : Scalar) : Type 0 where
    pub value : expr_fits u (holding u f ts) (converted_core c a) ≡ true
    pub type : type_of (converted_core c a) ≡ s

  pub converted_valued : (ts us : Temporaries) (c : Conversion) (v : Valued) (s : Scalar) (z : Bool) → ValuedFits ts v s z → Extends v.temporaries us → source.conversion_fits c s z ≡ true → ConvertedFits us c v.value (type_after c s)
  converted_valued ts us c v s z h e fit = record {
    value = converted_fits u f us c v.value s z (expr_kept u f v.temporaries us e v.value h.value) h.type fit h.zero;
    type = converted_type u f c v.value s h.type;
  }

  -- to a type that it must have
  pub becomes_fits : (ts us : Temporaries) (c : Conversion) (v : Valued) (s t : Scalar) (z : Bool) → ValuedFits ts v s z → Extends v.temporaries us → (source.conversion_fits c s z && same_scalar (type_after c s) t) ≡ true → ConvertedFits us c v.value t
  becomes_fits ts us c v s t z h e fit =
      let two = and_parts (source.conversion_fits c s z) _ fit in
      let found = converted_valued ts us c v s z h e two.0 in
      record { value = found.value; type = found.type ∙ same_types two.1 }

  -- ---- lists without a value

  pub record ListedFits (ts : Temporaries) (l : Listed) : Type 0 where
    pub more : Extends ts l.temporaries
    pub statements : AllFit u f l.temporaries l.statements

  -- statements behind a list
  pub then_fits : (ts us : Temporaries) (xs : List CoreStmtTree) (s : CoreStmtTree) → AllFit u f ts xs → Extends ts us → ((b c : Bool) (later : Temporaries) → Extends us later → stmt_fits u (holding u f later) b c s ≡ true) → AllFit u f us (xs ++ s ∷ [])
  then_fits ts us xs s h e fit = both_fit u f ts us xs (s ∷ []) h e (one_more_fits u f us s fit)

  -- ---- places

  abbrev pub location_fits : Temporaries → Scalar → Location → Bool
  location_fits ts s (plain x) = is_type (variable_type f x) s
  location_fits ts s (pointed a) = pointer_fits u (holding u f ts) a

  pub record LocatedFits (ts : Temporaries) (l : Located) (s : Scalar) : Type 0 where
    pub more : Extends ts l.temporaries
    pub statements : AllFit u f l.temporaries l.statements
    pub location : location_fits l.temporaries s l.location ≡ true

  pub location_kept : (ts later : Temporaries) → Extends ts later → (s : Scalar) (l : Location) → location_fits ts s l ≡ true → location_fits later s l ≡ true
  location_kept ts later e s (plain x) h = h
  location_kept ts later e s (pointed a) h =
      let two = and_parts (expr_fits u (holding u f ts) a) _ h in and_from _ _ (expr_kept u f ts later e a two.0) two.1

  pub address_fits : (ts : Temporaries) (v : Valued) (s : Scalar) (z : Bool) → ValuedFits ts v scalars.Pointer z → LocatedFits ts (at_address v) s
  address_fits ts v s z h = record { more = h.more; statements = h.statements; location = and_from _ _ h.value (points h.type) }

  kept_address : (ts us : Temporaries) (ss : List CoreStmtTree) (l : Location) (s : Scalar) → Extends ts us → AllFit u f us ss → location_fits us s l ≡ true → LocatedFits ts (with_saved_address ss l us) s
  kept_address ts us ss (plain x) s e h fit = record { more = e; statements = h; location = fit }
  kept_address ts us ss (pointed a) s e h fit =
      let two = and_parts (expr_fits u (holding u f us) a) _ fit in
      let v : Valued = record { statements = ss; value = a; temporaries = us } in
      address_fits ts (saved v) s false (saved_fits ts v scalars.Pointer false (record { more = e; statements = h; value = two.0; type = scalar_same (type_of a) scalars.Pointer two.1; zero = λ e. cc }))

  pub place_fits : (ts : Temporaries) (later_acts : Bool) (l : Located) (s : Scalar) → LocatedFits ts l s → LocatedFits ts (address_saved_if later_acts l) s
  place_fits ts true l s h = kept_address ts l.temporaries l.statements l.location s h.more h.statements h.location
  place_fits ts false l s h = h

  value_at_fits : (ts : Temporaries) (s : Scalar) (l : Location) → location_fits ts s l ≡ true → expr_fits u (holding u f ts) (value_at s l) ≡ true
  value_at_fits ts s (plain x) h = h
  value_at_fits ts s (pointed a) h = h

  value_at_type : (s : Scalar) (l : Location) → type_of (value_at s l) ≡ s
  value_at_type s (plain x) = refl
  value_at_type s (pointed a) = refl

  pub read_fits : (ts : Temporaries) (l : Located) (s : Scalar) → LocatedFits ts l s → ValuedFits ts (value_read s l) s false
  read_fits ts l s h = record {
    more = h.more;
    statements = h.statements;
    value = value_at_fits l.temporaries s l.location h.location;
    type = value_at_type s l.location;
    zero = λ e. cc;
  }

  pub written_fits : (ts : Temporaries) (b c : Bool) (s : Scalar) (l : Location) (a : CoreExprTree) → location_fits ts s l ≡ true → expr_fits u (holding u f ts) a ≡ true → type_of a ≡ s → stmt_fits u (holding u f ts) b c (written s l a) ≡ true
  written_fits ts b c s (plain x) a place h e = and_from _ _ h (subst (λ (t : Scalar). is_type (variable_type f x) t ≡ true) (sym e) place)
  written_fits ts b c s (pointed p) a place h e = and_from _ _ (and_from _ _ place h) (same_from e)

  -- ---- operations

  pub operation_fits : (ts us : Temporaries) (op : BinaryOperation) (order : Order) (left right : Conversion) (v w : Valued) (s t : Scalar) (y z : Bool) → ValuedFits ts v s y → ValuedFits us w t z → Extends v.temporaries w.temporaries → source.conversion_fits left s y ≡ true → source.conversion_fits right t z ≡ true → source.takes_in_order order op (type_after left s) (type_after right t) ≡ true → expr_fits u (holding u f w.temporaries) (operation_core op order left right v.value w.value) ≡ true
  operation_fits ts us op order left right v w s t y z h k e fit_left fit_right takes =
      let a = converted_valued ts w.temporaries left v s y h e fit_left in
      let b = converted_valued us w.temporaries right w t z k extends_self fit_right in
      ordered_fits u f w.temporaries op order (converted_core left v.value) (converted_core right w.value) (type_after left s) (type_after right t) a.value b.value a.type b.type takes

  -- two operands
  pub joined_fits : (ts : Temporaries) (v w : Valued) (s t r : Scalar) (y z : Bool) → ValuedFits ts v s y → ValuedFits v.temporaries w t z → (join : CoreExprTree → CoreExprTree → CoreExprTree) → expr_fits u (holding u f w.temporaries) (join v.value w.value) ≡ true → type_of (join v.value w.value) ≡ r → ValuedFits ts (joined join v w) r false
  joined_fits ts v w s t r y z h k join fit e = record {
    more = extends_then h.more k.more;
    statements = both_fit u f v.temporaries w.temporaries v.statements w.statements h.statements k.more k.statements;
    value = fit;
    type = e;
    zero = λ e. cc;
  }

  -- ---- writes

  pub record WrittenFits (ts : Temporaries) (w : Written) (s : Scalar) : Type 0 where
    pub more : Extends ts w.temporaries
    pub statements : AllFit u f w.temporaries w.statements
    pub location : location_fits w.temporaries s w.location ≡ true
    pub value : expr_fits u (holding u f w.temporaries) w.value ≡ true
    pub type : type_of w.value ≡ s
    pub scalar : w.scalar ≡ s

  pub write_alone : (ts : Temporaries) (w : Written) (s : Scalar) → WrittenFits ts w s → ListedFits ts (write_discarded w)
  write_alone ts w s h = record {
    more = h.more;
    statements = then_fits w.temporaries w.temporaries w.statements _ h.statements extends_self (λ b c later e.
        written_fits later b c w.scalar w.location w.value
        (location_kept w.temporaries later e w.scalar w.location (subst (λ (t : Scalar). location_fits w.temporaries t w.location ≡ true) (sym h.scalar) h.location))
        (expr_kept u f w.temporaries later e w.value h.value) (h.type ∙ sym h.scalar));
  }

  write_at_fits : (ts us : Temporaries) (s : Scalar) (l : Location) (ss : List CoreStmtTree) (a : CoreExprTree) → Extends ts us → AllFit u f us ss → location_fits us s l ≡ true → expr_fits u (holding u f us) a ≡ true → type_of a ≡ s → ValuedFits ts (write_at s l ss a us) s false
  write_at_fits ts us s (plain x) ss a on h place fit e = record {
    more = on;
    statements = then_fits us us ss _ h extends_self (λ b c later k. written_fits later b c s (plain x) a place (expr_kept u f us later k a fit) e);
    value = place;
    type = refl;
    zero = λ e. cc;
  }
  write_at_fits ts us s (pointed p) ss a on h place fit e =
      let next = extends_with us s in
      let in_it = λ (later : Temporaries) (k : Extends (with_temporary us s) later). ap (λ (o : Option Scalar). is_type o s) (found_later us s k) ∙ same_from refl in
      record {
        more = extends_then on next;
        statements = both_fit u f us (with_temporary us s) ss _ h next (record {
          fit = λ b c later k.
              and_from _ _
              (and_from _ _ (expr_kept u f us later (extends_then next k) a fit) (subst (λ (t : Scalar). is_type (slice_get later (next_number us)) t ≡ true) (sym e) (in_it later k)))
              (and_from _ _ (written_fits later b c s (pointed p) (core.temporary s (next_number us)) (location_kept us later (extends_then next k) s (pointed p) place) (in_it later k) refl) refl);
        });
        value = ap (λ (o : Option Scalar). is_type o s) (found_last us s) ∙ same_from refl;
        type = refl;
        zero = λ e. cc;
      }

  pub write_used : (ts : Temporaries) (w : Written) (s : Scalar) → WrittenFits ts w s → ValuedFits ts (write_valued w) s false
  write_used ts w s h = subst (λ (t : Scalar). ValuedFits ts (write_valued w) t false) h.scalar
      (write_at_fits ts w.temporaries w.scalar w.location w.statements w.value h.more h.statements
      (subst (λ (t : Scalar). location_fits w.temporaries t w.location ≡ true) (sym h.scalar) h.location) h.value (h.type ∙ sym h.scalar))

  pub set_fits : (ts : Temporaries) (s t : Scalar) (z : Bool) (c : Conversion) (l : Located) (v : Valued) → LocatedFits ts l s → ValuedFits l.temporaries v t z → (source.conversion_fits c t z && same_scalar (type_after c t) s) ≡ true → WrittenFits ts (set_core s c l v) s
  set_fits ts s t z c l v h k fit =
      let found = becomes_fits l.temporaries v.temporaries c v t s z k extends_self fit in
      record {
        more = extends_then h.more k.more;
        statements = both_fit u f l.temporaries v.temporaries l.statements v.statements h.statements k.more k.statements;
        location = location_kept l.temporaries v.temporaries k.more s l.location h.location;
        value = found.value;
        type = found.type;
        scalar = refl;
      }

  -- what a compound assignment writes
  pub updated_fits : (ts us : Temporaries) (op : BinaryOperation) (left right back : Conversion) (v w : Valued) (s t : Scalar) (y z : Bool) → ValuedFits ts v s y → ValuedFits us w t z → Extends v.temporaries w.temporaries → source.conversion_fits left s y ≡ true → source.conversion_fits right t z ≡ true → binary_takes op (type_after left s) (type_after right t) ≡ true → source.conversion_fits back (binary_type op) false ≡ true → ConvertedFits w.temporaries back (operation_core op as_written left right v.value w.value) (type_after back (binary_type op))
  updated_fits ts us op left right back v w s t y z h k e fit_left fit_right takes fit_back =
      let a = operation_core op as_written left right v.value w.value in
      let whole = operation_fits ts us op as_written left right v w s t y z h k e fit_left fit_right takes in
      record {
        value = converted_fits u f w.temporaries back a (binary_type op) false whole refl fit_back (λ e. cc);
        type = converted_type u f back a (binary_type op) refl;
      }

  -- ---- calls

  pub record AllValuedFit (ts : Temporaries) (v : ValuedAll) (types : List Scalar) : Type 0 where
    pub more : Extends ts v.temporaries
    pub statements : AllFit u f v.temporaries v.statements
    pub values : exprs_fit u (holding u f v.temporaries) v.values ≡ true
    pub value_types : map type_of v.values ≡ types

  pub argument_fits : (ts : Temporaries) (c : Conversion) (v : Valued) (s t : Scalar) (z : Bool) (rest : ValuedAll) (types : List Scalar) → ValuedFits ts v s z → AllValuedFit v.temporaries rest types → (source.conversion_fits c s z && same_scalar (type_after c s) t) ≡ true → AllValuedFit ts (argument_before c v rest) (t ∷ types)
  argument_fits ts c v s t z rest types h k fit =
      let found = becomes_fits ts rest.temporaries c v s t z h k.more fit in
      let first = found.type in
      let others = k.value_types in
      record {
        more = extends_then h.more k.more;
        statements = both_fit u f v.temporaries rest.temporaries v.statements rest.statements h.statements k.more k.statements;
        values = and_from _ _ found.value k.values;
        value_types = ap (λ (x : Scalar). x ∷ map type_of rest.values) first ∙ ap (λ (xs : List Scalar). t ∷ xs) others;
      }

  taken_is : (ts : Temporaries) (r : Option Scalar) (s : Scalar) (k : ℕ) → is_type r s ≡ true → slice_get ts k ≡ Some s → taken_fits (holding u f ts) r k ≡ true
  taken_is ts None s k h e = cc
  taken_is ts (Some r) s k h e = ap (λ (o : Option Scalar). is_type o r) e ∙ same_from (sym (same_types h))

  used_fits : (ts : Temporaries) (o : Option Signature) (s : Scalar) (k : ℕ) (es : List CoreExprTree) → source.result_fits o s ≡ true → map type_of es ≡ source.taken o → slice_get ts k ≡ Some s → any_mentions k es ≡ false → call_fits (holding u f ts) (Some k) o es ≡ true
  used_fits ts None s k es h types e none = cc
  used_fits ts (Some g) s k es h types e none =
      and_from _ _ (all_same_from _ _ types) (and_from _ _ (taken_is ts g.result_type s k h e) (ap not none))

  unused_fits : (ts : Temporaries) (o : Option Signature) (es : List CoreExprTree) → is_some o ≡ true → map type_of es ≡ source.taken o → call_fits (holding u f ts) None o es ≡ true
  unused_fits ts None es h types = cc
  unused_fits ts (Some g) es h types = and_from _ _ (all_same_from _ _ types) refl

  pub call_used : (ts : Temporaries) (s : Scalar) (callee : Callee) (v : ValuedAll) (o : Option Signature) → signature_of (interface_of u) callee ≡ o → AllValuedFit ts v (source.taken o) → source.result_fits o s ≡ true → ValuedFits ts (call_valued s callee v) s false
  call_used ts s callee v o is h fit =
      let next = extends_with v.temporaries s in
      record {
        more = extends_then h.more next;
        statements = then_fits v.temporaries (with_temporary v.temporaries s) v.statements _ h.statements next (λ b c later e.
            and_from _ _ (exprs_kept u f v.temporaries later (extends_then next e) v.values h.values)
            (subst (λ (p : Option Signature). call_fits (holding u f later) (Some (next_number v.temporaries)) p v.values ≡ true) (sym is)
            (used_fits later o s (next_number v.temporaries) v.values fit h.value_types (found_later v.temporaries s e) (none_mentioned u f v.temporaries v.values h.values))));
        value = ap (λ (p : Option Scalar). is_type p s) (found_last v.temporaries s) ∙ same_from refl;
        type = refl;
        zero = λ e. cc;
      }

  pub call_alone : (ts : Temporaries) (callee : Callee) (v : ValuedAll) (o : Option Signature) → signature_of (interface_of u) callee ≡ o → AllValuedFit ts v (source.taken o) → is_some o ≡ true → ListedFits ts (call_listed callee v)
  call_alone ts callee v o is h fit = record {
    more = h.more;
    statements = then_fits v.temporaries v.temporaries v.statements _ h.statements extends_self (λ b c later e.
        and_from _ _ (exprs_kept u f v.temporaries later e v.values h.values)
        (subst (λ (p : Option Signature). call_fits (holding u f later) None p v.values ≡ true) (sym is) (unused_fits later o v.values fit h.value_types)));
  }

  -- ---- branches

  branch_fits : (later : Temporaries) (b c : Bool) (ss : List CoreStmtTree) (k : ℕ) (a : CoreExprTree) (s : Scalar) → stmts_fit u (holding u f later) b c (stmts_of ss) ≡ true → expr_fits u (holding u f later) a ≡ true → type_of a ≡ s → slice_get later k ≡ Some s → stmt_fits u (holding u f later) b c (branch_with ss k a) ≡ true
  branch_fits later b c ss k a s h fit e found =
      one_fits u (holding u f later) b c (ss ++ keep k a ∷ []) (list_append u (holding u f later) b c ss (keep k a ∷ []) h
      (and_from _ _ (and_from _ _ fit (ap (λ (o : Option Scalar). is_type o (type_of a)) found ∙ same_from (sym e))) refl))

  -- the temporary k gets its value in both branches
  pub branching_fits : (ts us : Temporaries) (s t : Scalar) (z : Bool) (v : Valued) (k : ℕ) (p q : CoreStmtTree) → ValuedFits ts v t z → Extends v.temporaries us → slice_get us k ≡ Some s → ((b c : Bool) (later : Temporaries) → Extends us later → stmt_fits u (holding u f later) b c p ≡ true) → ((b c : Bool) (later : Temporaries) → Extends us later → stmt_fits u (holding u f later) b c q ≡ true) → ValuedFits ts (record { statements = v.statements ++ core.branch v.value p q ∷ []; value = core.temporary s k; temporaries = us }) s false
  branching_fits ts us s t z v k p q h on found fit_p fit_q = record {
    more = extends_then h.more on;
    statements = then_fits v.temporaries us v.statements _ h.statements on (λ b c later e.
        and_from _ _ (and_from _ _ (expr_kept u f v.temporaries later (extends_then on e) v.value h.value) (fit_p b c later e)) (fit_q b c later e));
    value = ap (λ (o : Option Scalar). is_type o s) found ∙ same_from refl;
    type = refl;
    zero = λ e. cc;
  }

  truth_fits : (ts : Temporaries) (a : CoreExprTree) → expr_fits u (holding u f ts) a ≡ true → expr_fits u (holding u f ts) (truth_core a) ≡ true
  truth_fits ts a h = and_from _ _ h refl

  pub and_fits : (ts : Temporaries) (v w : Valued) (s t : Scalar) (y z : Bool) → ValuedFits ts v s y → ValuedFits v.temporaries w t z → ValuedFits ts (and_branching v w) scalars.Int false
  and_fits ts v w s t y z h k =
      let k_is = next_number w.temporaries in
      let on = extends_with w.temporaries scalars.Int in
      branching_fits ts (with_temporary w.temporaries scalars.Int) scalars.Int s y v k_is _ _ h (extends_then k.more on) (found_last w.temporaries scalars.Int)
      (λ b c later e. branch_fits later b c w.statements k_is (truth_core w.value) scalars.Int (k.statements.fit b c later (extends_then on e))
      (truth_fits later w.value (expr_kept u f w.temporaries later (extends_then on e) w.value k.value)) refl (found_later w.temporaries scalars.Int e))
      (λ b c later e. branch_fits later b c [] k_is (truth_literal 0) scalars.Int refl refl refl (found_later w.temporaries scalars.Int e))

  pub or_fits : (ts : Temporaries) (v w : Valued) (s t : Scalar) (y z : Bool) → ValuedFits ts v s y → ValuedFits (with_temporary v.temporaries scalars.Int) w t z → ValuedFits ts (or_branching v w) scalars.Int false
  or_fits ts v w s t y z h k =
      let k_is = next_number v.temporaries in
      branching_fits ts w.temporaries scalars.Int s y v k_is _ _ h (extends_then (extends_with v.temporaries scalars.Int) k.more) (found_later v.temporaries scalars.Int k.more)
      (λ b c later e. branch_fits later b c [] k_is (truth_literal 1) scalars.Int refl refl refl (found_later v.temporaries scalars.Int (extends_then k.more e)))
      (λ b c later e. branch_fits later b c w.statements k_is (truth_core w.value) scalars.Int (k.statements.fit b c later e)
      (truth_fits later w.value (expr_kept u f w.temporaries later e w.value k.value)) refl (found_later v.temporaries scalars.Int (extends_then k.more e)))

  pub choice_fits : (ts : Temporaries) (s : Scalar) (second third : Conversion) (v a b : Valued) (r t w : Scalar) (x y z : Bool) → ValuedFits ts v r x → ValuedFits v.temporaries a t y → ValuedFits (with_temporary a.temporaries s) b w z → (source.conversion_fits second t y && same_scalar (type_after second t) s) ≡ true → (source.conversion_fits third w z && same_scalar (type_after third w) s) ≡ true → ValuedFits ts (choice_branching s second third v a b) s false
  choice_fits ts s second third v a b r t w x y z h ha hb fit_a fit_b =
      let k_is = next_number a.temporaries in
      let on = extends_then (extends_with a.temporaries s) hb.more in
      branching_fits ts b.temporaries s r x v k_is _ _ h (extends_then ha.more on) (found_later a.temporaries s hb.more)
      (λ p q later e.
      let found = becomes_fits v.temporaries later second a t s y ha (extends_then on e) fit_a in
      branch_fits later p q a.statements k_is (converted_core second a.value) s (ha.statements.fit p q later (extends_then on e)) found.value found.type (found_later a.temporaries s (extends_then hb.more e)))
      (λ p q later e.
      let found = becomes_fits (with_temporary a.temporaries s) later third b w s z hb e fit_b in
      branch_fits later p q b.statements k_is (converted_core third b.value) s (hb.statements.fit p q later e) found.value found.type (found_later a.temporaries s (extends_then hb.more e)))

  pub choice_joined_fits : (ts : Temporaries) (s : Scalar) (second third : Conversion) (v a b : Valued) (r t w : Scalar) (x y z : Bool) → ValuedFits ts v r x → ValuedFits v.temporaries a t y → ValuedFits a.temporaries b w z → (source.conversion_fits second t y && same_scalar (type_after second t) s) ≡ true → (source.conversion_fits third w z && same_scalar (type_after third w) s) ≡ true → ValuedFits ts (choice_joined second third v a b) s false
  choice_joined_fits ts s second third v a b r t w x y z h ha hb fit_a fit_b =
      let met = becomes_fits v.temporaries b.temporaries second a t s y ha hb.more fit_a in
      let unmet = becomes_fits a.temporaries b.temporaries third b w s z hb extends_self fit_b in
      record {
        more = extends_then h.more (extends_then ha.more hb.more);
        statements = both_fit u f v.temporaries b.temporaries v.statements (a.statements ++ b.statements) h.statements (extends_then ha.more hb.more)
            (both_fit u f a.temporaries b.temporaries a.statements b.statements ha.statements hb.more hb.statements);
        value = and_from _ _ (and_from _ _ (and_from _ _ (expr_kept u f v.temporaries b.temporaries (extends_then ha.more hb.more) v.value h.value) met.value) unmet.value)
            (same_from (met.type ∙ sym unmet.type));
        type = met.type;
        zero = λ e. cc;
      }
