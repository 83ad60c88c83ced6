-- What an expression gives in core fits, where the expression does: each form, by induction.
use Rattle.std.proofs.Common.{◌≡◌, ℕ, nat_le, ◌&&◌, ◌||◌, Bool, true, false, List, [], ◌∷◌, ◌++◌, Option, Some, None, is_some, refl, sym, ap, ◌∙◌, subst, arith, if◌then◌else◌}
use Rattle.std.specs.List.{slice_get}
use Rattle.std.proofs.lemmas.Bool.Decides.{nat_tests}
use Rattle.std.proofs.lemmas.Bool.{and_parts, and_from}
use Rattle.qs_memory.specs.Values.{integer, has_type}
use Rattle.qs_memory.specs.Operations.{integer_type, binary_type}
use Rattle.qs_memory.specs.Sizes.{largest_size, is_element}
use Rattle.qs_memory.specs.Scalars.{same_scalar, is_type, is_pointer}
use Rattle.qs_memory.specs.Operands.{unary_takes, binary_takes}
use Rattle.qs_memory.proofs.BlankLaws.{blank_length}
use Rattle.qs_memory.specs.declared.scalar.Scalar.{Scalar}
use Rattle.qs_memory.specs.declared.scalar.Scalar.TheVariants as scalars
use Rattle.qs_memory.specs.declared.operation.Signedness.{Signedness}
use Rattle.qs_memory.specs.declared.operation.Signedness.TheVariants.{Signed, Unsigned}
use Rattle.qs_memory.specs.declared.operation.BinaryOperation.{BinaryOperation}
use Rattle.qs_memory.specs.declared.operation.BinaryOperation.TheVariants as binaries
use Rattle.qs_calls.specs.Starts.{Interface, signature_of}
use Rattle.qs_calls.specs.declared.callee.Callee.{Callee}
use Rattle.qs_core.specs.Trees.{CoreFunctionTree, CoreUnitTree}
use Rattle.qs_core.specs.Trees as core
use Rattle.qs_core.specs.Expressions as core_expressions
use Rattle.qs_core.specs.Interfaces.{variable_type}
use Rattle.qs_core.specs.Interfaces as core_interfaces
use Rattle.qs_core.specs.Fits as fits
use Rattle.qs_core.proofs.FitLaws.{all_at}
use Rattle.qs_meaning.specs.Typed.{Conversion, unchanged, Object, local, static, Expr, constant, value, pointer_to, member, called, stepped_after, unary, cast, binary, logical_and, logical_or, conditional, assigned, sequence, Lvalue, variable, object, Arguments, no_arguments, argument_and, Assignment, set, update, Effect, nothing, discard, assign, perform, copy, fill, in_order, Function}
use Rattle.qs_meaning.specs.Fits.{type_after, assigned_type, type_of, is_null, amount_type, object_there, expr_fits, lvalue_fits, arguments_fit, assignment_fits, effect_fits, conversion_fits, becomes, taken, is_whole_local}
use Rattle.qs_meaning.specs.Fits as source
use Rattle.qs_elaborate_bodies.specs.Literals.{literal_value}
use Rattle.qs_elaborate_bodies.specs.Acting.{acts, arguments_act}
use Rattle.qs_elaborate_bodies.specs.Parts.{Temporaries, next_number, with_temporary, Valued, Listed, saved_if, joined, Located, address_saved_if, value_at, value_read, in_turn, before}
use Rattle.qs_elaborate_bodies.specs.Expressions.{block_of, operation_core, updated_core, step_amount, step_valued, and_branching, or_branching, choice_branching, choice_joined, expression_core, lvalue_core, arguments_core, assignment_core, effect_core}
use Rattle.qs_elaborate_laws.proofs.FitParts.{same_from, same_types, points, pointer_type, extends_self, extends_then, extends_with, found_last, found_later, holding, none_fit, both_fit, expr_kept, ordered_type}
use Rattle.qs_elaborate_laws.proofs.FitOperands.{ValuedFits, pure_fits, valued_with, saved_fits, operand_fits, operand_more, converted_valued, ListedFits, then_fits, LocatedFits, location_kept, address_fits, place_fits, read_fits, written_fits, operation_fits, joined_fits, WrittenFits, write_alone, write_used, set_fits, updated_fits, AllValuedFit, argument_fits, call_used, call_alone, and_fits, or_fits, choice_fits, choice_joined_fits}

-- a function in core has the variables, blocks and result that it has in the source, and its unit the functions
pub record IsAlike (u : CoreUnitTree) (f : CoreFunctionTree) (i : Interface) (g : Function) : Type 0 where
  pub variables : (x : ℕ) (s : Scalar) → is_type (slice_get g.variables x) s ≡ true → is_type (variable_type f x) s ≡ true
  pub objects : (o : Object) → object_there i g o ≡ true → fits.block_fits u f (block_of o) ≡ true
  pub signatures : (callee : Callee) → signature_of (core_interfaces.interface_of u) callee ≡ signature_of i callee
  pub result : f.result_type ≡ g.result
  pub small : source.are_small g.blocks ≡ true

-- a null constant is the literal 0
null_literal : (a : Expr) (ts : Temporaries) → is_null a ≡ true → literal_value (expression_core a ts).value ≡ Some (integer 0)
null_literal (constant s n) ts h = let none : n ≡ 0 = grind (arith, nat_tests, h) in ap (λ (k : ℕ). Some (integer k)) none
null_literal _ ts h = cc

-- ---- the amount of a step

one_of : (s : Signedness) → has_type (integer_type s) (integer 1) ≡ true
one_of Signed = refl
one_of Unsigned = refl

module _ (u : CoreUnitTree) (f : CoreFunctionTree) where
  amount_fits : (ts : Temporaries) (op : BinaryOperation) (s : Scalar) → binary_takes op s (amount_type op) ≡ true → ValuedFits u f ts (record { statements = []; value = step_amount op; temporaries = ts }) (amount_type op) false
  amount_fits ts (binaries.Arithmetic op s) t h = pure_fits u f ts (core.literal (integer_type s) 1) (integer_type s) false (one_of s) refl (λ e. cc)
  amount_fits ts (binaries.Compare op s) t h = pure_fits u f ts (core.literal (integer_type s) 1) (integer_type s) false (one_of s) refl (λ e. cc)
  amount_fits ts (binaries.Move direction s element) t h = pure_fits u f ts (core.literal (integer_type s) 1) (integer_type s) false (one_of s) refl (λ e. cc)
  amount_fits ts (binaries.Difference element) t h =
      let two = and_parts (is_pointer t && false) (is_element element) h in let never = and_parts (is_pointer t) false two.0 in cc
  amount_fits ts (binaries.ComparePointers op) t h = let never = and_parts (is_pointer t) false h in cc

  -- a step whose value is used
  step_fits : (ts : Temporaries) (s : Scalar) (op : BinaryOperation) (left back : Conversion) (l : Located) → LocatedFits u f ts l s → conversion_fits left s false ≡ true → binary_takes op (type_after left s) (amount_type op) ≡ true → (conversion_fits back (binary_type op) false && same_scalar (type_after back (binary_type op)) s) ≡ true → ValuedFits u f ts (step_valued s op left back l) s false
  step_fits ts s op left back l h fit_left takes fit_back =
      let us : Temporaries = with_temporary l.temporaries s in
      let k = next_number l.temporaries in
      let next = extends_with l.temporaries s in
      let last = and_parts (conversion_fits back (binary_type op) false) _ fit_back in
      let stands : is_type (slice_get us k) s ≡ true = ap (λ (o : Option Scalar). is_type o s) (found_last l.temporaries s) ∙ same_from refl in
      let old = pure_fits u f us (core.temporary s k) s false stands refl (λ e. cc) in
      let new = updated_fits u f us us op left unchanged back _ _ s (amount_type op) false false old (amount_fits us op (type_after left s) takes) extends_self fit_left refl takes last.0 in
      let read = read_fits u f ts l s h in
      let new_core = updated_core op left unchanged back (core.temporary s k) (step_amount op) in
      record {
        more = extends_then h.more next;
        statements = both_fit u f l.temporaries us l.statements _ h.statements next (record {
          fit = λ b c later e.
              and_from _ _
              (and_from _ _ (expr_kept u f l.temporaries later (extends_then next e) (value_at s l.location) read.value)
              (ap (λ (o : Option Scalar). is_type o (core_expressions.type_of (value_at s l.location))) (found_later l.temporaries s e) ∙ same_from (sym read.type)))
              (and_from _ _ (written_fits u f later b c s l.location new_core (location_kept u f l.temporaries later (extends_then next e) s l.location h.location)
              (expr_kept u f us later e new_core new.value) (new.type ∙ same_types last.1)) refl);
        });
        value = stands;
        type = refl;
        zero = λ e. cc;
      }

module _ (u : CoreUnitTree) (f : CoreFunctionTree) (i : Interface) (g : Function) (alike : IsAlike u f i g) where
  object_fits : (ts : Temporaries) (o : Object) → object_there i g o ≡ true → fits.expr_fits u (holding u f ts) (core.address_of (block_of o)) ≡ true
  object_fits ts (local k) h = alike.objects (local k) h
  object_fits ts (static k) h = alike.objects (static k) h

  and_chosen : (z : Bool) (ts : Temporaries) (v w : Valued) (s t : Scalar) (x y : Bool) → ValuedFits u f ts v s x → ValuedFits u f v.temporaries w t y → ValuedFits u f ts (if z then and_branching v w else joined core.logical_and v w) scalars.Int false
  and_chosen true ts v w s t x y h k = and_fits u f ts v w s t x y h k
  and_chosen false ts v w s t x y h k =
      joined_fits u f ts v w s t scalars.Int x y h k core.logical_and (and_from _ _ (expr_kept u f v.temporaries w.temporaries k.more v.value h.value) k.value) refl

  or_chosen : (z : Bool) (ts : Temporaries) (v a b : Valued) (s t : Scalar) (x y : Bool) → ValuedFits u f ts v s x → ValuedFits u f (with_temporary v.temporaries scalars.Int) a t y → ValuedFits u f v.temporaries b t y → ValuedFits u f ts (if z then or_branching v a else joined core.logical_or v b) scalars.Int false
  or_chosen true ts v a b s t x y h ha hb = or_fits u f ts v a s t x y h ha
  or_chosen false ts v a b s t x y h ha hb =
      joined_fits u f ts v b s t scalars.Int x y h hb core.logical_or (and_from _ _ (expr_kept u f v.temporaries b.temporaries hb.more v.value h.value) hb.value) refl

  -- the two ways of `?:`
  choice_chosen : (q : Bool) (ts : Temporaries) (s : Scalar) (second third : Conversion) (v a b c : Valued) (r t w : Scalar) (x y z : Bool) → ValuedFits u f ts v r x → ValuedFits u f v.temporaries a t y → ValuedFits u f (with_temporary a.temporaries s) b w z → ValuedFits u f a.temporaries c w z → (conversion_fits second t y && same_scalar (type_after second t) s) ≡ true → (conversion_fits third w z && same_scalar (type_after third w) s) ≡ true → ValuedFits u f ts (if q then choice_branching s second third v a b else choice_joined second third v a c) s false
  choice_chosen true ts s second third v a b c r t w x y z h ha hb hc fit_a fit_b = choice_fits u f ts s second third v a b r t w x y z h ha hb fit_a fit_b
  choice_chosen false ts s second third v a b c r t w x y z h ha hb hc fit_a fit_b = choice_joined_fits u f ts s second third v a c r t w x y z h ha hc fit_a fit_b

  -- a list of effects, and a value
  before_fits : (ts : Temporaries) (l : Listed) (v : Valued) (s : Scalar) (z : Bool) → ListedFits u f ts l → ValuedFits u f l.temporaries v s z → ValuedFits u f ts (before l v) s false
  before_fits ts l v s z h k = record {
    more = extends_then h.more k.more;
    statements = both_fit u f l.temporaries v.temporaries l.statements v.statements h.statements k.more k.statements;
    value = k.value;
    type = k.type;
    zero = λ e. cc;
  }

  pub turn_fits : (ts : Temporaries) (a b : Listed) → ListedFits u f ts a → ListedFits u f a.temporaries b → ListedFits u f ts (in_turn a b)
  turn_fits ts a b h k = record {
    more = extends_then h.more k.more;
    statements = both_fit u f a.temporaries b.temporaries a.statements b.statements h.statements k.more k.statements;
  }

  whole_local_points : (size : ℕ) (a : Expr) → is_whole_local g size a ≡ true → type_of a ≡ scalars.Pointer
  whole_local_points size (pointer_to (local k)) h = refl
  whole_local_points size (pointer_to (static k)) h = refl
  whole_local_points size _ h = cc

  whole_local_small : (size : ℕ) (a : Expr) → is_whole_local g size a ≡ true → nat_le size largest_size ≡ true
  whole_local_small size (pointer_to (local k)) h = by_block (slice_get g.blocks k) refl h
    where
      by_block : (o : Option ℕ) → slice_get g.blocks k ≡ o → source.is_size o size ≡ true → nat_le size largest_size ≡ true
      by_block None is h = cc
      by_block (Some n) is h =
          let same : n ≡ size = grind (arith, nat_tests, h) in
          subst (λ (m : ℕ). nat_le m largest_size ≡ true) same (all_at (λ m. nat_le m largest_size) g.blocks k n alike.small is)
  whole_local_small size (pointer_to (static k)) h = cc
  whole_local_small size _ h = cc

  mutual
    pub expression_fits : (a : Expr) → expr_fits i g a ≡ true → (ts : Temporaries) → ValuedFits u f ts (expression_core a ts) (type_of a) (is_null a)
    expression_fits (constant s n) h ts = pure_fits u f ts (core.literal s n) s _ h refl (null_literal (constant s n) ts)
    expression_fits (value s l) h ts = read_fits u f ts (lvalue_core l ts) s (lvalue_fits_too l s h ts)
    expression_fits (pointer_to o) h ts = pure_fits u f ts (core.address_of (block_of o)) scalars.Pointer false (object_fits ts o h) refl (λ e. cc)
    expression_fits (member offset a) h ts =
        let two = and_parts (expr_fits i g a) _ h in
        let room = and_parts (is_pointer (type_of a)) _ two.1 in
        let v = expression_fits a two.0 ts in
        valued_with u f ts _ _ _ v (core.member offset (expression_core a ts).value) scalars.Pointer (and_from _ _ (and_from _ _ v.value (points (v.type ∙ pointer_type room.0))) room.1) refl
    expression_fits (called s callee es) h ts =
        let two = and_parts (arguments_fit i g (taken (signature_of i callee)) es) _ h in
        call_used u f ts s callee (arguments_core es ts) (signature_of i callee) (alike.signatures callee) (arguments_fit_too es _ two.0 ts) two.1
    expression_fits (stepped_after s l op left back) h ts =
        let two = and_parts (lvalue_fits i g s l) _ h in
        let three = and_parts (conversion_fits left s false) _ two.1 in
        let four = and_parts (binary_takes op (type_after left s) (amount_type op)) _ three.1 in
        step_fits u f ts s op left back (lvalue_core l ts) (lvalue_fits_too l s two.0 ts) three.0 four.0 four.1
    expression_fits (unary op c a) h ts =
        let two = and_parts (expr_fits i g a) _ h in
        let three = and_parts (conversion_fits c (type_of a) (is_null a)) _ two.1 in
        let v = expression_fits a two.0 ts in
        let x = converted_valued u f ts _ c _ _ _ v extends_self three.0 in
        valued_with u f ts _ _ _ v _ _
        (and_from _ _ x.value (ap (λ (t : Scalar). unary_takes op t) x.type ∙ three.1)) refl
    expression_fits (cast c a) h ts =
        let two = and_parts (expr_fits i g a) _ h in
        let v = expression_fits a two.0 ts in
        let x = converted_valued u f ts _ c _ _ _ v extends_self two.1 in
        valued_with u f ts _ _ _ v _ _ x.value x.type
    expression_fits (binary op order left right a b) h ts =
        let two = and_parts (expr_fits i g a && expr_fits i g b) _ h in
        let parts = and_parts (expr_fits i g a) _ two.0 in
        let takes = and_parts (conversion_fits left (type_of a) (is_null a) && conversion_fits right (type_of b) (is_null b)) _ two.1 in
        let conversions = and_parts (conversion_fits left (type_of a) (is_null a)) _ takes.0 in
        let first = operand_fits u f ts (acts b) (expression_core a ts) (type_of a) (is_null a) (expression_fits a parts.0 ts) in
        let second = expression_fits b parts.1 (saved_if (acts b) (expression_core a ts)).temporaries in
        joined_fits u f ts _ _ _ _ (binary_type op) _ _ first second (operation_core op order left right)
        (operation_fits u f ts (saved_if (acts b) (expression_core a ts)).temporaries op order left right _ _ _ _ _ _ first second second.more conversions.0 conversions.1 takes.1)
        (ordered_type u f op order _ _)
    expression_fits (logical_and a b) h ts =
        let two = and_parts (expr_fits i g a) _ h in
        and_chosen (acts b) ts _ _ _ _ _ _ (expression_fits a two.0 ts) (expression_fits b two.1 _)
    expression_fits (logical_or a b) h ts =
        let two = and_parts (expr_fits i g a) _ h in
        or_chosen (acts b) ts _ _ _ _ _ _ _ (expression_fits a two.0 ts) (expression_fits b two.1 _) (expression_fits b two.1 _)
    expression_fits (conditional s a second third b c) h ts =
        let two = and_parts (expr_fits i g a) _ h in
        let three = and_parts (expr_fits i g b && becomes second b s) _ two.1 in
        let met = and_parts (expr_fits i g b) _ three.0 in
        let unmet = and_parts (expr_fits i g c) _ three.1 in
        choice_chosen (acts b || acts c) ts s second third _ _ _ _ _ _ _ _ _ _ (expression_fits a two.0 ts) (expression_fits b met.0 _)
        (expression_fits c unmet.0 _) (expression_fits c unmet.0 _) met.1 unmet.1
    expression_fits (assigned a) h ts = write_used u f ts (assignment_core a ts) (assigned_type a) (assignment_fits_too a h ts)
    expression_fits (sequence a b) h ts =
        let two = and_parts (effect_fits i g a) _ h in before_fits ts _ _ _ _ (effect_fits_too a two.0 ts) (expression_fits b two.1 _)

    lvalue_fits_too : (l : Lvalue) (s : Scalar) → lvalue_fits i g s l ≡ true → (ts : Temporaries) → LocatedFits u f ts (lvalue_core l ts) s
    lvalue_fits_too (variable x) s h ts = record { more = extends_self; statements = none_fit u f ts; location = alike.variables x s h }
    lvalue_fits_too (object a) s h ts =
        let two = and_parts (expr_fits i g a) _ h in
        let v = expression_fits a two.0 ts in
        address_fits u f ts _ s (is_null a) (subst (λ (t : Scalar). ValuedFits u f ts (expression_core a ts) t (is_null a)) (pointer_type two.1) v)

    arguments_fit_too : (es : Arguments) (types : List Scalar) → arguments_fit i g types es ≡ true → (ts : Temporaries) → AllValuedFit u f ts (arguments_core es ts) types
    arguments_fit_too no_arguments [] h ts = record { more = extends_self; statements = none_fit u f ts; values = refl; value_types = refl }
    arguments_fit_too no_arguments (s ∷ types) h ts = cc
    arguments_fit_too (argument_and c a es) [] h ts = cc
    arguments_fit_too (argument_and c a es) (s ∷ types) h ts =
        let two = and_parts (expr_fits i g a && becomes c a s) _ h in
        let one = and_parts (expr_fits i g a) _ two.0 in
        let first = operand_fits u f ts (arguments_act es) (expression_core a ts) (type_of a) (is_null a) (expression_fits a one.0 ts) in
        argument_fits u f ts c _ (type_of a) s (is_null a) _ types first (arguments_fit_too es types two.1 _) one.1

    assignment_fits_too : (a : Assignment) → assignment_fits i g a ≡ true → (ts : Temporaries) → WrittenFits u f ts (assignment_core a ts) (assigned_type a)
    assignment_fits_too (set s l c a) h ts =
        let two = and_parts (lvalue_fits i g s l) _ h in
        let one = and_parts (expr_fits i g a) _ two.1 in
        let at = place_fits u f ts (acts a) (lvalue_core l ts) s (lvalue_fits_too l s two.0 ts) in
        set_fits u f ts s (type_of a) (is_null a) c _ _ at (expression_fits a one.0 _) one.1
    assignment_fits_too (update s l op left right back a) h ts =
        let two = and_parts (lvalue_fits i g s l && expr_fits i g a) _ h in
        let parts = and_parts (lvalue_fits i g s l) _ two.0 in
        let takes = and_parts (conversion_fits left s false && conversion_fits right (type_of a) (is_null a)) _ two.1 in
        let conversions = and_parts (conversion_fits left s false) _ takes.0 in
        let operation = and_parts (binary_takes op (type_after left s) (type_after right (type_of a))) _ takes.1 in
        let last = and_parts (conversion_fits back (binary_type op) false) _ operation.1 in
        let at = place_fits u f ts (acts a) (lvalue_core l ts) s (lvalue_fits_too l s parts.0 ts) in
        let l_saved = address_saved_if (acts a) (lvalue_core l ts) in
        let old = operand_fits u f ts (acts a) (value_read s l_saved) s false (read_fits u f ts l_saved s at) in
        let old_core = saved_if (acts a) (value_read s l_saved) in
        let new = expression_fits a parts.1 old_core.temporaries in
        let whole = updated_fits u f ts _ op left right back _ _ s (type_of a) false (is_null a) old new new.more conversions.0 conversions.1 operation.0 last.0 in
        record {
          more = extends_then old.more new.more;
          statements = both_fit u f old_core.temporaries _ old_core.statements _ old.statements new.more new.statements;
          location = location_kept u f l_saved.temporaries _ (extends_then (operand_more u f (acts a) (value_read s l_saved)) new.more) s l_saved.location at.location;
          value = whole.value;
          type = whole.type ∙ same_types last.1;
          scalar = refl;
        }

    pub effect_fits_too : (a : Effect) → effect_fits i g a ≡ true → (ts : Temporaries) → ListedFits u f ts (effect_core a ts)
    effect_fits_too nothing h ts = record { more = extends_self; statements = none_fit u f ts }
    effect_fits_too (discard a) h ts =
        let v = saved_fits u f ts (expression_core a ts) (type_of a) (is_null a) (expression_fits a h ts) in
        record { more = v.more; statements = v.statements }
    effect_fits_too (assign a) h ts = write_alone u f ts (assignment_core a ts) (assigned_type a) (assignment_fits_too a h ts)
    effect_fits_too (perform callee es) h ts =
        let two = and_parts (is_some (signature_of i callee)) _ h in
        call_alone u f ts callee (arguments_core es ts) (signature_of i callee) (alike.signatures callee) (arguments_fit_too es _ two.1 ts) two.0
    effect_fits_too (copy size alignment a b) h ts =
        let two = and_parts (expr_fits i g a && is_pointer (type_of a)) _ h in
        let to_fit = and_parts (expr_fits i g a) _ two.0 in
        let aligned = and_parts (expr_fits i g b && is_pointer (type_of b)) _ two.1 in
        let sizes = and_parts (nat_le 1 alignment) _ aligned.1 in
        let from_fit = and_parts (expr_fits i g b) _ aligned.0 in
        let to_core = saved_if (acts b) (expression_core a ts) in
        let to = operand_fits u f ts (acts b) (expression_core a ts) (type_of a) (is_null a) (expression_fits a to_fit.0 ts) in
        let from = expression_fits b from_fit.0 to_core.temporaries in
        let from_core = expression_core b to_core.temporaries in
        record {
          more = extends_then to.more from.more;
          statements = then_fits u f from_core.temporaries from_core.temporaries (to_core.statements ++ from_core.statements) _
              (both_fit u f to_core.temporaries from_core.temporaries to_core.statements from_core.statements to.statements from.more from.statements) extends_self (λ p q later e.
              and_from _ _ (and_from _ _ (and_from _ _
              (and_from _ _ (expr_kept u f to_core.temporaries later (extends_then from.more e) to_core.value to.value) (points (to.type ∙ pointer_type to_fit.1)))
              (and_from _ _ (expr_kept u f from_core.temporaries later e from_core.value from.value) (points (from.type ∙ pointer_type from_fit.1)))) sizes.0) sizes.1);
        }
    effect_fits_too (fill blank a) h ts =
        let two = and_parts (expr_fits i g a) _ h in
        let v = expression_fits a two.0 ts in
        let at = expression_core a ts in
        record {
          more = v.more;
          statements = then_fits u f at.temporaries at.temporaries at.statements _ v.statements extends_self (λ p q later e.
              and_from _ _ (and_from _ _ (expr_kept u f at.temporaries later e at.value v.value) (points (v.type ∙ whole_local_points _ a two.1)))
              (ap (λ (n : ℕ). nat_le n largest_size) (sym (blank_length blank)) ∙ whole_local_small _ a two.1));
        }
    effect_fits_too (in_order a b) h ts =
        let two = and_parts (effect_fits i g a) _ h in turn_fits ts _ _ (effect_fits_too a two.0 ts) (effect_fits_too b two.1 _)
