-- Values that are read, converted and computed are of their types, and variables and blocks keep such values.
use Rattle.std.proofs.Common.{◌≡◌, ℕ, zero, suc, ◌==◌, Bool, true, false, if◌then◌else◌, List, [], ◌∷◌, Some, refl, sym, ap, ◌∙◌, subst, arith}
use Rattle.std.specs.List.{slice_get, list_all}
use Rattle.std.proofs.lemmas.Bool.Decides.{nat_tests}
use Rattle.std.proofs.lemmas.Bool.{and_parts}
use Rattle.std.proofs.lemmas.Option.{same_Some}
use Rattle.qs_memory.specs.Partial.{◌>>=◌}
use Rattle.qs_memory.specs.Values.{Value, integer, as_pointer, has_type}
use Rattle.qs_memory.specs.Memory.{Memory, load}
use Rattle.qs_memory.specs.Operations.{apply_unary, apply_binary, unary_type, binary_type}
use Rattle.qs_memory.specs.Soundness.{IsSoundValue, IsSound, ComesAfter}
use Rattle.qs_memory.specs.declared.scalar.Scalar.{Scalar}
use Rattle.qs_memory.specs.declared.scalar.Scalar.TheVariants as scalars
use Rattle.qs_memory.specs.declared.operation.UnaryOperation.{UnaryOperation}
use Rattle.qs_memory.specs.declared.operation.BinaryOperation.{BinaryOperation}
use Rattle.qs_memory.proofs.Options.{followed}
use Rattle.qs_memory.proofs.BlockLaws.{after_same, after_next}
use Rattle.qs_memory.proofs.TypeLaws.{values_have_types}
use Rattle.qs_memory.proofs.ValueLaws.{values_are_sound}
use Rattle.qs_calls.specs.World.{World, with_memory, Environment, no_values, with_value}
use Rattle.qs_calls.specs.Starts.{Interface, IsOf, IsReady}
use Rattle.qs_calls.proofs.StartLaws.{is_of_later, ready_later}
use Rattle.qs_meaning.specs.Typed.{Conversion, unchanged, converted, Order, as_written, exchanged, Function}
use Rattle.qs_meaning.specs.States.{convert_by, Place, in_variable, in_object, read}
use Rattle.qs_meaning.specs.Meaning.{in_their_order, operation_value, updated_value}
use Rattle.qs_meaning.specs.Fits.{type_after}
use Rattle.qs_meaning.specs.Ranges.{VariablesAreOf, IsMoment}

-- ---- tests

pub all_at : {A : Type 0} (p : A → Bool) (xs : List A) (k : ℕ) (x : A) → list_all p xs ≡ true → slice_get xs k ≡ Some x → p x ≡ true
all_at p [] k x all is = cc
all_at p (y ∷ xs) zero x all is = subst (λ z. p z ≡ true) (same_Some y x is) (and_parts (p y) (list_all p xs) all).0
all_at p (y ∷ xs) (suc k) x all is = all_at p xs k x (and_parts (p y) (list_all p xs) all).1 is

-- ---- values

pub number_is_of : (m : Memory) (s : Scalar) (n : ℕ) → has_type s (integer n) ≡ true → IsOf m s (integer n)
number_is_of m scalars.Char n h = record { typed = h; sound = grind (arith, nat_tests, h) }
number_is_of m scalars.Int n h = record { typed = h; sound = grind (arith, nat_tests, h) }
number_is_of m scalars.Unsigned n h = record { typed = h; sound = grind (arith, nat_tests, h) }
number_is_of m scalars.Pointer n h = cc

pub converted_is_of : (c : Conversion) (s : Scalar) (m : Memory) (x y : Value) → IsOf m s x → convert_by c x ≡ Some y → IsOf m (type_after c s) y
converted_is_of unchanged s m x y h e = subst (λ z. IsOf m s z) (same_Some x y e) h
converted_is_of (converted from to) s m x y h e =
    record { typed = values_have_types.converted to m x y h.sound e; sound = values_are_sound.converted to m x y h.sound e }

converted_sound : (c : Conversion) (m : Memory) (x y : Value) → IsSoundValue m x → convert_by c x ≡ Some y → IsSoundValue m y
converted_sound unchanged m x y h e = subst (λ z. IsSoundValue m z) (same_Some x y e) h
converted_sound (converted from to) m x y h e = values_are_sound.converted to m x y h e

pub unary_is_of : (op : UnaryOperation) (c : Conversion) (m : Memory) (x z : Value) → IsSoundValue m x → (convert_by c x >>= λ x. apply_unary op m x) ≡ Some z
    → IsOf m (unary_type op) z
unary_is_of op c m x z h e =
    let a = followed (convert_by c x) _ z e in
    let sound = converted_sound c m x a.value h a.first in
    record { typed = values_have_types.unary op m a.value z sound a.then; sound = values_are_sound.unary op m a.value z sound a.then }

binary_is_of : (op : BinaryOperation) (m : Memory) (x y z : Value) → IsSoundValue m x → IsSoundValue m y → apply_binary op m x y ≡ Some z → IsOf m (binary_type op) z
binary_is_of op m x y z h k e = record { typed = values_have_types.binary op m x y z h k e; sound = values_are_sound.binary op m x y z h k e }

pub operation_is_of : (op : BinaryOperation) (order : Order) (left right : Conversion) (m : Memory) (x y z : Value) → IsSoundValue m x → IsSoundValue m y
    → operation_value op order left right m x y ≡ Some z → IsOf m (binary_type op) z
operation_is_of op order left right m x y z h k e =
    let a = followed (convert_by left x) _ z e in
    let b = followed (convert_by right y) _ z a.then in
    ordered order a.value b.value (converted_sound left m x a.value h a.first) (converted_sound right m y b.value k b.first) b.then
  where
    ordered : (order : Order) (x y : Value) → IsSoundValue m x → IsSoundValue m y → in_their_order order op m x y ≡ Some z → IsOf m (binary_type op) z
    ordered as_written x y h k e = binary_is_of op m x y z h k e
    ordered exchanged x y h k e = binary_is_of op m y x z k h e

pub updated_is_of : (op : BinaryOperation) (left right back : Conversion) (m : Memory) (x y z : Value) → IsSoundValue m x → IsSoundValue m y
    → updated_value op left right back m x y ≡ Some z → IsOf m (type_after back (binary_type op)) z
updated_is_of op left right back m x y z h k e =
    let a = followed (operation_value op as_written left right m x y) _ z e in
    converted_is_of back (binary_type op) m a.value z (operation_is_of op as_written left right m x y a.value h k a.first) a.then

-- ---- moments

pub variables_later : (m later : Memory) (types : List Scalar) (v : Environment) → ComesAfter m later → VariablesAreOf m types v → VariablesAreOf later types v
variables_later m later types v after h = record { each = λ x s y t i. is_of_later m later s y after (h.each x s y t i) }

pub no_values_are_of : (m : Memory) (types : List Scalar) → VariablesAreOf m types no_values
no_values_are_of m types = record { each = λ x s y t h. cc }

pub with_value_are_of : (m : Memory) (types : List Scalar) (v : Environment) (x : ℕ) (s : Scalar) (y : Value) → VariablesAreOf m types v → slice_get types x ≡ Some s → IsOf m s y
    → VariablesAreOf m types (with_value v x y)
with_value_are_of m types v x s y h is of = record { each = λ z t w tz i. at z t w tz (z == x) refl i }
  where
    at : (z : ℕ) (t : Scalar) (w : Value) → slice_get types z ≡ Some t → (b : Bool) → (z == x) ≡ b → (if b then Some y else v z) ≡ Some w → IsOf m t w
    at z t w tz true same i =
        let here : x ≡ z = grind (arith, nat_tests, same) in
        let type : s ≡ t = same_Some s t (sym is ∙ ap (slice_get types) here ∙ tz) in
        subst (λ (u : Value). IsOf m t u) (same_Some y w i) (subst (λ (u : Scalar). IsOf m u y) type of)
    at z t w tz false same i = h.each z t w tz i

module _ (i : Interface) (g : Function) (first : ℕ) where
  pub moment_later : (start : Memory) (v : Environment) (w x : World) → IsMoment i g first start v w → ComesAfter w.memory x.memory → IsReady i x
      → IsMoment i g first start v x
  moment_later start v w x h after ready = record {
    range = record {
      variables = variables_later w.memory x.memory g.variables v after h.range.variables;
      blocks = let longer = after.longer in let room = h.range.blocks in omega arith;
      ready = ready;
    };
    after = after_next start w.memory x.memory h.after after;
  }

  pub moment_stepped : (start : Memory) (v : Environment) (w : World) (m : Memory) → IsMoment i g first start v w → ComesAfter w.memory m → IsSound m
      → IsMoment i g first start v (with_memory w m)
  moment_stepped start v w m h after sound = moment_later start v w (with_memory w m) h after (ready_later i w m h.range.ready after sound)

  pub moment_assigned : (start : Memory) (v : Environment) (w : World) (x : ℕ) (s : Scalar) (y : Value) → slice_get g.variables x ≡ Some s → IsOf w.memory s y
      → IsMoment i g first start v w → IsMoment i g first start (with_value v x y) w
  moment_assigned start v w x s y is of h = record {
    range = record {
      variables = with_value_are_of w.memory g.variables v x s y h.range.variables is of;
      blocks = h.range.blocks;
      ready = h.range.ready;
    };
    after = h.after;
  }

  -- the moment itself
  pub now : (start : Memory) (v : Environment) (w : World) → IsMoment i g first start v w → IsMoment i g first w.memory v w
  now start v w h = record { range = h.range; after = after_same w.memory }

  -- a moment after one that comes after the start
  pub onward_from : (start m : Memory) (v : Environment) (w : World) → ComesAfter start m → IsMoment i g first m v w → IsMoment i g first start v w
  onward_from start m v w after h = record { range = h.range; after = after_next start m w.memory after h.after }

  -- ---- places

  -- a variable of this type, or an object
  abbrev pub PlaceIsOf : Scalar → Place → Type 0
  PlaceIsOf s (in_variable x) = slice_get g.variables x ≡ Some s
  PlaceIsOf s (in_object p) = Unit {0}

  pub read_is_of : (s : Scalar) (p : Place) (start : Memory) (v : Environment) (w : World) (x : Value) → PlaceIsOf s p → IsMoment i g first start v w
      → read s p v w ≡ Some x → IsOf w.memory s x
  read_is_of s (in_variable n) start v w x is h e = h.range.variables.each n s x is e
  read_is_of s (in_object a) start v w x is h e =
      let f = followed (as_pointer a) (load s w.memory) x e in
      record {
        typed = values_have_types.loaded s w.memory f.value x h.range.ready.sound f.then;
        sound = values_are_sound.loaded s w.memory f.value x h.range.ready.sound f.then;
      }
