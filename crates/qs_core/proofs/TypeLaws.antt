-- The value of an expression has the expression's type.
use Rattle.std.proofs.Common.{◌≡◌, ℕ, ◌^◌, ◌<◌, ◌&&◌, Bool, true, false, if◌then◌else◌, ◌≤◌, List, length, map, Option, Some, refl, sym, subst, arith}
use Rattle.std.proofs.lemmas.List.{length-map}
use Rattle.std.proofs.lemmas.Bool.Decides.{nat_tests}
use Rattle.std.proofs.lemmas.Bool.{and_parts}
use Rattle.std.proofs.lemmas.Option.{same_Some}
use Rattle.qs_memory.specs.Partial.{◌>>=◌}
use Rattle.qs_memory.specs.Values.{null, Value, integer, address, as_pointer, has_type}
use Rattle.qs_memory.specs.Memory.{Memory}
use Rattle.qs_memory.specs.Pointers.{member_of, truth}
use Rattle.qs_memory.specs.Operations.{of_truth, integer_type}
use Rattle.qs_memory.specs.Scalars.{same_scalar}
use Rattle.qs_memory.specs.Operands.{unary_takes, binary_takes, conversion_takes}
use Rattle.qs_memory.proofs.ScalarLaws.{scalar_same, type_is}
use Rattle.qs_memory.specs.declared.scalar.Scalar.{Scalar}
use Rattle.qs_memory.specs.declared.scalar.Scalar.TheVariants as scalars
use Rattle.qs_memory.specs.declared.operation.Signedness.{Signedness}
use Rattle.qs_memory.specs.declared.operation.Signedness.TheVariants.{Signed, Unsigned}
use Rattle.qs_memory.proofs.Options.{followed}
use Rattle.qs_memory.proofs.ValueLaws.{values_are_sound}
use Rattle.qs_memory.proofs.TypeLaws.{values_have_types}
use Rattle.qs_calls.specs.World.{World}
use Rattle.qs_calls.specs.Starts.{IsOf}
use Rattle.qs_core.specs.declared.numbers.BlockId.{BlockId}
use Rattle.qs_core.specs.declared.numbers.BlockId.TheVariants.{Local, Data}
use Rattle.qs_core.specs.Trees.{literal, null_pointer, variable, temporary, address_of, load, member, unary, binary, conversion, logical_and, logical_or, conditional, CoreFunctionTree, DataBlockTree, CoreUnitTree}
use Rattle.qs_core.specs.Expressions.{Locals, block_pointer, value, truth_value, type_of}
use Rattle.qs_core.specs.Interfaces.{variable_type, temporary_type, data_extent}
use Rattle.qs_core.specs.Fits.{block_fits, expr_fits}
use Rattle.qs_core.specs.Ranges.{IsInRange, ExpressionsHaveTypes}

-- ---- single values

-- an `int` or `unsigned`
pub integer_is_of :
    (m : Memory) (s : Signedness) (n : ℕ) → n < 2 ^ 32 → IsOf m (integer_type s) (integer n)
integer_is_of m Signed n h = record { typed = grind (arith, nat_tests); sound = h }
integer_is_of m Unsigned n h = record { typed = grind (arith, nat_tests); sound = h }

truth_is_of : (m : Memory) (b : Bool) → IsOf m scalars.Int (of_truth b)
truth_is_of m true = record { typed = refl; sound = omega arith }
truth_is_of m false = record { typed = refl; sound = omega arith }

literal_is_of :
    (m : Memory) (s : Scalar) (n : ℕ) → has_type s (integer n) ≡ true → IsOf m s (integer n)
literal_is_of m scalars.Char n h = record { typed = h; sound = grind (arith, nat_tests, h) }
literal_is_of m scalars.Int n h = record { typed = h; sound = grind (arith, nat_tests, h) }
literal_is_of m scalars.Unsigned n h = record { typed = h; sound = grind (arith, nat_tests, h) }
literal_is_of m scalars.Pointer n h = cc

-- ---- expressions

data_count : (ds : List DataBlockTree) (n : ℕ) → length (map data_extent ds) ≤ n → length ds ≤ n
data_count ds n h = let same = length-map ds data_extent in omega arith

block_is_of :
    (u : CoreUnitTree) (f : CoreFunctionTree) (b : BlockId) (l : Locals) (w : World) (v : Value)
    → block_fits u f b ≡ true → IsInRange u f l w → Some (address (block_pointer b l)) ≡ Some v
    → IsOf w.memory scalars.Pointer v
block_is_of u f (Local i) l w v fits r h =
    let room = r.blocks in
    subst (λ (x : Value). IsOf w.memory scalars.Pointer x) (same_Some _ v h)
    (record {
      typed = refl;
      sound = record {
        made = grind (arith, nat_tests, fits, room);
        in_range = λ live. omega arith;
      };
    })
block_is_of u f (Data i) l w v fits r h =
    let room = data_count u.data_blocks (length w.memory) r.ready.data_blocks.count in
    subst (λ (x : Value). IsOf w.memory scalars.Pointer x) (same_Some _ v h)
    (record {
      typed = refl;
      sound = record {
        made = grind (arith, nat_tests, fits, room);
        in_range = λ live. omega arith;
      };
    })

second_truth :
    (m : Memory) (o : Option Value) (w : Value) → (o >>= λ x. truth_value m x) ≡ Some w
    → IsOf m scalars.Int w
second_truth m o w h =
    let a = followed o (λ x. truth_value m x) w h in
    let b = followed (truth m a.value) (λ b. Some (of_truth b)) w a.then in
    subst (λ (x : Value). IsOf m scalars.Int x) (same_Some _ w b.then) (truth_is_of m b.value)

decided :
    (m : Memory) (yes : Bool) (o p : Option Value) (s : Scalar) (w : Value)
    → (if yes then o else p) ≡ Some w → (o ≡ Some w → IsOf m s w) → (p ≡ Some w → IsOf m s w)
    → IsOf m s w
decided m true o p s w h f g = f h
decided m false o p s w h f g = g h

pub value_is_of : ExpressionsHaveTypes
value_is_of u f (literal s n) l w v fits r h =
    subst (λ (x : Value). IsOf w.memory s x) (same_Some (integer n) v h)
    (literal_is_of w.memory s n fits)
value_is_of u f null_pointer l w v fits r h =
    subst (λ (x : Value). IsOf w.memory scalars.Pointer x) (same_Some (address null) v h)
    (record { typed = refl; sound = tt })
value_is_of u f (variable s x) l w v fits r h =
    r.variables.each x s v (type_is (variable_type f x) s fits) h
value_is_of u f (temporary s k) l w v fits r h =
    r.temporaries.each k s v (type_is (temporary_type f k) s fits) h
value_is_of u f (address_of b) l w v fits r h = block_is_of u f b l w v fits r h
value_is_of u f (load s a) l w v fits r h =
    let p = followed (value a l w.memory) _ v h in
    let q = followed (as_pointer p.value) _ v p.then in
    record {
      typed = values_have_types.loaded s w.memory q.value v r.ready.sound q.then;
      sound = values_are_sound.loaded s w.memory q.value v r.ready.sound q.then;
    }
value_is_of u f (member offset a) l w v fits r h =
    let p = followed (value a l w.memory) _ v h in
    let q = followed (as_pointer p.value) _ v p.then in
    let o = followed (member_of w.memory q.value offset) _ v q.then in
    subst (λ (x : Value). IsOf w.memory scalars.Pointer x) (same_Some (address o.value) v o.then)
    (record {
      typed = refl;
      sound = values_are_sound.member w.memory q.value o.value offset o.first;
    })
value_is_of u f (unary op a) l w v fits r h =
    let fit = and_parts (expr_fits u f a) (unary_takes op (type_of a)) fits in
    let p = followed (value a l w.memory) _ v h in
    let known = value_is_of u f a l w p.value fit.0 r p.first in
    record {
      typed = values_have_types.unary op w.memory p.value v known.sound p.then;
      sound = values_are_sound.unary op w.memory p.value v known.sound p.then;
    }
value_is_of u f (binary op a b) l w v fits r h =
    let takes = and_parts (expr_fits u f a && expr_fits u f b)
    (binary_takes op (type_of a) (type_of b)) fits in
    let fit = and_parts (expr_fits u f a) (expr_fits u f b) takes.0 in
    let p = followed (value a l w.memory) _ v h in
    let q = followed (value b l w.memory) _ v p.then in
    let first = value_is_of u f a l w p.value fit.0 r p.first in
    let second = value_is_of u f b l w q.value fit.1 r q.first in
    record {
      typed =
          values_have_types.binary op w.memory p.value q.value v first.sound second.sound q.then;
      sound = values_are_sound.binary op w.memory p.value q.value v first.sound second.sound q.then;
    }
value_is_of u f (conversion s a) l w v fits r h =
    let fit = and_parts (expr_fits u f a) (conversion_takes s (type_of a)) fits in
    let p = followed (value a l w.memory) _ v h in
    let known = value_is_of u f a l w p.value fit.0 r p.first in
    record {
      typed = values_have_types.converted s w.memory p.value v known.sound p.then;
      sound = values_are_sound.converted s w.memory p.value v known.sound p.then;
    }
value_is_of u f (logical_and a b) l w v fits r h =
    let p = followed (value a l w.memory) _ v h in
    let q = followed (truth w.memory p.value) _ v p.then in
    decided w.memory q.value _ _ scalars.Int v q.then
    (second_truth w.memory (value b l w.memory) v)
    (λ e. subst (λ (x : Value). IsOf w.memory scalars.Int x) (same_Some _ v e)
    (truth_is_of w.memory false))
value_is_of u f (logical_or a b) l w v fits r h =
    let p = followed (value a l w.memory) _ v h in
    let q = followed (truth w.memory p.value) _ v p.then in
    decided w.memory q.value _ _ scalars.Int v q.then
    (λ e. subst (λ (x : Value). IsOf w.memory scalars.Int x) (same_Some _ v e)
    (truth_is_of w.memory true))
    (second_truth w.memory (value b l w.memory) v)
value_is_of u f (conditional c a b) l w v fits r h =
    let alike = and_parts (expr_fits u f c && expr_fits u f a && expr_fits u f b)
    (same_scalar (type_of a) (type_of b)) fits in
    let second = and_parts (expr_fits u f c && expr_fits u f a) (expr_fits u f b) alike.0 in
    let first = and_parts (expr_fits u f c) (expr_fits u f a) second.0 in
    let p = followed (value c l w.memory) _ v h in
    let q = followed (truth w.memory p.value) _ v p.then in
    decided w.memory q.value _ _ (type_of a) v q.then
    (value_is_of u f a l w v first.1 r)
    (λ e. subst (λ (s : Scalar). IsOf w.memory s v)
    (sym (scalar_same (type_of a) (type_of b) alike.1)) (value_is_of u f b l w v second.1 r e))
