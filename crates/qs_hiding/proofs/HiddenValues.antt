-- What steps give on values that stay in the reach is the same where blocks are hidden, and stays in the reach.
use Rattle.std.proofs.Common.{◌≡◌, ℕ, zero, suc, ◌==◌, ◌&&◌, not, Bool, true, false, Option, Some, ℤ, pos, ◌+ℤ◌, refl, ap, ap₂, subst}
use Rattle.std.specs.Prelude.{nat_lt, option_map, if◌then◌else◌}
use Rattle.std.proofs.lemmas.Option.{same_Some}
use Rattle.qs_memory.specs.Partial.{◌>>=◌, only_if}
use Rattle.qs_memory.specs.Values.{Pointer, null, into, Value, integer, address, as_integer, as_pointer, pointer_of_integer, convert}
use Rattle.qs_memory.specs.Integers.{calculate}
use Rattle.qs_memory.specs.Memory.{Block, Memory, block_at, Target, target, store, copy, fill, BlankTree}
use Rattle.qs_memory.specs.Pointers.{within, moved, moved_by, member_of, in_one_block, difference, same_target, equal, compares_pointers, truth}
use Rattle.qs_memory.specs.Operations.{of_truth, apply_unary, apply_binary}
use Rattle.qs_memory.specs.declared.scalar.Scalar.{Scalar}
use Rattle.qs_memory.specs.declared.scalar.Scalar.TheVariants as scalars
use Rattle.qs_memory.specs.declared.operation.Comparison.{Comparison}
use Rattle.qs_memory.specs.declared.operation.Comparison.TheVariants as comparisons
use Rattle.qs_memory.specs.declared.operation.UnaryOperation.{UnaryOperation}
use Rattle.qs_memory.specs.declared.operation.UnaryOperation.TheVariants as unaries
use Rattle.qs_memory.specs.declared.operation.BinaryOperation.{BinaryOperation}
use Rattle.qs_memory.specs.declared.operation.BinaryOperation.TheVariants as binaries
use Rattle.qs_memory.proofs.Options.{followed, only_if_some, only_if_value}
use Rattle.qs_calls.specs.World.{World, Environment}
use Rattle.qs_meaning.specs.Typed.{Conversion, unchanged, converted, Order, as_written, exchanged}
use Rattle.qs_meaning.specs.States.{convert_by, Place, in_variable, in_object, read}
use Rattle.qs_meaning.specs.Meaning.{in_their_order, operation_value, updated_value}
use Rattle.qs_hiding.specs.Hidden.{Reach, hidden, hidden_world, pointer_stays, value_stays, IsClosed, IsBehind}
use Rattle.qs_hiding.proofs.HiddenMemory.{bind_at, bind_same, kept_block, target_stays, target_hidden, load_hidden, load_stays, store_hidden, store_behind, copy_hidden, copy_behind, fill_hidden, fill_behind}

module _ (r : Reach) where
  abbrev pub Stays : Value → Type 0
  Stays v = value_stays r v ≡ true

  -- what is given where something is stays, if each does
  given_stays : {A : Type 0} (o : Option A) (f : A → Value) (v : Value) → ((a : A) → o ≡ Some a → Stays (f a)) → (o >>= λ a. Some (f a)) ≡ Some v → Stays v
  given_stays o f v h is =
      let a = followed o (λ a. Some (f a)) v is in
      subst Stays (same_Some (f a.value) v a.then) (h a.value a.first)

  some_stays : (x v : Value) → Stays x → Some x ≡ Some v → Stays v
  some_stays x v h is = subst Stays (same_Some x v is) h

  -- ---- conversions

  null_stays : (n : ℕ) (w : Value) → pointer_of_integer n ≡ Some w → Stays w
  null_stays zero w h = some_stays (address null) w refl h
  null_stays (suc n) w h = cc

  convert_stays : (s : Scalar) (v w : Value) → Stays v → convert s v ≡ Some w → Stays w
  convert_stays scalars.Char (integer n) w e h = some_stays _ w refl h
  convert_stays scalars.Int (integer n) w e h = some_stays _ w refl h
  convert_stays scalars.Unsigned (integer n) w e h = some_stays _ w refl h
  convert_stays scalars.Pointer (integer n) w e h = null_stays n w h
  convert_stays scalars.Char (address p) w e h = cc
  convert_stays scalars.Int (address p) w e h = cc
  convert_stays scalars.Unsigned (address p) w e h = cc
  convert_stays scalars.Pointer (address p) w e h = some_stays (address p) w e h

  pub conversion_stays : (c : Conversion) (v w : Value) → Stays v → convert_by c v ≡ Some w → Stays w
  conversion_stays unchanged v w e h = some_stays v w e h
  conversion_stays (converted from to) v w e h = convert_stays to v w e h

  -- ---- pointers

  size_hidden : (m : Memory) (t : Target) → r.keeps t.block ≡ true → (block_at (hidden r m) t.block).size ≡ (block_at m t.block).size
  size_hidden m t e = ap (λ (c : Block). c.size) (kept_block r m t.block e)

  moved_hidden : (m : Memory) (p : Pointer) (bytes : ℤ) → pointer_stays r p ≡ true → moved (hidden r m) p bytes ≡ moved m p bytes
  moved_hidden m p bytes e =
      bind_same (target m p) (target (hidden r m) p)
      (λ t. within (block_at m t.block).size (pos t.offset +ℤ bytes) >>= λ offset. Some (into t.block offset))
      (λ t. within (block_at (hidden r m) t.block).size (pos t.offset +ℤ bytes) >>= λ offset. Some (into t.block offset))
      (target_hidden r m p e)
      (λ t is. ap (λ (n : ℕ). within n (pos t.offset +ℤ bytes) >>= λ offset. Some (into t.block offset)) (size_hidden m t (target_stays r m p t e is)))

  moved_stays : (m : Memory) (p q : Pointer) (bytes : ℤ) → pointer_stays r p ≡ true → moved m p bytes ≡ Some q → pointer_stays r q ≡ true
  moved_stays m p q bytes e h =
      let a = followed (target m p) _ q h in
      let b = followed (within (block_at m a.value.block).size (pos a.value.offset +ℤ bytes)) _ q a.then in
      subst (λ (x : Pointer). pointer_stays r x ≡ true) (same_Some _ q b.then) (target_stays r m p a.value e a.first)

  in_one_block_hidden : {A : Type 0} (m : Memory) (p q : Pointer) (next : ℕ → ℕ → Option A) → pointer_stays r p ≡ true → pointer_stays r q ≡ true
      → in_one_block (hidden r m) p q next ≡ in_one_block m p q next
  in_one_block_hidden m p q next e f =
      bind_same (target m p) (target (hidden r m) p)
      (λ t. target m q >>= λ u. only_if (t.block == u.block) (next t.offset u.offset))
      (λ t. target (hidden r m) q >>= λ u. only_if (t.block == u.block) (next t.offset u.offset))
      (target_hidden r m p e)
      (λ t is. ap (λ (o : Option Target). o >>= λ u. only_if (t.block == u.block) (next t.offset u.offset)) (target_hidden r m q f))

  same_target_hidden : (m : Memory) (t u : Target) → r.keeps t.block ≡ true → r.keeps u.block ≡ true → same_target (hidden r m) t u ≡ same_target m t u
  same_target_hidden m t u e f =
      ap₂ (λ (x y : ℕ). if t.block == u.block then Some (t.offset == u.offset) else only_if (nat_lt t.offset x && nat_lt u.offset y) (Some false))
      (size_hidden m t e) (size_hidden m u f)

  equal_hidden : (m : Memory) (p q : Pointer) → pointer_stays r p ≡ true → pointer_stays r q ≡ true → equal (hidden r m) p q ≡ equal m p q
  equal_hidden m null null e f = refl
  equal_hidden m null (into c j) e f = ap (λ (o : Option Target). o >>= λ t. Some false) (target_hidden r m (into c j) f)
  equal_hidden m (into b i) null e f = ap (λ (o : Option Target). o >>= λ t. Some false) (target_hidden r m (into b i) e)
  equal_hidden m (into b i) (into c j) e f =
      bind_same (target m (into b i)) (target (hidden r m) (into b i)) (λ t. target m (into c j) >>= λ u. same_target m t u)
      (λ t. target (hidden r m) (into c j) >>= λ u. same_target (hidden r m) t u) (target_hidden r m (into b i) e)
      (λ t is. bind_same (target m (into c j)) (target (hidden r m) (into c j)) (λ u. same_target m t u) (λ u. same_target (hidden r m) t u) (target_hidden r m (into c j) f)
      (λ u was. same_target_hidden m t u (target_stays r m (into b i) t e is) (target_stays r m (into c j) u f was)))

  compares_hidden : (op : Comparison) (m : Memory) (p q : Pointer) → pointer_stays r p ≡ true → pointer_stays r q ≡ true
      → compares_pointers op (hidden r m) p q ≡ compares_pointers op m p q
  compares_hidden comparisons.Less m p q e f = in_one_block_hidden m p q _ e f
  compares_hidden comparisons.LessOrEqual m p q e f = in_one_block_hidden m p q _ e f
  compares_hidden comparisons.Greater m p q e f = in_one_block_hidden m p q _ e f
  compares_hidden comparisons.GreaterOrEqual m p q e f = in_one_block_hidden m p q _ e f
  compares_hidden comparisons.Equal m p q e f = equal_hidden m p q e f
  compares_hidden comparisons.NotEqual m p q e f = ap (λ (o : Option Bool). o >>= λ same. Some (not same)) (equal_hidden m p q e f)

  pub truth_hidden : (m : Memory) (v : Value) → Stays v → truth (hidden r m) v ≡ truth m v
  truth_hidden m (integer n) e = refl
  truth_hidden m (address p) e = ap (λ (o : Option Bool). o >>= λ same. Some (not same)) (equal_hidden m p null e refl)

  pub member_hidden : (m : Memory) (v : Value) (offset : ℕ) → Stays v
      → (as_pointer v >>= λ p. member_of (hidden r m) p offset) ≡ (as_pointer v >>= λ p. member_of m p offset)
  member_hidden m (integer n) offset e = refl
  member_hidden m (address p) offset e = moved_hidden m p (pos offset) e

  pub member_stays : (m : Memory) (v : Value) (offset : ℕ) (q : Pointer) → Stays v → (as_pointer v >>= λ p. member_of m p offset) ≡ Some q → pointer_stays r q ≡ true
  member_stays m (integer n) offset q e h = cc
  member_stays m (address p) offset q e h = moved_stays m p q (pos offset) e h

  -- ---- operations

  unary_hidden : (op : UnaryOperation) (m : Memory) (v : Value) → Stays v → apply_unary op (hidden r m) v ≡ apply_unary op m v
  unary_hidden (unaries.Plus s) m v e = refl
  unary_hidden (unaries.Minus s) m v e = refl
  unary_hidden (unaries.Complement s) m v e = refl
  unary_hidden unaries.Not m v e = ap (λ (o : Option Bool). o >>= λ b. Some (of_truth (not b))) (truth_hidden m v e)
  unary_hidden unaries.Truth m v e = ap (λ (o : Option Bool). o >>= λ b. Some (of_truth b)) (truth_hidden m v e)

  unary_stays : (op : UnaryOperation) (m : Memory) (v w : Value) → apply_unary op m v ≡ Some w → Stays w
  unary_stays (unaries.Plus s) m v w h = given_stays (as_integer v) (λ x. integer x) w (λ x is. refl) h
  unary_stays (unaries.Minus s) m v w h = given_stays (as_integer v) _ w (λ x is. refl) h
  unary_stays (unaries.Complement s) m v w h = given_stays (as_integer v) _ w (λ x is. refl) h
  unary_stays unaries.Not m v w h = given_stays (truth m v) (λ b. of_truth (not b)) w (λ b is. refl) h
  unary_stays unaries.Truth m v w h = given_stays (truth m v) of_truth w (λ b is. refl) h

  binary_hidden : (op : BinaryOperation) (m : Memory) (v w : Value) → Stays v → Stays w → apply_binary op (hidden r m) v w ≡ apply_binary op m v w
  binary_hidden (binaries.Arithmetic op s) m v w e f = refl
  binary_hidden (binaries.Compare op s) m v w e f = refl
  binary_hidden (binaries.Move direction s element) m (integer n) w e f = refl
  binary_hidden (binaries.Move direction s element) m (address p) (address q) e f = refl
  binary_hidden (binaries.Move direction s element) m (address p) (integer n) e f =
      ap (λ (o : Option Pointer). o >>= λ q. Some (address q)) (moved_hidden m p _ e)
  binary_hidden (binaries.Difference element) m (integer n) w e f = refl
  binary_hidden (binaries.Difference element) m (address p) (integer n) e f = refl
  binary_hidden (binaries.Difference element) m (address p) (address q) e f = in_one_block_hidden m p q _ e f
  binary_hidden (binaries.ComparePointers op) m (integer n) w e f = refl
  binary_hidden (binaries.ComparePointers op) m (address p) (integer n) e f = refl
  binary_hidden (binaries.ComparePointers op) m (address p) (address q) e f =
      ap (λ (o : Option Bool). o >>= λ b. Some (of_truth b)) (compares_hidden op m p q e f)

  difference_stays : (element : ℕ) (m : Memory) (p q : Pointer) (w : Value) → difference element m p q ≡ Some w → Stays w
  difference_stays element m p q w h =
      let a = followed (target m p) _ w h in
      let b = followed (target m q) _ w a.then in
      let c = only_if_some (a.value.block == b.value.block) _ w b.then in
      let d = only_if_value _ _ w c.1 in
      subst Stays d.1 refl

  binary_stays : (op : BinaryOperation) (m : Memory) (v w x : Value) → Stays v → apply_binary op m v w ≡ Some x → Stays x
  binary_stays (binaries.Arithmetic op s) m (integer a) (integer b) x e h = given_stays (calculate op s a b) (λ n. integer n) x (λ n is. refl) h
  binary_stays (binaries.Arithmetic op s) m (integer a) (address q) x e h = cc
  binary_stays (binaries.Arithmetic op s) m (address p) w x e h = cc
  binary_stays (binaries.Compare op s) m (integer a) (integer b) x e h = some_stays _ x refl h
  binary_stays (binaries.Compare op s) m (integer a) (address q) x e h = cc
  binary_stays (binaries.Compare op s) m (address p) w x e h = cc
  binary_stays (binaries.Move direction s element) m (integer a) w x e h = cc
  binary_stays (binaries.Move direction s element) m (address p) (address q) x e h = cc
  binary_stays (binaries.Move direction s element) m (address p) (integer n) x e h =
      given_stays (moved_by direction s element m p n) (λ q. address q) x (λ q is. moved_stays m p q _ e is) h
  binary_stays (binaries.Difference element) m (integer a) w x e h = cc
  binary_stays (binaries.Difference element) m (address p) (integer n) x e h = cc
  binary_stays (binaries.Difference element) m (address p) (address q) x e h = difference_stays element m p q x h
  binary_stays (binaries.ComparePointers op) m (integer a) w x e h = cc
  binary_stays (binaries.ComparePointers op) m (address p) (integer n) x e h = cc
  binary_stays (binaries.ComparePointers op) m (address p) (address q) x e h = given_stays (compares_pointers op m p q) of_truth x (λ b is. refl) h

  -- ---- operations with their conversions

  pub unary_value_hidden : (op : UnaryOperation) (c : Conversion) (m : Memory) (x : Value) → Stays x
      → (convert_by c x >>= λ x. apply_unary op (hidden r m) x) ≡ (convert_by c x >>= λ x. apply_unary op m x)
  unary_value_hidden op c m x e = bind_at (convert_by c x) (λ x. apply_unary op m x) (λ x. apply_unary op (hidden r m) x) (λ y is. unary_hidden op m y (conversion_stays c x y e is))

  pub unary_value_stays : (op : UnaryOperation) (c : Conversion) (m : Memory) (x z : Value) → (convert_by c x >>= λ x. apply_unary op m x) ≡ Some z → Stays z
  unary_value_stays op c m x z h = let a = followed (convert_by c x) _ z h in unary_stays op m a.value z a.then

  ordered_hidden : (order : Order) (op : BinaryOperation) (m : Memory) (x y : Value) → Stays x → Stays y → in_their_order order op (hidden r m) x y ≡ in_their_order order op m x y
  ordered_hidden as_written op m x y e f = binary_hidden op m x y e f
  ordered_hidden exchanged op m x y e f = binary_hidden op m y x f e

  ordered_stays : (order : Order) (op : BinaryOperation) (m : Memory) (x y z : Value) → Stays x → Stays y → in_their_order order op m x y ≡ Some z → Stays z
  ordered_stays as_written op m x y z e f h = binary_stays op m x y z e h
  ordered_stays exchanged op m x y z e f h = binary_stays op m y x z f h

  pub operation_hidden : (op : BinaryOperation) (order : Order) (left right : Conversion) (m : Memory) (x y : Value) → Stays x → Stays y
      → operation_value op order left right (hidden r m) x y ≡ operation_value op order left right m x y
  operation_hidden op order left right m x y e f =
      bind_at (convert_by left x) (λ a. convert_by right y >>= λ b. in_their_order order op m a b) (λ a. convert_by right y >>= λ b. in_their_order order op (hidden r m) a b) (λ a is.
      bind_at (convert_by right y) (λ b. in_their_order order op m a b) (λ b. in_their_order order op (hidden r m) a b) (λ b was.
      ordered_hidden order op m a b (conversion_stays left x a e is) (conversion_stays right y b f was)))

  pub operation_stays : (op : BinaryOperation) (order : Order) (left right : Conversion) (m : Memory) (x y z : Value) → Stays x → Stays y
      → operation_value op order left right m x y ≡ Some z → Stays z
  operation_stays op order left right m x y z e f h =
      let a = followed (convert_by left x) _ z h in
      let b = followed (convert_by right y) _ z a.then in
      ordered_stays order op m a.value b.value z (conversion_stays left x a.value e a.first) (conversion_stays right y b.value f b.first) b.then

  pub updated_hidden : (op : BinaryOperation) (left right back : Conversion) (m : Memory) (x y : Value) → Stays x → Stays y
      → updated_value op left right back (hidden r m) x y ≡ updated_value op left right back m x y
  updated_hidden op left right back m x y e f = ap (λ (o : Option Value). o >>= convert_by back) (operation_hidden op as_written left right m x y e f)

  pub updated_stays : (op : BinaryOperation) (left right back : Conversion) (m : Memory) (x y z : Value) → Stays x → Stays y
      → updated_value op left right back m x y ≡ Some z → Stays z
  updated_stays op left right back m x y z e f h =
      let a = followed (operation_value op as_written left right m x y) _ z h in
      conversion_stays back a.value z (operation_stays op as_written left right m x y a.value e f a.first) a.then

  -- ---- places

  -- the address of an object stays in the reach
  abbrev pub place_stays : Place → Bool
  place_stays (in_variable x) = true
  place_stays (in_object a) = value_stays r a

  pub record HoldsStaying (v : Environment) : Type 0 where
    pub each : (x : ℕ) (y : Value) → v x ≡ Some y → Stays y

  pub read_hidden : (s : Scalar) (p : Place) (v : Environment) (w : World) → place_stays p ≡ true → read s p v (hidden_world r w) ≡ read s p v w
  read_hidden s (in_variable x) v w e = refl
  read_hidden s (in_object (integer n)) v w e = refl
  read_hidden s (in_object (address p)) v w e = load_hidden r s w.memory p e

  pub read_stays : (s : Scalar) (p : Place) (v : Environment) (w : World) (x : Value) → place_stays p ≡ true → HoldsStaying v → IsClosed r w.memory
      → read s p v w ≡ Some x → Stays x
  read_stays s (in_variable n) v w x e holds closed h = holds.each n x h
  read_stays s (in_object (integer n)) v w x e holds closed h = cc
  read_stays s (in_object (address p)) v w x e holds closed h = load_stays r s w.memory p x closed e h

  -- ---- writes at values

  pub store_at_hidden : (s : Scalar) (m : Memory) (a y : Value) → Stays a
      → (as_pointer a >>= λ p. store s (hidden r m) p y) ≡ option_map (hidden r) (as_pointer a >>= λ p. store s m p y)
  store_at_hidden s m (integer n) y e = refl
  store_at_hidden s m (address p) y e = store_hidden r s m p y e

  pub store_at_behind : (start : Memory) (s : Scalar) (m : Memory) (a y : Value) (after : Memory) → IsBehind r start m → Stays a → Stays y
      → (as_pointer a >>= λ p. store s m p y) ≡ Some after → IsBehind r start after
  store_at_behind start s m (integer n) y after h e f is = cc
  store_at_behind start s m (address p) y after h e f is = store_behind r start s m p y after h e f is

  pub copy_at_hidden : (size alignment : ℕ) (m : Memory) (x y : Value) → Stays x → Stays y
      → (as_pointer x >>= λ to. as_pointer y >>= λ from. copy size alignment (hidden r m) to from)
      ≡ option_map (hidden r) (as_pointer x >>= λ to. as_pointer y >>= λ from. copy size alignment m to from)
  copy_at_hidden size alignment m (integer n) y e f = refl
  copy_at_hidden size alignment m (address p) (integer n) e f = refl
  copy_at_hidden size alignment m (address p) (address q) e f = copy_hidden r size alignment m p q e f

  pub copy_at_behind : (start : Memory) (size alignment : ℕ) (m : Memory) (x y : Value) (after : Memory) → IsBehind r start m → Stays x → Stays y
      → (as_pointer x >>= λ to. as_pointer y >>= λ from. copy size alignment m to from) ≡ Some after → IsBehind r start after
  copy_at_behind start size alignment m (integer n) y after h e f is = cc
  copy_at_behind start size alignment m (address p) (integer n) after h e f is = cc
  copy_at_behind start size alignment m (address p) (address q) after h e f is = copy_behind r start size alignment m p q after h e f is

  pub fill_at_hidden : (blank : BlankTree) (m : Memory) (x : Value) → Stays x
      → (as_pointer x >>= λ p. fill blank (hidden r m) p) ≡ option_map (hidden r) (as_pointer x >>= λ p. fill blank m p)
  fill_at_hidden blank m (integer n) e = refl
  fill_at_hidden blank m (address p) e = fill_hidden r blank m p e

  pub fill_at_behind : (start : Memory) (blank : BlankTree) (m : Memory) (x : Value) (after : Memory) → IsBehind r start m → Stays x
      → (as_pointer x >>= λ p. fill blank m p) ≡ Some after → IsBehind r start after
  fill_at_behind start blank m (integer n) after h e is = cc
  fill_at_behind start blank m (address p) after h e is = fill_behind r start blank m p after h e is
