-- Instructions that give a temporary a value: moves, operations, conversions and addresses.
use Rattle.std.proofs.Common.{◌≡◌, ℕ, zero, suc, ◌+◌, ◌-◌, ◌*◌, ◌%◌, ◌^◌, ◌==◌, ◌<◌, Bool, true, false, not, List, [], ◌∷◌, ◌++◌, Option, Some, None, refl, sym, ap, ◌∙◌, subst, arith}
use Rattle.std.specs.Prelude.{int_div, pos}
use Rattle.std.proofs.lemmas.Bool.Decides.{nat_tests}
use Rattle.qs_base.specs.Words as words
use Rattle.qs_base.specs.Words.{signed, wrap, sub, sltu, xor, all_ones}
use Rattle.qs_base.proofs.WordLaws.{sub-below, xor-below, wrap-below}
use Rattle.qs_memory.specs.Values.{Pointer, null, Value, integer, address, convert}
use Rattle.qs_memory.specs.Memory.{Memory}
use Rattle.qs_memory.specs.Integers.{calculate, compares}
use Rattle.qs_memory.specs.Pointers.{moved_by, compares_pointers, truth}
use Rattle.qs_memory.specs.Operations.{of_truth, apply_unary, apply_binary}
use Rattle.qs_memory.specs.Soundness.{IsSoundValue}
use Rattle.qs_memory.proofs.ValueLaws.{binary_sound}
use Rattle.qs_memory.specs.declared.operation.Arithmetic.{Arithmetic}
use Rattle.qs_memory.specs.declared.operation.Comparison.{Comparison}
use Rattle.qs_emit.proofs.Anchors.{address_into_does}
use Rattle.qs_memory.specs.declared.scalar.Scalar.{Scalar}
use Rattle.qs_memory.specs.declared.scalar.Scalar.TheVariants as scalars
use Rattle.qs_memory.specs.declared.operation.Signedness.{Signedness}
use Rattle.qs_memory.specs.declared.operation.Signedness.TheVariants.{Unsigned}
use Rattle.qs_memory.specs.declared.operation.Direction.{Direction}
use Rattle.qs_memory.specs.declared.operation.Direction.TheVariants.{Up, Down}
use Rattle.qs_memory.specs.declared.operation.UnaryOperation.{UnaryOperation}
use Rattle.qs_memory.specs.declared.operation.UnaryOperation.TheVariants as unaries
use Rattle.qs_memory.specs.declared.operation.BinaryOperation.{BinaryOperation}
use Rattle.qs_memory.specs.declared.operation.BinaryOperation.TheVariants as binaries
use Rattle.qs_memory.proofs.Options.{some_same, followed}
use Rattle.qs_isa.specs.declared.instruction.Instr.{Instr}
use Rattle.qs_isa.specs.declared.instruction.OpKind.TheVariants.{Add, Sub, Div}
use Rattle.qs_isa.specs.declared.instruction.OpImmKind.TheVariants.{Addi, Andi}
use Rattle.qs_isa.specs.declared.instruction.StoreKind.TheVariants.{Sw}
use Rattle.qs_machine.specs.State.{register}
use Rattle.qs_machine.specs.Step.{op_result}
use Rattle.qs_tac.specs.declared.places.Place.{Place}
use Rattle.qs_tac.specs.declared.places.Place.TheVariants.{Slot, Register}
use Rattle.qs_tac.specs.declared.operands.Operand.{Operand}
use Rattle.qs_tac.specs.declared.operands.Operand.TheVariants.{Constant}
use Rattle.qs_tac.specs.declared.operands.Address.{Address}
use Rattle.qs_tac.specs.Holders.{File}
use Rattle.qs_tac.specs.Places.{place_of}
use Rattle.qs_tac.specs.Fits.{operand_fits, address_fits, operation_fits}
use Rattle.qs_tac.specs.Values.{Activation, operand, pointer}
use Rattle.qs_tac.specs.Steps.{Waiting}
use Rattle.qs_emit_selection.specs.Pieces as pieces
use Rattle.qs_emit_selection.specs.Pieces.{is_small, constant, product}
use Rattle.qs_emit_selection.specs.Operands.{Context, slot_offset, operand_code, operand_register, move_to, result_register, result_code, address_into}
use Rattle.qs_emit_selection.specs.Operations.{constant_of, kind_of, both, directed, step, move_by, move_by_elements, moved, elements_between, binary, unary_instruction, conversion}
use Rattle.qs_emit.specs.Machine.{Watched}
use Rattle.qs_emit.specs.Lies.{StandsFor, SameOwn}
use Rattle.qs_emit.specs.Surroundings.{Lay, ground}
use Rattle.qs_emit.specs.Relation.{Setup, context, function_at, HasPlace}
use Rattle.qs_emit.proofs.Steps.{Does, Gets, IsFree, does_then, does_is, does_either, op_does, op_imm_does, same_on}
use Rattle.qs_emit.proofs.Slots.{constant_does, store_to_does, gets_is}
use Rattle.qs_emit.proofs.Words.{of_test, calculated, compared, compared_is, zero_is, not_zero_is, wrap_signed, over_one, divided, low_byte}
use Rattle.qs_emit.proofs.Values.{stands_test, stands_is, moved_up, moved_down, difference_word, pointers_compared, truth_word, low_word}
use Rattle.qs_emit.proofs.Operands.{holder, IsScratch, argument_scratch, value_free, IsThere, there_apart, there_beside, reads_same, IsAmid, into_gets, operand_does, Makes, holding, related_stored, related_made, MakesValue, gives_does, in_frame, slot_aligned, slot_fits}
use Rattle.qs_emit.proofs.OperationLaws.{unary_word, unary_gets, product_does, constant_is, IsOperand, Leaves, leaves_on, leaves_operand, leaves_gets, makes_last, Combines, HasBoth, both_does, arithmetic_does, compare_does}

module _ (s : Setup) (a : Activation File) (w : Memory) (stack : List (Waiting File)) (l : Lay) (sp : ℕ) where
  abbrev c : Context
  c = context s a.function

  abbrev Stands : Value → ℕ → Type 0
  Stands v word = StandsFor w l.address_of v word

  a0_scratch : IsScratch 10
  a0_scratch = argument_scratch 10 (omega arith) (omega arith)

  -- ---- moves

  pub move_does : (m : Watched) (o : Operand) (v : Value) (p : Place) → IsAmid s a w stack l sp m → IsOperand s a w stack l sp o v → HasPlace c p → Does s m (move_to c o p) (IsAmid s (holding s a w stack l sp p v) w stack l sp)
  move_does m o v (Slot k) h i has =
      does_then s m (operand_code c 10 o) _ _ _ (operand_does s a w stack l sp m 10 o v a0_scratch h i.fits i.is) (λ m1 x2 g.
      let not_ra : operand_register c 10 o ≡ 1 → ⊥ = there_beside 10 (operand_register c 10 o) g.there (λ e. absurd (omega (arith, e))) in
      does_is s m1 _ _ _ (store_to_does s m1 Sw (operand_register c 10 o) (slot_offset c k) not_ra (slot_aligned s a w stack l sp m1 k g.amid) (in_frame s a w stack l sp m1 (slot_offset c k) 4 g.amid (slot_fits s a w stack l sp k has)))
      (λ m2 y2 k2. record { x2 = y2 ∙ g.amid.x2; related = related_stored s a w stack l sp m1 m2 (operand_register c 10 o) k g.word v g.amid has g.got g.stands y2 k2 }))
  move_does m o v (Register q) h i has =
      does_is s m _ _ _ (into_gets s a w stack l sp m q o v (value_free q has.0) h i.fits i.is) (λ m1 x2 g. record {
        x2 = x2 ∙ h.x2;
        related = related_made s a w stack l sp m m1 q g.word v h has g.stands g.small (record { got = g.gets.got; others = λ z e n. g.gets.others z n; bytes = g.gets.bytes_same });
      })

  -- ---- unary operations and conversions

  test_makes : (m m1 : Watched) (rd x : ℕ) (b : Bool) (v : Value) → Some (of_truth b) ≡ Some v → x ≡ of_test b → Makes s a w stack l sp m rd x m1 → MakesValue s a w stack l sp m rd v m1
  test_makes m m1 rd x b v e same g = record { word = x; makes = g; stands = stands_is w l.address_of (of_truth b) v x (some_same _ v e) (stands_test w l.address_of b x same); small = below b same }
    where
      below : (b : Bool) → x ≡ of_test b → x < 2 ^ 32
      below true f = omega (arith, f)
      below false f = omega (arith, f)

  integer_makes : (m m1 : Watched) (rd x n : ℕ) (v : Value) → Some (integer n) ≡ Some v → x ≡ n → n < 2 ^ 32 → Makes s a w stack l sp m rd x m1 → MakesValue s a w stack l sp m rd v m1
  integer_makes m m1 rd x n v e same small g = record { word = x; makes = g; stands = stands_is w l.address_of (integer n) v x (some_same _ v e) (same, small); small = omega (arith, same, small) }

  unary_value : (m m1 : Watched) (op : UnaryOperation) (rd x : ℕ) (v u : Value) → IsAmid s a w stack l sp m → apply_unary op w v ≡ Some u → Stands v x → Makes s a w stack l sp m rd (unary_word op x) m1 → MakesValue s a w stack l sp m rd u m1
  unary_value m m1 (unaries.Plus sign) rd x (integer n) u h e stands g = let i = stands.0 in let lt = stands.1 in integer_makes m m1 rd (words.add x 0) n u e (omega (arith, i, lt)) lt g
  unary_value m m1 (unaries.Plus sign) rd x (address p) u h e stands g = cc
  unary_value m m1 (unaries.Minus sign) rd x (integer n) u h e stands g = integer_makes m m1 rd (sub 0 x) (sub 0 n) u e (ap (sub 0) stands.0) (sub-below 0 n) g
  unary_value m m1 (unaries.Minus sign) rd x (address p) u h e stands g = cc
  unary_value m m1 (unaries.Complement sign) rd x (integer n) u h e stands g = integer_makes m m1 rd (xor x all_ones) (xor n all_ones) u e (ap (λ (y : ℕ). xor y all_ones) stands.0) (xor-below n all_ones stands.1 (omega arith)) g
  unary_value m m1 (unaries.Complement sign) rd x (address p) u h e stands g = cc
  unary_value m m1 unaries.Not rd x v u h e stands g =
      let f = followed (truth w v) (λ b. Some (of_truth (not b))) u e in
      let t = truth_word s (ground w l m.now.memory) sp h.related.blocks h.related.in_room.above v x f.value f.first stands in
      test_makes m m1 rd (sltu x 1) (not f.value) u f.then (zero_is x ∙ ap of_test (sym (twice (x == 0)) ∙ ap not t)) g
    where
      twice : (b : Bool) → not (not b) ≡ b
      twice true = refl
      twice false = refl
  unary_value m m1 unaries.Truth rd x v u h e stands g =
      let f = followed (truth w v) (λ b. Some (of_truth b)) u e in
      let t = truth_word s (ground w l m.now.memory) sp h.related.blocks h.related.in_room.above v x f.value f.first stands in
      test_makes m m1 rd (sltu 0 x) f.value u f.then (not_zero_is x ∙ ap of_test t) g

  -- an instruction on one operand
  one_does : (m : Watched) (o : Operand) (v u : Value) (rd : ℕ) (i : ℕ → Instr) (f : ℕ → ℕ) → IsAmid s a w stack l sp m → IsOperand s a w stack l sp o v
      → ((m1 : Watched) (r : ℕ) → Does s m1 (i r ∷ []) (Gets s m1 rd (f (register m1.now r))))
      → ((m1 : Watched) (x : ℕ) → Stands v x → Makes s a w stack l sp m rd (f x) m1 → MakesValue s a w stack l sp m rd u m1)
      → Does s m (operand_code c 10 o ++ i (operand_register c 10 o) ∷ []) (MakesValue s a w stack l sp m rd u)
  one_does m o v u rd i f h io does value =
      does_then s m (operand_code c 10 o) _ _ _ (operand_does s a w stack l sp m 10 o v a0_scratch h io.fits io.is) (λ m1 x2 k.
      does_is s m1 _ _ _ (does m1 (operand_register c 10 o)) (λ m2 y2 g.
      value m2 k.word k.stands (makes_last s a w stack l sp m m1 m2 rd (f k.word) (leaves_operand s a w stack l sp m m1 10 (operand_register c 10 o) v a0_scratch x2 k) (gets_is s m1 m2 rd _ _ (ap f k.got) g))))

  pub unary_does : (m : Watched) (op : UnaryOperation) (o : Operand) (v u : Value) (x : ℕ) → IsAmid s a w stack l sp m → IsOperand s a w stack l sp o v → apply_unary op w v ≡ Some u → HasPlace c (place_of c.places x)
      → Does s m ((operand_code c 10 o ++ unary_instruction op (result_register c x) (operand_register c 10 o) ∷ []) ++ result_code c x) (IsAmid s (holding s a w stack l sp (place_of c.places x) u) w stack l sp)
  unary_does m op o v u x h io e has = gives_does s a w stack l sp m x u (λ rd. operand_code c 10 o ++ unary_instruction op rd (operand_register c 10 o) ∷ []) h has (λ rd t.
      one_does m o v u rd (unary_instruction op rd) (unary_word op) h io (λ m1 r. unary_gets s m1 op rd r t.free) (λ m1 y stands g. unary_value m m1 op rd y v u h e stands g))

  abbrev converted_word : Scalar → ℕ → ℕ
  converted_word scalars.Char x = words.and x 255
  converted_word scalars.Int x = words.add x 0
  converted_word scalars.Unsigned x = words.add x 0
  converted_word scalars.Pointer x = words.add x 0

  conversion_gets : (m : Watched) (t : Scalar) (rd r : ℕ) → IsFree rd → Does s m (conversion t rd r ∷ []) (Gets s m rd (converted_word t (register m.now r)))
  conversion_gets m scalars.Char rd r free = op_imm_does s m Andi rd r 255 free
  conversion_gets m scalars.Int rd r free = op_imm_does s m Addi rd r 0 free
  conversion_gets m scalars.Unsigned rd r free = op_imm_does s m Addi rd r 0 free
  conversion_gets m scalars.Pointer rd r free = op_imm_does s m Addi rd r 0 free

  same_makes : (m m1 : Watched) (rd x : ℕ) (v u : Value) → IsAmid s a w stack l sp m → Some v ≡ Some u → Stands v x → Makes s a w stack l sp m rd (words.add x 0) m1 → MakesValue s a w stack l sp m rd u m1
  same_makes m m1 rd x v u h e stands g =
      let z : x % 2 ^ 32 ≡ words.add x 0 = omega arith in
      record {
        word = words.add x 0;
        makes = g;
        stands = stands_is w l.address_of v u (words.add x 0) (some_same v u e) (subst (λ (y : ℕ). Stands v y) z (low_word s (ground w l m.now.memory) sp h.related.blocks h.related.in_room.above v x stands));
        small = omega arith;
      }

  converted_value : (m m1 : Watched) (t : Scalar) (rd x : ℕ) (v u : Value) → IsAmid s a w stack l sp m → convert t v ≡ Some u → Stands v x → Makes s a w stack l sp m rd (converted_word t x) m1 → MakesValue s a w stack l sp m rd u m1
  converted_value m m1 scalars.Char rd x (integer n) u h e stands g = let i = stands.0 in integer_makes m m1 rd (words.and x 255) (n % 2 ^ 8) u e (low_byte x ∙ ap (λ (y : ℕ). y % 2 ^ 8) i) (omega arith) g
  converted_value m m1 scalars.Char rd x (address p) u h e stands g = cc
  converted_value m m1 scalars.Int rd x (integer n) u h e stands g = same_makes m m1 rd x (integer n) u h e stands g
  converted_value m m1 scalars.Int rd x (address p) u h e stands g = cc
  converted_value m m1 scalars.Unsigned rd x (integer n) u h e stands g = same_makes m m1 rd x (integer n) u h e stands g
  converted_value m m1 scalars.Unsigned rd x (address p) u h e stands g = cc
  converted_value m m1 scalars.Pointer rd x (integer zero) u h e stands g = same_makes m m1 rd x (address null) u h e stands.0 g
  converted_value m m1 scalars.Pointer rd x (integer (suc n)) u h e stands g = cc
  converted_value m m1 scalars.Pointer rd x (address p) u h e stands g = same_makes m m1 rd x (address p) u h e stands g

  pub convert_does : (m : Watched) (t : Scalar) (o : Operand) (v u : Value) (x : ℕ) → IsAmid s a w stack l sp m → IsOperand s a w stack l sp o v → convert t v ≡ Some u → HasPlace c (place_of c.places x)
      → Does s m ((operand_code c 10 o ++ conversion t (result_register c x) (operand_register c 10 o) ∷ []) ++ result_code c x) (IsAmid s (holding s a w stack l sp (place_of c.places x) u) w stack l sp)
  convert_does m t o v u x h io e has = gives_does s a w stack l sp m x u (λ rd. operand_code c 10 o ++ conversion t rd (operand_register c 10 o) ∷ []) h has (λ rd target.
      one_does m o v u rd (conversion t rd) (converted_word t) h io (λ m1 r. conversion_gets m1 t rd r target.free) (λ m1 y stands g. converted_value m m1 t rd y v u h e stands g))

  -- ---- binary operations

  arithmetic_value : (m m1 : Watched) (op : Arithmetic) (sign : Signedness) (rd : ℕ) (v u r : Value) → apply_binary (binaries.Arithmetic op sign) w v u ≡ Some r → Combines s a w stack l sp m rd v u (op_result (kind_of op sign)) m1 → MakesValue s a w stack l sp m rd r m1
  arithmetic_value m m1 op sign rd (integer n) (integer k) r e g =
      let f = followed (calculate op sign n k) (λ i. Some (integer i)) r e in
      let word : op_result (kind_of op sign) g.left g.right ≡ f.value = ap (λ (x : ℕ). op_result (kind_of op sign) x g.right) g.stands_left.0 ∙ ap (λ (x : ℕ). op_result (kind_of op sign) n x) g.stands_right.0 ∙ calculated op sign n k f.value f.first in
      let sound : IsSoundValue w r = binary_sound (binaries.Arithmetic op sign) w (integer n) (integer k) r g.stands_left.1 g.stands_right.1 e in
      let small : f.value < 2 ^ 32 = subst (λ (z : Value). IsSoundValue w z) (sym (some_same _ r f.then)) sound in
      integer_makes m m1 rd _ f.value r f.then word small g.makes
  arithmetic_value m m1 op sign rd (integer n) (address q) r e g = cc
  arithmetic_value m m1 op sign rd (address p) u r e g = cc

  compare_value : (m m1 : Watched) (op : Comparison) (sign : Signedness) (rd : ℕ) (v u r : Value) → apply_binary (binaries.Compare op sign) w v u ≡ Some r → Combines s a w stack l sp m rd v u (compared op sign) m1 → MakesValue s a w stack l sp m rd r m1
  compare_value m m1 op sign rd (integer n) (integer k) r e g =
      let word : compared op sign g.left g.right ≡ of_test (compares op sign n k) = ap (λ (x : ℕ). compared op sign x g.right) g.stands_left.0 ∙ ap (λ (x : ℕ). compared op sign n x) g.stands_right.0 ∙ compared_is op sign n k g.stands_left.1 g.stands_right.1 in
      test_makes m m1 rd _ (compares op sign n k) r e word g.makes
  compare_value m m1 op sign rd (integer n) (address q) r e g = cc
  compare_value m m1 op sign rd (address p) u r e g = cc

  compare_pointers_value : (m m1 : Watched) (op : Comparison) (rd : ℕ) (v u r : Value) → IsAmid s a w stack l sp m → apply_binary (binaries.ComparePointers op) w v u ≡ Some r → Combines s a w stack l sp m rd v u (compared op Unsigned) m1 → MakesValue s a w stack l sp m rd r m1
  compare_pointers_value m m1 op rd (address p) (address q) r h e g =
      let f = followed (compares_pointers op w p q) (λ b. Some (of_truth b)) r e in
      let o = pointers_compared s (ground w l m.now.memory) sp h.related.blocks h.related.in_room.above op p q g.left g.right f.value f.first g.stands_left g.stands_right in
      test_makes m m1 rd _ f.value r f.then (compared_is op Unsigned g.left g.right o.low_x o.low_y ∙ ap of_test o.is) g.makes
  compare_pointers_value m m1 op rd (address p) (integer n) r h e g = cc
  compare_pointers_value m m1 op rd (integer n) u r h e g = cc

  -- ---- pointers that move

  abbrev moved_word : Direction → (x n size : ℕ) → ℕ
  moved_word Up x n size = (x + n * size) % 2 ^ 32
  moved_word Down x n size = (x + 2 ^ 32 - n * size % 2 ^ 32) % 2 ^ 32

  -- what a pointer that moves gives
  record IsMove (direction : Direction) (sign : Signedness) (size : ℕ) (v u r : Value) : Type 0 where
    from : Pointer
    number : ℕ
    to : Pointer
    is_from : v ≡ address from
    is_number : u ≡ integer number
    is_to : r ≡ address to
    moved : moved_by direction sign size w from number ≡ Some to

  move_is : (direction : Direction) (sign : Signedness) (size : ℕ) (v u r : Value) → apply_binary (binaries.Move direction sign size) w v u ≡ Some r → IsMove direction sign size v u r
  move_is direction sign size (address p) (integer n) r e =
      let f = followed (moved_by direction sign size w p n) (λ q. Some (address q)) r e in
      record { from = p; number = n; to = f.value; is_from = refl; is_number = refl; is_to = sym (some_same _ r f.then); moved = f.first }
  move_is direction sign size (address p) (address q) r e = cc
  move_is direction sign size (integer n) u r e = cc

  pointer_moved : (m : Watched) (direction : Direction) (sign : Signedness) (size : ℕ) (p q : Pointer) (n x : ℕ) → IsAmid s a w stack l sp m → n < 2 ^ 32 → moved_by direction sign size w p n ≡ Some q → Stands (address p) x → Stands (address q) (moved_word direction x n size)
  pointer_moved m Up sign size p q n x h small e stands = moved_up s (ground w l m.now.memory) sp h.related.blocks h.related.in_room.above sign size p q n x small e stands
  pointer_moved m Down sign size p q n x h small e stands = moved_down s (ground w l m.now.memory) sp h.related.blocks h.related.in_room.above sign size p q n x small e stands

  -- a result that was made behind other steps
  makes_behind : (m m1 m2 : Watched) (rd x : ℕ) → Leaves s a w stack l sp m m1 → Makes s a w stack l sp m1 rd x m2 → Makes s a w stack l sp m rd x m2
  makes_behind m m1 m2 rd x h g = record {
    got = g.got;
    others = λ q e n. g.others q e n ∙ h.saved.same q e;
    bytes = same_on s.room (m.now.registers 2) m.now.memory m1.now.memory m2.now.memory h.bytes (subst (λ (p : ℕ). SameOwn s.room p m1.now.memory m2.now.memory) h.x2 g.bytes);
  }

  number_same : (n k : ℕ) → integer n ≡ integer k → n ≡ k
  number_same n k e = cc

  move_makes : (m m1 : Watched) (direction : Direction) (sign : Signedness) (size rd x y : ℕ) (v u r : Value) → IsAmid s a w stack l sp m → (i : IsMove direction sign size v u r) → Stands v x → i.number < 2 ^ 32 → y ≡ moved_word direction x i.number size → Makes s a w stack l sp m rd y m1 → MakesValue s a w stack l sp m rd r m1
  move_makes m m1 direction sign size rd x y v u r h i stands small e g =
      let from : Stands (address i.from) x = subst (λ (z : Value). Stands z x) i.is_from stands in
      let to = pointer_moved m direction sign size i.from i.to i.number x h small i.moved from in
      record {
        word = y;
        makes = g;
        stands = subst (λ (z : Value). Stands z y) (sym i.is_to) (subst (λ (z : ℕ). Stands (address i.to) z) (sym e) to);
        small = below direction e;
      }
    where
      below : (d : Direction) → y ≡ moved_word d x i.number size → y < 2 ^ 32
      below Up f = omega (arith, f)
      below Down f = omega (arith, f)

  -- by a number of bytes that is known
  move_by_does : (m : Watched) (rd r bytes : ℕ) → IsFree rd → IsAmid s a w stack l sp m → IsThere 10 r → bytes < 2 ^ 32 → Does s m (move_by rd r bytes) (Makes s a w stack l sp m rd (words.add (register m.now r) bytes))
  move_by_does m rd r bytes free h there small = does_either s m (is_small bytes) _ _ _ (λ e. near) (λ e. far)
    where
      near : Does s m (pieces.addi rd r bytes ∷ []) (Makes s a w stack l sp m rd (words.add (register m.now r) bytes))
      near = does_is s m _ _ _ (op_imm_does s m Addi rd r bytes free) (λ m1 x2 g. record { got = g.got; others = λ q e n. g.others q n; bytes = g.bytes_same })

      far : Does s m (constant 12 bytes ++ pieces.add rd r 12 ∷ []) (Makes s a w stack l sp m rd (words.add (register m.now r) bytes))
      far =
          let a2 = argument_scratch 12 (omega arith) (omega arith) in
          does_then s m (constant 12 bytes) (pieces.add rd r 12 ∷ []) _ _ (constant_does s m 12 bytes a2.free small) (λ m1 x2 g.
          let base : register m1.now r ≡ register m.now r = reads_same m.now m1.now r (g.others r (there_apart 10 r 12 there a2 (λ i. absurd (omega (arith, i))))) in
          let count : register m1.now 12 ≡ bytes = g.got in
          does_is s m1 _ _ _ (op_does s m1 Add rd r 12 free) (λ m2 y2 k.
          makes_last s a w stack l sp m m1 m2 rd _ (leaves_gets s a w stack l sp m m1 12 bytes a2 x2 g) (gets_is s m1 m2 rd _ _ (ap (λ (x : ℕ). words.add x (register m1.now 12)) base ∙ ap (λ (x : ℕ). words.add (register m.now r) x) count) k)))

  abbrev step_word : Direction → (x bytes : ℕ) → ℕ
  step_word Up x bytes = words.add x bytes
  step_word Down x bytes = sub x bytes

  step_does : (m : Watched) (direction : Direction) (rd r bytes : ℕ) → IsFree rd → Does s m (step direction rd r bytes ∷ []) (Gets s m rd (step_word direction (register m.now r) (register m.now bytes)))
  step_does m Up rd r bytes free = op_does s m Add rd r bytes free
  step_does m Down rd r bytes free = op_does s m Sub rd r bytes free

  -- the bytes of a constant count
  constant_move : (direction : Direction) (x n size : ℕ) → words.add x (directed direction (n * size % 2 ^ 32)) ≡ moved_word direction x n size
  constant_move Up x n size = wrapped (n * size)
    where
      wrapped : (k : ℕ) → (x + k % 2 ^ 32) % 2 ^ 32 ≡ (x + k) % 2 ^ 32
      wrapped k = omega arith
  constant_move Down x n size = wrapped (n * size)
    where
      wrapped : (k : ℕ) → (x + (0 + 2 ^ 32 - k % 2 ^ 32) % 2 ^ 32) % 2 ^ 32 ≡ (x + 2 ^ 32 - k % 2 ^ 32) % 2 ^ 32
      wrapped k = omega arith

  directed_small : (direction : Direction) (k : ℕ) → directed direction (k % 2 ^ 32) < 2 ^ 32
  directed_small Up k = omega arith
  directed_small Down k = omega arith

  counted_move : (direction : Direction) (x n size : ℕ) → step_word direction x (n * size % 2 ^ 32) ≡ moved_word direction x n size
  counted_move Up x n size = wrapped (n * size)
    where
      wrapped : (k : ℕ) → (x + k % 2 ^ 32) % 2 ^ 32 ≡ (x + k) % 2 ^ 32
      wrapped k = omega arith
  counted_move Down x n size = refl

  single_move : (direction : Direction) (x n size : ℕ) → n < 2 ^ 32 → size ≡ 1 → step_word direction x n ≡ moved_word direction x n size
  single_move direction x n size small one =
      let whole : n * size % 2 ^ 32 ≡ n = ap (λ (k : ℕ). n * k % 2 ^ 32) one ∙ unit n small in
      ap (step_word direction x) (sym whole) ∙ counted_move direction x n size
    where
      unit : (n : ℕ) → n < 2 ^ 32 → n * 1 % 2 ^ 32 ≡ n
      unit n h = omega (arith, h)

  elements_move : (m m1 : Watched) (direction : Direction) (sign : Signedness) (size rd left right : ℕ) (v u r : Value) → IsFree rd → IsAmid s a w stack l sp m → size < 2 ^ 32 → IsMove direction sign size v u r → m1.now.registers 2 ≡ m.now.registers 2 → HasBoth s a w stack l sp m left right v u m1 → Does s m1 (move_by_elements direction rd left right size) (MakesValue s a w stack l sp m rd r)
  elements_move m m1 direction sign size rd left right v u r free h small i x2 p = does_either s m1 (size == 1) _ _ _ single many
    where
      number : (p.y ≡ i.number) × (i.number < 2 ^ 32)
      number = subst (λ (z : Value). Stands z p.y) i.is_number p.stands_y

      single : (size == 1) ≡ true → Does s m1 (step direction rd left right ∷ []) (MakesValue s a w stack l sp m rd r)
      single t = does_is s m1 _ _ _ (step_does m1 direction rd left right free) (λ m2 y2 g.
          let one : size ≡ 1 = grind (arith, nat_tests, t) in
          let word : step_word direction (register m1.now left) (register m1.now right) ≡ moved_word direction p.x i.number size =
          ap (λ (x : ℕ). step_word direction x (register m1.now right)) p.got_x ∙ ap (λ (x : ℕ). step_word direction p.x x) (p.got_y ∙ number.0) ∙ single_move direction p.x i.number size number.1 one in
          move_makes m m2 direction sign size rd p.x _ v u r h i p.stands_x number.1 refl (makes_last s a w stack l sp m m1 m2 rd _ p.leaves (gets_is s m1 m2 rd _ _ word g)))

      many : (size == 1) ≡ false → Does s m1 (product 13 right size ++ step direction rd left 13 ∷ []) (MakesValue s a w stack l sp m rd r)
      many t =
          let a3 = argument_scratch 13 (omega arith) (omega arith) in
          let not_right = there_apart 11 right 13 p.right_there a3 (λ e. absurd (omega (arith, e))) in
          let not_left = there_apart 10 left 13 p.left_there a3 (λ e. absurd (omega (arith, e))) in
          does_then s m1 (product 13 right size) (step direction rd left 13 ∷ []) _ _ (product_does s m1 13 right size a3.free not_right small) (λ m2 y2 g.
          does_is s m2 _ _ _ (step_does m2 direction rd left 13 free) (λ m3 z2 k.
          let base : register m2.now left ≡ p.x = reads_same m1.now m2.now left (g.others left not_left) ∙ p.got_x in
          let count : register m2.now 13 ≡ i.number * size % 2 ^ 32 = g.got ∙ ap (λ (x : ℕ). x * size % 2 ^ 32) (p.got_y ∙ number.0) in
          let word : step_word direction (register m2.now left) (register m2.now 13) ≡ moved_word direction p.x i.number size =
          ap (λ (x : ℕ). step_word direction x (register m2.now 13)) base ∙ ap (λ (x : ℕ). step_word direction p.x x) count ∙ counted_move direction p.x i.number size in
          let before = leaves_on s a w stack l sp m m1 m2 p.leaves (leaves_gets s a w stack l sp m1 m2 13 _ a3 y2 g) in
          move_makes m m3 direction sign size rd p.x _ v u r h i p.stands_x number.1 refl (makes_last s a w stack l sp m m2 m3 rd _ before (gets_is s m2 m3 rd _ _ word k))))

  moved_does : (m : Watched) (direction : Direction) (sign : Signedness) (size rd : ℕ) (x y : Operand) (v u r : Value) → IsFree rd → IsAmid s a w stack l sp m → size < 2 ^ 32 → IsOperand s a w stack l sp x v → IsOperand s a w stack l sp y u → apply_binary (binaries.Move direction sign size) w v u ≡ Some r → Does s m (moved c direction size rd x y (constant_of y)) (MakesValue s a w stack l sp m rd r)
  moved_does m direction sign size rd x y v u r free h small ix iy e = by (constant_of y) refl
    where
      i : IsMove direction sign size v u r
      i = move_is direction sign size v u r e

      by : (o : Option ℕ) → constant_of y ≡ o → Does s m (moved c direction size rd x y o) (MakesValue s a w stack l sp m rd r)
      by None f = does_then s m (both c x y) _ _ _ (both_does s a w stack l sp m x y v u h ix iy) (λ m1 x2 p. elements_move m m1 direction sign size rd (operand_register c 10 x) (operand_register c 11 y) v u r free h small i x2 p)
      by (Some n) f =
          let k = constant_is y n f in
          let fits : operand_fits s.unit (function_at s.unit a.function) (Constant n) ≡ true = subst (λ (z : Operand). operand_fits s.unit (function_at s.unit a.function) z ≡ true) k.is iy.fits in
          let low : n < 2 ^ 32 = grind (arith, nat_tests, fits) in
          let is : Some (integer n) ≡ Some u = subst (λ (z : Operand). operand (holder s) z a ≡ Some u) k.is iy.is in
          let same : n ≡ i.number = number_same n i.number (some_same (integer n) u is ∙ i.is_number) in
          does_then s m (operand_code c 10 x) _ _ _ (operand_does s a w stack l sp m 10 x v a0_scratch h ix.fits ix.is) (λ m1 x2 p.
          does_is s m1 _ _ _ (move_by_does m1 rd (operand_register c 10 x) (directed direction (n * size % 2 ^ 32)) free p.amid p.there (directed_small direction (n * size))) (λ m2 y2 g.
          let word : words.add (register m1.now (operand_register c 10 x)) (directed direction (n * size % 2 ^ 32)) ≡ moved_word direction p.word i.number size =
          ap (λ (z : ℕ). words.add z (directed direction (n * size % 2 ^ 32))) p.got ∙ constant_move direction p.word n size ∙ ap (λ (z : ℕ). moved_word direction p.word z size) same in
          move_makes m m2 direction sign size rd p.word _ v u r h i p.stands (omega (arith, low, same)) word (makes_behind m m1 m2 rd _ (leaves_operand s a w stack l sp m m1 10 (operand_register c 10 x) v a0_scratch x2 p) g)))

  -- ---- differences

  elements_between_does : (m m1 : Watched) (size rd left right : ℕ) (v u r : Value) → IsFree rd → IsAmid s a w stack l sp m → 0 < size → size < 2 ^ 31 → apply_binary (binaries.Difference size) w v u ≡ Some r → m1.now.registers 2 ≡ m.now.registers 2 → HasBoth s a w stack l sp m left right v u m1 → Does s m1 (elements_between size rd left right) (MakesValue s a w stack l sp m rd r)
  elements_between_does m m1 size rd left right v u r free h positive small e x2 p = does_either s m1 (size == 1) _ _ _ single many
    where
      result : ℕ
      result = wrap (int_div (signed (sub p.x p.y)) (pos size))

      stands_result : Stands r result
      stands_result = by v u e p.stands_x p.stands_y
        where
          by : (v u : Value) → apply_binary (binaries.Difference size) w v u ≡ Some r → Stands v p.x → Stands u p.y → Stands r result
          by (address k) (address q) f hx hy = difference_word s (ground w l m.now.memory) sp h.related.blocks h.related.in_room.above size k q p.x p.y r positive small f hx hy
          by (address k) (integer n) f hx hy = cc
          by (integer n) z f hx hy = cc

      single : (size == 1) ≡ true → Does s m1 (pieces.sub rd left right ∷ []) (MakesValue s a w stack l sp m rd r)
      single t = does_is s m1 _ _ _ (op_does s m1 Sub rd left right free) (λ m2 y2 g.
          let one : size ≡ 1 = grind (arith, nat_tests, t) in
          let word : sub (register m1.now left) (register m1.now right) ≡ result =
          ap (λ (x : ℕ). sub x (register m1.now right)) p.got_x ∙ ap (λ (x : ℕ). sub p.x x) p.got_y
          ∙ sym (wrap_signed (sub p.x p.y) (sub-below p.x p.y)) ∙ ap wrap (sym (over_one (signed (sub p.x p.y)))) ∙ ap (λ (z : ℕ). wrap (int_div (signed (sub p.x p.y)) (pos z))) (sym one) in
          record { word = result; makes = makes_last s a w stack l sp m m1 m2 rd _ p.leaves (gets_is s m1 m2 rd _ _ word g); stands = stands_result; small = wrap-below _ })

      many : (size == 1) ≡ false → Does s m1 (pieces.sub 13 left right ∷ (constant 12 size ++ pieces.div rd 13 12 ∷ [])) (MakesValue s a w stack l sp m rd r)
      many t =
          let a3 = argument_scratch 13 (omega arith) (omega arith) in
          let a2 = argument_scratch 12 (omega arith) (omega arith) in
          does_then s m1 (pieces.sub 13 left right ∷ []) (constant 12 size ++ pieces.div rd 13 12 ∷ []) _ _ (op_does s m1 Sub 13 left right a3.free) (λ m2 y2 g.
          does_then s m2 (constant 12 size) (pieces.div rd 13 12 ∷ []) _ _ (constant_does s m2 12 size a2.free (omega (arith, small))) (λ m3 z2 k.
          does_is s m3 _ _ _ (op_does s m3 Div rd 13 12 free) (λ m4 t2 j.
          let distance : register m3.now 13 ≡ sub p.x p.y = k.others 13 (λ i. absurd (omega (arith, i))) ∙ g.got ∙ ap (λ (x : ℕ). sub x (register m1.now right)) p.got_x ∙ ap (λ (x : ℕ). sub p.x x) p.got_y in
          let divisor : register m3.now 12 ≡ size = k.got in
          let word : words.div (register m3.now 13) (register m3.now 12) ≡ result = ap (λ (x : ℕ). words.div x (register m3.now 12)) distance ∙ ap (λ (x : ℕ). words.div (sub p.x p.y) x) divisor ∙ divided (sub p.x p.y) size positive small in
          let before = leaves_on s a w stack l sp m m2 m3 (leaves_on s a w stack l sp m m1 m2 p.leaves (leaves_gets s a w stack l sp m1 m2 13 _ a3 y2 g)) (leaves_gets s a w stack l sp m2 m3 12 size a2 z2 k) in
          record { word = result; makes = makes_last s a w stack l sp m m3 m4 rd _ before (gets_is s m3 m4 rd _ _ word j); stands = stands_result; small = wrap-below _ })))

  -- ---- all binary operations

  binary_makes : (m : Watched) (op : BinaryOperation) (rd : ℕ) (x y : Operand) (v u r : Value) → IsFree rd → IsAmid s a w stack l sp m → operation_fits op ≡ true → IsOperand s a w stack l sp x v → IsOperand s a w stack l sp y u → apply_binary op w v u ≡ Some r → Does s m (binary c op rd x y) (MakesValue s a w stack l sp m rd r)
  binary_makes m (binaries.Arithmetic op sign) rd x y v u r free h fits ix iy e = does_is s m _ _ _ (arithmetic_does s a w stack l sp m op sign x y v u rd free h ix iy) (λ m1 x2 g. arithmetic_value m m1 op sign rd v u r e g)
  binary_makes m (binaries.Compare op sign) rd x y v u r free h fits ix iy e = does_is s m _ _ _ (compare_does s a w stack l sp m op sign x y v u rd free h ix iy) (λ m1 x2 g. compare_value m m1 op sign rd v u r e g)
  binary_makes m (binaries.ComparePointers op) rd x y v u r free h fits ix iy e = does_is s m _ _ _ (compare_does s a w stack l sp m op Unsigned x y v u rd free h ix iy) (λ m1 x2 g. compare_pointers_value m m1 op rd v u r h e g)
  binary_makes m (binaries.Move direction sign size) rd x y v u r free h fits ix iy e =
      let small : size < 2 ^ 32 = grind (arith, nat_tests, fits) in
      moved_does m direction sign size rd x y v u r free h small ix iy e
  binary_makes m (binaries.Difference size) rd x y v u r free h fits ix iy e =
      let positive : 0 < size = grind (arith, nat_tests, fits) in
      let small : size < 2 ^ 31 = grind (arith, nat_tests, fits) in
      does_then s m (both c x y) _ _ _ (both_does s a w stack l sp m x y v u h ix iy) (λ m1 x2 p. elements_between_does m m1 size rd (operand_register c 10 x) (operand_register c 11 y) v u r free h positive small e x2 p)

  pub binary_does : (m : Watched) (op : BinaryOperation) (o p : Operand) (v u r : Value) (x : ℕ) → IsAmid s a w stack l sp m → operation_fits op ≡ true → IsOperand s a w stack l sp o v → IsOperand s a w stack l sp p u → apply_binary op w v u ≡ Some r → HasPlace c (place_of c.places x)
      → Does s m (binary c op (result_register c x) o p ++ result_code c x) (IsAmid s (holding s a w stack l sp (place_of c.places x) r) w stack l sp)
  binary_does m op o p v u r x h fits io ip e has = gives_does s a w stack l sp m x r (λ rd. binary c op rd o p) h has (λ rd t. binary_makes m op rd o p v u r t.free h fits io ip e)

  -- ---- addresses

  pub address_of_does : (m : Watched) (p : Address) (q : Pointer) (x : ℕ) → IsAmid s a w stack l sp m → address_fits s.unit (function_at s.unit a.function) p ≡ true → pointer (holder s) p a w ≡ Some q → HasPlace c (place_of c.places x)
      → Does s m (address_into c (result_register c x) p ++ result_code c x) (IsAmid s (holding s a w stack l sp (place_of c.places x) (address q)) w stack l sp)
  address_of_does m p q x h fits e has = gives_does s a w stack l sp m x (address q) (λ rd. address_into c rd p) h has (λ rd t.
      does_is s m _ _ _ (address_into_does s a w stack l sp m rd p q t.free h fits e) (λ m1 x2 g. record {
        word = g.word;
        makes = record { got = g.got; others = λ z k n. g.saved z k n; bytes = g.bytes };
        stands = g.stands;
        small = g.small;
      }))
