-- Arguments go into registers and onto the stack, and parameters from there into their places.
use Rattle.std.proofs.Common.{◌≡◌, ◌⊎◌, inl, inr, ⊎_elim, ℕ, zero, suc, ◌+◌, ◌*◌, ◌%◌, ◌^◌, ◌==◌, ◌<◌, ◌≤◌, Bool, true, false, List, [], ◌∷◌, ◌++◌, length, Option, Some, None, refl, sym, ap, ◌∙◌, subst, arith}
use Rattle.std.specs.Prelude.{nat_lt, ◌&&◌, slice_get, slice_index_or, if◌then◌else◌, Contains}
use Rattle.std.specs.List.{list_all}
use Rattle.std.proofs.lemmas.Bool.{cases_eq}
use Rattle.std.proofs.lemmas.Bool.Decides.{nat_tests}
use Rattle.qs_base.specs.Parameters.{stack_arguments}
use Rattle.qs_memory.specs.Partial.{◌>>=◌}
use Rattle.qs_memory.specs.Values.{Pointer, null, into, Value, width}
use Rattle.qs_memory.specs.Memory as memory
use Rattle.qs_memory.specs.Memory.{Memory, block_at}
use Rattle.qs_memory.specs.Soundness.{IsLive}
use Rattle.qs_memory.specs.declared.scalar.Scalar.{Scalar}
use Rattle.qs_memory.specs.declared.scalar.Scalar.TheVariants as scalars
use Rattle.qs_memory.proofs.Options.{some_same, followed}
use Rattle.qs_memory.proofs.StoreLaws.{stored}
use Rattle.qs_memory.proofs.StepLaws.{memory_goes_on}
use Rattle.qs_base.specs.Words as words
use Rattle.qs_events.specs.Runs.{given}
use Rattle.qs_isa.specs.declared.instruction.Instr.{Instr}
use Rattle.qs_isa.specs.declared.instruction.LoadKind.TheVariants.{Lw}
use Rattle.qs_isa.specs.declared.instruction.StoreKind.TheVariants.{Sw}
use Rattle.qs_calls.specs.World.{World, with_memory, RootRun, Environment, with_value}
use Rattle.qs_calls.specs.Calls.{Entered, pass}
use Rattle.qs_calls.specs.declared.parameter.Parameter.{Parameter}
use Rattle.qs_calls.specs.declared.parameter.Parameter.TheVariants.{Plain, Placed}
use Rattle.qs_machine.specs.State.{State, register, stack_top, store_4}
use Rattle.qs_machine.specs.Step as machine
use Rattle.qs_machine.specs.Step.{store_width}
use Rattle.qs_tac.specs.declared.operands.Operand.{Operand}
use Rattle.qs_tac.specs.declared.places.Place.{Place}
use Rattle.qs_tac.specs.Holders.{File, same_place, with_place, placed_values}
use Rattle.qs_tac.specs.Places.{place_of}
use Rattle.qs_tac.specs.Fits.{operand_fits, parameter_fits}
use Rattle.qs_tac.specs.Values.{Activation, operand, operands}
use Rattle.qs_tac.specs.Steps.{Waiting}
use Rattle.qs_frames.specs.Layout.{total, outgoing_words, frame_words, argument_at}
use Rattle.qs_frames.proofs.FrameLaws.{is_cost, offset_inside}
use Rattle.qs_emit_selection.specs.Pieces as pieces
use Rattle.qs_emit_selection.specs.Pieces.{store_kind, load_from, store_to}
use Rattle.qs_emit_selection.specs.Operands.{Context, local_offset, operand_code, operand_register, result_register, result_code, put}
use Rattle.qs_emit_selection.specs.Operands.{into as operand_into}
use Rattle.qs_emit_selection.specs.Emission as emission
use Rattle.qs_emit_selection.specs.Emission.{take_parameter, take_parameters}
use Rattle.qs_emit.specs.Machine.{Watched}
use Rattle.qs_emit.specs.Lies.{number_at, StandsFor, IsInReach, SameOwn}
use Rattle.qs_emit.specs.Surroundings.{Lay}
use Rattle.qs_emit.specs.Relation.{Setup, context, cost, function_at, HasPlace}
use Rattle.qs_emit.specs.Entries.{argument_word}
use Rattle.qs_emit.proofs.Bytes.{number_same, number_stored, number_small}
use Rattle.qs_emit.proofs.Injection.{value_kept, store_holds, stored_other}
use Rattle.qs_emit.proofs.Steps.{Does, Gets, IsFree, does_with, does_is, does_then, does_none, does_either, store_does, same_none, same_on, data_below}
use Rattle.qs_emit.proofs.Slots.{IsInFrame, word_at, reads_free, load_behind_does, gets_is, store_to_does}
use Rattle.qs_emit.proofs.FrameLaws.{placed_inside, place_cases, place_same, related_own, related_argument}
use Rattle.qs_emit.proofs.Access.{stands_word}
use Rattle.qs_emit.proofs.Operands.{holder, argument_scratch, local_near, stores_hold, IsAmid, amid_gets, are_words, into_does, operand_does, MakesValue, gives_behind, put_does}
use Rattle.qs_emit.proofs.Fetches.{store_wide, access_aligned, written_amid}
use Rattle.qs_emit.proofs.CodePlaces.{has_place, parameters_apart}

-- ---- where arguments stand

-- of these registers, or of the bytes from x2 on
abbrev pub argument_in : (registers flat : ℕ → ℕ) → (sp i : ℕ) → ℕ
argument_in registers flat sp i = if nat_lt i 8 then registers (10 + i) else number_at 4 flat (sp + argument_at (stack_arguments i))

pub in_register : (registers flat : ℕ → ℕ) (sp i : ℕ) → nat_lt i 8 ≡ true → argument_in registers flat sp i ≡ registers (10 + i)
in_register registers flat sp i t = ap (λ (b : Bool). if b then registers (10 + i) else number_at 4 flat (sp + argument_at (stack_arguments i))) t

on_stack : (registers flat : ℕ → ℕ) (sp i : ℕ) → nat_lt i 8 ≡ false → argument_in registers flat sp i ≡ number_at 4 flat (sp + argument_at (stack_arguments i))
on_stack registers flat sp i t = ap (λ (b : Bool). if b then registers (10 + i) else number_at 4 flat (sp + argument_at (stack_arguments i))) t

-- as entries have it
pub argument_is : (s : Setup) (state : State) (i : ℕ) → argument_word state i ≡ argument_in state.registers state.memory (state.registers 2) i
argument_is s state i = by (nat_lt i 8)
  where
    by : (b : Bool) → (if b then register state (10 + i) else number_at 4 state.memory (state.registers 2 + argument_at (stack_arguments i))) ≡ (if b then state.registers (10 + i) else number_at 4 state.memory (state.registers 2 + argument_at (stack_arguments i)))
    by true = reads_free s state (10 + i) (λ z. absurd (omega (arith, z)))
    by false = refl

-- other registers and bytes may change
pub argument_same : (registers other flat later : ℕ → ℕ) (sp i : ℕ) → (i < 8 → other (10 + i) ≡ registers (10 + i)) → ((at : ℕ) → sp ≤ at → later at ≡ flat at) → argument_in other later sp i ≡ argument_in registers flat sp i
argument_same registers other flat later sp i same bytes = by (nat_lt i 8) refl
  where
    by : (b : Bool) → nat_lt i 8 ≡ b → (if b then other (10 + i) else number_at 4 later (sp + argument_at (stack_arguments i))) ≡ (if b then registers (10 + i) else number_at 4 flat (sp + argument_at (stack_arguments i)))
    by true t = same (grind (arith, nat_tests, t))
    by false t = number_same 4 flat later (sp + argument_at (stack_arguments i)) (λ at lo hi. bytes at (omega (arith, lo)))

-- ---- arguments

module _ (s : Setup) (a : Activation File) (w : Memory) (stack : List (Waiting File)) (l : Lay) (sp : ℕ) where
  abbrev c : Context
  c = context s a.function

  abbrev Stands : Value → ℕ → Type 0
  Stands v word = StandsFor w l.address_of v word

  and_left : (x y : Bool) → x && y ≡ true → x ≡ true
  and_left true y e = refl
  and_left false y e = cc

  and_right : (x y : Bool) → x && y ≡ true → y ≡ true
  and_right true y e = e
  and_right false y e = cc

  abbrev fits : Operand → Bool
  fits = operand_fits s.unit (function_at s.unit a.function)

  -- of the first value and of those behind it
  at_cons : (P : Value → ℕ → Type 0) (v : Value) (vs : List Value) (i : ℕ) → P v i → ((j : ℕ) (u : Value) → slice_get vs j ≡ Some u → P u (i + 1 + j)) → (j : ℕ) (u : Value) → slice_get (v ∷ vs) j ≡ Some u → P u (i + j)
  at_cons P v vs i here there zero u e =
      let same : v ≡ u = some_same v u e in
      let at : i ≡ i + 0 = omega arith in
      subst (λ (n : ℕ). P u n) at (subst (λ (z : Value). P z i) same here)
  at_cons P v vs i here there (suc j) u e = let at : i + 1 + j ≡ i + suc j = omega arith in subst (λ (n : ℕ). P u n) at (there j u e)

  -- a word of the frame for arguments
  abbrev word_of : (flat : ℕ → ℕ) → (i : ℕ) → ℕ
  word_of flat i = number_at 4 flat (sp + argument_at (stack_arguments i))

  -- the bytes from x2 on before the word of an argument are as they were
  abbrev SameBefore : (m m1 : Watched) → (i : ℕ) → Type 0
  SameBefore m m1 i = (at : ℕ) → sp ≤ at → at < sp + argument_at (stack_arguments i) → m1.now.memory at ≡ m.now.memory at

  -- a value is stored into its word, where the stack passes it
  record IsStored (m : Watched) (i : ℕ) (v : Value) (m1 : Watched) : Type 0 where
    amid : IsAmid s a w stack l sp m1
    before : SameBefore m m1 i
    value : 8 ≤ i → Stands v (word_of m1.now.memory i)

  -- values stand in words from x2 on
  record AreStored (m : Watched) (i : ℕ) (vs : List Value) (m1 : Watched) : Type 0 where
    amid : IsAmid s a w stack l sp m1
    before : SameBefore m m1 i
    values : (j : ℕ) (v : Value) → slice_get vs j ≡ Some v → 8 ≤ i + j → Stands v (word_of m1.now.memory (i + j))

  stored_word : (m : Watched) (o : Operand) (v : Value) (i : ℕ) → IsAmid s a w stack l sp m → fits o ≡ true → operand (holder s) o a ≡ Some v → 8 ≤ i → i < 8 + outgoing_words c.function → Does s m (operand_code c 10 o ++ pieces.store Sw (operand_register c 10 o) 2 (argument_at (stack_arguments i)) ∷ []) (IsStored m i v)
  stored_word m o v i h fit e past lt =
      let r = operand_register c 10 o in
      let at = argument_at (stack_arguments i) in
      does_then s m (operand_code c 10 o) (pieces.store Sw r 2 at ∷ []) _ _ (operand_does s a w stack l sp m 10 o v (argument_scratch 10 (omega arith) (omega arith)) h fit e) (λ m1 x2 k.
      let x = k.amid.x2 in
      let room = k.amid.related.in_room in
      let lo = room.above in
      let hi = room.below in
      let al = room.aligned in
      let whole = placed_inside c in
      let top = s.ceiling in
      let address : words.add (m1.now.registers 2) at ≡ sp + at = omega (arith, x, hi, lt, whole, top) in
      let new = store_4 m1.now.memory (sp + at) (register m1.now r) in
      does_is s m1 _ _ _ (store_does s m1 Sw r 2 at (sp + at) address (omega (arith, al)) (inl (omega (arith, x), (omega (arith, lo), omega (arith, hi, lt, whole, past))))) (λ m2 y2 g.
      let own : SameOwn s.room sp new m2.now.memory = subst (λ (p : ℕ). SameOwn s.room p new m2.now.memory) x g.bytes_are in
      let related = related_argument s a w stack l m1.now.registers sp m1.now.memory k.amid.related (stack_arguments i) (register m1.now r) (omega (arith, lt, past)) in
      let word : word_of m2.now.memory i ≡ k.word % 2 ^ 32 =
      number_same 4 new m2.now.memory (sp + at) (λ y l u. own.same y (inl (omega (arith, l)))) ∙ number_stored m1.now.memory (sp + at) (register m1.now r) ∙ ap (λ (n : ℕ). n % 2 ^ 32) k.got in
      record {
        amid = record { x2 = y2 ∙ x; related = related_own s a w stack l m1.now.registers sp new related m2.now.registers m2.now.memory (record { same = λ q b. g.registers q }) own };
        before = λ y l u. own.same y (inl l) ∙ stored_other Sw m1.now.memory (sp + at) (register m1.now r) y (inl u) ∙ k.bytes.same y (inl (let x2_is = h.x2 in omega (arith, x2_is, l)));
        value = λ p. subst (λ (n : ℕ). Stands v n) (sym word) (stands_word w l.address_of v k.word (are_words s a w stack l sp m h) k.stands);
      }))

  stored_does : (m : Watched) (o : Operand) (v : Value) (i : ℕ) → IsAmid s a w stack l sp m → fits o ≡ true → operand (holder s) o a ≡ Some v → i < 8 + outgoing_words c.function → Does s m (emission.stack_argument c i o) (IsStored m i v)
  stored_does m o v i h fit e lt = does_either s m (nat_lt i 8) _ _ _
      (λ t. does_none s m (IsStored m i v) (record { amid = h; before = λ y l u. refl; value = λ past. absurd (let before : i < 8 = grind (arith, nat_tests, t) in omega (arith, before, past)) }))
      (λ t. stored_word m o v i h fit e (grind (arith, nat_tests, t)) lt)

  -- the values of operands, one by one
  record AreOperands (o : Operand) (os : List Operand) (vs : List Value) : Type 0 where
    first : Value
    others : List Value
    first_is : operand (holder s) o a ≡ Some first
    others_are : operands (holder s) os a ≡ Some others
    whole : first ∷ others ≡ vs

  are_operands : (o : Operand) (os : List Operand) (vs : List Value) → operands (holder s) (o ∷ os) a ≡ Some vs → AreOperands o os vs
  are_operands o os vs e =
      let f = followed (operand (holder s) o a) (λ v. operands (holder s) os a >>= λ vs. Some (v ∷ vs)) vs e in
      let g = followed (operands (holder s) os a) (λ vs. Some (f.value ∷ vs)) vs f.then in
      record { first = f.value; others = g.value; first_is = f.first; others_are = g.first; whole = some_same _ vs g.then }

  no_value : (vs : List Value) → operands (holder s) [] a ≡ Some vs → (j : ℕ) (v : Value) → slice_get vs j ≡ Some v → ⊥
  no_value vs e j v f = none j v (ap (λ (z : List Value). slice_get z j) (some_same [] vs e) ∙ f)
    where
      none : (j : ℕ) (v : Value) → slice_get [] j ≡ Some v → ⊥
      none j v g = cc

  stack_does : (os : List Operand) (vs : List Value) (m : Watched) (i : ℕ) → IsAmid s a w stack l sp m → list_all fits os ≡ true → operands (holder s) os a ≡ Some vs → stack_arguments (i + length os) ≤ outgoing_words c.function → Does s m (emission.pass_on_stack c i os) (AreStored m i vs)
  stack_does [] vs m i h fit e few = does_none s m (AreStored m i vs) (record { amid = h; before = λ y l u. refl; values = λ j v f. absurd (no_value vs e j v f) })
  stack_does (o ∷ os) vs m i h fit e few =
      let are = are_operands o os vs e in
      does_then s m (emission.stack_argument c i o) (emission.pass_on_stack c (i + 1) os) _ _ (stored_does m o are.first i h (and_left _ _ fit) are.first_is (omega (arith, few))) (λ m1 x2 k.
      does_is s m1 _ _ _ (stack_does os are.others m1 (i + 1) k.amid (and_right _ _ fit) are.others_are (omega (arith, few))) (λ m2 y2 j.
      let here : 8 ≤ i → Stands are.first (word_of m2.now.memory i) =
      λ past. subst (λ (n : ℕ). Stands are.first n) (sym (number_same 4 m1.now.memory m2.now.memory (sp + argument_at (stack_arguments i)) (λ y l u. j.before y (omega (arith, l)) (omega (arith, u, past))))) (k.value past) in
      record {
        amid = j.amid;
        before = λ y l u. j.before y l (omega (arith, u)) ∙ k.before y l u;
        values = λ n u f. at_cons (λ v i. 8 ≤ i → Stands v (word_of m2.now.memory i)) are.first are.others i here j.values n u (ap (λ (z : List Value). slice_get z n) are.whole ∙ f);
      }))

  -- a value has come into its register, where a register passes it
  record IsLoaded (m : Watched) (i : ℕ) (v : Value) (m1 : Watched) : Type 0 where
    amid : IsAmid s a w stack l sp m1
    below : (q : ℕ) → q < 10 + i → m1.now.registers q ≡ m.now.registers q
    bytes : SameOwn s.room sp m.now.memory m1.now.memory
    value : i < 8 → Stands v (m1.now.registers (10 + i))

  -- values stand in a register and those behind it
  record AreLoaded (m : Watched) (i : ℕ) (vs : List Value) (m1 : Watched) : Type 0 where
    amid : IsAmid s a w stack l sp m1
    below : (q : ℕ) → q < 10 + i → m1.now.registers q ≡ m.now.registers q
    bytes : SameOwn s.room sp m.now.memory m1.now.memory
    values : (j : ℕ) (v : Value) → slice_get vs j ≡ Some v → i + j < 8 → Stands v (m1.now.registers (10 + (i + j)))

  loaded_does : (m : Watched) (o : Operand) (v : Value) (i : ℕ) → IsAmid s a w stack l sp m → fits o ≡ true → operand (holder s) o a ≡ Some v → Does s m (emission.register_argument c i o) (IsLoaded m i v)
  loaded_does m o v i h fit e = does_either s m (nat_lt i 8) _ _ _ (λ t. brought (grind (arith, nat_tests, t)))
      (λ t. does_none s m (IsLoaded m i v) (record { amid = h; below = λ q lt. refl; bytes = same_none s.room sp m.now.memory; value = λ lt. absurd (let past : 8 ≤ i = grind (arith, nat_tests, t) in omega (arith, past, lt)) }))
    where
      brought : i < 8 → Does s m (operand_into c (10 + i) o) (IsLoaded m i v)
      brought lt =
          let scratch = argument_scratch (10 + i) (omega arith) (omega (arith, lt)) in
          does_is s m _ _ _ (into_does s a w stack l sp m (10 + i) o v scratch h fit e) (λ m1 x2 k.
          let got : m1.now.registers (10 + i) ≡ k.word = sym (reads_free s m1.now (10 + i) scratch.free.0) ∙ k.got in
          record {
            amid = k.amid;
            below = λ q less. k.others q (λ z. absurd (omega (arith, z, less)));
            bytes = subst (λ (p : ℕ). SameOwn s.room p m.now.memory m1.now.memory) h.x2 k.bytes;
            value = λ less. subst (λ (n : ℕ). Stands v n) (sym got) k.stands;
          })

  registers_do : (os : List Operand) (vs : List Value) (m : Watched) (i : ℕ) → IsAmid s a w stack l sp m → list_all fits os ≡ true → operands (holder s) os a ≡ Some vs → Does s m (emission.pass_in_registers c i os) (AreLoaded m i vs)
  registers_do [] vs m i h fit e = does_none s m (AreLoaded m i vs) (record { amid = h; below = λ q lt. refl; bytes = same_none s.room sp m.now.memory; values = λ j v f. absurd (no_value vs e j v f) })
  registers_do (o ∷ os) vs m i h fit e =
      let are = are_operands o os vs e in
      does_then s m (emission.register_argument c i o) (emission.pass_in_registers c (i + 1) os) _ _ (loaded_does m o are.first i h (and_left _ _ fit) are.first_is) (λ m1 x2 k.
      does_is s m1 _ _ _ (registers_do os are.others m1 (i + 1) k.amid (and_right _ _ fit) are.others_are) (λ m2 y2 j.
      let here : i < 8 → Stands are.first (m2.now.registers (10 + i)) = λ lt. subst (λ (n : ℕ). Stands are.first n) (sym (j.below (10 + i) (omega arith))) (k.value lt) in
      record {
        amid = j.amid;
        below = λ q lt. j.below q (omega (arith, lt)) ∙ k.below q lt;
        bytes = same_on s.room sp m.now.memory m1.now.memory m2.now.memory k.bytes j.bytes;
        values = λ n u f. at_cons (λ v i. i < 8 → Stands v (m2.now.registers (10 + i))) are.first are.others i here j.values n u (ap (λ (z : List Value). slice_get z n) are.whole ∙ f);
      }))

  -- the values stand where arguments are passed
  pub record ArePassed (vs : List Value) (m1 : Watched) : Type 0 where
    pub amid : IsAmid s a w stack l sp m1
    pub values : (i : ℕ) (v : Value) → slice_get vs i ≡ Some v → Stands v (argument_in m1.now.registers m1.now.memory sp i)

  pub pass_does : (os : List Operand) (vs : List Value) (m : Watched) → IsAmid s a w stack l sp m → list_all fits os ≡ true → operands (holder s) os a ≡ Some vs → stack_arguments (length os) ≤ outgoing_words c.function → Does s m (emission.pass c os) (ArePassed vs)
  pass_does os vs m h fit e few =
      does_then s m (emission.pass_on_stack c 0 os) (emission.pass_in_registers c 0 os) _ _ (stack_does os vs m 0 h fit e (omega (arith, few))) (λ m1 x2 k.
      does_is s m1 _ _ _ (registers_do os vs m1 0 k.amid fit e) (λ m2 y2 j. record { amid = j.amid; values = λ i v f. passed m1 m2 i v f k j }))
    where
      passed : (m1 m2 : Watched) (i : ℕ) (v : Value) → slice_get vs i ≡ Some v → AreStored m 0 vs m1 → AreLoaded m1 0 vs m2 → Stands v (argument_in m2.now.registers m2.now.memory sp i)
      passed m1 m2 i v f k j = by (nat_lt i 8) refl
        where
          z : 0 + i ≡ i
          z = omega arith

          by : (b : Bool) → nat_lt i 8 ≡ b → Stands v (if b then m2.now.registers (10 + i) else word_of m2.now.memory i)
          by true t = subst (λ (n : ℕ). n < 8 → Stands v (m2.now.registers (10 + n))) z (j.values i v f) (grind (arith, nat_tests, t))
          by false t =
              let past : 8 ≤ i = grind (arith, nat_tests, t) in
              let stored = subst (λ (n : ℕ). 8 ≤ n → Stands v (word_of m1.now.memory n)) z (k.values i v f) past in
              subst (λ (n : ℕ). Stands v n) (sym (number_same 4 m1.now.memory m2.now.memory (sp + argument_at (stack_arguments i)) (λ y l u. j.bytes.same y (inl (omega (arith, l)))))) stored

  pub operands_count : (os : List Operand) (vs : List Value) → operands (holder s) os a ≡ Some vs → length vs ≡ length os
  operands_count [] vs e = ap length (sym (some_same [] vs e))
  operands_count (o ∷ os) vs e =
      let are = are_operands o os vs e in
      let k = operands_count os are.others are.others_are in
      let n = ap length are.whole in
      omega (arith, k, n)

-- ---- parameters

-- what a call begins with, where all its arguments can be passed
pub record Passed : Type 0 where
  pub environment : Environment
  pub memory : Memory

abbrev pub passes : List Parameter → List Value → (first : ℕ) → Environment → Memory → Option Passed
passes [] [] first e m = Some (record { environment = e; memory = m })
passes [] (v ∷ vs) first e m = None
passes (p ∷ ps) [] first e m = None
passes (Plain x ∷ ps) (v ∷ vs) first e m = passes ps vs first (with_value e x v) m
passes (Placed i t ∷ ps) (v ∷ vs) first e m = memory.store t m (into (first + i) 0) v >>= λ later. passes ps vs first e later

given_bind : {A B : Type 0} (o : Option A) (f : A → Option B) (g : B → RootRun) (k : A → RootRun) → ((x : A) → k x ≡ given (f x) g) → given o k ≡ given (o >>= f) g
given_bind None f g k h = refl
given_bind (Some x) f g k h = h x

pub pass_is : (ps : List Parameter) (vs : List Value) (first : ℕ) (e : Environment) (w : World) (k : Entered) → pass ps vs first e w k ≡ given (passes ps vs first e w.memory) (λ r. k r.environment (with_memory w r.memory))
pass_is [] [] first e w k = refl
pass_is [] (v ∷ vs) first e w k = refl
pass_is (Plain x ∷ ps) [] first e w k = refl
pass_is (Placed i t ∷ ps) [] first e w k = refl
pass_is (Plain x ∷ ps) (v ∷ vs) first e w k = pass_is ps vs first (with_value e x v) w k
pass_is (Placed i t ∷ ps) (v ∷ vs) first e w k =
    given_bind (memory.store t w.memory (into (first + i) 0) v) (λ later. passes ps vs first e later) (λ r. k r.environment (with_memory w r.memory)) (λ m. pass ps vs first e (with_memory w m) k) (λ m. pass_is ps vs first e (with_memory w m) k)

-- the activation that begins, with a file
abbrev pub begun : (f number : ℕ) → File → Activation File
begun f number file = record { function = f; at = 0; first_block = number; held = file }

width_some : (t : Scalar) → 0 < width t
width_some scalars.Char = omega arith
width_some scalars.Int = omega arith
width_some scalars.Unsigned = omega arith
width_some scalars.Pointer = omega arith

contains_first : (q : Parameter) (ps : List Parameter) → Contains (q ∷ ps) q
contains_first q ps = (0, omega arith, refl)

contains_later : (p q : Parameter) (ps : List Parameter) → Contains ps q → Contains (p ∷ ps) q
contains_later p q ps c = let within = c.1 in (suc c.0, omega (arith, within), c.2)

abbrev block_in : Pointer → ℕ
block_in null = 0
block_in (into b o) = b

abbrev offset_in : Pointer → ℕ
offset_in null = 0
offset_in (into b o) = o

module _ (s : Setup) (f : ℕ) (known : f < length s.unit.functions) (number : ℕ) (stack : List (Waiting File)) (l : Lay) (sp : ℕ) where
  abbrev d : Context
  d = context s f

  -- the values of an environment stand in a file
  abbrev pub Holds : Environment → File → Type 0
  Holds e file = (t : ℕ) (v : Value) → e t ≡ Some v → file (place_of d.places t) ≡ Some v

  pub record TakesAll (r : Passed) (m1 : Watched) : Type 0 where
    pub file : File
    pub holds : Holds r.environment file
    pub amid : IsAmid s (begun f number file) r.memory stack l sp m1

  abbrev IsParameter : (temporary : ℕ) → Type 0
  IsParameter t = Contains (function_at s.unit f).parameters (Plain t)

  -- only parameters have values
  abbrev pub OfParameters : Environment → Type 0
  OfParameters e = (t : ℕ) (v : Value) → e t ≡ Some v → IsParameter t

  of_parameters_with : (e : Environment) (x : ℕ) (v : Value) → IsParameter x → OfParameters e → OfParameters (with_value e x v)
  of_parameters_with e x v c h t u q = by (t == x) refl q
    where
      by : (b : Bool) → (t == x) ≡ b → (if b then Some v else e t) ≡ Some u → IsParameter t
      by true i r = let same : x ≡ t = grind (arith, nat_tests, i) in subst IsParameter same c
      by false i r = h t u r

  holds_with : (e : Environment) (file : File) (x : ℕ) (v : Value) → IsParameter x → OfParameters e → Holds e file → Holds (with_value e x v) (with_place file (place_of d.places x) (Some v))
  holds_with e file x v c of_parameters h t u q = ⊎_elim here there (cases_eq t x)
    where
      here : t ≡ x → with_place file (place_of d.places x) (Some v) (place_of d.places t) ≡ Some u
      here i =
          let test : (t == x) ≡ true = grind (arith, nat_tests, i) in
          let value : Some v ≡ Some u = ap (λ b. if b then Some v else e t) (sym test) ∙ q in
          let same : same_place (place_of d.places t) (place_of d.places x) ≡ true = ap (λ (n : ℕ). same_place (place_of d.places n) (place_of d.places x)) i ∙ place_same (place_of d.places x) in
          ap (λ b. if b then Some v else file (place_of d.places t)) same ∙ value

      there : (t ≡ x → ⊥) → with_place file (place_of d.places x) (Some v) (place_of d.places t) ≡ Some u
      there n =
          let test : (t == x) ≡ false = grind (arith, nat_tests, n) in
          let value : e t ≡ Some u = ap (λ b. if b then Some v else e t) (sym test) ∙ q in
          let apart : same_place (place_of d.places t) (place_of d.places x) ≡ false =
          ⊎_elim (λ i. absurd (n (parameters_apart s f known t x (of_parameters t u value) c i))) (λ i. i) (place_cases (place_of d.places t) (place_of d.places x)) in
          ap (λ b. if b then Some v else file (place_of d.places t)) apart ∙ h t u value

  -- x2 as it was at the call: behind the frame lies the caller's
  abbrev up : ℕ
  up = sp + cost s f

  -- the arguments of parameters from a number on
  abbrev Arguments : Memory → (registers flat : ℕ → ℕ) → (i : ℕ) → List Value → Type 0
  Arguments w registers flat i vs = (j : ℕ) (v : Value) → slice_get vs j ≡ Some v → StandsFor w l.address_of v (argument_in registers flat up (i + j))

  -- the registers of arguments are as they were, while there are arguments in them, and so are the bytes behind the frame
  record SameArguments (m : Watched) (i : ℕ) (m1 : Watched) : Type 0 where
    registers : i < 8 → (q : ℕ) → 10 ≤ q → q < 18 → m1.now.registers q ≡ m.now.registers q
    behind : (at : ℕ) → up ≤ at → m1.now.memory at ≡ m.now.memory at

  shifted : (v : Value) (vs : List Value) (w later : Memory) (m m1 : Watched) (i : ℕ) → SameArguments m i m1 → ((u : Value) (x : ℕ) → StandsFor w l.address_of u x → StandsFor later l.address_of u x) → Arguments w m.now.registers m.now.memory i (v ∷ vs) → Arguments later m1.now.registers m1.now.memory (i + 1) vs
  shifted v vs w later m m1 i same kept h j u e =
      let at : i + suc j ≡ i + 1 + j = omega arith in
      let there : StandsFor w l.address_of u (argument_in m.now.registers m.now.memory up (i + 1 + j)) = subst (λ (n : ℕ). StandsFor w l.address_of u (argument_in m.now.registers m.now.memory up n)) at (h (suc j) u e) in
      let is : argument_in m1.now.registers m1.now.memory up (i + 1 + j) ≡ argument_in m.now.registers m.now.memory up (i + 1 + j) =
      argument_same m.now.registers m1.now.registers m.now.memory m1.now.memory up (i + 1 + j) (λ lt. same.registers (omega (arith, lt)) (10 + (i + 1 + j)) (omega arith) (omega (arith, lt))) same.behind in
      subst (λ (x : ℕ). StandsFor later l.address_of u x) (sym is) (kept u (argument_in m.now.registers m.now.memory up (i + 1 + j)) there)

  first_argument : (v : Value) (vs : List Value) (w : Memory) (registers flat : ℕ → ℕ) (i : ℕ) → Arguments w registers flat i (v ∷ vs) → StandsFor w l.address_of v (argument_in registers flat up i)
  first_argument v vs w registers flat i h = let z : i + 0 ≡ i = omega arith in subst (λ (n : ℕ). StandsFor w l.address_of v (argument_in registers flat up n)) z (h 0 v refl)

  -- a parameter is in its place
  record IsTaken (m : Watched) (i : ℕ) (file : File) (w : Memory) (m1 : Watched) : Type 0 where
    amid : IsAmid s (begun f number file) w stack l sp m1
    same : SameArguments m i m1

  cost_aligned : cost s f % 16 ≡ 0
  cost_aligned = (is_cost (frame_words d.function d.places) (total d.function.blocks)).multiple

  -- the word in which the stack passes an argument
  module _ (m : Watched) (i : ℕ) (v : Value) (file : File) (w : Memory) (h : IsAmid s (begun f number file) w stack l sp m) (past : 8 ≤ i) (top : up + 4 * stack_arguments (i + 1) ≤ stack_top) (stands : StandsFor w l.address_of v (number_at 4 m.now.memory (up + argument_at (stack_arguments i)))) where
    abbrev at : ℕ
    at = cost s f + argument_at (stack_arguments i)

    word_gets : (rd : ℕ) → IsFree rd → Does s m (load_from Lw rd at) (Gets s m rd (number_at 4 m.now.memory (up + argument_at (stack_arguments i))))
    word_gets rd free =
        let x = h.x2 in
        let al = h.related.in_room.aligned in
        let cost_al = cost_aligned in
        let above = h.related.in_room.above in
        let same : m.now.registers 2 + at ≡ up + argument_at (stack_arguments i) = omega (arith, x) in
        does_is s m _ _ _ (load_behind_does s m Lw rd at free (omega (arith, x, al, cost_al)) (record { above = omega (arith, above, x); below = omega (arith, x, top, past) })) (λ m1 x2 g.
        gets_is s m m1 rd _ _ (sym (word_at m.now.memory (m.now.registers 2 + at)) ∙ ap (λ (n : ℕ). number_at 4 m.now.memory n) same) g)

    word_makes : (rd : ℕ) → IsFree rd → Does s m (load_from Lw rd at) (MakesValue s (begun f number file) w stack l sp m rd v)
    word_makes rd free = does_with s m _ _ (λ bytes. does_is s m _ _ _ (word_gets rd free) (λ m1 x2 g. record {
      word = number_at 4 m.now.memory (up + argument_at (stack_arguments i));
      makes = record { got = g.got; others = λ q e n. g.others q n; bytes = g.bytes_same };
      stands = stands;
      small = number_small m.now.memory (up + argument_at (stack_arguments i)) (λ j lt. bytes (up + argument_at (stack_arguments i) + j));
    }))

  -- ---- a parameter into a temporary's place

  abbrev TakesPlain : (m : Watched) (i x : ℕ) (v : Value) (file : File) (w : Memory) → List Instr → Type 0
  TakesPlain m i x v file w code = Does s m code (IsTaken m i (with_place file (place_of d.places x) (Some v)) w)

  plain_does : (m : Watched) (i x : ℕ) (v : Value) (file : File) (w : Memory) → IsAmid s (begun f number file) w stack l sp m → HasPlace d (place_of d.places x) → up + 4 * stack_arguments (i + 1) ≤ stack_top → StandsFor w l.address_of v (argument_in m.now.registers m.now.memory up i) → TakesPlain m i x v file w (take_parameter d i (Plain x))
  plain_does m i x v file w h has top stands = does_either s m (nat_lt i 8) _ _ _ from_register from_stack
    where
      from_register : nat_lt i 8 ≡ true → TakesPlain m i x v file w (put d (10 + i) x)
      from_register t =
          let lt : i < 8 = grind (arith, nat_tests, t) in
          let scratch = argument_scratch (10 + i) (omega arith) (omega (arith, lt)) in
          let here : StandsFor w l.address_of v (m.now.registers (10 + i)) = subst (λ (n : ℕ). StandsFor w l.address_of v n) (in_register m.now.registers m.now.memory up i t) stands in
          does_is s m _ _ _ (put_does s (begun f number file) w stack l sp m (10 + i) (m.now.registers (10 + i)) (place_of d.places x) v h has (λ z. absurd (omega (arith, z))) (reads_free s m.now (10 + i) scratch.free.0) here) (λ m1 x2 k.
          record { amid = k.amid; same = record { registers = λ less q lo hi. k.others q (argument_scratch q lo hi).steadyless; behind = λ y le. k.behind y le } })

      from_stack : nat_lt i 8 ≡ false → TakesPlain m i x v file w (load_from Lw (result_register d x) (cost s f + argument_at (stack_arguments i)) ++ result_code d x)
      from_stack t =
          let past : 8 ≤ i = grind (arith, nat_tests, t) in
          let there : StandsFor w l.address_of v (number_at 4 m.now.memory (up + argument_at (stack_arguments i))) = subst (λ (n : ℕ). StandsFor w l.address_of v n) (on_stack m.now.registers m.now.memory up i t) stands in
          does_is s m _ _ _ (gives_behind s (begun f number file) w stack l sp m x v (λ rd. load_from Lw rd (cost s f + argument_at (stack_arguments i))) h has (λ rd target. word_makes m i v file w h past top there rd target.free)) (λ m1 x2 k.
          record { amid = k.amid; same = record { registers = λ less. absurd (omega (arith, less, past)); behind = λ y le. k.behind y le } })

  -- ---- a parameter into its block

  -- each block of the call has its size
  abbrev HasSizes : Memory → Type 0
  HasSizes w = (i : ℕ) → i < length (function_at s.unit f).blocks → (block_at w (number + i)).size ≡ slice_index_or (function_at s.unit f).blocks i 0

  block_does : (m : Watched) (r i : ℕ) (t : Scalar) (v : Value) (file : File) (w later : Memory) → IsAmid s (begun f number file) w stack l sp m → i < length (function_at s.unit f).blocks → HasSizes w → 10 ≤ r → r < 18 → memory.store t w (into (number + i) 0) v ≡ Some later → StandsFor w l.address_of v (m.now.registers r) → Does s m (store_to (store_kind t) r (local_offset d i)) (λ m1. IsAmid s (begun f number file) later stack l sp m1 × (((q : ℕ) → (q ≡ 1 → ⊥) → m1.now.registers q ≡ m.now.registers q) × ((y : ℕ) → up ≤ y → m1.now.memory y ≡ m.now.memory y)))
  block_does m r i t v file w later h within sizes lo hi stores stands =
      let st = stored t w (into (number + i) 0) v later stores in
      let wrote = st.wrote in
      let block_is : number + i ≡ wrote.at.block = ap block_in wrote.is.is in
      let offset_is : 0 ≡ wrote.at.offset = ap offset_in wrote.is.is in
      let at = l.address_of wrote.at.block + wrote.at.offset in
      let placed = h.related.frame.placed i within in
      let same_block = ap l.address_of block_is in
      let address : sp + local_offset d i ≡ at = omega (arith, placed, same_block, offset_is) in
      let x = h.x2 in
      let address_now : m.now.registers 2 + local_offset d i ≡ at = ap (λ (n : ℕ). n + local_offset d i) x ∙ address in
      let wide = store_wide t in
      let aligned : (m.now.registers 2 + local_offset d i) % store_width (store_kind t) ≡ 0 = subst (λ (n : ℕ). (m.now.registers 2 + local_offset d i) % n ≡ 0) (sym wide) (subst (λ (n : ℕ). n % width t ≡ 0) (sym address_now) (access_aligned t (l.address_of wrote.at.block) wrote.at.offset (h.related.blocks.lies.aligned wrote.at.block wrote.is.live) wrote.is.aligned)) in
      let reads : register m.now r ≡ m.now.registers r = reads_free s m.now r (argument_scratch r lo hi).free.0 in
      let word = m.now.registers r in
      let flat = machine.stored (store_kind t) m.now.memory at word in
      let inside = in_room m wrote.at.block wrote.at.offset (width t) file w h wrote.is.live wrote.is.fits (width_some t) (local_offset d i) address in
      let inside_wide : IsInFrame s m (local_offset d i) (store_width (store_kind t)) = subst (λ (n : ℕ). IsInFrame s m (local_offset d i) n) (sym wide) inside in
      -- the block ends in the frame
      let fits : wrote.at.offset + width t ≤ (block_at w wrote.at.block).size = wrote.is.fits in
      let size : (block_at w wrote.at.block).size ≡ slice_index_or d.function.blocks i 0 = ap (λ (b : ℕ). (block_at w b).size) (sym block_is) ∙ sizes i within in
      let block_end = offset_inside d.function.blocks i within in
      let frame_end = placed_inside d in
      let far : at + width t ≤ up = omega (arith, address, offset_is, fits, size, block_end, frame_end) in
      does_is s m _ _ _ (store_to_does s m (store_kind t) r (local_offset d i) (λ e. absurd (omega (arith, e, lo))) aligned inside_wide) (λ m1 x2 g.
      let as_word : machine.stored (store_kind t) m.now.memory (m.now.registers 2 + local_offset d i) (register m.now r) ≡ flat = ap (λ (n : ℕ). machine.stored (store_kind t) m.now.memory n (register m.now r)) address_now ∙ ap (λ (n : ℕ). machine.stored (store_kind t) m.now.memory at n) reads in
      let own : SameOwn s.room sp flat m1.now.memory = subst (λ (n : ℕ). SameOwn s.room n flat m1.now.memory) x (subst (λ (k : ℕ → ℕ). SameOwn s.room (m.now.registers 2) k m1.now.memory) as_word g.bytes_are) in (
        written_amid s (begun f number file) w stack l sp m m1 (into (number + i) 0) (width t) (width t) st.new later flat h wrote st.are.long x2 (stores_hold s (begun f number file) w stack l sp m m1 (local_offset d i) _ (local_near s (begun f number file) w stack l sp i within) g) own
            (λ y o out. stored_other (store_kind t) m.now.memory at word y (subst (λ (n : ℕ). (y < at) ⊎ (at + n ≤ y)) (sym wide) out))
            (store_holds t w l.address_of v st.new m.now.memory at word st.cells stands),
        (
          g.others,
          λ y le. own.same y (inl (omega (arith, le))) ∙ stored_other (store_kind t) m.now.memory at word y (subst (λ (n : ℕ). (y < at) ⊎ (at + n ≤ y)) (sym wide) (inr (omega (arith, far, le)))),
        ),
      ))
    where
      in_room : (m : Watched) (block offset size : ℕ) (file : File) (w : Memory) → IsAmid s (begun f number file) w stack l sp m → IsLive w block → offset + size ≤ (block_at w block).size → 0 < size → (at : ℕ) → sp + at ≡ l.address_of block + offset → IsInFrame s m at size
      in_room m block offset size file w h live fits some at same = by (h.related.blocks.in_reach block live)
        where
          by : IsInReach s.image s.room sp (block_at w block) (l.address_of block) → IsInFrame s m at size
          by (inl k) = let lo = h.related.in_room.above in let below = k.below in let e = h.x2 in record { above = omega (arith, lo, e); below = omega (arith, below, fits, same, e) }
          by (inr k) = let lo = h.related.in_room.above in let below = k.below in let under = data_below s in absurd (omega (arith, lo, below, under, fits, same, some))

  abbrev TakesPlaced : (m : Watched) (i : ℕ) (file : File) (later : Memory) → List Instr → Type 0
  TakesPlaced m i file later code = Does s m code (IsTaken m i file later)

  placed_does : (m : Watched) (i b : ℕ) (t : Scalar) (v : Value) (file : File) (w later : Memory) → IsAmid s (begun f number file) w stack l sp m → b < length (function_at s.unit f).blocks → HasSizes w → up + 4 * stack_arguments (i + 1) ≤ stack_top → memory.store t w (into (number + b) 0) v ≡ Some later → StandsFor w l.address_of v (argument_in m.now.registers m.now.memory up i) → TakesPlaced m i file later (take_parameter d i (Placed b t))
  placed_does m i b t v file w later h within sizes top stores stands = does_either s m (nat_lt i 8) _ _ _ from_register from_stack
    where
      from_register : nat_lt i 8 ≡ true → TakesPlaced m i file later (store_to (store_kind t) (10 + i) (local_offset d b))
      from_register e =
          let lt : i < 8 = grind (arith, nat_tests, e) in
          let here : StandsFor w l.address_of v (m.now.registers (10 + i)) = subst (λ (n : ℕ). StandsFor w l.address_of v n) (in_register m.now.registers m.now.memory up i e) stands in
          does_is s m _ _ _ (block_does m (10 + i) b t v file w later h within sizes (omega arith) (omega (arith, lt)) stores here) (λ m1 x2 k.
          record { amid = k.0; same = record { registers = λ less q lo hi. k.1.0 q (λ z. absurd (omega (arith, z, lo))); behind = k.1.1 } })

      from_stack : nat_lt i 8 ≡ false → TakesPlaced m i file later (load_from Lw 10 (cost s f + argument_at (stack_arguments i)) ++ store_to (store_kind t) 10 (local_offset d b))
      from_stack e =
          let past : 8 ≤ i = grind (arith, nat_tests, e) in
          let there : StandsFor w l.address_of v (number_at 4 m.now.memory (up + argument_at (stack_arguments i))) = subst (λ (n : ℕ). StandsFor w l.address_of v n) (on_stack m.now.registers m.now.memory up i e) stands in
          let a0 = argument_scratch 10 (omega arith) (omega arith) in
          does_then s m (load_from Lw 10 (cost s f + argument_at (stack_arguments i))) (store_to (store_kind t) 10 (local_offset d b)) _ _ (word_gets m i v file w h past top there 10 a0.free) (λ m1 x2 g.
          let h1 = amid_gets s (begun f number file) w stack l sp m m1 10 _ a0 h x2 g in
          let here : StandsFor w l.address_of v (m1.now.registers 10) = subst (λ (n : ℕ). StandsFor w l.address_of v n) (sym g.got) there in
          let x = h.x2 in
          does_is s m1 _ _ _ (block_does m1 10 b t v file w later h1 within sizes (omega arith) (omega arith) stores here) (λ m2 y2 k.
          record { amid = k.0; same = record { registers = λ less. absurd (omega (arith, less, past)); behind = λ y le. k.1.1 y le ∙ g.bytes_same.same y (inl (omega (arith, le, x))) } }))

  -- ---- all parameters

  all_left : (x y : Bool) → x && y ≡ true → x ≡ true
  all_left true y e = refl
  all_left false y e = cc

  all_right : (x y : Bool) → x && y ≡ true → y ≡ true
  all_right true y e = e
  all_right false y e = cc

  pub parameters_do : (ps : List Parameter) (vs : List Value) (m : Watched) (i : ℕ) (e : Environment) (w : Memory) (file : File) (result : Passed) → IsAmid s (begun f number file) w stack l sp m → list_all (parameter_fits (function_at s.unit f)) ps ≡ true → passes ps vs number e w ≡ Some result → length vs ≡ length ps → up + 4 * stack_arguments (i + length ps) ≤ stack_top → HasSizes w → Arguments w m.now.registers m.now.memory i vs → ((q : Parameter) → Contains ps q → Contains (function_at s.unit f).parameters q) → OfParameters e → Holds e file → Does s m (take_parameters d i ps) (TakesAll result)
  parameters_do [] [] m i e w file result h fits p len top sizes arguments among of_parameters holds =
      let same : record { environment = e; memory = w } ≡ result = some_same _ result p in
      does_none s m _ (subst (λ (z : Passed). TakesAll z m) same (record { file = file; holds = holds; amid = h }))
  parameters_do [] (v ∷ vs) m i e w file result h fits p len top sizes arguments among of_parameters holds = cc
  parameters_do (q ∷ ps) [] m i e w file result h fits p len top sizes arguments among of_parameters holds = absurd (omega (arith, len))
  parameters_do (Plain x ∷ ps) (v ∷ vs) m i e w file result h fits p len top sizes arguments among of_parameters holds =
      let fits_x : parameter_fits (function_at s.unit f) (Plain x) ≡ true = all_left _ _ fits in
      let small : x < (function_at s.unit f).temporaries = grind (arith, nat_tests, fits_x) in
      does_then s m (take_parameter d i (Plain x)) (take_parameters d (i + 1) ps) _ _ (plain_does m i x v file w h (has_place s f known x small) (omega (arith, top)) (first_argument v vs w m.now.registers m.now.memory i arguments)) (λ m1 x2 k.
      parameters_do ps vs m1 (i + 1) (with_value e x v) w (with_place file (place_of d.places x) (Some v)) result k.amid (all_right _ _ fits) p (omega (arith, len)) (omega (arith, top)) sizes
      (shifted v vs w w m m1 i k.same (λ u y z. z) arguments)
      (λ q c. among q (contains_later (Plain x) q ps c)) (of_parameters_with e x v (among (Plain x) (contains_first (Plain x) ps)) of_parameters)
      (holds_with e file x v (among (Plain x) (contains_first (Plain x) ps)) of_parameters holds))
  parameters_do (Placed b t ∷ ps) (v ∷ vs) m i e w file result h fits p len top sizes arguments among of_parameters holds =
      let fits_b : parameter_fits (function_at s.unit f) (Placed b t) ≡ true = all_left _ _ fits in
      let small : b < length (function_at s.unit f).blocks = grind (arith, nat_tests, fits_b) in
      let k = followed (memory.store t w (into (number + b) 0) v) (λ later. passes ps vs number e later) result p in
      let after = memory_goes_on.store t w k.value (into (number + b) 0) v k.first in
      let made = h.related.frame.made in
      does_then s m (take_parameter d i (Placed b t)) (take_parameters d (i + 1) ps) _ _ (placed_does m i b t v file w k.value h small sizes (omega (arith, top)) k.first (first_argument v vs w m.now.registers m.now.memory i arguments)) (λ m1 x2 g.
      parameters_do ps vs m1 (i + 1) e k.value file result g.amid (all_right _ _ fits) k.then (omega (arith, len)) (omega (arith, top))
      (λ j lt. after.size (number + j) (omega (arith, made, lt)) ∙ sizes j lt)
      (shifted v vs w k.value m m1 i g.same
      (λ u y z. value_kept w k.value l.address_of l.address_of u y (record { after = after; same = λ b h. refl }) z) arguments)
      (λ q c. among q (contains_later (Placed b t) q ps c)) of_parameters holds)

-- a value that was placed is one of the environment's
pub record IsPlaced (at : ℕ → Place) (e : Environment) (p : Place) (v : Value) : Type 0 where
  pub temporary : ℕ
  pub place_is : p ≡ at temporary
  pub value_is : e temporary ≡ Some v

pub placed_is : (at : ℕ → Place) (e : Environment) (ts : List ℕ) (p : Place) (v : Value) → placed_values at e ts p ≡ Some v → IsPlaced at e p v
placed_is at e [] p v h = cc
placed_is at e (t ∷ ts) p v h = ⊎_elim here (λ n. there n (placed_is at e ts p v)) (place_cases p (at t))
  where
    here : p ≡ at t → IsPlaced at e p v
    here i =
        let same : same_place p (at t) ≡ true = ap (λ (q : Place). same_place q (at t)) i ∙ place_same (at t) in
        record { temporary = t; place_is = i; value_is = ap (λ b. if b then e t else placed_values at e ts p) (sym same) ∙ h }

    there : same_place p (at t) ≡ false → (placed_values at e ts p ≡ Some v → IsPlaced at e p v) → IsPlaced at e p v
    there n more = more (ap (λ b. if b then e t else placed_values at e ts p) (sym n) ∙ h)
