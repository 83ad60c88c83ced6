-- Jumps and branches.
use Rattle.std.proofs.Common.{◌≡◌, inl, inr, ℕ, ◌+◌, ◌*◌, ◌%◌, ◌^◌, ◌==◌, ◌<◌, ◌≤◌, Bool, true, false, not, List, [], ◌∷◌, ◌++◌, length, Some, refl, sym, ap, ◌∙◌, subst, arith, append-nil}
use Rattle.std.specs.Prelude.{nat_lt, ◌&&◌, if◌then◌else◌}
use Rattle.std.proofs.lemmas.Bool.Decides.{nat_tests}
use Rattle.qs_base.specs.Words as words
use Rattle.qs_memory.specs.Values.{Value, integer, address}
use Rattle.qs_memory.specs.Integers.{compares}
use Rattle.qs_memory.specs.Memory.{Memory}
use Rattle.qs_memory.specs.Pointers.{compares_pointers, truth}
use Rattle.qs_memory.specs.Operations.{on_integers, on_pointers}
use Rattle.qs_memory.specs.declared.operation.Signedness.{Signedness}
use Rattle.qs_memory.specs.declared.operation.Signedness.TheVariants.{Signed, Unsigned}
use Rattle.qs_memory.specs.declared.operation.Comparison.{Comparison}
use Rattle.qs_memory.specs.declared.operation.Comparison.TheVariants as comparisons
use Rattle.qs_memory.specs.Partial.{◌>>=◌}
use Rattle.qs_memory.proofs.Options.{some_same, followed}
use Rattle.qs_calls.specs.World.{World}
use Rattle.qs_isa.specs.declared.instruction.Instr.{Instr}
use Rattle.qs_isa.specs.declared.instruction.Instr.TheVariants as instructions
use Rattle.qs_isa.specs.declared.instruction.BranchKind.{BranchKind}
use Rattle.qs_isa.specs.declared.instruction.BranchKind.TheVariants.{Beq, Bne, Blt, Bge, Bltu, Bgeu}
use Rattle.qs_asm.specs.declared.item.Item.{Item}
use Rattle.qs_asm.specs.declared.item.Item.TheVariants as items
use Rattle.qs_asm.specs.Items.{Lays, plain, inverse}
use Rattle.qs_machine.specs.State.{State, register}
use Rattle.qs_machine.specs.Step as machine
use Rattle.qs_machine.specs.Step.{Next, Traps, act, is_taken, write_and_go}
use Rattle.qs_machine.specs.declared.answers.Cause.TheVariants.{JumpMisaligned}
use Rattle.qs_tac.specs.declared.operands.Operand.{Operand}
use Rattle.qs_tac.specs.declared.operands.Condition.{Condition}
use Rattle.qs_tac.specs.declared.operands.Condition.TheVariants.{NotZero, Zero, Compare, ComparePointers}
use Rattle.qs_tac.specs.Holders.{File}
use Rattle.qs_tac.specs.Fits.{condition_fits, operand_fits}
use Rattle.qs_tac.specs.Values.{Activation, operand, holds}
use Rattle.qs_tac.specs.Steps.{Waiting, going_to}
use Rattle.qs_emit_selection.specs.Operands.{Context, operand_code, operand_register}
use Rattle.qs_emit_selection.specs.Operations.{both}
use Rattle.qs_emit_selection.specs.Emission.{first_label, compare_branch, branch_items}
use Rattle.qs_emit.specs.Machine.{Watched, instruction_at}
use Rattle.qs_emit.specs.Lies.{StandsFor, SameOwn}
use Rattle.qs_emit.specs.Surroundings.{Lay, ground}
use Rattle.qs_emit.specs.Relation.{Setup, context, function_at, place, StandsAt, IsRelated}
use Rattle.qs_emit.proofs.Steps.{Takes, takes_on, takes_less, takes_none, HasAt, Straight, straight, Does, does_is, IsSteady, steady_on}
use Rattle.qs_emit.proofs.FrameLaws.{related_own, related_to}
use Rattle.qs_emit.proofs.Values.{truth_word, pointers_compared}
use Rattle.qs_emit.proofs.Operands.{holder, argument_scratch, IsAmid, amid_on, operand_does}
use Rattle.qs_emit.proofs.OperationLaws.{both_does}
use Rattle.qs_emit.proofs.LoopSteps.{GoesTo, gone, goes, takes_branch, passes_branch}
use Rattle.qs_emit.proofs.CodePlaces.{fits_between}
use Rattle.qs_emit.proofs.FollowedSteps.{Onward, steady_at, amid_at}

-- the distance between two places, and back
pub distance_back : (from to : ℕ) → from < 2 ^ 32 → to < 2 ^ 32 → words.add from (words.sub to from) ≡ to
distance_back from to h k = omega (arith, h, k)

-- the other branch is taken where this one isn't
inverse_taken : (kind : BranchKind) (x y : ℕ) → is_taken (inverse kind) x y ≡ not (is_taken kind x y)
inverse_taken Beq x y = refl
inverse_taken Bne x y = sym (twice (x == y))
  where
    twice : (b : Bool) → not (not b) ≡ b
    twice true = refl
    twice false = refl
inverse_taken Blt x y = refl
inverse_taken Bge x y = sym (twice _)
  where
    twice : (b : Bool) → not (not b) ≡ b
    twice true = refl
    twice false = refl
inverse_taken Bltu x y = refl
inverse_taken Bgeu x y = sym (twice (nat_lt x y))
  where
    twice : (b : Bool) → not (not b) ≡ b
    twice true = refl
    twice false = refl

-- the branch of a comparison
record IsBranch (op : Comparison) (sign : Signedness) (left right : ℕ) : Type 0 where
  kind : BranchKind
  first : ℕ
  second : ℕ
  is : (label : ℕ) → compare_branch op sign left right label ≡ items.Branch kind first second label
  taken : (state : State) → is_taken kind (register state first) (register state second) ≡ compares op sign (register state left) (register state right)

branch_is : (op : Comparison) (sign : Signedness) (left right : ℕ) → IsBranch op sign left right
branch_is comparisons.Less Signed left right = record { kind = Blt; first = left; second = right; is = λ label. refl; taken = λ state. refl }
branch_is comparisons.Less Unsigned left right = record { kind = Bltu; first = left; second = right; is = λ label. refl; taken = λ state. refl }
branch_is comparisons.LessOrEqual Signed left right = record { kind = Bge; first = right; second = left; is = λ label. refl; taken = λ state. refl }
branch_is comparisons.LessOrEqual Unsigned left right = record { kind = Bgeu; first = right; second = left; is = λ label. refl; taken = λ state. refl }
branch_is comparisons.Greater Signed left right = record { kind = Blt; first = right; second = left; is = λ label. refl; taken = λ state. refl }
branch_is comparisons.Greater Unsigned left right = record { kind = Bltu; first = right; second = left; is = λ label. refl; taken = λ state. refl }
branch_is comparisons.GreaterOrEqual Signed left right = record { kind = Bge; first = left; second = right; is = λ label. refl; taken = λ state. refl }
branch_is comparisons.GreaterOrEqual Unsigned left right = record { kind = Bgeu; first = left; second = right; is = λ label. refl; taken = λ state. refl }
branch_is comparisons.Equal sign left right = record { kind = Beq; first = left; second = right; is = λ label. refl; taken = λ state. refl }
branch_is comparisons.NotEqual sign left right = record { kind = Bne; first = left; second = right; is = λ label. refl; taken = λ state. refl }

module _ (s : Setup) where
  jump_acts : (state : State) (offset to : ℕ) → words.add state.pc offset ≡ to → to % 4 ≡ 0 → act s.image s.room.size state (instructions.Jal 0 offset) ≡ Next (record state { pc = to })
  jump_acts state offset to e al =
      let aligned : (to % 4 == 0) ≡ true = grind (arith, nat_tests, al) in
      ap (λ (n : ℕ). machine.jump s.room.size state 0 n) e ∙ ap (λ b. if b then write_and_go s.room.size state 0 (state.pc + 4) to else Traps JumpMisaligned) aligned

  pub jumps : (m : Watched) (from to : ℕ) → m.now.pc ≡ from → instruction_at s.image from ≡ Some (instructions.Jal 0 (words.sub to from)) → to % 4 ≡ 0 → from < 2 ^ 32 → to < 2 ^ 32 → IsSteady s.room m → GoesTo s m to (gone s m to)
  jumps m from to pc has al lo hi steady =
      goes s m (instructions.Jal 0 (words.sub to from)) to (ap (λ (n : ℕ). instruction_at s.image n) pc ∙ has) (jump_acts m.now (words.sub to from) to (ap (λ (n : ℕ). words.add n (words.sub to from)) pc ∙ distance_back from to lo hi) al) refl steady

  -- behind some steps and a jump the activation goes on elsewhere
  arrives : (a : Activation File) (w : World) (stack : List (Waiting File)) (l : Lay) (m m1 m2 : Watched) (k to : ℕ) → StandsAt s a w stack l m → (n : ℕ) → Takes s.image s.room n m m1 → m1.now.registers 2 ≡ m.now.registers 2 → m1.now.input ≡ m.now.input → m1.now.output ≡ m.now.output → m1.low ≡ m.low → IsAmid s a w.memory stack l (m.now.registers 2) m1 → GoesTo s m1 to m2 → to ≡ place s a.function k → Onward s (going_to k a) w stack l m
  arrives a w stack l m m1 m2 k to h n takes x2 input output low amid g same =
      let x : m2.now.registers 2 ≡ m.now.registers 2 = ap (λ (r : ℕ → ℕ). r 2) g.registers ∙ x2 in
      let own = subst (λ (p : ℕ). SameOwn s.room p m1.now.memory m2.now.memory) x2 g.own in
      let related = related_own s a w.memory stack l m1.now.registers (m.now.registers 2) m1.now.memory amid.related m2.now.registers m2.now.memory (record { same = λ q b. ap (λ (r : ℕ → ℕ). r q) g.registers }) own in
      let last = g.low in
      let least = h.low in
      record {
        to = m2;
        reaches = record {
          takes = takes_less s.image s.room (n + 1) 1 m m2 (omega arith) (takes_on s.image s.room n 1 m m1 m2 takes g.takes);
          output = ◌∙◌ {a = m2.now.output} g.output output ∙ sym (append-nil m.now.output);
          moved = (x, ◌∙◌ {a = m2.low} g.low low);
        };
        stands = record {
          pc = g.pc ∙ same;
          related = subst (λ (p : ℕ). IsRelated s (going_to k a) w.memory stack l m2.now.registers p m2.now.memory) (sym x) (related_to s a w.memory stack l m2.now.registers (m.now.registers 2) m2.now.memory related k);
          input = ◌∙◌ {a = m2.now.input} g.input input ∙ h.input;
          input_bytes = h.input_bytes;
          bytes = g.steady.bytes;
          low = omega (arith, last, low, least, x);
        };
      }

  pub jump_follows : (a : Activation File) (w : World) (stack : List (Waiting File)) (l : Lay) (m : Watched) (k : ℕ) → StandsAt s a w stack l m → place s a.function a.at ≤ s.code_end → place s a.function k ≤ s.code_end → place s a.function k % 4 ≡ 0 → instruction_at s.image (place s a.function a.at) ≡ Some (instructions.Jal 0 (words.sub (place s a.function k) (place s a.function a.at))) → Onward s (going_to k a) w stack l m
  jump_follows a w stack l m k h low_from low_to al has =
      let short = s.short in
      let g = jumps m (place s a.function a.at) (place s a.function k) h.pc has al (omega (arith, low_from, short)) (omega (arith, low_to, short)) (steady_at s a w stack l m h) in
      arrives a w stack l m m _ k (place s a.function k) h 0 (takes_none s.image s.room m) refl refl refl refl (amid_at s a w stack l m h) g refl

  -- ---- branches

  -- the operands of a branch are in registers, and whether it is taken
  record IsTested (a : Activation File) (w : Memory) (stack : List (Waiting File)) (l : Lay) (sp : ℕ) (kind : BranchKind) (left right : ℕ) (taken_there : Bool) (m1 : Watched) : Type 0 where
    test : is_taken kind (register m1.now left) (register m1.now right) ≡ taken_there
    amid : IsAmid s a w stack l sp m1

  module _ (a : Activation File) (w : World) (stack : List (Waiting File)) (l : Lay) (m : Watched) (h : StandsAt s a w stack l m) (to : ℕ) (low_next : place s a.function (a.at + 1) ≤ s.code_end) (low_to : place s a.function to ≤ s.code_end) (al : place s a.function a.at % 4 ≡ 0) (al_to : place s a.function to % 4 ≡ 0) (al_next : place s a.function (a.at + 1) % 4 ≡ 0) where
    record Ready (kind : BranchKind) (left right : ℕ) (taken_there : Bool) (n p : ℕ) (m1 : Watched) : Type 0 where
      takes : Takes s.image s.room n m m1
      pc : m1.now.pc ≡ p
      x2 : m1.now.registers 2 ≡ m.now.registers 2
      input : m1.now.input ≡ m.now.input
      output : m1.now.output ≡ m.now.output
      low : m1.low ≡ m.low
      steady : IsSteady s.room m1
      tested : IsTested a w.memory stack l (m.now.registers 2) kind left right taken_there m1

    -- the branch as itself
    short_branch : (kind : BranchKind) (left right n p : ℕ) (m1 : Watched) (taken_there : Bool) → Ready kind left right taken_there n p m1 → p < 2 ^ 31 → instruction_at s.image p ≡ Some (instructions.Branch kind left right (words.sub (place s a.function to) p)) → p + 4 ≡ place s a.function (a.at + 1) → Onward s (going_to (if taken_there then to else (a.at + 1)) a) w stack l m
    short_branch kind left right n p m1 true r small has next =
        let limit = s.short in
        let target = ap (λ (x : ℕ). words.add x (words.sub (place s a.function to) p)) r.pc ∙ distance_back p (place s a.function to) (omega (arith, small)) (omega (arith, low_to, limit)) in
        let g = takes_branch s m1 kind left right (words.sub (place s a.function to) p) (place s a.function to) (ap (λ (x : ℕ). instruction_at s.image x) r.pc ∙ has) r.tested.test target al_to r.steady in
        arrives a w stack l m m1 _ to (place s a.function to) h n r.takes r.x2 r.input r.output r.low r.tested.amid g refl
    short_branch kind left right n p m1 false r small has next =
        let g = passes_branch s m1 kind left right (words.sub (place s a.function to) p) (ap (λ (x : ℕ). instruction_at s.image x) r.pc ∙ has) r.tested.test r.steady in
        arrives a w stack l m m1 _ (a.at + 1) (m1.now.pc + 4) h n r.takes r.x2 r.input r.output r.low r.tested.amid g (ap (λ (x : ℕ). x + 4) r.pc ∙ next)

    -- the other branch over a jump
    long_branch : (kind : BranchKind) (left right n p : ℕ) (m1 : Watched) (taken_there : Bool) → Ready kind left right taken_there n p m1 → p + 8 < 2 ^ 31 → instruction_at s.image p ≡ Some (instructions.Branch (inverse kind) left right 8) → instruction_at s.image (p + 4) ≡ Some (instructions.Jal 0 (words.sub (place s a.function to) (p + 4))) → p + 8 ≡ place s a.function (a.at + 1) → Onward s (going_to (if taken_there then to else (a.at + 1)) a) w stack l m
    long_branch kind left right n p m1 false r small has jump next =
        let test : is_taken (inverse kind) (register m1.now left) (register m1.now right) ≡ true = inverse_taken kind (register m1.now left) (register m1.now right) ∙ ap not r.tested.test in
        let pc = r.pc in
        let target : words.add m1.now.pc 8 ≡ p + 8 = omega (arith, pc, small) in
        let aligned : (p + 8) % 4 ≡ 0 = ap (λ (x : ℕ). x % 4) next ∙ al_next in
        let g = takes_branch s m1 (inverse kind) left right 8 (p + 8) (ap (λ (x : ℕ). instruction_at s.image x) r.pc ∙ has) test target aligned r.steady in
        arrives a w stack l m m1 _ (a.at + 1) (p + 8) h n r.takes r.x2 r.input r.output r.low r.tested.amid g next
    long_branch kind left right n p m1 true r small has jump next =
        let test : is_taken (inverse kind) (register m1.now left) (register m1.now right) ≡ false = inverse_taken kind (register m1.now left) (register m1.now right) ∙ ap not r.tested.test in
        let g = passes_branch s m1 (inverse kind) left right 8 (ap (λ (x : ℕ). instruction_at s.image x) r.pc ∙ has) test r.steady in
        second (gone s m1 (m1.now.pc + 4)) g
      where
        second : (m2 : Watched) → GoesTo s m1 (m1.now.pc + 4) m2 → Onward s (going_to to a) w stack l m
        second m2 g =
            let limit = s.short in
            let pc2 : m2.now.pc ≡ p + 4 = g.pc ∙ ap (λ (x : ℕ). x + 4) r.pc in
            let own = g.own in
            let amid : IsAmid s a w.memory stack l (m.now.registers 2) m2 = amid_on s a w.memory stack l (m.now.registers 2) m1 m2 r.tested.amid (ap (λ (q : ℕ → ℕ). q 2) g.registers) (record { same = λ q b. ap (λ (z : ℕ → ℕ). z q) g.registers }) g.own in
            let j = jumps m2 (p + 4) (place s a.function to) pc2 jump al_to (omega (arith, small)) (omega (arith, low_to, limit)) g.steady in
            arrives a w stack l m m2 _ to (place s a.function to) h (n + 1) (takes_on s.image s.room n 1 m m1 m2 r.takes g.takes)
            (ap (λ (q : ℕ → ℕ). q 2) g.registers ∙ r.x2) (◌∙◌ {a = m2.now.input} g.input r.input) (◌∙◌ {a = m2.now.output} g.output r.output) (◌∙◌ {a = m2.low} g.low r.low) amid j refl

    branch_runs : (code : List Instr) (kind : BranchKind) (left right : ℕ) (taken_there : Bool) → Lays (instruction_at s.image) s.label_at (place s a.function a.at) (plain code ++ items.Branch kind left right (first_label s.unit.functions a.function + 1 + to) ∷ []) (place s a.function (a.at + 1)) → Does s m code (IsTested a w.memory stack l (m.now.registers 2) kind left right taken_there) → Onward s (going_to (if taken_there then to else (a.at + 1)) a) w stack l m
    branch_runs code kind left right taken_there lays does = by (straight (instruction_at s.image) s.label_at (place s a.function a.at) code (items.Branch kind left right (first_label s.unit.functions a.function + 1 + to) ∷ []) (place s a.function (a.at + 1)) lays)
      where
        by : Straight (instruction_at s.image) s.label_at (place s a.function a.at) code (items.Branch kind left right (first_label s.unit.functions a.function + 1 + to) ∷ []) (place s a.function (a.at + 1)) → Onward s (going_to (if taken_there then to else (a.at + 1)) a) w stack l m
        by st = either st.rest_at
          where
            p : ℕ
            p = place s a.function a.at + 4 * length code

            ready : p ≤ place s a.function (a.at + 1) → (m1 : Watched) × Ready kind left right taken_there (length code) p m1
            ready le =
                let pc = h.pc in
                let steady = steady_at s a w stack l m h in
                let fits = fits_between s m.now.pc (place s a.function (a.at + 1)) (length code) (omega (arith, pc, al)) low_next (omega (arith, pc, le)) in
                let d = does.by (subst (λ (q : ℕ). HasAt (instruction_at s.image) q code) (sym h.pc) st.code_at) fits steady in
                (d.to, record { takes = d.takes; pc = d.pc ∙ ap (λ (x : ℕ). x + 4 * length code) h.pc; x2 = d.x2; input = d.input; output = d.output; low = d.low; steady = steady_on s m d.to d.x2 d.low d.bytes steady; tested = d.is })

            either : Lays (instruction_at s.image) s.label_at p (items.Branch kind left right (first_label s.unit.functions a.function + 1 + to) ∷ []) (place s a.function (a.at + 1)) → Onward s (going_to (if taken_there then to else (a.at + 1)) a) w stack l m
            either (inl k) =
                let next : p + 4 ≡ place s a.function (a.at + 1) = k.1 in
                let r = ready (omega (arith, next)) in
                let limit = s.short in
                short_branch kind left right (length code) p r.0 taken_there r.1 (omega (arith, next, low_next, limit)) k.0 next
            either (inr k) =
                let next : p + 8 ≡ place s a.function (a.at + 1) = k.1.1 in
                let r = ready (omega (arith, next)) in
                let limit = s.short in
                long_branch kind left right (length code) p r.0 taken_there r.1 (omega (arith, next, low_next, limit)) k.0 k.1.0 next

    -- ---- conditions

    abbrev c : Context
    c = context s a.function

    abbrev label : ℕ
    label = first_label s.unit.functions a.function + 1 + to

    abbrev Fits : Operand → Type 0
    Fits o = operand_fits s.unit (function_at s.unit a.function) o ≡ true

    abbrev amid : IsAmid s a w.memory stack l (m.now.registers 2) m
    amid = amid_at s a w stack l m h

    zero_does : (o : Operand) (v : Value) (kind : BranchKind) (taken_there : Bool) → ((x : ℕ) → StandsFor w.memory l.address_of v x → is_taken kind x 0 ≡ taken_there) → Fits o → operand (holder s) o a ≡ Some v → Does s m (operand_code c 10 o) (IsTested a w.memory stack l (m.now.registers 2) kind (operand_register c 10 o) 0 taken_there)
    zero_does o v kind taken_there test fits e = does_is s m _ _ _ (operand_does s a w.memory stack l (m.now.registers 2) m 10 o v (argument_scratch 10 (omega arith) (omega arith)) amid fits e) (λ m1 x2 k. record {
      test = ap (λ (x : ℕ). is_taken kind x 0) k.got ∙ test k.word k.stands;
      amid = k.amid;
    })

    truth_of : (v : Value) (x : ℕ) (t : Bool) → truth w.memory v ≡ Some t → StandsFor w.memory l.address_of v x → not (x == 0) ≡ t
    truth_of v x t e stands = truth_word s (ground w.memory l m.now.memory) (m.now.registers 2) h.related.blocks h.related.in_room.above v x t e stands

    compare_runs : (op : Comparison) (sign : Signedness) (o p : Operand) (v u : Value) (taken_there : Bool) → ((x y : ℕ) → StandsFor w.memory l.address_of v x → StandsFor w.memory l.address_of u y → compares op sign x y ≡ taken_there) → Fits o → Fits p → operand (holder s) o a ≡ Some v → operand (holder s) p a ≡ Some u → Lays (instruction_at s.image) s.label_at (place s a.function a.at) (plain (both c o p) ++ compare_branch op sign (operand_register c 10 o) (operand_register c 11 p) label ∷ []) (place s a.function (a.at + 1)) → Onward s (going_to (if taken_there then to else (a.at + 1)) a) w stack l m
    compare_runs op sign o p v u taken_there test fo fp eo ep lays =
        let b = branch_is op sign (operand_register c 10 o) (operand_register c 11 p) in
        branch_runs (both c o p) b.kind b.first b.second taken_there
        (subst (λ (i : Item). Lays (instruction_at s.image) s.label_at (place s a.function a.at) (plain (both c o p) ++ i ∷ []) (place s a.function (a.at + 1))) (b.is label) lays)
        (does_is s m _ _ _ (both_does s a w.memory stack l (m.now.registers 2) m o p v u amid (record { fits = fo; is = eo }) (record { fits = fp; is = ep })) (λ m1 x2 k. record {
          test = b.taken m1.now ∙ ap (λ (x : ℕ). compares op sign x (register m1.now (operand_register c 11 p))) k.got_x ∙ ap (λ (x : ℕ). compares op sign k.x x) k.got_y ∙ test k.x k.y k.stands_x k.stands_y;
          amid = k.amid;
        }))

    integers_tested : (op : Comparison) (sign : Signedness) (v u : Value) (taken_there : Bool) → on_integers (λ x y. Some (compares op sign x y)) v u ≡ Some taken_there → (x y : ℕ) → StandsFor w.memory l.address_of v x → StandsFor w.memory l.address_of u y → compares op sign x y ≡ taken_there
    integers_tested op sign (integer n) (integer k) taken_there e x y hx hy = ap (λ (z : ℕ). compares op sign z y) hx.0 ∙ ap (λ (z : ℕ). compares op sign n z) hy.0 ∙ some_same _ taken_there e
    integers_tested op sign (integer n) (address q) taken_there e x y hx hy = cc
    integers_tested op sign (address p) u taken_there e x y hx hy = cc

    pointers_tested : (op : Comparison) (v u : Value) (taken_there : Bool) → on_pointers (compares_pointers op w.memory) v u ≡ Some taken_there → (x y : ℕ) → StandsFor w.memory l.address_of v x → StandsFor w.memory l.address_of u y → compares op Unsigned x y ≡ taken_there
    pointers_tested op (address p) (address q) taken_there e x y hx hy = (pointers_compared s (ground w.memory l m.now.memory) (m.now.registers 2) h.related.blocks h.related.in_room.above op p q x y taken_there e hx hy).is
    pointers_tested op (address p) (integer k) taken_there e x y hx hy = cc
    pointers_tested op (integer n) u taken_there e x y hx hy = cc

    and_left : (x y : Bool) → x && y ≡ true → x ≡ true
    and_left true y e = refl
    and_left false y e = cc

    and_right : (x y : Bool) → x && y ≡ true → y ≡ true
    and_right true y e = e
    and_right false y e = cc

    pub branch_follows : (condition : Condition) (taken_there : Bool) → condition_fits s.unit (function_at s.unit a.function) condition ≡ true → holds (holder s) condition a w.memory ≡ Some taken_there → Lays (instruction_at s.image) s.label_at (place s a.function a.at) (branch_items c condition label) (place s a.function (a.at + 1)) → Onward s (going_to (if taken_there then to else (a.at + 1)) a) w stack l m
    branch_follows (NotZero o) taken_there fits e lays =
        let v = followed (operand (holder s) o a) (λ v. truth w.memory v) taken_there e in
        branch_runs (operand_code c 10 o) Bne (operand_register c 10 o) 0 taken_there lays (zero_does o v.value Bne taken_there (λ x stands. truth_of v.value x taken_there v.then stands) fits v.first)
    branch_follows (Zero o) taken_there fits e lays =
        let v = followed (operand (holder s) o a) (λ v. truth w.memory v >>= λ b. Some (not b)) taken_there e in
        let t = followed (truth w.memory v.value) (λ b. Some (not b)) taken_there v.then in
        branch_runs (operand_code c 10 o) Beq (operand_register c 10 o) 0 taken_there lays (zero_does o v.value Beq taken_there (λ x stands. sym (twice (x == 0)) ∙ ap not (truth_of v.value x t.value t.first stands) ∙ some_same (not t.value) taken_there t.then) fits v.first)
      where
        twice : (b : Bool) → not (not b) ≡ b
        twice true = refl
        twice false = refl
    branch_follows (Compare op sign o p) taken_there fits e lays =
        let v = followed (operand (holder s) o a) (λ v. operand (holder s) p a >>= λ w. on_integers (λ x y. Some (compares op sign x y)) v w) taken_there e in
        let u = followed (operand (holder s) p a) (λ w. on_integers (λ x y. Some (compares op sign x y)) v.value w) taken_there v.then in
        compare_runs op sign o p v.value u.value taken_there (integers_tested op sign v.value u.value taken_there u.then) (and_left _ _ fits) (and_right _ _ fits) v.first u.first lays
    branch_follows (ComparePointers op o p) taken_there fits e lays =
        let v = followed (operand (holder s) o a) (λ v. operand (holder s) p a >>= λ z. on_pointers (compares_pointers op w.memory) v z) taken_there e in
        let u = followed (operand (holder s) p a) (λ z. on_pointers (compares_pointers op w.memory) v.value z) taken_there v.then in
        compare_runs op Unsigned o p v.value u.value taken_there (pointers_tested op v.value u.value taken_there u.then) (and_left _ _ fits) (and_right _ _ fits) v.first u.first lays
