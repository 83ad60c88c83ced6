-- Steps that go elsewhere in the code, and loops.
use Rattle.std.proofs.Common.{◌≡◌, ℕ, zero, suc, ◌+◌, ◌-◌, ◌*◌, ◌%◌, ◌^◌, ◌==◌, ◌<◌, Bool, true, false, List, [], ◌∷◌, ◌++◌, length, Some, refl, sym, ap, ◌∙◌, subst, arith, length-append}
use Rattle.std.specs.Prelude.{min, if◌then◌else◌}
use Rattle.std.proofs.lemmas.Bool.Decides.{nat_tests}
use Rattle.qs_base.specs.Words as words
use Rattle.qs_isa.specs.declared.instruction.Instr.{Instr}
use Rattle.qs_isa.specs.declared.instruction.Instr.TheVariants as instructions
use Rattle.qs_isa.specs.declared.instruction.BranchKind.{BranchKind}
use Rattle.qs_isa.specs.declared.instruction.BranchKind.TheVariants.{Bne}
use Rattle.qs_machine.specs.State.{State, register, with_value}
use Rattle.qs_machine.specs.Step as machine
use Rattle.qs_machine.specs.Step.{Next, Traps, act, is_taken, go_to, write_and_go}
use Rattle.qs_machine.specs.declared.answers.Cause.TheVariants.{JumpMisaligned}
use Rattle.qs_emit_selection.specs.Pieces.{bne}
use Rattle.qs_emit.specs.Machine.{Watched, instruction_at, keeps_to}
use Rattle.qs_emit.specs.Lies.{SameOwn}
use Rattle.qs_emit.specs.Relation.{Setup}
use Rattle.qs_emit.proofs.Steps.{Takes, takes_on, takes_less, HasAt, has_front, has_back, Fits, IsSteady, Done, Does, stepped, takes_step, steady_on, stirred_bytes, same_stirred}

-- ---- one step to another place

-- pc is elsewhere, and nothing else is changed
pub record GoesTo (s : Setup) (m : Watched) (to : ℕ) (m1 : Watched) : Type 0 where
  pub takes : Takes s.image s.room 1 m m1
  pub pc : m1.now.pc ≡ to
  pub registers : m1.now.registers ≡ m.now.registers
  pub own : SameOwn s.room (m.now.registers 2) m.now.memory m1.now.memory
  pub input : m1.now.input ≡ m.now.input
  pub output : m1.now.output ≡ m.now.output
  pub low : m1.low ≡ m.low
  pub steady : IsSteady s.room m1

abbrev pub gone : Setup → Watched → (to : ℕ) → Watched
gone s m to = stepped s m (record m.now { pc = to })

module _ (s : Setup) where
  pub goes : (m : Watched) (i : Instr) (to : ℕ) → instruction_at s.image m.now.pc ≡ Some i → act s.image s.room.size m.now i ≡ Next (record m.now { pc = to }) → keeps_to s.room m.now i ≡ true → IsSteady s.room m → GoesTo s m to (gone s m to)
  goes m i to has e keeps steady =
      let low = steady.low in
      let least : min m.low (m.now.registers 2) ≡ m.low = omega (arith, low) in
      let bytes = stirred_bytes s m.time (m.now.registers 2) m.now.memory steady.bytes in
      record {
        takes = takes_step s m (record m.now { pc = to }) i has e keeps steady.set;
        pc = refl;
        registers = refl;
        own = same_stirred s.room m.time (m.now.registers 2) m.now.memory;
        input = refl;
        output = refl;
        low = least;
        steady = steady_on s m (gone s m to) refl least bytes steady;
      }

  -- ---- branches

  branch_taken : (state : State) (b : Bool) (target to : ℕ) → b ≡ true → target ≡ to → to % 4 ≡ 0 → machine.branch state b target ≡ Next (record state { pc = to })
  branch_taken state b target to t e al =
      let aligned : (to % 4 == 0) ≡ true = grind (arith, nat_tests, al) in
      ap (λ x. machine.branch state x target) t ∙ ap (λ (n : ℕ). machine.branch state true n) e ∙ ap (λ x. if x then go_to state to else Traps JumpMisaligned) aligned

  branch_passed : (state : State) (b : Bool) (target : ℕ) → b ≡ false → machine.branch state b target ≡ Next (record state { pc = state.pc + 4 })
  branch_passed state b target t = ap (λ x. machine.branch state x target) t

  pub takes_branch : (m : Watched) (kind : BranchKind) (left right offset to : ℕ) → instruction_at s.image m.now.pc ≡ Some (instructions.Branch kind left right offset) → is_taken kind (register m.now left) (register m.now right) ≡ true → words.add m.now.pc offset ≡ to → to % 4 ≡ 0 → IsSteady s.room m → GoesTo s m to (gone s m to)
  takes_branch m kind left right offset to has t e al steady = goes m _ to has (branch_taken m.now (is_taken kind (register m.now left) (register m.now right)) (words.add m.now.pc offset) to t e al) refl steady

  pub passes_branch : (m : Watched) (kind : BranchKind) (left right offset : ℕ) → instruction_at s.image m.now.pc ≡ Some (instructions.Branch kind left right offset) → is_taken kind (register m.now left) (register m.now right) ≡ false → IsSteady s.room m → GoesTo s m (m.now.pc + 4) (gone s m (m.now.pc + 4))
  passes_branch m kind left right offset has t steady = goes m _ (m.now.pc + 4) has (branch_passed m.now (is_taken kind (register m.now left) (register m.now right)) (words.add m.now.pc offset) t) refl steady

  -- a jump with link
  pub link_acts : (state : State) (offset to : ℕ) → words.add state.pc offset ≡ to → to % 4 ≡ 0 → act s.image s.room.size state (instructions.Jal 1 offset) ≡ Next (record state { pc = to; registers = with_value state.registers 1 (state.pc + 4) })
  link_acts state offset to e al =
      let aligned : (to % 4 == 0) ≡ true = grind (arith, nat_tests, al) in
      ap (λ (n : ℕ). machine.jump s.room.size state 1 n) e ∙ ap (λ b. if b then write_and_go s.room.size state 1 (state.pc + 4) to else Traps JumpMisaligned) aligned

  -- ---- loops: a5 goes up to a7, and n turns are left

  pub record Turns (body : List Instr) (P : ℕ → Watched → Type 0) : Type 0 where
    pub stays : (n : ℕ) (m m1 : Watched) → P n m → m1.now.registers ≡ m.now.registers → SameOwn s.room (m.now.registers 2) m.now.memory m1.now.memory → P n m1
    pub last : (m : Watched) → P 0 m → m.now.registers 15 ≡ m.now.registers 17
    pub more : (n : ℕ) (m : Watched) → P (suc n) m → m.now.registers 15 ≡ m.now.registers 17 → ⊥
    pub turn : (n : ℕ) (m : Watched) → P (suc n) m → Does s m body (P n)

  module _ (body : List Instr) (P : ℕ → Watched → Type 0) (turns : Turns body P) (short : length body < 2 ^ 20) where
    abbrev back : ℕ
    back = 2 ^ 32 - 4 * length body

    abbrev whole : List Instr
    whole = body ++ bne 15 17 back ∷ []

    whole_length : length whole ≡ length body + 1
    whole_length = length-append body (bne 15 17 back ∷ [])

    -- behind the body
    record Turned (m : Watched) (n : ℕ) (m1 : Watched) : Type 0 where
      takes : Takes s.image s.room (length body) m m1
      pc : m1.now.pc ≡ m.now.pc + 4 * length body
      x2 : m1.now.registers 2 ≡ m.now.registers 2
      input : m1.now.input ≡ m.now.input
      output : m1.now.output ≡ m.now.output
      low : m1.low ≡ m.low
      steady : IsSteady s.room m1
      at_branch : instruction_at s.image m1.now.pc ≡ Some (bne 15 17 back)
      is : P n m1

    turned : (n : ℕ) (m : Watched) → P (suc n) m → HasAt (instruction_at s.image) m.now.pc whole → Fits m.now.pc (length whole) → IsSteady s.room m → (m1 : Watched) × Turned m n m1
    turned n m p has fits steady =
        let al = fits.aligned in
        let lo = fits.low in
        let len = whole_length in
        let d = (turns.turn n m p).by (has_front (instruction_at s.image) m.now.pc body (bne 15 17 back ∷ []) has) (record { aligned = al; low = omega (arith, lo, len) }) steady in (
          d.to,
          record {
            takes = d.takes;
            pc = d.pc;
            x2 = d.x2;
            input = d.input;
            output = d.output;
            low = d.low;
            steady = steady_on s m d.to d.x2 d.low d.bytes steady;
            at_branch = ap (λ (n : ℕ). instruction_at s.image n) d.pc ∙ (has_back (instruction_at s.image) m.now.pc body (bne 15 17 back ∷ []) has).0;
            is = d.is;
          },
        )

    ends : (m m1 : Watched) → Turned m 0 m1 → Done s m (length whole) (P 0)
    ends m m1 t =
        let same = turns.last m1 t.is in
        let test : is_taken Bne (register m1.now 15) (register m1.now 17) ≡ false = grind (arith, nat_tests, same) in
        last (gone s m1 (m1.now.pc + 4)) (passes_branch m1 Bne 15 17 back t.at_branch test t.steady)
      where
        last : (m2 : Watched) → GoesTo s m1 (m1.now.pc + 4) m2 → Done s m (length whole) (P 0)
        last m2 g =
            let len = whole_length in
            let pc1 = t.pc in
            let pc2 = g.pc in
            record {
              to = m2;
              takes = subst (λ (n : ℕ). Takes s.image s.room n m m2) (sym len) (takes_on s.image s.room (length body) 1 m m1 m2 t.takes g.takes);
              pc = omega (arith, pc1, pc2, len);
              x2 = ap (λ (r : ℕ → ℕ). r 2) g.registers ∙ t.x2;
              input = ◌∙◌ {a = m2.now.input} g.input t.input;
              output = ◌∙◌ {a = m2.now.output} g.output t.output;
              low = ◌∙◌ {a = m2.low} g.low t.low;
              bytes = g.steady.bytes;
              is = turns.stays 0 m1 m2 t.is g.registers g.own;
            }

    -- the state before the next turn
    record Again (m : Watched) (n : ℕ) (m2 : Watched) : Type 0 where
      takes : Takes s.image s.room 1 m m2
      pc : m2.now.pc ≡ m.now.pc
      x2 : m2.now.registers 2 ≡ m.now.registers 2
      input : m2.now.input ≡ m.now.input
      output : m2.now.output ≡ m.now.output
      low : m2.low ≡ m.low
      steady : IsSteady s.room m2
      is : P n m2

    again : (m m1 : Watched) (n : ℕ) → Turned m (suc n) m1 → Fits m.now.pc (length whole) → (m2 : Watched) × Again m (suc n) m2
    again m m1 n t fits =
        let differ = turns.more n m1 t.is in
        let test : is_taken Bne (register m1.now 15) (register m1.now 17) ≡ true = grind (arith, nat_tests, differ) in
        let pc1 = t.pc in
        let lo = fits.low in
        let al = fits.aligned in
        let target : words.add m1.now.pc back ≡ m.now.pc = omega (arith, pc1, lo, short) in
        (gone s m1 m.now.pc, next (gone s m1 m.now.pc) (takes_branch m1 Bne 15 17 back m.now.pc t.at_branch test target al t.steady))
      where
        next : (m2 : Watched) → GoesTo s m1 m.now.pc m2 → Again m (suc n) m2
        next m2 g = record {
          takes = takes_less s.image s.room (length body + 1) 1 m m2 (omega arith) (takes_on s.image s.room (length body) 1 m m1 m2 t.takes g.takes);
          pc = g.pc;
          x2 = ap (λ (r : ℕ → ℕ). r 2) g.registers ∙ t.x2;
          input = ◌∙◌ {a = m2.now.input} g.input t.input;
          output = ◌∙◌ {a = m2.now.output} g.output t.output;
          low = ◌∙◌ {a = m2.low} g.low t.low;
          steady = g.steady;
          is = turns.stays (suc n) m1 m2 t.is g.registers g.own;
        }

    joined : (m m2 : Watched) (n : ℕ) → Again m (suc n) m2 → Done s m2 (length whole) (P 0) → Done s m (length whole) (P 0)
    joined m m2 n t d =
        let pc1 = t.pc in
        let pc2 = d.pc in
        record {
          to = d.to;
          takes = takes_less s.image s.room (1 + length whole) (length whole) m d.to (omega arith) (takes_on s.image s.room 1 (length whole) m m2 d.to t.takes d.takes);
          pc = omega (arith, pc1, pc2);
          x2 = d.x2 ∙ t.x2;
          input = ◌∙◌ {a = d.to.now.input} d.input t.input;
          output = ◌∙◌ {a = d.to.now.output} d.output t.output;
          low = ◌∙◌ {a = d.to.low} d.low t.low;
          bytes = d.bytes;
          is = d.is;
        }

    runs : (n : ℕ) (m : Watched) → P (suc n) m → HasAt (instruction_at s.image) m.now.pc whole → Fits m.now.pc (length whole) → IsSteady s.room m → Done s m (length whole) (P 0)
    runs zero m p has fits steady = let t = turned 0 m p has fits steady in ends m t.0 t.1
    runs (suc n) m p has fits steady =
        let t = turned (suc n) m p has fits steady in
        let k = again m t.0 n t.1 fits in
        joined m k.0 n k.1
        (runs n k.0 k.1.is (subst (λ (p : ℕ). HasAt (instruction_at s.image) p whole) (sym k.1.pc) has) (subst (λ (p : ℕ). Fits p (length whole)) (sym k.1.pc) fits) k.1.steady)

    pub loop_does : (n : ℕ) (m : Watched) → P (suc n) m → Does s m whole (P 0)
    loop_does n m p = record { by = λ has fits steady. runs n m p has fits steady }
