-- Steps that move x2, and registers that are saved in a frame and restored from it.
use Rattle.std.proofs.Common.{◌≡◌, ◌⊎◌, inl, inr, ⊎_elim, ℕ, ◌+◌, ◌*◌, ◌%◌, ◌^◌, ◌==◌, ◌<◌, ◌≤◌, Bool, true, false, List, [], ◌∷◌, ◌++◌, length, Some, refl, sym, ap, ◌∙◌, subst, arith, min, length-append}
use Rattle.std.specs.Prelude.{◌||◌, nat_lt, if◌then◌else◌}
use Rattle.std.proofs.lemmas.Bool.{cases_eq}
use Rattle.std.proofs.lemmas.Bool.Decides.{nat_tests}
use Rattle.qs_base.specs.Words as words
use Rattle.qs_isa.specs.declared.instruction.Instr.{Instr}
use Rattle.qs_isa.specs.declared.instruction.LoadKind.TheVariants.{Lw}
use Rattle.qs_isa.specs.declared.instruction.StoreKind.TheVariants.{Sw}
use Rattle.qs_machine.specs.State.{State, register, with_value, stack_top, stack_base, load_4, store_4}
use Rattle.qs_machine.specs.Step.{Next, Traps, act, write}
use Rattle.qs_machine.specs.declared.answers.Cause.TheVariants.{Overflow}
use Rattle.qs_frames.specs.Layout.{register_at}
use Rattle.qs_emit_selection.specs.Pieces as pieces
use Rattle.qs_emit_selection.specs.Pieces.{addi, add, is_small, constant, move_stack}
use Rattle.qs_emit_selection.specs.Emission.{save, restore}
use Rattle.qs_emit.specs.Machine.{Watched, base, instruction_at, keeps_to, is_set}
use Rattle.qs_emit.specs.Lies.{number_at, IsOwn, SameOwn}
use Rattle.qs_emit.specs.Relation.{Setup, IsAmong, saved_in}
use Rattle.qs_emit.proofs.Injection.{value_there, stored_other}
use Rattle.qs_emit.proofs.Bytes.{number_same, number_stored}
use Rattle.qs_emit.proofs.Steps.{Takes, takes_on, HasAt, has_front, has_back, Fits, IsSteady, steady_on, Does, Gets, does_is, does_then, does_none, stepped, takes_step, stirred_bytes, same_stirred, same_none, same_on, load_does, store_does}
use Rattle.qs_emit.proofs.Slots.{constant_does, reads_free, word_at}
use Rattle.qs_emit.proofs.FrameLaws.{is_given, saved_in_kept}
use Rattle.qs_emit.proofs.Operands.{given_apart, given_free}

-- x2 is moved by some instruction
pub moved_by_some : (word : ℕ) → 1 ≤ length (move_stack word)
moved_by_some word = by (is_small word)
  where
    by : (b : Bool) → 1 ≤ length (if b then addi 2 2 word ∷ [] else constant 5 word ++ add 2 2 5 ∷ [])
    by true = omega arith
    by false = let all = length-append (constant 5 word) (add 2 2 5 ∷ []) in omega (arith, all)

-- x2 has moved, in so many words of code
pub record StackMoved (s : Setup) (m : Watched) (to len : ℕ) (m1 : Watched) : Type 0 where
  pub takes : Takes s.image s.room len m m1
  pub pc : m1.now.pc ≡ m.now.pc + 4 * len
  pub x2 : m1.now.registers 2 ≡ to
  pub others : (q : ℕ) → (q ≡ 2 → ⊥) → (q ≡ 5 → ⊥) → m1.now.registers q ≡ m.now.registers q
  pub own : (at : ℕ) → IsOwn s.room (m.now.registers 2) at → IsOwn s.room to at → m1.now.memory at ≡ m.now.memory at
  pub input : m1.now.input ≡ m.now.input
  pub output : m1.now.output ≡ m.now.output
  pub low : m1.low ≡ min m.low to
  pub steady : IsSteady s.room m1

-- a place for x2
pub record IsPlaceFor (s : Setup) (to : ℕ) : Type 0 where
  pub above : base s.room ≤ to
  pub below : to ≤ s.room.ceiling
  pub aligned : to % 16 ≡ 0

module _ (s : Setup) where
  abbrev moved : Watched → (to : ℕ) → Watched
  moved m to = stepped s m (record m.now { pc = m.now.pc + 4; registers = with_value m.now.registers 2 to })

  x2_step : (m : Watched) (i : Instr) (value to : ℕ) → instruction_at s.image m.now.pc ≡ Some i → act s.image s.room.size m.now i ≡ write s.room.size m.now 2 value → keeps_to s.room m.now i ≡ true → value ≡ to → IsPlaceFor s to → IsSteady s.room m → StackMoved s m to 1 (moved m to)
  x2_step m i value to has e keeps same place steady =
      let t : State = record m.now { pc = m.now.pc + 4; registers = with_value m.now.registers 2 to } in
      let above = place.above in
      let below = place.below in
      let al = place.aligned in
      let top = s.ceiling in
      let inside : (nat_lt to (stack_base s.room.size) || nat_lt stack_top to) ≡ false = grind (arith, nat_tests, above, below, top) in
      let writes : write s.room.size m.now 2 value ≡ Next t = ap (λ (n : ℕ). write s.room.size m.now 2 n) same ∙ ap (λ b. if b then Traps Overflow else Next t) inside in
      let set : is_set s.room t ≡ true = grind (arith, nat_tests, below, al) in
      let bytes = stirred_bytes s m.time to m.now.memory steady.bytes in
      let low = steady.low in
      record {
        takes = takes_step s m t i has (e ∙ writes) keeps set;
        pc = omega arith;
        x2 = refl;
        others = λ q n k. value_there m.now.registers 2 to q n;
        own = λ at o p. (same_stirred s.room m.time to m.now.memory).same at p;
        input = refl;
        output = refl;
        low = refl;
        steady = record { set = set; low = omega arith; bytes = bytes };
      }

  -- x2 and a word
  pub stack_moves : (m : Watched) (word to : ℕ) → HasAt (instruction_at s.image) m.now.pc (move_stack word) → Fits m.now.pc (length (move_stack word)) → word < 2 ^ 32 → words.add (m.now.registers 2) word ≡ to → IsPlaceFor s to → IsSteady s.room m → (m1 : Watched) × StackMoved s m to (length (move_stack word)) m1
  stack_moves m word to has fits small sum place steady = by (is_small word) has fits
    where
      by : (b : Bool) → HasAt (instruction_at s.image) m.now.pc (if b then addi 2 2 word ∷ [] else constant 5 word ++ add 2 2 5 ∷ []) → Fits m.now.pc (length (if b then addi 2 2 word ∷ [] else constant 5 word ++ add 2 2 5 ∷ [])) → (m1 : Watched) × StackMoved s m to (length (if b then addi 2 2 word ∷ [] else constant 5 word ++ add 2 2 5 ∷ [])) m1
      by true has fits = (moved m to, x2_step m (addi 2 2 word) (words.add (m.now.registers 2) word) to has.0 refl refl sum place steady)
      by false has fits =
          let len = length-append (constant 5 word) (add 2 2 5 ∷ []) in
          let al = fits.aligned in
          let lo = fits.low in
          let d = (constant_does s m 5 word ((λ e. absurd (omega (arith, e))), (λ e. absurd (omega (arith, e)))) small).by (has_front (instruction_at s.image) m.now.pc (constant 5 word) (add 2 2 5 ∷ []) has) (record { aligned = al; low = omega (arith, lo, len) }) steady in
          last d.to d.takes d.pc d.x2 d.input d.output d.low (steady_on s m d.to d.x2 d.low d.bytes steady) d.is (has_back (instruction_at s.image) m.now.pc (constant 5 word) (add 2 2 5 ∷ []) has).0
        where
          last : (m1 : Watched) → Takes s.image s.room (length (constant 5 word)) m m1 → m1.now.pc ≡ m.now.pc + 4 * length (constant 5 word) → m1.now.registers 2 ≡ m.now.registers 2 → m1.now.input ≡ m.now.input → m1.now.output ≡ m.now.output → m1.low ≡ m.low → IsSteady s.room m1 → Gets s m 5 word m1 → instruction_at s.image (m.now.pc + 4 * length (constant 5 word)) ≡ Some (add 2 2 5) → (m2 : Watched) × StackMoved s m to (length (constant 5 word ++ add 2 2 5 ∷ [])) m2
          last m1 takes pc x2 input output low steady1 g at =
              let value : words.add (m1.now.registers 2) (m1.now.registers 5) ≡ to = ap (λ (n : ℕ). words.add n (m1.now.registers 5)) x2 ∙ ap (λ (n : ℕ). words.add (m.now.registers 2) n) g.got ∙ sum in
              (moved m1 to, join (moved m1 to) (x2_step m1 (add 2 2 5) (words.add (m1.now.registers 2) (m1.now.registers 5)) to (ap (λ (n : ℕ). instruction_at s.image n) pc ∙ at) refl refl value place steady1))
            where
              join : (m2 : Watched) → StackMoved s m1 to 1 m2 → StackMoved s m to (length (constant 5 word ++ add 2 2 5 ∷ [])) m2
              join m2 k =
                  let len = length-append (constant 5 word) (add 2 2 5 ∷ []) in
                  let pc2 = k.pc in
                  record {
                    takes = subst (λ (n : ℕ). Takes s.image s.room n m m2) (sym len) (takes_on s.image s.room (length (constant 5 word)) 1 m m1 m2 takes k.takes);
                    pc = omega (arith, pc, pc2, len);
                    x2 = k.x2;
                    others = λ q n5 n. k.others q n5 n ∙ g.others q n;
                    own = λ at o p. k.own at (subst (λ (n : ℕ). IsOwn s.room n at) (sym x2) o) p ∙ g.bytes_same.same at o;
                    input = ◌∙◌ {a = m2.now.input} k.input input;
                    output = ◌∙◌ {a = m2.now.output} k.output output;
                    low = ◌∙◌ {a = m2.low} k.low (ap (λ (n : ℕ). min n to) low);
                    steady = k.steady;
                  }

  -- ---- registers into the frame

  pub record AreSaved (m : Watched) (sp outgoing : ℕ) (used : List ℕ) (i : ℕ) (to : Watched) : Type 0 where
    pub registers : (q : ℕ) → to.now.registers q ≡ m.now.registers q
    pub outside : (at : ℕ) → IsOwn s.room sp at → (at < sp + register_at outgoing i) ⊎ (sp + register_at outgoing (i + length used) ≤ at) → to.now.memory at ≡ m.now.memory at
    pub given : (q : ℕ) → is_given q ≡ true → m.now.registers q < 2 ^ 32 → saved_in outgoing used m.now.registers to.now.memory sp i q ≡ m.now.registers q

  chosen : (q r x y z : ℕ) → (q ≡ r → x ≡ z) → ((q ≡ r → ⊥) → y ≡ z) → (if q == r then x else y) ≡ z
  chosen q r x y z h k = ⊎_elim
      (λ e. let t : (q == r) ≡ true = grind (arith, nat_tests, e) in ap (λ b. if b then x else y) t ∙ h e)
      (λ n. let t : (q == r) ≡ false = grind (arith, nat_tests, n) in ap (λ b. if b then x else y) t ∙ k n)
      (cases_eq q r)

  pub saves_do : (m : Watched) (outgoing : ℕ) (used : List ℕ) (i sp : ℕ) → m.now.registers 2 ≡ sp → (sp + outgoing) % 4 ≡ 0 → base s.room ≤ sp → sp + register_at outgoing (i + length used) ≤ s.room.ceiling → ((q : ℕ) → IsAmong used q → is_given q ≡ true) → Does s m (save outgoing used i) (AreSaved m sp outgoing used i)
  saves_do m outgoing [] i sp x2 al above fits saved = does_none s m _ (record { registers = λ q. refl; outside = λ at o out. refl; given = λ q h lt. refl })
  saves_do m outgoing (r ∷ used) i sp x2 al above fits saved =
      let at = sp + register_at outgoing i in
      let top = s.ceiling in
      let address : words.add (m.now.registers 2) (register_at outgoing i) ≡ at = omega (arith, x2, fits, top) in
      let new = store_4 m.now.memory at (m.now.registers r) in
      let mine = saved r (inl refl) in
      let reads : register m.now r ≡ m.now.registers r = reads_free s m.now r (given_free r mine).0 in
      does_then s m (pieces.store Sw r 2 (register_at outgoing i) ∷ []) (save outgoing used (i + 1)) _ _ (store_does s m Sw r 2 (register_at outgoing i) at address (omega (arith, al)) (inl (omega (arith, x2), (omega (arith, above), omega (arith, fits))))) (λ m1 y2 g.
      let x : m1.now.registers 2 ≡ sp = y2 ∙ x2 in
      let own : SameOwn s.room sp new m1.now.memory = subst (λ (f : ℕ → ℕ). SameOwn s.room sp f m1.now.memory) (ap (λ (v : ℕ). store_4 m.now.memory at v) reads) (subst (λ (p : ℕ). SameOwn s.room p (store_4 m.now.memory at (register m.now r)) m1.now.memory) x2 g.bytes_are) in
      does_is s m1 _ _ _ (saves_do m1 outgoing used (i + 1) sp x al above (omega (arith, fits)) (λ q h. saved q (inr h))) (λ m2 z2 k.
      let first : number_at 4 m2.now.memory at ≡ m.now.registers r % 2 ^ 32 =
      number_same 4 m1.now.memory m2.now.memory at (λ y lo hi. k.outside y (inl (omega (arith, lo))) (inl (omega (arith, hi))))
      ∙ number_same 4 new m1.now.memory at (λ y lo hi. own.same y (inl (omega (arith, lo))))
      ∙ number_stored m.now.memory at (m.now.registers r) in
      record {
        registers = λ q. k.registers q ∙ g.registers q;
        outside = λ y o out. outer m m1 m2 y o out own k;
        given = λ q h lt.
            let same : m1.now.registers q ≡ m.now.registers q = g.registers q in
            chosen q r (number_at 4 m2.now.memory at) (saved_in outgoing used m.now.registers m2.now.memory sp (i + 1) q) (m.now.registers q)
            (λ e. first ∙ ap (λ (z : ℕ). m.now.registers z % 2 ^ 32) (sym e) ∙ small (m.now.registers q) lt)
            (λ n. saved_in_kept outgoing used m1.now.registers m.now.registers m2.now.memory m2.now.memory sp (i + 1) q (inr (sym same)) (λ j lo hi. refl) ∙ k.given q h (omega (arith, same, lt)) ∙ same);
      }))
    where
      small : (n : ℕ) → n < 2 ^ 32 → n % 2 ^ 32 ≡ n
      small n h = omega (arith, h)

      outer : (m m1 m2 : Watched) (y : ℕ) → IsOwn s.room sp y → (y < sp + register_at outgoing i) ⊎ (sp + register_at outgoing (i + length (r ∷ used)) ≤ y) → SameOwn s.room sp (store_4 m.now.memory (sp + register_at outgoing i) (m.now.registers r)) m1.now.memory → AreSaved m1 sp outgoing used (i + 1) m2 → m2.now.memory y ≡ m.now.memory y
      outer m m1 m2 y o (inl b) own k = k.outside y o (inl (omega (arith, b))) ∙ own.same y o ∙ stored_other Sw m.now.memory (sp + register_at outgoing i) (m.now.registers r) y (inl b)
      outer m m1 m2 y o (inr b) own k = k.outside y o (inr (omega (arith, b))) ∙ own.same y o ∙ stored_other Sw m.now.memory (sp + register_at outgoing i) (m.now.registers r) y (inr (omega (arith, b)))

  -- ---- and back

  pub record AreRestored (m : Watched) (sp outgoing : ℕ) (used : List ℕ) (i : ℕ) (to : Watched) : Type 0 where
    pub given : (q : ℕ) → is_given q ≡ true → to.now.registers q ≡ saved_in outgoing used m.now.registers m.now.memory sp i q
    pub others : (q : ℕ) → is_given q ≡ false → to.now.registers q ≡ m.now.registers q
    pub bytes : SameOwn s.room sp m.now.memory to.now.memory

  pub restores_do : (m : Watched) (outgoing : ℕ) (used : List ℕ) (i sp : ℕ) → m.now.registers 2 ≡ sp → (sp + outgoing) % 4 ≡ 0 → base s.room ≤ sp → sp + register_at outgoing (i + length used) ≤ s.room.ceiling → ((q : ℕ) → IsAmong used q → is_given q ≡ true) → Does s m (restore outgoing used i) (AreRestored m sp outgoing used i)
  restores_do m outgoing [] i sp x2 al above fits saved = does_none s m _ (record { given = λ q h. refl; others = λ q h. refl; bytes = same_none s.room sp m.now.memory })
  restores_do m outgoing (r ∷ used) i sp x2 al above fits saved =
      let at = sp + register_at outgoing i in
      let top = s.ceiling in
      let mine = saved r (inl refl) in
      does_then s m (restore outgoing used (i + 1)) (pieces.load Lw r 2 (register_at outgoing i) ∷ []) _ _ (restores_do m outgoing used (i + 1) sp x2 al above (omega (arith, fits)) (λ q h. saved q (inr h))) (λ m1 y2 k.
      let x : m1.now.registers 2 ≡ sp = y2 ∙ x2 in
      let address : words.add (m1.now.registers 2) (register_at outgoing i) ≡ at = omega (arith, x, fits, top) in
      does_is s m1 _ _ _ (load_does s m1 Lw r 2 (register_at outgoing i) at (given_free r mine) address (omega (arith, al)) (inl (omega (arith, x), (omega (arith, above), omega (arith, fits, top))))) (λ m2 z2 g.
      let word : load_4 m1.now.memory at ≡ number_at 4 m.now.memory at = sym (word_at m1.now.memory at) ∙ number_same 4 m.now.memory m1.now.memory at (λ y lo hi. k.bytes.same y (inl (omega (arith, lo)))) in
      record {
        given = λ q h. sym (chosen q r (number_at 4 m.now.memory at) (saved_in outgoing used m.now.registers m.now.memory sp (i + 1) q) (m2.now.registers q)
            (λ e. sym (ap m2.now.registers e ∙ g.got ∙ word)) (λ n. sym (g.others q n ∙ k.given q h)));
        others = λ q h. g.others q (λ e. given_apart r q mine h (sym e)) ∙ k.others q h;
        bytes = same_on s.room sp m.now.memory m1.now.memory m2.now.memory k.bytes (subst (λ (p : ℕ). SameOwn s.room p m1.now.memory m2.now.memory) x g.bytes_same);
      }))
