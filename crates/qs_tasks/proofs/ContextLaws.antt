-- A context that is stored is the one that is taken back.
use Rattle.std.proofs.Common.{◌≡◌, ◌⊎◌, inl, inr, ⊎_elim, ℕ, zero, suc, ◌+◌, ◌-◌, ◌*◌, ◌/◌, ◌%◌, ◌^◌, ◌≤◌, ◌<◌, Bool, true, false, refl, sym, ap, ◌∙◌, arith}
use Rattle.std.specs.Prelude.{nat_lt, nat_le, ◌&&◌, ◌==◌, if◌then◌else◌}
use Rattle.std.proofs.Math.Path.{fun_ext}
use Rattle.std.proofs.lemmas.Bool.{cases_lt, and_parts}
use Rattle.std.proofs.lemmas.Bool.Decides.{nat_tests}
use Rattle.qs_machine.specs.Laws.{IsProper}
use Rattle.qs_emit.specs.Lies.{AreBytes}
use Rattle.qs_tasks_run.specs.Contexts.{Context, context_bytes, context_word, byte_of_word, word_at, stored, taken_back}

joined : (v : ℕ) → v < 2 ^ 32 → (byte_of_word v 0 + 2 ^ 8 * byte_of_word v 1) + 2 ^ 16 * (byte_of_word v 2 + 2 ^ 8 * byte_of_word v 3) ≡ v
unfolding byte_of_word
joined v lt = omega (arith, lt)

module _ (c : Context) (from : ℕ) (memory : ℕ → ℕ) where
  stored_byte : (j i : ℕ) → j < 32 → i < 4 → stored c from memory (from + 4 * j + i) ≡ byte_of_word (context_word c j) i
  unfolding stored
  stored_byte j i jl il =
      let t : (nat_le from (from + 4 * j + i) && nat_lt (from + 4 * j + i) (from + context_bytes)) ≡ true = grind (arith, nat_tests, jl, il) in
      let q : (from + 4 * j + i - from) / 4 ≡ j = omega (arith, il) in
      let r : (from + 4 * j + i - from) % 4 ≡ i = omega (arith, il) in
      rw t (ap (λ (n : ℕ). byte_of_word (context_word c n) ((from + 4 * j + i - from) % 4)) q ∙ ap (λ (n : ℕ). byte_of_word (context_word c j) n) r)

  first_byte : (j : ℕ) → j < 32 → stored c from memory (from + 4 * j) ≡ byte_of_word (context_word c j) 0
  first_byte j lt = let e : from + 4 * j + 0 ≡ from + 4 * j = omega arith in ap (stored c from memory) (sym e) ∙ stored_byte j 0 lt (omega arith)

  last_byte : (j : ℕ) → j < 32 → stored c from memory (from + 4 * j + 2 + 1) ≡ byte_of_word (context_word c j) 3
  last_byte j lt = let e : from + 4 * j + 3 ≡ from + 4 * j + 2 + 1 = omega arith in ap (stored c from memory) (sym e) ∙ stored_byte j 3 lt (omega arith)

  stored_word : (j : ℕ) → j < 32 → context_word c j < 2 ^ 32 → word_at (stored c from memory) (from + 4 * j) ≡ context_word c j
  unfolding word_at
  stored_word j lt small = rw (first_byte j lt, stored_byte j 1 lt (omega arith), stored_byte j 2 lt (omega arith), last_byte j lt) (joined (context_word c j) small)

  pub stored_other : (at : ℕ) → (at < from) ⊎ (from + context_bytes ≤ at) → stored c from memory at ≡ memory at
  unfolding stored
  stored_other at (inl lt) = let t : (nat_le from at && nat_lt at (from + context_bytes)) ≡ false = grind (arith, nat_tests, lt) in rw t refl
  stored_other at (inr le) = let t : (nat_le from at && nat_lt at (from + context_bytes)) ≡ false = grind (arith, nat_tests, le) in rw t refl

  byte_small : (v n : ℕ) → byte_of_word v n < 2 ^ 8
  unfolding byte_of_word
  byte_small v n = omega arith

  pub stored_bytes : AreBytes memory → AreBytes (stored c from memory)
  unfolding stored
  stored_bytes b at = by (nat_le from at && nat_lt at (from + context_bytes))
    where
      by : (t : Bool) → (if t then byte_of_word (context_word c ((at - from) / 4)) ((at - from) % 4) else memory at) < 2 ^ 8
      by true = byte_small (context_word c ((at - from) / 4)) ((at - from) % 4)
      by false = b at

  module _ (p : IsProper c.pc c.registers) where
    pc_back : word_at (stored c from memory) from ≡ c.pc
    pc_back = let e : from + 4 * 0 ≡ from = omega arith in ap (word_at (stored c from memory)) (sym e) ∙ stored_word 0 (omega arith) p.small

    register_back : (r : ℕ) → 1 ≤ r → r < 32 → word_at (stored c from memory) (from + 4 * r) ≡ c.registers r
    register_back r ge lt =
        let t : (r == 0) ≡ false = grind (arith, nat_tests, ge) in
        let e : context_word c r ≡ c.registers r = rw t refl in
        let small = p.words r in
        stored_word r lt (omega (arith, e, small)) ∙ e

    registers_back : (r : ℕ) → (if nat_le 1 r && nat_lt r 32 then word_at (stored c from memory) (from + 4 * r) else 0) ≡ c.registers r
    registers_back zero = sym p.x0_is_0
    registers_back (suc r) = ⊎_elim inside outside (cases_lt (suc r) 32)
      where
        inside : suc r < 32 → (if nat_le 1 (suc r) && nat_lt (suc r) 32 then word_at (stored c from memory) (from + 4 * suc r) else 0) ≡ c.registers (suc r)
        inside lt = let t : (nat_le 1 (suc r) && nat_lt (suc r) 32) ≡ true = grind (arith, nat_tests, lt) in rw t (register_back (suc r) (omega arith) lt)

        outside : 32 ≤ suc r → (if nat_le 1 (suc r) && nat_lt (suc r) 32 then word_at (stored c from memory) (from + 4 * suc r) else 0) ≡ c.registers (suc r)
        outside le = let t : (nat_le 1 (suc r) && nat_lt (suc r) 32) ≡ false = grind (arith, nat_tests, le) in rw t (sym (p.no_more (suc r) le))

    pub comes_back : taken_back (stored c from memory) from ≡ c
    comes_back =
        ap (λ (w : ℕ). let x : Context = record { pc = w; registers = (taken_back (stored c from memory) from).registers } in x) pc_back
        ∙ ap (λ (rs : ℕ → ℕ). let x : Context = record { pc = c.pc; registers = rs } in x) (fun_ext registers_back)

-- ---- the same bytes hold the same context

module _ (memory later : ℕ → ℕ) (from : ℕ) (same : (at : ℕ) → from ≤ at → at < from + context_bytes → later at ≡ memory at) where
  word_same : (at : ℕ) → from ≤ at → at + 4 ≤ from + context_bytes → word_at later at ≡ word_at memory at
  unfolding word_at
  word_same at lo hi = rw (same at lo (omega (arith, hi)), same (at + 1) (omega (arith, lo)) (omega (arith, hi)), same (at + 2) (omega (arith, lo)) (omega (arith, hi)), same (at + 2 + 1) (omega (arith, lo)) (omega (arith, hi))) refl

  register_same : (r : ℕ) (b : Bool) → (nat_le 1 r && nat_lt r 32) ≡ b → (if b then word_at later (from + 4 * r) else 0) ≡ (if b then word_at memory (from + 4 * r) else 0)
  register_same r false e = refl
  register_same r true e = let p = and_parts (nat_le 1 r) (nat_lt r 32) e in let q = p.1 in let lt : r < 32 = grind (arith, nat_tests, q) in word_same (from + 4 * r) (omega arith) (omega (arith, lt))

  pub same_context : taken_back later from ≡ taken_back memory from
  same_context =
      ap (λ (w : ℕ). let x : Context = record { pc = w; registers = (taken_back later from).registers } in x) (word_same from (omega arith) (omega arith))
      ∙ ap (λ (rs : ℕ → ℕ). let x : Context = record { pc = word_at memory from; registers = rs } in x) (fun_ext (λ r. register_same r (nat_le 1 r && nat_lt r 32) refl))
