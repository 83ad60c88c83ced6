-- An activation among others, step by step: between its instructions the bytes that aren't its own become any.
use Rattle.std.proofs.Common.{◌≡◌, ◌⊎◌, inl, inr, ℕ, zero, suc, ◌+◌, ◌%◌, ◌≤◌, ◌<◌, Bool, true, false, Some, refl, sym, ap, ◌∙◌, arith}
use Rattle.std.specs.Prelude.{min, nat_lt, not, ◌==◌, ◌&&◌, if◌then◌else◌}
use Rattle.std.proofs.Math.Path.{fun_ext}
use Rattle.std.proofs.lemmas.Bool.Decides.{nat_tests}
use Rattle.qs_isa.specs.declared.instruction.Instr.{Instr}
use Rattle.qs_machine.specs.State.{State, stack_pointer}
use Rattle.qs_machine.specs.Step.{Next, step}
use Rattle.qs_emit.specs.Machine.{instruction_at, keeps_to, is_set, stirred_byte, stirred, Watched, goes, watch, after, watched}
use Rattle.qs_emit.specs.Lies.{AreBytes}
use Rattle.qs_tasks.specs.Alone.{Program}
use Rattle.qs_tasks.proofs.Setting.{has_byte, room}
use Rattle.qs_tasks.proofs.WatchedRuns.{watched_more, watched_alike, same_room, steps_watch}

abbrev pub nobody : ℕ → (ℕ → ℕ) → ℕ → ℕ
nobody time memory = memory

abbrev pub with_memory : State → (ℕ → ℕ) → State
with_memory s memory = record s { memory = memory }

-- as it is watched from an entry on
abbrev pub at_entry : State → Watched
at_entry s = record { now = s; low = stack_pointer s; time = 0 }

module _ (p : Program) where
  -- ---- bytes that others leave alone

  abbrev pub IsOwn : (task sp at : ℕ) → Type 0
  IsOwn task sp at = (sp ≤ at) ⊎ (has_byte p task at ≡ true)

  pub record SameOwn (task sp : ℕ) (memory later : ℕ → ℕ) : Type 0 where
    pub same : (at : ℕ) → IsOwn task sp at → later at ≡ memory at

  -- ---- steps

  -- an instruction that keeps to the rules, below a ceiling
  pub record CanStep (task ceiling : ℕ) (s : State) : Type 0 where
    pub instruction : Instr
    pub next : State
    pub is : instruction_at p.system.image s.pc ≡ Some instruction
    pub keeps : keeps_to (room p task ceiling nobody) s instruction ≡ true
    pub steps : step p.system.image p.system.size s ≡ Next next
    pub below : stack_pointer next ≤ ceiling
    pub aligned : stack_pointer next % 16 ≡ 0

  -- and then others
  pub record WentOn (task ceiling : ℕ) (s to : State) : Type 0 where
    pub can : CanStep task ceiling s
    pub memory : ℕ → ℕ
    pub own : SameOwn task (stack_pointer can.next) can.next.memory memory
    pub bytes : AreBytes memory
    pub is : to ≡ with_memory can.next memory

  abbrev pub Went : (task ceiling : ℕ) → (steps : ℕ) → (from to : State) → Type 0
  Went task ceiling zero from to = from ≡ to
  Went task ceiling (suc steps) from to = (amid : State) × Went task ceiling steps from amid × WentOn task ceiling amid to

  -- the machine that is watched goes so, for others that make the bytes what they are
  pub record IsSeen (task ceiling steps : ℕ) (from to : State) : Type 0 where
    pub others : ℕ → (ℕ → ℕ) → ℕ → ℕ
    pub others_bytes : (time : ℕ) (memory : ℕ → ℕ) → AreBytes memory → AreBytes (others time memory)
    pub low : ℕ
    pub comes : watched p.system.image (room p task ceiling others) steps (at_entry from) ≡ goes (record { now = to; low = low; time = steps })

  -- what others make of a byte is what it is
  made : (task ceiling time sp : ℕ) (others : ℕ → (ℕ → ℕ) → ℕ → ℕ) (before later : ℕ → ℕ) → others time before ≡ later → SameOwn task sp before later → stirred_byte (room p task ceiling others) time sp before ≡ later
  unfolding stirred_byte
  made task ceiling time sp others before later is own = fun_ext (λ at. by at (nat_lt at sp) (has_byte p task at) refl refl)
    where
      by : (at : ℕ) (below kept : Bool) → nat_lt at sp ≡ below → has_byte p task at ≡ kept → (if below && not kept then others time before at else before at) ≡ later at
      by at true true lt is_kept = sym (own.same at (inr is_kept))
      by at true false lt is_kept = ap (λ (m : ℕ → ℕ). m at) is
      by at false kept lt is_kept = let le : sp ≤ at = grind (arith, nat_tests, lt) in sym (own.same at (inl le))

  module _ (task ceiling steps : ℕ) (from amid to : State) (w : WentOn task ceiling amid to) (f : IsSeen task ceiling steps from amid) where
    abbrev next : State
    next = w.can.next

    others : ℕ → (ℕ → ℕ) → ℕ → ℕ
    others time memory = if time == steps then w.memory else f.others time memory

    bytes_by : (time : ℕ) (memory : ℕ → ℕ) → AreBytes memory → (b : Bool) → AreBytes (if b then w.memory else f.others time memory)
    bytes_by time memory b true = w.bytes
    bytes_by time memory b false = f.others_bytes time memory b

    others_bytes : (time : ℕ) (memory : ℕ → ℕ) → AreBytes memory → AreBytes (others time memory)
    unfolding others
    others_bytes time memory b = bytes_by time memory b (time == steps)

    before_same : (time : ℕ) → time < steps → f.others time ≡ others time
    unfolding others
    before_same time lt =
        let e : (time == steps) ≡ false = grind (arith, nat_tests, lt) in
        sym (ap (λ (b : Bool). λ (memory : ℕ → ℕ). if b then w.memory else f.others time memory) e)

    now_is : (memory : ℕ → ℕ) → others steps memory ≡ w.memory
    unfolding others
    now_is memory = let e : (steps == steps) ≡ true = grind (arith, nat_tests) in ap (λ (b : Bool). if b then w.memory else f.others steps memory) e

    comes_before : watched p.system.image (room p task ceiling others) steps (at_entry from) ≡ goes (record { now = amid; low = f.low; time = steps })
    comes_before = sym (watched_alike p.system.image (room p task ceiling f.others) others steps (at_entry from) (λ time lt. before_same time (omega (arith, lt)))) ∙ f.comes

    stirs : stirred (room p task ceiling others) steps next ≡ to
    stirs = ap (with_memory next) (made task ceiling steps (stack_pointer next) others next.memory w.memory (now_is next.memory) w.own) ∙ sym w.is

    is_set_next : is_set (room p task ceiling others) next ≡ true
    is_set_next = let below = w.can.below in let al = w.can.aligned in grind (arith, nat_tests, below, al)

    goes_on : watch p.system.image (room p task ceiling others) (record { now = amid; low = f.low; time = steps }) ≡ goes (record { now = to; low = min f.low (stack_pointer next); time = suc steps })
    goes_on =
        let one : steps + 1 ≡ suc steps = omega arith in
        steps_watch p.system.image (room p task ceiling others) (record { now = amid; low = f.low; time = steps }) w.can.instruction next w.can.is (sym (same_room p.system.image (room p task ceiling nobody) others amid w.can.instruction) ∙ w.can.keeps) w.can.steps is_set_next
        ∙ ap (λ (s : State). goes (record { now = s; low = min f.low (stack_pointer next); time = steps + 1 })) stirs
        ∙ ap (λ (n : ℕ). goes (record { now = to; low = min f.low (stack_pointer next); time = n })) one

    one_more : IsSeen task ceiling (suc steps) from to
    one_more = record {
      others = others;
      others_bytes = others_bytes;
      low = min f.low (stack_pointer next);
      comes = watched_more p.system.image (room p task ceiling others) steps (at_entry from) ∙ ap (λ x. after x (watch p.system.image (room p task ceiling others))) comes_before ∙ goes_on;
    }

  pub seen : (task ceiling steps : ℕ) (from to : State) → Went task ceiling steps from to → IsSeen task ceiling steps from to
  seen task ceiling zero from to e = record {
    others = nobody;
    others_bytes = λ time memory b. b;
    low = stack_pointer from;
    comes = ap (λ (s : State). goes (record { now = s; low = stack_pointer from; time = 0 })) e;
  }
  seen task ceiling (suc steps) from to (amid, before, w) = one_more task ceiling steps from amid to w (seen task ceiling steps from amid before)
