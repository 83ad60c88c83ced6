-- Changes of a machine's state: contexts that are stored and taken back, byte by byte and word by word.
use Rattle.std.proofs.Common.{◌≡◌, ◌⊎◌, inl, inr, ℕ, zero, suc, ◌+◌, ◌-◌, ◌*◌, ◌/◌, ◌%◌, ◌≤◌, ◌<◌, Bool, true, false, List, [], refl, sym, ap, ◌∙◌, arith}
use Rattle.std.specs.Prelude.{if◌then◌else◌, nat_lt, nat_le, ◌&&◌, ◌==◌, IsTrue}
use Rattle.std.proofs.Math.Path.{fun_ext}
use Rattle.std.proofs.lemmas.Bool.{cases_eq, cases_lt}
use Rattle.std.proofs.lemmas.Bool.Decides.{nat_tests}
use Rattle.qs_isa.specs.Registers.{ra, sp}
use Rattle.qs_machine.specs.declared.machine.Machine.{Machine}
use Rattle.qs_machine.specs.State.{State, with_value, set_register, stack_base, stack_top, is_inside}
use Rattle.qs_machine.specs.Standing.{state_of}
use Rattle.qs_machine.specs.Parts.{registers_in, memory_in, is_in_stack, Changes}
use Rattle.qs_tasks_run.specs.Contexts.{Context, context_bytes, context_word, byte_of_word, word_at, stored, taken_back}
use Rattle.qs_tasks_machine.specs.Harts.{context_in, context_of, stack_pointer_in, HasStackFrom, storing, entering, taking_back}

pub unchanged : (m : Machine) → Changes m m (λ s. s)
unchanged m = record { state = λ input output. refl; loaded = λ image size l. l; taken = refl; ended = refl }

-- one change after another
pub change_then : (m n k : Machine) (f g : State → State) → Changes m n f → Changes n k g → Changes m k (λ s. g (f s))
change_then m n k f g a b = record {
  state = λ input output. b.state input output ∙ ap g (a.state input output);
  loaded = λ image size l. b.loaded image size (a.loaded image size l);
  taken = b.taken ∙ a.taken;
  ended = b.ended ∙ a.ended;
}

-- the same change, said in another way
pub change_same : (m n : Machine) (f g : State → State) → Changes m n f → ((input output : List ℕ) → f (state_of m input output) ≡ g (state_of m input output)) → Changes m n g
change_same m n f g a e = record {
  state = λ input output. a.state input output ∙ e input output;
  loaded = a.loaded;
  taken = a.taken;
  ended = a.ended;
}

-- the parts of a state that was changed
pub memory_then : (m n : Machine) (f : State → State) → Changes m n f → memory_in n ≡ (f (state_of m [] [])).memory
memory_then m n f a = ap (λ (s : State). s.memory) (a.state [] [])

pub registers_then : (m n : Machine) (f : State → State) → Changes m n f → registers_in n ≡ (f (state_of m [] [])).registers
registers_then m n f a = ap (λ (s : State). s.registers) (a.state [] [])

pub context_then : (m n : Machine) (f : State → State) → Changes m n f → context_in n ≡ context_of (f (state_of m [] []))
context_then m n f a = ap context_of (a.state [] [])

-- ---- where the stack is

pub in_stack : (m : Machine) (from bytes at : ℕ) → HasStackFrom m from bytes → from ≤ at → at < from + bytes → IsTrue (is_in_stack m at)
in_stack m from bytes at h lo hi = rw (h.loaded.stack, m.memory.stack_ends) (inside (stack_base h.size) from bytes at h.low h.high lo hi)
  where
    inside : (base from bytes at : ℕ) → base ≤ from → from + bytes ≤ stack_top → from ≤ at → at < from + bytes → is_inside base stack_top at 1 ≡ true
    inside base from bytes at low high lo hi = grind (arith, nat_tests, low, high, lo, hi)

pub stack_then : (m n : Machine) (f : State → State) (from bytes : ℕ) → Changes m n f → HasStackFrom m from bytes → HasStackFrom n from bytes
stack_then m n f from bytes a h = record { image = h.image; size = h.size; loaded = a.loaded h.image h.size h.loaded; low = h.low; high = h.high }

pub stack_part : (m : Machine) (from bytes at part : ℕ) → HasStackFrom m from bytes → from ≤ at → at + part ≤ from + bytes → HasStackFrom m at part
stack_part m from bytes at part h lo hi = let low = h.low in let high = h.high in record { image = h.image; size = h.size; loaded = h.loaded; low = omega (arith, low, lo); high = omega (arith, high, hi) }

-- ---- a function with other values from one place to another

abbrev pub filled : (from to : ℕ) (values old : ℕ → ℕ) → ℕ → ℕ
filled from to values old at = if nat_le from at && nat_lt at to then values at else old at

no_range : (from at : ℕ) → (nat_le from at && nat_lt at from) ≡ false
no_range from at = grind (arith, nat_tests)

pub filled_none : (from : ℕ) (values old : ℕ → ℕ) → filled from from values old ≡ old
filled_none from values old = fun_ext (λ at. let e = no_range from at in rw e refl)

last_in : (from to at : ℕ) → from ≤ to → at ≡ to → (nat_le from at && nat_lt at (to + 1)) ≡ true
last_in from to at le e = grind (arith, nat_tests, le, e)

other_in : (from to at : ℕ) → (at ≡ to → ⊥) → (nat_le from at && nat_lt at (to + 1)) ≡ (nat_le from at && nat_lt at to)
other_in from to at ne = by (cases_lt at to)
  where
    by : (at < to) ⊎ (to ≤ at) → (nat_le from at && nat_lt at (to + 1)) ≡ (nat_le from at && nat_lt at to)
    by (inl lt) =
        let a : nat_lt at (to + 1) ≡ true = grind (arith, nat_tests, lt) in
        let b : nat_lt at to ≡ true = grind (arith, nat_tests, lt) in
        rw (a, b) refl
    by (inr le) =
        let gt : to < at = omega (arith, le, ne) in
        let a : nat_lt at (to + 1) ≡ false = grind (arith, nat_tests, gt) in
        let b : nat_lt at to ≡ false = grind (arith, nat_tests, gt) in
        rw (a, b) refl

pub filled_more : (from to value : ℕ) (values old : ℕ → ℕ) → from ≤ to → value ≡ values to → with_value (filled from to values old) to value ≡ filled from (to + 1) values old
filled_more from to value values old le e = fun_ext (λ at. by at (cases_eq at to))
  where
    by : (at : ℕ) → (at ≡ to) ⊎ (at ≡ to → ⊥) → with_value (filled from to values old) to value at ≡ filled from (to + 1) values old at
    by at (inl is) =
        let a : (at == to) ≡ true = grind (arith, nat_tests, is) in
        let b = last_in from to at le is in
        rw (a, b) (e ∙ ap values (sym is))
    by at (inr ne) =
        let a : (at == to) ≡ false = grind (arith, nat_tests, ne) in
        let b = other_in from to at ne in
        rw (a, b) refl

-- ---- a context is stored

-- its bytes, where it stands from an address on
abbrev pub bytes_of : Context → (from at : ℕ) → ℕ
bytes_of c from at = byte_of_word (context_word c ((at - from) / 4)) ((at - from) % 4)

abbrev pub storing_some : (from count : ℕ) → State → State
storing_some from count s = record s { memory = filled from (from + count) (bytes_of (context_of s) from) s.memory }

pub store_none : (m : Machine) (from : ℕ) → Changes m m (storing_some from 0)
store_none m from =
    let none : from + 0 ≡ from = omega arith in
    change_same m m (λ s. s) (storing_some from 0) (unchanged m)
    (λ input output. let s = state_of m input output in let same : filled from (from + 0) (bytes_of (context_of s) from) s.memory ≡ s.memory = rw none (filled_none from (bytes_of (context_of s) from) s.memory) in ap (λ (f : ℕ → ℕ). let t : State = record s { memory = f } in t) (sym same))

pub store_more : (m n k : Machine) (from i word byte : ℕ) → Changes m n (storing_some from i) → Changes n k (λ s. record s { memory = with_value s.memory (from + i) byte }) → word ≡ context_word (context_in n) (i / 4) → byte ≡ byte_of_word word (i % 4) → Changes m k (storing_some from (i + 1))
store_more m n k from i word byte a b w v =
    change_same m k (λ s. record (storing_some from i s) { memory = with_value (storing_some from i s).memory (from + i) byte }) (storing_some from (i + 1))
    (change_then m n k (storing_some from i) (λ s. record s { memory = with_value s.memory (from + i) byte }) a b)
    (λ input output. let s = state_of m input output in ap (λ (f : ℕ → ℕ). let t : State = record s { memory = f } in t) (stored_more s))
  where
    is_byte : byte ≡ bytes_of (context_in m) from (from + i)
    is_byte =
        let c : context_in n ≡ context_in m = context_then m n (storing_some from i) a in
        let at : from + i - from ≡ i = omega arith in
        v ∙ ap (λ (x : ℕ). byte_of_word x (i % 4)) (w ∙ ap (λ (x : Context). context_word x (i / 4)) c) ∙ ap (λ (x : ℕ). byte_of_word (context_word (context_in m) (x / 4)) (x % 4)) (sym at)

    stored_more : (s : State) → with_value (filled from (from + i) (bytes_of (context_in m) from) s.memory) (from + i) byte ≡ filled from (from + (i + 1)) (bytes_of (context_in m) from) s.memory
    stored_more s =
        let e : from + i + 1 ≡ from + (i + 1) = omega arith in
        filled_more from (from + i) byte (bytes_of (context_in m) from) s.memory (omega arith) is_byte ∙ ap (λ (x : ℕ). filled from x (bytes_of (context_in m) from) s.memory) e

pub store_all : (m n : Machine) (from : ℕ) → Changes m n (storing_some from context_bytes) → Changes m n (storing from)
unfolding stored
store_all m n from a = a

-- ---- a context is taken back

abbrev pub taking_some : (from count : ℕ) → State → State
taking_some from count s = record s { registers = filled 1 count (λ r. word_at s.memory (from + 4 * r)) s.registers }

pub take_none : (m : Machine) (from : ℕ) → Changes m m (taking_some from 1)
take_none m from =
    change_same m m (λ s. s) (taking_some from 1) (unchanged m)
    (λ input output. let s = state_of m input output in ap (λ (f : ℕ → ℕ). let t : State = record s { registers = f } in t) (sym (filled_none 1 (λ r. word_at s.memory (from + 4 * r)) s.registers)))

not_0 : (r : ℕ) → 1 ≤ r → (r == 0) ≡ false
not_0 r le = grind (arith, nat_tests, le)

pub take_more : (m n k : Machine) (from r value : ℕ) → 1 ≤ r → Changes m n (taking_some from r) → Changes n k (λ s. set_register s r value) → value ≡ word_at (memory_in n) (from + 4 * r) → Changes m k (taking_some from (r + 1))
take_more m n k from r value le a b v =
    change_same m k (λ s. set_register (taking_some from r s) r value) (taking_some from (r + 1))
    (change_then m n k (taking_some from r) (λ s. set_register s r value) a b)
    (λ input output. same (state_of m input output) refl)
  where
    is_value : value ≡ word_at (memory_in m) (from + 4 * r)
    is_value = v ∙ ap (λ (f : ℕ → ℕ). word_at f (from + 4 * r)) (memory_then m n (taking_some from r) a)

    same : (s : State) → s.memory ≡ memory_in m → set_register (taking_some from r s) r value ≡ taking_some from (r + 1) s
    same s e =
        let z = not_0 r le in
        let is : value ≡ word_at s.memory (from + 4 * r) = is_value ∙ ap (λ (f : ℕ → ℕ). word_at f (from + 4 * r)) (sym e) in
        rw z (ap (λ (f : ℕ → ℕ). let t : State = record s { registers = f } in t) (filled_more 1 r value (λ (q : ℕ). word_at s.memory (from + 4 * q)) s.registers le is))

abbrev pub AreNoMore : (ℕ → ℕ) → Type 0
AreNoMore registers = (r : ℕ) → 32 ≤ r → registers r ≡ 0

all_taken : (from : ℕ) (memory registers : ℕ → ℕ) → registers 0 ≡ 0 → AreNoMore registers → filled 1 32 (λ r. word_at memory (from + 4 * r)) registers ≡ (taken_back memory from).registers
all_taken from memory registers first none = fun_ext (λ r. by r (nat_le 1 r && nat_lt r 32) refl)
  where
    outside : (r : ℕ) → (nat_le 1 r && nat_lt r 32) ≡ false → registers r ≡ 0
    outside zero e = first
    outside (suc r) e = let le : 32 ≤ suc r = grind (arith, nat_tests, e) in none (suc r) le

    by : (r : ℕ) (b : Bool) → (nat_le 1 r && nat_lt r 32) ≡ b → (if b then word_at memory (from + 4 * r) else registers r) ≡ (if b then word_at memory (from + 4 * r) else 0)
    by r true e = refl
    by r false e = outside r e

pub take_all : (m n k : Machine) (from pc : ℕ) → AreNoMore (registers_in m) → Changes m n (taking_some from 32) → Changes n k (λ s. record s { pc = pc }) → pc ≡ word_at (memory_in n) from → Changes m k (taking_back from)
take_all m n k from pc none a b p =
    change_same m k (λ s. record (taking_some from 32 s) { pc = pc }) (taking_back from)
    (change_then m n k (taking_some from 32) (λ s. record s { pc = pc }) a b)
    (λ input output. let s = state_of m input output in
    ap (λ (f : ℕ → ℕ). let t : State = record s { pc = pc; registers = f } in t) (all_taken from s.memory s.registers m.registers.x0_is_0 none)
    ∙ ap (λ (x : ℕ). let t : State = record s { pc = x; registers = (taken_back s.memory from).registers } in t) (p ∙ ap (λ (f : ℕ → ℕ). word_at f from) (memory_then m n (taking_some from 32) a)))

-- ---- a function is entered

pub enters : (m a b c d : Machine) (from entry : ℕ) → from ≡ stack_pointer_in m - context_bytes → Changes m a (storing from) → Changes a b (λ s. record s { pc = entry }) → Changes b c (λ s. set_register s ra 0) → Changes c d (λ s. set_register s sp from) → Changes m d (entering entry)
enters m a b c d from entry e store_it pc_it ra_it sp_it =
    change_same m d (λ s. set_register (set_register (record (storing from s) { pc = entry }) ra 0) sp from) (entering entry)
    (change_then m c d (λ s. set_register (record (storing from s) { pc = entry }) ra 0) (λ s. set_register s sp from)
    (change_then m b c (λ s. record (storing from s) { pc = entry }) (λ s. set_register s ra 0)
    (change_then m a b (storing from) (λ s. record s { pc = entry }) store_it pc_it) ra_it) sp_it)
    (λ input output. let s = state_of m input output in
    ap (λ (f : ℕ). let t : State = record { pc = entry; registers = with_value (with_value s.registers ra 0) sp f; memory = stored (context_of s) f s.memory; input = s.input; output = s.output } in t) e)
