-- Straight code: what it does to registers and bytes, whatever its length.
use Rattle.std.proofs.Common.{◌≡◌, ◌⊎◌, inl, inr, ℕ, suc, ◌+◌, ◌*◌, ◌%◌, ◌^◌, ◌==◌, ◌<◌, ◌≤◌, Bool, true, false, List, [], ◌∷◌, ◌++◌, length, Option, Some, refl, sym, ap, ◌∙◌, subst, arith, length-append}
use Rattle.std.specs.Prelude.{nat_lt, nat_le, ◌&&◌, ◌||◌, not, min, if◌then◌else◌}
use Rattle.std.proofs.lemmas.Bool.Decides.{nat_tests}
use Rattle.qs_base.specs.Words as words
use Rattle.qs_isa.specs.Addresses.{data_start}
use Rattle.qs_isa.specs.declared.instruction.Instr.{Instr}
use Rattle.qs_isa.specs.declared.instruction.Instr.TheVariants as instructions
use Rattle.qs_isa.specs.declared.instruction.LoadKind.{LoadKind}
use Rattle.qs_isa.specs.declared.instruction.StoreKind.{StoreKind}
use Rattle.qs_isa.specs.declared.instruction.StoreKind.TheVariants.{Sb, Sh, Sw}
use Rattle.qs_isa.specs.declared.instruction.OpKind.{OpKind}
use Rattle.qs_isa.specs.declared.instruction.OpImmKind.{OpImmKind}
use Rattle.qs_isa.specs.declared.instruction.ShiftImmKind.{ShiftImmKind}
use Rattle.qs_image.specs.Image.{Image}
use Rattle.qs_machine.specs.State.{State, register, with_value, stack_pointer, stack_top, is_code, is_data, is_stack, can_read, can_write}
use Rattle.qs_machine.specs.Step as machine
use Rattle.qs_machine.specs.Step.{Next, act, write, load_width, store_width, loaded, stored, op_result, op_imm_result, shift_result}
use Rattle.qs_asm.specs.declared.item.Item.{Item}
use Rattle.qs_asm.specs.Items.{Lays, plain}
use Rattle.qs_emit.specs.Machine.{Room, Watched, goes, base, instruction_at, each, may_read, may_write, keeps_to, is_set, stirred_byte, stirred, then_goes, acts, watch_on, watched, after, only}
use Rattle.qs_emit.specs.Lies.{AreBytes, IsOwn, SameOwn}
use Rattle.qs_emit.specs.Relation.{Setup}

-- ---- the machine goes on

-- from one state to another, in n steps or more
pub record Takes (image : Image) (r : Room) (n : ℕ) (m to : Watched) : Type 0 where
  pub by : (k : ℕ) → (j : ℕ) × ((k + n ≤ j) × (watched image r j m ≡ watched image r k to))

pub takes_on : (image : Image) (r : Room) (n k : ℕ) (m m1 m2 : Watched) → Takes image r n m m1 → Takes image r k m1 m2 → Takes image r (n + k) m m2
takes_on image r n k m m1 m2 a b = record {
  by = λ i. let y = b.by i in let x = a.by y.0 in (x.0, (omega (arith, x.1.0, y.1.0), x.1.1 ∙ y.1.1));
}

-- fewer steps are asked for
pub takes_less : (image : Image) (r : Room) (n k : ℕ) (m to : Watched) → k ≤ n → Takes image r n m to → Takes image r k m to
takes_less image r n k m to le a = record { by = λ i. let x = a.by i in (x.0, (let e = x.1.0 in omega (arith, e, le), x.1.1)) }

pub takes_none : (image : Image) (r : Room) (m : Watched) → Takes image r 0 m m
takes_none image r m = record { by = λ k. (k, (omega arith, refl)) }

pub takes_one : (image : Image) (r : Room) (m to : Watched) (i : Instr) → instruction_at image m.now.pc ≡ Some i → acts image r m i ≡ goes to → Takes image r 1 m to
takes_one image r m to i at e = record {
  by = λ k. (
    suc k,
    (
      omega arith,
      ap (λ o. after (watch_on image r m o) (watched image r k)) at ∙ ap (λ g. after g (watched image r k)) e,
    ),
  );
}

-- ---- bytes that are stored

value_bytes : (flat : ℕ → ℕ) (place v : ℕ) → v < 2 ^ 8 → AreBytes flat → AreBytes (with_value flat place v)
value_bytes flat place v small h at = by (at == place)
  where
    by : (b : Bool) → (if b then v else flat at) < 2 ^ 8
    by true = small
    by false = h at

pub stored_bytes : (kind : StoreKind) (flat : ℕ → ℕ) (address v : ℕ) → AreBytes flat → AreBytes (stored kind flat address v)
stored_bytes Sb flat address v h = value_bytes _ _ _ (omega arith) h
stored_bytes Sh flat address v h = value_bytes _ _ _ (omega arith) (value_bytes _ _ _ (omega arith) h)
stored_bytes Sw flat address v h =
    value_bytes _ _ _ (omega arith) (value_bytes _ _ _ (omega arith) (value_bytes _ _ _ (omega arith) (value_bytes _ _ _ (omega arith) h)))

-- ---- code at a place

abbrev pub HasAt : (at : ℕ → Option Instr) (from : ℕ) → List Instr → Type 0
HasAt at from [] = Unit {0}
HasAt at from (i ∷ code) = (at from ≡ Some i) × HasAt at (from + 4) code

-- so many instructions from a place on lie in the code
pub record Fits (from n : ℕ) : Type 0 where
  pub aligned : from % 4 ≡ 0
  pub low : from + 4 * n < 2 ^ 31

pub has_front : (at : ℕ → Option Instr) (from : ℕ) (a b : List Instr) → HasAt at from (a ++ b) → HasAt at from a
has_front at from [] b h = tt
has_front at from (i ∷ a) b h = (h.0, has_front at (from + 4) a b h.1)

pub has_back : (at : ℕ → Option Instr) (from : ℕ) (a b : List Instr) → HasAt at from (a ++ b) → HasAt at (from + 4 * length a) b
has_back at from [] b h = let e : from ≡ from + 4 * 0 = omega arith in subst (λ (n : ℕ). HasAt at n b) e h
has_back at from (i ∷ a) b h =
    let e : from + 4 + 4 * length a ≡ from + 4 * length (i ∷ a) = omega arith in
    subst (λ (n : ℕ). HasAt at n b) e (has_back at (from + 4) a b h.1)

-- plain items are code, and what follows them lies behind it
pub record Straight (at : ℕ → Option Instr) (place : ℕ → ℕ) (from : ℕ) (code : List Instr) (rest : List Item) (to : ℕ) : Type 0 where
  pub code_at : HasAt at from code
  pub rest_at : Lays at place (from + 4 * length code) rest to

pub straight : (at : ℕ → Option Instr) (place : ℕ → ℕ) (from : ℕ) (code : List Instr) (rest : List Item) (to : ℕ) → Lays at place from (plain code ++ rest) to → Straight at place from code rest to
straight at place from [] rest to h =
    let e : from ≡ from + 4 * 0 = omega arith in
    record { code_at = tt; rest_at = subst (λ (n : ℕ). Lays at place n rest to) e h }
straight at place from (i ∷ code) rest to h =
    let s = straight at place (from + 4) code rest to h.1 in
    let e : from + 4 + 4 * length code ≡ from + 4 * length (i ∷ code) = omega arith in
    record { code_at = (h.0, s.code_at); rest_at = subst (λ (n : ℕ). Lays at place n rest to) e s.rest_at }

-- ---- bytes that others leave alone

pub same_on : (r : Room) (sp : ℕ) (a b d : ℕ → ℕ) → SameOwn r sp a b → SameOwn r sp b d → SameOwn r sp a d
same_on r sp a b d h k = record { same = λ at own. k.same at own ∙ h.same at own }

pub same_none : (r : Room) (sp : ℕ) (a : ℕ → ℕ) → SameOwn r sp a a
same_none r sp a = record { same = λ at own. refl }

pub same_stirred : (r : Room) (time sp : ℕ) (memory : ℕ → ℕ) → SameOwn r sp memory (stirred_byte r time sp memory)
unfolding stirred_byte
same_stirred r time sp memory = record { same = by }
  where
    chosen : (b : Bool) (x y : ℕ) → b ≡ false → (if b then x else y) ≡ y
    chosen true x y h = cc
    chosen false x y h = refl

    by : (at : ℕ) → IsOwn r sp at → (if nat_lt at sp && not (r.is_kept at) then r.others time memory at else memory at) ≡ memory at
    by at (inl h) = let e : nat_lt at sp ≡ false = grind (arith, nat_tests, h) in rw e refl
    by at (inr h) = chosen (nat_lt at sp && not (r.is_kept at)) _ _ (kept_not (nat_lt at sp) (r.is_kept at) h)
      where
        kept_not : (b c : Bool) → c ≡ true → b && not c ≡ false
        kept_not true true e = refl
        kept_not false true e = refl
        kept_not b false e = cc

-- ---- what code does

-- x2 is set, and no higher than the least one so far; memory holds bytes
pub record IsSteady (r : Room) (m : Watched) : Type 0 where
  pub set : is_set r m.now ≡ true
  pub low : m.low ≤ m.now.registers 2
  pub bytes : AreBytes m.now.memory

-- code of some length has run: pc is behind it, and x2, input, output and the least x2 are the same
pub record Done (s : Setup) (m : Watched) (len : ℕ) (Q : Watched → Type 0) : Type 0 where
  pub to : Watched
  pub takes : Takes s.image s.room len m to
  pub pc : to.now.pc ≡ m.now.pc + 4 * len
  pub x2 : to.now.registers 2 ≡ m.now.registers 2
  pub input : to.now.input ≡ m.now.input
  pub output : to.now.output ≡ m.now.output
  pub low : to.low ≡ m.low
  pub bytes : AreBytes to.now.memory
  pub is : Q to

pub record Does (s : Setup) (m : Watched) (code : List Instr) (Q : Watched → Type 0) : Type 0 where
  pub by : HasAt (instruction_at s.image) m.now.pc code → Fits m.now.pc (length code) → IsSteady s.room m → Done s m (length code) Q

-- a register gets a value, and nothing else changes
pub record Gets (s : Setup) (m : Watched) (r x : ℕ) (to : Watched) : Type 0 where
  pub got : to.now.registers r ≡ x
  pub others : (q : ℕ) → (q ≡ r → ⊥) → to.now.registers q ≡ m.now.registers q
  pub bytes_same : SameOwn s.room (m.now.registers 2) m.now.memory to.now.memory

-- the bytes become others, and the registers stay
pub record Writes (s : Setup) (m : Watched) (new : ℕ → ℕ) (to : Watched) : Type 0 where
  pub registers : (q : ℕ) → to.now.registers q ≡ m.now.registers q
  pub bytes_are : SameOwn s.room (m.now.registers 2) new to.now.memory

-- a register that is neither x0 nor x2
abbrev pub IsFree : ℕ → Type 0
IsFree r = (r ≡ 0 → ⊥) × (r ≡ 2 → ⊥)

-- the state behind an instruction
abbrev pub stepped : Setup → Watched → State → Watched
stepped s m t = record { now = stirred s.room m.time t; low = min m.low (stack_pointer t); time = m.time + 1 }

module _ (s : Setup) where
  pub steady_on : (m to : Watched) → to.now.registers 2 ≡ m.now.registers 2 → to.low ≡ m.low → AreBytes to.now.memory → IsSteady s.room m → IsSteady s.room to
  steady_on m to e l b h = record {
    bytes = b;
    set = ap (λ (n : ℕ). nat_le n s.room.ceiling && n % 16 == 0) e ∙ h.set;
    low = let a = h.low in omega (arith, a, e, l);
  }

  -- what others make of bytes are bytes
  pub stirred_bytes : (time sp : ℕ) (memory : ℕ → ℕ) → AreBytes memory → AreBytes (stirred_byte s.room time sp memory)
  unfolding stirred_byte
  stirred_bytes time sp memory h at = by (nat_lt at sp && not (s.room.is_kept at))
    where
      by : (b : Bool) → (if b then s.room.others time memory at else memory at) < 2 ^ 8
      by true = s.others_bytes time memory h at
      by false = h at

  -- that memory holds bytes may be used
  pub does_with : (m : Watched) (code : List Instr) (Q : Watched → Type 0) → (AreBytes m.now.memory → Does s m code Q) → Does s m code Q
  does_with m code Q h = record { by = λ has fits steady. (h steady.bytes).by has fits steady }

  pub does_then : (m : Watched) (a b : List Instr) (P Q : Watched → Type 0) → Does s m a P → ((m1 : Watched) → m1.now.registers 2 ≡ m.now.registers 2 → P m1 → Does s m1 b Q) → Does s m (a ++ b) Q
  does_then m a b P Q h k = record {
    by = λ has fits steady.
        let len : length (a ++ b) ≡ length a + length b = length-append a b in
        let al = fits.aligned in
        let lo = fits.low in
        let d = h.by (has_front (instruction_at s.image) m.now.pc a b has) (record { aligned = al; low = omega (arith, lo, len) }) steady in
        let pc1 = d.pc in
        let back : HasAt (instruction_at s.image) d.to.now.pc b = subst (λ (p : ℕ). HasAt (instruction_at s.image) p b) (sym d.pc) (has_back (instruction_at s.image) m.now.pc a b has) in
        let e = (k d.to d.x2 d.is).by back (record { aligned = omega (arith, al, pc1); low = omega (arith, lo, len, pc1) }) (steady_on m d.to d.x2 d.low d.bytes steady) in
        let pc2 = e.pc in
        record {
          to = e.to;
          takes = subst (λ (n : ℕ). Takes s.image s.room n m e.to) (sym len) (takes_on s.image s.room (length a) (length b) m d.to e.to d.takes e.takes);
          pc = omega (arith, pc1, pc2, len);
          x2 = ◌∙◌ {a = e.to.now.registers 2} e.x2 d.x2;
          input = ◌∙◌ {a = e.to.now.input} e.input d.input;
          output = ◌∙◌ {a = e.to.now.output} e.output d.output;
          low = ◌∙◌ {a = e.to.low} e.low d.low;
          bytes = e.bytes;
          is = e.is;
        };
  }

  pub does_is : (m : Watched) (a : List Instr) (P Q : Watched → Type 0) → Does s m a P → ((m1 : Watched) → m1.now.registers 2 ≡ m.now.registers 2 → P m1 → Q m1) → Does s m a Q
  does_is m a P Q h k = record {
    by = λ has fits steady.
        let d = h.by has fits steady in
        record { to = d.to; takes = d.takes; pc = d.pc; x2 = d.x2; input = d.input; output = d.output; low = d.low; bytes = d.bytes; is = k d.to d.x2 d.is };
  }

  pub does_none : (m : Watched) (Q : Watched → Type 0) → Q m → Does s m [] Q
  does_none m Q h = record {
    by = λ has fits steady.
        record { to = m; takes = takes_none s.image s.room m; pc = omega arith; x2 = refl; input = refl; output = refl; low = refl; bytes = steady.bytes; is = h };
  }

  pub does_either : (m : Watched) (b : Bool) (x y : List Instr) (Q : Watched → Type 0) → (b ≡ true → Does s m x Q) → (b ≡ false → Does s m y Q) → Does s m (if b then x else y) Q
  does_either m true x y Q h k = h refl
  does_either m false x y Q h k = k refl

  -- one step that keeps the rules
  pub takes_step : (m : Watched) (t : State) (i : Instr) → instruction_at s.image m.now.pc ≡ Some i → act s.image s.room.size m.now i ≡ Next t → keeps_to s.room m.now i ≡ true → is_set s.room t ≡ true → Takes s.image s.room 1 m (stepped s m t)
  takes_step m t i has e keeps set =
      takes_one s.image s.room m (stepped s m t) i has
      (ap (λ b. only b (then_goes s.room m (act s.image s.room.size m.now i))) keeps
      ∙ ap (λ n. then_goes s.room m n) e
      ∙ ap (λ b. only b (goes (stepped s m t))) set)

  pub does_one : (m : Watched) (t : State) (i : Instr) (Q : Watched → Type 0) → act s.image s.room.size m.now i ≡ Next t → keeps_to s.room m.now i ≡ true → t.pc ≡ m.now.pc + 4 → t.registers 2 ≡ m.now.registers 2 → t.input ≡ m.now.input → t.output ≡ m.now.output → (AreBytes m.now.memory → AreBytes t.memory) → Q (stepped s m t) → Does s m (i ∷ []) Q
  does_one m t i Q e keeps pc x2 input output bytes h = record {
    by = λ has fits steady.
        let set : is_set s.room t ≡ true = ap (λ (n : ℕ). nat_le n s.room.ceiling && n % 16 == 0) x2 ∙ steady.set in
        let l = steady.low in
        let least : min m.low (t.registers 2) ≡ m.low = omega (arith, l, x2) in
        record {
          to = stepped s m t;
          takes = takes_step m t i has.0 e keeps set;
          pc = pc;
          x2 = x2;
          input = input;
          output = output;
          low = least;
          bytes = stirred_bytes m.time (stack_pointer t) t.memory (bytes steady.bytes);
          is = h;
        };
  }

  -- ---- instructions that write a register

  writes_does : (m : Watched) (i : Instr) (r x : ℕ) → IsFree r → act s.image s.room.size m.now i ≡ write s.room.size m.now r x → keeps_to s.room m.now i ≡ true → Does s m (i ∷ []) (Gets s m r x)
  writes_does m i r x free e keeps =
      let not_zero : (r == 0) ≡ false = no_test r 0 free.0 in
      let not_sp : (r == 2) ≡ false = no_test r 2 free.1 in
      let t : State = record m.now { pc = m.now.pc + 4; registers = with_value m.now.registers r x } in
      let x2 : with_value m.now.registers r x 2 ≡ m.now.registers 2 = other_value m.now.registers r x 2 (λ q. free.1 (sym q)) in
      let go : write s.room.size m.now r x ≡ Next t = rw (not_sp, not_zero) refl in
      does_one m t i (Gets s m r x) (e ∙ go) keeps refl x2 refl refl (λ b. b) (record {
        got = same_value m.now.registers r x;
        others = λ q n. other_value m.now.registers r x q n;
        bytes_same = subst (λ (sp : ℕ). SameOwn s.room sp m.now.memory (stirred_byte s.room m.time (with_value m.now.registers r x 2) m.now.memory)) x2 (same_stirred s.room m.time (with_value m.now.registers r x 2) m.now.memory);
      })
    where
      no_test : (a b : ℕ) → (a ≡ b → ⊥) → (a == b) ≡ false
      no_test a b n = grind (arith, nat_tests, n)

      same_value : (f : ℕ → ℕ) (place v : ℕ) → with_value f place v place ≡ v
      same_value f place v = let e : (place == place) ≡ true = grind (arith, nat_tests) in rw e refl

      other_value : (f : ℕ → ℕ) (place v q : ℕ) → (q ≡ place → ⊥) → with_value f place v q ≡ f q
      other_value f place v q n = rw (no_test q place n) refl

  pub op_does : (m : Watched) (kind : OpKind) (r a b : ℕ) → IsFree r → Does s m (instructions.Op kind r a b ∷ []) (Gets s m r (op_result kind (register m.now a) (register m.now b)))
  op_does m kind r a b free = writes_does m _ r _ free refl refl

  pub op_imm_does : (m : Watched) (kind : OpImmKind) (r a i : ℕ) → IsFree r → Does s m (instructions.OpImm kind r a i ∷ []) (Gets s m r (op_imm_result kind (register m.now a) i))
  op_imm_does m kind r a i free = writes_does m _ r _ free refl refl

  pub shift_does : (m : Watched) (kind : ShiftImmKind) (r a i : ℕ) → IsFree r → Does s m (instructions.ShiftImm kind r a i ∷ []) (Gets s m r (shift_result kind (register m.now a) i))
  shift_does m kind r a i free = writes_does m _ r _ free refl refl

  pub lui_does : (m : Watched) (r i : ℕ) → IsFree r → Does s m (instructions.Lui r i ∷ []) (Gets s m r i)
  lui_does m r i free = writes_does m _ r _ free refl refl

  -- ---- accesses

  -- so many bytes of the stack from x2 on, or of the data
  abbrev pub MayRead : (m : Watched) (address width : ℕ) → Type 0
  MayRead m address width =
      ((m.now.registers 2 ≤ address) × ((base s.room ≤ address) × (address + width ≤ stack_top)))
      ⊎ ((data_start ≤ address) × (address + width ≤ data_start + length s.image.bytes))

  -- those of the stack below x2 at the entry, and data that may be changed
  abbrev pub MayWrite : (m : Watched) (address width : ℕ) → Type 0
  MayWrite m address width =
      ((m.now.registers 2 ≤ address) × ((base s.room ≤ address) × (address + width ≤ s.room.ceiling)))
      ⊎ ((data_start ≤ address) × ((address + width ≤ data_start + length s.image.bytes) × (each s.room.may_change address width ≡ true)))

  -- the data end below the stack
  pub data_below : data_start + length s.image.bytes ≤ base s.room
  data_below = let a = s.stack_fits in let b = s.data_limit in omega (arith, a, b)

  pub load_does : (m : Watched) (kind : LoadKind) (r a i address : ℕ) → IsFree r → words.add (register m.now a) i ≡ address → address % load_width kind ≡ 0 → MayRead m address (load_width kind) → Does s m (instructions.Load kind r a i ∷ []) (Gets s m r (loaded kind m.now.memory address))
  load_does m kind r a i address free e aligned may =
      writes_does m _ r _ free (rw e (goes_on (can_be_read may))) (rw e (keeps may))
    where
      can_be_read : MayRead m address (load_width kind) → can_read s.image s.room.size address (load_width kind) ≡ true
      can_be_read (inl h) = let p = h.1.0 in let q = h.1.1 in
          let f : is_stack s.room.size address (load_width kind) ≡ true = grind (arith, nat_tests, p, q) in
          rw f (last (is_code s.image address (load_width kind)) (is_data s.image address (load_width kind)))
        where
          last : (b c : Bool) → b || (c || true) ≡ true
          last true c = refl
          last false true = refl
          last false false = refl
      can_be_read (inr h) = let p = h.0 in let q = h.1 in
          let f : is_data s.image address (load_width kind) ≡ true = grind (arith, nat_tests, p, q) in
          rw f (last (is_code s.image address (load_width kind)))
        where
          last : (b : Bool) → b || true ≡ true
          last true = refl
          last false = refl

      keeps : MayRead m address (load_width kind) → may_read s.room m.now address (load_width kind) ≡ true
      keeps (inl h) = let p = h.0 in grind (arith, nat_tests, p)
      keeps (inr h) = let p = h.1 in let d = data_below in grind (arith, nat_tests, p, d)

      goes_on : can_read s.image s.room.size address (load_width kind) ≡ true → machine.load s.image s.room.size m.now kind r address ≡ write s.room.size m.now r (loaded kind m.now.memory address)
      goes_on h = let f : (address % load_width kind == 0) ≡ true = grind (arith, nat_tests, aligned) in rw (f, h) refl

  pub store_does : (m : Watched) (kind : StoreKind) (r a i address : ℕ) → words.add (register m.now a) i ≡ address → address % store_width kind ≡ 0 → MayWrite m address (store_width kind) → Does s m (instructions.Store kind a r i ∷ []) (Writes s m (stored kind m.now.memory address (register m.now r)))
  store_does m kind r a i address e aligned may =
      let new = stored kind m.now.memory address (register m.now r) in
      let t : State = record m.now { pc = m.now.pc + 4; memory = new } in
      does_one m t _ (Writes s m new) (rw e (goes_on (can_be_written may))) (rw e (keeps may)) refl refl refl refl (stored_bytes kind m.now.memory address (register m.now r)) (record { registers = λ q. refl; bytes_are = same_stirred s.room m.time (m.now.registers 2) new })
    where
      can_be_written : MayWrite m address (store_width kind) → can_write s.image s.room.size address (store_width kind) ≡ true
      can_be_written (inl h) = let p = h.1.0 in let q = h.1.1 in let c = s.ceiling in
          let f : is_stack s.room.size address (store_width kind) ≡ true = grind (arith, nat_tests, p, q, c) in
          rw f (last (is_data s.image address (store_width kind)))
        where
          last : (b : Bool) → b || true ≡ true
          last true = refl
          last false = refl
      can_be_written (inr h) = let p = h.0 in let q = h.1.0 in
          let f : is_data s.image address (store_width kind) ≡ true = grind (arith, nat_tests, p, q) in
          rw f refl

      keeps : MayWrite m address (store_width kind) → may_write s.room m.now address (store_width kind) ≡ true
      keeps (inl h) = let p = h.0 in let q = h.1.1 in
          let f : nat_le (m.now.registers 2) address ≡ true = grind (arith, nat_tests, p) in
          let g : nat_le (address + store_width kind) s.room.ceiling ≡ true = grind (arith, nat_tests, q) in
          rw (f, g) refl
      keeps (inr h) = let q = h.1.0 in let d = data_below in
          let f : nat_le (address + store_width kind) (base s.room) ≡ true = grind (arith, nat_tests, q, d) in
          rw (f, h.1.1) (last (nat_le (m.now.registers 2) address && nat_le (address + store_width kind) s.room.ceiling))
        where
          last : (b : Bool) → b || (true && true) ≡ true
          last true = refl
          last false = refl

      goes_on : can_write s.image s.room.size address (store_width kind) ≡ true → machine.store s.image s.room.size m.now kind address (register m.now r) ≡ Next (record m.now { pc = m.now.pc + 4; memory = stored kind m.now.memory address (register m.now r) })
      goes_on h = let f : (address % store_width kind == 0) ≡ true = grind (arith, nat_tests, aligned) in rw (f, h) refl

  -- one register after another
  pub gets_on : (m m1 m2 : Watched) (r x y : ℕ) → m1.now.registers 2 ≡ m.now.registers 2 → Gets s m r x m1 → Gets s m1 r y m2 → Gets s m r y m2
  gets_on m m1 m2 r x y e g h = record {
    got = h.got;
    others = λ q n. h.others q n ∙ g.others q n;
    bytes_same = same_on s.room (m.now.registers 2) m.now.memory m1.now.memory m2.now.memory g.bytes_same (subst (λ (sp : ℕ). SameOwn s.room sp m1.now.memory m2.now.memory) e h.bytes_same);
  }
