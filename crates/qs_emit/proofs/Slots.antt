-- Constants, and accesses to the frame, near and far.
use Rattle.std.proofs.Common.{◌≡◌, ◌⊎◌, inl, inr, ⊎_elim, ℕ, ◌+◌, ◌-◌, ◌%◌, ◌^◌, ◌==◌, ◌<◌, ◌≤◌, Bool, true, false, List, [], ◌∷◌, ◌++◌, refl, sym, ap, ◌∙◌, subst, arith}
use Rattle.std.specs.Prelude.{nat_lt, if◌then◌else◌}
use Rattle.std.proofs.lemmas.Bool.{cases_lt}
use Rattle.std.proofs.lemmas.Bool.Decides.{nat_tests}
use Rattle.qs_base.specs.Words as words
use Rattle.qs_base.specs.Words.{sign_extend}
use Rattle.qs_isa.specs.declared.instruction.Instr.{Instr}
use Rattle.qs_isa.specs.declared.instruction.LoadKind.{LoadKind}
use Rattle.qs_isa.specs.declared.instruction.LoadKind.TheVariants.{Lb, Lh, Lw, Lbu, Lhu}
use Rattle.qs_isa.specs.declared.instruction.StoreKind.{StoreKind}
use Rattle.qs_isa.specs.declared.instruction.StoreKind.TheVariants.{Sb, Sh, Sw}
use Rattle.qs_isa.specs.declared.instruction.OpImmKind.TheVariants.{Addi}
use Rattle.qs_isa.specs.declared.instruction.OpKind.TheVariants.{Add}
use Rattle.qs_machine.specs.State.{State, register, with_value, stack_top, load_1, load_2, load_4}
use Rattle.qs_machine.specs.Step.{load_width, store_width, loaded, stored}
use Rattle.qs_emit_selection.specs.Pieces as pieces
use Rattle.qs_emit_selection.specs.Pieces.{lui, addi, add, is_small, low_part, high_part, constant, is_near, load_from, store_to, address_in_frame}
use Rattle.qs_emit.specs.Machine.{Room, Watched, base}
use Rattle.qs_emit.specs.Lies.{number_at, IsOwn, SameOwn}
use Rattle.qs_emit.specs.Relation.{Setup}
use Rattle.qs_emit.proofs.Steps.{Does, Gets, IsFree, same_on, does_then, does_is, does_either, op_does, op_imm_does, lui_does, load_does, store_does, gets_on, MayRead, MayWrite}

-- ---- words in two parts

-- the low part is a number from -2048 to 2047
pub record IsLow (word : ℕ) : Type 0 where
  pub is : (low_part word ≡ word % 2 ^ 12) × (word % 2 ^ 12 < 2048) ⊎ (low_part word ≡ 2 ^ 32 - 2 ^ 12 + word % 2 ^ 12) × (2048 ≤ word % 2 ^ 12)

low_is : (word : ℕ) → IsLow word
unfolding low_part
low_is word = record { is = ⊎_elim (λ h. inl (small h, h)) (λ h. inr (large h, h)) (cases_lt (word % 2 ^ 12) 2048) }
  where
    small : word % 2 ^ 12 < 2048 → sign_extend 12 (word % 2 ^ 12) ≡ word % 2 ^ 12
    small h = let e : nat_lt (word % 2 ^ 12) (2 ^ (12 - 1)) ≡ true = grind (arith, nat_tests, h) in rw e refl

    large : 2048 ≤ word % 2 ^ 12 → sign_extend 12 (word % 2 ^ 12) ≡ 2 ^ 32 - 2 ^ 12 + word % 2 ^ 12
    large h = let e : nat_lt (word % 2 ^ 12) (2 ^ (12 - 1)) ≡ false = grind (arith, nat_tests, h) in rw e refl

pub parts_sum : (word : ℕ) → word < 2 ^ 32 → (high_part word + low_part word) % 2 ^ 32 ≡ word
unfolding high_part
parts_sum word small = ⊎_elim (λ h. let e = h.0 in let l = h.1 in omega (arith, e, l, small)) (λ h. let e = h.0 in let l = h.1 in omega (arith, e, l, small)) (low_is word).is

-- with another word between
pub parts_behind : (word other : ℕ) → ((high_part word + other) % 2 ^ 32 + low_part word) % 2 ^ 32 ≡ (other + word) % 2 ^ 32
unfolding high_part
parts_behind word other = ⊎_elim (λ h. let e = h.0 in let l = h.1 in omega (arith, e, l)) (λ h. let e = h.0 in let l = h.1 in omega (arith, e, l)) (low_is word).is

high_alone : (word : ℕ) → word < 2 ^ 32 → low_part word ≡ 0 → high_part word ≡ word
unfolding high_part
high_alone word small z = ⊎_elim (λ h. let e = h.0 in let l = h.1 in omega (arith, e, l, z, small)) (λ h. let e = h.0 in let l = h.1 in omega (arith, e, l, z, small)) (low_is word).is

-- ---- loads and stores of bytes that others leave alone

-- so many bytes from an address on are the code's own
pub record AreOwn (r : Room) (sp address width : ℕ) : Type 0 where
  pub own : (i : ℕ) → i < width → IsOwn r sp (address + i)

pub loaded_same : (r : Room) (sp : ℕ) (kind : LoadKind) (flat later : ℕ → ℕ) (address : ℕ) → AreOwn r sp address (load_width kind) → SameOwn r sp flat later → loaded kind later address ≡ loaded kind flat address
loaded_same r sp kind flat later address own same = by kind own
  where
    at : (i width : ℕ) → AreOwn r sp address width → i < width → later (address + i) ≡ flat (address + i)
    at i width o h = same.same (address + i) (o.own i h)

    first : (width : ℕ) → AreOwn r sp address width → 0 < width → later address ≡ flat address
    first width o h = let z : address + 0 ≡ address = omega arith in rw z at (at 0 width o h)

    half : AreOwn r sp address 2 → load_2 later address ≡ load_2 flat address
    half o = let a = first 2 o (omega arith) in let b = at 1 2 o (omega arith) in rw (a, b) refl

    whole : AreOwn r sp address 4 → load_4 later address ≡ load_4 flat address
    whole o =
        let a = first 4 o (omega arith) in let b = at 1 4 o (omega arith) in let d = at 2 4 o (omega arith) in
        let e : later (address + 2 + 1) ≡ flat (address + 2 + 1) = (let n : address + 3 ≡ address + 2 + 1 = omega arith in rw n at (at 3 4 o (omega arith))) in
        rw (a, b, d, e) refl

    by : (k : LoadKind) → AreOwn r sp address (load_width k) → loaded k later address ≡ loaded k flat address
    by Lb o = ap (sign_extend 8) (first 1 o (omega arith))
    by Lh o = ap (sign_extend 16) (half o)
    by Lw o = whole o
    by Lbu o = first 1 o (omega arith)
    by Lhu o = half o

value_same : (r : Room) (sp : ℕ) (flat later : ℕ → ℕ) (place v : ℕ) → SameOwn r sp flat later → SameOwn r sp (with_value flat place v) (with_value later place v)
value_same r sp flat later place v same = record { same = λ at own. by (at == place) at (same.same at own) }
  where
    by : (b : Bool) (at : ℕ) → later at ≡ flat at → (if b then v else later at) ≡ (if b then v else flat at)
    by true at e = refl
    by false at e = e

pub stored_same : (r : Room) (sp : ℕ) (kind : StoreKind) (flat later : ℕ → ℕ) (address v : ℕ) → SameOwn r sp flat later → SameOwn r sp (stored kind flat address v) (stored kind later address v)
stored_same r sp Sb flat later address v same = value_same r sp _ _ _ _ same
stored_same r sp Sh flat later address v same = value_same r sp _ _ _ _ (value_same r sp _ _ _ _ same)
stored_same r sp Sw flat later address v same =
    value_same r sp _ _ _ _ (value_same r sp _ _ _ _ (value_same r sp _ _ _ _ (value_same r sp _ _ _ _ same)))

-- the number of four bytes is the word that is loaded
pub word_at : (flat : ℕ → ℕ) (address : ℕ) → number_at 4 flat address ≡ load_4 flat address
unfolding number_at
word_at flat address =
    let b : flat (address + 1 + 1) ≡ flat (address + 2) = ap flat (omega arith) in
    let d : flat (address + 1 + 1 + 1) ≡ flat (address + 2 + 1) = ap flat (omega arith) in
    omega (arith, b, d)

pub byte_at : (flat : ℕ → ℕ) (address : ℕ) → number_at 1 flat address ≡ load_1 flat address
unfolding number_at
byte_at flat address = omega arith

-- the bytes become others behind a store into the frame, and the registers stay, but for x1 where the offset is out of reach
pub record Stores (s : Setup) (m : Watched) (offset : ℕ) (new : ℕ → ℕ) (to : Watched) : Type 0 where
  pub others : (q : ℕ) → (q ≡ 1 → ⊥) → to.now.registers q ≡ m.now.registers q
  pub near : is_near offset ≡ true → to.now.registers 1 ≡ m.now.registers 1
  pub bytes_are : SameOwn s.room (m.now.registers 2) new to.now.memory

module _ (s : Setup) where
  pub gets_is : (m to : Watched) (r x y : ℕ) → x ≡ y → Gets s m r x to → Gets s m r y to
  gets_is m to r x y e g = record { got = g.got ∙ e; others = g.others; bytes_same = g.bytes_same }

  pub does_get : (m : Watched) (code : List Instr) (r x y : ℕ) → x ≡ y → Does s m code (Gets s m r x) → Does s m code (Gets s m r y)
  does_get m code r x y e h = does_is s m code _ _ h (λ m1 x2 g. gets_is m m1 r x y e g)

  -- a register that isn't x0 reads what was written
  pub reads_free : (state : State) (r : ℕ) → (r ≡ 0 → ⊥) → register state r ≡ state.registers r
  reads_free state r n = let e : (r == 0) ≡ false = grind (arith, nat_tests, n) in rw e refl

  -- ---- constants

  pub constant_does : (m : Watched) (rd word : ℕ) → IsFree rd → word < 2 ^ 32 → Does s m (constant rd word) (Gets s m rd word)
  constant_does m rd word free small = does_either s m (is_small word) _ _ _ (λ e. by_addi) (λ e. does_either s m (low_part word == 0) _ _ _ (λ z. by_lui z) (λ z. by_both))
    where
      by_addi : Does s m (addi rd 0 word ∷ []) (Gets s m rd word)
      by_addi = does_get m _ rd _ word (omega (arith, small)) (op_imm_does s m Addi rd 0 word free)

      by_lui : (low_part word == 0) ≡ true → Does s m (lui rd (high_part word) ∷ []) (Gets s m rd word)
      by_lui z =
          let e : low_part word ≡ 0 = grind (arith, nat_tests, z) in
          does_get m _ rd _ word (high_alone word small e) (lui_does s m rd (high_part word) free)

      by_both : Does s m (lui rd (high_part word) ∷ addi rd rd (low_part word) ∷ []) (Gets s m rd word)
      by_both = does_then s m (lui rd (high_part word) ∷ []) (addi rd rd (low_part word) ∷ []) _ _ (lui_does s m rd (high_part word) free) (λ m1 x2 g.
          let e : register m1.now rd ≡ high_part word = reads_free m1.now rd free.0 ∙ g.got in
          let v : words.add (register m1.now rd) (low_part word) ≡ word = rw e (parts_sum word small) in
          does_is s m1 _ _ _ (op_imm_does s m1 Addi rd rd (low_part word) free) (λ m2 y2 k. gets_on s m m1 m2 rd _ word x2 g (gets_is m1 m2 rd _ word v k)))

  -- ---- the frame

  -- so many bytes at an offset behind x2 lie in the stack
  pub record IsInFrame (m : Watched) (offset width : ℕ) : Type 0 where
    pub above : base s.room ≤ m.now.registers 2
    pub below : m.now.registers 2 + (offset + width) ≤ s.room.ceiling

  frame_own : (m : Watched) (offset width : ℕ) → AreOwn s.room (m.now.registers 2) (m.now.registers 2 + offset) width
  frame_own m offset width = record { own = λ i h. inl (omega arith) }

  frame_write : (m : Watched) (offset width : ℕ) → IsInFrame m offset width → MayWrite s m (m.now.registers 2 + offset) width
  frame_write m offset width f = let a = f.above in let b = f.below in inl (omega arith, (omega (arith, a), omega (arith, b)))

  frame_moved : (m m1 : Watched) (offset width : ℕ) → m1.now.registers 2 ≡ m.now.registers 2 → IsInFrame m offset width → IsInFrame m1 offset width
  frame_moved m m1 offset width e f = let a = f.above in let b = f.below in record { above = omega (arith, a, e); below = omega (arith, b, e) }

  -- LUI and ADD: a register becomes x2 and the high part of an offset
  pub high_does : (m : Watched) (rd offset : ℕ) → IsFree rd → Does s m (lui rd (high_part offset) ∷ add rd rd 2 ∷ []) (Gets s m rd ((high_part offset + m.now.registers 2) % 2 ^ 32))
  high_does m rd offset free = does_then s m (lui rd (high_part offset) ∷ []) (add rd rd 2 ∷ []) _ _ (lui_does s m rd (high_part offset) free) (λ m1 x2 g.
      let e : register m1.now rd ≡ high_part offset = reads_free m1.now rd free.0 ∙ g.got in
      let v : words.add (register m1.now rd) (register m1.now 2) ≡ (high_part offset + m.now.registers 2) % 2 ^ 32 = rw (e, x2) refl in
      does_is s m1 _ _ _ (op_does s m1 Add rd rd 2 free) (λ m2 y2 k. gets_on s m m1 m2 rd _ _ x2 g (gets_is m1 m2 rd _ _ v k)))

  -- so many bytes at an offset behind x2 may be read: they lie in the stack, in a frame or behind the last one
  pub record IsBehind (m : Watched) (offset width : ℕ) : Type 0 where
    pub above : base s.room ≤ m.now.registers 2
    pub below : m.now.registers 2 + (offset + width) ≤ stack_top

  behind_read : (m : Watched) (offset width : ℕ) → IsBehind m offset width → MayRead s m (m.now.registers 2 + offset) width
  behind_read m offset width f = let a = f.above in let b = f.below in inl (omega arith, (omega (arith, a), omega (arith, b)))

  behind_moved : (m m1 : Watched) (offset width : ℕ) → m1.now.registers 2 ≡ m.now.registers 2 → IsBehind m offset width → IsBehind m1 offset width
  behind_moved m m1 offset width e f = let a = f.above in let b = f.below in record { above = omega (arith, a, e); below = omega (arith, b, e) }

  pub load_behind_does : (m : Watched) (kind : LoadKind) (rd offset : ℕ) → IsFree rd → (m.now.registers 2 + offset) % load_width kind ≡ 0 → IsBehind m offset (load_width kind) → Does s m (load_from kind rd offset) (Gets s m rd (loaded kind m.now.memory (m.now.registers 2 + offset)))
  load_behind_does m kind rd offset free aligned inside = does_either s m (is_near offset) _ _ _ (λ e. near) (λ e. far)
    where
      low : m.now.registers 2 + offset < 2 ^ 32
      low = let b = inside.below in omega (arith, b)

      near : Does s m (pieces.load kind rd 2 offset ∷ []) (Gets s m rd (loaded kind m.now.memory (m.now.registers 2 + offset)))
      near = load_does s m kind rd 2 offset (m.now.registers 2 + offset) free (let l = low in omega (arith, l)) aligned (behind_read m offset (load_width kind) inside)

      far : Does s m (lui rd (high_part offset) ∷ add rd rd 2 ∷ pieces.load kind rd rd (low_part offset) ∷ []) (Gets s m rd (loaded kind m.now.memory (m.now.registers 2 + offset)))
      far = does_then s m (lui rd (high_part offset) ∷ add rd rd 2 ∷ []) (pieces.load kind rd rd (low_part offset) ∷ []) _ _ (high_does m rd offset free) (λ m1 x2 g.
          let e : register m1.now rd ≡ (high_part offset + m.now.registers 2) % 2 ^ 32 = reads_free m1.now rd free.0 ∙ g.got in
          let l = low in
          let whole : (m.now.registers 2 + offset) % 2 ^ 32 ≡ m.now.registers 2 + offset = omega (arith, l) in
          let at : words.add (register m1.now rd) (low_part offset) ≡ m1.now.registers 2 + offset = rw e (parts_behind offset (m.now.registers 2) ∙ whole ∙ ap (λ (n : ℕ). n + offset) (sym x2)) in
          let same : loaded kind m1.now.memory (m1.now.registers 2 + offset) ≡ loaded kind m.now.memory (m.now.registers 2 + offset) =
          ap (λ (n : ℕ). loaded kind m1.now.memory (n + offset)) x2 ∙ loaded_same s.room (m.now.registers 2) kind m.now.memory m1.now.memory (m.now.registers 2 + offset) (frame_own m offset (load_width kind)) g.bytes_same in
          let al : (m1.now.registers 2 + offset) % load_width kind ≡ 0 = ap (λ (n : ℕ). (n + offset) % load_width kind) x2 ∙ aligned in
          does_is s m1 _ _ _ (load_does s m1 kind rd rd (low_part offset) (m1.now.registers 2 + offset) free at al (behind_read m1 offset (load_width kind) (behind_moved m m1 offset (load_width kind) x2 inside)))
          (λ m2 y2 k. gets_on s m m1 m2 rd _ _ x2 g (gets_is m1 m2 rd _ _ same k)))

  pub load_from_does : (m : Watched) (kind : LoadKind) (rd offset : ℕ) → IsFree rd → (m.now.registers 2 + offset) % load_width kind ≡ 0 → IsInFrame m offset (load_width kind) → Does s m (load_from kind rd offset) (Gets s m rd (loaded kind m.now.memory (m.now.registers 2 + offset)))
  load_from_does m kind rd offset free aligned inside =
      let below = inside.below in
      let top = s.ceiling in
      load_behind_does m kind rd offset free aligned (record { above = inside.above; below = omega (arith, below, top) })

  pub store_to_does : (m : Watched) (kind : StoreKind) (rs offset : ℕ) → (rs ≡ 1 → ⊥) → (m.now.registers 2 + offset) % store_width kind ≡ 0 → IsInFrame m offset (store_width kind) → Does s m (store_to kind rs offset) (Stores s m offset (stored kind m.now.memory (m.now.registers 2 + offset) (register m.now rs)))
  store_to_does m kind rs offset not_ra aligned inside = does_either s m (is_near offset) _ _ _ (λ e. near) far
    where
      low : m.now.registers 2 + offset < 2 ^ 32
      low = let b = inside.below in let c = s.ceiling in omega (arith, b, c)

      ra_free : IsFree 1
      ra_free = (λ e. absurd (omega (arith, e)), λ e. absurd (omega (arith, e)))

      near : Does s m (pieces.store kind rs 2 offset ∷ []) (Stores s m offset (stored kind m.now.memory (m.now.registers 2 + offset) (register m.now rs)))
      near =
          does_is s m _ _ _ (store_does s m kind rs 2 offset (m.now.registers 2 + offset) (let l = low in omega (arith, l)) aligned (frame_write m offset (store_width kind) inside))
          (λ m1 x2 g. record { others = λ q n. g.registers q; near = λ e. g.registers 1; bytes_are = g.bytes_are })

      same_register : (m1 : Watched) → ((q : ℕ) → (q ≡ 1 → ⊥) → m1.now.registers q ≡ m.now.registers q) → register m1.now rs ≡ register m.now rs
      same_register m1 others = by (rs == 0) (others rs not_ra)
        where
          by : (b : Bool) → m1.now.registers rs ≡ m.now.registers rs → (if b then 0 else m1.now.registers rs) ≡ (if b then 0 else m.now.registers rs)
          by true e = refl
          by false e = e

      far : is_near offset ≡ false → Does s m (lui 1 (high_part offset) ∷ add 1 1 2 ∷ pieces.store kind rs 1 (low_part offset) ∷ []) (Stores s m offset (stored kind m.now.memory (m.now.registers 2 + offset) (register m.now rs)))
      far e_far = does_then s m (lui 1 (high_part offset) ∷ add 1 1 2 ∷ []) (pieces.store kind rs 1 (low_part offset) ∷ []) _ _ (high_does m 1 offset ra_free) (λ m1 x2 g.
          let e : register m1.now 1 ≡ (high_part offset + m.now.registers 2) % 2 ^ 32 = g.got in
          let l = low in
          let whole : (m.now.registers 2 + offset) % 2 ^ 32 ≡ m.now.registers 2 + offset = omega (arith, l) in
          let at : words.add (register m1.now 1) (low_part offset) ≡ m1.now.registers 2 + offset = rw e (parts_behind offset (m.now.registers 2) ∙ whole ∙ ap (λ (n : ℕ). n + offset) (sym x2)) in
          let al : (m1.now.registers 2 + offset) % store_width kind ≡ 0 = ap (λ (n : ℕ). (n + offset) % store_width kind) x2 ∙ aligned in
          let new1 = stored kind m1.now.memory (m1.now.registers 2 + offset) (register m1.now rs) in
          let as_new : stored kind m1.now.memory (m1.now.registers 2 + offset) (register m1.now rs) ≡ stored kind m1.now.memory (m.now.registers 2 + offset) (register m.now rs) =
          ap (λ (n : ℕ). stored kind m1.now.memory (n + offset) (register m1.now rs)) x2 ∙ ap (λ (v : ℕ). stored kind m1.now.memory (m.now.registers 2 + offset) v) (same_register m1 g.others) in
          does_is s m1 _ _ _ (store_does s m1 kind rs 1 (low_part offset) (m1.now.registers 2 + offset) at al (frame_write m1 offset (store_width kind) (frame_moved m m1 offset (store_width kind) x2 inside)))
          (λ m2 y2 k. record {
            others = λ q n. k.registers q ∙ g.others q n;
            near = λ e. let no_way : true ≡ false = sym e ∙ e_far in cc;
            bytes_are = same_on s.room (m.now.registers 2) _ _ m2.now.memory (stored_same s.room (m.now.registers 2) kind m.now.memory m1.now.memory (m.now.registers 2 + offset) (register m.now rs) g.bytes_same)
                (subst (λ (new : ℕ → ℕ). SameOwn s.room (m.now.registers 2) new m2.now.memory) as_new (subst (λ (sp : ℕ). SameOwn s.room sp new1 m2.now.memory) x2 k.bytes_are));
          }))

  pub address_does : (m : Watched) (rd offset : ℕ) → IsFree rd → IsInFrame m offset 0 → Does s m (address_in_frame rd offset) (Gets s m rd (m.now.registers 2 + offset))
  address_does m rd offset free inside = does_either s m (is_near offset) _ _ _ (λ e. near) (λ e. far)
    where
      low : m.now.registers 2 + offset < 2 ^ 32
      low = let b = inside.below in let c = s.ceiling in omega (arith, b, c)

      near : Does s m (addi rd 2 offset ∷ []) (Gets s m rd (m.now.registers 2 + offset))
      near = does_get m _ rd _ _ (let l = low in omega (arith, l)) (op_imm_does s m Addi rd 2 offset free)

      far : Does s m (constant rd offset ++ add rd rd 2 ∷ []) (Gets s m rd (m.now.registers 2 + offset))
      far = does_then s m (constant rd offset) (add rd rd 2 ∷ []) _ _ (constant_does m rd offset free (let l = low in omega (arith, l))) (λ m1 x2 g.
          let e : register m1.now rd ≡ offset = reads_free m1.now rd free.0 ∙ g.got in
          let l = low in
          let whole : (offset + m.now.registers 2) % 2 ^ 32 ≡ m.now.registers 2 + offset = omega (arith, l) in
          let v : words.add (register m1.now rd) (register m1.now 2) ≡ m.now.registers 2 + offset = rw (e, x2) whole in
          does_is s m1 _ _ _ (op_does s m1 Add rd rd 2 free) (λ m2 y2 k. gets_on s m m1 m2 rd _ _ x2 g (gets_is m1 m2 rd _ _ v k)))
