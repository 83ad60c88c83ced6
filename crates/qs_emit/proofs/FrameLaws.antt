-- What frames and blocks keep while registers and bytes around them change.
use Rattle.std.proofs.Common.{◌≡◌, ◌⊎◌, inl, inr, ⊎_elim, ℕ, ◌+◌, ◌%◌, ◌^◌, ◌==◌, ◌<◌, ◌≤◌, Bool, true, false, List, [], ◌∷◌, length, Some, refl, sym, ap, ◌∙◌, subst, arith}
use Rattle.std.specs.Prelude.{◌&&◌, ◌||◌, ◌++◌, nat_le, if◌then◌else◌}
use Rattle.std.specs.List.{list_all}
use Rattle.std.proofs.lemmas.Bool.{cases_eq, cases_lt, and_parts}
use Rattle.std.proofs.lemmas.Bool.Decides.{nat_tests}
use Rattle.qs_memory.specs.Values.{Value}
use Rattle.qs_memory.specs.Memory.{Block, Memory, block_at}
use Rattle.qs_memory.specs.Soundness.{IsLive}
use Rattle.qs_memory.proofs.BlockLaws.{after_same}
use Rattle.qs_image.specs.Image.{Image}
use Rattle.qs_machine.specs.State.{with_value, store_4}
use Rattle.qs_tac.specs.declared.places.Place.{Place}
use Rattle.qs_tac.specs.declared.places.Place.TheVariants.{Slot, Register}
use Rattle.qs_tac.specs.Places.{PlacesTree, is_for_values}
use Rattle.qs_tac.specs.Holders.{File, same_place, with_place, is_saved_register}
use Rattle.qs_tac.specs.Values.{Activation}
use Rattle.qs_tac.specs.Steps.{Waiting}
use Rattle.qs_isa.specs.declared.instruction.StoreKind.TheVariants.{Sw}
use Rattle.qs_frames.specs.Layout.{total, is_among, used_among, saved_registers, used_registers, keeps_return_address, return_register, outgoing_words, frame_words, HasSlot, argument_at, register_at}
use Rattle.qs_frames.proofs.FrameLaws as frame_laws
use Rattle.qs_frames.proofs.FrameLaws.{is_cost, stored_words}
use Rattle.qs_emit_selection.specs.Operands.{Context, frame_of, stored, slot_offset}
use Rattle.qs_asm.specs.Items.{Lays, plain}
use Rattle.qs_emit_selection.specs.Emission.{take_result}
use Rattle.qs_emit.specs.Machine.{Room, instruction_at}
use Rattle.qs_emit.specs.Lies.{number_at, StandsFor, Owner, cell_of, Lies, IsInReach, IsOwn, SameOwn}
use Rattle.qs_emit.specs.Lies.{frame as of_frame}
use Rattle.qs_emit.specs.Surroundings.{Ground, HasBlocks, Lay, ground}
use Rattle.qs_emit.specs.Relation.{Setup, context, cost, place, word_in, IsAmong, HasPlace, IsHeld, saved_in, caller_registers, private_end, HasFrame, HasStack, IsRelated, around}
use Rattle.qs_emit.proofs.Injection.{Later, value_kept, value_here, value_there, stored_other}
use Rattle.qs_emit.proofs.Bytes.{number_same, number_stored, number_beside}

-- ---- registers

-- what a function gives back to its caller: x1, by which it returns, and the saved registers
abbrev pub is_given : ℕ → Bool
is_given r = r == 1 || is_saved_register r

-- they are as they were
pub record SameGiven (registers later : ℕ → ℕ) : Type 0 where
  pub same : (r : ℕ) → is_given r ≡ true → later r ≡ registers r

pub given_none : (registers : ℕ → ℕ) → SameGiven registers registers
given_none registers = record { same = λ r h. refl }

-- within a function x1 is as it was where its frame doesn't keep the return address
pub record SameKept (c : Context) (registers later : ℕ → ℕ) : Type 0 where
  pub saved : (r : ℕ) → is_saved_register r ≡ true → later r ≡ registers r
  pub link : keeps_return_address c.function c.places ≡ false → later 1 ≡ registers 1

pub kept_none : (c : Context) (registers : ℕ → ℕ) → SameKept c registers registers
kept_none c registers = record { saved = λ r h. refl; link = λ e. refl }

pub saved_is_given : (r : ℕ) → is_saved_register r ≡ true → is_given r ≡ true
saved_is_given r h = by (r == 1)
  where
    by : (b : Bool) → b || is_saved_register r ≡ true
    by true = refl
    by false = h

pub kept_of_given : (c : Context) (registers later : ℕ → ℕ) → SameGiven registers later → SameKept c registers later
kept_of_given c registers later h = record { saved = λ r e. h.same r (saved_is_given r e); link = λ e. h.same 1 refl }

-- steps leave alone the registers that hold values, and x1
abbrev pub is_steady : ℕ → Bool
is_steady r = r == 1 || is_for_values r

pub value_is_steady : (r : ℕ) → is_for_values r ≡ true → is_steady r ≡ true
value_is_steady r h = by (r == 1)
  where
    by : (b : Bool) → b || is_for_values r ≡ true
    by true = refl
    by false = h

-- they are as they were
pub record SameValues (registers later : ℕ → ℕ) : Type 0 where
  pub same : (r : ℕ) → is_steady r ≡ true → later r ≡ registers r

pub values_none : (registers : ℕ → ℕ) → SameValues registers registers
values_none registers = record { same = λ r h. refl }

pub values_on : (a b d : ℕ → ℕ) → SameValues a b → SameValues b d → SameValues a d
values_on a b d h k = record { same = λ r e. k.same r e ∙ h.same r e }

-- those that a function gives back are some of them
pub saved_cases : (r : ℕ) → is_saved_register r ≡ true → (r ≡ 8) ⊎ ((r ≡ 9) ⊎ ((18 ≤ r) × (r ≤ 27)))
saved_cases r h = by (r == 8) (r == 9) refl refl h
  where
    by : (x y : Bool) → (r == 8) ≡ x → (r == 9) ≡ y → x || y || (nat_le 18 r && nat_le r 27) ≡ true → (r ≡ 8) ⊎ ((r ≡ 9) ⊎ ((18 ≤ r) × (r ≤ 27)))
    by true y e f k = inl (grind (arith, nat_tests, e))
    by false true e f k = inr (inl (grind (arith, nat_tests, f)))
    by false false e f k =
        let t = and_parts (nat_le 18 r) (nat_le r 27) k in
        inr (inr (grind (arith, nat_tests, t.0), grind (arith, nat_tests, t.1)))

pub saved_is_for_values : (r : ℕ) → is_saved_register r ≡ true → is_for_values r ≡ true
saved_is_for_values r h = by (saved_cases r h)
  where
    by : (r ≡ 8) ⊎ ((r ≡ 9) ⊎ ((18 ≤ r) × (r ≤ 27))) → is_for_values r ≡ true
    by (inl e) = ap is_for_values e
    by (inr (inl e)) = ap is_for_values e
    by (inr (inr k)) = let lo = k.0 in let hi = k.1 in grind (arith, nat_tests, lo, hi)

-- within a function: the registers that hold values, and x1 where its frame doesn't keep the return address
pub record SameHolding (c : Context) (registers later : ℕ → ℕ) : Type 0 where
  pub values : (r : ℕ) → is_for_values r ≡ true → later r ≡ registers r
  pub link : keeps_return_address c.function c.places ≡ false → later 1 ≡ registers 1

kept_of_holding : (c : Context) (registers later : ℕ → ℕ) → SameHolding c registers later → SameKept c registers later
kept_of_holding c registers later h = record { saved = λ r e. h.values r (saved_is_for_values r e); link = h.link }

pub holding_of_values : (c : Context) (registers later : ℕ → ℕ) → SameValues registers later → SameHolding c registers later
holding_of_values c registers later h = record { values = λ r e. h.same r (value_is_steady r e); link = λ e. h.same 1 refl }

-- no value stands in x1
pub value_link : (r : ℕ) → is_for_values r ≡ true → r ≡ 1 → ⊥
value_link r h e = let no_way : true ≡ false = sym h ∙ ap is_for_values e in cc

-- a register that holds values and is given back is saved
pub given_value : (r : ℕ) → is_for_values r ≡ true → is_given r ≡ true → is_saved_register r ≡ true
given_value r h k = by (r == 1) refl k
  where
    by : (b : Bool) → (r == 1) ≡ b → b || is_saved_register r ≡ true → is_saved_register r ≡ true
    by true t e = let is : r ≡ 1 = grind (arith, nat_tests, t) in let no_way : true ≡ false = sym h ∙ ap is_for_values is in cc
    by false t e = e

-- the registers in which these values stand are as they were
abbrev pub SameHeld : File → (registers later : ℕ → ℕ) → Type 0
SameHeld values registers later = (r : ℕ) (v : Value) → values (Register r) ≡ Some v → later r ≡ registers r

among_test : (test : ℕ → Bool) (registers : List ℕ) (r : ℕ) → list_all test registers ≡ true → IsAmong registers r → test r ≡ true
among_test test [] r h among = absurd among
among_test test (q ∷ registers) r h (inl e) = ap test e ∙ first (test q) (list_all test registers) h
  where
    first : (a b : Bool) → a && b ≡ true → a ≡ true
    first true b k = refl
    first false b k = cc
among_test test (q ∷ registers) r h (inr among) = among_test test registers r (second (test q) (list_all test registers) h) among
  where
    second : (a b : Bool) → a && b ≡ true → b ≡ true
    second true b k = k
    second false b k = cc

used_among_all : (places : List Place) (registers : List ℕ) (r : ℕ) → IsAmong (used_among places registers) r → IsAmong registers r
used_among_all places [] r h = h
used_among_all places (q ∷ registers) r h = by (is_among places q) (used_among_all places registers r) h
  where
    by : (b : Bool) → (IsAmong (used_among places registers) r → IsAmong registers r) → IsAmong (if b then q ∷ used_among places registers else used_among places registers) r → IsAmong (q ∷ registers) r
    by true more (inl e) = inl e
    by true more (inr k) = inr (more k)
    by false more k = inr (more k)

used_saved : (p : PlacesTree) (r : ℕ) → IsAmong (used_registers p) r → is_saved_register r ≡ true
used_saved p r h = among_test is_saved_register saved_registers r refl (used_among_all p.at saved_registers r h)

-- what an entry stores is given back
pub stored_given : (c : Context) (r : ℕ) → IsAmong (stored c) r → is_given r ≡ true
stored_given c r h = by (keeps_return_address c.function c.places) h
  where
    by : (b : Bool) → IsAmong (return_register b ++ used_registers c.places) r → is_given r ≡ true
    by true (inl e) = ap is_given e
    by true (inr k) = saved_is_given r (used_saved c.places r k)
    by false k = saved_is_given r (used_saved c.places r k)

-- x1 where it is kept, and the saved registers that are used
pub link_stored : (c : Context) → keeps_return_address c.function c.places ≡ true → IsAmong (stored c) 1
link_stored c h = by (keeps_return_address c.function c.places) h
  where
    by : (b : Bool) → b ≡ true → IsAmong (return_register b ++ used_registers c.places) 1
    by true e = inl refl
    by false e = cc

pub used_stored : (c : Context) (r : ℕ) → IsAmong (used_registers c.places) r → IsAmong (stored c) r
used_stored c r h = by (keeps_return_address c.function c.places)
  where
    by : (b : Bool) → IsAmong (return_register b ++ used_registers c.places) r
    by true = inr h
    by false = h

-- ---- later grounds

-- in a later ground the frames from an address on have the same bytes
pub record Onward (g later : Ground) (from : ℕ) : Type 0 where
  pub after : Later g.memory g.address_of later.memory later.address_of
  pub frames : (at : ℕ) → from ≤ at → g.owner at ≡ of_frame → later.owner at ≡ of_frame
  pub same : (at : ℕ) → from ≤ at → g.owner at ≡ of_frame → later.flat at ≡ g.flat at

pub later_none : (m : Memory) (address_of : ℕ → ℕ) → Later m address_of m address_of
later_none m address_of = record { after = after_same m; same = λ b h. refl }

pub reach_like : (image : Image) (r : Room) (sp : ℕ) (block later : Block) (a b : ℕ) → later.size ≡ block.size → later.is_writable ≡ block.is_writable → b ≡ a → IsInReach image r sp block a → IsInReach image r sp later b
reach_like image r sp block later a b size writable at (inl s) = let x = s.above in let y = s.below in inl (record { above = omega (arith, x, at); below = omega (arith, y, size, at) })
reach_like image r sp block later a b size writable at (inr d) = let x = d.above in let y = d.below in inr (record {
  above = omega (arith, x, at);
  below = omega (arith, y, size, at);
  kept = λ z l u. d.kept z (omega (arith, l, at)) (omega (arith, u, size, at));
  changed = λ w z l u. d.changed (sym writable ∙ w) z (omega (arith, l, at)) (omega (arith, u, size, at));
})

pub reach_onward : (image : Image) (r : Room) (g later : Ground) (sp from block : ℕ) → Onward g later from → block < length g.memory → IsInReach image r sp (block_at g.memory block) (g.address_of block) → IsInReach image r sp (block_at later.memory block) (later.address_of block)
reach_onward image r g later sp from block o h reach = reach_like image r sp (block_at g.memory block) (block_at later.memory block) (g.address_of block) (later.address_of block) (o.after.after.size block h) (o.after.after.writable block h) (o.after.same block h) reach

-- ---- frames

-- a register that is stored is given back whatever it has become, and another one as it is
pub saved_in_kept : (outgoing : ℕ) (used : List ℕ) (registers other flat later : ℕ → ℕ) (sp i r : ℕ) → IsAmong used r ⊎ (other r ≡ registers r) → ((k : ℕ) → i ≤ k → k < i + length used → number_at 4 later (sp + register_at outgoing k) ≡ number_at 4 flat (sp + register_at outgoing k)) → saved_in outgoing used other later sp i r ≡ saved_in outgoing used registers flat sp i r
saved_in_kept outgoing [] registers other flat later sp i r (inl e) h = absurd e
saved_in_kept outgoing [] registers other flat later sp i r (inr e) h = e
saved_in_kept outgoing (q ∷ used) registers other flat later sp i r e h = by (λ f. saved_in_kept outgoing used registers other flat later sp (i + 1) r f (λ k l u. h k (omega (arith, l)) (omega (arith, u)))) (r == q) refl e
  where
    by : (IsAmong used r ⊎ (other r ≡ registers r) → saved_in outgoing used other later sp (i + 1) r ≡ saved_in outgoing used registers flat sp (i + 1) r) → (b : Bool) → (r == q) ≡ b → IsAmong (q ∷ used) r ⊎ (other r ≡ registers r) → (if b then number_at 4 later (sp + register_at outgoing i) else saved_in outgoing used other later sp (i + 1) r) ≡ (if b then number_at 4 flat (sp + register_at outgoing i) else saved_in outgoing used registers flat sp (i + 1) r)
    by more true t e = h i (omega arith) (omega arith)
    by more false t (inl (inl e)) = absurd (grind (arith, nat_tests, t, e))
    by more false t (inl (inr e)) = more (inl e)
    by more false t (inr e) = more (inr e)

pub given_kept : (c : Context) (registers other : ℕ → ℕ) → SameKept c registers other → (r : ℕ) → is_given r ≡ true → IsAmong (stored c) r ⊎ (other r ≡ registers r)
given_kept c registers other same r h = by (r == 1) refl h
  where
    linked : (b : Bool) → keeps_return_address c.function c.places ≡ b → IsAmong (stored c) 1 ⊎ (other 1 ≡ registers 1)
    linked true e = inl (link_stored c e)
    linked false e = inr (same.link e)

    by : (b : Bool) → (r == 1) ≡ b → b || is_saved_register r ≡ true → IsAmong (stored c) r ⊎ (other r ≡ registers r)
    by true t e = let is : 1 ≡ r = grind (arith, nat_tests, t) in subst (λ (x : ℕ). IsAmong (stored c) x ⊎ (other x ≡ registers x)) is (linked (keeps_return_address c.function c.places) refl)
    by false t e = inr (same.saved r e)

-- a word of a frame's own part
frame_word : (c : Context) (g later : Ground) (from sp at : ℕ) → Onward g later from → from ≤ sp → at + 4 ≤ (frame_of c).placed → ((x : ℕ) → sp ≤ x → x < private_end c sp → g.owner x ≡ of_frame) → number_at 4 later.flat (sp + at) ≡ number_at 4 g.flat (sp + at)
frame_word c g later from sp at o le inside own = number_same 4 g.flat later.flat (sp + at) (λ x l u. o.same x (omega (arith, le, l)) (own x (omega (arith, l)) (omega (arith, u, inside))))

-- where slots and stored registers end
pub slot_inside : (c : Context) (k : ℕ) → HasSlot c.places k → slot_offset c k + 4 ≤ (frame_of c).placed
slot_inside c k h = frame_laws.slot_inside c.function c.places k h

pub register_inside : (c : Context) (i : ℕ) → i < length (stored c) → register_at (frame_of c).outgoing i + 4 ≤ (frame_of c).placed
register_inside c i h = let words = stored_words c.function c.places in omega (arith, h, words)

-- slots lie behind the stored registers, and these behind the arguments
pub slot_behind : (c : Context) (k : ℕ) → register_at (frame_of c).outgoing (length (stored c)) ≤ slot_offset c k
slot_behind c k = let behind = frame_laws.slot_behind c.function c.places k in let words = stored_words c.function c.places in omega (arith, behind, words)

pub placed_inside : (c : Context) → (frame_of c).placed + total c.function.blocks ≤ (frame_of c).cost
placed_inside c = (is_cost (frame_words c.function c.places) (total c.function.blocks)).enough

pub stored_inside : (c : Context) → register_at (frame_of c).outgoing (length (stored c)) ≤ (frame_of c).cost
stored_inside c = let e = placed_inside c in let words = stored_words c.function c.places in omega (arith, e, words)

module _ (s : Setup) where
  pub frame_onward : (g later : Ground) (f : ℕ) (registers other : ℕ → ℕ) (from sp number : ℕ) (values : File) → Onward g later from → from ≤ sp → ((r : ℕ) → is_saved_register r ≡ true → other r ≡ registers r) → SameHeld values registers other → HasFrame s g f registers sp number values → HasFrame s later f other sp number values
  frame_onward g later f registers other from sp number values o le same standing h =
      let made = h.made in
      let longer = o.after.after.longer in
      record {
        holds = λ p v e. let a = h.holds p v e in record { has = a.has; stands = held p v e a.has a.stands };
        words = λ r k. let e = same r k in let w = h.words r k in omega (arith, e, w);
        private = λ at l u. o.frames at (omega (arith, le, l)) (h.private at l u);
        placed = λ i k. o.after.same (number + i) (omega (arith, made, k)) ∙ h.placed i k;
        made = omega (arith, made, longer);
        apart = λ b k live. let known : b < length g.memory = omega (arith, made, k) in reach_onward s.image s.room g later (sp + cost s f) from b o known (h.apart b k (o.after.after.live b known live));
      }
    where
      word : (p : Place) (v : Value) → values p ≡ Some v → HasPlace (context s f) p → word_in (context s f) other later.flat sp p ≡ word_in (context s f) registers g.flat sp p
      word (Slot k) v e has = frame_word (context s f) g later from sp (slot_offset (context s f) k) o le (slot_inside (context s f) k has) h.private
      word (Register r) v e has = standing r v e

      held : (p : Place) (v : Value) → values p ≡ Some v → HasPlace (context s f) p → StandsFor g.memory g.address_of v (word_in (context s f) registers g.flat sp p) → StandsFor later.memory later.address_of v (word_in (context s f) other later.flat sp p)
      held p v e has x = subst (λ (y : ℕ). StandsFor later.memory later.address_of v y) (sym (word p v e has)) (value_kept g.memory later.memory g.address_of later.address_of v (word_in (context s f) registers g.flat sp p) o.after x)

  -- what a frame gives back
  pub caller_same : (g later : Ground) (f : ℕ) (registers other : ℕ → ℕ) (from sp : ℕ) → Onward g later from → from ≤ sp → SameKept (context s f) registers other → ((at : ℕ) → sp ≤ at → at < private_end (context s f) sp → g.owner at ≡ of_frame) → SameGiven (caller_registers (context s f) registers g.flat sp) (caller_registers (context s f) other later.flat sp)
  caller_same g later f registers other from sp o le same private = record {
    same = λ r h. saved_in_kept (frame_of (context s f)).outgoing (stored (context s f)) registers other g.flat later.flat sp 0 r (given_kept (context s f) registers other same r h) (λ k l u. frame_word (context s f) g later from sp (register_at (frame_of (context s f)).outgoing k) o le (register_inside (context s f) k (omega (arith, u))) private);
  }

  pub stack_onward : (g later : Ground) (stack : List (Waiting File)) (registers other : ℕ → ℕ) (from sp : ℕ) → Onward g later from → from ≤ sp → SameGiven registers other → HasStack s g stack registers sp → HasStack s later stack other sp
  stack_onward g later [] registers other from sp o le same h = (h.0, (same.same 1 refl ∙ h.1.0, λ r k. same.same r (saved_is_given r k) ∙ h.1.1 r k))
  stack_onward g later (w ∷ stack) registers other from sp o le same h =
      let f = w.activation.function in
      let waits = h.0 in
      let link : other 1 ≡ registers 1 = same.same 1 refl in
      let kept = kept_of_given (context s f) registers other same in
      let aligned = waits.aligned in
      let low = waits.low in (
        record {
          takes = subst (λ (x : ℕ). Lays (instruction_at s.image) s.label_at x (plain (take_result (context s f) w.taken_by)) (place s f w.activation.at)) (sym link) waits.takes;
          known = waits.known;
          inside = waits.inside;
          taken = waits.taken;
          frame = frame_onward g later f registers other from sp w.activation.first_block w.activation.held o le kept.saved (λ r v e. kept.saved r (waits.stays (Register r) v e)) waits.frame;
          stays = waits.stays;
          in_room = waits.in_room;
          aligned = omega (arith, link, aligned);
          low = omega (arith, link, low);
        },
        stack_onward g later stack (caller_registers (context s f) registers g.flat sp) (caller_registers (context s f) other later.flat sp) from (sp + cost s f) o (omega (arith, le)) (caller_same g later f registers other from sp o le kept waits.frame.private) h.1,
      )

  -- ---- blocks

  -- the bytes of live blocks are the code's own
  pub cell_own : (g : Ground) (sp block offset : ℕ) → HasBlocks (around s) g sp → IsLive g.memory block → offset < (block_at g.memory block).size → IsOwn s.room sp (g.address_of block + offset)
  cell_own g sp block offset k live lt = by (k.in_reach block live)
    where
      by : IsInReach s.image s.room sp (block_at g.memory block) (g.address_of block) → IsOwn s.room sp (g.address_of block + offset)
      by (inl h) = let a = h.above in inl (omega (arith, a))
      by (inr d) = inr (d.kept (g.address_of block + offset) (omega arith) (omega (arith, lt)))

  abbrev pub SameCells : (m : Memory) (address_of flat later : ℕ → ℕ) → Type 0
  SameCells m address_of flat later = (block offset : ℕ) → IsLive m block → offset < (block_at m block).size → later (address_of block + offset) ≡ flat (address_of block + offset)

  pub lies_same : (m : Memory) (l : Lay) (flat later : ℕ → ℕ) → SameCells m l.address_of flat later → Lies m l.address_of l.owner flat → Lies m l.address_of l.owner later
  lies_same m l flat later same h = record {
    owned = h.owned;
    holds = λ b o live lt. rw (same b o live lt) (h.holds b o live lt);
    aligned = h.aligned;
  }

  pub blocks_same : (m : Memory) (l : Lay) (sp : ℕ) (flat later : ℕ → ℕ) → SameCells m l.address_of flat later → HasBlocks (around s) (ground m l flat) sp → HasBlocks (around s) (ground m l later) sp
  blocks_same m l sp flat later same h = record { lies = lies_same m l flat later same h.lies; in_reach = h.in_reach; old = h.old; made = h.made }

  -- ---- the relation

  module _ (a : Activation File) (m : Memory) (stack : List (Waiting File)) (l : Lay) (registers : ℕ → ℕ) (sp : ℕ) (flat : ℕ → ℕ) (r : IsRelated s a m stack l registers sp flat) where
    -- nothing of frames and blocks is changed
    related_onward : (other later : ℕ → ℕ) → SameKept (context s a.function) registers other → SameHeld a.held registers other → ((at : ℕ) → sp ≤ at → l.owner at ≡ of_frame → later at ≡ flat at) → SameCells m l.address_of flat later → IsRelated s a m stack l other sp later
    related_onward other later same standing frames cells =
        let g = ground m l flat in
        let h = ground m l later in
        let f = a.function in
        let o : Onward g h sp = record { after = later_none m l.address_of; frames = λ at le e. e; same = frames } in
        record {
          known = r.known;
          frame = frame_onward g h f registers other sp sp a.first_block a.held o (omega arith) same.saved standing r.frame;
          in_room = r.in_room;
          above = stack_onward g h stack (caller_registers (context s f) registers flat sp) (caller_registers (context s f) other later sp) sp (sp + cost s f) o (omega arith) (caller_same g h f registers other sp sp o (omega arith) same r.frame.private) r.above;
          blocks = blocks_same m l sp flat later cells r.blocks;
          root = r.root;
        }

    -- others change what isn't the code's own
    pub related_held : (other later : ℕ → ℕ) → SameKept (context s a.function) registers other → SameHeld a.held registers other → SameOwn s.room sp flat later → IsRelated s a m stack l other sp later
    related_held other later same standing h = related_onward other later same standing (λ at le e. h.same at (inl le)) (λ b o live lt. h.same (l.address_of b + o) (cell_own (ground m l flat) sp b o r.blocks live lt))

    pub related_holding : (other later : ℕ → ℕ) → SameHolding (context s a.function) registers other → SameOwn s.room sp flat later → IsRelated s a m stack l other sp later
    related_holding other later same h = related_held other later (kept_of_holding (context s a.function) registers other same) (λ q v e. same.values q (r.frame.holds (Register q) v e).has.0) h

    pub related_own : (other later : ℕ → ℕ) → SameValues registers other → SameOwn s.room sp flat later → IsRelated s a m stack l other sp later
    related_own other later same h = related_holding other later (holding_of_values (context s a.function) registers other same) h

    -- the activation goes on elsewhere
    pub related_to : (at : ℕ) → IsRelated s (record a { at = at }) m stack l registers sp flat
    related_to at = record { known = r.known; frame = r.frame; in_room = r.in_room; above = r.above; blocks = r.blocks; root = r.root }

    -- with fewer values
    pub related_fewer : (file : File) → ((p : Place) (v : Value) → file p ≡ Some v → a.held p ≡ Some v) → IsRelated s (record a { held = file }) m stack l registers sp flat
    related_fewer file fewer = record {
      known = r.known;
      frame = record {
        holds = λ p v e. r.frame.holds p v (fewer p v e);
        words = r.frame.words;
        private = r.frame.private;
        placed = r.frame.placed;
        made = r.frame.made;
        apart = r.frame.apart;
      };
      in_room = r.in_room;
      above = r.above;
      blocks = r.blocks;
      root = r.root;
    }

-- a byte of a frame is none of a block
pub not_both : (o : Owner) (block offset : ℕ) → o ≡ of_frame → o ≡ cell_of block offset → ⊥
not_both o block offset e f = cc

-- ---- places

pub place_cases : (p q : Place) → (p ≡ q) ⊎ (same_place p q ≡ false)
place_cases (Slot i) (Slot k) = ⊎_elim (λ e. inl (ap Slot e)) (λ n. inr (grind (arith, nat_tests, n))) (cases_eq i k)
place_cases (Slot i) (Register r) = inr refl
place_cases (Register q) (Slot k) = inr refl
place_cases (Register q) (Register r) = ⊎_elim (λ e. inl (ap Register e)) (λ n. inr (grind (arith, nat_tests, n))) (cases_eq q r)

pub place_same : (p : Place) → same_place p p ≡ true
place_same (Slot k) = grind (arith, nat_tests)
place_same (Register q) = grind (arith, nat_tests)

some_value : (v w : Value) → Some v ≡ Some w → v ≡ w
some_value v w e = cc

-- a place gets a value, and no other place changes
abbrev pub HoldIn : Context → (m : Memory) → (address_of registers flat : ℕ → ℕ) → (sp : ℕ) → File → Type 0
HoldIn c m address_of registers flat sp values = (p : Place) (v : Value) → values p ≡ Some v → IsHeld c m address_of registers flat sp p v

hold_with : (c : Context) (m : Memory) (address_of registers other flat later : ℕ → ℕ) (sp : ℕ) (values : File) (d : Place) (v : Value) → IsHeld c m address_of other later sp d v → ((p : Place) (u : Value) → same_place p d ≡ false → IsHeld c m address_of registers flat sp p u → IsHeld c m address_of other later sp p u) → HoldIn c m address_of registers flat sp values → HoldIn c m address_of other later sp (with_place values d (Some v))
hold_with c m address_of registers other flat later sp values d v here others old p u e = ⊎_elim at_place elsewhere (place_cases p d)
  where
    at_place : p ≡ d → IsHeld c m address_of other later sp p u
    at_place q =
        let e2 : with_place values d (Some v) d ≡ Some u = subst (λ (z : Place). with_place values d (Some v) z ≡ Some u) q e in
        let same : v ≡ u = some_value v u (ap (λ b. if b then Some v else values d) (sym (place_same d)) ∙ e2) in
        subst (λ (z : Place). IsHeld c m address_of other later sp z u) (sym q) (subst (λ (z : Value). IsHeld c m address_of other later sp d z) same here)

    elsewhere : same_place p d ≡ false → IsHeld c m address_of other later sp p u
    elsewhere q = others p u q (old p u (ap (λ b. if b then Some v else values p) (sym q) ∙ e))

module _ (s : Setup) (a : Activation File) (m : Memory) (stack : List (Waiting File)) (l : Lay) (registers : ℕ → ℕ) (sp : ℕ) (flat : ℕ → ℕ) (r : IsRelated s a m stack l registers sp flat) where
  abbrev c : Context
  c = context s a.function

  -- a value into a slot
  pub related_slot : (k x : ℕ) (v : Value) → HasPlace c (Slot k) → StandsFor m l.address_of v (x % 2 ^ 32) → IsRelated s (record a { held = with_place a.held (Slot k) (Some v) }) m stack l registers sp (store_4 flat (sp + slot_offset c k) x)
  related_slot k x v has stands =
      let at = slot_offset c k in
      let later = store_4 flat (sp + at) x in
      let g = ground m l flat in
      let h = ground m l later in
      let behind = slot_behind c k in
      let inside = slot_inside c k has in
      let whole = placed_inside c in
      let far : (y : ℕ) → sp + (frame_of c).cost ≤ y → later y ≡ flat y = λ y le. stored_other Sw flat (sp + at) x y (inr (omega (arith, le, inside, whole))) in
      let o : Onward g h (sp + (frame_of c).cost) = record { after = later_none m l.address_of; frames = λ y le e. e; same = λ y le e. far y le } in
      let given : SameGiven (caller_registers c registers flat sp) (caller_registers c registers later sp) = record {
        same = λ q e. saved_in_kept (frame_of c).outgoing (stored c) registers registers flat later sp 0 q (inr refl) (λ i lo hi. number_beside flat (sp + at) x 4 (sp + register_at (frame_of c).outgoing i) (inl (omega (arith, hi, behind))));
      } in
      let here : StandsFor m l.address_of v (number_at 4 later (sp + at)) = subst (λ (y : ℕ). StandsFor m l.address_of v y) (sym (number_stored flat (sp + at) x)) stands in
      record {
        known = r.known;
        frame = record {
          holds = hold_with c m l.address_of registers registers flat later sp a.held (Slot k) v (record { has = has; stands = here }) (others k has) r.frame.holds;
          words = r.frame.words;
          private = r.frame.private;
          placed = r.frame.placed;
          made = r.frame.made;
          apart = r.frame.apart;
        };
        in_room = r.in_room;
        above = stack_onward s g h stack (caller_registers c registers flat sp) (caller_registers c registers later sp) (sp + (frame_of c).cost) (sp + (frame_of c).cost) o (omega arith) given r.above;
        blocks = blocks_same s m l sp flat later (λ b i live lt. stored_other Sw flat (sp + at) x (l.address_of b + i) (outside (l.address_of b + i) b i (r.blocks.lies.owned b i live lt))) r.blocks;
        root = r.root;
      }
    where
      outside : (y b i : ℕ) → l.owner y ≡ cell_of b i → (y < sp + slot_offset c k) ⊎ (sp + slot_offset c k + 4 ≤ y)
      outside y b i e = ⊎_elim (λ lt. inl lt) (λ ge. ⊎_elim (λ lt. absurd (not_both (l.owner y) b i (r.frame.private y (let q = slot_behind c k in omega (arith, ge, q)) (let q = slot_inside c k has in omega (arith, lt, q))) e)) (λ far. inr far) (cases_lt y (sp + slot_offset c k + 4))) (cases_lt y (sp + slot_offset c k))

      others : (k : ℕ) → HasPlace c (Slot k) → (p : Place) (u : Value) → same_place p (Slot k) ≡ false → IsHeld c m l.address_of registers flat sp p u → IsHeld c m l.address_of registers (store_4 flat (sp + slot_offset c k) x) sp p u
      others k has (Slot i) u n held =
          let ne : i ≡ k → ⊥ = λ e. let t : true ≡ false = sym (ap (λ j. same_place (Slot j) (Slot k)) e ∙ place_same (Slot k)) ∙ n in cc in
          let apart = frame_laws.slots_apart c.function c.places i k held.has has ne in
          let word = number_beside flat (sp + slot_offset c k) x 4 (sp + slot_offset c i) (shift i k apart) in
          record {
            has = held.has;
            stands = subst (λ (y : ℕ). StandsFor m l.address_of u y) (sym word) held.stands;
          }
        where
          shift : (i k : ℕ) → (slot_offset c i + 4 ≤ slot_offset c k) ⊎ (slot_offset c k + 4 ≤ slot_offset c i) → (sp + slot_offset c i + 4 ≤ sp + slot_offset c k) ⊎ (sp + slot_offset c k + 4 ≤ sp + slot_offset c i)
          shift i k (inl e) = inl (omega (arith, e))
          shift i k (inr e) = inr (omega (arith, e))
      others k has (Register q) u n held = record { has = held.has; stands = held.stands }

  -- an argument into its word
  pub related_argument : (k x : ℕ) → k < outgoing_words c.function → IsRelated s a m stack l registers sp (store_4 flat (sp + argument_at k) x)
  related_argument k x lt =
      let at = argument_at k in
      let later = store_4 flat (sp + at) x in
      let g = ground m l flat in
      let h = ground m l later in
      let whole = placed_inside c in
      let o : Onward g h (sp + (frame_of c).cost) = record { after = later_none m l.address_of; frames = λ y le e. e; same = λ y le e. stored_other Sw flat (sp + at) x y (inr (omega (arith, le, lt, whole))) } in
      let given : SameGiven (caller_registers c registers flat sp) (caller_registers c registers later sp) = record {
        same = λ q e. saved_in_kept (frame_of c).outgoing (stored c) registers registers flat later sp 0 q (inr refl) (λ i lo hi. number_beside flat (sp + at) x 4 (sp + register_at (frame_of c).outgoing i) (inr (omega (arith, lt))));
      } in
      record {
        known = r.known;
        frame = record {
          holds = λ p v e. let held = r.frame.holds p v e in record { has = held.has; stands = subst (λ (y : ℕ). StandsFor m l.address_of v y) (sym (word p)) held.stands };
          words = r.frame.words;
          private = r.frame.private;
          placed = r.frame.placed;
          made = r.frame.made;
          apart = r.frame.apart;
        };
        in_room = r.in_room;
        above = stack_onward s g h stack (caller_registers c registers flat sp) (caller_registers c registers later sp) (sp + (frame_of c).cost) (sp + (frame_of c).cost) o (omega arith) given r.above;
        blocks = blocks_same s m l sp flat later (λ b i live le. stored_other Sw flat (sp + at) x (l.address_of b + i) (outside (l.address_of b + i) b i (r.blocks.lies.owned b i live le))) r.blocks;
        root = r.root;
      }
    where
      word : (p : Place) → word_in c registers (store_4 flat (sp + argument_at k) x) sp p ≡ word_in c registers flat sp p
      word (Slot i) = let behind = slot_behind c i in number_beside flat (sp + argument_at k) x 4 (sp + slot_offset c i) (inr (omega (arith, lt, behind)))
      word (Register q) = refl

      outside : (y b i : ℕ) → l.owner y ≡ cell_of b i → (y < sp + argument_at k) ⊎ (sp + argument_at k + 4 ≤ y)
      outside y b i e = ⊎_elim (λ below. inl below) (λ ge. ⊎_elim (λ below. absurd (not_both (l.owner y) b i (r.frame.private y (omega (arith, ge)) (omega (arith, below, lt))) e)) (λ far. inr far) (cases_lt y (sp + argument_at k + 4))) (cases_lt y (sp + argument_at k))

  -- a value into a register
  pub related_register : (q x : ℕ) (v : Value) → HasPlace c (Register q) → x < 2 ^ 32 → StandsFor m l.address_of v x → IsRelated s (record a { held = with_place a.held (Register q) (Some v) }) m stack l (with_value registers q x) sp flat
  related_register q x v has small stands =
      let g = ground m l flat in
      let o : Onward g g sp = record { after = later_none m l.address_of; frames = λ y le e. e; same = λ y le e. refl } in
      let here : StandsFor m l.address_of v (with_value registers q x q) = subst (λ (y : ℕ). StandsFor m l.address_of v y) (sym (value_here registers q x q refl)) stands in
      let given : SameGiven (caller_registers c registers flat sp) (caller_registers c (with_value registers q x) flat sp) = record {
        same = λ z e. saved_in_kept (frame_of c).outgoing (stored c) registers (with_value registers q x) flat flat sp 0 z (⊎_elim
            (λ i. inl (subst (λ (y : ℕ). IsAmong (stored c) y) (sym i) (has.1 (given_value q has.0 (subst (λ (y : ℕ). is_given y ≡ true) i e)))))
            (λ n. inr (value_there registers q x z n))
            (cases_eq z q)) (λ i lo hi. refl);
      } in
      record {
        known = r.known;
        frame = record {
          holds = hold_with c m l.address_of registers (with_value registers q x) flat flat sp a.held (Register q) v (record { has = has; stands = here }) others r.frame.holds;
          words = λ z e. ⊎_elim (λ i. let k = value_here registers q x z i in omega (arith, k, small)) (λ n. let k = value_there registers q x z n in let w = r.frame.words z e in omega (arith, k, w)) (cases_eq z q);
          private = r.frame.private;
          placed = r.frame.placed;
          made = r.frame.made;
          apart = r.frame.apart;
        };
        in_room = r.in_room;
        above = stack_onward s g g stack (caller_registers c registers flat sp) (caller_registers c (with_value registers q x) flat sp) sp (sp + (frame_of c).cost) o (omega arith) given r.above;
        blocks = r.blocks;
        root = r.root;
      }
    where
      others : (p : Place) (u : Value) → same_place p (Register q) ≡ false → IsHeld c m l.address_of registers flat sp p u → IsHeld c m l.address_of (with_value registers q x) flat sp p u
      others (Slot i) u n held = record { has = held.has; stands = held.stands }
      others (Register z) u n held =
          let word : with_value registers q x z ≡ registers z = value_there registers q x z (λ e. let t : true ≡ false = sym (ap (λ j. same_place (Register j) (Register q)) e ∙ place_same (Register q)) ∙ n in cc) in
          record { has = held.has; stands = subst (λ (y : ℕ). StandsFor m l.address_of u y) (sym word) held.stands }
