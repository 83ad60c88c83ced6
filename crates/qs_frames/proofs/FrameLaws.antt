-- Where the parts of a frame lie.
use Rattle.std.proofs.Common.{◌≡◌, ◌≢◌, ◌⊎◌, inl, inr, ⊎_elim, ℕ, zero, suc, ◌+◌, ◌*◌, ◌/◌, ◌%◌, ◌==◌, ◌&&◌, ◌<◌, ◌≤◌, not, Bool, true, false, List, [], ◌∷◌, length, Option, Some, None, refl, sym, ap, ◌∙◌, arith}
use Rattle.std.specs.Prelude.{nat_lt, nat_le, ◌||◌, ◌++◌, if◌then◌else◌, slice_get, slice_index_or, unwrap_or}
use Rattle.std.specs.List.{list_all, list_any}
use Rattle.std.specs.Option.{option_or}
use Rattle.std.proofs.lemmas.Bool.{cases_lt, and_parts}
use Rattle.std.proofs.lemmas.Bool.Decides.{nat_tests}
use Rattle.qs_calls.specs.declared.callee.Callee.TheVariants.{Function}
use Rattle.qs_tac.specs.Trees.{InstructionTree, call, TacFunctionTree}
use Rattle.qs_tac.specs.Places.{PlacesTree, place_of, slots_from, slots_among, slot_count, may_stand, Accepted, own_slots, keep_values}
use Rattle.qs_tac.proofs.NeedLaws.{own_slot}
use Rattle.qs_tac.specs.Sizes.{values, reach}
use Rattle.qs_tac.specs.Holders.{same_place}
use Rattle.qs_tac.specs.declared.places.Place.{Place}
use Rattle.qs_tac.specs.declared.places.Place.TheVariants.{Slot, Register}
use Rattle.qs_frames.specs.Layout.{rounded, total, offset, outgoing_words, is_among, used_among, saved_registers, used_registers, kept, calls_function, keeps_return_address, return_words, return_register, stored_registers, behind_last, words_before_slots, slot_at, HasSlot, frame_words, frame_cost, layout}
use Rattle.qs_frames.specs.Laws.{Part, argument, register, slot, block, HasPart, part_from, part_end, CallsFunction, IsLaidOut}

-- ---- blocks

-- a rounded size is a multiple of 4, and at most 3 more
pub record IsRounded (size : ℕ) : Type 0 where
  pub aligned : rounded size % 4 ≡ 0
  pub enough : size ≤ rounded size
  pub least : rounded size ≤ size + 3

pub is_rounded : (size : ℕ) → IsRounded size
unfolding rounded
is_rounded size = record { aligned = omega arith; enough = omega arith; least = omega arith }

pub offset_aligned : (sizes : List ℕ) (i : ℕ) → offset sizes i % 4 ≡ 0
offset_aligned [] i = refl
offset_aligned (size ∷ sizes) zero = refl
offset_aligned (size ∷ sizes) (suc i) =
    let a : rounded size % 4 ≡ 0 = (is_rounded size).aligned in
    let b : offset sizes i % 4 ≡ 0 = offset_aligned sizes i in
    omega (arith, a, b)

-- a block ends before all of them do, and before each later one begins
pub offset_inside : (sizes : List ℕ) (i : ℕ) → i < length sizes → offset sizes i + slice_index_or sizes i 0 ≤ total sizes
offset_inside [] i h = absurd (omega arith)
offset_inside (size ∷ sizes) zero h =
    let a : size ≤ rounded size = (is_rounded size).enough in
    omega (arith, a)
offset_inside (size ∷ sizes) (suc i) h =
    let b : offset sizes i + slice_index_or sizes i 0 ≤ total sizes = offset_inside sizes i (omega arith) in
    omega (arith, b)

pub offset_before : (sizes : List ℕ) (i j : ℕ) → i < j → j < length sizes → offset sizes i + slice_index_or sizes i 0 ≤ offset sizes j
offset_before [] i j h l = absurd (omega arith)
offset_before (size ∷ sizes) i zero h l = absurd (omega arith)
offset_before (size ∷ sizes) zero (suc j) h l =
    let a : size ≤ rounded size = (is_rounded size).enough in
    omega (arith, a)
offset_before (size ∷ sizes) (suc i) (suc j) h l =
    let b : offset sizes i + slice_index_or sizes i 0 ≤ offset sizes j = offset_before sizes i j (omega arith) (omega arith) in
    omega (arith, b)

-- ---- the cost

pub record IsCost (words blocks : ℕ) : Type 0 where
  pub positive : 0 < frame_cost words blocks
  pub multiple : frame_cost words blocks % 16 ≡ 0
  pub bound : (kept : ℕ) → words ≤ 1 + kept → frame_cost words blocks ≤ 16 * ((4 + blocks + 4 * kept + 15) / 16)
  pub enough : 4 * words + blocks ≤ frame_cost words blocks

pub is_cost : (words blocks : ℕ) → IsCost words blocks
unfolding frame_cost
is_cost words blocks = record { positive = omega arith; multiple = omega arith; bound = λ kept h. omega (arith, h); enough = omega arith }

-- ---- the return address

pub few_return_words : (f : TacFunctionTree) (p : PlacesTree) → return_words f p ≤ 1
few_return_words f p = by (keeps_return_address f p)
  where
    by : (b : Bool) → (if b then 1 else 0) ≤ 1
    by true = omega arith
    by false = omega arith

pub few_words : (f : TacFunctionTree) (p : PlacesTree) → frame_words f p ≤ 1 + (kept p + outgoing_words f)
few_words f p = let few = few_return_words f p in omega (arith, few)

-- behind the arguments the return address' word, and one for each register that is given back
pub stored_words : (f : TacFunctionTree) (p : PlacesTree) → outgoing_words f + length (stored_registers f p) ≡ words_before_slots f p
stored_words f p = by (keeps_return_address f p)
  where
    by : (b : Bool) → outgoing_words f + length (return_register b ++ used_registers p) ≡ outgoing_words f + (if b then 1 else 0) + length (used_registers p)
    by true = omega arith
    by false = omega arith

-- a function that calls another keeps its return address
pub caller_keeps : (f : TacFunctionTree) (p : PlacesTree) → CallsFunction f → keeps_return_address f p ≡ true
unfolding keeps_return_address
caller_keeps f p h = either (list_any calls_function f.code) _ (found f.code h.at h.is)
  where
    either : (a b : Bool) → a ≡ true → a || b ≡ true
    either true b e = refl
    either false b e = cc

    more : (a b : Bool) → b ≡ true → a || b ≡ true
    more true b e = refl
    more false b e = e

    found : (code : List InstructionTree) (k : ℕ) → slice_get code k ≡ Some (call h.x (Function h.callee) h.arguments) → list_any calls_function code ≡ true
    found [] k e = absurd cc
    found (i ∷ code) zero e = ap (λ (j : InstructionTree). calls_function j || list_any calls_function code) (same i e)
      where
        same : (i : InstructionTree) → Some i ≡ Some (call h.x (Function h.callee) h.arguments) → i ≡ call h.x (Function h.callee) h.arguments
        same i e = cc
    found (i ∷ code) (suc k) e = more (calls_function i) (list_any calls_function code) (found code k e)

-- in a frame without the return address each word before the blocks, and each block, begins in the reach of an immediate
pub in_reach : (f : TacFunctionTree) (p : PlacesTree) → keeps_return_address f p ≡ false → (return_words f p ≡ 0) × (4 * (outgoing_words f + kept p) + total f.blocks < reach)
unfolding keeps_return_address
in_reach f p h =
    let parts = or_parts (list_any calls_function f.code) (nat_le reach (4 * (outgoing_words f + kept p) + total f.blocks)) h in
    let far : nat_le reach (4 * (outgoing_words f + kept p) + total f.blocks) ≡ false = parts.1 in
    (ap (λ (b : Bool). if b then 1 else 0) h, grind (arith, nat_tests, far))
  where
    or_parts : (a b : Bool) → (a || b) ≡ false → (a ≡ false) × (b ≡ false)
    or_parts true b e = absurd cc
    or_parts false b e = (refl, e)

-- ---- slots

-- two numbers that differ
by_order : (i j : ℕ) (A : Type 0) → (i ≡ j → ⊥) → (i < j → A) → (j < i → A) → A
by_order i j A differ less more = ⊎_elim less (λ h. more (last h)) (cases_lt i j)
  where
    last : j ≤ i → j < i
    last h = grind (arith, differ)

-- what is behind the last temporary in a slot is known of the places behind, or it is the next one's
next_last :
    (rest : Option ℕ) (p : Place) (k count n : ℕ) → option_or rest (if same_place p (Slot k) then Some count else None) ≡ Some n
    → (rest ≡ Some n) ⊎ ((same_place p (Slot k) ≡ true) × (n ≡ count))
next_last (Some m) p k count n e = inl e
next_last None p k count n e = by (same_place p (Slot k)) refl e
  where
    by :
        (b : Bool) → same_place p (Slot k) ≡ b → (if b then Some count else None) ≡ Some n
        → (None ≡ Some n) ⊎ ((same_place p (Slot k) ≡ true) × (n ≡ count))
    by true s f = inr (s, cc)
    by false s f = cc

-- the places from one on have no more slots than all
more_slots : (p : Place) (places : List Place) → slots_among places ≤ slots_among (p ∷ places)
more_slots (Slot k) places = omega arith
more_slots (Register r) places = omega arith

in_slot : (p : Place) (k : ℕ) → same_place p (Slot k) ≡ true → p ≡ Slot k
in_slot (Slot l) k e = ap Slot (grind (arith, nat_tests, e))
in_slot (Register r) k e = absurd cc

one_more_slot : (p : Place) (k : ℕ) (places : List Place) → same_place p (Slot k) ≡ true → slots_among (p ∷ places) ≡ suc (slots_among places)
one_more_slot p k places e = ap (λ (q : Place). slots_among (q ∷ places)) (in_slot p k e)

pub behind_below : (places : List Place) (k n : ℕ) → behind_last places k ≡ Some n → n < slots_among places
behind_below [] k n e = absurd cc
behind_below (p ∷ places) k n e = ⊎_elim (λ f. later (behind_below places k n f)) here (next_last (behind_last places k) p k (slots_among places) n e)
  where
    later : n < slots_among places → n < slots_among (p ∷ places)
    later b = let m = more_slots p places in omega (arith, b, m)

    here : (same_place p (Slot k) ≡ true) × (n ≡ slots_among places) → n < slots_among (p ∷ places)
    here f = let m = one_more_slot p k places f.0 in let e = f.1 in omega (arith, m, e)

same_slot : (p : Place) (i k : ℕ) → same_place p (Slot i) ≡ true → same_place p (Slot k) ≡ true → i ≡ k
same_slot p i k g h = same (sym (in_slot p i g) ∙ in_slot p k h)
  where
    same : Slot i ≡ Slot k → i ≡ k
    same s = cc

none_behind_all : (places : List Place) (k n : ℕ) → behind_last places k ≡ Some n → n ≡ slots_among places → ⊥
none_behind_all places k n e is = let b = behind_below places k n e in omega (arith, b, is)

behind_apart : (places : List Place) (i k n : ℕ) → behind_last places i ≡ Some n → behind_last places k ≡ Some n → i ≡ k
behind_apart [] i k n e f = absurd cc
behind_apart (p ∷ places) i k n e f =
    ⊎_elim
    (λ g. ⊎_elim (λ h. behind_apart places i k n g h) (λ h. absurd (none_behind_all places i n g h.1)) (next_last (behind_last places k) p k (slots_among places) n f))
    (λ g. ⊎_elim (λ h. absurd (none_behind_all places k n h g.1)) (λ h. same_slot p i k g.0 h.0) (next_last (behind_last places k) p k (slots_among places) n f))
    (next_last (behind_last places i) p i (slots_among places) n e)

-- a temporary in a slot has as many behind the last one in it as come behind itself, or fewer
pub record IsBehind (places : List Place) (k t : ℕ) : Type 0 where
  pub behind : ℕ
  pub last : behind_last places k ≡ Some behind
  pub near : behind + t < length places

few_slots : (places : List Place) → slots_among places ≤ length places
few_slots [] = omega arith
few_slots (Slot k ∷ places) = let rest : slots_among places ≤ length places = few_slots places in omega (arith, rest)
few_slots (Register r ∷ places) = let rest : slots_among places ≤ length places = few_slots places in omega (arith, rest)

pub is_behind : (places : List Place) (t k : ℕ) → slice_get places t ≡ Some (Slot k) → IsBehind places k t
is_behind [] t k e = absurd cc
is_behind (p ∷ places) zero k e = by (behind_last places k) refl
  where
    is : p ≡ Slot k
    is = cc

    test : same_place p (Slot k) ≡ true
    test = ap (λ q. same_place q (Slot k)) is ∙ (let s : (k == k) ≡ true = grind (arith, nat_tests) in s)

    by : (rest : Option ℕ) → behind_last places k ≡ rest → IsBehind (p ∷ places) k zero
    by (Some n) f =
        let b = behind_below places k n f in let s = few_slots places in
        record { behind = n; last = ap (λ o. option_or o (if same_place p (Slot k) then Some (slots_among places) else None)) f; near = omega (arith, b, s) }
    by None f =
        let s = few_slots places in
        record {
          behind = slots_among places;
          last =
              ap (λ o. option_or o (if same_place p (Slot k) then Some (slots_among places) else None)) f
              ∙ ap (λ (b : Bool). if b then Some (slots_among places) else None) test;
          near = omega (arith, s);
        }
is_behind (p ∷ places) (suc t) k e =
    let r = is_behind places t k e in
    let near = r.near in
    record {
      behind = r.behind;
      last = ap (λ o. option_or o (if same_place p (Slot k) then Some (slots_among places) else None)) r.last;
      near = omega (arith, near);
    }

-- ---- where slots lie

pub slot_is : (f : TacFunctionTree) (p : PlacesTree) (k : ℕ) (h : HasSlot p k) → slot_at f p k ≡ 4 * (words_before_slots f p + h.behind)
slot_is f p k h =
    let below : nat_lt k (slot_count p) ≡ true = (let l = h.below in grind (arith, nat_tests, l)) in
    ap (λ (b : Bool). 4 * (words_before_slots f p + (if b then unwrap_or (behind_last p.at k) 0 else 0))) below
    ∙ ap (λ o. 4 * (words_before_slots f p + unwrap_or o 0)) h.last

-- behind the registers, and before the blocks
pub slot_behind : (f : TacFunctionTree) (p : PlacesTree) (k : ℕ) → 4 * words_before_slots f p ≤ slot_at f p k
slot_behind f p k = by (if nat_lt k (slot_count p) then unwrap_or (behind_last p.at k) 0 else 0)
  where
    by : (n : ℕ) → 4 * words_before_slots f p ≤ 4 * (words_before_slots f p + n)
    by n = omega arith

pub slot_aligned : (f : TacFunctionTree) (p : PlacesTree) (k : ℕ) → slot_at f p k % 4 ≡ 0
slot_aligned f p k = by (words_before_slots f p + (if nat_lt k (slot_count p) then unwrap_or (behind_last p.at k) 0 else 0))
  where
    by : (n : ℕ) → 4 * n % 4 ≡ 0
    by n = omega arith

pub slot_inside : (f : TacFunctionTree) (p : PlacesTree) (k : ℕ) → HasSlot p k → slot_at f p k + 4 ≤ 4 * frame_words f p
slot_inside f p k h =
    let is = slot_is f p k h in
    let below = behind_below p.at k h.behind h.last in
    omega (arith, is, below)

pub slots_apart :
    (f : TacFunctionTree) (p : PlacesTree) (i j : ℕ) → HasSlot p i → HasSlot p j → (i ≡ j → ⊥)
    → (slot_at f p i + 4 ≤ slot_at f p j) ⊎ (slot_at f p j + 4 ≤ slot_at f p i)
slots_apart f p i j h k n =
    let a = slot_is f p i h in
    let b = slot_is f p j k in
    by_order h.behind k.behind ((slot_at f p i + 4 ≤ slot_at f p j) ⊎ (slot_at f p j + 4 ≤ slot_at f p i))
    (λ e. n (behind_apart p.at i j k.behind (h.last ∙ ap Some e) k.last))
    (λ l. inl (omega (arith, a, b, l))) (λ l. inr (omega (arith, a, b, l)))

-- ---- the slots of temporaries

-- a place for each temporary
pub one_place_each : (f : TacFunctionTree) (p : PlacesTree) → Accepted f p → length p.at ≡ f.temporaries
one_place_each f p (own_slots h) = ap length h ∙ slots_count 0 f.temporaries
  where
    slots_count : (first count : ℕ) → length (slots_from first count) ≡ count
    slots_count first zero = refl
    slots_count first (suc count) = ap suc (slots_count (first + 1) count)
one_place_each f p (keep_values h) = h.one_place_each

pub place_got : (p : PlacesTree) (t : ℕ) → t < length p.at → slice_get p.at t ≡ Some (place_of p t)
place_got p t h = got p.at t (Slot t) h
  where
    got : (places : List Place) (t : ℕ) (none : Place) → t < length places → slice_get places t ≡ Some (slice_index_or places t none)
    got [] t none h = absurd (omega (arith, h))
    got (q ∷ places) zero none h = refl
    got (q ∷ places) (suc t) none h = got places t none (omega (arith, h))

slots_counted : (first count : ℕ) → slots_among (slots_from first count) ≡ count
slots_counted first zero = refl
slots_counted first (suc count) = ap suc (slots_counted (first + 1) count)

-- the slot of a temporary in accepted places is one of the frame's
pub has_slot : (f : TacFunctionTree) (p : PlacesTree) → Accepted f p → (t k : ℕ) → t < f.temporaries → place_of p t ≡ Slot k → HasSlot p k
has_slot f p a t k h is =
    let count = one_place_each f p a in
    let b = is_behind p.at t k (place_got p t (omega (arith, h, count)) ∙ ap Some is) in
    record { below = below a; behind = b.behind; last = b.last }
  where
    slot_same : (i k : ℕ) → Slot i ≡ Slot k → i ≡ k
    slot_same i k e = cc

    below : Accepted f p → k < slot_count p
    below (own_slots own) =
        let own_place : place_of p t ≡ Slot t = own_slot f p own t in
        let same : t ≡ k = slot_same t k (sym own_place ∙ is) in
        let count : slot_count p ≡ f.temporaries = ap slots_among own ∙ slots_counted 0 f.temporaries in
        omega (arith, same, count, h)
    below (keep_values v) =
        let stands : nat_lt k (slot_count p) ≡ true = ap (may_stand (slot_count p)) (sym is) ∙ v.stand t h in
        grind (arith, nat_tests, stands)

-- and it lies before as many words as there are temporaries behind this one
pub slot_low : (f : TacFunctionTree) (p : PlacesTree) (t k : ℕ) → t < length p.at → place_of p t ≡ Slot k → slot_at f p k + 4 * (t + 1) ≤ 4 * (words_before_slots f p + length p.at)
slot_low f p t k h is =
    let b = is_behind p.at t k (place_got p t h ∙ ap Some is) in
    let near = b.near in
    let most : (if nat_lt k (slot_count p) then unwrap_or (behind_last p.at k) 0 else 0) ≤ b.behind =
    by (nat_lt k (slot_count p)) (ap (λ o. unwrap_or o 0) b.last) in
    omega (arith, near, most)
  where
    by : (c : Bool) {n : ℕ} → unwrap_or (behind_last p.at k) 0 ≡ n → (if c then unwrap_or (behind_last p.at k) 0 else 0) ≤ n
    by true e = omega (arith, e)
    by false e = omega arith

-- a slot that no frame has a word for lies as if it were the first
pub slot_past : (f : TacFunctionTree) (p : PlacesTree) (k : ℕ) → slot_count p ≤ k → slot_at f p k ≡ 4 * words_before_slots f p
slot_past f p k h =
    let past : nat_lt k (slot_count p) ≡ false = grind (arith, nat_tests, h) in
    let none : 4 * (words_before_slots f p + 0) ≡ 4 * words_before_slots f p = omega arith in
    ap (λ (b : Bool). 4 * (words_before_slots f p + (if b then unwrap_or (behind_last p.at k) 0 else 0))) past ∙ none

pub fewer_slots : (p : PlacesTree) → slot_count p ≤ length p.at
fewer_slots p = few_slots p.at

-- ---- parts

module _ (f : TacFunctionTree) (p : PlacesTree) where
  part_aligned : (a : Part) → HasPart f p a → part_from f p a % 4 ≡ 0
  part_aligned (argument i) h = omega arith
  part_aligned (register i) h = omega arith
  part_aligned (slot k) h = slot_aligned f p k
  part_aligned (block i) h =
      let o : offset f.blocks i % 4 ≡ 0 = offset_aligned f.blocks i in
      omega (arith, o)

  enough : 4 * frame_words f p + total f.blocks ≤ (layout f p).cost
  enough = (is_cost (frame_words f p) (total f.blocks)).enough

  -- registers lie before the slots
  register_before : (i : ℕ) → HasPart f p (register i) → part_end f p (register i) ≤ 4 * words_before_slots f p
  register_before i h = let w = stored_words f p in omega (arith, w, h)

  part_inside : (a : Part) → HasPart f p a → part_end f p a ≤ (layout f p).cost
  part_inside (argument i) h = let e = enough in omega (arith, e, h)
  part_inside (register i) h = let e = enough in let b = register_before i h in omega (arith, e, b)
  part_inside (slot k) h = let e = enough in let inside = slot_inside f p k h in omega (arith, e, inside)
  part_inside (block i) h =
      let e = enough in
      let o : offset f.blocks i + slice_index_or f.blocks i 0 ≤ total f.blocks = offset_inside f.blocks i h in
      omega (arith, e, o)

  abbrev AreApart : Part → Part → Type 0
  AreApart a b = (part_end f p a ≤ part_from f p b) ⊎ (part_end f p b ≤ part_from f p a)

  parts_apart : (a b : Part) → HasPart f p a → HasPart f p b → a ≢ b → AreApart a b
  parts_apart (argument i) (argument j) h k n =
      by_order i j (AreApart (argument i) (argument j)) (λ e. n (ap argument e)) (λ l. inl (omega (arith, l))) (λ l. inr (omega (arith, l)))
  parts_apart (argument i) (register j) h k n = inl (omega (arith, h))
  parts_apart (argument i) (slot j) h k n = inl (let b = slot_behind f p j in omega (arith, b, h))
  parts_apart (argument i) (block j) h k n = inl (omega (arith, h))
  parts_apart (register i) (argument j) h k n = inr (omega (arith, k))
  parts_apart (slot i) (argument j) h k n = inr (let b = slot_behind f p i in omega (arith, b, k))
  parts_apart (block i) (argument j) h k n = inr (omega (arith, k))
  parts_apart (register i) (register j) h k n =
      by_order i j (AreApart (register i) (register j)) (λ e. n (ap register e)) (λ l. inl (omega (arith, l))) (λ l. inr (omega (arith, l)))
  parts_apart (register i) (slot j) h k n = inl (let b = slot_behind f p j in let e = register_before i h in omega (arith, b, e))
  parts_apart (register i) (block j) h k n = inl (let e = register_before i h in omega (arith, e))
  parts_apart (slot i) (register j) h k n = inr (let b = slot_behind f p i in let e = register_before j k in omega (arith, b, e))
  parts_apart (slot i) (slot j) h k n = slots_apart f p i j h k (λ e. n (ap slot e))
  parts_apart (slot i) (block j) h k n = inl (let b = slot_inside f p i h in omega (arith, b))
  parts_apart (block i) (register j) h k n = inr (let e = register_before j k in omega (arith, e))
  parts_apart (block i) (slot j) h k n = inr (let b = slot_inside f p j k in omega (arith, b))
  parts_apart (block i) (block j) h k n =
      by_order i j (AreApart (block i) (block j)) (λ e. n (ap block e))
      (λ l. inl (let o = offset_before f.blocks i j l k in omega (arith, o)))
      (λ l. inr (let o = offset_before f.blocks j i l h in omega (arith, o)))

  part_near : keeps_return_address f p ≡ false → (a : Part) → HasPart f p a → part_from f p a < reach
  part_near e (argument i) h = let r = in_reach f p e in let below = r.1 in omega (arith, h, below)
  part_near e (register i) h = let w = stored_words f p in let r = in_reach f p e in let none = r.0 in let below = r.1 in omega (arith, w, h, none, below)
  part_near e (slot k) h = let inside = slot_inside f p k h in let r = in_reach f p e in let none = r.0 in let below = r.1 in omega (arith, inside, none, below)
  part_near e (block i) h = let inside = offset_inside f.blocks i h in let r = in_reach f p e in let none = r.0 in let below = r.1 in omega (arith, inside, none, below)

  pub frames_are_laid_out : IsLaidOut f p
  frames_are_laid_out = record {
    positive = (is_cost (frame_words f p) (total f.blocks)).positive;
    multiple = (is_cost (frame_words f p) (total f.blocks)).multiple;
    bound = (is_cost (frame_words f p) (total f.blocks)).bound (kept p + outgoing_words f) (few_words f p);
    aligned = part_aligned;
    inside = part_inside;
    apart = parts_apart;
    keeps = caller_keeps f p;
    near = part_near;
  }

-- ---- what is kept

abbrev is_outside : (r : ℕ) → List ℕ → Bool
is_outside r registers = list_all (λ q. not (r == q)) registers

-- no register is listed twice
abbrev are_different : List ℕ → Bool
are_different [] = true
are_different (q ∷ registers) = is_outside q registers && are_different registers

used_elsewhere :
    (r : ℕ) (places : List Place) (registers : List ℕ) → is_outside r registers ≡ true
    → used_among (Register r ∷ places) registers ≡ used_among places registers
used_elsewhere r places [] h = refl
used_elsewhere r places (q ∷ registers) h =
    let parts = and_parts (not (r == q)) (is_outside r registers) h in
    let other : (r == q) ≡ false = differ (r == q) parts.0 in
    let rest = used_elsewhere r places registers parts.1 in
    ap (λ (b : Bool). if (if b then true else is_among places q) then q ∷ used_among (Register r ∷ places) registers else used_among (Register r ∷ places) registers) other
    ∙ ap (λ (l : List ℕ). if is_among places q then q ∷ l else l) rest
  where
    differ : (b : Bool) → not b ≡ true → b ≡ false
    differ true e = absurd cc
    differ false e = refl

-- one more temporary in a register is at most one more register
used_with :
    (r : ℕ) (places : List Place) (registers : List ℕ) → are_different registers ≡ true
    → length (used_among (Register r ∷ places) registers) ≤ suc (length (used_among places registers))
used_with r places [] h = omega arith
used_with r places (q ∷ registers) h = by (used_with r places registers (and_parts (is_outside q registers) (are_different registers) h).1) (r == q) refl
  where
    more : (b : Bool) (m l : List ℕ) → length m ≤ suc (length l) → length (if b then q ∷ m else m) ≤ suc (length (if b then q ∷ l else l))
    more true m l e = omega (arith, e)
    more false m l e = e

    least : (b : Bool) (l : List ℕ) → length l ≤ length (if b then q ∷ l else l)
    least true l = omega arith
    least false l = omega arith

    by : length (used_among (Register r ∷ places) registers) ≤ suc (length (used_among places registers)) → (b : Bool) → (r == q) ≡ b → length (if (if b then true else is_among places q) then q ∷ used_among (Register r ∷ places) registers else used_among (Register r ∷ places) registers) ≤ suc (length (used_among places (q ∷ registers)))
    by further true e =
        let same : r ≡ q = grind (arith, nat_tests, e) in
        let rest : length (used_among (Register r ∷ places) registers) ≡ length (used_among places registers) =
        ap length (used_elsewhere r places registers (ap (λ (x : ℕ). is_outside x registers) same ∙ (and_parts (is_outside q registers) (are_different registers) h).0)) in
        let some = least (is_among places q) (used_among places registers) in
        omega (arith, rest, some)
    by further false e = more (is_among places q) _ _ further

kept_among : (places : List Place) (registers : List ℕ) → are_different registers ≡ true → length (used_among places registers) + slots_among places ≤ length places
kept_among [] registers h = let none : used_among [] registers ≡ [] = nothing registers in let e = ap length none in omega (arith, e)
  where
    nothing : (registers : List ℕ) → used_among [] registers ≡ []
    nothing [] = refl
    nothing (q ∷ registers) = nothing registers
kept_among (Slot k ∷ places) registers h =
    let same : used_among (Slot k ∷ places) registers ≡ used_among places registers = in_slots registers in
    let e = ap length same in
    let rest = kept_among places registers h in
    omega (arith, e, rest)
  where
    in_slots : (registers : List ℕ) → used_among (Slot k ∷ places) registers ≡ used_among places registers
    in_slots [] = refl
    in_slots (q ∷ registers) = ap (λ (l : List ℕ). if is_among places q then q ∷ l else l) (in_slots registers)
kept_among (Register r ∷ places) registers h =
    let more = used_with r places registers h in
    let rest = kept_among places registers h in
    omega (arith, more, rest)

saved_differ : are_different saved_registers ≡ true
saved_differ = refl

pub no_more_is_kept : (f : TacFunctionTree) (p : PlacesTree) → Accepted f p → kept p ≤ values f
no_more_is_kept f p h =
    let kept = kept_among p.at saved_registers saved_differ in
    let count = one_place_each f p h in
    omega (arith, kept, count)
