-- The offsets of blocks as a list, and how many places of a kind there are.
use Rattle.std.proofs.Common.{◌≡◌, ℕ, zero, suc, ◌+◌, ◌*◌, ◌<◌, ◌≤◌, ◌==◌, ◌⊎◌, inl, inr, List, [], ◌∷◌, ◌++◌, length, length-set, drop, replicate, set, Option, Some, None, refl, ap, sym, subst, ◌∙◌, Bool, true, false, add-zero, arith}
use Rattle.std.specs.Prelude.{nat_lt, slice_index_or, unwrap_or, if◌then◌else◌}
use Rattle.std.specs.Option.{option_or}
use Rattle.std.proofs.lemmas.Bool.{cases_lt}
use Rattle.std.proofs.lemmas.Bool.Decides.{nat_tests}
use Rattle.std.proofs.lemmas.List.{append-nil, length-replicate}
use Rattle.qs_tac.specs.Places.{PlacesTree, slots_among, slot_count}
use Rattle.qs_tac.specs.Holders.{same_place}
use Rattle.qs_tac.specs.declared.places.Place.{Place}
use Rattle.qs_tac.specs.declared.places.Place.TheVariants.{Slot, Register}
use Rattle.qs_tac.specs.Trees.{TacFunctionTree}
use Rattle.qs_frames.specs.Layout.{rounded, frame_words, layout, total, offset, is_among, used_among, saved_registers, used_registers, kept, behind_last, words_before_slots, slot_at}
use Rattle.qs_frames.specs.declared.blocks.Starts.{Starts}
use Rattle.qs_frames.specs.Starts.{BeginAt, AreStarts}
use Rattle.qs_frames.proofs.FrameLaws.{is_rounded, is_cost, few_return_words, behind_below}

abbrev pub offsets_from : (at : ℕ) → (sizes : List ℕ) → List ℕ
offsets_from at [] = []
offsets_from at (size ∷ sizes) = at ∷ offsets_from (at + rounded size) sizes

-- the starts so far and those of the rest are those of all, and the rest ends where all do
pub record GivesStarts (first : ℕ) (sizes at : List ℕ) (end : ℕ) (rest : List ℕ) : Type 0 where
  pub all : at ++ offsets_from end rest ≡ offsets_from first sizes
  pub ends : end + total rest ≡ first + total sizes

start_among :
    (at : ℕ) (sizes : List ℕ) (i : ℕ) → slice_index_or (offsets_from at sizes) i (at + total sizes) ≡ at + offset sizes i
start_among at [] i = refl
start_among at (size ∷ sizes) zero = omega arith
start_among at (size ∷ sizes) (suc i) =
    let rest : slice_index_or (offsets_from (at + rounded size) sizes) i ((at + rounded size) + total sizes)
    ≡ (at + rounded size) + offset sizes i =
    start_among (at + rounded size) sizes i in
    let same : at + (rounded size + total sizes) ≡ (at + rounded size) + total sizes = omega arith in
    let moved : slice_index_or (offsets_from (at + rounded size) sizes) i (at + (rounded size + total sizes))
    ≡ (at + rounded size) + offset sizes i =
    ap (λ (e : ℕ). slice_index_or (offsets_from (at + rounded size) sizes) i e) same ∙ rest in
    omega (arith, moved)

pub slots_most : (places : List Place) → slots_among places ≤ length places
slots_most [] = omega arith
slots_most (Slot k ∷ places) =
    let rest : slots_among places ≤ length places = slots_most places in
    omega (arith, rest)
slots_most (Register r ∷ places) =
    let rest : slots_among places ≤ length places = slots_most places in
    omega (arith, rest)

one_more :
    (used : List ℕ) (r n : ℕ) (b : Bool) → length used ≤ n → length (if b then r ∷ used else used) ≤ suc n
one_more used r n true h = omega (arith, h)
one_more used r n false h = omega (arith, h)

pub used_most : (places : List Place) (registers : List ℕ) → length (used_among places registers) ≤ length registers
used_most places [] = omega arith
used_most places (r ∷ registers) =
    one_more (used_among places registers) r (length registers) (is_among places r) (used_most places registers)

pub next_fits :
    (now sizes : List ℕ) (k : ℕ) → now ≡ sizes → k < length now → slice_index_or now k 0 ≤ total (drop k sizes)
next_fits now sizes k same h =
    subst (λ l. k < length l → slice_index_or l k 0 ≤ total (drop k sizes)) (sym same) (first_fits sizes k) h
  where
    first_fits : (sizes : List ℕ) (k : ℕ) → k < length sizes → slice_index_or sizes k 0 ≤ total (drop k sizes)
    first_fits [] k h = absurd (omega arith)
    first_fits (size ∷ sizes) zero h =
        let enough : size ≤ rounded size = (is_rounded size).enough in
        omega (arith, enough)
    first_fits (size ∷ sizes) (suc k) h = first_fits sizes k (omega arith)

pub none_left : (now sizes : List ℕ) (k : ℕ) → now ≡ sizes → length now ≤ k → drop k sizes ≡ []
none_left now sizes k same h = past sizes k (subst (λ l. length l ≤ k) same h)
  where
    past : (sizes : List ℕ) (k : ℕ) → length sizes ≤ k → drop k sizes ≡ []
    past [] zero h = refl
    past [] (suc k) h = refl
    past (size ∷ sizes) zero h = absurd (omega arith)
    past (size ∷ sizes) (suc k) h = past sizes k (omega arith)

pub frame_has_room : (f : TacFunctionTree) (p : PlacesTree) → 4 * frame_words f p + total f.blocks ≤ (layout f p).cost
frame_has_room f p = (is_cost (frame_words f p) (total f.blocks)).enough

pub slots_are_kept : (p : PlacesTree) → slots_among p.at ≤ kept p
slots_are_kept p = omega arith

pub few_are_kept : (p : PlacesTree) → kept p ≤ 12 + slots_among p.at
few_are_kept p =
    let used : length (used_registers p) ≤ 12 = used_most p.at saved_registers in
    omega (arith, used)

pub starts_end :
    (first : ℕ) (sizes : List ℕ) (starts : Starts) (rest : List ℕ) → rest ≡ []
    → GivesStarts first sizes starts.at.items starts.end rest → AreStarts first sizes starts
starts_end first sizes starts rest none h = record {
  each = λ i.
      let all : starts.at.items ++ [] ≡ offsets_from first sizes =
      ap (λ r. starts.at.items ++ offsets_from starts.end r) (sym none) ∙ h.all in
      let same : starts.at.items ≡ offsets_from first sizes = sym (append-nil starts.at.items) ∙ all in
      let last : starts.end ≡ first + total sizes =
      sym (add-zero starts.end) ∙ (ap (λ r. starts.end + total r) (sym none) ∙ h.ends) in
      ap (λ (l : List ℕ). slice_index_or l i starts.end) same
      ∙ (ap (λ (e : ℕ). slice_index_or (offsets_from first sizes) i e) last ∙ start_among first sizes i);
}

-- ---- slots

-- one place more is looked at
pub last_goes_on :
    (all rest : List Place) (p : Place) (slot behind last : ℕ) → all ≡ p ∷ rest
    → unwrap_or (behind_last all slot) behind ≡ last
    → unwrap_or (behind_last rest slot) (if same_place p (Slot slot) then slots_among rest else behind) ≡ last
last_goes_on all rest p slot behind last is h = same (behind_last rest slot) (same_place p (Slot slot)) ∙ (ap (λ (l : List Place). unwrap_or (behind_last l slot) behind) (sym is) ∙ h)
  where
    same :
        (o : Option ℕ) (b : Bool)
        → unwrap_or o (if b then slots_among rest else behind) ≡ unwrap_or (option_or o (if b then Some (slots_among rest) else None)) behind
    same (Some n) b = refl
    same None true = refl
    same None false = refl

pub behind_most : (places : List Place) (k : ℕ) → unwrap_or (behind_last places k) 0 ≤ slots_among places
behind_most places k = by (behind_last places k) refl
  where
    by : (o : Option ℕ) → behind_last places k ≡ o → unwrap_or o 0 ≤ slots_among places
    by None e = omega arith
    by (Some n) e = let b = behind_below places k n e in omega (arith, b)

pub first_slot : (f : TacFunctionTree) (p : PlacesTree) → slot_at f p 0 ≡ 4 * (words_before_slots f p + unwrap_or (behind_last p.at 0) 0)
first_slot f p = by (nat_lt 0 (slot_count p)) refl
  where
    by : (b : Bool) → nat_lt 0 (slot_count p) ≡ b → 4 * (words_before_slots f p + (if b then unwrap_or (behind_last p.at 0) 0 else 0)) ≡ 4 * (words_before_slots f p + unwrap_or (behind_last p.at 0) 0)
    by true e = refl
    by false e =
        let none : slot_count p ≤ 0 = grind (arith, nat_tests, e) in
        let most = behind_most p.at 0 in
        omega (arith, none, most)

-- where a slot lies, if these places are still to be looked at
abbrev laid_by : (words : ℕ) → Option ℕ → (stands : ℕ) → ℕ
laid_by words None stands = stands
laid_by words (Some n) stands = 4 * (words + n)

-- once the rest is looked at, the slots lie where they are to
pub record AreSlotsFrom (f : TacFunctionTree) (p : PlacesTree) (rest : List Place) (at : List ℕ) : Type 0 where
  pub count : length at ≡ slot_count p
  pub each : (k : ℕ) → k < slot_count p → laid_by (words_before_slots f p) (behind_last rest k) (slice_index_or at k 0) ≡ slot_at f p k

pub slots_begin : (f : TacFunctionTree) (p : PlacesTree) (before : ℕ) → before ≡ 4 * words_before_slots f p → AreSlotsFrom f p p.at (replicate (slot_count p) before)
slots_begin f p before is = record {
  count = length-replicate (slot_count p) before;
  each = λ k h.
      let below : nat_lt k (slot_count p) ≡ true = grind (arith, nat_tests, h) in
      ap (laid_by (words_before_slots f p) (behind_last p.at k)) (each_is (slot_count p) k h)
      ∙ (by (behind_last p.at k) ∙ ap (λ (b : Bool). 4 * (words_before_slots f p + (if b then unwrap_or (behind_last p.at k) 0 else 0))) (sym below));
}
  where
    each_is : (count k : ℕ) → k < count → slice_index_or (replicate count before) k 0 ≡ before
    each_is zero k h = absurd (omega (arith, h))
    each_is (suc count) zero h = refl
    each_is (suc count) (suc k) h = each_is count k (omega (arith, h))

    by : (o : Option ℕ) → laid_by (words_before_slots f p) o before ≡ 4 * (words_before_slots f p + unwrap_or o 0)
    by None = omega (arith, is)
    by (Some n) = refl

-- a temporary in a register is passed over
pub slots_pass : (f : TacFunctionTree) (p : PlacesTree) (all rest : List Place) (r : ℕ) (at : List ℕ) → all ≡ Register r ∷ rest → AreSlotsFrom f p all at → AreSlotsFrom f p rest at
slots_pass f p all rest r at is h = record {
  count = h.count;
  each = λ k l. ap (λ o. laid_by (words_before_slots f p) o (slice_index_or at k 0)) (none (behind_last rest k)) ∙ (ap (λ (m : List Place). laid_by (words_before_slots f p) (behind_last m k) (slice_index_or at k 0)) (sym is) ∙ h.each k l);
}
  where
    none : (o : Option ℕ) → o ≡ option_or o None
    none None = refl
    none (Some n) = refl

-- one in a slot says where the slot lies, unless another one comes behind it
pub slots_go_on :
    (f : TacFunctionTree) (p : PlacesTree) (all rest : List Place) (j : ℕ) (at : List ℕ) (lies : ℕ) → all ≡ Slot j ∷ rest
    → lies ≡ 4 * (words_before_slots f p + slots_among rest) → AreSlotsFrom f p all at → AreSlotsFrom f p rest (set at j lies)
slots_go_on f p all rest j at lies is e h = record {
  count = length-set at j lies ∙ h.count;
  each = λ k l.
      by k (behind_last rest k) (j == k) refl l
      ∙ (ap (λ (m : List Place). laid_by (words_before_slots f p) (behind_last m k) (slice_index_or at k 0)) (sym is) ∙ h.each k l);
}
  where
    here : (l : List ℕ) (k : ℕ) → k < length l → slice_index_or (set l k lies) k 0 ≡ lies
    here [] k h = absurd (omega (arith, h))
    here (x ∷ l) zero h = refl
    here (x ∷ l) (suc k) h = here l k (omega (arith, h))

    there : (l : List ℕ) (i k : ℕ) → (i ≡ k → ⊥) → slice_index_or (set l i lies) k 0 ≡ slice_index_or l k 0
    there [] i k n = refl
    there (x ∷ l) zero zero n = absurd (n refl)
    there (x ∷ l) zero (suc k) n = refl
    there (x ∷ l) (suc i) zero n = refl
    there (x ∷ l) (suc i) (suc k) n = there l i k (λ e. n (ap suc e))

    by :
        (k : ℕ) (o : Option ℕ) (b : Bool) → (j == k) ≡ b → k < slot_count p
        → laid_by (words_before_slots f p) o (slice_index_or (set at j lies) k 0)
        ≡ laid_by (words_before_slots f p) (option_or o (if j == k then Some (slots_among rest) else None)) (slice_index_or at k 0)
    by k (Some n) b t l = refl
    by k None true t l =
        let same : j ≡ k = grind (arith, nat_tests, t) in
        let count = h.count in
        ap (λ (i : ℕ). slice_index_or (set at i lies) k 0) same ∙ (here at k (omega (arith, count, l)) ∙ (e ∙ ap (λ (b : Bool). laid_by (words_before_slots f p) (if b then Some (slots_among rest) else None) (slice_index_or at k 0)) (sym t)))
    by k None false t l =
        let other : j ≡ k → ⊥ = grind (arith, nat_tests, t) in
        there at j k other ∙ ap (λ (b : Bool). laid_by (words_before_slots f p) (if b then Some (slots_among rest) else None) (slice_index_or at k 0)) (sym t)

pub slots_are_laid :
    (f : TacFunctionTree) (p : PlacesTree) (starts : Starts) (rest : List Place) → rest ≡ [] → starts.end ≡ 4 * words_before_slots f p
    → AreSlotsFrom f p rest starts.at.items → BeginAt starts (slot_at f p)
slots_are_laid f p starts rest none end h k = by (cases_lt k (slot_count p))
  where
    past : (l : List ℕ) (k d : ℕ) → length l ≤ k → slice_index_or l k d ≡ d
    past [] k d h = refl
    past (x ∷ l) zero d h = absurd (omega (arith, h))
    past (x ∷ l) (suc k) d h = past l k d (omega (arith, h))

    within : (l : List ℕ) (k d e : ℕ) → k < length l → slice_index_or l k d ≡ slice_index_or l k e
    within [] k d e h = absurd (omega (arith, h))
    within (x ∷ l) zero d e h = refl
    within (x ∷ l) (suc k) d e h = within l k d e (omega (arith, h))

    by : (k < slot_count p) ⊎ (slot_count p ≤ k) → slice_index_or starts.at.items k starts.end ≡ slot_at f p k
    by (inl l) =
        let count = h.count in
        within starts.at.items k starts.end 0 (omega (arith, count, l))
        ∙ (ap (λ (m : List Place). laid_by (words_before_slots f p) (behind_last m k) (slice_index_or starts.at.items k 0)) (sym none) ∙ h.each k l)
    by (inr l) =
        let count = h.count in
        let above : nat_lt k (slot_count p) ≡ false = grind (arith, nat_tests, l) in
        let none_more : 4 * words_before_slots f p ≡ 4 * (words_before_slots f p + 0) = omega arith in
        past starts.at.items k starts.end (omega (arith, count, l))
        ∙ (end ∙ (none_more ∙ ap (λ (b : Bool). 4 * (words_before_slots f p + (if b then unwrap_or (behind_last p.at k) 0 else 0))) (sym above)))

pub ruleset frame_sizes = (frame_has_room, few_return_words, slots_are_kept, few_are_kept)
