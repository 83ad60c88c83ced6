-- A register that is free for a temporary stays alone at its points.
use Rattle.std.proofs.Common.{◌≡◌, ℕ, zero, suc, ◌+◌, ◌*◌, ◌%◌, ◌^◌, ◌<◌, max, Bool, true, false, List, [], ◌∷◌, ◌++◌, take, length, set, get_or, refl, sym, ap, ◌∙◌, subst, ◌⊎◌, inl, inr, ⊎_elim, arith, replicate}
use Rattle.std.specs.Prelude.{bit_or, not, ◌&&◌, ◌||◌}
use Rattle.std.specs.Prelude.{Contains}
use Rattle.std.specs.Int.{bit_at, w32}
use Rattle.std.proofs.Math.ListN.{length-set}
use Rattle.std.proofs.lemmas.Bool.{cases_eq}
use Rattle.std.proofs.lemmas.Bool.Decides.{nat_tests}
use Rattle.std.proofs.lemmas.Nat.Bits.{bit_at-zero, bit_at_or, bit_at-lt, bit_at_set_same, bit_at_set_other}
use Rattle.std.proofs.lemmas.List.{take_more, length-replicate, get_or-set_same, get_or-set_other}
use Rattle.std.proofs.lemmas.List.Elements.{Contains-append_left, Contains-append_right, Contains-append_cases, Contains-push, Contains-push_cases, Contains-get_or}
use Rattle.qs_tac.specs.declared.instruction.Instruction.{Instruction}
use Rattle.qs_tac.specs.declared.places.Place.{Place}
use Rattle.qs_tac.specs.declared.places.Place.TheVariants.{Slot, Register}
use Rattle.qs_calls.specs.declared.parameter.Parameter.{Parameter}
use Rattle.qs_tac.specs.Holders.{is_saved_register}
use Rattle.qs_tac.specs.Places.{slots_from, is_for_values}
use Rattle.qs_alloc.specs.declared.rows.Side.TheVariants.{Written}
use Rattle.qs_alloc.specs.Rows.{Rows, row, ListsBelow, Names}
use Rattle.qs_alloc.specs.LiveRanges.{Lists}
use Rattle.qs_alloc.specs.Registers.{place_of, is_held_at_entry, HeldAt, PointsOf, Crosses, is_busy, TakenBy, MarkedBy, IsFree, IsTaken, Holder, Filled, Meets, Blocked, Further, Settled}
use Rattle.qs_alloc.proofs.RowLaws.{get_below}

-- bits
max_one : (x a b : ℕ) → x ≡ max a b → b < 2 → a ≡ 1 → x ≡ 1
max_one x a b e l f = omega arith

max_split : (x a b : ℕ) → x ≡ max a b → a < 2 → b < 2 → x ≡ 1 → (a ≡ 1) ⊎ (b ≡ 1)
max_split x a b e l m f = ⊎_elim (λ g. inl g) (λ ne. inr (omega arith)) (cases_eq a 1)

max_other : (x a b : ℕ) → x ≡ max a b → a < 2 → b ≡ 1 → x ≡ 1
max_other x a b e l f = omega arith

pub or_left : (a b r : ℕ) → bit_at a r ≡ 1 → bit_at (bit_or a b) r ≡ 1
or_left a b r e = max_one _ _ _ (bit_at_or a b r) (bit_at-lt b r) e

pub or_right : (a b r : ℕ) → bit_at b r ≡ 1 → bit_at (bit_or a b) r ≡ 1
or_right a b r e = max_other _ _ _ (bit_at_or a b r) (bit_at-lt a r) e

pub or_split : (a b r : ℕ) → bit_at (bit_or a b) r ≡ 1 → (bit_at a r ≡ 1) ⊎ (bit_at b r ≡ 1)
or_split a b r e = max_split _ _ _ (bit_at_or a b r) (bit_at-lt a r) (bit_at-lt b r) e

pub not_one : (a r : ℕ) → bit_at a r ≡ 0 → bit_at a r ≡ 1 → ⊥
not_one a r e f = apart (bit_at a r) e f
  where
    apart : (x : ℕ) → x ≡ 0 → x ≡ 1 → ⊥
    apart x g h = omega arith

-- one point
pub marked_set : (busy : List ℕ) (p r : ℕ) → p < length busy → r < 32 → MarkedBy (p ∷ []) r busy (set busy p (bit_or (get_or busy p 0) (1 * 2 ^ r % 4294967296)))
marked_set busy p r l m = record {
  size = length-set busy p _;
  there = λ q d. subst (λ (i : ℕ). is_busy now i r ≡ 1) (is_p q d) (at_p r ∙ bit_at_set_same w32 (get_or busy p 0) r m);
  keeps = λ q s b. ⊎_elim (λ e. subst (λ (i : ℕ). is_busy now i s ≡ 1) (sym e) (at_p s ∙ or_left (get_or busy p 0) _ s (subst (λ (i : ℕ). is_busy busy i s ≡ 1) e b))) (λ ne. ap (λ (x : ℕ). bit_at x s) (get_or-set_other busy p q _ 0 ne) ∙ b) (cases_eq q p);
  from = λ q s b. ⊎_elim
      (λ e. ⊎_elim
      (λ (f : s ≡ r). inr (f, (0, omega arith, sym e)))
      (λ (f : s ≡ r → ⊥). inl (subst (λ (i : ℕ). is_busy busy i s ≡ 1) (sym e) (sym (bit_at_set_other w32 (get_or busy p 0) r m s f) ∙ sym (at_p s) ∙ subst (λ (i : ℕ). is_busy now i s ≡ 1) e b)))
      (cases_eq s r))
      (λ ne. inl (sym (ap (λ (x : ℕ). bit_at x s) (get_or-set_other busy p q _ 0 ne)) ∙ b))
      (cases_eq q p);
}
  where
    now : List ℕ
    now = set busy p (bit_or (get_or busy p 0) (1 * 2 ^ r % 4294967296))

    at_p : (s : ℕ) → is_busy (set busy p (bit_or (get_or busy p 0) (1 * 2 ^ r % 4294967296))) p s ≡ bit_at (bit_or (get_or busy p 0) (1 * 2 ^ r % 4294967296)) s
    at_p s = ap (λ (x : ℕ). bit_at x s) (get_or-set_same busy p (bit_or (get_or busy p 0) (1 * 2 ^ r % 4294967296)) 0 l)

    is_p : (q : ℕ) → Contains (p ∷ []) q → p ≡ q
    is_p q (zero, b, e) = e
    is_p q (suc k, b, e) = absurd (omega arith)

pub marked_more : (points : List ℕ) (k r : ℕ) (a b c : List ℕ) → k < length points → MarkedBy (take k points) r a b → MarkedBy (get_or points k 0 ∷ []) r b c → MarkedBy (take (k + 1) points) r a c
marked_more points k r a b c below x y = record {
  size = y.size ∙ x.size;
  there = λ p d. ⊎_elim (λ z. y.keeps p r (x.there p z)) (λ z. y.there p z) (Contains-append_cases (take k points) (get_or points k 0 ∷ []) p (subst (λ (xs : List ℕ). Contains xs p) (take_more points k 0 below) d));
  keeps = λ p s d. y.keeps p s (x.keeps p s d);
  from = λ p s d. ⊎_elim
      (λ z. ⊎_elim (λ w. inl w) (λ w. inr (w.0, whole p (Contains-append_left (take k points) (get_or points k 0 ∷ []) p w.1))) (x.from p s z))
      (λ z. inr (z.0, whole p (Contains-append_right (take k points) (get_or points k 0 ∷ []) p z.1)))
      (y.from p s d);
}
  where
    whole : (p : ℕ) → Contains (take k points ++ get_or points k 0 ∷ []) p → Contains (take (k + 1) points) p
    whole p d = subst (λ (xs : List ℕ). Contains xs p) (sym (take_more points k 0 below)) d

-- where a temporary may stand
stand_values : (a b : Bool) → (a && b) ≡ true → a ≡ true
stand_values true b e = refl
stand_values false b e = absurd (cc)

stand_right : (a b : Bool) → (a && b) ≡ true → b ≡ true
stand_right true b e = e
stand_right false b e = absurd (cc)

stand_saved : (a b : Bool) → (not a || b) ≡ true → a ≡ true → b ≡ true
stand_saved true b e f = e
stand_saved false b e f = absurd (cc)

stand_from : (own crosses saved : Bool) → own ≡ true → (crosses ≡ true → saved ≡ true) → (own && (not crosses || saved)) ≡ true
stand_from false crosses saved e h = absurd (cc)
stand_from true true saved e h = h refl
stand_from true false saved e h = refl

for_values_below : (r : ℕ) → is_for_values r ≡ true → r < 32
for_values_below r e = grind (arith, nat_tests)

pub all_taken : (crosses : Bool) (taken : ℕ) → ((q : ℕ) → q < 32 → IsTaken q crosses taken) → (r : ℕ) → IsTaken r crosses taken
all_taken crosses taken h r = record { taken_there = λ a. (h r (for_values_below r (stand_values (is_for_values r) _ a))).taken_there a }

-- the places, with t in register r
module _ (parameters : List Parameter) (code : List Instruction) (rows : Rows) (at : List Place) (busy now : List ℕ) (t r taken : ℕ) (crosses : Bool) (points : List ℕ)
    (below : t < length at) (slot : (s : ℕ) → place_of at t ≡ Register s → ⊥) (held : PointsOf parameters code t (row rows t) points)
    (crossing : Crosses code (row rows t) → crosses ≡ true) (took : TakenBy points busy taken) (free : IsFree r crosses taken) (marked : MarkedBy points r busy now)
    (filled : Filled parameters code rows at busy) where
  at_t : (u s : ℕ) → u ≡ t → place_of (set at t (Register r)) u ≡ Register s → s ≡ r
  at_t u s e f = same (sym f ∙ ap (λ (i : ℕ). get_or (set at t (Register r)) i (Slot 0)) e ∙ get_or-set_same at t (Register r) (Slot 0) below)
    where
      same : Register s ≡ Register r → s ≡ r
      same x = cc

  stands_t : (u : ℕ) → u ≡ t → place_of (set at t (Register r)) u ≡ Register r
  stands_t u e = ap (λ (i : ℕ). get_or (set at t (Register r)) i (Slot 0)) e ∙ get_or-set_same at t (Register r) (Slot 0) below

  other : (u : ℕ) → (u ≡ t → ⊥) → place_of (set at t (Register r)) u ≡ place_of at u
  other u ne = get_or-set_other at t u (Register r) (Slot 0) ne

  registers : (u s : ℕ) → place_of at u ≡ Register s → place_of (set at t (Register r)) u ≡ Register s
  registers u s e = ⊎_elim (λ f. absurd (slot s (subst (λ (i : ℕ). place_of at i ≡ Register s) f e))) (λ ne. other u ne ∙ e) (cases_eq u t)

  slots : (u k : ℕ) → place_of (set at t (Register r)) u ≡ Slot k → place_of at u ≡ Slot k
  slots u k e = ⊎_elim (λ f. absurd (no (sym (stands_t u f) ∙ e))) (λ ne. sym (other u ne) ∙ e) (cases_eq u t)
    where
      no : Register r ≡ Slot k → ⊥
      no x = cc

  -- nothing else holds r where t is held
  alone : (u p : ℕ) → place_of at u ≡ Register r → HeldAt parameters code u (row rows u) p → HeldAt parameters code t (row rows t) p → ⊥
  alone u p e h g = not_one taken r free.free (took.all p r (held.listed p g) (filled.busy_for u p r e h))

  further : Further at (set at t (Register r))
  further = record { size = length-set at t (Register r); registers = registers; slots = slots }

  holder_old : (s p : ℕ) → Holder parameters code rows at s p → Holder parameters code rows (set at t (Register r)) s p
  holder_old s p h = record { holder = h.holder; below = subst (λ (n : ℕ). h.holder < n) (sym (length-set at t (Register r))) h.below; stands = registers h.holder s h.stands; held = h.held }

  holder_new : (s p : ℕ) → s ≡ r → Contains points p → Holder parameters code rows (set at t (Register r)) s p
  holder_new s p e d = record { holder = t; below = subst (λ (n : ℕ). t < n) (sym (length-set at t (Register r))) below; stands = stands_t t refl ∙ ap Register (sym e); held = held.held p d }

  pub filled_more : Filled parameters code rows (set at t (Register r)) now
  filled_more = record {
    size = marked.size ∙ filled.size;
    holders = λ p s b. ⊎_elim (λ o. holder_old s p (filled.holders p s o)) (λ n. holder_new s p n.0 n.1) (marked.from p s b);
    busy_for = λ u p s e h. ⊎_elim
        (λ f. subst (λ (x : ℕ). is_busy now p x ≡ 1) (sym (at_t u s f e)) (marked.there p (held.listed p (subst (λ (i : ℕ). HeldAt parameters code i (row rows i) p) f h))))
        (λ ne. marked.keeps p s (filled.busy_for u p s (sym (other u ne) ∙ e) h))
        (cases_eq u t);
    stands = λ u s e. ⊎_elim
        (λ f. ap is_for_values (at_t u s f e) ∙ stand_values (is_for_values r) _ free.allowed)
        (λ ne. filled.stands u s (sym (other u ne) ∙ e))
        (cases_eq u t);
    kept = λ u s e x. ⊎_elim
        (λ f. ap is_saved_register (at_t u s f e) ∙ stand_saved crosses (is_saved_register r) (stand_right (is_for_values r) _ free.allowed) (crossing (subst (λ (i : ℕ). Crosses code (row rows i)) f x)))
        (λ ne. filled.kept u s (sym (other u ne) ∙ e) x)
        (cases_eq u t);
    apart = λ u v p s e f g h. ⊎_elim
        (λ a. ⊎_elim
        (λ b. a ∙ sym b)
        (λ nb. absurd (alone v p (sym (other v nb) ∙ f ∙ ap Register (at_t u s a e)) h (subst (λ (i : ℕ). HeldAt parameters code i (row rows i) p) a g)))
        (cases_eq v t))
        (λ na. ⊎_elim
        (λ b. absurd (alone u p (sym (other u na) ∙ e ∙ ap Register (at_t v s b f)) g (subst (λ (i : ℕ). HeldAt parameters code i (row rows i) p) b h)))
        (λ nb. filled.apart u v p s (sym (other u na) ∙ e) (sym (other v nb) ∙ f) g h)
        (cases_eq v t))
        (cases_eq u t);
  }

  pub settled_more : Settled parameters code rows t at (set at t (Register r)) now
  settled_more = record {
    filled = filled_more;
    further = further;
    blocked = record { each = λ k s e own kept. absurd (no k (sym (stands_t t refl) ∙ e)) };
  }
    where
      no : (k : ℕ) → Register r ≡ Slot k → ⊥
      no k x = cc

pub further_same : (at : List Place) → Further at at
further_same at = record { size = refl; registers = λ t r e. e; slots = λ t k e. e }

pub further_on : (at mid now : List Place) → Further at mid → Further mid now → Further at now
further_on at mid now x y = record { size = y.size ∙ x.size; registers = λ t r e. y.registers t r (x.registers t r e); slots = λ t k e. x.slots t k (y.slots t k e) }

pub blocked_on : (parameters : List Parameter) (code : List Instruction) (rows : Rows) (at now : List Place) (t : ℕ) → Further at now → Blocked parameters code rows at t → Blocked parameters code rows now t
blocked_on parameters code rows at now t x b = record {
  each = λ k r e own kept.
      let m : Meets parameters code rows at t r = b.each k r (x.slots t k e) own kept in
      record {
        point = m.point;
        held = m.held;
        holds = record { holder = m.holds.holder; below = subst (λ (n : ℕ). m.holds.holder < n) (sym x.size) m.holds.below; stands = x.registers m.holds.holder r m.holds.stands; held = m.holds.held };
      };
}

-- t stays where it is
pub settled_register : (parameters : List Parameter) (code : List Instruction) (rows : Rows) (at : List Place) (busy : List ℕ) (t : ℕ) → ((k : ℕ) → place_of at t ≡ Slot k → ⊥) → Filled parameters code rows at busy → Settled parameters code rows t at at busy
settled_register parameters code rows at busy t moved filled = record { filled = filled; further = further_same at; blocked = record { each = λ k s e own kept. absurd (moved k e) } }

pub settled_slot : (parameters : List Parameter) (code : List Instruction) (rows : Rows) (at : List Place) (busy : List ℕ) (t taken : ℕ) (crosses : Bool) (points : List ℕ) → PointsOf parameters code t (row rows t) points → (crosses ≡ true → Crosses code (row rows t)) → TakenBy points busy taken → ((r : ℕ) → IsTaken r crosses taken) → Filled parameters code rows at busy → Settled parameters code rows t at at busy
settled_slot parameters code rows at busy t taken crosses points held crossing took none filled = record {
  filled = filled;
  further = further_same at;
  blocked = record {
    each = λ k r e own kept.
        let b = took.from r ((none r).taken_there (stand_from (is_for_values r) crosses (is_saved_register r) own (λ x. kept (crossing x)))) in
        record { point = b.at; held = held.held b.at b.listed; holds = filled.holders b.at r b.busy_there };
  };
}

-- the points of t
pub held_below : (parameters : List Parameter) (code : List Instruction) (t : ℕ) (live : List ℕ) (p : ℕ) → ((q : ℕ) → Contains live q → q < length code) → HeldAt parameters code t live p → p < length code + 1
held_below parameters code t live p below h = by_why h.why
  where
    by_why : Contains live p ⊎ (Names Written code t p ⊎ ((p ≡ length code) × (is_held_at_entry parameters code t live ≡ true))) → p < length code + 1
    by_why (inl c) = let b = below p c in omega arith
    by_why (inr (inl n)) = let b = get_below code p n.instruction n.here in omega arith
    by_why (inr (inr e)) = let f : p ≡ length code = e.0 in omega arith

pub points_below : (parameters : List Parameter) (code : List Instruction) (t : ℕ) (live points : List ℕ) (n : ℕ) → ((q : ℕ) → Contains live q → q < length code) → PointsOf parameters code t live points → n ≡ length code + 1 → ListsBelow n points
points_below parameters code t live points n below held e = record { below = λ k l. let b = held_below parameters code t live (get_or points k 0) below (held.held (get_or points k 0) (Contains-get_or points k 0 l)) in omega arith }

pub points_two : (parameters : List Parameter) (code : List Instruction) (t : ℕ) (live writers none one two : List ℕ) → Lists Written code t writers → none ≡ [] → one ≡ none ++ live → two ≡ one ++ writers → ((is_held_at_entry parameters code t live ≡ true) → ⊥) → PointsOf parameters code t live two
points_two parameters code t live writers none one two w e f g outside = record {
  held = λ p c. ⊎_elim (λ x. record { why = inl x }) (λ x. record { why = inr (inl (w.names p x)) }) (Contains-append_cases live writers p (subst (λ (xs : List ℕ). Contains xs p) both c));
  listed = λ p h. by_why p h.why;
}
  where
    both : two ≡ live ++ writers
    both = g ∙ ap (λ (xs : List ℕ). xs ++ writers) (f ∙ ap (λ (xs : List ℕ). xs ++ live) e)

    by_why : (p : ℕ) → Contains live p ⊎ (Names Written code t p ⊎ ((p ≡ length code) × (is_held_at_entry parameters code t live ≡ true))) → Contains two p
    by_why p (inl c) = subst (λ (xs : List ℕ). Contains xs p) (sym both) (Contains-append_left live writers p c)
    by_why p (inr (inl n)) = subst (λ (xs : List ℕ). Contains xs p) (sym both) (Contains-append_right live writers p (w.named p n))
    by_why p (inr (inr x)) = absurd (outside x.1)

pub points_three : (parameters : List Parameter) (code : List Instruction) (t : ℕ) (live writers none one two three : List ℕ) → Lists Written code t writers → none ≡ [] → one ≡ none ++ live → two ≡ one ++ writers → three ≡ two ++ length code ∷ [] → (is_held_at_entry parameters code t live ≡ true) → PointsOf parameters code t live three
points_three parameters code t live writers none one two three w e f g h inside = record {
  held = λ p c. ⊎_elim
      (λ y. ⊎_elim (λ x. record { why = inl x }) (λ x. record { why = inr (inl (w.names p x)) }) (Contains-append_cases live writers p (subst (λ (xs : List ℕ). Contains xs p) both y)))
      (λ (y : length code ≡ p). record { why = inr (inr (sym y, inside)) })
      (Contains-push_cases two (length code) p (subst (λ (xs : List ℕ). Contains xs p) h c));
  listed = λ p x. subst (λ (xs : List ℕ). Contains xs p) (sym h) (by_why p x.why);
}
  where
    both : two ≡ live ++ writers
    both = g ∙ ap (λ (xs : List ℕ). xs ++ writers) (f ∙ ap (λ (xs : List ℕ). xs ++ live) e)

    by_why : (p : ℕ) → Contains live p ⊎ (Names Written code t p ⊎ ((p ≡ length code) × (is_held_at_entry parameters code t live ≡ true))) → Contains (two ++ length code ∷ []) p
    by_why p (inl c) = Contains-append_left two _ p (subst (λ (xs : List ℕ). Contains xs p) (sym both) (Contains-append_left live writers p c))
    by_why p (inr (inl n)) = Contains-append_left two _ p (subst (λ (xs : List ℕ). Contains xs p) (sym both) (Contains-append_right live writers p (w.named p n)))
    by_why p (inr (inr x)) = subst (Contains (two ++ length code ∷ [])) (sym x.0) (Contains-push two (length code))

-- ---- to begin with: slots alone, and no register is held

no_register_there : (first count t r : ℕ) → place_of (slots_from first count) t ≡ Register r → ⊥
no_register_there first zero t r e = cc
no_register_there first (suc count) zero r e = cc
no_register_there first (suc count) (suc t) r e = no_register_there (first + 1) count t r e

same_there : (n p x : ℕ) → get_or (replicate n x) p x ≡ x
same_there zero p x = refl
same_there (suc n) zero x = refl
same_there (suc n) (suc p) x = same_there n p x

none_held : (n p r : ℕ) → is_busy (replicate n 0) p r ≡ 1 → ⊥
none_held n p r e = not_one 0 r (bit_at-zero r) (ap (λ (x : ℕ). bit_at x r) (sym (same_there n p 0)) ∙ e)

pub filled_start :
    (parameters : List Parameter) (code : List Instruction) (rows : Rows) (count n : ℕ) (slots at : List Place) (masks busy : List ℕ)
    → at ≡ slots → slots ≡ slots_from 0 count → busy ≡ masks → masks ≡ replicate n 0 → n ≡ length code + 1
    → Filled parameters code rows at busy
filled_start parameters code rows count n slots at masks busy a s b m e =
    subst (λ (l : List Place). Filled parameters code rows l busy) (sym (a ∙ s))
    (subst (λ (l : List ℕ). Filled parameters code rows (slots_from 0 count) l) (sym (b ∙ m))
    (record {
      size = length-replicate n 0 ∙ e;
      holders = λ p r h. absurd (none_held n p r h);
      busy_for = λ t p r g h. absurd (no_register_there 0 count t r g);
      stands = λ t r g. absurd (no_register_there 0 count t r g);
      kept = λ t r g h. absurd (no_register_there 0 count t r g);
      apart = λ t u p r g h i j. absurd (no_register_there 0 count t r g);
    }))
