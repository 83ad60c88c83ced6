-- The test of places says what accepted places are.
use Rattle.std.proofs.Common.{◌≡◌, ◌↔◌, ℕ, zero, suc, ◌+◌, ◌<◌, ◌≤◌, ◌==◌, ◌||◌, not, Bool, true, false, List, [], ◌∷◌, length, Option, Some, None, refl, sym, ◌∙◌, subst, ◌⊎◌, inl, inr, arith}
use Rattle.std.specs.Prelude.{Contains}
use Rattle.std.specs.List.{slice_get, list_all}
use Rattle.std.proofs.lemmas.List.Elements.{Contains-get_or, at_from_Contains}
use Rattle.qs_calls.specs.declared.parameter.Parameter.{Parameter}
use Rattle.qs_calls.specs.declared.parameter.Parameter.TheVariants.{Plain, Placed}
use Rattle.qs_tac.specs.Trees.{InstructionTree, TacFunctionTree}
use Rattle.qs_tac.specs.Holders.{same_place}
use Rattle.qs_tac.specs.Uses.{reads, writes}
use Rattle.qs_tac.specs.Liveness.{goes_on, target, nexts, is_call, Certificate, after, NeededBefore, IsNeeded, HeldBehind}
use Rattle.qs_tac.specs.Places.{PlacesTree, slots_among, slot_count, may_stand, place_of, IsHeldAtEntry, Interfere, at_entry, at_instruction, KeepValues, Accepted, own_slots, keep_values}
use Rattle.qs_tac.specs.declared.places.Place.{Place}
use Rattle.qs_tac.specs.declared.places.Place.TheVariants.{Slot, Register}
use Rattle.qs_tac.proofs.NeedLaws.{same_refl, place_is}
use Rattle.qs_alloc.specs.Verification.{are_own_slots, is_among, is_written, is_passed, flows, flows_into, flows_from, flows_from_target, flows_on}
use Rattle.qs_alloc.specs.Verification.{place_at, is_apart, are_apart, is_held_apart, is_apart_from_parameter, is_written_or_apart, is_apart_from_first}
use Rattle.qs_alloc.specs.Verification.{is_apart_at_entry, is_parameter_apart, are_reads_apart, is_entry_apart, is_kept_at, keeps_at, keeps_from}
use Rattle.qs_alloc.specs.Verification.{all_stand, keeps_values, is_accepted}
use Rattle.qs_alloc.proofs.Tests.{and_true, both_true, three_say, three_pass, five_say, five_pass, or_true, or_left, or_right, not_both, same, equal, all_say, all_pass, among_say, among_pass, written_say, written_pass, next_is, next_on, next_target}
use Rattle.qs_alloc.proofs.OwnSlots.{own_slots_say, own_slots_pass}

pub slots_most : (places : List Place) → slots_among places ≤ length places
slots_most [] = omega arith
slots_most (Slot k ∷ places) = let rest = slots_most places in omega arith
slots_most (Register r ∷ places) = let rest = slots_most places in omega arith

some_same : {A : Type 0} (x y : A) → Some x ≡ Some y → x ≡ y
some_same x y e = cc

-- ---- the certificate is closed

flows_say :
    (i : InstructionTree) (later earlier : List ℕ) → flows i later earlier ≡ true → (t : ℕ) → NeededBefore i later t
    → Contains earlier t
flows_say i later earlier h t = by
  where
    both : (list_all (is_among earlier) (reads i) ≡ true) × (list_all (is_passed (writes i) earlier) later ≡ true)
    both = and_true (list_all (is_among earlier) (reads i)) (list_all (is_passed (writes i) earlier) later) h

    rest : ¬ (writes i ≡ Some t) → (is_written (writes i) t ≡ true) ⊎ (is_among earlier t ≡ true) → Contains earlier t
    rest other (inl w) = absurd (other (written_say (writes i) t w))
    rest other (inr a) = among_say earlier t a

    by : NeededBefore i later t → Contains earlier t
    by (inl c) = among_say earlier t (all_say (is_among earlier) (reads i) both.0 t c)
    by (inr c) =
        rest c.1
        (or_true (is_written (writes i) t) (is_among earlier t) (all_say (is_passed (writes i) earlier) later both.1 t c.0))

flows_pass :
    (i : InstructionTree) (later earlier : List ℕ) → ((t : ℕ) → NeededBefore i later t → Contains earlier t)
    → flows i later earlier ≡ true
flows_pass i later earlier h =
    both_true (list_all (is_among earlier) (reads i)) (list_all (is_passed (writes i) earlier) later)
    (all_pass (is_among earlier) (reads i) (λ t c. among_pass earlier t (h t (inl c))))
    (all_pass (is_passed (writes i) earlier) later (λ t c. passed t c (is_written (writes i) t) refl))
  where
    passed : (t : ℕ) → Contains later t → (b : Bool) → is_written (writes i) t ≡ b → is_passed (writes i) earlier t ≡ true
    passed t c true w = or_left (is_written (writes i) t) (is_among earlier t) w
    passed t c false w =
        or_right (is_written (writes i) t) (is_among earlier t)
        (among_pass earlier t
        (h t (inr (c, λ e. let yes : is_written (writes i) t ≡ true = written_pass (writes i) t e in absurd cc))))

-- what is needed before the instruction at q, if there is one, is needed earlier
abbrev Flows : List InstructionTree → Certificate → (q : ℕ) → (earlier : List ℕ) → Type 0
Flows code needed q earlier = (t : ℕ) → IsNeeded code needed q t → Contains earlier t

from_say :
    (code : List InstructionTree) (needed : Certificate) (q : ℕ) (earlier : List ℕ) → flows_from code needed q earlier ≡ true
    → Flows code needed q earlier
from_say code needed q earlier h t n =
    flows_say n.instruction (after needed q) earlier
    (subst (λ (o : Option InstructionTree). flows_into o (after needed q) earlier ≡ true) n.here h) t n.why

from_pass :
    (code : List InstructionTree) (needed : Certificate) (q : ℕ) (earlier : List ℕ) → Flows code needed q earlier
    → flows_from code needed q earlier ≡ true
from_pass code needed q earlier h = by (slice_get code q) refl
  where
    by : (o : Option InstructionTree) → slice_get code q ≡ o → flows_into o (after needed q) earlier ≡ true
    by None here = refl
    by (Some i) here = flows_pass i (after needed q) earlier (λ t why. h t (record { instruction = i; here = here; why = why }))

on_say :
    (code : List InstructionTree) (needed : Certificate) (p : ℕ) (i : InstructionTree) → flows_on code needed p i ≡ true
    → (q : ℕ) → Contains (nexts i p) q → Flows code needed q (after needed p)
on_say code needed p i h q next = by (next_is i p q next)
  where
    both : (not (goes_on i) || flows_from code needed (p + 1) (after needed p) ≡ true) × (flows_from_target code needed (target i) (after needed p) ≡ true)
    both =
        and_true (not (goes_on i) || flows_from code needed (p + 1) (after needed p))
        (flows_from_target code needed (target i) (after needed p)) h

    goes : goes_on i ≡ true → (not (goes_on i) ≡ true) ⊎ (flows_from code needed (p + 1) (after needed p) ≡ true) → flows_from code needed (p + 1) (after needed p) ≡ true
    goes on_ (inl off) = absurd (not_both (goes_on i) on_ off)
    goes on_ (inr f) = f

    by : ((goes_on i ≡ true) × (p + 1 ≡ q)) ⊎ (target i ≡ Some q) → Flows code needed q (after needed p)
    by (inl e) =
        from_say code needed q (after needed p)
        (subst (λ (n : ℕ). flows_from code needed n (after needed p) ≡ true) e.1
        (goes e.0 (or_true (not (goes_on i)) (flows_from code needed (p + 1) (after needed p)) both.0)))
    by (inr e) =
        from_say code needed q (after needed p)
        (subst (λ (o : Option ℕ). flows_from_target code needed o (after needed p) ≡ true) e both.1)

on_pass :
    (code : List InstructionTree) (needed : Certificate) (p : ℕ) (i : InstructionTree)
    → ((q : ℕ) → Contains (nexts i p) q → Flows code needed q (after needed p)) → flows_on code needed p i ≡ true
on_pass code needed p i h =
    both_true (not (goes_on i) || flows_from code needed (p + 1) (after needed p))
    (flows_from_target code needed (target i) (after needed p))
    (behind (goes_on i) refl) (jumps (target i) refl)
  where
    behind : (b : Bool) → goes_on i ≡ b → (not b || flows_from code needed (p + 1) (after needed p)) ≡ true
    behind true e = from_pass code needed (p + 1) (after needed p) (h (p + 1) (next_on i p e))
    behind false e = refl

    jumps : (o : Option ℕ) → target i ≡ o → flows_from_target code needed o (after needed p) ≡ true
    jumps None e = refl
    jumps (Some q) e = from_pass code needed q (after needed p) (h q (next_target i p q e))

-- ---- what is held at once stands apart

abbrev SharesNone : List Place → (t u : ℕ) → Type 0
SharesNone at t u = place_at at t ≡ place_at at u → t ≡ u

turned : (at : List Place) (t u : ℕ) → SharesNone at t u → SharesNone at u t
turned at t u h e = sym (h (sym e))

apart_say : (at : List Place) (t u : ℕ) → is_apart at t u ≡ true → SharesNone at t u
apart_say at t u h e = by (or_true (t == u) (not (same_place (place_at at t) (place_at at u))) h)
  where
    by : ((t == u) ≡ true) ⊎ (not (same_place (place_at at t) (place_at at u)) ≡ true) → t ≡ u
    by (inl is) = same t u is
    by (inr differ) =
        absurd
        (not_both (same_place (place_at at t) (place_at at u))
        (subst (λ (q : Place). same_place (place_at at t) q ≡ true) e (same_refl (place_at at t))) differ)

apart_pass : (at : List Place) (t u : ℕ) → SharesNone at t u → is_apart at t u ≡ true
apart_pass at t u h = by (same_place (place_at at t) (place_at at u)) refl
  where
    by : (b : Bool) → same_place (place_at at t) (place_at at u) ≡ b → (t == u || not b) ≡ true
    by true e = or_left (t == u) false (equal t u (h (place_is (place_at at t) (place_at at u) e)))
    by false e = or_right (t == u) true refl

are_apart_say : (at : List Place) (list : List ℕ) → are_apart at list ≡ true → (t u : ℕ) → Contains list t → Contains list u → SharesNone at t u
are_apart_say at list h t u c d =
    apart_say at t u
    (all_say (is_apart at t) list (all_say (λ x. list_all (is_apart at x) list) list h t c) u d)

are_apart_pass : (at : List Place) (list : List ℕ) → ((t u : ℕ) → Contains list t → Contains list u → SharesNone at t u) → are_apart at list ≡ true
are_apart_pass at list h =
    all_pass (λ x. list_all (is_apart at x) list) list
    (λ t c. all_pass (is_apart at t) list (λ u d. apart_pass at t u (h t u c d)))

-- needed later, or written
abbrev Held : Option ℕ → List ℕ → ℕ → Type 0
Held w later t = Contains later t ⊎ (w ≡ Some t)

held_say : (at : List Place) (w : Option ℕ) (later : List ℕ) → is_held_apart at w later ≡ true → (t u : ℕ) → Held w later t → Held w later u → SharesNone at t u
held_say at None later h t u (inl c) (inl d) = are_apart_say at later h t u c d
held_say at None later h t u (inr e) d = absurd cc
held_say at None later h t u (inl c) (inr e) = absurd cc
held_say at (Some x) later h t u (inl c) (inl d) =
    are_apart_say at later (and_true (list_all (is_apart at x) later) (are_apart at later) h).1 t u c d
held_say at (Some x) later h t u (inl c) (inr e) =
    let is : x ≡ u = some_same x u e in
    subst (λ (y : ℕ). SharesNone at t y) is
    (turned at x t (apart_say at x t (all_say (is_apart at x) later (and_true (list_all (is_apart at x) later) (are_apart at later) h).0 t c)))
held_say at (Some x) later h t u (inr e) (inl d) =
    let is : x ≡ t = some_same x t e in
    subst (λ (y : ℕ). SharesNone at y u) is
    (apart_say at x u (all_say (is_apart at x) later (and_true (list_all (is_apart at x) later) (are_apart at later) h).0 u d))
held_say at (Some x) later h t u (inr e) (inr d) = λ s. sym (some_same x t e) ∙ some_same x u d

held_pass : (at : List Place) (w : Option ℕ) (later : List ℕ) → ((t u : ℕ) → Held w later t → Held w later u → SharesNone at t u) → is_held_apart at w later ≡ true
held_pass at None later h = are_apart_pass at later (λ t u c d. h t u (inl c) (inl d))
held_pass at (Some x) later h =
    both_true (list_all (is_apart at x) later) (are_apart at later)
    (all_pass (is_apart at x) later (λ t c. apart_pass at x t (h x t (inr refl) (inl c))))
    (are_apart_pass at later (λ t u c d. h t u (inl c) (inl d)))

-- ---- at the entry

module _ (f : TacFunctionTree) (at : List Place) (needed : Certificate) where
  abbrev first : Option InstructionTree
  first = slice_get f.code 0

  abbrev later : List ℕ
  later = after needed 0

  abbrev AtEntry : ℕ → Type 0
  AtEntry t = IsHeldAtEntry f needed t

  one_say : (t : ℕ) → is_apart_at_entry f.parameters at first later t ≡ true → (u : ℕ) → AtEntry u → SharesNone at t u
  one_say t h u = by
    where
      both : (list_all (is_apart_from_parameter at t) f.parameters ≡ true) × (is_apart_from_first at t first later ≡ true)
      both = and_true (list_all (is_apart_from_parameter at t) f.parameters) (is_apart_from_first at t first later) h

      rest : (w : Option ℕ) → ¬ (w ≡ Some u) → (is_written w u ≡ true) ⊎ (is_apart at t u ≡ true) → SharesNone at t u
      rest w other (inl e) = absurd (other (written_say w u e))
      rest w other (inr a) = apart_say at t u a

      needs : (i : InstructionTree) → is_apart_from_first at t (Some i) later ≡ true → NeededBefore i later u → SharesNone at t u
      needs i k (inl c) =
          apart_say at t u
          (all_say (is_apart at t) (reads i) (and_true (list_all (is_apart at t) (reads i)) (list_all (is_written_or_apart at t (writes i)) later) k).0 u c)
      needs i k (inr c) =
          rest (writes i) c.1
          (or_true (is_written (writes i) u) (is_apart at t u)
          (all_say (is_written_or_apart at t (writes i)) later
          (and_true (list_all (is_apart at t) (reads i)) (list_all (is_written_or_apart at t (writes i)) later) k).1 u c.0))

      by : AtEntry u → SharesNone at t u
      by (inl c) = apart_say at t u (all_say (is_apart_from_parameter at t) f.parameters both.0 (Plain u) c)
      by (inr n) =
          needs n.instruction (subst (λ (o : Option InstructionTree). is_apart_from_first at t o later ≡ true) n.here both.1) n.why

  one_pass : (t : ℕ) → ((u : ℕ) → AtEntry u → SharesNone at t u) → is_apart_at_entry f.parameters at first later t ≡ true
  one_pass t h =
      both_true (list_all (is_apart_from_parameter at t) f.parameters) (is_apart_from_first at t first later)
      (all_pass (is_apart_from_parameter at t) f.parameters parameter) (by first refl)
    where
      parameter : (q : Parameter) → Contains f.parameters q → is_apart_from_parameter at t q ≡ true
      parameter (Plain u) c = apart_pass at t u (h u (inl c))
      parameter (Placed i s) c = refl

      rest : (i : InstructionTree) → first ≡ Some i → (u : ℕ) → Contains later u → (b : Bool) → is_written (writes i) u ≡ b → is_written_or_apart at t (writes i) u ≡ true
      rest i here u c true w = or_left (is_written (writes i) u) (is_apart at t u) w
      rest i here u c false w =
          or_right (is_written (writes i) u) (is_apart at t u)
          (apart_pass at t u
          (h u
          (inr
          (record {
            instruction = i;
            here = here;
            why = inr (c, λ e. let yes : is_written (writes i) u ≡ true = written_pass (writes i) u e in absurd cc);
          }))))

      by : (o : Option InstructionTree) → first ≡ o → is_apart_from_first at t o later ≡ true
      by None here = refl
      by (Some i) here =
          both_true (list_all (is_apart at t) (reads i)) (list_all (is_written_or_apart at t (writes i)) later)
          (all_pass (is_apart at t) (reads i) (λ u c. apart_pass at t u (h u (inr (record { instruction = i; here = here; why = inl c })))))
          (all_pass (is_written_or_apart at t (writes i)) later (λ u c. rest i here u c (is_written (writes i) u) refl))

  -- what is needed after the first instruction stands apart
  abbrev LaterApart : Type 0
  LaterApart = (i : InstructionTree) → first ≡ Some i → (t u : ℕ) → Contains later t → Contains later u → SharesNone at t u

  entry_say : is_entry_apart f.parameters at first later ≡ true → LaterApart → (t u : ℕ) → AtEntry t → AtEntry u → SharesNone at t u
  entry_say h behind t u = by
    where
      both : (list_all (is_parameter_apart f.parameters at first later) f.parameters ≡ true) × (are_reads_apart f.parameters at first later ≡ true)
      both = and_true (list_all (is_parameter_apart f.parameters at first later) f.parameters) (are_reads_apart f.parameters at first later) h

      parameter : (x : ℕ) → Contains f.parameters (Plain x) → is_apart_at_entry f.parameters at first later x ≡ true
      parameter x c = all_say (is_parameter_apart f.parameters at first later) f.parameters both.0 (Plain x) c

      reads_from : (o : Option InstructionTree) → are_reads_apart f.parameters at o later ≡ true → (i : InstructionTree) → o ≡ Some i → (x : ℕ) → Contains (reads i) x → is_apart_at_entry f.parameters at o later x ≡ true
      reads_from None k i e x c = absurd cc
      reads_from (Some j) k i e x c =
          all_say (is_apart_at_entry f.parameters at (Some j) later) (reads j) k x
          (subst (λ (l : InstructionTree). Contains (reads l) x) (sym (some_same j i e)) c)

      read : (i : InstructionTree) → first ≡ Some i → (x : ℕ) → Contains (reads i) x → is_apart_at_entry f.parameters at first later x ≡ true
      read = reads_from first both.1

      needs : (n : IsNeeded f.code needed 0 t) → NeededBefore n.instruction later t → AtEntry u → SharesNone at t u
      needs n (inl c) d = one_say t (read n.instruction n.here t c) u d
      needs n (inr c) (inl d) = turned at u t (one_say u (parameter u d) t (inr n))
      needs n (inr c) (inr m) = other m.why
        where
          other : NeededBefore m.instruction later u → SharesNone at t u
          other (inl d) = turned at u t (one_say u (read m.instruction m.here u d) t (inr n))
          other (inr d) = behind n.instruction n.here t u c.0 d.0

      by : AtEntry t → AtEntry u → SharesNone at t u
      by (inl c) d = one_say t (parameter t c) u d
      by (inr n) d = needs n n.why d

  entry_pass : ((t u : ℕ) → AtEntry t → AtEntry u → SharesNone at t u) → is_entry_apart f.parameters at first later ≡ true
  entry_pass h =
      both_true (list_all (is_parameter_apart f.parameters at first later) f.parameters) (are_reads_apart f.parameters at first later)
      (all_pass (is_parameter_apart f.parameters at first later) f.parameters parameter)
      (by first refl (λ i here t c. one_pass t (λ u. h t u c)))
    where
      parameter : (q : Parameter) → Contains f.parameters q → is_parameter_apart f.parameters at first later q ≡ true
      parameter (Plain t) c = one_pass t (λ u. h t u (inl c))
      parameter (Placed i s) c = refl

      by :
          (o : Option InstructionTree) → first ≡ o
          → ((i : InstructionTree) → o ≡ Some i → (t : ℕ) → AtEntry t → is_apart_at_entry f.parameters at o later t ≡ true)
          → are_reads_apart f.parameters at o later ≡ true
      by None here k = refl
      by (Some i) here k =
          all_pass (is_apart_at_entry f.parameters at (Some i) later) (reads i)
          (λ t c. k i refl t (inr (record { instruction = i; here = here; why = inl c })))

-- ---- each instruction

from_each :
    (code : List InstructionTree) (at : List Place) (needed : Certificate) (start : ℕ) (rest : List InstructionTree)
    → keeps_from code at needed start rest ≡ true → (k : ℕ) (i : InstructionTree) → slice_get rest k ≡ Some i
    → keeps_at code at needed (start + k) i ≡ true
from_each code at needed start [] h k i e = absurd cc
from_each code at needed start (j ∷ rest) h zero i e =
    let is : j ≡ i = some_same j i e in
    let here : start ≡ start + 0 = omega arith in
    subst (λ (l : InstructionTree). keeps_at code at needed (start + 0) l ≡ true) is
    (subst (λ (n : ℕ). keeps_at code at needed n j ≡ true) here
    (and_true (keeps_at code at needed start j) (keeps_from code at needed (start + 1) rest) h).0)
from_each code at needed start (j ∷ rest) h (suc k) i e =
    let moved : start + 1 + k ≡ start + suc k = omega arith in
    subst (λ (n : ℕ). keeps_at code at needed n i ≡ true) moved
    (from_each code at needed (start + 1) rest (and_true (keeps_at code at needed start j) (keeps_from code at needed (start + 1) rest) h).1 k i e)

to_each :
    (code : List InstructionTree) (at : List Place) (needed : Certificate) (start : ℕ) (rest : List InstructionTree)
    → ((k : ℕ) (i : InstructionTree) → slice_get rest k ≡ Some i → keeps_at code at needed (start + k) i ≡ true)
    → keeps_from code at needed start rest ≡ true
to_each code at needed start [] h = refl
to_each code at needed start (j ∷ rest) h =
    let here : start + 0 ≡ start = omega arith in
    both_true (keeps_at code at needed start j) (keeps_from code at needed (start + 1) rest)
    (subst (λ (n : ℕ). keeps_at code at needed n j ≡ true) here (h 0 j refl))
    (to_each code at needed (start + 1) rest
    (λ k i e. let moved : start + suc k ≡ start + 1 + k = omega arith in
    subst (λ (n : ℕ). keeps_at code at needed n i ≡ true) moved (h (suc k) i e)))

-- what the test of an instruction says
record KeepsAt (code : List InstructionTree) (at : List Place) (needed : Certificate) (p : ℕ) (i : InstructionTree) : Type 0 where
  calls : is_call i ≡ true → (t : ℕ) → Contains (after needed p) t → is_kept_at at t ≡ true
  flow : (q : ℕ) → Contains (nexts i p) q → Flows code needed q (after needed p)
  held : (t u : ℕ) → Held (writes i) (after needed p) t → Held (writes i) (after needed p) u → SharesNone at t u

at_say : (code : List InstructionTree) (at : List Place) (needed : Certificate) (p : ℕ) (i : InstructionTree) → keeps_at code at needed p i ≡ true → KeepsAt code at needed p i
at_say code at needed p i h = record {
  calls = λ is t c. called is t c (or_true (not (is_call i)) (list_all (is_kept_at at) (after needed p)) parts.0);
  flow = on_say code needed p i parts.1;
  held = held_say at (writes i) (after needed p) parts.2;
}
  where
    parts : ((not (is_call i) || list_all (is_kept_at at) (after needed p)) ≡ true) × (flows_on code needed p i ≡ true) × (is_held_apart at (writes i) (after needed p) ≡ true)
    parts =
        three_say (not (is_call i) || list_all (is_kept_at at) (after needed p)) (flows_on code needed p i)
        (is_held_apart at (writes i) (after needed p)) h

    called : is_call i ≡ true → (t : ℕ) → Contains (after needed p) t → (not (is_call i) ≡ true) ⊎ (list_all (is_kept_at at) (after needed p) ≡ true) → is_kept_at at t ≡ true
    called is t c (inl other) = absurd (not_both (is_call i) is other)
    called is t c (inr all) = all_say (is_kept_at at) (after needed p) all t c

at_pass : (code : List InstructionTree) (at : List Place) (needed : Certificate) (p : ℕ) (i : InstructionTree) → KeepsAt code at needed p i → keeps_at code at needed p i ≡ true
at_pass code at needed p i k =
    three_pass (not (is_call i) || list_all (is_kept_at at) (after needed p)) (flows_on code needed p i)
    (is_held_apart at (writes i) (after needed p))
    (called (is_call i) refl) (on_pass code needed p i k.flow) (held_pass at (writes i) (after needed p) k.held)
  where
    called : (b : Bool) → is_call i ≡ b → (not b || list_all (is_kept_at at) (after needed p)) ≡ true
    called true e = all_pass (is_kept_at at) (after needed p) (k.calls e)
    called false e = refl

-- ---- together

some_first : (code : List InstructionTree) (p : ℕ) (i j : InstructionTree) → slice_get code p ≡ Some i → slice_get code p ≡ Some j → i ≡ j
some_first code p i j e d = some_same i j (sym e ∙ d)

keep_say : (f : TacFunctionTree) (p : PlacesTree) → keeps_values f p ≡ true → KeepValues f p
keep_say f p h = record {
  one_place_each = places_each;
  one_list_each = same (length p.needed) (length f.code) parts.1;
  closed = record { flows = λ k q t follows n. (at_instr k follows.instruction follows.here).flow q follows.next t n };
  apart = apart;
  kept = λ t c. (at_instr c.at c.instruction c.here).calls c.is_call t c.needed_after;
  stand =
      λ t l.
      let e = places_each in
      all_say (may_stand (slot_count p)) p.at parts.4 (place_of p t) (Contains-get_or p.at t (Slot t) (omega (arith, l, e)));
}
  where
    parts :
        ((length p.at == f.temporaries) ≡ true) × ((length p.needed == length f.code) ≡ true)
        × (is_entry_apart f.parameters p.at (slice_get f.code 0) (after p.needed 0) ≡ true)
        × (keeps_from f.code p.at p.needed 0 f.code ≡ true) × (all_stand p.at ≡ true)
    parts =
        five_say (length p.at == f.temporaries) (length p.needed == length f.code)
        (is_entry_apart f.parameters p.at (slice_get f.code 0) (after p.needed 0))
        (keeps_from f.code p.at p.needed 0 f.code) (all_stand p.at) h

    places_each : length p.at ≡ f.temporaries
    places_each = same (length p.at) f.temporaries parts.0

    at_instr : (k : ℕ) (i : InstructionTree) → slice_get f.code k ≡ Some i → KeepsAt f.code p.at p.needed k i
    at_instr k i e =
        at_say f.code p.at p.needed k i
        (let moved : 0 + k ≡ k = omega arith in
        subst (λ (n : ℕ). keeps_at f.code p.at p.needed n i ≡ true) moved (from_each f.code p.at p.needed 0 f.code parts.3 k i e))

    apart : (t u : ℕ) → Interfere f p.needed t u → place_of p t ≡ place_of p u → t ≡ u
    apart t u (at_entry m n) =
        entry_say f p.at p.needed parts.2
        (λ i here x y e g. (at_instr 0 i here).held x y (inl e) (inl g))
        t u m n
    apart t u (at_instruction k m n) =
        (at_instr k m.instruction m.here).held t u m.why
        (subst (λ (i : InstructionTree). HeldBehind i (after p.needed k) u) (some_first f.code k n.instruction m.instruction n.here m.here) n.why)

keep_pass : (f : TacFunctionTree) (p : PlacesTree) → KeepValues f p → keeps_values f p ≡ true
keep_pass f p k =
    five_pass (length p.at == f.temporaries) (length p.needed == length f.code)
    (is_entry_apart f.parameters p.at (slice_get f.code 0) (after p.needed 0))
    (keeps_from f.code p.at p.needed 0 f.code) (all_stand p.at)
    (equal (length p.at) f.temporaries k.one_place_each)
    (equal (length p.needed) (length f.code) k.one_list_each)
    (entry_pass f p.at p.needed (λ t u m n. k.apart t u (at_entry m n)))
    (to_each f.code p.at p.needed 0 f.code
    (λ n i e.
    let moved : n ≡ 0 + n = omega arith in
    at_pass f.code p.at p.needed (0 + n) i (each (0 + n) i (subst (λ (m : ℕ). slice_get f.code m ≡ Some i) moved e))))
    (all_pass (may_stand (slot_count p)) p.at stands)
  where
    each : (n : ℕ) (i : InstructionTree) → slice_get f.code n ≡ Some i → KeepsAt f.code p.at p.needed n i
    each n i here = record {
      calls = λ is t c. k.kept t (record { at = n; instruction = i; here = here; is_call = is; needed_after = c });
      flow = λ q next t need. k.closed.flows n q t (record { instruction = i; here = here; next = next }) need;
      held =
          λ t u c d. k.apart t u
          (at_instruction n (record { instruction = i; here = here; why = c }) (record { instruction = i; here = here; why = d }));
    }

    stands : (x : Place) → Contains p.at x → may_stand (slot_count p) x ≡ true
    stands x c =
        let w = at_from_Contains p.at x c in
        let below : w.0 < f.temporaries = subst (λ (n : ℕ). w.0 < n) k.one_place_each w.1 in
        subst (λ (q : Place). may_stand (slot_count p) q ≡ true) (w.2 (Slot w.0)) (k.stand w.0 below)

pub accepted_say : (f : TacFunctionTree) (p : PlacesTree) → is_accepted f p ≡ true → Accepted f p
accepted_say f p h = by (or_true (are_own_slots p.at f.temporaries) (keeps_values f p) h)
  where
    by : (are_own_slots p.at f.temporaries ≡ true) ⊎ (keeps_values f p ≡ true) → Accepted f p
    by (inl own) = own_slots (own_slots_say p.at f.temporaries own)
    by (inr keep) = keep_values (keep_say f p keep)

pub accepted_pass : (f : TacFunctionTree) (p : PlacesTree) → Accepted f p → is_accepted f p ≡ true
accepted_pass f p (own_slots own) = or_left (are_own_slots p.at f.temporaries) (keeps_values f p) (own_slots_pass p.at f.temporaries own)
accepted_pass f p (keep_values keep) = or_right (are_own_slots p.at f.temporaries) (keeps_values f p) (keep_pass f p keep)

pub accepted_are : (f : TacFunctionTree) (p : PlacesTree) → (is_accepted f p ≡ true) ↔ Accepted f p
accepted_are f p = (accepted_say f p, accepted_pass f p)
