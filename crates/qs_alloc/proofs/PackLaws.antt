-- What is chosen is packed.
use Rattle.std.proofs.Common.{◌≡◌, ℕ, zero, suc, ◌<◌, ◌≤◌, ◌&&◌, not, Bool, true, false, List, [], ◌∷◌, ◌++◌, take, length, map, Option, Some, None, refl, sym, ap, ◌∙◌, subst, ◌⊎◌, inl, inr, arith}
use Rattle.std.specs.Prelude.{option_to_list, slice_index_or, Contains, nat_lt}
use Rattle.std.specs.List.{slice_get, list_any}
use Rattle.std.proofs.lemmas.Bool.{cases_eq}
use Rattle.std.proofs.lemmas.Bool.Decides.{nat_tests}
use Rattle.std.proofs.lemmas.List.{length-map}
use Rattle.qs_calls.specs.declared.parameter.Parameter.{Parameter}
use Rattle.qs_calls.specs.declared.parameter.Parameter.TheVariants.{Plain, Placed}
use Rattle.qs_tac.specs.Trees.{InstructionTree, TacFunctionTree}
use Rattle.qs_tac.specs.TreeOf.{instruction_tree, function_tree}
use Rattle.qs_tac.specs.Holders.{is_kept}
use Rattle.qs_tac.specs.Uses.{reads, writes}
use Rattle.qs_tac.specs.Liveness.{nexts, is_call, after, NeededBefore, IsNeeded, IsHeld, CrossesCall, IsClosed, IsLeast, Follows}
use Rattle.qs_tac.specs.Places.{PlacesTree, lists, slots_among, slot_count, may_stand, IsHeldAtEntry, Interfere, at_entry, at_instruction, KeepValues, IsTaken, Packed}
use Rattle.qs_tac.specs.Places as tac
use Rattle.qs_tac.specs.declared.instruction.Instruction.{Instruction}
use Rattle.qs_tac.specs.declared.units.TacFunction.{TacFunction}
use Rattle.qs_tac.specs.declared.places.Place.{Place}
use Rattle.qs_tac.specs.declared.places.Place.TheVariants.{Slot, Register}
use Rattle.qs_alloc.specs.declared.rows.Side.TheVariants.{Next, Written}
use Rattle.qs_alloc.specs.Verification.{is_among, is_written}
use Rattle.qs_alloc.specs.Rows.{Rows, row, Names, RowsBelow}
use Rattle.qs_alloc.specs.LiveRanges.{NeededRows}
use Rattle.qs_alloc.specs.Registers.{place_of, is_plain, is_needed_first, is_held_at_entry, HeldAt, Crosses, Meets, Chosen}
use Rattle.qs_alloc.specs.Lists.{Turned, dense}
use Rattle.qs_alloc.proofs.Tests.{and_true, both_true, or_true, or_left, or_right, same, equal, none_in_empty, among_say, among_pass, written_say, written_pass}
use Rattle.qs_alloc.proofs.Acceptance.{slots_most}
use Rattle.qs_alloc.proofs.RowLaws.{some_same, get_below}
use Rattle.qs_alloc.proofs.RegisterLaws.{held_below}
use Rattle.qs_alloc.proofs.ListLaws.{dense_length, dense_slots, dense_register, from_register, from_slot, slot_high, slot_once}

-- ---- lists

written_key : (w : Option ℕ) (t : ℕ) → w ≡ Some t → Contains (option_to_list w) t
written_key None t e = absurd (cc)
written_key (Some x) t e = (0, omega arith, some_same x t e)

from_key : (w : Option ℕ) (t : ℕ) → Contains (option_to_list w) t → w ≡ Some t
from_key None t c = absurd (none_in_empty t c)
from_key (Some x) t (zero, l, e) = ap Some e
from_key (Some x) t (suc k, l, e) = absurd (omega (arith, l))

get_some : {X : Type 0} → (xs : List X) (p : ℕ) → p < length xs → (x : X) × (slice_get xs p ≡ Some x)
get_some [] p l = absurd (omega arith)
get_some (x ∷ xs) zero l = (x, refl)
get_some (x ∷ xs) (suc p) l = get_some xs p (omega (arith, l))

-- the instruction that a tree stands for
tree_back : (code : List Instruction) (p : ℕ) (j : InstructionTree) → slice_get (map instruction_tree code) p ≡ Some j → (i : Instruction) × (slice_get code p ≡ Some i) × (instruction_tree i ≡ j)
tree_back [] p j e = absurd cc
tree_back (i ∷ code) zero j e = (i, refl, some_same (instruction_tree i) j e)
tree_back (i ∷ code) (suc p) j e = tree_back code p j e

tree_on : (code : List Instruction) (p : ℕ) (i : Instruction) → slice_get code p ≡ Some i → slice_get (map instruction_tree code) p ≡ Some (instruction_tree i)
tree_on [] p i e = absurd cc
tree_on (j ∷ code) zero i e = ap (λ l. Some (instruction_tree l)) (some_same j i e)
tree_on (j ∷ code) (suc p) i e = tree_on code p i e

any_place : (at : List Place) (t : ℕ) (p q : Place) → t < length at → slice_index_or at t p ≡ slice_index_or at t q
any_place [] t p q l = absurd (omega (arith, l))
any_place (x ∷ at) zero p q l = refl
any_place (x ∷ at) (suc t) p q l = any_place at t p q (omega (arith, l))

place_past : (at : List Place) (t : ℕ) (p : Place) → length at ≤ t → slice_index_or at t p ≡ p
place_past [] t p l = refl
place_past (x ∷ at) zero p l = absurd (omega (arith, l))
place_past (x ∷ at) (suc t) p l = place_past at t p (omega (arith, l))

slot_number : (k l : ℕ) → Slot k ≡ Slot l → k ≡ l
slot_number k l e = cc

slot_not_register : (k r : ℕ) → Slot k ≡ Register r → ⊥
slot_not_register k r e = cc

-- ---- the entry

plain_say : (parameters : List Parameter) (t : ℕ) → list_any (is_plain t) parameters ≡ true → Contains parameters (Plain t)
plain_say [] t h = absurd cc
plain_say (Plain x ∷ parameters) t h = by (plain_say parameters t) (or_true (is_plain t (Plain x)) (list_any (is_plain t) parameters) h)
  where
    by :
        (list_any (is_plain t) parameters ≡ true → Contains parameters (Plain t))
        → (is_plain t (Plain x) ≡ true) ⊎ (list_any (is_plain t) parameters ≡ true) → Contains (Plain x ∷ parameters) (Plain t)
    by more (inl e) = (0, omega arith, ap Plain (same x t e))
    by more (inr rest) = let c = more rest in (suc c.0, omega (arith, c.1), c.2)
plain_say (Placed i s ∷ parameters) t h = let c = plain_say parameters t h in (suc c.0, omega (arith, c.1), c.2)

plain_pass : (parameters : List Parameter) (t : ℕ) → Contains parameters (Plain t) → list_any (is_plain t) parameters ≡ true
plain_pass [] t c = absurd (none_in_no_parameters c)
  where
    none_in_no_parameters : Contains [] (Plain t) → ⊥
    none_in_no_parameters d = let k : d.0 < 0 = d.1 in omega arith
plain_pass (Plain x ∷ parameters) t (zero, l, e) = let is : x ≡ t = cc in or_left (is_plain t (Plain x)) (list_any (is_plain t) parameters) (equal x t is)
plain_pass (Placed i s ∷ parameters) t (zero, l, e) = absurd cc
plain_pass (p ∷ parameters) t (suc k, l, e) = or_right (is_plain t p) (list_any (is_plain t) parameters) (plain_pass parameters t (k, omega (arith, l), e))

first_say : (i : Instruction) (t : ℕ) (live : List ℕ) → is_needed_first (Some i) t live ≡ true → Contains (reads (instruction_tree i)) t ⊎ (Contains live 0 × ¬ (writes (instruction_tree i) ≡ Some t))
first_say i t live h = by (or_true (is_among (reads (instruction_tree i)) t) (is_among live 0 && not (is_written (writes (instruction_tree i)) t)) h)
  where
    written_not : not (is_written (writes (instruction_tree i)) t) ≡ true → ¬ (writes (instruction_tree i) ≡ Some t)
    written_not n e = let yes : is_written (writes (instruction_tree i)) t ≡ true = written_pass (writes (instruction_tree i)) t e in cc

    by : (is_among (reads (instruction_tree i)) t ≡ true) ⊎ ((is_among live 0 && not (is_written (writes (instruction_tree i)) t)) ≡ true) → Contains (reads (instruction_tree i)) t ⊎ (Contains live 0 × ¬ (writes (instruction_tree i) ≡ Some t))
    by (inl r) = inl (among_say (reads (instruction_tree i)) t r)
    by (inr b) =
        let both = and_true (is_among live 0) (not (is_written (writes (instruction_tree i)) t)) b in
        inr (among_say live 0 both.0, written_not both.1)

first_pass : (i : Instruction) (t : ℕ) (live : List ℕ) → Contains (reads (instruction_tree i)) t ⊎ (Contains live 0 × ¬ (writes (instruction_tree i) ≡ Some t)) → is_needed_first (Some i) t live ≡ true
first_pass i t live (inl c) =
    or_left (is_among (reads (instruction_tree i)) t) (is_among live 0 && not (is_written (writes (instruction_tree i)) t))
    (among_pass (reads (instruction_tree i)) t c)
first_pass i t live (inr c) =
    or_right (is_among (reads (instruction_tree i)) t) (is_among live 0 && not (is_written (writes (instruction_tree i)) t))
    (both_true (is_among live 0) (not (is_written (writes (instruction_tree i)) t)) (among_pass live 0 c.0) (by (is_written (writes (instruction_tree i)) t) refl))
  where
    by : (b : Bool) → is_written (writes (instruction_tree i)) t ≡ b → not b ≡ true
    by true e = absurd (c.1 (written_say (writes (instruction_tree i)) t e))
    by false e = refl

-- ---- the places

module _ (f : TacFunction) (rows : Rows) (at : List Place) (needed : Rows)
    (live : NeededRows f.code.items f.temporaries rows) (chosen : Chosen f.parameters.items f.code.items f.temporaries rows at)
    (turned : Turned rows (length f.code.items) needed) where
  abbrev code : List Instruction
  code = f.code.items

  abbrev parameters : List Parameter
  parameters = f.parameters.items

  abbrev tree : TacFunctionTree
  tree = function_tree f

  abbrev places : PlacesTree
  places = record { at = dense 0 at; needed = lists needed }

  abbrev Points : (t p : ℕ) → Type 0
  Points t p = HeldAt parameters code t (row rows t) p

  in_row : (p t : ℕ) → Contains (after (lists needed) p) t → Contains (row rows t) p
  in_row p t d = turned.from t p d

  in_list : (p t : ℕ) → Contains (row rows t) p → Contains (after (lists needed) p) t
  in_list p t d = turned.there t p d

  -- ---- the least certificate

  leads_on : (p q : ℕ) → Follows tree.code p q → Names Next code q p
  leads_on p q follows =
      let b = tree_back code p follows.instruction follows.here in
      record { instruction = b.0; here = b.1; key = subst (λ (i : InstructionTree). Contains (nexts i p) q) (sym b.2) follows.next }

  closed : IsClosed tree.code (lists needed)
  closed = record { flows = λ p q t follows n. by p q t (leads_on p q follows) n (tree_back code q n.instruction n.here) n.why }
    where
      by :
          (p q t : ℕ) → Names Next code q p → (n : IsNeeded tree.code (lists needed) q t)
          → ((i : Instruction) × (slice_get code q ≡ Some i) × (instruction_tree i ≡ n.instruction))
          → NeededBefore n.instruction (after (lists needed) q) t → Contains (after (lists needed) p) t
      by p q t leads n b (inl c) =
          in_list p t
          (((live.each t).reads q
          (record { instruction = b.0; here = b.1; key = subst (λ (i : InstructionTree). Contains (reads i) t) (sym b.2) c })).each p leads)
      by p q t leads n b (inr c) =
          in_list p t
          ((((live.each t).passes q (in_row q t c.0)).on b.0 b.1
          (λ w. c.1 (sym (ap writes b.2) ∙ w))).each p leads)

  least : IsLeast tree.code (lists needed)
  least = record { least = λ other is_closed p t d. ((live.each t).must p (in_row p t d)).must other is_closed }

  -- ---- points of a temporary

  held_at : (p t : ℕ) → IsHeld tree.code (lists needed) p t → Points t p
  held_at p t h = by h.why
    where
      by : Contains (after (lists needed) p) t ⊎ (writes h.instruction ≡ Some t) → Points t p
      by (inl d) = record { why = inl (in_row p t d) }
      by (inr w) =
          let b = tree_back code p h.instruction h.here in
          record { why = inr (inl (record { instruction = b.0; here = b.1; key = written_key (writes (instruction_tree b.0)) t (ap writes b.2 ∙ w) })) }

  entry_at : (t : ℕ) → IsHeldAtEntry tree (lists needed) t → Points t (length code)
  entry_at t h = record { why = inr (inr (refl, by h)) }
    where
      by : IsHeldAtEntry tree (lists needed) t → is_held_at_entry parameters code t (row rows t) ≡ true
      by (inl c) = or_left (list_any (is_plain t) parameters) (is_needed_first (slice_get code 0) t (row rows t)) (plain_pass parameters t c)
      by (inr n) =
          or_right (list_any (is_plain t) parameters) (is_needed_first (slice_get code 0) t (row rows t))
          (subst (λ (o : Option Instruction). is_needed_first o t (row rows t) ≡ true) (sym b.1)
          (first_pass b.0 t (row rows t) (needs n.why)))
        where
          b : (i : Instruction) × (slice_get code 0 ≡ Some i) × (instruction_tree i ≡ n.instruction)
          b = tree_back code 0 n.instruction n.here

          needs : NeededBefore n.instruction (after (lists needed) 0) t → Contains (reads (instruction_tree b.0)) t ⊎ (Contains (row rows t) 0 × ¬ (writes (instruction_tree b.0) ≡ Some t))
          needs (inl c) = inl (subst (λ (i : InstructionTree). Contains (reads i) t) (sym b.2) c)
          needs (inr c) = inr (in_row 0 t c.0, λ w. c.1 (sym (ap writes b.2) ∙ w))

  from_held : (p t : ℕ) → p < length code → Points t p → IsHeld tree.code (lists needed) p t
  from_held p t l h = by h.why
    where
      by : Contains (row rows t) p ⊎ (Names Written code t p ⊎ ((p ≡ length code) × (is_held_at_entry parameters code t (row rows t) ≡ true))) → IsHeld tree.code (lists needed) p t
      by (inl d) = let i = get_some code p l in record { instruction = instruction_tree i.0; here = tree_on code p i.0 i.1; why = inl (in_list p t d) }
      by (inr (inl m)) =
          record { instruction = instruction_tree m.instruction; here = tree_on code p m.instruction m.here; why = inr (from_key (writes (instruction_tree m.instruction)) t m.key) }
      by (inr (inr e)) = let g : p ≡ length code = e.0 in absurd (omega (arith, l, g))

  from_entry : (t : ℕ) → Points t (length code) → IsHeldAtEntry tree (lists needed) t
  from_entry t h = by h.why
    where
      first : (o : Option Instruction) → slice_get code 0 ≡ o → is_needed_first o t (row rows t) ≡ true → IsHeldAtEntry tree (lists needed) t
      first None here n = absurd cc
      first (Some i) here n =
          inr (record { instruction = instruction_tree i; here = tree_on code 0 i here; why = needs (first_say i t (row rows t) n) })
        where
          needs : Contains (reads (instruction_tree i)) t ⊎ (Contains (row rows t) 0 × ¬ (writes (instruction_tree i) ≡ Some t)) → NeededBefore (instruction_tree i) (after (lists needed) 0) t
          needs (inl c) = inl c
          needs (inr c) = inr (in_list 0 t c.0, c.1)

      entry : (list_any (is_plain t) parameters ≡ true) ⊎ (is_needed_first (slice_get code 0) t (row rows t) ≡ true) → IsHeldAtEntry tree (lists needed) t
      entry (inl c) = inl (plain_say parameters t c)
      entry (inr n) = first (slice_get code 0) refl n

      by : Contains (row rows t) (length code) ⊎ (Names Written code t (length code) ⊎ ((length code ≡ length code) × (is_held_at_entry parameters code t (row rows t) ≡ true))) → IsHeldAtEntry tree (lists needed) t
      by (inl d) = let b = (live.each t).below (length code) d in absurd (omega (arith, b))
      by (inr (inl m)) = let b = get_below code (length code) m.instruction m.here in absurd (omega (arith, b))
      by (inr (inr e)) = entry (or_true (list_any (is_plain t) parameters) (is_needed_first (slice_get code 0) t (row rows t)) e.1)

  -- ---- what is held at once stands apart

  size : length (dense 0 at) ≡ f.temporaries
  size = dense_length 0 at ∙ chosen.size

  within : (t : ℕ) → t < f.temporaries → tac.place_of places t ≡ place_of (dense 0 at) t
  within t l = let s = size in any_place (dense 0 at) t (Slot t) (Slot 0) (omega (arith, l, s))

  past : (t : ℕ) → ¬ (t < f.temporaries) → tac.place_of places t ≡ Slot t
  past t n = let s = size in place_past (dense 0 at) t (Slot t) (omega (arith, n, s))

  few_slots : slots_among (dense 0 at) ≤ f.temporaries
  few_slots = let m = slots_most (dense 0 at) in let s = size in omega (arith, m, s)

  slot_below : (t k : ℕ) → t < f.temporaries → place_of (dense 0 at) t ≡ Slot k → k < slots_among (dense 0 at)
  slot_below t k l e =
      let s = chosen.size in let d = dense_slots 0 at in let h = slot_high 0 at t k (omega (arith, l, s)) e in
      omega (arith, h, d)

  apart_within : (t u p : ℕ) (q : Place) → t < f.temporaries → u < f.temporaries → Points t p → Points u p → place_of (dense 0 at) t ≡ q → place_of (dense 0 at) u ≡ q → t ≡ u
  apart_within t u p (Slot k) l m g h e d = let s = chosen.size in slot_once 0 at t u k (omega (arith, l, s)) (omega (arith, m, s)) e d
  apart_within t u p (Register r) l m g h e d = chosen.filled.apart t u p r (from_register 0 at t r e) (from_register 0 at u r d) g h

  -- one that no temporary has stands in the slot of its own number, where no temporary stands
  apart_past : (t u : ℕ) → t < f.temporaries → ¬ (u < f.temporaries) → tac.place_of places t ≡ tac.place_of places u → ⊥
  apart_past t u l n e =
      let here : place_of (dense 0 at) t ≡ Slot u = sym (within t l) ∙ e ∙ past u n in
      let below = slot_below t u l here in
      let few = few_slots in
      omega (arith, n, below, few)

  apart_at : (t u p : ℕ) → Points t p → Points u p → tac.place_of places t ≡ tac.place_of places u → t ≡ u
  apart_at t u p g h e = by (nat_lt t f.temporaries) (nat_lt u f.temporaries) refl refl
    where
      by : (b c : Bool) → nat_lt t f.temporaries ≡ b → nat_lt u f.temporaries ≡ c → t ≡ u
      by true true x y =
          let l : t < f.temporaries = grind (arith, nat_tests, x) in let m : u < f.temporaries = grind (arith, nat_tests, y) in
          apart_within t u p (place_of (dense 0 at) u) l m g h (sym (within t l) ∙ e ∙ within u m) refl
      by true false x y =
          let l : t < f.temporaries = grind (arith, nat_tests, x) in let m : ¬ (u < f.temporaries) = λ (k : u < f.temporaries). grind (arith, nat_tests, y, k) in
          absurd (apart_past t u l m e)
      by false true x y =
          let l : ¬ (t < f.temporaries) = λ (k : t < f.temporaries). grind (arith, nat_tests, x, k) in let m : u < f.temporaries = grind (arith, nat_tests, y) in
          absurd (apart_past u t m l (sym e))
      by false false x y =
          let l : ¬ (t < f.temporaries) = λ (k : t < f.temporaries). grind (arith, nat_tests, x, k) in
          let m : ¬ (u < f.temporaries) = λ (k : u < f.temporaries). grind (arith, nat_tests, y, k) in
          slot_number t u (sym (past t l) ∙ e ∙ past u m)

  apart : (t u : ℕ) → Interfere tree (lists needed) t u → tac.place_of places t ≡ tac.place_of places u → t ≡ u
  apart t u (at_entry m n) e = apart_at t u (length code) (entry_at t m) (entry_at u n) e
  apart t u (at_instruction p m n) e = apart_at t u p (held_at p t m) (held_at p u n) e

  -- ---- calls, and where each stands

  crosses_row : (t : ℕ) → CrossesCall tree.code (lists needed) t → Crosses code (row rows t)
  crosses_row t x =
      let b = tree_back code x.at x.instruction x.here in
      record { at = x.at; listed = in_row x.at t x.needed_after; instruction = b.0; here = b.1; call = ap is_call b.2 ∙ x.is_call }

  crosses_call : (t : ℕ) → Crosses code (row rows t) → CrossesCall tree.code (lists needed) t
  crosses_call t x =
      record { at = x.at; instruction = instruction_tree x.instruction; here = tree_on code x.at x.instruction x.here; is_call = x.call; needed_after = in_list x.at t x.listed }

  kept : (t : ℕ) → CrossesCall tree.code (lists needed) t → is_kept (tac.place_of places t) ≡ true
  kept t x = by (nat_lt t f.temporaries) refl
    where
      stands : (q : Place) → place_of (dense 0 at) t ≡ q → is_kept q ≡ true
      stands (Slot k) e = refl
      stands (Register r) e = chosen.filled.kept t r (from_register 0 at t r e) (crosses_row t x)

      by : (b : Bool) → nat_lt t f.temporaries ≡ b → is_kept (tac.place_of places t) ≡ true
      by true y = let l : t < f.temporaries = grind (arith, nat_tests, y) in ap is_kept (within t l) ∙ stands (place_of (dense 0 at) t) refl
      by false y = let l : ¬ (t < f.temporaries) = λ (k : t < f.temporaries). grind (arith, nat_tests, y, k) in ap is_kept (past t l)

  stand : (t : ℕ) → t < f.temporaries → may_stand (slot_count places) (tac.place_of places t) ≡ true
  stand t l = ap (may_stand (slot_count places)) (within t l) ∙ by (place_of (dense 0 at) t) refl
    where
      by : (q : Place) → place_of (dense 0 at) t ≡ q → may_stand (slots_among (dense 0 at)) q ≡ true
      by (Slot k) e = let h = slot_below t k l e in grind (arith, nat_tests, h)
      by (Register r) e = chosen.filled.stands t r (from_register 0 at t r e)

  keeps : KeepValues tree places
  keeps = record {
    one_place_each = size;
    one_list_each = length-map needed (λ v. v.items) ∙ turned.lists ∙ sym (length-map code instruction_tree);
    closed = closed;
    apart = apart;
    kept = kept;
    stand = stand;
  }

  -- ---- no register is free for one in a slot

  interfere : (t u p : ℕ) → Points t p → Points u p → Interfere tree (lists needed) t u
  interfere t u p g h = by (cases_eq p (length code))
    where
      by : (p ≡ length code) ⊎ (p ≡ length code → ⊥) → Interfere tree (lists needed) t u
      by (inl e) = at_entry (from_entry t (subst (Points t) e g)) (from_entry u (subst (Points u) e h))
      by (inr ne) =
          let b = held_below parameters code t (row rows t) p (live.each t).below g in
          let l : p < length code = omega (arith, b, ne) in
          at_instruction p (from_held p t l g) (from_held p u l h)

  pub packed : Packed tree places
  packed = record {
    keep_values = keeps;
    least = least;
    full =
        λ t k r l e own saved.
        let s = from_slot 0 at t k (sym (within t l) ∙ e) in
        let m : Meets parameters code rows at t r = (chosen.blocked t l).each s.0 r s.1 own (λ x. saved (crosses_call t x)) in
        let u = m.holds.holder in
        let stands : place_of at u ≡ Register r = m.holds.stands in
        let below : u < f.temporaries = subst (λ (n : ℕ). u < n) chosen.size m.holds.below in
        record {
          by = u;
          below = below;
          stands = within u below ∙ dense_register 0 at u r stands;
          interferes = interfere t u m.point m.held m.holds.held;
        };
  }

pub rows_below : (code : List Instruction) (n : ℕ) (rows : Rows) → NeededRows code n rows → RowsBelow (length code) rows
rows_below _ n rows live = record { below = λ t p d. (live.each t).below p d }

pub take_front : {X : Type 0} → (xs ys : List X) (k : ℕ) → length xs ≡ k → take k (xs ++ ys) ≡ xs
take_front [] ys zero e = refl
take_front [] ys (suc k) e = absurd (omega (arith, e))
take_front (x ∷ xs) ys zero e = absurd (omega (arith, e))
take_front (x ∷ xs) ys (suc k) e = ap (λ zs. x ∷ zs) (take_front xs ys k (omega (arith, e)))

-- the same through the slices of the code
pub packed_from :
    (f : TacFunction) (slice : List Instruction) (parameters : List Parameter) (rows rows_one rows_two : Rows) (at at_now now : List Place) (needed : Rows)
    → slice ≡ f.code.items → parameters ≡ f.parameters.items → NeededRows slice f.temporaries rows → rows_one ≡ rows
    → Chosen parameters slice f.temporaries rows_one at → rows_two ≡ rows → Turned rows_two (length slice) needed → at_now ≡ at
    → now ≡ dense 0 at_now → Packed (function_tree f) (record { at = now; needed = lists needed })
packed_from f slice parameters rows rows_one rows_two at at_now now needed e d live c chosen g turned h i =
    subst (λ (places : List Place). Packed (function_tree f) (record { at = places; needed = lists needed })) (sym (i ∙ ap (dense 0) h))
    (packed f rows at needed
    (subst (λ (l : List Instruction). NeededRows l f.temporaries rows) e live)
    (subst (λ (ps : List Parameter). Chosen ps f.code.items f.temporaries rows at) d
    (subst (λ (l : List Instruction). Chosen parameters l f.temporaries rows at) e (subst (λ (r : Rows). Chosen parameters slice f.temporaries r at) c chosen)))
    (subst (λ (l : List Instruction). Turned rows (length l) needed) e (subst (λ (r : Rows). Turned r (length slice) needed) g turned)))
