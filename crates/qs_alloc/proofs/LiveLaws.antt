-- What is listed is needed, and what is needed gets listed.
use Rattle.std.proofs.Common.{◌≡◌, ℕ, zero, suc, ◌+◌, ◌<◌, ◌≤◌, ◌==◌, true, false, List, [], ◌∷◌, ◌++◌, take, length, map, set, get_or, Some, refl, sym, ap, ◌∙◌, subst, inl, inr, ⊎_elim, arith}
use Rattle.std.specs.Prelude.{slice_get, Contains}
use Rattle.std.proofs.Math.ListN.{length-set}
use Rattle.std.proofs.lemmas.Bool.{cases_eq, eq-eqb}
use Rattle.std.proofs.lemmas.Bool.Decides.{nat_tests}
use Rattle.std.proofs.lemmas.List.{take_more, length_push, get_or-set_same, get_or-set_other, get_or_append_left}
use Rattle.std.proofs.lemmas.List.Elements.{Contains-append_left, Contains-append_right, Contains-append_cases, Contains-push, Contains-push_cases}
use Rattle.qs_tac.specs.declared.instruction.Instruction.{Instruction}
use Rattle.qs_tac.specs.TreeOf.{instruction_tree}
use Rattle.qs_tac.specs.Uses.{writes}
use Rattle.std.proofs.lemmas.Option.{slice_get-map}
use Rattle.std.specs.Prelude.{option_map}
use Rattle.qs_alloc.specs.declared.rows.Side.TheVariants.{Next, Read}
use Rattle.qs_alloc.specs.declared.rows.Side.{Side}
use Rattle.qs_alloc.specs.Rows.{Rows, row, Names, RowsOf}
use Rattle.qs_alloc.specs.LiveRanges.{AllBelowStamp, one_unless, unseen, Sees, Reached, ReachedBefore, Passed, Lists, MustNeed, Leads, Passes, LiveAfter}
use Rattle.qs_alloc.proofs.RowLaws.{some_same, row_past, row_below}
use Rattle.qs_alloc.proofs.Tests.{none_in_empty}

pub any_default : (xs : List ℕ) (k a b : ℕ) → k < length xs → get_or xs k a ≡ get_or xs k b
any_default [] k a b l = absurd (omega arith)
any_default (x ∷ xs) zero a b l = refl
any_default (x ∷ xs) (suc k) a b l = any_default xs k a b (omega arith)

-- a fact of each element by its index is a fact of each element
pub by_index : (P : ℕ → Type 0) (xs : List ℕ) → ((k : ℕ) → k < length xs → P (get_or xs k 0)) → (t : ℕ) → Contains xs t → P t
by_index P xs h t c = subst P (any_default xs c.0 0 t c.1 ∙ c.2) (h c.0 c.1)

unseen_set : (stamp : ℕ) (seen : List ℕ) (p : ℕ) → p < length seen → (get_or seen p 0 ≡ stamp → ⊥) → unseen stamp (set seen p stamp) + 1 ≡ unseen stamp seen
unseen_set stamp [] p l ne = absurd (omega arith)
unseen_set stamp (x ∷ seen) zero l ne =
    let a : (stamp == stamp) ≡ true = eq-eqb stamp stamp refl in
    let b : (x == stamp) ≡ false = grind (arith, nat_tests) in
    let e : one_unless (stamp == stamp) ≡ 0 = ap one_unless a in
    let f : one_unless (x == stamp) ≡ 1 = ap one_unless b in
    omega arith
unseen_set stamp (x ∷ seen) (suc p) l ne = let h = unseen_set stamp seen p (omega arith) ne in omega arith

unseen_fresh : (stamp : ℕ) (seen : List ℕ) → ((p : ℕ) → p < length seen → get_or seen p 0 < stamp) → unseen stamp seen ≡ length seen
unseen_fresh stamp [] h = refl
unseen_fresh stamp (x ∷ seen) h =
    let l : x < stamp = h 0 (omega arith) in
    let b : (x == stamp) ≡ false = grind (arith, nat_tests) in
    let e : one_unless (x == stamp) ≡ 1 = ap one_unless b in
    let r = unseen_fresh stamp seen (λ p m. h (suc p) (omega arith)) in
    omega arith

pub sees_fresh : (stamp : ℕ) (seen live : List ℕ) → AllBelowStamp stamp seen → live ≡ [] → Sees stamp seen live
sees_fresh stamp seen live fresh e = record {
  most = λ p l. let h = fresh.below p l in omega arith;
  there = λ p l s. let h = fresh.below p l in absurd (omega arith);
  below = λ p c. absurd (none_in_empty p (subst (λ (xs : List ℕ). Contains xs p) e c));
  count = let h = unseen_fresh stamp seen fresh.below in let n : length live ≡ 0 = ap length e in omega arith;
}

pub reached_push : (stamp : ℕ) (seen live now : List ℕ) (p : ℕ) → Sees stamp seen live → p < length seen → (get_or seen p 0 ≡ stamp → ⊥) → now ≡ live ++ p ∷ [] → Reached stamp (p ∷ []) seen (set seen p stamp) live now
reached_push stamp seen live now p s l ne e = record {
  sees = record {
    most = λ q m. ⊎_elim
        (λ (f : q ≡ p). let h : get_or (set seen p stamp) q 0 ≡ stamp = at_p q f in omega arith)
        (λ (f : q ≡ p → ⊥). let h : get_or (set seen p stamp) q 0 ≡ get_or seen q 0 = get_or-set_other seen p q stamp 0 f in let o = s.most q (inside q m) in omega arith)
        (cases_eq q p);
    there = λ q m f. ⊎_elim
        (λ (g : q ≡ p). in_now q (subst (Contains (live ++ p ∷ [])) (sym g) (Contains-push live p)))
        (λ (g : q ≡ p → ⊥). in_now q (Contains-append_left live (p ∷ []) q (s.there q (inside q m) (sym (get_or-set_other seen p q stamp 0 g) ∙ f))))
        (cases_eq q p);
    below = λ q c. let n = length-set seen p stamp in ⊎_elim
        (λ d. let b = s.below q d in omega arith)
        (λ (f : p ≡ q). omega arith)
        (Contains-push_cases live p q (subst (λ (xs : List ℕ). Contains xs q) e c));
    count =
        let n : length (set seen p stamp) ≡ length seen = length-set seen p stamp in
        let u = unseen_set stamp seen p l ne in
        let g : length now ≡ length live + 1 = ap length e ∙ length_push live p in
        let o = s.count in
        omega arith;
  };
  size = length-set seen p stamp;
  longer = let g : length now ≡ length live + 1 = ap length e ∙ length_push live p in omega arith;
  kept = λ k m. ap (λ (xs : List ℕ). get_or xs k 0) e ∙ get_or_append_left live (p ∷ []) 0 k m;
  still = λ q c. in_now q (Contains-append_left live (p ∷ []) q c);
  all = λ q c. in_now q (Contains-append_right live (p ∷ []) q c);
  from = λ q c. Contains-append_cases live (p ∷ []) q (subst (λ (xs : List ℕ). Contains xs q) e c);
}
  where
    in_now : (q : ℕ) → Contains (live ++ p ∷ []) q → Contains now q
    in_now q c = subst (λ (xs : List ℕ). Contains xs q) (sym e) c

    inside : (q : ℕ) → q < length (set seen p stamp) → q < length seen
    inside q m = subst (λ (n : ℕ). q < n) (length-set seen p stamp) m

    at_p : (q : ℕ) → q ≡ p → get_or (set seen p stamp) q 0 ≡ stamp
    at_p q f = ap (λ (i : ℕ). get_or (set seen p stamp) i 0) f ∙ get_or-set_same seen p stamp 0 l

pub reached_more : (stamp : ℕ) (these : List ℕ) (k : ℕ) (a b c l m n : List ℕ) → k < length these → Reached stamp (take k these) a b l m → Reached stamp (get_or these k 0 ∷ []) b c m n → Reached stamp (take (k + 1) these) a c l n
reached_more stamp these k a b c l m n below x y = record {
  sees = y.sees;
  size = y.size ∙ x.size;
  longer = let h = x.longer in let i = y.longer in omega arith;
  kept = λ j j_below. let h = x.longer in y.kept j (omega arith) ∙ x.kept j j_below;
  still = λ p d. y.still p (x.still p d);
  all = λ p d. ⊎_elim (λ z. y.still p (x.all p z)) (λ z. y.all p z) (Contains-append_cases (take k these) (get_or these k 0 ∷ []) p (subst (λ (xs : List ℕ). Contains xs p) (take_more these k 0 below) d));
  from = λ p d. ⊎_elim
      (λ z. ⊎_elim (λ w. inl w) (λ w. inr (whole p (Contains-append_left (take k these) (get_or these k 0 ∷ []) p w))) (x.from p z))
      (λ z. inr (whole p (Contains-append_right (take k these) (get_or these k 0 ∷ []) p z)))
      (y.from p d);
}
  where
    whole : (p : ℕ) → Contains (take k these ++ get_or these k 0 ∷ []) p → Contains (take (k + 1) these) p
    whole p d = subst (λ (xs : List ℕ). Contains xs p) (sym (take_more these k 0 below)) d

pub tree_here : (code : List Instruction) (p : ℕ) (i : Instruction) → slice_get code p ≡ Some i → slice_get (map instruction_tree code) p ≡ Some (instruction_tree i)
tree_here code p i here = slice_get-map instruction_tree code p ∙ ap (option_map instruction_tree) here

pub must_read : (code : List Instruction) (p q t : ℕ) → Names Read code t q → Names Next code q p → MustNeed code p t
must_read code p q t r n = record {
  must = λ other closed.
      closed.flows p q t (record { instruction = instruction_tree n.instruction; here = tree_here code p n.instruction n.here; next = n.key })
      (record { instruction = instruction_tree r.instruction; here = tree_here code q r.instruction r.here; why = inl r.key });
}

pub must_on : (code : List Instruction) (p q t : ℕ) (j : Instruction) → slice_get code q ≡ Some j → (writes (instruction_tree j) ≡ Some t → ⊥) → Names Next code q p → MustNeed code q t → MustNeed code p t
must_on code p q t j here other n m = record {
  must = λ cert closed.
      closed.flows p q t (record { instruction = instruction_tree n.instruction; here = tree_here code p n.instruction n.here; next = n.key })
      (record { instruction = instruction_tree j; here = tree_here code q j here; why = inr (m.must cert closed, other) });
}

pub leads_still : (code : List Instruction) (live now : List ℕ) (q : ℕ) → ((p : ℕ) → Contains live p → Contains now p) → Leads code live q → Leads code now q
leads_still code live now q still l = record { each = λ p n. still p (l.each p n) }

pub passes_still : (code : List Instruction) (t : ℕ) (live now : List ℕ) (q : ℕ) → ((p : ℕ) → Contains live p → Contains now p) → Passes code t live q → Passes code t now q
passes_still code t live now q still l = record { on = λ j here other. leads_still code live now q still (l.on j here other) }

pub passed_on : (code : List Instruction) (t q stamp : ℕ) (seen live now : List ℕ) (i : Instruction) → slice_get code q ≡ Some i → (writes (instruction_tree i) ≡ Some t → ⊥) → ReachedBefore code q stamp seen live now → Passed code t q stamp seen live now
passed_on code t q stamp seen live now i here other r = record {
  sees = r.sees;
  size = r.size;
  longer = r.longer;
  kept = r.kept;
  still = r.still;
  passes = record { on = λ j there o. r.leads };
  from = λ p d. ⊎_elim (λ x. inl x) (λ x. inr (record { instruction = i; here = here; other = other; leads = x })) (r.from p d);
}

pub passed_by : (code : List Instruction) (t q stamp : ℕ) (seen live : List ℕ) (i : Instruction) → slice_get code q ≡ Some i → writes (instruction_tree i) ≡ Some t → Sees stamp seen live → length seen ≡ length code → Passed code t q stamp seen live live
passed_by code t q stamp seen live i here written s size = record {
  sees = s;
  size = size;
  longer = omega arith;
  kept = λ k m. refl;
  still = λ p d. d;
  passes = record { on = λ j there o. absurd (o (ap (λ l. writes (instruction_tree l)) (some_same j i (sym there ∙ here)) ∙ written)) };
  from = λ p d. inl d;
}

pub lists_row : (side : Side) (code : List Instruction) (n k : ℕ) (rows : Rows) (list : List ℕ) → RowsOf side code n rows → row rows k ≡ list → Lists side code k list
lists_row side code n k rows list r e = record {
  names = λ p d. r.names k p (subst (λ (xs : List ℕ). Contains xs p) (sym e) d);
  named = λ p m. subst (λ (xs : List ℕ). Contains xs p) e (r.named k p m);
}

-- a temporary that nothing reads is needed nowhere
pub live_nowhere : (code : List Instruction) (n t : ℕ) (readers rows : Rows) → RowsOf Read code n readers → length rows ≡ length readers → length rows ≤ t → LiveAfter code t (row rows t)
live_nowhere code n t readers rows r e l = subst (LiveAfter code t) (sym (row_past rows t l)) (record {
  below = λ p c. absurd (none_in_empty p c);
  must = λ p c. absurd (none_in_empty p c);
  reads = λ q m. let b = row_below readers t q (r.named t q m) in absurd (omega arith);
  passes = λ q c. absurd (none_in_empty q c);
})
