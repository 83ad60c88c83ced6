-- Each step of a search keeps what holds.
use Rattle.std.proofs.Common.{◌≡◌, ℕ, zero, suc, ◌+◌, ◌<◌, ◌≤◌, Bool, true, false, List, [], ◌∷◌, ◌++◌, length, take, get_or, set, replicate, ⊎_elim, inl, inr, refl, sym, ap, ◌∙◌, subst, arith}
use Rattle.std.specs.Prelude.{◌⊎◌}
use Rattle.std.specs.List.{list_any}
use Rattle.std.proofs.lemmas.Bool.{both_ways, false_from_ne_true, or_from, cases_eq, cases_lt}
use Rattle.std.proofs.lemmas.List.{get_or-set_same, get_or-set_other, length-set, take_more, take_all, length-replicate, get_or-replicate, get_or_past}
use Rattle.std.proofs.lemmas.List.Folds.{list_any-append}
use Rattle.qs_core.specs.CallGraph.{is_member}
use Rattle.qs_callgraph.specs.CallLists.{callees_in, flag}
use Rattle.qs_callgraph.specs.Orders.{CalleesFirst}
use Rattle.qs_callgraph.specs.Searches.{progress_of, is_new, steps_left, all_steps_left, Keeps, IsLinked, IsChainIn, IsCycleIn, IsPathFrom, IsLast, IsBegun, Holds, IsOrderIn}
use Rattle.qs_callgraph.specs.declared.search.Progress.{Progress}
use Rattle.qs_callgraph.specs.declared.search.Progress.TheVariants.{New, Open, Done}
use Rattle.qs_callgraph.proofs.MemberLaws.{member_cases, member_kept, member_behind, member_last, member_first, first_cases, none_pass}
use Rattle.qs_callgraph.proofs.PathLaws.{linked_front, linked_behind, chain_closes, ends_so, apart_more, apart_front, apart_last}

-- ---- progress

pub open_same : (i j : ℕ) → Open i ≡ Open j → i ≡ j
open_same i j e = cc

pub new_not_open : (i : ℕ) → New ≡ Open i → ⊥
new_not_open i e = cc

pub new_not_done : New ≡ Done → ⊥
new_not_done e = cc

pub open_not_done : (i : ℕ) → Open i ≡ Done → ⊥
open_not_done i e = cc

-- what holds of f and its new progress, and of all others and theirs, holds of all
by_place :
    (ps : List Progress) (f : ℕ) (p : Progress) (P : ℕ → Progress → Type 0) → f < length ps → P f p
    → ((h : ℕ) → (h ≡ f → ⊥) → P h (progress_of ps h)) → (h : ℕ) → P h (progress_of (set ps f p) h)
by_place ps f p P w here there h =
    ⊎_elim
    (λ (e : h ≡ f). subst (λ (x : ℕ). P x (progress_of (set ps f p) x)) (sym e) (subst (P f) (sym (get_or-set_same ps f p New w)) here))
    (λ (d : h ≡ f → ⊥). subst (P h) (sym (get_or-set_other ps f h p New d)) (there h d))
    (cases_eq h f)

-- fewer steps are left
pub less :
    (graph : List (List ℕ)) (ps : List Progress) (f : ℕ) (p : Progress) → f < length graph → length ps ≡ length graph
    → steps_left (callees_in graph f) p < steps_left (callees_in graph f) (progress_of ps f)
    → all_steps_left graph (set ps f p) < all_steps_left graph ps
less [] ps f p h m l = absurd (omega (arith, h))
less (gs ∷ graph) [] f p h m l = absurd (omega (arith, m))
less (gs ∷ graph) (q ∷ ps) zero p h m l = omega (arith, l)
less (gs ∷ graph) (q ∷ ps) (suc f) p h m l =
    let r : all_steps_left graph (set ps f p) < all_steps_left graph ps = less graph ps f p (omega (arith, h)) (omega (arith, m)) l in omega (arith, r)

pub keeps : (ps : List Progress) (f : ℕ) (p : Progress) → f < length ps → is_new p ≡ false → Keeps ps (set ps f p)
keeps ps f p w n = by_place ps f p (λ h q. is_new (progress_of ps h) ≡ false → is_new q ≡ false) w (λ k. n) (λ h d k. k)

-- ---- orders grow

pub callees_more :
    (callees : ℕ → List ℕ) (has_spec : ℕ → Bool) (earlier order : List ℕ) (f : ℕ) → CalleesFirst callees has_spec earlier order
    → is_member f earlier ≡ false → is_member f order ≡ false
    → ((g : ℕ) → is_member g (callees f) ≡ true → has_spec g ≡ false → (is_member g order ≡ true) ⊎ (is_member g earlier ≡ true))
    → CalleesFirst callees has_spec earlier (order ++ f ∷ [])
callees_more callees has_spec earlier [] f c n m k =
    (n, λ g i free. ⊎_elim (λ (h : is_member g [] ≡ true). absurd (both_ways false refl h)) (λ (h : is_member g earlier ≡ true). h) (k g i free), tt)
callees_more callees has_spec earlier (x ∷ order) f c n m k =
    let away : x ≡ f → ⊥ = λ e. both_ways (is_member f (x ∷ order)) m (subst (λ (y : ℕ). is_member y (x ∷ order) ≡ true) e (member_first x order)) in (
      c.0,
      c.1,
      callees_more callees has_spec (x ∷ earlier) order f c.2
          (false_from_ne_true (is_member f (x ∷ earlier)) (λ h. ⊎_elim (λ (e : x ≡ f). away e) (λ (h : is_member f earlier ≡ true). both_ways (is_member f earlier) n h) (first_cases f x earlier h)))
          (false_from_ne_true (is_member f order) (λ h. both_ways (is_member f (x ∷ order)) m (member_behind f (x ∷ []) order h)))
          (λ g i free. ⊎_elim
          (λ (h : is_member g (x ∷ order) ≡ true). ⊎_elim
          (λ (e : x ≡ g). inr (subst (λ (y : ℕ). is_member y (x ∷ earlier) ≡ true) e (member_first x earlier)))
          (λ (h : is_member g order ≡ true). inl h) (first_cases g x order h))
          (λ (h : is_member g earlier ≡ true). inr (member_behind g (x ∷ []) earlier h)) (k g i free)),
    )

module _ (graph : List (List ℕ)) (has_spec : List Bool) where
  begun_other :
      (ps : List Progress) (order : List ℕ) (f h : ℕ) (p : Progress) → (h ≡ f → ⊥) → IsBegun graph has_spec ps order h
      → IsBegun graph has_spec (set ps f p) order h
  begun_other ps order f h p d b = record {
    within = b.within;
    free = b.free;
    next = b.next;
    is = get_or-set_other ps f h p New d ∙ b.is;
    at_most = b.at_most;
    looked = b.looked;
  }

  begun_more : (ps : List Progress) (order : List ℕ) (f h : ℕ) → IsBegun graph has_spec ps order h → IsBegun graph has_spec ps (order ++ f ∷ []) h
  begun_more ps order f h b = record {
    within = b.within;
    free = b.free;
    next = b.next;
    is = b.is;
    at_most = b.at_most;
    looked = λ g m free. member_kept g order (f ∷ []) (b.looked g m free);
  }

  -- f goes over its callee g, which has a specification or is in the order
  pub looks :
      (ps : List Progress) (path order : List ℕ) (f i g : ℕ) → Holds graph has_spec ps path order → is_member f path ≡ true
      → progress_of ps f ≡ Open i → i < length (callees_in graph f) → get_or (callees_in graph f) i 0 ≡ g
      → (flag has_spec g ≡ false → is_member g order ≡ true) → Holds graph has_spec (set ps f (Open (i + 1))) path order
  looks ps path order f i g h m is b at done =
      let begun = h.begun f m in
      let w : f < length ps = let n = h.many in let fw = begun.within in omega (arith, n, fw) in
      let same : begun.next ≡ i = open_same begun.next i (sym begun.is ∙ is) in
      let new : IsBegun graph has_spec (set ps f (Open (i + 1))) order f = record {
        within = begun.within;
        free = begun.free;
        next = i + 1;
        is = get_or-set_same ps f (Open (i + 1)) New w;
        at_most = omega (arith, b);
        looked = λ x k free.
            ⊎_elim
            (λ (k : is_member x (take i (callees_in graph f)) ≡ true). begun.looked x (subst (λ (n : ℕ). is_member x (take n (callees_in graph f)) ≡ true) (sym same) k) free)
            (λ (e : get_or (callees_in graph f) i 0 ≡ x). let gx : g ≡ x = sym at ∙ e in subst (λ (y : ℕ). is_member y order ≡ true) gx (done (ap (flag has_spec) gx ∙ free)))
            (member_cases x (get_or (callees_in graph f) i 0) (take i (callees_in graph f))
            (subst (λ (xs : List ℕ). is_member x xs ≡ true) (take_more (callees_in graph f) i 0 b) k));
      } in
      record {
        many = length-set ps f (Open (i + 1)) ∙ h.many;
        in_order = h.in_order;
        known = h.known;
        none = h.none;
        ordered = by_place ps f (Open (i + 1)) (λ x q. is_member x order ≡ true → q ≡ Done) w (λ k. absurd (open_not_done i (sym is ∙ h.ordered f k))) (λ x d k. h.ordered x k);
        done = by_place ps f (Open (i + 1)) (λ x q. q ≡ Done → is_member x order ≡ true) w (λ k. absurd (open_not_done (i + 1) k)) (λ x d k. h.done x k);
        begun = λ x k. ⊎_elim (λ (e : x ≡ f). subst (IsBegun graph has_spec (set ps f (Open (i + 1))) order) (sym e) new)
            (λ (d : x ≡ f → ⊥). begun_other ps order f x (Open (i + 1)) d (h.begun x k)) (cases_eq x f);
        on_path = by_place ps f (Open (i + 1)) (λ x q. (j : ℕ) → q ≡ Open j → is_member x path ≡ true) w (λ j k. m) (λ x d j k. h.on_path x j k);
        linked = h.linked;
        apart = h.apart;
      }

  -- g is begun
  pub begins :
      (ps : List Progress) (path order : List ℕ) (g : ℕ) → Holds graph has_spec ps path order → g < length graph
      → flag has_spec g ≡ false → progress_of ps g ≡ New → IsLinked (callees_in graph) (path ++ g ∷ [])
      → Holds graph has_spec (set ps g (Open 0)) (path ++ g ∷ []) order
  begins ps path order g h b free is linked =
      let w : g < length ps = let n = h.many in omega (arith, n, b) in
      let new : IsBegun graph has_spec (set ps g (Open 0)) order g = record {
        within = b;
        free = free;
        next = 0;
        is = get_or-set_same ps g (Open 0) New w;
        at_most = omega arith;
        looked = λ x k fr. absurd (both_ways false refl k);
      } in
      record {
        many = length-set ps g (Open 0) ∙ h.many;
        in_order = h.in_order;
        known = h.known;
        none = h.none;
        ordered = by_place ps g (Open 0) (λ x q. is_member x order ≡ true → q ≡ Done) w (λ k. absurd (new_not_done (sym is ∙ h.ordered g k))) (λ x d k. h.ordered x k);
        done = by_place ps g (Open 0) (λ x q. q ≡ Done → is_member x order ≡ true) w (λ k. absurd (open_not_done 0 k)) (λ x d k. h.done x k);
        begun = λ x k. ⊎_elim (λ (e : x ≡ g). subst (IsBegun graph has_spec (set ps g (Open 0)) order) (sym e) new)
            (λ (d : x ≡ g → ⊥). begun_other ps order g x (Open 0) d
            (h.begun x (⊎_elim (λ (k : is_member x path ≡ true). k) (λ (e : g ≡ x). absurd (d (sym e))) (member_cases x g path k)))) (cases_eq x g);
        on_path = by_place ps g (Open 0) (λ x q. (j : ℕ) → q ≡ Open j → is_member x (path ++ g ∷ []) ≡ true) w (λ j k. member_last g path)
            (λ x d j k. member_kept x path (g ∷ []) (h.on_path x j k));
        linked = linked;
        apart = apart_more path g h.apart (false_from_ne_true (is_member g path) (λ k. let o = h.begun g k in new_not_open o.next (sym is ∙ o.is)));
      }

  -- the last function f of the path is done
  pub finishes :
      (ps : List Progress) (front order : List ℕ) (f i : ℕ) → Holds graph has_spec ps (front ++ f ∷ []) order
      → progress_of ps f ≡ Open i → length (callees_in graph f) ≤ i → Holds graph has_spec (set ps f Done) front (order ++ f ∷ [])
  finishes ps front order f i h is all =
      let begun = h.begun f (member_last f front) in
      let w : f < length ps = let n = h.many in let fw = begun.within in omega (arith, n, fw) in
      let same : begun.next ≡ i = open_same begun.next i (sym begun.is ∙ is) in
      let whole : take begun.next (callees_in graph f) ≡ callees_in graph f = take_all begun.next (callees_in graph f) (omega (arith, same, all)) in
      let away : is_member f order ≡ false = false_from_ne_true (is_member f order) (λ k. open_not_done i (sym is ∙ h.ordered f k)) in
      record {
        many = length-set ps f Done ∙ h.many;
        in_order = callees_more (callees_in graph) (flag has_spec) [] order f h.in_order refl away
            (λ g k free. inl (begun.looked g (subst (λ (xs : List ℕ). is_member g xs ≡ true) (sym whole) k) free));
        known = λ x k. ⊎_elim (λ (k : is_member x order ≡ true). h.known x k) (λ (e : f ≡ x). subst (λ (y : ℕ). y < length graph) e begun.within) (member_cases x f order k);
        none = list_any-append (flag has_spec) order (f ∷ []) ∙ or_from (list_any (flag has_spec) order) (list_any (flag has_spec) (f ∷ [])) h.none (or_from (flag has_spec f) false begun.free refl);
        ordered = by_place ps f Done (λ x q. is_member x (order ++ f ∷ []) ≡ true → q ≡ Done) w (λ k. refl)
            (λ x d k. ⊎_elim (λ (k : is_member x order ≡ true). h.ordered x k) (λ (e : f ≡ x). absurd (d (sym e))) (member_cases x f order k));
        done = by_place ps f Done (λ x q. q ≡ Done → is_member x (order ++ f ∷ []) ≡ true) w (λ k. member_last f order) (λ x d k. member_kept x order (f ∷ []) (h.done x k));
        begun = λ x k. begun_more (set ps f Done) order f x (begun_other ps order f x Done
            (λ e. both_ways (is_member f front) (apart_last front f h.apart) (subst (λ (y : ℕ). is_member y front ≡ true) e k))
            (h.begun x (member_kept x front (f ∷ []) k)));
        on_path = by_place ps f Done (λ x q. (j : ℕ) → q ≡ Open j → is_member x front ≡ true) w (λ j k. absurd (open_not_done j (sym k)))
            (λ x d j k. ⊎_elim (λ (k : is_member x front ≡ true). k) (λ (e : f ≡ x). absurd (d (sym e))) (member_cases x f front (h.on_path x j k)));
        linked = linked_front (callees_in graph) front f h.linked;
        apart = apart_front front f h.apart;
      }

  -- the last function calls one that is on the path
  pub closes :
      (ps : List Progress) (path order : List ℕ) (f g : ℕ) (fs : List ℕ) → Holds graph has_spec ps path order → IsLast path f
      → is_member g (callees_in graph f) ≡ true → is_member g path ≡ true → IsPathFrom path g fs → IsCycleIn graph has_spec fs
  closes ps path order f g fs h last calls there from =
      let first = from.first there in
      let rest = first.0 in
      let split : path ≡ from.front ++ g ∷ rest = from.whole ∙ ap (λ (xs : List ℕ). from.front ++ xs) first.1 in
      let ends = ends_so from.front g rest last.front f (sym split ∙ last.whole) in
      let linked : IsLinked (callees_in graph) (g ∷ rest) = linked_behind (callees_in graph) from.front (g ∷ rest) (subst (IsLinked (callees_in graph)) split h.linked) in
      let chain : IsChainIn (callees_in graph) (g ∷ rest) g =
      subst (λ (xs : List ℕ). IsChainIn (callees_in graph) xs g) (sym ends.whole)
      (chain_closes (callees_in graph) ends.front f g (subst (IsLinked (callees_in graph)) ends.whole linked) calls) in
      let cycle : IsCycleIn graph has_spec (g ∷ rest) = record {
        circle = chain;
        none = none_pass (flag has_spec) (g ∷ rest) (λ x k.
            (h.begun x (subst (λ (xs : List ℕ). is_member x xs ≡ true) (sym split) (member_behind x from.front (g ∷ rest) k))).free);
      } in
      subst (IsCycleIn graph has_spec) (sym first.1) cycle

  -- ---- the beginning and the end

  pub starts : Holds graph has_spec (replicate (length graph) New) [] []
  starts =
      let all_new : (f : ℕ) → progress_of (replicate (length graph) New) f ≡ New = λ f.
      ⊎_elim (λ (l : f < length graph). get_or-replicate (length graph) f New New l)
      (λ (l : length graph ≤ f). get_or_past (replicate (length graph) New) f New (subst (λ (n : ℕ). n ≤ f) (sym (length-replicate (length graph) New)) l))
      (cases_lt f (length graph)) in
      record {
        many = length-replicate (length graph) New;
        in_order = tt;
        known = λ f m. absurd (both_ways false refl m);
        none = refl;
        ordered = λ f m. absurd (both_ways false refl m);
        done = λ f d. absurd (new_not_done (sym (all_new f) ∙ d));
        begun = λ f m. absurd (both_ways false refl m);
        on_path = λ f i o. absurd (new_not_open i (sym (all_new f) ∙ o));
        linked = tt;
        apart = tt;
      }

  pub ends :
      (ps : List Progress) (order : List ℕ) → Holds graph has_spec ps [] order
      → ((f : ℕ) → f < length graph → flag has_spec f ≡ false → is_new (progress_of ps f) ≡ false)
      → IsOrderIn graph has_spec order
  ends ps order h begun = record {
    known = h.known;
    none = h.none;
    all_there = λ f b free. by f (progress_of ps f) refl (begun f b free);
    in_order = h.in_order;
  }
    where
      by : (f : ℕ) (p : Progress) → progress_of ps f ≡ p → is_new p ≡ false → is_member f order ≡ true
      by f New is n = absurd (both_ways true n refl)
      by f (Open i) is n = absurd (both_ways false refl (h.on_path f i is))
      by f Done is n = h.done f is
