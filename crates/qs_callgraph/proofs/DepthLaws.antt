-- What a depth first search finds, and how each step goes towards it.
use Rattle.std.proofs.Common.{◌≡◌, ℕ, ◌+◌, ◌<◌, ◌≤◌, ◌||◌, Bool, true, false, List, [], ◌∷◌, ◌++◌, length, drop, get_or, set, refl, sym, ap, ◌∙◌, subst, arith, add-one}
use Rattle.std.proofs.lemmas.Bool.{both_ways, or_right, or_from}
use Rattle.std.proofs.lemmas.List.{get_or-set_same, get_or-set_other, length_push, same_from_push, drop_more, drop_all}
use Rattle.qs_core.specs.CallGraph.{below, is_member}
use Rattle.qs_callgraph.specs.Laws.{OneDepthFirst}
use Rattle.qs_callgraph.specs.Orders.{DepthFirst, ended, passes, enters}
use Rattle.qs_callgraph.specs.Searches.{progress_of, Finishes, arrived, goes_back}
use Rattle.qs_callgraph.specs.declared.search.Progress.{Progress}
use Rattle.qs_callgraph.specs.declared.search.Progress.TheVariants.{New, Open, Done}
use Rattle.qs_callgraph.proofs.MemberLaws.{member_kept, member_last}
use Rattle.qs_callgraph.proofs.SearchLaws.{open_same}

-- ---- one search finds one list

same_found :
    {callees : ℕ → List ℕ} {has_spec : ℕ → Bool} {found other fs all whole : List ℕ} → found ≡ other
    → DepthFirst callees has_spec found fs all → DepthFirst callees has_spec other fs whole → all ≡ whole
same_found e ended ended = e
same_found e (passes h a) (passes k b) = same_found e a b
same_found {has_spec} e (passes {f = f} h a) (enters k b d) =
    absurd (both_ways _ k (sym (ap (λ (xs : List ℕ). has_spec f || is_member f xs) e) ∙ h))
same_found {has_spec} e (enters {f = f} h a c) (passes k b) =
    absurd (both_ways _ h (ap (λ (xs : List ℕ). has_spec f || is_member f xs) e ∙ k))
same_found e (enters {f = f} h a c) (enters k b d) = same_found (ap (λ (xs : List ℕ). xs ++ f ∷ []) (same_found e a b)) c d

pub one_depth_first : OneDepthFirst
one_depth_first u has_spec fs gs a b = same_found refl a b

-- ---- one search behind another

pub found_behind :
    {callees : ℕ → List ℕ} {has_spec : ℕ → Bool} {found fs gs middle all : List ℕ} → DepthFirst callees has_spec found fs middle
    → DepthFirst callees has_spec middle gs all → DepthFirst callees has_spec found (fs ++ gs) all
found_behind ended d = d
found_behind (passes h a) d = passes h (found_behind a d)
found_behind (enters h a c) d = enters h a (found_behind c d)

-- ---- the way back along the path

module _ (callees : ℕ → List ℕ) (has_spec : ℕ → Bool) where
  -- back from the last function of the path
  record GoesBack (ps : List Progress) (front : List ℕ) (f : ℕ) (found all : List ℕ) : Type 0 where
    next : ℕ
    is : progress_of ps f ≡ Open next
    behind : List ℕ
    inner : DepthFirst callees has_spec found (drop next (callees f)) behind
    rest : Finishes callees has_spec ps front (behind ++ f ∷ []) all

  never_empty : (front : List ℕ) (f : ℕ) → [] ≡ front ++ f ∷ [] → ⊥
  never_empty front f e = let n = ap length e in let m = length_push front f in omega (arith, n, m)

  back :
      {ps : List Progress} {path found all : List ℕ} (front : List ℕ) (f : ℕ) → path ≡ front ++ f ∷ [] → Finishes callees has_spec ps path found all
      → GoesBack ps front f found all
  back front f e arrived = absurd (never_empty front f e)
  back {ps} {path} {found} {all} front f e (goes_back other g {next = next} {behind = behind} whole is inner rest) =
      let same = same_from_push other front g f (sym whole ∙ e) in
      let there : GoesBack ps other g found all = record { next = next; is = is; behind = behind; inner = inner; rest = rest } in
      subst (λ (x : ℕ). GoesBack ps front x found all) same.1 (subst (λ (xs : List ℕ). GoesBack ps xs g found all) same.0 there)

  -- nothing is left
  at_end : {ps : List Progress} {path found all : List ℕ} → path ≡ [] → Finishes callees has_spec ps path found all → found ≡ all
  at_end e arrived = refl
  at_end e (goes_back front f whole is inner rest) = absurd (never_empty front f (sym e ∙ whole))

  -- it goes by the progress of the functions on the path alone
  same_way :
      {old new : List Progress} {path found all : List ℕ} → ((h : ℕ) → is_member h path ≡ true → progress_of old h ≡ progress_of new h)
      → Finishes callees has_spec new path found all → Finishes callees has_spec old path found all
  same_way same arrived = arrived
  same_way same (goes_back front f whole is inner rest) =
      goes_back front f whole
      (same f (subst (λ (xs : List ℕ). is_member f xs ≡ true) (sym whole) (member_last f front)) ∙ is)
      inner
      (same_way (λ h m. same h (subst (λ (xs : List ℕ). is_member h xs ≡ true) (sym whole) (member_kept h front (f ∷ []) m))) rest)

  set_elsewhere :
      (ps : List Progress) (path : List ℕ) (f : ℕ) (p : Progress) → is_member f path ≡ false
      → (h : ℕ) → is_member h path ≡ true → progress_of ps h ≡ progress_of (set ps f p) h
  set_elsewhere ps path f p away h m =
      sym (get_or-set_other ps f h p New (λ e. both_ways (is_member f path) away (subst (λ (x : ℕ). is_member x path ≡ true) e m)))

  passed : {f : ℕ} {found fs all : List ℕ} → (has_spec f || is_member f found) ≡ true → DepthFirst callees has_spec found (f ∷ fs) all → DepthFirst callees has_spec found fs all
  passed k (passes h a) = a
  passed k (enters h a c) = absurd (both_ways _ h k)

  -- f passes over its callee g
  pub finds_past :
      (ps : List Progress) (path front found all : List ℕ) (f at g : ℕ) → path ≡ front ++ f ∷ [] → is_member f front ≡ false → f < length ps
      → progress_of ps f ≡ Open at → at < length (callees f) → get_or (callees f) at 0 ≡ g → (has_spec g || is_member g found) ≡ true
      → Finishes callees has_spec (set ps f (Open (at + 1))) path found all → Finishes callees has_spec ps path found all
  finds_past ps path front found all f at g whole away w is b callee known finish =
      let r = back front f whole finish in
      let next : r.next ≡ at + 1 = open_same r.next (at + 1) (sym r.is ∙ get_or-set_same ps f (Open (at + 1)) New w) in
      goes_back front f whole is
      (subst (λ (xs : List ℕ). DepthFirst callees has_spec found xs r.behind) (sym (drop_more (callees f) at 0 b))
      (passes (subst (λ (x : ℕ). (has_spec x || is_member x found) ≡ true) (sym callee) known)
      (subst (λ (n : ℕ). DepthFirst callees has_spec found (drop n (callees f)) r.behind) next r.inner)))
      (same_way (set_elsewhere ps front f (Open (at + 1)) away) r.rest)

  -- what is found once g is begun
  inner_of :
      (ps : List Progress) (g next : ℕ) (found behind : List ℕ) → g < length ps → progress_of (set ps g (Open 0)) g ≡ Open next
      → DepthFirst callees has_spec found (drop next (callees g)) behind → DepthFirst callees has_spec found (callees g) behind
  inner_of ps g next found behind w is inner =
      let first : next ≡ 0 = open_same next 0 (sym is ∙ get_or-set_same ps g (Open 0) New w) in
      subst (λ (n : ℕ). DepthFirst callees has_spec found (drop n (callees g)) behind) first inner

  -- f enters its callee g
  pub finds_inside :
      (ps : List Progress) (path front found all : List ℕ) (f at g : ℕ) → path ≡ front ++ f ∷ [] → is_member g path ≡ false → g < length ps
      → progress_of ps f ≡ Open at → at < length (callees f) → get_or (callees f) at 0 ≡ g → has_spec g ≡ false → is_member g found ≡ false
      → Finishes callees has_spec (set ps g (Open 0)) (path ++ g ∷ []) found all → Finishes callees has_spec ps path found all
  finds_inside ps path front found all f at g whole away w is b callee free new finish =
      let r = back path g refl finish in
      let s = back front f whole (same_way (set_elsewhere ps path g (Open 0) away) r.rest) in
      let next : s.next ≡ at = open_same s.next at (sym s.is ∙ is) in
      let split : drop at (callees f) ≡ g ∷ drop (at + 1) (callees f) = drop_more (callees f) at 0 b ∙ ap (λ (x : ℕ). x ∷ drop (at + 1) (callees f)) callee in
      let again : DepthFirst callees has_spec (r.behind ++ g ∷ []) (g ∷ drop (at + 1) (callees f)) s.behind =
      subst (λ (xs : List ℕ). DepthFirst callees has_spec (r.behind ++ g ∷ []) xs s.behind) (ap (λ (n : ℕ). drop n (callees f)) next ∙ split) s.inner in
      goes_back front f whole is
      (subst (λ (xs : List ℕ). DepthFirst callees has_spec found xs s.behind) (sym split)
      (enters (or_from (has_spec g) (is_member g found) free new) (inner_of ps g r.next found r.behind w r.is r.inner)
      (passed (or_right (has_spec g) (is_member g (r.behind ++ g ∷ [])) (member_last g r.behind)) again)))
      s.rest

  -- f is done
  pub finds_last :
      (ps : List Progress) (path front found all : List ℕ) (f at : ℕ) → path ≡ front ++ f ∷ [] → is_member f front ≡ false
      → progress_of ps f ≡ Open at → length (callees f) ≤ at
      → Finishes callees has_spec (set ps f Done) front (found ++ f ∷ []) all → Finishes callees has_spec ps path found all
  finds_last ps path front found all f at whole away is l finish =
      goes_back front f whole is (subst (λ (xs : List ℕ). DepthFirst callees has_spec found xs found) (sym (drop_all at (callees f) l)) ended)
      (same_way (set_elsewhere ps front f Done away) finish)

  -- ---- visits

  pub finds_root :
      (ps : List Progress) (found all : List ℕ) (root : ℕ) → root < length ps → has_spec root ≡ false → is_member root found ≡ false
      → Finishes callees has_spec (set ps root (Open 0)) (root ∷ []) found all → DepthFirst callees has_spec found (root ∷ []) all
  finds_root ps found all root w free new finish =
      let r = back [] root refl finish in
      enters (or_from (has_spec root) (is_member root found) free new) (inner_of ps root r.next found r.behind w r.is r.inner)
      (subst (λ (xs : List ℕ). DepthFirst callees has_spec (r.behind ++ root ∷ []) [] xs) (at_end refl r.rest) ended)

  -- the whole path is gone back
  pub gone_back : (ps : List Progress) (path found : List ℕ) → path ≡ [] → Finishes callees has_spec ps path found found
  gone_back ps path found e = subst (λ (xs : List ℕ). Finishes callees has_spec ps xs found found) (sym e) arrived

  -- ---- the search

  pub next_found :
      (found all : List ℕ) (i : ℕ) → DepthFirst callees has_spec [] (below i) found → DepthFirst callees has_spec found (i ∷ []) all
      → DepthFirst callees has_spec [] (below (i + 1)) all
  next_found found all i d e = subst (λ (n : ℕ). DepthFirst callees has_spec [] (below n) all) (sym (add-one i)) (found_behind d e)

  pub next_passed :
      (found : List ℕ) (i : ℕ) → DepthFirst callees has_spec [] (below i) found → (has_spec i || is_member i found) ≡ true
      → DepthFirst callees has_spec [] (below (i + 1)) found
  next_passed found i d h = next_found found found i d (passes h ended)
