-- Where callees stand first but for a function's calls of itself, each cycle is one function; and the whole, where these count.
use Rattle.std.proofs.Common.{◌≡◌, ◌⊎◌, inl, inr, ◌<◌, ◌≤◌, ◌==◌, ℕ, suc, refl, sym, ap, ◌∙◌, subst, arith, Bool, true, false, List, [], ◌∷◌, length}
use Rattle.std.specs.Prelude.{◌||◌, if◌then◌else◌, is_some}
use Rattle.std.proofs.lemmas.Bool.{both_ways, eqb-true}
use Rattle.qs_core.specs.CallGraph.{calls, is_member, HasCall, IsChain}
use Rattle.qs_core.specs.Fits.{unit_fits}
use Rattle.qs_core.specs.Trees.{CoreUnitTree}
use Rattle.qs_callgraph.specs.Orders.{CalleesFirst}
use Rattle.qs_callgraph.proofs.MemberLaws.{first_cases, member_first}
use Rattle.qs_callgraph.proofs.UnitCalls.{has_caller}
use Rattle.qs_recur.specs.Entries.{proofs_of, entries_along}
use Rattle.qs_recur.specs.Needs.{Preconditions, helpers}
use Rattle.qs_recur.specs.Recursions.{pres_of, OnlyCountingCycle, left_of, Derives}
use Rattle.qs_recur.proofs.DerivedLaws.{written_derives}
use Rattle.qs_recur.proofs.HelpedLaws.{helper_listed}
use Rattle.qs_recur.proofs.OrderLaws.{entries_written}
use Rattle.qs_recur.proofs.OrderedLaws.{entries_ordered}

-- ---- places in the order

abbrev place : ℕ → List ℕ → ℕ
place f [] = 0
place f (h ∷ fs) = if h == f then 0 else suc (place f fs)

place_past : (f h : ℕ) (fs : List ℕ) → (h == f) ≡ false → place f (h ∷ fs) ≡ suc (place f fs)
place_past f h fs e = ap (λ (b : Bool). if b then 0 else suc (place f fs)) e

place_here : (f h : ℕ) (fs : List ℕ) → (h == f) ≡ true → place f (h ∷ fs) ≡ 0
place_here f h fs e = ap (λ (b : Bool). if b then 0 else suc (place f fs)) e

behind_first : (a b : Bool) → (a || b) ≡ true → a ≡ false → b ≡ true
behind_first true b h e = cc
behind_first false b h e = h

-- one that stands in it stands at no other's place
one_at_place : (fs : List ℕ) (f g : ℕ) → is_member f fs ≡ true → is_member g fs ≡ true → place f fs ≡ place g fs → f ≡ g
one_at_place [] f g m n e = absurd (both_ways false refl m)
one_at_place (h ∷ fs) f g m n e = by (h == f) refl (h == g) refl (one_at_place fs f g)
  where
    by : (a : Bool) → (h == f) ≡ a → (b : Bool) → (h == g) ≡ b → (is_member f fs ≡ true → is_member g fs ≡ true → place f fs ≡ place g fs → f ≡ g) → f ≡ g
    by true i true j later = sym (eqb-true h f i) ∙ eqb-true h g j
    by true i false j later = absurd (apart (place f (h ∷ fs)) (place g (h ∷ fs)) (place g fs) (place_here f h fs i) (place_past g h fs j) e)
      where
        apart : (a b c : ℕ) → a ≡ 0 → b ≡ suc c → a ≡ b → ⊥
        apart a b c i j e = omega (arith, i, j, e)
    by false i true j later = absurd (apart (place f (h ∷ fs)) (place g (h ∷ fs)) (place f fs) (place_past f h fs i) (place_here g h fs j) e)
      where
        apart : (a b c : ℕ) → a ≡ suc c → b ≡ 0 → a ≡ b → ⊥
        apart a b c i j e = omega (arith, i, j, e)
    by false i false j later =
        later (behind_first (h == f) (is_member f fs) m i) (behind_first (h == g) (is_member g fs) n j)
        (less_one (place f (h ∷ fs)) (place g (h ∷ fs)) (place f fs) (place g fs) (place_past f h fs i) (place_past g h fs j) e)
      where
        less_one : (a b c d : ℕ) → a ≡ suc c → b ≡ suc d → a ≡ b → c ≡ d
        less_one a b c d i j e = omega (arith, i, j, e)

module _ (callees : ℕ → List ℕ) where
  -- a callee stands before its caller
  falls : (earlier fs : List ℕ) → CalleesFirst callees (λ g. false) earlier fs → (f g : ℕ) → is_member f fs ≡ true → is_member g (callees f) ≡ true → (is_member g earlier ≡ true) ⊎ (place g fs < place f fs)
  falls earlier [] order f g m l = absurd (both_ways false refl m)
  falls earlier (h ∷ fs) order f g m l = by (h == f) refl (λ (n : is_member f fs ≡ true). falls (h ∷ earlier) fs order.2 f g n l)
    where
      less : (a b c d : ℕ) → a ≡ suc c → b ≡ suc d → c < d → a < b
      less a b c d i j e = omega (arith, i, j, e)

      low : (a b d : ℕ) → a ≡ 0 → b ≡ suc d → a < b
      low a b d i j = omega (arith, i, j)

      placed : (h == f) ≡ false → (b : Bool) → (h == g) ≡ b → place g fs < place f fs → place g (h ∷ fs) < place f (h ∷ fs)
      placed e true i p = low (place g (h ∷ fs)) (place f (h ∷ fs)) (place f fs) (place_here g h fs i) (place_past f h fs e)
      placed e false i p = less (place g (h ∷ fs)) (place f (h ∷ fs)) (place g fs) (place f fs) (place_past g h fs i) (place_past f h fs e) p

      or_first : (h == f) ≡ false → (b : Bool) → (h == g) ≡ b → (b || is_member g earlier) ≡ true → (is_member g earlier ≡ true) ⊎ (place g (h ∷ fs) < place f (h ∷ fs))
      or_first e true i m = inr (low (place g (h ∷ fs)) (place f (h ∷ fs)) (place f fs) (place_here g h fs i) (place_past f h fs e))
      or_first e false i m = inl m

      past : (h == f) ≡ false → (is_member g (h ∷ earlier) ≡ true) ⊎ (place g fs < place f fs) → (is_member g earlier ≡ true) ⊎ (place g (h ∷ fs) < place f (h ∷ fs))
      past e (inl i) = or_first e (h == g) refl i
      past e (inr p) = inr (placed e (h == g) refl p)

      by :
          (b : Bool) → (h == f) ≡ b → (is_member f fs ≡ true → (is_member g (h ∷ earlier) ≡ true) ⊎ (place g fs < place f fs)) → (is_member g earlier ≡ true) ⊎ (place g (h ∷ fs) < place f (h ∷ fs))
      by true e later = inl (order.1 g (subst (λ (k : ℕ). is_member g (callees k) ≡ true) (sym (eqb-true h f e)) l) refl)
      by false e later = past e (later (behind_first (h == f) (is_member f fs) m e))

-- ---- cycles

module _ (u : CoreUnitTree) (fits : unit_fits u ≡ true) (fs : List ℕ) (order : CalleesFirst (helpers u) (λ g. false) [] fs) (every : (f : ℕ) → f < length u.functions → is_member f fs ≡ true) where
  call_falls : (f g : ℕ) → HasCall u f g → place g fs ≤ place f fs
  call_falls f g called = by (g == f) refl
    where
      equal : (a b : ℕ) → a ≡ b → a ≤ b
      equal a b e = omega (arith, e)

      low : (a b : ℕ) → a < b → a ≤ b
      low a b e = omega (arith, e)

      or_none : (is_member g [] ≡ true) ⊎ (place g fs < place f fs) → place g fs ≤ place f fs
      or_none (inl m) = absurd (both_ways false refl m)
      or_none (inr p) = low (place g fs) (place f fs) p

      by : (b : Bool) → (g == f) ≡ b → place g fs ≤ place f fs
      by true e = equal (place g fs) (place f fs) (ap (λ (k : ℕ). place k fs) (eqb-true g f e))
      by false e =
          or_none (falls (helpers u) [] fs order f g (every f (has_caller u f g called)) (helper_listed u fits f g called e))

  pub record Between (f last g : ℕ) : Type 0 where
    pub low : place last fs ≤ place g fs
    pub high : place g fs ≤ place f fs
    pub there : is_member g fs ≡ true

  chain_falls : (f : ℕ) (gs : List ℕ) (last : ℕ) → IsChain u (f ∷ gs) last → (place last fs ≤ place f fs) × ((g : ℕ) → is_member g (f ∷ gs) ≡ true → Between f last g)
  chain_falls f [] last h = (call_falls f last h, λ g m. by g (first_cases g f [] m))
    where
      itself : (a : ℕ) → a ≤ a
      itself a = omega arith

      by : (g : ℕ) → (f ≡ g) ⊎ (is_member g [] ≡ true) → Between f last g
      by g (inl e) = subst (Between f last) e (record { low = call_falls f last h; high = itself (place f fs); there = every f (has_caller u f last h) })
      by g (inr m) = absurd (both_ways false refl m)
  chain_falls f (k ∷ gs) last h =
      let next = chain_falls k gs last h.1 in
      (through (place last fs) (place k fs) (place f fs) next.0 step, λ g m. by next g (first_cases g f (k ∷ gs) m))
    where
      through : (a b c : ℕ) → a ≤ b → b ≤ c → a ≤ c
      through a b c i j = omega (arith, i, j)

      itself : (a : ℕ) → a ≤ a
      itself a = omega arith

      step : place k fs ≤ place f fs
      step = call_falls f k h.0

      by : ((place last fs ≤ place k fs) × ((g : ℕ) → is_member g (k ∷ gs) ≡ true → Between k last g)) → (g : ℕ) → (f ≡ g) ⊎ (is_member g (k ∷ gs) ≡ true) → Between f last g
      by next g (inl e) =
          subst (Between f last) e (record { low = through (place last fs) (place k fs) (place f fs) next.0 step; high = itself (place f fs); there = every f (has_caller u f k h.0) })
      by next g (inr m) =
          let w = next.1 g m in
          record { low = w.low; high = through (place g fs) (place k fs) (place f fs) w.high step; there = w.there }

  -- all of a cycle are one
  circle_alone : (f : ℕ) (gs : List ℕ) → IsChain u (f ∷ gs) f → (g : ℕ) → is_member g (f ∷ gs) ≡ true → g ≡ f
  circle_alone f gs h g m =
      let w = (chain_falls f gs f h).1 g m in
      let first = (chain_falls f gs f h).1 f (member_first f gs) in
      one_at_place fs g f w.there first.there (same (place g fs) (place f fs) w.low w.high)
    where
      same : (a b : ℕ) → b ≤ a → a ≤ b → a ≡ b
      same a b i j = omega (arith, i, j)

  calls_itself : (f : ℕ) (gs : List ℕ) → IsChain u (f ∷ gs) f → HasCall u f f
  calls_itself f [] h = h
  calls_itself f (k ∷ gs) h = subst (λ (k : ℕ). HasCall u f k) (circle_alone f (k ∷ gs) h k (second (f == k) (k ∷ gs) (member_first k gs))) h.0
    where
      second : (a : Bool) (gs : List ℕ) → is_member k gs ≡ true → (a || is_member k gs) ≡ true
      second true gs m = refl
      second false gs m = m

  pub only_counting : (pres : Preconditions) → ((f : ℕ) → calls u f f ≡ true → is_some (pres f) ≡ true) → OnlyCountingCycle u pres
  only_counting pres count [] h = absurd h
  only_counting pres count (f ∷ gs) h = record { function = f; alone = λ g m. circle_alone f gs h g m; counts = count f (calls_itself f gs h) }

  -- ---- the whole

  pub order_derives :
      ((f : ℕ) → calls u f f ≡ true → is_some (pres_of (proofs_of (entries_along u fs [])) f) ≡ true)
      → Derives u (proofs_of (entries_along u fs [])) (left_of u (proofs_of (entries_along u fs [])))
  order_derives count =
      written_derives u fits (proofs_of (entries_along u fs [])) (entries_written u fits fs order every) (entries_ordered u fits fs order) refl
      (only_counting (pres_of (proofs_of (entries_along u fs []))) count)
