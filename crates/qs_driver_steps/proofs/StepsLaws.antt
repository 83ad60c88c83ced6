-- What steps come to by the files: each law by one induction over them.
use Rattle.std.proofs.Common.{◌≡◌, ◌⊎◌, ◌∙◌, ℕ, ◌+◌, ◌<◌, ◌≤◌, Bool, true, false, ap, subst, sym, refl, inl, inr, arith}
use Rattle.std.specs.Prelude.{◌↔◌, ◌==◌}
use Rattle.std.proofs.lemmas.Bool.Decides.{nat_tests}
use Rattle.qs_ports.specs.StoreView.{Files}
use Rattle.qs_driver_steps.specs.Statuses.{Statuses, IsRefusal}
use Rattle.qs_driver_steps.specs.Steps.{Step, Steps, gives, first, Comes, ByTest, Stops, Ends, IsRefused}
use Rattle.qs_driver_steps.proofs.Laws.{FindsOne, FindsAlike, IsLawful, IsFrom}

-- ---- they come to one status, but for what is free in it

module _ {S : Statuses} {A : Type 0} (of : A → S.Status) where
  alike : (s : Step S) (rest : s.Found → Steps S A) → FindsOne s ⊎ FindsAlike of s rest → FindsAlike of s rest
  alike s rest (inl one) files y z h k a c = (a, subst (λ (x : s.Found). Comes of (rest x) files a) (one files y z h k) c, refl)
  alike s rest (inr agree) files y z h k a c = agree files y z h k a c

  pub one_status : (c : Steps S A) → IsLawful of c → (files : Files) (a b : S.Status) → Comes of c files a → Comes of c files b → S.seen a ≡ S.seen b
  one_status (gives x) l files a b p q = ap S.seen (p ∙ sym q)
  one_status (first s rest) l files a b (inl (f, c, p)) (inl (g, d, q)) = ap S.seen p ∙ l.0.one files f g c d ∙ ap S.seen (sym q)
  one_status (first s rest) l files a b (inl (f, c, p)) (inr (y, h, q)) = absurd (l.0.apart files f y c h)
  one_status (first s rest) l files a b (inr (y, h, p)) (inl (f, c, q)) = absurd (l.0.apart files f y c h)
  one_status (first s rest) l files a b (inr (y, h, p)) (inr (z, k, q)) =
      let there = alike s rest l.1 files y z h k a p in
      there.2 ∙ one_status (rest z) (l.2 z) files there.0 b there.1 q

-- ---- where they stop

of_test : {A B C : Type 0} (b : Bool) → (A → C) → (B → C) → ByTest b A B → C
of_test true f g h = f h
of_test false f g h = g h

where_true : (A B : Type 0) (b : Bool) → b ≡ true → A → ByTest b A B
where_true A B true e a = a
where_true A B false e a = absurd cc

where_false : (A B : Type 0) (b : Bool) → b ≡ false → B → ByTest b A B
where_false A B true e a = absurd cc
where_false A B false e a = a

same_number : (a b : ℕ) → a ≡ b → (b == a) ≡ true
same_number a b e = grind (arith, nat_tests)

later_number : (a b : ℕ) → a + 1 ≤ b → (a == b) ≡ false
later_number a b h = grind (arith, nat_tests)

further : (a b c : ℕ) → a ≤ b → b + 1 ≤ c → a ≤ c
further a b c h k = omega arith

not_last : (n m last : ℕ) → n ≡ m → m ≡ last → n < last → ⊥
not_last n m last e f h = omega arith

module _ {S : Statuses} {A : Type 0} (of : A → S.Status) where
  pub stops_come : (c : Steps S A) (number : ℕ) (files : Files) (status : S.Status) → Stops c number files status → Comes of c files status
  stops_come (gives a) number files status h = absurd h
  stops_come (first s rest) number files status h = of_test (s.number == number) (λ here. inl here) (λ later. inr (later.0, later.1, stops_come (rest later.0) number files status later.2)) h

  pub ends_come : (c : Steps S A) (files : Files) (status : S.Status) → Ends of c files status → Comes of c files status
  ends_come (gives a) files status h = h
  ends_come (first s rest) files status (y, h, k) = inr (y, h, ends_come (rest y) files status k)

  -- they end where no step refuses
  pub come_to_end : (c : Steps S A) (files : Files) (status : S.Status) → Comes of c files status → (IsRefused c files → ⊥) → Ends of c files status
  come_to_end (gives a) files status h never = h
  come_to_end (first s rest) files status (inl (f, c, e)) never = absurd (never (inl (f, c)))
  come_to_end (first s rest) files status (inr (y, h, k)) never = (y, h, come_to_end (rest y) files status k (λ r. never (inr (y, h, r))))

  -- the statuses have the numbers of the steps
  pub from_number : (c : Steps S A) (k : ℕ) → IsLawful of c → IsFrom of c k → (files : Files) (status : S.Status) → Comes of c files status → k ≤ S.number status
  from_number (gives a) k l o files status p = subst (λ (n : ℕ). k ≤ n) (sym (ap S.number p ∙ o.0)) o.1
  from_number (first s rest) k l o files status (inl (f, c, p)) = subst (λ (n : ℕ). k ≤ n) (sym (ap S.number p ∙ l.0.numbered f)) o.0
  from_number (first s rest) k l o files status (inr (y, h, q)) = further k s.number (S.number status) o.0 (from_number (rest y) (s.number + 1) (l.2 y) (o.2 y) files status q)

  pub comes_stops : (c : Steps S A) (k : ℕ) → IsLawful of c → IsFrom of c k → (files : Files) (status : S.Status) → IsRefusal S status → Comes of c files status → Stops c (S.number status) files status
  comes_stops (gives a) k l o files status refusal p = absurd (not_last (S.number status) (S.number (of a)) S.last (ap S.number p) o.0 refusal)
  comes_stops (first s rest) k l o files status refusal (inl (f, c, p)) = where_true _ _ (s.number == S.number status) (same_number (S.number status) s.number (ap S.number p ∙ l.0.numbered f)) (f, c, p)
  comes_stops (first s rest) k l o files status refusal (inr (y, h, q)) =
      let later : s.number + 1 ≤ S.number status = from_number (rest y) (s.number + 1) (l.2 y) (o.2 y) files status q in
      where_false _ _ (s.number == S.number status) (later_number s.number (S.number status) later) (y, h, comes_stops (rest y) (s.number + 1) (l.2 y) (o.2 y) files status refusal q)

  -- a status that is none of a refusal is that of the end
  pub comes_ends : (c : Steps S A) (k : ℕ) → IsLawful of c → IsFrom of c k → (files : Files) (status : S.Status) → S.number status ≡ S.last → Comes of c files status → Ends of c files status
  comes_ends (gives a) k l o files status is p = p
  comes_ends (first s rest) k l o files status is (inl (f, c, p)) = absurd (not_last (S.number status) (S.number status) S.last refl is (subst (λ (n : ℕ). n < S.last) (sym (ap S.number p ∙ l.0.numbered f)) o.1))
  comes_ends (first s rest) k l o files status is (inr (y, h, q)) = (y, h, comes_ends (rest y) (s.number + 1) (l.2 y) (o.2 y) files status is q)

-- Of a step whose statuses tell its faults apart: that it stops at this status is that it has this fault.
pub has_fault : {S : Statuses} (s : Step S) → ((f g : s.Fault) → s.status f ≡ s.status g → f ≡ g) → (files : Files) (f : s.Fault) → ((g : s.Fault) × s.Cause files g × (s.status f ≡ s.status g)) ↔ s.Cause files f
has_fault s one files f = ((λ h. subst (λ (x : s.Fault). s.Cause files x) (sym (one f h.0 h.2)) h.1), (λ c. (f, c, refl)))
