-- Jumps that stand one behind another. From each index they lead to what is no jump, or round in a circle. The
-- threaded code takes no step for those that lead on, and those that lead round make no more of a run. So a run of it
-- is told by weights: each step weighs more than the jumps of any row, and each jump that stands there weighs one.
use Rattle.std.proofs.Common.{◌≡◌, ℕ, zero, suc, ◌+◌, ◌-◌, ◌*◌, ◌<◌, ◌≤◌, ◌⊎◌, inl, inr, List, [], ◌∷◌, length, Option, Some, None, refl, sym, ap, subst, arith, suc-mul}
use Rattle.std.specs.List.{slice_get}
use Rattle.std.proofs.lemmas.Bool.{cases_lt}
use Rattle.qs_events.specs.Runs.{Within}
use Rattle.qs_events.proofs.RunLaws.{within_next}
use Rattle.qs_calls.specs.World.{World, RootRun}
use Rattle.qs_tac.specs.Trees.{InstructionTree, jump, TacFunctionTree, TacUnitTree}
use Rattle.qs_tac.specs.Holders.{Holder}
use Rattle.qs_tac.specs.Values.{Activation}
use Rattle.qs_tac.specs.Steps.{Waiting, going_to, steps}
use Rattle.qs_tac.proofs.RelationLaws.{steps_grow}
use Rattle.qs_lower_expressions.specs.Threads.{leads_to, follow}
use Rattle.qs_lower_expressions.proofs.ThreadLaws.{Kind, kind_of, target, stays, goes_on, code_in, code_of, v, there, ahead, at_step}
pub use Rattle.std.proofs.Common.{suc-mul as one_more}

-- ---- within a list of instructions

-- so many jumps lead from an index to another
abbrev pub Leads : List InstructionTree → (jumps from to : ℕ) → Type 0
Leads code zero i j = i ≡ j
Leads code (suc n) i j = (k : ℕ) × (slice_get code i ≡ Some (jump k)) × Leads code n k j

leads_both : (code : List InstructionTree) (n m i j k : ℕ) → Leads code n i j → Leads code m j k → Leads code (n + m) i k
leads_both code zero m i j k same l =
    let none : m ≡ 0 + m = omega arith in
    subst (λ (n : ℕ). Leads code n i k) none (subst (λ (x : ℕ). Leads code m x k) (sym same) l)
leads_both code (suc n) m i j k l r =
    let more : suc (n + m) ≡ suc n + m = omega arith in
    subst (λ (x : ℕ). Leads code x i k) more (l.0, l.1, leads_both code n m l.0 j k l.2 r)

leads_then : (code : List InstructionTree) (n i j k : ℕ) → Leads code n i j → slice_get code j ≡ Some (jump k) → Leads code (suc n) i k
leads_then code zero i j k same is = (k, subst (λ (m : ℕ). slice_get code m ≡ Some (jump k)) (sym same) is, refl)
leads_then code (suc n) i j k l is = (l.0, l.1, leads_then code n l.0 j k l.2 is)

-- jumps lead from it round to itself
abbrev pub Circles : List InstructionTree → ℕ → Type 0
Circles code i = (n : ℕ) × Leads code (suc n) i i

-- a circle's next index is on a circle too
round : (code : List InstructionTree) (i : ℕ) → Circles code i → (k : ℕ) × (slice_get code i ≡ Some (jump k)) × Circles code k
round code i c = (c.1.0, c.1.1, (c.0, leads_then code c.0 c.1.0 i c.1.0 c.1.2 c.1.1))

round_all : (code : List InstructionTree) (n i : ℕ) → Circles code i → Circles code (follow code n i)
round_all code zero i c = c
round_all code (suc n) i c =
    let r = round code i c in
    subst (λ (j : ℕ). Circles code j) (sym (goes_on code n i r.0 (ap leads_to r.1))) (round_all code n r.0 r.2)

-- jumps lead from it to a circle
pub record Endless (code : List InstructionTree) (index : ℕ) : Type 0 where
  pub jumps : ℕ
  pub round : ℕ
  pub leads : Leads code jumps index round
  pub circles : Circles code round

-- so many jumps lead from it to what is no jump
abbrev pub Settles : List InstructionTree → (jumps index : ℕ) → Type 0
Settles code zero i = leads_to (slice_get code i) ≡ None
Settles code (suc n) i = (k : ℕ) × (slice_get code i ≡ Some (jump k)) × Settles code n k

same_jump : (o : Option InstructionTree) (i j : ℕ) → o ≡ Some (jump i) → o ≡ Some (jump j) → i ≡ j
same_jump o i j h k = cc

no_jump : (o : Option InstructionTree) (k : ℕ) → leads_to o ≡ None → o ≡ Some (jump k) → ⊥
no_jump None k h is = cc
no_jump (Some x) k h is = let leads : leads_to (Some x) ≡ Some k = ap leads_to is in cc

pub settles_same : (code : List InstructionTree) (c d i : ℕ) → Settles code c i → Settles code d i → c ≡ d
settles_same code zero zero i s r = refl
settles_same code zero (suc d) i s r = absurd (no_jump (slice_get code i) r.0 s r.1)
settles_same code (suc c) zero i s r = absurd (no_jump (slice_get code i) s.0 r s.1)
settles_same code (suc c) (suc d) i s r =
    let same = same_jump (slice_get code i) r.0 s.0 r.1 s.1 in
    ap suc (settles_same code c d s.0 s.2 (subst (λ (k : ℕ). Settles code d k) same r.2))

leads_settles : (code : List InstructionTree) (n i j : ℕ) → Leads code n i j → leads_to (slice_get code j) ≡ None → Settles code n i
leads_settles code zero i j same h = subst (λ (k : ℕ). leads_to (slice_get code k) ≡ None) (sym same) h
leads_settles code (suc n) i j l h = (l.0, l.1, leads_settles code n l.0 j l.2 h)

-- ---- each index settles, or jumps lead from it to a circle

-- few jumps lead to what is no jump, or stands at this index or behind
record Ends (code : List InstructionTree) (from bound index : ℕ) : Type 0 where
  jumps : ℕ
  last : ℕ
  few : jumps ≤ bound
  leads : Leads code jumps index last
  ends : (leads_to (slice_get code last) ≡ None) ⊎ (from ≤ last)

abbrev EachEnds : List InstructionTree → (from bound : ℕ) → Type 0
EachEnds code from bound = (index : ℕ) → Ends code from bound index ⊎ Endless code index

jump_or_not : (o : Option InstructionTree) → (leads_to o ≡ None) ⊎ ((to : ℕ) × (o ≡ Some (jump to)))
jump_or_not o = of_kind (kind_of o)
  where
    of_kind : Kind o → (leads_to o ≡ None) ⊎ ((to : ℕ) × (o ≡ Some (jump to)))
    of_kind (inl plain) = inl plain.0
    of_kind (inr (inl (to, is))) = inr (to, is)
    of_kind (inr (inr (c, to, is))) = inl (ap leads_to is)

module _ (code : List InstructionTree) (from bound : ℕ) (each : EachEnds code from bound) where
  -- where the jump leads that stands at the first index that was left out
  behind :
      (n i to : ℕ) → n ≤ bound → Leads code n i from → slice_get code from ≡ Some (jump to)
      → Ends code from bound to ⊎ Endless code to → Ends code (suc from) (bound + suc bound) i ⊎ Endless code i
  behind n i to few leads is (inr e) =
      inr (record { jumps = n + suc e.jumps; round = e.round; leads = leads_both code n (suc e.jumps) i from e.round leads (to, is, e.leads); circles = e.circles })
  behind n i to few leads is (inl r) = by_end r.ends
    where
      longer : Leads code (n + suc r.jumps) i r.last
      longer = leads_both code n (suc r.jumps) i from r.last leads (to, is, r.leads)

      enough : n + suc r.jumps ≤ bound + suc bound
      enough = let fewer = r.few in omega (arith, few, fewer)

      by_place : (from < r.last) ⊎ (r.last ≤ from) → from ≤ r.last → Ends code (suc from) (bound + suc bound) i ⊎ Endless code i
      by_place (inl less) le = inl (record { jumps = n + suc r.jumps; last = r.last; few = enough; leads = longer; ends = inr (omega (arith, less)) })
      by_place (inr most) le =
          let same : r.last ≡ from = omega (arith, most, le) in
          inr (record { jumps = n; round = from; leads = leads; circles = (r.jumps, (to, is, subst (λ (j : ℕ). Leads code r.jumps to j) same r.leads)) })

      by_end : (leads_to (slice_get code r.last) ≡ None) ⊎ (from ≤ r.last) → Ends code (suc from) (bound + suc bound) i ⊎ Endless code i
      by_end (inl none) = inl (record { jumps = n + suc r.jumps; last = r.last; few = enough; leads = longer; ends = inl none })
      by_end (inr le) = by_place (cases_lt from r.last) le

  further : (i : ℕ) → Ends code from bound i ⊎ Endless code i → Ends code (suc from) (bound + suc bound) i ⊎ Endless code i
  further i (inr e) = inr e
  further i (inl r) = by_end r.ends
    where
      enough : r.jumps ≤ bound + suc bound
      enough = let few = r.few in omega (arith, few)

      at_from : Leads code r.jumps i from → (leads_to (slice_get code from) ≡ None) ⊎ ((to : ℕ) × (slice_get code from ≡ Some (jump to))) → Ends code (suc from) (bound + suc bound) i ⊎ Endless code i
      at_from leads (inl none) = inl (record { jumps = r.jumps; last = from; few = enough; leads = leads; ends = inl none })
      at_from leads (inr (to, is)) = behind r.jumps i to r.few leads is (each to)

      by_place : (from < r.last) ⊎ (r.last ≤ from) → from ≤ r.last → Ends code (suc from) (bound + suc bound) i ⊎ Endless code i
      by_place (inl less) le = inl (record { jumps = r.jumps; last = r.last; few = enough; leads = r.leads; ends = inr (omega (arith, less)) })
      by_place (inr most) le =
          let same : r.last ≡ from = omega (arith, most, le) in
          at_from (subst (λ (j : ℕ). Leads code r.jumps i j) same r.leads) (jump_or_not (slice_get code from))

      by_end : (leads_to (slice_get code r.last) ≡ None) ⊎ (from ≤ r.last) → Ends code (suc from) (bound + suc bound) i ⊎ Endless code i
      by_end (inl none) = inl (record { jumps = r.jumps; last = r.last; few = enough; leads = r.leads; ends = inl none })
      by_end (inr le) = by_place (cases_lt from r.last) le

-- within so many jumps each index up to the first that is left out is known
each_ends : (code : List InstructionTree) (from : ℕ) → (bound : ℕ) × EachEnds code from bound
each_ends code zero = (0, λ i. inl (record { jumps = 0; last = i; few = omega arith; leads = refl; ends = inr (omega arith) }))
each_ends code (suc from) =
    let each = each_ends code from in
    (each.0 + suc each.0, λ i. further code from each.0 each.1 i (each.1 i))

-- ---- weights

-- fewer jumps than that lead from it to what is no jump
pub record Settled (code : List InstructionTree) (weight index : ℕ) : Type 0 where
  pub jumps : ℕ
  pub few : jumps < weight
  pub settles : Settles code jumps index

-- a step weighs more than the jumps of any row that settles
pub record IsWeight (t : TacUnitTree) (weight : ℕ) : Type 0 where
  pub positive : 0 < weight
  pub each : (f index : ℕ) → Settled (code_of t f) weight index ⊎ Endless (code_of t f) index

past_all : (code : List InstructionTree) (i : ℕ) → length code ≤ i → leads_to (slice_get code i) ≡ None
past_all [] i h = refl
past_all (x ∷ code) zero h = absurd (omega (arith, h))
past_all (x ∷ code) (suc i) h = past_all code i (omega (arith, h))

settled_in : (code : List InstructionTree) → (bound : ℕ) × ((index : ℕ) → Settled code (suc bound) index ⊎ Endless code index)
settled_in code = let each = each_ends code (length code) in (each.0, λ i. settled each.0 i (each.1 i))
  where
    settled : (bound i : ℕ) → Ends code (length code) bound i ⊎ Endless code i → Settled code (suc bound) i ⊎ Endless code i
    settled bound i (inr e) = inr e
    settled bound i (inl r) = inl (record { jumps = r.jumps; few = let few = r.few in omega (arith, few); settles = leads_settles code r.jumps i r.last r.leads (none r.ends) })
      where
        none : (leads_to (slice_get code r.last) ≡ None) ⊎ (length code ≤ r.last) → leads_to (slice_get code r.last) ≡ None
        none (inl h) = h
        none (inr le) = past_all code r.last le

settled_more : (code : List InstructionTree) (i a b : ℕ) → a ≤ b → Settled code a i ⊎ Endless code i → Settled code b i ⊎ Endless code i
settled_more code i a b le (inr e) = inr e
settled_more code i a b le (inl s) = inl (record { jumps = s.jumps; few = let few = s.few in omega (arith, few, le); settles = s.settles })

settled_functions :
    (fs : List TacFunctionTree)
    → (bound : ℕ) × ((f index : ℕ) → Settled (code_in (slice_get fs f)) (suc bound) index ⊎ Endless (code_in (slice_get fs f)) index)
settled_functions [] = (0, λ f i. inl (record { jumps = 0; few = omega arith; settles = refl }))
settled_functions (g ∷ fs) =
    let first = settled_in g.code in
    let others = settled_functions fs in
    (first.0 + others.0, λ f i. by_number first.0 others.0 first.1 others.1 f i)
  where
    by_number :
        (a b : ℕ) → ((index : ℕ) → Settled g.code (suc a) index ⊎ Endless g.code index)
        → ((f index : ℕ) → Settled (code_in (slice_get fs f)) (suc b) index ⊎ Endless (code_in (slice_get fs f)) index)
        → (f index : ℕ) → Settled (code_in (slice_get (g ∷ fs) f)) (suc (a + b)) index ⊎ Endless (code_in (slice_get (g ∷ fs) f)) index
    by_number a b first others zero i = settled_more g.code i (suc a) (suc (a + b)) (omega arith) (first i)
    by_number a b first others (suc f) i = settled_more (code_in (slice_get fs f)) i (suc b) (suc (a + b)) (omega arith) (others f i)

-- each unit has one
pub weight_of : (t : TacUnitTree) → (weight : ℕ) × IsWeight t weight
weight_of t = let all = settled_functions t.functions in (suc all.0, record { positive = omega arith; each = all.1 })

-- ---- what the threaded code makes

module _ {S : Type 0} (h : Holder S) (u : TacUnitTree) where
  -- so many steps of the threaded code, behind any number of the jumps that stand here, are within the run
  abbrev pub Far : (n : ℕ) → Activation S → World → List (Waiting S) → RootRun → Type 0
  Far n a w stack o = (k : ℕ) → Within (steps h (v h u) n (ahead h u k a) w stack) o

  -- where no jump stands
  pub far_here :
      (n : ℕ) (a : Activation S) (w : World) (stack : List (Waiting S)) (o : RootRun)
      → leads_to (slice_get (code_of u a.function) a.at) ≡ None → Within (steps h (v h u) n a w stack) o → Far n a w stack o
  far_here n a w stack o plain within k =
      subst (λ (i : ℕ). Within (steps h (v h u) n (going_to i a) w stack) o) (sym (stays (code_of u a.function) k a.at plain)) within

  -- a jump, which takes no step
  far_jump :
      (n : ℕ) (a : Activation S) (w : World) (stack : List (Waiting S)) (o : RootRun) (to : ℕ)
      → slice_get (code_of u a.function) a.at ≡ Some (jump to) → Far n (going_to to a) w stack o → Far n a w stack o
  far_jump n a w stack o to is far zero = taken n far
    where
      taken : (n : ℕ) → Far n (going_to to a) w stack o → Within (steps h (v h u) n a w stack) o
      taken zero far = tt
      taken (suc n) far =
          subst (λ (r : RootRun). Within r o)
          (sym (at_step h u (v h u) n a w stack (Some (jump (target (code_of u a.function) to))) (there h u a _ is)))
          (within_next _ _ _
          (steps_grow h (v h u) n (suc n) (omega arith) (going_to (target (code_of u a.function) to) a) w stack)
          (far (length (code_of u a.function))))
  far_jump n a w stack o to is far (suc k) =
      subst (λ (i : ℕ). Within (steps h (v h u) n (going_to i a) w stack) o)
      (sym (goes_on (code_of u a.function) k a.at to (ap leads_to is))) (far k)

  -- on a circle the code makes nothing more
  circling : (n : ℕ) (a : Activation S) (w : World) (stack : List (Waiting S)) (o : RootRun) → Circles (code_of u a.function) a.at → Within (steps h (v h u) n a w stack) o
  circling zero a w stack o c = tt
  circling (suc n) a w stack o c =
      let r = round (code_of u a.function) a.at c in
      subst (λ (q : RootRun). Within q o)
      (sym (at_step h u (v h u) n a w stack (Some (jump (target (code_of u a.function) r.0))) (there h u a _ r.1)))
      (circling n (going_to (target (code_of u a.function) r.0) a) w stack o
      (round_all (code_of u a.function) (length (code_of u a.function)) r.0 r.2))

  far_round :
      (jumps to n : ℕ) (a : Activation S) (w : World) (stack : List (Waiting S)) (o : RootRun)
      → Leads (code_of u a.function) jumps a.at to → Circles (code_of u a.function) to → Far n a w stack o
  far_round zero to n a w stack o same c k =
      circling n (ahead h u k a) w stack o (round_all (code_of u a.function) k a.at (subst (λ (i : ℕ). Circles (code_of u a.function) i) (sym same) c))
  far_round (suc jumps) to n a w stack o l c k = far_jump n a w stack o l.0 l.1 (far_round jumps to n (going_to l.0 a) w stack o l.2 c) k

  -- ---- within a weight

  -- as many steps as do not weigh more, the jumps that stand here weighed too
  abbrev pub Makes : (weight d : ℕ) → Activation S → World → List (Waiting S) → RootRun → Type 0
  Makes weight d a w stack o = (jumps n : ℕ) → Settles (code_of u a.function) jumps a.at → n * weight + jumps ≤ d → Far n a w stack o

  pub makes_jump :
      (weight d : ℕ) (a : Activation S) (w : World) (stack : List (Waiting S)) (o : RootRun) (to : ℕ)
      → slice_get (code_of u a.function) a.at ≡ Some (jump to)
      → Makes weight (d - 1) (going_to to a) w stack o → Makes weight d a w stack o
  makes_jump weight d a w stack o to is made zero n s le = absurd (cc)
  makes_jump weight d a w stack o to is made (suc jumps) n s le =
      let same = same_jump (slice_get (code_of u a.function) a.at) s.0 to s.1 is in
      far_jump n a w stack o to is (made jumps n (subst (λ (k : ℕ). Settles (code_of u a.function) jumps k) same s.2) (omega (arith, le)))

  -- a step, and what the steps behind it make
  pub makes_step :
      (weight d : ℕ) (a : Activation S) (w : World) (stack : List (Waiting S)) (o : RootRun) (f : ℕ → RootRun)
      → leads_to (slice_get (code_of u a.function) a.at) ≡ None → ((j : ℕ) → steps h (v h u) (suc j) a w stack ≡ f j)
      → ((n : ℕ) → n * weight + weight ≤ d → Within (f n) o) → Makes weight d a w stack o
  makes_step weight d a w stack o f plain is within jumps zero s le = λ k. tt
  makes_step weight d a w stack o f plain is within jumps (suc n) s le =
      let more = suc-mul n weight in
      far_here (suc n) a w stack o plain
      (subst (λ (r : RootRun). Within r o) (sym (is n)) (within n (omega (arith, le, more))))

  -- whatever jumps stand here, steps that leave room for as many as there can be
  pub makes_far :
      (weight : ℕ) → IsWeight u weight → (d : ℕ) (a : Activation S) (w : World) (stack : List (Waiting S)) (o : RootRun)
      → Makes weight d a w stack o → (n : ℕ) → n * weight + weight ≤ d + 1 → Far n a w stack o
  makes_far weight is d a w stack o made n le = by_row (is.each a.function a.at)
    where
      by_row : Settled (code_of u a.function) weight a.at ⊎ Endless (code_of u a.function) a.at → Far n a w stack o
      by_row (inl s) = let few = s.few in made s.jumps n s.settles (omega (arith, le, few))
      by_row (inr e) = far_round e.jumps e.round n a w stack o e.leads e.circles
