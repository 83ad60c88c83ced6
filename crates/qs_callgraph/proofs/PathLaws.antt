-- Paths of functions, each called by the one before it.
use Rattle.std.proofs.Common.{◌≡◌, ℕ, ◌==◌, true, false, List, [], ◌∷◌, ◌++◌, refl, sym, ap, ◌∙◌, subst}
use Rattle.std.proofs.lemmas.Bool.{or_parts, or_from, ne_eqb, eqb-false}
use Rattle.std.proofs.lemmas.List.{append_assoc, same_from_push}
use Rattle.qs_core.specs.CallGraph.{IsChain, IsCircle, is_member}
use Rattle.qs_core.specs.Trees.{CoreUnitTree}
use Rattle.qs_core.specs.CallGraph.{called_by}
use Rattle.qs_callgraph.specs.Searches.{IsLinked, IsChainIn, IsCircleIn, AreApart}
use Rattle.qs_callgraph.proofs.MemberLaws.{member-push}
use Rattle.qs_callgraph.proofs.UnitCalls.{is_call}

-- ---- what is linked

pub linked_more : (callees : ℕ → List ℕ) (front : List ℕ) (f g : ℕ) → IsLinked callees (front ++ f ∷ []) → is_member g (callees f) ≡ true → IsLinked callees ((front ++ f ∷ []) ++ g ∷ [])
linked_more callees [] f g l c = (c, tt)
linked_more callees (x ∷ []) f g l c = (l.0, (c, tt))
linked_more callees (x ∷ y ∷ front) f g l c = (l.0, linked_more callees (y ∷ front) f g l.1 c)

pub linked_front : (callees : ℕ → List ℕ) (front : List ℕ) (f : ℕ) → IsLinked callees (front ++ f ∷ []) → IsLinked callees front
linked_front callees [] f l = tt
linked_front callees (x ∷ []) f l = tt
linked_front callees (x ∷ y ∷ front) f l = (l.0, linked_front callees (y ∷ front) f l.1)

one_less : (callees : ℕ → List ℕ) (x : ℕ) (fs : List ℕ) → IsLinked callees (x ∷ fs) → IsLinked callees fs
one_less callees x [] l = tt
one_less callees x (f ∷ fs) l = l.1

pub linked_behind : (callees : ℕ → List ℕ) (front fs : List ℕ) → IsLinked callees (front ++ fs) → IsLinked callees fs
linked_behind callees [] fs l = l
linked_behind callees (x ∷ front) fs l = linked_behind callees front fs (one_less callees x (front ++ fs) l)

pub chain_closes : (callees : ℕ → List ℕ) (front : List ℕ) (f g : ℕ) → IsLinked callees (front ++ f ∷ []) → is_member g (callees f) ≡ true → IsChainIn callees (front ++ f ∷ []) g
chain_closes callees [] f g l c = c
chain_closes callees (x ∷ []) f g l c = (l.0, c)
chain_closes callees (x ∷ y ∷ front) f g l c = (l.0, chain_closes callees (y ∷ front) f g l.1 c)

-- ---- where a path ends

-- a list that isn't empty has a last one
pub record EndsIn (fs : List ℕ) (last : ℕ) : Type 0 where
  pub front : List ℕ
  pub whole : fs ≡ front ++ last ∷ []

last_there : (g : ℕ) (rest : List ℕ) → (last : ℕ) × EndsIn (g ∷ rest) last
last_there g [] = (g, record { front = []; whole = refl })
last_there g (h ∷ rest) = let r = last_there h rest in (r.0, record { front = g ∷ r.1.front; whole = ap (λ (xs : List ℕ). g ∷ xs) r.1.whole })

-- what a list ends in, its ends end in
pub ends_so : (front : List ℕ) (g : ℕ) (rest before : List ℕ) (f : ℕ) → front ++ g ∷ rest ≡ before ++ f ∷ [] → EndsIn (g ∷ rest) f
ends_so front g rest before f e =
    let r = last_there g rest in
    let whole : (front ++ r.1.front) ++ r.0 ∷ [] ≡ before ++ f ∷ [] =
    append_assoc front r.1.front (r.0 ∷ []) ∙ ap (λ (xs : List ℕ). front ++ xs) (sym r.1.whole) ∙ e in
    let same = (same_from_push (front ++ r.1.front) before r.0 f whole).1 in
    subst (EndsIn (g ∷ rest)) same r.1

-- ---- what is apart

pub apart_more : (fs : List ℕ) (g : ℕ) → AreApart fs → is_member g fs ≡ false → AreApart (fs ++ g ∷ [])
apart_more [] g a n = (refl, tt)
apart_more (f ∷ fs) g a n =
    let parts = or_parts (f == g) (is_member g fs) n in
    (member-push f g fs ∙ or_from (is_member f fs) (g == f) a.0 (ne_eqb g f (λ e. eqb-false f g parts.0 (sym e))), apart_more fs g a.1 parts.1)

pub apart_front : (fs : List ℕ) (g : ℕ) → AreApart (fs ++ g ∷ []) → AreApart fs
apart_front [] g a = tt
apart_front (f ∷ fs) g a = ((or_parts (is_member f fs) (g == f) (sym (member-push f g fs) ∙ a.0)).0, apart_front fs g a.1)

pub apart_last : (fs : List ℕ) (g : ℕ) → AreApart (fs ++ g ∷ []) → is_member g fs ≡ false
apart_last [] g a = refl
apart_last (f ∷ fs) g a =
    let here = (or_parts (is_member f fs) (g == f) (sym (member-push f g fs) ∙ a.0)).1 in
    or_from (f == g) (is_member g fs) (ne_eqb f g (λ e. eqb-false g f here (sym e))) (apart_last fs g a.1)

-- ---- chains of a unit

pub unit_chain : (u : CoreUnitTree) (fs : List ℕ) (last : ℕ) → IsChainIn (called_by u) fs last → IsChain u fs last
unit_chain u [] last c = tt
unit_chain u (f ∷ []) last c = is_call u f last c
unit_chain u (f ∷ g ∷ fs) last c = (is_call u f g c.0, unit_chain u (g ∷ fs) last c.1)

pub unit_circle : (u : CoreUnitTree) (fs : List ℕ) → IsCircleIn (called_by u) fs → IsCircle u fs
unit_circle u [] c = c
unit_circle u (f ∷ fs) c = unit_chain u (f ∷ fs) f c
