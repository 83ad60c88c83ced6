-- What goes on from what is kept is kept.
use Rattle.std.proofs.Common.{◌≡◌, Bool, true, false, Option, Some, None, refl, ap, ◌∙◌, if◌then◌else◌}
use Rattle.qs_memory.specs.Partial.{◌>>=◌}
use Rattle.qs_types.specs.Layout.{and_then}
use Rattle.qs_typed_nodes.specs.Agrees.{Keeps}
pub use Rattle.std.proofs.lemmas.Option.{same_Some as same}

pub nothing : {A B : Type 0} (x : A) → None ≡ Some x → B
nothing x e = absurd (no x e)
  where
    no : {A : Type 0} (x : A) → None ≡ Some x → ⊥
    no x e = cc

-- where the next step knows what was had
pub kept_by : {A B : Type 0} (o p : Option A) (f g : A → Option B) → Keeps o p → ((x : A) → o ≡ Some x → Keeps (f x) (g x)) → Keeps (o >>= f) (p >>= g)
kept_by None p f g h t y e = nothing y e
kept_by (Some x) p f g h t y e = ap (λ o. o >>= g) (h x refl) ∙ t x refl y e

pub kept : {A B : Type 0} (o p : Option A) (f g : A → Option B) → Keeps o p → ((x : A) → Keeps (f x) (g x)) → Keeps (o >>= f) (p >>= g)
kept o p f g h t = kept_by o p f g h (λ x e. t x)

-- the same in the words of types
pub then_kept : {A B : Type 0} (o p : Option A) (f g : A → Option B) → Keeps o p → ((x : A) → Keeps (f x) (g x)) → Keeps (and_then o f) (and_then p g)
then_kept None p f g h t y e = nothing y e
then_kept (Some x) p f g h t y e = ap (λ o. and_then o g) (h x refl) ∙ t x y e

pub is_kept : {A : Type 0} (o : Option A) → Keeps o o
is_kept o x e = e

pub equal_kept : {A : Type 0} (o p : Option A) → p ≡ o → Keeps o p
equal_kept o p q x e = q ∙ e

pub choice_kept : {A : Type 0} (b : Bool) (o p q r : Option A) → Keeps o p → Keeps q r → Keeps (if b then o else q) (if b then p else r)
choice_kept true o p q r h t = h
choice_kept false o p q r h t = t
