-- Steps that come to the same but for what isn't fixed, whatever was found before them.
use Rattle.std.proofs.Common.{◌≡◌, ◌∙◌, ap, refl, inl, inr}
use Rattle.qs_ports.specs.StoreView.{Files}
use Rattle.qs_driver_steps.specs.Statuses.{Statuses}
use Rattle.qs_driver_steps.specs.Steps.{Step, Steps, gives, first, then}
use Rattle.qs_driver_steps.proofs.Laws.{Agree}

module _ (S : Statuses) {A : Type 0} (of : A → S.Status) (files : Files) where
  -- two ends that are seen as one
  pub gives_agree : (a b : A) → S.seen (of a) ≡ S.seen (of b) → Agree {S = S} of (gives a) (gives b) files
  gives_agree a b e status p = (of b, refl, ap S.seen p ∙ e)

  -- the same step, and steps that agree behind it
  pub first_agree : (s : Step S) (rest other : s.Found → Steps S A) → ((y : s.Found) → Agree {S = S} of (rest y) (other y) files) → Agree {S = S} of (first s rest) (first s other) files
  first_agree s rest other same status (inl h) = (status, inl h, refl)
  first_agree s rest other same status (inr (y, f, c)) =
      let there = same y status c in
      (there.0, inr (y, f, there.1), there.2)

-- the same shared steps, and steps that agree behind them
pub then_agree : (S : Statuses) {A B : Type 0} (of : B → S.Status) (files : Files) (next other : A → Steps S B) (c : Steps S A) → ((a : A) → Agree {S = S} of (next a) (other a) files) → Agree {S = S} of (then c next) (then c other) files
then_agree S of files next other (gives a) same status p = same a status p
then_agree S of files next other (first s rest) same status p = first_agree S of files s (λ y. then (rest y) next) (λ y. then (rest y) other) (λ y. then_agree S of files next other (rest y) same) status p
