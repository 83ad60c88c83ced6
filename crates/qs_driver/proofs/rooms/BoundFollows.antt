-- What follows from what is due to `bound`.
use Rattle.std.proofs.Common.{◌≡◌, ◌≢◌, ◌⊎◌, ◌<◌, ap, subst, sym, inl, inr}
use Rattle.qs_ports.specs.StoreView.{StoreView}
use Rattle.qs_driver_session.specs.Due.{Due}
use Rattle.qs_driver_steps.specs.Files.{StoreHeld}
use Rattle.qs_driver_session.specs.Promises.{SaysStoreFailed}
use Rattle.qs_driver_session.specs.declared.status.Status.{Status}
use Rattle.qs_driver_session.specs.declared.status.Status.TheVariants.{Done, NoMemory}
use Rattle.qs_driver_session.proofs.rooms.Follows.{Follows, not_untouched}
use Rattle.qs_driver.specs.Made.{CannotMake}
use Rattle.qs_driver.specs.commands.Bound.{BoundWords, to_make, bound, HasBound, IsDueToBound, Accepts, Refuses, IsOfBound}
use Rattle.qs_driver.specs.commands.Bound as meant
use Rattle.qs_driver.proofs.MadeFollows.{is_refusal, none_refused, made_own, made_shows, made_no_good, MadeEnds, goes_on, refuses_made}
use Rattle.qs_driver.proofs.MadeFollows as made

data BoundEnds (b : BoundWords) (v w : StoreView) (status : Status) : Type 0 where
  bounded : (due : Due) → HasBound b v w due → status ≡ Done → BoundEnds b v w status
  cannot : CannotMake (to_make b) v w status → BoundEnds b v w status

bound_ends : (b : BoundWords) (v w : StoreView) (due : Due) → IsDueToBound b v w due → BoundEnds b v w due.status
bound_ends b v w due (meant.bounded h) = bounded due h (ap (λ (x : Due). x.status) h.is_due)
bound_ends b v w due (meant.refused status c is) = let P : Status → Type 0 = λ s. CannotMake (to_make b) v w s in cannot (subst P (sym (ap (λ (x : Due). x.status) is)) c)

accepts : (b : BoundWords) (v w : StoreView) (status : Status) → StoreHeld v w → BoundEnds b v w status → Accepts b v status ⊎ (status ≡ NoMemory)
accepts b v w status n (bounded due h e) = inl (λ g. e)
accepts b v w status n (cannot c) = elim (made_no_good (to_make b) v w status n c) [
  | inl never ↦ inl (λ g. absurd (never g.told g.fits))
  | inr e ↦ inr e
]

own : (b : BoundWords) (v w : StoreView) (status : Status) → StoreHeld v w → status ≢ NoMemory → BoundEnds b v w status → IsOfBound b status
own b v w status n m (bounded due h e) = subst (IsOfBound b) (sym e) meant.done
own b v w status n m (cannot c) = elim (made_own (to_make b) v w status n c) [
  | inl of ↦ meant.of_made of
  | inr e ↦ absurd (m e)
]

made_ends : (b : BoundWords) (v w : StoreView) (status : Status) → StoreHeld v w → BoundEnds b v w status → MadeEnds (to_make b) v status
made_ends b v w status n (bounded due h e) = goes_on h.image h.bound h.is_made (record { of_certified = none_refused status (ap is_refusal e); not_words = λ x f. cc })
made_ends b v w status n (cannot c) = made.cannot w n c

refuses : (b : BoundWords) (v w : StoreView) (status : Status) → StoreHeld v w → status ≢ NoMemory → BoundEnds b v w status → Refuses b v status
refuses b v w status n m ends = record {
  own = own b v w status n m ends;
  made = λ told. refuses_made (to_make b) v status m told (made_ends b v w status n ends);
}

shows : (b : BoundWords) (v w : StoreView) (due : Due) → v.faults < w.faults → IsDueToBound b v w due → SaysStoreFailed due.status
shows b v w due r (meant.bounded h) = absurd (not_untouched v w h.untouched r)
shows b v w due r (meant.refused status c is) = subst SaysStoreFailed (sym (ap (λ (x : Due). x.status) is)) (made_shows (to_make b) v w status c r)

pub bound_follows : (b : BoundWords) → Follows (bound b)
bound_follows b = record {
  accepts = λ v w due n is. accepts b v w due.status n (bound_ends b v w due is);
  refuses = λ v w due n m is. refuses b v w due.status n m (bound_ends b v w due is);
  shows = λ v w due r is. shows b v w due r is;
}
