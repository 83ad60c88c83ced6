-- What follows from what is due to `build`.
use Rattle.std.proofs.Common.{◌≡◌, ◌≢◌, ◌⊎◌, ap, subst, sym, inl, inr}
use Rattle.qs_ports.specs.StoreView.{StoreView}
use Rattle.qs_driver_session.specs.Due.{Due}
use Rattle.qs_driver_steps.specs.Files.{StoreHeld}
use Rattle.qs_driver_session.specs.declared.status.Status.{Status}
use Rattle.qs_driver_session.specs.declared.status.Status.TheVariants.{NoMemory}
use Rattle.qs_driver_session.proofs.rooms.Follows.{Follows}
use Rattle.qs_driver.specs.Certified.{LacksCertified}
use Rattle.qs_driver.specs.commands.Build.{BuildWords, NamesDiffer, NamesOneTwice, inputs, build, CannotBuild, IsDueToBuild, Accepts, Refuses, IsOfBuild}
use Rattle.qs_driver.specs.commands.Build as meant
use Rattle.qs_driver.proofs.CertifiedFollows.{certified_own}
use Rattle.qs_driver.proofs.rooms.WritingFollows.{WritingEnds, written, same, not_certified, unwritable, no_memory, right_is_written, own, same_name, shows}
use Rattle.qs_driver.proofs.rooms.WritingFollows as writing

-- ---- how it ends

abbrev BuildEnds : BuildWords → StoreView → StoreView → Status → Type 0
BuildEnds b v w status = WritingEnds (inputs b) (NamesOneTwice b) v w status

cannot : (b : BuildWords) (v w : StoreView) (status : Status) → NamesDiffer b → CannotBuild b v w status → BuildEnds b v w status
cannot b v w status differ (meant.not_certified l) = not_certified differ l
cannot b v w status differ (meant.unwritable c e) = unwritable differ c.failed e
cannot b v w status differ (meant.no_memory u e) = no_memory differ u e

build_ends : (b : BuildWords) (v w : StoreView) (due : Due) → IsDueToBuild b v w due → BuildEnds b v w due.status
build_ends b v w due (meant.built differ h) = written differ h.source h.has_image.reads h.counts (ap (λ (x : Due). x.status) h.is_due)
build_ends b v w due (meant.named_twice twice u is) = same twice u (ap (λ (x : Due). x.status) is)
build_ends b v w due (meant.refused differ status c is) =
    let P : Status → Type 0 = λ s. CannotBuild b v w s in
    cannot b v w due.status differ (subst P (sym (ap (λ (x : Due). x.status) is)) c)

-- ---- its own statuses

own_certified : (b : BuildWords) (v w : StoreView) (status : Status) → StoreHeld v w → LacksCertified (inputs b) v w status → IsOfBuild status ⊎ (status ≡ NoMemory)
own_certified b v w status n l = elim (certified_own (inputs b) v w status n l) [
  | inl of ↦ inl (meant.of_certified of)
  | inr e ↦ inr e
]

-- ---- what follows

accepts : (b : BuildWords) (v w : StoreView) (status : Status) → StoreHeld v w → BuildEnds b v w status → Accepts b v status ⊎ (status ≡ NoMemory)
accepts b v w status n x = elim (right_is_written (inputs b) (NamesOneTwice b) v w status n x) [
  | inl right ↦ inl (λ g. right g.differ g.told g.right)
  | inr e ↦ inr e
]

refuses : (b : BuildWords) (v w : StoreView) (status : Status) → StoreHeld v w → status ≢ NoMemory → BuildEnds b v w status → Refuses b v status
refuses b v w status n m x = record {
  own = own (inputs b) (NamesOneTwice b) v w status IsOfBuild meant.done meant.one_name (own_certified b v w status n) n m x;
  same_name = same_name (inputs b) (NamesOneTwice b) v w status n x;
  certified = λ told differ. writing.refuses (inputs b) (NamesOneTwice b) v w status n m x told differ;
}

pub build_follows : (b : BuildWords) → Follows (build b)
build_follows b = record {
  accepts = λ v w due n is. accepts b v w due.status n (build_ends b v w due is);
  refuses = λ v w due n m is. refuses b v w due.status n m (build_ends b v w due is);
  shows = λ v w due r is. shows (inputs b) (NamesOneTwice b) v w due.status r (build_ends b v w due is);
}
