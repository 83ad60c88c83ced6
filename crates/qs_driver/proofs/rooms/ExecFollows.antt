-- What follows from what is due to `exec`.
use Rattle.std.proofs.Common.{◌≡◌, ◌≢◌, ◌⊎◌, ◌∙◌, ℕ, ◌<◌, List, Option, Some, None, refl, ap, subst, sym, inl, inr, arith, IsTrue}
use Rattle.std.proofs.lemmas.Option.{same_Some}
use Rattle.qs_assert.specs.declared.define.Amount.{Amount}
use Rattle.qs_assert.specs.declared.define.Amount.TheVariants.{Finite, Infinite, Wide}
use Rattle.qs_ports.specs.StoreView.{StoreView}
use Rattle.qs_image.specs.Image.{Image}
use Rattle.qs_machine.specs.Arguments.{words_of}
use Rattle.qs_machine.specs.Run.{Outcome, Exited, Trapped as HasTrapped, Going, machine}
use Rattle.qs_driver_session.specs.Limits.{input_limit}
use Rattle.qs_driver_session.specs.Due.{Due}
use Rattle.qs_driver_steps.specs.Files.{HoldsContent, IsTooLong}
use Rattle.qs_driver_session.specs.Files.{CannotRead}
use Rattle.qs_driver_session.specs.Files as files
use Rattle.qs_driver_steps.specs.Files.{StoreHeld}
use Rattle.qs_driver_session.specs.Promises.{SaysStoreFailed}
use Rattle.qs_driver_session.specs.Starting.{HasInput, ReadInput, IsNoStack, status_at}
use Rattle.qs_driver_session.specs.declared.status.Status.{Status}
use Rattle.qs_driver_session.specs.declared.status.Status.TheVariants.{Source, Missing, NoBound, NoMemory}
use Rattle.qs_driver_session.specs.declared.status.SourceFault.TheVariants.{TooLong}
use Rattle.qs_driver_session.specs.declared.status.FileKind.TheVariants as kinds
use Rattle.qs_driver_session.proofs.FilesLaws.{held_content, held_long}
use Rattle.qs_driver_session.proofs.SourceFollows.{not_absent, not_long, one_content}
use Rattle.qs_driver_session.proofs.rooms.Follows.{Follows, not_untouched, unread_shows}
use Rattle.qs_driver.specs.Made as made_meant
use Rattle.qs_driver.specs.Made.{IsMade, FitsMain, IsOfMade}
use Rattle.qs_driver.specs.commands.Exec.{ExecWords, to_make, exec, HasRun, ComesToInput, CannotExec, IsDueAt, IsDueToExec, IsStack, OfInput, LacksInput, HasLongInput, Ends, Accepts, Refuses, IsOfExec}
use Rattle.qs_driver.specs.commands.Exec as meant
use Rattle.qs_driver.proofs.MadeFollows.{is_refusal, none_refused, made_own, made_shows, made_no_good, fits_main, IsNoMadeRefusal, MadeEnds, goes_on, refuses_made}
use Rattle.qs_driver.proofs.MadeFollows as made

-- ---- how it ends

data ExecEnds (e : ExecWords) (v w : StoreView) (status : Status) : Type 0 where
  ran : (due : Due) (h : HasRun e v w due) → status ≡ status_at e.steps (machine h.image h.stack (words_of e.args) h.input e.steps) → ExecEnds e v w status
  cannot : CannotExec e v w status → ExecEnds e v w status

is_status_at : (e : ExecWords) (stack : ℕ) (o : Outcome) (due : Due) → IsDueAt e stack o due → due.status ≡ status_at e.steps o
is_status_at e stack (Exited output status) due is = ap (λ (d : Due). d.status) is
is_status_at e stack (HasTrapped cause pc output) due is = ap (λ (d : Due). d.status) is
is_status_at e stack (Going output) due is = ap (λ (d : Due). d.status) is

exec_ends : (e : ExecWords) (v w : StoreView) (due : Due) → IsDueToExec e v w due → ExecEnds e v w due.status
exec_ends e v w due (meant.ran h) = ran due h (is_status_at e h.stack (machine h.image h.stack (words_of e.args) h.input e.steps) due h.is_due)
exec_ends e v w due (meant.refused status c is) = let P : Status → Type 0 = λ s. CannotExec e v w s in cannot (subst P (sym (ap (λ (x : Due). x.status) is)) c)

-- ---- what is accepted

input_held : (v : StoreView) (name : Option (List ℕ)) (input : List ℕ) → IsTrue v.told → ReadInput v name input → HasInput v name input
input_held v None input told r = r
input_held v (Some name) input told r = held_content r told

same_input : (v : StoreView) (name : Option (List ℕ)) (a b : List ℕ) → HasInput v name a → HasInput v name b → a ≡ b
same_input v None a b h k = h ∙ sym k
same_input v (Some name) a b h k = one_content (v.files name) input_limit a b h k

input_there : (v : StoreView) (e : ExecWords) (name input : List ℕ) → e.input ≡ Some name → HasInput v e.input input → HoldsContent (v.files name) input_limit input
input_there v e name input named h = subst (λ (i : Option (List ℕ)). HasInput v i input) named h

accepts_input : (e : ExecWords) (v w : StoreView) (name : List ℕ) (status : Status) → StoreHeld v w → ComesToInput e v name → CannotRead v w name kinds.Input input_limit status → Accepts e v status ⊎ (status ≡ NoMemory)
accepts_input e v w name status n c (files.missing m x) = inl (λ g. absurd (not_absent (v.files name) g.input (m.absent g.told) (input_there v e name g.input c.named g.input_there).there))
accepts_input e v w name status n c (files.unreadable f x) = absurd (n f.failed.rose)
accepts_input e v w name status n c (files.too_long l x) = inl (λ g. absurd (not_long (v.files name) input_limit g.input (input_there v e name g.input c.named g.input_there) (held_long l g.told)))
accepts_input e v w name status n c (files.no_memory u x) = inr x

accepts : (e : ExecWords) (v w : StoreView) (status : Status) → StoreHeld v w → ExecEnds e v w status → Accepts e v status ⊎ (status ≡ NoMemory)
accepts e v w status n (ran due h is) = inl (λ g. inl (record {
  image = h.image;
  stack = h.stack;
  has_stack = h.has_stack;
  is = is ∙ ap (λ (input : List ℕ). status_at e.steps (machine h.image h.stack (words_of e.args) input e.steps)) (same_input v e.input h.input g.input (input_held v e.input h.input g.told h.input_read) g.input_there);
}))
accepts e v w status n (cannot (meant.not_made c)) = elim (made_no_good (to_make e) v w status n c) [
  | inl never ↦ inl (λ g. absurd (never g.told g.fits))
  | inr x ↦ inr x
]
accepts e v w status n (cannot (meant.no_stack amount u h x)) = inl (λ g. inr (record { amount = amount; has_none = h; is = x }))
accepts e v w status n (cannot (meant.unread_input name c r)) = accepts_input e v w name status n c r
accepts e v w status n (cannot (meant.no_memory u x)) = inr x

-- ---- the statuses of `exec`

own_outcome : (e : ExecWords) (o : Outcome) → IsOfExec e (status_at e.steps o)
own_outcome e (Exited output status) = meant.done
own_outcome e (HasTrapped cause pc output) = meant.trapped cause pc
own_outcome e (Going output) = meant.step_limit

own_input : (e : ExecWords) (v w : StoreView) (name : List ℕ) (status : Status) → StoreHeld v w → status ≢ NoMemory → CannotRead v w name kinds.Input input_limit status → IsOfExec e status
own_input e v w name status n m (files.missing x is) = subst (IsOfExec e) (sym is) meant.missing_input
own_input e v w name status n m (files.unreadable f is) = absurd (n f.failed.rose)
own_input e v w name status n m (files.too_long l is) = subst (IsOfExec e) (sym is) meant.long_input
own_input e v w name status n m (files.no_memory u is) = absurd (m is)

own : (e : ExecWords) (v w : StoreView) (status : Status) → StoreHeld v w → status ≢ NoMemory → ExecEnds e v w status → IsOfExec e status
own e v w status n m (ran due h is) = subst (IsOfExec e) (sym is) (own_outcome e (machine h.image h.stack (words_of e.args) h.input e.steps))
own e v w status n m (cannot (meant.not_made c)) = elim (made_own (to_make e) v w status n c) [
  | inl of ↦ meant.of_made of
  | inr x ↦ absurd (m x)
]
own e v w status n m (cannot (meant.no_stack amount u h x)) = subst (IsOfExec e) (sym x) (meant.no_bound amount h.none)
own e v w status n m (cannot (meant.unread_input name c r)) = own_input e v w name status n m r
own e v w status n m (cannot (meant.no_memory u x)) = absurd (m x)

-- ---- its refusals of a source, its proofs and arguments

none_at : (steps : ℕ) (o : Outcome) (status : Status) → status ≡ status_at steps o → IsNoMadeRefusal status
none_at steps (Exited output code) status is = record { of_certified = none_refused status (ap is_refusal is); not_words = λ x f. cc }
none_at steps (HasTrapped cause pc output) status is = record { of_certified = none_refused status (ap is_refusal is); not_words = λ x f. cc }
none_at steps (Going output) status is = record { of_certified = none_refused status (ap is_refusal is); not_words = λ x f. cc }

none_of_input : (v w : StoreView) (name : List ℕ) (status : Status) → CannotRead v w name kinds.Input input_limit status → IsNoMadeRefusal status
none_of_input v w name status (files.missing m e) = record { of_certified = none_refused status (ap is_refusal e); not_words = λ x f. cc }
none_of_input v w name status (files.unreadable u e) = record { of_certified = none_refused status (ap is_refusal e); not_words = λ x f. cc }
none_of_input v w name status (files.too_long l e) = record { of_certified = none_refused status (ap is_refusal e); not_words = λ x f. cc }
none_of_input v w name status (files.no_memory u e) = record { of_certified = none_refused status (ap is_refusal e); not_words = λ x f. cc }

made_ends : (e : ExecWords) (v w : StoreView) (status : Status) → StoreHeld v w → ExecEnds e v w status → MadeEnds (to_make e) v status
made_ends e v w status n (ran due h is) = goes_on h.image (Finite h.stack) h.has_stack.is_made (none_at e.steps (machine h.image h.stack (words_of e.args) h.input e.steps) status is)
made_ends e v w status n (cannot (meant.not_made c)) = made.cannot w n c
made_ends e v w status n (cannot (meant.no_stack amount u h x)) = goes_on h.image amount h.is_made (record { of_certified = none_refused status (ap is_refusal x); not_words = λ y f. cc })
made_ends e v w status n (cannot (meant.unread_input name c r)) = goes_on c.image (Finite c.stack) c.has_stack.is_made (none_of_input v w name status r)
made_ends e v w status n (cannot (meant.no_memory u x)) = made.cannot w n (made_meant.no_memory u x)

-- ---- by the image that was made, and its bound

outcome_bound : (steps : ℕ) (o : Outcome) (amount : Amount) → status_at steps o ≡ NoBound amount → ⊥
outcome_bound steps (Exited output status) amount e = cc
outcome_bound steps (HasTrapped cause pc output) amount e = cc
outcome_bound steps (Going output) amount e = cc

outcome_missing : (steps : ℕ) (o : Outcome) → status_at steps o ≡ Missing kinds.Input → ⊥
outcome_missing steps (Exited output status) e = cc
outcome_missing steps (HasTrapped cause pc output) e = cc
outcome_missing steps (Going output) e = cc

outcome_long : (steps : ℕ) (o : Outcome) → status_at steps o ≡ Source (TooLong kinds.Input) → ⊥
outcome_long steps (Exited output status) e = cc
outcome_long steps (HasTrapped cause pc output) e = cc
outcome_long steps (Going output) e = cc

-- a bound has a stack or none
stack_or_none : (bound : Amount) → IsStack bound → IsNoStack bound → ⊥
stack_or_none (Finite bytes) small large = omega (arith, small, large)
stack_or_none Infinite small large = small
stack_or_none Wide small large = small

-- there is one file of the input
one_file : (e : ExecWords) (v : StoreView) (P Q : Option (List ℕ) → Type 0) (h : OfInput e v P) → OfInput e v Q → Q (v.files h.name)
one_file e v P Q h k =
    let both : Some k.name ≡ Some h.name = sym k.named ∙ h.named in
    let same : k.name ≡ h.name = same_Some k.name h.name both in
    subst (λ (name : List ℕ). Q (v.files name)) same k.so

lacks_or_long : (e : ExecWords) (v : StoreView) → LacksInput e v → HasLongInput e v → ⊥
lacks_or_long e v lacks long =
    let l = one_file e v (λ file. file ≡ None) (λ file. IsTooLong file input_limit) lacks long in
    not_absent (v.files lacks.name) l.content lacks.so l.there

lacks_or_has : (e : ExecWords) (v : StoreView) (input : List ℕ) → LacksInput e v → HasInput v e.input input → ⊥
lacks_or_has e v input lacks has = not_absent (v.files lacks.name) input lacks.so (input_there v e lacks.name input lacks.named has).there

long_or_has : (e : ExecWords) (v : StoreView) (input : List ℕ) → HasLongInput e v → HasInput v e.input input → ⊥
long_or_has e v input long has = not_long (v.files long.name) input_limit input (input_there v e long.name input long.named has) long.so

-- the ways in which it ends by this image and this bound
data Way (e : ExecWords) (v : StoreView) (image : Image) (bound : Amount) (status : Status) : Type 0 where
  no_stack : IsNoStack bound → status ≡ NoBound bound → Way e v image bound status
  no_input : IsStack bound → LacksInput e v → status ≡ Missing kinds.Input → Way e v image bound status
  long_input : IsStack bound → HasLongInput e v → status ≡ Source (TooLong kinds.Input) → Way e v image bound status
  at_outcome : (stack : ℕ) (input : List ℕ) → bound ≡ Finite stack → IsStack bound → HasInput v e.input input → status ≡ status_at e.steps (machine image stack (words_of e.args) input e.steps) → Way e v image bound status

module _ (e : ExecWords) (v : StoreView) (image : Image) (bound : Amount) (status : Status) where
  abbrev IsAtOutcome : (stack : ℕ) (input : List ℕ) → Type 0
  IsAtOutcome stack input = status ≡ status_at e.steps (machine image stack (words_of e.args) input e.steps)

  tells_no_bound : Way e v image bound status → (amount : Amount) → status ≡ NoBound amount → (amount ≡ bound) × IsNoStack bound
  tells_no_bound (no_stack none x) amount f =
      let both : ◌≡◌ {A = Status} (NoBound amount) (NoBound bound) = sym f ∙ x in
      let same : amount ≡ bound = cc in
      (same, none)
  tells_no_bound (no_input small lacks x) amount f = absurd cc
  tells_no_bound (long_input small long x) amount f = absurd cc
  tells_no_bound (at_outcome stack input is small has x) amount f = absurd (outcome_bound e.steps (machine image stack (words_of e.args) input e.steps) amount (sym x ∙ f))

  leads_no_bound : Way e v image bound status → (amount : Amount) → (amount ≡ bound) × IsNoStack bound → status ≡ NoBound amount
  leads_no_bound (no_stack none x) amount p = x ∙ ap NoBound (sym p.0)
  leads_no_bound (no_input small lacks x) amount p = absurd (stack_or_none bound small p.1)
  leads_no_bound (long_input small long x) amount p = absurd (stack_or_none bound small p.1)
  leads_no_bound (at_outcome stack input is small has x) amount p = absurd (stack_or_none bound small p.1)

  tells_missing : Way e v image bound status → status ≡ Missing kinds.Input → IsStack bound × LacksInput e v
  tells_missing (no_stack none x) f = absurd cc
  tells_missing (no_input small lacks x) f = (small, lacks)
  tells_missing (long_input small long x) f = absurd cc
  tells_missing (at_outcome stack input is small has x) f = absurd (outcome_missing e.steps (machine image stack (words_of e.args) input e.steps) (sym x ∙ f))

  leads_missing : Way e v image bound status → IsStack bound × LacksInput e v → status ≡ Missing kinds.Input
  leads_missing (no_stack none x) p = absurd (stack_or_none bound p.0 none)
  leads_missing (no_input small lacks x) p = x
  leads_missing (long_input small long x) p = absurd (lacks_or_long e v p.1 long)
  leads_missing (at_outcome stack input is small has x) p = absurd (lacks_or_has e v input p.1 has)

  tells_long : Way e v image bound status → status ≡ Source (TooLong kinds.Input) → IsStack bound × HasLongInput e v
  tells_long (no_stack none x) f = absurd cc
  tells_long (no_input small lacks x) f = absurd cc
  tells_long (long_input small long x) f = (small, long)
  tells_long (at_outcome stack input is small has x) f = absurd (outcome_long e.steps (machine image stack (words_of e.args) input e.steps) (sym x ∙ f))

  leads_long : Way e v image bound status → IsStack bound × HasLongInput e v → status ≡ Source (TooLong kinds.Input)
  leads_long (no_stack none x) p = absurd (stack_or_none bound p.0 none)
  leads_long (no_input small lacks x) p = absurd (lacks_or_long e v lacks p.1)
  leads_long (long_input small long x) p = x
  leads_long (at_outcome stack input is small has x) p = absurd (long_or_has e v input p.1 has)

  leads_outcome : Way e v image bound status → (stack : ℕ) (input : List ℕ) → bound ≡ Finite stack → IsStack bound → HasInput v e.input input → IsAtOutcome stack input
  leads_outcome (no_stack none x) stack input is small has = absurd (stack_or_none bound small none)
  leads_outcome (no_input small lacks x) stack input is fits has = absurd (lacks_or_has e v input lacks has)
  leads_outcome (long_input small long x) stack input is fits has = absurd (long_or_has e v input long has)
  leads_outcome (at_outcome found read there small held x) stack input is fits has =
      let both : ◌≡◌ {A = Amount} (Finite found) (Finite stack) = sym there ∙ is in
      let same : found ≡ stack = cc in
      subst (λ (bytes : List ℕ). IsAtOutcome stack bytes) (same_input v e.input read input held has) (subst (λ (bytes : ℕ). IsAtOutcome bytes read) same x)

  ends_by : IsMade (to_make e) v image bound → Way e v image bound status → Ends e v status
  ends_by made way = record {
    image = image;
    bound = bound;
    is_made = made;
    no_bound = λ amount. (tells_no_bound way amount, leads_no_bound way amount);
    input_missing = (tells_missing way, leads_missing way);
    input_long = (tells_long way, leads_long way);
    outcome = leads_outcome way;
  }

-- ---- where the source is right and the arguments are main's

module _ (e : ExecWords) (v w : StoreView) (status : Status) (n : StoreHeld v w) (memory : status ≢ NoMemory) (told : IsTrue v.told) where
  ends_at_input : (name : List ℕ) → ComesToInput e v name → CannotRead v w name kinds.Input input_limit status → Ends e v status
  ends_at_input name c (files.missing m x) =
      ends_by e v c.image (Finite c.stack) status c.has_stack.is_made
      (no_input c.has_stack.small (record { name = name; named = c.named; so = m.absent told }) x)
  ends_at_input name c (files.unreadable f x) = absurd (n f.failed.rose)
  ends_at_input name c (files.too_long l x) =
      ends_by e v c.image (Finite c.stack) status c.has_stack.is_made
      (long_input c.has_stack.small (record { name = name; named = c.named; so = held_long l told }) x)
  ends_at_input name c (files.no_memory u x) = absurd (memory x)

  ends_so : ExecEnds e v w status → FitsMain (to_make e) v.files → Ends e v status
  ends_so (ran due h is) fits =
      ends_by e v h.image (Finite h.stack) status h.has_stack.is_made
      (at_outcome h.stack h.input refl h.has_stack.small (input_held v e.input h.input told h.input_read) is)
  ends_so (cannot (meant.not_made c)) fits = elim (made_no_good (to_make e) v w status n c) [
    | inl never ↦ absurd (never told fits)
    | inr x ↦ absurd (memory x)
  ]
  ends_so (cannot (meant.no_stack amount u h x)) fits = ends_by e v h.image amount status h.is_made (no_stack h.none x)
  ends_so (cannot (meant.unread_input name c r)) fits = ends_at_input name c r
  ends_so (cannot (meant.no_memory u x)) fits = absurd (memory x)

  right : ExecEnds e v w status → (IsOfMade e.args status → ⊥) → FitsMain (to_make e) v.files
  right (ran due h is) never = fits_main (to_make e) v h.image (Finite h.stack) told h.has_stack.is_made
  right (cannot (meant.not_made c)) never = elim (made_own (to_make e) v w status n c) [
    | inl of ↦ absurd (never of)
    | inr x ↦ absurd (memory x)
  ]
  right (cannot (meant.no_stack amount u h x)) never = fits_main (to_make e) v h.image amount told h.is_made
  right (cannot (meant.unread_input name c r)) never = fits_main (to_make e) v c.image (Finite c.stack) told c.has_stack.is_made
  right (cannot (meant.no_memory u x)) never = absurd (memory x)

-- ---- the clauses

refuses : (e : ExecWords) (v w : StoreView) (status : Status) → StoreHeld v w → status ≢ NoMemory → ExecEnds e v w status → Refuses e v status
refuses e v w status n m ends = record {
  own = own e v w status n m ends;
  made = λ told. refuses_made (to_make e) v status m told (made_ends e v w status n ends);
  right = λ told never. right e v w status n m told ends never;
  ends = λ told fits. ends_so e v w status n m told ends fits;
}

-- ---- what isn't hidden

cannot_shows : (e : ExecWords) (v w : StoreView) (status : Status) → v.faults < w.faults → CannotExec e v w status → SaysStoreFailed status
cannot_shows e v w status r (meant.not_made c) = made_shows (to_make e) v w status c r
cannot_shows e v w status r (meant.no_stack amount u h x) = absurd (not_untouched v w u r)
cannot_shows e v w status r (meant.unread_input name c u) = unread_shows v w name kinds.Input input_limit status u r
cannot_shows e v w status r (meant.no_memory u x) = absurd (not_untouched v w u r)

shows : (e : ExecWords) (v w : StoreView) (due : Due) → v.faults < w.faults → IsDueToExec e v w due → SaysStoreFailed due.status
shows e v w due r (meant.ran h) = absurd (not_untouched v w h.untouched r)
shows e v w due r (meant.refused status c is) = subst SaysStoreFailed (sym (ap (λ (x : Due). x.status) is)) (cannot_shows e v w status r c)

pub exec_follows : (e : ExecWords) → Follows (exec e)
exec_follows e = record {
  accepts = λ v w due n is. accepts e v w due.status n (exec_ends e v w due is);
  refuses = λ v w due n m is. refuses e v w due.status n m (exec_ends e v w due is);
  shows = λ v w due r is. shows e v w due r is;
}
