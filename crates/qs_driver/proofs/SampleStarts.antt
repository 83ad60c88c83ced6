-- A text that can be started is started, unless memory is wanting.
use Rattle.std.proofs.Common.{◌≡◌, ◌∙◌, inl, inr, ℕ, List, [], None, Ok, Err, subst}
use Rattle.qs_syntax.specs.Trees.{DeclTree}
use Rattle.qs_syntax.specs.Units.{IsRead}
use Rattle.qs_image.specs.Image.{Image}
use Rattle.qs_driver_session.specs.SampleSource.{sample_text}
use Rattle.qs_driver_session.specs.Source.{IsTypedAs, RefusesText}
use Rattle.qs_driver_session.specs.Starting.{RunWords, IsStackOf, LoadsImage}
use Rattle.qs_driver_session.specs.declared.status.Status.{Status}
use Rattle.qs_driver_session.specs.declared.status.Status.TheVariants.{NoMemory}
use Rattle.qs_driver_session.proofs.StartingLaws.{lacks_none, no_load}
use Rattle.qs_driver.specs.Bounds.{IsImageOf}
use Rattle.qs_driver.specs.Certified.{IsCertifiedUnit, LacksCertificate, cannot_certify, lacks_memory}
use Rattle.qs_driver.specs.Made.{IsMadeOf, CannotMakeOf}
use Rattle.qs_driver.specs.Made as made
use Rattle.qs_driver.specs.SampleLaws.{HasSmallBound, IsSampleCount}
use Rattle.qs_driver.specs.commands.Exec.{as_run}
use Rattle.qs_driver.specs.commands.Sample.{as_exec, CanStart}
use Rattle.qs_driver.specs.declared.certified.CertifiedUnit.{CertifiedUnit}
use Rattle.qs_driver.specs.declared.made.Made.{Made}
use Rattle.qs_driver.proofs.CertifiedLaws.{HoldsCertified, holds_certified}
use Rattle.qs_driver.proofs.SampleLaws.{samples_are_good}
use Rattle.qs_driver.proofs.SampleStacks.{samples_have_stacks}
use Rattle.qs_driver.proofs.SampleRefusals.{good_text_is_typed, good_core, good_core_is_certified, stack_is_there}
use Rattle.qs_driver.proofs.rooms.Sample.{image_of, bound_of_held}

pub not_refused : (text : List ℕ) (status : Status) → RefusesText text status → CanStart text → status ≡ NoMemory
not_refused text status r can = good_text_is_typed text status can.good r

pub not_uncertified : {text : List ℕ} {unit : List DeclTree} (status : Status) → IsTypedAs text unit → LacksCertificate unit None status → CanStart text → status ≡ NoMemory
not_uncertified {text} {unit} status t (cannot_certify core fault is cannot tells) can =
    good_core_is_certified core fault status (good_core text unit core can.good t is) cannot tells
not_uncertified status t (lacks_memory e) can = e

-- what is known of an image of what the code holds
small_bound : {text : List ℕ} {c : CertifiedUnit} (h : HoldsCertified text None c) (image : Image) → IsImageOf h.source image → CanStart text → HasSmallBound h.source image
small_bound h image is can = can.stacks h.source image h.is is

pub not_unmade : {text : List ℕ} {unit : List DeclTree} {c : CertifiedUnit} (status : Status) → IsTypedAs text unit → IsRead unit → IsCertifiedUnit unit None c → CannotMakeOf c [] status → CanStart text → status ≡ NoMemory
not_unmade {c = c} status t read k (made.lacks_words image compiled lacks) can =
    let h = holds_certified None c t read k in
    let bound : HasSmallBound h.source image = small_bound h image (image_of h compiled) can in
    lacks_none image [] status bound.arguments lacks
not_unmade status t read k (made.lacks_memory e) can = e

pub not_without_stack : {text : List ℕ} {unit : List DeclTree} {c : CertifiedUnit} {m : Made} (status : Status) → IsTypedAs text unit → IsRead unit → IsCertifiedUnit unit None c → IsMadeOf c [] m → IsStackOf m.bound (Err status) → CanStart text → status ≡ NoMemory
not_without_stack {c = c} {m = m} status t read k is none can =
    let h = holds_certified None c t read k in
    let bound : HasSmallBound h.source m.image = small_bound h m.image (image_of h is.compiled) can in
    absurd (stack_is_there m.bound bound.stack status (bound_of_held h is ∙ bound.bound) bound.small none)

is_loaded : {c : CertifiedUnit} {m : Made} (stack : ℕ) (status : Status) → IsMadeOf c [] m → IsStackOf m.bound (Ok stack) → LoadsImage m.image (as_run as_exec stack) (Err status) → status ≡ NoMemory
is_loaded stack status is (found, small) (inl e) = cc
is_loaded {m = m} stack status is (found, small) (inr l) = no_load (as_run as_exec stack) l.bytes m.image status is.arguments small l.is_image l.loads

pub not_unloaded : {c : CertifiedUnit} {m : Made} (words : RunWords) (stack : ℕ) (status : Status) → words ≡ as_run as_exec stack → IsMadeOf c [] m → IsStackOf m.bound (Ok stack) → LoadsImage m.image words (Err status) → status ≡ NoMemory
not_unloaded {m = m} words stack status same is found l = is_loaded stack status is found (subst (λ (r : RunWords). LoadsImage m.image r (Err status)) same l)

-- each sample can be started
pub samples_start : (n : ℕ) → IsSampleCount n → CanStart (sample_text n)
samples_start n (l, h) =
    record { good = samples_are_good n l h; stacks = λ s image c made. samples_have_stacks n s image l h c made }
