-- The line of a fault of an entry tells its place, and what is wrong there.
use Rattle.std.proofs.Common.{◌≡◌, ◌∙◌, ℕ, List, Some, refl, sym, ap}
use Rattle.std.proofs.lemmas.Option.{same_Some}
use Rattle.qs_core.specs.Trees.{CoreUnitTree}
use Rattle.qs_entail.specs.Answers.{fault_of}
use Rattle.qs_entail.specs.Faults as faults
use Rattle.qs_entail.specs.Faults.{step, limit}
use Rattle.qs_entail.specs.declared.fault.CertFault.{CertFault}
use Rattle.qs_entail.specs.declared.fault.CertFault.TheVariants as certificates
use Rattle.qs_entail.specs.declared.stop.Limit.{Limit}
use Rattle.qs_entail.specs.declared.stop.Limit.TheVariants.{Coefficient, Terms, Degree}
use Rattle.qs_triples.specs.Rules as rules
use Rattle.qs_triples.specs.Rules.{shape, mentions, certificate, entry}
use Rattle.qs_triples.specs.Told.{IsDue, IsOfCertificate, callee_view, place_view}
use Rattle.qs_triples.specs.declared.fault.DerivFault.{DerivFault}
use Rattle.qs_triples.specs.declared.fault.DerivFault.TheVariants as entries
use Rattle.qs_triples.specs.declared.fault.Place.{Place}
use Rattle.qs_triples.specs.declared.fault.Place.TheVariants as places
use Rattle.qs_report.specs.declared.fault_texts.Spot.{Spot}
use Rattle.qs_report.specs.declared.fault_texts.ProofText.{ProofText}
use Rattle.qs_report.specs.declared.fault_texts.ProofText.TheVariants as wrongs
use Rattle.qs_driver_session.specs.Told.{at_entry, at_body, at_certificate, place_of, mention_place, inner_path, fault_place, passed_text, certificate_text, fault_text}
use Rattle.qs_driver_proofs.specs.Refusals.{path_in, IsWrongThere, IsMentionPlace, IsToldAs}

-- the line tells this fault of the entry of this function
pub record IsToldBy (u : CoreUnitTree) (f : ℕ) (fault : rules.DerivFault) (spot : Spot) (text : ProofText) : Type 0 where
  pub place : place_of spot ≡ fault_place fault
  pub wrong : text ≡ fault_text u f fault

-- ---- parts

same_limit : (l : Limit) → wrongs.Limit l ≡ passed_text (fault_of l)
same_limit Coefficient = refl
same_limit Terms = refl
same_limit Degree = refl

mentioned_at : (place : Place) (spot : Spot) → IsMentionPlace place spot → place_of spot ≡ mention_place (place_view place)
mentioned_at places.Precondition spot e = ap place_of e
mentioned_at places.Postcondition spot e = ap place_of e
mentioned_at (places.Node path) spot (node, e, steps) = ap place_of e ∙ ap at_body steps

-- a fault of a certificate, as it is told and as it is due
record IsCertificateDue (there : faults.CertFault → rules.DerivFault) (fault : CertFault) (due : rules.DerivFault) (text : ProofText) : Type 0 where
  inner : faults.CertFault
  due_is : due ≡ there inner
  path : path_in fault ≡ inner_path inner
  wrong : text ≡ certificate_text inner

certificate_due : (there : faults.CertFault → rules.DerivFault) (fault : CertFault) (due : rules.DerivFault) (text : ProofText) → IsOfCertificate there fault (Some due) → IsWrongThere fault text → IsCertificateDue there fault due text
certificate_due there certificates.NoMemory due text is wrong = absurd wrong
certificate_due there (certificates.Step path rule) due text is wrong = record {
  inner = step path.items rule;
  due_is = same_Some due (there (step path.items rule)) is;
  path = refl;
  wrong = wrong;
}
certificate_due there (certificates.Limit path l) due text is wrong = record {
  inner = limit path.items (fault_of l);
  due_is = same_Some due (there (limit path.items (fault_of l))) is;
  path = refl;
  wrong = wrong ∙ same_limit l;
}

-- ---- the whole

-- what is told of a fault that is due
pub told_by : (u : CoreUnitTree) (f : ℕ) (told : DerivFault) (fault : rules.DerivFault) (spot : Spot) (text : ProofText) → IsDue told (Some fault) → IsToldAs u f told spot text → IsToldBy u f fault spot text
told_by u f entries.NoMemory fault spot text due is = absurd is
told_by u f (entries.Shape path) fault spot text due (node, e, steps, wrong) =
    let same : fault ≡ shape path.items = same_Some fault (shape path.items) due in
    record {
      place = ap place_of e ∙ ap at_body steps ∙ ap fault_place (sym same);
      wrong = wrong ∙ ap (fault_text u f) (sym same);
    }
told_by u f (entries.Mentions place callee x) fault spot text due (at, wrong) =
    let is : rules.DerivFault = mentions (place_view place) (callee_view callee) x in
    let same : fault ≡ is = same_Some fault is due in
    record {
      place = mentioned_at place spot at ∙ ap fault_place (sym same);
      wrong = wrong ∙ ap (fault_text u f) (sym same);
    }
told_by u f (entries.Cert path inner) fault spot text due (node, at, e, steps, inner_steps, wrong) =
    let c = certificate_due (certificate path.items) inner fault text due wrong in
    let there : at_certificate node.steps.items at.steps.items ≡ at_certificate path.items (inner_path c.inner) =
    ap (λ (p : List ℕ). at_certificate p at.steps.items) steps ∙ ap (at_certificate path.items) (inner_steps ∙ c.path) in
    record {
      place = ap place_of e ∙ there ∙ ap fault_place (sym c.due_is);
      wrong = c.wrong ∙ ap (fault_text u f) (sym c.due_is);
    }
told_by u f (entries.NoSpec path g) fault spot text due is = absurd is
told_by u f (entries.Entry inner) fault spot text due (at, e, inner_steps, wrong) =
    let c = certificate_due entry inner fault text due wrong in
    record {
      place = ap place_of e ∙ ap at_entry (inner_steps ∙ c.path) ∙ ap fault_place (sym c.due_is);
      wrong = c.wrong ∙ ap (fault_text u f) (sym c.due_is);
    }
told_by u f (entries.BadOrder d) fault spot text due is = absurd is
