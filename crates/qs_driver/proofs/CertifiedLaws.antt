-- How a source and its proof file come to a unit with proofs.
use Rattle.std.proofs.Common.{◌≡◌, ◌∙◌, ℕ, List, Option, Some, None, Result, Ok, Err, refl, sym, ap, subst, inl, inr}
use Rattle.std.specs.Prelude.{Vec}
use Rattle.std.specs.declared.alloc.Global.{Global}
use Rattle.std.proofs.lemmas.Option.{same_Some}
use Rattle.qs_syntax.specs.Trees.{DeclTree}
use Rattle.qs_syntax.specs.Units.{IsRead}
use Rattle.qs_core.specs.Trees.{CoreUnitTree}
use Rattle.qs_core.specs.UnitTrees.{unit_tree}
use Rattle.qs_elaborate_bodies.specs.Units.{core_of}
use Rattle.qs_triples.specs.TreeOf.{proofs_tree}
use Rattle.qs_certify.specs.Certification.{CannotCertify}
use Rattle.qs_certify.specs.declared.fault.CertifyFault.{CertifyFault}
use Rattle.qs_ports.specs.StoreView.{StoreView}
use Rattle.qs_driver_session.specs.Limits.{proof_limit}
use Rattle.qs_driver_steps.specs.Files.{IsUntouched}
use Rattle.qs_driver_session.specs.Source.{HasUnit, IsTypedAs, LacksSource}
use Rattle.qs_driver_session.specs.declared.status.Status.{Status}
use Rattle.qs_driver_session.specs.declared.status.FileKind.TheVariants as kinds
use Rattle.qs_driver_session.proofs.LaterLaws.{both_untouched, unread_later, was_read_before}
use Rattle.qs_driver_proofs.specs.Refusals.{Tells, TellsFault}
use Rattle.qs_driver_proofs.proofs.SourceReads.{core_there, own_core}
use Rattle.qs_driver.specs.Certified.{CertifyWords, CertifiedSource, IsCertifiedAs, Certifies, HasCertified, HasItsCore, WasReadProof, ReadsProof, file_of, IsCertifiedUnit, CertifiesTyped, LacksCertified, ReadsAll}
use Rattle.qs_driver.specs.Certified as meant
use Rattle.qs_driver.specs.declared.certified.CertifiedUnit.{CertifiedUnit}

-- ---- a text has one core

-- what the code holds of the certified unit of a text
pub record HoldsCertified (text : List ℕ) (file : Option (List ℕ)) (c : CertifiedUnit) : Type 0 where
  pub source : CertifiedSource
  pub is : IsCertifiedAs text file source
  pub holds : Certifies source c

-- the certifier's answer is one of the text's core
pub holds_certified : {text : List ℕ} {unit : List DeclTree} (file : Option (List ℕ)) (c : CertifiedUnit) → IsTypedAs text unit → IsRead unit → IsCertifiedUnit unit file c → HoldsCertified text file c
holds_certified {unit = unit} file c typed_as read k =
    let there = core_there typed_as read in
    record {
      source = record {
        unit = unit;
        core = unit_tree c.core;
        given = k.certified.given;
        proofs = proofs_tree c.certified.proofs;
      };
      is = record {
        typed_as = typed_as;
        has_core = there;
        core_is = same_Some there.core (unit_tree c.core) (sym there.is ∙ k.core_is);
        certified = k.certified.certified;
      };
      holds = record { unit = k.unit_is; core = refl; proofs = refl; counts = k.certified.counts };
    }

-- what was read has its core
pub has_its_core : {w : CertifyWords} {before after : StoreView} {c : CertifiedUnit} → HasCertified w before after c → HasItsCore c
has_its_core h = ap core_of h.holds.unit ∙ h.reads.is.has_core.is ∙ ap Some (h.reads.is.core_is ∙ sym h.holds.core)

-- ---- the proof file

-- what was read of the proof file behind the source
pub proof_read : (v u w : StoreView) (proof : Option (List ℕ)) (file : Option (Vec ℕ Global)) → IsUntouched v u → ReadsProof u w proof (Ok file) → WasReadProof v proof (file_of file)
proof_read v u w None None f r = refl
proof_read v u w None (Some text) f r = absurd r
proof_read v u w (Some name) None f r = absurd r
proof_read v u w (Some name) (Some text) f r = was_read_before f r.read_as

pub proof_untouched : (v u w : StoreView) (proof : Option (List ℕ)) (file : Option (Vec ℕ Global)) → IsUntouched v u → ReadsProof u w proof (Ok file) → IsUntouched v w
proof_untouched v u w None None f r = both_untouched f r
proof_untouched v u w None (Some text) f r = absurd r
proof_untouched v u w (Some name) None f r = absurd r
proof_untouched v u w (Some name) (Some text) f r = both_untouched f r.untouched

comes_to_proof : (c : CertifyWords) {v u : StoreView} {trees : List DeclTree} (name : List ℕ) (h : HasUnit v u c.source trees) → c.proof ≡ Some name → meant.ComesToProof c v name
comes_to_proof c name h named = record { text = h.text; text_read = h.read.read_as; typed = h.typed_as.typed; named = named }

unread_named : (c : CertifyWords) (v u w : StoreView) {trees : List DeclTree} (status : Status) (proof : Option (List ℕ)) → c.proof ≡ proof → HasUnit v u c.source trees → ReadsProof u w proof (Err status) → LacksCertified c v w status
unread_named c v u w status None is h r = absurd r
unread_named c v u w status (Some name) is h r = meant.unread_proof name (comes_to_proof c name h is) (unread_later v u w name kinds.Derivation proof_limit status h.read.untouched r)

-- the proof file wasn't read, behind the source
pub unread_proof : (c : CertifyWords) (v u w : StoreView) {trees : List DeclTree} (status : Status) → HasUnit v u c.source trees → ReadsProof u w c.proof (Err status) → ReadsAll c v w (Err status)
unread_proof c v u w status h r = unread_named c v u w status c.proof refl h r

-- ---- what it comes to

pub no_source : (c : CertifyWords) (v w : StoreView) (status : Status) → LacksSource v w c.source status → ReadsAll c v w (Err status)
no_source c v w status l = meant.no_source l

-- the source and its proof file come to what the certifier answers
was_certified : (c : CertifyWords) (v u w : StoreView) {unit : List DeclTree} (file : Option (Vec ℕ Global)) (held : CertifiedUnit) → IsRead unit → HasUnit v u c.source unit → ReadsProof u w c.proof (Ok file) → IsCertifiedUnit unit (file_of file) held → ReadsAll c v w (Ok held)
was_certified c v u w file held read h r k =
    let certified = holds_certified (file_of file) held h.typed_as read k in
    record {
      untouched = proof_untouched v u w c.proof file h.read.untouched r;
      source = certified.source;
      reads = record {
        text = h.text;
        file = file_of file;
        text_read = h.read.read_as;
        file_read = proof_read v u w c.proof file h.read.untouched r;
        is = certified.is;
      };
      holds = certified.holds;
    }

-- the certifier's refusal is told
was_refused : (c : CertifyWords) (v u w : StoreView) {trees : List DeclTree} (core : CoreUnitTree) (file : Option (Vec ℕ Global)) (fault : CertifyFault) (status : Status) → IsRead trees → HasUnit v u c.source trees → ReadsProof u w c.proof (Ok file) → core_of trees ≡ Some core → CannotCertify core (file_of file) fault → TellsFault core (file_of file) fault status → ReadsAll c v w (Err status)
was_refused c v u w core file fault status read h r is cause (inl e) = meant.no_memory (proof_untouched v u w c.proof file h.read.untouched r) e
was_refused c v u w core file fault status read h r is cause (inr (told, e, tells)) =
    let there = own_core h.typed_as read in
    let same : there.core ≡ core = same_Some there.core core (sym there.is ∙ ap core_of h.typed_as.trees_are ∙ is) in
    meant.wrong_proofs told (proof_untouched v u w c.proof file h.read.untouched r) (record {
      text = h.text;
      file = file_of file;
      text_read = h.read.read_as;
      file_read = proof_read v u w c.proof file h.read.untouched r;
      wrong = record {
        typed = h.typed_as.typed;
        has_core = there;
        fault = fault;
        cause = subst (λ (u : CoreUnitTree). CannotCertify u (file_of file) fault) (sym same) cause;
        tells = subst (λ (u : CoreUnitTree). Tells u (file_of file) fault told) (sym same) tells;
      };
    }) e

-- what the certifier answers of the unit that was read
pub certified_or_told : (c : CertifyWords) (v u w : StoreView) {unit : List DeclTree} (file : Option (Vec ℕ Global)) (answer : Result CertifiedUnit Status) → IsRead unit → HasUnit v u c.source unit → ReadsProof u w c.proof (Ok file) → CertifiesTyped unit (file_of file) answer → ReadsAll c v w answer
certified_or_told c v u w file (Ok held) read h r k = was_certified c v u w file held read h r k
certified_or_told c v u w file (Err status) read h r (meant.cannot_certify core fault is cause tells) = was_refused c v u w core file fault status read h r is cause tells
certified_or_told c v u w file (Err status) read h r (meant.lacks_memory e) = meant.no_memory (proof_untouched v u w c.proof file h.read.untouched r) e
