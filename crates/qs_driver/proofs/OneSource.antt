-- A source and its proof file come to one certified source, and its images have the same names.
use Rattle.std.proofs.Common.{◌≡◌, ◌∙◌, ℕ, List, map, Option, Some, None, refl, sym, ap, subst, IsTrue}
use Rattle.std.proofs.lemmas.Option.{same_Some}
use Rattle.qs_syntax.specs.Trees.{UnitTree}
use Rattle.qs_core.specs.Trees.{CoreUnitTree}
use Rattle.qs_elaborate_bodies.specs.Units.{core_of}
use Rattle.qs_triples.specs.Derivations.{ProofsTree}
use Rattle.qs_certify.specs.Certification.{IsCertified}
use Rattle.qs_certify.proofs.OneLaws.{one_certified}
use Rattle.qs_ports.specs.StoreView.{StoreView, Files}
use Rattle.qs_image.specs.Image.{Image, FunctionRecord}
use Rattle.qs_driver_session.specs.Limits.{source_limit, proof_limit}
use Rattle.qs_driver_steps.specs.Files.{HoldsContent}
use Rattle.qs_driver_session.proofs.FilesLaws.{held_content}
use Rattle.qs_driver_session.proofs.SourceFollows.{one_content}
use Rattle.qs_driver_session.proofs.SourceLaws.{same_trees}
use Rattle.qs_driver.specs.Bounds.{IsImageOf}
use Rattle.qs_driver.specs.Certified.{CertifyWords, CertifiedSource, IsCertifiedAs, AreAsBefore, ReadsCertified, HoldsProof}
use Rattle.qs_driver.proofs.BoundsLaws.{core_is, same_names}
use Rattle.qs_driver.proofs.ProvedReads.{HoldsSource}
use Rattle.qs_driver.proofs.CertifiedRefusals.{proof_held, one_file}

-- ---- of one text and one file

abbrev source_of : UnitTree → CoreUnitTree → (given proofs : ProofsTree) → CertifiedSource
source_of unit core given proofs = record { unit = unit; core = core; given = given; proofs = proofs }

same_source : (s t : CertifiedSource) → s.unit ≡ t.unit → s.core ≡ t.core → s.given ≡ t.given → s.proofs ≡ t.proofs → s ≡ t
same_source s t unit core given proofs =
    ap (λ (x : UnitTree). source_of x s.core s.given s.proofs) unit
    ∙ ap (λ (x : CoreUnitTree). source_of t.unit x s.given s.proofs) core
    ∙ ap (λ (x : ProofsTree). source_of t.unit t.core x s.proofs) given
    ∙ ap (λ (x : ProofsTree). source_of t.unit t.core t.given x) proofs

one_source : (text : List ℕ) (file : Option (List ℕ)) (s t : CertifiedSource) → IsCertifiedAs text file s → IsCertifiedAs text file t → s ≡ t
one_source text file s t a b =
    let unit : s.unit ≡ t.unit = sym a.typed_as.trees_are ∙ same_trees text a.typed_as.typed.unit b.typed_as.typed.unit ∙ b.typed_as.trees_are in
    let core : s.core ≡ t.core = same_Some s.core t.core (sym (core_is text file s a) ∙ ap core_of unit ∙ core_is text file t b) in
    let there : IsCertified t.core file s.given s.proofs = subst (λ (u : CoreUnitTree). IsCertified u file s.given s.proofs) core a.certified in
    let one = one_certified t.core file s.given s.proofs t.given t.proofs there b.certified in
    same_source s t unit core one.0 one.1

-- ---- of files that are there

pub source_held : (c : CertifyWords) (v : StoreView) (s : CertifiedSource) → IsTrue v.told → ReadsCertified c v s → HoldsSource c v.files s
source_held c v s told r = record {
  text = r.text;
  file = r.file;
  there = held_content r.text_read told;
  proof_there = proof_held v c.proof r.file told r.file_read;
  is = r.is;
}

pub one_held : (c : CertifyWords) (f : Files) (s t : CertifiedSource) → HoldsSource c f s → HoldsSource c f t → s ≡ t
one_held c f s t a b =
    let texts : a.text ≡ b.text = one_content (f c.source) source_limit a.text b.text a.there b.there in
    let files : a.file ≡ b.file = one_file f c.proof a.file b.file a.proof_there b.proof_there in
    let here : IsCertifiedAs b.text a.file s = subst (λ (text : List ℕ). IsCertifiedAs text a.file s) texts a.is in
    one_source b.text b.file s t (subst (λ (file : Option (List ℕ)). IsCertifiedAs b.text file s) files here) b.is

-- the same source and proof file
proof_as_before : (f g : Files) (proof file : Option (List ℕ)) → ((name : List ℕ) → proof ≡ Some name → g name ≡ f name) → HoldsProof g proof file → HoldsProof f proof file
proof_as_before f g None file same h = h
proof_as_before f g (Some name) None same h = h
proof_as_before f g (Some name) (Some text) same h =
    subst (λ (there : Option (List ℕ)). HoldsContent there proof_limit text) (same name refl) h

pub held_before : (c : CertifyWords) (f g : Files) (s : CertifiedSource) → AreAsBefore c f g → HoldsSource c g s → HoldsSource c f s
held_before c f g s same h = record {
  text = h.text;
  file = h.file;
  there = subst (λ (there : Option (List ℕ)). HoldsContent there source_limit h.text) same.source h.there;
  proof_there = proof_as_before f g c.proof h.file same.proof h.proof_there;
  is = h.is;
}

-- ---- its images

pub names_of_one : (c : CertifyWords) (f : Files) (s t : CertifiedSource) (image other : Image) → HoldsSource c f s → HoldsSource c f t → IsImageOf s image → IsImageOf t other → map (λ (r : FunctionRecord). r.name) image.functions ≡ map (λ (r : FunctionRecord). r.name) other.functions
names_of_one c f s t image other a b i j =
    let same : t ≡ s = one_held c f t s b a in
    same_names s.core s image other (core_is a.text a.file s a.is) i (subst (λ (x : CertifiedSource). IsImageOf x other) same j)
