-- The trees of certificates and derivations, for variants that have parts of their kind.
use Rattle.std.proofs.Common.{◌≡◌, ℕ, List, sym, ap, ◌∙◌}
use Rattle.std.specs.Prelude.{Box}
use Rattle.std.specs.declared.alloc.Global.{Global}
use Rattle.qs_assert.specs.declared.tree.Assertion.{Assertion}
use Rattle.qs_entail.specs.declared.certificate.Certificate.{Certificate, Certificate-F, fold-roll-Certificate}
use Rattle.qs_entail.specs.declared.certificate.Certificate.TheViews as certs
use Rattle.qs_entail.specs.declared.certificate.Certificate.TheVariants.{rolls-Assume, rolls-ByDefinition, rolls-Fact}
use Rattle.qs_entail.specs.declared.certificate.Fact.{Fact}
use Rattle.qs_entail.specs.Certificates as certificates
use Rattle.qs_entail.specs.Certificates.{CertTree}
use Rattle.qs_entail.specs.View.{cert_step, cert_tree, fact_tree}
use Rattle.qs_triples.specs.declared.derivation.Derivation.{Derivation, Derivation-F, fold-roll-Derivation}
use Rattle.qs_triples.specs.declared.derivation.Derivation.TheViews as derivs
use Rattle.qs_triples.specs.declared.derivation.Derivation.TheVariants.{rolls-Conditional, rolls-Consequence}
use Rattle.qs_triples.specs.Derivations as derivations
use Rattle.qs_triples.specs.Derivations.{DerivationTree}
use Rattle.qs_triples.specs.TreeOf.{derivation_step, derivation_tree}

-- ---- certificates

pub assume_of : (c : Box Certificate Global) → cert_tree (certs.Assume c) ≡ certificates.assume (cert_tree c.value)
assume_of c = ap cert_tree (sym (rolls-Assume c)) ∙ fold-roll-Certificate CertTree cert_step (Certificate-F.Assume c)

pub by_definition_of : (name : List ℕ) (c : Box Certificate Global) → cert_tree (certs.ByDefinition name c) ≡ certificates.by_definition name (cert_tree c.value)
by_definition_of name c = ap cert_tree (sym (rolls-ByDefinition name c)) ∙ fold-roll-Certificate CertTree cert_step (Certificate-F.ByDefinition name c)

pub fact_of : (f : Fact) (c : Box Certificate Global) → cert_tree (certs.Fact f c) ≡ certificates.fact (fact_tree f) (cert_tree c.value)
fact_of f c = ap cert_tree (sym (rolls-Fact f c)) ∙ fold-roll-Certificate CertTree cert_step (Certificate-F.Fact f c)

-- ---- derivations

pub conditional_of : (d e : Box Derivation Global) → derivation_tree (derivs.Conditional d e) ≡ derivations.conditional (derivation_tree d.value) (derivation_tree e.value)
conditional_of d e = ap derivation_tree (sym (rolls-Conditional d e)) ∙ fold-roll-Derivation DerivationTree derivation_step (Derivation-F.Conditional d e)

pub consequence_of : (r : Assertion) (c : Certificate) (d : Box Derivation Global) → derivation_tree (derivs.Consequence r c d) ≡ derivations.consequence r (cert_tree c) (derivation_tree d.value)
consequence_of r c d = ap derivation_tree (sym (rolls-Consequence r c d)) ∙ fold-roll-Derivation DerivationTree derivation_step (Derivation-F.Consequence r c d)
