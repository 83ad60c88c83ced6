-- What a list with each head is as a certificate.
use Rattle.qs_entail.specs.Certificates as certificates
use Rattle.qs_entail.specs.View.{certs_of}
use Rattle.qs_prooftext.specs.declared.rules.FactWord.{FactWord}
use Rattle.qs_prooftext.specs.declared.rules.FactWord.TheVariants as facts
use Rattle.qs_prooftext.specs.declared.rules.Rule.{Rule}
use Rattle.qs_prooftext.specs.declared.rules.Rule.TheVariants as rules
use Rattle.qs_prooftext_meaning.specs.Kinds.{Row, none, one, two, three, four, any, a_term, a_condition, an_assertion, a_certificate, a_range, a_combination, an_index, a_natural, a_name}

abbrev pub rule_row : Rule → Row a_certificate
rule_row rules.Same = none certificates.same
rule_row rules.Via = three an_assertion a_certificate a_certificate certificates.via
rule_row rules.Pick = two an_index a_certificate certificates.pick
rule_row rules.All = any a_certificate (λ cs. certificates.all (certs_of cs))
rule_row rules.Parts = any a_certificate (λ cs. certificates.parts (certs_of cs))
rule_row rules.Assume = one a_certificate certificates.assume
rule_row rules.Drop = two a_certificate a_certificate certificates.drop
rule_row rules.Split = three a_condition a_certificate a_certificate certificates.split
rule_row rules.Contradict = one a_combination certificates.contradict
rule_row rules.Arithmetic = one a_combination certificates.arithmetic
rule_row rules.ByDefinition = two a_name a_certificate certificates.by_definition

abbrev pub fact_row : FactWord → Row a_certificate
fact_row facts.Range = two a_range a_certificate certificates.fact
fact_row facts.Apart = three an_index a_combination a_certificate (λ i w. certificates.fact (certificates.apart i w))
fact_row facts.NumIs = three a_term a_combination a_certificate (λ t w. certificates.fact (certificates.num_is t w))
fact_row facts.NumBounds = two a_term a_certificate (λ t. certificates.fact (certificates.num_bounds t))
fact_row facts.WrapUnsignedIs = four a_term a_combination a_combination a_certificate (λ t v w. certificates.fact (certificates.wrapu_is t v w))
fact_row facts.WrapSignedIs = four a_term a_combination a_combination a_certificate (λ t v w. certificates.fact (certificates.wraps_is t v w))
fact_row facts.WrapUnsignedBounds = two a_term a_certificate (λ t. certificates.fact (certificates.wrapu_bounds t))
fact_row facts.WrapSignedBounds = two a_term a_certificate (λ t. certificates.fact (certificates.wraps_bounds t))
fact_row facts.QuotientBounds = three a_term a_natural a_certificate (λ t k. certificates.fact (certificates.quotient_bounds t k))
fact_row facts.BitsBound = two a_term a_certificate (λ t. certificates.fact (certificates.bits_bound t))
fact_row facts.BitsHalf = three a_term a_combination a_certificate (λ t w. certificates.fact (certificates.bits_half t w))
fact_row facts.BitsRise = four a_term a_term a_combination a_certificate (λ t u w. certificates.fact (certificates.bits_rise t u w))
