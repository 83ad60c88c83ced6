-- What is written of a certificate or a derivation means it.
use Rattle.std.proofs.Common.{◌≡◌, true, List, [], ◌∷◌, map, Ok, refl, ap}
use Rattle.std.specs.Cmp.{first_so, second_so}
use Rattle.qs_entail.specs.Certificates as certificates
use Rattle.qs_entail.specs.Certificates.{Item, once, twice, FactTree, CertTree, CertTrees, no_certs, cert_and}
use Rattle.qs_entail.specs.View.{certs_of}
use Rattle.qs_sexpr.specs.Trees.{Sexp, Sexps}
use Rattle.qs_sexpr.specs.Writing.{Form}
use Rattle.qs_triples.specs.Derivations as derivations
use Rattle.qs_triples.specs.Derivations.{DerivationTree, DerivationTrees, no_derivations, derivation_and}
use Rattle.qs_triples.specs.TreeOf.{derivations_of}
use Rattle.qs_prooftext_meaning.specs.Kinds.{a_certificate, a_derivation, a_combination, an_item}
use Rattle.qs_prooftext_meaning.specs.Settings.{Setting}
use Rattle.qs_prooftext_meaning.specs.Meanings.{means, all_mean}
use Rattle.qs_prooftext_meaning.specs.Writing.{Words, forms_of, item_form, combination_form, fact_form, certificate_form, certificate_forms, derivation_form, derivation_forms}
use Rattle.qs_prooftext_meaning.specs.Writable.{fact_stands, certificate_stands, certificates_stand, derivation_stands, derivations_stand}
use Rattle.qs_prooftext_meaning.proofs.PlacedForms.{part_in, parts_in, placed, all_placed}
use Rattle.qs_prooftext_meaning.proofs.WrittenMeans.{one_part, two_parts, three_parts, four_parts, any_parts, next_part, Agree, function_back, term_back, condition_back, assertion_back}

-- ---- combinations

item_back : (g : Setting) (at : Sexp) (item : Item) → means g an_item (placed at (item_form item)) ≡ Ok item
item_back g at (once k i) = refl
item_back g at (twice k i j) = refl

items_back : (g : Setting) (items : List Item) (at : Sexps) → all_mean g an_item (all_placed at (forms_of (map item_form items))) ≡ Ok items
items_back g [] at = refl
items_back g (item ∷ items) at = next_part _ _ item items (item_back g _ item) (items_back g items _)

combination_back : (g : Setting) (at : Sexp) (items : List Item) → means g a_combination (placed at (combination_form items)) ≡ Ok items
combination_back g at [] = refl
combination_back g at (item ∷ items) =
    any_parts (λ (all : List Item). all) _ (item ∷ items) (item ∷ items) (next_part _ _ item items (item_back g _ item) (items_back g items _)) refl

-- ---- facts

fact_back : (g : Setting) (w : Words) → Agree g w → (at : Sexp) (f : FactTree) → fact_stands g f ≡ true → (c : CertTree) (form : Form) → ((there : Sexp) → means g a_certificate (placed there form) ≡ Ok c) → means g a_certificate (placed at (fact_form w f form)) ≡ Ok (certificates.fact f c)
fact_back g w a at (certificates.range x) h c form e =
    two_parts certificates.fact _ _ (certificates.range x) c (a.ranges _ x h) (e _)
fact_back g w a at (certificates.cost_range f) h c form e =
    two_parts certificates.fact _ _ (certificates.cost_range f) c (one_part certificates.cost_range _ f (function_back g w a _ f h)) (e _)
fact_back g w a at (certificates.apart i items) h c form e =
    three_parts (λ j v. certificates.fact (certificates.apart j v)) (Ok i) _ _ i items c refl (combination_back g (part_in 2 (parts_in at)) items) (e (part_in 3 (parts_in at)))
fact_back g w a at (certificates.num_is t items) h c form e =
    three_parts (λ u v. certificates.fact (certificates.num_is u v)) _ _ _ t items c (term_back g w a _ t h) (combination_back g (part_in 2 (parts_in at)) items) (e (part_in 3 (parts_in at)))
fact_back g w a at (certificates.num_bounds t) h c form e =
    two_parts (λ u. certificates.fact (certificates.num_bounds u)) _ _ t c (term_back g w a _ t h) (e _)
fact_back g w a at (certificates.wrapu_is t first second) h c form e =
    four_parts (λ u v o. certificates.fact (certificates.wrapu_is u v o)) _ _ _ _ t first second c (term_back g w a _ t h) (combination_back g (part_in 2 (parts_in at)) first) (combination_back g (part_in 3 (parts_in at)) second) (e (part_in 4 (parts_in at)))
fact_back g w a at (certificates.wraps_is t first second) h c form e =
    four_parts (λ u v o. certificates.fact (certificates.wraps_is u v o)) _ _ _ _ t first second c (term_back g w a _ t h) (combination_back g (part_in 2 (parts_in at)) first) (combination_back g (part_in 3 (parts_in at)) second) (e (part_in 4 (parts_in at)))
fact_back g w a at (certificates.wrapu_bounds t) h c form e =
    two_parts (λ u. certificates.fact (certificates.wrapu_bounds u)) _ _ t c (term_back g w a _ t h) (e _)
fact_back g w a at (certificates.wraps_bounds t) h c form e =
    two_parts (λ u. certificates.fact (certificates.wraps_bounds u)) _ _ t c (term_back g w a _ t h) (e _)
fact_back g w a at (certificates.quotient_bounds t k) h c form e =
    three_parts (λ u j. certificates.fact (certificates.quotient_bounds u j)) _ (Ok k) _ t k c (term_back g w a _ t h) refl (e _)
fact_back g w a at (certificates.bits_bound t) h c form e =
    two_parts (λ u. certificates.fact (certificates.bits_bound u)) _ _ t c (term_back g w a _ t h) (e _)
fact_back g w a at (certificates.bits_half t items) h c form e =
    three_parts (λ u v. certificates.fact (certificates.bits_half u v)) _ _ _ t items c (term_back g w a _ t h) (combination_back g (part_in 2 (parts_in at)) items) (e (part_in 3 (parts_in at)))
fact_back g w a at (certificates.bits_rise t u items) h c form e =
    four_parts (λ s o v. certificates.fact (certificates.bits_rise s o v)) _ _ _ _ t u items c (term_back g w a _ t (first_so _ _ h)) (term_back g w a _ u (second_so _ _ h)) (combination_back g (part_in 3 (parts_in at)) items) (e (part_in 4 (parts_in at)))

-- ---- certificates

abbrev cert_list : CertTrees → List CertTree
cert_list no_certs = []
cert_list (cert_and c cs) = c ∷ cert_list cs

certs_of-list : (cs : CertTrees) → certs_of (cert_list cs) ≡ cs
certs_of-list no_certs = refl
certs_of-list (cert_and c cs) = ap (cert_and c) (certs_of-list cs)

mutual
  pub certificate_back : (g : Setting) (w : Words) → Agree g w → (at : Sexp) (c : CertTree) → certificate_stands g c ≡ true → means g a_certificate (placed at (certificate_form w c)) ≡ Ok c
  certificate_back g w a at certificates.same h = refl
  certificate_back g w a at (certificates.via r c d) h =
      three_parts certificates.via _ _ _ r c d (assertion_back g w a _ r (first_so _ _ (first_so _ _ h))) (certificate_back g w a _ c (second_so _ _ (first_so _ _ h))) (certificate_back g w a _ d (second_so _ _ h))
  certificate_back g w a at (certificates.pick i c) h =
      two_parts certificates.pick (Ok i) _ i c refl (certificate_back g w a _ c h)
  certificate_back g w a at (certificates.all cs) h =
      any_parts (λ ds. certificates.all (certs_of ds)) _ (cert_list cs) (certificates.all cs) (certificates_back g w a _ cs h) (ap certificates.all (certs_of-list cs))
  certificate_back g w a at (certificates.parts cs) h =
      any_parts (λ ds. certificates.parts (certs_of ds)) _ (cert_list cs) (certificates.parts cs) (certificates_back g w a _ cs h) (ap certificates.parts (certs_of-list cs))
  certificate_back g w a at (certificates.assume c) h =
      one_part certificates.assume _ c (certificate_back g w a _ c h)
  certificate_back g w a at (certificates.drop c d) h =
      two_parts certificates.drop _ _ c d (certificate_back g w a _ c (first_so _ _ h)) (certificate_back g w a _ d (second_so _ _ h))
  certificate_back g w a at (certificates.split b c d) h =
      three_parts certificates.split _ _ _ b c d (condition_back g w a _ b (first_so _ _ (first_so _ _ h))) (certificate_back g w a _ c (second_so _ _ (first_so _ _ h))) (certificate_back g w a _ d (second_so _ _ h))
  certificate_back g w a at (certificates.contradict items) h =
      one_part certificates.contradict _ items (combination_back g (part_in 1 (parts_in at)) items)
  certificate_back g w a at (certificates.arithmetic items) h =
      one_part certificates.arithmetic _ items (combination_back g (part_in 1 (parts_in at)) items)
  certificate_back g w a at (certificates.by_definition name c) h =
      two_parts certificates.by_definition (Ok name) _ name c refl (certificate_back g w a _ c h)
  certificate_back g w a at (certificates.fact f c) h =
      fact_back g w a at f (first_so _ _ h) c (certificate_form w c) (λ there. certificate_back g w a there c (second_so _ _ h))

  pub certificates_back : (g : Setting) (w : Words) → Agree g w → (at : Sexps) (cs : CertTrees) → certificates_stand g cs ≡ true → all_mean g a_certificate (all_placed at (forms_of (certificate_forms w cs))) ≡ Ok (cert_list cs)
  certificates_back g w a at no_certs h = refl
  certificates_back g w a at (cert_and c cs) h =
      next_part _ _ c (cert_list cs) (certificate_back g w a _ c (first_so _ _ h)) (certificates_back g w a _ cs (second_so _ _ h))

-- ---- derivations

abbrev derivation_list : DerivationTrees → List DerivationTree
derivation_list no_derivations = []
derivation_list (derivation_and d ds) = d ∷ derivation_list ds

derivations_of-list : (ds : DerivationTrees) → derivations_of (derivation_list ds) ≡ ds
derivations_of-list no_derivations = refl
derivations_of-list (derivation_and d ds) = ap (derivation_and d) (derivations_of-list ds)

mutual
  pub derivation_back : (g : Setting) (w : Words) → Agree g w → (at : Sexp) (d : DerivationTree) → derivation_stands g d ≡ true → means g a_derivation (placed at (derivation_form w d)) ≡ Ok d
  derivation_back g w a at derivations.leaf h = refl
  derivation_back g w a at (derivations.sequence ds) h =
      any_parts (λ es. derivations.sequence (derivations_of es)) _ (derivation_list ds) (derivations.sequence ds) (derivations_back g w a _ ds h) (ap derivations.sequence (derivations_of-list ds))
  derivation_back g w a at (derivations.conditional d e) h =
      two_parts derivations.conditional _ _ d e (derivation_back g w a _ d (first_so _ _ h)) (derivation_back g w a _ e (second_so _ _ h))
  derivation_back g w a at (derivations.loop i c body step) h =
      four_parts derivations.loop _ _ _ _ i c body step (assertion_back g w a _ i (first_so _ _ (first_so _ _ (first_so _ _ h)))) (certificate_back g w a _ c (second_so _ _ (first_so _ _ (first_so _ _ h)))) (derivation_back g w a _ body (second_so _ _ (first_so _ _ h))) (derivation_back g w a _ step (second_so _ _ h))
  derivation_back g w a at (derivations.switch ds) h =
      any_parts (λ es. derivations.switch (derivations_of es)) _ (derivation_list ds) (derivations.switch ds) (derivations_back g w a _ ds h) (ap derivations.switch (derivations_of-list ds))
  derivation_back g w a at (derivations.call b c) h =
      two_parts derivations.call _ _ b c (assertion_back g w a _ b (first_so _ _ h)) (certificate_back g w a _ c (second_so _ _ h))
  derivation_back g w a at derivations.balanced_call h = refl
  derivation_back g w a at (derivations.consequence r c d) h =
      three_parts derivations.consequence _ _ _ r c d (assertion_back g w a _ r (first_so _ _ (first_so _ _ h))) (certificate_back g w a _ c (second_so _ _ (first_so _ _ h))) (derivation_back g w a _ d (second_so _ _ h))

  pub derivations_back : (g : Setting) (w : Words) → Agree g w → (at : Sexps) (ds : DerivationTrees) → derivations_stand g ds ≡ true → all_mean g a_derivation (all_placed at (forms_of (derivation_forms w ds))) ≡ Ok (derivation_list ds)
  derivations_back g w a at no_derivations h = refl
  derivations_back g w a at (derivation_and d ds) h =
      next_part _ _ d (derivation_list ds) (derivation_back g w a _ d (first_so _ _ h)) (derivations_back g w a _ ds (second_so _ _ h))
