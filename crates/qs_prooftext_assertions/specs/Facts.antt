-- The facts that the first parts of a list are.
use Rattle.std.specs.Prelude.{Ok}
use Rattle.qs_base.specs.Results.{bind}
use Rattle.qs_entail.specs.Certificates.{FactTree, apart, num_is, wrapu_is, wraps_is, quotient_bounds, bits_half, bits_rise}
use Rattle.qs_sexpr.specs.Trees.{Sexps}
use Rattle.qs_prooftext_assertions.specs.Firsts.{first_means, tail}
use Rattle.qs_prooftext_meaning.specs.Kinds.{a_combination, a_natural, a_term, an_index}
use Rattle.qs_prooftext_meaning.specs.Meanings.{Answer}
use Rattle.qs_prooftext_meaning.specs.Settings.{Setting}

abbrev pub apart_means : Setting → Sexps → Answer FactTree
apart_means g ss = bind (first_means g an_index ss) (λ i. bind (first_means g a_combination (tail ss)) (λ w. Ok (apart i w)))

abbrev pub num_means : Setting → Sexps → Answer FactTree
num_means g ss = bind (first_means g a_term ss) (λ t. bind (first_means g a_combination (tail ss)) (λ w. Ok (num_is t w)))

abbrev pub half_means : Setting → Sexps → Answer FactTree
half_means g ss = bind (first_means g a_term ss) (λ t. bind (first_means g a_combination (tail ss)) (λ w. Ok (bits_half t w)))

abbrev pub quotient_means : Setting → Sexps → Answer FactTree
quotient_means g ss =
    bind (first_means g a_term ss) (λ t. bind (first_means g a_natural (tail ss)) (λ k. Ok (quotient_bounds t k)))

abbrev pub wrapu_means : Setting → Sexps → Answer FactTree
wrapu_means g ss =
    bind (first_means g a_term ss) (λ t. bind (first_means g a_combination (tail ss)) (λ v. bind (first_means g a_combination (tail (tail ss))) (λ w. Ok (wrapu_is t v w))))

abbrev pub wraps_means : Setting → Sexps → Answer FactTree
wraps_means g ss =
    bind (first_means g a_term ss) (λ t. bind (first_means g a_combination (tail ss)) (λ v. bind (first_means g a_combination (tail (tail ss))) (λ w. Ok (wraps_is t v w))))

abbrev pub rise_means : Setting → Sexps → Answer FactTree
rise_means g ss =
    bind (first_means g a_term ss) (λ t. bind (first_means g a_term (tail ss)) (λ u. bind (first_means g a_combination (tail (tail ss))) (λ w. Ok (bits_rise t u w))))
