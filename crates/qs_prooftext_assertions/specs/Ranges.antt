-- What ranges are of.
use Rattle.std.specs.Prelude.{◌≡◌, ℕ, codes, List, [], ◌∷◌, Option, Some, option_map, Result, Ok}
use Rattle.qs_base.specs.Results.{bind}
use Rattle.qs_assert.specs.declared.variable.Var.{Var}
use Rattle.qs_entail.specs.Certificates.{FactTree, range, cost_range}
use Rattle.qs_entail.specs.View.{fact_tree}
use Rattle.qs_entail.specs.declared.certificate.Fact.{Fact}
use Rattle.qs_sexpr.specs.Trees.{Sexps, count}
use Rattle.qs_sexpr.specs.declared.node.Node.{Node}
use Rattle.qs_prooftext_meaning.specs.declared.context.Context.{Context}
use Rattle.qs_prooftext_meaning.specs.declared.fault.TextFault.{TextFault}
use Rattle.qs_prooftext_meaning.specs.declared.fault.TextFault.TheVariants.{UnknownForm}
use Rattle.qs_prooftext_assertions.specs.declared.ranges.RangeWord.{RangeWord}
use Rattle.qs_prooftext_assertions.specs.declared.ranges.RangeWord.TheVariants.{Old, Cost, Returned}
use Rattle.qs_prooftext_assertions.specs.Answers.{Gives, StandAll}
use Rattle.qs_prooftext_assertions.specs.AssertionWords.{result_row}
use Rattle.qs_prooftext_meaning.specs.Contexts.{setting_of}
use Rattle.qs_prooftext_assertions.specs.Firsts.{first_means}
use Rattle.qs_prooftext_meaning.specs.Heads.{range_rows}
use Rattle.qs_prooftext_meaning.specs.Kinds.{Row, one, a_range, a_function, an_old_variable}
use Rattle.qs_prooftext_meaning.specs.Meanings.{Answer, or_fault, list_means, each_means, all_mean}
use Rattle.qs_prooftext_meaning.specs.Settings.{Setting, look_up}

abbrev pub range_words : List (List ℕ × RangeWord)
range_words = (codes "old", Old) ∷ (codes "cost", Cost) ∷ (codes "result", Returned) ∷ []

abbrev pub range_row : Setting → (at : ℕ) → RangeWord → Option (Row a_range)
range_row g at Old = Some (one (an_old_variable at) range)
range_row g at Cost = Some (one (a_function at) cost_range)
range_row g at Returned = result_row range g.result

abbrev pub range_or : (at : ℕ) → Option Var → Answer FactTree
range_or at found = or_fault (UnknownForm at) (option_map range found)

abbrev pub old_range : Setting → (whole : ℕ) → Sexps → Answer FactTree
old_range g whole ss = bind (first_means g (an_old_variable whole) ss) (λ x. Ok (range x))

abbrev pub cost_range_in : Setting → (whole : ℕ) → Sexps → Answer FactTree
cost_range_in g whole ss = bind (first_means g (a_function whole) ss) (λ f. Ok (cost_range f))

-- a list with this row
abbrev pub range_list : Setting → (at : ℕ) → Option (Row a_range) → Sexps → Answer FactTree
range_list g at row ss = list_means at row (count ss) (λ ks. each_means g ks ss) (λ a. all_mean g a ss)

abbrev pub row_named : (word : List ℕ) → Setting → (at : ℕ) → Option (Row a_range)
row_named word g at = look_up word (range_rows g at)

-- the answer is what a list at this place with this row and so many parts with these nodes is
abbrev pub ReadsRange :
    Context → (at : ℕ) → (Setting → (at : ℕ) → Option (Row a_range)) → (parts : ℕ) → (nodes : List Node)
    → Result Fact TextFault → Type 0
ReadsRange c at row n parts result =
    (ss : Sexps) → StandAll c.text.now parts ss → n ≡ count ss
    → Gives fact_tree (range_list (setting_of c) at (row (setting_of c) at) ss) result
