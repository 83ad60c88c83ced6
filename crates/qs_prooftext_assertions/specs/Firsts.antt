-- Parts one by one.
use Rattle.std.specs.Prelude.{◌≡◌, ℕ, zero, suc, List, ◌++◌, Vec, Ok, Err}
use Rattle.std.specs.declared.alloc.Global.{Global}
use Rattle.qs_base.specs.Results.{bind}
use Rattle.qs_entail.specs.Certificates.{Item, once, twice}
use Rattle.qs_entail.specs.View.{items_view}
use Rattle.qs_entail.specs.declared.item.Item as code
use Rattle.qs_sexpr.specs.Trees.{Sexps, no_parts, part_and}
use Rattle.qs_prooftext_meaning.specs.declared.fault.TextFault.TheVariants.{UnknownForm}
use Rattle.qs_sexpr.specs.declared.node.Node.{Node}
use Rattle.qs_prooftext_assertions.specs.Answers.{StandAll}
use Rattle.qs_prooftext_meaning.specs.Kinds.{Kind, Of, a_natural, an_index, an_item}
use Rattle.qs_prooftext_meaning.specs.Meanings.{Answer, means, all_mean}
use Rattle.qs_prooftext_meaning.specs.Settings.{Setting}

abbrev pub tail : Sexps → Sexps
tail no_parts = no_parts
tail (part_and s ss) = ss

abbrev pub tails : ℕ → Sexps → Sexps
tails zero ss = ss
tails (suc n) ss = tails n (tail ss)

-- of the parts that stand in the first nodes, those behind stand in the others
abbrev pub StandBehind : (nodes : List Node) → (behind : Sexps → Sexps) → (others : List Node) → Type 0
StandBehind nodes behind others = (text : List ℕ) (ss : Sexps) → StandAll text nodes ss → StandAll text others (behind ss)

-- the first part
abbrev pub first_means : Setting → (k : Kind) → Sexps → Answer (Of k)
first_means g k no_parts = Err (UnknownForm 0)
first_means g k (part_and s ss) = means g k s

-- the parts of an item
abbrev pub once_means : Setting → Sexps → Answer Item
once_means g ss = bind (first_means g a_natural ss) (λ k. bind (first_means g an_index (tail ss)) (λ i. Ok (once k i)))

abbrev pub twice_means : Setting → Sexps → Answer Item
twice_means g ss =
    bind (first_means g a_natural ss) (λ k. bind (first_means g an_index (tail ss)) (λ i. bind (first_means g an_index (tail (tail ss))) (λ j. Ok (twice k i j))))

abbrev pub all_items : Setting → Sexps → Answer (List Item)
all_items g ss = all_mean g an_item ss

abbrev pub items_in : Vec code.Item Global → List Item
items_in items = items_view items.items

-- these items are read, and the rest is to be read
pub record ItemsLeft (g : Setting) (text : List ℕ) (rest : List Node) (items : List Item) (due : Answer (List Item)) : Type 0 where
  pub forest : Sexps
  pub stand : StandAll text rest forest
  pub same : bind (all_mean g an_item forest) (λ vs. Ok (items ++ vs)) ≡ due
