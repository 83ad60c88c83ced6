use Rattle.std.proofs.Common.{length}
use Rattle.qs_entail.specs.View.{items_view}
use Rattle.qs_sexpr.specs.Trees.{Sexps}
use Rattle.qs_prooftext_assertions.specs.Answers.{StandAll}
use Rattle.qs_prooftext_assertions.specs.Firsts.{ItemsLeft}
use Rattle.qs_prooftext_meaning.specs.Kinds.{an_item}
use Rattle.qs_prooftext_meaning.specs.Meanings.{all_mean}
use Rattle.qs_prooftext_meaning.specs.Settings.{Setting}
use Rattle.qs_prooftext_assertions.proofs.combinations.read_items.Given as goal

abbrev pub invariant-items : goal.invariant-items
invariant-items l = (ss : Sexps) (g : Setting) → StandAll l.fn.text l.fn.parts ss → ItemsLeft g l.fn.text l.rest (items_view l.items.items) (all_mean g an_item ss)

abbrev pub decreases-items : goal.decreases-items
decreases-items l = length l.rest
