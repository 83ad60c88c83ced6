use Rattle.std.proofs.Common.{length}
use Rattle.qs_sexpr.specs.Trees.{Sexp}
use Rattle.qs_prooftext_assertions.specs.Answers.{Stands}
use Rattle.qs_prooftext_meaning.specs.Contexts.{setting_of}
use Rattle.qs_prooftext_assertions.specs.Flattening.{flat}
use Rattle.qs_prooftext_assertions.specs.Walking.{Remains}
use Rattle.qs_prooftext_assertions.proofs.assertions.read_nodes.Given as goal

abbrev pub invariant-trees : goal.invariant-trees
invariant-trees l = (s : Sexp) → Stands l.fn.context.text.now l.fn.nodes s → Remains (setting_of l.fn.context) l.fn.context.text.now l.rest l.todo.items l.out.items (flat (setting_of l.fn.context) l.fn.sort s)

abbrev pub decreases-trees : goal.decreases-trees
decreases-trees l = length l.rest
