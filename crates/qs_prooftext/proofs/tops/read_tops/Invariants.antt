use Rattle.std.proofs.Common.{length}
use Rattle.qs_core.specs.UnitTrees.{unit_tree}
use Rattle.qs_sexpr.specs.Trees.{Sexps}
use Rattle.qs_prooftext_assertions.specs.Answers.{StandAll}
use Rattle.qs_prooftext_meaning.specs.Proofs.{file_means}
use Rattle.qs_prooftext.specs.Tops.{TopsLeft, open_in, sofar_of}
use Rattle.qs_prooftext.proofs.tops.read_tops.Given as goal

abbrev pub invariant-tops : goal.invariant-tops
invariant-tops l = (ss : Sexps) → StandAll l.fn.file.text.now l.fn.nodes ss → TopsLeft (sofar_of l.fn.file l.proofs) l.fn.file.text.now l.rest (file_means (unit_tree l.fn.file.unit.now) (open_in l.fn.file) ss)

abbrev pub decreases-tops : goal.decreases-tops
decreases-tops l = length l.rest
