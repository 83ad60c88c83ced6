use Rattle.std.proofs.Common.{length, map}
use Rattle.qs_sexpr.specs.Trees.{Sexp}
use Rattle.qs_prooftext_assertions.specs.Answers.{Stands}
use Rattle.qs_prooftext.specs.CertHeads.{cert_shape, head_view}
use Rattle.qs_prooftext_meaning.specs.Contexts.{setting_of}
use Rattle.qs_prooftext.specs.HeadWalks.{HeadsLeft}
use Rattle.qs_prooftext_meaning.specs.Kinds.{a_certificate}
use Rattle.qs_prooftext_meaning.specs.Meanings.{means}
use Rattle.qs_prooftext.proofs.certificates.read_certificate.Given as goal

abbrev pub invariant-trees : goal.invariant-trees
invariant-trees l = (s : Sexp) → Stands l.fn.context.text.now l.fn.nodes s → HeadsLeft a_certificate cert_shape (setting_of l.fn.context) l.fn.context.text.now l.rest (map head_view l.heads.items) (means (setting_of l.fn.context) a_certificate s)

abbrev pub decreases-trees : goal.decreases-trees
decreases-trees l = length l.rest
