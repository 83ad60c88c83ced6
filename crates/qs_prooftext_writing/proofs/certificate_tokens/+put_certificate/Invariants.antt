use Rattle.std.proofs.Common.{◌≡◌, ◌++◌, drop, map}
use Rattle.qs_entail.specs.View.{certs_tree}
use Rattle.qs_sexpr.specs.Marks.{mark_of}
use Rattle.qs_prooftext_writing.specs.Putting.{list_marks, words_in_table}
use Rattle.qs_prooftext_meaning.specs.Writing.{certificate_forms}
use Rattle.qs_prooftext_writing.proofs.certificate_tokens.+put_certificate.Given as goal

abbrev pub invariant-put_certificates-loop-part : goal.invariant-put_certificates-loop-part
invariant-put_certificates-loop-part l = map mark_of l.out.items ++ list_marks (certificate_forms (words_in_table l.table) (certs_tree (drop l.part-index l.parts))) ≡ map mark_of l.fn.out.items ++ list_marks (certificate_forms (words_in_table l.table) (certs_tree l.parts))
