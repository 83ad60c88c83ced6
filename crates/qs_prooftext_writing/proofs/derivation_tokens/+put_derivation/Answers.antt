use Rattle.std.proofs.Common.{map}
use Rattle.std.specs.Prelude.{codes}
use Rattle.qs_entail.specs.View.{cert_tree}
use Rattle.qs_sexpr.specs.Marks.{mark_of}
use Rattle.qs_triples.specs.TreeOf.{derivation_tree}
use Rattle.qs_triples.proofs.NodeLaws.{loop_of}
use Rattle.qs_prooftext_writing.specs.Putting.{words_in_table}
use Rattle.qs_prooftext_meaning.specs.Writing.{assertion_form, certificate_form, derivation_form}
use Rattle.qs_prooftext_writing.proofs.TokenLaws.{four_parts, three_parts, two_parts}
use Rattle.qs_prooftext_writing.proofs.TreeLaws.{conditional_of, consequence_of}
use Rattle.qs_prooftext_writing.proofs.derivation_tokens.+put_derivation.Goals as goal

pub put_derivation-returns-in_ok-put_derivation-in-Conditional : goal.put_derivation-returns-in_ok-put_derivation-in-Conditional
put_derivation-returns-in_ok-put_derivation-in-Conditional t c =
    let w = words_in_table c.args.table in
    rw (c.in-Conditional.is, conditional_of, ← c.deref-in-Conditional.ensures, ← c.deref-in-Conditional-2.ensures)
    (two_parts c.put_last.result (codes "if") (derivation_form w (derivation_tree c.deref-in-Conditional.result.now)) (derivation_form w (derivation_tree c.deref-in-Conditional-2.result.now))
    (map mark_of c.args.out.now.items) (map mark_of c.put_last.new.out.items) c.in_ok-begin-in-Conditional.ensures c.in_ok-put_derivation-in-Conditional.ensures c.put_last.ensures)

pub put_derivation-returns-in_ok-put_derivation-in-Loop : goal.put_derivation-returns-in_ok-put_derivation-in-Loop
put_derivation-returns-in_ok-put_derivation-in-Loop t c =
    let w = words_in_table c.args.table in
    rw (c.in-Loop.is, loop_of, ← c.deref-in-Loop.ensures, ← c.deref-in-Loop-2.ensures)
    (four_parts c.put_last-in-Loop.result (codes "loop") (assertion_form w c.in-Loop.invariant) (certificate_form w (cert_tree c.in-Loop.certificate)) (derivation_form w (derivation_tree c.deref-in-Loop.result.now)) (derivation_form w (derivation_tree c.deref-in-Loop-2.result.now))
    (map mark_of c.args.out.now.items) (map mark_of c.put_last-in-Loop.new.out.items) c.in_ok-begin-in-Loop.ensures c.in_ok-put_assertion-in-Loop.ensures c.in_ok-put_certificate-in-Loop.ensures c.in_ok-put_derivation-in-Loop.ensures c.put_last-in-Loop.ensures)

pub put_derivation-returns-in_ok-put_certificate-in-Consequence : goal.put_derivation-returns-in_ok-put_certificate-in-Consequence
put_derivation-returns-in_ok-put_certificate-in-Consequence t c =
    let w = words_in_table c.args.table in
    rw (c.in-Consequence.is, consequence_of, ← c.deref-in-Consequence.ensures)
    (three_parts c.put_last-in-Consequence.result (codes "use") (assertion_form w c.in-Consequence.stronger) (certificate_form w (cert_tree c.in-Consequence.certificate)) (derivation_form w (derivation_tree c.deref-in-Consequence.result.now))
    (map mark_of c.args.out.now.items) (map mark_of c.put_last-in-Consequence.new.out.items) c.in_ok-begin-in-Consequence.ensures c.in_ok-put_assertion-in-Consequence.ensures c.in_ok-put_certificate-in-Consequence.ensures c.put_last-in-Consequence.ensures)
