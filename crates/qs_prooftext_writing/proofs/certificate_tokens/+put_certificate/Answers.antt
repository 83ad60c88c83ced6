use Rattle.std.proofs.Common.{map}
use Rattle.std.specs.Prelude.{codes}
use Rattle.qs_entail.specs.View.{cert_tree, fact_tree}
use Rattle.qs_entail.proofs.Walks.{drop_of, split_of, via_of}
use Rattle.qs_sexpr.specs.Marks.{mark_of}
use Rattle.qs_sexpr.specs.Writing.{symbol_form}
use Rattle.qs_prooftext_writing.specs.Putting.{words_in_table}
use Rattle.qs_prooftext_meaning.specs.Writing.{assertion_form, certificate_form, condition_form}
use Rattle.qs_prooftext_writing.proofs.TokenLaws.{fact_whole, one_part, three_parts, two_parts}
use Rattle.qs_prooftext_writing.proofs.TreeLaws.{assume_of, by_definition_of, fact_of}
use Rattle.qs_prooftext_writing.proofs.certificate_tokens.+put_certificate.Goals as goal

pub put_certificate-returns-in_ok-put_certificate-in-Via : goal.put_certificate-returns-in_ok-put_certificate-in-Via
put_certificate-returns-in_ok-put_certificate-in-Via t c =
    let w = words_in_table c.args.table in
    rw (c.in-Via.is, via_of, ← c.deref.ensures, ← c.deref-in-Via.ensures)
    (three_parts c.put_last.result (codes "via") (assertion_form w c.in-Via.between) (certificate_form w (cert_tree c.deref.result.now)) (certificate_form w (cert_tree c.deref-in-Via.result.now))
    (map mark_of c.args.out.now.items) (map mark_of c.put_last.new.out.items) c.in_ok-begin-in-Via.ensures c.in_ok-put_assertion-in-Via.ensures c.in_ok-put_certificate-in-Via.ensures c.put_last.ensures)

pub put_certificate-returns-in_ok-put_certificate-in-DropGuard : goal.put_certificate-returns-in_ok-put_certificate-in-DropGuard
put_certificate-returns-in_ok-put_certificate-in-DropGuard t c =
    let w = words_in_table c.args.table in
    rw (c.in-DropGuard.is, drop_of, ← c.deref-in-DropGuard.ensures, ← c.deref-in-DropGuard-2.ensures)
    (two_parts c.put_last-in-DropGuard.result (codes "drop") (certificate_form w (cert_tree c.deref-in-DropGuard.result.now)) (certificate_form w (cert_tree c.deref-in-DropGuard-2.result.now))
    (map mark_of c.args.out.now.items) (map mark_of c.put_last-in-DropGuard.new.out.items) c.in_ok-begin-in-DropGuard.ensures c.in_ok-put_certificate-in-DropGuard.ensures c.put_last-in-DropGuard.ensures)

pub put_certificate-returns-in_ok-put_certificate-in-Split : goal.put_certificate-returns-in_ok-put_certificate-in-Split
put_certificate-returns-in_ok-put_certificate-in-Split t c =
    let w = words_in_table c.args.table in
    rw (c.in-Split.is, split_of, ← c.deref-in-Split.ensures, ← c.deref-in-Split-2.ensures)
    (three_parts c.put_last-in-Split.result (codes "split") (condition_form w c.in-Split.condition) (certificate_form w (cert_tree c.deref-in-Split.result.now)) (certificate_form w (cert_tree c.deref-in-Split-2.result.now))
    (map mark_of c.args.out.now.items) (map mark_of c.put_last-in-Split.new.out.items) c.in_ok-begin-in-Split.ensures c.in_ok-put_condition-in-Split.ensures c.in_ok-put_certificate-in-Split.ensures c.put_last-in-Split.ensures)

pub put_certificate-returns-in-Assume : goal.put_certificate-returns-in-Assume
put_certificate-returns-in-Assume t c =
    rw (c.in-Assume.is, assume_of, ← c.deref-in-Assume.ensures) c.put_assume.ensures

pub put_certificate-returns-in-ByDefinition : goal.put_certificate-returns-in-ByDefinition
put_certificate-returns-in-ByDefinition t c =
    rw (c.in-ByDefinition.is, by_definition_of, ← c.deref-in-ByDefinition.ensures) c.put_unfold.ensures

pub put_certificate-returns-in-Fact : goal.put_certificate-returns-in-Fact
put_certificate-returns-in-Fact t c =
    rw (c.in-Fact.is, fact_of, ← c.deref-in-Fact.ensures) c.put_fact.ensures

pub put_assume-returns : goal.put_assume-returns
put_assume-returns t c =
    let w = words_in_table c.args.table in
    one_part c.put_last.result (codes "assume") (certificate_form w (cert_tree c.args.part.now))
    (map mark_of c.args.out.now.items) (map mark_of c.put_last.new.out.items) c.in_ok-begin.ensures c.put_last.ensures

pub put_unfold-returns : goal.put_unfold-returns
put_unfold-returns t c =
    let w = words_in_table c.args.table in
    rw (← c.bytes.ensures)
    (two_parts c.put_last.result (codes "unfold") (symbol_form c.bytes.result.now) (certificate_form w (cert_tree c.args.part.now))
    (map mark_of c.args.out.now.items) (map mark_of c.put_last.new.out.items) c.in_ok-begin.ensures c.in_ok-put.ensures c.put_last.ensures)

pub put_fact-returns : goal.put_fact-returns
put_fact-returns t c =
    let w = words_in_table c.args.table in
    fact_whole c.put_last.result w (fact_tree c.args.fact.now) (certificate_form w (cert_tree c.args.part.now))
    (map mark_of c.args.out.now.items) (map mark_of c.put_last.new.out.items) c.in_ok-begin_fact.ensures c.put_last.ensures
