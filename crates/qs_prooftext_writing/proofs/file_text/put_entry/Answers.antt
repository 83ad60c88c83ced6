use Rattle.std.proofs.Common.{[], ◌∷◌, ◌++◌, List, ℕ, map, ap, ◌∙◌}
use Rattle.std.specs.Prelude.{codes}
use Rattle.qs_entail.specs.View.{cert_tree}
use Rattle.qs_sexpr.specs.Marks.{mark_of, word}
use Rattle.qs_sexpr.specs.Writing.{symbol_form}
use Rattle.qs_triples.specs.TreeOf.{derivation_tree}
use Rattle.qs_prooftext_writing.specs.Putting.{words_in_table}
use Rattle.qs_prooftext_meaning.specs.Writing.{assertion_form, certificate_form, derivation_form, headed}
use Rattle.qs_prooftext_writing.proofs.TokenLaws.{five_parts}
use Rattle.qs_prooftext_writing.proofs.file_text.put_entry.Goals as goal

pub returns : goal.returns
returns c =
    let w = words_in_table c.args.table in
    let e = c.args.entry.now in
    five_parts c.put-2.result (codes "function") (symbol_form (w.functions e.function.0)) (headed (codes "pre") (assertion_form w e.spec.pre ∷ [])) (headed (codes "post") (assertion_form w e.spec.post ∷ [])) (headed (codes "entry") (certificate_form w (cert_tree e.entry) ∷ [])) (headed (codes "body") (derivation_form w (derivation_tree e.body) ∷ []))
    (map mark_of c.args.out.now.items) (map mark_of c.put-2.new.out.items) c.in_ok-begin.ensures
    (c.in_ok-put.ensures ∙ ap (λ (name : List ℕ). map mark_of c.begin.new.out.items ++ (word name ∷ [])) c.function_word.ensures)
    c.in_ok-put_part.ensures c.in_ok-put_part-2.ensures c.in_ok-put_part-3.ensures c.in_ok-put_part-4.ensures c.put-2.ensures
