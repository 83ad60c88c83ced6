use Rattle.std.proofs.Common.{◌≡◌, ◌++◌, drop, map}
use Rattle.qs_sexpr.specs.Marks.{mark_of}
use Rattle.qs_triples.specs.TreeOf.{derivation_trees}
use Rattle.qs_prooftext_writing.specs.Putting.{list_marks, words_in_table}
use Rattle.qs_prooftext_meaning.specs.Writing.{derivation_forms}
use Rattle.qs_prooftext_writing.proofs.derivation_tokens.+put_derivation.Given as goal

abbrev pub invariant-put_derivations-loop-part : goal.invariant-put_derivations-loop-part
invariant-put_derivations-loop-part l = map mark_of l.out.items ++ list_marks (derivation_forms (words_in_table l.table) (derivation_trees (drop l.part-index l.parts))) ≡ map mark_of l.fn.out.items ++ list_marks (derivation_forms (words_in_table l.table) (derivation_trees l.parts))
