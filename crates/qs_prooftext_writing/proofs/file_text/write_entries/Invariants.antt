use Rattle.std.proofs.Common.{◌≡◌, ◌++◌, drop, map}
use Rattle.qs_core.specs.UnitTrees.{unit_tree}
use Rattle.qs_sexpr.specs.Layout.{lay_all}
use Rattle.qs_triples.specs.TreeOf.{entry_tree}
use Rattle.qs_prooftext_meaning.specs.Writing.{entry_form, forms_of}
use Rattle.qs_prooftext_writing.proofs.file_text.write_entries.Given as goal

abbrev pub invariant-loop-entry : goal.invariant-loop-entry
invariant-loop-entry l = l.text.items ++ lay_all (forms_of (map (entry_form (unit_tree l.unit)) (map entry_tree (drop l.entry-index l.entries)))) ≡ l.fn.text.items ++ lay_all (forms_of (map (entry_form (unit_tree l.unit)) (map entry_tree l.entries)))
