use Rattle.std.proofs.Common.{◌≡◌, ◌++◌, drop, map}
use Rattle.qs_core.specs.UnitTrees.{unit_tree}
use Rattle.qs_sexpr.specs.Layout.{lay_all}
use Rattle.qs_prooftext_meaning.specs.Writing.{define_form, forms_of}
use Rattle.qs_prooftext_writing.proofs.file_text.write_defines.Given as goal

abbrev pub invariant-loop-define : goal.invariant-loop-define
invariant-loop-define l = l.text.items ++ lay_all (forms_of (map (define_form (unit_tree l.unit)) (drop l.define-index l.defines))) ≡ l.fn.text.items ++ lay_all (forms_of (map (define_form (unit_tree l.unit)) l.defines))
