use Rattle.std.proofs.Common.{◌≡◌, ◌++◌, drop, map}
use Rattle.qs_entail.specs.View.{items_view}
use Rattle.qs_sexpr.specs.Marks.{mark_of}
use Rattle.qs_prooftext_writing.specs.Putting.{list_marks}
use Rattle.qs_prooftext_meaning.specs.Writing.{item_form}
use Rattle.qs_prooftext_writing.proofs.fact_tokens.put_items.Given as goal

abbrev pub invariant-loop-item : goal.invariant-loop-item
invariant-loop-item l = map mark_of l.out.items ++ list_marks (map item_form (items_view (drop l.item-index l.items))) ≡ map mark_of l.fn.out.items ++ list_marks (map item_form (items_view l.items))
