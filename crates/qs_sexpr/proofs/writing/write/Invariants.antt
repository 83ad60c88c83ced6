use Rattle.std.proofs.Common.{◌≡◌, [], drop, map, reverse}
use Rattle.qs_sexpr.specs.Marks.{laid_marks, list_sizes, mark_of}
use Rattle.qs_sexpr.specs.Pages.{text_with}
use Rattle.qs_sexpr.specs.declared.layout.Layer.TheVariants.{Top}
use Rattle.qs_sexpr.proofs.writing.write.Given as goal

-- the text comes to what is due, whatever is left of the tokens
abbrev pub invariant-loop-token : goal.invariant-loop-token
invariant-loop-token l = record {
  same : text_with l.page (map mark_of (drop l.token-index l.tokens)) ≡ laid_marks (map mark_of l.tokens) Top [];
  sizes : reverse l.page.sizes.items ≡ list_sizes (map mark_of (drop l.token-index l.tokens));
}
