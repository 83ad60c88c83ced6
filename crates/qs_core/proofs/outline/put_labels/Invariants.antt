use Rattle.std.proofs.Common.{◌≡◌, ◌++◌, flat_map, drop}
use Rattle.qs_core.specs.Outline.{label_text}
use Rattle.qs_core.proofs.outline.put_labels.Given as goal

-- those so far are written, and the rest gives the whole
abbrev pub invariant-loop-label : goal.invariant-loop-label
invariant-loop-label l = l.out.items ++ flat_map (label_text l.s) (drop l.label-index l.labels) ≡ l.fn.out.items ++ flat_map (label_text l.s) l.labels
