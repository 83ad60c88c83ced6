use Rattle.std.proofs.Common.{◌≡◌, ◌++◌, drop}
use Rattle.qs_assert.specs.Listing.{assertion_nodes}
use Rattle.qs_triples.specs.Rules.{by_values}
use Rattle.qs_triples.specs.Switches.{before_view}
use Rattle.qs_triples.proofs.switches.by_values.Given as goal

-- those so far are put, and the rest gives the whole
abbrev pub invariant-loop-label : goal.invariant-loop-label
invariant-loop-label l =
    l.nodes.items ++ assertion_nodes (by_values l.d (before_view l.b) l.s l.t (drop l.label-index l.labels))
    ≡ assertion_nodes (by_values l.d (before_view l.b) l.s l.t l.labels)
