use Rattle.qs_entail.specs.View.{known_view}
use Rattle.qs_entail.proofs.facts.added.Goals as goal

pub returns-in-Range : goal.returns-in-Range
returns-in-Range c = rw c.in-Range.is (c.range.ensures (known_view c.args.known.now))

pub returns-in-CostRange : goal.returns-in-CostRange
returns-in-CostRange c = rw c.in-CostRange.is (c.cost_range.ensures (known_view c.args.known.now))

pub returns-in-NumBounds : goal.returns-in-NumBounds
returns-in-NumBounds c = rw c.in-NumBounds.is (c.num_bounds.ensures (known_view c.args.known.now))

pub returns-in-WrapUnsignedBounds : goal.returns-in-WrapUnsignedBounds
returns-in-WrapUnsignedBounds c = rw c.in-WrapUnsignedBounds.is (c.wrapu_bounds.ensures (known_view c.args.known.now))

pub returns-in-WrapSignedBounds : goal.returns-in-WrapSignedBounds
returns-in-WrapSignedBounds c = rw c.in-WrapSignedBounds.is (c.wraps_bounds.ensures (known_view c.args.known.now))

pub returns-in-QuotientBounds : goal.returns-in-QuotientBounds
returns-in-QuotientBounds c = rw c.in-QuotientBounds.is (c.quotient_bounds.ensures (known_view c.args.known.now))

pub returns-in-BitsBound : goal.returns-in-BitsBound
returns-in-BitsBound c = rw c.in-BitsBound.is (c.bits_bound.ensures (known_view c.args.known.now))
