-- What is within the room is what was needed, and want of room is want of memory.
use Rattle.std.specs.Prelude.{◌≡◌, Result, Ok, Err}
use Rattle.qs_assert.specs.Trees.{AssertionTree}
use Rattle.qs_triples.specs.declared.failure.Failure.{Failure}
use Rattle.qs_triples.specs.Rules.{Answer}
use Rattle.qs_triples.specs.Told.{Follows, FailsAs}

-- a fault that a part tells is told by the whole
pub failure_follows : (failure : Failure) (answer : Answer) → FailsAs failure answer → Follows (Err failure) answer
failure_follows failure answer fails = fails

-- the assertion that was needed, where there is room for it
pub needed_follows : (a b : AssertionTree) (answer : Answer) → b ≡ a → Follows (Ok a) answer → Follows (Ok b) answer
needed_follows a b answer same follows = rw same follows
