-- What the code knows, and how it comes to know more.
use Rattle.std.specs.Prelude.{List, Vec, Bool, Result}
use Rattle.std.specs.declared.alloc.Global.{Global}
use Rattle.qs_assert.specs.Trees.{CondTree, AssertionTree}
use Rattle.qs_poly.specs.Polynomials.{Polynomial}
use Rattle.qs_entail.specs.declared.certificate.Fact.{Fact}
use Rattle.qs_entail.specs.declared.item.Item.{Item}
use Rattle.qs_entail.specs.declared.known.Known as code
use Rattle.qs_entail.specs.declared.parts.Sides.{Sides}
use Rattle.qs_entail.specs.declared.stop.Stop.{Stop}
use Rattle.qs_entail.specs.Answers.{Follows, FollowsAs, ListFollows}
use Rattle.qs_entail.specs.Building as building
use Rattle.qs_entail.specs.Certificates.{FactTree}
use Rattle.qs_entail.specs.Extending.{pushed, with_fact}
use Rattle.qs_entail.specs.Facts.{added, apart_by}
use Rattle.qs_entail.specs.Faults.{arithmetic_holds}
use Rattle.qs_entail.specs.Pushing.{Known}
use Rattle.qs_entail.specs.View.{fact_tree, items_view, known_view}

-- ---- what the polynomials of facts are

-- the answer is what the fact adds to what is known
abbrev pub Adds : FactTree → code.Known → Result (Vec Polynomial Global) Stop → Type 0
Adds f known result = ListFollows result (added f (known_view known))

-- and whatever is known
abbrev pub AddsAlways : FactTree → Result (Vec Polynomial Global) Stop → Type 0
AddsAlways f result = (k : Known) → ListFollows result (added f k)

-- and for two terms of which a condition says that they differ
abbrev pub AddsApart : Sides → List Item → code.Known → Result (Vec Polynomial Global) Stop → Type 0
AddsApart sides items known result =
    ListFollows result (apart_by sides.left sides.right (items_view items) known.polynomials.items)

-- whether the items are the difference of the two
abbrev pub TellsDifference : List Item → code.Known → AssertionTree → AssertionTree → Result (Unit {0}) Stop → Type 0
TellsDifference items known p q result = Follows result (arithmetic_holds (items_view items) (known_view known) p q)

-- ---- more is known

-- what is known becomes what f makes of it
abbrev pub Learns : {A : Type 0} → (Known → Result Known building.Stop) → (old new : code.Known) → Result A Stop → Type 0
Learns f old new result = FollowsAs (λ _. known_view new) result (f (known_view old))

-- a condition is pushed, or its negation
abbrev pub Pushes : {A : Type 0} → Bool → CondTree → (old new : code.Known) → Result A Stop → Type 0
Pushes negated c old new result = Learns (pushed negated c) old new result

abbrev pub LearnsFact : {A : Type 0} → Fact → (old new : code.Known) → Result A Stop → Type 0
LearnsFact fact old new result = Learns (with_fact (fact_tree fact)) old new result
