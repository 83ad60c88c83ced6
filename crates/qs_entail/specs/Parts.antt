-- What the parts of assertions and conditions are.
use Rattle.std.specs.Prelude.{◌≡◌, ◌++◌, List}
use Rattle.qs_assert.specs.declared.node.Node.{Node}
use Rattle.qs_assert.specs.Listing.{inner_term}
use Rattle.qs_assert.specs.Trees.{TermTree}
use Rattle.qs_entail.specs.declared.parts.Guarded as code_guarded
use Rattle.qs_entail.specs.declared.parts.Sides as code_sides
use Rattle.qs_entail.specs.declared.pushing.Pair as code_pair
use Rattle.qs_entail.specs.declared.outlining.Outline as code_outline
use Rattle.qs_entail.specs.Building.{Two}
use Rattle.qs_entail.specs.Faults.{Guarded}
use Rattle.qs_entail.specs.Facts.{Sides}
use Rattle.qs_entail.specs.Verdicts.{Outline}

abbrev pub guarded_view : code_guarded.Guarded → Guarded
guarded_view g = record { condition = g.condition; body = g.body }

abbrev pub sides_view : code_sides.Sides → Sides
sides_view sides = record { left = sides.left; right = sides.right }

-- where the nodes are those of two terms, these are the two
abbrev pub HaveNodes : code_sides.Sides → List Node → Type 0
HaveNodes sides nodes = (t u : TermTree) → nodes ≡ inner_term t ++ inner_term u → (sides.left ≡ t) × (sides.right ≡ u)

abbrev pub pair_view : code_pair.Pair → Two
pair_view pair = record { first = pair.left; second = pair.right }

abbrev pub outline_view : code_outline.Outline → Outline
outline_view o = record { conditions = o.conditions.items; count = o.count }
