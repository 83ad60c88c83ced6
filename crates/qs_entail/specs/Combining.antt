-- What the code of combinations gives.
use Rattle.std.specs.Prelude.{ℕ, Bool, ◌&&◌, List, ◌++◌, Result, Ok}
use Rattle.qs_poly.specs.Polynomials.{Polynomial}
use Rattle.qs_entail.specs.declared.item.Item as code
use Rattle.qs_entail.specs.declared.item.Item.TheVariants.{Once, Twice}
use Rattle.qs_entail.specs.declared.combination.Two as pair
use Rattle.qs_base.specs.Results.{bind}
use Rattle.qs_entail.specs.declared.stop.Stop.{Stop}
use Rattle.qs_entail.specs.Answers.{FollowsAs}
use Rattle.qs_entail.specs.Building as building
use Rattle.qs_entail.specs.Building.{Two, two_combinations}
use Rattle.qs_entail.specs.Verdicts.{is_counted}
use Rattle.qs_entail.specs.View.{items_view}

abbrev pub two_view : pair.Two → Two
two_view two = record { first = two.first; second = two.second }

abbrev pub CombinesBoth : (v w : List code.Item) → List Polynomial → Result pair.Two Stop → Type 0
CombinesBoth v w l result = FollowsAs two_view result (two_combinations (items_view v) (items_view w) l)

abbrev pub item_counted : code.Item → ℕ → Bool
item_counted (Once k i) n = is_counted i n
item_counted (Twice k i j) n = is_counted i n && is_counted j n

-- polynomials, and then those of an attempt
abbrev pub and_then : List Polynomial → Result (List Polynomial) building.Stop → Result (List Polynomial) building.Stop
and_then ps attempt = bind attempt (λ qs. Ok (ps ++ qs))
