-- What a context says of places.
use Rattle.std.proofs.Common.{◌≡◌, ℕ, zero, suc, true, List, [], ◌∷◌, refl}
use Rattle.std.specs.Prelude.{slice_index_or}
use Rattle.std.specs.List.{list_all}
use Rattle.std.specs.Cmp.{first_so, second_so}
use Rattle.qs_tac.specs.declared.places.Place.{Place}
use Rattle.qs_tac.specs.declared.places.Place.TheVariants.{Slot}
use Rattle.qs_tac.specs.Places.{PlacesTree, place_of}
use Rattle.qs_emit_selection.specs.Limits.{place_fits, places_fit}

each_fits : (places : List Place) (t : ℕ) (k : ℕ) → list_all place_fits places ≡ true → place_fits (slice_index_or places t (Slot k)) ≡ true
each_fits [] t k h = refl
each_fits (p ∷ places) zero k h = first_so (place_fits p) (list_all place_fits places) h
each_fits (p ∷ places) (suc t) k h = each_fits places t k (second_so (place_fits p) (list_all place_fits places) h)

pub place_is_fit : (p : PlacesTree) (t : ℕ) → places_fit p ≡ true → place_fits (place_of p t) ≡ true
place_is_fit p t h = each_fits p.at t t h
