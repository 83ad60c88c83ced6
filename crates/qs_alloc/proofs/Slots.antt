-- A slot for each temporary keeps what each function does.
use Rattle.std.proofs.Common.{◌≡◌, ℕ, zero, suc, List, [], ◌∷◌, map, Some, ap, sym, subst}
use Rattle.std.specs.Prelude.{slice_index_or}
use Rattle.std.specs.List.{slice_get}
use Rattle.qs_tac.specs.Trees.{TacFunctionTree, TacUnitTree}
use Rattle.qs_tac.specs.Places.{PlacesTree, all_slots, Accepted, own_slots, no_places}
use Rattle.qs_tac.specs.Laws.{AreAccepted}

pub slots_are_accepted : (f : TacFunctionTree) (p : PlacesTree) → p ≡ all_slots f → Accepted f p
slots_are_accepted f p h = own_slots (ap (λ q. q.at) h)

pub slots_at : (functions : List TacFunctionTree) (f : ℕ) (g : TacFunctionTree) → slice_get functions f ≡ Some g → slice_index_or (map all_slots functions) f no_places ≡ all_slots g
slots_at [] f g e = absurd cc
slots_at (k ∷ functions) zero g e = let is : k ≡ g = cc in ap all_slots is
slots_at (k ∷ functions) (suc f) g e = slots_at functions f g e

pub all_slots_are_accepted : (u : TacUnitTree) (ps : List PlacesTree) → ps ≡ map all_slots u.functions → AreAccepted u ps
all_slots_are_accepted u ps h =
    subst (λ (l : List PlacesTree). AreAccepted u l) (sym h) (λ f g e. slots_are_accepted g _ (slots_at u.functions f g e))
