-- The places of all functions: what the test of them says, and that packed ones pass it.
use Rattle.std.proofs.Common.{◌≡◌, ℕ, zero, suc, ◌+◌, ◌<◌, ◌==◌, ◌&&◌, ◌||◌, Bool, true, false, List, [], ◌∷◌, ◌++◌, take, length, map, Some, refl, ap, sym, ◌∙◌, subst, add-zero, zero-add, arith}
use Rattle.std.proofs.lemmas.List.{take_more, map-append}
use Rattle.std.specs.Prelude.{slice_index_or}
use Rattle.std.specs.List.{slice_get}
use Rattle.qs_tac.specs.Trees.{TacFunctionTree, TacUnitTree}
use Rattle.qs_tac.specs.TreeOf.{function_tree}
use Rattle.qs_tac.specs.Liveness.{after}
use Rattle.qs_tac.specs.Places.{PlacesTree, places_tree, Accepted, keep_values, Packed, no_places}
use Rattle.qs_tac.specs.declared.units.TacFunction.{TacFunction}
use Rattle.qs_tac.specs.declared.places.Places.{Places}
use Rattle.qs_tac.specs.Laws.{AreAccepted, ArePacked}
use Rattle.qs_tac.proofs.PlacesLaws.{places_keep_runs}
use Rattle.qs_alloc.specs.Verification.{are_own_slots, is_entry_apart, keeps_from, all_stand, keeps_values, is_accepted, are_verified, KeepsRuns}
use Rattle.qs_alloc.specs.Packing.{AllPacked, none, more}
use Rattle.qs_alloc.proofs.Tests.{and_true, both_true, or_left, five_fail}
use Rattle.qs_alloc.proofs.Acceptance.{accepted_say, accepted_pass}

-- ---- of all functions

abbrev IsAcceptedFrom : List PlacesTree → (first : ℕ) → List TacFunctionTree → Type 0
IsAcceptedFrom ps first functions =
    (f : ℕ) (g : TacFunctionTree) → slice_get functions f ≡ Some g → Accepted g (slice_index_or ps (first + f) no_places)

verified_say : (ps : List PlacesTree) (first : ℕ) (functions : List TacFunctionTree) → are_verified ps first functions ≡ true → IsAcceptedFrom ps first functions
verified_say ps first [] h f g e = absurd cc
verified_say ps first (k ∷ functions) h zero g e =
    let t = and_true (is_accepted k (slice_index_or ps first no_places)) (are_verified ps (first + 1) functions) h in
    let is : k ≡ g = cc in
    subst (λ (i : ℕ). Accepted g (slice_index_or ps i no_places)) (sym (add-zero first))
    (subst (λ (l : TacFunctionTree). Accepted l (slice_index_or ps first no_places)) is (accepted_say k (slice_index_or ps first no_places) t.0))
verified_say ps first (k ∷ functions) h (suc f) g e =
    let t = and_true (is_accepted k (slice_index_or ps first no_places)) (are_verified ps (first + 1) functions) h in
    let moved : first + 1 + f ≡ first + suc f = omega arith in
    subst (λ (i : ℕ). Accepted g (slice_index_or ps i no_places)) moved (verified_say ps (first + 1) functions t.1 f g e)

verified_pass : (ps : List PlacesTree) (first : ℕ) (functions : List TacFunctionTree) → IsAcceptedFrom ps first functions → are_verified ps first functions ≡ true
verified_pass ps first [] h = refl
verified_pass ps first (k ∷ functions) h =
    both_true (is_accepted k (slice_index_or ps first no_places)) (are_verified ps (first + 1) functions)
    (accepted_pass k (slice_index_or ps first no_places)
    (subst (λ (i : ℕ). Accepted k (slice_index_or ps i no_places)) (add-zero first) (h zero k refl)))
    (verified_pass ps (first + 1) functions
    (λ f g e.
    let moved : first + suc f ≡ first + 1 + f = omega arith in
    subst (λ (i : ℕ). Accepted g (slice_index_or ps i no_places)) moved (h (suc f) g e)))

pub verified_accepted : (u : TacUnitTree) (ps : List PlacesTree) → are_verified ps 0 u.functions ≡ true → AreAccepted u ps
verified_accepted u ps h f g e =
    subst (λ (i : ℕ). Accepted g (slice_index_or ps i no_places)) (zero-add f) (verified_say ps 0 u.functions h f g e)

pub accepted_verified : (u : TacUnitTree) (ps : List PlacesTree) → AreAccepted u ps → are_verified ps 0 u.functions ≡ true
accepted_verified u ps h =
    verified_pass ps 0 u.functions (λ f g e. subst (λ (i : ℕ). Accepted g (slice_index_or ps i no_places)) (sym (zero-add f)) (h f g e))

pub verified_keep : (u : TacUnitTree) (ps : List PlacesTree) → are_verified ps 0 u.functions ≡ true → KeepsRuns u ps
verified_keep u ps h = places_keep_runs u ps (verified_accepted u ps h)

-- ---- a function whose places are missing

pub missing_places : (f : TacFunctionTree) → are_own_slots [] f.temporaries ≡ is_accepted f no_places
missing_places f = by (0 == f.temporaries) refl
  where
    neither : (a b c : Bool) → a ≡ false → b ≡ false → c ≡ false → a ≡ (b || c)
    neither a b c h k l = h ∙ sym (ap (λ d. d || c) k ∙ l)

    by : (b : Bool) → (0 == f.temporaries) ≡ b → are_own_slots [] f.temporaries ≡ is_accepted f no_places
    by true e =
        let own : are_own_slots [] f.temporaries ≡ true = ap (λ b. b && true) e in
        own ∙ sym (or_left (are_own_slots [] f.temporaries) (keeps_values f no_places) own)
    by false e =
        let own : are_own_slots [] f.temporaries ≡ false = ap (λ b. b && true) e in
        neither (are_own_slots [] f.temporaries) (are_own_slots [] f.temporaries) (keeps_values f no_places) own own
        (five_fail (0 == f.temporaries) (0 == length f.code) (is_entry_apart f.parameters [] (slice_get f.code 0) (after [] 0)) (keeps_from f.code [] [] 0 f.code) (all_stand []) e)

-- ---- packed places of all functions

pub packed_accepted : (u : TacUnitTree) (ps : List PlacesTree) → ArePacked u ps → AreAccepted u ps
packed_accepted u ps h f g e = keep_values (h f g e).keep_values

pub none_packed : (functions : List TacFunctionTree) (ps : List PlacesTree) → functions ≡ [] → ps ≡ [] → AllPacked functions ps
none_packed functions ps d e = subst (λ (fs : List TacFunctionTree). AllPacked fs ps) (sym d) (subst (λ (l : List PlacesTree). AllPacked [] l) (sym e) none)

packed_push : (functions : List TacFunctionTree) (ps : List PlacesTree) (f : TacFunctionTree) (p : PlacesTree) → AllPacked functions ps → Packed f p → AllPacked (functions ++ f ∷ []) (ps ++ p ∷ [])
packed_push [] [] f p none h = more f p [] [] h none
packed_push [] (q ∷ ps) f p all h = elim all [ ]
packed_push (g ∷ functions) [] f p all h = elim all [ ]
packed_push (g ∷ functions) (q ∷ ps) f p (more _ _ _ _ k rest) h = more g q (functions ++ f ∷ []) (ps ++ p ∷ []) k (packed_push functions ps f p rest h)

-- the loop over them
pub packed_more :
    (functions : List TacFunction) (k : ℕ) (f : TacFunction) (all now : List Places) (places : Places) → k < length functions
    → f ≡ slice_index_or functions k f → now ≡ all ++ places ∷ [] → Packed (function_tree f) (places_tree places)
    → AllPacked (map function_tree (take k functions)) (map places_tree all)
    → AllPacked (map function_tree (take (k + 1) functions)) (map places_tree now)
packed_more functions k f all now places l is e h rest =
    let first : map function_tree (take (k + 1) functions) ≡ map function_tree (take k functions) ++ function_tree f ∷ [] =
    ap (map function_tree) (take_more functions k f l) ∙ map-append function_tree (take k functions) (slice_index_or functions k f ∷ [])
    ∙ ap (λ (g : TacFunction). map function_tree (take k functions) ++ function_tree g ∷ []) (sym is) in
    let second : map places_tree now ≡ map places_tree all ++ places_tree places ∷ [] = ap (map places_tree) e ∙ map-append places_tree all (places ∷ []) in
    subst (λ (fs : List TacFunctionTree). AllPacked fs (map places_tree now)) (sym first)
    (subst (λ (l : List PlacesTree). AllPacked (map function_tree (take k functions) ++ function_tree f ∷ []) l) (sym second)
    (packed_push (map function_tree (take k functions)) (map places_tree all) (function_tree f) (places_tree places) rest h))

pub packed_each : (functions : List TacFunctionTree) (ps : List PlacesTree) → AllPacked functions ps → (f : ℕ) (g : TacFunctionTree) → slice_get functions f ≡ Some g → Packed g (slice_index_or ps f no_places)
packed_each [] [] none f g e = absurd cc
packed_each [] (p ∷ ps) all f g e = elim all [ ]
packed_each (h ∷ functions) [] all f g e = elim all [ ]
packed_each (h ∷ functions) (p ∷ ps) (more _ _ _ _ k rest) zero g e = let is : h ≡ g = cc in subst (λ (l : TacFunctionTree). Packed l p) is k
packed_each (h ∷ functions) (p ∷ ps) (more _ _ _ _ k rest) (suc f) g e = packed_each functions ps rest f g e

pub packed_count : (functions : List TacFunctionTree) (ps : List PlacesTree) → AllPacked functions ps → length ps ≡ length functions
packed_count [] [] none = refl
packed_count [] (p ∷ ps) all = elim all [ ]
packed_count (h ∷ functions) [] all = elim all [ ]
packed_count (h ∷ functions) (p ∷ ps) (more _ _ _ _ k rest) = ap suc (packed_count functions ps rest)
