-- What is certified without a file is right as the proofs of a file.
use Rattle.std.proofs.Common.{◌≡◌, ℕ, ◌<◌, ◌==◌, ◌||◌, Bool, true, false, cond, List, [], ◌∷◌, filter, length, None, is_some, refl, sym, ap, ◌∙◌, subst}
use Rattle.std.specs.List.{list_any}
use Rattle.std.proofs.lemmas.Bool.{both_ways, or_right}
use Rattle.std.proofs.lemmas.Option.{same_Some}
use Rattle.qs_core.specs.CallGraph.{HasCall, no_call, is_member}
use Rattle.qs_core.specs.Trees.{CoreUnitTree}
use Rattle.qs_triples.specs.Derivations.{EntryTree, ProofsTree}
use Rattle.qs_triples.specs.Entries.{has_entry, IsDerived}
use Rattle.qs_triples.specs.Filled.{Filled}
use Rattle.qs_callgraph.proofs.MemberLaws.{member_first}
use Rattle.qs_callgraph.proofs.UnitCalls.{has_caller}
use Rattle.qs_analyse.specs.Fillable.{entry_functions}
use Rattle.qs_analyse.specs.Laws.{GivenAreDerived, HasNoCycle}
use Rattle.qs_certify.specs.Certification.{IsCertified}
use Rattle.qs_certify.specs.Laws.{AddedIsRight}
use Rattle.qs_certify.proofs.CompletedLaws.{has_member}
use Rattle.qs_certify.proofs.OneLaws.{all_are_derived}
use Rattle.qs_certify.proofs.SameFillings.{one_filling_is_enough}

-- what holds of the function of each entry keeps each entry
all_kept :
    (p : ℕ → Bool) (es : List EntryTree) → ((f : ℕ) → is_member f (entry_functions es) ≡ true → p f ≡ true)
    → filter (λ (e : EntryTree). p e.function) es ≡ es
all_kept p [] holds = refl
all_kept p (e ∷ es) holds =
    let others = filter (λ (d : EntryTree). p d.function) es in
    ap (λ (b : Bool). cond b (e ∷ others) others) (holds e.function (member_first e.function (entry_functions es)))
    ∙ ap (λ (ds : List EntryTree). e ∷ ds)
    (all_kept p es (λ f m. holds f (or_right (e.function == f) (is_member f (entry_functions es)) m)))

module _ (u : CoreUnitTree) (given proofs : ProofsTree) (c : IsCertified u None given proofs) where
  has : (f : ℕ) → f < length u.functions → has_entry proofs f ≡ true
  has f within = ap is_some (all_are_derived u given proofs f c within).stands

  not_without : (f : ℕ) → f < length u.functions → has_entry proofs f ≡ false → ⊥
  not_without f within none = both_ways (has_entry proofs f) none (has f within)

  -- a cycle begins with a function that calls, so with one of the unit
  begins : (f g : ℕ) (fs : List ℕ) → HasCall u f g → list_any (has_entry proofs) (f ∷ fs) ≡ false → ⊥
  begins f g fs calls none =
      both_ways (list_any (has_entry proofs) (f ∷ fs)) none
      (ap (λ (b : Bool). b || list_any (has_entry proofs) fs) (has f (has_caller u f g calls)))

  no_cycle : HasNoCycle u proofs
  no_cycle [] k = k.circle
  no_cycle (f ∷ []) k = begins f f [] k.circle k.none
  no_cycle (f ∷ g ∷ fs) k = begins f g (g ∷ fs) k.circle.0 k.none

  -- nothing is left to be added
  fills_itself : Filled u proofs proofs
  fills_itself = record {
    opened = [];
    are_open = record {
      open_ones = λ f m. absurd (both_ways false refl m);
      all_there = λ f o. absurd (not_without f o.known (o.none f (no_call f)));
      in_order = tt;
    };
    defines = refl;
    kept = all_kept (has_entry proofs) proofs.functions (λ f m. has_member proofs f ∙ m);
    one = λ f within none. absurd (not_without f within none);
    known = c.all.filled.known;
    of_open = λ f e m is. absurd (both_ways false refl m);
    of_others = λ f e none m is. absurd (both_ways (has_entry proofs f) none (ap is_some is));
  }

  each_derived : GivenAreDerived u proofs proofs
  each_derived f e within there is =
      let own = all_are_derived u given proofs f c within in
      subst (λ (d : EntryTree). IsDerived u proofs d) (same_Some own.entry_tree e (sym own.stands ∙ is)) own.derived

pub added_is_right : AddedIsRight
added_is_right u given proofs fits c =
    one_filling_is_enough u proofs proofs fits (no_cycle u given proofs c) (fills_itself u given proofs c) c.in_order
    (each_derived u given proofs c)
