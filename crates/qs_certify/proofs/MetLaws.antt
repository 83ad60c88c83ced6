-- What is told of entries and cycles is of functions of the unit.
use Rattle.std.proofs.Common.{◌≡◌, ℕ, ◌<◌, ◌==◌, true, false, List, [], ◌∷◌, length, Option, Some, None, refl, sym, ap, ◌∙◌, subst}
use Rattle.std.specs.Prelude.{is_some}
use Rattle.std.proofs.lemmas.Bool.{both_ways, or_right}
use Rattle.std.proofs.lemmas.Option.{same_Some}
use Rattle.qs_core.specs.Fits.{unit_fits}
use Rattle.qs_core.specs.Trees.{CoreUnitTree}
use Rattle.qs_core.specs.CallGraph.{is_member}
use Rattle.qs_triples.specs.Derivations.{EntryTree, ProofsTree, entry_of}
use Rattle.qs_triples.specs.Entries.{has_entry, function_fault_for}
use Rattle.qs_triples.specs.Filled.{Filled}
use Rattle.qs_triples.specs.Rules as rules
use Rattle.qs_triples.specs.Rules.{no_spec, bad_order}
use Rattle.qs_triples.specs.Told.{IsDue}
use Rattle.qs_triples.specs.declared.fault.DerivFault.{DerivFault}
use Rattle.qs_triples.specs.declared.fault.DerivFault.TheVariants as faults
use Rattle.qs_triples.specs.declared.resource.Resource.{Resource}
use Rattle.qs_triples.specs.declared.resource.Resource.TheVariants.{Stack}
use Rattle.qs_callgraph.specs.CallLists.{numbers}
use Rattle.qs_callgraph.proofs.MemberLaws.{member_first}
use Rattle.qs_callgraph.proofs.OrderLaws.{circle_known}
use Rattle.qs_analyse.specs.Fillable.{entry_functions}
use Rattle.qs_analyse.proofs.MeetLaws.{is_met, given_stays, met_fault}
use Rattle.qs_certify.specs.Entries.{EntryFault, fault_or_next, first_fault_for, IsMet}
use Rattle.qs_certify.specs.Certification.{IsNotDerived, CannotComplete, IsTextFault, ToldOfFunctions}
use Rattle.qs_certify.specs.Laws.{FaultsAreOfFunctions}
use Rattle.qs_certify.specs.declared.fault.CertifyFault.{CertifyFault}
use Rattle.qs_certify.specs.declared.fault.CertifyFault.TheVariants.{NoMemory, Text, Cycle, Order, Entry}
use Rattle.qs_certify.proofs.CompletedLaws.{has_member}

-- ---- the first entry that isn't derived

-- a fault of this function, which is one of these
pub record IsOne (resource : Resource) (u : CoreUnitTree) (proofs : ProofsTree) (fs : List ℕ) (f : ℕ) (fault : rules.DerivFault) : Type 0 where
  pub is : function_fault_for resource u proofs f ≡ Some fault
  pub there : is_member f fs ≡ true

pub first_is_one : (resource : Resource) (u : CoreUnitTree) (proofs : ProofsTree) (fs : List ℕ) (e : EntryFault) → first_fault_for resource u proofs fs ≡ Some e → IsOne resource u proofs fs e.function e.fault
first_is_one resource u proofs [] e h = cc
first_is_one resource u proofs (g ∷ fs) e h = by (function_fault_for resource u proofs g) refl h (first_is_one resource u proofs fs e)
  where
    by :
        (o : Option rules.DerivFault) → function_fault_for resource u proofs g ≡ o → fault_or_next g o (first_fault_for resource u proofs fs) ≡ Some e
        → (first_fault_for resource u proofs fs ≡ Some e → IsOne resource u proofs fs e.function e.fault) → IsOne resource u proofs (g ∷ fs) e.function e.fault
    by None is h others = let one = others h in record { is = one.is; there = or_right (g == e.function) (is_member e.function fs) one.there }
    by (Some d) is h others =
        let same = same_Some (record { function = g; fault = d }) e h in
        subst (λ (x : EntryFault). IsOne resource u proofs (g ∷ fs) x.function x.fault) same (record { is = is; there = member_first g fs })

pub some_entry : (o : Option EntryTree) → is_some o ≡ true → (e : EntryTree) × (o ≡ Some e)
some_entry None h = cc
some_entry (Some e) h = (e, refl)

-- what has an entry in the file has the same function in all proofs
pub given_known : (u : CoreUnitTree) (given proofs : ProofsTree) → Filled u given proofs → (f : ℕ) → has_entry given f ≡ true → f < length u.functions
given_known u given proofs filled f has =
    let e = some_entry (entry_of proofs f) (given_stays u given proofs filled f has) in filled.known e.0 f e.1

-- ---- faults that are met

pub told_met : (told : DerivFault) (fault : rules.DerivFault) → IsDue told (Some fault) → is_met fault ≡ true → IsMet told
told_met faults.NoMemory fault h m = tt
told_met (faults.Shape path) fault h m = tt
told_met (faults.Mentions place g x) fault h m = tt
told_met (faults.Cert path cert) fault h m = tt
told_met (faults.NoSpec path g) fault h m =
    let same : fault ≡ no_spec path.items g.0 = same_Some fault (no_spec path.items g.0) h in both_ways false refl (sym (ap is_met same) ∙ m)
told_met (faults.Entry cert) fault h m = tt
told_met (faults.BadOrder d) fault h m =
    let same : fault ≡ bad_order d = same_Some fault (bad_order d) h in both_ways false refl (sym (ap is_met same) ∙ m)

-- ---- what is told

entry_told_of : (u : CoreUnitTree) → unit_fits u ≡ true → (given : ProofsTree) (f : ℕ) (told : DerivFault) → IsNotDerived u given f told → (f < length u.functions) × IsMet told
entry_told_of u fits given f told h =
    let filled = h.all.filled in
    let one = first_is_one Stack u h.proofs (entry_functions given.functions) (record { function = f; fault = h.first.fault }) h.first.first in (
      given_known u given h.proofs filled f (has_member given f ∙ one.there),
      told_met told h.first.fault h.first.is_told (met_fault u fits given h.proofs filled h.in_order f h.first.fault one.is),
    )

pub told_of_text : (u : CoreUnitTree) (file : Option (List ℕ)) (fault : CertifyFault) → IsTextFault u file fault → ToldOfFunctions u fault
told_of_text u file NoMemory h = tt
told_of_text u file (Text fault) h = tt
told_of_text u file (Cycle fs) h = absurd h
told_of_text u file (Order name) h = absurd h
told_of_text u file (Entry f fault) h = absurd h

pub told_of_rest : (u : CoreUnitTree) → unit_fits u ≡ true → (given : ProofsTree) (fault : CertifyFault) → CannotComplete u given fault → ToldOfFunctions u fault
told_of_rest u fits given NoMemory h = tt
told_of_rest u fits given (Text fault) h = tt
told_of_rest u fits given (Cycle fs) h = λ f m. circle_known u (numbers fs.items) f h.circle m
told_of_rest u fits given (Order name) h = tt
told_of_rest u fits given (Entry f fault) h = entry_told_of u fits given f.0 fault h

pub faults_are_of_functions : FaultsAreOfFunctions
faults_are_of_functions u file NoMemory fits h = tt
faults_are_of_functions u file (Text fault) fits h = tt
faults_are_of_functions u file (Cycle fs) fits h = told_of_rest u fits h.given (Cycle fs) h.so
faults_are_of_functions u file (Order name) fits h = tt
faults_are_of_functions u file (Entry f fault) fits h = told_of_rest u fits h.given (Entry f fault) h.so

pub ruleset met_faults = (told_of_text, told_of_rest)
