-- What the entries of a file come to where calls are counted.
use Rattle.std.proofs.Common.{◌≡◌, ℕ, true, List, Some, None, refl, sym, ap, ◌∙◌, subst, inr}
use Rattle.std.specs.Prelude.{is_some, Option}
use Rattle.qs_base.specs.declared.function.FnId.{FnId}
use Rattle.qs_core.specs.CallGraph.{is_member}
use Rattle.qs_core.specs.Fits.{unit_fits}
use Rattle.qs_core.specs.Trees.{CoreUnitTree}
use Rattle.qs_callgraph.specs.CallLists.{numbers}
use Rattle.qs_triples.specs.Derivations.{EntryTree, ProofsTree, entry_of}
use Rattle.qs_triples.specs.Entries.{has_entry, fault_of_entry_for}
use Rattle.qs_triples.specs.declared.resource.Resource.TheVariants.{Calls}
use Rattle.qs_analyse.specs.Fillable.{IsFillable, entry_functions}
use Rattle.qs_analyse.proofs.MeetLaws.{met_fault_for}
use Rattle.qs_certify.specs.Certification.{AreRightFor, AreWrongFor, ToldOfFunctions}
use Rattle.qs_certify.specs.Entries.{first_fault_for}
use Rattle.qs_certify.specs.declared.fault.CertifyFault.{CertifyFault}
use Rattle.qs_certify.specs.declared.fault.CertifyFault.TheVariants.{NoMemory, Text, Cycle, Order, Entry}
use Rattle.qs_certify.proofs.CompletedLaws.{all_derived, has_member}
use Rattle.qs_certify.proofs.MetLaws.{first_is_one, some_entry, told_met}
use Rattle.qs_certify.proofs.RefusalLaws.{none_among}
use Rattle.qs_count.specs.Counted.{AreCounted, AreAllCounted, AreNotCounted}
use Rattle.qs_count.specs.Covered.{IsCovered}

-- ---- entries that are derived

-- none of them is the first that isn't
pub none_first : (u : CoreUnitTree) (proofs : ProofsTree) → AreCounted u proofs → first_fault_for Calls u proofs (entry_functions proofs.functions) ≡ None
none_first u proofs counted =
    none_among Calls u proofs (entry_functions proofs.functions)
    (λ f m.
    let e = some_entry (entry_of proofs f) (has_member proofs f ∙ m) in
    ap (fault_of_entry_for Calls u proofs) e.1 ∙ counted f e.0 e.1)

-- where none is the first that isn't, each is
pub are_counted : (u : CoreUnitTree) (proofs : ProofsTree) → first_fault_for Calls u proofs (entry_functions proofs.functions) ≡ None → AreCounted u proofs
are_counted u proofs none f e is =
    ap (fault_of_entry_for Calls u proofs) (sym is)
    ∙ all_derived Calls u proofs (entry_functions proofs.functions) f none (sym (has_member proofs f) ∙ ap is_some is)

-- ---- what the code finds

module _ (u : CoreUnitTree) (proofs : ProofsTree) (fs : List FnId) (are : numbers fs ≡ entry_functions proofs.functions) where
  pub all_counted : AreRightFor Calls u proofs (numbers fs) → AreAllCounted u proofs
  all_counted right = record {
    in_order = right.in_order;
    counted = are_counted u proofs (ap (first_fault_for Calls u proofs) (sym are) ∙ right.derived);
  }

  pub not_counted : (fault : CertifyFault) → AreWrongFor Calls u proofs (numbers fs) fault → AreNotCounted u proofs fault
  not_counted fault wrong = subst (λ (gs : List ℕ). AreWrongFor Calls u proofs gs fault) are wrong

-- what is told is of functions of the unit, and no fault that is never met
pub faults_of_functions : (u : CoreUnitTree) → unit_fits u ≡ true → (proofs : ProofsTree) → IsFillable u proofs → IsCovered u proofs → (fault : CertifyFault) → AreNotCounted u proofs fault → ToldOfFunctions u fault
faults_of_functions u fits proofs fillable covered NoMemory wrong = tt
faults_of_functions u fits proofs fillable covered (Text fault) wrong = absurd wrong
faults_of_functions u fits proofs fillable covered (Cycle fs) wrong = absurd wrong
faults_of_functions u fits proofs fillable covered (Order name) wrong = tt
faults_of_functions u fits proofs fillable covered (Entry f fault) wrong =
    let one = first_is_one Calls u proofs (entry_functions proofs.functions) (record { function = f.0; fault = wrong.first.fault }) wrong.first.first in
    let has : has_entry proofs f.0 ≡ true = has_member proofs f.0 ∙ one.there in
    let e = some_entry (entry_of proofs f.0) has in (
      fillable.known f.0 e.0 e.1,
      told_met fault wrong.first.fault wrong.first.is_told
          (met_fault_for Calls u fits proofs wrong.in_order f.0
          (λ g calls. covered g (inr (record { caller = f.0; has = has; calls = calls })))
          wrong.first.fault one.is),
    )

pub ruleset checked_entries = (all_counted, not_counted, faults_of_functions)
