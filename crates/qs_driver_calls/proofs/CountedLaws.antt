-- What the code shows of the proofs of a file.
use Rattle.std.proofs.Common.{◌≡◌, ℕ, ◌<◌, true, List, Some, Result, Ok, Err, refl, sym, subst, inl, inr}
use Rattle.std.specs.Prelude.{length}
use Rattle.std.proofs.lemmas.Option.{slice_get_within}
use Rattle.qs_core.specs.FunctionNames.{function_name}
use Rattle.qs_core.specs.Fits.{unit_fits}
use Rattle.qs_core.specs.Trees.{CoreUnitTree}
use Rattle.qs_callgraph.proofs.UnitCalls.{calls_within}
use Rattle.qs_triples.specs.Derivations.{ProofsTree}
use Rattle.qs_triples.specs.declared.resource.Resource.TheVariants.{Calls}
use Rattle.qs_certify.specs.Certification.{IsTextFault}
use Rattle.qs_certify.specs.Given.{GivenIs}
use Rattle.qs_certify.specs.declared.fault.CertifyFault.{CertifyFault}
use Rattle.qs_certify.specs.declared.fault.CertifyFault.TheVariants as faults
use Rattle.qs_certify.proofs.MainLaws.{main_there}
use Rattle.qs_count.specs.Counted.{AreAllCounted, AreNotCounted}
use Rattle.qs_count.specs.Covered.{IsCovered, IsFirstMissing, NeedsEntry}
use Rattle.qs_ports.specs.StoreView.{StoreView}
use Rattle.qs_driver_steps.specs.Runs.{Halts, Halted, Passes, Passed, TakesAll}
use Rattle.qs_driver_steps.specs.Steps.{Step, Steps, first}
use Rattle.qs_driver_session.specs.Statuses.{tool}
use Rattle.qs_driver_session.specs.Told.{place_of}
use Rattle.qs_driver_session.specs.declared.status.ProofFault.{ProofFault}
use Rattle.qs_driver_session.specs.declared.status.ProofFault.TheVariants.{Text, Order, Entry}
use Rattle.qs_driver_session.specs.declared.status.Status.{Status}
use Rattle.qs_driver_session.specs.declared.status.Status.TheVariants.{Proof}
use Rattle.qs_driver_proofs.specs.Refusals.{Tells, TellsFault}
use Rattle.qs_driver_proofs.specs.Steps.{reading_proofs, LacksDerivation}
use Rattle.qs_driver_proofs.proofs.StepsLaws.{is_given, wrong_text, no_proofs_memory}
use Rattle.qs_driver_proofs.proofs.ToldPlaces.{told_by}
use Rattle.qs_driver_calls.specs.Answers.{IsEntryWanted}
use Rattle.qs_driver_calls.specs.Calls.{entry_wanted, having_entries, ordering, counting, of_entries, of_given, counted_proofs}
use Rattle.qs_driver_calls.proofs.CallsSteps.{have_entries, entry_lacks, no_name_memory, are_ordered, out_of_order, no_check_memory, are_counted, uncounted}

-- ---- a step that passes, and those behind it

takes_behind : {A B : Type 0} (s : Step tool) (rest : s.Found → Steps tool B) (found : A → B) (v : StoreView) (y : s.Found) (result : Result A Status) → Passes s v v y → TakesAll (rest y) found v v result → TakesAll (first s rest) found v v result
takes_behind s rest found v y (Ok a) p h = (v, y, p, h)
takes_behind s rest found v y (Err status) p h = inr (v, y, p, h)

-- ---- the entries

module _ (core : CoreUnitTree) (given : ProofsTree) (v : StoreView) where
  pub entries_pass : AreAllCounted core given → Passed (of_entries core given) v v given
  entries_pass all = (v, tt, are_ordered given v all.in_order, (v, tt, are_counted core given v all.counted, (refl, refl)))

  of_status : (told : ProofFault) (status : Status) → Halted (of_entries core given) v v (Proof told) → status ≡ Proof told → Halted (of_entries core given) v v status
  of_status told status h e = subst (λ (x : Status). Halted (of_entries core given) v v x) (sym e) h

  -- the cause is told at its step
  told_halts : (text : List ℕ) (fault : CertifyFault) (told : ProofFault) → AreNotCounted core given fault → Tells core (Some text) fault told → Halted (of_entries core given) v v (Proof told)
  told_halts text faults.NoMemory told wrong t = absurd t
  told_halts text (faults.Text fault) told wrong t = absurd wrong
  told_halts text (faults.Cycle fs) told wrong t = absurd wrong
  told_halts text (faults.Order name) told wrong e =
      let halts : Halts (ordering given) v v (Proof (Order name)) = out_of_order given v name wrong in
      inl (subst (λ (x : ProofFault). Halts (ordering given) v v (Proof x)) (sym e) halts)
  told_halts text (faults.Entry f fault) told wrong (spot, what, e, t) =
      let found = wrong.first in
      let by = told_by core f.0 fault found.fault spot what found.is_told t in
      let lacks : LacksDerivation Calls core given given (function_name core f.0) (place_of spot) what = record { function = f.0; fault = found.fault; named = refl; first = found.first; place_is = by.place; wrong_is = by.wrong } in
      let halts : Halts (counting core given) v v (Proof (Entry (function_name core f.0) spot what)) = uncounted core given v (record { function = function_name core f.0; spot = spot; wrong = what }) lacks in
      inr (v, tt, are_ordered given v wrong.in_order, inl (subst (λ (x : ProofFault). Halts (counting core given) v v (Proof x)) (sym e) halts))

  pub entries_halt : (text : List ℕ) (fault : CertifyFault) (status : Status) → AreNotCounted core given fault → TellsFault core (Some text) fault status → Halted (of_entries core given) v v status
  entries_halt text fault status wrong (inl e) = subst (λ (x : Status). Halted (of_entries core given) v v x) (sym e) (inl (no_check_memory given v))
  entries_halt text fault status wrong (inr (told, e, t)) = of_status told status (told_halts text fault told wrong t) e

  -- ---- a function without an entry

  pub wanting_halts : (f : ℕ) (status : Status) → IsFirstMissing core given f → IsEntryWanted core f status → Halted (of_given core given) v v status
  wanting_halts f status missing (inl e) = subst (λ (x : Status). Halted (of_given core given) v v x) (sym e) (inl (no_name_memory core given v))
  wanting_halts f status missing (inr e) =
      let halts : Halts (having_entries core given) v v (entry_wanted (function_name core f)) = entry_lacks core given v (function_name core f) (record { function = f; named = refl; first = missing }) in
      subst (λ (x : Status). Halted (of_given core given) v v x) (sym e) (inl halts)

  pub behind_entries : {A : Type 0} (found : A → ProofsTree) (result : Result A Status) → IsCovered core given → TakesAll (of_entries core given) found v v result → TakesAll (of_given core given) found v v result
  behind_entries found result covered h = takes_behind (having_entries core given) (λ u. of_entries core given) found v tt result (have_entries core given v covered) h

-- a function that needs an entry is one of the unit's
pub needed_within : (core : CoreUnitTree) → unit_fits core ≡ true → (given : ProofsTree) (f : ℕ) → NeedsEntry core given f → f < length core.functions
needed_within core fits given f (inl is) =
    let main = main_there core fits in
    subst (λ (g : ℕ). g < length core.functions) is (slice_get_within core.functions core.main main.function main.is)
needed_within core fits given f (inr has) = calls_within core has.caller f fits has.calls

-- ---- the text

module _ (core : CoreUnitTree) (text : List ℕ) (v : StoreView) where
  text_told : (fault : CertifyFault) (told : ProofFault) → IsTextFault core (Some text) fault → Tells core (Some text) fault told → Halts (reading_proofs core (Some text)) v v (Proof told)
  text_told faults.NoMemory told cause t = absurd t
  text_told (faults.Text fault) told cause (pos, e, place) =
      let halts : Halts (reading_proofs core (Some text)) v v (Proof (Text fault pos)) = wrong_text core (Some text) v (record { fault = fault; pos = pos }) (record { first = cause; place = place }) in
      subst (λ (x : ProofFault). Halts (reading_proofs core (Some text)) v v (Proof x)) (sym e) halts
  text_told (faults.Cycle fs) told cause t = absurd cause
  text_told (faults.Order name) told cause t = absurd cause
  text_told (faults.Entry f fault) told cause t = absurd cause

  pub text_halts : (fault : CertifyFault) (status : Status) → IsTextFault core (Some text) fault → TellsFault core (Some text) fault status → Halted (counted_proofs core text) v v status
  text_halts fault status cause (inl e) = subst (λ (x : Status). Halted (counted_proofs core text) v v x) (sym e) (inl (no_proofs_memory core (Some text) v))
  text_halts fault status cause (inr (told, e, t)) = subst (λ (x : Status). Halted (counted_proofs core text) v v x) (sym e) (inl (text_told fault told cause t))

  pub behind_text : {A : Type 0} (given : ProofsTree) (found : A → ProofsTree) (result : Result A Status) → GivenIs core (Some text) given → TakesAll (of_given core given) found v v result → TakesAll (counted_proofs core text) found v v result
  behind_text given found result is h = takes_behind (reading_proofs core (Some text)) (of_given core) found v given result (is_given core (Some text) v given is) h
