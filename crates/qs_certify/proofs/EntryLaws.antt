-- The first entry that isn't derived.
use Rattle.std.proofs.Common.{◌≡◌, ℕ, ◌+◌, ◌<◌, List, [], ◌∷◌, length, drop, get_or, Option, Some, None, refl, sym, ap, ◌∙◌}
use Rattle.std.proofs.lemmas.List.{drop_more}
use Rattle.qs_base.specs.declared.function.FnId.{FnId}
use Rattle.qs_core.specs.Trees.{CoreUnitTree}
use Rattle.qs_entail.specs.declared.fault.CertFault.{CertFault}
use Rattle.qs_entail.specs.declared.fault.CertFault.TheVariants as certs
use Rattle.qs_entail.specs.Faults as certificates
use Rattle.qs_triples.specs.Derivations.{ProofsTree}
use Rattle.qs_triples.specs.Entries.{function_fault_for}
use Rattle.qs_triples.specs.Rules as rules
use Rattle.qs_triples.specs.Rules.{certificate, entry}
use Rattle.qs_triples.specs.Told.{IsDue, IsOfCertificate}
use Rattle.qs_triples.specs.declared.fault.DerivFault.{DerivFault}
use Rattle.qs_triples.specs.declared.fault.DerivFault.TheVariants as faults
use Rattle.qs_triples.specs.declared.resource.Resource.{Resource}
use Rattle.qs_callgraph.specs.CallLists.{numbers}
use Rattle.qs_certify.specs.Entries.{EntryFault, fault_or_next, first_fault_for, IsFault, IsFirstFaultFor, entry_told, IsEntryFaultFor}
use Rattle.qs_certify.specs.declared.fault.CertifyFault.{CertifyFault}
use Rattle.qs_certify.specs.declared.fault.CertifyFault.TheVariants.{NoMemory, Text, Cycle, Order, Entry}

-- ---- what is due

record Due (told : DerivFault) (due : Option rules.DerivFault) : Type 0 where
  fault : rules.DerivFault
  is : due ≡ Some fault
  is_told : IsDue told (Some fault)

of_certificate :
    (there : certificates.CertFault → rules.DerivFault) (fault : CertFault) (due : Option rules.DerivFault) → IsOfCertificate there fault due
    → (d : rules.DerivFault) × ((due ≡ Some d) × IsOfCertificate there fault (Some d))
of_certificate there certs.NoMemory due h = absurd h
of_certificate there (certs.Step path rule) due h = (there (certificates.step path.items rule), (h, refl))
of_certificate there (certs.Limit path l) due h = (_, (h, refl))

due_there : (told : DerivFault) (due : Option rules.DerivFault) → IsFault told → IsDue told due → Due told due
due_there faults.NoMemory due f h = absurd f
due_there (faults.Shape path) due f h = record { fault = _; is = h; is_told = refl }
due_there (faults.Mentions place g x) due f h = record { fault = _; is = h; is_told = refl }
due_there (faults.Cert path fault) due f h = let c = of_certificate (certificate path.items) fault due h in record { fault = c.0; is = c.1.0; is_told = c.1.1 }
due_there (faults.NoSpec path g) due f h = record { fault = _; is = h; is_told = refl }
due_there (faults.Entry fault) due f h = let c = of_certificate entry fault due h in record { fault = c.0; is = c.1.0; is_told = c.1.1 }
due_there (faults.BadOrder d) due f h = record { fault = _; is = h; is_told = refl }

-- ---- one function

pub one_derived : (resource : Resource) (u : CoreUnitTree) (proofs : ProofsTree) (f : ℕ) → function_fault_for resource u proofs f ≡ None → first_fault_for resource u proofs (f ∷ []) ≡ None
one_derived resource u proofs f h = ap (λ (o : Option rules.DerivFault). fault_or_next f o None) h

first_of_one : (resource : Resource) (u : CoreUnitTree) (proofs : ProofsTree) (f : ℕ) (told : DerivFault) → IsFault told → IsDue told (function_fault_for resource u proofs f) → IsFirstFaultFor resource u proofs (f ∷ []) f told
first_of_one resource u proofs f told is h =
    let d = due_there told (function_fault_for resource u proofs f) is h in
    record { fault = d.fault; first = ap (λ (o : Option rules.DerivFault). fault_or_next f o None) d.is; is_fault = is; is_told = d.is_told }

pub one_told : (resource : Resource) (u : CoreUnitTree) (proofs : ProofsTree) (f : FnId) (told : DerivFault) → IsDue told (function_fault_for resource u proofs f.0) → IsEntryFaultFor resource u proofs (f.0 ∷ []) (entry_told f told)
one_told resource u proofs f faults.NoMemory h = tt
one_told resource u proofs f (faults.Shape path) h = first_of_one resource u proofs f.0 (faults.Shape path) tt h
one_told resource u proofs f (faults.Mentions place g x) h = first_of_one resource u proofs f.0 (faults.Mentions place g x) tt h
one_told resource u proofs f (faults.Cert path fault) h = first_of_one resource u proofs f.0 (faults.Cert path fault) tt h
one_told resource u proofs f (faults.NoSpec path g) h = first_of_one resource u proofs f.0 (faults.NoSpec path g) tt h
one_told resource u proofs f (faults.Entry fault) h = first_of_one resource u proofs f.0 (faults.Entry fault) tt h
one_told resource u proofs f (faults.BadOrder d) h = first_of_one resource u proofs f.0 (faults.BadOrder d) tt h

-- ---- one after another

next_when : (f : ℕ) (o : Option rules.DerivFault) (next : Option EntryFault) → fault_or_next f o None ≡ None → fault_or_next f o next ≡ next
next_when f None next h = refl
next_when f (Some d) next h = cc

first_when : (f : ℕ) (o : Option rules.DerivFault) (next : Option EntryFault) (e : EntryFault) → fault_or_next f o None ≡ Some e → fault_or_next f o next ≡ Some e
first_when f None next e h = cc
first_when f (Some d) next e h = h

first_entry : (resource : Resource) (u : CoreUnitTree) (proofs : ProofsTree) (f : ℕ) (fs : List ℕ) (fault : CertifyFault) → IsEntryFaultFor resource u proofs (f ∷ []) fault → IsEntryFaultFor resource u proofs (f ∷ fs) fault
first_entry resource u proofs f fs NoMemory h = tt
first_entry resource u proofs f fs (Text fault) h = h
first_entry resource u proofs f fs (Cycle gs) h = h
first_entry resource u proofs f fs (Order name) h = h
first_entry resource u proofs f fs (Entry g told) h = record {
  fault = h.fault;
  first = first_when f (function_fault_for resource u proofs f) (first_fault_for resource u proofs fs) _ h.first;
  is_fault = h.is_fault;
  is_told = h.is_told;
}

same_first : (resource : Resource) (u : CoreUnitTree) (proofs : ProofsTree) (fs gs : List ℕ) (fault : CertifyFault) → first_fault_for resource u proofs fs ≡ first_fault_for resource u proofs gs → IsEntryFaultFor resource u proofs fs fault → IsEntryFaultFor resource u proofs gs fault
same_first resource u proofs fs gs NoMemory e h = tt
same_first resource u proofs fs gs (Text fault) e h = h
same_first resource u proofs fs gs (Cycle hs) e h = h
same_first resource u proofs fs gs (Order name) e h = h
same_first resource u proofs fs gs (Entry g told) e h = record { fault = h.fault; first = sym e ∙ h.first; is_fault = h.is_fault; is_told = h.is_told }

-- the function at this place
at_place : (fs : List FnId) (i : ℕ) (d : FnId) → i < length fs → numbers (drop i fs) ≡ (get_or fs i d).0 ∷ numbers (drop (i + 1) fs)
at_place fs i d b = ap numbers (drop_more fs i d b)

-- behind a function whose entry is derived
pub goes_on :
    (resource : Resource) (u : CoreUnitTree) (proofs : ProofsTree) (fs : List FnId) (i : ℕ) (d : FnId) → i < length fs
    → first_fault_for resource u proofs (numbers (drop i fs)) ≡ first_fault_for resource u proofs (numbers fs)
    → first_fault_for resource u proofs ((get_or fs i d).0 ∷ []) ≡ None
    → first_fault_for resource u proofs (numbers (drop (i + 1) fs)) ≡ first_fault_for resource u proofs (numbers fs)
goes_on resource u proofs fs i d b same derived =
    sym (next_when (get_or fs i d).0 (function_fault_for resource u proofs (get_or fs i d).0) (first_fault_for resource u proofs (numbers (drop (i + 1) fs))) derived)
    ∙ sym (ap (first_fault_for resource u proofs) (at_place fs i d b)) ∙ same

-- at one whose entry isn't
pub ends_at :
    (resource : Resource) (u : CoreUnitTree) (proofs : ProofsTree) (fs : List FnId) (i : ℕ) (d : FnId) (fault : CertifyFault) → i < length fs
    → first_fault_for resource u proofs (numbers (drop i fs)) ≡ first_fault_for resource u proofs (numbers fs)
    → IsEntryFaultFor resource u proofs ((get_or fs i d).0 ∷ []) fault
    → IsEntryFaultFor resource u proofs (numbers fs) fault
ends_at resource u proofs fs i d fault b same h =
    same_first resource u proofs ((get_or fs i d).0 ∷ numbers (drop (i + 1) fs)) (numbers fs) fault
    (sym (ap (first_fault_for resource u proofs) (at_place fs i d b)) ∙ same)
    (first_entry resource u proofs (get_or fs i d).0 (numbers (drop (i + 1) fs)) fault h)
