-- What is filled, and whose entries of the file are derived, covers the unit.
use Rattle.std.proofs.Common.{◌≡◌, ℕ, ◌-◌, ◌≤◌, ◌==◌, ◌||◌, Bool, true, false, List, [], ◌∷◌, length, Option, Some, None, refl, sym, ap, ◌∙◌, subst, arith}
use Rattle.std.specs.List.{list_any}
use Rattle.std.proofs.lemmas.Bool.{eqb-true}
use Rattle.std.proofs.lemmas.List.{length-map}
use Rattle.std.proofs.lemmas.List.Sums.{length-filter, count_by-le-length}
use Rattle.qs_base.specs.declared.function.FnId.{FnId}
use Rattle.qs_core.specs.Fits.{unit_fits}
use Rattle.qs_core.specs.Trees.{CoreUnitTree}
use Rattle.qs_core.specs.CallGraph.{is_member}
use Rattle.qs_triples.specs.Derivations.{EntryTree, ProofsTree, is_entry_of}
use Rattle.qs_triples.specs.Entries.{has_entry, fault_of_entry, function_fault_for, Covers}
use Rattle.qs_triples.specs.Rules.{DerivFault}
use Rattle.qs_triples.specs.TreeOf.{entry_tree, proofs_tree}
use Rattle.qs_triples.specs.declared.derivation.Proofs.{Proofs}
use Rattle.qs_triples.specs.declared.resource.Resource.{Resource}
use Rattle.qs_triples.specs.declared.resource.Resource.TheVariants.{Stack}
use Rattle.qs_callgraph.specs.CallLists.{numbers}
use Rattle.qs_analyse.specs.Fillable.{IsFillable, entry_functions}
use Rattle.qs_analyse.specs.Laws.{GivenAreDerived}
use Rattle.qs_analyse.proofs.AddedLaws.{found}
use Rattle.qs_analyse.proofs.CoverLaws.{filled_proofs_cover}
use Rattle.qs_certify.specs.Entries.{EntryFault, fault_or_next, first_fault, first_fault_for}
use Rattle.qs_certify.specs.Certification.{AreAll, AreRight, CannotComplete, AreWrong, IsCompleted}
use Rattle.qs_certify.specs.declared.fault.CertifyFault.{CertifyFault}
use Rattle.qs_certify.specs.declared.fault.CertifyFault.TheVariants.{NoMemory, Text, Cycle, Order, Entry}
use Rattle.qs_certify.proofs.CauseLaws.{cycle_fails}

-- ---- the entries of a file

any_entry : (es : List EntryTree) (f : ℕ) → list_any (is_entry_of f) es ≡ is_member f (entry_functions es)
any_entry [] f = refl
any_entry (e ∷ es) f = ap (λ (b : Bool). (e.function == f) || b) (any_entry es f)

-- a function with an entry is one of the functions with an entry
pub has_member : (given : ProofsTree) (f : ℕ) → has_entry given f ≡ is_member f (entry_functions given.functions)
has_member given f = found (is_entry_of f) given.functions ∙ any_entry given.functions f

none_first : (f : ℕ) (o : Option DerivFault) (next : Option EntryFault) → fault_or_next f o next ≡ None → (o ≡ None) × (next ≡ None)
none_first f None next h = (refl, h)
none_first f (Some d) next h = cc

pub all_derived : (resource : Resource) (u : CoreUnitTree) (proofs : ProofsTree) (fs : List ℕ) (f : ℕ) → first_fault_for resource u proofs fs ≡ None → is_member f fs ≡ true → function_fault_for resource u proofs f ≡ None
all_derived resource u proofs [] f none m = cc
all_derived resource u proofs (g ∷ fs) f none m =
    let two = none_first g (function_fault_for resource u proofs g) (first_fault_for resource u proofs fs) none in
    by (g == f) refl m two.0 (all_derived resource u proofs fs f two.1)
  where
    by : (b : Bool) → (g == f) ≡ b → (b || is_member f fs) ≡ true → function_fault_for resource u proofs g ≡ None → (is_member f fs ≡ true → function_fault_for resource u proofs f ≡ None) → function_fault_for resource u proofs f ≡ None
    by true is m here others = ap (function_fault_for resource u proofs) (sym (eqb-true g f is)) ∙ here
    by false is m here others = others m

pub given_derived : (u : CoreUnitTree) (given proofs : ProofsTree) → first_fault u proofs (entry_functions given.functions) ≡ None → GivenAreDerived u given proofs
given_derived u given proofs none f e within has is =
    ap (fault_of_entry u proofs) (sym is) ∙ all_derived Stack u proofs (entry_functions given.functions) f none (sym (has_member given f) ∙ has)

-- ---- all proofs

pub all_cover :
    (u : CoreUnitTree) → unit_fits u ≡ true → (given proofs : ProofsTree) → IsFillable u given → AreAll u given proofs
    → (fs : List FnId) → numbers fs ≡ entry_functions given.functions → AreRight u proofs (numbers fs) → Covers u given proofs
all_cover u fits given proofs fillable all fs are right =
    filled_proofs_cover u given proofs fits fillable all.filled
    (given_derived u given proofs (ap (first_fault u proofs) (sym are) ∙ right.derived))

pub as_many : (given : ProofsTree) (fs : List FnId) → numbers fs ≡ entry_functions given.functions → length fs ≡ length given.functions
as_many given fs are =
    sym (length-map fs (λ (f : FnId). f.0)) ∙ ap length are ∙ length-map given.functions (λ (e : EntryTree). e.function)

-- nothing that is given is lost
pub no_fewer : (u : CoreUnitTree) (given proofs : ProofsTree) → AreAll u given proofs → length given.functions ≤ length proofs.functions
no_fewer u given proofs all =
    subst (λ (n : ℕ). n ≤ length proofs.functions)
    (sym (length-filter (λ (e : EntryTree). has_entry given e.function) proofs.functions) ∙ ap length all.filled.kept)
    (count_by-le-length (λ (e : EntryTree). has_entry given e.function) proofs.functions)

-- ---- counts

-- the given entries are no more than all
pub within_all :
    (u : CoreUnitTree) (given : ProofsTree) (p : Proofs) → AreAll u given (proofs_tree p) → (fs : List FnId) → numbers fs ≡ entry_functions given.functions
    → (n m : ℕ) → n ≡ length fs → m ≡ length p.functions.items → n ≤ m
within_all u given p all fs are n m few many =
    let fewer = no_fewer u given (proofs_tree p) all in
    let same = as_many given fs are in
    let mapped = length-map p.functions.items entry_tree in
    omega arith

pub completes :
    (u : CoreUnitTree) → unit_fits u ≡ true → (given : ProofsTree) → IsFillable u given → (p : Proofs) → AreAll u given (proofs_tree p)
    → (fs : List FnId) → numbers fs ≡ entry_functions given.functions → AreRight u (proofs_tree p) (numbers fs)
    → (k n m : ℕ) → k ≡ length fs → n ≡ length fs → m ≡ length p.functions.items
    → IsCompleted u given (record { given = k; added = m - n; proofs = p })
completes u fits given fillable p all fs are right k n m first few many =
    let within = within_all u given p all fs are n m few many in
    let mapped = length-map p.functions.items entry_tree in
    record {
      all = all;
      in_order = right.in_order;
      covers = all_cover u fits given (proofs_tree p) fillable all fs are right;
      counts = record { given_are = first ∙ as_many given fs are; all_are = omega arith };
    }

-- ---- what isn't right

pub wrong_fails :
    (u : CoreUnitTree) (given proofs : ProofsTree) → AreAll u given proofs → (fs : List ℕ) → fs ≡ entry_functions given.functions
    → (fault : CertifyFault) → AreWrong u proofs fs fault → CannotComplete u given fault
wrong_fails u given proofs all fs are NoMemory h = tt
wrong_fails u given proofs all fs are (Text fault) h = h
wrong_fails u given proofs all fs are (Cycle gs) h = absurd h
wrong_fails u given proofs all fs are (Order name) h = record { proofs = proofs; all = all; misplaced = h }
wrong_fails u given proofs all fs are (Entry f fault) h = record {
  proofs = proofs;
  all = all;
  in_order = h.in_order;
  first = record {
    fault = h.first.fault;
    first = ap (first_fault u proofs) (sym are) ∙ h.first.first;
    is_fault = h.first.is_fault;
    is_told = h.first.is_told;
  };
}

pub ruleset completed_proofs = (all_cover, as_many, no_fewer, wrong_fails, cycle_fails)
