-- What is certified and what is told are given by the unit and the file.
use Rattle.std.proofs.Common.{◌≡◌, ℕ, true, List, Option, Some, None, inl, inr, refl, sym, ap, ◌∙◌, subst}
use Rattle.std.specs.Prelude.{◌⊎◌, ◌≢◌}
use Rattle.std.specs.List.{slice_get}
use Rattle.std.proofs.lemmas.Option.{same_Some}
use Rattle.qs_assert.specs.Order.{order_fault, IsInOrder}
use Rattle.qs_assert.specs.declared.define.Define.{Define}
use Rattle.qs_core.specs.CallGraph.{IsCycle}
use Rattle.qs_core.specs.Trees.{CoreUnitTree}
use Rattle.qs_triples.specs.Derivations.{ProofsTree, is_entry_of, entry_of}
use Rattle.qs_triples.specs.Entries.{has_entry, fault_of_entry, function_fault, Covers}
use Rattle.qs_triples.specs.declared.fault.DerivFault.{DerivFault}
use Rattle.qs_triples.specs.declared.resource.Resource.TheVariants.{Stack}
use Rattle.qs_callgraph.specs.CallLists.{numbers}
use Rattle.qs_analyse.specs.Fillable.{entry_functions}
use Rattle.qs_analyse.specs.Laws.{GivenAreDerived}
use Rattle.qs_analyse.proofs.FillingLaws.{one_filling}
use Rattle.qs_analyse.proofs.MeetLaws.{given_stays}
use Rattle.qs_analyse.proofs.SettingLaws.{one_there}
use Rattle.qs_certify.specs.Given.{GivenIs}
use Rattle.qs_certify.specs.Entries.{EntryFault, first_fault, IsFirstFault, IsEntryFault}
use Rattle.qs_certify.specs.Certification.{AreAll, IsCertified, IsMisplaced, HasNoOrder, IsNotDerived, CannotCertify}
use Rattle.qs_certify.specs.Laws.{OneCertified, CertifiedIsRight, OrderIsTold, IsEntryOf, EntriesAreTold, EntryFaultsAreTold, AllAreDerived}
use Rattle.qs_certify.specs.declared.fault.CertifyFault.{CertifyFault}
use Rattle.qs_certify.specs.declared.fault.CertifyFault.TheVariants.{NoMemory, Text, Cycle, Order, Entry}
use Rattle.qs_certify.proofs.CompletedLaws.{has_member}
use Rattle.qs_certify.proofs.MetLaws.{first_is_one, some_entry, given_known}
use Rattle.qs_certify.proofs.RefusalLaws.{same_given, no_text_fault, no_place, none_of}

-- ---- one list of proofs

-- all proofs of what a file gives
same_all :
    (u : CoreUnitTree) (file : Option (List ℕ)) (given proofs other others : ProofsTree) → GivenIs u file given → GivenIs u file other
    → AreAll u given proofs → AreAll u other others → (given ≡ other) × (proofs ≡ others)
same_all u file given proofs other others g h all there =
    let same = same_given u file given other g h in
    (same, one_filling u other proofs others (subst (λ (p : ProofsTree). AreAll u p proofs) same all).filling there.filling)

pub one_certified : OneCertified
one_certified u file given proofs other others a b = same_all u file given proofs other others a.given_is b.given_is a.all b.all

-- ---- what is certified is right

pub certified_is_right : CertifiedIsRight
certified_is_right u file given proofs c = record {
  no_cycle = c.all.no_cycle;
  in_order = λ others all. subst (λ (p : ProofsTree). IsInOrder p.defines) (one_filling u given proofs others c.all.filling all.filling) c.in_order;
  derived = λ others all. subst (λ (p : ProofsTree). GivenAreDerived u given p) (one_filling u given proofs others c.all.filling all.filling) c.covers.derived;
}

-- ---- definitions out of order

misplaced_same : (ds : List Define) (name other : List ℕ) → IsMisplaced ds name → IsMisplaced ds other → name ≡ other
misplaced_same ds name other a b =
    let at : a.at ≡ b.at = same_Some a.at b.at (sym a.first ∙ b.first) in
    let define : a.define ≡ b.define = same_Some a.define b.define (sym a.stands ∙ ap (slice_get ds) at ∙ b.stands) in
    a.is ∙ ap (λ (d : Define). d.name) define ∙ sym b.is

module _ (u : CoreUnitTree) (file : Option (List ℕ)) (given : ProofsTree) (name : List ℕ) (is : GivenIs u file given) (h : HasNoOrder u given name) where
  never_in_order : (other proofs : ProofsTree) → GivenIs u file other → AreAll u other proofs → IsInOrder proofs.defines → ⊥
  never_in_order other proofs g all order =
      let same = same_all u file other proofs given h.proofs g is all h.all in
      no_place h.proofs.defines h.misplaced.at (subst (λ (p : ProofsTree). IsInOrder p.defines) same.1 order) h.misplaced.first

  only_order : (told : CertifyFault) → CannotCertify u file told → (told ≡ NoMemory) ⊎ (told ≡ Order name)
  only_order NoMemory k = inl refl
  only_order (Text fault) k = absurd (no_text_fault u file given k.text fault is k.is k.first)
  only_order (Cycle fs) k =
      absurd (h.all.no_cycle (numbers fs.items) (subst (λ (p : ProofsTree). IsCycle u (has_entry p) (numbers fs.items)) (same_given u file k.given given k.given_is is) k.so))
  only_order (Order other) k =
      let same = same_all u file k.given k.so.proofs given h.proofs k.given_is is k.so.all h.all in
      inr (ap Order (misplaced_same h.proofs.defines other name (subst (λ (p : ProofsTree). IsMisplaced p.defines other) same.1 k.so.misplaced) h.misplaced))
  only_order (Entry f fault) k = absurd (never_in_order k.given k.so.proofs k.given_is k.so.all k.so.in_order)

pub order_is_told : OrderIsTold
order_is_told u file given name is h = record {
  not_certified = λ other proofs c. never_in_order u file given name is h other proofs c.given_is c.all c.in_order;
  only = only_order u file given name is h;
}

-- ---- entries that aren't derived

module _ (u : CoreUnitTree) (file : Option (List ℕ)) (given : ProofsTree) (f : ℕ) (fault : DerivFault) (is : GivenIs u file given) (h : IsNotDerived u given f fault) where
  never_derived : Covers u given h.proofs → ⊥
  never_derived covers =
      let one = first_is_one Stack u h.proofs (entry_functions given.functions) (record { function = f; fault = h.first.fault }) h.first.first in
      let has : has_entry given f ≡ true = has_member given f ∙ one.there in
      let e = some_entry (entry_of h.proofs f) (given_stays u given h.proofs h.all.filled f has) in
      let none : function_fault u h.proofs f ≡ None =
      ap (fault_of_entry u h.proofs) e.1 ∙ covers.derived f e.0 (given_known u given h.proofs h.all.filled f has) has e.1 in
      let no : None ≡ Some h.first.fault = sym none ∙ one.is in cc

  never_covered : (other proofs : ProofsTree) → IsCertified u file other proofs → ⊥
  never_covered other proofs c =
      let same = same_all u file other proofs given h.proofs c.given_is is c.all h.all in
      never_derived (subst (λ (p : ProofsTree). Covers u given p) same.1 (subst (λ (g : ProofsTree). Covers u g proofs) same.0 c.covers))

  only_entry : (told : CertifyFault) → CannotCertify u file told → (told ≡ NoMemory) ⊎ IsEntryOf f told
  only_entry NoMemory k = inl refl
  only_entry (Text other) k = absurd (no_text_fault u file given k.text other is k.is k.first)
  only_entry (Cycle fs) k =
      absurd (h.all.no_cycle (numbers fs.items) (subst (λ (p : ProofsTree). IsCycle u (has_entry p) (numbers fs.items)) (same_given u file k.given given k.given_is is) k.so))
  only_entry (Order name) k =
      let same = same_all u file k.given k.so.proofs given h.proofs k.given_is is k.so.all h.all in
      absurd (no_place h.proofs.defines k.so.misplaced.at h.in_order
      (subst (λ (p : ProofsTree). order_fault p.defines ≡ Some k.so.misplaced.at) same.1 k.so.misplaced.first))
  only_entry (Entry g other) k =
      let same = same_all u file k.given k.so.proofs given h.proofs k.given_is is k.so.all h.all in
      let first : first_fault u h.proofs (entry_functions given.functions) ≡ Some (record { function = g.0; fault = k.so.first.fault }) =
      subst (λ (p : ProofsTree). first_fault u p (entry_functions given.functions) ≡ Some (record { function = g.0; fault = k.so.first.fault })) same.1
      (subst (λ (p : ProofsTree). first_fault u k.so.proofs (entry_functions p.functions) ≡ Some (record { function = g.0; fault = k.so.first.fault })) same.0 k.so.first.first) in
      inr (ap (λ (e : EntryFault). e.function)
      (same_Some (record { function = g.0; fault = k.so.first.fault }) (record { function = f; fault = h.first.fault }) (sym first ∙ h.first.first)))

pub entries_are_told : EntriesAreTold
entries_are_told u file given f fault is h =
    record { not_certified = never_covered u file given f fault is h; only = only_entry u file given f fault is h }

-- ---- the fault of an entry

module _ (u : CoreUnitTree) (file : Option (List ℕ)) (given proofs : ProofsTree) (is : GivenIs u file given) (all : AreAll u given proofs) (order : IsInOrder proofs.defines)
    (wrong : first_fault u proofs (entry_functions given.functions) ≢ None) where
  never_right : (other others : ProofsTree) → IsCertified u file other others → ⊥
  never_right other others c =
      let same = same_all u file other others given proofs c.given_is is c.all all in
      let covers : Covers u given proofs = subst (λ (p : ProofsTree). Covers u given p) same.1 (subst (λ (g : ProofsTree). Covers u g others) same.0 c.covers) in
      wrong (none_of u given proofs all.filled covers.derived (entry_functions given.functions) (λ f m. has_member given f ∙ m))

  only_fault : (told : CertifyFault) → CannotCertify u file told → (told ≡ NoMemory) ⊎ IsEntryFault u proofs (entry_functions given.functions) told
  only_fault NoMemory k = inl refl
  only_fault (Text other) k = absurd (no_text_fault u file given k.text other is k.is k.first)
  only_fault (Cycle fs) k =
      absurd (all.no_cycle (numbers fs.items) (subst (λ (p : ProofsTree). IsCycle u (has_entry p) (numbers fs.items)) (same_given u file k.given given k.given_is is) k.so))
  only_fault (Order name) k =
      let same = same_all u file k.given k.so.proofs given proofs k.given_is is k.so.all all in
      absurd (no_place proofs.defines k.so.misplaced.at order (subst (λ (p : ProofsTree). order_fault p.defines ≡ Some k.so.misplaced.at) same.1 k.so.misplaced.first))
  only_fault (Entry f fault) k =
      let same = same_all u file k.given k.so.proofs given proofs k.given_is is k.so.all all in
      inr (subst (λ (p : ProofsTree). IsFirstFault u proofs (entry_functions p.functions) f.0 fault) same.0
      (subst (λ (p : ProofsTree). IsFirstFault u p (entry_functions k.given.functions) f.0 fault) same.1 k.so.first))

pub entry_faults_are_told : EntryFaultsAreTold
entry_faults_are_told u file given proofs is all order wrong =
    record { not_certified = never_right u file given proofs is all order wrong; only = only_fault u file given proofs is all order wrong }

-- ---- without a file

pub all_are_derived : AllAreDerived
all_are_derived u given proofs f c within =
    let all = subst (λ (p : ProofsTree). AreAll u p proofs) c.given_is c.all in
    let e = one_there (is_entry_of f) proofs.functions (all.filled.one f within refl) in
    record {
      entry_tree = e.0;
      stands = e.1;
      derived = all.derives.derived f e.0 c.in_order (record { known = within; none = λ g l. refl }) e.1;
    }
