-- Which fault is answered where, and where none but want of memory is.
use Rattle.std.proofs.Common.{◌≡◌, ℕ, ◌==◌, ◌||◌, Bool, true, false, inl, inr, List, [], ◌∷◌, Option, Some, None, refl, sym, ap, ◌∙◌, subst}
use Rattle.std.specs.Prelude.{◌⊎◌}
use Rattle.std.proofs.lemmas.Bool.{both_ways}
use Rattle.std.proofs.lemmas.Option.{same_Some}
use Rattle.qs_assert.specs.Order.{order_fault, IsInOrder}
use Rattle.qs_assert.specs.declared.define.Define.{Define}
use Rattle.qs_core.specs.CallGraph.{IsCycle, IsWithoutRecursion, is_member}
use Rattle.qs_core.specs.Trees.{CoreUnitTree}
use Rattle.qs_prooftext_meaning.specs.Proofs.{no_proofs}
use Rattle.qs_prooftext_meaning.specs.Reading.{Fault}
use Rattle.qs_prooftext_meaning.specs.declared.fault.TextFault.{TextFault}
use Rattle.qs_prooftext_meaning.proofs.OneMeaning as meanings
use Rattle.qs_triples.specs.Derivations.{ProofsTree, entry_of}
use Rattle.qs_triples.specs.Entries.{has_entry, fault_of_entry, function_fault, function_fault_for}
use Rattle.qs_triples.specs.Filled.{Filled}
use Rattle.qs_triples.specs.declared.resource.Resource.{Resource}
use Rattle.qs_triples.specs.declared.resource.Resource.TheVariants.{Stack}
use Rattle.qs_callgraph.specs.CallLists.{numbers}
use Rattle.qs_callgraph.proofs.MemberLaws.{member_first}
use Rattle.qs_analyse.specs.Fillable.{entry_functions}
use Rattle.qs_analyse.specs.Laws.{GivenAreDerived, HasNoCycle}
use Rattle.qs_analyse.proofs.MeetLaws.{given_stays}
use Rattle.qs_certify.specs.Given.{GivenIs}
use Rattle.qs_certify.specs.Entries.{EntryFault, fault_or_next, first_fault, first_fault_for}
use Rattle.qs_certify.specs.Certification.{AreAll, CannotCertify, IsCycleFault}
use Rattle.qs_certify.specs.Laws.{TextFaultsAreTold, CyclesAreTold, AreRightProofs, RightProofsAreCertified, UnitsWithoutRecursionAreCertified}
use Rattle.qs_certify.specs.declared.fault.CertifyFault.{CertifyFault}
use Rattle.qs_certify.specs.declared.fault.CertifyFault.TheVariants.{NoMemory, Text, Cycle, Order, Entry}
use Rattle.qs_certify.proofs.CompletedLaws.{has_member}
use Rattle.qs_certify.proofs.MetLaws.{some_entry}

-- ---- one file gives one list of proofs

pub same_given : (u : CoreUnitTree) (file : Option (List ℕ)) (given other : ProofsTree) → GivenIs u file given → GivenIs u file other → given ≡ other
same_given u None given other g h = g ∙ sym h
same_given u (Some text) given other g h = meanings.one_proofs u text given other g h

-- ---- faults of a text

module _ (u : CoreUnitTree) (text : List ℕ) (fault : TextFault) (first : Fault u text fault) where
  never_given : (given : ProofsTree) → GivenIs u (Some text) given → ⊥
  never_given given g = meanings.not_both u text given fault g first

  only_text : (told : CertifyFault) → CannotCertify u (Some text) told → (told ≡ NoMemory) ⊎ (told ≡ Text fault)
  only_text NoMemory h = inl refl
  only_text (Text other) h =
      inr (ap Text (meanings.one_fault u text other fault (subst (λ (t : List ℕ). Fault u t other) (sym (same_Some text h.text h.is)) h.first) first))
  only_text (Cycle fs) h = absurd (never_given h.given h.given_is)
  only_text (Order name) h = absurd (never_given h.given h.given_is)
  only_text (Entry f other) h = absurd (never_given h.given h.given_is)

pub text_faults_are_told : TextFaultsAreTold
text_faults_are_told u text fault first =
    record { not_certified = λ given proofs c. never_given u text fault first given c.given_is; only = only_text u text fault first }

-- ---- cycles

pub no_text_fault : (u : CoreUnitTree) (file : Option (List ℕ)) (given : ProofsTree) (text : List ℕ) (fault : TextFault) → GivenIs u file given → file ≡ Some text → Fault u text fault → ⊥
no_text_fault u None given text fault g is first = cc
no_text_fault u (Some other) given text fault g is first = meanings.not_both u other given fault g (subst (λ (t : List ℕ). Fault u t fault) (sym (same_Some other text is)) first)

module _ (u : CoreUnitTree) (file : Option (List ℕ)) (given : ProofsTree) (fs : List ℕ) (is : GivenIs u file given) (cycle : IsCycle u (has_entry given) fs) where
  never_without : (other : ProofsTree) → GivenIs u file other → HasNoCycle u other → ⊥
  never_without other g none = none fs (subst (λ (p : ProofsTree). IsCycle u (has_entry p) fs) (same_given u file given other is g) cycle)

  only_cycle : (told : CertifyFault) → CannotCertify u file told → (told ≡ NoMemory) ⊎ IsCycleFault u given told
  only_cycle NoMemory h = inl refl
  only_cycle (Text other) h = absurd (no_text_fault u file given h.text other is h.is h.first)
  only_cycle (Cycle gs) h = inr (subst (λ (p : ProofsTree). IsCycle u (has_entry p) (numbers gs.items)) (same_given u file h.given given h.given_is is) h.so)
  only_cycle (Order name) h = absurd (never_without h.given h.given_is h.so.all.no_cycle)
  only_cycle (Entry f other) h = absurd (never_without h.given h.given_is h.so.all.no_cycle)

pub cycles_are_told : CyclesAreTold
cycles_are_told u file given fs is cycle = record {
  not_certified = λ other proofs c. never_without u file given fs is cycle other c.given_is c.all.no_cycle;
  only = only_cycle u file given fs is cycle;
}

-- ---- right proofs

-- where the entry of each of these functions is derived, none is the first that isn't
pub none_among : (resource : Resource) (u : CoreUnitTree) (proofs : ProofsTree) (fs : List ℕ) → ((f : ℕ) → is_member f fs ≡ true → function_fault_for resource u proofs f ≡ None) → first_fault_for resource u proofs fs ≡ None
none_among resource u proofs [] none = refl
none_among resource u proofs (f ∷ fs) none =
    ap (λ o. fault_or_next f o (first_fault_for resource u proofs fs)) (none f (member_first f fs))
    ∙ none_among resource u proofs fs (λ g m. none g (ap (λ (b : Bool). (f == g) || b) m ∙ or_true (f == g)))
  where
    or_true : (b : Bool) → (b || true) ≡ true
    or_true true = refl
    or_true false = refl

module _ (u : CoreUnitTree) (given proofs : ProofsTree) (filled : Filled u given proofs) (derived : GivenAreDerived u given proofs) where
  none_at : (f : ℕ) → has_entry given f ≡ true → function_fault u proofs f ≡ None
  none_at f has =
      let e = some_entry (entry_of proofs f) (given_stays u given proofs filled f has) in
      ap (fault_of_entry u proofs) e.1 ∙ derived f e.0 (filled.known e.0 f e.1) has e.1

  pub none_of : (fs : List ℕ) → ((f : ℕ) → is_member f fs ≡ true → has_entry given f ≡ true) → first_fault u proofs fs ≡ None
  none_of fs have = none_among Stack u proofs fs (λ f m. none_at f (have f m))

  never_first : (e : EntryFault) → first_fault u proofs (entry_functions given.functions) ≡ Some e → ⊥
  never_first e h = let none = none_of (entry_functions given.functions) (λ f m. has_member given f ∙ m) in let no : None ≡ Some e = sym none ∙ h in cc

pub no_place : (ds : List Define) (at : ℕ) → IsInOrder ds → order_fault ds ≡ Some at → ⊥
no_place ds at order h = let no : None ≡ Some at = sym order ∙ h in cc

pub right_proofs_are_certified : RightProofsAreCertified
right_proofs_are_certified u file given NoMemory is right h = refl
right_proofs_are_certified u file given (Text fault) is right h = absurd (no_text_fault u file given h.text fault is h.is h.first)
right_proofs_are_certified u file given (Cycle fs) is right h =
    absurd (right.no_cycle (numbers fs.items) (subst (λ (p : ProofsTree). IsCycle u (has_entry p) (numbers fs.items)) (same_given u file h.given given h.given_is is) h.so))
right_proofs_are_certified u file given (Order name) is right h =
    let all = subst (λ (p : ProofsTree). AreAll u p h.so.proofs) (same_given u file h.given given h.given_is is) h.so.all in
    absurd (no_place h.so.proofs.defines h.so.misplaced.at (right.in_order h.so.proofs all) h.so.misplaced.first)
right_proofs_are_certified u file given (Entry f fault) is right h =
    let same = same_given u file h.given given h.given_is is in
    let all = subst (λ (p : ProofsTree). AreAll u p h.so.proofs) same h.so.all in
    absurd (never_first u given h.so.proofs all.filled (right.derived h.so.proofs all) _ (ap (λ (p : ProofsTree). first_fault u h.so.proofs (entry_functions p.functions)) (sym same) ∙ h.so.first.first))

-- ---- units without recursion

nothing_is_right : (u : CoreUnitTree) → IsWithoutRecursion u → AreRightProofs u no_proofs
nothing_is_right u none = record {
  no_cycle = λ fs cycle. none fs cycle.circle;
  in_order = λ proofs all. all.derives.in_order refl;
  derived = λ proofs all f e within has is. absurd (both_ways false refl has);
}

pub units_without_recursion_are_certified : UnitsWithoutRecursionAreCertified
units_without_recursion_are_certified u fault none h = right_proofs_are_certified u None no_proofs fault refl (nothing_is_right u none) h
