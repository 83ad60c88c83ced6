-- A unit has one core, and a file gives one list of proofs or has one fault; and what the code shows of these steps.
use Rattle.std.proofs.Common.{◌≡◌, ◌∙◌, ℕ, List, Option, Some, refl, sym, ap, subst, inl, inr}
use Rattle.std.proofs.lemmas.Option.{same_Some}
use Rattle.std.specs.List.{slice_get}
use Rattle.qs_base.specs.declared.places.Pos.{Pos}
use Rattle.qs_syntax.specs.Trees.{UnitTree}
use Rattle.qs_assert.specs.declared.define.Define.{Define}
use Rattle.qs_core.specs.FunctionNames.{function_name}
use Rattle.qs_core.specs.Trees.{CoreUnitTree}
use Rattle.qs_triples.specs.Derivations.{ProofsTree}
use Rattle.qs_triples.specs.declared.resource.Resource.{Resource}
use Rattle.qs_prooftext_meaning.specs.declared.fault.TextFault.{TextFault}
use Rattle.qs_certify.specs.Certification.{IsMisplaced}
use Rattle.qs_certify.specs.Entries.{EntryFault}
use Rattle.qs_certify.specs.Given.{GivenIs, HasTextFault}
use Rattle.qs_certify.specs.declared.fault.CertifyFault.TheVariants as faults
use Rattle.qs_certify.proofs.RefusalLaws.{same_given, no_text_fault, text_faults_are_told}
use Rattle.qs_report.specs.declared.fault_texts.ProofText.{ProofText}
use Rattle.qs_ports.specs.StoreView.{StoreView}
use Rattle.qs_driver_steps.specs.Runs.{Halts, Passes}
use Rattle.qs_driver_steps.proofs.Laws.{IsSound, FindsOne, decides, finds}
use Rattle.qs_driver_steps.proofs.ReadingLaws.{decided, not_decided, undecided}
use Rattle.qs_driver_session.specs.Source.{IsPlaceOf}
use Rattle.qs_driver_session.specs.Statuses.{tool, exactly, some_entry}
use Rattle.qs_driver_session.specs.Told.{EntryPlace, place_of, fault_place, fault_text}
use Rattle.qs_driver_session.specs.declared.status.ProofFault.TheVariants.{Text}
use Rattle.qs_driver_session.specs.declared.status.Status.TheVariants.{Proof, NoMemory}
use Rattle.qs_driver_session.proofs.SourceLaws.{same_pos}
use Rattle.qs_driver_proofs.specs.Refusals.{IsTextPlace, HasTextFaultAt}
use Rattle.qs_driver_proofs.specs.Steps.{IsCoreOf, coring, TextRefusal, text_status, reading_proofs, EntryRefusal, LacksDerivation}

-- ---- the core

module _ (unit : UnitTree) where
  abbrev Core : CoreUnitTree → Type 0
  Core core = IsCoreOf unit core

  pub coring_sound : IsSound (coring unit)
  coring_sound = finds tool 8 Core

  pub coring_one : FindsOne (coring unit)
  coring_one files y z h k = same_Some y z (sym (ap Some h.is) ∙ sym h.has_core.is ∙ k.has_core.is ∙ ap Some k.is)

  pub is_core : (v : StoreView) (core : CoreUnitTree) → IsCoreOf unit core → Passes (coring unit) v v core
  is_core v core h = decided 8 Core (λ (f : ⊥). ⊥) (λ f. NoMemory) v core h

  pub no_core : (v : StoreView) → Halts (coring unit) v v NoMemory
  no_core v = undecided 8 Core (λ (f : ⊥). ⊥) (λ f. NoMemory) v

-- ---- the text of the file

pub same_text_place : (file : Option (List ℕ)) (fault : TextFault) (p q : Pos) → IsTextPlace file fault p → IsTextPlace file fault q → p ≡ q
same_text_place file fault p q a b =
    let texts : a.text ≡ b.text = same_Some a.text b.text (sym a.is ∙ b.is) in
    let at : a.at ≡ b.at = same_Some a.at b.at (sym a.names ∙ b.names) in
    same_pos b.text b.at p q (subst (λ (x : List ℕ). IsPlaceOf x b.at p) texts (subst (λ (n : ℕ). IsPlaceOf a.text n p) at a.place)) b.place

module _ (core : CoreUnitTree) (file : Option (List ℕ)) where
  abbrev Given : ProofsTree → Type 0
  Given given = GivenIs core file given

  abbrev IsWrongText : TextRefusal → Type 0
  IsWrongText f = HasTextFaultAt core file f.fault f.pos

  only_fault : (f g : TextFault) → HasTextFault core file f → HasTextFault core file g → g ≡ f
  only_fault f g c d = elim ((text_faults_are_told core c.text f c.first).only (faults.Text g) (subst (λ (x : Option (List ℕ)). HasTextFault core x g) c.is d)) [
    | inl e ↦ absurd cc
    | inr e ↦ cc
  ]

  one_text : (f g : TextRefusal) → IsWrongText f → IsWrongText g → exactly (text_status f) ≡ exactly (text_status g)
  one_text f g c d =
      let same : f.fault ≡ g.fault = only_fault g.fault f.fault d.first c.first in
      let place : f.pos ≡ g.pos = same_text_place file g.fault f.pos g.pos (subst (λ (x : TextFault). IsTextPlace file x f.pos) same c.place) d.place in
      ap (λ (x : TextFault). exactly (Proof (Text x f.pos))) same ∙ ap (λ (x : Pos). exactly (Proof (Text g.fault x))) place

  no_wrong_text : (f : TextRefusal) (given : ProofsTree) → IsWrongText f → GivenIs core file given → ⊥
  no_wrong_text f given c h = no_text_fault core file given c.first.text f.fault h c.first.is c.first.first

  pub text_sound : IsSound (reading_proofs core file)
  text_sound = decides tool 9 Given IsWrongText text_status one_text no_wrong_text (λ f. refl)

  pub text_one : FindsOne (reading_proofs core file)
  text_one files y z h k = same_given core file y z h k

  pub is_given : (v : StoreView) (given : ProofsTree) → GivenIs core file given → Passes (reading_proofs core file) v v given
  is_given v given h = decided 9 Given IsWrongText text_status v given h

  pub wrong_text : (v : StoreView) (f : TextRefusal) → HasTextFaultAt core file f.fault f.pos → Halts (reading_proofs core file) v v (text_status f)
  wrong_text v f c = not_decided 9 Given IsWrongText text_status v f c

  pub no_proofs_memory : (v : StoreView) → Halts (reading_proofs core file) v v NoMemory
  no_proofs_memory v = undecided 9 Given IsWrongText text_status v

-- ---- the order of definitions

-- one definition is the first that is out of order
pub misplaced_same : (ds : List Define) (name other : List ℕ) → IsMisplaced ds name → IsMisplaced ds other → name ≡ other
misplaced_same ds name other a b =
    let at : a.at ≡ b.at = same_Some a.at b.at (sym a.first ∙ b.first) in
    let define : a.define ≡ b.define = same_Some a.define b.define (sym a.stands ∙ ap (slice_get ds) at ∙ b.stands) in
    a.is ∙ ap (λ (d : Define). d.name) define ∙ sym b.is

-- ---- the entries

module _ (resource : Resource) (core : CoreUnitTree) (given proofs : ProofsTree) where
  abbrev IsUnderived : EntryRefusal → Type 0
  IsUnderived f = LacksDerivation resource core given proofs f.function (place_of f.spot) f.wrong

  -- one entry is the first that isn't derived, at one place
  pub one_lack : (f g : List ℕ) (p q : EntryPlace) (t u : ProofText) → LacksDerivation resource core given proofs f p t → LacksDerivation resource core given proofs g q u → (f ≡ g) × (p ≡ q) × (t ≡ u)
  one_lack f g p q t u c d =
      let here : EntryFault = record { function = c.function; fault = c.fault } in
      let there : EntryFault = record { function = d.function; fault = d.fault } in
      let one : here ≡ there = same_Some here there (sym c.first ∙ d.first) in (
        c.named ∙ ap (λ (x : EntryFault). function_name core x.function) one ∙ sym d.named,
        c.place_is ∙ ap (λ (x : EntryFault). fault_place x.fault) one ∙ sym d.place_is,
        c.wrong_is ∙ ap (λ (x : EntryFault). fault_text core x.function x.fault) one ∙ sym d.wrong_is,
      )

  pub one_entry : (f g : EntryRefusal) → IsUnderived f → IsUnderived g → some_entry f.function (place_of f.spot) f.wrong ≡ some_entry g.function (place_of g.spot) g.wrong
  one_entry f g c d =
      let one = one_lack f.function g.function (place_of f.spot) (place_of g.spot) f.wrong g.wrong c d in
      ap (λ (x : List ℕ). some_entry x (place_of f.spot) f.wrong) one.0
      ∙ ap (λ (x : EntryPlace). some_entry g.function x f.wrong) one.1
      ∙ ap (λ (x : ProofText). some_entry g.function (place_of g.spot) x) one.2
