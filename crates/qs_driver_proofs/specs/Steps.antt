-- Steps that lead to the proofs of a file: the core of a unit, and the text of its proof file; and what is told of proofs.
use Rattle.std.specs.Prelude.{◌≡◌, ℕ, List, Option, Some}
use Rattle.qs_base.specs.declared.places.Pos.{Pos}
use Rattle.qs_syntax.specs.Trees.{UnitTree}
use Rattle.qs_core.specs.FunctionNames.{function_name}
use Rattle.qs_core.specs.Trees.{CoreUnitTree}
use Rattle.qs_elaborate_laws.specs.FitLaws.{HasCore}
use Rattle.qs_triples.specs.Derivations.{ProofsTree}
use Rattle.qs_triples.specs.Rules.{DerivFault}
use Rattle.qs_triples.specs.declared.resource.Resource.{Resource}
use Rattle.qs_prooftext_meaning.specs.declared.fault.TextFault.{TextFault}
use Rattle.qs_analyse.specs.Fillable.{entry_functions}
use Rattle.qs_certify.specs.Entries.{first_fault_for}
use Rattle.qs_certify.specs.Given.{GivenIs}
use Rattle.qs_report.specs.declared.fault_texts.ProofText.{ProofText}
use Rattle.qs_report.specs.declared.fault_texts.Spot.{Spot}
use Rattle.qs_driver_steps.specs.Reading.{deciding, finding}
use Rattle.qs_driver_steps.specs.Steps.{Step}
use Rattle.qs_driver_session.specs.Statuses.{tool}
use Rattle.qs_driver_session.specs.Told.{EntryPlace, fault_place, fault_text}
use Rattle.qs_driver_session.specs.declared.status.ProofFault.TheVariants.{Text, Order, Entry}
use Rattle.qs_driver_session.specs.declared.status.Status.{Status}
use Rattle.qs_driver_session.specs.declared.status.Status.TheVariants.{Proof}
use Rattle.qs_driver_proofs.specs.Refusals.{HasTextFaultAt}

-- ---- the core of a unit

-- the unit has this core, as which it runs
pub record IsCoreOf (unit : UnitTree) (core : CoreUnitTree) : Type 0 where
  pub has_core : HasCore unit
  pub is : has_core.core ≡ core

-- each typed unit has a core: nothing but memory can be wanting
abbrev pub coring : (unit : UnitTree) → Step tool
coring unit = finding 8 (λ (core : CoreUnitTree). IsCoreOf unit core)

-- ---- the proofs that a file gives

-- what is wrong with its text, and where
pub record TextRefusal : Type 0 where
  pub fault : TextFault
  pub pos : Pos

abbrev pub text_status : TextRefusal → Status
text_status f = Proof (Text f.fault f.pos)

-- the text reads as these proofs
abbrev pub reading_proofs : CoreUnitTree → (file : Option (List ℕ)) → Step tool
reading_proofs core file =
    deciding 9 (λ (given : ProofsTree). GivenIs core file given)
    (λ (f : TextRefusal). HasTextFaultAt core file f.fault f.pos) text_status

-- ---- what is told of them

abbrev pub order_status : List ℕ → Status
order_status name = Proof (Order name)

-- what is wrong with an entry, and where
pub record EntryRefusal : Type 0 where
  pub function : List ℕ
  pub spot : Spot
  pub wrong : ProofText

abbrev pub entry_status : EntryRefusal → Status
entry_status f = Proof (Entry f.function f.spot f.wrong)

-- Among all proofs the entry of this function is the first of the file that isn't derived for what is bounded, and this is
-- wrong first, at this place of it.
pub record LacksDerivation (resource : Resource) (core : CoreUnitTree) (given proofs : ProofsTree)
    (name : List ℕ) (place : EntryPlace) (wrong : ProofText) : Type 0 where
  pub function : ℕ
  pub fault : DerivFault
  pub named : name ≡ function_name core function
  pub first :
      first_fault_for resource core proofs (entry_functions given.functions)
      ≡ Some (record { function = function; fault = fault })
  pub place_is : place ≡ fault_place fault
  pub wrong_is : wrong ≡ fault_text core function fault
