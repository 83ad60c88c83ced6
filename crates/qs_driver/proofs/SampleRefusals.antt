-- Of a good source only memory can be wanting.
use Rattle.std.proofs.Common.{◌≡◌, inl, inr, ℕ, ◌<◌, ◌≤◌, List, Some, None, Err, ap, sym, ◌∙◌, subst, arith}
use Rattle.std.proofs.lemmas.Option.{same_Some}
use Rattle.qs_syntax.specs.Trees.{UnitTree}
use Rattle.qs_assert.specs.declared.define.Amount.{Amount}
use Rattle.qs_assert.specs.declared.define.Amount.TheVariants.{Finite}
use Rattle.qs_core.specs.CallGraph.{IsWithoutRecursion}
use Rattle.qs_core.specs.Trees.{CoreUnitTree}
use Rattle.qs_elaborate_bodies.specs.Units.{core_of}
use Rattle.qs_machine.specs.State.{stack_limit}
use Rattle.qs_certify.specs.Certification.{CannotCertify}
use Rattle.qs_certify.specs.declared.fault.CertifyFault.{CertifyFault}
use Rattle.qs_certify.proofs.RefusalLaws.{units_without_recursion_are_certified}
use Rattle.qs_driver_session.specs.Source.{IsTypedAs, RefusesText, has_lex_fault, has_syntax_fault, has_type_fault, lacks_memory}
use Rattle.qs_driver_session.specs.Starting.{IsStackOf}
use Rattle.qs_driver_session.specs.declared.status.Status.{Status}
use Rattle.qs_driver_session.specs.declared.status.Status.TheVariants.{NoMemory}
use Rattle.qs_driver_session.proofs.SourceLaws.{no_unit, syntax_no_unit, lex_or_unit, ill_typed_or_typed, same_trees}
use Rattle.qs_driver_proofs.specs.Refusals.{TellsFault}
use Rattle.qs_driver.specs.SampleLaws.{IsGoodSource}
use Rattle.qs_driver.proofs.CertifiedFollows.{tells_none}

-- its text isn't refused
pub good_text_is_typed : (text : List ℕ) (status : Status) → IsGoodSource text → RefusesText text status → status ≡ NoMemory
good_text_is_typed text status good (has_lex_fault fault pos f e) = absurd (lex_or_unit text fault pos f good.typed.unit)
good_text_is_typed text status good (has_syntax_fault fault place f e) = absurd (no_unit text (syntax_no_unit text fault place f) good.typed.unit)
good_text_is_typed text status good (has_type_fault fault place f e) = absurd (ill_typed_or_typed text fault place f good.typed)
good_text_is_typed text status good (lacks_memory e) = e

-- the core that the code finds is without recursion
pub good_core : (text : List ℕ) (unit : UnitTree) (core : CoreUnitTree) → IsGoodSource text → IsTypedAs text unit → core_of unit ≡ Some core → IsWithoutRecursion core
good_core text unit core good t is =
    let trees : good.typed.unit.trees ≡ unit = same_trees text good.typed.unit t.typed.unit ∙ t.trees_are in
    let same : good.has_core.core ≡ core = same_Some good.has_core.core core (sym good.has_core.is ∙ ap core_of trees ∙ is) in
    subst IsWithoutRecursion same good.without_recursion

-- and it is certified
pub good_core_is_certified : (core : CoreUnitTree) (fault : CertifyFault) (status : Status) → IsWithoutRecursion core → CannotCertify core None fault → TellsFault core None fault status → status ≡ NoMemory
good_core_is_certified core fault status w cannot (inl e) = e
good_core_is_certified core fault status w cannot (inr t) =
    absurd (tells_none core None fault t.0 (units_without_recursion_are_certified core fault w cannot) t.2)

-- there is a stack of a small bound
pub stack_is_there : (amount : Amount) (stack : ℕ) (status : Status) → amount ≡ Finite stack → stack ≤ stack_limit → IsStackOf amount (Err status) → ⊥
stack_is_there amount stack status is small none =
    let past : IsStackOf (Finite stack) (Err status) = subst (λ (a : Amount). IsStackOf a (Err status)) is none in
    let more : stack_limit < stack = past.1 in
    omega arith
