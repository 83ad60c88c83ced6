-- The first fault of an entry, as it is told: where in the entry it is, and what is wrong there.
use Rattle.std.specs.Prelude.{ℕ, List, Option, Some, None}
use Rattle.qs_poly.specs.declared.fault.PolyFault.{PolyFault}
use Rattle.qs_poly.specs.declared.fault.PolyFault.TheVariants.{NoMemory, Wide, ManyTerms, HighDegree}
use Rattle.qs_core.specs.Trees.{CoreUnitTree}
use Rattle.qs_prooftext_meaning.specs.Writing.{variable_text}
use Rattle.qs_entail.specs.Faults.{CertFault, step, limit}
use Rattle.qs_entail.specs.declared.stop.Limit.TheVariants.{Coefficient, Terms, Degree}
use Rattle.qs_triples.specs.Rules.{DerivFault, Place, in_precondition, in_postcondition, at_node, shape, mentions, certificate, no_spec, entry, bad_order}
use Rattle.qs_report.specs.declared.fault_texts.ProofText.{ProofText}
use Rattle.qs_report.specs.declared.fault_texts.ProofText.TheVariants as wrongs
use Rattle.qs_report.specs.declared.fault_texts.Spot.{Spot}
use Rattle.qs_report.specs.declared.fault_texts.Spot.TheVariants as spots

-- ---- where it is

-- a place in an entry, by the paths that lead to it
pub data EntryPlace : Type 0 where
  at_precondition : EntryPlace
  at_postcondition : EntryPlace
  -- in the certificate of the entry
  at_entry : (inner : List ℕ) → EntryPlace
  at_body : (node : List ℕ) → EntryPlace
  -- in the certificate of a node of the body
  at_certificate : (node inner : List ℕ) → EntryPlace

-- the place that a line tells
abbrev pub place_of : Spot → EntryPlace
place_of spots.Pre = at_precondition
place_of spots.Post = at_postcondition
place_of (spots.Entry inner) = at_entry inner.steps.items
place_of (spots.Body node) = at_body node.steps.items
place_of (spots.BodyCert node inner) = at_certificate node.steps.items inner.steps.items

-- the place of an assertion that mentions a variable
abbrev pub mention_place : Place → EntryPlace
mention_place in_precondition = at_precondition
mention_place in_postcondition = at_postcondition
mention_place (at_node path) = at_body path

-- where a certificate has a fault
abbrev pub inner_path : CertFault → List ℕ
inner_path (step path rule) = path
inner_path (limit path passed) = path

-- The place of a fault. (That a function has no specification, and that definitions are out of order, is never met here.)
abbrev pub fault_place : DerivFault → EntryPlace
fault_place (shape path) = at_body path
fault_place (mentions place g x) = mention_place place
fault_place (certificate path fault) = at_certificate path (inner_path fault)
fault_place (no_spec path g) = at_body path
fault_place (entry fault) = at_entry (inner_path fault)
fault_place (bad_order d) = at_precondition

-- ---- what is wrong there

-- the limit of polynomials that is passed (want of memory is never met here)
abbrev pub passed_text : PolyFault → ProofText
passed_text NoMemory = wrongs.Shape
passed_text Wide = wrongs.Limit Coefficient
passed_text ManyTerms = wrongs.Limit Terms
passed_text HighDegree = wrongs.Limit Degree

abbrev pub certificate_text : CertFault → ProofText
certificate_text (step path rule) = wrongs.Step rule
certificate_text (limit path passed) = passed_text passed

-- whose variable it is: the function's own, or that of the function that is called there
abbrev pub owner_of : (function : ℕ) → (callee : Option ℕ) → ℕ
owner_of f None = f
owner_of f (Some g) = g

-- what is wrong in the entry of this function
abbrev pub fault_text : CoreUnitTree → (function : ℕ) → DerivFault → ProofText
fault_text u f (shape path) = wrongs.Shape
fault_text u f (mentions place g x) = wrongs.Mentions (variable_text u (owner_of f g) x)
fault_text u f (certificate path fault) = certificate_text fault
fault_text u f (no_spec path g) = wrongs.Shape
fault_text u f (entry fault) = certificate_text fault
fault_text u f (bad_order d) = wrongs.Shape
