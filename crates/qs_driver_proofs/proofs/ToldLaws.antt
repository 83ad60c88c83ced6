-- How a fault of an entry is told.
use Rattle.std.proofs.Common.{◌≡◌, ◌<◌, ℕ, List, length, map, Option, refl, ap, inr, subst}
use Rattle.std.proofs.lemmas.List.{length-map}
use Rattle.std.specs.Prelude.{Vec}
use Rattle.std.specs.declared.alloc.Global.{Global}
use Rattle.qs_base.specs.declared.function.FnId.{FnId}
use Rattle.qs_core.specs.Trees.{CoreUnitTree}
use Rattle.qs_core.specs.TreeOf.{function_tree}
use Rattle.qs_core.specs.UnitTrees.{unit_tree}
use Rattle.qs_core.specs.FunctionNames.{function_name}
use Rattle.qs_core.specs.declared.unit.CoreUnit.{CoreUnit}
use Rattle.qs_callgraph.specs.CallLists.{numbers}
use Rattle.qs_triples.specs.declared.fault.DerivFault.{DerivFault}
use Rattle.qs_triples.specs.declared.fault.DerivFault.TheVariants as entries
use Rattle.qs_triples.specs.declared.fault.Place.TheVariants as places
use Rattle.qs_entail.specs.declared.fault.CertFault.{CertFault}
use Rattle.qs_certify.specs.declared.fault.CertifyFault.TheVariants as faults
use Rattle.qs_report.specs.declared.fault_texts.Path.{Path}
use Rattle.qs_report.specs.declared.fault_texts.Spot.{Spot}
use Rattle.qs_report.specs.declared.fault_texts.Spot.TheVariants as spots
use Rattle.qs_report.specs.declared.fault_texts.ProofText.{ProofText}
use Rattle.qs_report.specs.declared.fault_texts.ProofText.TheVariants as wrongs
use Rattle.qs_driver_session.specs.declared.status.ProofFault.{ProofFault}
use Rattle.qs_driver_session.specs.declared.status.ProofFault.TheVariants.{Cycle, Entry}
use Rattle.qs_driver_session.specs.declared.status.Status.TheVariants.{Proof}
use Rattle.qs_driver_proofs.specs.Refusals.{path_is, IsCertificateTold, IsEntryTold, IsMentionPlace, IsToldAs, TellsFault}

-- the path is these steps
steps_are : (node : Path) (steps : Vec ℕ Global) → node.steps ≡ steps → path_is node steps.items
steps_are node steps e = ap (λ (v : Vec ℕ Global). v.items) e

pub node_is_told : (path : Vec ℕ Global) (node : Path) → node.steps ≡ path → IsMentionPlace (places.Node path) (spots.Body node)
node_is_told path node e = (node, refl, steps_are node path e)

pub shape_is_told : (u : CoreUnitTree) (f : ℕ) (path : Vec ℕ Global) (node : Path) → node.steps ≡ path → IsToldAs u f (entries.Shape path) (spots.Body node) wrongs.Shape
shape_is_told u f path node e = (node, refl, steps_are node path e, refl)

pub body_is_told : (u : CoreUnitTree) (f : ℕ) (path : Vec ℕ Global) (fault : CertFault) (node inner : Path) (text : ProofText) → node.steps ≡ path → IsCertificateTold fault inner text → IsToldAs u f (entries.Cert path fault) (spots.BodyCert node inner) text
body_is_told u f path fault node inner text e told = (node, inner, refl, steps_are node path e, told.0, told.1)

pub entry_is_told : (u : CoreUnitTree) (f : ℕ) (fault : CertFault) (inner : Path) (text : ProofText) → IsCertificateTold fault inner text → IsToldAs u f (entries.Entry fault) (spots.Entry inner) text
entry_is_told u f fault inner text told = (inner, refl, told.0, told.1)

pub named_is_told : (u : CoreUnitTree) (f : ℕ) (fault : DerivFault) (name : List ℕ) (spot : Spot) (text : ProofText) → name ≡ function_name u f → IsToldAs u f fault spot text → IsEntryTold u f fault (Entry name spot text)
named_is_told u f fault name spot text e told = (spot, text, ap (λ (n : List ℕ). Entry n spot text) e, told)

pub entry_told : (u : CoreUnitTree) (file : Option (List ℕ)) (f : FnId) (fault : DerivFault) (told : ProofFault) → IsEntryTold u f.0 fault told → TellsFault u file (faults.Entry f fault) (Proof told)
entry_told u file f fault told is = inr (told, refl, is)

pub cycle_is_told : (u : CoreUnitTree) (file : Option (List ℕ)) (fs : Vec FnId Global) (names : Vec (List ℕ) Global) → names.items ≡ map (function_name u) (numbers fs.items) → TellsFault u file (faults.Cycle fs) (Proof (Cycle names))
cycle_is_told u file fs names e = inr (Cycle names, refl, (names, refl, e))

-- a function of the core is one of the unit's
pub known_function : (unit : CoreUnit) (f : ℕ) → f < length (unit_tree unit).functions → f < length unit.functions.items
known_function unit f known = subst (λ (n : ℕ). f < n) (length-map unit.functions.items function_tree) known
