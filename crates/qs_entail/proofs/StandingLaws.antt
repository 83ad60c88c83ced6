-- The answers at the root.
use Rattle.std.proofs.Common.{◌≡◌, ◌++◌, ℕ, List, [], Bool, true, false, refl, sym, ap, ◌∙◌, subst}
use Rattle.std.specs.Prelude.{if◌then◌else◌, Option, Some, None, Result, Ok, Err, OnOk, Vec}
use Rattle.std.specs.declared.alloc.Global.{Global}
use Rattle.qs_assert.specs.Trees.{CondTree, AssertionTree}
use Rattle.qs_entail.specs.declared.fault.Rule.{Rule}
use Rattle.qs_entail.specs.declared.fault.CertFault.{CertFault}
use Rattle.qs_entail.specs.declared.failed.Failed.{Failed}
use Rattle.qs_entail.specs.declared.failed.Failed.TheVariants as failures
use Rattle.qs_entail.specs.declared.stop.Stop.{Stop}
use Rattle.qs_entail.specs.declared.stop.Stop.TheVariants.{NoMemory, Breaks, Passes}
use Rattle.qs_entail.specs.Answers.{FollowsAs, fault_of}
use Rattle.qs_base.specs.Results.{bind}
use Rattle.qs_entail.specs.Building as building
use Rattle.qs_entail.specs.Building.{breaks}
use Rattle.qs_entail.specs.Faults as faults
use Rattle.qs_entail.specs.Faults.{step, limit, node}
use Rattle.qs_assert.specs.declared.define.Define.{Define}
use Rattle.qs_entail.specs.Certificates.{CertTree}
use Rattle.qs_assert.specs.Order.{IsInOrder}
use Rattle.qs_entail.specs.Meaning.{Above}
use Rattle.qs_entail.proofs.Soundness.{certificates_are_sound}
use Rattle.qs_entail.specs.Said.{Tells}
use Rattle.qs_entail.specs.Standing.{counted, told}
use Rattle.qs_entail.specs.Facts.{different_sides}
use Rattle.qs_entail.specs.Verdicts.{is_given, has_count, verdict}
use Rattle.qs_entail.specs.Walking.{Place, Says, failure_of}

-- ---- what is given

pub given_some : {A : Type 0} (r : Result A building.Stop) (a : A) → r ≡ Ok a → true ≡ is_given r
given_some r a h = sym (ap is_given h)

pub given_none : {A : Type 0} (r : Result A building.Stop) → r ≡ Err breaks → false ≡ is_given r
given_none r h = sym (ap is_given h)

pub apart_some : (r : Result CondTree building.Stop) (c : CondTree) (b : Bool) → r ≡ Ok c → b ≡ is_given (different_sides c) → b ≡ is_given (bind r different_sides)
apart_some r c b e h = h ∙ sym (ap (λ r. is_given (bind r different_sides)) e)

pub apart_none : (r : Result CondTree building.Stop) → r ≡ Err breaks → false ≡ is_given (bind r different_sides)
apart_none r e = sym (ap (λ r. is_given (bind r different_sides)) e)

pub has_so_many : (n : ℕ) (c : Option ℕ) (r : Result ℕ building.Stop) (b : Bool) → r ≡ counted c → b ≡ has_count n (counted c) → b ≡ has_count n r
has_so_many n c r b e h = h ∙ sym (ap (has_count n) e)

-- ---- the fault that is told

pub tells_fault : (old new : Place) (path : Vec ℕ Global) (f : Failed) (v : Option faults.CertFault) → old.path ≡ [] → new.path ≡ path.items → Says old new (Err f) v → Tells (Err (told path f)) v
tells_fault old new path failures.NoMemory v a b h = tt
tells_fault old new path (failures.Step r) None a b h = absurd h
tells_fault old new path (failures.Step r) (Some (step p n)) a b h =
    (λ i. Some (step ((sym (ap (λ q. q ++ p) a) ∙ (sym h.1 ∙ b)) i) (sym h.0 i)))
tells_fault old new path (failures.Step r) (Some (limit p f)) a b h = absurd h
tells_fault old new path (failures.Limit l) None a b h = absurd h
tells_fault old new path (failures.Limit l) (Some (step p n)) a b h = absurd h
tells_fault old new path (failures.Limit l) (Some (limit p f)) a b h =
    (λ i. Some (limit ((sym (ap (λ q. q ++ p) a) ∙ (sym h.1 ∙ b)) i) (sym h.0 i)))

pub tells_ok : (old new : Place) (x y : Unit {0}) (v : Option faults.CertFault) → Says old new (Ok x) v → Tells (Ok y) v
tells_ok old new x y None h = refl
tells_ok old new x y (Some f) h = absurd h

pub tells_stopped : {A B : Type 0} (rule broken : Rule) (path : Vec ℕ Global) (stop : Stop) (view : A → B) (attempt : Result B building.Stop) (others : B → Option faults.CertFault) → rule ≡ broken → path.items ≡ [] → FollowsAs view (Err stop) attempt → Tells (Err (told path (failure_of rule stop))) (node broken attempt others)
tells_stopped rule broken path NoMemory view attempt others a b h = tt
tells_stopped rule broken path Breaks view attempt others a b h =
    ap (λ r. node broken r others) h ∙ (λ i. Some (step (sym b i) (sym a i)))
tells_stopped rule broken path (Passes l) view attempt others a b h =
    ap (λ r. node broken r others) h ∙ (λ i. Some (limit (sym b i) (fault_of l)))

pub tells_given : {B : Type 0} (rule : Rule) (b : B) (r : Result (Unit {0}) CertFault) (attempt : Result B building.Stop) (others : B → Option faults.CertFault) → attempt ≡ Ok b → Tells r (others b) → Tells r (node rule attempt others)
tells_given rule b r attempt others e h = subst (λ a. Tells r (node rule a others)) (sym e) h

pub root_stands : (s b : Bool) (rule : Rule) (r : Result (Unit {0}) CertFault) (v : Option faults.CertFault) → b ≡ s → b ≡ true → Tells r v → Tells r (if s then v else Some (step [] rule))
root_stands true b rule r v e t h = h
root_stands false b rule r v e t h = absurd (let k : true ≡ false = sym t ∙ e in cc)

pub root_fails : (s b : Bool) (rule broken : Rule) (path : Vec ℕ Global) (v : Option faults.CertFault) → b ≡ s → b ≡ false → rule ≡ broken → path.items ≡ [] → Tells (Err (told path (failures.Step rule))) (if s then v else Some (step [] broken))
root_fails true b rule broken path v e t a p = absurd (let k : false ≡ true = sym t ∙ e in cc)
root_fails false b rule broken path v e t a p = λ i. Some (step (sym p i) (sym a i))

-- ---- soundness

pub sound_of : (r : Result (Unit {0}) CertFault) (hypotheses : List CondTree) (ds : List Define) (p q : AssertionTree) (c : CertTree) → Tells r (verdict hypotheses ds p q c) → OnOk r (IsInOrder ds → Above hypotheses ds p q)
sound_of (Ok u) hypotheses ds p q c h = λ order. certificates_are_sound hypotheses ds p q c order h
sound_of (Err fault) hypotheses ds p q c h = tt
