-- What the code answers for an attempt.
use Rattle.std.specs.Prelude.{◌≡◌, MatchOption, List, Vec, Option, Result, Ok, Err}
use Rattle.std.specs.declared.alloc.Global.{Global}
use Rattle.qs_poly.specs.declared.fault.PolyFault.{PolyFault}
use Rattle.qs_poly.specs.declared.fault.PolyFault.TheVariants as faults
use Rattle.qs_poly.specs.declared.fault.PolyFault.TheVariants.{Wide, ManyTerms, HighDegree}
use Rattle.qs_entail.specs.declared.stop.Limit.{Limit}
use Rattle.qs_entail.specs.declared.stop.Limit.TheVariants.{Coefficient, Terms, Degree}
use Rattle.qs_entail.specs.declared.stop.Stop.{Stop}
use Rattle.qs_entail.specs.declared.stop.Stop.TheVariants.{NoMemory, Breaks, Passes}
use Rattle.qs_entail.specs.Building as building
use Rattle.qs_entail.specs.Building.{breaks, passes}

abbrev pub fault_of : Limit → PolyFault
fault_of Coefficient = Wide
fault_of Terms = ManyTerms
fault_of Degree = HighDegree

abbrev pub stop_of : PolyFault → Stop
stop_of faults.NoMemory = NoMemory
stop_of Wide = Passes Coefficient
stop_of ManyTerms = Passes Terms
stop_of HighDegree = Passes Degree

-- what the code gives is seen as what the attempt gives, and it fails as the attempt fails, want of
-- memory aside
abbrev pub FollowsAs : {A B : Type 0} → (A → B) → Result A Stop → Result B building.Stop → Type 0
FollowsAs view (Ok a) attempt = attempt ≡ Ok (view a)
FollowsAs view (Err NoMemory) attempt = Unit {0}
FollowsAs view (Err Breaks) attempt = attempt ≡ Err breaks
FollowsAs view (Err (Passes limit)) attempt = attempt ≡ Err (passes (fault_of limit))

abbrev pub Follows : {A : Type 0} → Result A Stop → Result A building.Stop → Type 0
Follows result attempt = FollowsAs (λ a. a) result attempt

-- the items of a vector
abbrev pub ListFollows : {A : Type 0} → Result (Vec A Global) Stop → Result (List A) building.Stop → Type 0
ListFollows result attempt = FollowsAs (λ v. v.items) result attempt

-- what is found is seen as what the attempt gives, and nothing is found where it breaks
abbrev pub FindsAs : {A B : Type 0} → (A → B) → Option A → Result B building.Stop → Type 0
FindsAs view found attempt = MatchOption found (attempt ≡ Err breaks) (λ a. attempt ≡ Ok (view a))

abbrev pub Finds : {A : Type 0} → Option A → Result A building.Stop → Type 0
Finds found attempt = FindsAs (λ a. a) found attempt
