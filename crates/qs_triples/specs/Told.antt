-- What the code's answers say.
use Rattle.std.specs.Prelude.{◌≡◌, ℕ, Option, Some, None, List, reverse, Result, Ok, Err}
use Rattle.qs_base.specs.declared.function.FnId.{FnId}
use Rattle.qs_assert.specs.declared.variable.Var.{Var}
use Rattle.qs_assert.specs.Trees.{AssertionTree}
use Rattle.qs_core.specs.Trees.{CoreFunctionTree}
use Rattle.qs_entail.specs.declared.fault.CertFault.{CertFault}
use Rattle.qs_entail.specs.declared.fault.CertFault.TheVariants as certs
use Rattle.qs_entail.specs.Answers.{fault_of}
use Rattle.qs_entail.specs.Faults as certificates
use Rattle.qs_entail.specs.Faults.{step, limit}
use Rattle.qs_triples.specs.declared.failure.Cause.{Cause}
use Rattle.qs_triples.specs.declared.failure.Cause.TheVariants as causes
use Rattle.qs_triples.specs.declared.fault.DerivFault.{DerivFault}
use Rattle.qs_triples.specs.declared.fault.DerivFault.TheVariants as faults
use Rattle.qs_triples.specs.declared.fault.Place.{Place}
use Rattle.qs_triples.specs.declared.fault.Place.TheVariants as places
use Rattle.qs_triples.specs.declared.failure.Failure.{Failure}
use Rattle.qs_triples.specs.declared.failure.Failure.TheVariants as failures
use Rattle.qs_triples.specs.Entries.{mentions_fault, result_at_end}
use Rattle.qs_triples.specs.Rules as rules
use Rattle.qs_triples.specs.Rules.{unless_of, Answer, shape, mentions, in_precondition, in_postcondition, at_node, certificate, no_spec, entry, bad_order}

-- the number of the function that is called, if the variable is one of its own
abbrev pub callee_view : Option FnId → Option ℕ
callee_view None = None
callee_view (Some g) = Some g.0

-- ---- in the walk over a body

-- a fault at a path
abbrev pub fault_at : List ℕ → Cause → rules.DerivFault
fault_at path causes.Shape = shape path
fault_at path (causes.Mentions g x) = mentions (at_node path) (callee_view g) x
fault_at path (causes.Step inner rule) = certificate path (step inner.items rule)
fault_at path (causes.Limit inner l) = certificate path (limit inner.items (fault_of l))
fault_at path (causes.NoSpec g) = no_spec path g.0

-- the path is kept from the node on
abbrev pub FailsAs : Failure → Answer → Type 0
FailsAs failures.NoMemory answer = Unit {0}
FailsAs (failures.Fault path cause) answer = answer ≡ Err (fault_at (reverse path.items) cause)

-- what the code gives, or the fault that it tells, is the answer, want of memory aside
abbrev pub Follows : Result AssertionTree Failure → Answer → Type 0
Follows (Ok a) answer = answer ≡ Ok a
Follows (Err failure) answer = FailsAs failure answer

-- no such variable is found, or the answer is that it is mentioned, whatever comes next
abbrev pub PassesOf : (callee : Option ℕ) → Result (Unit {0}) Failure → Option Var → Type 0
PassesOf g (Ok u) found = found ≡ None
PassesOf g (Err failure) found = (next : Answer) → FailsAs failure (unless_of g found next)

abbrev pub Passes : Result (Unit {0}) Failure → Option Var → Type 0
Passes result found = PassesOf None result found

-- no such variable of the function that is called is found and this assertion is given, or the answer is that the
-- variable is mentioned
abbrev pub Carries : (callee : ℕ) → Result AssertionTree Failure → Option Var → AssertionTree → Type 0
Carries g (Ok a) found due = (found ≡ None) × (a ≡ due)
Carries g (Err failure) found due = (next : Answer) → FailsAs failure (unless_of (Some g) found next)

-- the same of one variable and then another
abbrev pub CarriesBehind :
    (callee : ℕ) → Result AssertionTree Failure → (found other : Option Var) → AssertionTree → Type 0
CarriesBehind g (Ok a) found other due = (found ≡ None) × ((other ≡ None) × (a ≡ due))
CarriesBehind g (Err failure) found other due =
    (next : Answer) → FailsAs failure (unless_of (Some g) found (unless_of (Some g) other next))

-- ---- of an entry

abbrev pub place_view : Place → rules.Place
place_view places.Precondition = in_precondition
place_view places.Postcondition = in_postcondition
place_view (places.Node path) = at_node path.items

-- the fault of a certificate there; want of memory is told apart from it
abbrev pub IsOfCertificate : (certificates.CertFault → rules.DerivFault) → CertFault → Option rules.DerivFault → Type 0
IsOfCertificate there certs.NoMemory due = ⊥
IsOfCertificate there (certs.Step path rule) due = due ≡ Some (there (step path.items rule))
IsOfCertificate there (certs.Limit path l) due = due ≡ Some (there (limit path.items (fault_of l)))

-- the fault that is told is the one that is due, want of memory aside
abbrev pub IsDue : DerivFault → Option rules.DerivFault → Type 0
IsDue faults.NoMemory due = Unit {0}
IsDue (faults.Shape path) due = due ≡ Some (shape path.items)
IsDue (faults.Mentions place g x) due = due ≡ Some (mentions (place_view place) (callee_view g) x)
IsDue (faults.Cert path fault) due = IsOfCertificate (certificate path.items) fault due
IsDue (faults.NoSpec path g) due = due ≡ Some (no_spec path.items g.0)
IsDue (faults.Entry fault) due = IsOfCertificate entry fault due
IsDue (faults.BadOrder d) due = due ≡ Some (bad_order d)

-- there is no fault, or the first one is told
abbrev pub Tells : Result (Unit {0}) DerivFault → Option rules.DerivFault → Type 0
Tells (Ok u) due = due ≡ None
Tells (Err fault) due = IsDue fault due

-- no variable is found, or it is told that it is mentioned there
abbrev pub TellsMention : Place → Option Var → Result (Unit {0}) DerivFault → Type 0
TellsMention place found result = Tells result (mentions_fault (place_view place) found)

-- the same of a postcondition that speaks of a result where the end of the body can be met
abbrev pub TellsResult : CoreFunctionTree → (post : AssertionTree) → Result (Unit {0}) DerivFault → Type 0
TellsResult f post result = TellsMention places.Postcondition (result_at_end f post) result

-- the order of definitions, or the first that breaks it
abbrev pub TellsOrder : Result (Unit {0}) DerivFault → Option ℕ → Type 0
TellsOrder (Ok u) first = first ≡ None
TellsOrder (Err (faults.BadOrder d)) first = first ≡ Some d
TellsOrder (Err faults.NoMemory) first = ⊥
TellsOrder (Err (faults.Shape path)) first = ⊥
TellsOrder (Err (faults.Mentions place g x)) first = ⊥
TellsOrder (Err (faults.Cert path fault)) first = ⊥
TellsOrder (Err (faults.NoSpec path g)) first = ⊥
TellsOrder (Err (faults.Entry fault)) first = ⊥
