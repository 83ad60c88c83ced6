-- What ends the search, step by step.
use Rattle.std.proofs.Common.{ℕ, List, Option}
use Rattle.qs_assert.specs.Order.{IsInOrder}
use Rattle.qs_core.specs.Trees.{CoreUnitTree}
use Rattle.qs_triples.specs.Derivations.{ProofsTree}
use Rattle.qs_triples.specs.declared.resource.Resource.{Resource}
use Rattle.qs_certify.specs.Given.{GivenIs}
use Rattle.qs_certify.specs.Entries.{IsEntryFaultFor}
use Rattle.qs_certify.specs.Certification.{AreWrongFor, CannotCertify, CannotComplete, IsCycleFault, IsOrderFault, IsTextFault}
use Rattle.qs_certify.specs.declared.fault.CertifyFault.{CertifyFault}
use Rattle.qs_certify.specs.declared.fault.CertifyFault.TheVariants.{NoMemory, Text, Cycle, Order, Entry}

pub order_is_wrong : (resource : Resource) (u : CoreUnitTree) (proofs : ProofsTree) (fs : List ℕ) (fault : CertifyFault) → IsOrderFault proofs.defines fault → AreWrongFor resource u proofs fs fault
order_is_wrong resource u proofs fs NoMemory h = tt
order_is_wrong resource u proofs fs (Text fault) h = h
order_is_wrong resource u proofs fs (Cycle gs) h = h
order_is_wrong resource u proofs fs (Order name) h = h
order_is_wrong resource u proofs fs (Entry f fault) h = absurd h

pub entry_is_wrong : (resource : Resource) (u : CoreUnitTree) (proofs : ProofsTree) (fs : List ℕ) (fault : CertifyFault) → IsInOrder proofs.defines → IsEntryFaultFor resource u proofs fs fault → AreWrongFor resource u proofs fs fault
entry_is_wrong resource u proofs fs NoMemory order h = tt
entry_is_wrong resource u proofs fs (Text fault) order h = h
entry_is_wrong resource u proofs fs (Cycle gs) order h = h
entry_is_wrong resource u proofs fs (Order name) order h = absurd h
entry_is_wrong resource u proofs fs (Entry f fault) order h = record { in_order = order; first = h }

pub cycle_fails : (u : CoreUnitTree) (given : ProofsTree) (fault : CertifyFault) → IsCycleFault u given fault → CannotComplete u given fault
cycle_fails u given NoMemory h = tt
cycle_fails u given (Text fault) h = h
cycle_fails u given (Cycle fs) h = h
cycle_fails u given (Order name) h = absurd h
cycle_fails u given (Entry f fault) h = absurd h

pub text_fails : (u : CoreUnitTree) (file : Option (List ℕ)) (fault : CertifyFault) → IsTextFault u file fault → CannotCertify u file fault
text_fails u file NoMemory h = tt
text_fails u file (Text fault) h = h
text_fails u file (Cycle fs) h = absurd h
text_fails u file (Order name) h = absurd h
text_fails u file (Entry f fault) h = absurd h

pub given_fails : (u : CoreUnitTree) (file : Option (List ℕ)) (given : ProofsTree) → GivenIs u file given → (fault : CertifyFault) → CannotComplete u given fault → CannotCertify u file fault
given_fails u file given is NoMemory h = tt
given_fails u file given is (Text fault) h = absurd h
given_fails u file given is (Cycle fs) h = record { given = given; given_is = is; so = h }
given_fails u file given is (Order name) h = record { given = given; given_is = is; so = h }
given_fails u file given is (Entry f fault) h = record { given = given; given_is = is; so = h }

pub ruleset wrong_entries = (order_is_wrong, entry_is_wrong)

pub ruleset first_causes = (text_fails, given_fails)
