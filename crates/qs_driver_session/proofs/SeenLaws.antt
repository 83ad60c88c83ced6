-- A status in which nothing is free is the one that is seen; and which statuses are no ends.
use Rattle.std.proofs.Common.{◌≡◌, arith}
use Rattle.qs_driver_steps.proofs.RunsLaws.{AreNoEnds}
use Rattle.qs_driver_session.specs.Statuses.{tool, exactly, seen_proof, seen_as}
use Rattle.qs_driver_session.specs.declared.status.ProofFault.{ProofFault}
use Rattle.qs_driver_session.specs.declared.status.ProofFault.TheVariants.{Text, Cycle, NoEntry, Order, Entry}
use Rattle.qs_driver_session.specs.declared.status.Status.{Status}
use Rattle.qs_driver_session.specs.declared.status.Status.TheVariants.{Done, Source, Proof, Words, Missing, StoreFailed, Image, Elf, Trapped, StepLimit, NoBound, StackTooLarge, SinkFailed, NoMemory}

exact_proof : (fault : ProofFault) (r : Status) → seen_proof fault ≡ exactly r → Proof fault ≡ r
exact_proof (Text fault pos) r e = cc
exact_proof (Cycle functions) r e = absurd cc
exact_proof (NoEntry name) r e = cc
exact_proof (Order name) r e = cc
exact_proof (Entry function spot text) r e = absurd cc

pub seen_exactly : (status r : Status) → seen_as status ≡ exactly r → status ≡ r
seen_exactly Done r e = absurd cc
seen_exactly (Source fault) r e = cc
seen_exactly (Proof fault) r e = exact_proof fault r e
seen_exactly (Words fault) r e = cc
seen_exactly (Missing kind) r e = cc
seen_exactly (StoreFailed kind) r e = cc
seen_exactly (Image fault) r e = cc
seen_exactly (Elf fault) r e = cc
seen_exactly (Trapped cause pc) r e = absurd cc
seen_exactly (StepLimit steps) r e = absurd cc
seen_exactly (NoBound bound) r e = cc
seen_exactly (StackTooLarge size) r e = cc
seen_exactly SinkFailed r e = cc
seen_exactly NoMemory r e = cc

-- a store that failed, and want of memory, are no ends
pub no_ends : AreNoEnds tool
no_ends = record { store = λ kind. omega arith; memory = omega arith }
