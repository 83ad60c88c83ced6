-- An image does what its unit does: every function of it, and main from its start.
use Rattle.std.proofs.Common.{◌≡◌, ℕ, ◌%◌, ◌≤◌, List, Option, Some, refl, sym, ap, ◌∙◌, subst, arith, min}
use Rattle.std.specs.Prelude.{map}
use Rattle.qs_memory.specs.Values.{Value, integer}
use Rattle.qs_memory.specs.Memory.{Memory}
use Rattle.qs_events.specs.Events.{Event, output_of}
use Rattle.qs_events.specs.Runs.{Left, Ending, has_ended, is_undefined, is_short, events_of, ending_of}
use Rattle.qs_events.specs.Weights.{Costs, weight}
use Rattle.qs_calls.specs.World.{World, RootRun, status_of, status_of_result}
use Rattle.qs_image.specs.Image.{Image}
use Rattle.qs_machine.specs.State.{State, stack_top}
use Rattle.qs_machine.specs.Run.{Exited, Going, run, start, least_from}
use Rattle.qs_tac.specs.Trees.{TacUnitTree}
use Rattle.qs_tac.specs.Places.{PlacesTree}
use Rattle.qs_emit.specs.Machine.{Watched, Sight, watched, Refines}
use Rattle.qs_emit.specs.Relation.{IsEmittable, Setup, cost_at}
use Rattle.qs_emit.specs.Started.{main_world, HasRoom, StartsTo}
use Rattle.qs_emit.specs.Images.{IsFirstMemory, AreCosts, IsImageOf, IsWithinLimits}
use Rattle.qs_emit.specs.Emitted.{start_run, IsInteger, MayStart, FollowsFrom, ImagesFollow}
use Rattle.qs_emit.proofs.WatchLaws.{least_is_least, watching_refines}
use Rattle.qs_emit.proofs.StartedLaws.{emitted_code_follows_from_start}
use Rattle.qs_emit.proofs.Costs.{tac_run_weighs}
use Rattle.qs_emit.proofs.Agreement.{Reaches, agrees, accounts}
use Rattle.qs_emit.proofs.Roots.{same_costs, functions_follow}
use Rattle.qs_emit.proofs.BeginLaws.{begins}
use Rattle.qs_emit.proofs.StartLaws.{quiet_room, begun, world, lay, at_start, starts}

module _ (u : TacUnitTree) (ps : List PlacesTree) (first : Memory) (image : Image) (emittable : IsEmittable u ps) (memory : IsFirstMemory u first) (is : IsImageOf u ps first image) (limits : IsWithinLimits image) (costs : Costs) (args input : List ℕ) (size : ℕ) (are : AreCosts image costs) (may : MayStart u first costs args input size) where
  abbrev s : Setup
  s = begun u ps first image emittable memory is limits costs args input size are may

  abbrev m : Watched
  m = at_start u ps first image emittable memory is limits costs args input size are may

  abbrev now : State
  now = start image args input

  abbrev source : ℕ → RootRun
  source n = start_run u first args input n

  weighs : (n : ℕ) → weight costs (events_of (source n)) ≡ weight (cost_at u ps) (events_of (source n))
  weighs n = (tac_run_weighs u costs (cost_at u ps) (same_costs u ps first image costs is are) u.main (map integer args) (world u ps first image emittable memory is limits costs args input size are may) n).weight

  room : (n : ℕ) → HasRoom s (map integer args) (world u ps first image emittable memory is limits costs args input size are may) m n
  room n = let e = weighs n in let le = may.enough n in let most = may.most in omega (arith, e, le, most)

  abbrev goes_at : ℕ → World
  goes_at n = main_world s (map integer args) (world u ps first image emittable memory is limits costs args input size are may) n

  comes : (n : ℕ) → StartsTo s n m (events_of (source n)) (ending_of (source n)) (goes_at n)
  comes n = (emitted_code_follows_from_start s (map integer args) (world u ps first image emittable memory is limits costs args input size are may) (lay u ps first image emittable memory is limits costs args input size are may) m (starts u ps first image emittable memory is limits costs args input size are may)).runs n (room n)

  -- the machine that is watched is the machine
  refined : (steps : ℕ) (x : Sight) → watched image (quiet_room size) steps m ≡ x → Refines x (run image size steps now) (min stack_top (least_from image size steps now))
  refined steps x e = subst (λ (y : Sight). Refines y (run image size steps now) (min stack_top (least_from image size steps now))) e (watching_refines image (quiet_room size) refl steps m (omega arith))

  low_is : (steps low : ℕ) → low ≡ min stack_top (least_from image size steps now) → least_from image size steps now ≡ low
  low_is steps low e = let le : least_from image size steps now ≤ stack_top = least_is_least image size steps now in omega (arith, e, le)

  status_is : (status : ℕ) (result : Option Value) → ((v : ℕ) → result ≡ Some (integer v) → status ≡ v % 256) → IsInteger result → status ≡ status_of_result result
  status_is status result h (v, e) = h v e ∙ ap status_of_result (sym e)

  reaches_by : (n : ℕ) (trace : List Event) (end : Ending (Left Value Memory)) (w : World) → weight costs trace ≡ weight (cost_at u ps) trace → ((left : Left Value Memory) → end ≡ has_ended left → IsInteger left.result) → StartsTo s n m trace end w → Reaches image size now costs status_of n trace end
  reaches_by n trace (has_ended left) w same returns h =
      let r = refined h.steps _ h.comes in
      let status = status_is h.status left.result h.is (returns left refl) in
      record {
        steps = h.steps;
        is = r.0 ∙ ap (λ (x : ℕ). Exited (output_of trace) x) status;
        least = let low = low_is h.steps _ r.1 in omega (arith, low, same);
      }
  reaches_by n trace is_undefined w same returns h = let r = refined h.steps _ h.comes in record { steps = h.steps; is = r.0 ∙ ap Going h.output }
  reaches_by n trace is_short w same returns h =
      let r = refined h.steps _ h.comes in
      record {
        steps = h.steps;
        enough = h.enough;
        is = r.0 ∙ ap Going h.seen.output;
        least = let low = low_is h.steps _ r.1 in let seen = h.seen.low in omega (arith, low, seen, same);
      }

  reaches : (n : ℕ) → Reaches image size now costs status_of n (events_of (source n)) (ending_of (source n))
  reaches n = reaches_by n (events_of (source n)) (ending_of (source n)) (goes_at n) (weighs n) (may.returns n) (comes n)

  from_start : FollowsFrom u first image costs args input size
  from_start = record {
    agree = agrees image size now costs status_of source reaches;
    accounts = accounts image size now costs status_of source reaches;
  }

pub images_follow : ImagesFollow
images_follow u ps first image emittable memory is limits = record {
  count = is.count;
  functions = functions_follow u ps first image emittable memory is limits;
  begins = begins u ps first image memory is limits;
  start = λ costs args input size are may. from_start u ps first image emittable memory is limits costs args input size are may;
}
