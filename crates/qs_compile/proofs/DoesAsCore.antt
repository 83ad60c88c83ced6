-- An image that is built from a unit of core does what the unit does.
use Rattle.std.proofs.Common.{◌≡◌, ℕ, ℤ, true, List, sym, ap, ◌∙◌, arith}
use Rattle.std.proofs.lemmas.List.{length-map}
use Rattle.qs_base.specs.Words.{wrap}
use Rattle.qs_memory.specs.Values.{Value}
use Rattle.qs_memory.specs.Memory.{Memory}
use Rattle.qs_events.specs.Runs.{Left, has_ended, is_short, ending_of}
use Rattle.qs_events.specs.Weights.{Costs}
use Rattle.qs_events.proofs.RunLaws.{within_over, longer_runs_weigh_more}
use Rattle.qs_calls.specs.World.{RootRun, status_of}
use Rattle.qs_core.specs.Trees.{CoreUnitTree}
use Rattle.qs_core.specs.Units.{initial_memory}
use Rattle.qs_core.specs.Fits.{unit_fits}
use Rattle.qs_image.specs.Image.{Image}
use Rattle.qs_machine.specs.Arguments.{words_of}
use Rattle.qs_machine.specs.Run.{machine, least_stack_pointer}
use Rattle.qs_lower.proofs.LoweringLaws.{lowering_follows}
use Rattle.qs_emit.specs.Images.{AreCosts, IsWithinLimits}
use Rattle.qs_emit.specs.Emitted.{start_run, MayStart, FollowsFrom, Emitted}
use Rattle.qs_emit.proofs.ImageLaws.{images_follow}
use Rattle.qs_compile.specs.Follows.{Follows}
use Rattle.qs_compile.specs.Units.{linear, start_of, IsWithinSizes, MainReturns}
use Rattle.qs_compile.specs.Built.{IsBuiltFrom}
use Rattle.qs_compile.specs.AgreesWithCore.{values_of, runs_of, HasStack}
use Rattle.qs_compile.specs.Laws.{ImagesDoAsCore}
use Rattle.qs_compile.proofs.FollowLaws.{agreement_goes_through, accounts_go_through}
use Rattle.qs_compile.proofs.FitLaws.{words_small, may_start, returns_integer, first_memory, built_emittable}

module _ (u : CoreUnitTree) (image : Image) (fits : unit_fits u ≡ true) (sizes : IsWithinSizes u image) (returns : MainReturns u) (built : IsBuiltFrom u image) (limits : IsWithinLimits image) where
  emitted : Emitted (linear u) (initial_memory u) image
  emitted =
      images_follow (linear u) built.places (initial_memory u) image (built_emittable u image fits sizes built) (first_memory u fits)
      built.code limits

  module _ (costs : Costs) (args : List ℤ) (input : List ℕ) (size : ℕ) (are : AreCosts image costs) (has : HasStack u image costs args input size) where
    abbrev code : ℕ → RootRun
    code n = start_run (linear u) (initial_memory u) (words_of args) input n

    follows : Follows (runs_of u args input) code
    follows = record {
      forth = λ n. (lowering_follows u fits).forth u.main (values_of args) (start_of u input) n;
      back = λ m. (lowering_follows u fits).back u.main (values_of args) (start_of u input) m;
    }

    same_ended : (n : ℕ) (left : Left Value Memory) → ending_of (code n) ≡ has_ended left → runs_of u args input n ≡ code n
    same_ended n left ended = within_over (code n) (runs_of u args input n) (follows.back n) (λ short. apart left (sym ended ∙ short))
      where
        apart : (left : Left Value Memory) → has_ended left ≡ is_short → ⊥
        apart left e = cc

    may : MayStart (linear u) (initial_memory u) costs (words_of args) input size
    may = record {
      count = length-map args wrap ∙ has.arguments.count ∙ built.code.parameters;
      words = words_small args;
      bytes = has.bytes;
      most = has.most;
      enough = λ n.
          let less = longer_runs_weigh_more (Left Value Memory) costs (code n) (runs_of u args input n) (follows.back n) in
          let all = has.enough n in
          omega (arith, less, all);
      returns = λ n left ended.
          returns_integer u fits returns (values_of args) input n left
          (may_start u fits (words_of args) input (length-map args wrap ∙ has.arguments.count ∙ built.parameters) (words_small args) has.bytes)
          (ap ending_of (same_ended n left ended) ∙ ended);
    }

    from_start : FollowsFrom (linear u) (initial_memory u) image costs (words_of args) input size
    from_start = emitted.start costs (words_of args) input size are may

pub images_do_as_core : ImagesDoAsCore
images_do_as_core u image fits sizes returns built limits = record {
  agrees = record {
    agree = λ costs args input size are has.
        agreement_goes_through (Left Value Memory) status_of (runs_of u args input) (code u image fits sizes returns built limits costs args input size are has)
        (machine image size (words_of args) input) (follows u image fits sizes returns built limits costs args input size are has)
        (from_start u image fits sizes returns built limits costs args input size are has).agree;
    accounts = λ costs args input size are has.
        accounts_go_through (Left Value Memory) status_of (runs_of u args input) (code u image fits sizes returns built limits costs args input size are has)
        (machine image size (words_of args) input) costs (least_stack_pointer image size (words_of args) input)
        (follows u image fits sizes returns built limits costs args input size are has)
        (from_start u image fits sizes returns built limits costs args input size are has).accounts;
  };
  emitted = emitted u image fits sizes returns built limits;
}
