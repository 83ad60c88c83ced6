-- What the code of `calls` shows.
use Rattle.std.proofs.Common.{◌≡◌, ◌∙◌, ℕ, ◌≤◌, List, length, Some, Result, Ok, Err, refl, sym, ap, subst, inl, inr}
use Rattle.std.proofs.lemmas.Option.{same_Some}
use Rattle.qs_base.specs.Parameters.{most_main_parameters}
use Rattle.qs_syntax.specs.Trees.{UnitTree}
use Rattle.qs_typing_findings.specs.TypedOf.{typed_tree}
use Rattle.qs_typing_findings.specs.declared.typed_unit.TypedUnit.{TypedUnit}
use Rattle.qs_typing_findings.proofs.TypedLaws.{is_read}
use Rattle.qs_assert.specs.declared.define.Amount.{Amount}
use Rattle.qs_core.specs.Interfaces.{main_types}
use Rattle.qs_core.specs.Trees.{CoreUnitTree}
use Rattle.qs_elaborate_bodies.specs.Units.{core_of}
use Rattle.qs_elaborate_laws.proofs.FitCore.{units_have_cores}
use Rattle.qs_elaborate_limits.proofs.MainParameters.{main_parameters_are_few}
use Rattle.qs_triples.specs.Derivations.{ProofsTree}
use Rattle.qs_certify.specs.Bound.{AreNumbersOf}
use Rattle.qs_count.specs.MainCount.{main_count}
use Rattle.qs_ports.specs.SinkView.{SinkView}
use Rattle.qs_ports.specs.StoreView.{StoreView}
use Rattle.qs_report.specs.Lines.{calls_line}
use Rattle.qs_cli.specs.Commands.{CallsWords}
use Rattle.qs_driver_steps.specs.Devices.{streams, views_of}
use Rattle.qs_driver_steps.specs.Promises.{Answers}
use Rattle.qs_driver_steps.specs.Runs.{Halts, Halted, Passes, Passed, Runs, finished, lacks_memory}
use Rattle.qs_driver_steps.proofs.StoreLaws.{untouched}
use Rattle.qs_driver_steps.proofs.ThenLaws.{then_halted, passed_halted, then_passed, is_refused, is_ended}
use Rattle.qs_driver_session.specs.Due.{Due, refusal, EndsWith, IsWritten}
use Rattle.qs_driver_session.specs.Faults.{shown_of, status_line}
use Rattle.qs_driver_session.specs.Limits.{proof_limit}
use Rattle.qs_driver_session.specs.Names.{file_name}
use Rattle.qs_driver_session.specs.Origin.{origin}
use Rattle.qs_driver_session.specs.Shared.{ArgumentFault, reading_file}
use Rattle.qs_driver_session.specs.declared.status.FileKind.TheVariants as kinds
use Rattle.qs_driver_session.specs.declared.status.Status.{Status}
use Rattle.qs_driver_session.specs.declared.status.Status.TheVariants.{Done, NoMemory}
use Rattle.qs_driver_session.proofs.PieceLaws.{log_last, out_last}
use Rattle.qs_driver_proofs.specs.Steps.{IsCoreOf}
use Rattle.qs_driver_proofs.proofs.StepsLaws.{is_core, no_core}
use Rattle.qs_driver_calls.specs.Answers.{counted_or_refused, FitsTypes, CountsFile}
use Rattle.qs_driver_calls.specs.Calls.{names_of, counted_proofs, HasMisfit, misfit_status, counted, calls_end, of_proofs, of_text, of_unit, calls, order_of}
use Rattle.qs_driver_calls.proofs.CallsSteps.{types_fit, types_unfit}

-- ---- a typed unit

module _ (typed : TypedUnit) (core : CoreUnitTree) (is : core_of (typed_tree typed) ≡ Some core) where
  -- it has this core, as which it runs
  pub has_core : IsCoreOf (typed_tree typed) core
  has_core =
      let there = units_have_cores (typed_tree typed) (is_read typed) typed.well_typed typed.within_limits in
      record { has_core = there; is = same_Some there.core core (sym there.is ∙ is) }

  -- and main takes few arguments
  pub few_parameters : length (main_types core) ≤ most_main_parameters
  few_parameters = main_parameters_are_few (typed_tree typed) core (is_read typed) typed.well_typed typed.within_limits is

-- ---- behind the files

module _ (w : CallsWords) (unit : UnitTree) (text : List ℕ) (v : StoreView) where
  abbrev Ends : Result Amount Status → Type 0
  Ends work = Runs (of_text w unit text) (file_name (names_of w)) v v (counted_or_refused (names_of w) work)

  pub no_core_ends : Ends (Err NoMemory)
  no_core_ends = is_refused (of_text w unit text) (file_name (names_of w)) v v NoMemory (inl (no_core unit v))

  module _ (core : CoreUnitTree) (is : IsCoreOf unit core) where
    pub no_proofs : (status : Status) → Halted (counted_proofs core text) v v status → Ends (Err status)
    no_proofs status h = is_refused (of_text w unit text) (file_name (names_of w)) v v status (inr (v, core, is_core unit v core is, then_halted (of_proofs w core) (counted_proofs core text) v v status h))

    module _ (given : ProofsTree) (p : Passed (counted_proofs core text) v v given) where
      unfit : (f : ArgumentFault) → HasMisfit (main_types core) w.args f → Ends (Err (misfit_status (main_types core) w.args f))
      unfit f c =
          let status : Status = misfit_status (main_types core) w.args f in
          is_refused (of_text w unit text) (file_name (names_of w)) v v status
          (inr (v, core, is_core unit v core is, passed_halted (of_proofs w core) (counted_proofs core text) v v v given status p (inl (types_unfit (main_types core) w.args v f c))))

      pub no_arguments : (status : Status) → FitsTypes (main_types core) w.args (Err status) → Ends (Err status)
      no_arguments status (f, c, e) = subst (λ (x : Status). Ends (Err x)) (sym e) (unfit f c)

      all_pass : AreNumbersOf (main_types core) w.args → Passed (of_text w unit text) v v (calls_end w core given)
      all_pass are = (v, core, is_core unit v core is, then_passed (of_proofs w core) (counted_proofs core text) v v v given (calls_end w core given) p (v, tt, types_fit (main_types core) w.args v are, (refl, refl)))

      pub no_count : AreNumbersOf (main_types core) w.args → Ends (Err NoMemory)
      no_count are = is_ended (of_text w unit text) (file_name (names_of w)) v v v (calls_end w core given) (refusal (names_of w) NoMemory) (all_pass are) (lacks_memory (untouched v) refl)

      pub was_counted : AreNumbersOf (main_types core) w.args → (bound : Amount) → bound ≡ main_count core given w.args → Ends (Ok bound)
      was_counted are bound e = is_ended (of_text w unit text) (file_name (names_of w)) v v v (calls_end w core given) (counted bound) (all_pass are) (finished (untouched v) (ap counted e))

-- ---- the files

module _ (w : CallsWords) (v u : StoreView) where
  pub no_source : (status : Status) → Halted (origin w.source) v u status → CountsFile w v u (Err status)
  no_source status h = is_refused (calls w) (file_name (names_of w)) v u status (then_halted (of_unit w) (origin w.source) v u status h)

  module _ (unit : UnitTree) (p : Passed (origin w.source) v u unit) (x : StoreView) where
    pub no_proof_file : (status : Status) → Halts (reading_file kinds.Derivation proof_limit w.proof) u x status → CountsFile w v x (Err status)
    no_proof_file status h = is_refused (calls w) (file_name (names_of w)) v x status (passed_halted (of_unit w) (origin w.source) v u x unit status p (inl h))

    -- the steps behind the files end so
    pub behind_files : (text : List ℕ) → Passes (reading_file kinds.Derivation proof_limit w.proof) u x text → (due : Due) → Runs (of_text w unit text) (file_name (names_of w)) x x due → Runs (calls w) (file_name (names_of w)) v x due
    behind_files text r due (inl (status, h, e)) =
        inl (status, passed_halted (of_unit w) (origin w.source) v u x unit status p (inr (x, text, r, h)), e)
    behind_files text r due (inr (end, y, q, f)) =
        inr (end, y, then_passed (of_unit w) (origin w.source) v u y unit end p (x, text, r, q), f)

-- ---- what is put after that

pub bound_put : (w : CallsWords) (bound : Amount) (l v x : SinkView) (result : Status) → EndsWith (calls_line (shown_of bound)) Done v x result → IsWritten (counted_or_refused (names_of w) (Ok bound)) (streams v l) (streams x l) result
bound_put w bound l v x result h = out_last Done (calls_line (shown_of bound)) l v x result h

pub fault_put : (w : CallsWords) (status : Status) (o v x : SinkView) (result : Status) → EndsWith (status_line (names_of w) status) status v x result → IsWritten (counted_or_refused (names_of w) (Err status)) (streams o v) (streams o x) result
fault_put w status o v x result h = log_last status (status_line (names_of w) status) o v x result h

pub calls_answers : (w : CallsWords) (s s' : StoreView) (o o' l l' : SinkView) (work : Result Amount Status) (result : Status) → CountsFile w s s' work → IsWritten (counted_or_refused (names_of w) work) (streams o l) (streams o' l') result → Answers (order_of w) (views_of s o l) (views_of s' o' l') result
calls_answers w s s' o o' l l' work result runs h = record { due = counted_or_refused (names_of w) work; runs = runs; written = h }
