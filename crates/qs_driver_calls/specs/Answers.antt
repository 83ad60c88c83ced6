-- What the parts of the code of `calls` answer.
use Rattle.std.specs.Prelude.{◌≡◌, ◌⊎◌, ℕ, ℤ, Bool, List, Result, Ok, Err}
use Rattle.qs_syntax.specs.Trees.{UnitTree}
use Rattle.qs_memory.specs.declared.scalar.Scalar.{Scalar}
use Rattle.qs_assert.specs.declared.define.Amount.{Amount}
use Rattle.qs_entail.specs.Facts.{least, greatest_of_type}
use Rattle.qs_core.specs.FunctionNames.{function_name}
use Rattle.qs_core.specs.Trees.{CoreUnitTree}
use Rattle.qs_triples.specs.Derivations.{ProofsTree}
use Rattle.qs_triples.specs.TreeOf.{proofs_tree}
use Rattle.qs_triples.specs.Valuations.{number_type}
use Rattle.qs_triples.specs.declared.derivation.Proofs.{Proofs}
use Rattle.qs_certify.specs.Bound.{AreNumbersOf}
use Rattle.qs_machine.specs.Arguments.{is_between}
use Rattle.qs_ports.specs.StoreView.{StoreView}
use Rattle.qs_cli.specs.Commands.{CallsWords}
use Rattle.qs_cli.specs.Reading.{calls_words_of}
use Rattle.qs_cli.specs.declared.commands.CallsWords as code
use Rattle.qs_driver_steps.specs.Runs.{Runs, TakesAll}
use Rattle.qs_driver_session.specs.Due.{Due, refusal}
use Rattle.qs_driver_session.specs.Names.{Names, file_name}
use Rattle.qs_driver_session.specs.Shared.{ArgumentFault}
use Rattle.qs_driver_session.specs.declared.status.Status.{Status}
use Rattle.qs_driver_session.specs.declared.status.Status.TheVariants.{NoMemory}
use Rattle.qs_driver_calls.specs.Calls.{names_of, entry_wanted, of_entries, of_given, counted_proofs, HasMisfit, misfit_status, counted, of_text, calls}

-- ---- the arguments

-- whether a number is one of the type
abbrev pub is_number : Scalar → ℤ → Bool
is_number s z = is_between (least (number_type s)) (greatest_of_type (number_type s)) z

-- the answer of `fit_parameters`, for main's parameters of these types
abbrev pub FitsTypes : List Scalar → List ℤ → Result (Unit {0}) Status → Type 0
FitsTypes types args (Ok u) = AreNumbersOf types args
FitsTypes types args (Err status) =
    (f : ArgumentFault) × HasMisfit types args f × (status ≡ misfit_status types args f)

-- ---- the proofs

-- the answer of `entry_wanted`
abbrev pub IsEntryWanted : CoreUnitTree → (function : ℕ) → Status → Type 0
IsEntryWanted u f status =
    (status ≡ NoMemory) ⊎ (status ≡ entry_wanted (function_name u f))

-- the answers of `counted_entries`, of `counted_given` and of `counted_proofs`, whatever the store
abbrev pub CountsEntries : CoreUnitTree → (given : ProofsTree) → Result Proofs Status → Type 0
CountsEntries core given result =
    (v : StoreView) → TakesAll (of_entries core given) proofs_tree v v result

abbrev pub CountsGiven : CoreUnitTree → (given : ProofsTree) → Result Proofs Status → Type 0
CountsGiven core given result =
    (v : StoreView) → TakesAll (of_given core given) proofs_tree v v result

abbrev pub CountsProofs : CoreUnitTree → (text : List ℕ) → Result Proofs Status → Type 0
CountsProofs core text result =
    (v : StoreView) → TakesAll (counted_proofs core text) proofs_tree v v result

-- ---- the bound

-- what is due after the work on the store
abbrev pub counted_or_refused : Names → Result Amount Status → Due
counted_or_refused names (Ok bound) = counted bound
counted_or_refused names (Err status) = refusal names status

abbrev pub due_to : code.CallsWords → Result Amount Status → Due
due_to words work = counted_or_refused (names_of (calls_words_of words)) work

-- The answer of `count_unit`: so the steps behind the files end, whatever the names and the store.
abbrev pub EndsCounted :
    UnitTree → (text : List ℕ) → (args : List ℤ) → Result Amount Status → Type 0
EndsCounted unit text args work =
    (w : CallsWords) (v : StoreView) → w.args ≡ args
    → Runs (of_text w unit text) (file_name (names_of w)) v v (counted_or_refused (names_of w) work)

-- the answer of `count_file`
abbrev pub CountsFile : CallsWords → StoreView → StoreView → Result Amount Status → Type 0
CountsFile w before after work =
    Runs (calls w) (file_name (names_of w)) before after (counted_or_refused (names_of w) work)
