-- `calls`: how many calls main makes at most, at some arguments.
use Rattle.std.specs.Prelude.{◌≡◌, ℕ, ℤ, List, [], ◌∷◌, length, Some, None, false}
use Rattle.qs_syntax.specs.Trees.{UnitTree}
use Rattle.qs_memory.specs.declared.scalar.Scalar.{Scalar}
use Rattle.qs_assert.specs.Order.{IsInOrder}
use Rattle.qs_assert.specs.declared.define.Amount.{Amount}
use Rattle.qs_core.specs.FunctionNames.{function_name}
use Rattle.qs_core.specs.Interfaces.{main_types}
use Rattle.qs_core.specs.Trees.{CoreUnitTree}
use Rattle.qs_triples.specs.Derivations.{ProofsTree}
use Rattle.qs_triples.specs.declared.resource.Resource.TheVariants.{Calls}
use Rattle.qs_certify.specs.Bound.{AreNumbersOf}
use Rattle.qs_certify.specs.Certification.{IsMisplaced}
use Rattle.qs_count.specs.Counted.{AreCounted}
use Rattle.qs_count.specs.Covered.{IsCovered, IsFirstMissing}
use Rattle.qs_count.specs.MainCount.{main_count}
use Rattle.qs_report.specs.Lines.{calls_line}
use Rattle.qs_cli.specs.Commands.{CallsWords}
use Rattle.qs_cli.specs.Reading.{calls_words_of}
use Rattle.qs_cli.specs.declared.commands.CallsWords as code
use Rattle.qs_driver_steps.specs.Pieces.{on_out}
use Rattle.qs_driver_steps.specs.Promises.{Order}
use Rattle.qs_driver_steps.specs.Reading.{deciding}
use Rattle.qs_driver_steps.specs.Steps.{Step, Steps, End, Command, gives, first, then}
use Rattle.qs_driver_session.specs.Due.{Due}
use Rattle.qs_driver_session.specs.Faults.{shown_of}
use Rattle.qs_driver_session.specs.Limits.{proof_limit}
use Rattle.qs_driver_session.specs.Names.{Names, no_names, file_name}
use Rattle.qs_driver_session.specs.Origin.{origin}
use Rattle.qs_driver_session.specs.Shared.{ArgumentFault, count_differs, misfit, reading_file}
use Rattle.qs_driver_session.specs.Statuses.{tool}
use Rattle.qs_driver_session.specs.Told.{place_of}
use Rattle.qs_driver_session.specs.declared.status.FileKind.TheVariants as kinds
use Rattle.qs_driver_session.specs.declared.status.ProofFault.TheVariants.{NoEntry}
use Rattle.qs_driver_session.specs.declared.status.Status.{Status}
use Rattle.qs_driver_session.specs.declared.status.Status.TheVariants.{Done, Proof, Words}
use Rattle.qs_driver_session.specs.declared.status.WordsFault.TheVariants.{ArgCount, ArgRange}
use Rattle.qs_driver_proofs.specs.Misfits.{CountDiffers, IsMisfit}
use Rattle.qs_driver_proofs.specs.Steps.{coring, reading_proofs, order_status, EntryRefusal, entry_status, LacksDerivation}

abbrev pub names_of : CallsWords → Names
names_of w = record no_names { source = w.source; derivation = w.proof }

-- ---- the proofs

-- this is the name of the first function that needs an entry and has none
pub record LacksEntry (core : CoreUnitTree) (given : ProofsTree) (name : List ℕ) : Type 0 where
  pub function : ℕ
  pub named : name ≡ function_name core function
  pub first : IsFirstMissing core given function

abbrev pub entry_wanted : List ℕ → Status
entry_wanted name = Proof (NoEntry name)

-- main, and each function that the body of an entry calls, has an entry: nothing is filled in
abbrev pub having_entries : CoreUnitTree → (given : ProofsTree) → Step tool
having_entries core given =
    deciding 10 (λ (u : Unit {0}). IsCovered core given)
    (λ (name : List ℕ). LacksEntry core given name) entry_wanted

-- the definitions are in order
abbrev pub ordering : (given : ProofsTree) → Step tool
ordering given =
    deciding 11 (λ (u : Unit {0}). IsInOrder given.defines)
    (λ (name : List ℕ). IsMisplaced given.defines name) order_status

-- each entry is derived where calls are counted
abbrev pub counting : CoreUnitTree → (given : ProofsTree) → Step tool
counting core given =
    deciding 12 (λ (u : Unit {0}). AreCounted core given)
    (λ (f : EntryRefusal).
    LacksDerivation Calls core given given f.function (place_of f.spot) f.wrong)
    entry_status

abbrev pub of_order : CoreUnitTree → (given : ProofsTree) → Steps tool ProofsTree
of_order core given = first (counting core given) (λ u. gives given)

abbrev pub of_entries : CoreUnitTree → (given : ProofsTree) → Steps tool ProofsTree
of_entries core given = first (ordering given) (λ u. of_order core given)

abbrev pub of_given : CoreUnitTree → (given : ProofsTree) → Steps tool ProofsTree
of_given core given = first (having_entries core given) (λ u. of_entries core given)

-- the proofs of this file, by which the calls of the core are counted
abbrev pub counted_proofs : CoreUnitTree → (text : List ℕ) → Steps tool ProofsTree
counted_proofs core text = first (reading_proofs core (Some text)) (of_given core)

-- ---- main's arguments

abbrev pub HasMisfit : List Scalar → List ℤ → ArgumentFault → Type 0
HasMisfit types args count_differs = CountDiffers types args (length types)
HasMisfit types args (misfit i) = IsMisfit types args i

abbrev pub misfit_status : List Scalar → List ℤ → ArgumentFault → Status
misfit_status types args count_differs = Words (ArgCount (length types) (length args))
misfit_status types args (misfit i) = Words (ArgRange i)

-- there is an argument for each of main's parameters, a number of its type
abbrev pub fitting_types : List Scalar → (args : List ℤ) → Step tool
fitting_types types args =
    deciding 15 (λ (u : Unit {0}). AreNumbersOf types args) (HasMisfit types args)
    (misfit_status types args)

-- ---- together

-- `out` gets the bound
abbrev pub counted : Amount → Due
counted bound = record { status = Done; pieces = on_out (calls_line (shown_of bound)) ∷ [] }

-- (It bounds the calls of each run of main: `CountsAreBounds`.)
abbrev pub calls_end : CallsWords → CoreUnitTree → (given : ProofsTree) → End tool
calls_end w core given =
    record { output = None; due = counted (main_count core given w.args); late = false }

abbrev pub of_proofs : CallsWords → CoreUnitTree → (given : ProofsTree) → Command tool
of_proofs w core given =
    first (fitting_types (main_types core) w.args) (λ u. gives (calls_end w core given))

abbrev pub of_core : CallsWords → (text : List ℕ) → CoreUnitTree → Command tool
of_core w text core = then (counted_proofs core text) (of_proofs w core)

abbrev pub of_text : CallsWords → UnitTree → (text : List ℕ) → Command tool
of_text w unit text = first (coring unit) (of_core w text)

abbrev pub of_unit : CallsWords → UnitTree → Command tool
of_unit w unit = first (reading_file kinds.Derivation proof_limit w.proof) (of_text w unit)

-- the source is a typed unit, the proof file counts its calls, and the arguments are main's
abbrev pub calls : CallsWords → Command tool
calls w = then (origin w.source) (of_unit w)

abbrev pub order_of : CallsWords → Order tool
order_of w = record { command = calls w; names = file_name (names_of w) }

-- the same of the words that the code holds
abbrev pub to_do : code.CallsWords → Order tool
to_do words = order_of (calls_words_of words)
