-- What whole sources do, for the examples: their runs from the initial memory, without arguments and input, within a bound that suffices.
use Rattle.std.proofs.Common.{ℕ, List, [], ◌∷◌, Option, Some, None}
use Rattle.qs_syntax.specs.Trees.{StmtTree, UnitTree}
use Rattle.qs_syntax.specs.Numbering.{numbered_unit}
use Rattle.qs_memory.specs.Partial.{◌>>=◌, only_if}
use Rattle.qs_events.specs.Events.{Calls, Returns}
use Rattle.qs_events.specs.BoundedRun.{BoundedRun, Ended, Undefined}
use Rattle.qs_types.specs.Rules.{Fault}
use Rattle.qs_types.specs.UnitRules.{faults_in}
use Rattle.qs_meaning.specs.Typed.{TypedProgram}
use Rattle.qs_meaning.specs.Units.{typed_of}
use Rattle.qs_meaning.specs.Fits.{program_fits}
use Rattle.qs_meaning.specs.Runs.{source_run}
use Rattle.qs_meaning.proofs.Samples.{main_}

-- a unit in which no rule is broken
abbrev pub faultless : List Fault → UnitTree → Option UnitTree
faultless [] unit = Some unit
faultless (fault ∷ faults) unit = None

abbrev pub typed_program : UnitTree → Option TypedProgram
typed_program unit = faultless (faults_in (numbered_unit unit)) (numbered_unit unit) >>= typed_of

-- and whose typed tree fits
abbrev pub program_of : UnitTree → Option TypedProgram
program_of unit = typed_program unit >>= λ u. only_if (program_fits u) (Some u)

abbrev pub outcome_within : ℕ → (input : List ℕ) → UnitTree → Option BoundedRun
outcome_within n input unit = program_of unit >>= λ u. Some (source_run u [] input n)

abbrev pub outcome : UnitTree → Option BoundedRun
outcome unit = outcome_within 3 [] unit

-- of a main alone
abbrev pub of_main : List StmtTree → Option BoundedRun
of_main ss = outcome (main_ ss ∷ [])

-- main alone ends with this status
abbrev pub ends : ℕ → Option BoundedRun
ends status = Some (Ended (Calls 0 ∷ Returns 0 ∷ []) status)

-- main alone comes to an undefined step
abbrev pub stuck : Option BoundedRun
stuck = Some (Undefined (Calls 0 ∷ []))
