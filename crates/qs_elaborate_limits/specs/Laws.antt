-- What is promised of the core of a unit that is read from tokens, is well typed and is within the limits: it is within limits of its own.
use Rattle.std.specs.Prelude.{◌≡◌, ◌≢◌, ◌≤◌, ℕ, ◌+◌, ◌*◌, List, Some, None, All, length, map}
use Rattle.qs_base.specs.Parameters.{most_main_parameters, most_parameters}
use Rattle.qs_syntax.specs.Trees.{UnitTree}
use Rattle.qs_syntax.specs.Units.{height_limit, IsRead}
use Rattle.qs_memory.specs.Values.{Value}
use Rattle.qs_memory.specs.Memory.{Memory}
use Rattle.qs_events.specs.Runs.{Left, has_ended, ending_of}
use Rattle.qs_types.specs.Limits.{node_limit, function_limit, global_limit, local_limit, IsWithinLimits}
use Rattle.qs_types.specs.WellTyped.{WellTyped}
use Rattle.qs_core.specs.Trees.{CoreUnitTree}
use Rattle.qs_core.specs.Units.{main_run}
use Rattle.qs_core.specs.Interfaces.{main_types}
use Rattle.qs_core.specs.Sizes.{held_in_all, values, most_arguments_in, unit_words}
use Rattle.qs_core.specs.Nesting.{unit_nesting}
use Rattle.qs_elaborate_bodies.specs.Units.{core_of}
use Rattle.qs_elaborate_limits.specs.Caps.{caps, needed, EachBelow}
use Rattle.qs_elaborate_limits.specs.Measures.{bytes_in_words, data_end, data_size}

-- this holds of the core of each such unit
abbrev pub OfEachCore : (CoreUnitTree → Type 0) → Type 0
OfEachCore Holds =
    (unit : UnitTree) (core : CoreUnitTree) → IsRead unit → WellTyped unit → IsWithinLimits unit → core_of unit ≡ Some core → Holds core

-- ---- functions

abbrev pub FunctionsAreFew : Type 0
FunctionsAreFew = OfEachCore (λ core. length core.functions ≤ function_limit)

abbrev pub ParametersAreFew : Type 0
ParametersAreFew = OfEachCore (λ core. All (λ f. length f.parameters ≤ most_parameters) core.functions)

-- main is given its arguments in registers
abbrev pub MainParametersAreFew : Type 0
MainParametersAreFew = OfEachCore (λ core. length (main_types core) ≤ most_main_parameters)

abbrev pub ArgumentsAreFew : Type 0
ArgumentsAreFew = OfEachCore (λ core. All (λ f. most_arguments_in f.body ≤ most_parameters) core.functions)

-- the words of its machine code
abbrev pub code_limit : ℕ
code_limit = 24 * node_limit + 32 * function_limit

abbrev pub CodeIsSmall : Type 0
CodeIsSmall = OfEachCore (λ core. unit_words core ≤ code_limit)

-- ---- what a call holds

-- one value for each level of a reading, where a left operand waits for a right one, and one for each argument of a call
abbrev pub held_limit : ℕ
held_limit = height_limit + most_parameters

abbrev pub HeldValuesAreFew : Type 0
HeldValuesAreFew = OfEachCore (λ core. All (λ f. held_in_all f.body ≤ held_limit) core.functions)

-- the values of a function
abbrev pub value_limit : ℕ
value_limit = 3 * node_limit

abbrev pub ValuesAreLimited : Type 0
ValuesAreLimited = OfEachCore (λ core. All (λ f. values f ≤ value_limit) core.functions)

abbrev pub PlacedBytesAreFew : Type 0
PlacedBytesAreFew = OfEachCore (λ core. All (λ f. bytes_in_words f.blocks ≤ local_limit) core.functions)

-- ---- how deep statements nest

-- one level of a reading is a loop, a sequence, a conditional and a sequence in it, at most
abbrev pub nesting_limit : ℕ
nesting_limit = 4 * height_limit

abbrev pub StatementsNestLittle : Type 0
StatementsNestLittle = OfEachCore (λ core. unit_nesting core ≤ nesting_limit)

-- ---- data

abbrev pub DataBytesAreFew : Type 0
DataBytesAreFew = OfEachCore (λ core. data_end (map data_size core.data_blocks) ≤ global_limit)

-- ---- main

-- where a run of main ends, main has returned a value
abbrev pub MainReturns : Type 0
MainReturns =
    OfEachCore (λ core. (arguments : List Value) (input : List ℕ) (n : ℕ) (end : Left Value Memory)
    → ending_of (main_run core arguments input n) ≡ has_ended end → end.result ≢ None)

-- ---- frames

-- a function of core needs at most the cap of its source
abbrev pub CapsAreKept : Type 0
CapsAreKept =
    (unit : UnitTree) (core : CoreUnitTree) → IsRead unit → WellTyped unit → core_of unit ≡ Some core → EachBelow (map needed core.functions) (caps unit)
