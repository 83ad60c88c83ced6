-- What is promised of sizes: how many values a function of core needs, and how many words, by the nodes of its source.
use Rattle.std.specs.Prelude.{◌≡◌, ◌≤◌, ℕ, ◌+◌, ◌*◌, List, Some, length, sum_by}
use Rattle.qs_syntax.specs.Trees.{UnitTree}
use Rattle.qs_syntax.specs.Nodes.{unit_count}
use Rattle.qs_types.specs.WellTyped.{WellTyped}
use Rattle.qs_core.specs.Trees.{CoreUnitTree}
use Rattle.qs_core.specs.Sizes.{values, words, unit_words}
use Rattle.qs_meaning.specs.Typed.{Function, TypedProgram}
use Rattle.qs_meaning.specs.Runs.{main_from}
use Rattle.qs_meaning.specs.Units.{functions_in, typed_of}
use Rattle.qs_elaborate_bodies.specs.Names.{FunctionNames}
use Rattle.qs_elaborate_bodies.specs.Units.{function_core, unit_core, core_of}
use Rattle.qs_elaborate_laws.specs.Counts.{expressions_in, nodes_in}

-- one for each variable, parameters among them, and two for each expression
abbrev pub ValuesAreFew : Type 0
ValuesAreFew = (names : FunctionNames) (g : Function) → values (function_core names g) ≤ length g.variables + 2 * expressions_in g

-- 24 for each node, and 32 for the function
abbrev pub WordsAreFew : Type 0
WordsAreFew = (names : FunctionNames) (g : Function) → words (function_core names g) ≤ 24 * nodes_in g + 32

-- and in a unit that has a main, with what stands before and behind its call
abbrev pub UnitWordsAreFew : Type 0
UnitWordsAreFew =
    (names : List FunctionNames) (u : TypedProgram) (main : ℕ) → main_from 0 u.functions ≡ Some main
    → unit_words (unit_core names u main) ≤ 24 * sum_by nodes_in u.functions + 32 * length u.functions

-- ---- the source

-- of a well typed unit no more nodes are counted than it has
abbrev pub NodesAreOfSource : Type 0
NodesAreOfSource = (unit : UnitTree) (u : TypedProgram) → WellTyped unit → typed_of unit ≡ Some u → sum_by nodes_in u.functions ≤ unit_count unit

-- so its core needs 24 words for each of its nodes, and 32 for each of its functions with a body
abbrev pub SourceWordsAreFew : Type 0
SourceWordsAreFew =
    (unit : UnitTree) (core : CoreUnitTree) → WellTyped unit → core_of unit ≡ Some core
    → unit_words core ≤ 24 * unit_count unit + 32 * length (functions_in unit)
