-- Declared types in code, as the definitions see them.
pub use Rattle.qs_typing_findings.specs.PartsOf.{option_type}
use Rattle.std.specs.Prelude.{ℕ, Bool, not, ◌&&◌, ◌||◌, List, [], ◌∷◌, ◌++◌, Option, Some, Vec, map, option_map}
use Rattle.std.specs.declared.alloc.Global.{Global}
use Rattle.qs_types.specs.Types.{TypeTree, Structs}
use Rattle.qs_types.specs.declared.types.CType.{CType}
use Rattle.qs_types.specs.declared.rules.Rule.TheVariants as rules
use Rattle.qs_types.specs.Rules.{Test, keeps, test, breaks_one}
use Rattle.qs_types.specs.Declarations as declarations
use Rattle.qs_types.specs.Layout.{and_then, is_complete, is_sized}
use Rattle.qs_types.specs.TypeOf.{type_tree}
use Rattle.qs_typing_findings.specs.JudgedOf.{test_tree}
use Rattle.qs_typing_findings.specs.declared.judged.Test as made
use Rattle.qs_typing.specs.declared.declared_types.Declared.{Declared}

abbrev pub tests_and_type : List made.Test → Option CType → declarations.Declared
tests_and_type tests of = record { tests = map test_tree tests; type = option_map type_tree of }

abbrev pub declared_tree : Declared → declarations.Declared
declared_tree d = tests_and_type d.tests.items d.of

-- lengths, where each has a value
abbrev pub numbers : Option (Vec ℕ Global) → Option (List ℕ)
numbers = option_map (λ v. v.items)

-- one length, where it has a value
abbrev pub one_length : Option ℕ → Option (List ℕ)
one_length = option_map (λ n. n ∷ [])

-- some lengths and others behind them
abbrev pub all_lengths : Option (List ℕ) → Option (List ℕ) → Option (List ℕ)
all_lengths ns ms = and_then ns (λ ns. and_then ms (λ ms. Some (ns ++ ms)))

-- `void`, or a type that isn't complete, of elements of an object with a known base
abbrev pub is_incomplete : Structs → (is_void known : Bool) → (element : TypeTree) → Bool
is_incomplete structs is_void known element = is_void || (known && not (is_complete structs element))

-- the tests on the elements and the lengths of an object
abbrev pub object_tests : (known incomplete has_lengths : Bool) → List Test
object_tests known incomplete has_lengths =
    (keeps rules.UnknownTag known ++ test rules.IncompleteType incomplete) ++ keeps rules.ArrayLength has_lengths

-- an object of this type, which isn't too large where no other rule is broken
abbrev pub sized_by_tests : Structs → (known incomplete has_lengths : Bool) → TypeTree → declarations.Declared
sized_by_tests structs known incomplete has_lengths t =
    declarations.declared_by
    (object_tests known incomplete has_lengths
    ++ test rules.LargeType (not (breaks_one (object_tests known incomplete has_lengths)) && not (is_sized structs t))) t
