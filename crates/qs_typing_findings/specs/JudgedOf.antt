-- The pure tests that tests in code stand for.
use Rattle.std.specs.Prelude.{◌≡◌, List, map}
use Rattle.qs_types.specs.Rules as rules
use Rattle.qs_types.specs.Expressions as expressions
use Rattle.qs_types.specs.TypeOf.{type_tree}
use Rattle.qs_types.specs.declared.types.CType.{CType}
use Rattle.qs_typing_findings.specs.declared.judged.Test.{Test}
use Rattle.qs_typing_findings.specs.declared.judged.Judged.{Judged}

abbrev pub test_tree : Test → rules.Test
test_tree t = record { rule = t.rule; breaks = t.breaks }

abbrev pub judged_tree : Judged → expressions.Judged
judged_tree j = record { tests = map test_tree j.tests.items; type = type_tree j.of }

-- these tests and this type are an expression's
abbrev pub IsJudged : List Test → CType → Judged → Type 0
IsJudged tests of j = judged_tree j ≡ record { tests = map test_tree tests; type = type_tree of }
