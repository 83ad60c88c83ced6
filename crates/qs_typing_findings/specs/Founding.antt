-- What code adds to what is found, as the definitions say.
use Rattle.std.specs.Prelude.{◌≡◌, ℕ, List, [], ◌∷◌, Option, None, map}
use Rattle.qs_types.specs.declared.referent.Referent.{Referent}
use Rattle.qs_typing_findings.specs.declared.found.Found.{Found}
use Rattle.qs_typing_findings.specs.declared.judged.Test.{Test}
use Rattle.qs_typing_findings.specs.Findings.{judged_at}
use Rattle.qs_typing_findings.specs.FoundOf.{found_tree}
use Rattle.qs_typing_findings.specs.JudgedOf.{test_tree}
use Rattle.qs_typing_findings.specs.Walk.{opened, with_addressed}

-- a place for the next node, whose name stands for this
abbrev pub Opens : Option Referent → (before after : Found) → Type 0
Opens referent before after = found_tree after ≡ opened None referent (found_tree before)

abbrev pub NotesAddressed : (node : ℕ) → (before after : Found) → Type 0
NotesAddressed node before after = found_tree after ≡ with_addressed (node ∷ []) (found_tree before)

-- the rules that a node breaks by these tests
abbrev pub NotesTests : (node : ℕ) → List Test → (before after : Found) → Type 0
NotesTests node tests before after = found_tree after ≡ judged_at node (map test_tree tests) (found_tree before)
