-- The entry that a function gets, and the entries of all functions of an order.
use Rattle.std.specs.Prelude.{ℕ, if◌then◌else◌, List, [], ◌∷◌, ◌++◌, Option, Some, None, option_map}
use Rattle.std.specs.List.{slice_get}
use Rattle.qs_memory.specs.Partial.{◌>>=◌}
use Rattle.qs_core.specs.CallGraph.{calls}
use Rattle.qs_core.specs.Trees.{CoreFunctionTree, CoreUnitTree}
use Rattle.qs_triples.specs.Derivations.{EntryTree, ProofsTree}
use Rattle.qs_recur.specs.Needs.{Preconditions, counting, passing}
use Rattle.qs_recur.specs.Passing.{passing_entry}
use Rattle.qs_recur.specs.Recursions.{pres_of}
use Rattle.qs_recur.specs.Written.{counting_entry}

-- of one that calls itself where it counts, else where it passes
abbrev pub entry_in : CoreUnitTree → Preconditions → (f : ℕ) → CoreFunctionTree → Option EntryTree
entry_in u pres f function =
    if calls u f f then option_map (λ c. counting_entry f c function) (counting u pres f function)
    else option_map (λ needs. passing_entry u pres function needs f) (passing u pres function)

-- by the preconditions of those that it calls
abbrev pub entry_for : CoreUnitTree → Preconditions → (f : ℕ) → Option EntryTree
entry_for u pres f = slice_get u.functions f >>= entry_in u pres f

-- proofs with these entries alone
abbrev pub proofs_of : List EntryTree → ProofsTree
proofs_of es = record { defines = []; functions = es }

abbrev pub with_entry : Option EntryTree → List EntryTree → List EntryTree
with_entry None es = es
with_entry (Some e) es = es ++ e ∷ []

-- function by function, each by the preconditions of those before it
abbrev pub entries_along : CoreUnitTree → (fs : List ℕ) → (earlier : List EntryTree) → List EntryTree
entries_along u [] es = es
entries_along u (f ∷ fs) es = entries_along u fs (with_entry (entry_for u (pres_of (proofs_of es)) f) es)
