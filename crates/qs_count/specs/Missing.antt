-- The first function without an entry, as the code looks for it: what is found so far, and what is behind it.
use Rattle.std.specs.Prelude.{ℕ, min, if◌then◌else◌, List, [], ◌∷◌, ◌++◌, map, Option, Some, None, option_map}
use Rattle.std.specs.List.{slice_get}
use Rattle.qs_base.specs.declared.function.FnId.{FnId}
use Rattle.qs_core.specs.CallGraph.{all_callees, callees_of}
use Rattle.qs_core.specs.TreeOf.{core_stmts}
use Rattle.qs_core.specs.Trees.{CoreUnitTree, stmts_of}
use Rattle.qs_core.specs.UnitTrees.{unit_tree}
use Rattle.qs_core.specs.declared.statements.CoreStmt.{CoreStmt}
use Rattle.qs_core.specs.declared.unit.CoreUnit.{CoreUnit}
use Rattle.qs_triples.specs.Derivations.{EntryTree, ProofsTree}
use Rattle.qs_triples.specs.Entries.{has_entry}
use Rattle.qs_triples.specs.TreeOf.{entry_tree, proofs_tree}
use Rattle.qs_triples.specs.declared.derivation.FunctionProof.{FunctionProof}
use Rattle.qs_triples.specs.declared.derivation.Proofs.{Proofs}

-- the earlier of what is found so far and this function
abbrev pub earlier : (found : Option ℕ) → ℕ → Option ℕ
earlier None f = Some f
earlier (Some g) f = Some (min g f)

abbrev pub with_function : ProofsTree → (found : Option ℕ) → ℕ → Option ℕ
with_function proofs found f = if has_entry proofs f then found else earlier found f

abbrev pub with_functions : ProofsTree → (found : Option ℕ) → List ℕ → Option ℕ
with_functions proofs found [] = found
with_functions proofs found (f ∷ fs) = with_functions proofs (with_function proofs found f) fs

-- the functions that the bodies of entries call
abbrev pub called_in : CoreUnitTree → List EntryTree → List ℕ
called_in u [] = []
called_in u (e ∷ es) = callees_of (slice_get u.functions e.function) ++ called_in u es

-- ---- of the code's values

abbrev pub number_of : Option FnId → Option ℕ
number_of found = option_map (λ (f : FnId). f.0) found

abbrev pub with_one : Proofs → Option FnId → ℕ → Option ℕ
with_one proofs found f = with_function (proofs_tree proofs) (number_of found) f

abbrev pub with_all : Proofs → Option FnId → List ℕ → Option ℕ
with_all proofs found fs = with_functions (proofs_tree proofs) (number_of found) fs

-- the functions that statements call, those of the body of a function, and those of the bodies of entries
abbrev pub callees_below : List CoreStmt → List ℕ
callees_below ss = all_callees (stmts_of (core_stmts ss))

abbrev pub callees_in : CoreUnit → (function : ℕ) → List ℕ
callees_in unit f = callees_of (slice_get (unit_tree unit).functions f)

abbrev pub called_by_entries : CoreUnit → List FunctionProof → List ℕ
called_by_entries unit entries = called_in (unit_tree unit) (map entry_tree entries)
