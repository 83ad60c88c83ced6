-- Which proofs can be filled, and what is added.
use Rattle.std.specs.Prelude.{◌≡◌, ℕ, ◌<◌, ◌==◌, Bool, true, if◌then◌else◌, List, [], ◌∷◌, ◌++◌, length, map, Option, Some, None, Result, IfOk}
use Rattle.std.specs.declared.alloc.Global.{Global}
use Rattle.std.specs.declared.vec.Vec.{Vec}
use Rattle.std.specs.List.{slice_get}
use Rattle.qs_base.specs.declared.function.FnId.{FnId}
use Rattle.qs_assert.specs.declared.define.Define.{Define}
use Rattle.qs_assert.specs.Trees.{AssertionTree, named}
use Rattle.qs_core.specs.CallGraph.{called_by}
use Rattle.qs_core.specs.Fits.{differ}
use Rattle.qs_core.specs.Trees.{CoreStmts, no_stmts, CoreFunctionTree, CoreUnitTree}
use Rattle.qs_core.specs.UnitTrees.{unit_tree}
use Rattle.qs_core.specs.FunctionNames.{function_name}
use Rattle.qs_core.specs.declared.unit.CoreUnit.{CoreUnit}
use Rattle.qs_entail.specs.Certificates.{same}
use Rattle.qs_triples.specs.Derivations.{leaf, sequence, EntryTree, ProofsTree, entry_of}
use Rattle.qs_triples.specs.Entries.{AreClosed, has_entry}
use Rattle.qs_triples.specs.Filled.{open_definition, path_pre}
use Rattle.qs_triples.specs.TreeOf.{entry_tree, proofs_tree}
use Rattle.qs_triples.specs.declared.derivation.FunctionProof.{FunctionProof}
use Rattle.qs_triples.specs.declared.derivation.Proofs.{Proofs}
use Rattle.qs_callgraph.specs.CallLists.{flag, numbers}
use Rattle.qs_callgraph.specs.Opens.{AreOf}
use Rattle.qs_callgraph.specs.Orders.{IsTrueCycle}
use Rattle.qs_callgraph.specs.declared.fault.CycleFault.{CycleFault}
use Rattle.qs_analyse.specs.Written.{all_written}

abbrev pub entry_functions : List EntryTree → List ℕ
entry_functions entries = map (λ (e : EntryTree). e.function) entries

-- Proofs of functions of the unit, none twice, whose definitions mention no variable. All proofs that can be written to a
-- file are such.
pub record IsFillable (u : CoreUnitTree) (given : ProofsTree) : Type 0 where
  pub known : (f : ℕ) (e : EntryTree) → entry_of given f ≡ Some e → f < length u.functions
  pub once : differ ◌==◌ (entry_functions given.functions) ≡ true
  pub closed : AreClosed given.defines

-- ---- what is added

abbrev pub entries_only : List EntryTree → ProofsTree
entries_only entries = record { defines = []; functions = entries }

-- proofs with these entries of the code alone, without definitions
abbrev pub proofs_of : List FunctionProof → ProofsTree
proofs_of entries = entries_only (map entry_tree entries)

abbrev pub body_in : Option CoreFunctionTree → CoreStmts
body_in None = no_stmts
body_in (Some f) = f.body

abbrev pub body_of : CoreUnitTree → ℕ → CoreStmts
body_of u f = body_in (slice_get u.functions f)

-- the entry of an open function
abbrev pub open_entry : CoreUnitTree → ℕ → EntryTree
open_entry u f = record {
  function = f;
  spec = record { pre = named (function_name u f); post = named (function_name u f) };
  entry = same;
  body = sequence (all_written (function_name u f) (called_by u f) (body_of u f));
}

-- the entry of another, which needs no derivation
abbrev pub path_entry : ℕ → AssertionTree → EntryTree
path_entry f pre = record { function = f; spec = record { pre = pre; post = pre }; entry = same; body = leaf }

abbrev pub entry_for : CoreUnitTree → (is_open : ℕ → Bool) → List EntryTree → ℕ → EntryTree
entry_for u is_open entries f =
    if is_open f then open_entry u f else path_entry f (path_pre (entries_only entries) (called_by u f))

-- an entry for each of these, one after another
abbrev pub with_entries : CoreUnitTree → (is_open : ℕ → Bool) → List EntryTree → List ℕ → List EntryTree
with_entries u is_open entries [] = entries
with_entries u is_open entries (f ∷ fs) =
    with_entries u is_open (entries ++ entry_for u is_open entries f ∷ []) fs

-- ---- of the code's values

-- if proofs are answered, they are so
abbrev pub IfProofs : {E : Type 0} → Result Proofs E → (ProofsTree → Type 0) → Type 0
IfProofs result P = IfOk result (λ all. P (proofs_tree all))

-- the entry that is answered, if one is
abbrev pub GivesEntry : {E : Type 0} → Result FunctionProof E → EntryTree → Type 0
GivesEntry result e = IfOk result (λ found. entry_tree found ≡ e)

-- the entry of a function along the paths of calls, and the one that is added for a function
abbrev pub path_entry_of : CoreUnit → List FunctionProof → ℕ → EntryTree
path_entry_of unit entries f = path_entry f (path_pre (proofs_of entries) (called_by (unit_tree unit) f))

abbrev pub added_entry : CoreUnit → List Bool → List FunctionProof → ℕ → EntryTree
added_entry unit is_open entries f = entry_for (unit_tree unit) (flag is_open) (map entry_tree entries) f

-- an entry is added for each of these functions
abbrev pub AddsEntries : CoreUnit → List Bool → List FnId → (before now : Vec FunctionProof Global) → Type 0
AddsEntries unit is_open fs before now =
    map entry_tree now.items
    ≡ with_entries (unit_tree unit) (flag is_open) (map entry_tree before.items) (numbers fs)

-- the definitions of these open functions before those that are given
abbrev pub with_definitions : CoreUnit → List FnId → List Define → List Define
with_definitions unit opened given = map (open_definition (unit_tree unit)) (numbers opened) ++ given

-- for each function whether it has an entry
abbrev pub AreOfEntries : CoreUnitTree → (given : ProofsTree) → Vec Bool Global → Type 0
AreOfEntries u given flags = AreOf u (has_entry given) flags.items

-- the fault is a cycle of functions without an entry, if it isn't want of memory
abbrev pub IsUnprovedCycle : CoreUnitTree → (given : ProofsTree) → CycleFault → Type 0
IsUnprovedCycle u given fault = IsTrueCycle u (has_entry given) fault
