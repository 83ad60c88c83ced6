-- The functions for which a file has lists, as they are marked.
use Rattle.std.specs.Prelude.{◌≡◌, ℕ, ◌<◌, ◌||◌, Bool, List, length, Vec, Result, IfOk, OnOk}
use Rattle.std.specs.declared.alloc.Global.{Global}
use Rattle.qs_callgraph.specs.CallLists.{flag}
use Rattle.qs_callgraph.specs.Opens.{AreOf}
use Rattle.qs_core.specs.Trees.{CoreUnitTree}
use Rattle.qs_core.specs.UnitTrees.{unit_tree}
use Rattle.qs_core.specs.FunctionNames.{function_name}
use Rattle.qs_core.specs.declared.unit.CoreUnit.{CoreUnit}
use Rattle.qs_sexpr.specs.Trees.{Sexp, Sexps}
use Rattle.qs_sexpr.specs.declared.node.Node.{Node}
use Rattle.qs_prooftext_assertions.specs.Answers.{Stands, StandAll}
use Rattle.qs_prooftext_meaning.specs.Proofs.{entry_names_of, has_list, is_among, name_of_parts}

-- the functions with these names are marked, besides those that were
pub record Marks (u : CoreUnitTree) (names : List (List ℕ)) (old new : List Bool) : Type 0 where
  pub as_many : length new ≡ length old
  pub same : (f : ℕ) → f < length u.functions → flag new f ≡ (flag old f || is_among names (function_name u f))

-- of all lists these are still to be gone over
pub record ListsLeft (u : CoreUnitTree) (text : List ℕ) (rest : List Node) (flags : List Bool) (all : Sexps) : Type 0 where
  pub forest : Sexps
  pub stand : StandAll text rest forest
  pub as_many : length flags ≡ length u.functions
  pub same : (f : ℕ) → f < length u.functions → (flag flags f || has_list u forest f) ≡ has_list u all f

-- the function is marked whose name is the first of the parts with these nodes
abbrev pub MarksNamed :
    {A E : Type 0} → CoreUnit → (text : List ℕ) → (parts : List Node) → (old new : List Bool) → Result A E
    → Type 0
MarksNamed unit text parts old new result =
    (ss : Sexps) → StandAll text parts ss → OnOk result (Marks (unit_tree unit) (name_of_parts ss) old new)

-- the function is marked for which the list at the top with these nodes stands
abbrev pub MarksTop :
    {A E : Type 0} → CoreUnit → (text : List ℕ) → (nodes : List Node) → (old new : List Bool) → Result A E
    → Type 0
MarksTop unit text nodes old new result =
    (s : Sexp) → Stands text nodes s → OnOk result (Marks (unit_tree unit) (entry_names_of s) old new)

-- the flags tell for which functions of the unit the file with these nodes has lists
abbrev pub TellsListed :
    {E : Type 0} → CoreUnit → (text : List ℕ) → (nodes : List Node) → Result (Vec Bool Global) E → Type 0
TellsListed unit text nodes result =
    (ss : Sexps) → StandAll text nodes ss
    → IfOk result (λ flags. AreOf (unit_tree unit) (has_list (unit_tree unit) ss) flags.items)
