-- The functions that each function calls, as lists of numbers.
use Rattle.std.specs.Prelude.{◌≡◌, ℕ, ◌<◌, Bool, true, false, List, [], ◌∷◌, filter, length, map, slice_index_or, slice_set, Result, IfOk}
use Rattle.std.specs.declared.alloc.Global.{Global}
use Rattle.std.specs.declared.vec.Vec.{Vec}
use Rattle.qs_base.specs.declared.function.FnId.{FnId}
use Rattle.qs_core.specs.CallGraph.{is_member, below, called_by}
use Rattle.qs_core.specs.Trees.{CoreUnitTree}

abbrev pub numbers : List FnId → List ℕ
numbers fs = map (λ (f : FnId). f.0) fs

abbrev pub numbers_in : Vec FnId Global → List ℕ
numbers_in fs = numbers fs.items

abbrev pub number_lists : List (Vec FnId Global) → List (List ℕ)
number_lists graph = map numbers_in graph

-- the functions that each function of the unit calls
abbrev pub call_lists : CoreUnitTree → List (List ℕ)
call_lists u = map (called_by u) (below (length u.functions))

abbrev pub callees_in : List (List ℕ) → (f : ℕ) → List ℕ
callees_in graph f = slice_index_or graph f []

-- a value for each function, false for what is none
abbrev pub flag : List Bool → (f : ℕ) → Bool
flag flags f = slice_index_or flags f false

-- those with a value that is true, in order
abbrev pub flagged : List Bool → List ℕ
flagged flags = filter (flag flags) (below (length flags))

-- each number of the list is below this one
abbrev pub AreBelow : List ℕ → ℕ → Type 0
AreBelow fs count = (f : ℕ) → is_member f fs ≡ true → f < count

-- with those in the list marked
abbrev pub marked : List ℕ → List Bool → List Bool
marked [] marks = marks
marked (g ∷ gs) marks = marked gs (slice_set marks g true)

-- there is a value for each function, and all that are called are functions
pub record IsGraph (graph : List (List ℕ)) (flags : List Bool) : Type 0 where
  pub as_many : length flags ≡ length graph
  pub within : (f g : ℕ) → is_member g (callees_in graph f) ≡ true → g < length graph

-- all that are called are among so many functions
abbrev pub CalleesAreBelow : List (List ℕ) → ℕ → Type 0
CalleesAreBelow graph count = (f g : ℕ) → is_member g (callees_in graph f) ≡ true → g < count

-- if functions are answered, their numbers are so
abbrev pub IfListed : {E : Type 0} → Result (Vec FnId Global) E → (List ℕ → Type 0) → Type 0
IfListed result P = IfOk result (λ fs. P (numbers fs.items))
