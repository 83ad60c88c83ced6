-- What a depth first search over calls keeps.
use Rattle.std.specs.Prelude.{◌≡◌, ℕ, ◌+◌, ◌-◌, ◌<◌, ◌≤◌, ◌^◌, slice_index, replicate, Bool, true, false, List, [], ◌∷◌, ◌++◌, length, take, drop, slice_index_or, slice_set, Result, Ok, Err, Option, MatchOption, not, ◌&&◌}
use Rattle.std.specs.declared.alloc.Global.{Global}
use Rattle.std.specs.declared.vec.Vec.{Vec}
use Rattle.std.specs.List.{list_any}
use Rattle.qs_base.specs.declared.function.FnId.{FnId}
use Rattle.qs_core.specs.CallGraph.{below, is_member}
use Rattle.qs_callgraph.specs.CallLists.{callees_in, flag, number_lists, numbers}
use Rattle.qs_callgraph.specs.Orders.{CalleesFirst, DepthFirst}
use Rattle.qs_callgraph.specs.declared.fault.CycleFault.{CycleFault}
use Rattle.qs_callgraph.specs.declared.fault.CycleFault.TheVariants.{NoMemory, Cycle}
use Rattle.qs_callgraph.specs.declared.search.Progress.{Progress}
use Rattle.qs_callgraph.specs.declared.search.Progress.TheVariants.{New, Open, Done}
use Rattle.qs_callgraph.specs.declared.search.Search.{Search}

-- ---- progress

abbrev pub progress_of : List Progress → (f : ℕ) → Progress
progress_of progress f = slice_index_or progress f New

abbrev pub is_new : Progress → Bool
is_new New = true
is_new (Open i) = false
is_new Done = false

-- how many steps are left for a function that calls these, at most
abbrev pub steps_left : (callees : List ℕ) → Progress → ℕ
steps_left gs New = length gs + 2
steps_left gs (Open i) = (length gs + 1) - i
steps_left gs Done = 0

abbrev pub all_steps_left : List (List ℕ) → List Progress → ℕ
all_steps_left [] progress = 0
all_steps_left (gs ∷ graph) [] = 0
all_steps_left (gs ∷ graph) (p ∷ progress) = steps_left gs p + all_steps_left graph progress

-- ---- paths

-- each function calls the next
abbrev pub IsLinked : (callees : ℕ → List ℕ) → List ℕ → Type 0
IsLinked callees [] = Unit {0}
IsLinked callees (f ∷ []) = Unit {0}
IsLinked callees (f ∷ g ∷ fs) = (is_member g (callees f) ≡ true) × IsLinked callees (g ∷ fs)

-- each function calls the next, and the last one this one
abbrev pub IsChainIn : (callees : ℕ → List ℕ) → List ℕ → (last : ℕ) → Type 0
IsChainIn callees [] last = Unit {0}
IsChainIn callees (f ∷ []) last = is_member last (callees f) ≡ true
IsChainIn callees (f ∷ g ∷ fs) last = (is_member g (callees f) ≡ true) × IsChainIn callees (g ∷ fs) last

abbrev pub IsCircleIn : (callees : ℕ → List ℕ) → List ℕ → Type 0
IsCircleIn callees [] = ⊥
IsCircleIn callees (f ∷ fs) = IsChainIn callees (f ∷ fs) f

-- a cycle of functions without a specification
pub record IsCycleIn (graph : List (List ℕ)) (has_spec : List Bool) (fs : List ℕ) : Type 0 where
  pub circle : IsCircleIn (callees_in graph) fs
  pub none : list_any (flag has_spec) fs ≡ false

-- the path from a function on that stands on it
pub record IsPathFrom (path : List ℕ) (g : ℕ) (fs : List ℕ) : Type 0 where
  pub front : List ℕ
  pub whole : path ≡ front ++ fs
  pub first : is_member g path ≡ true → (rest : List ℕ) × (fs ≡ g ∷ rest)

-- no function stands twice
abbrev pub AreApart : List ℕ → Type 0
AreApart [] = Unit {0}
AreApart (f ∷ fs) = (is_member f fs ≡ false) × AreApart fs

-- the last function of the path
pub record IsLast (path : List ℕ) (f : ℕ) : Type 0 where
  pub front : List ℕ
  pub whole : path ≡ front ++ f ∷ []

-- the function at this place among those that are called
pub record IsCalleeAt (callees : List ℕ) (at g : ℕ) : Type 0 where
  pub within : at < length callees
  pub few : at + 1 < 2 ^ 64
  pub is : slice_index callees at ≡ g

-- the function at this place among those that are called, if there are so many
abbrev pub FindsCallee : (callees : List ℕ) → (at : ℕ) → Option FnId → Type 0
FindsCallee callees at found = MatchOption found (length callees ≤ at) (λ g. IsCalleeAt callees at g.0)

-- ---- the search

-- A function of the path has no specification, and of those that it calls all that were looked at are in the order or
-- have one.
pub record IsBegun (graph : List (List ℕ)) (has_spec : List Bool) (progress : List Progress) (order : List ℕ) (f : ℕ) : Type 0 where
  pub within : f < length graph
  pub free : flag has_spec f ≡ false
  pub next : ℕ
  pub is : progress_of progress f ≡ Open next
  pub at_most : next ≤ length (callees_in graph f)
  pub looked :
      (g : ℕ) → is_member g (take next (callees_in graph f)) ≡ true → flag has_spec g ≡ false
      → is_member g order ≡ true

-- the path has the functions that are begun, each called by the one before it, and the order those that are done
pub record Holds (graph : List (List ℕ)) (has_spec : List Bool) (progress : List Progress) (path order : List ℕ) : Type 0 where
  pub many : length progress ≡ length graph
  pub in_order : CalleesFirst (callees_in graph) (flag has_spec) [] order
  pub known : (f : ℕ) → is_member f order ≡ true → f < length graph
  pub none : list_any (flag has_spec) order ≡ false
  pub ordered : (f : ℕ) → is_member f order ≡ true → progress_of progress f ≡ Done
  pub done : (f : ℕ) → progress_of progress f ≡ Done → is_member f order ≡ true
  pub begun : (f : ℕ) → is_member f path ≡ true → IsBegun graph has_spec progress order f
  pub on_path : (f i : ℕ) → progress_of progress f ≡ Open i → is_member f path ≡ true
  pub linked : IsLinked (callees_in graph) path
  pub apart : AreApart path

abbrev pub HoldsIn : List (List ℕ) → List Bool → Search → Type 0
HoldsIn graph has_spec search =
    Holds graph has_spec search.progress.items (numbers search.path.items) (numbers search.order.items)

-- What the search has found when it has gone back along the whole path: from its last function, whose next callees are
-- still to be gone through, to the one before it.
pub data Finishes (callees : ℕ → List ℕ) (has_spec : ℕ → Bool) (progress : List Progress) : (path found all : List ℕ) → Type 0 where
  arrived : {found : List ℕ} → Finishes callees has_spec progress [] found found
  goes_back : (front : List ℕ) (f : ℕ) {next : ℕ} {path found behind all : List ℕ} → path ≡ front ++ f ∷ [] → progress_of progress f ≡ Open next
      → DepthFirst callees has_spec found (drop next (callees f)) behind
      → Finishes callees has_spec progress front (behind ++ f ∷ []) all → Finishes callees has_spec progress path found all

abbrev pub FinishesIn : List (List ℕ) → List Bool → Search → (all : List ℕ) → Type 0
FinishesIn graph has_spec search all =
    Finishes (callees_in graph) (flag has_spec) search.progress.items (numbers search.path.items)
    (numbers search.order.items) all

-- what one step of the search changes
pub record Sets (old new : Search) (f : ℕ) (p : Progress) (path order : List ℕ) : Type 0 where
  pub progress : new.progress.items ≡ slice_set old.progress.items f p
  pub path_is : numbers new.path.items ≡ path
  pub order_is : numbers new.order.items ≡ order

-- one more of the functions that it calls is looked at
abbrev pub LooksOn : (at f : ℕ) → (old new : Search) → Type 0
LooksOn at f old new = Sets old new f (Open (at + 1)) (numbers old.path.items) (numbers old.order.items)

-- a function is begun, behind the path
abbrev pub Begins : (g : ℕ) → (old new : Search) → Type 0
Begins g old new = Sets old new g (Open 0) (numbers old.path.items ++ g ∷ []) (numbers old.order.items)

-- the last function of the path is done
abbrev pub GoesBack : (f : ℕ) → (old new : Search) → Type 0
GoesBack f old new =
    (front : List ℕ) → numbers old.path.items ≡ front ++ f ∷ []
    → Sets old new f Done front (numbers old.order.items ++ f ∷ [])

-- a function is to be begun
abbrev pub is_due : Search → List Bool → (f : ℕ) → Bool
is_due search has_spec f = not (flag has_spec f) && is_new (progress_of search.progress.items f)

-- none of so many functions is begun
pub record IsNewSearch (count : ℕ) (search : Search) : Type 0 where
  pub progress : search.progress.items ≡ replicate count New
  pub path : numbers search.path.items ≡ []
  pub order : numbers search.order.items ≡ []

-- ---- steps

-- what is begun stays so
abbrev pub Keeps : (old new : List Progress) → Type 0
Keeps old new = (f : ℕ) → is_new (progress_of old f) ≡ false → is_new (progress_of new f) ≡ false

pub record Moves (graph : List (List ℕ)) (has_spec : List Bool) (old new : Search) : Type 0 where
  pub holds : HoldsIn graph has_spec new
  pub less : all_steps_left graph new.progress.items < all_steps_left graph old.progress.items
  pub kept : Keeps old.progress.items new.progress.items
  pub finds : (all : List ℕ) → FinishesIn graph has_spec new all → FinishesIn graph has_spec old all

-- a search ends by want of memory or with a cycle
abbrev pub Ends : List (List ℕ) → List Bool → CycleFault → Type 0
Ends graph has_spec NoMemory = Unit {0}
Ends graph has_spec (Cycle fs) = IsCycleIn graph has_spec (numbers fs.items)

abbrev pub Steps : List (List ℕ) → List Bool → (old new : Search) → Result (Unit {0}) CycleFault → Type 0
Steps graph has_spec old new (Ok done) = Moves graph has_spec old new
Steps graph has_spec old new (Err fault) = Ends graph has_spec fault

-- a function was begun and all that it leads to is done
pub record Visited (graph : List (List ℕ)) (has_spec : List Bool) (root : ℕ) (old new : Search) : Type 0 where
  pub holds : HoldsIn graph has_spec new
  pub ended : numbers new.path.items ≡ []
  pub root_begun : is_new (progress_of new.progress.items root) ≡ false
  pub kept : Keeps old.progress.items new.progress.items
  pub finds :
      DepthFirst (callees_in graph) (flag has_spec) (numbers old.order.items) (root ∷ []) (numbers new.order.items)

abbrev pub Visits : List (List ℕ) → List Bool → (root : ℕ) → (old new : Search) → Result (Unit {0}) CycleFault → Type 0
Visits graph has_spec root old new (Ok done) = Visited graph has_spec root old new
Visits graph has_spec root old new (Err fault) = Ends graph has_spec fault

-- the functions without a specification in order
pub record IsOrderIn (graph : List (List ℕ)) (has_spec : List Bool) (fs : List ℕ) : Type 0 where
  pub known : (f : ℕ) → is_member f fs ≡ true → f < length graph
  pub none : list_any (flag has_spec) fs ≡ false
  pub all_there : (f : ℕ) → f < length graph → flag has_spec f ≡ false → is_member f fs ≡ true
  pub in_order : CalleesFirst (callees_in graph) (flag has_spec) [] fs

-- the order in which a search through all functions of the graph finds them
abbrev pub IsDepthFirstIn : List (Vec FnId Global) → List Bool → List ℕ → Type 0
IsDepthFirstIn graph has_spec fs =
    DepthFirst (callees_in (number_lists graph)) (flag has_spec) [] (below (length graph)) fs
