-- What functions answer, against what is due. Want of memory is the other answer, and tells nothing.
use Rattle.std.specs.Prelude.{◌≡◌, List, ◌++◌, Option, Some, Result, Vec, IfOk, OnOk}
use Rattle.std.specs.declared.alloc.Global.{Global}
use Rattle.indexmap.specs.IndexSet.{IndexSet}

-- ---- views of an answer

abbrev pub itself : {A : Type 0} → A → A
itself x = x

abbrev pub elements : {A : Type 0} → Vec A Global → List A
elements xs = xs.items

-- by the list of its elements
abbrev pub listed : {A B : Type 0} → (List A → B) → Vec A Global → B
listed view xs = view xs.items

-- ---- answers

-- something is due, and the answer stands for it
abbrev pub Gives : {T A E : Type 0} → (view : T → A) → Option A → Result T E → Type 0
Gives view due result = IfOk result (λ x. due ≡ Some (view x))

-- the answer stands for this
abbrev pub Makes : {T A E : Type 0} → (view : T → A) → A → Result T E → Type 0
Makes view due result = IfOk result (λ x. view x ≡ due)

-- this is what the answer stands for
abbrev pub Equals : {T A E : Type 0} → (view : T → A) → A → Result T E → Type 0
Equals view due result = IfOk result (λ x. due ≡ view x)

-- ---- additions

-- these stand behind the others
abbrev pub Adds : {A T E : Type 0} → (added : List A) → (old new : Vec A Global) → Result T E → Type 0
Adds added old new result = OnOk result (new.items ≡ old.items ++ added)

-- these are the last keys of a set
abbrev pub Inserts : {A S T E : Type 0} → (added : List A) → (old new : IndexSet A S) → Result T E → Type 0
Inserts added old new result = OnOk result (new.keys ≡ old.keys ++ added)
