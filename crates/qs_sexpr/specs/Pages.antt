-- What the code keeps while it writes.
use Rattle.std.specs.Prelude.{◌≡◌, ℕ, ◌+◌, true, false, List, [], ◌∷◌, ◌++◌, length, map, reverse, Result, IfOk, OnOk}
use Rattle.std.specs.declared.vec.Vec.{Vec}
use Rattle.std.specs.declared.alloc.Global.{Global}
use Rattle.qs_base.specs.Characters.{left_parenthesis, right_parenthesis}
use Rattle.qs_sexpr.specs.Layout as layout
use Rattle.qs_sexpr.specs.Layout.{behind, ending, inside, lay_all}
use Rattle.qs_sexpr.specs.Marks.{Mark, added, all_marks, first_of, laid_marks, layer_of, layers_behind, line_end, list_sizes, mark_of, others_of, sizes}
use Rattle.qs_sexpr.specs.Writing.{Forms}
use Rattle.qs_sexpr.specs.declared.layout.Layer.{Layer}
use Rattle.qs_sexpr.specs.declared.token.Token.{Token}
use Rattle.qs_sexpr.specs.declared.writing.Page.{Page}

-- the sizes that are left, and those that were found, of these marks
pub record AreSizes (left found : List ℕ) (ms : List Mark) : Type 0 where
  pub left_are : reverse left ≡ sizes ms
  pub found_are : reverse found ≡ list_sizes ms

-- a page with this text, on which these lists are open, before lists of these sizes
pub record IsPage (p : Page) (text : List ℕ) (l : Layer) (ls : List Layer) (ns : List ℕ) : Type 0 where
  pub text_is : p.text.items ≡ text
  pub layer_is : p.layer ≡ l
  pub layers_are : reverse p.outer.items ≡ ls
  pub sizes_are : reverse p.sizes.items ≡ ns

-- what the text is once these marks are written too
abbrev pub text_with : Page → List Mark → List ℕ
text_with p ms = p.text.items ++ laid_marks ms p.layer (reverse p.outer.items)

-- the page comes to the same text, and has the sizes of the marks that are left
pub record GoesOn (before now : Page) (m : Mark) (ms : List Mark) : Type 0 where
  pub same : text_with now ms ≡ text_with before (m ∷ ms)
  pub sizes_are : reverse now.sizes.items ≡ list_sizes ms

-- ---- what the code's functions do

-- the size of a part, and a blank, is added to what is left in the innermost list
abbrev pub AddsSize : ℕ → List ℕ → List ℕ → Type 0
AddsSize size before now = reverse now ≡ added (size + 1) (reverse before)

-- behind the sizes of any marks, those with this token before them
abbrev pub AddsToken : {E : Type 0} → Token → (left left_now found found_now : Vec ℕ Global) → Result (Unit {0}) E → Type 0
AddsToken token left left_now found found_now result =
    (ms : List Mark) → AreSizes left.items found.items ms
    → OnOk result (AreSizes left_now.items found_now.items (mark_of token ∷ ms))

-- a word is put
abbrev pub PutsWord : List ℕ → Page → Page → Type 0
PutsWord bytes before now =
    IsPage now
    (before.text.items ++ layout.before before.layer true (length bytes) ++ bytes ++ line_end before.layer)
    (behind before.layer true (length bytes)) (reverse before.outer.items) (reverse before.sizes.items)

-- a list is opened, of the first of the sizes
abbrev pub OpensList : Page → Page → Type 0
OpensList before now =
    IsPage now (before.text.items ++ layout.before before.layer false 0 ++ left_parenthesis ∷ [])
    (inside before.layer (first_of (reverse before.sizes.items)))
    (behind before.layer false 0 ∷ reverse before.outer.items) (others_of (reverse before.sizes.items))

-- the innermost list is closed
abbrev pub ClosesList : Page → Page → Type 0
ClosesList before now =
    IsPage now
    (before.text.items ++ ending before.layer ++ right_parenthesis ∷ [] ++ line_end (layer_of (reverse before.outer.items)))
    (layer_of (reverse before.outer.items)) (layers_behind (reverse before.outer.items))
    (reverse before.sizes.items)

-- the page has the sizes of this mark and those behind it, and goes on with it
abbrev pub PutsMark : {E : Type 0} → Mark → Page → Page → Result (Unit {0}) E → Type 0
PutsMark m before now result =
    (ms : List Mark) → reverse before.sizes.items ≡ list_sizes (m ∷ ms) → OnOk result (GoesOn before now m ms)

-- where the tokens are those of forms, the text is theirs
abbrev pub LaysOut : {E : Type 0} → List Token → Result (Vec ℕ Global) E → Type 0
LaysOut tokens result =
    (forms : Forms) → map mark_of tokens ≡ all_marks forms → IfOk result (λ text. text.items ≡ lay_all forms)
