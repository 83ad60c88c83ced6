-- The first labels of functions as a list.
use Rattle.std.proofs.Common.{◌≡◌, ℕ, zero, suc, ◌+◌, List, [], ◌∷◌, ◌++◌, length, map, drop, ◌≤◌, refl, ap, sym, ◌∙◌, add-zero, zero-add, add-one, append_assoc, get_or, subst, ◌<◌, ◌^◌, None, arith}
use Rattle.std.specs.Prelude.{slice_index_or}
use Rattle.std.proofs.lemmas.List.{append-nil}
use Rattle.qs_tac.specs.Trees.{TacFunctionTree}
use Rattle.qs_tac.specs.TreeOf.{function_tree}
use Rattle.qs_tac.specs.declared.units.TacFunction.{TacFunction}
use Rattle.qs_frames.specs.declared.blocks.Starts.{Starts}
use Rattle.qs_emit_selection.specs.Emission.{first_label}
use Rattle.std.proofs.Math.Seq.{drop-cons}
use Rattle.qs_asm.specs.declared.item.Item.{Item}
use Rattle.qs_tac.specs.Trees.{TacUnitTree}
use Rattle.qs_tac.specs.Places.{PlacesTree, no_places}
use Rattle.qs_frames.specs.Layout.{total, layout, FrameFits}
use Rattle.qs_frames.proofs.OffsetLaws.{frame_has_room}
use Rattle.qs_emit_selection.specs.Data.{data_address}
use Rattle.qs_emit_selection.specs.Emission.{functions_items}
use Rattle.qs_emit_selection.specs.Limits.{function_fault, functions_fault}
use Rattle.qs_emit_selection.specs.Units.{AreFirstLabels, function_items_at}
use Rattle.qs_emit_selection.proofs.LimitLaws.{is_free, none_first}

abbrev pub labels_from : (first : ℕ) → List TacFunctionTree → List ℕ
labels_from first [] = []
labels_from first (g ∷ functions) = first ∷ labels_from (first + (length g.code + 2)) functions

abbrev pub label_count : List TacFunctionTree → ℕ
label_count [] = 0
label_count (g ∷ functions) = length g.code + 2 + label_count functions

-- the labels so far and those of the rest are those of all, and the rest ends where all do
pub record GivesLabels (functions : List TacFunctionTree) (at : List ℕ) (end : ℕ) (rest : List TacFunctionTree) : Type 0 where
  pub all : at ++ labels_from end rest ≡ labels_from 0 functions
  pub ends : end + label_count rest ≡ label_count functions

label_among :
    (first : ℕ) (functions : List TacFunctionTree) (f : ℕ)
    → slice_index_or (labels_from first functions) f (first + label_count functions) ≡ first + first_label functions f
label_among first [] f = refl
label_among first (g ∷ functions) zero = omega arith
label_among first (g ∷ functions) (suc f) =
    let rest : slice_index_or (labels_from (first + (length g.code + 2)) functions) f ((first + (length g.code + 2)) + label_count functions)
    ≡ (first + (length g.code + 2)) + first_label functions f =
    label_among (first + (length g.code + 2)) functions f in
    let same : first + (length g.code + 2 + label_count functions) ≡ (first + (length g.code + 2)) + label_count functions = omega arith in
    let moved : slice_index_or (labels_from (first + (length g.code + 2)) functions) f (first + (length g.code + 2 + label_count functions))
    ≡ (first + (length g.code + 2)) + first_label functions f =
    ap (λ (e : ℕ). slice_index_or (labels_from (first + (length g.code + 2)) functions) f e) same ∙ rest in
    omega (arith, moved)

pub labels_end :
    (functions : List TacFunctionTree) (labels : Starts) (rest : List TacFunctionTree) → rest ≡ []
    → GivesLabels functions labels.at.items labels.end rest → AreFirstLabels functions labels
labels_end functions labels rest none h = record {
  each = λ f.
      let all : labels.at.items ++ [] ≡ labels_from 0 functions =
      ap (λ r. labels.at.items ++ labels_from labels.end r) (sym none) ∙ h.all in
      let same : labels.at.items ≡ labels_from 0 functions = sym (append-nil labels.at.items) ∙ all in
      let last : labels.end ≡ 0 + label_count functions =
      sym (add-zero labels.end) ∙ (ap (λ r. labels.end + label_count r) (sym none) ∙ (h.ends ∙ sym (zero-add (label_count functions)))) in
      ap (λ (l : List ℕ). slice_index_or l f labels.end) same
      ∙ (ap (λ (e : ℕ). slice_index_or (labels_from 0 functions) f e) last
      ∙ (label_among 0 functions f ∙ zero-add (first_label functions f)));
}

pub none_left : (functions : List TacFunction) (k : ℕ) → length functions ≤ k → map function_tree (drop k functions) ≡ []
none_left [] zero h = refl
none_left [] (suc k) h = refl
none_left (f ∷ functions) zero h = absurd (omega (arith, h))
none_left (f ∷ functions) (suc k) h = none_left functions k (omega (arith, h))

-- ---- functions

pub room_for_blocks :
    (f : TacFunctionTree) (p : PlacesTree) → function_fault f p ≡ None → (layout f p).placed + total f.blocks ≤ 2 ^ 29
room_for_blocks f p h =
    let cost : (layout f p).cost ≤ 2 ^ 28 = (is_free f p h).cost in
    let room = frame_has_room f p in
    omega (arith, cost, room)

pub frame_is_fit : (f : TacFunctionTree) (p : PlacesTree) → function_fault f p ≡ None → FrameFits f p
frame_is_fit f p h = (is_free f p h).cost

pub next_function :
    (functions now : List TacFunction) (f : ℕ) (g : TacFunction) → now ≡ functions → g ≡ get_or now f g → f < length now
    → map function_tree (drop f functions) ≡ function_tree g ∷ map function_tree (drop (f + 1) functions)
next_function functions now f g same is h =
    subst (λ (l : List TacFunction). map function_tree (drop f l) ≡ function_tree g ∷ map function_tree (drop (f + 1) l)) same
    (ap (map function_tree) (drop-cons now f g h)
    ∙ (ap (λ i. function_tree i ∷ map function_tree (drop (suc f) now)) (sym is)
    ∙ ap (λ n. function_tree g ∷ map function_tree (drop n now)) (sym (add-one f))))

pub functions_go_on :
    (u : TacUnitTree) (ps : List PlacesTree) (items more whole : List Item) (f number : ℕ) (g : TacFunctionTree) (p : PlacesTree)
    (all rest : List TacFunctionTree)
    → all ≡ g ∷ rest → number ≡ f → p ≡ slice_index_or ps f no_places → more ≡ items ++ function_items_at u number g p
    → items ++ functions_items u ps (data_address u.data_blocks) f all ≡ whole
    → more ++ functions_items u ps (data_address u.data_blocks) (f + 1) rest ≡ whole
functions_go_on u ps items more whole f number g p all rest a n s m h =
    ap (λ l. l ++ functions_items u ps (data_address u.data_blocks) (f + 1) rest) m
    ∙ (append_assoc items (function_items_at u number g p) (functions_items u ps (data_address u.data_blocks) (f + 1) rest)
    ∙ (ap (λ k. items ++ (function_items_at u k g p ++ functions_items u ps (data_address u.data_blocks) (f + 1) rest)) n
    ∙ (ap (λ q. items ++ (function_items_at u f g q ++ functions_items u ps (data_address u.data_blocks) (f + 1) rest)) s
    ∙ (ap (λ l. items ++ functions_items u ps (data_address u.data_blocks) f l) (sym a) ∙ h))))

pub faults_go_on :
    (ps : List PlacesTree) (f : ℕ) (g : TacFunctionTree) (all rest : List TacFunctionTree)
    → all ≡ g ∷ rest → functions_fault ps f all ≡ None → functions_fault ps (f + 1) rest ≡ None
faults_go_on ps f g all rest a h =
    (none_first (function_fault g (slice_index_or ps f no_places)) (functions_fault ps (f + 1) rest)
    (ap (functions_fault ps f) (sym a) ∙ h)).1

pub no_fault_now :
    (ps : List PlacesTree) (f : ℕ) (g : TacFunctionTree) (p : PlacesTree) (all rest : List TacFunctionTree)
    → all ≡ g ∷ rest → p ≡ slice_index_or ps f no_places → functions_fault ps f all ≡ None → function_fault g p ≡ None
no_fault_now ps f g p all rest a s h =
    ap (function_fault g) s
    ∙ (none_first (function_fault g (slice_index_or ps f no_places)) (functions_fault ps (f + 1) rest)
    (ap (functions_fault ps f) (sym a) ∙ h)).0
