-- Turns of lengthening keep the items, and as many as there are items leave no branch that doesn't reach.
use Rattle.std.proofs.Common.{◌≡◌, ℕ, zero, suc, ◌+◌, ◌-◌, ◌<◌, ◌≤◌, Bool, true, false, List, [], ◌∷◌, length, map, Option, refl, sym, ap, subst, ◌∙◌, arith}
use Rattle.std.specs.Prelude.{◌||◌, if◌then◌else◌}
use Rattle.std.proofs.lemmas.Bool.{or_parts}
use Rattle.std.proofs.Math.Path.{fun_ext}
use Rattle.qs_asm.specs.declared.item.Item.{Item}
use Rattle.qs_asm.specs.declared.item.Item.TheVariants.{Plain, Label, Jump, Branch}
use Rattle.qs_asm.specs.declared.sized_item.SizedItem.{SizedItem}
use Rattle.qs_asm.specs.declared.sized_item.SizedItem.TheVariants as sizes
use Rattle.qs_asm.specs.Sizing.{shortest_item, shortest_items, longest_item, item_bytes, label_among, is_out_of_reach, any_out_of_reach, lengthened, turn, turns, shorts_of, short_count, sized_items}
use Rattle.qs_asm.specs.Assembly.{AreLabels}

-- ---- the items stay

-- the item whose size this is
abbrev pub item_of : SizedItem → Item
item_of (sizes.Plain i) = Plain i
item_of (sizes.Label l) = Label l
item_of (sizes.Jump rd l) = Jump rd l
item_of (sizes.Short kind a b l) = Branch kind a b l
item_of (sizes.Long kind a b l) = Branch kind a b l

abbrev pub items_of : List SizedItem → List Item
items_of = map item_of

shortest_of : (i : Item) → item_of (shortest_item i) ≡ i
shortest_of (Plain i) = refl
shortest_of (Label l) = refl
shortest_of (Jump rd l) = refl
shortest_of (Branch kind a b l) = refl

shortest_keeps : (items : List Item) → items_of (shortest_items items) ≡ items
shortest_keeps [] = refl
shortest_keeps (i ∷ items) = ap (λ j. j ∷ items_of (shortest_items items)) (shortest_of i) ∙ ap (λ js. i ∷ js) (shortest_keeps items)

longest_of : (i : SizedItem) → item_of (longest_item i) ≡ item_of i
longest_of (sizes.Plain i) = refl
longest_of (sizes.Label l) = refl
longest_of (sizes.Jump rd l) = refl
longest_of (sizes.Short kind a b l) = refl
longest_of (sizes.Long kind a b l) = refl

if_longer : (longer : Bool) (i : SizedItem) → item_of (if longer then longest_item i else i) ≡ item_of i
if_longer true i = longest_of i
if_longer false i = refl

lengthened_keeps : (labels : ℕ → Option ℕ) (from : ℕ) (items : List SizedItem) → items_of (lengthened labels from items) ≡ items_of items
lengthened_keeps labels from [] = refl
lengthened_keeps labels from (i ∷ items) =
    ap (λ j. j ∷ items_of (lengthened labels (from + item_bytes i) items)) (if_longer (is_out_of_reach labels from i) i)
    ∙ ap (λ js. item_of i ∷ js) (lengthened_keeps labels (from + item_bytes i) items)

turns_keep : (n : ℕ) (items : List SizedItem) → items_of (turns n items) ≡ items_of items
turns_keep zero items = refl
turns_keep (suc n) items = turns_keep n (turn items) ∙ lengthened_keeps (label_among 0 items) 0 items

pub sized_keep : (items : List Item) → items_of (sized_items items) ≡ items
sized_keep items = turns_keep (short_count (shortest_items items)) (shortest_items items) ∙ shortest_keeps items

-- ---- where none is out of reach, a turn changes nothing

stays : (labels : ℕ → Option ℕ) (from : ℕ) (items : List SizedItem) → any_out_of_reach labels from items ≡ false → lengthened labels from items ≡ items
stays labels from [] none = refl
stays labels from (i ∷ items) none =
    let two = or_parts (is_out_of_reach labels from i) (any_out_of_reach labels (from + item_bytes i) items) none in
    ap (λ (b : Bool). (if b then longest_item i else i) ∷ lengthened labels (from + item_bytes i) items) two.0
    ∙ ap (λ is. i ∷ is) (stays labels (from + item_bytes i) items two.1)

turns_stay : (n : ℕ) (items : List SizedItem) → any_out_of_reach (label_among 0 items) 0 items ≡ false → turns n items ≡ items
turns_stay zero items none = refl
turns_stay (suc n) items none = ap (turns n) (stays (label_among 0 items) 0 items none) ∙ turns_stay n items none

-- ---- where one is, there are fewer short branches after it

one_longer : (labels : ℕ → Option ℕ) (from : ℕ) (i : SizedItem) → is_out_of_reach labels from i ≡ true → shorts_of (longest_item i) < shorts_of i
one_longer labels from (sizes.Plain i) out = cc
one_longer labels from (sizes.Label l) out = cc
one_longer labels from (sizes.Jump rd l) out = cc
one_longer labels from (sizes.Short kind a b l) out = omega arith
one_longer labels from (sizes.Long kind a b l) out = cc

-- few: how many short branches stay at most; fewer: and if any is out of reach
record Shortens (any : Bool) (before after : ℕ) : Type 0 where
  few : after ≤ before
  fewer : any ≡ true → after < before

shortens_item : (labels : ℕ → Option ℕ) (from : ℕ) (i : SizedItem) (out : Bool) → is_out_of_reach labels from i ≡ out → Shortens out (shorts_of i) (shorts_of (if out then longest_item i else i))
shortens_item labels from i true is = let less = one_longer labels from i is in record { few = omega (arith, less); fewer = λ any. less }
shortens_item labels from i false is = record { few = omega arith; fewer = λ any. cc }

shortens : (labels : ℕ → Option ℕ) (from : ℕ) (items : List SizedItem) → Shortens (any_out_of_reach labels from items) (short_count items) (short_count (lengthened labels from items))
shortens labels from [] = record { few = omega arith; fewer = λ any. cc }
shortens labels from (i ∷ items) =
    both (is_out_of_reach labels from i) (any_out_of_reach labels (from + item_bytes i) items)
    (shortens_item labels from i (is_out_of_reach labels from i) refl) (shortens labels (from + item_bytes i) items)
  where
    both :
        {n m k l : ℕ} (a b : Bool) → Shortens a n m → Shortens b k l → Shortens (a || b) (n + k) (m + l)
    both true b one rest = let less = one.fewer refl in let few = rest.few in record { few = omega (arith, less, few); fewer = λ any. omega (arith, less, few) }
    both false b one rest = let few = one.few in let others = rest.few in
        record { few = omega (arith, few, others); fewer = λ any. let less = rest.fewer any in omega (arith, few, less) }

-- ---- so none is left

-- no branch is out of reach of its label
abbrev pub all_reach : List SizedItem → Type 0
all_reach items = any_out_of_reach (label_among 0 items) 0 items ≡ false

turns_end :
    (n : ℕ) (items : List SizedItem) (any : Bool) → any_out_of_reach (label_among 0 items) 0 items ≡ any → short_count items ≤ n
    → all_reach (turns n items)
turns_end n items false is few = subst all_reach (sym (turns_stay n items is)) is
turns_end zero items true is few =
    let fewer = (shortens (label_among 0 items) 0 items).fewer is in
    absurd (omega (arith, few, fewer))
turns_end (suc n) items true is few =
    let fewer = (shortens (label_among 0 items) 0 items).fewer is in
    turns_end n (turn items) (any_out_of_reach (label_among 0 (turn items)) 0 (turn items)) refl (omega (arith, few, fewer))

pub sized_reach : (items : List Item) → all_reach (sized_items items)
sized_reach items = turns_end (short_count (shortest_items items)) (shortest_items items) _ refl (omega arith)

-- ---- as many turns as items are enough too

turns_enough :
    (n m : ℕ) (items : List SizedItem) (any : Bool) → any_out_of_reach (label_among 0 items) 0 items ≡ any → short_count items ≤ n
    → short_count items ≤ m → turns n items ≡ turns m items
turns_enough n m items false is few less = turns_stay n items is ∙ sym (turns_stay m items is)
turns_enough zero m items true is few less =
    let fewer = (shortens (label_among 0 items) 0 items).fewer is in
    absurd (omega (arith, few, fewer))
turns_enough (suc n) zero items true is few less =
    let fewer = (shortens (label_among 0 items) 0 items).fewer is in
    absurd (omega (arith, less, fewer))
turns_enough (suc n) (suc m) items true is few less =
    let fewer = (shortens (label_among 0 items) 0 items).fewer is in
    turns_enough n m (turn items) (any_out_of_reach (label_among 0 (turn items)) 0 (turn items)) refl
    (omega (arith, few, fewer)) (omega (arith, less, fewer))

few_branches : (items : List Item) → short_count (shortest_items items) ≤ length items
few_branches [] = omega arith
few_branches (Plain i ∷ items) = let few = few_branches items in omega (arith, few)
few_branches (Label l ∷ items) = let few = few_branches items in omega (arith, few)
few_branches (Jump rd l ∷ items) = let few = few_branches items in omega (arith, few)
few_branches (Branch kind a b l ∷ items) = let few = few_branches items in omega (arith, few)

pub turns_of_items : (items : List Item) → turns (length items) (shortest_items items) ≡ sized_items items
turns_of_items items = turns_enough (length items) (short_count (shortest_items items)) (shortest_items items) _ refl (few_branches items) (omega arith)

-- ---- the turns of the code

same_labels : (labels : ℕ → Option ℕ) (items : List SizedItem) → AreLabels labels items → labels ≡ label_among 0 items
same_labels labels items are = fun_ext are.each

pub turn_goes_on :
    (labels : ℕ → Option ℕ) (n k : ℕ) (old new whole : List SizedItem) → k < n → AreLabels labels old → new ≡ lengthened labels 0 old
    → turns (n - k) old ≡ whole → turns (n - (k + 1)) new ≡ whole
turn_goes_on labels n k old new whole lt are is h =
    let more : n - k ≡ suc (n - (k + 1)) = omega (arith, lt) in
    ap (turns (n - (k + 1))) (is ∙ ap (λ f. lengthened f 0 old) (same_labels labels old are))
    ∙ (ap (λ m. turns m old) (sym more) ∙ h)

pub last_turn :
    (labels : ℕ → Option ℕ) (n : ℕ) (old new whole : List SizedItem) → AreLabels labels old → new ≡ lengthened labels 0 old
    → any_out_of_reach labels 0 old ≡ false → turns n old ≡ whole → new ≡ whole
last_turn labels n old new whole are is none h =
    let reach : all_reach old = ap (λ f. any_out_of_reach f 0 old) (sym (same_labels labels old are)) ∙ none in
    is ∙ (stays labels 0 old none ∙ (sym (turns_stay n old reach) ∙ h))
