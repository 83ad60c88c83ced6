-- How long branches are: as short as they reach. Every branch begins short; in turns those are lengthened that don't reach
-- their labels, until none is left.
use Rattle.std.specs.Prelude.{ℕ, zero, suc, ◌+◌, ◌%◌, ◌^◌, ◌==◌, ◌&&◌, ◌||◌, nat_lt, Bool, false, if◌then◌else◌, List, [], ◌∷◌, map, Option, Some, None, is_none}
use Rattle.std.specs.Option.{option_or}
use Rattle.qs_base.specs.Words.{sub}
use Rattle.qs_asm.specs.declared.item.Item.{Item}
use Rattle.qs_asm.specs.declared.item.Item.TheVariants.{Plain, Label, Jump, Branch}
use Rattle.qs_asm.specs.declared.sized_item.SizedItem.{SizedItem}
use Rattle.qs_asm.specs.declared.sized_item.SizedItem.TheVariants as sizes

-- ---- one item

-- a branch as itself
abbrev pub shortest_item : Item → SizedItem
shortest_item (Plain i) = sizes.Plain i
shortest_item (Label l) = sizes.Label l
shortest_item (Jump rd l) = sizes.Jump rd l
shortest_item (Branch kind a b l) = sizes.Short kind a b l

abbrev pub shortest_items : List Item → List SizedItem
shortest_items = map shortest_item

-- a branch inverted over a jump
abbrev pub longest_item : SizedItem → SizedItem
longest_item (sizes.Plain i) = sizes.Plain i
longest_item (sizes.Label l) = sizes.Label l
longest_item (sizes.Jump rd l) = sizes.Jump rd l
longest_item (sizes.Short kind a b l) = sizes.Long kind a b l
longest_item (sizes.Long kind a b l) = sizes.Long kind a b l

-- ---- where labels stand

abbrev pub item_bytes : SizedItem → ℕ
item_bytes (sizes.Plain i) = 4
item_bytes (sizes.Label l) = 0
item_bytes (sizes.Jump rd l) = 4
item_bytes (sizes.Short kind a b l) = 4
item_bytes (sizes.Long kind a b l) = 8

-- from: where the item lies
abbrev pub label_of : (from : ℕ) → SizedItem → (l : ℕ) → Option ℕ
label_of from (sizes.Plain i) l = None
label_of from (sizes.Label k) l = if k == l then Some from else None
label_of from (sizes.Jump rd k) l = None
label_of from (sizes.Short kind a b k) l = None
label_of from (sizes.Long kind a b k) l = None

-- where the label stands last among items that lie from here on
abbrev pub label_among : (from : ℕ) → List SizedItem → (l : ℕ) → Option ℕ
label_among from [] l = None
label_among from (i ∷ items) l = option_or (label_among (from + item_bytes i) items l) (label_of from i l)

-- ---- lengthening

-- a distance that branches have: even, and of 13 bits with its sign, so -4,096 to 4,094 (RISC-V Unprivileged ISA 20191213, 2.5)
abbrev pub is_near : (distance : ℕ) → Bool
is_near distance = nat_lt ((distance + 2 ^ 12) % 2 ^ 32) (2 ^ 13) && (distance % 2 == 0)

-- how far a branch goes to a place, where it reaches it
abbrev pub branch_distance : (from : ℕ) → (place : Option ℕ) → Option ℕ
branch_distance from None = None
branch_distance from (Some place) = if is_near (sub place from) then Some (sub place from) else None

-- labels: where they stand; from: where the item lies
abbrev pub is_out_of_reach : (labels : ℕ → Option ℕ) → (from : ℕ) → SizedItem → Bool
is_out_of_reach labels from (sizes.Plain i) = false
is_out_of_reach labels from (sizes.Label l) = false
is_out_of_reach labels from (sizes.Jump rd l) = false
is_out_of_reach labels from (sizes.Short kind a b l) = is_none (branch_distance from (labels l))
is_out_of_reach labels from (sizes.Long kind a b l) = false

abbrev pub any_out_of_reach : (labels : ℕ → Option ℕ) → (from : ℕ) → List SizedItem → Bool
any_out_of_reach labels from [] = false
any_out_of_reach labels from (i ∷ items) =
    is_out_of_reach labels from i || any_out_of_reach labels (from + item_bytes i) items

abbrev pub lengthened_item : (labels : ℕ → Option ℕ) → (from : ℕ) → SizedItem → SizedItem
lengthened_item labels from i = if is_out_of_reach labels from i then longest_item i else i

abbrev pub lengthened : (labels : ℕ → Option ℕ) → (from : ℕ) → List SizedItem → List SizedItem
lengthened labels from [] = []
lengthened labels from (i ∷ items) = lengthened_item labels from i ∷ lengthened labels (from + item_bytes i) items

-- a turn goes by the labels as they stand before it
abbrev pub turn : List SizedItem → List SizedItem
turn items = lengthened (label_among 0 items) 0 items

abbrev pub turns : (n : ℕ) → List SizedItem → List SizedItem
turns zero items = items
turns (suc n) items = turns n (turn items)

abbrev pub shorts_of : SizedItem → ℕ
shorts_of (sizes.Plain i) = 0
shorts_of (sizes.Label l) = 0
shorts_of (sizes.Jump rd l) = 0
shorts_of (sizes.Short kind a b l) = 1
shorts_of (sizes.Long kind a b l) = 0

abbrev pub short_count : List SizedItem → ℕ
short_count [] = 0
short_count (i ∷ items) = shorts_of i + short_count items

-- as many turns as branches are enough, since each lengthens one until none is out of reach
abbrev pub sized_items : List Item → List SizedItem
sized_items items = turns (short_count (shortest_items items)) (shortest_items items)
