-- Items whose labels count up have an assembly.
use Rattle.std.proofs.Common.{◌≡◌, ◌⊎◌, inl, inr, ℕ, ◌+◌, ◌-◌, ◌*◌, ◌%◌, ◌^◌, ◌<◌, ◌≤◌, true, false, Bool, List, [], ◌∷◌, ◌++◌, Option, Some, None, refl, sym, ap, subst, ◌∙◌, arith, length-append, eq-eqb, lt-ltb}
use Rattle.std.specs.Prelude.{◌==◌, if◌then◌else◌, is_none, length, sum_by}
use Rattle.std.specs.Option.{option_or}
use Rattle.std.proofs.lemmas.List.Sums.{sum_by-cons}
use Rattle.std.proofs.lemmas.Bool.{and_from, or_parts}
use Rattle.qs_base.specs.Words.{sub}
use Rattle.qs_isa.specs.declared.instruction.Instr.{Instr}
use Rattle.qs_isa.specs.declared.instruction.Instr.TheVariants as instructions
use Rattle.qs_isa.specs.declared.instruction.BranchKind.{BranchKind}
use Rattle.qs_asm.specs.declared.item.Item.{Item}
use Rattle.qs_asm.specs.declared.item.Item.TheVariants.{Plain, Label, Jump, Branch}
use Rattle.qs_asm.specs.declared.sized_item.SizedItem.{SizedItem}
use Rattle.qs_asm.specs.declared.sized_item.SizedItem.TheVariants as sizes
use Rattle.qs_asm.specs.Items.{inverse, item_words}
use Rattle.qs_asm.specs.Sizing.{item_bytes, label_among, branch_distance, any_out_of_reach, sized_items}
use Rattle.qs_asm.specs.Assembly.{is_reached, distance_to, jump_code, short_code, long_code, label_code, item_code, joined, code_from, label_offset, IsAssembly}
use Rattle.qs_asm.specs.Counting.{CountUp, LeadBelow, CountedItemsAreAssembled}
use Rattle.qs_asm.proofs.SizingLaws.{item_of, items_of, sized_keep, sized_reach}
use Rattle.qs_asm.proofs.AssemblyLaws.{as_many}

-- ---- numbers

other_number : (k l : ℕ) → l < k → (k == l) ≡ false
other_number k l h = grind (arith, h)

-- a distance within the words is in the reach of JAL
distance_ahead : (k j : ℕ) → k < 2 ^ 18 → j ≤ k → sub (4 * k) (4 * j) ≡ 4 * (k - j)
distance_ahead k j h e =
    let a : 4 * k + 2 ^ 32 - 4 * j ≡ 4 * (k - j) + 2 ^ 32 = omega (arith, e) in
    let b : (4 * (k - j) + 2 ^ 32) % 2 ^ 32 ≡ 4 * (k - j) = omega (arith, h) in
    ap (λ n. n % 2 ^ 32) a ∙ b

distance_back : (k j : ℕ) → j < 2 ^ 18 → k < j → sub (4 * k) (4 * j) ≡ 2 ^ 32 - 4 * (j - k)
distance_back k j h e =
    let a : 4 * k + 2 ^ 32 - 4 * j ≡ 2 ^ 32 - 4 * (j - k) = omega (arith, e, h) in
    let b : (2 ^ 32 - 4 * (j - k)) % 2 ^ 32 ≡ 2 ^ 32 - 4 * (j - k) = omega (arith, e, h) in
    ap (λ n. n % 2 ^ 32) a ∙ b

reached_by : (d : ℕ) → (d + 2 ^ 20) % 2 ^ 32 < 2 ^ 21 → d % 2 ≡ 0 → is_reached d ≡ true
reached_by d h e = and_from _ _ (lt-ltb _ _ h) (eq-eqb (d % 2) 0 e)

reached : (k j : ℕ) → k < 2 ^ 18 → j < 2 ^ 18 → (j ≤ k) ⊎ (k < j) → is_reached (sub (4 * k) (4 * j)) ≡ true
reached k j h e (inl ahead) =
    subst (λ d. is_reached d ≡ true) (sym (distance_ahead k j h ahead))
    (reached_by (4 * (k - j)) (omega (arith, h, ahead)) (omega arith))
reached k j h e (inr back) =
    subst (λ d. is_reached d ≡ true) (sym (distance_back k j e back))
    (reached_by (2 ^ 32 - 4 * (j - k)) (omega (arith, e, back)) (omega (arith, e, back)))

ahead_or_back : (k j : ℕ) → (j ≤ k) ⊎ (k < j)
ahead_or_back k j = grind arith

-- ---- where labels stand

no_number : (a : Option ℕ) → option_or a None ≡ a
no_number None = refl
no_number (Some place) = refl

found : (a b : Option ℕ) (place : ℕ) → a ≡ Some place → option_or a b ≡ Some place
found a b place h = ap (λ x. option_or x b) h

-- a label below those of the items stands nowhere among them
none_below :
    (from first end l : ℕ) (items : List SizedItem) → CountUp first (items_of items) end → l < first → label_among from items l ≡ None
none_below from first end l [] h e = refl
none_below from first end l (sizes.Plain i ∷ items) h e = ap (λ x. option_or x None) (none_below (from + 4) first end l items h e)
none_below from first end l (sizes.Label k ∷ items) h e =
    let lower : l < first + 1 = omega (arith, e) in
    let is : k ≡ first = h.0 in
    let less : l < k = omega (arith, e, is) in
    ap (λ x. option_or x (if k == l then Some from else None)) (none_below (from + 0) (first + 1) end l items h.1 lower)
    ∙ ap (λ (z : Bool). if z then Some from else None) (other_number k l less)
none_below from first end l (sizes.Jump rd k ∷ items) h e = ap (λ x. option_or x None) (none_below (from + 4) first end l items h e)
none_below from first end l (sizes.Short kind a b k ∷ items) h e = ap (λ x. option_or x None) (none_below (from + 4) first end l items h e)
none_below from first end l (sizes.Long kind a b k ∷ items) h e = ap (λ x. option_or x None) (none_below (from + 8) first end l items h e)

-- the words of sized items, at most
abbrev most_words : List SizedItem → ℕ
most_words items = sum_by item_words (items_of items)

words_more : (i : SizedItem) (items : List SizedItem) → most_words (i ∷ items) ≡ item_words (item_of i) + most_words items
words_more i items = sum_by-cons item_words (item_of i) (items_of items)

-- each of theirs stands behind some of their words
record Stands (from : ℕ) (items : List SizedItem) (l : ℕ) : Type 0 where
  words : ℕ
  is : label_among from items l ≡ Some (from + 4 * words)
  few : words ≤ most_words items

stands_behind :
    (from more : ℕ) (items all : List SizedItem) (l : ℕ) (own : Option ℕ) → more + most_words items ≤ most_words all
    → label_among from all l ≡ option_or (label_among (from + 4 * more) items l) own
    → Stands (from + 4 * more) items l → Stands from all l
stands_behind from more items all l own sum is s =
    let there : from + 4 * more + 4 * s.words ≡ from + 4 * (more + s.words) = omega arith in
    record {
      words = more + s.words;
      is = is ∙ (found _ own _ s.is ∙ ap Some there);
      few = omega (arith, sum, s.few);
    }

itself : (k l from : ℕ) (a : Option ℕ) → a ≡ None → k ≡ l → option_or a (if k == l then Some from else None) ≡ Some (from + 4 * 0)
itself k l from a none e =
    let there : from ≡ from + 4 * 0 = omega arith in
    ap (λ x. option_or x (if k == l then Some from else None)) none
    ∙ (ap (λ (z : Bool). if z then Some from else None) (eq-eqb k l e) ∙ ap Some there)

stands :
    (from first end l : ℕ) (items : List SizedItem) → CountUp first (items_of items) end → first ≤ l → l < end → Stands from items l
stands from first end l [] h e g = absurd (omega (arith, h, e, g))
stands from first end l (sizes.Plain i ∷ items) h e g =
    let sum = words_more (sizes.Plain i) items in
    stands_behind from 1 items (sizes.Plain i ∷ items) l None (omega (arith, sum)) refl (stands (from + 4) first end l items h e g)
stands from first end l (sizes.Jump rd k ∷ items) h e g =
    let sum = words_more (sizes.Jump rd k) items in
    stands_behind from 1 items (sizes.Jump rd k ∷ items) l None (omega (arith, sum)) refl (stands (from + 4) first end l items h e g)
stands from first end l (sizes.Short kind a b k ∷ items) h e g =
    let sum = words_more (sizes.Short kind a b k) items in
    stands_behind from 1 items (sizes.Short kind a b k ∷ items) l None (omega (arith, sum)) refl (stands (from + 4) first end l items h e g)
stands from first end l (sizes.Long kind a b k ∷ items) h e g =
    let sum = words_more (sizes.Long kind a b k) items in
    stands_behind from 2 items (sizes.Long kind a b k ∷ items) l None (omega (arith, sum)) refl (stands (from + 8) first end l items h e g)
stands from first end l (sizes.Label k ∷ items) h e g =
    stands_here (ahead_or_back first l) (λ less. stands (from + 0) (first + 1) end l items h.1 less g)
  where
    stands_here : (l ≤ first) ⊎ (first < l) → (first + 1 ≤ l → Stands (from + 0) items l) → Stands from (sizes.Label k ∷ items) l
    stands_here (inl same) later =
        let one : k ≡ l = omega (arith, h.0, same, e) in
        record {
          words = 0;
          is = itself k l from (label_among (from + 0) items l) (none_below (from + 0) (first + 1) end l items h.1 (omega (arith, same))) one;
          few = omega arith;
        }
    stands_here (inr less) later =
        let sum = words_more (sizes.Label k) items in
        stands_behind from 0 items (sizes.Label k ∷ items) l (if k == l then Some from else None) (omega (arith, sum)) refl (later (omega (arith, less)))

-- ---- code

-- labels as they stand among the items
abbrev AgreeWith : (labels : ℕ → Option ℕ) → (from first end : ℕ) → List SizedItem → Type 0
AgreeWith labels from first end items =
    (l : ℕ) → first ≤ l → l < end → labels l ≡ label_among from items l

-- every label below the end stands behind less than so many words
record StandsWithin (labels : ℕ → Option ℕ) (l : ℕ) : Type 0 where
  words : ℕ
  is : labels l ≡ Some (4 * words)
  few : words < 2 ^ 18

record HasCode (code : Option (List Instr)) : Type 0 where
  list : List Instr
  is : code ≡ Some list

both_have : (a b : Option (List Instr)) → HasCode a → HasCode b → HasCode (joined a b)
both_have a b h k = record {
  list = h.list ++ k.list;
  is = ap (λ x. joined x b) h.is ∙ ap (joined (Some h.list)) k.is;
}

distance_there : (place : Option ℕ) (k j : ℕ) → place ≡ Some (4 * k) → k < 2 ^ 18 → j < 2 ^ 18
    → distance_to (4 * j) place ≡ Some (sub (4 * k) (4 * j))
distance_there place k j h e g =
    ap (distance_to (4 * j)) h
    ∙ ap (λ (z : Bool). if z then Some (sub (4 * k) (4 * j)) else None) (reached k j e g (ahead_or_back k j))

jump_has : (rd : ℕ) (distance : Option ℕ) (n : ℕ) → distance ≡ Some n → HasCode (jump_code rd distance)
jump_has rd distance n h = record { list = _; is = ap (jump_code rd) h }

short_has : (kind : BranchKind) (a b : ℕ) (distance : Option ℕ) → is_none distance ≡ false → HasCode (short_code kind a b distance)
short_has kind a b None h = cc
short_has kind a b (Some n) h = record { list = _; is = refl }

long_has : (kind : BranchKind) (a b : ℕ) (distance : Option ℕ) (n : ℕ) → distance ≡ Some n → HasCode (long_code kind a b distance)
long_has kind a b distance n h = record { list = _; is = ap (long_code kind a b) h }

label_has : (place : Option ℕ) (from : ℕ) → place ≡ Some from → HasCode (label_code from place)
label_has place from h = record {
  list = [];
  is = ap (label_code from) h ∙ ap (λ (z : Bool). if z then Some [] else None) (eq-eqb from from refl);
}

agree_behind :
    (labels : ℕ → Option ℕ) (from next first end : ℕ) (items all : List SizedItem)
    → ((l : ℕ) → label_among from all l ≡ option_or (label_among next items l) None)
    → AgreeWith labels from first end all → AgreeWith labels next first end items
agree_behind labels from next first end items all is h l e g = h l e g ∙ (is l ∙ no_number (label_among next items l))

module _ (labels : ℕ → Option ℕ) (bound : ℕ) (within : (l : ℕ) → l < bound → StandsWithin labels l) where
  has_code :
      (j from first end : ℕ) (items : List SizedItem) → from ≡ 4 * j → j + most_words items < 2 ^ 18
      → CountUp first (items_of items) end → LeadBelow bound (items_of items) → AgreeWith labels from first end items
      → any_out_of_reach labels from items ≡ false → HasCode (code_from labels from items)
  has_code j from first end [] e few up lead agree reach = record { list = []; is = refl }
  has_code j from first end (sizes.Plain i ∷ items) e few up lead agree reach =
      let sum = words_more (sizes.Plain i) items in
      both_have (Some (i ∷ [])) (code_from labels (from + 4) items) (record { list = i ∷ []; is = refl })
      (has_code (j + 1) (from + 4) first end items (omega (arith, e)) (omega (arith, few, sum)) up lead
      (agree_behind labels from (from + 4) first end items (sizes.Plain i ∷ items) (λ l. refl) agree) reach)
  has_code j from first end (sizes.Label k ∷ items) e few up lead agree reach =
      let sum = words_more (sizes.Label k) items in
      let most = ends_behind (first + 1) end (items_of items) up.1 in
      let here : labels k ≡ Some from = stands_here most in
      both_have _ _ (label_has (labels k) from here)
      (has_code j (from + 0) (first + 1) end items (omega (arith, e)) (omega (arith, few, sum)) up.1 lead behind reach)
    where
      ends_behind : (a b : ℕ) (is : List Item) → CountUp a is b → a ≤ b
      ends_behind a b [] h = omega (arith, h)
      ends_behind a b (Plain i ∷ is) h = ends_behind a b is h
      ends_behind a b (Label l ∷ is) h = let more = ends_behind (a + 1) b is h.1 in omega (arith, more)
      ends_behind a b (Jump rd l ∷ is) h = ends_behind a b is h
      ends_behind a b (Branch kind c d l ∷ is) h = ends_behind a b is h

      stands_here : first + 1 ≤ end → labels k ≡ Some from
      stands_here most =
          let low : first ≤ k = omega (arith, up.0) in
          let high : k < end = omega (arith, up.0, most) in
          let there : from + 4 * 0 ≡ from = omega arith in
          agree k low high
          ∙ (itself k k from (label_among (from + 0) items k) (none_below (from + 0) (first + 1) end k items up.1 (omega (arith, up.0))) refl
          ∙ ap Some there)

      behind : AgreeWith labels (from + 0) (first + 1) end items
      behind l low high =
          let s = stands (from + 0) (first + 1) end l items up.1 low high in
          agree l (omega (arith, low)) high
          ∙ (found (label_among (from + 0) items l) (if k == l then Some from else None) _ s.is ∙ sym s.is)
  has_code j from first end (sizes.Jump rd l ∷ items) e few up lead agree reach =
      let w = within l lead.0 in
      let sum = words_more (sizes.Jump rd l) items in
      let there : distance_to from (labels l) ≡ Some (sub (4 * w.words) (4 * j)) =
      ap (λ n. distance_to n (labels l)) e ∙ distance_there (labels l) w.words j w.is w.few (omega (arith, few, sum)) in
      both_have _ _ (jump_has rd (distance_to from (labels l)) _ there)
      (has_code (j + 1) (from + 4) first end items (omega (arith, e)) (omega (arith, few, sum)) up lead.1
      (agree_behind labels from (from + 4) first end items (sizes.Jump rd l ∷ items) (λ k. refl) agree) reach)
  has_code j from first end (sizes.Short kind a b l ∷ items) e few up lead agree reach =
      let sum = words_more (sizes.Short kind a b l) items in
      let two = or_parts (is_none (branch_distance from (labels l))) (any_out_of_reach labels (from + 4) items) reach in
      both_have _ _ (short_has kind a b (branch_distance from (labels l)) two.0)
      (has_code (j + 1) (from + 4) first end items (omega (arith, e)) (omega (arith, few, sum)) up lead.1
      (agree_behind labels from (from + 4) first end items (sizes.Short kind a b l ∷ items) (λ k. refl) agree) two.1)
  has_code j from first end (sizes.Long kind a b l ∷ items) e few up lead agree reach =
      let w = within l lead.0 in
      let sum = words_more (sizes.Long kind a b l) items in
      let next : from + 4 ≡ 4 * (j + 1) = omega (arith, e) in
      let there : distance_to (from + 4) (labels l) ≡ Some (sub (4 * w.words) (4 * (j + 1))) =
      ap (λ n. distance_to n (labels l)) next ∙ distance_there (labels l) w.words (j + 1) w.is w.few (omega (arith, few, sum)) in
      both_have _ _ (long_has kind a b (distance_to (from + 4) (labels l)) _ there)
      (has_code (j + 2) (from + 8) first end items (omega (arith, e)) (omega (arith, few, sum)) up lead.1
      (agree_behind labels from (from + 8) first end items (sizes.Long kind a b l ∷ items) (λ k. refl) agree) reach)

pub counted_items_are_assembled : CountedItemsAreAssembled
counted_items_are_assembled items end up lead few =
    let c = has_code (label_offset items) end within 0 0 0 end sized refl few_too up_too (subst (LeadBelow end) (sym (sized_keep items)) lead) (λ l low high. refl) (sized_reach items) in
    record { code = c.list; is = c.is }
  where
    sized : List SizedItem
    sized = sized_items items

    few_too : 0 + most_words sized < 2 ^ 18
    few_too = let same = ap (sum_by item_words) (sized_keep items) in omega (arith, few, same)

    up_too : CountUp 0 (items_of sized) end
    up_too = subst (λ is. CountUp 0 is end) (sym (sized_keep items)) up

    within : (l : ℕ) → l < end → StandsWithin (label_offset items) l
    within l high =
        let s = stands 0 0 end l sized up_too (omega arith) high in
        record { words = s.words; is = s.is ∙ ap Some (omega arith); few = omega (arith, s.few, few_too) }

-- ---- how many words

label_length : (from : ℕ) (place : Option ℕ) (x : List Instr) → label_code from place ≡ Some x → length x ≡ 0
label_length from None x h = cc
label_length from (Some place) x h = by (place == from) h
  where
    by : (b : Bool) → (if b then Some [] else None) ≡ Some x → length x ≡ 0
    by true h = let same : [] ≡ x = cc in ap length (sym same)
    by false h = cc

jump_length : (rd : ℕ) (distance : Option ℕ) (x : List Instr) → jump_code rd distance ≡ Some x → length x ≡ 1
jump_length rd None x h = cc
jump_length rd (Some d) x h = let same : instructions.Jal rd d ∷ [] ≡ x = cc in ap length (sym same)

short_length : (kind : BranchKind) (a b : ℕ) (distance : Option ℕ) (x : List Instr) → short_code kind a b distance ≡ Some x → length x ≡ 1
short_length kind a b None x h = cc
short_length kind a b (Some d) x h = let same : instructions.Branch kind a b d ∷ [] ≡ x = cc in ap length (sym same)

long_length : (kind : BranchKind) (a b : ℕ) (distance : Option ℕ) (x : List Instr) → long_code kind a b distance ≡ Some x → length x ≡ 2
long_length kind a b None x h = cc
long_length kind a b (Some d) x h =
    let same : instructions.Branch (inverse kind) a b 8 ∷ instructions.Jal 0 d ∷ [] ≡ x = cc in ap length (sym same)

item_length : (labels : ℕ → Option ℕ) (from : ℕ) (i : SizedItem) (x : List Instr) → item_code labels from i ≡ Some x → 4 * length x ≡ item_bytes i
item_length labels from (sizes.Plain i) x h = let same : i ∷ [] ≡ x = cc in let n = ap length (sym same) in omega (arith, n)
item_length labels from (sizes.Label l) x h = let n = label_length from (labels l) x h in omega (arith, n)
item_length labels from (sizes.Jump rd l) x h = let n = jump_length rd (distance_to from (labels l)) x h in omega (arith, n)
item_length labels from (sizes.Short kind a b l) x h = let n = short_length kind a b (branch_distance from (labels l)) x h in omega (arith, n)
item_length labels from (sizes.Long kind a b l) x h = let n = long_length kind a b (distance_to (from + 4) (labels l)) x h in omega (arith, n)

few_bytes : (i : SizedItem) → item_bytes i ≤ 4 * item_words (item_of i)
few_bytes (sizes.Plain i) = omega arith
few_bytes (sizes.Label l) = omega arith
few_bytes (sizes.Jump rd l) = omega arith
few_bytes (sizes.Short kind a b l) = omega arith
few_bytes (sizes.Long kind a b l) = omega arith

code_length : (labels : ℕ → Option ℕ) (from : ℕ) (items : List SizedItem) (code : List Instr) → code_from labels from items ≡ Some code → length code ≤ most_words items
code_length labels from [] code h = let same : [] ≡ code = cc in let n = ap length (sym same) in omega (arith, n)
code_length labels from (i ∷ items) code h =
    by (item_code labels from i) (code_from labels (from + item_bytes i) items) refl (λ y e. code_length labels (from + item_bytes i) items y e) refl h
  where
    by :
        (a b : Option (List Instr)) → item_code labels from i ≡ a
        → ((y : List Instr) → code_from labels (from + item_bytes i) items ≡ Some y → length y ≤ most_words items)
        → code_from labels (from + item_bytes i) items ≡ b → joined a b ≡ Some code → length code ≤ most_words (i ∷ items)
    by None b first next others h = cc
    by (Some x) None first next others h = cc
    by (Some x) (Some y) first next others h =
        let same : x ++ y ≡ code = cc in
        let whole = ap length (sym same) in
        let both = length-append x y in
        let one = item_length labels from i x first in
        let few = few_bytes i in
        let rest = next y others in
        let sum = words_more i items in
        omega (arith, whole, both, one, few, rest, sum)

-- the words are no more than those of the items
pub assembly_length : (items : List Item) (words : List ℕ) → IsAssembly items words → length words ≤ sum_by item_words items
assembly_length items words is =
    let as_many = as_many words is.code is.decodes in
    let few = code_length (label_offset items) 0 (sized_items items) is.code is.is in
    let same = ap (sum_by item_words) (sized_keep items) in
    omega (arith, as_many, few, same)
