-- What stands for values: the results of operations and tests on them.
use Rattle.std.proofs.Common.{◌≡◌, ◌⊎◌, inl, inr, ℕ, ◌+◌, ◌-◌, ◌*◌, ◌%◌, ◌^◌, ◌==◌, ◌<◌, ◌≤◌, Bool, true, false, not, Option, Some, refl, sym, ap, ◌∙◌, subst, arith}
use Rattle.std.specs.Prelude.{nat_lt, nat_le, pos, ◌+ℤ◌, ◌-ℤ◌, ◌*ℤ◌, neg_ℤ, int_div}
use Rattle.std.proofs.lemmas.Bool.Decides.{nat_tests}
use Rattle.qs_base.specs.Words.{signed, wrap, sub}
use Rattle.qs_base.proofs.WordLaws.{wrap-below}
use Rattle.qs_memory.specs.Partial.{◌>>=◌}
use Rattle.qs_memory.specs.Values.{Pointer, null, into, Value, integer, address}
use Rattle.qs_memory.specs.Memory.{Memory, block_at, Target, target}
use Rattle.qs_memory.specs.Integers.{reading, compares}
use Rattle.qs_memory.specs.Pointers.{moved_by, member_of, in_one_block, elements, difference, equal, compares_pointers, truth}
use Rattle.qs_memory.specs.Operations.{of_truth}
use Rattle.qs_memory.specs.Soundness.{IsLive}
use Rattle.qs_memory.specs.declared.operation.Signedness.{Signedness}
use Rattle.qs_memory.specs.declared.operation.Signedness.TheVariants.{Unsigned}
use Rattle.qs_memory.specs.declared.operation.Direction.TheVariants.{Up, Down}
use Rattle.qs_memory.specs.declared.operation.Comparison.{Comparison}
use Rattle.qs_memory.specs.declared.operation.Comparison.TheVariants as comparisons
use Rattle.qs_memory.proofs.Options.{some_same, followed, only_if_value, only_if_some, some_is}
use Rattle.qs_memory.proofs.BlockLaws.{live_known, target_is}
use Rattle.qs_memory.proofs.PointerLaws.{move_needs, equal_needs, equal_same}
use Rattle.qs_emit.specs.Machine.{base}
use Rattle.qs_emit.specs.Lies.{Points, StandsForPointer, StandsFor, cell_of}
use Rattle.qs_emit.specs.Surroundings.{Ground, HasBlocks}
use Rattle.qs_emit.specs.Relation.{Setup, around}
use Rattle.qs_emit.proofs.Access.{lies_low, have_words, stands_word}
use Rattle.qs_emit.proofs.Words.{of_test, goes_up, goes_down, distance_signed}

pub same_cell : (b i d j : ℕ) → cell_of b i ≡ cell_of d j → b ≡ d
same_cell b i d j e = cc

pub stands_test : (m : Memory) (address_of : ℕ → ℕ) (b : Bool) (word : ℕ) → word ≡ of_test b → StandsFor m address_of (of_truth b) word
stands_test m address_of true word e = (e, omega arith)
stands_test m address_of false word e = (e, omega arith)

pub stands_is : (m : Memory) (address_of : ℕ → ℕ) (v w : Value) (word : ℕ) → v ≡ w → StandsFor m address_of v word → StandsFor m address_of w word
stands_is m address_of v w word e h = subst (λ (u : Value). StandsFor m address_of u word) e h

module _ (s : Setup) (g : Ground) (sp : ℕ) (blocks : HasBlocks (around s) g sp) (above : base s.room ≤ sp) where
  abbrev Stands : Value → ℕ → Type 0
  Stands v word = StandsFor g.memory g.address_of v word

  abbrev StandsAt : Pointer → ℕ → Type 0
  StandsAt p word = StandsForPointer g.memory g.address_of p word

  -- the word of a pointer into a live block
  pub pointer_word : (p : Pointer) (block offset word : ℕ) → p ≡ into block offset → IsLive g.memory block → StandsAt p word → (word ≡ g.address_of block + offset) × (offset ≤ (block_at g.memory block).size)
  pointer_word p block offset word e live h =
      let q : Points g.memory g.address_of block offset word = subst (λ (r : Pointer). StandsAt r word) e h in
      (q.is live, q.inside live)

  pub points_to : (block offset : ℕ) → IsLive g.memory block → offset ≤ (block_at g.memory block).size → StandsAt (into block offset) (g.address_of block + offset)
  points_to block offset live le = record { made = live_known g.memory block live; is = λ l. refl; inside = λ l. le }

  pub low_word : (v : Value) (word : ℕ) → Stands v word → Stands v (word % 2 ^ 32)
  low_word v word h = stands_word g.memory g.address_of v word (have_words s g sp blocks above) h

  -- ---- pointers that move

  -- up by elements of a size
  pub moved_up : (sign : Signedness) (size : ℕ) (p q : Pointer) (n word : ℕ) → n < 2 ^ 32 → moved_by Up sign size g.memory p n ≡ Some q → StandsAt p word → StandsAt q ((word + n * size) % 2 ^ 32)
  moved_up sign size p q n word small h stands =
      let m = move_needs g.memory p q (reading sign n *ℤ pos size) h in
      let at = pointer_word p m.block m.old word m.begins m.live stands in
      let end = (lies_low s g sp blocks above m.block m.live).end in
      let inside = m.inside in
      let e : (word + n * size) % 2 ^ 32 ≡ g.address_of m.block + m.new = ap (λ (x : ℕ). (x + n * size) % 2 ^ 32) at.0 ∙ goes_up sign (g.address_of m.block) m.old m.new n size small (omega (arith, end, inside)) m.distance in
      subst (λ (x : ℕ). StandsAt q x) (sym e) (subst (λ (r : Pointer). StandsAt r (g.address_of m.block + m.new)) (sym m.gives) (points_to m.block m.new m.live m.inside))

  pub moved_down : (sign : Signedness) (size : ℕ) (p q : Pointer) (n word : ℕ) → n < 2 ^ 32 → moved_by Down sign size g.memory p n ≡ Some q → StandsAt p word → StandsAt q ((word + 2 ^ 32 - n * size % 2 ^ 32) % 2 ^ 32)
  moved_down sign size p q n word small h stands =
      let m = move_needs g.memory p q (neg_ℤ (reading sign n *ℤ pos size)) h in
      let at = pointer_word p m.block m.old word m.begins m.live stands in
      let end = (lies_low s g sp blocks above m.block m.live).end in
      let inside = m.inside in
      let was = at.1 in
      let e : (word + 2 ^ 32 - n * size % 2 ^ 32) % 2 ^ 32 ≡ g.address_of m.block + m.new = ap (λ (x : ℕ). (x + 2 ^ 32 - n * size % 2 ^ 32) % 2 ^ 32) at.0 ∙ goes_down sign (g.address_of m.block) m.old m.new n size small (omega (arith, end, inside)) (omega (arith, end, was)) m.distance in
      subst (λ (x : ℕ). StandsAt q x) (sym e) (subst (λ (r : Pointer). StandsAt r (g.address_of m.block + m.new)) (sym m.gives) (points_to m.block m.new m.live m.inside))

  -- to a member
  pub member_word : (p q : Pointer) (offset word : ℕ) → member_of g.memory p offset ≡ Some q → StandsAt p word → StandsAt q ((word + offset) % 2 ^ 32)
  member_word p q offset word h stands =
      let m = move_needs g.memory p q (pos offset) h in
      let at = pointer_word p m.block m.old word m.begins m.live stands in
      let end = (lies_low s g sp blocks above m.block m.live).end in
      let inside = m.inside in
      let sum : m.old + offset ≡ m.new = added m.old offset m.new m.distance in
      let w = at.0 in
      let e : (word + offset) % 2 ^ 32 ≡ g.address_of m.block + m.new = omega (arith, w, sum, end, inside) in
      subst (λ (x : ℕ). StandsAt q x) (sym e) (subst (λ (r : Pointer). StandsAt r (g.address_of m.block + m.new)) (sym m.gives) (points_to m.block m.new m.live m.inside))
    where
      added : (a b d : ℕ) → pos a +ℤ pos b ≡ pos d → a + b ≡ d
      added a b d e = cc

  -- ---- two pointers into one block

  record Pair {A : Type 0} (x y : ℕ) (next : ℕ → ℕ → Option A) (answer : A) : Type 0 where
    from : ℕ
    left : ℕ
    right : ℕ
    x_is : x ≡ from + left
    y_is : y ≡ from + right
    x_low : from + left ≤ 2 ^ 31
    y_low : from + right ≤ 2 ^ 31
    positive : 0 < from
    gives : next left right ≡ Some answer

  pair_of : {A : Type 0} (p q : Pointer) (x y : ℕ) (next : ℕ → ℕ → Option A) (answer : A) → in_one_block g.memory p q next ≡ Some answer → StandsAt p x → StandsAt q y → Pair x y next answer
  pair_of {A} p q x y next answer h hx hy =
      let a = followed (target g.memory p) _ answer h in
      let b = followed (target g.memory q) _ answer a.then in
      let t = only_if_some (a.value.block == b.value.block) (next a.value.offset b.value.offset) answer b.then in
      let is = target_is g.memory p a.value a.first in
      let other = target_is g.memory q b.value b.first in
      let one : b.value.block ≡ a.value.block = grind (arith, nat_tests, t.0) in
      let px = pointer_word p a.value.block a.value.offset x is.is is.live hx in
      let py = pointer_word q b.value.block b.value.offset y other.is other.live hy in
      let low = lies_low s g sp blocks above a.value.block is.live in
      let end = low.end in
      let inside = px.1 in
      let same : g.address_of b.value.block ≡ g.address_of a.value.block = ap g.address_of one in
      let inside_too : b.value.offset ≤ (block_at g.memory a.value.block).size = subst (λ (k : ℕ). b.value.offset ≤ (block_at g.memory k).size) one py.1 in
      record {
        from = g.address_of a.value.block;
        left = a.value.offset;
        right = b.value.offset;
        x_is = px.0;
        y_is = py.0 ∙ ap (λ (k : ℕ). k + b.value.offset) same;
        x_low = omega (arith, end, inside);
        y_low = omega (arith, end, inside_too);
        positive = low.positive;
        gives = t.1;
      }

  pub difference_word : (size : ℕ) (p q : Pointer) (x y : ℕ) (v : Value) → 0 < size → size < 2 ^ 31 → difference size g.memory p q ≡ Some v → StandsAt p x → StandsAt q y → Stands v (wrap (int_div (signed (sub x y)) (pos size)))
  difference_word size p q x y v positive small h hx hy =
      let b = pair_of p q x y (λ i j. elements size (pos i -ℤ pos j)) v h hx hy in
      let c = only_if_value _ (integer (wrap (int_div (pos b.left -ℤ pos b.right) (pos size)))) v b.gives in
      let d : signed (sub x y) ≡ pos b.left -ℤ pos b.right = ap (λ (z : ℕ). signed (sub z y)) b.x_is ∙ ap (λ (z : ℕ). signed (sub (b.from + b.left) z)) b.y_is ∙ distance_signed b.from b.left b.right b.x_low b.y_low b.positive in
      stands_is g.memory g.address_of _ v _ c.1 (ap (λ z. wrap (int_div z (pos size))) d, wrap-below _)

  -- ---- tests

  -- whether words are the same
  pub record Tested (answer : Bool) (x y : ℕ) : Type 0 where
    pub is : (x == y) ≡ answer
    pub low_x : x < 2 ^ 32
    pub low_y : y < 2 ^ 32

  tested_same : (x y : ℕ) (answer : Bool) → answer ≡ true → x ≡ y → (x == y) ≡ answer
  tested_same x y answer t e = let f : (x == y) ≡ true = grind (arith, nat_tests, e) in f ∙ sym t

  tested_apart : (x y : ℕ) (answer : Bool) → answer ≡ false → (x ≡ y → ⊥) → (x == y) ≡ answer
  tested_apart x y answer t e = let f : (x == y) ≡ false = grind (arith, nat_tests, e) in f ∙ sym t

  never : (o : Option Target) (answer : Bool) → (o >>= λ t. Some false) ≡ Some answer → answer ≡ false
  never o answer h = let a = followed o (λ t. Some false) answer h in sym (some_same false answer a.then)

  pub equal_word : (p q : Pointer) (x y : ℕ) (answer : Bool) → equal g.memory p q ≡ Some answer → StandsAt p x → StandsAt q y → Tested answer x y
  equal_word null null x y answer h hx hy = record { is = tested_same x y answer (sym (some_same true answer h)) (hx ∙ sym hy); low_x = omega (arith, hx); low_y = omega (arith, hy) }
  equal_word null (into b i) x y answer h hx hy =
      let live = equal_needs g.memory null (into b i) (some_is _ answer h) in
      let e = hy.is live in
      let low = lies_low s g sp blocks above b live in
      let positive = low.positive in let end = low.end in let inside = hy.inside live in
      record { is = tested_apart x y answer (never _ answer h) (λ f. absurd (omega (arith, f, hx, e, positive))); low_x = omega (arith, hx); low_y = omega (arith, e, end, inside) }
  equal_word (into b i) null x y answer h hx hy =
      let live = equal_needs g.memory (into b i) null (some_is _ answer h) in
      let e = hx.is live in
      let low = lies_low s g sp blocks above b live in
      let positive = low.positive in let end = low.end in let inside = hx.inside live in
      record { is = tested_apart x y answer (never _ answer h) (λ f. absurd (omega (arith, f, hy, e, positive))); low_x = omega (arith, e, end, inside); low_y = omega (arith, hy) }
  equal_word (into b i) (into d j) x y answer h hx hy =
      let both = equal_needs g.memory (into b i) (into d j) (some_is _ answer h) in
      let live_b = both.0 in
      let live_d = both.1.0 in
      let e = hx.is live_b in let f = hy.is live_d in
      let end_b = (lies_low s g sp blocks above b live_b).end in let end_d = (lies_low s g sp blocks above d live_d).end in
      let in_b = hx.inside live_b in let in_d = hy.inside live_d in
      record { is = by answer refl live_b live_d e f both.1.1; low_x = omega (arith, e, end_b, in_b); low_y = omega (arith, f, end_d, in_d) }
    where
      block_in : Pointer → ℕ
      block_in null = 0
      block_in (into k o) = k

      offset_in : Pointer → ℕ
      offset_in null = 0
      offset_in (into k o) = o

      by : (t : Bool) → answer ≡ t → IsLive g.memory b → IsLive g.memory d → x ≡ g.address_of b + i → y ≡ g.address_of d + j → (b ≡ d) ⊎ ((i < (block_at g.memory b).size) × (j < (block_at g.memory d).size)) → (x == y) ≡ answer
      by true t live_b live_d e f how =
          let same : into b i ≡ into d j = (equal_same g.memory (into b i) (into d j) answer h).0 t in
          let k : b ≡ d = ap block_in same in
          let o : i ≡ j = ap offset_in same in
          tested_same x y answer t (e ∙ ap (λ (z : ℕ). g.address_of z + i) k ∙ ap (λ (z : ℕ). g.address_of d + z) o ∙ sym f)
      by false t live_b live_d e f (inl k) = tested_apart x y answer t (λ z.
          let a : g.address_of b ≡ g.address_of d = ap g.address_of k in
          let o : i ≡ j = omega (arith, z, e, f, a) in
          let same : answer ≡ true = (equal_same g.memory (into b i) (into d j) answer h).1 (ap (λ (n : ℕ). into n i) k ∙ ap (λ (n : ℕ). into d n) o) in
          let no_way : true ≡ false = sym same ∙ t in
          cc)
      by false t live_b live_d e f (inr inside) = tested_apart x y answer t (λ z.
          let k : b ≡ d = same_cell b i d j (sym (blocks.lies.owned b i live_b inside.0) ∙ ap g.owner (sym e ∙ z ∙ f) ∙ blocks.lies.owned d j live_d inside.1) in
          let a : g.address_of b ≡ g.address_of d = ap g.address_of k in
          let o : i ≡ j = omega (arith, z, e, f, a) in
          let same : answer ≡ true = (equal_same g.memory (into b i) (into d j) answer h).1 (ap (λ (n : ℕ). into n i) k ∙ ap (λ (n : ℕ). into d n) o) in
          let no_way : true ≡ false = sym same ∙ t in
          cc)

  pub record Ordered (op : Comparison) (answer : Bool) (x y : ℕ) : Type 0 where
    pub is : compares op Unsigned x y ≡ answer
    pub low_x : x < 2 ^ 32
    pub low_y : y < 2 ^ 32

  ordered : (op : Comparison) (test : ℕ → ℕ → Bool) (p q : Pointer) (x y : ℕ) (answer : Bool) → ((from i j : ℕ) → compares op Unsigned (from + i) (from + j) ≡ test i j) → in_one_block g.memory p q (λ i j. Some (test i j)) ≡ Some answer → StandsAt p x → StandsAt q y → Ordered op answer x y
  ordered op test p q x y answer law h hx hy =
      let b = pair_of p q x y (λ i j. Some (test i j)) answer h hx hy in
      let x_is = b.x_is in let y_is = b.y_is in let x_low = b.x_low in let y_low = b.y_low in
      record {
        is = ap (λ (z : ℕ). compares op Unsigned z y) b.x_is ∙ ap (λ (z : ℕ). compares op Unsigned (b.from + b.left) z) b.y_is ∙ law b.from b.left b.right ∙ some_same _ answer b.gives;
        low_x = omega (arith, x_is, x_low);
        low_y = omega (arith, y_is, y_low);
      }

  shifted_less : (from i j : ℕ) → nat_lt (from + i) (from + j) ≡ nat_lt i j
  shifted_less from i j = by (nat_lt i j) refl
    where
      by : (b : Bool) → nat_lt i j ≡ b → nat_lt (from + i) (from + j) ≡ b
      by true e = grind (arith, nat_tests, e)
      by false e = grind (arith, nat_tests, e)

  less_or_equal : (i j : ℕ) → not (nat_lt j i) ≡ nat_le i j
  less_or_equal i j = by (nat_le i j) refl
    where
      by : (b : Bool) → nat_le i j ≡ b → not (nat_lt j i) ≡ b
      by true e = let f : nat_lt j i ≡ false = grind (arith, nat_tests, e) in ap not f
      by false e = let f : nat_lt j i ≡ true = grind (arith, nat_tests, e) in ap not f

  pub pointers_compared : (op : Comparison) (p q : Pointer) (x y : ℕ) (answer : Bool) → compares_pointers op g.memory p q ≡ Some answer → StandsAt p x → StandsAt q y → Ordered op answer x y
  pointers_compared comparisons.Less p q x y answer h hx hy = ordered comparisons.Less nat_lt p q x y answer (λ from i j. shifted_less from i j) h hx hy
  pointers_compared comparisons.Greater p q x y answer h hx hy = ordered comparisons.Greater (λ i j. nat_lt j i) p q x y answer (λ from i j. shifted_less from j i) h hx hy
  pointers_compared comparisons.LessOrEqual p q x y answer h hx hy = ordered comparisons.LessOrEqual nat_le p q x y answer (λ from i j. ap not (shifted_less from j i) ∙ less_or_equal i j) h hx hy
  pointers_compared comparisons.GreaterOrEqual p q x y answer h hx hy = ordered comparisons.GreaterOrEqual (λ i j. nat_le j i) p q x y answer (λ from i j. ap not (shifted_less from i j) ∙ less_or_equal j i) h hx hy
  pointers_compared comparisons.Equal p q x y answer h hx hy = let t = equal_word p q x y answer h hx hy in record { is = t.is; low_x = t.low_x; low_y = t.low_y }
  pointers_compared comparisons.NotEqual p q x y answer h hx hy =
      let a = followed (equal g.memory p q) (λ same. Some (not same)) answer h in
      let t = equal_word p q x y a.value a.first hx hy in
      record { is = ap not t.is ∙ some_same (not a.value) answer a.then; low_x = t.low_x; low_y = t.low_y }

  -- the truth of a scalar
  pub truth_word : (v : Value) (x : ℕ) (answer : Bool) → truth g.memory v ≡ Some answer → Stands v x → not (x == 0) ≡ answer
  truth_word (integer n) x answer h hx = ap (λ (z : ℕ). not (z == 0)) hx.0 ∙ some_same _ answer h
  truth_word (address p) x answer h hx =
      let a = followed (equal g.memory p null) (λ same. Some (not same)) answer h in
      let t = equal_word p null x 0 a.value a.first hx refl in
      ap not t.is ∙ some_same (not a.value) answer a.then
