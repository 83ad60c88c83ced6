-- Steps of memory where blocks are hidden: at pointers that stay in the reach they do the same, and leave a memory of which the same is so.
use Rattle.std.proofs.Common.{◌≡◌, ◌⊎◌, inl, inr, ⊎_elim, ℕ, zero, suc, ◌+◌, ◌-◌, ◌/◌, ◌<◌, ◌≤◌, not, Bool, true, false, List, [], ◌∷◌, length, map, Option, Some, None, refl, sym, ap, ap₂, ◌∙◌, subst, arith}
use Rattle.std.specs.Prelude.{slice_set, option_map}
use Rattle.std.proofs.lemmas.Bool.{cases_eq, cases_lt}
use Rattle.std.proofs.lemmas.Option.{same_Some}
use Rattle.qs_memory.specs.Partial.{◌>>=◌, only_if}
use Rattle.qs_memory.specs.Values.{Pointer, null, into, Value, integer, address, width}
use Rattle.qs_memory.specs.Memory.{Cell, unset, byte, part, Block, Memory, no_block, block_at, Target, target, range, overlap, cells_from, overlaid, cells_at, with_cells, write_cells, bytes_of, parts_of, cells_of, number_of, are_parts, pointer_of, value_of, load, store, copy, fill, BlankTree, zeros, nulls, repeated, nothing, joined, blank_cells, new_block, make, released, release}
use Rattle.qs_memory.specs.Soundness.{IsLive}
use Rattle.qs_memory.specs.declared.scalar.Scalar.{Scalar}
use Rattle.qs_memory.specs.declared.scalar.Scalar.TheVariants as scalars
use Rattle.qs_memory.proofs.Options.{followed, only_if_value}
use Rattle.qs_memory.proofs.CellLaws.{Each, each_overlaid, each_from}
use Rattle.qs_memory.proofs.SoundLaws.{each_append, each_times}
use Rattle.qs_memory.proofs.BlockLaws.{live_known, target_is, range_is, range-like, written, not_written, liveness_kept, length-with_cells, blocks_are_fresh, blocks_are_released, live_below}
use Rattle.qs_memory.proofs.StoreLaws.{Wrote, stored}
use Rattle.qs_memory.proofs.StepLaws.{copied, filled}
use Rattle.qs_hiding.specs.Hidden.{Reach, seen, hidden_from, hidden, pointer_stays, value_stays, cell_stays, IsClosed, IsBehind}

-- ---- steps that may be undefined

pub bind_at : {A B : Type 0} (o : Option A) (f g : A → Option B) → ((a : A) → o ≡ Some a → g a ≡ f a) → (o >>= g) ≡ (o >>= f)
bind_at None f g h = refl
bind_at (Some a) f g h = h a refl

pub bind_same : {A B : Type 0} (o p : Option A) (f g : A → Option B) → p ≡ o → ((a : A) → o ≡ Some a → g a ≡ f a) → (p >>= g) ≡ (o >>= f)
bind_same {A} {B} o p f g e h = ap (λ (q : Option A). q >>= g) e ∙ bind_at o f g h

mapped_at : {A B : Type 0} (o : Option A) (f g : A → Option B) (to : B → B) → ((a : A) → o ≡ Some a → g a ≡ option_map to (f a)) → (o >>= g) ≡ option_map to (o >>= f)
mapped_at None f g to h = refl
mapped_at (Some a) f g to h = h a refl

pub bind_mapped : {A B : Type 0} (o p : Option A) (f g : A → Option B) (to : B → B) → p ≡ o → ((a : A) → o ≡ Some a → g a ≡ option_map to (f a))
    → (p >>= g) ≡ option_map to (o >>= f)
bind_mapped {A} {B} o p f g to e h = ap (λ (q : Option A). q >>= g) e ∙ mapped_at o f g to h

only_if_mapped : {A : Type 0} (b : Bool) (o p : Option A) (to : A → A) → p ≡ option_map to o → only_if b p ≡ option_map to (only_if b o)
only_if_mapped true o p to e = e
only_if_mapped false o p to e = refl

module _ (r : Reach) where
  -- ---- blocks

  seen_none : (t : Bool) → no_block ≡ seen t no_block
  seen_none true = refl
  seen_none false = refl

  pub block_hidden : (n : ℕ) (m : Memory) (b : ℕ) → block_at (hidden_from r n m) b ≡ seen (r.keeps (n + b)) (block_at m b)
  block_hidden n [] b = seen_none (r.keeps (n + b))
  block_hidden n (x ∷ m) zero = let here : n ≡ n + 0 = omega arith in ap (λ (k : ℕ). seen (r.keeps k) x) here
  block_hidden n (x ∷ m) (suc b) = let here : n + 1 + b ≡ n + suc b = omega arith in block_hidden (n + 1) m b ∙ ap (λ (k : ℕ). seen (r.keeps k) (block_at m b)) here

  pub kept_block : (m : Memory) (b : ℕ) → r.keeps b ≡ true → block_at (hidden r m) b ≡ block_at m b
  kept_block m b e =
      let here : 0 + b ≡ b = omega arith in
      block_hidden 0 m b ∙ ap (λ (k : ℕ). seen (r.keeps k) (block_at m b)) here ∙ ap (λ (t : Bool). seen t (block_at m b)) e

  length-hidden_from : (n : ℕ) (m : Memory) → length (hidden_from r n m) ≡ length m
  length-hidden_from n [] = refl
  length-hidden_from n (x ∷ m) = ap suc (length-hidden_from (n + 1) m)

  pub length-hidden : (m : Memory) → length (hidden r m) ≡ length m
  length-hidden m = length-hidden_from 0 m

  set_hidden : (n : ℕ) (m : Memory) (b : ℕ) (x : Block) → r.keeps (n + b) ≡ true → slice_set (hidden_from r n m) b x ≡ hidden_from r n (slice_set m b x)
  set_hidden n [] b x e = refl
  set_hidden n (y ∷ m) zero x e =
      let here : n + 0 ≡ n = omega arith in
      ap (λ (t : Bool). seen t x ∷ hidden_from r (n + 1) m) (sym (subst (λ (k : ℕ). r.keeps k ≡ true) here e))
  set_hidden n (y ∷ m) (suc b) x e =
      let here : n + suc b ≡ n + 1 + b = omega arith in
      ap (λ (rest : Memory). seen (r.keeps n) y ∷ rest) (set_hidden (n + 1) m b x (subst (λ (k : ℕ). r.keeps k ≡ true) here e))

  -- ---- pointers

  pub target_stays : (m : Memory) (p : Pointer) (t : Target) → pointer_stays r p ≡ true → target m p ≡ Some t → r.keeps t.block ≡ true
  target_stays m p t e is = subst (λ (q : Pointer). pointer_stays r q ≡ true) (target_is m p t is).is e

  pub range_stays : (m : Memory) (p : Pointer) (size alignment : ℕ) (t : Target) → pointer_stays r p ≡ true → range m p size alignment ≡ Some t → r.keeps t.block ≡ true
  range_stays m p size alignment t e is = subst (λ (q : Pointer). pointer_stays r q ≡ true) (range_is m p size alignment t is).is e

  pub target_hidden : (m : Memory) (p : Pointer) → pointer_stays r p ≡ true → target (hidden r m) p ≡ target m p
  target_hidden m null e = refl
  target_hidden m (into b o) e = ap (λ (c : Block). only_if c.is_live (Some (record { block = b; offset = o }))) (kept_block m b e)

  range_hidden : (m : Memory) (p : Pointer) (size alignment : ℕ) → pointer_stays r p ≡ true → range (hidden r m) p size alignment ≡ range m p size alignment
  range_hidden m null size alignment e = refl
  range_hidden m (into b o) size alignment e =
      range-like m (hidden r m) b o size alignment (ap (λ (c : Block). c.is_live) (kept_block m b e)) (ap (λ (c : Block). c.size) (kept_block m b e))

  cells_hidden : (m : Memory) (t : Target) (size : ℕ) → r.keeps t.block ≡ true → cells_at (hidden r m) t size ≡ cells_at m t size
  cells_hidden m t size e = ap (λ (c : Block). cells_from c.cells t.offset size) (kept_block m t.block e)

  -- ---- loads

  abbrev Stays : Cell → Type 0
  Stays c = cell_stays r c ≡ true

  number_stays : (o : Option ℕ) (v : Value) → (o >>= λ n. Some (integer n)) ≡ Some v → value_stays r v ≡ true
  number_stays None v h = cc
  number_stays (Some n) v h = subst (λ (w : Value). value_stays r w ≡ true) (same_Some (integer n) v h) refl

  pointer_of_stays : (cells : List Cell) (p : Pointer) → Each Stays cells → pointer_of cells ≡ Some p → pointer_stays r p ≡ true
  pointer_of_stays [] p each h = cc
  pointer_of_stays (unset ∷ cells) p each h = cc
  pointer_of_stays (byte b ∷ cells) p each h = cc
  pointer_of_stays (part q k ∷ cells) p each h =
      let c = only_if_value (are_parts q 0 (part q k ∷ cells)) q p h in
      subst (λ (x : Pointer). pointer_stays r x ≡ true) c.1 each.0

  value_of_stays : (s : Scalar) (cells : List Cell) (v : Value) → Each Stays cells → value_of s cells ≡ Some v → value_stays r v ≡ true
  value_of_stays scalars.Char cells v each h = number_stays (number_of cells) v h
  value_of_stays scalars.Int cells v each h = number_stays (number_of cells) v h
  value_of_stays scalars.Unsigned cells v each h = number_stays (number_of cells) v h
  value_of_stays scalars.Pointer cells v each h =
      let a = followed (pointer_of cells) (λ p. Some (address p)) v h in
      subst (λ (w : Value). value_stays r w ≡ true) (same_Some (address a.value) v a.then) (pointer_of_stays cells a.value each a.first)

  read_stays : (m : Memory) (t : Target) (size : ℕ) → IsClosed r m → r.keeps t.block ≡ true → IsLive m t.block → Each Stays (cells_at m t size)
  read_stays m t size closed e live = each_from Stays (block_at m t.block).cells t.offset size (λ at low high. closed.cells t.block at e live)

  pub load_hidden : (s : Scalar) (m : Memory) (p : Pointer) → pointer_stays r p ≡ true → load s (hidden r m) p ≡ load s m p
  load_hidden s m p e =
      bind_same (range m p (width s) (width s)) (range (hidden r m) p (width s) (width s)) (λ t. value_of s (cells_at m t (width s)))
      (λ t. value_of s (cells_at (hidden r m) t (width s))) (range_hidden m p (width s) (width s) e)
      (λ t is. ap (value_of s) (cells_hidden m t (width s) (range_stays m p (width s) (width s) t e is)))

  pub load_stays : (s : Scalar) (m : Memory) (p : Pointer) (v : Value) → IsClosed r m → pointer_stays r p ≡ true → load s m p ≡ Some v → value_stays r v ≡ true
  load_stays s m p v closed e h =
      let a = followed (range m p (width s) (width s)) _ v h in
      value_of_stays s (cells_at m a.value (width s)) v
      (read_stays m a.value (width s) closed (range_stays m p (width s) (width s) a.value e a.first) (range_is m p (width s) (width s) a.value a.first).live) a.then

  -- ---- writes

  written_hidden : (m : Memory) (t : Target) (new : List Cell) → r.keeps t.block ≡ true → with_cells (hidden r m) t new ≡ hidden r (with_cells m t new)
  written_hidden m t new e =
      let here : t.block ≡ 0 + t.block = omega arith in
      ap (λ (c : Block). slice_set (hidden r m) t.block (record c { cells = overlaid new t.offset c.cells })) (kept_block m t.block e)
      ∙ set_hidden 0 m t.block (record (block_at m t.block) { cells = overlaid new t.offset (block_at m t.block).cells }) (subst (λ (k : ℕ). r.keeps k ≡ true) here e)

  write_hidden : (m : Memory) (t : Target) (new : List Cell) → r.keeps t.block ≡ true → write_cells (hidden r m) t new ≡ option_map (hidden r) (write_cells m t new)
  write_hidden m t new e =
      ap (λ (c : Block). only_if c.is_writable (Some (with_cells (hidden r m) t new))) (kept_block m t.block e)
      ∙ only_if_mapped (block_at m t.block).is_writable (Some (with_cells m t new)) (Some (with_cells (hidden r m) t new)) (hidden r) (ap (λ (x : Memory). Some x) (written_hidden m t new e))

  pub store_hidden : (s : Scalar) (m : Memory) (p : Pointer) (v : Value) → pointer_stays r p ≡ true → store s (hidden r m) p v ≡ option_map (hidden r) (store s m p v)
  store_hidden s m p v e =
      bind_mapped (range m p (width s) (width s)) (range (hidden r m) p (width s) (width s)) (λ t. cells_of s v >>= λ new. write_cells m t new)
      (λ t. cells_of s v >>= λ new. write_cells (hidden r m) t new) (hidden r) (range_hidden m p (width s) (width s) e)
      (λ t is. bind_mapped (cells_of s v) (cells_of s v) (λ new. write_cells m t new) (λ new. write_cells (hidden r m) t new) (hidden r) refl
      (λ new cells. write_hidden m t new (range_stays m p (width s) (width s) t e is)))

  pub copy_hidden : (size alignment : ℕ) (m : Memory) (to from : Pointer) → pointer_stays r to ≡ true → pointer_stays r from ≡ true
      → copy size alignment (hidden r m) to from ≡ option_map (hidden r) (copy size alignment m to from)
  copy_hidden size alignment m to from e f =
      bind_mapped (range m to size alignment) (range (hidden r m) to size alignment)
      (λ t. range m from size alignment >>= λ u. only_if (not (overlap t u size)) (write_cells m t (cells_at m u size)))
      (λ t. range (hidden r m) from size alignment >>= λ u. only_if (not (overlap t u size)) (write_cells (hidden r m) t (cells_at (hidden r m) u size)))
      (hidden r) (range_hidden m to size alignment e)
      (λ t is. bind_mapped (range m from size alignment) (range (hidden r m) from size alignment)
      (λ u. only_if (not (overlap t u size)) (write_cells m t (cells_at m u size)))
      (λ u. only_if (not (overlap t u size)) (write_cells (hidden r m) t (cells_at (hidden r m) u size)))
      (hidden r) (range_hidden m from size alignment f)
      (λ u was. only_if_mapped (not (overlap t u size)) (write_cells m t (cells_at m u size)) (write_cells (hidden r m) t (cells_at (hidden r m) u size)) (hidden r)
      (ap (write_cells (hidden r m) t) (cells_hidden m u size (range_stays m from size alignment u f was)) ∙ write_hidden m t (cells_at m u size) (range_stays m to size alignment t e is))))

  pub fill_hidden : (blank : BlankTree) (m : Memory) (p : Pointer) → pointer_stays r p ≡ true → fill blank (hidden r m) p ≡ option_map (hidden r) (fill blank m p)
  fill_hidden blank m p e =
      bind_mapped (range m p (length (blank_cells blank)) 1) (range (hidden r m) p (length (blank_cells blank)) 1) (λ t. write_cells m t (blank_cells blank))
      (λ t. write_cells (hidden r m) t (blank_cells blank)) (hidden r) (range_hidden m p (length (blank_cells blank)) 1 e)
      (λ t is. write_hidden m t (blank_cells blank) (range_stays m p (length (blank_cells blank)) 1 t e is))

  -- ---- what a write leaves

  each_bytes : (size n : ℕ) → Each Stays (bytes_of size n)
  each_bytes zero n = tt
  each_bytes (suc size) n = (refl, each_bytes size (n / 256))

  each_parts : (p : Pointer) (first size : ℕ) → pointer_stays r p ≡ true → Each Stays (parts_of p first size)
  each_parts p first zero e = tt
  each_parts p first (suc size) e = (e, each_parts p (first + 1) size e)

  each_cell : (s : Scalar) (v : Value) (new : List Cell) → value_stays r v ≡ true → cells_of s v ≡ Some new → Each Stays new
  each_cell s (integer n) new e h = let c = only_if_value _ (bytes_of (width s) n) new h in subst (λ (cells : List Cell). Each Stays cells) c.1 (each_bytes (width s) n)
  each_cell s (address p) new e h = let c = only_if_value _ (parts_of p 0 (width s)) new h in subst (λ (cells : List Cell). Each Stays cells) c.1 (each_parts p 0 (width s) e)

  each_blank : (blank : BlankTree) → Each Stays (blank_cells blank)
  each_blank (zeros n) = each_times Stays n (byte 0 ∷ []) (refl, tt)
  each_blank (nulls n) = each_times Stays n (parts_of null 0 4) (each_parts null 0 4 refl)
  each_blank (repeated n b) = each_times Stays n (blank_cells b) (each_blank b)
  each_blank nothing = tt
  each_blank (joined b c) = each_append Stays (blank_cells b) (blank_cells c) (each_blank b) (each_blank c)

  no_both : (b : Bool) → b ≡ true → b ≡ false → ⊥
  no_both b e f = let no_way : true ≡ false = sym e ∙ f in cc

  module _ (start : Memory) where
    written_behind : (m : Memory) (t : Target) (new : List Cell) → IsLive m t.block → IsBehind r start m → r.keeps t.block ≡ true → Each Stays new
        → IsBehind r start (with_cells m t new)
    written_behind m t new live h e each = record {
      closed = record { cells = λ b offset kept alive. cell b offset kept (sym (liveness_kept m t new live b) ∙ alive) (cases_eq b t.block) };
      longer = let before = h.longer in let same = length-with_cells m t new in omega arith;
      others = λ b hid. not_written m t new b (λ same. no_both (r.keeps b) (ap r.keeps same ∙ e) hid) ∙ h.others b hid;
    }
      where
        cell : (b offset : ℕ) → r.keeps b ≡ true → IsLive m b → (b ≡ t.block) ⊎ (b ≡ t.block → ⊥) → Stays ((block_at (with_cells m t new) b).cells offset)
        cell b offset kept alive (inl here) =
            subst (λ (c : Block). Stays (c.cells offset)) (sym (ap (block_at (with_cells m t new)) here ∙ written m t new live))
            (each_overlaid Stays new t.offset (block_at m t.block).cells offset each (h.closed.cells t.block offset e live))
        cell b offset kept alive (inr there) = subst (λ (c : Block). Stays (c.cells offset)) (sym (not_written m t new b there)) (h.closed.cells b offset kept alive)

    wrote_behind : (m : Memory) (p : Pointer) (size alignment : ℕ) (new : List Cell) (after : Memory) → IsBehind r start m → pointer_stays r p ≡ true → Each Stays new
        → Wrote m p size alignment new after → IsBehind r start after
    wrote_behind m p size alignment new after h e each w =
        subst (λ (a : Memory). IsBehind r start a) w.gives (written_behind m w.at new w.is.live h (range_stays m p size alignment w.at e w.range) each)

    pub store_behind : (s : Scalar) (m : Memory) (p : Pointer) (v : Value) (after : Memory) → IsBehind r start m → pointer_stays r p ≡ true → value_stays r v ≡ true
        → store s m p v ≡ Some after → IsBehind r start after
    store_behind s m p v after h e f is =
        let st = stored s m p v after is in
        wrote_behind m p (width s) (width s) st.new after h e (each_cell s v st.new f st.cells) st.wrote

    pub copy_behind : (size alignment : ℕ) (m : Memory) (to from : Pointer) (after : Memory) → IsBehind r start m → pointer_stays r to ≡ true → pointer_stays r from ≡ true
        → copy size alignment m to from ≡ Some after → IsBehind r start after
    copy_behind size alignment m to from after h e f is =
        let c = copied size alignment m to from after is in
        let kept = subst (λ (q : Pointer). pointer_stays r q ≡ true) c.is.is f in
        wrote_behind m to size alignment (cells_at m c.source size) after h e (read_stays m c.source size h.closed kept c.is.live) c.wrote

    pub fill_behind : (blank : BlankTree) (m : Memory) (p : Pointer) (after : Memory) → IsBehind r start m → pointer_stays r p ≡ true
        → fill blank m p ≡ Some after → IsBehind r start after
    fill_behind blank m p after h e is = wrote_behind m p (length (blank_cells blank)) 1 (blank_cells blank) after h e (each_blank blank) (filled blank m p after is)

  -- ---- lifetimes

  new_hidden : (n : ℕ) (sizes : List ℕ) → ((b : ℕ) → n ≤ b → r.keeps b ≡ true) → map new_block sizes ≡ hidden_from r n (map new_block sizes)
  new_hidden n [] e = refl
  new_hidden n (s ∷ sizes) e =
      ap₂ (λ (t : Bool) (rest : Memory). seen t (new_block s) ∷ rest) (sym (e n (omega arith))) (new_hidden (n + 1) sizes (λ b le. e b (omega arith)))

  make_hidden_from : (n : ℕ) (m : Memory) (sizes : List ℕ) → ((b : ℕ) → n + length m ≤ b → r.keeps b ≡ true) → make sizes (hidden_from r n m) ≡ hidden_from r n (make sizes m)
  make_hidden_from n [] sizes e = new_hidden n sizes (λ b le. e b (omega arith))
  make_hidden_from n (x ∷ m) sizes e = ap (λ (rest : Memory). seen (r.keeps n) x ∷ rest) (make_hidden_from (n + 1) m sizes (λ b le. e b (omega arith)))

  released_seen : (t : Bool) (b : Block) → released (seen t b) ≡ seen t (released b)
  released_seen true b = refl
  released_seen false b = refl

  all_released : (n : ℕ) (m : Memory) → map released (hidden_from r n m) ≡ hidden_from r n (map released m)
  all_released n [] = refl
  all_released n (x ∷ m) = ap₂ (λ (b : Block) (rest : Memory). b ∷ rest) (released_seen (r.keeps n) x) (all_released (n + 1) m)

  release_hidden_from : (first n : ℕ) (m : Memory) → release first (hidden_from r n m) ≡ hidden_from r n (release first m)
  release_hidden_from zero n m = all_released n m
  release_hidden_from (suc first) n [] = refl
  release_hidden_from (suc first) n (x ∷ m) = ap (λ (rest : Memory). seen (r.keeps n) x ∷ rest) (release_hidden_from first (n + 1) m)

  pub release_hidden : (first : ℕ) (m : Memory) → release first (hidden r m) ≡ hidden r (release first m)
  release_hidden first m = release_hidden_from first 0 m

  -- the first blocks, which are the unit's, are there, and all others are kept
  module _ (count : ℕ) (others_kept : (b : ℕ) → count ≤ b → r.keeps b ≡ true) (start : Memory) (there : count ≤ length start) where
    pub make_hidden : (sizes : List ℕ) (m : Memory) → IsBehind r start m → make sizes (hidden r m) ≡ hidden r (make sizes m)
    make_hidden sizes m h = let longer = h.longer in make_hidden_from 0 m sizes (λ b le. others_kept b (omega arith))

    -- what isn't kept is one of the first
    is_first : (b : ℕ) → r.keeps b ≡ false → b < count
    is_first b hid = ⊎_elim (λ (lt : b < count). lt) (λ (ge : count ≤ b). absurd (no_both (r.keeps b) (others_kept b ge) hid)) (cases_lt b count)

    pub make_behind : (sizes : List ℕ) (m : Memory) → IsBehind r start m → IsBehind r start (make sizes m)
    make_behind sizes m h =
        let fresh = blocks_are_fresh sizes m in
        let longer = h.longer in
        record {
          closed = record { cells = λ b offset kept alive. cell b offset kept alive (cases_lt b (length m)) };
          longer = let count = fresh.count in omega arith;
          others = λ b hid. let lt = is_first b hid in fresh.old b (omega arith) ∙ h.others b hid;
        }
      where
        cell : (b offset : ℕ) → r.keeps b ≡ true → IsLive (make sizes m) b → (b < length m) ⊎ (length m ≤ b) → Stays ((block_at (make sizes m) b).cells offset)
        cell b offset kept alive (inl known) =
            let same = (blocks_are_fresh sizes m).old b known in
            subst (λ (c : Block). Stays (c.cells offset)) (sym same) (h.closed.cells b offset kept (ap (λ (c : Block). c.is_live) (sym same) ∙ alive))
        cell b offset kept alive (inr past) =
            let fresh = blocks_are_fresh sizes m in
            let known = live_known (make sizes m) b alive in
            let many = fresh.count in
            let place : length m + (b - length m) ≡ b = omega arith in
            subst (λ (c : Block). Stays (c.cells offset)) (sym (fresh.new (b - length m) (omega arith)) ∙ ap (block_at (make sizes m)) place) refl

    pub release_behind : (first : ℕ) (m : Memory) → count ≤ first → IsBehind r start m → IsBehind r start (release first m)
    release_behind first m past h =
        let gone = blocks_are_released first m in
        record {
          closed = record {
            cells = λ b offset kept alive.
                let same = gone.old b (live_below first m b alive) in
                subst (λ (c : Block). Stays (c.cells offset)) (sym same) (h.closed.cells b offset kept (ap (λ (c : Block). c.is_live) (sym same) ∙ alive));
          };
          longer = let longer = h.longer in let many = gone.count in omega arith;
          others = λ b hid. let lt = is_first b hid in gone.old b (omega arith) ∙ h.others b hid;
        }
