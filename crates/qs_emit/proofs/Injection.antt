-- What the machine's bytes tell of block memory: values that are loaded, and cells that are stored.
use Rattle.std.proofs.Common.{◌≡◌, ◌⊎◌, ℕ, zero, suc, ◌+◌, ◌*◌, ◌/◌, ◌%◌, ◌^◌, ◌==◌, ◌&&◌, ◌<◌, ◌≤◌, Bool, true, false, List, [], ◌∷◌, length, Some, refl, sym, ap, ◌∙◌, subst, arith}
use Rattle.std.proofs.lemmas.Bool.Decides.{nat_tests}
use Rattle.qs_memory.specs.Partial.{◌>>=◌}
use Rattle.qs_memory.specs.Values.{Pointer, null, into, same_pointer, Value, integer, address, width, has_type}
use Rattle.qs_memory.specs.Memory.{Cell, unset, byte, part, Memory, block_at, Target, range, cells_from, cells_at, bytes_of, parts_of, cells_of, number_of, are_parts, pointer_of, value_of, load}
use Rattle.qs_memory.specs.Soundness.{IsLive, ComesAfter}
use Rattle.qs_memory.specs.declared.scalar.Scalar.{Scalar}
use Rattle.qs_memory.specs.declared.scalar.Scalar.TheVariants as scalars
use Rattle.qs_memory.proofs.Options.{some_same, followed, only_if_value}
use Rattle.qs_memory.proofs.BlockLaws.{IsRange, range_is}
use Rattle.qs_memory.proofs.CellLaws.{length-cells_from}
use Rattle.qs_isa.specs.declared.instruction.StoreKind.{StoreKind}
use Rattle.qs_isa.specs.declared.instruction.StoreKind.TheVariants.{Sb, Sh, Sw}
use Rattle.qs_machine.specs.State.{with_value, store_1, store_4}
use Rattle.qs_machine.specs.Step.{stored, store_width}
use Rattle.qs_emit_selection.specs.Pieces.{store_kind}
use Rattle.qs_emit.specs.Lies.{number_at, StandsForPointer, StandsFor, IsPart, Holds, HoldAll, Owner, Lies}

-- ---- later memories

-- a memory comes after, and the blocks that were there lie where they lay
pub record Later (m : Memory) (address_of : ℕ → ℕ) (later : Memory) (new_address : ℕ → ℕ) : Type 0 where
  pub after : ComesAfter m later
  pub same : (block : ℕ) → block < length m → new_address block ≡ address_of block

-- what stands for a pointer, a value or a cell goes on standing for it
pub pointer_kept : (m later : Memory) (address_of new_address : ℕ → ℕ) (p : Pointer) (word : ℕ) → Later m address_of later new_address → StandsForPointer m address_of p word → StandsForPointer later new_address p word
pointer_kept m later address_of new_address null word l h = h
pointer_kept m later address_of new_address (into b o) word l h =
    let longer = l.after.longer in
    let k = h.made in
    record {
      made = omega (arith, longer, k);
      is = λ live. h.is (l.after.live b k live) ∙ ap (λ (a : ℕ). a + o) (sym (l.same b k));
      inside = λ live. let w = h.inside (l.after.live b k live) in let e = l.after.size b k in omega (arith, w, e);
    }

pub value_kept : (m later : Memory) (address_of new_address : ℕ → ℕ) (v : Value) (word : ℕ) → Later m address_of later new_address → StandsFor m address_of v word → StandsFor later new_address v word
value_kept m later address_of new_address (integer n) word l h = h
value_kept m later address_of new_address (address p) word l h = pointer_kept m later address_of new_address p word l h

pub cell_kept : (m later : Memory) (address_of new_address : ℕ → ℕ) (cell : Cell) (held : ℕ) → Later m address_of later new_address → Holds m address_of cell held → Holds later new_address cell held
cell_kept m later address_of new_address unset held l h = tt
cell_kept m later address_of new_address (byte b) held l h = h
cell_kept m later address_of new_address (part p k) held l h =
    record { word = h.word; stands = pointer_kept m later address_of new_address p h.word l h.stands; is = h.is }

-- ---- cells in order

pub cells_same : (m : Memory) (address_of : ℕ → ℕ) (cells : List Cell) (flat other : ℕ → ℕ) (from to : ℕ) → ((j : ℕ) → j < length cells → other (to + j) ≡ flat (from + j)) → HoldAll m address_of cells flat from → HoldAll m address_of cells other to
cells_same m address_of [] flat other from to h held = tt
cells_same m address_of (cell ∷ cells) flat other from to h held =
    let z : from + 0 ≡ from = omega arith in
    let y : to + 0 ≡ to = omega arith in
    let here : other to ≡ flat from = ap other (sym y) ∙ h 0 (omega arith) ∙ ap flat z in
    let shift : (b j : ℕ) → b + 1 + j ≡ b + suc j = λ b j. omega arith in (
      subst (λ (x : ℕ). Holds m address_of cell x) (sym here) held.0,
      cells_same m address_of cells flat other (from + 1) (to + 1) (λ j k. ap other (shift to j) ∙ h (suc j) (omega (arith, k)) ∙ ap flat (sym (shift from j))) held.1,
    )

-- the cells of a range, in order
pub cells_held : (m : Memory) (address_of : ℕ → ℕ) (owner : ℕ → Owner) (flat : ℕ → ℕ) (b size offset : ℕ) → Lies m address_of owner flat → IsLive m b → offset + size ≤ (block_at m b).size → HoldAll m address_of (cells_from (block_at m b).cells offset size) flat (address_of b + offset)
cells_held m address_of owner flat b zero offset l live fits = tt
cells_held m address_of owner flat b (suc size) offset l live fits =
    let at : address_of b + (offset + 1) ≡ address_of b + offset + 1 = omega arith in
    (l.holds b offset live (omega (arith, fits)), subst (λ (a : ℕ). HoldAll m address_of (cells_from (block_at m b).cells (offset + 1) size) flat a) at (cells_held m address_of owner flat b size (offset + 1) l live (omega (arith, fits))))

-- ---- numbers

pub record IsNumber (width from : ℕ) (flat : ℕ → ℕ) (n : ℕ) : Type 0 where
  pub is : number_at width flat from ≡ n
  pub below : n < 256 ^ width

pub number_held : (m : Memory) (address_of : ℕ → ℕ) (cells : List Cell) (flat : ℕ → ℕ) (from n : ℕ) → number_of cells ≡ Some n → HoldAll m address_of cells flat from → IsNumber (length cells) from flat n
unfolding number_at
number_held m address_of [] flat from n h held = let z : 0 ≡ n = some_same 0 n h in record { is = z; below = omega (arith, z) }
number_held m address_of (unset ∷ cells) flat from n h held = cc
number_held m address_of (part p k ∷ cells) flat from n h held = cc
number_held m address_of (byte b ∷ cells) flat from n h held =
    let r = followed (number_of cells) (λ k. Some (b + 256 * k)) n h in
    let rest = number_held m address_of cells flat (from + 1) r.value r.first held.1 in
    let sum : b + 256 * r.value ≡ n = some_same _ n r.then in
    let is = rest.is in
    let below = rest.below in
    let first = held.0.0 in
    let small = held.0.1 in
    let less : n < 256 ^ suc (length cells) = omega (arith, sum, below, small) in
    record { is = omega (arith, is, first, sum); below = less }

-- ---- pointers

same_is : (p q : Pointer) → same_pointer p q ≡ true → p ≡ q
same_is null null h = refl
same_is null (into c j) h = cc
same_is (into b i) null h = cc
same_is (into b i) (into c j) h =
    let e : b ≡ c = grind (arith, nat_tests, h) in
    let f : i ≡ j = grind (arith, nat_tests, h) in
    ap (λ x. into x i) e ∙ ap (λ x. into c x) f

and_true : (a b : Bool) → a && b ≡ true → (a ≡ true) × (b ≡ true)
and_true true true h = (refl, refl)
and_true true false h = cc
and_true false b h = cc

parts_held : (m : Memory) (address_of : ℕ → ℕ) (p : Pointer) (first : ℕ) (cells : List Cell) (flat : ℕ → ℕ) (from : ℕ) → are_parts p first cells ≡ true → HoldAll m address_of cells flat from → (j : ℕ) → j < length cells → IsPart m address_of p (first + j) (flat (from + j))
parts_held m address_of p first [] flat from h held j lt = absurd (omega (arith, lt))
parts_held m address_of p first (unset ∷ cells) flat from h held j lt = cc
parts_held m address_of p first (byte b ∷ cells) flat from h held j lt = cc
parts_held m address_of p first (part q k ∷ cells) flat from h held zero lt =
    let t = and_true (same_pointer q p && k == first) (are_parts p (first + 1) cells) h in
    let u = and_true (same_pointer q p) (k == first) t.0 in
    let e : q ≡ p = same_is q p u.0 in
    let f : k ≡ first + 0 = grind (arith, nat_tests, u.1) in
    let here : from ≡ from + 0 = omega arith in
    subst (λ (r : Pointer). IsPart m address_of r (first + 0) (flat (from + 0))) e
    (subst (λ (i : ℕ). IsPart m address_of q i (flat (from + 0))) f (subst (λ (a : ℕ). IsPart m address_of q k (flat a)) here held.0))
parts_held m address_of p first (part q k ∷ cells) flat from h held (suc j) lt =
    let t = and_true (same_pointer q p && k == first) (are_parts p (first + 1) cells) h in
    let i : first + 1 + j ≡ first + suc j = omega arith in
    let a : from + 1 + j ≡ from + suc j = omega arith in
    subst (λ (x : ℕ). IsPart m address_of p x (flat (from + suc j))) i (subst (λ (x : ℕ). IsPart m address_of p (first + 1 + j) (flat x)) a (parts_held m address_of p (first + 1) cells flat (from + 1) t.1 held.1 j (omega (arith, lt))))

pub whole_word : (flat : ℕ → ℕ) (from word : ℕ) → word < 2 ^ 32 → ((j : ℕ) → j < 4 → flat (from + j) ≡ word / 256 ^ j % 256) → number_at 4 flat from ≡ word
unfolding number_at
whole_word flat from word small h =
    let z : flat (from + 0) ≡ flat from = ap flat (omega arith) in
    let b1 : flat (from + 1 + 1) ≡ flat (from + 2) = ap flat (omega arith) in
    let b2 : flat (from + 1 + 1 + 1) ≡ flat (from + 3) = ap flat (omega arith) in
    let c0 : flat (from + 0) ≡ word / 1 % 256 = h 0 (omega arith) in
    let c1 : flat (from + 1) ≡ word / 256 % 256 = h 1 (omega arith) in
    let c2 : flat (from + 2) ≡ word / 65536 % 256 = h 2 (omega arith) in
    let c3 : flat (from + 3) ≡ word / 16777216 % 256 = h 3 (omega arith) in
    omega (arith, z, b1, b2, c0, c1, c2, c3, small)

-- the addresses of live blocks are words
abbrev pub HaveWords : Memory → (address_of : ℕ → ℕ) → Type 0
HaveWords m address_of = (b o : ℕ) → IsLive m b → o ≤ (block_at m b).size → address_of b + o < 2 ^ 32

word_held : (m : Memory) (address_of : ℕ → ℕ) (p : Pointer) (flat : ℕ → ℕ) (from : ℕ) → HaveWords m address_of → ((j : ℕ) → j < 4 → IsPart m address_of p j (flat (from + j))) → StandsForPointer m address_of p (number_at 4 flat from)
word_held m address_of null flat from small h = whole_word flat from 0 (omega arith) (λ j lt. let c = h j lt in c.is ∙ ap (λ (w : ℕ). w / 256 ^ j % 256) c.stands)
word_held m address_of (into b o) flat from small h = record {
  made = let c = h 0 (omega arith) in c.stands.made;
  is = λ live. whole_word flat from (address_of b + o) (small b o live (let c = h 0 (omega arith) in c.stands.inside live)) (λ j lt. let c = h j lt in c.is ∙ ap (λ (w : ℕ). w / 256 ^ j % 256) (c.stands.is live));
  inside = λ live. let c = h 0 (omega arith) in c.stands.inside live;
}

pub pointer_held : (m : Memory) (address_of : ℕ → ℕ) (cells : List Cell) (flat : ℕ → ℕ) (from : ℕ) (p : Pointer) → HaveWords m address_of → length cells ≡ 4 → pointer_of cells ≡ Some p → HoldAll m address_of cells flat from → StandsForPointer m address_of p (number_at 4 flat from)
pointer_held m address_of [] flat from p small len h held = cc
pointer_held m address_of (unset ∷ cells) flat from p small len h held = cc
pointer_held m address_of (byte b ∷ cells) flat from p small len h held = cc
pointer_held m address_of (part q k ∷ cells) flat from p small len h held =
    let t = only_if_value (are_parts q 0 (part q k ∷ cells)) q p h in
    word_held m address_of p flat from small (λ j lt.
    let z : 0 + j ≡ j = omega arith in
    subst (λ (r : Pointer). IsPart m address_of r j (flat (from + j))) t.1
    (subst (λ (i : ℕ). IsPart m address_of q i (flat (from + j))) z (parts_held m address_of q 0 (part q k ∷ cells) flat from t.0 held j (omega (arith, lt, len)))))

-- ---- loads

number_value : (m : Memory) (address_of : ℕ → ℕ) (size : ℕ) (cells : ℕ → Cell) (offset : ℕ) (flat : ℕ → ℕ) (from : ℕ) (v : Value) → 256 ^ size ≤ 2 ^ 32 → (number_of (cells_from cells offset size) >>= λ n. Some (integer n)) ≡ Some v → HoldAll m address_of (cells_from cells offset size) flat from → StandsFor m address_of v (number_at size flat from)
number_value m address_of size cells offset flat from v le h held =
    let r = followed (number_of (cells_from cells offset size)) (λ n. Some (integer n)) v h in
    let n = number_held m address_of (cells_from cells offset size) flat from r.value r.first held in
    let len : length (cells_from cells offset size) ≡ size = length-cells_from cells offset size in
    let below : r.value < 256 ^ size = subst (λ (k : ℕ). r.value < 256 ^ k) len n.below in
    subst (λ (u : Value). StandsFor m address_of u (number_at size flat from)) (some_same (integer r.value) v r.then) (ap (λ (k : ℕ). number_at k flat from) (sym len) ∙ n.is, omega (arith, below, le))

value_held : (s : Scalar) (m : Memory) (address_of : ℕ → ℕ) (cells : ℕ → Cell) (offset : ℕ) (flat : ℕ → ℕ) (from : ℕ) (v : Value) → HaveWords m address_of → value_of s (cells_from cells offset (width s)) ≡ Some v → HoldAll m address_of (cells_from cells offset (width s)) flat from → StandsFor m address_of v (number_at (width s) flat from)
value_held scalars.Char m address_of cells offset flat from v small h held = number_value m address_of 1 cells offset flat from v (omega arith) h held
value_held scalars.Int m address_of cells offset flat from v small h held = number_value m address_of 4 cells offset flat from v (omega arith) h held
value_held scalars.Unsigned m address_of cells offset flat from v small h held = number_value m address_of 4 cells offset flat from v (omega arith) h held
value_held scalars.Pointer m address_of cells offset flat from v small h held =
    let r = followed (pointer_of (cells_from cells offset 4)) (λ p. Some (address p)) v h in
    subst (λ (u : Value). StandsFor m address_of u (number_at 4 flat from)) (some_same (address r.value) v r.then) (pointer_held m address_of (cells_from cells offset 4) flat from r.value small refl r.first held)

-- what a load gives is the number of the bytes at its address
pub record IsLoaded (m : Memory) (address_of : ℕ → ℕ) (flat : ℕ → ℕ) (s : Scalar) (p : Pointer) (v : Value) : Type 0 where
  pub at : Target
  pub range : IsRange m p (width s) (width s) at
  pub gives : StandsFor m address_of v (number_at (width s) flat (address_of at.block + at.offset))

pub load_held : (s : Scalar) (m : Memory) (address_of : ℕ → ℕ) (owner : ℕ → Owner) (flat : ℕ → ℕ) (p : Pointer) (v : Value) → Lies m address_of owner flat → HaveWords m address_of → load s m p ≡ Some v → IsLoaded m address_of flat s p v
load_held s m address_of owner flat p v l small h =
    let a = followed (range m p (width s) (width s)) (λ t. value_of s (cells_at m t (width s))) v h in
    let is = range_is m p (width s) (width s) a.value a.first in
    record {
      at = a.value;
      range = is;
      gives = value_held s m address_of (block_at m a.value.block).cells a.value.offset flat _ v small a.then (cells_held m address_of owner flat a.value.block (width s) a.value.offset l is.live is.fits);
    }

-- ---- stores

-- a function with another value at a place
pub value_here : (f : ℕ → ℕ) (place v n : ℕ) → n ≡ place → with_value f place v n ≡ v
value_here f place v n e = let t : (n == place) ≡ true = grind (arith, nat_tests, e) in rw t refl

pub value_there : (f : ℕ → ℕ) (place v n : ℕ) → (n ≡ place → ⊥) → with_value f place v n ≡ f n
value_there f place v n h = let t : (n == place) ≡ false = grind (arith, nat_tests, h) in rw t refl

-- the bytes of a word that is stored
pub stored_byte : (flat : ℕ → ℕ) (at v j : ℕ) → j < 4 → store_4 flat at v (at + j) ≡ v / 256 ^ j % 256
stored_byte flat at v zero h =
    let t3 : (at + 0 == at + 2 + 1) ≡ false = grind (arith, nat_tests) in
    let t2 : (at + 0 == at + 2) ≡ false = grind (arith, nat_tests) in
    let t1 : (at + 0 == at + 1) ≡ false = grind (arith, nat_tests) in
    let t0 : (at + 0 == at) ≡ true = grind (arith, nat_tests) in
    rw (t3, t2, t1, t0) (omega arith)
stored_byte flat at v (suc zero) h =
    let t3 : (at + 1 == at + 2 + 1) ≡ false = grind (arith, nat_tests) in
    let t2 : (at + 1 == at + 2) ≡ false = grind (arith, nat_tests) in
    let t1 : (at + 1 == at + 1) ≡ true = grind (arith, nat_tests) in
    rw (t3, t2, t1) (omega arith)
stored_byte flat at v (suc (suc zero)) h =
    let t3 : (at + 2 == at + 2 + 1) ≡ false = grind (arith, nat_tests) in
    let t2 : (at + 2 == at + 2) ≡ true = grind (arith, nat_tests) in
    rw (t3, t2) (omega arith)
stored_byte flat at v (suc (suc (suc zero))) h =
    let t3 : (at + 3 == at + 2 + 1) ≡ true = grind (arith, nat_tests) in
    rw t3 (omega arith)
stored_byte flat at v (suc (suc (suc (suc j)))) h = absurd (omega (arith, h))

-- bytes outside a store
pub stored_other : (kind : StoreKind) (flat : ℕ → ℕ) (at v x : ℕ) → (x < at) ⊎ (at + store_width kind ≤ x) → stored kind flat at v x ≡ flat x
stored_other Sb flat at v x h =
    let t0 : (x == at) ≡ false = grind (arith, nat_tests, h) in
    rw t0 refl
stored_other Sh flat at v x h =
    let t1 : (x == at + 1) ≡ false = grind (arith, nat_tests, h) in
    let t0 : (x == at) ≡ false = grind (arith, nat_tests, h) in
    rw (t1, t0) refl
stored_other Sw flat at v x h =
    let t3 : (x == at + 2 + 1) ≡ false = grind (arith, nat_tests, h) in
    let t2 : (x == at + 2) ≡ false = grind (arith, nat_tests, h) in
    let t1 : (x == at + 1) ≡ false = grind (arith, nat_tests, h) in
    let t0 : (x == at) ≡ false = grind (arith, nat_tests, h) in
    rw (t3, t2, t1, t0) refl

four_held : (m : Memory) (address_of : ℕ → ℕ) (c0 c1 c2 c3 : Cell) (flat : ℕ → ℕ) (from : ℕ) → Holds m address_of c0 (flat (from + 0)) → Holds m address_of c1 (flat (from + 1)) → Holds m address_of c2 (flat (from + 2)) → Holds m address_of c3 (flat (from + 3)) → HoldAll m address_of (c0 ∷ c1 ∷ c2 ∷ c3 ∷ []) flat from
four_held m address_of c0 c1 c2 c3 flat from h0 h1 h2 h3 =
    let z : from + 0 ≡ from = omega arith in
    let t : from + 2 ≡ from + 1 + 1 = omega arith in
    let r : from + 3 ≡ from + 1 + 1 + 1 = omega arith in
    (subst (λ (a : ℕ). Holds m address_of c0 (flat a)) z h0, (h1, (subst (λ (a : ℕ). Holds m address_of c2 (flat a)) t h2, (subst (λ (a : ℕ). Holds m address_of c3 (flat a)) r h3, tt))))

number_stored : (m : Memory) (address_of : ℕ → ℕ) (flat : ℕ → ℕ) (at word n : ℕ) → word ≡ n → HoldAll m address_of (bytes_of 4 n) (store_4 flat at word) at
number_stored m address_of flat at word n e =
    let b0 = stored_byte flat at word 0 (omega arith) in let b1 = stored_byte flat at word 1 (omega arith) in
    let b2 = stored_byte flat at word 2 (omega arith) in let b3 = stored_byte flat at word 3 (omega arith) in
    four_held m address_of (byte (n % 256)) (byte (n / 256 % 256)) (byte (n / 256 / 256 % 256)) (byte (n / 256 / 256 / 256 % 256)) (store_4 flat at word) at
    (b0 ∙ omega (arith, e), omega arith) (b1 ∙ omega (arith, e), omega arith) (b2 ∙ omega (arith, e), omega arith) (b3 ∙ omega (arith, e), omega arith)

pointer_stored : (m : Memory) (address_of : ℕ → ℕ) (flat : ℕ → ℕ) (at word : ℕ) (p : Pointer) → StandsForPointer m address_of p word → HoldAll m address_of (parts_of p 0 4) (store_4 flat at word) at
pointer_stored m address_of flat at word p h =
    four_held m address_of (part p 0) (part p 1) (part p 2) (part p 3) (store_4 flat at word) at
    (record { word = word; stands = h; is = stored_byte flat at word 0 (omega arith) }) (record { word = word; stands = h; is = stored_byte flat at word 1 (omega arith) })
    (record { word = word; stands = h; is = stored_byte flat at word 2 (omega arith) }) (record { word = word; stands = h; is = stored_byte flat at word 3 (omega arith) })

char_stored : (m : Memory) (address_of : ℕ → ℕ) (flat : ℕ → ℕ) (at word n : ℕ) → word ≡ n → HoldAll m address_of (bytes_of 1 n) (store_1 flat at word) at
char_stored m address_of flat at word n e = let b = value_here flat at (word % 2 ^ 8) at refl in ((b ∙ omega (arith, e), omega arith), tt)

-- a store of a value leaves the bytes of its cells
pub store_holds : (s : Scalar) (m : Memory) (address_of : ℕ → ℕ) (v : Value) (cells : List Cell) (flat : ℕ → ℕ) (at word : ℕ) → cells_of s v ≡ Some cells → StandsFor m address_of v word → HoldAll m address_of cells (stored (store_kind s) flat at word) at
store_holds scalars.Char m address_of (integer n) cells flat at word e h =
    let c = only_if_value (has_type scalars.Char (integer n)) (bytes_of 1 n) cells e in
    subst (λ (l : List Cell). HoldAll m address_of l (store_1 flat at word) at) c.1 (char_stored m address_of flat at word n h.0)
store_holds scalars.Int m address_of (integer n) cells flat at word e h =
    let c = only_if_value (has_type scalars.Int (integer n)) (bytes_of 4 n) cells e in
    subst (λ (l : List Cell). HoldAll m address_of l (store_4 flat at word) at) c.1 (number_stored m address_of flat at word n h.0)
store_holds scalars.Unsigned m address_of (integer n) cells flat at word e h =
    let c = only_if_value (has_type scalars.Unsigned (integer n)) (bytes_of 4 n) cells e in
    subst (λ (l : List Cell). HoldAll m address_of l (store_4 flat at word) at) c.1 (number_stored m address_of flat at word n h.0)
store_holds scalars.Pointer m address_of (integer n) cells flat at word e h = cc
store_holds scalars.Char m address_of (address p) cells flat at word e h = cc
store_holds scalars.Int m address_of (address p) cells flat at word e h = cc
store_holds scalars.Unsigned m address_of (address p) cells flat at word e h = cc
store_holds scalars.Pointer m address_of (address p) cells flat at word e h =
    let c = only_if_value (has_type scalars.Pointer (address p)) (parts_of p 0 4) cells e in
    subst (λ (l : List Cell). HoldAll m address_of l (store_4 flat at word) at) c.1 (pointer_stored m address_of flat at word p h)
