-- Pieces by whole runs of bytes and of null pointers.
use Rattle.std.proofs.Common.{◌≡◌, ℕ, zero, suc, ◌+◌, ◌<◌, ◌==◌, true, length, List, [], ◌∷◌, ◌++◌, map, refl, sym, ap, ◌∙◌, arith, append_assoc}
use Rattle.std.proofs.lemmas.Bool.Decides.{nat_tests}
use Rattle.std.proofs.lemmas.List.{append-nil}
use Rattle.qs_memory.specs.Values.{null}
use Rattle.qs_memory.specs.Memory.{Cell, byte, parts_of, times, zeros, nulls, repeated, nothing, joined}
use Rattle.qs_core.specs.Trees.{PieceTree, blank, bytes, pointer}
use Rattle.qs_typed_trees.specs.declared.data.Datum.{Datum}
use Rattle.qs_typed_trees.specs.declared.data.Datum.TheVariants as data_parts
use Rattle.qs_typed_trees.specs.TreeOf.{datum_cells, contents_cells}
use Rattle.qs_elaborate_bodies.specs.Data.{with_byte, with_null, pieces_behind}
use Rattle.qs_elaborate.specs.Pieces.{with_bytes, with_nulls, with_datum, with_contents, bytes_piece, nulls_piece, with_run, is_one_run}

-- ---- a run in front of another kind

byte_before_null : (b : ℕ) (ps : List PieceTree) → with_byte b (with_null ps) ≡ bytes (b ∷ []) ∷ with_null ps
byte_before_null b [] = refl
byte_before_null b (blank (nulls n) ∷ ps) = refl
byte_before_null b (blank (zeros n) ∷ ps) = refl
byte_before_null b (blank (repeated n c) ∷ ps) = refl
byte_before_null b (blank nothing ∷ ps) = refl
byte_before_null b (blank (joined c d) ∷ ps) = refl
byte_before_null b (bytes bs ∷ ps) = refl
byte_before_null b (pointer block offset ∷ ps) = refl

null_before_byte : (b : ℕ) (ps : List PieceTree) → with_null (with_byte b ps) ≡ blank (nulls 1) ∷ with_byte b ps
null_before_byte b [] = refl
null_before_byte b (blank c ∷ ps) = refl
null_before_byte b (bytes bs ∷ ps) = refl
null_before_byte b (pointer block offset ∷ ps) = refl

bytes_run : (bs : List ℕ) (ps : List PieceTree) → ((b : ℕ) → with_byte b ps ≡ bytes (b ∷ []) ∷ ps) → with_bytes bs ps ≡ bytes_piece bs ++ ps
bytes_run [] ps h = refl
bytes_run (b ∷ []) ps h = h b
bytes_run (b ∷ c ∷ bs) ps h = ap (with_byte b) (bytes_run (c ∷ bs) ps h)

nulls_run : (n : ℕ) (ps : List PieceTree) → with_null ps ≡ blank (nulls 1) ∷ ps → with_nulls n ps ≡ nulls_piece n ++ ps
nulls_run zero ps h = refl
nulls_run (suc zero) ps h = h
nulls_run (suc (suc n)) ps h =
    let e : suc n + 1 ≡ suc (suc n) = omega arith in
    ap with_null (nulls_run (suc n) ps h) ∙ ap (λ k. blank (nulls k) ∷ ps) e

bytes_append : (xs bs : List ℕ) (ps : List PieceTree) → with_bytes (xs ++ bs) ps ≡ with_bytes xs (with_bytes bs ps)
bytes_append [] bs ps = refl
bytes_append (x ∷ xs) bs ps = ap (with_byte x) (bytes_append xs bs ps)

nulls_add : (m n : ℕ) (ps : List PieceTree) → with_nulls (m + n) ps ≡ with_nulls m (with_nulls n ps)
nulls_add zero n ps = let e : zero + n ≡ n = omega arith in ap (λ k. with_nulls k ps) e
nulls_add (suc m) n ps = let e : suc m + n ≡ suc (m + n) = omega arith in ap (λ k. with_nulls k ps) e ∙ ap with_null (nulls_add m n ps)

is_zero : (n : ℕ) → (n == 0) ≡ true → n ≡ 0
is_zero n h = grind (arith, nat_tests)

-- ---- one more datum

pub bytes_more : (done : List PieceTree) (bs : List ℕ) (n : ℕ) (more : List ℕ) (ps : List PieceTree)
    → is_one_run bs n ≡ true → 0 < length more
    → (done ++ nulls_piece n) ++ with_run (bs ++ more) 0 ps ≡ done ++ with_run bs n (with_bytes more ps)
bytes_more done bs n [] ps h e = absurd (omega arith)
bytes_more done [] n (b ∷ more) ps h e =
    append_assoc done (nulls_piece n) (with_bytes (b ∷ more) ps)
    ∙ ap (λ l. done ++ l) (sym (nulls_run n (with_bytes (b ∷ more) ps) (null_before_byte b (with_bytes more ps))))
bytes_more done (c ∷ bs) n (b ∷ more) ps h e =
    let z : n ≡ 0 = is_zero n h in
    ap (λ k. (done ++ nulls_piece k) ++ with_bytes (c ∷ bs ++ b ∷ more) ps) z
    ∙ append_assoc done [] (with_bytes (c ∷ bs ++ b ∷ more) ps)
    ∙ ap (λ l. done ++ l) (bytes_append (c ∷ bs) (b ∷ more) ps)
    ∙ ap (λ k. done ++ with_run (c ∷ bs) k (with_bytes (b ∷ more) ps)) (sym z)

pub nulls_more : (done : List PieceTree) (bs : List ℕ) (n more : ℕ) (ps : List PieceTree)
    → is_one_run bs n ≡ true → 0 < more
    → (done ++ bytes_piece bs) ++ with_run [] (n + more) ps ≡ done ++ with_run bs n (with_nulls more ps)
nulls_more done bs n zero ps h e = absurd (omega arith)
nulls_more done [] n (suc more) ps h e =
    append_assoc done [] (with_nulls (n + suc more) ps) ∙ ap (λ l. done ++ l) (nulls_add n (suc more) ps)
nulls_more done (c ∷ bs) n (suc more) ps h e =
    let z : n ≡ 0 = is_zero n h in
    let a : n + suc more ≡ suc more = omega arith in
    ap (λ k. (done ++ bytes_piece (c ∷ bs)) ++ with_nulls k ps) a
    ∙ append_assoc done (bytes_piece (c ∷ bs)) (with_nulls (suc more) ps)
    ∙ ap (λ l. done ++ l) (sym (bytes_run (c ∷ bs) (with_nulls (suc more) ps) (λ b. byte_before_null b (with_nulls more ps))))
    ∙ ap (λ k. done ++ with_run (c ∷ bs) k (with_nulls (suc more) ps)) (sym z)

-- the run ends before pieces that it doesn't join
run_ends : (bs : List ℕ) (n : ℕ) (ps : List PieceTree)
    → is_one_run bs n ≡ true → ((b : ℕ) → with_byte b ps ≡ bytes (b ∷ []) ∷ ps) → with_null ps ≡ blank (nulls 1) ∷ ps
    → (bytes_piece bs ++ nulls_piece n) ++ ps ≡ with_run bs n ps
run_ends [] n ps h k l = sym (nulls_run n ps l)
run_ends (c ∷ bs) n ps h k l =
    let z : n ≡ 0 = is_zero n h in
    ap (λ m. (bytes_piece (c ∷ bs) ++ nulls_piece m) ++ ps) z
    ∙ ap (λ l. l ++ ps) (append-nil (bytes_piece (c ∷ bs)))
    ∙ sym (bytes_run (c ∷ bs) ps k)
    ∙ ap (λ m. with_run (c ∷ bs) m ps) (sym z)

pub pointer_more : (done : List PieceTree) (bs : List ℕ) (n block : ℕ) (ps : List PieceTree)
    → is_one_run bs n ≡ true
    → (((done ++ bytes_piece bs) ++ nulls_piece n) ++ pointer block 0 ∷ []) ++ with_run [] 0 ps ≡ done ++ with_run bs n (pointer block 0 ∷ ps)
pointer_more done bs n block ps h =
    append_assoc ((done ++ bytes_piece bs) ++ nulls_piece n) (pointer block 0 ∷ []) ps
    ∙ ap (λ l. l ++ pointer block 0 ∷ ps) (append_assoc done (bytes_piece bs) (nulls_piece n))
    ∙ append_assoc done (bytes_piece bs ++ nulls_piece n) (pointer block 0 ∷ ps)
    ∙ ap (λ l. done ++ l) (run_ends bs n (pointer block 0 ∷ ps) h (λ b. refl) refl)

pub none_more : (done : List PieceTree) (bs : List ℕ) (n : ℕ)
    → is_one_run bs n ≡ true → (done ++ bytes_piece bs) ++ nulls_piece n ≡ done ++ with_run bs n []
none_more done bs n h =
    append_assoc done (bytes_piece bs) (nulls_piece n)
    ∙ ap (λ l. done ++ l) (sym (append-nil (bytes_piece bs ++ nulls_piece n)) ∙ run_ends bs n [] h (λ b. refl) refl)

-- ---- data by their cells

bytes_behind : (bs : List ℕ) (cells : List Cell) → pieces_behind 0 (map byte bs ++ cells) ≡ with_bytes bs (pieces_behind 0 cells)
bytes_behind [] cells = refl
bytes_behind (b ∷ bs) cells = ap (with_byte b) (bytes_behind bs cells)

nulls_behind : (n : ℕ) (cells : List Cell) → pieces_behind 0 (times n (parts_of null 0 4) ++ cells) ≡ with_nulls n (pieces_behind 0 cells)
nulls_behind zero cells = refl
nulls_behind (suc n) cells = ap with_null (nulls_behind n cells)

datum_behind : (d : Datum) (cells : List Cell) → pieces_behind 0 (datum_cells d ++ cells) ≡ with_datum d (pieces_behind 0 cells)
datum_behind (data_parts.Bytes bs) cells = bytes_behind bs.items cells
datum_behind (data_parts.Nulls n) cells = nulls_behind n cells
datum_behind (data_parts.Pointer block) cells = refl

pub contents_behind : (ds : List Datum) → pieces_behind 0 (contents_cells ds) ≡ with_contents ds []
contents_behind [] = refl
contents_behind (d ∷ ds) = datum_behind d (contents_cells ds) ∙ ap (with_datum d) (contents_behind ds)
