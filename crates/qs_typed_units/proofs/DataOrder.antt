-- Data in the order of their bytes, one after another.
use Rattle.std.proofs.Common.{◌≡◌, ℕ, zero, suc, ◌+◌, ◌-◌, ◌*◌, ◌/◌, ◌%◌, ◌<◌, List, [], ◌∷◌, ◌++◌, Some, length, map, take, drop, refl, sym, ap, ◌∙◌, append_assoc, arith, take_all, drop-drop}
use Rattle.std.specs.Prelude.{replicate}
use borrow.Rule.Slice.PartMut.{put_mid}
use Rattle.std.proofs.lemmas.List.{append-nil, map-append, take-map, drop-map, length-map}
use Rattle.qs_memory.specs.Values.{Pointer, null}
use Rattle.qs_memory.specs.Memory as cells
use Rattle.qs_memory.specs.Partial.{◌>>=◌}
use Rattle.qs_memory.specs.Memory.{bytes_of, parts_of, times}
use Rattle.qs_memory.specs.BlankOf.{blank_step, blank_tree}
use Rattle.qs_memory.specs.declared.blank.Blank.{Blank-F, fold-roll-Blank}
use Rattle.qs_memory.specs.declared.blank.Blank.TheVariants as blanks
use Rattle.qs_typed_trees.specs.declared.data.Datum.{Datum}
use Rattle.qs_typed_units.specs.declared.cells.Cell.{Cell}
use Rattle.qs_typed_trees.specs.TreeOf.{contents_cells, pointer_width}
use Rattle.qs_syntax.specs.Trees.{ExprTree}
use Rattle.qs_types.specs.Types.{TypeTree}
use Rattle.qs_types.specs.Declarations.{text_of}
use Rattle.qs_meaning.specs.InitialValues.{array_cells, length_in, text_cells, written_over}
use Rattle.qs_typed_units.specs.CellsOf.{cell_tree}

-- ---- lists

-- ---- the same so many times

pub times_sum : (a b : ℕ) (cs : List cells.Cell) → times (a + b) cs ≡ times a cs ++ times b cs
times_sum zero b cs =
    let e : 0 + b ≡ b = omega arith in
    ap (λ n. times n cs) e
times_sum (suc a) b cs =
    let e : suc a + b ≡ suc (a + b) = omega arith in
    ap (λ n. times n cs) e ∙ ap (λ rest. cs ++ rest) (times_sum a b cs) ∙ sym (append_assoc cs (times a cs) (times b cs))

pub times_product : (a b : ℕ) (cs : List cells.Cell) → times a (times b cs) ≡ times (a * b) cs
times_product zero b cs =
    let e : 0 ≡ 0 * b = omega arith in
    ap (λ n. times n cs) e
times_product (suc a) b cs =
    let e : b + a * b ≡ suc a * b = omega arith in
    ap (λ rest. times b cs ++ rest) (times_product a b cs) ∙ sym (times_sum b (a * b) cs) ∙ ap (λ n. times n cs) e

pub times_last : (n : ℕ) (cs : List cells.Cell) → times n cs ++ cs ≡ times (n + 1) cs
times_last n cs = ap (λ rest. times n cs ++ rest) (sym (append-nil cs)) ∙ sym (times_sum n 1 cs)

pub zeros_are : (n : ℕ) → map cells.byte (replicate n 0) ≡ times n (cells.byte 0 ∷ [])
zeros_are zero = refl
zeros_are (suc n) = ap (λ rest. cells.byte 0 ∷ rest) (zeros_are n)

-- ---- parts of a pointer

pub parts_last : (p : Pointer) (first n : ℕ) → parts_of p first n ++ cells.part p (first + n) ∷ [] ≡ parts_of p first (n + 1)
parts_last p first zero =
    let e : first + 0 ≡ first = omega arith in
    ap (λ k. cells.part p k ∷ []) e
parts_last p first (suc n) =
    let e : first + suc n ≡ first + 1 + n = omega arith in
    let f : suc (n + 1) ≡ suc n + 1 = omega arith in
    ap (λ k. cells.part p first ∷ (parts_of p (first + 1) n ++ cells.part p k ∷ [])) e ∙ ap (λ rest. cells.part p first ∷ rest) (parts_last p (first + 1) n) ∙ ap (parts_of p first) f

-- ---- runs that end

pub bytes_ended : (new old : List Datum) (bs : List ℕ) → new ≡ old → bs ≡ [] → contents_cells new ≡ contents_cells old ++ map cells.byte bs
bytes_ended new old bs e f = ap contents_cells e ∙ sym (append-nil (contents_cells old)) ∙ ap (λ bs. contents_cells old ++ map cells.byte bs) (sym f)

pub nulls_ended : (new old : List Datum) (n : ℕ) → new ≡ old → n ≡ 0 → contents_cells new ≡ contents_cells old ++ times n (parts_of null 0 pointer_width)
nulls_ended new old n e f =
    ap contents_cells e ∙ sym (append-nil (contents_cells old)) ∙ ap (λ n. contents_cells old ++ times n (parts_of null 0 pointer_width)) (sym f)

-- ---- one more

pub nulls_more : (whole bytes : List cells.Cell) (a n m : ℕ) (cs : List cells.Cell) → m ≡ a + n → whole ++ (bytes ++ times m cs) ≡ (whole ++ (bytes ++ times a cs)) ++ times n cs
nulls_more whole bytes a n m cs e =
    ap (λ m. whole ++ (bytes ++ times m cs)) e ∙ ap (λ rest. whole ++ (bytes ++ rest)) (times_sum a n cs)
    ∙ ap (λ rest. whole ++ rest) (sym (append_assoc bytes (times a cs) (times n cs))) ∙ sym (append_assoc whole (bytes ++ times a cs) (times n cs))

pub once_more : (new old start cs : List cells.Cell) (n : ℕ) → new ≡ old ++ cs → old ≡ start ++ times n cs → new ≡ start ++ times (n + 1) cs
once_more new old start cs n e f = e ∙ ap (λ x. x ++ cs) f ∙ append_assoc start (times n cs) cs ∙ ap (λ rest. start ++ rest) (times_last n cs)

pub zeros_more : (whole : List cells.Cell) (bs new : List ℕ) (len n nulls : ℕ) (cs : List cells.Cell) → nulls ≡ 0 → length bs ≡ len → new ≡ take (len + n) bs ++ replicate (len + n - len) 0
    → whole ++ (map cells.byte new ++ times nulls cs) ≡ (whole ++ (map cells.byte bs ++ times nulls cs)) ++ times n (cells.byte 0 ∷ [])
zeros_more whole bs new len n nulls cs e l h =
    let f : len + n - len ≡ n = omega arith in
    ap (λ xs. whole ++ (map cells.byte xs ++ times nulls cs)) (h ∙ ap (λ k. take (len + n) bs ++ replicate k 0) f ∙ ap (λ xs. xs ++ replicate n 0) (take_all (len + n) bs (omega arith)))
    ∙ ap (λ xs. whole ++ (xs ++ times nulls cs)) (map-append cells.byte bs (replicate n 0) ∙ ap (λ xs. map cells.byte bs ++ xs) (zeros_are n))
    ∙ ap (λ k. whole ++ ((map cells.byte bs ++ times n (cells.byte 0 ∷ [])) ++ times k cs)) e
    ∙ ap (λ xs. whole ++ xs) (append-nil (map cells.byte bs ++ times n (cells.byte 0 ∷ [])))
    ∙ sym (append_assoc whole (map cells.byte bs) (times n (cells.byte 0 ∷ [])))
    ∙ ap (λ xs. (whole ++ xs) ++ times n (cells.byte 0 ∷ [])) (sym (append-nil (map cells.byte bs)))
    ∙ ap (λ k. (whole ++ (map cells.byte bs ++ times k cs)) ++ times n (cells.byte 0 ∷ [])) (sym e)

pub at_once : (new old part cs : List cells.Cell) (n k m : ℕ) → part ≡ times k cs → m ≡ n * k → new ≡ old ++ times m cs → new ≡ old ++ times n part
at_once new old part cs n k m e f h = h ∙ ap (λ rest. old ++ rest) (ap (λ j. times j cs) f ∙ sym (times_product n k cs) ∙ ap (times n) (sym e))

pub part_more : (contents begun : List cells.Cell) (p : Pointer) (k : ℕ) → begun ≡ parts_of p 0 k → contents ++ parts_of p 0 (k + 1) ≡ (contents ++ begun) ++ cells.part p k ∷ []
part_more contents begun p k e =
    let f : 0 + k ≡ k = omega arith in
    ap (λ xs. contents ++ xs) (sym (parts_last p 0 k) ∙ ap (λ j. parts_of p 0 k ++ cells.part p j ∷ []) f ∙ ap (λ xs. xs ++ cells.part p k ∷ []) (sym e))
    ∙ sym (append_assoc contents begun (cells.part p k ∷ []))

-- ---- cells over others

pub over : (at k : ℕ) (old new : List Cell) → k ≡ length new → map cell_tree (put_mid at k old new) ≡ written_over (map cell_tree old) at (map cell_tree new)
over at k old new e =
    map-append cell_tree (take at old) (new ++ drop k (drop at old))
    ∙ (λ i. sym (take-map cell_tree at old) i
    ++ (map-append cell_tree new (drop k (drop at old))
    ∙ ap (λ xs. map cell_tree new ++ xs)
    ((sym (drop-map cell_tree k (drop at old))) ∙ ap (drop k) (sym (drop-map cell_tree at old)) ∙ drop-drop k at (map cell_tree old)
    ∙ ap (λ n. drop (at + n) (map cell_tree old)) (e ∙ sym (length-map new cell_tree)))) i)

-- ---- blanks in code

pub zeros_tree : (n : ℕ) → blank_tree (blanks.Zeros n) ≡ cells.zeros n
zeros_tree n = ap blank_tree (sym (blanks.rolls-Zeros n)) ∙ fold-roll-Blank cells.BlankTree blank_step (Blank-F.Zeros n)

pub nulls_tree : (n : ℕ) → blank_tree (blanks.Nulls n) ≡ cells.nulls n
nulls_tree n = ap blank_tree (sym (blanks.rolls-Nulls n)) ∙ fold-roll-Blank cells.BlankTree blank_step (Blank-F.Nulls n)

-- ---- the bytes of a number

pub byte_more : (size i n : ℕ) (new old whole : List cells.Cell) → i < size → new ≡ old ++ cells.byte (n % 256) ∷ [] → old ++ bytes_of (size - i) n ≡ whole
    → new ++ bytes_of (size - (i + 1)) (n / 256) ≡ whole
byte_more size i n new old whole l e h =
    let f : size - i ≡ suc (size - (i + 1)) = omega arith in
    ap (λ xs. xs ++ bytes_of (size - (i + 1)) (n / 256)) e ∙ append_assoc old (cells.byte (n % 256) ∷ []) (bytes_of (size - (i + 1)) (n / 256))
    ∙ ap (λ k. old ++ bytes_of k n) (sym f) ∙ h

-- ---- texts

pub text_taken : (t : TypeTree) (e : ExprTree) (bytes : List ℕ) (n : ℕ) (new pushed : List Cell) → text_of e ≡ Some bytes → n ≡ length_in t → new ≡ take n pushed → map cell_tree pushed ≡ text_cells bytes
    → array_cells t e ≡ Some (map cell_tree new)
text_taken t e bytes n new pushed h l p q =
    ap (λ o. o >>= λ bytes. Some (take (length_in t) (text_cells bytes))) h
    ∙ ap Some (ap (λ k. take k (text_cells bytes)) (sym l) ∙ ap (take n) (sym q) ∙ sym (sym (take-map cell_tree n pushed)) ∙ ap (map cell_tree) (sym p))
