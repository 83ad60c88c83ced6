-- A step of the reader over one piece.
use Rattle.std.proofs.Common.{arith, ◌≡◌, ℕ, ◌+◌, ◌-◌, ◌≤◌, List, [], ◌∷◌, length, drop, take, slice_index_or, sym, ap, subst, ◌∙◌}
use Rattle.std.proofs.lemmas.List.{length-take}
use Rattle.std.proofs.Math.Seq.{take-length}
use Rattle.qs_sexpr.specs.Pieces.{first_piece}
use Rattle.qs_sexpr.specs.Trees.{Sexp, symbol, node, sexp_nodes}
use Rattle.qs_sexpr.specs.Scan.{Layer, Rest, act, scan}
use Rattle.qs_sexpr.specs.Readers.{Holds, Goes}
use Rattle.qs_sexpr.specs.declared.node.Item.TheVariants as items
use Rattle.qs_sexpr.specs.declared.pieces.Piece.{Piece}
use Rattle.qs_sexpr.specs.declared.reader.Reader.{Reader}
use Rattle.qs_sexpr.proofs.ScanLaws.{IsIn, piece_in, acts, goes}

abbrev pub first_of : List ℕ → ℕ
first_of rest = slice_index_or rest 0 0

abbrev pub others_of : List ℕ → List ℕ
others_of rest = take (length rest - 1) (drop 1 rest)

pub split : (rest : List ℕ) → 1 ≤ length rest → rest ≡ first_of rest ∷ others_of rest
split [] h = absurd (omega (arith, h))
split (b ∷ bs) h = ap (λ (xs : List ℕ). b ∷ xs) (sym (take-length bs) ∙ ap (λ (n : ℕ). take n bs) (omega arith))

length-others : (rest : List ℕ) → 1 ≤ length rest → length (others_of rest) + 1 ≡ length rest
length-others rest h = let e = ap (λ (xs : List ℕ). length xs) (split rest h) in omega (arith, e)

-- what the piece is keeps within the rest
pub moves : (rest : List ℕ) (p q : Piece) → 1 ≤ length rest → p ≡ first_piece (first_of rest) (others_of rest) → p ≡ q → IsIn (length (others_of rest)) q
moves rest p q h e f = let P : Piece → Type 0 = λ x. IsIn (length (others_of rest)) x in subst P (sym e ∙ f) (piece_in (first_of rest) (others_of rest))

pub fits : (rest : List ℕ) → 1 ≤ length rest → length (others_of rest) + 1 ≡ length rest
fits rest h = length-others rest h

pub step_goes : (outer outer_now : List Layer) (done done_now : List Sexp) (at more : ℕ) (rest : List ℕ) (p q : Piece) (before now : Reader) → 1 ≤ length rest → p ≡ first_piece (first_of rest) (others_of rest) → p ≡ q → more ≤ length (others_of rest) → ((go : Rest) → act q outer done at (first_of rest) (others_of rest) go ≡ go outer_now done_now more) → Holds now outer_now done_now → length now.nodes.items ≤ length before.nodes.items + 1 → Goes outer done at (more + 1) rest before now
step_goes outer outer_now done done_now at more rest p q before now h e f m a holds few =
    let s = split rest h in
    let l = length-others rest h in
    record {
      outer_now = outer_now;
      done_now = done_now;
      holds = holds;
      same = acts outer done at rest (first_of rest) (others_of rest) q s (sym f ∙ e) ∙ (a (λ o d k. scan o d (at + 1) k (others_of rest)) ∙ goes outer_now done_now at more rest (first_of rest) (others_of rest) s m);
      moves = omega arith;
      within = omega (arith, l, m);
      few = few;
    }

pub symbol_node : (at byte more : ℕ) (bytes : List ℕ) → more ≤ length bytes → sexp_nodes (symbol at (byte ∷ take more bytes)) ≡ node at (items.Symbol (more + 1)) ∷ []
symbol_node at byte more bytes h =
    let l = length-take more bytes in
    ap (λ (n : ℕ). node at (items.Symbol n) ∷ []) (omega (arith, l, h))
