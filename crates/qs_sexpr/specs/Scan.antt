-- The reading of a text, computed: its lists and atoms, or its first fault.
use Rattle.std.specs.Prelude.{ℕ, zero, suc, ◌+◌, List, [], ◌∷◌, ◌++◌, length, take, nat_lt, if◌then◌else◌, Result, Ok, Err}
use Rattle.qs_sexpr.specs.Numbers.{is_empty}
use Rattle.qs_sexpr.specs.Pieces.{first_piece}
use Rattle.qs_sexpr.specs.Reading.{depth_limit}
use Rattle.qs_sexpr.specs.Trees.{Sexp, number, symbol, list, Sexps, no_parts, part_and}
use Rattle.qs_sexpr.specs.declared.fault.SexprFault.{SexprFault}
use Rattle.qs_sexpr.specs.declared.fault.SexprFault.TheVariants as faults
use Rattle.qs_sexpr.specs.declared.pieces.Piece.{Piece}
use Rattle.qs_sexpr.specs.declared.pieces.Piece.TheVariants as pieces

abbrev pub parts_of : List Sexp → Sexps
parts_of [] = no_parts
parts_of (s ∷ ss) = part_and s (parts_of ss)

-- a list that is open: the number of its `(`, and the parts before it in the list around it
pub record Layer : Type 0 where
  pub place : ℕ
  pub before : List Sexp

abbrev pub Answer : Type 0
Answer = Result (List Sexp) SexprFault

-- How a scan goes on: the open lists, the innermost first, the parts of the innermost, and how many of the next bytes have been read.
abbrev pub Rest : Type 0
Rest = List Layer → List Sexp → ℕ → Answer

-- what a piece does at the byte `at`, where this byte and these stand
abbrev pub act : Piece → List Layer → List Sexp → ℕ → ℕ → List ℕ → Rest → Answer
act (pieces.White more) outer done at byte bytes go = go outer done more
act pieces.Open outer done at byte bytes go =
    if nat_lt (length outer) depth_limit then go (record { place = at; before = done } ∷ outer) [] 0 else Err (faults.TooDeep at)
act pieces.Close [] done at byte bytes go = Err (faults.Unbalanced at)
act pieces.Close (layer ∷ outer) done at byte bytes go = go outer (layer.before ++ list layer.place (parts_of done) ∷ []) 0
act (pieces.Number more value) outer done at byte bytes go = go outer (done ++ number at value ∷ []) more
act (pieces.Symbol more) outer done at byte bytes go = go outer (done ++ symbol at (byte ∷ take more bytes) ∷ []) more
act (pieces.BadByte more) outer done at byte bytes go = Err (faults.BadByte (at + more))
act pieces.BadNumber outer done at byte bytes go = Err (faults.BadNumber at)

-- the text from the byte `at` on, whose first `skip` bytes have been read
abbrev pub scan : List Layer → List Sexp → ℕ → ℕ → List ℕ → Answer
scan outer done at skip [] = if is_empty outer then Ok done else Err (faults.Unbalanced at)
scan outer done at zero (byte ∷ bytes) = act (first_piece byte bytes) outer done at byte bytes (λ o d more. scan o d (at + 1) more bytes)
scan outer done at (suc skip) (byte ∷ bytes) = scan outer done (at + 1) skip bytes

abbrev pub scanned : List ℕ → Answer
scanned text = scan [] [] 0 0 text
