-- Where lists, atoms and faults lie in their text.
use Rattle.std.specs.Prelude.{◌≡◌, ℕ, ◌<◌, List, length, take, drop}
use Rattle.qs_sexpr.specs.Trees.{Sexp, number, symbol, list, Sexps, no_parts, part_and}
use Rattle.qs_sexpr.specs.declared.fault.SexprFault.{SexprFault}
use Rattle.qs_sexpr.specs.declared.fault.SexprFault.TheVariants as faults

-- each begins in the text, and the bytes of each symbol stand at its place
abbrev mutual
  pub LiesIn : List ℕ → Sexp → Type 0
  LiesIn text (number at value) = at < length text
  LiesIn text (symbol at bytes) = (at < length text) × (take (length bytes) (drop at text) ≡ bytes)
  LiesIn text (list at parts) = (at < length text) × LieIn text parts

  pub LieIn : List ℕ → Sexps → Type 0
  LieIn text no_parts = Unit {0}
  LieIn text (part_and part parts) = LiesIn text part × LieIn text parts

-- where a fault stands
abbrev pub place_of : SexprFault → ℕ
place_of faults.NoMemory = 0
place_of (faults.BadByte at) = at
place_of (faults.Unbalanced at) = at
place_of (faults.BadNumber at) = at
place_of (faults.TooDeep at) = at
