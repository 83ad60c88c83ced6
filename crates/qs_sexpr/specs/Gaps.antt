-- What stands before a part of a list, as bytes.
use Rattle.std.specs.Prelude.{ℕ, List, [], ◌∷◌}
use Rattle.qs_base.specs.Characters.{space}
use Rattle.qs_sexpr.specs.Layout.{next_line}
use Rattle.qs_sexpr.specs.declared.layout.Gap.{Gap}
use Rattle.qs_sexpr.specs.declared.layout.Gap.TheVariants.{Nothing, Blank, NewLine}

abbrev pub gap_view : Gap → List ℕ
gap_view Nothing = []
gap_view Blank = space ∷ []
gap_view (NewLine column) = next_line column
