-- What the names of a unit stand for, by the numbers of their nodes.
use Rattle.std.specs.Prelude.{ℕ, List, Option, None, flat_map}
use Rattle.qs_syntax.specs.declared.nodes.Node.{Node}
use Rattle.qs_syntax.specs.Trees.{UnitTree}
use Rattle.qs_types.specs.Types.{TypeTree}
use Rattle.qs_types.specs.Placed.{addressed}
use Rattle.qs_types.specs.Sites.{unit_sites}
use Rattle.qs_types.specs.declared.referent.Referent.{Referent}
use Rattle.qs_types.specs.Referents.{referent_of}
use Rattle.qs_typing_findings.specs.UnitNodes.{of_unit}

-- a node that is no expression names nothing
abbrev pub no_referent : Node → Option TypeTree → Option Referent
no_referent node declared = None

-- of each node in the order of the text, which is that of their numbers: of the name of a variable and of a call what it stands for
abbrev pub unit_referents : UnitTree → List (Option Referent)
unit_referents = of_unit no_referent referent_of

-- the locals and parameters whose names are operands of `&`, below `sizeof` too, in the order of the text
abbrev pub unit_addressed : UnitTree → List ℕ
unit_addressed unit = flat_map (λ s. addressed s.context s.expression) (unit_sites unit)
