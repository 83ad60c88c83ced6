-- What the names of an expression stand for (C11 6.2.1, 6.2.3).
use Rattle.std.specs.Prelude.{ℕ, List, Option, Some, None, if◌then◌else◌}
use Rattle.qs_base.specs.Bytes.{same_bytes}
use Rattle.qs_syntax.specs.Trees.{ExprTree, expr, ShapeTree}
use Rattle.qs_syntax.specs.Trees as trees
use Rattle.qs_types.specs.GivenFunctions.{putchar_name}
use Rattle.qs_types.specs.Contexts.{Entity, local_variable, file_variable, function, given, Context, entity_of}
use Rattle.qs_types.specs.declared.referent.Referent.{Referent}
use Rattle.qs_types.specs.declared.referent.Referent.TheVariants as referents

-- which of the functions that are given has this name
abbrev pub given_referent : List ℕ → Referent
given_referent x = if same_bytes x putchar_name then referents.PutChar else referents.GetChar

-- of a name, by what is declared under it
abbrev pub referent : List ℕ → Option Entity → Option Referent
referent x None = None
referent x (Some (local_variable node t)) = Some (referents.Local node)
referent x (Some (file_variable node t)) = Some (referents.File node)
referent x (Some (function node signature body)) = Some (referents.Function node)
referent x (Some (given signature)) = Some (given_referent x)

-- of the name of a variable, and of that of a called function
abbrev pub shape_referent : Context → ShapeTree → Option Referent
shape_referent c (trees.name x) = referent x (entity_of c x)
shape_referent c (trees.call f es) = referent f (entity_of c f)
shape_referent c _ = None

abbrev pub referent_of : Context → ExprTree → Option Referent
referent_of c (expr node shape) = shape_referent c shape
