-- Where an assertion stands decides which variables it may mention.
use Rattle.std.specs.Prelude.{Bool, Option}
use Rattle.qs_assert.specs.Trees.{AssertionTree}
use Rattle.qs_assert.specs.declared.variable.Var.{Var}
use Rattle.qs_assert.specs.declared.variable.VarKind.{VarKind}
use Rattle.qs_core.specs.Trees.{CoreFunctionTree}
use Rattle.qs_triples.specs.declared.mentions.Standing.{Standing}
use Rattle.qs_triples.specs.declared.mentions.Standing.TheVariants.{Before, Behind, Within}
use Rattle.qs_triples.specs.Mentions.{in_pre, in_post, in_body, may_mention, first_other}

abbrev pub allowed : Standing → CoreFunctionTree → VarKind → Bool
allowed Before f = in_pre f
allowed Behind f = in_post f
allowed Within f = in_body f

-- an assertion of the function that stands there may mention the variable
abbrev pub may_mention_at : Standing → CoreFunctionTree → Var → Bool
may_mention_at standing f x = may_mention f (allowed standing f) x

-- the first variable that it mentions and may not
abbrev pub first_other_at : Standing → CoreFunctionTree → AssertionTree → Option Var
first_other_at standing f a = first_other f (allowed standing f) a
