-- What constant expressions say of types by their names, where code knows the structs and the names of types.
use Rattle.std.specs.Prelude.{ℕ, Bool, Option, Some, is_some}
use Rattle.qs_syntax.specs.declared.types.Base.{Base}
use Rattle.qs_syntax.specs.declared.types.TypeName.{TypeName}
use Rattle.qs_types.specs.declared.env.Env.{Env}
use Rattle.qs_types.specs.Constants as constants
use Rattle.qs_types.specs.Contexts.{Context, TypeNames, context_with, base_in, starred}
use Rattle.qs_types.specs.EnvOf.{env_tree}
use Rattle.qs_types.specs.Types.{TypeTree}
use Rattle.qs_types.specs.Layout.{and_then, size_within}

abbrev pub known_in : Env → TypeNames → Context
known_in env names = context_with (env_tree env) names

-- whether a declaration begins with a type
abbrev pub is_known_base : TypeNames → Base → Bool
is_known_base names base = is_some (base_in names base)

-- the type of a name (6.7.7)
abbrev pub type_named : TypeNames → TypeName → Option TypeTree
type_named names name = starred (base_in names name.base) name.stars

-- a value converted to the named type
abbrev pub converted_known : TypeNames → TypeName → ℕ → Option ℕ
converted_known names name n = and_then (type_named names name) (λ t. Some (constants.converted t n))

abbrev pub base_size : Env → TypeNames → Base → Option ℕ
base_size env names base = and_then (base_in names base) (size_within (env_tree env))

abbrev pub named_size : Env → TypeNames → TypeName → Option ℕ
named_size env names name = and_then (type_named names name) (size_within (env_tree env))
