-- The pure declarations that entities in code stand for.
use Rattle.std.specs.Prelude.{Option, map, option_map}
use Rattle.std.specs.Borrow.{Bor}
use Rattle.qs_types.specs.TypeOf.{type_tree}
use Rattle.qs_types.specs.GivenFunctions as given_functions
use Rattle.qs_types.specs.Contexts as contexts
use Rattle.qs_typing_findings.specs.declared.entity.Signature.{Signature}
use Rattle.qs_typing_findings.specs.declared.entity.Entity.{Entity}
use Rattle.qs_typing_findings.specs.declared.entity.Entity.TheVariants as entities

abbrev pub signature_tree : Signature → given_functions.Signature
signature_tree s = record { parameters = map type_tree s.parameters.items; result = type_tree s.result }

abbrev pub entity_tree : Entity → contexts.Entity
entity_tree (entities.LocalVariable node t) = contexts.local_variable node (option_map type_tree t)
entity_tree (entities.FileVariable node t) = contexts.file_variable node (option_map type_tree t)
entity_tree (entities.Function node signature has_body) = contexts.function node (option_map signature_tree signature) has_body
entity_tree (entities.Given signature) = contexts.given (signature_tree signature)

-- what a name stands for, where it stands for something
abbrev pub entity_at : Option (Bor Entity) → Option contexts.Entity
entity_at = option_map (λ e. entity_tree e.now)
