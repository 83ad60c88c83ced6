-- The pure scopes that scopes in code stand for.
use Rattle.std.specs.Prelude.{◌≡◌, ℕ, List, ◌∷◌, ◌++◌, map, take, drop}
use Rattle.qs_types.specs.Contexts.{Binding}
use Rattle.qs_typing_findings.specs.Bindings.{binding_tree, newest_first}
use Rattle.qs_typing_findings.specs.EntityOf.{entity_tree}
use Rattle.qs_typing_findings.specs.declared.entity.Entity.{Entity}
use Rattle.qs_typing_findings.specs.declared.scopes.Scopes.{Scopes}

-- the names of the innermost scope, the latest first
abbrev pub inner_bindings : Scopes → List Binding
inner_bindings s = map binding_tree (newest_first (drop s.start s.bindings.items))

-- those of the scopes around it
abbrev pub outer_bindings : Scopes → List Binding
outer_bindings s = map binding_tree (newest_first (take s.start s.bindings.items))

-- the names of all scopes
abbrev pub all_bindings : Scopes → List Binding
all_bindings s = inner_bindings s ++ outer_bindings s

-- a name is declared in the innermost scope
abbrev pub AddsName : List ℕ → Entity → (before after : Scopes) → Type 0
AddsName name entity before after = inner_bindings after ≡ record { name = name; entity = entity_tree entity } ∷ inner_bindings before
