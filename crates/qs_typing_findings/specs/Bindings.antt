-- Declarations in scope and their places.
use Rattle.std.specs.Prelude.{ℕ, ◌-◌, ◌==◌, Bool, true, ◌&&◌, List, [], ◌∷◌, Option, Some, None, length, reverse, take, if◌then◌else◌}
use Rattle.std.specs.Option.{option_eq}
use Rattle.std.specs.Map.{lookup}
use Rattle.qs_base.specs.Bytes.{same_bytes}
use Rattle.qs_types.specs.Layout.{and_then}
use Rattle.qs_types.specs.Contexts as contexts
use Rattle.qs_typing_findings.specs.EntityOf.{entity_tree}
use Rattle.qs_typing_findings.specs.declared.entity.Binding.{Binding}

abbrev pub binding_tree : Binding → contexts.Binding
binding_tree b = record { name = b.name; entity = entity_tree b.entity }

-- the declarations, the latest first
abbrev pub newest_first : List Binding → List Binding
newest_first bs = reverse bs

-- all but the latest
abbrev pub without_latest : List Binding → List Binding
without_latest bs = take (length bs - 1) bs

-- the place of the latest declaration of a name, counted from the oldest
abbrev pub place_in : List ℕ → List Binding → Option ℕ
place_in x [] = None
place_in x (b ∷ bs) = if same_bytes b.name x then Some (length bs) else place_in x bs

-- the place that is kept for a name
abbrev pub latest_place : List (List ℕ × Option ℕ) → List ℕ → Option ℕ
latest_place entries x = and_then (lookup (same_bytes x) entries) (λ place. place)

-- each declaration hides the latest one of its name before it
abbrev pub hide_right : List Binding → Bool
hide_right [] = true
hide_right (b ∷ bs) = option_eq ◌==◌ b.hidden (place_in b.name bs) && hide_right bs
