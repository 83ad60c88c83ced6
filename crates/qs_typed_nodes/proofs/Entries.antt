-- What stands at the number of a node.
use Rattle.std.proofs.Common.{◌≡◌, ℕ, List, Option, Some, None, map, option_map, Bor, refl, sym, ap, ◌∙◌}
use Rattle.std.specs.Prelude.{option_copied}
use Rattle.std.specs.List.{slice_get}
use Rattle.std.proofs.lemmas.Option.{slice_get-map}
use Rattle.qs_memory.specs.Partial.{◌>>=◌}
use Rattle.qs_types.specs.declared.types.CType.{CType}
use Rattle.qs_types.specs.TypeOf.{type_tree}
use Rattle.qs_typed_nodes.specs.Known.{at_number}

pub seen : (r : Option (Bor CType)) → option_map (λ t. type_tree t.now) r ≡ option_map type_tree (option_copied r)
seen None = refl
seen (Some t) = refl

pub type_there : (types : List (Option CType)) (n : ℕ) (found : Option CType) → slice_get types n ≡ Some found
    → option_map type_tree found ≡ at_number (map (option_map type_tree) types) n
type_there types n found e = sym (ap (λ o. o >>= λ x. x) (slice_get-map (option_map type_tree) types n ∙ ap (option_map (option_map type_tree)) e))

pub no_type_there : (types : List (Option CType)) (n : ℕ) → slice_get types n ≡ None → None ≡ at_number (map (option_map type_tree) types) n
no_type_there types n e = sym (ap (λ o. o >>= λ x. x) (slice_get-map (option_map type_tree) types n ∙ ap (option_map (option_map type_tree)) e))

pub there : {A : Type 0} (xs : List (Option A)) (n : ℕ) (found : Option A) → slice_get xs n ≡ Some found → found ≡ at_number xs n
there xs n found e = sym (ap (λ o. o >>= λ x. x) e)

pub not_there : {A : Type 0} (xs : List (Option A)) (n : ℕ) → slice_get xs n ≡ None → None ≡ at_number xs n
not_there xs n e = sym (ap (λ o. o >>= λ x. x) e)
