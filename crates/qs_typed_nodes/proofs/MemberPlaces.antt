-- Members of structs by their places.
use Rattle.std.proofs.Common.{◌≡◌, ℕ, ◌+◌, List, [], ◌∷◌, Option, Some, map, option_map, refl, sym, ap, ◌∙◌, if◌then◌else◌}
use Rattle.std.specs.Prelude.{position}
use Rattle.std.specs.List.{slice_get}
use Rattle.std.proofs.lemmas.Option.{slice_get-map}
use Rattle.qs_memory.specs.Partial.{◌>>=◌}
use Rattle.qs_base.specs.Bytes.{same_bytes}
use Rattle.qs_types.specs.Types.{struct, MemberTree, Structs}
use Rattle.qs_types.specs.InitialiserRules.{member_at}
use Rattle.qs_types.specs.Layout.{and_then, offset_of, struct_of}
use Rattle.qs_types.specs.StructsOf.{member_tree}
use Rattle.qs_types.specs.TypeOf.{type_tree}
use Rattle.qs_types.specs.declared.types.CType.{CType}
use Rattle.qs_typed_nodes.proofs.NamePlaces.{place_from, name_position}
use Rattle.qs_meaning.specs.Expressions.{member_number, member_offset}

abbrev pub entry_names : List (List ℕ × CType) → List (List ℕ)
entry_names es = map (λ e. e.0) es

number_place : (k : ℕ) (x : List ℕ) (es : List (List ℕ × CType)) → member_number k x (map member_tree es) ≡ place_from k x (entry_names es)
number_place k x [] = refl
number_place k x (e ∷ es) = ap (λ r. if same_bytes e.0 x then Some k else r) (number_place (k + 1) x es)

pub number_found : (x : List ℕ) (es : List (List ℕ × CType)) (i : ℕ) → position (same_bytes x) (entry_names es) ≡ Some i
    → member_number 0 x (map member_tree es) ≡ Some i
number_found x es i e = number_place 0 x es ∙ sym (name_position x (entry_names es)) ∙ e

pub offset_found : (structs : Structs) (k : ℕ) (x : List ℕ) (ms : List MemberTree) (i n : ℕ) → struct_of structs k ≡ Some ms → member_number 0 x ms ≡ Some i
    → offset_of structs k i ≡ Some n → member_offset structs (struct k) x ≡ Some n
offset_found structs k x ms i n p q r =
    ap (λ o. o >>= λ ms. member_number 0 x ms >>= offset_of structs k) p ∙ ap (λ o. o >>= offset_of structs k) q ∙ r

pub member_there : (k : Option (List MemberTree)) (es : List (List ℕ × CType)) (i : ℕ) (x : List ℕ) (t : CType) → k ≡ Some (map member_tree es)
    → slice_get es i ≡ Some (x, t) → member_at k i ≡ Some (type_tree t)
member_there k es i x t p q =
    ap (λ o. member_at o i) p ∙ ap (λ o. and_then o (λ (m : MemberTree). Some m.type)) (slice_get-map member_tree es i ∙ ap (option_map member_tree) q)
