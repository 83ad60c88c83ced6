-- Names of types in code, as they are looked up and added.
use Rattle.std.proofs.Common.{◌≡◌, ℕ, Bool, true, false, List, [], ◌∷◌, ◌++◌, Option, Some, None, length, map, option_map, cond, Bor, refl, sym, ap, ◌∙◌, if◌then◌else◌}
use Rattle.std.specs.Prelude.{option_copied}
use Rattle.std.specs.Map.{lookup}
use Rattle.std.proofs.lemmas.List.{length-map}
use Rattle.std.proofs.lemmas.Cmp.{nat_list_eq_equiv}
use Rattle.indexmap.specs.IndexMap.{insert_entry}
use Rattle.qs_base.specs.Bytes.{same_bytes}
use Rattle.qs_types.specs.Contexts.{place_of, named_in, is_type_in}
use Rattle.qs_types.specs.Layout.{and_then}
use Rattle.qs_types.specs.StructsOf.{struct_tree, structs_tree}
use Rattle.qs_types.specs.TypeNamesOf.{tag_tree, named_tree, type_at}
use Rattle.qs_types.specs.TypeOf.{type_tree}
use Rattle.qs_types.specs.Types.{TypeTree, struct}
use Rattle.qs_types.specs.declared.structs.StructType.{StructType}
use Rattle.qs_types.specs.declared.types.CType.{CType}

pub same_swap : (x y : List ℕ) → same_bytes x y ≡ same_bytes y x
same_swap x y = nat_list_eq_equiv.symm x y

-- ---- structs are no integers

pub no_struct_is : (test : TypeTree → Bool) (o : Option ℕ) → ((k : ℕ) → test (struct k) ≡ false) → is_type_in test (and_then o (λ k. Some (struct k))) ≡ false
no_struct_is test None h = refl
no_struct_is test (Some k) h = h k

-- ---- entries of the maps

pub tag_entry : (tag : List ℕ) (es : List (List ℕ × ℕ)) → lookup (same_bytes tag) es ≡ place_of tag (map tag_tree es)
tag_entry tag [] = refl
tag_entry tag (e ∷ es) = by (same_bytes tag e.0) (tag_entry tag es) ∙ ap (λ b. if b then Some e.1 else place_of tag (map tag_tree es)) (same_swap tag e.0)
  where
    by : (b : Bool) → lookup (same_bytes tag) es ≡ place_of tag (map tag_tree es) → cond b (Some e.1) (lookup (same_bytes tag) es) ≡ (if b then Some e.1 else place_of tag (map tag_tree es))
    by true rest = refl
    by false rest = rest

pub type_entry : (x : List ℕ) (es : List (List ℕ × Option CType)) → option_map (option_map type_tree) (lookup (same_bytes x) es) ≡ named_in x (map named_tree es)
type_entry x [] = refl
type_entry x (e ∷ es) = by (same_bytes x e.0) (type_entry x es) ∙ ap (λ b. if b then Some (option_map type_tree e.1) else named_in x (map named_tree es)) (same_swap x e.0)
  where
    by : (b : Bool) → option_map (option_map type_tree) (lookup (same_bytes x) es) ≡ named_in x (map named_tree es)
        → option_map (option_map type_tree) (cond b (Some e.1) (lookup (same_bytes x) es)) ≡ (if b then Some (option_map type_tree e.1) else named_in x (map named_tree es))
    by true rest = refl
    by false rest = rest

pub tag_found : (tag : List ℕ) (es : List (List ℕ × ℕ)) (r : Option ℕ) → r ≡ lookup (same_bytes tag) es → r ≡ place_of tag (map tag_tree es)
tag_found tag es r e = e ∙ tag_entry tag es

seen : (r : Option (Bor (Option CType))) → type_at r ≡ option_map (option_map type_tree) (option_copied r)
seen None = refl
seen (Some t) = refl

pub type_found : (x : List ℕ) (es : List (List ℕ × Option CType)) (r : Option (Bor (Option CType))) → option_copied r ≡ lookup (same_bytes x) es → type_at r ≡ named_in x (map named_tree es)
type_found x es r e = seen r ∙ ap (option_map (option_map type_tree)) e ∙ type_entry x es

-- ---- what is new stands behind the others

pub tag_added : (tag : List ℕ) (place : ℕ) (es : List (List ℕ × ℕ)) → place_of tag (map tag_tree es) ≡ None
    → map tag_tree (insert_entry same_bytes es tag place) ≡ map tag_tree es ++ record { name = tag; place = place } ∷ []
tag_added tag place [] h = refl
tag_added tag place (e ∷ es) h = by (same_bytes e.0 tag) (same_bytes tag e.0) (same_swap tag e.0) h (tag_added tag place es)
  where
    by : (a b : Bool) → b ≡ a → (if a then Some e.1 else place_of tag (map tag_tree es)) ≡ None
        → (place_of tag (map tag_tree es) ≡ None → map tag_tree (insert_entry same_bytes es tag place) ≡ map tag_tree es ++ record { name = tag; place = place } ∷ [])
        → map tag_tree (if b then (e.0, place) ∷ es else e ∷ insert_entry same_bytes es tag place) ≡ tag_tree e ∷ (map tag_tree es ++ record { name = tag; place = place } ∷ [])
    by true b same h rest = absurd (cc)
    by false true same h rest = absurd (cc)
    by false false same h rest = ap (λ l. tag_tree e ∷ l) (rest h)

pub type_added : (x : List ℕ) (t : Option CType) (es : List (List ℕ × Option CType)) → named_in x (map named_tree es) ≡ None
    → map named_tree (insert_entry same_bytes es x t) ≡ map named_tree es ++ record { name = x; type = option_map type_tree t } ∷ []
type_added x t [] h = refl
type_added x t (e ∷ es) h = by (same_bytes e.0 x) (same_bytes x e.0) (same_swap x e.0) h (type_added x t es)
  where
    by : (a b : Bool) → b ≡ a → (if a then Some (option_map type_tree e.1) else named_in x (map named_tree es)) ≡ None
        → (named_in x (map named_tree es) ≡ None → map named_tree (insert_entry same_bytes es x t) ≡ map named_tree es ++ record { name = x; type = option_map type_tree t } ∷ [])
        → map named_tree (if b then (e.0, t) ∷ es else e ∷ insert_entry same_bytes es x t) ≡ named_tree e ∷ (map named_tree es ++ record { name = x; type = option_map type_tree t } ∷ [])
    by true b same h rest = absurd (cc)
    by false true same h rest = absurd (cc)
    by false false same h rest = ap (λ l. named_tree e ∷ l) (rest h)

-- ---- how many structs there are

pub as_many : (structs : List StructType) → length structs ≡ length (structs_tree structs)
as_many structs = sym (length-map structs struct_tree)
