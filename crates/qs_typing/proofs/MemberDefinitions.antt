-- Members that are added, and structs that have none and may be defined.
use Rattle.std.proofs.Common.{◌≡◌, ℕ, Bool, true, false, List, [], ◌∷◌, ◌++◌, Option, Some, None, is_some, map, option_map, Bor, refl, sym, ap, ◌∙◌, if◌then◌else◌}
use Rattle.std.specs.Prelude.{option_copied}
use Rattle.std.specs.List.{slice_get}
use Rattle.std.specs.Map.{lookup, values_of}
use Rattle.std.proofs.lemmas.Cmp.{nat_list_eq_equiv}
use Rattle.indexmap.specs.IndexMap.{insert_entry}
use Rattle.qs_base.specs.Bytes.{same_bytes}
use Rattle.qs_types.specs.Types.{MemberTree}
use Rattle.qs_types.specs.Contexts.{Context}
use Rattle.qs_types.specs.Expressions.{member_in}
use Rattle.qs_types.specs.Layout.{layout_of, member_types, sized_layout, with_members}
use Rattle.qs_types.specs.StructsOf.{member_tree}
use Rattle.qs_types.specs.TypeOf.{type_tree}
use Rattle.qs_types.specs.UnitRules.{define_at, has_no_members, is_member}
use Rattle.qs_types.specs.declared.types.CType.{CType}
use Rattle.qs_typing_findings.specs.ContextOf.{with_structs}
use Rattle.qs_typing_findings.proofs.MemberLookups.{seen, entry_member}

pub without_members : (o : Option (Option (List MemberTree))) → has_no_members o ≡ true → o ≡ Some None
without_members None h = absurd (cc)
without_members (Some None) h = refl
without_members (Some (Some ms)) h = absurd (cc)

-- ---- members by their names

mapped : {A B : Type 0} (g : A → B) (o : Option A) → is_some (option_map g o) ≡ is_some o
mapped g None = refl
mapped g (Some a) = refl

pub member_seen : (x : List ℕ) (r : Option (Bor CType)) (es : List (List ℕ × CType)) → option_copied r ≡ lookup (same_bytes x) es → is_some r ≡ is_member x (map member_tree es)
member_seen x r es e =
    sym (mapped (λ t. type_tree t.now) r) ∙ ap is_some (seen r ∙ ap (option_map type_tree) e ∙ entry_member x es)

-- a member whose name is new stands behind the others
pub appended : (x : List ℕ) (t : CType) (es : List (List ℕ × CType)) → is_member x (map member_tree es) ≡ false
    → map member_tree (insert_entry same_bytes es x t) ≡ map member_tree es ++ record { name = x; type = type_tree t } ∷ []
appended x t [] h = refl
appended x t (e ∷ es) h = by (same_bytes e.0 x) (same_bytes x e.0) (nat_list_eq_equiv.symm x e.0) refl h (appended x t es)
  where
    by : (a b : Bool) → b ≡ same_bytes e.0 x → same_bytes e.0 x ≡ a → is_some (if a then Some (type_tree e.1) else member_in x (map member_tree es)) ≡ false
        → (is_member x (map member_tree es) ≡ false → map member_tree (insert_entry same_bytes es x t) ≡ map member_tree es ++ record { name = x; type = type_tree t } ∷ [])
        → map member_tree (if b then (e.0, t) ∷ es else e ∷ insert_entry same_bytes es x t) ≡ member_tree e ∷ (map member_tree es ++ record { name = x; type = type_tree t } ∷ [])
    by true b p q h rest = absurd (cc)
    by false true p q h rest = absurd (let r : true ≡ false = p ∙ q in cc)
    by false false p q h rest = ap (λ l. member_tree e ∷ l) (rest h)

-- ---- the struct that is defined

pub types_of : (es : List (List ℕ × CType)) → map type_tree (values_of es) ≡ member_types (map member_tree es)
types_of [] = refl
types_of (e ∷ es) = ap (λ ts. type_tree e.1 ∷ ts) (types_of es)

pub defined_by : (c d : Context) (k : ℕ) (es : List (List ℕ × CType)) (done : Bool) → has_no_members (slice_get c.structs k) ≡ true
    → done ≡ is_some (sized_layout (layout_of c.structs) (map type_tree (values_of es))) → d ≡ with_structs c (with_members done c.structs k (map member_tree es))
    → d ≡ define_at c (map member_tree es) (Some k)
defined_by c d k es done h e g =
    g ∙ ap (λ b. with_structs c (with_members b c.structs k (map member_tree es))) (e ∙ ap (λ ts. is_some (sized_layout (layout_of c.structs) ts)) (types_of es))
    ∙ ap (λ b. if b then with_structs c (with_members (is_some (sized_layout (layout_of c.structs) (member_types (map member_tree es)))) c.structs k (map member_tree es)) else c) (sym h)
