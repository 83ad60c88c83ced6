-- Members of structs in code.
use Rattle.std.proofs.Common.{◌≡◌, ℕ, Bool, true, false, List, [], ◌∷◌, Option, Some, None, map, option_map, Bor, cond, refl, sym, ap, ◌∙◌, if◌then◌else◌}
use Rattle.std.specs.Prelude.{option_copied}
use Rattle.std.specs.List.{slice_get}
use Rattle.std.specs.Map.{lookup}
use Rattle.std.proofs.lemmas.Cmp.{nat_list_eq_equiv}
use Rattle.std.proofs.lemmas.Option.{slice_get-map}
use Rattle.qs_base.specs.Bytes.{same_bytes}
use Rattle.qs_types.specs.Types.{MemberTree}
use Rattle.qs_types.specs.Layout.{and_then, struct_of}
use Rattle.qs_types.specs.Expressions.{member_in}
use Rattle.qs_types.specs.StructsOf.{member_tree, struct_tree, structs_tree}
use Rattle.qs_types.specs.TypeOf.{type_tree}
use Rattle.qs_types.specs.declared.structs.StructType.{StructType}
use Rattle.qs_types.specs.declared.types.CType.{CType}

pub seen : (r : Option (Bor CType)) → option_map (λ t. type_tree t.now) r ≡ option_map type_tree (option_copied r)
seen None = refl
seen (Some t) = refl

pub entry_member : (x : List ℕ) (es : List (List ℕ × CType)) → option_map type_tree (lookup (same_bytes x) es) ≡ member_in x (map member_tree es)
entry_member x [] = refl
entry_member x (e ∷ es) =
    by (same_bytes x e.0) (entry_member x es) ∙ ap (λ b. if b then Some (type_tree e.1) else member_in x (map member_tree es)) (nat_list_eq_equiv.symm x e.0)
  where
    by : (b : Bool) → option_map type_tree (lookup (same_bytes x) es) ≡ member_in x (map member_tree es)
        → option_map type_tree (cond b (Some e.1) (lookup (same_bytes x) es)) ≡ (if b then Some (type_tree e.1) else member_in x (map member_tree es))
    by true rest = refl
    by false rest = rest

pub member_there : (items : List StructType) (k : ℕ) (s : StructType) (ms : List MemberTree) (x : List ℕ) → slice_get items k ≡ Some s → struct_tree s ≡ Some ms
    → member_in x ms ≡ and_then (struct_of (structs_tree items) k) (member_in x)
member_there items k s ms x at e =
    sym (ap (λ o. and_then (and_then o (λ t. t)) (member_in x)) (slice_get-map struct_tree items k ∙ ap (option_map struct_tree) at) ∙ ap (λ o. and_then o (member_in x)) e)
