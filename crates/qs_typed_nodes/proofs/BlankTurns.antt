-- Blanks of structs, one member at a time.
use Rattle.std.proofs.Common.{◌≡◌, ℕ, zero, suc, ◌+◌, ◌-◌, ◌<◌, ◌≤◌, List, [], ◌∷◌, ◌++◌, Option, Some, length, map, drop, sym, ap, ◌∙◌, add-one, arith}
use Rattle.std.specs.List.{slice_get}
use Rattle.std.proofs.lemmas.List.{drop_all}
use Rattle.std.proofs.lemmas.Option.{same_Some}
use Rattle.qs_memory.specs.Partial.{◌>>=◌}
use Rattle.qs_memory.specs.Memory.{BlankTree, zeros, nothing, joined}
use Rattle.qs_memory.specs.BlankOf.{joined_of}
use Rattle.qs_types.specs.declared.types.CType.{CType}
use Rattle.qs_types.specs.Types.{MemberTree, Structs}
use Rattle.qs_types.specs.Layout.{StructLayout, size_of, struct_of, layout_of}
use Rattle.qs_types.specs.StructsOf.{member_tree}
use Rattle.qs_types.specs.TypeOf.{type_tree}
use Rattle.qs_meaning.specs.Blanks.{Blanks, blank_by, members_blank, struct_blank, blanks_within}
use Rattle.qs_typed_nodes.specs.Behind.{behind}
use Rattle.qs_typed_nodes.proofs.KeptAgreement as options
use Rattle.qs_typed_nodes.proofs.Loops.{before_more, all_blanks, member_turn}

-- ---- members by their places

record Dropped (es : List (List ℕ × CType)) (i : ℕ) (t : CType) : Type 0 where
  name : List ℕ
  is : drop i es ≡ (name, t) ∷ drop (i + 1) es

dropped : (es : List (List ℕ × CType)) (i : ℕ) (t : CType) → slice_get (map (λ e. e.1) es) i ≡ Some t → Dropped es i t
dropped [] i t e = options.nothing t e
dropped (p ∷ es) zero t e = record { name = p.0; is = (λ j. (p.0, same_Some p.1 t e j) ∷ es) ∙ ap (λ n. (p.0, t) ∷ drop n (p ∷ es)) (sym (add-one zero)) }
dropped (p ∷ es) (suc i) t e =
    let r : Dropped es i t = dropped es i t e in
    record { name = r.name; is = r.is ∙ ap (λ n. (r.name, t) ∷ drop n es) (add-one i) ∙ ap (λ n. (r.name, t) ∷ drop n (p ∷ es)) (sym (add-one (suc i))) }

-- ---- one member more

pub blank_turn : (structs : Structs) (blanks : Blanks) (es : List (List ℕ × CType)) (os : List ℕ) (i at size o n end : ℕ) (t : CType) (b : BlankTree) (done new : List BlankTree) (whole : Option BlankTree)
    → whole ≡ behind joined done (members_blank structs blanks at size (map member_tree (drop i es)) (drop i os)) → slice_get (map (λ e. e.1) es) i ≡ Some t → drop i os ≡ o ∷ drop (i + 1) os
    → blank_by blanks (type_tree t) ≡ Some b → size_of structs (type_tree t) ≡ Some n → end ≡ o + n → new ≡ (done ++ zeros (o - at) ∷ []) ++ b ∷ []
    → whole ≡ behind joined new (members_blank structs blanks end size (map member_tree (drop (i + 1) es)) (drop (i + 1) os))
blank_turn structs blanks es os i at size o n end t b done new whole h e f p q r s =
    let d : Dropped es i t = dropped es i t e in
    h ∙ (λ j. behind joined done (members_blank structs blanks at size (map member_tree (d.is j)) (f j)))
    ∙ member_turn structs blanks at size (record { name = d.name; type = type_tree t }) (map member_tree (drop (i + 1) es)) o (drop (i + 1) os) b n done p q
    ∙ (λ j. behind joined (sym s j) (members_blank structs blanks (sym r j) size (map member_tree (drop (i + 1) es)) (drop (i + 1) os)))

-- the padding at the end
pub blank_finish : (structs : Structs) (blanks : Blanks) (es : List (List ℕ × CType)) (os : List ℕ) (i at size : ℕ) (done all : List BlankTree) (whole : Option BlankTree)
    → whole ≡ behind joined done (members_blank structs blanks at size (map member_tree (drop i es)) (drop i os)) → length es ≤ i → all ≡ done ++ zeros (size - at) ∷ [] → whole ≡ Some (joined_of all)
blank_finish structs blanks es os i at size done all whole h l p =
    h ∙ ap (λ ds. behind joined done (members_blank structs blanks at size (map member_tree ds) (drop i os))) (drop_all i es l)
    ∙ ap Some (sym (before_more joined done (zeros (size - at)) nothing) ∙ all_blanks (done ++ zeros (size - at) ∷ []) ∙ ap joined_of (sym p))

-- ---- structs

pub struct_is : (structs : Structs) (depth k : ℕ) (ms : List MemberTree) (l : StructLayout) (b : BlankTree) → struct_of structs k ≡ Some ms → layout_of structs k ≡ Some l
    → members_blank structs (blanks_within (depth - 1) structs) 0 l.size ms l.offsets ≡ Some b → 0 < depth → blanks_within depth structs k ≡ Some b
struct_is structs zero k ms l b p q r h = absurd (omega arith)
struct_is structs (suc d) k ms l b p q r h =
    let e : suc d - 1 ≡ d = omega arith in
    ap (λ o. o >>= λ ms. layout_of structs k >>= struct_blank structs (blanks_within d structs) ms) p
    ∙ ap (λ o. o >>= struct_blank structs (blanks_within d structs) ms) q
    ∙ ap (λ n. members_blank structs (blanks_within n structs) 0 l.size ms l.offsets) (sym e) ∙ r
