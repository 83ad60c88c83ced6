-- The node of a variable or parameter gets the type that it declares behind its lengths, which are walked between.
use Rattle.std.proofs.Common.{◌≡◌, ℕ, ◌<◌, List, [], ◌∷◌, ◌++◌, Option, None, sym, ap, ◌∙◌, append_assoc, append-nil, length, length-append, slice_set, arith}
use Rattle.qs_syntax.specs.Trees.{ExprTree}
use Rattle.qs_types.specs.Types.{TypeTree}
use Rattle.qs_types.specs.Contexts.{Context}
use Rattle.qs_types.specs.ExpressionFaults.{used}
use Rattle.qs_typing_findings.specs.NodeTypes.{expr_types, lengths_types}
use Rattle.qs_typing_findings.specs.UnitWalk.{WalkTree, expr_walked, lengths_walked, object_opened, object_typed, declarator_walked}
use Rattle.qs_typing_findings.proofs.Walks.{place_filled}
use Rattle.qs_typing_findings.proofs.AddedFindings.{lengths_add}

-- with other types
abbrev typed_so : WalkTree → List (Option TypeTree) → WalkTree
typed_so w ts = record w { found = record (w.found) { types = ts } }

-- lengths add to what there is, whatever types stand before them
any_types : (c : Context) (es : List ExprTree) (w : WalkTree) (ts : List (Option TypeTree))
    → lengths_walked c es (typed_so w ts) ≡ typed_so (lengths_walked c es w) (ts ++ lengths_types c es)
any_types c [] w ts = ap (typed_so w) (sym (append-nil ts))
any_types c (e ∷ es) w ts =
    any_types c es (expr_walked c used e w) (ts ++ expr_types c e)
    ∙ ap (typed_so (lengths_walked c es (expr_walked c used e w))) (append_assoc ts (expr_types c e) (lengths_types c es))

types_behind : (c : Context) (es : List ExprTree) (w : WalkTree) → (lengths_walked c es w).found.types ≡ w.found.types ++ lengths_types c es
types_behind c es w = (lengths_add c es).types w

pub has_place : (c : Context) (es : List ExprTree) (w opened behind : WalkTree) (at : ℕ) → at ≡ length w.found.types
    → opened ≡ object_opened None w → behind ≡ lengths_walked c es opened → at < length behind.found.types
has_place c es w opened behind at e o b =
    let ts = lengths_types c es in
    let q : length behind.found.types ≡ length ((w.found.types ++ None ∷ []) ++ ts) =
    ap (λ v. length v.found.types) b ∙ ap (λ v. length (lengths_walked c es v).found.types) o ∙ ap length (types_behind c es (object_opened None w)) in
    let m = length-append (w.found.types ++ None ∷ []) ts in
    let n = length-append w.found.types (None ∷ []) in
    omega arith

typed_behind : (c : Context) (es : List ExprTree) (w : WalkTree) (t : Option TypeTree) (at : ℕ) → at ≡ length w.found.types
    → object_typed at t (lengths_walked c es (object_opened None w)) ≡ declarator_walked c t es w
typed_behind c es w t at e =
    let all = lengths_walked c es (object_opened None w) in
    ap (λ ts. typed_so all (slice_set ts at t)) (types_behind c es (object_opened None w))
    ∙ ap (typed_so all) (place_filled w.found.types (lengths_types c es) t at e)
    ∙ sym (any_types c es (object_opened None w) (w.found.types ++ t ∷ []))

pub declarator_is : (c : Context) (es : List ExprTree) (t : Option TypeTree) (w opened behind after : WalkTree) (at : ℕ) → at ≡ length w.found.types
    → opened ≡ object_opened None w → behind ≡ lengths_walked c es opened → after ≡ object_typed at t behind → after ≡ declarator_walked c t es w
declarator_is c es t w opened behind after at e o b f =
    f ∙ ap (object_typed at t) (b ∙ ap (lengths_walked c es) o) ∙ typed_behind c es w t at e
