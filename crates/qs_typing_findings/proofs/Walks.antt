-- The walk over an expression finds what the definitions say.
use Rattle.std.proofs.Common.{◌≡◌, ℕ, ◌<◌, List, [], ◌∷◌, ◌++◌, Option, None, refl, sym, ap, ◌∙◌, length, append_assoc, append-nil, length-append, slice_set, arith, rules, if◌then◌else◌, true, false}
use Rattle.std.proofs.Math.Seq.{set-append_seam}
use Rattle.qs_syntax.specs.Trees.{ExprTree, expr, ShapeTree, Exprs, no_exprs, expr_and}
use Rattle.qs_syntax.specs.Trees as trees
use Rattle.qs_syntax.specs.TreeOf.{expr_tree, shape_tree}
use Rattle.qs_syntax.specs.declared.expressions.Expr.{Expr, the_lemmas}
use Rattle.qs_syntax.specs.declared.nodes.Node.{Node}
use Rattle.qs_types.specs.Types.{TypeTree}
use Rattle.qs_types.specs.Rules.{Test, Fault, faults_of}
use Rattle.qs_types.specs.Contexts.{Context}
use Rattle.qs_types.specs.Expressions.{Judged, type_of, shape_judged}
use Rattle.qs_types.specs.ExpressionFaults.{Position, used, discarded, whole, operand_position, assigned_position, object_position, right_position, position_tests, own_tests}
use Rattle.qs_types.specs.Placed.{operand_of, named_local}
use Rattle.qs_types.specs.declared.referent.Referent.{Referent}
use Rattle.qs_typing_findings.specs.Findings.{FoundTree, Findings, least_with, judged_at, with_findings, both}
use Rattle.qs_types.specs.Referents.{shape_referent}
use Rattle.qs_typing_findings.specs.ExprFindings.{expr_findings, part_findings, all_findings}
use Rattle.qs_typing_findings.specs.PartsOf.{type_by}
use Rattle.qs_typing_findings.specs.Walk.{opened, filled, with_addressed, walked, parts_walked, all_walked}
use Rattle.qs_typing_findings.proofs.LeastFaults.{least_swaps, least_with-append}

-- the tree of an expression, one level opened
pub expr_of : (e : Expr) → expr_tree e ≡ expr e.node (shape_tree e.shape)
expr_of e = search (rules, the_lemmas)

-- ---- findings in turn

pub found_by : (ts us : List (Option TypeTree)) (rs ss : List (Option Referent)) (ns ms : List ℕ) (g h : Option Fault) → ts ≡ us → rs ≡ ss → ns ≡ ms → g ≡ h
    → (let f : FoundTree = record { types = ts; referents = rs; addressed = ns; least = g } in f) ≡ record { types = us; referents = ss; addressed = ms; least = h }
found_by ts us rs ss ns ms g h p q r s = λ j. record { types = p j; referents = q j; addressed = r j; least = s j }

-- what two parts add one after the other
pub in_turn : (f : FoundTree) (g h : Findings) → with_findings (with_findings f g) h ≡ with_findings f (both g h)
in_turn f g h =
    found_by ((f.types ++ g.types) ++ h.types) (f.types ++ (g.types ++ h.types)) ((f.referents ++ g.referents) ++ h.referents) (f.referents ++ (g.referents ++ h.referents))
    ((f.addressed ++ g.addressed) ++ h.addressed) (f.addressed ++ (g.addressed ++ h.addressed))
    (least_with (least_with f.least g.faults) h.faults) (least_with f.least (g.faults ++ h.faults))
    (append_assoc f.types g.types h.types) (append_assoc f.referents g.referents h.referents) (append_assoc f.addressed g.addressed h.addressed)
    (sym (least_with-append f.least g.faults h.faults))

nothing_more : (f : FoundTree) → f ≡ with_findings f (record { types = []; referents = []; addressed = []; faults = [] })
nothing_more f =
    found_by f.types (f.types ++ []) f.referents (f.referents ++ []) f.addressed (f.addressed ++ []) f.least f.least
    (sym (append-nil f.types)) (sym (append-nil f.referents)) (sym (append-nil f.addressed)) refl

abbrev noted : List ℕ → Findings → Findings
noted nodes g = record g { addressed = nodes ++ g.addressed }

-- what an operand adds behind the name that it is
addressed_first : (f : FoundTree) (nodes : List ℕ) (g : Findings) → with_findings (with_addressed nodes f) g ≡ with_findings f (noted nodes g)
addressed_first f nodes g =
    found_by (f.types ++ g.types) (f.types ++ g.types) (f.referents ++ g.referents) (f.referents ++ g.referents) ((f.addressed ++ nodes) ++ g.addressed) (f.addressed ++ (nodes ++ g.addressed))
    (least_with f.least g.faults) (least_with f.least g.faults) refl refl (append_assoc f.addressed nodes g.addressed) refl

-- ---- tests of a node in two steps

faults_of-append : (n : ℕ) (ts us : List Test) → faults_of n (ts ++ us) ≡ faults_of n ts ++ faults_of n us
faults_of-append n [] us = refl
faults_of-append n (t ∷ ts) us = by t.breaks (faults_of-append n ts us)
  where
    by : (b : _) → faults_of n (ts ++ us) ≡ faults_of n ts ++ faults_of n us
        → (if b then record { node = n; rule = t.rule } ∷ faults_of n (ts ++ us) else faults_of n (ts ++ us))
        ≡ (if b then record { node = n; rule = t.rule } ∷ faults_of n ts else faults_of n ts) ++ faults_of n us
    by true e = ap (λ fs. record { node = n; rule = t.rule } ∷ fs) e
    by false e = e

-- a node's own faults are found behind those of its parts
own_last : (g : Option Fault) (n : ℕ) (ts us : List Test) (parts : List Fault)
    → least_with (least_with (least_with g parts) (faults_of n ts)) (faults_of n us) ≡ least_with g (faults_of n (ts ++ us) ++ parts)
own_last g n ts us parts =
    sym (least_with-append (least_with g parts) (faults_of n ts) (faults_of n us))
    ∙ ap (least_with (least_with g parts)) (sym (faults_of-append n ts us))
    ∙ least_swaps g parts (faults_of n (ts ++ us))
    ∙ sym (least_with-append g (faults_of n (ts ++ us)) parts)

node_last : (f : FoundTree) (n : ℕ) (ts us : List Test) (t : Option TypeTree) (r : Option Referent) (g : Findings)
    → judged_at n us (judged_at n ts (with_findings (opened t r f) g))
    ≡ with_findings f (record { types = t ∷ g.types; referents = r ∷ g.referents; addressed = g.addressed; faults = faults_of n (ts ++ us) ++ g.faults })
node_last f n ts us t r g =
    found_by ((f.types ++ t ∷ []) ++ g.types) (f.types ++ (t ∷ g.types)) ((f.referents ++ r ∷ []) ++ g.referents) (f.referents ++ (r ∷ g.referents))
    (f.addressed ++ g.addressed) (f.addressed ++ g.addressed)
    (least_with (least_with (least_with f.least g.faults) (faults_of n ts)) (faults_of n us)) (least_with f.least (faults_of n (ts ++ us) ++ g.faults))
    (append_assoc f.types (t ∷ []) g.types) (append_assoc f.referents (r ∷ []) g.referents) refl
    (own_last f.least n ts us g.faults)

-- ---- the walk

mutual
  pub expr_walked : (c : Context) (p : Position) (e : ExprTree) (f : FoundTree) → walked c p e f ≡ with_findings f (expr_findings c p e)
  expr_walked c p (expr node shape) f =
      ap (λ g. judged_at node.id (position_tests p shape (type_of c (expr node shape))) (judged_at node.id (own_tests (shape_judged c shape)) g))
      (shape_walked c p shape (opened (type_of c (expr node shape)) (shape_referent c shape) f))
      ∙ node_last f node.id (own_tests (shape_judged c shape)) (position_tests p shape (type_of c (expr node shape))) (type_of c (expr node shape)) (shape_referent c shape) (part_findings c p shape)

  pub shape_walked : (c : Context) (p : Position) (shape : ShapeTree) (f : FoundTree) → parts_walked c p shape f ≡ with_findings f (part_findings c p shape)
  shape_walked c p (trees.constant n u) f = nothing_more f
  shape_walked c p (trees.text bytes) f = nothing_more f
  shape_walked c p (trees.name x) f = nothing_more f
  shape_walked c p (trees.unary operator a) f =
      expr_walked c (operand_position operator) a (with_addressed (operand_of operator (named_local c a)) f)
      ∙ addressed_first f (operand_of operator (named_local c a)) (expr_findings c (operand_position operator) a)
  shape_walked c p (trees.step operator a) f = expr_walked c used a f
  shape_walked c p (trees.cast n a) f = expr_walked c used a f
  shape_walked c p (trees.sizeof_type n) f = nothing_more f
  shape_walked c p (trees.sizeof_expr a) f = expr_walked c whole a f
  shape_walked c p (trees.binary operator a b) f =
      expr_walked c used b (walked c used a f) ∙ ap (λ g. with_findings g (expr_findings c used b)) (expr_walked c used a f)
      ∙ in_turn f (expr_findings c used a) (expr_findings c used b)
  shape_walked c p (trees.assign operator a b) f =
      expr_walked c (assigned_position operator) b (walked c (assigned_position operator) a f)
      ∙ ap (λ g. with_findings g (expr_findings c (assigned_position operator) b)) (expr_walked c (assigned_position operator) a f)
      ∙ in_turn f (expr_findings c (assigned_position operator) a) (expr_findings c (assigned_position operator) b)
  shape_walked c p (trees.conditional d a b) f =
      expr_walked c used b (walked c used a (walked c used d f)) ∙ ap (λ g. with_findings g (expr_findings c used b)) (expr_walked c used a (walked c used d f))
      ∙ in_turn (walked c used d f) (expr_findings c used a) (expr_findings c used b)
      ∙ ap (λ g. with_findings g (both (expr_findings c used a) (expr_findings c used b))) (expr_walked c used d f)
      ∙ in_turn f (expr_findings c used d) (both (expr_findings c used a) (expr_findings c used b))
  shape_walked c p (trees.comma a b) f =
      expr_walked c (right_position p) b (walked c discarded a f) ∙ ap (λ g. with_findings g (expr_findings c (right_position p) b)) (expr_walked c discarded a f)
      ∙ in_turn f (expr_findings c discarded a) (expr_findings c (right_position p) b)
  shape_walked c p (trees.subscript a b) f =
      expr_walked c used b (walked c used a f) ∙ ap (λ g. with_findings g (expr_findings c used b)) (expr_walked c used a f)
      ∙ in_turn f (expr_findings c used a) (expr_findings c used b)
  shape_walked c p (trees.member access a x) f = expr_walked c (object_position access) a f
  shape_walked c p (trees.call g es) f = exprs_walked c es f

  pub exprs_walked : (c : Context) (es : Exprs) (f : FoundTree) → all_walked c es f ≡ with_findings f (all_findings c es)
  exprs_walked c no_exprs f = nothing_more f
  exprs_walked c (expr_and e es) f =
      exprs_walked c es (walked c used e f) ∙ ap (λ g. with_findings g (all_findings c es)) (expr_walked c used e f)
      ∙ in_turn f (expr_findings c used e) (all_findings c es)

-- ---- a place is made before the parts, and filled after them

types_of_parts : (c : Context) (p : Position) (shape : ShapeTree) (f : FoundTree) → (parts_walked c p shape f).types ≡ f.types ++ (part_findings c p shape).types
types_of_parts c p shape f = ap (λ g. g.types) (shape_walked c p shape f)

pub has_place : (c : Context) (p : Position) (shape : ShapeTree) (r : Option Referent) (f g : FoundTree) (at : ℕ) → at ≡ length f.types
    → g ≡ parts_walked c p shape (opened None r f) → at < length g.types
has_place c p shape r f g at e h =
    let ts = (part_findings c p shape).types in
    let q : length g.types ≡ length ((f.types ++ None ∷ []) ++ ts) = ap (λ v. length v.types) h ∙ ap length (types_of_parts c p shape (opened None r f)) in
    let m = length-append (f.types ++ None ∷ []) ts in
    let n = length-append f.types (None ∷ []) in
    omega arith

-- the place is where the type stands
pub place_filled : (ts us : List (Option TypeTree)) (t : Option TypeTree) (at : ℕ) → at ≡ length ts → slice_set ((ts ++ None ∷ []) ++ us) at t ≡ (ts ++ t ∷ []) ++ us
place_filled ts us t at e =
    ap (λ l. slice_set l at t) (append_assoc ts (None ∷ []) us) ∙ ap (λ n. slice_set (ts ++ None ∷ us) n t) e ∙ set-append_seam ts None us t
    ∙ sym (append_assoc ts (t ∷ []) us)

pub filled_parts : (c : Context) (p : Position) (shape : ShapeTree) (r : Option Referent) (f : FoundTree) (t : Option TypeTree) (at : ℕ) → at ≡ length f.types
    → filled at t (parts_walked c p shape (opened None r f)) ≡ parts_walked c p shape (opened t r f)
filled_parts c p shape r f t at e =
    ap (filled at t) (shape_walked c p shape (opened None r f))
    ∙ ap (λ ts. let g : FoundTree = record (with_findings (opened t r f) (part_findings c p shape)) { types = ts } in g) (place_filled f.types (part_findings c p shape).types t at e)
    ∙ sym (shape_walked c p shape (opened t r f))

pub none_addressed : (f : FoundTree) → f ≡ with_addressed [] f
none_addressed f = found_by f.types f.types f.referents f.referents f.addressed (f.addressed ++ []) f.least f.least refl refl (sym (append-nil f.addressed)) refl

-- what is found where a place is made, the parts are walked, the node is judged, and the place is filled
pub node_walked : (c : Context) (p : Position) (node : Node) (shape : ShapeTree) (f made parts settled after : FoundTree) (r : Option Referent) (j : Option Judged) (t : Option TypeTree) (at : ℕ)
    → at ≡ length f.types → r ≡ shape_referent c shape → made ≡ opened None r f → j ≡ shape_judged c shape → parts ≡ parts_walked c p shape made
    → settled ≡ judged_at node.id (position_tests p shape (type_by j)) (judged_at node.id (own_tests j) parts) → t ≡ type_by j → after ≡ filled at t settled
    → after ≡ walked c p (expr node shape) f
node_walked c p node shape f made parts settled after r j t at place named opens judged walks settles typed fills =
    let here : parts ≡ parts_walked c p shape (opened None (shape_referent c shape) f) = walks ∙ ap (parts_walked c p shape) (opens ∙ ap (λ o. opened None o f) named) in
    let type : t ≡ type_of c (expr node shape) = typed ∙ ap type_by judged in
    let done : settled ≡ judged_at node.id (position_tests p shape (type_of c (expr node shape))) (judged_at node.id (own_tests (shape_judged c shape)) (parts_walked c p shape (opened None (shape_referent c shape) f))) =
    settles ∙ (λ i. judged_at node.id (position_tests p shape (type_by (judged i))) (judged_at node.id (own_tests (judged i)) (here i))) in
    fills ∙ (λ i. filled at (type i) (done i))
    ∙ ap (λ g. judged_at node.id (position_tests p shape (type_of c (expr node shape))) (judged_at node.id (own_tests (shape_judged c shape)) g))
    (filled_parts c p shape (shape_referent c shape) f (type_of c (expr node shape)) at place)
