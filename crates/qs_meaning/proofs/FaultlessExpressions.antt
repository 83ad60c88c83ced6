-- Where no rule is broken in an expression, and all names have types, it has a type.
use Rattle.std.proofs.Common.{◌≡◌, ℕ, Bool, true, false, ◌||◌, List, [], ◌∷◌, ◌++◌, Option, Some, None, refl, sym, ap, ◌∙◌, subst, if◌then◌else◌}
use Rattle.qs_syntax.specs.Trees.{ExprTree, expr, ShapeTree, Exprs, no_exprs, expr_and}
use Rattle.qs_syntax.specs.Trees as trees
use Rattle.qs_types.specs.Types.{TypeTree}
use Rattle.qs_types.specs.Layout.{and_then}
use Rattle.qs_types.specs.GivenFunctions.{Signature}
use Rattle.qs_types.specs.Rules.{Test, breaks_one, type_unless, Fault, faults_of}
use Rattle.qs_types.specs.Contexts.{Entity, local_variable, file_variable, function, given, Context, entity_of}
use Rattle.qs_types.specs.Expressions.{name_judged, call_judged, type_of, shape_judged, types_of}
use Rattle.qs_types.specs.ExpressionFaults.{Position, used, discarded, whole, operand_position, assigned_position, object_position, right_position, own_tests, position_tests, node_faults, expr_faults, part_faults, all_faults}
use Rattle.qs_meaning.proofs.Options.{never, Known}

-- ---- lists without elements

pub none_left : {A : Type 0} (xs ys : List A) → (xs ++ ys) ≡ [] → xs ≡ []
none_left [] ys e = refl
none_left (x ∷ xs) ys e = absurd (no x (xs ++ ys) e)
  where
    no : {A : Type 0} (x : A) (xs : List A) → (x ∷ xs) ≡ [] → ⊥
    no x xs e = cc

pub none_right : {A : Type 0} (xs ys : List A) → (xs ++ ys) ≡ [] → ys ≡ []
none_right [] ys e = e
none_right (x ∷ xs) ys e = absurd (no x (xs ++ ys) e)
  where
    no : {A : Type 0} (x : A) (xs : List A) → (x ∷ xs) ≡ [] → ⊥
    no x xs e = cc

-- ---- tests

pub unbroken : (node : ℕ) (ts : List Test) → faults_of node ts ≡ [] → breaks_one ts ≡ false
unbroken node [] e = refl
unbroken node (t ∷ ts) e = go (λ f. unbroken node ts f) t.breaks e
  where
    go : (faults_of node ts ≡ [] → breaks_one ts ≡ false)
        → (b : Bool) → (if b then record { node = node; rule = t.rule } ∷ faults_of node ts else faults_of node ts) ≡ [] → (b || breaks_one ts) ≡ false
    go later true e = absurd (no (record { node = node; rule = t.rule }) (faults_of node ts) e)
      where
        no : (x : Fault) (xs : List Fault) → (x ∷ xs) ≡ [] → ⊥
        no x xs e = cc
    go later false e = later e

pub first_unbroken : (ts us : List Test) → breaks_one (ts ++ us) ≡ false → breaks_one ts ≡ false
first_unbroken [] us e = refl
first_unbroken (t ∷ ts) us e = go (λ f. first_unbroken ts us f) t.breaks e
  where
    go : (breaks_one (ts ++ us) ≡ false → breaks_one ts ≡ false) → (b : Bool) → (b || breaks_one (ts ++ us)) ≡ false → (b || breaks_one ts) ≡ false
    go later true e = e
    go later false e = later e

pub second_unbroken : (ts us : List Test) → breaks_one (ts ++ us) ≡ false → breaks_one us ≡ false
second_unbroken [] us e = e
second_unbroken (t ∷ ts) us e = go (λ f. second_unbroken ts us f) t.breaks e
  where
    go : (breaks_one (ts ++ us) ≡ false → breaks_one us ≡ false) → (b : Bool) → (b || breaks_one (ts ++ us)) ≡ false → breaks_one us ≡ false
    go later true e = never (sym e)
    go later false e = later e

pub type_known : (ts : List Test) (t : TypeTree) → breaks_one ts ≡ false → type_unless ts t ≡ Some t
type_known ts t e = ap (λ b. if b then None else Some t) e

-- what goes on from something known is known where that is
pub next_known : {A B : Type 0} (o : Option A) (go : A → Option B) → (k : Known o) → Known (go k.value) → Known (and_then o go)
next_known o go k h = record { value = h.value; is = ap (λ o. and_then o go) k.is ∙ h.is }

-- ---- names

-- all names have types
pub record HasTypes (c : Context) : Type 0 where
  pub locals : (x : List ℕ) (node : ℕ) (t : Option TypeTree) → entity_of c x ≡ Some (local_variable node t) → Known t
  pub files : (x : List ℕ) (node : ℕ) (t : Option TypeTree) → entity_of c x ≡ Some (file_variable node t) → Known t
  pub functions : (x : List ℕ) (node : ℕ) (s : Option Signature) (body : Bool) → entity_of c x ≡ Some (function node s body) → Known s

name_judged_known : (c : Context) → HasTypes c → (x : List ℕ) → Known (name_judged (entity_of c x))
name_judged_known c has x = go (entity_of c x) refl
  where
    go : (o : Option Entity) → entity_of c x ≡ o → Known (name_judged o)
    go None e = record { value = _; is = refl }
    go (Some (local_variable node t)) e = next_known t _ (has.locals x node t e) (record { value = _; is = refl })
    go (Some (file_variable node t)) e = next_known t _ (has.files x node t e) (record { value = _; is = refl })
    go (Some (function node s body)) e = record { value = _; is = refl }
    go (Some (given s)) e = record { value = _; is = refl }

call_judged_known : (c : Context) → HasTypes c → (f : List ℕ) (es : Exprs) (us : List TypeTree) → Known (call_judged (entity_of c f) es us)
call_judged_known c has f es us = go (entity_of c f) refl
  where
    go : (o : Option Entity) → entity_of c f ≡ o → Known (call_judged o es us)
    go None e = record { value = _; is = refl }
    go (Some (local_variable node t)) e = record { value = _; is = refl }
    go (Some (file_variable node t)) e = record { value = _; is = refl }
    go (Some (function node s body)) e = next_known s _ (has.functions f node s body e) (record { value = _; is = refl })
    go (Some (given s)) e = record { value = _; is = refl }

-- ---- expressions

module _ (c : Context) (has : HasTypes c) where
  mutual
    pub type_of_known : (e : ExprTree) (p : Position) → expr_faults c p e ≡ [] → Known (type_of c e)
    type_of_known (expr node shape) p h =
        let j = shape_known shape p (none_right (node_faults c p node shape) _ h) in
        let tests = unbroken node.id (own_tests (shape_judged c shape) ++ position_tests p shape (type_of c (expr node shape))) (none_left (node_faults c p node shape) _ h) in
        let own = subst (λ o. breaks_one (own_tests o) ≡ false) j.is
        (first_unbroken (own_tests (shape_judged c shape)) (position_tests p shape (type_of c (expr node shape))) tests) in
        next_known (shape_judged c shape) _ j (record { value = j.value.type; is = type_known j.value.tests j.value.type own })

    shape_known : (shape : ShapeTree) (p : Position) → part_faults c p shape ≡ [] → Known (shape_judged c shape)
    shape_known (trees.constant n u) p h = record { value = _; is = refl }
    shape_known (trees.text bytes) p h = record { value = _; is = refl }
    shape_known (trees.name x) p h = name_judged_known c has x
    shape_known (trees.unary operator a) p h = next_known (type_of c a) _ (type_of_known a (operand_position operator) h) (record { value = _; is = refl })
    shape_known (trees.step operator a) p h = next_known (type_of c a) _ (type_of_known a used h) (record { value = _; is = refl })
    shape_known (trees.cast n a) p h = next_known (type_of c a) _ (type_of_known a used h) (record { value = _; is = refl })
    shape_known (trees.sizeof_type n) p h = record { value = _; is = refl }
    shape_known (trees.sizeof_expr a) p h = next_known (type_of c a) _ (type_of_known a whole h) (record { value = _; is = refl })
    shape_known (trees.binary operator a b) p h =
        next_known (type_of c a) _ (type_of_known a used (none_left _ _ h))
        (next_known (type_of c b) _ (type_of_known b used (none_right (expr_faults c used a) _ h)) (record { value = _; is = refl }))
    shape_known (trees.assign operator a b) p h =
        next_known (type_of c a) _ (type_of_known a (assigned_position operator) (none_left _ _ h))
        (next_known (type_of c b) _ (type_of_known b (assigned_position operator) (none_right (expr_faults c (assigned_position operator) a) _ h)) (record { value = _; is = refl }))
    shape_known (trees.conditional d a b) p h =
        let rest = none_right (expr_faults c used d) _ h in
        next_known (type_of c d) _ (type_of_known d used (none_left _ _ h)) (next_known (type_of c a) _ (type_of_known a used (none_left _ _ rest))
        (next_known (type_of c b) _ (type_of_known b used (none_right (expr_faults c used a) _ rest)) (record { value = _; is = refl })))
    shape_known (trees.comma a b) p h =
        next_known (type_of c a) _ (type_of_known a discarded (none_left _ _ h))
        (next_known (type_of c b) _ (type_of_known b (right_position p) (none_right (expr_faults c discarded a) _ h)) (record { value = _; is = refl }))
    shape_known (trees.subscript a b) p h =
        next_known (type_of c a) _ (type_of_known a used (none_left _ _ h))
        (next_known (type_of c b) _ (type_of_known b used (none_right (expr_faults c used a) _ h)) (record { value = _; is = refl }))
    shape_known (trees.member access a x) p h = next_known (type_of c a) _ (type_of_known a (object_position access) h) (record { value = _; is = refl })
    shape_known (trees.call f es) p h =
        let us = types_known es h in
        next_known (types_of c es) _ us (call_judged_known c has f es us.value)

    types_known : (es : Exprs) → all_faults c es ≡ [] → Known (types_of c es)
    types_known no_exprs h = record { value = []; is = refl }
    types_known (expr_and e es) h =
        next_known (type_of c e) _ (type_of_known e used (none_left _ _ h))
        (next_known (types_of c es) _ (types_known es (none_right (expr_faults c used e) _ h)) (record { value = _; is = refl }))
