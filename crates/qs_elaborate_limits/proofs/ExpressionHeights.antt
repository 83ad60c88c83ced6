-- The typed tree of an expression is at most as high as the expression.
use Rattle.std.proofs.Common.{◌≡◌, ◌≤◌, ℕ, ◌+◌, max, Bool, true, false, List, [], ◌∷◌, Option, Some, None, subst, arith, if◌then◌else◌}
use Rattle.std.proofs.lemmas.Option.{same_Some}
use Rattle.qs_syntax.specs.declared.nodes.Node.{Node}
use Rattle.qs_syntax.specs.Trees.{ExprTree, expr, ShapeTree, Exprs, no_exprs, expr_and}
use Rattle.qs_syntax.specs.Trees as trees
use Rattle.qs_memory.specs.Partial.{◌>>=◌}
use Rattle.qs_memory.proofs.Options.{followed}
use Rattle.qs_types.specs.Types.{TypeTree}
use Rattle.qs_types.specs.Contexts.{Entity, local_variable, file_variable, function, given, entity_of, named_type}
use Rattle.qs_types.specs.Placed.{is_one_of}
use Rattle.qs_types.specs.Expressions.{type_of}
use Rattle.qs_meaning.specs.Typed.{variable, object, pointer_to, local, Arguments}
use Rattle.qs_meaning.specs.Forms.{Form, lvalue, TypedExpr}
use Rattle.qs_meaning.specs.Names.{Scope, Locals, local_lvalue, place_among, entity_lvalue, designated}
use Rattle.qs_meaning.specs.Expressions.{arguments_of, call_form, typed, form_of, all_typed}
use Rattle.qs_meaning.proofs.Options.{nothing}
use Rattle.qs_elaborate_limits.specs.Measures.{highest}
use Rattle.qs_elaborate_limits.proofs.SourceHeights.{expr_height, shape_height, exprs_height}
use Rattle.qs_elaborate_limits.proofs.TypedHeights.{lvalue_height, arguments_height}
use Rattle.qs_elaborate_limits.proofs.FormHeights.{form_height, height_in_use, form_as, value_in_use_low, subscript_low, binary_low, unary_low, member_low, size_low, cast_low, conditional_low, comma_low, step_low, assign_low}

-- ---- names

-- the place of a local
pub local_low : (locals : Locals) (node : ℕ) → lvalue_height (local_lvalue locals node) ≤ 0
local_low locals node = go (is_one_of node locals.placed)
  where
    go : (b : Bool) → lvalue_height (if b then object (pointer_to (local (place_among node locals.placed))) else variable (place_among node locals.variables)) ≤ 0
    go true = omega arith
    go false = omega arith

name_low : (s : Scope) (o : Option Entity) (form : Form) → ((o >>= entity_lvalue s) >>= λ l. Some (lvalue l)) ≡ Some form → form_height form ≤ 0
name_low s None form h = nothing form h
name_low s (Some (local_variable node u)) form h = form_as 0 _ form h (local_low s.locals node)
name_low s (Some (file_variable node u)) form h = form_as 0 _ form h (omega arith)
name_low s (Some (function node signature body)) form h = nothing form h
name_low s (Some (given signature)) form h = nothing form h

-- ---- calls

arguments_low :
    (ts : List TypeTree) (list : List TypedExpr) (all : Arguments) → arguments_of ts list ≡ Some all → arguments_height all ≤ highest height_in_use list
arguments_low [] [] all e = subst (λ z. arguments_height z ≤ 0) (same_Some _ all e) (omega arith)
arguments_low [] (a ∷ list) all e = nothing all e
arguments_low (t ∷ ts) [] all e = nothing all e
arguments_low (t ∷ ts) (a ∷ list) all e =
    let later = followed (arguments_of ts list) _ all e in
    let h = arguments_low ts list later.value later.first in
    let x = value_in_use_low a in
    subst (λ z. arguments_height z ≤ max (height_in_use a) (highest height_in_use list)) (same_Some _ all later.then) (omega arith)

call_low : (s : Scope) (f : List ℕ) (list : List TypedExpr) (form : Form) → call_form s f list ≡ Some form → form_height form ≤ highest height_in_use list
call_low s f list form e =
    let d = followed (designated s f) _ form e in
    let w = followed (arguments_of d.value.parameters list) _ form d.then in
    form_as _ _ form w.then (arguments_low d.value.parameters list w.value w.first)

-- ---- expressions

module _ (s : Scope) where
  mutual
    pub expression_low : (e : ExprTree) (a : TypedExpr) → typed s e ≡ Some a → height_in_use a ≤ expr_height e
    expression_low (expr node shape) a h =
        let t = followed (type_of s.context (expr node shape)) _ a h in
        let f = followed (form_of s node shape) _ a t.then in
        subst (λ (z : TypedExpr). height_in_use z ≤ 1 + shape_height shape) (same_Some _ a f.then) (shape_low shape node f.value f.first)

    shape_low : (shape : ShapeTree) (node : Node) (form : Form) → form_of s node shape ≡ Some form → form_height form ≤ 1 + shape_height shape
    shape_low (trees.constant n u) node form h = form_as _ _ form h (omega arith)
    shape_low (trees.text bytes) node form h = form_as _ _ form h (omega arith)
    shape_low (trees.name x) node form h = let i = name_low s (entity_of s.context x) form h in omega arith
    shape_low (trees.subscript a b) node form h =
        let x = followed (typed s a) _ form h in
        let y = followed (typed s b) _ form x.then in
        let i = expression_low a x.value x.first in
        let j = expression_low b y.value y.first in
        let k = subscript_low s.context.structs x.value y.value form y.then in
        omega arith
    shape_low (trees.call f es) node form h =
        let list = followed (all_typed s es) _ form h in
        let i = all_low es list.value list.first in
        let j = call_low s f list.value form list.then in
        omega arith
    shape_low (trees.member access a m) node form h =
        let x = followed (typed s a) _ form h in
        let i = expression_low a x.value x.first in
        let j = member_low s.context.structs access x.value m form x.then in
        omega arith
    shape_low (trees.step operator a) node form h =
        let x = followed (typed s a) _ form h in
        let i = expression_low a x.value x.first in
        let j = step_low s.context.structs operator x.value form x.then in
        omega arith
    shape_low (trees.unary operator a) node form h =
        let x = followed (typed s a) _ form h in
        let i = expression_low a x.value x.first in
        let j = unary_low operator x.value form x.then in
        omega arith
    shape_low (trees.sizeof_expr a) node form h =
        let t = followed (type_of s.context a) _ form h in
        let i = size_low s.context.structs t.value form t.then in
        omega arith
    shape_low (trees.sizeof_type name) node form h =
        let t = followed (named_type s.context name) _ form h in
        let i = size_low s.context.structs t.value form t.then in
        omega arith
    shape_low (trees.cast name a) node form h =
        let t = followed (named_type s.context name) _ form h in
        let x = followed (typed s a) _ form t.then in
        let i = expression_low a x.value x.first in
        let j = cast_low t.value x.value in
        form_as _ _ form x.then (omega arith)
    shape_low (trees.binary operator a b) node form h =
        let x = followed (typed s a) _ form h in
        let y = followed (typed s b) _ form x.then in
        let i = expression_low a x.value x.first in
        let j = expression_low b y.value y.first in
        let k = binary_low s.context.structs operator x.value y.value form y.then in
        omega arith
    shape_low (trees.conditional d a b) node form h =
        let z = followed (typed s d) _ form h in
        let x = followed (typed s a) _ form z.then in
        let y = followed (typed s b) _ form x.then in
        let l = expression_low d z.value z.first in
        let i = expression_low a x.value x.first in
        let j = expression_low b y.value y.first in
        let k = conditional_low z.value x.value y.value in
        form_as _ _ form y.then (omega arith)
    shape_low (trees.assign operator a b) node form h =
        let x = followed (typed s a) _ form h in
        let y = followed (typed s b) _ form x.then in
        let i = expression_low a x.value x.first in
        let j = expression_low b y.value y.first in
        let k = assign_low s.context.structs operator x.value y.value form y.then in
        omega arith
    shape_low (trees.comma a b) node form h =
        let x = followed (typed s a) _ form h in
        let y = followed (typed s b) _ form x.then in
        let i = expression_low a x.value x.first in
        let j = expression_low b y.value y.first in
        let k = comma_low x.value y.value in
        form_as _ _ form y.then (omega arith)

    all_low : (es : Exprs) (list : List TypedExpr) → all_typed s es ≡ Some list → highest height_in_use list ≤ exprs_height es
    all_low no_exprs list h = subst (λ z. highest height_in_use z ≤ 0) (same_Some _ list h) (omega arith)
    all_low (expr_and x es) list h =
        let a = followed (typed s x) _ list h in
        let rest = followed (all_typed s es) _ list a.then in
        let i = expression_low x a.value a.first in
        let j = all_low es rest.value rest.first in
        subst (λ z. highest height_in_use z ≤ max (expr_height x) (exprs_height es)) (same_Some _ list rest.then) (omega arith)
