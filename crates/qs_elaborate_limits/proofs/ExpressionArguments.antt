-- No call in the typed tree of an expression has more arguments than those in the expression.
use Rattle.std.proofs.Common.{◌≡◌, ◌≤◌, ℕ, ◌+◌, max, Bool, true, false, List, [], ◌∷◌, Option, Some, None, length, refl, subst, arith, if◌then◌else◌}
use Rattle.std.proofs.lemmas.Option.{same_Some}
use Rattle.qs_syntax.specs.declared.nodes.Node.{Node}
use Rattle.qs_syntax.specs.Trees.{ExprTree, expr, ShapeTree, Exprs, no_exprs, expr_and}
use Rattle.qs_syntax.specs.Trees as trees
use Rattle.qs_memory.specs.Partial.{◌>>=◌}
use Rattle.qs_memory.proofs.Options.{followed}
use Rattle.qs_types.specs.Types.{TypeTree}
use Rattle.qs_types.specs.Contexts.{Entity, local_variable, file_variable, function, given, entity_of, named_type}
use Rattle.qs_types.specs.Placed.{is_one_of}
use Rattle.qs_types.specs.Expressions.{type_of}
use Rattle.qs_meaning.specs.Typed.{variable, object, pointer_to, local, Arguments}
use Rattle.qs_meaning.specs.Forms.{Form, lvalue, TypedExpr}
use Rattle.qs_meaning.specs.Names.{Scope, Locals, local_lvalue, place_among, entity_lvalue, designated}
use Rattle.qs_meaning.specs.Expressions.{arguments_of, call_form, typed, form_of, all_typed}
use Rattle.qs_meaning.proofs.Options.{nothing}
use Rattle.qs_elaborate_limits.specs.Measures.{highest}
use Rattle.qs_elaborate_limits.specs.Arguments.{expr_number, expr_arguments, shape_arguments, exprs_arguments}
use Rattle.qs_elaborate_limits.proofs.TypedArguments.{argument_number, lvalue_arguments, within_arguments}
use Rattle.qs_elaborate_limits.proofs.FormArguments.{form_arguments, arguments_in_use, form_as, value_in_use_few, subscript_few, binary_few, unary_few, member_few, size_few, cast_few, conditional_few, comma_few, step_few, assign_few}

-- ---- names

-- the place of a local
pub local_few : (locals : Locals) (node : ℕ) → lvalue_arguments (local_lvalue locals node) ≤ 0
local_few locals node = go (is_one_of node locals.placed)
  where
    go : (b : Bool) → lvalue_arguments (if b then object (pointer_to (local (place_among node locals.placed))) else variable (place_among node locals.variables)) ≤ 0
    go true = omega arith
    go false = omega arith

name_few : (s : Scope) (o : Option Entity) (form : Form) → ((o >>= entity_lvalue s) >>= λ l. Some (lvalue l)) ≡ Some form → form_arguments form ≤ 0
name_few s None form h = nothing form h
name_few s (Some (local_variable node u)) form h = form_as 0 _ form h (local_few s.locals node)
name_few s (Some (file_variable node u)) form h = form_as 0 _ form h (omega arith)
name_few s (Some (function node signature body)) form h = nothing form h
name_few s (Some (given signature)) form h = nothing form h

-- ---- calls

arguments_few :
    (ts : List TypeTree) (list : List TypedExpr) (all : Arguments) → arguments_of ts list ≡ Some all
    → (argument_number all ≤ length list) × (within_arguments all ≤ highest arguments_in_use list)
arguments_few [] [] all e = subst (λ z. (argument_number z ≤ 0) × (within_arguments z ≤ 0)) (same_Some _ all e) (omega arith, omega arith)
arguments_few [] (a ∷ list) all e = nothing all e
arguments_few (t ∷ ts) [] all e = nothing all e
arguments_few (t ∷ ts) (a ∷ list) all e =
    let later = followed (arguments_of ts list) _ all e in
    let h = arguments_few ts list later.value later.first in
    let n = h.0 in
    let w = h.1 in
    let x = value_in_use_few a in
    subst (λ z. (argument_number z ≤ length (a ∷ list)) × (within_arguments z ≤ max (arguments_in_use a) (highest arguments_in_use list))) (same_Some _ all later.then)
    (omega (arith, n), omega (arith, w, x))

call_few :
    (s : Scope) (f : List ℕ) (list : List TypedExpr) (form : Form) → call_form s f list ≡ Some form
    → form_arguments form ≤ max (length list) (highest arguments_in_use list)
call_few s f list form e =
    let d = followed (designated s f) _ form e in
    let w = followed (arguments_of d.value.parameters list) _ form d.then in
    let h = arguments_few d.value.parameters list w.value w.first in
    let number = h.0 in
    let within = h.1 in
    form_as _ _ form w.then (omega (arith, number, within))

-- ---- expressions

module _ (s : Scope) where
  mutual
    pub expression_few : (e : ExprTree) (a : TypedExpr) → typed s e ≡ Some a → arguments_in_use a ≤ expr_arguments e
    expression_few (expr node shape) a h =
        let t = followed (type_of s.context (expr node shape)) _ a h in
        let f = followed (form_of s node shape) _ a t.then in
        subst (λ (z : TypedExpr). arguments_in_use z ≤ shape_arguments shape) (same_Some _ a f.then) (shape_few shape node f.value f.first)

    shape_few : (shape : ShapeTree) (node : Node) (form : Form) → form_of s node shape ≡ Some form → form_arguments form ≤ shape_arguments shape
    shape_few (trees.constant n u) node form h = form_as _ _ form h (omega arith)
    shape_few (trees.text bytes) node form h = form_as _ _ form h (omega arith)
    shape_few (trees.name x) node form h = let i = name_few s (entity_of s.context x) form h in omega arith
    shape_few (trees.subscript a b) node form h =
        let x = followed (typed s a) _ form h in
        let y = followed (typed s b) _ form x.then in
        let i = expression_few a x.value x.first in
        let j = expression_few b y.value y.first in
        let k = subscript_few s.context.structs x.value y.value form y.then in
        omega arith
    shape_few (trees.call f es) node form h =
        let list = followed (all_typed s es) _ form h in
        let all = all_few es list.value list.first in
        let n = all.0 in
        let i = all.1 in
        let j = call_few s f list.value form list.then in
        omega (arith, n, i, j)
    shape_few (trees.member access a m) node form h =
        let x = followed (typed s a) _ form h in
        let i = expression_few a x.value x.first in
        let j = member_few s.context.structs access x.value m form x.then in
        omega arith
    shape_few (trees.step operator a) node form h =
        let x = followed (typed s a) _ form h in
        let i = expression_few a x.value x.first in
        let j = step_few s.context.structs operator x.value form x.then in
        omega arith
    shape_few (trees.unary operator a) node form h =
        let x = followed (typed s a) _ form h in
        let i = expression_few a x.value x.first in
        let j = unary_few operator x.value form x.then in
        omega arith
    shape_few (trees.sizeof_expr a) node form h =
        let t = followed (type_of s.context a) _ form h in
        let i = size_few s.context.structs t.value form t.then in
        omega arith
    shape_few (trees.sizeof_type name) node form h =
        let t = followed (named_type s.context name) _ form h in
        let i = size_few s.context.structs t.value form t.then in
        omega arith
    shape_few (trees.cast name a) node form h =
        let t = followed (named_type s.context name) _ form h in
        let x = followed (typed s a) _ form t.then in
        let i = expression_few a x.value x.first in
        let j = cast_few t.value x.value in
        form_as _ _ form x.then (omega arith)
    shape_few (trees.binary operator a b) node form h =
        let x = followed (typed s a) _ form h in
        let y = followed (typed s b) _ form x.then in
        let i = expression_few a x.value x.first in
        let j = expression_few b y.value y.first in
        let k = binary_few s.context.structs operator x.value y.value form y.then in
        omega arith
    shape_few (trees.conditional d a b) node form h =
        let z = followed (typed s d) _ form h in
        let x = followed (typed s a) _ form z.then in
        let y = followed (typed s b) _ form x.then in
        let l = expression_few d z.value z.first in
        let i = expression_few a x.value x.first in
        let j = expression_few b y.value y.first in
        let k = conditional_few z.value x.value y.value in
        form_as _ _ form y.then (omega arith)
    shape_few (trees.assign operator a b) node form h =
        let x = followed (typed s a) _ form h in
        let y = followed (typed s b) _ form x.then in
        let i = expression_few a x.value x.first in
        let j = expression_few b y.value y.first in
        let k = assign_few s.context.structs operator x.value y.value form y.then in
        omega arith
    shape_few (trees.comma a b) node form h =
        let x = followed (typed s a) _ form h in
        let y = followed (typed s b) _ form x.then in
        let i = expression_few a x.value x.first in
        let j = expression_few b y.value y.first in
        let k = comma_few x.value y.value in
        form_as _ _ form y.then (omega arith)

    all_few : (es : Exprs) (list : List TypedExpr) → all_typed s es ≡ Some list → (length list ≡ expr_number es) × (highest arguments_in_use list ≤ exprs_arguments es)
    all_few no_exprs list h = subst (λ z. (length z ≡ 0) × (highest arguments_in_use z ≤ 0)) (same_Some _ list h) (refl, omega arith)
    all_few (expr_and x es) list h =
        let a = followed (typed s x) _ list h in
        let rest = followed (all_typed s es) _ list a.then in
        let i = expression_few x a.value a.first in
        let all = all_few es rest.value rest.first in
        let n = all.0 in
        let j = all.1 in
        subst (λ z. (length z ≡ 1 + expr_number es) × (highest arguments_in_use z ≤ max (expr_arguments x) (exprs_arguments es))) (same_Some _ list rest.then)
        (omega (arith, n), omega (arith, i, j))
