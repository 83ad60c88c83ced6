-- Where the definition gives an expression a typed tree, what is known by the numbers of its nodes gives the same.
use Rattle.std.proofs.Common.{◌≡◌, ℕ, Bool, true, false, List, [], ◌∷◌, Option, Some, None, map, refl, sym, ap, ◌∙◌, if◌then◌else◌}
use Rattle.std.proofs.lemmas.Option.{same_Some}
use Rattle.qs_memory.specs.Partial.{◌>>=◌}
use Rattle.qs_memory.specs.declared.scalar.Scalar.{Scalar}
use Rattle.qs_base.specs.Bytes.{same_bytes}
use Rattle.qs_syntax.specs.declared.nodes.Node.{Node}
use Rattle.qs_syntax.specs.declared.types.Base.TheVariants as bases
use Rattle.qs_syntax.specs.declared.types.TypeName.{TypeName}
use Rattle.qs_syntax.specs.Trees.{ExprTree, expr, ShapeTree, Exprs, no_exprs, expr_and}
use Rattle.qs_syntax.specs.Trees as trees
use Rattle.qs_calls.specs.declared.callee.Callee.{Callee}
use Rattle.qs_calls.specs.declared.callee.Callee.TheVariants as callees
use Rattle.qs_types.specs.Types.{TypeTree}
use Rattle.qs_types.specs.Conversions.{decayed}
use Rattle.qs_types.specs.GivenFunctions.{Signature, putchar_name, putchar_type, getchar_type}
use Rattle.qs_types.specs.declared.referent.Referent.TheVariants as referents
use Rattle.qs_types.specs.Layout.{and_then}
use Rattle.qs_types.specs.Rules.{breaks_one, type_unless}
use Rattle.qs_types.specs.Contexts.{Context, Entity, local_variable, file_variable, function, given, entity_of, base_type, pointers, named_type, base_in}
use Rattle.qs_types.specs.Expressions.{type_of, type_or_void, cast_judged}
use Rattle.qs_types.specs.Referents.{referent, referent_of}
use Rattle.qs_meaning.specs.Typed.{pointer_to, object}
use Rattle.qs_meaning.specs.Conversions.{scalar_of}
use Rattle.qs_meaning.specs.Forms.{Form, lvalue, call, TypedExpr}
use Rattle.qs_meaning.specs.Names.{Scope, Designator as Designated, local_lvalue, file_variable_object, text_object, entity_lvalue, name_lvalue, entity_designated, designated, function_number}
use Rattle.qs_meaning.specs.Expressions.{text_form, name_form, arguments_of, subscript_form, member_form, step_form, unary_form, size_form, cast_form, binary_form, conditional_form, assign_form, comma_form, typed, form_of, all_typed}
use Rattle.qs_typed_nodes.specs.Known.{Known, at_number, referent_lvalue, name_known, text_known, named_known, named_size_known, Designator, designated_by, with_conversion, with_argument, known, form_known, type_known, arguments_known}
use Rattle.qs_typed_nodes.specs.Agrees.{Keeps, NodesKnown, PartsKnown, AllKnown, Agrees, GivenAreGiven}
use Rattle.qs_typed_nodes.proofs.KeptAgreement.{nothing, kept, kept_by, then_kept, is_kept, equal_kept}
use Rattle.qs_typed.proofs.UnitStructs.{size_form_kept, subscript_kept, binary_kept, member_kept, assign_kept, step_kept}

-- ---- names

lvalue_kept : (k : Known) (s : Scope) → Agrees k s → (x : List ℕ) (o : Option Entity) → Keeps (o >>= entity_lvalue s) (referent x o >>= referent_lvalue k)
lvalue_kept k s g x None = λ y e. e
lvalue_kept k s g x (Some (local_variable node t)) = λ y e. ap (λ l. Some (local_lvalue l node)) g.locals ∙ e
lvalue_kept k s g x (Some (file_variable node t)) = λ y e. ap (λ l. Some (object (pointer_to (file_variable_object l node)))) g.statics ∙ e
lvalue_kept k s g x (Some (function node signature body)) = λ y e. nothing y e
lvalue_kept k s g x (Some (given signature)) = λ y e. nothing y e

name_kept : (k : Known) (s : Scope) → Agrees k s → (node : ℕ) (x : List ℕ) → at_number k.referents node ≡ referent x (entity_of s.context x) → Keeps (name_form s x) (name_known k node)
name_kept k s g node x h =
    kept (name_lvalue s x) (at_number k.referents node >>= referent_lvalue k) (λ l. Some (lvalue l)) (λ l. Some (lvalue l))
    (λ y e. ap (λ o. o >>= referent_lvalue k) h ∙ lvalue_kept k s g x (entity_of s.context x) y e) (λ l. is_kept (Some (lvalue l)))

text_kept : (k : Known) (s : Scope) → Agrees k s → (node : Node) → Keeps (Some (text_form s node)) (Some (text_known k node.id))
text_kept k s g node = λ y e. ap (λ t. Some (lvalue (object (pointer_to (text_object t node.id))))) g.statics ∙ e

-- ---- types by name

named_kept : (k : Known) (s : Scope) → Agrees k s → (n : TypeName) → Keeps (named_type s.context n) (named_known k n)
named_kept k s g n =
    then_kept (base_type s.context n.base) (base_in k.type_names n.base) (λ t. Some (pointers n.stars t)) (λ t. Some (pointers n.stars t)) (g.bases n.base)
    (λ t. is_kept (Some (pointers n.stars t)))

named_size_kept : (k : Known) (s : Scope) → Agrees k s → (n : TypeName) → Keeps (named_type s.context n >>= size_form s.context.structs) (named_size_known k n)
named_size_kept k s g n =
    kept (named_type s.context n) (named_known k n) (size_form s.context.structs) (size_form k.structs) (named_kept k s g n) (size_form_kept s.context.structs k.structs g.structs)

-- the type of a cast is the one that it names
unless_is : (b : Bool) (t u : TypeTree) → (if b then None else Some t) ≡ Some u → t ≡ u
unless_is true t u e = nothing u e
unless_is false t u e = same_Some t u e

cast_type : (c : Context) (node : Node) (n : TypeName) (a : ExprTree) (t u : TypeTree) → named_type c n ≡ Some t → type_of c (expr node (trees.cast n a)) ≡ Some u → u ≡ t
cast_type c node n a t u p q = go (type_of c a) q
  where
    go : (o : Option TypeTree) → and_then (and_then o (λ v. Some (cast_judged c n a (decayed v)))) (λ j. type_unless j.tests j.type) ≡ Some u → u ≡ t
    go None e = nothing u e
    go (Some v) e =
        sym (unless_is (breaks_one (cast_judged c n a (decayed v)).tests) (type_or_void (named_type c n)) u e) ∙ ap type_or_void p

-- ---- calls

-- what is called, and the scalar types of its parameters
abbrev in_scalars : Designated → Designator
in_scalars d = record { callee = d.callee; parameters = map scalar_of d.parameters }

abbrev function_designator : (names : List (List ℕ)) → (x : List ℕ) → List Scalar → Option Designator
function_designator names x ps = Some (record { callee = callees.Function (record { 0 = function_number x names }); parameters = ps })

abbrev given_designator : Callee → Signature → Option Designator
given_designator callee f = Some (in_scalars (record { callee = callee; parameters = f.parameters }))

given_is : (k : Known) (x : List ℕ) (b : Bool) (f : Signature) → f ≡ (if b then putchar_type else getchar_type)
    → designated_by k x (if b then referents.PutChar else referents.GetChar) ≡ given_designator (if b then callees.PutChar else callees.GetChar) f
given_is k x true f e = ap (given_designator callees.PutChar) (sym e)
given_is k x false f e = ap (given_designator callees.GetChar) (sym e)

designated_kept : (k : Known) (s : Scope) → Agrees k s → GivenAreGiven s → (x : List ℕ) (o : Option Entity) → entity_of s.context x ≡ o → (d : Designated)
    → (o >>= entity_designated s x) ≡ Some d → (referent x o >>= designated_by k x) ≡ Some (in_scalars d)
designated_kept k s g h x None p d e = nothing d e
designated_kept k s g h x (Some (local_variable node t)) p d e = nothing d e
designated_kept k s g h x (Some (file_variable node t)) p d e = nothing d e
designated_kept k s g h x (Some (function node None body)) p d e = nothing d e
designated_kept k s g h x (Some (function node (Some f) body)) p d e =
    ap (λ o. o >>= function_designator k.functions x) (g.headers x node f body p)
    ∙ ap (λ names. function_designator names x (map scalar_of f.parameters)) g.functions
    ∙ ap (λ d. Some (in_scalars d)) (same_Some _ d e)
designated_kept k s g h x (Some (given f)) p d e = given_is k x (same_bytes x putchar_name) f (h x f p) ∙ ap (λ d. Some (in_scalars d)) (same_Some _ d e)

-- the arguments of a call, where the first one and the others are kept
argument_kept : (k : Known) (s : Scope) (e : ExprTree) (es : Exprs) → Keeps (typed s e) (known k e)
    → ((ts : List TypeTree) (rest : List TypedExpr) → all_typed s es ≡ Some rest → Keeps (arguments_of ts rest) (arguments_known k (map scalar_of ts) es))
    → (ts : List TypeTree) (a : TypedExpr) (rest : List TypedExpr) → typed s e ≡ Some a → all_typed s es ≡ Some rest
    → Keeps (arguments_of ts (a ∷ rest)) (arguments_known k (map scalar_of ts) (expr_and e es))
argument_kept k s e es first others [] a rest q r = λ x f. f
argument_kept k s e es first others (t ∷ ts) a rest q r =
    λ x f. ap (λ o. o >>= λ a. arguments_known k (map scalar_of ts) es >>= λ later. Some (with_argument (with_conversion (scalar_of t) a) later)) (first a q)
    ∙ kept (arguments_of ts rest) (arguments_known k (map scalar_of ts) es) (λ later. Some (with_argument (with_conversion (scalar_of t) a) later))
    (λ later. Some (with_argument (with_conversion (scalar_of t) a) later)) (others ts rest r)
    (λ later. is_kept (Some (with_argument (with_conversion (scalar_of t) a) later))) x f

more_kept : (k : Known) (s : Scope) (e : ExprTree) (es : Exprs) → Keeps (typed s e) (known k e)
    → ((ts : List TypeTree) (rest : List TypedExpr) → all_typed s es ≡ Some rest → Keeps (arguments_of ts rest) (arguments_known k (map scalar_of ts) es))
    → (ts : List TypeTree) (args : List TypedExpr) (o : Option TypedExpr) → typed s e ≡ o → (rest : Option (List TypedExpr)) → all_typed s es ≡ rest
    → (o >>= λ a. rest >>= λ rest. Some (a ∷ rest)) ≡ Some args → Keeps (arguments_of ts args) (arguments_known k (map scalar_of ts) (expr_and e es))
more_kept k s e es first others ts args None q rest r f = nothing args f
more_kept k s e es first others ts args (Some a) q None r f = nothing args f
more_kept k s e es first others ts args (Some a) q (Some rest) r f =
    λ x i. argument_kept k s e es first others ts a rest q r x (ap (arguments_of ts) (same_Some (a ∷ rest) args f) ∙ i)

no_more_kept : (k : Known) (ts : List TypeTree) (args : List TypedExpr) → [] ≡ args → Keeps (arguments_of ts args) (arguments_known k (map scalar_of ts) no_exprs)
no_more_kept k [] args e = λ x f. ap (arguments_of []) e ∙ f
no_more_kept k (t ∷ ts) args e = λ x f. ap (arguments_of (t ∷ ts)) e ∙ f

abbrev called : Known → Exprs → Designator → Option Form
called k es d = arguments_known k d.parameters es >>= λ converted. Some (call d.callee converted)

called_kept : (k : Known) (s : Scope) → Agrees k s → GivenAreGiven s → (node : ℕ) (f : List ℕ) (es : Exprs) → at_number k.referents node ≡ referent f (entity_of s.context f)
    → ((ts : List TypeTree) (args : List TypedExpr) → all_typed s es ≡ Some args → Keeps (arguments_of ts args) (arguments_known k (map scalar_of ts) es))
    → (args : Option (List TypedExpr)) → all_typed s es ≡ args → (d : Option Designated) → designated s f ≡ d
    → Keeps (args >>= λ args. d >>= λ (d : Designated). arguments_of d.parameters args >>= λ converted. Some (call d.callee converted)) (form_known k node (trees.call f es))
called_kept k s g h node f es r others None p d q = λ x e. nothing x e
called_kept k s g h node f es r others (Some args) p None q = λ x e. nothing x e
called_kept k s g h node f es r others (Some args) p (Some d) q =
    λ x e. ap (λ o. o >>= called k es) (ap (λ o. o >>= designated_by k f) r ∙ designated_kept k s g h f (entity_of s.context f) refl d q)
    ∙ kept (arguments_of d.parameters args) (arguments_known k (map scalar_of d.parameters) es) (λ converted. Some (call d.callee converted)) (λ converted. Some (call d.callee converted))
    (others d.parameters args p) (λ converted. is_kept (Some (call d.callee converted))) x e

-- ---- expressions

abbrev as_typed : TypeTree → Form → Option TypedExpr
as_typed t form = Some (record { type = t; form = form })

abbrev with_form : Scope → Node → ShapeTree → TypeTree → Option TypedExpr
with_form s node shape t = form_of s node shape >>= as_typed t

abbrev with_known : Known → Node → ShapeTree → TypeTree → Option TypedExpr
with_known k node shape t = form_known k node.id shape >>= as_typed t

mutual
  pub typed_kept : (k : Known) (s : Scope) → Agrees k s → GivenAreGiven s → (e : ExprTree) → NodesKnown k s.context e → Keeps (typed s e) (known k e)
  typed_kept k s g h (expr node shape) n =
      kept_by (type_of s.context (expr node shape)) (at_number k.types node.id) (with_form s node shape) (with_known k node shape) (equal_kept (type_of s.context (expr node shape)) (at_number k.types node.id) n.0)
      (λ t p. kept (form_of s node shape) (form_known k node.id shape) (as_typed t) (as_typed t) (form_kept k s g h node shape t p (n.0 ∙ p) n.1.0 n.1.1) (λ form. is_kept (as_typed t form)))

  form_kept : (k : Known) (s : Scope) → Agrees k s → GivenAreGiven s → (node : Node) (shape : ShapeTree) (t : TypeTree) → type_of s.context (expr node shape) ≡ Some t
      → at_number k.types node.id ≡ Some t → at_number k.referents node.id ≡ referent_of s.context (expr node shape) → PartsKnown k s.context shape
      → Keeps (form_of s node shape) (form_known k node.id shape)
  form_kept k s g h node (trees.constant n u) t p q r parts = λ x e. e
  form_kept k s g h node (trees.text bytes) t p q r parts = text_kept k s g node
  form_kept k s g h node (trees.name x) t p q r parts = name_kept k s g node.id x r
  form_kept k s g h node (trees.subscript a b) t p q r parts =
      kept (typed s a) (known k a) (λ a. typed s b >>= subscript_form s.context.structs a) (λ a. known k b >>= subscript_form k.structs a) (typed_kept k s g h a parts.0)
      (λ a. kept (typed s b) (known k b) (subscript_form s.context.structs a) (subscript_form k.structs a) (typed_kept k s g h b parts.1)
      (λ b. subscript_kept s.context.structs k.structs g.structs a b))
  form_kept k s g h node (trees.call f es) t p q r parts =
      called_kept k s g h node.id f es r (λ ts args p. arguments_kept k s g h ts es parts args p) (all_typed s es) refl (designated s f) refl
  form_kept k s g h node (trees.member access a x) t p q r parts =
      kept (typed s a) (known k a) (λ a. member_form s.context.structs access a x) (λ a. member_form k.structs access a x) (typed_kept k s g h a parts) (λ a. member_kept s.context.structs k.structs g.structs access a x)
  form_kept k s g h node (trees.step operator a) t p q r parts =
      kept (typed s a) (known k a) (step_form s.context.structs operator) (step_form k.structs operator) (typed_kept k s g h a parts) (λ a. step_kept s.context.structs k.structs g.structs operator a)
  form_kept k s g h node (trees.unary operator a) t p q r parts =
      kept (typed s a) (known k a) (unary_form operator) (unary_form operator) (typed_kept k s g h a parts) (λ a. is_kept (unary_form operator a))
  form_kept k s g h node (trees.sizeof_expr a) t p q r parts =
      kept (type_of s.context a) (type_known k a) (size_form s.context.structs) (size_form k.structs) (type_kept k s.context a parts) (size_form_kept s.context.structs k.structs g.structs)
  form_kept k s g h node (trees.sizeof_type name) t p q r parts = named_size_kept k s g name
  form_kept k s g h node (trees.cast name a) t p q r parts =
      kept_by (named_type s.context name) (at_number k.types node.id) (λ u. typed s a >>= λ a. Some (cast_form u a)) (λ u. known k a >>= λ a. Some (cast_form u a))
      (λ u e. q ∙ ap Some (cast_type s.context node name a u t e p))
      (λ u e. kept (typed s a) (known k a) (λ a. Some (cast_form u a)) (λ a. Some (cast_form u a)) (typed_kept k s g h a parts) (λ a. is_kept (Some (cast_form u a))))
  form_kept k s g h node (trees.binary operator a b) t p q r parts =
      kept (typed s a) (known k a) (λ a. typed s b >>= binary_form s.context.structs operator a) (λ a. known k b >>= binary_form k.structs operator a) (typed_kept k s g h a parts.0)
      (λ a. kept (typed s b) (known k b) (binary_form s.context.structs operator a) (binary_form k.structs operator a) (typed_kept k s g h b parts.1)
      (λ b. binary_kept s.context.structs k.structs g.structs operator a b))
  form_kept k s g h node (trees.conditional c a b) t p q r parts =
      kept (typed s c) (known k c) (λ c. typed s a >>= λ a. typed s b >>= λ b. Some (conditional_form c a b)) (λ c. known k a >>= λ a. known k b >>= λ b. Some (conditional_form c a b))
      (typed_kept k s g h c parts.0)
      (λ c. kept (typed s a) (known k a) (λ a. typed s b >>= λ b. Some (conditional_form c a b)) (λ a. known k b >>= λ b. Some (conditional_form c a b)) (typed_kept k s g h a parts.1.0)
      (λ a. kept (typed s b) (known k b) (λ b. Some (conditional_form c a b)) (λ b. Some (conditional_form c a b)) (typed_kept k s g h b parts.1.1)
      (λ b. is_kept (Some (conditional_form c a b)))))
  form_kept k s g h node (trees.assign operator a b) t p q r parts =
      kept (typed s a) (known k a) (λ a. typed s b >>= assign_form s.context.structs operator a) (λ a. known k b >>= assign_form k.structs operator a) (typed_kept k s g h a parts.0)
      (λ a. kept (typed s b) (known k b) (assign_form s.context.structs operator a) (assign_form k.structs operator a) (typed_kept k s g h b parts.1)
      (λ b. assign_kept s.context.structs k.structs g.structs operator a b))
  form_kept k s g h node (trees.comma a b) t p q r parts =
      kept (typed s a) (known k a) (λ a. typed s b >>= λ b. Some (comma_form a b)) (λ a. known k b >>= λ b. Some (comma_form a b)) (typed_kept k s g h a parts.0)
      (λ a. kept (typed s b) (known k b) (λ b. Some (comma_form a b)) (λ b. Some (comma_form a b)) (typed_kept k s g h b parts.1) (λ b. is_kept (Some (comma_form a b))))

  type_kept : (k : Known) (c : Context) (e : ExprTree) → NodesKnown k c e → Keeps (type_of c e) (type_known k e)
  type_kept k c (expr node shape) n = equal_kept (type_of c (expr node shape)) (at_number k.types node.id) n.0

  arguments_kept : (k : Known) (s : Scope) → Agrees k s → GivenAreGiven s → (ts : List TypeTree) (es : Exprs) → AllKnown k s.context es → (args : List TypedExpr) → all_typed s es ≡ Some args
      → Keeps (arguments_of ts args) (arguments_known k (map scalar_of ts) es)
  arguments_kept k s g h ts no_exprs parts args p = no_more_kept k ts args (same_Some [] args p)
  arguments_kept k s g h ts (expr_and e es) parts args p =
      more_kept k s e es (typed_kept k s g h e parts.0) (λ ts rest r. arguments_kept k s g h ts es parts.1 rest r) ts args (typed s e) refl (all_typed s es) refl p
