-- The constants, texts and called functions in an expression, and what is known of them and of the names that it uses.
use Rattle.std.proofs.Common.{◌≡◌, ℕ, ◌+◌, ◌^◌, nat_lt, nat_le, Bool, true, false, ◌&&◌, List, [], ◌∷◌, ◌++◌, map, length, Option, Some, None, refl, subst, if◌then◌else◌}
use Rattle.std.specs.List.{list_all}
use Rattle.std.proofs.lemmas.Bool.{and_from}
use Rattle.std.specs.Cmp.{first_so, second_so}
use Rattle.std.proofs.lemmas.Option.{same_Some}
use Rattle.qs_base.specs.Bytes.{same_bytes}
use Rattle.qs_base.proofs.ByteLaws.{bytes_exact}
use Rattle.qs_syntax.specs.Trees.{ExprTree, expr, ShapeTree, Exprs, no_exprs, expr_and}
use Rattle.qs_syntax.specs.Trees as trees
use Rattle.qs_calls.specs.declared.callee.Callee.TheVariants.{Function, PutChar, GetChar}
use Rattle.qs_calls.specs.Starts.{Interface, signature_of}
use Rattle.qs_calls.specs.Starts as starts
use Rattle.qs_types.specs.Types.{TypeTree, Structs}
use Rattle.qs_types.specs.Layout.{size_limit}
use Rattle.qs_types.specs.GivenFunctions.{Signature, putchar_name}
use Rattle.qs_types.specs.Contexts.{Entity, local_variable, file_variable, function, given, Binding, Context, lookup}
use Rattle.qs_types.specs.References.{TextBlock, expr_calls, exprs_calls, shape_calls, expr_texts, exprs_texts, shape_texts}
use Rattle.qs_meaning.specs.Typed as typed_trees
use Rattle.qs_meaning.specs.Conversions.{scalar_of}
use Rattle.qs_meaning.specs.Names.{Locals, Statics, Scope, local_lvalue, file_variable_object, function_number}
use Rattle.qs_meaning.specs.Units.{result_scalar}
use Rattle.qs_meaning.specs.Fits.{lvalue_fits, object_there}
use Rattle.qs_meaning.specs.FitLaws.{literals_fit, shape_literals_fit, all_literals_fit}
use Rattle.qs_meaning.proofs.Options.{all_left, all_right, nothing, Known}
use Rattle.qs_meaning.proofs.FaultlessExpressions.{HasTypes}
use Rattle.qs_meaning.proofs.FitTypes.{is_small}

-- ---- leaves

-- constants are words, the texts are such ones, and so are the functions that are called
abbrev mutual
  pub is_sure : (called : List ℕ → Bool) → (there : TextBlock → Bool) → ExprTree → Bool
  is_sure called there (expr node shape) = shape_sure called there node.id shape

  pub shape_sure : (List ℕ → Bool) → (TextBlock → Bool) → ℕ → ShapeTree → Bool
  shape_sure called there id (trees.constant n u) = nat_lt n (2 ^ 32)
  shape_sure called there id (trees.text bytes) = there (record { node = id; bytes = bytes })
  shape_sure called there id (trees.name x) = true
  shape_sure called there id (trees.unary operator a) = is_sure called there a
  shape_sure called there id (trees.step operator a) = is_sure called there a
  shape_sure called there id (trees.cast name a) = is_sure called there a
  shape_sure called there id (trees.sizeof_type name) = true
  shape_sure called there id (trees.sizeof_expr a) = is_sure called there a
  shape_sure called there id (trees.binary operator a b) = is_sure called there a && is_sure called there b
  shape_sure called there id (trees.assign operator a b) = is_sure called there a && is_sure called there b
  shape_sure called there id (trees.conditional c a b) = is_sure called there c && (is_sure called there a && is_sure called there b)
  shape_sure called there id (trees.comma a b) = is_sure called there a && is_sure called there b
  shape_sure called there id (trees.subscript a b) = is_sure called there a && is_sure called there b
  shape_sure called there id (trees.member access a x) = is_sure called there a
  shape_sure called there id (trees.call f es) = called f && all_sure called there es

  pub all_sure : (List ℕ → Bool) → (TextBlock → Bool) → Exprs → Bool
  all_sure called there no_exprs = true
  all_sure called there (expr_and e es) = is_sure called there e && all_sure called there es

module _ (called : List ℕ → Bool) (there : TextBlock → Bool) where
  abbrev Sure : ExprTree → Type 0
  Sure e = literals_fit e ≡ true → list_all called (expr_calls e) ≡ true → list_all there (expr_texts e) ≡ true → is_sure called there e ≡ true

  two : (a b : ExprTree) → Sure a → Sure b
      → (literals_fit a && literals_fit b) ≡ true → list_all called (expr_calls a ++ expr_calls b) ≡ true → list_all there (expr_texts a ++ expr_texts b) ≡ true
      → (is_sure called there a && is_sure called there b) ≡ true
  two a b first second w c t =
      and_from _ _ (first (first_so _ _ w) (all_left called (expr_calls a) (expr_calls b) c) (all_left there (expr_texts a) (expr_texts b) t))
      (second (second_so (literals_fit a) _ w) (all_right called (expr_calls a) (expr_calls b) c) (all_right there (expr_texts a) (expr_texts b) t))

  mutual
    pub sure_by : (e : ExprTree) → literals_fit e ≡ true → list_all called (expr_calls e) ≡ true → list_all there (expr_texts e) ≡ true → is_sure called there e ≡ true
    sure_by (expr node shape) w c t = shape_sure_by node.id shape w c t

    shape_sure_by : (id : ℕ) (shape : ShapeTree) → shape_literals_fit shape ≡ true → list_all called (shape_calls shape) ≡ true → list_all there (shape_texts id shape) ≡ true
        → shape_sure called there id shape ≡ true
    shape_sure_by id (trees.constant n u) w c t = w
    shape_sure_by id (trees.text bytes) w c t = first_so _ _ t
    shape_sure_by id (trees.name x) w c t = refl
    shape_sure_by id (trees.unary operator a) w c t = sure_by a w c t
    shape_sure_by id (trees.step operator a) w c t = sure_by a w c t
    shape_sure_by id (trees.cast name a) w c t = sure_by a w c t
    shape_sure_by id (trees.sizeof_type name) w c t = refl
    shape_sure_by id (trees.sizeof_expr a) w c t = sure_by a w c t
    shape_sure_by id (trees.binary operator a b) w c t = two a b (λ w c t. sure_by a w c t) (λ w c t. sure_by b w c t) w c t
    shape_sure_by id (trees.assign operator a b) w c t = two a b (λ w c t. sure_by a w c t) (λ w c t. sure_by b w c t) w c t
    shape_sure_by id (trees.conditional d a b) w c t =
        and_from _ _ (sure_by d (first_so _ _ w) (all_left called (expr_calls d) _ c) (all_left there (expr_texts d) _ t))
        (two a b (λ w c t. sure_by a w c t) (λ w c t. sure_by b w c t) (second_so (literals_fit d) _ w) (all_right called (expr_calls d) _ c) (all_right there (expr_texts d) _ t))
    shape_sure_by id (trees.comma a b) w c t = two a b (λ w c t. sure_by a w c t) (λ w c t. sure_by b w c t) w c t
    shape_sure_by id (trees.subscript a b) w c t = two a b (λ w c t. sure_by a w c t) (λ w c t. sure_by b w c t) w c t
    shape_sure_by id (trees.member access a x) w c t = sure_by a w c t
    shape_sure_by id (trees.call f es) w c t = and_from _ _ (first_so _ _ c) (all_sure_by es w (second_so (called f) _ c) t)

    all_sure_by : (es : Exprs) → all_literals_fit es ≡ true → list_all called (exprs_calls es) ≡ true → list_all there (exprs_texts es) ≡ true → all_sure called there es ≡ true
    all_sure_by no_exprs w c t = refl
    all_sure_by (expr_and e es) w c t =
        and_from _ _ (sure_by e (first_so _ _ w) (all_left called (expr_calls e) (exprs_calls es) c) (all_left there (expr_texts e) (exprs_texts es) t))
        (all_sure_by es (second_so (literals_fit e) _ w) (all_right called (expr_calls e) (exprs_calls es) c) (all_right there (expr_texts e) (exprs_texts es) t))

-- a text that is no longer than an object may be
abbrev pub is_short : TextBlock → Bool
is_short t = nat_le (length t.bytes + 1) size_limit

-- ---- names

-- where the variables and the functions of a scope are
pub record Places : Type 0 where
  pub locals : Locals
  pub statics : Statics
  pub functions : List (List ℕ)

abbrev pub places : Scope → Places
places s = record { locals = s.locals; statics = s.statics; functions = s.functions }

-- the signature of a function as runs see it
abbrev pub scalar_signature : Signature → starts.Signature
scalar_signature s = record { parameters = map scalar_of s.parameters; result_type = result_scalar (Some s.result) }

-- what is known of a name in a function: the types are small, locals are among those of the function, variables of file scope among the
-- unit's blocks, and functions that are called among the unit's functions, with their types
abbrev pub EntityFits : Interface → typed_trees.Function → (called : List ℕ → Bool) → Places → Structs → List ℕ → Entity → Type 0
EntityFits i g called s structs x (local_variable node None) = ⊥
EntityFits i g called s structs x (local_variable node (Some t)) = (lvalue_fits i g (scalar_of t) (local_lvalue s.locals node) ≡ true) × (is_small structs t ≡ true)
EntityFits i g called s structs x (file_variable node None) = ⊥
EntityFits i g called s structs x (file_variable node (Some t)) = (object_there i g (file_variable_object s.statics node) ≡ true) × (is_small structs t ≡ true)
EntityFits i g called s structs x (function node None body) = ⊥
EntityFits i g called s structs x (function node (Some signature) body) =
    (called x ≡ true → signature_of i (Function (record { 0 = function_number x s.functions })) ≡ Some (scalar_signature signature))
    × (is_small structs signature.result ≡ true)
EntityFits i g called s structs x (given signature) =
    (signature_of i (if same_bytes x putchar_name then PutChar else GetChar) ≡ Some (scalar_signature signature)) × (is_small structs signature.result ≡ true)

abbrev pub AllFit : Interface → typed_trees.Function → (called : List ℕ → Bool) → Places → Structs → List Binding → Type 0
AllFit i g called s structs [] = Unit {0}
AllFit i g called s structs (b ∷ bs) = EntityFits i g called s structs b.name b.entity × AllFit i g called s structs bs

module _ (i : Interface) (g : typed_trees.Function) (called : List ℕ → Bool) (s : Places) (structs : Structs) where
  pub entity_found : (bs : List Binding) (x : List ℕ) (e : Entity) → AllFit i g called s structs bs → lookup x bs ≡ Some e → EntityFits i g called s structs x e
  entity_found [] x e h p = nothing e p
  entity_found (b ∷ bs) x e h p = go (λ q. entity_found bs x e h.1 q) (same_bytes b.name x) refl p
    where
      go : (lookup x bs ≡ Some e → EntityFits i g called s structs x e) → (c : Bool) → same_bytes b.name x ≡ c → (if c then Some b.entity else lookup x bs) ≡ Some e
          → EntityFits i g called s structs x e
      go later true h' p =
          subst (λ z. EntityFits i g called s structs x z) (same_Some _ _ p)
          (subst (λ z. EntityFits i g called s structs z b.entity) ((bytes_exact b.name x).0 h') h.0)
      go later false h' p = later p

  pub names_typed : (c : Context) → AllFit i g called s structs (c.inner ++ c.outer) → HasTypes c
  names_typed c all = record {
    locals = λ x node t e. local_known x node t (entity_found (c.inner ++ c.outer) x (local_variable node t) all e);
    files = λ x node t e. file_known x node t (entity_found (c.inner ++ c.outer) x (file_variable node t) all e);
    functions = λ x node o body e. function_known x node body o (entity_found (c.inner ++ c.outer) x (function node o body) all e);
  }
    where
      local_known : (x : List ℕ) (node : ℕ) (t : Option TypeTree) → EntityFits i g called s structs x (local_variable node t) → Known t
      local_known x node None h = absurd h
      local_known x node (Some t) h = record { value = t; is = refl }

      file_known : (x : List ℕ) (node : ℕ) (t : Option TypeTree) → EntityFits i g called s structs x (file_variable node t) → Known t
      file_known x node None h = absurd h
      file_known x node (Some t) h = record { value = t; is = refl }

      function_known : (x : List ℕ) (node : ℕ) (body : Bool) (o : Option Signature) → EntityFits i g called s structs x (function node o body) → Known o
      function_known x node body None h = absurd h
      function_known x node body (Some o) h = record { value = o; is = refl }
