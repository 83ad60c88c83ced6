-- What holds of all names where an expression of a body stands, and that the expression then has a typed tree.
use Rattle.std.proofs.Common.{◌≡◌, ℕ, Bool, true, false, not, ◌&&◌, ◌||◌, List, [], ◌∷◌, ◌++◌, Option, Some, None, refl, ap, ◌∙◌, subst, if◌then◌else◌}
use Rattle.std.specs.List.{list_all}
use Rattle.std.proofs.lemmas.List.Folds.{list_all-append}
use Rattle.std.specs.Cmp.{first_so, second_so}
use Rattle.std.proofs.lemmas.Option.{same_Some}
use Rattle.qs_base.specs.Bytes.{same_bytes}
use Rattle.qs_syntax_vocabulary.specs.declared.operators.UnaryOperator.{UnaryOperator}
use Rattle.qs_syntax_vocabulary.specs.declared.operators.UnaryOperator.TheVariants as unaries
use Rattle.qs_syntax.specs.Trees.{ExprTree, expr, ShapeTree, Exprs, no_exprs, expr_and}
use Rattle.qs_syntax.specs.Trees as trees
use Rattle.qs_types.specs.Types.{TypeTree, Structs, is_scalar}
use Rattle.qs_types.specs.Layout.{is_complete}
use Rattle.qs_types.specs.GivenFunctions.{Signature}
use Rattle.qs_types.specs.Contexts.{Entity, local_variable, file_variable, function, given, Binding, lookup, entity_of}
use Rattle.qs_types.specs.Expressions.{type_of}
use Rattle.qs_types.specs.ExpressionFaults.{Position, expr_faults}
use Rattle.qs_types.specs.Placed.{is_one_of, local_node, named_local, operand_of, addressed, shape_addressed, all_addressed}
use Rattle.qs_meaning.specs.Names.{Scope}
use Rattle.qs_meaning.specs.Expressions.{typed}
use Rattle.qs_meaning.specs.TypedLaws.{IsReady, are_placed}
use Rattle.qs_meaning.proofs.Options.{never, nothing, Known}
use Rattle.qs_meaning.proofs.CompleteTypes.{LaidOut, MembersComplete}
use Rattle.qs_meaning.proofs.FaultlessExpressions.{HasTypes, type_of_known}
use Rattle.qs_meaning.proofs.TypedExpressions.{TypedBy, expression_typed}

-- ---- names

-- a local: its type is complete, it is one of the function's, and placed where it is no scalar
pub record IsFine (structs : Structs) (declared placed : List ℕ) (node : ℕ) (t : TypeTree) : Type 0 where
  pub complete : is_complete structs t ≡ true
  pub is_declared : is_one_of node declared ≡ true
  pub large : is_scalar t ≡ false → is_one_of node placed ≡ true

abbrev pub EntityFine : Structs → (declared placed : List ℕ) → Entity → Type 0
EntityFine structs declared placed (local_variable node None) = ⊥
EntityFine structs declared placed (local_variable node (Some t)) = IsFine structs declared placed node t
EntityFine structs declared placed (file_variable node None) = ⊥
EntityFine structs declared placed (file_variable node (Some t)) = is_complete structs t ≡ true
EntityFine structs declared placed (function node None body) = ⊥
EntityFine structs declared placed (function node (Some signature) body) = Unit {0}
EntityFine structs declared placed (given signature) = Unit {0}

abbrev pub AllFine : Structs → (declared placed : List ℕ) → List Binding → Type 0
AllFine structs declared placed [] = Unit {0}
AllFine structs declared placed (b ∷ bs) = EntityFine structs declared placed b.entity × AllFine structs declared placed bs

-- a place in the body of a function that declares these locals
pub record Sound (s : Scope) (declared : List ℕ) : Type 0 where
  pub names : AllFine s.context.structs declared s.locals.placed (s.context.inner ++ s.context.outer)
  pub laid_out : LaidOut s.context.structs
  pub members : MembersComplete s.context.structs

-- the operands of `&` are placed, where they are locals of the function
abbrev pub are_taken : (declared placed : List ℕ) → List ℕ → Bool
are_taken declared placed nodes = list_all (λ n. not (is_one_of n declared) || is_one_of n placed) nodes

looked_up : (structs : Structs) (declared placed : List ℕ) (bs : List Binding) (x : List ℕ) (entity : Entity) → AllFine structs declared placed bs
    → lookup x bs ≡ Some entity → EntityFine structs declared placed entity
looked_up structs declared placed [] x entity fine e = nothing entity e
looked_up structs declared placed (b ∷ bs) x entity fine e = go (λ f. looked_up structs declared placed bs x entity fine.1 f) (same_bytes b.name x) e
  where
    go : (lookup x bs ≡ Some entity → EntityFine structs declared placed entity) → (c : Bool) → (if c then Some b.entity else lookup x bs) ≡ Some entity
        → EntityFine structs declared placed entity
    go later true e = subst (EntityFine structs declared placed) (same_Some _ _ e) fine.0
    go later false e = later e

module _ (s : Scope) (declared : List ℕ) (sound : Sound s declared) where
  fine_entity : (x : List ℕ) (entity : Entity) → entity_of s.context x ≡ Some entity → EntityFine s.context.structs declared s.locals.placed entity
  fine_entity x entity e = looked_up s.context.structs declared s.locals.placed (s.context.inner ++ s.context.outer) x entity sound.names e

  pub is_ready : IsReady s
  is_ready = record {
    placed = λ x node t e l. (fine_entity x (local_variable node (Some t)) e).large l;
    local_complete = λ x node t e. (fine_entity x (local_variable node (Some t)) e).complete;
    file_complete = λ x node t e. fine_entity x (file_variable node (Some t)) e;
    members = sound.members;
    laid_out = sound.laid_out;
  }

  pub has_types : HasTypes s.context
  has_types = record {
    locals = λ x node t e. local_known node t (fine_entity x (local_variable node t) e);
    files = λ x node t e. file_known node t (fine_entity x (file_variable node t) e);
    functions = λ x node o body e. function_known node body o (fine_entity x (function node o body) e);
  }
    where
      local_known : (node : ℕ) (t : Option TypeTree) → EntityFine s.context.structs declared s.locals.placed (local_variable node t) → Known t
      local_known node None e = absurd e
      local_known node (Some t) e = record { value = t; is = refl }

      file_known : (node : ℕ) (t : Option TypeTree) → EntityFine s.context.structs declared s.locals.placed (file_variable node t) → Known t
      file_known node None e = absurd e
      file_known node (Some t) e = record { value = t; is = refl }

      function_known : (node : ℕ) (body : Bool) (o : Option Signature) → EntityFine s.context.structs declared s.locals.placed (function node o body) → Known o
      function_known node body None e = absurd e
      function_known node body (Some o) e = record { value = o; is = refl }

  -- ---- operands of `&` are locals of the function

  abbrev are_declared : List ℕ → Bool
  are_declared nodes = list_all (λ n. is_one_of n declared) nodes

  both_declared : (xs ys : List ℕ) → are_declared xs ≡ true → are_declared ys ≡ true → are_declared (xs ++ ys) ≡ true
  both_declared xs ys e f = list_all-append (λ n. is_one_of n declared) xs ys ∙ both _ _ e f
    where
      both : (x y : Bool) → x ≡ true → y ≡ true → (x && y) ≡ true
      both true y e f = f
      both false y e f = e

  local_declared : (o : Option Entity) → ((entity : Entity) → o ≡ Some entity → EntityFine s.context.structs declared s.locals.placed entity) → are_declared
      (local_node o) ≡ true
  local_declared None fine = refl
  local_declared (Some (local_variable node None)) fine = absurd (fine (local_variable node None) refl)
  local_declared (Some (local_variable node (Some t))) fine = ap (λ b. b && true) (fine (local_variable node (Some t)) refl).is_declared
  local_declared (Some (file_variable node t)) fine = refl
  local_declared (Some (function node o body)) fine = refl
  local_declared (Some (given o)) fine = refl

  named_declared : (a : ExprTree) → are_declared (named_local s.context a) ≡ true
  named_declared (expr node (trees.name x)) = local_declared (entity_of s.context x) (fine_entity x)
  named_declared (expr node (trees.constant n u)) = refl
  named_declared (expr node (trees.text bytes)) = refl
  named_declared (expr node (trees.unary operator a)) = refl
  named_declared (expr node (trees.step operator a)) = refl
  named_declared (expr node (trees.cast n a)) = refl
  named_declared (expr node (trees.sizeof_type n)) = refl
  named_declared (expr node (trees.sizeof_expr a)) = refl
  named_declared (expr node (trees.binary operator a b)) = refl
  named_declared (expr node (trees.assign operator a b)) = refl
  named_declared (expr node (trees.conditional d a b)) = refl
  named_declared (expr node (trees.comma a b)) = refl
  named_declared (expr node (trees.subscript a b)) = refl
  named_declared (expr node (trees.member access a x)) = refl
  named_declared (expr node (trees.call f es)) = refl

  operand_declared : (operator : UnaryOperator) (nodes : List ℕ) → are_declared nodes ≡ true → are_declared (operand_of operator nodes) ≡ true
  operand_declared unaries.Address nodes e = e
  operand_declared unaries.Indirect nodes e = refl
  operand_declared unaries.Plus nodes e = refl
  operand_declared unaries.Minus nodes e = refl
  operand_declared unaries.Complement nodes e = refl
  operand_declared unaries.Not nodes e = refl

  mutual
    addressed_declared : (e : ExprTree) → are_declared (addressed s.context e) ≡ true
    addressed_declared (expr node shape) = shape_declared shape

    shape_declared : (shape : ShapeTree) → are_declared (shape_addressed s.context shape) ≡ true
    shape_declared (trees.constant n u) = refl
    shape_declared (trees.text bytes) = refl
    shape_declared (trees.name x) = refl
    shape_declared (trees.unary operator a) =
        both_declared (operand_of operator (named_local s.context a)) (addressed s.context a) (operand_declared operator (named_local s.context a) (named_declared a))
        (addressed_declared a)
    shape_declared (trees.step operator a) = addressed_declared a
    shape_declared (trees.cast n a) = addressed_declared a
    shape_declared (trees.sizeof_type n) = refl
    shape_declared (trees.sizeof_expr a) = addressed_declared a
    shape_declared (trees.binary operator a b) = both_declared (addressed s.context a) (addressed s.context b) (addressed_declared a) (addressed_declared b)
    shape_declared (trees.assign operator a b) = both_declared (addressed s.context a) (addressed s.context b) (addressed_declared a) (addressed_declared b)
    shape_declared (trees.conditional d a b) =
        both_declared (addressed s.context d) (addressed s.context a ++ addressed s.context b) (addressed_declared d)
        (both_declared (addressed s.context a) (addressed s.context b) (addressed_declared a) (addressed_declared b))
    shape_declared (trees.comma a b) = both_declared (addressed s.context a) (addressed s.context b) (addressed_declared a) (addressed_declared b)
    shape_declared (trees.subscript a b) = both_declared (addressed s.context a) (addressed s.context b) (addressed_declared a) (addressed_declared b)
    shape_declared (trees.member access a x) = addressed_declared a
    shape_declared (trees.call f es) = all_declared es

    all_declared : (es : Exprs) → are_declared (all_addressed s.context es) ≡ true
    all_declared no_exprs = refl
    all_declared (expr_and e es) = both_declared (addressed s.context e) (all_addressed s.context es) (addressed_declared e) (all_declared es)

  taken_placed : (nodes : List ℕ) → are_declared nodes ≡ true → are_taken declared s.locals.placed nodes ≡ true → are_placed s nodes ≡ true
  taken_placed [] e f = refl
  taken_placed (n ∷ ns) e f =
      both (is_one_of n declared) (is_one_of n s.locals.placed) (first_so _ _ e) (first_so _ _ f)
      (taken_placed ns (second_so (is_one_of n declared) _ e) (second_so (not (is_one_of n declared) || is_one_of n s.locals.placed) _ f))
    where
      both : (d p : Bool) {rest : Bool} → d ≡ true → (not d || p) ≡ true → rest ≡ true → (p && rest) ≡ true
      both true true e f g = g
      both true false e f g = never f
      both false p e f g = never e

  -- ---- expressions

  pub record Expressed (e : ExprTree) : Type 0 where
    pub type : TypeTree
    pub is : type_of s.context e ≡ Some type
    pub by : TypedBy s e type

  pub expressed : (e : ExprTree) (p : Position) → expr_faults s.context p e ≡ [] → are_taken declared s.locals.placed (addressed s.context e) ≡ true → Expressed e
  expressed e p h taken =
      let t = type_of_known s.context has_types e p h in
      record { type = t.value; is = t.is; by = expression_typed s is_ready e t.value (taken_placed (addressed s.context e) (addressed_declared e) taken) t.is }

  pub typed_known : (e : ExprTree) (p : Position) → expr_faults s.context p e ≡ [] → are_taken declared s.locals.placed (addressed s.context e) ≡ true → Known (typed s e)
  typed_known e p h taken = let x = expressed e p h taken in record { value = record { type = x.type; form = x.by.form }; is = x.by.is }
