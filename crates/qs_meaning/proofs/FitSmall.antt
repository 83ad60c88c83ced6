-- The types of expressions are small, where those of names, members and texts are.
use Rattle.std.proofs.Common.{◌≡◌, ◌≤◌, ℕ, zero, suc, ◌+◌, ◌*◌, nat_le, Bool, true, false, ◌&&◌, ◌||◌, List, [], length, Option, Some, None, is_some, refl, sym, subst, arith, if◌then◌else◌, le-leb}
use Rattle.std.proofs.lemmas.Bool.{and_from}
use Rattle.std.specs.Cmp.{first_so, second_so}
use Rattle.std.proofs.lemmas.Option.{same_Some}
use Rattle.qs_syntax.specs.declared.types.Base.{Base}
use Rattle.qs_syntax.specs.declared.types.Base.TheVariants as bases
use Rattle.qs_syntax_vocabulary.specs.declared.operators.UnaryOperator.{UnaryOperator}
use Rattle.qs_syntax_vocabulary.specs.declared.operators.UnaryOperator.TheVariants as unaries
use Rattle.qs_syntax_vocabulary.specs.declared.operators.BinaryOperator.{BinaryOperator}
use Rattle.qs_syntax_vocabulary.specs.declared.operators.BinaryOperator.TheVariants as binaries
use Rattle.qs_syntax_vocabulary.specs.declared.operators.AssignmentOperator.{AssignmentOperator}
use Rattle.qs_syntax_vocabulary.specs.declared.operators.AssignmentOperator.TheVariants as assigns
use Rattle.qs_syntax_vocabulary.specs.declared.operators.Access.{Access}
use Rattle.qs_syntax_vocabulary.specs.declared.operators.Access.TheVariants as accesses
use Rattle.qs_syntax.specs.Trees.{ExprTree, expr, ShapeTree, Exprs}
use Rattle.qs_syntax.specs.Trees as trees
use Rattle.qs_calls.specs.Starts.{Interface}
use Rattle.qs_types.specs.declared.extent.Extent.{Extent}
use Rattle.qs_types.specs.Types.{TypeTree, int, unsigned, char, array, struct, Structs, is_pointer, same_type, referenced}
use Rattle.qs_types.specs.Layout.{and_then, is_complete, size_limit}
use Rattle.qs_types.specs.Conversions.{decayed, promoted, arithmetic, common}
use Rattle.qs_types.specs.Rules.{keeps, type_unless}
use Rattle.qs_types.specs.declared.rules.Rule.TheVariants as rules
use Rattle.qs_types.specs.Contexts.{Entity, local_variable, file_variable, function, given, Context, entity_of, base_type, pointers, starred_type, TypeNames, place_of, type_in, base_in, starred}
use Rattle.qs_types.specs.Expressions.{Judged, judged, unary_judged, step_judged, cast_judged, type_or_void, sum_type, binary_judged, conditional_judged, assign_judged, subscript_judged, member_type, member_judged, name_judged, call_judged, type_of, shape_judged, types_of}
use Rattle.qs_types.specs.References.{TextBlock}
use Rattle.qs_meaning.specs.Typed.{Function}
use Rattle.qs_meaning.specs.Names.{Scope}
use Rattle.qs_meaning.proofs.Options.{never, nothing, went}
use Rattle.qs_meaning.proofs.TypedExpressions.{unless}
use Rattle.qs_meaning.proofs.FitTypes.{is_small, SmallTable, small_referenced, small_decayed, member_small, SmallNames}
use Rattle.qs_meaning.proofs.FitLeaves.{is_sure, shape_sure, is_short, places, EntityFits}

-- ---- named types

pub pointers_small : (structs : Structs) (stars : ℕ) (t : TypeTree) → is_small structs t ≡ true → is_small structs (pointers stars t) ≡ true
pointers_small structs zero t h = h
pointers_small structs (suc stars) t h = pointers_small structs stars t h

-- the type is small, where there is one
abbrev pub SmallOption : Structs → Option TypeTree → Type 0
SmallOption structs None = Unit {0}
SmallOption structs (Some t) = is_small structs t ≡ true

pub base_small : (structs : Structs) (names : TypeNames) → SmallNames structs names → (base : Base) → SmallOption structs (base_in names base)
base_small structs names named bases.Void = refl
base_small structs names named bases.Int = refl
base_small structs names named bases.Unsigned = refl
base_small structs names named bases.Char = refl
base_small structs names named (bases.Struct tag) = go (place_of tag names.tags)
  where
    go : (o : Option ℕ) → SmallOption structs (and_then o (λ k. Some (struct k)))
    go None = tt
    go (Some k) = refl
base_small structs names named (bases.Named x) = go (type_in x names) refl
  where
    go : (o : Option TypeTree) → type_in x names ≡ o → SmallOption structs o
    go None e = tt
    go (Some t) e = named.each x t e

pub stars_small : (structs : Structs) (base : Option TypeTree) (stars : ℕ) → SmallOption structs base → is_small structs (type_or_void (starred base stars)) ≡ true
stars_small structs None stars h = refl
stars_small structs (Some t) stars h = pointers_small structs stars t h

pub starred_small : (c : Context) → SmallNames c.structs c.type_names → (base : Base) (stars : ℕ) → is_small c.structs (type_or_void (starred_type c base stars)) ≡ true
starred_small c named base stars = stars_small c.structs (base_type c base) stars (base_small c.structs c.type_names named base)

-- ---- results of operators

module _ (structs : Structs) where
  one_of : (b : Bool) (t u : TypeTree) → is_small structs t ≡ true → is_small structs u ≡ true → is_small structs (if b then t else u) ≡ true
  one_of true t u h k = h
  one_of false t u h k = k

  promoted_small : (t : TypeTree) → is_small structs (promoted t) ≡ true
  promoted_small t = one_of (same_type t unsigned) unsigned int refl refl

  arithmetic_small : (t u : TypeTree) → is_small structs (arithmetic t u) ≡ true
  arithmetic_small t u = one_of (same_type t unsigned || same_type u unsigned) unsigned int refl refl

  pub common_small : (t u : TypeTree) → is_small structs t ≡ true → is_small structs u ≡ true → is_small structs (common t u) ≡ true
  common_small t u h k = one_of (is_pointer t) t _ h (one_of (is_pointer u) u _ k (arithmetic_small t u))

  unary_small : (operator : UnaryOperator) (a : ExprTree) (t : TypeTree) → is_small structs t ≡ true → is_small structs (unary_judged structs operator a t (decayed t)).type ≡ true
  unary_small unaries.Address a t h = h
  unary_small unaries.Indirect a t h = small_referenced structs (decayed t) (small_decayed structs t h)
  unary_small unaries.Plus a t h = promoted_small (decayed t)
  unary_small unaries.Minus a t h = promoted_small (decayed t)
  unary_small unaries.Complement a t h = promoted_small (decayed t)
  unary_small unaries.Not a t h = refl

  binary_small : (operator : BinaryOperator) (a b : ExprTree) (t u : TypeTree) → is_small structs t ≡ true → is_small structs u ≡ true
      → is_small structs (binary_judged structs operator a t b u).type ≡ true
  binary_small binaries.Multiply a b t u h k = arithmetic_small t u
  binary_small binaries.Divide a b t u h k = arithmetic_small t u
  binary_small binaries.Remainder a b t u h k = arithmetic_small t u
  binary_small binaries.Add a b t u h k = common_small t u h k
  binary_small binaries.Subtract a b t u h k = one_of (is_pointer t && is_pointer u) int _ refl (common_small t u h k)
  binary_small binaries.ShiftLeft a b t u h k = promoted_small t
  binary_small binaries.ShiftRight a b t u h k = promoted_small t
  binary_small binaries.Less a b t u h k = refl
  binary_small binaries.LessEqual a b t u h k = refl
  binary_small binaries.Greater a b t u h k = refl
  binary_small binaries.GreaterEqual a b t u h k = refl
  binary_small binaries.Equal a b t u h k = refl
  binary_small binaries.NotEqual a b t u h k = refl
  binary_small binaries.BitAnd a b t u h k = arithmetic_small t u
  binary_small binaries.BitXor a b t u h k = arithmetic_small t u
  binary_small binaries.BitOr a b t u h k = arithmetic_small t u
  binary_small binaries.And a b t u h k = refl
  binary_small binaries.Or a b t u h k = refl

  assign_small : (operator : AssignmentOperator) (a b : ExprTree) (t u : TypeTree) → is_small structs t ≡ true → is_small structs (assign_judged structs operator a t b u).type ≡ true
  assign_small assigns.Plain a b t u h = h
  assign_small assigns.Multiply a b t u h = h
  assign_small assigns.Divide a b t u h = h
  assign_small assigns.Remainder a b t u h = h
  assign_small assigns.Add a b t u h = h
  assign_small assigns.Subtract a b t u h = h
  assign_small assigns.ShiftLeft a b t u h = h
  assign_small assigns.ShiftRight a b t u h = h
  assign_small assigns.BitAnd a b t u h = h
  assign_small assigns.BitXor a b t u h = h
  assign_small assigns.BitOr a b t u h = h

  found_small : SmallTable structs → (t : TypeTree) (x : List ℕ) → is_small structs (type_or_void (member_type structs t x)) ≡ true
  found_small table t x = go (member_type structs t x) refl
    where
      go : (o : Option TypeTree) → member_type structs t x ≡ o → is_small structs (type_or_void o) ≡ true
      go None e = refl
      go (Some u) e = member_small structs table t u x e

  members_small : SmallTable structs → (access : Access) (a : ExprTree) (t : TypeTree) (x : List ℕ) → is_small structs (member_judged structs access a t x).type ≡ true
  members_small table accesses.Dot a t x = found_small table t x
  members_small table accesses.Arrow a t x = found_small table (referenced (decayed t)) x

  -- a text that is short is a small array
  pub chars_small : (n : ℕ) → nat_le n size_limit ≡ true → 1 ≤ n → is_small structs (array char n) ≡ true
  chars_small n h k = and_from _ _ (and_from _ _ (le-leb 1 n k) (sized (nat_le (1 * n) size_limit) (times n h))) refl
    where
      times : (n : ℕ) → nat_le n size_limit ≡ true → nat_le (1 * n) size_limit ≡ true
      times n h = let e : 1 * n ≡ n = omega arith in subst (λ z. nat_le z size_limit ≡ true) (sym e) h

      sized : (b : Bool) → b ≡ true → is_some {T = Extent} (if b then Some (record { size = 1 * n; alignment = 1 }) else None) ≡ true
      sized true e = refl
      sized false e = never e

-- ---- expressions

-- what holds of the names and structs where an expression stands
pub record Place (i : Interface) (g : Function) (called : List ℕ → Bool) (s : Scope) (c : Context) : Type 0 where
  pub entities : (x : List ℕ) (e : Entity) → entity_of c x ≡ Some e → EntityFits i g called (places s) c.structs x e
  pub table : SmallTable c.structs
  pub named : SmallNames c.structs c.type_names

module _ (i : Interface) (g : Function) (called : List ℕ → Bool) (there : TextBlock → Bool) (s : Scope) (c : Context) (place : Place i g called s c)
    (short : (t : TextBlock) → there t ≡ true → is_short t ≡ true) where
  abbrev Small : TypeTree → Type 0
  Small t = is_small c.structs t ≡ true

  small_at : (k j : Judged) → Some k ≡ Some j → Small k.type → Small j.type
  small_at k j e h = subst (λ (z : Judged). Small z.type) (same_Some k j e) h

  name_small : (x : List ℕ) (o : Option Entity) (j : Judged) → ((e : Entity) → o ≡ Some e → EntityFits i g called (places s) c.structs x e) → name_judged o ≡ Some j → Small j.type
  name_small x None j fit e = small_at _ j e refl
  name_small x (Some (local_variable node None)) j fit e = nothing j e
  name_small x (Some (local_variable node (Some t))) j fit e = small_at _ j e (fit (local_variable node (Some t)) refl).1
  name_small x (Some (file_variable node None)) j fit e = nothing j e
  name_small x (Some (file_variable node (Some t))) j fit e = small_at _ j e (fit (file_variable node (Some t)) refl).1
  name_small x (Some (function node signature body)) j fit e = small_at _ j e refl
  name_small x (Some (given signature)) j fit e = small_at _ j e refl

  call_small : (x : List ℕ) (o : Option Entity) (es : Exprs) (us : List TypeTree) (j : Judged) → ((e : Entity) → o ≡ Some e → EntityFits i g called (places s) c.structs x e)
      → call_judged o es us ≡ Some j → Small j.type
  call_small x None es us j fit e = small_at _ j e refl
  call_small x (Some (local_variable node t)) es us j fit e = small_at _ j e refl
  call_small x (Some (file_variable node t)) es us j fit e = small_at _ j e refl
  call_small x (Some (function node None body)) es us j fit e = nothing j e
  call_small x (Some (function node (Some signature) body)) es us j fit e = small_at _ j e (fit (function node (Some signature) body) refl).1
  call_small x (Some (given signature)) es us j fit e = small_at _ j e (fit (given signature) refl).1

  mutual
    pub type_small : (e : ExprTree) (t : TypeTree) → is_sure called there e ≡ true → type_of c e ≡ Some t → is_small c.structs t ≡ true
    type_small (expr node shape) t sure e =
        let w = went (shape_judged c shape) (λ (j : Judged). type_unless j.tests j.type) t e in
        let u = unless w.value.tests w.value.type t w.gave in
        subst Small u.type (shape_small shape node.id w.value sure w.had)

    shape_small : (shape : ShapeTree) (id : ℕ) (j : Judged) → shape_sure called there id shape ≡ true → shape_judged c shape ≡ Some j → is_small c.structs j.type ≡ true
    shape_small (trees.constant n u) id j sure e = small_at _ j e (one_of c.structs u unsigned int refl refl)
    shape_small (trees.text bytes) id j sure e = small_at _ j e (chars_small c.structs (length bytes + 1) (short (record { node = id; bytes = bytes }) sure) (positive (length bytes)))
      where
        positive : (n : ℕ) → 1 ≤ n + 1
        positive n = omega arith
    shape_small (trees.name x) id j sure e = name_small x (entity_of c x) j (place.entities x) e
    shape_small (trees.subscript a b) id j sure e =
        let x = went (type_of c a) (λ t. and_then (type_of c b) (λ u. Some (subscript_judged c.structs (decayed t) (decayed u)))) j e in
        let y = went (type_of c b) (λ u. Some (subscript_judged c.structs (decayed x.value) (decayed u))) j x.gave in
        small_at _ j y.gave (small_referenced c.structs (sum_type (decayed x.value) (decayed y.value)) (common_small c.structs (decayed x.value) (decayed y.value)
        (small_decayed c.structs x.value (type_small a x.value (first_so _ _ sure) x.had))
        (small_decayed c.structs y.value (type_small b y.value (second_so (is_sure called there a) _ sure) y.had))))
    shape_small (trees.call f es) id j sure e =
        let w = went (types_of c es) (λ us. call_judged (entity_of c f) es us) j e in
        call_small f (entity_of c f) es w.value j (place.entities f) w.gave
    shape_small (trees.member access a x) id j sure e =
        let w = went (type_of c a) (λ t. Some (member_judged c.structs access a t x)) j e in
        small_at _ j w.gave (members_small c.structs place.table access a w.value x)
    shape_small (trees.step operator a) id j sure e =
        let w = went (type_of c a) (λ t. Some (step_judged c.structs a t)) j e in
        small_at _ j w.gave (type_small a w.value sure w.had)
    shape_small (trees.unary operator a) id j sure e =
        let w = went (type_of c a) (λ t. Some (unary_judged c.structs operator a t (decayed t))) j e in
        small_at _ j w.gave (unary_small c.structs operator a w.value (type_small a w.value sure w.had))
    shape_small (trees.sizeof_expr a) id j sure e =
        let w = went (type_of c a) (λ t. Some (judged (keeps rules.IncompleteType (is_complete c.structs t)) unsigned)) j e in
        small_at _ j w.gave refl
    shape_small (trees.sizeof_type name) id j sure e = small_at _ j e refl
    shape_small (trees.cast name a) id j sure e =
        let w = went (type_of c a) (λ t. Some (cast_judged c name a (decayed t))) j e in
        small_at _ j w.gave (starred_small c place.named name.base name.stars)
    shape_small (trees.binary operator a b) id j sure e =
        let x = went (type_of c a) (λ t. and_then (type_of c b) (λ u. Some (binary_judged c.structs operator a (decayed t) b (decayed u)))) j e in
        let y = went (type_of c b) (λ u. Some (binary_judged c.structs operator a (decayed x.value) b (decayed u))) j x.gave in
        small_at _ j y.gave (binary_small c.structs operator a b (decayed x.value) (decayed y.value)
        (small_decayed c.structs x.value (type_small a x.value (first_so _ _ sure) x.had))
        (small_decayed c.structs y.value (type_small b y.value (second_so (is_sure called there a) _ sure) y.had)))
    shape_small (trees.conditional d a b) id j sure e =
        let z = went (type_of c d) (λ r. and_then (type_of c a) (λ t. and_then (type_of c b) (λ u. Some (conditional_judged (decayed r) a (decayed t) b (decayed u))))) j e in
        let x = went (type_of c a) (λ t. and_then (type_of c b) (λ u. Some (conditional_judged (decayed z.value) a (decayed t) b (decayed u)))) j z.gave in
        let y = went (type_of c b) (λ u. Some (conditional_judged (decayed z.value) a (decayed x.value) b (decayed u))) j x.gave in
        let rest = second_so (is_sure called there d) _ sure in
        small_at _ j y.gave (common_small c.structs (decayed x.value) (decayed y.value)
        (small_decayed c.structs x.value (type_small a x.value (first_so _ _ rest) x.had))
        (small_decayed c.structs y.value (type_small b y.value (second_so (is_sure called there a) _ rest) y.had)))
    shape_small (trees.assign operator a b) id j sure e =
        let x = went (type_of c a) (λ t. and_then (type_of c b) (λ u. Some (assign_judged c.structs operator a t b u))) j e in
        let y = went (type_of c b) (λ u. Some (assign_judged c.structs operator a x.value b u)) j x.gave in
        small_at _ j y.gave (assign_small c.structs operator a b x.value y.value (type_small a x.value (first_so _ _ sure) x.had))
    shape_small (trees.comma a b) id j sure e =
        let x = went (type_of c a) (λ t. and_then (type_of c b) (λ u. Some (judged [] (decayed u)))) j e in
        let y = went (type_of c b) (λ u. Some (judged [] (decayed u))) j x.gave in
        small_at _ j y.gave (small_decayed c.structs y.value (type_small b y.value (second_so (is_sure called there a) _ sure) y.had))
