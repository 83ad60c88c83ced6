-- An expression acts exactly where it has statements.
use Rattle.std.proofs.Common.{◌≡◌, ◌||◌, not, Bool, true, false, List, [], ◌∷◌, ◌++◌, None, is_some, refl, sym, ap, ◌∙◌, if◌then◌else◌}
use Rattle.std.proofs.Math.Bool.{or-true, or-false}
use Rattle.qs_memory.specs.Partial.{◌>>=◌}
use Rattle.qs_memory.specs.declared.scalar.Scalar.{Scalar}
use Rattle.qs_memory.specs.declared.operation.BinaryOperation.{BinaryOperation}
use Rattle.qs_core.specs.Trees.{CoreExprTree, CoreStmtTree}
use Rattle.qs_meaning.specs.Typed.{Conversion, Order, as_written, exchanged, Expr, constant, value, pointer_to, member, called, stepped_after, unary, cast, binary, logical_and, logical_or, conditional, assigned, sequence, Lvalue, variable, object, Arguments, no_arguments, argument_and, Effect, nothing, discard, assign, perform, copy, fill, in_order}
use Rattle.qs_meaning.specs.States.{convert_by}
use Rattle.qs_elaborate_bodies.specs.Literals.{literal_value, is_literal}
use Rattle.qs_elaborate_bodies.specs.Acting.{constant_value, acts, lvalue_acts, arguments_act, effect_acts}
use Rattle.qs_elaborate_bodies.specs.Parts.{Temporaries, Valued, Location, plain, pointed, in_temporary, saved, saved_if, value_at}
use Rattle.qs_elaborate_bodies.specs.Expressions.{operation_core, write_at, expression_core, lvalue_core, arguments_core, assignment_core, effect_core}
use Rattle.qs_elaborate_bodies.specs.Laws.{has_any}
use Rattle.qs_elaborate_bodies.proofs.Values.{converted_literal}

-- ---- lists

any-append : (a b : List CoreStmtTree) → has_any (a ++ b) ≡ (has_any a || has_any b)
any-append [] b = refl
any-append (s ∷ a) b = refl

ends_some : (a : List CoreStmtTree) (s : CoreStmtTree) (b : List CoreStmtTree) → has_any (a ++ s ∷ b) ≡ true
ends_some [] s b = refl
ends_some (r ∷ a) s b = refl

any_both : (x y : Bool) (a b : List CoreStmtTree) → has_any a ≡ x → has_any b ≡ y → has_any (a ++ b) ≡ (x || y)
any_both x y a b h k = any-append a b ∙ ap (λ z. z || has_any b) h ∙ ap (λ z. x || z) k

none_of : (ss : List CoreStmtTree) → has_any ss ≡ false → ss ≡ []
none_of [] h = refl
none_of (s ∷ ss) h = cc

-- behind a first operand that is saved or not
any_saved : (z x : Bool) (g : Valued) (b : List CoreStmtTree) → has_any g.statements ≡ x → has_any b ≡ z → has_any ((saved_if z g).statements ++ b) ≡ (x || z)
any_saved true x g b h k = any-append (saved g).statements b ∙ ap (λ y. has_any (saved g).statements || y) k ∙ or-true (has_any (saved g).statements) ∙ sym (or-true x)
any_saved false x g b h k = any-append g.statements b ∙ ap (λ y. y || has_any b) h ∙ ap (λ y. x || y) k

-- one of two ways
either_way : (z x : Bool) (g j : Valued) → has_any g.statements ≡ true → (z ≡ false → has_any j.statements ≡ x) → has_any (if z then g else j).statements ≡ (if z then true else x)
either_way true x g j h k = h
either_way false x g j h k = k refl

if_or : (x z : Bool) → (if z then true else (x || z)) ≡ (x || z)
if_or x true = sym (or-true x)
if_or x false = refl

-- ---- values

either_literal : (z : Bool) (g j : Valued) → literal_value g.value ≡ None → literal_value j.value ≡ None → literal_value (if z then g else j).value ≡ None
either_literal true g j h k = h
either_literal false g j h k = k

located_literal : (s : Scalar) (l : Location) → literal_value (value_at s l) ≡ None
located_literal s (plain x) = refl
located_literal s (pointed a) = refl

operation_literal : (operation : BinaryOperation) (order : Order) (left right : Conversion) (a b : CoreExprTree) → literal_value (operation_core operation order left right a b) ≡ None
operation_literal operation as_written left right a b = refl
operation_literal operation exchanged left right a b = refl

write_literal : (s : Scalar) (l : Location) (ss : List CoreStmtTree) (a : CoreExprTree) (ts : Temporaries) → literal_value (write_at s l ss a ts).value ≡ None
write_literal s (plain x) ss a ts = refl
write_literal s (pointed p) ss a ts = refl

write_some : (s : Scalar) (l : Location) (ss : List CoreStmtTree) (a : CoreExprTree) (ts : Temporaries) → has_any (write_at s l ss a ts).statements ≡ true
write_some s (plain x) ss a ts = ends_some ss _ _
write_some s (pointed p) ss a ts = ends_some ss _ _

-- the value is a literal exactly where the expression is constant
pub constant_exactly : (a : Expr) (ts : Temporaries) → literal_value (expression_core a ts).value ≡ constant_value a
constant_exactly (constant s n) ts = refl
constant_exactly (value s l) ts = located_literal s (lvalue_core l ts).location
constant_exactly (pointer_to o) ts = refl
constant_exactly (member offset a) ts = refl
constant_exactly (called s f es) ts = refl
constant_exactly (stepped_after s l operation left back) ts = refl
constant_exactly (unary operation c a) ts = refl
constant_exactly (cast c a) ts = converted_literal c (expression_core a ts).value ∙ ap (λ o. o >>= convert_by c) (constant_exactly a ts)
constant_exactly (binary operation order left right a b) ts = operation_literal operation order left right _ _
constant_exactly (logical_and a b) ts = either_literal (acts b) _ _ refl refl
constant_exactly (logical_or a b) ts = either_literal (acts b) _ _ refl refl
constant_exactly (conditional s a second third b c) ts = either_literal (acts b || acts c) _ _ refl refl
constant_exactly (assigned a) ts =
    let w = assignment_core a ts in write_literal w.scalar w.location w.statements w.value w.temporaries
constant_exactly (sequence a b) ts = constant_exactly b _

-- a value that is discarded
saved_some : (g : Valued) → has_any (saved g).statements ≡ (has_any g.statements || not (is_literal g.value))
saved_some g = by_literal (is_literal g.value)
  where
    by_literal : (z : Bool) → has_any (if z then g else in_temporary g).statements ≡ (has_any g.statements || not z)
    by_literal true = sym (or-false (has_any g.statements))
    by_literal false = ends_some g.statements _ _ ∙ sym (or-true (has_any g.statements))

-- ---- statements

mutual
  pub acts_exactly : (a : Expr) (ts : Temporaries) → has_any (expression_core a ts).statements ≡ acts a
  acts_exactly (constant s n) ts = refl
  acts_exactly (value s l) ts = lvalue_exactly l ts
  acts_exactly (pointer_to o) ts = refl
  acts_exactly (member offset a) ts = acts_exactly a ts
  acts_exactly (called s f es) ts = ends_some (arguments_core es ts).statements _ _
  acts_exactly (stepped_after s l operation left back) ts = ends_some (lvalue_core l ts).statements _ _
  acts_exactly (unary operation c a) ts = acts_exactly a ts
  acts_exactly (cast c a) ts = acts_exactly a ts
  acts_exactly (binary operation order left right a b) ts = any_saved (acts b) (acts a) (expression_core a ts) _ (acts_exactly a ts) (acts_exactly b _)
  acts_exactly (logical_and a b) ts =
      either_way (acts b) (acts a || acts b) _ _ (ends_some (expression_core a ts).statements _ _) (λ e. any_both _ _ _ _ (acts_exactly a ts) (acts_exactly b _)) ∙ if_or (acts a) (acts b)
  acts_exactly (logical_or a b) ts =
      either_way (acts b) (acts a || acts b) _ _ (ends_some (expression_core a ts).statements _ _) (λ e. any_both _ _ _ _ (acts_exactly a ts) (acts_exactly b _)) ∙ if_or (acts a) (acts b)
  acts_exactly (conditional s a second third b c) ts =
      either_way (acts b || acts c) (acts a || (acts b || acts c)) _ _ (ends_some (expression_core a ts).statements _ _) (λ e. any_both _ _ _ _ (acts_exactly a ts) (any_both _ _ _ _ (acts_exactly b _) (acts_exactly c _))) ∙ if_or (acts a) (acts b || acts c)
  acts_exactly (assigned a) ts = let w = assignment_core a ts in write_some w.scalar w.location w.statements w.value w.temporaries
  acts_exactly (sequence a b) ts = any_both _ _ _ _ (effect_exactly a ts) (acts_exactly b _)

  pub lvalue_exactly : (l : Lvalue) (ts : Temporaries) → has_any (lvalue_core l ts).statements ≡ lvalue_acts l
  lvalue_exactly (variable x) ts = refl
  lvalue_exactly (object a) ts = acts_exactly a ts

  pub arguments_exactly : (es : Arguments) (ts : Temporaries) → has_any (arguments_core es ts).statements ≡ arguments_act es
  arguments_exactly no_arguments ts = refl
  arguments_exactly (argument_and c a es) ts = any_saved (arguments_act es) (acts a) (expression_core a ts) _ (acts_exactly a ts) (arguments_exactly es _)

  pub effect_exactly : (a : Effect) (ts : Temporaries) → has_any (effect_core a ts).statements ≡ effect_acts a
  effect_exactly nothing ts = refl
  effect_exactly (discard a) ts =
      saved_some (expression_core a ts)
      ∙ ap (λ z. z || not (is_literal (expression_core a ts).value)) (acts_exactly a ts)
      ∙ ap (λ o. acts a || not (is_some o)) (constant_exactly a ts)
  effect_exactly (assign a) ts = ends_some (assignment_core a ts).statements _ _
  effect_exactly (perform f es) ts = ends_some (arguments_core es ts).statements _ _
  effect_exactly (copy size alignment a b) ts = ends_some ((saved_if (acts b) (expression_core a ts)).statements ++ (expression_core b _).statements) _ _
  effect_exactly (fill blank a) ts = ends_some (expression_core a ts).statements _ _
  effect_exactly (in_order a b) ts = any_both _ _ _ _ (effect_exactly a ts) (effect_exactly b _)

pub quiet : (a : Expr) (ts : Temporaries) → acts a ≡ false → (expression_core a ts).statements ≡ []
quiet a ts h = none_of _ (acts_exactly a ts ∙ h)

pub quiet_arguments : (es : Arguments) (ts : Temporaries) → arguments_act es ≡ false → (arguments_core es ts).statements ≡ []
quiet_arguments es ts h = none_of _ (arguments_exactly es ts ∙ h)
