-- Expressions by the steps of the code.
use Rattle.std.proofs.Common.{◌≡◌, Bool, List, ◌++◌, ap, ◌∙◌, append_assoc}
use Rattle.qs_memory.specs.declared.scalar.Scalar.{Scalar}
use Rattle.qs_memory.specs.declared.operation.BinaryOperation.{BinaryOperation}
use Rattle.qs_core.specs.Trees.{CoreExprTree, CoreStmtTree}
use Rattle.qs_meaning.specs.Typed.{Conversion, Expr, Lvalue, update}
use Rattle.qs_elaborate_bodies.specs.Acting.{acts}
use Rattle.qs_elaborate_bodies.specs.Lists.{valued}
use Rattle.qs_elaborate_bodies.specs.Parts.{Temporaries, Valued, Location, Located, pure, saved_if, address_saved_if, value_at, value_read}
use Rattle.qs_elaborate_bodies.specs.Expressions.{updated_core, expression_core, lvalue_core, assignment_core}
use Rattle.qs_elaborate_bodies.proofs.PushedParts.{saved_if_is, pushed_behind, value_behind, temporaries_behind}

pub valued_is : (g : Valued) (ss : List CoreStmtTree) (a : CoreExprTree) (ts : Temporaries) → ss ≡ g.statements → a ≡ g.value → ts ≡ g.temporaries → valued ss a ts ≡ g
valued_is g ss a ts h k l = ap (λ x. valued x a ts) h ∙ ap (λ x. valued g.statements x ts) k ∙ ap (λ x. valued g.statements g.value x) l

-- one list after another
pub then_pushed : (o p q l : List CoreStmtTree) (F : Temporaries → List CoreStmtTree) (us ts : Temporaries) → p ≡ o ++ l → us ≡ ts → q ≡ p ++ F us → q ≡ o ++ (l ++ F ts)
then_pushed o p q l F us ts hp ht hq = hq ∙ ap (λ x. x ++ F us) hp ∙ append_assoc o l (F us) ∙ ap (λ x. o ++ (l ++ F x)) ht

-- ---- a compound assignment: its location, the value that stands there, and the other value

pub record Updating (z : Bool) (s : Scalar) (at : Located) (o p q : List CoreStmtTree) (l : Location) (v w : CoreExprTree) (ts us : Temporaries) : Type 0 where
  pub located : p ≡ o ++ at.statements
  pub location : l ≡ at.location
  pub temporaries : ts ≡ at.temporaries
  pub read : v ≡ value_at s l
  pub saved : q ≡ p ++ (saved_if z (pure v ts)).statements
  pub value : w ≡ (saved_if z (pure v ts)).value
  pub kept : us ≡ (saved_if z (pure v ts)).temporaries

old_statements : (z : Bool) (s : Scalar) (at : Located) (o p q : List CoreStmtTree) (l : Location) (v w : CoreExprTree) (ts us : Temporaries)
    → Updating z s at o p q l v w ts us → q ≡ o ++ (saved_if z (value_read s at)).statements
old_statements z s at o p q l v w ts us h =
    pushed_behind (λ v ts. saved_if z (pure v ts)) (value_read s at) (saved_if z (value_read s at)) o p q v ts (saved_if_is z (value_read s at))
    h.located (h.read ∙ ap (value_at s) h.location) h.temporaries h.saved

old_value : (z : Bool) (s : Scalar) (at : Located) (o p q : List CoreStmtTree) (l : Location) (v w : CoreExprTree) (ts us : Temporaries)
    → Updating z s at o p q l v w ts us → w ≡ (saved_if z (value_read s at)).value
old_value z s at o p q l v w ts us h =
    value_behind (λ v ts. saved_if z (pure v ts)) (value_read s at) (saved_if z (value_read s at)) v ts w (saved_if_is z (value_read s at))
    (h.read ∙ ap (value_at s) h.location) h.temporaries h.value

old_temporaries : (z : Bool) (s : Scalar) (at : Located) (o p q : List CoreStmtTree) (l : Location) (v w : CoreExprTree) (ts us : Temporaries)
    → Updating z s at o p q l v w ts us → us ≡ (saved_if z (value_read s at)).temporaries
old_temporaries z s at o p q l v w ts us h =
    temporaries_behind (λ v ts. saved_if z (pure v ts)) (value_read s at) (saved_if z (value_read s at)) v ts us (saved_if_is z (value_read s at))
    (h.read ∙ ap (value_at s) h.location) h.temporaries h.kept

pub update_statements : (s : Scalar) (x : Lvalue) (op : BinaryOperation) (c d back : Conversion) (a : Expr) (t0 : Temporaries)
    (o p q r : List CoreStmtTree) (l : Location) (v w : CoreExprTree) (ts us : Temporaries)
    → Updating (acts a) s (address_saved_if (acts a) (lvalue_core x t0)) o p q l v w ts us
    → r ≡ q ++ (expression_core a us).statements
    → r ≡ o ++ (assignment_core (update s x op c d back a) t0).statements
update_statements s x op c d back a t0 o p q r l v w ts us h k =
    then_pushed o q r _ (λ ts. (expression_core a ts).statements) us _ (old_statements _ s _ o p q l v w ts us h) (old_temporaries _ s _ o p q l v w ts us h) k

pub update_value : (s : Scalar) (x : Lvalue) (op : BinaryOperation) (c d back : Conversion) (a : Expr) (t0 : Temporaries)
    (o p q : List CoreStmtTree) (l : Location) (v w y z : CoreExprTree) (ts us : Temporaries)
    → Updating (acts a) s (address_saved_if (acts a) (lvalue_core x t0)) o p q l v w ts us
    → y ≡ (expression_core a us).value → z ≡ updated_core op c d back w y
    → z ≡ (assignment_core (update s x op c d back a) t0).value
update_value s x op c d back a t0 o p q l v w y z ts us h k m =
    m
    ∙ ap (λ w. updated_core op c d back w y) (old_value _ s _ o p q l v w ts us h)
    ∙ ap (updated_core op c d back _) (k ∙ ap (λ ts. (expression_core a ts).value) (old_temporaries _ s _ o p q l v w ts us h))

pub update_temporaries : (s : Scalar) (x : Lvalue) (op : BinaryOperation) (c d back : Conversion) (a : Expr) (t0 : Temporaries)
    (o p q : List CoreStmtTree) (l : Location) (v w : CoreExprTree) (ts us rs : Temporaries)
    → Updating (acts a) s (address_saved_if (acts a) (lvalue_core x t0)) o p q l v w ts us
    → rs ≡ (expression_core a us).temporaries
    → rs ≡ (assignment_core (update s x op c d back a) t0).temporaries
update_temporaries s x op c d back a t0 o p q l v w ts us rs h k =
    k ∙ ap (λ ts. (expression_core a ts).temporaries) (old_temporaries _ s _ o p q l v w ts us h)
