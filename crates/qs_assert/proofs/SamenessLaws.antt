-- The tests of sameness tell equality.
use Rattle.std.proofs.Common.{◌≡◌, ℕ, ℤ, refl, ap, ◌∙◌, sym, Bool, true, List, [], ◌∷◌, ◌↔◌, Decides}
use Rattle.std.specs.Prelude.{◌==◌, IsTrue}
use Rattle.std.specs.Ordering.{int_eq}
use Rattle.std.proofs.lemmas.Bool.{eqb-true, eq-eqb, and_from}
use Rattle.std.proofs.lemmas.Bool.Decides.{Decides-int_eq}
use Rattle.std.specs.Cmp.{first_so, second_so}
use Rattle.qs_base.proofs.Variants.{variants_exact}
use Rattle.qs_assert.specs.declared.variable.VarKind.{VarKind}
use Rattle.qs_assert.specs.declared.variable.VarKind.TheVariants.{Plain, Temporary, Old, Returned}
use Rattle.qs_assert.specs.declared.variable.NumberType.{NumberType}
use Rattle.qs_assert.specs.contracts.variable.NumberType.{the_type}
use Rattle.qs_assert.specs.declared.variable.Var.{Var}
use Rattle.qs_assert.specs.declared.node.TermNode.{TermNode}
use Rattle.qs_assert.specs.declared.node.TermNode.TheVariants.{Number, Variable, Add, Sub, Mul, Div, WrapUnsigned, WrapSigned, Bits}
use Rattle.qs_assert.specs.declared.node.CondNode.{CondNode}
use Rattle.qs_assert.specs.declared.node.CondNode.TheVariants.{Le, Lt, Eq, Ne, Not, And, Or}
use Rattle.qs_assert.specs.declared.node.AssertionNode.{AssertionNode}
use Rattle.qs_assert.specs.declared.node.AssertionNode.TheVariants.{Natural, Infinity, Cost, Num, Total, Greatest, Product, Guard, If, Named}
use Rattle.qs_assert.specs.declared.node.Node.{Node}
use Rattle.qs_assert.specs.declared.node.Node.TheVariants.{Term, Condition, Assertion}
use Rattle.qs_assert.specs.Trees.{TermTree, CondTree, AssertionTree}
use Rattle.qs_assert.specs.Listing.{term_nodes, cond_nodes, assertion_nodes}
use Rattle.qs_assert.specs.Reading.{term_of, cond_of, assertion_of, term_of-nodes, cond_of-nodes, assertion_of-nodes}
use Rattle.qs_assert.specs.Substitution.{same_kind, same_number_type, same_variable}
use Rattle.qs_assert.specs.Bounds.{same_name}
use Rattle.qs_assert.specs.Sameness.{same_term_node, same_cond_node, same_assertion_node, same_node, all_same, same_term, same_cond, same_assertion}

pub name_equal : (a b : List ℕ) → same_name a b ≡ true → a ≡ b
name_equal [] [] h = refl
name_equal [] (y ∷ b) h = absurd (cc)
name_equal (x ∷ a) [] h = absurd (cc)
name_equal (x ∷ a) (y ∷ b) h =
    λ i. eqb-true x y (first_so (x == y) (same_name a b) h) i ∷ name_equal a b (second_so (x == y) (same_name a b) h) i

name_self : (a : List ℕ) → same_name a a ≡ true
name_self [] = refl
name_self (x ∷ a) = and_from (x == x) (same_name a a) (eq-eqb x x refl) (name_self a)

kind_equal : (a b : VarKind) → same_kind a b ≡ true → a ≡ b
kind_equal (Plain i) (Plain j) h = ap Plain (eqb-true i j h)
kind_equal (Temporary i) (Temporary j) h = ap Temporary (eqb-true i j h)
kind_equal (Old i) (Old j) h = ap Old (eqb-true i j h)
kind_equal Returned Returned h = refl
kind_equal _ _ h = absurd (cc)

kind_self : (a : VarKind) → same_kind a a ≡ true
kind_self (Plain i) = eq-eqb i i refl
kind_self (Temporary i) = eq-eqb i i refl
kind_self (Old i) = eq-eqb i i refl
kind_self Returned = refl

number_type_exact : (a b : NumberType) → Decides (same_number_type a b) (a ≡ b)
number_type_exact a b = variants_exact the_type tt a b

pub number_type_equal : (a b : NumberType) → same_number_type a b ≡ true → a ≡ b
number_type_equal a b h = (number_type_exact a b).0 h

pub number_type_self : (a : NumberType) → same_number_type a a ≡ true
number_type_self a = (number_type_exact a a).1 refl

pub variable_equal : (x y : Var) → same_variable x y ≡ true → x ≡ y
variable_equal x y h =
    λ i. record { kind = kind_equal x.kind y.kind (first_so (same_kind x.kind y.kind) (same_number_type x.number y.number) h) i; number = number_type_equal x.number y.number (second_so (same_kind x.kind y.kind) (same_number_type x.number y.number) h) i }

pub variable_self : (x : Var) → same_variable x x ≡ true
variable_self x = and_from (same_kind x.kind x.kind) (same_number_type x.number x.number) (kind_self x.kind) (number_type_self x.number)

integer_equal : (x y : ℤ) → int_eq x y ≡ true → x ≡ y
integer_equal x y h = (Decides-int_eq x y).0 h

integer_self : (x : ℤ) → int_eq x x ≡ true
integer_self x = (Decides-int_eq x x).1 refl

term_node_equal : (a b : TermNode) → same_term_node a b ≡ true → a ≡ b
term_node_equal (Number k) (Number m) h = ap Number (integer_equal k m h)
term_node_equal (Variable x) (Variable y) h = ap Variable (variable_equal x y h)
term_node_equal (Add n) (Add m) h = ap Add (eqb-true n m h)
term_node_equal Sub Sub h = refl
term_node_equal (Mul n) (Mul m) h = ap Mul (eqb-true n m h)
term_node_equal (Div k) (Div m) h = ap Div (eqb-true k m h)
term_node_equal WrapUnsigned WrapUnsigned h = refl
term_node_equal WrapSigned WrapSigned h = refl
term_node_equal Bits Bits h = refl
term_node_equal _ _ h = absurd (cc)

term_node_self : (a : TermNode) → same_term_node a a ≡ true
term_node_self (Number k) = integer_self k
term_node_self (Variable x) = variable_self x
term_node_self (Add n) = eq-eqb n n refl
term_node_self Sub = refl
term_node_self (Mul n) = eq-eqb n n refl
term_node_self (Div k) = eq-eqb k k refl
term_node_self WrapUnsigned = refl
term_node_self WrapSigned = refl
term_node_self Bits = refl

cond_node_equal : (a b : CondNode) → same_cond_node a b ≡ true → a ≡ b
cond_node_equal Le Le h = refl
cond_node_equal Lt Lt h = refl
cond_node_equal Eq Eq h = refl
cond_node_equal Ne Ne h = refl
cond_node_equal Not Not h = refl
cond_node_equal (And n) (And m) h = ap And (eqb-true n m h)
cond_node_equal (Or n) (Or m) h = ap Or (eqb-true n m h)
cond_node_equal _ _ h = absurd (cc)

cond_node_self : (a : CondNode) → same_cond_node a a ≡ true
cond_node_self Le = refl
cond_node_self Lt = refl
cond_node_self Eq = refl
cond_node_self Ne = refl
cond_node_self Not = refl
cond_node_self (And n) = eq-eqb n n refl
cond_node_self (Or n) = eq-eqb n n refl

assertion_node_equal : (a b : AssertionNode) → same_assertion_node a b ≡ true → a ≡ b
assertion_node_equal (Natural n) (Natural m) h = ap Natural (eqb-true n m h)
assertion_node_equal Infinity Infinity h = refl
assertion_node_equal (Cost f) (Cost g) h = λ i. Cost (record { 0 = eqb-true f.0 g.0 h i })
assertion_node_equal Num Num h = refl
assertion_node_equal (Total n) (Total m) h = ap Total (eqb-true n m h)
assertion_node_equal (Greatest n) (Greatest m) h = ap Greatest (eqb-true n m h)
assertion_node_equal (Product n) (Product m) h = ap Product (eqb-true n m h)
assertion_node_equal Guard Guard h = refl
assertion_node_equal If If h = refl
assertion_node_equal (Named n) (Named m) h = ap Named (name_equal n m h)
assertion_node_equal _ _ h = absurd (cc)

assertion_node_self : (a : AssertionNode) → same_assertion_node a a ≡ true
assertion_node_self (Natural n) = eq-eqb n n refl
assertion_node_self Infinity = refl
assertion_node_self (Cost f) = eq-eqb f.0 f.0 refl
assertion_node_self Num = refl
assertion_node_self (Total n) = eq-eqb n n refl
assertion_node_self (Greatest n) = eq-eqb n n refl
assertion_node_self (Product n) = eq-eqb n n refl
assertion_node_self Guard = refl
assertion_node_self If = refl
assertion_node_self (Named n) = name_self n

node_equal : (a b : Node) → same_node a b ≡ true → a ≡ b
node_equal (Term a) (Term b) h = ap Term (term_node_equal a b h)
node_equal (Condition a) (Condition b) h = ap Condition (cond_node_equal a b h)
node_equal (Assertion a) (Assertion b) h = ap Assertion (assertion_node_equal a b h)
node_equal _ _ h = absurd (cc)

node_self : (a : Node) → same_node a a ≡ true
node_self (Term a) = term_node_self a
node_self (Condition a) = cond_node_self a
node_self (Assertion a) = assertion_node_self a

all_equal : {A : Type 0} (test : A → A → Bool) → ((x y : A) → test x y ≡ true → x ≡ y) → (xs ys : List A) → all_same test xs ys ≡ true → xs ≡ ys
all_equal test e [] [] h = refl
all_equal test e [] (y ∷ ys) h = absurd (cc)
all_equal test e (x ∷ xs) [] h = absurd (cc)
all_equal test e (x ∷ xs) (y ∷ ys) h =
    λ i. e x y (first_so (test x y) (all_same test xs ys) h) i ∷ all_equal test e xs ys (second_so (test x y) (all_same test xs ys) h) i

all_self : {A : Type 0} (test : A → A → Bool) → ((x : A) → test x x ≡ true) → (xs : List A) → all_same test xs xs ≡ true
all_self test e [] = refl
all_self test e (x ∷ xs) = and_from (test x x) (all_same test xs xs) (e x) (all_self test e xs)

pub term_same : (t u : TermTree) → same_term t u ≡ true → t ≡ u
term_same t u h =
    sym (term_of-nodes t) ∙ (ap term_of (all_equal same_term_node term_node_equal (term_nodes t) (term_nodes u) h) ∙ term_of-nodes u)

pub term_self : (t : TermTree) → same_term t t ≡ true
term_self t = all_self same_term_node term_node_self (term_nodes t)

pub cond_same : (c d : CondTree) → same_cond c d ≡ true → c ≡ d
cond_same c d h =
    sym (cond_of-nodes c) ∙ (ap cond_of (all_equal same_node node_equal (cond_nodes c) (cond_nodes d) h) ∙ cond_of-nodes d)

pub cond_self : (c : CondTree) → same_cond c c ≡ true
cond_self c = all_self same_node node_self (cond_nodes c)

pub assertion_same : (a b : AssertionTree) → same_assertion a b ≡ true → a ≡ b
assertion_same a b h =
    sym (assertion_of-nodes a) ∙ (ap assertion_of (all_equal same_node node_equal (assertion_nodes a) (assertion_nodes b) h) ∙ assertion_of-nodes b)

pub assertion_self : (a : AssertionTree) → same_assertion a a ≡ true
assertion_self a = all_self same_node node_self (assertion_nodes a)

-- the answer of a test that is true exactly of equal trees

pub term_exact : (t u : TermTree) (xs ys : List TermNode) (r : Bool) → xs ≡ term_nodes t → ys ≡ term_nodes u → r ≡ all_same same_term_node xs ys → IsTrue r ↔ (t ≡ u)
term_exact t u xs ys r e f h =
    let is = h ∙ (λ i. all_same same_term_node (e i) (f i)) in
    (λ yes. term_same t u (sym is ∙ yes), λ p. is ∙ (ap (same_term t) (sym p) ∙ term_self t))

pub cond_exact : (c d : CondTree) (xs ys : List Node) (r : Bool) → xs ≡ cond_nodes c → ys ≡ cond_nodes d → r ≡ all_same same_node xs ys → IsTrue r ↔ (c ≡ d)
cond_exact c d xs ys r e f h =
    let is = h ∙ (λ i. all_same same_node (e i) (f i)) in
    (λ yes. cond_same c d (sym is ∙ yes), λ p. is ∙ (ap (same_cond c) (sym p) ∙ cond_self c))

pub assertion_exact : (a b : AssertionTree) (xs ys : List Node) (r : Bool) → xs ≡ assertion_nodes a → ys ≡ assertion_nodes b → r ≡ all_same same_node xs ys → IsTrue r ↔ (a ≡ b)
assertion_exact a b xs ys r e f h =
    let is = h ∙ (λ i. all_same same_node (e i) (f i)) in
    (λ yes. assertion_same a b (sym is ∙ yes), λ p. is ∙ (ap (same_assertion a) (sym p) ∙ assertion_self a))
