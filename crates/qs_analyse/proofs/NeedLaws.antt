-- The values of what calls need.
use Rattle.std.proofs.Common.{◌≡◌, ℕ, ◌==◌, ◌||◌, ◌++◌, Bool, true, false, List, [], ◌∷◌, map, ⊎_elim, refl, sym, ap, ◌∙◌, subst, arith}
use Rattle.std.specs.List.{list_any}
use Rattle.std.proofs.lemmas.Bool.{both_ways, or_right}
use Rattle.std.proofs.lemmas.List.{append-nil}
use Rattle.qs_assert.specs.declared.variable.Var.{Var}
use Rattle.qs_assert.specs.Trees.{AssertionTree, assertions_of}
use Rattle.qs_assert.specs.Values.{State, Extended, finite, infinite, plus, greater, value, greatest_of}
use Rattle.qs_assert.specs.declared.node.TermNode.{TermNode}
use Rattle.qs_assert.specs.declared.node.TermNode.TheVariants.{Number, Variable, Add, Sub, Mul, Div, WrapUnsigned, WrapSigned, Bits}
use Rattle.qs_assert.specs.declared.node.Node.{Node}
use Rattle.qs_assert.specs.declared.node.Node.TheVariants.{Term, Condition, Assertion}
use Rattle.qs_assert.specs.Listing.{assertion_nodes}
use Rattle.qs_assert.specs.Variables.{variables, all_variables, head_variables, node_variables}
use Rattle.qs_assert.proofs.VariableLaws.{listed, assertion_listed}
use Rattle.std.proofs.lemmas.List.Folds.{list_any-append}
use Rattle.qs_entail.specs.Meaning.{AtLeast}
use Rattle.qs_triples.specs.Filled.{for_call, for_calls, has_variables}
use Rattle.qs_core.specs.CallGraph.{is_member}
use Rattle.qs_callgraph.proofs.MemberLaws.{first_cases, member_first}
use Rattle.qs_analyse.specs.Needs.{is_variable_head, is_variable_node}

-- ---- amounts

pub plus_zero : (a : Extended) → plus a (finite 0) ≡ a
plus_zero infinite = refl
plus_zero (finite a) = ap finite (omega arith)

greater_zero : (a : Extended) → greater a (finite 0) ≡ a
greater_zero infinite = refl
greater_zero (finite a) = ap finite (omega arith)

pub at_least_same : (a : Extended) → AtLeast a a
at_least_same infinite = tt
at_least_same (finite a) = omega arith

first_least : (a b c : Extended) → AtLeast a c → AtLeast (greater a b) c
first_least infinite b c h = tt
first_least (finite a) infinite c h = tt
first_least (finite a) (finite b) infinite h = absurd h
first_least (finite a) (finite b) (finite c) h = omega (arith, h)

second_least : (a b c : Extended) → AtLeast b c → AtLeast (greater a b) c
second_least infinite b c h = tt
second_least (finite a) infinite c h = tt
second_least (finite a) (finite b) infinite h = absurd h
second_least (finite a) (finite b) (finite c) h = omega (arith, h)

-- ---- calls

pub call_value : (needs : ℕ → AssertionTree) (g : ℕ) (s : State) → value (for_call needs g) s ≡ plus (finite (s.costs g)) (value (needs g) s)
call_value needs g s = ap (plus (finite (s.costs g))) (plus_zero (value (needs g) s))

-- the greatest of what these calls need
abbrev pub greatest_value : (ℕ → AssertionTree) → List ℕ → State → Extended
greatest_value needs [] s = finite 0
greatest_value needs (g ∷ gs) s = greater (value (for_call needs g) s) (greatest_value needs gs s)

parts_value : (needs : ℕ → AssertionTree) (gs : List ℕ) (s : State) → greatest_of (assertions_of (map (for_call needs) gs)) s ≡ greatest_value needs gs s
parts_value needs [] s = refl
parts_value needs (g ∷ gs) s = ap (greater (value (for_call needs g) s)) (parts_value needs gs s)

pub calls_value : (needs : ℕ → AssertionTree) (gs : List ℕ) (s : State) → value (for_calls needs gs) s ≡ greatest_value needs gs s
calls_value needs [] s = refl
calls_value needs (g ∷ []) s = sym (greater_zero (value (for_call needs g) s))
calls_value needs (g ∷ h ∷ gs) s = parts_value needs (g ∷ h ∷ gs) s

-- the greatest pays for each
greatest_pays : (needs : ℕ → AssertionTree) (gs : List ℕ) (s : State) (g : ℕ) → is_member g gs ≡ true → AtLeast (greatest_value needs gs s) (value (for_call needs g) s)
greatest_pays needs [] s g m = absurd (both_ways false refl m)
greatest_pays needs (h ∷ gs) s g m =
    ⊎_elim
    (λ (e : h ≡ g). first_least (value (for_call needs h) s) (greatest_value needs gs s) (value (for_call needs g) s)
    (subst (λ (x : ℕ). AtLeast (value (for_call needs h) s) (value (for_call needs x) s)) e (at_least_same (value (for_call needs h) s))))
    (λ (n : is_member g gs ≡ true). second_least (value (for_call needs h) s) (greatest_value needs gs s) (value (for_call needs g) s) (greatest_pays needs gs s g n))
    (first_cases g h gs m)

pub calls_pay : (needs : ℕ → AssertionTree) (gs : List ℕ) (s : State) (g : ℕ) → is_member g gs ≡ true → AtLeast (value (for_calls needs gs) s) (plus (finite (s.costs g)) (value (needs g) s))
calls_pay needs gs s g m =
    subst (λ (v : Extended). AtLeast v (plus (finite (s.costs g)) (value (needs g) s))) (sym (calls_value needs gs s))
    (subst (AtLeast (greatest_value needs gs s)) (call_value needs g s) (greatest_pays needs gs s g m))

-- what calls need goes by what each callee needs
pub same_calls :
    (needs : ℕ → AssertionTree) (gs : List ℕ) (s t : State) → s.costs ≡ t.costs
    → ((g : ℕ) → is_member g gs ≡ true → value (needs g) s ≡ value (needs g) t) → value (for_calls needs gs) s ≡ value (for_calls needs gs) t
same_calls needs gs s t c h = calls_value needs gs s ∙ by gs h ∙ sym (calls_value needs gs t)
  where
    one : (g : ℕ) → value (needs g) s ≡ value (needs g) t → value (for_call needs g) s ≡ value (for_call needs g) t
    one g e =
        call_value needs g s ∙ ap (λ (cost : ℕ → ℕ). plus (finite (cost g)) (value (needs g) s)) c ∙ ap (plus (finite (t.costs g))) e ∙ sym (call_value needs g t)

    by : (gs : List ℕ) → ((g : ℕ) → is_member g gs ≡ true → value (needs g) s ≡ value (needs g) t) → greatest_value needs gs s ≡ greatest_value needs gs t
    by [] h = refl
    by (g ∷ gs) h =
        ap (λ (v : Extended). greater v (greatest_value needs gs s)) (one g (h g (member_first g gs)))
        ∙ ap (greater (value (for_call needs g) t)) (by gs (λ x m. h x (or_right (g == x) (is_member x gs) m)))

-- ---- variables

parts_closed : (needs : ℕ → AssertionTree) (gs : List ℕ) → ((g : ℕ) → is_member g gs ≡ true → variables (needs g) ≡ []) → all_variables (assertions_of (map (for_call needs) gs)) ≡ []
parts_closed needs [] h = refl
parts_closed needs (g ∷ gs) h =
    ap (λ (xs : List Var). (xs ++ []) ++ all_variables (assertions_of (map (for_call needs) gs))) (h g (member_first g gs))
    ∙ parts_closed needs gs (λ x m. h x (or_right (g == x) (is_member x gs) m))

pub calls_closed : (needs : ℕ → AssertionTree) (gs : List ℕ) → ((g : ℕ) → is_member g gs ≡ true → variables (needs g) ≡ []) → variables (for_calls needs gs) ≡ []
calls_closed needs [] h = refl
calls_closed needs (g ∷ []) h = sym (append-nil (variables (for_call needs g))) ∙ parts_closed needs (g ∷ []) h
calls_closed needs (g ∷ h ∷ gs) k = parts_closed needs (g ∷ h ∷ gs) k

pub no_variables : (a : AssertionTree) → has_variables a ≡ false → variables a ≡ []
no_variables a h = by (variables a) h
  where
    by : (xs : List Var) → list_any (λ x. true) xs ≡ false → xs ≡ []
    by [] h = refl
    by (x ∷ xs) h = absurd (both_ways true h refl)

-- ---- nodes

head_listed : (head : TermNode) → list_any (λ x. true) (head_variables head) ≡ is_variable_head head
head_listed (Number k) = refl
head_listed (Variable x) = refl
head_listed (Add n) = refl
head_listed Sub = refl
head_listed (Mul n) = refl
head_listed (Div k) = refl
head_listed WrapUnsigned = refl
head_listed WrapSigned = refl
head_listed Bits = refl

node_listed : (node : Node) → list_any (λ x. true) (node_variables node) ≡ is_variable_node node
node_listed (Term head) = head_listed head
node_listed (Condition head) = refl
node_listed (Assertion head) = refl

nodes_listed : (nodes : List Node) → list_any is_variable_node nodes ≡ list_any (λ x. true) (listed nodes)
nodes_listed [] = refl
nodes_listed (node ∷ nodes) =
    ap (λ (b : Bool). b || list_any is_variable_node nodes) (sym (node_listed node)) ∙ ap (λ (b : Bool). list_any (λ x. true) (node_variables node) || b) (nodes_listed nodes)
    ∙ sym (list_any-append (λ (x : Var). true) (node_variables node) (listed nodes))

pub variables_listed : (a : AssertionTree) → list_any is_variable_node (assertion_nodes a) ≡ has_variables a
variables_listed a = nodes_listed (assertion_nodes a) ∙ ap (list_any (λ x. true)) (assertion_listed a)
