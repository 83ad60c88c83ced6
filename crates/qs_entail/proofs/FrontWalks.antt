-- Walks over the trees at the front of a list of nodes: what is made of each tree in the order of their nodes.
use Rattle.std.proofs.Common.{◌≡◌, ◌<◌, refl, ap, ◌∙◌, sym, Bool, List, [], ◌∷◌, ◌++◌, length, replicate, append_assoc, append-nil, length-append, arith}
use Rattle.qs_assert.specs.declared.node.Node.{Node}

-- a tree that waits, and what is to be done with it
pub record Task (A : Type 0) : Type 0 where
  pub mark : Bool
  pub tree : A

abbrev pub task : {A : Type 0} → Bool → A → Task A
task b a = record { mark = b; tree = a }

abbrev pub marks : {A : Type 0} → List (Task A) → List Bool
marks [] = []
marks (t ∷ ts) = t.mark ∷ marks ts

abbrev pub task_nodes : {A : Type 0} → (A → List Node) → List (Task A) → List Node
task_nodes nodes [] = []
task_nodes nodes (t ∷ ts) = nodes t.tree ++ task_nodes nodes ts

-- what is made of the trees
abbrev pub results : {A B : Type 0} → (Bool → A → List B) → List (Task A) → List B
results result [] = []
results result (t ∷ ts) = result t.mark t.tree ++ results result ts

marks-append : {A : Type 0} (ts us : List (Task A)) → marks (ts ++ us) ≡ marks ts ++ marks us
marks-append [] us = refl
marks-append (t ∷ ts) us = ap (λ (l : List Bool). t.mark ∷ l) (marks-append ts us)

nodes-append : {A : Type 0} (nodes : A → List Node) (ts us : List (Task A)) → task_nodes nodes (ts ++ us) ≡ task_nodes nodes ts ++ task_nodes nodes us
nodes-append nodes [] us = refl
nodes-append nodes (t ∷ ts) us =
    ap (λ (l : List Node). nodes t.tree ++ l) (nodes-append nodes ts us) ∙ sym (append_assoc (nodes t.tree) (task_nodes nodes ts) (task_nodes nodes us))

results-append : {A B : Type 0} (result : Bool → A → List B) (ts us : List (Task A)) → results result (ts ++ us) ≡ results result ts ++ results result us
results-append result [] us = refl
results-append {B = B} result (t ∷ ts) us =
    ap (λ (l : List B). result t.mark t.tree ++ l) (results-append result ts us) ∙ sym (append_assoc (result t.mark t.tree) (results result ts) (results result us))

-- the same is done with all parts

abbrev pub all_of : {A : Type 0} → Bool → List A → List (Task A)
all_of mark [] = []
all_of mark (a ∷ parts) = task mark a ∷ all_of mark parts

pub all_marks : {A : Type 0} (mark : Bool) (parts : List A) → marks (all_of mark parts) ≡ replicate (length parts) mark
all_marks mark [] = refl
all_marks mark (a ∷ parts) = ap (λ (l : List Bool). mark ∷ l) (all_marks mark parts)

-- ---- the walk

-- what is made so far, and what will be made of what waits
pub record Waits {A B : Type 0} (nodes : A → List Node) (result : Bool → A → List B) (whole made : List B) (pending : List Bool) (rest : List Node) : Type 0 where
  pub tasks : List (Task A)
  pub marked : pending ≡ marks tasks
  pub left : rest ≡ task_nodes nodes tasks
  pub all : made ++ results result tasks ≡ whole

pub waits_first : {A B : Type 0} (nodes : A → List Node) (result : Bool → A → List B) (mark : Bool) (a : A) (before made : List B) (pending : List Bool) (rest : List Node) →
    made ≡ before → pending ≡ mark ∷ [] → rest ≡ nodes a → Waits nodes result (before ++ result mark a) made pending rest
waits_first nodes result mark a before made pending rest m p r = record {
  tasks = task mark a ∷ [];
  marked = p;
  left = r ∙ sym (append-nil (nodes a));
  all = λ i. m i ++ append-nil (result mark a) i;
}

none_marked : {A : Type 0} (ts : List (Task A)) → [] ≡ marks ts → ts ≡ []
none_marked [] e = refl
none_marked (t ∷ ts) e = absurd (cc)

pub waits_last : {A B : Type 0} (nodes : A → List Node) (result : Bool → A → List B) (whole made : List B) (pending : List Bool) (rest : List Node) →
    Waits nodes result whole made pending rest → pending ≡ [] → made ≡ whole
waits_last {A = A} nodes result whole made pending rest w e =
    sym (append-nil made) ∙ (ap (λ (ts : List (Task A)). made ++ results result ts) (sym (none_marked w.tasks (sym e ∙ w.marked))) ∙ w.all)

-- the first tree that waits
pub record Next {A B : Type 0} (nodes : A → List Node) (result : Bool → A → List B) (whole made : List B) (mark : Bool) (pending : List Bool) (rest : List Node) : Type 0 where
  pub tree : A
  pub tasks : List (Task A)
  pub marked : pending ≡ marks tasks
  pub left : rest ≡ nodes tree ++ task_nodes nodes tasks
  pub all : made ++ (result mark tree ++ results result tasks) ≡ whole

next_of : {A B : Type 0} (nodes : A → List Node) (result : Bool → A → List B) (whole made : List B) (mark : Bool) (pending : List Bool) (rest : List Node) (tasks : List (Task A)) →
    mark ∷ pending ≡ marks tasks → rest ≡ task_nodes nodes tasks → made ++ results result tasks ≡ whole → Next nodes result whole made mark pending rest
next_of nodes result whole made mark pending rest [] m l a = absurd (cc)
next_of nodes result whole made mark pending rest (t ∷ ts) m l a =
    let same : mark ≡ t.mark = cc in
    record {
      tree = t.tree;
      tasks = ts;
      marked = cc;
      left = l;
      all = ap (λ (v : Bool). made ++ (result v t.tree ++ results result ts)) same ∙ a;
    }

pub next : {A B : Type 0} (nodes : A → List Node) (result : Bool → A → List B) (whole made : List B) (mark : Bool) (pending more : List Bool) (rest : List Node) →
    Waits nodes result whole made more rest → more ≡ mark ∷ pending → Next nodes result whole made mark pending rest
next nodes result whole made mark pending more rest w e = next_of nodes result whole made mark pending rest w.tasks (sym e ∙ w.marked) w.left w.all

-- what is put for a tree, and the parts that wait in its place
pub record InPlace {A B : Type 0} (nodes : A → List Node) (result : Bool → A → List B) (mark : Bool) (a : A) (more : List Node) (put : List B) (parts : List Bool) (rest : List Node) : Type 0 where
  pub tasks : List (Task A)
  pub marked : marks tasks ≡ parts
  pub shown : put ++ results result tasks ≡ result mark a
  pub after : rest ≡ task_nodes nodes tasks ++ more

pub goes_on : {A B : Type 0} (nodes : A → List Node) (result : Bool → A → List B) (whole made made' put : List B) (mark : Bool) (pending pending' parts : List Bool) (rest rest' after : List Node) →
    (n : Next nodes result whole made mark pending rest) → InPlace nodes result mark n.tree (task_nodes nodes n.tasks) put parts after →
    made' ≡ made ++ put → pending' ≡ parts ++ pending → rest' ≡ after → Waits nodes result whole made' pending' rest'
goes_on {B = B} nodes result whole made made' put mark pending pending' parts rest rest' after n p em ep er =
    let one = ap (λ (l : List B). made' ++ l) (results-append result p.tasks n.tasks) in
    let two = ap (λ (l : List B). l ++ (results result p.tasks ++ results result n.tasks)) em in
    let three = append_assoc made put (results result p.tasks ++ results result n.tasks) in
    let four = ap (λ (l : List B). made ++ l) (sym (append_assoc put (results result p.tasks) (results result n.tasks))) in
    let five = ap (λ (l : List B). made ++ (l ++ results result n.tasks)) p.shown in
    record {
      tasks = p.tasks ++ n.tasks;
      marked = ep ∙ ((λ i. sym p.marked i ++ n.marked i) ∙ sym (marks-append p.tasks n.tasks));
      left = er ∙ (p.after ∙ sym (nodes-append nodes p.tasks n.tasks));
      all = one ∙ (two ∙ (three ∙ (four ∙ (five ∙ n.all))));
    }

-- a tree has nodes
pub has_nodes : {A B : Type 0} (nodes : A → List Node) (result : Bool → A → List B) (whole made : List B) (mark : Bool) (pending : List Bool) (rest : List Node) →
    (n : Next nodes result whole made mark pending rest) → 0 < length (nodes n.tree) → 0 < length rest
has_nodes nodes result whole made mark pending rest n h =
    omega (arith, ap length n.left, length-append (nodes n.tree) (task_nodes nodes n.tasks), h)
