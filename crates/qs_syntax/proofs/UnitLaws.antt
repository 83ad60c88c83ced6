-- What units keep: trees that are numbered are as they are numbered, and the tokens of their nodes are known.
use Rattle.std.proofs.Common.{◌≡◌, ◌==◌, ◌&&◌, ℕ, ◌+◌, Bool, true, Decides, List, [], ◌++◌, Some, length, ap, sym, ◌∙◌, arith}
use Rattle.std.specs.List.{slice_get}
use Rattle.std.specs.Cmp.Lexicographic.{pointwise, pointwise_decides}
use Rattle.std.proofs.lemmas.Bool.Decides.{Decides-eqb, Decides-and, Decides-like}
use Rattle.std.proofs.lemmas.List.{length-map}
use Rattle.std.proofs.Math.Logic.{∥∥₁_elim}
use mathlib.Core.Bool.{Bool-set}
use Rattle.qs_syntax.specs.declared.nodes.Node.{Node}
use Rattle.qs_syntax.specs.declared.unit.Unit.{Unit}
use Rattle.qs_syntax.specs.Trees.{UnitTree}
use Rattle.qs_syntax.specs.UnitTrees.{unit_tree}
use Rattle.qs_syntax.specs.Nodes.{tokens_of, decl_count, unit_count, unit_nodes}
use Rattle.qs_syntax.specs.Numbering.{relabel_nodes, relabel_all, relabel_decl, numbered, numbered_unit}
use Rattle.qs_syntax.specs.Units.{IsNumbered}
use Rattle.qs_syntax.proofs.RelabelLaws.{unit_numbered_again}
use Rattle.qs_syntax.proofs.NodeLaws.{unit_length, unit_at, same_tokens, node_at}

pub is_numbered : (ds unnumbered : UnitTree) → ds ≡ numbered_unit unnumbered → IsNumbered ds
is_numbered ds unnumbered e = ∣ ap numbered_unit e ∙ (unit_numbered_again unnumbered ∙ sym e) ∣₁

-- numbers don't change tokens
pub tokens_stay : (ds : UnitTree) → tokens_of (unit_nodes (numbered_unit ds)) ≡ tokens_of (unit_nodes ds)
tokens_stay ds = ap tokens_of (unit_at ds) ∙ same_tokens 0 (unit_nodes ds)

abbrev same_node : Node → Node → Bool
same_node a b = (a.id == b.id) && (a.token == b.token)

node_exact : (a b : Node) → Decides (same_node a b) (a ≡ b)
node_exact a b =
    Decides-like (same_node a b) (λ h. λ i. record { id = h.0 i; token = h.1 i }) (λ p. (ap (λ x. x.id) p, ap (λ x. x.token) p))
    (Decides-and (a.id == b.id) (a.token == b.token) (Decides-eqb a.id b.id) (Decides-eqb a.token b.token))

-- a test whether lists of nodes are the same tells what is hidden
listed_as_numbered : (ds : UnitTree) → IsNumbered ds → unit_nodes (numbered_unit ds) ≡ unit_nodes ds
listed_as_numbered ds n =
    let exact = pointwise_decides node_exact (unit_nodes (numbered_unit ds)) (unit_nodes ds) in
    exact.0 (∥∥₁_elim n (Bool-set (pointwise same_node (unit_nodes (numbered_unit ds)) (unit_nodes ds)) true) (λ e. exact.1 (ap unit_nodes e)))

-- ---- numbering from the start

pub from_start : (to from : UnitTree) (before : List ℕ) → before ≡ [] → to ≡ relabel_all numbered decl_count (relabel_decl numbered) (length before) from → to ≡ numbered_unit from
from_start to from before none e = e ∙ ap (λ l. relabel_all numbered decl_count (relabel_decl numbered) (length {A = ℕ} l) from) none

pub tokens_known : (to from : UnitTree) (before after : List ℕ) → before ≡ [] → after ≡ before ++ tokens_of (unit_nodes from) → to ≡ numbered_unit from → after ≡ tokens_of (unit_nodes to)
tokens_known to from before after none e same = e ∙ ap (λ l. l ++ tokens_of (unit_nodes from)) none ∙ sym (tokens_stay from) ∙ ap (λ ds. tokens_of (unit_nodes ds)) (sym same)

-- ---- what units tell

pub count_of_unit : (unit : Unit) → length unit.tokens.items ≡ unit_count (unit_tree unit)
count_of_unit unit = ap length unit.known ∙ (length-map (unit_nodes (unit_tree unit)) (λ n. n.token) ∙ unit_length (unit_tree unit))

-- the node at a place of a unit's list has the place for its number, and the token that stands there
pub node_of_unit : (unit : Unit) (i token : ℕ) → slice_get (tokens_of (unit_nodes (unit_tree unit))) i ≡ Some token → slice_get (unit_nodes (unit_tree unit)) i ≡ Some (record { id = i; token = token })
node_of_unit unit i token h =
    let e : unit_nodes (unit_tree unit) ≡ relabel_nodes numbered 0 (unit_nodes (unit_tree unit)) = sym (listed_as_numbered (unit_tree unit) unit.is_numbered) ∙ unit_at (unit_tree unit) in
    let number : 0 + i ≡ i = omega arith in
    ap (λ l. slice_get l i) e ∙ node_at 0 (unit_nodes (unit_tree unit)) i token h ∙ ap (λ k. Some (record { id = k; token = token })) number
