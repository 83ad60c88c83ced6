-- What an expression adds to what is found.
use Rattle.std.specs.Prelude.{List, [], ◌∷◌, ◌++◌}
use Rattle.qs_syntax.specs.declared.nodes.Node.{Node}
use Rattle.qs_syntax.specs.Trees.{ExprTree, expr, ShapeTree, Exprs, no_exprs, expr_and}
use Rattle.qs_syntax.specs.Trees as trees
use Rattle.qs_types.specs.Contexts.{Context}
use Rattle.qs_types.specs.Expressions.{type_of}
use Rattle.qs_types.specs.ExpressionFaults.{Position, expr_faults, part_faults, all_faults}
use Rattle.qs_types.specs.Placed.{addressed, shape_addressed, all_addressed}
use Rattle.qs_types.specs.Referents.{referent_of}
use Rattle.qs_typing_findings.specs.Findings.{Findings}

-- ---- something of each node of an expression, in the order of the text

abbrev pub node_of : ExprTree → Node
node_of (expr node shape) = node

abbrev mutual
  pub of_nodes : {A : Type 0} → (ExprTree → A) → ExprTree → List A
  of_nodes g (expr node shape) = g (expr node shape) ∷ of_parts g shape

  pub of_parts : {A : Type 0} → (ExprTree → A) → ShapeTree → List A
  of_parts g (trees.constant n u) = []
  of_parts g (trees.text bytes) = []
  of_parts g (trees.name x) = []
  of_parts g (trees.unary operator a) = of_nodes g a
  of_parts g (trees.step operator a) = of_nodes g a
  of_parts g (trees.cast n a) = of_nodes g a
  of_parts g (trees.sizeof_type n) = []
  of_parts g (trees.sizeof_expr a) = of_nodes g a
  of_parts g (trees.binary operator a b) = of_nodes g a ++ of_nodes g b
  of_parts g (trees.assign operator a b) = of_nodes g a ++ of_nodes g b
  of_parts g (trees.conditional d a b) = of_nodes g d ++ (of_nodes g a ++ of_nodes g b)
  of_parts g (trees.comma a b) = of_nodes g a ++ of_nodes g b
  of_parts g (trees.subscript a b) = of_nodes g a ++ of_nodes g b
  of_parts g (trees.member access a x) = of_nodes g a
  of_parts g (trees.call f es) = of_all g es

  pub of_all : {A : Type 0} → (ExprTree → A) → Exprs → List A
  of_all g no_exprs = []
  of_all g (expr_and e es) = of_nodes g e ++ of_all g es

-- ---- findings

abbrev pub expr_findings : Context → Position → ExprTree → Findings
expr_findings c p e = record {
  types = of_nodes (type_of c) e;
  referents = of_nodes (referent_of c) e;
  addressed = addressed c e;
  faults = expr_faults c p e;
}

abbrev pub part_findings : Context → Position → ShapeTree → Findings
part_findings c p shape = record {
  types = of_parts (type_of c) shape;
  referents = of_parts (referent_of c) shape;
  addressed = shape_addressed c shape;
  faults = part_faults c p shape;
}

abbrev pub all_findings : Context → Exprs → Findings
all_findings c es = record {
  types = of_all (type_of c) es;
  referents = of_all (referent_of c) es;
  addressed = all_addressed c es;
  faults = all_faults c es;
}
