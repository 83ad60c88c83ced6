-- What stands for a node where variables are replaced by their images.
use Rattle.std.specs.Prelude.{List, [], ◌∷◌}
use Rattle.qs_assert.specs.declared.node.TermNode.{TermNode}
use Rattle.qs_assert.specs.declared.node.TermNode.TheVariants.{Number, Variable, Add, Sub, Mul, Div, WrapUnsigned, WrapSigned, Bits}
use Rattle.qs_assert.specs.declared.node.Node.{Node}
use Rattle.qs_assert.specs.declared.node.Node.TheVariants.{Term, Condition, Assertion}
use Rattle.qs_assert.specs.declared.images.Image.{Image}
use Rattle.qs_assert.specs.declared.variable.Var.{Var}
use Rattle.qs_assert.specs.Images.{Images}
use Rattle.qs_assert.specs.Listing.{inner_term}
use Rattle.qs_assert.specs.Simultaneous.{images_in}

abbrev pub term_replacement : Images → TermNode → List Node
term_replacement m (Number k) = Term (Number k) ∷ []
term_replacement m (Variable x) = inner_term (m x)
term_replacement m (Add n) = Term (Add n) ∷ []
term_replacement m Sub = Term Sub ∷ []
term_replacement m (Mul n) = Term (Mul n) ∷ []
term_replacement m (Div k) = Term (Div k) ∷ []
term_replacement m WrapUnsigned = Term WrapUnsigned ∷ []
term_replacement m WrapSigned = Term WrapSigned ∷ []
term_replacement m Bits = Term Bits ∷ []

abbrev pub replacement : Images → Node → List Node
replacement m (Term node) = term_replacement m node
replacement m (Condition node) = Condition node ∷ []
replacement m (Assertion node) = Assertion node ∷ []

-- the nodes of the image of a variable in a list, where the other variables stay
abbrev pub image_nodes : List Image → Var → List Node
image_nodes list x = inner_term (images_in list x)

-- what stands for a node where the images of a list are put in
abbrev pub nodes_for : List Image → Node → List Node
nodes_for list node = replacement (images_in list) node
