-- What is known in the examples: char c; int i; unsigned u; int *p; char *t; placed: int x; int a[3]; struct s {char m; int n;} v; struct s *q;
-- of file scope: int g; char h[2]; functions: int f(char, int *); void k(void); putchar and getchar.
use Rattle.std.proofs.Common.{ℕ, true, false, List, [], ◌∷◌, Option, Some}
use Rattle.qs_syntax.specs.Trees.{unnumbered, ExprTree, expr}
use Rattle.qs_syntax.specs.Trees as trees
use Rattle.qs_types.specs.Types.{TypeTree, int, unsigned, char, void, pointer, array, struct, Structs}
use Rattle.qs_types.specs.Contexts.{no_labels, Binding, local_variable, file_variable, function, Context, given_functions, no_type_names, add_tag}
use Rattle.qs_meaning.specs.Names.{Scope}
use Rattle.qs_meaning.specs.Forms.{Form, TypedExpr}

abbrev pub structs : Structs
structs = Some (record { name = 109 ∷ []; type = char } ∷ record { name = 110 ∷ []; type = int } ∷ []) ∷ []

abbrev pub local : ℕ → (node : ℕ) → TypeTree → Binding
local x node t = record { name = x ∷ []; entity = local_variable node (Some t) }

abbrev pub context : Context
context = record {
  structs = structs;
  type_names = add_tag no_type_names (115 ∷ []) 0;
  inner =
      local 99 1 char ∷ local 105 2 int ∷ local 117 3 unsigned ∷ local 112 4 (pointer int) ∷ local 116 5 (pointer char)
      ∷ local 120 6 int ∷ local 97 7 (array int 3) ∷ local 118 8 (struct 0) ∷ local 113 9 (pointer (struct 0)) ∷ [];
  outer =
      record { name = 103 ∷ []; entity = file_variable 10 (Some int) }
      ∷ record { name = 104 ∷ []; entity = file_variable 11 (Some (array char 2)) }
      ∷ record { name = 102 ∷ []; entity = function 12 (Some (record { parameters = char ∷ pointer int ∷ []; result = int })) true }
      ∷ record { name = 107 ∷ []; entity = function 13 (Some (record { parameters = []; result = void })) true }
      ∷ given_functions;
  result = Some char;
  in_loop = true;
  in_switch = false;
  labels = no_labels;
}

abbrev pub scope : Scope
scope = record {
  context = context;
  locals = record { variables = 1 ∷ 2 ∷ 3 ∷ 4 ∷ 5 ∷ 9 ∷ []; placed = 6 ∷ 7 ∷ 8 ∷ [] };
  statics = record { variables = 10 ∷ 11 ∷ []; texts = 40 ∷ 41 ∷ [] };
  functions = (102 ∷ []) ∷ (107 ∷ []) ∷ [];
}

abbrev pub u : ExprTree
u = expr (unnumbered 0) (trees.name (117 ∷ []))

abbrev pub x : ExprTree
x = expr (unnumbered 0) (trees.name (120 ∷ []))

abbrev pub v : ExprTree
v = expr (unnumbered 0) (trees.name (118 ∷ []))

abbrev pub h : ExprTree
h = expr (unnumbered 0) (trees.name (104 ∷ []))

-- a text whose node has this number
abbrev pub text_at : (node : ℕ) → List ℕ → ExprTree
text_at node bytes = expr (record { id = node; token = 0 }) (trees.text bytes)

-- an expression of this type and form
abbrev pub is : TypeTree → Form → Option TypedExpr
is type form = Some (record { type = type; form = form })
