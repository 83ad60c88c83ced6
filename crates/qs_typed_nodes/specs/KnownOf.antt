-- What is known that tables in code stand for.
use Rattle.std.specs.Prelude.{ℕ, List, map, Option, Result, Vec}
use Rattle.std.specs.declared.alloc.Global.{Global}
use Rattle.indexmap.specs.IndexMap.{IndexMap}
use Rattle.qs_memory.specs.declared.scalar.Scalar.{Scalar}
use Rattle.qs_syntax.specs.TreeOf.{exprs_tree}
use Rattle.qs_syntax.specs.declared.expressions.Expr.{Expr}
use Rattle.qs_types.specs.EnvOf.{env_tree}
use Rattle.qs_types.specs.TypeNamesOf.{names_tree}
use Rattle.qs_types.specs.declared.referent.Referent.{Referent}
use Rattle.qs_typed_nodes.specs.Known as pure
use Rattle.qs_typed_nodes.specs.PlacesOf.{locals_tree, statics_tree}
use Rattle.qs_typed_forms.specs.Results.{Gives, listed}
use Rattle.qs_typed_trees.specs.TreeOf.{arguments_tree}
use Rattle.qs_typed_nodes.specs.TypesOf.{types_tree}
use Rattle.qs_typed_trees.specs.declared.expressions.Argument.{Argument}
use Rattle.qs_typed_nodes.specs.declared.known.Known.{Known}
use Rattle.qs_typed_nodes.specs.declared.known.Designator.{Designator}

abbrev pub header_tree : ℕ × Vec Scalar Global → pure.Header
header_tree h = record { node = h.0; parameters = h.1.items }

abbrev pub headers_tree : List (ℕ × Vec Scalar Global) → List pure.Header
headers_tree hs = map header_tree hs

abbrev pub table_headers : {S : Type 0} → IndexMap ℕ (Vec Scalar Global) S → List pure.Header
table_headers table = headers_tree table.entries

abbrev pub designator_tree : Designator → pure.Designator
designator_tree d = record { callee = d.callee; parameters = d.parameters.items }

abbrev pub known_tree : Known → pure.Known
known_tree k = record {
  types = types_tree k.types.now;
  referents = k.referents.now;
  result = k.result;
  structs = env_tree k.env.now;
  type_names = names_tree k.type_names.now;
  headers = headers_tree k.headers.now.entries;
  locals = locals_tree k.locals.now;
  statics = statics_tree k.statics.now;
  functions = k.functions.now.keys;
}

-- ---- answers from what is known

-- what is known of this is what the answer stands for
abbrev pub Knows : {X T A E : Type 0} → (view : T → A) → (pure.Known → X → Option A) → Known → X → Result T E → Type 0
Knows view definition k x result = Gives view (definition (known_tree k) x) result

-- what is called by this name
abbrev pub Designates : {E : Type 0} → Known → (name : List ℕ) → Referent → Result Designator E → Type 0
Designates k name referent result = Gives designator_tree (pure.designated_by (known_tree k) name referent) result

-- the arguments of a call, whose parameters have these types
abbrev pub KnowsArguments : {E : Type 0} → Known → (parameters : List Scalar) → List Expr → Result (Vec Argument Global) E → Type 0
KnowsArguments k parameters es result = Gives (listed arguments_tree) (pure.arguments_known (known_tree k) parameters (exprs_tree es)) result
