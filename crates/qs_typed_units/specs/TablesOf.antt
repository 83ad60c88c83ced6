-- The tables of a unit that tables in code stand for, and when they are those of the unit.
use Rattle.std.specs.Prelude.{◌≡◌, ℕ, List, [], Option, Some, map, Result, Vec}
use Rattle.std.specs.declared.alloc.Global.{Global}
use Rattle.qs_syntax.specs.Trees.{FunctionTree, UnitTree}
use Rattle.qs_types.specs.Contexts.{Context, context_with}
use Rattle.qs_types.specs.EnvOf.{env_tree}
use Rattle.qs_types.specs.TypeNamesOf.{names_tree}
use Rattle.qs_types.specs.Recorded.{type_names_of}
use Rattle.qs_types.specs.References.{TextBlock, literal_blocks}
use Rattle.qs_types.specs.UnitRules.{structs_of}
use Rattle.qs_typing_findings.specs.NodeReferents.{unit_referents}
use Rattle.qs_typing_findings.specs.NodeTypes.{unit_types}
use Rattle.qs_meaning.specs.Units.{file_variables_in, functions_in, name_with_body}
use Rattle.qs_typed_nodes.specs.KnownOf.{headers_tree}
use Rattle.qs_typed_units.specs.KnownPrograms.{Tables}
use Rattle.qs_typed_units.specs.KnownUnits.{headers_behind}
use Rattle.qs_typed_nodes.specs.PlacesOf.{statics_tree}
use Rattle.qs_typed_forms.specs.Results.{Gives}
use Rattle.qs_typed_nodes.specs.TypesOf.{types_tree}
use Rattle.qs_typed_units.specs.declared.tables.Tables.{Tables as CodeTables}

abbrev pub tables_tree : CodeTables → Tables
tables_tree t = record {
  types = types_tree t.types.now;
  referents = t.referents.now;
  structs = env_tree t.env.now;
  type_names = names_tree t.type_names.now;
  headers = headers_tree t.headers.entries;
  statics = statics_tree t.statics;
  functions = t.functions.keys;
}

-- the structs and the names of types alone
abbrev pub structs_known : CodeTables → Context
structs_known t = context_with (tables_tree t).structs (tables_tree t).type_names

abbrev pub numbers : Vec ℕ Global → List ℕ
numbers v = v.items

abbrev pub number_lists : Vec (Vec ℕ Global) Global → List (List ℕ)
number_lists all = map numbers all.items

-- the name of a function, if it has a body
abbrev pub defined_name : FunctionTree → List (List ℕ)
defined_name f = name_with_body f.name f.body

abbrev pub text_nodes : List TextBlock → List ℕ
text_nodes ts = map (λ (t : TextBlock). t.node) ts

-- what the tables have of this is what the answer stands for
abbrev pub Finds : {X T A E : Type 0} → (view : T → A) → (Tables → X → Option A) → CodeTables → X → Result T E → Type 0
Finds view definition t x result = Gives view (definition (tables_tree t) x) result

pub record AreOf (t : Tables) (unit : UnitTree) : Type 0 where
  pub types : t.types ≡ unit_types unit
  pub referents : t.referents ≡ unit_referents unit
  pub structs : t.structs ≡ structs_of unit
  pub type_names : t.type_names ≡ type_names_of unit
  pub headers : headers_behind t.types [] unit ≡ Some t.headers
  pub variables : t.statics.variables ≡ file_variables_in unit
  pub texts : t.statics.texts ≡ text_nodes (literal_blocks unit)
  pub functions : t.functions ≡ functions_in unit
