-- The pure contexts that contexts in code stand for, and how they change.
use Rattle.std.specs.Prelude.{ℕ, ◌-◌, Bool, Option, length, take, drop, option_map}
use Rattle.qs_typing_findings.specs.declared.context.Around.{Around}
use Rattle.qs_types.specs.Types.{TypeTree, Structs}
use Rattle.qs_types.specs.TypeOf.{type_tree}
use Rattle.qs_types.specs.EnvOf.{env_tree}
use Rattle.qs_types.specs.TypeNamesOf.{names_tree}
use Rattle.qs_types.specs.Contexts as contexts
use Rattle.qs_typing_findings.specs.ScopesOf.{inner_bindings, outer_bindings}
use Rattle.qs_typing_findings.specs.declared.context.Context.{Context}
use Rattle.qs_typing_findings.specs.declared.context.Labels.{Labels}

abbrev pub labels_tree : Labels → contexts.Labels
labels_tree l = record { operand = option_map type_tree l.operand; values = l.values.items; has_default = l.has_default }

abbrev pub context_tree : Context → contexts.Context
context_tree c = record {
  structs = env_tree c.structs;
  type_names = names_tree c.type_names;
  inner = inner_bindings c.names;
  outer = outer_bindings c.names;
  result = option_map type_tree c.result;
  in_loop = c.in_loop;
  in_switch = c.in_switch;
  labels = labels_tree c.labels;
}

-- what a scope stands in: how many names are outside of the scope around it, whether a loop and a switch are around that one, and its labels
pub record Surroundings : Type 0 where
  pub names : ℕ
  pub in_loop : Bool
  pub in_switch : Bool
  pub labels : contexts.Labels

abbrev pub surroundings_of : contexts.Context → Surroundings
surroundings_of c = record { names = length c.outer; in_loop = c.in_loop; in_switch = c.in_switch; labels = c.labels }

abbrev pub around_tree : Around → Surroundings
around_tree a = record { names = a.names; in_loop = a.in_loop; in_switch = a.in_switch; labels = labels_tree a.labels }

-- what is known behind a scope that stands in these surroundings
abbrev pub outer_scope : Surroundings → contexts.Context → contexts.Context
outer_scope around c = record c {
  inner = take (length c.outer - around.names) c.outer;
  outer = drop (length c.outer - around.names) c.outer;
  in_loop = around.in_loop;
  in_switch = around.in_switch;
  labels = around.labels;
}

abbrev pub with_result : contexts.Context → Option TypeTree → contexts.Context
with_result c t = record c { result = t }

abbrev pub with_structs : contexts.Context → Structs → contexts.Context
with_structs c s = record c { structs = s }
