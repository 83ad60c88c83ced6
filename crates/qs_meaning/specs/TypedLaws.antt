-- What is promised of the typed trees of expressions: where an expression has a type, it has a typed tree.
use Rattle.std.specs.Prelude.{◌≡◌, ℕ, Bool, true, false, List, [], ◌∷◌, ◌++◌, Some, None, is_some}
use Rattle.std.specs.List.{list_all}
use Rattle.qs_syntax.specs.Trees.{ExprTree, FunctionTree, UnitTree}
use Rattle.qs_types.specs.Types.{TypeTree, MemberTree, Structs, is_scalar}
use Rattle.qs_types.specs.Layout.{is_complete, struct_of, layout_of}
use Rattle.qs_types.specs.Contexts.{Entity, local_variable, file_variable, function, given, Binding, Context, entity_of}
use Rattle.qs_types.specs.Expressions.{type_of}
use Rattle.qs_types.specs.Placed.{is_one_of, addressed}
use Rattle.qs_meaning.specs.Forms.{Form}
use Rattle.qs_meaning.specs.Names.{Scope}
use Rattle.qs_types.specs.Conversions.{promoted}
use Rattle.qs_types.specs.StatementRules.{case_value}
use Rattle.qs_types.specs.UnitRules.{function_faults}
use Rattle.qs_types.specs.WellTyped.{WellTyped}
use Rattle.qs_meaning.specs.Expressions.{typed}
use Rattle.qs_memory.specs.Partial.{◌>>=◌}
use Rattle.qs_meaning.specs.Statements.{case_typed}
use Rattle.qs_meaning.specs.Typed.{case_label, Function, TypedProgram}
use Rattle.qs_meaning.specs.Units.{function_typed, typed_of}

-- what holds of every scope of a well typed unit: arrays and structs are placed, variables and members have complete types, and structs
-- that have members are laid out
pub record IsReady (s : Scope) : Type 0 where
  pub placed : (x : List ℕ) (node : ℕ) (t : TypeTree) → entity_of s.context x ≡ Some (local_variable node (Some t)) → is_scalar t ≡ false
      → is_one_of node s.locals.placed ≡ true
  pub local_complete : (x : List ℕ) (node : ℕ) (t : TypeTree) → entity_of s.context x ≡ Some (local_variable node (Some t)) → is_complete s.context.structs t ≡ true
  pub file_complete : (x : List ℕ) (node : ℕ) (t : TypeTree) → entity_of s.context x ≡ Some (file_variable node (Some t)) → is_complete s.context.structs t ≡ true
  pub members : (k : ℕ) (ms : List MemberTree) → struct_of s.context.structs k ≡ Some ms → list_all (λ m. is_complete s.context.structs m.type) ms ≡ true
  pub laid_out : (k : ℕ) (ms : List MemberTree) → struct_of s.context.structs k ≡ Some ms → is_some (layout_of s.context.structs k) ≡ true

-- the locals whose names are operands of `&` are placed
abbrev pub are_placed : Scope → List ℕ → Bool
are_placed s nodes = list_all (λ n. is_one_of n s.locals.placed) nodes

abbrev pub TypedWhereTypes : Type 0
TypedWhereTypes =
    (s : Scope) → IsReady s → (e : ExprTree) (t : TypeTree) → are_placed s (addressed s.context e) ≡ true → type_of s.context e ≡ Some t → (form : Form) ×
    (typed s e ≡ Some (record { type = t; form = form }))

-- ---- functions

-- at file scope: variables have complete types, and functions have types
abbrev pub EntityTyped : Structs → Entity → Type 0
EntityTyped structs (local_variable node t) = ⊥
EntityTyped structs (file_variable node None) = ⊥
EntityTyped structs (file_variable node (Some t)) = is_complete structs t ≡ true
EntityTyped structs (function node None body) = ⊥
EntityTyped structs (function node (Some signature) body) = Unit {0}
EntityTyped structs (given signature) = Unit {0}

abbrev pub AllTyped : Structs → List Binding → Type 0
AllTyped structs [] = Unit {0}
AllTyped structs (b ∷ bs) = EntityTyped structs b.entity × AllTyped structs bs

-- what holds at each place at file scope of a well typed unit
pub record IsFileScope (c : Context) : Type 0 where
  pub names : AllTyped c.structs (c.inner ++ c.outer)
  pub members : (k : ℕ) (ms : List MemberTree) → struct_of c.structs k ≡ Some ms → list_all (λ m. is_complete c.structs m.type) ms ≡ true
  pub laid_out : (k : ℕ) (ms : List MemberTree) → struct_of c.structs k ≡ Some ms → is_some (layout_of c.structs k) ≡ true

-- a function that breaks no rule has a typed tree
abbrev pub FunctionsTyped : Type 0
FunctionsTyped =
    (s : Scope) → IsFileScope s.context → (f : FunctionTree) → function_faults s.context f ≡ []
    → (fs : List Function) × (function_typed s f f.body ≡ Some fs)

-- a well typed unit has a typed tree
abbrev pub UnitsTyped : Type 0
UnitsTyped = (unit : UnitTree) → WellTyped unit → (u : TypedProgram) × (typed_of unit ≡ Some u)

-- ---- labels

-- a `case` of a switch has in the typed tree the value by which the rules on labels go: that of its expression, converted to the promoted type
-- of the operand
abbrev pub CasesHaveValues : Type 0
CasesHaveValues =
    (s : Scope) (t : TypeTree) (e : ExprTree) → s.context.labels.operand ≡ Some (promoted t)
    → case_typed s e ≡ (case_value s.context e >>= λ n. Some (case_label n))
