-- What is still to be read of an assertion.
use Rattle.std.specs.Prelude.{◌≡◌, ◌⊎◌, ℕ, zero, suc, ◌+◌, ℤ, pos, negsuc, Bool, if◌then◌else◌, List, [], ◌∷◌, ◌++◌, ◌<◌, length, reverse, Option, Some, None, Vec, Result, Ok, Err, IfOk}
use Rattle.std.specs.Borrow.{Bor}
use Rattle.std.specs.Option.{option_to_list}
use Rattle.std.specs.declared.alloc.Global.{Global}
use Rattle.qs_assert.specs.declared.node.Node.{Node as AssertNode}
use Rattle.qs_assert.specs.declared.node.Node.TheVariants as nodes
use Rattle.qs_assert.specs.declared.node.TermNode.TheVariants as term_nodes
use Rattle.qs_assert.specs.declared.node.AssertionNode.TheVariants as assertion_nodes
use Rattle.qs_assert.specs.declared.variable.Var.{Var}
use Rattle.qs_sexpr.specs.Trees.{Sexp, symbol, list, Sexps, part_and, count}
use Rattle.qs_sexpr.specs.declared.node.Node.{Node}
use Rattle.qs_prooftext_assertions.specs.declared.assertions.Headed.{Headed}
use Rattle.qs_prooftext_meaning.specs.declared.context.Context.{Context}
use Rattle.qs_prooftext_meaning.specs.declared.fault.TextFault.{TextFault}
use Rattle.qs_prooftext_meaning.specs.declared.fault.TextFault.TheVariants as faults
use Rattle.qs_prooftext_assertions.specs.declared.sorts.Sort.{Sort}
use Rattle.qs_prooftext_assertions.specs.declared.sorts.Sort.TheVariants.{Term, Condition, Assertion, Definition, Divisor, OldVariable, Function, KnownName, Name}
use Rattle.qs_prooftext_assertions.specs.Answers.{Gives, Stands, StandAll}
use Rattle.qs_prooftext_meaning.specs.Contexts.{old_by_word, setting_of}
use Rattle.qs_prooftext_assertions.specs.Flattening.{flat, flats, joined}
use Rattle.qs_prooftext_meaning.specs.Meanings.{Answer}
use Rattle.qs_prooftext_meaning.specs.Settings.{Setting, look_up}

-- of what is due these nodes are out, and the rest has a list or atom for each sort, the last first
pub record Remains (g : Setting) (text : List ℕ) (rest : List Node) (todo : List Sort) (out : List AssertNode) (due : Answer (List AssertNode)) : Type 0 where
  pub forest : Sexps
  pub stand : StandAll text rest forest
  pub as_many : length (reverse todo) ≡ count forest
  pub same : joined (Ok out) (flats g (reverse todo) forest) ≡ due

-- what is left, as nodes
abbrev pub nodes_in : Result (Bor (List Node)) TextFault → Result (List Node) TextFault
nodes_in (Ok rest) = Ok rest.now
nodes_in (Err fault) = Err fault

abbrev pub Goes : Setting → (text : List ℕ) → Result (List Node) TextFault → (todo : List Sort) → (out : List AssertNode) → (due : Answer (List AssertNode)) → Type 0
Goes g text (Ok rest) todo out due = Remains g text rest todo out due
Goes g text (Err fault) todo out due = (due ≡ Err fault) ⊎ (fault ≡ faults.NoMemory)

-- something of the rest is read, if there is a rest
abbrev pub Shortens : (rest : List Node) → Result (Bor (List Node)) TextFault → Type 0
Shortens rest result = IfOk result (λ left. 0 < length rest → length left.now < length rest)

-- one step: what is due stays the same, some of it being read
abbrev pub Steps :
    Context → (rest : List Node) → (todo todo_now : Vec Sort Global) → (out out_now : Vec AssertNode Global)
    → Result (Bor (List Node)) TextFault → Type 0
Steps c rest todo todo_now out out_now result =
    (due : Answer (List AssertNode)) → Remains (setting_of c) c.text.now rest todo.items out.items due → 0 < length rest
    → Goes (setting_of c) c.text.now (nodes_in result) todo_now.items out_now.items due

-- the nodes of what the list or atom with these nodes means as one of the sort
abbrev pub GivesNodes :
    Context → (nodes : List Node) → Sort → Result (Vec AssertNode Global) TextFault → Type 0
GivesNodes c nodes sort result =
    (s : Sexp) → Stands c.text.now nodes s → Gives (λ read. read.items) (flat (setting_of c) sort s) result

-- a list is opened: its own node is out, and its parts are to be read
pub record Opened (g : Setting) (flat_list : Answer (List AssertNode)) (parts : Sexps) (todo todo_now : List Sort) (out out_now : List AssertNode) : Type 0 where
  pub sorts : List Sort
  pub emitted : List AssertNode
  pub same : flat_list ≡ joined (Ok emitted) (flats g sorts parts)
  pub as_many : length sorts ≡ count parts
  pub out_is : out_now ≡ out ++ emitted
  pub todo_is : reverse todo_now ≡ sorts ++ reverse todo

abbrev pub GivesOpened : Setting → (flat_list : Answer (List AssertNode)) → (parts : Sexps) → (todo todo_now : List Sort) → (out out_now : List AssertNode) → Result (Unit {0}) TextFault → Type 0
GivesOpened g due parts todo todo_now out out_now (Ok done) = Opened g due parts todo todo_now out out_now
GivesOpened g due parts todo todo_now out out_now (Err fault) = (due ≡ Err fault) ⊎ (fault ≡ faults.NoMemory)

-- so many parts, the head with them
abbrev pub HasParts : ℕ → Sexps → Type 0
HasParts n parts = n ≡ count parts + 1

-- the list with this place, head, count of parts and nodes behind its head is opened
abbrev pub Opens :
    Context → Sort → Headed → (todo todo_now : Vec Sort Global) → (out out_now : Vec AssertNode Global)
    → Result (Unit {0}) TextFault → Type 0
Opens c sort l todo todo_now out out_now result =
    (place : ℕ) (parts : Sexps) → StandAll c.text.now l.others.now parts → HasParts l.count parts
    → GivesOpened (setting_of c) (flat (setting_of c) sort (list l.at (part_and (symbol place l.word.now) parts)))
    parts todo.items todo_now.items out.items out_now.items result

-- ---- the nodes of atoms

-- the node that an atom makes, if it makes one
abbrev pub GivesNode : Answer (List AssertNode) → Result (Option AssertNode) TextFault → Type 0
GivesNode due result = Gives option_to_list due result

abbrev pub natural_flat : (at : ℕ) → ℤ → Answer (List AssertNode)
natural_flat at (pos n) = Ok (nodes.Assertion (assertion_nodes.Natural n) ∷ [])
natural_flat at (negsuc n) = Err (faults.UnknownForm at)

abbrev pub divisor_flat : (at : ℕ) → ℤ → Answer (List AssertNode)
divisor_flat at (pos zero) = Err (faults.UnknownForm at)
divisor_flat at (pos (suc n)) = Ok []
divisor_flat at (negsuc n) = Err (faults.UnknownForm at)

abbrev pub number_flat : Sort → (at : ℕ) → ℤ → Answer (List AssertNode)
number_flat Term at n = Ok (nodes.Term (term_nodes.Number n) ∷ [])
number_flat Condition at n = Err (faults.UnknownForm at)
number_flat Assertion at n = natural_flat at n
number_flat Definition at n = natural_flat at n
number_flat Divisor at n = divisor_flat at n
number_flat (OldVariable whole) at n = Err (faults.UnknownForm at)
number_flat (Function whole) at n = Err (faults.UnknownForm at)
number_flat (KnownName whole) at n = Err (faults.UnknownForm at)
number_flat Name at n = Err (faults.UnknownForm at)

abbrev pub variable_flat : (place : ℕ) → Option Var → Answer (List AssertNode)
variable_flat place None = Err (faults.UnknownForm place)
variable_flat place (Some x) = Ok (nodes.Term (term_nodes.Variable x) ∷ [])

abbrev pub function_flat : (place : ℕ) → Option ℕ → Answer (List AssertNode)
function_flat place None = Err (faults.NoSuchFunction place)
function_flat place (Some f) = Ok (nodes.Assertion (assertion_nodes.Cost (record { 0 = f })) ∷ [])

abbrev pub name_flat : (name : List ℕ) → Answer (List AssertNode)
name_flat name = Ok (nodes.Assertion (assertion_nodes.Named name) ∷ [])

abbrev pub known_flat : (place : ℕ) → Bool → (name : List ℕ) → Answer (List AssertNode)
known_flat place known name = if known then name_flat name else Err (faults.UnknownForm place)

-- a name with a definition
abbrev pub named_flat : Setting → (place : ℕ) → (name : List ℕ) → Answer (List AssertNode)
named_flat g place name = known_flat place (g.has_name name) name

abbrev pub symbol_flat : Setting → Sort → (at : ℕ) → (word : List ℕ) → Answer (List AssertNode)
symbol_flat g Term at w = variable_flat at (look_up w g.variables)
symbol_flat g Condition at w = Err (faults.UnknownForm at)
symbol_flat g Assertion at w = Err (faults.UnknownForm at)
symbol_flat g Definition at w = Err (faults.UnknownForm at)
symbol_flat g Divisor at w = Err (faults.UnknownForm at)
symbol_flat g (OldVariable whole) at w = variable_flat whole (old_by_word g.variables w)
symbol_flat g (Function whole) at w = function_flat whole (look_up w g.functions)
symbol_flat g (KnownName whole) at w = named_flat g whole w
symbol_flat g Name at w = name_flat w
