-- What is known of names while what a function declares is read.
use Rattle.std.specs.Prelude.{◌≡◌, ℕ, ◌+◌, ◌==◌, List, [], ◌∷◌, Option, Some, None, Result, OnOk, if◌then◌else◌, map, option_map, nat_eq}
use Rattle.std.specs.Map.{update}
use Rattle.std.specs.Option.{option_or}
use Rattle.indexmap.specs.IndexMap.{IndexMap, get}
use Rattle.qs_base.specs.Bytes.{same_bytes}
use Rattle.qs_elaborate_bodies.specs.Names.{Declared, VariableName, count_of, name_at}
use Rattle.qs_elaborate.specs.NamesOf.{variable_name_of, no_name}
use Rattle.qs_elaborate.specs.DeclaredOf.{declared_of}
use Rattle.qs_elaborate.specs.declared.names.Declared as code_declared
use Rattle.qs_elaborate.specs.declared.names.VariableName as code_names

abbrev pub name_or_none : Option VariableName → VariableName
name_or_none None = no_name
name_or_none (Some a) = a

-- how often a name was declared
abbrev pub times : Option ℕ → ℕ
times None = 0
times (Some n) = n

abbrev pub numbered_at : (node at : ℕ) → (name : List ℕ) → (ordinal : ℕ) → Option VariableName
numbered_at node at name ordinal = if at == node then Some (record { name = name; ordinal = ordinal }) else None

-- the name of what is declared at this node, if it is among these; the latest comes first
abbrev pub name_among : (node : ℕ) → List Declared → Option VariableName
name_among node [] = None
name_among node (d ∷ earlier) = option_or (name_among node earlier) (numbered_at node d.node d.name (count_of d.name earlier + 1))

-- the latest first
abbrev pub newest_first : (earlier : List Declared) → List Declared → List Declared
newest_first earlier [] = earlier
newest_first earlier (d ∷ ds) = newest_first (d ∷ earlier) ds

-- names by nodes and counts by names, of these
pub record Known (names : ℕ → Option VariableName) (counts : List ℕ → Option ℕ) (ds : List Declared) : Type 0 where
  pub names_are : (node : ℕ) → names node ≡ name_among node ds
  pub counts_are : (x : List ℕ) → times (counts x) ≡ count_of x ds

-- ---- what code does; a table of names by nodes, and one of counts by names; what speaks of a result says so only where
-- it is Ok

abbrev pub name_in : {S : Type 0} → IndexMap ℕ code_names.VariableName S → (node : ℕ) → Option VariableName
name_in names node = option_map variable_name_of (get nat_eq names node)

abbrev pub times_of : {S : Type 0} → (name : List ℕ) → IndexMap (List ℕ) ℕ S → ℕ
times_of x counts = times (get same_bytes counts x)

-- one more of this name, and of no other
abbrev pub CountsOneMore : {S A E : Type 0} → (name : List ℕ) → (old new : IndexMap (List ℕ) ℕ S) → Result A E → Type 0
CountsOneMore name old new result =
    OnOk result ((x : List ℕ) → get same_bytes new x ≡ update same_bytes (get same_bytes old) name (Some (times_of name old + 1)) x)

-- the node has this name, unless it had one
abbrev pub Names : {S A E : Type 0} → (node : ℕ) → (name : List ℕ) → (ordinal : ℕ) → (old new : IndexMap ℕ code_names.VariableName S) → Result A E
    → Type 0
Names node name ordinal old new result =
    OnOk result ((x : ℕ) → name_in new x ≡ option_or (name_in old x) (numbered_at x node name ordinal))

-- where names and counts were of these that are declared, they are of this one too
abbrev pub Notes : {S T A E : Type 0} → Declared → IndexMap ℕ code_names.VariableName S → IndexMap (List ℕ) ℕ T
    → IndexMap ℕ code_names.VariableName S → IndexMap (List ℕ) ℕ T → Result A E → Type 0
Notes d names counts new_names new_counts result =
    OnOk result ((ds : List Declared) → Known (name_in names) (get same_bytes counts) ds → Known (name_in new_names) (get same_bytes new_counts) (d ∷ ds))

-- the names are those of all that are declared
abbrev pub NamesAll : {S : Type 0} → List code_declared.Declared → IndexMap ℕ code_names.VariableName S → Type 0
NamesAll declared names = (x : ℕ) → name_in names x ≡ name_among x (newest_first [] (map declared_of declared))

abbrev pub names_at : (nodes : List ℕ) → List code_declared.Declared → List VariableName
names_at nodes declared = map (λ node. name_at node [] (map declared_of declared)) nodes
