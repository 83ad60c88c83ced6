-- The table of the values of definitions.
use Rattle.std.specs.Prelude.{◌≡◌, ℕ, ℤ, List, [], ◌∷◌, ◌++◌, is_some, if◌then◌else◌, Result, OnOk}
use Rattle.std.specs.Map.{lookup}
use Rattle.qs_base.specs.declared.memory.NoMemory.{NoMemory}
use Rattle.qs_assert.specs.declared.define.Define.{Define}
use Rattle.qs_assert.specs.declared.define.Amount.{Amount}
use Rattle.qs_assert.specs.Trees.{AssertionTree}
use Rattle.qs_assert.specs.Listing.{assertion_nodes}
use Rattle.qs_assert.specs.Bounds.{same_name}
use Rattle.qs_assert.specs.Evaluations.{Amounts, nodes_amount}

-- the amount of an assertion where the definitions have these amounts
abbrev pub reckoned : List ℤ → List ℕ → Amounts → AssertionTree → Amount
reckoned args costs known a = nodes_amount args costs known (assertion_nodes a)

-- the table with the amount of a name, unless it has one
abbrev pub with_amount : List ℕ → Amount → Amounts → Amounts
with_amount name amount known =
    if is_some (lookup (same_name name) known) then known else known ++ (name, amount) ∷ []

-- the table with a definition, unless its name has one
abbrev pub with_define : List ℤ → List ℕ → Define → Amounts → Amounts
with_define args costs d known = with_amount d.name (reckoned args costs known d.body) known

-- adds a definition to the table, if memory suffices
abbrev pub AddsDefine : List ℤ → List ℕ → Define → (old new : Amounts) → Result (Unit {0}) NoMemory → Type 0
AddsDefine args costs d old new result = OnOk result (new ≡ with_define args costs d old)

-- the table with further definitions, each in its turn
abbrev pub tabled : List ℤ → List ℕ → List Define → Amounts → Amounts
tabled args costs [] known = known
tabled args costs (d ∷ ds) known = tabled args costs ds (with_define args costs d known)
