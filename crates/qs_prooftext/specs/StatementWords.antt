-- The heads of derivations.
use Rattle.std.specs.Prelude.{ℕ, Bool, true, ◌==◌, codes, List, [], ◌∷◌}
use Rattle.qs_prooftext.specs.declared.statements.Statement.{Statement}
use Rattle.qs_prooftext.specs.declared.statements.Statement.TheVariants.{Leaf, Sequence, Conditional, Loop, Switch, Call, BalancedCall, Consequence}

abbrev pub statement_words : List (List ℕ × Statement)
statement_words =
    (codes "leaf", Leaf) ∷ (codes "seq", Sequence) ∷ (codes "if", Conditional) ∷ (codes "loop", Loop)
    ∷ (codes "switch", Switch) ∷ (codes "call", Call) ∷ (codes "bal", BalancedCall) ∷ (codes "use", Consequence) ∷ []

-- how many parts are no derivations
abbrev pub statement_leaves : Statement → ℕ
statement_leaves Leaf = 0
statement_leaves Sequence = 0
statement_leaves Conditional = 0
statement_leaves Loop = 2
statement_leaves Switch = 0
statement_leaves Call = 2
statement_leaves BalancedCall = 0
statement_leaves Consequence = 2

abbrev pub statement_takes : Statement → (n : ℕ) → Bool
statement_takes Leaf n = n == 0
statement_takes Sequence n = true
statement_takes Conditional n = n == 2
statement_takes Loop n = n == 4
statement_takes Switch n = true
statement_takes Call n = n == 2
statement_takes BalancedCall n = n == 0
statement_takes Consequence n = n == 3
