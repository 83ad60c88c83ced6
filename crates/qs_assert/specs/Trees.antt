-- Terms, conditions and assertions as trees.
use Rattle.std.specs.Prelude.{ℕ, ℤ, List, [], ◌∷◌}
use Rattle.qs_assert.specs.declared.variable.Var.{Var}

-- Terms are over whole numbers without bound.
mutual
  pub data TermTree : Type 0 where
    number : ℤ → TermTree
    variable : Var → TermTree
    add : TermTrees → TermTree
    sub : TermTree → TermTree → TermTree
    mul : TermTrees → TermTree
    div : TermTree → ℕ → TermTree
    wrapu : TermTree → TermTree
    wraps : TermTree → TermTree
    bits : TermTree → TermTree

  pub data TermTrees : Type 0 where
    no_terms : TermTrees
    term_and : TermTree → TermTrees → TermTrees

mutual
  pub data CondTree : Type 0 where
    le lt eq ne : TermTree → TermTree → CondTree
    not : CondTree → CondTree
    and or : CondTrees → CondTree

  pub data CondTrees : Type 0 where
    no_conds : CondTrees
    cond_and : CondTree → CondTrees → CondTrees

-- Assertions are natural numbers or infinity. A function goes by its number, a definition by the bytes
-- of its name.
mutual
  pub data AssertionTree : Type 0 where
    natural : ℕ → AssertionTree
    infinity : AssertionTree
    cost : ℕ → AssertionTree
    num : TermTree → AssertionTree
    total greatest product : AssertionTrees → AssertionTree
    guard : CondTree → AssertionTree → AssertionTree
    choose : CondTree → AssertionTree → AssertionTree → AssertionTree
    named : List ℕ → AssertionTree

  pub data AssertionTrees : Type 0 where
    no_assertions : AssertionTrees
    assertion_and : AssertionTree → AssertionTrees → AssertionTrees

-- a list of trees as parts
abbrev pub terms_of : List TermTree → TermTrees
terms_of [] = no_terms
terms_of (t ∷ ts) = term_and t (terms_of ts)

abbrev pub conds_of : List CondTree → CondTrees
conds_of [] = no_conds
conds_of (c ∷ cs) = cond_and c (conds_of cs)

abbrev pub assertions_of : List AssertionTree → AssertionTrees
assertions_of [] = no_assertions
assertions_of (a ∷ others) = assertion_and a (assertions_of others)

-- the parts as a list
abbrev pub term_list : TermTrees → List TermTree
term_list no_terms = []
term_list (term_and t ts) = t ∷ term_list ts

abbrev pub cond_list : CondTrees → List CondTree
cond_list no_conds = []
cond_list (cond_and c cs) = c ∷ cond_list cs

abbrev pub assertion_list : AssertionTrees → List AssertionTree
assertion_list no_assertions = []
assertion_list (assertion_and a others) = a ∷ assertion_list others
