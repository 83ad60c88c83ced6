-- What may stand at a place of a proof file, and what it is there.
use Rattle.std.specs.Prelude.{ℕ, ℤ, List, [], ◌∷◌}
use Rattle.qs_assert.specs.declared.variable.Var.{Var}
use Rattle.qs_assert.specs.Trees.{TermTree, CondTree, AssertionTree}
use Rattle.qs_entail.specs.Certificates.{CertTree, FactTree, Item}
use Rattle.qs_triples.specs.Derivations.{DerivationTree}

pub data Kind : Type 0 where
  a_term a_condition an_assertion : Kind
  -- the assertion that a definition stands for
  a_definition_body : Kind
  a_certificate a_derivation : Kind
  -- what a `range` is of
  a_range : Kind
  -- a list of items, an item, and the number of a condition, a polynomial or a member
  a_combination an_item an_index : Kind
  -- a number of at least 0, and one of at least 1
  a_natural a_divisor : Kind
  -- any name
  a_name : Kind
  -- in the list at this place: a function, a name with a definition, a variable whose value at the entry is meant
  a_function a_known_name an_old_variable : (at : ℕ) → Kind
  -- the parts of an entry
  a_precondition a_postcondition an_entry_certificate a_body : Kind

abbrev pub Of : Kind → Type 0
Of a_term = TermTree
Of a_condition = CondTree
Of an_assertion = AssertionTree
Of a_definition_body = AssertionTree
Of a_certificate = CertTree
Of a_derivation = DerivationTree
Of a_range = FactTree
Of a_combination = List Item
Of an_item = Item
Of an_index = ℤ
Of a_natural = ℕ
Of a_divisor = ℕ
Of a_name = List ℕ
Of (a_function at) = ℕ
Of (a_known_name at) = List ℕ
Of (an_old_variable at) = Var
Of a_precondition = AssertionTree
Of a_postcondition = AssertionTree
Of an_entry_certificate = CertTree
Of a_body = DerivationTree

-- one of each kind
abbrev pub Values : List Kind → Type 0
Values [] = Unit {0}
Values (k ∷ ks) = Of k × Values ks

-- What a list is, by its parts: none, so many of these kinds, two or more of one kind, or any number of one kind.
pub data Row (k : Kind) : Type 0 where
  none : Of k → Row k
  one : (a : Kind) → (Of a → Of k) → Row k
  two : (a b : Kind) → (Of a → Of b → Of k) → Row k
  three : (a b c : Kind) → (Of a → Of b → Of c → Of k) → Row k
  four : (a b c d : Kind) → (Of a → Of b → Of c → Of d → Of k) → Row k
  many any : (a : Kind) → (List (Of a) → Of k) → Row k

-- the rows of lists with a head, each with its word
abbrev pub Rows : Kind → Type 0
Rows k = List (List ℕ × Row k)
