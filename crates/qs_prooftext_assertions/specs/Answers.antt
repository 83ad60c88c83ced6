-- What the readers of lists and atoms are given and what they answer.
use Rattle.std.specs.Prelude.{◌≡◌, ◌⊎◌, ℕ, List, Option, Some, None, Result, Ok, Err}
use Rattle.std.specs.Borrow.{Bor}
use Rattle.qs_sexpr.specs.Places.{LiesIn, LieIn}
use Rattle.qs_sexpr.specs.Trees.{Sexp, number, symbol, list, Sexps, no_parts, part_and, sexp_nodes, sexps_nodes, count}
use Rattle.qs_sexpr.specs.declared.node.Node.{Node}
use Rattle.qs_prooftext_meaning.specs.declared.fault.TextFault.{TextFault}
use Rattle.qs_prooftext_meaning.specs.declared.fault.TextFault.TheVariants as faults
use Rattle.qs_prooftext_assertions.specs.declared.parts.Part.{Part}
use Rattle.qs_prooftext_assertions.specs.declared.parts.Part.TheVariants.{Number, Symbol, List as Parts}
use Rattle.qs_prooftext_meaning.specs.Meanings.{Answer}

-- the answer is what is due, or want of memory
abbrev pub Gives : {A T : Type 0} → (T → A) → Answer A → Result T TextFault → Type 0
Gives view due (Ok x) = due ≡ Ok (view x)
Gives view due (Err fault) = (due ≡ Err fault) ⊎ (fault ≡ faults.NoMemory)

-- these are the nodes of the list or atom, which stands in the text
pub record Stands (text : List ℕ) (nodes : List Node) (s : Sexp) : Type 0 where
  pub nodes_are : nodes ≡ sexp_nodes s
  pub lies : LiesIn text s

-- these are the nodes of the lists and atoms, which stand in the text
pub record StandAll (text : List ℕ) (nodes : List Node) (ss : Sexps) : Type 0 where
  pub nodes_are : nodes ≡ sexps_nodes ss
  pub lie : LieIn text ss

-- a list at this place, with so many parts, which have these nodes
pub record IsList (text : List ℕ) (s : Sexp) (at n : ℕ) (nodes : List Node) : Type 0 where
  pub parts : Sexps
  pub same : s ≡ list at parts
  pub counts : n ≡ count parts
  pub stand : StandAll text nodes parts

abbrev pub IsPart : List ℕ → Sexp → Part → Type 0
IsPart text s (Number at n) = s ≡ number at n
IsPart text s (Symbol at w) = s ≡ symbol at w.now
IsPart text s (Parts at n nodes) = IsList text s at n nodes.now

-- ---- heads

-- the first part is no symbol
abbrev pub HasNoHead : Sexps → Type 0
HasNoHead no_parts = Unit {0}
HasNoHead (part_and (number at n) parts) = Unit {0}
HasNoHead (part_and (symbol at w) parts) = ⊥
HasNoHead (part_and (list at inner) parts) = Unit {0}

-- the first part is this symbol, and the others have these nodes
pub record IsHeaded (text : List ℕ) (ss : Sexps) (word : List ℕ) (others : List Node) : Type 0 where
  pub place : ℕ
  pub parts : Sexps
  pub same : ss ≡ part_and (symbol place word) parts
  pub stand : StandAll text others parts

abbrev pub IsHead : List ℕ → Sexps → Option (Bor (List ℕ) × Bor (List Node)) → Type 0
IsHead text ss None = HasNoHead ss
IsHead text ss (Some head) = IsHeaded text ss head.0.now head.1.now
