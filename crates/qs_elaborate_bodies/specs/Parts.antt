-- What expressions give in core: a list of statements, a value, and the temporaries of the function so far.
use Rattle.std.specs.Prelude.{ℕ, Bool, true, false, List, [], ◌∷◌, ◌++◌, length, if◌then◌else◌}
use Rattle.qs_memory.specs.declared.scalar.Scalar.{Scalar}
use Rattle.qs_core.specs.declared.numbers.Target.TheVariants.{Variable, Temporary}
use Rattle.qs_core.specs.Trees.{CoreExprTree, variable, temporary, load, CoreStmtTree, skip, seq, assign, store, stmts_of}
use Rattle.qs_core.specs.Expressions.{type_of}
use Rattle.qs_elaborate_bodies.specs.Literals.{is_literal}

-- ---- temporaries: their types, in the order of their numbers

abbrev pub Temporaries : Type 0
Temporaries = List Scalar

-- the number of the next one
abbrev pub next_number : Temporaries → ℕ
next_number ts = length ts

abbrev pub with_temporary : Temporaries → Scalar → Temporaries
with_temporary ts s = ts ++ s ∷ []

abbrev pub keep : (temporary : ℕ) → CoreExprTree → CoreStmtTree
keep k a = assign (Temporary k) a

-- ---- what an expression gives, and what one gives whose value is discarded

pub record Valued : Type 0 where
  pub statements : List CoreStmtTree
  pub value : CoreExprTree
  pub temporaries : Temporaries

pub record Listed : Type 0 where
  pub statements : List CoreStmtTree
  pub temporaries : Temporaries

abbrev pub pure : CoreExprTree → Temporaries → Valued
pure a ts = record { statements = []; value = a; temporaries = ts }

abbrev pub with_value : (CoreExprTree → CoreExprTree) → Valued → Valued
with_value f a = record a { value = f a.value }

-- one list after the other
abbrev pub in_turn : Listed → Listed → Listed
in_turn a b = record { statements = a.statements ++ b.statements; temporaries = b.temporaries }

abbrev pub before : Listed → Valued → Valued
before a b = record { statements = a.statements ++ b.statements; value = b.value; temporaries = b.temporaries }

-- ---- operands

abbrev pub in_temporary : Valued → Valued
in_temporary a = record {
  statements = a.statements ++ keep (next_number a.temporaries) a.value ∷ [];
  value = temporary (type_of a.value) (next_number a.temporaries);
  temporaries = with_temporary a.temporaries (type_of a.value);
}

-- what is no literal is put in a temporary, right after its own list
abbrev pub saved : Valued → Valued
saved a = if is_literal a.value then a else in_temporary a

-- an earlier operand, where it is known whether a later one has statements
abbrev pub saved_if : (later_acts : Bool) → Valued → Valued
saved_if true a = saved a
saved_if false a = a

abbrev pub joined : (CoreExprTree → CoreExprTree → CoreExprTree) → Valued → Valued → Valued
joined f a b = record { statements = a.statements ++ b.statements; value = f a.value b.value; temporaries = b.temporaries }

-- ---- where a value stands that is read or written

pub data Location : Type 0 where
  plain : (variable : ℕ) → Location
  pointed : (address : CoreExprTree) → Location

pub record Located : Type 0 where
  pub statements : List CoreStmtTree
  pub location : Location
  pub temporaries : Temporaries

abbrev pub at_address : Valued → Located
at_address a = record { statements = a.statements; location = pointed a.value; temporaries = a.temporaries }

-- the address is an operand; a plain variable has none
abbrev pub with_saved_address : List CoreStmtTree → Location → Temporaries → Located
with_saved_address ss (plain x) ts = record { statements = ss; location = plain x; temporaries = ts }
with_saved_address ss (pointed a) ts = at_address (saved (record { statements = ss; value = a; temporaries = ts }))

abbrev pub address_saved_if : (later_acts : Bool) → Located → Located
address_saved_if true l = with_saved_address l.statements l.location l.temporaries
address_saved_if false l = l

abbrev pub value_at : Scalar → Location → CoreExprTree
value_at s (plain x) = variable s x
value_at s (pointed a) = load s a

abbrev pub value_read : Scalar → Located → Valued
value_read s l = record { statements = l.statements; value = value_at s l.location; temporaries = l.temporaries }

abbrev pub written : Scalar → Location → CoreExprTree → CoreStmtTree
written s (plain x) b = assign (Variable x) b
written s (pointed a) b = store s a b

-- ---- one statement

-- an empty list is Skip, a list of one is that statement
abbrev pub one_statement : List CoreStmtTree → CoreStmtTree
one_statement [] = skip
one_statement (s ∷ []) = s
one_statement (s ∷ r ∷ rest) = seq (stmts_of (s ∷ r ∷ rest))
