-- The rows by which terms, conditions and assertions are read: the node of a list, and the sorts of its parts.
use Rattle.std.specs.Prelude.{ℕ, if◌then◌else◌, List, Option, Some, None, Ok, Err}
use Rattle.std.specs.Option.{option_to_list}
use Rattle.qs_assert.specs.declared.node.Node.{Node}
use Rattle.qs_assert.specs.declared.node.Node.TheVariants as nodes
use Rattle.qs_assert.specs.declared.node.TermNode.TheVariants as term_nodes
use Rattle.qs_assert.specs.declared.node.CondNode.TheVariants as cond_nodes
use Rattle.qs_assert.specs.declared.node.AssertionNode.TheVariants as assertion_nodes
use Rattle.qs_assert.specs.declared.variable.Var.{Var}
use Rattle.qs_memory.specs.Partial.{◌>>=◌}
use Rattle.qs_sexpr.specs.Trees.{Sexps, count}
use Rattle.qs_prooftext_meaning.specs.declared.fault.TextFault.TheVariants.{UnknownForm}
use Rattle.qs_prooftext_assertions.specs.declared.sorts.AssertionWord.{AssertionWord}
use Rattle.qs_prooftext_assertions.specs.declared.sorts.AssertionWord.TheVariants as assertions
use Rattle.qs_prooftext_assertions.specs.declared.sorts.ConditionWord.{ConditionWord}
use Rattle.qs_prooftext_assertions.specs.declared.sorts.ConditionWord.TheVariants as conditions
use Rattle.qs_prooftext_assertions.specs.declared.sorts.TermWord.{TermWord}
use Rattle.qs_prooftext_assertions.specs.declared.sorts.TermWord.TheVariants as terms
use Rattle.qs_prooftext_assertions.specs.declared.sorts.Parts.{Parts}
use Rattle.qs_prooftext_assertions.specs.declared.sorts.Parts.TheVariants.{Zero, One, Two, Three, Many}
use Rattle.qs_prooftext_assertions.specs.declared.sorts.Row.{Row}
use Rattle.qs_prooftext_assertions.specs.declared.sorts.Sort.{Sort}
use Rattle.qs_prooftext_assertions.specs.declared.sorts.Sort.TheVariants.{Term, Condition, Assertion, Definition, Divisor, OldVariable, Function, KnownName, Name}
use Rattle.qs_prooftext_assertions.specs.AssertionWords.{term_words, condition_words, assertion_words, definition_words}
use Rattle.qs_prooftext_assertions.specs.Flattening.{flats, fit, joined, sorts}
use Rattle.qs_prooftext_meaning.specs.Meanings.{Answer}
use Rattle.qs_prooftext_meaning.specs.Settings.{Setting, look_up}

abbrev pub row : Node → Parts → Option Row
row node parts = Some (record { node = Some node; parts = parts })

-- the part makes the node
abbrev pub bare_row : Sort → Option Row
bare_row part = Some (record { node = None; parts = One part })

abbrev pub variable_row : Option Var → Option Row
variable_row None = None
variable_row (Some x) = row (nodes.Term (term_nodes.Variable x)) Zero

-- of a list with so many parts, of which the second is this number
abbrev pub term_row : Option Var → (at n divisor : ℕ) → TermWord → Option Row
term_row result at n divisor terms.Old = bare_row (OldVariable at)
term_row result at n divisor terms.Add = row (nodes.Term (term_nodes.Add n)) (Many Term)
term_row result at n divisor terms.Sub = row (nodes.Term term_nodes.Sub) (Two Term Term)
term_row result at n divisor terms.Mul = row (nodes.Term (term_nodes.Mul n)) (Many Term)
term_row result at n divisor terms.Div = row (nodes.Term (term_nodes.Div divisor)) (Two Term Divisor)
term_row result at n divisor terms.WrapUnsigned = row (nodes.Term term_nodes.WrapUnsigned) (One Term)
term_row result at n divisor terms.WrapSigned = row (nodes.Term term_nodes.WrapSigned) (One Term)
term_row result at n divisor terms.Bits = row (nodes.Term term_nodes.Bits) (One Term)
term_row result at n divisor terms.Returned = variable_row result

abbrev pub condition_row : (n : ℕ) → ConditionWord → Option Row
condition_row n conditions.Le = row (nodes.Condition cond_nodes.Le) (Two Term Term)
condition_row n conditions.Lt = row (nodes.Condition cond_nodes.Lt) (Two Term Term)
condition_row n conditions.Eq = row (nodes.Condition cond_nodes.Eq) (Two Term Term)
condition_row n conditions.Ne = row (nodes.Condition cond_nodes.Ne) (Two Term Term)
condition_row n conditions.Not = row (nodes.Condition cond_nodes.Not) (One Condition)
condition_row n conditions.And = row (nodes.Condition (cond_nodes.And n)) (Many Condition)
condition_row n conditions.Or = row (nodes.Condition (cond_nodes.Or n)) (Many Condition)

abbrev pub assertion_row : (at n : ℕ) → AssertionWord → Option Row
assertion_row at n assertions.Infinity = row (nodes.Assertion assertion_nodes.Infinity) Zero
assertion_row at n assertions.Cost = bare_row (Function at)
assertion_row at n assertions.Num = row (nodes.Assertion assertion_nodes.Num) (One Term)
assertion_row at n assertions.Total = row (nodes.Assertion (assertion_nodes.Total n)) (Many Assertion)
assertion_row at n assertions.Greatest = row (nodes.Assertion (assertion_nodes.Greatest n)) (Many Assertion)
assertion_row at n assertions.Product = row (nodes.Assertion (assertion_nodes.Product n)) (Many Assertion)
assertion_row at n assertions.Guard = row (nodes.Assertion assertion_nodes.Guard) (Two Condition Assertion)
assertion_row at n assertions.If = row (nodes.Assertion assertion_nodes.If) (Three Condition Assertion Assertion)
assertion_row at n assertions.Named = bare_row (KnownName at)

abbrev pub definition_row : (at n : ℕ) → AssertionWord → Option Row
definition_row at n assertions.Infinity = None
definition_row at n assertions.Cost = bare_row (Function at)
definition_row at n assertions.Num = None
definition_row at n assertions.Total = row (nodes.Assertion (assertion_nodes.Total n)) (Many Definition)
definition_row at n assertions.Greatest = row (nodes.Assertion (assertion_nodes.Greatest n)) (Many Definition)
definition_row at n assertions.Product = row (nodes.Assertion (assertion_nodes.Product n)) (Many Definition)
definition_row at n assertions.Guard = None
definition_row at n assertions.If = None
definition_row at n assertions.Named = bare_row Name

-- of a list with this head
abbrev pub found_row : Option Var → Sort → (at n divisor : ℕ) → (word : List ℕ) → Option Row
found_row result Term at n divisor word = look_up word term_words >>= term_row result at n divisor
found_row result Condition at n divisor word = look_up word condition_words >>= condition_row n
found_row result Assertion at n divisor word = look_up word assertion_words >>= assertion_row at n
found_row result Definition at n divisor word = look_up word definition_words >>= definition_row at n
found_row result Divisor at n divisor word = None
found_row result (OldVariable whole) at n divisor word = None
found_row result (Function whole) at n divisor word = None
found_row result (KnownName whole) at n divisor word = None
found_row result Name at n divisor word = None

-- where the list has as many parts as its row takes
abbrev pub fitting : Option Row → (n : ℕ) → Option Row
fitting None n = None
fitting (Some r) n = if fit r.parts n then Some r else None

-- what a list with such a row means, as nodes
abbrev pub row_flat : Setting → (at : ℕ) → Option Row → Sexps → Answer (List Node)
row_flat g at None parts = Err (UnknownForm at)
row_flat g at (Some r) parts = joined (Ok (option_to_list r.node)) (flats g (sorts r.parts (count parts)) parts)
