-- The heads of terms, conditions and assertions, and the row of each.
use Rattle.std.specs.Prelude.{ℕ, List, [], ◌∷◌, codes, Option, Some, None}
use Rattle.qs_assert.specs.declared.variable.Var.{Var}
use Rattle.qs_assert.specs.Trees.{terms_of, conds_of, assertions_of}
use Rattle.qs_assert.specs.Trees as trees
use Rattle.qs_prooftext_assertions.specs.declared.sorts.TermWord.{TermWord}
use Rattle.qs_prooftext_assertions.specs.declared.sorts.TermWord.TheVariants as terms
use Rattle.qs_prooftext_assertions.specs.declared.sorts.ConditionWord.{ConditionWord}
use Rattle.qs_prooftext_assertions.specs.declared.sorts.ConditionWord.TheVariants as conditions
use Rattle.qs_prooftext_assertions.specs.declared.sorts.AssertionWord.{AssertionWord}
use Rattle.qs_prooftext_assertions.specs.declared.sorts.AssertionWord.TheVariants as assertions
use Rattle.qs_prooftext_meaning.specs.Kinds.{Kind, Of, Row, none, one, two, three, many, a_term, a_condition, an_assertion, a_definition_body, a_divisor, a_name, a_function, a_known_name, an_old_variable}

-- ---- words

abbrev pub term_words : List (List ℕ × TermWord)
term_words =
    (codes "old", terms.Old) ∷ (codes "add", terms.Add) ∷ (codes "sub", terms.Sub) ∷ (codes "mul", terms.Mul)
    ∷ (codes "div", terms.Div) ∷ (codes "wrapu", terms.WrapUnsigned) ∷ (codes "wraps", terms.WrapSigned)
    ∷ (codes "bits", terms.Bits) ∷ (codes "result", terms.Returned) ∷ []

abbrev pub condition_words : List (List ℕ × ConditionWord)
condition_words =
    (codes "le", conditions.Le) ∷ (codes "lt", conditions.Lt) ∷ (codes "eq", conditions.Eq)
    ∷ (codes "ne", conditions.Ne) ∷ (codes "not", conditions.Not) ∷ (codes "and", conditions.And)
    ∷ (codes "or", conditions.Or) ∷ []

abbrev pub assertion_words : List (List ℕ × AssertionWord)
assertion_words =
    (codes "inf", assertions.Infinity) ∷ (codes "cost", assertions.Cost) ∷ (codes "num", assertions.Num)
    ∷ (codes "add", assertions.Total) ∷ (codes "max", assertions.Greatest) ∷ (codes "mul", assertions.Product)
    ∷ (codes "guard", assertions.Guard) ∷ (codes "if", assertions.If) ∷ (codes "name", assertions.Named) ∷ []

abbrev pub definition_words : List (List ℕ × AssertionWord)
definition_words =
    (codes "cost", assertions.Cost) ∷ (codes "add", assertions.Total) ∷ (codes "max", assertions.Greatest)
    ∷ (codes "mul", assertions.Product) ∷ (codes "name", assertions.Named) ∷ []

-- ---- their rows

abbrev pub result_row : {k : Kind} → (Var → Of k) → Option Var → Option (Row k)
result_row made None = None
result_row made (Some x) = Some (none (made x))

abbrev pub term_word_row : Option Var → (at : ℕ) → TermWord → Option (Row a_term)
term_word_row result at terms.Old = Some (one (an_old_variable at) trees.variable)
term_word_row result at terms.Add = Some (many a_term (λ ts. trees.add (terms_of ts)))
term_word_row result at terms.Sub = Some (two a_term a_term trees.sub)
term_word_row result at terms.Mul = Some (many a_term (λ ts. trees.mul (terms_of ts)))
term_word_row result at terms.Div = Some (two a_term a_divisor trees.div)
term_word_row result at terms.WrapUnsigned = Some (one a_term trees.wrapu)
term_word_row result at terms.WrapSigned = Some (one a_term trees.wraps)
term_word_row result at terms.Bits = Some (one a_term trees.bits)
term_word_row result at terms.Returned = result_row trees.variable result

abbrev pub condition_word_row : ConditionWord → Option (Row a_condition)
condition_word_row conditions.Le = Some (two a_term a_term trees.le)
condition_word_row conditions.Lt = Some (two a_term a_term trees.lt)
condition_word_row conditions.Eq = Some (two a_term a_term trees.eq)
condition_word_row conditions.Ne = Some (two a_term a_term trees.ne)
condition_word_row conditions.Not = Some (one a_condition trees.not)
condition_word_row conditions.And = Some (many a_condition (λ cs. trees.and (conds_of cs)))
condition_word_row conditions.Or = Some (many a_condition (λ cs. trees.or (conds_of cs)))

abbrev pub assertion_word_row : (at : ℕ) → AssertionWord → Option (Row an_assertion)
assertion_word_row at assertions.Infinity = Some (none trees.infinity)
assertion_word_row at assertions.Cost = Some (one (a_function at) trees.cost)
assertion_word_row at assertions.Num = Some (one a_term trees.num)
assertion_word_row at assertions.Total = Some (many an_assertion (λ parts. trees.total (assertions_of parts)))
assertion_word_row at assertions.Greatest = Some (many an_assertion (λ parts. trees.greatest (assertions_of parts)))
assertion_word_row at assertions.Product = Some (many an_assertion (λ parts. trees.product (assertions_of parts)))
assertion_word_row at assertions.Guard = Some (two a_condition an_assertion trees.guard)
assertion_word_row at assertions.If = Some (three a_condition an_assertion an_assertion trees.choose)
assertion_word_row at assertions.Named = Some (one (a_known_name at) trees.named)

abbrev pub definition_word_row : (at : ℕ) → AssertionWord → Option (Row a_definition_body)
definition_word_row at assertions.Infinity = None
definition_word_row at assertions.Cost = Some (one (a_function at) trees.cost)
definition_word_row at assertions.Num = None
definition_word_row at assertions.Total = Some (many a_definition_body (λ parts. trees.total (assertions_of parts)))
definition_word_row at assertions.Greatest = Some (many a_definition_body (λ parts. trees.greatest (assertions_of parts)))
definition_word_row at assertions.Product = Some (many a_definition_body (λ parts. trees.product (assertions_of parts)))
definition_word_row at assertions.Guard = None
definition_word_row at assertions.If = None
definition_word_row at assertions.Named = Some (one a_name trees.named)
