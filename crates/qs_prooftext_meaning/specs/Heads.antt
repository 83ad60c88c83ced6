-- The heads of lists at each place: the word, the kinds of the parts, and what the list is.
use Rattle.std.specs.Prelude.{ℕ, [], ◌∷◌, ◌++◌, codes, ◌==◌, if◌then◌else◌, Option, Some, None}
use Rattle.qs_assert.specs.declared.variable.Var.{Var}
use Rattle.qs_assert.specs.Trees.{terms_of, conds_of, assertions_of}
use Rattle.qs_assert.specs.Trees as trees
use Rattle.qs_entail.specs.Certificates as certificates
use Rattle.qs_entail.specs.View.{certs_of}
use Rattle.qs_triples.specs.Derivations as derivations
use Rattle.qs_triples.specs.TreeOf.{derivations_of}
use Rattle.qs_prooftext_meaning.specs.Kinds.{Kind, Of, Row, Rows, none, one, two, three, four, many, any, a_term, a_condition, an_assertion, a_definition_body, a_certificate, a_derivation, a_range, a_combination, an_item, an_index, a_natural, a_divisor, a_name, a_function, a_known_name, an_old_variable, a_precondition, a_postcondition, an_entry_certificate, a_body}
use Rattle.qs_prooftext_meaning.specs.Settings.{Setting}

-- `(result)` has a meaning where the function's result is an integer
abbrev pub result_rows : {k : Kind} → (Var → Of k) → Option Var → Rows k
result_rows made None = []
result_rows made (Some x) = (codes "result", none (made x)) ∷ []

-- ---- assertions

abbrev pub term_rows : Setting → (at : ℕ) → Rows a_term
term_rows g at =
    (codes "old", one (an_old_variable at) trees.variable)
    ∷ (codes "add", many a_term (λ ts. trees.add (terms_of ts)))
    ∷ (codes "sub", two a_term a_term trees.sub)
    ∷ (codes "mul", many a_term (λ ts. trees.mul (terms_of ts)))
    ∷ (codes "div", two a_term a_divisor trees.div)
    ∷ (codes "wrapu", one a_term trees.wrapu)
    ∷ (codes "wraps", one a_term trees.wraps)
    ∷ (codes "bits", one a_term trees.bits)
    ∷ result_rows trees.variable g.result

abbrev pub condition_rows : Rows a_condition
condition_rows =
    (codes "le", two a_term a_term trees.le)
    ∷ (codes "lt", two a_term a_term trees.lt)
    ∷ (codes "eq", two a_term a_term trees.eq)
    ∷ (codes "ne", two a_term a_term trees.ne)
    ∷ (codes "not", one a_condition trees.not)
    ∷ (codes "and", many a_condition (λ cs. trees.and (conds_of cs)))
    ∷ (codes "or", many a_condition (λ cs. trees.or (conds_of cs)))
    ∷ []

abbrev pub assertion_rows : (at : ℕ) → Rows an_assertion
assertion_rows at =
    (codes "inf", none trees.infinity)
    ∷ (codes "cost", one (a_function at) trees.cost)
    ∷ (codes "num", one a_term trees.num)
    ∷ (codes "add", many an_assertion (λ parts. trees.total (assertions_of parts)))
    ∷ (codes "max", many an_assertion (λ parts. trees.greatest (assertions_of parts)))
    ∷ (codes "mul", many an_assertion (λ parts. trees.product (assertions_of parts)))
    ∷ (codes "guard", two a_condition an_assertion trees.guard)
    ∷ (codes "if", three a_condition an_assertion an_assertion trees.choose)
    ∷ (codes "name", one (a_known_name at) trees.named)
    ∷ []

-- that a name stands for a definition that comes later, or for none, is no fault of the text
abbrev pub definition_rows : (at : ℕ) → Rows a_definition_body
definition_rows at =
    (codes "cost", one (a_function at) trees.cost)
    ∷ (codes "add", many a_definition_body (λ parts. trees.total (assertions_of parts)))
    ∷ (codes "max", many a_definition_body (λ parts. trees.greatest (assertions_of parts)))
    ∷ (codes "mul", many a_definition_body (λ parts. trees.product (assertions_of parts)))
    ∷ (codes "name", one a_name trees.named)
    ∷ []

-- ---- certificates

abbrev pub rule_rows : Rows a_certificate
rule_rows =
    (codes "same", none certificates.same)
    ∷ (codes "via", three an_assertion a_certificate a_certificate certificates.via)
    ∷ (codes "pick", two an_index a_certificate certificates.pick)
    ∷ (codes "all", any a_certificate (λ cs. certificates.all (certs_of cs)))
    ∷ (codes "parts", any a_certificate (λ cs. certificates.parts (certs_of cs)))
    ∷ (codes "assume", one a_certificate certificates.assume)
    ∷ (codes "drop", two a_certificate a_certificate certificates.drop)
    ∷ (codes "split", three a_condition a_certificate a_certificate certificates.split)
    ∷ (codes "absurd", one a_combination certificates.contradict)
    ∷ (codes "arith", one a_combination certificates.arithmetic)
    ∷ (codes "unfold", two a_name a_certificate certificates.by_definition)
    ∷ []

abbrev pub fact_rows : Rows a_certificate
fact_rows =
    (codes "range", two a_range a_certificate certificates.fact)
    ∷ (codes "apart", three an_index a_combination a_certificate (λ i w. certificates.fact (certificates.apart i w)))
    ∷ (codes "num", three a_term a_combination a_certificate (λ t w. certificates.fact (certificates.num_is t w)))
    ∷ (codes "pos", two a_term a_certificate (λ t. certificates.fact (certificates.num_bounds t)))
    ∷ (codes "wrapu", four a_term a_combination a_combination a_certificate (λ t v w. certificates.fact (certificates.wrapu_is t v w)))
    ∷ (codes "wraps", four a_term a_combination a_combination a_certificate (λ t v w. certificates.fact (certificates.wraps_is t v w)))
    ∷ (codes "boundu", two a_term a_certificate (λ t. certificates.fact (certificates.wrapu_bounds t)))
    ∷ (codes "bounds", two a_term a_certificate (λ t. certificates.fact (certificates.wraps_bounds t)))
    ∷ (codes "div", three a_term a_natural a_certificate (λ t k. certificates.fact (certificates.quotient_bounds t k)))
    ∷ (codes "bits", two a_term a_certificate (λ t. certificates.fact (certificates.bits_bound t)))
    ∷ (codes "half", three a_term a_combination a_certificate (λ t w. certificates.fact (certificates.bits_half t w)))
    ∷ (codes "mono", four a_term a_term a_combination a_certificate (λ t u w. certificates.fact (certificates.bits_rise t u w)))
    ∷ []

-- besides a variable
abbrev pub range_rows : Setting → (at : ℕ) → Rows a_range
range_rows g at =
    (codes "old", one (an_old_variable at) certificates.range)
    ∷ (codes "cost", one (a_function at) certificates.cost_range)
    ∷ result_rows certificates.range g.result

-- ---- derivations

abbrev pub derivation_rows : Rows a_derivation
derivation_rows =
    (codes "leaf", none derivations.leaf)
    ∷ (codes "seq", any a_derivation (λ ds. derivations.sequence (derivations_of ds)))
    ∷ (codes "if", two a_derivation a_derivation derivations.conditional)
    ∷ (codes "loop", four an_assertion a_certificate a_derivation a_derivation derivations.loop)
    ∷ (codes "switch", any a_derivation (λ ds. derivations.switch (derivations_of ds)))
    ∷ (codes "call", two an_assertion a_certificate derivations.call)
    ∷ (codes "bal", none derivations.balanced_call)
    ∷ (codes "use", three an_assertion a_certificate a_derivation derivations.consequence)
    ∷ []

-- ---- all of them

-- the rows of the lists at a place of this kind; `at` is the place of the list
abbrev pub rows : Setting → (k : Kind) → (at : ℕ) → Rows k
rows g a_term at = term_rows g at
rows g a_condition at = condition_rows
rows g an_assertion at = assertion_rows at
rows g a_definition_body at = definition_rows at
rows g a_certificate at = rule_rows ++ fact_rows
rows g a_derivation at = derivation_rows
rows g a_range at = range_rows g at
rows g a_combination at = []
rows g an_item at = []
rows g an_index at = []
rows g a_natural at = []
rows g a_divisor at = []
rows g a_name at = []
rows g (a_function whole) at = []
rows g (a_known_name whole) at = []
rows g (an_old_variable whole) at = []
rows g a_precondition at = (codes "pre", one an_assertion (λ a. a)) ∷ []
rows g a_postcondition at = (codes "post", one an_assertion (λ a. a)) ∷ []
rows g an_entry_certificate at = (codes "entry", one a_certificate (λ c. c)) ∷ []
rows g a_body at = (codes "body", one a_derivation (λ d. d)) ∷ []

-- ---- lists without a head

-- an item is `(k i)` or `(k i j)`
abbrev pub item_row : (parts : ℕ) → Row an_item
item_row n =
    if n == 2 then two a_natural an_index certificates.once
    else three a_natural an_index an_index certificates.twice

-- a combination is a list of items
abbrev pub headless_row : (k : Kind) → (parts : ℕ) → Option (Row k)
headless_row a_term n = None
headless_row a_condition n = None
headless_row an_assertion n = None
headless_row a_definition_body n = None
headless_row a_certificate n = None
headless_row a_derivation n = None
headless_row a_range n = None
headless_row a_combination n = Some (any an_item (λ items. items))
headless_row an_item n = Some (item_row n)
headless_row an_index n = None
headless_row a_natural n = None
headless_row a_divisor n = None
headless_row a_name n = None
headless_row (a_function at) n = None
headless_row (a_known_name at) n = None
headless_row (an_old_variable at) n = None
headless_row a_precondition n = None
headless_row a_postcondition n = None
headless_row an_entry_certificate n = None
headless_row a_body n = None
