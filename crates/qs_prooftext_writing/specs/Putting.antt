-- How trees are put as tokens, node by node.
use Rattle.std.specs.Prelude.{◌≡◌, ℕ, ℤ, List, [], ◌∷◌, ◌++◌, map, replicate, codes, decimal}
use Rattle.std.specs.List.{slice_get}
use Rattle.std.specs.Fmt.{signed_decimal}
use Rattle.qs_assert.specs.declared.node.TermNode.{TermNode}
use Rattle.qs_assert.specs.declared.node.TermNode.TheVariants as terms
use Rattle.qs_assert.specs.declared.node.CondNode.{CondNode}
use Rattle.qs_assert.specs.declared.node.CondNode.TheVariants as conditions
use Rattle.qs_assert.specs.declared.node.AssertionNode.{AssertionNode}
use Rattle.qs_assert.specs.declared.node.AssertionNode.TheVariants as assertions
use Rattle.qs_assert.specs.declared.node.Node.{Node}
use Rattle.qs_assert.specs.declared.node.Node.TheVariants.{Term, Condition, Assertion}
use Rattle.qs_core.specs.TreeOf.{function_tree}
use Rattle.qs_core.specs.FunctionNames.{name_in}
use Rattle.qs_sexpr.specs.declared.token.Token.{Token}
use Rattle.qs_entail.specs.Certificates as certificates
use Rattle.qs_entail.specs.Certificates.{FactTree, Item}
use Rattle.qs_entail.specs.View.{cert_tree}
use Rattle.qs_sexpr.specs.Marks.{Mark, opens, closes, word, mark_of, marks, all_marks}
use Rattle.qs_sexpr.specs.Writing.{Form, symbol_form}
use Rattle.qs_triples.specs.TreeOf.{derivation_tree}
use Rattle.qs_prooftext_writing.specs.declared.file_text.EntryPart.{EntryPart}
use Rattle.qs_prooftext_writing.specs.declared.file_text.EntryPart.TheVariants as parts
use Rattle.qs_prooftext_writing.specs.declared.naming.WordTable.{WordTable}
use Rattle.qs_prooftext_writing.specs.declared.putting.Due.{Due}
use Rattle.qs_prooftext_writing.specs.declared.putting.Due.TheVariants.{Tree, Natural, Close}
use Rattle.qs_prooftext_meaning.specs.Contexts.{word_view}
use Rattle.qs_prooftext_meaning.specs.Writing.{Words, assertion_form, certificate_form, combination_form, derivation_form, forms_of, headed, term_form, variable_form}

-- behind these tokens, these were put
abbrev pub Puts : List Token → List Mark → List Token → Type 0
Puts before ms after = map mark_of after ≡ map mark_of before ++ ms

abbrev pub words_in_table : WordTable → Words
words_in_table t = record {
  functions = λ f. name_in (slice_get (map function_tree t.functions.now) f);
  variables = map word_view t.variables.now;
}

-- ---- what is still due

-- up to the next tree
abbrev pub settled : List Due → List Mark
settled [] = []
settled (Tree ∷ ds) = []
settled (Natural k ∷ ds) = word (decimal k) ∷ settled ds
settled (Close ∷ ds) = closes ∷ settled ds

-- behind the next tree
abbrev pub waiting : List Due → List Due
waiting [] = []
waiting (Tree ∷ ds) = ds
waiting (Natural k ∷ ds) = waiting ds
waiting (Close ∷ ds) = waiting ds

-- ---- nodes

-- what a node puts, and what is due behind that
pub record Put : Type 0 where
  pub begins : List Mark
  pub dues : List Due

abbrev pub whole : List Mark → Put
whole ms = record { begins = ms; dues = [] }

-- a list with this head, and so many trees behind it
abbrev pub begun : List ℕ → ℕ → Put
begun w n = record { begins = opens ∷ word w ∷ []; dues = replicate n Tree ++ Close ∷ [] }

abbrev pub term_put : Words → TermNode → Put
term_put w (terms.Number n) = whole (word (signed_decimal n) ∷ [])
term_put w (terms.Variable x) = whole (marks (variable_form w x x.kind))
term_put w (terms.Add n) = begun (codes "add") n
term_put w terms.Sub = begun (codes "sub") 2
term_put w (terms.Mul n) = begun (codes "mul") n
term_put w (terms.Div k) =
    record { begins = opens ∷ word (codes "div") ∷ []; dues = Tree ∷ Natural k ∷ Close ∷ [] }
term_put w terms.WrapUnsigned = begun (codes "wrapu") 1
term_put w terms.WrapSigned = begun (codes "wraps") 1
term_put w terms.Bits = begun (codes "bits") 1

abbrev pub condition_put : CondNode → Put
condition_put conditions.Le = begun (codes "le") 2
condition_put conditions.Lt = begun (codes "lt") 2
condition_put conditions.Eq = begun (codes "eq") 2
condition_put conditions.Ne = begun (codes "ne") 2
condition_put conditions.Not = begun (codes "not") 1
condition_put (conditions.And n) = begun (codes "and") n
condition_put (conditions.Or n) = begun (codes "or") n

abbrev pub assertion_put : Words → AssertionNode → Put
assertion_put w (assertions.Natural n) = whole (word (decimal n) ∷ [])
assertion_put w assertions.Infinity = begun (codes "inf") 0
assertion_put w (assertions.Cost f) = whole (marks (headed (codes "cost") (symbol_form (w.functions f.0) ∷ [])))
assertion_put w assertions.Num = begun (codes "num") 1
assertion_put w (assertions.Total n) = begun (codes "add") n
assertion_put w (assertions.Greatest n) = begun (codes "max") n
assertion_put w (assertions.Product n) = begun (codes "mul") n
assertion_put w assertions.Guard = begun (codes "guard") 2
assertion_put w assertions.If = begun (codes "if") 3
assertion_put w (assertions.Named name) = whole (marks (headed (codes "name") (symbol_form name ∷ [])))

abbrev pub node_put : Words → Node → Put
node_put w (Term node) = term_put w node
node_put w (Condition node) = condition_put node
node_put w (Assertion node) = assertion_put w node

-- what these nodes come to, where so much is due
abbrev pub all_put : Words → List Node → List Due → List Mark
all_put w [] ds = settled ds
all_put w (node ∷ nodes) ds =
    settled ds ++ ((node_put w node).begins ++ all_put w nodes ((node_put w node).dues ++ waiting ds))

-- ---- certificates and derivations

-- a fact that two terms differ
abbrev pub apart_begins : (number : ℤ) → List Item → List Mark
apart_begins i items = opens ∷ word (codes "apart") ∷ word (signed_decimal i) ∷ marks (combination_form items)

-- how a fact begins; the certificate behind it and a `)` are to follow
abbrev pub fact_begins : Words → FactTree → List Mark
fact_begins w (certificates.range x) = opens ∷ word (codes "range") ∷ marks (variable_form w x x.kind)
fact_begins w (certificates.cost_range f) =
    opens ∷ word (codes "range") ∷ opens ∷ word (codes "cost") ∷ word (w.functions f) ∷ closes ∷ []
fact_begins w (certificates.apart i items) = apart_begins i items
fact_begins w (certificates.num_is t items) =
    opens ∷ word (codes "num") ∷ (marks (term_form w t) ++ marks (combination_form items))
fact_begins w (certificates.num_bounds t) = opens ∷ word (codes "pos") ∷ marks (term_form w t)
fact_begins w (certificates.wrapu_is t first second) =
    opens ∷ word (codes "wrapu") ∷ (marks (term_form w t) ++ (marks (combination_form first) ++ marks (combination_form second)))
fact_begins w (certificates.wraps_is t first second) =
    opens ∷ word (codes "wraps") ∷ (marks (term_form w t) ++ (marks (combination_form first) ++ marks (combination_form second)))
fact_begins w (certificates.wrapu_bounds t) = opens ∷ word (codes "boundu") ∷ marks (term_form w t)
fact_begins w (certificates.wraps_bounds t) = opens ∷ word (codes "bounds") ∷ marks (term_form w t)
fact_begins w (certificates.quotient_bounds t k) =
    opens ∷ word (codes "div") ∷ (marks (term_form w t) ++ word (decimal k) ∷ [])
fact_begins w (certificates.bits_bound t) = opens ∷ word (codes "bits") ∷ marks (term_form w t)
fact_begins w (certificates.bits_half t items) =
    opens ∷ word (codes "half") ∷ (marks (term_form w t) ++ marks (combination_form items))
fact_begins w (certificates.bits_rise t u items) =
    opens ∷ word (codes "mono") ∷ (marks (term_form w t) ++ (marks (term_form w u) ++ marks (combination_form items)))

-- the part of an entry without the list around it
abbrev pub entry_part_form : Words → EntryPart → Form
entry_part_form w (parts.Bound a) = assertion_form w a.now
entry_part_form w (parts.Reason c) = certificate_form w (cert_tree c.now)
entry_part_form w (parts.Body d) = derivation_form w (derivation_tree d.now)

-- these forms, one after another
abbrev pub list_marks : List Form → List Mark
list_marks fs = all_marks (forms_of fs)
