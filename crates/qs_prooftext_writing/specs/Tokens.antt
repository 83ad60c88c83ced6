-- What writers promise: which tokens are put for a value, its words being those of a table.
use Rattle.std.specs.Prelude.{◌≡◌, ℕ, List, [], ◌∷◌, ◌++◌, Vec, Result, OnOk, map, replicate, reverse}
use Rattle.std.specs.declared.alloc.Global.{Global}
use Rattle.qs_assert.specs.Trees.{AssertionTree, CondTree, TermTree}
use Rattle.qs_assert.specs.declared.define.Define.{Define}
use Rattle.qs_assert.specs.declared.node.Node.{Node}
use Rattle.qs_assert.specs.declared.variable.Var.{Var}
use Rattle.qs_core.specs.UnitTrees.{unit_tree}
use Rattle.qs_core.specs.declared.unit.CoreUnit.{CoreUnit}
use Rattle.qs_entail.specs.Certificates as certificates
use Rattle.qs_entail.specs.Certificates.{CertTree}
use Rattle.qs_entail.specs.View.{cert_tree, certs_tree, fact_tree, items_view}
use Rattle.qs_entail.specs.declared.certificate.Certificate.{Certificate}
use Rattle.qs_entail.specs.declared.certificate.Fact.{Fact}
use Rattle.qs_entail.specs.declared.item.Item.{Item}
use Rattle.qs_sexpr.specs.Layout.{lay_all}
use Rattle.qs_sexpr.specs.Marks.{Mark, all_marks, mark_of, marks, opens, word}
use Rattle.qs_sexpr.specs.Writing.{Form, Forms}
use Rattle.qs_sexpr.specs.declared.token.Token.{Token}
use Rattle.qs_triples.specs.Derivations as derivations
use Rattle.qs_triples.specs.TreeOf.{derivation_tree, derivation_trees, entry_tree}
use Rattle.qs_triples.specs.declared.derivation.Derivation.{Derivation}
use Rattle.qs_triples.specs.declared.derivation.FunctionProof.{FunctionProof}
use Rattle.qs_prooftext_writing.specs.declared.file_text.EntryPart.{EntryPart}
use Rattle.qs_prooftext_writing.specs.declared.naming.WordTable.{WordTable}
use Rattle.qs_prooftext_writing.specs.declared.putting.Due.{Due}
use Rattle.qs_prooftext_writing.specs.declared.putting.Due.TheVariants.{Tree, Close}
use Rattle.qs_prooftext_writing.specs.Putting.{Put, Puts, all_put, entry_part_form, fact_begins, list_marks, words_in_table}
use Rattle.qs_prooftext_meaning.specs.Writing.{assertion_form, certificate_form, certificate_forms, combination_form, condition_form, define_form, define_form_by, derivation_form, derivation_forms, entry_form, entry_form_by, forms_of, headed, term_form, variable_form}

-- behind the tokens so far these are put
abbrev pub Writes : {A E : Type 0} → Vec Token Global → List Mark → Vec Token Global → Result A E → Type 0
Writes old ms new result = OnOk result (Puts old.items ms new.items)

-- the beginning of a node
abbrev pub Begins : {A E : Type 0} → Vec Token Global → Put → Vec Token Global → Result A E → Type 0
Begins old put new result = Writes old put.begins new result

-- before what was due this is due too
abbrev pub Owes : {A E : Type 0} → Vec Due Global → List Due → Vec Due Global → Result A E → Type 0
Owes old more new result = OnOk result (reverse new.items ≡ more ++ reverse old.items)

-- so many trees and the end of their list
abbrev pub OwesList : {A E : Type 0} → Vec Due Global → (trees : ℕ) → Vec Due Global → Result A E → Type 0
OwesList old trees new result = OnOk result (reverse new.items ≡ replicate trees Tree ++ (Close ∷ reverse old.items))

-- ---- assertions

abbrev pub variable_marks : WordTable → Var → List Mark
variable_marks table x = marks (variable_form (words_in_table table) x x.kind)

abbrev pub term_marks : WordTable → TermTree → List Mark
term_marks table t = marks (term_form (words_in_table table) t)

abbrev pub condition_marks : WordTable → CondTree → List Mark
condition_marks table c = marks (condition_form (words_in_table table) c)

abbrev pub assertion_marks : WordTable → AssertionTree → List Mark
assertion_marks table a = marks (assertion_form (words_in_table table) a)

-- of the nodes of one tree
abbrev pub nodes_marks : WordTable → List Node → List Mark
nodes_marks table nodes = all_put (words_in_table table) nodes (Tree ∷ [])

-- ---- facts

abbrev pub combination_marks : List Item → List Mark
combination_marks items = marks (combination_form (items_view items))

-- a list with this head begins with a term, and has no, one or two combinations behind it
abbrev pub term_begins : WordTable → (head : List ℕ) → TermTree → List Mark
term_begins table head t = opens ∷ word head ∷ term_marks table t

abbrev pub items_begin : WordTable → (head : List ℕ) → TermTree → List Item → List Mark
items_begin table head t items = opens ∷ word head ∷ (term_marks table t ++ combination_marks items)

abbrev pub BeginsBoth :
    {A E : Type 0} → Vec Token Global → WordTable → (head : List ℕ) → TermTree → (first second : List Item)
    → Vec Token Global → Result A E → Type 0
BeginsBoth old table head t first second new result =
    Writes old (opens ∷ word head ∷ (term_marks table t ++ (combination_marks first ++ combination_marks second))) new result

abbrev pub fact_marks : WordTable → Fact → List Mark
fact_marks table f = fact_begins (words_in_table table) (fact_tree f)

-- ---- certificates and derivations

abbrev pub cert_marks : WordTable → Certificate → List Mark
cert_marks table c = marks (certificate_form (words_in_table table) (cert_tree c))

-- of what is made around its only part
abbrev pub around : WordTable → (CertTree → CertTree) → Certificate → List Mark
around table made part = marks (certificate_form (words_in_table table) (made (cert_tree part)))

abbrev pub with_fact : Fact → CertTree → CertTree
with_fact f c = certificates.fact (fact_tree f) c

abbrev pub certs_marks : WordTable → List Certificate → List Mark
certs_marks table parts = list_marks (certificate_forms (words_in_table table) (certs_tree parts))

-- a list with this head
abbrev pub headed_certs : WordTable → (head : List ℕ) → List Certificate → List Mark
headed_certs table head parts = marks (headed head (certificate_forms (words_in_table table) (certs_tree parts)))

abbrev pub headed_combination : (head : List ℕ) → List Item → List Mark
headed_combination head items = marks (headed head (combination_form (items_view items) ∷ []))

abbrev pub derivation_marks : WordTable → Derivation → List Mark
derivation_marks table d = marks (derivation_form (words_in_table table) (derivation_tree d))

abbrev pub call_marks : WordTable → AssertionTree → Certificate → List Mark
call_marks table frame c = marks (derivation_form (words_in_table table) (derivations.call frame (cert_tree c)))

abbrev pub derivations_marks : WordTable → List Derivation → List Mark
derivations_marks table parts = list_marks (derivation_forms (words_in_table table) (derivation_trees parts))

-- ---- files

abbrev pub entry_part_marks : WordTable → EntryPart → List Mark
entry_part_marks table part = marks (entry_part_form (words_in_table table) part)

-- in a list with this head
abbrev pub headed_entry_part : WordTable → (head : List ℕ) → EntryPart → List Mark
headed_entry_part table head part = marks (headed head (entry_part_form (words_in_table table) part ∷ []))

abbrev pub define_marks : WordTable → Define → List Mark
define_marks table d = marks (define_form_by (words_in_table table) d)

abbrev pub entry_marks : WordTable → FunctionProof → List Mark
entry_marks table e =
    marks (entry_form_by ((words_in_table table).functions e.function.0) (words_in_table table) (entry_tree e))

-- the tokens are those of the lists and atoms
abbrev pub AreTokensOf : List Token → Forms → Type 0
AreTokensOf tokens forms = map mark_of tokens ≡ all_marks forms

-- behind the text so far lists and atoms are laid out
abbrev pub Lays : {A E : Type 0} → Vec ℕ Global → Forms → Vec ℕ Global → Result A E → Type 0
Lays old forms new result = OnOk result (new.items ≡ old.items ++ lay_all forms)

abbrev pub LaysList : {A E : Type 0} → Vec ℕ Global → List Form → Vec ℕ Global → Result A E → Type 0
LaysList old forms new result = Lays old (forms_of forms) new result

abbrev pub defines_forms : CoreUnit → List Define → List Form
defines_forms unit ds = map (define_form (unit_tree unit)) ds

abbrev pub entries_forms : CoreUnit → List FunctionProof → List Form
entries_forms unit es = map (entry_form (unit_tree unit)) (map entry_tree es)
