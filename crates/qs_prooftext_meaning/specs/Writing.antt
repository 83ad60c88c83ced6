-- Proofs as they are written: the lists of definitions, and then those of entries.
use Rattle.std.specs.Prelude.{◌≡◌, true, bytes_eq, nat_lt, Bool, length, ◌&&◌, ◌^◌, ℕ, pos, List, [], ◌∷◌, ◌++◌, map, codes, if◌then◌else◌, Option, Some, None}
use Rattle.std.specs.List.{slice_get, list_all}
use Rattle.qs_assert.specs.declared.define.Define.{Define}
use Rattle.qs_assert.specs.declared.variable.VarKind.{VarKind}
use Rattle.qs_assert.specs.declared.variable.VarKind.TheVariants as kinds
use Rattle.qs_assert.specs.declared.variable.Var.{Var}
use Rattle.qs_assert.specs.Substitution.{same_variable}
use Rattle.qs_assert.specs.Trees.{TermTree, number, variable, add, sub, mul, div, wrapu, wraps, bits, TermTrees, no_terms, term_and, CondTree, le, lt, eq, ne, not, and, or, CondTrees, no_conds, cond_and, AssertionTree, natural, infinity, cost, num, total, greatest, product, guard, choose, named, AssertionTrees, no_assertions, assertion_and}
use Rattle.qs_entail.specs.Certificates as certificates
use Rattle.qs_entail.specs.Certificates.{Item, once, twice, FactTree, CertTree, CertTrees, no_certs, cert_and}
use Rattle.qs_core.specs.Fits.{differ}
use Rattle.qs_core.specs.Trees.{CoreFunctionTree, CoreUnitTree, CoreVariableTree}
use Rattle.qs_core.specs.FunctionNames.{function_name}
use Rattle.qs_sexpr.specs.Layout.{lay, lay_all}
use Rattle.qs_sexpr.specs.Writing.{Form, symbol_form, number_form, list_form, Forms, no_forms, form_and}
use Rattle.qs_sexpr.specs.declared.layout.Layer.TheVariants.{OnLine}
use Rattle.qs_triples.specs.Derivations as derivations
use Rattle.qs_triples.specs.Derivations.{DerivationTree, DerivationTrees, no_derivations, derivation_and, EntryTree, ProofsTree}
use Rattle.qs_triples.specs.Mentions.{plain_variable}
use Rattle.qs_prooftext_meaning.specs.Settings.{words_of}

abbrev pub forms_of : List Form → Forms
forms_of [] = no_forms
forms_of (f ∷ fs) = form_and f (forms_of fs)

-- a list with this head
abbrev pub headed : (word : List ℕ) → List Form → Form
headed word parts = list_form (forms_of (symbol_form word ∷ parts))

-- What the words are: of functions, and of the variables of one of them.
pub record Words : Type 0 where
  pub functions : ℕ → List ℕ
  pub variables : List (List ℕ × Var)

-- what has no word is written as nothing
abbrev pub word_for : Var → List (List ℕ × Var) → List ℕ
word_for x [] = []
word_for x (row ∷ rows) = if same_variable row.1 x then row.0 else word_for x rows

-- ---- assertions

abbrev pub variable_form : Words → Var → VarKind → Form
variable_form w x (kinds.Plain i) = symbol_form (word_for x w.variables)
variable_form w x (kinds.Temporary k) = symbol_form (word_for x w.variables)
variable_form w x (kinds.Old i) =
    headed (codes "old") (symbol_form (word_for (plain_variable x) w.variables) ∷ [])
variable_form w x kinds.Returned = headed (codes "result") []

abbrev mutual
  pub term_form : Words → TermTree → Form
  term_form w (number n) = number_form n
  term_form w (variable x) = variable_form w x x.kind
  term_form w (add ts) = headed (codes "add") (term_forms w ts)
  term_form w (sub t u) = headed (codes "sub") (term_form w t ∷ term_form w u ∷ [])
  term_form w (mul ts) = headed (codes "mul") (term_forms w ts)
  term_form w (div t k) = headed (codes "div") (term_form w t ∷ number_form (pos k) ∷ [])
  term_form w (wrapu t) = headed (codes "wrapu") (term_form w t ∷ [])
  term_form w (wraps t) = headed (codes "wraps") (term_form w t ∷ [])
  term_form w (bits t) = headed (codes "bits") (term_form w t ∷ [])

  pub term_forms : Words → TermTrees → List Form
  term_forms w no_terms = []
  term_forms w (term_and t ts) = term_form w t ∷ term_forms w ts

abbrev mutual
  pub condition_form : Words → CondTree → Form
  condition_form w (le t u) = headed (codes "le") (term_form w t ∷ term_form w u ∷ [])
  condition_form w (lt t u) = headed (codes "lt") (term_form w t ∷ term_form w u ∷ [])
  condition_form w (eq t u) = headed (codes "eq") (term_form w t ∷ term_form w u ∷ [])
  condition_form w (ne t u) = headed (codes "ne") (term_form w t ∷ term_form w u ∷ [])
  condition_form w (not c) = headed (codes "not") (condition_form w c ∷ [])
  condition_form w (and cs) = headed (codes "and") (condition_forms w cs)
  condition_form w (or cs) = headed (codes "or") (condition_forms w cs)

  pub condition_forms : Words → CondTrees → List Form
  condition_forms w no_conds = []
  condition_forms w (cond_and c cs) = condition_form w c ∷ condition_forms w cs

abbrev mutual
  pub assertion_form : Words → AssertionTree → Form
  assertion_form w (natural n) = number_form (pos n)
  assertion_form w infinity = headed (codes "inf") []
  assertion_form w (cost f) = headed (codes "cost") (symbol_form (w.functions f) ∷ [])
  assertion_form w (num t) = headed (codes "num") (term_form w t ∷ [])
  assertion_form w (total parts) = headed (codes "add") (assertion_forms w parts)
  assertion_form w (greatest parts) = headed (codes "max") (assertion_forms w parts)
  assertion_form w (product parts) = headed (codes "mul") (assertion_forms w parts)
  assertion_form w (guard c a) = headed (codes "guard") (condition_form w c ∷ assertion_form w a ∷ [])
  assertion_form w (choose c a b) =
      headed (codes "if") (condition_form w c ∷ assertion_form w a ∷ assertion_form w b ∷ [])
  assertion_form w (named name) = headed (codes "name") (symbol_form name ∷ [])

  pub assertion_forms : Words → AssertionTrees → List Form
  assertion_forms w no_assertions = []
  assertion_forms w (assertion_and a parts) = assertion_form w a ∷ assertion_forms w parts

-- ---- certificates

abbrev pub item_form : Item → Form
item_form (once k i) = list_form (forms_of (number_form (pos k) ∷ number_form i ∷ []))
item_form (twice k i j) = list_form (forms_of (number_form (pos k) ∷ number_form i ∷ number_form j ∷ []))

abbrev pub combination_form : List Item → Form
combination_form items = list_form (forms_of (map item_form items))

-- a fact, with what comes behind it
abbrev pub fact_form : Words → FactTree → Form → Form
fact_form w (certificates.range x) c = headed (codes "range") (variable_form w x x.kind ∷ c ∷ [])
fact_form w (certificates.cost_range f) c =
    headed (codes "range") (headed (codes "cost") (symbol_form (w.functions f) ∷ []) ∷ c ∷ [])
fact_form w (certificates.apart i items) c =
    headed (codes "apart") (number_form i ∷ combination_form items ∷ c ∷ [])
fact_form w (certificates.num_is t items) c =
    headed (codes "num") (term_form w t ∷ combination_form items ∷ c ∷ [])
fact_form w (certificates.num_bounds t) c = headed (codes "pos") (term_form w t ∷ c ∷ [])
fact_form w (certificates.wrapu_is t first second) c =
    headed (codes "wrapu") (term_form w t ∷ combination_form first ∷ combination_form second ∷ c ∷ [])
fact_form w (certificates.wraps_is t first second) c =
    headed (codes "wraps") (term_form w t ∷ combination_form first ∷ combination_form second ∷ c ∷ [])
fact_form w (certificates.wrapu_bounds t) c = headed (codes "boundu") (term_form w t ∷ c ∷ [])
fact_form w (certificates.wraps_bounds t) c = headed (codes "bounds") (term_form w t ∷ c ∷ [])
fact_form w (certificates.quotient_bounds t k) c =
    headed (codes "div") (term_form w t ∷ number_form (pos k) ∷ c ∷ [])
fact_form w (certificates.bits_bound t) c = headed (codes "bits") (term_form w t ∷ c ∷ [])
fact_form w (certificates.bits_half t items) c =
    headed (codes "half") (term_form w t ∷ combination_form items ∷ c ∷ [])
fact_form w (certificates.bits_rise t u items) c =
    headed (codes "mono") (term_form w t ∷ term_form w u ∷ combination_form items ∷ c ∷ [])

abbrev mutual
  pub certificate_form : Words → CertTree → Form
  certificate_form w certificates.same = headed (codes "same") []
  certificate_form w (certificates.via r c d) =
      headed (codes "via") (assertion_form w r ∷ certificate_form w c ∷ certificate_form w d ∷ [])
  certificate_form w (certificates.pick i c) =
      headed (codes "pick") (number_form i ∷ certificate_form w c ∷ [])
  certificate_form w (certificates.all cs) = headed (codes "all") (certificate_forms w cs)
  certificate_form w (certificates.parts cs) = headed (codes "parts") (certificate_forms w cs)
  certificate_form w (certificates.assume c) = headed (codes "assume") (certificate_form w c ∷ [])
  certificate_form w (certificates.drop c d) =
      headed (codes "drop") (certificate_form w c ∷ certificate_form w d ∷ [])
  certificate_form w (certificates.split b c d) =
      headed (codes "split") (condition_form w b ∷ certificate_form w c ∷ certificate_form w d ∷ [])
  certificate_form w (certificates.contradict items) =
      headed (codes "absurd") (combination_form items ∷ [])
  certificate_form w (certificates.arithmetic items) =
      headed (codes "arith") (combination_form items ∷ [])
  certificate_form w (certificates.by_definition name c) =
      headed (codes "unfold") (symbol_form name ∷ certificate_form w c ∷ [])
  certificate_form w (certificates.fact f c) = fact_form w f (certificate_form w c)

  pub certificate_forms : Words → CertTrees → List Form
  certificate_forms w no_certs = []
  certificate_forms w (cert_and c cs) = certificate_form w c ∷ certificate_forms w cs

-- ---- derivations

abbrev mutual
  pub derivation_form : Words → DerivationTree → Form
  derivation_form w derivations.leaf = headed (codes "leaf") []
  derivation_form w (derivations.sequence ds) = headed (codes "seq") (derivation_forms w ds)
  derivation_form w (derivations.conditional d e) =
      headed (codes "if") (derivation_form w d ∷ derivation_form w e ∷ [])
  derivation_form w (derivations.loop i c body step) =
      headed (codes "loop") (assertion_form w i ∷ certificate_form w c ∷ derivation_form w body ∷ derivation_form w step ∷ [])
  derivation_form w (derivations.switch ds) = headed (codes "switch") (derivation_forms w ds)
  derivation_form w (derivations.call a c) =
      headed (codes "call") (assertion_form w a ∷ certificate_form w c ∷ [])
  derivation_form w derivations.balanced_call = headed (codes "bal") []
  derivation_form w (derivations.consequence r c d) =
      headed (codes "use") (assertion_form w r ∷ certificate_form w c ∷ derivation_form w d ∷ [])

  pub derivation_forms : Words → DerivationTrees → List Form
  derivation_forms w no_derivations = []
  derivation_forms w (derivation_and d ds) = derivation_form w d ∷ derivation_forms w ds

-- ---- files

-- variables are told apart by numbers of 64 bits
abbrev pub is_short : CoreVariableTree → Bool
is_short v = nat_lt v.ordinal (2 ^ 64)

abbrev pub has_short_numbers : CoreFunctionTree → Bool
has_short_numbers f = list_all is_short f.variables && nat_lt (length f.temporaries) (2 ^ 64)

abbrev pub HasShortNumbers : CoreUnitTree → Type 0
HasShortNumbers u = list_all has_short_numbers u.functions ≡ true

-- each word of a function stands for one variable
abbrev pub HasOwnWords : CoreUnitTree → Type 0
HasOwnWords u =
    (i : ℕ) (f : CoreFunctionTree) → slice_get u.functions i ≡ Some f
    → differ bytes_eq (map (λ row. row.0) (words_of f)) ≡ true

abbrev pub words_in : Option CoreFunctionTree → List (List ℕ × Var)
words_in None = []
words_in (Some f) = words_of f

abbrev pub words_of_entry : CoreUnitTree → (function : ℕ) → Words
words_of_entry u f =
    record { functions = function_name u; variables = words_in (slice_get u.functions f) }

abbrev pub define_form_by : Words → Define → Form
define_form_by w d = headed (codes "define") (symbol_form d.name ∷ assertion_form w d.body ∷ [])

abbrev pub define_form : CoreUnitTree → Define → Form
define_form u d = define_form_by (record { functions = function_name u; variables = [] }) d

abbrev pub entry_form_by : (name : List ℕ) → Words → EntryTree → Form
entry_form_by name w e =
    headed (codes "function") (symbol_form name ∷ headed (codes "pre") (assertion_form w e.spec.pre ∷ []) ∷ headed (codes "post") (assertion_form w e.spec.post ∷ []) ∷ headed (codes "entry") (certificate_form w e.entry ∷ []) ∷ headed (codes "body") (derivation_form w e.body ∷ []) ∷ [])

abbrev pub entry_form : CoreUnitTree → EntryTree → Form
entry_form u e = entry_form_by (function_name u e.function) (words_of_entry u e.function) e

abbrev pub file_forms : CoreUnitTree → ProofsTree → Forms
file_forms u proofs = forms_of (map (define_form u) proofs.defines ++ map (entry_form u) proofs.functions)

abbrev pub file_text : CoreUnitTree → ProofsTree → List ℕ
file_text u proofs = lay_all (file_forms u proofs)

-- ---- variables

abbrev pub old_text : (word : List ℕ) → List ℕ
old_text word = lay (OnLine true) (headed (codes "old") (symbol_form word ∷ [])) []

-- a variable of a function as it is written in its entry
abbrev pub variable_text : CoreUnitTree → (function : ℕ) → Var → List ℕ
variable_text u f x = lay (OnLine true) (variable_form (words_of_entry u f) x x.kind) []
