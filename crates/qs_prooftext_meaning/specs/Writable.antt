-- Which proofs can be written so that they read back.
use Rattle.std.specs.Prelude.{◌≡◌, ℕ, ◌==◌, ◌&&◌, Bool, true, false, nat_le, nat_lt, bytes_eq, List, [], ◌∷◌, ◌++◌, map, length, Option, Some, None}
use Rattle.std.specs.List.{slice_get, list_any, list_all}
use Rattle.qs_assert.specs.declared.define.Define.{Define}
use Rattle.qs_assert.specs.declared.variable.Var.{Var}
use Rattle.qs_assert.specs.Substitution.{same_variable}
use Rattle.qs_assert.specs.Trees.{TermTree, number, variable, add, sub, mul, div, wrapu, wraps, bits, TermTrees, no_terms, term_and, term_list, CondTree, le, lt, eq, ne, not, and, or, CondTrees, no_conds, cond_and, cond_list, AssertionTree, natural, infinity, cost, num, total, greatest, product, guard, choose, named, AssertionTrees, no_assertions, assertion_and, assertion_list}
use Rattle.qs_entail.specs.Certificates as certificates
use Rattle.qs_entail.specs.Certificates.{FactTree, CertTree, CertTrees, no_certs, cert_and}
use Rattle.qs_core.specs.Fits.{differ}
use Rattle.qs_callgraph.specs.Opens.{TellsOpen}
use Rattle.qs_core.specs.Trees.{CoreFunctionTree, CoreUnitTree}
use Rattle.qs_sexpr.specs.Reading.{depth_limit}
use Rattle.qs_sexpr.specs.Writing.{AreWritable}
use Rattle.qs_triples.specs.Derivations as derivations
use Rattle.qs_triples.specs.Derivations.{DerivationTree, DerivationTrees, no_derivations, derivation_and, EntryTree, ProofsTree}
use Rattle.qs_triples.specs.Entries.{has_entry}
use Rattle.qs_prooftext_meaning.specs.Settings.{Setting, in_definition, in_entry, old_variable}
use Rattle.qs_prooftext_meaning.specs.Proofs.{defined_names, is_defined, is_open_name}
use Rattle.qs_prooftext_meaning.specs.Writing.{file_forms}

-- ---- what has a meaning in an entry

abbrev pub as_list : {A : Type 0} → Option A → List A
as_list None = []
as_list (Some x) = x ∷ []

abbrev pub old_variables : List (List ℕ × Var) → List Var
old_variables [] = []
old_variables (row ∷ rows) = as_list (old_variable row.1) ++ old_variables rows

-- the variables under their own types, the values of plain ones at the entry, and the result
abbrev pub is_meant : Setting → Var → Bool
is_meant g x =
    list_any (same_variable x) (map (λ row. row.1) g.variables ++ old_variables g.variables ++ as_list g.result)

abbrev pub is_function : Setting → (function : ℕ) → Bool
is_function g f = list_any (λ row. row.1 == f) g.functions

abbrev pub are_many : {A : Type 0} → List A → Bool
are_many xs = nat_le 2 (length xs)

abbrev mutual
  pub term_stands : Setting → TermTree → Bool
  term_stands g (number n) = true
  term_stands g (variable x) = is_meant g x
  term_stands g (add ts) = are_many (term_list ts) && terms_stand g ts
  term_stands g (sub t u) = term_stands g t && term_stands g u
  term_stands g (mul ts) = are_many (term_list ts) && terms_stand g ts
  term_stands g (div t k) = nat_le 1 k && term_stands g t
  term_stands g (wrapu t) = term_stands g t
  term_stands g (wraps t) = term_stands g t
  term_stands g (bits t) = term_stands g t

  pub terms_stand : Setting → TermTrees → Bool
  terms_stand g no_terms = true
  terms_stand g (term_and t ts) = term_stands g t && terms_stand g ts

abbrev mutual
  pub condition_stands : Setting → CondTree → Bool
  condition_stands g (le t u) = term_stands g t && term_stands g u
  condition_stands g (lt t u) = term_stands g t && term_stands g u
  condition_stands g (eq t u) = term_stands g t && term_stands g u
  condition_stands g (ne t u) = term_stands g t && term_stands g u
  condition_stands g (not c) = condition_stands g c
  condition_stands g (and cs) = are_many (cond_list cs) && conditions_stand g cs
  condition_stands g (or cs) = are_many (cond_list cs) && conditions_stand g cs

  pub conditions_stand : Setting → CondTrees → Bool
  conditions_stand g no_conds = true
  conditions_stand g (cond_and c cs) = condition_stands g c && conditions_stand g cs

abbrev mutual
  pub assertion_stands : Setting → AssertionTree → Bool
  assertion_stands g (natural n) = true
  assertion_stands g infinity = true
  assertion_stands g (cost f) = is_function g f
  assertion_stands g (num t) = term_stands g t
  assertion_stands g (total parts) = are_many (assertion_list parts) && assertions_stand g parts
  assertion_stands g (greatest parts) = are_many (assertion_list parts) && assertions_stand g parts
  assertion_stands g (product parts) = are_many (assertion_list parts) && assertions_stand g parts
  assertion_stands g (guard c a) = condition_stands g c && assertion_stands g a
  assertion_stands g (choose c a b) = condition_stands g c && assertion_stands g a && assertion_stands g b
  assertion_stands g (named name) = g.has_name name

  pub assertions_stand : Setting → AssertionTrees → Bool
  assertions_stand g no_assertions = true
  assertions_stand g (assertion_and a parts) = assertion_stands g a && assertions_stand g parts

-- the body of a definition has only numbers, costs, sums, maxima, products and names
abbrev mutual
  pub definition_stands : Setting → AssertionTree → Bool
  definition_stands g (natural n) = true
  definition_stands g infinity = false
  definition_stands g (cost f) = is_function g f
  definition_stands g (num t) = false
  definition_stands g (total parts) = are_many (assertion_list parts) && definitions_stand g parts
  definition_stands g (greatest parts) = are_many (assertion_list parts) && definitions_stand g parts
  definition_stands g (product parts) = are_many (assertion_list parts) && definitions_stand g parts
  definition_stands g (guard c a) = false
  definition_stands g (choose c a b) = false
  definition_stands g (named name) = true

  pub definitions_stand : Setting → AssertionTrees → Bool
  definitions_stand g no_assertions = true
  definitions_stand g (assertion_and a parts) = definition_stands g a && definitions_stand g parts

abbrev pub fact_stands : Setting → FactTree → Bool
fact_stands g (certificates.range x) = is_meant g x
fact_stands g (certificates.cost_range f) = is_function g f
fact_stands g (certificates.apart i items) = true
fact_stands g (certificates.num_is t items) = term_stands g t
fact_stands g (certificates.num_bounds t) = term_stands g t
fact_stands g (certificates.wrapu_is t first second) = term_stands g t
fact_stands g (certificates.wraps_is t first second) = term_stands g t
fact_stands g (certificates.wrapu_bounds t) = term_stands g t
fact_stands g (certificates.wraps_bounds t) = term_stands g t
fact_stands g (certificates.quotient_bounds t k) = term_stands g t
fact_stands g (certificates.bits_bound t) = term_stands g t
fact_stands g (certificates.bits_half t items) = term_stands g t
fact_stands g (certificates.bits_rise t u items) = term_stands g t && term_stands g u

abbrev mutual
  pub certificate_stands : Setting → CertTree → Bool
  certificate_stands g certificates.same = true
  certificate_stands g (certificates.via r c d) =
      assertion_stands g r && certificate_stands g c && certificate_stands g d
  certificate_stands g (certificates.pick i c) = certificate_stands g c
  certificate_stands g (certificates.all cs) = certificates_stand g cs
  certificate_stands g (certificates.parts cs) = certificates_stand g cs
  certificate_stands g (certificates.assume c) = certificate_stands g c
  certificate_stands g (certificates.drop c d) = certificate_stands g c && certificate_stands g d
  certificate_stands g (certificates.split b c d) =
      condition_stands g b && certificate_stands g c && certificate_stands g d
  certificate_stands g (certificates.contradict items) = true
  certificate_stands g (certificates.arithmetic items) = true
  certificate_stands g (certificates.by_definition name c) = certificate_stands g c
  certificate_stands g (certificates.fact f c) = fact_stands g f && certificate_stands g c

  pub certificates_stand : Setting → CertTrees → Bool
  certificates_stand g no_certs = true
  certificates_stand g (cert_and c cs) = certificate_stands g c && certificates_stand g cs

abbrev mutual
  pub derivation_stands : Setting → DerivationTree → Bool
  derivation_stands g derivations.leaf = true
  derivation_stands g (derivations.sequence ds) = derivations_stand g ds
  derivation_stands g (derivations.conditional d e) = derivation_stands g d && derivation_stands g e
  derivation_stands g (derivations.loop i c body step) =
      assertion_stands g i && certificate_stands g c && derivation_stands g body && derivation_stands g step
  derivation_stands g (derivations.switch ds) = derivations_stand g ds
  derivation_stands g (derivations.call a c) = assertion_stands g a && certificate_stands g c
  derivation_stands g derivations.balanced_call = true
  derivation_stands g (derivations.consequence r c d) =
      assertion_stands g r && certificate_stands g c && derivation_stands g d

  pub derivations_stand : Setting → DerivationTrees → Bool
  derivations_stand g no_derivations = true
  derivations_stand g (derivation_and d ds) = derivation_stands g d && derivations_stand g ds

abbrev pub parts_stand : Setting → EntryTree → Bool
parts_stand g e =
    assertion_stands g e.spec.pre && assertion_stands g e.spec.post && certificate_stands g e.entry && derivation_stands g e.body

-- an entry is one of a function of the unit
abbrev pub entry_stands_in : CoreUnitTree → (has_name : List ℕ → Bool) → EntryTree → Option CoreFunctionTree → Bool
entry_stands_in u has_name e None = false
entry_stands_in u has_name e (Some f) = parts_stand (in_entry u f has_name) e

abbrev pub entry_stands : CoreUnitTree → (has_name : List ℕ → Bool) → EntryTree → Bool
entry_stands u has_name e = entry_stands_in u has_name e (slice_get u.functions e.function)

-- ---- proofs

-- Proofs of a unit: entries of its functions, none twice, and definitions that can be written.
pub record IsOfUnit (u : CoreUnitTree) (proofs : ProofsTree) : Type 0 where
  pub known : list_all (λ (e : EntryTree). nat_lt e.function (length u.functions)) proofs.functions ≡ true
  pub entered_once : differ ◌==◌ (map (λ (e : EntryTree). e.function) proofs.functions) ≡ true
  pub defines_stand : list_all (λ (d : Define). definition_stands (in_definition u) d.body) proofs.defines ≡ true

-- Proofs that can be written: their lists have a meaning, no definition and no function stands twice, no definition has
-- the name of an open function, and what is written has symbols for names, numbers in range and lists that nest at most
-- 1,024 deep.
pub record IsWritable (u : CoreUnitTree) (proofs : ProofsTree) : Type 0 where
  pub is_open : ℕ → Bool
  pub tells_open : TellsOpen u (has_entry proofs) is_open
  pub forms : AreWritable depth_limit (file_forms u proofs)
  pub defined_once : differ bytes_eq (defined_names proofs) ≡ true
  pub entered_once : differ ◌==◌ (map (λ (e : EntryTree). e.function) proofs.functions) ≡ true
  pub not_open : list_any (is_open_name u is_open) (defined_names proofs) ≡ false
  pub defines_stand : list_all (λ (d : Define). definition_stands (in_definition u) d.body) proofs.defines ≡ true
  pub entries_stand :
      list_all (entry_stands u (is_defined (record { unit = u; is_open = is_open; proofs = proofs }))) proofs.functions ≡ true
