-- What a list or atom is at a place of a kind, or the first fault in it. A list's own fault comes before those of its parts, and these come in order.
use Rattle.std.specs.Prelude.{ℕ, suc, zero, ℤ, pos, negsuc, List, [], ◌∷◌, Bool, true, ◌==◌, nat_le, if◌then◌else◌, Option, Some, None, option_map, is_some, Result, Ok, Err}
use Rattle.qs_base.specs.Results.{bind}
use Rattle.qs_memory.specs.Partial.{◌>>=◌}
use Rattle.qs_assert.specs.Trees as trees
use Rattle.qs_entail.specs.Certificates as certificates
use Rattle.qs_sexpr.specs.Trees.{Sexp, number, symbol, list, Sexps, no_parts, part_and, count}
use Rattle.qs_prooftext_meaning.specs.declared.fault.TextFault.{TextFault}
use Rattle.qs_prooftext_meaning.specs.declared.fault.TextFault.TheVariants.{UnknownForm, NoSuchFunction}
use Rattle.qs_prooftext_meaning.specs.Kinds.{Kind, Of, Values, Row, none, one, two, three, four, many, any, a_term, a_condition, an_assertion, a_definition_body, a_certificate, a_derivation, a_range, a_combination, an_item, an_index, a_natural, a_divisor, a_name, a_function, a_known_name, an_old_variable, a_precondition, a_postcondition, an_entry_certificate, a_body}
use Rattle.qs_prooftext_meaning.specs.Settings.{Setting, look_up, old_variable}
use Rattle.qs_prooftext_meaning.specs.Heads.{rows, headless_row}

abbrev pub Answer : Type 0 → Type 0
Answer A = Result A TextFault

abbrev pub or_fault : {A : Type 0} → TextFault → Option A → Answer A
or_fault fault None = Err fault
or_fault fault (Some x) = Ok x

-- ---- atoms

abbrev pub natural_means : {A : Type 0} → (ℕ → Option A) → (at : ℕ) → ℤ → Answer A
natural_means made at (pos n) = or_fault (UnknownForm at) (made n)
natural_means made at (negsuc n) = Err (UnknownForm at)

abbrev pub if_divisor : ℕ → Option ℕ
if_divisor zero = None
if_divisor (suc n) = Some (suc n)

-- a number
abbrev pub number_means : (k : Kind) → (at : ℕ) → ℤ → Answer (Of k)
number_means a_term at n = Ok (trees.number n)
number_means a_condition at n = Err (UnknownForm at)
number_means an_assertion at n = natural_means (λ m. Some (trees.natural m)) at n
number_means a_definition_body at n = natural_means (λ m. Some (trees.natural m)) at n
number_means a_certificate at n = Err (UnknownForm at)
number_means a_derivation at n = Err (UnknownForm at)
number_means a_range at n = Err (UnknownForm at)
number_means a_combination at n = Err (UnknownForm at)
number_means an_item at n = Err (UnknownForm at)
number_means an_index at n = Ok n
number_means a_natural at n = natural_means (λ m. Some m) at n
number_means a_divisor at n = natural_means if_divisor at n
number_means a_name at n = Err (UnknownForm at)
number_means (a_function whole) at n = Err (UnknownForm at)
number_means (a_known_name whole) at n = Err (UnknownForm at)
number_means (an_old_variable whole) at n = Err (UnknownForm at)
number_means a_precondition at n = Err (UnknownForm at)
number_means a_postcondition at n = Err (UnknownForm at)
number_means an_entry_certificate at n = Err (UnknownForm at)
number_means a_body at n = Err (UnknownForm at)

-- a symbol; where it is of the right kind and means nothing, the fault is that of its list
abbrev pub symbol_means : Setting → (k : Kind) → (at : ℕ) → List ℕ → Answer (Of k)
symbol_means g a_term at w = or_fault (UnknownForm at) (option_map trees.variable (look_up w g.variables))
symbol_means g a_condition at w = Err (UnknownForm at)
symbol_means g an_assertion at w = Err (UnknownForm at)
symbol_means g a_definition_body at w = Err (UnknownForm at)
symbol_means g a_certificate at w = Err (UnknownForm at)
symbol_means g a_derivation at w = Err (UnknownForm at)
symbol_means g a_range at w = or_fault (UnknownForm at) (option_map certificates.range (look_up w g.variables))
symbol_means g a_combination at w = Err (UnknownForm at)
symbol_means g an_item at w = Err (UnknownForm at)
symbol_means g an_index at w = Err (UnknownForm at)
symbol_means g a_natural at w = Err (UnknownForm at)
symbol_means g a_divisor at w = Err (UnknownForm at)
symbol_means g a_name at w = Ok w
symbol_means g (a_function whole) at w = or_fault (NoSuchFunction whole) (look_up w g.functions)
symbol_means g (a_known_name whole) at w = if g.has_name w then Ok w else Err (UnknownForm whole)
symbol_means g (an_old_variable whole) at w = or_fault (UnknownForm whole) (look_up w g.variables >>= old_variable)
symbol_means g a_precondition at w = Err (UnknownForm at)
symbol_means g a_postcondition at w = Err (UnknownForm at)
symbol_means g an_entry_certificate at w = Err (UnknownForm at)
symbol_means g a_body at w = Err (UnknownForm at)

-- ---- lists

-- the row of a list by its head; a head is a symbol
abbrev pub headed_row : Setting → (k : Kind) → (at : ℕ) → (head : Sexp) → Option (Row k)
headed_row g k at (number place n) = None
headed_row g k at (symbol place w) = look_up w (rows g k at)
headed_row g k at (list place parts) = None

-- how many parts a row takes
abbrev pub takes : {k : Kind} → Row k → ℕ → Bool
takes (none made) n = n == 0
takes (one a made) n = n == 1
takes (two a b made) n = n == 2
takes (three a b c made) n = n == 3
takes (four a b c d made) n = n == 4
takes (many a made) n = nat_le 2 n
takes (any a made) n = true

-- the parts by their kinds, and all parts as of one kind
abbrev pub Each : Type 0
Each = (ks : List Kind) → Answer (Values ks)

abbrev pub All : Type 0
All = (a : Kind) → Answer (List (Of a))

abbrev pub row_means : {k : Kind} → Row k → Each → All → Answer (Of k)
row_means (none made) each all = Ok made
row_means (one a made) each all = bind (each (a ∷ [])) (λ v. Ok (made v.0))
row_means (two a b made) each all = bind (each (a ∷ b ∷ [])) (λ v. Ok (made v.0 v.1.0))
row_means (three a b c made) each all = bind (each (a ∷ b ∷ c ∷ [])) (λ v. Ok (made v.0 v.1.0 v.1.1.0))
row_means (four a b c d made) each all =
    bind (each (a ∷ b ∷ c ∷ d ∷ [])) (λ v. Ok (made v.0 v.1.0 v.1.1.0 v.1.1.1.0))
row_means (many a made) each all = bind (all a) (λ vs. Ok (made vs))
row_means (any a made) each all = bind (all a) (λ vs. Ok (made vs))

-- a list without a row, or with another count of parts, has no meaning
abbrev pub list_means : {k : Kind} → (at : ℕ) → Option (Row k) → (parts : ℕ) → Each → All → Answer (Of k)
list_means at None n each all = Err (UnknownForm at)
list_means at (Some row) n each all = if takes row n then row_means row each all else Err (UnknownForm at)

abbrev mutual
  pub means : (g : Setting) → (k : Kind) → Sexp → Answer (Of k)
  means g k (number at n) = number_means k at n
  means g k (symbol at w) = symbol_means g k at w
  means g k (list at parts) =
      if is_some (headless_row k (count parts))
      then list_means at (headless_row k (count parts)) (count parts) (λ ks. each_means g ks parts) (λ a. all_mean g a parts)
      else headed_means g k at parts

  pub headed_means : (g : Setting) → (k : Kind) → (at : ℕ) → Sexps → Answer (Of k)
  headed_means g k at no_parts = Err (UnknownForm at)
  headed_means g k at (part_and head parts) =
      list_means at (headed_row g k at head) (count parts) (λ ks. each_means g ks parts) (λ a. all_mean g a parts)

  -- parts, each of its kind; there are as many as kinds
  pub each_means : (g : Setting) → (ks : List Kind) → Sexps → Answer (Values ks)
  each_means g [] parts = Ok tt
  each_means g (k ∷ ks) no_parts = Err (UnknownForm 0)
  each_means g (k ∷ ks) (part_and part parts) =
      bind (means g k part) (λ v. bind (each_means g ks parts) (λ vs. Ok (v, vs)))

  -- parts, all of one kind
  pub all_mean : (g : Setting) → (k : Kind) → Sexps → Answer (List (Of k))
  all_mean g k no_parts = Ok []
  all_mean g k (part_and part parts) = bind (means g k part) (λ v. bind (all_mean g k parts) (λ vs. Ok (v ∷ vs)))
