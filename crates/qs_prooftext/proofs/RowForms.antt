-- What a row makes of its parts is written as a list with the word of the row, and can be written.
use Rattle.std.proofs.Common.{◌≡◌, ℕ, pos, nat_le, Bool, true, false, ◌&&◌, if◌then◌else◌, List, [], ◌∷◌, ◌++◌, length, codes, Option, Some, None, refl, ap, ◌∙◌, subst}
use Rattle.std.specs.Prelude.{bytes_eq}
use Rattle.std.proofs.lemmas.Bool.{and_from}
use Rattle.std.proofs.lemmas.Slice.Eq.{bytes_eq-Decides}
use Rattle.qs_memory.specs.Partial.{◌>>=◌}
use Rattle.qs_assert.specs.declared.variable.Var.{Var}
use Rattle.qs_assert.specs.declared.variable.VarKind.{VarKind}
use Rattle.qs_assert.specs.declared.variable.VarKind.TheVariants as kinds
use Rattle.qs_assert.specs.Reading.{term_list-of, cond_list-of, assertion_list-of}
use Rattle.qs_assert.specs.Trees.{TermTree, terms_of, term_list, CondTree, conds_of, cond_list, AssertionTree, assertions_of, assertion_list}
use Rattle.qs_assert.specs.Trees as trees
use Rattle.qs_entail.specs.Certificates as certificates
use Rattle.qs_entail.specs.Certificates.{CertTree, FactTree}
use Rattle.qs_entail.specs.View.{certs_of}
use Rattle.qs_sexpr.specs.Trees.{Sexp, number, symbol, list, Sexps, no_parts, part_and}
use Rattle.qs_sexpr.specs.Writing.{Form, symbol_form, number_form, list_form}
use Rattle.qs_triples.specs.Derivations.{DerivationTree}
use Rattle.qs_triples.specs.Mentions.{plain_variable}
use Rattle.qs_triples.specs.TreeOf.{derivations_of}
use Rattle.qs_prooftext_meaning.specs.Heads.{rows, term_rows, condition_rows, assertion_rows, definition_rows, rule_rows, fact_rows, range_rows, derivation_rows, result_rows}
use Rattle.qs_prooftext_meaning.specs.Kinds.{Kind, Of, Values, Row, Rows, none, one, two, three, four, many, any, a_term, a_condition, an_assertion, a_definition_body, a_certificate, a_derivation, a_range, a_combination, an_item, an_index, a_natural, a_divisor, a_name, a_function, a_known_name, an_old_variable, a_precondition, a_postcondition, an_entry_certificate, a_body}
use Rattle.qs_prooftext_meaning.specs.Settings.{Setting, look_up, old_variable}
use Rattle.qs_prooftext_meaning.specs.Writable.{are_many, is_function, is_meant, term_stands, terms_stand, condition_stands, conditions_stand, assertion_stands, assertions_stand, definition_stands, definitions_stand, fact_stands, certificate_stands, certificates_stand, derivation_stands, derivations_stand}
use Rattle.qs_prooftext_meaning.specs.Writing.{Words, assertion_form, assertion_forms, certificate_form, certificate_forms, combination_form, condition_form, condition_forms, derivation_form, derivation_forms, forms_of, headed, item_form, term_form, term_forms, variable_form, word_for}

-- ---- forms

-- a list or atom without its places
abbrev mutual
  pub erased : Sexp → Form
  erased (number at n) = number_form n
  erased (symbol at w) = symbol_form w
  erased (list at parts) = list_form (forms_of (all_erased parts))

  pub all_erased : Sexps → List Form
  all_erased no_parts = []
  all_erased (part_and s ss) = erased s ∷ all_erased ss

abbrev pub range_form : Words → FactTree → Form
range_form w (certificates.range x) = variable_form w x x.kind
range_form w (certificates.cost_range f) = headed (codes "cost") (symbol_form (w.functions f) ∷ [])
range_form w (certificates.apart i items) = number_form i
range_form w (certificates.num_is t items) = term_form w t
range_form w (certificates.num_bounds t) = term_form w t
range_form w (certificates.wrapu_is t first second) = term_form w t
range_form w (certificates.wraps_is t first second) = term_form w t
range_form w (certificates.wrapu_bounds t) = term_form w t
range_form w (certificates.wraps_bounds t) = term_form w t
range_form w (certificates.quotient_bounds t k) = term_form w t
range_form w (certificates.bits_bound t) = term_form w t
range_form w (certificates.bits_half t items) = term_form w t
range_form w (certificates.bits_rise t u items) = term_form w t

abbrev pub is_range : FactTree → Bool
is_range (certificates.range x) = true
is_range (certificates.cost_range f) = true
is_range (certificates.apart i items) = false
is_range (certificates.num_is t items) = false
is_range (certificates.num_bounds t) = false
is_range (certificates.wrapu_is t first second) = false
is_range (certificates.wraps_is t first second) = false
is_range (certificates.wrapu_bounds t) = false
is_range (certificates.wraps_bounds t) = false
is_range (certificates.quotient_bounds t k) = false
is_range (certificates.bits_bound t) = false
is_range (certificates.bits_half t items) = false
is_range (certificates.bits_rise t u items) = false

abbrev pub is_old : VarKind → Bool
is_old (kinds.Plain i) = false
is_old (kinds.Temporary k) = false
is_old (kinds.Old i) = true
is_old kinds.Returned = false

abbrev pub form_of : Words → (k : Kind) → Of k → Form
form_of w a_term v = term_form w v
form_of w a_condition v = condition_form w v
form_of w an_assertion v = assertion_form w v
form_of w a_definition_body v = assertion_form w v
form_of w a_certificate v = certificate_form w v
form_of w a_derivation v = derivation_form w v
form_of w a_range v = range_form w v
form_of w a_combination v = combination_form v
form_of w an_item v = item_form v
form_of w an_index v = number_form v
form_of w a_natural v = number_form (pos v)
form_of w a_divisor v = number_form (pos v)
form_of w a_name v = symbol_form v
form_of w (a_function at) v = symbol_form (w.functions v)
form_of w (a_known_name at) v = symbol_form v
form_of w (an_old_variable at) v = symbol_form (word_for (plain_variable v) w.variables)
form_of w a_precondition v = headed (codes "pre") (assertion_form w v ∷ [])
form_of w a_postcondition v = headed (codes "post") (assertion_form w v ∷ [])
form_of w an_entry_certificate v = headed (codes "entry") (certificate_form w v ∷ [])
form_of w a_body v = headed (codes "body") (derivation_form w v ∷ [])

abbrev pub stands_of : Setting → (k : Kind) → Of k → Bool
stands_of g a_term v = term_stands g v
stands_of g a_condition v = condition_stands g v
stands_of g an_assertion v = assertion_stands g v
stands_of g a_definition_body v = definition_stands g v
stands_of g a_certificate v = certificate_stands g v
stands_of g a_derivation v = derivation_stands g v
stands_of g a_range v = fact_stands g v && is_range v
stands_of g a_combination v = true
stands_of g an_item v = true
stands_of g an_index v = true
stands_of g a_natural v = true
stands_of g a_divisor v = nat_le 1 v
stands_of g a_name v = true
stands_of g (a_function at) v = is_function g v
stands_of g (a_known_name at) v = g.has_name v
stands_of g (an_old_variable at) v = is_meant g v && is_old v.kind
stands_of g a_precondition v = assertion_stands g v
stands_of g a_postcondition v = assertion_stands g v
stands_of g an_entry_certificate v = certificate_stands g v
stands_of g a_body v = derivation_stands g v

-- What words mean in the one setting is written so, and stands in the other, which may have more names.
pub record Fits (g h : Setting) (w : Words) : Type 0 where
  pub variables : (n : List ℕ) (x : Var) → look_up n g.variables ≡ Some x → (variable_form w x x.kind ≡ symbol_form n) × (is_meant h x ≡ true)
  pub olds : (n : List ℕ) (x : Var) → (look_up n g.variables >>= old_variable) ≡ Some x → (word_for (plain_variable x) w.variables ≡ n) × ((is_meant h x && is_old x.kind) ≡ true)
  pub returned : (x : Var) → g.result ≡ Some x → (variable_form w x x.kind ≡ headed (codes "result") []) × (is_meant h x ≡ true)
  pub functions : (n : List ℕ) (f : ℕ) → look_up n g.functions ≡ Some f → (w.functions f ≡ n) × (is_function h f ≡ true)
  pub names : (n : List ℕ) → g.has_name n ≡ true → h.has_name n ≡ true

-- it is written so, and stands
pub record Good (h : Setting) (w : Words) (k : Kind) (v : Of k) (f : Form) : Type 0 where
  pub form : form_of w k v ≡ f
  pub stands : stands_of h k v ≡ true

abbrev pub forms_each : Words → (ks : List Kind) → Values ks → List Form
forms_each w [] vs = []
forms_each w (k ∷ ks) vs = form_of w k vs.0 ∷ forms_each w ks vs.1

abbrev pub StandEach : Setting → (ks : List Kind) → Values ks → Type 0
StandEach h [] vs = Unit {0}
StandEach h (k ∷ ks) vs = (stands_of h k vs.0 ≡ true) × StandEach h ks vs.1

abbrev StandAll : Setting → (k : Kind) → List (Of k) → Type 0
StandAll h k [] = Unit {0}
StandAll h k (v ∷ vs) = (stands_of h k v ≡ true) × StandAll h k vs

abbrev pub forms_all : Words → (k : Kind) → List (Of k) → List Form
forms_all w k [] = []
forms_all w k (v ∷ vs) = form_of w k v ∷ forms_all w k vs

pub record GoodEach (h : Setting) (w : Words) (ks : List Kind) (vs : Values ks) (fs : List Form) : Type 0 where
  pub forms : forms_each w ks vs ≡ fs
  pub stand : StandEach h ks vs

pub record GoodAll (h : Setting) (w : Words) (k : Kind) (vs : List (Of k)) (fs : List Form) : Type 0 where
  pub forms : forms_all w k vs ≡ fs
  pub stand : StandAll h k vs

-- ---- rows

-- what a list of the row with this word is, where its parts stand
abbrev pub RowGood : Setting → Words → (k : Kind) → (word : List ℕ) → Row k → Type 0
RowGood h w k word (none made) = Good h w k made (headed word [])
RowGood h w k word (one a made) =
    (x : Of a) → stands_of h a x ≡ true → Good h w k (made x) (headed word (form_of w a x ∷ []))
RowGood h w k word (two a b made) =
    (x : Of a) (y : Of b) → stands_of h a x ≡ true → stands_of h b y ≡ true
    → Good h w k (made x y) (headed word (form_of w a x ∷ form_of w b y ∷ []))
RowGood h w k word (three a b c made) =
    (x : Of a) (y : Of b) (z : Of c) → stands_of h a x ≡ true → stands_of h b y ≡ true → stands_of h c z ≡ true
    → Good h w k (made x y z) (headed word (form_of w a x ∷ form_of w b y ∷ form_of w c z ∷ []))
RowGood h w k word (four a b c d made) =
    (x : Of a) (y : Of b) (z : Of c) (t : Of d) → stands_of h a x ≡ true → stands_of h b y ≡ true
    → stands_of h c z ≡ true → stands_of h d t ≡ true
    → Good h w k (made x y z t) (headed word (form_of w a x ∷ form_of w b y ∷ form_of w c z ∷ form_of w d t ∷ []))
RowGood h w k word (many a made) =
    (xs : List (Of a)) → nat_le 2 (length xs) ≡ true → StandAll h a xs → Good h w k (made xs) (headed word (forms_all w a xs))
RowGood h w k word (any a made) =
    (xs : List (Of a)) → StandAll h a xs → Good h w k (made xs) (headed word (forms_all w a xs))

abbrev RowsGood : Setting → Words → (k : Kind) → Rows k → Type 0
RowsGood h w k [] = Unit {0}
RowsGood h w k (row ∷ rs) = RowGood h w k row.0 row.1 × RowsGood h w k rs

pub found_good : (h : Setting) (w : Words) (k : Kind) (word : List ℕ) (rs : Rows k) (row : Row k) → RowsGood h w k rs → look_up word rs ≡ Some row → RowGood h w k word row
found_good h w k word [] row good e = cc
found_good h w k word (r ∷ rs) row good e =
    by (bytes_eq r.0 word) refl e (λ f. found_good h w k word rs row good.1 f)
  where
    by : (b : Bool) → bytes_eq r.0 word ≡ b → (if b then Some r.1 else look_up word rs) ≡ Some row → (look_up word rs ≡ Some row → RowGood h w k word row) → RowGood h w k word row
    by true is f more =
        let name : r.0 ≡ word = (bytes_eq-Decides r.0 word).0 is in
        let same : r.1 ≡ row = cc in
        subst (λ (n : List ℕ). RowGood h w k n row) name (subst (λ (q : Row k). RowGood h w k r.0 q) same good.0)
    by false is f more = more f

-- ---- lists of trees

terms_all : (h : Setting) (w : Words) (ts : List TermTree) → term_forms w (terms_of ts) ≡ forms_all w a_term ts
terms_all h w [] = refl
terms_all h w (t ∷ ts) = ap (λ (fs : List Form). term_form w t ∷ fs) (terms_all h w ts)

terms_good : (h : Setting) (ts : List TermTree) → StandAll h a_term ts → terms_stand h (terms_of ts) ≡ true
terms_good h [] all = refl
terms_good h (t ∷ ts) all = and_from (term_stands h t) (terms_stand h (terms_of ts)) all.0 (terms_good h ts all.1)

many_terms : (h : Setting) (ts : List TermTree) → nat_le 2 (length ts) ≡ true → StandAll h a_term ts → (are_many (term_list (terms_of ts)) && terms_stand h (terms_of ts)) ≡ true
many_terms h ts some all =
    and_from (are_many (term_list (terms_of ts))) (terms_stand h (terms_of ts)) (ap (λ (us : List TermTree). are_many us) (term_list-of ts) ∙ some) (terms_good h ts all)

conds_all : (h : Setting) (w : Words) (cs : List CondTree) → condition_forms w (conds_of cs) ≡ forms_all w a_condition cs
conds_all h w [] = refl
conds_all h w (c ∷ cs) = ap (λ (fs : List Form). condition_form w c ∷ fs) (conds_all h w cs)

conds_good : (h : Setting) (cs : List CondTree) → StandAll h a_condition cs → conditions_stand h (conds_of cs) ≡ true
conds_good h [] all = refl
conds_good h (c ∷ cs) all = and_from (condition_stands h c) (conditions_stand h (conds_of cs)) all.0 (conds_good h cs all.1)

many_conds : (h : Setting) (cs : List CondTree) → nat_le 2 (length cs) ≡ true → StandAll h a_condition cs → (are_many (cond_list (conds_of cs)) && conditions_stand h (conds_of cs)) ≡ true
many_conds h cs some all =
    and_from (are_many (cond_list (conds_of cs))) (conditions_stand h (conds_of cs)) (ap (λ (us : List CondTree). are_many us) (cond_list-of cs) ∙ some) (conds_good h cs all)

parts_all : (h : Setting) (w : Words) (ps : List AssertionTree) → assertion_forms w (assertions_of ps) ≡ forms_all w an_assertion ps
parts_all h w [] = refl
parts_all h w (p ∷ ps) = ap (λ (fs : List Form). assertion_form w p ∷ fs) (parts_all h w ps)

parts_good : (h : Setting) (ps : List AssertionTree) → StandAll h an_assertion ps → assertions_stand h (assertions_of ps) ≡ true
parts_good h [] all = refl
parts_good h (p ∷ ps) all = and_from (assertion_stands h p) (assertions_stand h (assertions_of ps)) all.0 (parts_good h ps all.1)

many_parts : (h : Setting) (ps : List AssertionTree) → nat_le 2 (length ps) ≡ true → StandAll h an_assertion ps → (are_many (assertion_list (assertions_of ps)) && assertions_stand h (assertions_of ps)) ≡ true
many_parts h ps some all =
    and_from (are_many (assertion_list (assertions_of ps))) (assertions_stand h (assertions_of ps)) (ap (λ (us : List AssertionTree). are_many us) (assertion_list-of ps) ∙ some) (parts_good h ps all)

bodies_all : (h : Setting) (w : Words) (ps : List AssertionTree) → assertion_forms w (assertions_of ps) ≡ forms_all w a_definition_body ps
bodies_all h w [] = refl
bodies_all h w (p ∷ ps) = ap (λ (fs : List Form). assertion_form w p ∷ fs) (bodies_all h w ps)

bodies_good : (h : Setting) (ps : List AssertionTree) → StandAll h a_definition_body ps → definitions_stand h (assertions_of ps) ≡ true
bodies_good h [] all = refl
bodies_good h (p ∷ ps) all = and_from (definition_stands h p) (definitions_stand h (assertions_of ps)) all.0 (bodies_good h ps all.1)

many_bodies : (h : Setting) (ps : List AssertionTree) → nat_le 2 (length ps) ≡ true → StandAll h a_definition_body ps → (are_many (assertion_list (assertions_of ps)) && definitions_stand h (assertions_of ps)) ≡ true
many_bodies h ps some all =
    and_from (are_many (assertion_list (assertions_of ps))) (definitions_stand h (assertions_of ps)) (ap (λ (us : List AssertionTree). are_many us) (assertion_list-of ps) ∙ some) (bodies_good h ps all)

certs_all : (h : Setting) (w : Words) (cs : List CertTree) → certificate_forms w (certs_of cs) ≡ forms_all w a_certificate cs
certs_all h w [] = refl
certs_all h w (c ∷ cs) = ap (λ (fs : List Form). certificate_form w c ∷ fs) (certs_all h w cs)

certs_good : (h : Setting) (cs : List CertTree) → StandAll h a_certificate cs → certificates_stand h (certs_of cs) ≡ true
certs_good h [] all = refl
certs_good h (c ∷ cs) all = and_from (certificate_stands h c) (certificates_stand h (certs_of cs)) all.0 (certs_good h cs all.1)

derivations_all : (h : Setting) (w : Words) (ds : List DerivationTree) → derivation_forms w (derivations_of ds) ≡ forms_all w a_derivation ds
derivations_all h w [] = refl
derivations_all h w (d ∷ ds) = ap (λ (fs : List Form). derivation_form w d ∷ fs) (derivations_all h w ds)

derivations_good : (h : Setting) (ds : List DerivationTree) → StandAll h a_derivation ds → derivations_stand h (derivations_of ds) ≡ true
derivations_good h [] all = refl
derivations_good h (d ∷ ds) all = and_from (derivation_stands h d) (derivations_stand h (derivations_of ds)) all.0 (derivations_good h ds all.1)

pub in_list : (word : List ℕ) (fs gs : List Form) → fs ≡ gs → headed word fs ≡ headed word gs
in_list word fs gs e = ap (λ (xs : List Form). headed word xs) e

-- ---- the rows of each kind

result_good : (h : Setting) (w : Words) (k : Kind) (made : Var → Of k) (o : Option Var) → ((x : Var) → o ≡ Some x → Good h w k (made x) (headed (codes "result") [])) → RowsGood h w k (result_rows made o)
result_good h w k made None good = tt
result_good h w k made (Some x) good = (good x refl, tt)

first : (b : Bool) → (b && true) ≡ true → b ≡ true
first true e = refl
first false e = e

neither : (b : Bool) → (b && false) ≡ true → ⊥
neither true e = cc
neither false e = cc

old_good : (h : Setting) (w : Words) (x : Var) (k : VarKind) → (is_meant h x && is_old k) ≡ true → (variable_form w x k ≡ headed (codes "old") (symbol_form (word_for (plain_variable x) w.variables) ∷ [])) × (is_meant h x ≡ true)
old_good h w x (kinds.Plain i) e = absurd (neither (is_meant h x) e)
old_good h w x (kinds.Temporary i) e = absurd (neither (is_meant h x) e)
old_good h w x (kinds.Old i) e = (refl, first (is_meant h x) e)
old_good h w x kinds.Returned e = absurd (neither (is_meant h x) e)

term_good : (g h : Setting) (w : Words) → Fits g h w → (at : ℕ) → RowsGood h w a_term (term_rows g at)
term_good g h w fits at = (
  λ x e. (let t = old_good h w x x.kind e in record { form = t.0; stands = t.1 }),
  (
    λ ts m e. record { form = in_list (codes "add") _ _ (terms_all h w ts); stands = many_terms h ts m e },
    (
      λ x y p q. record { form = refl; stands = and_from _ _ p q },
      (
        λ ts m e. record { form = in_list (codes "mul") _ _ (terms_all h w ts); stands = many_terms h ts m e },
        (
          λ x y p q. record { form = refl; stands = and_from _ _ q p },
          (
            λ x p. record { form = refl; stands = p },
            (
              λ x p. record { form = refl; stands = p },
              (
                λ x p. record { form = refl; stands = p },
                result_good h w a_term trees.variable g.result (λ x e. (let t = fits.returned x e in record { form = t.0; stands = t.1 })),
              ),
            ),
          ),
        ),
      ),
    ),
  ),
)

condition_good : (h : Setting) (w : Words) → RowsGood h w a_condition condition_rows
condition_good h w = (
  λ x y p q. record { form = refl; stands = and_from _ _ p q },
  (
    λ x y p q. record { form = refl; stands = and_from _ _ p q },
    (
      λ x y p q. record { form = refl; stands = and_from _ _ p q },
      (
        λ x y p q. record { form = refl; stands = and_from _ _ p q },
        (
          λ x p. record { form = refl; stands = p },
          (
            λ cs m e. record { form = in_list (codes "and") _ _ (conds_all h w cs); stands = many_conds h cs m e },
            (λ cs m e. record { form = in_list (codes "or") _ _ (conds_all h w cs); stands = many_conds h cs m e }, tt),
          ),
        ),
      ),
    ),
  ),
)

assertion_good : (h : Setting) (w : Words) (at : ℕ) → RowsGood h w an_assertion (assertion_rows at)
assertion_good h w at = (
  record { form = refl; stands = refl },
  (
    λ f p. record { form = refl; stands = p },
    (
      λ x p. record { form = refl; stands = p },
      (
        λ ps m e. record { form = in_list (codes "add") _ _ (parts_all h w ps); stands = many_parts h ps m e },
        (
          λ ps m e. record { form = in_list (codes "max") _ _ (parts_all h w ps); stands = many_parts h ps m e },
          (
            λ ps m e. record { form = in_list (codes "mul") _ _ (parts_all h w ps); stands = many_parts h ps m e },
            (
              λ x y p q. record { form = refl; stands = and_from _ _ p q },
              (
                λ x y z p q r. record { form = refl; stands = and_from _ _ (and_from _ _ p q) r },
                (λ n p. record { form = refl; stands = p }, tt),
              ),
            ),
          ),
        ),
      ),
    ),
  ),
)

definition_good : (h : Setting) (w : Words) (at : ℕ) → RowsGood h w a_definition_body (definition_rows at)
definition_good h w at = (
  λ f p. record { form = refl; stands = p },
  (
    λ ps m e. record { form = in_list (codes "add") _ _ (bodies_all h w ps); stands = many_bodies h ps m e },
    (
      λ ps m e. record { form = in_list (codes "max") _ _ (bodies_all h w ps); stands = many_bodies h ps m e },
      (
        λ ps m e. record { form = in_list (codes "mul") _ _ (bodies_all h w ps); stands = many_bodies h ps m e },
        (λ n p. record { form = refl; stands = refl }, tt),
      ),
    ),
  ),
)

-- a range, with the certificate behind it
range_good : (h : Setting) (w : Words) (f : FactTree) (c : CertTree) → (fact_stands h f && is_range f) ≡ true → certificate_stands h c ≡ true → Good h w a_certificate (certificates.fact f c) (headed (codes "range") (range_form w f ∷ certificate_form w c ∷ []))
range_good h w (certificates.range x) c e k =
    record { form = refl; stands = and_from _ _ (first (is_meant h x) e) k }
range_good h w (certificates.cost_range f) c e k =
    record { form = refl; stands = and_from _ _ (first (is_function h f) e) k }
range_good h w (certificates.apart i items) c e k = cc
range_good h w (certificates.num_is t items) c e k = absurd (neither (term_stands h t) e)
range_good h w (certificates.num_bounds t) c e k = absurd (neither (term_stands h t) e)
range_good h w (certificates.wrapu_is t v u) c e k = absurd (neither (term_stands h t) e)
range_good h w (certificates.wraps_is t v u) c e k = absurd (neither (term_stands h t) e)
range_good h w (certificates.wrapu_bounds t) c e k = absurd (neither (term_stands h t) e)
range_good h w (certificates.wraps_bounds t) c e k = absurd (neither (term_stands h t) e)
range_good h w (certificates.quotient_bounds t n) c e k = absurd (neither (term_stands h t) e)
range_good h w (certificates.bits_bound t) c e k = absurd (neither (term_stands h t) e)
range_good h w (certificates.bits_half t items) c e k = absurd (neither (term_stands h t) e)
range_good h w (certificates.bits_rise t u items) c e k =
    absurd (neither (term_stands h t && term_stands h u) e)

certificate_good : (h : Setting) (w : Words) → RowsGood h w a_certificate (rule_rows ++ fact_rows)
certificate_good h w = (
  record { form = refl; stands = refl },
  (
    λ x y z p q r. record { form = refl; stands = and_from _ _ (and_from _ _ p q) r },
    (
      λ x y p q. record { form = refl; stands = q },
      (
        λ cs e. record { form = in_list (codes "all") _ _ (certs_all h w cs); stands = certs_good h cs e },
        (
          λ cs e. record { form = in_list (codes "parts") _ _ (certs_all h w cs); stands = certs_good h cs e },
          (
            λ x p. record { form = refl; stands = p },
            (
              λ x y p q. record { form = refl; stands = and_from _ _ p q },
              (
                λ x y z p q r. record { form = refl; stands = and_from _ _ (and_from _ _ p q) r },
                (
                  λ x p. record { form = refl; stands = refl },
                  (
                    λ x p. record { form = refl; stands = refl },
                    (
                      λ x y p q. record { form = refl; stands = q },
                      (
                        λ f c p q. range_good h w f c p q,
                        (
                          λ x y z p q r. record { form = refl; stands = r },
                          (
                            λ x y z p q r. record { form = refl; stands = and_from _ _ p r },
                            (
                              λ x y p q. record { form = refl; stands = and_from _ _ p q },
                              (
                                λ x y z t p q r s. record { form = refl; stands = and_from _ _ p s },
                                (
                                  λ x y z t p q r s. record { form = refl; stands = and_from _ _ p s },
                                  (
                                    λ x y p q. record { form = refl; stands = and_from _ _ p q },
                                    (
                                      λ x y p q. record { form = refl; stands = and_from _ _ p q },
                                      (
                                        λ x y z p q r. record { form = refl; stands = and_from _ _ p r },
                                        (
                                          λ x y p q. record { form = refl; stands = and_from _ _ p q },
                                          (
                                            λ x y z p q r. record { form = refl; stands = and_from _ _ p r },
                                            (λ x y z t p q r s. record { form = refl; stands = and_from _ _ (and_from _ _ p q) s }, tt),
                                          ),
                                        ),
                                      ),
                                    ),
                                  ),
                                ),
                              ),
                            ),
                          ),
                        ),
                      ),
                    ),
                  ),
                ),
              ),
            ),
          ),
        ),
      ),
    ),
  ),
)

ranges_good : (g h : Setting) (w : Words) → Fits g h w → (at : ℕ) → RowsGood h w a_range (range_rows g at)
ranges_good g h w fits at = (
  λ x e. (let t = old_good h w x x.kind e in record { form = t.0; stands = and_from (is_meant h x) true t.1 refl }),
  (
    λ f p. record { form = refl; stands = and_from (is_function h f) true p refl },
    result_good h w a_range certificates.range g.result (λ x e. (let t = fits.returned x e in record { form = t.0; stands = and_from (is_meant h x) true t.1 refl })),
  ),
)

derivation_good : (h : Setting) (w : Words) → RowsGood h w a_derivation derivation_rows
derivation_good h w = (
  record { form = refl; stands = refl },
  (
    λ ds e. record { form = in_list (codes "seq") _ _ (derivations_all h w ds); stands = derivations_good h ds e },
    (
      λ x y p q. record { form = refl; stands = and_from _ _ p q },
      (
        λ x y z t p q r s. record { form = refl; stands = and_from _ _ (and_from _ _ (and_from _ _ p q) r) s },
        (
          λ ds e. record { form = in_list (codes "switch") _ _ (derivations_all h w ds); stands = derivations_good h ds e },
          (
            λ x y p q. record { form = refl; stands = and_from _ _ p q },
            (
              record { form = refl; stands = refl },
              (λ x y z p q r. record { form = refl; stands = and_from _ _ (and_from _ _ p q) r }, tt),
            ),
          ),
        ),
      ),
    ),
  ),
)

pub rows_good : (g h : Setting) (w : Words) → Fits g h w → (k : Kind) (at : ℕ) → RowsGood h w k (rows g k at)
rows_good g h w fits a_term at = term_good g h w fits at
rows_good g h w fits a_condition at = condition_good h w
rows_good g h w fits an_assertion at = assertion_good h w at
rows_good g h w fits a_definition_body at = definition_good h w at
rows_good g h w fits a_certificate at = certificate_good h w
rows_good g h w fits a_derivation at = derivation_good h w
rows_good g h w fits a_range at = ranges_good g h w fits at
rows_good g h w fits a_combination at = tt
rows_good g h w fits an_item at = tt
rows_good g h w fits an_index at = tt
rows_good g h w fits a_natural at = tt
rows_good g h w fits a_divisor at = tt
rows_good g h w fits a_name at = tt
rows_good g h w fits (a_function whole) at = tt
rows_good g h w fits (a_known_name whole) at = tt
rows_good g h w fits (an_old_variable whole) at = tt
rows_good g h w fits a_precondition at = (λ x p. record { form = refl; stands = p }, tt)
rows_good g h w fits a_postcondition at = (λ x p. record { form = refl; stands = p }, tt)
rows_good g h w fits an_entry_certificate at = (λ x p. record { form = refl; stands = p }, tt)
rows_good g h w fits a_body at = (λ x p. record { form = refl; stands = p }, tt)
