-- What a list or atom means is written as it stands, and can be written.
use Rattle.std.proofs.Common.{arith, ◌≡◌, ℕ, zero, suc, ℤ, pos, negsuc, ◌==◌, nat_le, Bool, true, false, if◌then◌else◌, List, [], ◌∷◌, length, map, Option, Some, None, Ok, Err, refl, sym, ap, ◌∙◌, subst}
use Rattle.std.specs.Prelude.{option_map}
use Rattle.std.proofs.lemmas.Bool.{and_from, eqb-true}
use Rattle.qs_base.specs.Results.{bind}
use Rattle.qs_memory.specs.Partial.{◌>>=◌}
use Rattle.qs_assert.specs.declared.variable.Var.{Var}
use Rattle.qs_assert.specs.Trees.{TermTree, AssertionTree}
use Rattle.qs_assert.specs.Trees as trees
use Rattle.qs_entail.specs.Certificates as certificates
use Rattle.qs_entail.specs.Certificates.{FactTree, Item}
use Rattle.qs_sexpr.specs.Trees.{Sexp, number, symbol, list, Sexps, no_parts, part_and, count}
use Rattle.qs_sexpr.specs.Writing.{Form, symbol_form, number_form, list_form}
use Rattle.qs_prooftext_meaning.specs.declared.fault.TextFault.TheVariants.{UnknownForm, NoSuchFunction}
use Rattle.qs_prooftext_meaning.specs.Heads.{rows, item_row}
use Rattle.qs_prooftext_meaning.specs.Kinds.{Kind, Of, Values, Row, none, one, two, three, four, many, any, a_term, a_condition, an_assertion, a_definition_body, a_certificate, a_derivation, a_range, a_combination, an_item, an_index, a_natural, a_divisor, a_name, a_function, a_known_name, an_old_variable, a_precondition, a_postcondition, an_entry_certificate, a_body}
use Rattle.qs_prooftext_meaning.specs.Meanings.{Answer, all_mean, each_means, headed_means, if_divisor, list_means, means, natural_means, number_means, or_fault, row_means, symbol_means, takes}
use Rattle.qs_prooftext_meaning.specs.Settings.{Setting, look_up, old_variable}
use Rattle.qs_prooftext_meaning.specs.Writable.{is_meant}
use Rattle.qs_prooftext_meaning.specs.Writing.{Words, combination_form, forms_of, headed, item_form}
use Rattle.qs_prooftext_assertions.proofs.FlatLaws.{all_count}
use Rattle.qs_prooftext.proofs.RowForms.{erased, all_erased, form_of, stands_of, Fits, Good, forms_all, GoodEach, GoodAll, RowGood, found_good, in_list, rows_good}

-- ---- atoms

natural_good : (h : Setting) (w : Words) (k : Kind) (made : ℕ → Option (Of k)) (at : ℕ) (n : ℤ) (v : Of k) → ((m : ℕ) (x : Of k) → made m ≡ Some x → Good h w k x (number_form (pos m))) → natural_means made at n ≡ Ok v → Good h w k v (number_form n)
natural_good h w k made at (pos m) v good e = by (made m) refl e
  where
    by : (o : Option (Of k)) → made m ≡ o → or_fault (UnknownForm at) o ≡ Ok v → Good h w k v (number_form (pos m))
    by None is f = cc
    by (Some x) is f = let same : x ≡ v = cc in subst (λ (y : Of k). Good h w k y (number_form (pos m))) same (good m x is)
natural_good h w k made at (negsuc m) v good e = cc

divisor_good : (h : Setting) (w : Words) (m x : ℕ) → if_divisor m ≡ Some x → Good h w a_divisor x (number_form (pos m))
divisor_good h w zero x e = cc
divisor_good h w (suc m) x e =
    let same : suc m ≡ x = cc in
    subst (λ (y : ℕ). Good h w a_divisor y (number_form (pos (suc m)))) same (record { form = refl; stands = grind arith })

plain_number : (h : Setting) (w : Words) (m : ℕ) (x : AssertionTree) → Some (trees.natural m) ≡ Some x → Good h w an_assertion x (number_form (pos m))
plain_number h w m x e =
    let same : trees.natural m ≡ x = cc in
    subst (λ (y : AssertionTree). Good h w an_assertion y (number_form (pos m))) same (record { form = refl; stands = refl })

body_number : (h : Setting) (w : Words) (m : ℕ) (x : AssertionTree) → Some (trees.natural m) ≡ Some x → Good h w a_definition_body x (number_form (pos m))
body_number h w m x e =
    let same : trees.natural m ≡ x = cc in
    subst (λ (y : AssertionTree). Good h w a_definition_body y (number_form (pos m))) same (record { form = refl; stands = refl })

count_number : (h : Setting) (w : Words) (m x : ℕ) → Some m ≡ Some x → Good h w a_natural x (number_form (pos m))
count_number h w m x e =
    let same : m ≡ x = cc in
    subst (λ (y : ℕ). Good h w a_natural y (number_form (pos m))) same (record { form = refl; stands = refl })

number_good : (h : Setting) (w : Words) (k : Kind) (at : ℕ) (n : ℤ) (v : Of k) → number_means k at n ≡ Ok v → Good h w k v (number_form n)
number_good h w a_term at n v e =
    let same : trees.number n ≡ v = cc in
    subst (λ (y : TermTree). Good h w a_term y (number_form n)) same (record { form = refl; stands = refl })
number_good h w a_condition at n v e = cc
number_good h w an_assertion at n v e =
    natural_good h w an_assertion (λ m. Some (trees.natural m)) at n v (plain_number h w) e
number_good h w a_definition_body at n v e =
    natural_good h w a_definition_body (λ m. Some (trees.natural m)) at n v (body_number h w) e
number_good h w a_certificate at n v e = cc
number_good h w a_derivation at n v e = cc
number_good h w a_range at n v e = cc
number_good h w a_combination at n v e = cc
number_good h w an_item at n v e = cc
number_good h w an_index at n v e =
    let same : n ≡ v = cc in
    subst (λ (y : ℤ). Good h w an_index y (number_form n)) same (record { form = refl; stands = refl })
number_good h w a_natural at n v e = natural_good h w a_natural (λ m. Some m) at n v (count_number h w) e
number_good h w a_divisor at n v e = natural_good h w a_divisor if_divisor at n v (divisor_good h w) e
number_good h w a_name at n v e = cc
number_good h w (a_function whole) at n v e = cc
number_good h w (a_known_name whole) at n v e = cc
number_good h w (an_old_variable whole) at n v e = cc
number_good h w a_precondition at n v e = cc
number_good h w a_postcondition at n v e = cc
number_good h w an_entry_certificate at n v e = cc
number_good h w a_body at n v e = cc

-- what was found by a word
found_value : {A B : Type 0} (o : Option A) (made : A → B) (at : ℕ) (v : B) → or_fault (UnknownForm at) (option_map made o) ≡ Ok v → (x : A) × (o ≡ Some x) × (made x ≡ v)
found_value None made at v e = cc
found_value (Some x) made at v e = (x, refl, (let same : made x ≡ v = cc in same))

found_plain : (o : Option Var) (at : ℕ) (v : Var) → or_fault (UnknownForm at) o ≡ Ok v → o ≡ Some v
found_plain None at v e = cc
found_plain (Some x) at v e = let same : x ≡ v = cc in ap (λ (y : Var). Some y) same

found_function : (o : Option ℕ) (at v : ℕ) → or_fault (NoSuchFunction at) o ≡ Ok v → o ≡ Some v
found_function None at v e = cc
found_function (Some x) at v e = let same : x ≡ v = cc in ap (λ (y : ℕ). Some y) same

known_good : (g h : Setting) (w : Words) → Fits g h w → (whole : ℕ) (n v : List ℕ) (b : Bool) → g.has_name n ≡ b → (if b then Ok n else Err (UnknownForm whole)) ≡ Ok v → Good h w (a_known_name whole) v (symbol_form n)
known_good g h w fits whole n v true is e =
    let same : n ≡ v = cc in
    subst (λ (m : List ℕ). Good h w (a_known_name whole) m (symbol_form n)) same (record { form = refl; stands = fits.names n is })
known_good g h w fits whole n v false is e = cc

symbol_good : (g h : Setting) (w : Words) → Fits g h w → (k : Kind) (at : ℕ) (n : List ℕ) (v : Of k) → symbol_means g k at n ≡ Ok v → Good h w k v (symbol_form n)
symbol_good g h w fits a_term at n v e =
    let t = found_value (look_up n g.variables) trees.variable at v e in
    let f = fits.variables n t.0 t.1 in
    subst (λ (y : TermTree). Good h w a_term y (symbol_form n)) t.2 (record { form = f.0; stands = f.1 })
symbol_good g h w fits a_condition at n v e = cc
symbol_good g h w fits an_assertion at n v e = cc
symbol_good g h w fits a_definition_body at n v e = cc
symbol_good g h w fits a_certificate at n v e = cc
symbol_good g h w fits a_derivation at n v e = cc
symbol_good g h w fits a_range at n v e =
    let t = found_value (look_up n g.variables) certificates.range at v e in
    let f = fits.variables n t.0 t.1 in
    subst (λ (y : FactTree). Good h w a_range y (symbol_form n)) t.2 (record { form = f.0; stands = and_from (is_meant h t.0) true f.1 refl })
symbol_good g h w fits a_combination at n v e = cc
symbol_good g h w fits an_item at n v e = cc
symbol_good g h w fits an_index at n v e = cc
symbol_good g h w fits a_natural at n v e = cc
symbol_good g h w fits a_divisor at n v e = cc
symbol_good g h w fits a_name at n v e =
    let same : n ≡ v = cc in
    subst (λ (m : List ℕ). Good h w a_name m (symbol_form n)) same (record { form = refl; stands = refl })
symbol_good g h w fits (a_function whole) at n v e =
    let f = fits.functions n v (found_function (look_up n g.functions) whole v e) in
    record { form = ap (λ (m : List ℕ). symbol_form m) f.0; stands = f.1 }
symbol_good g h w fits (a_known_name whole) at n v e = known_good g h w fits whole n v (g.has_name n) refl e
symbol_good g h w fits (an_old_variable whole) at n v e =
    let f = fits.olds n v (found_plain (look_up n g.variables >>= old_variable) whole v e) in
    record { form = ap (λ (m : List ℕ). symbol_form m) f.0; stands = f.1 }
symbol_good g h w fits a_precondition at n v e = cc
symbol_good g h w fits a_postcondition at n v e = cc
symbol_good g h w fits an_entry_certificate at n v e = cc
symbol_good g h w fits a_body at n v e = cc

-- ---- lists

pub bound : {A B : Type 0} (x : Answer A) (f : A → Answer B) (b : B) → bind x f ≡ Ok b → (a : A) × (x ≡ Ok a) × (f a ≡ Ok b)
bound (Ok a) f b e = (a, refl, e)
bound (Err x) f b e = cc

none_erased : (ss : Sexps) → count ss ≡ 0 → all_erased ss ≡ []
none_erased no_parts e = refl
none_erased (part_and s ss) e = absurd (omega (arith, e))

moved : (h : Setting) (w : Words) (k : Kind) (v u : Of k) (f o : Form) → v ≡ u → f ≡ o → Good h w k v f → Good h w k u o
moved h w k v u f o e i good =
    record { form = sym (ap (form_of w k) e) ∙ (good.form ∙ i); stands = sym (ap (stands_of h k) e) ∙ good.stands }

abbrev done : {A : Type 0} → A → Answer A
done x = Ok x

-- one part more
both_good : (h : Setting) (w : Words) (k : Kind) (ks : List Kind) (v : Of k) (us : Values ks) (vs : Values (k ∷ ks)) (f : Form) (fs : List Form) → Good h w k v f → GoodEach h w ks us fs → done (v, us) ≡ done vs → GoodEach h w (k ∷ ks) vs (f ∷ fs)
both_good h w k ks v us vs f fs good others e =
    let same : (v, us) ≡ vs = (let P = e in cc) in
    subst (λ (xs : Values (k ∷ ks)). GoodEach h w (k ∷ ks) xs (f ∷ fs)) same (record { forms = λ i. good.form i ∷ others.forms i; stand = (good.stands, others.stand) })

next_good : (h : Setting) (w : Words) (k : Kind) (v : Of k) (us vs : List (Of k)) (f : Form) (fs : List Form) → Good h w k v f → GoodAll h w k us fs → done (v ∷ us) ≡ done vs → GoodAll h w k vs (f ∷ fs)
next_good h w k v us vs f fs good others e =
    let same : (v ∷ us) ≡ vs = (let P = e in cc) in
    subst (λ (xs : List (Of k)). GoodAll h w k xs (f ∷ fs)) same (record { forms = λ i. good.form i ∷ others.forms i; stand = (good.stands, others.stand) })

-- the parts of a list are read so
record PartsRead (g h : Setting) (w : Words) (ss : Sexps) : Type 0 where
  each : (ks : List Kind) (vs : Values ks) → length ks ≡ count ss → each_means g ks ss ≡ Ok vs → GoodEach h w ks vs (all_erased ss)
  all : (k : Kind) (vs : List (Of k)) → all_mean g k ss ≡ Ok vs → GoodAll h w k vs (all_erased ss)
  counts : (k : Kind) (vs : List (Of k)) → all_mean g k ss ≡ Ok vs → length vs ≡ count ss

row_good : (g h : Setting) (w : Words) (k : Kind) (word : List ℕ) (row : Row k) (ss : Sexps) (v : Of k) → PartsRead g h w ss → RowGood h w k word row → takes row (count ss) ≡ true → row_means row (λ ks. each_means g ks ss) (λ a. all_mean g a ss) ≡ Ok v → Good h w k v (headed word (all_erased ss))
row_good g h w k word (none made) ss v parts good takes e =
    let same : made ≡ v = cc in
    moved h w k made v _ _ same (in_list word [] (all_erased ss) (sym (none_erased ss (eqb-true (count ss) 0 takes)))) good
row_good g h w k word (one a made) ss v parts good takes e =
    let t = bound (each_means g (a ∷ []) ss) (λ v. Ok (made v.0)) v e in
    let p = parts.each (a ∷ []) t.0 (sym (eqb-true (count ss) 1 takes)) t.1 in
    let same : made t.0.0 ≡ v = (let f = t.2 in cc) in
    moved h w k (made t.0.0) v _ _ same (in_list word _ (all_erased ss) p.forms) (good t.0.0 p.stand.0)
row_good g h w k word (two a b made) ss v parts good takes e =
    let t = bound (each_means g (a ∷ b ∷ []) ss) (λ v. Ok (made v.0 v.1.0)) v e in
    let p = parts.each (a ∷ b ∷ []) t.0 (sym (eqb-true (count ss) 2 takes)) t.1 in
    let same : made t.0.0 t.0.1.0 ≡ v = (let f = t.2 in cc) in
    moved h w k (made t.0.0 t.0.1.0) v _ _ same (in_list word _ (all_erased ss) p.forms) (good t.0.0 t.0.1.0 p.stand.0 p.stand.1.0)
row_good g h w k word (three a b c made) ss v parts good takes e =
    let t = bound (each_means g (a ∷ b ∷ c ∷ []) ss) (λ v. Ok (made v.0 v.1.0 v.1.1.0)) v e in
    let p = parts.each (a ∷ b ∷ c ∷ []) t.0 (sym (eqb-true (count ss) 3 takes)) t.1 in
    let same : made t.0.0 t.0.1.0 t.0.1.1.0 ≡ v = (let f = t.2 in cc) in
    moved h w k (made t.0.0 t.0.1.0 t.0.1.1.0) v _ _ same (in_list word _ (all_erased ss) p.forms) (good t.0.0 t.0.1.0 t.0.1.1.0 p.stand.0 p.stand.1.0 p.stand.1.1.0)
row_good g h w k word (four a b c d made) ss v parts good takes e =
    let t = bound (each_means g (a ∷ b ∷ c ∷ d ∷ []) ss) (λ v. Ok (made v.0 v.1.0 v.1.1.0 v.1.1.1.0)) v e in
    let p = parts.each (a ∷ b ∷ c ∷ d ∷ []) t.0 (sym (eqb-true (count ss) 4 takes)) t.1 in
    let same : made t.0.0 t.0.1.0 t.0.1.1.0 t.0.1.1.1.0 ≡ v = (let f = t.2 in cc) in
    moved h w k (made t.0.0 t.0.1.0 t.0.1.1.0 t.0.1.1.1.0) v _ _ same (in_list word _ (all_erased ss) p.forms) (good t.0.0 t.0.1.0 t.0.1.1.0 t.0.1.1.1.0 p.stand.0 p.stand.1.0 p.stand.1.1.0 p.stand.1.1.1.0)
row_good g h w k word (many a made) ss v parts good takes e =
    let t = bound (all_mean g a ss) (λ vs. Ok (made vs)) v e in
    let p = parts.all a t.0 t.1 in
    let same : made t.0 ≡ v = (let f = t.2 in cc) in
    moved h w k (made t.0) v _ _ same (in_list word _ (all_erased ss) p.forms) (good t.0 (ap (nat_le 2) (parts.counts a t.0 t.1) ∙ takes) p.stand)
row_good g h w k word (any a made) ss v parts good takes e =
    let t = bound (all_mean g a ss) (λ vs. Ok (made vs)) v e in
    let p = parts.all a t.0 t.1 in
    let same : made t.0 ≡ v = (let f = t.2 in cc) in
    moved h w k (made t.0) v _ _ same (in_list word _ (all_erased ss) p.forms) (good t.0 p.stand)

fitting_good : (g h : Setting) (w : Words) → Fits g h w → (k : Kind) (at place : ℕ) (word : List ℕ) (ss : Sexps) (v : Of k) → PartsRead g h w ss → headed_means g k at (part_and (symbol place word) ss) ≡ Ok v → Good h w k v (headed word (all_erased ss))
fitting_good g h w fits k at place word ss v parts e = by (look_up word (rows g k at)) refl e
  where
    test : (row : Row k) (b : Bool) → takes row (count ss) ≡ b → RowGood h w k word row → (if b then row_means row (λ ks. each_means g ks ss) (λ a. all_mean g a ss) else Err (UnknownForm at)) ≡ Ok v → Good h w k v (headed word (all_erased ss))
    test row true is good f = row_good g h w k word row ss v parts good is f
    test row false is good f = cc

    by : (o : Option (Row k)) → look_up word (rows g k at) ≡ o → list_means at o (count ss) (λ ks. each_means g ks ss) (λ a. all_mean g a ss) ≡ Ok v → Good h w k v (headed word (all_erased ss))
    by None is f = cc
    by (Some row) is f =
        test row (takes row (count ss)) refl (found_good h w k word (rows g k at) row (rows_good g h w fits k at) is) f

headed_good : (g h : Setting) (w : Words) → Fits g h w → (k : Kind) (at : ℕ) (s : Sexp) (ss : Sexps) (v : Of k) → PartsRead g h w ss → headed_means g k at (part_and s ss) ≡ Ok v → Good h w k v (erased (list at (part_and s ss)))
headed_good g h w fits k at (number place n) ss v parts e = cc
headed_good g h w fits k at (symbol place word) ss v parts e = fitting_good g h w fits k at place word ss v parts e
headed_good g h w fits k at (list place inner) ss v parts e = cc

-- ---- lists without a head

items_all : (w : Words) (items : List Item) → forms_all w an_item items ≡ map item_form items
items_all w [] = refl
items_all w (i ∷ items) = ap (λ (fs : List Form). item_form i ∷ fs) (items_all w items)

combination_good : (g h : Setting) (w : Words) (ss : Sexps) (v : List Item) → PartsRead g h w ss → bind (all_mean g an_item ss) (λ items. Ok items) ≡ Ok v → Good h w a_combination v (list_form (forms_of (all_erased ss)))
combination_good g h w ss v parts e =
    let t = bound (all_mean g an_item ss) (λ items. Ok items) v e in
    let p = parts.all an_item t.0 t.1 in
    let same : t.0 ≡ v = (let f = t.2 in cc) in
    record {
      form = ap (λ (fs : List Form). list_form (forms_of fs)) (ap (map item_form) (sym same) ∙ (sym (items_all w t.0) ∙ p.forms));
      stands = refl;
    }

item_good : (g h : Setting) (w : Words) (at : ℕ) (ss : Sexps) (v : Item) → PartsRead g h w ss → list_means at (Some (item_row (count ss))) (count ss) (λ ks. each_means g ks ss) (λ a. all_mean g a ss) ≡ Ok v → Good h w an_item v (list_form (forms_of (all_erased ss)))
item_good g h w at ss v parts e = by (count ss == 2) refl e
  where
    pair : (b : Bool) → (count ss == 2) ≡ b → (if b then bind (each_means g (a_natural ∷ an_index ∷ []) ss) (λ v. Ok (certificates.once v.0 v.1.0)) else Err (UnknownForm at)) ≡ Ok v → Good h w an_item v (list_form (forms_of (all_erased ss)))
    pair true is f =
        let t = bound (each_means g (a_natural ∷ an_index ∷ []) ss) (λ v. Ok (certificates.once v.0 v.1.0)) v f in
        let p = parts.each (a_natural ∷ an_index ∷ []) t.0 (sym (eqb-true (count ss) 2 is)) t.1 in
        let same : certificates.once t.0.0 t.0.1.0 ≡ v = (let f = t.2 in cc) in
        record { form = ap item_form (sym same) ∙ ap (λ (fs : List Form). list_form (forms_of fs)) p.forms; stands = refl }
    pair false is f = cc

    triple : (b : Bool) → (count ss == 3) ≡ b → (if b then bind (each_means g (a_natural ∷ an_index ∷ an_index ∷ []) ss) (λ v. Ok (certificates.twice v.0 v.1.0 v.1.1.0)) else Err (UnknownForm at)) ≡ Ok v → Good h w an_item v (list_form (forms_of (all_erased ss)))
    triple true is f =
        let t = bound (each_means g (a_natural ∷ an_index ∷ an_index ∷ []) ss) (λ v. Ok (certificates.twice v.0 v.1.0 v.1.1.0)) v f in
        let p = parts.each (a_natural ∷ an_index ∷ an_index ∷ []) t.0 (sym (eqb-true (count ss) 3 is)) t.1 in
        let same : certificates.twice t.0.0 t.0.1.0 t.0.1.1.0 ≡ v = (let f = t.2 in cc) in
        record { form = ap item_form (sym same) ∙ ap (λ (fs : List Form). list_form (forms_of fs)) p.forms; stands = refl }
    triple false is f = cc

    by : (b : Bool) → (count ss == 2) ≡ b → list_means {k = an_item} at (Some (if b then two a_natural an_index certificates.once else three a_natural an_index an_index certificates.twice)) (count ss) (λ ks. each_means g ks ss) (λ a. all_mean g a ss) ≡ Ok v → Good h w an_item v (list_form (forms_of (all_erased ss)))
    by true is f = pair (count ss == 2) refl f
    by false is f = triple (count ss == 3) refl f

list_good : (g h : Setting) (w : Words) → Fits g h w → (k : Kind) (at : ℕ) (s : Sexp) (ss : Sexps) (v : Of k) → PartsRead g h w (part_and s ss) → PartsRead g h w ss → means g k (list at (part_and s ss)) ≡ Ok v → Good h w k v (erased (list at (part_and s ss)))
list_good g h w fits a_combination at s ss v whole parts e = combination_good g h w (part_and s ss) v whole e
list_good g h w fits an_item at s ss v whole parts e = item_good g h w at (part_and s ss) v whole e
list_good g h w fits a_term at s ss v whole parts e = headed_good g h w fits a_term at s ss v parts e
list_good g h w fits a_condition at s ss v whole parts e = headed_good g h w fits a_condition at s ss v parts e
list_good g h w fits an_assertion at s ss v whole parts e = headed_good g h w fits an_assertion at s ss v parts e
list_good g h w fits a_definition_body at s ss v whole parts e =
    headed_good g h w fits a_definition_body at s ss v parts e
list_good g h w fits a_certificate at s ss v whole parts e = headed_good g h w fits a_certificate at s ss v parts e
list_good g h w fits a_derivation at s ss v whole parts e = headed_good g h w fits a_derivation at s ss v parts e
list_good g h w fits a_range at s ss v whole parts e = headed_good g h w fits a_range at s ss v parts e
list_good g h w fits an_index at s ss v whole parts e = headed_good g h w fits an_index at s ss v parts e
list_good g h w fits a_natural at s ss v whole parts e = headed_good g h w fits a_natural at s ss v parts e
list_good g h w fits a_divisor at s ss v whole parts e = headed_good g h w fits a_divisor at s ss v parts e
list_good g h w fits a_name at s ss v whole parts e = headed_good g h w fits a_name at s ss v parts e
list_good g h w fits (a_function f) at s ss v whole parts e = headed_good g h w fits (a_function f) at s ss v parts e
list_good g h w fits (a_known_name f) at s ss v whole parts e = headed_good g h w fits (a_known_name f) at s ss v parts e
list_good g h w fits (an_old_variable f) at s ss v whole parts e =
    headed_good g h w fits (an_old_variable f) at s ss v parts e
list_good g h w fits a_precondition at s ss v whole parts e = headed_good g h w fits a_precondition at s ss v parts e
list_good g h w fits a_postcondition at s ss v whole parts e = headed_good g h w fits a_postcondition at s ss v parts e
list_good g h w fits an_entry_certificate at s ss v whole parts e =
    headed_good g h w fits an_entry_certificate at s ss v parts e
list_good g h w fits a_body at s ss v whole parts e = headed_good g h w fits a_body at s ss v parts e

empty_good : (g h : Setting) (w : Words) (k : Kind) (at : ℕ) (v : Of k) → means g k (list at no_parts) ≡ Ok v → Good h w k v (erased (list at no_parts))
empty_good g h w a_combination at v e =
    let same : [] ≡ v = cc in
    record { form = ap combination_form (sym same); stands = refl }
empty_good g h w an_item at v e = cc
empty_good g h w a_term at v e = cc
empty_good g h w a_condition at v e = cc
empty_good g h w an_assertion at v e = cc
empty_good g h w a_definition_body at v e = cc
empty_good g h w a_certificate at v e = cc
empty_good g h w a_derivation at v e = cc
empty_good g h w a_range at v e = cc
empty_good g h w an_index at v e = cc
empty_good g h w a_natural at v e = cc
empty_good g h w a_divisor at v e = cc
empty_good g h w a_name at v e = cc
empty_good g h w (a_function f) at v e = cc
empty_good g h w (a_known_name f) at v e = cc
empty_good g h w (an_old_variable f) at v e = cc
empty_good g h w a_precondition at v e = cc
empty_good g h w a_postcondition at v e = cc
empty_good g h w an_entry_certificate at v e = cc
empty_good g h w a_body at v e = cc

mutual
  pub reads_good : (g h : Setting) (w : Words) → Fits g h w → (k : Kind) (s : Sexp) (v : Of k) → means g k s ≡ Ok v → Good h w k v (erased s)
  reads_good g h w fits k (number at n) v e = number_good h w k at n v e
  reads_good g h w fits k (symbol at n) v e = symbol_good g h w fits k at n v e
  reads_good g h w fits k (list at no_parts) v e = empty_good g h w k at v e
  reads_good g h w fits k (list at (part_and s ss)) v e =
      list_good g h w fits k at s ss v (record { each = λ ks vs l f. each_good g h w fits ks (part_and s ss) vs l f; all = λ a vs f. all_good g h w fits a (part_and s ss) vs f; counts = λ a vs f. all_count g a (part_and s ss) vs f })
      (record { each = λ ks vs l f. each_good g h w fits ks ss vs l f; all = λ a vs f. all_good g h w fits a ss vs f; counts = λ a vs f. all_count g a ss vs f }) e

  pub each_good : (g h : Setting) (w : Words) → Fits g h w → (ks : List Kind) (ss : Sexps) (vs : Values ks) → length ks ≡ count ss → each_means g ks ss ≡ Ok vs → GoodEach h w ks vs (all_erased ss)
  each_good g h w fits [] no_parts vs l e = record { forms = refl; stand = tt }
  each_good g h w fits [] (part_and s ss) vs l e = absurd (omega (arith, l))
  each_good g h w fits (k ∷ ks) no_parts vs l e = cc
  each_good g h w fits (k ∷ ks) (part_and s ss) vs l e =
      let t = bound (means g k s) (λ v. bind (each_means g ks ss) (λ us. Ok (v, us))) vs e in
      let u = bound (each_means g ks ss) (λ us. Ok (t.0, us)) vs t.2 in
      both_good h w k ks t.0 u.0 vs (erased s) (all_erased ss) (reads_good g h w fits k s t.0 t.1) (each_good g h w fits ks ss u.0 (omega (arith, l)) u.1) u.2

  all_good : (g h : Setting) (w : Words) → Fits g h w → (k : Kind) (ss : Sexps) (vs : List (Of k)) → all_mean g k ss ≡ Ok vs → GoodAll h w k vs (all_erased ss)
  all_good g h w fits k no_parts vs e =
      let same : [] ≡ vs = cc in
      subst (λ (us : List (Of k)). GoodAll h w k us []) same (record { forms = refl; stand = tt })
  all_good g h w fits k (part_and s ss) vs e =
      let t = bound (means g k s) (λ v. bind (all_mean g k ss) (λ us. Ok (v ∷ us))) vs e in
      let u = bound (all_mean g k ss) (λ us. Ok (t.0 ∷ us)) vs t.2 in
      next_good h w k t.0 u.0 vs (erased s) (all_erased ss) (reads_good g h w fits k s t.0 t.1) (all_good g h w fits k ss u.0 u.1) u.2
