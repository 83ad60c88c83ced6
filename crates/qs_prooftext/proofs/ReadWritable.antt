-- What is read of a file can be written.
use Rattle.std.proofs.Common.{◌≡◌, ℕ, ◌||◌, Bool, true, false, List, [], ◌∷◌, ◌++◌, map, append_assoc, Ok, refl, sym, ap, ◌∙◌, subst}
use Rattle.std.specs.Prelude.{bytes_eq, not}
use Rattle.std.specs.List.{list_any, list_all}
use Rattle.std.proofs.Math.Path.{fun_ext}
use Rattle.std.proofs.lemmas.Bool.{and_from, and_parts, or_left, or_parts, false_from_ne_true, both_ways}
use Rattle.std.proofs.lemmas.List.{append-nil, map-append}
use Rattle.std.proofs.lemmas.List.Folds.{list_any-append, list_all-append}
use Rattle.std.proofs.lemmas.Slice.Eq.{bytes_eq-Decides}
use Rattle.qs_assert.specs.declared.define.Define.{Define}
use Rattle.qs_callgraph.specs.Opens.{TellsOpen}
use Rattle.qs_core.specs.Fits.{differ, unit_fits}
use Rattle.qs_core.specs.Trees.{CoreUnitTree}
use Rattle.qs_core.specs.UnitTrees.{unit_tree}
use Rattle.qs_core.specs.FunctionNames.{function_name}
use Rattle.qs_core.specs.declared.unit.CoreUnit.{CoreUnit}
use Rattle.qs_sexpr.specs.Trees.{Sexp, number, symbol, list, Sexps, no_parts, part_and}
use Rattle.qs_sexpr.specs.Writing as lists
use Rattle.qs_sexpr.specs.Writing.{Form, Forms, list_form, form_and, AreWritable}
use Rattle.qs_sexpr.proofs.ReadWritable as read_lists
use Rattle.qs_triples.specs.Derivations.{EntryTree, ProofsTree}
use Rattle.qs_triples.specs.Entries.{has_entry}
use Rattle.qs_prooftext_meaning.specs.Proofs.{Sofar, defined_names, entry_names, entry_names_of, has_list, is_among, is_defined, is_open_name, no_proofs, top_means, tops_mean, with_define}
use Rattle.qs_prooftext_meaning.specs.Reading.{Reading}
use Rattle.qs_prooftext_meaning.specs.Writable.{entry_stands, entry_stands_in, IsOfUnit, IsWritable}
use Rattle.qs_prooftext_meaning.specs.Writing.{define_form, entry_form, forms_of}
use Rattle.qs_prooftext_meaning.proofs.FileLaws.{entered_alike}
use Rattle.qs_prooftext.proofs.ReadForms.{bound}
use Rattle.qs_prooftext.proofs.RowForms.{all_erased, erased}
use Rattle.qs_prooftext.proofs.ReadSound.{read_of_unit}
use Rattle.qs_prooftext.proofs.TopForms.{IsDefine, IsEntry, TopIs, a_define, an_entry, top_is}

-- ---- forms

mutual
  erased_is : (s : Sexp) → lists.form_of s ≡ erased s
  erased_is (number at n) = refl
  erased_is (symbol at w) = refl
  erased_is (list at parts) = ap (λ (fs : Forms). list_form fs) (all_erased_are parts)

  all_erased_are : (ss : Sexps) → lists.forms_of_parts ss ≡ forms_of (all_erased ss)
  all_erased_are no_parts = refl
  all_erased_are (part_and s ss) = λ i. form_and (erased_is s i) (all_erased_are ss i)

joined_low : (d : ℕ) (xs ys : List Form) → AreWritable d (forms_of xs) → AreWritable d (forms_of ys) → AreWritable d (forms_of (xs ++ ys))
joined_low d [] ys h k = k
joined_low d (x ∷ xs) ys h k = (h.0, joined_low d xs ys h.1 k)

one_more : {A : Type 0} (d : ℕ) (form : A → Form) (xs : List A) (x : A) (f : Form) → form x ≡ f → AreWritable d (forms_of (map form xs)) → lists.IsWritable d f → AreWritable d (forms_of (map form (xs ++ x ∷ [])))
one_more d form xs x f is h k =
    subst (λ (fs : List Form). AreWritable d (forms_of fs)) (sym (map-append form xs (x ∷ [])))
    (joined_low d (map form xs) (form x ∷ []) h (subst (lists.IsWritable d) (sym is) k, tt))

-- ---- names

text_apart : (n m : List ℕ) → bytes_eq n m ≡ false → not (bytes_eq m n) ≡ true
text_apart n m h =
    ap not (false_from_ne_true (bytes_eq m n) (λ e. both_ways (bytes_eq n m) h ((bytes_eq-Decides n m).1 (sym ((bytes_eq-Decides m n).0 e)))))

names_apart : (names : List (List ℕ)) (n : List ℕ) → is_among names n ≡ false → list_all (λ m. not (bytes_eq m n)) names ≡ true
names_apart [] n h = refl
names_apart (m ∷ names) n h =
    let two = or_parts (bytes_eq n m) (is_among names n) h in
    and_from (not (bytes_eq m n)) (list_all (λ m. not (bytes_eq m n)) names) (text_apart n m two.0) (names_apart names n two.1)

name_more : (names : List (List ℕ)) (n : List ℕ) → differ bytes_eq names ≡ true → list_all (λ m. not (bytes_eq m n)) names ≡ true → differ bytes_eq (names ++ n ∷ []) ≡ true
name_more [] n h k = refl
name_more (m ∷ names) n h k =
    let own = and_parts (list_all (λ x. not (bytes_eq m x)) names) (differ bytes_eq names) h in
    let apart = and_parts (not (bytes_eq m n)) (list_all (λ m. not (bytes_eq m n)) names) k in
    and_from (list_all (λ x. not (bytes_eq m x)) (names ++ n ∷ [])) (differ bytes_eq (names ++ n ∷ []))
    (list_all-append (λ x. not (bytes_eq m x)) names (n ∷ [])
    ∙ and_from (list_all (λ x. not (bytes_eq m x)) names) (list_all (λ x. not (bytes_eq m x)) (n ∷ [])) own.0 (and_from (not (bytes_eq m n)) true apart.0 refl))
    (name_more names n own.1 apart.1)

-- ---- what is defined stays so

either_more : (a b c : Bool) → (a || b) ≡ true → (b ≡ true → c ≡ true) → (a || c) ≡ true
either_more true b c h more = refl
either_more false b c h more = more h

names_of_more : (s : Sofar) (d : Define) → defined_names (with_define s.proofs d.name d.body) ≡ defined_names s.proofs ++ d.name ∷ []
names_of_more s d = map-append (λ (x : Define). x.name) s.proofs.defines (d ∷ [])

grows : (s : Sofar) (t : Sexp) (q : ProofsTree) → TopIs s t q → (n : List ℕ) → is_defined s n ≡ true → is_defined (record s { proofs = q }) n ≡ true
grows s t q (a_define d) n h =
    subst (λ (p : ProofsTree). is_defined (record s { proofs = p }) n ≡ true) d.is
    (ap (λ (names : List (List ℕ)). is_open_name s.unit s.is_open n || is_among names n) (names_of_more s d.define)
    ∙ either_more (is_open_name s.unit s.is_open n) (is_among (defined_names s.proofs) n) (is_among (defined_names s.proofs ++ d.define.name ∷ []) n) h
    (λ k. list_any-append (bytes_eq n) (defined_names s.proofs) (d.define.name ∷ []) ∙ or_left (is_among (defined_names s.proofs) n) (is_among (d.define.name ∷ []) n) k))
grows s t q (an_entry e) n h = subst (λ (p : ProofsTree). is_defined (record s { proofs = p }) n ≡ true) e.is h

all_grow : (s : Sofar) (ss : Sexps) (p : ProofsTree) → tops_mean s ss ≡ Ok p → (n : List ℕ) → is_defined s n ≡ true → is_defined (record s { proofs = p }) n ≡ true
all_grow s no_parts p e n h =
    let same : s.proofs ≡ p = cc in
    subst (λ (q : ProofsTree). is_defined (record s { proofs = q }) n ≡ true) same h
all_grow s (part_and t ss) p e n h =
    let a = bound (top_means s t) (λ proofs. tops_mean (record s { proofs = proofs }) ss) p e in
    all_grow (record s { proofs = a.0 }) ss p a.2 n (grows s t a.0 (top_is s t a.0 a.1) n h)

-- ---- what is read can be written, as far as it goes

record AreGood (u : CoreUnitTree) (is_open : ℕ → Bool) (known : List ℕ → Bool) (p : ProofsTree) : Type 0 where
  defines_low : AreWritable 1024 (forms_of (map (define_form u) p.defines))
  entries_low : AreWritable 1024 (forms_of (map (entry_form u) p.functions))
  defined_once : differ bytes_eq (defined_names p) ≡ true
  not_open : list_any (is_open_name u is_open) (defined_names p) ≡ false
  entries_stand : list_all (entry_stands u known) p.functions ≡ true

none_open : (u : CoreUnitTree) (is_open : ℕ → Bool) (names : List (List ℕ)) (n : List ℕ) → list_any (is_open_name u is_open) names ≡ false → is_open_name u is_open n ≡ false → list_any (is_open_name u is_open) (names ++ n ∷ []) ≡ false
none_open u is_open names n h k =
    list_any-append (is_open_name u is_open) names (n ∷ []) ∙ (λ i. h i || (k i || false))

define_good : (s : Sofar) (known : List ℕ → Bool) (t : Sexp) (q : ProofsTree) → IsDefine s t q → lists.IsWritable 1024 (erased t) → AreGood s.unit s.is_open known s.proofs → AreGood s.unit s.is_open known q
define_good s known t q d low h =
    let new = or_parts (is_open_name s.unit s.is_open d.define.name) (is_among (defined_names s.proofs) d.define.name) d.new in
    subst (AreGood s.unit s.is_open known) d.is (record {
      defines_low = one_more 1024 (define_form s.unit) s.proofs.defines d.define (erased t) d.form h.defines_low low;
      entries_low = h.entries_low;
      defined_once =
          ap (differ bytes_eq) (names_of_more s d.define)
          ∙ name_more (defined_names s.proofs) d.define.name h.defined_once (names_apart (defined_names s.proofs) d.define.name new.1);
      not_open = ap (list_any (is_open_name s.unit s.is_open)) (names_of_more s d.define) ∙ none_open s.unit s.is_open (defined_names s.proofs) d.define.name h.not_open new.0;
      entries_stand = h.entries_stand;
    })

entry_good :
    (s : Sofar) (known : List ℕ → Bool) (t : Sexp) (q : ProofsTree) → IsEntry s t q → ((n : List ℕ) → is_defined s n ≡ true → known n ≡ true)
    → lists.IsWritable 1024 (erased t) → AreGood s.unit s.is_open known s.proofs → AreGood s.unit s.is_open known q
entry_good s known t q e more low h =
    let stands : entry_stands s.unit known e.entry ≡ true = ap (entry_stands_in s.unit known e.entry) e.here ∙ e.stands known more in
    subst (AreGood s.unit s.is_open known) e.is (record {
      defines_low = h.defines_low;
      entries_low = one_more 1024 (entry_form s.unit) s.proofs.functions e.entry (erased t) e.form h.entries_low low;
      defined_once = h.defined_once;
      not_open = h.not_open;
      entries_stand =
          list_all-append (entry_stands s.unit known) s.proofs.functions (e.entry ∷ [])
          ∙ and_from (list_all (entry_stands s.unit known) s.proofs.functions) (list_all (entry_stands s.unit known) (e.entry ∷ [])) h.entries_stand (and_from (entry_stands s.unit known e.entry) true stands refl);
    })

top_good :
    (s : Sofar) (known : List ℕ → Bool) (t : Sexp) (q : ProofsTree) → TopIs s t q → ((n : List ℕ) → is_defined s n ≡ true → known n ≡ true)
    → lists.IsWritable 1024 (erased t) → AreGood s.unit s.is_open known s.proofs → AreGood s.unit s.is_open known q
top_good s known t q (a_define d) more low h = define_good s known t q d low h
top_good s known t q (an_entry e) more low h = entry_good s known t q e more low h

tops_good :
    (s : Sofar) (known : List ℕ → Bool) (ss : Sexps) (p : ProofsTree) → tops_mean s ss ≡ Ok p → ((n : List ℕ) → is_defined (record s { proofs = p }) n ≡ true → known n ≡ true)
    → AreWritable 1024 (forms_of (all_erased ss)) → AreGood s.unit s.is_open known s.proofs → AreGood s.unit s.is_open known p
tops_good s known no_parts p e more low h =
    let same : s.proofs ≡ p = cc in
    subst (AreGood s.unit s.is_open known) same h
tops_good s known (part_and t ss) p e more low h =
    let a = bound (top_means s t) (λ proofs. tops_mean (record s { proofs = proofs }) ss) p e in
    tops_good (record s { proofs = a.0 }) known ss p a.2 more low.1
    (top_good s known t a.0 (top_is s t a.0 a.1) (λ n k. more n (all_grow s (part_and t ss) p e n k)) low.0 h)

-- ---- the functions for which there are lists

abbrev entered : CoreUnitTree → ProofsTree → List (List ℕ)
entered u p = map (λ (e : EntryTree). function_name u e.function) p.functions

top_named : (s : Sofar) (t : Sexp) (q : ProofsTree) → TopIs s t q → entered s.unit q ≡ entered s.unit s.proofs ++ entry_names_of t
top_named s t q (a_define d) =
    ap (entered s.unit) (sym d.is) ∙ sym (append-nil (entered s.unit s.proofs)) ∙ ap (λ (ns : List (List ℕ)). entered s.unit s.proofs ++ ns) (sym d.names)
top_named s t q (an_entry e) =
    ap (entered s.unit) (sym e.is) ∙ map-append (λ (x : EntryTree). function_name s.unit x.function) s.proofs.functions (e.entry ∷ [])
    ∙ ap (λ (ns : List (List ℕ)). entered s.unit s.proofs ++ ns) (sym e.names)

tops_named : (s : Sofar) (ss : Sexps) (p : ProofsTree) → tops_mean s ss ≡ Ok p → entered s.unit p ≡ entered s.unit s.proofs ++ entry_names ss
tops_named s no_parts p e =
    let same : s.proofs ≡ p = cc in
    ap (entered s.unit) (sym same) ∙ sym (append-nil (entered s.unit s.proofs))
tops_named s (part_and t ss) p e =
    let a = bound (top_means s t) (λ proofs. tops_mean (record s { proofs = proofs }) ss) p e in
    tops_named (record s { proofs = a.0 }) ss p a.2
    ∙ ap (λ (ns : List (List ℕ)). ns ++ entry_names ss) (top_named s t a.0 (top_is s t a.0 a.1))
    ∙ append_assoc (entered s.unit s.proofs) (entry_names_of t) (entry_names ss)

-- ---- files

module _ (u : CoreUnitTree) (text : List ℕ) (proofs : ProofsTree) (fits : unit_fits u ≡ true) (r : Reading u text proofs) where
  abbrev start : Sofar
  start = record { unit = u; is_open = r.is_open; proofs = no_proofs }

  abbrev known : List ℕ → Bool
  known = is_defined (record { unit = u; is_open = r.is_open; proofs = proofs })

  good : AreGood u r.is_open known proofs
  good =
      tops_good start known r.file proofs r.means (λ n h. h) (subst (AreWritable 1024) (all_erased_are r.file) (read_lists.read_is_writable text r.file r.reads))
      (record { defines_low = tt; entries_low = tt; defined_once = refl; not_open = refl; entries_stand = refl })

  same_entries : has_list u r.file ≡ has_entry proofs
  same_entries =
      fun_ext (λ (f : ℕ). ap (λ (ns : List (List ℕ)). is_among ns (function_name u f)) (sym (tops_named start r.file proofs r.means)) ∙ entered_alike u known f fits proofs.functions good.entries_stand)

  writable_so : IsWritable u proofs
  writable_so =
      let of_unit : IsOfUnit u proofs = read_of_unit u text proofs r in
      record {
        is_open = r.is_open;
        tells_open = subst (λ (has : ℕ → Bool). TellsOpen u has r.is_open) same_entries r.tells_open;
        forms = joined_low 1024 (map (define_form u) proofs.defines) (map (entry_form u) proofs.functions) good.defines_low good.entries_low;
        defined_once = good.defined_once;
        entered_once = of_unit.entered_once;
        not_open = good.not_open;
        defines_stand = of_unit.defines_stand;
        entries_stand = good.entries_stand;
      }

pub read_is_writable : (u : CoreUnitTree) (text : List ℕ) (proofs : ProofsTree) → unit_fits u ≡ true → Reading u text proofs → IsWritable u proofs
read_is_writable u text proofs fits r = writable_so u text proofs fits r

-- a unit in code fits
pub unit_read_is_writable : (unit : CoreUnit) (text : List ℕ) (proofs : ProofsTree) → Reading (unit_tree unit) text proofs → IsWritable (unit_tree unit) proofs
unit_read_is_writable unit text proofs r = read_is_writable (unit_tree unit) text proofs unit.fits r

pub ruleset reads_well = (read_of_unit, unit_read_is_writable)
