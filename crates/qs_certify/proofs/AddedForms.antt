-- What is written of what is added: symbols, numbers in range, and lists that nest no deeper than statements and a call.
use Rattle.std.proofs.Common.{◌≡◌, ℕ, zero, suc, ◌<◌, ◌≤◌, ◌^◌, ◌==◌, Bool, true, false, if◌then◌else◌, List, [], ◌∷◌, ◌++◌, map, length, refl, ap, ◌∙◌, arith}
use Rattle.std.specs.Prelude.{not}
use Rattle.std.specs.List.{slice_get, list_all}
use Rattle.std.proofs.lemmas.Bool.{and_parts, and_from, or_left, or_right}
use Rattle.std.proofs.lemmas.Bool.Decides.{nat_tests}
use Rattle.std.proofs.lemmas.List.Sums.{length-filter, count_by-le-length}
use Rattle.qs_base.specs.Bytes.{is_letter, is_word_byte}
use Rattle.qs_base.specs.Keywords.{is_keyword}
use Rattle.qs_base.specs.Names.{is_name, is_word}
use Rattle.qs_assert.specs.Trees.{AssertionTree, named, assertions_of}
use Rattle.qs_calls.specs.declared.callee.Callee.{Callee}
use Rattle.qs_calls.specs.declared.callee.Callee.TheVariants.{Function, PutChar, GetChar}
use Rattle.qs_core.specs.CallGraph.{below, calls, called_by, is_member}
use Rattle.qs_core.specs.Fits.{unit_fits}
use Rattle.qs_core.specs.Trees.{CoreStmtTree, skip, seq, assign, store, copy, fill, call, branch, loop, switch, break, continue, return, CoreStmts, no_stmts, stmt_and, CoreFunctionTree, CoreUnitTree}
use Rattle.qs_core.specs.FunctionNames.{function_name, name_in}
use Rattle.qs_core.proofs.FitLaws.{function_at_fits}
use Rattle.qs_core.specs.Nesting.{nesting, nesting_in_all, functions_nesting, unit_nesting}
use Rattle.qs_sexpr.specs.Bytes.{is_symbol_byte, starts_symbol}
use Rattle.qs_sexpr.specs.Writing.{Form, is_symbol, IsWritable, AreWritable}
use Rattle.qs_triples.specs.Filled.{for_call, for_calls, open_definition}
use Rattle.qs_callgraph.proofs.MemberLaws.{member_first}
use Rattle.qs_callgraph.proofs.UnitCalls.{call_within, length-below}
use Rattle.qs_prooftext_meaning.specs.Writing.{Words, forms_of, assertion_form, assertion_forms, certificate_form, derivation_form, derivation_forms, define_form, entry_form}
use Rattle.qs_analyse.specs.Fillable.{body_in, body_of, open_entry}
use Rattle.qs_analyse.specs.Written.{place_of, pick_certificate, written_call, written, all_written}
use Rattle.qs_analyse.proofs.SettingLaws.{there_at}

-- ---- names are symbols

word_starts : (b : ℕ) → is_letter b ≡ true → starts_symbol b ≡ true
word_starts b h = or_left (is_letter b) (b == 36) h

word_goes_on : (b : ℕ) → is_word_byte b ≡ true → is_symbol_byte b ≡ true
word_goes_on b h = grind (arith, nat_tests, h)

all_go_on : (bs : List ℕ) → list_all is_word_byte bs ≡ true → list_all is_symbol_byte bs ≡ true
all_go_on [] h = refl
all_go_on (b ∷ bs) h =
    let two = and_parts (is_word_byte b) (list_all is_word_byte bs) h in
    and_from (is_symbol_byte b) (list_all is_symbol_byte bs) (word_goes_on b two.0) (all_go_on bs two.1)

word_is_symbol : (name : List ℕ) → is_word name ≡ true → is_symbol name ≡ true
word_is_symbol [] h = h
word_is_symbol (b ∷ bs) h =
    let two = and_parts (is_letter b) (list_all is_word_byte bs) h in
    and_from (starts_symbol b) (list_all is_symbol_byte bs) (word_starts b two.0) (all_go_on bs two.1)

name_is_word : (name : List ℕ) → is_name name ≡ true → is_word name ≡ true
unfolding is_name
name_is_word name h = (and_parts (is_word name) (not (is_keyword name)) h).0

pub function_symbol : (u : CoreUnitTree) → unit_fits u ≡ true → (f : ℕ) → f < length u.functions → is_symbol (function_name u f) ≡ true
function_symbol u fits f b =
    let x = there_at u.functions f b in
    ap is_symbol (ap name_in x.1) ∙ word_is_symbol x.0.name (name_is_word x.0.name (function_at_fits u fits f x.0 x.1).name)

-- ---- derivations

place_small : (fs : List ℕ) (g : ℕ) → place_of fs g ≤ length fs
place_small [] g = omega arith
place_small (f ∷ fs) g = by (f == g) (place_small fs g)
  where
    by : (b : Bool) → place_of fs g ≤ length fs → (if b then 0 else suc (place_of fs g)) ≤ length (f ∷ fs)
    by true h = omega arith
    by false h = omega (arith, h)

pick_low : (w : Words) (callees : List ℕ) (d g : ℕ) → length callees < 2 ^ 63 → IsWritable (suc (suc d)) (certificate_form w (pick_certificate callees g))
pick_low w [] d g few = (refl, tt)
pick_low w (f ∷ []) d g few = (refl, tt)
pick_low w (f ∷ h ∷ fs) d g few = (refl, (omega (arith, few, place_small (f ∷ h ∷ fs) g), ((refl, tt), tt)))

-- what a call is written as nests so deep
abbrev and_call : ℕ → ℕ
and_call d = suc (suc (suc (suc (suc d))))

name_low : (w : Words) (name : List ℕ) (d : ℕ) → is_symbol name ≡ true → IsWritable (suc d) (assertion_form w (named name))
name_low w name d is = (refl, (is, tt))

module _ (w : Words) (name : List ℕ) (is : is_symbol name ≡ true) (callees : List ℕ) (few : length callees < 2 ^ 63) where
  call_low : (d : ℕ) (g : Callee) → IsWritable (and_call d) (derivation_form w (written_call name callees g))
  call_low d (Function g) =
      (refl, (name_low w name (suc (suc (suc d))) is, ((refl, ((refl, tt), ((refl, (is, (pick_low w callees d g.0 few, tt))), tt))), ((refl, tt), tt))))
  call_low d PutChar = (refl, tt)
  call_low d GetChar = (refl, tt)

  mutual
    written_low : (d : ℕ) (s : CoreStmtTree) → nesting s ≤ d → IsWritable (and_call d) (derivation_form w (written name callees s))
    written_low d skip h = (refl, tt)
    written_low zero (seq ss) h = absurd (omega (arith, h))
    written_low (suc d) (seq ss) h = (refl, all_low d ss (omega (arith, h)))
    written_low d (assign x e) h = (refl, tt)
    written_low d (store s to e) h = (refl, tt)
    written_low d (copy size alignment to from) h = (refl, tt)
    written_low d (fill contents to) h = (refl, tt)
    written_low d (call x g es) h = call_low d g
    written_low zero (branch e s t) h = absurd (omega (arith, h))
    written_low (suc d) (branch e s t) h =
        (refl, (written_low d s (omega (arith, h)), (written_low d t (omega (arith, h)), tt)))
    written_low zero (loop body step) h = absurd (omega (arith, h))
    written_low (suc d) (loop body step) h =
        (refl, (name_low w name (suc (suc (suc (suc d)))) is, ((refl, tt), (written_low d body (omega (arith, h)), (written_low d step (omega (arith, h)), tt)))))
    written_low zero (switch e labels ss) h = absurd (omega (arith, h))
    written_low (suc d) (switch e labels ss) h = (refl, all_low d ss (omega (arith, h)))
    written_low d break h = (refl, tt)
    written_low d continue h = (refl, tt)
    written_low d (return e) h = (refl, tt)

    all_low : (d : ℕ) (ss : CoreStmts) → nesting_in_all ss ≤ d → AreWritable (and_call d) (forms_of (derivation_forms w (all_written name callees ss)))
    all_low d no_stmts h = tt
    all_low d (stmt_and s ss) h = (written_low d s (omega (arith, h)), all_low d ss (omega (arith, h)))

-- ---- definitions and entries

module _ (u : CoreUnitTree) (fits : unit_fits u ≡ true) where
  abbrev by_name : ℕ → AssertionTree
  by_name g = named (function_name u g)

  -- what a call of the function needs
  need_low : (w : Words) (d g : ℕ) → is_symbol (w.functions g) ≡ true → is_symbol (function_name u g) ≡ true → IsWritable (suc (suc d)) (assertion_form w (for_call by_name g))
  need_low w d g cost is = (refl, ((refl, (cost, tt)), ((refl, (is, tt)), tt)))

  abbrev define_words : Words
  define_words = record { functions = function_name u; variables = [] }

  needs_low : (d : ℕ) (gs : List ℕ) → ((g : ℕ) → is_member g gs ≡ true → is_symbol (function_name u g) ≡ true) → AreWritable (suc (suc d)) (forms_of (assertion_forms define_words (assertions_of (map (for_call by_name) gs))))
  needs_low d [] are = tt
  needs_low d (g ∷ gs) are =
      let is = are g (member_first g gs) in
      (need_low define_words d g is is, needs_low d gs (λ h m. are h (or_right (g == h) (is_member h gs) m)))

  body_low : (d : ℕ) (gs : List ℕ) → ((g : ℕ) → is_member g gs ≡ true → is_symbol (function_name u g) ≡ true) → IsWritable (suc (suc (suc d))) (assertion_form define_words (for_calls by_name gs))
  body_low d [] are = omega arith
  body_low d (g ∷ []) are = let is = are g (member_first g []) in need_low define_words (suc d) g is is
  body_low d (g ∷ h ∷ gs) are = (refl, needs_low d (g ∷ h ∷ gs) are)

  define_low : (d f : ℕ) → f < length u.functions → IsWritable (suc (suc (suc (suc d)))) (define_form u (open_definition u f))
  define_low d f b =
      (refl, (function_symbol u fits f b, (body_low d (called_by u f) (λ g m. function_symbol u fits g (call_within u f g m)), tt)))

  pub few_callees : (f : ℕ) → length u.functions < 2 ^ 63 → length (called_by u f) < 2 ^ 63
  few_callees f few =
      omega (arith, few, length-filter (calls u f) (below (length u.functions)), count_by-le-length (calls u f) (below (length u.functions)), length-below (length u.functions))

  body_within : (fs : List CoreFunctionTree) (f : ℕ) → nesting_in_all (body_in (slice_get fs f)) ≤ functions_nesting fs
  body_within [] f = omega arith
  body_within (x ∷ fs) zero = omega arith
  body_within (x ∷ fs) (suc f) = omega (arith, body_within fs f)

  entry_low : (d f : ℕ) → length u.functions < 2 ^ 63 → unit_nesting u ≤ d → f < length u.functions → IsWritable (suc (suc (suc (and_call d)))) (entry_form u (open_entry u f))
  entry_low d f few nest b =
      let w : Words = record { functions = function_name u; variables = [] } in
      let is = function_symbol u fits f b in
      (refl, (is, ((refl, ((refl, (is, tt)), tt)), ((refl, ((refl, (is, tt)), tt)), ((refl, ((refl, tt), tt)), ((refl, ((refl, all_low _ (function_name u f) is (called_by u f) (few_callees f few) d (body_of u f) (omega (arith, nest, body_within u.functions f))), tt)), tt))))))

  -- ---- files

  abbrev AreWithin : List ℕ → Type 0
  AreWithin fs = (f : ℕ) → is_member f fs ≡ true → f < length u.functions

  defines_low : (d : ℕ) (fs : List ℕ) → AreWithin fs → AreWritable (suc (suc (suc (suc d)))) (forms_of (map (define_form u) (map (open_definition u) fs)))
  defines_low d [] within = tt
  defines_low d (f ∷ fs) within =
      (define_low d f (within f (member_first f fs)), defines_low d fs (λ g m. within g (or_right (f == g) (is_member g fs) m)))

  entries_low : (d : ℕ) (fs : List ℕ) → length u.functions < 2 ^ 63 → unit_nesting u ≤ d → AreWithin fs → AreWritable (suc (suc (suc (and_call d)))) (forms_of (map (entry_form u) (map (open_entry u) fs)))
  entries_low d [] few nest within = tt
  entries_low d (f ∷ fs) few nest within =
      (entry_low d f few nest (within f (member_first f fs)), entries_low d fs few nest (λ g m. within g (or_right (f == g) (is_member g fs) m)))

  joined_low : (d : ℕ) (xs ys : List Form) → AreWritable d (forms_of xs) → AreWritable d (forms_of ys) → AreWritable d (forms_of (xs ++ ys))
  joined_low d [] ys h k = k
  joined_low d (x ∷ xs) ys h k = (h.0, joined_low d xs ys h.1 k)

  pub added_low :
      (d : ℕ) (fs : List ℕ) → length u.functions < 2 ^ 63 → unit_nesting u ≤ d → AreWithin fs
      → AreWritable (suc (suc (suc (and_call d)))) (forms_of (map (define_form u) (map (open_definition u) fs) ++ map (entry_form u) (map (open_entry u) fs)))
  added_low d fs few nest within =
      joined_low (suc (suc (suc (and_call d)))) (map (define_form u) (map (open_definition u) fs)) (map (entry_form u) (map (open_entry u) fs))
      (defines_low (suc (suc (suc (suc d)))) fs within) (entries_low d fs few nest within)
