-- What has a reading as parameters of a function is read so.
use Rattle.std.proofs.Common.{◌≡◌, ℕ, zero, suc, ◌<◌, ◌≤◌, max, List, [], ◌∷◌, ◌++◌, length, Ok, None, refl, ap, ◌∙◌, append_assoc, add-one, length-append, Bool, true, false, true≢false, cond, arith}
use Rattle.std.specs.Prelude.{◌&&◌}
use Rattle.qs_syntax_vocabulary.specs.declared.terminal.Terminal.{Terminal}
use Rattle.qs_syntax_vocabulary.specs.declared.terminal.Terminal.TheVariants.{Name, Keyword, Punctuator}
use Rattle.qs_base.specs.declared.keyword.Keyword.TheVariants as keywords
use Rattle.qs_syntax_vocabulary.specs.declared.punctuator.Punctuator as punctuator
use Rattle.qs_syntax_vocabulary.specs.declared.punctuator.Punctuator.TheVariants as punctuators
use Rattle.qs_syntax.specs.declared.types.Base.{Base}
use Rattle.qs_syntax.specs.Trees.{unnumbered, LengthsTree, ParameterTree}
use Rattle.qs_syntax.specs.ReadsTypes.{no_const, a_const, a_void, an_int, a_char, an_unsigned, an_unsigned_int, an_unsigned_char, a_signed, a_signed_int, a_struct, ReadsType, a_type, ReadsStars, no_star, a_star, a_named_type}
use Rattle.qs_syntax.specs.Reads.{place}
use Rattle.qs_syntax.specs.ReadsDeclarations.{no_length, a_length, ReadsLengths, are_given, first_open, ReadsParameter, a_named_parameter, an_unnamed_parameter, ReadsParameters, a_last_parameter, a_parameter, ReadsHead, no_parameter, a_void_head, some_parameters}
use Rattle.qs_syntax_vocabulary.specs.Punctuators.{same_punctuator}
use Rattle.qs_parser_grammar.specs.Heads.{is_keyword, starts, begins_type}
use Rattle.qs_parser_grammar.specs.ParseDeclarations.{with_name, is_void_alone, parameter, parameters, is_void_head, head}
use Rattle.qs_parser_grammar.proofs.TypesComplete.{goes_on_type, goes_on_stars, finds_type, type_begins, finds_stars, stars_go_on}
use Rattle.qs_parser_grammar.proofs.DeclarationsComplete.{Items, one_more, from_zero, not_typed, finds_lengths}
use Rattle.qs_parser_grammar.proofs.DeclarationsParameters.{type_place}

-- ---- `void` alone is no parameter

-- more than the token `void`
abbrev IsMore : List Terminal → Type 0
IsMore ts = (at : ℕ) → ts ≡ Keyword at keywords.Void ∷ [] → ⊥

-- behind `void`: stars, a name and lengths
void_and_more : {n h : ℕ} {ys zs : List Terminal} {x : LengthsTree} (at : ℕ) → ReadsStars ys n → ReadsLengths h zs x → IsMore (Keyword at keywords.Void ∷ (ys ++ zs)) → (rest : List Terminal)
    → is_void_alone (Keyword at keywords.Void ∷ ((ys ++ zs) ++ rest)) ≡ false
void_and_more at no_star (are_given no_length) more rest = absurd (more at refl)
void_and_more at no_star (are_given (a_length o c r s)) more rest = refl
void_and_more at no_star (first_open o c r) more rest = refl
void_and_more at (a_star bt r s) q more rest = refl

void_and_name : {n : ℕ} {ys : List Terminal} (at bt : ℕ) (x : List ℕ) (zs : List Terminal) → ReadsStars ys n → (rest : List Terminal) → is_void_alone (Keyword at keywords.Void ∷ ((ys ++ Name bt x ∷ zs) ++ rest)) ≡ false
void_and_name at bt x zs no_star rest = refl
void_and_name at bt x zs (a_star ct r s) rest = refl

unnamed_not_alone : {n h : ℕ} {xs ys zs : List Terminal} {b : Base} {x : LengthsTree} → ReadsType xs b → ReadsStars ys n → ReadsLengths h zs x → IsMore (xs ++ (ys ++ zs)) → (rest : List Terminal) → is_void_alone ((xs ++ (ys ++ zs)) ++ rest) ≡ false
unnamed_not_alone (a_type (a_const at c) r d) s l more rest = refl
unnamed_not_alone (a_type no_const (a_void at) no_const) s l more rest = void_and_more at s l more rest
unnamed_not_alone (a_type no_const (a_void at) (a_const bt d)) s l more rest = refl
unnamed_not_alone (a_type no_const (an_int at) d) s l more rest = refl
unnamed_not_alone (a_type no_const (a_char at) d) s l more rest = refl
unnamed_not_alone (a_type no_const (an_unsigned at) d) s l more rest = refl
unnamed_not_alone (a_type no_const (an_unsigned_int at bt) d) s l more rest = refl
unnamed_not_alone (a_type no_const (an_unsigned_char at bt) d) s l more rest = refl
unnamed_not_alone (a_type no_const (a_signed at) d) s l more rest = refl
unnamed_not_alone (a_type no_const (a_signed_int at bt) d) s l more rest = refl
unnamed_not_alone (a_type no_const (a_struct at r) d) s l more rest = refl
unnamed_not_alone (a_type no_const (a_named_type at y) d) s l more rest = refl

named_not_alone : {n : ℕ} {xs ys : List Terminal} {b : Base} (bt : ℕ) (x : List ℕ) (zs : List Terminal) → ReadsType xs b → ReadsStars ys n → (rest : List Terminal) → is_void_alone ((xs ++ (ys ++ Name bt x ∷ zs)) ++ rest) ≡ false
named_not_alone bt x zs (a_type (a_const at c) r d) s rest = refl
named_not_alone bt x zs (a_type no_const (a_void at) no_const) s rest = void_and_name at bt x zs s rest
named_not_alone bt x zs (a_type no_const (a_void at) (a_const ct d)) s rest = refl
named_not_alone bt x zs (a_type no_const (an_int at) d) s rest = refl
named_not_alone bt x zs (a_type no_const (a_char at) d) s rest = refl
named_not_alone bt x zs (a_type no_const (an_unsigned at) d) s rest = refl
named_not_alone bt x zs (a_type no_const (an_unsigned_int at ct) d) s rest = refl
named_not_alone bt x zs (a_type no_const (an_unsigned_char at ct) d) s rest = refl
named_not_alone bt x zs (a_type no_const (a_signed at) d) s rest = refl
named_not_alone bt x zs (a_type no_const (a_signed_int at ct) d) s rest = refl
named_not_alone bt x zs (a_type no_const (a_struct at r) d) s rest = refl
named_not_alone bt x zs (a_type no_const (a_named_type at y) d) s rest = refl

parameter_not_alone : {h : ℕ} {ts : List Terminal} {p : ParameterTree} → ReadsParameter h ts p → (rest : List Terminal) → is_void_alone (ts ++ rest) ≡ false
parameter_not_alone (a_named_parameter {zs = zs} at x t s l) rest = named_not_alone at x zs t s rest
parameter_not_alone (an_unnamed_parameter t s l more) rest = unnamed_not_alone t s l more rest

-- ---- a parameter

-- where no name stands
unnamed : {h : ℕ} {zs : List Terminal} {x : LengthsTree} → ReadsLengths h zs x → (m start : ℕ) (b : Base) (n : ℕ) → h ≤ m → (e : ℕ) (k : punctuator.Punctuator) (rest : List Terminal) → same_punctuator k punctuators.OpenBracket ≡ false
    → with_name m start b n (zs ++ Punctuator e k ∷ rest) ≡ Ok ((record { node = unnumbered start; type_name = record { base = b; stars = n }; name = None; lengths = x }, suc h), Punctuator e k ∷ rest)
unnamed (are_given no_length) m start b n le e k rest stop = rw (finds_lengths (are_given no_length) m le (Punctuator e k ∷ rest) stop, add-one 0) refl
unnamed (are_given {h = h} (a_length o c r s)) m start b n le e k rest stop = rw (finds_lengths (are_given (a_length o c r s)) m le (Punctuator e k ∷ rest) stop, add-one h) refl
unnamed (first_open {h = h} o c r) m start b n le e k rest stop = rw (finds_lengths (first_open o c r) m le (Punctuator e k ∷ rest) stop, add-one h) refl

lengths_no_type : {h : ℕ} {zs : List Terminal} {x : LengthsTree} → ReadsLengths h zs x → (e : ℕ) (k : punctuator.Punctuator) (rest : List Terminal) → goes_on_type (zs ++ Punctuator e k ∷ rest) ≡ false
lengths_no_type (are_given no_length) e k rest = refl
lengths_no_type (are_given (a_length o c r s)) e k rest = refl
lengths_no_type (first_open o c r) e k rest = refl

lengths_no_star : {h : ℕ} {zs : List Terminal} {x : LengthsTree} → ReadsLengths h zs x → (e : ℕ) (k : punctuator.Punctuator) (rest : List Terminal) → same_punctuator k punctuators.Star ≡ false → goes_on_stars (zs ++ Punctuator e k ∷ rest) ≡ false
lengths_no_star (are_given no_length) e k rest ends = rw ends refl
lengths_no_star (are_given (a_length o c r s)) e k rest ends = refl
lengths_no_star (first_open o c r) e k rest ends = refl

-- before a punctuator that goes on with no parameter
finds_parameter : {h : ℕ} {ts : List Terminal} {p : ParameterTree} → ReadsParameter h ts p → (m : ℕ) → h ≤ suc m → (e : ℕ) (k : punctuator.Punctuator) (rest : List Terminal) → same_punctuator k punctuators.OpenBracket ≡ false → same_punctuator k punctuators.Star ≡ false
    → parameter m (ts ++ Punctuator e k ∷ rest) ≡ Ok ((p, h), Punctuator e k ∷ rest)
unfolding parameter
finds_parameter (a_named_parameter {h = h} {n = n} {xs = xs} {ys = ys} {zs = zs} {base = b} {lengths = x} at name t s l) m le e k rest no_bracket ends =
    rw (
      named_not_alone at name zs t s (Punctuator e k ∷ rest),
      append_assoc xs (ys ++ Name at name ∷ zs) (Punctuator e k ∷ rest),
      append_assoc ys (Name at name ∷ zs) (Punctuator e k ∷ rest),
      finds_type t (ys ++ Name at name ∷ (zs ++ Punctuator e k ∷ rest)) (stars_go_on s (Name at name ∷ (zs ++ Punctuator e k ∷ rest)) refl),
      finds_stars s (Name at name ∷ (zs ++ Punctuator e k ∷ rest)) refl,
      finds_lengths l m (omega arith) (Punctuator e k ∷ rest) no_bracket,
      add-one h,
    ) refl
finds_parameter (an_unnamed_parameter {h = h} {n = n} {xs = xs} {ys = ys} {zs = zs} {base = b} {lengths = x} t s l more) m le e k rest no_bracket ends =
    rw (
      unnamed_not_alone t s l more (Punctuator e k ∷ rest),
      append_assoc xs (ys ++ zs) (Punctuator e k ∷ rest),
      append_assoc ys zs (Punctuator e k ∷ rest),
      finds_type t (ys ++ (zs ++ Punctuator e k ∷ rest)) (stars_go_on s (zs ++ Punctuator e k ∷ rest) (lengths_no_type l e k rest)),
      finds_stars s (zs ++ Punctuator e k ∷ rest) (lengths_no_star l e k rest ends),
      type_place t (ys ++ (zs ++ Punctuator e k ∷ rest)),
    ) (unnamed l m (place xs) b n (omega arith) e k rest no_bracket)

-- ---- parameters

parameter_begins : {h : ℕ} {ts : List Terminal} {p : ParameterTree} → ReadsParameter h ts p → (rest : List Terminal) → begins_type (ts ++ rest) ≡ true
parameter_begins (a_named_parameter {xs = xs} {ys = ys} {zs = zs} at x t s l) rest = rw (append_assoc xs (ys ++ Name at x ∷ zs) rest) (type_begins t ((ys ++ Name at x ∷ zs) ++ rest))
parameter_begins (an_unnamed_parameter {xs = xs} {ys = ys} {zs = zs} t s l more) rest = rw (append_assoc xs (ys ++ zs) rest) (type_begins t ((ys ++ zs) ++ rest))

parameters_begin : {h : ℕ} {ts : List Terminal} {ps : List ParameterTree} → ReadsParameters h ts ps → (rest : List Terminal) → begins_type (ts ++ rest) ≡ true
parameters_begin (a_last_parameter r) rest = parameter_begins r rest
parameters_begin (a_parameter {xs = xs} {ys = ys} at r s) rest = rw (append_assoc xs (Punctuator at punctuators.Comma ∷ ys) rest) (parameter_begins r (Punctuator at punctuators.Comma ∷ (ys ++ rest)))

parameters_not_alone : {h : ℕ} {ts : List Terminal} {ps : List ParameterTree} → ReadsParameters h ts ps → (rest : List Terminal) → is_void_alone (ts ++ rest) ≡ false
parameters_not_alone (a_last_parameter r) rest = parameter_not_alone r rest
parameters_not_alone (a_parameter {xs = xs} {ys = ys} at r s) rest = rw (append_assoc xs (Punctuator at punctuators.Comma ∷ ys) rest) (parameter_not_alone r (Punctuator at punctuators.Comma ∷ (ys ++ rest)))

not_void_head : (ts : List Terminal) → is_void_alone ts ≡ false → is_void_head ts ≡ false
not_void_head [] e = refl
not_void_head (t ∷ ts) e = by_case (is_keyword keywords.Void t) (starts punctuators.Comma ts) (starts punctuators.CloseParenthesis ts) e
  where
    by_case : (b c d : Bool) → (b && cond c true d) ≡ false → (b && d) ≡ false
    by_case false c d e = refl
    by_case true true d e = absurd (true≢false e)
    by_case true false d e = e

finds_parameters : {h : ℕ} {ts : List Terminal} {ps : List ParameterTree} → ReadsParameters h ts ps → (m n : ℕ) → h ≤ suc m → length ts < n → (done : List ParameterTree) (j c : ℕ) (rest : List Terminal)
    → parameters m n done j (ts ++ Punctuator c punctuators.CloseParenthesis ∷ rest) ≡ Items (done ++ ps) (max j h) rest
unfolding parameters
finds_parameters (a_last_parameter r) m zero le enough done j c rest = absurd (omega arith)
finds_parameters (a_last_parameter {h = h} {ts = ts} {p = p} r) m (suc n) le enough done j c rest = rw (finds_parameter r m le c punctuators.CloseParenthesis rest refl refl) refl
finds_parameters (a_parameter at r s) m zero le enough done j c rest = absurd (omega arith)
finds_parameters (a_parameter {h = h} {k = k} {xs = xs} {ys = ys} {p = p} {ps = ps} at r s) m (suc n) le enough done j c rest =
    rw (append_assoc xs (Punctuator at punctuators.Comma ∷ ys) (Punctuator c punctuators.CloseParenthesis ∷ rest), finds_parameter r m (omega arith) at punctuators.Comma (ys ++ Punctuator c punctuators.CloseParenthesis ∷ rest) refl refl)
    (finds_parameters s m n (omega arith) (omega (arith, length-append xs (Punctuator at punctuators.Comma ∷ ys))) (done ++ p ∷ []) (max j h) c rest ∙ one_more done ps p j h k rest)

pub finds_head : {h : ℕ} {ts : List Terminal} {ps : List ParameterTree} → ReadsHead h ts ps → (m : ℕ) → h ≤ suc m → (c : ℕ) (rest : List Terminal) → head m (ts ++ Punctuator c punctuators.CloseParenthesis ∷ rest) ≡ Items ps h rest
unfolding head
finds_head no_parameter m le c rest = refl
finds_head (a_void_head at) m le c rest = refl
finds_head (some_parameters {h = h} {ts = ts} {ps = ps} r) m le c rest =
    rw (not_typed punctuators.CloseParenthesis (ts ++ Punctuator c punctuators.CloseParenthesis ∷ rest) (parameters_begin r (Punctuator c punctuators.CloseParenthesis ∷ rest)), not_void_head (ts ++ Punctuator c punctuators.CloseParenthesis ∷ rest) (parameters_not_alone r (Punctuator c punctuators.CloseParenthesis ∷ rest)))
    (finds_parameters r m (length (ts ++ Punctuator c punctuators.CloseParenthesis ∷ rest)) le (omega (arith, length-append ts (Punctuator c punctuators.CloseParenthesis ∷ rest))) [] 0 c rest ∙ ap (λ (k : ℕ). Items ps k rest) (from_zero h))
