-- What has a reading as a type is read so, whatever follows that does not go on with it.
use Rattle.std.proofs.Common.{◌≡◌, ℕ, ◌+◌, Bool, true, false, List, [], ◌∷◌, ◌++◌, Ok, refl, sym, ap, subst, ◌∙◌, append_assoc, arith}
use Rattle.std.specs.Prelude.{◌||◌}
use Rattle.std.proofs.lemmas.Bool.{or_parts}
use Rattle.qs_syntax_vocabulary.specs.declared.terminal.Terminal.{Terminal}
use Rattle.qs_base.specs.declared.keyword.Keyword.TheVariants as keywords
use Rattle.qs_syntax_vocabulary.specs.declared.punctuator.Punctuator.TheVariants as punctuators
use Rattle.qs_syntax.specs.declared.types.Base.{Base}
use Rattle.qs_syntax.specs.declared.types.Base.TheVariants as bases
use Rattle.qs_syntax.specs.declared.types.TypeName.{TypeName}
use Rattle.qs_syntax.specs.ReadsTypes.{ReadsConsts, no_const, a_const, ReadsBase, a_void, an_int, a_char, an_unsigned, an_unsigned_int, an_unsigned_char, a_signed, a_signed_int, a_struct, ReadsType, a_type, ReadsStars, no_star, a_star, ReadsTypeName, a_type_name, a_named_type}
use Rattle.qs_parser_grammar.specs.Heads.{is_punctuator, is_keyword, starts, starts_with, begins_type}
use Rattle.qs_parser_grammar.specs.Parse.{skip_consts, after_unsigned, after_signed, base, type, stars_from, stars, type_name}
use Rattle.qs_parser_grammar.proofs.HeadsLaws.{finds_name}

-- what would go on with a base, with a type, with stars
abbrev pub goes_on_base : List Terminal → Bool
goes_on_base ts = starts_with keywords.Int ts || starts_with keywords.Char ts

abbrev pub goes_on_type : List Terminal → Bool
goes_on_type ts = starts_with keywords.Const ts || goes_on_base ts

abbrev pub goes_on_stars : List Terminal → Bool
goes_on_stars ts = starts punctuators.Star ts || starts_with keywords.Const ts

abbrev pub goes_on_type_name : List Terminal → Bool
goes_on_type_name ts = starts punctuators.Star ts || goes_on_type ts

pub finds_consts : {f : List Terminal} → ReadsConsts f → (rest : List Terminal) → starts_with keywords.Const rest ≡ false → skip_consts (f ++ rest) ≡ rest
finds_consts no_const [] e = refl
finds_consts no_const (t ∷ ts) e = rw e refl
finds_consts (a_const at r) rest e = finds_consts r rest e

after_unsigned_stops : (rest : List Terminal) → starts_with keywords.Int rest ≡ false → starts_with keywords.Char rest ≡ false → after_unsigned rest ≡ Ok (bases.Unsigned, rest)
after_unsigned_stops [] e d = refl
after_unsigned_stops (t ∷ ts) e d = rw (e, d) refl

after_signed_stops : (rest : List Terminal) → starts_with keywords.Int rest ≡ false → after_signed rest ≡ Ok (bases.Int, rest)
after_signed_stops [] e = refl
after_signed_stops (t ∷ ts) e = rw e refl

pub finds_base : {f : List Terminal} {b : Base} → ReadsBase f b → (rest : List Terminal) → goes_on_base rest ≡ false → base (f ++ rest) ≡ Ok (b, rest)
finds_base (a_void at) rest e = refl
finds_base (an_int at) rest e = refl
finds_base (a_char at) rest e = refl
finds_base (an_unsigned at) rest e = let parts = or_parts (starts_with keywords.Int rest) (starts_with keywords.Char rest) e in after_unsigned_stops rest parts.0 parts.1
finds_base (an_unsigned_int at bt) rest e = refl
finds_base (an_unsigned_char at bt) rest e = refl
finds_base (a_signed at) rest e = let parts = or_parts (starts_with keywords.Int rest) (starts_with keywords.Char rest) e in after_signed_stops rest parts.0
finds_base (a_signed_int at bt) rest e = refl
finds_base (a_struct at r) rest e = rw (finds_name r rest) refl
finds_base (a_named_type at x) rest e = refl

base_no_const : {f : List Terminal} {b : Base} → ReadsBase f b → (rest : List Terminal) → starts_with keywords.Const (f ++ rest) ≡ false
base_no_const (a_void at) rest = refl
base_no_const (an_int at) rest = refl
base_no_const (a_char at) rest = refl
base_no_const (an_unsigned at) rest = refl
base_no_const (an_unsigned_int at bt) rest = refl
base_no_const (an_unsigned_char at bt) rest = refl
base_no_const (a_signed at) rest = refl
base_no_const (a_signed_int at bt) rest = refl
base_no_const (a_struct at r) rest = refl
base_no_const (a_named_type at x) rest = refl

base_begins : {f : List Terminal} {b : Base} → ReadsBase f b → (rest : List Terminal) → begins_type (f ++ rest) ≡ true
base_begins (a_void at) rest = refl
base_begins (an_int at) rest = refl
base_begins (a_char at) rest = refl
base_begins (an_unsigned at) rest = refl
base_begins (an_unsigned_int at bt) rest = refl
base_begins (an_unsigned_char at bt) rest = refl
base_begins (a_signed at) rest = refl
base_begins (a_signed_int at bt) rest = refl
base_begins (a_struct at r) rest = refl
base_begins (a_named_type at x) rest = refl

consts_goes_on_base : {f : List Terminal} → ReadsConsts f → (rest : List Terminal) → goes_on_base rest ≡ false → goes_on_base (f ++ rest) ≡ false
consts_goes_on_base no_const rest e = e
consts_goes_on_base (a_const at r) rest e = refl

consts_begin : {f : List Terminal} → ReadsConsts f → (rest : List Terminal) → begins_type rest ≡ true → begins_type (f ++ rest) ≡ true
consts_begin no_const rest e = e
consts_begin (a_const at r) rest e = refl

-- the parts of a type, with what follows
type_spelled : (xs ys zs rest : List Terminal) → (xs ++ (ys ++ zs)) ++ rest ≡ xs ++ (ys ++ (zs ++ rest))
type_spelled xs ys zs rest = simp append_assoc

pub type_begins : {f : List Terminal} {b : Base} → ReadsType f b → (rest : List Terminal) → begins_type (f ++ rest) ≡ true
type_begins (a_type {xs = xs} {ys = ys} {zs = zs} c r d) rest = subst (λ l. begins_type l ≡ true) (sym (type_spelled xs ys zs rest)) (consts_begin c (ys ++ (zs ++ rest)) (base_begins r (zs ++ rest)))

pub finds_type : {f : List Terminal} {b : Base} → ReadsType f b → (rest : List Terminal) → goes_on_type rest ≡ false → type (f ++ rest) ≡ Ok (b, rest)
unfolding type
finds_type (a_type {xs = xs} {ys = ys} {zs = zs} {base = b} c r d) rest e =
    let parts = or_parts (starts_with keywords.Const rest) (goes_on_base rest) e in
    let before : skip_consts (xs ++ (ys ++ (zs ++ rest))) ≡ ys ++ (zs ++ rest) = finds_consts c (ys ++ (zs ++ rest)) (base_no_const r (zs ++ rest)) in
    let found : base (ys ++ (zs ++ rest)) ≡ Ok (b, zs ++ rest) = finds_base r (zs ++ rest) (consts_goes_on_base d rest parts.1) in
    let behind : skip_consts (zs ++ rest) ≡ rest = finds_consts d rest parts.0 in
    rw (type_spelled xs ys zs rest, before, found, behind) refl

stars_from_consts : {f : List Terminal} → ReadsConsts f → (n : ℕ) (rest : List Terminal) → stars_from n (f ++ rest) ≡ stars_from n rest
stars_from_consts no_const n rest = refl
stars_from_consts (a_const at r) n rest = stars_from_consts r n rest

stars_from_stop : (n : ℕ) (rest : List Terminal) → goes_on_stars rest ≡ false → stars_from n rest ≡ (n, rest)
stars_from_stop n [] e = refl
stars_from_stop n (t ∷ ts) e = let parts = or_parts (is_punctuator punctuators.Star t) (is_keyword keywords.Const t) e in rw (parts.0, parts.1) refl

finds_stars_from : {f : List Terminal} {c : ℕ} → ReadsStars f c → (n : ℕ) (rest : List Terminal) → goes_on_stars rest ≡ false → stars_from n (f ++ rest) ≡ (c + n, rest)
finds_stars_from no_star n rest e = stars_from_stop n rest e ∙ ap (λ (k : ℕ). (k, rest)) (omega arith)
finds_stars_from (a_star {xs = xs} {ys = ys} {n = c} at consts r) n rest e =
    ap (stars_from (n + 1)) (append_assoc xs ys rest) ∙ stars_from_consts consts (n + 1) (ys ++ rest) ∙ finds_stars_from r (n + 1) rest e ∙ ap (λ (k : ℕ). (k, rest)) (omega arith)

pub finds_stars : {f : List Terminal} {c : ℕ} → ReadsStars f c → (rest : List Terminal) → goes_on_stars rest ≡ false → stars (f ++ rest) ≡ (c, rest)
unfolding stars
finds_stars no_star rest e = let parts = or_parts (starts punctuators.Star rest) (starts_with keywords.Const rest) e in rw (parts.0) refl
finds_stars (a_star {xs = xs} {ys = ys} {n = c} at consts r) rest e = finds_stars_from (a_star {n = c} at consts r) 0 rest e ∙ ap (λ (k : ℕ). (k, rest)) (omega arith)

-- stars do not go on with the type before them
pub stars_go_on : {f : List Terminal} {c : ℕ} → ReadsStars f c → (rest : List Terminal) → goes_on_type rest ≡ false → goes_on_type (f ++ rest) ≡ false
stars_go_on no_star rest e = e
stars_go_on (a_star at consts r) rest e = refl

pub finds_type_name : {f : List Terminal} {t : TypeName} → ReadsTypeName f t → (rest : List Terminal) → goes_on_type_name rest ≡ false → type_name (f ++ rest) ≡ Ok (t, rest)
unfolding type_name
finds_type_name (a_type_name {xs = xs} {ys = ys} {base = b} {n = c} r s) rest e =
    let parts = or_parts (starts punctuators.Star rest) (goes_on_type rest) e in
    let inner = or_parts (starts_with keywords.Const rest) (goes_on_base rest) parts.1 in
    let stop : goes_on_stars rest ≡ false = rw (parts.0, inner.0) refl in
    let first : type (xs ++ (ys ++ rest)) ≡ Ok (b, ys ++ rest) = finds_type r (ys ++ rest) (stars_go_on s rest parts.1) in
    rw (append_assoc xs ys rest, first, finds_stars s rest stop) refl

pub type_name_begins : {f : List Terminal} {t : TypeName} → ReadsTypeName f t → (rest : List Terminal) → begins_type (f ++ rest) ≡ true
type_name_begins (a_type_name {xs = xs} {ys = ys} r s) rest = subst (λ l. begins_type l ≡ true) (sym (append_assoc xs ys rest)) (type_begins r (ys ++ rest))
