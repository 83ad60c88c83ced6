-- What is read as a type has that reading.
use Rattle.std.proofs.Common.{◌≡◌, ℕ, suc, ◌+◌, Bool, true, false, cond, List, [], ◌∷◌, ◌++◌, Result, Ok, refl, sym, ap, subst, ◌∙◌, append_assoc, arith}
use Rattle.qs_syntax_vocabulary.specs.declared.terminal.Terminal.{Terminal}
use Rattle.qs_syntax_vocabulary.specs.declared.terminal.Terminal.TheVariants.{Name, Keyword, Constant, Text, Punctuator}
use Rattle.qs_syntax_vocabulary.specs.declared.terminal.Terminal.TheVariants as terminals
use Rattle.qs_base.specs.declared.keyword.Keyword.TheVariants as keywords
use Rattle.qs_syntax_vocabulary.specs.declared.punctuator.Punctuator.TheVariants as punctuators
use Rattle.qs_syntax.specs.declared.types.Base.{Base}
use Rattle.qs_syntax.specs.declared.types.Base.TheVariants as bases
use Rattle.qs_syntax.specs.declared.types.TypeName.{TypeName}
use Rattle.qs_syntax_vocabulary.specs.Operators.{number_of}
use Rattle.qs_syntax.specs.ReadsTypes.{ReadsConsts, no_const, a_const, ReadsBase, a_void, an_int, a_char, an_unsigned, an_unsigned_int, an_unsigned_char, a_signed, a_signed_int, a_struct, ReadsType, a_type, ReadsStars, no_star, a_star, ReadsTypeName, a_type_name, Any, a_named_type}
use Rattle.qs_parser_grammar.specs.Heads.{is_punctuator, is_keyword, starts}
use Rattle.qs_parser_grammar.specs.Parse.{Stop, skip_consts, after_unsigned, after_signed, base, type, stars_from, stars, type_name, named_type, tagged}
use Rattle.qs_parser_grammar.proofs.HeadsLaws.{keyword_is, punctuator_is, starts_is}
use Rattle.qs_parser_grammar.proofs.Sound.{Sound, Sound-ok, Sound-err, at_end, Sound-after, Sound-token, Sound-read_on}
use Rattle.qs_parser_grammar.proofs.SoundSteps.{Sound-if, Sound-ends, sound_expect_name}

-- what is left, where the front has a property
pub record Taken (R : List Terminal → Type 0) (ts us : List Terminal) : Type 0 where
  pub front : List Terminal
  pub split : ts ≡ front ++ us
  pub is : R front

taken_const : (t : Terminal) (ts us : List Terminal) → is_keyword keywords.Const t ≡ true → Taken ReadsConsts ts us → Taken ReadsConsts (t ∷ ts) us
taken_const t ts us e c = record { front = t ∷ c.front; split = ap (λ l. t ∷ l) c.split; is = subst (λ u. ReadsConsts (u ∷ c.front)) (sym (keyword_is keywords.Const t e)) (a_const (number_of t) c.is) }

taken_if : {R : List Terminal → Type 0} (ts us vs : List Terminal) (b : Bool) → (b ≡ true → Taken R ts us) → (b ≡ false → Taken R ts vs) → Taken R ts (cond b us vs)
taken_if ts us vs true f g = f refl
taken_if ts us vs false f g = g refl

pub taken_consts : (ts : List Terminal) → Taken ReadsConsts ts (skip_consts ts)
taken_consts [] = record { front = []; split = refl; is = no_const }
taken_consts (t ∷ ts) = taken_if (t ∷ ts) (skip_consts ts) (t ∷ ts) (is_keyword keywords.Const t) (λ e. taken_const t ts (skip_consts ts) e (taken_consts ts)) (λ e. record { front = []; split = refl; is = no_const })

abbrev pub IsBase : Base → List Terminal → Type 0
IsBase b ts = ReadsBase ts b

abbrev pub IsType : Base → List Terminal → Type 0
IsType b ts = ReadsType ts b

abbrev pub IsTypeName : TypeName → List Terminal → Type 0
IsTypeName t ts = ReadsTypeName ts t

-- a keyword that is a base with the tokens before it
base_token : (k : _) (b : Base) (t : Terminal) (ts : List Terminal) → ((at : ℕ) → ReadsBase (Keyword at k ∷ []) b) → is_keyword k t ≡ true → Sound IsBase [] (t ∷ ts) (Ok (b, ts))
base_token k b t ts r e = Sound-token (Sound-ok (subst (λ u. ReadsBase (u ∷ []) b) (sym (keyword_is k t e)) (r (number_of t))))

base_second : (k l : _) (b : Base) (at : ℕ) (t : Terminal) (ts : List Terminal) → ((bt : ℕ) → ReadsBase (Keyword at k ∷ Keyword bt l ∷ []) b) → is_keyword l t ≡ true → Sound IsBase (Keyword at k ∷ []) (t ∷ ts) (Ok (b, ts))
base_second k l b at t ts r e = Sound-token (Sound-ok (subst (λ u. ReadsBase (Keyword at k ∷ u ∷ []) b) (sym (keyword_is l t e)) (r (number_of t))))

sound_after_unsigned : (at : ℕ) (ts : List Terminal) → Sound IsBase (Keyword at keywords.Unsigned ∷ []) ts (after_unsigned ts)
sound_after_unsigned at [] = Sound-ok (an_unsigned at)
sound_after_unsigned at (t ∷ ts) =
    Sound-if (is_keyword keywords.Int t) (base_second keywords.Unsigned keywords.Int bases.Unsigned at t ts (an_unsigned_int at))
    (λ _. Sound-if (is_keyword keywords.Char t) (base_second keywords.Unsigned keywords.Char bases.Char at t ts (an_unsigned_char at)) (λ _. Sound-ok (an_unsigned at)))

sound_after_signed : (at : ℕ) (ts : List Terminal) → Sound IsBase (Keyword at keywords.Signed ∷ []) ts (after_signed ts)
sound_after_signed at [] = Sound-ok (a_signed at)
sound_after_signed at (t ∷ ts) = Sound-if (is_keyword keywords.Int t) (base_second keywords.Signed keywords.Int bases.Int at t ts (a_signed_int at)) (λ _. Sound-ok (a_signed at))

sound_after_struct : (at : ℕ) (ts : List Terminal) → Sound IsBase (Keyword at keywords.Struct ∷ []) ts (tagged ts)
sound_after_struct at ts = Sound-read_on _ (sound_expect_name Any ts) (λ x front us is. Sound-ok (subst (λ l. ReadsBase (Keyword at keywords.Struct ∷ l) (bases.Struct x.1)) (sym is.1) (a_struct at is.2)))

sound_named_type : (t : Terminal) (ts : List Terminal) → Sound IsBase [] (t ∷ ts) (named_type (t ∷ ts))
sound_named_type (Name at x) ts = Sound-err at_end
sound_named_type (terminals.TypeName at x) ts = Sound-token (Sound-ok (a_named_type at x))
sound_named_type (Keyword at k) ts = Sound-err at_end
sound_named_type (Constant at n unsigned) ts = Sound-err at_end
sound_named_type (Text at bytes) ts = Sound-err at_end
sound_named_type (Punctuator at m) ts = Sound-err at_end

keyword_first : (k : _) (t : Terminal) (ts : List Terminal) (r : Result (Base × List Terminal) Stop) → ((at : ℕ) → Sound IsBase (Keyword at k ∷ []) ts r) → is_keyword k t ≡ true → Sound IsBase [] (t ∷ ts) r
keyword_first k t ts r f e = Sound-token (subst (λ u. Sound IsBase (u ∷ []) ts r) (sym (keyword_is k t e)) (f (number_of t)))

pub sound_base : (ts : List Terminal) → Sound IsBase [] ts (base ts)
sound_base [] = Sound-err at_end
sound_base (t ∷ ts) =
    Sound-if (is_keyword keywords.Void t) (base_token keywords.Void bases.Void t ts a_void)
    (λ _. Sound-if (is_keyword keywords.Int t) (base_token keywords.Int bases.Int t ts an_int)
    (λ _. Sound-if (is_keyword keywords.Char t) (base_token keywords.Char bases.Char t ts a_char)
    (λ _. Sound-if (is_keyword keywords.Unsigned t) (keyword_first keywords.Unsigned t ts (after_unsigned ts) (λ at. sound_after_unsigned at ts))
    (λ _. Sound-if (is_keyword keywords.Signed t) (keyword_first keywords.Signed t ts (after_signed ts) (λ at. sound_after_signed at ts))
    (λ _. Sound-if (is_keyword keywords.Struct t) (keyword_first keywords.Struct t ts _ (λ at. sound_after_struct at ts)) (λ _. sound_named_type t ts))))))

-- behind tokens that are skipped
module _ {A : Type 0} {R : A → List Terminal → Type 0} where
  pub Sound-skip : (done ts us : List Terminal) (r : Result (A × List Terminal) Stop) (c : Taken ReadsConsts ts us) → Sound R (done ++ c.front) us r → Sound R done ts r
  Sound-skip done ts us r c s = Sound-after done ts c.front us c.split r s

pub sound_type : (ts : List Terminal) → Sound IsType [] ts (type ts)
unfolding type
sound_type ts =
    let before : Taken ReadsConsts ts (skip_consts ts) = taken_consts ts in
    Sound-skip [] ts (skip_consts ts) _ before
    (Sound-read_on _ (sound_base (skip_consts ts))
    (λ b front us r. let behind : Taken ReadsConsts us (skip_consts us) = taken_consts us in
    Sound-ends (before.front ++ front) us (skip_consts us) b behind.front behind.split (subst (λ l. ReadsType l b) (sym (append_assoc before.front front behind.front)) (a_type before.is r behind.is))))

-- stars behind a star
pub record StarsTaken (ts : List Terminal) (n : ℕ) (x : ℕ × List Terminal) : Type 0 where
  pub consts : List Terminal
  pub further : List Terminal
  pub count : ℕ
  pub split : ts ≡ (consts ++ further) ++ x.1
  pub are_consts : ReadsConsts consts
  pub are_stars : ReadsStars further count
  pub total : x.0 ≡ count + n

stars_if : (ts : List Terminal) (n : ℕ) (x y : ℕ × List Terminal) (b : Bool) → (b ≡ true → StarsTaken ts n x) → (b ≡ false → StarsTaken ts n y) → StarsTaken ts n (cond b x y)
stars_if ts n x y true f g = f refl
stars_if ts n x y false f g = g refl

no_stars : (ts : List Terminal) (n : ℕ) → StarsTaken ts n (n, ts)
no_stars ts n = record { consts = []; further = []; count = 0; split = refl; are_consts = no_const; are_stars = no_star; total = omega arith }

star_first : (t : Terminal) (ts : List Terminal) (n : ℕ) (x : ℕ × List Terminal) → is_punctuator punctuators.Star t ≡ true → StarsTaken ts (n + 1) x → StarsTaken (t ∷ ts) n x
star_first t ts n x e s = record {
  consts = [];
  further = t ∷ (s.consts ++ s.further);
  count = suc s.count;
  split = ap (λ l. t ∷ l) s.split;
  are_consts = no_const;
  are_stars = subst (λ u. ReadsStars (u ∷ (s.consts ++ s.further)) (suc s.count)) (sym (punctuator_is punctuators.Star t e)) (a_star (number_of t) s.are_consts s.are_stars);
  total = omega arith;
}

const_first : (t : Terminal) (ts : List Terminal) (n : ℕ) (x : ℕ × List Terminal) → is_keyword keywords.Const t ≡ true → StarsTaken ts n x → StarsTaken (t ∷ ts) n x
const_first t ts n x e s = record {
  consts = t ∷ s.consts;
  further = s.further;
  count = s.count;
  split = ap (λ l. t ∷ l) s.split;
  are_consts = subst (λ u. ReadsConsts (u ∷ s.consts)) (sym (keyword_is keywords.Const t e)) (a_const (number_of t) s.are_consts);
  are_stars = s.are_stars;
  total = s.total;
}

stars_from_taken : (n : ℕ) (ts : List Terminal) → StarsTaken ts n (stars_from n ts)
stars_from_taken n [] = no_stars [] n
stars_from_taken n (t ∷ ts) =
    stars_if (t ∷ ts) n (stars_from (n + 1) ts) _ (is_punctuator punctuators.Star t) (λ e. star_first t ts n _ e (stars_from_taken (n + 1) ts))
    (λ _. stars_if (t ∷ ts) n (stars_from n ts) (n, t ∷ ts) (is_keyword keywords.Const t) (λ e. const_first t ts n _ e (stars_from_taken n ts)) (λ _. no_stars (t ∷ ts) n))

-- the stars at the front, and what is left
pub record StarsRead (ts : List Terminal) (x : ℕ × List Terminal) : Type 0 where
  pub front : List Terminal
  pub split : ts ≡ front ++ x.1
  pub is : ReadsStars front x.0

first_star : (at : ℕ) (us ts : List Terminal) (x : ℕ × List Terminal) → ts ≡ Punctuator at punctuators.Star ∷ us → StarsTaken us 1 x → StarsRead ts x
first_star at us ts x e s = record {
  front = Punctuator at punctuators.Star ∷ (s.consts ++ s.further);
  split = e ∙ ap (λ l. Punctuator at punctuators.Star ∷ l) s.split;
  is = subst (ReadsStars (Punctuator at punctuators.Star ∷ (s.consts ++ s.further))) (let same : suc s.count ≡ x.0 = omega arith in same) (a_star at s.are_consts s.are_stars);
}

pub stars_read : (ts : List Terminal) → StarsRead ts (stars ts)
unfolding stars
stars_read ts = by_case (starts punctuators.Star ts) refl
  where
    by_case : (b : Bool) → starts punctuators.Star ts ≡ b → StarsRead ts (cond b (stars_from 0 ts) (0, ts))
    by_case true e =
        let is = starts_is punctuators.Star ts e in
        first_star is.0 is.1 ts (stars_from 0 ts) is.2 (subst (λ l. StarsTaken is.1 1 (stars_from 0 l)) (sym is.2) (stars_from_taken 1 is.1))
    by_case false e = record { front = []; split = refl; is = no_star }

pub sound_type_name : (ts : List Terminal) → Sound IsTypeName [] ts (type_name ts)
unfolding type_name
sound_type_name ts = Sound-read_on _ (sound_type ts)
    (λ b front us r. let behind : StarsRead us (stars us) = stars_read us in
    Sound-ends front us (stars us).1 (record { base = b; stars = (stars us).0 }) behind.front behind.split (a_type_name r behind.is))
