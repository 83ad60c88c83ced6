-- What is read as parameters of a function has that reading.
use Rattle.std.proofs.Common.{◌≡◌, ◌⊎◌, inl, inr, ℕ, zero, suc, ◌+◌, ◌≤◌, max, List, [], ◌∷◌, ◌++◌, length, Ok, Some, None, refl, sym, ap, ◌∙◌, append_assoc, add-one, Bool, true, false, true≢false, cond, arith, ◌&&◌}
use Rattle.qs_syntax_vocabulary.specs.declared.terminal.Terminal.{Terminal}
use Rattle.qs_syntax_vocabulary.specs.declared.terminal.Terminal.TheVariants.{Name, TypeName, Keyword, Constant, Text, Punctuator}
use Rattle.qs_base.specs.declared.keyword.Keyword.TheVariants as keywords
use Rattle.qs_syntax_vocabulary.specs.declared.punctuator.Punctuator.TheVariants as punctuators
use Rattle.qs_syntax.specs.declared.types.Base.{Base}
use Rattle.qs_syntax_vocabulary.specs.Operators.{number_of}
use Rattle.qs_syntax.specs.Trees.{unnumbered, LengthsTree, ParameterTree}
use Rattle.qs_syntax.specs.ReadsTypes.{no_const, a_const, ReadsBase, a_void, an_int, a_char, an_unsigned, an_unsigned_int, an_unsigned_char, a_signed, a_signed_int, a_struct, ReadsType, a_type, ReadsStars, a_named_type}
use Rattle.qs_syntax.specs.Reads.{place}
use Rattle.qs_syntax.specs.ReadsDeclarations.{ReadsParameter, a_named_parameter, an_unnamed_parameter, ReadsParameters, a_last_parameter, a_parameter, ReadsHead, no_parameter, a_void_head, some_parameters}
use Rattle.qs_parser_grammar.specs.Heads.{is_keyword, starts}
use Rattle.qs_parser_grammar.specs.Parse.{read_on, type, stars, unexpected}
use Rattle.qs_parser_grammar.specs.ParseDeclarations.{with_name, is_void_alone, without_first, parameter, after_parameter, parameters, is_void_head, head}
use Rattle.qs_parser_grammar.proofs.HeadsLaws.{keyword_is}
use Rattle.qs_parser_grammar.proofs.Sound.{Sound, Sound-ok, Sound-err, at_end, Sound-after, Sound-mono}
use Rattle.qs_parser_grammar.proofs.SoundSteps.{Sound-if}
use Rattle.qs_parser_grammar.proofs.TypesSound.{sound_type, StarsRead, stars_read}
use Rattle.qs_parser_grammar.proofs.DeclarationsSteps.{Sound-behind, Sound-first, Sound-punctuator-next, Sound-no-punctuator, Sound-part-is, Sound-last}
use Rattle.qs_parser_grammar.proofs.DeclarationsLists.{Closed, Ends, all_closed, sound_after}
use Rattle.qs_parser_grammar.proofs.DeclarationsSound.{AreLengths, sound_lengths}

-- a type has a first token
pub base_place : {l : List Terminal} {b : Base} → ReadsBase l b → (us : List Terminal) → place (l ++ us) ≡ place l
base_place (a_void at) us = refl
base_place (an_int at) us = refl
base_place (a_char at) us = refl
base_place (an_unsigned at) us = refl
base_place (an_unsigned_int at bt) us = refl
base_place (an_unsigned_char at bt) us = refl
base_place (a_signed at) us = refl
base_place (a_signed_int at bt) us = refl
base_place (a_struct at r) us = refl
base_place (a_named_type at x) us = refl

pub first_place : {l : List Terminal} {b : Base} → ReadsBase l b → (ms us : List Terminal) → place ((l ++ ms) ++ us) ≡ place (l ++ ms)
first_place {l} r ms us = ap place (append_assoc l ms us) ∙ base_place r (ms ++ us) ∙ sym (base_place r ms)

pub type_place : {l : List Terminal} {b : Base} → ReadsType l b → (us : List Terminal) → place (l ++ us) ≡ place l
type_place (a_type {zs = zs} no_const b c) us = first_place b zs us
type_place (a_type (a_const at r) b c) us = refl

-- the single token `void`
abbrev pub IsVoid : List Terminal → Type 0
IsVoid l = (at : ℕ) × (l ≡ Keyword at keywords.Void ∷ [])

abbrev pub IsVoidOrNot : List Terminal → Type 0
IsVoidOrNot l = IsVoid l ⊎ ((at : ℕ) → l ≡ Keyword at keywords.Void ∷ [] → ⊥)

pub void_or_not : (l : List Terminal) → IsVoidOrNot l
void_or_not [] = inr (λ at e. absurd cc)
void_or_not (t ∷ u ∷ l) = inr (λ at e. absurd cc)
void_or_not (t ∷ []) = by_case (is_keyword keywords.Void t) refl
  where
    by_case : (b : Bool) → is_keyword keywords.Void t ≡ b → IsVoidOrNot (t ∷ [])
    by_case true e = inl (number_of t, ap (λ u. u ∷ []) (keyword_is keywords.Void t e))
    by_case false e = inr (λ at d. let same : t ≡ Keyword at keywords.Void = cc in true≢false (sym (ap (is_keyword keywords.Void) same) ∙ e))

-- a parameter, or `void` with something that ends no parameter behind it
abbrev pub IsParameter : ℕ → ParameterTree × ℕ → List Terminal → Type 0
IsParameter m x l = (ReadsParameter x.1 l x.0 × (x.1 ≤ suc m)) ⊎ IsVoid l

module _ (m : ℕ) (start : ℕ) (b : Base) (n : ℕ) (front ys : List Terminal) (t : ReadsType front b) (s : ReadsStars ys n) (same : start ≡ place front) where
  unnamed_read : (x : LengthsTree × ℕ) (l : List Terminal) → AreLengths m x l
      → IsParameter m (record { node = unnumbered start; type_name = record { base = b; stars = n }; name = None; lengths = x.0 }, x.1 + 1) (front ++ (ys ++ l))
  unnamed_read x l (r, le) = by_case (void_or_not (front ++ (ys ++ l)))
    where
      by_case : IsVoidOrNot (front ++ (ys ++ l)) → IsParameter m (record { node = unnumbered start; type_name = record { base = b; stars = n }; name = None; lengths = x.0 }, x.1 + 1) (front ++ (ys ++ l))
      by_case (inl v) = inr v
      by_case (inr v) = inl (rw (same, add-one x.1) (an_unnamed_parameter t s r v), omega arith)

  named_read : (at : ℕ) (name : List ℕ) (x : LengthsTree × ℕ) (l : List Terminal) → AreLengths m x l
      → IsParameter m (record { node = unnumbered at; type_name = record { base = b; stars = n }; name = Some name; lengths = x.0 }, x.1 + 1) (front ++ (ys ++ Name at name ∷ l))
  named_read at name x l (r, le) = inl (rw (add-one x.1) (a_named_parameter at name t s r), omega arith)

  sound_with_name : (ts : List Terminal) → Sound (λ x l. IsParameter m x (front ++ (ys ++ l))) [] ts (with_name m start b n ts)
  sound_with_name [] = Sound-last _ (sound_lengths m []) unnamed_read
  sound_with_name (Name at x ∷ ts) = Sound-first (Sound-last _ (sound_lengths m ts) (named_read at x))
  sound_with_name (TypeName at x ∷ ts) = Sound-last _ (sound_lengths m (TypeName at x ∷ ts)) unnamed_read
  sound_with_name (Keyword at k ∷ ts) = Sound-last _ (sound_lengths m (Keyword at k ∷ ts)) unnamed_read
  sound_with_name (Constant at k unsigned ∷ ts) = Sound-last _ (sound_lengths m (Constant at k unsigned ∷ ts)) unnamed_read
  sound_with_name (Text at bytes ∷ ts) = Sound-last _ (sound_lengths m (Text at bytes ∷ ts)) unnamed_read
  sound_with_name (Punctuator at k ∷ ts) = Sound-last _ (sound_lengths m (Punctuator at k ∷ ts)) unnamed_read

fewer : (ts : List Terminal) → length (without_first ts) ≤ length ts
fewer [] = at_end
fewer (t ∷ ts) = omega arith

pub sound_parameter : (m : ℕ) (ts : List Terminal) → Sound (IsParameter m) [] ts (parameter m ts)
unfolding parameter
sound_parameter m ts =
    Sound-if (is_void_alone ts) (λ _. Sound-err (fewer ts))
    (λ _. Sound-part-is _ (sound_type ts)
    (λ b front us is split t. let first : StarsRead us (stars us) = stars_read us in
    Sound-after [] us first.front (stars us).1 first.split _
    (Sound-behind (sound_with_name m (place ts) b (stars us).0 front first.front t first.is (ap place split ∙ type_place t us) (stars us).1))))

abbrev OneParameter : ℕ → List Terminal → ParameterTree → Type 0
OneParameter h l p = ReadsParameter h l p

abbrev AreParameters : ℕ → List ParameterTree → ℕ → List ParameterTree × ℕ → List Terminal → Type 0
AreParameters m done h x l = Closed punctuators.CloseParenthesis ReadsParameters (suc m) done h x l

-- where a parameter was read, `void` does not stand alone
pub void_is_refused : (m : ℕ) (ts : List Terminal) (x : ParameterTree × ℕ) (us : List Terminal) → parameter m ts ≡ Ok (x, us) → is_void_alone ts ≡ false
unfolding parameter
void_is_refused m ts x us e = by_case (is_void_alone ts) e
  where
    by_case : (b : Bool) → cond b (unexpected (without_first ts)) (read_on (type ts) (λ b us. with_name m (place ts) b (stars us).0 (stars us).1)) ≡ Ok (x, us) → b ≡ false
    by_case true e = absurd cc
    by_case false e = refl

-- what ends no parameter
pub nothing_ends : (at : ℕ) (us : List Terminal) → is_void_alone (Keyword at keywords.Void ∷ us) ≡ false → (starts punctuators.Comma us ≡ false) × (starts punctuators.CloseParenthesis us ≡ false)
nothing_ends at us e = by_case (starts punctuators.Comma us) (starts punctuators.CloseParenthesis us) e
  where
    by_case : (b c : Bool) → cond b true c ≡ false → (b ≡ false) × (c ≡ false)
    by_case true c e = absurd (true≢false e)
    by_case false c e = (refl, e)

sound_parameters : (m n : ℕ) (done : List ParameterTree) (h : ℕ) (ts : List Terminal) → Sound (AreParameters m done h) [] ts (parameters m n done h ts)
unfolding parameters
sound_parameters m zero done h ts = Sound-err at_end
sound_parameters m (suc n) done h ts = Sound-part-is _ (sound_parameter m ts) (λ p front us is split r. by_case (λ done h ts. sound_parameters m n done h ts) p front us is split r)
  where
    by_case : ((done : List ParameterTree) (h : ℕ) (ts : List Terminal) → Sound (AreParameters m done h) [] ts (parameters m n done h ts)) → (p : ParameterTree × ℕ) (front us : List Terminal) → parameter m ts ≡ Ok (p, us) → ts ≡ front ++ us → IsParameter m p front
        → Sound (λ y l. AreParameters m done h y (front ++ l)) [] us (after_parameter (parameters m n) (done ++ p.0 ∷ []) (max h p.1) us)
    by_case others p front us is split (inl r) =
        sound_after punctuators.CloseParenthesis OneParameter ReadsParameters (λ h ts p r. a_last_parameter r) (λ h k ts us p ps at r s. a_parameter at r s) (suc m) (parameters m n) others done h p.0 p.1 front r.0 r.1 us
    by_case others p front us is split (inr (at, e)) =
        let void : ts ≡ Keyword at keywords.Void ∷ us = split ∙ ap (λ l. l ++ us) e in
        let ends = nothing_ends at us (sym (ap is_void_alone void) ∙ void_is_refused m ts p us is) in
        Sound-if (starts punctuators.CloseParenthesis us) (λ d. absurd (true≢false (sym d ∙ ends.1))) (λ _. Sound-no-punctuator punctuators.Comma us _ ends.0)

-- ---- the head of a function

abbrev pub IsHead : ℕ → List ParameterTree × ℕ → List Terminal → Type 0
IsHead m x l = Ends punctuators.CloseParenthesis ReadsHead (suc m) x l

pub void_first : (ts : List Terminal) → is_void_head ts ≡ true → (at : ℕ) × (ts ≡ Keyword at keywords.Void ∷ without_first ts)
void_first [] e = absurd (true≢false (sym e))
void_first (t ∷ ts) e = (number_of t, ap (λ u. u ∷ ts) (keyword_is keywords.Void t (both (is_keyword keywords.Void t) (starts punctuators.CloseParenthesis ts) e)))
  where
    both : (b c : Bool) → (b && c) ≡ true → b ≡ true
    both true c e = refl
    both false c e = e

pub sound_head : (m : ℕ) (ts : List Terminal) → Sound (IsHead m) [] ts (head m ts)
unfolding head
sound_head m ts =
    Sound-if (starts punctuators.CloseParenthesis ts)
    (λ _. Sound-punctuator-next punctuators.CloseParenthesis ts _ (λ c us. Sound-ok ([], c, refl, no_parameter, omega arith)))
    (λ _. Sound-if (is_void_head ts)
    (λ e. let void = void_first ts e in
    Sound-after [] ts (Keyword void.0 keywords.Void ∷ []) (without_first ts) void.1 _
    (Sound-behind (Sound-punctuator-next punctuators.CloseParenthesis (without_first ts) _ (λ c us. Sound-ok (Keyword void.0 keywords.Void ∷ [], c, refl, a_void_head void.0, omega arith)))))
    (λ _. Sound-mono (λ x l r. some_read x l (all_closed punctuators.CloseParenthesis ReadsParameters (suc m) x l r)) (sound_parameters m (length ts) [] 0 ts)))
  where
    some_read : (x : List ParameterTree × ℕ) (l : List Terminal) → Ends punctuators.CloseParenthesis ReadsParameters (suc m) x l → IsHead m x l
    some_read x l (inside, c, e, r, le) = (inside, c, e, some_parameters r, le)
