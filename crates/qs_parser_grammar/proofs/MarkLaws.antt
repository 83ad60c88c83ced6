-- What is read where names are marked by a set: laws of the parser there are laws of it on the tokens without marks.
use Rattle.std.proofs.Common.{◌≡◌, ℕ, suc, ◌+◌, ◌-◌, ◌<◌, ◌≤◌, Bool, true, false, cond, List, [], ◌∷◌, ◌++◌, length, drop, Result, Ok, Err, refl, sym, ap, subst, ◌∙◌, arith, length-append}
use Rattle.std.proofs.lemmas.Bool.{and_parts}
use Rattle.std.proofs.lemmas.List.{map-append, length-map, length-drop, drop-append-le}
use Rattle.qs_syntax_vocabulary.specs.declared.terminal.Terminal.{Terminal}
use Rattle.qs_syntax_vocabulary.specs.declared.terminal.Terminal.TheVariants.{Name, TypeName, Keyword, Constant, Text, Punctuator}
use Rattle.qs_syntax_vocabulary.specs.Marks.{NameSet, is_in, mark, marked}
use Rattle.qs_base.specs.declared.keyword.Keyword as key
use Rattle.qs_parser_grammar.specs.Heads.{is_keyword}
use Rattle.qs_parser_grammar.specs.Parse.{Stop, Unexpected, Deep, Parse, read_on}
use Rattle.qs_parser_grammar.specs.ParseStatements.{in_marks}
use Rattle.qs_parser_grammar.proofs.Sound.{Outcome, Sound, Sound-err}
use Rattle.qs_parser_grammar.proofs.MoreRoom.{DeepOrSame, DeepOrSame-last}
use Rattle.qs_parser_grammar.proofs.Local.{left, extend, Local}
use Rattle.qs_parser_grammar.proofs.Viable.{Claims, OfFronts, is_plain_token, is_plain, Place, Viable}

-- ---- marks

pub as_many : (set : NameSet) (ts : List Terminal) → length (marked set ts) ≡ length ts
as_many set ts = length-map ts (mark set)

pub marked_both : (set : NameSet) (xs ys : List Terminal) → marked set (xs ++ ys) ≡ marked set xs ++ marked set ys
marked_both set xs ys = map-append (mark set) xs ys

plain_token : (set : NameSet) → is_in set [] ≡ false → (t : Terminal) → is_plain_token t ≡ true → mark set t ≡ t
plain_token set none (Name at []) e = rw none refl
plain_token set none (Name at (b ∷ x)) e = absurd cc
plain_token set none (TypeName at x) e = absurd cc
plain_token set none (Keyword at k) e = refl
plain_token set none (Constant at n unsigned) e = refl
plain_token set none (Text at bytes) e = refl
plain_token set none (Punctuator at m) e = refl

-- tokens that no set marks
pub plain_marked : (set : NameSet) → is_in set [] ≡ false → (ts : List Terminal) → is_plain ts ≡ true → marked set ts ≡ ts
plain_marked set none [] e = refl
plain_marked set none (t ∷ ts) e = let parts = and_parts (is_plain_token t) (is_plain ts) e in λ i. plain_token set none t parts.0 i ∷ plain_marked set none ts parts.1 i

-- a keyword is one with marks and without
pub mark_keyword : (set : NameSet) (k : key.Keyword) (t : Terminal) → is_keyword k (mark set t) ≡ is_keyword k t
mark_keyword set k (Name at x) = by_case (is_in set x)
  where
    by_case : (b : Bool) → is_keyword k (cond b (TypeName at x) (Name at x)) ≡ false
    by_case true = refl
    by_case false = refl
mark_keyword set k (TypeName at x) = by_case (is_in set x)
  where
    by_case : (b : Bool) → is_keyword k (cond b (TypeName at x) (Name at x)) ≡ false
    by_case true = refl
    by_case false = refl
mark_keyword set k (Keyword at l) = refl
mark_keyword set k (Constant at n unsigned) = refl
mark_keyword set k (Text at bytes) = refl
mark_keyword set k (Punctuator at m) = refl

-- ---- the tokens behind what was read

pub drop_front : (xs ys : List Terminal) → drop (length (xs ++ ys) - length ys) (xs ++ ys) ≡ ys
drop_front [] ys = let none : length ([] ++ ys) - length ys ≡ 0 = omega arith in ap (λ n. drop n ys) none
drop_front (x ∷ xs) ys =
    let all : length (xs ++ ys) ≡ length xs + length ys = length-append xs ys in
    let more : suc (length (xs ++ ys)) - length ys ≡ suc (length (xs ++ ys) - length ys) = omega arith in
    ap (λ n. drop n (x ∷ (xs ++ ys))) more ∙ drop_front xs ys

-- tokens without marks, where those with marks are so much and the rest
pub record Split (set : NameSet) (ts front us : List Terminal) : Type 0 where
  pub before : List Terminal
  pub after : List Terminal
  pub joined : ts ≡ before ++ after
  pub marks_before : marked set before ≡ front
  pub marks_after : marked set after ≡ us

pub split : (set : NameSet) (ts front us : List Terminal) → marked set ts ≡ front ++ us → Split set ts front us
split set ts [] us e = record { before = []; after = ts; joined = refl; marks_before = refl; marks_after = e }
split set [] (x ∷ front) us e = absurd cc
split set (t ∷ ts) (x ∷ front) us e =
    let first : mark set t ≡ x = cc in
    let others : marked set ts ≡ front ++ us = cc in
    let s : Split set ts front us = split set ts front us others in
    record { before = t ∷ s.before; after = s.after; joined = ap (λ l. t ∷ l) s.joined; marks_before = λ i. first i ∷ s.marks_before i; marks_after = s.marks_after }

-- the rest is what stands behind
rest_length : (set : NameSet) (ts front us : List Terminal) (s : Split set ts front us) → length s.after ≡ length us
rest_length set ts front us s = sym (as_many set s.after) ∙ ap length s.marks_after

pub rest_is : (set : NameSet) (ts front us : List Terminal) (s : Split set ts front us) → drop (length ts - length us) ts ≡ s.after
rest_is set ts front us s =
    ap (λ l. drop (length l - length us) l) s.joined ∙ ap (λ n. drop (length (s.before ++ s.after) - n) (s.before ++ s.after)) (sym (rest_length set ts front us s)) ∙ drop_front s.before s.after

-- ---- what is read has the reading

module _ {A : Type 0} {R : A → List Terminal → Type 0} where
  pub Sound-marks : (set : NameSet) (p : Parse A) (ts : List Terminal) → Sound R [] (marked set ts) (p (marked set ts)) → Sound (λ x l. R x (marked set l)) [] ts (in_marks set p ts)
  Sound-marks set p ts s = by_case (p (marked set ts)) s.is
    where
      by_case : (r : Result (A × List Terminal) Stop) → Outcome R [] (marked set ts) r → Sound (λ x l. R x (marked set l)) [] ts (read_on r (λ x us. Ok (x, drop (length ts - length us) ts)))
      by_case (Ok x) (front, e, h) =
          let s : Split set ts front x.1 = split set ts front x.1 e in
          record { is = (s.before, s.joined ∙ ap (λ l. s.before ++ l) (sym (rest_is set ts front x.1 s)), subst (R x.0) (sym s.marks_before) h) }
      by_case (Err e) h = Sound-err (let same : length (marked set ts) ≡ length ts = as_many set ts in omega (arith, h))

-- ---- what has a reading is read

pub finds_marked : {A : Type 0} (set : NameSet) (p : Parse A) (xs rest : List Terminal) (x : A) → p (marked set xs ++ marked set rest) ≡ Ok (x, marked set rest) → in_marks set p (xs ++ rest) ≡ Ok (x, rest)
finds_marked {A} set p xs rest x e =
    ap (λ l. read_on (p l) (λ x us. Ok (x, drop (length (xs ++ rest) - length us) (xs ++ rest)))) (marked_both set xs rest)
    ∙ ap (λ r. read_on r (λ x us. Ok (x, drop (length (xs ++ rest) - length us) (xs ++ rest)))) e
    ∙ ap (λ (n : ℕ). Ok (x, drop (length (xs ++ rest) - n) (xs ++ rest))) (as_many set rest)
    ∙ ap (λ (l : List Terminal). Ok (x, l)) (drop_front xs rest)

-- ---- more room

pub DeepOrSame-marks : {A : Type 0} (set : NameSet) (p q : Parse A) (ts : List Terminal) → DeepOrSame (p (marked set ts)) (q (marked set ts)) → DeepOrSame (in_marks set p ts) (in_marks set q ts)
DeepOrSame-marks set p q ts h = DeepOrSame-behind (λ us. drop (length ts - length us) ts) h
  where
    DeepOrSame-behind : {A : Type 0} {r s : Result (A × List Terminal) Stop} (g : List Terminal → List Terminal) → DeepOrSame r s → DeepOrSame (read_on r (λ x us. Ok (x, g us))) (read_on s (λ x us. Ok (x, g us)))
    DeepOrSame-behind g h = DeepOrSame-last (λ x us. Ok (x, g us)) h

-- ---- what is behind the token at which it stops changes nothing

module _ {A : Type 0} where
  -- the answer without marks
  abbrev bare : List Terminal → Result (A × List Terminal) Stop → Result (A × List Terminal) Stop
  bare ts r = read_on r (λ x us. Ok (x, drop (length ts - length us) ts))

  left_same : (ts : List Terminal) (r : Result (A × List Terminal) Stop) → left r ≤ length ts → left (bare ts r) ≡ left r
  left_same ts (Ok x) le = let same : length (drop (length ts - length x.1) ts) ≡ length ts - (length ts - length x.1) = length-drop (length ts - length x.1) ts in omega arith
  left_same ts (Err (Unexpected k)) le = refl
  left_same ts (Err (Deep k)) le = refl

  bare_extended : (set : NameSet) (ts us : List Terminal) (r : Result (A × List Terminal) Stop) → left r ≤ length ts → bare (ts ++ us) (extend (marked set us) r) ≡ extend us (bare ts r)
  bare_extended set ts us (Ok x) le =
      let all : length (ts ++ us) ≡ length ts + length us = length-append ts us in
      let rest : length (x.1 ++ marked set us) ≡ length x.1 + length (marked set us) = length-append x.1 (marked set us) in
      let same : length (marked set us) ≡ length us = as_many set us in
      let taken : length (ts ++ us) - length (x.1 ++ marked set us) ≡ length ts - length x.1 = omega arith in
      ap (λ (n : ℕ). Ok (x.0, drop n (ts ++ us))) taken ∙ ap (λ (l : List Terminal). Ok (x.0, l)) (drop-append-le (length ts - length x.1) ts us (omega arith))
  bare_extended set ts us (Err (Unexpected k)) le = ap (λ n. Err (Unexpected (k + n))) (as_many set us)
  bare_extended set ts us (Err (Deep k)) le = ap (λ n. Err (Deep (k + n))) (as_many set us)

  pub Local-marks : (set : NameSet) (p : Parse A) → Local 0 p → Local 0 (in_marks set p)
  Local-marks set p g = record {
    shrinks = λ ts. omega (arith, few ts, left_same ts (p (marked set ts)) (few ts));
    stable = λ ts us h.
        let some : 0 < left (p (marked set ts)) = omega (arith, left_same ts (p (marked set ts)) (few ts)) in
        ap (λ l. bare (ts ++ us) (p l)) (marked_both set ts us) ∙ ap (bare (ts ++ us)) (g.stable (marked set ts) (marked set us) some) ∙ bare_extended set ts us (p (marked set ts)) (few ts);
    passes = λ ts us e.
        let none : left (p (marked set ts)) ≡ 0 = omega (arith, left_same ts (p (marked set ts)) (few ts)) in
        let passed : left (p (marked set (ts ++ us))) ≤ length (marked set us) = subst (λ l. left (p l) ≤ length (marked set us)) (sym (marked_both set ts us)) (g.passes (marked set ts) (marked set us) none) in
        omega (arith, passed, as_many set us, left_same (ts ++ us) (p (marked set (ts ++ us))) (few (ts ++ us)));
  }
    where
      few : (ts : List Terminal) → left (p (marked set ts)) ≤ length ts
      few ts = omega (arith, g.shrinks (marked set ts), as_many set ts)

-- ---- where there is a fault, the tokens before it begin something

-- what marked tokens claim, said of the tokens without marks
abbrev pub Bare : NameSet → Claims → Claims
Bare set Q b l = (ts : List Terminal) → marked set ts ≡ l → Q b ts

pub bare_fronts : {Q : Claims} (set : NameSet) → is_in set [] ≡ false → OfFronts Q → OfFronts (Bare set Q)
bare_fronts {Q} set none c = record {
  front = λ b xs ys q plain. λ ts e. c.front b ts ys (q (ts ++ ys) (marked_both set ts ys ∙ (λ i. e i ++ plain_marked set none ys plain i))) plain;
}

pub Viable-marks : {A : Type 0} {Q : Claims} (set : NameSet) (p : Parse A) (ts : List Terminal) → Viable (Bare set Q) (marked set ts) (p (marked set ts)) → Viable Q ts (in_marks set p ts)
Viable-marks {A} {Q} set p ts v = record { is = by_case (p (marked set ts)) v.is }
  where
    by_case : (r : Result (A × List Terminal) Stop) → Place (Bare set Q) (marked set ts) r → Place Q ts (read_on r (λ x us. Ok (x, drop (length ts - length us) ts)))
    by_case (Ok x) h = tt
    by_case (Err (Unexpected k)) (front, rest, e, n, h) =
        let s : Split set ts front rest = split set ts front rest e in
        (s.before, s.after, s.joined, rest_length set ts front rest s ∙ n, h s.before s.marks_before)
    by_case (Err (Deep k)) (front, t, rest, e, n, low, any) = deep_by front t rest n low any (split set ts front (t ∷ rest) e)
      where
        at_token : (front : List Terminal) (t : Terminal) (rest : List Terminal) → suc (length rest) ≡ k → Bare set Q true front → Bare set Q false (front ++ t ∷ []) → (before after : List Terminal) → ts ≡ before ++ after → marked set before ≡ front → marked set after ≡ t ∷ rest
            → Place {A = A} Q ts (Err (Deep k))
        at_token front t rest n low any before [] j mb ma = absurd cc
        at_token front t rest n low any before (u ∷ after) j mb ma =
            let first : mark set u ≡ t = cc in
            let others : marked set after ≡ rest = cc in
            (before, u, after, j, ap suc (sym (as_many set after) ∙ ap length others) ∙ n, low before mb, any (before ++ u ∷ []) (marked_both set before (u ∷ []) ∙ (λ i. mb i ++ first i ∷ [])))

        deep_by : (front : List Terminal) (t : Terminal) (rest : List Terminal) → suc (length rest) ≡ k → Bare set Q true front → Bare set Q false (front ++ t ∷ []) → Split set ts front (t ∷ rest) → Place {A = A} Q ts (Err (Deep k))
        deep_by front t rest n low any s = at_token front t rest n low any s.before s.after s.joined s.marks_before s.marks_after
