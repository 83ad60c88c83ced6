-- What is marked at all places of a name is marked everywhere, and which places are left then.
use Rattle.std.proofs.Common.{◌≡◌, ℕ, zero, suc, ◌+◌, ◌<◌, ◌≤◌, Bool, true, false, cond, List, [], ◌∷◌, ◌++◌, Some, None, length, take, drop, get_or, slice_set, refl, sym, ap, ◌∙◌, append_assoc, append-nil, length-append, arith}
use Rattle.std.specs.Prelude.{Vec, bytes_eq}
use Rattle.std.specs.declared.alloc.Global.{Global}
use Rattle.std.proofs.lemmas.List.{take_more, take_at, length-map, length-take-le}
use Rattle.std.proofs.lemmas.Slice.Eq.{bytes_eq-Decides}
use Rattle.indexmap.specs.IndexMap.{IndexMap, get}
use Rattle.qs_base.specs.Bytes.{same_bytes}
use Rattle.qs_syntax_vocabulary.specs.declared.terminal.Terminal.{Terminal}
use Rattle.qs_syntax_vocabulary.specs.declared.terminal.Terminal.TheVariants.{Name, TypeName, Keyword, Constant, Text, Punctuator}
use Rattle.qs_parser_grammar.specs.ParseMarked.{also, marked_also}
use Rattle.qs_parser.specs.Places.{is_plain, place_if, places_from, noted, Indexes, Notes, NotesToken, also_at, marked_at}

-- ---- what is marked

named_other : (x : List ℕ) (at : ℕ) (y : List ℕ) (b : Bool) → b ≡ false → cond b (TypeName at y) (Name at y) ≡ Name at y
named_other x at y true e = absurd cc
named_other x at y false e = refl

also_other : (x : List ℕ) (t : Terminal) → is_plain x t ≡ false → also x t ≡ t
also_other x (Name at y) e = named_other x at y (bytes_eq y x) e
also_other x (TypeName at y) e = refl
also_other x (Keyword at k) e = refl
also_other x (Constant at n unsigned) e = refl
also_other x (Text at bytes) e = refl
also_other x (Punctuator at m) e = refl

at_front : (x : List ℕ) (front : List Terminal) (t : Terminal) (ts : List Terminal) → also_at x (length front) (front ++ t ∷ ts) ≡ front ++ also x t ∷ ts
at_front x [] t ts = refl
at_front x (u ∷ us) t ts = ap (λ l. u ∷ l) (at_front x us t ts)

pub beyond : (x : List ℕ) (n : ℕ) (ts : List Terminal) → length ts ≤ n → also_at x n ts ≡ ts
beyond x n [] le = refl
beyond x zero (t ∷ ts) le = absurd (omega (arith, le))
beyond x (suc n) (t ∷ ts) le = ap (λ l. t ∷ l) (beyond x n ts (omega (arith, le)))

pub one_set : (x : List ℕ) (n : ℕ) (ts : List Terminal) (t : Terminal) → n < length ts → slice_set ts n (also x (get_or ts n t)) ≡ also_at x n ts
one_set x n [] t lt = absurd (omega (arith, lt))
one_set x zero (u ∷ us) t lt = refl
one_set x (suc n) (u ∷ us) t lt = ap (λ l. u ∷ l) (one_set x n us t (omega (arith, lt)))

-- what was written back is all of the tokens
pub whole : (n : ℕ) (before after : List Terminal) → n ≡ length before → length after ≡ length before → take n (after ++ drop (length after) before) ≡ after
whole n before after all same = take_at after (drop (length after) before) n (omega (arith, all, same))

pub also_many : (x : List ℕ) (ts : List Terminal) → length (marked_also x ts) ≡ length ts
also_many x ts = length-map ts (also x)

one_behind : (front : List Terminal) (u : Terminal) → length (front ++ u ∷ []) ≡ suc (length front)
one_behind front u = omega (arith, length-append front (u ∷ []))

marked_behind : (x : List ℕ) (front ts : List Terminal) → marked_at x (places_from x (length front) ts) (front ++ ts) ≡ front ++ marked_also x ts
marked_behind x front [] = refl
marked_behind x front (t ∷ ts) = by_case (is_plain x t) refl (λ u. further u (marked_behind x (front ++ u ∷ []) ts))
  where
    further : (u : Terminal) → marked_at x (places_from x (length (front ++ u ∷ [])) ts) ((front ++ u ∷ []) ++ ts) ≡ (front ++ u ∷ []) ++ marked_also x ts
        → marked_at x (places_from x (suc (length front)) ts) (front ++ u ∷ ts) ≡ front ++ u ∷ marked_also x ts
    further u again =
        ap (λ n. marked_at x (places_from x n ts) (front ++ u ∷ ts)) (sym (one_behind front u)) ∙ ap (marked_at x (places_from x (length (front ++ u ∷ [])) ts)) (sym (append_assoc front (u ∷ []) ts))
        ∙ again ∙ append_assoc front (u ∷ []) (marked_also x ts)

    by_case : (b : Bool) → is_plain x t ≡ b → ((u : Terminal) → marked_at x (places_from x (suc (length front)) ts) (front ++ u ∷ ts) ≡ front ++ u ∷ marked_also x ts)
        → marked_at x (place_if (is_plain x t) (length front) ++ places_from x (suc (length front)) ts) (front ++ t ∷ ts) ≡ front ++ also x t ∷ marked_also x ts
    by_case true e rest =
        ap (λ b. marked_at x (place_if b (length front) ++ places_from x (suc (length front)) ts) (front ++ t ∷ ts)) e
        ∙ ap (marked_at x (places_from x (suc (length front)) ts)) (at_front x front t ts) ∙ rest (also x t)
    by_case false e rest =
        ap (λ b. marked_at x (place_if b (length front) ++ places_from x (suc (length front)) ts) (front ++ t ∷ ts)) e
        ∙ rest t ∙ ap (λ u. front ++ u ∷ marked_also x ts) (sym (also_other x t e))

-- marked at the places that are noted
pub marks_all : (x : List ℕ) (ts : List Terminal) → marked_at x (places_from x 0 ts) ts ≡ marked_also x ts
marks_all x ts = marked_behind x [] ts

-- ---- which places are left

same_of : (x y : List ℕ) → same_bytes x y ≡ true → x ≡ y
same_of x y e = (bytes_eq-Decides x y).0 e

not_itself : (x y z : List ℕ) (at : ℕ) (b : Bool) → same_bytes x y ≡ true → bytes_eq z x ≡ b → is_plain y (cond b (TypeName at z) (Name at z)) ≡ false
not_itself x y z at true same e = refl
not_itself x y z at false same e = ap (bytes_eq z) (sym (same_of x y same)) ∙ e

another : (x y z : List ℕ) (at : ℕ) (b : Bool) → same_bytes x y ≡ false → bytes_eq z x ≡ b → is_plain y (cond b (TypeName at z) (Name at z)) ≡ bytes_eq z y
another x y z at true same e = sym (ap (λ w. bytes_eq w y) (same_of z x e) ∙ same)
another x y z at false same e = refl

left_of_itself : (x y : List ℕ) (t : Terminal) → same_bytes x y ≡ true → is_plain y (also x t) ≡ false
left_of_itself x y (Name at z) same = not_itself x y z at (bytes_eq z x) same refl
left_of_itself x y (TypeName at z) same = refl
left_of_itself x y (Keyword at k) same = refl
left_of_itself x y (Constant at n unsigned) same = refl
left_of_itself x y (Text at bytes) same = refl
left_of_itself x y (Punctuator at m) same = refl

left_of_another : (x y : List ℕ) (t : Terminal) → same_bytes x y ≡ false → is_plain y (also x t) ≡ is_plain y t
left_of_another x y (Name at z) same = another x y z at (bytes_eq z x) same refl
left_of_another x y (TypeName at z) same = refl
left_of_another x y (Keyword at k) same = refl
left_of_another x y (Constant at n unsigned) same = refl
left_of_another x y (Text at bytes) same = refl
left_of_another x y (Punctuator at m) same = refl

none_left : (x y : List ℕ) (n : ℕ) (ts : List Terminal) → same_bytes x y ≡ true → places_from y n (marked_also x ts) ≡ []
none_left x y n [] same = refl
none_left x y n (t ∷ ts) same = ap (λ b. place_if b n ++ places_from y (suc n) (marked_also x ts)) (left_of_itself x y t same) ∙ none_left x y (suc n) ts same

all_left : (x y : List ℕ) (n : ℕ) (ts : List Terminal) → same_bytes x y ≡ false → places_from y n (marked_also x ts) ≡ places_from y n ts
all_left x y n [] same = refl
all_left x y n (t ∷ ts) same = λ i. place_if (left_of_another x y t same i) n ++ all_left x y (suc n) ts same i

places_append : (x : List ℕ) (n : ℕ) (ts us : List Terminal) → places_from x n (ts ++ us) ≡ places_from x n ts ++ places_from x (n + length ts) us
places_append x n [] us = ap (λ k. places_from x k us) (omega arith)
places_append x n (t ∷ ts) us =
    let one_more : suc n + length ts ≡ n + suc (length ts) = omega arith in
    ap (λ l. place_if (is_plain x t) n ++ l) (places_append x (suc n) ts us ∙ ap (λ k. places_from x (suc n) ts ++ places_from x k us) one_more)
    ∙ sym (append_assoc (place_if (is_plain x t) n) (places_from x (suc n) ts) (places_from x (n + suc (length ts)) us))

-- ---- the index

abbrev Index : Type 0 → Type 0
Index S = IndexMap (List ℕ) (Vec ℕ Global) S

module _ {S : Type 0} where
  -- an index without the name is that of the tokens in which it is marked
  pub without_name : (x : List ℕ) (ts : List Terminal) (before after : Index S) → Indexes before ts → ((y : List ℕ) → get same_bytes after y ≡ cond (same_bytes x y) None (get same_bytes before y)) → Indexes after (marked_also x ts)
  without_name x ts before after known changed = record { each = λ y. ap noted (changed y) ∙ by_case y (same_bytes x y) refl }
    where
      by_case : (y : List ℕ) (b : Bool) → same_bytes x y ≡ b → noted (cond b None (get same_bytes before y)) ≡ places_from y 0 (marked_also x ts)
      by_case y true same = sym (none_left x y 0 ts same)
      by_case y false same = known.each y ∙ sym (all_left x y 0 ts same)

  -- where the name isn't noted, no place is to be marked
  pub nothing_noted : (x : List ℕ) (ts : List Terminal) (index : Index S) → Indexes index ts → get same_bytes index x ≡ None → ts ≡ marked_also x ts
  nothing_noted x ts index known none = ap (λ places. marked_at x places ts) (sym (ap noted none) ∙ known.each x) ∙ marks_all x ts

  pub all_noted : (x : List ℕ) (ts : List Terminal) (index : Index S) (places : Vec ℕ Global) → Indexes index ts → get same_bytes index x ≡ Some places → marked_at x places.items ts ≡ marked_also x ts
  all_noted x ts index places known some = ap (λ places. marked_at x places ts) (sym (ap noted some) ∙ known.each x) ∙ marks_all x ts

  -- a place is noted behind those that were noted before
  pub notes : (x : List ℕ) (place : ℕ) (before between after : Index S) (places : Vec ℕ Global) → ((y : List ℕ) → get same_bytes between y ≡ cond (same_bytes x y) None (get same_bytes before y))
      → ((y : List ℕ) → get same_bytes after y ≡ cond (same_bytes x y) (Some places) (get same_bytes between y)) → places.items ≡ noted (get same_bytes before x) ++ place ∷ [] → Notes x place before after
  notes x place before between after places taken put is = record { each = λ y. ap noted (put y ∙ ap (cond (same_bytes x y) (Some places)) (taken y)) ∙ by_case y (same_bytes x y) refl }
    where
      by_case : (y : List ℕ) (b : Bool) → same_bytes x y ≡ b → noted (cond b (Some places) (cond b None (get same_bytes before y))) ≡ noted (get same_bytes before y) ++ place_if b place
      by_case y true same = is ∙ ap (λ z. noted (get same_bytes before z) ++ place ∷ []) (same_of x y same)
      by_case y false same = sym (append-nil (noted (get same_bytes before y)))

  pub no_places : (index : Index S) → ((x : List ℕ) → get same_bytes index x ≡ None) → Indexes index []
  no_places index none = record { each = λ x. ap noted (none x) }

  pub one_more_noted : (i : ℕ) (ts : List Terminal) (t : Terminal) (before after : Index S) → i < length ts → get_or ts i t ≡ t → Indexes before (take i ts) → NotesToken t i before after → Indexes after (take (i + 1) ts)
  one_more_noted i ts t before after lt is known more = record {
    each = λ x.
        let long : length (take i ts) ≡ i = length-take-le i ts (omega (arith, lt)) in
        let many : 0 + length (take i ts) ≡ i = omega (arith, long) in
        more.each x ∙ ap (λ l. l ++ place_if (is_plain x t) i) (known.each x)
        ∙ ap (λ l. places_from x 0 (take i ts) ++ l) (sym (append-nil (place_if (is_plain x t) i)) ∙ ap (λ n. place_if (is_plain x t) n ++ []) (sym many))
        ∙ sym (places_append x 0 (take i ts) (t ∷ [])) ∙ ap (places_from x 0) (ap (λ u. take i ts ++ u ∷ []) (sym is) ∙ sym (take_more ts i t lt));
  }
