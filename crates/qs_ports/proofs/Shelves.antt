-- Files that lie one after the other in a list of bytes.
use Rattle.std.proofs.Common.{◌≡◌, ◌≢◌, ℕ, ◌+◌, ◌-◌, ◌≤◌, List, [], ◌∷◌, ◌++◌, length, take, drop, Bool, true, false, bytes_eq, cond, sym, ◌∙◌, ap, refl, arith, Option, Some, None, slice_range, length-append, length-drop, fold}
use Rattle.std.proofs.lemmas.Grind.{common_steps}
use Rattle.std.proofs.lemmas.List.{drop-append-le}
use Rattle.std.proofs.lemmas.List.Sums.{fold-append}
use Rattle.std.proofs.Math.Seq.{drop-append_seam}
use Rattle.std.proofs.lemmas.Slice.Eq.{bytes_eq-Decides}
use Rattle.qs_ports.specs.declared.memory.span.Span.{Span}
use Rattle.qs_ports.specs.Shelf.{name_at, content_at, named_or, find, content_of, files_of, name_of, newest_name, IsWithin, AreWithin, OptionWithin}

-- ranges of bytes

take_enough : (n : ℕ) (xs : List ℕ) → length xs ≤ n → take n xs ≡ xs
take_enough n xs h = grind (arith, common_steps)

-- a part of the bytes stays where it is
pub range_append : (bytes p : List ℕ) (a b : ℕ) → a ≤ b → b ≤ length bytes → slice_range (bytes ++ p) a b ≡ slice_range bytes a b
range_append bytes p a b h k = grind (arith, common_steps)

-- a part that ends with the bytes grows by what is added
pub range_grows : (bytes p : List ℕ) (a b c : ℕ) → a ≤ b → b ≡ length bytes → c ≡ b + length p → slice_range (bytes ++ p) a c ≡ slice_range bytes a b ++ p
range_grows bytes p a b c h k e =
    let d : drop a (bytes ++ p) ≡ drop a bytes ++ p = drop-append-le a bytes p (omega arith) in
    let whole : take (b - a) (drop a bytes) ≡ drop a bytes = take_enough (b - a) (drop a bytes) (omega (arith, length-drop a bytes)) in
    rw (d, whole) (take_enough (c - a) (drop a bytes ++ p) (omega (arith, length-append (drop a bytes) p, length-drop a bytes)))

-- what was added is the part behind the bytes
pub range_last : (bytes p : List ℕ) (a b : ℕ) → a ≡ length bytes → b ≡ length bytes + length p → slice_range (bytes ++ p) a b ≡ p
range_last bytes p a b h k =
    rw h (rw (drop-append_seam bytes p) (take_enough (b - length bytes) p (omega arith)))

pub range_none : (bytes : List ℕ) (a : ℕ) → slice_range bytes a a ≡ []
range_none bytes a = let e : a - a ≡ 0 = omega arith in rw e refl

-- files within the bytes

pub within_more : (s : Span) (n k : ℕ) → n ≤ k → IsWithin s n → IsWithin s k
within_more s n k h w = record { named = w.named; started = w.started; ended = let e = w.ended in omega arith }

pub are_within_more : (spans : List Span) (n k : ℕ) → n ≤ k → AreWithin spans n → AreWithin spans k
are_within_more [] n k h w = tt
are_within_more (s ∷ ss) n k h (a, b) = (within_more s n k h a, are_within_more ss n k h b)

pub within_front : (ss : List Span) (s : Span) (n : ℕ) → AreWithin (ss ++ s ∷ []) n → AreWithin ss n
within_front [] s n w = tt
within_front (t ∷ ts) s n (a, b) = (a, within_front ts s n b)

pub within_last : (ss : List Span) (s : Span) (n : ℕ) → AreWithin (ss ++ s ∷ []) n → IsWithin s n
within_last [] s n (a, b) = a
within_last (t ∷ ts) s n (a, b) = within_last ts s n b

-- looking up a name

pub same_bytes : (a : List ℕ) → bytes_eq a a ≡ true
same_bytes a = (bytes_eq-Decides a a).1 refl

pub other_bytes : (a b : List ℕ) → a ≢ b → bytes_eq a b ≡ false
other_bytes a b h = grind (arith, bytes_eq-Decides a b)

-- a name stays where bytes are added
pub name_more : (bytes p : List ℕ) (s : Span) → IsWithin s (length bytes) → name_at (bytes ++ p) s ≡ name_at bytes s
name_more bytes p s w = range_append bytes p s.name s.content w.named (let a = w.started in let b = w.ended in omega arith)

content_more : (bytes p : List ℕ) (s : Span) → IsWithin s (length bytes) → content_at (bytes ++ p) s ≡ content_at bytes s
content_more bytes p s w = range_append bytes p s.content s.end w.started w.ended

pub found_more : (bytes p name : List ℕ) (ss : List Span) (a : Option Span) → AreWithin ss (length bytes) → fold (named_or (bytes ++ p) name) a ss ≡ fold (named_or bytes name) a ss
found_more bytes p name [] a w = refl
found_more bytes p name (s ∷ ss) a (x, w) =
    let e : named_or (bytes ++ p) name a s ≡ named_or bytes name a s = ap (λ n. cond (bytes_eq n name) (Some s) a) (name_more bytes p s x) in
    ap (λ o. fold (named_or (bytes ++ p) name) o ss) e ∙ found_more bytes p name ss (named_or bytes name a s) w

chosen_within : (b : Bool) (s : Span) (a : Option Span) (n : ℕ) → IsWithin s n → OptionWithin a n → OptionWithin (cond b (Some s) a) n
chosen_within true s a n w x = w
chosen_within false s a n w x = x

pub found_within : (bytes name : List ℕ) (ss : List Span) (a : Option Span) (n : ℕ) → AreWithin ss n → OptionWithin a n → OptionWithin (fold (named_or bytes name) a ss) n
found_within bytes name [] a n w x = x
found_within bytes name (s ∷ ss) a n (y, w) x =
    found_within bytes name ss (named_or bytes name a s) n w (chosen_within (bytes_eq (name_at bytes s) name) s a n y x)

-- a file that was found has the name
Named : List ℕ → List ℕ → Option Span → Type 0
Named bytes name None = Unit {0}
Named bytes name (Some s) = name_at bytes s ≡ name

chosen_named : (bytes name : List ℕ) (b : Bool) (s : Span) (a : Option Span) → (b ≡ true → name_at bytes s ≡ name) → Named bytes name a → Named bytes name (cond b (Some s) a)
unfolding Named
chosen_named bytes name true s a h x = h refl
chosen_named bytes name false s a h x = x

found_named : (bytes name : List ℕ) (ss : List Span) (a : Option Span) → Named bytes name a → Named bytes name (fold (named_or bytes name) a ss)
found_named bytes name [] a x = x
found_named bytes name (s ∷ ss) a x =
    found_named bytes name ss (named_or bytes name a s) (chosen_named bytes name (bytes_eq (name_at bytes s) name) s a (λ b. (bytes_eq-Decides (name_at bytes s) name).0 b) x)

named_some : (bytes name : List ℕ) (o : Option Span) (s : Span) → o ≡ Some s → Named bytes name o → name_at bytes s ≡ name
unfolding Named
named_some bytes name None s e n = absurd (cc)
named_some bytes name (Some t) s e n = let same : t ≡ s = cc in ap (λ x. name_at bytes x) (sym same) ∙ n

pub find_named : (bytes : List ℕ) (ss : List Span) (name : List ℕ) (s : Span) → find bytes ss name ≡ Some s → name_at bytes s ≡ name
unfolding Named
find_named bytes ss name s e = named_some bytes name (find bytes ss name) s e (found_named bytes name ss None tt)

content_of_more : (bytes p : List ℕ) (o : Option Span) → OptionWithin o (length bytes) → content_of (bytes ++ p) o ≡ content_of bytes o
content_of_more bytes p None w = refl
content_of_more bytes p (Some s) w = ap (λ x. Some x) (content_more bytes p s w)

pub name_of_more : (bytes p : List ℕ) (o : Option Span) → OptionWithin o (length bytes) → name_of (bytes ++ p) o ≡ name_of bytes o
name_of_more bytes p None w = refl
name_of_more bytes p (Some s) w = ap (λ x. Some x) (name_more bytes p s w)

-- bytes that are added leave each file as it was
pub files_more : (bytes p : List ℕ) (ss : List Span) (name : List ℕ) → AreWithin ss (length bytes) → files_of (bytes ++ p) ss name ≡ files_of bytes ss name
files_more bytes p ss name w =
    ap (λ o. content_of (bytes ++ p) o) (found_more bytes p name ss None w)
    ∙ content_of_more bytes p (find bytes ss name) (found_within bytes name ss None (length bytes) w tt)

content_if : (bytes : List ℕ) (b : Bool) (s : Span) (o : Option Span) → content_of bytes (cond b (Some s) o) ≡ cond b (Some (content_at bytes s)) (content_of bytes o)
content_if bytes true s o = refl
content_if bytes false s o = refl

-- a file that is pushed hides those of its name
pub files_push : (bytes : List ℕ) (ss : List Span) (s : Span) (name : List ℕ) → files_of bytes (ss ++ s ∷ []) name ≡ cond (bytes_eq (name_at bytes s) name) (Some (content_at bytes s)) (files_of bytes ss name)
files_push bytes ss s name =
    ap (λ o. content_of bytes o) (fold-append (named_or bytes name) None ss (s ∷ []))
    ∙ content_if bytes (bytes_eq (name_at bytes s) name) s (find bytes ss name)

-- the newest file is found by its name
pub newest_found : (bytes : List ℕ) (ss : List Span) (s : Span) (name : List ℕ) → name_at bytes s ≡ name → files_of bytes (ss ++ s ∷ []) name ≡ Some (content_at bytes s)
newest_found bytes ss s name e =
    files_push bytes ss s name
    ∙ ap (λ b. cond b (Some (content_at bytes s)) (files_of bytes ss name)) (ap (λ n. bytes_eq n name) e ∙ same_bytes name)

-- other names are looked up in the older ones
pub newest_skipped : (bytes : List ℕ) (ss : List Span) (s : Span) (name : List ℕ) → name_at bytes s ≢ name → files_of bytes (ss ++ s ∷ []) name ≡ files_of bytes ss name
newest_skipped bytes ss s name e =
    files_push bytes ss s name
    ∙ ap (λ b. cond b (Some (content_at bytes s)) (files_of bytes ss name)) (other_bytes (name_at bytes s) name e)

pub newest_name_push : (bytes : List ℕ) (ss : List Span) (s : Span) → newest_name bytes (ss ++ s ∷ []) ≡ name_at bytes s
newest_name_push bytes ss s = fold-append (λ _ (x : Span). name_at bytes x) [] ss (s ∷ [])
