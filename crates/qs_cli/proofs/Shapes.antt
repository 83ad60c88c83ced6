-- The shapes of words, as the code finds them.
use Rattle.std.proofs.Common.{◌≡◌, ◌≢◌, ◌∙◌, ℕ, ◌+◌, Bool, cond, true, false, not, ◌||◌, ◌==◌, refl, sym, ap, arith, List, [], ◌∷◌, Option, Some, None, true≢false, length, if◌then◌else◌, is_some, ap₂, map, drop, get_or, drop-cons, add-one, ◌<◌}
use Rattle.std.specs.List.{list_any, position_or_len}
use Rattle.std.proofs.lemmas.Bool.{eqb-true}
use Rattle.qs_base.specs.Characters.{equals_sign, hyphen}
use Rattle.qs_cli.specs.Words.{Text, Word, Plain, Assigned, Named, Excluded, Item, option_of, after_hyphen, word_of, put, placed, items_from}
use Rattle.qs_cli.specs.Reading.{is_shape, waiting_of}
use Rattle.qs_cli.specs.declared.spelling.Shape.{Shape as CodeShape}
use Rattle.qs_cli.specs.declared.spelling.Shape.TheVariants as shape

pub none_passes : (p : ℕ → Bool) (xs : Text) → position_or_len p xs ≡ length xs → list_any p xs ≡ false
none_passes p [] e = refl
none_passes p (x ∷ xs) e = go (p x) refl (none_passes p xs)
  where
    go : (t : Bool) → p x ≡ t → (position_or_len p xs ≡ length xs → list_any p xs ≡ false) → (t || list_any p xs) ≡ false
    go true is ih = let bad : 0 ≡ length (x ∷ xs) = sym (ap (λ b. cond (not b) (1 + position_or_len p xs) 0) is) ∙ e in absurd (omega arith)
    go false is ih = let same : 1 + position_or_len p xs ≡ length (x ∷ xs) = sym (ap (λ b. cond (not b) (1 + position_or_len p xs) 0) is) ∙ e in ih (omega arith)

pub named_shape : (bs : Text) → position_or_len (λ x. x == equals_sign) bs ≡ length bs → (length bs == 0) ≡ false → is_shape shape.Named (option_of bs) ≡ true
named_shape [] e some = absurd (true≢false some)
named_shape (b ∷ bs) e some = let none = none_passes (λ x. x == equals_sign) (b ∷ bs) e in rw none refl

pub hyphen_shape : (w rest : Text) → w ≡ hyphen ∷ rest → ((r : Text) → rest ≢ hyphen ∷ r) → is_shape shape.Excluded (word_of w) ≡ true
hyphen_shape w [] e none = rw e refl
hyphen_shape w (b ∷ bs) e none = rw e (go (b == hyphen) refl)
  where
    go : (t : Bool) → (b == hyphen) ≡ t → is_shape shape.Excluded (if t then option_of bs else Excluded) ≡ true
    go true is = let same : b ≡ hyphen = omega (arith, eqb-true b hyphen is) in absurd (none bs (ap (λ x. x ∷ bs) same))
    go false is = refl

pub plain_shape : (w : Text) → ((r : Text) → w ≢ hyphen ∷ r) → (length w == 0) ≡ false → is_shape shape.Plain (word_of w) ≡ true
plain_shape [] none some = absurd (true≢false some)
plain_shape (b ∷ bs) none some = go (b == hyphen) refl
  where
    go : (t : Bool) → (b == hyphen) ≡ t → is_shape shape.Plain (if t then after_hyphen bs else Plain) ≡ true
    go true is = let same : b ≡ hyphen = omega (arith, eqb-true b hyphen is) in absurd (none bs (ap (λ x. x ∷ bs) same))
    go false is = refl

put_some : (i : Item) (o : Option (List Item)) → is_some (put i o) ≡ is_some o
put_some i None = refl
put_some i (Some is) = refl

-- what waits has a name that makes no difference
any_name : (n m : Text) (ws : List Text) → is_some (items_from ws (Some n)) ≡ is_some (items_from ws (Some m))
any_name n m [] = refl
any_name n m (w ∷ ws) = go (word_of w)
  where
    go : (x : Word) → is_some (placed (Some n) x w (items_from ws)) ≡ is_some (placed (Some m) x w (items_from ws))
    go Plain = refl ∙ put_some _ (items_from ws None) ∙ sym (put_some _ (items_from ws None))
    go (Assigned a b) = refl
    go (Named a) = refl
    go Excluded = refl

plain_step : (x : Word) (b : Bool) (w : Text) (ws : List Text) → is_shape shape.Plain x ≡ true → is_some (placed (waiting_of b) x w (items_from ws)) ≡ is_some (items_from ws None)
plain_step Plain true w ws e = put_some _ (items_from ws None)
plain_step Plain false w ws e = put_some _ (items_from ws None)
plain_step (Assigned a v) b w ws e = absurd (true≢false (sym e))
plain_step (Named a) b w ws e = absurd (true≢false (sym e))
plain_step Excluded b w ws e = absurd (true≢false (sym e))

assigned_step : (x : Word) (w : Text) (ws : List Text) → is_shape shape.Assigned x ≡ true → is_some (placed None x w (items_from ws)) ≡ is_some (items_from ws None)
assigned_step Plain w ws e = absurd (true≢false (sym e))
assigned_step (Assigned a v) w ws e = put_some _ (items_from ws None)
assigned_step (Named a) w ws e = absurd (true≢false (sym e))
assigned_step Excluded w ws e = absurd (true≢false (sym e))

named_step : (x : Word) (w : Text) (ws : List Text) → is_shape shape.Named x ≡ true → is_some (placed None x w (items_from ws)) ≡ is_some (items_from ws (Some []))
named_step Plain w ws e = absurd (true≢false (sym e))
named_step (Assigned a v) w ws e = absurd (true≢false (sym e))
named_step (Named a) w ws e = any_name a [] ws
named_step Excluded w ws e = absurd (true≢false (sym e))

-- one word, by the shape that the code finds
abbrev pub after_word : CodeShape → Bool → List Text → Bool
after_word shape.Plain b ws = is_some (items_from ws None)
after_word shape.Assigned true ws = false
after_word shape.Assigned false ws = is_some (items_from ws None)
after_word shape.Named true ws = false
after_word shape.Named false ws = is_some (items_from ws (Some []))
after_word shape.Excluded b ws = false

word_step : (s : CodeShape) (x : Word) (b : Bool) (w : Text) (ws : List Text) → is_shape s x ≡ true → is_some (placed (waiting_of b) x w (items_from ws)) ≡ after_word s b ws
word_step shape.Plain x b w ws e = plain_step x b w ws e
word_step shape.Assigned x false w ws e = assigned_step x w ws e
word_step shape.Assigned Plain true w ws e = absurd (true≢false (sym e))
word_step shape.Assigned (Assigned a v) true w ws e = refl
word_step shape.Assigned (Named a) true w ws e = absurd (true≢false (sym e))
word_step shape.Assigned Excluded true w ws e = absurd (true≢false (sym e))
word_step shape.Named x false w ws e = named_step x w ws e
word_step shape.Named Plain true w ws e = absurd (true≢false (sym e))
word_step shape.Named (Assigned a v) true w ws e = absurd (true≢false (sym e))
word_step shape.Named (Named a) true w ws e = refl
word_step shape.Named Excluded true w ws e = absurd (true≢false (sym e))
word_step shape.Excluded Plain b w ws e = absurd (true≢false (sym e))
word_step shape.Excluded (Assigned a v) b w ws e = absurd (true≢false (sym e))
word_step shape.Excluded (Named a) b w ws e = absurd (true≢false (sym e))
word_step shape.Excluded Excluded true w ws e = refl
word_step shape.Excluded Excluded false w ws e = refl

pub items_step : (s : CodeShape) (b : Bool) (w : Text) (ws : List Text) → is_shape s (word_of w) ≡ true → is_some (items_from (w ∷ ws) (waiting_of b)) ≡ after_word s b ws
items_step s b w ws e = word_step s (word_of w) b w ws e

pub loop_step : {X : Type 0} (f : X → Text) (xs : List X) (i : ℕ) (x : X) (all : Bool) (s : CodeShape) (b after : Bool) → i < length xs → x ≡ get_or xs i x
    → is_shape s (word_of (f x)) ≡ true → after_word s b (map f (drop (i + 1) xs)) ≡ is_some (items_from (map f (drop (i + 1) xs)) (waiting_of after))
    → is_some (items_from (map f (drop i xs)) (waiting_of b)) ≡ all → is_some (items_from (map f (drop (i + 1) xs)) (waiting_of after)) ≡ all
loop_step f xs i x all s b after lt at shaped step inv =
    let parts : drop i xs ≡ x ∷ drop (i + 1) xs = drop-cons xs i x lt ∙ ap₂ (λ y n. y ∷ drop n xs) (sym at) (sym (add-one i)) in
    sym step ∙ sym (items_step s b (f x) (map f (drop (i + 1) xs)) shaped) ∙ sym (ap (λ ys. is_some (items_from (map f ys) (waiting_of b))) parts) ∙ inv
