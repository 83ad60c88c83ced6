-- Terminals that are written one behind the other.
use Rattle.std.proofs.Common.{◌≡◌, ℕ, zero, suc, Bool, true, false, Result, Ok, Err, subst, arith, ◌∙◌, ◌+◌, ◌-◌, ◌<◌, List, [], ◌∷◌, ◌++◌, length, take, get_or, map, flat_map, refl, sym, ap, append_assoc, append-nil, add-one, length-append}
use Rattle.std.proofs.Math.Seq.{take-append_seam, take-suc}
use Rattle.std.proofs.lemmas.List.{length-map, length-take, map-append}
use Rattle.std.proofs.lemmas.Grind.{flat_map-append}
use Rattle.std.specs.Prelude.{OnOk}
use Rattle.qs_syntax_vocabulary.specs.declared.terminal.Terminal.{Terminal}
use Rattle.qs_syntax_vocabulary.specs.declared.terminal.Terminal.TheVariants.{Punctuator}
use Rattle.qs_syntax_vocabulary.specs.declared.punctuator.Punctuator.TheVariants as punctuators
use Rattle.qs_syntax.specs.Trees.{ExprTree, exprs_of, InitialiserTree, initialisers_of, StmtTree, stmts_of}
use Rattle.qs_print.specs.Levels.{assignment_level}
use Rattle.qs_print.specs.Printed.{behind_commas, comma_unless, further_arguments, further_initialisers, printed_arguments, printed_initialiser, printed_initialisers, printed_part, printed_stars, printed_stmt, printed_stmts, with_commas}
use Rattle.qs_print.specs.Spelling.{joined, spelling}
use Rattle.qs_print.specs.Words.{spaced, Writes}

pub spaced_append : (xs ys : List Terminal) → spaced (xs ++ ys) ≡ spaced xs ++ spaced ys
spaced_append [] ys = refl
spaced_append (x ∷ xs) ys = rw (spaced_append xs ys) (sym (append_assoc (spelling x) (32 ∷ spaced xs) (spaced ys)))

pub nothing : (a : List ℕ) → Writes a [] a
nothing a = record { text = sym (append-nil a) }

pub in_turn : {a b c : List ℕ} {xs ys : List Terminal} → Writes a xs b → Writes b ys c → Writes a (xs ++ ys) c
in_turn {a} {b} {c} {xs} {ys} p q = record { text = rw (q.text, p.text, spaced_append xs ys) (append_assoc a (spaced xs) (spaced ys)) }

-- the same where what is written last may fail
pub last : {A E : Type 0} {a b : List ℕ} {xs : List Terminal} (ys : List Terminal) (c : List ℕ) (r : Result A E) → Writes a xs b → OnOk r (Writes b ys c) → OnOk r (Writes a (xs ++ ys) c)
last ys c (Ok x) p q = in_turn p q
last ys c (Err e) p q = tt

-- a row, up to the element at i and then with it
pub row_more : {A B : Type 0} (printed : B → List Terminal) (view : A → B) (xs : List A) (i : ℕ) (x : A) {w a b : List ℕ}
    → i < length xs → x ≡ get_or xs i x → Writes w (flat_map printed (map view (take i xs))) a → Writes a (printed (view x)) b
    → Writes w (flat_map printed (map view (take (i + 1) xs))) b
row_more printed view xs i x {w} {a} {b} lt is p q =
    rw (add-one i, take-suc xs i x lt, ← is, map-append view (take i xs) (x ∷ []), flat_map-append printed (map view (take i xs)) (view x ∷ []), append-nil (printed (view x))) (in_turn p q)

with_commas-snoc : {B : Type 0} (printed : B → List Terminal) (ys : List B) (x : B) → 0 < length ys → with_commas printed (ys ++ x ∷ []) ≡ with_commas printed ys ++ Punctuator 0 punctuators.Comma ∷ printed x
with_commas-snoc printed [] x lt = absurd (omega arith)
with_commas-snoc printed (y ∷ ys) x lt =
    rw (flat_map-append (λ z. Punctuator 0 punctuators.Comma ∷ printed z) ys (x ∷ []), append-nil (printed x)) (sym (append_assoc (printed y) (behind_commas printed ys) (Punctuator 0 punctuators.Comma ∷ printed x)))

-- a list with commas, up to the element at i and then with it
pub commas_more : {A B : Type 0} (printed : B → List Terminal) (view : A → B) (xs : List A) (i : ℕ) (x : A) (first : Bool) {w a b c : List ℕ}
    → i < length xs → x ≡ get_or xs i x → (first ≡ true → i ≡ 0) → (first ≡ false → 0 < i)
    → Writes w (with_commas printed (map view (take i xs))) a → Writes a (comma_unless first) b → Writes b (printed (view x)) c
    → Writes w (with_commas printed (map view (take (i + 1) xs))) c
commas_more printed view [] i x true lt is zero_at later p q r = absurd (omega arith)
commas_more printed view (y ∷ xs) zero x true lt is zero_at later p q r = rw (← is) (in_turn p (in_turn q (in_turn r (nothing _))))
commas_more printed view (y ∷ xs) (suc i) x true lt is zero_at later p q r = absurd (omega (arith, zero_at refl))
commas_more printed view xs i x false {w} {a} {b} {c} lt is zero_at later p q r =
    let k : length (map view (take i xs)) ≡ length (take i xs) = length-map (take i xs) view in
    let n : 0 < length (map view (take i xs)) = omega (arith, later refl, k, length-take i xs) in
    rw (add-one i, take-suc xs i x lt, ← is, map-append view (take i xs) (x ∷ []), with_commas-snoc printed (map view (take i xs)) (view x) n) (in_turn p (in_turn q r))

-- ---- trees that are lists

pub arguments_list : (es : List ExprTree) → printed_arguments (exprs_of es) ≡ with_commas (printed_part assignment_level) es
arguments_list [] = refl
arguments_list (e ∷ es) = ap (λ ls. printed_part assignment_level e ++ ls) (further es)
  where
    further : (es : List ExprTree) → further_arguments (exprs_of es) ≡ behind_commas (printed_part assignment_level) es
    further [] = refl
    further (e ∷ es) = ap (λ ls. Punctuator 0 punctuators.Comma ∷ (printed_part assignment_level e ++ ls)) (further es)

pub initialisers_list : (is : List InitialiserTree) → printed_initialisers (initialisers_of is) ≡ with_commas printed_initialiser is
initialisers_list [] = refl
initialisers_list (i ∷ is) = ap (λ ls. printed_initialiser i ++ ls) (further is)
  where
    further : (is : List InitialiserTree) → further_initialisers (initialisers_of is) ≡ behind_commas printed_initialiser is
    further [] = refl
    further (i ∷ is) = ap (λ ls. Punctuator 0 punctuators.Comma ∷ (printed_initialiser i ++ ls)) (further is)

pub stmts_list : (ss : List StmtTree) → printed_stmts (stmts_of ss) ≡ flat_map printed_stmt ss
stmts_list [] = refl
stmts_list (s ∷ ss) = ap (λ ls. printed_stmt s ++ ls) (stmts_list ss)

-- ---- the end of a text

abbrev front : List Terminal → List ℕ
front [] = []
front (l ∷ []) = spelling l
front (l ∷ k ∷ ls) = spelling l ++ 32 ∷ front (k ∷ ls)

spaced_front : (l : Terminal) (ls : List Terminal) → spaced (l ∷ ls) ≡ front (l ∷ ls) ++ 32 ∷ []
spaced_front l [] = refl
spaced_front l (k ∷ ls) = ap (λ xs. spelling l ++ 32 ∷ xs) (spaced_front k ls) ∙ sym (append_assoc (spelling l) (32 ∷ front (k ∷ ls)) (32 ∷ []))

joined_front : (l : Terminal) (ls : List Terminal) → joined (l ∷ ls) ≡ front (l ∷ ls) ++ 10 ∷ []
joined_front l [] = refl
joined_front l (k ∷ ls) = ap (λ xs. spelling l ++ 32 ∷ xs) (joined_front k ls) ∙ sym (append_assoc (spelling l) (32 ∷ front (k ∷ ls)) (10 ∷ []))

all_but_last : (xs : List ℕ) (x : ℕ) → take (length (xs ++ x ∷ []) - 1) (xs ++ x ∷ []) ≡ xs
all_but_last xs x = rw (length-append xs (x ∷ [])) (subst (λ n. take n (xs ++ x ∷ []) ≡ xs) (omega arith) (take-append_seam xs (x ∷ [])))

-- a line feed stands in the place of the last blank
pub finished : (ls : List Terminal) (a b c : List ℕ) (n : ℕ) → Writes [] ls a → b ≡ take (n - 1) a → n ≡ length a → c ≡ b ++ 10 ∷ [] → c ≡ joined ls
finished [] a b c n w p e q = rw (q, p, e, w.text) refl
finished (l ∷ ls) a b c n w p e q = rw (q, p, e, w.text, spaced_front l ls, all_but_last (front (l ∷ ls)) 32) (sym (joined_front l ls))

-- ---- stars

pub stars_more : {w a b : List ℕ} (n : ℕ) → Writes w (printed_stars n) a → Writes a (Punctuator 0 punctuators.Star ∷ []) b → Writes w (printed_stars (n + 1)) b
stars_more {w} {a} {b} n p q = subst (λ ls. Writes w ls b) (turned n ∙ ap printed_stars (sym (add-one n))) (in_turn p q)
  where
    turned : (n : ℕ) → printed_stars n ++ Punctuator 0 punctuators.Star ∷ [] ≡ printed_stars (suc n)
    turned zero = refl
    turned (suc n) = ap (λ ls. Punctuator 0 punctuators.Star ∷ ls) (turned n)
