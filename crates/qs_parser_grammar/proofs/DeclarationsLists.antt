-- Lists of the grammar with a punctuator at their end: what is done, and what is read behind it.
use Rattle.std.proofs.Common.{◌≡◌, ℕ, ◌≤◌, max, List, [], ◌∷◌, ◌++◌, Ok, refl, sym, ap, ◌∙◌, append_assoc, if◌then◌else◌, arith}
use Rattle.qs_syntax_vocabulary.specs.declared.terminal.Terminal.{Terminal}
use Rattle.qs_syntax_vocabulary.specs.declared.terminal.Terminal.TheVariants.{Punctuator}
use Rattle.qs_syntax_vocabulary.specs.declared.punctuator.Punctuator as punctuator
use Rattle.qs_syntax_vocabulary.specs.declared.punctuator.Punctuator.TheVariants as punctuators
use Rattle.qs_parser_grammar.specs.Heads.{starts}
use Rattle.qs_parser_grammar.specs.Parse.{Parse, read_on, expect}
use Rattle.qs_parser_grammar.proofs.Sound.{Sound, Sound-ok, Sound-mono}
use Rattle.qs_parser_grammar.proofs.SoundSteps.{Sound-if}
use Rattle.qs_parser_grammar.proofs.DeclarationsSteps.{Sound-punctuator-next}

-- further items behind those that are done, of at most n levels, with the punctuator at their end
abbrev pub Closed : {X : Type 0} → punctuator.Punctuator → (ℕ → List Terminal → List X → Type 0) → ℕ → List X → ℕ → List X × ℕ → List Terminal → Type 0
Closed {X} closing All n done h x l = (items : List X) × (k : ℕ) × (inside : List Terminal) × (c : ℕ) × (x.0 ≡ done ++ items) × (x.1 ≡ max h k) × (l ≡ inside ++ Punctuator c closing ∷ []) × All k inside items × (k ≤ n)

-- all of them
abbrev pub Ends : {X : Type 0} → punctuator.Punctuator → (ℕ → List Terminal → List X → Type 0) → ℕ → List X × ℕ → List Terminal → Type 0
Ends closing All n x l = (inside : List Terminal) × (c : ℕ) × (l ≡ inside ++ Punctuator c closing ∷ []) × All x.1 inside x.0 × (x.1 ≤ n)

pub all_closed : {X : Type 0} (closing : punctuator.Punctuator) (All : ℕ → List Terminal → List X → Type 0) (n : ℕ) (x : List X × ℕ) (l : List Terminal) → Closed closing All n [] 0 x l → Ends closing All n x l
all_closed closing All n x l (items, k, inside, c, p, q, e, r, le) = let same : x.1 ≡ k = omega arith in (inside, c, e, rw (same, p) r, omega arith)

-- items with commas between them
module _ {X : Type 0} (closing : punctuator.Punctuator) (One : ℕ → List Terminal → X → Type 0) (All : ℕ → List Terminal → List X → Type 0)
    (last : (h : ℕ) (ts : List Terminal) (x : X) → One h ts x → All h ts (x ∷ []))
    (further : (h k : ℕ) (ts us : List Terminal) (x : X) (xs : List X) (at : ℕ) → One h ts x → All k us xs → All (max h k) (ts ++ Punctuator at punctuators.Comma ∷ us) (x ∷ xs)) where
  pub closed_last : (n : ℕ) (done : List X) (h : ℕ) (x : X) (k : ℕ) (front : List Terminal) (c : ℕ) → One k front x → k ≤ n → Closed closing All n done h (done ++ x ∷ [], max h k) (front ++ Punctuator c closing ∷ [])
  closed_last n done h x k front c r le = (x ∷ [], k, front, c, refl, refl, refl, last k front x r, le)

  pub closed_further : (n : ℕ) (done : List X) (h : ℕ) (x : X) (k : ℕ) (front : List Terminal) (at : ℕ) → One k front x → k ≤ n
      → (y : List X × ℕ) (l : List Terminal) → Closed closing All n (done ++ x ∷ []) (max h k) y l → Closed closing All n done h y (front ++ Punctuator at punctuators.Comma ∷ l)
  closed_further n done h x k front at r le y l (items, j, inside, c, p, q, e, s, low) = (
    x ∷ items,
    max k j,
    front ++ Punctuator at punctuators.Comma ∷ inside,
    c,
    p ∙ append_assoc done (x ∷ []) items,
    omega arith,
    ap (λ l. front ++ Punctuator at punctuators.Comma ∷ l) e ∙ sym (append_assoc front (Punctuator at punctuators.Comma ∷ inside) (Punctuator c closing ∷ [])),
    further k j front inside x items at r s,
    omega arith,
  )

  -- the punctuator at the end, or a comma and the others
  pub sound_after : (n : ℕ) (others : List X → ℕ → Parse (List X × ℕ)) → ((done : List X) (h : ℕ) (ts : List Terminal) → Sound (Closed closing All n done h) [] ts (others done h ts))
      → (done : List X) (h : ℕ) (x : X) (k : ℕ) (front : List Terminal) → One k front x → k ≤ n → (ts : List Terminal)
      → Sound (λ y l. Closed closing All n done h y (front ++ l)) [] ts (if starts closing ts then read_on (expect closing ts) (λ _ us. Ok ((done ++ x ∷ [], max h k), us)) else read_on (expect punctuators.Comma ts) (λ _ us. others (done ++ x ∷ []) (max h k) us))
  sound_after n others good done h x k front r le ts =
      Sound-if (starts closing ts)
      (λ _. Sound-punctuator-next closing ts _ (λ c us. Sound-ok (closed_last n done h x k front c r le)))
      (λ _. Sound-punctuator-next punctuators.Comma ts _ (λ at us. Sound-mono (closed_further n done h x k front at r le) (good (done ++ x ∷ []) (max h k) us)))
