-- Trees taken off a stack.
use Rattle.std.proofs.Common.{◌≡◌, ℕ, suc, List, [], ◌∷◌, ◌++◌, map, reverse, refl, sym, ap, ◌∙◌, append_assoc}
use Rattle.std.proofs.lemmas.List.{map-append, reverse-append}
use Rattle.qs_assert.proofs.StackViewLaws.{mapped_first, mapped_others, mapped_reverse}
use Rattle.qs_assert.specs.Reading.{others}
use Rattle.qs_assert.specs.Stacks.{first_or}
use Rattle.qs_prooftext.specs.Planting.{Shape, behind, firsts, plant, plants}

-- what is taken off, and what is left

pub first_taken : {C T : Type 0} (view : C → T) (blank : T) (cs : List C) (c missing : C) → c ≡ first_or missing (reverse cs) → view missing ≡ blank → view c ≡ first_or blank (reverse (map view cs))
first_taken view blank cs c missing e b =
    ap view e ∙ (sym (mapped_first view missing (reverse cs)) ∙ (λ i. first_or (b i) (sym (mapped_reverse view cs) i)))

pub others_taken : {C T : Type 0} (view : C → T) (cs ds : List C) → reverse ds ≡ others (reverse cs) → reverse (map view ds) ≡ others (reverse (map view cs))
others_taken view cs ds e =
    mapped_reverse view ds ∙ (ap (map view) e ∙ (sym (mapped_others view (reverse cs)) ∙ ap others (sym (mapped_reverse view cs))))

pub last_first : {C T : Type 0} (view : C → T) (cs ds : List C) (c : C) → cs ≡ ds ++ c ∷ [] → reverse (map view cs) ≡ view c ∷ reverse (map view ds)
last_first {C = C} {T = T} view cs ds c e =
    ap (λ (xs : List C). reverse (map view xs)) e ∙ (ap (λ (ts : List T). reverse ts) (map-append view ds (c ∷ [])) ∙ reverse-append (map view ds) (view c ∷ []))

pub plants-append : {H T : Type 0} (s : Shape H T) (hs : List H) (h : H) (ts : List T) → plants s (hs ++ h ∷ []) ts ≡ plants s hs (plant s h ts)
plants-append s [] h ts = refl
plants-append s (x ∷ hs) h ts = ap (plant s x) (plants-append s hs h ts)

pub one_put : {C T : Type 0} (view : C → T) (ps qs : List C) (c : C) → qs ≡ ps ++ c ∷ [] → map view qs ≡ map view ps ++ view c ∷ []
one_put {C = C} view ps qs c e = ap (λ (xs : List C). map view xs) e ∙ map-append view ps (c ∷ [])

pub taken_more : {C T : Type 0} (view : C → T) (blank : T) (n m : ℕ) (ps qs : List C) (c : C) (xs ys all : List T) → n ≡ suc m → qs ≡ ps ++ c ∷ [] → view c ≡ first_or blank xs → ys ≡ others xs → map view ps ++ firsts blank n xs ≡ all → map view qs ++ firsts blank m ys ≡ all
taken_more view blank n m ps qs c xs ys all l e f o h =
    (λ i. one_put view ps qs c e i ++ firsts blank m (o i)) ∙ (append_assoc (map view ps) (view c ∷ []) (firsts blank m (others xs)) ∙ ((λ i. map view ps ++ (f i ∷ firsts blank m (others xs))) ∙ ((λ i. map view ps ++ firsts blank (sym l i) xs) ∙ h)))

pub behind_more : {T : Type 0} (n m : ℕ) (xs ys all : List T) → n ≡ suc m → ys ≡ others xs → behind n xs ≡ all → behind m ys ≡ all
behind_more n m xs ys all l o h = (λ i. behind m (o i)) ∙ ((λ i. behind (sym l i) xs) ∙ h)

pub planted_more : {H T K C : Type 0} (s : Shape H T) (head_view : K → H) (view : C → T) (hs hs_now : List K) (made : K) (stack left now : List C) (tree : C) (due : List T) → hs ≡ hs_now ++ made ∷ [] → view tree ≡ s.planted (head_view made) (reverse (map view stack)) → reverse (map view left) ≡ behind (s.arity (head_view made)) (reverse (map view stack)) → now ≡ left ++ tree ∷ [] → plants s (map head_view hs) (reverse (map view stack)) ≡ due → plants s (map head_view hs_now) (reverse (map view now)) ≡ due
planted_more s head_view view hs hs_now made stack left now tree due e t b n h =
    ap (plants s (map head_view hs_now)) (last_first view now left tree n) ∙ ((λ i. plants s (map head_view hs_now) (t i ∷ b i)) ∙ (sym (plants-append s (map head_view hs_now) (head_view made) (reverse (map view stack))) ∙ ((λ i. plants s (sym (one_put head_view hs_now hs made e) i) (reverse (map view stack))) ∙ h)))
