-- Trees of one kind from their heads, the last first. What was made last stands in front.
use Rattle.std.specs.Prelude.{◌≡◌, ℕ, zero, suc, List, [], ◌∷◌, map, reverse, Box, Vec, Result, IfOk}
use Rattle.std.specs.declared.alloc.Global.{Global}
use Rattle.qs_assert.specs.Reading.{others}
use Rattle.qs_assert.specs.Stacks.{first_or}

-- the first so many, with this one for each that is missing
abbrev pub firsts : {A : Type 0} → A → ℕ → List A → List A
firsts blank zero xs = []
firsts blank (suc n) xs = first_or blank xs ∷ firsts blank n (others xs)

-- what stands behind so many
abbrev pub behind : {A : Type 0} → ℕ → List A → List A
behind zero xs = xs
behind (suc n) xs = behind n (others xs)

-- how many trees are the parts of a head, what it makes of them, and what stands for a tree that is missing
pub record Shape (H A : Type 0) : Type 0 where
  pub arity : H → ℕ
  pub planted : H → List A → A
  pub blank : A

abbrev pub plant : {H A : Type 0} → Shape H A → H → List A → List A
plant s h xs = s.planted h xs ∷ behind (s.arity h) xs

abbrev pub plants : {H A : Type 0} → Shape H A → List H → List A → List A
plants s [] xs = xs
plants s (h ∷ hs) xs = plant s h (plants s hs xs)

-- the tree with these heads
abbrev pub grown : {H A : Type 0} → Shape H A → List H → List A → A
grown s hs xs = first_or s.blank (plants s hs xs)

-- ---- stacks

-- what stands on a stack as trees, its front being the Vec's end
abbrev pub stacked : {A T : Type 0} → (T → A) → Vec T Global → List A
stacked tree stack = reverse (map tree stack.items)

-- this tree is made of those on the stack
abbrev pub Makes : {A T E : Type 0} → (T → A) → (List A → A) → (stack : Vec T Global) → Result T E → Type 0
Makes tree made stack result = IfOk result (λ x. tree x ≡ made (stacked tree stack))

-- so many trees are taken off the stack
abbrev pub Takes : {A T E R : Type 0} → (T → A) → ℕ → (old new : Vec T Global) → Result R E → Type 0
Takes tree n old new result = IfOk result (λ _. stacked tree new ≡ behind n (stacked tree old))

-- the answer is the first of them
abbrev pub GivesFirst :
    {A T E : Type 0} → (T → A) → A → (stack : Vec T Global) → Result (Box T Global) E → Type 0
GivesFirst tree blank stack result = IfOk result (λ part. tree part.value ≡ first_or blank (stacked tree stack))

-- the answer is the first so many
abbrev pub GivesFirsts :
    {A T E : Type 0} → (T → A) → A → ℕ → (stack : Vec T Global) → Result (Vec T Global) E → Type 0
GivesFirsts tree blank n stack result = IfOk result (λ parts. map tree parts.items ≡ firsts blank n (stacked tree stack))
