-- The certificates of a function that counts x down: closed forms in the least value n of the counter at which it calls
-- itself, and in k, what a call takes off or divides by. o is the counter's value at the entry. L0 is 1; under the
-- first guard, that x is o, L1 and L2 are o - x and x - o; under the second, L3 is x - n.
use Rattle.std.specs.Prelude.{ℕ, ◌+◌, ◌-◌, pos, List, [], ◌∷◌}
use Rattle.qs_assert.specs.declared.variable.VarKind.{VarKind}
use Rattle.qs_assert.specs.Trees.{TermTree, variable, number, sub, div, wrapu, bits, CondTree, lt}
use Rattle.qs_entail.specs.Certificates.{Item, once, twice, FactTree, range, cost_range, apart, num_is, wrapu_is, quotient_bounds, bits_bound, bits_half, bits_rise, CertTree, same, assume, drop, split, contradict, arithmetic, fact}
use Rattle.qs_recur.specs.Needs.{unsigned}

abbrev pub unsigned_term : VarKind → TermTree
unsigned_term x = variable (unsigned x)

abbrev pub item : ℕ → Item
item i = once 1 (pos i)

abbrev pub pair : ℕ → ℕ → Item
pair i j = twice 1 (pos i) (pos j)

-- ---- what calls hand on

-- x - k, as unsigned arithmetic has it (C11 6.2.5p9)
abbrev pub less_term : VarKind → ℕ → TermTree
less_term x k = wrapu (sub (unsigned_term x) (number (pos k)))

abbrev pub quotient_term : VarKind → ℕ → TermTree
quotient_term x k = div (unsigned_term x) k

abbrev pub half_term : VarKind → TermTree
half_term x = quotient_term x 2

-- ---- f(x - k), by x: x is at least n, so that x - k doesn't wrap

abbrev pub less_items : ℕ → List Item
less_items k = pair 8 12 ∷ pair 11 12 ∷ pair 7 12 ∷ twice (k - 1) (pos 0) (pos 12) ∷ []

abbrev pub wrapped_fact : VarKind → (k n : ℕ) → FactTree
wrapped_fact x k n = wrapu_is (sub (unsigned_term x) (number (pos k))) (item 3 ∷ once (n - k) (pos 0) ∷ []) (item 5 ∷ once k (pos 0) ∷ [])

abbrev pub less_fact : VarKind → (k n : ℕ) → FactTree
less_fact x k n = num_is (less_term x k) (item 6 ∷ item 3 ∷ once (n - k) (pos 0) ∷ [])

abbrev pub less_costs : ℕ → VarKind → (k n : ℕ) → CertTree
less_costs f x k n = fact (less_fact x k n) (fact (cost_range f) (arithmetic (less_items k)))

abbrev pub less_numbers : ℕ → VarKind → (k n : ℕ) → CertTree
less_numbers f x k n = fact (num_is (unsigned_term x) (item 4 ∷ [])) (less_costs f x k n)

abbrev pub less_wrapped : ℕ → VarKind → (k n : ℕ) → CertTree
less_wrapped f x k n = fact (wrapped_fact x k n) (less_numbers f x k n)

-- x costs of f are enough for one, and for x - k
abbrev pub less_paid : ℕ → VarKind → (k n : ℕ) → CertTree
less_paid f x k n = fact (range (unsigned x)) (less_wrapped f x k n)

-- ---- f(x / k), by x: the quotient isn't negative; it is 0, or more

abbrev pub is_below : VarKind → (k i : ℕ) → CondTree
is_below x k i = lt (quotient_term x k) (number (pos i))

abbrev pub negative_items : ℕ → List Item
negative_items k = once k (pos 4) ∷ item 8 ∷ item 5 ∷ []

abbrev pub never_negative : VarKind → ℕ → CertTree
never_negative x k = fact (range (unsigned x)) (fact (quotient_bounds (unsigned_term x) k) (contradict (negative_items k)))

abbrev pub low_items : ℕ → List Item
low_items n = pair 8 12 ∷ pair 11 12 ∷ pair 3 12 ∷ twice (n - 1) (pos 0) (pos 12) ∷ pair 5 12 ∷ []

abbrev pub quotient_numbers : ℕ → VarKind → ℕ → List Item → CertTree
quotient_numbers f x k items =
    fact (num_is (unsigned_term x) (item 6 ∷ [])) (fact (num_is (quotient_term x k) (item 4 ∷ [])) (fact (cost_range f) (arithmetic items)))

abbrev pub low_quotient : ℕ → VarKind → (k n : ℕ) → CertTree
low_quotient f x k n = fact (range (unsigned x)) (quotient_numbers f x k (low_items n))

abbrev pub high_items : ℕ → List Item
high_items k = pair 10 14 ∷ pair 13 14 ∷ pair 8 14 ∷ twice (k - 1) (pos 5) (pos 14) ∷ twice (k - 2) (pos 0) (pos 14) ∷ []

abbrev pub high_quotient : ℕ → VarKind → ℕ → CertTree
high_quotient f x k = fact (range (unsigned x)) (fact (quotient_bounds (unsigned_term x) k) (quotient_numbers f x k (high_items k)))

abbrev pub quotient_paid : ℕ → VarKind → (k n : ℕ) → CertTree
quotient_paid f x k n =
    split (is_below x k 0) (never_negative x k) (split (is_below x k 1) (low_quotient f x k n) (high_quotient f x k))

-- ---- f(x / k), by the bits of x: the quotient is at most half of x, which has one bit less

abbrev pub is_above_half : VarKind → ℕ → CondTree
is_above_half x k = lt (half_term x) (quotient_term x k)

abbrev pub above_items : ℕ → List Item
above_items k = item 6 ∷ item 9 ∷ once 2 (pos 5) ∷ once (k - 2) (pos 4) ∷ []

abbrev pub never_above : VarKind → ℕ → CertTree
never_above x k =
    fact (quotient_bounds (unsigned_term x) k) (fact (quotient_bounds (unsigned_term x) 2) (contradict (above_items k)))

abbrev pub rise_fact : VarKind → ℕ → FactTree
rise_fact x k = bits_rise (quotient_term x k) (half_term x) (item 5 ∷ [])

abbrev pub half_fact : VarKind → ℕ → FactTree
half_fact x n = bits_half (unsigned_term x) (item 3 ∷ once (n - 1) (pos 0) ∷ [])

abbrev pub bit_items : List Item
bit_items = pair 10 15 ∷ pair 7 15 ∷ pair 6 15 ∷ pair 14 15 ∷ []

abbrev pub bit_numbers : ℕ → VarKind → ℕ → CertTree
bit_numbers f x k =
    fact (bits_bound (unsigned_term x))
    (fact (num_is (bits (unsigned_term x)) (item 9 ∷ []))
    (fact (bits_bound (quotient_term x k))
    (fact (num_is (bits (quotient_term x k)) (item 12 ∷ []))
    (fact (cost_range f) (arithmetic bit_items)))))

abbrev pub one_bit_less : ℕ → VarKind → (k n : ℕ) → CertTree
one_bit_less f x k n = fact (rise_fact x k) (fact (half_fact x n) (bit_numbers f x k))

abbrev pub bits_paid : ℕ → VarKind → (k n : ℕ) → CertTree
bits_paid f x k n =
    split (is_below x k 0) (never_negative x k) (split (is_above_half x k) (never_above x k) (one_bit_less f x k n))

-- ---- what was at the entry is left; known is how many polynomials are known, o - x and x - o at these numbers among them

abbrev pub kept_items_at : (known more : ℕ) → List Item
kept_items_at known more = pair (known + 2) (known + 6) ∷ pair more (known + 6) ∷ pair (known + 5) (known + 6) ∷ []

abbrev pub value_kept_at : (known less more : ℕ) → ℕ → (x o : VarKind) → CertTree
value_kept_at known less more f x o =
    fact (range (unsigned x))
    (fact (num_is (unsigned_term x) (item known ∷ []))
    (fact (num_is (unsigned_term o) (item known ∷ item less ∷ []))
    (fact (cost_range f) (arithmetic (kept_items_at known more)))))

abbrev pub kept_bit_items : (known : ℕ) → List Item
kept_bit_items known = pair known (known + 7) ∷ pair (known + 2) (known + 7) ∷ pair (known + 6) (known + 7) ∷ []

abbrev pub bits_kept_at : (known more : ℕ) → ℕ → (x o : VarKind) → CertTree
bits_kept_at known more f x o =
    fact (bits_rise (unsigned_term o) (unsigned_term x) (item more ∷ []))
    (fact (bits_bound (unsigned_term x))
    (fact (num_is (bits (unsigned_term x)) (item (known + 1) ∷ []))
    (fact (bits_bound (unsigned_term o))
    (fact (num_is (bits (unsigned_term o)) (item (known + 4) ∷ []))
    (fact (cost_range f) (arithmetic (kept_bit_items known)))))))

-- of a counter, whose guard comes first
abbrev pub kept_items : (known : ℕ) → List Item
kept_items known = kept_items_at known 2

abbrev pub value_kept : (known : ℕ) → ℕ → (x o : VarKind) → CertTree
value_kept known f x o = value_kept_at known 1 2 f x o

abbrev pub bits_kept : (known : ℕ) → ℕ → (x o : VarKind) → CertTree
bits_kept known f x o = bits_kept_at known 2 f x o

-- ---- guards

-- that x is x
abbrev pub equals_itself : CertTree
equals_itself = fact (apart (pos 0) []) (contradict (item 1 ∷ []))

abbrev pub entry_guarded : CertTree
entry_guarded = drop equals_itself same

-- the condition of this number says that x isn't o, and L is o - x and x - o at these numbers, with so many known
abbrev pub never_apart : (condition less more known : ℕ) → CertTree
never_apart condition less more known =
    fact (apart (pos condition) (item more ∷ [])) (contradict (item less ∷ item known ∷ []))

-- where x isn't 0: it is at least 1
abbrev pub at_least_one : VarKind → CertTree
at_least_one x = fact (range (unsigned x)) (fact (apart (pos 0) (item 4 ∷ [])) (contradict (item 3 ∷ item 6 ∷ [])))

abbrev pub one_reached : VarKind → CertTree
one_reached x = assume (drop (never_apart 2 1 2 3) (drop (at_least_one x) same))

-- where a comparison says that x is at least n
abbrev pub least_reached : CertTree
least_reached = assume (drop (never_apart 2 2 3 4) (drop (contradict (item 1 ∷ item 4 ∷ [])) same))

-- the second guard isn't needed; so many conditions are known before
abbrev pub guard_dropped : (conditions : ℕ) → CertTree
guard_dropped conditions = assume (assume (drop (never_apart (conditions + 2) 1 2 4) same))
