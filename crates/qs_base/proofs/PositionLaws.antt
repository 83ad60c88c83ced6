-- How a byte moves a position on.
use Rattle.std.proofs.Common.{◌≡◌, ◌<◌, ℕ, ◌+◌, true, false, not, List, [], ◌∷◌, length, get_or, take, reverse, ap, ◌∙◌, cond, arith}
use Rattle.std.specs.List.{prefix_len}
use Rattle.std.proofs.lemmas.List.{take_more, reverse-append}
use Rattle.std.proofs.lemmas.List.Sums.{count_by_more_yes, count_by_more_no}
use Rattle.qs_base.specs.Positions.{is_line_feed, line_at, column_at}

-- the bytes behind the last line feed, in reverse
abbrev run_back : List ℕ → ℕ
run_back back = prefix_len (λ byte. not (is_line_feed byte)) back

reversed : (text : List ℕ) (i : ℕ) → i < length text → reverse (take (i + 1) text) ≡ get_or text i 0 ∷ reverse (take i text)
reversed text i low = ap reverse (take_more text i 0 low) ∙ reverse-append (take i text) (get_or text i 0 ∷ [])

pub column_starts : (text : List ℕ) (i : ℕ) → i < length text → is_line_feed (get_or text i 0) ≡ true → column_at text (i + 1) ≡ 1
column_starts text i low is = ap (λ back. 1 + run_back back) (reversed text i low) ∙ ap (λ b. 1 + cond (not b) (1 + run_back (reverse (take i text))) 0) is

pub column_goes_on : (text : List ℕ) (i : ℕ) → i < length text → is_line_feed (get_or text i 0) ≡ false → column_at text (i + 1) ≡ 1 + column_at text i
column_goes_on text i low is = ap (λ back. 1 + run_back back) (reversed text i low) ∙ ap (λ b. 1 + cond (not b) (1 + run_back (reverse (take i text))) 0) is

pub line_ends : (text : List ℕ) (i : ℕ) → i < length text → is_line_feed (get_or text i 0) ≡ true → line_at text (i + 1) ≡ line_at text i + 1
line_ends text i low is = let more = count_by_more_yes is_line_feed text i 0 low is in omega arith

pub line_goes_on : (text : List ℕ) (i : ℕ) → i < length text → is_line_feed (get_or text i 0) ≡ false → line_at text (i + 1) ≡ line_at text i
line_goes_on text i low is = ap (λ n. 1 + n) (count_by_more_no is_line_feed text i 0 low is)
