-- Turns of the loops that read expressions.
use Rattle.std.proofs.Common.{◌≡◌, ℕ, zero, suc, ◌+◌, ◌-◌, ◌<◌, ◌≤◌, cond, List, [], ◌∷◌, ◌++◌, length, Ok, Err, refl, ap, arith}
use Rattle.std.specs.Prelude.{max}
use Rattle.std.proofs.lemmas.List.{map_push}
use Rattle.qs_syntax_vocabulary.specs.declared.terminal.Terminal.{Terminal}
use Rattle.qs_syntax_vocabulary.specs.declared.punctuator.Punctuator.TheVariants as punctuators
use Rattle.qs_syntax.specs.Trees.{unnumbered, ExprTree, expr, comma}
use Rattle.qs_syntax.specs.Reads.{Form, Assignment}
use Rattle.qs_syntax_vocabulary.specs.Operators.{binary_of}
use Rattle.qs_parser_grammar.specs.Heads.{starts, operator_at}
use Rattle.qs_parser_grammar.specs.Parse.{Parse, Unexpected, Deep, read_on, E, unexpected, above, expect, begins_one, starts_suffix, operator_of_level, after_argument, arguments, suffix, suffixes, operation_at, operations, commas, expression, part}
pub use Rattle.std.proofs.lemmas.List.{map_push as map_more}

pub part_more : (n : ℕ) (form : Form) (ts : List Terminal) → 0 < n → part n form ts ≡ expression (n - 1) (part (n - 1)) form ts
unfolding part
part_more zero form ts h = absurd (omega arith)
part_more (suc n) form ts h = let e : n ≡ suc n - 1 = omega arith in ap (λ (k : ℕ). expression k (part k) form ts) e

pub part_none : (n : ℕ) (form : Form) (ts : List Terminal) → n ≡ 0 → part n form ts ≡ cond (begins_one ts) (Err (Deep (length ts))) (Err (Unexpected (length ts)))
unfolding part
part_none zero form ts e = refl
part_none (suc n) form ts e = absurd (omega arith)

pub ruleset part_steps = (part_more, part_none)

left_turns : (n i : ℕ) → i < n → n - i ≡ suc (n - (i + 1))
left_turns n i h = omega arith

module _ (m : ℕ) (p : Form → Parse E) where
  pub arguments_more : (n i : ℕ) (done : List ExprTree) (h : ℕ) (ts : List Terminal) → i < n
      → arguments m p (n - i) done h ts ≡ read_on (p Assignment ts) (λ e us. after_argument m p (arguments m p (n - (i + 1))) (done ++ e.0 ∷ []) (max h e.1) us)
  unfolding arguments
  arguments_more n i done h ts lt = ap (λ k. arguments m p k done h ts) (left_turns n i lt)

  pub arguments_end : (n i : ℕ) (done : List ExprTree) (h : ℕ) (ts : List Terminal) → n ≤ i → arguments m p (n - i) done h ts ≡ unexpected ts
  unfolding arguments
  arguments_end n i done h ts le = let e : n - i ≡ 0 = omega arith in ap (λ k. arguments m p k done h ts) e

  pub suffixes_more : (n i start : ℕ) (a : E) (ts : List Terminal) → i < n
      → suffixes m p (n - i) start a ts ≡ cond (starts_suffix ts) (above m a.1 (λ us. read_on (suffix m p start a us) (suffixes m p (n - (i + 1)) start)) ts) (Ok (a, ts))
  unfolding suffixes
  suffixes_more n i start a ts lt = ap (λ k. suffixes m p k start a ts) (left_turns n i lt)

  pub suffixes_end : (n i start : ℕ) (a : E) (ts : List Terminal) → n ≤ i → suffixes m p (n - i) start a ts ≡ Ok (a, ts)
  unfolding suffixes
  suffixes_end n i start a ts le = let e : n - i ≡ 0 = omega arith in ap (λ k. suffixes m p k start a ts) e

  pub operations_more : (n i j start : ℕ) (a : E) (ts : List Terminal) → i < n
      → operations m p (n - i) j start a ts ≡ operation_at m p j start a (operator_of_level j (operator_at binary_of ts)) (operations m p (n - (i + 1)) j start) ts
  unfolding operations
  operations_more n i j start a ts lt = ap (λ k. operations m p k j start a ts) (left_turns n i lt)

  pub operations_end : (n i j start : ℕ) (a : E) (ts : List Terminal) → n ≤ i → operations m p (n - i) j start a ts ≡ Ok (a, ts)
  unfolding operations
  operations_end n i j start a ts le = let e : n - i ≡ 0 = omega arith in ap (λ k. operations m p k j start a ts) e

  pub commas_more : (n i start : ℕ) (a : E) (ts : List Terminal) → i < n
      → commas m p (n - i) start a ts
      ≡ cond (starts punctuators.Comma ts) (above m a.1 (λ us. read_on (expect punctuators.Comma us) (λ _ vs. read_on (p Assignment vs) (λ b ws. commas m p (n - (i + 1)) start (expr (unnumbered start) (comma a.0 b.0), max a.1 b.1 + 1) ws))) ts) (Ok (a, ts))
  unfolding commas
  commas_more n i start a ts lt = ap (λ k. commas m p k start a ts) (left_turns n i lt)

  pub commas_end : (n i start : ℕ) (a : E) (ts : List Terminal) → n ≤ i → commas m p (n - i) start a ts ≡ Ok (a, ts)
  unfolding commas
  commas_end n i start a ts le = let e : n - i ≡ 0 = omega arith in ap (λ k. commas m p k start a ts) e

pub ruleset argument_steps = (arguments_more, arguments_end, map_push)

pub ruleset suffix_steps = (suffixes_more, suffixes_end)

pub ruleset comma_steps = (commas_more, commas_end)
