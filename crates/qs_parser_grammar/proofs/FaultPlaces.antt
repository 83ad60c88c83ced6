-- Where the parser of units stops: the tokens before it begin a unit that is low enough; with an unexpected one they begin none, and with
-- one that is too deep they begin units, but none that is low enough.
use Rattle.std.proofs.Common.{◌≡◌, ℕ, suc, ◌+◌, ◌<◌, ◌≤◌, max, Bool, true, false, List, [], ◌∷◌, ◌++◌, length, Result, Ok, Err, sym, ap, subst, ◌∙◌, append_assoc, append-nil, arith, inl, inr}
use Rattle.qs_syntax_vocabulary.specs.declared.terminal.Terminal.{Terminal}
use Rattle.qs_syntax.specs.Trees.{DeclTree}
use Rattle.qs_syntax.specs.ReadsUnits.{ReadsUnit}
use Rattle.qs_syntax.specs.Begins.{BeginsUnit, BeginsLowUnit}
use Rattle.qs_parser_grammar.specs.Parse.{Stop, Unexpected, Deep, Parse}
use Rattle.qs_parser_grammar.specs.ParseStatements.{unit}
use Rattle.qs_parser_grammar.proofs.UnitsComplete.{finds_unit}
use Rattle.qs_parser_grammar.proofs.Local.{left, extend, Local, zero_or_more}
use Rattle.qs_parser_grammar.proofs.StatementsLocal.{Local-unit}
use Rattle.qs_parser_grammar.proofs.StatementsMoreRoom.{unexpected_in_all}
use Rattle.qs_parser_grammar.proofs.Viable.{Claims, OfFronts, Both}
use Rattle.qs_parser_grammar.proofs.UnitsViable.{IsSomeUnit, viable_unit}
use Rattle.qs_syntax_vocabulary.specs.WellFormed.{is_well_formed}
use Rattle.std.specs.List.{list_all}

-- ---- what begins a unit

-- a unit of some height, or one that is low enough
abbrev pub Begins : Claims
Begins false = BeginsUnit
Begins true = BeginsLowUnit

pub front_begins : (xs ys : List Terminal) → BeginsUnit (xs ++ ys) → BeginsUnit xs
front_begins xs ys b = record { rest = ys ++ b.rest; height = b.height; ds = b.ds; reads = subst (λ l. ReadsUnit b.height l b.ds) (append_assoc xs ys b.rest) b.reads }

pub front_begins_low : (xs ys : List Terminal) → BeginsLowUnit (xs ++ ys) → BeginsLowUnit xs
front_begins_low xs ys b = record { rest = ys ++ b.rest; height = b.height; ds = b.ds; reads = subst (λ l. ReadsUnit b.height l b.ds) (append_assoc xs ys b.rest) b.reads; low = b.low }

pub low_begins : (xs : List Terminal) → BeginsLowUnit xs → BeginsUnit xs
low_begins xs b = record { rest = b.rest; height = b.height; ds = b.ds; reads = b.reads }

pub fronts_begin : OfFronts Begins
fronts_begin = record { front = λ b xs ys q plain. go b xs ys q }
  where
    go : (b : Bool) (xs ys : List Terminal) → Begins b (xs ++ ys) → Begins b xs
    go false xs ys b = front_begins xs ys b
    go true xs ys b = front_begins_low xs ys b

pub unit_begins : (h : ℕ) (xs : List Terminal) → IsSomeUnit h xs → Both Begins 128 h xs
unit_begins h xs (ds, r) = let whole = subst (λ l. ReadsUnit h l ds) (sym (append-nil xs)) r in
    (record { rest = []; height = h; ds = ds; reads = whole }, λ le. record { rest = []; height = h; ds = ds; reads = whole; low = le })

-- ---- a fault at a token stays where it is, whatever stands behind that token

abbrev Out : Type 0
Out = Result ((List DeclTree × ℕ) × List Terminal) Stop

extend_unexpected : (us : List Terminal) (r : Out) → 0 < left r → extend us r ≡ Err (Unexpected (suc (length us))) → r ≡ Err (Unexpected 1)
extend_unexpected us (Ok x) h e = absurd cc
extend_unexpected us (Err (Deep k)) h e = absurd cc
extend_unexpected us (Err (Unexpected k)) h e = let n : k + length us ≡ suc (length us) = cc in ap (λ n. Err (Unexpected n)) (omega arith)

extend_deep : (us : List Terminal) (r : Out) → 0 < left r → extend us r ≡ Err (Deep (suc (length us))) → r ≡ Err (Deep 1)
extend_deep us (Ok x) h e = absurd cc
extend_deep us (Err (Unexpected k)) h e = absurd cc
extend_deep us (Err (Deep k)) h e = let n : k + length us ≡ suc (length us) = cc in ap (λ n. Err (Deep n)) (omega arith)

module _ (p : Parse (List DeclTree × ℕ)) (good : Local 0 p) (front rest : List Terminal) where
  not_passed : left (p (front ++ rest)) ≡ suc (length rest) → 0 < left (p front)
  not_passed e = elim (zero_or_more (left (p front))) [ inl z ↦ absurd (omega (arith, good.passes front rest z)) | inr h ↦ h ]

  local_unexpected : p (front ++ rest) ≡ Err (Unexpected (suc (length rest))) → (us : List Terminal) → p (front ++ us) ≡ Err (Unexpected (suc (length us)))
  local_unexpected e us =
      let h = not_passed (ap left e) in
      let one : p front ≡ Err (Unexpected 1) = extend_unexpected rest (p front) h (sym (good.stable front rest h) ∙ e) in
      good.stable front us h ∙ ap (extend us) one ∙ ap (λ n. Err (Unexpected n)) (omega arith)

  local_deep : p (front ++ rest) ≡ Err (Deep (suc (length rest))) → (us : List Terminal) → p (front ++ us) ≡ Err (Deep (suc (length us)))
  local_deep e us =
      let h = not_passed (ap left e) in
      let one : p front ≡ Err (Deep 1) = extend_deep rest (p front) h (sym (good.stable front rest h) ∙ e) in
      good.stable front us h ∙ ap (extend us) one ∙ ap (λ n. Err (Deep n)) (omega arith)

not_both : (x : (List DeclTree × ℕ) × List Terminal) (s : Stop) (r : Out) → r ≡ Ok x → r ≡ Err s → ⊥
not_both x s r p q = cc

-- ---- no reading

-- no tokens that go on with those up to the unexpected one are a unit
pub no_unit : (k : ℕ) (front rest : List Terminal) → unit k (front ++ rest) ≡ Err (Unexpected (suc (length rest))) → BeginsUnit front → ⊥
no_unit k front rest e b =
    not_both ((b.ds, b.height), []) (Unexpected (suc (length b.rest))) (unit (max k b.height) (front ++ b.rest))
    (finds_unit (max k b.height) b.height (front ++ b.rest) b.ds b.reads (omega arith))
    (unexpected_in_all k (max k b.height) (omega arith) (front ++ b.rest) (suc (length b.rest)) (local_unexpected (unit k) (Local-unit k) front rest e b.rest))

-- nor of so few levels, where a token is too deep
no_low_unit : (k : ℕ) (front rest us : List Terminal) (h : ℕ) (ds : List DeclTree) → unit k (front ++ rest) ≡ Err (Deep (suc (length rest))) → h ≤ suc (suc k) → ReadsUnit h (front ++ us) ds → ⊥
no_low_unit k front rest us h ds e le r = not_both ((ds, h), []) (Deep (suc (length us))) (unit k (front ++ us)) (finds_unit k h (front ++ us) ds r le) (local_deep (unit k) (Local-unit k) front rest e us)

-- nor are the tokens themselves a unit
pub no_unit_at_all : (k n : ℕ) (ts : List Terminal) → unit k ts ≡ Err (Unexpected n) → (h : ℕ) (ds : List DeclTree) → ReadsUnit h ts ds → ⊥
no_unit_at_all k n ts e h ds r = not_both ((ds, h), []) (Unexpected n) (unit (max k h) ts) (finds_unit (max k h) h ts ds r (omega arith)) (unexpected_in_all k (max k h) (omega arith) ts n e)

-- ---- the places

-- the tokens before a place, and those from it on
pub record Before (ts : List Terminal) (n : ℕ) : Type 0 where
  pub front : List Terminal
  pub rest : List Terminal
  pub split : ts ≡ front ++ rest
  pub are : length rest ≡ n
  pub begin : BeginsLowUnit front
  pub not_with : (t : Terminal) (us : List Terminal) → rest ≡ t ∷ us → BeginsUnit (front ++ t ∷ []) → ⊥

-- the tokens before a place, the one at it, and those behind
pub record UpTo (ts : List Terminal) (n : ℕ) : Type 0 where
  pub front : List Terminal
  pub at : Terminal
  pub rest : List Terminal
  pub split : ts ≡ front ++ at ∷ rest
  pub are : suc (length rest) ≡ n
  pub before : BeginsLowUnit front
  pub begin : BeginsUnit (front ++ at ∷ [])
  pub none : (us : List Terminal) (h : ℕ) (ds : List DeclTree) → h ≤ 128 → ReadsUnit h ((front ++ at ∷ []) ++ us) ds → ⊥

unexpected_by : (n : ℕ) (ts : List Terminal) → unit 126 ts ≡ Err (Unexpected n) → (front rest : List Terminal) → ts ≡ front ++ rest → length rest ≡ n → BeginsLowUnit front → Before ts n
unexpected_by n ts e front rest split are begin = record {
  front = front;
  rest = rest;
  split = split;
  are = are;
  begin = begin;
  not_with = λ t us is. no_unit 126 (front ++ t ∷ []) us
      (ap (unit 126) (append_assoc front (t ∷ []) us ∙ ap (λ l. front ++ l) (sym is) ∙ sym split) ∙ e ∙ ap (λ n. Err (Unexpected n)) (sym are ∙ ap length is));
}

pub unexpected_place : (n : ℕ) (ts : List Terminal) → list_all is_well_formed ts ≡ true → unit 126 ts ≡ Err (Unexpected n) → Before ts n
unexpected_place n ts formed e = let (front, rest, split, are, begin) = (rw e at (viable_unit 126 Begins fronts_begin unit_begins ts formed)).is in unexpected_by n ts e front rest split are begin

deep_by : (n : ℕ) (ts : List Terminal) → unit 126 ts ≡ Err (Deep n) → (front : List Terminal) (t : Terminal) (rest : List Terminal) → ts ≡ front ++ t ∷ rest → suc (length rest) ≡ n → BeginsLowUnit front → BeginsUnit (front ++ t ∷ []) → UpTo ts n
deep_by n ts e front t rest split are before begin = record {
  front = front;
  at = t;
  rest = rest;
  split = split;
  are = are;
  before = before;
  begin = begin;
  none = λ us h ds le r. no_low_unit 126 (front ++ t ∷ []) rest us h ds (ap (unit 126) (append_assoc front (t ∷ []) rest ∙ sym split) ∙ e ∙ ap (λ n. Err (Deep n)) (sym are)) le r;
}

pub deep_place : (n : ℕ) (ts : List Terminal) → list_all is_well_formed ts ≡ true → unit 126 ts ≡ Err (Deep n) → UpTo ts n
deep_place n ts formed e = let (front, t, rest, split, are, before, begin) = (rw e at (viable_unit 126 Begins fronts_begin unit_begins ts formed)).is in deep_by n ts e front t rest split are before begin
