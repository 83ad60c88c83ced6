-- The terminals of a text.
use Rattle.std.proofs.Common.{◌≡◌, ℕ, ◌+◌, ◌-◌, ◌<◌, ◌≤◌, zero, suc, true, List, [], ◌∷◌, ◌++◌, length, drop, get_or, All, refl, ap, sym, ◌∙◌, arith, Fits, w8}
use Rattle.std.proofs.lemmas.Bool.Decides.{nat_tests}
use Rattle.std.specs.Cmp.{first_so, second_so}
use Rattle.std.specs.List.{list_all}
use Rattle.std.proofs.lemmas.List.{append-nil, drop_all}
use Rattle.std.proofs.lemmas.List.Elements.{All-head, All-tail}
use Rattle.std.proofs.lemmas.Bool.{and_from}
use Rattle.qs_base.specs.Names.{is_name}
use Rattle.qs_lexer.specs.Laws.{InOrder, IsTokenOf, spelling}
use Rattle.qs_lexer.specs.Terminals.{terminal, terminal_of, terminals}
use Rattle.qs_lexer.specs.Tokens.{Tokens}
use Rattle.qs_syntax_vocabulary.specs.WellFormed.{is_byte, is_well_formed}
use Rattle.qs_syntax_vocabulary.specs.declared.terminal.Terminal.{Terminal}
use Rattle.qs_syntax_vocabulary.specs.declared.tokens.Token.{Token}
use Rattle.qs_syntax_vocabulary.specs.declared.tokens.TokenKind.{TokenKind}
use Rattle.qs_syntax_vocabulary.specs.declared.tokens.TokenKind.TheVariants as kinds
use Rattle.qs_lexer.proofs.TokenLaws.{in_order, tokens_of}
use Rattle.qs_lexer.proofs.TerminalValues.{all_valued, bytes_drop, bytes_take, is_valued, read_valued, text_low}

-- ---- how many there are

pub as_many : (text : List ℕ) (at : ℕ) (tokens : List Token) → length (terminals text at tokens) ≡ length tokens
as_many text at [] = refl
as_many text at (t ∷ ts) = ap suc (as_many text (at + 1) ts)

-- each token takes a byte
counted : (text : List ℕ) (from to : ℕ) (tokens : List Token) → InOrder from tokens to → All (IsTokenOf text) tokens → from + length tokens ≤ to
counted text from to [] o a = omega (arith, o)
counted text from to (t ∷ ts) o a =
    let h : IsTokenOf text t = All-head (IsTokenOf text) t ts a in
    let r : t.end + length ts ≤ to = counted text t.end to ts o.1 (All-tail (IsTokenOf text) t ts a) in
    let f : from ≤ t.start = o.0 in
    let s : t.start < t.end = h.some in
    omega arith

pub at_most : (text : List ℕ) (tokens : List Token) → Tokens text tokens → length tokens ≤ length text
at_most text tokens t = let c : 0 + length tokens ≤ length text = counted text 0 (length text) tokens (in_order text tokens t) (tokens_of text tokens t) in omega arith

before : (text : List ℕ) (from to : ℕ) (tokens : List Token) → InOrder from tokens to → All (IsTokenOf text) tokens → (k : ℕ) (d : Token) → k < length tokens → from + k ≤ (get_or tokens k d).start
before text from to [] o a k d l = absurd (omega arith)
before text from to (t ∷ ts) o a zero d l = let f : from ≤ t.start = o.0 in omega arith
before text from to (t ∷ ts) o a (suc k) d l =
    let h : IsTokenOf text t = All-head (IsTokenOf text) t ts a in
    let r : t.end + k ≤ (get_or ts k d).start = before text t.end to ts o.1 (All-tail (IsTokenOf text) t ts a) k d (omega arith) in
    let f : from ≤ t.start = o.0 in
    let s : t.start < t.end = h.some in
    omega arith

-- a token's number is no more than its place
pub number_low : (text : List ℕ) (tokens : List Token) → Tokens text tokens → (k : ℕ) (d : Token) → k < length tokens → k ≤ (get_or tokens k d).start
number_low text tokens t k d l =
    let c : 0 + k ≤ (get_or tokens k d).start = before text 0 (length text) tokens (in_order text tokens t) (tokens_of text tokens t) k d l in
    omega arith

-- ---- they are terminals

seen : (at : ℕ) (bytes : List ℕ) (kind : TokenKind) → (kind ≡ kinds.Name → is_name bytes ≡ true) → is_valued kind ≡ true → list_all is_byte bytes ≡ true → is_well_formed (terminal_of at bytes kind) ≡ true
seen at bytes kinds.Name n v b = n refl
seen at bytes (kinds.Keyword keyword) n v b = refl
seen at bytes (kinds.Number value unsigned) n v b = v
seen at bytes (kinds.Character value) n v b = v
seen at bytes kinds.Text n v b = text_low bytes b
seen at bytes (kinds.Punctuator punctuator) n v b = refl

all_seen : (text : List ℕ) (at : ℕ) (tokens : List Token) → list_all is_byte text ≡ true → All (IsTokenOf text) tokens → all_valued tokens ≡ true → list_all is_well_formed (terminals text at tokens) ≡ true
all_seen text at [] b a v = refl
all_seen text at (t ∷ ts) b a v =
    and_from (is_well_formed (terminal text at t)) (list_all is_well_formed (terminals text (at + 1) ts))
    (seen at (spelling text t) t.kind (All-head (IsTokenOf text) t ts a).name (first_so (is_valued t.kind) (all_valued ts) v) (bytes_take (t.end - t.start) (drop t.start text) (bytes_drop t.start text b)))
    (all_seen text (at + 1) ts b (All-tail (IsTokenOf text) t ts a) (second_so (is_valued t.kind) (all_valued ts) v))

pub are_well_formed : (text : List ℕ) (tokens : List Token) → Tokens text tokens → list_all is_byte text ≡ true → list_all is_well_formed (terminals text 0 tokens) ≡ true
are_well_formed text tokens t b = all_seen text 0 tokens b (tokens_of text tokens t) (read_valued text tokens t.fresh (length text) b t.reads)

-- the bytes of a slice
fits_byte : (n : ℕ) → Fits w8 n → is_byte n ≡ true
fits_byte n f = grind (arith, nat_tests)

pub slice_bytes : (xs : List ℕ) → ((i : ℕ) → Fits w8 (get_or xs i 0)) → list_all is_byte xs ≡ true
slice_bytes [] f = refl
slice_bytes (x ∷ xs) f = and_from (is_byte x) (list_all is_byte xs) (fits_byte x (f 0)) (slice_bytes xs (λ i. f (suc i)))

-- ---- the loop

pub ended : (text : List ℕ) (tokens : List Token) (done : List Terminal) (at : ℕ) → length tokens ≤ at → done ++ terminals text at (drop at tokens) ≡ terminals text 0 tokens → done ≡ terminals text 0 tokens
ended text tokens done at l i = sym (append-nil done) ∙ sym (ap (λ list. done ++ terminals text at list) (drop_all at tokens l)) ∙ i

pub seen_items : (text : List ℕ) (tokens : List Token) (items : List Terminal) → Tokens text tokens → ((i : ℕ) → Fits w8 (get_or text i 0)) → items ≡ terminals text 0 tokens → list_all is_well_formed items ≡ true
seen_items text tokens items t f e = ap (list_all is_well_formed) e ∙ are_well_formed text tokens t (slice_bytes text f)
