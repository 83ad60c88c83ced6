-- What the parser's functions on lists say of units.
use Rattle.std.proofs.Common.{◌≡◌, ◌≢◌, inl, inr, ℕ, zero, suc, ◌+◌, ◌<◌, ◌≤◌, ◌^◌, List, [], ◌∷◌, ◌++◌, length, Ok, Err, true, refl, sym, ap, subst, ◌∙◌, arith, append_assoc, length-append}
use Rattle.std.specs.Prelude.{take, drop, Result}
use Rattle.std.proofs.lemmas.Bool.{cases_order, cases_lt}
use Rattle.std.proofs.lemmas.List.{take_at}
use Rattle.std.specs.List.{list_all}
use Rattle.qs_syntax_vocabulary.specs.declared.terminal.Terminal.{Terminal}
use Rattle.qs_syntax.specs.Trees.{DeclTree}
use Rattle.qs_syntax.specs.Numbering.{numbered_unit}
use Rattle.qs_syntax.specs.Nodes.{unit_count}
use Rattle.qs_syntax.specs.Units.{IsRead}
use Rattle.qs_syntax_vocabulary.specs.WellFormed.{is_well_formed}
use Rattle.qs_syntax.specs.ReadsUnits.{ReadsUnit}
use Rattle.qs_syntax.specs.declared.unit.Unit as unit_type
use Rattle.qs_syntax.specs.UnitTrees.{unit_tree}
use Rattle.qs_syntax.specs.Begins.{BeginsUnit, BeginsLowUnit}
use Rattle.qs_parser_grammar.specs.Parse.{Unexpected, Deep}
use Rattle.qs_parser_grammar.specs.ParseStatements.{unit}
use Rattle.qs_parser.specs.Answers.{ReadsAs, HasNoReading, IsUnexpected, IsTooDeep, HasFault, Answers, IsDecision}
use Rattle.qs_parser.specs.declared.syntax_fault.SyntaxFault.{SyntaxFault}
use Rattle.qs_parser.specs.declared.syntax_fault.SyntaxFault.TheVariants as faults
use Rattle.qs_syntax_vocabulary.specs.declared.tokens.Token.{Token}
use Rattle.qs_syntax_vocabulary.specs.declared.tokens.TokenKind.{TokenKind}
use Rattle.qs_syntax_vocabulary.specs.declared.tokens.TokenKind.TheVariants as kinds
use Rattle.qs_syntax_vocabulary.specs.Marks.{mark, marked}
use Rattle.qs_lexer.specs.Laws.{spelling}
use Rattle.qs_lexer.specs.Terminals.{terminal_of, terminals}
use Rattle.qs_parser_grammar.proofs.NodeCounts.{counted_unit}
use Rattle.qs_parser_grammar.proofs.UnitsSound.{reads_whole}
use Rattle.qs_parser_grammar.proofs.UnitsComplete.{one_reading}
use Rattle.qs_parser_grammar.proofs.FaultPlaces.{no_unit_at_all, Before, UpTo, unexpected_place, deep_place, front_begins, front_begins_low, low_begins}

abbrev Gave : List Terminal → List DeclTree → ℕ → Type 0
Gave ts ds h = unit 126 ts ≡ Ok ((ds, h), [])

pub is_read : (ts : List Terminal) (ds : List DeclTree) (h : ℕ) → list_all is_well_formed ts ≡ true → Gave ts ds h → IsRead (numbered_unit ds)
is_read ts ds h all e = let r = reads_whole ts ds h e in ∣ record { tokens = ts; height = h; unnumbered = ds; are_tokens = all; reads = r.0; low = r.1; are_numbered = refl } ∣₁

pub are_few : (ts : List Terminal) (ds : List DeclTree) (h : ℕ) → length ts < 2 ^ 32 → Gave ts ds h → unit_count ds < 2 ^ 32
are_few ts ds h few e = let n = counted_unit (reads_whole ts ds h e).0 in omega arith

pub reads_as : (ts : List Terminal) (ds es : List DeclTree) (h : ℕ) → Gave ts ds h → es ≡ numbered_unit ds → ReadsAs ts es
reads_as ts ds es h e same = let r = reads_whole ts ds h e in record { height = h; unnumbered = ds; reads = r.0; low = r.1; are_numbered = same }

-- ---- places

one_more : (front : List Terminal) (t : Terminal) (rest : List Terminal) → take (suc (length front)) (front ++ t ∷ rest) ≡ front ++ t ∷ []
one_more front t rest = ap (take (suc (length front))) (sym (append_assoc front (t ∷ []) rest)) ∙ take_at (front ++ t ∷ []) rest (suc (length front)) (omega (arith, length-append front (t ∷ [])))

unexpected_at : (front rest : List Terminal) → BeginsLowUnit front → ((t : Terminal) (us : List Terminal) → rest ≡ t ∷ us → BeginsUnit (front ++ t ∷ []) → ⊥) → ((h : ℕ) (ds : List DeclTree) → ReadsUnit h (front ++ rest) ds → ⊥)
    → IsUnexpected (front ++ rest) (length front)
unexpected_at front rest begin refuses none = record {
  within = omega (arith, length-append front rest);
  before = subst BeginsLowUnit (sym (take_at front rest (length front) refl)) begin;
  not_with = not_with rest refuses;
  none = none;
}
  where
    not_with : (rest : List Terminal) → ((t : Terminal) (us : List Terminal) → rest ≡ t ∷ us → BeginsUnit (front ++ t ∷ []) → ⊥) → length front < length (front ++ rest) → BeginsUnit (take (suc (length front)) (front ++ rest)) → ⊥
    not_with [] refuses lt b = omega (arith, length-append front [])
    not_with (t ∷ us) refuses lt b = refuses t us refl (subst BeginsUnit (one_more front t us) b)

-- the token at which `left` are left is unexpected
pub is_unexpected : (ts : List Terminal) (left number : ℕ) → list_all is_well_formed ts ≡ true → unit 126 ts ≡ Err (Unexpected left) → number + left ≡ length ts → IsUnexpected ts number
is_unexpected ts left number formed e counts =
    let p : Before ts left = unexpected_place left ts formed e in
    let same : number ≡ length p.front = omega (arith, counts, ap length p.split, length-append p.front p.rest, p.are) in
    let there : IsUnexpected (p.front ++ p.rest) (length p.front) = unexpected_at p.front p.rest p.begin p.not_with (λ h ds r. no_unit_at_all 126 left ts e h ds (subst (λ l. ReadsUnit h l ds) (sym p.split) r)) in
    subst (IsUnexpected ts) (sym same) (subst (λ l. IsUnexpected l (length p.front)) (sym p.split) there)

deep_at : (front : List Terminal) (t : Terminal) (rest : List Terminal) → BeginsLowUnit front → BeginsUnit (front ++ t ∷ []) → ((us : List Terminal) (h : ℕ) (ds : List DeclTree) → h ≤ 128 → ReadsUnit h ((front ++ t ∷ []) ++ us) ds → ⊥) → IsTooDeep (front ++ t ∷ rest) (length front)
deep_at front t rest before begin none = record {
  within = omega (arith, length-append front (t ∷ rest));
  before = subst BeginsLowUnit (sym (take_at front (t ∷ rest) (length front) refl)) before;
  with = subst BeginsUnit (sym (one_more front t rest)) begin;
  none = λ b. none b.rest b.height b.ds b.low (subst (λ l. ReadsUnit b.height (l ++ b.rest) b.ds) (one_more front t rest) b.reads);
}

-- the token at which `left` are left is too deep
pub is_too_deep : (ts : List Terminal) (left number : ℕ) → list_all is_well_formed ts ≡ true → unit 126 ts ≡ Err (Deep left) → number + left ≡ length ts → IsTooDeep ts number
is_too_deep ts left number formed e counts =
    let p : UpTo ts left = deep_place left ts formed e in
    let same : number ≡ length p.front = omega (arith, counts, ap length p.split, length-append p.front (p.at ∷ p.rest), p.are) in
    subst (IsTooDeep ts) (sym same) (subst (λ l. IsTooDeep l (length p.front)) (sym p.split) (deep_at p.front p.at p.rest p.before p.begin p.none))

-- ---- what is refused has no reading that is low enough

take-drop : (n : ℕ) (ts : List Terminal) → take n ts ++ drop n ts ≡ ts
take-drop zero ts = refl
take-drop (suc n) [] = refl
take-drop (suc n) (t ∷ ts) = ap (λ l. t ∷ l) (take-drop n ts)

pub unexpected_none : (ts : List Terminal) (number : ℕ) → IsUnexpected ts number → HasNoReading ts
unexpected_none ts number is height ds r low = is.none height ds r

pub too_deep_none : (ts : List Terminal) (number : ℕ) → IsTooDeep ts number → HasNoReading ts
too_deep_none ts number is height ds r low = is.none (record { rest = drop (suc number) ts; height = height; ds = ds; reads = subst (λ l. ReadsUnit height l ds) (sym (take-drop (suc number) ts)) r; low = low })

-- ---- there is one fault

-- a shorter front of the tokens is a front of a longer one
shorter : (m n : ℕ) (ts : List Terminal) → m ≤ n → (rest : List Terminal) × (take n ts ≡ take m ts ++ rest)
shorter zero n ts le = (take n ts, refl)
shorter (suc m) zero ts le = absurd (omega (arith, le))
shorter (suc m) (suc n) [] le = ([], refl)
shorter (suc m) (suc n) (t ∷ ts) le = let s = shorter m n ts (omega (arith, le)) in (s.0, ap (λ l. t ∷ l) s.1)

begins_before : (m n : ℕ) (ts : List Terminal) → m ≤ n → BeginsUnit (take n ts) → BeginsUnit (take m ts)
begins_before m n ts le b = let s = shorter m n ts le in front_begins (take m ts) s.0 (subst BeginsUnit s.1 b)

begins_low_before : (m n : ℕ) (ts : List Terminal) → m ≤ n → BeginsLowUnit (take n ts) → BeginsLowUnit (take m ts)
begins_low_before m n ts le b = let s = shorter m n ts le in front_begins_low (take m ts) s.0 (subst BeginsLowUnit s.1 b)

no_later_unexpected : (ts : List Terminal) (m n : ℕ) → IsUnexpected ts m → IsUnexpected ts n → m < n → ⊥
no_later_unexpected ts m n a b lt = let within : n ≤ length ts = b.within in a.not_with (omega arith) (begins_before (suc m) n ts (omega arith) (low_begins (take n ts) b.before))

no_later_deep : (ts : List Terminal) (m n : ℕ) → IsTooDeep ts m → IsTooDeep ts n → m < n → ⊥
no_later_deep ts m n a b lt = a.none (begins_low_before (suc m) n ts (omega arith) b.before)

not_both : (ts : List Terminal) (m n : ℕ) → IsUnexpected ts m → IsTooDeep ts n → ⊥
not_both ts m n a b =
    let within : n < length ts = b.within in
    elim (cases_lt n m) [ inl lt ↦ b.none (begins_low_before (suc n) m ts (omega arith) a.before) | inr le ↦ a.not_with (omega arith) (begins_before (suc m) (suc n) ts (omega arith) b.with) ]

same_number : (m n : ℕ) → (m < n → ⊥) → (n < m → ⊥) → m ≡ n
same_number m n less more = elim (cases_order m n) [ inl e ↦ e | inr (inl lt) ↦ absurd (less lt) | inr (inr lt) ↦ absurd (more lt) ]

pub faults_are_unique : (ts : List Terminal) (fault other : SyntaxFault) → HasFault ts fault → HasFault ts other → fault ≢ faults.NoMemory → other ≢ faults.NoMemory → fault ≡ other
faults_are_unique ts faults.NoMemory other a b memory found = absurd (memory refl)
faults_are_unique ts (faults.Unexpected m) faults.NoMemory a b memory found = absurd (found refl)
faults_are_unique ts (faults.Unexpected m) (faults.Unexpected n) a b memory found = ap faults.Unexpected (same_number m n (no_later_unexpected ts m n a b) (no_later_unexpected ts n m b a))
faults_are_unique ts (faults.Unexpected m) (faults.TooDeep n) a b memory found = absurd (not_both ts m n a b)
faults_are_unique ts (faults.TooDeep m) faults.NoMemory a b memory found = absurd (found refl)
faults_are_unique ts (faults.TooDeep m) (faults.Unexpected n) a b memory found = absurd (not_both ts n m b a)
faults_are_unique ts (faults.TooDeep m) (faults.TooDeep n) a b memory found = ap faults.TooDeep (same_number m n (no_later_deep ts m n a b) (no_later_deep ts n m b a))

-- ---- one answer is right

pub has_none : (ts : List Terminal) (fault : SyntaxFault) → fault ≢ faults.NoMemory → HasFault ts fault → HasNoReading ts
has_none ts faults.NoMemory memory has = absurd (memory refl)
has_none ts (faults.Unexpected number) memory has = unexpected_none ts number has
has_none ts (faults.TooDeep number) memory has = too_deep_none ts number has

no_reading : (ts : List Terminal) (ds : List DeclTree) (fault : SyntaxFault) → fault ≢ faults.NoMemory → HasFault ts fault → ReadsAs ts ds → ⊥
no_reading ts ds fault memory has r = has_none ts fault memory has r.height r.unnumbered r.reads r.low

one_tree : (ts : List Terminal) (ds es : List DeclTree) → ReadsAs ts ds → ReadsAs ts es → ds ≡ es
one_tree ts ds es a b = a.are_numbered ∙ ap numbered_unit (one_reading ts a.unnumbered b.unnumbered a.height b.height a.reads b.reads).0 ∙ sym b.are_numbered

pub decided : (ts : List Terminal) (result : Result unit_type.Unit SyntaxFault) → Answers ts result → IsDecision ts result
decided ts (Ok u) reads found = record {
  unit = λ ds. (λ e. subst (ReadsAs ts) e reads, λ other. one_tree ts (unit_tree u) ds reads other);
  fault = λ fault memory. (λ e. absurd cc, λ has. absurd (no_reading ts (unit_tree u) fault memory has reads));
}
decided ts (Err told) has found =
    let memory : told ≢ faults.NoMemory = λ e. found (ap Err e) in
    record {
      unit = λ ds. (λ e. absurd e, λ reads. absurd (no_reading ts ds told memory has reads));
      fault = λ fault other. (λ e. let same : told ≡ fault = cc in subst (HasFault ts) same has, λ also. ap Err (faults_are_unique ts told fault has also memory other));
    }

-- ---- the lexer knows no names of types

no_mark : (at : ℕ) (bytes : List ℕ) (kind : TokenKind) → mark [] (terminal_of at bytes kind) ≡ terminal_of at bytes kind
no_mark at bytes kinds.Name = refl
no_mark at bytes (kinds.Keyword keyword) = refl
no_mark at bytes (kinds.Number value unsigned) = refl
no_mark at bytes (kinds.Character value) = refl
no_mark at bytes kinds.Text = refl
no_mark at bytes (kinds.Punctuator punctuator) = refl

pub no_marks : (text : List ℕ) (at : ℕ) (tokens : List Token) → marked [] (terminals text at tokens) ≡ terminals text at tokens
no_marks text at [] = refl
no_marks text at (t ∷ ts) = λ i. no_mark at (spelling text t) t.kind i ∷ no_marks text (at + 1) ts i
