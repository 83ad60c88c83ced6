-- A text is one list of lines or has one first bad byte, and an answer of the scan says which.
use Rattle.std.proofs.Common.{◌≡◌, ◌⊎◌, inl, inr, ℕ, zero, suc, ◌+◌, ◌<◌, ◌≤◌, List, [], ◌∷◌, ◌++◌, length, take, drop, map, Result, Ok, Err, refl, sym, ap, ◌∙◌, subst, arith, append_assoc, length-append, Vec}
use Rattle.std.proofs.Math.Seq.{take-append_seam}
use Rattle.std.proofs.lemmas.Bool.{cases_lt}
use Rattle.std.specs.declared.alloc.Global.{Global}
use Rattle.qs_link_list.specs.Lines.{Line, line_of}
use Rattle.qs_link_list.specs.Lists.{IsList, BeginsList, IsBadAt}
use Rattle.qs_link_list.specs.Reading.{Progress, start, scanned, scanned_from, scanned_on, behind, finished, or_at}
use Rattle.qs_link_list.specs.Results.{Says, SaysFault, GivesLines, GivesFault, Gives}
use Rattle.qs_link_list.specs.declared.entry.Entry.{Entry}
use Rattle.qs_link_list.specs.declared.fault.ListFault.{ListFault}
use Rattle.qs_link_list.specs.declared.fault.ListFault.TheVariants.{NoMemory, BadByte}
use Rattle.qs_link_list.proofs.LineLaws.{append_nil, read_text}
use Rattle.qs_link_list.proofs.ScanLaws.{Stop, FailsAt, stops, start_good, begins, list_is_scanned, scanned_is_list}

-- ---- fronts

front_of_front : (xs : List ℕ) (n m : ℕ) → n ≤ m → take n (take m xs) ≡ take n xs
front_of_front xs zero m h = refl
front_of_front xs (suc n) zero h = absurd (omega arith)
front_of_front [] (suc n) (suc m) h = refl
front_of_front (x ∷ xs) (suc n) (suc m) h = ap (λ ys. x ∷ ys) (front_of_front xs n m (omega arith))

parts : (xs : List ℕ) (n : ℕ) → take n xs ++ drop n xs ≡ xs
parts xs zero = refl
parts [] (suc n) = refl
parts (x ∷ xs) (suc n) = ap (λ ys. x ∷ ys) (parts xs n)

-- what begins a list, begins one from its front on
front_begins : (xs : List ℕ) (n : ℕ) → BeginsList xs → BeginsList (take n xs)
front_begins xs n b =
    let e : take n xs ++ (drop n xs ++ b.rest) ≡ xs ++ b.rest = sym (append_assoc (take n xs) (drop n xs) b.rest) ∙ ap (λ ys. ys ++ b.rest) (parts xs n) in
    let P : List ℕ → Type 0 = λ ys. IsList ys b.lines in
    record { rest = drop n xs ++ b.rest; lines = b.lines; is = subst P (sym e) b.is }

-- ---- the place of a fault

fails_there : (at : ℕ) (reached : Progress) (byte : ℕ) (rest : List ℕ) → FailsAt reached (byte ∷ rest) → (more : List ℕ) → scanned_from at reached (byte ∷ more) ≡ Err at
fails_there at reached byte rest h more = ap (λ o. scanned_on at o more) h

next_byte : (front : List ℕ) (byte : ℕ) (rest : List ℕ) → take (suc (length front)) (front ++ byte ∷ rest) ≡ front ++ byte ∷ []
next_byte [] byte rest = refl
next_byte (x ∷ xs) byte rest = ap (λ ys. x ∷ ys) (next_byte xs byte rest)

none_begins : (text : List ℕ) (at : ℕ) (s : Stop 0 start text at) (back : List ℕ) → s.back ≡ back → at < length text → BeginsList (take (suc at) text) → ⊥
none_begins text at s [] e l b =
    let whole : text ≡ s.front = s.split ∙ (ap (λ ys. s.front ++ ys) e ∙ append_nil s.front) in
    let p = s.place in
    let n : length text ≡ length s.front = ap length whole in
    absurd (omega arith)
none_begins text at s (byte ∷ rest) e l b =
    let whole : text ≡ s.front ++ byte ∷ rest = s.split ∙ ap (λ ys. s.front ++ ys) e in
    let p = s.place in
    let n : at ≡ length s.front = omega arith in
    let front : take (suc at) text ≡ s.front ++ byte ∷ [] = ap (λ ys. take (suc at) ys) whole ∙ (ap (λ k. take (suc k) (s.front ++ byte ∷ rest)) n ∙ next_byte s.front byte rest) in
    let again : take (suc at) text ++ b.rest ≡ s.front ++ (byte ∷ b.rest) = ap (λ ys. ys ++ b.rest) front ∙ append_assoc s.front (byte ∷ []) b.rest in
    let yes : scanned (take (suc at) text ++ b.rest) ≡ Ok b.lines = list_is_scanned (take (suc at) text ++ b.rest) b.lines b.is in
    let P : List ℕ → Type 0 = FailsAt s.reached in
    let no : scanned (s.front ++ (byte ∷ b.rest)) ≡ Err at = s.leads (byte ∷ b.rest) ∙ fails_there at s.reached byte rest (subst P e s.fails) b.rest in
    let both : Ok b.lines ≡ Err at = sym yes ∙ (ap (λ ys. scanned ys) again ∙ no) in
    cc

bad_at : (text : List ℕ) (at : ℕ) → scanned text ≡ Err at → IsBadAt text at
bad_at text at h =
    let s : Stop 0 start text at = stops text 0 at start start_good h in
    let p = s.place in
    let n : at ≡ length s.front = omega arith in
    let e : take at text ≡ s.front = ap (λ k. take k text) n ∙ (ap (λ ys. take (length s.front) ys) s.split ∙ take-append_seam s.front s.back) in
    let whole : length text ≡ length s.front + length s.back = ap length s.split ∙ length-append s.front s.back in
    let P : List ℕ → Type 0 = BeginsList in
    record {
      within = omega arith;
      before = subst P (s.text ∙ sym e) (begins s.reached.lines s.reached.place s.good);
      not_with = λ l b. none_begins text at s s.back refl l b;
      none = λ lines is. let both : Ok lines ≡ Err at = sym (list_is_scanned text lines is) ∙ h in cc;
    }

earlier : (text : List ℕ) (a b : ℕ) → a < b → IsBadAt text a → IsBadAt text b → ⊥
earlier text a b l x y =
    let w = y.within in
    let P : List ℕ → Type 0 = BeginsList in
    x.not_with (omega arith) (subst P (front_of_front text (suc a) b (omega arith)) (front_begins (take b text) (suc a) y.before))

one_place : (text : List ℕ) (a b : ℕ) → IsBadAt text a → IsBadAt text b → a ≡ b
one_place text a b x y = by (cases_lt a b) (cases_lt b a)
  where
    by : (a < b) ⊎ (b ≤ a) → (b < a) ⊎ (a ≤ b) → a ≡ b
    by (inl l) k = absurd (earlier text a b l x y)
    by (inr l) (inl k) = absurd (earlier text b a k y x)
    by (inr l) (inr k) = omega arith

-- ---- answers

pub says : (text : List ℕ) (result : Result (Vec Entry Global) ListFault) → Gives (scanned text) result → Says text result
says text (Ok entries) g = scanned_is_list text (map line_of entries.items) g
says text (Err NoMemory) g = tt
says text (Err (BadByte at)) g = bad_at text at g

pub only_lines : (text : List ℕ) (result : Result (Vec Entry Global) ListFault) → Gives (scanned text) result → (lines : List Line) → IsList text lines → GivesLines lines result
only_lines text (Ok entries) g lines is = let both : Ok (map line_of entries.items) ≡ Ok lines = sym g ∙ list_is_scanned text lines is in cc
only_lines text (Err NoMemory) g lines is = refl
only_lines text (Err (BadByte at)) g lines is = let both : Ok lines ≡ Err at = sym (list_is_scanned text lines is) ∙ g in cc

pub only_fault : (text : List ℕ) (result : Result (Vec Entry Global) ListFault) → Gives (scanned text) result → (at : ℕ) → IsBadAt text at → GivesFault at result
only_fault text (Ok entries) g at bad = bad.none (map line_of entries.items) (scanned_is_list text (map line_of entries.items) g)
only_fault text (Err NoMemory) g at bad = inr refl
only_fault text (Err (BadByte other)) g at bad = inl (ap (λ n. BadByte n) (one_place text other at (bad_at text other g) bad))

pub ruleset answer_laws = (says, only_lines, only_fault)
