-- What is put one behind the other is a list.
use Rattle.std.proofs.Common.{◌≡◌, List, ℕ, pos, [], ◌∷◌, ◌++◌, Result, Ok, Err, append_assoc, append-nil, ap, ◌∙◌, subst}
use Rattle.std.specs.Prelude.{OnOk, codes}
use Rattle.qs_entail.specs.Certificates as certificates
use Rattle.qs_entail.specs.Certificates.{FactTree}
use Rattle.qs_sexpr.specs.Marks.{Mark, opens, closes, word, marks}
use Rattle.qs_sexpr.specs.Writing.{Form, number_form, symbol_form}
use Rattle.qs_prooftext_writing.specs.Putting.{fact_begins}
use Rattle.qs_prooftext_meaning.specs.Writing.{Words, combination_form, fact_form, headed, term_form, variable_form}
use Rattle.qs_prooftext_writing.proofs.PutLaws.{before, headed_is}

in_turn : {b c : List Mark} (a xs ys : List Mark) → b ≡ a ++ xs → c ≡ b ++ ys → c ≡ a ++ (xs ++ ys)
in_turn a xs ys p q = q ∙ (ap (λ (ms : List Mark). ms ++ ys) p ∙ append_assoc a xs ys)

-- the same where what is put last may fail
last : {X E : Type 0} (r : Result X E) {b : List Mark} (a c xs ys : List Mark) → b ≡ a ++ xs → OnOk r (c ≡ b ++ ys) → OnOk r (c ≡ a ++ (xs ++ ys))
last (Ok x) a c xs ys p q = in_turn a xs ys p q
last (Err e) a c xs ys p q = tt

-- the same marks otherwise
as_marks : {X E : Type 0} (r : Result X E) (a c : List Mark) {xs ys : List Mark} → xs ≡ ys → OnOk r (c ≡ a ++ xs) → OnOk r (c ≡ a ++ ys)
as_marks r a c e h = subst (λ (ms : List Mark). OnOk r (c ≡ a ++ ms)) e h

-- a list with a head
whole : (w : List ℕ) (fs : List Form) → opens ∷ word w ∷ before fs (closes ∷ []) ≡ marks (headed w fs)
whole w fs = headed_is w fs [] ∙ append-nil (marks (headed w fs))

-- the last part is put with the end of the list
pub one_part : {X E : Type 0} (r : Result X E) (w : List ℕ) (f : Form) (a e : List Mark) {b : List Mark}
    → b ≡ a ++ (opens ∷ word w ∷ []) → OnOk r (e ≡ b ++ (marks f ++ closes ∷ []))
    → OnOk r (e ≡ a ++ marks (headed w (f ∷ [])))
one_part r w f a e p q =
    as_marks r a e (whole w (f ∷ [])) (last r a e (opens ∷ word w ∷ []) (marks f ++ closes ∷ []) p q)

pub two_parts : {X E : Type 0} (r : Result X E) (w : List ℕ) (f g : Form) (a e : List Mark) {b c : List Mark}
    → b ≡ a ++ (opens ∷ word w ∷ []) → c ≡ b ++ marks f → OnOk r (e ≡ c ++ (marks g ++ closes ∷ []))
    → OnOk r (e ≡ a ++ marks (headed w (f ∷ g ∷ [])))
two_parts r w f g a e {b} p q s =
    as_marks r a e (whole w (f ∷ g ∷ []))
    (last r a e (opens ∷ word w ∷ []) (marks f ++ (marks g ++ closes ∷ [])) p (last r b e (marks f) (marks g ++ closes ∷ []) q s))

pub three_parts : {X E : Type 0} (r : Result X E) (w : List ℕ) (f g h : Form) (a e : List Mark) {b c d : List Mark}
    → b ≡ a ++ (opens ∷ word w ∷ []) → c ≡ b ++ marks f → d ≡ c ++ marks g → OnOk r (e ≡ d ++ (marks h ++ closes ∷ []))
    → OnOk r (e ≡ a ++ marks (headed w (f ∷ g ∷ h ∷ [])))
three_parts r w f g h a e {b} {c} p q s t =
    as_marks r a e (whole w (f ∷ g ∷ h ∷ []))
    (last r a e (opens ∷ word w ∷ []) (marks f ++ (marks g ++ (marks h ++ closes ∷ []))) p
    (last r b e (marks f) (marks g ++ (marks h ++ closes ∷ [])) q (last r c e (marks g) (marks h ++ closes ∷ []) s t)))

pub four_parts : {X E : Type 0} (r : Result X E) (w : List ℕ) (f g h k : Form) (a e : List Mark) {b c d i : List Mark}
    → b ≡ a ++ (opens ∷ word w ∷ []) → c ≡ b ++ marks f → d ≡ c ++ marks g → i ≡ d ++ marks h → OnOk r (e ≡ i ++ (marks k ++ closes ∷ []))
    → OnOk r (e ≡ a ++ marks (headed w (f ∷ g ∷ h ∷ k ∷ [])))
four_parts r w f g h k a e {b} {c} {d} p q s t u =
    as_marks r a e (whole w (f ∷ g ∷ h ∷ k ∷ []))
    (last r a e (opens ∷ word w ∷ []) (marks f ++ (marks g ++ (marks h ++ (marks k ++ closes ∷ [])))) p
    (last r b e (marks f) (marks g ++ (marks h ++ (marks k ++ closes ∷ []))) q
    (last r c e (marks g) (marks h ++ (marks k ++ closes ∷ [])) s (last r d e (marks h) (marks k ++ closes ∷ []) t u))))

-- the end of the list is put behind the last part
pub five_parts : {X E : Type 0} (r : Result X E) (w : List ℕ) (f g h k l : Form) (a e : List Mark) {b c d i j m : List Mark}
    → b ≡ a ++ (opens ∷ word w ∷ []) → c ≡ b ++ marks f → d ≡ c ++ marks g → i ≡ d ++ marks h → j ≡ i ++ marks k → m ≡ j ++ marks l
    → OnOk r (e ≡ m ++ (closes ∷ [])) → OnOk r (e ≡ a ++ marks (headed w (f ∷ g ∷ h ∷ k ∷ l ∷ [])))
five_parts r w f g h k l a e {b} {c} {d} {i} {j} p q s t u v x =
    as_marks r a e (whole w (f ∷ g ∷ h ∷ k ∷ l ∷ []))
    (last r a e (opens ∷ word w ∷ []) (marks f ++ (marks g ++ (marks h ++ (marks k ++ (marks l ++ closes ∷ []))))) p
    (last r b e (marks f) (marks g ++ (marks h ++ (marks k ++ (marks l ++ closes ∷ [])))) q
    (last r c e (marks g) (marks h ++ (marks k ++ (marks l ++ closes ∷ []))) s
    (last r d e (marks h) (marks k ++ (marks l ++ closes ∷ [])) t
    (last r i e (marks k) (marks l ++ closes ∷ []) u (last r j e (marks l) (closes ∷ []) v x))))))

-- ---- facts

behind : (w : List ℕ) (fs : List Form) {ms : List Mark} → ms ≡ before fs (closes ∷ []) → opens ∷ word w ∷ ms ≡ marks (headed w fs)
behind w fs e = ap (λ (ms : List Mark). opens ∷ word w ∷ ms) e ∙ whole w fs

three : (xs ys zs ms : List Mark) → (xs ++ (ys ++ zs)) ++ ms ≡ xs ++ (ys ++ (zs ++ ms))
three xs ys zs ms = append_assoc xs (ys ++ zs) ms ∙ ap (λ (t : List Mark). xs ++ t) (append_assoc ys zs ms)

fact_put : (w : Words) (f : FactTree) (c : Form) → fact_begins w f ++ (marks c ++ closes ∷ []) ≡ marks (fact_form w f c)
fact_put w (certificates.range x) c = whole (codes "range") (variable_form w x x.kind ∷ c ∷ [])
fact_put w (certificates.cost_range f) c = whole (codes "range") (headed (codes "cost") (symbol_form (w.functions f) ∷ []) ∷ c ∷ [])
fact_put w (certificates.apart i items) c = whole (codes "apart") (number_form i ∷ combination_form items ∷ c ∷ [])
fact_put w (certificates.num_is t items) c =
    behind (codes "num") (term_form w t ∷ combination_form items ∷ c ∷ []) (append_assoc (marks (term_form w t)) (marks (combination_form items)) (marks c ++ closes ∷ []))
fact_put w (certificates.num_bounds t) c = whole (codes "pos") (term_form w t ∷ c ∷ [])
fact_put w (certificates.wrapu_is t first second) c =
    behind (codes "wrapu") (term_form w t ∷ combination_form first ∷ combination_form second ∷ c ∷ []) (three (marks (term_form w t)) (marks (combination_form first)) (marks (combination_form second)) (marks c ++ closes ∷ []))
fact_put w (certificates.wraps_is t first second) c =
    behind (codes "wraps") (term_form w t ∷ combination_form first ∷ combination_form second ∷ c ∷ []) (three (marks (term_form w t)) (marks (combination_form first)) (marks (combination_form second)) (marks c ++ closes ∷ []))
fact_put w (certificates.wrapu_bounds t) c = whole (codes "boundu") (term_form w t ∷ c ∷ [])
fact_put w (certificates.wraps_bounds t) c = whole (codes "bounds") (term_form w t ∷ c ∷ [])
fact_put w (certificates.quotient_bounds t k) c =
    behind (codes "div") (term_form w t ∷ number_form (pos k) ∷ c ∷ []) (append_assoc (marks (term_form w t)) (marks (number_form (pos k))) (marks c ++ closes ∷ []))
fact_put w (certificates.bits_bound t) c = whole (codes "bits") (term_form w t ∷ c ∷ [])
fact_put w (certificates.bits_half t items) c =
    behind (codes "half") (term_form w t ∷ combination_form items ∷ c ∷ []) (append_assoc (marks (term_form w t)) (marks (combination_form items)) (marks c ++ closes ∷ []))
fact_put w (certificates.bits_rise t u items) c =
    behind (codes "mono") (term_form w t ∷ term_form w u ∷ combination_form items ∷ c ∷ []) (three (marks (term_form w t)) (marks (term_form w u)) (marks (combination_form items)) (marks c ++ closes ∷ []))

-- the beginning of a fact, the part behind it and the end of the list
pub fact_whole : {X E : Type 0} (r : Result X E) (w : Words) (f : FactTree) (c : Form) (a e : List Mark) {b : List Mark}
    → b ≡ a ++ fact_begins w f → OnOk r (e ≡ b ++ (marks c ++ closes ∷ [])) → OnOk r (e ≡ a ++ marks (fact_form w f c))
fact_whole r w f c a e p q =
    as_marks r a e (fact_put w f c) (last r a e (fact_begins w f) (marks c ++ closes ∷ []) p q)
