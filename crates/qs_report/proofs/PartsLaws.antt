-- Texts that are put part by part.
use Rattle.std.proofs.Common.{◌≡◌, ℕ, ◌+◌, ◌<◌, ◌≤◌, List, [], ◌∷◌, ◌++◌, length, take, drop, get_or, flat_map, codes, ap, sym, ◌∙◌, subst, arith, add-one, Result, Err}
use Rattle.std.proofs.lemmas.Grind.{common_steps, flat_map-append}
use Rattle.std.proofs.lemmas.List.{take-append-drop, append-nil, append_assoc}
use Rattle.std.proofs.Math.Seq.{take-suc}
use Rattle.qs_ports.specs.SinkView.{SinkView, Appends, PutsAll}
use Rattle.qs_ports.specs.declared.sink.SinkFault.{SinkFault}
use Rattle.qs_ports.proofs.Sinks.{then_puts, cut_before}

-- the texts of one part more
next_part : {X : Type 0} (f : X → List ℕ) (xs : List X) (i : ℕ) (x d : X) → x ≡ get_or xs i d → i < length xs → flat_map f (take (i + 1) xs) ≡ flat_map f (take i xs) ++ f x
next_part f xs i x d e h =
    ap (λ n. flat_map f (take n xs)) (add-one i) ∙ ap (flat_map f) (take-suc xs i d h)
    ∙ flat_map-append f (take i xs) (get_or xs i d ∷ [])
    ∙ ap (λ y. flat_map f (take i xs) ++ (f y ++ [])) (sym e)
    ∙ ap (λ y. flat_map f (take i xs) ++ y) (append-nil (f x))

-- a failure within a part is one within the whole
pub part_cut : {X : Type 0} (f : X → List ℕ) (xs : List X) (i : ℕ) (x d : X) (u v w : SinkView) (e r : SinkFault) → x ≡ get_or xs i d → i < length xs → Appends u v (flat_map f (take i xs)) → PutsAll v w (f x) (Err e) → PutsAll u w (flat_map f xs) (Err r)
part_cut f xs i x d u v w e r s h a p =
    let cut : PutsAll u w (flat_map f (take i xs) ++ f x) (Err e) = then_puts w (f x) (Err e) a p in
    let whole : flat_map f xs ≡ (flat_map f (take i xs) ++ f x) ++ flat_map f (drop (i + 1) xs) =
    ap (flat_map f) (sym (take-append-drop (i + 1) xs)) ∙ flat_map-append f (take (i + 1) xs) (drop (i + 1) xs)
    ∙ ap (λ t. t ++ flat_map f (drop (i + 1) xs)) (next_part f xs i x d s h) in
    let P : List ℕ → Type 0 = λ t. PutsAll u w t (Err r) in
    subst P (sym whole) (cut_before u w (flat_map f (take i xs) ++ f x) (flat_map f (drop (i + 1) xs)) e r cut)

-- all parts were put
pub all_put : {X : Type 0} (f : X → List ℕ) (xs : List X) (i : ℕ) (u v : SinkView) → length xs ≤ i → Appends u v (flat_map f (take i xs)) → Appends u v (flat_map f xs)
all_put f xs i u v h a =
    let all : take i xs ≡ xs = grind (arith, common_steps) in
    let P : List ℕ → Type 0 = λ t. Appends u v t in
    subst P (ap (flat_map f) all) a

-- ---- a text behind a file and a name

abbrev head : List ℕ → List ℕ → List ℕ
head file name = file ++ (codes ": " ++ (name ++ codes " "))

head_before : (file name rest : List ℕ) → head file name ++ rest ≡ file ++ (codes ": " ++ (name ++ (codes " " ++ rest)))
head_before file name rest = append_assoc file (codes ": " ++ (name ++ codes " ")) rest ∙ ap (λ t. file ++ (codes ": " ++ t)) (append_assoc name (codes " ") rest)

pub named_put : (file name rest : List ℕ) (u v w : SinkView) (r : Result Unit SinkFault) → Appends u v (head file name) → PutsAll v w rest r → PutsAll u w (file ++ (codes ": " ++ (name ++ (codes " " ++ rest)))) r
named_put file name rest u v w r a p = let P : List ℕ → Type 0 = λ t. PutsAll u w t r in subst P (head_before file name rest) (then_puts w rest r a p)

pub named_cut : (file name rest : List ℕ) (u w : SinkView) (e r : SinkFault) → PutsAll u w (head file name) (Err e) → PutsAll u w (file ++ (codes ": " ++ (name ++ (codes " " ++ rest)))) (Err r)
named_cut file name rest u w e r p = let P : List ℕ → Type 0 = λ t. PutsAll u w t (Err r) in subst P (head_before file name rest) (cut_before u w (head file name) rest e r p)
