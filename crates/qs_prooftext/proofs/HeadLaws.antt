-- A walk over lists whose heads are read one after another.
use Rattle.std.proofs.Common.{arith, ◌≡◌, ◌≤◌, ◌⊎◌, inl, inr, ℕ, zero, suc, ◌<◌, ◌+◌, ◌-◌, List, [], ◌∷◌, ◌++◌, length, drop, Result, Ok, Err, refl, sym, ap, ◌∙◌, subst, length-append}
use Rattle.std.proofs.lemmas.List.{append-nil}
use Rattle.std.specs.Borrow.{Bor}
use Rattle.std.specs.Result.{IsErr, IsErrAnd}
use Rattle.qs_base.specs.Results.{bind}
use Rattle.qs_assert.specs.Reading.{others}
use Rattle.qs_assert.specs.Stacks.{first_or}
use Rattle.qs_sexpr.specs.Trees.{Sexp, symbol, list, Sexps, no_parts, part_and, count, sexp_nodes, sexps_nodes}
use Rattle.qs_sexpr.specs.Parts.{Splits}
use Rattle.qs_sexpr.specs.declared.node.Node.{Node}
use Rattle.qs_prooftext_meaning.specs.declared.fault.TextFault.{TextFault}
use Rattle.qs_prooftext_meaning.specs.declared.fault.TextFault.TheVariants.{NoMemory}
use Rattle.qs_prooftext.specs.declared.lists.Headed.{Headed}
use Rattle.qs_prooftext_assertions.specs.Answers.{Stands, StandAll, IsList, IsHeaded}
use Rattle.qs_prooftext_assertions.specs.Firsts.{first_means, tail, tails}
use Rattle.qs_prooftext.specs.HeadWalks.{FirstIs, GivesHead, HasHead, HeadsGo, HeadsLeft, headed_list}
use Rattle.qs_prooftext_meaning.specs.Kinds.{Kind, Of}
use Rattle.qs_prooftext_meaning.specs.Meanings.{Answer, means, all_mean}
use Rattle.qs_prooftext.specs.Planting.{Shape, behind, firsts, grown, plants}
use Rattle.qs_prooftext_meaning.specs.Settings.{Setting}
use Rattle.qs_prooftext_assertions.specs.Walking.{nodes_in}
use Rattle.qs_prooftext_assertions.proofs.AssertionLaws.{behind_is, lists_lie, onto_nodes}
use Rattle.qs_prooftext_assertions.proofs.FlatLaws.{all_count, onto}
use Rattle.qs_prooftext_assertions.proofs.PartLaws.{first_stands, no_split, some_nodes}
use Rattle.qs_prooftext.proofs.PlantLaws.{plants-append}

-- ---- the first list

-- a list with a head comes first
first_headed : (text : List ℕ) (s : Sexp) (ss : Sexps) (at n : ℕ) (nodes : List Node) (w : List ℕ) (others : List Node) (h : Headed) (p : IsList text s at n nodes) (k : IsHeaded text p.parts w others) → h.at ≡ at → h.word.now ≡ w → h.behind ≡ n - 1 → h.parts.now ≡ others → FirstIs text (part_and s ss) h
first_headed text s ss at n nodes w others h p k a b c d = record {
  place = k.place;
  parts = k.parts;
  others = ss;
  same = ap (λ (x : Sexp). part_and x ss) (p.same ∙ (ap (λ (xs : Sexps). list at xs) k.same ∙ (λ i. list (sym a i) (part_and (symbol k.place (sym b i)) k.parts))));
  whole = record {
    counts = behind_is h.behind n k.parts c (p.counts ∙ ap count k.same);
    stand = record { nodes_are = d ∙ k.stand.nodes_are; lie = k.stand.lie };
  };
}

pub first_is_headed : (text : List ℕ) (rest first others : List Node) (ss : Sexps) (at n : ℕ) (nodes : List Node) (w : List ℕ) (inner : List Node) (h : Headed) → StandAll text rest ss → Splits rest first others → ((s : Sexp) → Stands text first s → IsList text s at n nodes) → ((ps : Sexps) → StandAll text nodes ps → IsHeaded text ps w inner) → h.at ≡ at → h.word.now ≡ w → h.behind ≡ n - 1 → h.parts.now ≡ inner → FirstIs text ss h
first_is_headed text rest first others no_parts at n nodes w inner h k p f e a b c d = no_split text rest first others k p
first_is_headed text rest first others (part_and s ss) at n nodes w inner h k p f e a b c d =
    let q = f s (first_stands text rest s ss first others k p) in
    first_headed text s ss at n nodes w inner h q (e q.parts q.stand) a b c d

-- ---- parts one after another

bind_done : {A : Type 0} (a : Answer A) → bind a (λ x. Ok x) ≡ a
bind_done (Err f) = refl
bind_done (Ok x) = refl

next_join : {A : Type 0} (x : Answer A) (y z : Answer (List A)) → bind x (λ v. bind (bind y (λ vs. bind z (λ ws. Ok (vs ++ ws)))) (λ vs. Ok (v ∷ vs))) ≡ bind (bind x (λ v. bind y (λ vs. Ok (v ∷ vs)))) (λ vs. bind z (λ ws. Ok (vs ++ ws)))
next_join (Err f) y z = refl
next_join (Ok v) (Err f) z = refl
next_join (Ok v) (Ok vs) (Err f) = refl
next_join (Ok v) (Ok vs) (Ok ws) = refl

all-onto : (g : Setting) (k : Kind) (ss others : Sexps) → all_mean g k (onto ss others) ≡ bind (all_mean g k ss) (λ vs. bind (all_mean g k others) (λ ws. Ok (vs ++ ws)))
all-onto g k no_parts others = sym (bind_done (all_mean g k others))
all-onto g k (part_and s ss) others =
    ap (λ (y : Answer (List (Of k))). bind (means g k s) (λ v. bind y (λ vs. Ok (v ∷ vs)))) (all-onto g k ss others) ∙ next_join (means g k s) (all_mean g k ss) (all_mean g k others)

all_as_many : (g : Setting) (k : Kind) (ss : Sexps) (vs : List (Of k)) (n : ℕ) → n ≡ count ss → all_mean g k ss ≡ Ok vs → length vs ≡ n
all_as_many g k ss vs n e h = all_count g k ss vs h ∙ sym e

tails-suc : (n : ℕ) (ss : Sexps) → tails (suc n) ss ≡ tail (tails n ss)
tails-suc zero ss = refl
tails-suc (suc n) ss = tails-suc n (tail ss)

pub tails_more : (text : List ℕ) (nodes : List Node) (n : ℕ) (ss : Sexps) → StandAll text nodes (tail (tails n ss)) → StandAll text nodes (tails (n + 1) ss)
tails_more text nodes n ss h =
    let e : n + 1 ≡ suc n = omega arith in
    subst (λ (xs : Sexps). StandAll text nodes xs) (sym (ap (λ (m : ℕ). tails m ss) e ∙ tails-suc n ss)) h

tails-onto : (n : ℕ) (ss others : Sexps) → n ≤ count ss → tails n (onto ss others) ≡ onto (tails n ss) others
tails-onto zero ss others h = refl
tails-onto (suc n) no_parts others h = absurd (omega (arith, h))
tails-onto (suc n) (part_and s ss) others h = tails-onto n ss others (omega (arith, h))

tails-count : (n : ℕ) (ss : Sexps) → n ≤ count ss → n + count (tails n ss) ≡ count ss
tails-count zero ss h = omega arith
tails-count (suc n) no_parts h = absurd (omega (arith, h))
tails-count (suc n) (part_and s ss) h = let e = tails-count n ss (omega (arith, h)) in omega (arith, e)

-- ---- trees from their heads

-- a head takes no more parts than it has
abbrev pub TakesItsOwn : {H A : Type 0} → Shape H A → Type 0
TakesItsOwn {H = H} {A = A} s = (h : H) (xs ys : List A) → length xs ≡ s.arity h → s.planted h (xs ++ ys) ≡ s.planted h xs

behind-append : {A : Type 0} (n : ℕ) (xs ys : List A) → length xs ≡ n → behind n (xs ++ ys) ≡ ys
behind-append zero [] ys e = refl
behind-append zero (x ∷ xs) ys e = absurd (omega (arith, e))
behind-append (suc n) [] ys e = absurd (omega (arith, e))
behind-append (suc n) (x ∷ xs) ys e = behind-append n xs ys (omega (arith, e))

firsts_all : {A : Type 0} (blank : A) (n : ℕ) (xs ys : List A) → length xs ≡ n → firsts blank n (xs ++ ys) ≡ xs
firsts_all blank zero [] ys e = refl
firsts_all blank zero (x ∷ xs) ys e = absurd (omega (arith, e))
firsts_all blank (suc n) [] ys e = absurd (omega (arith, e))
firsts_all {A = A} blank (suc n) (x ∷ xs) ys e = ap (λ (zs : List A). x ∷ zs) (firsts_all blank n xs ys (omega (arith, e)))

pub firsts_same : {A : Type 0} (blank : A) (n : ℕ) (xs : List A) → length xs ≡ n → firsts blank n xs ≡ xs
firsts_same {A = A} blank n xs e = ap (λ (zs : List A). firsts blank n zs) (sym (append-nil xs)) ∙ firsts_all blank n xs [] e

-- a tree that is made of so many takes no more
pub own_one : {A B : Type 0} (blank : A) (f : A → B) (xs ys : List A) → length xs ≡ 1 → f (first_or blank (xs ++ ys)) ≡ f (first_or blank xs)
own_one blank f [] ys e = absurd (omega (arith, e))
own_one blank f (x ∷ xs) ys e = refl

pub own_two : {A B : Type 0} (blank : A) (f : A → A → B) (xs ys : List A) → length xs ≡ 2 → f (first_or blank (xs ++ ys)) (first_or blank (others (xs ++ ys))) ≡ f (first_or blank xs) (first_or blank (others xs))
own_two blank f [] ys e = absurd (omega (arith, e))
own_two blank f (x ∷ []) ys e = absurd (omega (arith, e))
own_two blank f (x ∷ z ∷ xs) ys e = refl

pub own_all : {A B : Type 0} (blank : A) (f : List A → B) (n : ℕ) (xs ys : List A) → length xs ≡ n → f (firsts blank n (xs ++ ys)) ≡ f (firsts blank n xs)
own_all blank f n xs ys e = ap f (firsts_all blank n xs ys e ∙ sym (firsts_same blank n xs e))

one_planted : {H A : Type 0} (s : Shape H A) → TakesItsOwn s → (hs : List H) (h : H) (a b : Answer (List A)) → ((xs : List A) → a ≡ Ok xs → length xs ≡ s.arity h) → bind (bind (bind a (λ vs. Ok (s.planted h vs))) (λ v. bind b (λ vs. Ok (v ∷ vs)))) (λ vs. Ok (grown s hs vs)) ≡ bind (bind a (λ xs. bind b (λ ys. Ok (xs ++ ys)))) (λ vs. Ok (grown s (hs ++ h ∷ []) vs))
one_planted s own hs h (Err f) b l = refl
one_planted s own hs h (Ok xs) (Err f) l = refl
one_planted {A = A} s own hs h (Ok xs) (Ok ys) l =
    let e : length xs ≡ s.arity h = l xs refl in
    ap (λ (zs : List A). Ok (first_or s.blank zs)) (sym (plants-append s hs h (xs ++ ys) ∙ (λ i. plants s hs (own h xs ys e i ∷ behind-append (s.arity h) xs ys e i))))

-- ---- steps

behind_stands : (text : List ℕ) (rest : List Node) (ss : Sexps) (h : Headed) (f : FirstIs text ss h) → StandAll text rest ss → StandAll text (drop 2 rest) (onto f.parts f.others)
behind_stands text rest ss h f s =
    let k : StandAll text rest (part_and (headed_list h f.place f.parts) f.others) = subst (λ (xs : Sexps). StandAll text rest xs) f.same s in
    record {
      nodes_are = ap (λ (xs : List Node). drop 2 xs) k.nodes_are ∙ sym (onto_nodes f.parts f.others);
      lie = lists_lie text f.parts f.others k.lie.0.1.1 k.lie.1;
    }

-- a head and the parts that come first are read
pub head_goes : {H : Type 0} (k : Kind) (s : Shape H (Of k)) → TakesItsOwn s → (g : Setting) (text : List ℕ) (rest left : List Node) (heads heads_now : List H) (due : Answer (Of k)) (h : Headed) (head : H) (leaves : ℕ) (r : HeadsLeft k s g text rest heads due) (f : FirstIs text r.forest h) → HasHead k s g (means g k (headed_list h f.place f.parts)) f.parts head leaves → ((ss : Sexps) → StandAll text (drop 2 rest) ss → StandAll text left (tails leaves ss)) → heads_now ≡ heads ++ head ∷ [] → HeadsLeft k s g text left heads_now due
head_goes {H = H} k s own g text rest left heads heads_now due h head leaves r f i b e =
    let fit : leaves + s.arity head ≡ count f.parts = i.fits in
    let few : leaves ≤ count f.parts = omega (arith, fit) in
    let whole = tails-count leaves f.parts few in
    let many : s.arity head ≡ count (tails leaves f.parts) = omega (arith, fit, whole) in
    let inner : Answer (List (Of k)) = all_mean g k (tails leaves f.parts) in
    let outer : Answer (List (Of k)) = all_mean g k f.others in
    record {
      forest = onto (tails leaves f.parts) f.others;
      stand = subst (λ (ss : Sexps). StandAll text left ss) (tails-onto leaves f.parts f.others few) (b (onto f.parts f.others) (behind_stands text rest r.forest h f r.stand));
      same = (λ j. bind (all-onto g k (tails leaves f.parts) f.others j) (λ vs. Ok (grown s (e j) vs))) ∙ (sym (one_planted s own heads head inner outer (λ xs a. all_as_many g k (tails leaves f.parts) xs (s.arity head) many a)) ∙ ((λ j. bind (bind (sym i.same j) (λ v. bind outer (λ vs. Ok (v ∷ vs)))) (λ vs. Ok (grown s heads vs))) ∙ ((λ j. bind (all_mean g k (sym f.same j)) (λ vs. Ok (grown s heads vs))) ∙ r.same)));
    }

fails_in : {H : Type 0} (k : Kind) (s : Shape H (Of k)) (g : Setting) (rest : List Node) (heads : List H) (due : Answer (Of k)) (fault : TextFault) (forest : Sexps) → rest ≡ sexps_nodes forest → 0 < length rest → bind (all_mean g k forest) (λ vs. Ok (grown s heads vs)) ≡ due → first_means g k forest ≡ Err fault → due ≡ Err fault
fails_in k s g rest heads due fault no_parts n l e f =
    absurd (let m = ap (λ (xs : List Node). length xs) n in omega (arith, m, l))
fails_in k s g rest heads due fault (part_and t ts) n l e f =
    sym e ∙ (λ i. bind (bind (f i) (λ v. bind (all_mean g k ts) (λ vs. Ok (v ∷ vs)))) (λ vs. Ok (grown s heads vs)))

-- the first is not of the kind
pub first_stops : {H : Type 0} (k : Kind) (s : Shape H (Of k)) (g : Setting) (text : List ℕ) (rest : List Node) (heads : List H) (due : Answer (Of k)) (fault : TextFault) (r : HeadsLeft k s g text rest heads due) → 0 < length rest → first_means g k r.forest ≡ Err fault → due ≡ Err fault
first_stops k s g text rest heads due fault r l f = fails_in k s g rest heads due fault r.forest r.stand.nodes_are l r.same f

pub head_stops : {H : Type 0} (k : Kind) (s : Shape H (Of k)) (g : Setting) (text : List ℕ) (rest : List Node) (heads : List H) (due : Answer (Of k)) (fault : TextFault) (h : Headed) (r : HeadsLeft k s g text rest heads due) (f : FirstIs text r.forest h) → 0 < length rest → (means g k (headed_list h f.place f.parts) ≡ Err fault) ⊎ (fault ≡ NoMemory) → (due ≡ Err fault) ⊎ (fault ≡ NoMemory)
head_stops k s g text rest heads due fault h r f l (inl e) = inl (first_stops k s g text rest heads due fault r l (ap (first_means g k) f.same ∙ e))
head_stops k s g text rest heads due fault h r f l (inr e) = inr e

pub head_passed : {H T : Type 0} (k : Kind) (s : Shape H (Of k)) (view : T → H) (g : Setting) (due : Answer (Of k)) (parts : Sexps) (r : Result (T × ℕ) TextFault) (fault : TextFault) → IsErr r × IsErrAnd r (λ e. e ≡ fault) → (due ≡ Err fault) ⊎ (fault ≡ NoMemory) → GivesHead k s view g due parts r
head_passed k s view g due parts (Ok x) fault h e = absurd (h.1)
head_passed k s view g due parts (Err f) fault h e =
    let P : TextFault → Type 0 = λ x. (due ≡ Err x) ⊎ (x ≡ NoMemory) in subst P (sym h.1) e

pub gives_as : {H T : Type 0} (k : Kind) (s : Shape H (Of k)) (view : T → H) (g : Setting) (a b : Answer (Of k)) (parts : Sexps) (r : Result (T × ℕ) TextFault) → a ≡ b → GivesHead k s view g b parts r → GivesHead k s view g a parts r
gives_as k s view g a b parts r e h =
    let P : Answer (Of k) → Type 0 = λ x. GivesHead k s view g x parts r in subst P (sym e) h

pub passed_on : {H : Type 0} (k : Kind) (s : Shape H (Of k)) (g : Setting) (text : List ℕ) (r : Result (Bor (List Node)) TextFault) (fault : TextFault) (heads : List H) (due : Answer (Of k)) → IsErr r × IsErrAnd r (λ e. e ≡ fault) → (due ≡ Err fault) ⊎ (fault ≡ NoMemory) → HeadsGo k s g text (nodes_in r) heads due
passed_on k s g text (Ok left) fault heads due h e = absurd (h.1)
passed_on k s g text (Err f) fault heads due h e =
    let P : TextFault → Type 0 = λ x. (due ≡ Err x) ⊎ (x ≡ NoMemory) in subst P (sym h.1) e

-- ---- the whole walk

one_alone : {H A : Type 0} (s : Shape H A) (a : Answer A) → bind (bind a (λ v. Ok (v ∷ []))) (λ vs. Ok (grown s [] vs)) ≡ a
one_alone s (Err f) = refl
one_alone s (Ok x) = refl

pub starts : {H : Type 0} (k : Kind) (shape : Shape H (Of k)) (g : Setting) (text : List ℕ) (nodes : List Node) (heads : List H) (s : Sexp) → Stands text nodes s → heads ≡ [] → HeadsLeft k shape g text nodes heads (means g k s)
starts k shape g text nodes heads s h e = record {
  forest = part_and s no_parts;
  stand = record { nodes_are = h.nodes_are ∙ sym (append-nil (sexp_nodes s)); lie = (h.lies, tt) };
  same = (λ i. bind (all_mean g k (part_and s no_parts)) (λ vs. Ok (grown shape (e i) vs))) ∙ one_alone shape (means g k s);
}

done_in : {H : Type 0} (k : Kind) (s : Shape H (Of k)) (g : Setting) (heads : List H) (forest : Sexps) → length (sexps_nodes forest) ≡ 0 → bind (all_mean g k forest) (λ vs. Ok (grown s heads vs)) ≡ Ok (grown s heads [])
done_in k s g heads no_parts h = refl
done_in k s g heads (part_and t ts) h =
    absurd (let l = length-append (sexp_nodes t) (sexps_nodes ts) in let m = some_nodes t in omega (arith, h, l, m))

pub ends : {H : Type 0} (k : Kind) (s : Shape H (Of k)) (g : Setting) (text : List ℕ) (rest : List Node) (heads : List H) (due : Answer (Of k)) → HeadsLeft k s g text rest heads due → length rest ≡ 0 → due ≡ Ok (grown s heads [])
ends k s g text rest heads due r h =
    sym r.same ∙ done_in k s g heads r.forest (sym (ap (λ (xs : List Node). length xs) r.stand.nodes_are) ∙ h)
