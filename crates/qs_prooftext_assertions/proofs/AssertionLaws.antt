-- Steps of the walk over an assertion.
use Rattle.std.proofs.Common.{arith, ◌≡◌, ◌⊎◌, inl, inr, ℕ, zero, suc, ◌<◌, ℤ, pos, negsuc, option_map, ◌+◌, ◌-◌, ◌==◌, Bool, true, false, List, [], ◌∷◌, ◌++◌, length, reverse, drop, if◌then◌else◌, Option, Some, None, is_some, Result, Ok, Err, refl, sym, ap, ◌∙◌, append_assoc, subst, length-append}
use Rattle.std.proofs.lemmas.List.{append-nil, reverse-append, length-replicate, length-reverse}
use Rattle.std.specs.Option.{option_to_list}
use Rattle.std.specs.Borrow.{Bor}
use Rattle.std.specs.Result.{IsErr, IsErrAnd}
use Rattle.std.proofs.lemmas.Bool.{eqb-true}
use Rattle.qs_base.specs.Results.{bind}
use Rattle.qs_memory.specs.Partial.{◌>>=◌}
use Rattle.qs_assert.specs.Listing.{inner_term, assertion_nodes}
use Rattle.qs_assert.specs.Trees as trees
use Rattle.qs_assert.specs.declared.node.Node.{Node as AssertNode}
use Rattle.qs_assert.specs.declared.variable.Var.{Var}
use Rattle.qs_sexpr.specs.Places.{LieIn}
use Rattle.qs_sexpr.specs.Trees.{Sexp, number, symbol, list, Sexps, no_parts, part_and, count, sexp_nodes, sexps_nodes}
use Rattle.qs_sexpr.specs.declared.node.Node.{Node}
use Rattle.qs_prooftext_meaning.specs.declared.fault.TextFault.{TextFault}
use Rattle.qs_prooftext_meaning.specs.declared.fault.TextFault.TheVariants.{UnknownForm, NoSuchFunction, NoMemory}
use Rattle.qs_prooftext_assertions.specs.declared.sorts.Parts.{Parts}
use Rattle.qs_prooftext_assertions.specs.declared.sorts.Parts.TheVariants.{Zero, One, Two, Three, Many}
use Rattle.qs_prooftext_assertions.specs.declared.sorts.Row.{Row}
use Rattle.qs_prooftext_assertions.specs.declared.sorts.Sort.{Sort}
use Rattle.qs_prooftext_assertions.specs.declared.sorts.Sort.TheVariants.{Term, Condition, Assertion, Definition, Divisor, OldVariable, Function, KnownName, Name}
use Rattle.qs_prooftext_assertions.specs.AssertionRows.{fitting, found_row, row_flat}
use Rattle.qs_sexpr.specs.Parts.{Splits}
use Rattle.qs_prooftext_assertions.specs.Answers.{Gives, Stands, StandAll, HasNoHead, IsList, IsHeaded}
use Rattle.qs_prooftext_assertions.specs.Flattening.{kind_of, nodes_of, flat, flats, joined, sorts, fit, IsDivisor}
use Rattle.qs_prooftext_meaning.specs.Heads.{rows, headless_row}
use Rattle.qs_prooftext_meaning.specs.Kinds.{Kind, Of}
use Rattle.qs_prooftext_meaning.specs.Meanings.{Answer, natural_means, if_divisor, or_fault, means, list_means, each_means, all_mean}
use Rattle.qs_prooftext_meaning.specs.Settings.{Setting, look_up, old_variable}
use Rattle.qs_prooftext_assertions.specs.Walking.{Remains, Goes, nodes_in, Opened, HasParts, natural_flat, divisor_flat, number_flat, variable_flat, function_flat, known_flat, symbol_flat}
use Rattle.qs_prooftext_assertions.proofs.FlatLaws.{spec_flat, joined-assoc, joined-nil, joined-done, onto, onto-count, flats-onto}
use Rattle.qs_prooftext_assertions.proofs.PartLaws.{first_stands, others_stand, front, some_nodes}
use Rattle.qs_prooftext_assertions.proofs.RowLaws.{found_fits}

-- ---- lists

list_flat : (g : Setting) (k : Sort) (at place : ℕ) (w : List ℕ) (parts : Sexps) → flat g k (list at (part_and (symbol place w) parts)) ≡ spec_flat g k at (look_up w (rows g (kind_of k) at)) parts
list_flat g Term at place w parts = refl
list_flat g Condition at place w parts = refl
list_flat g Assertion at place w parts = refl
list_flat g Definition at place w parts = refl
list_flat g Divisor at place w parts = refl
list_flat g (OldVariable whole) at place w parts = refl
list_flat g (Function whole) at place w parts = refl
list_flat g (KnownName whole) at place w parts = refl
list_flat g Name at place w parts = refl

-- a list of a kind that takes no list without a head
pub no_head : (g : Setting) (k : Kind) (at : ℕ) (ss : Sexps) → is_some (headless_row k (count ss)) ≡ false → HasNoHead ss → means g k (list at ss) ≡ Err (UnknownForm at)
no_head g k at no_parts h n = λ i. if h i then list_means at (headless_row k 0) 0 (λ ks. each_means g ks no_parts) (λ a. all_mean g a no_parts) else Err (UnknownForm at)
no_head g k at (part_and (number place v) parts) h n = λ i. if h i then list_means at (headless_row k (count parts + 1)) (count parts + 1) (λ ks. each_means g ks (part_and (number place v) parts)) (λ a. all_mean g a (part_and (number place v) parts)) else Err (UnknownForm at)
no_head g k at (part_and (symbol place w) parts) h n = absurd n
no_head g k at (part_and (list place inner) parts) h n = λ i. if h i then list_means at (headless_row k (count parts + 1)) (count parts + 1) (λ ks. each_means g ks (part_and (list place inner) parts)) (λ a. all_mean g a (part_and (list place inner) parts)) else Err (UnknownForm at)

headed_kind : (k : Sort) (n : ℕ) → is_some (headless_row (kind_of k) n) ≡ false
headed_kind Term n = refl
headed_kind Condition n = refl
headed_kind Assertion n = refl
headed_kind Definition n = refl
headed_kind Divisor n = refl
headed_kind (OldVariable whole) n = refl
headed_kind (Function whole) n = refl
headed_kind (KnownName whole) n = refl
headed_kind Name n = refl

pub no_head_flat : (g : Setting) (k : Sort) (at : ℕ) (ss : Sexps) → HasNoHead ss → flat g k (list at ss) ≡ Err (UnknownForm at)
no_head_flat g k at ss n = ap (λ (a : Answer (Of (kind_of k))). bind a (λ v. Ok (nodes_of k v))) (no_head g (kind_of k) at ss (headed_kind k (count ss)) n)

sorts_count : (parts : Parts) (n : ℕ) → fit parts n ≡ true → length (sorts parts n) ≡ n
sorts_count Zero n h = sym (eqb-true n 0 h)
sorts_count (One a) n h = sym (eqb-true n 1 h)
sorts_count (Two a b) n h = sym (eqb-true n 2 h)
sorts_count (Three a b c) n h = sym (eqb-true n 3 h)
sorts_count (Many a) n h = length-replicate n a

if_fitting : (row : Row) (row2 : Row) (n : ℕ) (b : Bool) → fit row.parts n ≡ b → (if b then Some row else None) ≡ Some row2 → fit row2.parts n ≡ true
if_fitting row row2 n true e h = let q : row ≡ row2 = cc in ap (λ (r : Row). fit r.parts n) (sym q) ∙ e
if_fitting row row2 n false e h = absurd (cc)

fits : (o : Option Row) (n : ℕ) (row : Row) → fitting o n ≡ Some row → fit row.parts n ≡ true
fits None n row h = absurd (cc)
fits (Some r) n row h = if_fitting r row n (fit r.parts n) refl h

list_row : (g : Setting) (k : Sort) (at place n : ℕ) (w : List ℕ) (parts : Sexps) (divisor : ℕ) (o : Option Row) → n ≡ count parts → IsDivisor divisor parts → o ≡ fitting (found_row g.result k at n divisor w) n → flat g k (list at (part_and (symbol place w) parts)) ≡ row_flat g at o parts
list_row g k at place n w parts divisor o c d e =
    list_flat g k at place w parts ∙ (found_fits g k at w parts divisor d ∙ ((λ i. row_flat g at (fitting (found_row g.result k at (sym c i) divisor w) (sym c i)) parts) ∙ ap (λ (x : Option Row). row_flat g at x parts) (sym e)))

pub opens : (g : Setting) (k : Sort) (at place n : ℕ) (w : List ℕ) (parts : Sexps) (divisor : ℕ) (row : Row) (todo todo_now : List Sort) (out out_now : List AssertNode) → n ≡ count parts → IsDivisor divisor parts → Some row ≡ fitting (found_row g.result k at n divisor w) n → out_now ≡ out ++ option_to_list row.node → reverse todo_now ≡ sorts row.parts n ++ reverse todo → Opened g (flat g k (list at (part_and (symbol place w) parts))) parts todo todo_now out out_now
opens g k at place n w parts divisor row todo todo_now out out_now c d e o t = record {
  sorts = sorts row.parts (count parts);
  emitted = option_to_list row.node;
  same = list_row g k at place n w parts divisor (Some row) c d e;
  as_many = sorts_count row.parts (count parts) (ap (λ (m : ℕ). fit row.parts m) (sym c) ∙ fits (found_row g.result k at n divisor w) n row (sym e));
  out_is = o;
  todo_is = t ∙ ap (λ (m : ℕ). sorts row.parts m ++ reverse todo) c;
}

pub stays_shut : (g : Setting) (k : Sort) (at place n : ℕ) (w : List ℕ) (parts : Sexps) (divisor : ℕ) → n ≡ count parts → IsDivisor divisor parts → None ≡ fitting (found_row g.result k at n divisor w) n → flat g k (list at (part_and (symbol place w) parts)) ≡ Err (UnknownForm at)
stays_shut g k at place n w parts divisor c d e = list_row g k at place n w parts divisor None c d e

-- ---- steps

-- the first list or atom of what remains, and its sort
pub record Next (g : Setting) (text : List ℕ) (rest first others : List Node) (left : List Sort) (sort : Sort) (out : List AssertNode) (due : Answer (List AssertNode)) : Type 0 where
  pub tree : Sexp
  pub forest : Sexps
  pub stands : Stands text first tree
  pub stand : StandAll text others forest
  pub as_many : length (reverse left) ≡ count forest
  pub same : joined (Ok out) (joined (flat g sort tree) (flats g (reverse left) forest)) ≡ due

next_in : (g : Setting) (text : List ℕ) (rest first others : List Node) (todo left : List Sort) (sort : Sort) (out : List AssertNode) (due : Answer (List AssertNode)) (forest : Sexps) → StandAll text rest forest → length (reverse todo) ≡ count forest → joined (Ok out) (flats g (reverse todo) forest) ≡ due → Splits rest first others → reverse todo ≡ sort ∷ reverse left → Next g text rest first others left sort out due
next_in g text rest first others todo left sort out due no_parts h n e s t =
    absurd (let l : length (reverse todo) ≡ suc (length (reverse left)) = ap (λ (ks : List Sort). length ks) t in omega (arith, l, n))
next_in g text rest first others todo left sort out due (part_and tree forest) h n e s t = record {
  tree = tree;
  forest = forest;
  stands = first_stands text rest tree forest first others h s;
  stand = others_stand text rest tree forest first others h s;
  as_many = let l : length (reverse todo) ≡ suc (length (reverse left)) = ap (λ (ks : List Sort). length ks) t in omega (arith, l, n);
  same = (λ i. joined (Ok out) (flats g (sym t i) (part_and tree forest))) ∙ e;
}

pub next_of : (g : Setting) (text : List ℕ) (rest first others : List Node) (todo left : List Sort) (sort : Sort) (out : List AssertNode) (due : Answer (List AssertNode)) → Remains g text rest todo out due → Splits rest first others → todo ≡ left ++ sort ∷ [] → Next g text rest first others left sort out due
next_of g text rest first others todo left sort out due r s t =
    next_in g text rest first others todo left sort out due r.forest r.stand r.as_many r.same s (ap (λ (ks : List Sort). reverse ks) t ∙ reverse-append left (sort ∷ []))

-- an atom is read
pub atom_goes : (g : Setting) (text : List ℕ) (rest first others behind : List Node) (left : List Sort) (sort : Sort) (out out_now emitted : List AssertNode) (due : Answer (List AssertNode)) → Splits rest first others → (n : Next g text rest first others left sort out due) → length first ≡ 1 → behind ≡ drop 1 rest → flat g sort n.tree ≡ Ok emitted → out_now ≡ out ++ emitted → Remains g text behind left out_now due
atom_goes g text rest first others behind left sort out out_now emitted due s n l b f o = record {
  forest = n.forest;
  stand = record { nodes_are = b ∙ (ap (λ (xs : List Node). drop 1 xs) s.whole ∙ (front 1 first others l ∙ n.stand.nodes_are)); lie = n.stand.lie };
  as_many = n.as_many;
  same = (λ i. joined (Ok (o i)) (flats g (reverse left) n.forest)) ∙ (joined-assoc (Ok out) (Ok emitted) (flats g (reverse left) n.forest) ∙ ((λ i. joined (Ok out) (joined (sym f i) (flats g (reverse left) n.forest))) ∙ n.same));
}

pub fails : (g : Setting) (text : List ℕ) (rest first others : List Node) (left : List Sort) (sort : Sort) (out : List AssertNode) (due : Answer (List AssertNode)) (fault : TextFault) → (n : Next g text rest first others left sort out due) → flat g sort n.tree ≡ Err fault → due ≡ Err fault
fails g text rest first others left sort out due fault n f =
    sym n.same ∙ (λ i. joined (Ok out) (joined (f i) (flats g (reverse left) n.forest)))

-- a list is opened
pub list_goes : (g : Setting) (text : List ℕ) (rest first others behind : List Node) (left todo_now : List Sort) (sort : Sort) (out out_now : List AssertNode) (due : Answer (List AssertNode)) (parts : Sexps) → (n : Next g text rest first others left sort out due) → StandAll text behind (onto parts n.forest) → Opened g (flat g sort n.tree) parts left todo_now out out_now → Remains g text behind todo_now out_now due
list_goes g text rest first others behind left todo_now sort out out_now due parts n h o =
    let more : Answer (List AssertNode) = flats g (reverse left) n.forest in
    let l = ap (λ (ks : List Sort). length ks) o.todo_is in
    let a = length-append o.sorts (reverse left) in
    let c = onto-count parts n.forest in
    record {
      forest = onto parts n.forest;
      stand = h;
      as_many = omega (arith, l, a, c, o.as_many, n.as_many);
      same = (λ i. joined (Ok (o.out_is i)) ((ap (λ (ks : List Sort). flats g ks (onto parts n.forest)) o.todo_is ∙ flats-onto g o.sorts (reverse left) parts n.forest o.as_many) i)) ∙ (joined-assoc (Ok out) (Ok o.emitted) (joined (flats g o.sorts parts) more) ∙ (ap (joined (Ok out)) (sym (joined-assoc (Ok o.emitted) (flats g o.sorts parts) more)) ∙ ((λ i. joined (Ok out) (joined (sym o.same i) more)) ∙ n.same)));
    }

-- ---- atoms

natural_is : (at : ℕ) (n : ℤ) → bind (natural_means (λ m. Some (trees.natural m)) at n) (λ v. Ok (assertion_nodes v)) ≡ natural_flat at n
natural_is at (pos n) = refl
natural_is at (negsuc n) = refl

divisor_is : (at : ℕ) (n : ℤ) → bind (natural_means if_divisor at n) (λ v. Ok []) ≡ divisor_flat at n
divisor_is at (pos zero) = refl
divisor_is at (pos (suc n)) = refl
divisor_is at (negsuc n) = refl

pub number_is : (g : Setting) (k : Sort) (at : ℕ) (n : ℤ) → flat g k (number at n) ≡ number_flat k at n
number_is g Term at n = refl
number_is g Condition at n = refl
number_is g Assertion at n = natural_is at n
number_is g Definition at n = natural_is at n
number_is g Divisor at n = divisor_is at n
number_is g (OldVariable whole) at n = refl
number_is g (Function whole) at n = refl
number_is g (KnownName whole) at n = refl
number_is g Name at n = refl

variable_is : (at : ℕ) (o : Option Var) → bind (or_fault (UnknownForm at) (option_map trees.variable o)) (λ v. Ok (inner_term v)) ≡ variable_flat at o
variable_is at None = refl
variable_is at (Some x) = refl

old_is : (at : ℕ) (o : Option Var) → bind (or_fault (UnknownForm at) o) (λ v. Ok (nodes_of (OldVariable at) v)) ≡ variable_flat at o
old_is at None = refl
old_is at (Some x) = refl

function_is : (at : ℕ) (o : Option ℕ) → bind (or_fault (NoSuchFunction at) o) (λ v. Ok (nodes_of (Function at) v)) ≡ function_flat at o
function_is at None = refl
function_is at (Some x) = refl

known_is : (at : ℕ) (b : Bool) (w : List ℕ) → bind (if b then Ok w else Err (UnknownForm at)) (λ v. Ok (nodes_of (KnownName at) v)) ≡ known_flat at b w
known_is at true w = refl
known_is at false w = refl

pub symbol_is : (g : Setting) (k : Sort) (at : ℕ) (w : List ℕ) → flat g k (symbol at w) ≡ symbol_flat g k at w
symbol_is g Term at w = variable_is at (look_up w g.variables)
symbol_is g Condition at w = refl
symbol_is g Assertion at w = refl
symbol_is g Definition at w = refl
symbol_is g Divisor at w = refl
symbol_is g (OldVariable whole) at w = old_is whole (look_up w g.variables >>= old_variable)
symbol_is g (Function whole) at w = function_is whole (look_up w g.functions)
symbol_is g (KnownName whole) at w = known_is whole (g.has_name w) w
symbol_is g Name at w = refl

pub behind_is : (n m : ℕ) (parts : Sexps) → n ≡ m - 1 → HasParts m parts → n ≡ count parts
behind_is n m parts e h = omega (arith, e, h)

-- ---- where a step can't be

none_in : {P : Type 0} (text : List ℕ) (rest : List Node) (todo : List Sort) (forest : Sexps) → rest ≡ sexps_nodes forest → length (reverse todo) ≡ count forest → 0 < length rest → length todo ≡ 0 → P
none_in text rest todo no_parts n m l e = absurd (let k = ap (λ (xs : List Node). length xs) n in omega (arith, k, l))
none_in text rest todo (part_and s ss) n m l e =
    absurd (let k = length-reverse todo in omega (arith, k, m, e))

pub none_left : {P : Type 0} (g : Setting) (text : List ℕ) (rest : List Node) (todo : List Sort) (out : List AssertNode) (due : Answer (List AssertNode)) → Remains g text rest todo out due → 0 < length rest → length todo ≡ 0 → P
none_left {P = P} g text rest todo out due r l e = none_in text rest todo r.forest r.stand.nodes_are r.as_many l e

-- ---- the arms of a step

pub number_alone : (text : List ℕ) (first : List Node) (s : Sexp) (at : ℕ) (n : ℤ) → Stands text first s → s ≡ number at n → length first ≡ 1
number_alone text first s at n h e = ap (λ (xs : List Node). length xs) (h.nodes_are ∙ ap sexp_nodes e)

pub symbol_alone : (text : List ℕ) (first : List Node) (s : Sexp) (at : ℕ) (w : List ℕ) → Stands text first s → s ≡ symbol at w → length first ≡ 1
symbol_alone text first s at w h e = ap (λ (xs : List Node). length xs) (h.nodes_are ∙ ap sexp_nodes e)

pub number_means_so : (g : Setting) (k : Sort) (s : Sexp) (at : ℕ) (n : ℤ) (a : Answer (List AssertNode)) → s ≡ number at n → number_flat k at n ≡ a → flat g k s ≡ a
number_means_so g k s at n a e f = ap (flat g k) e ∙ (number_is g k at n ∙ f)

pub symbol_means_so : (g : Setting) (k : Sort) (s : Sexp) (at : ℕ) (w : List ℕ) (a : Answer (List AssertNode)) → s ≡ symbol at w → symbol_flat g k at w ≡ a → flat g k s ≡ a
symbol_means_so g k s at w a e f = ap (flat g k) e ∙ (symbol_is g k at w ∙ f)

pub list_shut : (g : Setting) (k : Sort) (text : List ℕ) (s : Sexp) (at n : ℕ) (nodes : List Node) (p : IsList text s at n nodes) → HasNoHead p.parts → flat g k s ≡ Err (UnknownForm at)
list_shut g k text s at n nodes p h = ap (flat g k) p.same ∙ no_head_flat g k at p.parts h

pub has_parts : (text : List ℕ) (s : Sexp) (at n : ℕ) (nodes : List Node) (w : List ℕ) (others : List Node) (p : IsList text s at n nodes) (h : IsHeaded text p.parts w others) → HasParts n h.parts
has_parts text s at n nodes w others p h = p.counts ∙ ap count h.same

pub lists_lie : (text : List ℕ) (parts others : Sexps) → LieIn text parts → LieIn text others → LieIn text (onto parts others)
lists_lie text no_parts others h k = k
lists_lie text (part_and s ss) others h k = (h.0, lists_lie text ss others h.1 k)

pub onto_nodes : (ss others : Sexps) → sexps_nodes (onto ss others) ≡ sexps_nodes ss ++ sexps_nodes others
onto_nodes no_parts others = refl
onto_nodes (part_and s ss) others =
    ap (λ (xs : List Node). sexp_nodes s ++ xs) (onto_nodes ss others) ∙ sym (append_assoc (sexp_nodes s) (sexps_nodes ss) (sexps_nodes others))

-- what stands behind a list's node and its head
pub parts_next : (text : List ℕ) (rest first others behind : List Node) (s : Sexp) (at n : ℕ) (nodes : List Node) (w : List ℕ) (inner : List Node) (forest : Sexps) (p : IsList text s at n nodes) (h : IsHeaded text p.parts w inner) → Splits rest first others → Stands text first s → StandAll text others forest → behind ≡ drop 2 rest → StandAll text behind (onto h.parts forest)
parts_next text rest first others behind s at n nodes w inner forest p h f t o b =
    let e : first ≡ sexp_nodes (list at (part_and (symbol h.place w) h.parts)) = t.nodes_are ∙ (ap sexp_nodes p.same ∙ ap (λ (xs : Sexps). sexp_nodes (list at xs)) h.same) in
    record {
      nodes_are = b ∙ ((λ i. drop 2 ((f.whole ∙ ap (λ (xs : List Node). xs ++ others) e) i)) ∙ (ap (λ (xs : List Node). sexps_nodes h.parts ++ xs) o.nodes_are ∙ sym (onto_nodes h.parts forest)));
      lie = lists_lie text h.parts forest h.stand.lie o.lie;
    }

pub list_opens : (g : Setting) (text : List ℕ) (rest first others behind : List Node) (left todo_now : List Sort) (sort : Sort) (out out_now : List AssertNode) (due : Answer (List AssertNode)) (at n : ℕ) (nodes : List Node) (w : List ℕ) (inner : List Node) (k : Next g text rest first others left sort out due) (p : IsList text k.tree at n nodes) (h : IsHeaded text p.parts w inner) → Splits rest first others → behind ≡ drop 2 rest → Opened g (flat g sort (list at (part_and (symbol h.place w) h.parts))) h.parts left todo_now out out_now → Remains g text behind todo_now out_now due
list_opens g text rest first others behind left todo_now sort out out_now due at n nodes w inner k p h f b o =
    list_goes g text rest first others behind left todo_now sort out out_now due h.parts k (parts_next text rest first others behind k.tree at n nodes w inner k.forest p h f k.stands k.stand b) (record {
      sorts = o.sorts;
      emitted = o.emitted;
      same = ap (flat g sort) p.same ∙ (ap (λ (xs : Sexps). flat g sort (list at xs)) h.same ∙ o.same);
      as_many = o.as_many;
      out_is = o.out_is;
      todo_is = o.todo_is;
    })

-- ---- where a step fails

pub passed_on : (g : Setting) (text : List ℕ) (r : Result (Bor (List Node)) TextFault) (fault : TextFault) (todo : List Sort) (out : List AssertNode) (due : Answer (List AssertNode)) → IsErr r × IsErrAnd r (λ e. e ≡ fault) → (due ≡ Err fault) ⊎ (fault ≡ NoMemory) → Goes g text (nodes_in r) todo out due
passed_on g text (Ok left) fault todo out due h k = absurd (h.1)
passed_on g text (Err e) fault todo out due h k =
    let P : TextFault → Type 0 = λ f. (due ≡ Err f) ⊎ (f ≡ NoMemory) in subst P (sym h.1) k

stops : (g : Setting) (text : List ℕ) (rest first others : List Node) (left : List Sort) (sort : Sort) (out : List AssertNode) (due : Answer (List AssertNode)) (fault : TextFault) (a : Answer (List AssertNode)) (n : Next g text rest first others left sort out due) → flat g sort n.tree ≡ a → (a ≡ Err fault) ⊎ (fault ≡ NoMemory) → (due ≡ Err fault) ⊎ (fault ≡ NoMemory)
stops g text rest first others left sort out due fault a n e (inl f) = inl (fails g text rest first others left sort out due fault n (e ∙ f))
stops g text rest first others left sort out due fault a n e (inr f) = inr f

pub number_stops : (g : Setting) (text : List ℕ) (rest first others : List Node) (left : List Sort) (sort : Sort) (out : List AssertNode) (due : Answer (List AssertNode)) (fault : TextFault) (at : ℕ) (v z : ℤ) (n : Next g text rest first others left sort out due) → n.tree ≡ number at v → z ≡ v → (number_flat sort at z ≡ Err fault) ⊎ (fault ≡ NoMemory) → (due ≡ Err fault) ⊎ (fault ≡ NoMemory)
number_stops g text rest first others left sort out due fault at v z n e c h =
    stops g text rest first others left sort out due fault (number_flat sort at z) n (ap (flat g sort) e ∙ (number_is g sort at v ∙ ap (number_flat sort at) (sym c))) h

pub symbol_stops : (g : Setting) (text : List ℕ) (rest first others : List Node) (left : List Sort) (sort : Sort) (out : List AssertNode) (due : Answer (List AssertNode)) (fault : TextFault) (at : ℕ) (w : List ℕ) (n : Next g text rest first others left sort out due) → n.tree ≡ symbol at w → (symbol_flat g sort at w ≡ Err fault) ⊎ (fault ≡ NoMemory) → (due ≡ Err fault) ⊎ (fault ≡ NoMemory)
symbol_stops g text rest first others left sort out due fault at w n e h =
    stops g text rest first others left sort out due fault (symbol_flat g sort at w) n (ap (flat g sort) e ∙ symbol_is g sort at w) h

pub list_stops : (g : Setting) (text : List ℕ) (rest first others : List Node) (left : List Sort) (sort : Sort) (out : List AssertNode) (due : Answer (List AssertNode)) (fault : TextFault) (at m : ℕ) (nodes : List Node) (w : List ℕ) (inner : List Node) (n : Next g text rest first others left sort out due) (p : IsList text n.tree at m nodes) (h : IsHeaded text p.parts w inner) → (flat g sort (list at (part_and (symbol h.place w) h.parts)) ≡ Err fault) ⊎ (fault ≡ NoMemory) → (due ≡ Err fault) ⊎ (fault ≡ NoMemory)
list_stops g text rest first others left sort out due fault at m nodes w inner n p h k =
    stops g text rest first others left sort out due fault (flat g sort (list at (part_and (symbol h.place w) h.parts))) n (ap (flat g sort) p.same ∙ ap (λ (xs : Sexps). flat g sort (list at xs)) h.same) k

-- ---- the whole walk

pub starts : (g : Setting) (text : List ℕ) (k : Sort) (nodes : List Node) (todo empty : List Sort) (out : List AssertNode) (s : Sexp) → Stands text nodes s → empty ≡ [] → todo ≡ empty ++ k ∷ [] → out ≡ [] → Remains g text nodes todo out (flat g k s)
starts g text k nodes todo empty out s h f t o =
    let q : todo ≡ k ∷ [] = t ∙ ap (λ (xs : List Sort). xs ++ k ∷ []) f in
    record {
      forest = part_and s no_parts;
      stand = record { nodes_are = h.nodes_are ∙ sym (append-nil (sexp_nodes s)); lie = (h.lies, tt) };
      as_many = let l = ap (λ (xs : List Sort). length (reverse xs)) q in omega (arith, l);
      same = (λ i. joined (Ok (o i)) (flats g (reverse (q i)) (part_and s no_parts))) ∙ (joined-nil (joined (flat g k s) (Ok [])) ∙ joined-done (flat g k s));
    }

done_in : (g : Setting) (ks : List Sort) (out : List AssertNode) (forest : Sexps) → length (sexps_nodes forest) ≡ 0 → length ks ≡ count forest → joined (Ok out) (flats g ks forest) ≡ Ok out
done_in g [] out forest h n = ap (λ (xs : List AssertNode). Ok xs) (append-nil out)
done_in g (k ∷ ks) out no_parts h n = absurd (omega (arith, n))
done_in g (k ∷ ks) out (part_and s ss) h n =
    absurd (let l = length-append (sexp_nodes s) (sexps_nodes ss) in let m = some_nodes s in omega (arith, h, l, m))

pub ends : (g : Setting) (text : List ℕ) (rest : List Node) (todo : List Sort) (out : List AssertNode) (due : Answer (List AssertNode)) → Remains g text rest todo out due → length rest ≡ 0 → due ≡ Ok out
ends g text rest todo out due r h =
    sym r.same ∙ done_in g (reverse todo) out r.forest (sym (ap (λ (xs : List Node). length xs) r.stand.nodes_are) ∙ h) r.as_many

pub passed_out : {A T : Type 0} (view : T → A) (r : Result T TextFault) (fault : TextFault) (due : Answer A) → IsErr r × IsErrAnd r (λ e. e ≡ fault) → (due ≡ Err fault) ⊎ (fault ≡ NoMemory) → Gives view due r
passed_out view (Ok x) fault due h k = absurd (h.1)
passed_out view (Err e) fault due h k =
    let P : TextFault → Type 0 = λ f. (due ≡ Err f) ⊎ (f ≡ NoMemory) in subst P (sym h.1) k

pub some_left : (n : ℕ) → false ≡ (n == 0) → 0 < n
some_left n h = grind (arith, h)

pub none_left_of : (n : ℕ) → true ≡ (n == 0) → n ≡ 0
none_left_of n h = grind (arith, h)

-- ---- from nodes to trees

-- what is read, and that it is what is meant
pub record IsMeant (k : Sort) (due : Answer (Of (kind_of k))) (out : List AssertNode) : Type 0 where
  pub value : Of (kind_of k)
  pub is_due : due ≡ Ok value
  pub nodes_are : out ≡ nodes_of k value

meant_in : (k : Sort) (due : Answer (Of (kind_of k))) (out : List AssertNode) → bind due (λ v. Ok (nodes_of k v)) ≡ Ok out → IsMeant k due out
meant_in k (Ok v) out h = record { value = v; is_due = refl; nodes_are = cc }
meant_in k (Err f) out h = absurd (cc)

pub meant : (g : Setting) (k : Sort) (s : Sexp) (out : List AssertNode) → flat g k s ≡ Ok out → IsMeant k (means g (kind_of k) s) out
meant g k s out h = meant_in k (means g (kind_of k) s) out h

fault_in : (k : Sort) (due : Answer (Of (kind_of k))) (fault : TextFault) → (bind due (λ v. Ok (nodes_of k v)) ≡ Err fault) ⊎ (fault ≡ NoMemory) → (due ≡ Err fault) ⊎ (fault ≡ NoMemory)
fault_in k (Ok v) fault (inl h) = absurd (cc)
fault_in k (Err f) fault (inl h) = inl (cc)
fault_in k due fault (inr h) = inr h

pub meant_fault : (g : Setting) (k : Sort) (s : Sexp) (fault : TextFault) → (flat g k s ≡ Err fault) ⊎ (fault ≡ NoMemory) → (means g (kind_of k) s ≡ Err fault) ⊎ (fault ≡ NoMemory)
meant_fault g k s fault h = fault_in k (means g (kind_of k) s) fault h

pub ruleset openings = (opens, stays_shut)
