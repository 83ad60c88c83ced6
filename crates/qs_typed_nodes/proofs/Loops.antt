-- Loops that build from the left what is defined from the right.
use Rattle.std.proofs.Common.{◌≡◌, ℕ, ◌+◌, ◌-◌, ◌<◌, ◌≤◌, List, [], ◌∷◌, ◌++◌, Option, Some, None, length, map, drop, get_or, drop-cons, refl, sym, ap, ◌∙◌, append_assoc, add-one}
use Rattle.std.specs.List.{slice_get}
use Rattle.std.proofs.lemmas.Option.{slice_get_within, get_or_from_slice_get}
use Rattle.std.proofs.lemmas.List.{map-append, drop_all}
use Rattle.qs_memory.specs.Partial.{◌>>=◌}
use Rattle.qs_memory.specs.declared.scalar.Scalar.{Scalar}
use Rattle.qs_syntax.specs.declared.expressions.Expr.{Expr}
use Rattle.qs_syntax.specs.TreeOf.{expr_tree, exprs_tree}
use Rattle.qs_meaning.specs.Typed as trees
use Rattle.qs_meaning.specs.Forms.{TypedExpr}
use Rattle.qs_typed_trees.specs.TreeOf.{ArgumentTree, arguments_of, each_of, statements_of}
use Rattle.qs_memory.specs.Memory.{BlankTree, zeros, nothing, joined}
use Rattle.qs_memory.specs.BlankOf.{joined_of}
use Rattle.qs_syntax.specs.Trees.{InitialiserTree, Initialisers, initialiser_and}
use Rattle.qs_types.specs.Types.{TypeTree, MemberTree, Structs}
use Rattle.qs_types.specs.Layout.{size_of}
use Rattle.qs_types.specs.InitialiserRules.{part_type}
use Rattle.qs_meaning.specs.Blanks.{Blanks, blank_by, members_blank}
use Rattle.qs_meaning.specs.Initialisers.{part_offset, Piece, pieces, pieces_from}
use Rattle.qs_types.specs.Placed.{Local}
use Rattle.qs_meaning.specs.Conversions.{scalar_of}
use Rattle.qs_meaning.specs.Units.{scalars_of}
use Rattle.qs_typed_nodes.specs.Behind.{before, behind, followed}
use Rattle.qs_typed_nodes.specs.Known.{Known, known, with_conversion, with_argument, arguments_known}
pub use Rattle.std.proofs.lemmas.List.{drop_more as drop_read}

-- ---- one element more

pub before_more : {A B : Type 0} (cons : A → B → B) (xs : List A) (x : A) (b : B) → before cons (xs ++ x ∷ []) b ≡ before cons xs (cons x b)
before_more cons [] x b = refl
before_more cons (y ∷ ys) x b = ap (cons y) (before_more cons ys x b)

pub behind_more : {A B : Type 0} (cons : A → B → B) (xs : List A) (x : A) (o : Option B) → behind cons (xs ++ x ∷ []) o ≡ behind cons xs (o >>= λ b. Some (cons x b))
behind_more cons xs x None = refl
behind_more cons xs x (Some b) = ap Some (before_more cons xs x b)

-- ---- one turn of a loop

pub drop_item : {A : Type 0} (xs : List A) (i : ℕ) (x : A) → i < length xs → x ≡ get_or xs i x → drop i xs ≡ x ∷ drop (i + 1) xs
drop_item xs i x h e = drop-cons xs i x h ∙ (λ j. sym e j ∷ drop (sym (add-one i) j) xs)

pub drop_got : {A : Type 0} (xs : List A) (i : ℕ) (x : A) → slice_get xs i ≡ Some x → drop i xs ≡ x ∷ drop (i + 1) xs
drop_got xs i x e = drop_item xs i x (slice_get_within xs i x e) (sym (get_or_from_slice_get xs i x x e))

pub pushed : {A B : Type 0} (f : A → B) (new old : List A) (x : A) → new ≡ old ++ x ∷ [] → map f new ≡ map f old ++ f x ∷ []
pushed f new old x e = ap (map f) e ∙ map-append f old (x ∷ [])

-- what is left begins with one element more, which goes behind the others
pub turn : {A X B : Type 0} (cons : X → B → B) (one : A → Option X) (rest : List A → Option B) (xs : List A) (i : ℕ) (item : A) (done new : List X) (x : X) (whole : Option B)
    → whole ≡ behind cons done (rest (drop i xs)) → drop i xs ≡ item ∷ drop (i + 1) xs
    → ((ys : List A) → rest (item ∷ ys) ≡ (one item >>= λ now. rest ys >>= λ later. Some (cons now later))) → one item ≡ Some x → new ≡ done ++ x ∷ []
    → whole ≡ behind cons new (rest (drop (i + 1) xs))
turn cons one rest xs i item done new x whole h d e f p =
    h ∙ ap (λ ys. behind cons done (rest ys)) d
    ∙ ap (behind cons done) (e (drop (i + 1) xs) ∙ ap (λ o. o >>= λ now. rest (drop (i + 1) xs) >>= λ later. Some (cons now later)) f)
    ∙ sym (behind_more cons done x (rest (drop (i + 1) xs)))
    ∙ ap (λ ys. behind cons ys (rest (drop (i + 1) xs))) (sym p)

-- nothing is left
pub finish : {A X B : Type 0} (cons : X → B → B) (rest : List A → Option B) (xs : List A) (i : ℕ) (done : List X) (b : B) (whole : Option B)
    → whole ≡ behind cons done (rest (drop i xs)) → length xs ≤ i → rest [] ≡ Some b → whole ≡ Some (before cons done b)
finish cons rest xs i done b whole h l e = h ∙ ap (λ ys. behind cons done (rest ys)) (drop_all i xs l) ∙ ap (behind cons done) e

-- ---- the whole

pub all_arguments : (given : List ArgumentTree) → before with_argument given trees.no_arguments ≡ arguments_of given
all_arguments [] = refl
all_arguments (a ∷ rest) = ap (with_argument a) (all_arguments rest)

pub all_effects : (es : List trees.Effect) → before trees.in_order es trees.nothing ≡ each_of es
all_effects [] = refl
all_effects (e ∷ es) = ap (trees.in_order e) (all_effects es)

pub all_statements : (ss : List trees.Stmt) → before trees.stmt_and ss trees.no_stmts ≡ statements_of ss
all_statements [] = refl
all_statements (s ∷ ss) = ap (trees.stmt_and s) (all_statements ss)

-- ---- arguments, each with its parameter

pub arguments_turn : (k : Known) (ps : List Scalar) (es : List Expr) (i : ℕ) (s : Scalar) (e : Expr) (a : TypedExpr) (done new : List ArgumentTree) (whole : Option trees.Arguments)
    → whole ≡ behind with_argument done (arguments_known k (drop i ps) (exprs_tree (drop i es))) → drop i ps ≡ s ∷ drop (i + 1) ps → drop i es ≡ e ∷ drop (i + 1) es
    → known k (expr_tree e) ≡ Some a → new ≡ done ++ with_conversion s a ∷ [] → whole ≡ behind with_argument new (arguments_known k (drop (i + 1) ps) (exprs_tree (drop (i + 1) es)))
arguments_turn k ps es i s e a done new whole h d q f p =
    h ∙ (λ j. behind with_argument done (arguments_known k (d j) (exprs_tree (q j))))
    ∙ ap (λ o. behind with_argument done (o >>= λ a. arguments_known k (drop (i + 1) ps) (exprs_tree (drop (i + 1) es)) >>= λ later. Some (with_argument (with_conversion s a) later))) f
    ∙ sym (behind_more with_argument done (with_conversion s a) (arguments_known k (drop (i + 1) ps) (exprs_tree (drop (i + 1) es))))
    ∙ ap (λ xs. behind with_argument xs (arguments_known k (drop (i + 1) ps) (exprs_tree (drop (i + 1) es)))) (sym p)

pub arguments_finish : (k : Known) (ps : List Scalar) (es : List Expr) (i : ℕ) (done : List ArgumentTree) (whole : Option trees.Arguments)
    → whole ≡ behind with_argument done (arguments_known k (drop i ps) (exprs_tree (drop i es))) → length ps ≤ i → length es ≤ i → whole ≡ Some (arguments_of done)
arguments_finish k ps es i done whole h l m =
    h ∙ (λ j. behind with_argument done (arguments_known k (drop_all i ps l j) (exprs_tree (drop_all i es m j)))) ∙ ap Some (all_arguments done)

-- ---- pieces, some at a time

followed_more : {A : Type 0} (xs ys : List A) (o : Option (List A)) → followed xs (followed ys o) ≡ followed (xs ++ ys) o
followed_more xs ys None = refl
followed_more xs ys (Some zs) = ap Some (sym (append_assoc xs ys zs))

pub from_turn : (structs : Structs) (t : TypeTree) (offset i : ℕ) (first : InitialiserTree) (rest : Initialisers) (u : TypeTree) (at : ℕ) (now all : List Piece)
    → part_type structs t i ≡ Some u → part_offset structs t i ≡ Some at → pieces structs u (offset + at) first ≡ Some now
    → followed all (pieces_from structs t offset i (initialiser_and first rest)) ≡ followed (all ++ now) (pieces_from structs t offset (i + 1) rest)
from_turn structs t offset i first rest u at now all p q r =
    ap (followed all)
    (ap (λ o. o >>= λ u. part_offset structs t i >>= λ at. pieces structs u (offset + at) first >>= λ now. followed now (pieces_from structs t offset (i + 1) rest)) p
    ∙ ap (λ o. o >>= λ at. pieces structs u (offset + at) first >>= λ now. followed now (pieces_from structs t offset (i + 1) rest)) q
    ∙ ap (λ o. o >>= λ now. followed now (pieces_from structs t offset (i + 1) rest)) r)
    ∙ followed_more all now (pieces_from structs t offset (i + 1) rest)

-- ---- blanks of members

pub all_blanks : (bs : List BlankTree) → before joined bs nothing ≡ joined_of bs
all_blanks [] = refl
all_blanks (b ∷ bs) = ap (joined b) (all_blanks bs)

pub member_turn : (structs : Structs) (blanks : Blanks) (at size : ℕ) (m : MemberTree) (ms : List MemberTree) (o : ℕ) (os : List ℕ) (b : BlankTree) (n : ℕ) (bs : List BlankTree)
    → blank_by blanks m.type ≡ Some b → size_of structs m.type ≡ Some n
    → behind joined bs (members_blank structs blanks at size (m ∷ ms) (o ∷ os))
    ≡ behind joined ((bs ++ zeros (o - at) ∷ []) ++ b ∷ []) (members_blank structs blanks (o + n) size ms os)
member_turn structs blanks at size m ms o os b n bs p q =
    ap (λ x. behind joined bs (x >>= λ b. size_of structs m.type >>= λ n. members_blank structs blanks (o + n) size ms os >>= λ rest. Some (joined (zeros (o - at)) (joined b rest)))) p
    ∙ ap (λ x. behind joined bs (x >>= λ n. members_blank structs blanks (o + n) size ms os >>= λ rest. Some (joined (zeros (o - at)) (joined b rest)))) q
    ∙ twice (members_blank structs blanks (o + n) size ms os)
    ∙ sym (behind_more joined bs (zeros (o - at)) (members_blank structs blanks (o + n) size ms os >>= λ rest. Some (joined b rest)))
    ∙ sym (behind_more joined (bs ++ zeros (o - at) ∷ []) b (members_blank structs blanks (o + n) size ms os))
  where
    twice : (x : Option BlankTree) → behind joined bs (x >>= λ rest. Some (joined (zeros (o - at)) (joined b rest)))
        ≡ behind joined bs ((x >>= λ rest. Some (joined b rest)) >>= λ rest. Some (joined (zeros (o - at)) rest))
    twice None = refl
    twice (Some rest) = refl

-- ---- lists, one element at a time

pub all_elements : {A : Type 0} (xs : List A) → before ◌∷◌ xs [] ≡ xs
all_elements [] = refl
all_elements (x ∷ xs) = ap (λ rest. x ∷ rest) (all_elements xs)

pub scalars_one : (l : Local) (ls : List Local) → scalars_of (l ∷ ls) ≡ ((l.type >>= λ t. Some (scalar_of t)) >>= λ now. scalars_of ls >>= λ later. Some (now ∷ later))
scalars_one l ls = go l.type
  where
    go : (o : Option TypeTree) → (o >>= λ t. scalars_of ls >>= λ rest. Some (scalar_of t ∷ rest)) ≡ ((o >>= λ t. Some (scalar_of t)) >>= λ now. scalars_of ls >>= λ later. Some (now ∷ later))
    go None = refl
    go (Some t) = refl
