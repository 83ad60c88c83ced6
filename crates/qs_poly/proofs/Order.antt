-- Atoms and monomials that compare equal are equal, and the order is total.
use Rattle.std.proofs.Common.{◌≡◌, ℕ, List, [], ◌∷◌, refl, sym, ap, ◌∙◌, arith, false}
use Rattle.std.specs.Prelude.{ℤ}
use Rattle.std.specs.declared.cmp.Ordering.{Ordering}
use Rattle.std.specs.declared.cmp.Ordering.TheVariants.{Less, Equal, Greater}
use Rattle.std.specs.Ordering.{nat_cmp, int_cmp, is_gt, ordering_then, ordering_reverse}
use Rattle.std.specs.Cmp.{IsTotalOrder}
use Rattle.std.specs.Cmp.Lexicographic.{slice_cmp}
use Rattle.std.proofs.lemmas.Int.{ints}
use Rattle.qs_poly.specs.declared.node.Node.{Node}
use Rattle.qs_poly.specs.Nodes.{node_cmp, node_rank, node_number, node_by, node_back}
use Rattle.qs_poly.specs.Polynomials.{AtomTree, Monomial, one, times}
use Rattle.qs_poly.specs.Codes.{code, code_injective}
use Rattle.qs_poly.specs.Orders.{atom_cmp, atoms, monomial_cmp, atom_cmp_total, monomial_cmp_total}

nat_equal : (x y : ℕ) → nat_cmp x y ≡ Equal → x ≡ y
nat_equal x y h = grind arith

int_equal : (x y : ℤ) → int_cmp x y ≡ Equal → x ≡ y
int_equal x y h = grind (arith, ints)

then_equal : (a b : Ordering) → ordering_then a b ≡ Equal → (a ≡ Equal) × (b ≡ Equal)
then_equal Less b h = cc
then_equal Equal b h = (refl, h)
then_equal Greater b h = cc

node_equal : (m n : Node) → node_cmp m n ≡ Equal → m ≡ n
node_equal m n h =
    let e = then_equal (nat_cmp (node_rank m) (node_rank n)) (int_cmp (node_number m) (node_number n)) h in
    let r = nat_equal (node_rank m) (node_rank n) e.0 in
    let z = int_equal (node_number m) (node_number n) e.1 in
    sym (node_back m) ∙ ap (λ x. node_by x (node_number m)) r ∙ ap (λ y. node_by (node_rank n) y) z ∙ node_back n

-- lists whose elements are equal where they compare equal
lists_equal : {A : Type 0} (R : A → A → Ordering) → ((a b : A) → R a b ≡ Equal → a ≡ b) → (xs ys : List A) → slice_cmp R xs ys ≡ Equal → xs ≡ ys
lists_equal R same [] [] h = refl
lists_equal R same [] (y ∷ ys) h = cc
lists_equal R same (x ∷ xs) [] h = cc
lists_equal R same (x ∷ xs) (y ∷ ys) h =
    let e = then_equal (R x y) (slice_cmp R xs ys) h in
    ap (λ z. z ∷ xs) (same x y e.0) ∙ ap (λ zs. y ∷ zs) (lists_equal R same xs ys e.1)

pub atom_equal : (a b : AtomTree) → atom_cmp a b ≡ Equal → a ≡ b
atom_equal a b h = code_injective a b (lists_equal node_cmp node_equal (code a) (code b) h)

atoms_injective : (m n : Monomial) → atoms m ≡ atoms n → m ≡ n
atoms_injective one one h = refl
atoms_injective one (times b n) h = cc
atoms_injective (times a m) one h = cc
atoms_injective (times a m) (times b n) h =
    let e : a ≡ b = cc in
    let f : atoms m ≡ atoms n = cc in
    ap (λ x. times x m) e ∙ ap (λ x. times b x) (atoms_injective m n f)

pub monomial_equal : (m n : Monomial) → monomial_cmp m n ≡ Equal → m ≡ n
monomial_equal m n h = atoms_injective m n (lists_equal atom_cmp atom_equal (atoms m) (atoms n) h)

-- ---- turned round

less_turned : {A : Type 0} (R : A → A → Ordering) → IsTotalOrder R → (a b : A) → R a b ≡ Greater → R b a ≡ Less
less_turned R o a b h = o.antisymm b a ∙ ap ordering_reverse h

pub monomial_less : (m n : Monomial) → monomial_cmp m n ≡ Greater → monomial_cmp n m ≡ Less
monomial_less = less_turned monomial_cmp monomial_cmp_total

-- an atom that comes after b is not before it
pub atom_not_after : (a b : AtomTree) → atom_cmp a b ≡ Greater → is_gt (atom_cmp b a) ≡ false
atom_not_after a b h = ap is_gt (less_turned atom_cmp atom_cmp_total a b h)

itself : (o : Ordering) → o ≡ ordering_reverse o → o ≡ Equal
itself Less h = cc
itself Equal h = refl
itself Greater h = cc

pub monomial_itself : (m : Monomial) → monomial_cmp m m ≡ Equal
monomial_itself m = itself (monomial_cmp m m) (monomial_cmp_total.antisymm m m)
