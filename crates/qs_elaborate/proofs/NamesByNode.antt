-- Names by nodes are those that the definition finds.
use Rattle.std.proofs.Common.{◌≡◌, ℕ, ◌+◌, ◌<◌, ◌==◌, zero, suc, Bool, true, false, List, [], ◌∷◌, ◌++◌, Some, None, length, take, get_or, map, refl, sym, ap, ◌∙◌, if◌then◌else◌, arith}
use Rattle.std.proofs.lemmas.List.{map-append, take_more}
use Rattle.std.specs.Option.{option_or}
use Rattle.qs_elaborate_bodies.specs.Names.{Declared, VariableName, count_of, name_at}
use Rattle.qs_elaborate.specs.Naming.{name_or_none, numbered_at, name_among, newest_first}

-- a name that is known stays
stays : (node : ℕ) (a : VariableName) (ds later : List Declared) → name_among node ds ≡ Some a → name_among node (newest_first ds later) ≡ Some a
stays node a ds [] h = h
stays node a ds (d ∷ later) h =
    stays node a (d ∷ ds) later (ap (λ b. option_or b (numbered_at node d.node d.name (count_of d.name ds + 1))) h)

pub name_at_is : (node : ℕ) (ds later : List Declared) → name_among node ds ≡ None → name_at node ds later ≡ name_or_none (name_among node (newest_first ds later))
name_at_is node ds [] h = ap name_or_none (sym h)
name_at_is node ds (d ∷ later) h =
    by_node (d.node == node) (name_at node (d ∷ ds) later) refl
    (λ e. ap name_or_none (sym (stays node (record { name = d.name; ordinal = count_of d.name ds + 1 }) (d ∷ ds) later
    (ap (λ b. option_or b (numbered_at node d.node d.name (count_of d.name ds + 1))) h ∙ ap (λ z. if z then Some (record { name = d.name; ordinal = count_of d.name ds + 1 }) else None) e))))
    (λ e. name_at_is node (d ∷ ds) later
    (ap (λ b. option_or b (numbered_at node d.node d.name (count_of d.name ds + 1))) h ∙ ap (λ z. if z then Some (record { name = d.name; ordinal = count_of d.name ds + 1 }) else None) e))
  where
    by_node : (z : Bool) (x : VariableName) → z ≡ (d.node == node)
        → (z ≡ true → record { name = d.name; ordinal = count_of d.name ds + 1 } ≡ name_or_none (name_among node (newest_first (d ∷ ds) later)))
        → (z ≡ false → x ≡ name_or_none (name_among node (newest_first (d ∷ ds) later)))
        → (if z then record { name = d.name; ordinal = count_of d.name ds + 1 } else x) ≡ name_or_none (name_among node (newest_first (d ∷ ds) later))
    by_node true x e f g = f refl
    by_node false x e f g = g refl

-- one more
pub newest_more : (ds xs : List Declared) (i : ℕ) (e : Declared) → i < length xs → newest_first ds (take (i + 1) xs) ≡ get_or xs i e ∷ newest_first ds (take i xs)
newest_more ds [] i e h = absurd (omega arith)
newest_more ds (x ∷ xs) zero e h = refl
newest_more ds (x ∷ xs) (suc i) e h =
    let one : suc i + 1 ≡ suc (i + 1) = omega arith in
    ap (λ k. newest_first ds (take k (x ∷ xs))) one ∙ newest_more (x ∷ ds) xs i e (omega arith)

pub named_more : {A : Type 0} (f : A → VariableName) (ds : List Declared) (nodes : List ℕ) (i : ℕ) (done : List A) (v : A) → i < length nodes
    → map f done ≡ map (λ node. name_at node [] ds) (take i nodes) → f v ≡ name_at (get_or nodes i 0) [] ds
    → map f (done ++ v ∷ []) ≡ map (λ node. name_at node [] ds) (take (i + 1) nodes)
named_more f ds nodes i done v h k e =
    map-append f done (v ∷ [])
    ∙ ap (λ l. l ++ f v ∷ []) k
    ∙ ap (λ x. map (λ node. name_at node [] ds) (take i nodes) ++ x ∷ []) e
    ∙ sym (map-append (λ node. name_at node [] ds) (take i nodes) (get_or nodes i 0 ∷ []))
    ∙ ap (map (λ node. name_at node [] ds)) (sym (take_more nodes i 0 h))
