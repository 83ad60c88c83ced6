-- What holds of each expression of an initialiser holds of the expressions of its pieces.
use Rattle.std.proofs.Common.{◌≡◌, ℕ, ◌+◌, List, [], ◌∷◌, ◌++◌, Option, Some, None, refl, subst}
use Rattle.std.proofs.lemmas.Option.{same_Some}
use Rattle.qs_memory.specs.Partial.{◌>>=◌}
use Rattle.qs_syntax.specs.Trees.{ExprTree, InitialiserTree, Initialisers, no_initialisers, initialiser_and}
use Rattle.qs_syntax.specs.Trees as trees
use Rattle.qs_types.specs.Types.{TypeTree, Structs}
use Rattle.qs_types.specs.InitialiserRules.{part_type}
use Rattle.qs_meaning.specs.Initialisers.{Piece, pieces, pieces_from, part_offset}
use Rattle.qs_typed_nodes.proofs.KeptAgreement.{nothing}

abbrev mutual
  pub InInitialiser : (ExprTree → Type 0) → InitialiserTree → Type 0
  InInitialiser P (trees.value e) = P e
  InInitialiser P (trees.list node is) = InInitialisers P is

  pub InInitialisers : (ExprTree → Type 0) → Initialisers → Type 0
  InInitialisers P no_initialisers = Unit {0}
  InInitialisers P (initialiser_and i is) = InInitialiser P i × InInitialisers P is

abbrev pub InPieces : (ExprTree → Type 0) → List Piece → Type 0
InPieces P [] = Unit {0}
InPieces P (p ∷ ps) = P p.expression × InPieces P ps

both_in : (P : ExprTree → Type 0) (ps qs : List Piece) → InPieces P ps → InPieces P qs → InPieces P (ps ++ qs)
both_in P [] qs h t = t
both_in P (p ∷ ps) qs h t = (h.0, both_in P ps qs h.1 t)

first_in : (P : ExprTree → Type 0) (ps : List Piece) (now : Option (List Piece)) → ((x : List Piece) → now ≡ Some x → InPieces P x) → (later : Option (List Piece)) → ((x : List Piece) → later ≡ Some x → InPieces P x)
    → (now >>= λ now. later >>= λ later. Some (now ++ later)) ≡ Some ps → InPieces P ps
first_in P ps None h later f e = nothing ps e
first_in P ps (Some now) h None f e = nothing ps e
first_in P ps (Some now) h (Some later) f e = subst (λ ps. InPieces P ps) (same_Some (now ++ later) ps e) (both_in P now later (h now refl) (f later refl))

list_in : (P : ExprTree → Type 0) (structs : Structs) (t : TypeTree) (offset i : ℕ) (first : InitialiserTree) (rest : Initialisers)
    → ((u : TypeTree) (at : ℕ) (now : List Piece) → pieces structs u at first ≡ Some now → InPieces P now) → ((later : List Piece) → pieces_from structs t offset (i + 1) rest ≡ Some later → InPieces P later)
    → (ps : List Piece) (u : Option TypeTree) (at : Option ℕ)
    → (u >>= λ u. at >>= λ at. pieces structs u (offset + at) first >>= λ now. pieces_from structs t offset (i + 1) rest >>= λ later. Some (now ++ later)) ≡ Some ps → InPieces P ps
list_in P structs t offset i first rest h f ps None at e = nothing ps e
list_in P structs t offset i first rest h f ps (Some u) None e = nothing ps e
list_in P structs t offset i first rest h f ps (Some u) (Some at) e =
    first_in P ps (pieces structs u (offset + at) first) (h u (offset + at)) (pieces_from structs t offset (i + 1) rest) f e

mutual
  pub pieces_in : (P : ExprTree → Type 0) (structs : Structs) (t : TypeTree) (offset : ℕ) (i : InitialiserTree) → InInitialiser P i → (ps : List Piece) → pieces structs t offset i ≡ Some ps → InPieces P ps
  pieces_in P structs t offset (trees.value e) h ps p = subst (λ ps. InPieces P ps) (same_Some (record { offset = offset; type = t; expression = e } ∷ []) ps p) (h, tt)
  pieces_in P structs t offset (trees.list node is) h ps p = from_in P structs t offset 0 is h ps p

  from_in : (P : ExprTree → Type 0) (structs : Structs) (t : TypeTree) (offset i : ℕ) (is : Initialisers) → InInitialisers P is → (ps : List Piece) → pieces_from structs t offset i is ≡ Some ps
      → InPieces P ps
  from_in P structs t offset i no_initialisers h ps p = subst (λ ps. InPieces P ps) (same_Some [] ps p) tt
  from_in P structs t offset i (initialiser_and first rest) h ps p =
      list_in P structs t offset i first rest (λ u at now q. pieces_in P structs u at first h.0 now q) (λ later r. from_in P structs t offset (i + 1) rest h.1 later r) ps
      (part_type structs t i) (part_offset structs t i) p
