-- The order of nodes: by their rank, and then by their number.
use Rattle.std.specs.Prelude.{ℕ, ◌+◌, ◌*◌, ◌-◌, ◌/◌, ◌%◌, ◌==◌, ◌≡◌, if◌then◌else◌, ℤ, pos, unsigned_abs, refl}
use Rattle.std.specs.Ordering.{nat_cmp, int_cmp, on, then_cmp}
use Rattle.std.specs.declared.cmp.Ordering.{Ordering}
use Rattle.std.specs.Coded.{Coded, code_by, coded×, coded_ℕ, coded_ℤ}
use Rattle.qs_assert.specs.declared.variable.NumberType.{NumberType}
use Rattle.qs_assert.specs.declared.variable.NumberType.TheVariants.{Int, Unsigned, Char}
use Rattle.qs_assert.specs.declared.variable.Var.{Var}
use Rattle.qs_assert.specs.declared.variable.VarKind.{VarKind}
use Rattle.qs_assert.specs.declared.variable.VarKind.TheVariants.{Plain, Temporary, Old, Returned}
use Rattle.qs_poly.specs.declared.node.Node.{Node}
use Rattle.qs_poly.specs.declared.node.Node.TheVariants.{Variable, Cost, Num, Div, Wrapu, Wraps, Bits, Coefficient, EndOfTerm, EndOfPoly}

abbrev pub kind_rank : VarKind → ℕ
kind_rank (Plain i) = 0
kind_rank (Temporary i) = 1
kind_rank (Old i) = 2
kind_rank Returned = 3

abbrev pub kind_number : VarKind → ℕ
kind_number (Plain i) = i
kind_number (Temporary i) = i
kind_number (Old i) = i
kind_number Returned = 0

abbrev pub type_rank : NumberType → ℕ
type_rank Int = 0
type_rank Unsigned = 1
type_rank Char = 2

abbrev pub node_rank : Node → ℕ
node_rank EndOfPoly = 0
node_rank EndOfTerm = 1
node_rank (Cost f) = 2
node_rank Num = 3
node_rank (Div k) = 4
node_rank Wrapu = 5
node_rank Wraps = 6
node_rank Bits = 7
node_rank (Coefficient c) = 8
node_rank (Variable x) = 9 + 3 * kind_rank x.kind + type_rank x.number

abbrev pub node_number : Node → ℤ
node_number EndOfPoly = pos 0
node_number EndOfTerm = pos 0
node_number (Cost f) = pos f.0
node_number Num = pos 0
node_number (Div k) = pos k
node_number Wrapu = pos 0
node_number Wraps = pos 0
node_number Bits = pos 0
node_number (Coefficient c) = c
node_number (Variable x) = pos (kind_number x.kind)

abbrev pub node_cmp : Node → Node → Ordering
node_cmp = then_cmp (on node_rank nat_cmp) (on node_number int_cmp)

-- ---- rank and number give the node back

abbrev pub kind_by : ℕ → ℕ → VarKind
kind_by rank i = if rank == 0 then Plain i else if rank == 1 then Temporary i else if rank == 2 then Old i else Returned

abbrev pub type_by : ℕ → NumberType
type_by rank = if rank == 0 then Int else if rank == 1 then Unsigned else Char

abbrev pub variable_by : ℕ → ℕ → Var
variable_by rank i = record { kind = kind_by (rank / 3) i; number = type_by (rank % 3) }

abbrev pub node_by : ℕ → ℤ → Node
node_by rank z =
    if rank == 0 then EndOfPoly
    else if rank == 1 then EndOfTerm
    else if rank == 2 then Cost (record { 0 = unsigned_abs z })
    else if rank == 3 then Num
    else if rank == 4 then Div (unsigned_abs z)
    else if rank == 5 then Wrapu
    else if rank == 6 then Wraps
    else if rank == 7 then Bits
    else if rank == 8 then Coefficient z
    else Variable (variable_by (rank - 9) (unsigned_abs z))

rank_back : (k : VarKind) (t : NumberType) → node_by (9 + 3 * kind_rank k + type_rank t) (pos (kind_number k)) ≡ Variable (record { kind = k; number = t })
rank_back (Plain i) Int = refl
rank_back (Plain i) Unsigned = refl
rank_back (Plain i) Char = refl
rank_back (Temporary i) Int = refl
rank_back (Temporary i) Unsigned = refl
rank_back (Temporary i) Char = refl
rank_back (Old i) Int = refl
rank_back (Old i) Unsigned = refl
rank_back (Old i) Char = refl
rank_back Returned Int = refl
rank_back Returned Unsigned = refl
rank_back Returned Char = refl

pub node_back : (n : Node) → node_by (node_rank n) (node_number n) ≡ n
node_back EndOfPoly = refl
node_back EndOfTerm = refl
node_back (Cost f) = refl
node_back Num = refl
node_back (Div k) = refl
node_back Wrapu = refl
node_back Wraps = refl
node_back Bits = refl
node_back (Coefficient c) = refl
node_back (Variable x) = rank_back x.kind x.number

-- a node is stored as its rank and its number
abbrev pub coded_node : Coded Node
coded_node = code_by (ℕ × ℤ) (coded× coded_ℕ coded_ℤ) (λ n. (node_rank n, node_number n)) (λ p. node_by p.0 p.1) node_back
