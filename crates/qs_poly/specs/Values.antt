-- The value of a polynomial in a state.
use Rattle.std.specs.Prelude.{ℤ, pos, ◌+ℤ◌, ◌*ℤ◌}
use Rattle.qs_assert.specs.Values.{State, wrapped_unsigned, wrapped_signed, bit_length, quotient, natural_part}
use Rattle.qs_poly.specs.Polynomials.{AtomTree, variable, cost, num, div, wrapu, wraps, bits, Monomial, one, times, Polynomial, nothing, plus}

abbrev mutual
  pub atom_value : AtomTree → State → ℤ
  atom_value (variable x) s = s.at x
  atom_value (cost f) s = pos (s.costs f)
  atom_value (num p) s = pos (natural_part (polynomial_value p s))
  atom_value (div p k) s = quotient (polynomial_value p s) k
  atom_value (wrapu p) s = wrapped_unsigned (polynomial_value p s)
  atom_value (wraps p) s = wrapped_signed (polynomial_value p s)
  atom_value (bits p) s = pos (bit_length (polynomial_value p s))

  pub monomial_value : Monomial → State → ℤ
  monomial_value one s = pos 1
  monomial_value (times a m) s = atom_value a s *ℤ monomial_value m s

  pub polynomial_value : Polynomial → State → ℤ
  polynomial_value nothing s = pos 0
  polynomial_value (plus c m p) s = c *ℤ monomial_value m s +ℤ polynomial_value p s
