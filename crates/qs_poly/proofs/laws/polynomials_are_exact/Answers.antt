use Rattle.qs_poly.proofs.Coefficients.{sum_coefficient, multiple_coefficient, product_has_coefficients, unique}
use Rattle.qs_poly.proofs.Equality.{polynomial_equal, polynomial_itself}
use Rattle.qs_poly.proofs.laws.polynomials_are_exact.Goals as goal

pub returns : goal.returns
returns c =
    record { sums = sum_coefficient; multiples = multiple_coefficient; products = product_has_coefficients; unique = unique; equal = polynomial_equal; itself = polynomial_itself }
