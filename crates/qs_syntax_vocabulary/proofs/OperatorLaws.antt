-- The tables of operators: each is found by its punctuator, and what is found has the punctuator.
use Rattle.std.proofs.Common.{◌≡◌, true, Some, refl, ◌≤◌, nat_le, arith}
use Rattle.std.proofs.lemmas.Bool.Decides.{nat_tests}
use Rattle.qs_base.proofs.Variants.{every, finds, find_passes}
use Rattle.qs_syntax_vocabulary.specs.Operators.{access_of, access_operators, assign_of, assignment_operators, binary_of, binary_operators, precedence, punctuator_of_access, punctuator_of_assign, punctuator_of_binary, punctuator_of_unary, unary_of, unary_operators, weakest}
use Rattle.qs_syntax_vocabulary.specs.Punctuators.{same_punctuator}
use Rattle.qs_syntax_vocabulary.specs.declared.punctuator.Punctuator.{Punctuator}
use Rattle.qs_syntax_vocabulary.specs.contracts.operators.UnaryOperator.{the_type as unary_type}
use Rattle.qs_syntax_vocabulary.specs.declared.operators.UnaryOperator.{UnaryOperator}
use Rattle.qs_syntax_vocabulary.specs.contracts.operators.BinaryOperator.{the_type as binary_type}
use Rattle.qs_syntax_vocabulary.specs.declared.operators.BinaryOperator.{BinaryOperator}
use Rattle.qs_syntax_vocabulary.specs.contracts.operators.AssignmentOperator.{the_type as assign_type}
use Rattle.qs_syntax_vocabulary.specs.declared.operators.AssignmentOperator.{AssignmentOperator}
use Rattle.qs_syntax_vocabulary.specs.declared.operators.Access.{Access}
use Rattle.qs_syntax_vocabulary.proofs.PunctuatorLaws.{same_punctuator_exact}

-- ---- unary operators

pub unary_of-punctuator : (operator : UnaryOperator) → unary_of (punctuator_of_unary operator) ≡ Some operator
unary_of-punctuator operator = finds unary_type tt unary_operators refl (λ k x. same_punctuator (punctuator_of_unary x) (punctuator_of_unary k)) refl operator

pub punctuator-unary_of : (punctuator : Punctuator) (operator : UnaryOperator) → unary_of punctuator ≡ Some operator → punctuator_of_unary operator ≡ punctuator
punctuator-unary_of punctuator operator e = (same_punctuator_exact (punctuator_of_unary operator) punctuator).0 (find_passes (λ x. same_punctuator (punctuator_of_unary x) punctuator) unary_operators operator e)

-- ---- operators between two operands

pub binary_of-punctuator : (operator : BinaryOperator) → binary_of (punctuator_of_binary operator) ≡ Some operator
binary_of-punctuator operator = finds binary_type tt binary_operators refl (λ k x. same_punctuator (punctuator_of_binary x) (punctuator_of_binary k)) refl operator

pub punctuator-binary_of : (punctuator : Punctuator) (operator : BinaryOperator) → binary_of punctuator ≡ Some operator → punctuator_of_binary operator ≡ punctuator
punctuator-binary_of punctuator operator e = (same_punctuator_exact (punctuator_of_binary operator) punctuator).0 (find_passes (λ x. same_punctuator (punctuator_of_binary x) punctuator) binary_operators operator e)

pub precedence_within : (operator : BinaryOperator) → precedence operator ≤ weakest
precedence_within operator =
    let h : nat_le (precedence operator) weakest ≡ true = every binary_type tt binary_operators refl (λ x. nat_le (precedence x) weakest) refl operator in
    grind (arith, nat_tests)

-- ---- assignments

pub assign_of-punctuator : (operator : AssignmentOperator) → assign_of (punctuator_of_assign operator) ≡ Some operator
assign_of-punctuator operator = finds assign_type tt assignment_operators refl (λ k x. same_punctuator (punctuator_of_assign x) (punctuator_of_assign k)) refl operator

pub punctuator-assign_of : (punctuator : Punctuator) (operator : AssignmentOperator) → assign_of punctuator ≡ Some operator → punctuator_of_assign operator ≡ punctuator
punctuator-assign_of punctuator operator e = (same_punctuator_exact (punctuator_of_assign operator) punctuator).0 (find_passes (λ x. same_punctuator (punctuator_of_assign x) punctuator) assignment_operators operator e)

-- ---- access to a member

pub punctuator-access_of : (punctuator : Punctuator) (operator : Access) → access_of punctuator ≡ Some operator → punctuator_of_access operator ≡ punctuator
punctuator-access_of punctuator operator e = (same_punctuator_exact (punctuator_of_access operator) punctuator).0 (find_passes (λ x. same_punctuator (punctuator_of_access x) punctuator) access_operators operator e)
