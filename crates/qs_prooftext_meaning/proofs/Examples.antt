-- What small texts mean, computed from the definitions: each head, and each fault.
use Rattle.std.proofs.Common.{◌≡◌, ℕ, pos, negsuc, List, [], ◌∷◌, bytes_eq, false, codes, Some, None, Result, Ok, Err, refl}
use Rattle.std.specs.Fmt.{digits}
use Rattle.qs_memory.specs.declared.scalar.Scalar.TheVariants as scalars
use Rattle.qs_calls.specs.declared.parameter.Parameter.TheVariants.{Plain, Placed}
use Rattle.qs_assert.specs.declared.variable.NumberType.TheVariants as numbers
use Rattle.qs_assert.specs.declared.variable.VarKind.{VarKind}
use Rattle.qs_assert.specs.declared.variable.VarKind.TheVariants as kinds
use Rattle.qs_assert.specs.declared.variable.Var.{Var}
use Rattle.qs_assert.specs.Trees as trees
use Rattle.qs_assert.specs.Trees.{TermTree, terms_of, conds_of, assertions_of}
use Rattle.qs_entail.specs.Certificates as certificates
use Rattle.qs_entail.specs.Certificates.{once, twice}
use Rattle.qs_entail.specs.View.{certs_of}
use Rattle.qs_core.specs.Trees.{CoreFunctionTree, CoreUnitTree, no_stmts}
use Rattle.qs_sexpr.specs.Scan.{scanned}
use Rattle.qs_sexpr.specs.Trees.{Sexp}
use Rattle.qs_sexpr.specs.declared.fault.SexprFault.{SexprFault}
use Rattle.qs_triples.specs.Derivations as derivations
use Rattle.qs_triples.specs.TreeOf.{derivations_of}
use Rattle.qs_prooftext_meaning.specs.declared.fault.TextFault.TheVariants.{UnknownForm, NoSuchFunction}
use Rattle.qs_prooftext_meaning.specs.Kinds.{Kind, Of, a_term, a_condition, an_assertion, a_definition_body, a_certificate, a_derivation, a_combination}
use Rattle.qs_prooftext_meaning.specs.Settings.{Setting, in_definition, in_entry}
use Rattle.qs_prooftext_meaning.specs.Meanings.{Answer, means}
use Rattle.qs_prooftext_meaning.specs.Reading.{told}

-- ---- a unit: `unsigned f(unsigned n, int q)`, with q in a block, a local `int n`, a pointer and a temporary, and `void g(void)`

abbrev pub f : CoreFunctionTree
f = record {
  name = codes "f";
  parameters = record { name = codes "n"; place = Plain 0 } ∷ record { name = codes "q"; place = Placed 0 scalars.Int } ∷ [];
  variables = record { name = codes "n"; ordinal = 1; scalar = scalars.Unsigned } ∷ record { name = codes "q"; ordinal = 1; scalar = scalars.Int } ∷ record { name = codes "n"; ordinal = 2; scalar = scalars.Int } ∷ record { name = codes "p"; ordinal = 1; scalar = scalars.Pointer } ∷ [];
  temporaries = scalars.Pointer ∷ scalars.Char ∷ [];
  blocks = 4 ∷ [];
  result_type = Some scalars.Unsigned;
  body = no_stmts;
}

abbrev pub g : CoreFunctionTree
g = record {
  name = codes "g";
  parameters = [];
  variables = [];
  temporaries = [];
  blocks = [];
  result_type = None;
  body = no_stmts;
}

abbrev pub u : CoreUnitTree
u = record { functions = f ∷ g ∷ []; main = 0; data_blocks = [] }

abbrev of_scan : (s : Setting) → (k : Kind) → Result (List Sexp) SexprFault → Answer (Of k)
of_scan s k (Ok []) = Err (UnknownForm 0)
of_scan s k (Ok (one ∷ others)) = means s k one
of_scan s k (Err fault) = Err (told fault)

-- in the entries of f and g, where `d` has a definition, and in a definition
abbrev in_f : (k : Kind) → List ℕ → Answer (Of k)
in_f k text = of_scan (in_entry u f (bytes_eq (codes "d"))) k (scanned text)

abbrev in_g : (k : Kind) → List ℕ → Answer (Of k)
in_g k text = of_scan (in_entry u g (λ name. false)) k (scanned text)

abbrev defined : List ℕ → Answer (Of a_definition_body)
defined text = of_scan (in_definition u) a_definition_body (scanned text)

abbrev unsigned_variable : VarKind → Var
unsigned_variable kind = record { kind = kind; number = numbers.Unsigned }

abbrev n : TermTree
n = trees.variable (unsigned_variable (kinds.Plain 0))

abbrev five : TermTree
five = trees.number (pos 5)

-- ---- terms

a_number : in_f a_term (codes "-5") ≡ Ok (trees.number (negsuc 4))
a_number = refl

a_parameter : in_f a_term (codes "n") ≡ Ok n
a_parameter = refl

a_second_variable : in_f a_term (codes "n#2") ≡ Ok (trees.variable (record { kind = kinds.Plain 2; number = numbers.Int }))
unfolding digits
a_second_variable = refl

a_temporary : in_f a_term (codes "$1") ≡ Ok (trees.variable (record { kind = kinds.Temporary 1; number = numbers.Char }))
unfolding digits
a_temporary = refl

an_old : in_f a_term (codes "(old n)") ≡ Ok (trees.variable (unsigned_variable (kinds.Old 0)))
an_old = refl

a_result : in_f a_term (codes "(result)") ≡ Ok (trees.variable (unsigned_variable kinds.Returned))
a_result = refl

a_sum : in_f a_term (codes "(add n 5 n)") ≡ Ok (trees.add (terms_of (n ∷ five ∷ n ∷ [])))
a_sum = refl

a_difference : in_f a_term (codes "(sub n 5)") ≡ Ok (trees.sub n five)
a_difference = refl

a_product : in_f a_term (codes "(mul n 5)") ≡ Ok (trees.mul (terms_of (n ∷ five ∷ [])))
a_product = refl

a_quotient : in_f a_term (codes "(div n 5)") ≡ Ok (trees.div n 5)
a_quotient = refl

a_wrapped : in_f a_term (codes "(wrapu (wraps (bits n)))") ≡ Ok (trees.wrapu (trees.wraps (trees.bits n)))
a_wrapped = refl

-- ---- conditions

le : in_f a_condition (codes "(le n 5)") ≡ Ok (trees.le n five)
le = refl

lt : in_f a_condition (codes "(lt n 5)") ≡ Ok (trees.lt n five)
lt = refl

eq : in_f a_condition (codes "(eq n 5)") ≡ Ok (trees.eq n five)
eq = refl

ne : in_f a_condition (codes "(not (ne n 5))") ≡ Ok (trees.not (trees.ne n five))
ne = refl

and : in_f a_condition (codes "(and (le n n) (lt n n))") ≡ Ok (trees.and (conds_of (trees.le n n ∷ trees.lt n n ∷ [])))
and = refl

or : in_f a_condition (codes "(or (le n n) (lt n n))") ≡ Ok (trees.or (conds_of (trees.le n n ∷ trees.lt n n ∷ [])))
or = refl

-- ---- assertions

a_natural_number : in_f an_assertion (codes "7") ≡ Ok (trees.natural 7)
a_natural_number = refl

inf : in_f an_assertion (codes "(inf)") ≡ Ok trees.infinity
inf = refl

cost : in_f an_assertion (codes "(cost g)") ≡ Ok (trees.cost 1)
cost = refl

num : in_f an_assertion (codes "(num n)") ≡ Ok (trees.num n)
num = refl

total : in_f an_assertion (codes "(add 1 (cost f))") ≡ Ok (trees.total (assertions_of (trees.natural 1 ∷ trees.cost 0 ∷ [])))
total = refl

greatest : in_f an_assertion (codes "(max 1 2)") ≡ Ok (trees.greatest (assertions_of (trees.natural 1 ∷ trees.natural 2 ∷ [])))
greatest = refl

product : in_f an_assertion (codes "(mul 1 2)") ≡ Ok (trees.product (assertions_of (trees.natural 1 ∷ trees.natural 2 ∷ [])))
product = refl

guard : in_f an_assertion (codes "(guard (le n 5) 1)") ≡ Ok (trees.guard (trees.le n five) (trees.natural 1))
guard = refl

choice : in_f an_assertion (codes "(if (le n 5) 1 2)") ≡ Ok (trees.choose (trees.le n five) (trees.natural 1) (trees.natural 2))
choice = refl

name : in_f an_assertion (codes "(name d)") ≡ Ok (trees.named (codes "d"))
name = refl

-- ---- definitions

a_definition : defined (codes "(add (cost f) (max (mul 2 3) (name d)))") ≡ Ok (trees.total (assertions_of (trees.cost 0 ∷ trees.greatest (assertions_of (trees.product (assertions_of (trees.natural 2 ∷ trees.natural 3 ∷ [])) ∷ trees.named (codes "d") ∷ [])) ∷ [])))
a_definition = refl

no_infinity_there : defined (codes "(add 1 (inf))") ≡ Err (UnknownForm 7)
no_infinity_there = refl

no_terms_there : defined (codes "(num 3)") ≡ Err (UnknownForm 0)
no_terms_there = refl

-- ---- certificates

same : in_f a_certificate (codes "(same)") ≡ Ok certificates.same
same = refl

via : in_f a_certificate (codes "(via 3 (same) (same))") ≡ Ok (certificates.via (trees.natural 3) certificates.same certificates.same)
via = refl

pick : in_f a_certificate (codes "(pick -1 (same))") ≡ Ok (certificates.pick (negsuc 0) certificates.same)
pick = refl

all : in_f a_certificate (codes "(all (same) (all))") ≡ Ok (certificates.all (certs_of (certificates.same ∷ certificates.all (certs_of []) ∷ [])))
all = refl

parts : in_f a_certificate (codes "(parts (same))") ≡ Ok (certificates.parts (certs_of (certificates.same ∷ [])))
parts = refl

assume : in_f a_certificate (codes "(assume (same))") ≡ Ok (certificates.assume certificates.same)
assume = refl

drop : in_f a_certificate (codes "(drop (absurd ((1 0))) (same))") ≡ Ok (certificates.drop (certificates.contradict (once 1 (pos 0) ∷ [])) certificates.same)
drop = refl

split : in_f a_certificate (codes "(split (eq n 5) (same) (same))") ≡ Ok (certificates.split (trees.eq n five) certificates.same certificates.same)
split = refl

arith : in_f a_certificate (codes "(arith ((1 6 10) (2 -1)))") ≡ Ok (certificates.arithmetic (twice 1 (pos 6) (pos 10) ∷ once 2 (negsuc 0) ∷ []))
arith = refl

by_definition : in_f a_certificate (codes "(unfold nowhere (same))") ≡ Ok (certificates.by_definition (codes "nowhere") certificates.same)
by_definition = refl

abbrev behind : certificates.FactTree → certificates.CertTree
behind fact = certificates.fact fact certificates.same

range : in_f a_certificate (codes "(range n (same))") ≡ Ok (behind (certificates.range (unsigned_variable (kinds.Plain 0))))
range = refl

range_of_an_old : in_f a_certificate (codes "(range (old n) (same))") ≡ Ok (behind (certificates.range (unsigned_variable (kinds.Old 0))))
range_of_an_old = refl

range_of_the_result : in_f a_certificate (codes "(range (result) (same))") ≡ Ok (behind (certificates.range (unsigned_variable kinds.Returned)))
range_of_the_result = refl

range_of_a_cost : in_f a_certificate (codes "(range (cost g) (same))") ≡ Ok (behind (certificates.cost_range 1))
range_of_a_cost = refl

apart : in_f a_certificate (codes "(apart 0 ((1 1)) (same))") ≡ Ok (behind (certificates.apart (pos 0) (once 1 (pos 1) ∷ [])))
apart = refl

num_is : in_f a_certificate (codes "(num n () (same))") ≡ Ok (behind (certificates.num_is n []))
num_is = refl

num_bounds : in_f a_certificate (codes "(pos n (same))") ≡ Ok (behind (certificates.num_bounds n))
num_bounds = refl

wrapu_is : in_f a_certificate (codes "(wrapu n ((1 3)) () (same))") ≡ Ok (behind (certificates.wrapu_is n (once 1 (pos 3) ∷ []) []))
wrapu_is = refl

wraps_is : in_f a_certificate (codes "(wraps n ((1 3)) () (same))") ≡ Ok (behind (certificates.wraps_is n (once 1 (pos 3) ∷ []) []))
wraps_is = refl

wrapu_bounds : in_f a_certificate (codes "(boundu n (same))") ≡ Ok (behind (certificates.wrapu_bounds n))
wrapu_bounds = refl

wraps_bounds : in_f a_certificate (codes "(bounds n (same))") ≡ Ok (behind (certificates.wraps_bounds n))
wraps_bounds = refl

quotient_by_zero_reads : in_f a_certificate (codes "(div n 0 (same))") ≡ Ok (behind (certificates.quotient_bounds n 0))
quotient_by_zero_reads = refl

bits_bound : in_f a_certificate (codes "(bits n (same))") ≡ Ok (behind (certificates.bits_bound n))
bits_bound = refl

bits_half : in_f a_certificate (codes "(half n () (same))") ≡ Ok (behind (certificates.bits_half n []))
bits_half = refl

bits_rise : in_f a_certificate (codes "(mono n 5 () (same))") ≡ Ok (behind (certificates.bits_rise n five []))
bits_rise = refl

-- ---- derivations

loop : in_f a_derivation (codes "(loop 4 (same) (leaf) (seq))") ≡ Ok (derivations.loop (trees.natural 4) certificates.same derivations.leaf (derivations.sequence (derivations_of [])))
loop = refl

switch : in_f a_derivation (codes "(switch (leaf) (switch))") ≡ Ok (derivations.switch (derivations_of (derivations.leaf ∷ derivations.switch (derivations_of []) ∷ [])))
switch = refl

conditional : in_f a_derivation (codes "(seq (if (leaf) (bal)))") ≡ Ok (derivations.sequence (derivations_of (derivations.conditional derivations.leaf derivations.balanced_call ∷ [])))
conditional = refl

call : in_f a_derivation (codes "(call 0 (same))") ≡ Ok (derivations.call (trees.natural 0) certificates.same)
call = refl

consequence : in_f a_derivation (codes "(use 0 (same) (use 1 (same) (leaf)))") ≡ Ok (derivations.consequence (trees.natural 0) certificates.same (derivations.consequence (trees.natural 1) certificates.same derivations.leaf))
consequence = refl

-- ---- faults of lists

an_unknown_head : in_f a_term (codes "(max n n)") ≡ Err (UnknownForm 0)
an_unknown_head = refl

no_head : in_f an_assertion (codes "(add 1 ())") ≡ Err (UnknownForm 7)
no_head = refl

a_number_as_head : in_f an_assertion (codes "(1 2)") ≡ Err (UnknownForm 0)
a_number_as_head = refl

one_part_of_a_sum : in_f an_assertion (codes "(add x)") ≡ Err (UnknownForm 0)
one_part_of_a_sum = refl

a_part_too_many : in_f a_condition (codes "(le x y z)") ≡ Err (UnknownForm 0)
a_part_too_many = refl

an_old_of_no_variable : in_f a_term (codes "(add 1 (old x))") ≡ Err (UnknownForm 7)
an_old_of_no_variable = refl

an_old_of_a_temporary : in_f a_term (codes "(add 1 (old $1))") ≡ Err (UnknownForm 7)
unfolding digits
an_old_of_a_temporary = refl

an_old_of_a_pointer : in_f a_term (codes "(add 1 (old p))") ≡ Err (UnknownForm 7)
an_old_of_a_pointer = refl

an_old_of_a_number : in_f a_term (codes "(add 1 (old 5))") ≡ Err (UnknownForm 12)
an_old_of_a_number = refl

no_result : in_g a_term (codes "(sub 1 (result))") ≡ Err (UnknownForm 7)
no_result = refl

an_unknown_name : in_f an_assertion (codes "(add 1 (name e))") ≡ Err (UnknownForm 7)
an_unknown_name = refl

a_number_as_name : in_f an_assertion (codes "(add 1 (name 5))") ≡ Err (UnknownForm 13)
a_number_as_name = refl

an_item_of_one : in_f a_combination (codes "((1 2) (3))") ≡ Err (UnknownForm 7)
an_item_of_one = refl

an_item_of_four : in_f a_combination (codes "((1 2) (3 4 5 6))") ≡ Err (UnknownForm 7)
an_item_of_four = refl

-- ---- faults of parts

a_number_as_function : in_f an_assertion (codes "(cost 5)") ≡ Err (UnknownForm 6)
a_number_as_function = refl

a_negative_assertion : in_f an_assertion (codes "(add -1 2)") ≡ Err (UnknownForm 5)
a_negative_assertion = refl

a_quotient_by_zero : in_f a_term (codes "(div n 0)") ≡ Err (UnknownForm 7)
a_quotient_by_zero = refl

no_variable : in_f a_term (codes "(add n x)") ≡ Err (UnknownForm 7)
no_variable = refl

a_pointer_is_no_variable : in_f a_term (codes "p") ≡ Err (UnknownForm 0)
a_pointer_is_no_variable = refl

a_placed_parameter_is_no_variable : in_f a_term (codes "q") ≡ Err (UnknownForm 0)
a_placed_parameter_is_no_variable = refl

a_first_variable_has_no_number : in_f a_term (codes "n#1") ≡ Err (UnknownForm 0)
unfolding digits
a_first_variable_has_no_number = refl

a_negative_factor : in_f a_combination (codes "((-1 2))") ≡ Err (UnknownForm 2)
a_negative_factor = refl

a_range_of_a_number : in_f a_certificate (codes "(range 5 (same))") ≡ Err (UnknownForm 7)
a_range_of_a_number = refl

a_range_of_a_sum : in_f a_certificate (codes "(range (add n n) (same))") ≡ Err (UnknownForm 7)
a_range_of_a_sum = refl

an_atom_as_combination : in_f a_certificate (codes "(arith 1)") ≡ Err (UnknownForm 7)
an_atom_as_combination = refl

-- ---- functions

no_such_function : in_f an_assertion (codes "(add 1 (cost h))") ≡ Err (NoSuchFunction 7)
no_such_function = refl

no_body : in_f a_certificate (codes "(range (cost putchar) (same))") ≡ Err (NoSuchFunction 7)
no_body = refl

-- the first in the order of the text
the_first_fault : in_f an_assertion (codes "(add (cost h) (name 5))") ≡ Err (NoSuchFunction 5)
the_first_fault = refl
