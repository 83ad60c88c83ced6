-- Where words mean `sample`, the count of its functions is one of those of which the laws of samples speak.
use Rattle.std.proofs.Common.{◌≡◌, ℕ, ◌&&◌, nat_le, Bool, true, false, ℤ, List, [], ◌∷◌, Option, Some, None, codes, bytes_eq, if◌then◌else◌, refl, subst, arith}
use Rattle.std.specs.Prelude.{option_and_then}
use Rattle.std.proofs.lemmas.Bool.Decides.{nat_tests}
use Rattle.qs_cli.specs.Words.{Text, Values, operand, reading}
use Rattle.qs_cli.specs.Numbers.{most_sample_functions, number_of, within, steps_of, arguments_of}
use Rattle.qs_cli.specs.Commands.{Command, Build, Check, Bound, Calls, Derive, Outline, Run, Exec, Sample, Elf, Unelf, calls_words, elf_words, unelf_words, ◌⊛◌, stack_of, sample_count_of, build_options, check_options, bound_options, calls_options, derive_options, outline_options, run_options, exec_options, sample_options, elf_options, unelf_options, build_of, check_of, bound_of, calls_of, derive_of, outline_of, run_of, exec_of, sample_of, elf_of, unelf_of, command_named, meaning}
use Rattle.qs_driver.specs.SampleLaws.{IsSampleCount}

-- if this is a sample, it has such a count
abbrev HasCount : Option Command → Type 0
HasCount None = Unit {0}
HasCount (Some (Build source proof out)) = Unit {0}
HasCount (Some (Check source proof)) = Unit {0}
HasCount (Some (Bound source proof args)) = Unit {0}
HasCount (Some (Calls words)) = Unit {0}
HasCount (Some (Derive source out)) = Unit {0}
HasCount (Some (Outline source)) = Unit {0}
HasCount (Some (Run image stack args input steps)) = Unit {0}
HasCount (Some (Exec source proof args input steps)) = Unit {0}
HasCount (Some (Sample count out)) = IsSampleCount count
HasCount (Some (Elf words)) = Unit {0}
HasCount (Some (Unelf words)) = Unit {0}

-- ---- the other commands

build_has : (a p c : Option Text) → HasCount (Some (λ source proof out. Build source proof out) ⊛ a ⊛ Some p ⊛ c)
build_has None p c = tt
build_has (Some a) p None = tt
build_has (Some a) p (Some c) = tt

check_has : (a p : Option Text) → HasCount (Some (λ source proof. Check source proof) ⊛ a ⊛ Some p)
check_has None p = tt
check_has (Some a) p = tt

bound_has : (a p : Option Text) (z : Option (List ℤ)) → HasCount (Some (λ source proof args. Bound source proof args) ⊛ a ⊛ Some p ⊛ z)
bound_has None p z = tt
bound_has (Some a) p None = tt
bound_has (Some a) p (Some z) = tt

calls_has : (a p : Option Text) (z : Option (List ℤ)) → HasCount (Some (λ source proof args. Calls (calls_words source proof args)) ⊛ a ⊛ p ⊛ z)
calls_has None p z = tt
calls_has (Some a) None z = tt
calls_has (Some a) (Some p) None = tt
calls_has (Some a) (Some p) (Some z) = tt

derive_has : (a c : Option Text) → HasCount (Some (λ source out. Derive source out) ⊛ a ⊛ c)
derive_has None c = tt
derive_has (Some a) None = tt
derive_has (Some a) (Some c) = tt

outline_has : (a : Option Text) → HasCount (Some (λ source. Outline source) ⊛ a)
outline_has None = tt
outline_has (Some a) = tt

run_has : (a : Option Text) (s : Option ℕ) (z : Option (List ℤ)) (i : Option Text) (t : Option ℕ)
    → HasCount (Some (λ image stack args input steps. Run image stack args input steps) ⊛ a ⊛ s ⊛ z ⊛ Some i ⊛ t)
run_has None s z i t = tt
run_has (Some a) None z i t = tt
run_has (Some a) (Some s) None i t = tt
run_has (Some a) (Some s) (Some z) i None = tt
run_has (Some a) (Some s) (Some z) i (Some t) = tt

exec_has : (a p : Option Text) (z : Option (List ℤ)) (i : Option Text) (t : Option ℕ)
    → HasCount (Some (λ source proof args input steps. Exec source proof args input steps) ⊛ a ⊛ Some p ⊛ z ⊛ Some i ⊛ t)
exec_has None p z i t = tt
exec_has (Some a) p None i t = tt
exec_has (Some a) p (Some z) i None = tt
exec_has (Some a) p (Some z) i (Some t) = tt

elf_has : (a c : Option Text) → HasCount (Some (λ image out. Elf (elf_words image out)) ⊛ a ⊛ c)
elf_has None c = tt
elf_has (Some a) None = tt
elf_has (Some a) (Some c) = tt

unelf_has : (a c : Option Text) → HasCount (Some (λ file out. Unelf (unelf_words file out)) ⊛ a ⊛ c)
unelf_has None c = tt
unelf_has (Some a) None = tt
unelf_has (Some a) (Some c) = tt

-- ---- `sample`

count_has : (n : ℕ) (out : Option Text) (a b : Bool) → nat_le 1 n ≡ a → nat_le n most_sample_functions ≡ b
    → HasCount (Some (λ count out. Sample count out) ⊛ (if a && b then Some n else None) ⊛ Some out)
count_has n out true true e f = (grind (arith, nat_tests), grind (arith, nat_tests))
count_has n out true false e f = tt
count_has n out false b e f = tt

number_has : (o : Option ℕ) (out : Option Text) → HasCount (Some (λ count out. Sample count out) ⊛ option_and_then (within 1 most_sample_functions) o ⊛ Some out)
number_has None out = tt
number_has (Some n) out = count_has n out (nat_le 1 n) (nat_le n most_sample_functions) refl refl

sample_has : (a out : Option Text) → HasCount (Some (λ count out. Sample count out) ⊛ sample_count_of a ⊛ Some out)
sample_has None out = tt
sample_has (Some text) out = number_has (number_of 19 text) out

-- ---- the words

either : (b : Bool) (x y : Option Command) → HasCount x → HasCount y → HasCount (if b then x else y)
either true x y h k = h
either false x y h k = k

read_has : (make : Values → Option Command) → ((at : Values) → HasCount (make at)) → (r : Option Values) → HasCount (option_and_then make r)
read_has make h None = tt
read_has make h (Some at) = h at

named_has : (name : Text) (words : List Text) → HasCount (command_named name words)
named_has name words =
    either (bytes_eq name (codes "build")) _ _ (read_has build_of (λ at. build_has (at operand) (at (codes "proof")) (at (codes "out"))) (reading build_options words))
    (either (bytes_eq name (codes "check")) _ _ (read_has check_of (λ at. check_has (at operand) (at (codes "proof"))) (reading check_options words))
    (either (bytes_eq name (codes "bound")) _ _ (read_has bound_of (λ at. bound_has (at operand) (at (codes "proof")) (arguments_of (at (codes "args")))) (reading bound_options words))
    (either (bytes_eq name (codes "calls")) _ _ (read_has calls_of (λ at. calls_has (at operand) (at (codes "proof")) (arguments_of (at (codes "args")))) (reading calls_options words))
    (either (bytes_eq name (codes "derive")) _ _ (read_has derive_of (λ at. derive_has (at operand) (at (codes "out"))) (reading derive_options words))
    (either (bytes_eq name (codes "outline")) _ _ (read_has outline_of (λ at. outline_has (at operand)) (reading outline_options words))
    (either (bytes_eq name (codes "run")) _ _ (read_has run_of (λ at. run_has (at operand) (stack_of (at (codes "stack"))) (arguments_of (at (codes "args"))) (at (codes "input")) (steps_of (at (codes "steps")))) (reading run_options words))
    (either (bytes_eq name (codes "exec")) _ _ (read_has exec_of (λ at. exec_has (at operand) (at (codes "proof")) (arguments_of (at (codes "args"))) (at (codes "input")) (steps_of (at (codes "steps")))) (reading exec_options words))
    (either (bytes_eq name (codes "sample")) _ _ (read_has sample_of (λ at. sample_has (at operand) (at (codes "out"))) (reading sample_options words))
    (either (bytes_eq name (codes "elf")) _ _ (read_has elf_of (λ at. elf_has (at operand) (at (codes "out"))) (reading elf_options words))
    (either (bytes_eq name (codes "unelf")) _ _ (read_has unelf_of (λ at. unelf_has (at operand) (at (codes "out"))) (reading unelf_options words)) tt))))))))))

words_have : (words : List Text) → HasCount (meaning words)
unfolding meaning
words_have [] = tt
words_have (name ∷ words) = named_has name words

pub sample_has_count : (words : List Text) (count : ℕ) (out : Option Text) → meaning words ≡ Some (Sample count out) → IsSampleCount count
sample_has_count words count out is = subst HasCount is (words_have words)
