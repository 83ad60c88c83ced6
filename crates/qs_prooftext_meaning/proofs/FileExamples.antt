-- What small files mean, computed from the definitions.
use Rattle.std.proofs.Common.{◌≡◌, ℕ, ◌==◌, Bool, true, false, List, [], ◌∷◌, bytes_eq, codes, Result, Ok, Err, refl}
use Rattle.std.specs.Fmt.{digits}
use Rattle.std.specs.List.{list_all}
use Rattle.qs_assert.specs.declared.define.Define.{Define}
use Rattle.qs_assert.specs.Trees as trees
use Rattle.qs_entail.specs.Certificates as certificates
use Rattle.qs_sexpr.specs.Scan.{parts_of, scanned}
use Rattle.qs_sexpr.specs.Trees.{Sexp, Sexps}
use Rattle.qs_sexpr.specs.declared.fault.SexprFault.{SexprFault}
use Rattle.qs_triples.specs.Derivations as derivations
use Rattle.qs_triples.specs.Derivations.{EntryTree, ProofsTree}
use Rattle.qs_prooftext_meaning.specs.declared.fault.TextFault.TheVariants.{UnknownForm, Duplicate, NoSuchFunction, Unbalanced}
use Rattle.qs_prooftext_meaning.specs.Meanings.{Answer}
use Rattle.qs_prooftext_meaning.specs.Proofs.{entry_names, file_means, no_proofs}
use Rattle.qs_prooftext_meaning.specs.Reading.{told}
use Rattle.qs_prooftext_meaning.specs.Writing.{file_forms}
use Rattle.qs_prooftext_meaning.specs.Writable.{entry_stands}
use Rattle.qs_sexpr.specs.Layout.{lay_all}
use Rattle.qs_prooftext_meaning.proofs.Examples.{u}

abbrev of_scan : (is_open : ℕ → Bool) → Result (List Sexp) SexprFault → Answer ProofsTree
of_scan is_open (Ok lists) = file_means u is_open (parts_of lists)
of_scan is_open (Err fault) = Err (told fault)

-- where these functions are open
abbrev file : (is_open : ℕ → Bool) → List ℕ → Answer ProofsTree
file is_open text = of_scan is_open (scanned text)

abbrev none : ℕ → Bool
none f = false

abbrev lists_in : Result (List Sexp) SexprFault → Sexps
lists_in (Ok lists) = parts_of lists
lists_in (Err fault) = parts_of []

abbrev one_define : List ℕ → ℕ → Define
one_define name n = record { name = name; body = trees.natural n }

-- ---- readings

an_empty_file : file none (codes " ; nothing") ≡ Ok no_proofs
an_empty_file = refl

two_definitions : file none (codes "(define d 5) (define e (name later))") ≡ Ok (record { defines = one_define (codes "d") 5 ∷ record { name = codes "e"; body = trees.named (codes "later") } ∷ []; functions = [] })
two_definitions = refl

a_name_of_no_open_function : file none (codes "(define g 1) (function g (pre (name g)) (post (name f)) (entry (same)) (body (leaf)))") ≡ Err (UnknownForm 46)
a_name_of_no_open_function = refl

the_lists_with_names : entry_names (lists_in (scanned (codes "(function g) (define f 0) x (function 5) (function f 1 2)"))) ≡ codes "g" ∷ codes "f" ∷ []
the_lists_with_names = refl

-- ---- faults

lists_come_first : file none (codes "(unknown) (define d") ≡ Err (Unbalanced 19)
lists_come_first = refl

an_atom_at_the_top : file none (codes "(define d 1) x") ≡ Err (UnknownForm 13)
an_atom_at_the_top = refl

an_unknown_list : file none (codes "(defines d 1)") ≡ Err (UnknownForm 0)
an_unknown_list = refl

a_definition_without_body : file none (codes "(define d)") ≡ Err (UnknownForm 0)
a_definition_without_body = refl

a_number_as_name : file none (codes "(define 5 1)") ≡ Err (UnknownForm 8)
a_number_as_name = refl

a_second_definition : file none (codes "(define d 1) (define d x)") ≡ Err (Duplicate 13)
a_second_definition = refl

the_name_of_an_open_function : file (λ f. f == 1) (codes "(define g x)") ≡ Err (Duplicate 0)
the_name_of_an_open_function = refl

a_function_without_body : file none (codes "(function h 1 2 3 4)") ≡ Err (NoSuchFunction 0)
a_function_without_body = refl

too_few_parts : file none (codes "(function h 1 2 3)") ≡ Err (UnknownForm 0)
too_few_parts = refl

no_precondition : file none (codes "(function g (post 0) (pre 0) (entry (same)) (body (leaf)))") ≡ Err (UnknownForm 12)
no_precondition = refl

a_second_entry : file none (codes "(function g (pre 0) (post 0) (entry (same)) (body (leaf))) (function g 1 2 3 4)") ≡ Err (Duplicate 59)
a_second_entry = refl

one_entry : file (λ f. f == 0) (codes "(define g 1) (function g (pre (name g)) (post (name f)) (entry (same)) (body (leaf)))") ≡ Ok (record {
  defines = one_define (codes "g") 1 ∷ [];
  functions = record { function = 1; spec = record { pre = trees.named (codes "g"); post = trees.named (codes "f") }; entry = certificates.same; body = derivations.leaf } ∷ [];
})
one_entry = refl

-- an entry knows the definitions before it
a_later_definition : file none (codes "(function g (pre (name d)) (post 0) (entry (same)) (body (leaf))) (define d 1)") ≡ Err (UnknownForm 17)
a_later_definition = refl

-- ---- writing

-- a text with every head
abbrev every_head : List ℕ
every_head =
    codes "(define d (add 1 (max (cost f) (mul 2 (name g))))) (function f (pre (if (and (le n 5) (lt n -5)) (guard (or (eq n 5) (not (ne n 5))) (inf)) (num (add n (mul n 2))))) (post (num (sub (old n) (div (wrapu (wraps (bits (result)))) 3)))) (entry (via (name d) (pick 1 (all (same) (parts))) (assume (drop (absurd ()) (split (le n n) (arith ((1 2) (3 4 -5))) (unfold d (same))))))) (body (seq (if (leaf) (bal)) (loop (name d) (range n (range (cost f) (range (result) (range (old n) (apart 0 () (num n () (pos n (wrapu n () () (wraps n () () (boundu n (bounds n (div n 0 (bits n (half n () (mono n n () (same)))))))))))))))) (leaf) (seq)) (call 0 (same)) (use 1 (same) (leaf)))))"

-- the same, as it is laid out
abbrev laid_out : List ℕ
laid_out =
    codes "(define d (add 1 (max (cost f) (mul 2 (name g)))))\n(function f\n  (pre\n    (if (and (le n 5) (lt n -5)) (guard (or (eq n 5) (not (ne n 5))) (inf)) (num (add n (mul n 2))))\n  )\n  (post (num (sub (old n) (div (wrapu (wraps (bits (result)))) 3))))\n  (entry\n    (via\n      (name d)\n      (pick 1 (all (same) (parts)))\n      (assume (drop (absurd ()) (split (le n n) (arith ((1 2) (3 4 -5))) (unfold d (same)))))\n    )\n  )\n  (body\n    (seq\n      (if (leaf) (bal))\n      (loop\n        (name d)\n        (range n\n          (range\n            (cost f)\n            (range\n              (result)\n              (range\n                (old n)\n                (apart 0\n                  ()\n                  (num n\n                    ()\n                    (pos n\n                      (wrapu n\n                        ()\n                        ()\n                        (wraps n\n                          ()\n                          ()\n                          (boundu n (bounds n (div n 0 (bits n (half n () (mono n n () (same)))))))\n                        )\n                      )\n                    )\n                  )\n                )\n              )\n            )\n          )\n        )\n        (leaf)\n        (seq)\n      )\n      (call 0 (same))\n      (use 1 (same) (leaf))\n    )\n  )\n)\n"

abbrev written : Answer ProofsTree → List ℕ
written (Ok proofs) = lay_all (file_forms u proofs)
written (Err fault) = []

it_reads_and_is_written : written (file none every_head) ≡ laid_out
unfolding digits
it_reads_and_is_written = refl

abbrev entries_of_file : Answer ProofsTree → List EntryTree
entries_of_file (Ok proofs) = proofs.functions
entries_of_file (Err fault) = []

it_stands : list_all (entry_stands u (bytes_eq (codes "d"))) (entries_of_file (file none every_head)) ≡ true
unfolding digits
it_stands = refl
