-- Nodes of certificates without the certificates in them.
use Rattle.std.specs.Prelude.{ℕ, ℤ, List, Ok}
use Rattle.qs_base.specs.Results.{bind}
use Rattle.qs_assert.specs.Reading.{others}
use Rattle.qs_assert.specs.Stacks.{first_or}
use Rattle.qs_assert.specs.Trees.{AssertionTree, CondTree}
use Rattle.qs_entail.specs.Certificates as certificates
use Rattle.qs_entail.specs.Certificates.{Item, FactTree, CertTree}
use Rattle.qs_entail.specs.View.{certs_of, fact_tree, items_view}
use Rattle.qs_sexpr.specs.Trees.{Sexps}
use Rattle.qs_prooftext.specs.declared.heads.CertHead.{CertHead}
use Rattle.qs_prooftext.specs.declared.heads.CertHead.TheVariants as heads
use Rattle.qs_prooftext.specs.declared.rules.FactWord.{FactWord}
use Rattle.qs_prooftext.specs.declared.rules.FactWord.TheVariants as facts
use Rattle.qs_prooftext.specs.declared.rules.Rule.{Rule}
use Rattle.qs_prooftext.specs.declared.rules.Rule.TheVariants as rules
use Rattle.qs_prooftext_assertions.specs.Facts.{apart_means, num_means, half_means, quotient_means, wrapu_means, wraps_means, rise_means}
use Rattle.qs_prooftext_assertions.specs.Firsts.{first_means}
use Rattle.qs_prooftext_meaning.specs.Kinds.{a_combination, a_condition, a_name, a_range, a_term, an_assertion, an_index}
use Rattle.qs_prooftext_meaning.specs.Meanings.{Answer}
use Rattle.qs_prooftext.specs.Planting.{Shape, firsts}
use Rattle.qs_prooftext_meaning.specs.Settings.{Setting}

pub data HeadTree : Type 0 where
  same : HeadTree
  via : AssertionTree → HeadTree
  pick : ℤ → HeadTree
  -- with so many parts
  all parts : ℕ → HeadTree
  assume drop : HeadTree
  split : CondTree → HeadTree
  contradict arithmetic : List Item → HeadTree
  by_definition : List ℕ → HeadTree
  fact : FactTree → HeadTree

abbrev pub head_view : CertHead → HeadTree
head_view heads.Same = same
head_view (heads.Via a) = via a
head_view (heads.Pick i) = pick i
head_view (heads.All n) = all n
head_view (heads.Parts n) = parts n
head_view heads.Assume = assume
head_view heads.DropGuard = drop
head_view (heads.Split c) = split c
head_view (heads.Contradict w) = contradict (items_view w.items)
head_view (heads.Arithmetic w) = arithmetic (items_view w.items)
head_view (heads.ByDefinition n) = by_definition n
head_view (heads.Fact f) = fact (fact_tree f)

-- ---- what the first parts are

abbrev pub via_means : Setting → Sexps → Answer HeadTree
via_means g ss = bind (first_means g an_assertion ss) (λ a. Ok (via a))

abbrev pub pick_means : Setting → Sexps → Answer HeadTree
pick_means g ss = bind (first_means g an_index ss) (λ i. Ok (pick i))

abbrev pub split_means : Setting → Sexps → Answer HeadTree
split_means g ss = bind (first_means g a_condition ss) (λ c. Ok (split c))

abbrev pub contradict_means : Setting → Sexps → Answer HeadTree
contradict_means g ss = bind (first_means g a_combination ss) (λ w. Ok (contradict w))

abbrev pub arithmetic_means : Setting → Sexps → Answer HeadTree
arithmetic_means g ss = bind (first_means g a_combination ss) (λ w. Ok (arithmetic w))

abbrev pub unfold_means : Setting → Sexps → Answer HeadTree
unfold_means g ss = bind (first_means g a_name ss) (λ n. Ok (by_definition n))

abbrev pub head_means : Setting → Rule → (n : ℕ) → Sexps → Answer HeadTree
head_means g rules.Same n ss = Ok same
head_means g rules.Via n ss = via_means g ss
head_means g rules.Pick n ss = pick_means g ss
head_means g rules.All n ss = Ok (all n)
head_means g rules.Parts n ss = Ok (parts n)
head_means g rules.Assume n ss = Ok assume
head_means g rules.Drop n ss = Ok drop
head_means g rules.Split n ss = split_means g ss
head_means g rules.Contradict n ss = contradict_means g ss
head_means g rules.Arithmetic n ss = arithmetic_means g ss
head_means g rules.ByDefinition n ss = unfold_means g ss

abbrev pub num_bounds_means : Setting → Sexps → Answer FactTree
num_bounds_means g ss = bind (first_means g a_term ss) (λ t. Ok (certificates.num_bounds t))

abbrev pub wrapu_bounds_means : Setting → Sexps → Answer FactTree
wrapu_bounds_means g ss = bind (first_means g a_term ss) (λ t. Ok (certificates.wrapu_bounds t))

abbrev pub wraps_bounds_means : Setting → Sexps → Answer FactTree
wraps_bounds_means g ss = bind (first_means g a_term ss) (λ t. Ok (certificates.wraps_bounds t))

abbrev pub bits_bound_means : Setting → Sexps → Answer FactTree
bits_bound_means g ss = bind (first_means g a_term ss) (λ t. Ok (certificates.bits_bound t))

abbrev pub fact_means : Setting → FactWord → Sexps → Answer FactTree
fact_means g facts.Range ss = first_means g a_range ss
fact_means g facts.Apart ss = apart_means g ss
fact_means g facts.NumIs ss = num_means g ss
fact_means g facts.NumBounds ss = num_bounds_means g ss
fact_means g facts.WrapUnsignedIs ss = wrapu_means g ss
fact_means g facts.WrapSignedIs ss = wraps_means g ss
fact_means g facts.WrapUnsignedBounds ss = wrapu_bounds_means g ss
fact_means g facts.WrapSignedBounds ss = wraps_bounds_means g ss
fact_means g facts.QuotientBounds ss = quotient_means g ss
fact_means g facts.BitsBound ss = bits_bound_means g ss
fact_means g facts.BitsHalf ss = half_means g ss
fact_means g facts.BitsRise ss = rise_means g ss

-- ---- certificates from their heads, the last first

abbrev pub first_cert : List CertTree → CertTree
first_cert cs = first_or certificates.same cs

abbrev pub first_certs : ℕ → List CertTree → List CertTree
first_certs n cs = firsts certificates.same n cs

-- how many certificates are its parts
abbrev pub arity : HeadTree → ℕ
arity same = 0
arity (via a) = 2
arity (pick i) = 1
arity (all n) = n
arity (parts n) = n
arity assume = 1
arity drop = 2
arity (split c) = 2
arity (contradict w) = 0
arity (arithmetic w) = 0
arity (by_definition n) = 1
arity (fact f) = 1

-- the certificate with this head and these first parts
abbrev pub planted : HeadTree → List CertTree → CertTree
planted same cs = certificates.same
planted (via a) cs = certificates.via a (first_cert cs) (first_cert (others cs))
planted (pick i) cs = certificates.pick i (first_cert cs)
planted (all n) cs = certificates.all (certs_of (first_certs n cs))
planted (parts n) cs = certificates.parts (certs_of (first_certs n cs))
planted assume cs = certificates.assume (first_cert cs)
planted drop cs = certificates.drop (first_cert cs) (first_cert (others cs))
planted (split c) cs = certificates.split c (first_cert cs) (first_cert (others cs))
planted (contradict w) cs = certificates.contradict w
planted (arithmetic w) cs = certificates.arithmetic w
planted (by_definition n) cs = certificates.by_definition n (first_cert cs)
planted (fact f) cs = certificates.fact f (first_cert cs)

abbrev pub cert_shape : Shape HeadTree CertTree
cert_shape = record { arity = arity; planted = planted; blank = certificates.same }
