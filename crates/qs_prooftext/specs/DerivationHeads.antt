-- Nodes of derivations without the derivations in them.
use Rattle.std.specs.Prelude.{ℕ, List, Ok}
use Rattle.qs_base.specs.Results.{bind}
use Rattle.qs_assert.specs.Reading.{others}
use Rattle.qs_assert.specs.Stacks.{first_or}
use Rattle.qs_assert.specs.Trees.{AssertionTree}
use Rattle.qs_entail.specs.Certificates.{CertTree}
use Rattle.qs_entail.specs.View.{cert_tree}
use Rattle.qs_sexpr.specs.Trees.{Sexps}
use Rattle.qs_triples.specs.Derivations as derivations
use Rattle.qs_triples.specs.Derivations.{DerivationTree}
use Rattle.qs_triples.specs.TreeOf.{derivations_of}
use Rattle.qs_prooftext.specs.declared.statements.DerivationHead.{DerivationHead}
use Rattle.qs_prooftext.specs.declared.statements.DerivationHead.TheVariants as heads
use Rattle.qs_prooftext.specs.declared.statements.Reason.{Reason}
use Rattle.qs_prooftext.specs.declared.statements.Statement.{Statement}
use Rattle.qs_prooftext.specs.declared.statements.Statement.TheVariants as statements
use Rattle.qs_prooftext_assertions.specs.Firsts.{first_means, tail}
use Rattle.qs_prooftext_meaning.specs.Kinds.{Row, none, two, three, four, any, a_certificate, a_derivation, an_assertion}
use Rattle.qs_prooftext_meaning.specs.Meanings.{Answer}
use Rattle.qs_prooftext.specs.Planting.{Shape, firsts}
use Rattle.qs_prooftext_meaning.specs.Settings.{Setting}

pub data HeadTree : Type 0 where
  leaf : HeadTree
  -- with so many parts
  sequence : ℕ → HeadTree
  conditional : HeadTree
  -- with an assertion and its certificate
  loop call : AssertionTree × CertTree → HeadTree
  -- with so many parts
  switch : ℕ → HeadTree
  balanced_call : HeadTree
  consequence : AssertionTree × CertTree → HeadTree

abbrev pub reason_view : Reason → AssertionTree × CertTree
reason_view r = (r.assertion, cert_tree r.certificate)

abbrev pub derivation_head : DerivationHead → HeadTree
derivation_head heads.Leaf = leaf
derivation_head (heads.Sequence n) = sequence n
derivation_head heads.Conditional = conditional
derivation_head (heads.Loop r) = loop (reason_view r)
derivation_head (heads.Switch n) = switch n
derivation_head (heads.Call r) = call (reason_view r)
derivation_head heads.BalancedCall = balanced_call
derivation_head (heads.Consequence r) = consequence (reason_view r)

-- ---- what a list with each head is

abbrev pub statement_row : Statement → Row a_derivation
statement_row statements.Leaf = none derivations.leaf
statement_row statements.Sequence = any a_derivation (λ ds. derivations.sequence (derivations_of ds))
statement_row statements.Conditional = two a_derivation a_derivation derivations.conditional
statement_row statements.Loop = four an_assertion a_certificate a_derivation a_derivation derivations.loop
statement_row statements.Switch = any a_derivation (λ ds. derivations.switch (derivations_of ds))
statement_row statements.Call = two an_assertion a_certificate derivations.call
statement_row statements.BalancedCall = none derivations.balanced_call
statement_row statements.Consequence = three an_assertion a_certificate a_derivation derivations.consequence

-- ---- what the first parts are

abbrev pub reason_means : Setting → Sexps → Answer (AssertionTree × CertTree)
reason_means g ss = bind (first_means g an_assertion ss) (λ a. bind (first_means g a_certificate (tail ss)) (λ c. Ok (a, c)))

abbrev pub statement_means : Setting → Statement → (n : ℕ) → Sexps → Answer HeadTree
statement_means g statements.Leaf n ss = Ok leaf
statement_means g statements.Sequence n ss = Ok (sequence n)
statement_means g statements.Conditional n ss = Ok conditional
statement_means g statements.Loop n ss = bind (reason_means g ss) (λ r. Ok (loop r))
statement_means g statements.Switch n ss = Ok (switch n)
statement_means g statements.Call n ss = bind (reason_means g ss) (λ r. Ok (call r))
statement_means g statements.BalancedCall n ss = Ok balanced_call
statement_means g statements.Consequence n ss = bind (reason_means g ss) (λ r. Ok (consequence r))

-- with so many parts behind its head
abbrev pub head_of : Statement → (n : ℕ) → Setting → Sexps → Answer HeadTree
head_of statement n g ss = statement_means g statement n ss

-- ---- derivations from their heads, the last first

abbrev pub first_derivation : List DerivationTree → DerivationTree
first_derivation ds = first_or derivations.leaf ds

abbrev pub first_derivations : ℕ → List DerivationTree → List DerivationTree
first_derivations n ds = firsts derivations.leaf n ds

-- how many derivations are its parts
abbrev pub arity : HeadTree → ℕ
arity leaf = 0
arity (sequence n) = n
arity conditional = 2
arity (loop r) = 2
arity (switch n) = n
arity (call r) = 0
arity balanced_call = 0
arity (consequence r) = 1

-- the derivation with this head and these first parts
abbrev pub planted : HeadTree → List DerivationTree → DerivationTree
planted leaf ds = derivations.leaf
planted (sequence n) ds = derivations.sequence (derivations_of (first_derivations n ds))
planted conditional ds = derivations.conditional (first_derivation ds) (first_derivation (others ds))
planted (loop r) ds = derivations.loop r.0 r.1 (first_derivation ds) (first_derivation (others ds))
planted (switch n) ds = derivations.switch (derivations_of (first_derivations n ds))
planted (call r) ds = derivations.call r.0 r.1
planted balanced_call ds = derivations.balanced_call
planted (consequence r) ds = derivations.consequence r.0 r.1 (first_derivation ds)

abbrev pub derivation_shape : Shape HeadTree DerivationTree
derivation_shape = record { arity = arity; planted = planted; blank = derivations.leaf }
