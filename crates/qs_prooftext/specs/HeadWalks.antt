-- What is still to be read of a tree whose heads are read one after another: of each list its head and the parts that come first.
use Rattle.std.specs.Prelude.{◌≡◌, ◌⊎◌, ℕ, ◌+◌, ◌<◌, List, [], length, map, Option, Some, Vec, Result, Ok, Err, IfOk}
use Rattle.std.specs.Borrow.{Bor}
use Rattle.std.specs.declared.alloc.Global.{Global}
use Rattle.qs_base.specs.Results.{bind}
use Rattle.qs_sexpr.specs.Trees.{Sexp, symbol, list, Sexps, part_and, count}
use Rattle.qs_sexpr.specs.declared.node.Node.{Node}
use Rattle.qs_prooftext_meaning.specs.declared.context.Context.{Context}
use Rattle.qs_prooftext_meaning.specs.declared.fault.TextFault.{TextFault}
use Rattle.qs_prooftext_meaning.specs.declared.fault.TextFault.TheVariants as faults
use Rattle.qs_prooftext.specs.declared.lists.Headed.{Headed}
use Rattle.qs_prooftext_assertions.specs.Answers.{StandAll}
use Rattle.qs_prooftext.specs.CertHeads as certificates
use Rattle.qs_prooftext_meaning.specs.Contexts.{setting_of}
use Rattle.qs_prooftext.specs.DerivationHeads as derivations
use Rattle.qs_prooftext_assertions.specs.Firsts.{first_means, tails}
use Rattle.qs_prooftext_meaning.specs.Kinds.{Kind, Of, Row, a_certificate, a_derivation}
use Rattle.qs_prooftext_meaning.specs.Meanings.{Answer, means, list_means, each_means, all_mean}
use Rattle.qs_prooftext.specs.Planting.{Shape, grown}
use Rattle.qs_prooftext_meaning.specs.Settings.{Setting}
use Rattle.qs_prooftext_assertions.specs.Walking.{nodes_in}
use Rattle.qs_prooftext.specs.declared.heads.CertHead.{CertHead}
use Rattle.qs_prooftext.specs.declared.statements.DerivationHead.{DerivationHead}

-- ---- lists with a head

-- the list, its head at this place
abbrev pub headed_list : Headed → (place : ℕ) → Sexps → Sexp
headed_list h place parts = list h.at (part_and (symbol place h.word.now) parts)

-- its parts behind the head
pub record PartsOf (text : List ℕ) (h : Headed) (parts : Sexps) : Type 0 where
  pub counts : h.behind ≡ count parts
  pub stand : StandAll text h.parts.now parts

pub record FirstIs (text : List ℕ) (ss : Sexps) (h : Headed) : Type 0 where
  pub place : ℕ
  pub parts : Sexps
  pub others : Sexps
  pub same : ss ≡ part_and (headed_list h place parts) others
  pub whole : PartsOf text h parts

-- the first is no list with a head, which is this fault
pub record FirstFails (ss : Sexps) (fault : TextFault) : Type 0 where
  pub as_certificate : (g : Setting) → first_means g a_certificate ss ≡ Err fault
  pub as_derivation : (g : Setting) → first_means g a_derivation ss ≡ Err fault

abbrev pub IsFirst : (text : List ℕ) → Sexps → Result Headed TextFault → Type 0
IsFirst text ss (Ok h) = FirstIs text ss h
IsFirst text ss (Err fault) = FirstFails ss fault

-- a list with this row and these parts
abbrev pub listed : {k : Kind} → Setting → (at : ℕ) → Option (Row k) → Sexps → Answer (Of k)
listed g at row parts = list_means at row (count parts) (λ ks. each_means g ks parts) (λ a. all_mean g a parts)

-- ---- heads

-- what is due has this head, and so many of the parts come before those that are trees of the kind
pub record HasHead {H : Type 0} (k : Kind) (shape : Shape H (Of k)) (g : Setting) (due : Answer (Of k)) (parts : Sexps) (head : H) (leaves : ℕ) : Type 0 where
  pub same : due ≡ bind (all_mean g k (tails leaves parts)) (λ vs. Ok (shape.planted head vs))
  pub fits : leaves + shape.arity head ≡ count parts

abbrev pub GivesHead : {H T : Type 0} → (k : Kind) → Shape H (Of k) → (T → H) → Setting → (due : Answer (Of k)) → (parts : Sexps) → Result (T × ℕ) TextFault → Type 0
GivesHead k shape view g due parts (Ok made) = HasHead k shape g due parts (view made.0) made.1
GivesHead k shape view g due parts (Err fault) = (due ≡ Err fault) ⊎ (fault ≡ faults.NoMemory)

-- ---- the walk

-- these heads of what is due are read, and the rest is of the kind
pub record HeadsLeft {H : Type 0} (k : Kind) (shape : Shape H (Of k)) (g : Setting) (text : List ℕ) (rest : List Node) (heads : List H) (due : Answer (Of k)) : Type 0 where
  pub forest : Sexps
  pub stand : StandAll text rest forest
  pub same : bind (all_mean g k forest) (λ vs. Ok (grown shape heads vs)) ≡ due

abbrev pub HeadsGo : {H : Type 0} → (k : Kind) → Shape H (Of k) → Setting → (text : List ℕ) → Result (List Node) TextFault → (heads : List H) → (due : Answer (Of k)) → Type 0
HeadsGo k shape g text (Ok rest) heads due = HeadsLeft k shape g text rest heads due
HeadsGo k shape g text (Err fault) heads due = (due ≡ Err fault) ⊎ (fault ≡ faults.NoMemory)

-- ---- trees of a kind

-- how trees of a kind are read: what their heads make, and what the heads are that are read
pub record Walk (k : Kind) (H T : Type 0) : Type 0 where
  pub shape : Shape H (Of k)
  pub view : T → H

abbrev pub certificate_walk : Walk a_certificate certificates.HeadTree CertHead
certificate_walk = record { shape = certificates.cert_shape; view = certificates.head_view }

abbrev pub derivation_walk : Walk a_derivation derivations.HeadTree DerivationHead
derivation_walk = record { shape = derivations.derivation_shape; view = derivations.derivation_head }

-- the answer is the head of this list, which has this row
abbrev pub RowHead :
    {k : Kind} {H T : Type 0} → Walk k H T → Context → Headed → Row k → Result (T × ℕ) TextFault → Type 0
RowHead {k = k} walk c headed row result =
    (parts : Sexps) → PartsOf c.text.now headed parts
    → GivesHead k walk.shape walk.view (setting_of c) (listed (setting_of c) headed.at (Some row) parts) parts result

-- the answer is the head of this list
abbrev pub ListHead :
    {k : Kind} {H T : Type 0} → Walk k H T → Context → Headed → Result (T × ℕ) TextFault → Type 0
ListHead {k = k} walk c headed result =
    (place : ℕ) (parts : Sexps) → PartsOf c.text.now headed parts
    → GivesHead k walk.shape walk.view (setting_of c) (means (setting_of c) k (headed_list headed place parts)) parts result

-- the answer is the tree with these heads
abbrev pub Grows :
    {k : Kind} {H T R E : Type 0} → Walk k H T → (R → Of k) → (heads : Vec T Global) → Result R E → Type 0
Grows walk tree heads result = IfOk result (λ x. tree x ≡ grown walk.shape (map walk.view heads.items) [])

-- one step: what is due stays the same, a head of it being read
abbrev pub HeadStep :
    {k : Kind} {H T : Type 0} → Walk k H T → Context → (rest : List Node) → (heads heads_now : Vec T Global)
    → Result (Bor (List Node)) TextFault → Type 0
HeadStep {k = k} walk c rest heads heads_now result =
    (due : Answer (Of k)) → HeadsLeft k walk.shape (setting_of c) c.text.now rest (map walk.view heads.items) due → 0 < length rest
    → HeadsGo k walk.shape (setting_of c) c.text.now (nodes_in result) (map walk.view heads_now.items) due
