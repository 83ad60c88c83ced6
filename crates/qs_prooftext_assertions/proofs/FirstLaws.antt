-- Parts one by one.
use Rattle.std.proofs.Common.{◌≡◌, List, ℕ, [], Result, Err, refl}
use Rattle.qs_sexpr.specs.Parts.{Splits}
use Rattle.qs_sexpr.specs.Trees.{Sexp, Sexps, no_parts, part_and}
use Rattle.qs_sexpr.specs.declared.node.Node.{Node}
use Rattle.qs_prooftext_meaning.specs.declared.fault.TextFault.{TextFault}
use Rattle.qs_prooftext_meaning.specs.declared.fault.TextFault.TheVariants.{UnknownForm}
use Rattle.qs_prooftext_assertions.specs.Answers.{Gives, Stands, StandAll}
use Rattle.qs_prooftext_assertions.specs.Firsts.{first_means, tail}
use Rattle.qs_prooftext_meaning.specs.Kinds.{Kind, Of}
use Rattle.qs_prooftext_meaning.specs.Meanings.{means}
use Rattle.qs_prooftext_meaning.specs.Settings.{Setting}
use Rattle.qs_prooftext_assertions.proofs.PartLaws.{first_stands, others_stand, no_split, no_first}

pub first_gives : {T : Type 0} (g : Setting) (k : Kind) (view : T → Of k) (text : List ℕ) (nodes first others : List Node) (ss : Sexps) (r : Result T TextFault) → StandAll text nodes ss → Splits nodes first others → ((s : Sexp) → Stands text first s → Gives view (means g k s) r) → Gives view (first_means g k ss) r
first_gives g k view text nodes first others no_parts r h p f = no_split text nodes first others h p
first_gives g k view text nodes first others (part_and s ss) r h p f = f s (first_stands text nodes s ss first others h p)

pub first_none : (g : Setting) (k : Kind) (text : List ℕ) (nodes : List Node) (ss : Sexps) → StandAll text nodes ss → nodes ≡ [] → first_means g k ss ≡ Err (UnknownForm 0)
first_none g k text nodes no_parts h e = refl
first_none g k text nodes (part_and s ss) h e = no_first text nodes s ss h e

pub first_tree : (text : List ℕ) (nodes first others : List Node) (ss : Sexps) → StandAll text nodes ss → Splits nodes first others → (s : Sexp) × Stands text first s
first_tree text nodes first others no_parts h p = no_split text nodes first others h p
first_tree text nodes first others (part_and s ss) h p = (s, first_stands text nodes s ss first others h p)

pub tail_stands : (text : List ℕ) (nodes first others : List Node) (ss : Sexps) → StandAll text nodes ss → Splits nodes first others → StandAll text others (tail ss)
tail_stands text nodes first others no_parts h p = no_split text nodes first others h p
tail_stands text nodes first others (part_and s ss) h p = others_stand text nodes s ss first others h p

pub tail_none : (text : List ℕ) (nodes : List Node) (ss : Sexps) → StandAll text nodes ss → nodes ≡ [] → StandAll text nodes (tail ss)
tail_none text nodes no_parts h e = h
tail_none text nodes (part_and s ss) h e = no_first text nodes s ss h e

pub ruleset first_laws = (first_gives, first_none, first_tree)
