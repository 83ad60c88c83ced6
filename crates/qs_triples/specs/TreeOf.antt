-- The trees that the program's derivations stand for.
use Rattle.std.specs.Prelude.{List, [], ◌∷◌, map}
use Rattle.qs_entail.specs.View.{cert_tree}
use Rattle.qs_triples.specs.declared.derivation.Derivation.{Derivation, Derivation-F, fold-Derivation}
use Rattle.qs_triples.specs.declared.derivation.Spec.{Spec}
use Rattle.qs_triples.specs.declared.derivation.FunctionProof.{FunctionProof}
use Rattle.qs_triples.specs.declared.derivation.Proofs.{Proofs}
use Rattle.qs_triples.specs.Derivations.{DerivationTree, leaf, sequence, conditional, loop, switch, call, balanced_call, consequence, DerivationTrees, no_derivations, derivation_and, SpecTree, EntryTree, ProofsTree}

abbrev pub derivations_of : List DerivationTree → DerivationTrees
derivations_of [] = no_derivations
derivations_of (d ∷ ds) = derivation_and d (derivations_of ds)

-- one level of a derivation, with each part already seen as its tree
abbrev pub derivation_step : Derivation-F DerivationTree → DerivationTree
derivation_step Derivation-F.Leaf = leaf
derivation_step (Derivation-F.Sequence ds) = sequence (derivations_of ds.items)
derivation_step (Derivation-F.Conditional d e) = conditional d.value e.value
derivation_step (Derivation-F.Loop i c d e) = loop i (cert_tree c) d.value e.value
derivation_step (Derivation-F.Switch ds) = switch (derivations_of ds.items)
derivation_step (Derivation-F.Call a c) = call a (cert_tree c)
derivation_step Derivation-F.BalancedCall = balanced_call
derivation_step (Derivation-F.Consequence r c d) = consequence r (cert_tree c) d.value

abbrev pub derivation_tree : Derivation → DerivationTree
derivation_tree = fold-Derivation DerivationTree derivation_step

abbrev pub derivation_trees : List Derivation → DerivationTrees
derivation_trees ds = derivations_of (map derivation_tree ds)

abbrev pub spec_tree : Spec → SpecTree
spec_tree s = record { pre = s.pre; post = s.post }

abbrev pub entry_tree : FunctionProof → EntryTree
entry_tree e = record {
  function = e.function.0;
  spec = spec_tree e.spec;
  entry = cert_tree e.entry;
  body = derivation_tree e.body;
}

abbrev pub proofs_tree : Proofs → ProofsTree
proofs_tree p = record { defines = p.defines.items; functions = map entry_tree p.functions.items }
