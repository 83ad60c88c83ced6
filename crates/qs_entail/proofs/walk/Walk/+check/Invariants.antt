use Rattle.std.proofs.Common.{◌≡◌, drop}
use Rattle.qs_assert.specs.Trees.{assertions_of}
use Rattle.qs_entail.specs.Verdicts.{faults_all, faults_parts}
use Rattle.qs_entail.specs.View.{certs_tree, known_view}
use Rattle.qs_entail.specs.Walking.{place}
use Rattle.qs_entail.proofs.walk.Walk.+check.Given as goal

-- the verdict is that on the parts that are left

abbrev pub invariant-check_each-loop-i : goal.invariant-check_each-loop-i
invariant-check_each-loop-i l = record {
  back : place l.self ≡ place l.initial.self;
  rest : faults_all (certs_tree l.parts) 0 l.defines (known_view l.initial.self.known) l.p (assertions_of l.fn.members) ≡ faults_all (certs_tree (drop l.i l.parts)) l.i l.defines (known_view l.initial.self.known) l.p (assertions_of l.rest);
}

abbrev pub invariant-check_pairs-loop-i : goal.invariant-check_pairs-loop-i
invariant-check_pairs-loop-i l = record {
  back : place l.self ≡ place l.initial.self;
  rest : faults_parts (certs_tree l.parts) 0 l.defines (known_view l.initial.self.known) (assertions_of l.fn.left) (assertions_of l.fn.right) ≡ faults_parts (certs_tree (drop l.i l.parts)) l.i l.defines (known_view l.initial.self.known) (assertions_of l.lefts) (assertions_of l.rights);
}
