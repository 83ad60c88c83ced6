use Rattle.std.proofs.Common.{◌≡◌, ◌∙◌, sym, ap, subst}
use Rattle.std.proofs.lemmas.Result.{IfOk-weaker}
use Rattle.qs_poly.specs.Atoms.{tree_of}
use Rattle.qs_poly.specs.Canonical.{IsCanonicalAtom}
use Rattle.qs_poly.specs.Codes.{atom_of, IsCode, atom_back, code_is_code}
use Rattle.qs_poly.specs.Operations.{single}
use Rattle.qs_poly.proofs.poly.Poly.atom.Goals as goal

pub new-requires : goal.new-requires
new-requires c = subst IsCode (sym c.in_ok-nodes.ensures.code) (code_is_code (tree_of c.args.a.now))

pub single-requires : goal.single-requires
single-requires c =
    let e : c.new.result ≡ tree_of c.args.a.now = c.new.ensures ∙ ap atom_of c.in_ok-nodes.ensures.code ∙ atom_back (tree_of c.args.a.now) in
    record { canonical = subst IsCanonicalAtom (sym e) c.in_ok-nodes.ensures.canonical }

pub returns : goal.returns
returns c =
    let e : c.new.result ≡ tree_of c.args.a.now = c.new.ensures ∙ ap atom_of c.in_ok-nodes.ensures.code ∙ atom_back (tree_of c.args.a.now) in
    IfOk-weaker c.single.result _ _ (λ p h. h ∙ ap single e) c.single.ensures
