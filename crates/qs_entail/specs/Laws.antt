-- How verdicts under hypotheses and faults of nodes go together.
use Rattle.std.specs.Prelude.{◌≡◌, List, Ok}
use Rattle.qs_assert.specs.declared.define.Define.{Define}
use Rattle.qs_assert.specs.Trees.{CondTree, AssertionTree}
use Rattle.qs_entail.specs.Certificates.{CertTree}
use Rattle.qs_entail.specs.Pushing.{Known, at_first, push_list}
use Rattle.qs_entail.specs.Verdicts.{verdict, fault}

-- Where the hypotheses pass no limit, the verdict is the first fault of the certificate under what they push.
abbrev pub RootIsANode : Type 0
RootIsANode =
    (hypotheses : List CondTree) (ds : List Define) (p q : AssertionTree) (c : CertTree) (k : Known) → push_list hypotheses at_first ≡ Ok k → verdict hypotheses ds p q c ≡ fault c ds k p q
