use Rattle.std.proofs.Common.{◌∙◌}
use Rattle.qs_prooftext_meaning.proofs.DefinitionLaws.{indexed_more, when_ok}
use Rattle.qs_prooftext_meaning.proofs.definitions.Definitions.add.Goals as goal

pub invariant_of-self-2 : goal.invariant_of-self-2
invariant_of-self-2 c =
    let s = c.args.self.now in
    let inserted = when_ok c.insert.result _ (c.insert.ensures.succeeds c.in_ok-reserve.ensures.ok) c.insert.ensures.keys in
    record {
      indexed = indexed_more s.names.keys c.reserve.new.self.keys c.insert.new.self.keys c.in_ok-key.key s.defines.items c.push.new.self.items c.args.define s.indexed c.reserve.ensures.keys inserted
          (c.in_ok-key.ensures.items ∙ c.bytes.ensures) c.in_ok-push.ensures.items;
    }
