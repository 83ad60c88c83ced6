use Rattle.std.proofs.Common.{◌≡◌, ◌-◌, ⊎_elim, arith, sym, subst}
use Rattle.std.proofs.lemmas.Bool.{cases_eq}
use Rattle.qs_alloc.specs.Registers.{Blocked}
use Rattle.qs_alloc.proofs.RegisterLaws.{further_on, blocked_on}
use Rattle.qs_alloc.proofs.registers.fill.Goals as goal

pub loop-left-preserved : goal.loop-left-preserved
loop-left-preserved c =
    let i = c.loop-left.invariant in
    let s = c.in_ok-settle.ensures in
    record {
      filled = s.filled;
      further = further_on _ _ _ i.further s.further;
      low = omega arith;
      blocked = λ t l m. ⊎_elim
          (λ (e : t ≡ c.loop-left.left - 1). subst (Blocked c.args.parameters.now c.args.code.now c.args.rows.now c.settle.new.at) (sym e) s.blocked)
          (λ (ne : t ≡ c.loop-left.left - 1 → ⊥). blocked_on _ _ _ _ _ _ s.further (i.blocked t (omega arith) m))
          (cases_eq t (c.loop-left.left - 1));
    }

pub returns : goal.returns
returns c =
    let i = c.loop-left.invariant in
    record {
      filled = i.filled;
      further = i.further;
      blocked = λ t l. i.blocked t (omega arith) l;
    }
