use Rattle.std.proofs.Common.{◌≡◌, ◌+◌, ◌*◌, ◌/◌, ◌++◌, true, length, slice_set, is_ok, refl, ap, ◌∙◌, arith, ℕ}
use Rattle.std.specs.Prelude.{replicate}
use Rattle.std.proofs.Math.ListN.{length-set}
use Rattle.qs_machine.proofs.PageLaws.{room_for_one, number-whole, resized, same_after, pages_after}
use Rattle.qs_machine.proofs.pages.Pages.touch.Goals as goal

pub unwrap-requires : goal.unwrap-requires
unwrap-requires c =
    let v = c.args.self.now in
    let room = room_for_one v.start v.end v.table.items v.bytes.items c.args.page v.bytes.cap v.pages v.room c.requires.there c.requires.untouched in
    let len = v.bytes.ok.0 in
    c.resize.ensures.succeeds (omega (arith, room, len))

pub invariant_of-self : goal.invariant_of-self
invariant_of-self c =
    let v = c.args.self.now in
    let number = c.len.result / 4096 in
    let len : c.len.result ≡ length v.bytes.items = c.len.ensures ∙ v.bytes.ok.0 in
    let whole : number * 4096 ≡ length v.bytes.items = rw len (number-whole v.start v.end v.table.items v.bytes.items v.pages) in
    let done : is_ok c.resize.result ≡ true = rw c.unwrap.ensures refl in
    let count : c.len-count.result + 4096 ≡ v.bytes.len + 4096 = ap (λ (n : ℕ). n + 4096) c.len-count.ensures in
    let after : c.resize.new.self.items ≡ v.bytes.items ++ replicate 4096 0 =
    c.resize.ensures.items ∙ resized (is_ok c.resize.result) v.bytes.items (c.len-count.result + 4096) v.bytes.len done count v.bytes.ok.0 in
    let same = length-set v.table.items c.args.page number in
    let room = v.room in
    let more = c.resize.ensures.capacity in
    record {
      pages = rw after (pages_after v.start v.end v.table.items v.bytes.items v.pages c.args.page number c.requires.there c.requires.untouched whole);
      room = omega (arith, same, room, more);
    }

pub returns-clause-same : goal.returns-clause-same
returns-clause-same c =
    let v = c.args.self.now in
    let number = c.len.result / 4096 in
    let len : c.len.result ≡ length v.bytes.items = c.len.ensures ∙ v.bytes.ok.0 in
    let whole : number * 4096 ≡ length v.bytes.items = rw len (number-whole v.start v.end v.table.items v.bytes.items v.pages) in
    let done : is_ok c.resize.result ≡ true = rw c.unwrap.ensures refl in
    let count : c.len-count.result + 4096 ≡ v.bytes.len + 4096 = ap (λ (n : ℕ). n + 4096) c.len-count.ensures in
    let after : c.resize.new.self.items ≡ v.bytes.items ++ replicate 4096 0 =
    c.resize.ensures.items ∙ resized (is_ok c.resize.result) v.bytes.items (c.len-count.result + 4096) v.bytes.len done count v.bytes.ok.0 in
    record {
      start = refl;
      end = refl;
      bytes = same_after v.start v.end v.table.items v.bytes.items v.pages c.args.page number c.requires.there c.requires.untouched whole c.resize.new.self.items after;
    }
