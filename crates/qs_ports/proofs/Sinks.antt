-- One call of a sink after another.
use Rattle.std.proofs.Common.{◌≡◌, ℕ, ◌+◌, ◌≤◌, List, [], ◌++◌, length, take, drop, ap, subst, refl, arith, false, append_assoc, length-append, length-drop, Result, Ok, Err, sym, ◌∙◌}
use Rattle.std.proofs.lemmas.Grind.{common_steps}
use Rattle.std.proofs.lemmas.List.{drop-take, take-append-drop, take-append-le}
use Rattle.std.proofs.Math.Seq.{take-append-add}
use Rattle.qs_ports.specs.declared.sink.SinkFault.{SinkFault}
use Rattle.qs_ports.specs.SinkView.{SinkView, Appends, IsCut, IsProgress, Puts, PutsAll}

-- of the first d + n elements
pub take_plus : (d n : ℕ) (t : List ℕ) → take (d + n) t ≡ take d t ++ take n (drop d t)
take_plus d n t = grind (arith, common_steps, drop-take d n t, take-append-drop d (take (d + n) t))

pub record GoesOn (u w : SinkView) (t : List ℕ) (d n : ℕ) : Type 0 where
  pub within : d + n ≤ length t
  pub appended : Appends u w (take (d + n) t)

pub appends_nothing : (v : SinkView) → Appends v v []
appends_nothing v = record {
  same_faults = refl;
  was_told = λ t. t;
  written = λ t. grind (arith, common_steps);
  keeps = λ t h. (t, omega arith);
}

pub appends_more : {u v w : SinkView} {a b : List ℕ} → Appends u v a → Appends v w b → Appends u w (a ++ b)
appends_more {u} {v} {w} {a} {b} f g = record {
  same_faults = cc;
  was_told = λ t. f.was_told (g.was_told t);
  written = λ t. rw (g.written t, f.written (g.was_told t), append_assoc);
  keeps = λ t h.
      let e = length-append a b in
      let k : length a ≤ u.spare = omega arith in
      let p = f.keeps t k in
      let m : length b ≤ v.spare = omega arith in
      let q = g.keeps p.0 m in
      (q.0, omega arith);
}

-- what one more call adds
pub goes_on : {u v w : SinkView} (t : List ℕ) (d n : ℕ) (piece : List ℕ) → piece ≡ drop d t → d ≤ length t → Appends u v (take d t) → Puts v w piece (Ok n) → GoesOn u w t d n
goes_on {u} {v} {w} t d n piece e le f (p, a, s) = record {
  within = omega (arith, p.within, length-drop d t, ap length e);
  appended =
      let P : List ℕ → Type 0 = λ x. Appends v w (take n x) in
      rw (take_plus d n t) (appends_more f (subst P e a));
}

-- a text that is cut, after a first one
pub cut_later : {u v w : SinkView} {a b : List ℕ} {k : ℕ} → Appends u v a → IsCut v w b k → IsCut u w (a ++ b) (length a + k)
cut_later {u} {v} {w} {a} {b} {k} f c = record {
  failed = c.failed;
  once = simp (f.same_faults) at c.once;
  within = let l = c.within in omega (arith, length-append a b);
  rose = simp (f.same_faults) at c.rose;
  later = let e = f.same_faults in let x = c.later in omega arith;
  was_told = λ x. f.was_told (c.was_told x);
  written = λ x.
      c.written x ∙ ap (λ y. y ++ take k b) (f.written (c.was_told x)) ∙ append_assoc u.written a (take k b)
      ∙ ap (λ y. u.written ++ y) (sym (take-append-add a b k));
  keeps = λ x h.
      let p = f.keeps x (omega arith) in
      let q = c.keeps p.0 (omega arith) in
      (q.0, omega arith);
}

pub then_puts : {u v : SinkView} {a : List ℕ} (w : SinkView) (b : List ℕ) (r : Result Unit SinkFault) → Appends u v a → PutsAll v w b r → PutsAll u w (a ++ b) r
then_puts w b (Ok t) f g = appends_more f g
then_puts {u} {v} {a} w b (Err e) f (k, c) = (length a + k, cut_later f c)

-- and with more behind it
pub cut_sooner : {u v : SinkView} {a : List ℕ} (b : List ℕ) {k : ℕ} → IsCut u v a k → IsCut u v (a ++ b) k
cut_sooner {u} {v} {a} b {k} c = record {
  failed = c.failed;
  once = c.once;
  within = let l = c.within in omega (arith, length-append a b);
  rose = c.rose;
  later = c.later;
  was_told = c.was_told;
  written = λ x. c.written x ∙ ap (λ y. u.written ++ y) (sym (take-append-le k a b (let l = c.within in omega arith)));
  keeps = c.keeps;
}

pub cut_before : (u v : SinkView) (a b : List ℕ) (e d : SinkFault) → PutsAll u v a (Err e) → PutsAll u v (a ++ b) (Err d)
cut_before u v a b e d (k, c) = (k, cut_sooner b c)

-- the answer of a sink that takes n bytes
pub takes : (v w : SinkView) (piece part : List ℕ) (n : ℕ) → part ≡ take n piece → IsProgress n piece → Appends v w part → w.failed ≡ false → Puts v w piece (Ok n)
takes v w piece part n e p a s = (p, let P : List ℕ → Type 0 = λ x. Appends v w x in subst P e a, s)
