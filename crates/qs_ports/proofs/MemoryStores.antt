-- Why a store in memory answers as a store does.
use Rattle.std.proofs.Common.{◌≡◌, ℕ, ◌+◌, ◌^◌, ◌≤◌, ◌<◌, List, [], ◌++◌, length, take, drop, true, false, sym, ◌∙◌, ap, subst, refl, arith, Option, Some, None, Ok, Err, IsSome, is_some, IsTrue, min, max, Result, OnOk, OnErr}
use Rattle.std.proofs.lemmas.Grind.{common_steps}
use Rattle.std.proofs.lemmas.List.{take-append-drop}
use Rattle.qs_ports.specs.Causes.{one_more}
use Rattle.qs_ports.specs.SinkView.{IsProgress}
use Rattle.qs_ports.specs.StoreView.{StoreView, Files, Opens, Reads, Creates, Writes, Keeps, left_of, bytes_of, bytes_at}
use Rattle.qs_ports.specs.Memory.{IsNewStore, after_open, after_read, FillsBuffer}
use Rattle.qs_ports.specs.ShelfView.{Created, Appended}
use Rattle.qs_ports.specs.declared.store.StoreFault.TheVariants.{Missing, Failed}

-- nothing that is told changed
keeps_all : (v w : StoreView) → w.told ≡ v.told → w.files ≡ v.files → w.spare ≡ v.spare → Keeps v w
keeps_all v w a b c = record {
  was_told = λ t. subst IsTrue a t;
  files = λ t n. ap (λ (f : List ℕ → Option (List ℕ)). f n) b;
  tells = λ t h. (subst IsTrue (sym a) t, omega arith);
}

-- a fact at any counts is one at these
pub ok_at : {E : Type 0} (P : ℕ → ℕ → Type 0) (faults misses : ℕ) (r : Result Unit E) → OnOk r ((f m : ℕ) → P f m) → OnOk r (P faults misses)
ok_at P faults misses (Ok t) h = h faults misses
ok_at P faults misses (Err e) h = tt

pub err_at : {E : Type 0} (P : ℕ → ℕ → Type 0) (faults misses : ℕ) (r : Result Unit E) → OnErr r ((f m : ℕ) → P f m) → OnErr r (P faults misses)
err_at P faults misses (Ok t) h = tt
err_at P faults misses (Err e) h = h faults misses

-- `open`

pub found : (v w : StoreView) (name n : List ℕ) → w ≡ record v { reading = Some n; place = 0 } → n ≡ name → w ≡ after_open v name (Ok tt)
found v w name n e en = e ∙ ap (λ x. record v { reading = Some x; place = 0 }) en

pub missed : (v w : StoreView) (name : List ℕ) (m : ℕ) → w ≡ record v { reading = None; place = 0; misses = m } → m ≡ one_more v.misses → w ≡ after_open v name (Err Missing)
missed v w name m e em = e ∙ ap (λ x. record v { reading = None; place = 0; misses = x }) em

pub refused : (v w : StoreView) (name : List ℕ) (k : ℕ) → w ≡ record v { reading = None; place = 0; faults = k } → k ≡ one_more v.faults → w ≡ after_open v name (Err Failed)
refused v w name k e ek = e ∙ ap (λ x. record v { reading = None; place = 0; faults = x }) ek

opened_some : (v : StoreView) (name : List ℕ) → IsSome (v.files name) → Opens v (after_open v name (Ok tt)) name (Ok tt)
opened_some v name h = record {
  keeps = keeps_all v (after_open v name (Ok tt)) refl refl refl;
  writing = refl;
  answers = record {
    counts = record { faults = refl; misses = refl };
    opened = refl;
    reading = λ t. refl;
    place = λ t. refl;
    there = λ t. h;
  };
}

some_there : (o : Option (List ℕ)) → true ≡ is_some o → IsSome o
some_there None e = absurd (cc)
some_there (Some x) e = refl

none_there : (o : Option (List ℕ)) → false ≡ is_some o → o ≡ None
none_there None e = refl
none_there (Some x) e = absurd (cc)

pub opens_found : (v w : StoreView) (name n : List ℕ) → w ≡ after_open v name (Ok tt) → n ≡ name → true ≡ is_some (v.files n) → Opens v w name (Ok tt)
opens_found v w name n e en h =
    let P : StoreView → Type 0 = λ x. Opens v x name (Ok tt) in
    subst P (sym e) (opened_some v name (some_there (v.files name) (h ∙ ap (λ x. is_some (v.files x)) en)))

pub opens_missed : (v w : StoreView) (name n : List ℕ) → v.misses < 2 ^ 64 → w ≡ after_open v name (Err Missing) → n ≡ name → false ≡ is_some (v.files n) → Opens v w name (Err Missing)
opens_missed v w name n b e en h =
    let P : StoreView → Type 0 = λ x. Opens v x name (Err Missing) in
    subst P (sym e) (record {
      keeps = keeps_all v (after_open v name (Err Missing)) refl refl refl;
      writing = refl;
      answers = (record { rose = omega arith; misses = omega arith; faults = refl }, refl, λ t. none_there (v.files name) (h ∙ ap (λ x. is_some (v.files x)) en));
    })

pub opens_refused : (v w : StoreView) (name : List ℕ) → v.faults < 2 ^ 64 → w ≡ after_open v name (Err Failed) → Opens v w name (Err Failed)
opens_refused v w name b e =
    let P : StoreView → Type 0 = λ x. Opens v x name (Err Failed) in
    subst P (sym e) (record {
      keeps = keeps_all v (after_open v name (Err Failed)) refl refl refl;
      writing = refl;
      answers = (record { rose = omega arith; faults = omega arith; misses = omega arith }, refl);
    })

-- `read`

front_kept : (xs ys : List ℕ) (n : ℕ) → n ≤ length xs → take n (take n xs ++ ys) ≡ take n xs
front_kept xs ys n h = grind (arith, common_steps)

drop_twice : (place n : ℕ) (xs : List ℕ) → drop (place + n) xs ≡ drop n (drop place xs)
drop_twice place n xs = grind (arith, common_steps)

none_left : (xs : List ℕ) → length xs ≡ 0 → xs ≡ []
none_left xs h = grind (arith, common_steps)

reads_next : (v : StoreView) (old new : List ℕ) (most n : ℕ) → 1 ≤ most → n ≡ min (min most (length old)) (length (left_of v)) → FillsBuffer v old new n → Reads v (after_read v (Ok n)) old new (Ok n)
reads_next v old new most n some e f =
    let within : n ≤ length (left_of v) = omega arith in
    let came : take n new ≡ take n (left_of v) = ap (λ x. take n x) f ∙ front_kept (left_of v) (drop n old) n within in
    record {
      keeps = keeps_all v (after_read v (Ok n)) refl refl refl;
      writing = refl;
      reading = refl;
      answers = record {
        counts = record { faults = refl; misses = refl };
        within = omega arith;
        bytes = λ t.
            sym (take-append-drop n (left_of v)) ∙ ap (λ x. x ++ drop n (left_of v)) (sym came)
            ∙ ap (λ x. take n new ++ x) (sym (drop_twice v.place n (bytes_at v.files v.reading)));
        place = λ t. refl;
        progress = λ t z h. none_left (left_of v) (omega arith);
        at_end = λ t z. omega (arith, ap length z);
      };
    }

pub reads_bytes : (v w : StoreView) (old new : List ℕ) (most n : ℕ) → 1 ≤ most → n ≡ min (min most (length old)) (length (left_of v)) → FillsBuffer v old new n → w ≡ after_read v (Ok n) → Reads v w old new (Ok n)
reads_bytes v w old new most n some e f g =
    let P : StoreView → Type 0 = λ x. Reads v x old new (Ok n) in
    subst P (sym g) (reads_next v old new most n some e f)

-- a clean store asks for as much as the buffer holds
pub reads_all : (v w : StoreView) (old new : List ℕ) (n : ℕ) → n ≡ min (length old) (length (left_of v)) → FillsBuffer v old new n → w ≡ after_read v (Ok n) → Reads v w old new (Ok n)
reads_all v w old new n e f g = reads_bytes v w old new (length old + 1) n (omega arith) (omega arith) f g

-- `create`

pub creates_file : (v w : StoreView) (name n : List ℕ) → Created v w n → n ≡ name → Creates v w name (Ok tt)
creates_file v w name n (c, k) e =
    let P : List ℕ → Type 0 = λ x. Creates v w x (Ok tt) in
    subst P e (record { reading = k; answers = c })

pub creates_refused : (v w : StoreView) (name : List ℕ) → v.faults < 2 ^ 64 → w ≡ record v { writing = None; faults = one_more v.faults } → Creates v w name (Err Failed)
creates_refused v w name b e =
    let P : StoreView → Type 0 = λ x. Creates v x name (Err Failed) in
    subst P (sym e) (record {
      reading = record { reading = refl; place = refl };
      answers = (
        record {
          failed = record { rose = omega arith; faults = omega arith; misses = omega arith };
          keeps = keeps_all v (record v { writing = None; faults = one_more v.faults }) refl refl refl;
        },
        refl,
      );
    })

-- `write`

pub writes_file : (v w : StoreView) (piece part : List ℕ) (n : ℕ) → part ≡ take n piece → length part ≡ n → IsProgress n piece → Appended v w part → Writes v w piece (Ok n)
writes_file v w piece part n e l p (a, k, x) =
    let all : take (length part) part ≡ take n piece = grind (arith, common_steps) in
    record {
      reading = k;
      writing = x;
      answers = record {
        counts = a.counts;
        progress = p;
        was_told = a.was_told;
        file = λ name h t. a.file name h t ∙ ap (λ y. Some (bytes_of (v.files name) ++ y)) all;
        others = a.others;
        tells = λ t h. let q = a.tells t (omega arith) in (q.0, omega arith);
      };
    }

-- a new store whose room was reserved
pub reserved_new : (v w : StoreView) (files : Files) (room : ℕ) → IsNewStore v files 0 → w ≡ record v { spare = max v.spare room } → IsNewStore w files room
reserved_new v w files room n e =
    let P : StoreView → Type 0 = λ x. IsNewStore x files room in
    subst P (sym e) (record {
      told = n.told;
      files_are = n.files_are;
      not_reading = n.not_reading;
      not_writing = n.not_writing;
      spare = let z = n.spare in omega arith;
      no_faults = n.no_faults;
      no_misses = n.no_misses;
    })
