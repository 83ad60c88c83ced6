-- What clap makes of the words of a command with options and one operand.
use Rattle.std.proofs.Common.{◌≡◌, ◌∙◌, ℕ, Bool, cond, true, false, not, ◌&&◌, ◌||◌, refl, sym, ap, ap₂, subst, List, [], ◌∷◌, ◌++◌, map, Option, Some, None, true≢false, append_assoc, if◌then◌else◌}
use Rattle.std.specs.Prelude.{bytes_eq, find, fold}
use Rattle.std.specs.List.{list_any}
use Rattle.std.specs.Option.{option_map_or, is_some}
use Rattle.std.proofs.lemmas.Slice.Eq.{bytes_eq-Decides}
use Rattle.qs_cli.specs.Words.{Text, Word, Plain, Assigned, Named, Excluded, word_of, Item, Operand, Setting, put, placed, items_from, operand, key, among, is_known, is_allowed, is_complete, stands, Options, names_of, fits}
use Rattle.qs_cli.proofs.Forms.{IsPlain, IsLong, Seen, word_seen}
use Rattle.qs_cli.proofs.OptionLaws.{each_once, stands-append, each_once_all}
use Rattle.qs_cli.proofs.Rules.{base, rules, long_known, long_unknown, id_known, id_operand, first_place, second_place, row, has_row-map, used_fresh}
use Rattle.clap.specs.Kinds.{Kinds, or_else}
use Rattle.clap.specs.Walk.{Held, Row, Walk, idle, option, walked, nothing_held, settled, settled_rows, has_row, used, finished, with_default, pushed, walk, rows_after}
use Rattle.clap.specs.Faults.{walk_fault, turn_fault, settle_fault, default_fault, given_default_fault, defaults_fault, use_fault, level_fault, check_fault, built_fault, entered_fault}
use Rattle.clap.specs.Takes.{is_given}
use Rattle.clap.specs.Facts.{explicit_source}
use Rattle.clap.specs.declared.error.kind.ErrorKind.TheVariants as kind
use Rattle.clap.specs.Simple.{App, Shape, new_shape, entered}

abbrev pub is_nil : Kinds → Bool
is_nil [] = true
is_nil (k ∷ ks) = false

abbrev pub shape : Text → Options → Shape
shape name os = record (new_shape name) {
  rules = rules os;
  no_binary_name = true;
  disable_help_flag = true;
  disable_help_subcommand = true;
  is_built = true;
}

abbrev pub held_at : List Row → Option (Text × List Text) → Held
held_at rows pending = record { rows = rows; pending = pending; skip = 0 }

abbrev pub idle_at : List Row → Option (Text × List Text) → ℕ → Walk
idle_at rows pending p = record { held = held_at rows pending; waiting = idle; position = p; is_trailing = false; stopped = None }

abbrev pub waiting_at : Text → List Row → ℕ → Walk
waiting_at n rows p = record { held = held_at rows (Some (n, [])); waiting = option n; position = p; is_trailing = false; stopped = None }

module _ (name : Text) (os : Options) (no_operand : among operand (names_of os) ≡ false) where
  abbrev owed : List Row → Option (Text × List Text) → Kinds
  owed rows pending = settle_fault (rules os) false (held_at rows pending)

  -- a operand
  operand_turn : (w : Text) (rows : List Row) (pending : Option (Text × List Text)) → IsPlain w
      → turn_fault (shape name os) [] (idle_at rows pending 1) w ≡ owed rows pending
  operand_turn w rows pending l = rw (l.no_end, l.no_long, l.no_short, first_place os) (go (option_map_or (λ q. bytes_eq q.0 operand) pending false))
    where
      go : (b : Bool) → (if b && false then [] else owed rows pending) ≡ owed rows pending
      go true = refl
      go false = refl

  operand_walk : (w : Text) (rows : List Row) (pending : Option (Text × List Text)) → IsPlain w
      → walked (rules os) [] (idle_at rows pending 1) w ≡ idle_at (settled_rows (rules os) pending rows) (Some (operand, w ∷ [])) 2
  unfolding walked
  operand_walk w rows pending l = rw (l.no_end, l.no_long, l.no_short, first_place os) (go (option_map_or (λ q. bytes_eq q.0 operand) pending false))
    where
      go : (b : Bool)
          → record {
            held = pushed operand w (if b && false then held_at rows pending else settled (rules os) (held_at rows pending));
            waiting = idle;
            position = 2;
            is_trailing = false;
            stopped = None;
          } ≡ idle_at (settled_rows (rules os) pending rows) (Some (operand, w ∷ [])) 2
      go true = refl
      go false = refl

  stray_turn : (w : Text) (rows : List Row) (pending : Option (Text × List Text)) → IsPlain w
      → is_nil (turn_fault (shape name os) [] (idle_at rows pending 2) w) ≡ false
  stray_turn w rows pending l = rw (l.no_end, l.no_long, l.no_short, second_place os) refl

  -- an option
  unknown_turn : (w n : Text) (v : Option Text) (rows : List Row) (pending : Option (Text × List Text)) (p : ℕ) → IsLong w n v → among n (names_of os) ≡ false
      → is_nil (turn_fault (shape name os) [] (idle_at rows pending p) w) ≡ false
  unknown_turn w n v rows pending p l is = let none = long_unknown os n is in rw (l.no_end, l.long, none) refl

  assigned_turn : (w n v : Text) (rows : List Row) (pending : Option (Text × List Text)) (p : ℕ) → IsLong w n (Some v) → among n (names_of os) ≡ true
      → turn_fault (shape name os) [] (idle_at rows pending p) w
      ≡ or_else (or_else (owed rows pending) (use_fault false (base n (Some n) None false) (v ∷ []) (settled_rows (rules os) pending rows))) []
  assigned_turn w n v rows pending p l is = let known = long_known os n is in rw (l.no_end, l.long, known.1) refl

  assigned_walk : (w n v : Text) (rows : List Row) (pending : Option (Text × List Text)) (p : ℕ) → IsLong w n (Some v) → among n (names_of os) ≡ true
      → walked (rules os) [] (idle_at rows pending p) w ≡ idle_at (used (base n (Some n) None false) (v ∷ []) (settled_rows (rules os) pending rows)) None p
  unfolding walked
  assigned_walk w n v rows pending p l is = let known = long_known os n is in rw (l.no_end, l.long, known.1) refl

  named_turn : (w n : Text) (rows : List Row) (pending : Option (Text × List Text)) (p : ℕ) → IsLong w n None → among n (names_of os) ≡ true
      → turn_fault (shape name os) [] (idle_at rows pending p) w ≡ or_else (owed rows pending) []
  named_turn w n rows pending p l is = let known = long_known os n is in rw (l.no_end, l.long, known.1) refl

  named_walk : (w n : Text) (rows : List Row) (pending : Option (Text × List Text)) (p : ℕ) → IsLong w n None → among n (names_of os) ≡ true
      → walked (rules os) [] (idle_at rows pending p) w ≡ waiting_at n (settled_rows (rules os) pending rows) p
  unfolding walked
  named_walk w n rows pending p l is = let known = long_known os n is in rw (l.no_end, l.long, known.1) refl

  -- the VALUE of an option, as a word of its own
  value_turn : (w n : Text) (rows : List Row) (p : ℕ) → IsPlain w → among n (names_of os) ≡ true
      → turn_fault (shape name os) [] (waiting_at n rows p) w ≡ []
  value_turn w n rows p l is = rw (l.no_end, l.no_long, l.no_short) refl

  value_walk : (w n : Text) (rows : List Row) (p : ℕ) → IsPlain w → among n (names_of os) ≡ true
      → walked (rules os) [] (waiting_at n rows p) w ≡ idle_at rows (Some (n, w ∷ [])) p
  unfolding walked
  value_walk w n rows p l is =
      let known = id_known os n is in
      let same : bytes_eq n n ≡ true = (bytes_eq-Decides n n).1 refl in
      rw (l.no_end, l.no_long, l.no_short, known.1, same) refl

  -- ---- the whole walk

  abbrev total : Walk → List Text → Kinds
  total w ws = or_else (walk_fault (shape name os) [] w ws) (settle_fault (rules os) false (fold (walked (rules os) []) w ws).held)

  abbrev end_rows : Walk → List Text → List Row
  end_rows w ws = (settled (rules os) (fold (walked (rules os) []) w ws).held).rows

  -- from this state the words are read without a fault just where they are good, and then as these items
  record Ends (good : Bool) (w : Walk) (ws : List Text) (is : List Item) : Type 0 where
    pub same : is_nil (total w ws) ≡ good
    pub rows : good ≡ true → end_rows w ws ≡ map row is

  total_step : (w : Walk) (word : Text) (ws : List Text)
      → is_nil (total w (word ∷ ws)) ≡ (is_nil (turn_fault (shape name os) [] w word) && is_nil (total (walked (rules os) [] w word) ws))
  unfolding walk_fault
  total_step w word ws = go (turn_fault (shape name os) [] w word)
    where
      go : (t : Kinds)
          → is_nil (or_else (or_else t (walk_fault (shape name os) [] (walked (rules os) [] w word) ws)) (settle_fault (rules os) false (fold (walked (rules os) []) (walked (rules os) [] w word) ws).held))
          ≡ (is_nil t && is_nil (total (walked (rules os) [] w word) ws))
      go [] = refl
      go (k ∷ ks) = refl

  step_good : (w next_w : Walk) (word : Text) (ws : List Text) (good : Bool) (is : List Item) → turn_fault (shape name os) [] w word ≡ []
      → walked (rules os) [] w word ≡ next_w → Ends good next_w ws is → Ends good w (word ∷ ws) is
  step_good w next_w word ws good is quiet goes e = record {
    same = total_step w word ws ∙ ap₂ (λ t v. is_nil t && is_nil (total v ws)) quiet goes ∙ e.same;
    rows = λ h. ap (λ v. end_rows v ws) goes ∙ e.rows h;
  }

  step_bad : (w : Walk) (word : Text) (ws : List Text) (good : Bool) (is : List Item) → is_nil (turn_fault (shape name os) [] w word) ≡ false
      → good ≡ false → Ends good w (word ∷ ws) is
  step_bad w word ws good is loud bad = record {
    same = total_step w word ws ∙ ap (λ b. b && is_nil (total (walked (rules os) [] w word) ws)) loud ∙ sym bad;
    rows = λ h. absurd (true≢false (sym h ∙ bad));
  }

  -- ---- what owes a fault fails at the next word

  abbrev place : List Item → ℕ
  place is = if stands operand is then 2 else 1

  nil_else : (a b : Kinds) → is_nil a ≡ false → is_nil (or_else a b) ≡ false
  nil_else [] b e = absurd (true≢false e)
  nil_else (k ∷ ks) b e = e

  late_turn : (two : Bool) (w : Text) (x : Word) (rows : List Row) (pending : Option (Text × List Text)) (next_items : Option Text → Option (List Item)) (is : List Item)
      → is_nil (owed rows pending) ≡ false → Seen w x → placed None x w next_items ≡ Some is
      → is_nil (turn_fault (shape name os) [] (idle_at rows pending (if two then 2 else 1)) w) ≡ false
  late_turn true w Plain rows pending next_items is bad seen e = stray_turn w rows pending seen
  late_turn false w Plain rows pending next_items is bad seen e = ap is_nil (operand_turn w rows pending seen) ∙ bad
  late_turn two w (Assigned n v) rows pending next_items is bad seen e = go (among n (names_of os)) refl
    where
      go : (t : Bool) → among n (names_of os) ≡ t → is_nil (turn_fault (shape name os) [] (idle_at rows pending (if two then 2 else 1)) w) ≡ false
      go true h = ap is_nil (assigned_turn w n v rows pending _ seen h) ∙ nil_else _ _ (nil_else _ _ bad)
      go false h = unknown_turn w n (Some v) rows pending _ seen h
  late_turn two w (Named n) rows pending next_items is bad seen e = go (among n (names_of os)) refl
    where
      go : (t : Bool) → among n (names_of os) ≡ t → is_nil (turn_fault (shape name os) [] (idle_at rows pending (if two then 2 else 1)) w) ≡ false
      go true h = ap is_nil (named_turn w n rows pending _ seen h) ∙ nil_else _ _ bad
      go false h = unknown_turn w n None rows pending _ seen h
  late_turn two w Excluded rows pending next_items is bad seen e = cc

  late : (before : List Item) (ws : List Text) (rows : List Row) (pending : Option (Text × List Text)) (is end : List Item) → is_nil (owed rows pending) ≡ false
      → items_from ws None ≡ Some is → Ends false (idle_at rows pending (place before)) ws end
  unfolding walk_fault
  late before [] rows pending is end bad e = record { same = bad; rows = λ h. absurd (true≢false (sym h)) }
  late before (w ∷ ws) rows pending is end bad e =
      step_bad _ w ws false end (late_turn (stands operand before) w (word_of w) rows pending (items_from ws) is bad (word_seen w) e) refl

  -- ---- the items as they come

  abbrev PutOf : Item → Option (List Item) → List Item → Type 0
  PutOf i rest is = (more : List Item) × (rest ≡ Some more) × (is ≡ i ∷ more)

  put_of : (i : Item) (rest : Option (List Item)) (is : List Item) → put i rest ≡ Some is → PutOf i rest is
  put_of i None is e = absurd cc
  put_of i (Some more) is e = (more, refl, cc)

  not_operand : (n : Text) → among n (names_of os) ≡ true → bytes_eq n operand ≡ false
  not_operand n h = go (bytes_eq n operand) refl
    where
      go : (t : Bool) → bytes_eq n operand ≡ t → t ≡ false
      go true e = absurd (true≢false (sym h ∙ ap (λ m. among m (names_of os)) ((bytes_eq-Decides n operand).0 e) ∙ no_operand))
      go false e = refl

  same_place : (before : List Item) (n v : Text) → among n (names_of os) ≡ true → place (before ++ Setting n v ∷ []) ≡ place before
  same_place before n v h = ap (λ b. if b then 2 else 1) (stands-append operand before (Setting n v) ∙ ap (λ b. stands operand before || b) (not_operand n h) ∙ or_none (stands operand before))
    where
      or_none : (b : Bool) → (b || false) ≡ b
      or_none true = refl
      or_none false = refl

  second : (before : List Item) (v : Text) → place (before ++ Operand v ∷ []) ≡ 2
  second before v = ap (λ b. if b then 2 else 1) (stands-append operand before (Operand v) ∙ or_true (stands operand before))
    where
      or_true : (b : Bool) → (b || true) ≡ true
      or_true true = refl
      or_true false = refl

  -- how these words are read behind the items before them, with no option that waits for its value or with one
  record Claim (ws : List Text) : Type 0 where
    pub idles : (before : List Item) (rows : List Row) (pending : Option (Text × List Text)) (is : List Item) → settled_rows (rules os) pending rows ≡ map row before
        → owed rows pending ≡ [] → items_from ws None ≡ Some is → Ends (each_once (names_of os) before is) (idle_at rows pending (place before)) ws (before ++ is)
    pub waits : (before : List Item) (n : Text) (is : List Item) → among n (names_of os) ≡ true
        → items_from ws (Some n) ≡ Some is → Ends (each_once (names_of os) before is) (waiting_at n (map row before) (place before)) ws (before ++ is)

  use_fresh : (k v : Text) (long : Option Text) (index : Option ℕ) (r : Bool) (before : List Item) → stands k before ≡ false
      → use_fault false (base k long index r) (v ∷ []) (map row before) ≡ []
  use_fresh k v long index r before e = let none = has_row-map k before ∙ e in rw none refl

  use_again : (k v : Text) (long : Option Text) (index : Option ℕ) (r : Bool) (before : List Item) → stands k before ≡ true
      → is_nil (use_fault false (base k long index r) (v ∷ []) (map row before)) ≡ false
  use_again k v long index r before e = let some = has_row-map k before ∙ e in rw some refl

  operand_settles : (before : List Item) (v : Text) → stands operand before ≡ false
      → settled_rows (rules os) (Some (operand, v ∷ [])) (map row before) ≡ map row (before ++ Operand v ∷ [])
  operand_settles before v e = let known = id_operand os no_operand in rw known (used_fresh (Operand v) None (Some 1) true before e)

  operand_owes : (before : List Item) (v : Text) → stands operand before ≡ false → owed (map row before) (Some (operand, v ∷ [])) ≡ []
  operand_owes before v e = let known = id_operand os no_operand in rw known (use_fresh operand v None (Some 1) true before e)

  option_settles : (before : List Item) (n v : Text) → among n (names_of os) ≡ true → stands n before ≡ false
      → settled_rows (rules os) (Some (n, v ∷ [])) (map row before) ≡ map row (before ++ Setting n v ∷ [])
  option_settles before n v is e = let known = id_known os n is in rw (known.1) (used_fresh (Setting n v) (Some n) None (known.0) before e)

  option_owes : (before : List Item) (n v : Text) → among n (names_of os) ≡ true → stands n before ≡ false → owed (map row before) (Some (n, v ∷ [])) ≡ []
  option_owes before n v is e = let known = id_known os n is in rw (known.1) (use_fresh n v (Some n) None (known.0) before e)

  option_owes_again : (before : List Item) (n v : Text) → among n (names_of os) ≡ true → stands n before ≡ true → is_nil (owed (map row before) (Some (n, v ∷ []))) ≡ false
  option_owes_again before n v is e = let known = id_known os n is in rw (known.1) (use_again n v (Some n) None (known.0) before e)

  goes_on : (w next_w : Walk) (word : Text) (ws : List Text) (before : List Item) (i : Item) (more is : List Item) → is ≡ i ∷ more
      → is_known (names_of os) i ≡ true → stands (key i) before ≡ false
      → turn_fault (shape name os) [] w word ≡ [] → walked (rules os) [] w word ≡ next_w
      → Ends (each_once (names_of os) (before ++ i ∷ []) more) next_w ws ((before ++ i ∷ []) ++ more)
      → Ends (each_once (names_of os) before is) w (word ∷ ws) (before ++ is)
  goes_on w next_w word ws before i more is shows known fresh quiet goes e =
      let good : each_once (names_of os) before (i ∷ more) ≡ each_once (names_of os) (before ++ i ∷ []) more = rw (known, fresh) refl in
      let after = step_good w next_w word ws _ _ quiet goes e in
      rw (shows, good) (subst (λ x. Ends (each_once (names_of os) (before ++ i ∷ []) more) w (word ∷ ws) x) (append_assoc before (i ∷ []) more) after)

  stops : (w : Walk) (word : Text) (ws : List Text) (before : List Item) (i : Item) (more is : List Item) → is ≡ i ∷ more
      → (is_known (names_of os) i && not (stands (key i) before)) ≡ false
      → is_nil (turn_fault (shape name os) [] w word) ≡ false
      → Ends (each_once (names_of os) before is) w (word ∷ ws) (before ++ is)
  stops w word ws before i more is shows bad loud =
      step_bad w word ws _ _ loud (ap (each_once (names_of os) before) shows ∙ ap (λ b. b && each_once (names_of os) (before ++ i ∷ []) more) bad)

  abbrev HeadOf : Text → List Item → Type 0
  HeadOf n is = (v : Text) × (more : List Item) × (is ≡ Setting n v ∷ more)

  head_of : (n : Text) (ws : List Text) (is : List Item) → items_from ws (Some n) ≡ Some is → HeadOf n is
  head_of n [] is e = absurd cc
  head_of n (v ∷ ws) is e = go (word_of v) e
    where
      go : (x : Word) → placed (Some n) x v (items_from ws) ≡ Some is → HeadOf n is
      go Plain h = let p = put_of (Setting n v) (items_from ws None) is h in (v, p.0, p.2)
      go (Assigned m u) h = absurd cc
      go (Named m) h = absurd cc
      go Excluded h = absurd cc

  idle_step : (w : Text) (ws : List Text) (x : Word) → Seen w x → Claim ws
      → (before : List Item) (rows : List Row) (pending : Option (Text × List Text)) (is : List Item) → settled_rows (rules os) pending rows ≡ map row before
      → owed rows pending ≡ [] → placed None x w (items_from ws) ≡ Some is → Ends (each_once (names_of os) before is) (idle_at rows pending (place before)) (w ∷ ws) (before ++ is)
  idle_step w ws Plain seen ih before rows pending is settles owes e = go (stands operand before) refl
    where
      p : PutOf (Operand w) (items_from ws None) is
      p = put_of (Operand w) (items_from ws None) is e

      go : (t : Bool) → stands operand before ≡ t → Ends (each_once (names_of os) before is) (idle_at rows pending (if t then 2 else 1)) (w ∷ ws) (before ++ is)
      go true h = stops _ w ws before (Operand w) p.0 is p.2 (ap not h) (stray_turn w rows pending seen)
      go false h = goes_on _ _ w ws before (Operand w) p.0 is p.2 refl h (operand_turn w rows pending seen ∙ owes)
          (operand_walk w rows pending seen ∙ ap₂ (λ r k. idle_at r (Some (operand, w ∷ [])) k) settles (sym (second before w)))
          (ih.idles (before ++ Operand w ∷ []) (map row before) (Some (operand, w ∷ [])) p.0 (operand_settles before w h) (operand_owes before w h) p.1)
  idle_step w ws (Assigned n v) seen ih before rows pending is settles owes e = go (among n (names_of os)) refl (stands n before) refl
    where
      p : PutOf (Setting n v) (items_from ws None) is
      p = put_of (Setting n v) (items_from ws None) is e

      quiet : (u : Kinds) → u ≡ [] → or_else (or_else (owed rows pending) u) [] ≡ []
      quiet u h = rw (owes, h) refl

      go : (t : Bool) → among n (names_of os) ≡ t → (again : Bool) → stands n before ≡ again
          → Ends (each_once (names_of os) before is) (idle_at rows pending (place before)) (w ∷ ws) (before ++ is)
      go false h again a = stops _ w ws before (Setting n v) p.0 is p.2 (ap (λ b. b && not (stands n before)) h) (unknown_turn w n (Some v) rows pending _ seen h)
      go true h true a = stops _ w ws before (Setting n v) p.0 is p.2 (ap₂ (λ b t. b && not t) h a)
          (ap is_nil (assigned_turn w n v rows pending _ seen h ∙ ap₂ (λ o r. or_else (or_else o (use_fault false (base n (Some n) None false) (v ∷ []) r)) []) owes settles)
          ∙ nil_else _ _ (use_again n v (Some n) None false before a))
      go true h false a = goes_on _ _ w ws before (Setting n v) p.0 is p.2 h a
          (assigned_turn w n v rows pending _ seen h ∙ quiet _ (ap (use_fault false (base n (Some n) None false) (v ∷ [])) settles ∙ use_fresh n v (Some n) None false before a))
          (assigned_walk w n v rows pending _ seen h
          ∙ ap₂ (λ r k. idle_at r None k) (ap (used (base n (Some n) None false) (v ∷ [])) settles ∙ used_fresh (Setting n v) (Some n) None false before a) (sym (same_place before n v h)))
          (ih.idles (before ++ Setting n v ∷ []) (map row (before ++ Setting n v ∷ [])) None p.0 refl refl p.1)
  idle_step w ws (Named n) seen ih before rows pending is settles owes e = go (among n (names_of os)) refl
    where
      go : (t : Bool) → among n (names_of os) ≡ t → Ends (each_once (names_of os) before is) (idle_at rows pending (place before)) (w ∷ ws) (before ++ is)
      go false h = let p = head_of n ws is e in stops _ w ws before (Setting n p.0) p.1 is p.2 (ap (λ b. b && not (stands n before)) h) (unknown_turn w n None rows pending _ seen h)
      go true h = step_good _ _ w ws _ _ (named_turn w n rows pending _ seen h ∙ ap (λ o. or_else o []) owes)
          (named_walk w n rows pending _ seen h ∙ ap (λ r. waiting_at n r (place before)) settles) (ih.waits before n is h e)
  idle_step w ws Excluded seen ih before rows pending is settles owes e = absurd cc

  wait_step : (w : Text) (ws : List Text) (x : Word) → Seen w x → Claim ws
      → (before : List Item) (n : Text) (is : List Item) → among n (names_of os) ≡ true
      → placed (Some n) x w (items_from ws) ≡ Some is → Ends (each_once (names_of os) before is) (waiting_at n (map row before) (place before)) (w ∷ ws) (before ++ is)
  wait_step w ws Plain seen ih before n is known e = go (stands n before) refl
    where
      p : PutOf (Setting n w) (items_from ws None) is
      p = put_of (Setting n w) (items_from ws None) is e

      go : (t : Bool) → stands n before ≡ t → Ends (each_once (names_of os) before is) (waiting_at n (map row before) (place before)) (w ∷ ws) (before ++ is)
      go true h =
          let bad : each_once (names_of os) before is ≡ false = rw (p.2, known, h) refl in
          rw bad (step_good _ _ w ws false _ (value_turn w n (map row before) (place before) seen known) (value_walk w n (map row before) (place before) seen known) (late before ws (map row before) (Some (n, w ∷ [])) p.0 _ (option_owes_again before n w known h) p.1))
      go false h = goes_on _ _ w ws before (Setting n w) p.0 is p.2 known h (value_turn w n (map row before) (place before) seen known)
          (value_walk w n (map row before) (place before) seen known ∙ ap (idle_at (map row before) (Some (n, w ∷ []))) (sym (same_place before n w known)))
          (ih.idles (before ++ Setting n w ∷ []) (map row before) (Some (n, w ∷ [])) p.0 (option_settles before n w known h) (option_owes before n w known h) p.1)
  wait_step w ws (Assigned m v) seen ih before n is known e = absurd cc
  wait_step w ws (Named m) seen ih before n is known e = absurd cc
  wait_step w ws Excluded seen ih before n is known e = absurd cc

  nothing_more : (before is : List Item) (rows : List Row) (pending : Option (Text × List Text)) → settled_rows (rules os) pending rows ≡ map row before
      → owed rows pending ≡ [] → [] ≡ is → Ends (each_once (names_of os) before is) (idle_at rows pending (place before)) [] (before ++ is)
  unfolding walk_fault
  nothing_more before is rows pending settles owes e = rw (← e) (record { same = ap is_nil owes; rows = λ h. settles ∙ ap (map row) (sym (append_none before)) })
    where
      append_none : (xs : List Item) → xs ++ [] ≡ xs
      append_none [] = refl
      append_none (x ∷ xs) = ap (λ y. x ∷ y) (append_none xs)

  claim : (ws : List Text) → Claim ws
  claim [] = record {
    idles = λ before rows pending is settles owes e. nothing_more before is rows pending settles owes cc;
    waits = λ before n is known e. absurd cc;
  }
  claim (w ∷ ws) =
      let ih = claim ws in
      record {
        idles = λ before rows pending is settles owes e. idle_step w ws (word_of w) (word_seen w) ih before rows pending is settles owes e;
        waits = λ before n is known e. wait_step w ws (word_of w) (word_seen w) ih before n is known e;
      }

  -- ---- after the walk

  no_default : (rows : List Row) (k : Text) (long : Option Text) (index : Option ℕ) (r : Bool) → default_fault rows (base k long index r) ≡ []
  no_default rows k long index r = go (has_row k rows)
    where
      go : (b : Bool) → (if b || true then [] else given_default_fault (base k long index r) []) ≡ []
      go true = refl
      go false = refl

  same_rows : (rows : List Row) (k : Text) (long : Option Text) (index : Option ℕ) (r : Bool) → with_default rows (base k long index r) ≡ rows
  same_rows rows k long index r = go (has_row k rows)
    where
      go : (b : Bool) → (if b then rows else rows) ≡ rows
      go true = refl
      go false = refl

  no_defaults : (rows : List Row) (cs : Options) → defaults_fault rows (rules cs) ≡ []
  unfolding defaults_fault
  no_defaults rows [] = ap (λ f. or_else f []) (no_default rows operand None (Some 1) true)
  no_defaults rows (o ∷ cs) =
      ap₂ (λ f rs. or_else f (defaults_fault rs (rules cs))) (no_default rows o.0 (Some o.0) None o.1) (same_rows rows o.0 (Some o.0) None o.1)
      ∙ no_defaults rows cs

  all_rows : (rows : List Row) (cs : Options) → fold with_default rows (rules cs) ≡ rows
  all_rows rows [] = same_rows rows operand None (Some 1) true
  all_rows rows (o ∷ cs) = ap (λ rs. fold with_default rs (rules cs)) (same_rows rows o.0 (Some o.0) None o.1) ∙ all_rows rows cs

  given : (k : Text) (is : List Item) → is_given k (map row is) ≡ stands k is
  given k [] = refl
  given k (i ∷ is) = go (bytes_eq (key i) k) (given k is)
    where
      go : (b : Bool) → is_given k (map row is) ≡ stands k is
          → option_map_or (λ (r : Row). explicit_source r.source) (cond b (Some (row i)) (find (λ (r : Row). bytes_eq r.id k) (map row is))) false ≡ (b || stands k is)
      go true h = refl
      go false h = h

  missing : (is : List Item) (cs : Options) → list_any (λ a. a.required && not (is_given a.id (map row is))) (rules cs)
      ≡ not (is_complete cs is)
  missing is [] = ap (λ b. not b || false) (given operand is) ∙ or_none (not (stands operand is))
    where
      or_none : (b : Bool) → (b || false) ≡ b
      or_none true = refl
      or_none false = refl
  missing is (o ∷ cs) = ap (λ b. (o.1 && not b) || list_any (λ a. a.required && not (is_given a.id (map row is))) (rules cs)) (given o.0 is)
      ∙ go o.1 (stands o.0 is) _ _ (missing is cs)
    where
      go : (r t u v : Bool) → u ≡ not (v && stands operand is) → ((r && not t) || u) ≡ not (((not r || t) && v) && stands operand is)
      go true true u v h = h
      go true false u v h = refl
      go false t u v h = h

  check : (is : List Item) → is_nil (check_fault (shape name os) (map row is) false) ≡ is_complete os is
  check is = ap (λ b. is_nil (if b then missing_kinds else [])) (missing is os) ∙ go (is_complete os is)
    where
      missing_kinds : Kinds
      missing_kinds = kind.MissingRequiredArgument ∷ []

      go : (b : Bool) → is_nil (if not b then missing_kinds else []) ≡ b
      go true = refl
      go false = refl

  -- ---- the parse of the built command

  abbrev walked_words : List Text → Walk
  walked_words words = walk (rules os) [] nothing_held words

  at_first : (words : List Text) (is : List Item) → items_from words None ≡ Some is → Ends (is_allowed (names_of os) is) (idle_at [] None 1) words is
  at_first words is e = subst (λ b. Ends b (idle_at [] None 1) words is) (each_once_all (names_of os) is) ((claim words).idles [] [] None is refl refl e)

  abbrev after : List Text → Kinds
  after words = check_fault (shape name os) (finished (rules os) (walked_words words).held) false

  pub level : (words : List Text) (is : List Item) → items_from words None ≡ Some is
      → is_nil (level_fault (shape name os) [] nothing_held words false []) ≡ fits os is
  level words is e = go (is_allowed (names_of os) is) refl
    where
      h : Ends (is_allowed (names_of os) is) (idle_at [] None 1) words is
      h = at_first words is e

      join : (a b d x : Kinds) → d ≡ [] → is_nil (or_else a (or_else b (or_else d x))) ≡ (is_nil (or_else a b) && is_nil x)
      join [] [] d x none = rw none refl
      join [] (k ∷ b) d x none = refl
      join (k ∷ a) b d x none = refl

      parts : is_nil (level_fault (shape name os) [] nothing_held words false []) ≡ (is_nil (total (idle_at [] None 1) words) && is_nil (after words))
      parts = join (walk_fault (shape name os) [] (idle_at [] None 1) words) (settle_fault (rules os) false (walked_words words).held) _ (after words) (no_defaults (end_rows (idle_at [] None 1) words) os)

      go : (b : Bool) → is_allowed (names_of os) is ≡ b → is_nil (level_fault (shape name os) [] nothing_held words false []) ≡ fits os is
      go false bad = parts ∙ ap (λ b. b && is_nil (after words)) (h.same ∙ bad) ∙ sym (ap (λ b. b && is_complete os is) bad)
      go true good = parts ∙ ap₂ (λ b rs. b && is_nil (check_fault (shape name os) rs false)) (h.same ∙ good) (all_rows (end_rows (idle_at [] None 1) words) os ∙ h.rows good)
          ∙ check is ∙ sym (ap (λ b. b && is_complete os is) good)

  pub level_rows : (words : List Text) (is : List Item) → items_from words None ≡ Some is → fits os is ≡ true → rows_after (rules os) [] words ≡ map row is
  level_rows words is e fit = all_rows (end_rows (idle_at [] None 1) words) os ∙ (at_first words is e).rows (left_of (is_allowed (names_of os) is) _ fit)
    where
      left_of : (a b : Bool) → (a && b) ≡ true → a ≡ true
      left_of true b h = refl
      left_of false b h = h

  abbrev pub built_app : App
  built_app = record { top = shape name os; subs = [] }

  none_entered : (stop : Option (Text × List Text)) → is_some (entered built_app stop) ≡ false
  none_entered None = refl
  none_entered (Some x) = refl

  no_entered_fault : (stop : Option (Text × List Text)) → entered_fault built_app stop ≡ []
  no_entered_fault None = refl
  no_entered_fault (Some x) = refl

  pub parse_fault : (words : List Text) → built_fault built_app nothing_held words ≡ level_fault (shape name os) [] nothing_held words false []
  parse_fault words = ap₂ (λ b f. level_fault (shape name os) [] nothing_held words b f) (none_entered (walked_words words).stopped) (no_entered_fault (walked_words words).stopped)
