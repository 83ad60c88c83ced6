-- The code of loops and of statements fits.
use Rattle.std.proofs.Common.{◌≡◌, ℕ, ◌+◌, ◌<◌, ◌≤◌, Bool, true, false, List, [], ◌∷◌, ◌++◌, length, map, Option, Some, None, refl, ap, subst, arith, lt-ltb}
use Rattle.std.specs.Prelude.{◌&&◌, ◌||◌, not, nat_le, if◌then◌else◌}
use Rattle.std.specs.List.{list_all}
use Rattle.std.proofs.lemmas.List.{length-map}
use Rattle.std.proofs.lemmas.Bool.{and_parts, or_from, and_from}
use Rattle.qs_memory.specs.Memory.{BlankTree}
use Rattle.qs_memory.specs.Sizes.{largest_size, blank_size}
use Rattle.qs_memory.specs.Scalars.{is_type, is_promoted, same_scalars}
use Rattle.qs_memory.proofs.ScalarLaws.{scalars_same}
use Rattle.qs_memory.specs.declared.scalar.Scalar.{Scalar}
use Rattle.qs_calls.specs.Starts.{Signature, signature_of}
use Rattle.qs_calls.specs.declared.callee.Callee.{Callee}
use Rattle.qs_core.specs.Trees as core
use Rattle.qs_core.specs.Trees.{CoreExprTree, CoreStmtTree, CoreStmts, no_stmts, stmt_and, CoreFunctionTree, CoreUnitTree}
use Rattle.qs_core.specs.declared.numbers.Target.{Target}
use Rattle.qs_core.specs.declared.numbers.Target.TheVariants as targets
use Rattle.qs_core.specs.Expressions.{type_of}
use Rattle.qs_core.specs.Outline.{count_of}
use Rattle.qs_core.specs.Interfaces.{target_type, interface_of}
use Rattle.qs_core.specs.Fits.{expr_fits, exprs_fit, pointer_fits, destination_fits, call_fits, label_fits, stmt_fits, stmts_fit}
use Rattle.qs_tac.specs.Trees.{store, copy, fill, call, jump, return, TacFunctionTree, TacUnitTree}
use Rattle.qs_tac.specs.Fits as tac
use Rattle.qs_tac.specs.Fits.{is_word}
use Rattle.qs_lower_expressions.specs.Exits.{Exit, falls, goes, is_fall, settled}
use Rattle.qs_lower_expressions.specs.Expressions.{ExprCode, code_of, operand_of, address_at, lowered, all_code, all_operands}
use Rattle.qs_lower.specs.Statements.{Exits, next_falls, to_next, to_break, to_continue, Part, Tested, StmtCode, target_of, taken_by, of_store, of_copy, of_fill, of_return, of_plain_return, Way, of_before, of_ways, of_branch, is_next, body_falls, body_exits, front_exits, step_exits, test_last, last_falls, last_exits, body_first, body_alone, plain_loop, loop_part, of_loop, but_last, last_of, stmt_code, stmts_code, parts_code}
use Rattle.qs_lower.proofs.StmtSizeLaws.{row}
use Rattle.qs_lower.proofs.PresenceLaws.{variable_there, temporary_there, labels_there}
use Rattle.qs_lower_expressions.proofs.ExprFits.{Fit, fit_cons, fit_one, fit_both, Lands, Behind, lands_behind, lands_at, settled_lands, test_starts, ExprFits, code_of_fits, operand_of_fits, address_at_fits}
use Rattle.qs_lower.proofs.OperandFits.{small_word, Has, lowered_fits, pointer_lowered, arguments_fit, argument_operands, argument_count}
use Rattle.qs_lower.proofs.PartFits.{taken, AllFollow, AllReach, Follows, Reaches, PartFits, TestedFits, OptionFits, Fits, follows, follows_settled, reaches, reaches_settled, reach_follows, by_way_fits, straight_fits, both_fits, branch_fits}
use Rattle.qs_lower.proofs.SwitchFits.{RowFits, word_cases, one_row_fits, more_row_fits, switch_fits}

module _ (u : TacUnitTree) (f : TacFunctionTree) where
  -- ---- loops

  -- a break of the body or of the step comes to what is next
  loop_reaches : (b c : Bool) (x : Exit) (end : ℕ) → Reaches u f (not (not (b || c))) x end → Reaches u f b x end × Reaches u f c x end
  loop_reaches true true x end h = (h, h)
  loop_reaches true false x end h = (h, tt)
  loop_reaches false true x end h = (tt, h)
  loop_reaches false false x end h = (tt, tt)

  loop_follows : (b c : Bool) (x : Exit) (end : ℕ) → Follows u f (not (not (b || c))) x end → Follows u f b x end × Follows u f c x end
  loop_follows true true x end h = (h, h)
  loop_follows true false x end h = (h, tt)
  loop_follows false true x end h = (tt, h)
  loop_follows false false x end h = (tt, tt)

  if_reaches : (b : Bool) (x : Exit) (end : ℕ) → b ≡ true → Reaches u f b x end → Lands u f x end
  if_reaches true x end is h = h
  if_reaches false x end is h = cc

  if_follows : (b : Bool) (x : Exit) (end : ℕ) → b ≡ true → Follows u f b x end → Behind u f x end
  if_follows true x end is h = h
  if_follows false x end is h = cc

  -- of a body that ends in a test
  module _ (t : ℕ) (d : Tested) (step : Part) (bb es bs : Bool) (h : TestedFits u f t bb true d) (k : PartFits u f (taken es bs false) step) where
    module _ (x : Exits) (at : ℕ) where
      abbrev rest_at : ℕ
      rest_at = at + 1

      abbrev step_at : ℕ
      step_at = at + 1 + d.rest.size body_falls

      abbrev front_at : ℕ
      front_at = at + 1 + d.rest.size body_falls + step.size next_falls

      abbrev test_at : ℕ
      test_at = at + 1 + d.rest.size body_falls + step.size next_falls + d.front.size next_falls

      abbrev loop_end : ℕ
      loop_end = at + (1 + d.rest.size body_falls + step.size next_falls + d.front.size next_falls + d.test.test_size false (is_fall x.next))

      end_same : loop_end ≡ test_at + d.test.test_size false (is_fall x.next)
      end_same = omega arith

      module _ (room : loop_end ≤ length f.code) (behind : Behind u f x.next loop_end) where
        test_room : test_at + d.test.test_size false (is_fall x.next) ≤ length f.code
        test_room = omega (arith, room)

        test_in : test_at < length f.code
        test_in =
            test_starts u f d.test.test_size (goes 0) x.next test_at h.test.some_test test_room tt
            (subst (λ (n : ℕ). Behind u f x.next n) end_same behind)

        abbrev exits_of_front : Exits
        exits_of_front = front_exits (falls test_at) (step.entry step_at) x.next

        front_follow : AllFollow u f (taken false bb true) exits_of_front test_at
        front_follow = record { next = test_in; on_break = follows_settled u f bb x.next test_at; on_continue = tt }

        front_room : front_at + d.front.size next_falls ≤ length f.code
        front_room = let there = test_in in omega (arith, there)

        front_in : front_at < length f.code
        front_in = h.front.starts exits_of_front front_at front_room front_follow

        head_in : d.front.entry front_at < length f.code
        head_in = h.front.enters exits_of_front front_at front_room front_follow

        abbrev exits_of_step : Exits
        exits_of_step = step_exits (falls (d.front.entry front_at)) x.next

        step_follow : AllFollow u f (taken es bs false) exits_of_step front_at
        step_follow = record { next = follows u f (not es) (falls (d.front.entry front_at)) front_at front_in; on_break = follows_settled u f bs x.next front_at; on_continue = tt }

        step_room : step_at + step.size next_falls ≤ length f.code
        step_room = let there = front_in in omega (arith, there)

        step_in : step_at < length f.code
        step_in = k.starts exits_of_step step_at step_room step_follow

        again_in : step.entry step_at < length f.code
        again_in = k.enters exits_of_step step_at step_room step_follow

        abbrev exits_of_rest : Exits
        exits_of_rest = body_exits (step.entry step_at) x.next

        rest_follow : AllFollow u f (taken false bb true) exits_of_rest step_at
        rest_follow = record { next = step_in; on_break = follows_settled u f bb x.next step_at; on_continue = step_in }

        rest_room : rest_at + d.rest.size body_falls ≤ length f.code
        rest_room = let there = step_in in omega (arith, there)

        rest_in : rest_at < length f.code
        rest_in = h.rest.starts exits_of_rest rest_at rest_room rest_follow

        body_in : d.rest.entry rest_at < length f.code
        body_in = h.rest.enters exits_of_rest rest_at rest_room rest_follow

        loop_in : at < length f.code
        loop_in = let there = rest_in in omega (arith, there)

        module _ (lands : Lands u f x.next loop_end) where
          rest_fits : Fit u f (d.rest.code exits_of_rest rest_at)
          rest_fits = h.rest.fits exits_of_rest rest_at rest_room (record {
            next = (again_in, step_in);
            on_break = reaches u f bb (settled x.next) step_at (settled_lands u f x.next loop_end step_at lands);
            on_continue = (again_in, step_in);
          })

          step_fits : Fit u f (step.code exits_of_step step_at)
          step_fits = k.fits exits_of_step step_at step_room (record {
            next = reaches u f (not es) (falls (d.front.entry front_at)) front_at (head_in, front_in);
            on_break = reaches u f bs (settled x.next) front_at (settled_lands u f x.next loop_end front_at lands);
            on_continue = tt;
          })

          front_fits : Fit u f (d.front.code exits_of_front front_at)
          front_fits = h.front.fits exits_of_front front_at front_room (record {
            next = (test_in, test_in);
            on_break = reaches u f bb (settled x.next) test_at (settled_lands u f x.next loop_end test_at lands);
            on_continue = again_in;
          })

          test_fits : Fit u f (d.test.test (goes (d.rest.entry rest_at)) x.next t test_at)
          test_fits = h.test.test (goes (d.rest.entry rest_at)) x.next t test_at h.used test_room body_in (lands_at u f x.next loop_end _ end_same lands)

          loop_fits : Fit u f ((test_last t d step).code x at)
          loop_fits =
              fit_cons u f (jump (d.front.entry front_at)) (d.rest.code exits_of_rest rest_at ++ (step.code exits_of_step step_at ++ (d.front.code exits_of_front front_at ++ d.test.test (goes (d.rest.entry rest_at)) x.next t test_at))) (lt-ltb _ _ head_in)
              (fit_both u f (d.rest.code exits_of_rest rest_at)
              (step.code exits_of_step step_at ++ (d.front.code exits_of_front front_at ++ d.test.test (goes (d.rest.entry rest_at)) x.next t test_at)) rest_fits
              (fit_both u f (step.code exits_of_step step_at) (d.front.code exits_of_front front_at ++ d.test.test (goes (d.rest.entry rest_at)) x.next t test_at) step_fits
              (fit_both u f (d.front.code exits_of_front front_at) (d.test.test (goes (d.rest.entry rest_at)) x.next t test_at) front_fits test_fits)))

    test_last_fits : (q : Bool) → PartFits u f (taken (not (bb || bs)) false q) (test_last t d step)
    test_last_fits q = record {
      starts = λ x at room g. loop_in x at room (next_behind x at g.next);
      enters = λ x at room g. head_in x at room (next_behind x at g.next);
      fits = λ x at room g.
          let lands = if_reaches bb x.next (loop_end x at) h.breaks (loop_reaches bb bs x.next (loop_end x at) g.next).0 in
          loop_fits x at room (lands_behind u f x.next (loop_end x at) lands) lands;
    }
      where
        next_behind : (x : Exits) (at : ℕ) → Follows u f (not (not (bb || bs))) x.next (loop_end x at) → Behind u f x.next (loop_end x at)
        next_behind x at g = if_follows bb x.next (loop_end x at) h.breaks (loop_follows bb bs x.next (loop_end x at) g).0

  -- of any other body
  module _ (body step : Part) (eb bb es bs : Bool) (h : PartFits u f (taken eb bb true) body) (k : PartFits u f (taken es bs false) step) where
    module _ (x : Exits) (at : ℕ) where
      abbrev next_at : ℕ
      next_at = at + body.size body_falls

      abbrev both_end : ℕ
      both_end = at + (body.size body_falls + step.size (last_falls (is_fall x.next)))

      both_same : both_end ≡ next_at + step.size (last_falls (is_fall x.next))
      both_same = omega arith

      module _ (room : both_end ≤ length f.code) (behind : Follows u f bs x.next both_end) where
        abbrev exits_of_last : Exits
        exits_of_last = last_exits (body.entry at) x.next

        last_follow : AllFollow u f (taken es bs false) exits_of_last (next_at + step.size (last_falls (is_fall x.next)))
        last_follow = record {
          next = follows u f (not es) (goes (body.entry at)) (next_at + step.size (last_falls (is_fall x.next))) tt;
          on_break = subst (λ (n : ℕ). Follows u f bs x.next n) both_same behind;
          on_continue = tt;
        }

        last_room : next_at + step.size (last_falls (is_fall x.next)) ≤ length f.code
        last_room = omega (arith, room)

        next_in : next_at < length f.code
        next_in = k.starts exits_of_last next_at last_room last_follow

        turn_in : step.entry next_at < length f.code
        turn_in = k.enters exits_of_last next_at last_room last_follow

        abbrev exits_of_body : Exits
        exits_of_body = body_exits (step.entry next_at) x.next

        body_follow : AllFollow u f (taken eb bb true) exits_of_body next_at
        body_follow = record {
          next = follows u f (not eb) (falls (step.entry next_at)) next_at next_in;
          on_break = follows_settled u f bb x.next next_at;
          on_continue = next_in;
        }

        body_room : next_at ≤ length f.code
        body_room = let there = next_in in omega (arith, there)

        first_in : at < length f.code
        first_in = h.starts exits_of_body at body_room body_follow

        back_in : body.entry at < length f.code
        back_in = h.enters exits_of_body at body_room body_follow

        both_code : Reaches u f bb x.next both_end → Reaches u f bs x.next both_end → Fit u f ((body_first body step).code x at)
        both_code of_body of_step =
            fit_both u f (body.code exits_of_body at) (step.code exits_of_last next_at)
            (h.fits exits_of_body at body_room (record {
              next = reaches u f (not eb) (falls (step.entry next_at)) next_at (turn_in, next_in);
              on_break = reaches_settled u f bb x.next both_end next_at of_body;
              on_continue = (turn_in, next_in);
            }))
            (k.fits exits_of_last next_at last_room (record {
              next = reaches u f (not es) (goes (body.entry at)) (next_at + step.size (last_falls (is_fall x.next))) back_in;
              on_break = subst (λ (n : ℕ). Reaches u f bs x.next n) both_same of_step;
              on_continue = tt;
            }))

    body_first_fits : (q : Bool) → PartFits u f (taken (not (bb || bs)) false q) (body_first body step)
    body_first_fits q = record {
      starts = λ x at room g. first_in x at room (loop_follows bb bs x.next (both_end x at) g.next).1;
      enters = λ x at room g. back_in x at room (loop_follows bb bs x.next (both_end x at) g.next).1;
      fits = λ x at room g.
          let two = loop_reaches bb bs x.next (both_end x at) g.next in
          both_code x at room (reach_follows u f bs x.next (both_end x at) two.1) two.0 two.1;
    }

  -- and of one whose step does nothing
  module _ (body : Part) (eb bb bs : Bool) (h : PartFits u f (taken eb bb true) body) where
    module _ (x : Exits) (at : ℕ) where
      abbrev alone_end : ℕ
      alone_end = at + body.size (last_falls (is_fall x.next))

      abbrev exits_alone : Exits
      exits_alone = last_exits (body.entry at) x.next

      alone_follow : Follows u f bb x.next alone_end → AllFollow u f (taken eb bb true) exits_alone alone_end
      alone_follow behind = record { next = follows u f (not eb) (goes (body.entry at)) alone_end tt; on_break = behind; on_continue = tt }

      alone_reach : body.entry at < length f.code → Reaches u f bb x.next alone_end → AllReach u f (taken eb bb true) exits_alone alone_end
      alone_reach back lands = record { next = reaches u f (not eb) (goes (body.entry at)) alone_end back; on_break = lands; on_continue = back }

    body_alone_fits : (q : Bool) → PartFits u f (taken (not (bb || bs)) false q) (body_alone body)
    body_alone_fits q = record {
      starts = λ x at room g. h.starts (exits_alone x at) at room (alone_follow x at (loop_follows bb bs x.next (alone_end x at) g.next).0);
      enters = λ x at room g. h.enters (exits_alone x at) at room (alone_follow x at (loop_follows bb bs x.next (alone_end x at) g.next).0);
      fits = λ x at room g.
          let lands = (loop_reaches bb bs x.next (alone_end x at) g.next).0 in
          let back = h.enters (exits_alone x at) at room (alone_follow x at (reach_follows u f bb x.next (alone_end x at) lands)) in
          h.fits (exits_alone x at) at room (alone_reach x at back lands);
    }

  if_part_fits : (b : Bool) (k : _) (p r : Part) → PartFits u f k p → PartFits u f k r → PartFits u f k (if b then p else r)
  if_part_fits true k p r h g = h
  if_part_fits false k p r h g = g

  plain_loop_fits :
      (q : Bool) (body : Part) (eb bb : Bool) (step : StmtCode) → PartFits u f (taken eb bb true) body → PartFits u f (taken step.ends step.breaks false) step.part
      → PartFits u f (taken (not (bb || step.breaks)) false q) (plain_loop body step)
  plain_loop_fits q body eb bb step h k =
      if_part_fits (is_next step.way) (taken (not (bb || step.breaks)) false q) (body_alone body) (body_first body step.part)
      (body_alone_fits body eb bb step.breaks h q) (body_first_fits body step.part eb bb step.ends step.breaks h k q)

  loop_part_fits :
      (t : ℕ) (q : Bool) (d : Option Tested) (body : Part) (eb bb : Bool) (step : StmtCode) → OptionFits u f t bb true d → PartFits u f (taken eb bb true) body
      → PartFits u f (taken step.ends step.breaks false) step.part → PartFits u f (taken (not (bb || step.breaks)) false q) (loop_part t d body step)
  loop_part_fits t q None body eb bb step g h k = plain_loop_fits q body eb bb step h k
  loop_part_fits t q (Some d) body eb bb step g h k =
      if_part_fits (d.is_idle && is_next step.way) (taken (not (bb || step.breaks)) false q) (body_alone body) (test_last t d step.part)
      (body_alone_fits body eb bb step.breaks h q) (test_last_fits t d step.part bb step.ends step.breaks g k q)

  loop_stmt_fits : (t : ℕ) (q : Bool) (body step : StmtCode) → Fits u f t true body → Fits u f t false step → Fits u f t q (of_loop t body step)
  loop_stmt_fits t q body step h k = record {
    way = tt;
    fits = λ used.
        let first = h.fits (omega (arith, used)) in
        let second = k.fits (omega (arith, used)) in
        record { part = loop_part_fits t q body.tested body.part body.ends body.breaks step first.tested first.part second.part; tested = tt };
  }

  -- ---- returns

  return_fits : (t : ℕ) (q : Bool) (e : ExprCode) → ExprFits u f e → Fits u f t q (of_return t e)
  return_fits t q e g = record {
    way = tt;
    fits = λ used. record {
      part = record {
        starts = λ x at room k. omega (arith, room);
        enters = λ x at room k. omega (arith, room);
        fits = λ x at room k.
            fit_both u f (code_of e t at) (return (Some (operand_of e t)) ∷ []) (code_of_fits u f e g t at used (omega (arith, room)))
            (fit_one u f (return (Some (operand_of e t))) (operand_of_fits u f e g t used));
      };
      tested = tt;
    };
  }

  plain_return_fits : (t : ℕ) (q : Bool) → Fits u f t q of_plain_return
  plain_return_fits t q = record {
    way = tt;
    fits = λ used. record {
      part = record {
        starts = λ x at room k. omega (arith, room);
        enters = λ x at room k. omega (arith, room);
        fits = λ x at room k. fit_one u f (return None) refl;
      };
      tested = tt;
    };
  }

  -- ---- what stands alone

  store_fits : (t : ℕ) (q : Bool) (s : Scalar) (p e : ExprCode) → ExprFits u f p → ExprFits u f e → Fits u f t q (of_store t s p e)
  store_fits t q s p e h k =
      straight_fits u f t q _ _ _
      (λ used at room.
      fit_both u f (p.base_code t at) (code_of e (t + p.base_own) (at + p.base_size) ++ store s (address_at p t) (operand_of e (t + p.base_own)) ∷ [])
      (h.base_code t at (omega (arith, used)) (omega (arith, room)))
      (fit_both u f (code_of e (t + p.base_own) (at + p.base_size)) (store s (address_at p t) (operand_of e (t + p.base_own)) ∷ [])
      (code_of_fits u f e k (t + p.base_own) (at + p.base_size) (omega (arith, used)) (omega (arith, room)))
      (fit_one u f (store s (address_at p t) (operand_of e (t + p.base_own)))
      (and_from _ _ (address_at_fits u f p h t (omega (arith, used))) (operand_of_fits u f e k (t + p.base_own) (omega (arith, used)))))))

  copy_fits :
      (t : ℕ) (q : Bool) (size alignment : ℕ) (p e : ExprCode) → is_word size ≡ true → nat_le 1 alignment ≡ true → ExprFits u f p → ExprFits u f e
      → Fits u f t q (of_copy t size alignment p e)
  copy_fits t q size alignment p e size_is alignment_is h k =
      straight_fits u f t q _ _ _
      (λ used at room.
      fit_both u f (p.base_code t at) (e.base_code (t + p.base_own) (at + p.base_size) ++ copy size alignment (address_at p t) (address_at e (t + p.base_own)) ∷ [])
      (h.base_code t at (omega (arith, used)) (omega (arith, room)))
      (fit_both u f (e.base_code (t + p.base_own) (at + p.base_size)) (copy size alignment (address_at p t) (address_at e (t + p.base_own)) ∷ [])
      (k.base_code (t + p.base_own) (at + p.base_size) (omega (arith, used)) (omega (arith, room)))
      (fit_one u f (copy size alignment (address_at p t) (address_at e (t + p.base_own)))
      (and_from _ _ (and_from _ _ (and_from _ _ size_is alignment_is) (address_at_fits u f p h t (omega (arith, used))))
      (address_at_fits u f e k (t + p.base_own) (omega (arith, used)))))))

  fill_fits : (t : ℕ) (q : Bool) (blank : BlankTree) (p : ExprCode) → is_word (blank_size blank) ≡ true → ExprFits u f p → Fits u f t q (of_fill t blank p)
  fill_fits t q blank p size_is h =
      straight_fits u f t q _ _ _
      (λ used at room.
      fit_both u f (p.base_code t at) (fill blank (address_at p t) ∷ []) (h.base_code t at used (omega (arith, room)))
      (fit_one u f (fill blank (address_at p t)) (and_from _ _ size_is (address_at_fits u f p h t used))))

-- ---- statements

module _ (c : CoreUnitTree) (g : CoreFunctionTree) (u : TacUnitTree) (f : TacFunctionTree) (has : Has c g u f) where
  abbrev v : ℕ
  v = length g.variables

  target_in : (x : Target) (s : Scalar) → is_type (target_type g x) s ≡ true → target_of v x < f.temporaries
  target_in (targets.Variable x) s h =
      let there = variable_there g x s h in let numbers = has.numbers in omega (arith, there, numbers)
  target_in (targets.Temporary k) s h =
      let there = temporary_there g k s h in let numbers = has.numbers in omega (arith, there, numbers)

  taken_in : (x : Option ℕ) (r : Option Scalar) (es : List CoreExprTree) → destination_fits g r x es ≡ true → tac.taken_fits f (taken_by v x) ≡ true
  taken_in None r es h = refl
  taken_in (Some k) None es h = cc
  taken_in (Some k) (Some s) es h =
      let there = temporary_there g k s (and_parts _ _ h).0 in
      let numbers = has.numbers in
      let within : v + k < f.temporaries = omega (arith, there, numbers) in
      lt-ltb _ _ within

  call_in :
      (x : Option ℕ) (to : Callee) (es : List CoreExprTree) (t : ℕ) → call_fits g x (signature_of (interface_of c) to) es ≡ true
      → (tac.taken_fits f (taken_by v x) && tac.callee_fits u to (all_operands (map (lowered v) es) t)) ≡ true
  call_in x to es t h = by_signature (signature_of (interface_of c) to) refl h
    where
      by_signature :
          (o : Option Signature) → signature_of (interface_of c) to ≡ o → call_fits g x o es ≡ true
          → (tac.taken_fits f (taken_by v x) && tac.callee_fits u to (all_operands (map (lowered v) es) t)) ≡ true
      by_signature None is h = cc
      by_signature (Some s) is h =
          let two = and_parts (same_scalars (map type_of es) s.parameters) (destination_fits g s.result_type x es) h in
          let many : length (map type_of es) ≡ length s.parameters = ap length (scalars_same (map type_of es) s.parameters two.0) in
          let same = length-map es type_of in
          let count = argument_count c g u f has es t in
          and_from _ _ (taken_in x s.result_type es two.1) (has.callee to s is (all_operands (map (lowered v) es) t) (omega (arith, many, same, count)))

  mutual
    pub stmt_fits_all : (t : ℕ) (b q : Bool) (s : CoreStmtTree) → stmt_fits c g b q s ≡ true → Fits u f t q (stmt_code v t s)
    stmt_fits_all t b q core.skip h = by_way_fits u f t q to_next refl
    stmt_fits_all t b q (core.seq ss) h = stmts_fit_all t b q ss h
    stmt_fits_all t b q (core.assign x e) h =
        let two = and_parts (expr_fits c g e) _ h in
        let first = lowered_fits c g u f has e two.0 in
        straight_fits u f t q _ _ _ (λ used at room. first.into (target_of v x) t at (target_in x _ two.1) used room)
    stmt_fits_all t b q (core.store s a e) h =
        let two = and_parts (pointer_fits c g a) (expr_fits c g e) (and_parts _ _ h).0 in
        store_fits u f t q s (lowered v a) (lowered v e) (pointer_lowered c g u f has a two.0) (lowered_fits c g u f has e two.1)
    stmt_fits_all t b q (core.copy size alignment a e) h =
        let size_is = and_parts _ (nat_le size largest_size) h in
        let alignment_is = and_parts _ (nat_le 1 alignment) size_is.0 in
        let two = and_parts (pointer_fits c g a) (pointer_fits c g e) alignment_is.0 in
        copy_fits u f t q size alignment (lowered v a) (lowered v e) (small_word size size_is.1) alignment_is.1
        (pointer_lowered c g u f has a two.0) (pointer_lowered c g u f has e two.1)
    stmt_fits_all t b q (core.fill blank a) h =
        let two = and_parts (pointer_fits c g a) (nat_le (blank_size blank) largest_size) h in
        fill_fits u f t q blank (lowered v a) (small_word (blank_size blank) two.1) (pointer_lowered c g u f has a two.0)
    stmt_fits_all t b q (core.call x to es) h =
        let two = and_parts (exprs_fit c g es) _ h in
        straight_fits u f t q _ _ _
        (λ used at room.
        fit_both u f (all_code (map (lowered v) es) t at) (call (taken_by v x) to (all_operands (map (lowered v) es) t) ∷ [])
        (arguments_fit c g u f has es two.0 t at used (omega (arith, room)))
        (fit_one u f (call (taken_by v x) to (all_operands (map (lowered v) es) t))
        (and_from _ _ (call_in x to es t two.1) (argument_operands c g u f has es two.0 t used))))
    stmt_fits_all t b q (core.branch e s r) h =
        let two = and_parts _ (stmt_fits c g b q r) h in
        let one = and_parts (expr_fits c g e) (stmt_fits c g b q s) two.0 in
        branch_fits u f t q (lowered v e).known (lowered v e) (stmt_code v t s) (stmt_code v t r) (lowered_fits c g u f has e one.0)
        (stmt_fits_all t b q s one.1) (stmt_fits_all t b q r two.1)
    stmt_fits_all t b q (core.loop body step) h =
        let two = and_parts (stmt_fits c g true true body) (stmt_fits c g true false step) h in
        loop_stmt_fits u f t q (stmt_code v t body) (stmt_code v t step) (stmt_fits_all t true true body two.0) (stmt_fits_all t true false step two.1)
    stmt_fits_all t b q (core.switch e labels ss) h =
        let four = and_parts _ (stmts_fit c g true q ss) h in
        let three = and_parts _ (list_all (label_fits (type_of e) (count_of ss)) labels) four.0 in
        let two = and_parts (expr_fits c g e) (is_promoted (type_of e)) three.0 in
        switch_fits u f t q (lowered v e) labels (count_of ss) (but_last (parts_code v t ss)) (last_of (parts_code v t ss)) (lowered_fits c g u f has e two.0)
        (word_cases (type_of e) (count_of ss) labels three.1) (labels_there (type_of e) (count_of ss) labels three.1)
        (λ used. row_fits_all t true q ss four.1 used)
    stmt_fits_all t b q core.break h = by_way_fits u f t q to_break refl
    stmt_fits_all t b q core.continue h = by_way_fits u f t q to_continue h
    stmt_fits_all t b q (core.return None) h = plain_return_fits u f t q
    stmt_fits_all t b q (core.return (Some e)) h = return_fits u f t q (lowered v e) (lowered_fits c g u f has e (and_parts (expr_fits c g e) _ h).0)

    pub stmts_fit_all : (t : ℕ) (b q : Bool) (ss : CoreStmts) → stmts_fit c g b q ss ≡ true → Fits u f t q (stmts_code v t ss)
    stmts_fit_all t b q no_stmts h = by_way_fits u f t q to_next refl
    stmts_fit_all t b q (stmt_and s no_stmts) h = stmt_fits_all t b q s (and_parts (stmt_fits c g b q s) _ h).0
    stmts_fit_all t b q (stmt_and s (stmt_and r ss)) h =
        let two = and_parts (stmt_fits c g b q s) (stmts_fit c g b q (stmt_and r ss)) h in
        both_fits u f t q (stmt_code v t s) (stmts_code v t (stmt_and r ss)) (stmt_fits_all t b q s two.0) (stmts_fit_all t b q (stmt_and r ss) two.1)

    -- the parts of a switch
    pub row_fits_all :
        (t : ℕ) (b q : Bool) (ss : CoreStmts) → stmts_fit c g b q ss ≡ true → t + (row v t ss).used ≤ f.temporaries
        → RowFits u f q (count_of ss) (but_last (parts_code v t ss)) (last_of (parts_code v t ss))
    row_fits_all t b q no_stmts h used = one_row_fits u f q 0 (last_of []) (omega arith) ((by_way_fits u f t q to_next refl).fits used).part
    row_fits_all t b q (stmt_and s no_stmts) h used =
        one_row_fits u f q (0 + 1) (stmt_code v t s) (omega arith) ((stmt_fits_all t b q s (and_parts (stmt_fits c g b q s) _ h).0).fits used).part
    row_fits_all t b q (stmt_and s (stmt_and r ss)) h used =
        let two = and_parts (stmt_fits c g b q s) (stmts_fit c g b q (stmt_and r ss)) h in
        more_row_fits u f q (count_of (stmt_and r ss) + 1) (count_of (stmt_and r ss)) (stmt_code v t s) (but_last (parts_code v t (stmt_and r ss))) (last_of (parts_code v t (stmt_and r ss))) (omega arith)
        ((stmt_fits_all t b q s two.0).fits (omega (arith, used))).part (row_fits_all t b q (stmt_and r ss) two.1 (omega (arith, used)))

-- ---- no break stands outside every loop and switch

branch_breaks : (known : Option Bool) (t : ℕ) (e : ExprCode) (a b : StmtCode) → a.breaks ≡ false → b.breaks ≡ false → (of_branch known t e a b).breaks ≡ false
branch_breaks None t e a b h k = or_from _ _ h k
branch_breaks (Some true) t e a b h k = h
branch_breaks (Some false) t e a b h k = k

ways_break : (o w : Option Way) (a b : StmtCode) → a.breaks ≡ false → b.breaks ≡ false → (of_ways o a b).breaks ≡ false
ways_break None w a b h k = before_breaks b.way a b h k
  where
    before_breaks : (w : Option Way) (a b : StmtCode) → a.breaks ≡ false → b.breaks ≡ false → (of_before a w b).breaks ≡ false
    before_breaks None a b h k = or_from _ _ h k
    before_breaks (Some w) a b h k = or_from _ _ h k
ways_break (Some o) w a b h k = k

both_break : (e : Bool) (a b : StmtCode) → a.breaks ≡ false → b.breaks ≡ false → (if e then a else of_ways a.way a b).breaks ≡ false
both_break true a b h k = h
both_break false a b h k = ways_break a.way None a b h k

mutual
  pub stmt_breaks : (c : CoreUnitTree) (g : CoreFunctionTree) (v t : ℕ) (q : Bool) (s : CoreStmtTree) → stmt_fits c g false q s ≡ true → (stmt_code v t s).breaks ≡ false
  stmt_breaks c g v t q core.skip h = refl
  stmt_breaks c g v t q (core.seq ss) h = stmts_break c g v t q ss h
  stmt_breaks c g v t q (core.assign x e) h = refl
  stmt_breaks c g v t q (core.store s a e) h = refl
  stmt_breaks c g v t q (core.copy size alignment a e) h = refl
  stmt_breaks c g v t q (core.fill blank a) h = refl
  stmt_breaks c g v t q (core.call x to es) h = refl
  stmt_breaks c g v t q (core.branch e s r) h =
      let two = and_parts _ (stmt_fits c g false q r) h in
      let one = and_parts (expr_fits c g e) (stmt_fits c g false q s) two.0 in
      branch_breaks (lowered v e).known t (lowered v e) (stmt_code v t s) (stmt_code v t r) (stmt_breaks c g v t q s one.1) (stmt_breaks c g v t q r two.1)
  stmt_breaks c g v t q (core.loop body step) h = refl
  stmt_breaks c g v t q (core.switch e labels ss) h = refl
  stmt_breaks c g v t q core.break h = cc
  stmt_breaks c g v t q core.continue h = refl
  stmt_breaks c g v t q (core.return None) h = refl
  stmt_breaks c g v t q (core.return (Some e)) h = refl

  pub stmts_break : (c : CoreUnitTree) (g : CoreFunctionTree) (v t : ℕ) (q : Bool) (ss : CoreStmts) → stmts_fit c g false q ss ≡ true → (stmts_code v t ss).breaks ≡ false
  stmts_break c g v t q no_stmts h = refl
  stmts_break c g v t q (stmt_and s no_stmts) h = stmt_breaks c g v t q s (and_parts (stmt_fits c g false q s) _ h).0
  stmts_break c g v t q (stmt_and s (stmt_and r ss)) h =
      let two = and_parts (stmt_fits c g false q s) (stmts_fit c g false q (stmt_and r ss)) h in
      both_break (stmt_code v t s).ends (stmt_code v t s) (stmts_code v t (stmt_and r ss)) (stmt_breaks c g v t q s two.0) (stmts_break c g v t q (stmt_and r ss) two.1)
