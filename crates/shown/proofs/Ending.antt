-- Spans, alarms and names of all histories that an observer tracks. Assumes nothing.
use Rattle.std.proofs.Common.{◌≡◌, ℕ, ◌-◌, ◌^◌, ◌<◌, ◌≤◌, Bool, true, false, cond, ◌&&◌, ltb, List, length, ℤ, pos, ◌+ℤ◌, ◌-ℤ◌, neg_ℤ, ◌≤ℤ◌, ◌<ℤ◌, Some, None, vec_items, Decides, Option, sym, refl, ◌∙◌, subst, arith}
use lib.Signed.{lt_z}
use Rattle.std.proofs.lemmas.Int.{ints}
use Rattle.std.proofs.lemmas.Bool.{true≢false, false≢true}
use Rattle.std.proofs.lemmas.Bool.Decides.{nat_tests}
use Rattle.std.specs.Int.{saturate_to_bits}
use Rattle.std.specs.Option.{option_map}
use Rattle.theory.specs.Bound.{none, at_most}
use Rattle.theory.specs.Level.{Levels, level, difference}
use Rattle.theory.specs.History as history
use Rattle.theory.specs.Possible.{Possible, Explained, NonePossible, AlwaysWrong}
use Rattle.theory.specs.End.{Greatest, Least, UpperEnd, ShowsUpper}
use Rattle.theory.proofs.Bounds.{difference_flip, difference_datum}
use Rattle.theory.proofs.Shown.{shows_same, datum_possible}
use Rattle.theory.proofs.Trajectories.{wrong_or_blamed}
use Rattle.bounds.specs.Meaning.{bound_of}
use Rattle.faults.specs.Sets.{gauge_set}
use Rattle.plant.specs.declared.kinds.Event.{Event}
use Rattle.plant.specs.Resolve.{resolved, start_of}
use Rattle.table.specs.declared.state.Observer.{Observer}
use Rattle.table.specs.Tracks.{Tracks}
use Rattle.shown.specs.declared.kinds.End.{End}
use Rattle.shown.specs.declared.kinds.End.TheVariants as end
use Rattle.shown.specs.declared.kinds.Span.{Span}
use Rattle.shown.specs.declared.kinds.Span.TheVariants as span
use Rattle.shown.specs.declared.kinds.Alarm.TheVariants as alarm
use Rattle.shown.specs.declared.kinds.Names.{Names}
use Rattle.shown.specs.Says.{basin_refused}
use Rattle.shown.specs.Meaning.{Upper, Lower, Exact, Rings, Told}
use Rattle.shown.specs.Computed.{largest_of, none_has_levels, in_each_of, above_end, below_end, span_of, exceeds, alarm_of, in_each}
use Rattle.shown.proofs.Showing.{shown_upper, largest_floor, none_told, blamed_told}

-- ---- ends
module _ (P : Levels → Type 0) where
  upper_of : (q : Levels → ℤ) (v : ℤ) → UpperEnd P q (bound_of v) → Upper P q (above_end v)
  unfolding bound_of
  upper_of q v = go (lt_z v (pos (2 ^ 63 - 1)))
    where
      go : (b : Bool) → UpperEnd P q (cond b (at_most v) none) → Upper P q (cond b (end.At v) end.Open)
      go true u = u
      go false u = u

  -- the other way round, a greatest value becomes a least one
  flipped : (i j : ℕ) (v c : ℤ) → c ≡ neg_ℤ v → Greatest P (λ x. difference x j i) v → Least P (λ x. difference x i j) c
  flipped i j v c e u =
      let r = u.reached in
      record {
        holds = λ x p. let h : difference x j i ≤ℤ v = u.holds x p in let d = difference_flip x i j in omega (arith, ints);
        reached = (r.0, r.1, let d = difference_flip r.0 i j in let k : difference r.0 j i ≡ v = r.2 in omega (arith, ints));
      }

  lower_of : (i j : ℕ) (v : ℤ) → neg_ℤ (pos (2 ^ 62)) ≤ℤ v → UpperEnd P (λ x. difference x j i) (bound_of v) →
      Lower P (λ x. difference x i j) (below_end v)
  unfolding bound_of
  lower_of i j v l = go (lt_z v (pos (2 ^ 63 - 1))) refl
    where
      back : (v : ℤ) → neg_ℤ (pos (2 ^ 62)) ≤ℤ v → lt_z v (pos (2 ^ 63 - 1)) ≡ true → saturate_to_bits 63 (pos 0 -ℤ v) ≡ neg_ℤ v
      back v l e = grind (arith, ints)

      go : (b : Bool) → lt_z v (pos (2 ^ 63 - 1)) ≡ b → UpperEnd P (λ x. difference x j i) (cond b (at_most v) none) →
          Lower P (λ x. difference x i j) (cond b (end.At (saturate_to_bits 63 (pos 0 -ℤ v))) end.Open)
      go true e u = flipped i j v (saturate_to_bits 63 (pos 0 -ℤ v)) (back v l e) u
      go false e u = λ c. let r = u (neg_ℤ c) in
          (r.0, r.1, let d = difference_flip r.0 i j in let k : neg_ℤ c ≤ℤ difference r.0 j i = r.2 in omega (arith, ints))

  -- ---- alarms
  -- over a quantity of which the span is exact
  pub rings : (q : Levels → ℤ) (s : Span) (limit : ℤ) → Exact s q P → Rings (alarm_of s limit) q P limit
  rings q span.Nothing limit e = λ x p. absurd (e x p)
  rings q (span.Ends low high) limit (lo, hi) = go (exceeds false limit low) refl (exceeds true limit high) refl
    where
      -- what an end above the limit, or not above it, says
      above_low : (l : End) → Lower P q l → exceeds false limit l ≡ true → (x : Levels) → P x → limit <ℤ q x
      above_low (end.At c) u e x p = let h = u.holds x p in grind (arith, ints)
      above_low end.Open u e x p = absurd (false≢true e)

      below_low : (l : End) → Lower P q l → exceeds false limit l ≡ false → (x : Levels) × P x × (q x ≤ℤ limit)
      below_low (end.At c) u e = let r = u.reached in
          (r.0, r.1, let k : q r.0 ≡ c = r.2 in reach_below (q r.0) c limit k e)
        where
          reach_below : (v c l : ℤ) → v ≡ c → lt_z l c ≡ false → v ≤ℤ l
          reach_below v c l k e = grind (arith, ints)
      below_low end.Open u e = u limit

      some_low : (l : End) → Lower P q l → (x : Levels) × P x
      some_low (end.At c) u = let r = u.reached in (r.0, r.1)
      some_low end.Open u = let r = u limit in (r.0, r.1)

      above_high : (h : End) → Upper P q h → exceeds true limit h ≡ true → (x : Levels) × P x × (limit <ℤ q x)
      above_high (end.At c) u e = let r = u.reached in
          (r.0, r.1, let k : q r.0 ≡ c = r.2 in reach_above (q r.0) c limit k e)
        where
          reach_above : (v c l : ℤ) → v ≡ c → lt_z l c ≡ true → l <ℤ v
          reach_above v c l k e = grind (arith, ints)
      above_high end.Open u e = let r = u (limit +ℤ pos 1) in
          (r.0, r.1, let k : (limit +ℤ pos 1) ≤ℤ q r.0 = r.2 in omega (arith, ints))

      below_high : (h : End) → Upper P q h → exceeds true limit h ≡ false → (x : Levels) → P x → q x ≤ℤ limit
      below_high (end.At c) u e x p = let h = u.holds x p in grind (arith, ints)
      below_high end.Open u e x p = absurd (true≢false e)

      go : (a : Bool) → exceeds false limit low ≡ a → (b : Bool) → exceeds true limit high ≡ b →
          Rings (cond a alarm.Sure (cond b alarm.On alarm.Off)) q P limit
      go true e b f = (some_low low lo, above_low low lo e)
      go false e true f = (above_high high hi f, below_low low lo e)
      go false e false f = below_high high hi f

  -- a quantity with the same values has the same span
  exact_same : (q r : Levels → ℤ) → ((x : Levels) → P x → q x ≡ r x) → (s : Span) → Exact s q P → Exact s r P
  exact_same q r same span.Nothing e = e
  exact_same q r same (span.Ends low high) (lo, hi) = (lower low lo, upper high hi)
    where
      lower : (l : End) → Lower P q l → Lower P r l
      lower (end.At c) u = let w = u.reached in record {
        holds = λ x p. subst (λ v. c ≤ℤ v) (same x p) (u.holds x p);
        reached = (w.0, w.1, sym (same w.0 w.1) ∙ w.2);
      }
      lower end.Open u = λ c. let w = u c in (w.0, w.1, subst (λ v. v ≤ℤ c) (same w.0 w.1) w.2)

      upper : (h : End) → Upper P q h → Upper P r h
      upper (end.At c) u = let w = u.reached in record {
        holds = λ x p. subst (λ v. v ≤ℤ c) (same x p) (u.holds x p);
        reached = (w.0, w.1, sym (same w.0 w.1) ∙ w.2);
      }
      upper end.Open u = λ c. let w = u c in (w.0, w.1, subst (λ v. c ≤ℤ v) (same w.0 w.1) w.2)

-- ---- what an observer shows
module _ (o : Observer) (es : List Event) (t : Tracks o es) where
  abbrev pub possible : Levels → Type 0
  possible = Possible o.plant.basins o.in_play o.plant.wrong (start_of o.plant) (resolved o.plant es)

  abbrev numbers : List ℤ
  numbers = vec_items o.table

  shows : (i j : ℕ) → i ≤ o.plant.basins → j ≤ o.plant.basins →
      ShowsUpper possible (λ x. difference x i j) (option_map bound_of (largest_of o i j))
  shows i j hi hj =
      let n = o.plant.basins in let g = o.in_play in let f = o.plant.wrong in
      let hs : List history.Event = resolved o.plant es in
      let same = (wrong_or_blamed n g f (start_of o.plant) hs).0 in
      shows_same (Explained n g f (start_of o.plant) hs) possible (λ x. difference x i j) (option_map bound_of (largest_of o i j))
      (λ x. (same x).1) (λ x. (same x).0)
      (shown_upper n g f o.steps (start_of o.plant) hs (vec_items o.sets) numbers t.listed t.follows i j hi hj)

  pub span_exact : (i j : ℕ) → i ≤ o.plant.basins → j ≤ o.plant.basins →
      Exact (span_of (largest_of o j i) (largest_of o i j)) (λ x. difference x i j) possible
  span_exact i j hi hj = go (largest_of o j i) (largest_of o i j) (shows j i hj hi) (shows i j hi hj)
      (λ v e. largest_floor o.plant.basins o.in_play o.plant.wrong o.steps (start_of o.plant) (resolved o.plant es)
      (vec_items o.sets) numbers t.listed t.follows o.counted j i hj hi v e)
    where
      go : (low high : Option ℤ) →
          ShowsUpper (Possible o.plant.basins o.in_play o.plant.wrong (start_of o.plant) (resolved o.plant es))
          (λ x. difference x j i) (option_map bound_of low) →
          ShowsUpper (Possible o.plant.basins o.in_play o.plant.wrong (start_of o.plant) (resolved o.plant es))
          (λ x. difference x i j) (option_map bound_of high) →
          ((v : ℤ) → low ≡ Some v → neg_ℤ (pos (2 ^ 62)) ≤ℤ v) →
          Exact (span_of low high) (λ x. difference x i j)
          (Possible o.plant.basins o.in_play o.plant.wrong (start_of o.plant) (resolved o.plant es))
      go None high a b size = a
      go (Some low) None a b size = b
      go (Some low) (Some high) a b size =
          (lower_of _ i j low (size low refl) a, upper_of _ (λ x. difference x i j) high b)

  pub level_exact : (i : ℕ) → i ≤ o.plant.basins → Exact (span_of (largest_of o 0 i) (largest_of o i 0)) (level i) possible
  level_exact i hi =
      exact_same possible (λ x. difference x i 0) (level i) (λ x p. difference_datum x i (datum_possible p))
      (span_of (largest_of o 0 i) (largest_of o i 0)) (span_exact i 0 hi (omega arith))

  pub none_decided : Decides (none_has_levels o)
      (NonePossible o.plant.basins o.in_play o.plant.wrong (start_of o.plant) (resolved o.plant es))
  none_decided =
      let n = o.plant.basins in let g = o.in_play in let f = o.plant.wrong in
      let hs : List history.Event = resolved o.plant es in
      let same = (wrong_or_blamed n g f (start_of o.plant) hs).0 in
      let d = none_told n g f o.steps (start_of o.plant) hs (vec_items o.sets) numbers t.listed t.follows in
      (λ e x p. d.0 e x ((same x).0 p), λ never. d.1 (λ x p. never x ((same x).1 p)))

  pub name_decided : (a : ℕ) → Decides (in_each o.plant.basins (vec_items o.sets) numbers a (length (vec_items o.sets)))
      (AlwaysWrong o.plant.basins o.in_play o.plant.wrong (start_of o.plant) (resolved o.plant es) a)
  name_decided a =
      let n = o.plant.basins in let g = o.in_play in let f = o.plant.wrong in
      let hs : List history.Event = resolved o.plant es in
      let same = (wrong_or_blamed n g f (start_of o.plant) hs).1 a in
      let d = blamed_told n g f o.steps (start_of o.plant) hs (vec_items o.sets) numbers t.listed t.follows a in
      (λ e. same.1 (d.0 e), λ p. d.1 (same.0 p))

  -- the names
  pub names_told : (m : Names) → o.in_play ≤ 12 →
      ((a : ℕ) → gauge_set m.gauges a ≡ in_each_of o a) →
      m.none ≡ none_has_levels o →
      Told o.plant.basins o.in_play o.plant.wrong (start_of o.plant) (resolved o.plant es) m
  names_told m few bits none_is = record {
    gauges = λ a h. subst (λ b. Decides b (AlwaysWrong o.plant.basins o.in_play o.plant.wrong (start_of o.plant)
        (resolved o.plant es) a)) (sym (bits a ∙ known a o.in_play _ h few)) (name_decided a);
    others = λ a h. bits a ∙ unknown a o.in_play _ h;
    none = subst (λ b. Decides b (NonePossible o.plant.basins o.in_play o.plant.wrong (start_of o.plant)
        (resolved o.plant es))) (sym none_is) none_decided;
  }
    where
      known : (a g : ℕ) (b : Bool) → a < g → g ≤ 12 → ((ltb a g && ltb a 16) && b) ≡ b
      known a g b h l = grind (arith, nat_tests)

      unknown : (a g : ℕ) (b : Bool) → g ≤ a → ((ltb a g && ltb a 16) && b) ≡ false
      unknown a g b h = grind (arith, nat_tests)

pub basin_there : (n b : ℕ) → basin_refused n b ≡ None → b ≤ n
basin_there n b e = grind (arith, nat_tests)
