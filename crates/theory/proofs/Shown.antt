-- What is shown, who is named, and that there is no history: over all fault sets. Assumes nothing.
use Rattle.std.proofs.Common.{◌≡◌, ℕ, ◌≤◌, Bool, true, false, ◌&&◌, ◌||◌, ◌⊎◌, List, [], ◌∷◌, map, ℤ, pos, ◌+ℤ◌, neg_ℤ, ◌≤ℤ◌, Some, None, Decides, Option, sym, refl, ◌∙◌, subst, inl, inr, arith}
use borrow.Author.Differences.{ints}
use borrow.Author.Tests.{clash}
use Rattle.std.specs.List.{AllByRecursion}
use Rattle.std.proofs.ByRecursion.{All-weaker}
use Rattle.theory.specs.Bound.{Bound, none, at_most, Holds, NoLarger, looser}
use Rattle.theory.specs.Level.{Levels, level, difference, Ranges, Ordered}
use Rattle.theory.specs.Zone.{Zone, Canonical}
use Rattle.theory.specs.History.{Event, Placed, FaultSet, AtMost, History}
use Rattle.theory.specs.Possible.{Trajectory, began, stepped, stayed, Possible, Explained}
use Rattle.theory.specs.Possible.{AlwaysBlamed}
use Rattle.theory.specs.End.{Greatest, Spans, UpperEnd, ShowsUpper}
use Rattle.theory.specs.Computed.{zone_in, is_empty, zone_after, fault_sets, either, loosest, bound_in, upper_end, all_pass}
use Rattle.theory.specs.Computed.{no_history, named}
use Rattle.theory.specs.Promise.{Kept, AllShown, Sharpest, Naming, NoHistory}
use Rattle.theory.proofs.Bounds.{difference_flip, difference_datum, holds_larger, looser_left, looser_right, of_looser}
use Rattle.theory.proofs.Reach.{reached, unbounded, some_levels}
use Rattle.theory.proofs.Track.{Told, tracked}
use Rattle.theory.proofs.Faults.{listed_few, of_listed}
use Rattle.theory.proofs.Trajectories.{same_history, wrong_or_blamed}

-- ---- ends
-- the end of a set of levels is that of a set with the same levels
pub upper_end_same : (P Q : Levels → Type 0) (q : Levels → ℤ) (b : Bound) → ((x : Levels) → P x → Q x) → ((x : Levels) → Q x →
    P x) → UpperEnd P q b → UpperEnd Q q b
upper_end_same P Q q none to from u = λ c. let r = u c in (r.0, to r.0 r.1, r.2)
upper_end_same P Q q (at_most c) to from u =
    let r = u.reached in record { holds = λ x p. u.holds x (from x p); reached = (r.0, to r.0 r.1, r.2) }

upper_end_least : (P : Levels → Type 0) (q : Levels → ℤ) (b c : Bound) →
    UpperEnd P q b → ((x : Levels) → P x → Holds c (q x)) → NoLarger b c
upper_end_least P q b none u h = tt
upper_end_least P q none (at_most c) u h =
    let r = u (c +ℤ pos 1) in let k : (c +ℤ pos 1) ≤ℤ q r.0 = r.2 in let l = h r.0 r.1 in omega (arith, ints)
upper_end_least P q (at_most b) (at_most c) u h =
    let r = u.reached in let k : q r.0 ≡ b = r.2 in let l = h r.0 r.1 in omega (arith, ints)

pub sharpest : Sharpest
sharpest n g f start es i j b c u h = upper_end_least (Possible n g f start es) (λ x. difference x i j) b c u h

-- ---- tests of all sets
pub all_pass_tells : (t : FaultSet → Bool) (ws : List FaultSet) → Decides (all_pass t ws) (AllByRecursion (λ w. t w ≡ true) ws)
all_pass_tells t [] = (λ _. tt, λ _. refl)
all_pass_tells t (w ∷ ws) = both (t w) (all_pass t ws) (all_pass_tells t ws)
  where
    both : (a b : Bool) → Decides b (AllByRecursion (λ v. t v ≡ true) ws) → Decides (a && b) ((a ≡ true) × AllByRecursion (λ v. t v ≡ true) ws)
    both true b d = (λ e. (refl, d.0 e), λ p. d.1 p.1)
    both false b d = (λ e. absurd (clash e), λ p. absurd (clash p.0))

-- is_empty tells of a set: it has no history, or one
abbrev pub Answered : ℕ → Ranges → List Event → FaultSet → Type 0
Answered n start es w =
    ((is_empty (zone_after n start w es) ≡ true) × ((x : Levels) → History n start w es x → ⊥))
    ⊎ ((is_empty (zone_after n start w es) ≡ false) × ((x : Levels) × History n start w es x))

module _ (n g f : ℕ) (start : Ranges) (es : List Event) (ok : Ordered n start) (pl : Placed n es) where
  abbrev after : FaultSet → List Bound
  after w = zone_after n start w es

  -- what is true of the histories of each listed set is true of those of each set of at most f gauges
  of_each : (P : FaultSet → Levels → Type 0) → ((w v : FaultSet) (x : Levels) → ((a : ℕ) → w a ≡ v a) → P w x → P v x) →
      AllByRecursion (λ w. (x : Levels) → History n start w es x → P w x) (fault_sets f g) → (v : FaultSet) →
      AtMost f g v → (x : Levels) → History n start v es x → P v x
  of_each P same all v few =
      of_listed (λ w. (x : Levels) → History n start w es x → P w x)
      (λ w u e h x k. same w u x e (h x (same_history n start u w (λ a. sym (e a)) k))) f g all v few

  answered : (w : FaultSet) → Answered n start es w
  answered w = go (tracked n start w es ok pl)
    where
      go : Kept n start w es (zone_in n (zone_after n start w es)) × Told n (zone_after n start w es) → Answered n start es w
      go (k, inr (e, none_in)) = inl (e, λ x h. none_in x (k.sound x h))
      go (k, inl (e, ca)) = let s = some_levels n (zone_in n (zone_after n start w es)) ca in
          inr (e, (s.0, k.exact s.0 s.1))

  -- ---- names, and no history
  blamed_tells : (a : ℕ) → Decides (named n g f start es a) (AlwaysBlamed n g f start es a)
  blamed_tells a =
      let d = all_pass_tells (λ w. is_empty (after w) || w a) (fault_sets f g) in (
        λ e x p. of_each (λ w y. w a ≡ true) (λ w v y q h. sym (q a)
            ∙ h) (All-weaker (λ w. (is_empty (after w) || w a) ≡ true) (λ w. (y : Levels) → History n start w es y →
            w a ≡ true) (λ w t y h. in_set w t y h (answered w)) (fault_sets f g) (d.0 e)) p.faults p.few x
            p.history,
        λ always. d.1 (All-weaker (AtMost f g) (λ w. (is_empty (after w) || w a) ≡ true)
            (λ w few. passes w few always (answered w)) (fault_sets f g) (listed_few f g)),
      )
    where
      in_set : (w : FaultSet) → (is_empty (zone_after n start w es) || w a) ≡ true → (y : Levels) →
          History n start w es y → Answered n start es w → w a ≡ true
      in_set w t y h (inl (e, no_one)) = absurd (no_one y h)
      in_set w t y h (inr (e, s)) = rw e at t

      passes : (w : FaultSet) → AtMost f g w → AlwaysBlamed n g f start es a →
          Answered n start es w → (is_empty (zone_after n start w es) || w a) ≡ true
      passes w few always (inl (e, no_one)) = rw e refl
      passes w few always (inr (e, (x, h))) = rw e (always x record { faults = w; few = few; history = h })

  none_tells : Decides (no_history n g f start es) ((x : Levels) → Explained n g f start es x → ⊥)
  none_tells =
      let d = all_pass_tells (λ w. is_empty (after w)) (fault_sets f g) in (
        λ e x p. of_each (λ w y. ⊥) (λ w v y q h. h) (All-weaker (λ w. is_empty (after w) ≡ true) (λ w. (y : Levels) →
            History n start w es y → ⊥) (λ w t y h. no_one w t y h (answered w)) (fault_sets f g) (d.0 e)) p.faults
            p.few x p.history,
        λ never. d.1 (All-weaker (AtMost f g) (λ w. is_empty (after w) ≡ true) (λ w few. gone w few never (answered w))
            (fault_sets f g) (listed_few f g)),
      )
    where
      no_one : (w : FaultSet) → is_empty (zone_after n start w es) ≡ true → (y : Levels) → History n start w es y →
          Answered n start es w → ⊥
      no_one w t y h (inl (e, nobody)) = nobody y h
      no_one w t y h (inr (e, s)) = clash (sym e ∙ t)

      gone : (w : FaultSet) → AtMost f g w → ((x : Levels) → Explained n g f start es x → ⊥) → Answered n start es w →
          is_empty (zone_after n start w es) ≡ true
      gone w few never (inl (e, nobody)) = e
      gone w few never (inr (e, (x, h))) = absurd (never x record { faults = w; few = few; history = h })

  -- ---- what is shown
  module _ (i j : ℕ) (hi : i ≤ n) (hj : j ≤ n) where
    -- the bound holds in all histories of a set
    abbrev KeptBy : Bound → FaultSet → Type 0
    KeptBy b w = (x : Levels) → History n start w es x → Holds b (difference x i j)

    -- the bound is that of a set's zone
    abbrev Origin : Bound → Type 0
    Origin b = (w : FaultSet) × (z : Zone) × AtMost f g w × Kept n start w es z × Canonical n z × (z i j ≡ b)

    abbrev Tells : List FaultSet → Option Bound → Type 0
    Tells ws None = AllByRecursion (λ w. (x : Levels) → History n start w es x → ⊥) ws
    Tells ws (Some b) = Origin b × AllByRecursion (KeptBy b) ws

    larger_all : (ws : List FaultSet) (b c : Bound) → NoLarger b c → AllByRecursion (KeptBy b) ws → AllByRecursion (KeptBy c) ws
    larger_all ws b c h all = All-weaker (KeptBy b) (KeptBy c) (λ w k x p. holds_larger b c (difference x i j) h (k x p)) ws all

    tells_more : (w : FaultSet) (ws : List FaultSet) (p q : Option Bound) → Tells (w ∷ []) p → Tells ws q →
        Tells (w ∷ ws) (either p q)
    tells_more w ws None None a b = (a.0, b)
    tells_more w ws None (Some c) a b = (b.0, ((λ x h. absurd (a.0 x h)), b.1))
    tells_more w ws (Some d) None a b = (
      a.0,
      (
        a.1.0,
        All-weaker (λ v. (x : Levels) → History n start v es x →
            ⊥) (KeptBy d) (λ v k x h. absurd (k x h)) ws b,
      ),
    )
    tells_more w ws (Some d) (Some c) a b = (
      of_looser Origin d c a.0 b.0,
      (
        (larger_all (w ∷ []) d (looser d c) (looser_left d c)
            a.1).0,
        larger_all ws c (looser d c) (looser_right d c) b.1,
      ),
    )

    tells_one : (w : FaultSet) → AtMost f g w → Tells (w ∷ []) (bound_in n i j (after w))
    tells_one w few = go (tracked n start w es ok pl)
      where
        go : Kept n start w es (zone_in n (zone_after n start w es)) × Told n (zone_after n start w es) →
            Tells (w ∷ []) (bound_in n i j (zone_after n start w es))
        go (k, inr (e, none_in)) = rw e ((λ x h. none_in x (k.sound x h)), tt)
        go (k, inl (e, ca)) = rw e (
          (w, zone_in n (zone_after n start w es), few, k, ca, refl),
          ((λ x h. (k.sound x h).holds i j hi hj), tt),
        )

    tells : (ws : List FaultSet) → AllByRecursion (AtMost f g) ws → Tells ws (loosest (map (λ w. bound_in n i j (after w)) ws))
    tells [] all = tt
    tells (w ∷ ws) all = tells_more w ws (bound_in n i j (after w)) (loosest (map (λ v. bound_in n i j (after v)) ws))
        (tells_one w all.0) (tells ws all.1)

    told : (b : Option Bound) → Tells (fault_sets f g) b → ShowsUpper (Explained n g f start es) (λ x. difference x i j) b
    told None t = λ x p. of_each (λ w y. ⊥) (λ w v y q h. h) t p.faults p.few x p.history
    told (Some none) ((w, z, few, k, ca, e), all) = λ c.
        let r = unbounded n z i j ca hi hj e c in (r.0, record { faults = w; few = few; history = k.exact r.0 r.1 }, r.2)
    told (Some (at_most c)) ((w, z, few, k, ca, e), all) =
        let r = reached n z i j c ca hi hj e in
        record {
          holds = λ x p. of_each (λ v y. Holds (at_most c) (difference y i j)) (λ u v y q h. h) all p.faults p.few x
              p.history;
          reached = (r.0, record { faults = w; few = few; history = k.exact r.0 r.1 }, r.2);
        }

    shown_explained : ShowsUpper (Explained n g f start es) (λ x. difference x i j) (upper_end n g f start es i j)
    shown_explained = told (upper_end n g f start es i j) (tells (fault_sets f g) (listed_few f g))

-- ---- the same of wrong gauges
pub shows_same : (P Q : Levels → Type 0) (q : Levels → ℤ) (b : Option Bound) → ((x : Levels) → P x → Q x) → ((x : Levels) →
    Q x → P x) → ShowsUpper P q b → ShowsUpper Q q b
shows_same P Q q None to from s = λ x p. s x (from x p)
shows_same P Q q (Some b) to from s = upper_end_same P Q q b to from s

pub all_shown : AllShown
all_shown n g f start es i j ok pl hi hj =
    let same = (wrong_or_blamed n g f start es).0 in
    shows_same (Explained n g f start es) (Possible n g f start es) (λ x. difference x i j) (upper_end n g f start es i j)
    (λ x. (same x).1) (λ x. (same x).0) (shown_explained n g f start es ok pl i j hi hj)

pub naming : Naming
naming n g f start es a ok pl =
    let d = blamed_tells n g f start es ok pl a in let same = (wrong_or_blamed n g f start es).1 a in
    (λ e. same.1 (d.0 e), λ p. d.1 (same.0 p))

pub no_history_told : NoHistory
no_history_told n g f start es ok pl =
    let d = none_tells n g f start es ok pl in let same = (wrong_or_blamed n g f start es).0 in
    (λ e x p. d.0 e x ((same x).0 p), λ never. d.1 (λ x p. never x ((same x).1 p)))

-- ---- both ends
-- the datum of possible levels is at 0
pub datum_possible : {n g f : ℕ} {start : Ranges} {es : List Event} {x : Levels} → Possible n g f start es x → x 0 ≡ 0
datum_possible {n} {g} {f} {start} {es} {x} p = go p.trajectory
  where
    go : {fs : List Event} {y : Levels} {before : List Levels} → Trajectory n start fs y before → y 0 ≡ 0
    go (began y w) = let h = w 0 (omega arith) in let d = start.datum in grind (arith, ints)
    go (stepped y v r fs before t m) = m.datum
    go (stayed y r fs before t) = go t

module _ (n g f : ℕ) (start : Ranges) (es : List Event) (ok : Ordered n start) (pl : Placed n es) where
  -- the bounds of i over j and of j over i are the ends of their difference
  pub spans_of : (i j : ℕ) → i ≤ n → j ≤ n → (low high : ℤ) → upper_end n g f start es i j ≡ Some (at_most high) →
      upper_end n g f start es j i ≡ Some (at_most (neg_ℤ low)) →
      Spans (Possible n g f start es) (λ x. difference x i j) low high
  spans_of i j hi hj low high e l =
      let P : Levels → Type 0 = Possible n g f start es in
      let u : Greatest P (λ x. difference x i j) high = subst (ShowsUpper P (λ x. difference x i j)) e
      (all_shown n g f start es i j ok pl hi hj) in
      let v : Greatest P (λ x. difference x j i) (neg_ℤ low) =
      subst (ShowsUpper P (λ x. difference x j i)) l (all_shown n g f start es j i ok pl hj hi) in
      let r = v.reached in
      let at : difference r.0 j i ≡ neg_ℤ low = r.2 in
      let flip = difference_flip r.0 i j in (
        record {
          holds = λ x p. let h : difference x j i ≤ℤ neg_ℤ low = v.holds x p in
              let f = difference_flip x i j in omega (arith, ints);
          reached = (r.0, r.1, omega (arith, ints));
        },
        u,
      )

  pub level_spans : (i : ℕ) → i ≤ n → (low high : ℤ) → upper_end n g f start es i 0 ≡ Some (at_most high) →
      upper_end n g f start es 0 i ≡ Some (at_most (neg_ℤ low)) → Spans (Possible n g f start es) (level i) low high
  level_spans i hi low high e l =
      let s = spans_of i 0 hi (omega arith) low high e l in
      let a = s.0.reached in let b = s.1.reached in (
        record {
          holds = λ x p. rw (sym (difference_datum x i (datum_possible p))) (s.0.holds x p);
          reached =
              (a.0, a.1, sym (difference_datum a.0 i (datum_possible a.1)) ∙ a.2);
        },
        record {
          holds = λ x p. rw (sym (difference_datum x i (datum_possible p))) (s.1.holds x p);
          reached =
              (b.0, b.1, sym (difference_datum b.0 i (datum_possible b.1)) ∙ b.2);
        },
      )
