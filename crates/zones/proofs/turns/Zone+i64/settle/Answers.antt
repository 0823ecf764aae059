use Rattle.std.proofs.Common.{◌≡◌, ◌+◌, ◌*◌, length, set, pos, ap, ◌∙◌, subst, arith, w64, SFits, rules}
use Rattle.std.specs.Int.{int_min}
use Rattle.std.proofs.lemmas.Int.{ints, to_z-of_z}
use Rattle.zones.specs.Numbers.{cell}
use Rattle.zones.proofs.Cells.{place}
use Rattle.zones.proofs.Settling.{Settled, settled_more, settled_empty, settled_all}
use Rattle.zones.proofs.turns.Zone+i64.settle.Goals as goal
use Rattle.zones.proofs.turns.Zone+i64.settle.Goals.{After-at}

long : (c : After-at) → length c.loop-j.self.numbers.now ≡ (c.args.self.now.basins + 1) * (c.args.self.now.basins + 1)
long c = c.loop-j.self.whole ∙ ap (λ m. (m + 1) * (m + 1)) c.loop-j.invariant.lent.0

floored_is : (c : After-at) → c.meet_bound.new.self.numbers.now ≡ set c.loop-j.self.numbers.now
    (place c.args.self.now.basins 0 c.loop-j.j) (int_min (cell c.args.self.now.basins c.loop-j.self.numbers.now 0 c.loop-j.j) (pos 0))
floored_is c = rw c.loop-j.invariant.lent.0 at c.meet_bound.ensures.met

own_is : (c : After-at) → c.at.result ≡ cell c.args.self.now.basins c.meet_bound.new.self.numbers.now c.loop-j.j c.loop-j.j
unfolding cell
own_is c = rw (c.meet_bound.ensures.lent.0 ∙ c.loop-j.invariant.lent.0) at (c.at.ensures (pos 0))

pub loop-j-preserved : goal.loop-j-preserved
loop-j-preserved c =
    let a = (goal.at.loop-j-preserved c).After-at in let l = c.loop-j.invariant.lent in
    let m = c.meet_bound.ensures.lent in let k = c.meet_bound-in-loop-j.ensures.lent in
    let f : SFits w64 c.at.result = search rules in
    let own = simp to_z-of_z at c.if-at-lt0.false in
    record {
      lent = (k.0 ∙ m.0 ∙ l.0, k.1 ∙ m.1 ∙ l.1);
      settled = settled_more c.args.self.now.basins c.loop-j.j _ c.loop-j.self.numbers.now c.meet_bound.new.self.numbers.now
          (omega arith) (long a) (floored_is a) c.loop-j.invariant.settled _ (rw (← own_is a) (omega (arith, ints)))
          (rw (m.0 ∙ l.0) at c.meet_bound-in-loop-j.ensures.met);
    }

pub returns-then-at-lt0-clause-settled : goal.returns-then-at-lt0-clause-settled
returns-then-at-lt0-clause-settled c =
    let a = (goal.at.returns-then-at-lt0-clause-settled c).After-at in
    let f : SFits w64 c.at.result = search rules in
    let own = simp to_z-of_z at c.if-at-lt0.true in
    settled_empty c.args.self.now.basins c.loop-j.j _ c.loop-j.self.numbers.now c.meet_bound.new.self.numbers.now (omega arith)
    (long a) (floored_is a) c.loop-j.invariant.settled (rw (← own_is a) (omega (arith, ints)))

pub returns-clause-settled : goal.returns-clause-settled
returns-clause-settled c =
    let e : c.loop-j.j ≡ c.args.self.now.basins + 1 = omega arith in
    settled_all c.args.self.now.basins _ c.loop-j.self.numbers.now
    (subst (λ j. Settled c.args.self.now.basins j c.args.self.now.numbers.now c.loop-j.self.numbers.now) e c.loop-j.invariant.settled)
