use Rattle.std.proofs.Common.{◌≡◌, ◌+◌, ◌*◌, length, replicate, negsuc, refl, ap, ◌∙◌}
use Rattle.theory.specs.Zone.{Empty}
use Rattle.zones.specs.Loan.{SameLoan}
use Rattle.zones.specs.Numbers.{zone_of, no_levels}
use Rattle.zones.proofs.Closing.{closes_empty, closes_turned}
use Rattle.zones.proofs.Near.{closes_near}
use Rattle.zones.proofs.turns.Zone+i64.close.Goals as goal
use Rattle.zones.proofs.turns.Zone+i64.close.Goals.{then-not-settle-via-then-not-settle}
use Rattle.zones.proofs.turns.Zone+i64.close.Goals.{then-not-settle-via-else-not-settle+then-not-turn_all}

pub returns-then-not-settle : goal.returns-then-not-settle
returns-then-not-settle c =
    let n = c.args.self.now.basins in let xs = c.args.self.now.numbers.now in
    let same : SameLoan c.args.self.now c.then-not-settle.self = elim c.then-not-settle.branch [
      | then-not-settle-via-then-not-settle w ↦ rw w.self-is c.settle.ensures.lent
      | then-not-settle-via-else-not-settle+then-not-turn_all w ↦ rw w.self-is
          (w.turn_all.ensures.lent.0 ∙ c.settle.ensures.lent.0, w.turn_all.ensures.lent.1 ∙ c.settle.ensures.lent.1)
    ] in
    let size : length c.then-not-settle.self.numbers.now ≡ (n + 1) * (n + 1) =
    c.then-not-settle.self.whole ∙ ap (λ m. (m + 1) * (m + 1)) same.0 in
    let filled : c.fill.new.self ≡ no_levels n = c.fill.ensures.after (λ y e. e) ∙ ap (λ m. replicate m (negsuc 0)) size in
    let none_in : Empty n (zone_of n xs) = elim c.then-not-settle.branch [
      | then-not-settle-via-then-not-settle w ↦ w.if-not-settle.ensures.settled.empty refl
      | then-not-settle-via-else-not-settle+then-not-turn_all w ↦ λ x p.
          (rw w.if-not-settle.ensures.lent.0 at w.if-not-turn_all.ensures.far).empty refl x
          ((w.if-not-settle.ensures.settled.levels x).0 p)
    ] in
    let far = closes_empty n xs c.fill.new.self none_in filled in
    record { lent = same; closed = closes_near n xs c.fill.new.self far; far = far }

pub returns-else-not-turn_all : goal.returns-else-not-turn_all
returns-else-not-turn_all c =
    let n = c.args.self.now.basins in let xs = c.args.self.now.numbers.now in
    let e = c.if-not-settle.ensures.lent.0 in
    let far = closes_turned n xs c.settle.new.self.numbers.now c.turn_all.new.self.numbers.now
    c.if-not-settle.ensures.settled (rw e at c.if-not-turn_all.ensures.far) in
    record {
      lent = (c.turn_all.ensures.lent.0 ∙ e, c.turn_all.ensures.lent.1 ∙ c.settle.ensures.lent.1);
      closed = closes_near n xs c.turn_all.new.self.numbers.now far;
      far = far;
    }
